-- What contracts see of a box: its four numbers. The order of a box's corners is no part of this value (`Boxes.IsBox`).
use Rattle.std.specs.Prelude.{ℤ}

pub record Corners : Type 0 where
  pub x1 : ℤ
  pub y1 : ℤ
  pub x2 : ℤ
  pub y2 : ℤ
