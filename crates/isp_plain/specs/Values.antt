-- The box of a geometry, as the MySQL 8.0 manual has minimum bounding rectangles, and the key of a row.
use Rattle.std.specs.Prelude.{ℤ, pos, List, ◌∷◌}
use Rattle.std.specs.Option.{unwrap_or}
use Rattle.isp_mbr.specs.Corners.{Corners}
use Rattle.isp_geom.specs.Bounds.{box_round, points_of}
use Rattle.isp_geom.specs.declared.form.Form.{Form}
use Rattle.isp_plain.specs.declared.value.Row.{Row}
use Rattle.isp_plain.specs.declared.value.Value.{Value}
use Rattle.isp_plain.specs.declared.value.Value.TheVariants.{Int}

-- what a form without points has in place of a box; no geometry is one
abbrev pub no_box : Corners
no_box = record { x1 = pos 0; y1 = pos 0; x2 = pos 0; y2 = pos 0 }

-- the least box round all points of a geometry
abbrev pub box_of : Form → Corners
box_of form = unwrap_or (box_round (points_of form)) no_box

-- the number that stands first
abbrev pub first_number : List Value → ℤ
first_number (Int key ∷ others) = key
first_number _ = pos 0

abbrev pub key_of : Row → ℤ
key_of row = first_number row.values
