-- Each corner is the lesser or the greater of the two that were passed.
use Rattle.std.proofs.Common.{◌≡◌, rules}
use Rattle.std.specs.Prelude.{FitsSigned}
use Rattle.std.specs.Int.{w32, cast_signed, cast_unsigned, int_min, int_max}
use Rattle.isp_mbr.proofs.SignedReads.{lesser_read, greater_read}
use Rattle.isp_mbr.proofs.BoxLaws.{IsBox-union, union_is, corners}
use Rattle.isp_mbr.proofs.boxes.union.Goals as goal

record Read (c : goal.After-greater-2) : Type 0 where
  x1 : cast_signed w32 (cast_unsigned w32 c.lesser.result) ≡ int_min c.a.inside.x1 c.b.inside.x1
  y1 : cast_signed w32 (cast_unsigned w32 c.lesser-2.result) ≡ int_min c.a.inside.y1 c.b.inside.y1
  x2 : cast_signed w32 (cast_unsigned w32 c.greater.result) ≡ int_max c.a.inside.x2 c.b.inside.x2
  y2 : cast_signed w32 (cast_unsigned w32 c.greater-2.result) ≡ int_max c.a.inside.y2 c.b.inside.y2

read : (c : goal.After-greater-2) → Read c
read c =
    let x1 : FitsSigned w32 c.lesser.result = search rules in
    let y1 : FitsSigned w32 c.lesser-2.result = search rules in
    let x2 : FitsSigned w32 c.greater.result = search rules in
    let y2 : FitsSigned w32 c.greater-2.result = search rules in
    let ax1 : FitsSigned w32 c.a.inside.x1 = search rules in
    let ax2 : FitsSigned w32 c.a.inside.x2 = search rules in
    let ay1 : FitsSigned w32 c.a.inside.y1 = search rules in
    let ay2 : FitsSigned w32 c.a.inside.y2 = search rules in
    let bx1 : FitsSigned w32 c.b.inside.x1 = search rules in
    let bx2 : FitsSigned w32 c.b.inside.x2 = search rules in
    let by1 : FitsSigned w32 c.b.inside.y1 = search rules in
    let by2 : FitsSigned w32 c.b.inside.y2 = search rules in
    record {
      x1 = lesser_read _ _ _ x1 ax1 bx1 c.lesser.ensures;
      y1 = lesser_read _ _ _ y1 ay1 by1 c.lesser-2.ensures;
      x2 = greater_read _ _ _ x2 ax2 bx2 c.greater.ensures;
      y2 = greater_read _ _ _ y2 ay2 by2 c.greater-2.ensures;
    }

pub invariant_of-result : goal.invariant_of-result
invariant_of-result c =
    let r : Read c = read c in
    let a = c.a.inside in
    let b = c.b.inside in
    rw (r.x1, r.y1, r.x2, r.y2) (IsBox-union (corners a.x1 a.y1 a.x2 a.y2) (corners b.x1 b.y1 b.x2 b.y2) c.a.invariant)

pub returns : goal.returns
returns c =
    let r : Read c = read c in
    let a = c.a.inside in
    let b = c.b.inside in
    rw (← c.a.view_is, ← c.b.view_is) (union_is (corners a.x1 a.y1 a.x2 a.y2) (corners b.x1 b.y1 b.x2 b.y2) _ _ _ _ r.x1 r.y1 r.x2 r.y2)
