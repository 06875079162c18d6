-- The second axis decides, where the first one held.
use Rattle.std.proofs.Common.{sym, ◌∙◌, rules}
use Rattle.std.specs.Prelude.{FitsSigned}
use Rattle.std.specs.Int.{w32}
use Rattle.isp_mbr.specs.Boxes.{same_span}
use Rattle.isp_mbr.proofs.SignedReads.{axis_read, both_axes}
use Rattle.isp_mbr.proofs.holding.is_same.Goals as goal

pub returns-then-is_same_span : goal.returns-then-is_same_span
returns-then-is_same_span c =
    let a = c.a.inside in
    let b = c.b.inside in
    let ax1 : FitsSigned w32 c.a.inside.x1 = search rules in
    let ax2 : FitsSigned w32 c.a.inside.x2 = search rules in
    let ay1 : FitsSigned w32 c.a.inside.y1 = search rules in
    let ay2 : FitsSigned w32 c.a.inside.y2 = search rules in
    let bx1 : FitsSigned w32 c.b.inside.x1 = search rules in
    let bx2 : FitsSigned w32 c.b.inside.x2 = search rules in
    let by1 : FitsSigned w32 c.b.inside.y1 = search rules in
    let by2 : FitsSigned w32 c.b.inside.y2 = search rules in
    let first = sym (axis_read same_span a.x1 a.x2 b.x1 b.x2 ax1 ax2 bx1 bx2) ∙ sym c.is_same_span.ensures ∙ c.if-is_same_span.true in
    let second = c.is_same_span-then-is_same_span.ensures ∙ axis_read same_span a.y1 a.y2 b.y1 b.y2 ay1 ay2 by1 by2 in
    rw (← c.a.view_is, ← c.b.view_is) (both_axes _ _ _ first second)
