use Rattle.std.proofs.Common.{◌≡◌, ◌≤◌, ◌+◌, List, length, rules, sym, subst, arith}
use Rattle.isp_page.specs.State.{most_changed}
use Rattle.isp_mini.specs.Extents.{AreExtents, with_extent}
use Rattle.isp_mini.specs.declared.changes.Extent.{Extent}
use Rattle.isp_mini.proofs.ExtentLaws.{extents_with}
use Rattle.isp_mini.proofs.changes.Changes.note.Goals as goal

pub invariant_of-self : goal.invariant_of-self
invariant_of-self c =
    let old : List Extent = c.self.inside.extents.items in
    let noted : c.add.new.extents.items ≡ with_extent c.args.page c.args.at (c.args.at + c.args.len) old = search rules in
    let few : length (with_extent c.args.page c.args.at (c.args.at + c.args.len) old) ≤ most_changed = subst (λ (extents : List Extent). length (with_extent c.args.page c.args.at (c.args.at + c.args.len) extents) ≤ most_changed) (sym c.self.view_is) c.requires.few in
    let kept = extents_with c.args.page c.args.at (c.args.at + c.args.len) old (omega arith) (omega arith) few c.self.invariant.0 in
    (subst AreExtents (sym noted) kept, omega arith)
