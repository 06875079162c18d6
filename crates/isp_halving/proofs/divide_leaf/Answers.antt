use Rattle.std.proofs.Common.{ℕ, ℤ, List, sym, ◌∙◌, ap, subst}
use Rattle.std.specs.Prelude.{IfSome}
use Rattle.std.specs.Int.{w64}
use Rattle.std.proofs.lemmas.Int.{to_z-of_z}
use Rattle.std.proofs.lemmas.Result.{err_from_is_err_and}
use Rattle.isp_cells.specs.LeafPages.{IsLeaf}
use Rattle.isp_cells.specs.Rows.{with_put}
use Rattle.isp_division.specs.Halves.{AreHalves}
use Rattle.isp_levels.specs.Dividing.{is_divided}
use Rattle.isp_page.specs.State.{FileShape}
use Rattle.isp_page.specs.Steps.{IsNoDamage}
use Rattle.isp_halving.proofs.HalvingLaws.{changes_three, err_is, halved_leaf, may_write}
use Rattle.isp_halving.proofs.divide_leaf.Goals as goal

pub write_parts-requires-clause-can : goal.write_parts-requires-clause-can
write_parts-requires-clause-can g c = may_write g.P.Pages c.in_ok-right.right.0 c.args.page.0 _ _ c.requires.can c.in_ok-right.ensures.kept.keeps.goes_on.can c.in_ok-right.ensures.changes

pub returns-in_err-entry-clause-sound : goal.returns-in_err-entry-clause-sound
returns-in_err-entry-clause-sound g c tells table next rows s leaf large is out some =
    let page = c.args.page.0 in
    let row = c.args.row.now in
    let key = to_z-of_z w64 c.args.key c.ranges.key in
    let t = c.in_ok-right.ensures.taken tells s is out some in
    let read : IsLeaf c.take_for.new.into.bytes table page next rows = subst (λ (bytes : List ℕ). IsLeaf bytes table page next rows) (sym t.read) leaf in
    let sound = c.in_err-entry.ensures.sound (c.leaf_parts-parts.ensures.some table next rows read (ap (λ (k : ℤ). is_divided (with_put k row rows)) key ∙ large)) in
    let p = err_from_is_err_and c.from_residual-in_err-entry.result c.from_residual-in_err-entry.ensures.1 in
    err_is IsNoDamage c.from_residual-in_err-entry.result p.0 _ p.1 p.2 sound

pub returns-clause-changes : goal.returns-clause-changes
returns-clause-changes g c = changes_three g.P.Pages c.in_ok-right.right.0 c.args.page.0 _ _ _ _ c.in_ok-entry.ensures.page c.in_ok-right.ensures.changes c.in_ok-entry.ensures.changes

pub returns-clause-halves : goal.returns-clause-halves
returns-clause-halves g c tells table next rows s leaf large is out some =
    let page = c.args.page.0 in
    let row = c.args.row.now in
    let right = c.in_ok-right.right.0 in
    let key = to_z-of_z w64 c.args.key c.ranges.key in
    let e = c.in_ok-entry.ensures in
    let t = c.in_ok-right.ensures.taken tells s is out some in
    let read : IsLeaf c.take_for.new.into.bytes table page next rows = subst (λ (bytes : List ℕ). IsLeaf bytes table page next rows) (sym t.read) leaf in
    let much = ap (λ (k : ℤ). is_divided (with_put k row rows)) key ∙ large in
    let parts = subst (λ (k : ℤ). IfSome c.leaf_parts-parts.result (λ h. AreHalves h table page right next (with_put k row rows))) key (c.leaf_parts-parts.ensures.parts table next rows read much) in
    halved_leaf _ _ _ (g.P.Pages.contents c.args.pages.now) (g.P.Pages.contents c.take_for.new.pages) (g.P.Pages.contents c.write_parts.new.pages) table page next (with_put c.args.key row rows) s _ right c.leaf_parts-parts.result c.in_ok-entry.entry is out t (ap (λ (shape : FileShape). shape.pages) e.kept.keeps.same_shape) (e.changes.others tells) e.page
    (c.leaf_parts-parts.ensures.some table next rows read much) parts (e.parts tells t.differs (t.read ∙ sym t.stays))
