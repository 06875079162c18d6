use Rattle.std.proofs.Common.{ℕ, List, sym, ◌∙◌, ap, subst}
use Rattle.std.proofs.lemmas.Result.{err_from_is_err_and}
use Rattle.isp_format.specs.Inner.{IsInnerPage}
use Rattle.isp_growth.specs.Entries.{with_name}
use Rattle.isp_page.specs.State.{FileShape}
use Rattle.isp_page.specs.Steps.{IsNoDamage}
use Rattle.isp_halving.proofs.HalvingLaws.{changes_three, err_is, halved_inner, may_write}
use Rattle.isp_halving.proofs.divide_inner.Goals as goal

pub write_parts-requires-clause-can : goal.write_parts-requires-clause-can
write_parts-requires-clause-can g c = may_write g.P.Pages c.in_ok-right.right.0 c.args.page.0 _ _ c.requires.can c.in_ok-right.ensures.kept.keeps.goes_on.can c.in_ok-right.ensures.changes

pub returns-in_err-entry-clause-sound : goal.returns-in_err-entry-clause-sound
returns-in_err-entry-clause-sound g c tells table names s node full is out some =
    let page = c.args.page.0 in
    let t = c.in_ok-right.ensures.taken tells s is out some in
    let read : IsInnerPage c.take_for.new.into.bytes table page c.args.level names = subst (λ (bytes : List ℕ). IsInnerPage bytes table page c.args.level names) (sym t.read) node in
    let sound = c.in_err-entry.ensures.sound (c.node_parts-parts.ensures.some table names read full) in
    let p = err_from_is_err_and c.from_residual-in_err-entry.result c.from_residual-in_err-entry.ensures.1 in
    err_is IsNoDamage c.from_residual-in_err-entry.result p.0 _ p.1 p.2 sound

pub returns-clause-changes : goal.returns-clause-changes
returns-clause-changes g c = changes_three g.P.Pages c.in_ok-right.right.0 c.args.page.0 _ _ _ _ c.in_ok-entry.ensures.page c.in_ok-right.ensures.changes c.in_ok-entry.ensures.changes

pub returns-clause-halves : goal.returns-clause-halves
returns-clause-halves g c tells table names s node full is out some =
    let page = c.args.page.0 in
    let right = c.in_ok-right.right.0 in
    let e = c.in_ok-entry.ensures in
    let t = c.in_ok-right.ensures.taken tells s is out some in
    let read : IsInnerPage c.take_for.new.into.bytes table page c.args.level names = subst (λ (bytes : List ℕ). IsInnerPage bytes table page c.args.level names) (sym t.read) node in
    halved_inner _ _ _ (g.P.Pages.contents c.args.pages.now) (g.P.Pages.contents c.take_for.new.pages) (g.P.Pages.contents c.write_parts.new.pages) table page c.args.level (with_name (c.args.new.key, c.args.new.page.0) names) s _ right c.node_parts-parts.result c.in_ok-entry.entry is out t (ap (λ (shape : FileShape). shape.pages) e.kept.keeps.same_shape) (e.changes.others tells) e.page
    (c.node_parts-parts.ensures.some table names read full) (c.node_parts-parts.ensures.parts table names read full) (e.parts tells t.differs (t.read ∙ sym t.stays))
