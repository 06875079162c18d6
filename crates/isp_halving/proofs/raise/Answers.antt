use Rattle.std.proofs.Common.{ℕ, ◌+◌, List, sym, refl, ◌∙◌, ap, subst, arith}
use Rattle.isp_cells.specs.LeafPages.{IsLeaf}
use Rattle.isp_format.specs.Inner.{IsInnerPage}
use Rattle.isp_page.specs.State.{FileShape}
use Rattle.isp_halving.proofs.HalvingLaws.{changes_three, may_write, raised_root}
use Rattle.isp_halving.proofs.raise.Goals as goal

pub write_two-requires-clause-can : goal.write_two-requires-clause-can
write_two-requires-clause-can g c = may_write g.P.Pages c.in_ok-to.to.0 c.args.root.0 _ _ c.requires.can c.in_ok-to.ensures.kept.keeps.goes_on.can c.in_ok-to.ensures.changes

pub returns-clause-changes : goal.returns-clause-changes
returns-clause-changes g c = changes_three g.P.Pages c.in_ok-to.to.0 c.args.root.0 _ _ _ _ refl c.in_ok-to.ensures.changes c.in_ok-write_two.ensures.changes.changes

pub returns-clause-leaf : goal.returns-clause-leaf
returns-clause-leaf g c tells table next rows s lowest leaf is out some =
    let root = c.args.root.0 in
    let to = c.in_ok-to.to.0 in
    let w = c.in_ok-write_two.ensures in
    let t = c.in_ok-to.ensures.taken tells s is out some in
    let read : IsLeaf c.take_for.new.into.bytes table root next rows = subst (λ (bytes : List ℕ). IsLeaf bytes table root next rows) (sym t.read) leaf in
    let new = g.P.Pages.contents c.write_two.new.pages in (
      raised_root _ _ _ (g.P.Pages.contents c.args.pages.now) (g.P.Pages.contents c.take_for.new.pages) new table root 0 (c.args.level + 1) s _ to c.raised.result.bytes is out t (ap (λ (shape : FileShape). shape.pages) w.changes.kept.keeps.same_shape) (w.changes.changes.others tells)
          (omega (arith, lowest)) (c.raised.ensures _ _ table root read.page.head) (w.left tells t.differs (t.read ∙ sym t.stays)),
      subst (λ (bytes : List ℕ). IsLeaf bytes table to next rows) (sym (w.right tells t.differs)) (c.moved.ensures.leaf table root next rows read),
    )

pub returns-clause-inner : goal.returns-clause-inner
returns-clause-inner g c tells table names s node is out some =
    let root = c.args.root.0 in
    let to = c.in_ok-to.to.0 in
    let w = c.in_ok-write_two.ensures in
    let t = c.in_ok-to.ensures.taken tells s is out some in
    let read : IsInnerPage c.take_for.new.into.bytes table root c.args.level names = subst (λ (bytes : List ℕ). IsInnerPage bytes table root c.args.level names) (sym t.read) node in
    let new = g.P.Pages.contents c.write_two.new.pages in (
      raised_root _ _ _ (g.P.Pages.contents c.args.pages.now) (g.P.Pages.contents c.take_for.new.pages) new table root c.args.level (c.args.level + 1) s _ to c.raised.result.bytes is out t (ap (λ (shape : FileShape). shape.pages) w.changes.kept.keeps.same_shape) (w.changes.changes.others tells)
          (omega arith) (c.raised.ensures _ _ table root read.head) (w.left tells t.differs (t.read ∙ sym t.stays)),
      subst (λ (bytes : List ℕ). IsInnerPage bytes table to c.args.level names) (sym (w.right tells t.differs)) (c.moved.ensures.inner table root c.args.level names read),
    )
