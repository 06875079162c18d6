use Rattle.std.proofs.Common.{rules, ℕ, Option, sym, ◌∙◌, ap, subst}
use Rattle.isp_base.specs.declared.page_no.PageNo.{PageNo}
use Rattle.isp_format.specs.Leaf.{IsLeafPage}
use Rattle.isp_format.specs.Ranges.{Contents, page_of}
use Rattle.isp_levels.specs.Inners.{number_of}
use Rattle.isp_clustered.specs.Trees.{leaf_after}
use Rattle.isp_clustered.proofs.WholeLaws.{first_is, least_is, right_is}
use Rattle.isp_clustered.proofs.leaves.next_leaf.Goals as goal

pub returns-in_err-right-in-Some-clause-sound : goal.returns-in_err-right-in-Some-clause-sound
returns-in_err-right-in-Some-clause-sound g c tells table tree leaf is some =
    let at = sym (ap (λ (o : Option PageNo). leaf_after tree (number_of o)) c.in-Some.is) ∙ some in
    let r = right_is _ (g.P.Pages.contents c.args.pages.now) table c.args.root.0 tree c.in-Some.page.0 leaf is at in
    let sound = c.in_err-right-in-Some.ensures.sound tells table leaf.page r.rows r.stands r.from r.inside in
    search (rules, sound, c.from_residual.ensures)

pub returns-in_err-leaf-in-Some-clause-sound : goal.returns-in_err-leaf-in-Some-clause-sound
returns-in_err-leaf-in-Some-clause-sound g c tells table tree leaf is some =
    let at = sym (ap (λ (o : Option PageNo). leaf_after tree (number_of o)) c.in-Some.is) ∙ some in
    let r = right_is _ (g.P.Pages.contents c.args.pages.now) table c.args.root.0 tree c.in-Some.page.0 leaf is at in
    let u = c.in_ok-right-in-Some.ensures in
    let page = u.right tells table leaf.page r.rows r.stands r.from in
    let right = c.in_ok-right-in-Some.right.0 in
    let here : IsLeafPage (page_of (g.P.Pages.contents c.args.pages.now) right) table right r.next leaf.rows = subst (λ (p : ℕ). IsLeafPage (page_of (g.P.Pages.contents c.args.pages.now) p) table p r.next leaf.rows) (sym page) r.right in
    let stands : IsLeafPage (page_of (g.P.Pages.contents c.right_of.new.pages) right) table right r.next leaf.rows = subst (λ (now : Contents). IsLeafPage (page_of now right) table right r.next leaf.rows) (sym (u.reads.contents tells)) here in
    let sound = c.in_err-leaf-in-Some.ensures.sound tells table r.next leaf.rows stands in
    search (rules, sound, c.from_residual-in_err-leaf-in-Some.ensures)

pub returns-in_ok-leaf-in-Some-clause-leaf : goal.returns-in_ok-leaf-in-Some-clause-leaf
returns-in_ok-leaf-in-Some-clause-leaf g c tells table tree leaf is some =
    let at = sym (ap (λ (o : Option PageNo). leaf_after tree (number_of o)) c.in-Some.is) ∙ some in
    let r = right_is _ (g.P.Pages.contents c.args.pages.now) table c.args.root.0 tree c.in-Some.page.0 leaf is at in
    let u = c.in_ok-right-in-Some.ensures in
    let w = c.in_ok-leaf-in-Some.ensures in
    let page = u.right tells table leaf.page r.rows r.stands r.from in
    let right = c.in_ok-right-in-Some.right.0 in
    let here : IsLeafPage (page_of (g.P.Pages.contents c.args.pages.now) right) table right r.next leaf.rows = subst (λ (p : ℕ). IsLeafPage (page_of (g.P.Pages.contents c.args.pages.now) p) table p r.next leaf.rows) (sym page) r.right in
    let stands : IsLeafPage (page_of (g.P.Pages.contents c.right_of.new.pages) right) table right r.next leaf.rows = subst (λ (now : Contents). IsLeafPage (page_of now right) table right r.next leaf.rows) (sym (u.reads.contents tells)) here in
    r.answers _ (ap (λ (p : PageNo). p.0) w.page ∙ page) (w.leaf tells table r.next leaf.rows stands)

pub returns-in_err-leaf-in-None-clause-sound : goal.returns-in_err-leaf-in-None-clause-sound
returns-in_err-leaf-in-None-clause-sound g c tells table tree leaf is first =
    let none = sym (ap (λ (o : Option PageNo). leaf_after tree (number_of o)) c.in-None.is) ∙ first in
    let d = c.in_ok-first-in-None.ensures in
    let page = c.in_ok-first-in-None.first.0 in
    let f = first_is _ (g.P.Pages.contents c.args.pages.now) table c.args.root.0 tree _ page leaf is least_is (d.leaf tells table is.levels tree.leaves is.levelled) none in
    let stands : IsLeafPage (page_of (g.P.Pages.contents c.leaf_for.new.pages) page) table page f.next leaf.rows = subst (λ (now : Contents). IsLeafPage (page_of now page) table page f.next leaf.rows) (sym (d.down.contents tells)) f.stands in
    let sound = c.in_err-leaf-in-None.ensures.sound tells table f.next leaf.rows stands in
    search (rules, sound, c.from_residual-in_err-leaf-in-None.ensures)

pub returns-in_ok-leaf-in-None-clause-leaf : goal.returns-in_ok-leaf-in-None-clause-leaf
returns-in_ok-leaf-in-None-clause-leaf g c tells table tree leaf is first =
    let none = sym (ap (λ (o : Option PageNo). leaf_after tree (number_of o)) c.in-None.is) ∙ first in
    let d = c.in_ok-first-in-None.ensures in
    let w = c.in_ok-leaf-in-None.ensures in
    let page = c.in_ok-first-in-None.first.0 in
    let f = first_is _ (g.P.Pages.contents c.args.pages.now) table c.args.root.0 tree _ page leaf is least_is (d.leaf tells table is.levels tree.leaves is.levelled) none in
    let stands : IsLeafPage (page_of (g.P.Pages.contents c.leaf_for.new.pages) page) table page f.next leaf.rows = subst (λ (now : Contents). IsLeafPage (page_of now page) table page f.next leaf.rows) (sym (d.down.contents tells)) f.stands in
    f.answers _ (ap (λ (p : PageNo). p.0) w.page) (w.leaf tells table f.next leaf.rows stands)
