use Rattle.std.proofs.Common.{rules, ℕ, List, sym, ◌∙◌, ap, subst}
use Rattle.isp_format.specs.Header.{header_of}
use Rattle.isp_format.specs.Ranges.{Contents, page_of}
use Rattle.isp_page.specs.State.{FileShape}
use Rattle.isp_rtree.specs.Trees.{IsPageOf, IsRootOf}
use Rattle.isp_rtree.proofs.TreeLaws.{at_root, page_of_tree}
use Rattle.isp_rtree.proofs.visiting.read_page.Goals as goal

pub returns-clause-counter : goal.returns-clause-counter
returns-clause-counter g c tells = c.counter_of-counter.ensures ∙ ap (λ (bytes : List ℕ). (header_of bytes).ssn) (c.in_ok-owner.ensures.page tells)

pub returns-clause-page : goal.returns-clause-page
returns-clause-page g c tells = c.in_ok-read_node.ensures.page tells ∙ ap (λ (x : Contents). page_of x c.args.page.0) (c.in_ok-owner.ensures.reads.contents tells)

pub returns-clause-only : goal.returns-clause-only
returns-clause-only g c tells =
    let r = c.in_ok-owner.ensures in
    let n = c.in_ok-read_node.ensures in
    let shape = g.P.Pages.shape c.args.pages.now in
    let owner = c.in_ok-owner.owner in
    let page = n.page tells ∙ ap (λ (x : Contents). page_of x c.args.page.0) (r.reads.contents tells) in
    let read : IsPageOf shape.pages owner c.args.page.0 c.read_node.new.into.bytes = subst (λ (s : FileShape). IsPageOf s.pages owner c.args.page.0 c.read_node.new.into.bytes) r.reads.kept.keeps.same_shape n.is in
    (owner, subst (λ (bytes : List ℕ). IsRootOf shape.pages owner c.args.root.0 bytes) (r.page tells) r.is, subst (λ (bytes : List ℕ). IsPageOf shape.pages owner c.args.page.0 bytes) page read)

pub returns-in_err-owner-clause-sound : goal.returns-in_err-owner-clause-sound
returns-in_err-owner-clause-sound g c tells owner tree node at there =
    let sound = c.in_err-owner.ensures.holds tells owner tree at in
    search (rules, sound, c.from_residual.ensures)

pub returns-in_err-read_node-clause-sound : goal.returns-in_err-read_node-clause-sound
returns-in_err-read_node-clause-sound g c tells owner tree node at there =
    let r = c.in_ok-owner.ensures in
    let q = c.args.page.0 in
    let told = c.in_ok-owner.owner in
    let old = g.P.Pages.contents c.args.pages.now in
    let mid = g.P.Pages.contents c.read_root.new.pages in
    let shape = g.P.Pages.shape c.args.pages.now in
    let root = at_root old shape owner told c.args.root.0 shape.pages tree c.read_root.new.into.bytes at (r.page tells) r.is in
    let stands : IsPageOf shape.pages told q (page_of old q) = page_of_tree old shape told tree root.is q node there in
    let page : IsPageOf (g.P.Pages.shape c.read_root.new.pages).pages told q (page_of mid q) = subst (λ (s : FileShape). IsPageOf s.pages told q (page_of mid q)) (sym r.reads.kept.keeps.same_shape) (subst (λ (x : Contents). IsPageOf shape.pages told q (page_of x q)) (sym (r.reads.contents tells)) stands) in
    let sound = c.in_err-read_node.ensures.sound tells page in
    search (rules, sound, c.from_residual-in_err-read_node.ensures)
