use Rattle.std.proofs.Common.{rules, ℕ, ◌≡◌, List, sym, ◌∙◌, ap, subst}
use Rattle.isp_format.specs.Header.{header_of}
use Rattle.isp_format.specs.Ranges.{page_of}
use Rattle.isp_forest.specs.Tree.{Node, counter}
use Rattle.isp_laws.proofs.ForestLaws.{counter_is}
use Rattle.isp_rnode.specs.Nodes.{node_of}
use Rattle.isp_rtree.specs.Trees.{IsSeen}
use Rattle.isp_rtree.proofs.TreeLaws.{ssn_is, top_of}
use Rattle.isp_rtree.proofs.visiting.visit.Goals as goal

pub returns-clause-read : goal.returns-clause-read
returns-clause-read g c tells =
    let r = c.in_ok-counter.ensures in
    let ssn = (header_of (page_of (g.P.Pages.contents c.args.pages.now) c.args.root.0)).ssn in
    subst (λ (bytes : List ℕ). IsSeen (node_of bytes) ssn c.in_ok-seen.seen) (r.page tells) (subst (λ (k : ℕ). IsSeen (node_of c.read_page.new.into.bytes) k c.in_ok-seen.seen) (r.counter tells) c.in_ok-seen.ensures)

pub returns-clause-seen : goal.returns-clause-seen
returns-clause-seen g c tells owner tree node at there =
    let old = g.P.Pages.contents c.args.pages.now in
    let shape = g.P.Pages.shape c.args.pages.now in
    let read = returns-clause-read g c tells in
    let means = (at.is.nodes c.args.page.0 node there).means in
    let top = (at.is.nodes c.args.root.0 at.is.forest.top (top_of old shape owner c.args.root.0 tree at)).means in
    let ssn : (header_of (page_of old c.args.root.0)).ssn ≡ counter tree = sym (ssn_is (page_of old c.args.root.0)) ∙ ap (λ (n : Node). n.ssn) top ∙ sym (counter_is tree at.is.forest) in
    subst (λ (n : Node). IsSeen n (counter tree) c.in_ok-seen.seen) means (subst (λ (k : ℕ). IsSeen (node_of (page_of old c.args.page.0)) k c.in_ok-seen.seen) ssn read)

pub returns-clause-only : goal.returns-clause-only
returns-clause-only g c tells = c.in_ok-counter.ensures.only tells

pub returns-in_err-counter-clause-sound : goal.returns-in_err-counter-clause-sound
returns-in_err-counter-clause-sound g c tells owner tree node at there =
    let sound = c.in_err-counter.ensures.sound tells owner tree node at there in
    search (rules, sound, c.from_residual.ensures)
