use Rattle.std.proofs.Common.{rules, ℕ, ℤ, List, sym, ◌∙◌, ap, subst}
use Rattle.std.specs.Int.{w64}
use Rattle.std.proofs.lemmas.Int.{to_z-of_z}
use Rattle.isp_format.specs.Ranges.{Contents, page_of}
use Rattle.isp_cells.specs.LeafPages.{IsLeaf}
use Rattle.isp_levels.specs.Inners.{page_in_leaf}
use Rattle.isp_levels.specs.Levels.{first_page, pick_leaf}
use Rattle.isp_clustered.proofs.TreeLaws.{leaf_on}
use Rattle.isp_clustered.proofs.reading.find_leaf.Goals as goal

pub returns-clause-leaf : goal.returns-clause-leaf
returns-clause-leaf g c tells table tree is =
    let d = c.in_ok-page.ensures in
    let u = c.in_ok-used.ensures in
    let page = c.in_ok-page.page.0 in
    let key = to_z-of_z w64 c.args.key c.ranges.key in
    let picked = ap (λ (k : ℤ). page_in_leaf (pick_leaf k tree.leaves)) (sym key) ∙ d.leaf tells table is.levels tree.leaves is.levelled in
    let at = leaf_on _ (g.P.Pages.contents c.args.pages.now) table c.args.root.0 tree c.args.key page is picked in
    let read = u.page tells ∙ ap (λ (contents : Contents). page_of contents page) (d.down.contents tells) in
    let stands : IsLeaf c.read_leaf.new.into.bytes table page (first_page at.at.after) at.leaf.rows = subst (λ (bytes : List ℕ). IsLeaf bytes table page (first_page at.at.after) at.leaf.rows) (sym read) at.stands in
    record {
      leaf = at.leaf;
      picked = at.picked;
      at = at.at;
      page_is = at.page_is;
      stands = stands;
      used_is = u.stand table (first_page at.at.after) at.leaf.rows stands.page;
    }

pub returns-in_err-page-clause-sound : goal.returns-in_err-page-clause-sound
returns-in_err-page-clause-sound g c tells table tree is =
    let sound = c.in_err-page.ensures.sound tells table is.levels tree.leaves is.levelled in
    search (rules, sound, c.from_residual.ensures)

pub returns-in_err-used-clause-sound : goal.returns-in_err-used-clause-sound
returns-in_err-used-clause-sound g c tells table tree is =
    let d = c.in_ok-page.ensures in
    let page = c.in_ok-page.page.0 in
    let key = to_z-of_z w64 c.args.key c.ranges.key in
    let picked = ap (λ (k : ℤ). page_in_leaf (pick_leaf k tree.leaves)) (sym key) ∙ d.leaf tells table is.levels tree.leaves is.levelled in
    let at = leaf_on _ (g.P.Pages.contents c.args.pages.now) table c.args.root.0 tree c.args.key page is picked in
    let stands : IsLeaf (page_of (g.P.Pages.contents c.leaf_for.new.pages) page) table page (first_page at.at.after) at.leaf.rows = subst (λ (now : Contents). IsLeaf (page_of now page) table page (first_page at.at.after) at.leaf.rows) (sym (d.down.contents tells)) at.stands in
    let sound = c.in_err-used.ensures.sound tells table (first_page at.at.after) at.leaf.rows stands.page in
    search (rules, sound, c.from_residual-in_err-used.ensures)
