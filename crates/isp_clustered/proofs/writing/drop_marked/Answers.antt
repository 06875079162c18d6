use Rattle.std.proofs.Common.{rules, ℤ, Option, [], ◌∷◌, sym, ◌∙◌, ap, subst, arith}
use Rattle.std.specs.Prelude.{IfSome, not}
use Rattle.std.specs.Int.{w64}
use Rattle.std.proofs.lemmas.Int.{to_z-of_z}
use Rattle.isp_format.specs.Leaf.{Stored}
use Rattle.isp_format.specs.Ranges.{Contents, page_of}
use Rattle.isp_page.specs.State.{FileShape, is_among}
use Rattle.isp_page.specs.Touched.{KeepsPages}
use Rattle.isp_space.proofs.ChangesLaws.{behind_read}
use Rattle.isp_cells.specs.LeafPages.{IsLeaf}
use Rattle.isp_cells.specs.Rows.{can_drop, is_marked, without}
use Rattle.isp_levels.specs.Levels.{first_page}
use Rattle.isp_clustered.specs.Found.{IsFoundLeaf}
use Rattle.isp_clustered.proofs.ChangeLaws.{edited, edited_page, not_false}
use Rattle.isp_clustered.proofs.TreeLaws.{found_row, drops_at}
use Rattle.isp_clustered.proofs.writing.drop_marked.Goals as goal

pub returns-clause-changes : goal.returns-clause-changes
returns-clause-changes g c =
    let u = c.in_ok-leaf.ensures.reads in
    let w = c.in_ok-exchange.ensures.changes in
    record {
      kept = search rules;
      changes = behind_read g.P.Pages _ 1 _ _ _ u.contents u.mini (omega arith) w.changes;
      says = u.says;
      names = tt;
    }

pub returns-clause-dropped : goal.returns-clause-dropped
returns-clause-dropped g c tells table tree is =
    let old = g.P.Pages.contents c.args.pages.now in
    let new = g.P.Pages.contents c.exchange.new.pages in
    let u = c.in_ok-leaf.ensures in
    let w = c.in_ok-exchange.ensures in
    let page = c.in_ok-leaf.leaf.page.0 in
    let key = to_z-of_z w64 c.args.key c.ranges.key in
    let f : IsFoundLeaf c.find_leaf.new.into.bytes page c.in_ok-leaf.leaf.used table c.args.key tree = subst (λ (k : ℤ). IsFoundLeaf c.find_leaf.new.into.bytes page c.in_ok-leaf.leaf.used table k tree) key (c.in_ok-leaf.ensures.leaf tells table tree is) in
    let rows = f.leaf.rows in
    let next = first_page f.at.after in
    let put = subst (λ (k : ℤ). IfSome c.drop_in-edited.result (λ new. IsLeaf new.bytes table page next (without k rows))) key (c.drop_in-edited.ensures.page table page next rows f.stands f.used_is) in
    let read = u.bytes tells ∙ sym (ap (λ (contents : Contents). page_of contents page) (u.reads.contents tells)) in
    let there : IsLeaf (page_of new page) table page next (without c.args.key rows) = edited_page c.drop_in-edited.result (page_of new page) table page next (without c.args.key rows) w.only put (w.put tells read) in
    let keeps = subst (λ (c : Contents). KeepsPages (λ other. is_among other (page ∷ [])) c new) (u.reads.contents tells) (w.changes.changes.others tells) in
    let pages = λ (shape : FileShape). shape.pages in
    edited _ _ old new table c.args.root.0 tree c.args.key (without c.args.key) _ page _ is (ap pages w.changes.kept.keeps.same_shape ∙ ap pages u.reads.kept.keeps.same_shape) f (drops_at c.args.key) there keeps

pub returns-clause-only : goal.returns-clause-only
returns-clause-only g c tells table tree is =
    let u = c.in_ok-leaf.ensures in
    let page = c.in_ok-leaf.leaf.page.0 in
    let key = to_z-of_z w64 c.args.key c.ranges.key in
    let f : IsFoundLeaf c.find_leaf.new.into.bytes page c.in_ok-leaf.leaf.used table c.args.key tree = subst (λ (k : ℤ). IsFoundLeaf c.find_leaf.new.into.bytes page c.in_ok-leaf.leaf.used table k tree) key (c.in_ok-leaf.ensures.leaf tells table tree is) in
    let rows = f.leaf.rows in
    let some = c.drop_in-edited.ensures.some table page (first_page f.at.after) rows f.stands f.used_is ∙ ap (λ (k : ℤ). not (can_drop k rows)) key in
    ap (λ (o : Option Stored). is_marked o) (found_row _ _ table _ tree _ _ _ _ is f) ∙ not_false _ (sym some ∙ c.in_ok-exchange.ensures.only)

pub returns-in_err-leaf-clause-sound : goal.returns-in_err-leaf-clause-sound
returns-in_err-leaf-clause-sound g c tells table tree is there =
    let sound = c.in_err-leaf.ensures.sound tells table tree is in
    search (rules, sound, c.from_residual.ensures)

pub returns-in_err-exchange-clause-sound : goal.returns-in_err-exchange-clause-sound
returns-in_err-exchange-clause-sound g c tells table tree is there =
    let u = c.in_ok-leaf.ensures in
    let page = c.in_ok-leaf.leaf.page.0 in
    let key = to_z-of_z w64 c.args.key c.ranges.key in
    let f : IsFoundLeaf c.find_leaf.new.into.bytes page c.in_ok-leaf.leaf.used table c.args.key tree = subst (λ (k : ℤ). IsFoundLeaf c.find_leaf.new.into.bytes page c.in_ok-leaf.leaf.used table k tree) key (c.in_ok-leaf.ensures.leaf tells table tree is) in
    let rows = f.leaf.rows in
    let has = ap (λ (o : Option Stored). is_marked o) (sym (found_row _ _ table _ tree _ _ _ _ is f)) ∙ there in
    let some = c.drop_in-edited.ensures.some table page (first_page f.at.after) rows f.stands f.used_is ∙ ap (λ (k : ℤ). not (can_drop k rows)) key ∙ ap not has in
    let sound = c.in_err-exchange.ensures.sound some in
    search (rules, sound, c.from_residual-in_err-exchange.ensures)
