use Rattle.std.proofs.Common.{rules, ℕ, ℤ, List, [], ◌∷◌, length, sym, ◌∙◌, ap, subst, arith}
use Rattle.std.specs.Int.{w64}
use Rattle.std.proofs.lemmas.Int.{to_z-of_z}
use Rattle.std.proofs.lemmas.Result.{err_from_is_err_and}
use Rattle.isp_format.specs.Ranges.{Contents, page_of}
use Rattle.isp_page.specs.State.{FileShape, is_among}
use Rattle.isp_page.specs.Steps.{IsNoDamage}
use Rattle.isp_page.specs.Touched.{KeepsPages}
use Rattle.isp_space.proofs.ChangesLaws.{behind_read}
use Rattle.isp_space.proofs.SpaceLaws.{space_behind}
use Rattle.isp_cells.specs.LeafPages.{IsLeaf}
use Rattle.isp_cells.specs.Rows.{is_fitting, with_put}
use Rattle.isp_cells.proofs.CellLaws.{none_not}
use Rattle.isp_levels.specs.Dividing.{is_divided}
use Rattle.isp_levels.specs.Levels.{first_page, pick_leaf}
use Rattle.isp_clustered.specs.Found.{IsFoundLeaf}
use Rattle.isp_clustered.specs.Puts.{CanPut, IsApart, IsPut}
use Rattle.isp_growing.proofs.MiniLaws.{change_behind, changed_behind, err_is}
use Rattle.isp_clustered.proofs.ChangeLaws.{page_apart, page_from, put_tree}
use Rattle.isp_clustered.proofs.PutLaws.{divided_of, put_behind}
use Rattle.isp_clustered.proofs.writing.put.Goals as goal

pub returns-in_err-leaf-clause-sound : goal.returns-in_err-leaf-clause-sound
returns-in_err-leaf-clause-sound g c tells table tree s can =
    let sound = c.in_err-leaf.ensures.sound tells table tree can.is_tree in
    search (rules, sound, c.from_residual.ensures)

pub returns-in_ok-count_and_replace-in-Some-clause-changes : goal.returns-in_ok-count_and_replace-in-Some-clause-changes
returns-in_ok-count_and_replace-in-Some-clause-changes g c =
    let u = c.in_ok-leaf.ensures.reads in
    let w = c.in_ok-count_and_replace-in-Some.ensures.changes in
    record {
      kept = search rules;
      changes = behind_read g.P.Pages _ 36 _ _ _ u.contents u.mini (omega arith) w.changes;
      says = u.says;
      names = tt;
    }

pub returns-in_ok-count_and_replace-in-Some-clause-put : goal.returns-in_ok-count_and_replace-in-Some-clause-put
returns-in_ok-count_and_replace-in-Some-clause-put g c tells table tree s can =
    let old = g.P.Pages.contents c.args.pages.now in
    let new = g.P.Pages.contents c.count_and_replace.new.pages in
    let is = can.is_tree in
    let u = c.in_ok-leaf.ensures in
    let w = c.in_ok-count_and_replace-in-Some.ensures in
    let page = c.in_ok-leaf.leaf.page.0 in
    let key = to_z-of_z w64 c.args.key c.ranges.key in
    let f : IsFoundLeaf c.find_leaf.new.into.bytes page c.in_ok-leaf.leaf.used table c.args.key tree = subst (λ (k : ℤ). IsFoundLeaf c.find_leaf.new.into.bytes page c.in_ok-leaf.leaf.used table k tree) key (c.in_ok-leaf.ensures.leaf tells table tree is) in
    let rows = f.leaf.rows in
    let next = first_page f.at.after in
    let put = subst (λ (k : ℤ). IsLeaf c.in-Some.new.bytes table page next (with_put k c.args.row.now rows)) key (c.in-Some.ensures.page table page next rows f.stands f.used_is) in
    let read = u.bytes tells ∙ sym (ap (λ (contents : Contents). page_of contents page) (u.reads.contents tells)) in
    let from = page_from _ _ table _ tree _ _ page _ is f in
    let there : IsLeaf (page_of new page) table page next (with_put c.args.key c.args.row.now rows) = subst (λ (bytes : List ℕ). IsLeaf bytes table page next (with_put c.args.key c.args.row.now rows)) (sym (w.put tells from read)) put in
    let keeps = subst (λ (c : Contents). KeepsPages (λ other. is_among other (0 ∷ page ∷ [])) c new) (u.reads.contents tells) (w.changes.changes.others tells) in
    let pages = λ (shape : FileShape). shape.pages in
    let shape_read = ap pages u.reads.kept.keeps.same_shape in
    let space = space_behind _ _ _ _ s shape_read (u.reads.contents tells) can.is_space in
    let apart : IsApart page s = subst (λ (p : ℕ). IsApart p s) f.page_is (page_apart f.leaf tree s c.args.key f.at can.beside) in
    put_tree _ _ old new table c.args.root.0 tree s c.args.key c.args.row.now _ page _ is (ap pages w.changes.kept.keeps.same_shape ∙ shape_read) f there (w.space tells s space apart) keeps

pub returns-in_err-count_and_replace-in-Some-clause-sound : goal.returns-in_err-count_and_replace-in-Some-clause-sound
returns-in_err-count_and_replace-in-Some-clause-sound g c tells table tree s can =
    let u = c.in_ok-leaf.ensures in
    let pages = λ (shape : FileShape). shape.pages in
    let space = space_behind _ _ _ _ s (ap pages u.reads.kept.keeps.same_shape) (u.reads.contents tells) can.is_space in
    let few = can.counted in
    let row = c.requires.row in
    let sound = c.in_err-count_and_replace-in-Some.ensures.sound tells s space (omega (arith, few, row)) in
    search (rules, sound, c.from_residual-in_err-count_and_replace-in-Some.ensures)

pub grow_and_count-requires-clause-can : goal.grow_and_count-requires-clause-can
grow_and_count-requires-clause-can g c =
    let u = c.in_ok-leaf.ensures.reads in
    change_behind g.P.Pages 36 _ _ c.requires.can u.kept.keeps.goes_on.can u.mini

pub returns-in_err-grow_and_count-in-None-clause-sound : goal.returns-in_err-grow_and_count-in-None-clause-sound
returns-in_err-grow_and_count-in-None-clause-sound g c tells table tree s can =
    let page = c.in_ok-leaf.leaf.page.0 in
    let row = c.args.row.now in
    let key = to_z-of_z w64 c.args.key c.ranges.key in
    let u = c.in_ok-leaf.ensures.reads in
    let f : IsFoundLeaf c.find_leaf.new.into.bytes page c.in_ok-leaf.leaf.used table c.args.key tree = subst (λ (k : ℤ). IsFoundLeaf c.find_leaf.new.into.bytes page c.in_ok-leaf.leaf.used table k tree) key (c.in_ok-leaf.ensures.leaf tells table tree can.is_tree) in
    let rows = f.leaf.rows in
    let large = divided_of c.args.key row rows (λ fits. none_not c.put_in.result c.in-None.is (c.put_in.ensures.some table _ (first_page f.at.after) rows f.stands f.used_is (ap (λ (k : ℤ). is_fitting k (length row) rows) key ∙ fits))) in
    let may = put_behind _ _ _ _ table c.args.root.0 _ (length row) tree s (ap (λ (shape : FileShape). shape.pages) u.kept.keeps.same_shape) (u.contents tells) (subst (λ (k : ℤ). CanPut (g.P.Pages.shape c.args.pages.now).pages (g.P.Pages.contents c.args.pages.now) table c.args.root.0 k (length row) tree s) (sym key) can) in
    let sound = c.in_err-grow_and_count-in-None.ensures.sound tells table tree s f.leaf may (ap (λ (k : ℤ). pick_leaf k tree.leaves) key ∙ f.picked) (ap (λ (k : ℤ). is_divided (with_put k row rows)) key ∙ large) in
    let p = err_from_is_err_and c.from_residual-in_err-grow_and_count-in-None.result c.from_residual-in_err-grow_and_count-in-None.ensures.1 in
    err_is IsNoDamage c.from_residual-in_err-grow_and_count-in-None.result _ _ p.1 p.2 sound

pub returns-in_ok-grow_and_count-in-None-clause-changes : goal.returns-in_ok-grow_and_count-in-None-clause-changes
returns-in_ok-grow_and_count-in-None-clause-changes g c =
    let u = c.in_ok-leaf.ensures.reads in
    let w = c.in_ok-grow_and_count-in-None.ensures.changes in
    record {
      kept = search rules;
      changes = changed_behind g.P.Pages 36 _ _ _ u.contents u.mini w.changes;
      says = u.says;
      names = tt;
    }

pub returns-in_ok-grow_and_count-in-None-clause-put : goal.returns-in_ok-grow_and_count-in-None-clause-put
returns-in_ok-grow_and_count-in-None-clause-put g c tells table tree s can =
    let page = c.in_ok-leaf.leaf.page.0 in
    let row = c.args.row.now in
    let key = to_z-of_z w64 c.args.key c.ranges.key in
    let u = c.in_ok-leaf.ensures.reads in
    let f : IsFoundLeaf c.find_leaf.new.into.bytes page c.in_ok-leaf.leaf.used table c.args.key tree = subst (λ (k : ℤ). IsFoundLeaf c.find_leaf.new.into.bytes page c.in_ok-leaf.leaf.used table k tree) key (c.in_ok-leaf.ensures.leaf tells table tree can.is_tree) in
    let rows = f.leaf.rows in
    let large = divided_of c.args.key row rows (λ fits. none_not c.put_in.result c.in-None.is (c.put_in.ensures.some table _ (first_page f.at.after) rows f.stands f.used_is (ap (λ (k : ℤ). is_fitting k (length row) rows) key ∙ fits))) in
    let may = put_behind _ _ _ _ table c.args.root.0 _ (length row) tree s (ap (λ (shape : FileShape). shape.pages) u.kept.keeps.same_shape) (u.contents tells) (subst (λ (k : ℤ). CanPut (g.P.Pages.shape c.args.pages.now).pages (g.P.Pages.contents c.args.pages.now) table c.args.root.0 k (length row) tree s) (sym key) can) in
    let put = c.in_ok-grow_and_count-in-None.ensures.put tells table tree s f.leaf may (ap (λ (k : ℤ). pick_leaf k tree.leaves) key ∙ f.picked) (ap (λ (k : ℤ). is_divided (with_put k row rows)) key ∙ large) in
    let new = g.P.Pages.contents c.grow_and_count.new.pages in
    let pages = (g.P.Pages.shape c.grow_and_count.new.pages).pages in
    subst (λ (old : Contents). IsPut pages old new table c.args.root.0 c.args.key row tree s) (u.contents tells) (subst (λ (k : ℤ). IsPut pages (g.P.Pages.contents c.find_leaf.new.pages) new table c.args.root.0 k row tree s) key put)
