use Rattle.std.proofs.Common.{rules, ◌≡◌, ℕ, ◌<◌, ℤ, [], length, sym, ◌∙◌, ap, subst, arith}
use Rattle.std.specs.Prelude.{slice_index}
use Rattle.std.specs.Int.{w64}
use Rattle.std.proofs.lemmas.Int.{to_z-of_z}
use Rattle.std.proofs.lemmas.Result.{err_from_is_err_and}
use Rattle.isp_cells.specs.LeafPages.{IsLeaf}
use Rattle.isp_cells.specs.Rows.{with_put}
use Rattle.isp_format.specs.Ranges.{Contents, page_of}
use Rattle.isp_halving.specs.Halved.{IsLeafHalved}
use Rattle.isp_levels.specs.Dividing.{is_divided}
use Rattle.isp_levels.specs.Levels.{first_page}
use Rattle.isp_page.specs.State.{FileShape}
use Rattle.isp_page.specs.Steps.{IsNoDamage}
use Rattle.isp_space.specs.Spaces.{free_pages, taken}
use Rattle.isp_space.proofs.SpaceLaws.{space_behind}
use Rattle.isp_growing.specs.Grown.{CanGrow, IsGrown}
use Rattle.isp_growing.specs.Paths.{IsPathTo}
use Rattle.isp_growing.specs.Rising.{CanGoUp}
use Rattle.isp_growth.specs.Growing.{ups}
use Rattle.isp_growing.proofs.LeafLaws.{can_at, free_here, grown_at, leaf_apart, leaf_at, leaf_divided, leaf_here, leaf_page, leaf_whole, least_below, no_levels, parted, path_here}
use Rattle.isp_growing.proofs.MiniLaws.{begins_up, change_behind, change_less, changed_behind, err_is, goes_all}
use Rattle.isp_growing.proofs.dividing.put_divided.Goals as goal

pub returns-in_err-path-clause-sound : goal.returns-in_err-path-clause-sound
returns-in_err-path-clause-sound g c tells table levels leaves s leaf can =
    let sound = c.in_err-path.ensures.sound tells table levels leaves can.is_tree in
    let p = err_from_is_err_and c.from_residual.result c.from_residual.ensures.1 in
    err_is IsNoDamage c.from_residual.result _ _ p.1 p.2 sound

pub divide_root-requires-clause-can : goal.divide_root-requires-clause-can
divide_root-requires-clause-can g c =
    let r = c.in_ok-path.ensures.down in
    change_behind g.P.Pages 35 _ _ c.requires.can r.kept.keeps.goes_on.can r.mini

pub returns-in_err-divide_root-clause-sound : goal.returns-in_err-divide_root-clause-sound
returns-in_err-divide_root-clause-sound g c tells table levels leaves s leaf can =
    let from = g.P.Pages.contents c.args.pages.now in
    let mid = g.P.Pages.contents c.path_for.new.pages in
    let pages = (g.P.Pages.shape c.args.pages.now).pages in
    let row = c.args.row.now in
    let path = c.in_ok-path.path in
    let key = to_z-of_z w64 c.args.key c.ranges.key in
    let p = c.in_ok-path.ensures in
    let same : mid ≡ from = p.down.contents tells in
    let shape : (g.P.Pages.shape c.path_for.new.pages).pages ≡ pages = ap (λ (s : FileShape). s.pages) p.down.kept.keeps.same_shape in
    let to : IsPathTo c.args.key levels leaves path = subst (λ (k : ℤ). IsPathTo k levels leaves path) key (p.path tells table levels leaves can.is_tree) in
    let none = no_levels levels path.height to.height c.if-path-eq0.true in
    let can_now = can_at pages _ from mid table c.args.root.0 c.args.key row levels leaves s leaf shape same none can in
    let can_key = subst (λ (k : ℤ). CanGrow (g.P.Pages.shape c.path_for.new.pages).pages mid table c.args.root.0 k row [] leaves s leaf) (sym key) can_now in
    let sound = c.in_err-divide_root.ensures.sound tells table leaves s leaf can_key in
    let p = err_from_is_err_and c.from_residual-in_err-divide_root.result c.from_residual-in_err-divide_root.ensures.1 in
    err_is IsNoDamage c.from_residual-in_err-divide_root.result _ _ p.1 p.2 sound

pub returns-in_ok-divide_root-clause-changes : goal.returns-in_ok-divide_root-clause-changes
returns-in_ok-divide_root-clause-changes g c =
    let r = c.in_ok-path.ensures.down in
    record {
      kept = search rules;
      changes = changed_behind g.P.Pages 35 _ _ _ r.contents r.mini c.in_ok-divide_root.ensures.changes;
      says = r.says;
      names = tt;
    }

pub returns-in_ok-divide_root-clause-put : goal.returns-in_ok-divide_root-clause-put
returns-in_ok-divide_root-clause-put g c tells table levels leaves s leaf can =
    let from = g.P.Pages.contents c.args.pages.now in
    let mid = g.P.Pages.contents c.path_for.new.pages in
    let pages = (g.P.Pages.shape c.args.pages.now).pages in
    let row = c.args.row.now in
    let path = c.in_ok-path.path in
    let key = to_z-of_z w64 c.args.key c.ranges.key in
    let p = c.in_ok-path.ensures in
    let same : mid ≡ from = p.down.contents tells in
    let shape : (g.P.Pages.shape c.path_for.new.pages).pages ≡ pages = ap (λ (s : FileShape). s.pages) p.down.kept.keeps.same_shape in
    let to : IsPathTo c.args.key levels leaves path = subst (λ (k : ℤ). IsPathTo k levels leaves path) key (p.path tells table levels leaves can.is_tree) in
    let none = no_levels levels path.height to.height c.if-path-eq0.true in
    let can_now = can_at pages _ from mid table c.args.root.0 c.args.key row levels leaves s leaf shape same none can in
    let can_key = subst (λ (k : ℤ). CanGrow (g.P.Pages.shape c.path_for.new.pages).pages mid table c.args.root.0 k row [] leaves s leaf) (sym key) can_now in
    let put = c.in_ok-divide_root.ensures.put tells table leaves s leaf can_key in
    grown_at _ from mid (g.P.Pages.contents c.divide_root.new.pages) table c.args.root.0 c.args.key row levels leaves s same none (subst (λ (k : ℤ). IsGrown (g.P.Pages.shape c.divide_root.new.pages).pages mid (g.P.Pages.contents c.divide_root.new.pages) table c.args.root.0 k row [] leaves s) key put)

pub divide_leaf-requires-clause-can : goal.divide_leaf-requires-clause-can
divide_leaf-requires-clause-can g c =
    let r = c.in_ok-path.ensures.down in
    change_less g.P.Pages 35 3 _ (change_behind g.P.Pages 35 _ _ c.requires.can r.kept.keeps.goes_on.can r.mini) (omega arith)

pub returns-in_err-above-clause-sound : goal.returns-in_err-above-clause-sound
returns-in_err-above-clause-sound g c tells table levels leaves s leaf can =
    let from = g.P.Pages.contents c.args.pages.now in
    let mid = g.P.Pages.contents c.path_for.new.pages in
    let pages = (g.P.Pages.shape c.args.pages.now).pages in
    let row = c.args.row.now in
    let path = c.in_ok-path.path in
    let key = to_z-of_z w64 c.args.key c.ranges.key in
    let p = c.in_ok-path.ensures in
    let same : mid ≡ from = p.down.contents tells in
    let shape : (g.P.Pages.shape c.path_for.new.pages).pages ≡ pages = ap (λ (s : FileShape). s.pages) p.down.kept.keeps.same_shape in
    let to : IsPathTo c.args.key levels leaves path = subst (λ (k : ℤ). IsPathTo k levels leaves path) key (p.path tells table levels leaves can.is_tree) in
    let least = least_below c.args.key c.ranges.key in
    let page = slice_index path.pages 0 in
    let page_is = leaf_page c.args.key leaves leaf page can.picked to.leaf in
    let at = leaf_at pages from table c.args.root.0 c.args.key row levels leaves s leaf can least in
    let stands : IsLeaf (page_of mid page) table page (first_page at.after) leaf.rows = subst (λ (x : Contents). IsLeaf (page_of x page) table page (first_page at.after) leaf.rows) (sym same) (leaf_here pages from table c.args.root.0 c.args.key row levels leaves s leaf can least page page_is) in
    let few = can.free in
    let space = space_behind _ _ _ _ s shape same can.beside.is_space in
    let apart = leaf_apart pages from table c.args.root.0 c.args.key row levels leaves s leaf can least page page_is in
    let some = subst (λ (n : ℕ). 0 < free_pages n s) (sym shape) (omega (arith, few)) in
    let large = ap (λ (k : ℤ). is_divided (with_put k row leaf.rows)) key ∙ can.large in
    let sound = c.in_err-above.ensures.sound tells table (first_page at.after) leaf.rows s stands large space apart some in
    let p = err_from_is_err_and c.from_residual-in_err-above.result c.from_residual-in_err-above.ensures.1 in
    err_is IsNoDamage c.from_residual-in_err-above.result _ _ p.1 p.2 sound

pub put_up-requires-clause-can : goal.put_up-requires-clause-can
put_up-requires-clause-can g c =
    let r = c.in_ok-path.ensures.down in
    let d = c.in_ok-above.ensures in
    begins_up g.P.Pages c.in_ok-above.above.page.0 _ _ _ (change_behind g.P.Pages 35 _ _ c.requires.can r.kept.keeps.goes_on.can r.mini) d.kept.keeps.goes_on.can d.changes

pub returns-in_err-put_up-clause-sound : goal.returns-in_err-put_up-clause-sound
returns-in_err-put_up-clause-sound g c tells table levels leaves s leaf can =
    let from = g.P.Pages.contents c.args.pages.now in
    let mid = g.P.Pages.contents c.path_for.new.pages in
    let pages = (g.P.Pages.shape c.args.pages.now).pages in
    let row = c.args.row.now in
    let path = c.in_ok-path.path in
    let key = to_z-of_z w64 c.args.key c.ranges.key in
    let p = c.in_ok-path.ensures in
    let same : mid ≡ from = p.down.contents tells in
    let shape : (g.P.Pages.shape c.path_for.new.pages).pages ≡ pages = ap (λ (s : FileShape). s.pages) p.down.kept.keeps.same_shape in
    let to : IsPathTo c.args.key levels leaves path = subst (λ (k : ℤ). IsPathTo k levels leaves path) key (p.path tells table levels leaves can.is_tree) in
    let least = least_below c.args.key c.ranges.key in
    let page = slice_index path.pages 0 in
    let page_is = leaf_page c.args.key leaves leaf page can.picked to.leaf in
    let at = leaf_at pages from table c.args.root.0 c.args.key row levels leaves s leaf can least in
    let stands : IsLeaf (page_of mid page) table page (first_page at.after) leaf.rows = subst (λ (x : Contents). IsLeaf (page_of x page) table page (first_page at.after) leaf.rows) (sym same) (leaf_here pages from table c.args.root.0 c.args.key row levels leaves s leaf can least page page_is) in
    let few = can.free in
    let space = space_behind _ _ _ _ s shape same can.beside.is_space in
    let apart = leaf_apart pages from table c.args.root.0 c.args.key row levels leaves s leaf can least page page_is in
    let some = subst (λ (n : ℕ). 0 < free_pages n s) (sym shape) (omega (arith, few)) in
    let large = ap (λ (k : ℤ). is_divided (with_put k row leaf.rows)) key ∙ can.large in
    let next = g.P.Pages.contents c.divide_leaf.new.pages in
    let d = c.in_ok-above.ensures in
    let entry = c.in_ok-above.above in
    let shapes : (g.P.Pages.shape c.divide_leaf.new.pages).pages ≡ pages = ap (λ (s : FileShape). s.pages) d.kept.keeps.same_shape ∙ shape in
    let halves = subst (λ (k : ℤ). IsLeafHalved (g.P.Pages.shape c.divide_leaf.new.pages).pages next table page (first_page at.after) (with_put k row leaf.rows) s entry) key (d.halves tells table (first_page at.after) leaf.rows s stands large space apart some) in
    let m = leaf_divided pages from table c.args.root.0 c.args.key row levels leaves s leaf can least _ mid next page entry shapes same page_is halves (subst (λ (n : ℕ). entry.page.0 < n) shape d.inside) (d.changes.others tells) in
    let now = parted c.args.key row leaves leaf at entry.page.0 in
    let can_up = subst (λ (n : ℕ). CanGoUp n next table c.args.root.0 c.args.key (ups levels []) [] now (leaf.low, leaf.page) entry (taken s)) (sym shapes) m.can in
    let free_up = subst (λ (n : ℕ). length (ups levels []) < free_pages n (taken s)) (sym shapes) (free_here pages from table c.args.root.0 c.args.key row levels leaves s leaf can least) in
    let sound = c.in_err-put_up.ensures.sound tells table c.args.root.0 c.args.key (ups levels []) [] now (leaf.low, leaf.page) (taken s) can_up (path_here pages from table c.args.root.0 c.args.key row levels leaves s leaf can least path to) free_up in
    let p = err_from_is_err_and c.from_residual-in_err-put_up.result c.from_residual-in_err-put_up.ensures.1 in
    err_is IsNoDamage c.from_residual-in_err-put_up.result _ _ p.1 p.2 sound

pub returns-in_ok-put_up-clause-changes : goal.returns-in_ok-put_up-clause-changes
returns-in_ok-put_up-clause-changes g c =
    let r = c.in_ok-path.ensures.down in
    record {
      kept = search rules;
      changes = changed_behind g.P.Pages 35 _ _ _ r.contents r.mini (goes_all g.P.Pages c.in_ok-above.above.page.0 _ _ _ _ c.in_ok-above.ensures.changes c.in_ok-put_up.ensures.changes);
      says = r.says;
      names = tt;
    }

pub returns-in_ok-put_up-clause-put : goal.returns-in_ok-put_up-clause-put
returns-in_ok-put_up-clause-put g c tells table levels leaves s leaf can =
    let from = g.P.Pages.contents c.args.pages.now in
    let mid = g.P.Pages.contents c.path_for.new.pages in
    let pages = (g.P.Pages.shape c.args.pages.now).pages in
    let row = c.args.row.now in
    let path = c.in_ok-path.path in
    let key = to_z-of_z w64 c.args.key c.ranges.key in
    let p = c.in_ok-path.ensures in
    let same : mid ≡ from = p.down.contents tells in
    let shape : (g.P.Pages.shape c.path_for.new.pages).pages ≡ pages = ap (λ (s : FileShape). s.pages) p.down.kept.keeps.same_shape in
    let to : IsPathTo c.args.key levels leaves path = subst (λ (k : ℤ). IsPathTo k levels leaves path) key (p.path tells table levels leaves can.is_tree) in
    let least = least_below c.args.key c.ranges.key in
    let page = slice_index path.pages 0 in
    let page_is = leaf_page c.args.key leaves leaf page can.picked to.leaf in
    let at = leaf_at pages from table c.args.root.0 c.args.key row levels leaves s leaf can least in
    let stands : IsLeaf (page_of mid page) table page (first_page at.after) leaf.rows = subst (λ (x : Contents). IsLeaf (page_of x page) table page (first_page at.after) leaf.rows) (sym same) (leaf_here pages from table c.args.root.0 c.args.key row levels leaves s leaf can least page page_is) in
    let few = can.free in
    let space = space_behind _ _ _ _ s shape same can.beside.is_space in
    let apart = leaf_apart pages from table c.args.root.0 c.args.key row levels leaves s leaf can least page page_is in
    let some = subst (λ (n : ℕ). 0 < free_pages n s) (sym shape) (omega (arith, few)) in
    let large = ap (λ (k : ℤ). is_divided (with_put k row leaf.rows)) key ∙ can.large in
    let next = g.P.Pages.contents c.divide_leaf.new.pages in
    let d = c.in_ok-above.ensures in
    let entry = c.in_ok-above.above in
    let shapes : (g.P.Pages.shape c.divide_leaf.new.pages).pages ≡ pages = ap (λ (s : FileShape). s.pages) d.kept.keeps.same_shape ∙ shape in
    let halves = subst (λ (k : ℤ). IsLeafHalved (g.P.Pages.shape c.divide_leaf.new.pages).pages next table page (first_page at.after) (with_put k row leaf.rows) s entry) key (d.halves tells table (first_page at.after) leaf.rows s stands large space apart some) in
    let m = leaf_divided pages from table c.args.root.0 c.args.key row levels leaves s leaf can least _ mid next page entry shapes same page_is halves (subst (λ (n : ℕ). entry.page.0 < n) shape d.inside) (d.changes.others tells) in
    let now = parted c.args.key row leaves leaf at entry.page.0 in
    let can_up = subst (λ (n : ℕ). CanGoUp n next table c.args.root.0 c.args.key (ups levels []) [] now (leaf.low, leaf.page) entry (taken s)) (sym shapes) m.can in
    let free_up = subst (λ (n : ℕ). length (ups levels []) < free_pages n (taken s)) (sym shapes) (free_here pages from table c.args.root.0 c.args.key row levels leaves s leaf can least) in
    let put = c.in_ok-put_up.ensures.put tells table c.args.root.0 c.args.key (ups levels []) [] now (leaf.low, leaf.page) (taken s) can_up (path_here pages from table c.args.root.0 c.args.key row levels leaves s leaf can least path to) free_up in
    leaf_whole pages from table c.args.root.0 c.args.key row levels leaves s leaf can least _ next (g.P.Pages.contents c.put_up.new.pages) entry (ap (λ (s : FileShape). s.pages) c.in_ok-put_up.ensures.kept.keeps.same_shape ∙ shapes) m put
