use Rattle.std.proofs.Common.{◌≡◌, ℕ, ◌<◌, ℤ, [], ◌∷◌, refl, sym, ◌∙◌, ap, subst, arith}
use Rattle.std.specs.Int.{w64}
use Rattle.std.proofs.lemmas.Int.{to_z-of_z}
use Rattle.isp_cells.specs.Rows.{with_put}
use Rattle.std.proofs.lemmas.Result.{err_from_is_err_and}
use Rattle.isp_halving.specs.Halved.{IsLeafHalved}
use Rattle.isp_levels.specs.Dividing.{is_divided}
use Rattle.isp_levels.specs.Levels.{least_key}
use Rattle.isp_page.specs.State.{FileShape}
use Rattle.isp_page.specs.Steps.{IsNoDamage}
use Rattle.isp_space.specs.Spaces.{IsSpace, free_pages, taken}
use Rattle.isp_growing.proofs.LeafLaws.{least_below, lone_apart, lone_raised, lone_stands, lone_whole, moved_divided, moved_root_stands, moved_stands_apart}
use Rattle.isp_growing.proofs.MiniLaws.{change_on, changes_three, err_is}
use Rattle.isp_growing.proofs.TakenLaws.{free_taken}
use Rattle.isp_growing.proofs.dividing.divide_root.Goals as goal

pub returns-in_err-moved-clause-sound : goal.returns-in_err-moved-clause-sound
returns-in_err-moved-clause-sound g c tells table leaves s leaf can =
    let few = can.free in
    let sound = c.in_err-moved.ensures.sound tells s can.beside.is_space (omega (arith, few)) in
    let p = err_from_is_err_and c.from_residual.result c.from_residual.ensures.1 in
    err_is IsNoDamage c.from_residual.result _ _ p.1 p.2 sound

pub divide_leaf-requires-clause-can : goal.divide_leaf-requires-clause-can
divide_leaf-requires-clause-can g c =
    let r = c.in_ok-moved.ensures in
    change_on g.P.Pages 35 3 _ _ _ c.requires.can r.kept.keeps.goes_on.can r.changes (omega arith)

pub returns-in_err-above-clause-sound : goal.returns-in_err-above-clause-sound
returns-in_err-above-clause-sound g c tells table leaves s leaf can =
    let from = g.P.Pages.contents c.args.pages.now in
    let pages = (g.P.Pages.shape c.args.pages.now).pages in
    let row = c.args.row.now in
    let least = least_below c.args.key c.ranges.key in
    let few = can.free in
    let mid = g.P.Pages.contents c.raise.new.pages in
    let key = to_z-of_z w64 c.args.key c.ranges.key in
    let r = c.in_ok-moved.ensures in
    let to = c.in_ok-moved.moved.0 in
    let shape : (g.P.Pages.shape c.raise.new.pages).pages ≡ pages = ap (λ (s : FileShape). s.pages) r.kept.keeps.same_shape in
    let raised = r.leaf tells table 0 leaf.rows s refl (lone_stands pages from table c.args.root.0 c.args.key row leaves s leaf can least) can.beside.is_space (lone_apart pages from table c.args.root.0 c.args.key row leaves s leaf can least) (omega (arith, few)) in
    let u = lone_raised pages from table c.args.root.0 c.args.key row leaves s leaf can least _ mid to shape raised.0 raised.1 r.inside (r.changes.others tells) in
    let space = subst (λ (n : ℕ). IsSpace n mid (taken s)) (sym shape) u.has.beside.is_space in
    let apart = moved_stands_apart pages from table c.args.root.0 c.args.key row leaves s leaf can least mid to u in
    let some = subst (λ (n : ℕ). 0 < free_pages n (taken s)) (sym shape) (free_taken pages 0 s can.beside.is_space.fresh_to (omega (arith, few))) in
    let large = ap (λ (k : ℤ). is_divided (with_put k row leaf.rows)) key ∙ can.large in
    let sound = c.in_err-above.ensures.sound tells table 0 leaf.rows (taken s) raised.1 large space apart some in
    let p = err_from_is_err_and c.from_residual-in_err-above.result c.from_residual-in_err-above.ensures.1 in
    err_is IsNoDamage c.from_residual-in_err-above.result _ _ p.1 p.2 sound

pub put_entry-requires-clause-can : goal.put_entry-requires-clause-can
put_entry-requires-clause-can g c =
    let r = c.in_ok-moved.ensures in
    let d = c.in_ok-above.ensures in
    change_on g.P.Pages 32 1 _ _ _ (change_on g.P.Pages 35 32 _ _ _ c.requires.can r.kept.keeps.goes_on.can r.changes (omega arith)) d.kept.keeps.goes_on.can d.changes (omega arith)

pub returns-in_err-put_entry-clause-sound : goal.returns-in_err-put_entry-clause-sound
returns-in_err-put_entry-clause-sound g c tells table leaves s leaf can =
    let from = g.P.Pages.contents c.args.pages.now in
    let pages = (g.P.Pages.shape c.args.pages.now).pages in
    let row = c.args.row.now in
    let least = least_below c.args.key c.ranges.key in
    let few = can.free in
    let mid = g.P.Pages.contents c.raise.new.pages in
    let key = to_z-of_z w64 c.args.key c.ranges.key in
    let r = c.in_ok-moved.ensures in
    let to = c.in_ok-moved.moved.0 in
    let shape : (g.P.Pages.shape c.raise.new.pages).pages ≡ pages = ap (λ (s : FileShape). s.pages) r.kept.keeps.same_shape in
    let raised = r.leaf tells table 0 leaf.rows s refl (lone_stands pages from table c.args.root.0 c.args.key row leaves s leaf can least) can.beside.is_space (lone_apart pages from table c.args.root.0 c.args.key row leaves s leaf can least) (omega (arith, few)) in
    let u = lone_raised pages from table c.args.root.0 c.args.key row leaves s leaf can least _ mid to shape raised.0 raised.1 r.inside (r.changes.others tells) in
    let space = subst (λ (n : ℕ). IsSpace n mid (taken s)) (sym shape) u.has.beside.is_space in
    let apart = moved_stands_apart pages from table c.args.root.0 c.args.key row leaves s leaf can least mid to u in
    let some = subst (λ (n : ℕ). 0 < free_pages n (taken s)) (sym shape) (free_taken pages 0 s can.beside.is_space.fresh_to (omega (arith, few))) in
    let large = ap (λ (k : ℤ). is_divided (with_put k row leaf.rows)) key ∙ can.large in
    let next = g.P.Pages.contents c.divide_leaf.new.pages in
    let d = c.in_ok-above.ensures in
    let entry = c.in_ok-above.above in
    let shapes : (g.P.Pages.shape c.divide_leaf.new.pages).pages ≡ pages = ap (λ (s : FileShape). s.pages) d.kept.keeps.same_shape ∙ shape in
    let halves = subst (λ (k : ℤ). IsLeafHalved (g.P.Pages.shape c.divide_leaf.new.pages).pages next table to 0 (with_put k row leaf.rows) (taken s) entry) key (d.halves tells table 0 leaf.rows (taken s) raised.1 large space apart some) in
    let m = moved_divided pages from table c.args.root.0 c.args.key row leaves s leaf can least _ mid next to entry shapes u halves (subst (λ (n : ℕ). entry.page.0 < n) shape d.inside) (d.changes.others tells) in
    let stands = moved_root_stands pages from table c.args.root.0 c.args.key row leaves s leaf can least mid next to entry m in
    let sound = c.in_err-put_entry.ensures.sound tells table ((least_key, to) ∷ []) stands (omega arith) in
    let p = err_from_is_err_and c.from_residual-in_err-put_entry.result c.from_residual-in_err-put_entry.ensures.1 in
    err_is IsNoDamage c.from_residual-in_err-put_entry.result _ _ p.1 p.2 sound

pub returns-clause-changes : goal.returns-clause-changes
returns-clause-changes g c = changes_three g.P.Pages _ _ _ _ _ _ _ c.in_ok-moved.ensures.changes c.in_ok-above.ensures.changes c.in_ok-put_entry.ensures.changes.changes (omega arith)

pub returns-clause-put : goal.returns-clause-put
returns-clause-put g c tells table leaves s leaf can =
    let from = g.P.Pages.contents c.args.pages.now in
    let pages = (g.P.Pages.shape c.args.pages.now).pages in
    let row = c.args.row.now in
    let least = least_below c.args.key c.ranges.key in
    let few = can.free in
    let mid = g.P.Pages.contents c.raise.new.pages in
    let key = to_z-of_z w64 c.args.key c.ranges.key in
    let r = c.in_ok-moved.ensures in
    let to = c.in_ok-moved.moved.0 in
    let shape : (g.P.Pages.shape c.raise.new.pages).pages ≡ pages = ap (λ (s : FileShape). s.pages) r.kept.keeps.same_shape in
    let raised = r.leaf tells table 0 leaf.rows s refl (lone_stands pages from table c.args.root.0 c.args.key row leaves s leaf can least) can.beside.is_space (lone_apart pages from table c.args.root.0 c.args.key row leaves s leaf can least) (omega (arith, few)) in
    let u = lone_raised pages from table c.args.root.0 c.args.key row leaves s leaf can least _ mid to shape raised.0 raised.1 r.inside (r.changes.others tells) in
    let space = subst (λ (n : ℕ). IsSpace n mid (taken s)) (sym shape) u.has.beside.is_space in
    let apart = moved_stands_apart pages from table c.args.root.0 c.args.key row leaves s leaf can least mid to u in
    let some = subst (λ (n : ℕ). 0 < free_pages n (taken s)) (sym shape) (free_taken pages 0 s can.beside.is_space.fresh_to (omega (arith, few))) in
    let large = ap (λ (k : ℤ). is_divided (with_put k row leaf.rows)) key ∙ can.large in
    let next = g.P.Pages.contents c.divide_leaf.new.pages in
    let d = c.in_ok-above.ensures in
    let entry = c.in_ok-above.above in
    let shapes : (g.P.Pages.shape c.divide_leaf.new.pages).pages ≡ pages = ap (λ (s : FileShape). s.pages) d.kept.keeps.same_shape ∙ shape in
    let halves = subst (λ (k : ℤ). IsLeafHalved (g.P.Pages.shape c.divide_leaf.new.pages).pages next table to 0 (with_put k row leaf.rows) (taken s) entry) key (d.halves tells table 0 leaf.rows (taken s) raised.1 large space apart some) in
    let m = moved_divided pages from table c.args.root.0 c.args.key row leaves s leaf can least _ mid next to entry shapes u halves (subst (λ (n : ℕ). entry.page.0 < n) shape d.inside) (d.changes.others tells) in
    let stands = moved_root_stands pages from table c.args.root.0 c.args.key row leaves s leaf can least mid next to entry m in
    let e = c.in_ok-put_entry.ensures in
    let put = e.put tells table ((least_key, to) ∷ []) stands (omega arith) in
    lone_whole pages from table c.args.root.0 c.args.key row leaves s leaf can least _ mid next (g.P.Pages.contents c.put_entry.new.pages) to entry (ap (λ (s : FileShape). s.pages) e.changes.kept.keeps.same_shape ∙ shapes) u m put (e.changes.changes.others tells)
