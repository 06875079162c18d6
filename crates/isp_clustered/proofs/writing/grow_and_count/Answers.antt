use Rattle.std.proofs.Common.{rules, ℕ, ◌+◌, ℤ, [], ◌∷◌, ◌++◌, length, length-append, sym, ◌∙◌, ap, subst, arith}
use Rattle.std.specs.Int.{w64}
use Rattle.std.proofs.lemmas.Int.{to_z-of_z}
use Rattle.std.proofs.lemmas.Result.{err_from_is_err_and}
use Rattle.isp_page.specs.State.{FileShape}
use Rattle.isp_page.specs.Steps.{IsNoDamage}
use Rattle.isp_space.specs.Spaces.{IsSpace}
use Rattle.isp_space.proofs.ChangesLaws.{among_one, changes_on}
use Rattle.isp_growing.specs.Grown.{CanGrow, IsGrown}
use Rattle.isp_growing.specs.Taking.{taken_times}
use Rattle.isp_growing.proofs.MiniLaws.{change_less, err_is}
use Rattle.isp_clustered.proofs.PutLaws.{bytes_low, can_grow, grown_put}
use Rattle.isp_clustered.proofs.writing.grow_and_count.Goals as goal

pub put_divided-requires-clause-can : goal.put_divided-requires-clause-can
put_divided-requires-clause-can g c = change_less g.P.Pages 36 35 _ c.requires.can (omega arith)

pub returns-in_err-put_divided-clause-sound : goal.returns-in_err-put_divided-clause-sound
returns-in_err-put_divided-clause-sound g c tells table tree s leaf can picked large =
    let pages = (g.P.Pages.shape c.args.pages.now).pages in
    let old = g.P.Pages.contents c.args.pages.now in
    let row = c.args.row.now in
    let may = subst (λ (k : ℤ). CanGrow pages old table c.args.root.0 k row can.is_tree.levels tree.leaves s leaf) (sym (to_z-of_z w64 c.args.key c.ranges.key)) (can_grow pages old table c.args.root.0 c.args.key row tree s leaf can picked large) in
    let sound = c.in_err-put_divided.ensures.sound tells table can.is_tree.levels tree.leaves s leaf may in
    search (rules, sound, c.from_residual.ensures)

pub add_bytes-requires-clause-begun : goal.add_bytes-requires-clause-begun
add_bytes-requires-clause-begun g c = c.in_ok-put_divided.ensures.changes.changes.changes.grows.begun ∙ c.requires.can.begun

pub add_bytes-requires-clause-room : goal.add_bytes-requires-clause-room
add_bytes-requires-clause-room g c out =
    let by = c.in_ok-put_divided.ensures.changes.changes in
    let within = by.changes.grows.within in
    let few = by.few in
    let room = c.requires.can.room in
    omega (arith, within, few, room)

pub returns-in_err-add_bytes-clause-sound : goal.returns-in_err-add_bytes-clause-sound
returns-in_err-add_bytes-clause-sound g c tells table tree s leaf can picked large =
    let pages = (g.P.Pages.shape c.args.pages.now).pages in
    let old = g.P.Pages.contents c.args.pages.now in
    let mid = g.P.Pages.contents c.put_divided.new.pages in
    let row = c.args.row.now in
    let may = subst (λ (k : ℤ). CanGrow pages old table c.args.root.0 k row can.is_tree.levels tree.leaves s leaf) (sym (to_z-of_z w64 c.args.key c.ranges.key)) (can_grow pages old table c.args.root.0 c.args.key row tree s leaf can picked large) in
    let grown = c.in_ok-put_divided.ensures.put tells table can.is_tree.levels tree.leaves s leaf may in
    let short = c.requires.row in
    let low = bytes_low grown.count (13 + length row) s can.counted (omega (arith, short)) in
    let sound = c.in_err-add_bytes.ensures.sound tells (taken_times grown.count s) grown.is_space low in
    let p = err_from_is_err_and c.from_residual-in_err-add_bytes.result c.from_residual-in_err-add_bytes.ensures.1 in
    err_is IsNoDamage c.from_residual-in_err-add_bytes.result _ _ p.1 p.2 sound

pub returns-clause-changes : goal.returns-clause-changes
returns-clause-changes g c =
    let p = c.in_ok-put_divided.ensures.changes in
    let a = c.in_ok-add_bytes.ensures in
    let few = p.changes.few in
    let long = length-append p.changes.list (0 ∷ []) in
    record {
      kept = search rules;
      changes = record {
        list = p.changes.list ++ (0 ∷ []);
        few = omega (arith, few, long);
        changes = changes_on g.P.Pages p.changes.list (0 ∷ []) _ _ _ p.changes.changes (record { grows = a.grown; others = λ tells. among_one 0 _ _ (a.others tells) });
      };
      says = p.says;
      names = tt;
    }

pub returns-clause-put : goal.returns-clause-put
returns-clause-put g c tells table tree s leaf can picked large =
    let pages = (g.P.Pages.shape c.args.pages.now).pages in
    let old = g.P.Pages.contents c.args.pages.now in
    let mid = g.P.Pages.contents c.put_divided.new.pages in
    let new = g.P.Pages.contents c.add_bytes.new.pages in
    let row = c.args.row.now in
    let key = to_z-of_z w64 c.args.key c.ranges.key in
    let may = subst (λ (k : ℤ). CanGrow pages old table c.args.root.0 k row can.is_tree.levels tree.leaves s leaf) (sym key) (can_grow pages old table c.args.root.0 c.args.key row tree s leaf can picked large) in
    let put = c.in_ok-put_divided.ensures.put tells table can.is_tree.levels tree.leaves s leaf may in
    let a = c.in_ok-add_bytes.ensures in
    let first = ap (λ (s : FileShape). s.pages) c.in_ok-put_divided.ensures.changes.kept.keeps.same_shape in
    let second = ap (λ (s : FileShape). s.pages) a.kept.keeps.same_shape in
    let grown : IsGrown pages old mid table c.args.root.0 c.args.key row can.is_tree.levels tree.leaves s =
    subst (λ (n : ℕ). IsGrown n old mid table c.args.root.0 c.args.key row can.is_tree.levels tree.leaves s) first (subst (λ (k : ℤ). IsGrown (g.P.Pages.shape c.put_divided.new.pages).pages old mid table c.args.root.0 k row can.is_tree.levels tree.leaves s) key put) in
    let space = a.added tells (taken_times grown.count s) (subst (λ (n : ℕ). IsSpace n mid (taken_times grown.count s)) (sym first) grown.is_space) in
    grown_put pages _ old mid new table c.args.root.0 c.args.key row tree s can (second ∙ first) grown (a.others tells) space
