use Rattle.std.proofs.Common.{◌≡◌, ℕ, ◌+◌, ◌<◌, [], ◌∷◌, refl, sym, ◌∙◌, ap, subst, arith}
use Rattle.std.proofs.lemmas.Result.{err_from_is_err_and}
use Rattle.isp_halving.specs.Halved.{IsInnerHalved, IsRaised}
use Rattle.isp_levels.specs.Levels.{least_key}
use Rattle.isp_page.specs.State.{FileShape}
use Rattle.isp_page.specs.Steps.{IsNoDamage}
use Rattle.isp_space.specs.Spaces.{IsSpace, free_pages, taken}
use Rattle.isp_growth.specs.Entries.{with_name}
use Rattle.isp_growing.specs.Rising.{HasGoneUp}
use Rattle.isp_growing.proofs.MiniLaws.{err_is, goes_raised, may_change, may_on}
use Rattle.isp_growing.proofs.RisingLaws.{RaisedUp, divided_root, goes_raised_up, moved_apart, not_so_high, raised_whole, root_apart, root_stands, top_stands}
use Rattle.isp_growing.proofs.TakenLaws.{free_taken}
use Rattle.isp_growing.proofs.rising.raise_up.Goals as goal

pub divide_inner-requires-clause-can : goal.divide_inner-requires-clause-can
divide_inner-requires-clause-can g c =
    let r = c.in_ok-moved.ensures in
    let less = c.if-level-lt-MOST_LEVELS.true in
    may_change g.P.Pages (c.args.level + 1) 3 _ (may_on g.P.Pages c.args.level (c.args.level + 1) c.in_ok-moved.moved.0 c.args.root.0 _ _ refl c.requires.can r.kept.keeps.goes_on.can r.changes) (omega (arith, less))

pub put_entry-requires-clause-can : goal.put_entry-requires-clause-can
put_entry-requires-clause-can g c =
    let r = c.in_ok-moved.ensures in
    let d = c.in_ok-above.ensures in
    let less = c.if-level-lt-MOST_LEVELS.true in
    may_change g.P.Pages (c.args.level + 2) 1 _
    (may_on g.P.Pages (c.args.level + 1) (c.args.level + 2) c.in_ok-above.above.page.0 c.in_ok-moved.moved.0 _ _ (omega arith)
    (may_on g.P.Pages c.args.level (c.args.level + 1) c.in_ok-moved.moved.0 c.args.root.0 _ _ refl c.requires.can r.kept.keeps.goes_on.can r.changes) d.kept.keeps.goes_on.can d.changes) (omega (arith, less))

pub returns-in_ok-put_entry-clause-changes : goal.returns-in_ok-put_entry-clause-changes
returns-in_ok-put_entry-clause-changes g c =
    let less = c.if-level-lt-MOST_LEVELS.true in
    goes_raised g.P.Pages c.args.level c.in_ok-moved.moved.0 c.args.root.0 c.in_ok-above.above.page.0 _ _ _ _ (omega (arith, less)) c.in_ok-moved.ensures.changes c.in_ok-above.ensures.changes c.in_ok-put_entry.ensures.changes.changes

pub returns-else-level-lt-MOST_LEVELS-clause-sound : goal.returns-else-level-lt-MOST_LEVELS-clause-sound
returns-else-level-lt-MOST_LEVELS-clause-sound g c tells table key node below leaves old s can level_is full free =
    let few = c.pages-most.ensures.within.1 in
    let count = c.pages-most.ensures.count in
    let high = c.if-level-lt-MOST_LEVELS.false in
    absurd (not_so_high _ _ table c.args.root.0 c.args.level key node below leaves old c.args.new s can level_is (omega (arith, high)) full (omega (arith, few, count)))

pub returns-in_err-above-clause-sound : goal.returns-in_err-above-clause-sound
returns-in_err-above-clause-sound g c tells table key node below leaves old s can level_is full free =
    let from = g.P.Pages.contents c.args.pages.now in
    let mid = g.P.Pages.contents c.raise.new.pages in
    let pages = (g.P.Pages.shape c.args.pages.now).pages in
    let r = c.in_ok-moved.ensures in
    let to = c.in_ok-moved.moved.0 in
    let less = c.if-level-lt-MOST_LEVELS.true in
    let shape : (g.P.Pages.shape c.raise.new.pages).pages ≡ pages = ap (λ (s : FileShape). s.pages) r.kept.keeps.same_shape in
    let raised = r.inner tells table node.names s (root_stands _ _ table c.args.root.0 c.args.level key node below leaves old c.args.new s can level_is) can.beside.is_space (root_apart _ _ table c.args.root.0 key node below leaves old c.args.new s can) (omega (arith, free)) in
    let up : RaisedUp pages from mid table c.args.root.0 key node below leaves old c.args.new s to =
    goes_raised_up pages from mid table c.args.root.0 c.args.level key node below leaves old c.args.new s to can level_is less full (subst (λ (n : ℕ). IsRaised n mid table c.args.root.0 c.args.level s to) shape raised.0) raised.1 r.inside (r.changes.others tells) in
    let some = free_taken pages 0 s can.beside.is_space.fresh_to free in
    let space = subst (λ (n : ℕ). IsSpace n mid (taken s)) (sym shape) up.can.beside.is_space in
    let sound = c.in_err-above.ensures.sound tells table node.names (taken s) raised.1 full space (moved_apart _ _ _ table c.args.root.0 key node below leaves old c.args.new s to up) (subst (λ (n : ℕ). 0 < free_pages n (taken s)) (sym shape) some) in
    let p = err_from_is_err_and c.from_residual-in_err-above.result c.from_residual-in_err-above.ensures.1 in
    err_is IsNoDamage c.from_residual-in_err-above.result _ _ p.1 p.2 sound

pub returns-in_err-put_entry-clause-sound : goal.returns-in_err-put_entry-clause-sound
returns-in_err-put_entry-clause-sound g c tells table key node below leaves old s can level_is full free =
    let from = g.P.Pages.contents c.args.pages.now in
    let mid = g.P.Pages.contents c.raise.new.pages in
    let next = g.P.Pages.contents c.divide_inner.new.pages in
    let pages = (g.P.Pages.shape c.args.pages.now).pages in
    let r = c.in_ok-moved.ensures in
    let d = c.in_ok-above.ensures in
    let to = c.in_ok-moved.moved.0 in
    let less = c.if-level-lt-MOST_LEVELS.true in
    let shape : (g.P.Pages.shape c.raise.new.pages).pages ≡ pages = ap (λ (s : FileShape). s.pages) r.kept.keeps.same_shape in
    let shapes : (g.P.Pages.shape c.divide_inner.new.pages).pages ≡ pages = ap (λ (s : FileShape). s.pages) d.kept.keeps.same_shape ∙ shape in
    let raised = r.inner tells table node.names s (root_stands _ _ table c.args.root.0 c.args.level key node below leaves old c.args.new s can level_is) can.beside.is_space (root_apart _ _ table c.args.root.0 key node below leaves old c.args.new s can) (omega (arith, free)) in
    let up : RaisedUp pages from mid table c.args.root.0 key node below leaves old c.args.new s to =
    goes_raised_up pages from mid table c.args.root.0 c.args.level key node below leaves old c.args.new s to can level_is less full (subst (λ (n : ℕ). IsRaised n mid table c.args.root.0 c.args.level s to) shape raised.0) raised.1 r.inside (r.changes.others tells) in
    let some = free_taken pages 0 s can.beside.is_space.fresh_to free in
    let space = subst (λ (n : ℕ). IsSpace n mid (taken s)) (sym shape) up.can.beside.is_space in
    let halves = d.halves tells table node.names (taken s) raised.1 full space (moved_apart _ _ _ table c.args.root.0 key node below leaves old c.args.new s to up) (subst (λ (n : ℕ). 0 < free_pages n (taken s)) (sym shape) some) in
    let two = divided_root pages mid next table c.args.root.0 c.args.level key node below leaves old c.args.new s to c.in_ok-above.above from up level_is full
    (subst (λ (n : ℕ). IsInnerHalved n next table to c.args.level (with_name (c.args.new.key, c.args.new.page.0) node.names) (taken s) c.in_ok-above.above) shapes halves) (subst (λ (n : ℕ). c.in_ok-above.above.page.0 < n) shape d.inside) (d.changes.others tells) in
    let sound = c.in_err-put_entry.ensures.sound tells table ((least_key, to) ∷ []) (top_stands pages mid next table c.args.root.0 c.args.level key node below leaves s to c.in_ok-above.above level_is two) (omega arith) in
    let p = err_from_is_err_and c.from_residual-in_err-put_entry.result c.from_residual-in_err-put_entry.ensures.1 in
    err_is IsNoDamage c.from_residual-in_err-put_entry.result _ _ p.1 p.2 sound

pub returns-in_ok-put_entry-clause-put : goal.returns-in_ok-put_entry-clause-put
returns-in_ok-put_entry-clause-put g c tells table key node below leaves old s can level_is full free =
    let from = g.P.Pages.contents c.args.pages.now in
    let mid = g.P.Pages.contents c.raise.new.pages in
    let next = g.P.Pages.contents c.divide_inner.new.pages in
    let last = g.P.Pages.contents c.put_entry.new.pages in
    let pages = (g.P.Pages.shape c.args.pages.now).pages in
    let r = c.in_ok-moved.ensures in
    let d = c.in_ok-above.ensures in
    let e = c.in_ok-put_entry.ensures in
    let to = c.in_ok-moved.moved.0 in
    let less = c.if-level-lt-MOST_LEVELS.true in
    let shape : (g.P.Pages.shape c.raise.new.pages).pages ≡ pages = ap (λ (s : FileShape). s.pages) r.kept.keeps.same_shape in
    let shapes : (g.P.Pages.shape c.divide_inner.new.pages).pages ≡ pages = ap (λ (s : FileShape). s.pages) d.kept.keeps.same_shape ∙ shape in
    let shapes_all : (g.P.Pages.shape c.put_entry.new.pages).pages ≡ pages = ap (λ (s : FileShape). s.pages) e.changes.kept.keeps.same_shape ∙ shapes in
    let raised = r.inner tells table node.names s (root_stands _ _ table c.args.root.0 c.args.level key node below leaves old c.args.new s can level_is) can.beside.is_space (root_apart _ _ table c.args.root.0 key node below leaves old c.args.new s can) (omega (arith, free)) in
    let up : RaisedUp pages from mid table c.args.root.0 key node below leaves old c.args.new s to =
    goes_raised_up pages from mid table c.args.root.0 c.args.level key node below leaves old c.args.new s to can level_is less full (subst (λ (n : ℕ). IsRaised n mid table c.args.root.0 c.args.level s to) shape raised.0) raised.1 r.inside (r.changes.others tells) in
    let some = free_taken pages 0 s can.beside.is_space.fresh_to free in
    let space = subst (λ (n : ℕ). IsSpace n mid (taken s)) (sym shape) up.can.beside.is_space in
    let halves = d.halves tells table node.names (taken s) raised.1 full space (moved_apart _ _ _ table c.args.root.0 key node below leaves old c.args.new s to up) (subst (λ (n : ℕ). 0 < free_pages n (taken s)) (sym shape) some) in
    let two = divided_root pages mid next table c.args.root.0 c.args.level key node below leaves old c.args.new s to c.in_ok-above.above from up level_is full
    (subst (λ (n : ℕ). IsInnerHalved n next table to c.args.level (with_name (c.args.new.key, c.args.new.page.0) node.names) (taken s) c.in_ok-above.above) shapes halves) (subst (λ (n : ℕ). c.in_ok-above.above.page.0 < n) shape d.inside) (d.changes.others tells) in
    let put = e.put tells table ((least_key, to) ∷ []) (top_stands pages mid next table c.args.root.0 c.args.level key node below leaves s to c.in_ok-above.above level_is two) (omega arith) in
    let whole = raised_whole pages from mid next last table c.args.root.0 c.args.level key node below leaves old c.args.new s to c.in_ok-above.above up two level_is put (e.changes.changes.others tells) in
    subst (λ (n : ℕ). HasGoneUp n from last table c.args.root.0 ((node ∷ []) ∷ []) below leaves s) (sym shapes_all) whole
