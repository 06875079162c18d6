use Rattle.std.proofs.Common.{rules, ◌≡◌, ℕ, ◌+◌, ◌-◌, ◌<◌, ◌≤◌, List, [], ◌∷◌, length, refl, sym, ◌∙◌, ap, subst, arith}
use Rattle.std.specs.Prelude.{slice_index}
use Rattle.std.proofs.lemmas.Result.{err_from_is_err_and}
use Rattle.isp_format.specs.Inner.{IsInnerPage}
use Rattle.isp_format.specs.Ranges.{Contents, page_of}
use Rattle.isp_levels.specs.Levels.{InnerNode}
use Rattle.isp_page.specs.State.{FileShape}
use Rattle.isp_page.specs.Steps.{IsNoDamage}
use Rattle.isp_space.specs.Spaces.{free_pages, taken}
use Rattle.isp_space.proofs.SpaceLaws.{space_behind}
use Rattle.isp_growing.specs.Rising.{CanGoUp}
use Rattle.isp_growing.proofs.MiniLaws.{err_is, goes_behind, goes_on, goes_one, may_behind, may_change, may_on}
use Rattle.isp_growing.proofs.RisingLaws.{at_top, can_behind, divided_in, here_of, is_full, long_next, not_full, on_next, room_in, spot_apart, through_in, top_in}
use Rattle.isp_growing.proofs.TakenLaws.{free_taken}
use Rattle.isp_growing.proofs.rising.+put_up.Goals as goal

pub returns-in_err-room-clause-sound : goal.returns-in_err-room-clause-sound
returns-in_err-room-clause-sound g t c tells table root key up below leaves old s can on free =
    let h = here_of _ _ table root key c.args.path.now c.args.level up below leaves old c.args.new s can on c.requires.to in
    let sound = c.in_err-room.ensures.sound tells table h.node.names h.stands in
    let p = err_from_is_err_and c.from_residual.result c.from_residual.ensures.1 in
    err_is IsNoDamage c.from_residual.result _ _ p.1 p.2 sound

pub put_entry-requires-clause-can : goal.put_entry-requires-clause-can
put_entry-requires-clause-can g t c =
    let r = c.in_ok-room.ensures.reads in
    let to = c.requires.to in
    let low = c.requires.low in
    may_change g.P.Pages c.args.level 1 _ (may_behind g.P.Pages c.args.level _ _ c.requires.can r.kept.keeps.goes_on.can r.mini) (omega (arith, to, low))

pub returns-in_err-put_entry-clause-sound : goal.returns-in_err-put_entry-clause-sound
returns-in_err-put_entry-clause-sound g t c tells table root key up below leaves old s can on free =
    let from = g.P.Pages.contents c.args.pages.now in
    let mid = g.P.Pages.contents c.has_entry_room.new.pages in
    let pages = (g.P.Pages.shape c.args.pages.now).pages in
    let path = c.args.path.now in
    let at = c.args.level in
    let n = c.args.new in
    let page = slice_index path.pages at in
    let r = c.in_ok-room.ensures in
    let same : mid ≡ from = r.reads.contents tells in
    let shape : (g.P.Pages.shape c.has_entry_room.new.pages).pages ≡ pages = ap (λ (s : FileShape). s.pages) r.reads.kept.keeps.same_shape in
    let h = here_of pages from table root key path at up below leaves old n s can on c.requires.to in
    let names = h.node.names in
    let said = r.room tells table names h.stands in
    let stands : IsInnerPage (page_of mid page) table page at names = subst (λ (x : Contents). IsInnerPage (page_of x page) table page at names) (sym same) h.stands in
    let sound = c.in_err-put_entry.ensures.sound tells table names stands (not_full (length names) c.in_ok-room.room said c.if-room.true) in
    let p = err_from_is_err_and c.from_residual-in_err-put_entry.result c.from_residual-in_err-put_entry.ensures.1 in
    err_is IsNoDamage c.from_residual-in_err-put_entry.result _ _ p.1 p.2 sound

pub returns-in_ok-put_entry-clause-changes : goal.returns-in_ok-put_entry-clause-changes
returns-in_ok-put_entry-clause-changes g t c =
    let r = c.in_ok-room.ensures.reads in
    let to = c.requires.to in
    let low = c.requires.low in
    goes_behind g.P.Pages c.args.level _ _ _ r.contents r.mini (goes_one g.P.Pages c.args.level _ _ _ (omega (arith, to, low)) c.in_ok-put_entry.ensures.changes.changes)

pub returns-in_ok-put_entry-clause-put : goal.returns-in_ok-put_entry-clause-put
returns-in_ok-put_entry-clause-put g t c tells table root key up below leaves old s can on free =
    let from = g.P.Pages.contents c.args.pages.now in
    let mid = g.P.Pages.contents c.has_entry_room.new.pages in
    let pages = (g.P.Pages.shape c.args.pages.now).pages in
    let path = c.args.path.now in
    let at = c.args.level in
    let n = c.args.new in
    let page = slice_index path.pages at in
    let r = c.in_ok-room.ensures in
    let same : mid ≡ from = r.reads.contents tells in
    let shape : (g.P.Pages.shape c.has_entry_room.new.pages).pages ≡ pages = ap (λ (s : FileShape). s.pages) r.reads.kept.keeps.same_shape in
    let h = here_of pages from table root key path at up below leaves old n s can on c.requires.to in
    let names = h.node.names in
    let said = r.room tells table names h.stands in
    let stands : IsInnerPage (page_of mid page) table page at names = subst (λ (x : Contents). IsInnerPage (page_of x page) table page at names) (sym same) h.stands in
    let e = c.in_ok-put_entry.ensures in
    let put = e.put tells table names stands (not_full (length names) c.in_ok-room.room said c.if-room.true) in
    room_in pages from table root key path at up below leaves old n s h (g.P.Pages.shape c.put_entry.new.pages).pages mid (g.P.Pages.contents c.put_entry.new.pages) (ap (λ (s : FileShape). s.pages) e.changes.kept.keeps.same_shape ∙ shape) same put (e.changes.changes.others tells)

pub raise_up-requires-clause-can : goal.raise_up-requires-clause-can
raise_up-requires-clause-can g t c =
    let r = c.in_ok-room.ensures.reads in
    may_behind g.P.Pages c.args.level _ _ c.requires.can r.kept.keeps.goes_on.can r.mini

pub returns-in_err-raise_up-clause-sound : goal.returns-in_err-raise_up-clause-sound
returns-in_err-raise_up-clause-sound g t c tells table root key up below leaves old s can on free =
    let from = g.P.Pages.contents c.args.pages.now in
    let mid = g.P.Pages.contents c.has_entry_room.new.pages in
    let pages = (g.P.Pages.shape c.args.pages.now).pages in
    let path = c.args.path.now in
    let at = c.args.level in
    let n = c.args.new in
    let page = slice_index path.pages at in
    let r = c.in_ok-room.ensures in
    let same : mid ≡ from = r.reads.contents tells in
    let shape : (g.P.Pages.shape c.has_entry_room.new.pages).pages ≡ pages = ap (λ (s : FileShape). s.pages) r.reads.kept.keeps.same_shape in
    let h = here_of pages from table root key path at up below leaves old n s can on c.requires.to in
    let names = h.node.names in
    let said = r.room tells table names h.stands in
    let stands : IsInnerPage (page_of mid page) table page at names = subst (λ (x : Contents). IsInnerPage (page_of x page) table page at names) (sym same) h.stands in
    let full = is_full (length names) c.in_ok-room.room said c.if-room.false h.stands.most in
    let t = at_top pages from table root key path at up below leaves old n s h (sym c.if-level-path.true) in
    let long = ap (λ (u : List (List InnerNode)). length u) t.up_is in
    let sound = c.in_err-raise_up.ensures.sound tells table key h.node below leaves old s (can_behind pages _ from mid table page key ((h.node ∷ []) ∷ []) below leaves old n s shape same t.can) h.level_is full (subst (λ (k : ℕ). 1 < free_pages k s) (sym shape) (omega (arith, free, long))) in
    let p = err_from_is_err_and c.from_residual-in_err-raise_up.result c.from_residual-in_err-raise_up.ensures.1 in
    err_is IsNoDamage c.from_residual-in_err-raise_up.result _ _ p.1 p.2 sound

pub returns-in_ok-raise_up-clause-changes : goal.returns-in_ok-raise_up-clause-changes
returns-in_ok-raise_up-clause-changes g t c =
    let r = c.in_ok-room.ensures.reads in
    goes_behind g.P.Pages c.args.level _ _ _ r.contents r.mini c.in_ok-raise_up.ensures.changes

pub returns-in_ok-raise_up-clause-put : goal.returns-in_ok-raise_up-clause-put
returns-in_ok-raise_up-clause-put g t c tells table root key up below leaves old s can on free =
    let from = g.P.Pages.contents c.args.pages.now in
    let mid = g.P.Pages.contents c.has_entry_room.new.pages in
    let pages = (g.P.Pages.shape c.args.pages.now).pages in
    let path = c.args.path.now in
    let at = c.args.level in
    let n = c.args.new in
    let page = slice_index path.pages at in
    let r = c.in_ok-room.ensures in
    let same : mid ≡ from = r.reads.contents tells in
    let shape : (g.P.Pages.shape c.has_entry_room.new.pages).pages ≡ pages = ap (λ (s : FileShape). s.pages) r.reads.kept.keeps.same_shape in
    let h = here_of pages from table root key path at up below leaves old n s can on c.requires.to in
    let names = h.node.names in
    let said = r.room tells table names h.stands in
    let stands : IsInnerPage (page_of mid page) table page at names = subst (λ (x : Contents). IsInnerPage (page_of x page) table page at names) (sym same) h.stands in
    let full = is_full (length names) c.in_ok-room.room said c.if-room.false h.stands.most in
    let t = at_top pages from table root key path at up below leaves old n s h (sym c.if-level-path.true) in
    let long = ap (λ (u : List (List InnerNode)). length u) t.up_is in
    let put = c.in_ok-raise_up.ensures.put tells table key h.node below leaves old s (can_behind pages _ from mid table page key ((h.node ∷ []) ∷ []) below leaves old n s shape same t.can) h.level_is full (subst (λ (k : ℕ). 1 < free_pages k s) (sym shape) (omega (arith, free, long))) in
    top_in pages from table root key path at up below leaves old n s h (g.P.Pages.shape c.raise_up.new.pages).pages mid (g.P.Pages.contents c.raise_up.new.pages) same t put

pub divide_inner-requires-clause-can : goal.divide_inner-requires-clause-can
divide_inner-requires-clause-can g t c =
    let r = c.in_ok-room.ensures.reads in
    let to = c.requires.to in
    let low = c.requires.low in
    let top = c.if-level-path.false in
    let less : c.args.level < c.args.path.now.height = grind (arith, to, top) in
    may_change g.P.Pages c.args.level 3 _ (may_behind g.P.Pages c.args.level _ _ c.requires.can r.kept.keeps.goes_on.can r.mini) (omega (arith, less, low))

pub returns-in_err-above-clause-sound : goal.returns-in_err-above-clause-sound
returns-in_err-above-clause-sound g t c tells table root key up below leaves old s can on free =
    let from = g.P.Pages.contents c.args.pages.now in
    let mid = g.P.Pages.contents c.has_entry_room.new.pages in
    let pages = (g.P.Pages.shape c.args.pages.now).pages in
    let path = c.args.path.now in
    let at = c.args.level in
    let n = c.args.new in
    let page = slice_index path.pages at in
    let r = c.in_ok-room.ensures in
    let same : mid ≡ from = r.reads.contents tells in
    let shape : (g.P.Pages.shape c.has_entry_room.new.pages).pages ≡ pages = ap (λ (s : FileShape). s.pages) r.reads.kept.keeps.same_shape in
    let h = here_of pages from table root key path at up below leaves old n s can on c.requires.to in
    let names = h.node.names in
    let said = r.room tells table names h.stands in
    let stands : IsInnerPage (page_of mid page) table page at names = subst (λ (x : Contents). IsInnerPage (page_of x page) table page at names) (sym same) h.stands in
    let full = is_full (length names) c.in_ok-room.room said c.if-room.false h.stands.most in
    let space = space_behind _ _ _ _ s shape same h.can.beside.is_space in
    let apart = spot_apart pages from table root key path at up below leaves old n s h in
    let long = long_next pages from table root key path at up below leaves old n s h free in
    let some = subst (λ (k : ℕ). 0 < free_pages k s) (sym shape) (omega (arith, long)) in
    let sound = c.in_err-above.ensures.sound tells table names s stands full space apart some in
    let p = err_from_is_err_and c.from_residual-in_err-above.result c.from_residual-in_err-above.ensures.1 in
    err_is IsNoDamage c.from_residual-in_err-above.result _ _ p.1 p.2 sound

pub put_up-requires : goal.put_up-requires
put_up-requires g t c =
    let r = c.in_ok-room.ensures.reads in
    let d = c.in_ok-above.ensures in
    let to = c.requires.to in
    let top = c.if-level-path.false in
    let less : c.args.level + 1 ≤ c.args.path.now.height = grind (arith, to, top) in
    let smaller : c.args.path.now.height - (c.args.level + 1) < c.args.path.now.height - c.args.level = omega (arith, less) in
    let shape : (g.P.Pages.shape c.divide_inner.new.pages).pages ≡ (g.P.Pages.shape c.args.pages.now).pages = ap (λ (s : FileShape). s.pages) (d.kept.keeps.same_shape ∙ r.kept.keeps.same_shape) in
    let can = may_on g.P.Pages c.args.level (c.args.level + 1) c.in_ok-above.above.page.0 _ _ _ refl (may_behind g.P.Pages c.args.level _ _ c.requires.can r.kept.keeps.goes_on.can r.mini) d.kept.keeps.goes_on.can d.changes in
    let inside : (k : ℕ) → slice_index c.args.path.now.pages k < (g.P.Pages.shape c.divide_inner.new.pages).pages = λ k. subst (λ (n : ℕ). slice_index c.args.path.now.pages k < n) (sym shape) (c.requires.inside k) in
    λ κs sub. (search (rules, smaller, c.decreases), (search rules, (can, (inside, (less, c.requires.low)))))

pub returns-in_ok-put_up-clause-changes : goal.returns-in_ok-put_up-clause-changes
returns-in_ok-put_up-clause-changes g t c =
    let r = c.in_ok-room.ensures.reads in
    goes_behind g.P.Pages c.args.level _ _ _ r.contents r.mini (goes_on g.P.Pages c.args.level (c.args.level + 1) c.in_ok-above.above.page.0 _ _ _ _ refl c.in_ok-above.ensures.changes c.in_ok-put_up.ensures.changes)

pub returns-in_err-put_up-clause-sound : goal.returns-in_err-put_up-clause-sound
returns-in_err-put_up-clause-sound g t c tells table root key up below leaves old s can on free =
    let from = g.P.Pages.contents c.args.pages.now in
    let mid = g.P.Pages.contents c.has_entry_room.new.pages in
    let pages = (g.P.Pages.shape c.args.pages.now).pages in
    let path = c.args.path.now in
    let at = c.args.level in
    let n = c.args.new in
    let page = slice_index path.pages at in
    let r = c.in_ok-room.ensures in
    let same : mid ≡ from = r.reads.contents tells in
    let shape : (g.P.Pages.shape c.has_entry_room.new.pages).pages ≡ pages = ap (λ (s : FileShape). s.pages) r.reads.kept.keeps.same_shape in
    let h = here_of pages from table root key path at up below leaves old n s can on c.requires.to in
    let names = h.node.names in
    let said = r.room tells table names h.stands in
    let stands : IsInnerPage (page_of mid page) table page at names = subst (λ (x : Contents). IsInnerPage (page_of x page) table page at names) (sym same) h.stands in
    let full = is_full (length names) c.in_ok-room.room said c.if-room.false h.stands.most in
    let space = space_behind _ _ _ _ s shape same h.can.beside.is_space in
    let apart = spot_apart pages from table root key path at up below leaves old n s h in
    let long = long_next pages from table root key path at up below leaves old n s h free in
    let some = subst (λ (k : ℕ). 0 < free_pages k s) (sym shape) (omega (arith, long)) in
    let next = g.P.Pages.contents c.divide_inner.new.pages in
    let d = c.in_ok-above.ensures in
    let entry = c.in_ok-above.above in
    let shapes : (g.P.Pages.shape c.divide_inner.new.pages).pages ≡ pages = ap (λ (s : FileShape). s.pages) d.kept.keeps.same_shape ∙ shape in
    let two = divided_in pages from table root key path at up below leaves old n s h _ mid next entry shapes same full (d.halves tells table names s stands full space apart some) (subst (λ (k : ℕ). entry.page.0 < k) shape d.inside) (d.changes.others tells) in
    let on_now = on_next pages from table root key path at up below leaves old n s h two.now in
    let can_now = subst (λ (k : ℕ). CanGoUp k next table root key h.rest (two.now ∷ below) leaves (h.node.low, h.node.page) entry (taken s)) (sym shapes) two.can in
    let free_now = subst (λ (k : ℕ). length h.rest < free_pages k (taken s)) (sym shapes) (free_taken pages (length h.rest) s h.can.beside.is_space.fresh_to long) in
    let sound = c.in_err-put_up.ensures.sound tells table root key h.rest (two.now ∷ below) leaves (h.node.low, h.node.page) (taken s) can_now on_now free_now in
    let p = err_from_is_err_and c.from_residual-in_err-put_up.result c.from_residual-in_err-put_up.ensures.1 in
    err_is IsNoDamage c.from_residual-in_err-put_up.result _ _ p.1 p.2 sound

pub returns-in_ok-put_up-clause-put : goal.returns-in_ok-put_up-clause-put
returns-in_ok-put_up-clause-put g t c tells table root key up below leaves old s can on free =
    let from = g.P.Pages.contents c.args.pages.now in
    let mid = g.P.Pages.contents c.has_entry_room.new.pages in
    let pages = (g.P.Pages.shape c.args.pages.now).pages in
    let path = c.args.path.now in
    let at = c.args.level in
    let n = c.args.new in
    let page = slice_index path.pages at in
    let r = c.in_ok-room.ensures in
    let same : mid ≡ from = r.reads.contents tells in
    let shape : (g.P.Pages.shape c.has_entry_room.new.pages).pages ≡ pages = ap (λ (s : FileShape). s.pages) r.reads.kept.keeps.same_shape in
    let h = here_of pages from table root key path at up below leaves old n s can on c.requires.to in
    let names = h.node.names in
    let said = r.room tells table names h.stands in
    let stands : IsInnerPage (page_of mid page) table page at names = subst (λ (x : Contents). IsInnerPage (page_of x page) table page at names) (sym same) h.stands in
    let full = is_full (length names) c.in_ok-room.room said c.if-room.false h.stands.most in
    let space = space_behind _ _ _ _ s shape same h.can.beside.is_space in
    let apart = spot_apart pages from table root key path at up below leaves old n s h in
    let long = long_next pages from table root key path at up below leaves old n s h free in
    let some = subst (λ (k : ℕ). 0 < free_pages k s) (sym shape) (omega (arith, long)) in
    let next = g.P.Pages.contents c.divide_inner.new.pages in
    let d = c.in_ok-above.ensures in
    let entry = c.in_ok-above.above in
    let shapes : (g.P.Pages.shape c.divide_inner.new.pages).pages ≡ pages = ap (λ (s : FileShape). s.pages) d.kept.keeps.same_shape ∙ shape in
    let shapes_all : (g.P.Pages.shape c.put_up.new.pages).pages ≡ pages = ap (λ (s : FileShape). s.pages) c.in_ok-put_up.ensures.kept.keeps.same_shape ∙ shapes in
    let two = divided_in pages from table root key path at up below leaves old n s h _ mid next entry shapes same full (d.halves tells table names s stands full space apart some) (subst (λ (k : ℕ). entry.page.0 < k) shape d.inside) (d.changes.others tells) in
    let on_now = on_next pages from table root key path at up below leaves old n s h two.now in
    let can_now = subst (λ (k : ℕ). CanGoUp k next table root key h.rest (two.now ∷ below) leaves (h.node.low, h.node.page) entry (taken s)) (sym shapes) two.can in
    let free_now = subst (λ (k : ℕ). length h.rest < free_pages k (taken s)) (sym shapes) (free_taken pages (length h.rest) s h.can.beside.is_space.fresh_to long) in
    let put = c.in_ok-put_up.ensures.put tells table root key h.rest (two.now ∷ below) leaves (h.node.low, h.node.page) (taken s) can_now on_now free_now in
    through_in pages from table root key path at up below leaves old n s h _ next (g.P.Pages.contents c.put_up.new.pages) entry shapes_all two put
