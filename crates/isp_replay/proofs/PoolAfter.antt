-- The frames of a pool: that some aren't pinned, which one holds a page, and that free ones hold none.
use Rattle.std.proofs.Common.{◌≡◌, ◌∙◌, ⊎_elim, ◌+◌, ◌<◌, ◌≤◌, Bool, false, cond, List, [], ◌∷◌, ℕ, suc, Option, Some, None, refl, sym, ap, arith, length, set, subst}
use Rattle.std.proofs.lemmas.Bool.{cases_eq}
use Rattle.std.specs.Option.{option_map}
use Rattle.std.specs.List.{count_by}
use Rattle.std.proofs.lemmas.List.Sums.{sum_by-cons}
use Rattle.isp_frames.specs.Held.{AreBelow, AreFree, IsHeldAt, NonePinned}
use Rattle.isp_frames.proofs.HeldLaws.{held_page}
use Rattle.isp_frames.proofs.NowLaws.{edited_is, frame_below, overwrite, set_cases, some_is}
use Rattle.isp_base.specs.declared.page_no.PageNo.{PageNo}
use Rattle.isp_pool.specs.declared.frames.Frame.{Frame}
use Rattle.isp_pool.specs.Frames.{PoolState, changed, frame_at, frame_in, is_pinned, loaded, one_if, page_of as page_in}
use Rattle.isp_pool.proofs.StateLaws.{edited_here, edited_other, held_from_page, held_is, loaded_count, loaded_here, loaded_other}

none_counted : (test : Option Frame → Bool) (frames : List (Option Frame)) → ((i : ℕ) → test (frame_in frames i) ≡ false) → count_by test frames ≡ 0
none_counted test [] none = refl
none_counted test (o ∷ frames) none =
    let first : one_if (test o) ≡ 0 = ap one_if (none 0) in
    let rest : count_by test frames ≡ 0 = none_counted test frames (λ i. none (suc i)) in
    sum_by-cons (λ f. cond (test f) 1 0) o frames ∙ (λ i. first i + rest i)

-- fewer than all are
pub fewer_pinned : (s : PoolState) → NonePinned s → 1 ≤ length s.frames → count_by is_pinned s.frames < length s.frames
fewer_pinned s none some =
    let count : count_by is_pinned s.frames ≡ 0 = none_counted is_pinned s.frames none in
    omega (arith, count, some)

-- a page came to stand in a frame

pub record IsHeld (o : Option Frame) (p : PageNo) : Type 0 where
  pub frame : Frame
  pub there : o ≡ Some frame
  pub page : frame.page ≡ p

pub held_in : (o : Option Frame) (p : PageNo) → page_in o ≡ Some p → IsHeld o p
held_in o p e =
    let is = held_is o (held_from_page o p e) in
    record { frame = is.0; there = is.1; page = some_is is.0.page p (ap page_in (sym is.1) ∙ e) }

pub frame_held : (p : PageNo) (i : ℕ) (old new : PoolState) → IsHeldAt p i old new → IsHeld (frame_at new i) p
frame_held p i old new held = held_in (frame_at new i) p (held_page p i old new held)

-- free frames hold no page
pub free_below : (s : PoolState) (pages : ℕ) → AreFree s → AreBelow pages s.frames
free_below s pages free i f e = let none : ◌≡◌ {A = Option Frame} None (Some f) = sym (free i) ∙ e in absurd (cc)

-- bytes were put into a page in a frame: the pages in frames are the file's still, and as few are pinned
pub changed_below : (s : PoolState) (i at : ℕ) (bytes : List ℕ) (p : PageNo) (pages : ℕ) → IsHeld (frame_at s i) p → AreBelow pages s.frames → AreBelow pages (changed s i at bytes).frames
changed_below s i at bytes p pages held below k h is =
    let f = held.frame in
    let set_is : (changed s i at bytes).frames ≡ set s.frames i (Some (overwrite at bytes f)) = edited_is s.frames i f (overwrite at bytes) held.there in
    ⊎_elim (λ mine. subst (λ (x : Frame). x.page.0 < pages) mine.1 (below i f held.there)) (λ other. below k h other.1)
    (set_cases s.frames i (overwrite at bytes f) (frame_below s.frames i f held.there) k h (ap (λ (fs : List (Option Frame)). frame_in fs k) (sym set_is) ∙ is))

pub changed_unpinned : (s : PoolState) (i at : ℕ) (bytes : List ℕ) (p : PageNo) → IsHeld (frame_at s i) p → NonePinned s → NonePinned (changed s i at bytes)
changed_unpinned s i at bytes p held none k = ⊎_elim
    (λ mine.
    let f = held.frame in
    ap (λ (n : ℕ). is_pinned (frame_at (changed s i at bytes) n)) mine
    ∙ ap is_pinned (edited_here s i (overwrite at bytes) (frame_below s.frames i f held.there) ∙ ap (option_map (overwrite at bytes)) held.there)
    ∙ ap is_pinned (sym held.there) ∙ none i)
    (λ away. ap is_pinned (edited_other s i (overwrite at bytes) k away) ∙ none k)
    (cases_eq k i)

pub held_unpinned : (p : PageNo) (i : ℕ) (old new : PoolState) → IsHeldAt p i old new → NonePinned old → NonePinned new
held_unpinned p i old new held none k = ⊎_elim
    (λ here. ap (λ (s : PoolState). is_pinned (frame_at s k)) here.1 ∙ none k)
    (λ read. ap (λ (s : PoolState). is_pinned (frame_at s k)) read.5 ∙ ⊎_elim
    (λ mine. ap (λ (n : ℕ). is_pinned (frame_at (loaded old i p read.0) n)) mine ∙ ap is_pinned (loaded_here old i p read.0 read.4))
    (λ away. ap is_pinned (loaded_other old i p read.0 k away) ∙ none k)
    (cases_eq k i))
    held

pub held_count : (p : PageNo) (i : ℕ) (old new : PoolState) → IsHeldAt p i old new → length new.frames ≡ length old.frames
held_count p i old new held = ⊎_elim
    (λ here. ap (λ (s : PoolState). length s.frames) here.1)
    (λ read. ap (λ (s : PoolState). length s.frames) read.5 ∙ loaded_count old i p read.0)
    held
