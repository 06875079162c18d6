-- A pool after a page came to stand in a frame, and after its bytes were changed.
use Rattle.std.proofs.Common.{◌≡◌, ◌∙◌, ⊎_elim, ◌+◌, ◌*◌, ◌<◌, ◌≤◌, List, ℕ, Option, Some, None, refl, ap, subst, length}
use Rattle.isp_disk.specs.Moments.{put}
use Rattle.isp_format.specs.Ranges.{Contents, page_bytes}
use Rattle.isp_frames.specs.Held.{AreBelow, IsHeldAt, now_over, pinned_places}
use Rattle.isp_format.specs.declared.page.Page.{Page}
use Rattle.isp_base.specs.declared.page_no.PageNo.{PageNo}
use Rattle.isp_pool.specs.declared.frames.Frame.{Frame}
use Rattle.isp_pool.specs.Frames.{IsPool, PoolState, changed, frame_at, frame_in, fresh_frame, loaded, page_of as page_in, used}
use Rattle.isp_frames.proofs.NowLaws.{changed_now, edited_is, overwrite, pool_apart, set_cases, set_here, some_is}
use Rattle.isp_frames.proofs.PinLaws.{kept_pin}

frames_are : (s t : PoolState) → s ≡ t → s.frames ≡ t.frames
frames_are s t e = ap (λ (x : PoolState). x.frames) e

-- the frame has the page, and the others have what they had
pub held_page : (p : PageNo) (i : ℕ) (old new : PoolState) → IsHeldAt p i old new → page_in (frame_at new i) ≡ Some p
held_page p i old new held =
    ⊎_elim (λ there. ap (λ (fs : List (Option Frame)). page_in (frame_in fs i)) (frames_are new (used old i) there.1) ∙ there.0)
    (λ came.
    ap (λ (fs : List (Option Frame)). page_in (frame_in fs i)) (frames_are new (loaded old i p came.0) came.5)
    ∙ ap page_in (set_here old.frames i (fresh_frame p came.0) came.4))
    held

-- all pages in frames are the file's, where the new one is
pub loaded_below : (s : PoolState) (i : ℕ) (p : PageNo) (page : Page) (pages : ℕ) → i < length s.frames → p.0 < pages → AreBelow pages s.frames → AreBelow pages (loaded s i p page).frames
loaded_below s i p page pages within low below = λ k f there.
    ⊎_elim (λ mine. subst (λ (x : Frame). x.page.0 < pages) mine.1 low) (λ other. below k f other.1)
    (set_cases s.frames i (fresh_frame p page) within k f there)

-- bytes of a page were changed
pub change_now : (s : PoolState) (placed : Contents) (i at : ℕ) (bytes : List ℕ) (f : Frame) → IsPool s → frame_at s i ≡ Some f → at + length bytes ≤ 4096
    → now_over (changed s i at bytes).frames placed ≡ put (now_over s.frames placed) (f.page.0 * page_bytes + at) bytes
change_now s placed i at bytes f pool e fits = changed_now s.frames placed i at bytes f (pool_apart s pool) e fits

pub change_pins : (s : PoolState) (i at : ℕ) (bytes : List ℕ) (f : Frame) → frame_at s i ≡ Some f → pinned_places (changed s i at bytes).frames ≡ pinned_places s.frames
change_pins s i at bytes f e =
    ap pinned_places (edited_is s.frames i f (overwrite at bytes) e) ∙ kept_pin s.frames i f (overwrite at bytes f) e refl refl

-- the page and the frame of one that holds it
pub holding : (s : PoolState) (i : ℕ) (p : PageNo) → page_in (frame_at s i) ≡ Some p → (f : Frame) × (frame_at s i ≡ Some f) × (f.page ≡ p)
holding s i p is = of (frame_at s i) refl is
  where
    of : (o : Option Frame) → frame_at s i ≡ o → page_in o ≡ Some p → (f : Frame) × (frame_at s i ≡ Some f) × (f.page ≡ p)
    of None there number = absurd (cc)
    of (Some f) there number = (f, there, some_is f.page p number)
