-- The state of a buffer pool: what each frame holds, and the order of use; what each call leaves of it.
use Rattle.std.specs.Prelude.{ℕ, ◌≡◌, ◌+◌, ◌<◌, ◌≤◌, Bool, true, false, not, ◌&&◌, cond, Option, Some, None, List, ◌∷◌, ◌++◌, take, drop, length, nat_eq, slice_index_or, slice_set, position, is_none}
use Rattle.std.specs.List.{IsDistinct}
use Rattle.std.specs.Option.{option_map, option_or}
use Rattle.isp_format.specs.Ranges.{page_bytes}
use Rattle.isp_format.specs.declared.page.Page.{Page}
use Rattle.isp_base.specs.declared.page_no.PageNo.{PageNo}
use Rattle.isp_recency.specs.Recent.{has, without, last_where}
pub use Rattle.isp_recency.specs.Recent.{most_frames}
use Rattle.isp_pool.specs.declared.frames.Frame.{Frame}

-- the frames by number, None where one is free, and the numbers of the others, the last used first
pub record PoolState : Type 0 where
  pub frames : List (Option Frame)
  pub recent : List ℕ

-- the frame of a number; past the last one there is none
abbrev pub frame_in : List (Option Frame) → ℕ → Option Frame
frame_in frames i = slice_index_or frames i None

abbrev pub frame_at : PoolState → ℕ → Option Frame
frame_at s i = frame_in s.frames i

-- what a frame has: whether there is a page at all, which one, its bytes, its flags
abbrev pub is_held : Option Frame → Bool
is_held None = false
is_held (Some f) = true

abbrev pub page_of : Option Frame → Option PageNo
page_of None = None
page_of (Some f) = Some f.page

abbrev pub content_of : Option Frame → Option Page
content_of None = None
content_of (Some f) = Some f.content

abbrev pub is_dirty : Option Frame → Bool
is_dirty None = false
is_dirty (Some f) = f.dirty

abbrev pub is_pinned : Option Frame → Bool
is_pinned None = false
is_pinned (Some f) = f.pinned

-- a page is there and may be evicted; it is dirty besides
abbrev pub is_unpinned : Option Frame → Bool
is_unpinned None = false
is_unpinned (Some f) = not f.pinned

abbrev pub is_cleanable : Option Frame → Bool
is_cleanable None = false
is_cleanable (Some f) = f.dirty && not f.pinned

-- the frames with one edited, where it holds a page
abbrev pub edited : List (Option Frame) → ℕ → (Frame → Frame) → List (Option Frame)
edited frames i edit = slice_set frames i (option_map edit (frame_in frames i))

abbrev pub with_frame : PoolState → ℕ → (Frame → Frame) → PoolState
with_frame s i edit = record { frames = edited s.frames i edit; recent = s.recent }

-- what a frame is good for: it holds the page; it may take another; its page may be written in its place
abbrev pub HoldsPage : PoolState → PageNo → ℕ → Type 0
HoldsPage s p i = (is_held (frame_at s i) ≡ true) × (page_of (frame_at s i) ≡ Some p)

abbrev pub MayGo : PoolState → ℕ → Type 0
MayGo s i = (i < length s.frames) × (is_pinned (frame_at s i) ≡ false)

abbrev pub MayBeCleaned : PoolState → ℕ → Type 0
MayBeCleaned s i = (is_held (frame_at s i) ≡ true) × (is_dirty (frame_at s i) ≡ true) × (is_pinned (frame_at s i) ≡ false)

-- bytes over those of a list, from a place on
abbrev pub overwritten : List ℕ → ℕ → List ℕ → List ℕ
overwritten xs at bytes = take at xs ++ (bytes ++ drop (at + length bytes) xs)

-- a frame with bytes written over those of its page; with these flags
abbrev pub rewritten : ℕ → List ℕ → Frame → Frame
rewritten at bytes f = record f { content = record { bytes = overwritten f.content.bytes at bytes } }

abbrev pub flagged : Bool → Bool → Frame → Frame
flagged dirty pinned f = record f { dirty = dirty; pinned = pinned }

-- what the calls leave
abbrev pub fresh_frame : PageNo → Page → Frame
fresh_frame p page = record { page = p; content = page; dirty = false; pinned = false }

abbrev pub loaded : PoolState → ℕ → PageNo → Page → PoolState
loaded s i p page = record { frames = slice_set s.frames i (Some (fresh_frame p page)); recent = i ∷ without s.recent i }

abbrev pub changed : PoolState → ℕ → ℕ → List ℕ → PoolState
changed s i at bytes = with_frame s i (λ f. record f { content = record { bytes = overwritten f.content.bytes at bytes }; dirty = true })

abbrev pub used : PoolState → ℕ → PoolState
used s i = record { frames = s.frames; recent = i ∷ without s.recent i }

-- the first free frame, else the last unpinned one of the order of use
abbrev pub victim_of : PoolState → Option ℕ
victim_of s = option_or (position is_none s.frames) (last_where (λ i. is_unpinned (frame_at s i)) s.recent)

-- what holds of every pool: no page stands in two frames; the order of use has each frame with a page, once; a page has its bytes
pub record IsPool (s : PoolState) : Type 0 where
  pub least : 0 < length s.frames
  pub most : length s.frames ≤ most_frames
  pub distinct : (i j : ℕ) (p : PageNo) → page_of (frame_at s i) ≡ Some p → page_of (frame_at s j) ≡ Some p → i ≡ j
  pub recent : (i : ℕ) → has s.recent i ≡ is_held (frame_at s i)
  pub once : IsDistinct nat_eq s.recent
  pub whole : (i : ℕ) (f : Frame) → frame_at s i ≡ Some f → length f.content.bytes ≡ page_bytes

-- the first free frame, or the count of frames
pub record IsFirstFree (frames : List (Option Frame)) (at : ℕ) : Type 0 where
  pub within : at ≤ length frames
  pub held : (j : ℕ) → j < at → is_held (frame_in frames j) ≡ true
  pub free : at < length frames → frame_in frames at ≡ None

abbrev pub one_if : Bool → ℕ
one_if b = cond b 1 0
