-- What the frames of a pool hold over the pages that stand in their places.
use Rattle.std.specs.Prelude.{◌≡◌, ◌≢◌, ◌⊎◌, ℕ, ◌+◌, ◌*◌, ◌<◌, Bool, true, false, List, [], ◌∷◌, Option, Some, None, count_by, length, min}
use Rattle.isp_disk.specs.Moments.{Region, either, in_range, no_place}
use Rattle.isp_format.specs.Doublewrite.{most_copies}
use Rattle.isp_format.specs.Ranges.{Contents, Range, page_bytes, page_of, puts}
use Rattle.isp_format.specs.declared.page.Page.{Page}
use Rattle.isp_base.specs.declared.page_no.PageNo.{PageNo}
use Rattle.isp_pool.specs.Frames.{PoolState, frame_at, frame_in, is_cleanable, is_dirty, is_held, is_pinned, loaded, page_of as page_in, used, victim_of, with_frame}
use Rattle.isp_pool.specs.declared.frames.Frame.{Frame}
use Rattle.isp_recency.specs.Recent.{has, last_where}

-- the page of a frame as a range, whole
abbrev pub whole_frame : Frame → Range
whole_frame frame = record { page = frame.page.0; at = 0; bytes = frame.content.bytes }

-- the pages that the frames hold
abbrev pub held_pages : List (Option Frame) → List Range
held_pages [] = []
held_pages (None ∷ frames) = held_pages frames
held_pages (Some frame ∷ frames) = whole_frame frame ∷ held_pages frames

-- the contents now: the pages that stand in their places, with those in the frames put over them
abbrev pub now_over : List (Option Frame) → Contents → Contents
now_over frames placed = puts (held_pages frames) placed

-- the places of a page's bytes in the contents
abbrev pub page_places : ℕ → Region
page_places page = in_range (page * page_bytes) page_bytes

-- the places of the pinned pages
abbrev pub pinned_places : List (Option Frame) → Region
pinned_places [] = no_place
pinned_places (None ∷ frames) = pinned_places frames
pinned_places (Some frame ∷ frames) = if_pinned frame.pinned (page_places frame.page.0) (pinned_places frames)
  where
    if_pinned : Bool → Region → Region → Region
    if_pinned true first rest = either first rest
    if_pinned false first rest = rest

-- each page in a frame that isn't dirty is as it stands in its place
abbrev pub AreClean : List (Option Frame) → Contents → Type 0
AreClean frames placed = (i : ℕ) (frame : Frame) → frame_in frames i ≡ Some frame → frame.dirty ≡ false → frame.content.bytes ≡ page_of placed frame.page.0

-- each page in a frame is one of the file's
abbrev pub AreBelow : ℕ → List (Option Frame) → Type 0
AreBelow pages frames = (i : ℕ) (frame : Frame) → frame_in frames i ≡ Some frame → frame.page.0 < pages

-- no page stands in two frames, and a page has its bytes
pub record AreApart (frames : List (Option Frame)) : Type 0 where
  pub distinct : (i j : ℕ) (p : PageNo) → page_in (frame_in frames i) ≡ Some p → page_in (frame_in frames j) ≡ Some p → i ≡ j
  pub whole : (i : ℕ) (f : Frame) → frame_in frames i ≡ Some f → length f.content.bytes ≡ page_bytes

-- no frame holds a page that has to stay; no frame is dirty; all frames are free
abbrev pub NonePinned : PoolState → Type 0
NonePinned s = (i : ℕ) → is_pinned (frame_at s i) ≡ false

abbrev pub NoneDirty : PoolState → Type 0
NoneDirty s = (i : ℕ) → is_dirty (frame_at s i) ≡ false

abbrev pub AreFree : PoolState → Type 0
AreFree s = (i : ℕ) → frame_at s i ≡ None

-- The page came to stand in a frame: it stood there, and was used; or it was read into the frame that is next to go.
abbrev pub IsHeldAt : PageNo → ℕ → PoolState → PoolState → Type 0
IsHeldAt p i old new =
    ((page_in (frame_at old i) ≡ Some p) × (new ≡ used old i))
    ⊎ ((page : Page) × ((k : ℕ) → page_in (frame_at old k) ≢ Some p) × (victim_of old ≡ Some i) × (is_pinned (frame_at old i) ≡ false) × (i < length old.frames) × (new ≡ loaded old i p page))

-- the page stands in a frame; it came to stand in one
abbrev pub Holds : PoolState → PageNo → Type 0
Holds s p = (i : ℕ) × (page_in (frame_at s i) ≡ Some p)

abbrev pub BringsIn : PageNo → PoolState → PoolState → Type 0
BringsIn p old new = (i : ℕ) × IsHeldAt p i old new

-- what the frame of a page has was edited so, and nothing else was done
abbrev pub EditsPage : PageNo → (Frame → Frame) → PoolState → PoolState → Type 0
EditsPage p edit old new = (i : ℕ) → page_in (frame_at old i) ≡ Some p → new ≡ with_frame old i edit

-- the frame but for whether it is dirty
abbrev pub but_dirty : Option Frame → Option (PageNo × (Page × Bool))
but_dirty None = None
but_dirty (Some frame) = Some (frame.page, (frame.content, frame.pinned))

-- some pages were cleaned, and nothing else was done
pub record IsCleaned (old new : PoolState) : Type 0 where
  pub count : length new.frames ≡ length old.frames
  pub recent : new.recent ≡ old.recent
  pub frames : (i : ℕ) → but_dirty (frame_at new i) ≡ but_dirty (frame_at old i)

-- one number stands before another in a list
abbrev pub StandsBefore : ℕ → ℕ → List ℕ → Type 0
StandsBefore i j [] = ⊥
StandsBefore i j (x ∷ xs) = ((x ≡ i) × (has xs j ≡ true)) ⊎ StandsBefore i j xs

-- each dirty frame that was left was used later than each that was cleaned
abbrev pub LeavesLaterUsed : PoolState → PoolState → Type 0
LeavesLaterUsed old new =
    (i j : ℕ) → is_dirty (frame_at new i) ≡ true → is_dirty (frame_at old j) ≡ true → is_dirty (frame_at new j) ≡ false
    → StandsBefore i j old.recent

-- The dirty pages that were used the longest ago were cleaned, 64 at most and so many.
pub record CleansSome (old new : PoolState) (cleaned : ℕ) : Type 0 where
  pub count : cleaned ≡ min most_copies (count_by is_dirty old.frames)
  pub left : count_by is_dirty new.frames + cleaned ≡ count_by is_dirty old.frames
  pub others : IsCleaned old new
  pub order : LeavesLaterUsed old new

-- the frame is dirty, unpinned, and of those the one that was used the longest ago
pub record IsNextDirty (i : ℕ) (s : PoolState) : Type 0 where
  pub held : is_held (frame_at s i) ≡ true
  pub dirty : is_dirty (frame_at s i) ≡ true
  pub next : Some i ≡ last_where (λ k. is_cleanable (frame_at s k)) s.recent

-- the page in a frame with its number
abbrev pub numbered : Option Frame → Option (PageNo × Page)
numbered None = None
numbered (Some frame) = Some (frame.page, frame.content)

-- the pool after a frame was cleaned
abbrev pub cleaned_at : PoolState → ℕ → PoolState
cleaned_at s i = with_frame s i (λ f. record f { dirty = false })

-- the frame is the one that is next to go
pub record IsRoom (i : ℕ) (s : PoolState) : Type 0 where
  pub next : victim_of s ≡ Some i
  pub within : i < length s.frames
  pub unpinned : is_pinned (frame_at s i) ≡ false

-- the frame is free, or clean and unpinned, and no frame holds the page that it is to take
pub record CanTake (i : ℕ) (p : PageNo) (s : PoolState) : Type 0 where
  pub within : i < length s.frames
  pub clean : is_dirty (frame_at s i) ≡ false
  pub unpinned : is_pinned (frame_at s i) ≡ false
  pub absent : (k : ℕ) → page_in (frame_at s k) ≢ Some p
