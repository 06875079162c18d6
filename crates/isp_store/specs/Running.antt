-- What holds of a store between two calls while no call of the disk has failed, and what each call leaves of it.
use Rattle.std.specs.Prelude.{◌≡◌, ◌≢◌, ◌⊎◌, ℕ, ◌<◌, ◌≤◌, true, All, List, [], Result, OnOk, length, count_by, vec_capacity, Some, None}
use Rattle.isp_disk.specs.Moments.{Agree, Quiet}
use Rattle.isp_disk.specs.declared.world.World.{Ghosts}
use Rattle.isp_format.specs.Contents.{StandsFor}
use Rattle.isp_format.specs.Doublewrite.{most_copies}
use Rattle.isp_format.specs.Ranges.{Contents}
use Rattle.isp_frames.specs.Cached.{now}
use Rattle.isp_frames.specs.Held.{AreApart, AreBelow, AreClean, now_over}
use Rattle.isp_frames.specs.declared.cache.Cache.{Cache}
use Rattle.isp_mini.specs.Extents.{AreExtents, extent_cover, largest_body}
use Rattle.isp_mini.specs.declared.changes.Extent.{Extent}
use Rattle.isp_page.specs.Steps.{Or}
use Rattle.isp_base.specs.declared.page_no.PageNo.{PageNo}
use Rattle.isp_pool.specs.Frames.{PoolState, frame_at, is_dirty, is_held, is_pinned, page_of as page_in}
use Rattle.isp_pool.specs.declared.frames.Frame.{Frame}
use Rattle.isp_stable.specs.File.{ArePagesOf, HasRoomFor, IsFile, KeepsStable, LaysOnly, StandsOnly, flushed, placed}

-- a page that was changed stands in a frame, and is pinned there
abbrev pub IsPinnedIn : PoolState → Extent → Type 0
IsPinnedIn pool extent = (i : ℕ) × (frame : Frame) × (frame_at pool i ≡ Some frame) × (frame.page.0 ≡ extent.page.0) × (frame.pinned ≡ true)

-- The frames hold pages of the file; the pinned ones are those that the open mini-transaction changed.
pub record AreFrames (pages : ℕ) (pool : PoolState) (open_ranges : List Extent) : Type 0 where
  pub many : most_copies ≤ length pool.frames
  pub apart : AreApart pool.frames
  pub below : AreBelow pages pool.frames
  pub pins : count_by is_pinned pool.frames ≤ length open_ranges
  pub pinned : All (IsPinnedIn pool) open_ranges
  pub inside : All (λ extent. extent.page.0 < pages) open_ranges
  pub extents : AreExtents open_ranges

-- a frame is free; no frame is
abbrev pub IsFree : PoolState → ℕ → Type 0
IsFree pool i = frame_at pool i ≡ None

abbrev pub AreAllHeld : PoolState → Type 0
AreAllHeld pool = (i : ℕ) → i < length pool.frames → is_held (frame_at pool i) ≡ true

-- the same pages stand in the same frames
abbrev pub HoldSame : PoolState → PoolState → Type 0
HoldSame old new = (i : ℕ) → page_in (frame_at new i) ≡ page_in (frame_at old i)

-- The page is held, and so is each that was: only where it was not held, and no frame was free, has one gone, and alone.
pub record IsHeldAfter (p : PageNo) (old new : PoolState) : Type 0 where
  pub count : length new.frames ≡ length old.frames
  pub held : ((i : ℕ) × (page_in (frame_at old i) ≡ Some p) × HoldSame old new)
      ⊎ ((i : ℕ) × ((k : ℕ) → page_in (frame_at old k) ≢ Some p) × (page_in (frame_at new i) ≡ Some p) × (IsFree old i ⊎ AreAllHeld old) × ((k : ℕ) → k ≢ i → page_in (frame_at new k) ≡ page_in (frame_at old k)))

-- Some pages were unpinned, and those that these extents changed are still pinned.
pub record IsUnpinned (pages : ℕ) (old new : PoolState) (open_ranges : List Extent) : Type 0 where
  pub frames : AreFrames pages new open_ranges
  pub now_is : (placed : Contents) → now_over new.frames placed ≡ now_over old.frames placed
  pub clean : (placed : Contents) → AreClean old.frames placed → AreClean new.frames placed
  pub dirty : count_by is_dirty new.frames ≡ count_by is_dirty old.frames
  pub held : HoldSame old new
  pub count : length new.frames ≡ length old.frames

module _ {W : Type 0} (g : Ghosts W) where
  -- Clean frames are as their pages stand in their places, and only in what the open mini-transaction changed do the
  -- contents now differ from those that the file stands for.
  pub record IsAlong (s : Cache W) (open_ranges : List Extent) : Type 0 where
    pub file : IsFile g s.stable
    pub clean : AreClean s.pool.frames (placed g s.stable)
    pub differs : Agree (extent_cover open_ranges) (flushed g s.stable file.batches) (now g s)

  pub record IsRunning (s : Cache W) (open_ranges : List Extent) : Type 0 where
    pub quiet : Quiet (g.pending s.stable.world)
    pub frames : AreFrames s.stable.pages s.pool open_ranges
    -- the log has room for the largest body
    pub room : open_ranges ≢ [] → HasRoomFor s.stable largest_body
    -- there is room for a batch of 64 pages
    pub batch : most_copies ≤ vec_capacity s.batch
    pub along : g.tells → IsAlong s open_ranges

  -- What stays of a running store, whose open mini-transaction has these ranges at an Ok. At each stop within the call each
  -- page stands in its place as it did, or as it is now, and the image stands for contents with this property.
  pub record StaysBy {T E : Type 0} (May : Contents → Type 0) (old new : Cache W) (open_ranges : List Extent) (result : Result T E) : Type 0 where
    pub stable : KeepsStable g old.stable new.stable result
    pub running : OnOk result (IsRunning new open_ranges)
    pub pages : g.tells → LaysOnly g old.stable.world new.stable.world (ArePagesOf (placed g old.stable) (now g old))
    pub stops : g.tells → StandsOnly g old.stable new.stable.world May

  -- a stop leaves what the file stood for
  abbrev pub StaysRunning : {T E : Type 0} → Cache W → Cache W → List Extent → Result T E → Type 0
  StaysRunning old new = StaysBy (StandsFor (g.image old.stable.world)) old new

  -- or the contents as they were
  abbrev pub StaysLogging : {T E : Type 0} → Cache W → Cache W → List Extent → Result T E → Type 0
  StaysLogging old new = StaysBy (Or (StandsFor (g.image old.stable.world)) (λ contents. contents ≡ now g old)) old new

  -- The contents now are the same, each page stands in its place as it did, or as it is now, and the file stands for the same.
  pub record StandsAlike (old new : Cache W) : Type 0 where
    pub contents : now g new ≡ now g old
    pub pages : ArePagesOf (placed g old.stable) (now g old) (placed g new.stable)
    pub stands : (left : Contents) → StandsFor (g.image new.stable.world) left → StandsFor (g.image old.stable.world) left

-- as many frames hold the same pages, and as many of them are dirty
pub record LeavesFrames (old new : PoolState) : Type 0 where
  pub held : HoldSame old new
  pub count : length new.frames ≡ length old.frames
  pub dirty : count_by is_dirty new.frames ≡ count_by is_dirty old.frames
