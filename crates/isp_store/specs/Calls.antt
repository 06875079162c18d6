-- What calls on a store leave of its file and its frames, beside what is said of all pages.
use Rattle.std.specs.Prelude.{◌≡◌, ◌≢◌, ◌++◌, ◌∷◌, ℕ, [], Some, Result, OnOk}
use Rattle.isp_disk.specs.Moments.{Quiet}
use Rattle.isp_disk.specs.declared.world.World.{Ghosts}
use Rattle.isp_format.specs.Contents.{StandsFor}
use Rattle.isp_format.specs.Control.{fanout_in, pages_in}
use Rattle.isp_frames.specs.Held.{CleansSome, NoneDirty}
use Rattle.isp_base.specs.declared.page_no.PageNo.{PageNo}
use Rattle.isp_pool.specs.Frames.{frame_at, page_of as page_in}
use Rattle.isp_stable.specs.File.{ArePagesOf, HasBatches, IsFile, IsLogEmpty, LaysOnly, placed}
use Rattle.isp_store.specs.Running.{HoldSame, IsHeldAfter}
use Rattle.isp_store.specs.State.{StoreState, contents, dirty, mini, store}
use Rattle.isp_mini.specs.Extents.{ranges_in}
use Rattle.isp_page.specs.Calls.{Continues, Flushes, Makes}
use Rattle.isp_page.specs.State.{none_begun}
use Rattle.isp_page.specs.declared.fault.StoreFault.{StoreFault}

-- Which pages the frames hold: as before; as before but for one that was brought in; and with what is dirty and how they were
-- used as before.
abbrev pub HoldsSame : {W : Type 0} → StoreState W → StoreState W → Type 0
HoldsSame old new = HoldSame old.pool new.pool

abbrev pub HoldsAfter : {W : Type 0} → PageNo → StoreState W → StoreState W → Type 0
HoldsAfter p old new = IsHeldAfter p old.pool new.pool

abbrev pub LeavesHeld : {W : Type 0} → StoreState W → StoreState W → Type 0
LeavesHeld old new = new.pool ≡ old.pool

-- the least recently used of the dirty pages were written in place, so many
abbrev pub CleansOldest : {W : Type 0} → StoreState W → StoreState W → ℕ → Type 0
CleansOldest old new cleaned = CleansSome old.pool new.pool cleaned

-- no call of the disk is made: at all, and where the page is held
abbrev pub IsStill : {W : Type 0} → StoreState W → StoreState W → Type 0
IsStill old new = (new.pool ≡ old.pool) × (new.stable ≡ old.stable)

abbrev pub LeavesFileWhereHeld : {W : Type 0} → PageNo → StoreState W → StoreState W → Type 0
LeavesFileWhereHeld p old new = (i : ℕ) → page_in (frame_at old.pool i) ≡ Some p → new.stable ≡ old.stable

-- what a call does to the frames that reads a page; that changes one, in a mini-transaction that has changed something already
-- where the disk isn't called
pub record BringsInPage {W T : Type 0} (p : PageNo) (old new : StoreState W) (result : Result T StoreFault) : Type 0 where
  pub after : OnOk result (HoldsAfter p old new)
  pub still : LeavesFileWhereHeld p old new

pub record ChangesHeld {W T : Type 0} (p : PageNo) (old new : StoreState W) (result : Result T StoreFault) : Type 0 where
  pub after : OnOk result (HoldsAfter p old new)
  pub still : old.open_ranges ≢ [] → LeavesFileWhereHeld p old new

module _ {W : Type 0} (g : Ghosts W) where
  -- At each stop within a call each page stands in its place as it did, or as it is now: none is torn. An Ok leaves a file.
  pub record LeavesWhole {T E : Type 0} (old new : StoreState W) (result : Result T E) : Type 0 where
    pub pages : g.tells → LaysOnly g old.stable.world new.stable.world (ArePagesOf (placed g old.stable) (contents g old))
    pub file : g.tells → OnOk result (IsFile g new.stable)

  -- the image as it reads stands for the present contents, and has the shape of the store
  pub record StandsNow (s : StoreState W) : Type 0 where
    pub stands : StandsFor (g.image s.stable.world) (contents g s)
    pub pages : pages_in (g.image s.stable.world) ≡ s.stable.pages
    pub fanout : fanout_in (g.image s.stable.world) ≡ s.stable.fanout

  -- all pages stand in their places, the log is empty, and nothing is pending
  pub record IsAllInPlace (s : StoreState W) : Type 0 where
    pub quiet : Quiet (g.pending s.stable.world)
    pub clean : NoneDirty s.pool
    pub empty : IsLogEmpty s.stable
    pub placed_is : g.tells → placed g s.stable ≡ contents g s
    pub emptied : g.tells → HasBatches g s.stable []
    pub stands : g.tells → StandsNow s

  -- What stays of a call that adds nothing to what a stop may leave; that adds the contents as they were before it; and behind
  -- which a stop leaves the present contents alone. No page is torn in any.
  pub record ContinuesWhole {T : Type 0} (old new : StoreState W) (result : Result T StoreFault) : Type 0 where
    pub along : Continues (store g) old new result
    pub whole : LeavesWhole old new result

  pub record MakesWhole {T : Type 0} (old new : StoreState W) (result : Result T StoreFault) : Type 0 where
    pub along : Makes (store g) (contents g old) old new result
    pub whole : LeavesWhole old new result

  pub record FlushesWhole {T : Type 0} (old new : StoreState W) (result : Result T StoreFault) : Type 0 where
    pub along : Flushes (store g) old new result
    pub whole : LeavesWhole old new result

  -- no mini-transaction is begun, and as many pages are dirty
  pub record EndsChanges (old new : StoreState W) : Type 0 where
    pub mini : mini g new ≡ none_begun
    pub dirty : dirty g new ≡ dirty g old

  -- One batch more is in the log, with what the mini-transaction changed; where that is nothing the disk isn't called.
  pub record LogsChanges {T : Type 0} (old new : StoreState W) (result : Result T StoreFault) : Type 0 where
    pub batch : g.tells → (file : IsFile g old.stable) → old.open_ranges ≢ []
        → OnOk result (HasBatches g new.stable (file.batches ++ (ranges_in (contents g old) old.open_ranges ∷ []) ∷ []))
    pub nothing : old.open_ranges ≡ [] → new.stable ≡ old.stable
