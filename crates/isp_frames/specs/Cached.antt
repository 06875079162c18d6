-- A file whose pages are cached in frames, and what calls on the frames leave of it.
use Rattle.std.specs.Prelude.{◌≡◌, ◌≤◌, ℕ, List, [], Result, Ok, Err, IfErr, OnOk, vec_capacity}
use Rattle.isp_disk.specs.Moments.{Agree, Quiet, either}
use Rattle.isp_disk.specs.declared.world.Failed.{Failed}
use Rattle.isp_disk.specs.declared.world.World.{Ghosts}
use Rattle.isp_format.specs.Contents.{StandsFor, ranges_of}
use Rattle.isp_format.specs.Control.{fanout_in, pages_in}
use Rattle.isp_format.specs.Doublewrite.{most_copies}
use Rattle.isp_format.specs.Log.{Transaction, log_bytes, log_place}
use Rattle.isp_format.specs.Ranges.{Contents, SameIn, cover}
use Rattle.isp_frames.specs.Held.{AreBelow, AreClean, IsHeldAt, NoneDirty, NonePinned, now_over, pinned_places}
use Rattle.isp_frames.specs.declared.cache.Cache.{Cache}
use Rattle.isp_base.specs.declared.page_no.PageNo.{PageNo}
use Rattle.isp_pool.specs.Frames.{IsPool, PoolState, changed}
use Rattle.isp_stable.specs.File.{ArePagesOf, HasBatches, IsFile, IsLogEmpty, KeepsStable, LaysOnly, StandsOnly, flushed, placed}
use Rattle.isp_stable.specs.declared.stable.Stable.{Stable}

-- the cache with another state of its file; with other frames
abbrev pub with_stable : {W : Type 0} → Cache W → Stable W → Cache W
with_stable s stable = record s { stable = stable }

abbrev pub with_pool : {W : Type 0} → Cache W → PoolState → Cache W
with_pool s pool = record s { pool = pool }

module _ {W : Type 0} (g : Ghosts W) where
  -- the contents of all pages now
  abbrev pub now : Cache W → Contents
  now s = now_over s.pool.frames (placed g s.stable)

  -- The file is one, clean frames are as their pages stand in their places, and what unpinned ones change the log covers.
  pub record IsCached (s : Cache W) : Type 0 where
    pub file : IsFile g s.stable
    pub clean : AreClean s.pool.frames (placed g s.stable)
    pub covered : Agree (either (cover (ranges_of file.batches)) (pinned_places s.pool.frames)) (placed g s.stable) (now s)

  -- between two calls: nothing is pending, and the frames hold pages of the file
  pub record IsSteady (s : Cache W) : Type 0 where
    pub quiet : Quiet (g.pending s.stable.world)
    pub below : AreBelow s.stable.pages s.pool.frames
    pub cached : g.tells → IsCached s

  -- between two mini-transactions: no page has to stay, and there is room for a batch of 64 pages
  pub record IsIdle (s : Cache W) : Type 0 where
    pub steady : IsSteady s
    pub unpinned : NonePinned s.pool
    pub room : most_copies ≤ vec_capacity s.batch

  -- The log has these batches, as before, and the file stands for the same contents; the contents now are these.
  pub record CachesAs (old new : Cache W) (batches : List (List Transaction)) (contents : Contents) : Type 0 where
    pub cached : IsCached new
    pub same : cached.file.batches ≡ batches
    pub stands : flushed g new.stable batches ≡ flushed g old.stable batches
    pub contents_are : now new ≡ contents

  -- The contents now are the same, and so are the log's bytes. Each page stands in its place as it did, or as it is now.
  pub record StaysCached (old new : Cache W) (batches : List (List Transaction)) : Type 0 where
    pub after : CachesAs old new batches (now old)
    pub pages : ArePagesOf (placed g old.stable) (now old) (placed g new.stable)
    pub log : SameIn log_place log_bytes (g.image old.stable.world) (g.image new.stable.world)

  -- What no call here changes. At each stop within it each page stands in its place as it did, or as it is now.
  pub record KeepsFile {T E : Type 0} (old new : Cache W) (result : Result T E) : Type 0 where
    pub stable : KeepsStable g old.stable new.stable result
    pub room : vec_capacity new.batch ≡ vec_capacity old.batch
    pub steady : OnOk result (IsSteady new)
    pub pages : g.tells → IsCached old → LaysOnly g old.stable.world new.stable.world (ArePagesOf (placed g old.stable) (now old))

  -- What a call on the frames leaves, which moves pages between them and the file. At each stop within it the file stands
  -- for the contents that it stood for.
  pub record KeepsCache {T E : Type 0} (old new : Cache W) (result : Result T E) : Type 0 where
    pub file : KeepsFile old new result
    pub log : new.stable.log ≡ old.stable.log
    pub stays : g.tells → (cached : IsCached old) → OnOk result (StaysCached old new cached.file.batches)
    pub stops : g.tells → (cached : IsCached old)
        → StandsOnly g old.stable new.stable.world (λ contents. contents ≡ flushed g old.stable cached.file.batches)

  -- The page came to stand in a frame, and there these bytes were put into it.
  pub record PutsBytes (p : PageNo) (at : ℕ) (bytes : List ℕ) (old new : Cache W) : Type 0 where
    pub held : Cache W
    pub frame : ℕ
    pub kept : KeepsCache {T = ℕ} {E = Failed} old held (Ok frame)
    pub is_held : IsHeldAt p frame old.pool held.pool
    pub frames : IsPool held.pool
    pub new_is : new ≡ with_pool held (changed held.pool frame at bytes)

  -- What a call makes of the cache that puts bytes into a page. A failed one leaves what a call on the frames does.
  pub record ChangesPage {T : Type 0} (p : PageNo) (at : ℕ) (bytes : List ℕ) (old new : Cache W) (result : Result T Failed) : Type 0 where
    pub put : OnOk result (PutsBytes p at bytes old new)
    pub failed : IfErr result (λ e. KeepsCache {T = T} {E = Failed} old new (Err e))

  -- where the file stands for the contents now, it stands for them at each stop since old
  abbrev pub LeavesNow : Cache W → W → Type 0
  LeavesNow old new = StandsFor (g.image old.stable.world) (now old) → StandsOnly g old.stable new (λ contents. contents ≡ now old)

  -- The log is empty, and all pages stand in their places. The image as read stands for the contents now, in the file's shape.
  pub record IsInPlace (s : Cache W) : Type 0 where
    pub emptied : HasBatches g s.stable []
    pub placed_is : placed g s.stable ≡ now s
    pub stands : StandsFor (g.image s.stable.world) (now s)
    pub pages : pages_in (g.image s.stable.world) ≡ s.stable.pages
    pub fanout : fanout_in (g.image s.stable.world) ≡ s.stable.fanout

  -- all pages were written in place, and the log was emptied
  pub record IsCheckpoint (s : Cache W) : Type 0 where
    pub idle : IsIdle s
    pub clean : NoneDirty s.pool
    pub empty : IsLogEmpty s.stable
    pub in_place : g.tells → IsInPlace s
