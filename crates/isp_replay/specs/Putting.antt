-- The ranges of a log on their way into the pages.
use Rattle.std.specs.Prelude.{◌≡◌, ℕ, ◌-◌, ◌≤◌, List, [], ◌++◌, Option, Some, None, Result, IfErr, IfOk, OnOk, length, vec_capacity}
use Rattle.isp_disk.specs.Calls.{DiskCall}
use Rattle.isp_disk.specs.Moments.{Quiet}
use Rattle.isp_disk.specs.declared.world.World.{Ghosts}
use Rattle.isp_format.specs.Contents.{ranges_of}
use Rattle.isp_format.specs.Doublewrite.{most_copies}
use Rattle.isp_format.specs.Log.{Transaction, log_bytes, log_of}
use Rattle.isp_format.specs.Ranges.{Contents, Range, puts}
use Rattle.isp_frames.specs.Cached.{IsCached, now}
use Rattle.isp_frames.specs.Held.{AreBelow, AreFree, NonePinned}
use Rattle.isp_frames.specs.declared.cache.Cache.{Cache}
use Rattle.isp_page.specs.declared.fault.StoreFault.{StoreFault}
use Rattle.isp_redo.specs.Places.{IsAt, place_of}
use Rattle.isp_replay.specs.Faults.{ReplayFails, disk_part}
use Rattle.isp_replay.specs.declared.fault.ReplayFault.{ReplayFault}
use Rattle.isp_replay.specs.declared.fault.ReplayFault.TheVariants.{DiskFailed}
use Rattle.isp_stable.specs.File.{IsFile, KeepsShape, StandsOnly, flushed}
use Rattle.isp_stable.specs.declared.stable.Stable.{Stable}

-- how many bytes of the log lie behind a place; none where there is no place
abbrev pub way_left : Option ℕ → ℕ
way_left None = 0
way_left (Some from) = log_bytes - (place_of from).at

module _ {W : Type 0} (g : Ghosts W) where
  -- a file that was opened, under frames that are all free; and room for a batch of 64 pages
  pub record IsFresh (s : Cache W) : Type 0 where
    pub quiet : Quiet (g.pending s.stable.world)
    pub file : g.tells → IsFile g s.stable
    pub free : AreFree s.pool
    pub many : most_copies ≤ length s.pool.frames
    pub room : most_copies ≤ vec_capacity s.batch

  -- between two ranges: nothing is pending, and the frames, of which none is pinned, hold pages of the file
  pub record IsReady (s : Cache W) : Type 0 where
    pub quiet : Quiet (g.pending s.stable.world)
    pub below : AreBelow s.stable.pages s.pool.frames
    pub unpinned : NonePinned s.pool
    pub some : 1 ≤ length s.pool.frames

  -- these ranges lie ahead of a place of the log; none do where there is no place
  abbrev pub LieAhead : Stable W → Option ℕ → List Range → Type 0
  LieAhead s None ranges = ranges ≡ []
  LieAhead s (Some from) ranges = IsAt s.pages (log_of (g.image s.world)) (place_of from) ranges

  -- The ranges of the log up to a place were put into the contents that stood there before. The log is as it was, and the
  -- file stands for those contents with all of its ranges.
  pub record IsPut (before : Contents) (batches : List (List Transaction)) (s : Cache W) (next : Option ℕ) : Type 0 where
    pub done : List Range
    pub ahead : List Range
    pub ranges_are : ranges_of batches ≡ done ++ ahead
    pub lie_ahead : LieAhead s.stable next ahead
    pub cached : IsCached g s
    pub same : cached.file.batches ≡ batches
    pub stands : flushed g s.stable batches ≡ puts (ranges_of batches) before
    pub contents : now g s ≡ puts done before

  -- Ranges are put up to the place that the result tells, and no page is missing. The file stands for the same at each stop.
  pub record PutsOn {T : Type 0} (next : T → Option ℕ) (before : Contents) (batches : List (List Transaction)) (old new : Cache W) (result : Result T ReplayFault) : Type 0 where
    pub put : IfOk result (λ t. IsPut before batches new (next t))
    pub stops : StandsOnly g old.stable new.stable.world (λ contents. contents ≡ puts (ranges_of batches) before)
    pub tested : IfErr result (λ e. e ≡ DiskFailed)

  -- what stays of a cache while ranges are put
  pub record KeepsFrames {T : Type 0} (old new : Cache W) (result : Result T ReplayFault) : Type 0 where
    pub calls : DiskCall g old.stable.world new.stable.world (disk_part result)
    pub shape : KeepsShape old.stable new.stable
    pub room : vec_capacity new.batch ≡ vec_capacity old.batch
    pub ready : OnOk result (IsReady new)
    pub count : OnOk result (length new.pool.frames ≡ length old.pool.frames)

  -- What stays of a cache whose log is put into its pages, and why it fails.
  pub record Replays {T : Type 0} (old new : Cache W) (result : Result T StoreFault) : Type 0 where
    pub printed : g.printed new.stable.world ≡ g.printed old.stable.world
    pub printer : g.print_faults new.stable.world ≡ g.print_faults old.stable.world
    pub shape : KeepsShape old.stable new.stable
    pub count : OnOk result (length new.pool.frames ≡ length old.pool.frames)
    pub steady : OnOk result (g.disk_faults new.stable.world ≡ g.disk_faults old.stable.world)
    pub fails : IfErr result (ReplayFails g old.stable.world new.stable.world)
