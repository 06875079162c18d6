-- Pages taken out of frames into a batch that is to be written in place.
use Rattle.std.specs.Prelude.{◌≡◌, ℕ, ◌+◌, ◌<◌, false, All, List, Option, Some, count_by, length, map}
use Rattle.isp_disk.specs.Moments.{Agree, Region, either}
use Rattle.isp_doublewrite.specs.Batches.{number_of, whole_page}
use Rattle.isp_format.specs.Doublewrite.{AreDistinct}
use Rattle.isp_format.specs.Ranges.{Contents, puts}
use Rattle.isp_frames.specs.Held.{AreBelow, AreClean, IsCleaned, LeavesLaterUsed, now_over, pinned_places}
use Rattle.isp_format.specs.declared.page.Page.{Page}
use Rattle.isp_base.specs.declared.page_no.PageNo.{PageNo}
use Rattle.isp_pool.specs.Frames.{PoolState, frame_in, is_dirty}
use Rattle.isp_pool.specs.declared.frames.Frame.{Frame}
use Rattle.isp_stable.specs.File.{ArePagesOf}

-- clean frames are as their pages stand in their places, and what unpinned ones change lies in the region
pub record AreCovered (frames : List (Option Frame)) (placed : Contents) (region : Region) : Type 0 where
  pub clean : AreClean frames placed
  pub covered : Agree (either region (pinned_places frames)) placed (now_over frames placed)

-- With the batch put over the pages in their places, clean frames are as those, and the contents now and the pinned pages
-- are as they were. It changes nothing outside the region, and each page is as it stood in its place or as it is now.
pub record IsGathered (old new : List (Option Frame)) (placed : Contents) (region : Region) (batch : List (PageNo × Page)) : Type 0 where
  pub clean : AreClean new (puts (map whole_page batch) placed)
  pub contents : now_over new (puts (map whole_page batch) placed) ≡ now_over old placed
  pub agree : Agree region placed (puts (map whole_page batch) placed)
  pub pins : pinned_places new ≡ pinned_places old
  pub pages : ArePagesOf placed (now_over old placed) (puts (map whole_page batch) placed)

-- the page is in no dirty frame
abbrev pub IsCleanPage : List (Option Frame) → ℕ → Type 0
IsCleanPage frames page = (i : ℕ) (frame : Frame) → frame_in frames i ≡ Some frame → frame.page.0 ≡ page → frame.dirty ≡ false

-- Dirty pages were taken, each once and the least recently used first: their frames count as clean, and nothing else was
-- done.
pub record IsTaken (old new : PoolState) (batch : List (PageNo × Page)) : Type 0 where
  pub cleaned : IsCleaned old new
  pub order : LeavesLaterUsed old new
  pub count : count_by is_dirty new.frames + length batch ≡ count_by is_dirty old.frames
  pub clean : All (IsCleanPage new.frames) (map number_of batch)
  pub distinct : AreDistinct (map number_of batch)
  pub below : (pages : ℕ) → AreBelow pages old.frames → All (λ page. page < pages) (map number_of batch)
  pub gathered : (placed : Contents) (region : Region) → AreCovered old.frames placed region → IsGathered old.frames new.frames placed region batch
