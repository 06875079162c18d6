-- What a pool keeps beside its frames: how each part follows from them.
use Rattle.std.specs.Prelude.{ℕ, ◌≡◌, ◌≤◌, Bool, Option, Some, List, length, map, count_by}
use Rattle.isp_base.specs.declared.page_no.PageNo.{PageNo}
use Rattle.isp_format.specs.Ranges.{page_bytes}
use Rattle.isp_recency.specs.Recent.{RecencyList, has}
use Rattle.isp_pool.specs.declared.frames.Frame.{Frame}
use Rattle.isp_pool.specs.Frames.{frame_in, is_held, most_frames, page_of, is_dirty, is_unpinned, is_cleanable, IsFirstFree}

pub record Keeps (frames : List (Option Frame)) (pages : List (Option PageNo)) (recency : RecencyList) (unpinned cleanable : List Bool) (dirty fresh : ℕ) : Type 0 where
  pub by_page : pages ≡ map page_of frames
  pub distinct : (i j : ℕ) (p : PageNo) → page_of (frame_in frames i) ≡ Some p → page_of (frame_in frames j) ≡ Some p → i ≡ j
  pub whole : (i : ℕ) (f : Frame) → frame_in frames i ≡ Some f → length f.content.bytes ≡ page_bytes
  pub most : length frames ≤ most_frames
  pub size : recency.size ≡ length frames
  pub recent : (i : ℕ) → has recency.members i ≡ is_held (frame_in frames i)
  pub free_to_go : unpinned ≡ map is_unpinned frames
  pub free_to_clean : cleanable ≡ map is_cleanable frames
  pub changed : dirty ≡ count_by is_dirty frames
  pub first : IsFirstFree frames fresh
