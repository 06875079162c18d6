-- A store of pages as its calls see it: the file, the frames over it, and the mini-transaction that is begun.
use Rattle.std.specs.Prelude.{ℕ, Bool, List, length, map, count_by}
use Rattle.isp_disk.specs.Moments.{Image, Agree}
use Rattle.isp_disk.specs.declared.world.World.{Ghosts}
use Rattle.isp_format.specs.Contents.{StandsFor}
use Rattle.isp_format.specs.Ranges.{Contents}
use Rattle.isp_frames.specs.Held.{now_over}
use Rattle.isp_mini.specs.Extents.{page_number}
use Rattle.isp_mini.specs.declared.changes.Extent.{Extent}
use Rattle.isp_page.specs.State.{FileShape, MiniTransaction}
use Rattle.isp_page.specs.declared.pages.Pages.{Ghosts as PagesGhosts}
use Rattle.isp_pool.specs.Frames.{PoolState, is_dirty}
use Rattle.isp_stable.specs.File.{placed}
use Rattle.isp_stable.specs.declared.stable.Stable.{Stable}

pub record StoreState (W : Type 0) : Type 0 where
  pub stable : Stable W
  pub pool : PoolState
  -- what the mini-transaction that is begun changed, in the order of first change
  pub open_ranges : List Extent
  pub is_begun : Bool
  -- no call of the disk has failed
  pub is_usable : Bool

-- how many frames there are
abbrev pub frames_of : {W : Type 0} → StoreState W → ℕ
frames_of s = length s.pool.frames

module _ {W : Type 0} (g : Ghosts W) where
  -- the contents of all pages now
  abbrev pub contents : StoreState W → Contents
  contents s = now_over s.pool.frames (placed g s.stable)

  -- what a stop now may leave: contents that an image stands for which it may leave
  abbrev pub may_leave : StoreState W → Contents → Type 0
  may_leave s left = (image : Image) × Agree (g.pending s.stable.world) (g.image s.stable.world) image × StandsFor image left

  -- what a stop since a time might have left: the world's own moments
  abbrev pub left_since : StoreState W → ℕ → Image → List ℕ → Type 0
  left_since s t image printed = g.left_since s.stable.world t image printed

  abbrev pub printed : StoreState W → List ℕ
  printed s = g.printed s.stable.world

  abbrev pub clock : StoreState W → ℕ
  clock s = g.clock s.stable.world

  abbrev pub shape : StoreState W → FileShape
  shape s = record { pages = s.stable.pages; fanout = s.stable.fanout }

  abbrev pub mini : StoreState W → MiniTransaction
  mini s = record { is_begun = s.is_begun; changed = map page_number s.open_ranges }

  abbrev pub dirty : StoreState W → ℕ
  dirty s = count_by is_dirty s.pool.frames

  abbrev pub disk_faults : StoreState W → ℕ
  disk_faults s = g.disk_faults s.stable.world

  abbrev pub print_faults : StoreState W → ℕ
  print_faults s = g.print_faults s.stable.world

  -- all of these, as the words on pages take them
  abbrev pub store : PagesGhosts (StoreState W)
  store = record {
    tells = g.tells;
    contents = contents;
    printed = printed;
    may_leave = may_leave;
    clock = clock;
    left_since = left_since;
    shape = shape;
    mini = mini;
    dirty = dirty;
    disk_faults = disk_faults;
    print_faults = print_faults;
    usable = λ s. s.is_usable;
  }
