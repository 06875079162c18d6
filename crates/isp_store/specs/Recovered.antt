-- A file that was opened, its log put into its pages, which stand in their places.
use Rattle.std.specs.Prelude.{◌≡◌, ℕ, [], Result, Ok, Err, length}
use Rattle.isp_disk.specs.declared.world.World.{Ghosts}
use Rattle.isp_format.specs.Contents.{StandsFor}
use Rattle.isp_format.specs.Control.{IsFanout, IsPages, fanout_in, pages_in}
use Rattle.isp_frames.specs.Cached.{IsCheckpoint, now}
use Rattle.isp_frames.specs.declared.cache.Cache.{Cache}
use Rattle.isp_page.specs.declared.fault.StoreFault.{StoreFault}
use Rattle.isp_store.specs.Running.{IsRunning}

module _ {W : Type 0} (g : Ghosts W) where
  pub record IsRecovered (old : W) (frames : ℕ) (s : Cache W) : Type 0 where
    pub running : IsRunning g s []
    pub checkpoint : IsCheckpoint g s
    pub count : length s.pool.frames ≡ frames
    pub possible : IsPages s.stable.pages × IsFanout s.stable.fanout
    pub steady : g.disk_faults s.stable.world ≡ g.disk_faults old
    pub shape : g.tells → (pages_in (g.image old) ≡ s.stable.pages) × (fanout_in (g.image old) ≡ s.stable.fanout)
    pub stood : g.tells → StandsFor (g.image old) (now g s)

-- the world that a recovery gives back
abbrev pub recovered_world : {W : Type 0} → Result (Cache W) (StoreFault × W) → W
recovered_world (Ok s) = s.stable.world
recovered_world (Err e) = e.1
