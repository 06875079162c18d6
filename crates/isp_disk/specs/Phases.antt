-- What a row of calls does to the disk of a world, in one word each at the facts of a bound `W: World`: it writes into a
-- region and nowhere else, or it writes nothing.
use Rattle.std.specs.Prelude.{◌≡◌, ℕ, List, [], Result, OnOk}
use Rattle.isp_disk.specs.declared.world.World.{Ghosts}
use Rattle.isp_disk.specs.Calls.{DiskCall}
use Rattle.isp_disk.specs.Moments.{Image, Region, Agree, During, Elapses, LeavesOnly, Quiet, Touches, Within, in_range, no_place}

-- what a stop leaves of a phase: the bytes of its beginning outside the region, and nothing printed
abbrev pub LeftOfPhase : {W : Type 0} → Ghosts W → W → Region → Image → List ℕ → Type 0
LeftOfPhase g old region left told = Agree region (g.image old) left × (told ≡ g.printed old)

-- A phase: from a quiet disk on writes go into a region, and no more. Nothing is said of how its calls ended.
pub record Phase {W : Type 0} (g : Ghosts W) (old now : W) (region : Region) : Type 0 where
  pub agrees : Agree region (g.image old) (g.image now)
  pub within : Within (g.pending now) region
  pub told : g.printed now ≡ g.printed old
  pub leaves : LeavesOnly g.clock g.left_since old now (LeftOfPhase g old region)

-- a call that works on the disk alone; an Ok leaves nothing pending
pub record EndsQuiet {W T E : Type 0} (g : Ghosts W) (old new : W) (result : Result T E) : Type 0 where
  pub quiet : OnOk result (Quiet (g.pending new))
  pub calls : DiskCall g old new result

-- a call that is a phase; an Ok leaves nothing pending
pub record WritesIn {W T E : Type 0} (g : Ghosts W) (region : Region) (old new : W) (result : Result T E) : Type 0 where
  pub phase : Phase g old new region
  pub quiet : OnOk result (Quiet (g.pending new))
  pub calls : DiskCall g old new result

-- a call that writes nothing, from a quiet disk on: since old each stop leaves the bytes as they read, and nothing printed
pub record OnlyReads {W T E : Type 0} (g : Ghosts W) (old new : W) (result : Result T E) : Type 0 where
  pub leaves : LeavesOnly g.clock g.left_since old new (LeftOfPhase g old no_place)
  pub same : g.image new ≡ g.image old
  pub quiet : Quiet (g.pending new)
  pub calls : DiskCall g old new result

-- one write of so many bytes, done or failed
pub record IsWrite {W T E : Type 0} (g : Ghosts W) (at size : ℕ) (old new : W) (result : Result T E) : Type 0 where
  pub disk : Touches (g.image old) (g.pending old) at size (g.image new) (g.pending new)
  pub time : Elapses (g.clock old) (g.clock new) (g.left_since old) (g.left_since new)
      (During (g.image old) (g.pending old) (in_range at size) (g.printed old) [])
  pub calls : DiskCall g old new result
