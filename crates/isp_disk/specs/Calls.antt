-- What a call on a world leaves alone, in one word at the facts of a bound `W: World`.
use Rattle.std.specs.Prelude.{◌≡◌, ℕ, List, Result}
use Rattle.isp_disk.specs.Moments.{Agree, Image}
use Rattle.isp_disk.specs.declared.world.World.{Ghosts}
use Rattle.isp_disk.specs.Outside.{HasCause}

-- A call that works on the disk alone: it prints nothing, no print failed in it, and where it failed the disk did.
pub record DiskCall {W T E : Type 0} (g : Ghosts W) (old new : W) (result : Result T E) : Type 0 where
  pub printed : g.printed new ≡ g.printed old
  pub printer : g.print_faults new ≡ g.print_faults old
  pub cause : HasCause (g.disk_faults old) (g.disk_faults new) result

-- a stop now leaves what is there, and no more
abbrev pub OnlyNow : {W : Type 0} → Ghosts W → W → Type 0
OnlyNow g world = (left : Image) (told : List ℕ) → g.left_since world (g.clock world) left told → Agree (g.pending world) (g.image world) left × (told ≡ g.printed world)
