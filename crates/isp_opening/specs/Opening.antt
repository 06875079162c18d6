-- What opening a file finds: the first of the first three page rules that an image breaks, or what it stands for.
use Rattle.std.specs.Prelude.{◌≡◌, ◌⊎◌, ℕ, zero, suc, List, Result, Ok, Err}
use Rattle.isp_disk.specs.Moments.{Image, Agree, LeavesOnly, Quiet}
use Rattle.isp_disk.specs.Outside.{Rose}
use Rattle.isp_disk.specs.declared.world.World.{Ghosts}
use Rattle.isp_format.specs.Contents.{HasLog, StandsFor}
use Rattle.isp_format.specs.Control.{IsControl, IsFanout, IsPages, fanout_in, pages_in}
use Rattle.isp_format.specs.Doublewrite.{HasCopies}
use Rattle.isp_format.specs.Ranges.{Contents}
use Rattle.isp_page.specs.declared.fault.StoreFault.{StoreFault}
use Rattle.isp_page.specs.declared.fault.StoreFault.TheVariants.{Damaged, Disk, Print}
use Rattle.isp_stable.specs.File.{IsFile}
use Rattle.isp_stable.specs.declared.stable.Stable.{Stable}

-- the first page rule that the image breaks is this one
abbrev pub BreaksFirst : ℕ → Image → Type 0
BreaksFirst zero image = ⊥
BreaksFirst (suc zero) image = IsControl image → ⊥
BreaksFirst (suc (suc zero)) image = IsControl image × (HasCopies (pages_in image) image → ⊥)
BreaksFirst (suc (suc (suc zero))) image = IsControl image × HasCopies (pages_in image) image × (HasLog (pages_in image) image → ⊥)
BreaksFirst (suc (suc (suc (suc rule)))) image = ⊥

-- two images that stand for the same contents, in files of one shape
pub record StandAlike (one other : Image) : Type 0 where
  pub contents : Contents
  pub first : StandsFor one contents
  pub second : StandsFor other contents
  pub pages : pages_in other ≡ pages_in one
  pub fanout : fanout_in other ≡ fanout_in one

module _ {W : Type 0} (g : Ghosts W) where
  -- a stop leaves what one could leave as the call began, or an image that stands for what the image stood for then
  abbrev pub LeftOpening : W → Image → List ℕ → Type 0
  LeftOpening old left printed = (Agree (g.pending old) (g.image old) left ⊎ StandAlike (g.image old) left) × (printed ≡ g.printed old)

  -- what an opening leaves alone, done or not: it prints nothing, and no print fails in it
  pub record KeepsWorld (old now : W) : Type 0 where
    pub printed : g.printed now ≡ g.printed old
    pub printer : g.print_faults now ≡ g.print_faults old
    pub stops : g.tells → LeavesOnly g.clock g.left_since old now (LeftOpening old)

  -- The file was opened. Nothing is pending, and the shape is that of the image, for whose contents the file stands.
  pub record IsOpened (old : W) (s : Stable W) : Type 0 where
    pub quiet : Quiet (g.pending s.world)
    pub steady : g.disk_faults s.world ≡ g.disk_faults old
    pub possible : IsPages s.pages × IsFanout s.fanout
    pub shape : g.tells → (pages_in (g.image old) ≡ s.pages) × (fanout_in (g.image old) ≡ s.fanout)
    pub file : g.tells → IsFile g s
    pub alike : g.tells → StandAlike (g.image old) (g.image s.world)

  -- Why it was not. The disk failed, and its count of faults rose. Or the image breaks a rule, the first of them; it is named
  -- with page 0, no call failed, and nothing was written. No print is at fault.
  abbrev pub RefusesWith : W → StoreFault → W → Type 0
  RefusesWith old Disk now = Rose (g.disk_faults old) (g.disk_faults now)
  RefusesWith old Print now = ⊥
  RefusesWith old (Damaged page rule) now =
      (page ≡ 0) × (g.disk_faults now ≡ g.disk_faults old) × (g.tells → BreaksFirst rule (g.image old) × (g.image now ≡ g.image old))

-- the world that an opening gives back
abbrev pub world_after : {W : Type 0} → Result (Stable W) (StoreFault × W) → W
world_after (Ok s) = s.world
world_after (Err e) = e.1
