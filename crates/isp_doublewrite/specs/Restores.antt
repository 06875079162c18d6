-- What a restore leaves.
use Rattle.std.specs.Prelude.{◌≡◌, ◌≢◌, ℕ, List, map}
use Rattle.isp_disk.specs.Moments.{Image, Region, Agree, either}
use Rattle.isp_doublewrite.specs.Places.{gate_place, page_places}
use Rattle.isp_doublewrite.specs.declared.restoring.Restored.{Restored}
use Rattle.isp_doublewrite.specs.declared.restoring.Restored.TheVariants.{Bad, Laid, Nothing}
use Rattle.isp_format.specs.Doublewrite.{HasCopies, area, copies, doublewrite_gate, laid}

-- the pages of the copies that count
abbrev pub copied_pages : Image → List ℕ
copied_pages image = map (λ copy. copy.page) (copies image)

-- all that a restore writes
abbrev pub restored_places : Image → Region
restored_places image = either gate_place (page_places (copied_pages image))

-- The copies stand in their places and count no more, and nothing else was changed.
pub record AreLaid (pages : ℕ) (before now : Image) : Type 0 where
  pub counted : before doublewrite_gate ≡ 1
  pub rule : HasCopies pages before
  pub gate : now doublewrite_gate ≡ 0
  pub placed : area now ≡ laid before
  pub others : Agree (restored_places before) before now

abbrev pub IsRestored : ℕ → Image → Image → Restored → Type 0
IsRestored pages before now Nothing = (before doublewrite_gate ≢ 1) × (now ≡ before)
IsRestored pages before now Bad = (HasCopies pages before → ⊥) × (now ≡ before)
IsRestored pages before now Laid = AreLaid pages before now

-- A stop leaves a list that keeps its rule if it kept it before, and the same pages with the copies laid over them.
pub record RestoreLeft (pages : ℕ) (before : Image) (printed_before : List ℕ) (left : Image) (printed : List ℕ) : Type 0 where
  pub copies : HasCopies pages before → HasCopies pages left
  pub same_pages : laid left ≡ laid before
  pub others : Agree (restored_places before) before left
  pub same : printed ≡ printed_before
