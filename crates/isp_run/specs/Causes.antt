-- Why a call ended before its end: a fault whose count rose, or want of memory.
use Rattle.std.specs.Prelude.{◌≡◌, ℕ, ◌≤◌, List, ◌++◌, length, Result, OnOk, IfErr}
use Rattle.isp_disk.specs.Outside.{Rose}
use Rattle.isp_run.specs.declared.status.Status.{Status}
use Rattle.isp_run.specs.declared.stop.Stop.{Stop}
use Rattle.isp_run.specs.declared.stop.Stop.TheVariants.{Fault, Memory}

-- a fault only where the count rose; at want of memory it stands as it was
abbrev pub IsCaused : ℕ → ℕ → Stop → Type 0
IsCaused before now Fault = Rose before now
IsCaused before now Memory = now ≡ before

-- after a step of a run: where it went on the count of faults stands as it was, and where it stopped its cause is there
pub record HasStops {T : Type 0} (before now : ℕ) (result : Result T Stop) : Type 0 where
  pub steady : OnOk result (now ≡ before)
  pub cause : IfErr result (IsCaused before now)

-- the count of faults rose exactly where the status is this fault's: with any other it stands as it was
pub record CountsAt (fault status : Status) (before now : ℕ) : Type 0 where
  pub rose : status ≡ fault → Rose before now
  pub stays : (status ≡ fault → ⊥) → now ≡ before

-- of what was left of a source at most so many bytes were taken
pub record Takes (most : ℕ) (before now : List ℕ) : Type 0 where
  pub taken : List ℕ
  pub told : before ≡ taken ++ now
  pub few : length taken ≤ most
