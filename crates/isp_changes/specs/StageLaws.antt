-- What holds of a statement that goes on step by step.
use Rattle.std.specs.Prelude.{◌≡◌, ◌⊎◌, ◌<◌, ℕ, ℤ, Bool, true, false, List, [], ◌∷◌, length}
use Rattle.isp_plain.specs.declared.value.Row.{Row}
use Rattle.isp_plain.specs.declared.statement.Reply.{Reply}
use Rattle.isp_plain.specs.declared.statement.Statement.{Statement}
use Rattle.isp_plain.specs.Does.{answered, does}
use Rattle.isp_plain.specs.Tables.{Table}
use Rattle.isp_plain.specs.Values.{key_of}
use Rattle.isp_changes.specs.Rows.{AreKeyed, AreRising, AreRisingTables}
use Rattle.isp_changes.specs.Changes.{found_at, is_held, joined}
use Rattle.isp_changes.specs.Stages.{HasHeld, IsOnTheWay, ReadsAll, Stage, after_step, asks_room, begun, found_full, most_left, outcome_of, ready}

-- a statement begins on its way, and leads to what it does
pub record IsBegun (statement : Statement) (first : List Table) (stage : Stage) : Type 0 where
  pub on : IsOnTheWay statement first stage
  pub leads : outcome_of statement first stage ≡ does first statement

abbrev pub StepsBegin : Type 0
StepsBegin = (tables : List Table) (statement : Statement) (pieces : List (List (ℤ × Row))) → AreRisingTables tables →
    ReadsAll tables statement pieces → IsBegun statement tables (begun tables statement pieces)

-- each step stays on the way
abbrev pub StepsStand : Type 0
StepsStand = (statement : Statement) (first : List Table) (room : Bool) (stage : Stage) →
    IsOnTheWay statement first stage → IsOnTheWay statement first (after_step statement room stage)

-- A step that finds room leads where it led. Without room so does one that asks for none, and one that asks leads to a full
-- file.
pub record IsLed (statement : Statement) (first : List Table) (stage : Stage) : Type 0 where
  pub room : outcome_of statement first (after_step statement true stage) ≡ outcome_of statement first stage
  pub unasked : asks_room stage.phase ≡ false → after_step statement false stage ≡ after_step statement true stage
  pub full : asks_room stage.phase ≡ true → outcome_of statement first (after_step statement false stage) ≡ found_full first

abbrev pub StepsLead : Type 0
StepsLead = (statement : Statement) (first : List Table) (stage : Stage) →
    IsOnTheWay statement first stage → IsLed statement first stage

-- the most steps that are left of a stage
abbrev pub most_steps : Stage → ℕ
most_steps stage = most_left stage.phase (length stage.noted)

-- they fall with each step, down to the answer
abbrev pub StepsFall : Type 0
StepsFall = (statement : Statement) (room : Bool) (stage : Stage) →
    ((answer : Reply) × (stage.phase ≡ ready answer))
    ⊎ (most_steps (after_step statement room stage) < most_steps stage)

-- a statement that is ready answers and leaves what it does, or found the file full and leaves the tables that it began on
abbrev pub EndsAsDone : Type 0
EndsAsDone = (statement : Statement) (first : List Table) (stage : Stage) (answer : Reply) →
    IsOnTheWay statement first stage → stage.phase ≡ ready answer →
    (answered stage.tables answer ≡ does first statement) ⊎ (answered stage.tables answer ≡ found_full first)

-- pieces that are the rows of a table, leaf by leaf, have all that hold
abbrev pub ReadsInPieces : Type 0
ReadsInPieces = (statement : Statement) (rows : List (ℤ × Row)) (pieces : List (List (ℤ × Row))) →
    joined pieces ≡ rows → HasHeld statement rows pieces

-- where the condition holds of no row with another key, the row at the key is enough
abbrev pub ReadsByKey : Type 0
ReadsByKey = (statement : Statement) (rows : List (ℤ × Row)) (key : ℤ) → AreRising rows → AreKeyed rows →
    ((row : Row) → is_held statement row ≡ true → key_of row ≡ key) → HasHeld statement rows (found_at rows key ∷ [])
