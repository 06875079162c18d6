-- What holds of the changes of single rows.
use Rattle.std.specs.Prelude.{◌≡◌, Bool, true, false, List, ◌++◌, length}
use Rattle.isp_plain.specs.declared.statement.Reply.{Reply}
use Rattle.isp_plain.specs.declared.statement.Reply.TheVariants as reply
use Rattle.isp_plain.specs.declared.statement.Statement.{Statement}
use Rattle.isp_plain.specs.declared.statement.Statement.TheVariants.{Insert, Update, Delete}
use Rattle.isp_plain.specs.Does.{does}
use Rattle.isp_plain.specs.Tables.{Table}
use Rattle.isp_changes.specs.Rows.{AreRisingTables}
use Rattle.isp_changes.specs.Changes.{RowChange, after_changes, changes_of, made_by, undo_of}

-- changes that are undone, the newest first, leave the tables that they were made on
abbrev pub AllGoesBack : Type 0
AllGoesBack = (tables : List Table) (changes : List RowChange) → AreRisingTables tables →
    after_changes (after_changes tables changes) (undo_of tables changes) ≡ tables

abbrev pub is_refusal : Reply → Bool
is_refusal (reply.Err refusal) = true
is_refusal _ = false

-- the statement counts the rows that it changes
abbrev pub counts : Statement → Bool
counts (Insert name rows) = true
counts (Update name sets w) = true
counts (Delete name w) = true
counts _ = false

-- what a statement that isn't refused leaves: its changes, one after another, on the tables with the one that it adds; and
-- where it counts rows it answers how many they are
pub record IsDoneBy (tables : List Table) (statement : Statement) (changes : List RowChange) : Type 0 where
  pub leaves : after_changes (tables ++ made_by statement) changes ≡ (does tables statement).tables
  pub answers : counts statement ≡ true → (does tables statement).reply ≡ reply.Count (length changes)

abbrev pub DoesByChanges : Type 0
DoesByChanges = (tables : List Table) (statement : Statement) → AreRisingTables tables →
    is_refusal (does tables statement).reply ≡ false → IsDoneBy tables statement (changes_of tables statement)

-- a refused statement leaves the tables
abbrev pub RefusedLeaves : Type 0
RefusedLeaves = (tables : List Table) (statement : Statement) →
    is_refusal (does tables statement).reply ≡ true → (does tables statement).tables ≡ tables
