-- How far a statement is on the way to its answer: what it has read and written so far is what plain tables would have it read and
-- write, on the tables that its session saw as it began.
use Rattle.std.specs.Prelude.{◌≡◌, ◌⊎◌, ℕ, ℤ, Bool, true, false, List, ◌∷◌, ◌++◌, map, Option, Some, None}
use Rattle.isp_base.specs.Lists.{Has}
use Rattle.isp_reclock.specs.Tables.{takes}
use Rattle.isp_plain.specs.declared.statement.Statement.{Statement}
use Rattle.isp_plain.specs.declared.statement.Statement.TheVariants.{Insert, Select, Update, Delete}
use Rattle.isp_plain.specs.declared.value.Row.{Row}
use Rattle.isp_plain.specs.Values.{key_of}
use Rattle.isp_changes.specs.Changes.{is_held}
use Rattle.isp_events.specs.Stored.{table_at}
use Rattle.isp_events.specs.Sessions.{Change, duplicate, too_large, Work, outgrows_by}
use Rattle.isp_events.specs.State.{State}
use Rattle.isp_events.specs.Views.{view_at_beginning}
use Rattle.isp_order.specs.Work.{AreApart, OfEachUndisturbed, changes_done, is_before_writing}

-- the row at the key of its table, as its session saw it as the statement began
abbrev pub saw : State → ℕ → Work → ℤ → Option Row
saw state s work key = view_at_beginning state s work.table key

abbrev pub is_insert : Statement → Bool
is_insert (Insert name rows) = true
is_insert _ = false

-- The row of INSERT that has a key which is there: the rows before it have keys that were absent and differ, and its own is one of
-- these, or was there. All of these keys are locked.
pub record HasDuplicate (state : State) (s : ℕ) (work : Work) (key : ℤ) : Type 0 where
  pub name : List ℕ
  pub earlier : List Row
  pub row : Row
  pub rest : List Row
  pub rows : work.statement ≡ Insert name (earlier ++ row ∷ rest)
  pub same_key : key_of row ≡ key
  pub taken : takes state.locks work.table key s ≡ true
  pub absent : (other : Row) → Has earlier other → saw state s work (key_of other) ≡ None
  pub locked : (other : Row) → Has earlier other → takes state.locks work.table (key_of other) s ≡ true
  pub apart : AreApart (map key_of earlier)
  pub there : (saw state s work key ≡ None → ⊥) ⊎ Has (map key_of earlier) key

-- it has read the row, which holds and would get too large
pub record HasTooLarge (state : State) (work : Work) : Type 0 where
  pub key : ℤ
  pub row : Row
  pub read : Has {X = ℤ × Option Row} work.read (key, Some row)
  pub outgrows : outgrows_by (table_at state.tables work.table).schema work.statement row ≡ true

-- as it writes and answers without a failure, all rows of which its condition holds are read, none that was read gets too large, and the
-- keys of INSERT's rows done were absent; a failure has its reason
pub record IsOnCourse (state : State) (s : ℕ) (work : Work) : Type 0 where
  pub complete : work.failure ≡ None → is_before_writing work.phase ≡ false
      → (key : ℤ) (row : Row) → saw state s work key ≡ Some row → is_held work.statement row ≡ true → Has {X = ℤ × Option Row} work.read (key, Some row)
  pub small : work.failure ≡ None → (key : ℤ) (row : Row) → Has {X = ℤ × Option Row} work.read (key, Some row)
      → outgrows_by (table_at state.tables work.table).schema work.statement row ≡ false
  pub absent : work.failure ≡ None → is_insert work.statement ≡ true
      → (change : Change) → Has (changes_done work.phase) change → saw state s work change.key ≡ None
  pub too_large : work.failure ≡ Some too_large → HasTooLarge state work
  pub duplicate : (key : ℤ) → work.failure ≡ Some (duplicate key) → HasDuplicate state s work key

abbrev pub AreOnCourse : State → Type 0
AreOnCourse state = OfEachUndisturbed state.sessions (λ s session work. IsOnCourse state s work)
