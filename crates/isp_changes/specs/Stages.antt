-- A statement that goes on step by step: it reads its table in pieces, leaf by leaf, then changes one row a step, and where it
-- fails it puts back what stood there, the newest first (statements as the MySQL 8.0 manual has them; a statement that stops
-- between any two steps is this project's own).
use Rattle.std.specs.Prelude.{◌≡◌, ◌⊎◌, ℕ, ◌+◌, ◌*◌, ℤ, Bool, true, false, is_some, List, [], ◌∷◌, ◌++◌, length, map, if◌then◌else◌}
use Rattle.std.specs.List.{list_any}
use Rattle.std.specs.Map.{values_of}
use Rattle.isp_plain.specs.declared.refusal.Refusal.{Refusal}
use Rattle.isp_plain.specs.declared.refusal.Refusal.TheVariants.{DuplicateKey, FileFull, RowTooLarge}
use Rattle.isp_plain.specs.declared.value.Row.{Row}
use Rattle.isp_plain.specs.declared.value.Schema.{Schema}
use Rattle.isp_plain.specs.declared.statement.Reply.{Reply}
use Rattle.isp_plain.specs.declared.statement.Reply.TheVariants as reply
use Rattle.isp_plain.specs.declared.statement.Statement.{Statement}
use Rattle.isp_plain.specs.declared.statement.Statement.TheVariants.{Create, Insert, Select, Update, Delete, Begin, Commit, Rollback, Refused}
use Rattle.isp_plain.specs.Does.{Outcome, answered, cut, does, no_such_table, outgrows, place_of}
use Rattle.isp_plain.specs.Tables.{Table}
use Rattle.isp_changes.specs.Rows.{AreRisingTables}
use Rattle.isp_changes.specs.Changes.{RowChange, after_change, after_changes, changes_by, changes_in, held, image_of, joined, of_table, row_in, OfPlace}

-- What comes next of a statement: the table that CREATE adds; a piece of its table, which stands at this place and has these
-- columns, with the rows read so far that hold, and the pieces left; to look up the key of the first change left, or to make
-- it, with the number of those that are made; the newest image put back; or nothing more, with the answer.
pub data Phase : Type 0 where
  creating : List ℕ → Schema → Phase
  reading : ℕ → Schema → List (ℤ × Row) → List (List (ℤ × Row)) → Phase
  looking : ℕ → List RowChange → Phase
  changing : ℕ → List RowChange → Phase
  undoing : Refusal → Phase
  ready : Reply → Phase

-- the tables as they are now, what stood before its changes, the newest first, and what comes next
pub record Stage : Type 0 where
  pub tables : List Table
  pub noted : List RowChange
  pub phase : Phase

abbrev pub stage_at : List Table → List RowChange → Phase → Stage
stage_at tables noted phase = record { tables = tables; noted = noted; phase = phase }

-- ---- phases

abbrev pub is_insert : Statement → Bool
is_insert (Insert name rows) = true
is_insert _ = false

-- the next change, or the answer; where keys have to be free, the next one is looked up before
abbrev pub changes_left : Bool → ℕ → List RowChange → Phase
changes_left free made [] = ready (reply.Count made)
changes_left true made (change ∷ left) = looking made (change ∷ left)
changes_left false made (change ∷ left) = changing made (change ∷ left)

-- all is read
abbrev pub with_read : Statement → ℕ → List (ℤ × Row) → Phase
with_read (Select name columns w) place read = ready (reply.Rows (map (cut columns) (values_of read)))
with_read statement place read = changes_left (is_insert statement) 0 (changes_by place statement read)

abbrev pub pieces_left : Statement → ℕ → Schema → List (ℤ × Row) → List (List (ℤ × Row)) → Phase
pieces_left statement place schema read [] = with_read statement place read
pieces_left statement place schema read (piece ∷ pieces) = reading place schema read (piece ∷ pieces)

-- it fails, with what it has changed to be put back
abbrev pub failed : List Table → List RowChange → Refusal → Stage
failed tables [] refusal = stage_at tables [] (ready (reply.Err refusal))
failed tables (image ∷ noted) refusal = stage_at tables (image ∷ noted) (undoing refusal)

-- ---- the beginning

-- the first phase, where the statement's table is read in these pieces
abbrev pub first_phase : List Table → Statement → List (List (ℤ × Row)) → Phase
first_phase tables (Create name schema) pieces = creating name schema
first_phase tables (Insert name rows) pieces =
    of_table (ready no_such_table) (λ place table. changes_left true 0 (changes_in place (Insert name rows) table.rows)) tables name
first_phase tables (Select name columns w) pieces =
    of_table (ready no_such_table) (λ place table. pieces_left (Select name columns w) place table.schema [] pieces) tables name
first_phase tables (Update name sets w) pieces =
    of_table (ready no_such_table) (λ place table. pieces_left (Update name sets w) place table.schema [] pieces) tables name
first_phase tables (Delete name w) pieces =
    of_table (ready no_such_table) (λ place table. pieces_left (Delete name w) place table.schema [] pieces) tables name
first_phase tables Begin pieces = ready reply.Ok
first_phase tables Commit pieces = ready reply.Ok
first_phase tables Rollback pieces = ready reply.Ok
first_phase tables (Refused refusal) pieces = ready (reply.Err refusal)

abbrev pub begun : List Table → Statement → List (List (ℤ × Row)) → Stage
begun tables statement pieces = stage_at tables [] (first_phase tables statement pieces)

-- ---- a step

-- UPDATE would make one of the rows too large
abbrev pub outgrows_by : Schema → Statement → Row → Bool
outgrows_by schema (Update name sets w) row = outgrows schema sets w row
outgrows_by schema _ row = false

abbrev pub some_outgrow : Schema → Statement → List (ℤ × Row) → Bool
some_outgrow schema statement rows = list_any (outgrows_by schema statement) (values_of rows)

-- a row stands where the change puts one
abbrev pub is_taken : List Table → RowChange → Bool
is_taken tables change = is_some (row_in tables change.table change.key)

-- with one table more, which has no row
abbrev pub with_empty : List Table → List ℕ → Schema → List Table
with_empty tables name schema = tables ++ record { name = name; schema = schema; rows = [] } ∷ []

-- the step, where the file has room for a change, or has none
abbrev pub step_of : Statement → Bool → List Table → List RowChange → Phase → Stage
step_of statement room tables noted (creating name schema) =
    if room then stage_at (with_empty tables name schema) noted (ready reply.Ok) else failed tables noted FileFull
step_of statement room tables noted (reading place schema read []) = stage_at tables noted (with_read statement place read)
step_of statement room tables noted (reading place schema read (piece ∷ pieces)) =
    if some_outgrow schema statement piece then failed tables noted RowTooLarge
    else stage_at tables noted (pieces_left statement place schema (read ++ held statement piece) pieces)
step_of statement room tables noted (looking made []) = stage_at tables noted (ready (reply.Count made))
step_of statement room tables noted (looking made (change ∷ left)) =
    if is_taken tables change then failed tables noted (DuplicateKey change.key)
    else stage_at tables noted (changing made (change ∷ left))
step_of statement room tables noted (changing made []) = stage_at tables noted (ready (reply.Count made))
step_of statement room tables noted (changing made (change ∷ left)) =
    if room then
    stage_at (after_change tables change) (image_of tables change ∷ noted)
    (changes_left (is_insert statement) (made + 1) left)
    else failed tables noted FileFull
step_of statement room tables [] (undoing refusal) = failed tables [] refusal
step_of statement room tables (image ∷ noted) (undoing refusal) = failed (after_change tables image) noted refusal
step_of statement room tables noted (ready answer) = stage_at tables noted (ready answer)

abbrev pub after_step : Statement → Bool → Stage → Stage
after_step statement room stage = step_of statement room stage.tables stage.noted stage.phase

-- the step asks for room
abbrev pub asks_room : Phase → Bool
asks_room (creating name schema) = true
asks_room (changing made (change ∷ left)) = true
asks_room _ = false

-- the most steps that are left
abbrev pub most_left : Phase → ℕ → ℕ
most_left (creating name schema) noted = noted + 2
most_left (reading place schema read pieces) noted = length pieces + 3 * (length read + length (joined pieces)) + noted + 4
most_left (looking made left) noted = 3 * length left + noted + 3
most_left (changing made left) noted = 3 * length left + noted + 2
most_left (undoing refusal) noted = noted + 1
most_left (ready answer) noted = 0

-- ---- where it leads

abbrev pub written : ℕ → List Table → List RowChange → Outcome
written made tables left = answered (after_changes tables left) (reply.Count (made + length left))

-- what is answered and left with these changes left, each of a key that has to be free
abbrev pub inserted : List Table → ℕ → List Table → List RowChange → Outcome
inserted first made tables [] = answered tables (reply.Count made)
inserted first made tables (change ∷ left) =
    if is_taken tables change then answered first (reply.Err (DuplicateKey change.key))
    else inserted first (made + 1) (after_change tables change) left

-- the first change is made, whose key was looked up where it has to be free
abbrev pub changed_on : Bool → List Table → ℕ → List Table → RowChange → List RowChange → Outcome
changed_on true first made tables change left = inserted first (made + 1) (after_change tables change) left
changed_on false first made tables change left = written made tables (change ∷ left)

-- the first key is looked up
abbrev pub looked_on : Bool → List Table → ℕ → List Table → List RowChange → Outcome
looked_on free first made tables [] = answered tables (reply.Count made)
looked_on free first made tables (change ∷ left) =
    if is_taken tables change then answered first (reply.Err (DuplicateKey change.key))
    else changed_on free first made tables change left

-- with all that holds read
abbrev pub read_on : Statement → ℕ → List Table → List (ℤ × Row) → Outcome
read_on (Select name columns w) place tables read = answered tables (reply.Rows (map (cut columns) (values_of read)))
read_on statement place tables read = written 0 tables (changes_by place statement read)

-- what a statement answers and leaves from this phase on, where there is room for each change
abbrev pub outcome_by : Statement → List Table → List Table → Phase → Outcome
outcome_by statement first tables (creating name schema) = answered (with_empty tables name schema) reply.Ok
outcome_by statement first tables (reading place schema read pieces) =
    if some_outgrow schema statement (joined pieces) then answered first (reply.Err RowTooLarge)
    else read_on statement place tables (read ++ held statement (joined pieces))
outcome_by statement first tables (looking made left) = looked_on (is_insert statement) first made tables left
outcome_by statement first tables (changing made []) = answered tables (reply.Count made)
outcome_by statement first tables (changing made (change ∷ left)) =
    changed_on (is_insert statement) first made tables change left
outcome_by statement first tables (undoing refusal) = answered first (reply.Err refusal)
outcome_by statement first tables (ready answer) = answered tables answer

abbrev pub outcome_of : Statement → List Table → Stage → Outcome
outcome_of statement first stage = outcome_by statement first stage.tables stage.phase

-- what it answers and leaves where the file is full
abbrev pub found_full : List Table → Outcome
found_full first = answered first (reply.Err FileFull)

-- what is noted, put back, brings the first tables back; but a table that CREATE has added stays
abbrev pub BringsBack : Phase → Statement → List Table → List Table → List RowChange → Type 0
BringsBack (creating name schema) statement first tables noted =
    (statement ≡ Create name schema) × (after_changes tables noted ≡ first)
BringsBack (ready answer) (Create name schema) first tables noted = Unit {0}
BringsBack phase statement first tables noted = after_changes tables noted ≡ first

-- A statement on its way, begun on the tables at first: the keys of its tables rise; what it has noted, put back, brings the
-- first ones back; and it leads to what the statement does on the first tables, or to a full file.
pub record IsOnTheWay (statement : Statement) (first : List Table) (stage : Stage) : Type 0 where
  pub rises : AreRisingTables stage.tables
  pub back : BringsBack stage.phase statement first stage.tables stage.noted
  pub leads : (outcome_of statement first stage ≡ does first statement)
      ⊎ (outcome_of statement first stage ≡ found_full first)

-- the pieces have all rows of the table of which the statement's condition holds, in the order of their keys, and no others
abbrev pub HasHeld : Statement → List (ℤ × Row) → List (List (ℤ × Row)) → Type 0
HasHeld statement rows pieces = held statement (joined pieces) ≡ held statement rows

-- the same of the table of that name, where there is one
abbrev pub ReadsTable : List Table → List ℕ → Statement → List (List (ℤ × Row)) → Type 0
ReadsTable tables name statement pieces =
    OfPlace (λ place table. HasHeld statement table.rows pieces) tables (place_of tables name)

-- the same of the table that a statement reads
abbrev pub ReadsAll : List Table → Statement → List (List (ℤ × Row)) → Type 0
ReadsAll tables (Select name columns w) pieces = ReadsTable tables name (Select name columns w) pieces
ReadsAll tables (Update name sets w) pieces = ReadsTable tables name (Update name sets w) pieces
ReadsAll tables (Delete name w) pieces = ReadsTable tables name (Delete name w) pieces
ReadsAll tables statement pieces = Unit {0}
