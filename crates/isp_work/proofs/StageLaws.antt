-- A statement in memory goes on as its stage does: each of its turns is one step of the stage.
use Rattle.std.proofs.Common.{◌≡◌, ℕ, zero, suc, ◌+◌, ◌<◌, ◌≤◌, ℤ, Bool, true, false, List, [], ◌∷◌, drop, length, map, slice_get, is_some, Option, Some, None, refl, sym, ◌∙◌, ap, arith, if◌then◌else◌}
use Rattle.std.specs.Prelude.{nat_lt}
use Rattle.std.specs.Option.{option_and_then}
use Rattle.std.proofs.lemmas.Bool.Decides.{nat_tests}
use Rattle.isp_plain.specs.declared.refusal.Refusal.{Refusal}
use Rattle.isp_plain.specs.declared.refusal.Refusal.TheVariants.{DuplicateKey, FileFull}
use Rattle.isp_plain.specs.declared.statement.Reply.TheVariants as reply
use Rattle.isp_plain.specs.declared.statement.Statement.{Statement}
use Rattle.isp_plain.specs.declared.statement.Statement.TheVariants.{Create}
use Rattle.isp_plain.specs.declared.value.Row.{Row}
use Rattle.isp_plain.specs.declared.value.Schema.{Schema}
use Rattle.isp_plain.specs.Tables.{Table}
use Rattle.isp_plain.specs.Values.{key_of}
use Rattle.isp_changes.specs.Rows.{row_at}
use Rattle.isp_changes.specs.Changes.{RowChange, after_change, image_of, row_in}
use Rattle.isp_changes.specs.Stages.{after_step, changes_left, changing, failed, is_insert, looking, stage_at, step_of, with_empty}
use Rattle.isp_work.specs.Works.{Pieces, answered, change_by, changes_ahead, creating_by, failed_by, first_of, is_delete, look_by, looked_by, made_by, next_row, passed, phase_at, rows_named, stage_of, went_on}
use Rattle.isp_work.specs.declared.found.Looked.TheVariants as looked
use Rattle.isp_work.specs.declared.phase.Phase.{Phase as WorkPhase}
use Rattle.isp_work.specs.declared.phase.Phase.TheVariants.{Creating, Looking, Changing, Undoing}
use Rattle.isp_work.specs.declared.progress.Progress.{Progress}

-- ---- the rest of a list

-- an item there, and those behind it
pub record Behind {X : Type 0} (xs : List X) (n : ℕ) : Type 0 where
  pub item : X
  pub rest : drop n xs ≡ item ∷ drop (suc n) xs
  pub is_there : slice_get xs n ≡ Some item

below_of : (n m : ℕ) → nat_lt n m ≡ true → n < m
below_of n m less = grind (arith, nat_tests, less)

over_of : (n m : ℕ) → nat_lt n m ≡ false → m ≤ n
over_of n m less = grind (arith, nat_tests, less)

pub behind_at : {X : Type 0} (xs : List X) (n : ℕ) → n < length xs → Behind xs n
behind_at [] n less = absurd (omega (arith, less))
behind_at (x ∷ xs) zero less = record { item = x; rest = refl; is_there = refl }
behind_at (x ∷ xs) (suc n) less = let b = behind_at xs n (omega (arith, less)) in record { item = b.item; rest = b.rest; is_there = b.is_there }

pub behind : {X : Type 0} (xs : List X) (n : ℕ) → nat_lt n (length xs) ≡ true → Behind xs n
behind xs n less = behind_at xs n (below_of n (length xs) less)

none_at : {X : Type 0} (xs : List X) (n : ℕ) → length xs ≤ n → (drop n xs ≡ []) × (slice_get xs n ≡ None)
none_at [] zero over = (refl, refl)
none_at [] (suc n) over = (refl, refl)
none_at (x ∷ xs) zero over = absurd (omega (arith, over))
none_at (x ∷ xs) (suc n) over = none_at xs n (omega (arith, over))

pub none_behind : {X : Type 0} (xs : List X) (n : ℕ) → nat_lt n (length xs) ≡ false → drop n xs ≡ []
none_behind xs n over = (none_at xs n (over_of n (length xs) over)).0

pub none_there : {X : Type 0} (xs : List X) (n : ℕ) → nat_lt n (length xs) ≡ false → slice_get xs n ≡ None
none_there xs n over = (none_at xs n (over_of n (length xs) over)).1

one_more : (n : ℕ) → n + 1 ≡ suc n
one_more n = omega arith

-- ---- the next row, or the answer

-- another phase and another answer leave the rest
pub record SameParts (work new : Progress) : Type 0 where
  pub statement : new.statement ≡ work.statement
  pub place : new.place ≡ work.place
  pub rows : new.rows ≡ work.rows
  pub next : new.next ≡ work.next
  pub after : new.after ≡ work.after
  pub budget : new.budget ≡ work.budget
  pub base : new.base ≡ work.base

pub went_same : (work : Progress) → SameParts work (went_on work)
went_same work = by (nat_lt work.next (length (rows_named work.statement work.rows)))
  where
    by : (b : Bool) → SameParts work (if b then record work { phase = first_of (is_insert work.statement) } else answered work (reply.Count work.next))
    by true = record { statement = refl; place = refl; rows = refl; next = refl; after = refl; budget = refl; base = refl }
    by false = record { statement = refl; place = refl; rows = refl; next = refl; after = refl; budget = refl; base = refl }

pub failed_same : (work : Progress) (refusal : Refusal) (noted : ℕ) → SameParts work (failed_by work refusal noted)
failed_same work refusal noted = by (nat_lt work.base noted)
  where
    by : (b : Bool) → SameParts work (if b then record work { phase = Undoing refusal } else answered work (reply.Err refusal))
    by true = record { statement = refl; place = refl; rows = refl; next = refl; after = refl; budget = refl; base = refl }
    by false = record { statement = refl; place = refl; rows = refl; next = refl; after = refl; budget = refl; base = refl }

first_left : (tables : List Table) (pieces : Pieces) (work : Progress) (free : Bool) (change : RowChange) (left : List RowChange) → changes_ahead work ≡ change ∷ left
    → phase_at tables pieces (record work { phase = first_of free }) (first_of free) ≡ changes_left free work.next (changes_ahead work)
first_left tables pieces work true change left ahead = ap (looking work.next) ahead ∙ sym (ap (changes_left true work.next) ahead)
first_left tables pieces work false change left ahead = ap (changing work.next) ahead ∙ sym (ap (changes_left false work.next) ahead)

pub went_phase : (tables : List Table) (pieces : Pieces) (work : Progress) → phase_at tables pieces (went_on work) (went_on work).phase ≡ changes_left (is_insert work.statement) work.next (changes_ahead work)
went_phase tables pieces work = by (nat_lt work.next (length (rows_named work.statement work.rows))) refl
  where
    by : (b : Bool) → nat_lt work.next (length (rows_named work.statement work.rows)) ≡ b
        → phase_at tables pieces (if b then record work { phase = first_of (is_insert work.statement) } else answered work (reply.Count work.next))
        (if b then record work { phase = first_of (is_insert work.statement) } else answered work (reply.Count work.next)).phase
        ≡ changes_left (is_insert work.statement) work.next (changes_ahead work)
    by true less =
        let b = behind (rows_named work.statement work.rows) work.next less in
        first_left tables pieces work (is_insert work.statement) (change_by (is_delete work.statement) work.place b.item) (map (change_by (is_delete work.statement) work.place) (drop (suc work.next) (rows_named work.statement work.rows)))
        (ap (map (change_by (is_delete work.statement) work.place)) b.rest)
    by false less = sym (ap (λ (rows : List Row). changes_left (is_insert work.statement) work.next (map (change_by (is_delete work.statement) work.place) rows)) (none_behind (rows_named work.statement work.rows) work.next less))

-- something was noted
abbrev pub has_noted : List RowChange → Bool
has_noted [] = false
has_noted (image ∷ noted) = true

pub failed_stage : (tables : List Table) (noted : List RowChange) (pieces : Pieces) (work : Progress) (refusal : Refusal) (count : ℕ) → nat_lt work.base count ≡ has_noted noted → stage_of tables noted pieces (failed_by work refusal count) ≡ failed tables noted refusal
failed_stage tables [] pieces work refusal count some =
    ap (λ (b : Bool). stage_of tables [] pieces (if b then record work { phase = Undoing refusal } else answered work (reply.Err refusal))) some
failed_stage tables (image ∷ noted) pieces work refusal count some =
    ap (λ (b : Bool). stage_of tables (image ∷ noted) pieces (if b then record work { phase = Undoing refusal } else answered work (reply.Err refusal))) some

-- what a step does of the phase that comes next
pub step_at : (tables : List Table) (noted : List RowChange) (pieces : Pieces) (work : Progress) (room : Bool) (p : WorkPhase) → work.phase ≡ p
    → after_step work.statement room (stage_of tables noted pieces work) ≡ step_of work.statement room tables noted (phase_at tables pieces work p)
step_at tables noted pieces work room p is = ap (λ (q : WorkPhase). step_of work.statement room tables noted (phase_at tables pieces work q)) is

-- ---- CREATE

module _ (tables : List Table) (noted : List RowChange) (pieces : Pieces) (work : Progress) (count : ℕ) (some : nat_lt work.base count ≡ has_noted noted) where
  pub made_stage : (name : List ℕ) (schema : Schema) → work.phase ≡ Creating → work.statement ≡ Create name schema
      → stage_of (with_empty tables name schema) noted pieces (made_by work true count) ≡ after_step work.statement true (stage_of tables noted pieces work)
  made_stage name schema phase is =
      sym (step_at tables noted pieces work true Creating phase ∙ ap (λ (s : Statement). step_of work.statement true tables noted (creating_by s)) is)

  pub unmade_stage : (name : List ℕ) (schema : Schema) → work.phase ≡ Creating → work.statement ≡ Create name schema
      → stage_of tables noted pieces (made_by work false count) ≡ after_step work.statement false (stage_of tables noted pieces work)
  unmade_stage name schema phase is =
      failed_stage tables noted pieces work FileFull count some
      ∙ sym (step_at tables noted pieces work false Creating phase ∙ ap (λ (s : Statement). step_of work.statement false tables noted (creating_by s)) is)

  -- ---- a key

  taken_is : (table : Table) (place : ℕ) (key : ℤ) → slice_get tables place ≡ Some table → is_some (row_in tables place key) ≡ is_some (row_at table.rows key)
  taken_is table place key is = ap (λ (t : Option Table). is_some (option_and_then (λ (table : Table). row_at table.rows key) t)) is

  -- the change of a row, with those behind it
  ahead_is : (b : Behind (rows_named work.statement work.rows) work.next)
      → changes_ahead work ≡ change_by (is_delete work.statement) work.place b.item ∷ map (change_by (is_delete work.statement) work.place) (drop (suc work.next) (rows_named work.statement work.rows))
  ahead_is b = ap (map (change_by (is_delete work.statement) work.place)) b.rest

  over_looks : work.phase ≡ Looking → nat_lt work.next (length (rows_named work.statement work.rows)) ≡ false → stage_of tables noted pieces (went_on work) ≡ after_step work.statement true (stage_of tables noted pieces work)
  over_looks phase less =
      let none : changes_ahead work ≡ [] = ap (map (change_by (is_delete work.statement) work.place)) (none_behind (rows_named work.statement work.rows) work.next less) in
      ap (stage_at tables noted) (went_phase tables pieces work ∙ ap (changes_left (is_insert work.statement) work.next) none)
      ∙ sym (step_at tables noted pieces work true Looking phase ∙ ap (λ (left : List RowChange). step_of work.statement true tables noted (looking work.next left)) none)

  found_looks : (table : Table) (row : Row) (b : Bool) (left : List RowChange) → work.phase ≡ Looking → slice_get tables work.place ≡ Some table → is_some (row_at table.rows (key_of row)) ≡ b
      → changes_ahead work ≡ change_by (is_delete work.statement) work.place row ∷ left
      → stage_of tables noted pieces (looked_by work (if b then looked.Taken (DuplicateKey (key_of row)) else looked.Free) count) ≡ after_step work.statement true (stage_of tables noted pieces work)
  found_looks table row true left phase is taken ahead =
      failed_stage tables noted pieces work (DuplicateKey (key_of row)) count some
      ∙ sym (step_at tables noted pieces work true Looking phase
      ∙ ap (λ (changes : List RowChange). step_of work.statement true tables noted (looking work.next changes)) ahead
      ∙ ap (λ (c : Bool). if c then failed tables noted (DuplicateKey (key_of row)) else stage_at tables noted (changing work.next (change_by (is_delete work.statement) work.place row ∷ left))) (taken_is table work.place (key_of row) is ∙ taken))
  found_looks table row false left phase is taken ahead =
      ap (λ (changes : List RowChange). stage_at tables noted (changing work.next changes)) ahead
      ∙ sym (step_at tables noted pieces work true Looking phase
      ∙ ap (λ (changes : List RowChange). step_of work.statement true tables noted (looking work.next changes)) ahead
      ∙ ap (λ (c : Bool). if c then failed tables noted (DuplicateKey (key_of row)) else stage_at tables noted (changing work.next (change_by (is_delete work.statement) work.place row ∷ left))) (taken_is table work.place (key_of row) is ∙ taken))

  pub looked_stage : (table : Table) → work.phase ≡ Looking → slice_get tables work.place ≡ Some table
      → stage_of tables noted pieces (looked_by work (look_by (next_row work) table.rows) count) ≡ after_step work.statement true (stage_of tables noted pieces work)
  looked_stage table phase is = by (nat_lt work.next (length (rows_named work.statement work.rows))) refl
    where
      by : (b : Bool) → nat_lt work.next (length (rows_named work.statement work.rows)) ≡ b
          → stage_of tables noted pieces (looked_by work (look_by (next_row work) table.rows) count) ≡ after_step work.statement true (stage_of tables noted pieces work)
      by true less =
          let b = behind (rows_named work.statement work.rows) work.next less in
          ap (λ (row : Option Row). stage_of tables noted pieces (looked_by work (look_by row table.rows) count)) b.is_there
          ∙ found_looks table b.item (is_some (row_at table.rows (key_of b.item))) (map (change_by (is_delete work.statement) work.place) (drop (suc work.next) (rows_named work.statement work.rows))) phase is refl (ahead_is b)
      by false less =
          ap (λ (row : Option Row). stage_of tables noted pieces (looked_by work (look_by row table.rows) count)) (none_there (rows_named work.statement work.rows) work.next less)
          ∙ over_looks phase less

  -- ---- a row

  pub over_stage : work.phase ≡ Changing → nat_lt work.next (length (rows_named work.statement work.rows)) ≡ false → stage_of tables noted pieces (went_on work) ≡ after_step work.statement true (stage_of tables noted pieces work)
  over_stage phase less =
      let none : changes_ahead work ≡ [] = ap (map (change_by (is_delete work.statement) work.place)) (none_behind (rows_named work.statement work.rows) work.next less) in
      ap (stage_at tables noted) (went_phase tables pieces work ∙ ap (changes_left (is_insert work.statement) work.next) none)
      ∙ sym (step_at tables noted pieces work true Changing phase ∙ ap (λ (left : List RowChange). step_of work.statement true tables noted (changing work.next left)) none)

  pub done_stage : (b : Behind (rows_named work.statement work.rows) work.next) → work.phase ≡ Changing
      → stage_of (after_change tables (change_by (is_delete work.statement) work.place b.item)) (image_of tables (change_by (is_delete work.statement) work.place b.item) ∷ noted) pieces (passed work)
      ≡ after_step work.statement true (stage_of tables noted pieces work)
  done_stage b phase =
      let change = change_by (is_delete work.statement) work.place b.item in
      let after = after_change tables change in
      let next : Progress = record work { next = work.next + 1 } in
      let left : changes_ahead next ≡ map (change_by (is_delete work.statement) work.place) (drop (suc work.next) (rows_named work.statement work.rows)) =
      ap (λ (n : ℕ). map (change_by (is_delete work.statement) work.place) (drop n (rows_named work.statement work.rows))) (one_more work.next) in
      ap (stage_at after (image_of tables change ∷ noted)) (went_phase after pieces next ∙ ap (changes_left (is_insert work.statement) (work.next + 1)) left)
      ∙ sym (step_at tables noted pieces work true Changing phase ∙ ap (λ (changes : List RowChange). step_of work.statement true tables noted (changing work.next changes)) (ahead_is b))

  pub full_stage : (b : Behind (rows_named work.statement work.rows) work.next) → work.phase ≡ Changing
      → stage_of tables noted pieces (failed_by work FileFull count) ≡ after_step work.statement false (stage_of tables noted pieces work)
  full_stage b phase =
      failed_stage tables noted pieces work FileFull count some
      ∙ sym (step_at tables noted pieces work false Changing phase ∙ ap (λ (changes : List RowChange). step_of work.statement false tables noted (changing work.next changes)) (ahead_is b))

-- ---- a change that is taken back

pub undone_stage : (tables : List Table) (image : RowChange) (noted : List RowChange) (pieces : Pieces) (work : Progress) (refusal : Refusal) (count : ℕ) (room : Bool) → work.phase ≡ Undoing refusal → nat_lt work.base count ≡ has_noted noted
    → stage_of (after_change tables image) noted pieces (failed_by work refusal count) ≡ after_step work.statement room (stage_of tables (image ∷ noted) pieces work)
undone_stage tables image noted pieces work refusal count room phase some =
    failed_stage (after_change tables image) noted pieces work refusal count some ∙ sym (step_at tables (image ∷ noted) pieces work room (Undoing refusal) phase)

pub none_stage : (tables : List Table) (pieces : Pieces) (work : Progress) (refusal : Refusal) (count : ℕ) (room : Bool) → work.phase ≡ Undoing refusal → nat_lt work.base count ≡ false
    → stage_of tables [] pieces (failed_by work refusal count) ≡ after_step work.statement room (stage_of tables [] pieces work)
none_stage tables pieces work refusal count room phase some =
    failed_stage tables [] pieces work refusal count some ∙ sym (step_at tables [] pieces work room (Undoing refusal) phase)
