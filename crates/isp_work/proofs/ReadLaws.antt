-- A statement that reads its table piece by piece, and one that begins, as stages.
use Rattle.std.proofs.Common.{◌≡◌, ℕ, ◌-◌, ℤ, Bool, true, false, ◌&&◌, ◌||◌, cond, List, [], ◌∷◌, ◌++◌, drop, length, map, slice_get, Option, Some, None, refl, sym, ◌∙◌, ap, subst, arith, append_assoc, if◌then◌else◌}
use Rattle.std.specs.Prelude.{filter, nat_lt}
use Rattle.std.specs.List.{AllByRecursion, list_any}
use Rattle.std.specs.Map.{values_of}
use Rattle.std.specs.Str.{bytes_eq}
use Rattle.std.proofs.lemmas.Bool.Decides.{nat_tests}
use Rattle.std.proofs.lemmas.List.Elements.{filter-append}
use Rattle.std.proofs.lemmas.List.Quantifiers.{position-Some}
use Rattle.isp_base.specs.declared.page_no.PageNo.{PageNo}
use Rattle.isp_plain.specs.declared.refusal.Refusal.{Refusal}
use Rattle.isp_plain.specs.declared.refusal.Refusal.TheVariants.{RowTooLarge}
use Rattle.isp_plain.specs.declared.statement.Assign.{Assign}
use Rattle.isp_plain.specs.declared.statement.Reply.TheVariants as reply
use Rattle.isp_plain.specs.declared.statement.Statement.{Statement}
use Rattle.isp_plain.specs.declared.statement.Statement.TheVariants.{Create, Insert, Select, Update, Delete, Begin, Commit, Rollback, Refused}
use Rattle.isp_plain.specs.declared.value.Row.{Row}
use Rattle.isp_plain.specs.declared.value.Schema.{Schema}
use Rattle.isp_plain.specs.Conditions.{holds}
use Rattle.isp_plain.specs.Does.{cut, no_such_table, place_of, with_sets}
use Rattle.isp_plain.specs.Tables.{Table}
use Rattle.isp_plain.specs.Values.{key_of}
use Rattle.isp_changes.specs.Rows.{AreKeyed}
use Rattle.isp_changes.specs.Changes.{OfPlace, RowChange, changes_in, held, is_held, joined, of_found, of_place, replacing}
use Rattle.isp_changes.specs.Stages.{HasHeld, ReadsAll, after_step, begun, changes_left, failed, is_insert, pieces_left, reading, ready, some_outgrow, stage_at, step_of, with_read}
use Rattle.isp_work.specs.Finding.{found_in, held_by, is_too_large, reads}
use Rattle.isp_work.specs.Starting.{place_for, start_at, start_of}
use Rattle.isp_work.specs.Works.{AreReadAs, AreReadOf, Pieces, all_left, answered, behind_first, behind_piece, change_by, failed_by, first_of, is_delete, is_select, phase_at, read_out, rows_named, schema_in, stage_of, started, took, went_on}
use Rattle.isp_work.specs.declared.found.Found.{Found}
use Rattle.isp_work.specs.declared.found.Found.TheVariants as found
use Rattle.isp_work.specs.declared.phase.Phase.{Phase as WorkPhase}
use Rattle.isp_work.specs.declared.phase.Phase.TheVariants.{Reading, Undoing}
use Rattle.isp_work.specs.declared.progress.Progress.{Progress}
use Rattle.isp_work.proofs.StageLaws.{behind, failed_same, failed_stage, has_noted, step_at, went_phase, went_same}

-- ---- rows that hold

any_none : (rows : List Row) → list_any (λ (row : Row). false) rows ≡ false
any_none [] = refl
any_none (row ∷ rows) = any_none rows

-- a test of the rows that hold is one of the held rows
any_held : (p q : Row → Bool) (rows : List (ℤ × Row)) → list_any (λ row. p row && q row) (values_of rows) ≡ list_any q (values_of (filter (λ (e : ℤ × Row). p e.1) rows))
any_held p q [] = refl
any_held p q (e ∷ rows) = by (p e.1) (any_held p q rows)
  where
    by : (b : Bool) → list_any (λ row. p row && q row) (values_of rows) ≡ list_any q (values_of (filter (λ (e : ℤ × Row). p e.1) rows)) → ((b && q e.1) || list_any (λ row. p row && q row) (values_of rows))
        ≡ list_any q (values_of (cond b (e ∷ filter (λ (e : ℤ × Row). p e.1) rows) (filter (λ (e : ℤ × Row). p e.1) rows)))
    by true later = ap (λ b. q e.1 || b) later
    by false later = later

pub all_kept : (P : ℤ × Row → Type 0) (p : ℤ × Row → Bool) (rows : List (ℤ × Row)) → AllByRecursion P rows → AllByRecursion P (filter p rows)
all_kept P p [] all = tt
all_kept P p (e ∷ rows) all = by (p e) (all_kept P p rows all.1)
  where
    by : (b : Bool) → AllByRecursion P (filter p rows) → AllByRecursion P (cond b (e ∷ filter p rows) (filter p rows))
    by true later = (all.0, later)
    by false later = later

all_more : (P : ℤ × Row → Type 0) (rows more : List (ℤ × Row)) → AllByRecursion P rows → AllByRecursion P more → AllByRecursion P (rows ++ more)
all_more P [] more all others = others
all_more P (e ∷ rows) more all others = (all.0, all_more P rows more all.1 others)

mapped_more : (f : Row → Row) (rows more : List (ℤ × Row)) → map f (values_of rows) ++ map f (values_of more) ≡ map f (values_of (rows ++ more))
mapped_more f [] more = refl
mapped_more f (e ∷ rows) more = ap (λ (vs : List Row). f e.1 ∷ vs) (mapped_more f rows more)

values_more : (rows more : List (ℤ × Row)) → values_of rows ++ values_of more ≡ values_of (rows ++ more)
values_more [] more = refl
values_more (e ∷ rows) more = ap (λ (vs : List Row). e.1 ∷ vs) (values_more rows more)

-- ---- what is kept of rows that are read

-- the new values leave the keys of rows that don't get too large
abbrev pub KeepsKeys : Schema → List Assign → List (ℤ × Row) → Type 0
KeepsKeys schema sets rows = AllByRecursion (λ (e : ℤ × Row). is_too_large schema sets e.1 ≡ false → key_of (with_sets sets e.1) ≡ e.0) rows

abbrev pub KeepsKeysIn : Schema → Statement → List (ℤ × Row) → Type 0
KeepsKeysIn schema (Update name sets w) rows = KeepsKeys schema sets rows
KeepsKeysIn schema _ rows = Unit {0}

-- of the rows that hold
abbrev pub kept_of : Statement → List (ℤ × Row) → List Row
kept_of (Select name columns w) rows = map (cut columns) (values_of rows)
kept_of (Update name sets w) rows = map (with_sets sets) (values_of rows)
kept_of (Delete name w) rows = values_of rows
kept_of _ rows = []

-- what is found in a piece, where one of its rows gets too large, or none does
abbrev pub found_by : Bool → List Row → Found
found_by large rows = if large then found.TooLarge else found.Rows rows

pub found_is : (schema : Schema) (s : Statement) (piece : List (ℤ × Row)) → found_in schema s piece ≡ found_by (some_outgrow schema s piece) (kept_of s (held s piece))
found_is schema (Update name sets w) piece =
    ap (λ (b : Bool). found_by b (map (with_sets sets) (held_by w piece))) (sym (any_held (holds w) (is_too_large schema sets) piece))
found_is schema (Select name columns w) piece = ap (λ (b : Bool). found_by b (map (cut columns) (held_by w piece))) (sym (any_none (values_of piece)))
found_is schema (Delete name w) piece = ap (λ (b : Bool). found_by b (held_by w piece)) (sym (any_none (values_of piece)))
found_is schema (Create name others) piece = ap (λ (b : Bool). found_by b []) (sym (any_none (values_of piece)))
found_is schema (Insert name new) piece = ap (λ (b : Bool). found_by b []) (sym (any_none (values_of piece)))
found_is schema Begin piece = ap (λ (b : Bool). found_by b []) (sym (any_none (values_of piece)))
found_is schema Commit piece = ap (λ (b : Bool). found_by b []) (sym (any_none (values_of piece)))
found_is schema Rollback piece = ap (λ (b : Bool). found_by b []) (sym (any_none (values_of piece)))
found_is schema (Refused refusal) piece = ap (λ (b : Bool). found_by b []) (sym (any_none (values_of piece)))

or_first : (a b : Bool) → (a || b) ≡ false → a ≡ false
or_first true b is = cc
or_first false b is = refl

or_later : (a b : Bool) → (a || b) ≡ false → b ≡ false
or_later true b is = cc
or_later false b is = is

same_keys : (schema : Schema) (sets : List Assign) (rows : List (ℤ × Row)) → KeepsKeys schema sets rows → list_any (is_too_large schema sets) (values_of rows) ≡ false
    → AllByRecursion (λ (e : ℤ × Row). key_of (with_sets sets e.1) ≡ e.0) rows
same_keys schema sets [] keeps small = tt
same_keys schema sets (e ∷ rows) keeps small = (
  keeps.0 (or_first (is_too_large schema sets e.1) (list_any (is_too_large schema sets) (values_of rows)) small),
  same_keys schema sets rows keeps.1 (or_later (is_too_large schema sets e.1) (list_any (is_too_large schema sets) (values_of rows)) small),
)

-- where no row of a piece gets too large, what is kept of it comes behind what is kept of those before
pub kept_more : (schema : Schema) (s : Statement) (read piece : List (ℤ × Row)) (rows : List Row) → some_outgrow schema s piece ≡ false → AreKeyed piece → KeepsKeysIn schema s piece → AreReadAs s read rows
    → AreReadAs s (read ++ held s piece) (rows ++ kept_of s (held s piece))
kept_more schema (Select name columns w) read piece rows small keyed keeps kept =
    ap (λ (vs : List Row). vs ++ map (cut columns) (held_by w piece)) kept ∙ mapped_more (cut columns) read (held (Select name columns w) piece)
kept_more schema (Update name sets w) read piece rows small keyed keeps kept = (
  ap (λ (vs : List Row). vs ++ map (with_sets sets) (held_by w piece)) kept.0 ∙ mapped_more (with_sets sets) read (held (Update name sets w) piece),
  all_more (λ (e : ℤ × Row). key_of (with_sets sets e.1) ≡ e.0) read (held (Update name sets w) piece) kept.1
      (same_keys schema sets (held (Update name sets w) piece)
      (all_kept (λ (e : ℤ × Row). is_too_large schema sets e.1 ≡ false → key_of (with_sets sets e.1) ≡ e.0) (λ (e : ℤ × Row). is_held (Update name sets w) e.1) piece keeps)
      (sym (any_held (holds w) (is_too_large schema sets) piece) ∙ small)),
)
kept_more schema (Delete name w) read piece rows small keyed keeps kept = (
  ap (λ (vs : List Row). vs ++ held_by w piece) kept.0 ∙ values_more read (held (Delete name w) piece),
  all_more (λ (e : ℤ × Row). key_of e.1 ≡ e.0) read (held (Delete name w) piece) kept.1
      (all_kept (λ (e : ℤ × Row). key_of e.1 ≡ e.0) (λ (e : ℤ × Row). is_held (Delete name w) e.1) piece keyed),
)
kept_more schema (Create name others) read piece rows small keyed keeps kept = tt
kept_more schema (Insert name new) read piece rows small keyed keeps kept = tt
kept_more schema Begin read piece rows small keyed keeps kept = tt
kept_more schema Commit read piece rows small keyed keeps kept = tt
kept_more schema Rollback read piece rows small keyed keeps kept = tt
kept_more schema (Refused refusal) read piece rows small keyed keeps kept = tt

-- what is read and what is left of the rows stay all that hold
read_first : (s : Statement) (rows read piece : List (ℤ × Row)) (left : List (List (ℤ × Row))) → AreReadOf s rows (record { read = read; left = piece ∷ left }) → AreReadOf s rows (behind_first s read (piece ∷ left))
read_first s rows read piece left all =
    append_assoc read (held s piece) (held s (joined left))
    ∙ ap (λ (more : List (ℤ × Row)). read ++ more) (sym (filter-append (λ (e : ℤ × Row). is_held s e.1) piece (joined left)))
    ∙ all

read_ahead : (s : Statement) (rows read : List (ℤ × Row)) (left : List (List (ℤ × Row))) → AreReadOf s rows (record { read = read; left = left }) → AreReadOf s rows (behind_first s read left)
read_ahead s rows read [] all = all
read_ahead s rows read (piece ∷ left) all = read_first s rows read piece left all

pub read_of_on : (s : Statement) (rows : List (ℤ × Row)) (pieces : Pieces) → AreReadOf s rows pieces → AreReadOf s rows (behind_piece pieces s)
read_of_on s rows pieces all = read_ahead s rows pieces.read pieces.left all

-- ---- what is written for rows that are read

updated_changes : (sets : List Assign) (place : ℕ) (rows : List (ℤ × Row)) → AllByRecursion (λ (e : ℤ × Row). key_of (with_sets sets e.1) ≡ e.0) rows
    → map (change_by false place) (map (with_sets sets) (values_of rows)) ≡ map (λ (e : ℤ × Row). replacing place e.0 (Some (with_sets sets e.1))) rows
updated_changes sets place [] keys = refl
updated_changes sets place (e ∷ rows) keys =
    let one : change_by false place (with_sets sets e.1) ≡ replacing place e.0 (Some (with_sets sets e.1)) = ap (λ (key : ℤ). replacing place key (Some (with_sets sets e.1))) keys.0 in
    (λ i. one i ∷ updated_changes sets place rows keys.1 i)

deleted_changes : (place : ℕ) (rows : List (ℤ × Row)) → AreKeyed rows → map (change_by true place) (values_of rows) ≡ map (λ (e : ℤ × Row). replacing place e.0 None) rows
deleted_changes place [] keyed = refl
deleted_changes place (e ∷ rows) keyed = (λ i. replacing place (keyed.0 i) None ∷ deleted_changes place rows keyed.1 i)

-- the rows are what SELECT answers
selected_is : (s : Statement) (place : ℕ) (read : List (ℤ × Row)) (rows : List Row) → is_select s ≡ true → AreReadAs s read rows → ready (reply.Rows rows) ≡ with_read s place read
selected_is (Select name columns w) place read rows is kept = ap (λ (vs : List Row). ready (reply.Rows vs)) kept
selected_is (Create name others) place read rows is kept = cc
selected_is (Insert name new) place read rows is kept = cc
selected_is (Update name sets w) place read rows is kept = cc
selected_is (Delete name w) place read rows is kept = cc
selected_is Begin place read rows is kept = cc
selected_is Commit place read rows is kept = cc
selected_is Rollback place read rows is kept = cc
selected_is (Refused refusal) place read rows is kept = cc

-- or what comes to be written
written_is : (s : Statement) (place : ℕ) (read : List (ℤ × Row)) (rows : List Row) → reads s ≡ true → is_select s ≡ false → AreReadAs s read rows
    → changes_left (is_insert s) 0 (map (change_by (is_delete s) place) (rows_named s rows)) ≡ with_read s place read
written_is (Update name sets w) place read rows is other kept =
    ap (λ (vs : List Row). changes_left false 0 (map (change_by false place) vs)) kept.0 ∙ ap (changes_left false 0) (updated_changes sets place read kept.1)
written_is (Delete name w) place read rows is other kept =
    ap (λ (vs : List Row). changes_left false 0 (map (change_by true place) vs)) kept.0 ∙ ap (changes_left false 0) (deleted_changes place read kept.1)
written_is (Select name columns w) place read rows is other kept = cc
written_is (Create name others) place read rows is other kept = cc
written_is (Insert name new) place read rows is other kept = cc
written_is Begin place read rows is other kept = cc
written_is Commit place read rows is other kept = cc
written_is Rollback place read rows is other kept = cc
written_is (Refused refusal) place read rows is other kept = cc

-- ---- a piece of its table is read

-- what stays of a statement that takes a piece
pub record TookParts (work new : Progress) : Type 0 where
  pub statement : new.statement ≡ work.statement
  pub place : new.place ≡ work.place
  pub next : new.next ≡ work.next
  pub base : new.base ≡ work.base

out_same : (work : Progress) → TookParts work (read_out work)
out_same work = by (is_select work.statement)
  where
    by : (b : Bool) → TookParts work (if b then answered (record work { rows = [] }) (reply.Rows work.rows) else went_on work)
    by true = record { statement = refl; place = refl; next = refl; base = refl }
    by false = let same = went_same work in record { statement = same.statement; place = same.place; next = same.next; base = same.base }

pub took_same : (work : Progress) (f : Found) (next : Option PageNo) (count : ℕ) → TookParts work (took work f next count)
took_same work (found.Rows rows) (Some page) count = record { statement = refl; place = refl; next = refl; base = refl }
took_same work (found.Rows rows) None count =
    let same = out_same (record work { rows = work.rows ++ rows }) in record { statement = same.statement; place = same.place; next = same.next; base = same.base }
took_same work found.TooLarge next count =
    let same = failed_same work RowTooLarge count in record { statement = same.statement; place = same.place; next = same.next; base = same.base }

-- it goes on to the leaf behind that page
pub record ReadsOn (work new : Progress) (f : Found) (next : Option PageNo) : Type 0 where
  pub page : PageNo
  pub is_next : next ≡ Some page
  pub rows : List Row
  pub found_is : f ≡ found.Rows rows
  pub new_is : new ≡ record work { rows = work.rows ++ rows; after = Some page; budget = work.budget - 1 }

out_not_reading : (work : Progress) → (read_out work).phase ≡ Reading → ⊥
out_not_reading work is = by (is_select work.statement) (nat_lt work.next (length (rows_named work.statement work.rows))) (is_insert work.statement) is
  where
    by : (b less free : Bool)
        → (if b then answered (record work { rows = [] }) (reply.Rows work.rows) else if less then record work { phase = first_of free } else answered work (reply.Count work.next)).phase ≡ Reading → ⊥
    by true less free is = cc
    by false true true is = cc
    by false true false is = cc
    by false false free is = cc

failed_not_reading : (work : Progress) (refusal : Refusal) (count : ℕ) → (failed_by work refusal count).phase ≡ Reading → ⊥
failed_not_reading work refusal count is = by (nat_lt work.base count) is
  where
    by : (b : Bool) → (if b then record work { phase = Undoing refusal } else answered work (reply.Err refusal)).phase ≡ Reading → ⊥
    by true is = cc
    by false is = cc

pub reads_on : (work : Progress) (f : Found) (next : Option PageNo) (count : ℕ) → (took work f next count).phase ≡ Reading → ReadsOn work (took work f next count) f next
reads_on work (found.Rows rows) (Some page) count is = record { page = page; is_next = refl; rows = rows; found_is = refl; new_is = refl }
reads_on work (found.Rows rows) None count is = absurd (out_not_reading (record work { rows = work.rows ++ rows }) is)
reads_on work found.TooLarge next count is = absurd (failed_not_reading work RowTooLarge count is)

abbrev rows_of : Found → List Row
rows_of (found.Rows rows) = rows
rows_of found.TooLarge = []

-- the rows that are found come behind those that were kept
pub kept_on : (schema : Schema) (s : Statement) (read piece : List (ℤ × Row)) (kept rows : List Row) → found.Rows rows ≡ found_in schema s piece → AreKeyed piece → KeepsKeysIn schema s piece → AreReadAs s read kept
    → AreReadAs s (read ++ held s piece) (kept ++ rows)
kept_on schema s read piece kept rows is keyed keeps so_far = by (some_outgrow schema s piece) refl (is ∙ found_is schema s piece)
  where
    by : (b : Bool) → some_outgrow schema s piece ≡ b → found.Rows rows ≡ found_by b (kept_of s (held s piece)) → AreReadAs s (read ++ held s piece) (kept ++ rows)
    by true large same = let no : ⊥ = cc in absurd no
    by false small same =
        subst (λ (vs : List Row). AreReadAs s (read ++ held s piece) (kept ++ vs)) (sym (ap rows_of same))
        (kept_more schema s read piece kept small keyed keeps so_far)

-- what is kept is of the pieces that are read then
pub reads_kept : (schema : Schema) (pieces : Pieces) (work : Progress) (piece : List (ℤ × Row)) (left : List (List (ℤ × Row))) (rows : List Row) → pieces.left ≡ piece ∷ left
    → found.Rows rows ≡ found_in schema work.statement piece → AreKeyed piece → KeepsKeysIn schema work.statement piece → AreReadAs work.statement pieces.read work.rows
    → AreReadAs work.statement (behind_piece pieces work.statement).read (work.rows ++ rows)
reads_kept schema pieces work piece left rows ahead is keyed keeps kept =
    subst (λ (ls : List (List (ℤ × Row))). AreReadAs work.statement (behind_first work.statement pieces.read ls).read (work.rows ++ rows)) (sym ahead)
    (kept_on schema work.statement pieces.read piece work.rows rows is keyed keeps kept)

module _ (tables : List Table) (noted : List RowChange) (pieces : Pieces) (work : Progress) (count : ℕ) (some : nat_lt work.base count ≡ has_noted noted) (table : Table) (phase : work.phase ≡ Reading)
    (there : slice_get tables work.place ≡ Some table) where
  step_reads : (room : Bool) (piece : List (ℤ × Row)) (left : List (List (ℤ × Row))) → pieces.left ≡ piece ∷ left
      → after_step work.statement room (stage_of tables noted pieces work)
      ≡ (if some_outgrow table.schema work.statement piece then failed tables noted RowTooLarge else stage_at tables noted (pieces_left work.statement work.place table.schema (pieces.read ++ held work.statement piece) left))
  step_reads room piece left ahead =
      step_at tables noted pieces work room Reading phase
      ∙ ap (λ (t : Option Table). step_of work.statement room tables noted (reading work.place (schema_in t) pieces.read pieces.left)) there
      ∙ ap (λ (ls : List (List (ℤ × Row))). step_of work.statement room tables noted (reading work.place table.schema pieces.read ls)) ahead

  more_by : (b : Bool) (piece later : List (ℤ × Row)) (rest : List (List (ℤ × Row))) (page : PageNo)
      → stage_of tables noted (behind_first work.statement pieces.read (piece ∷ later ∷ rest)) (took work (found_by b (kept_of work.statement (held work.statement piece))) (Some page) count)
      ≡ (if b then failed tables noted RowTooLarge else stage_at tables noted (reading work.place table.schema (pieces.read ++ held work.statement piece) (later ∷ rest)))
  more_by true piece later rest page = failed_stage tables noted (behind_first work.statement pieces.read (piece ∷ later ∷ rest)) work RowTooLarge count some
  more_by false piece later rest page =
      let new : Progress = record work { rows = work.rows ++ kept_of work.statement (held work.statement piece); after = Some page; budget = work.budget - 1 } in
      ap (λ (q : WorkPhase). stage_at tables noted (phase_at tables (behind_first work.statement pieces.read (piece ∷ later ∷ rest)) new q)) phase
      ∙ ap (λ (t : Option Table). stage_at tables noted (reading work.place (schema_in t) (pieces.read ++ held work.statement piece) (later ∷ rest))) there

  -- a piece is read, and more are left
  pub reads_more : (room : Bool) (piece later : List (ℤ × Row)) (rest : List (List (ℤ × Row))) (page : PageNo) → pieces.left ≡ piece ∷ later ∷ rest
      → stage_of tables noted (behind_piece pieces work.statement) (took work (found_in table.schema work.statement piece) (Some page) count) ≡ after_step work.statement room (stage_of tables noted pieces work)
  reads_more room piece later rest page ahead =
      ap (λ (ls : List (List (ℤ × Row))). stage_of tables noted (behind_first work.statement pieces.read ls) (took work (found_in table.schema work.statement piece) (Some page) count)) ahead
      ∙ ap (λ (f : Found). stage_of tables noted (behind_first work.statement pieces.read (piece ∷ later ∷ rest)) (took work f (Some page) count)) (found_is table.schema work.statement piece)
      ∙ more_by (some_outgrow table.schema work.statement piece) piece later rest page
      ∙ sym (step_reads room piece (later ∷ rest) ahead)

  out_by : (b : Bool) (read : List (ℤ × Row)) (rows : List Row) (behind : Pieces) → is_select work.statement ≡ b → work.next ≡ 0 → reads work.statement ≡ true → AreReadAs work.statement read rows
      → stage_of tables noted behind (if b then answered (record work { rows = [] }) (reply.Rows rows) else went_on (record work { rows = rows })) ≡ stage_at tables noted (with_read work.statement work.place read)
  out_by true read rows behind kind next reads_rows kept = ap (stage_at tables noted) (selected_is work.statement work.place read rows kind kept)
  out_by false read rows behind kind next reads_rows kept =
      ap (stage_at tables noted)
      (went_phase tables behind (record work { rows = rows })
      ∙ ap (λ (n : ℕ). changes_left (is_insert work.statement) n (map (change_by (is_delete work.statement) work.place) (drop n (rows_named work.statement rows)))) next
      ∙ written_is work.statement work.place read rows reads_rows kind kept)

  last_by : (b : Bool) (piece : List (ℤ × Row)) → some_outgrow table.schema work.statement piece ≡ b → work.next ≡ 0 → reads work.statement ≡ true → AreKeyed piece → KeepsKeysIn table.schema work.statement piece
      → AreReadAs work.statement pieces.read work.rows
      → stage_of tables noted (behind_first work.statement pieces.read (piece ∷ [])) (took work (found_by b (kept_of work.statement (held work.statement piece))) None count)
      ≡ (if b then failed tables noted RowTooLarge else stage_at tables noted (with_read work.statement work.place (pieces.read ++ held work.statement piece)))
  last_by true piece large next reads_rows keyed keeps kept = failed_stage tables noted (behind_first work.statement pieces.read (piece ∷ [])) work RowTooLarge count some
  last_by false piece large next reads_rows keyed keeps kept =
      out_by (is_select work.statement) (pieces.read ++ held work.statement piece) (work.rows ++ kept_of work.statement (held work.statement piece)) (behind_first work.statement pieces.read (piece ∷ []))
      refl next reads_rows (kept_more table.schema work.statement pieces.read piece work.rows large keyed keeps kept)

  -- the last piece is read
  pub reads_out : (room : Bool) (piece : List (ℤ × Row)) → pieces.left ≡ piece ∷ [] → work.next ≡ 0 → reads work.statement ≡ true → AreKeyed piece → KeepsKeysIn table.schema work.statement piece
      → AreReadAs work.statement pieces.read work.rows
      → stage_of tables noted (behind_piece pieces work.statement) (took work (found_in table.schema work.statement piece) None count) ≡ after_step work.statement room (stage_of tables noted pieces work)
  reads_out room piece ahead next reads_rows keyed keeps kept =
      ap (λ (ls : List (List (ℤ × Row))). stage_of tables noted (behind_first work.statement pieces.read ls) (took work (found_in table.schema work.statement piece) None count)) ahead
      ∙ ap (λ (f : Found). stage_of tables noted (behind_first work.statement pieces.read (piece ∷ [])) (took work f None count)) (found_is table.schema work.statement piece)
      ∙ last_by (some_outgrow table.schema work.statement piece) piece refl next reads_rows keyed keeps kept
      ∙ sym (step_reads room piece [] ahead)

-- ---- it begins

no_table : Table
no_table = record { name = []; schema = record { columns = [] }; rows = [] }

-- a table that has a name stands at its place
pub record Placed (tables : List Table) (place : ℕ) : Type 0 where
  pub table : Table
  pub is_there : slice_get tables place ≡ Some table

pub placed : (tables : List Table) (name : List ℕ) (place : ℕ) → place_of tables name ≡ Some place → Placed tables place
placed tables name place is =
    let p = position-Some (λ (table : Table). bytes_eq table.name name) tables place no_table is in
    let inside = p.0 in
    let less : nat_lt place (length tables) ≡ true = grind (arith, nat_tests, inside) in
    let b = behind tables place less in
    record { table = b.item; is_there = b.is_there }

insert_begins : (tables : List Table) (name : List ℕ) (rows : List Row) (base budget : ℕ) (pieces : Pieces) (o : Option ℕ) → place_of tables name ≡ o
    → stage_of tables [] pieces (start_at (Insert name rows) base budget o) ≡ stage_at tables [] (of_place (ready no_such_table) (λ place table. changes_left true 0 (changes_in place (Insert name rows) table.rows)) tables o)
insert_begins tables name rows base budget pieces None is = refl
insert_begins tables name rows base budget pieces (Some place) is =
    let p = placed tables name place is in
    ap (stage_at tables []) (went_phase tables pieces (started (Insert name rows) place base budget Reading reply.Ok))
    ∙ sym (ap (λ (t : Option Table). stage_at tables [] (of_found (ready no_such_table) (λ place table. changes_left true 0 (changes_in place (Insert name rows) table.rows)) place t)) p.is_there)

reading_begins : (s : Statement) (tables : List Table) (name : List ℕ) (base budget : ℕ) (piece : List (ℤ × Row)) (left : List (List (ℤ × Row))) (o : Option ℕ) → is_insert s ≡ false → place_of tables name ≡ o
    → stage_of tables [] (all_left (piece ∷ left)) (start_at s base budget o) ≡ stage_at tables [] (of_place (ready no_such_table) (λ place table. pieces_left s place table.schema [] (piece ∷ left)) tables o)
reading_begins s tables name base budget piece left None not is = refl
reading_begins s tables name base budget piece left (Some place) not is =
    let p = placed tables name place is in
    let work = started s place base budget Reading reply.Ok in
    ap (λ (b : Bool). stage_of tables [] (all_left (piece ∷ left)) (if b then went_on work else work)) not
    ∙ ap (λ (t : Option Table). stage_at tables [] (reading place (schema_in t) [] (piece ∷ left))) p.is_there
    ∙ sym (ap (λ (t : Option Table). stage_at tables [] (of_found (ready no_such_table) (λ place table. pieces_left s place table.schema [] (piece ∷ left)) place t)) p.is_there)

pub begins_stage : (tables : List Table) (s : Statement) (base budget : ℕ) (piece : List (ℤ × Row)) (left : List (List (ℤ × Row)))
    → stage_of tables [] (all_left (piece ∷ left)) (start_of s base budget (place_for tables s)) ≡ begun tables s (piece ∷ left)
begins_stage tables (Create name schema) base budget piece left = refl
begins_stage tables (Insert name rows) base budget piece left = insert_begins tables name rows base budget (all_left (piece ∷ left)) (place_of tables name) refl
begins_stage tables (Select name columns w) base budget piece left = reading_begins (Select name columns w) tables name base budget piece left (place_of tables name) refl refl
begins_stage tables (Update name sets w) base budget piece left = reading_begins (Update name sets w) tables name base budget piece left (place_of tables name) refl refl
begins_stage tables (Delete name w) base budget piece left = reading_begins (Delete name w) tables name base budget piece left (place_of tables name) refl refl
begins_stage tables Begin base budget piece left = refl
begins_stage tables Commit base budget piece left = refl
begins_stage tables Rollback base budget piece left = refl
begins_stage tables (Refused refusal) base budget piece left = refl

at_begins_read : (s : Statement) (base budget : ℕ) (place : Option ℕ) → is_insert s ≡ false → (start_at s base budget place).rows ≡ []
at_begins_read s base budget None is = refl
at_begins_read s base budget (Some place) is =
    let work = started s place base budget Reading reply.Ok in ap (λ (b : Bool). (if b then went_on work else work).rows) is

-- nothing is kept then
pub begins_read : (s : Statement) (base budget : ℕ) (place : Option ℕ) → AreReadAs s [] (start_of s base budget place).rows
begins_read (Create name schema) base budget place = tt
begins_read (Insert name rows) base budget place = tt
begins_read (Select name columns w) base budget place = at_begins_read (Select name columns w) base budget place refl
begins_read (Update name sets w) base budget place = (at_begins_read (Update name sets w) base budget place refl, tt)
begins_read (Delete name w) base budget place = (at_begins_read (Delete name w) base budget place refl, tt)
begins_read Begin base budget place = tt
begins_read Commit base budget place = tt
begins_read Rollback base budget place = tt
begins_read (Refused refusal) base budget place = tt

-- what the pieces of its table have is what it reads
pub reads_all : (tables : List Table) (s : Statement) (pieces : List (List (ℤ × Row))) → OfPlace (λ place table. HasHeld s table.rows pieces) tables (place_for tables s) → ReadsAll tables s pieces
reads_all tables (Create name schema) pieces all = tt
reads_all tables (Insert name rows) pieces all = tt
reads_all tables (Select name columns w) pieces all = all
reads_all tables (Update name sets w) pieces all = all
reads_all tables (Delete name w) pieces all = all
reads_all tables Begin pieces all = tt
reads_all tables Commit pieces all = tt
reads_all tables Rollback pieces all = tt
reads_all tables (Refused refusal) pieces all = tt
