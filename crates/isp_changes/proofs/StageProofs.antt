-- A statement step by step: each step leads where the statement led, unless it finds the file full.
use Rattle.std.proofs.Common.{◌≡◌, ℕ, suc, ◌+◌, ◌*◌, ◌<◌, ◌≤◌, ℤ, Bool, true, false, ◌&&◌, ◌||◌, cond, List, [], ◌∷◌, ◌++◌, refl, ap, ◌∙◌, sym, subst, length, map, slice_get, is_some, Some, None, Option, append-nil, append_assoc, length-append, arith, ◌⊎◌, inl, inr}
use Rattle.std.specs.Prelude.{filter, nat_lt, slice_set}
use Rattle.std.specs.List.{list_any}
use Rattle.std.specs.Map.{values_of}
use Rattle.std.specs.BTreeMap.{is_at}
use Rattle.std.specs.Option.{option_and_then}
use Rattle.std.specs.declared.cmp.Ordering.TheVariants.{Less, Equal}
use Rattle.std.specs.Ordering.{int_cmp}
use Rattle.std.proofs.lemmas.List.Elements.{filter-append}
use Rattle.std.proofs.lemmas.List.Folds.{list_any-append}
use Rattle.isp_plain.specs.declared.refusal.Refusal.{Refusal}
use Rattle.isp_plain.specs.declared.refusal.Refusal.TheVariants.{DuplicateKey, FileFull, RowTooLarge}
use Rattle.isp_plain.specs.declared.value.Row.{Row}
use Rattle.isp_plain.specs.declared.value.Schema.{Schema}
use Rattle.isp_plain.specs.declared.statement.Assign.{Assign}
use Rattle.isp_plain.specs.declared.statement.Condition.{Condition}
use Rattle.isp_plain.specs.declared.statement.Reply.{Reply}
use Rattle.isp_plain.specs.declared.statement.Reply.TheVariants as reply
use Rattle.isp_plain.specs.declared.statement.Statement.{Statement}
use Rattle.isp_plain.specs.declared.statement.Statement.TheVariants.{Create, Insert, Select, Update, Delete, Begin, Commit, Rollback, Refused}
use Rattle.isp_plain.specs.Conditions.{holds}
use Rattle.isp_plain.specs.Does.{Change, Outcome, answered, changed_at, changed_in, cut, delete, does, insert, insert_or, no_such_table, outgrows, place_of, refused, select_reply, selected, table_at, update, with_sets}
use Rattle.isp_plain.specs.Entries.{first_duplicate, has_key, with_row, with_rows}
use Rattle.isp_plain.specs.RowBytes.{row_bytes, row_limit}
use Rattle.isp_plain.specs.Tables.{Table}
use Rattle.isp_plain.specs.Values.{key_of}
use Rattle.isp_changes.specs.Rows.{AreKeyed, AreRising, AreRisingTables, row_at}
use Rattle.isp_changes.specs.Changes.{OfFound, OfPlace, RowChange, adding, after_change, after_changes, changed_table, changes_by, changes_in, found_at, held, image_of, is_held, joined, of_found, of_place, piece_of, replacing, with_changed}
use Rattle.isp_changes.specs.Stages.{BringsBack, HasHeld, Phase, ReadsAll, Stage, after_step, asks_room, begun, changed_on, changes_left, changing, creating, failed, found_full, inserted, is_insert, is_taken, looked_on, looking, most_left, outcome_by, outcome_of, outgrows_by, pieces_left, reading, read_on, ready, some_outgrow, stage_at, undoing, with_empty, with_read, written}
use Rattle.isp_changes.specs.StageLaws.{EndsAsDone, IsLed, ReadsByKey, ReadsInPieces, StepsBegin, StepsFall, StepsLead, StepsStand, most_steps}
use Rattle.isp_changes.proofs.RowProofs.{Above, first_above, if_not, if_so, later_rise, no_rows, same_at, same_key}
use Rattle.isp_changes.proofs.ChangeProofs.{IsMade, itself, change_rises, get_set, goes_back, made_delete, made_update, rising_get, rising_more, set_get, set_set}

-- ---- rows that hold

values_append : (rows more : List (ℤ × Row)) → values_of (rows ++ more) ≡ values_of rows ++ values_of more
values_append [] more = refl
values_append (e ∷ rows) more = ap (λ vs. e.1 ∷ vs) (values_append rows more)

some_append : (schema : Schema) (statement : Statement) (rows more : List (ℤ × Row)) →
    some_outgrow schema statement (rows ++ more) ≡ (some_outgrow schema statement rows || some_outgrow schema statement more)
some_append schema statement rows more =
    ap (list_any (outgrows_by schema statement)) (values_append rows more) ∙ list_any-append (outgrows_by schema statement) (values_of rows) (values_of more)

or_so : (a b : Bool) → a ≡ true → (a || b) ≡ true
or_so true b is = refl
or_so false b is = cc

or_not : (a b : Bool) → a ≡ false → (a || b) ≡ b
or_not true b is = cc
or_not false b is = refl

values_held : (p : Row → Bool) (rows : List (ℤ × Row)) → values_of (filter (λ (e : ℤ × Row). p e.1) rows) ≡ filter p (values_of rows)
values_held p [] = refl
values_held p (e ∷ rows) = by (p e.1) (values_held p rows)
  where
    by : (b : Bool) → values_of (filter (λ (e : ℤ × Row). p e.1) rows) ≡ filter p (values_of rows) → values_of (cond b (e ∷ filter (λ (e : ℤ × Row). p e.1) rows) (filter (λ (e : ℤ × Row). p e.1) rows)) ≡ cond b (e.1 ∷ filter p (values_of rows)) (filter p (values_of rows))
    by true later = ap (λ vs. e.1 ∷ vs) later
    by false later = later

-- a test of the rows that hold is one of the held rows
any_held : (p q : Row → Bool) (rows : List (ℤ × Row)) →
    list_any (λ row. p row && q row) (values_of rows) ≡ list_any q (values_of (filter (λ (e : ℤ × Row). p e.1) rows))
any_held p q [] = refl
any_held p q (e ∷ rows) = by (p e.1) (any_held p q rows)
  where
    by : (b : Bool) → list_any (λ row. p row && q row) (values_of rows) ≡ list_any q (values_of (filter (λ (e : ℤ × Row). p e.1) rows)) → ((b && q e.1) || list_any (λ row. p row && q row) (values_of rows))
        ≡ list_any q (values_of (cond b (e ∷ filter (λ (e : ℤ × Row). p e.1) rows) (filter (λ (e : ℤ × Row). p e.1) rows)))
    by true later = ap (λ b. q e.1 || b) later
    by false later = later

any_none : (rows : List Row) → list_any (λ (row : Row). false) rows ≡ false
any_none [] = refl
any_none (row ∷ rows) = any_none rows

-- ---- phases

with_read_leads : (statement : Statement) (first : List Table) (place : ℕ) (tables : List Table) (read : List (ℤ × Row)) →
    outcome_by statement first tables (with_read statement place read) ≡ read_on statement place tables read
with_read_leads (Create name schema) first place tables read = refl
with_read_leads (Insert name rows) first place tables read = refl
with_read_leads (Select name columns w) first place tables read = refl
with_read_leads (Update name sets w) first place tables [] = refl
with_read_leads (Update name sets w) first place tables (e ∷ read) = refl
with_read_leads (Delete name w) first place tables [] = refl
with_read_leads (Delete name w) first place tables (e ∷ read) = refl
with_read_leads Begin first place tables read = refl
with_read_leads Commit first place tables read = refl
with_read_leads Rollback first place tables read = refl
with_read_leads (Refused refusal) first place tables read = refl

pieces_lead : (statement : Statement) (first : List Table) (place : ℕ) (schema : Schema) (tables : List Table) (read : List (ℤ × Row)) (pieces : List (List (ℤ × Row))) →
    outcome_by statement first tables (pieces_left statement place schema read pieces) ≡ outcome_by statement first tables (reading place schema read pieces)
pieces_lead statement first place schema tables read [] =
    with_read_leads statement first place tables read ∙ ap (read_on statement place tables) (sym (append-nil read))
pieces_lead statement first place schema tables read (piece ∷ pieces) = refl

failed_leads : (statement : Statement) (first tables : List Table) (noted : List RowChange) (refusal : Refusal) → after_changes tables noted ≡ first →
    outcome_of statement first (failed tables noted refusal) ≡ answered first (reply.Err refusal)
failed_leads statement first tables [] refusal back = ap (λ ts. answered ts (reply.Err refusal)) back
failed_leads statement first tables (image ∷ noted) refusal back = refl

-- the next change, where its key has to be free or not
left_leads : (free : Bool) (statement : Statement) (first : List Table) (made : ℕ) (tables : List Table) (change : RowChange) (left : List RowChange) → is_insert statement ≡ free →
    outcome_by statement first (after_change tables change) (changes_left free (made + 1) left) ≡ changed_on free first made tables change left
left_leads true statement first made tables change [] is = refl
left_leads true statement first made tables change (next ∷ left) is =
    ap (λ f. looked_on f first (made + 1) (after_change tables change) (next ∷ left)) is
left_leads false statement first made tables change [] is = refl
left_leads false statement first made tables change (next ∷ left) is =
    ap (λ f. changed_on f first (made + 1) (after_change tables change) next left) is
    ∙ ap (λ n. answered (after_changes tables (change ∷ next ∷ left)) (reply.Count n)) (let e : made + 1 + length (next ∷ left) ≡ made + length (change ∷ next ∷ left) = omega arith in e)

-- ---- a step

piece_leads : (b : Bool) (statement : Statement) (first tables : List Table) (noted : List RowChange) (place : ℕ) (schema : Schema) (read piece : List (ℤ × Row)) (pieces : List (List (ℤ × Row))) →
    after_changes tables noted ≡ first → some_outgrow schema statement piece ≡ b →
    outcome_of statement first (cond b (failed tables noted RowTooLarge) (stage_at tables noted (pieces_left statement place schema (read ++ held statement piece) pieces)))
    ≡ outcome_by statement first tables (reading place schema read (piece ∷ pieces))
piece_leads true statement first tables noted place schema read piece pieces back is =
    failed_leads statement first tables noted RowTooLarge back
    ∙ sym (if_so (some_outgrow schema statement (piece ++ joined pieces)) _ _ (some_append schema statement piece (joined pieces) ∙ or_so _ (some_outgrow schema statement (joined pieces)) is))
piece_leads false statement first tables noted place schema read piece pieces back is =
    let rest : some_outgrow schema statement (piece ++ joined pieces) ≡ some_outgrow schema statement (joined pieces) =
    some_append schema statement piece (joined pieces) ∙ or_not (some_outgrow schema statement piece) _ is in
    let all : (read ++ held statement piece) ++ held statement (joined pieces) ≡ read ++ held statement (piece ++ joined pieces) =
    append_assoc read (held statement piece) (held statement (joined pieces))
    ∙ ap (λ rows. read ++ rows) (sym (filter-append (λ (e : ℤ × Row). is_held statement e.1) piece (joined pieces))) in
    pieces_lead statement first place schema tables (read ++ held statement piece) pieces
    ∙ (ap (λ b. cond b (answered first (reply.Err RowTooLarge)) (read_on statement place tables ((read ++ held statement piece) ++ held statement (joined pieces)))) (sym rest)
    ∙ ap (λ rows. cond (some_outgrow schema statement (piece ++ joined pieces)) (answered first (reply.Err RowTooLarge)) (read_on statement place tables rows)) all)

look_leads : (b : Bool) (statement : Statement) (first tables : List Table) (noted : List RowChange) (made : ℕ) (change : RowChange) (left : List RowChange) → after_changes tables noted ≡ first →
    outcome_of statement first (cond b (failed tables noted (DuplicateKey change.key)) (stage_at tables noted (changing made (change ∷ left))))
    ≡ cond b (answered first (reply.Err (DuplicateKey change.key))) (changed_on (is_insert statement) first made tables change left)
look_leads true statement first tables noted made change left back = failed_leads statement first tables noted (DuplicateKey change.key) back
look_leads false statement first tables noted made change left back = refl

-- a step with room, without, and one that asks for none
led : (statement : Statement) (first tables : List Table) (noted : List RowChange) (phase : Phase) → BringsBack phase statement first tables noted →
    IsLed statement first (stage_at tables noted phase)
led statement first tables noted (creating name schema) back = record { room = refl; unasked = λ no. cc; full = λ _. failed_leads statement first tables noted FileFull back.1 }
led statement first tables noted (reading place schema read []) back = record {
  room = with_read_leads statement first place tables read ∙ ap (read_on statement place tables) (sym (append-nil read));
  unasked = λ _. refl;
  full = λ no. cc;
}
led statement first tables noted (reading place schema read (piece ∷ pieces)) back = record {
  room = piece_leads (some_outgrow schema statement piece) statement first tables noted place schema read piece pieces back refl;
  unasked = λ _. refl;
  full = λ no. cc;
}
led statement first tables noted (looking made []) back = record { room = refl; unasked = λ _. refl; full = λ no. cc }
led statement first tables noted (looking made (change ∷ left)) back = record {
  room = look_leads (is_taken tables change) statement first tables noted made change left back;
  unasked = λ _. refl;
  full = λ no. cc;
}
led statement first tables noted (changing made []) back = record { room = refl; unasked = λ _. refl; full = λ no. cc }
led statement first tables noted (changing made (change ∷ left)) back = record {
  room = left_leads (is_insert statement) statement first made tables change left refl;
  unasked = λ no. cc;
  full = λ _. failed_leads statement first tables noted FileFull back;
}
led statement first tables [] (undoing refusal) back = record { room = ap (λ ts. answered ts (reply.Err refusal)) back; unasked = λ _. refl; full = λ no. cc }
led statement first tables (image ∷ noted) (undoing refusal) back = record {
  room = failed_leads statement first (after_change tables image) noted refusal back;
  unasked = λ _. refl;
  full = λ no. cc;
}
led statement first tables noted (ready answer) back = record { room = refl; unasked = λ _. refl; full = λ no. cc }

pub steps_lead : StepsLead
steps_lead statement first stage on = led statement first stage.tables stage.noted stage.phase on.back

-- ---- what is noted

back_ready : (statement : Statement) (first tables : List Table) (noted : List RowChange) (answer : Reply) → after_changes tables noted ≡ first →
    BringsBack (ready answer) statement first tables noted
back_ready (Create name schema) first tables noted answer back = tt
back_ready (Insert name rows) first tables noted answer back = back
back_ready (Select name columns w) first tables noted answer back = back
back_ready (Update name sets w) first tables noted answer back = back
back_ready (Delete name w) first tables noted answer back = back
back_ready Begin first tables noted answer back = back
back_ready Commit first tables noted answer back = back
back_ready Rollback first tables noted answer back = back
back_ready (Refused refusal) first tables noted answer back = back

-- the keys rise, and what is noted brings the first tables back
record Keeps (statement : Statement) (first : List Table) (stage : Stage) : Type 0 where
  rises : AreRisingTables stage.tables
  back : BringsBack stage.phase statement first stage.tables stage.noted

failed_keeps : (statement : Statement) (first tables : List Table) (noted : List RowChange) (refusal : Refusal) → AreRisingTables tables → after_changes tables noted ≡ first →
    Keeps statement first (failed tables noted refusal)
failed_keeps statement first tables [] refusal rise back = record { rises = rise; back = back_ready statement first tables [] (reply.Err refusal) back }
failed_keeps statement first tables (image ∷ noted) refusal rise back = record { rises = rise; back = back }

changes_keep : (free : Bool) (statement : Statement) (first tables : List Table) (noted : List RowChange) (made : ℕ) (left : List RowChange) → after_changes tables noted ≡ first →
    BringsBack (changes_left free made left) statement first tables noted
changes_keep free statement first tables noted made [] back = back_ready statement first tables noted (reply.Count made) back
changes_keep true statement first tables noted made (change ∷ left) back = back
changes_keep false statement first tables noted made (change ∷ left) back = back

read_keeps : (statement : Statement) (first tables : List Table) (noted : List RowChange) (place : ℕ) (read : List (ℤ × Row)) → after_changes tables noted ≡ first →
    BringsBack (with_read statement place read) statement first tables noted
read_keeps (Create name schema) first tables noted place read back = tt
read_keeps (Insert name rows) first tables noted place read back = back
read_keeps (Select name columns w) first tables noted place read back = back
read_keeps (Update name sets w) first tables noted place read back = changes_keep false (Update name sets w) first tables noted 0 (changes_by place (Update name sets w) read) back
read_keeps (Delete name w) first tables noted place read back = changes_keep false (Delete name w) first tables noted 0 (changes_by place (Delete name w) read) back
read_keeps Begin first tables noted place read back = back
read_keeps Commit first tables noted place read back = back
read_keeps Rollback first tables noted place read back = back
read_keeps (Refused refusal) first tables noted place read back = back

pieces_keep : (statement : Statement) (first tables : List Table) (noted : List RowChange) (place : ℕ) (schema : Schema) (read : List (ℤ × Row)) (pieces : List (List (ℤ × Row))) → after_changes tables noted ≡ first →
    BringsBack (pieces_left statement place schema read pieces) statement first tables noted
pieces_keep statement first tables noted place schema read [] back = read_keeps statement first tables noted place read back
pieces_keep statement first tables noted place schema read (piece ∷ pieces) back = back

either : (b : Bool) (statement : Statement) (first : List Table) (stage other : Stage) → Keeps statement first stage → Keeps statement first other → Keeps statement first (cond b stage other)
either true statement first stage other keeps others_keep = keeps
either false statement first stage other keeps others_keep = others_keep

step_keeps : (statement : Statement) (first : List Table) (room : Bool) (tables : List Table) (noted : List RowChange) (phase : Phase) → AreRisingTables tables → BringsBack phase statement first tables noted →
    Keeps statement first (after_step statement room (stage_at tables noted phase))
step_keeps statement first true tables noted (creating name schema) rise back = record {
  rises = rising_more tables (record { name = name; schema = schema; rows = [] }) rise no_rows;
  back = subst (λ s. BringsBack (ready reply.Ok) s first (with_empty tables name schema) noted) (sym back.0) tt;
}
step_keeps statement first false tables noted (creating name schema) rise back = failed_keeps statement first tables noted FileFull rise back.1
step_keeps statement first room tables noted (reading place schema read []) rise back = record { rises = rise; back = read_keeps statement first tables noted place read back }
step_keeps statement first room tables noted (reading place schema read (piece ∷ pieces)) rise back =
    either (some_outgrow schema statement piece) statement first _ _ (failed_keeps statement first tables noted RowTooLarge rise back)
    (record { rises = rise; back = pieces_keep statement first tables noted place schema (read ++ held statement piece) pieces back })
step_keeps statement first room tables noted (looking made []) rise back = record { rises = rise; back = back_ready statement first tables noted (reply.Count made) back }
step_keeps statement first room tables noted (looking made (change ∷ left)) rise back =
    either (is_taken tables change) statement first _ _ (failed_keeps statement first tables noted (DuplicateKey change.key) rise back) (record { rises = rise; back = back })
step_keeps statement first room tables noted (changing made []) rise back = record { rises = rise; back = back_ready statement first tables noted (reply.Count made) back }
step_keeps statement first true tables noted (changing made (change ∷ left)) rise back = record {
  rises = change_rises tables change rise;
  back = changes_keep (is_insert statement) statement first (after_change tables change) (image_of tables change ∷ noted) (made + 1) left
      (ap (λ ts. after_changes ts noted) (goes_back tables change rise) ∙ back);
}
step_keeps statement first false tables noted (changing made (change ∷ left)) rise back = failed_keeps statement first tables noted FileFull rise back
step_keeps statement first room tables [] (undoing refusal) rise back = failed_keeps statement first tables [] refusal rise back
step_keeps statement first room tables (image ∷ noted) (undoing refusal) rise back =
    failed_keeps statement first (after_change tables image) noted refusal (change_rises tables image rise) back
step_keeps statement first room tables noted (ready answer) rise back = record { rises = rise; back = back }

Leads : Statement → List Table → Outcome → Type 0
Leads statement first outcome = (outcome ≡ does first statement) ⊎ (outcome ≡ found_full first)

moved : (statement : Statement) (first : List Table) (outcome other : Outcome) → other ≡ outcome → Leads statement first outcome → Leads statement first other
unfolding Leads
moved statement first outcome other is (inl done) = inl (is ∙ done)
moved statement first outcome other is (inr full) = inr (is ∙ full)

without_room : (b : Bool) (statement : Statement) (first : List Table) (stage : Stage) → asks_room stage.phase ≡ b → IsLed statement first stage → Leads statement first (outcome_of statement first stage) →
    Leads statement first (outcome_of statement first (after_step statement false stage))
unfolding Leads
without_room true statement first stage asks led leads = inr (led.full asks)
without_room false statement first stage asks led leads =
    moved statement first (outcome_of statement first stage) _ (ap (outcome_of statement first) (led.unasked asks) ∙ led.room) leads

step_leads : (room : Bool) (statement : Statement) (first : List Table) (stage : Stage) → IsLed statement first stage → Leads statement first (outcome_of statement first stage) →
    Leads statement first (outcome_of statement first (after_step statement room stage))
step_leads true statement first stage led leads = moved statement first (outcome_of statement first stage) _ led.room leads
step_leads false statement first stage led leads = without_room (asks_room stage.phase) statement first stage refl led leads

pub steps_stand : StepsStand
unfolding Leads
steps_stand statement first room stage on =
    let keeps = step_keeps statement first room stage.tables stage.noted stage.phase on.rises on.back in
    record { rises = keeps.rises; back = keeps.back; leads = step_leads room statement first stage (steps_lead statement first stage on) on.leads }

-- ---- the end

pub ends_as_done : EndsAsDone
unfolding Leads
ends_as_done statement first stage answer on is =
    moved statement first (outcome_of statement first stage) (answered stage.tables answer) (sym (ap (outcome_by statement first stage.tables) is)) on.leads

-- ---- how many steps

kept_most : (p : ℤ × Row → Bool) (rows : List (ℤ × Row)) → length (filter p rows) ≤ length rows
kept_most p [] = omega arith
kept_most p (e ∷ rows) = by (p e) (kept_most p rows)
  where
    by : (b : Bool) → length (filter p rows) ≤ length rows → length {A = ℤ × Row} (cond b (e ∷ filter p rows) (filter p rows)) ≤ suc (length rows)
    by true so_far = omega (arith, so_far)
    by false so_far = omega (arith, so_far)

as_many_changes : (f : ℤ × Row → RowChange) (rows : List (ℤ × Row)) → length (map f rows) ≡ length rows
as_many_changes f [] = refl
as_many_changes f (e ∷ rows) = ap suc (as_many_changes f rows)

failed_most : (tables : List Table) (noted : List RowChange) (refusal : Refusal) → most_steps (failed tables noted refusal) ≤ length noted + 1
failed_most tables [] refusal = omega arith
failed_most tables (image ∷ noted) refusal = omega arith

changes_most : (free : Bool) (made n : ℕ) (left : List RowChange) → most_left (changes_left free made left) n ≤ 3 * length left + n + 3
changes_most free made n [] = omega arith
changes_most true made n (change ∷ left) = omega arith
changes_most false made n (change ∷ left) = omega arith

read_most : (statement : Statement) (place n : ℕ) (read : List (ℤ × Row)) → most_left (with_read statement place read) n ≤ 3 * length read + n + 3
read_most (Create name schema) place n read = omega arith
read_most (Insert name rows) place n read = omega arith
read_most (Select name columns w) place n read = omega arith
read_most (Update name sets w) place n read =
    let most = changes_most false 0 n (changes_by place (Update name sets w) read) in
    let many = as_many_changes (λ (e : ℤ × Row). replacing place e.0 (Some (with_sets sets e.1))) read in omega (arith, most, many)
read_most (Delete name w) place n read =
    let most = changes_most false 0 n (changes_by place (Delete name w) read) in
    let many = as_many_changes (λ (e : ℤ × Row). replacing place e.0 None) read in omega (arith, most, many)
read_most Begin place n read = omega arith
read_most Commit place n read = omega arith
read_most Rollback place n read = omega arith
read_most (Refused refusal) place n read = omega arith

pieces_most : (statement : Statement) (place : ℕ) (schema : Schema) (read : List (ℤ × Row)) (pieces : List (List (ℤ × Row))) (n : ℕ) →
    most_left (pieces_left statement place schema read pieces) n ≤ length pieces + 3 * (length read + length (joined pieces)) + n + 4
pieces_most statement place schema read [] n = let most = read_most statement place n read in omega (arith, most)
pieces_most statement place schema read (piece ∷ pieces) n = omega arith

either_most : (b : Bool) (stage other : Stage) (most : ℕ) → most_steps stage < most → most_steps other < most → most_steps (cond b stage other) < most
either_most true stage other most falls others_fall = falls
either_most false stage other most falls others_fall = others_fall

abbrev Falls : Statement → Bool → List Table → List RowChange → Phase → Type 0
Falls statement room tables noted phase =
    ((answer : Reply) × (phase ≡ ready answer)) ⊎ (most_steps (after_step statement room (stage_at tables noted phase)) < most_left phase (length noted))

falls : (statement : Statement) (room : Bool) (tables : List Table) (noted : List RowChange) (phase : Phase) → Falls statement room tables noted phase
falls statement true tables noted (creating name schema) = inr (omega arith)
falls statement false tables noted (creating name schema) = inr (let most = failed_most tables noted FileFull in omega (arith, most))
falls statement room tables noted (reading place schema read []) = inr (let most = read_most statement place (length noted) read in omega (arith, most))
falls statement room tables noted (reading place schema read (piece ∷ pieces)) =
    let fails = failed_most tables noted RowTooLarge in
    let goes_on = pieces_most statement place schema (read ++ held statement piece) pieces (length noted) in
    let few = kept_most (λ (e : ℤ × Row). is_held statement e.1) piece in
    let first = length-append read (held statement piece) in
    let second = length-append piece (joined pieces) in
    inr (either_most (some_outgrow schema statement piece) _ _ _ (omega (arith, fails)) (omega (arith, goes_on, few, first, second)))
falls statement room tables noted (looking made []) = inr (omega arith)
falls statement room tables noted (looking made (change ∷ left)) =
    let fails = failed_most tables noted (DuplicateKey change.key) in
    inr (either_most (is_taken tables change) _ _ _ (omega (arith, fails)) (omega arith))
falls statement room tables noted (changing made []) = inr (omega arith)
falls statement true tables noted (changing made (change ∷ left)) =
    inr (let most = changes_most (is_insert statement) (made + 1) (length (image_of tables change ∷ noted)) left in omega (arith, most))
falls statement false tables noted (changing made (change ∷ left)) = inr (let most = failed_most tables noted FileFull in omega (arith, most))
falls statement room tables [] (undoing refusal) = inr (omega arith)
falls statement room tables (image ∷ noted) (undoing refusal) = inr (let most = failed_most (after_change tables image) noted refusal in omega (arith, most))
falls statement room tables noted (ready answer) = inl (answer, refl)

pub steps_fall : StepsFall
steps_fall statement room stage = falls statement room stage.tables stage.noted stage.phase

-- ---- what is read

pub reads_in_pieces : ReadsInPieces
reads_in_pieces statement rows pieces is = ap (held statement) is

no_less : (key : ℤ) → int_cmp key key ≡ Less → ⊥
no_less key less = let no : Less ≡ Equal = sym less ∙ itself key in cc

none_held : (statement : Statement) (key : ℤ) (rows : List (ℤ × Row)) → Above key rows → AreKeyed rows → ((row : Row) → is_held statement row ≡ true → key_of row ≡ key) → held statement rows ≡ []
none_held statement key [] above keyed only = refl
none_held statement key (e ∷ rows) above keyed only = by (is_held statement e.1) refl (none_held statement key rows above.1 keyed.1 only)
  where
    by : (b : Bool) → is_held statement e.1 ≡ b → held statement rows ≡ [] → cond b (e ∷ held statement rows) (held statement rows) ≡ []
    by true is later =
        let same : e.0 ≡ key = sym keyed.0 ∙ only e.1 is in
        absurd (no_less key (ap (int_cmp key) (sym same) ∙ above.0))
    by false is later = later

-- the first row has the key, or another one
key_first : (statement : Statement) (key : ℤ) (e : ℤ × Row) (rows : List (ℤ × Row)) → key ≡ e.0 → held statement rows ≡ [] →
    held statement ((key, e.1) ∷ []) ≡ held statement (e ∷ rows)
key_first statement key e rows same none = by (is_held statement e.1)
  where
    by : (b : Bool) → cond b ((key, e.1) ∷ []) [] ≡ cond b (e ∷ held statement rows) (held statement rows)
    by true = ap (λ (k : ℤ). let x : ℤ × Row = (k, e.1) in x ∷ []) same ∙ ap (λ rs. e ∷ rs) (sym none)
    by false = sym none

not_so : (b : Bool) → (b ≡ true → ⊥) → b ≡ false
not_so true never = absurd (never refl)
not_so false never = refl

pub reads_by_key : ReadsByKey
reads_by_key statement [] key rises keyed only = refl
reads_by_key statement (e ∷ rows) key rises keyed only =
    by (is_at (int_cmp key) e.0) refl (reads_by_key statement rows key (later_rise e rows rises) keyed.1 only)
  where
    by : (b : Bool) → is_at (int_cmp key) e.0 ≡ b → held statement (found_at rows key ++ []) ≡ held statement rows → held statement (piece_of key (cond b (Some e.1) (row_at rows key)) ++ []) ≡ held statement (e ∷ rows)
    by true is later =
        let same : key ≡ e.0 = same_key key e.0 is in
        key_first statement key e rows same
        (none_held statement key rows (subst (λ k. Above k rows) (sym same) (first_above e rows rises)) keyed.1 only)
    by false is later =
        let other : is_held statement e.1 ≡ true → ⊥ = λ holds. let same : e.0 ≡ key = sym keyed.0 ∙ only e.1 holds in
        let there : is_at (int_cmp key) e.0 ≡ true = ap (λ k. is_at (int_cmp key) k) same ∙ same_at key in
        let no : true ≡ false = sym there ∙ is in cc in
        later ∙ sym (if_not (is_held statement e.1) (e ∷ held statement rows) (held statement rows) (not_so (is_held statement e.1) other))

-- ---- the beginning

anywhere : (tables : List Table) (place : Option ℕ) → OfPlace (λ place table. Unit {0}) tables place
anywhere tables None = tt
anywhere tables (Some place) = by (slice_get tables place)
  where
    by : (found : Option Table) → OfFound (λ place table. Unit {0}) place found
    by None = tt
    by (Some table) = tt

place_leads : (statement : Statement) (tables : List Table) (first_of : ℕ → Table → Phase) (change : Table → Change) (There : ℕ → Table → Type 0) →
    ((place : ℕ) (table : Table) → slice_get tables place ≡ Some table → There place table →
    outcome_by statement tables tables (first_of place table) ≡ record { reply = (change table).reply; tables = slice_set tables place (change table).table }) →
    (place : Option ℕ) → OfPlace There tables place → outcome_by statement tables tables (of_place (ready no_such_table) first_of tables place) ≡ changed_in tables place change
place_leads statement tables first_of change There each None there = refl
place_leads statement tables first_of change There each (Some place) there = by (slice_get tables place) refl there
  where
    by : (found : Option Table) → slice_get tables place ≡ found → OfFound There place found →
        outcome_by statement tables tables (of_found (ready no_such_table) first_of place found) ≡ changed_at tables place change found
    by None is there = refl
    by (Some table) is there = each place table is there

select_leads : (columns : List ℕ) (w : Condition) (statement : Statement) (tables : List Table) (first_of : ℕ → Table → Phase) (There : ℕ → Table → Type 0) →
    ((place : ℕ) (table : Table) → slice_get tables place ≡ Some table → There place table →
    outcome_by statement tables tables (first_of place table) ≡ answered tables (reply.Rows (selected (values_of table.rows) columns w))) →
    (place : Option ℕ) → OfPlace There tables place →
    outcome_by statement tables tables (of_place (ready no_such_table) first_of tables place) ≡ answered tables (select_reply (table_at tables place) columns w)
select_leads columns w statement tables first_of There each None there = refl
select_leads columns w statement tables first_of There each (Some place) there = by (slice_get tables place) refl there
  where
    by : (found : Option Table) → slice_get tables place ≡ found → OfFound There place found →
        outcome_by statement tables tables (of_found (ready no_such_table) first_of place found) ≡ answered tables (select_reply found columns w)
    by None is there = refl
    by (Some table) is there = each place table is there

-- INSERT, with the rows of the statement that are left
with_rows_in : Table → List (ℤ × Row) → Table
with_rows_in table rows = record table { rows = rows }

abbrev insert_outcome : List Table → ℕ → List Table → ℕ → Table → List Row → Option ℤ → Outcome
insert_outcome first made now place table rows None = answered (slice_set now place (with_rows_in table (with_rows table.rows rows))) (reply.Count (made + length rows))
insert_outcome first made now place table rows (Some key) = answered first (reply.Err (DuplicateKey key))

insert_leads : (first : List Table) (made : ℕ) (now : List Table) (place : ℕ) (table : Table) (rows : List Row) → slice_get now place ≡ Some table →
    inserted first made now (map (adding place) rows) ≡ insert_outcome first made now place table rows (first_duplicate table.rows rows)
unfolding with_rows_in
insert_leads first made now place table [] is =
    ap (λ ts. answered ts (reply.Count made)) (sym (set_get now place table is)) ∙ ap (λ n. answered (slice_set now place table) (reply.Count n)) (let e : made ≡ made + 0 = omega arith in e)
insert_leads first made now place table (row ∷ rows) is =
    ap (λ b. cond b (answered first (reply.Err (DuplicateKey (key_of row)))) (inserted first (made + 1) (after_change now (adding place row)) (map (adding place) rows))) taken
    ∙ by (has_key table.rows (key_of row))
    (λ now_is. insert_leads first (made + 1) (slice_set now place (changed_table (adding place row) table)) place (changed_table (adding place row) table) rows now_is)
  where
    next : Table
    next = changed_table (adding place row) table

    taken : is_taken now (adding place row) ≡ has_key table.rows (key_of row)
    taken = ap (λ (found : Option Table). is_some (option_and_then (λ (t : Table). row_at t.rows (key_of row)) found)) is

    changed : after_change now (adding place row) ≡ slice_set now place next
    changed = ap (with_changed now (adding place row)) is

    later : (found : Option ℤ) → insert_outcome first (made + 1) (slice_set now place next) place next rows found ≡ insert_outcome first made now place table (row ∷ rows) found
    later None = ap (λ ts. answered ts (reply.Count (made + 1 + length rows))) (set_set now place next (with_rows_in table (with_rows next.rows rows)))
        ∙ ap (λ n. answered (slice_set now place (with_rows_in table (with_rows next.rows rows))) (reply.Count n)) (let e : made + 1 + length rows ≡ made + suc (length rows) = omega arith in e)
    later (Some key) = refl

    by : (b : Bool) → (slice_get (slice_set now place next) place ≡ Some next →
        inserted first (made + 1) (slice_set now place next) (map (adding place) rows) ≡ insert_outcome first (made + 1) (slice_set now place next) place next rows (first_duplicate next.rows rows)) →
        cond b (answered first (reply.Err (DuplicateKey (key_of row)))) (inserted first (made + 1) (after_change now (adding place row)) (map (adding place) rows))
        ≡ insert_outcome first made now place table (row ∷ rows) (cond b (Some (key_of row)) (first_duplicate (with_row table.rows (key_of row) row) rows))
    by true rest = refl
    by false rest =
        ap (λ ts. inserted first (made + 1) ts (map (adding place) rows)) changed
        ∙ (rest (get_set now place table next is)
        ∙ later (first_duplicate next.rows rows))

inserted_begins : (statement : Statement) (first now : List Table) (left : List RowChange) → is_insert statement ≡ true →
    outcome_by statement first now (changes_left true 0 left) ≡ inserted first 0 now left
inserted_begins statement first now [] is = refl
inserted_begins statement first now (change ∷ left) is = ap (λ f. looked_on f first 0 now (change ∷ left)) is

-- of a table of the tables, that the statement begins on
insert_found : (tables : List Table) (place : ℕ) (table : Table) (rows : List Row) (found : Option ℤ) → slice_get tables place ≡ Some table →
    insert_outcome tables 0 tables place table rows found ≡ record { reply = (insert_or rows table found).reply; tables = slice_set tables place (insert_or rows table found).table }
unfolding with_rows_in
insert_found tables place table rows None is =
    ap (λ n. answered (slice_set tables place (with_rows_in table (with_rows table.rows rows))) (reply.Count n)) (let e : 0 + length rows ≡ length rows = omega arith in e)
insert_found tables place table rows (Some key) is = ap (λ ts. answered ts (reply.Err (DuplicateKey key))) (sym (set_get tables place table is))

large : Schema → List Assign → Row → Bool
large schema sets row = nat_lt row_limit (row_bytes schema (with_sets sets row))

-- changes that are made, one after another
made_leads : (tables : List Table) (place : ℕ) (change : Change) (changes : List RowChange) → IsMade tables place change changes →
    written 0 tables changes ≡ record { reply = change.reply; tables = slice_set tables place change.table }
made_leads tables place change changes made =
    ap (λ n. answered (after_changes tables changes) (reply.Count n)) (let e : 0 + length changes ≡ length changes = omega arith in e)
    ∙ (ap (λ ts. answered ts (reply.Count (length changes))) made.leaves ∙ ap (answered (slice_set tables place change.table)) (sym made.counted))

-- UPDATE, by the rows that it reads
update_begins : (sets : List Assign) (w : Condition) (name : List ℕ) (tables : List Table) (place : ℕ) (table : Table) (pieces : List (List (ℤ × Row))) →
    slice_get tables place ≡ Some table → AreRising table.rows → HasHeld (Update name sets w) table.rows pieces →
    outcome_by (Update name sets w) tables tables (pieces_left (Update name sets w) place table.schema [] pieces)
    ≡ record { reply = (update sets w table).reply; tables = slice_set tables place (update sets w table).table }
unfolding large
update_begins sets w name tables place table pieces is rises reads =
    pieces_lead (Update name sets w) tables place table.schema tables [] pieces
    ∙ (ap (λ b. cond b (answered tables (reply.Err RowTooLarge)) (read_on (Update name sets w) place tables (held (Update name sets w) (joined pieces)))) same
    ∙ (ap (λ rows. cond (some_outgrow table.schema (Update name sets w) table.rows) (answered tables (reply.Err RowTooLarge)) (read_on (Update name sets w) place tables rows)) reads
    ∙ by (list_any (outgrows table.schema sets w) (values_of table.rows)) refl))
  where
    same : some_outgrow table.schema (Update name sets w) (joined pieces) ≡ some_outgrow table.schema (Update name sets w) table.rows
    same = any_held (holds w) (large table.schema sets) (joined pieces)
        ∙ (ap (λ rows. list_any (large table.schema sets) (values_of rows)) reads ∙ sym (any_held (holds w) (large table.schema sets) table.rows))

    by : (b : Bool) → list_any (outgrows table.schema sets w) (values_of table.rows) ≡ b →
        cond b (answered tables (reply.Err RowTooLarge)) (read_on (Update name sets w) place tables (held (Update name sets w) table.rows))
        ≡ record { reply = (update sets w table).reply; tables = slice_set tables place (update sets w table).table }
    by true some =
        let becomes : update sets w table ≡ refused RowTooLarge table = if_so (list_any (outgrows table.schema sets w) (values_of table.rows)) _ _ some in
        ap (λ ts. answered ts (reply.Err RowTooLarge)) (sym (set_get tables place table is))
        ∙ ap (λ (c : Change). let o : Outcome = record { reply = c.reply; tables = slice_set tables place c.table } in o) (sym becomes)
    by false none = made_leads tables place (update sets w table) (changes_in place (Update name sets w) table.rows) (made_update sets w name tables place table is rises none)

delete_begins : (w : Condition) (name : List ℕ) (tables : List Table) (place : ℕ) (table : Table) (pieces : List (List (ℤ × Row))) →
    slice_get tables place ≡ Some table → AreRising table.rows → HasHeld (Delete name w) table.rows pieces →
    outcome_by (Delete name w) tables tables (pieces_left (Delete name w) place table.schema [] pieces)
    ≡ record { reply = (delete w table).reply; tables = slice_set tables place (delete w table).table }
delete_begins w name tables place table pieces is rises reads =
    pieces_lead (Delete name w) tables place table.schema tables [] pieces
    ∙ (if_not (some_outgrow table.schema (Delete name w) (joined pieces)) _ _ (any_none (values_of (joined pieces)))
    ∙ (ap (read_on (Delete name w) place tables) reads
    ∙ made_leads tables place (delete w table) (changes_in place (Delete name w) table.rows) (made_delete w name tables place table is rises)))

select_begins : (columns : List ℕ) (w : Condition) (name : List ℕ) (tables : List Table) (place : ℕ) (table : Table) (pieces : List (List (ℤ × Row))) →
    HasHeld (Select name columns w) table.rows pieces →
    outcome_by (Select name columns w) tables tables (pieces_left (Select name columns w) place table.schema [] pieces)
    ≡ answered tables (reply.Rows (selected (values_of table.rows) columns w))
select_begins columns w name tables place table pieces reads =
    pieces_lead (Select name columns w) tables place table.schema tables [] pieces
    ∙ (if_not (some_outgrow table.schema (Select name columns w) (joined pieces)) _ _ (any_none (values_of (joined pieces)))
    ∙ (ap (read_on (Select name columns w) place tables) reads
    ∙ ap (λ rows. answered tables (reply.Rows (map (cut columns) rows))) (values_held (holds w) table.rows)))

begins : (tables : List Table) (statement : Statement) (pieces : List (List (ℤ × Row))) → AreRisingTables tables → ReadsAll tables statement pieces →
    outcome_of statement tables (begun tables statement pieces) ≡ does tables statement
begins tables (Create name schema) pieces rise reads = refl
begins tables (Insert name rows) pieces rise reads =
    place_leads (Insert name rows) tables (λ place table. changes_left true 0 (changes_in place (Insert name rows) table.rows)) (insert rows) (λ place table. Unit {0})
    (λ place table is there. inserted_begins (Insert name rows) tables tables (map (adding place) rows) refl
    ∙ (insert_leads tables 0 tables place table rows is ∙ insert_found tables place table rows (first_duplicate table.rows rows) is))
    (place_of tables name) (anywhere tables (place_of tables name))
begins tables (Select name columns w) pieces rise reads =
    select_leads columns w (Select name columns w) tables (λ place table. pieces_left (Select name columns w) place table.schema [] pieces) (λ place table. HasHeld (Select name columns w) table.rows pieces)
    (λ place table is there. select_begins columns w name tables place table pieces there) (place_of tables name) reads
begins tables (Update name sets w) pieces rise reads =
    place_leads (Update name sets w) tables (λ place table. pieces_left (Update name sets w) place table.schema [] pieces) (update sets w) (λ place table. HasHeld (Update name sets w) table.rows pieces)
    (λ place table is there. update_begins sets w name tables place table pieces is (rising_get tables place table rise is) there) (place_of tables name) reads
begins tables (Delete name w) pieces rise reads =
    place_leads (Delete name w) tables (λ place table. pieces_left (Delete name w) place table.schema [] pieces) (delete w) (λ place table. HasHeld (Delete name w) table.rows pieces)
    (λ place table is there. delete_begins w name tables place table pieces is (rising_get tables place table rise is) there) (place_of tables name) reads
begins tables Begin pieces rise reads = refl
begins tables Commit pieces rise reads = refl
begins tables Rollback pieces rise reads = refl
begins tables (Refused refusal) pieces rise reads = refl

-- what is noted at the beginning is nothing
place_keeps : (statement : Statement) (tables : List Table) (first_of : ℕ → Table → Phase) → ((place : ℕ) (table : Table) → BringsBack (first_of place table) statement tables tables []) →
    (place : Option ℕ) → BringsBack (of_place (ready no_such_table) first_of tables place) statement tables tables []
place_keeps statement tables first_of each None = back_ready statement tables tables [] no_such_table refl
place_keeps statement tables first_of each (Some place) = by (slice_get tables place)
  where
    by : (found : Option Table) → BringsBack (of_found (ready no_such_table) first_of place found) statement tables tables []
    by None = back_ready statement tables tables [] no_such_table refl
    by (Some table) = each place table

begun_keeps : (tables : List Table) (statement : Statement) (pieces : List (List (ℤ × Row))) → BringsBack (begun tables statement pieces).phase statement tables tables []
begun_keeps tables (Create name schema) pieces = (refl, refl)
begun_keeps tables (Insert name rows) pieces =
    place_keeps (Insert name rows) tables _ (λ place table. changes_keep true (Insert name rows) tables tables [] 0 (changes_in place (Insert name rows) table.rows) refl) (place_of tables name)
begun_keeps tables (Select name columns w) pieces =
    place_keeps (Select name columns w) tables _ (λ place table. pieces_keep (Select name columns w) tables tables [] place table.schema [] pieces refl) (place_of tables name)
begun_keeps tables (Update name sets w) pieces =
    place_keeps (Update name sets w) tables _ (λ place table. pieces_keep (Update name sets w) tables tables [] place table.schema [] pieces refl) (place_of tables name)
begun_keeps tables (Delete name w) pieces =
    place_keeps (Delete name w) tables _ (λ place table. pieces_keep (Delete name w) tables tables [] place table.schema [] pieces refl) (place_of tables name)
begun_keeps tables Begin pieces = refl
begun_keeps tables Commit pieces = refl
begun_keeps tables Rollback pieces = refl
begun_keeps tables (Refused refusal) pieces = refl

pub steps_begin : StepsBegin
steps_begin tables statement pieces rise reads =
    let leads = begins tables statement pieces rise reads in
    record { on = record { rises = rise; back = begun_keeps tables statement pieces; leads = inl leads }; leads = leads }
