-- What is answered of a step, by the phase in which the statement stands.
use Rattle.std.proofs.Common.{◌≡◌, ℕ, suc, Bool, true, false, List, [], ◌∷◌, drop, length, map, slice_get, is_some, Option, Some, None, refl, sym, ◌∙◌, ap, if◌then◌else◌}
use Rattle.std.specs.Prelude.{nat_lt}
use Rattle.std.specs.Option.{option_and_then}
use Rattle.isp_changes.specs.Changes.{RowChange, row_in}
use Rattle.isp_changes.specs.Rows.{row_at}
use Rattle.isp_changes.specs.Stages.{after_step, asks_room, changing, looking, stage_at}
use Rattle.isp_plain.specs.Refusals.{number}
use Rattle.isp_plain.specs.Tables.{Table}
use Rattle.isp_plain.specs.Values.{key_of}
use Rattle.isp_plain.specs.declared.refusal.Refusal.{Refusal}
use Rattle.isp_plain.specs.declared.refusal.Refusal.TheVariants.{DuplicateKey, FileFull}
use Rattle.isp_plain.specs.declared.statement.Reply.TheVariants as reply
use Rattle.isp_plain.specs.declared.statement.Statement.{Statement}
use Rattle.isp_plain.specs.declared.statement.Statement.TheVariants.{Create}
use Rattle.isp_plain.specs.declared.value.Row.{Row}
use Rattle.isp_plain.specs.declared.value.Schema.{Schema}
use Rattle.isp_work.specs.Works.{Pieces, answered, change_by, changes_ahead, creating_by, is_delete, is_ready, look_by, made_by, next_row, phase_at, rows_named, stage_of}
use Rattle.isp_work.specs.declared.found.Looked.TheVariants as looked
use Rattle.isp_work.specs.declared.phase.Phase.{Phase as WorkPhase}
use Rattle.isp_work.specs.declared.phase.Phase.TheVariants.{Creating, Looking, Changing, Undoing, Ready}
use Rattle.isp_work.specs.declared.progress.Progress.{Progress}
use Rattle.isp_work.proofs.StageLaws.{Behind, behind, has_noted, none_behind, none_there, step_at}
use Rattle.isp_exec.specs.Events.{answer_by, answer_of, event_by, made_answer, refusal_of_look}
use Rattle.isp_exec.specs.declared.step.Step.{Step}
use Rattle.isp_exec.specs.declared.step.Step.TheVariants as answers

-- ---- by the phase

answer_at : (tables : List Table) (noted : List RowChange) (pieces : Pieces) (work : Progress) (room : Bool) (p : WorkPhase) → work.phase ≡ p
    → answer_of work.statement room (stage_of tables noted pieces work) ≡ answer_by work.statement room tables noted (phase_at tables pieces work p)
answer_at tables noted pieces work room p is = ap (λ (q : WorkPhase). answer_by work.statement room tables noted (phase_at tables pieces work q)) is

never : {X : Type 0} → false ≡ true → X
never is = cc

-- in a phase that doesn't ask for room, nothing is to be said of it
pub unasked : {X : Type 0} (tables : List Table) (pieces : Pieces) (work : Progress) (p : WorkPhase) → work.phase ≡ p → asks_room (phase_at tables pieces work p) ≡ false → asks_room (phase_at tables pieces work work.phase) ≡ true → X
unasked tables pieces work p is not asks = never (sym not ∙ sym (ap (λ (q : WorkPhase). asks_room (phase_at tables pieces work q)) is) ∙ asks)

-- ---- CREATE

-- its answer, unless it has something to take back
abbrev pub given_by : Progress → Step
given_by work = if is_ready work.phase then answers.Ready work.reply else answers.Failing (number FileFull)

given_is : (noted : List RowChange) (work : Progress) (made : Bool) (count : ℕ) → nat_lt work.base count ≡ has_noted noted → given_by (made_by work made count) ≡ made_answer made noted
given_is noted work true count some = refl
given_is [] work false count some = ap (λ (b : Bool). given_by (if b then record work { phase = Undoing FileFull } else answered work (reply.Err FileFull))) some
given_is (image ∷ noted) work false count some = ap (λ (b : Bool). given_by (if b then record work { phase = Undoing FileFull } else answered work (reply.Err FileFull))) some

pub made_answers : (tables : List Table) (noted : List RowChange) (pieces : Pieces) (work : Progress) (count : ℕ) → nat_lt work.base count ≡ has_noted noted → (name : List ℕ) (schema : Schema) (made : Bool) → work.phase ≡ Creating → work.statement ≡ Create name schema
    → given_by (made_by work made count) ≡ answer_of work.statement made (stage_of tables noted pieces work)
made_answers tables noted pieces work count some name schema made phase is =
    given_is noted work made count some
    ∙ sym (answer_at tables noted pieces work made Creating phase ∙ ap (λ (s : Statement). answer_by work.statement made tables noted (creating_by s)) is)

module _ (tables : List Table) (noted : List RowChange) (pieces : Pieces) (work : Progress) where
  -- the change of a row, with those behind it
  ahead_is : (b : Behind (rows_named work.statement work.rows) work.next)
      → changes_ahead work ≡ change_by (is_delete work.statement) work.place b.item ∷ map (change_by (is_delete work.statement) work.place) (drop (suc work.next) (rows_named work.statement work.rows))
  ahead_is b = ap (map (change_by (is_delete work.statement) work.place)) b.rest

  none_ahead : nat_lt work.next (length (rows_named work.statement work.rows)) ≡ false → changes_ahead work ≡ []
  none_ahead over = ap (map (change_by (is_delete work.statement) work.place)) (none_behind (rows_named work.statement work.rows) work.next over)

  -- ---- a key

  over_looks : work.phase ≡ Looking → nat_lt work.next (length (rows_named work.statement work.rows)) ≡ false → answers.Event ≡ answer_of work.statement true (stage_of tables noted pieces work)
  over_looks phase over =
      sym (answer_at tables noted pieces work true Looking phase ∙ ap (λ (left : List RowChange). answer_by work.statement true tables noted (looking work.next left)) (none_ahead over))

  found_looks : (table : Table) (row : Row) (b : Bool) (left : List RowChange) → work.phase ≡ Looking → slice_get tables work.place ≡ Some table → is_some (row_at table.rows (key_of row)) ≡ b
      → changes_ahead work ≡ change_by (is_delete work.statement) work.place row ∷ left
      → event_by (refusal_of_look (if b then looked.Taken (DuplicateKey (key_of row)) else looked.Free)) ≡ answer_of work.statement true (stage_of tables noted pieces work)
  found_looks table row b left phase there taken ahead =
      let is : is_some (row_in tables work.place (key_of row)) ≡ b =
      ap (λ (t : Option Table). is_some (option_and_then (λ (table : Table). row_at table.rows (key_of row)) t)) there ∙ taken in
      by b
      ∙ sym (answer_at tables noted pieces work true Looking phase
      ∙ ap (λ (changes : List RowChange). answer_by work.statement true tables noted (looking work.next changes)) ahead
      ∙ ap (λ (c : Bool). event_by (if c then Some (DuplicateKey (key_of row)) else None)) is)
    where
      by : (c : Bool) → event_by (refusal_of_look (if c then looked.Taken (DuplicateKey (key_of row)) else looked.Free)) ≡ event_by (if c then Some (DuplicateKey (key_of row)) else None)
      by true = refl
      by false = refl

  pub looked_answers : (table : Table) → work.phase ≡ Looking → slice_get tables work.place ≡ Some table
      → event_by (refusal_of_look (look_by (next_row work) table.rows)) ≡ answer_of work.statement true (stage_of tables noted pieces work)
  looked_answers table phase there = by (nat_lt work.next (length (rows_named work.statement work.rows))) refl
    where
      by : (b : Bool) → nat_lt work.next (length (rows_named work.statement work.rows)) ≡ b
          → event_by (refusal_of_look (look_by (next_row work) table.rows)) ≡ answer_of work.statement true (stage_of tables noted pieces work)
      by true less =
          let b = behind (rows_named work.statement work.rows) work.next less in
          ap (λ (row : Option Row). event_by (refusal_of_look (look_by row table.rows))) b.is_there
          ∙ found_looks table b.item (is_some (row_at table.rows (key_of b.item))) (map (change_by (is_delete work.statement) work.place) (drop (suc work.next) (rows_named work.statement work.rows))) phase there refl (ahead_is b)
      by false over =
          ap (λ (row : Option Row). event_by (refusal_of_look (look_by row table.rows))) (none_there (rows_named work.statement work.rows) work.next over)
          ∙ over_looks phase over

  -- ---- a row

  pub over_answers : work.phase ≡ Changing → nat_lt work.next (length (rows_named work.statement work.rows)) ≡ false → answers.Event ≡ answer_of work.statement true (stage_of tables noted pieces work)
  over_answers phase over =
      sym (answer_at tables noted pieces work true Changing phase ∙ ap (λ (left : List RowChange). answer_by work.statement true tables noted (changing work.next left)) (none_ahead over))

  pub done_answers : (b : Behind (rows_named work.statement work.rows) work.next) → work.phase ≡ Changing → answers.Event ≡ answer_of work.statement true (stage_of tables noted pieces work)
  done_answers b phase =
      sym (answer_at tables noted pieces work true Changing phase ∙ ap (λ (left : List RowChange). answer_by work.statement true tables noted (changing work.next left)) (ahead_is b))

  pub full_answers : (b : Behind (rows_named work.statement work.rows) work.next) → work.phase ≡ Changing → event_by (Some FileFull) ≡ answer_of work.statement false (stage_of tables noted pieces work)
  full_answers b phase =
      sym (answer_at tables noted pieces work false Changing phase ∙ ap (λ (left : List RowChange). answer_by work.statement false tables noted (changing work.next left)) (ahead_is b))

  -- ---- a change that is taken back, and the answer

  pub undone_answers : (refusal : Refusal) → work.phase ≡ Undoing refusal → answers.Event ≡ answer_of work.statement true (stage_of tables noted pieces work)
  undone_answers refusal phase = sym (answer_at tables noted pieces work true (Undoing refusal) phase)

  pub ready_answers : work.phase ≡ Ready → answers.Ready work.reply ≡ answer_of work.statement true (stage_of tables noted pieces work)
  ready_answers phase = sym (answer_at tables noted pieces work true Ready phase)

  pub ready_stage : work.phase ≡ Ready → stage_of tables noted pieces work ≡ after_step work.statement true (stage_of tables noted pieces work)
  ready_stage phase = ap (λ (q : WorkPhase). stage_at tables noted (phase_at tables pieces work q)) phase ∙ sym (step_at tables noted pieces work true Ready phase)

-- where no row is left, no room is asked for
pub over_asks : {X : Type 0} (tables : List Table) (pieces : Pieces) (work : Progress) → work.phase ≡ Changing → nat_lt work.next (length (rows_named work.statement work.rows)) ≡ false → asks_room (phase_at tables pieces work work.phase) ≡ true → X
over_asks tables pieces work phase over =
    unasked tables pieces work Changing phase
    (ap (λ (rows : List Row). asks_room (changing work.next (map (change_by (is_delete work.statement) work.place) rows))) (none_behind (rows_named work.statement work.rows) work.next over))
