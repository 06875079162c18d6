-- A statement on a file goes on as its stage does: where each of its steps finds it.
use Rattle.std.proofs.Common.{◌≡◌, ℕ, suc, ◌+◌, ◌-◌, ◌<◌, Bool, true, false, List, [], ◌∷◌, ◌++◌, length, map, slice_get, Some, refl, sym, ◌∙◌, ap, subst, arith, length-append, if◌then◌else◌}
use Rattle.std.specs.Prelude.{nat_lt}
use Rattle.std.proofs.lemmas.Bool.Decides.{nat_tests}
use Rattle.isp_catalog.specs.declared.table.TableDef.{TableDef}
use Rattle.isp_changes.specs.Changes.{RowChange, after_change, image_of}
use Rattle.isp_changes.specs.Stages.{IsOnTheWay, Stage, after_step, asks_room, is_insert, outcome_of}
use Rattle.isp_changes.proofs.StageProofs.{steps_lead, steps_stand}
use Rattle.isp_chained.specs.Courses.{Reaches}
use Rattle.isp_image.specs.Databases.{Database, FileImage, FileTable, back_of, shown, table_of, tables_of}
use Rattle.isp_chained.proofs.CourseLaws.{reaches_on, reaches_self}
use Rattle.isp_page.specs.declared.pages.Pages.{Ghosts}
use Rattle.isp_plain.specs.Lined.{is_lined_statement}
use Rattle.isp_plain.specs.Tables.{Table}
use Rattle.isp_plain.specs.declared.refusal.Refusal.{Refusal}
use Rattle.isp_plain.specs.declared.refusal.Refusal.TheVariants.{FileFull}
use Rattle.isp_plain.specs.declared.statement.Reply.TheVariants as reply
use Rattle.isp_plain.specs.declared.statement.Statement.{Statement}
use Rattle.isp_plain.specs.declared.statement.Statement.TheVariants.{Create, Insert, Select, Update, Delete, Begin, Commit, Rollback, Refused}
use Rattle.isp_plain.specs.declared.value.Schema.{Schema}
use Rattle.isp_space.specs.Spaces.{has_room}
use Rattle.isp_trx.specs.Transactions.{TrxState}
use Rattle.isp_trx_laws.specs.FileStages.{IsStageOf}
use Rattle.isp_work.specs.Works.{answered, change_by, failed_by, first_of, is_delete, look_by, looked_by, made_by, next_row, passed, rows_left, rows_named, stage_of, went_on}
use Rattle.isp_work.specs.declared.found.Looked.{Looked}
use Rattle.isp_work.specs.declared.found.Looked.TheVariants as looked
use Rattle.isp_work.specs.declared.phase.Phase.{Phase as WorkPhase}
use Rattle.isp_work.specs.declared.phase.Phase.TheVariants.{Creating, Reading, Looking, Changing, Undoing, RollingBack, Ready}
use Rattle.isp_work.specs.declared.progress.Progress.{Progress}
use Rattle.isp_work.proofs.StageLaws.{Behind, SameParts, done_stage, failed_same, full_stage, has_noted, looked_stage, made_stage, none_stage, over_stage, undone_stage, unmade_stage, went_same}
use Rattle.isp_writes.specs.Causes.{FillsUp, IsFull}
use Rattle.isp_tables.specs.Creations.{CreatesOrFull, IsCreatable, MakesOrFull}
use Rattle.isp_tables.specs.Opened.{IsOpen}
use Rattle.isp_exec.specs.Events.{IsNext, answer_of, event_by, refusal_of_look}
use Rattle.isp_exec.specs.Standing.{AreWritable, AreWritableNow, IsAt, Leads, stage_in, writes}
use Rattle.isp_exec.specs.declared.step.Step.{Step}
use Rattle.isp_exec.specs.declared.step.Step.TheVariants.{Event}
use Rattle.isp_exec.specs.declared.step.Step.TheVariants as answers
use Rattle.isp_writes.specs.Writing.{fewer}
use Rattle.isp_exec.proofs.AnswerLaws.{done_answers, full_answers, given_by, looked_answers, made_answers, over_answers, over_asks, ready_answers, ready_stage, undone_answers, unasked}
use Rattle.isp_exec.proofs.RowLaws.{later_writable}
use Rattle.isp_writes.specs.Writing.{DidUndo, DidWrite, UndidOrNot}

abbrev first_or : FileImage → List FileImage → FileImage
first_or d [] = d
first_or d (i ∷ images) = i

abbrev rest_of : List FileImage → List FileImage
rest_of [] = []
rest_of (i ∷ images) = images

same_first : (x y : FileImage) (xs ys : List FileImage) → ◌≡◌ {A = List FileImage} (x ∷ xs) (y ∷ ys) → x ≡ y
same_first x y xs ys same = ap (first_or x) same

same_rest : (x y : FileImage) (xs ys : List FileImage) → ◌≡◌ {A = List FileImage} (x ∷ xs) (y ∷ ys) → xs ≡ ys
same_rest x y xs ys same = ap rest_of same

-- ---- where it leads

fills_on : (pages : ℕ) (start d after : Database) → FillsUp pages start d → Reaches pages d after → FillsUp pages start after
fills_on pages start d after f more = record { at = f.at; before = f.before; behind = reaches_on pages f.at d after f.behind more; full = f.full }

leads_room : (pages : ℕ) (start d after : Database) (st : Statement) (stage : Stage) → IsOnTheWay st (tables_of start) stage → Leads pages start d st stage → Reaches pages d after
    → Leads pages start after st (after_step st true stage)
leads_room pages start d after st stage way l more =
    let led = steps_lead st (tables_of start) stage way in
    record { full = l.full; leads = led.room ∙ l.leads; cause = λ is. fills_on pages start d after (l.cause is) more }

leads_full : (pages : ℕ) (start d after : Database) (st : Statement) (stage : Stage) → IsOnTheWay st (tables_of start) stage → Leads pages start d st stage → Reaches pages start d → Reaches pages d after
    → (asks_room stage.phase ≡ true → IsFull pages d) → Leads pages start after st (after_step st false stage)
leads_full pages start d after st stage way l reached more full = by (asks_room stage.phase) refl
  where
    by : (b : Bool) → asks_room stage.phase ≡ b → Leads pages start after st (after_step st false stage)
    by true asks = record {
      full = true;
      leads = (steps_lead st (tables_of start) stage way).full asks;
      cause = λ is. record { at = d; before = reached; behind = more; full = full asks };
    }
    by false asks =
        let led = steps_lead st (tables_of start) stage way in
        record {
          full = l.full;
          leads = ap (outcome_of st (tables_of start)) (led.unasked asks) ∙ led.room ∙ l.leads;
          cause = λ is. fills_on pages start d after (l.cause is) more;
        }

leads_by : (room : Bool) (pages : ℕ) (start d after : Database) (st : Statement) (stage : Stage) → IsOnTheWay st (tables_of start) stage → Leads pages start d st stage → Reaches pages start d → Reaches pages d after
    → (asks_room stage.phase ≡ true → room ≡ has_room pages d.space) → Leads pages start after st (after_step st room stage)
leads_by true pages start d after st stage way l reached more asked = leads_room pages start d after st stage way l more
leads_by false pages start d after st stage way l reached more asked = leads_full pages start d after st stage way l reached more (λ asks. sym (asked asks))

-- ---- what was noted

counted : (since before : List FileImage) → nat_lt (length before) (length (since ++ before)) ≡ has_noted (map back_of since)
counted [] before = grind (arith, nat_tests)
counted (i ∷ since) before =
    let sum = length-append since before in
    let less : length before < suc (length (since ++ before)) = omega (arith, sum) in
    grind (arith, nat_tests, less)

module _ {S : Type 0} (g : Ghosts S) (old : S) (defs : List TableDef) (trx : TrxState) (start : Database) (work : Progress) (at : IsAt g old defs trx start work) where
  pub as_many : trx.count ≡ length (at.stage.since ++ start.images)
  as_many = at.opened.noted ∙ ap (λ (l : List FileImage). length l) at.stage.images

  pub some_noted : nat_lt work.base trx.count ≡ has_noted at.noted
  some_noted = (λ i. nat_lt (at.base i) (as_many i)) ∙ counted at.stage.since start.images ∙ sym (ap has_noted at.stage.noted)

-- ---- its table is read

abbrev pub is_behind : WorkPhase → Bool
is_behind Creating = false
is_behind Reading = false
is_behind RollingBack = false
is_behind _ = true

pub went_behind : (work : Progress) → is_behind (went_on work).phase ≡ true
went_behind work = by (nat_lt work.next (length (rows_named work.statement work.rows)))
  where
    first : (inserts : Bool) → is_behind (first_of inserts) ≡ true
    first true = refl
    first false = refl

    by : (b : Bool) → is_behind (if b then record work { phase = first_of (is_insert work.statement) } else answered work (reply.Count work.next)).phase ≡ true
    by true = first (is_insert work.statement)
    by false = refl

pub failed_behind : (work : Progress) (refusal : Refusal) (count : ℕ) → is_behind (failed_by work refusal count).phase ≡ true
failed_behind work refusal count = by (nat_lt work.base count)
  where
    by : (b : Bool) → is_behind (if b then record work { phase = Undoing refusal } else answered work (reply.Err refusal)).phase ≡ true
    by true = refl
    by false = refl

pub not_behind : (work : Progress) (p : WorkPhase) → is_behind work.phase ≡ true → is_behind p ≡ false → work.phase ≡ p → ⊥
not_behind work p is not phase = let bad : true ≡ false = sym is ∙ ap is_behind phase ∙ not in cc

-- ---- one step further

-- Where a statement stood so, it now stands one step further, and the step was answered so.
pub record Comes {S : Type 0} (g : Ghosts S) {old : S} {defs : List TableDef} {trx : TrxState} {start : Database} {work : Progress} (at : IsAt g old defs trx start work) (now : S) (defs_now : List TableDef) (trx_now : TrxState) (work_now : Progress) (step : Step) : Type 0 where
  pub next : IsNext g at now defs_now trx_now work_now
  pub answered : step ≡ answer_of work.statement next.room (stage_in at)
  pub stated : work_now.statement ≡ work.statement

module _ {S : Type 0} (g : Ghosts S) (old new : S) (defs defs_now : List TableDef) (trx trx_now : TrxState) (start : Database) (work work_now : Progress) (at : IsAt g old defs trx start work)
    (pages : (g.shape new).pages ≡ (g.shape old).pages) (step : Step) where
  pub next_at : (room : Bool) (after : Database) (noted : List RowChange) → IsOpen g new defs_now trx_now after → Reaches (g.shape new).pages at.db after
      → (asks_room (stage_in at).phase ≡ true → room ≡ has_room (g.shape new).pages at.db.space)
      → IsStageOf start.images after (stage_of (tables_of after) noted at.pieces work_now)
      → stage_of (tables_of after) noted at.pieces work_now ≡ after_step work.statement room (stage_in at)
      → step ≡ answer_of work.statement room (stage_in at)
      → work_now.statement ≡ work.statement → work_now.base ≡ work.base → is_behind work_now.phase ≡ true → AreWritableNow work_now after
      → Comes g at new defs_now trx_now work_now step
  next_at room after noted opened more asked is_stage steps answered_so statement base behind writable =
      let first = tables_of start in
      let n = (g.shape new).pages in
      let stage = stage_of (tables_of at.db) at.noted at.pieces work in
      let now = stage_of (tables_of after) noted at.pieces work_now in
      let reached : Reaches n start at.db = subst (λ (k : ℕ). Reaches k start at.db) (sym pages) at.reaches in
      let had : Leads n start at.db work.statement stage = subst (λ (k : ℕ). Leads k start at.db work.statement stage) (sym pages) at.leads in
      let way : IsOnTheWay work.statement first now = subst (IsOnTheWay work.statement first) (sym steps) (steps_stand work.statement first room stage at.way) in
      let led : Leads n start after work.statement now =
      subst (λ (s : Stage). Leads n start after work.statement s) (sym steps) (leads_by room n start at.db after work.statement stage at.way had reached more asked) in
      record {
        next = record {
          after = record {
            db = after;
            opened = opened;
            reaches = reaches_on n start at.db after reached more;
            base = base ∙ at.base;
            noted = noted;
            pieces = at.pieces;
            stage = is_stage;
            way = subst (λ (s : Statement). IsOnTheWay s first now) (sym statement) way;
            leads = subst (λ (s : Statement). Leads n start after s now) (sym statement) led;
            lined = ap is_lined_statement statement ∙ at.lined;
            read = λ phase. absurd (not_behind work_now Reading behind refl phase);
            writable = writable;
            other = not_behind work_now RollingBack behind refl;
          };
          room = room;
          asked = asked;
          steps = steps;
        };
        answered = answered_so;
        stated = statement;
      }

  -- the database stays, and so does what was noted
  pub stays_at : (room : Bool) → IsOpen g new defs_now trx_now at.db → (asks_room (stage_in at).phase ≡ true → room ≡ has_room (g.shape new).pages at.db.space)
      → stage_of (tables_of at.db) at.noted at.pieces work_now ≡ after_step work.statement room (stage_in at)
      → step ≡ answer_of work.statement room (stage_in at)
      → work_now.statement ≡ work.statement → work_now.base ≡ work.base → is_behind work_now.phase ≡ true → AreWritableNow work_now at.db
      → Comes g at new defs_now trx_now work_now step
  stays_at room opened asked steps answered_so statement base behind writable =
      next_at room at.db at.noted opened (reaches_self (g.shape new).pages at.db) asked
      (record { tables = refl; since = at.stage.since; images = at.stage.images; noted = at.stage.noted })
      steps answered_so statement base behind writable

-- ---- rows that are left

pub no_way : {X : Type 0} → false ≡ true → X
no_way is = cc

-- another phase leaves them
pub went_writable : (work : Progress) (d : Database) → AreWritable (is_delete work.statement) work.place (rows_left work) d → AreWritableNow (went_on work) d
went_writable work d writable = by (nat_lt work.next (length (rows_named work.statement work.rows)))
  where
    by : (b : Bool) → AreWritableNow (if b then record work { phase = first_of (is_insert work.statement) } else answered work (reply.Count work.next)) d
    by true = λ is. writable
    by false = λ is. no_way is

pub failed_writable : (work : Progress) (refusal : Refusal) (count : ℕ) (d : Database) → AreWritableNow (failed_by work refusal count) d
failed_writable work refusal count d = by (nat_lt work.base count)
  where
    by : (b : Bool) → AreWritableNow (if b then record work { phase = Undoing refusal } else answered work (reply.Err refusal)) d
    by true = λ is. no_way is
    by false = λ is. no_way is

-- ---- CREATE

module _ {S : Type 0} (g : Ghosts S) (old new : S) (defs defs_now : List TableDef) (trx : TrxState) (start : Database) (work : Progress) (at : IsAt g old defs trx start work)
    (pages : (g.shape new).pages ≡ (g.shape old).pages) (phase : work.phase ≡ Creating) where
  created_by : (name : List ℕ) (schema : Schema) (made : Bool) → work.statement ≡ Create name schema → CreatesOrFull g new defs_now trx name schema at.db made
      → Comes g at new defs_now trx (made_by work made trx.count) (given_by (made_by work made trx.count))
  created_by name schema true is did =
      let some = some_noted g old defs trx start work at in
      next_at g old new defs defs_now trx trx start work (made_by work true trx.count) at pages (given_by (made_by work true trx.count)) true did.after at.noted did.opened did.reaches (λ asks. sym did.room)
      (record { tables = refl; since = at.stage.since; images = did.images ∙ at.stage.images; noted = at.stage.noted })
      (ap (λ (tables : List Table). stage_of tables at.noted at.pieces (made_by work true trx.count)) did.tables
      ∙ made_stage (tables_of at.db) at.noted at.pieces work trx.count some name schema phase is)
      (made_answers (tables_of at.db) at.noted at.pieces work trx.count some name schema true phase is)
      refl refl refl
      (λ is. no_way is)
  created_by name schema false is full =
      let some = some_noted g old defs trx start work at in
      let same = failed_same work FileFull trx.count in
      stays_at g old new defs defs_now trx trx start work (made_by work false trx.count) at pages (given_by (made_by work false trx.count)) false full.0 (λ asks. sym full.1)
      (unmade_stage (tables_of at.db) at.noted at.pieces work trx.count some name schema phase is)
      (made_answers (tables_of at.db) at.noted at.pieces work trx.count some name schema false phase is)
      same.statement same.base (failed_behind work FileFull trx.count)
      (failed_writable work FileFull trx.count at.db)

  pub created_at : (s : Statement) (made : Bool) → work.statement ≡ s → IsCreatable defs s → MakesOrFull g new defs_now trx s at.db made
      → Comes g at new defs_now trx (made_by work made trx.count) (given_by (made_by work made trx.count))
  created_at (Create name schema) made is can did = created_by name schema made is did
  created_at (Insert name rows) made is can did = absurd can
  created_at (Select name columns w) made is can did = absurd can
  created_at (Update name sets w) made is can did = absurd can
  created_at (Delete name w) made is can did = absurd can
  created_at Begin made is can did = absurd can
  created_at Commit made is can did = absurd can
  created_at Rollback made is can did = absurd can
  created_at (Refused refusal) made is can did = absurd can

-- ---- a key

module _ {S : Type 0} (g : Ghosts S) (old new : S) (defs : List TableDef) (trx : TrxState) (start : Database) (work : Progress) (at : IsAt g old defs trx start work)
    (pages : (g.shape new).pages ≡ (g.shape old).pages) (opened : IsOpen g new defs trx at.db) where
  looked_parts : (looked : Looked) → SameParts work (looked_by work looked trx.count)
  looked_parts looked.Over = went_same work
  looked_parts looked.Free = record { statement = refl; place = refl; rows = refl; next = refl; after = refl; budget = refl; base = refl }
  looked_parts (looked.Taken refusal) = failed_same work refusal trx.count

  looked_behind : (looked : Looked) → is_behind (looked_by work looked trx.count).phase ≡ true
  looked_behind looked.Over = went_behind work
  looked_behind looked.Free = refl
  looked_behind (looked.Taken refusal) = failed_behind work refusal trx.count

  looked_writable : (found : Looked) → AreWritable (is_delete work.statement) work.place (rows_left work) at.db → AreWritableNow (looked_by work found trx.count) at.db
  looked_writable looked.Over writable = went_writable work at.db writable
  looked_writable looked.Free writable = λ is. writable
  looked_writable (looked.Taken refusal) writable = failed_writable work refusal trx.count at.db

  pub looked_at : (t : FileTable) (found : Looked) → work.phase ≡ Looking → slice_get (tables_of at.db) work.place ≡ Some (table_of t) → found ≡ look_by (next_row work) (shown t.rows)
      → Comes g at new defs trx (looked_by work found trx.count) (event_by (refusal_of_look found))
  looked_at t found phase there is =
      let same = looked_parts found in
      stays_at g old new defs defs trx trx start work (looked_by work found trx.count) at pages (event_by (refusal_of_look found)) true opened (unasked (tables_of at.db) at.pieces work Looking phase refl)
      (ap (λ (l : Looked). stage_of (tables_of at.db) at.noted at.pieces (looked_by work l trx.count)) is
      ∙ looked_stage (tables_of at.db) at.noted at.pieces work trx.count (some_noted g old defs trx start work at) (table_of t) phase there)
      (ap (λ (l : Looked). event_by (refusal_of_look l)) is ∙ looked_answers (tables_of at.db) at.noted at.pieces work (table_of t) phase there)
      same.statement same.base (looked_behind found) (looked_writable found (at.writable (ap writes phase)))

-- ---- a row

module _ {S : Type 0} (g : Ghosts S) (old new : S) (defs : List TableDef) (trx trx_now : TrxState) (start : Database) (work : Progress) (at : IsAt g old defs trx start work)
    (pages : (g.shape new).pages ≡ (g.shape old).pages) (phase : work.phase ≡ Changing) where
  pub over_at : nat_lt work.next (length (rows_named work.statement work.rows)) ≡ false → IsOpen g new defs trx_now at.db → Comes g at new defs trx_now (went_on work) Event
  over_at over opened =
      let same = went_same work in
      stays_at g old new defs defs trx trx_now start work (went_on work) at pages Event true opened (over_asks (tables_of at.db) at.pieces work phase over)
      (over_stage (tables_of at.db) at.noted at.pieces work trx.count (some_noted g old defs trx start work at) phase over)
      (over_answers (tables_of at.db) at.noted at.pieces work phase over)
      same.statement same.base (went_behind work) (went_writable work at.db (at.writable (ap writes phase)))

  pub full_at : (b : Behind (rows_named work.statement work.rows) work.next) (count : ℕ) → count ≡ trx.count → IsOpen g new defs trx_now at.db → IsFull (g.shape new).pages at.db
      → Comes g at new defs trx_now (failed_by work FileFull count) (event_by (Some FileFull))
  full_at b count is opened full =
      let same = failed_same work FileFull count in
      stays_at g old new defs defs trx trx_now start work (failed_by work FileFull count) at pages (event_by (Some FileFull)) false opened (λ asks. sym full)
      (full_stage (tables_of at.db) at.noted at.pieces work count (ap (nat_lt work.base) is ∙ some_noted g old defs trx start work at) b phase)
      (full_answers (tables_of at.db) at.noted at.pieces work b phase)
      same.statement same.base (failed_behind work FileFull count) (failed_writable work FileFull count at.db)

  pub done_at : (b : Behind (rows_named work.statement work.rows) work.next) → DidWrite g new defs trx_now (change_by (is_delete work.statement) work.place b.item) at.db → Comes g at new defs trx_now (passed work) Event
  done_at b did =
      let change = change_by (is_delete work.statement) work.place b.item in
      let next : Progress = record work { next = work.next + 1 } in
      let same = went_same next in
      next_at g old new defs defs trx trx_now start work (passed work) at pages Event true did.after (image_of (tables_of at.db) change ∷ at.noted) did.opened did.reaches (λ asks. sym did.room)
      (record {
        tables = refl;
        since = did.image ∷ at.stage.since;
        images = did.noted ∙ ap (λ (l : List FileImage). did.image ∷ l) at.stage.images;
        noted = λ i. sym did.back i ∷ at.stage.noted i;
      })
      (ap (λ (tables : List Table). stage_of tables (image_of (tables_of at.db) change ∷ at.noted) at.pieces (passed work)) did.tables
      ∙ done_stage (tables_of at.db) at.noted at.pieces work trx.count (some_noted g old defs trx start work at) b phase)
      (done_answers (tables_of at.db) at.noted at.pieces work b phase)
      same.statement same.base (went_behind next)
      (went_writable next did.after (later_writable (is_delete work.statement) work.place (rows_named work.statement work.rows) work.next b at.db did.after at.way.rises (at.writable (ap writes phase)) did.tables))

-- ---- a change that is taken back

module _ {S : Type 0} (g : Ghosts S) (old new : S) (defs : List TableDef) (trx trx_now : TrxState) (start : Database) (work : Progress) (at : IsAt g old defs trx start work)
    (pages : (g.shape new).pages ≡ (g.shape old).pages) (refusal : Refusal) (phase : work.phase ≡ Undoing refusal) where
  none_by : (noted : List RowChange) → at.noted ≡ noted → has_noted noted ≡ false → at.noted ≡ []
  none_by [] is none = is
  none_by (image ∷ noted) is none = cc

  pub none_at : nat_lt work.base trx.count ≡ false → IsOpen g new defs trx_now at.db → trx_now.count ≡ trx.count → Comes g at new defs trx_now (failed_by work refusal trx_now.count) Event
  none_at none opened same_count =
      let count = trx_now.count in
      let same = failed_same work refusal count in
      let few : nat_lt work.base count ≡ false = ap (nat_lt work.base) same_count ∙ none in
      let nothing : at.noted ≡ [] = none_by at.noted refl (sym (some_noted g old defs trx start work at) ∙ none) in
      stays_at g old new defs defs trx trx_now start work (failed_by work refusal count) at pages Event true opened (unasked (tables_of at.db) at.pieces work (Undoing refusal) phase refl)
      (subst (λ (noted : List RowChange). stage_of (tables_of at.db) noted at.pieces (failed_by work refusal count) ≡ after_step work.statement true (stage_of (tables_of at.db) noted at.pieces work)) (sym nothing)
      (none_stage (tables_of at.db) at.pieces work refusal count true phase few))
      (undone_answers (tables_of at.db) at.noted at.pieces work refusal phase)
      same.statement same.base (failed_behind work refusal count) (failed_writable work refusal count at.db)

  -- the image that was put back is the newest, and those behind it are still noted
  put_back : (image : FileImage) (since : List FileImage) → at.noted ≡ back_of image ∷ map back_of since → (did : DidUndo g new defs trx_now at.db) → image ≡ did.image → since ++ start.images ≡ did.after.images
      → Comes g at new defs trx_now (failed_by work refusal trx_now.count) Event
  put_back image since noted did first rest =
      let count = trx_now.count in
      let same = failed_same work refusal count in
      let open_count : count ≡ length (since ++ start.images) = did.opened.noted ∙ sym (ap (λ (l : List FileImage). length l) rest) in
      let few : nat_lt work.base count ≡ has_noted (map back_of since) = (λ i. nat_lt (at.base i) (open_count i)) ∙ counted since start.images in
      let tables : tables_of did.after ≡ after_change (tables_of at.db) (back_of image) = did.tables ∙ sym (ap (λ (i : FileImage). after_change (tables_of at.db) (back_of i)) first) in
      let steps : stage_of (tables_of did.after) (map back_of since) at.pieces (failed_by work refusal count) ≡ after_step work.statement true (stage_of (tables_of at.db) at.noted at.pieces work) =
      ap (λ (ts : List Table). stage_of ts (map back_of since) at.pieces (failed_by work refusal count)) tables
      ∙ undone_stage (tables_of at.db) (back_of image) (map back_of since) at.pieces work refusal count true phase few
      ∙ ap (λ (l : List RowChange). after_step work.statement true (stage_of (tables_of at.db) l at.pieces work)) (sym noted) in
      next_at g old new defs defs trx trx_now start work (failed_by work refusal count) at pages Event true did.after (map back_of since) did.opened did.reaches (unasked (tables_of at.db) at.pieces work (Undoing refusal) phase refl)
      (record { tables = refl; since = since; images = sym rest; noted = refl })
      steps
      (undone_answers (tables_of at.db) at.noted at.pieces work refusal phase)
      same.statement same.base (failed_behind work refusal count)
      (failed_writable work refusal count did.after)

  undone_by : (since : List FileImage) → at.noted ≡ map back_of since → at.db.images ≡ since ++ start.images → nat_lt (length start.images) (length (since ++ start.images)) ≡ true → (did : DidUndo g new defs trx_now at.db)
      → Comes g at new defs trx_now (failed_by work refusal trx_now.count) Event
  undone_by [] noted images some did =
      let none : nat_lt (length start.images) (length start.images) ≡ false = grind (arith, nat_tests) in
      no_way (sym none ∙ some)
  undone_by (image ∷ since) noted images some did =
      let both : image ∷ (since ++ start.images) ≡ did.image ∷ did.after.images = sym images ∙ did.noted in
      put_back image since noted did
      (same_first image did.image (since ++ start.images) did.after.images both)
      (same_rest image did.image (since ++ start.images) did.after.images both)

  pub undone_at : nat_lt work.base trx.count ≡ true → (did : DidUndo g new defs trx_now at.db) → Comes g at new defs trx_now (failed_by work refusal trx_now.count) Event
  undone_at some did =
      undone_by at.stage.since at.stage.noted at.stage.images
      ((λ i. nat_lt (sym at.base i) (sym (as_many g old defs trx start work at) i)) ∙ some) did

  pub undo_at : (b : Bool) → nat_lt work.base trx.count ≡ b → trx_now.count ≡ fewer work.base trx.count → UndidOrNot g new defs trx_now b at.db → Comes g at new defs trx_now (failed_by work refusal trx_now.count) Event
  undo_at true some notes did = undone_at some did
  undo_at false none notes opened = none_at none opened (notes ∙ ap (λ (b : Bool). if b then trx.count - 1 else trx.count) none)

-- ---- it is ready

module _ {S : Type 0} (g : Ghosts S) (now : S) (defs : List TableDef) (trx : TrxState) (start : Database) (work : Progress) (at : IsAt g now defs trx start work) (phase : work.phase ≡ Ready) where
  pub ready_at : Comes g at now defs trx work (answers.Ready work.reply)
  ready_at =
      stays_at g now now defs defs trx trx start work work at refl (answers.Ready work.reply) true at.opened (unasked (tables_of at.db) at.pieces work Ready phase refl)
      (ready_stage (tables_of at.db) at.noted at.pieces work phase)
      (ready_answers (tables_of at.db) at.noted at.pieces work phase)
      refl refl (ap is_behind phase) at.writable
