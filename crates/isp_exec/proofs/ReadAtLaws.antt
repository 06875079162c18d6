-- A statement reads a piece of its table on a file.
use Rattle.std.proofs.Common.{◌≡◌, ℕ, zero, suc, ◌+◌, ◌-◌, ◌≤◌, ℤ, Bool, true, false, ◌&&◌, List, [], ◌∷◌, ◌++◌, append-nil, drop, length, slice_get, Option, Some, None, refl, sym, ◌∙◌, ap, subst, arith, if◌then◌else◌}
use Rattle.std.specs.Prelude.{slice_set}
use Rattle.std.specs.List.{AllByRecursion, fold, list_all}
use Rattle.std.specs.Map.{values_of}
use Rattle.isp_base.specs.declared.page_no.PageNo.{PageNo}
use Rattle.isp_catalog.specs.declared.table.TableDef.{TableDef}
use Rattle.isp_changes.specs.Changes.{held, joined}
use Rattle.isp_changes.specs.Rows.{AreKeyed, AreRising}
use Rattle.isp_changes.specs.Stages.{IsOnTheWay, Stage, after_step, asks_room, reading, some_outgrow}
use Rattle.isp_changes.proofs.StageProofs.{steps_lead, steps_stand}
use Rattle.isp_chained.specs.Courses.{Reaches}
use Rattle.isp_file_laws.proofs.KeptLaws.{kept_is_plain, table_keyed, table_rises}
use Rattle.isp_image.specs.Databases.{Database, FileTable, shown, table_of, tables_of}
use Rattle.isp_page.specs.declared.pages.Pages.{Ghosts}
use Rattle.isp_plain.specs.Conditions.{holds}
use Rattle.isp_plain.specs.Does.{with_set, with_sets}
use Rattle.isp_plain.specs.Lined.{are_lined, is_lined_row, is_lined_statement, is_lined_table, is_lined_value}
use Rattle.isp_plain.specs.Tables.{Table}
use Rattle.isp_plain.specs.declared.refusal.Refusal.TheVariants.{RowTooLarge}
use Rattle.isp_plain.specs.declared.statement.Assign.{Assign}
use Rattle.isp_plain.specs.declared.statement.Reply.TheVariants as reply
use Rattle.isp_plain.specs.declared.statement.Statement.{Statement}
use Rattle.isp_plain.specs.declared.statement.Statement.TheVariants.{Create, Insert, Select, Update, Delete, Begin, Commit, Rollback, Refused}
use Rattle.isp_plain.specs.declared.value.Row.{Row}
use Rattle.isp_plain.specs.declared.value.Schema.{Schema}
use Rattle.isp_plain.specs.declared.value.Value.{Value}
use Rattle.isp_row.specs.RowSpelling.{IsRowOf}
use Rattle.isp_scan.specs.Leaves.{HasPiece, IsLeafFound, IsNext as IsNextPiece, Piece}
use Rattle.isp_scan.specs.Readings.{SetsFitIn}
use Rattle.isp_scan.specs.declared.leaves.LeafFound.{LeafFound}
use Rattle.isp_scan.proofs.RowLaws.{are_rows, keeps_keys}
use Rattle.isp_tables.specs.Opened.{IsAtPlace, IsOpen, defs_in}
use Rattle.isp_tables.proofs.TableLaws.{at_place, file_table, plain_at}
use Rattle.isp_trx.specs.Transactions.{TrxState}
use Rattle.isp_work.specs.Finding.{found_in, reads}
use Rattle.isp_work.specs.Works.{AreReadAs, AreReadOf, Pieces, answered, is_delete, is_select, phase_at, read_out, rows_left, rows_named, schema_in, stage_of, took, went_on}
use Rattle.isp_work.specs.declared.found.Found.{Found}
use Rattle.isp_work.specs.declared.found.Found.TheVariants as found
use Rattle.isp_work.specs.declared.phase.Phase.TheVariants.{Reading, RollingBack}
use Rattle.isp_work.specs.declared.progress.Progress.{Progress}
use Rattle.isp_work.proofs.ReadLaws.{KeepsKeysIn, kept_on, read_of_on, took_same}
use Rattle.isp_exec.specs.Events.{IsNext, answer_by, answer_of, event_by, refusal_in}
use Rattle.isp_exec.specs.Standing.{AreDeletable, AreWritable, AreWritableNow, HasRead, IsAt, IsFoundBehind, IsLeft, Leads, stage_in, writes}
use Rattle.isp_exec.proofs.AtLaws.{failed_behind, failed_writable, is_behind, no_way, not_behind, some_noted, went_behind, went_writable}
use Rattle.isp_exec.proofs.PieceLaws.{GoesWith, behind_is, behind_read, is_large, of_first, outgrows_is, own_keys, took_stage}
use Rattle.isp_exec.proofs.RowLaws.{all_by, all_held, all_mapped, and_first, and_rest, read_deletable}

-- ---- no line feed

and_both : (a b : Bool) → a ≡ true → b ≡ true → (a && b) ≡ true
and_both true b first second = second
and_both false b first second = cc

lined_put : (values : List Value) (at : ℕ) (v : Value) → list_all is_lined_value values ≡ true → is_lined_value v ≡ true → list_all is_lined_value (slice_set values at v) ≡ true
lined_put [] at v all one = all
lined_put (x ∷ values) zero v all one = and_both (is_lined_value v) (list_all is_lined_value values) one (and_rest (is_lined_value x) (list_all is_lined_value values) all)
lined_put (x ∷ values) (suc at) v all one =
    and_both (is_lined_value x) (list_all is_lined_value (slice_set values at v)) (and_first (is_lined_value x) (list_all is_lined_value values) all)
    (lined_put values at v (and_rest (is_lined_value x) (list_all is_lined_value values) all) one)

lined_fold : (sets : List Assign) (values : List Value) → list_all (λ (set : Assign). is_lined_value set.v) sets ≡ true → list_all is_lined_value values ≡ true → list_all is_lined_value (fold with_set values sets) ≡ true
lined_fold [] values lines all = all
lined_fold (set ∷ sets) values lines all =
    lined_fold sets (with_set values set) (and_rest (is_lined_value set.v) (list_all (λ (s : Assign). is_lined_value s.v) sets) lines)
    (lined_put values set.column set.v all (and_first (is_lined_value set.v) (list_all (λ (s : Assign). is_lined_value s.v) sets) lines))

some_table : (a b : Table) → Some a ≡ Some b → a ≡ b
some_table a b is = cc

none_table : (b : Table) → None ≡ Some b → ⊥
none_table b is = cc

lined_at : (tables : List Table) (place : ℕ) (table : Table) → are_lined tables ≡ true → slice_get tables place ≡ Some table → is_lined_table table ≡ true
lined_at [] place table all is = absurd (none_table table is)
lined_at (t ∷ tables) zero table all is = ap is_lined_table (sym (some_table t table is)) ∙ and_first (is_lined_table t) (list_all is_lined_table tables) all
lined_at (t ∷ tables) (suc place) table all is = lined_at tables place table (and_rest (is_lined_table t) (list_all is_lined_table tables) all) is

-- ---- behind a piece

out_behind : (work : Progress) → is_behind (read_out work).phase ≡ true
out_behind work = by (is_select work.statement)
  where
    by : (b : Bool) → is_behind (if b then answered (record work { rows = [] }) (reply.Rows work.rows) else went_on work).phase ≡ true
    by true = refl
    by false = went_behind work

took_other : (work : Progress) (f : Found) (next : Option PageNo) (count : ℕ) → work.phase ≡ Reading → (took work f next count).phase ≡ RollingBack → ⊥
took_other work (found.Rows rows) (Some page) count phase is = let bad : Reading ≡ RollingBack = sym phase ∙ is in cc
took_other work (found.Rows rows) None count phase is = not_behind (took work (found.Rows rows) None count) RollingBack (out_behind (record work { rows = work.rows ++ rows })) refl is
took_other work found.TooLarge next count phase is = not_behind (took work found.TooLarge next count) RollingBack (failed_behind work RowTooLarge count) refl is

-- ---- more of it is left

-- what it keeps where the rows that it found are kept
abbrev pub KeepsFound : Statement → List (ℤ × Row) → List Row → Found → Type 0
KeepsFound s read rows (found.Rows new) = AreReadAs s read (rows ++ new)
KeepsFound s read rows found.TooLarge = Unit {0}

kept_found : (s : Statement) (schema : Schema) (read piece : List (ℤ × Row)) (rows : List Row) (f : Found) → f ≡ found_in schema s piece → AreKeyed piece → KeepsKeysIn schema s piece → AreReadAs s read rows
    → KeepsFound s (read ++ held s piece) rows f
kept_found s schema read piece rows (found.Rows new) is keyed keeps had = kept_on schema s read piece rows new is keyed keeps had
kept_found s schema read piece rows found.TooLarge is keyed keeps had = tt

module _ (d : Database) (work : Progress) (pieces : Pieces) (r : HasRead d work pieces) where
  pub whole_behind : AreReadOf work.statement (shown r.table.rows) (behind_read pieces work.statement r.more)
  whole_behind = subst (AreReadOf work.statement (shown r.table.rows)) (behind_is pieces work.statement r.more) (read_of_on work.statement (shown r.table.rows) pieces r.whole)

  few_behind : HasPiece r.more.later → length r.more.later ≤ (work.budget - 1) + 1
  few_behind later =
      let had : length pieces.left ≡ suc (length r.more.later) = ap (λ (l : List Piece). length l) r.more.is in
      let some : length r.more.later ≡ suc (length later.later) = ap (λ (l : List Piece). length l) later.is in
      let few = r.few in omega (arith, had, some, few)

  pub has_read_on : (f : Found) (next : Option PageNo) (count : ℕ) → KeepsFound work.statement (pieces.read ++ held work.statement r.more.first) work.rows f → IsNextPiece r.table next r.more.later
      → (took work f next count).phase ≡ Reading → HasRead d (took work f next count) (behind_read pieces work.statement r.more)
  has_read_on (found.Rows rows) (Some page) count kept next phase =
      record { table = r.table; is_there = r.is_there; kept = kept; whole = whole_behind; more = next.0; left = next.1; few = few_behind next.0 }
  has_read_on (found.Rows rows) None count kept next phase = absurd (not_behind (took work (found.Rows rows) None count) Reading (out_behind (record work { rows = work.rows ++ rows })) refl phase)
  has_read_on found.TooLarge next count kept next_is phase = absurd (not_behind (took work found.TooLarge next count) Reading (failed_behind work RowTooLarge count) refl phase)

-- ---- all of it is read

-- the rows that it keeps can be written
module _ (place : ℕ) (d : Database) (table : Table) (there : slice_get (tables_of d) place ≡ Some table) (rises : AreRising table.rows) (own : AreKeyed table.rows)
    (lines : AllByRecursion (λ (row : Row). is_lined_row row ≡ true) (values_of table.rows)) where
  all_writable : (s : Statement) (rows : List Row) → reads s ≡ true → is_select s ≡ false → is_lined_statement s ≡ true → AreReadAs s (held s table.rows) rows → AreWritable (is_delete s) place (rows_named s rows) d
  all_writable (Create name schema) rows is not lined kept = cc
  all_writable (Insert name others) rows is not lined kept = cc
  all_writable (Select name columns w) rows is not lined kept = cc
  all_writable (Update name sets w) rows is not lined kept =
      subst (AllByRecursion (λ (row : Row). is_lined_row row ≡ true)) (sym kept.0)
      (all_mapped (λ (row : Row). is_lined_row row ≡ true) (λ (row : Row). is_lined_row row ≡ true) (with_sets sets) (values_of (held (Update name sets w) table.rows)) (λ row line. lined_fold sets row.values lined line)
      (all_held (λ (row : Row). is_lined_row row ≡ true) (λ (e : ℤ × Row). holds w e.1) table.rows lines))
  all_writable (Delete name w) rows is not lined kept =
      subst (λ (l : List Row). AreDeletable place l d) (sym kept.0) (read_deletable place d table (λ (e : ℤ × Row). holds w e.1) there rises own)
  all_writable Begin rows is not lined kept = cc
  all_writable Commit rows is not lined kept = cc
  all_writable Rollback rows is not lined kept = cc
  all_writable (Refused refusal) rows is not lined kept = cc

out_writable : (work : Progress) (d : Database) → (is_select work.statement ≡ false → AreWritable (is_delete work.statement) work.place (rows_left work) d) → AreWritableNow (read_out work) d
out_writable work d writable = by (is_select work.statement) refl
  where
    by : (b : Bool) → is_select work.statement ≡ b → AreWritableNow (if b then answered (record work { rows = [] }) (reply.Rows work.rows) else went_on work) d
    by true is = λ now. no_way now
    by false is = went_writable work d (writable is)

took_writable : (work : Progress) (d : Database) (table : Table) (read : List (ℤ × Row)) (left : List Piece) (f : Found) (next : Option PageNo) (count : ℕ) → work.phase ≡ Reading → work.next ≡ 0 → reads work.statement ≡ true → is_lined_statement work.statement ≡ true
    → slice_get (tables_of d) work.place ≡ Some table → AreRising table.rows → AreKeyed table.rows → AllByRecursion (λ (row : Row). is_lined_row row ≡ true) (values_of table.rows)
    → read ++ held work.statement (joined left) ≡ held work.statement table.rows → KeepsFound work.statement read work.rows f → GoesWith next left → AreWritableNow (took work f next count) d
took_writable work d table read left (found.Rows rows) (Some page) count phase first is lined there rises own lines whole kept goes = λ now. no_way (sym (ap writes phase) ∙ now)
took_writable work d table read left (found.Rows rows) None count phase first is lined there rises own lines whole kept goes =
    let s = work.statement in
    let all : read ≡ held s table.rows = sym (append-nil read) ∙ ap (λ (l : List Piece). read ++ held s (joined l)) (sym goes) ∙ whole in
    out_writable (record work { rows = work.rows ++ rows }) d
    (λ not. subst (λ (n : ℕ). AreWritable (is_delete s) work.place (drop n (rows_named s (work.rows ++ rows))) d) (sym first)
    (all_writable work.place d table there rises own lines s (work.rows ++ rows) is not lined (subst (λ (l : List (ℤ × Row)). AreReadAs s l (work.rows ++ rows)) all kept)))
took_writable work d table read left found.TooLarge next count phase first is lined there rises own lines whole kept goes = failed_writable work RowTooLarge count d

-- ---- what was found

goes_with : (t : FileTable) (next : Option PageNo) (left : List Piece) → IsNextPiece t next left → GoesWith next left
goes_with t None left is = is
goes_with t (Some page) left is = is.0

-- the table that it reads is defined so
pub same_table : (d : Database) (place : ℕ) (t : FileTable) (def : TableDef) → slice_get d.tables place ≡ Some t → IsAtPlace place def d → t.def ≡ def
same_table d place t def there at =
    let one : Some t ≡ Some at.table = sym there ∙ at.is_there in
    let same : t ≡ at.table = cc in
    ap (λ (x : FileTable). x.def) same ∙ at.is

abbrev pub place_read : (d : Database) (defs : List TableDef) (work : Progress) (pieces : Pieces) (def : TableDef) (r : HasRead d work pieces) → defs_in d ≡ defs → slice_get defs work.place ≡ Some def → IsAtPlace work.place def d
place_read d defs work pieces def r are is = record { table = r.table; is_there = r.is_there; is = same_table d work.place r.table def r.is_there (at_place d defs work.place def are is) }

-- ---- on a file

-- the same database, one step further, which asks for no room
module _ {S : Type 0} (g : Ghosts S) (old new : S) (defs : List TableDef) (trx : TrxState) (start : Database) (work work_now : Progress) (at : IsAt g old defs trx start work)
    (pages : (g.shape new).pages ≡ (g.shape old).pages) where
  reads_next : (pieces : Pieces) → IsOpen g new defs trx at.db → asks_room (stage_in at).phase ≡ false → stage_of (tables_of at.db) at.noted pieces work_now ≡ after_step work.statement true (stage_in at) → work_now.statement ≡ work.statement
      → work_now.base ≡ work.base → (work_now.phase ≡ Reading → HasRead at.db work_now pieces) → AreWritableNow work_now at.db → (work_now.phase ≡ RollingBack → ⊥) → IsNext g at new defs trx work_now
  reads_next pieces opened asks steps statement base read writable other =
      let first = tables_of start in
      let n = (g.shape new).pages in
      let stage = stage_in at in
      let now = stage_of (tables_of at.db) at.noted pieces work_now in
      let had : Leads n start at.db work.statement stage = subst (λ (k : ℕ). Leads k start at.db work.statement stage) (sym pages) at.leads in
      let way : IsOnTheWay work.statement first now = subst (IsOnTheWay work.statement first) (sym steps) (steps_stand work.statement first true stage at.way) in
      let led : Leads n start at.db work.statement (after_step work.statement true stage) =
      record { full = had.full; leads = (steps_lead work.statement first stage at.way).room ∙ had.leads; cause = had.cause } in
      let leads : Leads n start at.db work.statement now = subst (λ (s : Stage). Leads n start at.db work.statement s) (sym steps) led in
      record {
        after = record {
          db = at.db;
          opened = opened;
          reaches = subst (λ (k : ℕ). Reaches k start at.db) (sym pages) at.reaches;
          base = base ∙ at.base;
          noted = at.noted;
          pieces = pieces;
          stage = record { tables = refl; since = at.stage.since; images = at.stage.images; noted = at.stage.noted };
          way = subst (λ (s : Statement). IsOnTheWay s first now) (sym statement) way;
          leads = subst (λ (s : Statement). Leads n start at.db s now) (sym statement) leads;
          lined = ap is_lined_statement statement ∙ at.lined;
          read = read;
          writable = writable;
          other = other;
        };
        room = true;
        asked = λ is. let bad : true ≡ false = sym is ∙ asks in cc;
        steps = steps;
      }

refusal_is : (f : Found) → refusal_in f ≡ (if is_large f then Some RowTooLarge else None)
refusal_is (found.Rows rows) = refl
refusal_is found.TooLarge = refl

module _ {S : Type 0} (g : Ghosts S) (old new : S) (defs : List TableDef) (trx : TrxState) (start : Database) (work : Progress) (at : IsAt g old defs trx start work) (phase : work.phase ≡ Reading) (def : TableDef)
    (there : slice_get defs work.place ≡ Some def) (leaf : LeafFound) (found : IsFoundBehind def.schema work.statement (at.read phase).table at.pieces.left leaf) where
  -- in the first of the pieces that are left
  leaf_found : IsLeafFound def.schema work.statement (at.read phase).table (at.read phase).more.first (at.read phase).more.later leaf
  leaf_found = subst (λ (l : List Piece). IsFoundBehind def.schema work.statement (at.read phase).table l leaf) (at.read phase).more.is found

  outgrows_so : some_outgrow (schema_in (slice_get (tables_of at.db) work.place)) work.statement (at.read phase).more.first ≡ is_large leaf.found
  outgrows_so =
      let r = at.read phase in
      let place = place_read at.db defs work at.pieces def r at.opened.defs_are there in
      ap (λ (o : Option Table). some_outgrow (schema_in o) work.statement r.more.first) (plain_at at.db work.place def place)
      ∙ ap (λ (x : TableDef). some_outgrow x.schema work.statement r.more.first) place.is
      ∙ outgrows_is work.statement def.schema r.more.first leaf.found leaf_found.found

  -- it reads a piece
  stage_reads : (stage_in at).phase ≡ reading work.place (schema_in (slice_get (tables_of at.db) work.place)) at.pieces.read ((at.read phase).more.first ∷ (at.read phase).more.later)
  stage_reads =
      ap (phase_at (tables_of at.db) at.pieces work) phase
      ∙ ap (λ (left : List Piece). reading work.place (schema_in (slice_get (tables_of at.db) work.place)) at.pieces.read left) (at.read phase).more.is

  -- the statement stands one step further
  pub read_goes : (pages : (g.shape new).pages ≡ (g.shape old).pages) → IsOpen g new defs trx at.db → work.next ≡ 0 → reads work.statement ≡ true → SetsFitIn def.schema work.statement
      → IsNext g at new defs trx (took work leaf.found leaf.next trx.count)
  read_goes pages opened first reads_rows sets =
      let n = (g.shape new).pages in
      let contents = g.contents new in
      let s = work.statement in
      let r = at.read phase in
      let t = r.table in
      let piece = r.more.first in
      let f = leaf.found in
      let next = leaf.next in
      let count = trx.count in
      let place = place_read at.db defs work at.pieces def r at.opened.defs_are there in
      let plain = plain_at at.db work.place def place in
      let has = file_table g new defs trx at.db work.place def opened place in
      let kept_file = opened.kept.holds.kept in
      let left : IsLeft t s work.after (piece ∷ r.more.later) = subst (IsLeft t s work.after) r.more.is r.left in
      let rows = of_first g new def t has s piece r.more.later (λ (e : ℤ × Row). IsRowOf def.schema e.0 e.1) (are_rows g new def t has) work.after left in
      let keyed = own_keys def.schema piece rows in
      let keeps = keeps_keys def.schema s piece sets rows in
      let kept = kept_found s def.schema at.pieces.read piece work.rows f leaf_found.found keyed keeps r.kept in
      let goes = goes_with t next r.more.later leaf_found.next in
      let lines = all_by is_lined_row (values_of (shown t.rows)) (lined_at (tables_of at.db) work.place (table_of t) (kept_is_plain n contents at.db kept_file).lined plain) in
      let same = took_same work f next count in
      reads_next g old new defs trx start work (took work f next count) at pages (behind_read at.pieces s r.more) opened (ap asks_room stage_reads)
      (took_stage (tables_of at.db) at.noted at.pieces work count (table_of t) r.more f next (some_noted g old defs trx start work at) phase plain first reads_rows
      (leaf_found.found ∙ ap (λ (x : TableDef). found_in x.schema s piece) (sym place.is)) keyed (subst (λ (x : TableDef). KeepsKeysIn x.schema s piece) (sym place.is) keeps) r.kept goes)
      same.statement same.base
      (has_read_on at.db work at.pieces r f next count kept leaf_found.next)
      (took_writable work at.db (table_of t) (at.pieces.read ++ held s piece) r.more.later f next count phase first reads_rows at.lined plain
      (table_rises n contents at.db work.place t kept_file r.is_there) (table_keyed n contents at.db work.place t kept_file r.is_there) lines (whole_behind at.db work at.pieces r) kept goes)
      (took_other work f next count phase)

  -- what it answers
  pub read_answers : (room : Bool) → event_by (refusal_in leaf.found) ≡ answer_of work.statement room (stage_in at)
  read_answers room =
      let schema = schema_in (slice_get (tables_of at.db) work.place) in
      ap event_by (refusal_is leaf.found ∙ ap (λ (b : Bool). if b then Some RowTooLarge else None) (sym outgrows_so))
      ∙ sym (ap (answer_by work.statement room (tables_of at.db) at.noted) stage_reads)
