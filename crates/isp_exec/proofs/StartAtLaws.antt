-- A statement begins on a file.
use Rattle.std.proofs.Common.{◌≡◌, ℕ, ◌+◌, ◌≤◌, ℤ, Bool, true, false, List, [], ◌∷◌, length, slice_get, Option, Some, None, refl, sym, ◌∙◌, ap, subst, arith, if◌then◌else◌}
use Rattle.isp_catalog.specs.declared.table.TableDef.{TableDef}
use Rattle.isp_changes.specs.Changes.{OfFound, OfPlace}
use Rattle.isp_changes.specs.Rows.{AreRisingTables}
use Rattle.isp_changes.specs.StageLaws.{IsBegun}
use Rattle.isp_changes.specs.Stages.{HasHeld, IsOnTheWay, Stage, begun, is_insert, outcome_of}
use Rattle.isp_changes.proofs.StageProofs.{reads_in_pieces, steps_begin}
use Rattle.isp_chained.proofs.CourseLaws.{reaches_self}
use Rattle.isp_file_laws.proofs.KeptLaws.{kept_is_plain}
use Rattle.isp_image.specs.Databases.{Database, FileTable, shown, tables_of}
use Rattle.isp_page.specs.declared.pages.Pages.{Ghosts}
use Rattle.isp_plain.specs.Does.{does}
use Rattle.isp_plain.specs.Lined.{is_lined_row, is_lined_statement}
use Rattle.isp_plain.specs.Tables.{Table}
use Rattle.isp_plain.specs.declared.statement.Reply.TheVariants as reply
use Rattle.isp_plain.specs.declared.statement.Statement.{Statement}
use Rattle.isp_plain.specs.declared.statement.Statement.TheVariants.{Create, Insert, Select, Update, Delete, Begin, Commit, Rollback, Refused}
use Rattle.isp_plain.specs.declared.value.Row.{Row}
use Rattle.isp_scan.specs.Keys.{named_key}
use Rattle.isp_scan.specs.Leaves.{HasPiece, Piece}
use Rattle.isp_scan.specs.Scanning.{HasFileTable}
use Rattle.isp_scan.proofs.KeyLaws.{held_by_key}
use Rattle.isp_scan.proofs.LeafLaws.{few_pieces, pieces_joined, some_piece}
use Rattle.isp_tables.specs.Opened.{IsOpen}
use Rattle.isp_tables.proofs.TableLaws.{at_place, file_table, plain_at}
use Rattle.isp_trx.specs.Transactions.{TrxState}
use Rattle.isp_work.specs.Starting.{began, place_for, start_at, start_of}
use Rattle.isp_work.specs.Works.{AreReadAs, Pieces, all_left, is_rollback, stage_of, started, went_on}
use Rattle.isp_work.specs.declared.phase.Phase.TheVariants.{Reading, RollingBack}
use Rattle.isp_work.proofs.ReadLaws.{begins_stage, reads_all}
use Rattle.isp_work.proofs.StageLaws.{went_same}
use Rattle.isp_exec.specs.Events.{Begins}
use Rattle.isp_exec.specs.Standing.{AreWritableNow, HasRead, Leads, pieces_by, pieces_of}
use Rattle.isp_exec.specs.Starting.{place_by}
use Rattle.isp_exec.proofs.AtLaws.{no_way, not_behind, went_behind, went_writable}
use Rattle.isp_exec.proofs.FitLaws.{def_there}
use Rattle.isp_exec.proofs.PlaceLaws.{place_by_is}
use Rattle.isp_exec.proofs.RowLaws.{all_by}

-- ---- it is the statement

began_statement : (s : Statement) (place base budget : ℕ) → (began s place base budget).statement ≡ s
began_statement s place base budget = by (is_insert s)
  where
    by : (b : Bool) → (if b then went_on (started s place base budget Reading reply.Ok) else started s place base budget Reading reply.Ok).statement ≡ s
    by true = (went_same (started s place base budget Reading reply.Ok)).statement
    by false = refl

began_base : (s : Statement) (place base budget : ℕ) → (began s place base budget).base ≡ base
began_base s place base budget = by (is_insert s)
  where
    by : (b : Bool) → (if b then went_on (started s place base budget Reading reply.Ok) else started s place base budget Reading reply.Ok).base ≡ base
    by true = (went_same (started s place base budget Reading reply.Ok)).base
    by false = refl

at_statement : (s : Statement) (base budget : ℕ) (o : Option ℕ) → (start_at s base budget o).statement ≡ s
at_statement s base budget None = refl
at_statement s base budget (Some place) = began_statement s place base budget

at_base : (s : Statement) (base budget : ℕ) (o : Option ℕ) → (start_at s base budget o).base ≡ base
at_base s base budget None = refl
at_base s base budget (Some place) = began_base s place base budget

pub start_statement : (s : Statement) (base budget : ℕ) (o : Option ℕ) → (start_of s base budget o).statement ≡ s
start_statement (Create name schema) base budget o = refl
start_statement (Insert name rows) base budget o = at_statement (Insert name rows) base budget o
start_statement (Select name columns w) base budget o = at_statement (Select name columns w) base budget o
start_statement (Update name sets w) base budget o = at_statement (Update name sets w) base budget o
start_statement (Delete name w) base budget o = at_statement (Delete name w) base budget o
start_statement Begin base budget o = refl
start_statement Commit base budget o = refl
start_statement Rollback base budget o = refl
start_statement (Refused refusal) base budget o = refl

-- ROLLBACK takes all back
pub start_base : (s : Statement) (base budget : ℕ) (o : Option ℕ) → is_rollback s ≡ false → (start_of s base budget o).base ≡ base
start_base (Create name schema) base budget o not = refl
start_base (Insert name rows) base budget o not = at_base (Insert name rows) base budget o
start_base (Select name columns w) base budget o not = at_base (Select name columns w) base budget o
start_base (Update name sets w) base budget o not = at_base (Update name sets w) base budget o
start_base (Delete name w) base budget o not = at_base (Delete name w) base budget o
start_base Begin base budget o not = refl
start_base Commit base budget o not = refl
start_base Rollback base budget o not = cc
start_base (Refused refusal) base budget o not = refl

-- ---- its rows can be written

insert_writable : (name : List ℕ) (rows : List Row) (base budget : ℕ) (o : Option ℕ) (d : Database) → is_lined_statement (Insert name rows) ≡ true → AreWritableNow (start_at (Insert name rows) base budget o) d
insert_writable name rows base budget None d lined = λ now. no_way now
insert_writable name rows base budget (Some place) d lined = went_writable (started (Insert name rows) place base budget Reading reply.Ok) d (all_by is_lined_row rows lined)

reading_writable : (s : Statement) (base budget : ℕ) (o : Option ℕ) (d : Database) → is_insert s ≡ false → AreWritableNow (start_at s base budget o) d
reading_writable s base budget None d not = λ now. no_way now
reading_writable s base budget (Some place) d not =
    let work = started s place base budget Reading reply.Ok in
    let reading : AreWritableNow work d = λ now. no_way now in
    subst (λ (b : Bool). AreWritableNow (if b then went_on work else work) d) (sym not) reading

start_writable : (s : Statement) (base budget : ℕ) (o : Option ℕ) (d : Database) → is_lined_statement s ≡ true → AreWritableNow (start_of s base budget o) d
start_writable (Create name schema) base budget o d lined = λ now. no_way now
start_writable (Insert name rows) base budget o d lined = insert_writable name rows base budget o d lined
start_writable (Select name columns w) base budget o d lined = reading_writable (Select name columns w) base budget o d refl
start_writable (Update name sets w) base budget o d lined = reading_writable (Update name sets w) base budget o d refl
start_writable (Delete name w) base budget o d lined = reading_writable (Delete name w) base budget o d refl
start_writable Begin base budget o d lined = λ now. no_way now
start_writable Commit base budget o d lined = λ now. no_way now
start_writable Rollback base budget o d lined = λ now. no_way now
start_writable (Refused refusal) base budget o d lined = λ now. no_way now

-- ---- it is no ROLLBACK

insert_other : (name : List ℕ) (rows : List Row) (base budget : ℕ) (o : Option ℕ) → (start_at (Insert name rows) base budget o).phase ≡ RollingBack → ⊥
insert_other name rows base budget None is = cc
insert_other name rows base budget (Some place) is = let work = started (Insert name rows) place base budget Reading reply.Ok in not_behind (went_on work) RollingBack (went_behind work) refl is

reading_other : (s : Statement) (base budget : ℕ) (o : Option ℕ) → is_insert s ≡ false → (start_at s base budget o).phase ≡ RollingBack → ⊥
reading_other s base budget None not is = cc
reading_other s base budget (Some place) not is =
    let work = started s place base budget Reading reply.Ok in
    let bad : Reading ≡ RollingBack = subst (λ (b : Bool). (if b then went_on work else work).phase ≡ RollingBack) not is in cc

start_other : (s : Statement) (base budget : ℕ) (o : Option ℕ) → is_rollback s ≡ false → (start_of s base budget o).phase ≡ RollingBack → ⊥
start_other (Create name schema) base budget o not is = cc
start_other (Insert name rows) base budget o not is = insert_other name rows base budget o is
start_other (Select name columns w) base budget o not is = reading_other (Select name columns w) base budget o refl is
start_other (Update name sets w) base budget o not is = reading_other (Update name sets w) base budget o refl is
start_other (Delete name w) base budget o not is = reading_other (Delete name w) base budget o refl is
start_other Begin base budget o not is = cc
start_other Commit base budget o not is = cc
start_other Rollback base budget o not is = cc
start_other (Refused refusal) base budget o not is = cc

-- ---- what it reads

-- the pieces of a table
module _ {S : Type 0} (g : Ghosts S) (now : S) (def : TableDef) (t : FileTable) (has : HasFileTable g now def t) (s : Statement) where
  held_pieces : (o : Option ℤ) → named_key def s ≡ o → HasHeld s (shown t.rows) (pieces_by o t)
  held_pieces (Some key) is = held_by_key g now def t s key has is
  held_pieces None is = reads_in_pieces s (shown t.rows) (pieces_by None t) (pieces_joined g now def t has)

  some_pieces : (o : Option ℤ) → HasPiece (pieces_by o t)
  some_pieces (Some key) = record { first = _; later = []; is = refl }
  some_pieces None = some_piece g now def t has

  few_by : (o : Option ℤ) (budget : ℕ) → (g.shape now).pages ≤ budget + 1 → length (pieces_by o t) ≤ budget + 1
  few_by (Some key) budget enough = omega arith
  few_by None budget enough = let few = few_pieces g now def t has in omega (arith, few, enough)

-- where it begins with such pieces left
module _ {S : Type 0} (g : Ghosts S) (now : S) (defs : List TableDef) (trx : TrxState) (d : Database) (opened : IsOpen g now defs trx d) (budget : ℕ) (s : Statement) where
  begins_with : (pieces : List Piece) → HasPiece pieces → is_lined_statement s ≡ true → is_rollback s ≡ false → OfPlace (λ place table. HasHeld s table.rows pieces) (tables_of d) (place_for (tables_of d) s)
      → ((start_of s trx.count budget (place_by defs s)).phase ≡ Reading → HasRead d (start_of s trx.count budget (place_by defs s)) (all_left pieces)) → Begins g now defs trx d (start_of s trx.count budget (place_by defs s))
  begins_with pieces more lined not all read =
      let n = (g.shape now).pages in
      let tables = tables_of d in
      let count = trx.count in
      let o = place_by defs s in
      let work = start_of s count budget o in
      let rising : AreRisingTables tables = (kept_is_plain n (g.contents now) d opened.kept.holds.kept).rise in
      let b : IsBegun s tables (begun tables s pieces) = steps_begin tables s pieces rising (reads_all tables s pieces all) in
      let parted : stage_of tables [] (all_left pieces) (start_of s count budget (place_for tables s)) ≡ begun tables s pieces =
      subst (λ (l : List Piece). stage_of tables [] (all_left l) (start_of s count budget (place_for tables s)) ≡ begun tables s l) (sym more.is) (begins_stage tables s count budget more.first more.later) in
      let stage : begun tables s pieces ≡ stage_of tables [] (all_left pieces) work =
      sym (ap (λ (o : Option ℕ). stage_of tables [] (all_left pieces) (start_of s count budget o)) (place_by_is d defs s opened.defs_are) ∙ parted) in
      let is = start_statement s count budget o in
      let way : IsOnTheWay s tables (stage_of tables [] (all_left pieces) work) = subst (IsOnTheWay s tables) stage b.on in
      let led : outcome_of s tables (stage_of tables [] (all_left pieces) work) ≡ does tables s = subst (λ (x : Stage). outcome_of s tables x ≡ does tables s) stage b.leads in
      let leads : Leads n d d s (stage_of tables [] (all_left pieces) work) = record { full = false; leads = led; cause = λ no. no_way no } in
      record {
        at = record {
          db = d;
          opened = opened;
          reaches = reaches_self n d;
          base = start_base s count budget o not ∙ opened.noted;
          noted = [];
          pieces = all_left pieces;
          stage = record { tables = refl; since = []; images = refl; noted = refl };
          way = subst (λ (t : Statement). IsOnTheWay t tables (stage_of tables [] (all_left pieces) work)) (sym is) way;
          leads = subst (λ (t : Statement). Leads n d d t (stage_of tables [] (all_left pieces) work)) (sym is) leads;
          lined = ap is_lined_statement is ∙ lined;
          read = read;
          writable = start_writable s count budget o d lined;
          other = start_other s count budget o not;
        };
        same = refl;
        begun_is = sym stage ∙ ap (λ (t : Statement). begun tables t pieces) (sym is);
      }

  none_place : {X : Type 0} (place : ℕ) → None ≡ Some place → X
  none_place place is = cc

  -- on no table it doesn't read
  none_reads : (t : Statement) → (start_of t trx.count budget None).phase ≡ Reading → ⊥
  none_reads (Create name schema) is = cc
  none_reads (Insert name rows) is = cc
  none_reads (Select name columns w) is = cc
  none_reads (Update name sets w) is = cc
  none_reads (Delete name w) is = cc
  none_reads Begin is = cc
  none_reads Commit is = cc
  none_reads Rollback is = cc
  none_reads (Refused refusal) is = cc

  -- on a table it reads where it began so
  some_reads : (t : Statement) (place : ℕ) (pieces : Pieces) → place_by defs t ≡ Some place → HasRead d (started t place trx.count budget Reading reply.Ok) pieces
      → (start_of t trx.count budget (Some place)).phase ≡ Reading → HasRead d (start_of t trx.count budget (Some place)) pieces
  some_reads (Create name schema) place pieces at has phase = none_place place at
  some_reads (Insert name rows) place pieces at has phase =
      let work = started (Insert name rows) place trx.count budget Reading reply.Ok in absurd (not_behind (went_on work) Reading (went_behind work) refl phase)
  some_reads (Select name columns w) place pieces at has phase = has
  some_reads (Update name sets w) place pieces at has phase = has
  some_reads (Delete name w) place pieces at has phase = has
  some_reads Begin place pieces at has phase = none_place place at
  some_reads Commit place pieces at has phase = none_place place at
  some_reads Rollback place pieces at has phase = none_place place at
  some_reads (Refused refusal) place pieces at has phase = none_place place at

  -- nothing is read where it begins
  none_read : (t : Statement) → AreReadAs t [] []
  none_read (Create name schema) = tt
  none_read (Insert name rows) = tt
  none_read (Select name columns w) = refl
  none_read (Update name sets w) = (refl, tt)
  none_read (Delete name w) = (refl, tt)
  none_read Begin = tt
  none_read Commit = tt
  none_read Rollback = tt
  none_read (Refused refusal) = tt

  -- the table is defined
  def_by : (t : Statement) (place : ℕ) → place_by defs t ≡ Some place → (def : TableDef) × (slice_get defs place ≡ Some def)
  def_by (Create name schema) place is = none_place place is
  def_by (Insert name rows) place is = def_there defs name place is
  def_by (Select name columns w) place is = def_there defs name place is
  def_by (Update name sets w) place is = def_there defs name place is
  def_by (Delete name w) place is = def_there defs name place is
  def_by Begin place is = none_place place is
  def_by Commit place is = none_place place is
  def_by Rollback place is = none_place place is
  def_by (Refused refusal) place is = none_place place is

  begins_on : is_lined_statement s ≡ true → is_rollback s ≡ false → (g.shape now).pages ≤ budget + 1 → (place : ℕ) → place_by defs s ≡ Some place → Begins g now defs trx d (start_of s trx.count budget (place_by defs s))
  begins_on lined not enough place is =
      let there = def_by s place is in
      let def = there.0 in
      let at = at_place d defs place def opened.defs_are there.1 in
      let t = at.table in
      let has = file_table g now defs trx d place def opened at in
      let named : named_key def s ≡ named_key t.def s = ap (λ (x : TableDef). named_key x s) (sym at.is) in
      let held_all : HasHeld s (shown t.rows) (pieces_of t s) = held_pieces g now def t has s (named_key t.def s) named in
      let all : OfPlace (λ place table. HasHeld s table.rows (pieces_of t s)) (tables_of d) (place_for (tables_of d) s) =
      subst (λ (o : Option ℕ). OfPlace (λ place table. HasHeld s table.rows (pieces_of t s)) (tables_of d) o) (sym is ∙ place_by_is d defs s opened.defs_are)
      (subst (λ (o : Option Table). OfFound (λ place table. HasHeld s table.rows (pieces_of t s)) place o) (sym (plain_at d place def at)) held_all) in
      let read : HasRead d (started s place trx.count budget Reading reply.Ok) (all_left (pieces_of t s)) = record {
        table = t;
        is_there = at.is_there;
        kept = none_read s;
        whole = held_all;
        more = some_pieces g now def t has s (named_key t.def s);
        left = refl;
        few = few_by g now def t has s (named_key t.def s) budget enough;
      } in
      begins_with (pieces_of t s) (some_pieces g now def t has s (named_key t.def s)) lined not all
      (subst (λ (o : Option ℕ). (start_of s trx.count budget o).phase ≡ Reading → HasRead d (start_of s trx.count budget o) (all_left (pieces_of t s))) (sym is) (some_reads s place (all_left (pieces_of t s)) is read))

  begins_nowhere : is_lined_statement s ≡ true → is_rollback s ≡ false → place_by defs s ≡ None → Begins g now defs trx d (start_of s trx.count budget (place_by defs s))
  begins_nowhere lined not is =
      begins_with ([] ∷ []) (record { first = []; later = []; is = refl }) lined not
      (subst (λ (o : Option ℕ). OfPlace (λ place table. HasHeld s table.rows ([] ∷ [])) (tables_of d) o) (sym is ∙ place_by_is d defs s opened.defs_are) tt)
      (λ phase. absurd (none_reads s (subst (λ (o : Option ℕ). (start_of s trx.count budget o).phase ≡ Reading) is phase)))

  -- a statement begins, where it may read as many leaves as the file has pages
  pub begins : is_lined_statement s ≡ true → is_rollback s ≡ false → (g.shape now).pages ≤ budget + 1 → Begins g now defs trx d (start_of s trx.count budget (place_by defs s))
  begins lined not enough = by (place_by defs s) refl
    where
      by : (o : Option ℕ) → place_by defs s ≡ o → Begins g now defs trx d (start_of s trx.count budget (place_by defs s))
      by (Some place) is = begins_on lined not enough place is
      by None is = begins_nowhere lined not is
