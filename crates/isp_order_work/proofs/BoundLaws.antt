-- A statement at work is what its session's text means, on a table, in a phase that it can be in.
use Rattle.std.proofs.Common.{◌≡◌, ◌∙◌, ◌<◌, ◌≤◌, inl, inr, refl, sym, ap, subst, ℕ, ℤ, zero, suc, ◌+◌, ◌==◌, not, cond, Bool, true, false, Option, Some, None, List, [], ◌∷◌, ◌++◌, arith, length, map, eqb-true, eq-eqb}
use Rattle.std.specs.Prelude.{All, is_none, nat_lt, slice_get, slice_set}
use Rattle.std.specs.List.{prefix_len}
use Rattle.std.specs.Option.{option_map, unwrap_or}
use Rattle.std.specs.Str.{bytes_eq}
use Rattle.std.proofs.lemmas.Bool.{false≢true}
use Rattle.std.proofs.lemmas.Bool.Decides.{nat_tests}
use Rattle.std.proofs.lemmas.List.Elements.{All-cons, All-nil}
use Rattle.std.proofs.lemmas.Slice.Eq.{bytes_eq-Decides}
use Rattle.isp_base.specs.Lists.{Has}
use Rattle.isp_reclock.specs.declared.modes.Mode.{Mode}
use Rattle.isp_plain.specs.declared.statement.Statement.{Statement}
use Rattle.isp_plain.specs.declared.statement.Statement.TheVariants.{Create, Insert, Select, Update, Delete, Begin, Commit, Rollback, Refused}
use Rattle.isp_plain.specs.declared.value.Row.{Row}
use Rattle.isp_plain.specs.Does.{table_named, table_at as plain_table_at}
use Rattle.isp_plain.specs.Tables.{Table}
use Rattle.isp_serial.specs.Script.{text_at}
use Rattle.isp_serial.specs.Serial.{place_at}
use Rattle.isp_forest.specs.Search.{Search}
use Rattle.isp_events.specs.Stored.{Leaf, StoredTable, indexed, leaf_behind, table_at, table_from}
use Rattle.isp_events.specs.Sessions.{Change, Entering, Phase, SessionState, Work, adding, changes_of, entering, locking, phase_with, scanning, session_at, unlocked, visiting, writing}
use Rattle.isp_events.specs.State.{State, is_empty}
use Rattle.isp_events.specs.Views.{committed, committed_row, seen, seen_from, seen_rows}
use Rattle.isp_events.specs.Ways.{AreDefinitions, CanServe, IsDefinition, Machine, Way, by_box, by_key, by_scan}
use Rattle.isp_events.specs.Next.{number_of}
use Rattle.isp_events.specs.Asking.{first_phase, phase_after_key, phase_of_keys}
use Rattle.isp_events.specs.Reading.{as_read, phase_after_leaf, phase_after_visit, rising, rows_in}
use Rattle.isp_events.specs.Placing.{phase_with_entry, table_after_place}
use Rattle.isp_events.specs.Writing.{phase_after_row, table_after_row, table_with_row}
use Rattle.isp_events.specs.Ending.{restored}
use Rattle.isp_events.specs.Purging.{tables_purged}
use Rattle.isp_events.specs.Events.{Actor, Choice, MayHappen, after}
use Rattle.isp_order.specs.Locks.{without_rows}
use Rattle.isp_order.specs.Work.{AreBound, FitsInsert, FitsPhase, FitsWay, IsBound, IsServed, is_by_box, is_by_scan, table_name, way_of}
use Rattle.isp_order.specs.InOrder.{InOrder, IsProper}
use Rattle.isp_order.proofs.TableLaws.{definition_at, definitions_changed, definitions_seen, purged_keeps, row_keeps, same_length, same_name, same_schema}
use Rattle.isp_causes.specs.Causes.{IsActive, IsEntering, IsLockingTable, is_on_rows}
use Rattle.isp_causes.proofs.EventCases.{EachKeeps, event_keeps, means_without_rows}
use Rattle.isp_order_locks.proofs.SearchParts.{seen_now}
use Rattle.isp_order_work.proofs.WorkParts.{carried, no_work, none_some, some_is, work_step, work_victims}

-- ---- a table by its name

module _ (name : List ℕ) (row : ℕ → ℤ → Option Row) where
  same_prefix : (k : ℕ) (tables : List StoredTable)
      → prefix_len (λ (table : Table). not (bytes_eq table.name name)) (seen_from k row tables) ≡ prefix_len (λ (table : StoredTable). not (bytes_eq table.name name)) tables
  same_prefix k [] = refl
  same_prefix k (t ∷ tables) = ap (λ n. cond (not (bytes_eq t.name name)) (1 + n) 0) (same_prefix (suc k) tables)

  length_seen : (k : ℕ) (tables : List StoredTable) → length (seen_from k row tables) ≡ length tables
  length_seen k [] = refl
  length_seen k (t ∷ tables) = ap suc (length_seen (suc k) tables)

  got : (k i n : ℕ) (tables : List StoredTable) (t : Table) → n ≡ k + i → slice_get (seen_from k row tables) i ≡ Some t
      → ((table_from k tables n).schema ≡ t.schema) × ((table_from k tables n).name ≡ t.name)
  got k i n [] t at h = absurd (none_some t h)
  got k zero n (x ∷ tables) t at h =
      let same : (k == n) ≡ true = eq-eqb k n (omega (arith, at)) in
      let head : record { name = x.name; schema = x.schema; rows = seen_rows (row k) x } ≡ t = some_is (record { name = x.name; schema = x.schema; rows = seen_rows (row k) x }) t h in
      (ap (λ b. (cond b x (table_from (suc k) tables n)).schema) same ∙ ap (λ (y : Table). y.schema) head, ap (λ b. (cond b x (table_from (suc k) tables n)).name) same ∙ ap (λ (y : Table). y.name) head)
  got k (suc i) n (x ∷ tables) t at h =
      let rest = got (suc k) i n tables t (omega (arith, at)) h in
      let other : (k == n) ≡ false = apart k n (omega (arith, at)) in
      (ap (λ b. (cond b x (table_from (suc k) tables n)).schema) other ∙ rest.0, ap (λ b. (cond b x (table_from (suc k) tables n)).name) other ∙ rest.1)
    where
      apart : (a b : ℕ) → a < b → (a == b) ≡ false
      apart a b lt = by_test (a == b) refl
        where
          by_test : (v : Bool) → (a == b) ≡ v → v ≡ false
          by_test true e = let is : a ≡ b = eqb-true a b e in let no : ⊥ = omega (arith, lt, is) in absurd no
          by_test false e = refl

passes_there : (name : List ℕ) (tables : List Table) (t : Table) → slice_get tables (prefix_len (λ (table : Table). not (bytes_eq table.name name)) tables) ≡ Some t → bytes_eq t.name name ≡ true
passes_there name [] t h = absurd (none_some t h)
passes_there name (x ∷ tables) t h = by_test (bytes_eq x.name name) refl (passes_there name tables t) h
  where
    by_test : (b : Bool) → bytes_eq x.name name ≡ b
        → (slice_get tables (prefix_len (λ (table : Table). not (bytes_eq table.name name)) tables) ≡ Some t → bytes_eq t.name name ≡ true)
        → slice_get (x ∷ tables) (cond (not b) (1 + prefix_len (λ (table : Table). not (bytes_eq table.name name)) tables) 0) ≡ Some t → bytes_eq t.name name ≡ true
    by_test true e again k = ap (λ (y : Table). bytes_eq y.name name) (sym (some_is x t k)) ∙ e
    by_test false e again k =
        let one : 1 + prefix_len (λ (table : Table). not (bytes_eq table.name name)) tables ≡ suc (prefix_len (λ (table : Table). not (bytes_eq table.name name)) tables) = omega arith in
        again (sym (ap (slice_get (x ∷ tables)) one) ∙ k)

-- the table of that name has a number
pub record IsNumbered (tables : List StoredTable) (name : List ℕ) (t : Table) : Type 0 where
  pub first : 1 ≤ number_of tables name
  pub last : number_of tables name ≤ length tables
  pub schema : (table_at tables (number_of tables name)).schema ≡ t.schema
  pub named : (table_at tables (number_of tables name)).name ≡ name

pub numbered : (row : ℕ → ℤ → Option Row) (tables : List StoredTable) (name : List ℕ) (t : Table) → table_named (seen row tables) name ≡ Some t → IsNumbered tables name t
numbered row tables name t h =
    by_test (nat_lt (prefix_len (λ (table : Table). not (bytes_eq table.name name)) (seen row tables)) (length (seen row tables))) refl h
  where
    by_test : (b : Bool) → nat_lt (prefix_len (λ (table : Table). not (bytes_eq table.name name)) (seen row tables)) (length (seen row tables)) ≡ b
        → plain_table_at (seen row tables) (cond b (Some (prefix_len (λ (table : Table). not (bytes_eq table.name name)) (seen row tables))) None) ≡ Some t → IsNumbered tables name t
    by_test false e k = absurd (none_some t k)
    by_test true e k =
        let p : ℕ = prefix_len (λ (table : Table). not (bytes_eq table.name name)) (seen row tables) in
        let same : p ≡ prefix_len (λ (table : StoredTable). not (bytes_eq table.name name)) tables = same_prefix name row 1 tables in
        let len : length (seen row tables) ≡ length tables = length_seen name row 1 tables in
        let number : number_of tables name ≡ suc p =
        ap (λ q. unwrap_or (option_map suc (cond (nat_lt q (length tables)) (Some q) None)) 0) (sym same)
        ∙ ap (λ n. unwrap_or (option_map suc (cond (nat_lt p n) (Some p) None)) 0) (sym len)
        ∙ ap (λ b. unwrap_or (option_map suc (cond b (Some p) None)) 0) e in
        let two = got name row 1 p (suc p) tables t (omega arith) k in
        let lt : p < length (seen row tables) = below p (length (seen row tables)) e in
        record {
          first = omega (arith, number);
          last = omega (arith, number, lt, len);
          schema = ap (λ n. (table_at tables n).schema) number ∙ two.0;
          named = ap (λ n. (table_at tables n).name) number ∙ two.1 ∙ (bytes_eq-Decides t.name name).0 (passes_there name (seen row tables) t k);
        }
      where
        below : (a b : ℕ) → nat_lt a b ≡ true → a < b
        below a b i = grind (arith, nat_tests)

-- ---- phases

pub fits_with : (way : Way) (statement : Statement) (columns : List ℕ) (done left : List Change) → FitsPhase way statement (phase_with statement columns done left)
fits_with way (Insert name rows) columns done [] = tt
fits_with way (Insert name rows) columns done (change ∷ left) = tt
fits_with way (Select name columns' w) columns done [] = tt
fits_with way (Select name columns' w) columns done (change ∷ left) = tt
fits_with way (Create name schema) columns done [] = tt
fits_with way (Create name schema) columns done (change ∷ left) = tt
fits_with way (Update name sets w) columns done [] = tt
fits_with way (Update name sets w) columns done (change ∷ left) = tt
fits_with way (Delete name w) columns done [] = tt
fits_with way (Delete name w) columns done (change ∷ left) = tt
fits_with way Begin columns done [] = tt
fits_with way Begin columns done (change ∷ left) = tt
fits_with way Commit columns done [] = tt
fits_with way Commit columns done (change ∷ left) = tt
fits_with way Rollback columns done [] = tt
fits_with way Rollback columns done (change ∷ left) = tt
fits_with way (Refused refusal) columns done [] = tt
fits_with way (Refused refusal) columns done (change ∷ left) = tt

fits_entering : (way : Way) (statement : Statement) (done left : List Change) (e : Entering) → FitsPhase way statement (writing done left (entering e))
fits_entering way (Insert name rows) done left e = tt
fits_entering way (Select name columns w) done left e = tt
fits_entering way (Create name schema) done left e = tt
fits_entering way (Update name sets w) done left e = tt
fits_entering way (Delete name w) done left e = tt
fits_entering way Begin done left e = tt
fits_entering way Commit done left e = tt
fits_entering way Rollback done left e = tt
fits_entering way (Refused refusal) done left e = tt

-- of a statement that finds rows, phases that fit its way
by_way : (way : Way) (statement : Statement) (old phase : Phase) → (FitsInsert old → FitsInsert phase) → (FitsWay old way → FitsWay phase way) → FitsPhase way statement old → FitsPhase way statement phase
by_way way (Insert name rows) old phase inserts finds h = inserts h
by_way way (Select name columns w) old phase inserts finds h = finds h
by_way way (Create name schema) old phase inserts finds h = finds h
by_way way (Update name sets w) old phase inserts finds h = finds h
by_way way (Delete name w) old phase inserts finds h = finds h
by_way way Begin old phase inserts finds h = finds h
by_way way Commit old phase inserts finds h = finds h
by_way way Rollback old phase inserts finds h = finds h
by_way way (Refused refusal) old phase inserts finds h = finds h

fits_keys : (table : StoredTable) (way : Way) (statement : Statement) (old : Phase) (keys : List ℤ) (read : List (ℤ × Option Row)) → (FitsInsert old → ⊥) → (FitsWay old way → is_by_scan way ≡ false)
    → FitsPhase way statement old → FitsPhase way statement (phase_of_keys table statement keys read)
fits_keys table way statement old [] read never finds h = fits_with way statement (indexed table) [] (changes_of statement read)
fits_keys table way statement old (key ∷ keys) read never finds h = by_way way statement old (locking (key ∷ keys)) (λ i. absurd (never i)) finds h

box_no_scan : (way : Way) → is_by_box way ≡ true → is_by_scan way ≡ false
box_no_scan (by_key key) h = refl
box_no_scan (by_box column predicate) h = refl
box_no_scan by_scan h = absurd (false≢true h)

fits_first : (table : StoredTable) (way : Way) (statement : Statement) → FitsPhase way statement (first_phase table statement way)
fits_first table way (Insert name rows) = fits_with way (Insert name rows) (indexed table) [] (map adding rows)
fits_first table (by_key key) (Select name columns w) = refl
fits_first table (by_box column predicate) (Select name columns w) = refl
fits_first table by_scan (Select name columns w) = refl
fits_first table (by_key key) (Update name sets w) = refl
fits_first table (by_box column predicate) (Update name sets w) = refl
fits_first table by_scan (Update name sets w) = refl
fits_first table (by_key key) (Delete name w) = refl
fits_first table (by_box column predicate) (Delete name w) = refl
fits_first table by_scan (Delete name w) = refl
fits_first table (by_key key) (Create name schema) = refl
fits_first table (by_box column predicate) (Create name schema) = refl
fits_first table by_scan (Create name schema) = refl
fits_first table (by_key key) Begin = refl
fits_first table (by_box column predicate) Begin = refl
fits_first table by_scan Begin = refl
fits_first table (by_key key) Commit = refl
fits_first table (by_box column predicate) Commit = refl
fits_first table by_scan Commit = refl
fits_first table (by_key key) Rollback = refl
fits_first table (by_box column predicate) Rollback = refl
fits_first table by_scan Rollback = refl
fits_first table (by_key key) (Refused refusal) = refl
fits_first table (by_box column predicate) (Refused refusal) = refl
fits_first table by_scan (Refused refusal) = refl

module _ (m : Machine) (state : State) (good : IsProper m) (o : InOrder m state) where
  -- the same statement on the same table, in a phase that fits
  moved : (tables : List StoredTable) (k : ℕ) (session new : SessionState) (work now : Work) → map definition_at tables ≡ map definition_at state.tables
      → new.number ≡ session.number → new.inside ≡ session.inside → now.table ≡ work.table → now.statement ≡ work.statement
      → FitsPhase (way_of m.ways state.tables work) work.statement now.phase → IsBound m state.tables k session work → IsBound m tables k new now
  moved tables k session new work now same number inside table statement fits b = record {
    text = b.text;
    text_is = ap (text_at m.script k) number ∙ b.text_is;
    means = good.servable.defined (without_rows tables) (without_rows state.tables) (place_at k new.inside) b.text
        (definitions_seen (λ n key. None) tables ∙ same ∙ sym (definitions_seen (λ n key. None) state.tables))
        ∙ ap (λ i. m.language.meaning (without_rows state.tables) (place_at k i) b.text) inside ∙ b.means ∙ sym statement;
    first = subst (λ n. 1 ≤ n) (sym table) b.first;
    last = subst (λ n. n ≤ length tables) (sym table) (subst (λ n. work.table ≤ n) (sym (same_length tables state.tables same)) b.last);
    name = same_name now.table tables state.tables same ∙ ap (λ n. (table_at state.tables n).name) table ∙ b.name ∙ ap table_name (sym statement);
    served = subst (λ st. IsServed (table_at tables now.table).schema st) (sym statement)
        (subst (λ sch. IsServed sch work.statement) (sym schema_is) b.served);
    phase = subst (λ st. FitsPhase (m.ways (table_at tables now.table).schema st) st now.phase) (sym statement)
        (subst (λ sch. FitsPhase (m.ways sch work.statement) work.statement now.phase) (sym schema_is) fits);
  }
    where
      schema_is : (table_at tables now.table).schema ≡ (table_at state.tables work.table).schema
      schema_is = same_schema now.table tables state.tables same ∙ ap (λ n. (table_at state.tables n).schema) table

  step : (s : ℕ) (tables : List StoredTable) (new : SessionState) → IsActive state s → map definition_at tables ≡ map definition_at state.tables
      → ((work : Work) → new.work ≡ Some work → IsBound m tables s new work) → AreBound m tables (slice_set state.sessions s new)
  step s tables new active same own =
      work_step (IsBound m tables) state.sessions s new active.not_over own
      (λ k ne work at. moved tables k (session_at state.sessions k) (session_at state.sessions k) work work same refl refl refl refl (o.bound k work at).phase (o.bound k work at))

  at_work : (s : ℕ) (tables : List StoredTable) (new : SessionState) (f : Work → Work) (work : Work) → IsActive state s → map definition_at tables ≡ map definition_at state.tables
      → (session_at state.sessions s).work ≡ Some work → new.work ≡ option_map f (session_at state.sessions s).work → new.number ≡ (session_at state.sessions s).number
      → new.inside ≡ (session_at state.sessions s).inside → (f work).table ≡ work.table → (f work).statement ≡ work.statement
      → (FitsPhase (way_of m.ways state.tables work) work.statement work.phase → FitsPhase (way_of m.ways state.tables work) work.statement (f work).phase)
      → AreBound m tables (slice_set state.sessions s new)
  at_work s tables new f work active same at is number inside table statement fits =
      step s tables new active same
      (λ now now_at. subst (λ (w : Work). IsBound m tables s new w) (carried f (session_at state.sessions s) new work now is at now_at)
      (moved tables s (session_at state.sessions s) new work (f work) same number inside table statement (fits (o.bound s work at).phase) (o.bound s work at)))

  without_work : (s : ℕ) (tables : List StoredTable) (new : SessionState) → IsActive state s → map definition_at tables ≡ map definition_at state.tables → new.work ≡ None
      → AreBound m tables (slice_set state.sessions s new)
  without_work s tables new active same none = step s tables new active same (λ work at. absurd (no_work new work none at))

  created : (s : ℕ) (tables : List StoredTable) (new : SessionState) → IsActive state s → s ≡ 0 → new.work ≡ None → AreBound m tables (slice_set state.sessions s new)
  created s tables new active is none =
      work_step (IsBound m tables) state.sessions s new active.not_over (λ work at. absurd (no_work new work none at))
      (λ k ne work at. absurd (no_work (session_at state.sessions k) work
      (o.idle.setup_first (subst (λ i. (session_at state.sessions i).over ≡ false) is active.not_over) k (ap (λ i. k == i) (sym is) ∙ ne)).0.no_work at))

  -- an undo entry leaves the work
  undone : (s : ℕ) (tables : List StoredTable) (new : SessionState) → IsActive state s → map definition_at tables ≡ map definition_at state.tables
      → new.work ≡ (session_at state.sessions s).work → new.number ≡ (session_at state.sessions s).number → new.inside ≡ (session_at state.sessions s).inside
      → AreBound m tables (slice_set state.sessions s new)
  undone s tables new active same is number inside =
      step s tables new active same
      (λ work at. (let before : (session_at state.sessions s).work ≡ Some work = sym is ∙ at in
      moved tables s (session_at state.sessions s) new work work same number inside refl refl (o.bound s work before).phase (o.bound s work before)))

  -- ---- a statement begins

  all_definitions : (row : ℕ → ℤ → Option Row) → AreDefinitions (seen row state.tables)
  all_definitions row = from 1 state.tables (λ t h. (o.keyed.each t h).defined)
    where
      from : (k : ℕ) (tables : List StoredTable) → ((t : StoredTable) → Has tables t → IsDefinition t.schema) → All (λ (table : Table). IsDefinition table.schema) (seen_from k row tables)
      from k [] each = All-nil (λ (table : Table). IsDefinition table.schema)
      from k (t ∷ tables) each = All-cons (λ (table : Table). IsDefinition table.schema) _ (seen_from (suc k) row tables) (each t (inl refl)) (from (suc k) tables (λ u h. each u (inr h)))

  -- its table is there, and it can be served on it
  pub record IsServedHere (statement : Statement) : Type 0 where
    pub table : Table
    pub numbered : IsNumbered state.tables (table_name statement) table
    pub serves : IsServed table.schema statement

  servable : (s : ℕ) (statement : Statement) (number : ℕ) (mode : Mode) → IsLockingTable m state s (session_at state.sessions s) statement number mode → IsServedHere statement
  servable s statement number mode at =
      by_statement statement at.on_rows
      (subst (CanServe (committed state) (place_at s (session_at state.sessions s).inside)) at.first.means
      (good.servable.served (committed state) (place_at s (session_at state.sessions s).inside) at.first.text (all_definitions (committed_row state))))
    where
      by_statement : (st : Statement) → is_on_rows st ≡ true → CanServe (committed state) (place_at s (session_at state.sessions s).inside) st → IsServedHere st
      by_statement (Insert name rows) on c = record { table = c.0; numbered = numbered (committed_row state) state.tables name c.0 c.1; serves = c.2 }
      by_statement (Select name columns w) on c = record { table = c.0; numbered = numbered (committed_row state) state.tables name c.0 c.1; serves = tt }
      by_statement (Update name sets w) on c = record { table = c.0; numbered = numbered (committed_row state) state.tables name c.0 c.1; serves = c.2 }
      by_statement (Delete name w) on c = record { table = c.0; numbered = numbered (committed_row state) state.tables name c.0 c.1; serves = tt }
      by_statement (Create name schema) on c = absurd (false≢true on)
      by_statement Begin on c = absurd (false≢true on)
      by_statement Commit on c = absurd (false≢true on)
      by_statement Rollback on c = absurd (false≢true on)
      by_statement (Refused refusal) on c = absurd (false≢true on)

  begins : (s : ℕ) (statement : Statement) (number : ℕ) (mode : Mode) (new : SessionState) (work : Work) → IsActive state s → IsLockingTable m state s (session_at state.sessions s) statement number mode
      → new.work ≡ Some work → new.number ≡ (session_at state.sessions s).number → new.inside ≡ (session_at state.sessions s).inside → work.table ≡ number → work.statement ≡ statement
      → FitsPhase (m.ways (table_at state.tables number).schema statement) statement work.phase → AreBound m state.tables (slice_set state.sessions s new)
  begins s statement number mode new work active at is same_number inside table of fits =
      step s state.tables new active refl (λ now now_at. subst (λ (w : Work). IsBound m state.tables s new w) (some_is work now (sym is ∙ now_at)) bound)
    where
      bound : IsBound m state.tables s new work
      bound = record {
        text = at.first.text;
        text_is = ap (text_at m.script s) same_number ∙ at.first.text_is;
        means = ap (λ i. m.language.meaning (without_rows state.tables) (place_at s i) at.first.text) inside
            ∙ means_without_rows m state good o s statement (session_at state.sessions s) at.first ∙ sym of;
        first = subst (λ n. 1 ≤ n) (sym (table ∙ at.number_is)) (servable s statement number mode at).numbered.first;
        last = subst (λ n. n ≤ length state.tables) (sym (table ∙ at.number_is)) (servable s statement number mode at).numbered.last;
        name = ap (λ n. (table_at state.tables n).name) (table ∙ at.number_is) ∙ (servable s statement number mode at).numbered.named ∙ ap table_name (sym of);
        served = subst (λ st. IsServed (table_at state.tables work.table).schema st) (sym of)
            (subst (λ sch. IsServed sch statement) (sym (ap (λ n. (table_at state.tables n).schema) (table ∙ at.number_is) ∙ (servable s statement number mode at).numbered.schema)) (servable s statement number mode at).serves);
        phase = subst (λ st. FitsPhase (m.ways (table_at state.tables work.table).schema st) st work.phase) (sym of)
            (subst (λ n. FitsPhase (m.ways (table_at state.tables n).schema statement) statement work.phase) (sym table) fits);
      }

  -- ---- phases of each event

  key_fits : (table : StoredTable) (way : Way) (work : Work) (key : ℤ) (keys : List ℤ) (read : List (ℤ × Option Row)) → work.phase ≡ locking (key ∷ keys)
      → FitsPhase way work.statement work.phase → FitsPhase way work.statement (phase_after_key table work.statement work.phase read)
  key_fits table way work key keys read is h =
      subst (λ p. FitsPhase way work.statement (phase_after_key table work.statement p read)) (sym is)
      (fits_keys table way work.statement (locking (key ∷ keys)) keys read (λ i. i) (λ f. f) (subst (FitsPhase way work.statement) is h))

  row_key_fits : (table : StoredTable) (way : Way) (work : Work) (done : List Change) (change : Change) (left : List Change) (read : List (ℤ × Option Row)) → work.phase ≡ writing done (change ∷ left) unlocked
      → FitsPhase way work.statement work.phase → FitsPhase way work.statement (phase_after_key table work.statement work.phase read)
  row_key_fits table way work done change left read is h =
      subst (λ p. FitsPhase way work.statement (phase_after_key table work.statement p read)) (sym is) (fits_entering way work.statement done (change ∷ left) _)

  visit_fits : (table : StoredTable) (way : Way) (work : Work) (x : Search) → work.phase ≡ visiting → FitsPhase way work.statement work.phase
      → FitsPhase way work.statement (phase_after_visit table work.statement x)
  visit_fits table way work x is h = by_stack (is_empty x.stack)
    where
      by_stack : (b : Bool) → FitsPhase way work.statement (cond b (phase_of_keys table work.statement (rising x.found) []) visiting)
      by_stack true = fits_keys table way work.statement visiting (rising x.found) [] (λ i. i) (box_no_scan way) (subst (FitsPhase way work.statement) is h)
      by_stack false = subst (FitsPhase way work.statement) is h

  scan_fits : (table : StoredTable) (way : Way) (work : Work) (leaf : Leaf) (read : List (ℤ × Option Row)) (last : Option ℕ) → work.phase ≡ scanning last → FitsPhase way work.statement work.phase
      → FitsPhase way work.statement (phase_after_leaf table work.statement leaf read)
  scan_fits table way work leaf read last is h = by_last (is_none (leaf_behind table.leaves leaf.page))
    where
      by_last : (b : Bool) → FitsPhase way work.statement (cond b (phase_with work.statement (indexed table) [] (changes_of work.statement read)) (scanning (Some leaf.page)))
      by_last true = fits_with way work.statement (indexed table) [] (changes_of work.statement read)
      by_last false = by_way way work.statement (scanning last) (scanning (Some leaf.page)) (λ i. i) (λ f. f) (subst (FitsPhase way work.statement) is h)

  entry_fits : (f : Entering → Entering) (way : Way) (s : ℕ) (en : IsEntering (session_at state.sessions s)) → FitsPhase way en.work.statement en.work.phase → FitsPhase way en.work.statement (phase_with_entry f en.work.phase)
  entry_fits f way s en h =
      subst (λ p. FitsPhase way en.work.statement (phase_with_entry f p)) (sym en.phase) (fits_entering way en.work.statement en.done (en.change ∷ en.left) (f en.e))

  row_fits : (table : StoredTable) (way : Way) (s : ℕ) (en : IsEntering (session_at state.sessions s)) → FitsPhase way en.work.statement en.work.phase
      → FitsPhase way en.work.statement (phase_after_row table en.work en.work.phase)
  row_fits table way s en h =
      subst (λ p. FitsPhase way en.work.statement (phase_after_row table en.work p)) (sym en.phase) (fits_with way en.work.statement (indexed table) (en.done ++ en.change ∷ []) en.left)

  pub bound_each : EachKeeps m state (λ (st : State). AreBound m st.tables st.sessions)
  bound_each = record {
    still = o.bound;
    purge = λ some k work at. moved (tables_purged state.locks state.queue state.tables) k (session_at state.sessions k) (session_at state.sessions k) work work (purged_keeps state.locks state.queue state.tables)
        refl refl refl refl (o.bound k work at).phase (o.bound k work at);
    end = λ s over active. without_work s state.tables _ active refl refl;
    answer = λ s reply active at. without_work s state.tables _ active refl refl;
    undo = λ s entry more active at. undone s _ _ active (definitions_changed entry.table (table_with_row entry.key (restored entry.image)) state.tables (λ t. refl)) refl refl refl;
    create = λ s over name schema leaf roots active at may. created s _ _ active at.setup refl;
    refuse = λ s on ds active at may. work_victims (IsBound m state.tables) (λ k x work b. moved state.tables k x _ work work refl refl refl refl refl b.phase b) state.sessions ds o.bound;
    lock_table = λ s statement number mode active at none. begins s statement number mode _ _ active at refl refl refl refl refl
        (fits_first (table_at state.tables number) (m.ways (table_at state.tables number).schema statement) statement);
    lock_key = λ s number key mode active at none. at_work s state.tables _ _ at.work active refl at.goes_on.at_work refl refl refl refl refl
        (key_fits (table_at state.tables number) (way_of m.ways state.tables at.work) at.work key at.keys _ at.phase);
    lock_row = λ s number key mode active at none. at_work s state.tables _ _ at.work active refl at.goes_on.at_work refl refl refl refl refl
        (row_key_fits (table_at state.tables number) (way_of m.ways state.tables at.work) at.work at.done at.change at.left _ at.phase);
    visit = λ s number column predicate active at. at_work s state.tables _ _ at.work active refl at.goes_on.at_work refl refl refl refl refl
        (visit_fits (table_at state.tables number) (way_of m.ways state.tables at.work) at.work (seen_now m state o s number column predicate at) at.phase);
    scan = λ s number leaf active at. at_work s state.tables _ _ at.work active refl at.goes_on.at_work refl refl refl refl refl
        (scan_fits (table_at state.tables number) (way_of m.ways state.tables at.work) at.work leaf (at.work.read ++ map as_read (rows_in leaf)) at.last at.phase);
    step = λ s d q active at may. at_work s state.tables _ _ at.descending.entering.work active refl at.descending.entering.goes_on.at_work refl refl refl refl refl
        (entry_fits _ (way_of m.ways state.tables at.descending.entering.work) s at.descending.entering);
    stale = λ s d active at. at_work s state.tables _ _ at.descending.entering.work active refl at.descending.entering.goes_on.at_work refl refl refl refl refl
        (entry_fits _ (way_of m.ways state.tables at.descending.entering.work) s at.descending.entering);
    full = λ s active at. at_work s state.tables _ _ at.work active refl at.goes_on.at_work refl refl refl refl refl (λ h. h);
    place = λ s d q ds active at may. at_work s _ _ _ at.descending.entering.work active (definitions_changed d.table (table_after_place d state.entries q ds) state.tables (λ t. refl))
        at.descending.entering.goes_on.at_work refl refl refl refl refl (entry_fits _ (way_of m.ways state.tables at.descending.entering.work) s at.descending.entering);
    row = λ s number change placed p active at may. at_work s _ _ _ at.entering.work active
        (definitions_changed number (table_after_row p change placed change.new) state.tables (row_keeps p change placed change.new))
        at.entering.goes_on.at_work refl refl refl refl refl (row_fits (table_at state.tables number) (way_of m.ways state.tables at.entering.work) s at.entering);
  }

pub bound_kept : (m : Machine) (state : State) (actor : Actor) (choice : Choice) → IsProper m → InOrder m state → MayHappen m state actor choice
    → AreBound m (after m state actor choice).tables (after m state actor choice).sessions
bound_kept m state actor choice good o h = event_keeps m state good o (λ (st : State). AreBound m st.tables st.sessions) (bound_each m state good o) actor choice h
