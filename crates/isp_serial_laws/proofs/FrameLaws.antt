-- The end of one session's transaction moves no other: what its open answers rest on is none of what was written.
use Rattle.std.proofs.Common.{◌≡◌, ◌⊎◌, ◌∙◌, inl, inr, refl, sym, ap, subst, ℕ, suc, ℤ, ◌==◌, ◌&&◌, ◌||◌, Bool, true, false, not, cond, is_some, Option, Some, None, List, [], ◌∷◌, ◌++◌, map, slice_get, eq-eqb, eqb-true}
use Rattle.std.specs.Prelude.{MatchBool}
use Rattle.std.proofs.lemmas.Bool.{false≢true, and_parts}
use Rattle.isp_base.specs.Lists.{Has}
use Rattle.isp_mbr.specs.declared.predicate.Predicate.{Predicate}
use Rattle.isp_mbr.specs.Predicates.{satisfies}
use Rattle.isp_reclock.specs.declared.modes.Mode.{Mode}
use Rattle.isp_reclock.specs.declared.modes.Mode.TheVariants.{S, X}
use Rattle.isp_reclock.specs.Tables.{takes}
use Rattle.isp_plain.specs.declared.statement.Assign.{Assign}
use Rattle.isp_plain.specs.declared.statement.Condition.{Condition}
use Rattle.isp_plain.specs.declared.statement.Statement.{Statement}
use Rattle.isp_plain.specs.declared.statement.Statement.TheVariants.{Create, Insert, Select, Update, Delete, Begin, Commit, Rollback, Refused}
use Rattle.isp_plain.specs.declared.value.Row.{Row}
use Rattle.isp_plain.specs.declared.value.Schema.{Schema}
use Rattle.isp_plain.specs.Does.{place_of}
use Rattle.isp_plain.specs.Entries.{has_key, with_row}
use Rattle.isp_plain.specs.Tables.{Table, definition_of}
use Rattle.isp_plain.specs.Values.{key_of}
use Rattle.isp_serial.specs.Answers.{Answer}
use Rattle.isp_serial.specs.Script.{text_at}
use Rattle.isp_serial.specs.Serial.{Agrees, effect_of, is_given, place_at}
use Rattle.isp_serial.specs.Transactions.{is_begin, is_ok}
use Rattle.isp_changes.specs.Rows.{AreRisingTables, row_at}
use Rattle.isp_changes.specs.Changes.{is_held, row_in}
use Rattle.isp_changes.proofs.TableProofs.{same_tables}
use Rattle.isp_events.specs.Stored.{Version, box_in, row_of, table_at}
use Rattle.isp_events.specs.Sessions.{SessionState, outgrows_by, session_at}
use Rattle.isp_events.specs.State.{State, TreeSearch}
use Rattle.isp_events.specs.Views.{beginning_view, committed, committed_at, committed_row, has_written, view_at_beginning}
use Rattle.isp_events.specs.Ways.{Machine, Way, by_key, by_box, by_scan}
use Rattle.isp_events.specs.Reading.{is_of}
use Rattle.isp_events.specs.Ending.{after_end, searches_without}
use Rattle.isp_order.specs.Locks.{Holds, lock_on}
use Rattle.isp_order.specs.InOrder.{InOrder, IsProper}
use Rattle.isp_causes.specs.Causes.{IsActive, is_on_rows}
use Rattle.isp_order_locks.proofs.LockLists.{held_without, keeps_taken}
use Rattle.isp_order_locks.proofs.LockedLaws.{keeps_others}
use Rattle.isp_order_reads.proofs.RowFrames.{Reads, taker_reads}
use Rattle.isp_order_trees.specs.Missed.{MissesNothing}
use Rattle.isp_order_trees.proofs.MissedLaws.{nothing_missed}
use Rattle.isp_locality.specs.Apart.{AgreeBut, AgreeRows, Apart, ApartAt, ApartText, AreOutside, HasLarge, IsApart, IsApartIn, MeansByNames, NoneHeld, Places, Stays}
use Rattle.isp_locality.specs.LocalLaws.{IsFramed}
use Rattle.isp_locality.proofs.Framing.{framed}
use Rattle.isp_locality.proofs.RowLocal.{put_agrees}
use Rattle.isp_locality.proofs.TableLocal.{other_place, row_there, rows_agree, same_definition, same_place}
use Rattle.isp_answers.specs.Told.{AreTaken, IsReadBy, IsSearched, IsTooLarge, Rests, RestsAt, RestsIn, RestsOn, RestsText, Stand}
use Rattle.isp_views.specs.Views.{IsShown, definition_at}
use Rattle.isp_views.proofs.ViewLaws.{are_shown, reader_unwritten}
use Rattle.isp_views.proofs.EndLaws.{end_others, end_others_now, end_others_then, end_unwritten}
use Rattle.isp_course.proofs.ReadLaws.{box_satisfies, committed_stored, Finds, way_finds}
use Rattle.isp_serial_laws.proofs.StandLaws.{KeepsHeld, StillThere, read_moves, there_itself}

none_some : {X : Type 0} (x : X) → None ≡ Some x → ⊥
none_some x h = cc

some_is : {X : Type 0} (x y : X) → Some x ≡ Some y → x ≡ y
some_is x y h = cc

-- a servable language means by names and columns
pub by_names : (m : Machine) → IsProper m → MeansByNames m.language
by_names m good tables others text session inside definitions = good.servable.defined tables others (place_at session inside) text definitions

-- ---- what guards a condition

-- modes that read
abbrev pub ReadsWith : Mode → Type 0
ReadsWith mode = (mode ≡ S) ⊎ (mode ≡ X)

module _ (m : Machine) (state : State) (good : IsProper m) (o : InOrder m state) where
  held_reads : (j t : ℕ) (key : ℤ) (mode : Mode) → ReadsWith mode → Holds state.locks j t (Some key) mode → Reads state.locks j t key
  held_reads j t key mode (inl is) h = inl (inl (subst (λ md. Holds state.locks j t (Some key) md) is h))
  held_reads j t key mode (inr is) h = inl (inr (subst (λ md. Holds state.locks j t (Some key) md) is h))

  -- a committed row of which the condition of an answered statement holds is locked by its session
  pub guarded : (j number t : ℕ) (mode : Mode) (schema : Schema) (statement : Statement) → ReadsWith mode → IsReadBy state j number t mode (m.ways schema statement)
      → (key : ℤ) (row : Row) → committed_row state t key ≡ Some row → is_held statement row ≡ true → Reads state.locks j t key
  guarded j number t mode schema statement with_mode h key row sees held =
      by_way (m.ways schema statement) h (way_finds m good schema statement row (committed_stored m state good o t key row sees).0.key held)
    where
      row_version : (v : Option Version) → row_of v ≡ Some row → (version : Version) × (v ≡ Some version) × (version.row ≡ row)
      row_version None e = absurd (none_some row e)
      row_version (Some version) e = (version, refl, some_is version.row row e)

      by_way : (way : Way) → IsReadBy state j number t mode way → Finds way row → Reads state.locks j t key
      by_way (by_key k) locked finds =
          let same : k ≡ key = sym finds ∙ (committed_stored m state good o t key row sees).1 in
          held_reads j t key mode with_mode (subst (λ i. Holds state.locks j t (Some i) mode) same locked)
      by_way (by_box column predicate) x finds =
          let v = row_version (committed_at state t key) sees in
          let misses : MissesNothing state x.search = nothing_missed m state o x.search x.among x.done in
          let satisfied : satisfies x.search.search.predicate (box_in v.0.row x.search.column) ≡ true =
          ap (λ p. satisfies p (box_in v.0.row x.search.column)) x.same_predicate ∙ ap (λ c. satisfies predicate (box_in v.0.row c)) x.of_column
          ∙ ap (λ r. satisfies predicate (box_in r column)) v.2 ∙ box_satisfies predicate row column finds in
          held_reads j t key mode with_mode (x.each key (misses.committed key v.0 (ap (λ n. committed_at state n key) x.of_table ∙ v.1) satisfied))
      by_way by_scan (inl locked) finds = inr (inl locked)
      by_way by_scan (inr locked) finds = inr (inr locked)

-- ---- the frame

module _ (m : Machine) (state : State) (good : IsProper m) (o : InOrder m state) (s : ℕ) (over : Bool) (active : IsActive state s) (onow : InOrder m (after_end state s over)) where
  abbrev now : State
  now = after_end state s over

  -- what the session has written
  abbrev apart : Places
  apart place key = has_written (session_at state.sessions s) (suc place) key

  pub agree_committed : AgreeBut (λ place key. has_written (session_at state.sessions s) (suc place) key) (committed state) (committed (after_end state s over))
  agree_committed =
      let before : IsShown state.tables (committed_row state) (committed state) = (are_shown m state o).committed_shown in
      let then : IsShown state.tables (committed_row now) (committed now) = (are_shown m now onow).committed_shown in
      record {
        definitions = before.definitions ∙ sym then.definitions;
        rise = before.rise;
        others_rise = then.rise;
        each = λ place key h. before.each place key ∙ sym (end_unwritten m state good o s over active (suc place) key h) ∙ sym (then.each place key);
      }

  module _ (j : ℕ) (ne : (j == s) ≡ false) where
    flip : (s == j) ≡ false
    flip = by_test (s == j) refl
      where
        by_test : (b : Bool) → (s == j) ≡ b → b ≡ false
        by_test true e = absurd (false≢true (sym ne ∙ eq-eqb j s (sym (eqb-true s j e))))
        by_test false e = refl

    keeps : KeepsHeld state now j
    keeps = record {
      locks = keeps_others state.locks s j ne;
      searches = λ x h session done. there_itself (searches_without state.searches s) x (kept_filter state.searches x h (ap (λ i. i == s) session ∙ ne));
    }
      where
        kept_filter : (xs : List TreeSearch) (x : TreeSearch) → Has xs x → (x.search.session == s) ≡ false → Has (searches_without xs s) x
        kept_filter [] x h other = absurd h
        kept_filter (y ∷ xs) x (inl is) other =
            let e : (y.search.session == s) ≡ false = ap (λ (z : TreeSearch). z.search.session == s) is ∙ other in
            subst (λ b. Has (cond (not b) (y ∷ searches_without xs s) (searches_without xs s)) x) (sym e) (inl is)
        kept_filter (y ∷ xs) x (inr h) other = by_test (y.search.session == s) (kept_filter xs x h other)
          where
            by_test : (b : Bool) → Has (searches_without xs s) x → Has (cond (not b) (y ∷ searches_without xs s) (searches_without xs s)) x
            by_test true k = k
            by_test false k = inr k

    -- what it reads is none of what was written
    outside : (t : ℕ) (key : ℤ) → Reads state.locks j t key → has_written (session_at state.sessions s) t key ≡ false
    outside t key reads = reader_unwritten m state o good j t key reads s flip

    was_read : (t : ℕ) (key : ℤ) → Reads now.locks j t key → Reads state.locks j t key
    was_read t key (inl (inl h)) = inl (inl (held_without state.locks s (lock_on j t (Some key) S) h).0)
    was_read t key (inl (inr h)) = inl (inr (held_without state.locks s (lock_on j t (Some key) X) h).0)
    was_read t key (inr (inl h)) = inr (inl (held_without state.locks s (lock_on j t None S) h).0)
    was_read t key (inr (inr h)) = inr (inr (held_without state.locks s (lock_on j t None X) h).0)

    -- tables that hold what is committed where it wrote
    abbrev Own : State → List Table → Type 0
    Own st tables = (place : ℕ) (key : ℤ) → has_written (session_at state.sessions s) (suc place) key ≡ true → row_in tables place key ≡ committed_row st (suc place) key

    not_true : (b : Bool) → (b ≡ true → ⊥) → b ≡ false
    not_true true h = absurd (h refl)
    not_true false h = refl

    none_held : (number place : ℕ) (mode : Mode) (tables : List Table) (table : Table) (statement : Statement) → ReadsWith mode → slice_get tables place ≡ Some table → Own state tables
        → IsReadBy state j number (suc place) mode (m.ways table.schema statement) → NoneHeld (apart place) statement table.rows
    none_held number place mode tables table statement with_mode there own h key row inside sees =
        not_true (is_held statement row)
        (λ held. false≢true (sym (outside (suc place) key (guarded m state good o j number (suc place) mode table.schema statement with_mode h key row
        (sym (own place key inside) ∙ row_there tables place table key there ∙ sees) held)) ∙ inside))

    none_held_then : (number place : ℕ) (mode : Mode) (tables : List Table) (table : Table) (statement : Statement) → ReadsWith mode → slice_get tables place ≡ Some table → Own now tables
        → IsReadBy now j number (suc place) mode (m.ways table.schema statement) → NoneHeld (apart place) statement table.rows
    none_held_then number place mode tables table statement with_mode there own h key row inside sees =
        not_true (is_held statement row)
        (λ held. false≢true (sym (outside (suc place) key (was_read (suc place) key (guarded m now good onow j number (suc place) mode table.schema statement with_mode h key row
        (sym (own place key inside) ∙ row_there tables place table key there ∙ sees) held))) ∙ inside))

    taken_outside : (place : ℕ) (entries : List (ℤ × Row)) (rows : List Row) → AreTaken state j (suc place) entries rows → AreOutside (apart place) entries rows
    taken_outside place entries [] h = tt
    taken_outside place entries (row ∷ rows) h = (
      outside (suc place) (key_of row) (taker_reads m state good o j (suc place) (key_of row) h.0),
      by_there (has_key entries (key_of row)) (taken_outside place (with_row entries (key_of row) row) rows) h.1,
    )
      where
        by_there : (b : Bool) → (AreTaken state j (suc place) (with_row entries (key_of row) row) rows → AreOutside (apart place) (with_row entries (key_of row) row) rows)
            → MatchBool b (Unit {0}) (AreTaken state j (suc place) (with_row entries (key_of row) row) rows) → MatchBool b (Unit {0}) (AreOutside (apart place) (with_row entries (key_of row) row) rows)
        by_there true again k = tt
        by_there false again k = again k

    taken_then : (place : ℕ) (entries others : List (ℤ × Row)) (rows : List Row) → AgreeRows (apart place) entries others → AreTaken state j (suc place) entries rows → AreTaken now j (suc place) others rows
    taken_then place entries others [] agree h = tt
    taken_then place entries others (row ∷ rows) agree h = (
      keeps_taken state.locks now.locks j (suc place) (key_of row) keeps.locks h.0,
      subst (λ b. MatchBool b (Unit {0}) (AreTaken now j (suc place) (with_row others (key_of row) row) rows)) (ap is_some (agree.each (key_of row) out))
          (by_there (has_key entries (key_of row)) (taken_then place (with_row entries (key_of row) row) (with_row others (key_of row) row) rows (put_agrees (apart place) entries others row agree)) h.1),
    )
      where
        out : apart place (key_of row) ≡ false
        out = outside (suc place) (key_of row) (taker_reads m state good o j (suc place) (key_of row) h.0)

        by_there : (b : Bool) → (AreTaken state j (suc place) (with_row entries (key_of row) row) rows → AreTaken now j (suc place) (with_row others (key_of row) row) rows)
            → MatchBool b (Unit {0}) (AreTaken state j (suc place) (with_row entries (key_of row) row) rows) → MatchBool b (Unit {0}) (AreTaken now j (suc place) (with_row others (key_of row) row) rows)
        by_there true again k = tt
        by_there false again k = again k

    -- an answered statement, on tables that agree so
    module _ (tables others : List Table) (agree : AgreeBut apart tables others) (own : Own state tables) (own_then : Own now others) (number : ℕ) where
      -- its table on the others
      pub record IsOther (place : ℕ) (table : Table) : Type 0 where
        pub other : Table
        pub there : slice_get others place ≡ Some other
        pub schema : table.schema ≡ other.schema
        pub rows : AgreeRows (apart place) table.rows other.rows

      other_of : (place : ℕ) (table : Table) → slice_get tables place ≡ Some table → IsOther place table
      other_of place table there =
          let p = other_place tables others place table agree.definitions there in
          record {
            other = p.0;
            there = p.1;
            schema = ap (λ d. d.1) (same_definition tables others place table p.0 agree.definitions there p.1);
            rows = rows_agree apart tables others agree place table p.0 there p.1;
          }

      way_then : (place : ℕ) (table : Table) (x : IsOther place table) (mode : Mode) (statement : Statement) → IsReadBy state j number (suc place) mode (m.ways table.schema statement)
          → IsReadBy now j number (suc place) mode (m.ways x.other.schema statement)
      way_then place table x mode statement h =
          subst (λ (sc : Schema). IsReadBy now j number (suc place) mode (m.ways sc statement)) x.schema (read_moves m state now j keeps number (suc place) mode (m.ways table.schema statement) h)

      both : (place : ℕ) (table : Table) → slice_get tables place ≡ Some table → (x : IsOther place table) (mode : Mode) (statement : Statement) → ReadsWith mode
          → IsReadBy state j number (suc place) mode (m.ways table.schema statement) → NoneHeld (apart place) statement table.rows × NoneHeld (apart place) statement x.other.rows
      both place table there x mode statement with_mode h = (
        none_held number place mode tables table statement with_mode there own h,
        none_held_then number place mode others x.other statement with_mode x.there own_then (way_then place table x mode statement h),
      )

      large : (place : ℕ) (table : Table) (name : List ℕ) (sets : List Assign) (w : Condition) → IsTooLarge state j (suc place) table (Update name sets w) → HasLarge (apart place) table.schema (Update name sets w) table.rows
      large place table name sets w l = record {
        key = l.key;
        row = l.row;
        outside = outside (suc place) l.key (taker_reads m state good o j (suc place) l.key l.taken);
        there = l.there;
        outgrows = l.outgrows;
      }

      large_then : (place : ℕ) (table : Table) (x : IsOther place table) (name : List ℕ) (sets : List Assign) (w : Condition) → IsTooLarge state j (suc place) table (Update name sets w)
          → IsTooLarge now j (suc place) x.other (Update name sets w)
      large_then place table x name sets w l = record {
        key = l.key;
        row = l.row;
        there = sym (x.rows.each l.key (outside (suc place) l.key (taker_reads m state good o j (suc place) l.key l.taken))) ∙ l.there;
        outgrows = ap (λ (sc : Schema). outgrows_by sc (Update name sets w) l.row) (sym x.schema) ∙ l.outgrows;
        taken = keeps_taken state.locks now.locks j (suc place) l.key keeps.locks l.taken;
      }

      is_apart : (place : ℕ) (table : Table) → slice_get tables place ≡ Some table → (x : IsOther place table) (statement : Statement) → RestsOn m state j number place table statement
          → is_on_rows statement ≡ true → IsApart (apart place) table x.other statement
      is_apart place table there x (Insert name rows) h on = taken_outside place table.rows rows h
      is_apart place table there x (Select name columns w) h on = both place table there x S (Select name columns w) (inl refl) h
      is_apart place table there x (Update name sets w) (inl l) on = inl (large place table name sets w l)
      is_apart place table there x (Update name sets w) (inr h) on = inr (both place table there x X (Update name sets w) (inr refl) h)
      is_apart place table there x (Delete name w) h on = both place table there x X (Delete name w) (inr refl) h
      is_apart place table there x (Create name schema) h on = absurd (false≢true on)
      is_apart place table there x Begin h on = absurd (false≢true on)
      is_apart place table there x Commit h on = absurd (false≢true on)
      is_apart place table there x Rollback h on = absurd (false≢true on)
      is_apart place table there x (Refused refusal) h on = absurd (false≢true on)

      rests_then : (place : ℕ) (table : Table) (x : IsOther place table) (statement : Statement) → RestsOn m state j number place table statement → RestsOn m now j number place x.other statement
      rests_then place table x (Insert name rows) h = taken_then place table.rows x.other.rows rows x.rows h
      rests_then place table x (Select name columns w) h = way_then place table x S (Select name columns w) h
      rests_then place table x (Update name sets w) (inl l) = inl (large_then place table x name sets w l)
      rests_then place table x (Update name sets w) (inr h) = inr (way_then place table x X (Update name sets w) h)
      rests_then place table x (Delete name w) h = way_then place table x X (Delete name w) h
      rests_then place table x (Create name schema) h = tt
      rests_then place table x Begin h = tt
      rests_then place table x Commit h = tt
      rests_then place table x Rollback h = tt
      rests_then place table x (Refused refusal) h = tt

      apart_in : (name : List ℕ) (statement : Statement) → is_on_rows statement ≡ true → RestsIn m state j number tables name statement → IsApartIn apart tables others name statement
      apart_in name statement on r =
          let x : IsOther r.place r.table = other_of r.place r.table r.there in
          record { place = r.place; table = r.table; other = x.other; place_is = r.place_is; there = r.there; other_there = x.there; is_apart = is_apart r.place r.table r.there x statement r.rests on }

      in_then : (name : List ℕ) (statement : Statement) → RestsIn m state j number tables name statement → RestsIn m now j number others name statement
      in_then name statement r =
          let x : IsOther r.place r.table = other_of r.place r.table r.there in
          record {
            place = r.place;
            table = x.other;
            place_is = sym (same_place tables others name agree.definitions) ∙ r.place_is;
            there = x.there;
            rests = rests_then r.place r.table x statement r.rests;
          }

      apart_of : (statement : Statement) → Rests m state j number tables statement → Apart apart tables others statement
      apart_of (Insert name rows) h = apart_in name (Insert name rows) refl h
      apart_of (Select name columns w) h = apart_in name (Select name columns w) refl h
      apart_of (Update name sets w) h = apart_in name (Update name sets w) refl h
      apart_of (Delete name w) h = apart_in name (Delete name w) refl h
      apart_of (Create name schema) h = absurd h
      apart_of Begin h = tt
      apart_of Commit h = tt
      apart_of Rollback h = tt
      apart_of (Refused refusal) h = tt

      then_of : (statement : Statement) → Rests m state j number tables statement → Rests m now j number others statement
      then_of (Insert name rows) h = in_then name (Insert name rows) h
      then_of (Select name columns w) h = in_then name (Select name columns w) h
      then_of (Update name sets w) h = in_then name (Update name sets w) h
      then_of (Delete name w) h = in_then name (Delete name w) h
      then_of (Create name schema) h = absurd h
      then_of Begin h = tt
      then_of Commit h = tt
      then_of Rollback h = tt
      then_of (Refused refusal) h = tt

    -- ---- the answers, one after another

    pub record IsStanding (inside : Bool) (tables others : List Table) (answers : List Answer) (after : List Table) : Type 0 where
      pub then : List Table
      pub stand : Stand m now j inside others answers then
      pub agree : AgreeBut apart after then
      pub own_then : Own now then

    pub stands_then : (inside : Bool) (tables others : List Table) (answers : List Answer) (after : List Table) → ((answer : Answer) → Has answers answer → answer.session ≡ j)
        → AgreeBut apart tables others → Own state tables → Own now others → Stand m state j inside tables answers after → IsStanding inside tables others answers after
    stands_then inside tables others [] after sessions agree own own_then h = record {
      then = others;
      stand = refl;
      agree = subst (λ ts. AgreeBut apart ts others) (sym h) agree;
      own_then = own_then;
    }
    stands_then inside tables others (answer ∷ answers) after sessions agree own own_then h =
        let f : IsFramed apart m.language m.script inside tables others answer h.0 =
        framed apart m.language m.script (by_names m good) inside tables others answer h.0 agree (apart_at h.2) h.1 in
        let rest : IsStanding (inside || (is_begin (effect_of m.language (text_at m.script answer.session answer.number)) && is_ok answer)) h.0 f.then answers after =
        stands_then (inside || (is_begin (effect_of m.language (text_at m.script answer.session answer.number)) && is_ok answer)) h.0 f.then answers after (λ a has. sessions a (inr has)) f.agree
        (λ place key w. f.stay place key w ∙ own place key w) (λ place key w. f.others_stay place key w ∙ own_then place key w) h.3 in
        record { then = rest.then; stand = (f.then, f.agrees, rests_at h.2, rest.stand); agree = rest.agree; own_then = rest.own_then }
      where
        session_is : answer.session ≡ j
        session_is = sessions answer (inl refl)

        apart_at : RestsAt m state j inside tables answer → ApartAt apart m.language m.script inside tables others answer
        apart_at k = by_given (is_given answer) k
          where
            by_text : (text : Option (List ℕ)) → RestsText m state j answer.number inside tables text → ApartText apart m.language answer.session inside tables others text
            by_text None r = tt
            by_text (Some text) r =
                subst (λ i. Apart apart tables others (m.language.meaning tables (place_at i inside) text)) (sym session_is)
                (apart_of tables others agree own own_then answer.number (m.language.meaning tables (place_at j inside) text) r)

            by_given : (b : Bool) → MatchBool b (Unit {0}) (RestsText m state j answer.number inside tables (text_at m.script answer.session answer.number))
                → MatchBool b (Unit {0}) (ApartText apart m.language answer.session inside tables others (text_at m.script answer.session answer.number))
            by_given true r = tt
            by_given false r = by_text (text_at m.script answer.session answer.number) r

        rests_at : RestsAt m state j inside tables answer → RestsAt m now j inside others answer
        rests_at k = by_given (is_given answer) k
          where
            by_text : (text : Option (List ℕ)) → RestsText m state j answer.number inside tables text → RestsText m now j answer.number inside others text
            by_text None r = tt
            by_text (Some text) r =
                subst (λ st. Rests m now j answer.number others st) (by_names m good tables others text j inside agree.definitions)
                (then_of tables others agree own own_then answer.number (m.language.meaning tables (place_at j inside) text) r)

            by_given : (b : Bool) → MatchBool b (Unit {0}) (RestsText m state j answer.number inside tables (text_at m.script answer.session answer.number))
                → MatchBool b (Unit {0}) (RestsText m now j answer.number inside others (text_at m.script answer.session answer.number))
            by_given true r = tt
            by_given false r = by_text (text_at m.script answer.session answer.number) r

    -- what stands on the committed tables before stands on those then, and leaves what the session sees then
    pub record StandsThen (answers : List Answer) (left : List Table) : Type 0 where
      pub leaves : List Table
      pub stand : Stand m (after_end state s over) j false (committed (after_end state s over)) answers leaves
      pub seen : left ≡ beginning_view state j → leaves ≡ beginning_view (after_end state s over) j

    pub stands_at_end : (answers : List Answer) (left : List Table) → ((answer : Answer) → Has answers answer → answer.session ≡ j) → Stand m state j false (committed state) answers left → StandsThen answers left
    stands_at_end answers left sessions h =
        let before : IsShown state.tables (committed_row state) (committed state) = (are_shown m state o).committed_shown in
        let then : IsShown state.tables (committed_row now) (committed now) = (are_shown m now onow).committed_shown in
        let r : IsStanding false (committed state) (committed now) answers left =
        stands_then false (committed state) (committed now) answers left sessions agree_committed (λ place key w. before.each place key) (λ place key w. then.each place key) h in
        record { leaves = r.then; stand = r.stand; seen = λ is. sees r is }
      where
        sees : (r : IsStanding false (committed state) (committed now) answers left) → left ≡ beginning_view state j → r.then ≡ beginning_view now j
        sees r is =
            let before : IsShown state.tables (view_at_beginning state j) (beginning_view state j) = (are_shown m state o).views_shown j in
            let then : IsShown state.tables (view_at_beginning now j) (beginning_view now j) = (are_shown m now onow).views_shown j in
            same_tables r.then (beginning_view now j) r.agree.others_rise then.rise
            (sym r.agree.definitions ∙ ap (map definition_of) is ∙ before.definitions ∙ sym then.definitions)
            (λ place key. by_written r before then place key (has_written (session_at state.sessions s) (suc place) key) refl)
          where
            by_written : (r : IsStanding false (committed state) (committed now) answers left) → IsShown state.tables (view_at_beginning state j) (beginning_view state j)
                → IsShown state.tables (view_at_beginning now j) (beginning_view now j) → (place : ℕ) (key : ℤ) (b : Bool) → has_written (session_at state.sessions s) (suc place) key ≡ b
                → row_in r.then place key ≡ row_in (beginning_view now j) place key
            by_written r before then place key false e =
                sym (r.agree.each place key e) ∙ ap (λ ts. row_in ts place key) is ∙ before.each place key
                ∙ sym (end_others m state good o s over active j ne (suc place) key e) ∙ sym (then.each place key)
            by_written r before then place key true e =
                r.own_then place key e ∙ sym (end_others_then m state good o s over active j ne (suc place) key e) ∙ sym (then.each place key)
