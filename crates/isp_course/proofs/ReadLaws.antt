-- What a statement at work has read, in a state in order: what its session saw, and all of which its condition holds.
use Rattle.std.proofs.Common.{◌≡◌, ◌⊎◌, ◌∙◌, ◌≤◌, ◌<◌, inl, inr, refl, sym, ap, subst, ℕ, zero, suc, ℤ, ◌==◌, ◌&&◌, Bool, true, false, cond, Option, Some, None, List, [], ◌∷◌, ◌++◌, drop, length, map, append-nil, arith, eqb-true, eq-eqb, is_some}
use Rattle.std.specs.Prelude.{find, filter, slice_get, MatchBool}
use Rattle.std.specs.BTreeSet.{insert_key}
use Rattle.std.specs.List.{fold}
use Rattle.std.specs.Option.{option_and_then, option_map}
use Rattle.std.specs.Ordering.{int_cmp, int_eq, match_ordering}
use Rattle.std.specs.declared.cmp.Ordering.{Ordering}
use Rattle.std.specs.declared.cmp.Ordering.TheVariants.{Less, Equal, Greater}
use Rattle.std.proofs.lemmas.Bool.{false≢true, and_parts}
use Rattle.std.proofs.lemmas.Bool.Decides.{Decides-int_eq}
use Rattle.isp_base.specs.Lists.{Has}
use Rattle.isp_laws.proofs.ListLaws.{Has-append, Has-map, Has-map_of, Source}
use Rattle.isp_mbr.specs.declared.predicate.Predicate.{Predicate}
use Rattle.isp_mbr.specs.Predicates.{satisfies}
use Rattle.isp_reclock.specs.declared.modes.Mode.TheVariants.{S, X}
use Rattle.isp_plain.specs.declared.statement.Condition.{Condition}
use Rattle.isp_plain.specs.declared.statement.Statement.{Statement}
use Rattle.isp_plain.specs.declared.statement.Statement.TheVariants.{Create, Insert, Select, Update, Delete, Begin, Commit, Rollback, Refused}
use Rattle.isp_plain.specs.declared.value.Row.{Row}
use Rattle.isp_plain.specs.declared.value.Schema.{Schema}
use Rattle.isp_plain.specs.declared.value.Value.{Value}
use Rattle.isp_plain.specs.declared.value.Value.TheVariants.{Int, Text, Geo}
use Rattle.isp_plain.specs.Conditions.{holds, value_satisfies}
use Rattle.isp_plain.specs.Values.{key_of}
use Rattle.isp_changes.specs.Changes.{is_held}
use Rattle.isp_events.specs.Stored.{KeptRow, StoredTable, Version, box_in, box_of_value, indexed, kept_at, present, row_of, rows_of, table_at, version_of}
use Rattle.isp_events.specs.Sessions.{Change, Image, was_absent, was_there, was_marked, Note, Phase, locking, visiting, scanning, writing, answering, SessionState, UndoEntry, Work, session_at}
use Rattle.isp_events.specs.State.{State, TreeSearch}
use Rattle.isp_events.specs.Views.{committed_at, committed_row, first_image, first_image_of_all, has_written, is_of_key, row_or, statement_undo, version_in, version_or, view_at, view_at_beginning}
use Rattle.isp_events.specs.Ways.{AreSound, FindsAll, IsStorable, Machine, Way, by_key, by_box, by_scan, begins_with_number, condition_of}
use Rattle.isp_events.specs.Next.{key_mode, table_mode}
use Rattle.isp_events.specs.Reading.{is_of, rising}
use Rattle.isp_order.specs.Trees.{FitsSlot, IsKeyed, IsRestorable, IsStored, StandsAt, version_kept}
use Rattle.isp_order.specs.Locks.{Holds}
use Rattle.isp_order.specs.Searches.{IsOfWork, is_visiting}
use Rattle.isp_order.specs.Work.{AreFound, AreSought, AreSoughtBy, HasKeys, IsReadLocked, is_before_writing, is_by_scan, keys_left, keys_sought, row_before, undo_since, way_of}
use Rattle.isp_order.specs.InOrder.{InOrder, IsProper}
use Rattle.isp_order.proofs.RowLaws.{lookup_has}
use Rattle.isp_order_trees.specs.Missed.{MissesNothing, WroteLater}
use Rattle.isp_order_trees.proofs.MissedLaws.{FromUndo, IsKept, committed_from, image_from, nothing_missed, present_kept, table_kept}
use Rattle.isp_order_reads.proofs.RowFrames.{Reads, read_locked}
use Rattle.isp_answers.specs.Course.{saw}
use Rattle.isp_views.proofs.ViewLaws.{reader_sees}
use Rattle.isp_views.proofs.MovedLaws.{begun_is}

some_is : {X : Type 0} (x y : X) → Some x ≡ Some y → x ≡ y
some_is x y h = cc

none_some : {X : Type 0} (x : X) → None ≡ Some x → ⊥
none_some x h = cc

-- ---- keys rising

inserted : (keys : List ℤ) (k : ℤ) → Has (insert_key int_cmp keys k) k
inserted [] k = inl refl
inserted (x ∷ keys) k = by_order (int_cmp k x) refl (inserted keys k)
  where
    by_order : (o : Ordering) → int_cmp k x ≡ o → Has (insert_key int_cmp keys k) k → Has (match_ordering o (k ∷ x ∷ keys) (x ∷ keys) (x ∷ insert_key int_cmp keys k)) k
    by_order Less e again = inl refl
    by_order Equal e again = inl (sym ((Decides-int_eq k x).0 (ap (λ o. Rattle.std.specs.Ordering.is_eq o) e)))
    by_order Greater e again = inr again

kept_inserted : (keys : List ℤ) (k j : ℤ) → Has keys j → Has (insert_key int_cmp keys k) j
kept_inserted [] k j h = absurd h
kept_inserted (x ∷ keys) k j h = by_order (int_cmp k x) h (kept_inserted keys k j)
  where
    by_order : (o : Ordering) → (x ≡ j) ⊎ Has keys j → (Has keys j → Has (insert_key int_cmp keys k) j) → Has (match_ordering o (k ∷ x ∷ keys) (x ∷ keys) (x ∷ insert_key int_cmp keys k)) j
    by_order Less i again = inr i
    by_order Equal i again = i
    by_order Greater (inl e) again = inl e
    by_order Greater (inr i) again = inr (again i)

folded_start : (keys start : List ℤ) (j : ℤ) → Has start j → Has (fold (insert_key int_cmp) start keys) j
folded_start [] start j h = h
folded_start (k ∷ keys) start j h = folded_start keys (insert_key int_cmp start k) j (kept_inserted start k j h)

folded : (keys start : List ℤ) (j : ℤ) → Has keys j → Has (fold (insert_key int_cmp) start keys) j
folded [] start j h = absurd h
folded (k ∷ keys) start j (inl e) = folded_start keys (insert_key int_cmp start k) j (subst (λ i. Has (insert_key int_cmp start k) i) e (inserted start k))
folded (k ∷ keys) start j (inr h) = folded keys (insert_key int_cmp start k) j h

pub has_rising : (keys : List ℤ) (j : ℤ) → Has keys j → Has (rising keys) j
has_rising keys j h = folded keys [] j h

-- ---- ways

-- the way finds the row
abbrev pub Finds : Way → Row → Type 0
Finds (by_key key) row = key_of row ≡ key
Finds (by_box column predicate) row = value_satisfies predicate (slice_get row.values column) ≡ true
Finds by_scan row = Unit {0}

of_way : (schema : Schema) (w : Condition) (way : Way) → FindsAll schema w way → (row : Row) → begins_with_number row.values ≡ true → holds w row ≡ true → Finds way row
of_way schema w (by_key key) h row begins held = h row begins held
of_way schema w (by_box column predicate) h row begins held = h.1 row begins held
of_way schema w by_scan h row begins held = tt

pub way_finds : (m : Machine) → IsProper m → (schema : Schema) (statement : Statement) (row : Row) → begins_with_number row.values ≡ true → is_held statement row ≡ true
    → Finds (m.ways schema statement) row
way_finds m good schema (Select name columns w) row begins held = of_way schema w (m.ways schema (Select name columns w)) (good.sound schema (Select name columns w)) row begins held
way_finds m good schema (Update name sets w) row begins held = of_way schema w (m.ways schema (Update name sets w)) (good.sound schema (Update name sets w)) row begins held
way_finds m good schema (Delete name w) row begins held = of_way schema w (m.ways schema (Delete name w)) (good.sound schema (Delete name w)) row begins held
way_finds m good schema (Create name columns) row begins held = absurd (false≢true held)
way_finds m good schema (Insert name rows) row begins held = absurd (false≢true held)
way_finds m good schema Begin row begins held = absurd (false≢true held)
way_finds m good schema Commit row begins held = absurd (false≢true held)
way_finds m good schema Rollback row begins held = absurd (false≢true held)
way_finds m good schema (Refused refusal) row begins held = absurd (false≢true held)

pub box_satisfies : (predicate : Predicate) (row : Row) (column : ℕ) → value_satisfies predicate (slice_get row.values column) ≡ true → satisfies predicate (box_in row column) ≡ true
box_satisfies predicate row column h = by_value (slice_get row.values column) h
  where
    by_value : (v : Option Value) → value_satisfies predicate v ≡ true → satisfies predicate (box_of_value v) ≡ true
    by_value None e = absurd (false≢true e)
    by_value (Some (Int n)) e = absurd (false≢true e)
    by_value (Some (Text t)) e = absurd (false≢true e)
    by_value (Some (Geo form)) e = e

abbrev column_by : Way → ℕ
column_by (by_box column predicate) = column
column_by way = 0

abbrev predicate_by : Predicate → Way → Predicate
predicate_by other (by_box column predicate) = predicate
predicate_by other way = other

pub box_column : (c d : ℕ) (p q : Predicate) → by_box c p ≡ by_box d q → c ≡ d
box_column c d p q h = ap column_by h

pub box_predicate : (c d : ℕ) (p q : Predicate) → by_box c p ≡ by_box d q → p ≡ q
box_predicate c d p q h = ap (predicate_by p) h

-- a statement with a condition isn't INSERT
pub sought_of : (searches : List TreeSearch) (s number : ℕ) (work : Work) (way : Way) (statement : Statement) (row : Row) → is_held statement row ≡ true
    → AreSoughtBy searches s number work way statement → AreSought searches s number work way
sought_of searches s number work way (Select name columns w) row held h = h
sought_of searches s number work way (Update name sets w) row held h = h
sought_of searches s number work way (Delete name w) row held h = h
sought_of searches s number work way (Create name schema) row held h = h
sought_of searches s number work way (Insert name rows) row held h = absurd (false≢true held)
sought_of searches s number work way Begin row held h = h
sought_of searches s number work way Commit row held h = h
sought_of searches s number work way Rollback row held h = h
sought_of searches s number work way (Refused refusal) row held h = h

pub not_visiting : (phase : Phase) → is_before_writing phase ≡ false → is_visiting phase ≡ false
not_visiting (locking keys) h = refl
not_visiting visiting h = absurd (false≢true (sym h))
not_visiting (scanning last) h = refl
not_visiting (writing done left progress) h = refl
not_visiting (answering done) h = refl

none_left : (phase : Phase) → is_before_writing phase ≡ false → keys_left phase ≡ []
none_left (locking keys) h = absurd (false≢true (sym h))
none_left visiting h = refl
none_left (scanning last) h = refl
none_left (writing done left progress) h = refl
none_left (answering done) h = refl

-- as it writes, all keys that it seeks are read
pub all_sought : (work : Work) → is_before_writing work.phase ≡ false → keys_sought work ≡ map (λ r. r.0) work.read
all_sought work h = ap (λ keys. map (λ r. r.0) work.read ++ keys) (none_left work.phase h) ∙ append-nil (map (λ r. r.0) work.read)

module _ (m : Machine) (state : State) (good : IsProper m) (o : InOrder m state) where
  -- ---- rows that are seen

  present_stored : (t : ℕ) (key : ℤ) (version : Version) → StandsAt state.tables t key version → IsStorable (table_at state.tables t).schema version.row × (key_of version.row ≡ key)
  present_stored t key version stands =
      let k : IsKept (table_at state.tables t) key version = present_kept (table_at state.tables t) key version stands in
      let keyed : IsKeyed (table_at state.tables t) = o.keyed.each (table_at state.tables t) (table_kept 1 t state.tables key k.kept k.there) in
      let stored : IsStored (table_at state.tables t) key k.kept.slot (version_kept k.kept) = keyed.rows key k.kept (lookup_has (rows_of (table_at state.tables t)) key k.kept k.there) in
      (subst (λ (v : Version). IsStorable (table_at state.tables t).schema v.row) k.is stored.storable, ap (λ (v : Version). key_of v.row) (sym k.is) ∙ stored.own_key)

  image_stored : (t : ℕ) (key : ℤ) (version : Version) → FromUndo state.sessions t key (was_there version) → IsStorable (table_at state.tables t).schema version.row × (key_of version.row ≡ key)
  image_stored t key version u =
      let r : IsRestorable state.tables (session_at state.sessions u.s) u.undo = o.restorable u.s u.undo u.has in
      let stored : IsStored (table_at state.tables u.undo.table) u.undo.key r.kept.slot version =
      subst (λ (i : Image). FitsSlot (table_at state.tables u.undo.table) u.undo.key r.kept.slot i) u.is r.fits in
      (subst (λ n. IsStorable (table_at state.tables n).schema version.row) u.of_table stored.storable, stored.own_key ∙ u.of_key)

  row_version : (v : Option Version) (row : Row) → row_of v ≡ Some row → (version : Version) × (v ≡ Some version) × (version.row ≡ row)
  row_version None row h = absurd (none_some row h)
  row_version (Some version) row h = (version, refl, some_is version.row row h)

  pub committed_stored : (t : ℕ) (key : ℤ) (row : Row) → committed_row state t key ≡ Some row → IsStorable (table_at state.tables t).schema row × (key_of row ≡ key)
  committed_stored t key row h =
      let v = row_version (committed_at state t key) row h in
      subst (λ r. IsStorable (table_at state.tables t).schema r × (key_of r ≡ key)) v.2 (by_place v.0 (committed_from state.tables state.sessions t key v.0 v.1))
    where
      by_place : (version : Version) → StandsAt state.tables t key version ⊎ FromUndo state.sessions t key (was_there version) → IsStorable (table_at state.tables t).schema version.row × (key_of version.row ≡ key)
      by_place version (inl stands) = present_stored t key version stands
      by_place version (inr undo) = image_stored t key version undo

  pub view_stored : (s t : ℕ) (key : ℤ) (row : Row) → view_at state s t key ≡ Some row → IsStorable (table_at state.tables t).schema row × (key_of row ≡ key)
  view_stored s t key row h = by_written (has_written (session_at state.sessions s) t key) h
    where
      by_written : (b : Bool) → cond b (row_of (present (table_at state.tables t) key)) (committed_row state t key) ≡ Some row → IsStorable (table_at state.tables t).schema row × (key_of row ≡ key)
      by_written true e =
          let v = row_version (present (table_at state.tables t) key) row e in
          subst (λ r. IsStorable (table_at state.tables t).schema r × (key_of r ≡ key)) v.2 (present_stored t key v.0 v.1)
      by_written false e = committed_stored t key row e

  -- ---- what was read

  -- it is what the session saw
  pub read_is_view : (s : ℕ) (work : Work) → (session_at state.sessions s).work ≡ Some work → (session_at state.sessions s).victim ≡ false
      → (key : ℤ) (row : Option Row) → Has {X = ℤ × Option Row} work.read (key, row) → saw state s work key ≡ row
  read_is_view s work at undisturbed key row has =
      ap (λ us. row_or (first_image us work.table key) (view_at state s work.table key)) (begun_is m state good o (session_at state.sessions s) work at)
      ∙ ap (row_or (first_image (undo_since (session_at state.sessions s) work) work.table key)) (reader_sees m state o good s work.table key (read_locked m state good o s work key row at has))
      ∙ o.standing s work at undisturbed key row has

  -- a key that was read has been read with what was seen there
  pub key_read : (s : ℕ) (work : Work) → (session_at state.sessions s).work ≡ Some work → (session_at state.sessions s).victim ≡ false
      → (key : ℤ) (row : Row) → Has (map (λ r. r.0) work.read) key → saw state s work key ≡ Some row → Has {X = ℤ × Option Row} work.read (key, Some row)
  key_read s work at undisturbed key row h sees =
      let src : Source {X = ℤ × Option Row} (λ r. r.0) work.read key = Has-map {X = ℤ × Option Row} (λ r. r.0) work.read key h in
      let has : Has {X = ℤ × Option Row} work.read (key, src.x.1) = subst (λ k. Has {X = ℤ × Option Row} work.read (k, src.x.1)) src.is src.has in
      let same : src.x.1 ≡ Some row = sym (read_is_view s work at undisturbed key src.x.1 has) ∙ sees in
      subst (λ r. Has {X = ℤ × Option Row} work.read (key, r)) same has

  -- ---- the search of a statement at work

  pub record IsItsSearch (s : ℕ) (work : Work) (column : ℕ) (predicate : Predicate) : Type 0 where
    pub search : TreeSearch
    pub among : Has state.searches search
    pub of : is_of s (session_at state.sessions s).number search ≡ true
    pub session_is : search.search.session ≡ s
    pub statement_is : search.search.statement ≡ (session_at state.sessions s).number
    pub of_table : search.table ≡ work.table
    pub of_column : search.column ≡ column
    pub same_predicate : search.search.predicate ≡ predicate
    pub done : search.search.stack ≡ []
    pub found : (key : ℤ) → Has search.search.found key → Has (map (λ r. r.0) work.read) key

  pub its_search : (s : ℕ) (work : Work) → (session_at state.sessions s).work ≡ Some work → is_before_writing work.phase ≡ false → (column : ℕ) (predicate : Predicate)
      → way_of m.ways state.tables work ≡ by_box column predicate → AreSought state.searches s (session_at state.sessions s).number work (by_box column predicate)
      → IsItsSearch s work column predicate
  its_search s work at writes column predicate way sought =
      let f : AreFound state.searches s (session_at state.sessions s).number (keys_sought work) =
      subst (λ b. MatchBool b (work.read ≡ []) (AreFound state.searches s (session_at state.sessions s).number (keys_sought work))) (not_visiting work.phase writes) sought in
      let parts = and_parts (f.search.search.session == s) (f.search.search.statement == (session_at state.sessions s).number) f.of in
      let session_is : f.search.search.session ≡ s = eqb-true f.search.search.session s parts.0 in
      let statement_is : f.search.search.statement ≡ (session_at state.sessions s).number = eqb-true f.search.search.statement (session_at state.sessions s).number parts.1 in
      let p : IsOfWork m.ways state.tables (session_at state.sessions f.search.search.session) f.search =
      (o.belongs.each f.search f.among).present (statement_is ∙ ap (λ i. (session_at state.sessions i).number) (sym session_is)) in
      let same : p.work ≡ work = some_is p.work work (sym p.at_work ∙ ap (λ i. (session_at state.sessions i).work) session_is ∙ at) in
      let table : f.search.table ≡ work.table = sym p.of_table ∙ ap (λ (w : Work). w.table) same in
      let way' : by_box f.search.column f.search.search.predicate ≡ by_box column predicate =
      sym p.way ∙ ap (λ n. m.ways (table_at state.tables n).schema p.work.statement) table ∙ ap (λ (w : Work). m.ways (table_at state.tables work.table).schema w.statement) same ∙ way in
      record {
        search = f.search;
        among = f.among;
        of = f.of;
        session_is = session_is;
        statement_is = statement_is;
        of_table = table;
        of_column = box_column f.search.column column f.search.search.predicate predicate way';
        same_predicate = box_predicate f.search.column column f.search.search.predicate predicate way';
        done = p.visited (ap (λ (w : Work). is_visiting w.phase) same ∙ not_visiting work.phase writes);
        found = λ key h. subst (λ keys. Has keys key) (sym f.found ∙ all_sought work writes) (has_rising f.search.search.found key h);
      }

  -- a committed row that it would find is among those found
  found_committed : (s : ℕ) (work : Work) (column : ℕ) (predicate : Predicate) → IsItsSearch s work column predicate → (key : ℤ) (row : Row) → committed_row state work.table key ≡ Some row
      → satisfies predicate (box_in row column) ≡ true → Has (map (λ r. r.0) work.read) key
  found_committed s work column predicate x key row h good_box =
      let v = row_version (committed_at state work.table key) row h in
      let misses : MissesNothing state x.search = nothing_missed m state o x.search x.among x.done in
      x.found key (misses.committed key v.0 (ap (λ n. committed_at state n key) x.of_table ∙ v.1)
      (ap (λ p. satisfies p (box_in v.0.row x.search.column)) x.same_predicate ∙ ap (λ c. satisfies predicate (box_in v.0.row c)) x.of_column
      ∙ ap (λ r. satisfies predicate (box_in r column)) v.2 ∙ good_box))

  -- one that stands there too, unless the session noted it in the statement
  found_present : (s : ℕ) (work : Work) (column : ℕ) (predicate : Predicate) → IsItsSearch s work column predicate
      → ((note : Note) → Has (session_at state.sessions s).notes note → note.statement < (session_at state.sessions s).number)
      → (key : ℤ) (row : Row) → row_of (present (table_at state.tables work.table) key) ≡ Some row → satisfies predicate (box_in row column) ≡ true → Has (map (λ r. r.0) work.read) key
  found_present s work column predicate x earlier key row h good_box =
      let v = row_version (present (table_at state.tables work.table) key) row h in
      let misses : MissesNothing state x.search = nothing_missed m state o x.search x.among x.done in
      by_found (misses.seen key v.0 (ap (λ n. present (table_at state.tables n) key) x.of_table ∙ v.1)
      (ap (λ p. satisfies p (box_in v.0.row x.search.column)) x.same_predicate ∙ ap (λ c. satisfies predicate (box_in v.0.row c)) x.of_column
      ∙ ap (λ r. satisfies predicate (box_in r column)) v.2 ∙ good_box))
    where
      by_found : {version : Version} → Has x.search.search.found key ⊎ WroteLater state x.search key version → Has (map (λ r. r.0) work.read) key
      by_found (inl f) = x.found key f
      by_found (inr later) =
          let noted : Has (session_at state.sessions s).notes later.note = subst (λ i. Has (session_at state.sessions i).notes later.note) x.session_is later.noted in
          let before : later.note.statement < (session_at state.sessions s).number = earlier later.note noted in
          let after' : x.search.search.statement ≤ later.note.statement = later.later in
          let is : x.search.search.statement ≡ (session_at state.sessions s).number = x.statement_is in
          let no : ⊥ = omega (arith, before, after', is) in
          absurd no

  -- ---- what is committed and held is locked

  -- by scan the table is locked
  pub scan_locks : (s : ℕ) (work : Work) (key : ℤ) → (session_at state.sessions s).work ≡ Some work → is_by_scan (way_of m.ways state.tables work) ≡ true
      → (row : Row) → is_held work.statement row ≡ true → Reads state.locks s work.table key
  scan_locks s work key at scan row held = by_way (way_of m.ways state.tables work) scan (o.table_locked s work at)
    where
      by_table : (statement : Statement) → is_held statement row ≡ true → Holds state.locks s work.table None (table_mode statement by_scan) → Reads state.locks s work.table key
      by_table (Select name columns w) e h = inr (inl h)
      by_table (Update name sets w) e h = inr (inr h)
      by_table (Delete name w) e h = inr (inr h)
      by_table (Create name schema) e h = absurd (false≢true e)
      by_table (Insert name rows) e h = absurd (false≢true e)
      by_table Begin e h = absurd (false≢true e)
      by_table Commit e h = absurd (false≢true e)
      by_table Rollback e h = absurd (false≢true e)
      by_table (Refused refusal) e h = absurd (false≢true e)

      by_way : (way : Way) → is_by_scan way ≡ true → Holds state.locks s work.table None (table_mode work.statement way) → Reads state.locks s work.table key
      by_way (by_key k) e h = absurd (false≢true e)
      by_way (by_box column predicate) e h = absurd (false≢true e)
      by_way by_scan e h = by_table work.statement held h

  pub held_key : (s : ℕ) (work : Work) → (session_at state.sessions s).work ≡ Some work → is_before_writing work.phase ≡ false
      → (key : ℤ) (row : Row) → committed_row state work.table key ≡ Some row → is_held work.statement row ≡ true → Reads state.locks s work.table key
  held_key s work at writes key row sees held =
      by_way (way_of m.ways state.tables work) refl (way_finds m good (table_at state.tables work.table).schema work.statement row (committed_stored work.table key row sees).0.key held)
      (sought_of state.searches s (session_at state.sessions s).number work (way_of m.ways state.tables work) work.statement row held (o.keys_locked s work at).sought)
    where
      from_key : Has (map (λ r. r.0) work.read) key → Reads state.locks s work.table key
      from_key h =
          let src : Source {X = ℤ × Option Row} (λ r. r.0) work.read key = Has-map {X = ℤ × Option Row} (λ r. r.0) work.read key h in
          read_locked m state good o s work key src.x.1 at (subst (λ k. Has {X = ℤ × Option Row} work.read (k, src.x.1)) src.is src.has)

      by_way : (way : Way) → way_of m.ways state.tables work ≡ way → Finds way row → AreSought state.searches s (session_at state.sessions s).number work way → Reads state.locks s work.table key
      by_way (by_key k) is finds sought =
          let same : k ≡ key = sym finds ∙ (committed_stored work.table key row sees).1 in
          from_key (subst (λ keys. Has keys key) (sym sought ∙ all_sought work writes) (inl same))
      by_way (by_box column predicate) is finds sought =
          from_key (found_committed s work column predicate (its_search s work at writes column predicate is sought) key row sees (box_satisfies predicate row column finds))
      by_way by_scan is finds sought = scan_locks s work key at (ap is_by_scan is) row held

  -- ---- all that is held is read, where nothing is written yet

  pub all_read : (s : ℕ) (work : Work) → (session_at state.sessions s).work ≡ Some work → (session_at state.sessions s).victim ≡ false → is_before_writing work.phase ≡ false
      → undo_since (session_at state.sessions s) work ≡ []
      → ((note : Note) → Has (session_at state.sessions s).notes note → note.statement < (session_at state.sessions s).number)
      → is_by_scan (way_of m.ways state.tables work) ≡ false
      → (key : ℤ) (row : Row) → saw state s work key ≡ Some row → is_held work.statement row ≡ true → Has {X = ℤ × Option Row} work.read (key, Some row)
  all_read s work at undisturbed writes nothing earlier not_scan key row sees held =
      key_read s work at undisturbed key row (by_way (way_of m.ways state.tables work) refl not_scan
      (way_finds m good (table_at state.tables work.table).schema work.statement row (view_stored s work.table key row view).0.key held)
      (sought_of state.searches s (session_at state.sessions s).number work (way_of m.ways state.tables work) work.statement row held (o.keys_locked s work at).sought)) sees
    where
      view : view_at state s work.table key ≡ Some row
      view = sym (ap (λ us. row_or (first_image us work.table key) (view_at state s work.table key)) (begun_is m state good o (session_at state.sessions s) work at ∙ nothing)) ∙ sees

      by_written : (column : ℕ) (predicate : Predicate) → IsItsSearch s work column predicate → satisfies predicate (box_in row column) ≡ true
          → (b : Bool) → cond b (row_of (present (table_at state.tables work.table) key)) (committed_row state work.table key) ≡ Some row → Has (map (λ r. r.0) work.read) key
      by_written column predicate x box true e = found_present s work column predicate x earlier key row e box
      by_written column predicate x box false e = found_committed s work column predicate x key row e box

      by_way : (way : Way) → way_of m.ways state.tables work ≡ way → is_by_scan way ≡ false → Finds way row → AreSought state.searches s (session_at state.sessions s).number work way
          → Has (map (λ r. r.0) work.read) key
      by_way (by_key k) is scan finds sought =
          let same : k ≡ key = sym finds ∙ (view_stored s work.table key row view).1 in
          subst (λ keys. Has keys key) (sym sought ∙ all_sought work writes) (inl same)
      by_way (by_box column predicate) is scan finds sought =
          by_written column predicate (its_search s work at writes column predicate is sought) (box_satisfies predicate row column finds)
          (has_written (session_at state.sessions s) work.table key) view
      by_way by_scan is scan finds sought = absurd (false≢true (sym scan))
