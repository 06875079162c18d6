-- No number is settled, pending and dead at once, nor pending with two sessions.
use Rattle.std.proofs.Common.{◌≡◌, ◌⊎◌, ◌∙◌, ◌<◌, inl, inr, refl, sym, ap, subst, ℕ, ℤ, ◌==◌, ◌&&◌, ◌||◌, not, Bool, true, false, cond, Option, Some, None, List, [], ◌∷◌, ◌++◌, map, arith, eq-eqb}
use Rattle.std.specs.Prelude.{drop, filter, filter_map, flat_map, slice_set}
use Rattle.std.proofs.lemmas.Bool.{false≢true}
use Rattle.isp_base.specs.Lists.{Has}
use Rattle.isp_reclock.specs.Tables.{takes}
use Rattle.isp_plain.specs.declared.value.Row.{Row}
use Rattle.isp_plain.specs.declared.value.Schema.{Schema}
use Rattle.isp_forest.specs.Steps.{is_among}
use Rattle.isp_forest.specs.Place.{Division}
use Rattle.isp_laws.proofs.ListLaws.{Has-append, Has-filter, Has-map, Source}
use Rattle.isp_events.specs.Stored.{KeptRow, StoredTable, Version, change_table, indexed, kept_at, number_at, present, table_at}
use Rattle.isp_events.specs.Sessions.{How, by_placing, by_replacing, Change, EntryAt, Image, was_absent, was_there, was_marked, Note, SessionState, UndoEntry, session_at}
use Rattle.isp_events.specs.State.{State, Queued, dead_entry, dead_row}
use Rattle.isp_events.specs.Views.{first_image, first_image_of_all, has_written, version_in, version_or}
use Rattle.isp_events.specs.Ways.{Machine}
use Rattle.isp_events.specs.Next.{Descent}
use Rattle.isp_events.specs.Deadlocks.{with_victims}
use Rattle.isp_events.specs.Placing.{note_of, session_after_place, table_after_place, tree_after_place}
use Rattle.isp_events.specs.Writing.{numbers_of_new, replaced_in, replaced_note, replaced_notes, session_after_row, table_after_row, table_with_row}
use Rattle.isp_events.specs.Ending.{as_dead_row, dead_entries, dead_rows, has_number as has_live_number, is_live, new_table, noted_once, queued_by, restored, session_after_undo}
use Rattle.isp_events.specs.Purging.{may_leave, tables_purged}
use Rattle.isp_events.specs.Events.{Actor, Choice, MayHappen, after}
use Rattle.isp_order.specs.Trees.{HasNumber, HaveOneStatus, IsDead, IsPending, IsRestorable, IsSettled, LiesIn, StandsAt, committed_version, entry_of, placed_by, placed_in, queued_number, queued_numbers}
use Rattle.isp_order.specs.InOrder.{InOrder, IsProper}
use Rattle.isp_order.proofs.SessionLaws.{each_changed, none_has, not_same, other_at}
use Rattle.isp_order.proofs.TableLaws.{kept_of}
use Rattle.isp_causes.specs.Causes.{IsActive}
use Rattle.isp_causes.proofs.EventCases.{EachKeeps, event_keeps}
use Rattle.isp_order_trees.proofs.TreeParts.{change_leaves_trees, indexed_stay, new_from, same_indexed}
use Rattle.isp_order_trees.proofs.NoteParts.{in_noted, noted_in, set_relates, victims_leave}
use Rattle.isp_order_trees.proofs.WholeLaws.{after_row_leaves_trees, purged_row_leaves_trees}
use Rattle.isp_order_trees.proofs.MissedLaws.{FromUndo, IsKept, committed_from, image_from, present_kept}
use Rattle.isp_order_entries.proofs.RowParts.{earlier_if}
use Rattle.isp_order_entries.proofs.EnteredLaws.{not_dead}
use Rattle.isp_order_reads.proofs.RowFrames.{purged_present}
use Rattle.isp_order_status.proofs.LabelParts.{lies_given, one_place}
use Rattle.isp_order_one.proofs.ImageLaws.{all_set, all_victims, written_some}
use Rattle.isp_order_one.proofs.CommittedLaws.{committed_same, not_same_is, others_none, taken_once, undo_committed, written_committed}

-- ---- who placed, and what is queued

placed_note : (note : Note) (n : ℕ) → placed_in note.how note.entry.number ≡ Some n → note.entry.number ≡ n
placed_note note n h = one note.how h
  where
    one : (how : How) → placed_in how note.entry.number ≡ Some n → note.entry.number ≡ n
    one by_placing k = cc
    one by_replacing k = let no : ⊥ = cc in absurd no

pending_note : (sessions : List SessionState) (s n : ℕ) → IsPending sessions s n → (note : Note) × Has (session_at sessions s).notes note × (note.entry.number ≡ n)
pending_note sessions s n h =
    let r = noted_in (λ (note : Note). placed_in note.how note.entry.number) (session_at sessions s).notes n h in
    (r.0, r.1, placed_note r.0 n r.2)

queued_from : (queue : List Queued) (n : ℕ) → Has (queued_numbers queue) n → (e : EntryAt) × Has queue (dead_entry e) × (e.number ≡ n)
queued_from queue n h =
    let r = noted_in queued_number queue n h in
    one r.0 r.1 r.2
  where
    one : (q : Queued) → Has queue q → queued_number q ≡ Some n → (e : EntryAt) × Has queue (dead_entry e) × (e.number ≡ n)
    one (dead_entry e) there k = (e, there, cc)
    one (dead_row t key) there k = let no : ⊥ = cc in absurd no

in_queue : (queue : List Queued) (e : EntryAt) → Has queue (dead_entry e) → Has (queued_numbers queue) e.number
in_queue queue e h = in_noted queued_number queue (dead_entry e) e.number h refl

noted_from : (earlier : List ℕ) (notes : List Note) (e : EntryAt) → Has (noted_once earlier notes) e → (note : Note) × Has notes note × (note.entry ≡ e)
noted_from earlier [] e h = absurd h
noted_from earlier (note ∷ notes) e h = by_test (is_among earlier note.entry.number) h (λ z. noted_from earlier notes e z) (λ z. noted_from (note.entry.number ∷ earlier) notes e z)
  where
    later : (note' : Note) × Has notes note' × (note'.entry ≡ e) → (x : Note) × Has (note ∷ notes) x × (x.entry ≡ e)
    later r = (r.0, inr r.1, r.2)

    by_test : (b : Bool) → Has (cond b (noted_once earlier notes) (note.entry ∷ noted_once (note.entry.number ∷ earlier) notes)) e
        → (Has (noted_once earlier notes) e → (x : Note) × Has notes x × (x.entry ≡ e)) → (Has (noted_once (note.entry.number ∷ earlier) notes) e → (x : Note) × Has notes x × (x.entry ≡ e))
        → (x : Note) × Has (note ∷ notes) x × (x.entry ≡ e)
    by_test true z same new = later (same z)
    by_test false (inl is) same new = (note, inl refl, is)
    by_test false (inr z) same new = later (new z)

filter_passes : {Y : Type 0} (test : Y → Bool) (xs : List Y) (x : Y) → Has (filter test xs) x → test x ≡ true
filter_passes test [] x h = absurd h
filter_passes {Y = Y} test (y ∷ xs) x h = by_test (test y) refl (filter_passes test xs x) h
  where
    by_test : (b : Bool) → test y ≡ b → (Has (filter test xs) x → test x ≡ true) → Has (cond b (y ∷ filter test xs) (filter test xs)) x → test x ≡ true
    by_test true e again (inl k) = ap test (sym k) ∙ e
    by_test true e again (inr k) = again k
    by_test false e again k = again k

not_true : (b : Bool) → not b ≡ true → b ≡ false
not_true true h = absurd (false≢true h)
not_true false h = refl

-- ---- what a row's writing notes is no placing

replaced_how : (table : ℕ) (key : ℤ) (statement : ℕ) (row : Row) (column : ℕ) (number new : Option ℕ) (note : Note) → Has (replaced_in table key statement row column number new) note → note.how ≡ by_replacing
replaced_how table key statement row column None new note h = absurd h
replaced_how table key statement row column (Some n) None note (inl is) = ap (λ (x : Note). x.how) (sym is)
replaced_how table key statement row column (Some n) None note (inr none) = absurd none
replaced_how table key statement row column (Some n) (Some other) note h = by_test (n == other) h
  where
    by_test : (b : Bool) → Has (cond b [] (replaced_note table key statement row column n ∷ [])) note → note.how ≡ by_replacing
    by_test true z = absurd z
    by_test false (inl is) = ap (λ (x : Note). x.how) (sym is)
    by_test false (inr none) = absurd none

flat_from : (f : ℕ → List Note) (columns : List ℕ) (note : Note) → Has (flat_map f columns) note → (c : ℕ) × Has (f c) note
flat_from f [] note h = absurd h
flat_from f (c ∷ columns) note h = elim (Has-append (f c) (flat_map f columns) note h) [ inl here ↦ (c, here) | inr more ↦ flat_from f columns note more ]

notes_how : (number : ℕ) (change : Change) (statement : ℕ) (columns : List ℕ) (placed : List (ℕ × ℕ)) (o : Option KeptRow) (note : Note)
    → Has (replaced_notes number change statement columns placed o) note → note.how ≡ by_replacing
notes_how number change statement columns placed None note h = absurd h
notes_how number change statement columns placed (Some kept) note h = by_mark kept.mark h
  where
    by_mark : (b : Bool)
        → Has (cond b [] (flat_map (λ c. replaced_in number change.key statement kept.row c (number_at columns kept.numbers c) (number_at columns (numbers_of_new columns placed (Some kept) change.new) c)) columns)) note
        → note.how ≡ by_replacing
    by_mark true z = absurd z
    by_mark false z =
        let f = flat_from (λ c. replaced_in number change.key statement kept.row c (number_at columns kept.numbers c) (number_at columns (numbers_of_new columns placed (Some kept) change.new) c)) columns note z in
        replaced_how number change.key statement kept.row f.0 (number_at columns kept.numbers f.0) (number_at columns (numbers_of_new columns placed (Some kept) change.new) f.0) note f.1

row_pends : (table : StoredTable) (number : ℕ) (change : Change) (placed : List (ℕ × ℕ)) (pages : List ℕ) (session : SessionState) (n : ℕ)
    → Has (placed_by (session_after_row table number change placed pages session)) n → Has (placed_by session) n
row_pends table number change placed pages session n h =
    let more : List Note = replaced_notes number change session.number (indexed table) placed (kept_at table change.key) in
    let r = noted_in (λ (note : Note). placed_in note.how note.entry.number) (session.notes ++ more) n h in
    elim (Has-append session.notes more r.0 r.1) [
      | inl old ↦ in_noted (λ (note : Note). placed_in note.how note.entry.number) session.notes r.0 n old r.2
      | inr new ↦ (let how : r.0.how ≡ by_replacing = notes_how number change session.number (indexed table) placed (kept_at table change.key) r.0 new in
          let no : None ≡ Some n = ap (λ x. placed_in x r.0.entry.number) (sym how) ∙ r.2 in let f : ⊥ = cc in absurd f)
    ]

place_pends : (d : Descent) (number : ℕ) (session : SessionState) (n : ℕ) → Has (placed_by (session_after_place d number session)) n → Has (placed_by session) n ⊎ (number ≡ n)
place_pends d number session n h =
    let r = noted_in (λ (note : Note). placed_in note.how note.entry.number) (session.notes ++ note_of d number session.number ∷ []) n h in
    elim (Has-append session.notes (note_of d number session.number ∷ []) r.0 r.1) [
      | inl old ↦ inl (in_noted (λ (note : Note). placed_in note.how note.entry.number) session.notes r.0 n old r.2)
      | inr new ↦ elim new [ inl is ↦ inr (ap (λ (x : Note). x.entry.number) is ∙ placed_note r.0 n r.2) | inr none ↦ absurd none ]
    ]

-- ---- a live number

among_at : (columns numbers : List ℕ) (c n : ℕ) → number_at columns numbers c ≡ Some n → is_among numbers n ≡ true
among_at [] numbers c n h = let no : ⊥ = cc in absurd no
among_at (k ∷ columns) [] c n h = let no : ⊥ = cc in absurd no
among_at (k ∷ columns) (x ∷ numbers) c n h = by_test (k == c) h (λ z. among_at columns numbers c n z)
  where
    or_true : (b : Bool) → (b || true) ≡ true
    or_true true = refl
    or_true false = refl

    by_test : (b : Bool) → cond b (Some x) (number_at columns numbers c) ≡ Some n → (number_at columns numbers c ≡ Some n → is_among numbers n ≡ true) → is_among (x ∷ numbers) n ≡ true
    by_test true z again = let is : x ≡ n = cc in ap (λ b. b || is_among numbers n) (eq-eqb x n is)
    by_test false z again = ap (λ b. (x == n) || b) (again z) ∙ or_true (x == n)

live_at : (tables : List StoredTable) (t : ℕ) (k : ℤ) (v : Version) (c n : ℕ) (e : EntryAt) → StandsAt tables t k v → HasNumber tables t v c n → e.table ≡ t → e.key ≡ k → e.number ≡ n
    → is_live tables e ≡ true
live_at tables t k v c n e stands has same_table same_key same_number =
    let kept : IsKept (table_at tables t) k v = present_kept (table_at tables t) k v stands in
    let among : is_among kept.kept.numbers n ≡ true =
    among_at (indexed (table_at tables t)) kept.kept.numbers c n (subst (λ (w : Version). number_at (indexed (table_at tables t)) w.numbers c ≡ Some n) (sym kept.is) has) in
    ap (λ i. has_live_number (kept_at (table_at tables i) e.key) e.number) same_table
    ∙ ap (λ i. has_live_number (kept_at (table_at tables t) i) e.number) same_key
    ∙ ap (λ i. has_live_number (kept_at (table_at tables t) k) i) same_number
    ∙ ap (λ x. has_live_number x n) kept.there
    ∙ ap (λ b. not b && is_among kept.kept.numbers n) kept.unmarked
    ∙ among

module _ (m : Machine) (state : State) (o : InOrder m state) where
  -- ---- what is settled or pending lies on its leaf

  settled_lies : (t c : ℕ) (k : ℤ) (n : ℕ) (i : IsSettled state.tables state.sessions t c k n) → LiesIn state.tables (entry_of t k i.version c n)
  settled_lies t c k n i = elim (committed_from state.tables state.sessions t k i.version i.committed) [
    | inl stands ↦ o.entered.rows t k i.version stands c n i.has
    | inr u ↦ subst (λ a. LiesIn state.tables (entry_of a k i.version c n)) u.of_table
        (subst (λ a. LiesIn state.tables (entry_of u.undo.table a i.version c n)) u.of_key
        (o.entered.images u.s u.undo i.version (u.has, u.is) c n (subst (λ a. HasNumber state.tables a i.version c n) (sym u.of_table) i.has)))
  ]

  -- ---- where nothing gets another status

  stay : (tables : List StoredTable) (sessions : List SessionState) (queue : List Queued)
      → ((t c : ℕ) (k : ℤ) (n : ℕ) → IsSettled tables sessions t c k n → IsSettled state.tables state.sessions t c k n)
      → ((s n : ℕ) → IsPending sessions s n → IsPending state.sessions s n)
      → ((n : ℕ) → IsDead queue n → IsDead state.queue n) → HaveOneStatus tables sessions queue
  stay tables sessions queue settled pending dead = record {
    settled_alive = λ t c k n i d. o.one_status.settled_alive t c k n (settled t c k n i) (dead n d);
    settled_done = λ t c k n s i p. o.one_status.settled_done t c k n s (settled t c k n i) (pending s n p);
    pending_alive = λ n s p d. o.one_status.pending_alive n s (pending s n p) (dead n d);
    pending_once = λ n s j p q. o.one_status.pending_once n s j (pending s n p) (pending j n q);
  }

  settled_before : (tables : List StoredTable) (sessions : List SessionState) → ((t : ℕ) (k : ℤ) → committed_version tables sessions t k ≡ committed_version state.tables state.sessions t k)
      → ((t : ℕ) → indexed (table_at tables t) ≡ indexed (table_at state.tables t)) → (t c : ℕ) (k : ℤ) (n : ℕ)
      → IsSettled tables sessions t c k n → IsSettled state.tables state.sessions t c k n
  settled_before tables sessions same columns t c k n i = record {
    version = i.version;
    committed = sym (same t k) ∙ i.committed;
    has = subst (λ cs. number_at cs i.version.numbers c ≡ Some n) (columns t) i.has;
  }

  pending_set : (s : ℕ) (new : SessionState) → ((n : ℕ) → Has (placed_by new) n → Has (placed_by (session_at state.sessions s)) n)
      → (j n : ℕ) → IsPending (slice_set state.sessions s new) j n → IsPending state.sessions j n
  pending_set s new h j n p = set_relates (λ x y. ((i : ℕ) → Has (placed_by y) i → Has (placed_by x) i)) (λ x i z. z) state.sessions s new h j n p

  -- a session that notes and undoes nothing
  unchanged : (s : ℕ) (new : SessionState) → new.undo ≡ (session_at state.sessions s).undo → new.notes ≡ (session_at state.sessions s).notes
      → HaveOneStatus state.tables (slice_set state.sessions s new) state.queue
  unchanged s new undo notes = stay state.tables (slice_set state.sessions s new) state.queue
      (settled_before state.tables (slice_set state.sessions s new)
      (λ t k. committed_same state.tables state.tables state.sessions (slice_set state.sessions s new) t k (all_set state.sessions s new t k (ap (λ (us : List UndoEntry). first_image us t k) undo)) refl) (λ t. refl))
      (pending_set s new (λ n h. subst (λ (list : List Note). Has (filter_map (λ (note : Note). placed_in note.how note.entry.number) list) n) notes h)) (λ n d. d)

  -- ---- purges

  pub purged_columns : (q : List Queued) (t : ℕ) → indexed (table_at (tables_purged state.locks q state.tables) t) ≡ indexed (table_at state.tables t)
  purged_columns [] t = refl
  purged_columns (dead_entry e ∷ q) t = indexed_stay e.table e.column _ state.tables t
  purged_columns (dead_row number key ∷ q) t = same_indexed state.tables _ (purged_row_leaves_trees (may_leave state.locks (table_at state.tables number) number key) number key state.tables) t

  purge_status : (queue : List Queued) → state.queue ≡ queue → HaveOneStatus (tables_purged state.locks queue state.tables) state.sessions (drop 1 queue)
  purge_status queue is = stay (tables_purged state.locks queue state.tables) state.sessions (drop 1 queue)
      (settled_before (tables_purged state.locks queue state.tables) state.sessions
      (λ t k. committed_same state.tables (tables_purged state.locks queue state.tables) state.sessions state.sessions t k refl (purged_present state.locks queue state.tables t k)) (purged_columns queue))
      (λ s n p. p) (λ n d. subst (λ (list : List Queued). Has (queued_numbers list) n) (sym is) (fewer queue n d))
    where
      fewer : (q : List Queued) (n : ℕ) → Has (queued_numbers (drop 1 q)) n → Has (queued_numbers q) n
      fewer [] n h = h
      fewer (dead_entry e ∷ q) n h = inr h
      fewer (dead_row number key ∷ q) n h = h

  -- ---- an entry is placed

  place_status : (s : ℕ) (d : Descent) (q : ℕ) (ds : List Division) → IsActive state s
      → HaveOneStatus (change_table d.table (table_after_place d state.entries q ds) state.tables) (slice_set state.sessions s (session_after_place d state.entries (session_at state.sessions s))) state.queue
  place_status s d q ds active = record {
    settled_alive = λ t c k n i. o.one_status.settled_alive t c k n (settled t c k n i);
    settled_done = λ t c k n j i p. elim (pending j n p) [
      | inl old ↦ o.one_status.settled_done t c k n j (settled t c k n i) old
      | inr new ↦ unsettled t c k n (settled t c k n i) new.0
    ];
    pending_alive = λ n j p dead. elim (pending j n p) [ inl old ↦ o.one_status.pending_alive n j old dead | inr new ↦ alive n dead new.0 ];
    pending_once = λ n j i p r. elim (pending j n p) [
      | inl old ↦ elim (pending i n r) [ inl other ↦ o.one_status.pending_once n j i old other | inr new ↦ absurd (unplaced j n old new.0) ]
      | inr new ↦ elim (pending i n r) [ inl other ↦ absurd (unplaced i n other new.0) | inr too ↦ new.1 ∙ sym too.1 ]
    ];
  }
    where
      then : List StoredTable
      then = change_table d.table (table_after_place d state.entries q ds) state.tables

      session_then : SessionState
      session_then = session_after_place d state.entries (session_at state.sessions s)

      settled : (t c : ℕ) (k : ℤ) (n : ℕ) → IsSettled then (slice_set state.sessions s session_then) t c k n → IsSettled state.tables state.sessions t c k n
      settled t c k n i = settled_before then (slice_set state.sessions s session_then)
          (λ a b. committed_same state.tables then state.sessions (slice_set state.sessions s session_then) a b (all_set state.sessions s session_then a b refl)
          (kept_of (λ (x : StoredTable). present x b) d.table a (table_after_place d state.entries q ds) state.tables refl))
          (indexed_stay d.table d.column (tree_after_place d state.entries q ds) state.tables) t c k n i

      pending : (j n : ℕ) → IsPending (slice_set state.sessions s session_then) j n → IsPending state.sessions j n ⊎ ((state.entries ≡ n) × (j ≡ s))
      pending j n p = each_changed (λ i x. (Has (placed_by x) n → IsPending state.sessions i n ⊎ ((state.entries ≡ n) × (i ≡ s)))) state.sessions s session_then active.not_over
          (λ h. elim (place_pends d state.entries (session_at state.sessions s) n h) [ inl old ↦ inl old | inr new ↦ inr (new, refl) ]) (λ i ne h. inl h) j p

      given : (e : EntryAt) (n : ℕ) → LiesIn state.tables e → e.number ≡ n → state.entries ≡ n → ⊥
      given e n lies is new = let below : e.number < state.entries = lies_given state.tables state.entries o.numbered e lies in omega (arith, below, is, new)

      unsettled : (t c : ℕ) (k : ℤ) (n : ℕ) → IsSettled state.tables state.sessions t c k n → state.entries ≡ n → ⊥
      unsettled t c k n i new = given (entry_of t k i.version c n) n (settled_lies t c k n i) refl new

      alive : (n : ℕ) → IsDead state.queue n → state.entries ≡ n → ⊥
      alive n dead new = let f = queued_from state.queue n dead in given f.0 n (o.noted.queued f.0 f.1) f.2 new

      unplaced : (j n : ℕ) → IsPending state.sessions j n → state.entries ≡ n → ⊥
      unplaced j n p new = let f = pending_note state.sessions j n p in given f.0.entry n (o.noted.notes j f.0 f.1) f.2 new

  -- ---- the end of a transaction

  module _ (s : ℕ) (later : List StoredTable) (stood : (t : ℕ) (k : ℤ) (v : Version) → StandsAt later t k v → table_at later t ≡ table_at state.tables t)
      (named : (j : ℕ) (u : UndoEntry) → Has (session_at state.sessions j).undo u → table_at later u.table ≡ table_at state.tables u.table)
      (new : SessionState) (no_undo : new.undo ≡ []) (no_notes : new.notes ≡ []) (active : IsActive state s) where
    abbrev mine : SessionState
    mine = session_at state.sessions s

    abbrev then : List SessionState
    then = slice_set state.sessions s new

    abbrev queue_then : List Queued
    queue_then = state.queue ++ queued_by later mine

    -- what is pending is another session's
    pending_other : (j n : ℕ) → IsPending then j n → IsPending state.sessions j n × (j ≡ s → ⊥)
    pending_other j n p = each_changed (λ i x. (Has (placed_by x) n → IsPending state.sessions i n × (i ≡ s → ⊥))) state.sessions s new active.not_over
        (λ h. absurd (subst (λ (list : List Note). Has (filter_map (λ (note : Note). placed_in note.how note.entry.number) list) n) no_notes h)) (λ i ne h. (h, not_same i s ne)) j p

    undo_other : (j : ℕ) (u : UndoEntry) → Has (session_at then j).undo u → Has (session_at state.sessions j).undo u × (j ≡ s → ⊥)
    undo_other j u h = each_changed (λ i x. (Has x.undo u → Has (session_at state.sessions i).undo u × (i ≡ s → ⊥))) state.sessions s new active.not_over
        (λ z. absurd (none_has new.undo u no_undo z)) (λ i ne z. (z, not_same i s ne)) j h

    -- what is dead then was before, or was noted by the session and isn't live
    record Dropped (n : ℕ) : Type 0 where
      note : Note
      has : Has (session_at state.sessions s).notes note
      number : note.entry.number ≡ n
      not_live : is_live later note.entry ≡ false

    dead_then : (n : ℕ) → IsDead queue_then n → IsDead state.queue n ⊎ Dropped n
    dead_then n h =
        let q = queued_from queue_then n h in
        elim (Has-append state.queue (queued_by later mine) (dead_entry q.0) q.1) [
          | inl old ↦ inl (subst (λ i. Has (queued_numbers state.queue) i) q.2 (in_queue state.queue q.0 old))
          | inr joined ↦ elim (Has-append (map dead_entry (dead_entries later mine.notes)) (map as_dead_row (dead_rows later mine.written)) (dead_entry q.0) joined) [
            | inl k ↦ (let r : Source dead_entry (dead_entries later mine.notes) (dead_entry q.0) = Has-map dead_entry (dead_entries later mine.notes) (dead_entry q.0) k in inr (dropped q.0 r.x q.2 r.is r.has))
            | inr k ↦ (let r : Source as_dead_row (dead_rows later mine.written) (dead_entry q.0) = Has-map as_dead_row (dead_rows later mine.written) (dead_entry q.0) k in absurd (no_row r.x q.0 r.is))
          ]
        ]
      where
        no_row : (w : ℕ × ℤ) (x : EntryAt) → as_dead_row w ≡ dead_entry x → ⊥
        no_row w x e = cc

        entry_is : (a b : EntryAt) → dead_entry a ≡ dead_entry b → a ≡ b
        entry_is a b e = cc

        dropped : (e x : EntryAt) → e.number ≡ n → dead_entry x ≡ dead_entry e → Has (dead_entries later (session_at state.sessions s).notes) x → Dropped n
        dropped e x number is h =
            let f = noted_from [] (session_at state.sessions s).notes x (Has-filter (λ (y : EntryAt). not (is_live later y)) (noted_once [] (session_at state.sessions s).notes) x h) in
            let gone : is_live later x ≡ false = not_true (is_live later x) (filter_passes (λ (y : EntryAt). not (is_live later y)) (noted_once [] (session_at state.sessions s).notes) x h) in
            record {
              note = f.0;
              has = f.1;
              number = ap (λ (y : EntryAt). y.number) (f.2 ∙ entry_is x e is) ∙ number;
              not_live = ap (is_live later) f.2 ∙ gone;
            }

    -- what is settled then stands there, and nobody has written it; or it was settled, and is another session's
    record StandsThere (t c : ℕ) (k : ℤ) (n : ℕ) : Type 0 where
      version : Version
      now : StandsAt later t k version
      has_now : HasNumber later t version c n
      before : StandsAt state.tables t k version
      has : HasNumber state.tables t version c n
      none : first_image_of_all (slice_set state.sessions s new) t k ≡ None

    record IsOthers (t c : ℕ) (k : ℤ) (n : ℕ) : Type 0 where
      settled : IsSettled state.tables state.sessions t c k n
      session : ℕ
      other : session ≡ s → ⊥
      taken : takes state.locks t k session ≡ true

    settled_then : (t c : ℕ) (k : ℤ) (n : ℕ) → IsSettled later then t c k n → StandsThere t c k n ⊎ IsOthers t c k n
    settled_then t c k n i = by_image (first_image_of_all then t k) refl i.committed
      where
        there : (image : Image) → version_in image ≡ Some i.version → image ≡ was_there i.version
        there was_absent z = let no : ⊥ = cc in absurd no
        there (was_there v) z = let same : v ≡ i.version = cc in ap was_there same
        there (was_marked v) z = let no : ⊥ = cc in absurd no

        of_other : (image : Image) → first_image_of_all (slice_set state.sessions s new) t k ≡ Some image → version_in image ≡ Some i.version
            → FromUndo (slice_set state.sessions s new) t k image → IsOthers t c k n
        of_other image e z u =
            let was = undo_other u.s u.undo u.has in
            let at : table_at later t ≡ table_at state.tables t = subst (λ a. table_at later a ≡ table_at state.tables a) u.of_table (named u.s u.undo was.0) in
            let taken : takes state.locks t k u.s ≡ true =
            subst (λ a. takes state.locks a k u.s ≡ true) u.of_table (subst (λ a. takes state.locks u.undo.table a u.s ≡ true) u.of_key (o.written_locked.undone u.s u.undo was.0)) in
            let mine_none : first_image (session_at state.sessions s).undo t k ≡ None = others_none m state o u.s t k taken s (λ is. was.1 (sym is)) in
            let same : first_image_of_all (slice_set state.sessions s new) t k ≡ first_image_of_all state.sessions t k =
            all_set state.sessions s new t k (ap (λ (us : List UndoEntry). first_image us t k) no_undo ∙ sym mine_none) in
            record {
              settled = record {
                version = i.version;
                committed = ap (λ x. version_or x (present (table_at state.tables t) k)) (sym same ∙ e) ∙ z;
                has = subst (λ (x : StoredTable). number_at (indexed x) i.version.numbers c ≡ Some n) at i.has;
              };
              session = u.s;
              other = was.1;
              taken = taken;
            }

        by_image : (x : Option Image) → first_image_of_all (slice_set state.sessions s new) t k ≡ x → version_or x (present (table_at later t) k) ≡ Some i.version → StandsThere t c k n ⊎ IsOthers t c k n
        by_image None e z =
            let at : table_at later t ≡ table_at state.tables t = stood t k i.version z in
            inl (record {
              version = i.version;
              now = z;
              has_now = i.has;
              before = ap (λ (x : StoredTable). present x k) (sym at) ∙ z;
              has = subst (λ (x : StoredTable). number_at (indexed x) i.version.numbers c ≡ Some n) at i.has;
              none = e;
            })
        by_image (Some image) e z = inr (of_other image e z (image_from (slice_set state.sessions s new) t k image e))

    -- an entry that the session noted, at a key that another took
    apart : (n : ℕ) (f : Dropped n) (e : EntryAt) (j : ℕ) → LiesIn state.tables e → e.number ≡ n → (j ≡ s → ⊥) → takes state.locks e.table e.key j ≡ true → ⊥
    apart n f e j lies number ne taken =
        let place = one_place state.tables state.entries o.numbered e f.note.entry lies (o.noted.notes s f.note f.has) (number ∙ sym f.number) in
        let mine_too : takes state.locks e.table e.key s ≡ true =
        subst (λ a. takes state.locks a e.key s ≡ true) (sym place.0) (subst (λ a. takes state.locks f.note.entry.table a s ≡ true) (sym place.1) (o.written_locked.noted s f.note f.has)) in
        taken_once m state o e.table e.key j s taken mine_too (not_same_is j s ne)

    ended_status : HaveOneStatus later then queue_then
    ended_status = record {
      settled_alive = λ t c k n i d. elim (settled_then t c k n i) [
        | inl x ↦ elim (dead_then n d) [
          | inl old ↦ not_dead m state o t k x.version (o.named.rows t k x.version x.before) c n x.has old
          | inr f ↦ live t c k n x f
        ]
        | inr x ↦ elim (dead_then n d) [
          | inl old ↦ o.one_status.settled_alive t c k n x.settled old
          | inr f ↦ apart n f (entry_of t k x.settled.version c n) x.session (settled_lies t c k n x.settled) refl x.other x.taken
        ]
      ];
      settled_done = λ t c k n j i p. (let was = pending_other j n p in elim (settled_then t c k n i) [
        | inl x ↦ elim (o.named.rows t k x.version x.before c n x.has) [
          | inl settled ↦ o.one_status.settled_done t c k n j settled was.0
          | inr own ↦ written t k x.none j was.1 (subst (λ a. has_written (session_at state.sessions a) t k ≡ true) (o.one_status.pending_once n own.session j own.pending was.0) own.writes)
        ]
        | inr x ↦ o.one_status.settled_done t c k n j x.settled was.0
      ]);
      pending_alive = λ n j p d. (let was = pending_other j n p in elim (dead_then n d) [
        | inl old ↦ o.one_status.pending_alive n j was.0 old
        | inr f ↦ (let r = pending_note state.sessions j n was.0 in apart n f r.0.entry j (o.noted.notes j r.0 r.1) r.2 was.1 (o.written_locked.noted j r.0 r.1))
      ]);
      pending_once = λ n j i p q. o.one_status.pending_once n j i (pending_other j n p).0 (pending_other i n q).0;
    }
      where
        live : (t c : ℕ) (k : ℤ) (n : ℕ) → StandsThere t c k n → Dropped n → ⊥
        live t c k n x f =
            let lies : LiesIn state.tables (entry_of t k x.version c n) = o.entered.rows t k x.version x.before c n x.has in
            let place = one_place state.tables state.entries o.numbered f.note.entry (entry_of t k x.version c n) (o.noted.notes s f.note f.has) lies f.number in
            let yes : is_live later f.note.entry ≡ true = live_at later t k x.version c n f.note.entry x.now x.has_now place.0 place.1 f.number in
            false≢true (sym f.not_live ∙ yes)

        written : (t : ℕ) (k : ℤ) → first_image_of_all (slice_set state.sessions s new) t k ≡ None → (j : ℕ) → (j ≡ s → ⊥) → has_written (session_at state.sessions j) t k ≡ true → ⊥
        written t k none j ne h =
            written_some (slice_set state.sessions s new) j t k (ap (λ (x : SessionState). has_written x t k) (other_at state.sessions s j new (not_same_is j s ne)) ∙ h) none

  -- ---- a table is made

  pub created_stood : (name : List ℕ) (schema : Schema) (leaf : ℕ) (roots : List ℕ) (t : ℕ) (k : ℤ) (v : Version) → StandsAt (state.tables ++ new_table name schema leaf roots ∷ []) t k v
      → table_at (state.tables ++ new_table name schema leaf roots ∷ []) t ≡ table_at state.tables t
  created_stood name schema leaf roots t k v stands = elim (new_from 1 t (new_table name schema leaf roots) state.tables) [
    | inl was ↦ was
    | inr new ↦ (let no : None ≡ Some v = ap (λ (x : StoredTable). present x k) (sym new) ∙ stands in let f : ⊥ = cc in absurd f)
  ]

  pub created_named : (new : StoredTable) (j : ℕ) (u : UndoEntry) → Has (session_at state.sessions j).undo u → table_at (state.tables ++ new ∷ []) u.table ≡ table_at state.tables u.table
  created_named new j u h =
      let r : IsRestorable state.tables (session_at state.sessions j) u = o.restorable j u h in
      earlier_if (λ (x : StoredTable). kept_at x u.key ≡ Some r.kept) (λ z. cc) 1 u.table new state.tables r.there

pub one_status_kept : (m : Machine) (state : State) (actor : Actor) (choice : Choice) → IsProper m → InOrder m state → MayHappen m state actor choice
    → HaveOneStatus (after m state actor choice).tables (after m state actor choice).sessions (after m state actor choice).queue
one_status_kept m state actor choice good o h = event_keeps m state good o (λ (st : State). HaveOneStatus st.tables st.sessions st.queue) each actor choice h
  where
    each : EachKeeps m state (λ (st : State). HaveOneStatus st.tables st.sessions st.queue)
    each = record {
      still = o.one_status;
      purge = λ some. purge_status m state o state.queue refl;
      end = λ s over active. ended_status m state o s state.tables (λ t k v z. refl) (λ j u z. refl) _ refl refl active;
      answer = λ s reply active at. unchanged m state o s _ refl refl;
      undo = λ s entry more active at. stay m state o _ _ state.queue
          (settled_before m state o (change_table entry.table (table_with_row entry.key (restored entry.image)) state.tables) (slice_set state.sessions s (session_after_undo more (session_at state.sessions s)))
          (undo_committed m state o s entry more active at)
          (same_indexed state.tables _ (change_leaves_trees entry.table (table_with_row entry.key (restored entry.image)) state.tables (λ x. refl))))
          (pending_set m state o s (session_after_undo more (session_at state.sessions s)) (λ n z. z)) (λ n z. z);
      create = λ s over name schema leaf roots active at may. ended_status m state o s (state.tables ++ new_table name schema leaf roots ∷ [])
          (created_stood m state o name schema leaf roots) (created_named m state o (new_table name schema leaf roots)) _ refl refl active;
      refuse = λ s on ds active at may. stay m state o state.tables (with_victims state.sessions ds) state.queue
          (settled_before m state o state.tables (with_victims state.sessions ds)
          (λ t k. committed_same state.tables state.tables state.sessions (with_victims state.sessions ds) t k (all_victims state.sessions ds t k) refl) (λ t. refl))
          (λ j n z. subst (λ (list : List ℕ). Has list n) (victims_leave placed_by (λ x. refl) state.sessions ds j) z) (λ n z. z);
      lock_table = λ s statement number mode active at none. unchanged m state o s _ refl refl;
      lock_key = λ s number key mode active at none. unchanged m state o s _ refl refl;
      lock_row = λ s number key mode active at none. unchanged m state o s _ refl refl;
      visit = λ s number column predicate active at. unchanged m state o s _ refl refl;
      scan = λ s number leaf active at. unchanged m state o s _ refl refl;
      step = λ s d q active at may. unchanged m state o s _ refl refl;
      stale = λ s d active at. unchanged m state o s _ refl refl;
      full = λ s active at. unchanged m state o s _ refl refl;
      place = λ s d q ds active at may. place_status m state o s d q ds active;
      row = λ s number change placed p active at may. stay m state o _ _ state.queue
          (settled_before m state o (change_table number (table_after_row p change placed change.new) state.tables)
          (slice_set state.sessions s (session_after_row (table_at state.tables number) number change placed p.undo (session_at state.sessions s)))
          (written_committed m state o s number change placed p active at may)
          (same_indexed state.tables _ (change_leaves_trees number (table_after_row p change placed change.new) state.tables (λ x. after_row_leaves_trees p change placed change.new x))))
          (pending_set m state o s (session_after_row (table_at state.tables number) number change placed p.undo (session_at state.sessions s))
          (row_pends (table_at state.tables number) number change placed p.undo (session_at state.sessions s))) (λ n z. z);
    }
