-- What is noted and what is queued lies on its leaf; an entry is placed once and queued once, and then noted no more.
use Rattle.std.proofs.Common.{◌≡◌, ◌⊎◌, ◌∙◌, ◌+◌, ◌≤◌, ◌<◌, inl, inr, refl, sym, ap, subst, ℕ, ℤ, zero, suc, ◌==◌, not, Bool, true, false, cond, Option, Some, None, List, [], ◌∷◌, ◌++◌, map, arith, eqb-true, ◌||◌}
use Rattle.std.specs.Prelude.{drop, filter, filter_map, flat_map, slice_set}
use Rattle.std.specs.List.{cons_option}
use Rattle.std.proofs.lemmas.Bool.{false≢true}
use Rattle.std.proofs.lemmas.List.Elements.{filter_map-append}
use Rattle.isp_base.specs.Lists.{Has, times}
use Rattle.isp_reclock.specs.declared.modes.Mode.TheVariants.{IX, X}
use Rattle.isp_reclock.specs.Tables.{takes}
use Rattle.isp_plain.specs.declared.value.Row.{Row}
use Rattle.isp_forest.specs.Tree.{Tree}
use Rattle.isp_forest.specs.Steps.{is_among}
use Rattle.isp_forest.specs.Place.{Division}
use Rattle.isp_searches.specs.SearchLaws.{IsOnLeaf}
use Rattle.isp_laws.proofs.ListLaws.{Has-append, Has-filter, Has-map, Has-times, Source, times-Has, times-append, times-same}
use Rattle.isp_leaf_laws.proofs.LeafLaws.{place_on_leaves, remove_on_leaves}
use Rattle.isp_events.specs.Stored.{KeptRow, StoredTable, change_table, indexed, kept_at, number_at, table_at, tree_of}
use Rattle.isp_events.specs.Sessions.{How, by_placing, by_replacing, Change, EntryAt, Note, SessionState, session_at}
use Rattle.isp_events.specs.State.{State, Queued, dead_entry, dead_row}
use Rattle.isp_events.specs.Ways.{Machine}
use Rattle.isp_events.specs.Next.{Descent}
use Rattle.isp_events.specs.Deadlocks.{Deadlock, as_victim, with_victims}
use Rattle.isp_events.specs.Placing.{MayPlaceEntry, note_of, session_after_place, table_after_place, tree_after_place, tree_for}
use Rattle.isp_events.specs.Writing.{Put, numbers_of_new, replaced_in, replaced_note, replaced_notes, session_after_row, table_after_row}
use Rattle.isp_events.specs.Ending.{as_dead_row, dead_entries, dead_rows, is_live, new_table, noted_once, queued_by}
use Rattle.isp_events.specs.Purging.{may_leave, table_without, table_without_entry, tables_purged, without_entry}
use Rattle.isp_events.specs.Events.{Actor, Choice, MayHappen, after}
use Rattle.isp_order.specs.Trees.{AreNoted, LiesIn, StandsAt, entry_of, leaf_entry, placed_by, placed_in, queued_number, queued_numbers, version_kept}
use Rattle.isp_order.specs.InOrder.{InOrder, IsProper}
use Rattle.isp_order.proofs.SessionLaws.{other_at, same_at, seated}
use Rattle.isp_order_locks.proofs.LockLists.{takes_cases}
use Rattle.isp_causes.specs.Causes.{IsActive, IsPlacing}
use Rattle.isp_causes.proofs.EventCases.{EachKeeps, event_keeps}
use Rattle.isp_order_trees.proofs.TreeParts.{SameTrees, change_leaves_trees, tree_here}
use Rattle.isp_order_trees.proofs.NoteParts.{in_noted, noted_in, set_relates, victims_leave}
use Rattle.isp_order_trees.proofs.WholeLaws.{after_row_leaves_trees, placing_box, placing_stands, purged_row_leaves_trees}
use Rattle.isp_order_trees.proofs.CoveredLaws.{placing_column, placing_whole}
use Rattle.isp_order_entries.proofs.RowParts.{lies_earlier, lies_same, lies_with}
use Rattle.isp_order_entries.proofs.EnteredLaws.{not_dead, stands_of_kept}
use Rattle.isp_order_status.proofs.LabelParts.{lies_given, one_place}

-- ---- who placed what

abbrev placed_all : List SessionState → List ℕ
placed_all sessions = flat_map placed_by sessions

placed_bound : (sessions : List SessionState) (s : ℕ) (new : SessionState) (n extra : ℕ) → times n (placed_by new) ≤ times n (placed_by (session_at sessions s)) + extra
    → times n (placed_all (slice_set sessions s new)) ≤ times n (placed_all sessions) + extra
placed_bound [] s new n extra h = omega arith
placed_bound (x ∷ sessions) zero new n extra h =
    omega (arith, h, times-append n (placed_by new) (placed_all sessions), times-append n (placed_by x) (placed_all sessions))
placed_bound (x ∷ sessions) (suc s) new n extra h =
    omega (arith, placed_bound sessions s new n extra h, times-append n (placed_by x) (placed_all (slice_set sessions s new)), times-append n (placed_by x) (placed_all sessions))

victims_bound : (sessions : List SessionState) (ds : List Deadlock) (n : ℕ) → times n (placed_all (with_victims sessions ds)) ≤ times n (placed_all sessions)
victims_bound sessions [] n = omega arith
victims_bound sessions (d ∷ ds) n =
    let one : times n (placed_all (slice_set sessions d.victim (as_victim (session_at sessions d.victim)))) ≤ times n (placed_all sessions) + 0 =
    placed_bound sessions d.victim (as_victim (session_at sessions d.victim)) n 0 (omega arith) in
    omega (arith, one, victims_bound (slice_set sessions d.victim (as_victim (session_at sessions d.victim))) ds n)

placed_note : (note : Note) (n : ℕ) → placed_in note.how note.entry.number ≡ Some n → note.entry.number ≡ n
placed_note note n h = one note.how h
  where
    one : (how : How) → placed_in how note.entry.number ≡ Some n → note.entry.number ≡ n
    one by_placing k = cc
    one by_replacing k = let no : ⊥ = cc in absurd no

placed_from : (sessions : List SessionState) (n : ℕ) → Has (placed_all sessions) n → (s : ℕ) × (note : Note) × Has (session_at sessions s).notes note × (note.entry.number ≡ n)
placed_from [] n h = absurd h
placed_from (x ∷ sessions) n h = elim (Has-append (placed_by x) (placed_all sessions) n h) [
  | inl here ↦ (let r = noted_in (λ (note : Note). placed_in note.how note.entry.number) x.notes n here in (0, r.0, r.1, placed_note r.0 n r.2))
  | inr more ↦ (let r = placed_from sessions n more in (suc r.0, r.1, r.2, r.3))
]

-- ---- what is queued

queued_from : (queue : List Queued) (n : ℕ) → Has (queued_numbers queue) n → (e : EntryAt) × Has queue (dead_entry e) × (e.number ≡ n)
queued_from queue n h =
    let r = noted_in queued_number queue n h in
    one r.0 r.1 r.2
  where
    one : (q : Queued) → Has queue q → queued_number q ≡ Some n → (e : EntryAt) × Has queue (dead_entry e) × (e.number ≡ n)
    one (dead_entry e) there k = (e, there, cc)
    one (dead_row t key) there k = let no : ⊥ = cc in absurd no

in_queue : (queue : List Queued) (e : EntryAt) → Has queue (dead_entry e) → Has (queued_numbers queue) e.number
in_queue queue e h = in_noted queued_number queue (dead_entry e) e.number h refl

entries_numbers : (es : List EntryAt) → queued_numbers (map dead_entry es) ≡ map (λ (e : EntryAt). e.number) es
entries_numbers [] = refl
entries_numbers (e ∷ es) = ap (λ ns. e.number ∷ ns) (entries_numbers es)

rows_numbers : (ws : List (ℕ × ℤ)) → queued_numbers (map as_dead_row ws) ≡ []
rows_numbers [] = refl
rows_numbers (w ∷ ws) = rows_numbers ws

-- each number of those noted once
once_noted : (earlier : List ℕ) (notes : List Note) (n : ℕ) → times n (map (λ (e : EntryAt). e.number) (noted_once earlier notes)) + cond (is_among earlier n) 1 0 ≤ 1
once_noted earlier [] n = one (is_among earlier n)
  where
    one : (b : Bool) → 0 + cond b 1 0 ≤ 1
    one true = omega arith
    one false = omega arith
once_noted earlier (note ∷ notes) n = by_test (is_among earlier note.entry.number) refl (once_noted earlier notes n) (once_noted (note.entry.number ∷ earlier) notes n)
  where
    fresh : (b c : Bool) (k : ℕ) → (note.entry.number == n) ≡ b → (b ≡ true → c ≡ false) → k + cond (b || c) 1 0 ≤ 1 → (cond b 1 0 + k) + cond c 1 0 ≤ 1
    fresh true c k e f h = let none : ◌≡◌ {A = ℕ} (cond c 1 0) 0 = ap (λ z. cond z 1 0) (f refl) in omega (arith, none, h)
    fresh false c k e f h = omega (arith, h)

    by_test : (b : Bool) → is_among earlier note.entry.number ≡ b → times n (map (λ (e : EntryAt). e.number) (noted_once earlier notes)) + cond (is_among earlier n) 1 0 ≤ 1
        → times n (map (λ (e : EntryAt). e.number) (noted_once (note.entry.number ∷ earlier) notes)) + cond (is_among (note.entry.number ∷ earlier) n) 1 0 ≤ 1
        → times n (map (λ (e : EntryAt). e.number) (cond b (noted_once earlier notes) (note.entry ∷ noted_once (note.entry.number ∷ earlier) notes))) + cond (is_among earlier n) 1 0 ≤ 1
    by_test true e same new = same
    by_test false e same new = fresh (note.entry.number == n) (is_among earlier n) (times n (map (λ (x : EntryAt). x.number) (noted_once (note.entry.number ∷ earlier) notes))) refl
        (λ t. ap (is_among earlier) (sym (eqb-true note.entry.number n t)) ∙ e) new

noted_from : (earlier : List ℕ) (notes : List Note) (e : EntryAt) → Has (noted_once earlier notes) e → (note : Note) × Has notes note × (note.entry ≡ e)
noted_from earlier [] e h = absurd h
noted_from earlier (note ∷ notes) e h = by_test (is_among earlier note.entry.number) h (λ z. noted_from earlier notes e z) (λ z. noted_from (note.entry.number ∷ earlier) notes e z)
  where
    later : (note' : Note) × Has notes note' × (note'.entry ≡ e) → (x : Note) × Has (note ∷ notes) x × (x.entry ≡ e)
    later r = (r.0, inr r.1, r.2)

    by_test : (b : Bool) → Has (cond b (noted_once earlier notes) (note.entry ∷ noted_once (note.entry.number ∷ earlier) notes)) e
        → (Has (noted_once earlier notes) e → (x : Note) × Has notes x × (x.entry ≡ e)) → (Has (noted_once (note.entry.number ∷ earlier) notes) e → (x : Note) × Has notes x × (x.entry ≡ e))
        → (x : Note) × Has (note ∷ notes) x × (x.entry ≡ e)
    by_test true z same new = later (same z)
    by_test false (inl is) same new = (note, inl refl, is)
    by_test false (inr z) same new = later (new z)

filter_fewer : (t : EntryAt → Bool) (es : List EntryAt) (n : ℕ) → times n (map (λ (e : EntryAt). e.number) (filter t es)) ≤ times n (map (λ (e : EntryAt). e.number) es)
filter_fewer t [] n = omega arith
filter_fewer t (e ∷ es) n = by_test (t e) (filter_fewer t es n)
  where
    by_test : (b : Bool) → times n (map (λ (x : EntryAt). x.number) (filter t es)) ≤ times n (map (λ (x : EntryAt). x.number) es)
        → times n (map (λ (x : EntryAt). x.number) (cond b (e ∷ filter t es) (filter t es))) ≤ cond (e.number == n) 1 0 + times n (map (λ (x : EntryAt). x.number) es)
    by_test true h = omega (arith, h)
    by_test false h = omega (arith, h)

-- ---- what a row's writing notes

replaced_from : (table : ℕ) (key : ℤ) (statement : ℕ) (row : Row) (column : ℕ) (number new : Option ℕ) (note : Note) → Has (replaced_in table key statement row column number new) note
    → (n : ℕ) × (number ≡ Some n) × (replaced_note table key statement row column n ≡ note)
replaced_from table key statement row column None new note h = absurd h
replaced_from table key statement row column (Some n) None note (inl is) = (n, refl, is)
replaced_from table key statement row column (Some n) None note (inr none) = absurd none
replaced_from table key statement row column (Some n) (Some other) note h = by_test (n == other) h
  where
    by_test : (b : Bool) → Has (cond b [] (replaced_note table key statement row column n ∷ [])) note → (k : ℕ) × (Some n ≡ Some k) × (replaced_note table key statement row column k ≡ note)
    by_test true z = absurd z
    by_test false (inl is) = (n, refl, is)
    by_test false (inr none) = absurd none

flat_from : (f : ℕ → List Note) (columns : List ℕ) (note : Note) → Has (flat_map f columns) note → (c : ℕ) × Has (f c) note
flat_from f [] note h = absurd h
flat_from f (c ∷ columns) note h = elim (Has-append (f c) (flat_map f columns) note h) [ inl here ↦ (c, here) | inr more ↦ flat_from f columns note more ]

-- a replaced entry is one of the unmarked row that stood there
pub record IsReplaced (table : StoredTable) (number : ℕ) (change : Change) (note : Note) : Type 0 where
  pub kept : KeptRow
  pub there : kept_at table change.key ≡ Some kept
  pub unmarked : kept.mark ≡ false
  pub column : ℕ
  pub n : ℕ
  pub has : number_at (indexed table) kept.numbers column ≡ Some n
  pub entry : note.entry ≡ entry_of number change.key (version_kept kept) column n
  pub how : note.how ≡ by_replacing

replaced_all : (table : StoredTable) (number : ℕ) (change : Change) (statement : ℕ) (placed : List (ℕ × ℕ)) (o : Option KeptRow) → kept_at table change.key ≡ o → (note : Note)
    → Has (replaced_notes number change statement (indexed table) placed o) note → IsReplaced table number change note
replaced_all table number change statement placed None there note h = absurd h
replaced_all table number change statement placed (Some kept) there note h = by_mark kept.mark refl h
  where
    by_mark : (b : Bool) → kept.mark ≡ b
        → Has (cond b [] (flat_map (λ c. replaced_in number change.key statement kept.row c (number_at (indexed table) kept.numbers c) (number_at (indexed table) (numbers_of_new (indexed table) placed (Some kept) change.new) c)) (indexed table))) note
        → IsReplaced table number change note
    by_mark true e z = absurd z
    by_mark false e z =
        let f = flat_from (λ c. replaced_in number change.key statement kept.row c (number_at (indexed table) kept.numbers c) (number_at (indexed table) (numbers_of_new (indexed table) placed (Some kept) change.new) c)) (indexed table) note z in
        let r = replaced_from number change.key statement kept.row f.0 (number_at (indexed table) kept.numbers f.0) (number_at (indexed table) (numbers_of_new (indexed table) placed (Some kept) change.new) f.0) note f.1 in
        record {
          kept = kept;
          there = there;
          unmarked = e;
          column = f.0;
          n = r.0;
          has = r.1;
          entry = ap (λ (x : Note). x.entry) (sym r.2);
          how = ap (λ (x : Note). x.how) (sym r.2);
        }

none_placed : (notes : List Note) → ((note : Note) → Has notes note → note.how ≡ by_replacing) → filter_map (λ (note : Note). placed_in note.how note.entry.number) notes ≡ []
none_placed [] h = refl
none_placed (note ∷ notes) h =
    ap (λ how. cons_option (placed_in how note.entry.number) (filter_map (λ (x : Note). placed_in x.how x.entry.number) notes)) (h note (inl refl))
    ∙ none_placed notes (λ x k. h x (inr k))

module _ (m : Machine) (state : State) (o : InOrder m state) where
  -- nobody else has locked what a session took
  taken_once : (table : ℕ) (key : ℤ) (j s : ℕ) → takes state.locks table key j ≡ true → takes state.locks table key s ≡ true → (j == s) ≡ false → ⊥
  taken_once table key j s h k apart = elim (takes_cases state.locks table key j h) [
    | inl a ↦ elim (takes_cases state.locks table key s k) [
      | inl b ↦ false≢true (sym (o.no_conflict j s table (Some key) X X a b apart))
      | inr b ↦ false≢true (sym (o.no_conflict j s table None IX X (o.intended.exclusive j table key a) b apart))
    ]
    | inr a ↦ elim (takes_cases state.locks table key s k) [
      | inl b ↦ false≢true (sym (o.no_conflict j s table None X IX a (o.intended.exclusive s table key b) apart))
      | inr b ↦ false≢true (sym (o.no_conflict j s table None X X a b apart))
    ]
  ]

  -- ---- sessions that note nothing

  noted_set : (s : ℕ) (new : SessionState) → new.notes ≡ (session_at state.sessions s).notes → AreNoted state.tables (slice_set state.sessions s new) state.queue
  noted_set s new same = record {
    notes = λ j note h. o.noted.notes j note (before j note h);
    queued = o.noted.queued;
    placed_once = λ n. (let b : times n (placed_all (slice_set state.sessions s new)) ≤ times n (placed_all state.sessions) + 0 = placed_bound state.sessions s new n 0 (none n) in omega (arith, b, o.noted.placed_once n));
    queued_once = o.noted.queued_once;
    apart = λ j note h. o.noted.apart j note (before j note h);
  }
    where
      before : (j : ℕ) (note : Note) → Has (session_at (slice_set state.sessions s new) j).notes note → Has (session_at state.sessions j).notes note
      before j note h = set_relates (λ x y. ((z : Note) → Has y.notes z → Has x.notes z)) (λ x z k. k) state.sessions s new (λ z k. subst (λ (list : List Note). Has list z) same k) j note h

      none : (n : ℕ) → times n (placed_by new) ≤ times n (placed_by (session_at state.sessions s)) + 0
      none n =
          let e : times n (placed_by new) ≡ times n (placed_by (session_at state.sessions s)) = ap (λ (list : List Note). times n (filter_map (λ (note : Note). placed_in note.how note.entry.number) list)) same in
          omega (arith, e)

  -- ---- purges

  purge_notes : (queue : List Queued) → state.queue ≡ queue → AreNoted (tables_purged state.locks queue state.tables) state.sessions (drop 1 queue)
  purge_notes [] is = subst (AreNoted state.tables state.sessions) is o.noted
  purge_notes (dead_entry e ∷ queue) is = record {
    notes = λ j note h. stays note.entry (λ same. o.noted.apart j note h (subst (λ n. Has (queued_numbers state.queue) n) (sym same) first)) (o.noted.notes j note h);
    queued = λ x h. stays x (λ same. twice x h same) (o.noted.queued x (subst (λ (list : List Queued). Has list (dead_entry x)) (sym is) (inr h)));
    placed_once = o.noted.placed_once;
    queued_once = λ n. (let all : times n (e.number ∷ queued_numbers queue) ≤ 1 = subst (λ (list : List Queued). times n (queued_numbers list) ≤ 1) is (o.noted.queued_once n) in omega (arith, all));
    apart = λ j note h k. o.noted.apart j note h (subst (λ (list : List Queued). Has (queued_numbers list) note.entry.number) (sym is) (inr k));
  }
    where
      first : Has (queued_numbers state.queue) e.number
      first = subst (λ (list : List Queued). Has (queued_numbers list) e.number) (sym is) (inl refl)

      twice : (x : EntryAt) → Has queue (dead_entry x) → x.number ≡ e.number → ⊥
      twice x h same =
          let all : times e.number (e.number ∷ queued_numbers queue) ≤ 1 = subst (λ (list : List Queued). times e.number (queued_numbers list) ≤ 1) is (o.noted.queued_once e.number) in
          let more : 0 < times e.number (queued_numbers queue) = times-Has e.number (queued_numbers queue) (subst (λ n. Has (queued_numbers queue) n) same (in_queue queue x h)) in
          omega (arith, all, more, times-same e.number (queued_numbers queue))

      other : (n : ℕ) → (n ≡ e.number → ⊥) → (b : Bool) → (n == e.number) ≡ b → b ≡ false
      other n ne true t = absurd (ne (eqb-true n e.number t))
      other n ne false t = refl

      stays : (x : EntryAt) → (x.number ≡ e.number → ⊥) → LiesIn state.tables x → LiesIn (change_table e.table (table_without_entry e) state.tables) x
      stays x ne h = lies_with e.table e.column (without_entry e.number) state.tables x
          (λ on. ((remove_on_leaves (tree_of (table_at state.tables e.table) e.column) e.number) (leaf_entry x) x.key x.number).1 (on, other x.number ne (x.number == e.number) refl)) h
  purge_notes (dead_row number key ∷ queue) is =
      let to : (x : EntryAt) → LiesIn state.tables x → LiesIn (cond (may_leave state.locks (table_at state.tables number) number key) (change_table number (table_without key) state.tables) state.tables) x =
      λ x h. lies_same state.tables _ (purged_row_leaves_trees (may_leave state.locks (table_at state.tables number) number key) number key state.tables) x h in
      record {
        notes = λ j note h. to note.entry (o.noted.notes j note h);
        queued = λ x h. to x (o.noted.queued x (subst (λ (list : List Queued). Has list (dead_entry x)) (sym is) (inr h)));
        placed_once = o.noted.placed_once;
        queued_once = λ n. subst (λ (list : List Queued). times n (queued_numbers list) ≤ 1) is (o.noted.queued_once n);
        apart = λ j note h k. o.noted.apart j note h (subst (λ (list : List Queued). Has (queued_numbers list) note.entry.number) (sym is) k);
      }

  -- ---- the end of a transaction

  module _ (s : ℕ) (after : List StoredTable) (to : (e : EntryAt) → LiesIn state.tables e → LiesIn after e) (new : SessionState) (none : new.notes ≡ []) (active : IsActive state s) where
    abbrev mine : SessionState
    mine = session_at state.sessions s

    abbrev then : List SessionState
    then = slice_set state.sessions s new

    abbrev queue_then : List Queued
    queue_then = state.queue ++ queued_by after mine

    -- it is another session's, and was noted
    of_other : (j : ℕ) (note : Note) → Has (session_at then j).notes note → Has (session_at state.sessions j).notes note × ((j == s) ≡ false)
    of_other j note h = by_test (j == s) refl
      where
        by_test : (b : Bool) → (j == s) ≡ b → Has (session_at state.sessions j).notes note × ((j == s) ≡ false)
        by_test true e =
            let at : j ≡ s = eqb-true j s e in
            let mine_now : Has (session_at (slice_set state.sessions s new) s).notes note = subst (λ k. Has (session_at (slice_set state.sessions s new) k).notes note) at h in
            let here : Has new.notes note = subst (λ (x : SessionState). Has x.notes note) (same_at state.sessions s new (seated state.sessions s active.not_over)) mine_now in
            absurd (subst (λ (list : List Note). Has list note) none here)
        by_test false e = (subst (λ (x : SessionState). Has x.notes note) (other_at state.sessions s j new e) h, e)

    -- what joins the queue was noted by the session
    dead_from : (e : EntryAt) → Has (queued_by after mine) (dead_entry e) → (note : Note) × Has (session_at state.sessions s).notes note × (note.entry ≡ e)
    dead_from e h = elim (Has-append (map dead_entry (dead_entries after mine.notes)) (map as_dead_row (dead_rows after mine.written)) (dead_entry e) h) [
      | inl k ↦ (let r : Source dead_entry (dead_entries after mine.notes) (dead_entry e) = Has-map dead_entry (dead_entries after mine.notes) (dead_entry e) k in
          let same : r.x ≡ e = entry_is r.x e r.is in
          noted_from [] mine.notes e (subst (λ (x : EntryAt). Has (noted_once [] mine.notes) x) same (Has-filter (λ (x : EntryAt). not (is_live after x)) (noted_once [] mine.notes) r.x r.has)))
      | inr k ↦ (let r : Source as_dead_row (dead_rows after mine.written) (dead_entry e) = Has-map as_dead_row (dead_rows after mine.written) (dead_entry e) k in absurd (no_row r.x e r.is))
    ]
      where
        entry_is : (a b : EntryAt) → dead_entry a ≡ dead_entry b → a ≡ b
        entry_is a b e = cc

        no_row : (w : ℕ × ℤ) (x : EntryAt) → as_dead_row w ≡ dead_entry x → ⊥
        no_row w x e = cc

    joined : (n : ℕ) → times n (queued_numbers queue_then) ≡ times n (queued_numbers state.queue) + times n (map (λ (e : EntryAt). e.number) (dead_entries after mine.notes))
    joined n =
        let a : queued_numbers queue_then ≡ queued_numbers state.queue ++ queued_numbers (queued_by after mine) = filter_map-append queued_number state.queue (queued_by after mine) in
        let b : queued_numbers (queued_by after mine) ≡ queued_numbers (map dead_entry (dead_entries after mine.notes)) ++ queued_numbers (map as_dead_row (dead_rows after mine.written)) =
        filter_map-append queued_number (map dead_entry (dead_entries after mine.notes)) (map as_dead_row (dead_rows after mine.written)) in
        let c : times n (queued_numbers (map dead_entry (dead_entries after mine.notes))) ≡ times n (map (λ (e : EntryAt). e.number) (dead_entries after mine.notes)) = ap (times n) (entries_numbers (dead_entries after mine.notes)) in
        let d : times n (queued_numbers (map as_dead_row (dead_rows after mine.written))) ≡ 0 = ap (times n) (rows_numbers (dead_rows after mine.written)) in
        let a' : times n (queued_numbers queue_then) ≡ times n (queued_numbers state.queue ++ queued_numbers (queued_by after mine)) = ap (times n) a in
        let b' : times n (queued_numbers (queued_by after mine)) ≡ times n (queued_numbers (map dead_entry (dead_entries after mine.notes)) ++ queued_numbers (map as_dead_row (dead_rows after mine.written))) = ap (times n) b in
        omega (
          arith,
          a',
          b',
          c,
          d,
          times-append n (queued_numbers state.queue) (queued_numbers (queued_by after mine)),
          times-append n (queued_numbers (map dead_entry (dead_entries after mine.notes))) (queued_numbers (map as_dead_row (dead_rows after mine.written))),
        )

    dead_number : (n : ℕ) → Has (map (λ (e : EntryAt). e.number) (dead_entries after mine.notes)) n → (note : Note) × Has (session_at state.sessions s).notes note × (note.entry.number ≡ n)
    dead_number n h =
        let r : Source (λ (e : EntryAt). e.number) (dead_entries after mine.notes) n = Has-map (λ (e : EntryAt). e.number) (dead_entries after mine.notes) n h in
        let f = noted_from [] mine.notes r.x (Has-filter (λ (x : EntryAt). not (is_live after x)) (noted_once [] mine.notes) r.x r.has) in
        (f.0, f.1, ap (λ (e : EntryAt). e.number) f.2 ∙ r.is)

    ended_notes : AreNoted after then queue_then
    ended_notes = record {
      notes = λ j note h. to note.entry (o.noted.notes j note (of_other j note h).0);
      queued = λ e h. elim (Has-append state.queue (queued_by after mine) (dead_entry e) h) [
        | inl old ↦ to e (o.noted.queued e old)
        | inr new_one ↦ (let f = dead_from e new_one in to e (subst (LiesIn state.tables) f.2 (o.noted.notes s f.0 f.1)))
      ];
      placed_once = λ n. (let b : times n (placed_all then) ≤ times n (placed_all state.sessions) + 0 = placed_bound state.sessions s new n 0 (fewer n) in omega (arith, b, o.noted.placed_once n));
      queued_once = λ n. once n (times n (queued_numbers state.queue)) refl (times n (map (λ (e : EntryAt). e.number) (dead_entries after mine.notes))) refl;
      apart = λ j note h k. apart j note h k;
    }
      where
        fewer : (n : ℕ) → times n (placed_by new) ≤ times n (placed_by (session_at state.sessions s)) + 0
        fewer n =
            let e : times n (placed_by new) ≡ 0 = ap (λ (list : List Note). times n (filter_map (λ (x : Note). placed_in x.how x.entry.number) list)) none in
            omega (arith, e)

        at_most : (n : ℕ) → times n (map (λ (e : EntryAt). e.number) (dead_entries after (session_at state.sessions s).notes)) ≤ 1
        at_most n = omega (arith, filter_fewer (λ (e : EntryAt). not (is_live after e)) (noted_once [] (session_at state.sessions s).notes) n, once_noted [] (session_at state.sessions s).notes n)

        once : (n a : ℕ) → times n (queued_numbers state.queue) ≡ a → (b : ℕ) → times n (map (λ (e : EntryAt). e.number) (dead_entries after (session_at state.sessions s).notes)) ≡ b
            → times n (queued_numbers (state.queue ++ queued_by after (session_at state.sessions s))) ≤ 1
        once n zero x b y = omega (arith, joined n, x, at_most n)
        once n (suc a) x zero y = omega (arith, joined n, y, o.noted.queued_once n)
        once n (suc a) x (suc b) y =
            let d = dead_number n (Has-times n (map (λ (e : EntryAt). e.number) (dead_entries after (session_at state.sessions s).notes)) (omega (arith, y))) in
            absurd (o.noted.apart s d.0 d.1 (subst (λ k. Has (queued_numbers state.queue) k) (sym d.2) (Has-times n (queued_numbers state.queue) (omega (arith, x)))))

        apart : (j : ℕ) (note : Note) → Has (session_at (slice_set state.sessions s new) j).notes note → Has (queued_numbers (state.queue ++ queued_by after (session_at state.sessions s))) note.entry.number → ⊥
        apart j note h k =
            let was = of_other j note h in
            let q = queued_from (state.queue ++ queued_by after (session_at state.sessions s)) note.entry.number k in
            elim (Has-append state.queue (queued_by after (session_at state.sessions s)) (dead_entry q.0) q.1) [
              | inl old ↦ o.noted.apart j note was.0 (subst (λ n. Has (queued_numbers state.queue) n) q.2 (in_queue state.queue q.0 old))
              | inr new_one ↦ (let f = dead_from q.0 new_one in
                  let same : note.entry.number ≡ f.0.entry.number = sym q.2 ∙ ap (λ (e : EntryAt). e.number) (sym f.2) in
                  let place = one_place state.tables state.entries o.numbered note.entry f.0.entry (o.noted.notes j note was.0) (o.noted.notes s f.0 f.1) same in
                  let other : takes state.locks note.entry.table note.entry.key s ≡ true =
                  subst (λ t. takes state.locks t note.entry.key s ≡ true) (sym place.0) (subst (λ i. takes state.locks f.0.entry.table i s ≡ true) (sym place.1) (o.written_locked.noted s f.0 f.1)) in
                  taken_once note.entry.table note.entry.key j s (o.written_locked.noted j note was.0) other was.1)
            ]

  -- ---- an entry is placed

  module _ (s : ℕ) (d : Descent) (q : ℕ) (ds : List Division) (at : IsPlacing state (session_at state.sessions s) d) (may : MayPlaceEntry state s d q ds) (active : IsActive state s) where
    abbrev placed_tables : List StoredTable
    placed_tables = change_table d.table (table_after_place d state.entries q ds) state.tables

    abbrev new_note : Note
    new_note = note_of d state.entries (session_at state.sessions s).number

    abbrev session_then : SessionState
    session_then = session_after_place d state.entries (session_at state.sessions s)

    grows : (e : EntryAt) → LiesIn state.tables e → LiesIn placed_tables e
    grows e h = lies_with d.table d.column (tree_after_place d state.entries q ds) state.tables e
        (λ on. ((place_on_leaves (tree_for state d) d.path d.box d.key state.entries q ds (placing_whole m state o s d at) (placing_stands state (session_at state.sessions s) d at)
        (placing_box state (session_at state.sessions s) d at) may.can) (leaf_entry e) e.key e.number).1 (inl on)) h

    new_lies : LiesIn placed_tables new_note.entry
    new_lies =
        let on : IsOnLeaf (tree_after_place d state.entries q ds (tree_for state d)) (leaf_entry new_note.entry) d.key state.entries =
        ((place_on_leaves (tree_for state d) d.path d.box d.key state.entries q ds (placing_whole m state o s d at) (placing_stands state (session_at state.sessions s) d at)
        (placing_box state (session_at state.sessions s) d at) may.can) (leaf_entry new_note.entry) d.key state.entries).1 (inr (record { entry = refl; same_key = refl; same_number = refl })) in
        subst (λ (t : Tree). IsOnLeaf t (leaf_entry new_note.entry) d.key state.entries) (sym (tree_here d.table d.column (tree_after_place d state.entries q ds) state.tables (placing_column m state o s d at))) on

    -- it was noted, or is the new one
    noted_then : (j : ℕ) (note : Note) → Has (session_at (slice_set state.sessions s session_then) j).notes note → Has (session_at state.sessions j).notes note ⊎ (new_note ≡ note)
    noted_then j note h = set_relates (λ x y. ((z : Note) → Has y.notes z → Has x.notes z ⊎ (new_note ≡ z))) (λ x z k. inl k) state.sessions s session_then
        (λ z k. elim (Has-append (session_at state.sessions s).notes (new_note ∷ []) z k) [ inl old ↦ inl old | inr new ↦ elim new [ inl is ↦ inr is | inr none ↦ absurd none ] ]) j note h

    placed_notes : AreNoted placed_tables (slice_set state.sessions s session_then) state.queue
    placed_notes = record {
      notes = λ j note h. elim (noted_then j note h) [ inl old ↦ grows note.entry (o.noted.notes j note old) | inr new ↦ subst (λ (z : Note). LiesIn placed_tables z.entry) new new_lies ];
      queued = λ e h. grows e (o.noted.queued e h);
      placed_once = λ n. once n (times n (placed_all state.sessions)) refl (state.entries == n) refl;
      queued_once = o.noted.queued_once;
      apart = λ j note h k. elim (noted_then j note h) [
        | inl old ↦ o.noted.apart j note old k
        | inr new ↦ (let there = queued_from state.queue note.entry.number k in
            let below : there.0.number < state.entries = lies_given state.tables state.entries o.numbered there.0 (o.noted.queued there.0 there.1) in
            let same : state.entries ≡ note.entry.number = ap (λ (z : Note). z.entry.number) new in
            omega (arith, below, same, there.2))
      ];
    }
      where
        bound : (n : ℕ) → times n (placed_all (slice_set state.sessions s (session_after_place d state.entries (session_at state.sessions s)))) ≤ times n (placed_all state.sessions) + times n (state.entries ∷ [])
        bound n = placed_bound state.sessions s (session_after_place d state.entries (session_at state.sessions s)) n (times n (state.entries ∷ [])) (
            let e : placed_by (session_after_place d state.entries (session_at state.sessions s)) ≡ placed_by (session_at state.sessions s) ++ state.entries ∷ [] =
            filter_map-append (λ (z : Note). placed_in z.how z.entry.number) (session_at state.sessions s).notes (note_of d state.entries (session_at state.sessions s).number ∷ []) in
            let e' : times n (placed_by (session_after_place d state.entries (session_at state.sessions s))) ≡ times n (placed_by (session_at state.sessions s) ++ state.entries ∷ []) = ap (times n) e in
            omega (arith, e', times-append n (placed_by (session_at state.sessions s)) (state.entries ∷ [])))

        once : (n k : ℕ) → times n (placed_all state.sessions) ≡ k → (b : Bool) → (state.entries == n) ≡ b
            → times n (placed_all (slice_set state.sessions s (session_after_place d state.entries (session_at state.sessions s)))) ≤ 1
        once n zero x b e = one (state.entries == n) (bound n) x
          where
            one : (c : Bool) → times n (placed_all (slice_set state.sessions s (session_after_place d state.entries (session_at state.sessions s)))) ≤ times n (placed_all state.sessions) + (cond c 1 0 + 0)
                → times n (placed_all state.sessions) ≡ 0 → times n (placed_all (slice_set state.sessions s (session_after_place d state.entries (session_at state.sessions s)))) ≤ 1
            one true h y = omega (arith, h, y)
            one false h y = omega (arith, h, y)
        once n (suc k) x true e =
            let f = placed_from state.sessions n (Has-times n (placed_all state.sessions) (omega (arith, x))) in
            let below : f.1.entry.number < state.entries = lies_given state.tables state.entries o.numbered f.1.entry (o.noted.notes f.0 f.1 f.2) in
            let same : state.entries ≡ n = eqb-true state.entries n e in
            absurd (omega (arith, below, same, f.3))
        once n (suc k) x false e =
            let none : cond (state.entries == n) 1 0 + 0 ≡ 0 = ap (λ c. cond c 1 0 + 0) e in
            omega (arith, bound n, none, o.noted.placed_once n)

  -- ---- a row is written

  row_notes : (s number : ℕ) (change : Change) (placed : List (ℕ × ℕ)) (p : Put) → AreNoted (change_table number (table_after_row p change placed change.new) state.tables)
      (slice_set state.sessions s (session_after_row (table_at state.tables number) number change placed p.undo (session_at state.sessions s))) state.queue
  row_notes s number change placed p = record {
    notes = λ j note h. to note.entry (elim (noted_then j note h) [ inl old ↦ o.noted.notes j note old | inr new ↦ lies note new ]);
    queued = λ e h. to e (o.noted.queued e h);
    placed_once = λ n. (let b : times n (placed_all (slice_set state.sessions s (session_after_row (table_at state.tables number) number change placed p.undo (session_at state.sessions s)))) ≤ times n (placed_all state.sessions) + 0 =
        placed_bound state.sessions s (session_after_row (table_at state.tables number) number change placed p.undo (session_at state.sessions s)) n 0 (none n) in omega (arith, b, o.noted.placed_once n));
    queued_once = o.noted.queued_once;
    apart = λ j note h k. elim (noted_then j note h) [ inl old ↦ o.noted.apart j note old k | inr new ↦ alive note new k ];
  }
    where
      to : (e : EntryAt) → LiesIn state.tables e → LiesIn (change_table number (table_after_row p change placed change.new) state.tables) e
      to e h = lies_same state.tables (change_table number (table_after_row p change placed change.new) state.tables)
          (change_leaves_trees number (table_after_row p change placed change.new) state.tables (λ t. after_row_leaves_trees p change placed change.new t)) e h

      noted_then : (j : ℕ) (note : Note) → Has (session_at (slice_set state.sessions s (session_after_row (table_at state.tables number) number change placed p.undo (session_at state.sessions s))) j).notes note
          → Has (session_at state.sessions j).notes note ⊎ IsReplaced (table_at state.tables number) number change note
      noted_then j note h = set_relates (λ x y. ((z : Note) → Has y.notes z → Has x.notes z ⊎ IsReplaced (table_at state.tables number) number change z)) (λ x z k. inl k) state.sessions s
          (session_after_row (table_at state.tables number) number change placed p.undo (session_at state.sessions s))
          (λ z k. elim (Has-append (session_at state.sessions s).notes (replaced_notes number change (session_at state.sessions s).number (indexed (table_at state.tables number)) placed (kept_at (table_at state.tables number) change.key)) z k) [
            | inl old ↦ inl old
            | inr new ↦ inr (replaced_all (table_at state.tables number) number change (session_at state.sessions s).number placed (kept_at (table_at state.tables number) change.key) refl z new)
          ]) j note h

      stood : (note : Note) (r : IsReplaced (table_at state.tables number) number change note) → StandsAt state.tables number change.key (version_kept r.kept)
      stood note r = stands_of_kept (table_at state.tables number) change.key r.kept (version_kept r.kept) r.there r.unmarked refl

      lies : (note : Note) → IsReplaced (table_at state.tables number) number change note → LiesIn state.tables note.entry
      lies note r = subst (LiesIn state.tables) (sym r.entry) (o.entered.rows number change.key (version_kept r.kept) (stood note r) r.column r.n r.has)

      alive : (note : Note) → IsReplaced (table_at state.tables number) number change note → Has (queued_numbers state.queue) note.entry.number → ⊥
      alive note r k = not_dead m state o number change.key (version_kept r.kept) (o.named.rows number change.key (version_kept r.kept) (stood note r)) r.column r.n r.has
          (subst (λ n. Has (queued_numbers state.queue) n) (ap (λ (e : EntryAt). e.number) r.entry) k)

      none : (n : ℕ) → times n (placed_by (session_after_row (table_at state.tables number) number change placed p.undo (session_at state.sessions s))) ≤ times n (placed_by (session_at state.sessions s)) + 0
      none n =
          let more : List Note = replaced_notes number change (session_at state.sessions s).number (indexed (table_at state.tables number)) placed (kept_at (table_at state.tables number) change.key) in
          let e : placed_by (session_after_row (table_at state.tables number) number change placed p.undo (session_at state.sessions s)) ≡ placed_by (session_at state.sessions s) ++ filter_map (λ (z : Note). placed_in z.how z.entry.number) more =
          filter_map-append (λ (z : Note). placed_in z.how z.entry.number) (session_at state.sessions s).notes more in
          let z : filter_map (λ (x : Note). placed_in x.how x.entry.number) more ≡ [] =
          none_placed more (λ note h. (replaced_all (table_at state.tables number) number change (session_at state.sessions s).number placed (kept_at (table_at state.tables number) change.key) refl note h).how) in
          let e' : times n (placed_by (session_after_row (table_at state.tables number) number change placed p.undo (session_at state.sessions s))) ≡ times n (placed_by (session_at state.sessions s) ++ []) =
          ap (times n) (e ∙ ap (λ xs. placed_by (session_at state.sessions s) ++ xs) z) in
          omega (arith, e', times-append n (placed_by (session_at state.sessions s)) [])

pub noted_kept : (m : Machine) (state : State) (actor : Actor) (choice : Choice) → IsProper m → InOrder m state → MayHappen m state actor choice
    → AreNoted (after m state actor choice).tables (after m state actor choice).sessions (after m state actor choice).queue
noted_kept m state actor choice good o h = event_keeps m state good o (λ (st : State). AreNoted st.tables st.sessions st.queue) each actor choice h
  where
    each : EachKeeps m state (λ (st : State). AreNoted st.tables st.sessions st.queue)
    each = record {
      still = o.noted;
      purge = λ some. purge_notes m state o state.queue refl;
      end = λ s over active. ended_notes m state o s state.tables (λ e k. k) _ refl active;
      answer = λ s reply active at. noted_set m state o s _ refl;
      undo = λ s entry more active at. moved (change_leaves_trees entry.table _ state.tables (λ t. refl)) (noted_set m state o s _ refl);
      create = λ s over name schema leaf roots active at may. ended_notes m state o s (state.tables ++ new_table name schema leaf roots ∷ []) (λ e k. lies_earlier state.tables (new_table name schema leaf roots) e k) _ refl active;
      refuse = λ s on ds active at may. record {
        notes = λ j note k. o.noted.notes j note (was ds j note k);
        queued = o.noted.queued;
        placed_once = λ n. omega (arith, victims_bound state.sessions ds n, o.noted.placed_once n);
        queued_once = o.noted.queued_once;
        apart = λ j note k. o.noted.apart j note (was ds j note k);
      };
      lock_table = λ s statement number mode active at none. noted_set m state o s _ refl;
      lock_key = λ s number key mode active at none. noted_set m state o s _ refl;
      lock_row = λ s number key mode active at none. noted_set m state o s _ refl;
      visit = λ s number column predicate active at. noted_set m state o s _ refl;
      scan = λ s number leaf active at. noted_set m state o s _ refl;
      step = λ s d q active at may. noted_set m state o s _ refl;
      stale = λ s d active at. noted_set m state o s _ refl;
      full = λ s active at. noted_set m state o s _ refl;
      place = λ s d q ds active at may. placed_notes m state o s d q ds at may active;
      row = λ s number change placed p active at may. row_notes m state o s number change placed p;
    }
      where
        was : (ds : List Deadlock) (j : ℕ) (note : Note) → Has (session_at (with_victims state.sessions ds) j).notes note → Has (session_at state.sessions j).notes note
        was ds j note k = subst (λ (list : List Note). Has list note) (victims_leave (λ x. x.notes) (λ x. refl) state.sessions ds j) k

        moved : {then : List StoredTable} {sessions : List SessionState} → SameTrees state.tables then → AreNoted state.tables sessions state.queue → AreNoted then sessions state.queue
        moved {then = then} same n = record {
          notes = λ j note k. lies_same state.tables then same note.entry (n.notes j note k);
          queued = λ e k. lies_same state.tables then same e (n.queued e k);
          placed_once = n.placed_once;
          queued_once = n.queued_once;
          apart = n.apart;
        }
