-- The keys that a statement has read are locked, rise, and are those that it sought.
use Rattle.std.proofs.Common.{◌≡◌, ◌⊎◌, ◌∙◌, inl, inr, refl, sym, ap, subst, ℕ, ℤ, ◌==◌, ◌&&◌, ◌||◌, cond, Bool, true, false, Option, Some, None, List, [], ◌∷◌, ◌++◌, append_assoc, append-nil, map, eqb-true, eq-eqb}
use Rattle.std.specs.Prelude.{MatchBool, fold, int_lt, is_none, slice_set}
use Rattle.std.specs.List.{list_any}
use Rattle.std.specs.BTreeSet.{insert_key}
use Rattle.std.specs.Option.{option_map}
use Rattle.std.specs.Ordering.{int_cmp, match_ordering}
use Rattle.std.specs.declared.cmp.Ordering.{Ordering}
use Rattle.std.specs.declared.cmp.Ordering.TheVariants.{Less, Equal, Greater}
use Rattle.std.proofs.lemmas.Bool.{false≢true, and_parts}
use Rattle.std.proofs.lemmas.List.{map-append}
use Rattle.isp_base.specs.Lists.{Has}
use Rattle.isp_laws.proofs.ListLaws.{Has-append, Has-append_left, Has-append_right, Has-map_of}
use Rattle.isp_mbr.specs.declared.predicate.Predicate.{Predicate}
use Rattle.isp_reclock.specs.declared.entries.Lock.{Lock}
use Rattle.isp_reclock.specs.declared.modes.Mode.{Mode}
use Rattle.isp_reclock.specs.Tables.{key_lock, table_lock, with_lock, without}
use Rattle.isp_plain.specs.declared.statement.Statement.{Statement}
use Rattle.isp_plain.specs.declared.statement.Statement.TheVariants.{Create, Insert, Select, Update, Delete, Begin, Commit, Rollback, Refused}
use Rattle.isp_plain.specs.declared.value.Row.{Row}
use Rattle.isp_forest.specs.Place.{Division}
use Rattle.isp_forest.specs.Search.{Search}
use Rattle.isp_forest.specs.Tree.{Tree}
use Rattle.isp_forest.specs.Attach.{attached}
use Rattle.isp_events.specs.Stored.{Leaf, StoredTable, indexed, leaf_behind, present, row_of, table_at}
use Rattle.isp_events.specs.Sessions.{Change, Entering, Phase, SessionState, Work, adding, answering, changes_of, locking, phase_with, scanning, session_at, visiting, writing}
use Rattle.isp_events.specs.State.{State, TreeSearch, is_empty}
use Rattle.isp_events.specs.Ways.{Machine, Way, by_box, by_key, by_scan}
use Rattle.isp_events.specs.Next.{Descent, key_mode}
use Rattle.isp_events.specs.Asking.{first_phase, phase_after_key, phase_by, phase_of_keys, read_with}
use Rattle.isp_events.specs.Reading.{as_read, is_of, phase_after_leaf, phase_after_visit, rising, rows_in, with_search}
use Rattle.isp_events.specs.Placing.{is_of_tree, phase_with_entry, search_after_place, table_after_place, tree_for}
use Rattle.isp_events.specs.Writing.{ascend, phase_after_row, table_after_row, table_with_row}
use Rattle.isp_events.specs.Ending.{restored, searches_without}
use Rattle.isp_events.specs.Purging.{tables_purged}
use Rattle.isp_events.specs.Events.{Actor, Choice, MayHappen, after}
use Rattle.isp_order.specs.Locks.{Holds}
use Rattle.isp_order.specs.Searches.{is_visiting}
use Rattle.isp_order.specs.Work.{AreFound, AreSought, AreSoughtBy, FitsInsert, FitsPhase, HasKeys, HaveKeys, IsReadLocked, IsReadOf, is_by_scan, keys_left, keys_sought, leaves_scanned, way_of}
use Rattle.isp_order.specs.InOrder.{InOrder, IsProper}
use Rattle.isp_order.proofs.RowLaws.{ascend_rest, first_least}
use Rattle.isp_order.proofs.TableLaws.{definition_at, definitions_changed, purged_keeps, row_keeps, same_schema}
use Rattle.isp_causes.specs.Causes.{IsActive, IsEntering, IsLockingKey, IsScanning, IsVisiting}
use Rattle.isp_causes.proofs.EventCases.{EachKeeps, event_keeps}
use Rattle.isp_order_locks.proofs.LockLists.{Keeps, now_held}
use Rattle.isp_order_locks.proofs.LockedLaws.{keeps_all, keeps_others}
use Rattle.isp_order_locks.proofs.SearchParts.{attached_keeps, left_is, now_session, now_statement, seen_now}
use Rattle.isp_order_work.proofs.WorkParts.{carried, no_work, some_is, work_step, work_victims}
use Rattle.isp_order_reads.proofs.RowFrames.{table_has}
use Rattle.isp_order_reads.proofs.ScanParts.{cons_ascends, front_rises, read_append, read_ascends, read_on, rows_on, scanned_front, scanned_next}

-- ---- keys rising

lt_of_greater : (a b : ℤ) → int_cmp a b ≡ Greater → int_lt b a ≡ true
lt_of_greater a b h = by_tests (int_lt a b) (int_lt b a) h
  where
    by_tests : (s t : Bool) → cond s Less (cond t Greater Equal) ≡ Greater → t ≡ true
    by_tests true t e = let no : ⊥ = cc in absurd no
    by_tests false true e = refl
    by_tests false false e = let no : ⊥ = cc in absurd no

lt_of_less : (a b : ℤ) → int_cmp a b ≡ Less → int_lt a b ≡ true
lt_of_less a b h = by_tests (int_lt a b) (int_lt b a) h
  where
    by_tests : (s t : Bool) → cond s Less (cond t Greater Equal) ≡ Less → s ≡ true
    by_tests true t e = refl
    by_tests false true e = let no : ⊥ = cc in absurd no
    by_tests false false e = let no : ⊥ = cc in absurd no

insert_has : (keys : List ℤ) (k j : ℤ) → Has (insert_key int_cmp keys k) j → (k ≡ j) ⊎ Has keys j
insert_has [] k j (inl e) = inl e
insert_has [] k j (inr h) = absurd h
insert_has (x ∷ keys) k j h = by_order (int_cmp k x) (insert_has keys k j) h
  where
    by_order : (o : Ordering) → (Has (insert_key int_cmp keys k) j → (k ≡ j) ⊎ Has keys j) → Has (match_ordering o (k ∷ x ∷ keys) (x ∷ keys) (x ∷ insert_key int_cmp keys k)) j → (k ≡ j) ⊎ ((x ≡ j) ⊎ Has keys j)
    by_order Less again (inl e) = inl e
    by_order Less again (inr i) = inr i
    by_order Equal again i = inr i
    by_order Greater again (inl e) = inr (inl e)
    by_order Greater again (inr i) = elim (again i) [ inl e ↦ inl e | inr l ↦ inr (inr l) ]

insert_ascends : (keys : List ℤ) (k : ℤ) → ascend keys ≡ true → ascend (insert_key int_cmp keys k) ≡ true
insert_ascends [] k up = refl
insert_ascends (x ∷ keys) k up = by_order (int_cmp k x) refl (insert_ascends keys k (ascend_rest x keys up))
  where
    by_order : (o : Ordering) → int_cmp k x ≡ o → ascend (insert_key int_cmp keys k) ≡ true → ascend (match_ordering o (k ∷ x ∷ keys) (x ∷ keys) (x ∷ insert_key int_cmp keys k)) ≡ true
    by_order Less e again = ap (λ b. b && ascend (x ∷ keys)) (lt_of_less k x e) ∙ up
    by_order Equal e again = up
    by_order Greater e again = cons_ascends x (insert_key int_cmp keys k) (λ j h. by_has j (insert_has keys k j h)) again
      where
        by_has : (j : ℤ) → (k ≡ j) ⊎ Has keys j → int_lt x j ≡ true
        by_has j (inl i) = subst (λ i'. int_lt x i' ≡ true) i (lt_of_greater k x e)
        by_has j (inr i) = first_least x keys j up i

fold_ascends : (keys : List ℤ) (start : List ℤ) → ascend start ≡ true → ascend (fold (insert_key int_cmp) start keys) ≡ true
fold_ascends [] start up = up
fold_ascends (k ∷ keys) start up = fold_ascends keys (insert_key int_cmp start k) (insert_ascends start k up)

rising_ascends : (keys : List ℤ) → ascend (rising keys) ≡ true
rising_ascends keys = fold_ascends keys [] refl

-- ---- keys left in a phase

with_left : (statement : Statement) (columns : List ℕ) (done left : List Change) → keys_left (phase_with statement columns done left) ≡ []
with_left statement columns done [] = refl
with_left statement columns done (change ∷ left) = refl

with_visits : (statement : Statement) (columns : List ℕ) (done left : List Change) → is_visiting (phase_with statement columns done left) ≡ false
with_visits statement columns done [] = refl
with_visits statement columns done (change ∷ left) = refl

keys_of_left : (table : StoredTable) (statement : Statement) (keys : List ℤ) (read : List (ℤ × Option Row)) → keys_left (phase_of_keys table statement keys read) ≡ keys
keys_of_left table statement [] read = with_left statement (indexed table) [] (changes_of statement read)
keys_of_left table statement (key ∷ keys) read = refl

keys_of_visits : (table : StoredTable) (statement : Statement) (keys : List ℤ) (read : List (ℤ × Option Row)) → is_visiting (phase_of_keys table statement keys read) ≡ false
keys_of_visits table statement [] read = with_visits statement (indexed table) [] (changes_of statement read)
keys_of_visits table statement (key ∷ keys) read = refl

entry_left : (f : Entering → Entering) (phase : Phase) → keys_left (phase_with_entry f phase) ≡ keys_left phase
entry_left f (locking keys) = refl
entry_left f visiting = refl
entry_left f (scanning last) = refl
entry_left f (writing done left progress) = refl
entry_left f (answering done) = refl

entry_visits : (f : Entering → Entering) (phase : Phase) → is_visiting (phase_with_entry f phase) ≡ is_visiting phase
entry_visits f (locking keys) = refl
entry_visits f visiting = refl
entry_visits f (scanning last) = refl
entry_visits f (writing done left progress) = refl
entry_visits f (answering done) = refl

-- a statement that begins has read none, and knows the one key of its way
way_rises : (way : Way) → ascend (keys_left (phase_by way)) ≡ true
way_rises (by_key key) = refl
way_rises (by_box column predicate) = refl
way_rises by_scan = refl

begun_rises : (table : StoredTable) (statement : Statement) (way : Way) → ascend (keys_left (first_phase table statement way)) ≡ true
begun_rises table (Insert name rows) way = ap ascend (with_left (Insert name rows) (indexed table) [] (map adding rows))
begun_rises table (Select name columns w) way = way_rises way
begun_rises table (Create name schema) way = way_rises way
begun_rises table (Update name sets w) way = way_rises way
begun_rises table (Delete name w) way = way_rises way
begun_rises table Begin way = way_rises way
begun_rises table Commit way = way_rises way
begun_rises table Rollback way = way_rises way
begun_rises table (Refused refusal) way = way_rises way

way_sought : (searches : List TreeSearch) (s number : ℕ) (work : Work) (way : Way) → work.read ≡ [] → work.phase ≡ phase_by way → AreSought searches s number work way
way_sought searches s number work (by_key key) read phase = ap (λ xs. map (λ r. r.0) xs ++ keys_left work.phase) read ∙ ap keys_left phase
way_sought searches s number work (by_box column predicate) read phase =
    subst (λ p. MatchBool (is_visiting p) (work.read ≡ []) (AreFound searches s number (keys_sought work))) (sym phase) read
way_sought searches s number work by_scan read phase = tt

begun_sought : (table : StoredTable) (searches : List TreeSearch) (s number : ℕ) (work : Work) (statement : Statement) (way : Way) → work.read ≡ [] → work.phase ≡ first_phase table statement way
    → AreSoughtBy searches s number work way statement
begun_sought table searches s number work (Insert name rows) way read phase = read
begun_sought table searches s number work (Select name columns w) way read phase = way_sought searches s number work way read phase
begun_sought table searches s number work (Create name schema) way read phase = way_sought searches s number work way read phase
begun_sought table searches s number work (Update name sets w) way read phase = way_sought searches s number work way read phase
begun_sought table searches s number work (Delete name w) way read phase = way_sought searches s number work way read phase
begun_sought table searches s number work Begin way read phase = way_sought searches s number work way read phase
begun_sought table searches s number work Commit way read phase = way_sought searches s number work way read phase
begun_sought table searches s number work Rollback way read phase = way_sought searches s number work way read phase
begun_sought table searches s number work (Refused refusal) way read phase = way_sought searches s number work way read phase

-- of a scan nothing is sought, nor locked by key
scan_locked : (locks : List Lock) (k : ℕ) (work : Work) (way : Way) (key : ℤ) → is_by_scan way ≡ true → IsReadLocked locks k work way key
scan_locked locks k work (by_key j) key h = absurd (false≢true h)
scan_locked locks k work (by_box column predicate) key h = absurd (false≢true h)
scan_locked locks k work by_scan key h = tt

scan_sought : (searches : List TreeSearch) (k number : ℕ) (work : Work) (way : Way) → is_by_scan way ≡ true → AreSought searches k number work way
scan_sought searches k number work (by_key j) h = absurd (false≢true h)
scan_sought searches k number work (by_box column predicate) h = absurd (false≢true h)
scan_sought searches k number work by_scan h = tt

pub scans_by : (way : Way) (statement : Statement) (last : Option ℕ) → FitsPhase way statement (scanning last) → is_by_scan way ≡ true
scans_by way (Insert name rows) last h = absurd h
scans_by way (Select name columns w) last h = h
scans_by way (Create name schema) last h = h
scans_by way (Update name sets w) last h = h
scans_by way (Delete name w) last h = h
scans_by way Begin last h = h
scans_by way Commit last h = h
scans_by way Rollback last h = h
scans_by way (Refused refusal) last h = h

scan_sought_by : (searches : List TreeSearch) (k number : ℕ) (work : Work) (way : Way) (statement : Statement) (last : Option ℕ) → FitsPhase way statement (scanning last)
    → AreSoughtBy searches k number work way statement
scan_sought_by searches k number work way (Insert name rows) last h = absurd h
scan_sought_by searches k number work way (Select name columns w) last h = scan_sought searches k number work way h
scan_sought_by searches k number work way (Create name schema) last h = scan_sought searches k number work way h
scan_sought_by searches k number work way (Update name sets w) last h = scan_sought searches k number work way h
scan_sought_by searches k number work way (Delete name w) last h = scan_sought searches k number work way h
scan_sought_by searches k number work way Begin last h = scan_sought searches k number work way h
scan_sought_by searches k number work way Commit last h = scan_sought searches k number work way h
scan_sought_by searches k number work way Rollback last h = scan_sought searches k number work way h
scan_sought_by searches k number work way (Refused refusal) last h = scan_sought searches k number work way h

-- who visits has read nothing, and seeks what its search finds
pub visit_read : (searches : List TreeSearch) (k number : ℕ) (work : Work) (statement : Statement) (column : ℕ) (predicate : Predicate) → is_visiting work.phase ≡ true
    → AreSoughtBy searches k number work (by_box column predicate) statement → work.read ≡ []
visit_read searches k number work (Insert name rows) column predicate visits h = h
visit_read searches k number work (Select name columns w) column predicate visits h = subst (λ b. MatchBool b (work.read ≡ []) (AreFound searches k number (keys_sought work))) visits h
visit_read searches k number work (Create name schema) column predicate visits h = subst (λ b. MatchBool b (work.read ≡ []) (AreFound searches k number (keys_sought work))) visits h
visit_read searches k number work (Update name sets w) column predicate visits h = subst (λ b. MatchBool b (work.read ≡ []) (AreFound searches k number (keys_sought work))) visits h
visit_read searches k number work (Delete name w) column predicate visits h = subst (λ b. MatchBool b (work.read ≡ []) (AreFound searches k number (keys_sought work))) visits h
visit_read searches k number work Begin column predicate visits h = subst (λ b. MatchBool b (work.read ≡ []) (AreFound searches k number (keys_sought work))) visits h
visit_read searches k number work Commit column predicate visits h = subst (λ b. MatchBool b (work.read ≡ []) (AreFound searches k number (keys_sought work))) visits h
visit_read searches k number work Rollback column predicate visits h = subst (λ b. MatchBool b (work.read ≡ []) (AreFound searches k number (keys_sought work))) visits h
visit_read searches k number work (Refused refusal) column predicate visits h = subst (λ b. MatchBool b (work.read ≡ []) (AreFound searches k number (keys_sought work))) visits h

sought_by_box : (searches : List TreeSearch) (k number : ℕ) (work : Work) (statement : Statement) (column : ℕ) (predicate : Predicate) → work.read ≡ []
    → MatchBool (is_visiting work.phase) (work.read ≡ []) (AreFound searches k number (keys_sought work)) → AreSoughtBy searches k number work (by_box column predicate) statement
sought_by_box searches k number work (Insert name rows) column predicate read h = read
sought_by_box searches k number work (Select name columns w) column predicate read h = h
sought_by_box searches k number work (Create name schema) column predicate read h = h
sought_by_box searches k number work (Update name sets w) column predicate read h = h
sought_by_box searches k number work (Delete name w) column predicate read h = h
sought_by_box searches k number work Begin column predicate read h = h
sought_by_box searches k number work Commit column predicate read h = h
sought_by_box searches k number work Rollback column predicate read h = h
sought_by_box searches k number work (Refused refusal) column predicate read h = h

-- ---- searches that go on

of_parts : (s statement : ℕ) (y : TreeSearch) → is_of s statement y ≡ true → (y.search.session ≡ s) × (y.search.statement ≡ statement)
of_parts s statement y h =
    let parts = and_parts (y.search.session == s) (y.search.statement == statement) h in
    (eqb-true y.search.session s parts.0, eqb-true y.search.statement statement parts.1)

-- the search of a session's statement is still there, with what it has found
pub record StillFound (searches : List TreeSearch) (x : TreeSearch) : Type 0 where
  pub now : TreeSearch
  pub among : Has searches now
  pub session : now.search.session ≡ x.search.session
  pub statement : now.search.statement ≡ x.search.statement
  pub found : now.search.found ≡ x.search.found

found_itself : (searches : List TreeSearch) (x : TreeSearch) → Has searches x → StillFound searches x
found_itself searches x h = record { now = x; among = h; session = refl; statement = refl; found = refl }

found_placed : (tree : Tree) (d : Descent) (number q : ℕ) (ds : List Division) (searches : List TreeSearch) (x : TreeSearch) → Has searches x
    → StillFound (map (search_after_place tree d number q ds) searches) x
found_placed tree d number q ds searches x h = by_tree (is_of_tree d.table d.column x) refl
  where
    by_tree : (b : Bool) → is_of_tree d.table d.column x ≡ b → StillFound (map (search_after_place tree d number q ds) searches) x
    by_tree true e = record {
      now = search_after_place tree d number q ds x;
      among = Has-map_of (search_after_place tree d number q ds) searches x h;
      session = ap (λ b. (cond b (attached tree d.path d.box d.key number q ds x.search) x.search).session) e ∙ attached_keeps (λ (y : Search). y.session) (λ y on. refl) tree d.path d.box d.key number q ds x.search;
      statement = ap (λ b. (cond b (attached tree d.path d.box d.key number q ds x.search) x.search).statement) e ∙ attached_keeps (λ (y : Search). y.statement) (λ y on. refl) tree d.path d.box d.key number q ds x.search;
      found = ap (λ b. (cond b (attached tree d.path d.box d.key number q ds x.search) x.search).found) e ∙ attached_keeps (λ (y : Search). y.found) (λ y on. refl) tree d.path d.box d.key number q ds x.search;
    }
    by_tree false e = record {
      now = search_after_place tree d number q ds x;
      among = Has-map_of (search_after_place tree d number q ds) searches x h;
      session = ap (λ b. (cond b (attached tree d.path d.box d.key number q ds x.search) x.search).session) e;
      statement = ap (λ b. (cond b (attached tree d.path d.box d.key number q ds x.search) x.search).statement) e;
      found = ap (λ b. (cond b (attached tree d.path d.box d.key number q ds x.search) x.search).found) e;
    }

-- a visit leaves the searches of others
found_visited : (searches : List TreeSearch) (number column : ℕ) (v : Search) (x : TreeSearch) → is_of v.session v.statement x ≡ false → Has searches x → StillFound (with_search searches number column v) x
found_visited searches number column v x other h = by_test (list_any (is_of v.session v.statement) searches)
  where
    by_test : (b : Bool) → StillFound (cond b (map (λ (y : TreeSearch). record y { search = cond (is_of v.session v.statement y) v y.search }) searches) (searches ++ record { table = number; column = column; search = v } ∷ [])) x
    by_test true = record {
      now = record x { search = cond (is_of v.session v.statement x) v x.search };
      among = Has-map_of (λ (y : TreeSearch). record y { search = cond (is_of v.session v.statement y) v y.search }) searches x h;
      session = ap (λ b. (cond b v x.search).session) other;
      statement = ap (λ b. (cond b v x.search).statement) other;
      found = ap (λ b. (cond b v x.search).found) other;
    }
    by_test false = found_itself (searches ++ record { table = number; column = column; search = v } ∷ []) x (Has-append_left searches (record { table = number; column = column; search = v } ∷ []) x h)

-- and has the visited one
pub record IsVisited (searches : List TreeSearch) (v : Search) : Type 0 where
  pub now : TreeSearch
  pub among : Has searches now
  pub is : now.search ≡ v

any_of : (test : TreeSearch → Bool) (searches : List TreeSearch) → list_any test searches ≡ true → (x : TreeSearch) × Has searches x × (test x ≡ true)
any_of test [] h = absurd (false≢true h)
any_of test (x ∷ searches) h = by_test (test x) refl (any_of test searches) h
  where
    by_test : (b : Bool) → test x ≡ b → (list_any test searches ≡ true → (y : TreeSearch) × Has searches y × (test y ≡ true)) → (b || list_any test searches) ≡ true
        → (y : TreeSearch) × ((x ≡ y) ⊎ Has searches y) × (test y ≡ true)
    by_test true e again k = (x, inl refl, e)
    by_test false e again k = (let r = again k in (r.0, inr r.1, r.2))

visited_there : (searches : List TreeSearch) (number column : ℕ) (v : Search) → IsVisited (with_search searches number column v) v
visited_there searches number column v = by_test (list_any (is_of v.session v.statement) searches) refl
  where
    by_test : (b : Bool) → list_any (is_of v.session v.statement) searches ≡ b
        → IsVisited (cond b (map (λ (y : TreeSearch). record y { search = cond (is_of v.session v.statement y) v y.search }) searches) (searches ++ record { table = number; column = column; search = v } ∷ [])) v
    by_test true e =
        let r = any_of (is_of v.session v.statement) searches e in
        record {
          now = record r.0 { search = cond (is_of v.session v.statement r.0) v r.0.search };
          among = Has-map_of (λ (y : TreeSearch). record y { search = cond (is_of v.session v.statement y) v y.search }) searches r.0 r.1;
          is = ap (λ b. cond b v r.0.search) r.2;
        }
    by_test false e = record {
      now = record { table = number; column = column; search = v };
      among = Has-append_right searches (record { table = number; column = column; search = v } ∷ []) (record { table = number; column = column; search = v }) (inl refl);
      is = refl;
    }

module _ (m : Machine) (state : State) (good : IsProper m) (o : InOrder m state) where
  locked_on : (locks : List Lock) (k : ℕ) (work now : Work) (way : Way) (key : ℤ) → Keeps state.locks locks k → now.table ≡ work.table → now.statement ≡ work.statement
      → IsReadLocked state.locks k work way key → IsReadLocked locks k now way key
  locked_on locks k work now (by_key j) key keep table statement h =
      subst (λ t. Holds locks k t (Some key) (key_mode now.statement)) (sym table) (subst (λ st. Holds locks k work.table (Some key) (key_mode st)) (sym statement) (keep work.table (Some key) (key_mode work.statement) h))
  locked_on locks k work now (by_box column predicate) key keep table statement h =
      subst (λ t. Holds locks k t (Some key) (key_mode now.statement)) (sym table) (subst (λ st. Holds locks k work.table (Some key) (key_mode st)) (sym statement) (keep work.table (Some key) (key_mode work.statement) h))
  locked_on locks k work now by_scan key keep table statement h = tt

  found_on : (searches : List TreeSearch) (k number : ℕ) (keys : List ℤ) → ((x : TreeSearch) → Has state.searches x → x.search.session ≡ k → StillFound searches x)
      → AreFound state.searches k number keys → AreFound searches k number keys
  found_on searches k number keys go f =
      let parts = of_parts k number f.search f.of in
      let now = go f.search f.among parts.0 in
      record {
        search = now.now;
        among = now.among;
        of = is_of_now now.now (now.session ∙ parts.0) (now.statement ∙ parts.1);
        found = f.found ∙ ap rising (sym now.found);
      }
    where
      is_of_now : (x : TreeSearch) → x.search.session ≡ k → x.search.statement ≡ number → is_of k number x ≡ true
      is_of_now x a b =
          let one : (x.search.session == k) ≡ true = eq-eqb x.search.session k a in
          let two : (x.search.statement == number) ≡ true = eq-eqb x.search.statement number b in
          ap (λ t. t && (x.search.statement == number)) one ∙ two

  sought_on : (searches : List TreeSearch) (k number : ℕ) (work now : Work) (way : Way) → ((x : TreeSearch) → Has state.searches x → x.search.session ≡ k → StillFound searches x)
      → keys_sought now ≡ keys_sought work → (is_visiting now.phase ≡ is_visiting work.phase) → (is_visiting work.phase ≡ true → now.read ≡ work.read)
      → AreSought state.searches k number work way → AreSought searches k number now way
  sought_on searches k number work now (by_key key) go keys visits read h = keys ∙ h
  sought_on searches k number work now (by_box column predicate) go keys visits read h =
      subst (λ b. MatchBool b (now.read ≡ []) (AreFound searches k number (keys_sought now))) (sym visits) (by_visits (is_visiting work.phase) refl h)
    where
      by_visits : (b : Bool) → is_visiting work.phase ≡ b → MatchBool b (work.read ≡ []) (AreFound state.searches k number (keys_sought work)) → MatchBool b (now.read ≡ []) (AreFound searches k number (keys_sought now))
      by_visits true e i = read e ∙ i
      by_visits false e i = subst (AreFound searches k number) (sym keys) (found_on searches k number (keys_sought work) go i)
  sought_on searches k number work now by_scan go keys visits read h = tt

  sought_by_on : (searches : List TreeSearch) (k number : ℕ) (work now : Work) (way : Way) (statement : Statement) → ((x : TreeSearch) → Has state.searches x → x.search.session ≡ k → StillFound searches x)
      → keys_sought now ≡ keys_sought work → (is_visiting now.phase ≡ is_visiting work.phase) → (is_visiting work.phase ≡ true → now.read ≡ work.read) → (now.read ≡ work.read ⊎ (FitsPhase way statement work.phase × (FitsInsert work.phase → ⊥)))
      → FitsPhase way statement work.phase → AreSoughtBy state.searches k number work way statement → AreSoughtBy searches k number now way statement
  sought_by_on searches k number work now way (Insert name rows) go keys visits read (inl same) fits h = same ∙ h
  sought_by_on searches k number work now way (Insert name rows) go keys visits read (inr never) fits h = absurd (never.1 fits)
  sought_by_on searches k number work now way (Select name columns w) go keys visits read r fits h = sought_on searches k number work now way go keys visits read h
  sought_by_on searches k number work now way (Create name schema) go keys visits read r fits h = sought_on searches k number work now way go keys visits read h
  sought_by_on searches k number work now way (Update name sets w) go keys visits read r fits h = sought_on searches k number work now way go keys visits read h
  sought_by_on searches k number work now way (Delete name w) go keys visits read r fits h = sought_on searches k number work now way go keys visits read h
  sought_by_on searches k number work now way Begin go keys visits read r fits h = sought_on searches k number work now way go keys visits read h
  sought_by_on searches k number work now way Commit go keys visits read r fits h = sought_on searches k number work now way go keys visits read h
  sought_by_on searches k number work now way Rollback go keys visits read r fits h = sought_on searches k number work now way go keys visits read h
  sought_by_on searches k number work now way (Refused refusal) go keys visits read r fits h = sought_on searches k number work now way go keys visits read h

  way_same : (tables : List StoredTable) (work now : Work) → map definition_at tables ≡ map definition_at state.tables → now.table ≡ work.table → now.statement ≡ work.statement
      → way_of m.ways tables now ≡ way_of m.ways state.tables work
  way_same tables work now same table statement =
      ap (λ sch. m.ways sch now.statement) (same_schema now.table tables state.tables same ∙ ap (λ t. (table_at state.tables t).schema) table)
      ∙ ap (m.ways (table_at state.tables work.table).schema) statement

  -- the same keys sought and read
  moved : (tables : List StoredTable) (locks : List Lock) (searches : List TreeSearch) (k : ℕ) (session new : SessionState) (work now : Work) → map definition_at tables ≡ map definition_at state.tables
      → Keeps state.locks locks k → ((x : TreeSearch) → Has state.searches x → x.search.session ≡ k → StillFound searches x) → new.number ≡ session.number
      → now.table ≡ work.table → now.statement ≡ work.statement → now.read ≡ work.read → keys_left now.phase ≡ keys_left work.phase → is_visiting now.phase ≡ is_visiting work.phase
      → FitsPhase (way_of m.ways state.tables work) work.statement work.phase
      → HasKeys m.ways state.tables state.locks state.searches k session work → HasKeys m.ways tables locks searches k new now
  moved tables locks searches k session new work now same keep go number table statement read left visits fits h = record {
    locked = λ key row has. subst (λ way. IsReadLocked locks k now way key) (sym (way_same tables work now same table statement))
        (locked_on locks k work now (way_of m.ways state.tables work) key keep table statement (h.locked key row (subst (λ xs. Has {X = ℤ × Option Row} xs (key, row)) read has)));
    rising = ap ascend keys ∙ h.rising;
    sought = subst (λ st. AreSoughtBy searches k new.number now (way_of m.ways tables now) st) (sym statement)
        (subst (λ way. AreSoughtBy searches k new.number now way work.statement) (sym (way_same tables work now same table statement))
        (subst (λ n. AreSoughtBy searches k n now (way_of m.ways state.tables work) work.statement) (sym number)
        (sought_by_on searches k session.number work now (way_of m.ways state.tables work) work.statement go keys visits (λ e. read) (inl read) fits h.sought)));
  }
    where
      keys : keys_sought now ≡ keys_sought work
      keys = ap (λ xs. map (λ r. r.0) xs ++ keys_left now.phase) read ∙ ap (λ ks. map (λ r. r.0) work.read ++ ks) left

  step : (s : ℕ) (tables : List StoredTable) (locks : List Lock) (searches : List TreeSearch) (new : SessionState) → IsActive state s → map definition_at tables ≡ map definition_at state.tables
      → ((k : ℕ) → (k == s) ≡ false → Keeps state.locks locks k) → ((k : ℕ) → (k == s) ≡ false → (x : TreeSearch) → Has state.searches x → x.search.session ≡ k → StillFound searches x)
      → ((work : Work) → new.work ≡ Some work → HasKeys m.ways tables locks searches s new work) → HaveKeys m.ways tables locks searches (slice_set state.sessions s new)
  step s tables locks searches new active same keep go own =
      work_step (HasKeys m.ways tables locks searches) state.sessions s new active.not_over own
      (λ k ne work at. moved tables locks searches k (session_at state.sessions k) (session_at state.sessions k) work work same (keep k ne) (go k ne) refl refl refl refl refl refl (o.bound k work at).phase
      (o.keys_locked k work at))

  keep_all : (k : ℕ) → Keeps state.locks state.locks k
  keep_all k table key mode h = h

  go_all : (k : ℕ) (x : TreeSearch) → Has state.searches x → x.search.session ≡ k → StillFound state.searches x
  go_all k x h e = found_itself state.searches x h

  at_work : (s : ℕ) (tables : List StoredTable) (locks : List Lock) (searches : List TreeSearch) (new : SessionState) (f : Work → Work) (work : Work) → IsActive state s
      → map definition_at tables ≡ map definition_at state.tables → ((k : ℕ) → Keeps state.locks locks k) → ((k : ℕ) (x : TreeSearch) → Has state.searches x → x.search.session ≡ k → StillFound searches x)
      → (session_at state.sessions s).work ≡ Some work → new.work ≡ option_map f (session_at state.sessions s).work → new.number ≡ (session_at state.sessions s).number
      → (f work).table ≡ work.table → (f work).statement ≡ work.statement → (f work).read ≡ work.read → keys_left (f work).phase ≡ keys_left work.phase → is_visiting (f work).phase ≡ is_visiting work.phase
      → HaveKeys m.ways tables locks searches (slice_set state.sessions s new)
  at_work s tables locks searches new f work active same keep go at is number table statement read left visits =
      step s tables locks searches new active same (λ k ne. keep k) (λ k ne. go k)
      (λ now now_at. subst (λ (w : Work). HasKeys m.ways tables locks searches s new w) (carried f (session_at state.sessions s) new work now is at now_at)
      (moved tables locks searches s (session_at state.sessions s) new work (f work) same (keep s) (go s) number table statement read left visits (o.bound s work at).phase (o.keys_locked s work at)))

  -- ---- its own events

  begins : (s number : ℕ) (statement : Statement) (locks : List Lock) (new : SessionState) (work : Work) → IsActive state s → ((k : ℕ) → Keeps state.locks locks k)
      → new.work ≡ Some work → work.read ≡ [] → work.statement ≡ statement → work.table ≡ number
      → work.phase ≡ first_phase (table_at state.tables number) statement (m.ways (table_at state.tables number).schema statement)
      → HaveKeys m.ways state.tables locks state.searches (slice_set state.sessions s new)
  begins s number statement locks new work active keep is read of table phase =
      step s state.tables locks state.searches new active refl (λ k ne. keep k) (λ k ne. go_all k)
      (λ now now_at. subst (λ (w : Work). HasKeys m.ways state.tables locks state.searches s new w) (some_is work now (sym is ∙ now_at)) keys)
    where
      way_is : way_of m.ways state.tables work ≡ m.ways (table_at state.tables number).schema statement
      way_is = ap (λ t. m.ways (table_at state.tables t).schema work.statement) table ∙ ap (m.ways (table_at state.tables number).schema) of

      keys : HasKeys m.ways state.tables locks state.searches s new work
      keys = record {
        locked = λ key row has. absurd (subst (λ xs. Has {X = ℤ × Option Row} xs (key, row)) read has);
        rising = ap (λ xs. ascend (map (λ r. r.0) xs ++ keys_left work.phase)) read ∙ ap (λ p. ascend (keys_left p)) phase
            ∙ begun_rises (table_at state.tables number) statement (m.ways (table_at state.tables number).schema statement);
        sought = subst (λ st. AreSoughtBy state.searches s new.number work (way_of m.ways state.tables work) st) (sym of)
            (subst (λ way. AreSoughtBy state.searches s new.number work way statement) (sym way_is)
            (begun_sought (table_at state.tables number) state.searches s new.number work statement (m.ways (table_at state.tables number).schema statement) read phase));
      }

  one_more : (s number : ℕ) (key : ℤ) (mode : Mode) (row : Option Row) (new : SessionState) (f : Work → Work) → IsActive state s → (at : IsLockingKey (session_at state.sessions s) number key mode)
      → new.work ≡ option_map f (session_at state.sessions s).work → new.number ≡ (session_at state.sessions s).number
      → (f at.work).table ≡ at.work.table → (f at.work).statement ≡ at.work.statement → (f at.work).read ≡ at.work.read ++ (key, row) ∷ []
      → keys_left (f at.work).phase ≡ at.keys → is_visiting (f at.work).phase ≡ false
      → HaveKeys m.ways state.tables (with_lock state.locks (key_lock s number key mode)) state.searches (slice_set state.sessions s new)
  one_more s number key mode row new f active at is same_number table statement read left visits =
      step s state.tables (with_lock state.locks (key_lock s number key mode)) state.searches new active refl (λ k ne. keeps_all state.locks (key_lock s number key mode) k) (λ k ne. go_all k)
      (λ now now_at. subst (λ (w : Work). HasKeys m.ways state.tables (with_lock state.locks (key_lock s number key mode)) state.searches s new w)
      (carried f (session_at state.sessions s) new at.work now is at.goes_on.at_work now_at) keys)
    where
      old : HasKeys m.ways state.tables state.locks state.searches s (session_at state.sessions s) at.work
      old = o.keys_locked s at.work at.goes_on.at_work

      fits : FitsPhase (way_of m.ways state.tables at.work) at.work.statement at.work.phase
      fits = (o.bound s at.work at.goes_on.at_work).phase

      way_is : way_of m.ways state.tables (f at.work) ≡ way_of m.ways state.tables at.work
      way_is = way_same state.tables at.work (f at.work) refl table statement

      same_keys : keys_sought (f at.work) ≡ keys_sought at.work
      same_keys =
          ap (λ xs. map (λ r. r.0) xs ++ keys_left (f at.work).phase) read
          ∙ ap (λ ks. map (λ r. r.0) (at.work.read ++ (key, row) ∷ []) ++ ks) left
          ∙ ap (λ ks. ks ++ at.keys) (map-append (λ r. r.0) at.work.read ((key, row) ∷ []))
          ∙ append_assoc (map (λ r. r.0) at.work.read) (key ∷ []) at.keys
          ∙ ap (λ p. map (λ r. r.0) at.work.read ++ keys_left p) (sym at.phase)

      new_held : (way : Way) → IsReadLocked (with_lock state.locks (key_lock s number key mode)) s (f at.work) way key
      new_held (by_key j) = held
        where
          held : Holds (with_lock state.locks (key_lock s number key mode)) s (f at.work).table (Some key) (key_mode (f at.work).statement)
          held =
              subst (λ t. Holds (with_lock state.locks (key_lock s number key mode)) s t (Some key) (key_mode (f at.work).statement)) (at.number_is ∙ sym table)
              (subst (λ x. Holds (with_lock state.locks (key_lock s number key mode)) s number (Some key) x) (at.mode_is ∙ ap key_mode (sym statement)) (now_held state.locks (key_lock s number key mode)))
      new_held (by_box column predicate) =
          subst (λ t. Holds (with_lock state.locks (key_lock s number key mode)) s t (Some key) (key_mode (f at.work).statement)) (at.number_is ∙ sym table)
          (subst (λ x. Holds (with_lock state.locks (key_lock s number key mode)) s number (Some key) x) (at.mode_is ∙ ap key_mode (sym statement)) (now_held state.locks (key_lock s number key mode)))
      new_held by_scan = tt

      locked_cases : (way : Way) → ((j : ℤ) (r : Option Row) → Has {X = ℤ × Option Row} at.work.read (j, r) → IsReadLocked state.locks s at.work way j) → (j : ℤ) (r : Option Row)
          → Has {X = ℤ × Option Row} at.work.read (j, r) ⊎ Has {X = ℤ × Option Row} ((key, row) ∷ []) (j, r) → IsReadLocked (with_lock state.locks (key_lock s number key mode)) s (f at.work) way j
      locked_cases way h j r (inl has) =
          locked_on (with_lock state.locks (key_lock s number key mode)) s at.work (f at.work) way j (keeps_all state.locks (key_lock s number key mode) s) table statement (h j r has)
      locked_cases way h j r (inr (inl e)) = subst (λ i. IsReadLocked (with_lock state.locks (key_lock s number key mode)) s (f at.work) way i) (ap (λ p. p.0) e) (new_held way)
      locked_cases way h j r (inr (inr has)) = absurd has

      keys : HasKeys m.ways state.tables (with_lock state.locks (key_lock s number key mode)) state.searches s new (f at.work)
      keys = record {
        locked = λ j r has. subst (λ way. IsReadLocked (with_lock state.locks (key_lock s number key mode)) s (f at.work) way j) (sym way_is)
            (locked_cases (way_of m.ways state.tables at.work) old.locked j r (Has-append at.work.read ((key, row) ∷ []) (j, r) (subst (λ xs. Has {X = ℤ × Option Row} xs (j, r)) read has)));
        rising = ap ascend same_keys ∙ old.rising;
        sought = subst (λ st. AreSoughtBy state.searches s new.number (f at.work) (way_of m.ways state.tables (f at.work)) st) (sym statement)
            (subst (λ way. AreSoughtBy state.searches s new.number (f at.work) way at.work.statement) (sym way_is)
            (subst (λ n. AreSoughtBy state.searches s n (f at.work) (way_of m.ways state.tables at.work) at.work.statement) (sym same_number)
            (sought_by_on state.searches s (session_at state.sessions s).number at.work (f at.work) (way_of m.ways state.tables at.work) at.work.statement (go_all s) same_keys
            (visits ∙ sym (ap is_visiting at.phase)) (λ e. absurd (false≢true (sym (ap is_visiting at.phase) ∙ e)))
            (inr (fits, λ i. subst FitsInsert at.phase i)) fits old.sought)));
      }

  scans : (s number : ℕ) (leaf : Leaf) (new : SessionState) (f : Work → Work) → IsActive state s → (at : IsScanning state (session_at state.sessions s) number leaf)
      → new.work ≡ option_map f (session_at state.sessions s).work → (f at.work).table ≡ at.work.table → (f at.work).statement ≡ at.work.statement
      → (f at.work).read ≡ at.work.read ++ map as_read (rows_in leaf) → keys_left (f at.work).phase ≡ [] → HaveKeys m.ways state.tables state.locks state.searches (slice_set state.sessions s new)
  scans s number leaf new f active at is table statement read left =
      step s state.tables state.locks state.searches new active refl (λ k ne. keep_all k) (λ k ne. go_all k)
      (λ now now_at. subst (λ (w : Work). HasKeys m.ways state.tables state.locks state.searches s new w) (carried f (session_at state.sessions s) new at.work now is at.goes_on.at_work now_at) keys)
    where
      fits : FitsPhase (way_of m.ways state.tables at.work) at.work.statement (scanning at.last)
      fits = subst (FitsPhase (way_of m.ways state.tables at.work) at.work.statement) at.phase (o.bound s at.work at.goes_on.at_work).phase

      way_is : way_of m.ways state.tables (f at.work) ≡ way_of m.ways state.tables at.work
      way_is = way_same state.tables at.work (f at.work) refl table statement

      before : at.work.read ≡ read_on (leaves_scanned (table_at state.tables at.work.table).leaves at.last)
      before = subst (IsReadOf (table_at state.tables at.work.table) at.work) at.phase (o.scanned s at.work at.goes_on.at_work at.goes_on.undisturbed)

      now_read : (f at.work).read ≡ read_on (leaves_scanned (table_at state.tables at.work.table).leaves (Some leaf.page))
      now_read =
          let bound = o.bound s at.work at.goes_on.at_work in
          let keyed = o.keyed.each (table_at state.tables at.work.table) (table_has at.work.table state.tables bound.first bound.last) in
          read ∙ ap (λ xs. xs ++ map as_read (rows_in leaf)) before ∙ sym (read_append (leaves_scanned (table_at state.tables at.work.table).leaves at.last) leaf)
          ∙ ap read_on (sym (scanned_next (table_at state.tables at.work.table).leaves at.last leaf keyed.apart at.leaf_is))

      rises : ascend (keys_sought (f at.work)) ≡ true
      rises =
          let bound = o.bound s at.work at.goes_on.at_work in
          let keyed = o.keyed.each (table_at state.tables at.work.table) (table_has at.work.table state.tables bound.first bound.last) in
          ap (λ ks. ascend (map (λ r. r.0) (f at.work).read ++ ks)) left
          ∙ ap ascend (append-nil (map (λ r. r.0) (f at.work).read))
          ∙ ap (λ xs. ascend (map (λ r. r.0) xs)) now_read
          ∙ read_ascends (rows_on (leaves_scanned (table_at state.tables at.work.table).leaves (Some leaf.page)))
          (front_rises (table_at state.tables at.work.table).leaves (leaves_scanned (table_at state.tables at.work.table).leaves (Some leaf.page))
          (scanned_front (table_at state.tables at.work.table).leaves (Some leaf.page)) keyed.rising)

      keys : HasKeys m.ways state.tables state.locks state.searches s new (f at.work)
      keys = record {
        locked = λ j r has. subst (λ way. IsReadLocked state.locks s (f at.work) way j) (sym way_is)
            (scan_locked state.locks s (f at.work) (way_of m.ways state.tables at.work) j (scans_by (way_of m.ways state.tables at.work) at.work.statement at.last fits));
        rising = rises;
        sought = subst (λ st. AreSoughtBy state.searches s new.number (f at.work) (way_of m.ways state.tables (f at.work)) st) (sym statement)
            (subst (λ way. AreSoughtBy state.searches s new.number (f at.work) way at.work.statement) (sym way_is)
            (scan_sought_by state.searches s new.number (f at.work) (way_of m.ways state.tables at.work) at.work.statement at.last fits));
      }

  flip_false : (k s : ℕ) → (k == s) ≡ false → (s == k) ≡ false
  flip_false k s ne = by_test (s == k) refl
    where
      by_test : (b : Bool) → (s == k) ≡ b → b ≡ false
      by_test true e = absurd (false≢true (sym ne ∙ eq-eqb k s (sym (eqb-true s k e))))
      by_test false e = refl

  visits_on : (s number column : ℕ) (predicate : Predicate) (new : SessionState) (f : Work → Work) → IsActive state s → (at : IsVisiting m state (session_at state.sessions s) number column predicate)
      → new.work ≡ option_map f (session_at state.sessions s).work → new.number ≡ (session_at state.sessions s).number
      → (f at.work).table ≡ at.work.table → (f at.work).statement ≡ at.work.statement → (f at.work).read ≡ at.work.read
      → (f at.work).phase ≡ phase_after_visit (table_at state.tables number) at.work.statement (seen_now m state o s number column predicate at)
      → HaveKeys m.ways state.tables state.locks (with_search state.searches number column (seen_now m state o s number column predicate at)) (slice_set state.sessions s new)
  visits_on s number column predicate new f active at is same_number table statement read phase =
      step s state.tables state.locks (with_search state.searches number column (seen_now m state o s number column predicate at)) new active refl (λ k ne. keep_all k)
      (λ k ne x has e. found_visited state.searches number column (seen_now m state o s number column predicate at) x
      (ap (λ i. (x.search.session == i) && (x.search.statement == (seen_now m state o s number column predicate at).statement)) (now_session m state o s number column predicate at)
      ∙ ap (λ b. b && (x.search.statement == (seen_now m state o s number column predicate at).statement)) (ap (λ i. i == s) e ∙ ne)) has)
      (λ now now_at. subst (λ (w : Work). HasKeys m.ways state.tables state.locks (with_search state.searches number column (seen_now m state o s number column predicate at)) s new w)
      (carried f (session_at state.sessions s) new at.work now is at.goes_on.at_work now_at) keys)
    where
      nothing : at.work.read ≡ []
      nothing =
          visit_read state.searches s (session_at state.sessions s).number at.work at.work.statement column predicate (ap is_visiting at.phase)
          (subst (λ way. AreSoughtBy state.searches s (session_at state.sessions s).number at.work way at.work.statement) at.way (o.keys_locked s at.work at.goes_on.at_work).sought)

      none : (f at.work).read ≡ []
      none = read ∙ nothing

      way_is : way_of m.ways state.tables (f at.work) ≡ by_box column predicate
      way_is = way_same state.tables at.work (f at.work) refl table statement ∙ at.way

      sought_is : keys_sought (f at.work) ≡ keys_left (phase_after_visit (table_at state.tables number) at.work.statement (seen_now m state o s number column predicate at))
      sought_is = ap (λ xs. map (λ r. r.0) xs ++ keys_left (f at.work).phase) none ∙ ap keys_left phase

      by_stack : (b : Bool)
          → keys_sought (f at.work) ≡ keys_left (cond b (phase_of_keys (table_at state.tables number) at.work.statement (rising (seen_now m state o s number column predicate at).found) []) visiting)
          → is_visiting (f at.work).phase ≡ is_visiting (cond b (phase_of_keys (table_at state.tables number) at.work.statement (rising (seen_now m state o s number column predicate at).found) []) visiting)
          → (ascend (keys_sought (f at.work)) ≡ true)
          × MatchBool (is_visiting (f at.work).phase) ((f at.work).read ≡ [])
          (AreFound (with_search state.searches number column (seen_now m state o s number column predicate at)) s new.number (keys_sought (f at.work)))
      by_stack true keys_are visits_is =
          let all : keys_sought (f at.work) ≡ rising (seen_now m state o s number column predicate at).found =
          keys_are ∙ keys_of_left (table_at state.tables number) at.work.statement (rising (seen_now m state o s number column predicate at).found) [] in
          let there : IsVisited (with_search state.searches number column (seen_now m state o s number column predicate at)) (seen_now m state o s number column predicate at) =
          visited_there state.searches number column (seen_now m state o s number column predicate at) in
          let no : is_visiting (f at.work).phase ≡ false = visits_is ∙ keys_of_visits (table_at state.tables number) at.work.statement (rising (seen_now m state o s number column predicate at).found) [] in
          let of_session : (there.now.search.session == s) ≡ true =
          eq-eqb there.now.search.session s (ap (λ (x : Search). x.session) there.is ∙ now_session m state o s number column predicate at) in
          let of_statement : (there.now.search.statement == new.number) ≡ true =
          eq-eqb there.now.search.statement new.number (ap (λ (x : Search). x.statement) there.is ∙ now_statement m state o s number column predicate at ∙ sym same_number) in (
            ap ascend all ∙ rising_ascends (seen_now m state o s number column predicate at).found,
            subst (λ b. MatchBool b ((f at.work).read ≡ []) (AreFound (with_search state.searches number column (seen_now m state o s number column predicate at)) s new.number (keys_sought (f at.work)))) (sym no)
                (record {
                  search = there.now;
                  among = there.among;
                  of = ap (λ b. b && (there.now.search.statement == new.number)) of_session ∙ of_statement;
                  found = all ∙ ap (λ (x : Search). rising x.found) (sym there.is);
                }),
          )
      by_stack false keys_are visits_is = (
        ap ascend keys_are,
        subst (λ b. MatchBool b ((f at.work).read ≡ []) (AreFound (with_search state.searches number column (seen_now m state o s number column predicate at)) s new.number (keys_sought (f at.work)))) (sym visits_is) none,
      )

      two : (ascend (keys_sought (f at.work)) ≡ true)
          × MatchBool (is_visiting (f at.work).phase) ((f at.work).read ≡ [])
          (AreFound (with_search state.searches number column (seen_now m state o s number column predicate at)) s new.number (keys_sought (f at.work)))
      two = by_stack (is_empty (seen_now m state o s number column predicate at).stack) sought_is (ap is_visiting phase)

      keys : HasKeys m.ways state.tables state.locks (with_search state.searches number column (seen_now m state o s number column predicate at)) s new (f at.work)
      keys = record {
        locked = λ j r has. absurd (subst (λ xs. Has {X = ℤ × Option Row} xs (j, r)) none has);
        rising = two.0;
        sought = subst (λ way. AreSoughtBy (with_search state.searches number column (seen_now m state o s number column predicate at)) s new.number (f at.work) way (f at.work).statement) (sym way_is)
            (sought_by_box (with_search state.searches number column (seen_now m state o s number column predicate at)) s new.number (f at.work) (f at.work).statement column predicate none two.1);
      }

  -- ---- each event

  without_work : (s : ℕ) (locks : List Lock) (searches : List TreeSearch) (new : SessionState) → IsActive state s → ((k : ℕ) → (k == s) ≡ false → Keeps state.locks locks k)
      → ((k : ℕ) → (k == s) ≡ false → (x : TreeSearch) → Has state.searches x → x.search.session ≡ k → StillFound searches x) → new.work ≡ None
      → HaveKeys m.ways state.tables locks searches (slice_set state.sessions s new)
  without_work s locks searches new active keep go none = step s state.tables locks searches new active refl keep go (λ work at. absurd (no_work new work none at))

  go_end : (s k : ℕ) → (k == s) ≡ false → (x : TreeSearch) → Has state.searches x → x.search.session ≡ k → StillFound (searches_without state.searches s) x
  go_end s k ne x h e = found_itself (searches_without state.searches s) x (left_is state.searches s x (ap (λ i. i == s) e ∙ ne) h)

  created : (s : ℕ) (tables : List StoredTable) (locks : List Lock) (searches : List TreeSearch) (new : SessionState) → IsActive state s → s ≡ 0 → new.work ≡ None
      → HaveKeys m.ways tables locks searches (slice_set state.sessions s new)
  created s tables locks searches new active is none =
      work_step (HasKeys m.ways tables locks searches) state.sessions s new active.not_over (λ work at. absurd (no_work new work none at))
      (λ k ne work at. absurd (no_work (session_at state.sessions k) work
      (o.idle.setup_first (subst (λ i. (session_at state.sessions i).over ≡ false) is active.not_over) k (ap (λ i. k == i) (sym is) ∙ ne)).0.no_work at))

  undone : (s : ℕ) (tables : List StoredTable) (new : SessionState) → IsActive state s → map definition_at tables ≡ map definition_at state.tables → new.work ≡ (session_at state.sessions s).work
      → new.number ≡ (session_at state.sessions s).number → HaveKeys m.ways tables state.locks state.searches (slice_set state.sessions s new)
  undone s tables new active same is number =
      step s tables state.locks state.searches new active same (λ k ne. keep_all k) (λ k ne. go_all k)
      (λ work at. (let before : (session_at state.sessions s).work ≡ Some work = sym is ∙ at in
      moved tables state.locks state.searches s (session_at state.sessions s) new work work same (keep_all s) (go_all s) number refl refl refl refl refl (o.bound s work before).phase (o.keys_locked s work before)))

  row_left : (table : StoredTable) (s : ℕ) (en : IsEntering (session_at state.sessions s)) → keys_left (phase_after_row table en.work en.work.phase) ≡ keys_left en.work.phase
  row_left table s en = ap (λ p. keys_left (phase_after_row table en.work p)) en.phase ∙ with_left en.work.statement (indexed table) (en.done ++ en.change ∷ []) en.left ∙ sym (ap keys_left en.phase)

  row_visits : (table : StoredTable) (s : ℕ) (en : IsEntering (session_at state.sessions s)) → is_visiting (phase_after_row table en.work en.work.phase) ≡ is_visiting en.work.phase
  row_visits table s en =
      ap (λ p. is_visiting (phase_after_row table en.work p)) en.phase ∙ with_visits en.work.statement (indexed table) (en.done ++ en.change ∷ []) en.left ∙ sym (ap is_visiting en.phase)

  scan_left : (table : StoredTable) (statement : Statement) (leaf : Leaf) (read : List (ℤ × Option Row)) → keys_left (phase_after_leaf table statement leaf read) ≡ []
  scan_left table statement leaf read = by_last (is_none (leaf_behind table.leaves leaf.page))
    where
      by_last : (b : Bool) → keys_left (cond b (phase_with statement (indexed table) [] (changes_of statement read)) (scanning (Some leaf.page))) ≡ []
      by_last true = with_left statement (indexed table) [] (changes_of statement read)
      by_last false = refl

  pub keys_each : EachKeeps m state (λ (st : State). HaveKeys m.ways st.tables st.locks st.searches st.sessions)
  keys_each = record {
    still = o.keys_locked;
    purge = λ some k work at. moved (tables_purged state.locks state.queue state.tables) state.locks state.searches k (session_at state.sessions k) (session_at state.sessions k) work work
        (purged_keeps state.locks state.queue state.tables) (keep_all k) (go_all k) refl refl refl refl refl refl (o.bound k work at).phase (o.keys_locked k work at);
    end = λ s over active. without_work s (without state.locks s) (searches_without state.searches s) _ active (keeps_others state.locks s) (go_end s) refl;
    answer = λ s reply active at. without_work s state.locks state.searches _ active (λ k ne. keep_all k) (λ k ne. go_all k) refl;
    undo = λ s entry more active at. undone s _ _ active (definitions_changed entry.table (table_with_row entry.key (restored entry.image)) state.tables (λ t. refl)) refl refl;
    create = λ s over name schema leaf roots active at may. created s _ _ _ _ active at.setup refl;
    refuse = λ s on ds active at may. work_victims (HasKeys m.ways state.tables state.locks state.searches)
        (λ k x work h. record { locked = h.locked; rising = h.rising; sought = h.sought }) state.sessions ds o.keys_locked;
    lock_table = λ s statement number mode active at none. begins s number statement _ _ _ active (keeps_all state.locks (table_lock s number mode)) refl refl refl refl refl;
    lock_key = λ s number key mode active at none. one_more s number key mode (row_of (present (table_at state.tables number) key)) _ _ active at refl refl refl refl
        (ap (λ p. read_with p at.work.read (row_of (present (table_at state.tables number) key))) at.phase)
        (ap (λ p. keys_left (phase_after_key (table_at state.tables number) at.work.statement p (read_with at.work.phase at.work.read (row_of (present (table_at state.tables number) key))))) at.phase
        ∙ keys_of_left (table_at state.tables number) at.work.statement at.keys (read_with at.work.phase at.work.read (row_of (present (table_at state.tables number) key))))
        (ap (λ p. is_visiting (phase_after_key (table_at state.tables number) at.work.statement p (read_with at.work.phase at.work.read (row_of (present (table_at state.tables number) key))))) at.phase
        ∙ keys_of_visits (table_at state.tables number) at.work.statement at.keys (read_with at.work.phase at.work.read (row_of (present (table_at state.tables number) key))));
    lock_row = λ s number key mode active at none. at_work s state.tables _ state.searches _ _ at.work active refl (keeps_all state.locks (key_lock s number key mode)) go_all at.goes_on.at_work refl refl refl refl
        (ap (λ p. read_with p at.work.read (row_of (present (table_at state.tables number) key))) at.phase)
        (ap (λ p. keys_left (phase_after_key (table_at state.tables number) at.work.statement p (read_with at.work.phase at.work.read (row_of (present (table_at state.tables number) key))))) at.phase ∙ sym (ap keys_left at.phase))
        (ap (λ p. is_visiting (phase_after_key (table_at state.tables number) at.work.statement p (read_with at.work.phase at.work.read (row_of (present (table_at state.tables number) key))))) at.phase ∙ sym (ap is_visiting at.phase));
    visit = λ s number column predicate active at. visits_on s number column predicate _ _ active at refl refl refl refl refl refl;
    scan = λ s number leaf active at. scans s number leaf _ _ active at refl refl refl refl
        (scan_left (table_at state.tables number) at.work.statement leaf (at.work.read ++ map as_read (rows_in leaf)));
    step = λ s d q active at may. at_work s state.tables state.locks state.searches _ _ at.descending.entering.work active refl keep_all go_all at.descending.entering.goes_on.at_work refl refl refl refl refl
        (entry_left _ at.descending.entering.work.phase) (entry_visits _ at.descending.entering.work.phase);
    stale = λ s d active at. at_work s state.tables state.locks state.searches _ _ at.descending.entering.work active refl keep_all go_all at.descending.entering.goes_on.at_work refl refl refl refl refl
        (entry_left _ at.descending.entering.work.phase) (entry_visits _ at.descending.entering.work.phase);
    full = λ s active at. at_work s state.tables state.locks state.searches _ _ at.work active refl keep_all go_all at.goes_on.at_work refl refl refl refl refl refl refl;
    place = λ s d q ds active at may. at_work s _ state.locks _ _ _ at.descending.entering.work active (definitions_changed d.table (table_after_place d state.entries q ds) state.tables (λ t. refl)) keep_all
        (λ k x h e. found_placed (tree_for state d) d state.entries q ds state.searches x h) at.descending.entering.goes_on.at_work refl refl refl refl refl
        (entry_left _ at.descending.entering.work.phase) (entry_visits _ at.descending.entering.work.phase);
    row = λ s number change placed p active at may. at_work s _ state.locks state.searches _ _ at.entering.work active
        (definitions_changed number (table_after_row p change placed change.new) state.tables (row_keeps p change placed change.new)) keep_all go_all at.entering.goes_on.at_work refl refl refl refl refl
        (row_left (table_at state.tables number) s at.entering) (row_visits (table_at state.tables number) s at.entering);
  }

pub keys_kept : (m : Machine) (state : State) (actor : Actor) (choice : Choice) → IsProper m → InOrder m state → MayHappen m state actor choice
    → HaveKeys m.ways (after m state actor choice).tables (after m state actor choice).locks (after m state actor choice).searches (after m state actor choice).sessions
keys_kept m state actor choice good o h =
    event_keeps m state good o (λ (st : State). HaveKeys m.ways st.tables st.locks st.searches st.sessions) (keys_each m state good o) actor choice h
