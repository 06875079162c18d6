-- What an event of a session leaves of the others.
use Rattle.std.proofs.Common.{◌≡◌, ◌⊎◌, ◌∙◌, inl, inr, refl, sym, ap, subst, ℕ, ◌==◌, not, cond, Bool, true, false, Option, Some, None, List, [], ◌∷◌, ◌++◌, map, eqb-true, eq-eqb}
use Rattle.std.specs.Prelude.{IsTrue, filter, slice_set, if◌then◌else◌}
use Rattle.std.specs.List.{list_any}
use Rattle.std.proofs.lemmas.Bool.{false≢true, and_parts}
use Rattle.isp_reclock.specs.declared.entries.Lock.{Lock}
use Rattle.isp_reclock.specs.Tables.{held_by, holds, key_lock, table_lock, with_lock, without as locks_without}
use Rattle.isp_waits.specs.Graphs.{WaitsFor, has}
use Rattle.isp_forest.specs.Tree.{Tree}
use Rattle.isp_forest.specs.Place.{Division}
use Rattle.isp_forest.specs.Attach.{attached}
use Rattle.isp_forest.specs.Search.{Search}
use Rattle.isp_events.specs.Stored.{table_at, tree_of}
use Rattle.isp_events.specs.Sessions.{SessionState, session_at}
use Rattle.isp_events.specs.State.{State, TreeSearch, ended}
use Rattle.isp_events.specs.Ways.{Machine}
use Rattle.isp_events.specs.Lines.{is_search_of}
use Rattle.isp_events.specs.Next.{Descent, EventKind, answers, undoes, creates, asks_table, asks_key, visits, scans, steps, goes_stale, finds_full, places, writes, next}
use Rattle.isp_events.specs.Deadlocks.{Deadlock, after_refusal, as_victim, waits_with, with_victims}
use Rattle.isp_events.specs.Reading.{is_of, search_before, visited, with_search}
use Rattle.isp_events.specs.Placing.{is_of_tree, search_after_place}
use Rattle.isp_events.specs.Ending.{searches_without}
use Rattle.isp_events.specs.Events.{Choice, with_nothing, with_blockers, with_deadlocks, with_child, with_divisions, with_put, with_undo_pages, with_roots, MayChoose, MayGoOn, after_kind, after_next}
use Rattle.isp_order.proofs.SessionLaws.{other_at}
use Rattle.isp_order_locks.proofs.SearchParts.{attached_keeps, before_same, visited_same}
use Rattle.isp_order_locks.proofs.WaitGraphs.{remaining, waits_other, within_broken}
use Rattle.isp_order_trees.proofs.NoteParts.{set_relates}
use Rattle.isp_order_others.specs.WhatStays.{IsAsBefore, IsLeft, OthersAreLeft, searches_by, without_pages}

flip : (k s : ℕ) → (k == s) ≡ false → (s == k) ≡ false
flip k s ne = by_test (s == k) refl
  where
    by_test : (b : Bool) → (s == k) ≡ b → b ≡ false
    by_test true e = absurd (false≢true (sym ne ∙ eq-eqb k s (sym (eqb-true s k e))))
    by_test false e = refl

-- ---- victims

as_before : (x y z : SessionState) → IsAsBefore x y → IsAsBefore y z → IsAsBefore x z
as_before x y z (inl a) (inl b) = inl (b ∙ a)
as_before x y z (inl a) (inr b) = inr (b ∙ ap as_victim a)
as_before x y z (inr a) (inl b) = inr (b ∙ a)
as_before x y z (inr a) (inr b) = inr (b ∙ ap as_victim a)

pub victims_as_before : (sessions : List SessionState) (ds : List Deadlock) (k : ℕ) → IsAsBefore (session_at sessions k) (session_at (with_victims sessions ds) k)
victims_as_before sessions [] k = inl refl
victims_as_before sessions (d ∷ ds) k =
    let now : List SessionState = slice_set sessions d.victim (as_victim (session_at sessions d.victim)) in
    as_before (session_at sessions k) (session_at now k) (session_at (with_victims now ds) k)
    (set_relates IsAsBefore (λ x. inl refl) sessions d.victim (as_victim (session_at sessions d.victim)) (inr refl) k)
    (victims_as_before now ds k)

-- ---- locks

more_held : (locks : List Lock) (lock : Lock) (k : ℕ) → (lock.trx == k) ≡ false → held_by (with_lock locks lock) k ≡ held_by locks k
more_held locks lock k ne = by_test (holds locks lock)
  where
    none : filter (λ (x : Lock). x.trx == k) (lock ∷ []) ≡ []
    none = ap (λ b. cond b (lock ∷ []) []) ne

    appended : (xs : List Lock) → filter (λ (x : Lock). x.trx == k) (xs ++ lock ∷ []) ≡ filter (λ (x : Lock). x.trx == k) xs
    appended [] = none
    appended (x ∷ xs) = ap (λ rest. cond (x.trx == k) (x ∷ rest) rest) (appended xs)

    by_test : (b : Bool) → held_by (if b then locks else locks ++ lock ∷ []) k ≡ held_by locks k
    by_test true = refl
    by_test false = ap (λ xs. map (λ (x : Lock). x.held) xs) (appended locks)

fewer_held : (locks : List Lock) (s k : ℕ) → (k == s) ≡ false → held_by (locks_without locks s) k ≡ held_by locks k
fewer_held locks s k ne = ap (λ xs. map (λ (x : Lock). x.held) xs) (left locks)
  where
    left : (xs : List Lock) → filter (λ (x : Lock). x.trx == k) (locks_without xs s) ≡ filter (λ (x : Lock). x.trx == k) xs
    left [] = refl
    left (x ∷ xs) = by_test (x.trx == s) refl (left xs)
      where
        by_test : (b : Bool) → (x.trx == s) ≡ b → filter (λ (y : Lock). y.trx == k) (locks_without xs s) ≡ filter (λ (y : Lock). y.trx == k) xs
            → filter (λ (y : Lock). y.trx == k) (cond (not b) (x ∷ locks_without xs s) (locks_without xs s)) ≡ cond (x.trx == k) (x ∷ filter (λ (y : Lock). y.trx == k) xs) (filter (λ (y : Lock). y.trx == k) xs)
        by_test true e again =
            let other : (x.trx == k) ≡ false = ap (λ i. i == k) (eqb-true x.trx s e) ∙ flip k s ne in
            again ∙ sym (ap (λ b. cond b (x ∷ filter (λ (y : Lock). y.trx == k) xs) (filter (λ (y : Lock). y.trx == k) xs)) other)
        by_test false e again = ap (λ rest. cond (x.trx == k) (x ∷ rest) rest) again

-- ---- searches

abbrev SameBy : List TreeSearch → List TreeSearch → ℕ → Type 0
SameBy searches now k = map without_pages (searches_by now k) ≡ map without_pages (searches_by searches k)

-- each is left, or is and was none of the session's
abbrev IsLeftOne : ℕ → TreeSearch → TreeSearch → Type 0
IsLeftOne k x y = ((is_search_of k y ≡ is_search_of k x) × (without_pages y ≡ without_pages x)) ⊎ ((is_search_of k y ≡ false) × (is_search_of k x ≡ false))

mapped_same : (f : TreeSearch → TreeSearch) (k : ℕ) (searches : List TreeSearch) → ((x : TreeSearch) → IsLeftOne k x (f x)) → SameBy searches (map f searches) k
mapped_same f k [] each = refl
mapped_same f k (x ∷ searches) each = by_one (each x) (mapped_same f k searches each)
  where
    by_test : (b : Bool) → without_pages (f x) ≡ without_pages x → SameBy searches (map f searches) k
        → map without_pages (cond b (f x ∷ searches_by (map f searches) k) (searches_by (map f searches) k))
        ≡ map without_pages (cond b (x ∷ searches_by searches k) (searches_by searches k))
    by_test true same again = ap (λ y. y ∷ map without_pages (searches_by (map f searches) k)) same ∙ ap (λ ys. without_pages x ∷ ys) again
    by_test false same again = again

    by_one : IsLeftOne k x (f x) → SameBy searches (map f searches) k
        → map without_pages (cond (is_search_of k (f x)) (f x ∷ searches_by (map f searches) k) (searches_by (map f searches) k))
        ≡ map without_pages (cond (is_search_of k x) (x ∷ searches_by searches k) (searches_by searches k))
    by_one (inl same) again =
        ap (λ b. map without_pages (cond b (f x ∷ searches_by (map f searches) k) (searches_by (map f searches) k))) same.0
        ∙ by_test (is_search_of k x) same.1 again
    by_one (inr none) again =
        ap (λ b. map without_pages (cond b (f x ∷ searches_by (map f searches) k) (searches_by (map f searches) k))) none.0
        ∙ again
        ∙ sym (ap (λ b. map without_pages (cond b (x ∷ searches_by searches k) (searches_by searches k))) none.1)

placed_same : (tree : Tree) (d : Descent) (number q : ℕ) (ds : List Division) (k : ℕ) (searches : List TreeSearch)
    → SameBy searches (map (search_after_place tree d number q ds) searches) k
placed_same tree d number q ds k searches = mapped_same (search_after_place tree d number q ds) k searches one
  where
    one : (x : TreeSearch) → IsLeftOne k x (search_after_place tree d number q ds x)
    one x = by_test (is_of_tree d.table d.column x)
      where
        by_test : (b : Bool) → IsLeftOne k x (record x { search = cond b (attached tree d.path d.box d.key number q ds x.search) x.search })
        by_test true = inl (
          ap (λ s. s == k) (attached_keeps (λ (y : Search). y.session) (λ y on. refl) tree d.path d.box d.key number q ds x.search),
          ap (λ (y : Search). record x { search = y }) (attached_keeps (λ (y : Search). record y { on = [] }) (λ y on. refl) tree d.path d.box d.key number q ds x.search),
        )
        by_test false = inl (refl, refl)

appended_same : (searches : List TreeSearch) (x : TreeSearch) (k : ℕ) → is_search_of k x ≡ false → SameBy searches (searches ++ x ∷ []) k
appended_same searches x k other = ap (λ xs. map without_pages xs) (appended searches)
  where
    appended : (xs : List TreeSearch) → searches_by (xs ++ x ∷ []) k ≡ searches_by xs k
    appended [] = ap (λ b. cond b (x ∷ []) []) other
    appended (y ∷ xs) = ap (λ rest. cond (is_search_of k y) (y ∷ rest) rest) (appended xs)

searched_same : (searches : List TreeSearch) (table column : ℕ) (x : Search) (k : ℕ) → (x.session == k) ≡ false → SameBy searches (with_search searches table column x) k
searched_same searches table column x k other = by_test (list_any (is_of x.session x.statement) searches)
  where
    one : (y : TreeSearch) → IsLeftOne k y (record y { search = cond (is_of x.session x.statement y) x y.search })
    one y = by_own (is_of x.session x.statement y) refl
      where
        by_own : (b : Bool) → is_of x.session x.statement y ≡ b → IsLeftOne k y (record y { search = cond b x y.search })
        by_own true e = inr (other, ap (λ s. s == k) (eqb-true y.search.session x.session (and_parts (y.search.session == x.session) (y.search.statement == x.statement) e).0) ∙ other)
        by_own false e = inl (refl, refl)

    by_test : (b : Bool) → SameBy searches
        (cond b (map (λ (y : TreeSearch). record y { search = cond (is_of x.session x.statement y) x y.search }) searches) (searches ++ record { table = table; column = column; search = x } ∷ [])) k
    by_test true = mapped_same (λ (y : TreeSearch). record y { search = cond (is_of x.session x.statement y) x y.search }) k searches one
    by_test false = appended_same searches (record { table = table; column = column; search = x }) k other

fewer_same : (searches : List TreeSearch) (s k : ℕ) → (k == s) ≡ false → SameBy searches (searches_without searches s) k
fewer_same searches s k ne = ap (λ xs. map without_pages xs) (left searches)
  where
    left : (xs : List TreeSearch) → searches_by (searches_without xs s) k ≡ searches_by xs k
    left [] = refl
    left (x ∷ xs) = by_test (x.search.session == s) refl (left xs)
      where
        by_test : (b : Bool) → (x.search.session == s) ≡ b → searches_by (searches_without xs s) k ≡ searches_by xs k
            → searches_by (cond (not b) (x ∷ searches_without xs s) (searches_without xs s)) k ≡ cond (x.search.session == k) (x ∷ searches_by xs k) (searches_by xs k)
        by_test true e again =
            let other : (x.search.session == k) ≡ false = ap (λ i. i == k) (eqb-true x.search.session s e) ∙ flip k s ne in
            again ∙ sym (ap (λ b. cond b (x ∷ searches_by xs k) (searches_by xs k)) other)
        by_test false e again = ap (λ rest. cond (x.search.session == k) (x ∷ rest) rest) again

-- ---- each kind

module _ (m : Machine) (state : State) (s k : ℕ) (ne : (k == s) ≡ false) where
  -- the session alone changes
  alone : (new : SessionState) → IsAsBefore (session_at state.sessions k) (session_at (slice_set state.sessions s new) k)
  alone new = inl (other_at state.sessions s k new ne)

  refused_left : (on : List ℕ) (ds : List Deadlock) → IsLeft state (after_refusal state s on ds) k
  refused_left on ds = record {
    session = victims_as_before state.sessions ds k;
    locks = refl;
    searches = refl;
    waits = λ by w. subst (λ list. IsTrue (has list by)) (waits_other state.waits s k on ne) (within_broken (waits_with state s on) ds k by w);
  }

  still_waits : (by : ℕ) → WaitsFor (ended state.waits s) k by → WaitsFor state.waits k by
  still_waits by w = (remaining state.waits s k by w).before

  kind_left : (kind : EventKind) (choice : Choice) → MayChoose state s kind choice → IsLeft state (after_kind m state s kind choice) k
  kind_left (answers reply true) with_nothing h = record { session = alone _; locks = fewer_held state.locks s k ne; searches = fewer_same state.searches s k ne; waits = still_waits }
  kind_left (answers reply false) with_nothing h = record { session = alone _; locks = refl; searches = refl; waits = λ by w. w }
  kind_left (undoes entry) (with_undo_pages more) h = record { session = alone _; locks = refl; searches = refl; waits = λ by w. w }
  kind_left (creates name schema) with_nothing h = record { session = alone _; locks = fewer_held state.locks s k ne; searches = fewer_same state.searches s k ne; waits = still_waits }
  kind_left (creates name schema) (with_roots leaf roots) h = record { session = alone _; locks = fewer_held state.locks s k ne; searches = fewer_same state.searches s k ne; waits = still_waits }
  kind_left (asks_table statement number mode) with_nothing h = record { session = alone _; locks = more_held state.locks (table_lock s number mode) k (flip k s ne); searches = refl; waits = λ by w. w }
  kind_left (asks_table statement number mode) (with_blockers by ds) h = refused_left _ ds
  kind_left (asks_key number key mode) with_nothing h = record { session = alone _; locks = more_held state.locks (key_lock s number key mode) k (flip k s ne); searches = refl; waits = λ by w. w }
  kind_left (asks_key number key mode) (with_blockers by ds) h = refused_left _ ds
  kind_left (visits number column predicate) with_nothing h = record {
    session = alone _;
    locks = refl;
    searches = searched_same state.searches number column _ k (ap (λ i. i == k) own ∙ flip k s ne);
    waits = λ by w. w;
  }
    where
      own : (visited (tree_of (table_at state.tables number) column)
          (search_before state.searches (tree_of (table_at state.tables number) column) s (session_at state.sessions s).number predicate)).session ≡ s
      own =
          let tree : Tree = tree_of (table_at state.tables number) column in
          (visited_same tree (search_before state.searches tree s (session_at state.sessions s).number predicate)).session
          ∙ (before_same state.searches tree s (session_at state.sessions s).number predicate).0
  kind_left (scans number leaf) with_nothing h = record { session = alone _; locks = refl; searches = refl; waits = λ by w. w }
  kind_left (steps d) (with_child q) h = record { session = alone _; locks = refl; searches = refl; waits = λ by w. w }
  kind_left (goes_stale d) with_nothing h = record { session = alone _; locks = refl; searches = refl; waits = λ by w. w }
  kind_left finds_full with_nothing h = record { session = alone _; locks = refl; searches = refl; waits = λ by w. w }
  kind_left (places d) (with_deadlocks ds) h = refused_left _ ds
  kind_left (places d) (with_divisions q ds) h = record { session = alone _; locks = refl; searches = placed_same _ d state.entries q ds k state.searches; waits = λ by w. w }
  kind_left (writes number change placed) (with_put p) h = record { session = alone _; locks = refl; searches = refl; waits = λ by w. w }
  kind_left kind choice h = absurd h

  next_left : (kind : Option EventKind) (choice : Choice) → MayGoOn state s kind choice → IsLeft state (after_next m state s kind choice) k
  next_left None choice h = absurd h
  next_left (Some kind) choice h = kind_left kind choice h

pub others_left : OthersAreLeft
others_left m state s choice h k ne = next_left m state s k ne (next m state s) choice h
