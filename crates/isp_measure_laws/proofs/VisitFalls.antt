-- A visit begins its search, ends it, or comes on.
use Rattle.std.proofs.Common.{◌≡◌, ◌⊎◌, ◌∙◌, inl, inr, refl, sym, ap, subst, ℕ, ℤ, ◌+◌, ◌≤◌, ◌<◌, ◌==◌, ◌&&◌, ◌||◌, cond, Bool, true, false, Option, Some, None, List, [], ◌∷◌, ◌++◌, arith, length, map, eqb-true, eq-eqb}
use Rattle.std.specs.Prelude.{filter, find, slice_set}
use Rattle.std.specs.List.{last_or, list_any}
use Rattle.std.specs.Option.{option_map}
use Rattle.std.proofs.lemmas.Bool.{false≢true}
use Rattle.isp_base.specs.Lists.{Has}
use Rattle.isp_mbr.specs.declared.predicate.Predicate.{Predicate}
use Rattle.isp_reclock.proofs.BlockerLemmas.{find_passes}
use Rattle.isp_plain.specs.declared.statement.Statement.{Statement}
use Rattle.isp_forest.specs.Tree.{Tree}
use Rattle.isp_forest.specs.Search.{Search}
use Rattle.isp_forest.specs.Visit.{begun}
use Rattle.isp_events.specs.Stored.{StoredTable, indexed, table_at, tree_of}
use Rattle.isp_events.specs.Sessions.{SessionState, Work, changes_of, phase_with, session_at, visiting}
use Rattle.isp_events.specs.State.{State, TreeSearch, is_empty}
use Rattle.isp_events.specs.Ways.{Machine}
use Rattle.isp_events.specs.Asking.{change_work, phase_of_keys}
use Rattle.isp_events.specs.Reading.{after_visit, is_of, phase_after_visit, rising, search_or, visited, with_search, work_after_visit}
use Rattle.isp_order.specs.Searches.{Belongs, IsOfWork, is_visiting}
use Rattle.isp_order.specs.InOrder.{InOrder}
use Rattle.isp_causes.specs.Causes.{GoesOn, IsActive, IsVisiting}
use Rattle.isp_order_locks.proofs.SearchParts.{IsOfWay, find_has, now_session, now_statement, present_of_way, seen_now}
use Rattle.isp_order_trees.proofs.CoveredLaws.{of_parts}
use Rattle.isp_order_work.proofs.WorkParts.{none_some, some_is}
use Rattle.isp_measure.specs.Measure.{down_of_phase, leaves_left, leaves_of_phase, measure, pages_again, pages_away, pages_of_path, pages_remembered, phases_behind, phases_left, seen_from, steps_left, steps_of_phase, total, total_of_sessions, tree_searched}
use Rattle.isp_measure.proofs.ListFacts.{has_filter_of}
use Rattle.isp_measure.proofs.OrderLaws.{Falls, here, later}
use Rattle.isp_measure.proofs.SumLaws.{equal, same, total_less, total_no_more, total_of_map}
use Rattle.isp_measure_laws.proofs.SessionParts.{HasLess, SameBegun, answers_sum, columns_of, has_less, leaves_at, leaves_sum, moved, not_giving_up, onward_still, onward_sum, path_at, path_sum, phases_at, phases_sum, steps_at, steps_sum}
use Rattle.isp_measure_laws.specs.Visits.{ComesOn}
use Rattle.isp_measure_laws.proofs.SearchFalls.{visit_comes_on}
use Rattle.isp_measure_laws.proofs.WorkFalls.{with_low}

-- ---- searches by their session and statement

find_none : {X : Type 0} (test : X → Bool) (xs : List X) → find test xs ≡ None → list_any test xs ≡ false
find_none test [] h = refl
find_none test (x ∷ xs) h = by_test (test x) h (find_none test xs)
  where
    by_test : (b : Bool) → cond b (Some x) (find test xs) ≡ None → (find test xs ≡ None → list_any test xs ≡ false) → (b || list_any test xs) ≡ false
    by_test true k again = absurd (none_some x (sym k))
    by_test false k again = again k

find_any : {X : Type 0} (test : X → Bool) (xs : List X) (y : X) → find test xs ≡ Some y → list_any test xs ≡ true
find_any test [] y h = absurd (none_some y h)
find_any test (x ∷ xs) y h = by_test (test x) h (find_any test xs y)
  where
    by_test : (b : Bool) → cond b (Some x) (find test xs) ≡ Some y → (find test xs ≡ Some y → list_any test xs ≡ true) → (b || list_any test xs) ≡ true
    by_test true k again = refl
    by_test false k again = again k

-- of searches that pass there is one at most
one_has : {X : Type 0} (xs : List X) (x y : X) → length xs ≤ 1 → Has xs x → Has xs y → x ≡ y
one_has [] x y one h k = absurd h
one_has (z ∷ []) x y one (inl e) (inl d) = sym e ∙ d
one_has (z ∷ []) x y one (inl e) (inr k) = absurd k
one_has (z ∷ []) x y one (inr h) k = absurd h
one_has (z ∷ w ∷ xs) x y one h k = absurd (omega (arith, one))

any_push : {X : Type 0} (test : X → Bool) (xs : List X) (x : X) → test x ≡ false → list_any test (xs ++ x ∷ []) ≡ list_any test xs
any_push test [] x e = ap (λ b. b || false) e
any_push test (y ∷ xs) x e = ap (λ b. test y || b) (any_push test xs x e)

flip : (k s : ℕ) → (k == s) ≡ false → (s == k) ≡ false
flip k s ne = by_test (s == k) refl
  where
    by_test : (b : Bool) → (s == k) ≡ b → b ≡ false
    by_test true e = absurd (false≢true (sym ne ∙ eq-eqb k s (sym (eqb-true s k e))))
    by_test false e = refl

-- the search put in the place of that of its session and statement
abbrev with_seen : Search → TreeSearch → TreeSearch
with_seen x y = record y { search = cond (is_of x.session x.statement y) x y.search }

seen_of : (x : Search) (k number : ℕ) (y : TreeSearch) → is_of k number (with_seen x y) ≡ is_of k number y
seen_of x k number y = by_test (is_of x.session x.statement y) refl
  where
    by_test : (b : Bool) → is_of x.session x.statement y ≡ b → is_of k number (record y { search = cond b x y.search }) ≡ is_of k number y
    by_test true e =
        let parts = of_parts x.session x.statement y e in
        ap (λ i. (i == k) && (x.statement == number)) (sym parts.0) ∙ ap (λ i. (y.search.session == k) && (i == number)) (sym parts.1)
    by_test false e = refl

seen_begun : (x : Search) (searches : List TreeSearch) (k : ℕ) → SameBegun searches (map (with_seen x) searches) k
seen_begun x [] k number = refl
seen_begun x (y ∷ searches) k number =
    ap (λ b. b || list_any (is_of k number) (map (with_seen x) searches)) (seen_of x k number y) ∙ ap (λ b. is_of k number y || b) (seen_begun x searches k number)

-- of others it stays whether they have begun a search
others_begun : (x : Search) (s : ℕ) → x.session ≡ s → (searches : List TreeSearch) (number column k : ℕ) → (k == s) ≡ false → SameBegun searches (with_search searches number column x) k
others_begun x s own searches number column k ne n = by_test (list_any (is_of x.session x.statement) searches)
  where
    other : is_of k n (record { table = number; column = column; search = x }) ≡ false
    other = ap (λ i. (i == k) && (x.statement == n)) own ∙ ap (λ b. b && (x.statement == n)) (flip k s ne)

    by_test : (b : Bool) → list_any (is_of k n) (cond b (map (with_seen x) searches) (searches ++ record { table = number; column = column; search = x } ∷ [])) ≡ list_any (is_of k n) searches
    by_test true = seen_begun x searches k n
    by_test false = any_push (is_of k n) searches (record { table = number; column = column; search = x }) other

-- ---- phases

keys_low : (begun : Bool) (table : StoredTable) (x : Search) (statement : Statement) → phases_behind begun (phase_of_keys table statement (rising x.found) []) ≤ 2
keys_low begun table x statement = by_keys (rising x.found)
  where
    by_keys : (keys : List ℤ) → phases_behind begun (phase_of_keys table statement keys []) ≤ 2
    by_keys [] = let low : phases_behind begun (phase_with statement (indexed table) [] (changes_of statement [])) ≤ 1 = with_low begun statement (indexed table) [] (changes_of statement []) in omega (arith, low)
    by_keys (key ∷ keys) = omega arith

visit_low : (table : StoredTable) (x : Search) (statement : Statement) → phases_behind true (phase_after_visit table statement x) ≤ 3
visit_low table x statement = by_stack (is_empty x.stack)
  where
    by_stack : (b : Bool) → phases_behind true (cond b (phase_of_keys table statement (rising x.found) []) visiting) ≤ 3
    by_stack true = let low : phases_behind true (phase_of_keys table statement (rising x.found) []) ≤ 2 = keys_low true table x statement in omega (arith, low)
    by_stack false = omega arith

-- ---- sums over the searches

module _ (tables : List StoredTable) (x : Search) (searches : List TreeSearch) (y : TreeSearch) (has : Has searches y) (of : is_of x.session x.statement y ≡ true)
    (one : length (filter (is_of x.session x.statement) searches) ≤ 1) where
  -- what holds of the search that is visited, and of each that stays, holds of all
  each_seen : (P : TreeSearch → TreeSearch → Type 0) → P y (record y { search = x }) → ((z : TreeSearch) → P z z) → (z : TreeSearch) → Has searches z → P z (with_seen x z)
  each_seen P own others z h = by_test (is_of x.session x.statement z) refl
    where
      by_test : (b : Bool) → is_of x.session x.statement z ≡ b → P z (record z { search = cond b x z.search })
      by_test true e =
          let is : y ≡ z = one_has (filter (is_of x.session x.statement) searches) y z one (has_filter_of (is_of x.session x.statement) searches y has of) (has_filter_of (is_of x.session x.statement) searches z h e) in
          subst (λ w. P w (record w { search = x })) is own
      by_test false e = others z

  seen_now_is : with_seen x y ≡ record y { search = x }
  seen_now_is = ap (λ b. record y { search = cond b x y.search }) of

  sum_no_more : (f : TreeSearch → ℕ) → f (record y { search = x }) ≤ f y → total f (map (with_seen x) searches) ≤ total f searches
  sum_no_more f le =
      let is : total f (map (with_seen x) searches) ≡ total (λ z. f (with_seen x z)) searches = total_of_map f (with_seen x) searches in
      let no_more : total (λ z. f (with_seen x z)) searches ≤ total f searches =
      total_no_more (λ z. f (with_seen x z)) f searches (each_seen (λ z w. f w ≤ f z) le (λ z. same (f z))) in
      omega (arith, is, no_more)

  sum_less : (f : TreeSearch → ℕ) → f (record y { search = x }) < f y → total f (map (with_seen x) searches) < total f searches
  sum_less f lt =
      let is : total f (map (with_seen x) searches) ≡ total (λ z. f (with_seen x z)) searches = total_of_map f (with_seen x) searches in
      let less : total (λ z. f (with_seen x z)) searches < total f searches =
      total_less (λ z. f (with_seen x z)) f searches y (each_seen (λ z w. f w ≤ f z) (omega (arith, lt)) (λ z. same (f z))) has (subst (λ w. f w < f y) (sym seen_now_is) lt) in
      omega (arith, is, less)

-- ---- the event

module _ (m : Machine) (state : State) (o : InOrder m state) (s : ℕ) (active : IsActive state s) (number column : ℕ) (predicate : Predicate)
    (at : IsVisiting m state (session_at state.sessions s) number column predicate) where
  abbrev x : Search
  x = seen_now m state o s number column predicate at

  abbrev after : List TreeSearch
  after = with_search state.searches number column x

  abbrev session : SessionState
  session = session_at state.sessions s

  abbrev now : Work
  now = work_after_visit (table_at state.tables number) x at.work

  abbrev new : SessionState
  new = change_work (work_after_visit (table_at state.tables number) x) session

  go : GoesOn session at.work
  go = at.goes_on

  at_work : new.work ≡ Some now
  at_work = ap (option_map (work_after_visit (table_at state.tables number) x)) go.at_work

  own : x.session ≡ s
  own = now_session m state o s number column predicate at

  statement_is : x.statement ≡ session.number
  statement_is = now_statement m state o s number column predicate at

  of_session : (y : TreeSearch) → is_of x.session x.statement y ≡ is_of s session.number y
  of_session y = ap (λ k. is_of k x.statement y) own ∙ ap (λ n. is_of s n y) statement_is

  any_session : list_any (is_of x.session x.statement) state.searches ≡ list_any (is_of s session.number) state.searches
  any_session = ap (λ k. list_any (is_of k x.statement) state.searches) own ∙ ap (λ n. list_any (is_of s n) state.searches) statement_is

  -- its search has begun then
  begun_now : list_any (is_of s session.number) after ≡ true
  begun_now = by_test (list_any (is_of x.session x.statement) state.searches) refl
    where
      pushed : (xs : List TreeSearch) (y : TreeSearch) → is_of s session.number y ≡ true → list_any (is_of s session.number) (xs ++ y ∷ []) ≡ true
      pushed [] y e = ap (λ b. b || false) e
      pushed (z ∷ xs) y e = ap (λ b. is_of s session.number z || b) (pushed xs y e) ∙ or_true (is_of s session.number z)
        where
          or_true : (b : Bool) → (b || true) ≡ true
          or_true true = refl
          or_true false = refl

      itself : is_of s session.number (record { table = number; column = column; search = x }) ≡ true
      itself =
          ap (λ k. (k == s) && (x.statement == session.number)) own ∙ ap (λ n. (s == s) && (n == session.number)) statement_is
          ∙ ap (λ b. b && (session.number == session.number)) (eq-eqb s s refl) ∙ eq-eqb session.number session.number refl

      by_test : (b : Bool) → list_any (is_of x.session x.statement) state.searches ≡ b
          → list_any (is_of s session.number) (cond b (map (with_seen x) state.searches) (state.searches ++ record { table = number; column = column; search = x } ∷ [])) ≡ true
      by_test true e = seen_begun x state.searches s session.number ∙ sym any_session ∙ e
      by_test false e = pushed state.searches (record { table = number; column = column; search = x }) itself

  less : (b : Bool) → list_any (is_of s session.number) state.searches ≡ b → phases_behind true now.phase < phases_behind b visiting → Falls (measure m.script (after_visit state s number column predicate)) (measure m.script state)
  less b e lt =
      has_less m state o s active new state.tables after at.work now go refl go.undisturbed at_work (λ n. refl) (others_begun x s own state.searches number column) refl refl go.unfailed
      (subst (λ a. HasLess (list_any (is_of s session.number) state.searches) a (columns_of state.tables at.work.table) at.work.phase now.phase) (sym begun_now)
      (subst (λ a. HasLess a true (columns_of state.tables at.work.table) at.work.phase now.phase) (sym e)
      (subst (λ p. HasLess b true (columns_of state.tables at.work.table) p now.phase) (sym at.phase) (inl lt))))

  -- the search goes on
  goes_on : (y : TreeSearch) → find (is_of s session.number) state.searches ≡ Some y → is_empty x.stack ≡ false → Falls (measure m.script (after_visit state s number column predicate)) (measure m.script state)
  goes_on y found some =
      subst (λ b. Falls (measure m.script (moved state state.tables (cond b (map (with_seen x) state.searches) (state.searches ++ record { table = number; column = column; search = x } ∷ [])) (slice_set state.sessions s new))) (measure m.script state))
      (sym (any_session ∙ any))
      (later _ _ _ _ (answers_sum m state o s active new refl) (later _ _ _ _ (same (length state.queue))
      (later _ _ _ _ (onward_sum m state o s active new (onward_still m state o s active new state.tables state.searches at.work now go refl go.undisturbed at_work))
      (later _ _ _ _ (phases_sum m state o s active new (map (with_seen x) state.searches) (λ k ne. seen_begun x state.searches k) (omega (arith, phases_before, phases_now)))
      (later _ _ _ _ (steps_sum m state o s active new state.tables (λ n. refl) (omega (arith, steps_before, steps_now)))
      (later _ _ _ _ (leaves_sum m state o s active new (omega (arith, leaves_before, leaves_now)))
      (later _ _ _ _ (same _) (by_search comes))))))))
    where
      has : Has state.searches y
      has = find_has (is_of s session.number) state.searches y found

      of : is_of s session.number y ≡ true
      of = find_passes (is_of s session.number) state.searches y found

      any : list_any (is_of s session.number) state.searches ≡ true
      any = find_any (is_of s session.number) state.searches y found

      one : length (filter (is_of x.session x.statement) state.searches) ≤ 1
      one = o.belongs.one x.session x.statement

      way : IsOfWay number column predicate y
      way = present_of_way m state o s number column predicate at y has of

      belongs : Belongs m.ways state.tables state.sessions y
      belongs = o.belongs.each y has

      of_work : IsOfWork m.ways state.tables (session_at state.sessions y.search.session) y
      of_work = (let parts = of_parts s session.number y of in belongs.present (parts.1 ∙ ap (λ k. (session_at state.sessions k).number) (sym parts.0)))

      stack_some : y.search.stack ≡ [] → ⊥
      stack_some =
          let parts = of_parts s session.number y of in
          of_work.visits (ap (λ (w : Work). is_visiting w.phase) (some_is of_work.work at.work (sym of_work.at_work ∙ ap (λ k. (session_at state.sessions k).work) parts.0 ∙ go.at_work)) ∙ ap is_visiting at.phase)

      tree : Tree
      tree = tree_of (table_at state.tables number) column

      tree_is : tree_searched state.tables y ≡ tree
      tree_is = ap (λ t. tree_of (table_at state.tables t) y.column) way.of_table ∙ ap (tree_of (table_at state.tables number)) way.of_column

      x_is : visited tree y.search ≡ x
      x_is = ap (λ (z : Option TreeSearch). visited tree (search_or z (begun tree s session.number predicate))) (sym found)

      comes : ComesOn (tree_searched state.tables y) y.search x
      comes =
          subst (λ t. ComesOn t y.search x) (sym tree_is)
          (subst (ComesOn tree y.search) x_is
          (subst (λ t. ComesOn t y.search (visited t y.search)) tree_is (visit_comes_on (tree_searched state.tables y) y.search (o.whole y.table y.column belongs.column) (o.covered y has) stack_some)))

      phase_now : now.phase ≡ visiting
      phase_now = ap (λ b. cond b (phase_of_keys (table_at state.tables number) at.work.statement (rising x.found) []) visiting) some

      phases_before : phases_left state.searches s session ≡ 3
      phases_before = phases_at state.searches s session at.work go.at_work ∙ ap (phases_behind (list_any (is_of s session.number) state.searches)) at.phase ∙ ap (λ b. cond b 3 4) any

      phases_now : phases_left (map (with_seen x) state.searches) s new ≡ 3
      phases_now =
          phases_at (map (with_seen x) state.searches) s new now at_work ∙ ap (phases_behind (list_any (is_of s session.number) (map (with_seen x) state.searches))) phase_now
          ∙ ap (λ b. cond b 3 4) (seen_begun x state.searches s session.number ∙ any)

      steps_before : steps_left state.tables s session ≡ 0
      steps_before =
          steps_at state.tables s session at.work (not_giving_up session at.work go.undisturbed go.at_work go.unfailed) go.at_work ∙ ap (steps_of_phase (columns_of state.tables at.work.table)) at.phase

      steps_now : steps_left state.tables s new ≡ 0
      steps_now = steps_at state.tables s new now (not_giving_up new now go.undisturbed at_work go.unfailed) at_work ∙ ap (steps_of_phase (columns_of state.tables at.work.table)) phase_now

      leaves_before : leaves_left state.tables s session ≡ 0
      leaves_before = leaves_at state.tables s session at.work go.at_work ∙ ap (leaves_of_phase (table_at state.tables at.work.table).leaves) at.phase

      leaves_now : leaves_left state.tables s new ≡ 0
      leaves_now = leaves_at state.tables s new now at_work ∙ ap (leaves_of_phase (table_at state.tables at.work.table).leaves) phase_now

      path_before : pages_of_path state.tables s session ≡ 0
      path_before = path_at state.tables s session at.work go.at_work ∙ ap (down_of_phase (table_at state.tables at.work.table)) at.phase

      path_now : pages_of_path state.tables s new ≡ 0
      path_now = path_at state.tables s new now at_work ∙ ap (down_of_phase (table_at state.tables at.work.table)) phase_now

      paths : total_of_sessions (pages_of_path state.tables) (slice_set state.sessions s new) ≤ total_of_sessions (pages_of_path state.tables) state.sessions
      paths = path_sum m state o s active new (omega (arith, path_before, path_now))

      of_x : is_of x.session x.statement y ≡ true
      of_x = of_session y ∙ of

      by_search : ComesOn (tree_searched state.tables y) y.search x
          → Falls (total (pages_away state.tables) (map (with_seen x) state.searches) ∷ total pages_remembered (map (with_seen x) state.searches)
          ∷ (total_of_sessions (pages_of_path state.tables) (slice_set state.sessions s new) + total (pages_again state.tables) (map (with_seen x) state.searches)) ∷ [])
          (total (pages_away state.tables) state.searches ∷ total pages_remembered state.searches
          ∷ (total_of_sessions (pages_of_path state.tables) state.sessions + total (pages_again state.tables) state.searches) ∷ [])
      by_search (inl fewer) = here _ _ _ _ (sum_less state.tables x state.searches y has of_x one (pages_away state.tables) fewer)
      by_search (inr c) = later _ _ _ _ (sum_no_more state.tables x state.searches y has of_x one (pages_away state.tables) (equal _ _ c.0)) (by_stack c.1)
        where
          by_stack : (length x.stack < length y.search.stack)
              ⊎ (length x.stack ≡ length y.search.stack) × (seen_from (tree_searched state.tables y) x.on (last_or None x.stack) < seen_from (tree_searched state.tables y) y.search.on (last_or None y.search.stack))
              → Falls (total pages_remembered (map (with_seen x) state.searches)
              ∷ (total_of_sessions (pages_of_path state.tables) (slice_set state.sessions s new) + total (pages_again state.tables) (map (with_seen x) state.searches)) ∷ [])
              (total pages_remembered state.searches ∷ (total_of_sessions (pages_of_path state.tables) state.sessions + total (pages_again state.tables) state.searches) ∷ [])
          by_stack (inl shorter) = here _ _ _ _ (sum_less state.tables x state.searches y has of_x one pages_remembered shorter)
          by_stack (inr r) =
              later _ _ _ _ (sum_no_more state.tables x state.searches y has of_x one pages_remembered (equal _ _ r.0))
              (here _ _ _ _ (sums _ _ _ _ paths (sum_less state.tables x state.searches y has of_x one (pages_again state.tables) r.1)))
            where
              sums : (a b c d : ℕ) → a ≤ b → c < d → a + c < b + d
              sums a b c d le lt = omega (arith, le, lt)

  pub visit_falls : Falls (measure m.script (after_visit state s number column predicate)) (measure m.script state)
  visit_falls = by_found (find (is_of s session.number) state.searches) refl
    where
      low : phases_behind true now.phase ≤ 3
      low = visit_low (table_at state.tables number) x at.work.statement

      by_stack : (y : TreeSearch) → find (is_of s session.number) state.searches ≡ Some y → (b : Bool) → is_empty x.stack ≡ b → Falls (measure m.script (after_visit state s number column predicate)) (measure m.script state)
      by_stack y found true e =
          let ended : now.phase ≡ phase_of_keys (table_at state.tables number) at.work.statement (rising x.found) [] =
          ap (λ b. cond b (phase_of_keys (table_at state.tables number) at.work.statement (rising x.found) []) visiting) e in
          let keys : phases_behind true now.phase ≤ 2 = subst (λ p. phases_behind true p ≤ 2) (sym ended) (keys_low true (table_at state.tables number) x at.work.statement) in
          less true (find_any (is_of s session.number) state.searches y found) (omega (arith, keys))
      by_stack y found false e = goes_on y found e

      by_found : (f : Option TreeSearch) → find (is_of s session.number) state.searches ≡ f → Falls (measure m.script (after_visit state s number column predicate)) (measure m.script state)
      by_found None e = less false (find_none (is_of s session.number) state.searches e) (omega (arith, low))
      by_found (Some y) e = by_stack y e (is_empty x.stack) refl
