-- Each search is of its session's present statement, or of an earlier one of its open transaction.
use Rattle.std.proofs.Common.{◌≡◌, ◌⊎◌, ◌∙◌, ◌≤◌, ◌<◌, inl, inr, refl, sym, ap, subst, ℕ, ℤ, suc, ◌+◌, ◌==◌, ◌&&◌, ◌||◌, not, cond, Bool, true, false, Option, Some, None, List, [], ◌∷◌, ◌++◌, arith, length, map, eqb-true, eq-eqb}
use Rattle.std.specs.Prelude.{filter, is_none, slice_set}
use Rattle.std.specs.List.{list_any}
use Rattle.std.specs.Option.{option_map}
use Rattle.std.proofs.lemmas.Bool.{cases_lt, false≢true, and_parts}
use Rattle.isp_base.specs.Lists.{Has}
use Rattle.isp_laws.proofs.ListLaws.{Has-append, Has-map, Source}
use Rattle.isp_mbr.specs.declared.predicate.Predicate.{Predicate}
use Rattle.isp_plain.specs.declared.statement.Statement.{Statement}
use Rattle.isp_plain.specs.declared.statement.Reply.{Reply}
use Rattle.isp_plain.specs.declared.value.Row.{Row}
use Rattle.isp_forest.specs.Tree.{Tree}
use Rattle.isp_forest.specs.Place.{Division}
use Rattle.isp_forest.specs.Search.{Search}
use Rattle.isp_forest.specs.Attach.{attached}
use Rattle.isp_events.specs.Stored.{Leaf, StoredTable, change_table, indexed, leaf_behind, present, row_of, table_at}
use Rattle.isp_events.specs.Sessions.{Change, Entering, Failure, SessionState, Work, changes_of, phase_with, scanning, session_at, visiting}
use Rattle.isp_events.specs.State.{Queued, State, TreeSearch, dead_entry, dead_row, is_empty, session_count}
use Rattle.isp_events.specs.Ways.{Machine, Ways, by_box}
use Rattle.isp_events.specs.Next.{Descent}
use Rattle.isp_events.specs.Deadlocks.{Deadlock, with_victims}
use Rattle.isp_events.specs.Asking.{phase_after_key, phase_of_keys, read_with}
use Rattle.isp_events.specs.Reading.{as_read, is_of, phase_after_leaf, phase_after_visit, rising, rows_in, with_search}
use Rattle.isp_events.specs.Placing.{is_of_tree, phase_with_entry, search_after_place, tree_after_place, tree_for}
use Rattle.isp_events.specs.Writing.{phase_after_row, table_after_row, table_with_row}
use Rattle.isp_events.specs.Ending.{restored, searches_without}
use Rattle.isp_events.specs.Purging.{may_leave, table_without, tables_purged, without_entry}
use Rattle.isp_events.specs.Events.{Actor, Choice, MayHappen, after}
use Rattle.isp_order.specs.Searches.{AllBelong, Belongs, IsOfWork, is_visiting}
use Rattle.isp_order.specs.InOrder.{InOrder, IsProper}
use Rattle.isp_order.proofs.SessionLaws.{other_at, same_at, seated, victims_keep}
use Rattle.isp_order.proofs.TableLaws.{definition_at, definitions_changed, purged_keeps, row_keeps, same_schema}
use Rattle.isp_causes.specs.Causes.{IsActive, IsAnswering, IsEntering, IsVisiting}
use Rattle.isp_event_laws.proofs.ListTests.{empty_is}
use Rattle.isp_causes.proofs.EventCases.{EachKeeps, event_keeps}
use Rattle.isp_order_locks.proofs.SearchParts.{IsOfWay, attached_keeps, left_was, now_predicate, now_session, now_statement, present_of_way, seen_now}
use Rattle.isp_order_work.proofs.WorkParts.{none_some, some_is}
use Rattle.isp_order_trees.proofs.CoveredLaws.{way_column}
use Rattle.isp_order_trees.proofs.TreeParts.{change_leaves_trees, indexed_stay, same_indexed, with_tree}
use Rattle.isp_order_trees.proofs.WholeLaws.{after_row_leaves_trees, purged_row_leaves_trees}

-- ---- searches that stay

-- the same search, but for the pages that it is on
pub record IsAsIt (x y : TreeSearch) : Type 0 where
  pub of_table : y.table ≡ x.table
  pub of_column : y.column ≡ x.column
  pub session : y.search.session ≡ x.search.session
  pub statement : y.search.statement ≡ x.search.statement
  pub predicate : y.search.predicate ≡ x.search.predicate
  pub stack : y.search.stack ≡ x.search.stack

it_is : (x : TreeSearch) → IsAsIt x x
it_is x = record { of_table = refl; of_column = refl; session = refl; statement = refl; predicate = refl; stack = refl }

placed_as : (tree : Tree) (d : Descent) (number q : ℕ) (ds : List Division) (x : TreeSearch) → IsAsIt x (search_after_place tree d number q ds x)
placed_as tree d number q ds x = by_tree (is_of_tree d.table d.column x)
  where
    by_tree : (b : Bool) → IsAsIt x (record x { search = cond b (attached tree d.path d.box d.key number q ds x.search) x.search })
    by_tree true = record {
      of_table = refl;
      of_column = refl;
      session = attached_keeps (λ (y : Search). y.session) (λ y on. refl) tree d.path d.box d.key number q ds x.search;
      statement = attached_keeps (λ (y : Search). y.statement) (λ y on. refl) tree d.path d.box d.key number q ds x.search;
      predicate = attached_keeps (λ (y : Search). y.predicate) (λ y on. refl) tree d.path d.box d.key number q ds x.search;
      stack = attached_keeps (λ (y : Search). y.stack) (λ y on. refl) tree d.path d.box d.key number q ds x.search;
    }
    by_tree false = it_is x

-- ---- a work that changes, with the same search

pub record IsOnward (work now : Work) : Type 0 where
  pub table : now.table ≡ work.table
  pub statement : now.statement ≡ work.statement
  pub visits : is_visiting now.phase ≡ is_visiting work.phase
  pub unfailed : is_visiting now.phase ≡ true → work.failure ≡ None → now.failure ≡ None

carry : (ways : Ways) (tables after : List StoredTable) (sessions then : List SessionState) (x y : TreeSearch) → map definition_at after ≡ map definition_at tables
    → ((n : ℕ) → indexed (table_at after n) ≡ indexed (table_at tables n)) → IsAsIt x y
    → (session_at then x.search.session).number ≡ (session_at sessions x.search.session).number → (session_at then x.search.session).inside ≡ (session_at sessions x.search.session).inside
    → ((work : Work) → (session_at sessions x.search.session).work ≡ Some work → (now : Work) × ((session_at then x.search.session).work ≡ Some now) × IsOnward work now)
    → Belongs ways tables sessions x → Belongs ways after then y
carry ways tables after sessions then x y same columns stays number inside onward b = record {
  numbered = subst (λ k. k < session_count) (sym stays.session) b.numbered;
  column = subst (λ t. Has (indexed (table_at after t)) y.column) (sym stays.of_table)
      (subst (λ c. Has (indexed (table_at after x.table)) c) (sym stays.of_column) (subst (λ (cs : List ℕ). Has cs x.column) (sym (columns x.table)) b.column));
  statement = subst (λ k. y.search.statement ≤ (session_at then k).number) (sym stays.session)
      (subst (λ n. y.search.statement ≤ n) (sym number) (subst (λ n. n ≤ (session_at sessions x.search.session).number) (sym stays.statement) b.statement));
  earlier = λ lt. (let old = b.earlier (before lt) in record {
    inside = ap (λ k. (session_at then k).inside) stays.session ∙ inside ∙ old.inside;
    visited = stays.stack ∙ old.visited;
  });
  present = λ e. (let old = b.present (now e) in let next = onward old.work old.at_work in record {
    work = next.0;
    at_work = ap (λ k. (session_at then k).work) stays.session ∙ next.1;
    of_table = next.2.table ∙ old.of_table ∙ sym stays.of_table;
    way = ap (λ sch. ways sch next.0.statement) (same_schema y.table after tables same ∙ ap (λ t. (table_at tables t).schema) stays.of_table)
        ∙ ap (ways (table_at tables x.table).schema) next.2.statement ∙ old.way
        ∙ ap (λ c. by_box c x.search.predicate) (sym stays.of_column) ∙ ap (by_box y.column) (sym stays.predicate);
    visits = λ v empty. old.visits (sym next.2.visits ∙ v) (sym stays.stack ∙ empty);
    visited = λ v. stays.stack ∙ old.visited (sym next.2.visits ∙ v);
    unfailed = λ v. next.2.unfailed v (old.unfailed (sym next.2.visits ∙ v));
  });
}
  where
    before : y.search.statement < (session_at then y.search.session).number → x.search.statement < (session_at sessions x.search.session).number
    before lt =
        subst (λ n. n < (session_at sessions x.search.session).number) stays.statement
        (subst (λ n. y.search.statement < n) (ap (λ k. (session_at then k).number) stays.session ∙ number) lt)

    now : y.search.statement ≡ (session_at then y.search.session).number → x.search.statement ≡ (session_at sessions x.search.session).number
    now e = sym stays.statement ∙ e ∙ ap (λ k. (session_at then k).number) stays.session ∙ number

of_parts : (s statement : ℕ) (y : TreeSearch) → is_of s statement y ≡ true → (y.search.session ≡ s) × (y.search.statement ≡ statement)
of_parts s statement y h =
    let parts = and_parts (y.search.session == s) (y.search.statement == statement) h in
    (eqb-true y.search.session s parts.0, eqb-true y.search.statement statement parts.1)

-- ---- counts

count_mapped : (f : TreeSearch → TreeSearch) (test : TreeSearch → Bool) (xs : List TreeSearch) → ((x : TreeSearch) → test (f x) ≡ test x) → length (filter test (map f xs)) ≡ length (filter test xs)
count_mapped f test [] same = refl
count_mapped f test (x ∷ xs) same = ap (λ b. length (cond b (f x ∷ filter test (map f xs)) (filter test (map f xs)))) (same x) ∙ by_test (test x) (count_mapped f test xs same)
  where
    by_test : (b : Bool) → length (filter test (map f xs)) ≡ length (filter test xs) → length (cond b (f x ∷ filter test (map f xs)) (filter test (map f xs))) ≡ length (cond b (x ∷ filter test xs) (filter test xs))
    by_test true again = ap suc again
    by_test false again = again

count_left : (keep test : TreeSearch → Bool) (xs : List TreeSearch) → length (filter test (filter keep xs)) ≤ length (filter test xs)
count_left keep test [] = omega arith
count_left keep test (x ∷ xs) = by_keep (keep x) (count_left keep test xs)
  where
    by_keep : (b : Bool) → length (filter test (filter keep xs)) ≤ length (filter test xs) → length (filter test (cond b (x ∷ filter keep xs) (filter keep xs))) ≤ length (filter test (x ∷ xs))
    by_keep true again = by_test (test x) again
      where
        by_test : (b : Bool) → length (filter test (filter keep xs)) ≤ length (filter test xs)
            → length (cond b (x ∷ filter test (filter keep xs)) (filter test (filter keep xs))) ≤ length (cond b (x ∷ filter test xs) (filter test xs))
        by_test true le = omega (arith, le)
        by_test false le = le
    by_keep false again = by_test (test x) again
      where
        by_test : (b : Bool) → length (filter test (filter keep xs)) ≤ length (filter test xs) → length (filter test (filter keep xs)) ≤ length (cond b (x ∷ filter test xs) (filter test xs))
        by_test true le = omega (arith, le)
        by_test false le = le

count_none : (test : TreeSearch → Bool) (xs : List TreeSearch) → list_any test xs ≡ false → length (filter test xs) ≡ 0
count_none test [] h = refl
count_none test (x ∷ xs) h = by_test (test x) refl h (count_none test xs)
  where
    by_test : (b : Bool) → test x ≡ b → (b || list_any test xs) ≡ false → (list_any test xs ≡ false → length (filter test xs) ≡ 0) → length (cond b (x ∷ filter test xs) (filter test xs)) ≡ 0
    by_test true e k again = absurd (false≢true (sym k))
    by_test false e k again = again k

count_push : (test : TreeSearch → Bool) (xs : List TreeSearch) (y : TreeSearch) → length (filter test (xs ++ y ∷ [])) ≡ length (filter test xs) + cond (test y) 1 0
count_push test [] y = by_test (test y)
  where
    by_test : (b : Bool) → length (cond b (y ∷ []) []) ≡ 0 + cond b 1 0
    by_test true = refl
    by_test false = refl
count_push test (x ∷ xs) y = by_test (test x) (count_push test xs y)
  where
    by_test : (b : Bool) → length (filter test (xs ++ y ∷ [])) ≡ length (filter test xs) + cond (test y) 1 0
        → length (cond b (x ∷ filter test (xs ++ y ∷ [])) (filter test (xs ++ y ∷ []))) ≡ length (cond b (x ∷ filter test xs) (filter test xs)) + cond (test y) 1 0
    by_test true again = omega (arith, again)
    by_test false again = again

is_of_same : (s statement : ℕ) (x y : TreeSearch) → IsAsIt x y → is_of s statement y ≡ is_of s statement x
is_of_same s statement x y stays = ap (λ k. (k == s) && (y.search.statement == statement)) stays.session ∙ ap (λ n. (x.search.session == s) && (n == statement)) stays.statement

-- ---- phases

with_visits : (statement : Statement) (columns : List ℕ) (done left : List Change) → is_visiting (phase_with statement columns done left) ≡ false
with_visits statement columns done [] = refl
with_visits statement columns done (change ∷ left) = refl

keys_visits : (table : StoredTable) (statement : Statement) (keys : List ℤ) (read : List (ℤ × Option Row)) → is_visiting (phase_of_keys table statement keys read) ≡ false
keys_visits table statement [] read = with_visits statement (indexed table) [] (changes_of statement read)
keys_visits table statement (key ∷ keys) read = refl

module _ (m : Machine) (state : State) (good : IsProper m) (o : InOrder m state) where
  -- one session changes, and its searches stay as they are
  record Onward (s : ℕ) (new : SessionState) : Type 0 where
    pub number : new.number ≡ (session_at state.sessions s).number
    pub inside : new.inside ≡ (session_at state.sessions s).inside
    pub work : (work : Work) → (session_at state.sessions s).work ≡ Some work → (now : Work) × (new.work ≡ Some now) × IsOnward work now

  same_work : (work : Work) → IsOnward work work
  same_work work = record { table = refl; statement = refl; visits = refl; unfailed = λ v f. f }

  as_it_was : (k : ℕ) (work : Work) → (session_at state.sessions k).work ≡ Some work → (now : Work) × ((session_at state.sessions k).work ≡ Some now) × IsOnward work now
  as_it_was k work at = (work, at, same_work work)

  -- each search stays, or is new and belongs
  step : (s : ℕ) (tables : List StoredTable) (searches : List TreeSearch) (new : SessionState) → IsActive state s → map definition_at tables ≡ map definition_at state.tables
      → ((n : ℕ) → indexed (table_at tables n) ≡ indexed (table_at state.tables n))
      → ((y : TreeSearch) → Has searches y → (x : TreeSearch) × Has state.searches x × IsAsIt x y) → Onward s new
      → (y : TreeSearch) → Has searches y → Belongs m.ways tables (slice_set state.sessions s new) y
  step s tables searches new active same columns from on y has =
      let was = from y has in
      by_session was.0 was.1 was.2 (was.0.search.session == s) refl
    where
      by_session : (x : TreeSearch) → Has state.searches x → IsAsIt x y → (b : Bool) → (x.search.session == s) ≡ b → Belongs m.ways tables (slice_set state.sessions s new) y
      by_session x h stays true e =
          let is : x.search.session ≡ s = eqb-true x.search.session s e in
          let now : session_at (slice_set state.sessions s new) x.search.session ≡ new =
          ap (session_at (slice_set state.sessions s new)) is ∙ same_at state.sessions s new (seated state.sessions s active.not_over) in
          let was : session_at state.sessions x.search.session ≡ session_at state.sessions s = ap (session_at state.sessions) is in
          carry m.ways state.tables tables state.sessions (slice_set state.sessions s new) x y same columns stays
          (ap (λ (z : SessionState). z.number) now ∙ on.number ∙ ap (λ (z : SessionState). z.number) (sym was)) (ap (λ (z : SessionState). z.inside) now ∙ on.inside ∙ ap (λ (z : SessionState). z.inside) (sym was))
          (λ work at. (let next = on.work work (ap (λ (z : SessionState). z.work) (sym was) ∙ at) in (next.0, ap (λ (z : SessionState). z.work) now ∙ next.1, next.2))) (o.belongs.each x h)
      by_session x h stays false e =
          let now : session_at (slice_set state.sessions s new) x.search.session ≡ session_at state.sessions x.search.session = other_at state.sessions s x.search.session new e in
          carry m.ways state.tables tables state.sessions (slice_set state.sessions s new) x y same columns stays
          (ap (λ (z : SessionState). z.number) now) (ap (λ (z : SessionState). z.inside) now)
          (λ work at. (work, ap (λ (z : SessionState). z.work) now ∙ at, same_work work)) (o.belongs.each x h)

  still : (y : TreeSearch) → Has state.searches y → (x : TreeSearch) × Has state.searches x × IsAsIt x y
  still y h = (y, h, it_is y)

  same_columns : (n : ℕ) → indexed (table_at state.tables n) ≡ indexed (table_at state.tables n)
  same_columns n = refl

  all : (tables : List StoredTable) (sessions : List SessionState) → ((y : TreeSearch) → Has state.searches y → Belongs m.ways tables sessions y) → AllBelong m.ways tables state.searches sessions
  all tables sessions each = record { each = each; one = o.belongs.one }

  -- a session at work on that doesn't visit
  works : (s : ℕ) (new : SessionState) (f : Work → Work) (work : Work) → (session_at state.sessions s).work ≡ Some work → new.number ≡ (session_at state.sessions s).number → new.inside ≡ (session_at state.sessions s).inside
      → new.work ≡ option_map f (session_at state.sessions s).work → (f work).table ≡ work.table → (f work).statement ≡ work.statement → is_visiting work.phase ≡ false → is_visiting (f work).phase ≡ false → Onward s new
  works s new f work at number inside is table statement old now = record {
    number = number;
    inside = inside;
    work = λ other other_at. (let same : work ≡ other = some_is work other (sym at ∙ other_at) in
        subst (λ (w : Work). (v : Work) × (new.work ≡ Some v) × IsOnward w v) same
        (f work, is ∙ ap (option_map f) at, record { table = table; statement = statement; visits = now ∙ sym old; unfailed = λ v u. absurd (false≢true (sym now ∙ v)) }));
  }

  begins : (s : ℕ) (new : SessionState) → (session_at state.sessions s).work ≡ None → new.number ≡ (session_at state.sessions s).number → new.inside ≡ (session_at state.sessions s).inside → Onward s new
  begins s new none number inside = record { number = number; inside = inside; work = λ work at. absurd (none_some work (sym none ∙ at)) }

  undoes : (s : ℕ) (new : SessionState) → new.work ≡ (session_at state.sessions s).work → new.number ≡ (session_at state.sessions s).number → new.inside ≡ (session_at state.sessions s).inside → Onward s new
  undoes s new is number inside = record { number = number; inside = inside; work = λ work at. (work, is ∙ at, same_work work) }

  entering_visits : (s : ℕ) (en : IsEntering (session_at state.sessions s)) → is_visiting en.work.phase ≡ false
  entering_visits s en = ap is_visiting en.phase

  entry_visits : (s : ℕ) (f : Entering → Entering) (en : IsEntering (session_at state.sessions s)) → is_visiting (phase_with_entry f en.work.phase) ≡ false
  entry_visits s f en = ap (λ p. is_visiting (phase_with_entry f p)) en.phase

  row_visits : (table : StoredTable) (s : ℕ) (en : IsEntering (session_at state.sessions s)) → is_visiting (phase_after_row table en.work en.work.phase) ≡ false
  row_visits table s en = ap (λ p. is_visiting (phase_after_row table en.work p)) en.phase ∙ with_visits en.work.statement (indexed table) (en.done ++ en.change ∷ []) en.left

  scan_visits : (table : StoredTable) (statement : Statement) (leaf : Leaf) (read : List (ℤ × Option Row)) → is_visiting (phase_after_leaf table statement leaf read) ≡ false
  scan_visits table statement leaf read = by_last (is_none (leaf_behind table.leaves leaf.page))
    where
      by_last : (b : Bool) → is_visiting (cond b (phase_with statement (indexed table) [] (changes_of statement read)) (scanning (Some leaf.page))) ≡ false
      by_last true = with_visits statement (indexed table) [] (changes_of statement read)
      by_last false = refl

  -- ---- a visit

  visited_cases : (searches : List TreeSearch) (number column : ℕ) (v : Search) (y : TreeSearch)
      → ((z : TreeSearch) → Has searches z → is_of v.session v.statement z ≡ true → (z.table ≡ number) × (z.column ≡ column)) → Has (with_search searches number column v) y
      → ((x : TreeSearch) × Has searches x × IsAsIt x y × (is_of v.session v.statement y ≡ false)) ⊎ ((y.search ≡ v) × (y.table ≡ number) × (y.column ≡ column))
  visited_cases searches number column v y of h = by_any (list_any (is_of v.session v.statement) searches) refl h
    where
      by_one : (x : TreeSearch) → Has searches x → (b : Bool) → is_of v.session v.statement x ≡ b → record x { search = cond b v x.search } ≡ y
          → ((z : TreeSearch) × Has searches z × IsAsIt z y × (is_of v.session v.statement y ≡ false)) ⊎ ((y.search ≡ v) × (y.table ≡ number) × (y.column ≡ column))
      by_one x has true e is = (let at = of x has e in inr (ap (λ (z : TreeSearch). z.search) (sym is), ap (λ (z : TreeSearch). z.table) (sym is) ∙ at.0, ap (λ (z : TreeSearch). z.column) (sym is) ∙ at.1))
      by_one x has false e is = inl (x, has, subst (λ (z : TreeSearch). IsAsIt x z) is (it_is x), ap (is_of v.session v.statement) (sym is) ∙ e)

      by_any : (b : Bool) → list_any (is_of v.session v.statement) searches ≡ b
          → Has (cond b (map (λ (z : TreeSearch). record z { search = cond (is_of v.session v.statement z) v z.search }) searches) (searches ++ record { table = number; column = column; search = v } ∷ [])) y
          → ((x : TreeSearch) × Has searches x × IsAsIt x y × (is_of v.session v.statement y ≡ false)) ⊎ ((y.search ≡ v) × (y.table ≡ number) × (y.column ≡ column))
      by_any true e k =
          let src = Has-map (λ (z : TreeSearch). record z { search = cond (is_of v.session v.statement z) v z.search }) searches y k in
          by_one src.x src.has (is_of v.session v.statement src.x) refl src.is
      by_any false e k = elim (Has-append searches (record { table = number; column = column; search = v } ∷ []) y k) [
        | inl l ↦ inl (y, l, it_is y, none_of searches y e l)
        | inr l ↦ last l
      ]
        where
          none_of : (xs : List TreeSearch) (z : TreeSearch) → list_any (is_of v.session v.statement) xs ≡ false → Has xs z → is_of v.session v.statement z ≡ false
          none_of [] z f i = absurd i
          none_of (x ∷ xs) z f i = by_test (is_of v.session v.statement x) refl f i (none_of xs z)
            where
              by_test : (t : Bool) → is_of v.session v.statement x ≡ t → (t || list_any (is_of v.session v.statement) xs) ≡ false → Has (x ∷ xs) z
                  → (list_any (is_of v.session v.statement) xs ≡ false → Has xs z → is_of v.session v.statement z ≡ false) → is_of v.session v.statement z ≡ false
              by_test true g j l again = absurd (false≢true (sym j))
              by_test false g j (inl is) again = ap (is_of v.session v.statement) (sym is) ∙ g
              by_test false g j (inr l) again = again j l

          last : Has (record { table = number; column = column; search = v } ∷ []) y
              → ((x : TreeSearch) × Has searches x × IsAsIt x y × (is_of v.session v.statement y ≡ false)) ⊎ ((y.search ≡ v) × (y.table ≡ number) × (y.column ≡ column))
          last (inl is) = inr (ap (λ (z : TreeSearch). z.search) (sym is), ap (λ (z : TreeSearch). z.table) (sym is), ap (λ (z : TreeSearch). z.column) (sym is))
          last (inr i) = absurd i

  visit_belongs : (s number column : ℕ) (predicate : Predicate) (new : SessionState) (f : Work → Work) → IsActive state s → (at : IsVisiting m state (session_at state.sessions s) number column predicate)
      → new.work ≡ option_map f (session_at state.sessions s).work → new.number ≡ (session_at state.sessions s).number → new.inside ≡ (session_at state.sessions s).inside
      → (f at.work).table ≡ at.work.table → (f at.work).statement ≡ at.work.statement → (f at.work).failure ≡ at.work.failure
      → (f at.work).phase ≡ phase_after_visit (table_at state.tables number) at.work.statement (seen_now m state o s number column predicate at)
      → (y : TreeSearch) → Has (with_search state.searches number column (seen_now m state o s number column predicate at)) y → Belongs m.ways state.tables (slice_set state.sessions s new) y
  visit_belongs s number column predicate new f active at is same_number inside table statement failure phase y has =
      by_cases (visited_cases state.searches number column (seen_now m state o s number column predicate at) y of_way has)
    where
      of_way : (z : TreeSearch) → Has state.searches z → is_of (seen_now m state o s number column predicate at).session (seen_now m state o s number column predicate at).statement z ≡ true
          → (z.table ≡ number) × (z.column ≡ column)
      of_way z h e =
          let w : IsOfWay number column predicate z =
          present_of_way m state o s number column predicate at z h
          (ap (λ k. is_of k (session_at state.sessions s).number z) (sym (now_session m state o s number column predicate at))
          ∙ ap (λ n. is_of (seen_now m state o s number column predicate at).session n z) (sym (now_statement m state o s number column predicate at)) ∙ e) in
          (w.of_table, w.of_column)

      now : session_at (slice_set state.sessions s new) s ≡ new
      now = same_at state.sessions s new (seated state.sessions s active.not_over)

      now_work : new.work ≡ Some (f at.work)
      now_work = is ∙ ap (option_map f) at.goes_on.at_work

      by_stack : (b : Bool) → is_empty (seen_now m state o s number column predicate at).stack ≡ b
          → is_visiting (cond b (phase_of_keys (table_at state.tables number) at.work.statement (rising (seen_now m state o s number column predicate at).found) []) visiting) ≡ not b
      by_stack true e = keys_visits (table_at state.tables number) at.work.statement (rising (seen_now m state o s number column predicate at).found) []
      by_stack false e = refl

      visits_is : is_visiting (f at.work).phase ≡ not (is_empty (seen_now m state o s number column predicate at).stack)
      visits_is = ap is_visiting phase ∙ by_stack (is_empty (seen_now m state o s number column predicate at).stack) refl

      not_both : (b : Bool) → not b ≡ true → b ≡ true → ⊥
      not_both true e g = false≢true e
      not_both false e g = false≢true g

      not_false : (b : Bool) → not b ≡ false → b ≡ true
      not_false true e = refl
      not_false false e = absurd (false≢true (sym e))

      fresh : y.search ≡ seen_now m state o s number column predicate at → y.table ≡ number → y.column ≡ column → Belongs m.ways state.tables (slice_set state.sessions s new) y
      fresh v t c =
          let session : y.search.session ≡ s = ap (λ (x : Search). x.session) v ∙ now_session m state o s number column predicate at in
          let number_is : (session_at (slice_set state.sessions s new) y.search.session).number ≡ (session_at state.sessions s).number =
          ap (λ k. (session_at (slice_set state.sessions s new) k).number) session ∙ ap (λ (z : SessionState). z.number) now ∙ same_number in
          let of_statement : y.search.statement ≡ (session_at state.sessions s).number = ap (λ (x : Search). x.statement) v ∙ now_statement m state o s number column predicate at in
          record {
            numbered = (let lt : s < length state.sessions = seated state.sessions s active.not_over in let n : length state.sessions ≡ 17 = o.counted.sessions in omega (arith, session, lt, n));
            column = subst (λ n. Has (indexed (table_at state.tables n)) y.column) (sym t) (subst (λ k. Has (indexed (table_at state.tables number)) k) (sym c) (way_column m state o s number column predicate at good));
            statement = omega (arith, number_is, of_statement);
            earlier = λ lt. (let never : ⊥ = omega (arith, lt, number_is, of_statement) in absurd never);
            present = λ e. record {
              work = f at.work;
              at_work = ap (λ k. (session_at (slice_set state.sessions s new) k).work) session ∙ ap (λ (z : SessionState). z.work) now ∙ now_work;
              of_table = table ∙ sym at.number_is ∙ sym t;
              way = ap (λ n. m.ways (table_at state.tables n).schema (f at.work).statement) (t ∙ at.number_is) ∙ ap (m.ways (table_at state.tables at.work.table).schema) statement ∙ at.way
                  ∙ ap (λ k. by_box k predicate) (sym c) ∙ ap (by_box y.column) (sym (ap (λ (x : Search). x.predicate) v ∙ now_predicate m state o s number column predicate at));
              visits = λ i none. not_both (is_empty (seen_now m state o s number column predicate at).stack) (sym visits_is ∙ i)
                  (ap (λ (xs : List (ℕ × ℕ)). is_empty xs) (sym (ap (λ (x : Search). x.stack) v) ∙ none));
              visited = λ i. ap (λ (x : Search). x.stack) v ∙ empty_is (seen_now m state o s number column predicate at).stack (not_false (is_empty (seen_now m state o s number column predicate at).stack) (sym visits_is ∙ i));
              unfailed = λ i. failure ∙ at.goes_on.unfailed;
            };
          }

      -- another search of the session is of an earlier statement
      by_cases : ((x : TreeSearch) × Has state.searches x × IsAsIt x y
          × (is_of (seen_now m state o s number column predicate at).session (seen_now m state o s number column predicate at).statement y ≡ false))
          ⊎ ((y.search ≡ seen_now m state o s number column predicate at) × (y.table ≡ number) × (y.column ≡ column)) → Belongs m.ways state.tables (slice_set state.sessions s new) y
      by_cases (inr v) = fresh v.0 v.1 v.2
      by_cases (inl old) = by_session old.0 old.1 old.2 (old.0.search.session == s) refl
        where
          by_session : (x : TreeSearch) → Has state.searches x → IsAsIt x y → (b : Bool) → (x.search.session == s) ≡ b → Belongs m.ways state.tables (slice_set state.sessions s new) y
          by_session x h stays false e =
              let same : session_at (slice_set state.sessions s new) x.search.session ≡ session_at state.sessions x.search.session = other_at state.sessions s x.search.session new e in
              carry m.ways state.tables state.tables state.sessions (slice_set state.sessions s new) x y refl same_columns stays
              (ap (λ (z : SessionState). z.number) same) (ap (λ (z : SessionState). z.inside) same)
              (λ work w. (work, ap (λ (z : SessionState). z.work) same ∙ w, same_work work)) (o.belongs.each x h)
          by_session x h stays true e =
              let session : x.search.session ≡ s = eqb-true x.search.session s e in
              let b : Belongs m.ways state.tables state.sessions x = o.belongs.each x h in
              let then : session_at (slice_set state.sessions s new) y.search.session ≡ new = ap (session_at (slice_set state.sessions s new)) (stays.session ∙ session) ∙ now in
              let number_is : (session_at (slice_set state.sessions s new) y.search.session).number ≡ (session_at state.sessions s).number = ap (λ (z : SessionState). z.number) then ∙ same_number in
              let was : (session_at state.sessions x.search.session).number ≡ (session_at state.sessions s).number = ap (λ k. (session_at state.sessions k).number) session in
              let st : y.search.statement ≡ x.search.statement = stays.statement in
              let le : x.search.statement ≤ (session_at state.sessions x.search.session).number = b.statement in
              record {
                numbered = subst (λ k. k < session_count) (sym stays.session) b.numbered;
                column = subst (λ t. Has (indexed (table_at state.tables t)) y.column) (sym stays.of_table) (subst (λ c. Has (indexed (table_at state.tables x.table)) c) (sym stays.of_column) b.column);
                statement = omega (arith, number_is, was, st, le);
                earlier = λ lt. (let before : x.search.statement < (session_at state.sessions x.search.session).number = omega (arith, lt, number_is, was, st) in
                    record {
                      inside = ap (λ (z : SessionState). z.inside) then ∙ inside ∙ ap (λ k. (session_at state.sessions k).inside) (sym session) ∙ (b.earlier before).inside;
                      visited = stays.stack ∙ (b.earlier before).visited;
                    });
                present = λ i. absurd (false≢true (sym old.3 ∙ of_now (stays.session ∙ session ∙ sym (now_session m state o s number column predicate at))
                    (i ∙ number_is ∙ sym (now_statement m state o s number column predicate at))));
              }
            where
              of_now : y.search.session ≡ (seen_now m state o s number column predicate at).session → y.search.statement ≡ (seen_now m state o s number column predicate at).statement
                  → is_of (seen_now m state o s number column predicate at).session (seen_now m state o s number column predicate at).statement y ≡ true
              of_now a c =
                  ap (λ t. t && (y.search.statement == (seen_now m state o s number column predicate at).statement)) (eq-eqb y.search.session (seen_now m state o s number column predicate at).session a)
                  ∙ eq-eqb y.search.statement (seen_now m state o s number column predicate at).statement c

  visit_one : (s number column : ℕ) (predicate : Predicate) (at : IsVisiting m state (session_at state.sessions s) number column predicate) (k statement : ℕ)
      → length (filter (is_of k statement) (with_search state.searches number column (seen_now m state o s number column predicate at))) ≤ 1
  visit_one s number column predicate at k statement = by_any (list_any (is_of (seen_now m state o s number column predicate at).session (seen_now m state o s number column predicate at).statement) state.searches) refl
    where
      same_of : (x : TreeSearch) (b : Bool) → is_of (seen_now m state o s number column predicate at).session (seen_now m state o s number column predicate at).statement x ≡ b
          → is_of k statement (record x { search = cond b (seen_now m state o s number column predicate at) x.search }) ≡ is_of k statement x
      same_of x true e =
          let parts = of_parts (seen_now m state o s number column predicate at).session (seen_now m state o s number column predicate at).statement x e in
          ap (λ i. (i == k) && ((seen_now m state o s number column predicate at).statement == statement)) (sym parts.0) ∙ ap (λ n. (x.search.session == k) && (n == statement)) (sym parts.1)
      same_of x false e = refl

      by_any : (b : Bool) → list_any (is_of (seen_now m state o s number column predicate at).session (seen_now m state o s number column predicate at).statement) state.searches ≡ b
          → length (filter (is_of k statement) (cond b (map (λ (z : TreeSearch). record z {
            search = cond (is_of (seen_now m state o s number column predicate at).session (seen_now m state o s number column predicate at).statement z)
                (seen_now m state o s number column predicate at) z.search;
          }) state.searches) (state.searches ++ record { table = number; column = column; search = seen_now m state o s number column predicate at } ∷ []))) ≤ 1
      by_any true e =
          subst (λ n. n ≤ 1)
          (sym (count_mapped (λ (z : TreeSearch). record z { search = cond (is_of (seen_now m state o s number column predicate at).session (seen_now m state o s number column predicate at).statement z) (seen_now m state o s number column predicate at) z.search })
          (is_of k statement) state.searches (λ x. same_of x (is_of (seen_now m state o s number column predicate at).session (seen_now m state o s number column predicate at).statement x) refl)))
          (o.belongs.one k statement)
      by_any false e =
          subst (λ n. n ≤ 1) (sym (count_push (is_of k statement) state.searches (record { table = number; column = column; search = seen_now m state o s number column predicate at })))
          (by_new (is_of k statement (record { table = number; column = column; search = seen_now m state o s number column predicate at })) refl)
        where
          by_new : (b : Bool) → is_of k statement (record { table = number; column = column; search = seen_now m state o s number column predicate at }) ≡ b
              → length (filter (is_of k statement) state.searches) + cond b 1 0 ≤ 1
          by_new true i =
              let parts = of_parts k statement (record { table = number; column = column; search = seen_now m state o s number column predicate at }) i in
              let none : length (filter (is_of k statement) state.searches) ≡ 0 =
              count_none (is_of k statement) state.searches (ap (λ j. list_any (is_of j statement) state.searches) (sym parts.0) ∙ ap (λ n. list_any (is_of (seen_now m state o s number column predicate at).session n) state.searches) (sym parts.1) ∙ e) in
              omega (arith, none)
          by_new false i = let one : length (filter (is_of k statement) state.searches) ≤ 1 = o.belongs.one k statement in omega (arith, one)

  -- ---- answers and ends

  answer_belongs : (s : ℕ) (reply : Reply) (new : SessionState) → IsActive state s → IsAnswering m state s (session_at state.sessions s) reply false → new.number ≡ (session_at state.sessions s).number + 1
      → new.inside ≡ true → (y : TreeSearch) → Has state.searches y → Belongs m.ways state.tables (slice_set state.sessions s new) y
  answer_belongs s reply new active at number inside y has = by_session (y.search.session == s) refl
    where
      by_session : (t : Bool) → (y.search.session == s) ≡ t → Belongs m.ways state.tables (slice_set state.sessions s new) y
      by_session false e =
          let same : session_at (slice_set state.sessions s new) y.search.session ≡ session_at state.sessions y.search.session = other_at state.sessions s y.search.session new e in
          carry m.ways state.tables state.tables state.sessions (slice_set state.sessions s new) y y refl same_columns (it_is y)
          (ap (λ (z : SessionState). z.number) same) (ap (λ (z : SessionState). z.inside) same)
          (λ work w. (work, ap (λ (z : SessionState). z.work) same ∙ w, same_work work)) (o.belongs.each y has)
      by_session true e =
          let session : y.search.session ≡ s = eqb-true y.search.session s e in
          let then : session_at (slice_set state.sessions s new) y.search.session ≡ new =
          ap (session_at (slice_set state.sessions s new)) session ∙ same_at state.sessions s new (seated state.sessions s active.not_over) in
          let was : (session_at state.sessions y.search.session).number ≡ (session_at state.sessions s).number = ap (λ k. (session_at state.sessions k).number) session in
          let number_is : (session_at (slice_set state.sessions s new) y.search.session).number ≡ (session_at state.sessions s).number + 1 = ap (λ (z : SessionState). z.number) then ∙ number in
          let le : y.search.statement ≤ (session_at state.sessions y.search.session).number = (o.belongs.each y has).statement in
          record {
            numbered = (o.belongs.each y has).numbered;
            column = (o.belongs.each y has).column;
            statement = omega (arith, le, was, number_is);
            earlier = λ lt. record {
              inside = ap (λ (z : SessionState). z.inside) then ∙ inside;
              visited = by_now (cases_lt y.search.statement (session_at state.sessions y.search.session).number) session;
            };
            present = λ i. (let never : ⊥ = omega (arith, i, le, was, number_is) in absurd never);
          }
        where
          by_now : (y.search.statement < (session_at state.sessions y.search.session).number) ⊎ ((session_at state.sessions y.search.session).number ≤ y.search.statement) → y.search.session ≡ s → y.search.stack ≡ []
          by_now (inl lt) session = ((o.belongs.each y has).earlier lt).visited
          by_now (inr ge) session =
              let le : y.search.statement ≤ (session_at state.sessions y.search.session).number = (o.belongs.each y has).statement in
              let w : IsOfWork m.ways state.tables (session_at state.sessions y.search.session) y = (o.belongs.each y has).present (omega (arith, le, ge)) in
              w.visited (by_stop w (at.stopped refl w.work (ap (λ k. (session_at state.sessions k).work) (sym session) ∙ w.at_work)) (is_visiting w.work.phase) refl)
            where
              by_stop : (w : IsOfWork m.ways state.tables (session_at state.sessions y.search.session) y) → (is_visiting w.work.phase ≡ false) ⊎ ((failure : Failure) × (w.work.failure ≡ Some failure)) → (t : Bool) → is_visiting w.work.phase ≡ t
                  → is_visiting w.work.phase ≡ false
              by_stop w (inl none) t e' = none
              by_stop w (inr failed) true e' = absurd (none_some failed.0 (sym (w.unfailed e') ∙ failed.1))
              by_stop w (inr failed) false e' = e'

  end_belongs : (s : ℕ) (new : SessionState) → IsActive state s → (y : TreeSearch) → Has (searches_without state.searches s) y → Belongs m.ways state.tables (slice_set state.sessions s new) y
  end_belongs s new active y has =
      let left = left_was state.searches s y has in
      let same : session_at (slice_set state.sessions s new) y.search.session ≡ session_at state.sessions y.search.session = other_at state.sessions s y.search.session new left.1 in
      carry m.ways state.tables state.tables state.sessions (slice_set state.sessions s new) y y refl same_columns (it_is y)
      (ap (λ (z : SessionState). z.number) same) (ap (λ (z : SessionState). z.inside) same)
      (λ work w. (work, ap (λ (z : SessionState). z.work) same ∙ w, same_work work)) (o.belongs.each y left.0)

  end_one : (s k statement : ℕ) → length (filter (is_of k statement) (searches_without state.searches s)) ≤ 1
  end_one s k statement =
      let le : length (filter (is_of k statement) (searches_without state.searches s)) ≤ length (filter (is_of k statement) state.searches) = count_left (λ x. not (x.search.session == s)) (is_of k statement) state.searches in
      let one : length (filter (is_of k statement) state.searches) ≤ 1 = o.belongs.one k statement in
      omega (arith, le, one)

  -- while the setup makes tables, nobody has a search but the setup
  create_belongs : (s : ℕ) (tables : List StoredTable) (sessions : List SessionState) → IsActive state s → s ≡ 0 → (y : TreeSearch) → Has (searches_without state.searches s) y → Belongs m.ways tables sessions y
  create_belongs s tables sessions active is y has =
      let left = left_was state.searches s y has in
      let idle = (o.idle.setup_first (subst (λ i. (session_at state.sessions i).over ≡ false) is active.not_over) y.search.session (ap (λ i. y.search.session == i) (sym is) ∙ left.1)).0 in
      absurd (false≢true (sym ((o.idle.nothing y.search.session idle).no_search y left.0) ∙ eq-eqb y.search.session y.search.session refl))

  refused : (ds : List Deadlock) (y : TreeSearch) → Has state.searches y → Belongs m.ways state.tables (with_victims state.sessions ds) y
  refused ds y has =
      carry m.ways state.tables state.tables state.sessions (with_victims state.sessions ds) y y refl same_columns (it_is y)
      (victims_keep (λ (x : SessionState). x.number) (λ x. refl) state.sessions ds y.search.session) (victims_keep (λ (x : SessionState). x.inside) (λ x. refl) state.sessions ds y.search.session)
      (λ work w. (work, victims_keep (λ (x : SessionState). x.work) (λ x. refl) state.sessions ds y.search.session ∙ w, same_work work)) (o.belongs.each y has)

  columns_purged : (queue : List Queued) (n : ℕ) → indexed (table_at (tables_purged state.locks queue state.tables) n) ≡ indexed (table_at state.tables n)
  columns_purged [] n = refl
  columns_purged (dead_entry x ∷ queue) n = indexed_stay x.table x.column (without_entry x.number) state.tables n
  columns_purged (dead_row number key ∷ queue) n =
      same_indexed state.tables (cond (may_leave state.locks (table_at state.tables number) number key) (change_table number (table_without key) state.tables) state.tables)
      (purged_row_leaves_trees (may_leave state.locks (table_at state.tables number) number key) number key state.tables) n

  placed_from : (d : Descent) (q : ℕ) (ds : List Division) (y : TreeSearch) → Has (map (search_after_place (tree_for state d) d state.entries q ds) state.searches) y → (x : TreeSearch) × Has state.searches x × IsAsIt x y
  placed_from d q ds y h =
      let src : Source (search_after_place (tree_for state d) d state.entries q ds) state.searches y = Has-map (search_after_place (tree_for state d) d state.entries q ds) state.searches y h in
      (src.x, src.has, subst (λ (z : TreeSearch). IsAsIt src.x z) src.is (placed_as (tree_for state d) d state.entries q ds src.x))

  placed_one : (d : Descent) (q : ℕ) (ds : List Division) (k statement : ℕ) → length (filter (is_of k statement) (map (search_after_place (tree_for state d) d state.entries q ds) state.searches)) ≤ 1
  placed_one d q ds k statement =
      subst (λ n. n ≤ 1) (sym (count_mapped (search_after_place (tree_for state d) d state.entries q ds) (is_of k statement) state.searches
      (λ x. is_of_same k statement x (search_after_place (tree_for state d) d state.entries q ds x) (placed_as (tree_for state d) d state.entries q ds x)))) (o.belongs.one k statement)

  on_step : (s : ℕ) (tables : List StoredTable) (new : SessionState) → IsActive state s → map definition_at tables ≡ map definition_at state.tables
      → ((n : ℕ) → indexed (table_at tables n) ≡ indexed (table_at state.tables n)) → Onward s new → AllBelong m.ways tables state.searches (slice_set state.sessions s new)
  on_step s tables new active same columns on = all tables (slice_set state.sessions s new) (step s tables state.searches new active same columns still on)

  pub belongs_each : EachKeeps m state (λ (st : State). AllBelong m.ways st.tables st.searches st.sessions)
  belongs_each = record {
    still = o.belongs;
    purge = λ some. all (tables_purged state.locks state.queue state.tables) state.sessions
        (λ y h. carry m.ways state.tables (tables_purged state.locks state.queue state.tables) state.sessions state.sessions y y (purged_keeps state.locks state.queue state.tables) (columns_purged state.queue) (it_is y) refl refl
        (λ work w. (work, w, same_work work)) (o.belongs.each y h));
    end = λ s over active. record { each = end_belongs s _ active; one = end_one s };
    answer = λ s reply active at. all state.tables _ (answer_belongs s reply _ active at refl refl);
    undo = λ s entry more active at. on_step s _ _ active (definitions_changed entry.table (table_with_row entry.key (restored entry.image)) state.tables (λ t. refl))
        (same_indexed state.tables _ (change_leaves_trees entry.table (table_with_row entry.key (restored entry.image)) state.tables (λ t. refl))) (undoes s _ refl refl refl);
    create = λ s over name schema leaf roots active at may. record { each = create_belongs s _ _ active at.setup; one = end_one s };
    refuse = λ s on ds active at may. all state.tables (with_victims state.sessions ds) (refused ds);
    lock_table = λ s statement number mode active at none. on_step s state.tables _ active refl same_columns (begins s _ at.first.no_work refl refl);
    lock_key = λ s number key mode active at none. on_step s state.tables _ active refl same_columns
        (works s _ _ at.work at.goes_on.at_work refl refl refl refl refl (ap is_visiting at.phase)
        (ap (λ p. is_visiting (phase_after_key (table_at state.tables number) at.work.statement p (read_with at.work.phase at.work.read (row_of (present (table_at state.tables number) key))))) at.phase
        ∙ keys_visits (table_at state.tables number) at.work.statement at.keys (read_with at.work.phase at.work.read (row_of (present (table_at state.tables number) key)))));
    lock_row = λ s number key mode active at none. on_step s state.tables _ active refl same_columns
        (works s _ _ at.work at.goes_on.at_work refl refl refl refl refl (ap is_visiting at.phase)
        (ap (λ p. is_visiting (phase_after_key (table_at state.tables number) at.work.statement p (read_with at.work.phase at.work.read (row_of (present (table_at state.tables number) key))))) at.phase));
    visit = λ s number column predicate active at. record { each = visit_belongs s number column predicate _ _ active at refl refl refl refl refl refl refl; one = visit_one s number column predicate at };
    scan = λ s number leaf active at. on_step s state.tables _ active refl same_columns
        (works s _ _ at.work at.goes_on.at_work refl refl refl refl refl (ap is_visiting at.phase) (scan_visits (table_at state.tables number) at.work.statement leaf (at.work.read ++ map as_read (rows_in leaf))));
    step = λ s d q active at may. on_step s state.tables _ active refl same_columns
        (works s _ _ at.descending.entering.work at.descending.entering.goes_on.at_work refl refl refl refl refl (entering_visits s at.descending.entering) (entry_visits s _ at.descending.entering));
    stale = λ s d active at. on_step s state.tables _ active refl same_columns
        (works s _ _ at.descending.entering.work at.descending.entering.goes_on.at_work refl refl refl refl refl (entering_visits s at.descending.entering) (entry_visits s _ at.descending.entering));
    full = λ s active at. on_step s state.tables _ active refl same_columns (works s _ _ at.work at.goes_on.at_work refl refl refl refl refl (entering_visits s at) (entering_visits s at));
    place = λ s d q ds active at may. record {
      each = step s _ _ _ active (definitions_changed d.table (with_tree d.column (tree_after_place d state.entries q ds)) state.tables (λ t. refl))
          (λ n. indexed_stay d.table d.column (tree_after_place d state.entries q ds) state.tables n) (placed_from d q ds)
          (works s _ _ at.descending.entering.work at.descending.entering.goes_on.at_work refl refl refl refl refl (entering_visits s at.descending.entering) (entry_visits s _ at.descending.entering));
      one = placed_one d q ds;
    };
    row = λ s number change placed p active at may. on_step s _ _ active (definitions_changed number (table_after_row p change placed change.new) state.tables (row_keeps p change placed change.new))
        (same_indexed state.tables _ (change_leaves_trees number (table_after_row p change placed change.new) state.tables (λ t. after_row_leaves_trees p change placed change.new t)))
        (works s _ _ at.entering.work at.entering.goes_on.at_work refl refl refl refl refl (entering_visits s at.entering) (row_visits (table_at state.tables number) s at.entering));
  }

pub belongs_kept : (m : Machine) (state : State) (actor : Actor) (choice : Choice) → IsProper m → InOrder m state → MayHappen m state actor choice
    → AllBelong m.ways (after m state actor choice).tables (after m state actor choice).searches (after m state actor choice).sessions
belongs_kept m state actor choice good o h =
    event_keeps m state good o (λ (st : State). AllBelong m.ways st.tables st.searches st.sessions) (belongs_each m state good o) actor choice h
