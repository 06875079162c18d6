-- What the line of an event tells is what its kind tells.
use Rattle.std.proofs.Common.{◌≡◌, ◌∙◌, refl, sym, ap, ℕ, ◌==◌, true, false, cond, List, [], ◌∷◌, ◌++◌, Option, Some, None, append_assoc, append-nil, length, drop}
use Rattle.std.specs.List.{last_or}
use Rattle.isp_forest.specs.Tree.{Node, Tree, page_at, counter}
use Rattle.isp_forest.specs.Steps.{is_among}
use Rattle.isp_forest.specs.Search.{Search}
use Rattle.isp_forest.specs.Visit.{remembered, to_find, to_visit, visit, visited_at, looked_at}
use Rattle.isp_forest.specs.Walk.{split_since}
use Rattle.isp_events.specs.Stored.{table_at, tree_of}
use Rattle.isp_events.specs.Sessions.{session_at}
use Rattle.isp_events.specs.State.{State, front}
use Rattle.isp_events.specs.Ways.{Machine}
use Rattle.isp_events.specs.Lines.{traced, visited_page}
use Rattle.isp_events.specs.Next.{EventKind, answers, undoes, creates, asks_table, asks_key, visits, scans, steps, goes_stale, finds_full, places, writes, next}
use Rattle.isp_events.specs.Reading.{page_visited, search_before, visit_told, visit_top, visited}
use Rattle.isp_events.specs.Events.{acts, Choice, with_nothing, with_blockers, with_deadlocks, with_child, with_divisions, with_put, with_undo_pages, with_roots, MayChoose, MayGoOn, MayHappen, lines_next, told_of}
use Rattle.isp_event_laws.specs.EventLaws.{IsNext, IsVisitOf, Tells, TellsVisit}

-- ---- a visit

last_of : {X : Type 0} (o : Option X) (xs : List X) (x : X) → last_or o (xs ++ x ∷ []) ≡ Some x
last_of o [] x = refl
last_of o (y ∷ xs) x = last_of (Some y) xs x

pub front_of : {X : Type 0} (xs : List X) (x : X) → front (xs ++ x ∷ []) ≡ xs
front_of [] x = refl
front_of (y ∷ []) x = refl
front_of (y ∷ z ∷ xs) x = ap (λ rest. y ∷ rest) (front_of (z ∷ xs) x)

pub last_is : {X : Type 0} (xs : List X) (x : X) → last_or None (xs ++ x ∷ []) ≡ Some x
last_is xs x = last_of None xs x

-- what a visit adds to a list
record Adds {X : Type 0} (before after : List X) : Type 0 where
  more : List X
  is : after ≡ before ++ more

adds_none : {X : Type 0} (xs : List X) → Adds xs xs
adds_none xs = record { more = []; is = sym (append-nil xs) }

drop_front : {X : Type 0} (xs ys : List X) → drop (length xs) (xs ++ ys) ≡ ys
drop_front [] ys = refl
drop_front (x ∷ xs) ys = drop_front xs ys

-- so what is behind the front is what was added
behind_front : {X : Type 0} (front before after more : List X) → front ≡ before → after ≡ before ++ more → after ≡ before ++ drop (length front) after
behind_front front before after more f h =
    let d : drop (length front) after ≡ more = ap (λ xs. drop (length xs) after) f ∙ ap (drop (length before)) h ∙ drop_front before more in
    h ∙ ap (λ m. before ++ m) (sym d)

stack_at : (tree : Tree) (rest : List (ℕ × ℕ)) (page ssn : ℕ) (o : Option Node) (x : Search) → Adds rest (visited_at tree page ssn o (record x { stack = rest })).stack
stack_at tree rest page ssn None x = adds_none rest
stack_at tree rest page ssn (Some node) x =
    let behind : Search = record x { stack = rest ++ remembered ssn (split_since ssn (Some node)) } in
    elim (is_among x.on page) as (λ b. Adds rest (cond b behind (looked_at (counter tree) node page behind)).stack) [
      | true ↦ record { more = remembered ssn (split_since ssn (Some node)); is = refl }
      | false ↦ record {
        more = remembered ssn (split_since ssn (Some node)) ++ cond (node.level == 0) [] (to_visit x.predicate (counter tree) node.entries);
        is = append_assoc rest (remembered ssn (split_since ssn (Some node))) (cond (node.level == 0) [] (to_visit x.predicate (counter tree) node.entries));
      }
    ]

found_at : (tree : Tree) (rest : List (ℕ × ℕ)) (page ssn : ℕ) (o : Option Node) (x : Search) → Adds x.found (visited_at tree page ssn o (record x { stack = rest })).found
found_at tree rest page ssn None x = adds_none x.found
found_at tree rest page ssn (Some node) x =
    let behind : Search = record x { stack = rest ++ remembered ssn (split_since ssn (Some node)) } in
    elim (is_among x.on page) as (λ b. Adds x.found (cond b behind (looked_at (counter tree) node page behind)).found) [
      | true ↦ adds_none x.found
      | false ↦ record { more = cond (node.level == 0) (to_find x.predicate node.entries) []; is = refl }
    ]

pub is_visit_of : (tree : Tree) (number column : ℕ) (x : Search) (rest : List (ℕ × ℕ)) (page ssn : ℕ) → x.stack ≡ rest ++ (page, ssn) ∷ []
    → IsVisitOf tree x rest page ssn (visit_told number column x (visited tree x))
is_visit_of tree number column x rest page ssn e =
    let top : ℕ × ℕ = (page, ssn) in
    let l : last_or None x.stack ≡ Some top = ap (last_or None) e ∙ last_is rest top in
    let f : front x.stack ≡ rest = ap front e ∙ front_of rest top in
    let is : visited tree x ≡ visit tree rest page ssn x = ap (visit_top tree x) l ∙ ap (λ r. visit tree r page ssn x) f in
    let stack : Adds rest (visit tree rest page ssn x).stack = stack_at tree rest page ssn (page_at tree page) x in
    let found : Adds x.found (visit tree rest page ssn x).found = found_at tree rest page ssn (page_at tree page) x in
    record {
      of = ap page_visited l;
      again = ap (λ o. is_among x.on (page_visited o)) l;
      visits = is;
      pushed = behind_front (front x.stack) rest (visited tree x).stack stack.more f (ap (λ (y : Search). y.stack) is ∙ stack.is);
      found = behind_front x.found x.found (visited tree x).found found.more refl (ap (λ (y : Search). y.found) is ∙ found.is);
    }

tells_visit : (tree : Tree) (number column : ℕ) (x : Search) → TellsVisit tree number column x (traced (visited_page (visit_told number column x (visited tree x))))
tells_visit tree number column x = (visit_told number column x (visited tree x), refl, refl, refl, is_visit_of tree number column x)

-- ---- each kind

pub tells : (state : State) (s : ℕ) (kind : EventKind) (choice : Choice) → MayChoose state s kind choice → Tells state s kind choice (told_of state s kind choice)
tells state s (answers reply ends) with_nothing h = refl
tells state s (undoes entry) (with_undo_pages more) h = refl
tells state s (creates name schema) with_nothing h = refl
tells state s (creates name schema) (with_roots leaf roots) h = refl
tells state s (asks_table statement number mode) with_nothing h = refl
tells state s (asks_table statement number mode) (with_blockers by ds) h = refl
tells state s (asks_key number key mode) with_nothing h = refl
tells state s (asks_key number key mode) (with_blockers by ds) h = refl
tells state s (visits number column predicate) with_nothing h =
    let tree = tree_of (table_at state.tables number) column in
    tells_visit tree number column (search_before state.searches tree s (session_at state.sessions s).number predicate)
tells state s (scans number leaf) with_nothing h = refl
tells state s (steps d) (with_child q) h = (q, refl, refl)
tells state s (goes_stale d) with_nothing h = refl
tells state s finds_full with_nothing h = refl
tells state s (places d) (with_deadlocks ds) h = refl
tells state s (places d) (with_divisions q ds) h = refl
tells state s (writes number change placed) (with_put p) h = refl
tells state s kind choice h = absurd h

pub is_next : (m : Machine) (state : State) (turn s : ℕ) (choice : Choice) → MayHappen m state (acts s) choice → IsNext m state turn s choice
is_next m state turn s choice h = at (next m state s) refl h
  where
    at : (o : Option EventKind) → next m state s ≡ o → MayGoOn state s o choice → IsNext m state turn s choice
    at None e k = absurd k
    at (Some kind) e k = record {
      kind = kind;
      next_is = e;
      may = k;
      told = told_of state s kind choice;
      tells = tells state s kind choice k;
      lines = ap (λ o. lines_next state turn s o choice) e;
    }
