-- The states that one event leads to, kind by kind.
use Rattle.std.proofs.Common.{◌≡◌, ◌⊎◌, ◌∙◌, inl, inr, refl, sym, ap, subst, ℕ, ℤ, suc, ◌≤◌, ◌<◌, ◌==◌, Bool, true, false, Option, Some, None, List, [], ◌∷◌, ◌++◌, arith, length, map, take, eqb-true}
use Rattle.std.specs.Prelude.{flat_map, slice_set}
use Rattle.std.specs.List.{last_or, list_all}
use Rattle.std.proofs.lemmas.Bool.{false≢true}
use Rattle.isp_base.specs.Lists.{Has}
use Rattle.isp_laws.proofs.ForestLaws.{times_named}
use Rattle.isp_laws.proofs.ListLaws.{Has-append_left, Has-append_right, Has-map_of, Has-times}
use Rattle.isp_reclock.specs.Tables.{key_lock, table_lock}
use Rattle.isp_plain.specs.declared.statement.Reply.TheVariants as says
use Rattle.isp_plain.specs.declared.value.Schema.{Schema}
use Rattle.isp_forest.specs.Tree.{Node, Tree, named, page_at}
use Rattle.isp_forest.specs.Place.{Names}
use Rattle.isp_events.specs.Sessions.{SessionState, UndoEntry, session_at}
use Rattle.isp_events.specs.State.{State, free_pages, is_free, session_numbers}
use Rattle.isp_events.specs.Ways.{Machine}
use Rattle.isp_events.specs.Next.{Descent, EventKind, answers, undoes, creates, asks_table, asks_key, visits, scans, steps, goes_stale, finds_full, places, writes, has_entry_for, next}
use Rattle.isp_events.specs.Asking.{after_key_lock, after_table_lock}
use Rattle.isp_events.specs.Reading.{after_scan, after_visit}
use Rattle.isp_events.specs.Placing.{after_full, after_stale, after_step, follows, in_the_way, may_step, sessions_on, tree_for}
use Rattle.isp_events.specs.Ending.{MayCreate, after_create, after_undo, indexed_in, is_over_after, session_after_undo}
use Rattle.isp_events.specs.Purging.{after_purge}
use Rattle.isp_events.specs.Events.{Actor, acts, purges, flushes, lists_locks, Choice, with_nothing, with_blockers, with_deadlocks, with_child, with_divisions, with_put, with_undo_pages, with_roots, with_flushed, MayChoose, MayGoOn, MayHappen, after, after_kind, after_next, after_reply, blockers_of, full_reply}
use Rattle.isp_order.specs.InOrder.{AreCounted}
use Rattle.isp_order.proofs.SessionLaws.{seated}
use Rattle.isp_causes.specs.Causes.{IsActive, IsCaused}
use Rattle.isp_causes.proofs.CauseLaws.{is_caused}
use Rattle.isp_event_laws.proofs.PlacingLaws.{Has-flat_map_of}
use Rattle.isp_measure.proofs.SumLaws.{numbered}
use Rattle.isp_measure_laws.proofs.PathFalls.{entry_names}
use Rattle.isp_choices.specs.NextStates.{NextStatesAreListed}
use Rattle.isp_choices.proofs.ListParts.{all_have, clipped, clipped_low, lists_has, lists_of, take_clipped, up_to, up_to_has}
use Rattle.isp_choices.proofs.RefusalChoices.{blocker_lists, blockers_listed, refusals, refusals_has}
use Rattle.isp_choices.proofs.PlaceChoices.{free_has, placings, placings_has}
use Rattle.isp_choices.proofs.PutChoices.{rows_behind, rows_have}

-- ---- an undo entry

undone : State → ℕ → UndoEntry → List State
undone state s entry = map (λ more. after_undo state s entry more) (up_to (length (session_at state.sessions s).undo_pages))

undone_has : (state : State) (s : ℕ) (entry : UndoEntry) (more : ℕ) → Has (undone state s entry) (after_undo state s entry more)
unfolding undone
undone_has state s entry more =
    subst (Has (undone state s entry)) same
    (Has-map_of (λ k. after_undo state s entry k) (up_to (length (session_at state.sessions s).undo_pages)) (clipped (length (session_at state.sessions s).undo_pages) more)
    (up_to_has (length (session_at state.sessions s).undo_pages) (clipped (length (session_at state.sessions s).undo_pages) more) (clipped_low (length (session_at state.sessions s).undo_pages) more)))
  where
    pages : List ℕ
    pages = (session_at state.sessions s).undo_pages

    taken : take (suc (clipped (length (session_at state.sessions s).undo_pages) more)) (session_at state.sessions s).undo_pages ≡ take (suc more) (session_at state.sessions s).undo_pages
    taken = by_pages (session_at state.sessions s).undo_pages
      where
        by_pages : (xs : List ℕ) → take (suc (clipped (length xs) more)) xs ≡ take (suc more) xs
        by_pages [] = refl
        by_pages (x ∷ xs) = ap (λ ys. x ∷ ys) (take_clipped xs (length (x ∷ xs)) more (omega arith))

    same : after_undo state s entry (clipped (length (session_at state.sessions s).undo_pages) more) ≡ after_undo state s entry more
    same = ap (λ (xs : List ℕ). record (after_undo state s entry more) { sessions = slice_set state.sessions s (record (session_after_undo more (session_at state.sessions s)) { undo_pages = xs }) }) taken

-- ---- a new table

created : Machine → State → ℕ → List ℕ → Schema → List ℕ → State
created m state s name schema [] = state
created m state s name schema (leaf ∷ roots) = after_create state s (is_over_after m s (session_at state.sessions s).number says.Ok) name schema leaf roots

tables_made : Machine → State → ℕ → List ℕ → Schema → List State
tables_made m state s name schema = map (λ pages. created m state s name schema pages) (lists_of (free_pages state) (suc (length (indexed_in schema))))

tables_have : (m : Machine) (state : State) (s : ℕ) (name : List ℕ) (schema : Schema) (leaf : ℕ) (roots : List ℕ) → MayCreate state schema leaf roots
    → Has (tables_made m state s name schema) (after_create state s (is_over_after m s (session_at state.sessions s).number says.Ok) name schema leaf roots)
unfolding tables_made created
tables_have m state s name schema leaf roots may =
    Has-map_of (λ pages. created m state s name schema pages) (lists_of (free_pages state) (suc (length (indexed_in schema)))) (leaf ∷ roots)
    (lists_has (free_pages state) (suc (length (indexed_in schema))) (leaf ∷ roots) (omega (arith, may.each_column)) (λ q h. free_has state q (all_have (is_free state) (leaf ∷ roots) may.free q h)))

-- ---- a step

stepped_states : State → ℕ → Descent → List State
stepped_states state s d = map (λ q. after_step state s d q) ((tree_for state d).root ∷ named (tree_for state d).pages)

step_listed : (tree : Tree) (o : Option ℕ) (q : ℕ) → follows tree o q ≡ true → Has (tree.root ∷ named tree.pages) q
step_listed tree None q h = inl (sym (eqb-true q tree.root h))
step_listed tree (Some p) q h = by_page (page_at tree p) refl
  where
    by_page : (o : Option Node) → page_at tree p ≡ o → Has (tree.root ∷ named tree.pages) q
    by_page None e = absurd (false≢true (ap (λ o. has_entry_for o q) (sym e) ∙ h))
    by_page (Some page) e = (let n = entry_names tree p page q e h in inr (Has-times q (named tree.pages) (times_named tree p q n.0 n.1)))

steps_have : (state : State) (s : ℕ) (d : Descent) (q : ℕ) → may_step (tree_for state d) d.path q ≡ true → Has (stepped_states state s d) (after_step state s d q)
unfolding stepped_states
steps_have state s d q may =
    Has-map_of (λ k. after_step state s d k) ((tree_for state d).root ∷ named (tree_for state d).pages) q (step_listed (tree_for state d) (last_or None d.path) q may)

-- ---- each kind

-- the states that an event of the kind leads to
states_of : Machine → State → ℕ → EventKind → List State
states_of m state s (answers reply ends) = after_reply m state s reply ends ∷ []
states_of m state s (undoes entry) = undone state s entry
states_of m state s (creates name schema) = after_reply m state s full_reply true ∷ tables_made m state s name schema
states_of m state s (asks_table statement number mode) = after_table_lock state m.ways s statement number mode ∷ refusals state s (blocker_lists state)
states_of m state s (asks_key number key mode) = after_key_lock state s number key mode ∷ refusals state s (blocker_lists state)
states_of m state s (visits number column predicate) = after_visit state s number column predicate ∷ []
states_of m state s (scans number leaf) = after_scan state s number leaf ∷ []
states_of m state s (steps d) = stepped_states state s d
states_of m state s (goes_stale d) = after_stale state s ∷ []
states_of m state s finds_full = after_full state s ∷ []
states_of m state s (places d) = refusals state s (sessions_on (in_the_way state s d) ∷ []) ++ placings state s d
states_of m state s (writes number change placed) = rows_behind state s number change placed

kinds_have : (m : Machine) (state : State) (s : ℕ) (kind : EventKind) (choice : Choice) → AreCounted state → MayChoose state s kind choice → Has (states_of m state s kind) (after_kind m state s kind choice)
unfolding states_of
kinds_have m state s (answers reply ends) with_nothing c h = inl refl
kinds_have m state s (undoes entry) (with_undo_pages more) c h = undone_has state s entry more
kinds_have m state s (creates name schema) with_nothing c h = inl refl
kinds_have m state s (creates name schema) (with_roots leaf roots) c h = inr (tables_have m state s name schema leaf roots h)
kinds_have m state s (asks_table statement number mode) with_nothing c h = inl refl
kinds_have m state s (asks_table statement number mode) (with_blockers by ds) c h =
    inr (refusals_has state s (blocker_lists state) (blockers_of by) ds c (blockers_listed state (table_lock s number mode) by h.1) h.2)
kinds_have m state s (asks_key number key mode) with_nothing c h = inl refl
kinds_have m state s (asks_key number key mode) (with_blockers by ds) c h =
    inr (refusals_has state s (blocker_lists state) (blockers_of by) ds c (blockers_listed state (key_lock s number key mode) by h.1) h.2)
kinds_have m state s (visits number column predicate) with_nothing c h = inl refl
kinds_have m state s (scans number leaf) with_nothing c h = inl refl
kinds_have m state s (steps d) (with_child q) c h = steps_have state s d q h
kinds_have m state s (goes_stale d) with_nothing c h = inl refl
kinds_have m state s finds_full with_nothing c h = inl refl
kinds_have m state s (places d) (with_deadlocks ds) c h =
    Has-append_left (refusals state s (sessions_on (in_the_way state s d) ∷ [])) (placings state s d) _
    (refusals_has state s (sessions_on (in_the_way state s d) ∷ []) (sessions_on (in_the_way state s d)) ds c (inl refl) h.1)
kinds_have m state s (places d) (with_divisions q ds) c h =
    Has-append_right (refusals state s (sessions_on (in_the_way state s d) ∷ [])) (placings state s d) _ (placings_has state s d q ds h)
kinds_have m state s (writes number change placed) (with_put p) c h = rows_have state s number change placed p h
kinds_have m state s kind choice c h = absurd h

states_next : Machine → State → ℕ → Option EventKind → List State
states_next m state s None = []
states_next m state s (Some kind) = states_of m state s kind

next_has : (m : Machine) (state : State) (s : ℕ) (kind : Option EventKind) (choice : Choice) → AreCounted state → MayGoOn state s kind choice → Has (states_next m state s kind) (after_next m state s kind choice)
unfolding states_next
next_has m state s None choice c h = absurd h
next_has m state s (Some kind) choice c h = kinds_have m state s kind choice c h

-- whoever has an event is one of the sessions
seat : (m : Machine) (state : State) (s : ℕ) (kind : Option EventKind) (choice : Choice) → AreCounted state → next m state s ≡ kind → MayGoOn state s kind choice → Has session_numbers s
seat m state s None choice c e h = absurd h
seat m state s (Some kind) choice c e h =
    let active : IsActive state s = (is_caused m state s kind e).active in
    let place : s < length state.sessions = seated state.sessions s active.not_over in
    numbered s (omega (arith, place, c.sessions))

-- ---- all

next_states : Machine → State → List State
next_states m state = state ∷ after_purge state ∷ flat_map (λ s. states_next m state s (next m state s)) session_numbers

states_have : (m : Machine) (state : State) (actor : Actor) (choice : Choice) → AreCounted state → MayHappen m state actor choice → Has (next_states m state) (after m state actor choice)
unfolding next_states
states_have m state (acts s) choice c h =
    inr (inr (Has-flat_map_of (λ k. states_next m state k (next m state k)) session_numbers s (after_next m state s (next m state s) choice)
    (seat m state s (next m state s) choice c refl h) (next_has m state s (next m state s) choice c h)))
states_have m state purges with_nothing c h = inr (inl refl)
states_have m state flushes (with_flushed n) c h = inl refl
states_have m state lists_locks with_nothing c h = inl refl
states_have m state actor choice c h = absurd h

pub next_states_are_listed : NextStatesAreListed
next_states_are_listed m state = (next_states m state, states_have m state)
