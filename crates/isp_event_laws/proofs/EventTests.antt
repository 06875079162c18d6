-- Tests that compute whether events may happen, for runs that are worked out step by step.
use Rattle.std.proofs.Common.{◌≡◌, ◌⊎◌, inl, inr, refl, sym, subst, ℕ, suc, ◌<◌, ◌≤◌, ◌==◌, ◌&&◌, ◌||◌, Bool, true, false, not, cond, List, [], ◌∷◌, length, Option, Some, None, arith, eqb-true}
use Rattle.std.specs.Prelude.{MatchBool, filter_map, nat_le, nat_lt, reverse, slice_index, slice_set}
use Rattle.std.specs.List.{list_all, list_any, range_with_len}
use Rattle.std.specs.BTreeMap.{is_at}
use Rattle.std.specs.Ordering.{nat_cmp}
use Rattle.std.specs.Str.{bytes_eq}
use Rattle.std.proofs.lemmas.Bool.{and_parts}
use Rattle.std.proofs.lemmas.Bool.Decides.{nat_tests}
use Rattle.std.proofs.lemmas.Slice.Eq.{bytes_eq-Decides}
use Rattle.isp_base.specs.Lists.{Has}
use Rattle.isp_laws.proofs.CheckLaws.{has_all}
use Rattle.isp_plain.specs.declared.value.Schema.{Schema}
use Rattle.isp_reclock.specs.declared.entries.Blocker.{Blocker}
use Rattle.isp_reclock.specs.declared.entries.Lock.{Lock}
use Rattle.isp_reclock.specs.declared.modes.Mode.{Mode}
use Rattle.isp_reclock.specs.declared.modes.Mode.TheVariants.{IS, IX, S, X}
use Rattle.isp_reclock.specs.Modes.{is_mode}
use Rattle.isp_reclock.specs.Tables.{holds, is_lock, key_lock, table_lock}
use Rattle.isp_reclock.specs.Blockers.{AreBlockers, blocker_of}
use Rattle.isp_reclock.proofs.BlockerLemmas.{are_blockers}
use Rattle.isp_waits.specs.Graphs.{has}
use Rattle.isp_waits.specs.Cycles.{IsFree, IsLeastCycle}
use Rattle.isp_waits.specs.Levels.{reaches, walk}
use Rattle.isp_waits.specs.Victims.{GivesWay, IsVictim}
use Rattle.isp_waits.proofs.Rounds.{least_cycle, no_cycle}
use Rattle.isp_forest.specs.Tree.{Tree}
use Rattle.isp_forest.specs.Steps.{add}
use Rattle.isp_forest.specs.Place.{Division}
use Rattle.isp_events.specs.Stored.{table_at}
use Rattle.isp_events.specs.Sessions.{Change}
use Rattle.isp_events.specs.State.{State, has_room, is_empty, is_free, session_count, session_numbers}
use Rattle.isp_events.specs.Ways.{Machine}
use Rattle.isp_events.specs.Next.{Descent, EventKind, answers, undoes, creates, asks_table, asks_key, visits, scans, steps, goes_stale, finds_full, places, writes, next}
use Rattle.isp_events.specs.Deadlocks.{AreDeadlocks, Deadlock, undo_lengths, waits_with}
use Rattle.isp_events.specs.Placing.{MayPlaceEntry, in_the_way, may_step, pages_placing, sessions_on, tree_for}
use Rattle.isp_events.specs.Writing.{MayWriteRow, Put, are_apart, fits_put, is_put, pages_putting, takes_undo_alone}
use Rattle.isp_events.specs.Ending.{MayCreate, indexed_in}
use Rattle.isp_events.specs.Events.{Actor, acts, purges, flushes, lists_locks, Choice, with_nothing, with_blockers, with_deadlocks, with_child, with_divisions, with_put, with_undo_pages, with_roots, with_flushed, Event, MayBeRefused, MayChoose, MayFollow, MayGoOn, MayHappen, MayStop, after, blockers_of}
use Rattle.isp_event_laws.proofs.DivideTests.{overflow_by_test, overflow_test, relieve_by_test, relieve_test}
use Rattle.isp_event_laws.proofs.ListTests.{Passing, any_has, at_most, below, empty_is, not_is}
use Rattle.isp_event_laws.proofs.PlacingLaws.{in_range, numbers_sorted}

-- ---- locks

abbrev pub same_blocker : Blocker → Blocker → Bool
same_blocker a b = (a.trx == b.trx) && is_mode a.held b.held

abbrev pub same_blockers : List Blocker → List Blocker → Bool
same_blockers [] [] = true
same_blockers (a ∷ xs) (b ∷ ys) = same_blocker a b && same_blockers xs ys
same_blockers _ _ = false

same_mode : (a b : Mode) → is_mode a b ≡ true → b ≡ a
same_mode IS IS h = refl
same_mode IX IX h = refl
same_mode S S h = refl
same_mode X X h = refl
same_mode a b h = let no : ⊥ = cc in absurd no

is_same_blocker : (a b : Blocker) → same_blocker a b ≡ true → b ≡ a
is_same_blocker a b h =
    let parts : ((a.trx == b.trx) ≡ true) × (is_mode a.held b.held ≡ true) = and_parts (a.trx == b.trx) (is_mode a.held b.held) h in
    let t : b.trx ≡ a.trx = sym (eqb-true a.trx b.trx parts.0) in
    let m : b.held ≡ a.held = same_mode a.held b.held parts.1 in
    λ i. record { trx = t i; held = m i }

are_same_blockers : (xs ys : List Blocker) → same_blockers xs ys ≡ true → ys ≡ xs
are_same_blockers [] [] h = refl
are_same_blockers (a ∷ xs) (b ∷ ys) h =
    let parts : (same_blocker a b ≡ true) × (same_blockers xs ys ≡ true) = and_parts (same_blocker a b) (same_blockers xs ys) h in
    let first : b ≡ a = is_same_blocker a b parts.0 in
    let rest : ys ≡ xs = are_same_blockers xs ys parts.1 in
    λ i. first i ∷ rest i
are_same_blockers [] (b ∷ ys) h = let no : ⊥ = cc in absurd no
are_same_blockers (a ∷ xs) [] h = let no : ⊥ = cc in absurd no

-- all locks are sessions', and these are the blockers found among the sessions
abbrev pub blockers_test : List Lock → Lock → List Blocker → Bool
blockers_test locks asked by = list_all (λ lock. nat_lt lock.trx session_count) locks && same_blockers (filter_map (blocker_of locks asked) session_numbers) by

compares : (k : ℕ) → is_at (nat_cmp k) k ≡ true
compares k = grind (arith, nat_tests)

or_right : (b c : Bool) → c ≡ true → (b || c) ≡ true
or_right true c h = refl
or_right false c h = h

or_left : (b c : Bool) → b ≡ true → (b || c) ≡ true
or_left true c h = refl
or_left false c h = let no : ⊥ = cc in absurd no

at_one : (xs : List ℕ) (k : ℕ) → Has xs k → list_any (is_at (nat_cmp k)) xs ≡ true
at_one [] k h = absurd h
at_one (x ∷ xs) k (inl e) = or_left (is_at (nat_cmp k) x) (list_any (is_at (nat_cmp k)) xs) (subst (λ (j : ℕ). is_at (nat_cmp k) j ≡ true) (sym e) (compares k))
at_one (x ∷ xs) k (inr h) = or_right (is_at (nat_cmp k) x) (list_any (is_at (nat_cmp k)) xs) (at_one xs k h)

pub among_sessions : (k : ℕ) → k < session_count → Has session_numbers k
among_sessions k low = in_range 0 session_count k (omega arith) (omega (arith, low))

holder_known : (locks : List Lock) → list_all (λ lock. nat_lt lock.trx session_count) locks ≡ true → (lock : Lock) → holds locks lock ≡ true
    → list_any (is_at (nat_cmp lock.trx)) session_numbers ≡ true
holder_known locks all lock h =
    let p : Passing (is_lock lock) locks = any_has (is_lock lock) locks h in
    let same : lock.trx ≡ p.x.trx = eqb-true lock.trx p.x.trx (and_parts (lock.trx == p.x.trx) _ p.passes).0 in
    let low : p.x.trx < session_count = below p.x.trx session_count (has_all (λ (l : Lock). nat_lt l.trx session_count) locks p.x all p.has) in
    at_one session_numbers lock.trx (among_sessions lock.trx (subst (λ (k : ℕ). k < session_count) (sym same) low))

pub blockers_by_test : (locks : List Lock) (asked : Lock) (by : List Blocker) → blockers_test locks asked by ≡ true → AreBlockers locks asked by
blockers_by_test locks asked by h =
    let parts : (list_all (λ lock. nat_lt lock.trx session_count) locks ≡ true) × (same_blockers (filter_map (blocker_of locks asked) session_numbers) by ≡ true) =
    and_parts (list_all (λ lock. nat_lt lock.trx session_count) locks) (same_blockers (filter_map (blocker_of locks asked) session_numbers) by) h in
    are_blockers locks asked session_numbers numbers_sorted (holder_known locks parts.0) by (are_same_blockers (filter_map (blocker_of locks asked) session_numbers) by parts.1)

-- ---- deadlocks

-- no number of waits leads back
abbrev pub free_test : List (List ℕ) → ℕ → Bool
free_test waits s = (length waits == session_count) && list_all (λ k. not (reaches waits s (suc k) s)) session_numbers

pub free_by_test : (waits : List (List ℕ)) (s : ℕ) → free_test waits s ≡ true → IsFree waits s
free_by_test waits s h =
    let parts : ((length waits == session_count) ≡ true) × (list_all (λ k. not (reaches waits s (suc k) s)) session_numbers ≡ true) =
    and_parts (length waits == session_count) (list_all (λ k. not (reaches waits s (suc k) s)) session_numbers) h in
    no_cycle waits s (λ k low.
    not_is (reaches waits s (suc k) s) (has_all (λ (j : ℕ). not (reaches waits s (suc j) s)) session_numbers k parts.1
    (among_sessions k (subst (λ (n : ℕ). k < n) (eqb-true (length waits) session_count parts.0) low))))

abbrev pub least_test : List (List ℕ) → ℕ → List ℕ → Bool
least_test waits s [] = false
least_test waits s (a ∷ rest) =
    reaches waits s (suc (length rest)) s
    && (list_all (λ j. not (reaches waits s (suc j) s)) (range_with_len 0 (length rest)) && bytes_eq (a ∷ rest) (walk waits s (suc (length rest)) s))

pub least_by_test : (waits : List (List ℕ)) (s : ℕ) (members : List ℕ) → least_test waits s members ≡ true → IsLeastCycle waits s members
least_by_test waits s [] h = let no : ⊥ = cc in absurd no
least_by_test waits s (a ∷ rest) h =
    let k : ℕ = length rest in
    let parts : (reaches waits s (suc k) s ≡ true) × ((list_all (λ j. not (reaches waits s (suc j) s)) (range_with_len 0 k) && bytes_eq (a ∷ rest) (walk waits s (suc k) s)) ≡ true) =
    and_parts (reaches waits s (suc k) s) (list_all (λ j. not (reaches waits s (suc j) s)) (range_with_len 0 k) && bytes_eq (a ∷ rest) (walk waits s (suc k) s)) h in
    let more : (list_all (λ j. not (reaches waits s (suc j) s)) (range_with_len 0 k) ≡ true) × (bytes_eq (a ∷ rest) (walk waits s (suc k) s) ≡ true) =
    and_parts (list_all (λ j. not (reaches waits s (suc j) s)) (range_with_len 0 k)) (bytes_eq (a ∷ rest) (walk waits s (suc k) s)) parts.1 in
    least_cycle waits s k parts.0
    (λ j low. not_is (reaches waits s (suc j) s) (has_all (λ (i : ℕ). not (reaches waits s (suc i) s)) (range_with_len 0 k) j more.0 (in_range 0 k j (omega arith) (omega (arith, low)))))
    (a ∷ rest) ((bytes_eq-Decides (a ∷ rest) (walk waits s (suc k) s)).0 more.1)

abbrev pub gives_way : List ℕ → ℕ → ℕ → Bool
gives_way undo a b = nat_lt (slice_index undo a) (slice_index undo b) || ((slice_index undo a == slice_index undo b) && nat_le b a)

gives : (undo : List ℕ) (a b : ℕ) → gives_way undo a b ≡ true → GivesWay undo a b
gives undo a b h = way (slice_index undo a) (slice_index undo b) (nat_lt (slice_index undo a) (slice_index undo b)) refl h
  where
    way : (x y : ℕ) (c : Bool) → nat_lt x y ≡ c → (c || ((x == y) && nat_le b a)) ≡ true → (x < y) ⊎ ((x ≡ y) × (b ≤ a))
    way x y true e k = inl (below x y e)
    way x y false e k = let parts : ((x == y) ≡ true) × (nat_le b a ≡ true) = and_parts (x == y) (nat_le b a) k in inr (eqb-true x y parts.0, at_most b a parts.1)

abbrev pub victim_test : List ℕ → List ℕ → ℕ → Bool
victim_test members undo victim = has members victim && list_all (gives_way undo victim) members

member_is : (members : List ℕ) (k : ℕ) → has members k ≡ true → Has members k
member_is [] k h = let no : ⊥ = cc in absurd no
member_is (m ∷ members) k h =
    elim (k == m) as (λ b. (k == m) ≡ b → (b || has members k) ≡ true → Has (m ∷ members) k) [
      | true ↦ λ e g. inl (sym (eqb-true k m e))
      | false ↦ λ e g. inr (member_is members k g)
    ] refl h

pub victim_by_test : (members undo : List ℕ) (victim : ℕ) → victim_test members undo victim ≡ true → IsVictim members undo victim
victim_by_test members undo victim h =
    let parts : (has members victim ≡ true) × (list_all (gives_way undo victim) members ≡ true) = and_parts (has members victim) (list_all (gives_way undo victim) members) h in
    record { member = parts.0; first = λ other is. gives undo victim other (has_all (gives_way undo victim) members other parts.1 (member_is members other is)) }

abbrev pub deadlocks_test : List (List ℕ) → List ℕ → ℕ → List Deadlock → Bool
deadlocks_test waits undo asker [] = free_test waits asker
deadlocks_test waits undo asker (d ∷ ds) =
    least_test waits asker d.members
    && (victim_test d.members undo d.victim && cond (d.victim == asker) (is_empty ds) (deadlocks_test (slice_set waits d.victim []) undo asker ds))

pub deadlocks_by_test : (waits : List (List ℕ)) (undo : List ℕ) (asker : ℕ) (ds : List Deadlock) → deadlocks_test waits undo asker ds ≡ true → AreDeadlocks waits undo asker ds
deadlocks_by_test waits undo asker [] h = free_by_test waits asker h
deadlocks_by_test waits undo asker (d ∷ ds) h =
    let next : List (List ℕ) = slice_set waits d.victim [] in
    let rest : Bool = cond (d.victim == asker) (is_empty ds) (deadlocks_test next undo asker ds) in
    let parts : (least_test waits asker d.members ≡ true) × ((victim_test d.members undo d.victim && rest) ≡ true) =
    and_parts (least_test waits asker d.members) (victim_test d.members undo d.victim && rest) h in
    let more : (victim_test d.members undo d.victim ≡ true) × (rest ≡ true) = and_parts (victim_test d.members undo d.victim) rest parts.1 in (
      least_by_test waits asker d.members parts.0,
      victim_by_test d.members undo d.victim more.0,
      others (d.victim == asker) (deadlocks_by_test next undo asker ds) more.1,
    )
  where
    others : (b : Bool) → (deadlocks_test (slice_set waits d.victim []) undo asker ds ≡ true → AreDeadlocks (slice_set waits d.victim []) undo asker ds)
        → cond b (is_empty ds) (deadlocks_test (slice_set waits d.victim []) undo asker ds) ≡ true
        → MatchBool b (ds ≡ []) (AreDeadlocks (slice_set waits d.victim []) undo asker ds)
    others true rec k = empty_is ds k
    others false rec k = rec k

-- ---- one event

abbrev pub refusal_test : State → ℕ → Lock → List Blocker → List Deadlock → Bool
refusal_test state s lock by ds =
    nat_lt 0 (length by) && (blockers_test state.locks lock by && deadlocks_test (waits_with state s (blockers_of by)) (undo_lengths state.sessions) s ds)

abbrev pub stop_test : State → ℕ → Descent → List Deadlock → Bool
stop_test state s d ds =
    not (is_empty (in_the_way state s d)) && deadlocks_test (waits_with state s (sessions_on (in_the_way state s d))) (undo_lengths state.sessions) s ds

abbrev pub place_test : State → ℕ → Descent → ℕ → List Division → Bool
place_test state s d q ds =
    let tree = add (tree_for state d) d.path d.box d.key state.entries in
    is_empty (in_the_way state s d)
    && (relieve_test tree q (reverse d.path) ds && (overflow_test state.fanout tree q (reverse d.path) ds && list_all (is_free state) (pages_placing d.path q ds)))

abbrev pub write_test : State → ℕ → Change → List (ℕ × ℕ) → Put → Bool
write_test state number change placed p =
    list_all (is_free state) (pages_putting p)
    && (are_apart (pages_putting p) && cond (is_put (table_at state.tables number) change change.new) (fits_put p change placed (table_at state.tables number)) (takes_undo_alone p))

abbrev pub create_test : State → Schema → ℕ → List ℕ → Bool
create_test state schema leaf roots =
    has_room state && ((length roots == length (indexed_in schema)) && (list_all (is_free state) (leaf ∷ roots) && are_apart (leaf ∷ roots)))

abbrev pub choice_test : State → ℕ → EventKind → Choice → Bool
choice_test state s (answers reply ends) with_nothing = true
choice_test state s (undoes entry) (with_undo_pages more) = true
choice_test state s (asks_table statement number mode) with_nothing = blockers_test state.locks (table_lock s number mode) []
choice_test state s (asks_table statement number mode) (with_blockers by ds) = refusal_test state s (table_lock s number mode) by ds
choice_test state s (asks_key number key mode) with_nothing = blockers_test state.locks (key_lock s number key mode) []
choice_test state s (asks_key number key mode) (with_blockers by ds) = refusal_test state s (key_lock s number key mode) by ds
choice_test state s (visits number column predicate) with_nothing = true
choice_test state s (scans number leaf) with_nothing = true
choice_test state s (steps d) (with_child q) = may_step (tree_for state d) d.path q
choice_test state s (goes_stale d) with_nothing = true
choice_test state s finds_full with_nothing = true
choice_test state s (places d) (with_deadlocks ds) = stop_test state s d ds
choice_test state s (places d) (with_divisions q ds) = place_test state s d q ds
choice_test state s (writes number change placed) (with_put p) = write_test state number change placed p
choice_test state s (creates name schema) (with_roots leaf roots) = create_test state schema leaf roots
choice_test state s _ _ = false

refusal_by_test : (state : State) (s : ℕ) (lock : Lock) (by : List Blocker) (ds : List Deadlock) → refusal_test state s lock by ds ≡ true → MayBeRefused state s lock by ds
refusal_by_test state s lock by ds h =
    let d : Bool = deadlocks_test (waits_with state s (blockers_of by)) (undo_lengths state.sessions) s ds in
    let parts : (nat_lt 0 (length by) ≡ true) × ((blockers_test state.locks lock by && d) ≡ true) = and_parts (nat_lt 0 (length by)) (blockers_test state.locks lock by && d) h in
    let more : (blockers_test state.locks lock by ≡ true) × (d ≡ true) = and_parts (blockers_test state.locks lock by) d parts.1 in
    (below 0 (length by) parts.0, blockers_by_test state.locks lock by more.0, deadlocks_by_test (waits_with state s (blockers_of by)) (undo_lengths state.sessions) s ds more.1)

stop_by_test : (state : State) (s : ℕ) (d : Descent) (ds : List Deadlock) → stop_test state s d ds ≡ true → MayStop state s d ds
stop_by_test state s d ds h =
    let test : Bool = deadlocks_test (waits_with state s (sessions_on (in_the_way state s d))) (undo_lengths state.sessions) s ds in
    let parts : (not (is_empty (in_the_way state s d)) ≡ true) × (test ≡ true) = and_parts (not (is_empty (in_the_way state s d))) test h in
    (not_is (is_empty (in_the_way state s d)) parts.0, deadlocks_by_test (waits_with state s (sessions_on (in_the_way state s d))) (undo_lengths state.sessions) s ds parts.1)

place_by_test : (state : State) (s : ℕ) (d : Descent) (q : ℕ) (ds : List Division) → place_test state s d q ds ≡ true → MayPlaceEntry state s d q ds
place_by_test state s d q ds h =
    let tree : Tree = add (tree_for state d) d.path d.box d.key state.entries in
    let up : List ℕ = reverse d.path in
    let free : Bool = list_all (is_free state) (pages_placing d.path q ds) in
    let parts : (is_empty (in_the_way state s d) ≡ true) × ((relieve_test tree q up ds && (overflow_test state.fanout tree q up ds && free)) ≡ true) =
    and_parts (is_empty (in_the_way state s d)) (relieve_test tree q up ds && (overflow_test state.fanout tree q up ds && free)) h in
    let more : (relieve_test tree q up ds ≡ true) × ((overflow_test state.fanout tree q up ds && free) ≡ true) = and_parts (relieve_test tree q up ds) (overflow_test state.fanout tree q up ds && free) parts.1 in
    let last : (overflow_test state.fanout tree q up ds ≡ true) × (free ≡ true) = and_parts (overflow_test state.fanout tree q up ds) free more.1 in
    record {
      alone = empty_is (in_the_way state s d) parts.0;
      can = relieve_by_test tree q up ds more.0;
      divides = overflow_by_test state.fanout tree q up ds last.0;
      free = last.1;
    }

write_by_test : (state : State) (number : ℕ) (change : Change) (placed : List (ℕ × ℕ)) (p : Put) → write_test state number change placed p ≡ true → MayWriteRow state number change placed p
write_by_test state number change placed p h =
    let fits : Bool = cond (is_put (table_at state.tables number) change change.new) (fits_put p change placed (table_at state.tables number)) (takes_undo_alone p) in
    let parts : (list_all (is_free state) (pages_putting p) ≡ true) × ((are_apart (pages_putting p) && fits) ≡ true) = and_parts (list_all (is_free state) (pages_putting p)) (are_apart (pages_putting p) && fits) h in
    let more : (are_apart (pages_putting p) ≡ true) × (fits ≡ true) = and_parts (are_apart (pages_putting p)) fits parts.1 in
    record { free = parts.0; apart = more.0; fits = more.1 }

create_by_test : (state : State) (schema : Schema) (leaf : ℕ) (roots : List ℕ) → create_test state schema leaf roots ≡ true → MayCreate state schema leaf roots
create_by_test state schema leaf roots h =
    let each : Bool = length roots == length (indexed_in schema) in
    let free : Bool = list_all (is_free state) (leaf ∷ roots) in
    let apart : Bool = are_apart (leaf ∷ roots) in
    let parts : (has_room state ≡ true) × ((each && (free && apart)) ≡ true) = and_parts (has_room state) (each && (free && apart)) h in
    let more : (each ≡ true) × ((free && apart) ≡ true) = and_parts each (free && apart) parts.1 in
    let last : (free ≡ true) × (apart ≡ true) = and_parts free apart more.1 in
    record { room = parts.0; each_column = eqb-true (length roots) (length (indexed_in schema)) more.0; free = last.0; apart = last.1 }

pub choice_by_test : (state : State) (s : ℕ) (kind : EventKind) (choice : Choice) → choice_test state s kind choice ≡ true → MayChoose state s kind choice
choice_by_test state s (answers reply ends) with_nothing h = tt
choice_by_test state s (undoes entry) (with_undo_pages more) h = tt
choice_by_test state s (asks_table statement number mode) with_nothing h = blockers_by_test state.locks (table_lock s number mode) [] h
choice_by_test state s (asks_table statement number mode) (with_blockers by ds) h = refusal_by_test state s (table_lock s number mode) by ds h
choice_by_test state s (asks_key number key mode) with_nothing h = blockers_by_test state.locks (key_lock s number key mode) [] h
choice_by_test state s (asks_key number key mode) (with_blockers by ds) h = refusal_by_test state s (key_lock s number key mode) by ds h
choice_by_test state s (visits number column predicate) with_nothing h = tt
choice_by_test state s (scans number leaf) with_nothing h = tt
choice_by_test state s (steps d) (with_child q) h = h
choice_by_test state s (goes_stale d) with_nothing h = tt
choice_by_test state s finds_full with_nothing h = tt
choice_by_test state s (places d) (with_deadlocks ds) h = stop_by_test state s d ds h
choice_by_test state s (places d) (with_divisions q ds) h = place_by_test state s d q ds h
choice_by_test state s (writes number change placed) (with_put p) h = write_by_test state number change placed p h
choice_by_test state s (creates name schema) (with_roots leaf roots) h = create_by_test state schema leaf roots h
choice_by_test state s kind choice h = let no : ⊥ = cc in absurd no

-- ---- any number of events

abbrev pub next_test : State → ℕ → Option EventKind → Choice → Bool
next_test state s None choice = false
next_test state s (Some kind) choice = choice_test state s kind choice

abbrev pub happen_test : Machine → State → Actor → Choice → Bool
happen_test m state (acts s) choice = next_test state s (next m state s) choice
happen_test m state purges with_nothing = not (is_empty state.queue)
happen_test m state flushes (with_flushed n) = true
happen_test m state lists_locks with_nothing = true
happen_test m state actor choice = false

next_by_test : (state : State) (s : ℕ) (o : Option EventKind) (choice : Choice) → next_test state s o choice ≡ true → MayGoOn state s o choice
next_by_test state s None choice h = let no : ⊥ = cc in absurd no
next_by_test state s (Some kind) choice h = choice_by_test state s kind choice h

pub happen_by_test : (m : Machine) (state : State) (actor : Actor) (choice : Choice) → happen_test m state actor choice ≡ true → MayHappen m state actor choice
happen_by_test m state (acts s) choice h = next_by_test state s (next m state s) choice h
happen_by_test m state purges with_nothing h = not_is (is_empty state.queue) h
happen_by_test m state flushes (with_flushed n) h = tt
happen_by_test m state lists_locks with_nothing h = tt
happen_by_test m state actor choice h = let no : ⊥ = cc in absurd no

abbrev pub follow_test : Machine → ℕ → ℕ → State → List Event → Bool
follow_test m first last state [] = nat_le first last
follow_test m first last state (e ∷ events) =
    nat_le first e.turn && (happen_test m state e.actor e.choice && follow_test m e.turn last (after m state e.actor e.choice) events)

pub follow_by_test : (m : Machine) (first last : ℕ) (state : State) (events : List Event) → follow_test m first last state events ≡ true → MayFollow m first last state events
follow_by_test m first last state [] h = at_most first last h
follow_by_test m first last state (e ∷ events) h =
    let rest : Bool = follow_test m e.turn last (after m state e.actor e.choice) events in
    let parts : (nat_le first e.turn ≡ true) × ((happen_test m state e.actor e.choice && rest) ≡ true) = and_parts (nat_le first e.turn) (happen_test m state e.actor e.choice && rest) h in
    let more : (happen_test m state e.actor e.choice ≡ true) × (rest ≡ true) = and_parts (happen_test m state e.actor e.choice) rest parts.1 in
    (at_most first e.turn parts.0, happen_by_test m state e.actor e.choice more.0, follow_by_test m e.turn last (after m state e.actor e.choice) events more.1)
