-- Graphs of waits: with fewer edges, with one session's edges new, and with cycles broken until none is left.
use Rattle.std.proofs.Common.{◌≡◌, ◌⊎◌, ◌∙◌, ◌≤◌, inl, inr, refl, sym, ap, subst, ℕ, zero, suc, ◌==◌, not, Bool, true, false, List, [], ◌∷◌, map, length, arith, eqb-true, eq-eqb}
use Rattle.std.specs.Prelude.{MatchBool, nat_eq, slice_set, filter, IsTrue}
use Rattle.std.proofs.Math.ListN.{get_or-map}
use Rattle.std.proofs.lemmas.List.{get_or-set_other, get_or-set_same, get_or_past}
use Rattle.std.proofs.lemmas.Bool.{false≢true, or_left, or_right, or_cases, cases_lt}
use Rattle.isp_waits.specs.Graphs.{WaitsFor, has, waits_of}
use Rattle.isp_waits.specs.Cycles.{IsCycle, IsFree, Leads}
use Rattle.isp_waits.proofs.Members.{has_filter}
use Rattle.isp_events.specs.State.{ended, without}
use Rattle.isp_events.specs.Deadlocks.{AreDeadlocks, Deadlock, broken}
use Rattle.isp_order.specs.Locks.{HaveNoCycle}
use Rattle.isp_order.proofs.SessionLaws.{not_same}

-- ---- one list set

pub waits_other : (waits : List (List ℕ)) (s k : ℕ) (on : List ℕ) → (k == s) ≡ false → waits_of (slice_set waits s on) k ≡ waits_of waits k
waits_other waits s k on h = get_or-set_other waits s k on [] (not_same k s h)

set_past : (waits : List (List ℕ)) (s : ℕ) (on : List ℕ) → length waits ≤ s → slice_set waits s on ≡ waits
set_past [] zero on h = refl
set_past [] (suc s) on h = refl
set_past (x ∷ waits) zero on h = let no : ⊥ = omega (arith, h) in absurd no
set_past (x ∷ waits) (suc s) on h = ap (λ xs. x ∷ xs) (set_past waits s on (omega (arith, h)))

-- its own list is the new one, or it has none
pub waits_same : (waits : List (List ℕ)) (s : ℕ) (on : List ℕ) → waits_of (slice_set waits s on) s ≡ on ⊎ waits_of (slice_set waits s on) s ≡ []
waits_same waits s on = elim (cases_lt s (length waits)) [
  | inl lt ↦ inl (get_or-set_same waits s on [] lt)
  | inr past ↦ inr (ap (λ w. waits_of w s) (set_past waits s on past) ∙ get_or_past waits s [] past)
]

pub waits_none : (waits : List (List ℕ)) (s : ℕ) → waits_of (slice_set waits s []) s ≡ []
waits_none waits s = elim (waits_same waits s []) [ inl e ↦ e | inr e ↦ e ]

pub nobody : (waits : List (List ℕ)) (s by : ℕ) → waits_of waits s ≡ [] → WaitsFor waits s by → ⊥
nobody waits s by none w = false≢true (sym (ap (λ list. has list by) none) ∙ w)

-- ---- fewer edges

-- each edge of the one graph is one of the other
abbrev pub Within : List (List ℕ) → List (List ℕ) → Type 0
Within waits old = (a b : ℕ) → WaitsFor waits a b → WaitsFor old a b

pub within_emptied : (waits : List (List ℕ)) (s : ℕ) → Within (slice_set waits s []) waits
within_emptied waits s a b w = by_test (a == s) refl
  where
    by_test : (t : Bool) → (a == s) ≡ t → WaitsFor waits a b
    by_test true e =
        absurd (nobody (slice_set waits s []) a b (subst (λ k. waits_of (slice_set waits s []) k ≡ []) (sym (eqb-true a s e)) (waits_none waits s)) w)
    by_test false e = subst (λ list. IsTrue (has list b)) (waits_other waits s a [] e) w

pub within_broken : (waits : List (List ℕ)) (ds : List Deadlock) → Within (broken waits ds) waits
within_broken waits [] a b w = w
within_broken waits (d ∷ ds) a b w = within_emptied waits d.victim a b (within_broken (slice_set waits d.victim []) ds a b w)

-- an end takes the session off all lists, and empties its own
pub record Remaining (waits : List (List ℕ)) (s a b : ℕ) : Type 0 where
  pub before : WaitsFor waits a b
  pub not_for : (b == s) ≡ false
  pub not_of : (a == s) ≡ false

pub remaining : (waits : List (List ℕ)) (s a b : ℕ) → WaitsFor (ended waits s) a b → Remaining waits s a b
remaining waits s a b w = by_test (a == s) refl
  where
    by_test : (t : Bool) → (a == s) ≡ t → Remaining waits s a b
    by_test true e =
        absurd (nobody (ended waits s) a b (subst (λ k. waits_of (ended waits s) k ≡ []) (sym (eqb-true a s e)) (waits_none (map (without s) waits) s)) w)
    by_test false e =
        let there : IsTrue (has (filter (λ k. not (k == s)) (waits_of waits a)) b) =
        subst (λ list. IsTrue (has list b)) (waits_other (map (without s) waits) s a [] e ∙ get_or-map (without s) waits a []) w in
        let parts = has_filter (λ k. not (k == s)) (waits_of waits a) b there in
        record { before = parts.0; not_for = not_is (b == s) parts.1; not_of = e }
      where
        not_is : (t : Bool) → not t ≡ true → t ≡ false
        not_is true i = absurd (false≢true i)
        not_is false i = refl

-- ---- cycles

leads_on : (waits old : List (List ℕ)) (P : ℕ → Type 0) (a z : ℕ) (xs : List ℕ) → ((x y : ℕ) → P x → WaitsFor waits x y → WaitsFor old x y)
    → P a → ((x : ℕ) → IsTrue (has xs x) → P x) → Leads waits a xs z → Leads old a xs z
leads_on waits old P a z [] each own all h = each a z own h
leads_on waits old P a z (x ∷ xs) each own all h =
    (each a x own h.0, leads_on waits old P x z xs each (all x (or_left (nat_eq x x) (has xs x) (eq-eqb x x refl))) (λ y k. all y (or_right (nat_eq y x) (has xs y) k)) h.1)

-- a cycle whose members wait in the other graph for whom they wait in this one is a cycle of it too
pub cycle_in : (waits old : List (List ℕ)) (cycle : List ℕ) → ((x y : ℕ) → IsTrue (has cycle x) → WaitsFor waits x y → WaitsFor old x y) → IsCycle waits cycle → IsCycle old cycle
cycle_in waits old [] each h = h
cycle_in waits old (a ∷ xs) each h =
    (leads_on waits old (λ x. IsTrue (has (a ∷ xs) x)) a a xs each (or_left (nat_eq a a) (has xs a) (eq-eqb a a refl)) (λ x k. or_right (nat_eq x a) (has xs x) k) h.0, h.1)

pub no_cycle_within : (waits old : List (List ℕ)) → Within waits old → HaveNoCycle old → HaveNoCycle waits
no_cycle_within waits old within none s cycle is through = none s cycle (cycle_in waits old cycle (λ x y k w. within x y w) is) through

-- each member of a cycle waits
pub record Waiting (waits : List (List ℕ)) (a : ℕ) : Type 0 where
  pub for : ℕ
  pub edge : WaitsFor waits a for

leads_member : (waits : List (List ℕ)) (a z : ℕ) (xs : List ℕ) (x : ℕ) → Leads waits a xs z → IsTrue (has (a ∷ xs) x) → Waiting waits x
leads_member waits a z [] x h k = elim (or_cases (nat_eq x a) false k) [
  | inl e ↦ record { for = z; edge = subst (λ i. WaitsFor waits i z) (sym (eqb-true x a e)) h }
  | inr e ↦ absurd (false≢true e)
]
leads_member waits a z (y ∷ xs) x h k = elim (or_cases (nat_eq x a) (has (y ∷ xs) x) k) [
  | inl e ↦ record { for = y; edge = subst (λ i. WaitsFor waits i y) (sym (eqb-true x a e)) h.0 }
  | inr l ↦ leads_member waits y z xs x h.1 l
]

pub member_waits : (waits : List (List ℕ)) (cycle : List ℕ) (x : ℕ) → IsCycle waits cycle → IsTrue (has cycle x) → Waiting waits x
member_waits waits [] x h k = absurd h
member_waits waits (a ∷ xs) x h k = leads_member waits a a xs x h.0 k

-- each cycle of the graph passes through s
abbrev pub PassThrough : List (List ℕ) → ℕ → Type 0
PassThrough waits s = (cycle : List ℕ) → IsCycle waits cycle → IsTrue (has cycle s)

pub pass_within : (waits old : List (List ℕ)) (s : ℕ) → Within waits old → PassThrough old s → PassThrough waits s
pass_within waits old s within pass cycle is = pass cycle (cycle_in waits old cycle (λ x y k w. within x y w) is)

has_not : (cycle : List ℕ) (s x : ℕ) → has cycle s ≡ false → IsTrue (has cycle x) → (x == s) ≡ false
has_not cycle s x none k = by_test (x == s) refl
  where
    by_test : (t : Bool) → (x == s) ≡ t → t ≡ false
    by_test true e = absurd (false≢true (sym none ∙ subst (λ i. IsTrue (has cycle i)) (eqb-true x s e) k))
    by_test false e = refl

-- where no cycle was, and one session waits anew, each cycle passes through it
pub pass_through : (waits : List (List ℕ)) (s : ℕ) (on : List ℕ) → HaveNoCycle waits → PassThrough (slice_set waits s on) s
pass_through waits s on none cycle is = by_test (has cycle s) refl
  where
    old_cycle : has cycle s ≡ false → IsCycle waits cycle
    old_cycle e = cycle_in (slice_set waits s on) waits cycle (λ x y k w. subst (λ list. IsTrue (has list y)) (waits_other waits s x on (has_not cycle s x e k)) w) is

    first_of : (xs : List ℕ) → IsCycle waits xs → ⊥
    first_of [] h = h
    first_of (a ∷ xs) h = none a (a ∷ xs) h (or_left (nat_eq a a) (has xs a) (eq-eqb a a refl))

    by_test : (t : Bool) → has cycle s ≡ t → IsTrue (has cycle s)
    by_test true e = e
    by_test false e = absurd (first_of cycle (old_cycle e))

free_of_all : (waits : List (List ℕ)) (s : ℕ) → PassThrough waits s → IsFree waits s → HaveNoCycle waits
free_of_all waits s pass free k cycle is through = free cycle is (pass cycle is)

-- cycles are broken until none is left
pub no_cycle_broken : (waits : List (List ℕ)) (undo : List ℕ) (s : ℕ) (ds : List Deadlock) → PassThrough waits s → AreDeadlocks waits undo s ds → HaveNoCycle (broken waits ds)
no_cycle_broken waits undo s [] pass h = free_of_all waits s pass h
no_cycle_broken waits undo s (d ∷ ds) pass h =
    by_test (d.victim == s) refl
    (no_cycle_broken (slice_set waits d.victim []) undo s ds (pass_within (slice_set waits d.victim []) waits s (within_emptied waits d.victim) pass)) h.2
  where
    by_test : (t : Bool) → (d.victim == s) ≡ t
        → (AreDeadlocks (slice_set waits d.victim []) undo s ds → HaveNoCycle (broken (slice_set waits d.victim []) ds))
        → MatchBool t (ds ≡ []) (AreDeadlocks (slice_set waits d.victim []) undo s ds) → HaveNoCycle (broken (slice_set waits d.victim []) ds)
    by_test true e again is =
        let none : waits_of (slice_set waits d.victim []) s ≡ [] = subst (λ k. waits_of (slice_set waits d.victim []) k ≡ []) (eqb-true d.victim s e) (waits_none waits d.victim) in
        subst (λ (xs : List Deadlock). HaveNoCycle (broken (slice_set waits d.victim []) xs)) (sym is)
        (λ k cycle c through.
        (let m : Waiting (slice_set waits d.victim []) s = member_waits (slice_set waits d.victim []) cycle s c (pass_within (slice_set waits d.victim []) waits s (within_emptied waits d.victim) pass cycle c) in
        nobody (slice_set waits d.victim []) s m.for none m.edge))
    by_test false e again rest = again rest
