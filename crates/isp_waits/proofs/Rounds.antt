-- Cycles as ways from a session back to itself.
use Rattle.std.proofs.Common.{◌≡◌, ◌∙◌, ◌<◌, ◌≤◌, ◌+◌, ◌++◌, ◌==◌, Bool, true, false, List, [], ◌∷◌, ℕ, suc, refl, sym, ap, subst, length, length-append, nat_eq, arith, ⊎_elim}
use Rattle.std.specs.List.{All, list_any, IsDistinct, AllByRecursion}
use Rattle.std.proofs.lemmas.Bool.{false≢true, both_ways, or_cases, or_parts, eqb-true, cases_Bool, cases_lt}
use Rattle.std.proofs.lemmas.List.{get_or_past}
use Rattle.std.proofs.lemmas.Map.Steps.{length-le_from_distinct_below}
use Rattle.isp_waits.specs.Graphs.{waits_of, has, WaitsFor}
use Rattle.isp_waits.specs.Cycles.{Leads, IsCycle, IsFree, IsLeastCycle}
use Rattle.isp_waits.specs.Levels.{reaches, walk}
use Rattle.isp_waits.proofs.Members.{all_members}
use Rattle.isp_waits.proofs.Walks.{reaches-suc, way_reaches, way, way_leads, way_least, walk_is, length-way}

-- a way by s is one to s and one on from there
record Split (w : List (List ℕ)) (a : ℕ) (xs : List ℕ) (z s : ℕ) : Type 0 where
  pre : List ℕ
  post : List ℕ
  to : Leads w a pre s
  from : Leads w s post z
  size : length xs ≡ length pre + length post + 1

split : (w : List (List ℕ)) (a : ℕ) (xs : List ℕ) (z s : ℕ) → Leads w a xs z → has xs s ≡ true → Split w a xs z s
split w a [] z s leads h = absurd (false≢true h)
split w a (y ∷ ys) z s leads h =
    ⊎_elim
    (λ here. let e = sym (eqb-true s y here) in
    record { pre = []; post = ys; to = subst (λ t. WaitsFor w a t) e leads.0; from = subst (λ t. Leads w t ys z) e leads.1; size = omega arith })
    (λ there. let r = split w y ys z s leads.1 there in
    record { pre = y ∷ r.pre; post = r.post; to = (leads.0, r.to); from = r.from; size = let e = r.size in omega arith })
    (or_cases (nat_eq s y) (has ys s) h)

join : (w : List (List ℕ)) (a : ℕ) (xs : List ℕ) (b : ℕ) (ys : List ℕ) (c : ℕ) → Leads w a xs b → Leads w b ys c → Leads w a (xs ++ b ∷ ys) c
join w a [] b ys c h k = (h, k)
join w a (x ∷ xs) b ys c h k = (h.0, join w x xs b ys c h.1 k)

-- a way from s back to s
pub record Round (w : List (List ℕ)) (s size : ℕ) : Type 0 where
  pub way : List ℕ
  pub leads : Leads w s way s
  pub long : suc (length way) ≡ size

-- a cycle through s is a way from s back to s
pub round : (w : List (List ℕ)) (s : ℕ) (cycle : List ℕ) → IsCycle w cycle → has cycle s ≡ true → Round w s (length cycle)
round w s [] c h = absurd c
round w s (a ∷ xs) c h =
    ⊎_elim
    (λ here. let e = sym (eqb-true s a here) in record { way = xs; leads = subst (λ t. Leads w t xs t) e c.0; long = refl })
    (λ there. let r = split w a xs a s c.0 there in
    record {
      way = r.post ++ a ∷ r.pre;
      leads = join w s r.post a r.pre s r.from r.to;
      long = let e = r.size in omega (arith, length-append r.post (a ∷ r.pre));
    })
    (or_cases (nat_eq s a) (has xs s) h)

-- a number that no member is equal to
apart : (a : ℕ) (xs : List ℕ) → has xs a ≡ false → AllByRecursion (λ y. nat_eq a y ≡ false) xs
apart a [] h = tt
apart a (x ∷ xs) h = let parts = or_parts (nat_eq a x) (has xs a) h in (parts.0, apart a xs parts.1)

-- a session on a way that none is shorter than is not passed again
fresh : (w : List (List ℕ)) (s a : ℕ) (xs : List ℕ) → Leads w a xs s → ((ys : List ℕ) → Leads w a ys s → length xs ≤ length ys) → has xs a ≡ false
fresh w s a xs leads short =
    ⊎_elim (λ h. let r = split w a xs s a leads h in let e = r.size in let le = short r.post r.from in absurd (omega arith)) (λ h. h) (cases_Bool (has xs a))

-- such a way passes no session twice
pub shortest_distinct : (w : List (List ℕ)) (s a : ℕ) (xs : List ℕ) → Leads w a xs s → ((ys : List ℕ) → Leads w a ys s → length xs ≤ length ys) → IsDistinct nat_eq (a ∷ xs)
unfolding IsDistinct
shortest_distinct w s a [] leads short = (tt, tt)
shortest_distinct w s a (b ∷ bs) leads short = (
  apart a (b ∷ bs) (fresh w s a (b ∷ bs) leads short),
  shortest_distinct w s b bs leads.1 (λ ys l. let le = short (b ∷ ys) (leads.0, l) in omega arith),
)

-- who waits has a list
has_list : (w : List (List ℕ)) (a x : ℕ) → has (waits_of w a) x ≡ true → a < length w
has_list w a x h = ⊎_elim (λ lt. lt) (λ past. absurd (false≢true (ap (λ list. has list x) (sym (get_or_past w a [] past)) ∙ h))) (cases_lt a (length w))

-- each session of a way waits
all_wait : (w : List (List ℕ)) (a : ℕ) (xs : List ℕ) (z : ℕ) → Leads w a xs z → (q : ℕ) → has (a ∷ xs) q ≡ true → q < length w
all_wait w a [] z leads q h =
    ⊎_elim (λ here. let e = eqb-true q a here in let lt = has_list w a z leads in omega arith) (λ there. absurd (false≢true there)) (or_cases (nat_eq q a) false h)
all_wait w a (x ∷ xs) z leads q h =
    ⊎_elim (λ here. let e = eqb-true q a here in let lt = has_list w a x leads.0 in omega arith) (λ there. all_wait w x xs z leads.1 q there)
    (or_cases (nat_eq q a) (has (x ∷ xs) q) h)

-- a cycle has at most as many members as there are lists
cycle_short : (w : List (List ℕ)) (cycle : List ℕ) → IsCycle w cycle → length cycle ≤ length w
cycle_short w [] c = absurd c
cycle_short w (a ∷ xs) c = length-le_from_distinct_below (a ∷ xs) (length w) c.1 (all_wait w a xs a c.0)

-- each member of a cycle has a list
pub cycle_sessions : (w : List (List ℕ)) (n : ℕ) (cycle : List ℕ) → IsCycle w cycle → length w ≡ n → All (λ q. q < n) cycle
cycle_sessions w n [] c size = absurd c
cycle_sessions w n (a ∷ xs) c size = all_members (λ q. q < n) (a ∷ xs) (λ q h. let lt = all_wait w a xs a c.0 q h in omega arith)

-- where no number of waits up to the number of lists leads from s back to s, no cycle passes through s
pub no_cycle : (w : List (List ℕ)) (s : ℕ) → ((k : ℕ) → k < length w → reaches w s (suc k) s ≡ false) → IsFree w s
no_cycle w s none cycle c h =
    let r = round w s cycle c h in
    let e = r.long in
    let le = cycle_short w cycle c in
    let lt : length r.way < length w = omega arith in
    both_ways (reaches w s (suc (length r.way)) s) (none (length r.way) lt) (way_reaches w s s r.way r.leads)

-- where s is first reached again by so many waits, the walk is the least cycle
pub least_cycle : (w : List (List ℕ)) (s k : ℕ) → reaches w s (suc k) s ≡ true → ((j : ℕ) → j < k → reaches w s (suc j) s ≡ false) →
    (members : List ℕ) → members ≡ walk w s (suc k) s → IsLeastCycle w s members
least_cycle w s k first before members is =
    let leads = way_leads w s k s first in
    let size = length-way w s k s in
    let shorter : (ys : List ℕ) → Leads w s ys s → k ≤ length ys =
    λ ys l. ⊎_elim (λ lt. absurd (both_ways (reaches w s (suc (length ys)) s) (before (length ys) lt) (way_reaches w s s ys l))) (λ le. le) (cases_lt (length ys) k) in
    subst (IsLeastCycle w s) (sym (is ∙ walk_is w s k s))
    (record {
      cycle = (leads, shortest_distinct w s s (way w s k s) leads (λ ys l. let le = shorter ys l in omega arith));
      begins = (way w s k s, refl);
      shortest = λ other c h. let r = round w s other c h in let e = r.long in let le = shorter r.way r.leads in omega arith;
      least = λ other c same less. ⊎_elim (λ lt. absurd (omega arith)) (λ tied. way_least w s k s first other c.0 (omega arith) tied.1) less;
    })

none_any : (p : ℕ → Bool) (xs : List ℕ) → (length xs == 0) ≡ true → list_any p xs ≡ false
none_any p [] h = refl
none_any p (x ∷ xs) h = absurd (let e = eqb-true (suc (length xs)) 0 h in omega arith)

-- through one that waits for nobody no cycle passes
pub idle_free : (w : List (List ℕ)) (s : ℕ) → (length (waits_of w s) == 0) ≡ true → IsFree w s
idle_free w s idle = no_cycle w s (λ k lt. reaches-suc w s k s ∙ none_any (reaches w s k) (waits_of w s) idle)
