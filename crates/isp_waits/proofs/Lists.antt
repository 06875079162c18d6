-- The lists of a graph, as they are kept.
use Rattle.std.proofs.Common.{◌≡◌, ◌≢◌, ◌∙◌, ◌<◌, ◌≤◌, ◌==◌, Bool, true, false, List, [], ◌∷◌, ℕ, sym, ap, subst, cond, map, filter, length, get_or, set, get_or-set_same, get_or-set_other, nat_eq, ⊎_elim, arith, zero, suc, ◌+◌}
use Rattle.std.proofs.Math.ListN.{get_or-map}
use Rattle.std.specs.List.{All}
use Rattle.std.specs.List.Sorted.{IsStrictlyIncreasing}
use Rattle.std.proofs.lemmas.Bool.{false≢true, or_cases, eqb-true, cases_lt}
use Rattle.std.proofs.lemmas.List.{get_or_past, get_or_default}
use Rattle.std.proofs.lemmas.List.Elements.{All-head, All-tail}
use Rattle.std.specs.List.Retain.{RetainsInTurn}
use Rattle.smallvec.specs.SmallVec.{SmallVec}
use Rattle.isp_waits.specs.Graphs.{waits_of, has}

-- what holds of all holds of each
pub all_has : (P : ℕ → Type 0) (xs : List ℕ) (x : ℕ) → All P xs → has xs x ≡ true → P x
all_has P [] x all h = absurd (false≢true h)
all_has P (y ∷ ys) x all h =
    ⊎_elim (λ here. subst P (sym (eqb-true x y here)) (All-head P y ys all)) (λ there. all_has P ys x (All-tail P y ys all) there) (or_cases (nat_eq x y) (has ys x) h)

-- the graph that lists are
abbrev pub graph_of : List (SmallVec ℕ) → List (List ℕ)
graph_of lists = map (λ list. list.items) lists

abbrev pub no_list : SmallVec ℕ
no_list = record { items = []; capacity = 0 }

pub waits_at : (lists : List (SmallVec ℕ)) (k : ℕ) → waits_of (graph_of lists) k ≡ (get_or lists k no_list).items
waits_at lists k = get_or-map (λ list. list.items) lists k no_list

pub waits_set_same : (lists : List (SmallVec ℕ)) (s : ℕ) (list : SmallVec ℕ) → s < length lists → waits_of (graph_of (set lists s list)) s ≡ list.items
waits_set_same lists s list lt = waits_at (set lists s list) s ∙ ap (λ v. v.items) (get_or-set_same lists s list no_list lt)

pub waits_set_other : (lists : List (SmallVec ℕ)) (s k : ℕ) (list : SmallVec ℕ) → k ≢ s → waits_of (graph_of (set lists s list)) k ≡ waits_of (graph_of lists) k
waits_set_other lists s k list ne =
    waits_at (set lists s list) k ∙ ap (λ v. v.items) (get_or-set_other lists s k list no_list ne) ∙ sym (waits_at lists k)

-- the list at a place, whatever is read past the end
pub list_at : (lists : List (SmallVec ℕ)) (k : ℕ) (d : SmallVec ℕ) → k < length lists → (get_or lists k d).items ≡ waits_of (graph_of lists) k
list_at lists k d lt = ap (λ v. v.items) (get_or_default lists k d no_list lt) ∙ sym (waits_at lists k)

-- nobody past the lists waits
pub waits_past : (waits : List (List ℕ)) (s : ℕ) → length waits ≤ s → waits_of waits s ≡ []
waits_past waits s past = get_or_past waits s [] past

-- who waits has a list
pub some_list : (waits : List (List ℕ)) (s : ℕ) → ((length (waits_of waits s) == 0) ≡ false) → s < length waits
some_list waits s some =
    ⊎_elim (λ lt. lt) (λ past. absurd (false≢true (sym some ∙ ap (λ list. length list == 0) (waits_past waits s past)))) (cases_lt s (length waits))

-- what a list keeps of which a test only reads
pub filter_from_turns : {S X : Type 0} (R : S → X → Bool → S → X → Type 0) (test : X → Bool) (s : S) →
    ((x : X) (b : Bool) (t : S) (y : X) → R s x b t y → (b ≡ test x) × (t ≡ s) × (y ≡ x)) →
    (xs ys : List X) → RetainsInTurn R s xs ys → ys ≡ filter test xs
filter_from_turns R test s says [] ys h = h
filter_from_turns R test s says (x ∷ xs) ys (b, t, y, call, zs, rest, is) =
    let told = says x b t y call in
    let kept = filter_from_turns R test s says xs zs (subst (λ u. RetainsInTurn R u xs zs) told.1 rest) in
    is ∙ ap (λ v. cond v (y ∷ zs) zs) told.0 ∙ ap (λ v. cond (test x) (v ∷ zs) zs) told.2 ∙ ap (λ v. cond (test x) (x ∷ v) v) kept

rising_from : (xs : List ℕ) → IsStrictlyIncreasing xs → (k : ℕ) → k < length xs → k ≤ get_or xs k 0
rising_from xs up zero lt = omega arith
rising_from xs up (suc k) lt =
    let next : k + 1 ≡ suc k = omega arith in
    let low = rising_from xs up k (omega arith) in
    let step = subst (λ j. get_or xs k 0 < get_or xs j 0) next (up k (omega arith)) in
    omega arith

-- rising numbers below n are at most n: what a caller of `wait` knows of its blockers
pub few_rising : (xs : List ℕ) (n : ℕ) → IsStrictlyIncreasing xs → All (λ x. x < n) xs → length xs ≤ n
few_rising [] n up below = omega arith
few_rising (x ∷ xs) n up below =
    let high = rising_from (x ∷ xs) up (length xs) (omega arith) in
    let low = below (length xs) 0 (omega arith) in
    omega arith
