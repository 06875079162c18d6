-- One more level, and the least session on a level.
use Rattle.std.proofs.Common.{◌≡◌, ◌≢◌, ◌∙◌, ◌<◌, ◌+◌, ◌-◌, ◌++◌, append_assoc, append-nil, Bool, true, false, List, [], ◌∷◌, ℕ, zero, suc, sym, ap, subst, length, length-set, get_or, set, get_or-set_same, get_or-set_other, nat_eq, filter, min, unwrap_or, arith, eq-eqb, ⊎_elim}
use Rattle.std.specs.Prelude.{replicate}
use Rattle.std.specs.List.{list_any, reduce}
use Rattle.std.proofs.lemmas.Bool.{cases_lt, cases_eq, ne_eqb}
use Rattle.std.proofs.lemmas.List.{get_or_past, get_or-replicate, length-replicate}
use Rattle.isp_waits.specs.Graphs.{waits_of}
use Rattle.isp_waits.specs.Levels.{reaches, next, walk, AreLevels}
use Rattle.isp_waits.proofs.Lists.{waits_past}
use Rattle.isp_waits.proofs.Walks.{reaches-zero, reaches-suc, walk-zero, walk-suc}

-- a level as a test
same_test : (w : List (List ℕ)) (s k : ℕ) (level : List Bool) → ((v : ℕ) → get_or level v false ≡ reaches w s k v) → (λ v. get_or level v false) ≡ reaches w s k
same_test w s k level h = λ i v. h v i

pub level_after : (w : List (List ℕ)) (s k : ℕ) (level new : List Bool) → ((v : ℕ) → get_or level v false ≡ reaches w s k v) →
    ((v : ℕ) → get_or new v false ≡ list_any (λ b. get_or level b false) (waits_of w v)) → (v : ℕ) → get_or new v false ≡ reaches w s (suc k) v
level_after w s k level new on made v = made v ∙ ap (λ test. list_any test (waits_of w v)) (same_test w s k level on) ∙ sym (reaches-suc w s k v)

pub level_more : (w : List (List ℕ)) (s k : ℕ) (levels : List (List Bool)) (new : List Bool) → AreLevels w s (k + 1) levels → k + 1 < length levels →
    ((v : ℕ) → get_or new v false ≡ list_any (λ b. get_or (get_or levels k []) b false) (waits_of w v)) → AreLevels w s (k + 1 + 1) (set levels (k + 1) new)
level_more w s k levels new are room made j lt = (
  omega (arith, length-set {A = List Bool}),
  ⊎_elim
      (λ below. let ne : j ≢ k + 1 = omega arith in
      λ v. ap (λ level. get_or level v false) (get_or-set_other levels (k + 1) j new [] ne) ∙ (are j below).1 v)
      (λ top. let e : j ≡ suc k = omega arith in
      λ v. ap (λ i. get_or (get_or (set levels (k + 1) new) i []) v false) (let e' : j ≡ k + 1 = omega arith in e')
      ∙ ap (λ level. get_or level v false) (get_or-set_same levels (k + 1) new [] room)
      ∙ level_after w s k (get_or levels k []) new (are k (omega arith)).1 made v
      ∙ ap (λ i. reaches w s i v) (sym e))
      (cases_lt j (k + 1)),
)

pub next_on : (w : List (List ℕ)) (s k : ℕ) (level : List Bool) → ((v : ℕ) → get_or level v false ≡ reaches w s k v) →
    (v : ℕ) → unwrap_or (reduce min (filter (λ b. get_or level b false) (waits_of w v))) 0 ≡ next w s k v
next_on w s k level on v = ap (λ test. unwrap_or (reduce min (filter test (waits_of w v))) 0) (same_test w s k level on)

-- a level, filled place by place
pub level_filled : (w : List (List ℕ)) (level found : List Bool) (v : ℕ) (here : Bool) →
    ((k : ℕ) → k < v → get_or found k false ≡ list_any (λ b. get_or level b false) (waits_of w k)) →
    here ≡ list_any (λ b. get_or level b false) (waits_of w v) → v < length found →
    (k : ℕ) → k < v + 1 → get_or (set found v here) k false ≡ list_any (λ b. get_or level b false) (waits_of w k)
level_filled w level found v here below is room k lt =
    ⊎_elim
    (λ less. let ne : k ≢ v = omega arith in get_or-set_other found v k here false ne ∙ below k less)
    (λ top. let e : v ≡ k = omega arith in subst (λ i. get_or (set found v here) i false ≡ list_any (λ b. get_or level b false) (waits_of w i)) e (get_or-set_same found v here false room ∙ is))
    (cases_lt k v)

pub level_whole : (w : List (List ℕ)) (level found : List Bool) →
    ((k : ℕ) → k < 17 → get_or found k false ≡ list_any (λ b. get_or level b false) (waits_of w k)) → length w ≡ 17 → length found ≡ 17 →
    (k : ℕ) → get_or found k false ≡ list_any (λ b. get_or level b false) (waits_of w k)
level_whole w level found filled sessions long k =
    ⊎_elim (filled k)
    (λ past. get_or_past found k false (omega arith) ∙ ap (list_any (λ b. get_or level b false)) (sym (waits_past w k (omega arith))))
    (cases_lt k 17)

-- the level with one session
pub alone_at : (level : List Bool) (s : ℕ) → ((v : ℕ) → get_or level v false ≡ false) → s < length level → (v : ℕ) → get_or (set level s true) v false ≡ nat_eq s v
alone_at level s none room v =
    ⊎_elim
    (λ here. ap (λ i. get_or (set level s true) i false) here ∙ get_or-set_same level s true false room ∙ sym (eq-eqb s v (sym here)))
    (λ apart. get_or-set_other level s v true false apart ∙ none v ∙ sym (ne_eqb s v (λ e. apart (sym e))))
    (cases_eq v s)

-- one step of a walk told
pub walk_on : (w : List (List ℕ)) (s left at onward : ℕ) (members all : List ℕ) → 0 < left → onward ≡ next w s (left - 1) at →
    members ++ walk w s left at ≡ all → (members ++ at ∷ []) ++ walk w s (left - 1) onward ≡ all
walk_on w s zero at onward members all some is h = absurd (omega arith)
walk_on w s (suc left) at onward members all some is h =
    let e : suc left - 1 ≡ left = omega arith in
    append_assoc members (at ∷ []) (walk w s (suc left - 1) onward)
    ∙ ap (λ v. members ++ at ∷ walk w s (suc left - 1) v) is
    ∙ ap (λ k. members ++ at ∷ walk w s k (next w s k at)) e
    ∙ ap (λ v. members ++ v) (sym (walk-suc w s left at)) ∙ h

-- a walk of no step
pub walk_done : (w : List (List ℕ)) (s left at : ℕ) (members all : List ℕ) → left ≡ 0 → members ++ walk w s left at ≡ all → members ≡ all
walk_done w s zero at members all is h = sym (ap (λ v. members ++ v) (walk-zero w s at) ∙ append-nil members) ∙ h
walk_done w s (suc left) at members all is h = absurd (omega arith)

-- of the levels that are written the first is that of no step
pub first_level : (w : List (List ℕ)) (s : ℕ) (level : List Bool) (levels : List (List Bool)) → ((v : ℕ) → get_or level v false ≡ nat_eq s v) →
    AreLevels w s 1 (level ∷ levels)
first_level w s level levels alone zero lt = (omega arith, λ v. alone v ∙ sym (reaches-zero w s v))
first_level w s level levels alone (suc k) lt = absurd (omega arith)

-- the empty level
pub none_on : (n v : ℕ) → get_or (replicate n false) v false ≡ false
none_on n v =
    ⊎_elim (λ lt. get_or-replicate n v false false lt) (λ past. get_or_past (replicate n false) v false (omega (arith, length-replicate n false))) (cases_lt v n)
