-- The least box round entries from the last one on, and a plan page by page.
use Rattle.std.proofs.Common.{◌≡◌, ℕ, ◌+◌, ◌<◌, List, [], ◌∷◌, ◌++◌, Option, Some, None, length, drop, reverse, get_or, refl, sym, ◌∙◌, ap, subst, arith}
use Rattle.std.specs.Prelude.{slice_get}
use Rattle.std.specs.List.{cons_option}
use Rattle.std.proofs.lemmas.List.{append_assoc, append-nil, drop_more, reverse-append}
use Rattle.isp_mbr.specs.Boxes.{union}
use Rattle.isp_mbr.specs.Corners.{Corners}
use Rattle.isp_forest.specs.declared.entry.Entry.{Entry}
use Rattle.isp_forest.specs.Tree.{around, least}
use Rattle.isp_laws.specs.DivisionLaws.{picked}
use Rattle.isp_rplan.specs.Plans.{IsPlan, IsPlanned, carry_of}
use Rattle.isp_rplan.specs.declared.steps.Carry.{Carry}
use Rattle.isp_rplan.specs.declared.steps.PathPage.{PathPage}
use Rattle.isp_rplan.specs.declared.steps.Planned.{Planned}

-- the box round the first entry and those from a place on
abbrev pub round_from : List Entry → ℕ → Corners
round_from [] i = least []
round_from (e ∷ es) i = around e.b (drop i (e ∷ es))

abbrev pub IsRound : List Entry → ℕ → Corners → Type 0
IsRound es i b = b ≡ round_from es i

pub round_all : (es : List Entry) → 0 < length es → round_from es 1 ≡ least es
round_all [] some = absurd (omega arith)
round_all (e ∷ es) some = refl

pub round_none : (es : List Entry) (d : Entry) → 0 < length es → (get_or es 0 d).b ≡ round_from es (length es)
round_none [] d some = absurd (omega arith)
round_none (e ∷ es) d some = ap (around e.b) (sym (past (e ∷ es)))
  where
    past : (xs : List Entry) → drop (length xs) xs ≡ []
    past [] = refl
    past (x ∷ xs) = past xs

pub round_more : (es : List Entry) (i : ℕ) (d : Entry) → i < length es → round_from es i ≡ union (get_or es i d).b (round_from es (i + 1))
round_more [] i d inside = absurd (omega arith)
round_more (e ∷ es) i d inside = ap (around e.b) (drop_more (e ∷ es) i d inside)

-- ---- the entries at some places

abbrev pub as_list : {X : Type 0} → Option X → List X
as_list None = []
as_list (Some x) = x ∷ []

pub picked_more : (entries some now : List Entry) (places : List ℕ) (i d : ℕ) (o : Option Entry) → i < length places → slice_get entries (get_or places i d) ≡ o → now ≡ some ++ as_list o
    → some ++ picked entries (drop i places) ≡ picked entries places → now ++ picked entries (drop (i + 1) places) ≡ picked entries places
picked_more entries some now places i d o inside is pushed so_far =
    ap (λ (l : List Entry). l ++ picked entries (drop (i + 1) places)) pushed
    ∙ by o (picked entries (drop (i + 1) places))
    ∙ ap (λ (p : Option Entry). some ++ cons_option p (picked entries (drop (i + 1) places))) (sym is)
    ∙ ap (λ (l : List ℕ). some ++ picked entries l) (sym (drop_more places i d inside))
    ∙ so_far
  where
    by : (p : Option Entry) (rest : List Entry) → (some ++ as_list p) ++ rest ≡ some ++ cons_option p rest
    by None rest = ap (λ (l : List Entry). l ++ rest) (append-nil some)
    by (Some e) rest = append_assoc some (e ∷ []) rest

-- ---- a plan, page by page

-- with a plan for the pages that are left, the steps so far are one for all
abbrev pub PlansWith : ℕ → Corners → List PathPage → Carry → List PathPage → Carry → List Planned → Type 0
PlansWith fanout b all begun left carry so_far = (steps : List Planned) → IsPlan fanout b left carry steps → IsPlan fanout b all begun (so_far ++ steps)

pub plans_none : (fanout : ℕ) (b : Corners) (all : List PathPage) (begun : Carry) → PlansWith fanout b all begun all begun []
plans_none fanout b all begun steps is = is

pub plans_more : (fanout : ℕ) (b : Corners) (all left : List PathPage) (begun carry : Carry) (page : PathPage) (s : Planned) (so_far now : List Planned) → now ≡ so_far ++ s ∷ [] → IsPlanned fanout page carry s → PlansWith fanout b all begun (page ∷ left) carry so_far → PlansWith fanout b all begun left (carry_of b s) now
plans_more fanout b all left begun carry page s so_far now pushed is with steps more =
    let whole : IsPlan fanout b all begun (so_far ++ s ∷ steps) = with (s ∷ steps) (is, more) in
    let same : so_far ++ s ∷ steps ≡ now ++ steps = sym (append_assoc so_far (s ∷ []) steps) ∙ ap (λ (l : List Planned). l ++ steps) (sym pushed) in
    subst (λ (l : List Planned). IsPlan fanout b all begun l) same whole

pub plans_all : (fanout : ℕ) (b : Corners) (all : List PathPage) (begun carry : Carry) (so_far : List Planned) → PlansWith fanout b all begun [] carry so_far → IsPlan fanout b all begun so_far
plans_all fanout b all begun carry so_far with = subst (λ (l : List Planned). IsPlan fanout b all begun l) (append-nil so_far) (with [] refl)

-- the same as the code has it: pages leave at the end of a list, steps join at the front of one
pub plans_popped : (fanout : ℕ) (b : Corners) (all left now_left : List PathPage) (begun carry next : Carry) (page : PathPage) (s : Planned) (so_far now : List Planned)
    → left ≡ now_left ++ page ∷ [] → now ≡ s ∷ so_far → IsPlanned fanout page carry s → next ≡ carry_of b s → PlansWith fanout b all begun (reverse left) carry (reverse so_far)
    → PlansWith fanout b all begun (reverse now_left) next (reverse now)
plans_popped fanout b all left now_left begun carry next page s so_far now popped joined is up with =
    let pages : reverse left ≡ page ∷ reverse now_left = ap reverse popped ∙ reverse-append now_left (page ∷ []) in
    let steps : reverse now ≡ reverse so_far ++ s ∷ [] = ap reverse joined ∙ reverse-append (s ∷ []) so_far in
    subst (λ (c : Carry). PlansWith fanout b all begun (reverse now_left) c (reverse now)) (sym up)
    (plans_more fanout b all (reverse now_left) begun carry page s (reverse so_far) (reverse now) steps is (subst (λ (l : List PathPage). PlansWith fanout b all begun l carry (reverse so_far)) pages with))

pub plans_done : (fanout : ℕ) (b : Corners) (all left : List PathPage) (begun carry : Carry) (so_far : List Planned) → length left ≡ 0 → PlansWith fanout b all begun (reverse left) carry (reverse so_far) → IsPlan fanout b all begun (reverse so_far)
plans_done fanout b all [] begun carry so_far none with = plans_all fanout b all begun carry (reverse so_far) with
plans_done fanout b all (page ∷ left) begun carry so_far none with = absurd (omega (arith, none))
