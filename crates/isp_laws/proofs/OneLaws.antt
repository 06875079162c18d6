-- There is one pair of seeds, one next entry, one division, and one choice.
use Rattle.std.proofs.Common.{◌≡◌, ◌⊎◌, inl, inr, ℕ, zero, suc, ◌-◌, ◌<◌, true, false, Option, Some, None, List, length, refl, sym, ◌∙◌, ap, subst, arith}
use Rattle.std.specs.Prelude.{MatchOption, nat_lt, slice_get}
use Rattle.std.proofs.lemmas.Bool.Decides.{nat_tests}
use Rattle.isp_mbr.specs.Corners.{Corners}
use Rattle.isp_split.specs.Seeds.{AreSeeds, IsBefore, WastesAsMuch, WastesMore}
use Rattle.isp_split.specs.Groups.{Sides, cover, places_in}
use Rattle.isp_split.specs.Next.{IsNext}
use Rattle.isp_split.specs.Division.{Divides, IsNextOf, IsQuadraticSplit, begun, filled, needy, taken}
use Rattle.isp_split.specs.declared.side.Side.{Side}
use Rattle.isp_split.specs.declared.side.Side.TheVariants.{First, Second}
use Rattle.isp_forest.specs.Choice.{IsBetter, IsChoice}
use Rattle.isp_forest.specs.Tree.{child_of}
use Rattle.isp_forest.specs.declared.entry.Entry.{Entry}

-- ---- there is one such pair

before_or : (i j k l : ℕ) → IsBefore i j k l ⊎ IsBefore k l i j ⊎ ((i ≡ k) × (j ≡ l))
before_or i j k l = elim (less_or_same_or i k) [
  | inl a ↦ inl (inl a)
  | inr h ↦ elim h [
    | inl b ↦ inr (inl (inl b))
    | inr e ↦ elim (less_or_same_or j l) [
      | inl a ↦ inl (inr (e, a))
      | inr h ↦ elim h [ inl b ↦ inr (inl (inr (sym e, b))) | inr f ↦ inr (inr (e, f)) ]
    ]
  ]
]
  where
    less_or_same_or : (m n : ℕ) → (m < n) ⊎ ((n < m) ⊎ (m ≡ n))
    less_or_same_or m n = elim (nat_lt m n) as (λ b. nat_lt m n ≡ b → (m < n) ⊎ ((n < m) ⊎ (m ≡ n))) [
      | true ↦ λ t. inl (grind (arith, nat_tests))
      | false ↦ λ t. elim (nat_lt n m) as (λ b. nat_lt n m ≡ b → (m < n) ⊎ ((n < m) ⊎ (m ≡ n))) [ true ↦ λ u. inr (inl (grind (arith, nat_tests))) | false ↦ λ u. inr (inr (grind (arith, nat_tests))) ] refl
    ] refl

pub one_pair : (boxes : List Corners) (i j k l : ℕ) → AreSeeds boxes i j → AreSeeds boxes k l → (i ≡ k) × (j ≡ l)
one_pair boxes i j k l s t = elim (before_or i j k l) [
  | inl b ↦ (let more : WastesMore boxes k l i j = t.first i j s.order s.inside b in
      let least : WastesAsMuch boxes i j k l = s.most k l t.order t.inside in
      let no : ⊥ = omega arith in absurd no)
  | inr h ↦ elim h [
    | inl b ↦ (let more : WastesMore boxes i j k l = s.first k l t.order t.inside b in
        let least : WastesAsMuch boxes k l i j = t.most i j s.order s.inside in
        let no : ⊥ = omega arith in absurd no)
    | inr e ↦ e
  ]
]

-- ---- there is one such entry

pub one_next : (first second : Corners) (boxes : List Corners) (sides : Sides) (p q : ℕ) → IsNext first second boxes sides p → IsNext first second boxes sides q → p ≡ q
one_next first second boxes sides p q a b =
    elim (nat_lt p q) as (λ t. nat_lt p q ≡ t → p ≡ q) [
      | true ↦ λ t. (let low : p < q = grind (arith, nat_tests) in absurd (omega (arith, b.earliest p a.left low, a.most q b.left)))
      | false ↦ λ t. elim (nat_lt q p) as (λ u. nat_lt q p ≡ u → p ≡ q) [
        | true ↦ λ u. (let low : q < p = grind (arith, nat_tests) in absurd (omega (arith, a.earliest q b.left low, b.most p a.left)))
        | false ↦ λ u. grind (arith, nat_tests)
      ] refl
    ] refl

-- ---- there is one division

by_needy : (left : ℕ) (boxes : List Corners) (least : ℕ) (sides end other : Sides) (o : Option Side)
    → ((s : Sides) → Divides left boxes least s end → Divides left boxes least s other → end ≡ other)
    → MatchOption o ((place : ℕ) × IsNextOf boxes sides place × Divides left boxes least (taken boxes sides place) end) (λ side. end ≡ filled side sides)
    → MatchOption o ((place : ℕ) × IsNextOf boxes sides place × Divides left boxes least (taken boxes sides place) other) (λ side. other ≡ filled side sides) → end ≡ other
by_needy left boxes least sides end other (Some side) again one two = one ∙ sym two
by_needy left boxes least sides end other None again (p, next, rest) (q, next_q, rest_q) =
    let same : p ≡ q = one_next (cover First sides boxes) (cover Second sides boxes) boxes sides p q next next_q in
    again (taken boxes sides q) (subst (λ (k : ℕ). Divides left boxes least (taken boxes sides k) end) same rest) rest_q

pub one_end : (left : ℕ) (boxes : List Corners) (least : ℕ) (sides end other : Sides) → Divides left boxes least sides end → Divides left boxes least sides other → end ≡ other
one_end zero boxes least sides end other one two = one ∙ sym two
one_end (suc left) boxes least sides end other one two =
    by_needy left boxes least sides end other (needy least sides) (λ s a b. one_end left boxes least s end other a b) one two

pub one_division : (boxes : List Corners) (least : ℕ) (first second other_first other_second : List ℕ) → IsQuadraticSplit boxes least first second → IsQuadraticSplit boxes least other_first other_second → (first ≡ other_first) × (second ≡ other_second)
one_division boxes least first second other_first other_second one two =
    let seeds : (one.i ≡ two.i) × (one.j ≡ two.j) = one_pair boxes one.i one.j two.i two.j one.seeds two.seeds in
    let start : begun (length boxes) one.i one.j ≡ begun (length boxes) two.i two.j = λ k. begun (length boxes) (seeds.0 k) (seeds.1 k) in
    let end : one.end ≡ two.end = one_end (length boxes - 2) boxes least (begun (length boxes) two.i two.j) one.end two.end (subst (λ (s : Sides). Divides (length boxes - 2) boxes least s one.end) start one.divides) two.divides in
    (one.first_is ∙ ap (places_in First) end ∙ sym two.first_is, one.second_is ∙ ap (places_in Second) end ∙ sym two.second_is)

-- ---- there is one choice

not_both : (b : Corners) (e f : Entry) → IsBetter b e f → IsBetter b f e → ⊥
not_both b e f (inl h) (inl k) = omega arith
not_both b e f (inl h) (inr k) = omega (arith, k.0)
not_both b e f (inr h) (inl k) = omega (arith, h.0)
not_both b e f (inr h) (inr k) = omega (arith, h.1, k.1)

pub one_choice : (entries : List Entry) (b : Corners) (p q : ℕ) → IsChoice entries b p → IsChoice entries b q → p ≡ q
one_choice entries b p q one two =
    elim (nat_lt one.place two.place) as (λ t. nat_lt one.place two.place ≡ t → p ≡ q) [
      | true ↦ λ t. (let low : one.place < two.place = grind (arith, nat_tests) in
          absurd (one.best two.place two.entry two.there (two.first one.place one.entry low one.there)))
      | false ↦ λ t. elim (nat_lt two.place one.place) as (λ u. nat_lt two.place one.place ≡ u → p ≡ q) [
        | true ↦ λ u. (let low : two.place < one.place = grind (arith, nat_tests) in
            absurd (two.best one.place one.entry one.there (one.first two.place two.entry low two.there)))
        | false ↦ λ u. (let at : one.place ≡ two.place = grind (arith, nat_tests) in
            let entry : one.entry ≡ two.entry = same_entry (sym one.there ∙ ap (slice_get entries) at ∙ two.there) in
            same_page (sym one.to ∙ ap child_of entry ∙ two.to))
      ] refl
    ] refl
  where
    same_entry : {x y : Entry} → Some x ≡ Some y → x ≡ y
    same_entry h = cc

    same_page : {x y : ℕ} → Some x ≡ Some y → x ≡ y
    same_page h = cc
