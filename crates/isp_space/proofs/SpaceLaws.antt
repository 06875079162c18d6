-- Free pages are few, since they are distinct and below fresh.
use Rattle.std.proofs.Common.{◌≡◌, ℕ, suc, ◌+◌, ◌-◌, min, ◌<◌, ◌≤◌, ◌||◌, Bool, true, false, List, [], ◌∷◌, length, get_or, ◌==◌, Option, Some, None, if◌then◌else◌, refl, sym, ◌∙◌, ap, subst, arith}
use Rattle.std.specs.Prelude.{All, nat_eq}
use Rattle.std.specs.List.{AllByRecursion, IsDistinct, list_any}
use Rattle.std.proofs.lemmas.Map.Keys.{IsDistinct-cons}
use Rattle.isp_format.specs.Doublewrite.{AreDistinct}
use Rattle.std.proofs.lemmas.Map.Steps.{length-le_from_distinct_below}
use Rattle.std.proofs.lemmas.Bool.Decides.{nat_tests}
use Rattle.isp_format.specs.Header.{header_of}
use Rattle.isp_format.specs.Ranges.{Contents, page_of}
use Rattle.isp_format.specs.Space.{IsSpacePage}
use Rattle.isp_page.specs.Touched.{KeepsPages, is_page}
use Rattle.isp_space.specs.Spaces.{IsChain, IsSpace, Space, space_page}

-- what stands on a list has what all of it have
pub on_list : (P : ℕ → Type 0) (q : ℕ) (xs : List ℕ) → All P xs → list_any (nat_eq q) xs ≡ true → P q
on_list P q [] all there = absurd (grind (arith, there))
on_list P q (x ∷ xs) all there = by (nat_eq q x) refl there (on_list P q xs (λ k d h. all (suc k) d (omega (arith, h))))
  where
    by : (b : Bool) → nat_eq q x ≡ b → (b || list_any (nat_eq q) xs) ≡ true → (list_any (nat_eq q) xs ≡ true → P q) → P q
    by true same is rest = let e : x ≡ q = grind (arith, nat_tests, same) in subst P e (all 0 x (omega arith))
    by false other is rest = rest is

pub apart : (x : ℕ) (xs : List ℕ) → All (λ other. (x ≡ other) → ⊥) xs → AllByRecursion (λ y. nat_eq x y ≡ false) xs
apart x [] all = tt
apart x (y ∷ ys) all = (let differs = all 0 y (omega arith) in grind (arith, nat_tests, differs), apart x ys (λ k d h. all (suc k) d (omega (arith, h))))

distinct_none : IsDistinct nat_eq []
unfolding IsDistinct
distinct_none = tt

pub distinct_by_tests : (xs : List ℕ) → AreDistinct xs → IsDistinct nat_eq xs
distinct_by_tests [] once = distinct_none
distinct_by_tests (x ∷ xs) once = IsDistinct-cons nat_eq x xs (apart x xs once.0) (distinct_by_tests xs once.1)

pub few_free : (pages : ℕ) (contents : Contents) (s : Space) → IsSpace pages contents s → length s.free ≤ s.fresh
few_free pages contents s is = length-le_from_distinct_below s.free s.fresh (distinct_by_tests s.free is.once) (λ q there. (on_list (λ page. (16 ≤ page) × (page < s.fresh)) q s.free is.inside there).1)

pub sum_of : (pages got count fresh n : ℕ) (contents : Contents) (s : Space) → IsSpace pages contents s → got ≡ pages → got ≤ 65536 → count ≡ length s.free → fresh ≡ s.fresh → n ≡ min (count + (got - fresh)) 4294967295 → n ≡ length s.free + (pages - s.fresh)
sum_of pages got count fresh n contents s is got_is most count_is fresh_is n_is =
    let few = few_free pages contents s is in
    let to = is.fresh_to in
    let bound : count + (got - fresh) ≤ 131072 = omega (arith, few, to, most, count_is, fresh_is, got_is) in
    let plain : min (count + (got - fresh)) 4294967295 ≡ count + (got - fresh) = omega (arith, bound) in
    let same : count + (got - fresh) ≡ length s.free + (pages - s.fresh) = omega (arith, count_is, fresh_is, got_is) in
    n_is ∙ plain ∙ same

-- ---- the free chain stands on its own pages

pub chain_same : (touched : ℕ → Bool) (old new : Contents) (xs : List ℕ) → KeepsPages touched old new → All (λ page. touched page ≡ false) xs → IsChain old xs → IsChain new xs
chain_same touched old new [] keeps out chain = tt
chain_same touched old new (page ∷ rest) keeps out chain =
    (ap (λ (bytes : List ℕ). (header_of bytes).next) (keeps page (out 0 page (omega arith))) ∙ chain.0, chain_same touched old new rest keeps (λ k d h. out (suc k) d (omega (arith, h))) chain.1)

other_page : (page first : ℕ) → 16 ≤ page → first < 16 → (page == first) ≡ false
other_page page first from below = grind (arith, nat_tests)

-- page 0 is none of the free chain
pub chain_beside : (old new : Contents) (fresh : ℕ) (xs : List ℕ) → KeepsPages (is_page 0) old new → All (λ page. (16 ≤ page) × (page < fresh)) xs → IsChain old xs → IsChain new xs
chain_beside old new fresh xs keeps inside chain = chain_same (is_page 0) old new xs keeps (λ k d h. other_page (get_or xs k d) 0 (inside k d h).0 (omega arith)) chain

-- the space with other counters
pub counted : (pages : ℕ) (old new : Contents) (s t : Space) → IsSpace pages old s → KeepsPages (is_page 0) old new → IsSpacePage (page_of new 0) (space_page t) → t.free ≡ s.free → t.fresh ≡ s.fresh → IsSpace pages new t
counted pages old new s t is keeps says free fresh = record {
  says = says;
  chain = subst (λ (xs : List ℕ). IsChain new xs) (sym free) (chain_beside old new s.fresh s.free keeps is.inside is.chain);
  inside = subst (λ (xs : List ℕ). All (λ page. (16 ≤ page) × (page < t.fresh)) xs) (sym free) (subst (λ (n : ℕ). All (λ page. (16 ≤ page) × (page < n)) s.free) (sym fresh) is.inside);
  once = subst (λ (xs : List ℕ). AreDistinct xs) (sym free) is.once;
  fresh_from = subst (λ (n : ℕ). 16 ≤ n) (sym fresh) is.fresh_from;
  fresh_to = subst (λ (n : ℕ). n ≤ pages) (sym fresh) is.fresh_to;
}

-- a space seen before a call that only reads is there behind it
pub space_behind : (pages pages_now : ℕ) (old now : Contents) (s : Space) → pages_now ≡ pages → now ≡ old → IsSpace pages old s → IsSpace pages_now now s
space_behind pages pages_now old now s shape same is = subst (λ (n : ℕ). IsSpace n now s) (sym shape) (subst (λ (c : Contents). IsSpace pages c s) (sym same) is)

pub some_of : (b : Bool) (x y : ℕ) (o : Option ℕ) → o ≡ (if b then Some x else None) → o ≡ Some y → y ≡ x
some_of true x y o is some = let same : Some y ≡ Some x = sym some ∙ is in cc
some_of false x y o is some = let bad : Some y ≡ None = sym some ∙ is in cc
