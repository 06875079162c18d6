-- Files of which one slot alone has a chain.
use Rattle.std.proofs.Common.{◌≡◌, ◌≢◌, ℕ, zero, suc, ◌<◌, List, [], ◌∷◌, ◌++◌, drop, reverse, take, Some, refl, sym, ◌∙◌, ap, subst}
use Rattle.std.specs.Prelude.{replicate, slice_get, slice_set}
use Rattle.std.specs.List.{list_any}
use Rattle.std.proofs.lemmas.List.{append-nil}
use Rattle.isp_format.specs.Undo.{OldImage}
use Rattle.isp_image.proofs.ListLaws.{get_other, get_set, set_set}
use Rattle.isp_undo.specs.Chains.{Chain, images_of}
use Rattle.isp_chained.specs.Chained.{alone, images_in, no_chains}
use Rattle.isp_chained.specs.Laws.{AloneIsNone, AloneIsOne, newer_of, older_of}
use Rattle.isp_chained.specs.Steps.{AreApart, AreDisjoint, are_of_one}
use Rattle.isp_chained.proofs.DisjointLaws.{apart_none, disjoint_set}
use Rattle.isp_chained.proofs.OrderLaws.{stands_in_order}
use Rattle.isp_chained.proofs.PlainLaws.{no_images, none_of, slot_there}

-- ---- chains beside one that is set

behind_set : (chains : List Chain) (slot : ℕ) (chain : Chain) → drop (suc slot) (slice_set chains slot chain) ≡ drop (suc slot) chains
behind_set [] slot chain = refl
behind_set (c ∷ chains) zero chain = refl
behind_set (c ∷ chains) (suc slot) chain = behind_set chains slot chain

before_set : (chains : List Chain) (slot : ℕ) (chain : Chain) → take slot (slice_set chains slot chain) ≡ take slot chains
before_set chains zero chain = refl
before_set [] (suc slot) chain = refl
before_set (c ∷ chains) (suc slot) chain = ap (λ (rest : List Chain). c ∷ rest) (before_set chains slot chain)

none_behind : (n k : ℕ) → images_in (drop k (replicate n [])) ≡ []
none_behind n zero = no_images n
none_behind zero (suc k) = refl
none_behind (suc n) (suc k) = none_behind n k

none_before : (n k : ℕ) → images_in (take k (replicate n [])) ≡ []
none_before n zero = refl
none_before zero (suc k) = refl
none_before (suc n) (suc k) = ap (λ (images : List OldImage). images ++ reverse []) (none_before n k)

set_none : (n k : ℕ) → ◌≡◌ {A = List Chain} (slice_set (replicate n []) k []) (replicate n [])
set_none zero k = refl
set_none (suc n) zero = refl
set_none (suc n) (suc k) = ap (λ (rest : List Chain). [] ∷ rest) (set_none n k)

newer_none : (slot : ℕ) → newer_of slot no_chains ≡ []
unfolding no_chains
newer_none slot = none_behind 32 (suc slot)

older_none : (slot : ℕ) → older_of slot no_chains ≡ []
unfolding no_chains
older_none slot = none_before 32 slot

pub alone_none : AloneIsNone
unfolding no_chains
alone_none slot = set_none 32 slot

-- ---- one chain

-- the other slots have none
other_none : (slot : ℕ) (chain : Chain) (other : ℕ) (more : Chain) → slot ≢ other → slice_get (alone slot chain) other ≡ Some more → more ≡ []
other_none slot chain other more differ got = none_of other more (sym (get_other no_chains slot other chain differ) ∙ got)

none_disjoint : AreDisjoint no_chains
none_disjoint a b c d differ got_a got_b = subst (λ (x : Chain). AreApart (images_of x) (images_of d)) (sym (none_of a c got_a)) tt

one_disjoint : (slot : ℕ) (chain : Chain) → slot < 32 → AreDisjoint (alone slot chain)
one_disjoint slot chain less = disjoint_set no_chains slot [] chain none_disjoint (slot_there slot less) each
  where
    each : (other : ℕ) (more : Chain) → slot ≢ other → slice_get no_chains other ≡ Some more → AreApart (images_of chain) (images_of more) × AreApart (images_of more) (images_of chain)
    each other more differ got =
        let none = sym (none_of other more got) in
        (subst (λ (x : Chain). AreApart (images_of chain) (images_of x)) none (apart_none (images_of chain)), subst (λ (x : Chain). AreApart (images_of x) (images_of chain)) none tt)

pub alone_one : AloneIsOne
alone_one pages contents db slot chain less file =
    let there = slot_there slot less in
    record {
      own = get_set no_chains slot [] chain there;
      images = file.noted ∙ stands_in_order no_chains slot [] chain there
          ∙ (λ i. newer_none slot i ++ (reverse (images_of chain) ++ older_none slot i))
          ∙ append-nil (reverse (images_of chain));
      newer = ap images_in (behind_set no_chains slot chain) ∙ newer_none slot;
      older = ap images_in (before_set no_chains slot chain) ∙ older_none slot;
      disjoint = one_disjoint slot chain less;
      free = λ image other more differ got. ap (λ (c : Chain). list_any (are_of_one image) (images_of c)) (other_none slot chain other more differ got);
      next = λ after. set_set no_chains slot chain after;
    }
