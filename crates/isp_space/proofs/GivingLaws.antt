-- The space once a chain is given back.
use Rattle.std.proofs.Common.{◌≡◌, ℕ, suc, ◌+◌, ◌<◌, ◌≤◌, ◌==◌, ◌||◌, Bool, true, false, List, [], ◌∷◌, ◌++◌, length, get_or, refl, sym, ◌∙◌, ap, subst, arith}
use Rattle.std.specs.Prelude.{All}
use Rattle.std.proofs.lemmas.Bool.Decides.{nat_tests}
use Rattle.std.proofs.lemmas.List.{length-append}
use Rattle.std.proofs.lemmas.List.Elements.{All-append}
use Rattle.std.proofs.lemmas.Map.Steps.{length-le_from_distinct_below}
use Rattle.isp_format.specs.Doublewrite.{AreDistinct}
use Rattle.isp_format.specs.Header.{header_of}
use Rattle.isp_format.specs.Ranges.{Contents, page_of}
use Rattle.isp_format.specs.Space.{IsSpacePage}
use Rattle.isp_page.specs.Touched.{KeepsPages, is_page}
use Rattle.isp_space.specs.Giving.{AreLinked, IsGiven, last_of, with_chain, with_given}
use Rattle.isp_space.specs.Spaces.{IsChain, IsSpace, Space, first_of, space_page}
use Rattle.isp_space.proofs.SpaceLaws.{chain_same, distinct_by_tests, on_list}

-- what holds of all pages holds of the last of the first part
pub of_last : (P : ℕ → Type 0) (page : ℕ) (rest free : List ℕ) → All P (page ∷ (rest ++ free)) → P (last_of (page ∷ rest))
of_last P page [] free all = all 0 page (omega arith)
of_last P page (next ∷ rest) free all = of_last P next rest free (λ k d h. all (suc k) d (omega (arith, h)))

-- the last page of the chain is none behind it
pub last_apart : (page : ℕ) (rest free : List ℕ) → AreDistinct (page ∷ (rest ++ free)) → All (λ q. (last_of (page ∷ rest) ≡ q) → ⊥) free
last_apart page [] free once = once.0
last_apart page (next ∷ rest) free once = last_apart next rest free once.1

untouched : (last q : ℕ) → (last ≡ q → ⊥) → 16 ≤ q → (is_page last q || is_page 0 q) ≡ false
untouched last q differs from = both (q == last) (q == 0) (not_page (q == last) refl) (grind (arith, nat_tests, from))
  where
    both : (a b : Bool) → a ≡ false → b ≡ false → (a || b) ≡ false
    both a b no_a no_b = (λ i. no_a i || b) ∙ no_b

    not_page : (b : Bool) → (q == last) ≡ b → (q == last) ≡ false
    not_page true is = absurd (differs (let same : q ≡ last = grind (arith, nat_tests, is) in sym same))
    not_page false is = is

-- the free chain behind the given one still is a chain
free_stays : (old new : Contents) (last fresh : ℕ) (free : List ℕ) → KeepsPages (λ q. is_page last q || is_page 0 q) old new → All (λ q. (last ≡ q) → ⊥) free → All (λ q. (16 ≤ q) × (q < fresh)) free → IsChain old free → IsChain new free
free_stays old new last fresh free keeps apart inside chain = chain_same (λ q. is_page last q || is_page 0 q) old new free keeps (λ k d h. untouched last (get_or free k d) (apart k d h) (inside k d h).0) chain

-- both are one chain
joined : (old new : Contents) (last fresh page : ℕ) (rest free : List ℕ) → KeepsPages (λ q. is_page last q || is_page 0 q) old new → AreLinked old (page ∷ rest) → last_of (page ∷ rest) ≡ last → AreDistinct (page ∷ (rest ++ free)) → All (λ q. (16 ≤ q) × (q < fresh)) (page ∷ rest) → (header_of (page_of new last)).next ≡ first_of free → IsChain new free → IsChain new (page ∷ (rest ++ free))
joined old new last fresh page [] free keeps links is once inside link chain = (subst (λ (p : ℕ). (header_of (page_of new p)).next ≡ first_of free) (sym is) link, chain)
joined old new last fresh page (next ∷ rest) free keeps links is once inside link chain =
    let differs : last ≡ page → ⊥ = λ same. of_last (λ other. (page ≡ other) → ⊥) next rest free once.0 (sym same ∙ sym is) in
    let stays = keeps page (untouched last page differs (inside 0 page (omega arith)).0) in
    (ap (λ (bytes : List ℕ). (header_of bytes).next) stays ∙ links.0, joined old new last fresh next rest free keeps links.1 is once.1 (λ k d h. inside (suc k) d (omega (arith, h))) link chain)

-- no more are free than there are pages below fresh
pub few_given : (contents : Contents) (s : Space) (first last count : ℕ) (chain : List ℕ) → All (λ page. (16 ≤ page) × (page < s.fresh)) s.free → IsGiven contents s first last count chain → count + length s.free ≤ s.fresh
few_given contents s first last count chain inside is =
    let all = All-append (λ page. (16 ≤ page) × (page < s.fresh)) chain s.free is.inside inside in
    let few = length-le_from_distinct_below (chain ++ s.free) s.fresh (distinct_by_tests (chain ++ s.free) is.once) (λ q there. (on_list (λ page. (16 ≤ page) × (page < s.fresh)) q (chain ++ s.free) all there).1) in
    let size = is.size in
    let joint = length-append chain s.free in
    omega (arith, few, size, joint)

-- what page 0 says once the chain is given back
pub given_page : (s : Space) (contents : Contents) (first last count : ℕ) (chain : List ℕ) → 16 ≤ last → IsGiven contents s first last count chain → with_given first count (space_page s) ≡ space_page (with_chain chain s)
given_page s contents first last count [] from is = absurd (let to = is.to in omega (arith, to, from))
given_page s contents first last count (page ∷ rest) from is =
    let size = is.size in
    let joint = length-append (page ∷ rest) s.free in
    let sum : length s.free + count ≡ length ((page ∷ rest) ++ s.free) = omega (arith, joint, size) in
    λ i. record { free_head = sym is.from i; free_count = sum i; fresh = s.fresh; tables = s.tables; entries = s.entries; bytes = s.bytes }

pub given_space : (pages : ℕ) (old new : Contents) (s : Space) (first last count : ℕ) (chain : List ℕ) → 16 ≤ last → IsSpace pages old s → IsGiven old s first last count chain → KeepsPages (λ q. is_page last q || is_page 0 q) old new → (header_of (page_of new last)).next ≡ first_of s.free → IsSpacePage (page_of new 0) (space_page (with_chain chain s)) → IsSpace pages new (with_chain chain s)
given_space pages old new s first last count [] from is given keeps link says = absurd (let to = given.to in omega (arith, to, from))
given_space pages old new s first last count (page ∷ rest) from is given keeps link says =
    let apart = subst (λ (p : ℕ). All (λ q. (p ≡ q) → ⊥) s.free) given.to (last_apart page rest s.free given.once) in
    let free = free_stays old new last s.fresh s.free keeps apart is.inside is.chain in
    record {
      says = says;
      chain = joined old new last s.fresh page rest s.free keeps given.links given.to given.once given.inside link free;
      inside = All-append (λ q. (16 ≤ q) × (q < s.fresh)) (page ∷ rest) s.free given.inside is.inside;
      once = given.once;
      fresh_from = is.fresh_from;
      fresh_to = is.fresh_to;
    }
