-- The page that is taken, and the space behind it.
use Rattle.std.proofs.Common.{◌≡◌, ℕ, zero, suc, ◌+◌, ◌-◌, ◌<◌, ◌≤◌, ◌==◌, ◌||◌, Bool, true, false, List, [], ◌∷◌, length, get_or, refl, sym, ◌∙◌, arith, Result, Ok, Err}
use Rattle.std.specs.Prelude.{All, IfOk}
use Rattle.isp_format.specs.Doublewrite.{AreDistinct}
use Rattle.std.proofs.lemmas.Bool.Decides.{nat_tests}
use Rattle.isp_format.specs.Header.{header_of}
use Rattle.isp_format.specs.Ranges.{Contents, page_of}
use Rattle.isp_format.specs.Space.{IsSpacePage}
use Rattle.isp_page.specs.Touched.{KeepsPages, is_page}
use Rattle.isp_space.specs.Spaces.{IsChain, IsSpace, Space, first_of, free_pages, fresh_after, next_free, next_of, rest_of, space_page, taken, without_first}
use Rattle.isp_space.proofs.SpaceLaws.{chain_same}

pub ok_too : {T E : Type 0} (P Q : T → Type 0) (r : Result T E) → IfOk r P → ((x : T) → P x → Q x) → IfOk r Q
ok_too P Q (Ok x) has more = more x has
ok_too P Q (Err e) has more = tt

-- the free chain has a page

pub first_is_next : (xs : List ℕ) (fresh : ℕ) → 0 < length xs → first_of xs ≡ next_of xs fresh
first_is_next [] fresh some = absurd (omega (arith, some))
first_is_next (page ∷ rest) fresh some = refl

less_one : (rest : List ℕ) (page : ℕ) → length (page ∷ rest) - 1 ≡ length rest
less_one rest page = omega arith

pub chain_taken : (contents : Contents) (xs : List ℕ) (fresh tables entries bytes : ℕ) → 0 < length xs → IsChain contents xs
    → without_first (header_of (page_of contents (first_of xs))).next (space_page (record { free = xs; fresh = fresh; tables = tables; entries = entries; bytes = bytes }))
    ≡ space_page (taken (record { free = xs; fresh = fresh; tables = tables; entries = entries; bytes = bytes }))
chain_taken contents [] fresh tables entries bytes some chain = absurd (omega (arith, some))
chain_taken contents (page ∷ rest) fresh tables entries bytes some chain =
    λ i. record { free_head = chain.0 i; free_count = less_one rest page i; fresh = fresh; tables = tables; entries = entries; bytes = bytes }

pub first_inside : (xs : List ℕ) (fresh : ℕ) → 0 < length xs → All (λ page. (16 ≤ page) × (page < fresh)) xs → (16 ≤ first_of xs) × (first_of xs < fresh)
first_inside [] fresh some inside = absurd (omega (arith, some))
first_inside (page ∷ rest) fresh some inside = inside 0 page (omega arith)

pub some_free : (count n : ℕ) → count ≡ n → (count ≡ 0 → ⊥) → 0 < n
some_free count zero is none = absurd (none is)
some_free count (suc n) is none = omega arith

-- ---- the space behind the taking

untouched : (page q : ℕ) → (page ≡ q → ⊥) → 16 ≤ q → (is_page 0 q || is_page page q) ≡ false
untouched page q differs from = both (q == 0) (q == page) (grind (arith, nat_tests, from)) (not_page (q == page) refl)
  where
    both : (a b : Bool) → a ≡ false → b ≡ false → (a || b) ≡ false
    both a b no_a no_b = (λ i. no_a i || b) ∙ no_b

    not_page : (b : Bool) → (q == page) ≡ b → (q == page) ≡ false
    not_page true is = absurd (differs (let same : q ≡ page = grind (arith, nat_tests, is) in sym same))
    not_page false is = is

rest_untouched : (page fresh : ℕ) (rest : List ℕ) → All (λ other. (page ≡ other) → ⊥) rest → All (λ q. (16 ≤ q) × (q < fresh)) rest → All (λ q. (is_page 0 q || is_page page q) ≡ false) rest
rest_untouched page fresh rest apart inside k d h = untouched page (get_or rest k d) (apart k d h) (inside k d h).0

-- a page below fresh is not the fresh one
fresh_apart : (fresh : ℕ) (xs : List ℕ) → All (λ q. (16 ≤ q) × (q < fresh)) xs → All (λ other. (fresh ≡ other) → ⊥) xs
fresh_apart fresh xs inside k d h same = let below = (inside k d h).1 in omega (arith, below, same)

-- the rest of the chain still is one
pub rest_chain : (old new : Contents) (xs : List ℕ) (fresh : ℕ) → AreDistinct xs → All (λ q. (16 ≤ q) × (q < fresh)) xs → IsChain old xs → KeepsPages (λ q. is_page 0 q || is_page (next_of xs fresh) q) old new → IsChain new (rest_of xs)
rest_chain old new [] fresh once inside chain keeps = tt
rest_chain old new (page ∷ rest) fresh once inside chain keeps =
    chain_same (λ q. is_page 0 q || is_page page q) old new rest keeps (rest_untouched page fresh rest once.0 (λ k d h. inside (suc k) d (omega (arith, h)))) chain.1

pub rest_once : (xs : List ℕ) → AreDistinct xs → AreDistinct (rest_of xs)
rest_once [] once = tt
rest_once (page ∷ rest) once = once.1

pub rest_inside : (xs : List ℕ) (fresh : ℕ) → All (λ q. (16 ≤ q) × (q < fresh)) xs → All (λ q. (16 ≤ q) × (q < fresh_after xs fresh)) (rest_of xs)
rest_inside [] fresh inside = λ k d h. absurd (omega (arith, h))
rest_inside (page ∷ rest) fresh inside = λ k d h. inside (suc k) d (omega (arith, h))

pub fresh_later : (xs : List ℕ) (fresh pages : ℕ) → 0 < length xs + (pages - fresh) → fresh ≤ pages → 16 ≤ fresh → (16 ≤ fresh_after xs fresh) × (fresh_after xs fresh ≤ pages)
fresh_later [] fresh pages some most from = (omega (arith, from), omega (arith, some, most))
fresh_later (page ∷ rest) fresh pages some most from = (from, most)

pub taken_space : (pages : ℕ) (old new : Contents) (s : Space) → IsSpace pages old s → 0 < free_pages pages s → KeepsPages (λ q. is_page 0 q || is_page (next_free s) q) old new → IsSpacePage (page_of new 0) (space_page (taken s)) → IsSpace pages new (taken s)
taken_space pages old new s is some keeps says =
    let later = fresh_later s.free s.fresh pages some is.fresh_to is.fresh_from in
    record {
      says = says;
      chain = rest_chain old new s.free s.fresh is.once is.inside is.chain keeps;
      inside = rest_inside s.free s.fresh is.inside;
      once = rest_once s.free is.once;
      fresh_from = later.0;
      fresh_to = later.1;
    }

pub kept_both : (p : ℕ) (old mid new : Contents) → KeepsPages (is_page 0) old mid → KeepsPages (is_page p) mid new → KeepsPages (λ q. is_page 0 q || is_page p q) old new
kept_both p old mid new first second q out = second q (right (is_page 0 q) (is_page p q) out) ∙ first q (left (is_page 0 q) (is_page p q) out)
  where
    left : (a b : Bool) → (a || b) ≡ false → a ≡ false
    left false b no_ab = refl
    left true b no_ab = no_ab

    right : (a b : Bool) → (a || b) ≡ false → b ≡ false
    right false b no_ab = no_ab
    right true b no_ab = cc

pub page_0_stays : (p : ℕ) (mid new : Contents) → 16 ≤ p → KeepsPages (is_page p) mid new → page_of new 0 ≡ page_of mid 0
page_0_stays p mid new from keeps = keeps 0 (grind (arith, nat_tests, from))
