-- Links of chains that are put together and taken apart.
use Rattle.std.proofs.Common.{◌≡◌, ℕ, zero, suc, ◌<◌, List, [], ◌∷◌, ◌++◌, length, refl, sym, ap, subst, arith}
use Rattle.std.specs.Prelude.{All}
use Rattle.isp_format.specs.Ranges.{Contents, page_of}
use Rattle.isp_format.specs.Undo.{IsUndoPage}
use Rattle.isp_undo_walks.specs.Chains.{Chain, IsLinked, UndoPage, first_page, last_page, pages_of}

pub first_front : (behind : ℕ) (xs ys : Chain) → first_page behind (xs ++ ys) ≡ first_page (first_page behind ys) xs
first_front behind [] ys = refl
first_front behind (p ∷ xs) ys = refl

pub last_behind : (before : ℕ) (xs ys : Chain) → last_page before (xs ++ ys) ≡ last_page (last_page before xs) ys
last_behind before [] ys = refl
last_behind before (p ∷ xs) ys = last_behind p.page xs ys

pub pages_both : (xs ys : Chain) → pages_of (xs ++ ys) ≡ pages_of xs ++ pages_of ys
pages_both [] ys = refl
pages_both (p ∷ xs) ys = ap (λ (pages : List ℕ). p.page ∷ pages) (pages_both xs ys)

-- pages that stay are linked as before
pub linked_same : (old new : Contents) (before behind : ℕ) (chain : Chain) → All (λ (p : UndoPage). page_of new p.page ≡ page_of old p.page) chain → IsLinked old before behind chain → IsLinked new before behind chain
linked_same old new before behind [] same linked = tt
linked_same old new before behind (p ∷ rest) same linked =
    (subst (λ (bytes : List ℕ). IsUndoPage bytes p.page before (first_page behind rest) p.images) (sym (same 0 p (omega arith))) linked.0, linked_same old new p.page behind rest (λ k d h. same (suc k) d (omega (arith, h))) linked.1)

pub linked_front : (contents : Contents) (before behind : ℕ) (xs ys : Chain) → IsLinked contents before behind (xs ++ ys) → IsLinked contents before (first_page behind ys) xs
linked_front contents before behind [] ys linked = tt
linked_front contents before behind (p ∷ xs) ys linked =
    (subst (λ (n : ℕ). IsUndoPage (page_of contents p.page) p.page before n p.images) (first_front behind xs ys) linked.0, linked_front contents p.page behind xs ys linked.1)

pub linked_rest : (contents : Contents) (before behind : ℕ) (xs ys : Chain) → IsLinked contents before behind (xs ++ ys) → IsLinked contents (last_page before xs) behind ys
linked_rest contents before behind [] ys linked = linked
linked_rest contents before behind (p ∷ xs) ys linked = linked_rest contents p.page behind xs ys linked.1

pub linked_both : (contents : Contents) (before behind : ℕ) (xs ys : Chain) → IsLinked contents before (first_page behind ys) xs → IsLinked contents (last_page before xs) behind ys → IsLinked contents before behind (xs ++ ys)
linked_both contents before behind [] ys front rest = rest
linked_both contents before behind (p ∷ xs) ys front rest =
    (subst (λ (n : ℕ). IsUndoPage (page_of contents p.page) p.page before n p.images) (sym (first_front behind xs ys)) front.0, linked_both contents p.page behind xs ys front.1 rest)

-- a chain that isn't empty: its last page, and those before it
pub record Ending (p : UndoPage) (rest : Chain) : Type 0 where
  pub front : Chain
  pub last : UndoPage
  pub is : p ∷ rest ≡ front ++ last ∷ []

pub ending : (p : UndoPage) (rest : Chain) → Ending p rest
ending p [] = record { front = []; last = p; is = refl }
ending p (q ∷ rest) = let e = ending q rest in record { front = p ∷ e.front; last = e.last; is = ap (λ (chain : Chain). p ∷ chain) e.is }

pub last_is : (before : ℕ) (front : Chain) (last : UndoPage) → last_page before (front ++ last ∷ []) ≡ last.page
last_is before front last = last_behind before front (last ∷ [])

-- what all pages of both chains have, each has
pub all_front : (P : UndoPage → Type 0) (xs ys : Chain) → All P (xs ++ ys) → All P xs
all_front P [] ys all k d h = absurd (omega (arith, h))
all_front P (p ∷ xs) ys all zero d h = all 0 d (omega arith)
all_front P (p ∷ xs) ys all (suc k) d h = all_front P xs ys (λ k d h. all (suc k) d (omega (arith, h))) k d (omega (arith, h))

pub all_rest : (P : UndoPage → Type 0) (xs ys : Chain) → All P (xs ++ ys) → All P ys
all_rest P [] ys all = all
all_rest P (p ∷ xs) ys all = all_rest P xs ys (λ k d h. all (suc k) d (omega (arith, h)))

pub all_head : (P : UndoPage → Type 0) (p : UndoPage) (rest : Chain) → All P (p ∷ rest) → P p
all_head P p rest all = all 0 p (omega arith)

pub all_tail : (P : UndoPage → Type 0) (p : UndoPage) (rest : Chain) → All P (p ∷ rest) → All P rest
all_tail P p rest all k d h = all (suc k) d (omega (arith, h))

-- what the pages' numbers have
pub all_pages : (P : ℕ → Type 0) (chain : Chain) → All (λ (p : UndoPage). P p.page) chain → All P (pages_of chain)
all_pages P [] all k d h = absurd (omega (arith, h))
all_pages P (p ∷ rest) all zero d h = all 0 p (omega arith)
all_pages P (p ∷ rest) all (suc k) d h = all_pages P rest (λ k d h. all (suc k) d (omega (arith, h))) k d (omega (arith, h))

pub pages_all : (P : ℕ → Type 0) (chain : Chain) → All P (pages_of chain) → All (λ (p : UndoPage). P p.page) chain
pages_all P [] all k d h = absurd (omega (arith, h))
pages_all P (p ∷ rest) all zero d h = all 0 (p.page) (omega arith)
pages_all P (p ∷ rest) all (suc k) d h = pages_all P rest (λ k d h. all (suc k) d (omega (arith, h))) k d (omega (arith, h))

-- the same of a chain that has a page
pub record ChainEnd (chain : Chain) : Type 0 where
  pub front : Chain
  pub last : UndoPage
  pub is : chain ≡ front ++ last ∷ []

pub chain_end : (chain : Chain) → 0 < length chain → ChainEnd chain
chain_end [] some = absurd (omega (arith, some))
chain_end (p ∷ rest) some = let e = ending p rest in record { front = e.front; last = e.last; is = e.is }
