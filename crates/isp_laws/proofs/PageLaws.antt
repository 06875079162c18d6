-- The finite map of a tree's pages: what `put` and `each` change of it, and which pages its entries name, how often.
use Rattle.std.proofs.Common.{◌≡◌, ◌⊎◌, inl, inr, ℕ, ◌+◌, ◌*◌, ◌<◌, ◌≤◌, ◌==◌, Bool, true, false, cond, Option, Some, None, List, [], ◌∷◌, ◌++◌, refl, ap, sym, ◌∙◌, arith, eqb-true, eq-eqb, subst}
use Rattle.isp_base.specs.Lists.{times}
use Rattle.isp_forest.specs.Tree.{Node, page_in, children, numbers, named}
use Rattle.isp_forest.specs.Steps.{put, each}
use Rattle.isp_laws.proofs.ListLaws.{times-append}

-- ---- put

pub page_in-put_same : (q : ℕ) (page : Node) (m : List (ℕ × Node)) → page_in (put q page m) q ≡ Some page
page_in-put_same q page [] = let t : (q == q) ≡ true = eq-eqb q q refl in rw t refl
page_in-put_same q page (p ∷ rest) =
    elim (p.0 == q) as (λ b. (p.0 == q) ≡ b → page_in (cond b ((q, page) ∷ rest) (p ∷ put q page rest)) q ≡ Some page) [
      | true ↦ λ e. (let t : (q == q) ≡ true = eq-eqb q q refl in rw t refl)
      | false ↦ λ e. rw e (page_in-put_same q page rest)
    ] refl

pub page_in-put_other : (q r : ℕ) (page : Node) (m : List (ℕ × Node)) → (q == r) ≡ false → page_in (put q page m) r ≡ page_in m r
page_in-put_other q r page [] other = rw other refl
page_in-put_other q r page (p ∷ rest) other =
    elim (p.0 == q) as (λ b. (p.0 == q) ≡ b → page_in (cond b ((q, page) ∷ rest) (p ∷ put q page rest)) r ≡ page_in (p ∷ rest) r) [
      | true ↦ λ e. (let same : p.0 ≡ q = eqb-true p.0 q e in let t : (p.0 == r) ≡ false = ap (λ x. x == r) same ∙ other in rw (other, t) refl)
      | false ↦ λ e. ap (cond (p.0 == r) (Some p.1)) (page_in-put_other q r page rest other)
    ] refl

-- a page that has no number yet is added last
pub put_new : (q : ℕ) (page : Node) (m : List (ℕ × Node)) → page_in m q ≡ None → put q page m ≡ m ++ (q, page) ∷ []
put_new q page [] free = refl
put_new q page (p ∷ rest) free =
    elim (p.0 == q) as (λ b. cond b (Some p.1) (page_in rest q) ≡ None → cond b ((q, page) ∷ rest) (p ∷ put q page rest) ≡ p ∷ (rest ++ (q, page) ∷ [])) [
      | true ↦ λ h. cc
      | false ↦ λ h. ap (λ xs. p ∷ xs) (put_new q page rest h)
    ] free

-- a page in the place of another leaves the numbers
pub numbers-put : (q : ℕ) (page old : Node) (m : List (ℕ × Node)) → page_in m q ≡ Some old → numbers (put q page m) ≡ numbers m
numbers-put q page old [] there = cc
numbers-put q page old (p ∷ rest) there =
    elim (p.0 == q) as (λ b. (p.0 == q) ≡ b → cond b (Some p.1) (page_in rest q) ≡ Some old → numbers (cond b ((q, page) ∷ rest) (p ∷ put q page rest)) ≡ p.0 ∷ numbers rest) [
      | true ↦ λ e h. ap (λ x. x ∷ numbers rest) (sym (eqb-true p.0 q e))
      | false ↦ λ e h. ap (λ xs. p.0 ∷ xs) (numbers-put q page old rest h)
    ] refl there

pub named-put : (q : ℕ) (page old : Node) (m : List (ℕ × Node)) (r : ℕ) → page_in m q ≡ Some old
    → times r (named (put q page m)) + times r (children old.entries) ≡ times r (named m) + times r (children page.entries)
named-put q page old [] r there = cc
named-put q page old (p ∷ rest) r there =
    elim (p.0 == q) as (λ b. (p.0 == q) ≡ b → cond b (Some p.1) (page_in rest q) ≡ Some old
    → times r (named (cond b ((q, page) ∷ rest) (p ∷ put q page rest))) + times r (children old.entries) ≡ times r (children p.1.entries ++ named rest) + times r (children page.entries)) [
      | true ↦ λ e h. (let P : Node → Type 0 = λ x. times r (children page.entries ++ named rest) + times r (children x.entries) ≡ times r (children p.1.entries ++ named rest) + times r (children page.entries) in
          let same : p.1 ≡ old = cc in
          subst P same (omega (arith, times-append r (children page.entries) (named rest), times-append r (children p.1.entries) (named rest))))
      | false ↦ λ e h. omega (arith, times-append r (children p.1.entries) (named (put q page rest)), times-append r (children p.1.entries) (named rest), named-put q page old rest r h)
    ] refl there

pub named-append : (m n : List (ℕ × Node)) (r : ℕ) → times r (named (m ++ n)) ≡ times r (named m) + times r (named n)
named-append [] n r = omega arith
named-append (p ∷ m) n r =
    omega (arith, named-append m n r, times-append r (children p.1.entries) (named (m ++ n)), times-append r (children p.1.entries) (named m))

pub numbers-append : (m n : List (ℕ × Node)) → numbers (m ++ n) ≡ numbers m ++ numbers n
numbers-append [] n = refl
numbers-append (p ∷ m) n = ap (λ xs. p.0 ∷ xs) (numbers-append m n)

-- ---- each

abbrev pub changed : (ℕ → Node → Node) → ℕ → Option Node → Option Node
changed f q None = None
changed f q (Some page) = Some (f q page)

pub page_in-each : (f : ℕ → Node → Node) (m : List (ℕ × Node)) (q : ℕ) → page_in (each f m) q ≡ changed f q (page_in m q)
page_in-each f [] q = refl
page_in-each f (p ∷ rest) q =
    elim (p.0 == q) as (λ b. (p.0 == q) ≡ b → cond b (Some (f p.0 p.1)) (page_in (each f rest) q) ≡ changed f q (cond b (Some p.1) (page_in rest q))) [
      | true ↦ λ e. ap (λ x. Some (f x p.1)) (eqb-true p.0 q e)
      | false ↦ λ e. page_in-each f rest q
    ] refl

pub numbers-each : (f : ℕ → Node → Node) (m : List (ℕ × Node)) → numbers (each f m) ≡ numbers m
numbers-each f [] = refl
numbers-each f (p ∷ rest) = ap (λ xs. p.0 ∷ xs) (numbers-each f rest)

-- the page before the change
pub record Before (f : ℕ → Node → Node) (m : List (ℕ × Node)) (q : ℕ) (page : Node) : Type 0 where
  pub old : Node
  pub there : page_in m q ≡ Some old
  pub is : f q old ≡ page

before_at : (f : ℕ → Node → Node) (m : List (ℕ × Node)) (q : ℕ) (page : Node) (o : Option Node) → page_in m q ≡ o → changed f q o ≡ Some page → Before f m q page
before_at f m q page None e h = let no : ⊥ = cc in absurd no
before_at f m q page (Some old) e h = record { old = old; there = e; is = cc }

pub before : (f : ℕ → Node → Node) (m : List (ℕ × Node)) (q : ℕ) (page : Node) → page_in (each f m) q ≡ Some page → Before f m q page
before f m q page h = before_at f m q page (page_in m q) refl (sym (page_in-each f m q) ∙ h)

pub after_each : (f : ℕ → Node → Node) (m : List (ℕ × Node)) (q : ℕ) (page : Node) → page_in m q ≡ Some page → page_in (each f m) q ≡ Some (f q page)
after_each f m q page h = page_in-each f m q ∙ ap (changed f q) h

-- each page adds its part to how often r is named
abbrev pub total : (ℕ → ℕ) → List ℕ → ℕ
total g [] = 0
total g (n ∷ ns) = g n + total g ns

pub named-each : (f : ℕ → Node → Node) (g : ℕ → ℕ) (r : ℕ) → ((q : ℕ) (page : Node) → times r (children (f q page).entries) ≡ times r (children page.entries) + g q)
    → (m : List (ℕ × Node)) → times r (named (each f m)) ≡ times r (named m) + total g (numbers m)
named-each f g r h [] = refl
named-each f g r h (p ∷ rest) =
    omega (arith, h p.0 p.1, named-each f g r h rest, times-append r (children (f p.0 p.1).entries) (named (each f rest)), times-append r (children p.1.entries) (named rest))

total_once_at : (a k c n : ℕ) (b : Bool) (t : ℕ) → t ≡ c * k → cond b k 0 + t ≡ (cond b 1 0 + c) * k
total_once_at a k c n true t h = grind arith
total_once_at a k c n false t h = grind arith

pub total_once : (a k : ℕ) (ns : List ℕ) → total (λ q. cond (q == a) k 0) ns ≡ times a ns * k
total_once a k [] = omega arith
total_once a k (n ∷ ns) = total_once_at a k (times a ns) n (n == a) (total (λ q. cond (q == a) k 0) ns) (total_once a k ns)

pub total_none : (ns : List ℕ) → total (λ q. 0) ns ≡ 0
total_none [] = refl
total_none (n ∷ ns) = omega (arith, total_none ns)

-- ---- which numbers there are

pub times_there : (m : List (ℕ × Node)) (q : ℕ) (page : Node) → page_in m q ≡ Some page → 0 < times q (numbers m)
times_there [] q page h = let no : ⊥ = cc in absurd no
times_there (p ∷ rest) q page h =
    elim (p.0 == q) as (λ b. cond b (Some p.1) (page_in rest q) ≡ Some page → 0 < cond b 1 0 + times q (numbers rest)) [
      | true ↦ λ k. omega arith
      | false ↦ λ k. (let i : 0 < times q (numbers rest) = times_there rest q page k in omega arith)
    ] h

pub times_free : (m : List (ℕ × Node)) (q : ℕ) → page_in m q ≡ None → times q (numbers m) ≡ 0
times_free [] q h = refl
times_free (p ∷ rest) q h =
    elim (p.0 == q) as (λ b. cond b (Some p.1) (page_in rest q) ≡ None → cond b 1 0 + times q (numbers rest) ≡ 0) [
      | true ↦ λ k. cc
      | false ↦ λ k. (let i : times q (numbers rest) ≡ 0 = times_free rest q k in omega arith)
    ] h

pub record There (m : List (ℕ × Node)) (q : ℕ) : Type 0 where
  pub page : Node
  pub there : page_in m q ≡ Some page

pub there_or_not : (m : List (ℕ × Node)) (q : ℕ) → There m q ⊎ (page_in m q ≡ None)
there_or_not m q = elim (page_in m q) as (λ o. page_in m q ≡ o → There m q ⊎ (page_in m q ≡ None)) [ Some page ↦ λ e. inl (record { page = page; there = e }) | None ↦ λ e. inr e ] refl

pub there_of_times : (m : List (ℕ × Node)) (q : ℕ) → 0 < times q (numbers m) → There m q
there_of_times m q h =
    elim (there_or_not m q) [ inl t ↦ t | inr free ↦ (let none : times q (numbers m) ≡ 0 = times_free m q free in let no : ⊥ = omega arith in absurd no) ]

-- ---- who names a page

pub times_of_page : (m : List (ℕ × Node)) (p : ℕ) (page : Node) (r : ℕ) → page_in m p ≡ Some page → times r (children page.entries) ≤ times r (named m)
times_of_page [] p page r h = let no : ⊥ = cc in absurd no
times_of_page (x ∷ rest) p page r h =
    elim (x.0 == p) as (λ b. cond b (Some x.1) (page_in rest p) ≡ Some page → times r (children page.entries) ≤ times r (children x.1.entries ++ named rest)) [
      | true ↦ λ k. (let same : x.1 ≡ page = cc in let P : Node → Type 0 = λ z. times r (children z.entries) ≤ times r (children x.1.entries ++ named rest) in
          subst P same (omega (arith, times-append r (children x.1.entries) (named rest))))
      | false ↦ λ k. omega (arith, times_of_page rest p page r k, times-append r (children x.1.entries) (named rest))
    ] h

-- two pages name no page more often than all do
pub times_of_two : (m : List (ℕ × Node)) (p q : ℕ) (a b : Node) (r : ℕ) → page_in m p ≡ Some a → page_in m q ≡ Some b → (p == q) ≡ false
    → times r (children a.entries) + times r (children b.entries) ≤ times r (named m)
times_of_two [] p q a b r h k other = let no : ⊥ = cc in absurd no
times_of_two (x ∷ rest) p q a b r h k other =
    elim (x.0 == p) as (λ s. (x.0 == p) ≡ s → cond s (Some x.1) (page_in rest p) ≡ Some a → times r (children a.entries) + times r (children b.entries) ≤ times r (children x.1.entries ++ named rest)) [
      | true ↦ λ e h'. (let same : x.1 ≡ a = cc in
          let at_p : x.0 ≡ p = eqb-true x.0 p e in
          let t : (x.0 == q) ≡ false = ap (λ z. z == q) at_p ∙ other in
          let k' : page_in rest q ≡ Some b = rw t at k in
          let P : Node → Type 0 = λ z. times r (children z.entries) + times r (children b.entries) ≤ times r (children x.1.entries ++ named rest) in
          subst P same (omega (arith, times_of_page rest q b r k', times-append r (children x.1.entries) (named rest))))
      | false ↦ λ e h'. elim (x.0 == q) as (λ s. cond s (Some x.1) (page_in rest q) ≡ Some b → times r (children a.entries) + times r (children b.entries) ≤ times r (children x.1.entries ++ named rest)) [
        | true ↦ λ k'. (let same : x.1 ≡ b = cc in
            let P : Node → Type 0 = λ z. times r (children a.entries) + times r (children z.entries) ≤ times r (children x.1.entries ++ named rest) in
            subst P same (omega (arith, times_of_page rest p a r h', times-append r (children x.1.entries) (named rest))))
        | false ↦ λ k'. omega (arith, times_of_two rest p q a b r h' k' other, times-append r (children x.1.entries) (named rest))
      ] k
    ] refl h
