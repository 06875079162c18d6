-- What follows of a forest: who names a page, that the root is alone on its level, and that boxes lie in boxes on the way down.
use Rattle.std.proofs.Common.{◌≡◌, ◌⊎◌, inl, inr, ℕ, zero, suc, ◌+◌, ◌<◌, ◌≤◌, ◌==◌, true, false, cond, Option, Some, None, List, [], ◌∷◌, refl, ap, sym, ◌∙◌, arith, subst, eqb-true, eq-eqb, max}
use Rattle.std.proofs.lemmas.Bool.Decides.{nat_tests}
use Rattle.isp_mbr.specs.Boxes.{covers}
use Rattle.isp_mbr.proofs.BoxLaws.{covers_trans}
use Rattle.isp_forest.specs.declared.entry.Entry.{Entry}
use Rattle.isp_base.specs.Lists.{Has, times}
use Rattle.isp_forest.specs.Tree.{Node, Tree, page_in, page_at, counter, ssn_of, child_of, children, numbers, named}
use Rattle.isp_forest.specs.Forest.{Forest, IsBelow, IsLinked}
use Rattle.isp_forest.specs.Steps.{is_last}
use Rattle.isp_forest.specs.Place.{Names, IsPath}
use Rattle.isp_laws.proofs.ListLaws.{times-append, Has-times, times-other, times-same}
use Rattle.isp_laws.proofs.PageLaws.{times_there, times_free, There, there_of_times, times_of_page, times_of_two}
use Rattle.isp_laws.proofs.EntryLaws.{times-children, Naming, naming}

pub counter_is : (tree : Tree) (f : Forest tree) → counter tree ≡ f.top.ssn
counter_is tree f = ap ssn_of f.rooted

-- a number that was found is a number
pub same_page : (o : Option Node) (a b : Node) → o ≡ Some a → o ≡ Some b → a ≡ b
same_page o a b h k = cc

-- ---- who names whom

-- every page that is named is there, and is not the root
pub times_named : (tree : Tree) (p q : ℕ) (e : Entry) → Names tree p q e → 0 < times q (named tree.pages)
times_named tree p q e n =
    let here : 0 < times q (children n.page.entries) = times-children n.page.entries e q n.has n.to in
    omega (arith, times_of_page tree.pages p n.page q n.there)

pub root_not_named : (tree : Tree) → Forest tree → times tree.root (named tree.pages) ≡ 0
root_not_named tree f =
    omega (arith, f.once tree.root, f.by_one tree.root, times-same tree.root (named tree.pages))

pub named_not_root : (tree : Tree) → Forest tree → (p q : ℕ) (e : Entry) → Names tree p q e → (q == tree.root) ≡ false
named_not_root tree f p q e n =
    elim (q == tree.root) as (λ b. (q == tree.root) ≡ b → b ≡ false) [
      | true ↦ λ t. (let same : q ≡ tree.root = eqb-true q tree.root t in
          let some : 0 < times q (named tree.pages) = times_named tree p q e n in
          let P : ℕ → Type 0 = λ x. 0 < times x (named tree.pages) in
          let some' : 0 < times tree.root (named tree.pages) = subst P same some in
          let no : ⊥ = omega (arith, root_not_named tree f) in absurd no)
      | false ↦ λ t. refl
    ] refl

pub child_there : (tree : Tree) → Forest tree → (p q : ℕ) (e : Entry) → Names tree p q e → There tree.pages q
child_there tree f p q e n =
    let some : 0 < times q (named tree.pages) = times_named tree p q e n in
    let grows : times q (named tree.pages) ≤ times q (tree.root ∷ named tree.pages) = omega arith in
    there_of_times tree.pages q (omega (arith, f.by_one q))

pub free_not_named : (tree : Tree) → Forest tree → (n : ℕ) → page_at tree n ≡ None → times n (named tree.pages) ≡ 0
free_not_named tree f n free =
    let grows : times n (named tree.pages) ≤ times n (tree.root ∷ named tree.pages) = omega arith in
    omega (arith, f.by_one n, times_free tree.pages n free)

-- no entry names a page that no tree has
pub not_free : (tree : Tree) → Forest tree → (p n : ℕ) (e : Entry) → page_at tree n ≡ None → Names tree p n e → ⊥
not_free tree f p n e free names = omega (arith, times_named tree p n e names, free_not_named tree f n free)

-- a page is named on one page alone
pub one_parent : (tree : Tree) → Forest tree → (p p' q : ℕ) (e e' : Entry) → Names tree p q e → Names tree p' q e' → p ≡ p'
one_parent tree f p p' q e e' n n' =
    elim (p == p') as (λ b. (p == p') ≡ b → p ≡ p') [
      | true ↦ λ t. eqb-true p p' t
      | false ↦ λ t. (let a : 0 < times q (children n.page.entries) = times-children n.page.entries e q n.has n.to in
          let b : 0 < times q (children n'.page.entries) = times-children n'.page.entries e' q n'.has n'.to in
          let grows : times q (named tree.pages) ≤ times q (tree.root ∷ named tree.pages) = omega arith in
          let no : ⊥ = omega (arith, times_of_two tree.pages p p' n.page n'.page q n.there n'.there t, f.once q, f.by_one q) in absurd no)
    ] refl

-- ---- each page but the root has a page above it

record Parent (m : List (ℕ × Node)) (q : ℕ) : Type 0 where
  p : ℕ
  page : Node
  there : page_in m p ≡ Some page
  e : Entry
  has : Has page.entries e
  to : child_of e ≡ Some q

apart_of : (x p : ℕ) (m : List (ℕ × Node)) (page : Node) → ((r : ℕ) → times r (x ∷ numbers m) ≤ 1) → page_in m p ≡ Some page → (x == p) ≡ false
apart_of x p m page once there =
    elim (x == p) as (λ b. (x == p) ≡ b → b ≡ false) [
      | true ↦ λ t. (let two : times p (x ∷ numbers m) ≡ suc (times p (numbers m)) = rw t (omega arith) in
          let no : ⊥ = omega (arith, once p, times_there m p page there) in absurd no)
      | false ↦ λ t. refl
    ] refl

once_less : (x : ℕ) (ns : List ℕ) → ((r : ℕ) → times r (x ∷ ns) ≤ 1) → (r : ℕ) → times r ns ≤ 1
once_less x ns once r = let h : times r (x ∷ ns) ≤ 1 = once r in omega arith

parent_in : (m : List (ℕ × Node)) (q : ℕ) → ((r : ℕ) → times r (numbers m) ≤ 1) → 0 < times q (named m) → Parent m q
parent_in [] q once some = let no : ⊥ = omega arith in absurd no
parent_in (x ∷ rest) q once some =
    elim (there_is_one (times q (children x.1.entries))) [
      | inl here ↦ (let n : Naming x.1.entries q = naming x.1.entries q (Has-times q (children x.1.entries) here) in
          let t : (x.0 == x.0) ≡ true = eq-eqb x.0 x.0 refl in
          record { p = x.0; page = x.1; there = rw t refl; e = n.e; has = n.has; to = n.to })
      | inr none ↦ (let some' : 0 < times q (named rest) = omega (arith, times-append q (children x.1.entries) (named rest)) in
          let r : Parent rest q = parent_in rest q (once_less x.0 (numbers rest) once) some' in
          let t : (x.0 == r.p) ≡ false = apart_of x.0 r.p rest r.page once r.there in
          record { p = r.p; page = r.page; there = rw t r.there; e = r.e; has = r.has; to = r.to })
    ]
  where
    there_is_one : (n : ℕ) → (0 < n) ⊎ (n ≡ 0)
    there_is_one zero = inr refl
    there_is_one (suc n) = inl (omega arith)

pub record Above (tree : Tree) (q : ℕ) : Type 0 where
  pub p : ℕ
  pub e : Entry
  pub names : Names tree p q e

pub above : (tree : Tree) → Forest tree → (q : ℕ) (page : Node) → page_at tree q ≡ Some page → (q == tree.root) ≡ false → Above tree q
above tree f q page there other =
    let other' : (tree.root == q) ≡ false = grind (arith, nat_tests) in
    let some : 0 < times q (named tree.pages) = omega (arith, f.by_one q, times_there tree.pages q page there, times-other q tree.root (named tree.pages) other') in
    let r : Parent tree.pages q = parent_in tree.pages q f.once some in
    record { p = r.p; e = r.e; names = record { page = r.page; there = r.there; has = r.has; to = r.to } }

-- ---- the root is alone on its level

abbrev pub highest : List (ℕ × Node) → ℕ
highest [] = 0
highest (p ∷ rest) = max p.1.level (highest rest)

level_at_most : (m : List (ℕ × Node)) (q : ℕ) (page : Node) → page_in m q ≡ Some page → page.level ≤ highest m
level_at_most [] q page h = let no : ⊥ = cc in absurd no
level_at_most (p ∷ rest) q page h =
    elim (p.0 == q) as (λ b. cond b (Some p.1) (page_in rest q) ≡ Some page → page.level ≤ max p.1.level (highest rest)) [
      | true ↦ λ k. (let same : p.1 ≡ page = cc in let P : Node → Type 0 = λ x. x.level ≤ max p.1.level (highest rest) in subst P same (omega arith))
      | false ↦ λ k. (let i : page.level ≤ highest rest = level_at_most rest q page k in omega arith)
    ] h

-- a page is the root or below it
below_root_in : (tree : Tree) (f : Forest tree) (k q : ℕ) (page : Node) → page_at tree q ≡ Some page → highest tree.pages ≤ page.level + k → (q ≡ tree.root) ⊎ (page.level < f.top.level)
below_root_in tree f zero q page there high =
    elim (q == tree.root) as (λ b. (q == tree.root) ≡ b → (q ≡ tree.root) ⊎ (page.level < f.top.level)) [
      | true ↦ λ t. inl (eqb-true q tree.root t)
      | false ↦ λ t. (let a : Above tree q = above tree f q page there t in
          let is : IsBelow a.e a.names.page page = f.below a.p q a.names.page page a.e a.names.there a.names.has a.names.to there in
          let no : ⊥ = omega (arith, level_at_most tree.pages a.p a.names.page a.names.there, is.level) in absurd no)
    ] refl
below_root_in tree f (suc k) q page there high =
    elim (q == tree.root) as (λ b. (q == tree.root) ≡ b → (q ≡ tree.root) ⊎ (page.level < f.top.level)) [
      | true ↦ λ t. inl (eqb-true q tree.root t)
      | false ↦ λ t. (let a : Above tree q = above tree f q page there t in
          let is : IsBelow a.e a.names.page page = f.below a.p q a.names.page page a.e a.names.there a.names.has a.names.to there in
          let level : a.names.page.level ≡ suc page.level = is.level in
          let high' : highest tree.pages ≤ a.names.page.level + k = omega arith in
          elim (below_root_in tree f k a.p a.names.page a.names.there high') [
            | inl root ↦ (let at_root : page_at tree tree.root ≡ Some a.names.page = subst (λ (x : ℕ). page_at tree x ≡ Some a.names.page) root a.names.there in
                let same : a.names.page ≡ f.top = same_page (page_at tree tree.root) a.names.page f.top at_root f.rooted in
                let P : Node → Type 0 = λ x. x.level ≡ suc page.level in
                let level' : f.top.level ≡ suc page.level = subst P same level in inr (omega arith))
            | inr less ↦ inr (omega arith)
          ])
    ] refl

pub below_root : (tree : Tree) (f : Forest tree) (q : ℕ) (page : Node) → page_at tree q ≡ Some page → (q ≡ tree.root) ⊎ (page.level < f.top.level)
below_root tree f q page there = below_root_in tree f (highest tree.pages) q page there (omega arith)

pub alone_on_level : (tree : Tree) (f : Forest tree) (q : ℕ) (page : Node) → page_at tree q ≡ Some page → page.level ≡ f.top.level → q ≡ tree.root
alone_on_level tree f q page there level = elim (below_root tree f q page there) [ inl root ↦ root | inr less ↦ (let no : ⊥ = omega arith in absurd no) ]

-- no right link leads to the root
pub no_link_to_root : (tree : Tree) → Forest tree → (q : ℕ) (page : Node) → page_at tree q ≡ Some page → page.next ≡ Some tree.root → ⊥
no_link_to_root tree f q page there next =
    let is : IsLinked tree page tree.root = f.linked q tree.root page there next in
    let same : is.right ≡ f.top = same_page (page_at tree tree.root) is.right f.top is.there f.rooted in
    let level : page.level ≡ f.top.level = sym is.level ∙ ap (λ (x : Node). x.level) same in
    let root : q ≡ tree.root = alone_on_level tree f q page there level in
    let at_root : page_at tree tree.root ≡ Some page = subst (λ (x : ℕ). page_at tree x ≡ Some page) root there in
    let same' : page ≡ f.top = same_page (page_at tree tree.root) page f.top at_root f.rooted in
    let none : page.next ≡ None = ap (λ (x : Node). x.next) same' ∙ f.alone in
    cc

-- ---- boxes on the way down

last_at : (q leaf : ℕ) → is_last (q ∷ []) leaf ≡ true → q ≡ leaf
last_at q leaf h = eqb-true q leaf h

-- the entry on the first page for the second covers every entry on the last page
pub covers_down : (tree : Tree) → Forest tree → (p q : ℕ) (rest : List ℕ) (d : Entry) (last : ℕ) (page : Node) (e : Entry)
    → Names tree p q d → IsPath tree (q ∷ rest) → is_last (q ∷ rest) last ≡ true → page_at tree last ≡ Some page → Has page.entries e → covers d.b e.b ≡ true
covers_down tree f p q [] d last page e n path at there has =
    let there' : page_at tree q ≡ Some page = subst (λ (x : ℕ). page_at tree x ≡ Some page) (sym (last_at q last at)) there in
    let is : IsBelow d n.page page = f.below p q n.page page d n.there n.has n.to there' in
    is.inside e has
covers_down tree f p q (r ∷ rest) d last page e n path at there has =
    let next : (c : Entry) × Names tree q r c = path.0 in
    let down : covers (next.0).b e.b ≡ true = covers_down tree f q r rest next.0 last page e next.1 path.1 at there has in
    let is : IsBelow d n.page next.1.page = f.below p q n.page next.1.page d n.there n.has n.to next.1.there in
    covers_trans d.b (next.0).b e.b (is.inside next.0 next.1.has) down
