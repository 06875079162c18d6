-- How deep a forest can be: each page but the root is named once, and each inner page but the root names two pages or more,
-- so each level has at least twice as many pages as the one above it.
use Rattle.std.proofs.Common.{◌≡◌, inl, inr, ℕ, zero, suc, ◌+◌, ◌*◌, ◌^◌, ◌<◌, ◌≤◌, ◌==◌, Bool, true, false, cond, Option, Some, None, List, [], ◌∷◌, ◌++◌, length, refl, ap, sym, ◌∙◌, arith, subst, eqb-true, eq-eqb}
use Rattle.std.specs.Prelude.{is_none}
use Rattle.std.specs.List.{cons_option}
use Rattle.std.proofs.lemmas.Bool.Decides.{nat_tests}
use Rattle.isp_forest.specs.declared.entry.Entry.{Entry}
use Rattle.isp_base.specs.Lists.{Has, times}
use Rattle.isp_forest.specs.Tree.{Node, Tree, page_in, page_at, child_of, children, numbers, named}
use Rattle.isp_forest.specs.Forest.{Forest, IsPage, IsBelow}
use Rattle.isp_forest.specs.Place.{Names}
use Rattle.isp_laws.proofs.ListLaws.{times-same, Has-times, Parting, parting, times-parts}
use Rattle.isp_laws.proofs.PageLaws.{total, There, times_there}
use Rattle.isp_laws.proofs.EntryLaws.{Naming, naming}
use Rattle.isp_laws.proofs.ForestLaws.{child_there, same_page}

-- ---- sums over lists in which each number stands equally often

total-append : (f : ℕ → ℕ) (xs ys : List ℕ) → total f (xs ++ ys) ≡ total f xs + total f ys
total-append f [] ys = omega arith
total-append f (x ∷ xs) ys = omega (arith, total-append f xs ys)

total-parts : (f : ℕ → ℕ) (x : ℕ) (before after : List ℕ) → total f (before ++ x ∷ after) ≡ f x + total f (before ++ after)
total-parts f x before after = omega (arith, total-append f before (x ∷ after), total-append f before after)

none_left : (ys : List ℕ) → ((q : ℕ) → times q ys ≡ 0) → ys ≡ []
none_left [] h = refl
none_left (y ∷ ys) h = let some : times y (y ∷ ys) ≡ suc (times y ys) = times-same y ys in let no : ⊥ = omega (arith, h y) in absurd no

total-same : (f : ℕ → ℕ) (xs ys : List ℕ) → ((q : ℕ) → times q xs ≡ times q ys) → total f xs ≡ total f ys
total-same f [] ys h = let none : ys ≡ [] = none_left ys (λ q. sym (h q)) in subst (λ (zs : List ℕ). 0 ≡ total f zs) (sym none) refl
total-same f (x ∷ xs) ys h =
    let here : Has ys x = Has-times x ys (omega (arith, h x, times-same x xs)) in
    let p : Parting ys x = parting ys x here in
    let less : (q : ℕ) → times q xs ≡ times q (p.before ++ p.after) = λ q. (
    let e : times q ys ≡ times q (x ∷ []) + times q (p.before ++ p.after) = ap (times q) p.is ∙ times-parts q x p.before p.after in
    omega (arith, h q)) in
    let rest : total f xs ≡ total f (p.before ++ p.after) = total-same f xs (p.before ++ p.after) less in
    let all : total f ys ≡ f x + total f (p.before ++ p.after) = ap (total f) p.is ∙ total-parts f x p.before p.after in
    omega arith

-- ---- the pages of a level, and those that the level above names

abbrev pub at_level : ℕ → List (ℕ × Node) → ℕ
at_level k [] = 0
at_level k (p ∷ rest) = cond (p.1.level == k) 1 0 + at_level k rest

abbrev pub named_from : ℕ → List (ℕ × Node) → ℕ
named_from k [] = 0
named_from k (p ∷ rest) = cond (p.1.level == k) (length (children p.1.entries)) 0 + named_from k rest

abbrev stands_at : ℕ → Option Node → ℕ
stands_at k None = 0
stands_at k (Some page) = cond (page.level == k) 1 0

-- what stands on a list of pages is what the map has
abbrev AreThere : Tree → List (ℕ × Node) → Type 0
AreThere tree [] = Unit {0}
AreThere tree (p ∷ rest) = (page_at tree p.0 ≡ Some p.1) × AreThere tree rest

there_in : (all : List (ℕ × Node)) (m : List (ℕ × Node)) (front : List (ℕ × Node)) → all ≡ front ++ m → ((q : ℕ) → times q (numbers all) ≤ 1) → (root : ℕ)
    → AreThere (record { root = root; pages = all }) m
there_in all [] front is once root = tt
there_in all (p ∷ rest) front is once root = (first all front p rest is once, there_in all rest (front ++ p ∷ []) (is ∙ assoc front p rest) once root)
  where
    assoc : (front : List (ℕ × Node)) (p : ℕ × Node) (rest : List (ℕ × Node)) → front ++ p ∷ rest ≡ (front ++ p ∷ []) ++ rest
    assoc [] p rest = refl
    assoc (x ∷ front) p rest = ap (λ zs. x ∷ zs) (assoc front p rest)

    in_front : (front : List (ℕ × Node)) (p : ℕ × Node) (rest : List (ℕ × Node)) → ((q : ℕ) → times q (numbers (front ++ p ∷ rest)) ≤ 1) → page_in (front ++ p ∷ rest) p.0 ≡ Some p.1
    in_front [] p rest once = let t : (p.0 == p.0) ≡ true = eq-eqb p.0 p.0 refl in rw t refl
    in_front (x ∷ front) p rest once =
        let i : page_in (front ++ p ∷ rest) p.0 ≡ Some p.1 = in_front front p rest (λ q. (let h : times q (x.0 ∷ numbers (front ++ p ∷ rest)) ≤ 1 = once q in omega arith)) in
        let there : 0 < times p.0 (numbers (front ++ p ∷ rest)) = times_there (front ++ p ∷ rest) p.0 p.1 i in
        elim (x.0 == p.0) as (λ b. (x.0 == p.0) ≡ b → cond b (Some x.1) (page_in (front ++ p ∷ rest) p.0) ≡ Some p.1) [
          | true ↦ λ t. (let h : times p.0 (x.0 ∷ numbers (front ++ p ∷ rest)) ≤ 1 = once p.0 in
              let two : times p.0 (x.0 ∷ numbers (front ++ p ∷ rest)) ≡ suc (times p.0 (numbers (front ++ p ∷ rest))) = rw t (omega arith) in
              let no : ⊥ = omega arith in absurd no)
          | false ↦ λ t. i
        ] refl

    first : (all front : List (ℕ × Node)) (p : ℕ × Node) (rest : List (ℕ × Node)) → all ≡ front ++ p ∷ rest → ((q : ℕ) → times q (numbers all) ≤ 1) → page_in all p.0 ≡ Some p.1
    first all front p rest is once =
        subst (λ (zs : List (ℕ × Node)). page_in zs p.0 ≡ Some p.1) (sym is) (in_front front p rest (λ q. subst (λ (zs : List (ℕ × Node)). times q (numbers zs) ≤ 1) is (once q)))

by_numbers : (tree : Tree) (k : ℕ) (m : List (ℕ × Node)) → AreThere tree m → total (λ q. stands_at k (page_at tree q)) (numbers m) ≡ at_level k m
by_numbers tree k [] h = refl
by_numbers tree k (p ∷ rest) h =
    let here : stands_at k (page_at tree p.0) ≡ cond (p.1.level == k) 1 0 = ap (stands_at k) h.0 in
    omega (arith, by_numbers tree k rest h.1)

-- the children of one page
of_children : (tree : Tree) (k level : ℕ) (qs : List ℕ) → ((q : ℕ) → Has qs q → (below : Node) × (page_at tree q ≡ Some below) × (level ≡ suc below.level))
    → total (λ q. stands_at k (page_at tree q)) qs ≡ cond (level == suc k) (length qs) 0
of_children tree k level [] h = one (level == suc k) 0
  where
    one : (b : Bool) (n : ℕ) → n ≡ cond b n n
    one true n = refl
    one false n = refl
of_children tree k level (q ∷ qs) h =
    let b : (below : Node) × (page_at tree q ≡ Some below) × (level ≡ suc below.level) = h q (inl refl) in
    let here : stands_at k (page_at tree q) ≡ cond (b.0.level == k) 1 0 = ap (stands_at k) b.1 in
    let same : (b.0.level == k) ≡ (level == suc k) = grind (arith, nat_tests) in
    let rest : total (λ q. stands_at k (page_at tree q)) qs ≡ cond (level == suc k) (length qs) 0 = of_children tree k level qs (λ r s. h r (inr s)) in
    one (level == suc k) (length qs) (stands_at k (page_at tree q)) (total (λ q. stands_at k (page_at tree q)) qs) (here ∙ ap (λ b. cond b 1 0) same) rest
  where
    one : (b : Bool) (n x y : ℕ) → x ≡ cond b 1 0 → y ≡ cond b n 0 → x + y ≡ cond b (suc n) 0
    one true n x y e f = omega arith
    one false n x y e f = omega arith

by_names : (tree : Tree) (f : Forest tree) (k : ℕ) (m : List (ℕ × Node)) → AreThere tree m → total (λ q. stands_at k (page_at tree q)) (named m) ≡ named_from (suc k) m
by_names tree f k [] h = refl
by_names tree f k (p ∷ rest) h =
    let mine : total (λ q. stands_at k (page_at tree q)) (children p.1.entries) ≡ cond (p.1.level == suc k) (length (children p.1.entries)) 0 =
    of_children tree k p.1.level (children p.1.entries) (λ q has. (
    let n : Naming p.1.entries q = naming p.1.entries q has in
    let names : Names tree p.0 q n.e = record { page = p.1; there = h.0; has = n.has; to = n.to } in
    let t : There tree.pages q = child_there tree f p.0 q n.e names in
    let is : IsBelow n.e p.1 t.page = f.below p.0 q p.1 t.page n.e h.0 n.has n.to t.there in
    (t.page, t.there, is.level))) in
    omega (arith, by_names tree f k rest h.1, total-append (λ q. stands_at k (page_at tree q)) (children p.1.entries) (named rest))

-- each page of a level below the root's is named once by the level above it
pub level_is_named : (tree : Tree) (f : Forest tree) (k : ℕ) → k < f.top.level → at_level k tree.pages ≡ named_from (suc k) tree.pages
level_is_named tree f k low =
    let w : ℕ → ℕ = λ q. stands_at k (page_at tree q) in
    let there : AreThere tree tree.pages = there_in tree.pages tree.pages [] refl f.once tree.root in
    let other : (f.top.level == k) ≡ false = grind (arith, nat_tests) in
    let root : stands_at k (page_at tree tree.root) ≡ 0 = ap (stands_at k) f.rooted ∙ ap (λ b. cond {A = ℕ} b 1 0) other in
    let same : w tree.root + total w (named tree.pages) ≡ total w (numbers tree.pages) = total-same w (tree.root ∷ named tree.pages) (numbers tree.pages) f.by_one in
    let ns : total w (numbers tree.pages) ≡ at_level k tree.pages = by_numbers tree k tree.pages there in
    let es : total w (named tree.pages) ≡ named_from (suc k) tree.pages = by_names tree f k tree.pages there in
    let none : w tree.root ≡ 0 = root in
    omega (arith, same, ns, es, none)

-- ---- an inner page names as many pages as it has entries

all_children : (es : List Entry) → ((e : Entry) → Has es e → is_none (child_of e) ≡ false) → length (children es) ≡ length es
all_children [] h = refl
all_children (e ∷ es) h = one (child_of e) (children es) (length es) (h e (inl refl)) (all_children es (λ d s. h d (inr s)))
  where
    one : (o : Option ℕ) (qs : List ℕ) (n : ℕ) → is_none o ≡ false → length qs ≡ n → length (cons_option o qs) ≡ suc n
    one None qs n a b = cc
    one (Some q) qs n a b = omega (arith, b)

names_two : (tree : Tree) (f : Forest tree) (k : ℕ) (m : List (ℕ × Node)) → suc k < f.top.level → AreThere tree m → 2 * at_level (suc k) m ≤ named_from (suc k) m
names_two tree f k [] low h = omega arith
names_two tree f k (p ∷ rest) low h =
    elim (p.1.level == suc k) as (λ b. (p.1.level == suc k) ≡ b → 2 * (cond b 1 0 + at_level (suc k) rest) ≤ cond b (length (children p.1.entries)) 0 + named_from (suc k) rest) [
      | true ↦ λ t. (let level : p.1.level ≡ suc k = eqb-true p.1.level (suc k) t in
          let is : IsPage tree p.0 p.1 = f.each p.0 p.1 h.0 in
          let all : length (children p.1.entries) ≡ length p.1.entries = all_children p.1.entries (λ e has. is.kinds e has ∙ inner p.1.level k level) in
          let two : cond (p.0 == tree.root) 1 2 ≤ length p.1.entries = is.filled (omega arith) in
          let other : (p.0 == tree.root) ≡ false = apart p.0 p.1 h.0 level in
          let two' : 2 ≤ length p.1.entries = rw other at two in
          omega (arith, names_two tree f k rest low h.1))
      | false ↦ λ t. omega (arith, names_two tree f k rest low h.1)
    ] refl
  where
    inner : (level k : ℕ) → level ≡ suc k → (level == 0) ≡ false
    inner level k h = grind (arith, nat_tests)

    apart : (q : ℕ) (page : Node) → page_at tree q ≡ Some page → page.level ≡ suc k → (q == tree.root) ≡ false
    apart q page there level =
        elim (q == tree.root) as (λ b. (q == tree.root) ≡ b → b ≡ false) [
          | true ↦ λ t. (let root : q ≡ tree.root = eqb-true q tree.root t in
              let at_root : page_at tree tree.root ≡ Some page = subst (λ (x : ℕ). page_at tree x ≡ Some page) root there in
              let same : page ≡ f.top = same_page (page_at tree tree.root) page f.top at_root f.rooted in
              let top : page.level ≡ f.top.level = ap (λ (x : Node). x.level) same in
              let no : ⊥ = omega arith in absurd no)
          | false ↦ λ t. refl
        ] refl

pub level_doubles : (tree : Tree) (f : Forest tree) (k : ℕ) → suc k < f.top.level → 2 * at_level (suc k) tree.pages ≤ at_level k tree.pages
level_doubles tree f k low =
    omega (arith, names_two tree f k tree.pages low (there_in tree.pages tree.pages [] refl f.once tree.root), level_is_named tree f k (omega arith))

-- the root names a page
names_one : (tree : Tree) (f : Forest tree) (m : List (ℕ × Node)) (k : ℕ) → f.top.level ≡ suc k → page_in m tree.root ≡ Some f.top → 1 ≤ named_from (suc k) m
names_one tree f [] k level there = cc
names_one tree f (p ∷ rest) k level there =
    elim (p.0 == tree.root) as (λ b. cond b (Some p.1) (page_in rest tree.root) ≡ Some f.top → 1 ≤ cond (p.1.level == suc k) (length (children p.1.entries)) 0 + named_from (suc k) rest) [
      | true ↦ λ e. (let same : p.1 ≡ f.top = cc in
          let is : IsPage tree tree.root f.top = f.each tree.root f.top f.rooted in
          let one : cond (tree.root == tree.root) 1 2 ≤ length f.top.entries = is.filled (omega arith) in
          let t : (tree.root == tree.root) ≡ true = eq-eqb tree.root tree.root refl in
          let one' : 1 ≤ length f.top.entries = rw t at one in
          let inner : (f.top.level == 0) ≡ false = grind (arith, nat_tests) in
          let all : length (children f.top.entries) ≡ length f.top.entries = all_children f.top.entries (λ d has. is.kinds d has ∙ inner) in
          let at : (f.top.level == suc k) ≡ true = eq-eqb f.top.level (suc k) level in
          let P : Node → Type 0 = λ x. 1 ≤ cond (x.level == suc k) (length (children x.entries)) 0 + named_from (suc k) rest in
          subst P (sym same) (rw at (omega arith)))
      | false ↦ λ e. omega (arith, names_one tree f rest k level e)
    ] there

pub below_root_some : (tree : Tree) (f : Forest tree) (k : ℕ) → f.top.level ≡ suc k → 1 ≤ at_level k tree.pages
below_root_some tree f k level = omega (arith, level_is_named tree f k (omega arith), names_one tree f tree.pages k level f.rooted)

-- so many levels below the one under the root there are at least that power of two pages
pub pages_of_level : (tree : Tree) (f : Forest tree) (j k : ℕ) → f.top.level ≡ suc (k + j) → 2 ^ j ≤ at_level k tree.pages
pages_of_level tree f zero k level = below_root_some tree f k (omega arith)
pages_of_level tree f (suc j) k level =
    let above : 2 ^ j ≤ at_level (suc k) tree.pages = pages_of_level tree f j (suc k) (omega arith) in
    let two : 2 * at_level (suc k) tree.pages ≤ at_level k tree.pages = level_doubles tree f k (omega arith) in
    omega arith

at_level_most : (k : ℕ) (m : List (ℕ × Node)) → at_level k m ≤ length m
at_level_most k [] = omega arith
at_level_most k (p ∷ rest) = one (p.1.level == k) (at_level_most k rest)
  where
    one : (b : Bool) {x n : ℕ} → x ≤ n → cond b 1 0 + x ≤ suc n
    one true h = omega arith
    one false h = omega arith

-- a forest whose root is at level l + 1 has at least 2 ^ l pages
pub deep_is_large : (tree : Tree) (f : Forest tree) (l : ℕ) → f.top.level ≡ suc l → 2 ^ l ≤ length tree.pages
deep_is_large tree f l level = omega (arith, pages_of_level tree f l 0 (omega arith), at_level_most 0 tree.pages)
