-- What follows for the pages of a tree that contents hold, and that a tree stays where its pages do.
use Rattle.std.proofs.Common.{◌≡◌, inl, inr, ℕ, zero, suc, ◌+◌, ◌-◌, ◌^◌, ◌<◌, ◌≤◌, ◌==◌, Bool, true, false, cond, Option, Some, None, List, [], ◌∷◌, length, refl, sym, ◌∙◌, ap, subst, arith}
use Rattle.std.proofs.lemmas.Bool.{cases_lt}
use Rattle.std.proofs.lemmas.Bool.Decides.{nat_tests}
use Rattle.isp_base.specs.Lists.{Has, times}
use Rattle.isp_format.specs.Control.{IsPages}
use Rattle.isp_format.specs.Header.{header_of}
use Rattle.isp_format.specs.Ranges.{Contents, page_of}
use Rattle.isp_page.specs.State.{FileShape}
use Rattle.isp_forest.specs.declared.entry.Entry.{Entry}
use Rattle.isp_forest.specs.Forest.{Forest, IsBelow}
use Rattle.isp_forest.specs.Place.{Names}
use Rattle.isp_forest.specs.Tree.{Node, Tree, child_of, numbers, page_at}
use Rattle.isp_laws.proofs.ForestLaws.{child_there}
use Rattle.isp_laws.proofs.ListLaws.{no_longer}
use Rattle.isp_laws.proofs.PageLaws.{There, there_of_times}
use Rattle.isp_leaf_laws.proofs.DepthLaws.{deep_is_large}
use Rattle.isp_rnode.specs.Nodes.{IsNode, link_of, node_of}
use Rattle.isp_rtree.specs.Trees.{IsAtPage, IsInside, IsPageOf, IsRootOf, IsTreeAt, IsTreeIn, KeepsTree}

pub tree_keeps : (old new : Contents) (shape : FileShape) (owner : ℕ) (tree : Tree) → KeepsTree tree old new → IsTreeIn old shape owner tree → IsTreeIn new shape owner tree
tree_keeps old new shape owner tree keeps is = record {
  nodes = λ q page there. subst (λ (bytes : List ℕ). IsNode owner q page bytes) (sym (keeps q page there)) (is.nodes q page there);
  few = is.few;
  inside = is.inside;
  forest = is.forest;
}

-- ---- a page of the tree

pub level_is : (bytes : List ℕ) → (node_of bytes).level ≡ (header_of bytes).level
unfolding node_of
level_is bytes = refl

pub ssn_is : (bytes : List ℕ) → (node_of bytes).ssn ≡ (header_of bytes).ssn
unfolding node_of
ssn_is bytes = refl

pub next_is : (bytes : List ℕ) → (node_of bytes).next ≡ link_of (header_of bytes).next
unfolding node_of
next_is bytes = refl

child_inside : (contents : Contents) (shape : FileShape) (owner : ℕ) (tree : Tree) → IsTreeIn contents shape owner tree → (q : ℕ) (page : Node) → page_at tree q ≡ Some page → (e : Entry) → Has page.entries e
    → (o : Option ℕ) → child_of e ≡ o → IsInside shape.pages o
child_inside contents shape owner tree is q page there e has None to = tt
child_inside contents shape owner tree is q page there e has (Some c) to =
    let names : Names tree q c e = record { page = page; there = there; has = has; to = to } in
    let t : There tree.pages c = child_there tree is.forest q c e names in
    (is.inside c t.page t.there).1

pub page_of_tree : (contents : Contents) (shape : FileShape) (owner : ℕ) (tree : Tree) → IsTreeIn contents shape owner tree → (q : ℕ) (page : Node) → page_at tree q ≡ Some page → IsPageOf shape.pages owner q (page_of contents q)
page_of_tree contents shape owner tree is q page there =
    let node = is.nodes q page there in
    record {
      node = record { readable = node.readable; owner_is = node.owner_is; own = node.own; used = node.used; means = refl };
      children = λ e has. child_inside contents shape owner tree is q page there e (subst (λ (n : Node). Has n.entries e) node.means has) (child_of e) refl;
    }

-- a page that is read is the tree's
pub reads_tree : (contents : Contents) (shape : FileShape) (owner : ℕ) (tree : Tree) → IsTreeIn contents shape owner tree → (q : ℕ) (page : Node) → page_at tree q ≡ Some page → (bytes : List ℕ) → bytes ≡ page_of contents q → node_of bytes ≡ page
reads_tree contents shape owner tree is q page there bytes read = ap node_of read ∙ (is.nodes q page there).means

pub level_in : (contents : Contents) (shape : FileShape) (owner : ℕ) (tree : Tree) → IsTreeIn contents shape owner tree → (q : ℕ) (page : Node) → page_at tree q ≡ Some page → (header_of (page_of contents q)).level ≡ page.level
level_in contents shape owner tree is q page there = sym (level_is (page_of contents q)) ∙ ap (λ (n : Node). n.level) (is.nodes q page there).means

-- the page that one of the tree has an entry for
pub record Next (tree : Tree) (page : Node) (q : ℕ) : Type 0 where
  pub node : Node
  pub there : page_at tree q ≡ Some node
  pub level : page.level ≡ suc node.level

pub next_of : (tree : Tree) → Forest tree → (p q : ℕ) (page : Node) (e : Entry) → page_at tree p ≡ Some page → Has page.entries e → child_of e ≡ Some q → Next tree page q
next_of tree forest p q page e there has to =
    let names : Names tree p q e = record { page = page; there = there; has = has; to = to } in
    let t : There tree.pages q = child_there tree forest p q e names in
    let is : IsBelow e page t.page = forest.below p q page t.page e there has to t.there in
    record { node = t.page; there = t.there; level = is.level }

-- ---- how many pages there are, and how high the root is

-- the numbers below n
abbrev below : ℕ → List ℕ
below zero = []
below (suc n) = n ∷ below n

below_long : (n : ℕ) → length (below n) ≡ n
below_long zero = refl
below_long (suc n) = ap suc (below_long n)

on_below : (n q : ℕ) → q < n → 1 ≤ times q (below n)
on_below zero q low = absurd (omega arith)
on_below (suc n) q low = by (n == q) refl (λ deeper. on_below n q deeper)
  where
    by : (b : Bool) → (n == q) ≡ b → (q < n → 1 ≤ times q (below n)) → 1 ≤ cond b 1 0 + times q (below n)
    by true is later = omega arith
    by false is later = let deeper : q < n = grind (arith, nat_tests, is, low) in let h : 1 ≤ times q (below n) = later deeper in omega arith

numbers_long : (m : List (ℕ × Node)) → length (numbers m) ≡ length m
numbers_long [] = refl
numbers_long (p ∷ rest) = ap suc (numbers_long rest)

pub fewer_pages : (contents : Contents) (shape : FileShape) (owner : ℕ) (tree : Tree) → IsTreeIn contents shape owner tree → length tree.pages < shape.pages
fewer_pages contents shape owner tree is =
    omega (arith, no_longer (0 ∷ numbers tree.pages) (below shape.pages) (λ q. at_most q (times q (numbers tree.pages)) refl), below_long shape.pages, numbers_long tree.pages)
  where
    none_at_0 : (n : ℕ) → times 0 (numbers tree.pages) ≡ n → n ≡ 0
    none_at_0 zero e = refl
    none_at_0 (suc n) e =
        let t : There tree.pages 0 = there_of_times tree.pages 0 (omega arith) in
        let from = (is.inside 0 t.page t.there).0 in
        absurd (omega (arith, from))

    some_pages : 0 < shape.pages
    some_pages = let low = (is.inside tree.root is.forest.top is.forest.rooted).1 in omega (arith, low)

    at_0 : (q n : ℕ) (b : Bool) → (0 == q) ≡ b → times q (numbers tree.pages) ≡ n → n ≤ 1 → (0 < n → q < shape.pages) → cond b 1 0 + n ≤ times q (below shape.pages)
    at_0 q n true first e most inside =
        let same : 0 ≡ q = grind (arith, first) in
        let none : n ≡ 0 = none_at_0 n (ap (λ (k : ℕ). times k (numbers tree.pages)) same ∙ e) in
        omega (arith, none, on_below shape.pages q (omega (arith, same, some_pages)))
    at_0 q zero false other e most inside = omega arith
    at_0 q (suc n) false other e most inside = omega (arith, most, on_below shape.pages q (inside (omega arith)))

    at_most : (q n : ℕ) → times q (numbers tree.pages) ≡ n → times q (0 ∷ numbers tree.pages) ≤ times q (below shape.pages)
    at_most q n e =
        let h : cond (0 == q) 1 0 + n ≤ times q (below shape.pages) = at_0 q n (0 == q) refl e (omega (arith, e, is.forest.once q)) (λ some. (let t : There tree.pages q = there_of_times tree.pages q (omega (arith, some, e)) in (is.inside q t.page t.there).1)) in
        omega (arith, h, e)

large : (k : ℕ) → 65536 ≤ 2 ^ (16 + k)
large zero = omega arith
large (suc k) =
    let h : 65536 ≤ 2 ^ (16 + k) = large k in
    let up : 16 + suc k ≡ suc (16 + k) = omega arith in
    let e : 2 ^ (16 + suc k) ≡ 2 ^ suc (16 + k) = ap (λ (n : ℕ). 2 ^ n) up in
    omega (arith, h, e)

small_power : (l pages : ℕ) → 2 ^ l < pages → pages ≤ 65536 → l ≤ 15
small_power l pages few most = elim (cases_lt l 16) [
  | inl low ↦ omega (arith, low)
  | inr high ↦ (let same : l ≡ 16 + (l - 16) = omega (arith, high) in
      let h : 65536 ≤ 2 ^ l = subst (λ (n : ℕ). 65536 ≤ 2 ^ n) (sym same) (large (l - 16)) in
      absurd (omega (arith, h, few, most)))
]

pub low_root : (contents : Contents) (shape : FileShape) (owner : ℕ) (tree : Tree) (is : IsTreeIn contents shape owner tree) → IsPages shape.pages → is.forest.top.level ≤ 16
low_root contents shape owner tree is pages = by is.forest.top.level refl
  where
    by : (level : ℕ) → is.forest.top.level ≡ level → level ≤ 16
    by zero e = omega arith
    by (suc l) e =
        let many : 2 ^ l ≤ length tree.pages = deep_is_large tree is.forest l e in
        let low : l ≤ 15 = small_power l shape.pages (omega (arith, many, fewer_pages contents shape owner tree is)) pages.1 in
        omega (arith, low)

pub root_of_tree : (contents : Contents) (shape : FileShape) (owner root : ℕ) (tree : Tree) → IsTreeAt contents shape owner root tree → IsPages shape.pages → IsRootOf shape.pages owner root (page_of contents root)
root_of_tree contents shape owner root tree at pages =
    let is = at.is in
    let low = low_root contents shape owner tree is pages in
    let level = level_in contents shape owner tree is tree.root is.forest.top is.forest.rooted in
    subst (λ (q : ℕ). IsRootOf shape.pages owner q (page_of contents q)) at.root_is (record { page = page_of_tree contents shape owner tree is tree.root is.forest.top is.forest.rooted; low = omega (arith, low, level) })

-- the root as a page
pub top_of : (contents : Contents) (shape : FileShape) (owner root : ℕ) (tree : Tree) (at : IsTreeAt contents shape owner root tree) → page_at tree root ≡ Some at.is.forest.top
top_of contents shape owner root tree at = subst (λ (q : ℕ). page_at tree q ≡ Some at.is.forest.top) at.root_is at.is.forest.rooted

-- the root that was read is the tree's, and tells its owner
pub at_root : (contents : Contents) (shape : FileShape) (owner told root pages : ℕ) (tree : Tree) (bytes : List ℕ) → IsTreeAt contents shape owner root tree → bytes ≡ page_of contents root → IsRootOf pages told root bytes → IsAtPage contents shape told tree root bytes
at_root contents shape owner told root pages tree bytes at read is =
    let top = at.is.forest.top in
    let there : page_at tree root ≡ Some top = top_of contents shape owner root tree at in
    let node = at.is.nodes root top there in
    let same : owner ≡ told = sym node.owner_is ∙ ap (λ (b : List ℕ). (header_of b).owner) (sym read) ∙ is.page.node.owner_is in
    record { is = subst (λ (o : ℕ). IsTreeIn contents shape o tree) same at.is; node = top; there = there; read = read }
