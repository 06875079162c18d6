-- A search that is covered and known, and has nothing left to visit, has found all: the boxes on the way down to an entry lie
-- round its box, so each may hold the predicate, and the search is on each page of the way.
use Rattle.std.proofs.Common.{◌≡◌, ◌⊎◌, inl, inr, ℕ, ℤ, zero, suc, ◌+◌, ◌≤◌, ◌==◌, true, false, Some, List, [], refl, sym, arith, subst, eqb-true}
use Rattle.isp_mbr.specs.Corners.{Corners}
use Rattle.isp_mbr.specs.Boxes.{IsBox, covers}
use Rattle.isp_mbr.specs.Predicates.{satisfies, may_hold}
use Rattle.isp_mbr.proofs.BoxLaws.{covers_refl, covers_trans}
use Rattle.isp_mbr.proofs.Pruning.{may_hold_of_satisfying}
use Rattle.isp_forest.specs.declared.entry.Entry.{Entry}
use Rattle.isp_base.specs.Lists.{Has}
use Rattle.isp_forest.specs.Tree.{Node, Tree, page_at}
use Rattle.isp_forest.specs.Forest.{Forest, IsBelow, IsPage}
use Rattle.isp_forest.specs.Search.{Search, Item, Sees, IsOwn, Covered, Known}
use Rattle.isp_laws.proofs.ForestLaws.{Above, above, below_root}
use Rattle.isp_searches.specs.SearchLaws.{IsOnLeaf}

sees_on : (tree : Tree) (x : Search) → x.stack ≡ [] → (q : ℕ) → Sees tree x q → Has x.on q
sees_on tree x done q (inl on) = on
sees_on tree x done q (inr r) = absurd (subst (λ (st : List (ℕ × ℕ)). Has st (r.from, r.ssn)) done r.remembered)

-- where the search is on each page above it, it is on the page
on_by_above : (tree : Tree) (f : Forest tree) (x : Search) → Covered tree x → x.stack ≡ [] → (b : Corners) → IsBox b → satisfies x.predicate b ≡ true
    → (q : ℕ) (page : Node) (g : Entry) → page_at tree q ≡ Some page → Has page.entries g → covers g.b b ≡ true
    → ((a : Above tree q) → covers (a.e).b b ≡ true → (a.names.page).level ≡ suc page.level → Has x.on a.p) → Has x.on q
on_by_above tree f x c done b is_box good q page g there has round up =
    elim (q == tree.root) as (λ t. (q == tree.root) ≡ t → Has x.on q) [
      | true ↦ λ t. subst (λ (z : ℕ). Has x.on z) (sym (eqb-true q tree.root t)) (sees_on tree x done tree.root c.root)
      | false ↦ λ t. (let a : Above tree q = above tree f q page there t in
          let is : IsBelow a.e a.names.page page = f.below a.p q a.names.page page a.e a.names.there a.names.has a.names.to there in
          let round' : covers (a.e).b b ≡ true = covers_trans (a.e).b g.b b (is.inside g has) round in
          let may : may_hold x.predicate (a.e).b ≡ true = may_hold_of_satisfying x.predicate b (a.e).b is_box good round' in
          sees_on tree x done q (c.children a.p q a.e (up a round' is.level) a.names may))
    ] refl

-- a page with a box round one that satisfies the predicate, at most k levels below the root
on_it : (tree : Tree) (f : Forest tree) (x : Search) → Covered tree x → x.stack ≡ [] → (b : Corners) → IsBox b → satisfies x.predicate b ≡ true
    → (k q : ℕ) (page : Node) (g : Entry) → page_at tree q ≡ Some page → Has page.entries g → covers g.b b ≡ true → f.top.level ≤ page.level + k → Has x.on q
on_it tree f x c done b is_box good zero q page g there has round high =
    on_by_above tree f x c done b is_box good q page g there has round (λ a round' level. elim (below_root tree f a.p a.names.page a.names.there) [
      | inl root ↦ subst (λ (z : ℕ). Has x.on z) (sym root) (sees_on tree x done tree.root c.root)
      | inr less ↦ absurd (omega arith)
    ])
on_it tree f x c done b is_box good (suc k) q page g there has round high =
    on_by_above tree f x c done b is_box good q page g there has round (λ a round' level.
    on_it tree f x c done b is_box good k a.p a.names.page a.e a.names.there a.names.has round' (omega (arith, level)))

pub found_all : (tree : Tree) (x : Search) (items : List Item) → Forest tree → Covered tree x → Known tree x items → x.stack ≡ [] → (e : Entry) (key : ℤ) (number : ℕ) → IsOnLeaf tree e key number
    → satisfies x.predicate e.b ≡ true → Has x.found key ⊎ IsOwn x items key number
found_all tree x items f c known done e key number is good =
    let page : IsPage tree is.p is.leaf = f.each is.p is.leaf is.there in
    let on : Has x.on is.p = on_it tree f x c done e.b (page.boxes e is.has) good f.top.level is.p is.leaf e is.there is.has (covers_refl e.b) (omega arith) in
    known is.p is.leaf e key number on is.there is.level is.has is.to good

-- ---- what other sessions placed

pub forgetting_known : (tree : Tree) (x : Search) (items left : List Item) → ((i : Item) → Has items i → i.session ≡ x.session → Has left i) → Known tree x items → Known tree x left
forgetting_known tree x items left keep known = λ p leaf e k n on there level has to good. elim (known p leaf e k n on there level has to good) [
  | inl found ↦ inl found
  | inr o ↦ inr (record { item = o.item; among = keep o.item o.among o.session; session = o.session; later = o.later; same_key = o.same_key; same_number = o.same_number })
]
