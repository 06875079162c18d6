-- A search, suspended between two of its visits, and what it must not miss (Kornacker, Mohan and Hellerstein 1997).
use Rattle.std.specs.Prelude.{◌≡◌, ◌⊎◌, ℕ, ℤ, ◌≤◌, true, Some, List, ◌∷◌}
use Rattle.isp_mbr.specs.Predicates.{satisfies, may_hold}
use Rattle.isp_mbr.specs.declared.predicate.Predicate.{Predicate}
use Rattle.isp_forest.specs.declared.entry.Entry.{Entry}
use Rattle.isp_forest.specs.declared.entry.To.TheVariants.{Row}
use Rattle.isp_base.specs.Lists.{Has}
use Rattle.isp_forest.specs.Tree.{Node, Tree, page_at, counter}
use Rattle.isp_forest.specs.Walk.{IsWalk}
use Rattle.isp_forest.specs.Place.{Names}

-- a search of one tree: whose it is and of which statement, its predicate, the pages that it is attached to, the pages that
-- it still has to visit, each with the sequence number to remember, the next one last; and the keys that it found
pub record Search : Type 0 where
  pub session : ℕ
  pub statement : ℕ
  pub predicate : Predicate
  pub on : List ℕ
  pub stack : List (ℕ × ℕ)
  pub found : List ℤ

-- an entry that a session's statement placed, by the row's key and the entry's number
pub record Item : Type 0 where
  pub session : ℕ
  pub statement : ℕ
  pub key : ℤ
  pub number : ℕ

-- page q is on the walk from a page of the stack with the number that it is remembered with
pub record Reached (tree : Tree) (stack : List (ℕ × ℕ)) (q : ℕ) : Type 0 where
  pub from : ℕ
  pub ssn : ℕ
  pub remembered : Has stack (from, ssn)
  pub rest : List ℕ
  pub walk : IsWalk tree ssn (from ∷ rest)
  pub on_it : Has (from ∷ rest) q

-- the search is on page q, or will come to it
abbrev pub Sees : Tree → Search → ℕ → Type 0
Sees tree x q = Has x.on q ⊎ Reached tree x.stack q

-- a remembered page is one of the tree, its number was given, and its walk ends
pub record IsRemembered (tree : Tree) (p s : ℕ) : Type 0 where
  pub page : Node
  pub there : page_at tree p ≡ Some page
  pub given : s ≤ counter tree
  pub rest : List ℕ
  pub walk : IsWalk tree s (p ∷ rest)

-- nothing that the search could find is out of its reach, and the pages that it is on are pages of its tree
pub record Covered (tree : Tree) (x : Search) : Type 0 where
  pub pages : (p : ℕ) → Has x.on p → (page : Node) × (page_at tree p ≡ Some page)
  pub root : Sees tree x tree.root
  pub children : (p q : ℕ) (e : Entry) → Has x.on p → Names tree p q e → may_hold x.predicate e.b ≡ true → Sees tree x q
  pub stack : (p s : ℕ) → Has x.stack (p, s) → IsRemembered tree p s

-- the session itself placed that entry in the search's statement or a later one
pub record IsOwn (x : Search) (items : List Item) (key : ℤ) (number : ℕ) : Type 0 where
  pub item : Item
  pub among : Has items item
  pub session : item.session ≡ x.session
  pub later : x.statement ≤ item.statement
  pub same_key : item.key ≡ key
  pub same_number : item.number ≡ number

-- what lies on a leaf that the search is on and satisfies its predicate is found, or the session's own
abbrev pub Known : Tree → Search → List Item → Type 0
Known tree x items =
    (p : ℕ) (leaf : Node) (e : Entry) (key : ℤ) (number : ℕ) → Has x.on p → page_at tree p ≡ Some leaf → leaf.level ≡ 0
    → Has leaf.entries e → e.to ≡ Row key number → satisfies x.predicate e.b ≡ true → Has x.found key ⊎ IsOwn x items key number
