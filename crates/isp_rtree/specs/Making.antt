-- A tree that is made.
use Rattle.std.specs.Prelude.{◌≡◌, ℕ, ◌<◌, None, [], ◌∷◌, Result, IfErr, IfOk, OnOk}
use Rattle.isp_base.specs.declared.page_no.PageNo.{PageNo}
use Rattle.isp_format.specs.Header.{Header}
use Rattle.isp_format.specs.Kinds.{content_place, rtree_kind}
use Rattle.isp_page.specs.Calls.{Continues}
use Rattle.isp_page.specs.State.{is_among}
use Rattle.isp_page.specs.Touched.{KeepsPages}
use Rattle.isp_page.specs.declared.fault.StoreFault.{StoreFault}
use Rattle.isp_page.specs.declared.pages.Pages.{Ghosts}
use Rattle.isp_space.specs.Changes.{ChangesBy}
use Rattle.isp_space.specs.Spaces.{IsSpace, NamesSpace, Space, next_free, taken}
use Rattle.isp_forest.specs.Tree.{Node, Tree}
use Rattle.isp_rtree.specs.Calls.{HasTree}

abbrev pub HasSpace : {S : Type 0} → Ghosts S → S → Space → Type 0
HasSpace g now s = IsSpace (g.shape now).pages (g.contents now) s

-- the header of a leaf without entries
abbrev pub empty_header : ℕ → ℕ → Header
empty_header owner own = record { kind = rtree_kind; level = 0; count = 0; owner = owner; next = 0; prev = 0; ssn = 0; own = own; used = content_place }

-- a leaf without entries, and the tree that it is
abbrev pub empty_leaf : Node
empty_leaf = record { level = 0; ssn = 0; next = None; entries = [] }

abbrev pub empty_tree : ℕ → Tree
empty_tree root = record { root = root; pages = (root, empty_leaf) ∷ [] }

-- The store now has an empty tree of that owner on the page that was free next, and other pages than it and page 0 are as before.
pub record IsCreated {S : Type 0} (g : Ghosts S) (old new : S) (owner : ℕ) (s : Space) (page : ℕ) : Type 0 where
  pub is_next : page ≡ next_free s
  pub is_tree : HasTree g new owner page (empty_tree page)
  pub is_space : HasSpace g new (taken s)
  pub others : KeepsPages (λ other. is_among other (0 ∷ page ∷ [])) (g.contents old) (g.contents new)

-- a call that makes a tree on a page that it takes
pub record CreatesTree {S : Type 0} (g : Ghosts S) (old new : S) (result : Result PageNo StoreFault) : Type 0 where
  pub kept : Continues g old new result
  pub changes : OnOk result (ChangesBy g 3 old new)
  pub names : IfErr result NamesSpace
  pub inside : IfOk result (λ page. page.0 < (g.shape old).pages)
