-- What the directory says of a slot, and what calls that read chains name.
use Rattle.std.specs.Prelude.{◌≡◌, ◌⊎◌, ℕ, ◌<◌, ◌≤◌, Bool, true, false, List, [], ◌∷◌, Option, Some, None, ⊤}
use Rattle.isp_format.specs.Empty.{first_fresh}
use Rattle.isp_format.specs.Rules.{undo_rule, walk_rule}
use Rattle.isp_format.specs.Undo.{Slot as Ends}
use Rattle.isp_page.specs.declared.fault.StoreFault.{StoreFault}
use Rattle.isp_page.specs.declared.fault.StoreFault.TheVariants.{Damaged, Disk, Print}
use Rattle.isp_page.specs.declared.pages.Pages.{Ghosts}
use Rattle.isp_undo_walks.specs.Chains.{Chain, HasChain, ends_of}
use Rattle.isp_undo_pages.specs.declared.directory.Slot.{Slot}

-- the first and the last page of a chain, where there is one
abbrev pub found_of : Chain → Option Ends
found_of [] = None
found_of (p ∷ rest) = Some (ends_of (p ∷ rest))

abbrev pub is_begun : Chain → Bool
is_begun [] = false
is_begun (p ∷ rest) = true

-- both ends are pages of a file of so many pages that may be given away
pub record IsInside (pages : ℕ) (slot : Slot) : Type 0 where
  pub first_from : first_fresh ≤ slot.first.0
  pub first_to : slot.first.0 < pages
  pub last_from : first_fresh ≤ slot.last.0
  pub last_to : slot.last.0 < pages

-- that page breaks the rule of undo slots
abbrev pub broken_at : ℕ → StoreFault
broken_at page = Damaged page undo_rule

-- a damaged page that is named breaks the rule of undo slots
abbrev pub NamesUndo : StoreFault → Type 0
NamesUndo Disk = ⊤
NamesUndo Print = ⊤
NamesUndo (Damaged page rule) = rule ≡ undo_rule

-- the same, or a walk led over more pages than the file has
abbrev pub NamesWalk : StoreFault → Type 0
NamesWalk Disk = ⊤
NamesWalk Print = ⊤
NamesWalk (Damaged page rule) = (rule ≡ undo_rule) ⊎ (rule ≡ walk_rule)

abbrev pub HasChainIn : {S : Type 0} → Ghosts S → S → List Ends → ℕ → Chain → Type 0
HasChainIn g now slots slot chain = HasChain (g.shape now).pages (g.contents now) slots slot chain
