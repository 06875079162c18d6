-- What an insert asks of a store of pages, and what it leaves alone; at a bound `P: Pages`.
use Rattle.std.specs.Prelude.{◌≡◌, ℕ, ◌⊎◌, ⊤, Result, Ok, Err, IfErr, OnOk}
use Rattle.isp_page.specs.Calls.{Continues, ContinuesOrLacks}
use Rattle.isp_page.specs.declared.fault.Fault.{Fault}
use Rattle.isp_page.specs.declared.fault.Fault.TheVariants.{Memory, Store}
use Rattle.isp_page.specs.declared.fault.StoreFault.{StoreFault}
use Rattle.isp_page.specs.declared.pages.Pages.{Ghosts}
use Rattle.isp_rtree.specs.Calls.{NamesTree, NamesTreeOrLacks}
use Rattle.isp_space.specs.Changes.{ChangesBy}
use Rattle.isp_space.specs.Spaces.{NamesSpace}

-- how many pages an insert changes at most: those of its path, those that it takes, and page 0
abbrev pub most_inserted : ℕ
most_inserted = 36

-- how many pages it takes at most, and how many a path has
abbrev pub most_taken : ℕ
most_taken = 18

abbrev pub most_path : ℕ
most_path = 17

-- a damaged page that is named shows that a tree or the space is none
abbrev pub NamesInsert : ℕ → StoreFault → Type 0
NamesInsert pages fault = NamesTree pages fault ⊎ NamesSpace fault

abbrev pub NamesInsertOrLacks : ℕ → Fault → Type 0
NamesInsertOrLacks pages (Store fault) = NamesInsert pages fault
NamesInsertOrLacks pages Memory = ⊤

-- where memory lacks, no page has changed
abbrev pub StaysAtLack : {S T : Type 0} → Ghosts S → S → S → Result T Fault → Type 0
StaysAtLack g old new (Ok x) = ⊤
StaysAtLack g old new (Err (Store fault)) = ⊤
StaysAtLack g old new (Err Memory) = (g.mini new ≡ g.mini old) × (g.tells → g.contents new ≡ g.contents old)

-- a call that reads pages of a tree and takes memory
pub record ReadsTree {S T : Type 0} (g : Ghosts S) (old new : S) (result : Result T Fault) : Type 0 where
  pub kept : ContinuesOrLacks g old new result
  pub contents : g.tells → OnOk result (g.contents new ≡ g.contents old)
  pub mini : OnOk result (g.mini new ≡ g.mini old)
  pub lacks : StaysAtLack g old new result
  pub names : IfErr result (NamesTreeOrLacks (g.shape old).pages)

-- a call that changes pages of a tree and takes pages for it
pub record ChangesTree {S T : Type 0} (g : Ghosts S) (old new : S) (result : Result T StoreFault) : Type 0 where
  pub kept : Continues g old new result
  pub changes : OnOk result (ChangesBy g most_inserted old new)
  pub names : IfErr result (NamesInsert (g.shape old).pages)

-- the same of one that takes memory before it changes any page
pub record InsertsInto {S T : Type 0} (g : Ghosts S) (old new : S) (result : Result T Fault) : Type 0 where
  pub kept : ContinuesOrLacks g old new result
  pub changes : OnOk result (ChangesBy g most_inserted old new)
  pub lacks : StaysAtLack g old new result
  pub names : IfErr result (NamesInsertOrLacks (g.shape old).pages)
