-- What the calls on undo chains answer, and what they leave.
use Rattle.std.specs.Prelude.{◌≡◌, ◌⊎◌, ℕ, ◌<◌, Bool, true, List, [], ◌∷◌, ◌++◌, length, Option, Some, None, Result, set, if◌then◌else◌, IfErr, OnOk, ⊤}
use Rattle.isp_format.specs.Ranges.{Contents}
use Rattle.isp_format.specs.Rules.{space_number, undo_directory_number, undo_rule, walk_rule}
use Rattle.isp_format.specs.Undo.{OldImage, Slot as Ends}
use Rattle.isp_page.specs.Calls.{Continues}
use Rattle.isp_page.specs.Touched.{KeepsPages}
use Rattle.isp_page.specs.State.{is_among}
use Rattle.isp_page.specs.declared.fault.StoreFault.{StoreFault}
use Rattle.isp_page.specs.declared.fault.StoreFault.TheVariants.{Damaged, Disk, Print}
use Rattle.isp_page.specs.declared.pages.Pages.{Ghosts}
use Rattle.isp_space.specs.Changes.{ChangesBy}
use Rattle.isp_space.specs.Giving.{with_chain}
use Rattle.isp_space.specs.Spaces.{IsSpace, NamesSpace, Space, free_pages, next_free, taken}
use Rattle.isp_undo_walks.specs.Chains.{Chain, HasChain, ends_of, images_of, pages_of}
pub use Rattle.isp_undo_walks.specs.Slots.{HasChainIn, is_begun}
use Rattle.isp_undo.specs.Chains.{IsApart, gone, popped, pushed, takes_page}
use Rattle.isp_undo_pages.specs.Entries.{image_in}
use Rattle.isp_undo_pages.specs.declared.buf.UndoBuf.{UndoBuf}

-- the image that a call found, where it found one
abbrev pub image_if : Bool → UndoBuf → Option OldImage
image_if found buf = if found then Some (image_in buf) else None

-- the same, or a rule of the space
abbrev pub NamesChain : StoreFault → Type 0
NamesChain Disk = ⊤
NamesChain Print = ⊤
NamesChain (Damaged page rule) = ((rule ≡ undo_rule) ⊎ (rule ≡ walk_rule)) ⊎ NamesSpace (Damaged page rule)

-- how many pages a call changes at most
abbrev pub most_pages : ℕ
most_pages = 4

-- a call that changes at most four pages
pub record ChangesChain {S T : Type 0} (g : Ghosts S) (old new : S) (result : Result T StoreFault) : Type 0 where
  pub kept : Continues g old new result
  pub changes : OnOk result (ChangesBy g most_pages old new)
  pub names : IfErr result NamesChain

-- ---- what stands in a store of pages

-- the slot has this chain, none of whose pages is free
pub record HasStack (pages : ℕ) (contents : Contents) (slots : List Ends) (slot : ℕ) (chain : Chain) (s : Space) : Type 0 where
  pub stack : HasChain pages contents slots slot chain
  pub space : IsSpace pages contents s
  pub apart : IsApart chain s

abbrev pub HasStackIn : {S : Type 0} → Ghosts S → S → List Ends → ℕ → Chain → Space → Type 0
HasStackIn g now slots slot chain s = HasStack (g.shape now).pages (g.contents now) slots slot chain s

-- The slot has another chain and its other slots stay. No pages but these are changed, those of the chain, and the heads of the
-- space and of the directory.
pub record Restacks (pages : ℕ) (old new : Contents) (slots : List Ends) (slot : ℕ) (before after : Chain) (s : Space) (more : List ℕ) : Type 0 where
  pub stack : HasStack pages new (set slots slot (ends_of after)) slot after s
  pub others : KeepsPages (λ other. is_among other (space_number ∷ undo_directory_number ∷ (pages_of before ++ more))) old new

abbrev pub RestacksIn : {S : Type 0} → Ghosts S → S → S → List Ends → ℕ → Chain → Chain → Space → List ℕ → Type 0
RestacksIn g old new slots slot before after s more = Restacks (g.shape new).pages (g.contents old) (g.contents new) slots slot before after s more

-- ---- one image more

-- a page is free where one has to be taken
abbrev pub HasPage : ℕ → OldImage → Chain → Space → Type 0
HasPage pages image chain s = takes_page image chain ≡ true → 0 < free_pages pages s

pub record CanPush (pages : ℕ) (contents : Contents) (slots : List Ends) (slot : ℕ) (chain : Chain) (s : Space) (image : OldImage) : Type 0 where
  pub stack : HasStack pages contents slots slot chain s
  pub free : HasPage pages image chain s

abbrev pub CanPushIn : {S : Type 0} → Ghosts S → S → List Ends → ℕ → Chain → Space → OldImage → Type 0
CanPushIn g now slots slot chain s image = CanPush (g.shape now).pages (g.contents now) slots slot chain s image

-- the space once an image is pushed
abbrev pub space_after : OldImage → Chain → Space → Space
space_after image chain s = if takes_page image chain then taken s else s

-- the page that was free next, where it is taken
abbrev pub page_taken : OldImage → Chain → Space → List ℕ
page_taken image chain s = if takes_page image chain then next_free s ∷ [] else []

-- the slot's chain has one image more, on the page that was free next where one was taken
abbrev pub Pushes : {S : Type 0} → Ghosts S → S → S → List Ends → ℕ → Chain → Space → OldImage → Type 0
Pushes g old new slots slot chain s image = RestacksIn g old new slots slot chain (pushed (next_free s) image chain) (space_after image chain s) (page_taken image chain s)

-- ---- the newest image off

pub record CanPop (pages : ℕ) (contents : Contents) (slots : List Ends) (slot : ℕ) (chain : Chain) (s : Space) : Type 0 where
  pub stack : HasStack pages contents slots slot chain s
  pub some : 0 < length (images_of chain)

abbrev pub CanPopIn : {S : Type 0} → Ghosts S → S → List Ends → ℕ → Chain → Space → Type 0
CanPopIn g now slots slot chain s = CanPop (g.shape now).pages (g.contents now) slots slot chain s

-- the slot's chain has one image less, and the pages that go are free, the first of them to be taken first
abbrev pub Pops : {S : Type 0} → Ghosts S → S → S → List Ends → ℕ → Chain → Space → Type 0
Pops g old new slots slot chain s = RestacksIn g old new slots slot chain (popped chain) (with_chain (gone chain) s) []

-- ---- all images off

-- the slot has no chain, and all its pages are free, the first of them to be taken first
abbrev pub Finishes : {S : Type 0} → Ghosts S → S → S → List Ends → ℕ → Chain → Space → Type 0
Finishes g old new slots slot chain s = RestacksIn g old new slots slot chain [] (with_chain (pages_of chain) s) []
