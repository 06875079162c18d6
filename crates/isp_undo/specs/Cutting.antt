-- A chain that ends earlier.
use Rattle.std.specs.Prelude.{◌≡◌, ◌≢◌, ℕ, List, [], ◌∷◌, ◌++◌, length}
use Rattle.isp_format.specs.Kinds.{content_place}
use Rattle.isp_format.specs.Ranges.{Contents}
use Rattle.isp_format.specs.Undo.{OldImage, Slot as Ends}
use Rattle.isp_page.specs.declared.pages.Pages.{Ghosts}
use Rattle.isp_space.specs.Giving.{with_chain}
use Rattle.isp_space.specs.Spaces.{Space}
use Rattle.isp_undo_pages.specs.Directory.{ends_in}
use Rattle.isp_undo_pages.specs.declared.directory.Slot.{Slot}
use Rattle.isp_undo_walks.specs.Chains.{Chain, end_of, ends_of, first_page, pages_of, undo_page}
use Rattle.isp_undo_walks.specs.Walks.{IsLastUsed}
use Rattle.isp_undo_walks.specs.declared.walking.Stop.{Stop}
use Rattle.isp_undo.specs.Calls.{HasStack, RestacksIn}

-- the slot has a chain with these ends, in which so many pages stand behind one whose first images end at that place
pub record CanCut (pages : ℕ) (contents : Contents) (slots : List Ends) (slot : ℕ) (ends : Slot) (stop : Stop) (front : Chain) (images more : List OldImage) (rest : Chain) (s : Space) : Type 0 where
  pub stack : HasStack pages contents slots slot (front ++ undo_page stop.page.0 (images ++ more) ∷ rest) s
  pub ends_are : ends_in ends ≡ ends_of (front ++ undo_page stop.page.0 (images ++ more) ∷ rest)
  pub used : stop.used ≡ end_of (undo_page stop.page.0 images)
  pub passed : stop.passed ≡ length rest

abbrev pub CanCutIn : {S : Type 0} → Ghosts S → S → List Ends → ℕ → Slot → Stop → Chain → List OldImage → List OldImage → Chain → Space → Type 0
CanCutIn g now slots slot ends stop front images more rest s = CanCut (g.shape now).pages (g.contents now) slots slot ends stop front images more rest s

-- the page is the last one and has these images, and those behind it are free
abbrev pub Cuts : {S : Type 0} → Ghosts S → S → S → List Ends → ℕ → Stop → Chain → List OldImage → List OldImage → Chain → Space → Type 0
Cuts g old new slots slot stop front images more rest s = RestacksIn g old new slots slot (front ++ undo_page stop.page.0 (images ++ more) ∷ rest) (front ++ undo_page stop.page.0 images ∷ []) (with_chain (pages_of rest) s) []

-- a slot whose chain has these ends and its newest image on the page where a walk back stopped, from that place on
pub record MayPop (pages : ℕ) (contents : Contents) (slots : List Ends) (slot : ℕ) (ends : Slot) (stop : Stop) (at : ℕ) (chain : Chain) (s : Space) : Type 0 where
  pub stack : HasStack pages contents slots slot chain s
  pub ends_are : ends_in ends ≡ ends_of chain
  pub stopped : IsLastUsed chain stop
  pub images : List OldImage
  pub image : OldImage
  pub newest : stopped.back.p.images ≡ images ++ image ∷ []
  pub begins : at ≡ end_of (undo_page stop.page.0 images)

abbrev pub MayPopAt : {S : Type 0} → Ghosts S → S → List Ends → ℕ → Slot → Stop → ℕ → Chain → Space → Type 0
MayPopAt g now slots slot ends stop at chain s = MayPop (g.shape now).pages (g.contents now) slots slot ends stop at chain s

-- it is the only one of its page, which isn't the first
abbrev pub MayDrop : {S : Type 0} → Ghosts S → S → List Ends → ℕ → Slot → Stop → Chain → Space → Type 0
MayDrop g now slots slot ends stop chain s = MayPopAt g now slots slot ends stop content_place chain s × (first_page 0 chain ≢ stop.page.0)
