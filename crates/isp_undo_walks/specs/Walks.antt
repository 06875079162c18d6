-- Walks along the pages of a chain.
use Rattle.std.specs.Prelude.{◌≡◌, ◌⊎◌, ℕ, false, [], ◌∷◌, ◌++◌, All, length}
use Rattle.isp_format.specs.Doublewrite.{AreDistinct}
use Rattle.isp_format.specs.Ranges.{Contents}
use Rattle.isp_undo_walks.specs.Chains.{Chain, IsInFile, IsLinked, UndoPage, end_of, first_page, is_empty, pages_of}
use Rattle.isp_undo_walks.specs.declared.walking.Stop.{Stop}
use Rattle.isp_undo_walks.specs.declared.counting.Place.{Place}

-- pages from the first of a chain on, behind which that page stands, 0 for none
pub record IsWay (pages : ℕ) (contents : Contents) (behind : ℕ) (way : Chain) : Type 0 where
  pub linked : IsLinked contents 0 behind way
  pub inside : All (IsInFile pages) way
  pub once : AreDistinct (pages_of way)

-- none of these pages has an image
abbrev pub AreEmpty : Chain → Type 0
AreEmpty chain = All (λ (p : UndoPage). p.images ≡ []) chain

-- the page has an image, or it is the first
abbrev pub Stops : Chain → UndoPage → Type 0
Stops front p = (is_empty p.images ≡ false) ⊎ (front ≡ [])

-- a walk back from the end of the way has come to this page, over empty ones alone
pub record IsBack (way : Chain) (stop : Stop) : Type 0 where
  pub front : Chain
  pub p : UndoPage
  pub behind : Chain
  pub is : way ≡ front ++ p ∷ behind
  pub page : p.page ≡ stop.page.0
  pub used : stop.used ≡ end_of p
  pub empty : AreEmpty behind
  pub passed : stop.passed ≡ length behind

-- and it ends there
pub record IsLastUsed (way : Chain) (stop : Stop) : Type 0 where
  pub back : IsBack way stop
  pub stops : Stops back.front back.p

-- a walk on from the first page of the way has come to this page
pub record IsOn (way : Chain) (place : Place) : Type 0 where
  pub front : Chain
  pub p : UndoPage
  pub rest : Chain
  pub is : way ≡ front ++ p ∷ rest
  pub page : p.page ≡ place.page.0
  pub next : place.next.0 ≡ first_page 0 rest
  pub passed : place.passed ≡ length front
