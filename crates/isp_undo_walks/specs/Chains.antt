-- Undo chains: for each slot a stack of old images on pages that are linked both ways (undo logs of the MySQL 8.0 manual). The
-- oldest image is the first of the first page, the newest the last of the last page that has one.
use Rattle.std.specs.Prelude.{◌≡◌, ℕ, ◌+◌, ◌<◌, ◌≤◌, Bool, true, false, List, [], ◌∷◌, All, length, map}
use Rattle.std.specs.List.{flat_map}
use Rattle.isp_format.specs.Doublewrite.{AreDistinct}
use Rattle.isp_format.specs.Empty.{first_fresh}
use Rattle.isp_format.specs.Kinds.{content_place}
use Rattle.isp_format.specs.Ranges.{Contents, page_of}
use Rattle.isp_format.specs.Undo.{IsUndoDirectory, IsUndoPage, OldImage, Slot as Ends, image_bytes}
use Rattle.isp_undo_pages.specs.Directory.{ends_at}

pub record UndoPage : Type 0 where
  pub page : ℕ
  -- the oldest first
  pub images : List OldImage

-- the pages of a chain, from the first to the last
abbrev pub Chain : Type 0
Chain = List UndoPage

abbrev pub undo_page : ℕ → List OldImage → UndoPage
undo_page page images = record { page = page; images = images }

-- where the entries of a page end
abbrev pub end_of : UndoPage → ℕ
end_of p = content_place + length (flat_map image_bytes p.images)

-- its old images, the oldest first
abbrev pub images_of : Chain → List OldImage
images_of chain = flat_map (λ p. p.images) chain

abbrev pub pages_of : Chain → List ℕ
pages_of chain = map (λ p. p.page) chain

-- the first page of a chain that stands before a page, which it is where the chain has none
abbrev pub first_page : ℕ → Chain → ℕ
first_page behind [] = behind
first_page behind (p ∷ rest) = p.page

-- the last page of a chain that stands behind a page, which it is where the chain has none
abbrev pub last_page : ℕ → Chain → ℕ
last_page before [] = before
last_page before (p ∷ rest) = last_page p.page rest

-- each page is linked to the next and to the one before; before the first and behind the last stand these pages, 0 for none
abbrev pub IsLinked : Contents → ℕ → ℕ → Chain → Type 0
IsLinked contents before behind [] = Unit {0}
IsLinked contents before behind (p ∷ rest) = IsUndoPage (page_of contents p.page) p.page before (first_page behind rest) p.images × IsLinked contents p.page behind rest

-- the first and the last page of a chain, 0 where it has none
abbrev pub ends_of : Chain → Ends
ends_of chain = (first_page 0 chain, last_page 0 chain)

-- the page may be given away in a file of so many pages
abbrev pub IsInFile : ℕ → UndoPage → Type 0
IsInFile pages p = (first_fresh ≤ p.page) × (p.page < pages)

-- the contents of a file of so many pages have this chain
pub record IsUndoChain (pages : ℕ) (contents : Contents) (chain : Chain) : Type 0 where
  pub linked : IsLinked contents 0 0 chain
  pub inside : All (IsInFile pages) chain
  pub once : AreDistinct (pages_of chain)

-- the directory has these slots, and that slot has this chain
pub record HasChain (pages : ℕ) (contents : Contents) (slots : List Ends) (slot : ℕ) (chain : Chain) : Type 0 where
  pub directory : IsUndoDirectory (page_of contents 1) slots
  pub ends : ends_at slot slots ≡ ends_of chain
  pub stands : IsUndoChain pages contents chain

abbrev pub is_empty : List OldImage → Bool
is_empty [] = true
is_empty (i ∷ rest) = false
