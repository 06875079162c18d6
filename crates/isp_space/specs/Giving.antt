-- A chain of pages that is given back: it stands before the free chain then.
use Rattle.std.specs.Prelude.{◌≡◌, ℕ, ◌+◌, ◌<◌, ◌≤◌, List, [], ◌∷◌, ◌++◌, All, length}
use Rattle.isp_disk.specs.Moments.{image_of}
use Rattle.isp_format.specs.Doublewrite.{AreDistinct}
use Rattle.isp_format.specs.Empty.{first_fresh}
use Rattle.isp_format.specs.Header.{Header, header_of, header_size}
use Rattle.isp_format.specs.Ranges.{Contents, page_of}
use Rattle.isp_format.specs.Space.{SpacePage}
use Rattle.isp_space.specs.Spaces.{Space, first_of}

-- each of these pages links to the next; of the last one's link nothing is said
abbrev pub AreLinked : Contents → List ℕ → Type 0
AreLinked contents [] = Unit {0}
AreLinked contents (page ∷ []) = Unit {0}
AreLinked contents (page ∷ next ∷ rest) = ((header_of (page_of contents page)).next ≡ next) × AreLinked contents (next ∷ rest)

-- the last page of a chain, 0 where it has none
abbrev pub last_of : List ℕ → ℕ
last_of [] = 0
last_of (page ∷ []) = page
last_of (page ∷ next ∷ rest) = last_of (next ∷ rest)

-- the chain from the first of these pages to the last one, with so many in all: none is free, and each was used
pub record IsGiven (contents : Contents) (s : Space) (first last count : ℕ) (chain : List ℕ) : Type 0 where
  pub from : first_of chain ≡ first
  pub to : last_of chain ≡ last
  pub size : length chain ≡ count
  pub links : AreLinked contents chain
  pub inside : All (λ page. (first_fresh ≤ page) × (page < s.fresh)) chain
  pub once : AreDistinct (chain ++ s.free)

-- the space once the chain is given back
abbrev pub with_chain : List ℕ → Space → Space
with_chain chain s = record s { free = chain ++ s.free }

-- what page 0 says then
abbrev pub with_given : ℕ → ℕ → SpacePage → SpacePage
with_given first count n = record n { free_head = first; free_count = n.free_count + count }

-- the same header with another link
abbrev pub linked_to : ℕ → Header → Header
linked_to next h = record h { next = next }

-- the page has another link and is otherwise the same
pub record IsRelinked (next : ℕ) (old new : List ℕ) : Type 0 where
  pub header : header_of new ≡ linked_to next (header_of old)
  pub rest : (place : ℕ) → header_size ≤ place → image_of new place ≡ image_of old place
