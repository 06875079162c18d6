-- Chains of frames by page number: the pages by frame, and where each chain begins and goes on. A chain's frames fall.
use Rattle.std.specs.Prelude.{ℕ, ◌≡◌, ◌≢◌, ◌<◌, ◌==◌, ◌%◌, Bool, true, false, Option, Some, None, List, length, slice_index_or, slice_set}
use Rattle.isp_base.specs.declared.page_no.PageNo.{PageNo}

-- the page of a frame
abbrev pub page_of_frame : List (Option PageNo) → ℕ → Option PageNo
page_of_frame pages i = slice_index_or pages i None

-- the page's number falls into that chain of so many
abbrev pub falls : ℕ → ℕ → Option PageNo → Bool
falls chains chain None = false
falls chains chain (Some p) = (p.0 % chains) == chain

-- the frame has a page of the chain, of so many chains
abbrev pub in_chain : ℕ → List (Option PageNo) → ℕ → ℕ → Bool
in_chain chains pages chain i = falls chains chain (page_of_frame pages i)

-- the frame has a page of that page's chain, where there are as many chains as frames
abbrev pub in_its_chain : List (Option PageNo) → PageNo → ℕ → Bool
in_its_chain pages p = in_chain (length pages) pages (p.0 % length pages)

-- the last number below a bound that passes a test
abbrev pub IsLast : (ℕ → Bool) → ℕ → Option ℕ → Type 0
IsLast test bound None = (j : ℕ) → j < bound → test j ≡ false
IsLast test bound (Some i) = (i < bound) × (test i ≡ true) × ((j : ℕ) → i < j → j < bound → test j ≡ false)

-- the first number above another that passes a test, of those below a bound
abbrev pub IsAbove : (ℕ → Bool) → ℕ → ℕ → Option ℕ → Type 0
IsAbove test low bound None = (j : ℕ) → low < j → j < bound → test j ≡ false
IsAbove test low bound (Some i) = (low < i) × (i < bound) × (test i ≡ true) × ((j : ℕ) → low < j → j < i → test j ≡ false)

-- each frame with a page leads to the last one before it of the same chain; there are as many chains as frames
pub record AreLinked (chains : ℕ) (pages : List (Option PageNo)) (next : List (Option ℕ)) : Type 0 where
  pub count : length pages ≡ chains
  pub long : length next ≡ chains
  pub links : (i : ℕ) (p : PageNo) → page_of_frame pages i ≡ Some p → IsLast (in_chain chains pages (p.0 % chains)) i (slice_index_or next i None)

-- each chain begins with its last frame
pub record AreHeads (chains : ℕ) (pages : List (Option PageNo)) (heads : List (Option ℕ)) : Type 0 where
  pub long : length heads ≡ chains
  pub starts : (chain : ℕ) → chain < chains → IsLast (in_chain chains pages chain) chains (slice_index_or heads chain None)

pub record IsChained (chains : ℕ) (pages : List (Option PageNo)) (heads next : List (Option ℕ)) : Type 0 where
  pub some : 0 < chains
  pub begun : AreHeads chains pages heads
  pub linked : AreLinked chains pages next

-- a frame that has the page, or that none has it
abbrev pub IsFound : List (Option PageNo) → PageNo → Option ℕ → Type 0
IsFound pages p None = (j : ℕ) → page_of_frame pages j ≢ Some p
IsFound pages p (Some i) = page_of_frame pages i ≡ Some p

-- on a walk along the page's chain: the page stands here or further on, if anywhere
abbrev pub IsPassed : List (Option PageNo) → PageNo → Option ℕ → Type 0
IsPassed pages p None = (j : ℕ) → page_of_frame pages j ≢ Some p
IsPassed pages p (Some i) =
    (i < length pages) × (in_chain (length pages) pages (p.0 % length pages) i ≡ true) × ((j : ℕ) → i < j → page_of_frame pages j ≢ Some p)

-- what stands behind a frame of a chain, or first in it
abbrev pub follower : List (Option ℕ) → List (Option ℕ) → ℕ → Option ℕ → Option ℕ
follower heads next chain None = slice_index_or heads chain None
follower heads next chain (Some i) = slice_index_or next i None

-- the starts and the links after a frame of a chain, or the chain itself, was made to lead elsewhere
abbrev pub start_with : List (Option ℕ) → ℕ → Option ℕ → Option ℕ → List (Option ℕ)
start_with heads chain None to = slice_set heads chain to
start_with heads chain (Some i) to = heads

abbrev pub links_with : List (Option ℕ) → Option ℕ → Option ℕ → List (Option ℕ)
links_with next None to = next
links_with next (Some i) to = slice_set next i to

-- a frame, where there is one, is one of so many
abbrev pub IsWithin : Option ℕ → ℕ → Type 0
IsWithin None n = Unit {0}
IsWithin (Some i) n = i < n
