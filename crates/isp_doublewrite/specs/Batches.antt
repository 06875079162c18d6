-- What a batch leaves.
use Rattle.std.specs.Prelude.{◌≡◌, ◌≢◌, ◌⊎◌, ℕ, ◌<◌, ◌≤◌, All, List, [], ◌∷◌, length}
use Rattle.isp_disk.specs.Moments.{Image, Agree}
use Rattle.isp_doublewrite.specs.Places.{batch_places}
use Rattle.isp_format.specs.Control.{pages_in}
use Rattle.isp_format.specs.Doublewrite.{AreDistinct, HasCopies, area, copies_from, copy_count, doublewrite_gate, laid, most_copies}
use Rattle.isp_format.specs.Ranges.{Range, page_bytes, puts}
use Rattle.isp_format.specs.declared.page.Page.{Page}
use Rattle.isp_base.specs.declared.page_no.PageNo.{PageNo}

abbrev pub number_of : PageNo × Page → ℕ
number_of entry = entry.0.0

-- the page as a range, whole
abbrev pub whole_page : PageNo × Page → Range
whole_page entry = record { page = entry.0.0; at = 0; bytes = entry.1.bytes }

-- each range is a page from its first byte to its last
abbrev pub AreWhole : List Range → Type 0
AreWhole [] = Unit {0}
AreWhole (range ∷ ranges) = (range.at ≡ 0) × (length range.bytes ≡ page_bytes) × AreWhole ranges

-- 1 to 64 pages, none of them twice
pub record FitsBatch (numbers : List ℕ) : Type 0 where
  pub some : 1 ≤ length numbers
  pub most : length numbers ≤ most_copies
  pub distinct : AreDistinct numbers

-- the file takes a batch of these pages: no copy counts, and all of them are pages of it
pub record TakesBatch (numbers : List ℕ) (image : Image) : Type 0 where
  pub closed : image doublewrite_gate ≢ 1
  pub below : All (λ page. page < pages_in image) numbers

-- the list and the copies are these pages
pub record IsStaged (count : ℕ) (ranges : List Range) (image : Image) : Type 0 where
  pub counted : copy_count image ≡ count
  pub listed : copies_from image 0 count ≡ ranges
  pub whole : AreWhole ranges

-- the pages stand in their places, over what stood there
pub record IsPlaced (ranges : List Range) (before now : Image) : Type 0 where
  pub placed : area now ≡ puts ranges (area before)

-- The batch stands in its places, no copy counts, and nothing else was changed.
pub record IsBatchDone (ranges : List Range) (numbers : List ℕ) (before now : Image) : Type 0 where
  pub gate : now doublewrite_gate ≡ 0
  pub placed : area now ≡ puts ranges (area before)
  pub others : Agree (batch_places numbers) before now

-- A stop leaves a list that keeps its rule, and with the copies laid over the pages none of the batch or all of it.
pub record BatchLeft (ranges : List Range) (numbers : List ℕ) (before : Image) (printed_before : List ℕ) (left : Image) (printed : List ℕ) : Type 0 where
  pub copies : HasCopies (pages_in before) left
  pub whole : (laid left ≡ area before) ⊎ (laid left ≡ puts ranges (area before))
  pub others : Agree (batch_places numbers) before left
  pub same : printed ≡ printed_before
