-- The pages of an image, where no copy counts, and what it stands for then.
use Rattle.std.proofs.Common.{◌≡◌, ◌≢◌, ℕ, ◌+◌, ◌*◌, List, [], ◌∷◌, ◌++◌, sym, ◌∙◌, ap, arith}
use Rattle.std.proofs.lemmas.Grind.{flat_map-append}
use Rattle.std.proofs.lemmas.List.{append-nil}
use Rattle.isp_disk.specs.Moments.{Image, slice}
use Rattle.isp_format.specs.Contents.{StandsFor, ranges_of}
use Rattle.isp_format.specs.Control.{IsControl, pages_in}
use Rattle.isp_format.specs.Doublewrite.{area, area_place, doublewrite_gate, laid}
use Rattle.isp_format.specs.Log.{IsLog, Transaction, log_of}
use Rattle.isp_format.specs.Ranges.{Range, page_bytes, page_of, puts}
use Rattle.isp_format.proofs.Local.{copies_closed}
use Rattle.isp_format.proofs.Slices.{slice_moved}

-- a page as it stands in its place
pub page_placed : (image : Image) (page at : ℕ) → at ≡ page * page_bytes + area_place → slice image at page_bytes ≡ page_of (area image) page
unfolding page_of
page_placed image page at is = slice_moved image (area image) at (page * page_bytes) page_bytes
    (λ k small. let place : at + k ≡ area_place + (page * page_bytes + k) = omega (arith, is) in ap image place)

-- where no copy counts, the pages are as they stand
pub laid_closed : (image : Image) → image doublewrite_gate ≢ 1 → laid image ≡ area image
laid_closed image isnt = ap (λ (copies : List Range). puts copies (area image)) (copies_closed image isnt)

-- where no copy counts, an image with a control block and a log stands for its pages with the ranges of the log put into them
abbrev pub stands_closed : (image : Image) (batches : List (List Transaction)) (end : ℕ) → IsControl image → image doublewrite_gate ≢ 1 → IsLog (pages_in image) (log_of image) 0 batches end → StandsFor image (puts (ranges_of batches) (area image))
stands_closed image batches end control isnt log = record {
  control = control;
  copies = λ is. absurd (isnt is);
  batches = batches;
  end = end;
  log = log;
  contents_are = ap (puts (ranges_of batches)) (sym (laid_closed image isnt));
}

-- the ranges of a log with one mini-transaction more
pub ranges_more : (batches : List (List Transaction)) (ranges : Transaction) → ranges_of (batches ++ (ranges ∷ []) ∷ []) ≡ ranges_of batches ++ ranges
ranges_more batches ranges =
    flat_map-append _ batches ((ranges ∷ []) ∷ []) ∙ ap (λ (rest : List Range). ranges_of batches ++ rest) (append-nil (ranges ++ []) ∙ append-nil ranges)
