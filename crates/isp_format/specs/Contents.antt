-- What an image stands for: the contents of all pages, which are the page area with the copies laid over it and the ranges
-- of the log put into that, in their order. Only an image that keeps the first three page rules stands for contents.
use Rattle.std.specs.Prelude.{◌≡◌, ℕ, List, Option, Some, None}
use Rattle.std.specs.List.{flat_map}
use Rattle.isp_disk.specs.Moments.{Image}
use Rattle.isp_format.specs.Control.{IsControl, pages_in}
use Rattle.isp_format.specs.Doublewrite.{HasCopies, laid}
use Rattle.isp_format.specs.Log.{IsLog, Transaction, log_of}
use Rattle.isp_format.specs.Ranges.{Contents, Range, puts}

-- the ranges of batches, in their order
abbrev pub ranges_of : List (List Transaction) → List Range
ranges_of batches = flat_map (flat_map (λ ranges. ranges)) batches

-- the third page rule: the log can be read to its end
abbrev pub HasLog : ℕ → Image → Type 0
HasLog pages image = (batches : List (List Transaction)) × (end : ℕ) × IsLog pages (log_of image) 0 batches end

-- the image keeps the first three page rules, and these are the contents that it stands for
pub record StandsFor (image : Image) (contents : Contents) : Type 0 where
  pub control : IsControl image
  pub copies : HasCopies (pages_in image) image
  pub batches : List (List Transaction)
  pub end : ℕ
  pub log : IsLog (pages_in image) (log_of image) 0 batches end
  pub contents_are : contents ≡ puts (ranges_of batches) (laid image)

-- the contents that an image stands for, if it stands for any
abbrev pub IsContentsOf : Image → Option Contents → Type 0
IsContentsOf image (Some contents) = StandsFor image contents
IsContentsOf image None = (contents : Contents) → StandsFor image contents → ⊥
