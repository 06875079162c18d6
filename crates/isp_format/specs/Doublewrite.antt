-- The page area, and the doublewrite area before it: copies of pages, which count while its gate is 1 (the MySQL 8.0 manual
-- on the doublewrite buffer; the gate is this project's own).
use Rattle.std.specs.Prelude.{◌≡◌, ℕ, zero, suc, ◌+◌, ◌*◌, ◌<◌, ◌≤◌, ◌==◌, List, [], ◌∷◌, All, map, min, if◌then◌else◌}
use Rattle.isp_disk.specs.Moments.{Image, slice}
use Rattle.isp_format.specs.Numbers.{number_at}
use Rattle.isp_format.specs.Ranges.{Contents, Range, page_bytes, puts}

abbrev pub doublewrite_gate : ℕ
doublewrite_gate = 512

abbrev pub count_place : ℕ
count_place = 1024

abbrev pub list_place : ℕ
list_place = 1028

-- how many bytes the count and the list have
abbrev pub list_size : ℕ
list_size = 260

abbrev pub copies_place : ℕ
copies_place = 4096

abbrev pub most_copies : ℕ
most_copies = 64

-- where the page area begins
abbrev pub area_place : ℕ
area_place = 1314816

-- where a page lies
abbrev pub page_place : ℕ → ℕ
page_place page = area_place + page * page_bytes

-- the pages as they stand in their places
abbrev pub area : Image → Contents
area image place = image (area_place + place)

abbrev pub copy_count : Image → ℕ
copy_count image = number_at 4 image count_place

-- the copy at a place of the list: a page, whole
abbrev pub copy_at : Image → ℕ → Range
copy_at image k = record { page = number_at 4 image (list_place + 4 * k); at = 0; bytes = slice image (copies_place + page_bytes * k) page_bytes }

-- so many copies from the k-th on
abbrev pub copies_from : Image → ℕ → ℕ → List Range
copies_from image k zero = []
copies_from image k (suc count) = copy_at image k ∷ copies_from image (suc k) count

-- the copies that count
abbrev pub copies : Image → List Range
copies image = if image doublewrite_gate == 1 then copies_from image 0 (min (copy_count image) most_copies) else []

-- the page area with the copies laid over it
abbrev pub laid : Image → Contents
laid image = puts (copies image) (area image)

-- no number stands twice
abbrev pub AreDistinct : List ℕ → Type 0
AreDistinct [] = Unit {0}
AreDistinct (n ∷ numbers) = All (λ other. (n ≡ other) → ⊥) numbers × AreDistinct numbers

-- a list of copies: 1 to 64 pages of the file, each once
pub record IsCopyList (pages count : ℕ) (numbers : List ℕ) : Type 0 where
  pub some : 1 ≤ count
  pub most : count ≤ most_copies
  pub below : All (λ page. page < pages) numbers
  pub distinct : AreDistinct numbers

-- the second page rule: where the gate is 1, the list of the copies is one
abbrev pub HasCopies : ℕ → Image → Type 0
HasCopies pages image = image doublewrite_gate ≡ 1 → IsCopyList pages (copy_count image) (map (λ copy. copy.page) (copies image))
