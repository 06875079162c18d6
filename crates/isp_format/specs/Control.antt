-- The control block at the front of the file: its name, how many pages it has, how many entries a page of an R-tree has at
-- most, and the made-gate, which is 1 once the file was made whole.
use Rattle.std.specs.Prelude.{◌≡◌, ℕ, ◌≤◌, List, ◌++◌, codes, replicate}
use Rattle.isp_disk.specs.Moments.{Image, slice}
use Rattle.isp_format.specs.Numbers.{bytes_of, number_at}

unfoldable pub file_name : List ℕ
file_name = codes "ISPFILE1"

-- how many bytes the control block has, and how many its name
abbrev pub control_size : ℕ
control_size = 64

abbrev pub file_name_size : ℕ
file_name_size = 8

abbrev pub pages_place : ℕ
pages_place = 8

abbrev pub fanout_place : ℕ
fanout_place = 12

-- the last byte of the control block
abbrev pub made_gate : ℕ
made_gate = 63

-- how many pages the file has
abbrev pub pages_in : Image → ℕ
pages_in image = number_at 4 image pages_place

-- the fan-out of its R-trees
abbrev pub fanout_in : Image → ℕ
fanout_in image = number_at 4 image fanout_place

abbrev pub least_pages : ℕ
least_pages = 64

abbrev pub most_pages : ℕ
most_pages = 65536

abbrev pub IsPages : ℕ → Type 0
IsPages n = (least_pages ≤ n) × (n ≤ most_pages)

abbrev pub least_fanout : ℕ
least_fanout = 4

abbrev pub most_fanout : ℕ
most_fanout = 120

abbrev pub IsFanout : ℕ → Type 0
IsFanout m = (least_fanout ≤ m) × (m ≤ most_fanout)

-- how many bytes before the made-gate are free
abbrev pub control_free : ℕ
control_free = 47

-- the control block before its made-gate
abbrev pub control_bytes : ℕ → ℕ → List ℕ
control_bytes pages fanout = file_name ++ (bytes_of 4 pages ++ (bytes_of 4 fanout ++ replicate control_free 0))

-- the first page rule: the control block is one of this version, and the file was made whole
pub record IsControl (image : Image) : Type 0 where
  pub name : slice image 0 file_name_size ≡ file_name
  pub made : image made_gate ≡ 1
  pub pages : IsPages (pages_in image)
  pub fanout : IsFanout (fanout_in image)
