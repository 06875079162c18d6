-- The redo log: batches of mini-transactions, each behind a gate byte. A batch counts where its gate is 1; the first other
-- gate ends the log. A mini-transaction is the list of the ranges that it changed, one a page.
use Rattle.std.specs.Prelude.{◌≡◌, ◌≢◌, ℕ, ◌+◌, ◌<◌, ◌≤◌, List, [], ◌∷◌, ◌++◌, All, length}
use Rattle.std.specs.List.{flat_map}
use Rattle.isp_disk.specs.Moments.{Image, slice}
use Rattle.isp_format.specs.Numbers.{bytes_of}
use Rattle.isp_format.specs.Ranges.{IsRange, Range}

-- where the log begins
abbrev pub log_place : ℕ
log_place = 266240

-- how many bytes it has
abbrev pub log_bytes : ℕ
log_bytes = 1048576

-- how many bytes of a batch stand before its body: its gate, and the body's length
abbrev pub batch_head : ℕ
batch_head = 5

-- how many bytes the number of a mini-transaction's ranges has
abbrev pub count_size : ℕ
count_size = 2

-- how many bytes of a range stand before its own: its page, its place there and its length
abbrev pub range_head : ℕ
range_head = 8

-- the log by itself, from place 0 on
abbrev pub log_of : Image → Image
log_of image place = image (log_place + place)

-- the ranges of a mini-transaction
abbrev pub Transaction : Type 0
Transaction = List Range

-- page, place in the page and length, and the bytes
abbrev pub range_bytes : Range → List ℕ
range_bytes range = bytes_of 4 range.page ++ (bytes_of 2 range.at ++ (bytes_of 2 (length range.bytes) ++ range.bytes))

-- how many ranges, and the ranges
abbrev pub transaction_bytes : Transaction → List ℕ
transaction_bytes ranges = bytes_of 2 (length ranges) ++ flat_map range_bytes ranges

abbrev pub IsTransaction : ℕ → Transaction → Type 0
IsTransaction pages ranges = (length ranges < 65536) × All (IsRange pages) ranges

-- a body: the bytes of one mini-transaction or more
pub record IsBody (pages : ℕ) (transactions : List Transaction) (body : List ℕ) : Type 0 where
  pub bytes : body ≡ flat_map transaction_bytes transactions
  pub some : 1 ≤ length transactions
  pub each : All (IsTransaction pages) transactions

-- An open batch at a place of the log: its gate is 1; its length, its body and the gate behind it lie in the log.
pub record IsBatch (pages : ℕ) (log : Image) (at : ℕ) (transactions : List Transaction) (next : ℕ) : Type 0 where
  pub body : List ℕ
  pub gate : log at ≡ 1
  pub size : slice log (at + 1) 4 ≡ bytes_of 4 (length body)
  pub stands : slice log (at + batch_head) (length body) ≡ body
  pub behind : next ≡ at + batch_head + length body
  pub inside : next < log_bytes
  pub means : IsBody pages transactions body

-- the open batches from a place on, and the place of the gate that ends them
abbrev pub IsLog : ℕ → Image → ℕ → List (List Transaction) → ℕ → Type 0
IsLog pages log at [] end = (log at ≢ 1) × (end ≡ at)
IsLog pages log at (batch ∷ batches) end = (next : ℕ) × IsBatch pages log at batch next × IsLog pages log next batches end
