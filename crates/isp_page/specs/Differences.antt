-- Where the bytes of a page differ from those that stood there.
use Rattle.std.specs.Prelude.{◌≡◌, ◌≢◌, ℕ, ◌-◌, ◌<◌, ◌≤◌, List, slice_index}
use Rattle.isp_format.specs.Ranges.{page_bytes}

-- they differ at the first and at the last place of the range, and at none before or behind it
pub record IsLeast (old new : List ℕ) (from to : ℕ) : Type 0 where
  pub order : from < to
  pub within : to ≤ page_bytes
  pub front : (k : ℕ) → k < from → slice_index old k ≡ slice_index new k
  pub end : (k : ℕ) → to ≤ k → k < page_bytes → slice_index old k ≡ slice_index new k
  pub first : slice_index old from ≢ slice_index new from
  pub last : slice_index old (to - 1) ≢ slice_index new (to - 1)
