use Rattle.std.proofs.Common.{◌≡◌, ℕ, ◌≤◌, ◌<◌, slice_index}
use Rattle.isp_format.specs.Ranges.{page_bytes}
use Rattle.isp_page.proofs.replacing.end_of_differences.Given as goal

abbrev pub invariant-loop-k : goal.invariant-loop-k
invariant-loop-k l = (j : ℕ) → l.k ≤ j → j < page_bytes → slice_index l.old.bytes j ≡ slice_index l.new.bytes j
