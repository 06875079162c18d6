use Rattle.std.proofs.Common.{◌≡◌, ℕ, ◌*◌, ◌<◌, ◌≤◌, length}
use Rattle.isp_disk.specs.Moments.{image_of}
use Rattle.isp_format.specs.Empty.{empty_contents}
use Rattle.isp_format.specs.Ranges.{page_bytes}
use Rattle.isp_page.proofs.mem_pages.empty_bytes.Given as goal

abbrev pub invariant-loop-page : goal.invariant-loop-page
invariant-loop-page l = record {
  size : length l.bytes.items ≡ l.pages * page_bytes;
  before : (place : ℕ) → place < l.page * page_bytes → image_of l.bytes.items place ≡ empty_contents place;
  behind : (place : ℕ) → l.page * page_bytes ≤ place → image_of l.bytes.items place ≡ 0;
}
