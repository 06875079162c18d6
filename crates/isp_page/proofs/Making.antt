-- The pages of an empty file are made page by page.
use Rattle.std.proofs.Common.{◌≡◌, ℕ, ◌+◌, ◌*◌, ◌<◌, ◌≤◌, List, length, sym, ◌∙◌, ap, arith}
use Rattle.isp_disk.specs.Moments.{Image, image_of, put}
use Rattle.isp_format.specs.Empty.{empty_contents}
use Rattle.isp_format.specs.Ranges.{page_bytes}
use Rattle.isp_format.proofs.EmptyPages.{page_more_from}
use Rattle.isp_format.proofs.Slices.{put_above}

module _ (now : Image) (k : ℕ) (bytes : List ℕ) (long : length bytes ≡ page_bytes) where
  -- one page more stands before
  pub first_more : ((place : ℕ) → place < k * page_bytes → now place ≡ empty_contents place) → ((place : ℕ) → place < page_bytes → image_of bytes place ≡ empty_contents (k * page_bytes + place)) → (place : ℕ) → place < (k + 1) * page_bytes → put now (k * page_bytes) bytes place ≡ empty_contents place
  first_more so_far here place low =
      let start : k * page_bytes ≡ 0 + k * page_bytes = omega arith in
      let moved : (p : ℕ) → 0 + p ≡ p = λ p. omega arith in
      (λ i. put now (start i) bytes (sym (moved place) i))
      ∙ page_more_from 0 now k bytes long (λ p less. ap now (moved p) ∙ so_far p less) here place low

  -- and nothing behind it
  pub none_behind : ((place : ℕ) → k * page_bytes ≤ place → now place ≡ 0) → (place : ℕ) → (k + 1) * page_bytes ≤ place → put now (k * page_bytes) bytes place ≡ 0
  none_behind so_far place behind =
      put_above now (k * page_bytes) bytes place (omega (arith, long, behind)) ∙ so_far place (omega (arith, behind))
