-- What three writes behind a gate leave: a length, a body, and the next gate.
use Rattle.std.proofs.Common.{◌≡◌, ℕ, ◌+◌, List, [], ◌∷◌, length, ◌∙◌, ap, sym, arith}
use Rattle.isp_disk.specs.Moments.{Image, put, slice}
use Rattle.isp_format.specs.Numbers.{bytes_of}
use Rattle.isp_format.proofs.Offsets.{put_first}
use Rattle.isp_format.proofs.Slices.{put_below, slice_moved, slice_put}
use Rattle.isp_redo.specs.Changes.{HasBody}

module _ (image : Image) (at : ℕ) (size body : List ℕ) (long : length size ≡ 4) where
  abbrev laid : Image
  laid = put (put (put image (at + 1) size) (at + 5) body) (at + 5 + length body) (0 ∷ [])

  laid_gate : laid (at + 5 + length body) ≡ 0
  laid_gate = put_first (put (put image (at + 1) size) (at + 5) body) (at + 5 + length body) 0 []

  laid_body : slice laid (at + 5) (length body) ≡ body
  laid_body =
      slice_moved laid (put (put image (at + 1) size) (at + 5) body) (at + 5) (at + 5) (length body) (λ k below. put_below (put (put image (at + 1) size) (at + 5) body) (at + 5 + length body) (0 ∷ []) (at + 5 + k) (omega (arith, below)))
      ∙ slice_put (put image (at + 1) size) (at + 5) body

  laid_size : slice laid (at + 1) (length size) ≡ size
  laid_size =
      slice_moved laid (put image (at + 1) size) (at + 1) (at + 1) (length size) (λ k below.
      put_below (put (put image (at + 1) size) (at + 5) body) (at + 5 + length body) (0 ∷ []) (at + 1 + k) (omega (arith, below, long))
      ∙ put_below (put image (at + 1) size) (at + 5) body (at + 1 + k) (omega (arith, below, long)))
      ∙ slice_put image (at + 1) size

  -- they are a body behind the gate
  pub laid_has : size ≡ bytes_of 4 (length body) → HasBody laid at body
  laid_has is = record {
    size = ap (slice laid (at + 1)) (sym long) ∙ laid_size ∙ is;
    stands = laid_body;
    gate = laid_gate;
  }
