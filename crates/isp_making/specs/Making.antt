-- An empty file, and what a stop leaves while one is made.
use Rattle.std.specs.Prelude.{◌≡◌, ◌≢◌, ◌⊎◌, ℕ, ◌*◌, ◌<◌, [], ◌∷◌, ◌++◌}
use Rattle.isp_disk.specs.Moments.{Image, Region, Agree, LeavesOnly, slice}
use Rattle.isp_disk.specs.declared.world.World.{Ghosts}
use Rattle.isp_format.specs.Contents.{StandsFor}
use Rattle.isp_format.specs.Control.{IsControl, control_bytes, control_size, fanout_in, made_gate, pages_in}
use Rattle.isp_format.specs.Doublewrite.{area, doublewrite_gate}
use Rattle.isp_format.specs.Empty.{empty_contents, first_fresh}
use Rattle.isp_format.specs.Log.{log_of}
use Rattle.isp_format.specs.Ranges.{page_bytes}

-- A file without a copy that counts and without a batch in its log, whose first pages are those of an empty file.
pub record IsMade (pages fanout : ℕ) (image : Image) : Type 0 where
  pub control : IsControl image
  -- the control block byte by byte, with its gate
  pub block : slice image 0 control_size ≡ control_bytes pages fanout ++ 1 ∷ []
  pub pages_are : pages_in image ≡ pages
  pub fanout_is : fanout_in image ≡ fanout
  pub copies : image doublewrite_gate ≡ 0
  pub log : log_of image 0 ≡ 0
  pub first : (place : ℕ) → place < first_fresh * page_bytes → area image place ≡ empty_contents place
  pub stands : StandsFor image (area image)

-- Each stop since old leaves what stood there before but in this region, or no file (its made-gate is not 1), or the whole
-- one; and nothing printed.
abbrev pub LeavesMaking : {W : Type 0} → Ghosts W → ℕ → ℕ → Region → W → W → Type 0
LeavesMaking g pages fanout region old new = LeavesOnly g.clock g.left_since old new (λ left printed.
    (Agree region (g.image old) left ⊎ ((left made_gate ≢ 1) ⊎ IsMade pages fanout left)) × (printed ≡ g.printed old))
