-- The control block before its made-gate, as it is put together.
use borrow.Rule.Slice.PartMut.{put_mid}
use Rattle.std.proofs.Common.{◌≡◌, ℕ, List, ◌++◌, length, replicate, refl}
use Rattle.isp_format.specs.Control.{control_bytes, file_name, made_gate}
use Rattle.isp_format.specs.Numbers.{bytes_of}

pub control_long : (pages fanout : ℕ) → length (control_bytes pages fanout) ≡ made_gate
unfolding file_name
control_long pages fanout = refl

-- the control block as it is put together
pub control_made : (name many wide : List ℕ) (pages fanout : ℕ) → name ≡ file_name → many ≡ bytes_of 4 pages → wide ≡ bytes_of 4 fanout → put_mid 12 4 (put_mid 8 4 (name ++ replicate 55 0) many) wide ≡ control_bytes pages fanout
unfolding file_name
control_made name many wide pages fanout is_name is_many is_wide = λ i. put_mid 12 4 (put_mid 8 4 (is_name i ++ replicate 55 0) (is_many i)) (is_wide i)
