-- The control block, as the code has its numbers.
use Rattle.std.specs.Prelude.{◌≡◌, Option, Some, None}
use Rattle.isp_disk.specs.Moments.{Image, slice}
use Rattle.isp_format.specs.Control.{IsControl, IsFanout, IsPages, fanout_in, file_name, file_name_size, made_gate, pages_in}
use Rattle.isp_format.specs.declared.control.Control.{Control}

-- the file has its name, and was made whole
abbrev pub IsMade : Image → Type 0
IsMade image = (slice image 0 file_name_size ≡ file_name) × (image made_gate ≡ 1)

-- the numbers may stand in a control block
abbrev pub IsPossible : Control → Type 0
IsPossible control = IsPages control.pages × IsFanout control.fanout

-- the numbers of the control block, or none where it breaks the first rule
abbrev pub FindsControl : Image → Option Control → Type 0
FindsControl image (Some control) = IsControl image × (pages_in image ≡ control.pages) × (fanout_in image ≡ control.fanout)
FindsControl image None = IsControl image → ⊥
