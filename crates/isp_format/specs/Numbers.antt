-- Numbers in an image. All are stored with their highest byte first.
use Rattle.std.specs.Prelude.{ℕ, List}
use Rattle.byteorder.specs.Endian.{big_bytes, big_number}
use Rattle.isp_disk.specs.Moments.{Image, slice}

-- the number in so many bytes from a place on
abbrev pub number_at : ℕ → Image → ℕ → ℕ
number_at size image at = big_number size (slice image at size)

-- the bytes of a number
abbrev pub bytes_of : ℕ → ℕ → List ℕ
bytes_of size number = big_bytes size number
