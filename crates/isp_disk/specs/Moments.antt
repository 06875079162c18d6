-- What a disk holds, and what a stop may leave of it. An image has a byte at every place, and 0 past the end of what was
-- written, so that two images are compared by place and never by length. What was written since the last good sync may
-- hold anything after a stop, and every other byte is as read. That a call says something of each moment within it is
-- the crash condition of crash Hoare logic (Chen and others 2015). That a moment is a pair of an image and of what was
-- printed by then, and the clock that tells earlier moments from later ones, are this project's own.
use Rattle.std.specs.Prelude.{◌≡◌, ◌⊎◌, ℕ, zero, suc, ◌+◌, ◌-◌, ◌≤◌, Bool, false, ◌&&◌, ◌||◌, if◌then◌else◌, nat_lt, nat_le, List, [], ◌∷◌, length, slice_index}
use Rattle.isp_disk.specs.Outside.{PrintsPart}

-- a byte at every place
abbrev pub Image : Type 0
Image = ℕ → ℕ

-- some of the places
abbrev pub Region : Type 0
Region = ℕ → Bool

abbrev pub no_place : Region
no_place place = false

abbrev pub in_range : ℕ → ℕ → Region
in_range at size place = nat_le at place && nat_lt place (at + size)

abbrev pub either : Region → Region → Region
either first second place = first place || second place

-- no place of the first is out of the second
abbrev pub Within : Region → Region → Type 0
Within inner outer = (place : ℕ) → outer place ≡ false → inner place ≡ false

-- these bytes, and 0 past their end
abbrev pub image_of : List ℕ → Image
image_of bytes place = slice_index bytes place

-- the image with these bytes at this offset
abbrev pub put : Image → ℕ → List ℕ → Image
put image at bytes place = if in_range at (length bytes) place then slice_index bytes (place - at) else image place

-- so many bytes from this offset on
abbrev pub slice : Image → ℕ → ℕ → List ℕ
slice image at zero = []
slice image at (suc size) = image at ∷ slice image (suc at) size

-- the two images differ at most in the region
abbrev pub Agree : Region → Image → Image → Type 0
Agree region old new = (place : ℕ) → region place ≡ false → old place ≡ new place

-- every stop leaves what a read gives
abbrev pub Quiet : Region → Type 0
Quiet pending = (place : ℕ) → pending place ≡ false

-- What a stop within a call may leave: anything where bytes were written since the last good sync, the range of the call
-- among them, all other bytes as they read before the call; and of what the call prints some bytes from the first on.
pub record During (image : Image) (pending range : Region) (printed piece : List ℕ) (left : Image) (told : List ℕ) : Type 0 where
  pub agree : Agree (either pending range) image left
  pub part : PrintsPart printed piece told

-- Time goes on: what was left since t was left since t before the call, or is left by a stop within the call.
pub record Elapses (before now : ℕ) (past since : ℕ → Image → List ℕ → Type 0) (during : Image → List ℕ → Type 0) : Type 0 where
  pub later : before ≤ now
  pub nothing_else : (t : ℕ) (left : Image) (told : List ℕ) → t ≤ before → since t left told → past t left told ⊎ during left told
  pub keeps : (t : ℕ) (left : Image) (told : List ℕ) → t ≤ before → past t left told → since t left told

-- Each stop since old leaves an image and printed bytes that have P.
pub record LeavesOnly {W : Type 0} (clock : W → ℕ) (left_since : W → ℕ → Image → List ℕ → Type 0) (old new : W) (P : Image → List ℕ → Type 0) : Type 0 where
  pub later : clock old ≤ clock new
  pub each : (left : Image) (told : List ℕ) → left_since new (clock old) left told → P left told
  -- for a run that began earlier
  pub before : (t : ℕ) (left : Image) (told : List ℕ) → t ≤ clock old → left_since new t left told → left_since old t left told ⊎ P left told

-- A call of `write`: it changes bytes of its range alone, which may hold anything from now on until a good sync, failed or not.
pub record Touches (image : Image) (pending : Region) (at size : ℕ) (image_now : Image) (pending_now : Region) : Type 0 where
  pub others : Agree (in_range at size) image image_now
  pub no_more : Within pending_now (either pending (in_range at size))

-- a call that writes nothing
pub record Keeps (image : Image) (pending : Region) (image_now : Image) (pending_now : Region) : Type 0 where
  pub same : image_now ≡ image
  pub no_more : Within pending_now pending
