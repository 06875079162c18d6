-- The layouts of pages on a small file, by computation: one table `p` with a key and an indexed geometry, and the point (0, 0)
-- under key 1.
use Rattle.std.proofs.Common.{◌≡◌, true, false, [], ◌∷◌, refl}
use Rattle.std.specs.Prelude.{pos, negsuc}
use Rattle.isp_format.specs.Leaf.{stored_bytes}
use Rattle.isp_format.specs.Space.{space_bytes}
use Rattle.isp_format.specs.Inner.{name_bytes}
use Rattle.isp_format.specs.Undo.{image_bytes}

space_spelled : space_bytes (record { free_head = 0; free_count = 0; fresh = 17; tables = 1; entries = 0; bytes = 160 })
    ≡ 0 ∷ 0 ∷ 0 ∷ 0 ∷ 0 ∷ 0 ∷ 0 ∷ 0 ∷ 0 ∷ 0 ∷ 0 ∷ 17 ∷ 0 ∷ 0 ∷ 0 ∷ 1 ∷ 0 ∷ 0 ∷ 0 ∷ 0 ∷ 0 ∷ 0 ∷ 0 ∷ 0 ∷ 0 ∷ 0 ∷ 0 ∷ 0 ∷ 0 ∷ 0 ∷ 0 ∷ 160 ∷ []
space_spelled = refl

-- a row of three bytes in a slot of four
row_spelled : stored_bytes (record { key = pos 1; marked = false; row = 7 ∷ 8 ∷ 9 ∷ []; rest = 5 ∷ [] })
    ≡ 0 ∷ 0 ∷ 0 ∷ 0 ∷ 0 ∷ 0 ∷ 0 ∷ 1 ∷ 0 ∷ 0 ∷ 4 ∷ 0 ∷ 3 ∷ 7 ∷ 8 ∷ 9 ∷ 5 ∷ []
row_spelled = refl

-- a mark, and a key below zero
marked_spelled : stored_bytes (record { key = negsuc 1; marked = true; row = []; rest = [] })
    ≡ 255 ∷ 255 ∷ 255 ∷ 255 ∷ 255 ∷ 255 ∷ 255 ∷ 254 ∷ 1 ∷ 0 ∷ 0 ∷ 0 ∷ 0 ∷ []
marked_spelled = refl

name_spelled : name_bytes (pos 4, 18) ≡ 0 ∷ 0 ∷ 0 ∷ 0 ∷ 0 ∷ 0 ∷ 0 ∷ 4 ∷ 0 ∷ 0 ∷ 0 ∷ 18 ∷ []
name_spelled = refl

image_spelled : image_bytes (record { table = 1; key = pos 5; kind = 1; row = 7 ∷ 8 ∷ [] })
    ≡ 0 ∷ 0 ∷ 0 ∷ 1 ∷ 0 ∷ 0 ∷ 0 ∷ 0 ∷ 0 ∷ 0 ∷ 0 ∷ 5 ∷ 1 ∷ 0 ∷ 2 ∷ 7 ∷ 8 ∷ 0 ∷ 19 ∷ []
image_spelled = refl
