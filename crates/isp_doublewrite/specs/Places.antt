-- Which places of the file the calls write.
use Rattle.std.specs.Prelude.{ℕ, ◌*◌, List, [], ◌∷◌}
use Rattle.isp_disk.specs.Moments.{Region, either, in_range, no_place}
use Rattle.isp_format.specs.Doublewrite.{copies_place, count_place, doublewrite_gate, list_size, most_copies, page_place}
use Rattle.isp_format.specs.Ranges.{page_bytes}

-- the count, the list and the copies
abbrev pub staged_places : Region
staged_places = either (in_range count_place list_size) (in_range copies_place (most_copies * page_bytes))

abbrev pub gate_place : Region
gate_place = in_range doublewrite_gate 1

-- the pages of these numbers
abbrev pub page_places : List ℕ → Region
page_places [] = no_place
page_places (number ∷ numbers) = either (in_range (page_place number) page_bytes) (page_places numbers)

-- all that a batch of these pages writes
abbrev pub batch_places : List ℕ → Region
batch_places numbers = either staged_places (either gate_place (page_places numbers))
