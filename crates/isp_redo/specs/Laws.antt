-- What holds of every log.
use Rattle.std.specs.Prelude.{◌≡◌, ℕ, ◌≤◌, List}
use Rattle.isp_disk.specs.Moments.{Image}
use Rattle.isp_format.specs.Contents.{ranges_of}
use Rattle.isp_format.specs.Control.{most_pages}
use Rattle.isp_format.specs.Log.{IsLog, Transaction}
use Rattle.isp_redo.specs.Places.{IsAt, place_of}

-- a log has one list of batches and one end
abbrev pub OneLog : Type 0
OneLog = (pages : ℕ) (log : Image) (one other : List (List Transaction)) (end then_end : ℕ) → pages ≤ most_pages
    → IsLog pages log 0 one end → IsLog pages log 0 other then_end → (one ≡ other) × (end ≡ then_end)

-- at place 0 all of its ranges lie ahead
abbrev pub AllLieAhead : Type 0
AllLieAhead = (pages : ℕ) (log : Image) (batches : List (List Transaction)) (end : ℕ)
    → IsLog pages log 0 batches end → IsAt pages log (place_of 0) (ranges_of batches)
