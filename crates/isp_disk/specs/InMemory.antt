-- The fakes in memory: what they hold between two calls, and what each call makes of it. This project's own.
use Rattle.std.specs.Prelude.{◌≡◌, ◌⊎◌, ℕ, zero, suc, ◌+◌, ◌-◌, ◌==◌, Bool, not, ◌&&◌, ◌||◌, if◌then◌else◌, nat_lt, nat_le, min, List, [], ◌∷◌, ◌++◌, length, take, drop, replicate, fold}
use Rattle.std.specs.List.{list_any}
use Rattle.isp_disk.specs.Moments.{Image, Region, Agree, During, Elapses, Keeps, either, image_of, in_range, no_place, put}
use Rattle.isp_disk.specs.Outside.{last_count}

-- a count of faults after one more
abbrev pub counted : ℕ → ℕ
counted faults = min (faults + 1) last_count

-- whether the call behind so many others is one of those that are to fail, numbered from 1
abbrev pub is_listed : List ℕ → ℕ → Bool
is_listed failing made = list_any (λ number. number == made + 1) failing

-- a numbered call of a world in memory, and whether it came about
pub data Event : Type 0 where
  read : Bool → Event
  wrote : ℕ → List ℕ → Bool → Event
  synced : Bool → Event
  printed : List ℕ → Bool → Event

-- where a call writes
abbrev pub range_of : Event → Region
range_of (wrote at bytes ok) = in_range at (length bytes)
range_of (read ok) = no_place
range_of (synced ok) = no_place
range_of (printed bytes ok) = no_place

-- what a call prints
abbrev pub piece_of : Event → List ℕ
piece_of (printed bytes ok) = bytes
piece_of (read ok) = []
piece_of (wrote at bytes ok) = []
piece_of (synced ok) = []

-- the disk and the printed bytes between two calls
pub record Held : Type 0 where
  pub image : Image
  -- written since the last good sync
  pub pending : Region
  pub printed : List ℕ

abbrev pub held_first : List ℕ → Held
held_first bytes = record { image = image_of bytes; pending = no_place; printed = [] }

-- A failed write changes no byte and a failed print prints nothing.
abbrev pub after_event : Held → Event → Held
after_event held (read ok) = held
after_event held (wrote at bytes ok) = record held { image = if ok then put held.image at bytes else held.image; pending = either held.pending (in_range at (length bytes)) }
after_event held (synced ok) = record held { pending = if ok then no_place else held.pending }
after_event held (printed bytes ok) = record held { printed = if ok then held.printed ++ bytes else held.printed }

-- what a stop between two calls may leave
pub record LeftNow (held : Held) (left : Image) (told : List ℕ) : Type 0 where
  pub agree : Agree held.pending held.image left
  pub printed : told ≡ held.printed

-- what a stop within a call may leave
abbrev pub LeftDuring : Held → Event → Image → List ℕ → Type 0
LeftDuring held event = During held.image held.pending (range_of event) held.printed (piece_of event)

-- what a stop might have left since so many of the calls were made
abbrev pub LeftSince : Held → List Event → ℕ → Image → List ℕ → Type 0
LeftSince held [] t left told = LeftNow held left told
LeftSince held (event ∷ events) zero left told = LeftDuring held event left told ⊎ LeftSince (after_event held event) events zero left told
LeftSince held (event ∷ events) (suc t) left told = LeftSince (after_event held event) events t left told

-- the numbered calls of a world, the first of them first, and the memory that is left for more
pub record LogState : Type 0 where
  pub calls : List Event
  -- for how many calls memory was taken
  pub most : ℕ
  -- for how many bytes memory is left
  pub room : ℕ

-- whether the memory is spent for a call that keeps so many bytes
abbrev pub is_spent : LogState → ℕ → Bool
is_spent log size = nat_le log.most (length log.calls) || nat_lt log.room size

-- with one more call, which takes so many bytes of room
abbrev pub with_call : LogState → Event → ℕ → LogState
with_call log event size = record log { calls = log.calls ++ event ∷ []; room = log.room - size }

-- a world in memory
pub record WorldState : Type 0 where
  -- the bytes of the disk as the world began
  pub first : List ℕ
  pub log : LogState
  -- the numbers of the calls that fail
  pub failing : List ℕ
  pub disk_faults : ℕ
  pub print_faults : ℕ

-- the bytes, and zeros up to the size
abbrev pub new_world : ℕ → List ℕ → List ℕ → ℕ → ℕ → WorldState
new_world size bytes failing most room = record {
  first = bytes ++ replicate (size - length bytes) 0;
  log = record { calls = []; most = most; room = room };
  failing = failing;
  disk_faults = 0;
  print_faults = 0;
}

-- what a world that began with these bytes holds after these calls
abbrev pub held_after : List ℕ → List Event → Held
held_after first calls = fold after_event (held_first first) calls

abbrev pub held_now : WorldState → Held
held_now world = held_after world.first world.log.calls

-- a call leaves the disk, and adds no place to what is pending
abbrev pub KeepsDisk : WorldState → WorldState → Type 0
KeepsDisk old new = Keeps (held_now old).image (held_now old).pending (held_now new).image (held_now new).pending

-- time goes on by a call that writes in this range and prints this piece
abbrev pub Passes : WorldState → WorldState → Region → List ℕ → Type 0
Passes old new range piece = Elapses (length old.log.calls) (length new.log.calls) (LeftSince (held_first old.first) old.log.calls) (LeftSince (held_first new.first) new.log.calls) (During (held_now old).image (held_now old).pending range (held_now old).printed piece)

-- whether the next number stands in the list of calls that fail
abbrev pub is_to_fail : WorldState → Bool
is_to_fail world = is_listed world.failing (length world.log.calls)

-- A call that finds the memory spent has no number and is not kept. Any other is, failed or not.
abbrev pub called : Bool → Event → ℕ → WorldState → WorldState
called spent event size world = if spent then world else record world { log = with_call world.log event size }

-- after a call of the disk, which comes about where memory is left and it is good
abbrev pub after_disk : Bool → Bool → Event → ℕ → WorldState → WorldState
after_disk spent good event size world = record (called spent event size world) { disk_faults = if not spent && good then world.disk_faults else counted world.disk_faults }

-- whether a write is neither to fail nor ends past the size of the disk
abbrev pub is_written : WorldState → ℕ → ℕ → Bool
is_written world at size = nat_le (at + size) (length world.first) && not (is_to_fail world)

abbrev pub after_read : WorldState → WorldState
after_read world = let good = not (is_to_fail world) in after_disk (is_spent world.log 0) good (read good) 0 world

abbrev pub after_write : WorldState → ℕ → List ℕ → WorldState
after_write world at bytes = let good = is_written world at (length bytes) in after_disk (is_spent world.log (length bytes)) good (wrote at bytes good) (length bytes) world

abbrev pub after_sync : WorldState → WorldState
after_sync world = let good = not (is_to_fail world) in after_disk (is_spent world.log 0) good (synced good) 0 world

-- after a print, whose failure the other count has
abbrev pub after_printer : Bool → Bool → Event → ℕ → WorldState → WorldState
after_printer spent good event size world = record (called spent event size world) { print_faults = if not spent && good then world.print_faults else counted world.print_faults }

abbrev pub after_print : WorldState → List ℕ → WorldState
after_print world bytes = let good = not (is_to_fail world) in after_printer (is_spent world.log (length bytes)) good (printed bytes good) (length bytes) world

-- a source in memory
pub record SourceState : Type 0 where
  -- the bytes that were not given yet
  pub left : List ℕ
  -- the numbers of the calls that fail
  pub failing : List ℕ
  -- how many calls were made, as far as a u64 counts
  pub made : ℕ
  pub faults : ℕ

abbrev pub new_source : List ℕ → List ℕ → SourceState
new_source bytes failing = record { left = bytes; failing = failing; made = 0; faults = 0 }

-- whether the next call fails; behind the last number of a u64 none does
abbrev pub is_failing : List ℕ → ℕ → Bool
is_failing failing made = nat_lt made last_count && is_listed failing made

-- after a call that asks for so many bytes
abbrev pub after_next : SourceState → ℕ → SourceState
after_next source size =
    if is_failing source.failing source.made then record source { made = min (source.made + 1) last_count; faults = counted source.faults }
    else record source { left = drop size source.left; made = min (source.made + 1) last_count }

-- the piece after such a call: the next bytes, and behind them what stood there
abbrev pub filled : SourceState → List ℕ → List ℕ
filled source piece =
    if is_failing source.failing source.made then piece
    else take (length piece) source.left ++ drop (length source.left) piece
