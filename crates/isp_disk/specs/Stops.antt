-- The image of a stop within a call of a world in memory, as a test asks for it: of the bytes that were written since the
-- last good sync the first so many hold what was written, and the others hold a given byte.
use Rattle.std.specs.Prelude.{ℕ, zero, suc, ◌==◌, ◌<◌, Bool, true, false, if◌then◌else◌, nat_lt, List, [], ◌∷◌, ◌++◌, length, take, filter, fold, slice_index_or, slice_set}
use Rattle.std.specs.List.{list_any}
use Rattle.isp_disk.specs.Moments.{Image, slice, put}
use Rattle.isp_disk.specs.InMemory.{Event, read, wrote, synced, printed, held_after}

-- the call behind so many others
abbrev pub call_at : List Event → ℕ → Event
call_at calls made = slice_index_or calls made (read true)

abbrev pub is_write : Event → Bool
is_write (wrote at bytes ok) = true
is_write (read ok) = false
is_write (synced ok) = false
is_write (printed bytes ok) = false

abbrev pub is_good_sync : Event → Bool
is_good_sync (synced ok) = ok
is_good_sync (read ok) = false
is_good_sync (wrote at bytes ok) = false
is_good_sync (printed bytes ok) = false

-- bytes and the places where they are written
abbrev pub placed : ℕ → List ℕ → List (ℕ × ℕ)
placed at [] = []
placed at (byte ∷ bytes) = (at, byte) ∷ placed (suc at) bytes

-- what a call writes below the size of the disk, failed or not
abbrev pub writes_of : ℕ → Event → List (ℕ × ℕ)
writes_of size (wrote at bytes ok) = filter (λ write. nat_lt write.0 size) (placed at bytes)
writes_of size (read ok) = []
writes_of size (synced ok) = []
writes_of size (printed bytes ok) = []

-- what was written since the last good sync, behind one more call
abbrev pub still_pending : ℕ → List (ℕ × ℕ) → Event → List (ℕ × ℕ)
still_pending size writes (synced ok) = if ok then [] else writes
still_pending size writes (read ok) = writes
still_pending size writes (wrote at bytes ok) = writes ++ writes_of size (wrote at bytes ok)
still_pending size writes (printed bytes ok) = writes

-- what was written since the last good sync before a call, up to and with that call, in order of writing
abbrev pub written_by : ℕ → List Event → ℕ → List (ℕ × ℕ)
written_by size calls made = fold (still_pending size) [] (take made calls) ++ writes_of size (call_at calls made)

abbrev pub is_written_at : ℕ → List (ℕ × ℕ) → Bool
is_written_at place writes = list_any (λ write. write.0 == place) writes

-- each is below the size
abbrev pub AreBelow : ℕ → List (ℕ × ℕ) → Type 0
AreBelow size [] = Unit {0}
AreBelow size (write ∷ writes) = (write.0 < size) × AreBelow size writes

-- each place once, at its last write
abbrev pub last_writes : List (ℕ × ℕ) → List (ℕ × ℕ)
last_writes [] = []
last_writes (write ∷ writes) = if is_written_at write.0 writes then last_writes writes else write ∷ last_writes writes

-- the first so many as they are, and the others with this byte
abbrev pub torn_behind : ℕ → ℕ → List (ℕ × ℕ) → List (ℕ × ℕ)
torn_behind kept fill [] = []
torn_behind zero fill (write ∷ writes) = (write.0, fill) ∷ torn_behind zero fill writes
torn_behind (suc kept) fill (write ∷ writes) = write ∷ torn_behind kept fill writes

-- the bytes with these writes, one behind the other
abbrev pub put_writes : List (ℕ × ℕ) → List ℕ → List ℕ
put_writes [] bytes = bytes
put_writes (write ∷ writes) bytes = put_writes writes (slice_set bytes write.0 write.1)

-- what a call leaves of the disk's bytes
abbrev pub image_after : Image → Event → Image
image_after image (wrote at bytes ok) = if ok then put image at bytes else image
image_after image (read ok) = image
image_after image (synced ok) = image
image_after image (printed bytes ok) = image

-- and of what was printed
abbrev pub printed_after : List ℕ → Event → List ℕ
printed_after before (printed bytes ok) = if ok then before ++ bytes else before
printed_after before (read ok) = before
printed_after before (wrote at bytes ok) = before
printed_after before (synced ok) = before

-- the disk as it read behind so many calls
abbrev pub bytes_behind : List ℕ → List Event → ℕ → List ℕ
bytes_behind first calls made = slice (held_after first (take made calls)).image 0 (length first)

-- what was printed by so many calls
abbrev pub printed_behind : List ℕ → List Event → ℕ → List ℕ
printed_behind first calls made = (held_after first (take made calls)).printed

-- the image of a stop within the call behind so many others
abbrev pub stopped : List ℕ → List Event → ℕ → ℕ → ℕ → List ℕ
stopped first calls made kept fill = put_writes (torn_behind kept fill (last_writes (written_by (length first) calls made))) (bytes_behind first calls made)
