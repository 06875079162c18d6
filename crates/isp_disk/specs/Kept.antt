-- How a list of calls is kept: what each wrote or printed lies in one list of bytes.
use Rattle.std.specs.Prelude.{◌≡◌, ℕ, ◌+◌, ◌≤◌, Bool, true, List, [], ◌∷◌, length, map, take, drop}
use Rattle.isp_disk.specs.declared.call_log.CallKind.{CallKind}
use Rattle.isp_disk.specs.declared.call_log.CallKind.TheVariants.{Read, Write, Sync, Print}
use Rattle.isp_disk.specs.declared.call_log.Call.{Call}
use Rattle.isp_disk.specs.InMemory.{Event, read, wrote, synced, printed, held_after}
use Rattle.isp_disk.specs.Moments.{image_of}

abbrev pub event_with : CallKind → Bool → List ℕ → Event
event_with Read ok bytes = read ok
event_with (Write at) ok bytes = wrote at bytes ok
event_with Sync ok bytes = synced ok
event_with Print ok bytes = printed bytes ok

abbrev pub event_of : List ℕ → Call → Event
event_of kept call = event_with call.kind call.is_ok (take call.length (drop call.from kept))

abbrev pub events_of : List ℕ → List Call → List Event
events_of kept calls = map (event_of kept) calls

-- the bytes of each call are among those that are kept
abbrev pub AreKept : ℕ → List Call → Type 0
AreKept size [] = Unit {0}
AreKept size (call ∷ calls) = (call.from + call.length ≤ size) × AreKept size calls

-- each write that came about ends at the size of the disk or before
abbrev pub IsInside : ℕ → Event → Type 0
IsInside size (wrote at bytes ok) = ok ≡ true → at + length bytes ≤ size
IsInside size (read ok) = Unit {0}
IsInside size (synced ok) = Unit {0}
IsInside size (printed bytes ok) = Unit {0}

abbrev pub AreInside : ℕ → List Event → Type 0
AreInside size [] = Unit {0}
AreInside size (event ∷ events) = IsInside size event × AreInside size events

-- the bytes of the disk and those printed are those that the calls leave
pub record IsReplayed (first image printed : List ℕ) (calls : List Event) : Type 0 where
  pub size : length image ≡ length first
  pub bytes : (place : ℕ) → image_of image place ≡ (held_after first calls).image place
  pub told : printed ≡ (held_after first calls).printed
  pub inside : AreInside (length first) calls
