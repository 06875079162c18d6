-- Time goes on by a call of a world in memory.
use Rattle.std.proofs.Common.{◌≡◌, ℕ, Bool, true, false, sym, subst}
use Rattle.isp_disk.specs.InMemory.{Event, LeftDuring, Passes, WorldState, after_disk, after_printer, called, held_first, held_now, piece_of, range_of}
use Rattle.isp_disk.proofs.Replay.{elapses_not, elapses_push}

time_called : (spent : Bool) (event : Event) (size : ℕ) (world : WorldState) → Passes world (called spent event size world) (range_of event) (piece_of event)
time_called true event size world = elapses_not (held_first world.first) world.log.calls (LeftDuring (held_now world) event)
time_called false event size world = elapses_push (held_first world.first) world.log.calls event

pub disk_time : (spent good : Bool) (event : Event) (size : ℕ) (world now : WorldState) → now ≡ after_disk spent good event size world → Passes world now (range_of event) (piece_of event)
disk_time spent good event size world now after =
    subst (λ (w : WorldState). Passes world w (range_of event) (piece_of event)) (sym after) (time_called spent event size world)

pub print_time : (spent good : Bool) (event : Event) (size : ℕ) (world now : WorldState) → now ≡ after_printer spent good event size world → Passes world now (range_of event) (piece_of event)
print_time spent good event size world now after =
    subst (λ (w : WorldState). Passes world w (range_of event) (piece_of event)) (sym after) (time_called spent event size world)
