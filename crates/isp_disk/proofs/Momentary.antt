-- The image of a stop, as it is computed, is one that a stop within that call may leave.
use Rattle.std.proofs.Common.{◌≡◌, inl, inr, ℕ, zero, suc, ◌<◌, ◌≤◌, Bool, true, false, ◌||◌, ◌==◌, if◌then◌else◌, List, [], ◌∷◌, ◌++◌, length, set, take, fold, refl, sym, ◌∙◌, ap, subst, arith}
use Rattle.std.specs.Prelude.{filter, nat_lt}
use Rattle.std.proofs.lemmas.List.{get_or-set_other}
use Rattle.std.proofs.lemmas.List.Folds.{list_any-append}
use Rattle.std.proofs.lemmas.Bool.Decides.{nat_tests}
use Rattle.isp_disk.specs.Moments.{Image, image_of, in_range}
use Rattle.isp_disk.specs.InMemory.{Event, read, wrote, synced, printed, Held, LeftDuring, LeftSince, after_event, held_after, held_first, piece_of, range_of}
use Rattle.isp_disk.specs.Stops.{call_at, is_written_at, last_writes, placed, printed_behind, put_writes, still_pending, torn_behind, writes_of, written_by}
use Rattle.isp_disk.proofs.Replay.{out_of_first, out_of_second, nothing_printed}

neither : (one other : Bool) → one ≡ false → other ≡ false → (one || other) ≡ false
neither one other no_one no_other = (λ i. no_one i || other) ∙ no_other

-- a place that isn't among the writes keeps its byte
put_other : (writes : List (ℕ × ℕ)) (bytes : List ℕ) (place : ℕ) → is_written_at place writes ≡ false → image_of (put_writes writes bytes) place ≡ image_of bytes place
put_other [] bytes place out = refl
put_other (w ∷ writes) bytes place out =
    let other : (w.0 == place) ≡ false = out_of_first (w.0 == place) (is_written_at place writes) out in
    let differs : place ≡ w.0 → ⊥ = grind (arith, nat_tests) in
    put_other writes (set bytes w.0 w.1) place (out_of_second (w.0 == place) (is_written_at place writes) out) ∙ get_or-set_other bytes w.0 place w.1 0 differs

torn_places : (kept fill : ℕ) (writes : List (ℕ × ℕ)) (place : ℕ) → is_written_at place (torn_behind kept fill writes) ≡ is_written_at place writes
torn_places kept fill [] place = refl
torn_places zero fill (w ∷ writes) place = ap (λ (b : Bool). (w.0 == place) || b) (torn_places zero fill writes place)
torn_places (suc kept) fill (w ∷ writes) place = ap (λ (b : Bool). (w.0 == place) || b) (torn_places kept fill writes place)

last_choice : (write : ℕ × ℕ) (last : List (ℕ × ℕ)) (place : ℕ) (b : Bool) → (write.0 == place) ≡ false → is_written_at place last ≡ false → is_written_at place (if b then last else write ∷ last) ≡ false
last_choice write last place true other out = out
last_choice write last place false other out = neither (write.0 == place) (is_written_at place last) other out

last_places : (writes : List (ℕ × ℕ)) (place : ℕ) → is_written_at place writes ≡ false → is_written_at place (last_writes writes) ≡ false
last_places [] place out = refl
last_places (w ∷ writes) place out =
    last_choice w (last_writes writes) place (is_written_at w.0 writes) (out_of_first (w.0 == place) (is_written_at place writes) out) (last_places writes place (out_of_second (w.0 == place) (is_written_at place writes) out))

filter_choice : (write : ℕ × ℕ) (writes : List (ℕ × ℕ)) (place : ℕ) (b : Bool) → (write.0 == place) ≡ false → is_written_at place writes ≡ false → is_written_at place (if b then write ∷ writes else writes) ≡ false
filter_choice write writes place true other out = neither (write.0 == place) (is_written_at place writes) other out
filter_choice write writes place false other out = out

filter_places : (size : ℕ) (writes : List (ℕ × ℕ)) (place : ℕ) → is_written_at place writes ≡ false → is_written_at place (filter (λ write. nat_lt write.0 size) writes) ≡ false
filter_places size [] place out = refl
filter_places size (w ∷ writes) place out =
    filter_choice w (filter (λ write. nat_lt write.0 size) writes) place (nat_lt w.0 size) (out_of_first (w.0 == place) (is_written_at place writes) out) (filter_places size writes place (out_of_second (w.0 == place) (is_written_at place writes) out))

placed_out : (at : ℕ) (bytes : List ℕ) (place : ℕ) → in_range at (length bytes) place ≡ false → is_written_at place (placed at bytes) ≡ false
placed_out at [] place out = refl
placed_out at (b ∷ bytes) place out =
    let other : (at == place) ≡ false = grind (arith, nat_tests) in
    let behind : in_range (suc at) (length bytes) place ≡ false = grind (arith, nat_tests) in
    neither (at == place) (is_written_at place (placed (suc at) bytes)) other (placed_out (suc at) bytes place behind)

-- a place out of the range of a call isn't among its writes
writes_out : (size : ℕ) (event : Event) (place : ℕ) → range_of event place ≡ false → is_written_at place (writes_of size event) ≡ false
writes_out size (read ok) place out = refl
writes_out size (wrote at bytes ok) place out = filter_places size (placed at bytes) place (placed_out at bytes place out)
writes_out size (synced ok) place out = refl
writes_out size (printed bytes ok) place out = refl

both_out : (first second : List (ℕ × ℕ)) (place : ℕ) → is_written_at place first ≡ false → is_written_at place second ≡ false → is_written_at place (first ++ second) ≡ false
both_out first second place no_first no_second = list_any-append (λ write. write.0 == place) first second ∙ neither (is_written_at place first) (is_written_at place second) no_first no_second

pending_step : (size : ℕ) (held : Held) (writes : List (ℕ × ℕ)) (event : Event) (place : ℕ) → (held.pending place ≡ false → is_written_at place writes ≡ false) → (after_event held event).pending place ≡ false → is_written_at place (still_pending size writes event) ≡ false
pending_step size held writes (read ok) place so_far out = so_far out
pending_step size held writes (wrote at bytes ok) place so_far out =
    both_out writes (writes_of size (wrote at bytes ok)) place (so_far (out_of_first (held.pending place) (in_range at (length bytes) place) out)) (writes_out size (wrote at bytes ok) place (out_of_second (held.pending place) (in_range at (length bytes) place) out))
pending_step size held writes (synced true) place so_far out = refl
pending_step size held writes (synced false) place so_far out = so_far out
pending_step size held writes (printed bytes ok) place so_far out = so_far out

-- a place where nothing is pending isn't among the pending writes
pending_out : (size : ℕ) (calls : List Event) (held : Held) (writes : List (ℕ × ℕ)) (place : ℕ) → (held.pending place ≡ false → is_written_at place writes ≡ false) → (fold after_event held calls).pending place ≡ false → is_written_at place (fold (still_pending size) writes calls) ≡ false
pending_out size [] held writes place so_far out = so_far out
pending_out size (call ∷ calls) held writes place so_far out =
    pending_out size calls (after_event held call) (still_pending size writes call) place (pending_step size held writes call place so_far) out

written_out : (size : ℕ) (first : List ℕ) (calls : List Event) (made place : ℕ) → (held_after first (take made calls)).pending place ≡ false → range_of (call_at calls made) place ≡ false → is_written_at place (written_by size calls made) ≡ false
written_out size first calls made place quiet out =
    both_out (fold (still_pending size) [] (take made calls)) (writes_of size (call_at calls made)) place
    (pending_out size (take made calls) (held_first first) [] place (λ none. refl) quiet)
    (writes_out size (call_at calls made) place out)

-- what a stop within a call leaves is left since each moment before it
during_since : (held : Held) (calls : List Event) (made t : ℕ) (left : Image) (told : List ℕ) → made < length calls → t ≤ made → LeftDuring (fold after_event held (take made calls)) (call_at calls made) left told → LeftSince held calls t left told
during_since held [] made t left told below le within = absurd (omega (arith, below))
during_since held (call ∷ calls) zero zero left told below le within = inl within
during_since held (call ∷ calls) zero (suc t) left told below le within = absurd (omega (arith, le))
during_since held (call ∷ calls) (suc made) zero left told below le within = inr (during_since (after_event held call) calls made zero left told (omega (arith, below)) (omega arith) within)
during_since held (call ∷ calls) (suc made) (suc t) left told below le within = during_since (after_event held call) calls made t left told (omega (arith, below)) (omega (arith, le)) within

stopped_during : (size : ℕ) (first : List ℕ) (calls : List Event) (made kept fill : ℕ) (base : List ℕ) → ((place : ℕ) → image_of base place ≡ (held_after first (take made calls)).image place) → LeftDuring (held_after first (take made calls)) (call_at calls made) (image_of (put_writes (torn_behind kept fill (last_writes (written_by size calls made))) base)) (printed_behind first calls made)
stopped_during size first calls made kept fill base same =
    let held = held_after first (take made calls) in
    let last = last_writes (written_by size calls made) in
    record {
      agree = λ place out.
          sym (same place)
          ∙ sym (put_other (torn_behind kept fill last) base place (torn_places kept fill last place ∙ last_places (written_by size calls made) place (written_out size first calls made place (out_of_first (held.pending place) (range_of (call_at calls made) place) out) (out_of_second (held.pending place) (range_of (call_at calls made) place) out))));
      part = nothing_printed held.printed held.printed (piece_of (call_at calls made)) refl;
    }

pub stopped_moment : (size : ℕ) (first : List ℕ) (calls : List Event) (made kept fill : ℕ) (base image : List ℕ) → made < length calls → ((place : ℕ) → image_of base place ≡ (held_after first (take made calls)).image place) → image ≡ put_writes (torn_behind kept fill (last_writes (written_by size calls made))) base
    → (t : ℕ) → t ≤ made → LeftSince (held_first first) calls t (image_of image) (printed_behind first calls made)
stopped_moment size first calls made kept fill base image below same is t le =
    let P : List ℕ → Type 0 = λ l. LeftSince (held_first first) calls t (image_of l) (printed_behind first calls made) in
    subst P (sym is) (during_since (held_first first) calls made t (image_of (put_writes (torn_behind kept fill (last_writes (written_by size calls made))) base)) (printed_behind first calls made) below le (stopped_during size first calls made kept fill base same))
