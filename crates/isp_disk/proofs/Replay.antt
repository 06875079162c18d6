-- One more call of a world in memory: what it holds, and what a stop may leave of it.
use Rattle.std.proofs.Common.{◌≡◌, ◌⊎◌, inl, inr, ⊎_elim, ℕ, zero, suc, ◌≤◌, Bool, true, false, ◌||◌, List, [], ◌∷◌, ◌++◌, length, fold, refl, sym, ◌∙◌, ap, arith, length-append}
use Rattle.std.proofs.lemmas.List.{append-nil, take_all}
use Rattle.std.proofs.lemmas.List.Sums.{fold-append}
use Rattle.isp_disk.specs.Outside.{PrintsPart}
use Rattle.isp_disk.specs.Moments.{Image, Elapses, in_range, put}
use Rattle.isp_disk.specs.InMemory.{Event, read, wrote, synced, printed, Held, LeftNow, LeftDuring, LeftSince, after_event, piece_of}

-- the call is the last of those that were made
pub after_push : (held : Held) (calls : List Event) (event : Event) → fold after_event held (calls ++ event ∷ []) ≡ after_event (fold after_event held calls) event
after_push held calls event = fold-append after_event held calls (event ∷ [])

pub out_of_first : (first second : Bool) → (first || second) ≡ false → first ≡ false
out_of_first true second out = out
out_of_first false second out = refl

pub out_of_second : (first second : Bool) → (first || second) ≡ false → second ≡ false
out_of_second true second out = cc
out_of_second false second out = out

pub nothing_printed : (told : List ℕ) (before piece : List ℕ) → told ≡ before → PrintsPart before piece told
nothing_printed told before piece is = record { count = 0; within = omega arith; printed = is ∙ sym (append-nil before) }

all_printed : (told : List ℕ) (before piece : List ℕ) → told ≡ before ++ piece → PrintsPart before piece told
all_printed told before piece is = record {
  count = length piece;
  within = omega arith;
  printed = is ∙ ap (λ (l : List ℕ). before ++ l) (sym (take_all (length piece) piece (omega arith)));
}

-- what a stop may leave before a call it may leave within it
pub before_within : (held : Held) (event : Event) (left : Image) (told : List ℕ) → LeftNow held left told → LeftDuring held event left told
before_within held event left told now = record {
  agree = λ place out. now.agree place (out_of_first _ _ out);
  part = nothing_printed told held.printed (piece_of event) now.printed;
}

pub put_outside : (image : Image) (at : ℕ) (bytes : List ℕ) (place : ℕ) → in_range at (length bytes) place ≡ false → put image at bytes place ≡ image place
put_outside image at bytes place out = grind arith

-- what it may leave behind a call it may leave within it
pub behind_within : (held : Held) (event : Event) (left : Image) (told : List ℕ) → LeftNow (after_event held event) left told → LeftDuring held event left told
behind_within held (read ok) left told now = before_within held (read ok) left told now
behind_within held (wrote at bytes true) left told now = record {
  agree = λ place out. sym (put_outside held.image at bytes place (out_of_second _ _ out)) ∙ now.agree place out;
  part = nothing_printed told held.printed [] now.printed;
}
behind_within held (wrote at bytes false) left told now = record {
  agree = now.agree;
  part = nothing_printed told held.printed [] now.printed;
}
behind_within held (synced true) left told now = record {
  agree = λ place out. now.agree place refl;
  part = nothing_printed told held.printed [] now.printed;
}
behind_within held (synced false) left told now = before_within held (synced false) left told record { agree = now.agree; printed = now.printed }
behind_within held (printed bytes true) left told now = record {
  agree = λ place out. now.agree place (out_of_first _ _ out);
  part = all_printed told held.printed bytes now.printed;
}
behind_within held (printed bytes false) left told now = record {
  agree = λ place out. now.agree place (out_of_first _ _ out);
  part = nothing_printed told held.printed bytes now.printed;
}

-- nothing else was left since
since_push : (held : Held) (calls : List Event) (event : Event) (t : ℕ) (left : Image) (told : List ℕ) → t ≤ length calls → LeftSince held (calls ++ event ∷ []) t left told → LeftSince held calls t left told ⊎ LeftDuring (fold after_event held calls) event left told
since_push held [] event zero left told le (inl within) = inr within
since_push held [] event zero left told le (inr now) = inr (behind_within held event left told now)
since_push held [] event (suc t) left told le since = absurd (omega (arith, le))
since_push held (call ∷ calls) event zero left told le (inl within) = inl (inl within)
since_push held (call ∷ calls) event zero left told le (inr since) = ⊎_elim (λ before. inl (inr before)) (λ within. inr within) (since_push (after_event held call) calls event zero left told (omega arith) since)
since_push held (call ∷ calls) event (suc t) left told le since = since_push (after_event held call) calls event t left told (omega (arith, le)) since

-- and what was left stays among it
keeps_push : (held : Held) (calls : List Event) (event : Event) (t : ℕ) (left : Image) (told : List ℕ) → t ≤ length calls → LeftSince held calls t left told → LeftSince held (calls ++ event ∷ []) t left told
keeps_push held [] event zero left told le now = inl (before_within held event left told now)
keeps_push held [] event (suc t) left told le now = absurd (omega (arith, le))
keeps_push held (call ∷ calls) event zero left told le (inl within) = inl within
keeps_push held (call ∷ calls) event zero left told le (inr since) = inr (keeps_push (after_event held call) calls event zero left told (omega arith) since)
keeps_push held (call ∷ calls) event (suc t) left told le since = keeps_push (after_event held call) calls event t left told (omega (arith, le)) since

-- time goes on by a call that is kept
pub elapses_push : (held : Held) (calls : List Event) (event : Event) → Elapses (length calls) (length (calls ++ event ∷ [])) (LeftSince held calls) (LeftSince held (calls ++ event ∷ [])) (LeftDuring (fold after_event held calls) event)
elapses_push held calls event = record {
  later = omega (arith, length-append calls (event ∷ []));
  nothing_else = λ t left told le since. since_push held calls event t left told le since;
  keeps = λ t left told le past. keeps_push held calls event t left told le past;
}

-- and not by one that isn't
pub elapses_not : (held : Held) (calls : List Event) (during : Image → List ℕ → Type 0) → Elapses (length calls) (length calls) (LeftSince held calls) (LeftSince held calls) during
elapses_not held calls during = record {
  later = omega arith;
  nothing_else = λ t left told le since. inl since;
  keeps = λ t left told le past. past;
}
