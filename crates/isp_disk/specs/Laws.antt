-- The two laws of a world in memory: what a stop now may leave counts for each earlier time, and since now there is
-- nothing else.
use Rattle.std.specs.Prelude.{ℕ, zero, suc, ◌≤◌, List, [], ◌∷◌, length, fold}
use Rattle.std.proofs.Common.{inr, arith}
use Rattle.isp_disk.specs.Moments.{Image}
use Rattle.isp_disk.specs.InMemory.{Event, Held, LeftNow, LeftSince, after_event}

-- what a stop now may leave is left since any time
pub now_counts : (held : Held) (calls : List Event) (t : ℕ) (left : Image) (told : List ℕ) → t ≤ length calls → LeftNow (fold after_event held calls) left told → LeftSince held calls t left told
now_counts held [] zero left told le now = now
now_counts held [] (suc t) left told le now = now
now_counts held (call ∷ calls) zero left told le now = inr (now_counts (after_event held call) calls zero left told (omega arith) now)
now_counts held (call ∷ calls) (suc t) left told le now = now_counts (after_event held call) calls t left told (omega (arith, le)) now

-- since now there is nothing else
pub now_only : (held : Held) (calls : List Event) (left : Image) (told : List ℕ) → LeftSince held calls (length calls) left told → LeftNow (fold after_event held calls) left told
now_only held [] left told since = since
now_only held (call ∷ calls) left told since = now_only (after_event held call) calls left told since
