use Rattle.std.proofs.Common.{◌≡◌, ◌<◌, ℕ, true}
use Rattle.isp_pool.specs.Frames.{is_held, frame_in}
use Rattle.isp_pool.proofs.frames.first_free.Given as goal

abbrev pub invariant-loop-at : goal.invariant-loop-at
invariant-loop-at l = (j : ℕ) → j < l.at → is_held (frame_in l.frames j) ≡ true
