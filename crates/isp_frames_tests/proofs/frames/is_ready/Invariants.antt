use Rattle.std.proofs.Common.{◌≡◌, ℕ, ◌<◌, false, Some}
use Rattle.isp_pool.specs.Frames.{frame_at, is_pinned}
use Rattle.isp_pool.specs.declared.frames.Frame.{Frame}
use Rattle.isp_frames_tests.proofs.frames.is_ready.Given as goal

abbrev pub invariant-loop-frame : goal.invariant-loop-frame
invariant-loop-frame l = record {
  below : (i : ℕ) (f : Frame) → i < l.frame → frame_at l.pool i ≡ Some f → f.page.0 < l.pages;
  unpinned : (i : ℕ) → i < l.frame → is_pinned (frame_at l.pool i) ≡ false;
}
