use Rattle.std.proofs.Common.{◌≡◌, length}
use Rattle.isp_format.specs.Ranges.{Contents}
use Rattle.isp_frames.specs.Held.{now_over}
use Rattle.isp_mini.specs.Extents.{body_front}
use Rattle.isp_store.proofs.logging.spell.Given as goal

abbrev pub invariant-loop-extent : goal.invariant-loop-extent
invariant-loop-extent l = (placed : Contents) → l.body ≡ body_front (length l.fn.extents) (now_over l.fn.pool.frames placed) l.fn.extents l.extent-index
