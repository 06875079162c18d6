use Rattle.std.proofs.Common.{◌≡◌, ℕ, ◌*◌, ◌<◌, Ok}
use Rattle.isp_disk.specs.Moments.{Agree}
use Rattle.isp_disk.specs.Calls.{DiskCall}
use Rattle.isp_disk.specs.Phases.{Phase}
use Rattle.isp_disk.specs.declared.world.Failed.{Failed}
use Rattle.isp_format.specs.Doublewrite.{area}
use Rattle.isp_format.specs.Empty.{empty_contents}
use Rattle.isp_format.specs.Ranges.{page_bytes}
use Rattle.isp_making.specs.Places.{content_places, first_places}
use Rattle.isp_making.proofs.Writing.{with_front}
use Rattle.isp_making.proofs.making.write_contents.Given as goal

abbrev pub invariant-loop-number : goal.invariant-loop-number
invariant-loop-number g l = record {
  phase : Phase g.W.World l.fn.world l.world content_places;
  calls : DiskCall {T = ℕ} {E = Failed} g.W.World l.fn.world l.world (Ok 0);
  front : g.W.World.tells → Agree first_places (with_front l.pages l.fanout (g.W.World.image l.fn.world)) (g.W.World.image l.world);
  first : g.W.World.tells → (place : ℕ) → place < l.number * page_bytes → area (g.W.World.image l.world) place ≡ empty_contents place;
}
