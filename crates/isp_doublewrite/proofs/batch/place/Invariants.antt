use Rattle.std.proofs.Common.{◌≡◌, ℕ, Ok, map, take}
use Rattle.isp_disk.specs.Calls.{DiskCall}
use Rattle.isp_disk.specs.Phases.{Phase}
use Rattle.isp_disk.specs.declared.world.Failed.{Failed}
use Rattle.isp_doublewrite.specs.Batches.{number_of, whole_page}
use Rattle.isp_doublewrite.specs.Places.{page_places}
use Rattle.isp_format.specs.Doublewrite.{area}
use Rattle.isp_format.specs.Ranges.{puts}
use Rattle.isp_doublewrite.proofs.batch.place.Given as goal

abbrev pub invariant-loop-number : goal.invariant-loop-number
invariant-loop-number g l = record {
  phase : Phase g.W.World l.fn.world l.world (page_places (map number_of l.batch));
  calls : DiskCall {T = ℕ} {E = Failed} g.W.World l.fn.world l.world (Ok 0);
  placed : g.W.World.tells → area (g.W.World.image l.world) ≡ puts (map whole_page (take l.number-index l.batch)) (area (g.W.World.image l.fn.world));
}
