use Rattle.std.proofs.Common.{◌≡◌, ℕ, Ok}
use Rattle.isp_disk.specs.Calls.{DiskCall}
use Rattle.isp_disk.specs.Phases.{Phase}
use Rattle.isp_disk.specs.declared.world.Failed.{Failed}
use Rattle.isp_doublewrite.specs.Places.{page_places}
use Rattle.isp_format.specs.Doublewrite.{area, copies_from}
use Rattle.isp_format.specs.Ranges.{puts}
use Rattle.isp_doublewrite.proofs.restoring.lay.Given as goal

abbrev pub invariant-loop-k : goal.invariant-loop-k
invariant-loop-k g l = record {
  phase : Phase g.W.World l.fn.world l.world (page_places l.numbers);
  calls : DiskCall {T = ℕ} {E = Failed} g.W.World l.fn.world l.world (Ok 0);
  placed : g.W.World.tells → area (g.W.World.image l.world) ≡ puts (copies_from (g.W.World.image l.fn.world) 0 l.k) (area (g.W.World.image l.fn.world));
}
