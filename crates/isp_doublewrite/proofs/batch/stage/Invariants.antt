use Rattle.std.proofs.Common.{◌≡◌, ℕ, Ok, length, map, take}
use Rattle.isp_disk.specs.Calls.{DiskCall}
use Rattle.isp_disk.specs.Phases.{Phase}
use Rattle.isp_disk.specs.declared.world.Failed.{Failed}
use Rattle.isp_doublewrite.specs.Batches.{AreWhole, whole_page}
use Rattle.isp_doublewrite.specs.Places.{staged_places}
use Rattle.isp_format.specs.Doublewrite.{copies_from, copy_count}
use Rattle.isp_doublewrite.proofs.batch.stage.Given as goal

abbrev pub invariant-loop-k : goal.invariant-loop-k
invariant-loop-k g l = record {
  phase : Phase g.W.World l.fn.world l.world staged_places;
  calls : DiskCall {T = ℕ} {E = Failed} g.W.World l.fn.world l.world (Ok 0);
  count : g.W.World.tells → copy_count (g.W.World.image l.world) ≡ length l.batch;
  listed : g.W.World.tells → copies_from (g.W.World.image l.world) 0 l.k ≡ map whole_page (take l.k l.batch);
  whole : AreWhole (map whole_page (take l.k l.batch));
}
