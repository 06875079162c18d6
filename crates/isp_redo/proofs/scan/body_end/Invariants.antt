use Rattle.std.proofs.Common.{◌≤◌, ◌-◌, List, ℕ, Ok}
use Rattle.isp_disk.specs.Phases.{OnlyReads}
use Rattle.isp_disk.specs.declared.world.Failed.{Failed}
use Rattle.isp_format.specs.Log.{Transaction, log_of}
use Rattle.isp_redo.specs.Reading.{AreTransactionsAt}
use Rattle.isp_redo.proofs.scan.body_end.Given as goal

abbrev pub invariant-transactions : goal.invariant-transactions
invariant-transactions g l = record {
  reads : OnlyReads {T = ℕ} {E = Failed} g.W.World l.fn.world l.world (Ok 0);
  inside : l.place ≤ l.fn.end;
  so_far : g.W.World.tells → (so_far : List Transaction) × AreTransactionsAt l.fn.pages (log_of (g.W.World.image l.fn.world)) l.fn.at so_far l.place;
}

abbrev pub decreases-transactions : goal.decreases-transactions
decreases-transactions g l = l.fn.end - l.place
