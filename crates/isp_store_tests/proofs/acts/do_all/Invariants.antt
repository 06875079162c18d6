use Rattle.std.proofs.Common.{◌≡◌, true, false}
use Rattle.isp_store.specs.State.{mini}
use Rattle.isp_store_tests.proofs.acts.do_all.Given as goal

-- between two acts the store can be used, and no mini-transaction is begun
abbrev pub invariant-loop-at : goal.invariant-loop-at
invariant-loop-at g l = record {
  usable : l.store.is_usable ≡ true;
  none : (mini g.W.World l.store).is_begun ≡ false;
}
