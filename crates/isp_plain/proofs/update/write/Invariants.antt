use Rattle.std.proofs.Common.{◌≡◌}
use Rattle.isp_plain.specs.Updating.{with_changes}
use Rattle.isp_plain.proofs.update.write.Given as goal

abbrev pub invariant-loop-key : goal.invariant-loop-key
invariant-loop-key l = with_changes l.entries.entries l.key-iterator.rest.items ≡ with_changes l.fn.entries.entries l.fn.changed.items
