use Rattle.isp_plain.proofs.EntriesBack.{Adding}
use Rattle.isp_plain.proofs.entries.add_all.Given as goal

abbrev pub invariant-loop-i : goal.invariant-loop-i
invariant-loop-i l = Adding l.fn.entries.entries l.entries.entries l.rows l.i
