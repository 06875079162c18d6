use Rattle.std.proofs.Common.{◌≡◌, ℕ, ◌<◌, Some}
use Rattle.std.specs.Prelude.{slice_get}
use Rattle.isp_forest.specs.declared.entry.Entry.{Entry}
use Rattle.isp_rnode.specs.Nodes.{node_of}
use Rattle.isp_rfind.specs.Finding.{IsSought}
use Rattle.isp_rfind.proofs.finding.has_entry.Given as goal

abbrev pub invariant-loop-i : goal.invariant-loop-i
invariant-loop-i l = (k : ℕ) (e : Entry) → k < l.i → slice_get (node_of l.p.bytes).entries k ≡ Some e → IsSought l.b l.number e → ⊥
