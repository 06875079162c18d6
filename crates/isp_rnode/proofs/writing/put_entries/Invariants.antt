use Rattle.std.proofs.Common.{ℕ, ◌≡◌, ◌<◌, Some, take}
use Rattle.std.specs.Prelude.{slice_get}
use Rattle.isp_format.specs.Header.{header_of}
use Rattle.isp_mbr.specs.Boxes.{IsBox}
use Rattle.isp_forest.specs.declared.entry.Entry.{Entry}
use Rattle.isp_format.specs.Kinds.{content_place}
use Rattle.isp_rnode.specs.Nodes.{entries_bytes}
use Rattle.isp_rnode.proofs.PutLaws.{IsPut, StandBelow}
use Rattle.isp_rnode.proofs.writing.put_entries.Given as goal

abbrev pub invariant-loop-i : goal.invariant-loop-i
invariant-loop-i l = record {
  so_far : IsPut l.initial.p.bytes l.p.bytes content_place (entries_bytes (take l.i l.entries));
  stand : StandBelow (header_of l.initial.p.bytes).level l.p.bytes l.entries l.i;
  ordered : (k : ℕ) (e : Entry) → k < l.i → slice_get l.entries k ≡ Some e → IsBox e.b;
}
