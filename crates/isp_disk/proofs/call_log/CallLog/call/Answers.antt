use Rattle.std.proofs.Common.{◌<◌, length, ap, arith}
use Rattle.isp_disk.specs.InMemory.{LogState}
use Rattle.std.proofs.lemmas.List.{length-map}
use Rattle.isp_disk.specs.Kept.{event_of}
use Rattle.isp_disk.proofs.Keeping.{kept_at}
use Rattle.isp_disk.proofs.call_log.CallLog.call.Goals as goal

pub part-bytes-requires : goal.part-bytes-requires
part-bytes-requires c =
    let same = ap (λ (log : LogState). length log.calls) c.self.view_is in
    let made : c.args.made < length c.self.inside.calls.items = omega (arith, c.requires, same, length-map c.self.inside.calls.items (event_of c.self.inside.kept.items)) in
    let kept = kept_at (length c.self.inside.kept.items) c.self.inside.calls.items c.args.made c.index-call.result.now c.self.invariant.0 made c.index-call.ensures in
    rw c.deref.ensures.value kept
