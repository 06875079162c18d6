use Rattle.std.proofs.Common.{rules, ◌≡◌, length, ◌-◌, refl, ◌∙◌, ap, arith, length-append}
use Rattle.isp_disk.specs.declared.call_log.Call.{Call}
use Rattle.isp_disk.specs.InMemory.{LogState, with_call}
use Rattle.isp_disk.specs.Kept.{event_with}
use Rattle.isp_disk.proofs.Keeping.{kept_is, events_is, has_room}
use Rattle.isp_disk.proofs.call_log.CallLog.push.Goals as goal

pub invariant_of-self : goal.invariant_of-self
invariant_of-self c =
    let call : Call = record { kind = c.args.kind; is_ok = c.args.is_ok; from = c.len.result; length = length c.args.bytes.now } in
    let from : c.len.result ≡ length c.self.inside.kept.items = search rules in
    let room = has_room c.args.self.now (length c.args.bytes.now) c.requires in
    let left : c.self.inside.room ≡ c.args.self.now.room = ap (λ (log : LogState). log.room) c.self.view_is in (
      kept_is c.self.inside.kept.items c.args.bytes.now c.extend_from_slice.new.self.items c.self.inside.calls.items c.push.new.self.items call from refl c.in-Ok.ensures.items c.in-Ok-push.ensures.items c.self.invariant.0,
      omega (arith, c.self.invariant.1, c.in-Ok-push.ensures.capacity),
      omega (arith, c.self.invariant.2, c.in-Ok.ensures.capacity, room, left, ap length c.in-Ok.ensures.items, length-append c.self.inside.kept.items c.args.bytes.now),
    )

pub returns : goal.returns
returns c =
    let call : Call = record { kind = c.args.kind; is_ok = c.args.is_ok; from = c.len.result; length = length c.args.bytes.now } in
    let from : c.len.result ≡ length c.self.inside.kept.items = search rules in
    let calls = events_is c.self.inside.kept.items c.args.bytes.now c.extend_from_slice.new.self.items c.self.inside.calls.items c.push.new.self.items call from refl c.in-Ok.ensures.items c.in-Ok-push.ensures.items c.self.invariant.0 in
    (λ i. record { calls = calls i; most = c.self.inside.most; room = c.self.inside.room - length c.args.bytes.now })
    ∙ ap (λ (log : LogState). with_call log (event_with c.args.kind c.args.is_ok c.args.bytes.now) (length c.args.bytes.now)) c.self.view_is
