use Rattle.std.proofs.Common.{◌-◌, ◌<◌, false, arith, subst, get_or, length, sym}
use Rattle.std.proofs.lemmas.List.{get_or_read}
use Rattle.isp_recency.proofs.Places.{has_at, stops, goes_on}
use Rattle.isp_recency.proofs.list.last_flagged.Goals as goal

pub bounds-free-member : goal.bounds-free-member
bounds-free-member c =
    let xs = c.args.members.now.items in
    subst (λ k. k < length c.args.free.now) (sym (get_or_read xs (c.loop-place.place - 1) c.index-member.result.now (omega arith) c.index-member.ensures 0))
    (c.requires _ (has_at xs (c.loop-place.place - 1) 0 (omega arith)))

pub returns-then-free-member : goal.returns-then-free-member
returns-then-free-member c =
    stops (λ i. get_or c.args.free.now i false) c.args.members.now.items c.loop-place.place c.index-member.result.now (omega arith) (omega arith) c.index-member.ensures
    c.loop-place.invariant c.if-free-member.true

pub loop-place-preserved : goal.loop-place-preserved
loop-place-preserved c =
    goes_on (λ i. get_or c.args.free.now i false) c.args.members.now.items c.loop-place.place c.index-member.result.now (omega arith) (omega arith) c.index-member.ensures
    c.loop-place.invariant c.if-free-member.false
