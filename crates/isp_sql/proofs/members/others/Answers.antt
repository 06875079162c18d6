use Rattle.std.proofs.Common.{◌∙◌, sym}
use Rattle.isp_sql.specs.Following.{with_front}
use Rattle.isp_sql.specs.Reading.{more_at}
use Rattle.isp_sql.proofs.FollowLaws.{starts, continues}
use Rattle.isp_sql.proofs.members.others.Goals as goal

pub loop-init : goal.loop-init
loop-init g c = starts c.args.going (g.I.Item.item_at c.args.item.now) c.args.found c.args.from.now c.len-most.result c.len-most.ensures.value

pub loop-preserved : goal.loop-preserved
loop-preserved g c =
    continues c.args.going (g.I.Item.item_at c.args.item.now) c.loop.found c.push.new.self c.len-most.result c.loop.counter c.loop.from c.skip.new.self c.read.new.from
    c.in_ok-read.field-0 (with_front c.args.found (more_at c.args.going (g.I.Item.item_at c.args.item.now) c.args.from.now)) c.loop-test.true (sym c.goes_on.ensures ∙ c.if-not-goes_on.false)
    c.skip.ensures c.in_ok-read.ensures c.in_ok-push.ensures.ok c.loop.invariant
