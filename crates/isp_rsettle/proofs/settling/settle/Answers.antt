use Rattle.std.proofs.Common.{rules, ◌<◌, length}
use Rattle.std.specs.Prelude.{vec_capacity}
use Rattle.isp_rsettle.proofs.WayLaws.{goes_on, page_some}
use Rattle.isp_rsettle.proofs.settling.settle.Goals as goal

pub settle_page-at-requires-clause-some : goal.settle_page-at-requires-clause-some
settle_page-at-requires-clause-some c =
    page_some c.args.steps.items c.args.news.now c.args.counter c.args.to c.up.steps.items c.pop.new.self.items c.in-Some.step c.up.at.counter c.up.at.to c.up.at.taken c.up.writes.items c.up.parted.items
    (vec_capacity c.up.writes) (vec_capacity c.up.parted) c.in-Some.ensures.items c.up.invariant

pub up-preserved : goal.up-preserved
up-preserved c =
    let more : 0 < length c.pop.new.self.items = search (rules, c.if-is_empty.false) in
    let e = c.settle_page-at.ensures in
    goes_on c.args.steps.items c.args.news.now c.args.counter c.args.to c.up.steps.items c.pop.new.self.items c.in-Some.step c.up.at.counter c.up.at.to c.up.at.taken c.up.writes.items c.up.parted.items
    (vec_capacity c.up.writes) (vec_capacity c.up.parted) c.in-Some.ensures.items c.up.invariant
    c.settle_page-at.result.counter c.settle_page-at.result.to c.settle_page-at.result.taken c.settle_page-at.new.writes.items c.settle_page-at.new.parted.items
    (vec_capacity c.settle_page-at.new.writes) (vec_capacity c.settle_page-at.new.parted) more e.writes e.parted e.counter e.to e.taken e.left e.room e.parts
