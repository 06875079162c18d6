use Rattle.std.proofs.Common.{ap, ◌∙◌}
use Rattle.isp_recency.specs.Recent.{has}
use Rattle.isp_recency.proofs.RecentLaws.{lacks_without}
use Rattle.isp_recency.proofs.list.Recency.touch.Goals as goal

pub push_front-requires-clause-absent : goal.push_front-requires-clause-absent
push_front-requires-clause-absent c =
    ap (λ v. has v.members c.args.i) c.remove.ensures.list ∙ lacks_without c.args.i c.args.self.now.members
