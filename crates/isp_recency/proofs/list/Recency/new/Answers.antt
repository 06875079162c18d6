use Rattle.std.proofs.Common.{arith}
use Rattle.isp_recency.proofs.RecentLaws.{empty_list}
use Rattle.isp_recency.proofs.list.Recency.new.Goals as goal

pub invariant_of-result : goal.invariant_of-result
invariant_of-result c =
    (omega (arith, c.in_ok-members.ensures.exact), empty_list c.args.n c.in_ok-members.members.items c.in_ok-members.ensures.items c.requires.least c.requires.most)
