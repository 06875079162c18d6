use Rattle.std.proofs.Common.{◌∙◌, ap}
use Rattle.std.proofs.lemmas.Result.{IfOk-weaker}
use Rattle.isp_reclock.specs.Tables.{holds}
use Rattle.isp_reclock.proofs.BlockerLemmas.{are_blockers}
use Rattle.isp_reclock.proofs.table.Locks.blockers.Goals as goal

pub returns : goal.returns
returns c =
    IfOk-weaker c.blockers_among.result _ _
    (λ by is. are_blockers c.args.self.now c.args.asked c.self.inside.holders.keys c.blockers_among.ensures.rising
    (λ lock h. c.self.invariant.known lock (ap (λ locks. holds locks lock) c.self.view_is ∙ h)) by.items is)
    c.blockers_among.ensures.named
