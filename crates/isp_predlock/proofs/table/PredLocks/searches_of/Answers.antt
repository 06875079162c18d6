use Rattle.std.proofs.Common.{◌∙◌}
use Rattle.std.proofs.lemmas.Result.{IfOk-weaker}
use Rattle.isp_predlock.specs.Tables.{id_in}
use Rattle.isp_predlock.proofs.CallLaws.{by_ids}
use Rattle.isp_predlock.proofs.table.PredLocks.searches_of.Goals as goal

pub returns : goal.returns
returns c =
    IfOk-weaker c.searches_among.result _ _
    (λ list is. is ∙ by_ids (id_in c.args.session) c.args.self.now.searches c.ids.ensures.named c.ids.result.now c.ids.ensures.ids) c.searches_among.ensures
