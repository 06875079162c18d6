use Rattle.std.proofs.Common.{◌∙◌}
use Rattle.std.proofs.lemmas.Result.{IfOk-weaker}
use Rattle.isp_predlock.specs.Tables.{told_on}
use Rattle.isp_predlock.proofs.CallLaws.{by_ids}
use Rattle.isp_predlock.proofs.table.PredLocks.on_page.Goals as goal

pub returns : goal.returns
returns c =
    IfOk-weaker c.on_page_among.result _ _
    (λ list is. is ∙ by_ids (told_on c.args.page.0) c.args.self.now.searches c.ids.ensures.named c.ids.result.now c.ids.ensures.ids) c.on_page_among.ensures
