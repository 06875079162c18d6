use Rattle.std.proofs.Common.{◌∙◌, List, ap, length}
use Rattle.isp_predlock.specs.declared.entries.On.{On}
use Rattle.isp_predlock.specs.Testing.{tested}
use Rattle.isp_predlock.proofs.CallLaws.{by_ids}
use Rattle.isp_predlock.proofs.table.PredLocks.tests.Goals as goal

pub returns : goal.returns
returns c =
    c.tests_among.ensures
    ∙ ap (λ (l : List On). length l) (by_ids (tested c.args.placing.now c.args.more.now) c.args.self.now.searches c.ids.ensures.named c.ids.result.now c.ids.ensures.ids)
