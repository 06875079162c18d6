use Rattle.std.proofs.Common.{◌≡◌, ◌∙◌, List, ap, filter_map}
use Rattle.std.proofs.lemmas.Result.{IfOk-weaker}
use Rattle.isp_events.specs.State.{session_numbers}
use Rattle.isp_predlock.specs.declared.entries.On.{On}
use Rattle.isp_predlock.specs.Testing.{blocking, first_of}
use Rattle.isp_predlock.proofs.CallLaws.{by_ids}
use Rattle.isp_predlock.proofs.table.PredLocks.conflicts.Goals as goal

pub returns : goal.returns
returns c =
    let all : c.in_ok-all.all.items ≡ filter_map (blocking c.args.placing.now c.args.more.now) c.args.self.now.searches =
    c.in_ok-all.ensures ∙ by_ids (blocking c.args.placing.now c.args.more.now) c.args.self.now.searches c.ids.ensures.named c.ids.result.now c.ids.ensures.ids in
    IfOk-weaker c.firsts.result _ _ (λ list is. is ∙ ap (λ (l : List On). filter_map (first_of l) session_numbers) (c.as_slice.ensures.value ∙ all)) c.firsts.ensures
