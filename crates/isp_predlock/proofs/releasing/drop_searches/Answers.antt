use Rattle.std.proofs.Common.{rules, tests}
use Rattle.isp_predlock.proofs.SlabLaws.{kept_at}
use Rattle.isp_predlock.proofs.releasing.drop_searches.Goals as goal

pub returns : goal.returns
returns c = kept_at _ c.args.session _ (λ key shown keep left next k. search (rules, tests)) c.args.searches.now c.retain.new.self c.retain.ensures.retained
