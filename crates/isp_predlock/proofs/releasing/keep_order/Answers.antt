use Rattle.std.proofs.Common.{rules, tests}
use Rattle.std.proofs.lemmas.Fn.{filter_same}
use Rattle.isp_predlock.specs.Inside.{is_kept_id}
use Rattle.isp_predlock.proofs.releasing.keep_order.Goals as goal

pub returns : goal.returns
returns c = filter_same _ (is_kept_id c.args.searches.now) _ (λ x b f' k. search (rules, tests)) _ _ c.retain.ensures.filtered
