use Rattle.std.proofs.Common.{rules, tests}
use Rattle.std.proofs.lemmas.Fn.{filter_same}
use Rattle.isp_predlock.specs.Inside.{is_kept_pair}
use Rattle.isp_predlock.proofs.releasing.keep_attached.Goals as goal

pub returns-clause-kept : goal.returns-clause-kept
returns-clause-kept c = filter_same _ (is_kept_pair c.args.searches.now) _ (λ x b f' k. search (rules, tests)) _ _ c.retain.ensures.filtered
