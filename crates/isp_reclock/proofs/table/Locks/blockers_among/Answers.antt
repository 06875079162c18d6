use Rattle.std.proofs.Common.{rules, tests, ◌≡◌}
use Rattle.std.proofs.lemmas.Iterator.Adapters.{fact_from_collect}
use Rattle.std.proofs.lemmas.Iterator.Consumers.{YieldsList-at, YieldsList-from_filter_map, YieldsList-from_rest}
use Rattle.isp_reclock.specs.Blockers.{blocker_of}
use Rattle.isp_reclock.proofs.table.Locks.blockers_among.Goals as goal

pub returns-clause-named : goal.returns-clause-named
returns-clause-named c =
    fact_from_collect (λ xs v. v.items ≡ xs) c.collect.result c.collect.ensures.ran
    (YieldsList-from_filter_map _ (blocker_of c.args.self.now c.args.asked)
    (YieldsList-at c.filter_map.ensures.source (YieldsList-from_rest c.args.trxs.now.keys c.iter.ensures.rest))
    c.filter_map.ensures.closure
    (λ x r q k. search (rules, tests)))
