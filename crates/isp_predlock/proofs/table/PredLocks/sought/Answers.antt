use Rattle.std.proofs.Common.{is_some, Option, sym, ◌∙◌, ap}
use Rattle.isp_predlock.specs.declared.entries.Sought.{Sought}
use Rattle.isp_predlock.specs.Tables.{PredTable, sought_of}
use Rattle.isp_predlock.proofs.CallLaws.{some_there}
use Rattle.isp_predlock.proofs.InsideLaws.{sought_seen}
use Rattle.isp_predlock.proofs.table.PredLocks.sought.Goals as goal

pub returns-clause-sought : goal.returns-clause-sought
returns-clause-sought c =
    c.copied.ensures ∙ c.get.ensures ∙ sym (sought_seen c.self.inside c.self.invariant c.args.id.0) ∙ ap (λ (v : PredTable). sought_of v.searches c.args.id.0) c.self.view_is

pub returns-clause-there : goal.returns-clause-there
returns-clause-there c =
    ap (λ (o : Option Sought). is_some o) (returns-clause-sought c) ∙ some_there c.args.self.now.searches c.args.id.0
