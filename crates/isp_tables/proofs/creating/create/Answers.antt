use Rattle.std.proofs.Common.{sym, subst}
use Rattle.std.specs.Prelude.{IfOk}
use Rattle.isp_plain.specs.declared.statement.Statement.{Statement}
use Rattle.isp_tables.specs.Creations.{MakesOrFull}
use Rattle.isp_tables.proofs.creating.create.Goals as goal

pub returns-in-Create-clause-created : goal.returns-in-Create-clause-created
returns-in-Create-clause-created g c tells trx d opened =
    subst (λ (s : Statement). IfOk c.make_or_refuse.result (MakesOrFull g.P.Pages c.make_or_refuse.new.pages c.make_or_refuse.new.tables trx s d)) (sym c.in-Create.is)
    (c.make_or_refuse.ensures.created tells trx d opened)
