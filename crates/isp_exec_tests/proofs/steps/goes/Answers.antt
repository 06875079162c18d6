use Rattle.std.proofs.Common.{List, ◌∙◌, ap}
use Rattle.isp_catalog.specs.declared.table.TableDef.{TableDef}
use Rattle.isp_connection.proofs.SuitLaws.{suits}
use Rattle.isp_plan.specs.Meaning.{meaning}
use Rattle.isp_tables.specs.TableLists.{definitions_of}
use Rattle.isp_exec_tests.proofs.steps.goes.Goals as goal

pub goes_by-requires-clause-fit : goal.goes_by-requires-clause-fit
goes_by-requires-clause-fit g c =
    let place = c.args.act.now.place in
    let text = c.deref.result.now in
    let is = c.in_ok-statement.ensures ∙ ap (λ (defs : List TableDef). meaning (definitions_of defs) place text) c.defs.ensures in
    c.start-work.ensures.fit (suits c.args.context.now.tables place text c.in_ok-statement.statement is c.requires.serves.keyed)
