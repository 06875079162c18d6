use Rattle.isp_sql.proofs.StatementLaws.{found, only}
use Rattle.isp_sql.proofs.statement.parse.Goals as goal

pub returns-clause-found : goal.returns-clause-found
returns-clause-found c = found c.read.result c.args.text.now c.read.ensures

pub returns-clause-only : goal.returns-clause-only
returns-clause-only c = only c.read.result c.args.text.now c.read.ensures
