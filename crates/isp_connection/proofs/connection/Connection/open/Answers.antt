use Rattle.std.proofs.Common.{ap}
use Rattle.isp_page.specs.State.{FileShape}
use Rattle.isp_tables.specs.Opened.{defs_in}
use Rattle.isp_connection.proofs.EndLaws.{opens}
use Rattle.isp_connection.proofs.connection.Connection.open.Goals as goal

pub returns-in-Ok-clause-opened : goal.returns-in-Ok-clause-opened
returns-in-Ok-clause-opened g c tells d kept tidy =
    let e = c.in-Ok.ensures in
    opens g.P.Pages c.args.pages c.load.new.pages c.args.session c.in-Ok.tables c.begin-trx.result d (ap (λ (s : FileShape). s.pages) e.kept.keeps.same_shape) (e.contents tells) kept tidy (e.found tells d.space (defs_in d) kept.holds.kept.catalogue) c.requires.slot c.begin-trx.ensures
