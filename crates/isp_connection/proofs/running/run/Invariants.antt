use Rattle.std.proofs.Common.{◌≡◌}
use Rattle.std.specs.Prelude.{⊤}
use Rattle.isp_exec.specs.Standing.{IsAt, IsFit, height}
use Rattle.isp_image.specs.Databases.{Database}
use Rattle.isp_tables.specs.Calls.{Keeps, Serves}
use Rattle.isp_tables.specs.Opened.{IsOpen}
use Rattle.isp_tables.proofs.KeepLaws.{so_far}
use Rattle.isp_work.specs.declared.phase.Phase.TheVariants.{RollingBack}
use Rattle.isp_connection.proofs.RunLaws.{UndidSome}
use Rattle.isp_connection.proofs.running.run.Given as goal

abbrev pub invariant-steps : goal.invariant-steps
invariant-steps g l =
    Keeps {T = ⊤} g.P.Pages l.fn.context.pages l.context.pages so_far
    × Serves g.P.Pages l.context.pages l.context.tables
    × IsFit (g.P.Pages.shape l.context.pages).pages l.context.tables l.work.progress
    × (l.work.progress.statement ≡ l.fn.work.progress.statement)
    × (l.context.trx.session ≡ l.fn.context.trx.session)
    × (g.P.Pages.tells → (d : Database) → IsAt g.P.Pages l.fn.context.pages l.fn.context.tables l.fn.context.trx d l.fn.work.progress
    → IsAt g.P.Pages l.context.pages l.context.tables l.context.trx d l.work.progress)
    × (g.P.Pages.tells → (d : Database) → IsOpen g.P.Pages l.fn.context.pages l.fn.context.tables l.fn.context.trx d → l.fn.work.progress.phase ≡ RollingBack
    → UndidSome g.P.Pages l.context.pages l.context.tables l.context.trx l.work.progress d)

abbrev pub decreases-steps : goal.decreases-steps
decreases-steps g l = height l.work.progress l.context.trx.count
