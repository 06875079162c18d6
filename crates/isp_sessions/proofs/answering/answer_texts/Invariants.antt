use Rattle.std.proofs.Common.{◌≡◌, take}
use Rattle.isp_connection.specs.Connections.{state_of}
use Rattle.isp_tables.specs.Calls.{Serves}
use Rattle.isp_image.specs.Databases.{Database}
use Rattle.isp_page.specs.declared.fault.Fault.{Fault}
use Rattle.isp_serial.specs.Alone.{Full, State}
use Rattle.std.proofs.Common.{Result, Ok}
use Rattle.isp_sessions.specs.Plays.{StaysPlaying}
use Rattle.isp_sessions.specs.Runs.{HasTexts, Runs}
use Rattle.isp_sessions.proofs.answering.answer_texts.Given as goal

abbrev pub invariant-loop-i : goal.invariant-loop-i
invariant-loop-i g l =
    (let went : Result (Unit {0}) Fault = Ok tt in StaysPlaying g.P.Pages l.fn.connection.context.pages l.connection.context.pages went)
    × Serves g.P.Pages l.connection.context.pages l.connection.context.tables
    × (l.connection.context.trx.session ≡ l.fn.connection.context.trx.session)
    × (g.P.Pages.tells → (base : Full) (d : Database) (state : State) → Runs g.P.Pages l.fn.connection.context.pages (state_of l.fn.connection) state d
    → HasTexts g.P.Pages (g.P.Pages.shape l.fn.connection.context.pages).pages base d l.fn.connection.context.trx.session (take l.i l.texts) state l.fn.connection.context.pages l.connection.context.pages (state_of l.connection))
