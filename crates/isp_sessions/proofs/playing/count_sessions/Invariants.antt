use Rattle.std.proofs.Common.{drop}
use Rattle.isp_serial.specs.Alone.{AreSmall}
use Rattle.isp_sessions.proofs.playing.count_sessions.Given as goal

abbrev pub invariant-loop-session : goal.invariant-loop-session
invariant-loop-session l = AreSmall (drop l.session-index l.sessions) → AreSmall l.sessions
