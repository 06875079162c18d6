-- The sessions of a script have undo slots, since their numbers are 16 at most.
use Rattle.std.proofs.Common.{ℕ, List, arith}
use Rattle.std.specs.Prelude.{All}
use Rattle.isp_script.specs.Grammar.{IsScript}
use Rattle.isp_script.specs.Laws.{IsWithin}
use Rattle.isp_script.proofs.LimitLaws.{within_limits}
use Rattle.isp_serial.specs.declared.script.Script.{Script}
use Rattle.isp_serial.specs.declared.script.Session.{Session}
use Rattle.isp_sessions.specs.Plays.{HasSlot}

have_slots : (sessions : List Session) → All IsWithin sessions → All HasSlot sessions
have_slots sessions all = λ k d inside. let most = (all k d inside).most in omega (arith, most)

pub script_has_slots : (bytes : List ℕ) (script : Script) → IsScript bytes script → All HasSlot script.sessions
script_has_slots bytes script is = have_slots script.sessions (within_limits bytes script is).sessions
