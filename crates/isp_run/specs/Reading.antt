-- What the bytes of a source were found to be.
use Rattle.std.specs.Prelude.{ℕ, List, All}
use Rattle.isp_serial.specs.declared.script.Script.{Script as ScriptOf}
use Rattle.isp_script.specs.BadLines.{IsBadLine}
use Rattle.isp_script.specs.Grammar.{IsScript}
use Rattle.isp_sessions.specs.Plays.{HasSlot}
use Rattle.isp_run.specs.declared.read.Found.{Found}
use Rattle.isp_run.specs.declared.read.Found.TheVariants.{Script, Bad}

-- the bytes are the script, or are none, and the line is the first bad one
abbrev pub IsFound : List ℕ → Found → Type 0
IsFound bytes (Script script) = IsScript bytes script
IsFound bytes (Bad line) = IsBadLine bytes line

abbrev pub IsGood : Found → Type 0
IsGood (Script script) = Unit {0}
IsGood (Bad line) = ⊥

-- the numbers of a script's sessions are those of undo slots
abbrev pub HaveSlots : Found → Type 0
HaveSlots (Script script) = All HasSlot script.sessions
HaveSlots (Bad line) = Unit {0}

-- the bytes are a script
abbrev pub HasScript : List ℕ → Type 0
HasScript bytes = (script : ScriptOf) × IsScript bytes script
