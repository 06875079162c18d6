-- Lines read one after another, up to a script or to the first bad line.
use Rattle.std.specs.Prelude.{ℕ, ◌+◌, false, nat_lt, List, [], ◌∷◌, ◌++◌, length, if◌then◌else◌, Option, Some, None, ok_or, Result, Err}
use Rattle.isp_serial.specs.declared.script.Script.{Script}
use Rattle.isp_script.specs.Lines.{line_of, lines_of}
use Rattle.isp_script.specs.declared.lines.Line.{Line}
use Rattle.isp_script.specs.declared.lines.Line.TheVariants as line
use Rattle.isp_script.specs.declared.script.Reading.{Reading}
use Rattle.isp_script.specs.declared.script.Reading.TheVariants.{Nothing, InSetup, InSession, Scheduled, Ended}

-- one line further, where the lines up to it begin a script
abbrev pub step : Reading → Line → Option Reading
step Nothing line.Setup = Some (InSetup [])
step (InSetup setup) (line.Statement text) = Some (InSetup (setup ++ text ∷ []))
step (InSetup setup) (line.Session number) = Some (InSession setup number [])
step (InSetup setup) line.Schedule = Some (Scheduled setup [])
step (InSession setup number texts) (line.Statement text) = Some (InSession setup number (texts ++ text ∷ []))
step (InSession setup number texts) line.Schedule = Some (Scheduled setup (record { number = number; texts = texts } ∷ []))
step (Scheduled setup sessions) line.End = Some (Ended setup sessions)
step _ _ = None

-- a line that says nothing is skipped
abbrev pub heard : Reading → Option Line → Option Reading
heard reading None = Some reading
heard reading (Some said) = step reading said

-- the script that was read, where it has its end
abbrev pub script_read : Reading → Option Script
script_read (Ended setup sessions) = Some (record { setup = setup; sessions = sessions; words = []; stop = false })
script_read Nothing = None
script_read (InSetup setup) = None
script_read (InSession setup number texts) = None
script_read (Scheduled setup sessions) = None

abbrev pub or_bad : ℕ → (Reading → Result Script ℕ) → Option Reading → Result Script ℕ
or_bad number on None = Err number
or_bad number on (Some reading) = on reading

-- the lines from the one of this number on: the script, or the first bad line
abbrev pub read_on : Reading → ℕ → List (List ℕ) → Result Script ℕ
read_on reading number [] = ok_or (script_read reading) number
read_on reading number (bytes ∷ lines) = or_bad number (λ next. read_on next (number + 1) lines) (heard reading (line_of bytes))

unfoldable pub read_of : List ℕ → Result Script ℕ
read_of bytes = if nat_lt 16777216 (length bytes) then Err 0 else read_on Nothing 1 (lines_of bytes)
