-- What a call answered, beside what the bytes are.
use Rattle.std.specs.Prelude.{◌≡◌, ℕ, Result, Ok, Err}
use Rattle.isp_serial.specs.declared.script.Script.{Script}
use Rattle.isp_script.specs.declared.error.ScriptError.{ScriptError}
use Rattle.isp_script.specs.declared.error.ScriptError.TheVariants.{Bad, OutOfMemory}

-- if a line was told, the property is one of it
abbrev pub IfBad : Result Script ScriptError → (ℕ → Type 0) → Type 0
IfBad (Ok script) holds = Unit {0}
IfBad (Err (Bad line)) holds = holds line
IfBad (Err OutOfMemory) holds = Unit {0}

-- this script was read, unless memory ran out
abbrev pub IsRead : Result Script ScriptError → Script → Type 0
IsRead (Ok read) script = read ≡ script
IsRead (Err (Bad line)) script = ⊥
IsRead (Err OutOfMemory) script = Unit {0}

-- this line was told, unless memory ran out
abbrev pub IsTold : Result Script ScriptError → ℕ → Type 0
IsTold (Ok read) line = ⊥
IsTold (Err (Bad told)) line = told ≡ line
IsTold (Err OutOfMemory) line = Unit {0}

-- a script or a line was found, unless memory ran out
abbrev pub Tells : Result Script ScriptError → Result Script ℕ → Type 0
Tells (Ok script) found = found ≡ Ok script
Tells (Err (Bad line)) found = found ≡ Err line
Tells (Err OutOfMemory) found = Unit {0}
