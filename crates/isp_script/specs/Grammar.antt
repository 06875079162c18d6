-- The grammar of scripts, as a relation: what the lines that count say, in their order, is what the script spells.
use Rattle.std.specs.Prelude.{◌≡◌, ℕ, ◌≤◌, ◌<◌, false, List, [], ◌∷◌, ◌++◌, length, map}
use Rattle.std.specs.List.{filter_map}
use Rattle.isp_serial.specs.declared.script.Script.{Script}
use Rattle.isp_serial.specs.declared.script.Session.{Session}
use Rattle.isp_script.specs.Lines.{line_of, lines_of}
use Rattle.isp_script.specs.declared.lines.Line.{Line}
use Rattle.isp_script.specs.declared.lines.Line.TheVariants as line

-- blank lines and comments are skipped wherever they stand
abbrev pub said_in : List (List ℕ) → List Line
said_in lines = filter_map line_of lines

abbrev pub sessions_said : List Session → List Line
sessions_said [] = []
sessions_said (s ∷ sessions) = line.Session s.number ∷ map line.Statement s.texts ++ sessions_said sessions

-- `setup` and its statements, the sessions with theirs, `schedule`, `end`
abbrev pub script_said : List (List ℕ) → List Session → List Line
script_said setup sessions = line.Setup ∷ map line.Statement setup ++ (sessions_said sessions ++ line.Schedule ∷ line.End ∷ [])

-- the numbers of sessions rise
abbrev pub Rises : List Session → Type 0
Rises [] = Unit {0}
Rises (s ∷ []) = Unit {0}
Rises (s ∷ t ∷ sessions) = (s.number < t.number) × Rises (t ∷ sessions)

abbrev pub AtMostOne : List Session → Type 0
AtMostOne [] = Unit {0}
AtMostOne (s ∷ []) = Unit {0}
AtMostOne (s ∷ t ∷ sessions) = ⊥

-- what is built of scripts: one session at most, and no word of a schedule
pub record IsBuilt (script : Script) : Type 0 where
  pub one : AtMostOne script.sessions
  pub no_words : script.words ≡ []
  pub no_stop : script.stop ≡ false

-- the lines are this script
pub record IsScriptOfLines (lines : List (List ℕ)) (script : Script) : Type 0 where
  pub said : said_in lines ≡ script_said script.setup script.sessions
  pub rising : Rises script.sessions
  pub built : IsBuilt script

-- the bytes are this script
pub record IsScript (bytes : List ℕ) (script : Script) : Type 0 where
  pub most : length bytes ≤ 16777216
  pub lines : IsScriptOfLines (lines_of bytes) script
