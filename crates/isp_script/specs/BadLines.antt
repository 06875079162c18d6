-- Which line of bytes that are no script is the first bad one.
use Rattle.std.specs.Prelude.{◌≡◌, ℕ, ◌≤◌, ◌<◌, ◌+◌, List, ◌++◌, length, take, ◌⊎◌}
use Rattle.isp_serial.specs.declared.script.Script.{Script}
use Rattle.isp_script.specs.Grammar.{IsScriptOfLines}
use Rattle.isp_script.specs.Lines.{lines_of}

-- more lines behind these can make a script
abbrev pub Begins : List (List ℕ) → Type 0
Begins lines = (more : List (List ℕ)) × (script : Script) × IsScriptOfLines (lines ++ more) script

-- The lines before it begin a script. Up to it they begin none, or it is the one behind the last and they are none.
pub record IsFirstBad (lines : List (List ℕ)) (line : ℕ) : Type 0 where
  pub before : (n : ℕ) → n < line → Begins (take n lines)
  pub here :
      ((line ≤ length lines) × (Begins (take line lines) → ⊥))
      ⊎ ((line ≡ length lines + 1) × ((script : Script) → IsScriptOfLines lines script → ⊥))

-- lines count from 1; line 0 stands for bytes that are too many
pub record IsBadLine (bytes : List ℕ) (line : ℕ) : Type 0 where
  pub too_long : 16777216 < length bytes → line ≡ 0
  pub first : length bytes ≤ 16777216 → IsFirstBad (lines_of bytes) line
