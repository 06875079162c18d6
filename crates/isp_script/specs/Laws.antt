-- What holds of all scripts.
use Rattle.std.specs.Prelude.{◌≡◌, ℕ, ◌≤◌, ◌==◌, false, List, [], ◌∷◌, ◌++◌, length, All, ◌⊎◌}
use Rattle.std.specs.List.{flat_map}
use Rattle.isp_serial.specs.declared.script.Script.{Script}
use Rattle.isp_serial.specs.declared.script.Session.{Session}
use Rattle.isp_script.specs.BadLines.{IsBadLine}
use Rattle.isp_script.specs.Grammar.{IsScript}
use Rattle.isp_script.specs.Lines.{lines_of}

abbrev pub HasNoFeed : List ℕ → Type 0
HasNoFeed line = All (λ b. (b == 10) ≡ false) line

-- lines with their line feeds
abbrev pub spelled : List (List ℕ) → List ℕ
spelled lines = flat_map (λ line. line ++ 10 ∷ []) lines

abbrev pub if_any : List ℕ → List (List ℕ)
if_any [] = []
if_any (b ∷ bytes) = (b ∷ bytes) ∷ []

-- lines with their line feeds, and what stands behind the last one, have these lines
abbrev pub LinesSpelled : Type 0
LinesSpelled = (lines : List (List ℕ)) (last : List ℕ) → All HasNoFeed lines → HasNoFeed last → lines_of (spelled lines ++ last) ≡ lines ++ if_any last

-- bytes are one script at most
abbrev pub OneScript : Type 0
OneScript = (bytes : List ℕ) (one other : Script) → IsScript bytes one → IsScript bytes other → one ≡ other

-- bytes have one bad line at most
abbrev pub OneBadLine : Type 0
OneBadLine = (bytes : List ℕ) (one other : ℕ) → IsBadLine bytes one → IsBadLine bytes other → one ≡ other

-- bytes that are no script have a bad line
abbrev pub ScriptOrBadLine : Type 0
ScriptOrBadLine = (bytes : List ℕ) → ((script : Script) × IsScript bytes script) ⊎ ((line : ℕ) × IsBadLine bytes line)

-- and a script has none
abbrev pub NotBoth : Type 0
NotBoth = (bytes : List ℕ) (script : Script) (line : ℕ) → IsScript bytes script → IsBadLine bytes line → ⊥

-- a statement's text has at most as many bytes as a line
abbrev pub IsShort : List ℕ → Type 0
IsShort text = length text ≤ 65536

pub record IsWithin (session : Session) : Type 0 where
  pub least : 1 ≤ session.number
  pub most : session.number ≤ 16
  pub texts : All IsShort session.texts

pub record AreWithin (script : Script) : Type 0 where
  pub setup : All IsShort script.setup
  pub sessions : All IsWithin script.sessions

abbrev pub WithinLimits : Type 0
WithinLimits = (bytes : List ℕ) (script : Script) → IsScript bytes script → AreWithin script
