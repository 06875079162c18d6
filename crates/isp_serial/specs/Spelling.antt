-- The lines that answers are printed as, and the answers that printed bytes spell.
use Rattle.std.specs.Prelude.{◌≡◌, ℕ, ◌^◌, ◌<◌, true, List, [], ◌∷◌, ◌++◌, All}
use Rattle.std.specs.Fmt.{decimal}
use Rattle.std.specs.List.{flat_map}
use Rattle.isp_plain.specs.Lined.{is_one_line}
use Rattle.isp_serial.specs.Answers.{Answer}

-- the line `T S.N text` and its line feed
abbrev pub line_of : Answer → List ℕ
line_of a = decimal a.turn ++ 32 ∷ (decimal a.session ++ 46 ∷ (decimal a.number ++ 32 ∷ (a.text ++ 10 ∷ [])))

-- an answer that a line can show: numbers of 64 bits, and a text without a line feed
pub record IsShown (a : Answer) : Type 0 where
  pub turn : a.turn < 2 ^ 64
  pub session : a.session < 2 ^ 64
  pub number : a.number < 2 ^ 64
  pub text : is_one_line a.text ≡ true

-- the bytes are the lines of these answers, and at most the beginning of one more
pub record Spells (out : List ℕ) (answers : List Answer) : Type 0 where
  pub rest : List ℕ
  pub lines : out ≡ flat_map line_of answers ++ rest
  pub unfinished : is_one_line rest ≡ true
  pub shown : All IsShown answers

-- bytes spell one list of answers at the most
abbrev pub SpelledOnce : Type 0
SpelledOnce = (out : List ℕ) (a b : List Answer) → Spells out a → Spells out b → a ≡ b
