-- When the front of a text still goes on, where the fault of a text stands, and what its cause says of the bytes there:
-- all by the grammar, and not by a way of reading (the rules are this project's own).
use Rattle.std.specs.Prelude.{◌≡◌, ℕ, ◌+◌, ◌-◌, ◌*◌, ◌<◌, ◌≤◌, ◌==◌, ℤ, true, false, ◌⊎◌, List, [], ◌∷◌, ◌++◌, length, map, take, drop, Result, Ok, Err}
use Rattle.std.specs.List.{list_all}
use Rattle.isp_geom.specs.declared.form.Point as p
use Rattle.isp_geom.specs.declared.form.Form.{Form}
use Rattle.isp_geom.specs.Rules.{is_closed}
use Rattle.isp_wkt.specs.declared.cause.WktCause.{WktCause}
use Rattle.isp_wkt.specs.declared.cause.WktCause.TheVariants.{Truncated, NotWhole, OutOfRange, TooDeep, TooFew, Unclosed, Empty, Trailing, Unknown}
use Rattle.isp_wkt.specs.declared.cause.WktError.{WktError}
use Rattle.isp_wkt.specs.declared.cause.WktError.TheVariants as errors
use Rattle.isp_wkt.specs.declared.kind.Kind.TheVariants as kind
use Rattle.isp_wkt.specs.Words.{word, upper}
use Rattle.isp_wkt.specs.Reading.{is_blank, is_digit, is_e, limit}
use Rattle.isp_wkt.specs.Grammar.{AreBlanks, value_of, IsNumber, IsPair, IsList, IsTextOf, IsText}

-- some text whose geometry has at most so many levels begins with this front
abbrev pub Begins : ℕ → List ℕ → Type 0
Begins levels front = (more : List ℕ) × (form : Form) × IsTextOf levels form (front ++ more)

-- A front goes on where a text of the grammar begins with it, but the depth of collections is tested at their `(` alone:
-- a text of one level more begins with the front, and texts of the grammar begin with each part of it up to a `(`.
pub record GoesOn (front : List ℕ) : Type 0 where
  pub begins : Begins 10 front
  pub opened : (part rest : List ℕ) → front ≡ part ++ 40 ∷ rest → Begins 9 (part ++ 40 ∷ [])

-- the place of the fault of a text: the bytes before it go on, and the byte at it does not
pub record IsFaultPlace (text : List ℕ) (at : ℕ) : Type 0 where
  pub outside : (form : Form) → IsText form text → ⊥
  pub within : at ≤ length text
  pub before : GoesOn (take at text)
  pub stops : at < length text → GoesOn (take (at + 1) text) → ⊥

-- the word of a collection in any case with blanks behind it, or a front of the word
pub record IsCollectionWord (text : List ℕ) : Type 0 where
  pub front : List ℕ
  pub more : List ℕ
  pub blanks : List ℕ
  pub parts : text ≡ front ++ blanks
  pub spells : map upper front ++ more ≡ word kind.Collection
  pub blank : AreBlanks blanks
  pub whole : (more ≡ []) ⊎ (blanks ≡ [])

-- a front that ends in the word of a collection, which may be a ninth one: it begins a text of one level more
pub record EndsInNinth (front : List ℕ) : Type 0 where
  pub part : List ℕ
  pub ninth : List ℕ
  pub parts : front ≡ part ++ ninth
  pub goes_on : Begins 9 part
  pub spells : IsCollectionWord ninth
  pub deeper : Begins 10 front

-- ---- causes

-- the last bytes of a front
abbrev pub EndsIn : (List ℕ → Type 0) → List ℕ → Type 0
EndsIn Last front = (start : List ℕ) × (last : List ℕ) × (front ≡ start ++ last) × Last last

-- an opening parenthesis with nothing but blanks behind it
abbrev pub IsOpening : List ℕ → Type 0
IsOpening text = (blanks : List ℕ) × (text ≡ 40 ∷ blanks) × AreBlanks blanks

-- a digit 1 to 9 in a fraction, or E or e, directly after a number
abbrev pub BreaksNumber : ℕ → List ℕ → Type 0
BreaksNumber b number =
    (z : ℤ) × IsNumber z number
    × ((is_e b ≡ true) ⊎ ((is_digit b ≡ true) × ((b == 48) ≡ false) × (digits : List ℕ) × (zeros : List ℕ) × (number ≡ digits ++ 46 ∷ zeros) × (list_all (λ c. c == 48) zeros ≡ true)))

-- a digit behind others that takes their value past the limit
abbrev pub PassesLimit : ℕ → List ℕ → Type 0
PassesLimit b digits =
    (is_digit b ≡ true) × (list_all is_digit digits ≡ true) × (value_of digits ≤ limit) × (limit < value_of digits * 10 + (b - 48))

-- a parenthesis that ends a list of less than 4 points, or of none
abbrev pub EndsFew : ℕ → List ℕ → Type 0
EndsFew b text = (b ≡ 41) × (IsOpening text ⊎ ((ps : List p.Point) × IsList IsPair ps (text ++ 41 ∷ []) × (length ps < 4)))

-- a parenthesis that ends a list of 4 points or more whose last isn't the first
abbrev pub EndsOpen : ℕ → List ℕ → Type 0
EndsOpen b text = (b ≡ 41) × (ps : List p.Point) × IsList IsPair ps (text ++ 41 ∷ []) × (4 ≤ length ps) × (is_closed ps ≡ false)

-- E or e where a `(` could stand, or a parenthesis with nothing but blanks between it and the last opening one
abbrev pub IsNothing : ℕ → List ℕ → Type 0
IsNothing b front = ((is_e b ≡ true) × Begins 10 (front ++ 40 ∷ [])) ⊎ ((b ≡ 41) × EndsIn IsOpening front)

-- What a cause says of the bytes before its place and of those from the place on.
abbrev pub IsCause : WktCause → List ℕ → List ℕ → Type 0
IsCause cause front [] = cause ≡ Truncated
IsCause Truncated front (b ∷ rest) = ⊥
IsCause NotWhole front (b ∷ rest) = EndsIn (BreaksNumber b) front
IsCause OutOfRange front (b ∷ rest) = EndsIn (PassesLimit b) front
IsCause TooDeep front (b ∷ rest) = (b ≡ 40) × Begins 10 (front ++ b ∷ [])
IsCause TooFew front (b ∷ rest) = EndsIn (EndsFew b) front
IsCause Unclosed front (b ∷ rest) = EndsIn (EndsOpen b) front
IsCause Empty front (b ∷ rest) = IsNothing b front
IsCause Trailing front (b ∷ rest) = (is_blank b ≡ false) × (form : Form) × IsText form front
IsCause Unknown front (b ∷ rest) = Unit {0}

-- the place and the cause that a text was answered
abbrev pub StandsAt : {X : Type 0} → Result X WktError → List ℕ → Type 0
StandsAt (Ok value) text = Unit {0}
StandsAt (Err (errors.Bad cause at)) text = IsFaultPlace text at × IsCause cause (take at text) (drop at text)
StandsAt (Err errors.OutOfMemory) text = Unit {0}
