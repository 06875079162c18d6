-- What holds of all texts.
use Rattle.std.specs.Prelude.{◌≡◌, ℕ, ◌+◌, ◌<◌, ◌≤◌, ◌⊎◌, ◌↔◌, List, ◌∷◌, ◌++◌, false, length, take, drop, Some, None}
use Rattle.isp_geom.specs.declared.form.Form.{Form}
use Rattle.isp_geom.specs.Rules.{IsGeometry}
use Rattle.isp_wkt.specs.Faults.{Begins, GoesOn, IsFaultPlace, EndsInNinth, EndsIn, BreaksNumber, PassesLimit, IsCause}
use Rattle.isp_wkt.specs.Grammar.{IsText}
use Rattle.isp_wkt.specs.Printed.{printed}
use Rattle.isp_wkt.specs.Reading.{is_blank, fault_of}
use Rattle.isp_wkt.specs.declared.cause.WktCause.{WktCause}
use Rattle.isp_wkt.specs.declared.cause.WktCause.TheVariants.{Truncated, NotWhole, OutOfRange, TooDeep, Trailing}

-- a text means one geometry at most
abbrev pub OneMeaning : Type 0
OneMeaning = (g h : Form) (text : List ℕ) → IsText g text → IsText h text → g ≡ h

-- the printed form of a geometry means it
abbrev pub PrintedTextMeans : Type 0
PrintedTextMeans = (g : Form) → IsGeometry g → IsText g (printed g)

-- no text of the grammar goes on behind the byte at a fault
abbrev pub FaultsStop : Type 0
FaultsStop =
    (text more : List ℕ) (cause : WktCause) (at : ℕ) (form : Form) → fault_of text ≡ Some (cause, at) → at < length text → IsText form (take (at + 1) text ++ more) → ⊥

-- a text has no fault exactly where it means a geometry
abbrev pub FaultsOutside : Type 0
FaultsOutside = (text : List ℕ) → (fault_of text ≡ None) ↔ ((form : Form) × IsText form text)

-- the place of a fault is the place of the text's fault by the grammar
abbrev pub FaultPlaces : Type 0
FaultPlaces = (text : List ℕ) (cause : WktCause) (at : ℕ) → fault_of text ≡ Some (cause, at) → IsFaultPlace text at

-- that place is behind each front that goes on
abbrev pub LongestFront : Type 0
LongestFront = (text : List ℕ) (at n : ℕ) → IsFaultPlace text at → n ≤ length text → GoesOn (take n text) → n ≤ at

-- a text has one such place at most
abbrev pub OneFaultPlace : Type 0
OneFaultPlace = (text : List ℕ) (a b : ℕ) → IsFaultPlace text a → IsFaultPlace text b → a ≡ b

-- what goes on: the fronts of texts of the grammar, and those that end in the word of a ninth collection
abbrev pub FrontsGoOn : Type 0
FrontsGoOn = (front : List ℕ) → GoesOn front ↔ (Begins 9 front ⊎ EndsInNinth front)

-- what the cause of a fault says of the bytes round its place is true
abbrev pub CausesHold : Type 0
CausesHold = (text : List ℕ) (cause : WktCause) (at : ℕ) → fault_of text ≡ Some (cause, at) → IsCause cause (take at text) (drop at text)

-- a text that goes on and means no geometry is Truncated at its end
abbrev pub EndsEarly : Type 0
EndsEarly = (text : List ℕ) → GoesOn text → ((form : Form) → IsText form text → ⊥) → fault_of text ≡ Some (Truncated, length text)

-- a byte other than a blank behind a text of the grammar is Trailing
abbrev pub StandsBehind : Type 0
StandsBehind = (form : Form) (front rest : List ℕ) (b : ℕ) → IsText form front → is_blank b ≡ false → fault_of (front ++ b ∷ rest) ≡ Some (Trailing, length front)

-- a byte at a fault that goes on where collections may nest one deeper is TooDeep
abbrev pub GoesDeeper : Type 0
GoesDeeper = (text : List ℕ) (cause : WktCause) (at : ℕ) → fault_of text ≡ Some (cause, at) → at < length text → Begins 10 (take (at + 1) text) → cause ≡ TooDeep

-- a digit 1 to 9 in a fraction, E or e directly after a number: it is NotWhole where it is the fault
abbrev pub BreaksNumbers : Type 0
BreaksNumbers =
    (front rest : List ℕ) (b : ℕ) (cause : WktCause) → fault_of (front ++ b ∷ rest) ≡ Some (cause, length front) → EndsIn (BreaksNumber b) front → cause ≡ NotWhole

-- a digit that takes the digits before it past the limit is OutOfRange where it is the fault
abbrev pub PassesLimits : Type 0
PassesLimits =
    (front rest : List ℕ) (b : ℕ) (cause : WktCause) → fault_of (front ++ b ∷ rest) ≡ Some (cause, length front) → EndsIn (PassesLimit b) front → cause ≡ OutOfRange
