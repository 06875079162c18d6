-- Reading well-known text from left to right: a value and the bytes after it, or the first fault. A fault has its cause
-- and how many bytes there are from it to the end of the text.
use Rattle.std.specs.Prelude.{◌≡◌, ℕ, zero, suc, ◌+◌, ◌-◌, ◌*◌, ◌==◌, ◌&&◌, ◌||◌, not, nat_le, nat_lt, max, ℤ, pos, neg_ℤ, Bool, true, false, List, [], ◌∷◌, ◌++◌, length, drop, Result, Ok, Err, Option, Some, None, if◌then◌else◌}
use Rattle.isp_geom.specs.declared.form.Point as p
use Rattle.isp_geom.specs.declared.form.Form.{Form}
use Rattle.isp_geom.specs.declared.form.Form.TheVariants as form
use Rattle.isp_geom.specs.Rules.{is_closed}
use Rattle.isp_wkt.specs.declared.cause.WktCause.{WktCause}
use Rattle.isp_wkt.specs.declared.cause.WktCause.TheVariants.{Truncated, NotWhole, OutOfRange, TooDeep, TooFew, Unclosed, Empty, Trailing, Unknown}
use Rattle.isp_wkt.specs.declared.cause.Fault.{Fault}
use Rattle.isp_wkt.specs.declared.cause.Stop.{Stop}
use Rattle.isp_wkt.specs.declared.cause.Stop.TheVariants.{Bad, OutOfMemory}
use Rattle.isp_wkt.specs.declared.cause.WktError.{WktError}
use Rattle.isp_wkt.specs.declared.cause.WktError.TheVariants as errors
use Rattle.isp_wkt.specs.declared.kind.Kind.{Kind}
use Rattle.isp_wkt.specs.declared.kind.Kind.TheVariants as kind
use Rattle.isp_wkt.specs.Words.{word, common}

-- a value and the bytes after it, or a fault
abbrev pub Outcome : Type 0 → Type 0
Outcome X = Result (X × List ℕ) Fault

infixl 10 ◌>>=◌
abbrev pub ◌>>=◌ : {A B : Type 0} → Result A Fault → (A → Result B Fault) → Result B Fault
(Ok x) >>= f = f x
(Err e) >>= f = Err e

-- what a call answered, with the bytes that it left, is what reading gives
abbrev pub Reads : {X : Type 0} → Result X Fault → Outcome X → List ℕ → Type 0
Reads (Ok x) read left = read ≡ Ok (x, left)
Reads (Err fault) read left = read ≡ Err fault

-- the same where memory may run out
abbrev pub Gives : {X : Type 0} → Result X Stop → Outcome X → List ℕ → Type 0
Gives (Ok x) read left = read ≡ Ok (x, left)
Gives (Err (Bad fault)) read left = read ≡ Err fault
Gives (Err OutOfMemory) read left = Unit {0}

-- what a call that only goes over bytes answered
abbrev pub ReadsForm : Result (Unit {0}) Fault → Outcome Form → Form → Type 0
ReadsForm (Ok _) read form = read ≡ Ok (form, [])
ReadsForm (Err fault) read form = read ≡ Err fault

-- a fault at the first of these bytes
abbrev pub fault : {X : Type 0} → WktCause → List ℕ → Result X Fault
fault cause bytes = Err (record { cause = cause; left = length bytes })

-- ---- bytes

abbrev pub is_blank : ℕ → Bool
is_blank b = b == 32 || b == 9

abbrev pub is_digit : ℕ → Bool
is_digit b = nat_le 48 b && nat_le b 57

-- E or e
abbrev pub is_e : ℕ → Bool
is_e b = b == 69 || b == 101

-- what is left behind the blanks at the front
abbrev pub skipped : List ℕ → List ℕ
skipped [] = []
skipped (b ∷ bs) = if is_blank b then skipped bs else b ∷ bs

-- ---- numbers

-- a coordinate's greatest size
abbrev pub limit : ℕ
limit = 1073741824

-- The digits at the front, behind others that have this value. The first that goes past the limit is a fault.
abbrev pub digits_at : ℕ → List ℕ → Outcome ℕ
digits_at size [] = Ok (size, [])
digits_at size (b ∷ bs) =
    if is_digit b then (if nat_le (size * 10 + (b - 48)) limit then digits_at (size * 10 + (b - 48)) bs else fault OutOfRange (b ∷ bs))
    else Ok (size, b ∷ bs)

-- a digit that is no zero follows the zeros of a fraction
abbrev pub nonzero_at : List ℕ → Outcome (Unit {0})
nonzero_at [] = Ok (tt, [])
nonzero_at (b ∷ bs) = if is_digit b then fault NotWhole (b ∷ bs) else Ok (tt, b ∷ bs)

-- the zeros of a fraction
abbrev pub zeros_at : List ℕ → Outcome (Unit {0})
zeros_at [] = Ok (tt, [])
zeros_at (b ∷ bs) = if b == 48 then zeros_at bs else nonzero_at (b ∷ bs)

-- a fraction, where there is one
abbrev pub fraction_at : List ℕ → Outcome (Unit {0})
fraction_at [] = Ok (tt, [])
fraction_at (b ∷ bs) = if b == 46 then zeros_at bs else Ok (tt, b ∷ bs)

-- no exponent follows a number
abbrev pub end_at : List ℕ → Outcome (Unit {0})
end_at [] = Ok (tt, [])
end_at (b ∷ bs) = if is_e b then fault NotWhole (b ∷ bs) else Ok (tt, b ∷ bs)

-- a digit is wanted
abbrev pub first_at : List ℕ → Outcome (Unit {0})
first_at [] = fault Truncated []
first_at (b ∷ bs) = if is_digit b then Ok (tt, b ∷ bs) else fault Unknown (b ∷ bs)

-- a number without its sign
unfoldable pub size_at : List ℕ → Outcome ℕ
size_at bytes = do
  first ← first_at bytes
  size ← digits_at 0 first.1
  fraction ← fraction_at size.1
  end ← end_at fraction.1
  Ok (size.0, end.1)

-- whether a minus stands there, behind the sign if there is one
abbrev pub sign_at : List ℕ → Outcome Bool
sign_at [] = Ok (false, [])
sign_at (b ∷ bs) = if b == 45 then Ok (true, bs) else (if b == 43 then Ok (false, bs) else Ok (false, b ∷ bs))

abbrev pub signed : Bool → ℕ → ℤ
signed is_negative size = if is_negative then neg_ℤ (pos size) else pos size

unfoldable pub number_at : List ℕ → Outcome ℤ
number_at bytes = do
  sign ← sign_at bytes
  size ← size_at sign.1
  Ok (signed sign.0 size.0, size.1)

-- one blank or more
abbrev pub blank_at : List ℕ → Outcome (Unit {0})
blank_at [] = fault Truncated []
blank_at (b ∷ bs) = if is_blank b then Ok (tt, skipped bs) else fault Unknown (b ∷ bs)

unfoldable pub point_at : List ℕ → Outcome p.Point
point_at bytes = do
  x ← number_at bytes
  blank ← blank_at x.1
  y ← number_at blank.1
  Ok (record { x = x.0; y = y.0 }, y.1)

-- ---- parentheses and commas

-- nothing but blanks in parentheses is a fault
abbrev pub inside_at : WktCause → List ℕ → Outcome (Unit {0})
inside_at nothing [] = Ok (tt, [])
inside_at nothing (b ∷ bs) = if b == 41 then fault nothing (b ∷ bs) else Ok (tt, b ∷ bs)

abbrev pub paren_at : WktCause → List ℕ → Outcome (Unit {0})
paren_at nothing [] = fault Truncated []
paren_at nothing (b ∷ bs) = if b == 40 then inside_at nothing (skipped bs) else (if is_e b then fault Empty (b ∷ bs) else fault Unknown (b ∷ bs))

-- an opening parenthesis with the blanks round it, and the cause where the closing one follows
abbrev pub open_at : WktCause → List ℕ → Outcome (Unit {0})
open_at nothing bytes = paren_at nothing (skipped bytes)

-- the same of a ninth collection
abbrev pub deep_paren_at : List ℕ → Outcome (Unit {0})
deep_paren_at [] = fault Truncated []
deep_paren_at (b ∷ bs) = if b == 40 then fault TooDeep (b ∷ bs) else (if is_e b then fault Empty (b ∷ bs) else fault Unknown (b ∷ bs))

-- whether a list goes on, behind a comma and blanks, or ends, behind its parenthesis
abbrev pub comma_at : List ℕ → Outcome Bool
comma_at [] = fault Truncated []
comma_at (b ∷ bs) = if b == 44 then Ok (true, skipped bs) else (if b == 41 then Ok (false, bs) else fault Unknown (b ∷ bs))

abbrev pub more_at : List ℕ → Outcome Bool
more_at bytes = comma_at (skipped bytes)

abbrev pub shut_at : List ℕ → Outcome (Unit {0})
shut_at [] = fault Truncated []
shut_at (b ∷ bs) = if b == 41 then Ok (tt, bs) else fault Unknown (b ∷ bs)

abbrev pub close_at : List ℕ → Outcome (Unit {0})
close_at bytes = shut_at (skipped bytes)

-- a member of a list, and whether the list goes on behind it
abbrev pub member_at : {X : Type 0} → (List ℕ → Outcome X) → List ℕ → Outcome (X × Bool)
member_at item bytes = do
  member ← item bytes
  more ← more_at member.1
  Ok ((member.0, more.0), more.1)

-- what a call answered that puts a member behind those found: whether the list goes on, with the bytes that it left
abbrev pub Adds : {X : Type 0} → Result Bool Stop → Outcome (X × Bool) → List X → List X → List ℕ → Type 0
Adds {X} (Ok goes_on) read old new left = (next : X) × (new ≡ old ++ next ∷ []) × (read ≡ Ok ((next, goes_on), left))
Adds (Err (Bad fault)) read old new left = read ≡ Err fault
Adds (Err OutOfMemory) read old new left = Unit {0}

-- Members up to the closing parenthesis. Each takes a byte at least, so that none is left behind so many.
abbrev pub items_at : {X : Type 0} → (List ℕ → Outcome X) → ℕ → List ℕ → Outcome (List X)
items_at item zero bytes = fault Truncated bytes
items_at item (suc n) bytes = do
  first ← member_at item bytes
  if first.0.1 then (items_at item n first.1 >>= λ others. Ok (first.0.0 ∷ others.0, others.1)) else Ok (first.0.0 ∷ [], first.1)

-- members in parentheses
unfoldable pub list_at : {X : Type 0} → WktCause → (List ℕ → Outcome X) → List ℕ → Outcome (List X)
list_at nothing item bytes = do
  opened ← open_at nothing bytes
  items_at item (length opened.1) opened.1

-- ---- the kinds

-- the rules of a line that was read, with the bytes behind its parenthesis
abbrev pub ruled : Bool → List p.Point → List ℕ → Outcome (List p.Point)
ruled is_ring ps left =
    if nat_lt (length ps) (if is_ring then 4 else 2) then Err (record { cause = TooFew; left = length left + 1 })
    else (if is_ring && not (is_closed ps) then Err (record { cause = Unclosed; left = length left + 1 }) else Ok (ps, left))

-- a line, or a ring
unfoldable pub line_at : Bool → List ℕ → Outcome (List p.Point)
line_at is_ring bytes = do
  points ← list_at TooFew point_at bytes
  ruled is_ring points.0 points.1

-- lines, or rings
abbrev pub lines_at : Bool → List ℕ → Outcome (List (List p.Point))
lines_at are_rings = list_at Empty (line_at are_rings)

-- a point in parentheses
unfoldable pub single_at : List ℕ → Outcome p.Point
single_at bytes = do
  opened ← open_at Empty bytes
  point ← point_at opened.1
  close ← close_at point.1
  Ok (point.0, close.1)

-- a point of a MULTIPOINT, with or without parentheses
abbrev pub marked_at : List ℕ → Outcome p.Point
marked_at [] = point_at []
marked_at (b ∷ bs) = if b == 40 then single_at (b ∷ bs) else point_at (b ∷ bs)

-- no word goes on
abbrev pub unknown_at : List ℕ → Outcome Kind
unknown_at [] = fault Truncated []
unknown_at (b ∷ bs) = fault Unknown (b ∷ bs)

-- the word of a kind: the one of these that the bytes begin with, or a fault behind the longest front of one
abbrev pub word_in : List Kind → ℕ → List ℕ → Outcome Kind
word_in [] most bytes = unknown_at (drop most bytes)
word_in (k ∷ ks) most bytes =
    if common (word k) bytes == length (word k) then Ok (k, drop (common (word k) bytes) bytes)
    else word_in ks (max most (common (word k) bytes)) bytes

unfoldable pub kinds : List Kind
kinds = kind.Point ∷ kind.LineString ∷ kind.Polygon ∷ kind.MultiPoint ∷ kind.MultiLineString ∷ kind.MultiPolygon ∷ kind.Collection ∷ []

-- a form is made of what is read
abbrev pub made : {X : Type 0} → (X → Form) → Outcome X → Outcome Form
made form read = read >>= λ x. Ok (form x.0, x.1)

-- what stands behind a word, with a way to read the members of a collection
abbrev pub body_at : (List ℕ → Outcome (List Form)) → Kind → List ℕ → Outcome Form
body_at members kind.Point bytes = made form.Point (single_at bytes)
body_at members kind.LineString bytes = made form.LineString (line_at false bytes)
body_at members kind.Polygon bytes = made form.Polygon (lines_at true bytes)
body_at members kind.MultiPoint bytes = made form.MultiPoint (list_at Empty marked_at bytes)
body_at members kind.MultiLineString bytes = made form.MultiLineString (lines_at false bytes)
body_at members kind.MultiPolygon bytes = made form.MultiPolygon (list_at Empty (lines_at true) bytes)
body_at members kind.Collection bytes = made form.Collection (members bytes)

-- the ninth collection is a fault
abbrev pub deep_at : List ℕ → Outcome (List Form)
deep_at bytes = deep_paren_at (skipped bytes) >>= λ opened. fault TooDeep opened.1

-- a geometry, with a way to read the members of a collection
unfoldable pub geometry_at : (List ℕ → Outcome (List Form)) → List ℕ → Outcome Form
geometry_at members bytes = do
  kind ← word_in kinds 0 bytes
  body_at members kind.0 kind.1

-- the members of a collection, where so many collections may still nest, it counted
unfoldable pub members_at : ℕ → List ℕ → Outcome (List Form)
members_at zero bytes = deep_at bytes
members_at (suc depth) bytes = list_at Empty (geometry_at (members_at depth)) bytes

-- nothing but blanks behind it
abbrev pub rest_at : Form → List ℕ → Outcome Form
rest_at form [] = Ok (form, [])
rest_at form (b ∷ bs) = fault Trailing (b ∷ bs)

-- the geometry of a text
unfoldable pub text_at : List ℕ → Outcome Form
text_at text = geometry_at (members_at 8) (skipped text) >>= λ form. rest_at form.0 (skipped form.1)

-- the cause of the fault of a text and its place, if it has one
abbrev pub fault_in : ℕ → Outcome Form → Option (WktCause × ℕ)
fault_in len (Ok x) = None
fault_in len (Err f) = Some (f.cause, len - f.left)

abbrev pub fault_of : List ℕ → Option (WktCause × ℕ)
fault_of text = fault_in (length text) (text_at text)

-- what a text was answered is what reading gives
abbrev pub Answers : Result Form WktError → List ℕ → Type 0
Answers (Ok form) text = text_at text ≡ Ok (form, [])
Answers (Err (errors.Bad cause at)) text = fault_of text ≡ Some (cause, at)
Answers (Err errors.OutOfMemory) text = Unit {0}

-- this form was read, unless memory ran out
abbrev pub IsRead : Result Form WktError → Form → Type 0
IsRead (Ok read) form = read ≡ form
IsRead (Err (errors.Bad cause at)) form = ⊥
IsRead (Err errors.OutOfMemory) form = Unit {0}
