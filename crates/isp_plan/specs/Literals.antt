-- What a value says that is written for a column. Each bad value has one cause: first that its form is not the column's,
-- then that a number is outside of 64 bits, that a text is too long, or the fault in a geometry's text.
use Rattle.std.specs.Prelude.{ℕ, ◌-◌, Bool, nat_le, List, length, Result, Ok, Err}
use Rattle.isp_geom.specs.declared.form.Form.{Form}
use Rattle.isp_wkt.specs.Reading.{Outcome, text_at}
use Rattle.isp_plain.specs.declared.value.Kind.{Kind}
use Rattle.isp_plain.specs.declared.value.Kind.TheVariants as kind
use Rattle.isp_plain.specs.declared.value.Value.{Value}
use Rattle.isp_plain.specs.declared.value.Value.TheVariants as value
use Rattle.isp_sql.specs.declared.parsed.Literal.{Literal}
use Rattle.isp_sql.specs.declared.parsed.Literal.TheVariants as literal
use Rattle.isp_plain.specs.declared.refusal.Refusal.{Refusal}
use Rattle.isp_plain.specs.declared.refusal.Refusal.TheVariants.{WrongType, OutOfRange, TooLong, Geometry}
use Rattle.isp_plan.specs.Numbers.{number_of}
use Rattle.isp_plan.specs.Refusals.{◌>>=◌, ensure, known}

-- a number of 64 bits
abbrev pub int_of : Bool → List ℕ → Result Value Refusal
int_of minus digits = do
  n ← known OutOfRange (number_of minus digits)
  Ok (value.Int n)

-- a text of at most so many bytes
abbrev pub text_within : ℕ → List ℕ → Result Value Refusal
text_within most text = do
  fits ← ensure TooLong (nat_le (length text) most)
  Ok (value.Text text)

-- the geometry that was read from a text of this length, or its fault with the place
abbrev pub read_in : ℕ → Outcome Form → Result Form Refusal
read_in len (Ok read) = Ok read.0
read_in len (Err fault) = Err (Geometry fault.cause (len - fault.left))

-- the geometry of a text; no text is longer than a line of a script
unfoldable pub geometry_of : List ℕ → Result Form Refusal
geometry_of text = do
  short ← ensure TooLong (nat_le (length text) 65536)
  read_in (length text) (text_at text)

abbrev pub geo_of : List ℕ → Result Value Refusal
geo_of text = do
  form ← geometry_of text
  Ok (value.Geo form)

-- a value that is stored in a column of the kind
abbrev pub stored : Kind → Literal → Result Value Refusal
stored kind.BigInt (literal.Number minus digits) = int_of minus digits
stored (kind.VarChar size) (literal.Text text) = text_within size text
stored kind.Geo (literal.Wkt text) = geo_of text
stored _ _ = Err WrongType

-- a value that a column of the kind is compared with: a geometry is compared with nothing
abbrev pub compared : Kind → Literal → Result Value Refusal
compared kind.BigInt (literal.Number minus digits) = int_of minus digits
compared (kind.VarChar size) (literal.Text text) = Ok (value.Text text)
compared _ _ = Err WrongType
