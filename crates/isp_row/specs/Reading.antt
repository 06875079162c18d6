-- Reading from the front of bytes, as the code does: what is read and the bytes behind it, or nothing. `RowSpelling` says what
-- it means.
use Rattle.std.specs.Prelude.{◌≡◌, ℕ, ℤ, Bool, true, false, nat_le, List, [], ◌∷◌, ◌++◌, length, take, drop, Option, Some, None, Result, Ok, Err, ⊤, if◌then◌else◌}
use Rattle.std.specs.Int.{cast_signed, w64}
use Rattle.byteorder.specs.Endian.{big_number}
use Rattle.isp_geom.specs.Reading.{◌>>=◌, count_at, form_at, is_empty, whole_at}
use Rattle.isp_geom.specs.Rules.{is_form}
use Rattle.isp_geom.specs.declared.form.Form.{Form}
use Rattle.isp_plain.specs.declared.value.Column.{Column}
use Rattle.isp_plain.specs.declared.value.Kind.{Kind}
use Rattle.isp_plain.specs.declared.value.Kind.TheVariants as kind
use Rattle.isp_plain.specs.declared.value.Value.{Value}
use Rattle.isp_plain.specs.declared.value.Value.TheVariants.{Int, Text, Geo}
use Rattle.isp_row.specs.declared.error.RowError.{RowError}
use Rattle.isp_row.specs.declared.error.RowError.TheVariants.{NotRow, OutOfMemory}

-- what a call answered is what reading gives
abbrev pub Finds : {X : Type 0} → Result X RowError → Option X → Type 0
Finds (Ok x) read = read ≡ Some x
Finds (Err NotRow) read = read ≡ None
Finds (Err OutOfMemory) read = Unit {0}

-- the same where the call left these bytes
abbrev pub Gives : {X : Type 0} → Result X RowError → Option (X × List ℕ) → List ℕ → Type 0
Gives (Ok x) read left = read ≡ Some (x, left)
Gives (Err NotRow) read left = read ≡ None
Gives (Err OutOfMemory) read left = Unit {0}

-- what stood on a list before, and what is read
abbrev pub behind : {X : Type 0} → List X → Option (List X × List ℕ) → Option (List X × List ℕ)
behind front read = read >>= λ x. Some (front ++ x.0, x.1)

-- the same of a call that adds to a list what it reads
abbrev pub Adds : {X : Type 0} → Result ⊤ RowError → List X → List X → Option (List X × List ℕ) → List ℕ → Type 0
Adds (Ok done) old new read left = behind old read ≡ Some (new, left)
Adds (Err NotRow) old new read left = read ≡ None
Adds (Err OutOfMemory) old new read left = Unit {0}

-- the next eight bytes as a number
abbrev pub number_at : List ℕ → Option (ℕ × List ℕ)
number_at (a ∷ b ∷ c ∷ d ∷ e ∷ f ∷ g ∷ h ∷ rest) = Some (big_number 8 (a ∷ b ∷ c ∷ d ∷ e ∷ f ∷ g ∷ h ∷ []), rest)
number_at _ = None

-- so many of the next bytes
abbrev pub front_at : ℕ → List ℕ → Option (List ℕ × List ℕ)
front_at size bytes = if nat_le size (length bytes) then Some (take size bytes, drop size bytes) else None

-- the bytes behind their length
abbrev pub piece_at : List ℕ → Option (List ℕ × List ℕ)
piece_at bytes = count_at bytes >>= λ size. front_at size.0 size.1

-- the geometry that all of the bytes spell
abbrev pub geometry_in : List ℕ → Option Form
geometry_in bytes = whole_at (form_at 9 bytes) >>= λ x. (if is_form 9 x.0 then Some x.0 else None)

-- a text of so many bytes at most
abbrev pub text_within : ℕ → List ℕ → Option Value
text_within most text = if nat_le (length text) most then Some (Text text) else None

-- a value of a column of that kind
abbrev pub value_at : Kind → List ℕ → Option (Value × List ℕ)
value_at kind.BigInt bytes = number_at bytes >>= λ n. Some (Int (cast_signed w64 n.0), n.1)
value_at (kind.VarChar most) bytes = piece_at bytes >>= λ p. text_within most p.0 >>= λ v. Some (v, p.1)
value_at kind.Geo bytes = piece_at bytes >>= λ p. geometry_in p.0 >>= λ f. Some (Geo f, p.1)

abbrev pub column_at : Column → List ℕ → Option (List Value × List ℕ)
column_at column bytes = value_at column.kind bytes >>= λ v. Some (v.0 ∷ [], v.1)

-- the number of a column's entry, where it has an index
abbrev pub entry_at : Column → List ℕ → Option (List ℕ × List ℕ)
entry_at column bytes = if column.indexed then number_at bytes >>= (λ n. Some (n.0 ∷ [], n.1)) else Some ([], bytes)

-- what is read for each column, one behind the other
abbrev pub each_at : {X : Type 0} → (Column → List ℕ → Option (List X × List ℕ)) → List Column → List ℕ → Option (List X × List ℕ)
each_at read [] bytes = Some ([], bytes)
each_at read (column ∷ columns) bytes = read column bytes >>= λ first. behind first.0 (each_at read columns first.1)

abbrev pub is_number : Kind → Bool
is_number kind.BigInt = true
is_number _ = false

-- the values of a row with that key
abbrev pub values_at : List Column → ℤ → List ℕ → Option (List Value × List ℕ)
values_at [] key bytes = None
values_at (first ∷ columns) key bytes = if is_number first.kind then behind (Int key ∷ []) (each_at column_at columns bytes) else None

-- nothing may follow
abbrev pub closed : List Value × List ℕ → List ℕ → Option (List Value × List ℕ)
closed got left = if is_empty left then Some got else None

-- the values of the row with that key that all of the bytes spell, and the numbers of its entries
unfoldable pub row_in : List Column → ℤ → List ℕ → Option (List Value × List ℕ)
row_in columns key bytes = do
  numbers ← each_at entry_at columns bytes
  values ← values_at columns key numbers.1
  closed (values.0, numbers.0) values.1
