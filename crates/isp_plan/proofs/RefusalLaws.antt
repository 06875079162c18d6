-- What a chain of checks gives: each value that holds of what it is made of, or a refusal that is neither a full file's nor
-- a deadlock's.
use Rattle.std.proofs.Common.{◌≡◌, ℕ, ◌+◌, Bool, true, false, not, nat_lt, nat_le, length, List, [], ◌∷◌, refl, Option, Some, None, Result, Ok, Err}
use Rattle.isp_mbr.specs.declared.predicate.Test.{Test}
use Rattle.isp_geom.specs.declared.form.Form.{Form}
use Rattle.isp_wkt.specs.Reading.{Outcome, text_at}
use Rattle.isp_plain.specs.declared.refusal.Refusal.{Refusal}
use Rattle.isp_plain.specs.declared.refusal.Refusal.TheVariants as refusal
use Rattle.isp_plain.specs.declared.statement.Atom.{Atom}
use Rattle.isp_plain.specs.declared.statement.Atom.TheVariants as atom
use Rattle.isp_plain.specs.declared.statement.Op.{Op}
use Rattle.isp_plain.specs.declared.value.Column.{Column}
use Rattle.isp_plain.specs.declared.value.Kind.{Kind}
use Rattle.isp_plain.specs.declared.value.Kind.TheVariants as kind
use Rattle.isp_plain.specs.declared.value.Schema.{Schema}
use Rattle.isp_plain.specs.declared.value.Value.TheVariants as value
use Rattle.isp_plain.specs.Refusals.{is_own}
use Rattle.isp_plain.specs.Values.{box_of}
use Rattle.isp_sql.specs.declared.parsed.Literal.{Literal}
use Rattle.isp_sql.specs.declared.parsed.Literal.TheVariants as literals
use Rattle.isp_sql.specs.declared.parsed.ParsedAtom.{ParsedAtom}
use Rattle.isp_sql.specs.declared.parsed.ParsedAtom.TheVariants as written
use Rattle.isp_sql.specs.declared.parsed.ParsedColumn.{ParsedColumn}
use Rattle.isp_sql.specs.declared.parsed.ParsedKind.{ParsedKind}
use Rattle.isp_sql.specs.declared.parsed.ParsedKind.TheVariants as parsed_kind
use Rattle.isp_plan.specs.Binding.{atom_of, box_test, comparison, condition_of, is_geometry, named, number_named, shown}
use Rattle.isp_plan.specs.Creating.{are_distinct, are_indexes, are_short, column_limit, column_of, has_column, has_name, index_limit, key_column, keyed, kind_of, schema_of, size_limit}
use Rattle.isp_plan.specs.Literals.{compared, geometry_of, int_of, read_in}
use Rattle.isp_plan.specs.Numbers.{number_of, value_of}
use Rattle.isp_plan.specs.Refusals.{◌>>=◌, each, ensure, known}

-- ---- what holds of each value that a step gives, and of each refusal

-- the value has P, or the refusal is neither a full file's nor a deadlock's
abbrev pub Holds : {X : Type 0} → (X → Type 0) → Result X Refusal → Type 0
Holds P (Ok x) = P x
Holds P (Err r) = is_own r ≡ true

-- the refusal is neither a full file's nor a deadlock's
abbrev pub RefusesOwn : {X : Type 0} → Result X Refusal → Type 0
RefusesOwn given = Holds (λ x. Unit {0}) given

pub with : {A B : Type 0} (Q : A → Type 0) (P : B → Type 0) (x : Result A Refusal) (f : A → Result B Refusal) → Holds Q x → ((a : A) → Q a → Holds P (f a)) → Holds P (x >>= f)
with Q P (Ok a) f first later = later a first
with Q P (Err r) f first later = first

pub any : {A B : Type 0} (P : B → Type 0) (x : Result A Refusal) (f : A → Result B Refusal) → RefusesOwn x → ((a : A) → Holds P (f a)) → Holds P (x >>= f)
any P (Ok a) f first later = later a
any P (Err r) f first later = first

-- a check, and a look-up, that refuse with this
pub checks : (r : Refusal) (b : Bool) → is_own r ≡ true → RefusesOwn (ensure r b)
checks r true own = tt
checks r false own = own

pub looks_up : {X : Type 0} (r : Refusal) (found : Option X) → is_own r ≡ true → RefusesOwn (known r found)
looks_up r (Some x) own = tt
looks_up r None own = own

pub each_own : {A B : Type 0} (f : A → Result B Refusal) → ((a : A) → RefusesOwn (f a)) → (xs : List A) → RefusesOwn (each f xs)
each_own f gives [] = tt
each_own f gives (x ∷ xs) =
    any (λ ys. Unit {0}) (f x) (λ y. each f xs >>= λ ys. Ok (y ∷ ys)) (gives x) (λ y.
    any (λ ys. Unit {0}) (each f xs) (λ ys. Ok (y ∷ ys)) (each_own f gives xs) (λ ys. tt))

-- ---- refusals of values, conditions and columns

pub geometry_own : (text : List ℕ) → RefusesOwn (geometry_of text)
unfolding geometry_of
geometry_own text =
    any (λ form. Unit {0}) (ensure refusal.TooLong (nat_le (length text) 65536)) (λ short. read_in (length text) (text_at text)) (checks refusal.TooLong (nat_le (length text) 65536) refl) (λ short. at (text_at text))
  where
    at : (outcome : Outcome Form) → RefusesOwn (read_in (length text) outcome)
    at (Ok read) = tt
    at (Err fault) = refl

pub int_own : (minus : Bool) (digits : List ℕ) → RefusesOwn (int_of minus digits)
int_own minus digits = any (λ v. Unit {0}) (known refusal.OutOfRange (number_of minus digits)) (λ n. Ok (value.Int n)) (looks_up refusal.OutOfRange (number_of minus digits) refl) (λ n. tt)

pub compared_own : (k : Kind) (v : Literal) → RefusesOwn (compared k v)
compared_own kind.BigInt (literals.Number minus digits) = int_own minus digits
compared_own kind.BigInt (literals.Text text) = refl
compared_own kind.BigInt (literals.Wkt text) = refl
compared_own (kind.VarChar size) (literals.Number minus digits) = refl
compared_own (kind.VarChar size) (literals.Text text) = tt
compared_own (kind.VarChar size) (literals.Wkt text) = refl
compared_own kind.Geo v = refl

pub comparison_own : (column : ℕ × Kind) (op : Op) (v : Literal) → RefusesOwn (comparison column op v)
comparison_own column op v = any (λ a. Unit {0}) (compared column.1 v) (λ x. Ok (atom.Cmp column.0 op x)) (compared_own column.1 v) (λ x. tt)

pub box_test_own : (column : ℕ × Kind) (test : Test) (text : List ℕ) → RefusesOwn (box_test column test text)
box_test_own column test text =
    let made : Form → Result Atom Refusal = λ form. Ok (atom.Box column.0 (record { test = test; q = box_of form })) in
    any (λ a. Unit {0}) (ensure refusal.WrongType (is_geometry column.1)) (λ geo. geometry_of text >>= made) (checks refusal.WrongType (is_geometry column.1) refl) (λ geo.
    any (λ a. Unit {0}) (geometry_of text) made (geometry_own text) (λ form. tt))

pub atom_own : (columns : List Column) (a : ParsedAtom) → RefusesOwn (atom_of columns a)
atom_own columns (written.Cmp name op v) =
    any (λ a. Unit {0}) (known refusal.UnknownColumn (named columns name)) (λ column. comparison column op v) (looks_up refusal.UnknownColumn (named columns name) refl) (λ column. comparison_own column op v)
atom_own columns (written.Box name test text) =
    any (λ a. Unit {0}) (known refusal.UnknownColumn (named columns name)) (λ column. box_test column test text) (looks_up refusal.UnknownColumn (named columns name) refl) (λ column. box_test_own column test text)

pub condition_own : (columns : List Column) (atoms : List ParsedAtom) → RefusesOwn (condition_of columns atoms)
condition_own columns atoms =
    any (λ c. Unit {0}) (each (λ a. atom_of columns a) atoms) (λ bound. Ok (record { atoms = bound })) (each_own (λ a. atom_of columns a) (atom_own columns) atoms) (λ bound. tt)

pub number_own : (columns : List Column) (name : List ℕ) → RefusesOwn (number_named columns name)
number_own columns name = any (λ n. Unit {0}) (known refusal.UnknownColumn (named columns name)) (λ column. Ok column.0) (looks_up refusal.UnknownColumn (named columns name) refl) (λ column. tt)

pub shown_own : (columns : List Column) (names : Option (List (List ℕ))) → RefusesOwn (shown columns names)
shown_own columns None = tt
shown_own columns (Some names) = each_own (λ name. number_named columns name) (number_own columns) names

pub kind_own : (k : ParsedKind) → RefusesOwn (kind_of k)
kind_own parsed_kind.BigInt = tt
kind_own (parsed_kind.VarChar digits) =
    let size = value_of digits in
    any (λ k. Unit {0}) (ensure refusal.OutOfLimits (nat_lt 0 size)) (λ some. ensure refusal.OutOfLimits (nat_le size size_limit) >>= λ few. Ok (kind.VarChar size)) (checks refusal.OutOfLimits (nat_lt 0 size) refl) (λ some.
    any (λ k. Unit {0}) (ensure refusal.OutOfLimits (nat_le size size_limit)) (λ few. Ok (kind.VarChar size)) (checks refusal.OutOfLimits (nat_le size size_limit) refl) (λ few. tt))
kind_own parsed_kind.Geo = tt

pub column_own : (indexes : List (List ℕ)) (column : ParsedColumn) → RefusesOwn (column_of indexes column)
column_own indexes column =
    any (λ c. Unit {0}) (kind_of column.kind) (λ k. Ok (record { name = column.name; kind = k; indexed = has_name indexes column.name })) (kind_own column.kind) (λ k. tt)

pub schema_own : (key : List ℕ) (columns : List ParsedColumn) (indexes : List (List ℕ)) → RefusesOwn (schema_of key columns indexes)
unfolding schema_of
schema_own key columns indexes =
    let behind = each (column_of indexes) columns in
    let made : List Column → Result Schema Refusal = λ found. Ok (record { columns = found }) in
    let all : Result Schema Refusal = keyed key behind >>= made in
    let limit : Bool → Result Schema Refusal → Result Schema Refusal = λ b later. ensure refusal.OutOfLimits b >>= λ holds. later in
    let step : (b : Bool) (later : Result Schema Refusal) → RefusesOwn later → RefusesOwn (limit b later) =
    λ b later own. any (λ s. Unit {0}) (ensure refusal.OutOfLimits b) (λ holds. later) (checks refusal.OutOfLimits b refl) (λ holds. own) in
    let found : RefusesOwn all =
    any (λ s. Unit {0}) (keyed key behind) made
    (any (λ s. Unit {0}) behind (λ columns. Ok (key_column key ∷ columns)) (each_own (column_of indexes) (column_own indexes) columns) (λ columns. tt)) (λ found. tt) in
    let fit = limit (are_indexes columns indexes) all in
    let indexed = limit (nat_le (length indexes) index_limit) fit in
    let distinct = limit (are_distinct columns) indexed in
    let other = limit (not (has_column columns key)) distinct in
    let short = limit (are_short key columns) other in
    step (nat_le (length columns + 1) column_limit) short
    (step (are_short key columns) other
    (step (not (has_column columns key)) distinct
    (step (are_distinct columns) indexed
    (step (nat_le (length indexes) index_limit) fit
    (step (are_indexes columns indexes) all found)))))
