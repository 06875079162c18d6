-- Tables that agree at all keys but some, and statements that have nothing to do with these: what they answer and change depends on
-- other rows alone.
use Rattle.std.specs.Prelude.{◌≡◌, ◌⊎◌, ℕ, ℤ, Bool, true, false, ◌||◌, ◌&&◌, List, [], ◌∷◌, map, slice_get, MatchBool, Option, Some, None}
use Rattle.isp_plain.specs.declared.statement.Statement.{Statement}
use Rattle.isp_plain.specs.declared.statement.Statement.TheVariants.{Create, Insert, Select, Update, Delete}
use Rattle.isp_plain.specs.declared.value.Row.{Row}
use Rattle.isp_plain.specs.declared.value.Schema.{Schema}
use Rattle.isp_plain.specs.Does.{does, outgrows, place_of}
use Rattle.isp_plain.specs.Entries.{has_key, with_row}
use Rattle.isp_plain.specs.Tables.{Table, definition_of}
use Rattle.isp_plain.specs.Values.{key_of}
use Rattle.isp_serial.specs.declared.script.Script.{Script}
use Rattle.isp_serial.specs.Answers.{Answer}
use Rattle.isp_serial.specs.Script.{text_at}
use Rattle.isp_serial.specs.Serial.{Agrees, effect_of, is_given, place_at}
use Rattle.isp_serial.specs.Transactions.{Language, is_begin, is_ok}
use Rattle.isp_changes.specs.Rows.{AreRising, AreRisingTables, row_at}
use Rattle.isp_changes.specs.Changes.{is_held, row_in}
use Rattle.isp_changes.specs.Stages.{outgrows_by}

-- a set of keys of a table, and of keys of tables by their places
abbrev pub Keys : Type 0
Keys = ℤ → Bool

abbrev pub Places : Type 0
Places = ℕ → ℤ → Bool

-- ---- rows

-- rows whose keys rise, and that agree outside of the set
pub record AgreeRows (apart : Keys) (rows others : List (ℤ × Row)) : Type 0 where
  pub rises : AreRising rows
  pub others_rise : AreRising others
  pub each : (key : ℤ) → apart key ≡ false → row_at rows key ≡ row_at others key

-- in the set stands what stood there
abbrev pub RowsStay : Keys → List (ℤ × Row) → List (ℤ × Row) → Type 0
RowsStay apart rows after = (key : ℤ) → apart key ≡ true → row_at after key ≡ row_at rows key

-- the condition holds of no row of the set
abbrev pub NoneHeld : Keys → Statement → List (ℤ × Row) → Type 0
NoneHeld apart statement rows = (key : ℤ) (row : Row) → apart key ≡ true → row_at rows key ≡ Some row → is_held statement row ≡ false

-- none of the keys of INSERT's rows is of the set, up to and with the first that is there already
abbrev pub AreOutside : Keys → List (ℤ × Row) → List Row → Type 0
AreOutside apart rows [] = Unit {0}
AreOutside apart rows (row ∷ more) =
    (apart (key_of row) ≡ false) × MatchBool (has_key rows (key_of row)) (Unit {0}) (AreOutside apart (with_row rows (key_of row) row) more)

-- a row outside of the set would get too large
pub record HasLarge (apart : Keys) (schema : Schema) (statement : Statement) (rows : List (ℤ × Row)) : Type 0 where
  pub key : ℤ
  pub row : Row
  pub outside : apart key ≡ false
  pub there : row_at rows key ≡ Some row
  pub outgrows : outgrows_by schema statement row ≡ true

-- ---- tables

pub record AgreeBut (apart : Places) (tables others : List Table) : Type 0 where
  pub definitions : map definition_of tables ≡ map definition_of others
  pub rise : AreRisingTables tables
  pub others_rise : AreRisingTables others
  pub each : (place : ℕ) (key : ℤ) → apart place key ≡ false → row_in tables place key ≡ row_in others place key

abbrev pub Stays : Places → List Table → List Table → Type 0
Stays apart tables after = (place : ℕ) (key : ℤ) → apart place key ≡ true → row_in after place key ≡ row_in tables place key

-- ---- statements

-- what the statement reads and writes of its table is outside of the set, on the one table and on the other
abbrev pub IsApart : Keys → Table → Table → Statement → Type 0
IsApart apart table other (Insert name rows) = AreOutside apart table.rows rows
IsApart apart table other (Update name sets w) =
    HasLarge apart table.schema (Update name sets w) table.rows
    ⊎ (NoneHeld apart (Update name sets w) table.rows × NoneHeld apart (Update name sets w) other.rows)
IsApart apart table other statement = NoneHeld apart statement table.rows × NoneHeld apart statement other.rows

pub record IsApartIn (apart : Places) (tables others : List Table) (name : List ℕ) (statement : Statement) : Type 0 where
  pub place : ℕ
  pub table : Table
  pub other : Table
  pub place_is : place_of tables name ≡ Some place
  pub there : slice_get tables place ≡ Some table
  pub other_there : slice_get others place ≡ Some other
  pub is_apart : IsApart (apart place) table other statement

-- CREATE is none of these
abbrev pub Apart : Places → List Table → List Table → Statement → Type 0
Apart apart tables others (Create name schema) = ⊥
Apart apart tables others (Insert name rows) = IsApartIn apart tables others name (Insert name rows)
Apart apart tables others (Select name columns w) = IsApartIn apart tables others name (Select name columns w)
Apart apart tables others (Update name sets w) = IsApartIn apart tables others name (Update name sets w)
Apart apart tables others (Delete name w) = IsApartIn apart tables others name (Delete name w)
Apart apart tables others _ = Unit {0}

-- it answers the same, and what it leaves agrees again, with each one's own rows in the set
pub record IsLocal (apart : Places) (tables others : List Table) (statement : Statement) : Type 0 where
  pub reply : (does tables statement).reply ≡ (does others statement).reply
  pub agree : AgreeBut apart (does tables statement).tables (does others statement).tables
  pub stay : Stays apart tables (does tables statement).tables
  pub others_stay : Stays apart others (does others statement).tables

-- ---- answers of a transaction

abbrev pub ApartText : Places → Language → ℕ → Bool → List Table → List Table → Option (List ℕ) → Type 0
ApartText apart language session inside tables others (Some text) = Apart apart tables others (language.meaning tables (place_at session inside) text)
ApartText apart language session inside tables others None = Unit {0}

abbrev pub ApartAt : Places → Language → Script → Bool → List Table → List Table → Answer → Type 0
ApartAt apart language script inside tables others answer =
    MatchBool (is_given answer) (Unit {0}) (ApartText apart language answer.session inside tables others (text_at script answer.session answer.number))

-- so is each statement, on the tables that it is done again on
abbrev pub AreApart : Places → Language → Script → Bool → List Table → List Table → List Answer → Type 0
AreApart apart language script inside tables others [] = Unit {0}
AreApart apart language script inside tables others (answer ∷ answers) =
    let effect = effect_of language (text_at script answer.session answer.number)
    in ApartAt apart language script inside tables others answer
    × ((mid next : List Table) → Agrees language script inside tables answer mid → Agrees language script inside others answer next
    → Stays apart tables mid → Stays apart others next
    → AreApart apart language script (inside || (is_begin effect && is_ok answer)) mid next answers)

-- a text's meaning depends on the tables' names and columns alone
abbrev pub MeansByNames : Language → Type 0
MeansByNames language = (tables others : List Table) (text : List ℕ) (session : ℕ) (inside : Bool) → map definition_of tables ≡ map definition_of others
    → language.meaning tables (place_at session inside) text ≡ language.meaning others (place_at session inside) text
