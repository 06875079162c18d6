-- Reading a statement from left to right: a value and the tokens behind it, or nothing where the tokens are not in the
-- grammar.
use Rattle.std.specs.Prelude.{◌≡◌, ℕ, zero, suc, Bool, true, false, List, [], ◌∷◌, length, drop, Result, Ok, Err, Option, Some, None, if◌then◌else◌}
use Rattle.std.specs.Option.{option_and_then}
use Rattle.isp_mbr.specs.declared.Test.{Test}
use Rattle.isp_tokens.specs.declared.error.SqlError.{SqlError}
use Rattle.isp_tokens.specs.declared.error.SqlError.TheVariants.{Syntax, OutOfMemory}
use Rattle.isp_tokens.specs.OneToken.{Outcome, ◌>>=◌, begins_word, begins_symbol, begins_name, begins_digits, begins_column, word_at, symbol_at, name_at, text_at, digits_at, zero_at, op_at, equal_at, test_at}
use Rattle.isp_sql.specs.declared.parsed.Literal.{Literal}
use Rattle.isp_sql.specs.declared.parsed.Literal.TheVariants as literal
use Rattle.isp_sql.specs.declared.parsed.Parsed.{Parsed}
use Rattle.isp_sql.specs.declared.parsed.Parsed.TheVariants as parsed
use Rattle.isp_sql.specs.declared.parsed.ParsedAtom.{ParsedAtom}
use Rattle.isp_sql.specs.declared.parsed.ParsedAtom.TheVariants as atom
use Rattle.isp_sql.specs.declared.parsed.ParsedColumn.{ParsedColumn}
use Rattle.isp_sql.specs.declared.parsed.ParsedKind.{ParsedKind}
use Rattle.isp_sql.specs.declared.parsed.ParsedKind.TheVariants as kind
use Rattle.isp_sql.specs.declared.parsed.ParsedSet.{ParsedSet}
use Rattle.isp_tokens.specs.declared.token.Symbol.TheVariants as symbol
use Rattle.isp_tokens.specs.declared.token.Token.{Token}
use Rattle.isp_tokens.specs.declared.words.Word.TheVariants as word
use Rattle.isp_sql.specs.declared.members.Going.{Going}
use Rattle.isp_sql.specs.declared.members.Going.TheVariants as going
use Rattle.isp_tokens.specs.Scanning.{tokens_of}
use Rattle.isp_tokens.specs.Words.{exchanged}

-- ---- lists

-- whether one more member follows
abbrev pub goes_on : Going → List Token → Bool
goes_on going.Comma = begins_symbol symbol.Comma
goes_on going.And = begins_word word.And
goes_on going.Column = begins_column

-- The members that follow, each behind one token. Each takes a token at least, so that there are no more than so many.
abbrev pub others_at : {X : Type 0} → Going → (List Token → Outcome X) → ℕ → List Token → Outcome (List X)
others_at going item zero tokens = Some ([], tokens)
others_at going item (suc n) tokens =
    if goes_on going tokens
    then (item (drop 1 tokens) >>= λ first. others_at going item n first.1 >>= λ others. Some (first.0 ∷ others.0, others.1))
    else Some ([], tokens)

-- none or more members, each behind one token
unfoldable pub more_at : {X : Type 0} → Going → (List Token → Outcome X) → List Token → Outcome (List X)
more_at going item tokens = others_at going item (length tokens) tokens

-- one or more members
unfoldable pub list_at : {X : Type 0} → Going → (List Token → Outcome X) → List Token → Outcome (List X)
list_at going item tokens = do
  first ← item tokens
  others ← more_at going item first.1
  Some (first.0 ∷ others.0, others.1)

-- ---- values

unfoldable pub plain_at : List Token → Outcome Literal
plain_at tokens =
    if begins_symbol symbol.Minus tokens then (digits_at (drop 1 tokens) >>= λ digits. Some (literal.Number true digits.0, digits.1))
    else if begins_digits tokens then (digits_at tokens >>= λ digits. Some (literal.Number false digits.0, digits.1))
    else (text_at tokens >>= λ text. Some (literal.Text text.0, text.1))

-- the second argument of ST_GeomFromText, where there is one
unfoldable pub system_at : List Token → Outcome (Unit {0})
system_at tokens = if begins_symbol symbol.Comma tokens then zero_at (drop 1 tokens) else Some (tt, tokens)

unfoldable pub geometry_at : List Token → Outcome (List ℕ)
geometry_at tokens = do
  called ← word_at word.GeomFromText tokens
  opened ← symbol_at symbol.Open called.1
  text ← text_at opened.1
  system ← system_at text.1
  closed ← symbol_at symbol.Close system.1
  Some (text.0, closed.1)

unfoldable pub literal_at : List Token → Outcome Literal
literal_at tokens =
    if begins_word word.GeomFromText tokens then (geometry_at tokens >>= λ g. Some (literal.Wkt g.0, g.1)) else plain_at tokens

-- ---- conditions

unfoldable pub compared_at : List Token → Outcome ParsedAtom
compared_at tokens = do
  column ← name_at tokens
  op ← op_at column.1
  v ← plain_at op.1
  Some (atom.Cmp column.0 op.0 v.0, v.1)

-- the arguments of a test, the column first
unfoldable pub column_first_at : Test → List Token → Outcome ParsedAtom
column_first_at test tokens = do
  column ← name_at tokens
  comma ← symbol_at symbol.Comma column.1
  g ← geometry_at comma.1
  Some (atom.Box column.0 test g.0, g.1)

-- the arguments of a test, the column second
unfoldable pub column_second_at : Test → List Token → Outcome ParsedAtom
column_second_at test tokens = do
  g ← geometry_at tokens
  comma ← symbol_at symbol.Comma g.1
  column ← name_at comma.1
  Some (atom.Box column.0 (exchanged test) g.0, column.1)

unfoldable pub arguments_at : Test → List Token → Outcome ParsedAtom
arguments_at test tokens = if begins_name tokens then column_first_at test tokens else column_second_at test tokens

unfoldable pub spatial_at : List Token → Outcome ParsedAtom
spatial_at tokens = do
  test ← test_at tokens
  opened ← symbol_at symbol.Open test.1
  atom ← arguments_at test.0 opened.1
  closed ← symbol_at symbol.Close atom.1
  Some (atom.0, closed.1)

unfoldable pub atom_at : List Token → Outcome ParsedAtom
atom_at tokens = if begins_name tokens then compared_at tokens else spatial_at tokens

-- the condition, where there is one
unfoldable pub where_at : List Token → Outcome (List ParsedAtom)
where_at tokens = if begins_word word.Where tokens then list_at going.And atom_at (drop 1 tokens) else Some ([], tokens)

-- ---- definitions of tables

-- NOT NULL, where it stands there
unfoldable pub not_null_at : List Token → Outcome (Unit {0})
not_null_at tokens = if begins_word word.Not tokens then word_at word.Null (drop 1 tokens) else Some (tt, tokens)

unfoldable pub key_at : List Token → Outcome (List ℕ)
key_at tokens = do
  name ← name_at tokens
  big ← word_at word.BigInt name.1
  null ← not_null_at big.1
  primary ← word_at word.Primary null.1
  key ← word_at word.Key primary.1
  Some (name.0, key.1)

unfoldable pub big_int_at : List Token → Outcome ParsedKind
big_int_at tokens = do
  big ← word_at word.BigInt tokens
  null ← not_null_at big.1
  Some (kind.BigInt, null.1)

unfoldable pub var_char_at : List Token → Outcome ParsedKind
var_char_at tokens = do
  var ← word_at word.VarChar tokens
  opened ← symbol_at symbol.Open var.1
  size ← digits_at opened.1
  closed ← symbol_at symbol.Close size.1
  null ← not_null_at closed.1
  Some (kind.VarChar size.0, null.1)

unfoldable pub geo_at : List Token → Outcome ParsedKind
geo_at tokens = do
  geometry ← word_at word.Geometry tokens
  not ← word_at word.Not geometry.1
  null ← word_at word.Null not.1
  srid ← word_at word.Srid null.1
  system ← zero_at srid.1
  Some (kind.Geo, system.1)

unfoldable pub kind_at : List Token → Outcome ParsedKind
kind_at tokens =
    if begins_word word.BigInt tokens then big_int_at tokens
    else if begins_word word.VarChar tokens then var_char_at tokens
    else geo_at tokens

unfoldable pub column_at : List Token → Outcome ParsedColumn
column_at tokens = do
  name ← name_at tokens
  kind ← kind_at name.1
  Some (record { name = name.0; kind = kind.0 }, kind.1)

unfoldable pub index_at : List Token → Outcome (List ℕ)
index_at tokens = do
  spatial ← word_at word.Spatial tokens
  index ← word_at word.Index spatial.1
  opened ← symbol_at symbol.Open index.1
  name ← name_at opened.1
  closed ← symbol_at symbol.Close name.1
  Some (name.0, closed.1)

-- what stands between the parentheses of a CREATE TABLE of this name
unfoldable pub definition_at : List ℕ → List Token → Outcome Parsed
definition_at name tokens = do
  key ← key_at tokens
  columns ← more_at going.Column column_at key.1
  indexes ← more_at going.Comma index_at columns.1
  Some (parsed.Create name key.0 columns.0 indexes.0, indexes.1)

-- ---- statements, each behind its first word

unfoldable pub create_at : List Token → Outcome Parsed
create_at tokens = do
  table ← word_at word.Table tokens
  name ← name_at table.1
  opened ← symbol_at symbol.Open name.1
  created ← definition_at name.0 opened.1
  closed ← symbol_at symbol.Close created.1
  Some (created.0, closed.1)

unfoldable pub row_at : List Token → Outcome (List Literal)
row_at tokens = do
  opened ← symbol_at symbol.Open tokens
  values ← list_at going.Comma literal_at opened.1
  closed ← symbol_at symbol.Close values.1
  Some (values.0, closed.1)

unfoldable pub insert_at : List Token → Outcome Parsed
insert_at tokens = do
  into ← word_at word.Into tokens
  table ← name_at into.1
  values ← word_at word.Values table.1
  rows ← list_at going.Comma row_at values.1
  Some (parsed.Insert table.0 rows.0, rows.1)

-- the columns that are shown: * or their names
unfoldable pub shown_at : List Token → Outcome (Option (List (List ℕ)))
shown_at tokens =
    if begins_symbol symbol.Star tokens then Some (None, drop 1 tokens)
    else (list_at going.Comma name_at tokens >>= λ names. Some (Some names.0, names.1))

unfoldable pub select_at : List Token → Outcome Parsed
select_at tokens = do
  columns ← shown_at tokens
  from ← word_at word.From columns.1
  table ← name_at from.1
  w ← where_at table.1
  Some (parsed.Select table.0 columns.0 w.0, w.1)

unfoldable pub set_at : List Token → Outcome ParsedSet
set_at tokens = do
  column ← name_at tokens
  equal ← equal_at column.1
  v ← literal_at equal.1
  Some (record { column = column.0; v = v.0 }, v.1)

unfoldable pub update_at : List Token → Outcome Parsed
update_at tokens = do
  table ← name_at tokens
  set ← word_at word.Set table.1
  sets ← list_at going.Comma set_at set.1
  w ← where_at sets.1
  Some (parsed.Update table.0 sets.0 w.0, w.1)

unfoldable pub delete_at : List Token → Outcome Parsed
delete_at tokens = do
  from ← word_at word.From tokens
  table ← name_at from.1
  w ← where_at table.1
  Some (parsed.Delete table.0 w.0, w.1)

-- BEGIN, START TRANSACTION, COMMIT or ROLLBACK
unfoldable pub transaction_at : List Token → Outcome Parsed
transaction_at tokens =
    if begins_word word.Begin tokens then Some (parsed.Begin, drop 1 tokens)
    else if begins_word word.Start tokens then (word_at word.Transaction (drop 1 tokens) >>= λ begun. Some (parsed.Begin, begun.1))
    else if begins_word word.Commit tokens then Some (parsed.Commit, drop 1 tokens)
    else (word_at word.Rollback tokens >>= λ back. Some (parsed.Rollback, back.1))

unfoldable pub change_at : List Token → Outcome Parsed
change_at tokens =
    if begins_word word.Update tokens then update_at (drop 1 tokens)
    else if begins_word word.Delete tokens then delete_at (drop 1 tokens)
    else transaction_at tokens

unfoldable pub statement_at : List Token → Outcome Parsed
statement_at tokens =
    if begins_word word.Create tokens then create_at (drop 1 tokens)
    else if begins_word word.Insert tokens then insert_at (drop 1 tokens)
    else if begins_word word.Select tokens then select_at (drop 1 tokens)
    else change_at tokens

-- nothing stands behind it
abbrev pub alone : Parsed → List Token → Option Parsed
alone p [] = Some p
alone p (token ∷ tokens) = None

unfoldable pub parsed_in : List Token → Option Parsed
parsed_in tokens = statement_at tokens >>= λ p. alone p.0 p.1

-- the statement that a text is, if it is one
unfoldable pub parsed_of : List ℕ → Option Parsed
parsed_of text = option_and_then parsed_in (tokens_of text)

-- what was answered is this statement, or Syntax where there is none
abbrev pub IsParsed : Result Parsed SqlError → Option Parsed → Type 0
IsParsed (Ok p) read = read ≡ Some p
IsParsed (Err Syntax) read = read ≡ None
IsParsed (Err OutOfMemory) read = Unit {0}
