-- Which tokens are which statement (the MySQL 8.0 manual on these statements; which part of them there is, is this
-- project's own):
--
--   statement = create | insert | select | update | delete | BEGIN | START TRANSACTION | COMMIT | ROLLBACK
--   create    = CREATE TABLE name ( name BIGINT [NOT NULL] PRIMARY KEY {, column} {, SPATIAL INDEX ( name )} )
--   column    = name BIGINT [NOT NULL] | name VARCHAR ( digits ) [NOT NULL] | name GEOMETRY NOT NULL SRID 0
--   insert    = INSERT INTO name VALUES row {, row}
--   row       = ( literal {, literal} )
--   select    = SELECT * FROM name [where] | SELECT name {, name} FROM name [where]
--   update    = UPDATE name SET name = literal {, name = literal} [where]
--   delete    = DELETE FROM name [where]
--   where     = WHERE atom {AND atom}
--   atom      = name comparison plain | test ( name , geometry ) | test ( geometry , name )
--   plain     = [-] digits | string
--   literal   = plain | geometry
--   geometry  = ST_GeomFromText ( string [, 0] )
--
-- Each definition says as which phrase of tokens a value is written. Phrases, and which bytes are words, names, digits,
-- strings and comparisons, are isp_tokens'.
use Rattle.std.specs.Prelude.{ℕ, Bool, true, false, List, [], ◌∷◌, Option, Some, None}
use Rattle.isp_plain.specs.declared.statement.Op.TheVariants.{Eq}
use Rattle.isp_tokens.specs.Phrases.{Phrase, empty, one, ◌⨾◌, ◌∣◌, optional, each, list, word, symbol, name, digits, zero_digit, enclosed, called}
use Rattle.isp_sql.specs.declared.parsed.Literal.{Literal}
use Rattle.isp_sql.specs.declared.parsed.Literal.TheVariants as literals
use Rattle.isp_sql.specs.declared.parsed.Parsed.{Parsed}
use Rattle.isp_sql.specs.declared.parsed.Parsed.TheVariants as parsed
use Rattle.isp_sql.specs.declared.parsed.ParsedAtom.{ParsedAtom}
use Rattle.isp_sql.specs.declared.parsed.ParsedAtom.TheVariants as atoms
use Rattle.isp_sql.specs.declared.parsed.ParsedColumn.{ParsedColumn}
use Rattle.isp_sql.specs.declared.parsed.ParsedKind.{ParsedKind}
use Rattle.isp_sql.specs.declared.parsed.ParsedKind.TheVariants as kinds
use Rattle.isp_sql.specs.declared.parsed.ParsedSet.{ParsedSet}
use Rattle.isp_tokens.specs.declared.token.Symbol.TheVariants.{Comma, Star, Minus}
use Rattle.isp_tokens.specs.declared.token.Token.{Token}
use Rattle.isp_tokens.specs.declared.token.Token.TheVariants as token
use Rattle.isp_tokens.specs.declared.words.Word.TheVariants as words
use Rattle.isp_tokens.specs.Tokens.{AreTokens}
use Rattle.isp_tokens.specs.Words.{exchanged}

-- ---- values

abbrev pub signed : Bool → List ℕ → Phrase
signed true d = symbol Minus ⨾ digits d
signed false d = digits d

abbrev pub plain : Literal → Phrase
plain (literals.Number minus d) tokens left = signed minus d tokens left
plain (literals.Text text) tokens left = one (token.Text text) tokens left
plain (literals.Wkt text) tokens left = ⊥

abbrev pub geometry : List ℕ → Phrase
geometry text = word words.GeomFromText ⨾ enclosed (one (token.Text text) ⨾ optional (symbol Comma ⨾ zero_digit))

abbrev pub literal : Literal → Phrase
literal (literals.Wkt text) = geometry text
literal (literals.Number minus d) = plain (literals.Number minus d)
literal (literals.Text text) = plain (literals.Text text)

abbrev pub row : List Literal → Phrase
row values = enclosed (list (symbol Comma) literal values)

-- ---- conditions

-- the test of a column's box, which stands first in it, and of the geometry's
abbrev pub atom : ParsedAtom → Phrase
atom (atoms.Cmp column op v) = name column ⨾ one (token.Op op) ⨾ plain v
atom (atoms.Box column test g) =
    (called test ⨾ enclosed (name column ⨾ symbol Comma ⨾ geometry g))
    ∣ (called (exchanged test) ⨾ enclosed (geometry g ⨾ symbol Comma ⨾ name column))

-- the condition, which is left out where there is no test
abbrev pub condition : List ParsedAtom → Phrase
condition [] = empty
condition (a ∷ others) = word words.Where ⨾ list (word words.And) atom (a ∷ others)

-- ---- definitions of tables

abbrev pub not_null : Phrase
not_null = optional (word words.Not ⨾ word words.Null)

abbrev pub kind : ParsedKind → Phrase
kind kinds.BigInt = word words.BigInt ⨾ not_null
kind (kinds.VarChar size) = word words.VarChar ⨾ enclosed (digits size) ⨾ not_null
kind kinds.Geo = word words.Geometry ⨾ word words.Not ⨾ word words.Null ⨾ word words.Srid ⨾ zero_digit

abbrev pub column : ParsedColumn → Phrase
column c = name c.name ⨾ kind c.kind

abbrev pub index : List ℕ → Phrase
index n = word words.Spatial ⨾ word words.Index ⨾ enclosed (name n)

abbrev pub key_column : List ℕ → Phrase
key_column key = name key ⨾ word words.BigInt ⨾ not_null ⨾ word words.Primary ⨾ word words.Key

-- ---- statements

abbrev pub set : ParsedSet → Phrase
set s = name s.column ⨾ one (token.Op Eq) ⨾ literal s.v

abbrev pub shown : Option (List (List ℕ)) → Phrase
shown None = symbol Star
shown (Some names) = list (symbol Comma) name names

abbrev pub statement : Parsed → Phrase
statement (parsed.Create table key columns indexes) =
    word words.Create ⨾ word words.Table ⨾ name table
    ⨾ enclosed (key_column key ⨾ each (symbol Comma) column columns ⨾ each (symbol Comma) index indexes)
statement (parsed.Insert table rows) = word words.Insert ⨾ word words.Into ⨾ name table ⨾ word words.Values ⨾ list (symbol Comma) row rows
statement (parsed.Select table columns w) = word words.Select ⨾ shown columns ⨾ word words.From ⨾ name table ⨾ condition w
statement (parsed.Update table sets w) = word words.Update ⨾ name table ⨾ word words.Set ⨾ list (symbol Comma) set sets ⨾ condition w
statement (parsed.Delete table w) = word words.Delete ⨾ word words.From ⨾ name table ⨾ condition w
statement parsed.Begin = word words.Begin ∣ (word words.Start ⨾ word words.Transaction)
statement parsed.Commit = word words.Commit
statement parsed.Rollback = word words.Rollback

-- the text is this statement: its tokens are, all of them
unfoldable pub IsStatement : Parsed → List ℕ → Type 0
IsStatement p text = (tokens : List Token) × AreTokens tokens text × statement p tokens []
