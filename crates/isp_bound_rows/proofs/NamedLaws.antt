-- No name of a statement that was read is empty, since no token of one is.
use Rattle.std.proofs.Common.{◌≡◌, ℕ, ◌≤◌, Bool, true, false, List, [], ◌∷◌, length, subst, refl, arith, inl, inr, Option, Some, None}
use Rattle.std.specs.List.{list_all}
use Rattle.std.specs.Option.{option_and_then}
use Rattle.std.proofs.lemmas.Bool.{and_parts, and_from}
use Rattle.isp_tokens.specs.Phrases.{Phrase, ◌⨾◌, ◌∣◌, digits, each, empty, enclosed, name, one, symbol, word, zero_digit}
use Rattle.isp_tokens.specs.Scanning.{tokens_of}
use Rattle.isp_tokens.specs.Tokens.{AreTokens, Spells, is_worded}
use Rattle.isp_tokens.specs.declared.token.Symbol.TheVariants.{Open, Close, Comma}
use Rattle.isp_tokens.specs.declared.token.Token.{Token}
use Rattle.isp_tokens.specs.declared.token.Token.TheVariants as token
use Rattle.isp_tokens.specs.declared.words.Word.TheVariants as words
use Rattle.isp_tokens.proofs.TokenLaws.{tokens_sound}
use Rattle.isp_sql.specs.Grammar.{column, key_column, kind, not_null, statement}
use Rattle.isp_sql.specs.Reading.{parsed_in, parsed_of}
use Rattle.isp_sql.specs.declared.parsed.Parsed.{Parsed}
use Rattle.isp_sql.specs.declared.parsed.Parsed.TheVariants as parsed
use Rattle.isp_sql.specs.declared.parsed.ParsedColumn.{ParsedColumn}
use Rattle.isp_sql.specs.declared.parsed.ParsedKind.{ParsedKind}
use Rattle.isp_sql.specs.declared.parsed.ParsedKind.TheVariants as kinds
use Rattle.isp_sql.proofs.SoundForms.{parsed_sound}

-- ---- tokens

abbrev pub is_some_name : List ℕ → Bool
is_some_name [] = false
is_some_name (b ∷ bytes) = true

pub name_some : (n : List ℕ) → is_some_name n ≡ true → 1 ≤ length n
name_some [] is = absurd cc
name_some (b ∷ bytes) is = omega arith

abbrev is_named_token : Token → Bool
is_named_token (token.Name n) = is_some_name n
is_named_token (token.Text text) = true
is_named_token (token.Word w) = true
is_named_token (token.Digits d) = true
is_named_token (token.Op op) = true
is_named_token (token.Symbol s) = true

abbrev AreNamed : List Token → Type 0
AreNamed tokens = list_all is_named_token tokens ≡ true

worded_some : (bytes : List ℕ) → is_worded bytes ≡ true → is_some_name bytes ≡ true
worded_some [] is = absurd cc
worded_some (b ∷ bytes) is = refl

spelled_named : (t : Token) (bytes : List ℕ) → Spells t bytes → is_named_token t ≡ true
spelled_named (token.Name n) bytes spells = subst (λ (b : List ℕ). is_some_name b ≡ true) spells.2 (worded_some bytes spells.0)
spelled_named (token.Text text) bytes spells = refl
spelled_named (token.Word w) bytes spells = refl
spelled_named (token.Digits d) bytes spells = refl
spelled_named (token.Op op) bytes spells = refl
spelled_named (token.Symbol s) bytes spells = refl

tokens_named : (tokens : List Token) (text : List ℕ) → AreTokens tokens text → AreNamed tokens
tokens_named [] text are = refl
tokens_named (t ∷ tokens) text (blanks, bytes, rest, whole, blank, spells, ends, others) =
    and_from (is_named_token t) (list_all is_named_token tokens) (spelled_named t bytes spells) (tokens_named tokens rest others)

-- ---- phrases

-- behind the phrase names are some where they were in front of it
abbrev Passes : Phrase → Type 0
Passes P = (tokens left : List Token) → P tokens left → AreNamed tokens → AreNamed left

empty_passes : Passes empty
empty_passes tokens left is named = subst AreNamed is named

one_passes : (t : Token) → Passes (one t)
one_passes t tokens left is named = (and_parts (is_named_token t) (list_all is_named_token left) (subst AreNamed is named)).1

name_is : (n : List ℕ) (tokens left : List Token) → name n tokens left → AreNamed tokens → is_some_name n ≡ true
name_is n tokens left is named = (and_parts (is_some_name n) (list_all is_named_token left) (subst AreNamed is named)).0

both_pass : (P Q : Phrase) → Passes P → Passes Q → Passes (P ⨾ Q)
both_pass P Q first second tokens left (mid, is, behind) named = second mid left behind (first tokens mid is named)

either_passes : (P Q : Phrase) → Passes P → Passes Q → Passes (P ∣ Q)
either_passes P Q first second tokens left (inl is) named = first tokens left is named
either_passes P Q first second tokens left (inr is) named = second tokens left is named

not_null_passes : Passes not_null
not_null_passes =
    either_passes empty (word words.Not ⨾ word words.Null) empty_passes (both_pass (word words.Not) (word words.Null) (one_passes (token.Word words.Not)) (one_passes (token.Word words.Null)))

enclosed_passes : (P : Phrase) → Passes P → Passes (enclosed P)
enclosed_passes P passes =
    both_pass (symbol Open) (P ⨾ symbol Close) (one_passes (token.Symbol Open)) (both_pass P (symbol Close) passes (one_passes (token.Symbol Close)))

kind_passes : (k : ParsedKind) → Passes (kind k)
kind_passes kinds.BigInt = both_pass (word words.BigInt) not_null (one_passes (token.Word words.BigInt)) not_null_passes
kind_passes (kinds.VarChar size) =
    both_pass (word words.VarChar) (enclosed (digits size) ⨾ not_null) (one_passes (token.Word words.VarChar))
    (both_pass (enclosed (digits size)) not_null (enclosed_passes (digits size) (one_passes (token.Digits size))) not_null_passes)
kind_passes kinds.Geo =
    both_pass (word words.Geometry) (word words.Not ⨾ word words.Null ⨾ word words.Srid ⨾ zero_digit) (one_passes (token.Word words.Geometry))
    (both_pass (word words.Not) (word words.Null ⨾ word words.Srid ⨾ zero_digit) (one_passes (token.Word words.Not))
    (both_pass (word words.Null) (word words.Srid ⨾ zero_digit) (one_passes (token.Word words.Null))
    (both_pass (word words.Srid) zero_digit (one_passes (token.Word words.Srid)) (one_passes (token.Digits (48 ∷ []))))))

abbrev pub has_name : ParsedColumn → Bool
has_name c = is_some_name c.name

columns_named : (columns : List ParsedColumn) (tokens left : List Token) → each (symbol Comma) column columns tokens left → AreNamed tokens → list_all has_name columns ≡ true
columns_named [] tokens left is named = refl
columns_named (c ∷ columns) tokens left (mid, comma, (behind, (kind_at, named_is, kind_is), others)) named =
    let at_name = one_passes (token.Symbol Comma) tokens mid comma named in
    let at_kind = one_passes (token.Name c.name) mid kind_at named_is at_name in
    and_from (has_name c) (list_all has_name columns) (name_is c.name mid kind_at named_is at_name) (columns_named columns behind left others (kind_passes c.kind kind_at behind kind_is at_kind))

key_passes : (key : List ℕ) → Passes (key_column key)
key_passes key =
    both_pass (name key) (word words.BigInt ⨾ not_null ⨾ word words.Primary ⨾ word words.Key) (one_passes (token.Name key))
    (both_pass (word words.BigInt) (not_null ⨾ word words.Primary ⨾ word words.Key) (one_passes (token.Word words.BigInt))
    (both_pass not_null (word words.Primary ⨾ word words.Key) not_null_passes
    (both_pass (word words.Primary) (word words.Key) (one_passes (token.Word words.Primary)) (one_passes (token.Word words.Key)))))

-- ---- statements

-- the names that a CREATE gives are some
pub record AreNames (table key : List ℕ) (columns : List ParsedColumn) : Type 0 where
  pub table_some : is_some_name table ≡ true
  pub key_some : is_some_name key ≡ true
  pub columns_some : list_all has_name columns ≡ true

abbrev pub HasNames : Parsed → Type 0
HasNames (parsed.Create table key columns indexes) = AreNames table key columns
HasNames (parsed.Insert table rows) = Unit {0}
HasNames (parsed.Select table columns w) = Unit {0}
HasNames (parsed.Update table sets w) = Unit {0}
HasNames (parsed.Delete table w) = Unit {0}
HasNames parsed.Begin = Unit {0}
HasNames parsed.Commit = Unit {0}
HasNames parsed.Rollback = Unit {0}

statement_named : (p : Parsed) (tokens left : List Token) → statement p tokens left → AreNamed tokens → HasNames p
statement_named (parsed.Create table key columns indexes) tokens left (a, creates, (b, tables, (c, named_is, (d, opens, (e, (f, key_is, (g, columns_are, indexes_are)), closes))))) named =
    let at_name = one_passes (token.Word words.Table) a b tables (one_passes (token.Word words.Create) tokens a creates named) in
    let inner = one_passes (token.Symbol Open) c d opens (one_passes (token.Name table) b c named_is at_name) in
    record {
      table_some = name_is table b c named_is at_name;
      key_some = key_named inner key_is;
      columns_some = columns_named columns f g columns_are (key_passes key d f key_is inner);
    }
  where
    key_named : {d f : List Token} → AreNamed d → key_column key d f → is_some_name key ≡ true
    key_named inner (at, first, rest) = name_is key _ at first inner
statement_named (parsed.Insert table rows) tokens left is named = tt
statement_named (parsed.Select table columns w) tokens left is named = tt
statement_named (parsed.Update table sets w) tokens left is named = tt
statement_named (parsed.Delete table w) tokens left is named = tt
statement_named parsed.Begin tokens left is named = tt
statement_named parsed.Commit tokens left is named = tt
statement_named parsed.Rollback tokens left is named = tt

read_tokens : (o : Option (List Token)) (p : Parsed) → option_and_then parsed_in o ≡ Some p → (tokens : List Token) × (o ≡ Some tokens) × (parsed_in tokens ≡ Some p)
read_tokens None p is = cc
read_tokens (Some tokens) p is = (tokens, refl, is)

pub parsed_named : (text : List ℕ) (p : Parsed) → parsed_of text ≡ Some p → HasNames p
unfolding parsed_of
parsed_named text p is =
    let (tokens, are, read) = read_tokens (tokens_of text) p is in
    statement_named p tokens [] (parsed_sound tokens p read) (tokens_named tokens text (tokens_sound text tokens are))
