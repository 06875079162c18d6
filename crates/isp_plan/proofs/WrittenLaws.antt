-- No string of a statement has a line feed, since no token has one.
use Rattle.isp_plain.specs.Lined.{is_one_line}
use Rattle.std.proofs.Common.{◌≡◌, ℕ, Bool, true, false, not, ◌==◌, List, [], ◌∷◌, subst, refl, arith, inl, inr, Option, Some, None}
use Rattle.std.specs.List.{list_all}
use Rattle.std.specs.Option.{option_and_then}
use Rattle.std.proofs.lemmas.Bool.{and_parts, and_from}
use Rattle.std.proofs.lemmas.Bool.Decides.{nat_tests}
use Rattle.isp_tokens.specs.Phrases.{Phrase, ◌⨾◌, ◌∣◌, each, empty, enclosed, list, one, optional, symbol, word, zero_digit}
use Rattle.isp_sql.specs.Grammar.{geometry, literal, row, set, signed, statement}
use Rattle.isp_sql.specs.Reading.{parsed_in, parsed_of}
use Rattle.isp_tokens.specs.Scanning.{tokens_of}
use Rattle.isp_tokens.specs.Tokens.{AreTokens, Spells, is_control}
use Rattle.isp_sql.specs.declared.parsed.Literal.{Literal}
use Rattle.isp_sql.specs.declared.parsed.Literal.TheVariants as literals
use Rattle.isp_sql.specs.declared.parsed.Parsed.{Parsed}
use Rattle.isp_sql.specs.declared.parsed.Parsed.TheVariants as parsed
use Rattle.isp_sql.specs.declared.parsed.ParsedSet.{ParsedSet}
use Rattle.isp_tokens.specs.declared.token.Symbol.TheVariants.{Open, Close, Comma, Minus}
use Rattle.isp_tokens.specs.declared.token.Token.{Token}
use Rattle.isp_tokens.specs.declared.token.Token.TheVariants as token
use Rattle.isp_sql.proofs.SoundForms.{parsed_sound}
use Rattle.isp_tokens.proofs.TokenLaws.{tokens_sound}

-- ---- tokens

feed_is_control : (b : ℕ) (feed : Bool) → (b == 10) ≡ feed → not (is_control b) ≡ true → not feed ≡ true
feed_is_control b false is free = refl
feed_is_control b true is free =
    let same : b ≡ 10 = grind (arith, nat_tests) in
    let no : not (is_control 10) ≡ true = subst (λ n. not (is_control n) ≡ true) same free in cc

free_is_line : (text : List ℕ) → list_all (λ b. not (is_control b)) text ≡ true → is_one_line text ≡ true
free_is_line [] free = refl
free_is_line (b ∷ text) free =
    let both = and_parts (not (is_control b)) (list_all (λ b. not (is_control b)) text) free in
    and_from (not (b == 10)) (is_one_line text) (feed_is_control b (b == 10) refl both.0) (free_is_line text both.1)

abbrev is_lined_token : Token → Bool
is_lined_token (token.Text text) = is_one_line text
is_lined_token (token.Word w) = true
is_lined_token (token.Name n) = true
is_lined_token (token.Digits d) = true
is_lined_token (token.Op op) = true
is_lined_token (token.Symbol s) = true

abbrev AreLined : List Token → Type 0
AreLined tokens = list_all is_lined_token tokens ≡ true

spelled_lined : (t : Token) (bytes : List ℕ) → Spells t bytes → is_lined_token t ≡ true
spelled_lined (token.Text text) bytes spells = free_is_line text spells.1
spelled_lined (token.Word w) bytes spells = refl
spelled_lined (token.Name n) bytes spells = refl
spelled_lined (token.Digits d) bytes spells = refl
spelled_lined (token.Op op) bytes spells = refl
spelled_lined (token.Symbol s) bytes spells = refl

tokens_lined : (tokens : List Token) (text : List ℕ) → AreTokens tokens text → AreLined tokens
tokens_lined [] text are = refl
tokens_lined (t ∷ tokens) text (blanks, bytes, rest, whole, blank, spells, ends, others) =
    and_from (is_lined_token t) (list_all is_lined_token tokens) (spelled_lined t bytes spells) (tokens_lined tokens rest others)

-- ---- phrases

-- behind the phrase the tokens are lined where they were in front of it
abbrev Passes : Phrase → Type 0
Passes P = (tokens left : List Token) → P tokens left → AreLined tokens → AreLined left

empty_passes : Passes empty
empty_passes tokens left is lined = subst AreLined is lined

one_passes : (t : Token) → Passes (one t)
one_passes t tokens left is lined = (and_parts (is_lined_token t) (list_all is_lined_token left) (subst AreLined is lined)).1

both_pass : (P Q : Phrase) → Passes P → Passes Q → Passes (P ⨾ Q)
both_pass P Q first second tokens left (mid, is, behind) lined = second mid left behind (first tokens mid is lined)

either_passes : (P Q : Phrase) → Passes P → Passes Q → Passes (P ∣ Q)
either_passes P Q first second tokens left (inl is) lined = first tokens left is lined
either_passes P Q first second tokens left (inr is) lined = second tokens left is lined

enclosed_passes : (P : Phrase) → Passes P → Passes (enclosed P)
enclosed_passes P passes =
    both_pass (symbol Open) (P ⨾ symbol Close) (one_passes (token.Symbol Open)) (both_pass P (symbol Close) passes (one_passes (token.Symbol Close)))

geometry_passes : (text : List ℕ) → Passes (geometry text)
geometry_passes text =
    both_pass (word _) (enclosed _) (one_passes _) (enclosed_passes (one (token.Text text) ⨾ optional (symbol Comma ⨾ zero_digit))
    (both_pass (one (token.Text text)) (optional (symbol Comma ⨾ zero_digit)) (one_passes (token.Text text))
    (either_passes empty (symbol Comma ⨾ zero_digit) empty_passes (both_pass (symbol Comma) zero_digit (one_passes (token.Symbol Comma)) (one_passes (token.Digits (48 ∷ [])))))))

signed_passes : (minus : Bool) (d : List ℕ) → Passes (signed minus d)
signed_passes true d = both_pass (symbol Minus) (one (token.Digits d)) (one_passes (token.Symbol Minus)) (one_passes (token.Digits d))
signed_passes false d = one_passes (token.Digits d)

-- ---- values

-- the value of the phrase has no line feed, and the tokens behind it have none
abbrev Shows : {X : Type 0} → (X → Bool) → (X → Phrase) → Type 0
Shows {X} p P = (x : X) (tokens left : List Token) → P x tokens left → AreLined tokens → (p x ≡ true) × AreLined left

abbrev pub is_lined_literal : Literal → Bool
is_lined_literal (literals.Text text) = is_one_line text
is_lined_literal (literals.Number minus d) = true
is_lined_literal (literals.Wkt text) = true

literal_shows : Shows is_lined_literal literal
literal_shows (literals.Number minus d) tokens left is lined = (refl, signed_passes minus d tokens left is lined)
literal_shows (literals.Text text) tokens left is lined = and_parts (is_one_line text) (list_all is_lined_token left) (subst AreLined is lined)
literal_shows (literals.Wkt text) tokens left is lined = (refl, geometry_passes text tokens left is lined)

each_shows : {X : Type 0} (p : X → Bool) (P : X → Phrase) (separator : Phrase) → Passes separator → Shows p P → Shows (list_all p) (each separator P)
each_shows p P separator passes shows [] tokens left is lined = (refl, empty_passes tokens left is lined)
each_shows p P separator passes shows (x ∷ xs) tokens left (mid, separates, (behind, first, others)) lined =
    let here = shows x mid behind first (passes tokens mid separates lined) in
    let rest = each_shows p P separator passes shows xs behind left others here.1 in
    (and_from (p x) (list_all p xs) here.0 rest.0, rest.1)

list_shows : {X : Type 0} (p : X → Bool) (P : X → Phrase) (separator : Phrase) → Passes separator → Shows p P → Shows (list_all p) (list separator P)
list_shows p P separator passes shows [] tokens left is lined = absurd is
list_shows p P separator passes shows (x ∷ xs) tokens left (mid, first, others) lined =
    let here = shows x tokens mid first lined in
    let rest = each_shows p P separator passes shows xs mid left others here.1 in
    (and_from (p x) (list_all p xs) here.0 rest.0, rest.1)

comma_passes : Passes (symbol Comma)
comma_passes = one_passes (token.Symbol Comma)

abbrev pub is_lined_literals : List Literal → Bool
is_lined_literals literals = list_all is_lined_literal literals

row_shows : Shows is_lined_literals row
row_shows values tokens left (first, opens, (last, are, closes)) lined =
    let inner = list_shows is_lined_literal literal (symbol Comma) comma_passes literal_shows values first last are (one_passes (token.Symbol Open) tokens first opens lined) in
    (inner.0, one_passes (token.Symbol Close) last left closes inner.1)

abbrev pub is_lined_set : ParsedSet → Bool
is_lined_set s = is_lined_literal s.v

set_shows : Shows is_lined_set set
set_shows s tokens left (first, named, (second, equals, value)) lined =
    literal_shows s.v second left value (one_passes _ first second equals (one_passes (token.Name s.column) tokens first named lined))

-- ---- statements

abbrev pub is_lined_parsed : Parsed → Bool
is_lined_parsed (parsed.Insert table rows) = list_all is_lined_literals rows
is_lined_parsed (parsed.Update table sets w) = list_all is_lined_set sets
is_lined_parsed (parsed.Create table key columns indexes) = true
is_lined_parsed (parsed.Select table columns w) = true
is_lined_parsed (parsed.Delete table w) = true
is_lined_parsed parsed.Begin = true
is_lined_parsed parsed.Commit = true
is_lined_parsed parsed.Rollback = true

statement_lined : (p : Parsed) (tokens left : List Token) → statement p tokens left → AreLined tokens → is_lined_parsed p ≡ true
statement_lined (parsed.Insert table rows) tokens left (a, inserts, (b, into, (c, named, (d, values, are)))) lined =
    (list_shows is_lined_literals row (symbol Comma) comma_passes row_shows rows d left are
    (one_passes _ c d values (one_passes _ b c named (one_passes _ a b into (one_passes _ tokens a inserts lined))))).0
statement_lined (parsed.Update table sets w) tokens left (a, updates, (b, named, (c, set_word, (d, are, where_is)))) lined =
    (list_shows is_lined_set set (symbol Comma) comma_passes set_shows sets c d are
    (one_passes _ b c set_word (one_passes _ a b named (one_passes _ tokens a updates lined)))).0
statement_lined (parsed.Create table key columns indexes) tokens left is lined = refl
statement_lined (parsed.Select table columns w) tokens left is lined = refl
statement_lined (parsed.Delete table w) tokens left is lined = refl
statement_lined parsed.Begin tokens left is lined = refl
statement_lined parsed.Commit tokens left is lined = refl
statement_lined parsed.Rollback tokens left is lined = refl

read_tokens : (o : Option (List Token)) (p : Parsed) → option_and_then parsed_in o ≡ Some p → (tokens : List Token) × (o ≡ Some tokens) × (parsed_in tokens ≡ Some p)
read_tokens None p is = cc
read_tokens (Some tokens) p is = (tokens, refl, is)

-- a statement that was read has no line feed in its strings
pub parsed_lined : (text : List ℕ) (p : Parsed) → parsed_of text ≡ Some p → is_lined_parsed p ≡ true
unfolding parsed_of
parsed_lined text p is =
    let (tokens, are, read) = read_tokens (tokens_of text) p is in
    statement_lined p tokens [] (parsed_sound tokens p read) (tokens_lined tokens text (tokens_sound text tokens are))
