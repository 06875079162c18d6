-- Reading one token: whether it is next, and what it is with the tokens behind it, or nothing where another one stands
-- there.
use Rattle.std.specs.Prelude.{◌≡◌, ℕ, Bool, true, false, List, [], ◌∷◌, drop, Result, Ok, Err, Option, Some, None, if◌then◌else◌}
use Rattle.std.specs.Str.{bytes_eq}
use Rattle.isp_mbr.specs.declared.Test.{Test}
use Rattle.isp_plain.specs.declared.statement.Op.{Op}
use Rattle.isp_plain.specs.declared.statement.Op.TheVariants as op
use Rattle.isp_tokens.specs.declared.error.SqlError.{SqlError}
use Rattle.isp_tokens.specs.declared.error.SqlError.TheVariants.{Syntax, OutOfMemory}
use Rattle.isp_tokens.specs.declared.token.Symbol.{Symbol}
use Rattle.isp_tokens.specs.declared.token.Symbol.TheVariants as symbol
use Rattle.isp_tokens.specs.declared.token.Token.{Token}
use Rattle.isp_tokens.specs.declared.token.Token.TheVariants as token
use Rattle.isp_tokens.specs.declared.words.Word.{Word}
use Rattle.isp_tokens.specs.Tokens.{is_symbol}
use Rattle.isp_tokens.specs.Words.{is_word, test_of}

-- a value and the tokens behind it, or nothing
abbrev pub Outcome : Type 0 → Type 0
Outcome X = Option (X × List Token)

infixl 10 ◌>>=◌
abbrev pub ◌>>=◌ : {A B : Type 0} → Option A → (A → Option B) → Option B
(Some x) >>= f = f x
None >>= f = None

-- what a call answered, with the tokens that it left, is what reading gives
abbrev pub Reads : {X : Type 0} → Result X SqlError → Outcome X → List Token → Type 0
Reads (Ok x) read left = read ≡ Some (x, left)
Reads (Err Syntax) read left = read ≡ None
Reads (Err OutOfMemory) read left = Unit {0}

-- ---- what is next

abbrev pub begins_word : Word → List Token → Bool
begins_word wanted [] = false
begins_word wanted (token.Word word ∷ tokens) = is_word word wanted
begins_word wanted (token.Name _ ∷ tokens) = false
begins_word wanted (token.Digits _ ∷ tokens) = false
begins_word wanted (token.Text _ ∷ tokens) = false
begins_word wanted (token.Op _ ∷ tokens) = false
begins_word wanted (token.Symbol _ ∷ tokens) = false

abbrev pub begins_symbol : Symbol → List Token → Bool
begins_symbol wanted [] = false
begins_symbol wanted (token.Symbol symbol ∷ tokens) = is_symbol symbol wanted
begins_symbol wanted (token.Word _ ∷ tokens) = false
begins_symbol wanted (token.Name _ ∷ tokens) = false
begins_symbol wanted (token.Digits _ ∷ tokens) = false
begins_symbol wanted (token.Text _ ∷ tokens) = false
begins_symbol wanted (token.Op _ ∷ tokens) = false

abbrev pub begins_name : List Token → Bool
begins_name [] = false
begins_name (token.Name _ ∷ tokens) = true
begins_name (token.Word _ ∷ tokens) = false
begins_name (token.Digits _ ∷ tokens) = false
begins_name (token.Text _ ∷ tokens) = false
begins_name (token.Op _ ∷ tokens) = false
begins_name (token.Symbol _ ∷ tokens) = false

abbrev pub begins_digits : List Token → Bool
begins_digits [] = false
begins_digits (token.Digits _ ∷ tokens) = true
begins_digits (token.Word _ ∷ tokens) = false
begins_digits (token.Name _ ∷ tokens) = false
begins_digits (token.Text _ ∷ tokens) = false
begins_digits (token.Op _ ∷ tokens) = false
begins_digits (token.Symbol _ ∷ tokens) = false

-- a comma and a name
abbrev pub begins_column : List Token → Bool
begins_column (token.Symbol symbol.Comma ∷ tokens) = begins_name tokens
begins_column _ = false

-- ---- one token

abbrev pub taken : Bool → List Token → Outcome (Unit {0})
taken fits tokens = if fits then Some (tt, drop 1 tokens) else None

abbrev pub word_at : Word → List Token → Outcome (Unit {0})
word_at wanted tokens = taken (begins_word wanted tokens) tokens

abbrev pub symbol_at : Symbol → List Token → Outcome (Unit {0})
symbol_at wanted tokens = taken (begins_symbol wanted tokens) tokens

abbrev pub name_at : List Token → Outcome (List ℕ)
name_at (token.Name name ∷ tokens) = Some (name, tokens)
name_at _ = None

abbrev pub text_at : List Token → Outcome (List ℕ)
text_at (token.Text text ∷ tokens) = Some (text, tokens)
text_at _ = None

abbrev pub digits_at : List Token → Outcome (List ℕ)
digits_at (token.Digits digits ∷ tokens) = Some (digits, tokens)
digits_at _ = None

-- the digit 0 alone
abbrev pub zero_at : List Token → Outcome (Unit {0})
zero_at (token.Digits digits ∷ tokens) = if bytes_eq digits (48 ∷ []) then Some (tt, tokens) else None
zero_at _ = None

abbrev pub op_at : List Token → Outcome Op
op_at (token.Op op ∷ tokens) = Some (op, tokens)
op_at _ = None

abbrev pub equal_at : List Token → Outcome (Unit {0})
equal_at (token.Op op.Eq ∷ tokens) = Some (tt, tokens)
equal_at _ = None

abbrev pub tested : Option Test → List Token → Outcome Test
tested (Some test) tokens = Some (test, tokens)
tested None tokens = None

abbrev pub test_at : List Token → Outcome Test
test_at (token.Word word ∷ tokens) = tested (test_of word) tokens
test_at _ = None
