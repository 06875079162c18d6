-- Which bytes are which tokens. Each token is as long as it can be; blanks (spaces and tabs) may stand before and behind
-- every token, and no other byte does. They are needed only where the next token would make this one longer.
use Rattle.std.specs.Prelude.{◌≡◌, ℕ, Bool, true, false, not, ◌&&◌, ◌||◌, ◌==◌, nat_lt, ◌⊎◌, List, [], ◌∷◌, ◌++◌, if◌then◌else◌, Option, Some, None}
use Rattle.std.specs.Char.{is_ascii_digit, is_ascii_alphabetic}
use Rattle.std.specs.List.{list_all}
use Rattle.isp_plain.specs.declared.statement.Op.{Op}
use Rattle.isp_plain.specs.declared.statement.Op.TheVariants.{Eq, Ne, Lt, Le, Gt, Ge}
use denote.Enum.Bare.{sameb}
use Rattle.isp_tokens.specs.contracts.token.Symbol.{the_type}
use Rattle.isp_tokens.specs.declared.token.Symbol.{Symbol}
use Rattle.isp_tokens.specs.declared.token.Symbol.TheVariants as symbol
use Rattle.isp_tokens.specs.declared.token.Token.{Token}
use Rattle.isp_tokens.specs.declared.token.Token.TheVariants as token
use Rattle.isp_tokens.specs.declared.words.Word.{Word}
use Rattle.isp_tokens.specs.Words.{word_of}

abbrev pub is_blank : ℕ → Bool
is_blank b = b == 32 || b == 9

abbrev pub is_letter : ℕ → Bool
is_letter b = is_ascii_alphabetic b || b == 95

abbrev pub is_name_byte : ℕ → Bool
is_name_byte b = is_letter b || is_ascii_digit b

-- no control byte but a tab stands in a string
abbrev pub is_control : ℕ → Bool
is_control b = (nat_lt b 32 && not (b == 9)) || b == 127

-- a letter or _, and letters, digits and _ behind it
abbrev pub is_worded : List ℕ → Bool
is_worded [] = false
is_worded (b ∷ bytes) = is_letter b && list_all is_name_byte bytes

-- one digit or more
abbrev pub is_number : List ℕ → Bool
is_number [] = false
is_number (b ∷ bytes) = is_ascii_digit b && list_all is_ascii_digit bytes

-- what is written for the bytes of a string: each quote twice
abbrev pub quoted : List ℕ → List ℕ
quoted [] = []
quoted (b ∷ bytes) = if b == 39 then 39 ∷ 39 ∷ quoted bytes else b ∷ quoted bytes

abbrev pub IsOp : Op → List ℕ → Type 0
IsOp Eq bytes = bytes ≡ 61 ∷ []
IsOp Ne bytes = (bytes ≡ 60 ∷ 62 ∷ []) ⊎ (bytes ≡ 33 ∷ 61 ∷ [])
IsOp Lt bytes = bytes ≡ 60 ∷ []
IsOp Le bytes = bytes ≡ 60 ∷ 61 ∷ []
IsOp Gt bytes = bytes ≡ 62 ∷ []
IsOp Ge bytes = bytes ≡ 62 ∷ 61 ∷ []

unfoldable pub is_symbol : Symbol → Symbol → Bool
is_symbol = sameb the_type

abbrev pub symbol_byte : Symbol → ℕ
symbol_byte symbol.Open = 40
symbol_byte symbol.Close = 41
symbol_byte symbol.Comma = 44
symbol_byte symbol.Star = 42
symbol_byte symbol.Minus = 45

-- the bytes are such a token
abbrev pub Spells : Token → List ℕ → Type 0
Spells (token.Word word) bytes = (is_worded bytes ≡ true) × (word_of bytes ≡ Some word)
Spells (token.Name name) bytes = (is_worded bytes ≡ true) × (word_of bytes ≡ None) × (bytes ≡ name)
Spells (token.Digits digits) bytes = (is_number bytes ≡ true) × (bytes ≡ digits)
Spells (token.Text text) bytes = (bytes ≡ 39 ∷ (quoted text ++ 39 ∷ [])) × (list_all (λ b. not (is_control b)) text ≡ true)
Spells (token.Op op) bytes = IsOp op bytes
Spells (token.Symbol symbol) bytes = bytes ≡ symbol_byte symbol ∷ []

-- the byte behind a token would make it longer
abbrev pub lengthens : Token → ℕ → Bool
lengthens (token.Word word) b = is_name_byte b
lengthens (token.Name name) b = is_name_byte b
lengthens (token.Digits digits) b = is_ascii_digit b
lengthens (token.Text text) b = b == 39
lengthens (token.Op Lt) b = b == 61 || b == 62
lengthens (token.Op Gt) b = b == 61
lengthens (token.Op _) b = false
lengthens (token.Symbol symbol) b = false

abbrev pub Ends : Token → List ℕ → Type 0
Ends token [] = Unit {0}
Ends token (b ∷ bytes) = lengthens token b ≡ false

abbrev pub AreBlanks : List ℕ → Type 0
AreBlanks bytes = list_all is_blank bytes ≡ true

-- the text is these tokens, with blanks before, between and behind them
abbrev pub AreTokens : List Token → List ℕ → Type 0
AreTokens [] text = AreBlanks text
AreTokens (token ∷ tokens) text =
    (blanks : List ℕ) × (bytes : List ℕ) × (rest : List ℕ) × (text ≡ blanks ++ (bytes ++ rest))
    × AreBlanks blanks × Spells token bytes × Ends token rest × AreTokens tokens rest

-- a word of the grammar, or a name
abbrev pub known : Option Word → List ℕ → Token
known (Some word) bytes = token.Word word
known None bytes = token.Name bytes

abbrev pub worded : List ℕ → Token
worded bytes = known (word_of bytes) bytes
