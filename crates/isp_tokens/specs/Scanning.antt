-- The tokens of a text, read byte by byte.
use Rattle.std.specs.Prelude.{ℕ, ◌==◌, List, [], ◌∷◌, ◌++◌, if◌then◌else◌, Option, Some, None}
use Rattle.std.specs.Char.{is_ascii_digit}
use Rattle.std.specs.Option.{option_map, option_to_list}
use Rattle.isp_plain.specs.declared.statement.Op.{Op}
use Rattle.isp_plain.specs.declared.statement.Op.TheVariants.{Eq, Ne, Lt, Le, Gt, Ge}
use Rattle.isp_tokens.specs.declared.token.Begun.{Begun}
use Rattle.isp_tokens.specs.declared.token.Begun.TheVariants as begun
use Rattle.isp_tokens.specs.declared.token.Next.{Next}
use Rattle.isp_tokens.specs.declared.token.Symbol.{Symbol}
use Rattle.isp_tokens.specs.declared.token.Symbol.TheVariants as symbol
use Rattle.isp_tokens.specs.declared.token.Token.{Token}
use Rattle.isp_tokens.specs.declared.token.Token.TheVariants as token
use Rattle.isp_tokens.specs.Tokens.{is_blank, is_letter, is_name_byte, is_control, worded}

abbrev pub symbol_of : ℕ → Option Symbol
symbol_of b =
    if b == 40 then Some symbol.Open
    else if b == 41 then Some symbol.Close
    else if b == 44 then Some symbol.Comma
    else if b == 42 then Some symbol.Star
    else if b == 45 then Some symbol.Minus
    else None

abbrev pub op_of : ℕ → Option Op
op_of b =
    if b == 61 then Some Eq
    else if b == 60 then Some Lt
    else if b == 62 then Some Gt
    else None

-- the comparison that one and the byte behind it are
abbrev pub longer : Op → ℕ → Option Op
longer Lt b = if b == 61 then Some Le else if b == 62 then Some Ne else None
longer Gt b = if b == 61 then Some Ge else None
longer Eq b = None
longer Ne b = None
longer Le b = None
longer Ge b = None

-- what a byte begins that is no symbol and no comparison
abbrev pub begun_by : ℕ → Begun
begun_by b =
    if is_blank b then begun.Nothing
    else if is_letter b then begun.Word (b ∷ [])
    else if is_ascii_digit b then begun.Digits (b ∷ [])
    else if b == 39 then begun.Text []
    else if b == 33 then begun.Bang
    else begun.Failed

abbrev pub begun_as : Option Symbol → Option Op → ℕ → Begun
begun_as (Some symbol) op b = begun.Symbol symbol
begun_as None (Some op) b = begun.Op op
begun_as None None b = begun_by b

-- what a byte begins behind a whole token
abbrev pub begin : ℕ → Begun
begin b = begun_as (symbol_of b) (op_of b) b

abbrev pub goes_on : Begun → Next
goes_on begun = record { whole = None; begun = begun }

abbrev pub ends : Token → ℕ → Next
ends token b = record { whole = Some token; begun = begin b }

abbrev pub in_text : List ℕ → ℕ → Begun
in_text text b = if b == 39 then begun.Quote text else if is_control b then begun.Failed else begun.Text (text ++ b ∷ [])

abbrev pub in_op : Op → Option Op → ℕ → Next
in_op op (Some longer) b = goes_on (begun.Op longer)
in_op op None b = ends (token.Op op) b

-- one byte further
abbrev pub step : Begun → ℕ → Next
step begun.Nothing b = goes_on (begin b)
step (begun.Word word) b = if is_name_byte b then goes_on (begun.Word (word ++ b ∷ [])) else ends (worded word) b
step (begun.Digits digits) b = if is_ascii_digit b then goes_on (begun.Digits (digits ++ b ∷ [])) else ends (token.Digits digits) b
step (begun.Text text) b = goes_on (in_text text b)
step (begun.Quote text) b = if b == 39 then goes_on (begun.Text (text ++ b ∷ [])) else ends (token.Text text) b
step (begun.Op op) b = in_op op (longer op b) b
step begun.Bang b = goes_on (if b == 61 then begun.Op Ne else begun.Failed)
step (begun.Symbol symbol) b = ends (token.Symbol symbol) b
step begun.Failed b = goes_on begun.Failed

-- the last tokens, where the text ends here
abbrev pub ended : Begun → Option (List Token)
ended begun.Nothing = Some []
ended (begun.Word word) = Some (worded word ∷ [])
ended (begun.Digits digits) = Some (token.Digits digits ∷ [])
ended (begun.Text text) = None
ended (begun.Quote text) = Some (token.Text text ∷ [])
ended (begun.Op op) = Some (token.Op op ∷ [])
ended begun.Bang = None
ended (begun.Symbol symbol) = Some (token.Symbol symbol ∷ [])
ended begun.Failed = None

-- tokens and those behind them
abbrev pub onto : List Token → Option (List Token) → Option (List Token)
onto tokens more = option_map (λ others. tokens ++ others) more

abbrev pub scan : Begun → List ℕ → Option (List Token)
scan begun [] = ended begun
scan begun (b ∷ bytes) = onto (option_to_list (step begun b).whole) (scan (step begun b).begun bytes)

unfoldable pub tokens_of : List ℕ → Option (List Token)
tokens_of text = scan begun.Nothing text
