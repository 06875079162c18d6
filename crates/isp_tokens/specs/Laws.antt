-- What holds of all texts and words.
use Rattle.std.specs.Prelude.{◌≡◌, ◌↔◌, ℕ, List, Some}
use Rattle.isp_tokens.specs.declared.token.Token.{Token}
use Rattle.isp_tokens.specs.declared.words.Word.{Word}
use Rattle.isp_tokens.specs.Scanning.{tokens_of}
use Rattle.isp_tokens.specs.Tokens.{AreTokens}
use Rattle.isp_tokens.specs.Words.{spelling, word_of}

-- scanning from left to right finds the tokens that a text is, and nothing where it is none
abbrev pub TokensAsWritten : Type 0
TokensAsWritten = (tokens : List Token) (text : List ℕ) → AreTokens tokens text ↔ (tokens_of text ≡ Some tokens)

-- each word is known by its own spelling
abbrev pub WordsAreKnown : Type 0
WordsAreKnown = (w : Word) → word_of (spelling w) ≡ Some w
