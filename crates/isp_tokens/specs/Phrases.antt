-- Phrases: a phrase says of tokens, and of those that are left behind it, whether it stands between. From phrases of one
-- token and these ways to join them a grammar is written as it reads.
use Rattle.std.specs.Prelude.{◌≡◌, ℕ, ◌⊎◌, List, [], ◌∷◌, Some}
use Rattle.isp_mbr.specs.declared.Test.{Test}
use Rattle.isp_tokens.specs.declared.token.Symbol.{Symbol}
use Rattle.isp_tokens.specs.declared.token.Symbol.TheVariants.{Open, Close}
use Rattle.isp_tokens.specs.declared.token.Token.{Token}
use Rattle.isp_tokens.specs.declared.token.Token.TheVariants as token
use Rattle.isp_tokens.specs.declared.words.Word.{Word}
use Rattle.isp_tokens.specs.Words.{test_of}

abbrev pub Phrase : Type 1
Phrase = List Token → List Token → Type 0

-- nothing
abbrev pub empty : Phrase
empty tokens left = tokens ≡ left

-- the token
abbrev pub one : Token → Phrase
one token tokens left = tokens ≡ token ∷ left

-- the first phrase, and the second behind it
infixr 20 ◌⨾◌
abbrev pub ◌⨾◌ : Phrase → Phrase → Phrase
(P ⨾ Q) tokens left = (mid : List Token) × P tokens mid × Q mid left

-- one of two phrases
infixr 15 ◌∣◌
abbrev pub ◌∣◌ : Phrase → Phrase → Phrase
(P ∣ Q) tokens left = P tokens left ⊎ Q tokens left

-- a phrase that may be left out
abbrev pub optional : Phrase → Phrase
optional P = empty ∣ P

-- values one after another, each behind the phrase that separates them
abbrev pub each : {X : Type 0} → Phrase → (X → Phrase) → List X → Phrase
each separator P [] = empty
each separator P (x ∷ xs) = separator ⨾ P x ⨾ each separator P xs

-- one value or more, with the phrase between them
abbrev pub list : {X : Type 0} → Phrase → (X → Phrase) → List X → Phrase
list separator P [] tokens left = ⊥
list separator P (x ∷ xs) tokens left = (P x ⨾ each separator P xs) tokens left

abbrev pub word : Word → Phrase
word w = one (token.Word w)

abbrev pub symbol : Symbol → Phrase
symbol s = one (token.Symbol s)

abbrev pub name : List ℕ → Phrase
name n = one (token.Name n)

abbrev pub digits : List ℕ → Phrase
digits d = one (token.Digits d)

-- the digit 0 alone
abbrev pub zero_digit : Phrase
zero_digit = digits (48 ∷ [])

-- between parentheses
abbrev pub enclosed : Phrase → Phrase
enclosed P = symbol Open ⨾ P ⨾ symbol Close

-- a function that is this test where its first argument is the column
abbrev pub called : Test → Phrase
called test tokens left = (w : Word) × (test_of w ≡ Some test) × word w tokens left
