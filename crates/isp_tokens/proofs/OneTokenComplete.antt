-- A token that is written for a value is read as it, and a phrase leaves no more tokens than there were.
use Rattle.std.proofs.Common.{◌≡◌, ◌∙◌, ℕ, suc, ◌≤◌, Bool, true, false, cond, inl, inr, List, length, Option, Some, refl, sym, ap, arith}
use denote.Enum.Bare.{true_same}
use Rattle.isp_tokens.specs.contracts.words.Word.{the_type as word_type}
use Rattle.isp_tokens.specs.contracts.token.Symbol.{the_type as symbol_type}
use Rattle.isp_mbr.specs.declared.Test.{Test}
use Rattle.isp_plain.specs.declared.statement.Op.{Op}
use Rattle.isp_plain.specs.declared.statement.Op.TheVariants as ops
use Rattle.isp_tokens.specs.declared.token.Symbol.{Symbol}
use Rattle.isp_tokens.specs.declared.token.Token.{Token}
use Rattle.isp_tokens.specs.declared.token.Token.TheVariants as token
use Rattle.isp_tokens.specs.declared.words.Word.{Word}
use Rattle.isp_tokens.specs.Phrases.{Phrase, ◌⨾◌, ◌∣◌, empty, one, word, symbol, name, digits, zero_digit, called}
use Rattle.isp_tokens.specs.OneToken.{◌>>=◌, word_at, symbol_at, name_at, text_at, digits_at, zero_at, op_at, equal_at, tested, test_at}
use Rattle.isp_tokens.specs.Tokens.{is_symbol}
use Rattle.isp_tokens.specs.Words.{is_word}
use Rattle.isp_tokens.proofs.OneTokenSound.{string, comparison, wrong}

-- ---- steps

-- what a test that is known makes of a choice
pub if_true : {A : Type 0} (t : Bool) (x y : A) → t ≡ true → cond t x y ≡ x
if_true true x y h = refl
if_true false x y h = wrong h

pub if_false : {A : Type 0} (t : Bool) (x y : A) → t ≡ false → cond t x y ≡ y
if_false true x y h = wrong (sym h)
if_false false x y h = refl

pub bind_is : {A B : Type 0} (r : Option A) (x : A) (f : A → Option B) → r ≡ Some x → (r >>= f) ≡ f x
bind_is r x f e = ap (λ s. s >>= f) e

-- ---- one token

pub word_again : (w : Word) (tokens left : List Token) → word w tokens left → word_at w tokens ≡ Some (tt, left)
unfolding is_word
word_again w tokens left e = ap (word_at w) e ∙ if_true (is_word w w) _ _ (true_same word_type w w refl)

pub symbol_again : (s : Symbol) (tokens left : List Token) → symbol s tokens left → symbol_at s tokens ≡ Some (tt, left)
unfolding is_symbol
symbol_again s tokens left e = ap (symbol_at s) e ∙ if_true (is_symbol s s) _ _ (true_same symbol_type s s refl)

pub name_again : (n : List ℕ) (tokens left : List Token) → name n tokens left → name_at tokens ≡ Some (n, left)
name_again n tokens left e = ap name_at e

pub text_again : (s : List ℕ) (tokens left : List Token) → string s tokens left → text_at tokens ≡ Some (s, left)
text_again s tokens left e = ap text_at e

pub digits_again : (d : List ℕ) (tokens left : List Token) → digits d tokens left → digits_at tokens ≡ Some (d, left)
digits_again d tokens left e = ap digits_at e

pub op_again : (o : Op) (tokens left : List Token) → comparison o tokens left → op_at tokens ≡ Some (o, left)
op_again o tokens left e = ap op_at e

pub zero_again : (tokens left : List Token) → zero_digit tokens left → zero_at tokens ≡ Some (tt, left)
zero_again tokens left e = ap zero_at e

pub equal_again : (tokens left : List Token) → comparison ops.Eq tokens left → equal_at tokens ≡ Some (tt, left)
equal_again tokens left e = ap equal_at e

pub test_again : (t : Test) (tokens left : List Token) → called t tokens left → test_at tokens ≡ Some (t, left)
test_again t tokens left m = ap test_at m.2 ∙ ap (λ (o : Option Test). tested o left) m.1

-- ---- a phrase leaves no more tokens than there were

abbrev pub Shrinks : Phrase → Type 0
Shrinks P = (tokens left : List Token) → P tokens left → length left ≤ length tokens

pub one_shrinks : (t : Token) → Shrinks (one t)
one_shrinks t tokens left e = let n : length tokens ≡ suc (length left) = ap length e in omega arith

pub both_shrink : (P Q : Phrase) → Shrinks P → Shrinks Q → Shrinks (P ⨾ Q)
both_shrink P Q p q tokens left m = let a : length m.0 ≤ length tokens = p _ _ m.1 in let b : length left ≤ length m.0 = q _ _ m.2 in omega arith

pub either_shrinks : (P Q : Phrase) → Shrinks P → Shrinks Q → Shrinks (P ∣ Q)
either_shrinks P Q p q tokens left (inl m) = p tokens left m
either_shrinks P Q p q tokens left (inr m) = q tokens left m

pub empty_shrinks : Shrinks empty
empty_shrinks tokens left e = let n : length tokens ≡ length left = ap length e in omega arith

pub called_shrinks : (t : Test) → Shrinks (called t)
called_shrinks t tokens left m = one_shrinks (token.Word m.0) tokens left m.2
