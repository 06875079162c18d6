-- What is read of one token is what its phrase says.
use Rattle.std.proofs.Common.{◌≡◌, ℕ, Bool, true, false, cond, ◌⊎◌, inl, inr, List, [], ◌∷◌, drop, Option, Some, None, refl, ap, subst, rules}
use denote.Enum.Bare.{same_true}
use Rattle.isp_tokens.specs.contracts.words.Word.{the_type as word_type}
use Rattle.isp_tokens.specs.contracts.token.Symbol.{the_type as symbol_type}
use Rattle.isp_mbr.specs.declared.Test.{Test}
use Rattle.isp_plain.specs.declared.statement.Op.{Op}
use Rattle.isp_plain.specs.declared.statement.Op.TheVariants as ops
use Rattle.isp_tokens.specs.declared.token.Symbol.{Symbol}
use Rattle.isp_tokens.specs.declared.token.Symbol.TheVariants.{Open, Close, Comma, Star, Minus}
use Rattle.isp_tokens.specs.declared.token.Token.{Token}
use Rattle.isp_tokens.specs.declared.token.Token.TheVariants as token
use Rattle.isp_tokens.specs.declared.words.Word.{Word}
use Rattle.isp_tokens.specs.Phrases.{Phrase, one, word, symbol, name, digits, zero_digit, called}
use Rattle.isp_tokens.specs.OneToken.{◌>>=◌, Outcome, begins_word, begins_symbol, begins_column, word_at, symbol_at, name_at, text_at, digits_at, zero_at, op_at, equal_at, tested, test_at}
use Rattle.isp_tokens.specs.Tokens.{is_symbol}
use Rattle.isp_tokens.specs.Words.{is_word, test_of}
use Rattle.std.specs.Str.{bytes_eq}

-- ---- steps

-- the value of a step that gave one
pub bind_some : {A B : Type 0} (r : Option A) (f : A → Option B) (y : B) → (r >>= f) ≡ Some y → (x : A) × (r ≡ Some x) × (f x ≡ Some y)
bind_some (Some x) f y e = (x, refl, e)
bind_some None f y e = absurd cc

-- which way a test went
pub chosen : {A : Type 0} (t : Bool) (x y z : A) → cond t x y ≡ z → ((t ≡ true) × (x ≡ z)) ⊎ ((t ≡ false) × (y ≡ z))
chosen true x y z e = inl (refl, e)
chosen false x y z e = inr (refl, e)

some_is : {A : Type 0} (x y : A) → ◌≡◌ {A = Option A} (Some x) (Some y) → x ≡ y
some_is x y e = cc

pub never : {A P : Type 0} (x : A) → ◌≡◌ {A = Option A} None (Some x) → P
never x e = absurd cc

pub wrong : {P : Type 0} → false ≡ true → P
wrong e = absurd cc

-- what was read is what the value and the tokens left say
pub moved : {X : Type 0} (P : X → Phrase) (tokens : List Token) (x y : X) (a b : List Token) → ◌≡◌ {A = Outcome X} (Some (x, a)) (Some (y, b)) → P x tokens a → P y tokens b
moved {X} P tokens x y a b e p = subst (λ (q : X × List Token). P q.0 tokens q.1) (some_is (x, a) (y, b) e) p

abbrev pub IsSound : {X : Type 0} → (X → Phrase) → (List Token → Outcome X) → Type 0
IsSound {X} P item = (tokens : List Token) (x : X) (left : List Token) → item tokens ≡ Some (x, left) → P x tokens left

-- ---- one token

pub word_begins : (w : Word) (tokens : List Token) → begins_word w tokens ≡ true → word w tokens (drop 1 tokens)
unfolding is_word
word_begins w [] e = wrong e
word_begins w (token.Word v ∷ tokens) e = ap (λ (u : Word). token.Word u ∷ tokens) (same_true word_type (search rules) v w e)
word_begins w (token.Name n ∷ tokens) e = wrong e
word_begins w (token.Digits d ∷ tokens) e = wrong e
word_begins w (token.Text s ∷ tokens) e = wrong e
word_begins w (token.Op o ∷ tokens) e = wrong e
word_begins w (token.Symbol s ∷ tokens) e = wrong e

pub symbol_begins : (w : Symbol) (tokens : List Token) → begins_symbol w tokens ≡ true → symbol w tokens (drop 1 tokens)
unfolding is_symbol
symbol_begins w [] e = wrong e
symbol_begins w (token.Symbol v ∷ tokens) e = ap (λ (u : Symbol). token.Symbol u ∷ tokens) (same_true symbol_type (search rules) v w e)
symbol_begins w (token.Word v ∷ tokens) e = wrong e
symbol_begins w (token.Name n ∷ tokens) e = wrong e
symbol_begins w (token.Digits d ∷ tokens) e = wrong e
symbol_begins w (token.Text s ∷ tokens) e = wrong e
symbol_begins w (token.Op o ∷ tokens) e = wrong e

pub column_begins : (tokens : List Token) → begins_column tokens ≡ true → symbol Comma tokens (drop 1 tokens)
column_begins [] e = wrong e
column_begins (token.Symbol Comma ∷ tokens) e = refl
column_begins (token.Symbol Open ∷ tokens) e = wrong e
column_begins (token.Symbol Close ∷ tokens) e = wrong e
column_begins (token.Symbol Star ∷ tokens) e = wrong e
column_begins (token.Symbol Minus ∷ tokens) e = wrong e
column_begins (token.Word v ∷ tokens) e = wrong e
column_begins (token.Name n ∷ tokens) e = wrong e
column_begins (token.Digits d ∷ tokens) e = wrong e
column_begins (token.Text s ∷ tokens) e = wrong e
column_begins (token.Op o ∷ tokens) e = wrong e

abbrev pub IsRead : Phrase → (List Token → Outcome (Unit {0})) → Type 0
IsRead P item = (tokens : List Token) (u : Unit {0}) (left : List Token) → item tokens ≡ Some (u, left) → P tokens left

pub word_back : (w : Word) → IsRead (word w) (word_at w)
word_back w tokens u left e =
    elim (chosen (begins_word w tokens) _ _ _ e) [
      | inl h ↦ moved (λ (u : Unit {0}). word w) tokens tt u (drop 1 tokens) left h.1 (word_begins w tokens h.0)
      | inr h ↦ never _ h.1
    ]

pub symbol_back : (s : Symbol) → IsRead (symbol s) (symbol_at s)
symbol_back s tokens u left e =
    elim (chosen (begins_symbol s tokens) _ _ _ e) [
      | inl h ↦ moved (λ (u : Unit {0}). symbol s) tokens tt u (drop 1 tokens) left h.1 (symbol_begins s tokens h.0)
      | inr h ↦ never _ h.1
    ]

pub name_sound : IsSound name name_at
name_sound [] x left e = never _ e
name_sound (token.Name n ∷ tokens) x left e = moved name (token.Name n ∷ tokens) n x tokens left e refl
name_sound (token.Word v ∷ tokens) x left e = never _ e
name_sound (token.Digits d ∷ tokens) x left e = never _ e
name_sound (token.Text s ∷ tokens) x left e = never _ e
name_sound (token.Op o ∷ tokens) x left e = never _ e
name_sound (token.Symbol s ∷ tokens) x left e = never _ e

abbrev pub string : List ℕ → Phrase
string text = one (token.Text text)

abbrev pub comparison : Op → Phrase
comparison op = one (token.Op op)

pub text_sound : IsSound string text_at
text_sound [] x left e = never _ e
text_sound (token.Text s ∷ tokens) x left e = moved string (token.Text s ∷ tokens) s x tokens left e refl
text_sound (token.Word v ∷ tokens) x left e = never _ e
text_sound (token.Digits d ∷ tokens) x left e = never _ e
text_sound (token.Name n ∷ tokens) x left e = never _ e
text_sound (token.Op o ∷ tokens) x left e = never _ e
text_sound (token.Symbol s ∷ tokens) x left e = never _ e

pub digits_sound : IsSound digits digits_at
digits_sound [] x left e = never _ e
digits_sound (token.Digits d ∷ tokens) x left e = moved digits (token.Digits d ∷ tokens) d x tokens left e refl
digits_sound (token.Word v ∷ tokens) x left e = never _ e
digits_sound (token.Text s ∷ tokens) x left e = never _ e
digits_sound (token.Name n ∷ tokens) x left e = never _ e
digits_sound (token.Op o ∷ tokens) x left e = never _ e
digits_sound (token.Symbol s ∷ tokens) x left e = never _ e

pub op_sound : IsSound comparison op_at
op_sound [] x left e = never _ e
op_sound (token.Op o ∷ tokens) x left e = moved comparison (token.Op o ∷ tokens) o x tokens left e refl
op_sound (token.Word v ∷ tokens) x left e = never _ e
op_sound (token.Text s ∷ tokens) x left e = never _ e
op_sound (token.Name n ∷ tokens) x left e = never _ e
op_sound (token.Digits d ∷ tokens) x left e = never _ e
op_sound (token.Symbol s ∷ tokens) x left e = never _ e

pub zero_back : IsRead zero_digit zero_at
zero_back [] u left e = never _ e
zero_back (token.Digits d ∷ tokens) u left e =
    elim (chosen (bytes_eq d (48 ∷ [])) _ _ _ e) [
      | inl h ↦ moved (λ (u : Unit {0}). zero_digit) (token.Digits d ∷ tokens) tt u tokens left h.1 (ap (λ (b : List ℕ). token.Digits b ∷ tokens) (search (rules, h.0)))
      | inr h ↦ never _ h.1
    ]
zero_back (token.Word v ∷ tokens) u left e = never _ e
zero_back (token.Text s ∷ tokens) u left e = never _ e
zero_back (token.Name n ∷ tokens) u left e = never _ e
zero_back (token.Op o ∷ tokens) u left e = never _ e
zero_back (token.Symbol s ∷ tokens) u left e = never _ e

pub equal_back : IsRead (comparison ops.Eq) equal_at
equal_back [] u left e = never _ e
equal_back (token.Op ops.Eq ∷ tokens) u left e = moved (λ (u : Unit {0}). comparison ops.Eq) (token.Op ops.Eq ∷ tokens) tt u tokens left e refl
equal_back (token.Op ops.Ne ∷ tokens) u left e = never _ e
equal_back (token.Op ops.Lt ∷ tokens) u left e = never _ e
equal_back (token.Op ops.Le ∷ tokens) u left e = never _ e
equal_back (token.Op ops.Gt ∷ tokens) u left e = never _ e
equal_back (token.Op ops.Ge ∷ tokens) u left e = never _ e
equal_back (token.Digits d ∷ tokens) u left e = never _ e
equal_back (token.Word v ∷ tokens) u left e = never _ e
equal_back (token.Text s ∷ tokens) u left e = never _ e
equal_back (token.Name n ∷ tokens) u left e = never _ e
equal_back (token.Symbol s ∷ tokens) u left e = never _ e

tested_sound : (v : Word) (o : Option Test) → test_of v ≡ o → (tokens : List Token) (x : Test) (left : List Token) → tested o tokens ≡ Some (x, left) → called x (token.Word v ∷ tokens) left
tested_sound v (Some t) h tokens x left e = moved called (token.Word v ∷ tokens) t x tokens left e (v, h, refl)
tested_sound v None h tokens x left e = never _ e

pub test_sound : IsSound called test_at
test_sound [] x left e = never _ e
test_sound (token.Word v ∷ tokens) x left e = tested_sound v (test_of v) refl tokens x left e
test_sound (token.Text s ∷ tokens) x left e = never _ e
test_sound (token.Name n ∷ tokens) x left e = never _ e
test_sound (token.Digits d ∷ tokens) x left e = never _ e
test_sound (token.Op o ∷ tokens) x left e = never _ e
test_sound (token.Symbol s ∷ tokens) x left e = never _ e
