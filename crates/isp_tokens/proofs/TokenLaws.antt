-- What is scanned of bytes is the tokens that they are, and the tokens that bytes are is what is scanned.
use Rattle.std.proofs.Common.{◌≡◌, ◌∙◌, ℕ, ◌==◌, ◌&&◌, ◌||◌, not, Bool, true, false, cond, ◌⊎◌, inl, inr, List, [], ◌∷◌, ◌++◌, Option, Some, None, refl, sym, ap, subst, append_assoc, append-nil, arith}
use Rattle.std.specs.Char.{is_ascii_digit}
use Rattle.std.specs.List.{list_all}
use Rattle.std.specs.Option.{option_to_list}
use Rattle.std.proofs.lemmas.Bool.Decides.{nat_tests}
use Rattle.isp_plain.specs.declared.statement.Op.{Op}
use Rattle.isp_plain.specs.declared.statement.Op.TheVariants.{Eq, Ne, Lt, Le, Gt, Ge}
use Rattle.isp_tokens.specs.declared.token.Begun.{Begun}
use Rattle.isp_tokens.specs.declared.token.Begun.TheVariants as begun
use Rattle.isp_tokens.specs.declared.token.Next.{Next}
use Rattle.isp_tokens.specs.declared.token.Symbol.{Symbol}
use Rattle.isp_tokens.specs.declared.token.Symbol.TheVariants as symbol
use Rattle.isp_tokens.specs.declared.token.Token.{Token}
use Rattle.isp_tokens.specs.declared.token.Token.TheVariants as token
use Rattle.isp_tokens.specs.declared.words.Word.{Word}
use Rattle.isp_tokens.specs.Scanning.{symbol_of, op_of, longer, begin, begun_by, begun_as, goes_on, ends, step, in_op, ended, onto, scan, tokens_of}
use Rattle.isp_tokens.specs.Tokens.{is_blank, is_letter, is_name_byte, is_control, quoted, symbol_byte, Spells, lengthens, Ends, AreTokens, known, worded}
use Rattle.isp_tokens.specs.Words.{word_of}
use Rattle.isp_tokens.proofs.OneTokenSound.{never}
use Rattle.isp_tokens.proofs.OneTokenComplete.{if_false}

pub is_it : (b c : ℕ) → (b == c) ≡ true → b ≡ c
is_it b c h = grind (arith, nat_tests)

-- the bytes go on with what has begun, and make it the token
abbrev pub Continues : Begun → List ℕ → Token → Type 0
Continues begun.Nothing more t = ⊥
Continues (begun.Word w) more t = (list_all is_name_byte more ≡ true) × (t ≡ worded (w ++ more))
Continues (begun.Digits d) more t = (list_all is_ascii_digit more ≡ true) × (t ≡ token.Digits (d ++ more))
Continues (begun.Text s) more t = (text : List ℕ) × (more ≡ quoted text ++ 39 ∷ []) × (list_all (λ b. not (is_control b)) text ≡ true) × (t ≡ token.Text (s ++ text))
Continues (begun.Quote s) more t =
    ((more ≡ []) × (t ≡ token.Text s))
    ⊎ ((text : List ℕ) × (more ≡ 39 ∷ (quoted text ++ 39 ∷ [])) × (list_all (λ b. not (is_control b)) text ≡ true) × (t ≡ token.Text (s ++ 39 ∷ text)))
Continues (begun.Op op) more t = ((more ≡ []) × (t ≡ token.Op op)) ⊎ ((b : ℕ) × (o : Op) × (more ≡ b ∷ []) × (longer op b ≡ Some o) × (t ≡ token.Op o))
Continues begun.Bang more t = (more ≡ 61 ∷ []) × (t ≡ token.Op Ne)
Continues (begun.Symbol s) more t = (more ≡ []) × (t ≡ token.Symbol s)
Continues begun.Failed more t = ⊥

-- the bytes are what is left of a token that has begun, and further tokens
pub record Goes (begun : Begun) (text : List ℕ) (tokens : List Token) : Type 0 where
  pub first : Token
  pub others : List Token
  pub more : List ℕ
  pub rest : List ℕ
  pub listed : tokens ≡ first ∷ others
  pub parts : text ≡ more ++ rest
  pub continues : Continues begun more first
  pub ends : Ends first rest
  pub tail : AreTokens others rest

abbrev pub Ahead : Begun → List ℕ → List Token → Type 0
Ahead begun.Nothing text tokens = AreTokens tokens text
Ahead (begun.Word w) text tokens = Goes (begun.Word w) text tokens
Ahead (begun.Digits d) text tokens = Goes (begun.Digits d) text tokens
Ahead (begun.Text s) text tokens = Goes (begun.Text s) text tokens
Ahead (begun.Quote s) text tokens = Goes (begun.Quote s) text tokens
Ahead (begun.Op o) text tokens = Goes (begun.Op o) text tokens
Ahead begun.Bang text tokens = Goes begun.Bang text tokens
Ahead (begun.Symbol s) text tokens = Goes (begun.Symbol s) text tokens
Ahead begun.Failed text tokens = Goes begun.Failed text tokens

-- ---- which byte begins what

-- how the byte begins a token, or stands between two
abbrev Begins : Begun → ℕ → Type 0
Begins begun.Nothing b = is_blank b ≡ true
Begins (begun.Word w) b = (w ≡ b ∷ []) × (is_letter b ≡ true)
Begins (begun.Digits d) b = (d ≡ b ∷ []) × (is_ascii_digit b ≡ true)
Begins (begun.Text s) b = (s ≡ []) × (b ≡ 39)
Begins (begun.Quote s) b = ⊥
Begins (begun.Op o) b = ((o ≡ Eq) × (b ≡ 61)) ⊎ (((o ≡ Lt) × (b ≡ 60)) ⊎ ((o ≡ Gt) × (b ≡ 62)))
Begins begun.Bang b = b ≡ 33
Begins (begun.Symbol s) b = b ≡ symbol_byte s
Begins begun.Failed b = Unit {0}

by_begins : (b : ℕ) → Begins (begun_by b) b
by_begins b = at (is_blank b) (is_letter b) (is_ascii_digit b) (b == 39) (b == 33) refl refl refl refl refl
  where
    at : (v w x y z : Bool) → is_blank b ≡ v → is_letter b ≡ w → is_ascii_digit b ≡ x → (b == 39) ≡ y → (b == 33) ≡ z
        → Begins (cond v begun.Nothing (cond w (begun.Word (b ∷ [])) (cond x (begun.Digits (b ∷ [])) (cond y (begun.Text []) (cond z begun.Bang begun.Failed))))) b
    at true w x y z e f g h k = e
    at false true x y z e f g h k = (refl, f)
    at false false true y z e f g h k = (refl, g)
    at false false false true z e f g h k = (refl, is_it b 39 h)
    at false false false false true e f g h k = is_it b 33 k
    at false false false false false e f g h k = tt

symbol_is : (b : ℕ) (s : Symbol) → symbol_of b ≡ Some s → b ≡ symbol_byte s
symbol_is b s e = at (b == 40) (b == 41) (b == 44) (b == 42) (b == 45) refl refl refl refl refl e
  where
    same : (x y : Symbol) → ◌≡◌ {A = Option Symbol} (Some x) (Some y) → x ≡ y
    same x y e = cc

    at : (v w x y z : Bool) → (b == 40) ≡ v → (b == 41) ≡ w → (b == 44) ≡ x → (b == 42) ≡ y → (b == 45) ≡ z
        → ◌≡◌ {A = Option Symbol} (cond v (Some symbol.Open) (cond w (Some symbol.Close) (cond x (Some symbol.Comma) (cond y (Some symbol.Star) (cond z (Some symbol.Minus) None))))) (Some s) → b ≡ symbol_byte s
    at true w x y z e f g h k is = is_it b 40 e ∙ ap symbol_byte (same symbol.Open s is)
    at false true x y z e f g h k is = is_it b 41 f ∙ ap symbol_byte (same symbol.Close s is)
    at false false true y z e f g h k is = is_it b 44 g ∙ ap symbol_byte (same symbol.Comma s is)
    at false false false true z e f g h k is = is_it b 42 h ∙ ap symbol_byte (same symbol.Star s is)
    at false false false false true e f g h k is = is_it b 45 k ∙ ap symbol_byte (same symbol.Minus s is)
    at false false false false false e f g h k is = never s is

op_is : (b : ℕ) (o : Op) → op_of b ≡ Some o → Begins (begun.Op o) b
op_is b o e = at (b == 61) (b == 60) (b == 62) refl refl refl e
  where
    same : (x y : Op) → ◌≡◌ {A = Option Op} (Some x) (Some y) → x ≡ y
    same x y e = cc

    at : (x y z : Bool) → (b == 61) ≡ x → (b == 60) ≡ y → (b == 62) ≡ z → ◌≡◌ {A = Option Op} (cond x (Some Eq) (cond y (Some Lt) (cond z (Some Gt) None))) (Some o) → Begins (begun.Op o) b
    at true y z e f g is = inl (sym (same Eq o is), is_it b 61 e)
    at false true z e f g is = inr (inl (sym (same Lt o is), is_it b 60 f))
    at false false true e f g is = inr (inr (sym (same Gt o is), is_it b 62 g))
    at false false false e f g is = never o is

begins : (b : ℕ) → Begins (begin b) b
begins b = at (symbol_of b) (op_of b) refl refl
  where
    at : (s : Option Symbol) (o : Option Op) → symbol_of b ≡ s → op_of b ≡ o → Begins (begun_as s o b) b
    at (Some s) o e f = symbol_is b s e
    at None (Some o) e f = op_is b o f
    at None None e f = by_begins b

-- ---- what has begun with one byte, and goes on, is a token

word_spells : (b : ℕ) (more : List ℕ) → is_letter b ≡ true → list_all is_name_byte more ≡ true → (o : Option Word) → word_of (b ∷ more) ≡ o → Spells (known o (b ∷ more)) (b ∷ more)
word_spells b more l n (Some w) e = (ap (λ (t : Bool). t && list_all is_name_byte more) l ∙ n, e)
word_spells b more l n None e = (ap (λ (t : Bool). t && list_all is_name_byte more) l ∙ n, e, refl)

longer_less : (b : ℕ) (o : Op) → longer Lt b ≡ Some o → ((b ≡ 61) × (o ≡ Le)) ⊎ ((b ≡ 62) × (o ≡ Ne))
longer_less b o e = at (b == 61) (b == 62) refl refl e
  where
    same : (x y : Op) → ◌≡◌ {A = Option Op} (Some x) (Some y) → x ≡ y
    same x y e = cc

    at : (x y : Bool) → (b == 61) ≡ x → (b == 62) ≡ y → ◌≡◌ {A = Option Op} (cond x (Some Le) (cond y (Some Ne) None)) (Some o) → ((b ≡ 61) × (o ≡ Le)) ⊎ ((b ≡ 62) × (o ≡ Ne))
    at true y e f is = inl (is_it b 61 e, sym (same Le o is))
    at false true e f is = inr (is_it b 62 f, sym (same Ne o is))
    at false false e f is = never o is

longer_greater : (b : ℕ) (o : Op) → longer Gt b ≡ Some o → (b ≡ 61) × (o ≡ Ge)
longer_greater b o e = at (b == 61) refl e
  where
    same : (x y : Op) → ◌≡◌ {A = Option Op} (Some x) (Some y) → x ≡ y
    same x y e = cc

    at : (x : Bool) → (b == 61) ≡ x → ◌≡◌ {A = Option Op} (cond x (Some Ge) None) (Some o) → (b ≡ 61) × (o ≡ Ge)
    at true e is = (is_it b 61 e, sym (same Ge o is))
    at false e is = never o is

op_spells : (op : Op) (b : ℕ) (more : List ℕ) (t : Token) → Begins (begun.Op op) b → Continues (begun.Op op) more t → Spells t (b ∷ more)
op_spells Eq b more t (inl i) (inl c) = subst (λ (u : Token). Spells u (b ∷ more)) (sym c.1) (ap (λ (a : ℕ). a ∷ more) i.1 ∙ ap (λ (m : List ℕ). 61 ∷ m) c.0)
op_spells Eq b more t (inr i) c = absurd (elim i [ inl j ↦ (let no : Eq ≡ Lt = j.0 in cc) | inr j ↦ (let no : Eq ≡ Gt = j.0 in cc) ])
op_spells Eq b more t (inl i) (inr c) = never c.1 c.3
op_spells Ne b more t i c = absurd (elim i [ inl j ↦ (let no : Ne ≡ Eq = j.0 in cc) | inr k ↦ elim k [ inl j ↦ (let no : Ne ≡ Lt = j.0 in cc) | inr j ↦ (let no : Ne ≡ Gt = j.0 in cc) ] ])
op_spells Le b more t i c = absurd (elim i [ inl j ↦ (let no : Le ≡ Eq = j.0 in cc) | inr k ↦ elim k [ inl j ↦ (let no : Le ≡ Lt = j.0 in cc) | inr j ↦ (let no : Le ≡ Gt = j.0 in cc) ] ])
op_spells Ge b more t i c = absurd (elim i [ inl j ↦ (let no : Ge ≡ Eq = j.0 in cc) | inr k ↦ elim k [ inl j ↦ (let no : Ge ≡ Lt = j.0 in cc) | inr j ↦ (let no : Ge ≡ Gt = j.0 in cc) ] ])
op_spells Lt b more t (inl i) c = absurd (let no : Lt ≡ Eq = i.0 in cc)
op_spells Lt b more t (inr (inr i)) c = absurd (let no : Lt ≡ Gt = i.0 in cc)
op_spells Lt b more t (inr (inl i)) (inl c) = subst (λ (u : Token). Spells u (b ∷ more)) (sym c.1) (ap (λ (a : ℕ). a ∷ more) i.1 ∙ ap (λ (m : List ℕ). 60 ∷ m) c.0)
op_spells Lt b more t (inr (inl i)) (inr c) =
    let whole : b ∷ more ≡ 60 ∷ c.0 ∷ [] = ap (λ (a : ℕ). a ∷ more) i.1 ∙ ap (λ (m : List ℕ). 60 ∷ m) c.2 in
    elim (longer_less c.0 c.1 c.3) [
      | inl j ↦ subst (λ (u : Token). Spells u (b ∷ more)) (sym (c.4 ∙ ap token.Op j.1)) (whole ∙ ap (λ (a : ℕ). 60 ∷ a ∷ []) j.0)
      | inr j ↦ subst (λ (u : Token). Spells u (b ∷ more)) (sym (c.4 ∙ ap token.Op j.1)) (inl (whole ∙ ap (λ (a : ℕ). 60 ∷ a ∷ []) j.0))
    ]
op_spells Gt b more t (inl i) c = absurd (let no : Gt ≡ Eq = i.0 in cc)
op_spells Gt b more t (inr (inl i)) c = absurd (let no : Gt ≡ Lt = i.0 in cc)
op_spells Gt b more t (inr (inr i)) (inl c) = subst (λ (u : Token). Spells u (b ∷ more)) (sym c.1) (ap (λ (a : ℕ). a ∷ more) i.1 ∙ ap (λ (m : List ℕ). 62 ∷ m) c.0)
op_spells Gt b more t (inr (inr i)) (inr c) =
    let whole : b ∷ more ≡ 62 ∷ c.0 ∷ [] = ap (λ (a : ℕ). a ∷ more) i.1 ∙ ap (λ (m : List ℕ). 62 ∷ m) c.2 in
    let j = longer_greater c.0 c.1 c.3 in
    subst (λ (u : Token). Spells u (b ∷ more)) (sym (c.4 ∙ ap token.Op j.1)) (whole ∙ ap (λ (a : ℕ). 62 ∷ a ∷ []) j.0)

spells : (begun : Begun) (b : ℕ) (more : List ℕ) (t : Token) → Begins begun b → Continues begun more t → Spells t (b ∷ more)
spells begun.Nothing b more t i c = absurd c
spells (begun.Word w) b more t i c =
    let is : t ≡ worded (b ∷ more) = c.1 ∙ ap (λ (v : List ℕ). worded (v ++ more)) i.0 in
    subst (λ (u : Token). Spells u (b ∷ more)) (sym is) (word_spells b more i.1 c.0 (word_of (b ∷ more)) refl)
spells (begun.Digits d) b more t i c =
    let is : t ≡ token.Digits (b ∷ more) = c.1 ∙ ap (λ (v : List ℕ). token.Digits (v ++ more)) i.0 in
    subst (λ (u : Token). Spells u (b ∷ more)) (sym is) (ap (λ (t : Bool). t && list_all is_ascii_digit more) i.1 ∙ c.0, refl)
spells (begun.Text s) b more t i c =
    let is : t ≡ token.Text c.0 = c.3 ∙ ap (λ (v : List ℕ). token.Text (v ++ c.0)) i.0 in
    subst (λ (u : Token). Spells u (b ∷ more)) (sym is) (ap (λ (a : ℕ). a ∷ more) i.1 ∙ ap (λ (m : List ℕ). 39 ∷ m) c.1, c.2)
spells (begun.Quote s) b more t i c = absurd i
spells (begun.Op op) b more t i c = op_spells op b more t i c
spells begun.Bang b more t i c = subst (λ (u : Token). Spells u (b ∷ more)) (sym c.1) (inr (ap (λ (a : ℕ). a ∷ more) i ∙ ap (λ (m : List ℕ). 33 ∷ m) c.0))
spells (begun.Symbol s) b more t i c = subst (λ (u : Token). Spells u (b ∷ more)) (sym c.1) (ap (λ (a : ℕ). a ∷ more) i ∙ ap (λ (m : List ℕ). symbol_byte s ∷ m) c.0)
spells begun.Failed b more t i c = absurd c

-- a blank before tokens
blank_before : (b : ℕ) (ts : List Token) (text : List ℕ) → is_blank b ≡ true → AreTokens ts text → AreTokens ts (b ∷ text)
blank_before b [] text e m = ap (λ (t : Bool). t && list_all is_blank text) e ∙ m
blank_before b (t ∷ ts) text e m =
    (b ∷ m.0, m.1, m.2, ap (λ (u : List ℕ). b ∷ u) m.3, ap (λ (t : Bool). t && list_all is_blank m.0) e ∙ m.4, m.5, m.6, m.7)

-- what has begun with a byte, and what follows, are tokens that begin with it
token_before : (begun : Begun) (b : ℕ) (text : List ℕ) (ts : List Token) → Begins begun b → Goes begun text ts → AreTokens ts (b ∷ text)
token_before begun b text ts i g =
    subst (λ (us : List Token). AreTokens us (b ∷ text)) (sym g.listed)
    ([], b ∷ g.more, g.rest, ap (λ (u : List ℕ). b ∷ u) g.parts, refl, spells begun b g.more g.first i g.continues, g.ends, g.tail)

before : (begun : Begun) (b : ℕ) (text : List ℕ) (ts : List Token) → Begins begun b → Ahead begun text ts → AreTokens ts (b ∷ text)
before begun.Nothing b text ts i a = blank_before b ts text i a
before (begun.Word w) b text ts i a = token_before (begun.Word w) b text ts i a
before (begun.Digits w) b text ts i a = token_before (begun.Digits w) b text ts i a
before (begun.Text w) b text ts i a = token_before (begun.Text w) b text ts i a
before (begun.Quote w) b text ts i a = absurd i
before (begun.Op w) b text ts i a = token_before (begun.Op w) b text ts i a
before begun.Bang b text ts i a = token_before begun.Bang b text ts i a
before (begun.Symbol w) b text ts i a = token_before (begun.Symbol w) b text ts i a
before begun.Failed b text ts i a = absurd a.continues

-- ---- what is scanned is tokens

pub cons_parts : (b c : ℕ) (xs ys : List ℕ) → b ∷ xs ≡ c ∷ ys → (b ≡ c) × (xs ≡ ys)
cons_parts b c xs ys e = (let same : b ≡ c = cc in same, let same : xs ≡ ys = cc in same)

pub word_lengthens : (o : Option Word) (w : List ℕ) (b : ℕ) → lengthens (known o w) b ≡ is_name_byte b
word_lengthens (Some v) w b = refl
word_lengthens None w b = refl

no_longer : (op : Op) (b : ℕ) → longer op b ≡ None → lengthens (token.Op op) b ≡ false
no_longer Eq b e = refl
no_longer Ne b e = refl
no_longer Le b e = refl
no_longer Ge b e = refl
no_longer Lt b e = at (b == 61) (b == 62) e
  where
    at : (x y : Bool) → ◌≡◌ {A = Option Op} (cond x (Some Le) (cond y (Some Ne) None)) None → (x || y) ≡ false
    at true y is = never Le (sym is)
    at false true is = never Ne (sym is)
    at false false is = refl
no_longer Gt b e = at (b == 61) e
  where
    at : (x : Bool) → ◌≡◌ {A = Option Op} (cond x (Some Ge) None) None → x ≡ false
    at true is = never Ge (sym is)
    at false is = refl

longer_once : (op l o : Op) (b c : ℕ) → longer op b ≡ Some l → longer l c ≡ Some o → ⊥
longer_once Eq l o b c e f = never l e
longer_once Ne l o b c e f = never l e
longer_once Le l o b c e f = never l e
longer_once Ge l o b c e f = never l e
longer_once Lt l o b c e f =
    elim (longer_less b l e) [
      | inl j ↦ never o (ap (λ (x : Op). longer x c) (sym j.1) ∙ f)
      | inr j ↦ never o (ap (λ (x : Op). longer x c) (sym j.1) ∙ f)
    ]
longer_once Gt l o b c e f = never o (ap (λ (x : Op). longer x c) (sym (longer_greater b l e).1) ∙ f)

ends_here : (begun : Begun) (t : Token) (ts : List Token) → Continues begun [] t → t ∷ [] ≡ ts → Goes begun [] ts
ends_here begun t ts c e = record { first = t; others = []; more = []; rest = []; listed = sym e; parts = refl; continues = c; ends = tt; tail = refl }

pub some_list : (xs ys : List Token) → ◌≡◌ {A = Option (List Token)} (Some xs) (Some ys) → xs ≡ ys
some_list xs ys e = cc

ended_is : (begun : Begun) (ts : List Token) → ended begun ≡ Some ts → Ahead begun [] ts
ended_is begun.Nothing ts e = subst (λ (us : List Token). AreTokens us []) (some_list [] ts e) refl
ended_is (begun.Word w) ts e = ends_here (begun.Word w) (worded w) ts (refl, ap worded (sym (append-nil w))) (some_list _ ts e)
ended_is (begun.Digits d) ts e = ends_here (begun.Digits d) (token.Digits d) ts (refl, ap token.Digits (sym (append-nil d))) (some_list _ ts e)
ended_is (begun.Text s) ts e = never ts e
ended_is (begun.Quote s) ts e = ends_here (begun.Quote s) (token.Text s) ts (inl (refl, refl)) (some_list _ ts e)
ended_is (begun.Op o) ts e = ends_here (begun.Op o) (token.Op o) ts (inl (refl, refl)) (some_list _ ts e)
ended_is begun.Bang ts e = never ts e
ended_is (begun.Symbol s) ts e = ends_here (begun.Symbol s) (token.Symbol s) ts (refl, refl) (some_list _ ts e)
ended_is begun.Failed ts e = never ts e

-- a token ended before the byte
finished : (begun : Begun) (t : Token) (b : ℕ) (text : List ℕ) (others ts : List Token) → Continues begun [] t → lengthens t b ≡ false → Ahead (begin b) text others → ts ≡ t ∷ others → Goes begun (b ∷ text) ts
finished begun t b text others ts c stop a e =
    record { first = t; others = others; more = []; rest = b ∷ text; listed = e; parts = refl; continues = c; ends = stop; tail = before (begin b) b text others (begins b) a }

-- what has begun goes on with the byte
carried : (begun next : Begun) (b : ℕ) (text : List ℕ) (others ts : List Token) (g : Goes next text others) → Continues begun (b ∷ g.more) g.first → ts ≡ others → Goes begun (b ∷ text) ts
carried begun next b text others ts g c e =
    record { first = g.first; others = g.others; more = b ∷ g.more; rest = g.rest; listed = e ∙ g.listed; parts = ap (λ (u : List ℕ). b ∷ u) g.parts; continues = c; ends = g.ends; tail = g.tail }

module _ (b : ℕ) (text : List ℕ) (others ts : List Token) where
  word_is : (w : List ℕ) (t : Bool) → is_name_byte b ≡ t → Ahead (cond t (begun.Word (w ++ b ∷ [])) (begin b)) text others
      → ts ≡ option_to_list (cond t None (Some (worded w))) ++ others → Goes (begun.Word w) (b ∷ text) ts
  word_is w true h a e =
      carried (begun.Word w) (begun.Word (w ++ b ∷ [])) b text others ts a
      (ap (λ (x : Bool). x && list_all is_name_byte a.more) h ∙ a.continues.0, a.continues.1 ∙ ap worded (append_assoc w (b ∷ []) a.more)) e
  word_is w false h a e =
      finished (begun.Word w) (worded w) b text others ts (refl, ap worded (sym (append-nil w))) (word_lengthens (word_of w) w b ∙ h) a e

  digits_is : (w : List ℕ) (t : Bool) → is_ascii_digit b ≡ t → Ahead (cond t (begun.Digits (w ++ b ∷ [])) (begin b)) text others
      → ts ≡ option_to_list (cond t None (Some (token.Digits w))) ++ others → Goes (begun.Digits w) (b ∷ text) ts
  digits_is w true h a e =
      carried (begun.Digits w) (begun.Digits (w ++ b ∷ [])) b text others ts a
      (ap (λ (x : Bool). x && list_all is_ascii_digit a.more) h ∙ a.continues.0, a.continues.1 ∙ ap token.Digits (append_assoc w (b ∷ []) a.more)) e
  digits_is w false h a e = finished (begun.Digits w) (token.Digits w) b text others ts (refl, ap token.Digits (sym (append-nil w))) h a e

  quote_goes : (s more : List ℕ) (t : Token) → b ≡ 39 → Continues (begun.Quote s) more t → Continues (begun.Text s) (b ∷ more) t
  quote_goes s more t h (inl c) = ([], ap (λ (a : ℕ). a ∷ more) h ∙ ap (λ (m : List ℕ). 39 ∷ m) c.0, refl, c.1 ∙ ap token.Text (sym (append-nil s)))
  quote_goes s more t h (inr c) = (39 ∷ c.0, ap (λ (a : ℕ). a ∷ more) h ∙ ap (λ (m : List ℕ). 39 ∷ m) c.1, c.2, c.3)

  text_is : (s : List ℕ) (x y : Bool) → (b == 39) ≡ x → is_control b ≡ y → Ahead (cond x (begun.Quote s) (cond y begun.Failed (begun.Text (s ++ b ∷ [])))) text others
      → ts ≡ others → Goes (begun.Text s) (b ∷ text) ts
  text_is s true y h k a e = carried (begun.Text s) (begun.Quote s) b text others ts a (quote_goes s a.more a.first (is_it b 39 h) a.continues) e
  text_is s false true h k a e = absurd a.continues
  text_is s false false h k a e =
      let c = a.continues in
      let written : quoted (b ∷ c.0) ≡ b ∷ quoted c.0 = if_false (b == 39) _ _ h in
      carried (begun.Text s) (begun.Text (s ++ b ∷ [])) b text others ts a (
        b ∷ c.0,
        ap (λ (m : List ℕ). b ∷ m) c.1 ∙ ap (λ (m : List ℕ). m ++ 39 ∷ []) (sym written),
        ap (λ (x : Bool). not x && list_all (λ b. not (is_control b)) c.0) k ∙ c.2,
        c.3 ∙ ap token.Text (append_assoc s (b ∷ []) c.0),
      ) e

  quote_is : (s : List ℕ) (t : Bool) → (b == 39) ≡ t → Ahead (cond t (begun.Text (s ++ b ∷ [])) (begin b)) text others
      → ts ≡ option_to_list (cond t None (Some (token.Text s))) ++ others → Goes (begun.Quote s) (b ∷ text) ts
  quote_is s true h a e =
      let c = a.continues in
      carried (begun.Quote s) (begun.Text (s ++ b ∷ [])) b text others ts a
      (inr (
        c.0,
        ap (λ (x : ℕ). x ∷ a.more) (is_it b 39 h) ∙ ap (λ (m : List ℕ). 39 ∷ m) c.1,
        c.2,
        c.3 ∙ ap token.Text (append_assoc s (b ∷ []) c.0 ∙ ap (λ (x : ℕ). s ++ x ∷ c.0) (is_it b 39 h)),
      )) e
  quote_is s false h a e = finished (begun.Quote s) (token.Text s) b text others ts (inl (refl, refl)) h a e

  op_goes : (op l : Op) (more : List ℕ) (t : Token) → longer op b ≡ Some l → Continues (begun.Op l) more t → Continues (begun.Op op) (b ∷ more) t
  op_goes op l more t h (inl c) = inr (b, l, ap (λ (m : List ℕ). b ∷ m) c.0, h, c.1)
  op_goes op l more t h (inr c) = absurd (longer_once op l c.1 b c.0 h c.3)

  op_step_is : (op : Op) (o : Option Op) → longer op b ≡ o → Ahead (in_op op o b).begun text others → ts ≡ option_to_list (in_op op o b).whole ++ others → Goes (begun.Op op) (b ∷ text) ts
  op_step_is op (Some l) h a e = carried (begun.Op op) (begun.Op l) b text others ts a (op_goes op l a.more a.first h a.continues) e
  op_step_is op None h a e = finished (begun.Op op) (token.Op op) b text others ts (inl (refl, refl)) (no_longer op b h) a e

  bang_goes : (more : List ℕ) (t : Token) → b ≡ 61 → Continues (begun.Op Ne) more t → Continues begun.Bang (b ∷ more) t
  bang_goes more t h (inl c) = (ap (λ (a : ℕ). a ∷ more) h ∙ ap (λ (m : List ℕ). 61 ∷ m) c.0, c.1)
  bang_goes more t h (inr c) = never c.1 c.3

  bang_is : (x : Bool) → (b == 61) ≡ x → Ahead (cond x (begun.Op Ne) begun.Failed) text others → ts ≡ others → Goes begun.Bang (b ∷ text) ts
  bang_is true h a e = carried begun.Bang (begun.Op Ne) b text others ts a (bang_goes a.more a.first (is_it b 61 h) a.continues) e
  bang_is false h a e = absurd a.continues

-- the fields of a choice
word_choice : (t : Bool) (next : Begun) (token : Token) (b : ℕ) → cond t (goes_on next) (ends token b) ≡ record { whole = cond t None (Some token); begun = cond t next (begin b) }
word_choice true next token b = refl
word_choice false next token b = refl

step_is : (begun : Begun) (b : ℕ) (text : List ℕ) (others ts : List Token) → Ahead (step begun b).begun text others → ts ≡ option_to_list (step begun b).whole ++ others → Ahead begun (b ∷ text) ts
step_is begun.Nothing b text others ts a e = subst (λ (us : List Token). AreTokens us (b ∷ text)) (sym e) (before (begin b) b text others (begins b) a)
step_is (begun.Word w) b text others ts a e =
    let c = word_choice (is_name_byte b) (begun.Word (w ++ b ∷ [])) (worded w) b in
    word_is b text others ts w (is_name_byte b) refl (subst (λ (n : Next). Ahead n.begun text others) c a) (e ∙ ap (λ (n : Next). option_to_list n.whole ++ others) c)
step_is (begun.Digits d) b text others ts a e =
    let c = word_choice (is_ascii_digit b) (begun.Digits (d ++ b ∷ [])) (token.Digits d) b in
    digits_is b text others ts d (is_ascii_digit b) refl (subst (λ (n : Next). Ahead n.begun text others) c a) (e ∙ ap (λ (n : Next). option_to_list n.whole ++ others) c)
step_is (begun.Text s) b text others ts a e = text_is b text others ts s (b == 39) (is_control b) refl refl a e
step_is (begun.Quote s) b text others ts a e =
    let c = word_choice (b == 39) (begun.Text (s ++ b ∷ [])) (token.Text s) b in
    quote_is b text others ts s (b == 39) refl (subst (λ (n : Next). Ahead n.begun text others) c a) (e ∙ ap (λ (n : Next). option_to_list n.whole ++ others) c)
step_is (begun.Op o) b text others ts a e = op_step_is b text others ts o (longer o b) refl a e
step_is begun.Bang b text others ts a e = bang_is b text others ts (b == 61) refl a e
step_is (begun.Symbol s) b text others ts a e = finished (begun.Symbol s) (token.Symbol s) b text others ts (refl, refl) refl a e
step_is begun.Failed b text others ts a e = absurd a.continues

onto_some : (whole : List Token) (o : Option (List Token)) (ts : List Token) → onto whole o ≡ Some ts → (others : List Token) × (o ≡ Some others) × (ts ≡ whole ++ others)
onto_some whole (Some others) ts e = (others, refl, sym (some_list (whole ++ others) ts e))
onto_some whole None ts e = never ts e

scan_sound : (text : List ℕ) (begun : Begun) (ts : List Token) → scan begun text ≡ Some ts → Ahead begun text ts
scan_sound [] begun ts e = ended_is begun ts e
scan_sound (b ∷ text) begun ts e =
    let o = onto_some (option_to_list (step begun b).whole) (scan (step begun b).begun text) ts e in
    step_is begun b text o.0 ts (scan_sound text (step begun b).begun o.0 o.1) o.2

pub tokens_sound : (text : List ℕ) (ts : List Token) → tokens_of text ≡ Some ts → AreTokens ts text
unfolding tokens_of
tokens_sound text ts e = scan_sound text begun.Nothing ts e
