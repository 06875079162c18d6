-- The tokens that bytes are, are scanned.
use Rattle.std.proofs.Common.{◌≡◌, ◌∙◌, ℕ, ◌==◌, ◌||◌, not, Bool, true, false, cond, ◌⊎◌, inl, inr, List, [], ◌∷◌, ◌++◌, Option, Some, None, refl, sym, ap, subst, append_assoc, append-nil, arith}
use Rattle.std.specs.Char.{is_ascii_digit}
use Rattle.std.specs.List.{list_all}
use Rattle.std.specs.Option.{option_to_list}
use Rattle.std.proofs.lemmas.Bool.{and_parts}
use Rattle.std.proofs.lemmas.Bool.Decides.{nat_tests}
use Rattle.isp_plain.specs.declared.statement.Op.{Op}
use Rattle.isp_plain.specs.declared.statement.Op.TheVariants.{Eq, Ne, Lt, Le, Gt, Ge}
use Rattle.isp_tokens.specs.declared.token.Begun.{Begun}
use Rattle.isp_tokens.specs.declared.token.Begun.TheVariants as begun
use Rattle.isp_tokens.specs.declared.token.Next.{Next}
use Rattle.isp_tokens.specs.declared.token.Symbol.{Symbol}
use Rattle.isp_tokens.specs.declared.token.Symbol.TheVariants as symbol
use Rattle.isp_tokens.specs.declared.token.Token.{Token}
use Rattle.isp_tokens.specs.declared.token.Token.TheVariants as token
use Rattle.isp_tokens.specs.declared.words.Word.{Word}
use Rattle.isp_tokens.specs.Scanning.{symbol_of, op_of, longer, begin, begun_by, begun_as, goes_on, ends, step, in_op, ended, onto, scan, tokens_of}
use Rattle.isp_tokens.specs.Tokens.{is_blank, is_letter, is_name_byte, is_control, quoted, IsOp, symbol_byte, Spells, lengthens, Ends, AreBlanks, AreTokens, known, worded}
use Rattle.isp_tokens.specs.Words.{word_of}
use Rattle.isp_tokens.proofs.OneTokenSound.{wrong}
use Rattle.isp_tokens.proofs.OneTokenComplete.{if_true, if_false}
use Rattle.isp_tokens.proofs.TokenLaws.{is_it, Continues, Goes, Ahead, cons_parts, word_lengthens}

-- ---- which byte begins what

-- a byte that a test takes is none that it does not take
differs : (p : ℕ → Bool) (b c : ℕ) → p b ≡ true → p c ≡ false → (b == c) ≡ false
differs p b c h k = at (b == c) refl
  where
    at : (t : Bool) → (b == c) ≡ t → t ≡ false
    at true e = wrong (sym k ∙ ap p (sym (is_it b c e)) ∙ h)
    at false e = refl

blank_is : (b : ℕ) → is_blank b ≡ true → (b ≡ 32) ⊎ (b ≡ 9)
blank_is b h = at (b == 32) (b == 9) refl refl h
  where
    at : (s t : Bool) → (b == 32) ≡ s → (b == 9) ≡ t → (s || t) ≡ true → (b ≡ 32) ⊎ (b ≡ 9)
    at true t e f h = inl (is_it b 32 e)
    at false true e f h = inr (is_it b 9 f)
    at false false e f h = wrong h

blank_begins : (b : ℕ) → is_blank b ≡ true → begin b ≡ begun.Nothing
blank_begins b h = elim (blank_is b h) [ inl e ↦ ap begin e | inr e ↦ ap begin e ]

-- a letter or a digit is no symbol and no comparison
name_plain : (b : ℕ) → is_name_byte b ≡ true → begin b ≡ begun_by b
name_plain b h =
    let symbols : symbol_of b ≡ None =
    if_false (b == 40) _ _ (differs is_name_byte b 40 h refl) ∙ (if_false (b == 41) _ _ (differs is_name_byte b 41 h refl)
    ∙ (if_false (b == 44) _ _ (differs is_name_byte b 44 h refl) ∙ (if_false (b == 42) _ _ (differs is_name_byte b 42 h refl)
    ∙ if_false (b == 45) _ _ (differs is_name_byte b 45 h refl)))) in
    let ops : op_of b ≡ None =
    if_false (b == 61) _ _ (differs is_name_byte b 61 h refl) ∙ (if_false (b == 60) _ _ (differs is_name_byte b 60 h refl)
    ∙ if_false (b == 62) _ _ (differs is_name_byte b 62 h refl)) in
    ap (λ (s : Option Symbol). begun_as s (op_of b) b) symbols ∙ ap (λ (o : Option Op). begun_as None o b) ops

name_not_blank : (b : ℕ) → is_name_byte b ≡ true → is_blank b ≡ false
name_not_blank b h = ap (λ (t : Bool). t || b == 9) (differs is_name_byte b 32 h refl) ∙ differs is_name_byte b 9 h refl

letter_begins : (b : ℕ) → is_letter b ≡ true → begin b ≡ begun.Word (b ∷ [])
letter_begins b h =
    let n : is_name_byte b ≡ true = ap (λ (t : Bool). t || is_ascii_digit b) h in
    name_plain b n ∙ (if_false (is_blank b) _ _ (name_not_blank b n) ∙ if_true (is_letter b) _ _ h)

or_true : (s : Bool) → (s || true) ≡ true
or_true true = refl
or_true false = refl

digit_no_letter : (b : ℕ) → is_ascii_digit b ≡ true → is_letter b ≡ false
digit_no_letter b h = grind (arith, nat_tests)

digit_begins : (b : ℕ) → is_ascii_digit b ≡ true → begin b ≡ begun.Digits (b ∷ [])
digit_begins b h =
    let n : is_name_byte b ≡ true = ap (λ (t : Bool). is_letter b || t) h ∙ or_true (is_letter b) in
    name_plain b n ∙ (if_false (is_blank b) _ _ (name_not_blank b n) ∙ (if_false (is_letter b) _ _ (digit_no_letter b h) ∙ if_true (is_ascii_digit b) _ _ h))

-- a token begins with a byte, and what has begun with it goes on to the token
abbrev Opens : Token → ℕ → List ℕ → Type 0
Opens t b more = (B : Begun) × (begin b ≡ B) × Continues B more t

opens_at : (t : Token) (b c : ℕ) (more tail : List ℕ) → b ∷ more ≡ c ∷ tail → Opens t c tail → Opens t b more
opens_at t b c more tail e o = let q = cons_parts b c more tail e in (o.0, ap begin q.0 ∙ o.1, subst (λ (m : List ℕ). Continues o.0 m t) (sym q.1) o.2)

op_opens : (op : Op) (b : ℕ) (more : List ℕ) → IsOp op (b ∷ more) → Opens (token.Op op) b more
op_opens Eq b more e = opens_at _ b 61 more [] e (begun.Op Eq, refl, inl (refl, refl))
op_opens Ne b more (inl e) = opens_at _ b 60 more (62 ∷ []) e (begun.Op Lt, refl, inr (62, Ne, refl, refl, refl))
op_opens Ne b more (inr e) = opens_at _ b 33 more (61 ∷ []) e (begun.Bang, refl, (refl, refl))
op_opens Lt b more e = opens_at _ b 60 more [] e (begun.Op Lt, refl, inl (refl, refl))
op_opens Le b more e = opens_at _ b 60 more (61 ∷ []) e (begun.Op Lt, refl, inr (61, Le, refl, refl, refl))
op_opens Gt b more e = opens_at _ b 62 more [] e (begun.Op Gt, refl, inl (refl, refl))
op_opens Ge b more e = opens_at _ b 62 more (61 ∷ []) e (begun.Op Gt, refl, inr (61, Ge, refl, refl, refl))

symbol_opens : (s : Symbol) (b : ℕ) (more : List ℕ) → b ∷ more ≡ symbol_byte s ∷ [] → Opens (token.Symbol s) b more
symbol_opens symbol.Open b more e = opens_at _ b 40 more [] e (begun.Symbol symbol.Open, refl, (refl, refl))
symbol_opens symbol.Close b more e = opens_at _ b 41 more [] e (begun.Symbol symbol.Close, refl, (refl, refl))
symbol_opens symbol.Comma b more e = opens_at _ b 44 more [] e (begun.Symbol symbol.Comma, refl, (refl, refl))
symbol_opens symbol.Star b more e = opens_at _ b 42 more [] e (begun.Symbol symbol.Star, refl, (refl, refl))
symbol_opens symbol.Minus b more e = opens_at _ b 45 more [] e (begun.Symbol symbol.Minus, refl, (refl, refl))

opens : (t : Token) (b : ℕ) (more : List ℕ) → Spells t (b ∷ more) → Opens t b more
opens (token.Word w) b more s =
    let p = and_parts (is_letter b) (list_all is_name_byte more) s.0 in
    (begun.Word (b ∷ []), letter_begins b p.0, (p.1, sym (ap (λ (o : Option Word). known o (b ∷ more)) s.1)))
opens (token.Name n) b more s =
    let p = and_parts (is_letter b) (list_all is_name_byte more) s.0 in
    (begun.Word (b ∷ []), letter_begins b p.0, (p.1, sym (ap (λ (o : Option Word). known o (b ∷ more)) s.1 ∙ ap token.Name s.2)))
opens (token.Digits d) b more s =
    let p = and_parts (is_ascii_digit b) (list_all is_ascii_digit more) s.0 in
    (begun.Digits (b ∷ []), digit_begins b p.0, (p.1, ap token.Digits (sym s.1)))
opens (token.Text text) b more s = opens_at _ b 39 more (quoted text ++ 39 ∷ []) s.0 (begun.Text [], refl, (text, refl, s.1, refl))
opens (token.Op op) b more s = op_opens op b more s
opens (token.Symbol v) b more s = symbol_opens v b more s

-- a token has a byte at least
filled : (t : Token) → Spells t [] → ⊥
filled (token.Word w) s = wrong s.0
filled (token.Name n) s = wrong s.0
filled (token.Digits d) s = wrong s.0
filled (token.Text text) s = (let no : ◌≡◌ {A = List ℕ} [] (39 ∷ (quoted text ++ 39 ∷ [])) = s.0 in cc)
filled (token.Op Eq) s = (let no : ◌≡◌ {A = List ℕ} [] (61 ∷ []) = s in cc)
filled (token.Op Ne) (inl s) = (let no : ◌≡◌ {A = List ℕ} [] (60 ∷ 62 ∷ []) = s in cc)
filled (token.Op Ne) (inr s) = (let no : ◌≡◌ {A = List ℕ} [] (33 ∷ 61 ∷ []) = s in cc)
filled (token.Op Lt) s = (let no : ◌≡◌ {A = List ℕ} [] (60 ∷ []) = s in cc)
filled (token.Op Le) s = (let no : ◌≡◌ {A = List ℕ} [] (60 ∷ 61 ∷ []) = s in cc)
filled (token.Op Gt) s = (let no : ◌≡◌ {A = List ℕ} [] (62 ∷ []) = s in cc)
filled (token.Op Ge) s = (let no : ◌≡◌ {A = List ℕ} [] (62 ∷ 61 ∷ []) = s in cc)
filled (token.Symbol v) s = (let no : ◌≡◌ {A = List ℕ} [] (symbol_byte v ∷ []) = s in cc)

-- ---- behind a byte

-- what has begun is not nothing
as_begun : (B : Begun) (text : List ℕ) (ts : List Token) (g : Goes B text ts) → Ahead B text ts
as_begun begun.Nothing text ts g = absurd g.continues
as_begun (begun.Word w) text ts g = g
as_begun (begun.Digits d) text ts g = g
as_begun (begun.Text s) text ts g = g
as_begun (begun.Quote s) text ts g = g
as_begun (begun.Op o) text ts g = g
as_begun begun.Bang text ts g = g
as_begun (begun.Symbol s) text ts g = g
as_begun begun.Failed text ts g = g

opened : (b : ℕ) (text : List ℕ) (t : Token) (ts : List Token) (bytes rest : List ℕ) → b ∷ text ≡ bytes ++ rest → Spells t bytes → Ends t rest → AreTokens ts rest → Ahead (begin b) text (t ∷ ts)
opened b text t ts [] rest e s n a = absurd (filled t s)
opened b text t ts (c ∷ more) rest e s n a =
    let q = cons_parts b c text (more ++ rest) e in
    let o = opens t c more s in
    let begun_is : o.0 ≡ begin b = sym o.1 ∙ ap begin (sym q.0) in
    let g : Goes o.0 text (t ∷ ts) = record { first = t; others = ts; more = more; rest = rest; listed = refl; parts = q.1; continues = o.2; ends = n; tail = a } in
    subst (λ (B : Begun). Ahead B text (t ∷ ts)) begun_is (as_begun o.0 text (t ∷ ts) g)

behind : (b : ℕ) (text : List ℕ) (ts : List Token) → AreTokens ts (b ∷ text) → Ahead (begin b) text ts
behind b text [] m =
    let p = and_parts (is_blank b) (list_all is_blank text) m in
    subst (λ (B : Begun). Ahead B text []) (sym (blank_begins b p.0)) p.1
behind b text (t ∷ ts) m = at m.0 m.1 m.2 m.3 m.4 m.5 m.6 m.7
  where
    at : (blanks bytes rest : List ℕ) → b ∷ text ≡ blanks ++ (bytes ++ rest) → AreBlanks blanks → Spells t bytes → Ends t rest → AreTokens ts rest → Ahead (begin b) text (t ∷ ts)
    at [] bytes rest e k s n a = opened b text t ts bytes rest e s n a
    at (c ∷ blanks) bytes rest e k s n a =
        let q = cons_parts b c text (blanks ++ (bytes ++ rest)) e in
        let p = and_parts (is_blank c) (list_all is_blank blanks) k in
        subst (λ (B : Begun). Ahead B text (t ∷ ts)) (sym (ap begin q.0 ∙ blank_begins c p.0)) (blanks, bytes, rest, q.1, p.1, s, n, a)

-- ---- where the text ends

nil_parts : (xs ys : List ℕ) → [] ≡ xs ++ ys → (xs ≡ []) × (ys ≡ [])
nil_parts [] ys e = (refl, sym e)
nil_parts (x ∷ xs) ys e = absurd (let no : ◌≡◌ {A = List ℕ} [] (x ∷ (xs ++ ys)) = e in cc)

no_tokens : (ts : List Token) → AreTokens ts [] → ts ≡ []
no_tokens [] m = refl
no_tokens (t ∷ ts) m =
    let p = nil_parts m.0 (m.1 ++ m.2) m.3 in
    let q = nil_parts m.1 m.2 (sym p.1) in
    absurd (filled t (subst (λ (u : List ℕ). Spells t u) q.0 m.5))

not_empty : {P : Type 0} (b : ℕ) (xs : List ℕ) → ◌≡◌ {A = List ℕ} [] (b ∷ xs) → P
not_empty b xs e = absurd cc

-- a string's bytes end with a quote
quoted_filled : {P : Type 0} (text : List ℕ) → [] ≡ quoted text ++ 39 ∷ [] → P
quoted_filled text e = let q = nil_parts (quoted text) (39 ∷ []) e in not_empty 39 [] (sym q.1)

whole_again : (B : Begun) (t : Token) → Continues B [] t → ended B ≡ Some (t ∷ [])
whole_again begun.Nothing t c = absurd c
whole_again (begun.Word w) t c = ap (λ (u : Token). Some (u ∷ [])) (sym (c.1 ∙ ap worded (append-nil w)))
whole_again (begun.Digits d) t c = ap (λ (u : Token). Some (u ∷ [])) (sym (c.1 ∙ ap token.Digits (append-nil d)))
whole_again (begun.Text s) t c = quoted_filled c.0 c.1
whole_again (begun.Quote s) t (inl c) = ap (λ (u : Token). Some (u ∷ [])) (sym c.1)
whole_again (begun.Quote s) t (inr c) = not_empty 39 (quoted c.0 ++ 39 ∷ []) c.1
whole_again (begun.Op o) t (inl c) = ap (λ (u : Token). Some (u ∷ [])) (sym c.1)
whole_again (begun.Op o) t (inr c) = not_empty c.0 [] c.2
whole_again begun.Bang t c = not_empty 61 [] c.0
whole_again (begun.Symbol s) t c = ap (λ (u : Token). Some (u ∷ [])) (sym c.1)
whole_again begun.Failed t c = absurd c

goes_ended : (B : Begun) (ts : List Token) → Goes B [] ts → ended B ≡ Some ts
goes_ended B ts g =
    let p = nil_parts g.more g.rest g.parts in
    let last : g.others ≡ [] = no_tokens g.others (subst (λ (u : List ℕ). AreTokens g.others u) p.1 g.tail) in
    whole_again B g.first (subst (λ (u : List ℕ). Continues B u g.first) p.0 g.continues) ∙ ap Some (sym (g.listed ∙ ap (λ (us : List Token). g.first ∷ us) last))

ended_again : (B : Begun) (ts : List Token) → Ahead B [] ts → ended B ≡ Some ts
ended_again begun.Nothing ts a = ap Some (sym (no_tokens ts a))
ended_again (begun.Word w) ts a = goes_ended (begun.Word w) ts a
ended_again (begun.Digits d) ts a = goes_ended (begun.Digits d) ts a
ended_again (begun.Text s) ts a = goes_ended (begun.Text s) ts a
ended_again (begun.Quote s) ts a = goes_ended (begun.Quote s) ts a
ended_again (begun.Op o) ts a = goes_ended (begun.Op o) ts a
ended_again begun.Bang ts a = goes_ended begun.Bang ts a
ended_again (begun.Symbol s) ts a = goes_ended (begun.Symbol s) ts a
ended_again begun.Failed ts a = goes_ended begun.Failed ts a

-- ---- one byte further

longer_ends : (op : Op) (b : ℕ) → lengthens (token.Op op) b ≡ false → longer op b ≡ None
longer_ends Eq b e = refl
longer_ends Ne b e = refl
longer_ends Le b e = refl
longer_ends Ge b e = refl
longer_ends Lt b e = at (b == 61) (b == 62) e
  where
    at : (x y : Bool) → (x || y) ≡ false → ◌≡◌ {A = Option Op} (cond x (Some Le) (cond y (Some Ne) None)) None
    at true y h = wrong (sym h)
    at false true h = wrong (sym h)
    at false false h = refl
longer_ends Gt b e = if_false (b == 61) _ _ e

-- what the bytes of a string begin with: a quote twice, or another byte
quoted_front : (text : List ℕ) (b : ℕ) (more : List ℕ) → (b == 39) ≡ false → b ∷ more ≡ quoted text ++ 39 ∷ []
    → (others : List ℕ) × (text ≡ b ∷ others) × (more ≡ quoted others ++ 39 ∷ [])
quoted_front [] b more h e = let q = cons_parts b 39 more [] e in wrong (sym h ∙ ap (λ (x : ℕ). x == 39) q.0)
quoted_front (c ∷ text) b more h e = at (c == 39) refl e
  where
    at : (t : Bool) → (c == 39) ≡ t → b ∷ more ≡ cond t (39 ∷ 39 ∷ quoted text) (c ∷ quoted text) ++ 39 ∷ [] → (others : List ℕ) × (c ∷ text ≡ b ∷ others) × (more ≡ quoted others ++ 39 ∷ [])
    at true k e = let q = cons_parts b 39 more (39 ∷ (quoted text ++ 39 ∷ [])) e in wrong (sym h ∙ ap (λ (x : ℕ). x == 39) q.0)
    at false k e = let q = cons_parts b c more (quoted text ++ 39 ∷ []) e in (text, ap (λ (x : ℕ). x ∷ text) (sym q.0), q.1)

-- behind a quote the string ends, or a second quote stands
quoted_quote : (text : List ℕ) (b : ℕ) (more : List ℕ) → (b == 39) ≡ true → b ∷ more ≡ quoted text ++ 39 ∷ []
    → ((more ≡ []) × (text ≡ [])) ⊎ ((others : List ℕ) × (text ≡ 39 ∷ others) × (more ≡ 39 ∷ (quoted others ++ 39 ∷ [])))
quoted_quote [] b more h e = let q = cons_parts b 39 more [] e in inl (q.1, refl)
quoted_quote (c ∷ text) b more h e = at (c == 39) refl e
  where
    at : (t : Bool) → (c == 39) ≡ t → b ∷ more ≡ cond t (39 ∷ 39 ∷ quoted text) (c ∷ quoted text) ++ 39 ∷ []
        → ((more ≡ []) × (c ∷ text ≡ [])) ⊎ ((others : List ℕ) × (c ∷ text ≡ 39 ∷ others) × (more ≡ 39 ∷ (quoted others ++ 39 ∷ [])))
    at true k e = let q = cons_parts b 39 more (39 ∷ (quoted text ++ 39 ∷ [])) e in inr (text, ap (λ (x : ℕ). x ∷ text) (is_it c 39 k), q.1)
    at false k e = let q = cons_parts b c more (quoted text ++ 39 ∷ []) e in wrong (sym k ∙ ap (λ (x : ℕ). x == 39) (sym q.0) ∙ h)

not_true : (x : Bool) → not x ≡ true → x ≡ false
not_true true h = wrong h
not_true false h = refl

module _ (b : ℕ) (text : List ℕ) (ts : List Token) (first : Token) (others : List Token) (rest : List ℕ) (listed : ts ≡ first ∷ others) (last : Ends first rest) (tail : AreTokens others rest) where
  abbrev Result : Next → Type 0
  Result n = (o : List Token) × Ahead n.begun text o × (ts ≡ option_to_list n.whole ++ o)

  stop : rest ≡ b ∷ text → (lengthens first b ≡ false) × Ahead (begin b) text others
  stop e = (subst (λ (r : List ℕ). Ends first r) e last, behind b text others (subst (λ (r : List ℕ). AreTokens others r) e tail))

  finish : (t : Token) → rest ≡ b ∷ text → first ≡ t → Result (ends t b)
  finish t e f = (others, (stop e).1, listed ∙ ap (λ (u : Token). u ∷ others) f)

  carry : (B : Begun) (more : List ℕ) → text ≡ more ++ rest → Continues B more first → Result (goes_on B)
  carry B more p c =
      let g : Goes B text ts = record { first = first; others = others; more = more; rest = rest; listed = listed; parts = p; continues = c; ends = last; tail = tail } in
      (ts, as_begun B text ts g, refl)

  word_step : (w more : List ℕ) → b ∷ text ≡ more ++ rest → Continues (begun.Word w) more first → Result (step (begun.Word w) b)
  word_step w [] p c =
      let f : first ≡ worded w = c.1 ∙ ap worded (append-nil w) in
      let h : is_name_byte b ≡ false = sym (word_lengthens (word_of w) w b) ∙ ap (λ (u : Token). lengthens u b) (sym f) ∙ (stop (sym p)).0 in
      subst Result (sym (if_false (is_name_byte b) _ _ h)) (finish (worded w) (sym p) f)
  word_step w (m ∷ more) p c =
      let q = cons_parts b m text (more ++ rest) p in
      let both = and_parts (is_name_byte m) (list_all is_name_byte more) c.0 in
      let f : first ≡ worded ((w ++ b ∷ []) ++ more) = c.1 ∙ ap worded (ap (λ (a : ℕ). w ++ a ∷ more) (sym q.0) ∙ sym (append_assoc w (b ∷ []) more)) in
      subst Result (sym (if_true (is_name_byte b) _ _ (ap is_name_byte q.0 ∙ both.0))) (carry (begun.Word (w ++ b ∷ [])) more q.1 (both.1, f))

  digits_step : (w more : List ℕ) → b ∷ text ≡ more ++ rest → Continues (begun.Digits w) more first → Result (step (begun.Digits w) b)
  digits_step w [] p c =
      let f : first ≡ token.Digits w = c.1 ∙ ap token.Digits (append-nil w) in
      let h : is_ascii_digit b ≡ false = ap (λ (u : Token). lengthens u b) (sym f) ∙ (stop (sym p)).0 in
      subst Result (sym (if_false (is_ascii_digit b) _ _ h)) (finish (token.Digits w) (sym p) f)
  digits_step w (m ∷ more) p c =
      let q = cons_parts b m text (more ++ rest) p in
      let both = and_parts (is_ascii_digit m) (list_all is_ascii_digit more) c.0 in
      let f : first ≡ token.Digits ((w ++ b ∷ []) ++ more) = c.1 ∙ ap token.Digits (ap (λ (a : ℕ). w ++ a ∷ more) (sym q.0) ∙ sym (append_assoc w (b ∷ []) more)) in
      subst Result (sym (if_true (is_ascii_digit b) _ _ (ap is_ascii_digit q.0 ∙ both.0))) (carry (begun.Digits (w ++ b ∷ [])) more q.1 (both.1, f))

  -- the bytes of a string from this one on
  text_step : (s more : List ℕ) → b ∷ text ≡ more ++ rest → Continues (begun.Text s) more first → Result (step (begun.Text s) b)
  text_step s [] p c = quoted_filled c.0 c.1
  text_step s (m ∷ more) p c =
      let q = cons_parts b m text (more ++ rest) p in
      at (b == 39) refl q.1 c.0 (ap (λ (a : ℕ). a ∷ more) q.0 ∙ c.1) c.2 c.3
    where
      at : (t : Bool) → (b == 39) ≡ t → text ≡ more ++ rest → (inner : List ℕ) → b ∷ more ≡ quoted inner ++ 39 ∷ [] → list_all (λ b. not (is_control b)) inner ≡ true → first ≡ token.Text (s ++ inner)
          → Result (step (begun.Text s) b)
      at true h p inner e k f =
          subst (λ (B : Begun). Result (goes_on B)) (sym (if_true (b == 39) _ _ h))
          (carry (begun.Quote s) more p (elim (quoted_quote inner b more h e) [
            | inl j ↦ inl (j.0, f ∙ ap token.Text (ap (λ (i : List ℕ). s ++ i) j.1 ∙ append-nil s))
            | inr j ↦ inr (j.0, j.2, (and_parts (not (is_control 39)) (list_all (λ b. not (is_control b)) j.0) (ap (list_all (λ b. not (is_control b))) (sym j.1) ∙ k)).1, f ∙ ap (λ (i : List ℕ). token.Text (s ++ i)) j.1)
          ]))
      at false h p inner e k f =
          let j = quoted_front inner b more h e in
          let both = and_parts (not (is_control b)) (list_all (λ b. not (is_control b)) j.0) (ap (list_all (λ b. not (is_control b))) (sym j.1) ∙ k) in
          subst (λ (B : Begun). Result (goes_on B)) (sym (if_false (b == 39) _ _ h ∙ if_false (is_control b) _ _ (not_true (is_control b) both.0)))
          (carry (begun.Text (s ++ b ∷ [])) more p (j.0, j.2, both.1, f ∙ ap token.Text (ap (λ (i : List ℕ). s ++ i) j.1 ∙ sym (append_assoc s (b ∷ []) j.0))))

  quote_step : (s more : List ℕ) → b ∷ text ≡ more ++ rest → Continues (begun.Quote s) more first → Result (step (begun.Quote s) b)
  quote_step s more p (inl c) =
      let e : rest ≡ b ∷ text = sym (p ∙ ap (λ (m : List ℕ). m ++ rest) c.0) in
      let h : (b == 39) ≡ false = ap (λ (u : Token). lengthens u b) (sym c.1) ∙ (stop e).0 in
      subst Result (sym (if_false (b == 39) _ _ h)) (finish (token.Text s) e c.1)
  quote_step s more p (inr c) =
      let q = cons_parts b 39 text ((quoted c.0 ++ 39 ∷ []) ++ rest) (p ∙ ap (λ (m : List ℕ). m ++ rest) c.1) in
      let f : first ≡ token.Text ((s ++ b ∷ []) ++ c.0) = c.3 ∙ ap token.Text (ap (λ (a : ℕ). s ++ a ∷ c.0) (sym q.0) ∙ sym (append_assoc s (b ∷ []) c.0)) in
      subst Result (sym (if_true (b == 39) _ _ (ap (λ (a : ℕ). a == 39) q.0))) (carry (begun.Text (s ++ b ∷ [])) (quoted c.0 ++ 39 ∷ []) q.1 (c.0, refl, c.2, f))

  op_step : (op : Op) (more : List ℕ) → b ∷ text ≡ more ++ rest → Continues (begun.Op op) more first → Result (step (begun.Op op) b)
  op_step op more p (inl c) =
      let e : rest ≡ b ∷ text = sym (p ∙ ap (λ (m : List ℕ). m ++ rest) c.0) in
      let h : lengthens (token.Op op) b ≡ false = ap (λ (u : Token). lengthens u b) (sym c.1) ∙ (stop e).0 in
      subst (λ (o : Option Op). Result (in_op op o b)) (sym (longer_ends op b h)) (finish (token.Op op) e c.1)
  op_step op more p (inr c) =
      let q = cons_parts b c.0 text rest (p ∙ ap (λ (m : List ℕ). m ++ rest) c.2) in
      let h : longer op b ≡ Some c.1 = ap (longer op) q.0 ∙ c.3 in
      subst (λ (o : Option Op). Result (in_op op o b)) (sym h) (carry (begun.Op c.1) [] q.1 (inl (refl, c.4)))

  bang_step : (more : List ℕ) → b ∷ text ≡ more ++ rest → Continues begun.Bang more first → Result (step begun.Bang b)
  bang_step more p c =
      let q = cons_parts b 61 text rest (p ∙ ap (λ (m : List ℕ). m ++ rest) c.0) in
      subst (λ (B : Begun). Result (goes_on B)) (sym (if_true (b == 61) _ _ (ap (λ (a : ℕ). a == 61) q.0))) (carry (begun.Op Ne) [] q.1 (inl (refl, c.1)))

  symbol_step : (s : Symbol) (more : List ℕ) → b ∷ text ≡ more ++ rest → Continues (begun.Symbol s) more first → Result (step (begun.Symbol s) b)
  symbol_step s more p c = finish (token.Symbol s) (sym (p ∙ ap (λ (m : List ℕ). m ++ rest) c.0)) c.1

abbrev Steps : Begun → ℕ → List ℕ → List Token → Type 0
Steps B b text ts = (o : List Token) × Ahead (step B b).begun text o × (ts ≡ option_to_list (step B b).whole ++ o)

step_again : (B : Begun) (b : ℕ) (text : List ℕ) (ts : List Token) → Ahead B (b ∷ text) ts → Steps B b text ts
step_again begun.Nothing b text ts a = (ts, behind b text ts a, refl)
step_again (begun.Word w) b text ts g = word_step b text ts g.first g.others g.rest g.listed g.ends g.tail w g.more g.parts g.continues
step_again (begun.Digits d) b text ts g = digits_step b text ts g.first g.others g.rest g.listed g.ends g.tail d g.more g.parts g.continues
step_again (begun.Text s) b text ts g = text_step b text ts g.first g.others g.rest g.listed g.ends g.tail s g.more g.parts g.continues
step_again (begun.Quote s) b text ts g = quote_step b text ts g.first g.others g.rest g.listed g.ends g.tail s g.more g.parts g.continues
step_again (begun.Op o) b text ts g = op_step b text ts g.first g.others g.rest g.listed g.ends g.tail o g.more g.parts g.continues
step_again begun.Bang b text ts g = bang_step b text ts g.first g.others g.rest g.listed g.ends g.tail g.more g.parts g.continues
step_again (begun.Symbol s) b text ts g = symbol_step b text ts g.first g.others g.rest g.listed g.ends g.tail s g.more g.parts g.continues
step_again begun.Failed b text ts g = absurd g.continues

scan_again : (text : List ℕ) (B : Begun) (ts : List Token) → Ahead B text ts → scan B text ≡ Some ts
scan_again [] B ts a = ended_again B ts a
scan_again (b ∷ text) B ts a =
    let s = step_again B b text ts a in
    ap (λ (o : Option (List Token)). onto (option_to_list (step B b).whole) o) (scan_again text (step B b).begun s.0 s.1) ∙ ap Some (sym s.2)

pub tokens_again : (text : List ℕ) (ts : List Token) → AreTokens ts text → tokens_of text ≡ Some ts
unfolding tokens_of
tokens_again text ts a = scan_again text begun.Nothing ts a
