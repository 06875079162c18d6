-- What is read is a text of the grammar, with the value that it means.
use Rattle.std.proofs.Common.{◌≡◌, ℕ, zero, suc, ◌+◌, ◌-◌, ◌*◌, ◌<◌, ◌≤◌, ◌==◌, ◌&&◌, nat_le, nat_lt, not, max, Bool, true, false, cond, ◌⊎◌, inl, inr, List, [], ◌∷◌, ◌++◌, length, drop, map, Result, Ok, Err, refl, sym, ap, subst, ◌∙◌, append_assoc, arith}
use Rattle.std.specs.List.{fold, list_all}
use Rattle.std.proofs.lemmas.Bool.Decides.{nat_tests}
use Rattle.isp_geom.specs.declared.form.Point as p
use Rattle.isp_geom.specs.Rules.{is_closed}
use Rattle.isp_wkt.specs.declared.cause.WktCause.{WktCause}
use Rattle.isp_wkt.specs.declared.cause.WktCause.TheVariants.{TooFew, Empty}
use Rattle.isp_wkt.specs.declared.cause.Fault.{Fault}
use Rattle.isp_wkt.specs.declared.kind.Kind.{Kind}
use Rattle.isp_wkt.specs.Words.{word, common, upper}
use Rattle.isp_wkt.specs.Grammar.{AreBlanks, IsFraction, IsSize, IsSign, IsNumber, IsPair, IsSingle, AreMembers, IsList, keeps, IsLine, AreLines, IsMarked}
use Rattle.isp_wkt.specs.Reading.{◌>>=◌, Outcome, is_blank, is_digit, is_e, skipped, limit, digits_at, zeros_at, fraction_at, end_at, first_at, size_at, sign_at, signed, number_at, blank_at, point_at, inside_at, paren_at, open_at, comma_at, more_at, shut_at, close_at, member_at, items_at, list_at, ruled, line_at, lines_at, single_at, marked_at, word_in, unknown_at}

-- the value of a step that is no fault
pub bind_ok : {A B : Type 0} (r : Result A Fault) (f : A → Result B Fault) (y : B) → (r >>= f) ≡ Ok y → (x : A) × (r ≡ Ok x) × (f x ≡ Ok y)
bind_ok (Ok x) f y e = (x, refl, e)
bind_ok (Err d) f y e = absurd cc

-- which way a test went
pub chosen : {A : Type 0} (t : Bool) (x y z : A) → cond t x y ≡ z → ((t ≡ true) × (x ≡ z)) ⊎ ((t ≡ false) × (y ≡ z))
chosen true x y z e = inl (refl, e)
chosen false x y z e = inr (refl, e)

ok_is : {A : Type 0} (x y : A) → ◌≡◌ {A = Result A Fault} (Ok x) (Ok y) → x ≡ y
ok_is x y e = cc

pub ok_parts : {X : Type 0} (x y : X) (a b : List ℕ) → ◌≡◌ {A = Outcome X} (Ok (x, a)) (Ok (y, b)) → (x ≡ y) × (a ≡ b)
ok_parts {X} x y a b e = let both = ok_is (x, a) (y, b) e in (ap (λ (q : X × List ℕ). q.0) both, ap (λ (q : X × List ℕ). q.1) both)

never : {A P : Type 0} (f : Fault) (x : A) → ◌≡◌ {A = Result A Fault} (Err f) (Ok x) → P
never f x e = absurd cc

-- what was taken from the front
pub record Took {X : Type 0} (Lang : X → List ℕ → Type 0) (bytes : List ℕ) (x : X) (rest : List ℕ) : Type 0 where
  pub text : List ℕ
  pub parts : bytes ≡ text ++ rest
  pub means : Lang x text

abbrev pub IsSound : {X : Type 0} → (X → List ℕ → Type 0) → (List ℕ → Outcome X) → Type 0
IsSound {X} Lang item = (bytes : List ℕ) (x : X) (rest : List ℕ) → item bytes ≡ Ok (x, rest) → Took Lang bytes x rest

-- ---- blanks

pub skipped_back : (bs : List ℕ) → (blanks : List ℕ) × (bs ≡ blanks ++ skipped bs) × AreBlanks blanks
skipped_back [] = ([], refl, refl)
skipped_back (b ∷ bs) = step (skipped_back bs) (is_blank b) refl
  where
    step : (blanks : List ℕ) × (bs ≡ blanks ++ skipped bs) × AreBlanks blanks → (t : Bool) → is_blank b ≡ t → (blanks : List ℕ) × (b ∷ bs ≡ blanks ++ cond t (skipped bs) (b ∷ bs)) × AreBlanks blanks
    step r true h = (b ∷ r.0, ap (λ (t : List ℕ). b ∷ t) r.1, ap (λ t. t && list_all is_blank r.0) h ∙ r.2)
    step r false h = ([], refl, refl)

-- ---- numbers

abbrev pub StartsDigit : List ℕ → Type 0
StartsDigit [] = ⊥
StartsDigit (b ∷ bs) = is_digit b ≡ true

abbrev pub Digits : ℕ → List ℕ → ℕ → List ℕ → Type 0
Digits size bs n rest = (ds : List ℕ) × (bs ≡ ds ++ rest) × (list_all is_digit ds ≡ true) × (fold (λ n b. n * 10 + (b - 48)) size ds ≡ n) × (n ≤ limit) × (StartsDigit bs → 0 < length ds)

pub digits_back : (size : ℕ) (bs : List ℕ) (n : ℕ) (rest : List ℕ) → size ≤ limit → digits_at size bs ≡ Ok (n, rest) → Digits size bs n rest
digits_back size [] n rest le e = let q = ok_parts size n [] rest e in ([], q.1, refl, q.0, rw (← q.0) le, λ h. absurd h)
digits_back size (b ∷ bs) n rest le e =
    elim (chosen (is_digit b) _ _ _ e) [
      | inl h ↦ elim (chosen (nat_le (size * 10 + (b - 48)) limit) _ _ _ h.1) [
        | inl k ↦ let small : size * 10 + (b - 48) ≤ limit = small_of _ k.0 in
            let r = digits_back (size * 10 + (b - 48)) bs n rest small k.1 in
            (b ∷ r.0, ap (λ (t : List ℕ). b ∷ t) r.1, ap (λ t. t && list_all is_digit r.0) h.0 ∙ r.2, r.3, r.4, λ _. omega arith)
        | inr k ↦ never _ _ k.1
      ]
      | inr h ↦ let q = ok_parts size n (b ∷ bs) rest h.1 in ([], q.1, refl, q.0, rw (← q.0) le, λ s. absurd (let no : true ≡ false = sym s ∙ h.0 in cc))
    ]
  where
    small_of : (m : ℕ) → nat_le m limit ≡ true → m ≤ limit
    small_of m h = grind (arith, nat_tests)

pub zeros_back : (bs : List ℕ) (u : Unit {0}) (rest : List ℕ) → zeros_at bs ≡ Ok (u, rest) → (zs : List ℕ) × (bs ≡ zs ++ rest) × (list_all (λ z. z == 48) zs ≡ true)
zeros_back [] u rest e = ([], (ok_parts tt u [] rest e).1, refl)
zeros_back (b ∷ bs) u rest e =
    elim (chosen (b == 48) _ _ _ e) [
      | inl h ↦ let r = zeros_back bs u rest h.1 in (b ∷ r.0, ap (λ (t : List ℕ). b ∷ t) r.1, ap (λ t. t && list_all (λ z. z == 48) r.0) h.0 ∙ r.2)
      | inr h ↦ elim (chosen (is_digit b) _ _ _ h.1) [
        | inl k ↦ never _ _ k.1
        | inr k ↦ ([], (ok_parts tt u (b ∷ bs) rest k.1).1, refl)
      ]
    ]

pub fraction_back : (bs : List ℕ) (u : Unit {0}) (rest : List ℕ) → fraction_at bs ≡ Ok (u, rest) → (f : List ℕ) × (bs ≡ f ++ rest) × IsFraction f
fraction_back [] u rest e = ([], (ok_parts tt u [] rest e).1, tt)
fraction_back (b ∷ bs) u rest e =
    elim (chosen (b == 46) _ _ _ e) [
      | inl h ↦ let r = zeros_back bs u rest h.1 in (b ∷ r.0, ap (λ (t : List ℕ). b ∷ t) r.1, (dot b h.0, r.2))
      | inr h ↦ ([], (ok_parts tt u (b ∷ bs) rest h.1).1, tt)
    ]
  where
    dot : (b : ℕ) → (b == 46) ≡ true → b ≡ 46
    dot b h = grind (arith, nat_tests)

pub end_back : (bs : List ℕ) (u : Unit {0}) (rest : List ℕ) → end_at bs ≡ Ok (u, rest) → bs ≡ rest
end_back [] u rest e = (ok_parts tt u [] rest e).1
end_back (b ∷ bs) u rest e =
    elim (chosen (is_e b) _ _ _ e) [
      | inl h ↦ never _ _ h.1
      | inr h ↦ (ok_parts tt u (b ∷ bs) rest h.1).1
    ]

pub first_back : (bs : List ℕ) (u : Unit {0}) (rest : List ℕ) → first_at bs ≡ Ok (u, rest) → (bs ≡ rest) × StartsDigit bs
first_back [] u rest e = never _ _ e
first_back (b ∷ bs) u rest e =
    elim (chosen (is_digit b) _ _ _ e) [
      | inl h ↦ ((ok_parts tt u (b ∷ bs) rest h.1).1, h.0)
      | inr h ↦ never _ _ h.1
    ]

pub size_sound : IsSound IsSize size_at
unfolding size_at
size_sound bytes n rest e =
    let b1 = bind_ok (first_at bytes) _ _ e in
    let f = first_back bytes b1.0.0 b1.0.1 b1.1 in
    let b2 = bind_ok (digits_at 0 b1.0.1) _ _ b1.2 in
    let d = digits_back 0 b1.0.1 b2.0.0 b2.0.1 (omega arith) b2.1 in
    let b3 = bind_ok (fraction_at b2.0.1) _ _ b2.2 in
    let g = fraction_back b2.0.1 b3.0.0 b3.0.1 b3.1 in
    let b4 = bind_ok (end_at b3.0.1) _ _ b3.2 in
    let h = end_back b3.0.1 b4.0.0 b4.0.1 b4.1 in
    let q = ok_parts b2.0.0 n b4.0.1 rest b4.2 in
    let starts : StartsDigit b1.0.1 = subst StartsDigit f.0 f.1 in
    record {
      text = d.0 ++ g.0;
      parts = f.0 ∙ d.1 ∙ ap (λ (t : List ℕ). d.0 ++ t) (g.1 ∙ ap (λ (t : List ℕ). g.0 ++ t) (h ∙ q.1)) ∙ sym (append_assoc d.0 g.0 rest);
      means = record { digits = d.0; fraction = g.0; parts = refl; some = d.5 starts; all = d.2; value = d.3 ∙ q.0; whole = g.2; small = rw (← q.0) d.4 };
    }

pub sign_back : (bs : List ℕ) (is_negative : Bool) (rest : List ℕ) → sign_at bs ≡ Ok (is_negative, rest) → (s : List ℕ) × (bs ≡ s ++ rest) × IsSign is_negative s
sign_back [] n rest e = let q = ok_parts false n [] rest e in ([], q.1, subst (λ (b : Bool). IsSign b []) q.0 (inl refl))
sign_back (b ∷ bs) n rest e =
    elim (chosen (b == 45) _ _ _ e) [
      | inl h ↦ let q = ok_parts true n bs rest h.1 in (b ∷ [], ap (λ (t : List ℕ). b ∷ t) q.1, subst (λ (s : Bool). IsSign s (b ∷ [])) q.0 (ap (λ (c : ℕ). c ∷ []) (is_it b 45 h.0)))
      | inr h ↦ elim (chosen (b == 43) _ _ _ h.1) [
        | inl k ↦ let q = ok_parts false n bs rest k.1 in (b ∷ [], ap (λ (t : List ℕ). b ∷ t) q.1, subst (λ (s : Bool). IsSign s (b ∷ [])) q.0 (inr (ap (λ (c : ℕ). c ∷ []) (is_it b 43 k.0))))
        | inr k ↦ let q = ok_parts false n (b ∷ bs) rest k.1 in ([], q.1, subst (λ (s : Bool). IsSign s []) q.0 (inl refl))
      ]
    ]
  where
    is_it : (b c : ℕ) → (b == c) ≡ true → b ≡ c
    is_it b c h = grind (arith, nat_tests)

pub number_sound : IsSound IsNumber number_at
unfolding number_at
number_sound bytes z rest e =
    let b1 = bind_ok (sign_at bytes) _ _ e in
    let s = sign_back bytes b1.0.0 b1.0.1 b1.1 in
    let b2 = bind_ok (size_at b1.0.1) _ _ b1.2 in
    let t = size_sound b1.0.1 b2.0.0 b2.0.1 b2.1 in
    let q = ok_parts (signed b1.0.0 b2.0.0) z b2.0.1 rest b2.2 in
    record {
      text = s.0 ++ t.text;
      parts = s.1 ∙ ap (λ (u : List ℕ). s.0 ++ u) (t.parts ∙ ap (λ (u : List ℕ). t.text ++ u) q.1) ∙ sym (append_assoc s.0 t.text rest);
      means = record { is_negative = b1.0.0; size = b2.0.0; sign = s.0; body = t.text; parts = refl; signs = s.2; sized = t.means; value = q.0 };
    }

pub blank_back : (bs : List ℕ) (u : Unit {0}) (rest : List ℕ) → blank_at bs ≡ Ok (u, rest) → (blanks : List ℕ) × (bs ≡ blanks ++ rest) × (0 < length blanks) × AreBlanks blanks
blank_back [] u rest e = never _ _ e
blank_back (b ∷ bs) u rest e =
    elim (chosen (is_blank b) _ _ _ e) [
      | inl h ↦ let r = skipped_back bs in
          let q = ok_parts tt u (skipped bs) rest h.1 in
          (b ∷ r.0, ap (λ (t : List ℕ). b ∷ t) (r.1 ∙ ap (λ (t : List ℕ). r.0 ++ t) q.1), omega arith, ap (λ t. t && list_all is_blank r.0) h.0 ∙ r.2)
      | inr h ↦ never _ _ h.1
    ]

pub point_sound : IsSound IsPair point_at
unfolding point_at
point_sound bytes point rest e =
    let b1 = bind_ok (number_at bytes) _ _ e in
    let x = number_sound bytes b1.0.0 b1.0.1 b1.1 in
    let b2 = bind_ok (blank_at b1.0.1) _ _ b1.2 in
    let w = blank_back b1.0.1 b2.0.0 b2.0.1 b2.1 in
    let b3 = bind_ok (number_at b2.0.1) _ _ b2.2 in
    let y = number_sound b2.0.1 b3.0.0 b3.0.1 b3.1 in
    let made : p.Point = record { x = b1.0.0; y = b3.0.0 } in
    let q = ok_parts made point b3.0.1 rest b3.2 in
    let taken : Took IsPair bytes made b3.0.1 = record {
      text = x.text ++ (w.0 ++ y.text);
      parts = x.parts ∙ ap (λ (t : List ℕ). x.text ++ t) (w.1 ∙ ap (λ (t : List ℕ). w.0 ++ t) y.parts ∙ sym (append_assoc w.0 y.text b3.0.1)) ∙ sym (append_assoc x.text (w.0 ++ y.text) b3.0.1);
      means = record { left = x.text; blanks = w.0; right = y.text; parts = refl; x = x.means; some = w.2; blank = w.3; y = y.means };
    } in
    subst (λ (r : p.Point × List ℕ). Took IsPair bytes r.0 r.1) (ap (λ (a : p.Point). (a, b3.0.1)) q.0 ∙ ap (λ (a : List ℕ). (point, a)) q.1) taken

-- ---- parentheses and commas

pub is_it : (b c : ℕ) → (b == c) ≡ true → b ≡ c
is_it b c h = grind (arith, nat_tests)

pub inside_back : (nothing : WktCause) (bs : List ℕ) (u : Unit {0}) (rest : List ℕ) → inside_at nothing bs ≡ Ok (u, rest) → bs ≡ rest
inside_back nothing [] u rest e = (ok_parts tt u [] rest e).1
inside_back nothing (b ∷ bs) u rest e =
    elim (chosen (b == 41) _ _ _ e) [
      | inl h ↦ never _ _ h.1
      | inr h ↦ (ok_parts tt u (b ∷ bs) rest h.1).1
    ]

pub paren_back : (nothing : WktCause) (bs : List ℕ) (u : Unit {0}) (rest : List ℕ) → paren_at nothing bs ≡ Ok (u, rest) → (opened : List ℕ) × (bs ≡ 40 ∷ (opened ++ rest)) × AreBlanks opened
paren_back nothing [] u rest e = never _ _ e
paren_back nothing (b ∷ bs) u rest e =
    elim (chosen (b == 40) _ _ _ e) [
      | inl h ↦ let r = skipped_back bs in
          (r.0, ap (λ (c : ℕ). c ∷ bs) (is_it b 40 h.0) ∙ ap (λ (t : List ℕ). 40 ∷ t) (r.1 ∙ ap (λ (t : List ℕ). r.0 ++ t) (inside_back nothing (skipped bs) u rest h.1)), r.2)
      | inr h ↦ elim (chosen (is_e b) _ _ _ h.1) [
        | inl k ↦ never _ _ k.1
        | inr k ↦ never _ _ k.1
      ]
    ]

pub open_back : (nothing : WktCause) (bs : List ℕ) (u : Unit {0}) (rest : List ℕ) → open_at nothing bs ≡ Ok (u, rest)
    → (before : List ℕ) × (opened : List ℕ) × (bs ≡ before ++ 40 ∷ (opened ++ rest)) × AreBlanks before × AreBlanks opened
open_back nothing bs u rest e =
    let r = skipped_back bs in
    let s = paren_back nothing (skipped bs) u rest e in
    (r.0, s.0, r.1 ∙ ap (λ (t : List ℕ). r.0 ++ t) s.1, r.2, s.2)

abbrev pub Goes : Bool → List ℕ → List ℕ → Type 0
Goes true bs rest = (blanks : List ℕ) × (more : List ℕ) × (bs ≡ blanks ++ 44 ∷ (more ++ rest)) × AreBlanks blanks × AreBlanks more
Goes false bs rest = (blanks : List ℕ) × (bs ≡ blanks ++ 41 ∷ rest) × AreBlanks blanks

pub more_back : (bs : List ℕ) (m : Bool) (rest : List ℕ) → more_at bs ≡ Ok (m, rest) → Goes m bs rest
more_back bs m rest e = let r = skipped_back bs in at r.0 r.2 (skipped bs) r.1 e
  where
    at : (blanks : List ℕ) → AreBlanks blanks → (left : List ℕ) → bs ≡ blanks ++ left → comma_at left ≡ Ok (m, rest) → Goes m bs rest
    at blanks are [] is e = never _ _ e
    at blanks are (b ∷ left) is e =
        elim (chosen (b == 44) _ _ _ e) [
          | inl h ↦ let r = skipped_back left in
              let q = ok_parts true m (skipped left) rest h.1 in
              subst (λ (g : Bool). Goes g bs rest) q.0 (blanks, r.0, is ∙ ap (λ (t : List ℕ). blanks ++ t) (ap (λ (c : ℕ). c ∷ left) (is_it b 44 h.0) ∙ ap (λ (t : List ℕ). 44 ∷ t) (r.1 ∙ ap (λ (t : List ℕ). r.0 ++ t) q.1)), are, r.2)
          | inr h ↦ elim (chosen (b == 41) _ _ _ h.1) [
            | inl k ↦ let q = ok_parts false m left rest k.1 in
                subst (λ (g : Bool). Goes g bs rest) q.0 (blanks, is ∙ ap (λ (t : List ℕ). blanks ++ t) (ap (λ (c : ℕ). c ∷ left) (is_it b 41 k.0) ∙ ap (λ (t : List ℕ). 41 ∷ t) q.1), are)
            | inr k ↦ never _ _ k.1
          ]
        ]

pub close_back : (bs : List ℕ) (u : Unit {0}) (rest : List ℕ) → close_at bs ≡ Ok (u, rest) → (blanks : List ℕ) × (bs ≡ blanks ++ 41 ∷ rest) × AreBlanks blanks
close_back bs u rest e = let r = skipped_back bs in at r.0 r.2 (skipped bs) r.1 e
  where
    at : (blanks : List ℕ) → AreBlanks blanks → (left : List ℕ) → bs ≡ blanks ++ left → shut_at left ≡ Ok (u, rest) → (blanks : List ℕ) × (bs ≡ blanks ++ 41 ∷ rest) × AreBlanks blanks
    at blanks are [] is e = never _ _ e
    at blanks are (b ∷ left) is e =
        elim (chosen (b == 41) _ _ _ e) [
          | inl h ↦ (blanks, is ∙ ap (λ (t : List ℕ). blanks ++ t) (ap (λ (c : ℕ). c ∷ left) (is_it b 41 h.0) ∙ ap (λ (t : List ℕ). 41 ∷ t) (ok_parts tt u left rest h.1).1), are)
          | inr h ↦ never _ _ h.1
        ]

module _ {X : Type 0} (Lang : X → List ℕ → Type 0) (item : List ℕ → Outcome X) (sound : IsSound Lang item) where
  abbrev Members : List ℕ → List X → List ℕ → Type 0
  Members bytes xs rest = (t : List ℕ) × (bytes ≡ t ++ rest) × AreMembers Lang xs t

  last : (bytes : List ℕ) (x : X) (rest after : List ℕ) → Took Lang bytes x rest → Goes false rest after → Members bytes (x ∷ []) after
  last bytes x rest after t g =
      (t.text ++ (g.0 ++ 41 ∷ []), t.parts ∙ ap (λ (u : List ℕ). t.text ++ u) (g.1 ∙ sym (append_assoc g.0 (41 ∷ []) after)) ∙ sym (append_assoc t.text (g.0 ++ 41 ∷ []) after), (t.text, g.0, refl, t.means, g.2))

  one_more : (bytes : List ℕ) (x : X) (rest after : List ℕ) (xs : List X) (end : List ℕ) → Took Lang bytes x rest → Goes true rest after → Members after xs end → Members bytes (x ∷ xs) end
  one_more bytes x rest after [] end t g m = absurd m.2
  one_more bytes x rest after (y ∷ xs) end t g m =
      let inner : g.0 ++ 44 ∷ (g.1 ++ (m.0 ++ end)) ≡ (g.0 ++ 44 ∷ (g.1 ++ m.0)) ++ end = ap (λ (u : List ℕ). g.0 ++ 44 ∷ u) (sym (append_assoc g.1 m.0 end)) ∙ sym (append_assoc g.0 (44 ∷ (g.1 ++ m.0)) end) in (
        t.text ++ (g.0 ++ 44 ∷ (g.1 ++ m.0)),
        t.parts ∙ ap (λ (u : List ℕ). t.text ++ u) (g.2 ∙ ap (λ (u : List ℕ). g.0 ++ 44 ∷ (g.1 ++ u)) m.1 ∙ inner) ∙ sym (append_assoc t.text (g.0 ++ 44 ∷ (g.1 ++ m.0)) end),
        (t.text, g.0, g.1, m.0, refl, t.means, g.3, g.4, m.2),
      )

  items_back : (n : ℕ) (bytes : List ℕ) (xs : List X) (rest : List ℕ) → items_at item n bytes ≡ Ok (xs, rest) → Members bytes xs rest
  items_back zero bytes xs rest e = never _ _ e
  items_back (suc n) bytes xs rest e =
      let b1 = bind_ok (member_at item bytes) _ _ e in
      let b2 = bind_ok (item bytes) _ _ b1.1 in
      let t = sound bytes b2.0.0 b2.0.1 b2.1 in
      let b3 = bind_ok (more_at b2.0.1) _ _ b2.2 in
      let m = more_back b2.0.1 b3.0.0 b3.0.1 b3.1 in
      let q = ok_parts (b2.0.0, b3.0.0) b1.0.0 b3.0.1 b1.0.1 b3.2 in
      elim (chosen b1.0.0.1 _ _ _ b1.2) [
        | inl h ↦ let b4 = bind_ok (items_at item n b1.0.1) _ _ h.1 in
            let u = items_back n b1.0.1 b4.0.0 b4.0.1 b4.1 in
            let r = ok_parts (b1.0.0.0 ∷ b4.0.0) xs b4.0.1 rest b4.2 in
            let goes : Goes true b2.0.1 b1.0.1 = subst (λ (g : Bool). Goes g b2.0.1 b1.0.1) (ap (λ (a : X × Bool). a.1) q.0 ∙ h.0) (subst (λ (a : List ℕ). Goes b3.0.0 b2.0.1 a) q.1 m) in
            let whole : Members bytes (b2.0.0 ∷ b4.0.0) b4.0.1 = one_more bytes b2.0.0 b2.0.1 b1.0.1 b4.0.0 b4.0.1 t goes u in
            subst (λ (a : List ℕ). Members bytes xs a) r.1 (subst (λ (a : List X). Members bytes a b4.0.1) (ap (λ (a : X × Bool). a.0 ∷ b4.0.0) q.0 ∙ r.0) whole)
        | inr h ↦ let r = ok_parts (b1.0.0.0 ∷ []) xs b1.0.1 rest h.1 in
            let goes : Goes false b2.0.1 b1.0.1 = subst (λ (g : Bool). Goes g b2.0.1 b1.0.1) (ap (λ (a : X × Bool). a.1) q.0 ∙ h.0) (subst (λ (a : List ℕ). Goes b3.0.0 b2.0.1 a) q.1 m) in
            let whole : Members bytes (b2.0.0 ∷ []) b1.0.1 = last bytes b2.0.0 b2.0.1 b1.0.1 t goes in
            subst (λ (a : List ℕ). Members bytes xs a) r.1 (subst (λ (a : List X). Members bytes a b1.0.1) (ap (λ (a : X × Bool). a.0 ∷ []) q.0 ∙ r.0) whole)
      ]

  pub list_sound : (nothing : WktCause) → IsSound (IsList Lang) (list_at nothing item)
  unfolding list_at
  list_sound nothing bytes xs rest e =
      let b1 = bind_ok (open_at nothing bytes) _ _ e in
      let o = open_back nothing bytes b1.0.0 b1.0.1 b1.1 in
      let m = items_back (length b1.0.1) b1.0.1 xs rest b1.2 in
      record {
        text = o.0 ++ 40 ∷ (o.1 ++ m.0);
        parts = o.2 ∙ ap (λ (u : List ℕ). o.0 ++ 40 ∷ u) (ap (λ (u : List ℕ). o.1 ++ u) m.1 ∙ sym (append_assoc o.1 m.0 rest)) ∙ sym (append_assoc o.0 (40 ∷ (o.1 ++ m.0)) rest);
        means = record { before = o.0; opened = o.1; inside = m.0; parts = refl; blank = (o.3, o.4); members = m.2 };
      }

-- ---- the kinds

pub single_sound : IsSound (IsSingle IsPair) single_at
unfolding single_at
single_sound bytes point rest e =
    let b1 = bind_ok (open_at Empty bytes) _ _ e in
    let o = open_back Empty bytes b1.0.0 b1.0.1 b1.1 in
    let b2 = bind_ok (point_at b1.0.1) _ _ b1.2 in
    let t = point_sound b1.0.1 b2.0.0 b2.0.1 b2.1 in
    let b3 = bind_ok (close_at b2.0.1) _ _ b2.2 in
    let c = close_back b2.0.1 b3.0.0 b3.0.1 b3.1 in
    let q = ok_parts b2.0.0 point b3.0.1 rest b3.2 in
    let inside : b1.0.1 ≡ (t.text ++ (c.0 ++ 41 ∷ [])) ++ b3.0.1 = t.parts ∙ ap (λ (u : List ℕ). t.text ++ u) (c.1 ∙ sym (append_assoc c.0 (41 ∷ []) b3.0.1)) ∙ sym (append_assoc t.text (c.0 ++ 41 ∷ []) b3.0.1) in
    let taken : Took (IsSingle IsPair) bytes b2.0.0 b3.0.1 = record {
      text = o.0 ++ 40 ∷ (o.1 ++ (t.text ++ (c.0 ++ 41 ∷ [])));
      parts = o.2 ∙ ap (λ (u : List ℕ). o.0 ++ 40 ∷ u) (ap (λ (u : List ℕ). o.1 ++ u) inside ∙ sym (append_assoc o.1 (t.text ++ (c.0 ++ 41 ∷ [])) b3.0.1)) ∙ sym (append_assoc o.0 (40 ∷ (o.1 ++ (t.text ++ (c.0 ++ 41 ∷ [])))) b3.0.1);
      means = record { before = o.0; opened = o.1; inside = t.text; closed = c.0; parts = refl; blank = (o.3, o.4, c.2); means = t.means };
    } in
    subst (λ (a : List ℕ). Took (IsSingle IsPair) bytes point a) q.1 (subst (λ (a : p.Point). Took (IsSingle IsPair) bytes a b3.0.1) q.0 taken)

pub marked_sound : IsSound IsMarked marked_at
marked_sound [] point rest e = let t = point_sound [] point rest e in record { text = t.text; parts = t.parts; means = inl t.means }
marked_sound (b ∷ bs) point rest e =
    elim (chosen (b == 40) _ _ _ e) [
      | inl h ↦ let t = single_sound (b ∷ bs) point rest h.1 in record { text = t.text; parts = t.parts; means = inr t.means }
      | inr h ↦ let t = point_sound (b ∷ bs) point rest h.1 in record { text = t.text; parts = t.parts; means = inl t.means }
    ]

ruled_back : (is_ring : Bool) (ps qs : List p.Point) (left rest : List ℕ) → ruled is_ring ps left ≡ Ok (qs, rest) → (ps ≡ qs) × (left ≡ rest) × (keeps is_ring ps ≡ true)
ruled_back true ps qs left rest e =
    elim (chosen (nat_lt (length ps) 4) _ _ _ e) [
      | inl h ↦ never _ _ h.1
      | inr h ↦ elim (chosen (not (is_closed ps)) _ _ _ h.1) [
        | inl k ↦ never _ _ k.1
        | inr k ↦ let q = ok_parts ps qs left rest k.1 in (q.0, q.1, both (length ps) (is_closed ps) h.0 k.0)
      ]
    ]
  where
    both : (n : ℕ) (t : Bool) → nat_lt n 4 ≡ false → not t ≡ false → (nat_le 4 n && t) ≡ true
    both n true h k = let le : nat_le 4 n ≡ true = grind (arith, nat_tests) in ap (λ t. t && true) le
    both n false h k = absurd cc
ruled_back false ps qs left rest e =
    elim (chosen (nat_lt (length ps) 2) _ _ _ e) [
      | inl h ↦ never _ _ h.1
      | inr h ↦ let q = ok_parts ps qs left rest h.1 in (q.0, q.1, enough (length ps) h.0)
    ]
  where
    enough : (n : ℕ) → nat_lt n 2 ≡ false → nat_le 2 n ≡ true
    enough n h = grind (arith, nat_tests)

pub line_sound : (is_ring : Bool) → IsSound (IsLine is_ring) (line_at is_ring)
unfolding line_at
line_sound is_ring bytes ps rest e =
    let b1 = bind_ok (list_at TooFew point_at bytes) _ _ e in
    let t = list_sound IsPair point_at point_sound TooFew bytes b1.0.0 b1.0.1 b1.1 in
    let r = ruled_back is_ring b1.0.0 ps b1.0.1 rest b1.2 in
    let taken : Took (IsLine is_ring) bytes b1.0.0 b1.0.1 = record { text = t.text; parts = t.parts; means = (t.means, r.2) } in
    subst (λ (a : List ℕ). Took (IsLine is_ring) bytes ps a) r.1 (subst (λ (a : List p.Point). Took (IsLine is_ring) bytes a b1.0.1) r.0 taken)

pub lines_sound : (are_rings : Bool) → IsSound (AreLines are_rings) (lines_at are_rings)
lines_sound are_rings = list_sound (IsLine are_rings) (line_at are_rings) (line_sound are_rings) Empty

-- ---- words

common_back : (w bs : List ℕ) → common w bs ≡ length w → (front : List ℕ) × (bs ≡ front ++ drop (length w) bs) × (map upper front ≡ w)
common_back [] bs e = ([], refl, refl)
common_back (w ∷ ws) [] e = absurd (omega arith)
common_back (w ∷ ws) (b ∷ bs) e = at (common_back ws bs) (upper b == w) refl
  where
    at : (common ws bs ≡ length ws → (front : List ℕ) × (bs ≡ front ++ drop (length ws) bs) × (map upper front ≡ ws)) → (t : Bool) → (upper b == w) ≡ t → (front : List ℕ) × (b ∷ bs ≡ front ++ drop (length (w ∷ ws)) (b ∷ bs)) × (map upper front ≡ w ∷ ws)
    at r true h =
        let long : suc (common ws bs) ≡ suc (length ws) = ap (λ t. cond t (suc (common ws bs)) 0) (sym h) ∙ e in
        let s = r (omega arith) in
        (b ∷ s.0, ap (λ (t : List ℕ). b ∷ t) s.1, ap (λ (c : ℕ). c ∷ map upper s.0) (is_it (upper b) w h) ∙ ap (λ (t : List ℕ). w ∷ t) s.2)
    at r false h = let short : 0 ≡ suc (length ws) = ap (λ t. cond t (suc (common ws bs)) 0) (sym h) ∙ e in absurd (omega arith)

pub word_sound : (ks : List Kind) (most : ℕ) (bytes : List ℕ) (k : Kind) (rest : List ℕ) → word_in ks most bytes ≡ Ok (k, rest) → (front : List ℕ) × (bytes ≡ front ++ rest) × (map upper front ≡ word k)
word_sound [] most bytes k rest e = none (drop most bytes) e
  where
    none : (left : List ℕ) → unknown_at left ≡ Ok (k, rest) → (front : List ℕ) × (bytes ≡ front ++ rest) × (map upper front ≡ word k)
    none [] e = never _ _ e
    none (b ∷ left) e = never _ _ e
word_sound (l ∷ ks) most bytes k rest e =
    elim (chosen (common (word l) bytes == length (word l)) _ _ _ e) [
      | inl h ↦ let long = is_it (common (word l) bytes) (length (word l)) h.0 in
          let c = common_back (word l) bytes long in
          let q = ok_parts l k (drop (common (word l) bytes) bytes) rest h.1 in
          (c.0, c.1 ∙ ap (λ (t : List ℕ). c.0 ++ t) (ap (λ (n : ℕ). drop n bytes) (sym long) ∙ q.1), c.2 ∙ ap word q.0)
      | inr h ↦ word_sound ks (max most (common (word l) bytes)) bytes k rest h.1
    ]
