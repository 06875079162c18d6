-- Where a reader finds a fault, the bytes before it can be completed, and the bytes there are as the cause says: numbers,
-- points, lists and lines.
use Rattle.std.proofs.Common.{◌≡◌, ℕ, ℤ, pos, zero, suc, ◌+◌, ◌-◌, ◌*◌, ◌<◌, ◌≤◌, ◌==◌, ◌&&◌, nat_le, nat_lt, not, Bool, true, false, cond, ◌⊎◌, inl, inr, List, [], ◌∷◌, ◌++◌, length, slice_get, Some, Result, Ok, Err, refl, sym, ap, subst, ◌∙◌, append_assoc, arith, length-append}
use Rattle.std.specs.List.{fold, list_all}
use Rattle.std.proofs.lemmas.Bool.Decides.{nat_tests}
use Rattle.std.proofs.lemmas.Cmp.{int_eq_equiv}
use Rattle.std.proofs.lemmas.List.{append-nil}
use Rattle.isp_geom.specs.declared.form.Point as p
use Rattle.std.specs.Ordering.{int_eq}
use Rattle.isp_geom.specs.Rules.{is_same, are_same, is_closed}
use Rattle.isp_wkt.specs.declared.cause.WktCause.{WktCause}
use Rattle.isp_wkt.specs.declared.cause.WktCause.TheVariants.{Truncated, NotWhole, OutOfRange, TooDeep, TooFew, Unclosed, Empty, Trailing, Unknown}
use Rattle.isp_wkt.specs.declared.cause.Fault.{Fault}
use Rattle.isp_wkt.specs.Grammar.{AreBlanks, value_of, IsFraction, IsSize, IsSign, IsNumber, IsPair, IsSingle, AreMembers, IsList, keeps, IsLine, AreLines, IsMarked}
use Rattle.isp_wkt.specs.Faults.{EndsIn, IsOpening, BreaksNumber, PassesLimit, EndsFew, EndsOpen}
use Rattle.isp_wkt.specs.Reading.{◌>>=◌, Outcome, is_blank, is_digit, is_e, skipped, limit, digits_at, zeros_at, fraction_at, end_at, first_at, size_at, sign_at, number_at, blank_at, point_at, inside_at, paren_at, open_at, comma_at, more_at, shut_at, close_at, member_at, items_at, list_at, ruled, line_at, lines_at, single_at, marked_at}
use Rattle.isp_wkt.proofs.Sound.{bind_ok, chosen, ok_parts, is_it, IsSound, skipped_back, StartsDigit, digits_back, fraction_back, first_back, sign_back, number_sound, blank_back, open_back, Goes, more_back, point_sound, list_sound, line_sound}

-- ---- outcomes

pub err_is : {A : Type 0} (f g : Fault) → ◌≡◌ {A = Result A Fault} (Err f) (Err g) → f ≡ g
err_is f g e = cc

pub no_err : {A P : Type 0} (x : A) (f : Fault) → ◌≡◌ {A = Result A Fault} (Ok x) (Err f) → P
no_err x f e = absurd cc

-- which step a fault is of
pub bind_err : {A B : Type 0} (r : Result A Fault) (k : A → Result B Fault) (f : Fault) → (r >>= k) ≡ Err f → (r ≡ Err f) ⊎ ((x : A) × (r ≡ Ok x) × (k x ≡ Err f))
bind_err (Ok x) k f e = inr (x, refl, e)
bind_err (Err d) k f e = inl (ap (λ (g : Fault). Err g) (err_is d f e))

-- ---- fronts

-- some text that means a value begins with this front
abbrev pub Starts : {X : Type 0} → (X → List ℕ → Type 0) → List ℕ → Type 0
Starts {X} Lang front = (more : List ℕ) × (x : X) × Lang x (front ++ more)

-- what the cause of a fault says of the bytes before it and the byte at it, where `Good` is what the bytes before a fault are, and
-- `Deep` those and a `(` that is too deep
abbrev pub Reason : (List ℕ → Type 0) → (List ℕ → Type 0) → WktCause → ℕ → List ℕ → Type 0
Reason Good Deep Truncated b front = ⊥
Reason Good Deep NotWhole b front = EndsIn (BreaksNumber b) front
Reason Good Deep OutOfRange b front = EndsIn (PassesLimit b) front
Reason Good Deep TooDeep b front = (b ≡ 40) × Deep (front ++ b ∷ [])
Reason Good Deep TooFew b front = EndsIn (EndsFew b) front
Reason Good Deep Unclosed b front = EndsIn (EndsOpen b) front
Reason Good Deep Empty b front = ((is_e b ≡ true) × (Good (front ++ 40 ∷ []) ⊎ Deep (front ++ 40 ∷ []))) ⊎ ((b ≡ 41) × EndsIn IsOpening front)
Reason Good Deep Trailing b front = ⊥
Reason Good Deep Unknown b front = Unit {0}

abbrev pub Why : (List ℕ → Type 0) → (List ℕ → Type 0) → WktCause → List ℕ → List ℕ → Type 0
Why Good Deep c front [] = c ≡ Truncated
Why Good Deep c front (b ∷ rest) = Reason Good Deep c b front

-- the bytes before a fault, and those from it on
pub record Fall (Good Deep : List ℕ → Type 0) (bytes : List ℕ) (f : Fault) : Type 0 where
  pub front : List ℕ
  pub rest : List ℕ
  pub parts : bytes ≡ front ++ rest
  pub long : length rest ≡ f.left
  pub good : Good front
  pub why : Why Good Deep f.cause front rest

pub fall_at : (Good Deep : List ℕ → Type 0) (c : WktCause) (front rest bytes : List ℕ) (f : Fault) → bytes ≡ front ++ rest → ◌≡◌ {A = Fault} (record { cause = c; left = length rest }) f → Good front → Why Good Deep c front rest → Fall Good Deep bytes f
fall_at Good Deep c front rest bytes f is e good why = subst (Fall Good Deep bytes) e (record { front = front; rest = rest; parts = is; long = refl; good = good; why = why })

ends_behind : (Last : List ℕ → Type 0) (pre front : List ℕ) → EndsIn Last front → EndsIn Last (pre ++ front)
ends_behind Last pre front w = (pre ++ w.0, w.1, ap (λ (t : List ℕ). pre ++ t) w.2 ∙ sym (append_assoc pre w.0 w.1), w.3)

module _ (Good Next Deep Deeper : List ℕ → Type 0) (pre : List ℕ) (lift : (u : List ℕ) → Good u → Next (pre ++ u)) (deep : (u : List ℕ) → Deep u → Deeper (pre ++ u)) where
  reason_behind : (front : List ℕ) (c : WktCause) (b : ℕ) → Reason Good Deep c b front → Reason Next Deeper c b (pre ++ front)
  reason_behind front Truncated b w = w
  reason_behind front NotWhole b w = ends_behind (BreaksNumber b) pre front w
  reason_behind front OutOfRange b w = ends_behind (PassesLimit b) pre front w
  reason_behind front TooDeep b w = (w.0, subst Deeper (sym (append_assoc pre front (b ∷ []))) (deep (front ++ b ∷ []) w.1))
  reason_behind front TooFew b w = ends_behind (EndsFew b) pre front w
  reason_behind front Unclosed b w = ends_behind (EndsOpen b) pre front w
  reason_behind front Empty b (inl w) = inl (w.0, at w.1)
    where
      at : Good (front ++ 40 ∷ []) ⊎ Deep (front ++ 40 ∷ []) → Next ((pre ++ front) ++ 40 ∷ []) ⊎ Deeper ((pre ++ front) ++ 40 ∷ [])
      at (inl g) = inl (subst Next (sym (append_assoc pre front (40 ∷ []))) (lift (front ++ 40 ∷ []) g))
      at (inr g) = inr (subst Deeper (sym (append_assoc pre front (40 ∷ []))) (deep (front ++ 40 ∷ []) g))
  reason_behind front Empty b (inr w) = inr (w.0, ends_behind IsOpening pre front w.1)
  reason_behind front Trailing b w = w
  reason_behind front Unknown b w = tt

  why_behind : (front : List ℕ) (c : WktCause) (rest : List ℕ) → Why Good Deep c front rest → Why Next Deeper c (pre ++ front) rest
  why_behind front c [] w = w
  why_behind front c (b ∷ rest) w = reason_behind front c b w

-- a fault behind bytes that were read
pub fall_behind : (Good Next Deep Deeper : List ℕ → Type 0) (pre bytes left : List ℕ) (f : Fault) → bytes ≡ pre ++ left → ((u : List ℕ) → Good u → Next (pre ++ u)) → ((u : List ℕ) → Deep u → Deeper (pre ++ u)) → Fall Good Deep left f → Fall Next Deeper bytes f
fall_behind Good Next Deep Deeper pre bytes left f is lift deep c = record {
  front = pre ++ c.front;
  rest = c.rest;
  parts = is ∙ ap (λ (t : List ℕ). pre ++ t) c.parts ∙ sym (append_assoc pre c.front c.rest);
  long = c.long;
  good = lift c.front c.good;
  why = why_behind Good Next Deep Deeper pre lift deep c.front f.cause c.rest c.why;
}

pub fall_as : (Good Next Deep Deeper : List ℕ → Type 0) (bytes : List ℕ) (f : Fault) → ((u : List ℕ) → Good u → Next u) → ((u : List ℕ) → Deep u → Deeper u) → Fall Good Deep bytes f → Fall Next Deeper bytes f
fall_as Good Next Deep Deeper bytes f lift deep c = fall_behind Good Next Deep Deeper [] bytes bytes f refl lift deep c

-- the same where a fault is never TooDeep
abbrev pub Never : List ℕ → Type 0
Never u = ⊥

abbrev pub Cut : (List ℕ → Type 0) → List ℕ → Fault → Type 0
Cut Good bytes f = Fall Good Never bytes f

pub cut_at : (Good : List ℕ → Type 0) (c : WktCause) (front rest bytes : List ℕ) (f : Fault) → bytes ≡ front ++ rest → ◌≡◌ {A = Fault} (record { cause = c; left = length rest }) f → Good front → Why Good Never c front rest → Cut Good bytes f
cut_at Good c front rest bytes f is e good why = fall_at Good Never c front rest bytes f is e good why

pub behind : (Good Next : List ℕ → Type 0) (pre bytes left : List ℕ) (f : Fault) → bytes ≡ pre ++ left → ((u : List ℕ) → Good u → Next (pre ++ u)) → Cut Good left f → Cut Next bytes f
behind Good Next pre bytes left f is lift c = fall_behind Good Next Never Never pre bytes left f is lift (λ u x. x) c

pub weaken : (Good Next : List ℕ → Type 0) (bytes : List ℕ) (f : Fault) → ((u : List ℕ) → Good u → Next u) → Cut Good bytes f → Cut Next bytes f
weaken Good Next bytes f lift c = behind Good Next [] bytes bytes f refl lift c

-- a fault of a reader whose faults are never TooDeep, as one of a reader of forms
pub never_deep : (Good Deep : List ℕ → Type 0) (bytes : List ℕ) (f : Fault) → Cut Good bytes f → Fall Good Deep bytes f
never_deep Good Deep bytes f c = fall_as Good Good Never Deep bytes f (λ u g. g) (λ u x. absurd x) c

-- ---- numbers

zero_size : IsSize 0 (48 ∷ [])
zero_size = record { digits = 48 ∷ []; fraction = []; parts = refl; some = omega arith; all = refl; value = refl; whole = tt; small = omega arith }

unsigned : (n : ℕ) (t : List ℕ) → IsSize n t → IsNumber (pos n) t
unsigned n t m = record { is_negative = false; size = n; sign = []; body = t; parts = refl; signs = inl refl; sized = m; value = refl }

zero_number : IsNumber (pos 0) (48 ∷ [])
zero_number = unsigned 0 (48 ∷ []) zero_size

size_begun : (ds : List ℕ) → list_all is_digit ds ≡ true → value_of ds ≤ limit → Starts IsSize ds
size_begun [] h le = (48 ∷ [], 0, zero_size)
size_begun (d ∷ ds) h le = ([], value_of (d ∷ ds), record { digits = d ∷ ds; fraction = []; parts = refl; some = omega arith; all = h; value = refl; whole = tt; small = le })

first_open : (bytes : List ℕ) (f : Fault) → first_at bytes ≡ Err f → Cut (Starts IsSize) bytes f
first_open [] f e = cut_at (Starts IsSize) Truncated [] [] [] f refl (err_is _ f e) (48 ∷ [], 0, zero_size) refl
first_open (b ∷ bs) f e =
    elim (chosen (is_digit b) _ _ _ e) [
      | inl h ↦ no_err _ f h.1
      | inr h ↦ cut_at (Starts IsSize) Unknown [] (b ∷ bs) (b ∷ bs) f refl (err_is _ f h.1) (48 ∷ [], 0, zero_size) tt
    ]

-- the digits before one that goes past the limit
abbrev Past : ℕ → List ℕ → Fault → Type 0
Past size bs f =
    (ds : List ℕ) × (b : ℕ) × (rest : List ℕ) × (bs ≡ ds ++ b ∷ rest) × (list_all is_digit ds ≡ true) × (is_digit b ≡ true)
    × (fold (λ n c. n * 10 + (c - 48)) size ds ≤ limit) × (limit < fold (λ n c. n * 10 + (c - 48)) size ds * 10 + (b - 48)) × (◌≡◌ {A = Fault} (record { cause = OutOfRange; left = length (b ∷ rest) }) f)

digits_past : (size : ℕ) (bs : List ℕ) (f : Fault) → size ≤ limit → digits_at size bs ≡ Err f → Past size bs f
digits_past size [] f le e = no_err _ f e
digits_past size (b ∷ bs) f le e =
    elim (chosen (is_digit b) _ _ _ e) [
      | inl h ↦ elim (chosen (nat_le (size * 10 + (b - 48)) limit) _ _ _ h.1) [
        | inl k ↦ let r = digits_past (size * 10 + (b - 48)) bs f (small_of _ k.0) k.1 in
            (b ∷ r.0, r.1, r.2, ap (λ (t : List ℕ). b ∷ t) r.3, ap (λ t. t && list_all is_digit r.0) h.0 ∙ r.4, r.5, r.6, r.7, r.8)
        | inr k ↦ ([], b, bs, refl, refl, h.0, le, large_of _ k.0, err_is _ f k.1)
      ]
      | inr h ↦ no_err _ f h.1
    ]
  where
    small_of : (m : ℕ) → nat_le m limit ≡ true → m ≤ limit
    small_of m h = grind (arith, nat_tests)

    large_of : (m : ℕ) → nat_le m limit ≡ false → limit < m
    large_of m h = grind (arith, nat_tests)

digits_open : (bytes : List ℕ) (f : Fault) → digits_at 0 bytes ≡ Err f → Cut (Starts IsSize) bytes f
digits_open bytes f e =
    let d = digits_past 0 bytes f (omega arith) e in
    cut_at (Starts IsSize) OutOfRange d.0 (d.1 ∷ d.2) bytes f d.3 d.8 (size_begun d.0 d.4 d.6) ([], d.0, refl, (d.5, d.4, d.6, d.7))

-- the zeros of a fraction before another digit
abbrev Broken : List ℕ → Fault → Type 0
Broken bs f =
    (zs : List ℕ) × (b : ℕ) × (rest : List ℕ) × (bs ≡ zs ++ b ∷ rest) × (list_all (λ z. z == 48) zs ≡ true) × (is_digit b ≡ true) × ((b == 48) ≡ false)
    × (◌≡◌ {A = Fault} (record { cause = NotWhole; left = length (b ∷ rest) }) f)

zeros_broken : (bs : List ℕ) (f : Fault) → zeros_at bs ≡ Err f → Broken bs f
zeros_broken [] f e = no_err _ f e
zeros_broken (b ∷ bs) f e =
    elim (chosen (b == 48) _ _ _ e) [
      | inl h ↦ let r = zeros_broken bs f h.1 in (b ∷ r.0, r.1, r.2, ap (λ (t : List ℕ). b ∷ t) r.3, ap (λ t. t && list_all (λ z. z == 48) r.0) h.0 ∙ r.4, r.5, r.6, r.7)
      | inr h ↦ elim (chosen (is_digit b) _ _ _ h.1) [
        | inl k ↦ ([], b, bs, refl, refl, k.0, h.0, err_is _ f k.1)
        | inr k ↦ no_err _ f k.1
      ]
    ]

fraction_broken : (bs : List ℕ) (f : Fault) → fraction_at bs ≡ Err f → (left : List ℕ) × (bs ≡ 46 ∷ left) × Broken left f
fraction_broken [] f e = no_err _ f e
fraction_broken (b ∷ bs) f e =
    elim (chosen (b == 46) _ _ _ e) [
      | inl h ↦ (bs, ap (λ (c : ℕ). c ∷ bs) (is_it b 46 h.0), zeros_broken bs f h.1)
      | inr h ↦ no_err _ f h.1
    ]

sized : (n : ℕ) (ds fraction : List ℕ) → list_all is_digit ds ≡ true → 0 < length ds → value_of ds ≡ n → n ≤ limit → IsFraction fraction → IsSize n (ds ++ fraction)
sized n ds fraction all some value small whole = record { digits = ds; fraction = fraction; parts = refl; some = some; all = all; value = value; whole = whole; small = small }

whole_starts : (n : ℕ) (t : List ℕ) → IsSize n t → Starts IsSize t
whole_starts n t m = ([], n, subst (IsSize n) (sym (append-nil t)) m)

fraction_open : (n : ℕ) (ds left bytes : List ℕ) (f : Fault) → bytes ≡ ds ++ left → list_all is_digit ds ≡ true → 0 < length ds → value_of ds ≡ n → n ≤ limit → fraction_at left ≡ Err f → Cut (Starts IsSize) bytes f
fraction_open n ds left bytes f is all some value small e =
    let b = fraction_broken left f e in
    let z = b.2 in
    let number : IsSize n (ds ++ 46 ∷ z.0) = sized n ds (46 ∷ z.0) all some value small (refl, z.4) in
    cut_at (Starts IsSize) NotWhole (ds ++ 46 ∷ z.0) (z.1 ∷ z.2) bytes f
    (is ∙ ap (λ (t : List ℕ). ds ++ t) (b.1 ∙ ap (λ (t : List ℕ). 46 ∷ t) z.3) ∙ sym (append_assoc ds (46 ∷ z.0) (z.1 ∷ z.2)))
    z.7
    (whole_starts n (ds ++ 46 ∷ z.0) number)
    ([], ds ++ 46 ∷ z.0, refl, (pos n, unsigned n (ds ++ 46 ∷ z.0) number, inr (z.5, z.6, ds, z.0, refl, z.4)))

end_open : (n : ℕ) (t left bytes : List ℕ) (f : Fault) → bytes ≡ t ++ left → IsSize n t → end_at left ≡ Err f → Cut (Starts IsSize) bytes f
end_open n t [] bytes f is m e = no_err _ f e
end_open n t (b ∷ left) bytes f is m e =
    elim (chosen (is_e b) _ _ _ e) [
      | inl h ↦ cut_at (Starts IsSize) NotWhole t (b ∷ left) bytes f is (err_is _ f h.1) (whole_starts n t m) ([], t, refl, (pos n, unsigned n t m, inl h.0))
      | inr h ↦ no_err _ f h.1
    ]

size_open : (bytes : List ℕ) (f : Fault) → size_at bytes ≡ Err f → Cut (Starts IsSize) bytes f
unfolding size_at
size_open bytes f e =
    elim (bind_err (first_at bytes) _ f e) [
      | inl h ↦ first_open bytes f h
      | inr a ↦ let s = first_back bytes a.0.0 a.0.1 a.1 in
          elim (bind_err (digits_at 0 a.0.1) _ f a.2) [
            | inl h ↦ digits_open bytes f (ap (digits_at 0) s.0 ∙ h)
            | inr b ↦ let d = digits_back 0 a.0.1 b.0.0 b.0.1 (omega arith) b.1 in
                let some : 0 < length d.0 = d.5 (subst StartsDigit s.0 s.1) in
                elim (bind_err (fraction_at b.0.1) _ f b.2) [
                  | inl h ↦ fraction_open b.0.0 d.0 b.0.1 bytes f (s.0 ∙ d.1) d.2 some d.3 d.4 h
                  | inr c ↦ let g = fraction_back b.0.1 c.0.0 c.0.1 c.1 in
                      elim (bind_err (end_at c.0.1) _ f c.2) [
                        | inl h ↦ end_open b.0.0 (d.0 ++ g.0) c.0.1 bytes f (s.0 ∙ d.1 ∙ ap (λ (t : List ℕ). d.0 ++ t) g.1 ∙ sym (append_assoc d.0 g.0 c.0.1)) (sized b.0.0 d.0 g.0 d.2 some d.3 d.4 g.2) h
                        | inr h ↦ no_err _ f h.2
                      ]
                ]
          ]
    ]

sign_never : {P : Type 0} (bytes : List ℕ) (f : Fault) → sign_at bytes ≡ Err f → P
sign_never [] f e = no_err _ f e
sign_never (b ∷ bs) f e =
    elim (chosen (b == 45) _ _ _ e) [
      | inl h ↦ no_err _ f h.1
      | inr h ↦ elim (chosen (b == 43) _ _ _ h.1) [ inl k ↦ no_err _ f k.1 | inr k ↦ no_err _ f k.1 ]
    ]

number_open : (bytes : List ℕ) (f : Fault) → number_at bytes ≡ Err f → Cut (Starts IsNumber) bytes f
unfolding number_at
number_open bytes f e =
    elim (bind_err (sign_at bytes) _ f e) [
      | inl h ↦ sign_never bytes f h
      | inr a ↦ let s = sign_back bytes a.0.0 a.0.1 a.1 in
          elim (bind_err (size_at a.0.1) _ f a.2) [
            | inl h ↦ behind (Starts IsSize) (Starts IsNumber) s.0 bytes a.0.1 f s.1 (λ u g. signed_start a.0.0 s.0 u s.2 g) (size_open a.0.1 f h)
            | inr b ↦ no_err _ f b.2
          ]
    ]
  where
    signed_start : (is_negative : Bool) (sign u : List ℕ) → IsSign is_negative sign → Starts IsSize u → Starts IsNumber (sign ++ u)
    signed_start is_negative sign u s g = (g.0, _, record { is_negative = is_negative; size = g.1; sign = sign; body = u ++ g.0; parts = append_assoc sign u g.0; signs = s; sized = g.2; value = refl })

-- a fault at the first byte
abbrev pub Nothing : List ℕ → Type 0
Nothing u = u ≡ []

blank_open : (bytes : List ℕ) (f : Fault) → blank_at bytes ≡ Err f → Cut Nothing bytes f
blank_open [] f e = cut_at Nothing Truncated [] [] [] f refl (err_is _ f e) refl refl
blank_open (b ∷ bs) f e =
    elim (chosen (is_blank b) _ _ _ e) [
      | inl h ↦ no_err _ f h.1
      | inr h ↦ cut_at Nothing Unknown [] (b ∷ bs) (b ∷ bs) f refl (err_is _ f h.1) refl tt
    ]

first_half : (u : List ℕ) → Starts IsNumber u → Starts IsPair u
first_half u g = (g.0 ++ 32 ∷ 48 ∷ [], record { x = g.1; y = pos 0 }, record { left = u ++ g.0; blanks = 32 ∷ []; right = 48 ∷ []; parts = sym (append_assoc u g.0 (32 ∷ 48 ∷ [])); x = g.2; some = omega arith; blank = refl; y = zero_number })

between : (z : ℤ) (t u : List ℕ) → IsNumber z t → Nothing u → Starts IsPair (t ++ u)
between z t u m e = subst (λ (v : List ℕ). Starts IsPair (t ++ v)) (sym e) (first_half (t ++ []) ([], z, subst (IsNumber z) (sym (append-nil (t ++ []) ∙ append-nil t)) m))

second_half : (z : ℤ) (t blanks u : List ℕ) → IsNumber z t → 0 < length blanks → AreBlanks blanks → Starts IsNumber u → Starts IsPair ((t ++ blanks) ++ u)
second_half z t blanks u m some blank g = (g.0, record { x = z; y = g.1 }, record { left = t; blanks = blanks; right = u ++ g.0; parts = append_assoc (t ++ blanks) u g.0 ∙ append_assoc t blanks (u ++ g.0); x = m; some = some; blank = blank; y = g.2 })

pub point_open : (bytes : List ℕ) (f : Fault) → point_at bytes ≡ Err f → Cut (Starts IsPair) bytes f
unfolding point_at
point_open bytes f e =
    elim (bind_err (number_at bytes) _ f e) [
      | inl h ↦ weaken (Starts IsNumber) (Starts IsPair) bytes f first_half (number_open bytes f h)
      | inr a ↦ let x = number_sound bytes a.0.0 a.0.1 a.1 in
          elim (bind_err (blank_at a.0.1) _ f a.2) [
            | inl h ↦ behind Nothing (Starts IsPair) x.text bytes a.0.1 f x.parts (λ u g. between a.0.0 x.text u x.means g) (blank_open a.0.1 f h)
            | inr b ↦ let w = blank_back a.0.1 b.0.0 b.0.1 b.1 in
                elim (bind_err (number_at b.0.1) _ f b.2) [
                  | inl h ↦ behind (Starts IsNumber) (Starts IsPair) (x.text ++ w.0) bytes b.0.1 f (x.parts ∙ ap (λ (t : List ℕ). x.text ++ t) w.1 ∙ sym (append_assoc x.text w.0 b.0.1)) (λ u g. second_half a.0.0 x.text w.0 u x.means w.2 w.3 g) (number_open b.0.1 f h)
                  | inr c ↦ no_err _ f c.2
                ]
          ]
    ]

-- ---- parentheses and commas

-- a front of blanks and an opening parenthesis with blanks behind it
pub record Opening (u : List ℕ) : Type 0 where
  pub tail : List ℕ
  pub before : List ℕ
  pub opened : List ℕ
  pub parts : u ++ tail ≡ before ++ 40 ∷ opened
  pub blank : AreBlanks before × AreBlanks opened

inside_shut : (nothing : WktCause) (bs : List ℕ) (f : Fault) → inside_at nothing bs ≡ Err f → (rest : List ℕ) × (bs ≡ 41 ∷ rest) × (◌≡◌ {A = Fault} (record { cause = nothing; left = length (41 ∷ rest) }) f)
inside_shut nothing [] f e = no_err _ f e
inside_shut nothing (b ∷ bs) f e =
    elim (chosen (b == 41) _ _ _ e) [
      | inl h ↦ let is = is_it b 41 h.0 in (bs, ap (λ (c : ℕ). c ∷ bs) is, err_is _ f h.1)
      | inr h ↦ no_err _ f h.1
    ]

-- nothing, or an opening parenthesis with blanks behind it
abbrev pub Parened : List ℕ → Type 0
Parened u = (u ≡ []) ⊎ IsOpening u

paren_open : (nothing : WktCause) → ((last : List ℕ) → IsOpening last → Reason Parened Never nothing 41 last) → (bs : List ℕ) (f : Fault) → paren_at nothing bs ≡ Err f → Cut Parened bs f
paren_open nothing says [] f e = cut_at Parened Truncated [] [] [] f refl (err_is _ f e) (inl refl) refl
paren_open nothing says (b ∷ bs) f e =
    elim (chosen (b == 40) _ _ _ e) [
      | inl h ↦ let r = skipped_back bs in
          let s = inside_shut nothing (skipped bs) f h.1 in
          let is : IsOpening (40 ∷ r.0) = (r.0, refl, r.2) in
          cut_at Parened nothing (40 ∷ r.0) (41 ∷ s.0) (b ∷ bs) f (ap (λ (c : ℕ). c ∷ bs) (is_it b 40 h.0) ∙ ap (λ (t : List ℕ). 40 ∷ t) (r.1 ∙ ap (λ (t : List ℕ). r.0 ++ t) s.1)) s.2 (inr is) (says (40 ∷ r.0) is)
      | inr h ↦ elim (chosen (is_e b) _ _ _ h.1) [
        | inl k ↦ cut_at Parened Empty [] (b ∷ bs) (b ∷ bs) f refl (err_is _ f k.1) (inl refl) (inl (k.0, inl (inr ([], refl, refl))))
        | inr k ↦ cut_at Parened Unknown [] (b ∷ bs) (b ∷ bs) f refl (err_is _ f k.1) (inl refl) tt
      ]
    ]

opening_of : (blanks u : List ℕ) → AreBlanks blanks → Parened u → Opening (blanks ++ u)
opening_of blanks u h (inl e) = record { tail = 40 ∷ []; before = blanks; opened = []; parts = append_assoc blanks u (40 ∷ []) ∙ ap (λ (t : List ℕ). blanks ++ (t ++ 40 ∷ [])) e; blank = (h, refl) }
opening_of blanks u h (inr o) = record { tail = []; before = blanks; opened = o.0; parts = append-nil (blanks ++ u) ∙ ap (λ (t : List ℕ). blanks ++ t) o.1; blank = (h, o.2) }

pub open_open : (nothing : WktCause) → ((last : List ℕ) → IsOpening last → Reason Parened Never nothing 41 last) → (bytes : List ℕ) (f : Fault) → open_at nothing bytes ≡ Err f → Cut Opening bytes f
open_open nothing says bytes f e =
    let r = skipped_back bytes in
    behind Parened Opening r.0 bytes (skipped bytes) f r.1 (λ u g. opening_of r.0 u r.2 g) (paren_open nothing says (skipped bytes) f e)

pub says_empty : (last : List ℕ) → IsOpening last → Reason Parened Never Empty 41 last
says_empty last o = inr (refl, ([], last, refl, o))

says_few : (last : List ℕ) → IsOpening last → Reason Parened Never TooFew 41 last
says_few last o = ([], last, refl, (refl, inl o))

comma_open : (bs : List ℕ) (f : Fault) → comma_at bs ≡ Err f → Cut Nothing bs f
comma_open [] f e = cut_at Nothing Truncated [] [] [] f refl (err_is _ f e) refl refl
comma_open (b ∷ bs) f e =
    elim (chosen (b == 44) _ _ _ e) [
      | inl h ↦ no_err _ f h.1
      | inr h ↦ elim (chosen (b == 41) _ _ _ h.1) [
        | inl k ↦ no_err _ f k.1
        | inr k ↦ cut_at Nothing Unknown [] (b ∷ bs) (b ∷ bs) f refl (err_is _ f k.1) refl tt
      ]
    ]

shut_open : (bs : List ℕ) (f : Fault) → shut_at bs ≡ Err f → Cut Nothing bs f
shut_open [] f e = cut_at Nothing Truncated [] [] [] f refl (err_is _ f e) refl refl
shut_open (b ∷ bs) f e =
    elim (chosen (b == 41) _ _ _ e) [
      | inl h ↦ no_err _ f h.1
      | inr h ↦ cut_at Nothing Unknown [] (b ∷ bs) (b ∷ bs) f refl (err_is _ f h.1) refl tt
    ]

blanks_alone : (blanks u : List ℕ) → AreBlanks blanks → Nothing u → AreBlanks (blanks ++ u)
blanks_alone blanks u h e = subst AreBlanks (sym (ap (λ (t : List ℕ). blanks ++ t) e ∙ append-nil blanks)) h

more_open : (bytes : List ℕ) (f : Fault) → more_at bytes ≡ Err f → Cut AreBlanks bytes f
more_open bytes f e = let r = skipped_back bytes in behind Nothing AreBlanks r.0 bytes (skipped bytes) f r.1 (λ u g. blanks_alone r.0 u r.2 g) (comma_open (skipped bytes) f e)

close_open : (bytes : List ℕ) (f : Fault) → close_at bytes ≡ Err f → Cut AreBlanks bytes f
close_open bytes f e = let r = skipped_back bytes in behind Nothing AreBlanks r.0 bytes (skipped bytes) f r.1 (λ u g. blanks_alone r.0 u r.2 g) (shut_open (skipped bytes) f e)

-- ---- lists

-- how fronts of members and of lists are made of fronts of a member
pub record Lifts {X : Type 0} (Lang : X → List ℕ → Type 0) (One Members All DeepOne DeepMembers DeepAll : List ℕ → Type 0) : Type 0 where
  pub none : Members []
  pub begun : (u : List ℕ) → One u → Members u
  pub whole : (x : X) (t u : List ℕ) → Lang x t → AreBlanks u → Members (t ++ u)
  pub next : (x : X) (t blanks more u : List ℕ) → Lang x t → AreBlanks blanks → AreBlanks more → Members u → Members (t ++ (blanks ++ 44 ∷ (more ++ u)))
  pub inside : (before opened u : List ℕ) → AreBlanks before → AreBlanks opened → Members u → All (before ++ 40 ∷ (opened ++ u))
  pub opening : (u : List ℕ) → Opening u → All u
  pub deep_begun : (u : List ℕ) → DeepOne u → DeepMembers u
  pub deep_next : (x : X) (t blanks more u : List ℕ) → Lang x t → AreBlanks blanks → AreBlanks more → DeepMembers u → DeepMembers (t ++ (blanks ++ 44 ∷ (more ++ u)))
  pub deep_inside : (before opened u : List ℕ) → AreBlanks before → AreBlanks opened → DeepMembers u → DeepAll (before ++ 40 ∷ (opened ++ u))

module _ {X : Type 0} (Lang : X → List ℕ → Type 0) (item : List ℕ → Outcome X) (sound : IsSound Lang item) (One Members All DeepOne DeepMembers DeepAll : List ℕ → Type 0) (lifts : Lifts Lang One Members All DeepOne DeepMembers DeepAll) (opens : (bytes : List ℕ) (f : Fault) → item bytes ≡ Err f → Fall One DeepOne bytes f) where
  member_open : (bytes : List ℕ) (f : Fault) → member_at item bytes ≡ Err f → Fall Members DeepMembers bytes f
  member_open bytes f e =
      elim (bind_err (item bytes) _ f e) [
        | inl h ↦ fall_as One Members DeepOne DeepMembers bytes f lifts.begun lifts.deep_begun (opens bytes f h)
        | inr a ↦ let t = sound bytes a.0.0 a.0.1 a.1 in
            elim (bind_err (more_at a.0.1) _ f a.2) [
              | inl h ↦ never_deep Members DeepMembers bytes f (behind AreBlanks Members t.text bytes a.0.1 f t.parts (λ u g. lifts.whole a.0.0 t.text u t.means g) (more_open a.0.1 f h))
              | inr b ↦ no_err _ f b.2
            ]
      ]

  -- a member and a comma
  abbrev Before : List ℕ → List ℕ → Type 0
  Before bytes left = (x : X) × (t : List ℕ) × (blanks : List ℕ) × (more : List ℕ) × (bytes ≡ t ++ (blanks ++ 44 ∷ (more ++ left))) × Lang x t × AreBlanks blanks × AreBlanks more

  comma_before : (bytes : List ℕ) (x : X × Bool) (left : List ℕ) → member_at item bytes ≡ Ok (x, left) → x.1 ≡ true → Before bytes left
  comma_before bytes x left e h =
      let b2 = bind_ok (item bytes) _ _ e in
      let t = sound bytes b2.0.0 b2.0.1 b2.1 in
      let b3 = bind_ok (more_at b2.0.1) _ _ b2.2 in
      let m = more_back b2.0.1 b3.0.0 b3.0.1 b3.1 in
      let q = ok_parts (b2.0.0, b3.0.0) x b3.0.1 left b3.2 in
      let goes : Goes true b2.0.1 left = subst (λ (g : Bool). Goes g b2.0.1 left) (ap (λ (a : X × Bool). a.1) q.0 ∙ h) (subst (λ (a : List ℕ). Goes b3.0.0 b2.0.1 a) q.1 m) in
      (b2.0.0, t.text, goes.0, goes.1, t.parts ∙ ap (λ (u : List ℕ). t.text ++ u) goes.2, t.means, goes.3, goes.4)

  comma_parts : (t blanks more u : List ℕ) → (t ++ (blanks ++ 44 ∷ more)) ++ u ≡ t ++ (blanks ++ 44 ∷ (more ++ u))
  comma_parts t blanks more u = append_assoc t (blanks ++ 44 ∷ more) u ∙ ap (λ (v : List ℕ). t ++ v) (append_assoc blanks (44 ∷ more) u)

  items_open : (n : ℕ) (bytes : List ℕ) (f : Fault) → length bytes ≤ n → items_at item n bytes ≡ Err f → Fall Members DeepMembers bytes f
  items_open zero [] f le e = fall_at Members DeepMembers Truncated [] [] [] f refl (err_is _ f e) lifts.none refl
  items_open zero (b ∷ bytes) f le e = absurd (omega arith)
  items_open (suc n) bytes f le e =
      elim (bind_err (member_at item bytes) _ f e) [
        | inl h ↦ member_open bytes f h
        | inr a ↦ elim (chosen a.0.0.1 _ _ _ a.2) [
          | inl h ↦ elim (bind_err (items_at item n a.0.1) _ f h.1) [
            | inl k ↦ let b = comma_before bytes a.0.0 a.0.1 a.1 h.0 in
                let less : length a.0.1 ≤ n = omega (arith, ap length b.4, length-append b.1 (b.2 ++ 44 ∷ (b.3 ++ a.0.1)), length-append b.2 (44 ∷ (b.3 ++ a.0.1)), length-append b.3 a.0.1) in
                fall_behind Members Members DeepMembers DeepMembers (b.1 ++ (b.2 ++ 44 ∷ b.3)) bytes a.0.1 f (b.4 ∙ sym (comma_parts b.1 b.2 b.3 a.0.1))
                (λ u g. subst Members (sym (comma_parts b.1 b.2 b.3 u)) (lifts.next b.0 b.1 b.2 b.3 u b.5 b.6 b.7 g))
                (λ u g. subst DeepMembers (sym (comma_parts b.1 b.2 b.3 u)) (lifts.deep_next b.0 b.1 b.2 b.3 u b.5 b.6 b.7 g))
                (items_open n a.0.1 f less k)
            | inr b ↦ no_err _ f b.2
          ]
          | inr h ↦ no_err _ f h.1
        ]
      ]

  pub list_open : (nothing : WktCause) → ((last : List ℕ) → IsOpening last → Reason Parened Never nothing 41 last) → (bytes : List ℕ) (f : Fault) → list_at nothing item bytes ≡ Err f → Fall All DeepAll bytes f
  unfolding list_at
  list_open nothing says bytes f e =
      elim (bind_err (open_at nothing bytes) _ f e) [
        | inl h ↦ never_deep All DeepAll bytes f (weaken Opening All bytes f lifts.opening (open_open nothing says bytes f h))
        | inr a ↦ let o = open_back nothing bytes a.0.0 a.0.1 a.1 in
            fall_behind Members All DeepMembers DeepAll (o.0 ++ 40 ∷ o.1) bytes a.0.1 f (o.2 ∙ sym (append_assoc o.0 (40 ∷ o.1) a.0.1))
            (λ u g. subst All (sym (append_assoc o.0 (40 ∷ o.1) u)) (lifts.inside o.0 o.1 u o.3 o.4 g))
            (λ u g. subst DeepAll (sym (append_assoc o.0 (40 ∷ o.1) u)) (lifts.deep_inside o.0 o.1 u o.3 o.4 g))
            (items_open (length a.0.1) a.0.1 f (omega arith) a.2)
      ]

-- ---- fronts of lists of whole values

module _ {X : Type 0} (Lang : X → List ℕ → Type 0) where
  pub shorter : (u v : List ℕ) → Starts Lang (u ++ v) → Starts Lang u
  shorter u v g = (v ++ g.0, g.1, subst (Lang g.1) (append_assoc u v g.0) g.2)

  pub start_members : (u : List ℕ) → Starts Lang u → Starts (AreMembers Lang) u
  start_members u g = (g.0 ++ 41 ∷ [], g.1 ∷ [], (u ++ g.0, [], sym (append_assoc u g.0 (41 ∷ [])), g.2, refl))

  pub start_whole : (x : X) (t u : List ℕ) → Lang x t → AreBlanks u → Starts (AreMembers Lang) (t ++ u)
  start_whole x t u m h = (41 ∷ [], x ∷ [], (t, u, append_assoc t u (41 ∷ []), m, h))

  pub start_next : (x : X) (t blanks more u : List ℕ) → Lang x t → AreBlanks blanks → AreBlanks more → Starts (AreMembers Lang) u → Starts (AreMembers Lang) (t ++ (blanks ++ 44 ∷ (more ++ u)))
  start_next x t blanks more u m h k g = at g.1 g.2
    where
      at : (xs : List X) → AreMembers Lang xs (u ++ g.0) → Starts (AreMembers Lang) (t ++ (blanks ++ 44 ∷ (more ++ u)))
      at [] n = absurd n
      at (y ∷ ys) n = (g.0, x ∷ y ∷ ys, (t, blanks, more, u ++ g.0, append_assoc t (blanks ++ 44 ∷ (more ++ u)) g.0 ∙ ap (λ (v : List ℕ). t ++ v) (append_assoc blanks (44 ∷ (more ++ u)) g.0 ∙ ap (λ (v : List ℕ). blanks ++ 44 ∷ v) (append_assoc more u g.0)), m, h, k, n))

  pub start_inside : (before opened u : List ℕ) → AreBlanks before → AreBlanks opened → Starts (AreMembers Lang) u → Starts (IsList Lang) (before ++ 40 ∷ (opened ++ u))
  start_inside before opened u h k g = (g.0, g.1, record { before = before; opened = opened; inside = u ++ g.0; parts = append_assoc before (40 ∷ (opened ++ u)) g.0 ∙ ap (λ (v : List ℕ). before ++ 40 ∷ v) (append_assoc opened u g.0); blank = (h, k); members = g.2 })

-- a front that an opening parenthesis ends
pub opening_starts : {X : Type 0} (Lang : X → List ℕ → Type 0) (u : List ℕ) → ((before opened : List ℕ) → AreBlanks before → AreBlanks opened → Starts Lang (before ++ 40 ∷ (opened ++ []))) → Opening u → Starts Lang u
opening_starts Lang u inside o = shorter Lang u o.tail (subst (Starts Lang) (ap (λ (v : List ℕ). o.before ++ 40 ∷ v) (append-nil o.opened) ∙ sym o.parts) (inside o.before o.opened o.blank.0 o.blank.1))

pub starts_lifts : {X : Type 0} (Lang : X → List ℕ → Type 0) → Starts Lang [] → Lifts Lang (Starts Lang) (Starts (AreMembers Lang)) (Starts (IsList Lang)) Never Never Never
starts_lifts Lang default = record {
  none = start_members Lang [] default;
  begun = start_members Lang;
  whole = start_whole Lang;
  next = start_next Lang;
  inside = start_inside Lang;
  opening = λ u o. opening_starts (IsList Lang) u (λ before opened h k. start_inside Lang before opened [] h k (start_members Lang [] default)) o;
  deep_begun = λ u x. x;
  deep_next = λ x t blanks more u m h k y. y;
  deep_inside = λ before opened u h k y. y;
}

pub list_default : {X : Type 0} (Lang : X → List ℕ → Type 0) → Starts Lang [] → Starts (IsList Lang) []
list_default Lang default = (starts_lifts Lang default).opening [] (record { tail = 40 ∷ []; before = []; opened = []; parts = refl; blank = (refl, refl) })

-- ---- points in parentheses

pub pair_default : Starts IsPair []
pair_default = first_half [] (48 ∷ [], pos 0, zero_number)

single_inside : (before opened u : List ℕ) → AreBlanks before → AreBlanks opened → Starts IsPair u → Starts (IsSingle IsPair) (before ++ 40 ∷ (opened ++ u))
single_inside before opened u h k g = (
  g.0 ++ 41 ∷ [],
  g.1,
  record {
    before = before;
    opened = opened;
    inside = u ++ g.0;
    closed = [];
    parts = append_assoc before (40 ∷ (opened ++ u)) (g.0 ++ 41 ∷ []) ∙ ap (λ (v : List ℕ). before ++ 40 ∷ v) (append_assoc opened u (g.0 ++ 41 ∷ []) ∙ ap (λ (v : List ℕ). opened ++ v) (sym (append_assoc u g.0 (41 ∷ []))));
    blank = (h, k, refl);
    means = g.2;
  },
)

single_closed : (before opened t u : List ℕ) (point : p.Point) → AreBlanks before → AreBlanks opened → IsPair point t → AreBlanks u → Starts (IsSingle IsPair) ((before ++ 40 ∷ (opened ++ t)) ++ u)
single_closed before opened t u point h k m c = (
  41 ∷ [],
  point,
  record {
    before = before;
    opened = opened;
    inside = t;
    closed = u;
    parts = append_assoc (before ++ 40 ∷ (opened ++ t)) u (41 ∷ []) ∙ append_assoc before (40 ∷ (opened ++ t)) (u ++ 41 ∷ []) ∙ ap (λ (v : List ℕ). before ++ 40 ∷ v) (append_assoc opened t (u ++ 41 ∷ []));
    blank = (h, k, c);
    means = m;
  },
)

single_opening : (u : List ℕ) → Opening u → Starts (IsSingle IsPair) u
single_opening u o = opening_starts (IsSingle IsPair) u (λ before opened h k. single_inside before opened [] h k pair_default) o

pub single_default : Starts (IsSingle IsPair) []
single_default = single_opening [] (record { tail = 40 ∷ []; before = []; opened = []; parts = refl; blank = (refl, refl) })

pub single_open : (bytes : List ℕ) (f : Fault) → single_at bytes ≡ Err f → Cut (Starts (IsSingle IsPair)) bytes f
unfolding single_at
single_open bytes f e =
    elim (bind_err (open_at Empty bytes) _ f e) [
      | inl h ↦ weaken Opening (Starts (IsSingle IsPair)) bytes f single_opening (open_open Empty says_empty bytes f h)
      | inr a ↦ let o = open_back Empty bytes a.0.0 a.0.1 a.1 in
          elim (bind_err (point_at a.0.1) _ f a.2) [
            | inl h ↦ behind (Starts IsPair) (Starts (IsSingle IsPair)) (o.0 ++ 40 ∷ o.1) bytes a.0.1 f (o.2 ∙ sym (append_assoc o.0 (40 ∷ o.1) a.0.1)) (λ u g. subst (Starts (IsSingle IsPair)) (sym (append_assoc o.0 (40 ∷ o.1) u)) (single_inside o.0 o.1 u o.3 o.4 g)) (point_open a.0.1 f h)
            | inr b ↦ let t = point_sound a.0.1 b.0.0 b.0.1 b.1 in
                elim (bind_err (close_at b.0.1) _ f b.2) [
                  | inl h ↦ behind AreBlanks (Starts (IsSingle IsPair)) (o.0 ++ 40 ∷ (o.1 ++ t.text)) bytes b.0.1 f
                      (o.2 ∙ ap (λ (v : List ℕ). o.0 ++ 40 ∷ v) (ap (λ (v : List ℕ). o.1 ++ v) t.parts ∙ sym (append_assoc o.1 t.text b.0.1)) ∙ sym (append_assoc o.0 (40 ∷ (o.1 ++ t.text)) b.0.1))
                      (λ u g. single_closed o.0 o.1 t.text u b.0.0 o.3 o.4 t.means g) (close_open b.0.1 f h)
                  | inr c ↦ no_err _ f c.2
                ]
          ]
    ]

pub marked_default : Starts IsMarked []
marked_default = (pair_default.0, pair_default.1, inl pair_default.2)

bare_open : (bytes : List ℕ) (f : Fault) → point_at bytes ≡ Err f → Cut (Starts IsMarked) bytes f
bare_open bytes f e = weaken (Starts IsPair) (Starts IsMarked) bytes f (λ u g. (g.0, g.1, inl g.2)) (point_open bytes f e)

pub marked_open : (bytes : List ℕ) (f : Fault) → marked_at bytes ≡ Err f → Cut (Starts IsMarked) bytes f
marked_open [] f e = bare_open [] f e
marked_open (b ∷ bs) f e =
    elim (chosen (b == 40) _ _ _ e) [
      | inl h ↦ weaken (Starts (IsSingle IsPair)) (Starts IsMarked) (b ∷ bs) f (λ u g. (g.0, g.1, inr g.2)) (single_open (b ∷ bs) f h.1)
      | inr h ↦ bare_open (b ∷ bs) f h.1
    ]

-- ---- lines

-- what may end a list: its parenthesis, or a comma and more members
abbrev Tail : List p.Point → List ℕ → Type 0
Tail [] s = s ≡ 41 ∷ []
Tail (y ∷ ys) s = (others : List ℕ) × (s ≡ 44 ∷ others) × AreMembers IsPair (y ∷ ys) others

-- a front of points behind which any others may follow
record Open (u : List ℕ) : Type 0 where
  first : p.Point
  others : List p.Point
  text : List ℕ
  means : IsPair first text
  more : List ℕ
  goes_on : (ys : List p.Point) (s : List ℕ) → Tail ys s → AreMembers IsPair (first ∷ (others ++ ys)) (u ++ (more ++ s))

tail_on : (x : p.Point) (t u : List ℕ) → IsPair x t → AreBlanks u → (ys : List p.Point) (s : List ℕ) → Tail ys s → AreMembers IsPair (x ∷ ys) (t ++ (u ++ s))
tail_on x t u m h [] s e = (t, u, ap (λ (v : List ℕ). t ++ (u ++ v)) e, m, h)
tail_on x t u m h (y ∷ ys) s e = (t, u, [], e.0, ap (λ (v : List ℕ). t ++ (u ++ v)) e.1, m, h, refl, e.2)

open_begun : (u : List ℕ) → Starts IsPair u → Open u
open_begun u g = record { first = g.1; others = []; text = u ++ g.0; means = g.2; more = g.0; goes_on = λ ys s e. subst (AreMembers IsPair (g.1 ∷ ys)) (append_assoc u g.0 s) (tail_on g.1 (u ++ g.0) [] g.2 refl ys s e) }

open_whole : (x : p.Point) (t u : List ℕ) → IsPair x t → AreBlanks u → Open (t ++ u)
open_whole x t u m h = record { first = x; others = []; text = t; means = m; more = []; goes_on = λ ys s e. subst (AreMembers IsPair (x ∷ ys)) (sym (append_assoc t u s)) (tail_on x t u m h ys s e) }

open_next : (x : p.Point) (t blanks more u : List ℕ) → IsPair x t → AreBlanks blanks → AreBlanks more → Open u → Open (t ++ (blanks ++ 44 ∷ (more ++ u)))
open_next x t blanks more u m h k o = record {
  first = x;
  others = o.first ∷ o.others;
  text = t;
  means = m;
  more = o.more;
  goes_on = λ ys s e. (t, blanks, more, u ++ (o.more ++ s), append_assoc t (blanks ++ 44 ∷ (more ++ u)) (o.more ++ s) ∙ ap (λ (v : List ℕ). t ++ v) (append_assoc blanks (44 ∷ (more ++ u)) (o.more ++ s) ∙ ap (λ (v : List ℕ). blanks ++ 44 ∷ v) (append_assoc more u (o.more ++ s))), m, h, k, o.goes_on ys s e);
}

same_itself : (x : p.Point) → is_same x x ≡ true
same_itself x = ap (λ t. t && int_eq x.y x.y) (int_eq_equiv.refl x.x) ∙ int_eq_equiv.refl x.y

last_of : (x : p.Point) (xs : List p.Point) → slice_get (xs ++ x ∷ x ∷ x ∷ []) (length xs + 2) ≡ Some x
last_of x [] = refl
last_of x (y ∷ xs) =
    let n : length (y ∷ xs) + 2 ≡ suc (length xs + 2) = omega arith in
    ap (slice_get (y ∷ (xs ++ x ∷ x ∷ x ∷ []))) n ∙ last_of x xs

-- with its first point three times behind it, each list is a line and a ring
closed_again : (is_ring : Bool) (x : p.Point) (xs : List p.Point) → keeps is_ring (x ∷ (xs ++ x ∷ x ∷ x ∷ [])) ≡ true
closed_again is_ring x xs = at is_ring
  where
    all : List p.Point
    all = x ∷ (xs ++ x ∷ x ∷ x ∷ [])

    long : length all ≡ length xs + 4
    long = omega (arith, length-append xs (x ∷ x ∷ x ∷ []))

    closed : is_closed all ≡ true
    closed =
        let n : length all - 1 ≡ suc (length xs + 2) = omega (arith, long) in
        ap (λ (k : ℕ). are_same (Some x) (slice_get all k)) n ∙ ap (are_same (Some x)) (last_of x xs) ∙ same_itself x

    at : (r : Bool) → keeps r all ≡ true
    at true = let four : nat_le 4 (length all) ≡ true = grind (arith, nat_tests, long) in ap (λ t. t && is_closed all) four ∙ closed
    at false = grind (arith, nat_tests, long)

line_inside : (is_ring : Bool) (before opened u : List ℕ) → AreBlanks before → AreBlanks opened → Open u → Starts (IsLine is_ring) (before ++ 40 ∷ (opened ++ u))
unfolding start_inside
line_inside is_ring before opened u h k o =
    let x = o.first in
    let s : List ℕ = 44 ∷ (o.text ++ 44 ∷ (o.text ++ 44 ∷ (o.text ++ 41 ∷ []))) in
    let last : AreMembers IsPair (x ∷ []) (o.text ++ 41 ∷ []) = (o.text, [], refl, o.means, refl) in
    let two : AreMembers IsPair (x ∷ x ∷ []) (o.text ++ 44 ∷ (o.text ++ 41 ∷ [])) = (o.text, [], [], o.text ++ 41 ∷ [], refl, o.means, refl, refl, last) in
    let three : AreMembers IsPair (x ∷ x ∷ x ∷ []) (o.text ++ 44 ∷ (o.text ++ 44 ∷ (o.text ++ 41 ∷ []))) = (o.text, [], [], o.text ++ 44 ∷ (o.text ++ 41 ∷ []), refl, o.means, refl, refl, two) in
    let list = start_inside IsPair before opened u h k (o.more ++ s, x ∷ (o.others ++ x ∷ x ∷ x ∷ []), o.goes_on (x ∷ x ∷ x ∷ []) s (_, refl, three)) in
    (list.0, list.1, (list.2, closed_again is_ring x o.others))

open_none : Open []
open_none = open_begun [] pair_default

line_lifts : (is_ring : Bool) → Lifts IsPair (Starts IsPair) Open (Starts (IsLine is_ring)) Never Never Never
line_lifts is_ring = record {
  none = open_none;
  begun = open_begun;
  whole = open_whole;
  next = open_next;
  inside = line_inside is_ring;
  opening = λ u o. opening_starts (IsLine is_ring) u (λ before opened h k. line_inside is_ring before opened [] h k open_none) o;
  deep_begun = λ u x. x;
  deep_next = λ x t blanks more u m h k y. y;
  deep_inside = λ before opened u h k y. y;
}

pub line_default : (is_ring : Bool) → Starts (IsLine is_ring) []
line_default is_ring = (line_lifts is_ring).opening [] (record { tail = 40 ∷ []; before = []; opened = []; parts = refl; blank = (refl, refl) })

-- members without their closing parenthesis
shut_off : (xs : List p.Point) (t : List ℕ) → AreMembers IsPair xs t → (u : List ℕ) × (t ≡ u ++ 41 ∷ []) × Open u
shut_off [] t m = absurd m
shut_off (x ∷ []) t m = (m.0 ++ m.1, m.2 ∙ sym (append_assoc m.0 m.1 (41 ∷ [])), open_whole x m.0 m.1 m.3 m.4)
shut_off (x ∷ y ∷ xs) t m =
    let r = shut_off (y ∷ xs) m.3 m.8 in (
      m.0 ++ (m.1 ++ 44 ∷ (m.2 ++ r.0)),
      m.4 ∙ ap (λ (v : List ℕ). m.0 ++ (m.1 ++ 44 ∷ (m.2 ++ v))) r.1 ∙ ap (λ (v : List ℕ). m.0 ++ v) (ap (λ (v : List ℕ). m.1 ++ 44 ∷ v) (sym (append_assoc m.2 r.0 (41 ∷ []))) ∙ sym (append_assoc m.1 (44 ∷ (m.2 ++ r.0)) (41 ∷ []))) ∙ sym (append_assoc m.0 (m.1 ++ 44 ∷ (m.2 ++ r.0)) (41 ∷ [])),
      open_next x m.0 m.1 m.2 r.0 m.5 m.6 m.7 r.2,
    )

-- a list of points that breaks a rule
abbrev Breaks : (List ℕ → Type 0) → List p.Point → List ℕ → Fault → Type 0
Breaks Good ps left f =
    (c : WktCause) × (◌≡◌ {A = Fault} (record { cause = c; left = length left + 1 }) f) × ((t : List ℕ) → IsList IsPair ps (t ++ 41 ∷ []) → Reason Good Never c 41 t)

few_of : (n : ℕ) (is_ring : Bool) → nat_lt n (cond is_ring 4 2) ≡ true → n < 4
few_of n true h = grind (arith, nat_tests)
few_of n false h = grind (arith, nat_tests)

ruled_breaks : (Good : List ℕ → Type 0) (is_ring : Bool) (ps : List p.Point) (left : List ℕ) (f : Fault) → ruled is_ring ps left ≡ Err f → Breaks Good ps left f
ruled_breaks Good true ps left f e =
    elim (chosen (nat_lt (length ps) 4) _ _ _ e) [
      | inl h ↦ (TooFew, err_is _ f h.1, λ t m. ([], t, refl, (refl, inr (ps, m, few_of (length ps) true h.0))))
      | inr h ↦ elim (chosen (not (is_closed ps)) _ _ _ h.1) [
        | inl k ↦ (Unclosed, err_is _ f k.1, λ t m. ([], t, refl, (refl, ps, m, four (length ps) h.0, unclosed (is_closed ps) k.0)))
        | inr k ↦ no_err _ f k.1
      ]
    ]
  where
    four : (n : ℕ) → nat_lt n 4 ≡ false → 4 ≤ n
    four n h = grind (arith, nat_tests)

    unclosed : (t : Bool) → not t ≡ true → t ≡ false
    unclosed true h = absurd cc
    unclosed false h = refl
ruled_breaks Good false ps left f e =
    elim (chosen (nat_lt (length ps) 2) _ _ _ e) [
      | inl h ↦ (TooFew, err_is _ f h.1, λ t m. ([], t, refl, (refl, inr (ps, m, few_of (length ps) false h.0))))
      | inr h ↦ no_err _ f h.1
    ]

ruled_open : (is_ring : Bool) (ps : List p.Point) (t left bytes : List ℕ) (f : Fault) → bytes ≡ t ++ left → IsList IsPair ps t → ruled is_ring ps left ≡ Err f → Cut (Starts (IsLine is_ring)) bytes f
ruled_open is_ring ps t left bytes f is m e =
    let b = ruled_breaks (Starts (IsLine is_ring)) is_ring ps left f e in
    let s = shut_off ps m.inside m.members in
    let front : List ℕ = m.before ++ 40 ∷ (m.opened ++ s.0) in
    let whole : t ≡ front ++ 41 ∷ [] = m.parts ∙ ap (λ (v : List ℕ). m.before ++ 40 ∷ v) (ap (λ (v : List ℕ). m.opened ++ v) s.1 ∙ sym (append_assoc m.opened s.0 (41 ∷ []))) ∙ sym (append_assoc m.before (40 ∷ (m.opened ++ s.0)) (41 ∷ [])) in
    let long : length left + 1 ≡ suc (length left) = omega arith in
    cut_at (Starts (IsLine is_ring)) b.0 front (41 ∷ left) bytes f (is ∙ ap (λ (v : List ℕ). v ++ left) whole ∙ append_assoc front (41 ∷ []) left)
    (ap (λ (n : ℕ). record { cause = b.0; left = n }) (sym long) ∙ b.1)
    (line_inside is_ring m.before m.opened s.0 m.blank.0 m.blank.1 s.2)
    (b.2 front (subst (IsList IsPair ps) whole m))

pub line_open : (is_ring : Bool) (bytes : List ℕ) (f : Fault) → line_at is_ring bytes ≡ Err f → Cut (Starts (IsLine is_ring)) bytes f
unfolding line_at
line_open is_ring bytes f e =
    elim (bind_err (list_at TooFew point_at bytes) _ f e) [
      | inl h ↦ list_open IsPair point_at point_sound (Starts IsPair) Open (Starts (IsLine is_ring)) Never Never Never (line_lifts is_ring) point_open TooFew says_few bytes f h
      | inr a ↦ let t = list_sound IsPair point_at point_sound TooFew bytes a.0.0 a.0.1 a.1 in
          ruled_open is_ring a.0.0 t.text a.0.1 bytes f t.parts t.means a.2
    ]

-- ---- lists of these

pub list_starts : {X : Type 0} (Lang : X → List ℕ → Type 0) (item : List ℕ → Outcome X) → IsSound Lang item → Starts Lang [] → ((bytes : List ℕ) (f : Fault) → item bytes ≡ Err f → Cut (Starts Lang) bytes f) → (bytes : List ℕ) (f : Fault) → list_at Empty item bytes ≡ Err f → Cut (Starts (IsList Lang)) bytes f
list_starts Lang item sound default opens = list_open Lang item sound (Starts Lang) (Starts (AreMembers Lang)) (Starts (IsList Lang)) Never Never Never (starts_lifts Lang default) opens Empty says_empty

pub lines_default : (are_rings : Bool) → Starts (AreLines are_rings) []
lines_default are_rings = list_default (IsLine are_rings) (line_default are_rings)

pub lines_open : (are_rings : Bool) (bytes : List ℕ) (f : Fault) → lines_at are_rings bytes ≡ Err f → Cut (Starts (AreLines are_rings)) bytes f
lines_open are_rings = list_starts (IsLine are_rings) (line_at are_rings) (line_sound are_rings) (line_default are_rings) (line_open are_rings)
