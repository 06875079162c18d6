-- The place of a fault is the longest front that goes on, and the cause says what is true of the bytes there.
use Rattle.std.proofs.Common.{◌≡◌, ℕ, ◌+◌, ◌-◌, ◌<◌, ◌≤◌, ◌==◌, ◌&&◌, nat_le, not, Bool, true, false, ◌⊎◌, inl, inr, ◌↔◌, List, [], ◌∷◌, ◌++◌, length, take, drop, map, Option, Some, None, Ok, Err, refl, sym, ap, subst, ◌∙◌, append_assoc, arith, length-append}
use Rattle.std.specs.List.{list_all}
use Rattle.std.proofs.lemmas.Bool.{cases_lt, and_parts}
use Rattle.std.proofs.lemmas.List.{append-nil, take-append-drop, take-take, take_at, drop_at}
use Rattle.std.proofs.lemmas.List.Folds.{list_all-append}
use Rattle.isp_geom.specs.declared.form.Form.{Form}
use Rattle.isp_wkt.specs.declared.cause.WktCause.{WktCause}
use Rattle.isp_wkt.specs.declared.cause.WktCause.TheVariants.{Truncated, NotWhole, OutOfRange, TooDeep, TooFew, Unclosed, Empty, Trailing, Unknown}
use Rattle.isp_wkt.specs.declared.cause.Fault.{Fault}
use Rattle.isp_wkt.specs.declared.kind.Kind.TheVariants as kind
use Rattle.isp_wkt.specs.Words.{word, upper}
use Rattle.isp_wkt.specs.Grammar.{AreBlanks, IsTextOf, IsText}
use Rattle.isp_wkt.specs.Faults.{Begins, GoesOn, IsFaultPlace, IsCollectionWord, EndsInNinth, IsCause}
use Rattle.isp_wkt.specs.Reading.{Outcome, is_blank, text_at, fault_in, fault_of}
use Rattle.isp_wkt.proofs.Sound.{is_it}
use Rattle.isp_wkt.proofs.SoundForms.{text_of, text_sound_of, text_sound}
use Rattle.isp_wkt.proofs.CompleteForms.{text_again, text_behind, no_fault}
use Rattle.isp_wkt.proofs.LocalForms.{front_before, front_behind}
use Rattle.isp_wkt.proofs.Opens.{err_is, Why, Fall, shorter}
use Rattle.isp_wkt.proofs.OpensForms.{text_more, TextGoes, Behind, text_open}
use Rattle.isp_wkt.proofs.Deeper.{Agrees, text_agrees}
use Rattle.isp_wkt.proofs.Stops.{stops_of, text_is, faulty}

-- ---- the word of a collection has no parenthesis

abbrev is_plain : ℕ → Bool
is_plain b = not (b == 40)

big_plain : (b c : ℕ) → upper b ≡ c → nat_le 65 c ≡ true → is_plain b ≡ true
big_plain b c e h = at (b == 40) refl
  where
    at : (t : Bool) → (b == 40) ≡ t → not t ≡ true
    at true k = let no : nat_le 65 (upper 40) ≡ true = ap (λ (a : ℕ). nat_le 65 (upper a)) (sym (is_it b 40 k)) ∙ ap (nat_le 65) e ∙ h in absurd cc
    at false k = refl

head_is : (b c : ℕ) (u v : List ℕ) → ◌≡◌ {A = List ℕ} (b ∷ u) (c ∷ v) → b ≡ c
head_is b c u v e = cc

tail_is : (b c : ℕ) (u v : List ℕ) → ◌≡◌ {A = List ℕ} (b ∷ u) (c ∷ v) → u ≡ v
tail_is b c u v e = cc

front_plain : (front more w : List ℕ) → map upper front ++ more ≡ w → list_all (λ b. nat_le 65 b) w ≡ true → list_all is_plain front ≡ true
front_plain [] more w e h = refl
front_plain (b ∷ front) more [] e h = absurd (omega (arith, ap length e))
front_plain (b ∷ front) more (c ∷ w) e h =
    let both = and_parts (nat_le 65 c) (list_all (λ b. nat_le 65 b) w) h in
    ap (λ t. t && list_all is_plain front) (big_plain b c (head_is (upper b) c (map upper front ++ more) w e) both.0) ∙ front_plain front more w (tail_is (upper b) c (map upper front ++ more) w e) both.1

blank_plain : (b : ℕ) → is_blank b ≡ true → is_plain b ≡ true
blank_plain b h = at (b == 40) refl
  where
    at : (t : Bool) → (b == 40) ≡ t → not t ≡ true
    at true k = let no : is_blank 40 ≡ true = ap is_blank (sym (is_it b 40 k)) ∙ h in absurd cc
    at false k = refl

blanks_plain : (blanks : List ℕ) → AreBlanks blanks → list_all is_plain blanks ≡ true
blanks_plain [] h = refl
blanks_plain (b ∷ blanks) h =
    let both = and_parts (is_blank b) (list_all is_blank blanks) h in
    ap (λ t. t && list_all is_plain blanks) (blank_plain b both.0) ∙ blanks_plain blanks both.1

letters : list_all (λ b. nat_le 65 b) (word kind.Collection) ≡ true
unfolding word
letters = refl

no_paren : (v a c : List ℕ) → IsCollectionWord v → v ≡ a ++ 40 ∷ c → ⊥
no_paren v a c w e =
    let whole : list_all is_plain (w.front ++ w.blanks) ≡ true = list_all-append is_plain w.front w.blanks ∙ ap (λ t. t && list_all is_plain w.blanks) (front_plain w.front w.more (word kind.Collection) w.spells letters) ∙ blanks_plain w.blanks w.blank in
    let parts : (list_all is_plain a && list_all is_plain (40 ∷ c)) ≡ true = sym (list_all-append is_plain a (40 ∷ c)) ∙ ap (list_all is_plain) (sym e ∙ w.parts) ∙ whole in
    let no : list_all is_plain (40 ∷ c) ≡ true = (and_parts (list_all is_plain a) (list_all is_plain (40 ∷ c)) parts).1 in
    absurd cc

-- ---- fronts that go on

begins_shorter : (levels : ℕ) (u v : List ℕ) → Begins levels (u ++ v) → Begins levels u
begins_shorter levels u v g = shorter (IsTextOf levels) u v g

pub shorter_goes : (u v : List ℕ) → GoesOn (u ++ v) → GoesOn u
shorter_goes u v g = record {
  begins = begins_shorter 10 u v g.begins;
  opened = λ part rest e. g.opened part (rest ++ v) (ap (λ (t : List ℕ). t ++ v) e ∙ append_assoc part (40 ∷ rest) v);
}

one_part : (part rest : List ℕ) → part ++ 40 ∷ rest ≡ (part ++ 40 ∷ []) ++ rest
one_part part rest = sym (append_assoc part (40 ∷ []) rest)

pub goes_on : (front : List ℕ) → TextGoes 8 front → GoesOn front
goes_on front (inl g) = record {
  begins = (g.0, g.1, text_more 9 g.1 (front ++ g.0) g.2);
  opened = λ part rest e. begins_shorter 9 (part ++ 40 ∷ []) rest (subst (Begins 9) (e ∙ one_part part rest) g);
}
goes_on front (inr y) = record { begins = y.5; opened = opened }
  where
    opened : (part rest : List ℕ) → front ≡ part ++ 40 ∷ rest → Begins 9 (part ++ 40 ∷ [])
    opened part rest e =
        let same : part ++ 40 ∷ rest ≡ y.0 ++ y.1 = sym e ∙ y.2 in
        elim (cases_lt (length rest) (length y.1)) [
          | inl lt ↦ let r = front_before 40 part y.0 rest y.1 same (omega arith) in absurd (no_paren y.1 r.0 rest y.4 r.2)
          | inr le ↦ let r = front_behind 40 part y.0 rest y.1 same le in begins_shorter 9 (part ++ 40 ∷ []) r.0 (subst (Begins 9) (r.1 ∙ one_part part r.0) y.3)
        ]

-- ---- the byte at a fault

-- nothing goes on behind it
stops_byte : (front rest : List ℕ) (b : ℕ) (f : Fault) → text_of 8 (front ++ b ∷ rest) ≡ Err f → length (b ∷ rest) ≡ f.left → IsCause f.cause front (b ∷ rest) → GoesOn (front ++ b ∷ []) → ⊥
stops_byte front rest b f e long cause g = at (text_agrees 8 (front ++ b ∷ rest))
  where
    le : length (b ∷ rest) ≤ f.left
    le = omega (arith, long)

    deep : f.cause ≡ TooDeep → ⊥
    deep is =
        let why : IsCause TooDeep front (b ∷ rest) = subst (λ (c : WktCause). IsCause c front (b ∷ rest)) is cause in
        let part = g.opened front [] (ap (λ (a : ℕ). front ++ a ∷ []) why.0) in
        stops_of 8 front rest part.0 b f part.1 e le (subst (λ (a : ℕ). IsTextOf 9 part.1 ((front ++ a ∷ []) ++ part.0)) (sym why.0) part.2)

    at : Agrees (text_of 8 (front ++ b ∷ rest)) (text_of 9 (front ++ b ∷ rest)) → ⊥
    at (inl same) = stops_of 9 front rest g.begins.0 b f g.begins.1 (sym same ∙ e) le g.begins.2
    at (inr y) = deep (ap (λ (h : Fault). h.cause) (err_is f y.0 (sym e ∙ y.1)) ∙ y.2)

-- ---- where a fault stands

-- a text by the place of its fault
pub record Placed (text : List ℕ) (f : Fault) : Type 0 where
  pub front : List ℕ
  pub rest : List ℕ
  pub parts : text ≡ front ++ rest
  pub long : length rest ≡ f.left
  pub goes : TextGoes 8 front
  pub cause : IsCause f.cause front rest

deep_begins : (front : List ℕ) → TextGoes 8 front ⊎ Begins 10 front → Begins 10 front
deep_begins front (inl g) = (goes_on front g).begins
deep_begins front (inr g) = g

as_cause : (c : WktCause) (front rest : List ℕ) → Why (TextGoes 8) (Begins 10) c front rest → IsCause c front rest
as_cause c front [] w = w
as_cause Truncated front (b ∷ rest) w = w
as_cause NotWhole front (b ∷ rest) w = w
as_cause OutOfRange front (b ∷ rest) w = w
as_cause TooDeep front (b ∷ rest) w = w
as_cause TooFew front (b ∷ rest) w = w
as_cause Unclosed front (b ∷ rest) w = w
as_cause Empty front (b ∷ rest) (inl w) = inl (w.0, deep_begins (front ++ 40 ∷ []) w.1)
as_cause Empty front (b ∷ rest) (inr w) = inr w
as_cause Trailing front (b ∷ rest) w = absurd w
as_cause Unknown front (b ∷ rest) w = w

pub placed : (text : List ℕ) (f : Fault) → text_of 8 text ≡ Err f → Placed text f
placed text f e = at (text_open 8 text f e)
  where
    at : Fall (TextGoes 8) (Begins 10) text f ⊎ Behind 8 text f → Placed text f
    at (inl c) = record { front = c.front; rest = c.rest; parts = c.parts; long = c.long; goes = c.good; cause = as_cause f.cause c.front c.rest c.why }
    at (inr c) = record {
      front = c.front;
      rest = c.byte ∷ c.rest;
      parts = c.parts;
      long = ap (λ (h : Fault). h.left) c.is;
      goes = inl ([], c.form, subst (IsTextOf 9 c.form) (sym (append-nil c.front)) c.means);
      cause = subst (λ (h : Fault). IsCause h.cause c.front (c.byte ∷ c.rest)) c.is (c.other, c.form, c.means);
    }

placed_at : (text : List ℕ) (f : Fault) (at : ℕ) (p : Placed text f) → length text - f.left ≡ at → length p.front ≡ at
placed_at text f at p e = omega (arith, ap length p.parts, length-append p.front p.rest, p.long)

front_is : (text : List ℕ) (f : Fault) (at : ℕ) (p : Placed text f) → length p.front ≡ at → take at text ≡ p.front
front_is text f at p e = ap (take at) p.parts ∙ take_at p.front p.rest at e

rest_is : (text : List ℕ) (f : Fault) (at : ℕ) (p : Placed text f) → length p.front ≡ at → drop at text ≡ p.rest
rest_is text f at p e = ap (drop at) p.parts ∙ drop_at p.front p.rest at e

-- the byte behind the front
placed_stops : (text : List ℕ) (f : Fault) (at : ℕ) (front rest : List ℕ) → text_of 8 text ≡ Err f → text ≡ front ++ rest → length rest ≡ f.left → IsCause f.cause front rest → length front ≡ at → at < length text → GoesOn (take (at + 1) text) → ⊥
placed_stops text f at front [] e parts long cause is lt g = absurd (omega (arith, ap length parts, length-append front []))
placed_stops text f at front (b ∷ rest) e parts long cause is lt g =
    let one : length (front ++ b ∷ []) ≡ at + 1 = omega (arith, length-append front (b ∷ [])) in
    let taken : take (at + 1) text ≡ front ++ b ∷ [] = ap (take (at + 1)) (parts ∙ sym (append_assoc front (b ∷ []) rest)) ∙ take_at (front ++ b ∷ []) rest (at + 1) one in
    stops_byte front rest b f (ap (text_of 8) (sym parts) ∙ e) long cause (subst GoesOn taken g)

pub fault_place : (text : List ℕ) (cause : WktCause) (at : ℕ) → fault_of text ≡ Some (cause, at) → IsFaultPlace text at
fault_place text cause at h =
    let f = faulty text cause at (text_at text) refl h in
    let e : text_of 8 text ≡ Err f.0 = sym (text_is text) ∙ f.1 in
    let p = placed text f.0 e in
    let is : length p.front ≡ at = placed_at text f.0 at p f.2 in
    record {
      outside = λ form m. no_fault f.0 form text f.1 m;
      within = omega (arith, ap length p.parts, length-append p.front p.rest, is);
      before = subst GoesOn (sym (front_is text f.0 at p is)) (goes_on p.front p.goes);
      stops = placed_stops text f.0 at p.front p.rest e p.parts p.long p.cause is;
    }

pub fault_cause : (text : List ℕ) (cause : WktCause) (at : ℕ) → fault_of text ≡ Some (cause, at) → IsCause cause (take at text) (drop at text)
fault_cause text cause at h =
    let f = faulty text cause at (text_at text) refl h in
    let p = placed text f.0 (sym (text_is text) ∙ f.1) in
    let is : length p.front ≡ at = placed_at text f.0 at p f.2 in
    subst (λ (t : List ℕ). IsCause cause t (drop at text)) (sym (front_is text f.0 at p is)) (subst (IsCause cause p.front) (sym (rest_is text f.0 at p is)) (subst (λ (c : WktCause). IsCause c p.front p.rest) f.3 p.cause))

-- ---- the longest front

pub longest_front : (text : List ℕ) (at n : ℕ) → IsFaultPlace text at → n ≤ length text → GoesOn (take n text) → n ≤ at
longest_front text at n p le g =
    elim (cases_lt at n) [
      | inl lt ↦
          let parts : take n text ≡ take (at + 1) text ++ drop (at + 1) (take n text) = sym (take-append-drop (at + 1) (take n text)) ∙ ap (λ (t : List ℕ). t ++ drop (at + 1) (take n text)) (take-take (at + 1) n text (omega arith)) in
          absurd (p.stops (omega arith) (shorter_goes (take (at + 1) text) (drop (at + 1) (take n text)) (subst GoesOn parts g)))
      | inr ge ↦ ge
    ]

pub one_place : (text : List ℕ) (a b : ℕ) → IsFaultPlace text a → IsFaultPlace text b → a ≡ b
one_place text a b p q = omega (arith, longest_front text a b p q.within q.before, longest_front text b a q p.within p.before)

-- ---- what goes on

pub fronts_go_on : (front : List ℕ) → GoesOn front ↔ (Begins 9 front ⊎ EndsInNinth front)
fronts_go_on front = (there (text_of 8 front) refl, back)
  where
    ended : (t : List ℕ) (rest : List ℕ) (f : Fault) → text_of 8 front ≡ Err f → front ≡ t ++ rest → length rest ≡ f.left → IsCause f.cause t rest → GoesOn front → rest ≡ []
    ended t [] f e parts long cause g = refl
    ended t (b ∷ rest) f e parts long cause g = absurd (stops_byte t rest b f (ap (text_of 8) (sym parts) ∙ e) long cause (shorter_goes (t ++ b ∷ []) rest (subst GoesOn (parts ∙ sym (append_assoc t (b ∷ []) rest)) g)))

    either : TextGoes 8 front → Begins 9 front ⊎ EndsInNinth front
    either (inl g) = inl g
    either (inr y) = inr (record { part = y.0; ninth = y.1; parts = y.2; goes_on = y.3; spells = y.4; deeper = y.5 })

    there : (o : Outcome Form) → text_of 8 front ≡ o → GoesOn front → Begins 9 front ⊎ EndsInNinth front
    there (Ok x) e g = inl ([], x.0, subst (IsTextOf 9 x.0) (sym (append-nil front)) (text_sound_of 8 front x.0 x.1 e))
    there (Err f) e g =
        let p = placed front f e in
        let whole : front ≡ p.front = p.parts ∙ ap (λ (t : List ℕ). p.front ++ t) (ended p.front p.rest f e p.parts p.long p.cause g) ∙ append-nil p.front in
        either (subst (TextGoes 8) (sym whole) p.goes)

    back : Begins 9 front ⊎ EndsInNinth front → GoesOn front
    back (inl g) = goes_on front (inl g)
    back (inr n) = goes_on front (inr (n.part, n.ninth, n.parts, n.goes_on, n.spells, n.deeper))

pub faults_outside : (text : List ℕ) → (fault_of text ≡ None) ↔ ((form : Form) × IsText form text)
faults_outside text = (there (text_at text) refl, λ m. ap (fault_in (length text)) (text_again m.0 text m.1))
  where
    there : (o : Outcome Form) → text_at text ≡ o → fault_of text ≡ None → (form : Form) × IsText form text
    there (Ok x) e h = (x.0, text_sound text x.0 x.1 e)
    there (Err f) e h = let no : ◌≡◌ {A = Option (WktCause × ℕ)} (Some (f.cause, length text - f.left)) None = ap (fault_in (length text)) (sym e) ∙ h in absurd cc

-- ---- causes from what stands there

-- a text that ends too early
pub ends_early : (text : List ℕ) → GoesOn text → ((form : Form) → IsText form text → ⊥) → fault_of text ≡ Some (Truncated, length text)
ends_early text g outside = at (text_at text) refl
  where
    at : (o : Outcome Form) → text_at text ≡ o → fault_of text ≡ Some (Truncated, length text)
    at (Ok x) e = absurd (outside x.0 (text_sound text x.0 x.1 e))
    at (Err f) e =
        let h : fault_of text ≡ Some (f.cause, length text - f.left) = ap (fault_in (length text)) e in
        let p = fault_place text f.cause (length text - f.left) h in
        let whole : take (length text) text ≡ text = ap (take (length text)) (sym (append-nil text)) ∙ take_at text [] (length text) refl in
        let end : length text - f.left ≡ length text = omega (arith, longest_front text (length text - f.left) (length text) p (omega arith) (subst GoesOn (sym whole) g), p.within) in
        let rest : drop (length text) text ≡ [] = ap (drop (length text)) (sym (append-nil text)) ∙ drop_at text [] (length text) refl in
        let why : IsCause f.cause (take (length text) text) (drop (length text) text) = subst (λ (n : ℕ). IsCause f.cause (take n text) (drop n text)) end (fault_cause text f.cause (length text - f.left) h) in
        let cause : IsCause f.cause (take (length text) text) [] = subst (IsCause f.cause (take (length text) text)) rest why in
        h ∙ ap (λ (c : WktCause). Some (c, length text - f.left)) cause ∙ ap (λ (n : ℕ). Some (Truncated, n)) end

-- a byte at a fault that goes on where one level more is allowed
pub goes_deeper : (text : List ℕ) (cause : WktCause) (at : ℕ) → fault_of text ≡ Some (cause, at) → at < length text → Begins 10 (take (at + 1) text) → cause ≡ TooDeep
goes_deeper text cause at h lt g =
    let f = faulty text cause at (text_at text) refl h in
    let e : text_of 8 text ≡ Err f.0 = sym (text_is text) ∙ f.1 in
    let p = placed text f.0 e in
    sym f.3 ∙ by f.0 p.front p.rest e p.parts p.long (placed_at text f.0 at p f.2) (text_agrees 8 text)
  where
    by : (f : Fault) (front rest : List ℕ) → text_of 8 text ≡ Err f → text ≡ front ++ rest → length rest ≡ f.left → length front ≡ at → Agrees (text_of 8 text) (text_of 9 text) → f.cause ≡ TooDeep
    by f front [] e parts long is a = absurd (omega (arith, ap length parts, length-append front []))
    by f front (b ∷ rest) e parts long is (inr y) = ap (λ (h : Fault). h.cause) (err_is f y.0 (sym e ∙ y.1)) ∙ y.2
    by f front (b ∷ rest) e parts long is (inl same) =
        let one : length (front ++ b ∷ []) ≡ at + 1 = omega (arith, length-append front (b ∷ [])) in
        let taken : take (at + 1) text ≡ front ++ b ∷ [] = ap (take (at + 1)) (parts ∙ sym (append_assoc front (b ∷ []) rest)) ∙ take_at (front ++ b ∷ []) rest (at + 1) one in
        let k : Begins 10 (front ++ b ∷ []) = subst (Begins 10) taken g in
        absurd (stops_of 9 front rest k.0 b f k.1 (ap (text_of 9) (sym parts) ∙ sym same ∙ e) (omega (arith, long)) k.2)

pub stands_behind : (form : Form) (front rest : List ℕ) (b : ℕ) → IsText form front → is_blank b ≡ false → fault_of (front ++ b ∷ rest) ≡ Some (Trailing, length front)
stands_behind form front rest b m h =
    let at : length (front ++ b ∷ rest) - length (b ∷ rest) ≡ length front = omega (arith, length-append front (b ∷ rest)) in
    ap (fault_in (length (front ++ b ∷ rest))) (text_behind form front rest b m h) ∙ ap (λ (n : ℕ). Some (Trailing, n)) at

-- what a text that has this fault is answered
pub stands : (text : List ℕ) (f : Fault) (at : ℕ) → text_at text ≡ Err f → at ≡ length text - f.left → IsFaultPlace text at × IsCause f.cause (take at text) (drop at text)
stands text f at e is =
    let h : fault_of text ≡ Some (f.cause, at) = ap (fault_in (length text)) e ∙ ap (λ (n : ℕ). Some (f.cause, n)) (sym is) in
    (fault_place text f.cause at h, fault_cause text f.cause at h)
