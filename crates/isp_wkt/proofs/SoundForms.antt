-- A form that is read is one that the text means, and what a short text means keeps the rules.
use Rattle.std.proofs.Common.{◌≡◌, ℕ, zero, suc, true, false, List, [], ◌∷◌, ◌++◌, map, Result, Ok, Err, refl, sym, ap, subst, ◌∙◌, append_assoc}
use Rattle.std.proofs.lemmas.List.{append-nil}
use Rattle.isp_geom.specs.declared.form.Form.{Form, Form-F, out-Form, roll-Form, out-roll-Form}
use Rattle.isp_geom.specs.declared.form.Form.TheVariants.{Point, LineString, Polygon, MultiPoint, MultiLineString, MultiPolygon, Collection, rolls-Point, rolls-LineString, rolls-Polygon, rolls-MultiPoint, rolls-MultiLineString, rolls-MultiPolygon, rolls-Collection}
use Rattle.isp_wkt.specs.declared.cause.Fault.{Fault}
use Rattle.isp_wkt.specs.declared.cause.WktCause.TheVariants.{Empty, TooDeep}
use Rattle.isp_wkt.specs.declared.kind.Kind.{Kind}
use Rattle.isp_wkt.specs.declared.kind.Kind.TheVariants as kind
use Rattle.isp_wkt.specs.Words.{word, upper}
use Rattle.isp_wkt.specs.Grammar.{IsSingle, IsPair, IsList, IsLine, AreLines, IsMarked, IsWorded, IsLevel, Means, IsTextOf, IsText}
use Rattle.isp_wkt.specs.Reading.{◌>>=◌, Outcome, kinds, word_in, skipped, made, body_at, geometry_at, members_at, deep_at, deep_paren_at, list_at, single_at, line_at, lines_at, marked_at, rest_at, text_at, fault}
use Rattle.isp_wkt.proofs.Sound.{bind_ok, ok_parts, Took, IsSound, skipped_back, list_sound, single_sound, marked_sound, line_sound, lines_sound, word_sound}

never : {A P : Type 0} (f : Fault) (x : A) → ◌≡◌ {A = Result A Fault} (Err f) (Ok x) → P
never f x e = absurd cc

-- one level of a form that is given by its parts
pub Means-roll : (levels : ℕ) (x : Form-F Form) (f : Form) (text : List ℕ) → roll-Form x ≡ f → IsLevel (Means levels) x text → Means (suc levels) f text
unfolding Means
Means-roll levels x f text e h = subst (λ (y : Form-F Form). IsLevel (Means levels) y text) (sym (ap out-Form (sym e) ∙ out-roll-Form x)) h

module _ (levels : ℕ) where
  worded : {X : Type 0} (Lang : X → List ℕ → Type 0) (item : List ℕ → Outcome X) (w : List ℕ) (form : X → Form) → IsSound Lang item
      → ((x : X) (text : List ℕ) → IsWorded w (Lang x) text → Means (suc levels) (form x) text)
      → (front bytes left : List ℕ) → bytes ≡ front ++ left → map upper front ≡ w → (f : Form) (rest : List ℕ) → made form (item left) ≡ Ok (f, rest) → Took (Means (suc levels)) bytes f rest
  worded {X} Lang item w form sound level front bytes left is spells f rest e =
      let b = bind_ok (item left) _ _ e in
      let t = sound left b.0.0 b.0.1 b.1 in
      let q = ok_parts (form b.0.0) f b.0.1 rest b.2 in
      let taken : Took (Means (suc levels)) bytes (form b.0.0) b.0.1 = record {
        text = front ++ t.text;
        parts = is ∙ ap (λ (u : List ℕ). front ++ u) t.parts ∙ sym (append_assoc front t.text b.0.1);
        means = level b.0.0 (front ++ t.text) (front, t.text, refl, spells, t.means);
      } in
      subst (λ (a : List ℕ). Took (Means (suc levels)) bytes f a) q.1 (subst (λ (a : Form). Took (Means (suc levels)) bytes a b.0.1) q.0 taken)

  module _ (members : List ℕ → Outcome (List Form)) (sound : IsSound (IsList (Means levels)) members) where
    body_sound : (k : Kind) (front bytes left : List ℕ) → bytes ≡ front ++ left → map upper front ≡ word k → (f : Form) (rest : List ℕ) → body_at members k left ≡ Ok (f, rest) → Took (Means (suc levels)) bytes f rest
    body_sound kind.Point front bytes left is spells f rest e = worded (IsSingle IsPair) single_at (word kind.Point) Point single_sound (λ x text h. Means-roll levels (Form-F.Point x) (Point x) text (rolls-Point x) h) front bytes left is spells f rest e
    body_sound kind.LineString front bytes left is spells f rest e = worded (IsLine false) (line_at false) (word kind.LineString) LineString (line_sound false) (λ x text h. Means-roll levels (Form-F.LineString x) (LineString x) text (rolls-LineString x) h) front bytes left is spells f rest e
    body_sound kind.Polygon front bytes left is spells f rest e = worded (AreLines true) (lines_at true) (word kind.Polygon) Polygon (lines_sound true) (λ x text h. Means-roll levels (Form-F.Polygon x) (Polygon x) text (rolls-Polygon x) h) front bytes left is spells f rest e
    body_sound kind.MultiPoint front bytes left is spells f rest e = worded (IsList IsMarked) (list_at Empty marked_at) (word kind.MultiPoint) MultiPoint (list_sound IsMarked marked_at marked_sound Empty) (λ x text h. Means-roll levels (Form-F.MultiPoint x) (MultiPoint x) text (rolls-MultiPoint x) h) front bytes left is spells f rest e
    body_sound kind.MultiLineString front bytes left is spells f rest e = worded (AreLines false) (lines_at false) (word kind.MultiLineString) MultiLineString (lines_sound false) (λ x text h. Means-roll levels (Form-F.MultiLineString x) (MultiLineString x) text (rolls-MultiLineString x) h) front bytes left is spells f rest e
    body_sound kind.MultiPolygon front bytes left is spells f rest e = worded (IsList (AreLines true)) (list_at Empty (lines_at true)) (word kind.MultiPolygon) MultiPolygon (list_sound (AreLines true) (lines_at true) (lines_sound true) Empty) (λ x text h. Means-roll levels (Form-F.MultiPolygon x) (MultiPolygon x) text (rolls-MultiPolygon x) h) front bytes left is spells f rest e
    body_sound kind.Collection front bytes left is spells f rest e = worded (IsList (Means levels)) members (word kind.Collection) Collection sound (λ x text h. Means-roll levels (Form-F.Collection x) (Collection x) text (rolls-Collection x) h) front bytes left is spells f rest e

    pub geometry_sound : IsSound (Means (suc levels)) (geometry_at members)
    unfolding geometry_at
    geometry_sound bytes f rest e =
        let b = bind_ok (word_in kinds 0 bytes) _ _ e in
        let w = word_sound kinds 0 bytes b.0.0 b.0.1 b.1 in
        body_sound b.0.0 w.0 bytes b.0.1 w.1 w.2 f rest b.2

-- the ninth collection is never read
deep_never : {P : Type 0} (bytes : List ℕ) (ms : List Form) (rest : List ℕ) → deep_at bytes ≡ Ok (ms, rest) → P
deep_never {P = P} bytes ms rest e = at (deep_paren_at (skipped bytes)) e
  where
    at : (r : Outcome (Unit {0})) → ◌≡◌ {A = Outcome (List Form)} (r >>= λ opened. fault TooDeep opened.1) (Ok (ms, rest)) → P
    at (Ok x) e = never _ _ e
    at (Err f) e = never _ _ e

none_sound : IsSound (IsList (Means 0)) (members_at 0)
unfolding members_at
none_sound bytes ms rest e = deep_never bytes ms rest e

some_sound : (depth : ℕ) → IsSound (IsList (Means depth)) (members_at depth) → IsSound (IsList (Means (suc depth))) (members_at (suc depth))
unfolding members_at
some_sound depth below = list_sound (Means (suc depth)) (geometry_at (members_at depth)) (geometry_sound depth (members_at depth) below) Empty

pub members_sound : (depth : ℕ) → IsSound (IsList (Means depth)) (members_at depth)
members_sound zero = none_sound
members_sound (suc depth) = some_sound depth (members_sound depth)

rest_back : (form f : Form) (left rest : List ℕ) → rest_at form left ≡ Ok (f, rest) → (form ≡ f) × (left ≡ [])
rest_back form f [] rest e = ((ok_parts form f [] rest e).0, refl)
rest_back form f (b ∷ left) rest e = never _ _ e

-- a text that is read with so many collections in one another
abbrev pub text_of : ℕ → List ℕ → Outcome Form
text_of depth text = geometry_at (members_at depth) (skipped text) >>= λ form. rest_at form.0 (skipped form.1)

pub text_sound_of : (depth : ℕ) (text : List ℕ) (f : Form) (rest : List ℕ) → text_of depth text ≡ Ok (f, rest) → IsTextOf (suc depth) f text
text_sound_of depth text f rest e =
    let r = skipped_back text in
    let b = bind_ok (geometry_at (members_at depth) (skipped text)) _ _ e in
    let t = geometry_sound depth (members_at depth) (members_sound depth) (skipped text) b.0.0 b.0.1 b.1 in
    let s = skipped_back b.0.1 in
    let q = rest_back b.0.0 f (skipped b.0.1) rest b.2 in
    let end : b.0.1 ≡ s.0 = s.1 ∙ ap (λ (u : List ℕ). s.0 ++ u) q.1 ∙ append-nil s.0 in
    record {
      before = r.0;
      body = t.text;
      after = s.0;
      parts = r.1 ∙ ap (λ (u : List ℕ). r.0 ++ u) (t.parts ∙ ap (λ (u : List ℕ). t.text ++ u) end);
      blank = (r.2, s.2);
      means = subst (λ (g : Form). Means (suc depth) g t.text) q.0 t.means;
    }

pub text_sound : (text : List ℕ) (f : Form) (rest : List ℕ) → text_at text ≡ Ok (f, rest) → IsText f text
unfolding text_at
text_sound text f rest e = text_sound_of 8 text f rest e
