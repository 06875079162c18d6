-- Forms are read as they are spelled, and no spelling begins another.
use Rattle.std.proofs.Common.{◌≡◌, ℕ, zero, suc, ◌==◌, Bool, true, false, cond, ◌⊎◌, inl, inr, List, [], ◌∷◌, ◌++◌, Option, Some, None, refl, sym, ap, subst, ◌∙◌, arith}
use Rattle.std.proofs.lemmas.Bool.{and_parts}
use Rattle.std.proofs.lemmas.Bool.Decides.{nat_tests}
use Rattle.isp_geom.specs.declared.form.Point as p
use Rattle.isp_geom.specs.declared.form.Form.{Form, Form-F, out-Form, roll-Form, roll-out-Form}
use Rattle.isp_geom.specs.declared.form.Form.TheVariants.{Point, LineString, Polygon, MultiPoint, MultiLineString, MultiPolygon, Collection, rolls-Point, rolls-LineString, rolls-Polygon, rolls-MultiPoint, rolls-MultiLineString, rolls-MultiPolygon, rolls-Collection}
use Rattle.isp_geom.specs.Rules.{is_form, is_level, is_list, is_point, is_points, is_line, is_ring, is_closed, is_polygon}
use Rattle.isp_geom.specs.Spelling.{spelling, point, points, rings, polygons, listed}
use Rattle.isp_geom.specs.Reading.{point_at, points_at, rings_at, polygons_at, list_at, made, body_at, form_at}
use Rattle.isp_geom.proofs.Levels.{is_form-roll}
use Rattle.isp_geom.proofs.Readers.{IsBytes, IsBytes-rest, Takes, IsReader, point_reader, list_reader, stronger, bind_some, some_is}
use Rattle.isp_geom.proofs.Spellings.{spelling-point, spelling-line, spelling-polygon, spelling-points, spelling-lines, spelling-polygons, spelling-members}

points_reader : IsReader (List p.Point) points is_points points_at
points_reader = list_reader point is_point point_at point_reader 1

line_reader : IsReader (List p.Point) points is_line points_at
line_reader = list_reader point is_point point_at point_reader 2

ring_reader : IsReader (List p.Point) points is_ring points_at
ring_reader = stronger points (is_list is_point 4) is_ring points_at (list_reader point is_point point_at point_reader 4) (λ ps h. (and_parts (is_list is_point 4 ps) (is_closed ps) h).0)

polygon_reader : IsReader (List (List p.Point)) rings is_polygon rings_at
polygon_reader = list_reader points is_ring points_at ring_reader 1

lines_reader : IsReader (List (List p.Point)) rings (is_list is_line 1) rings_at
lines_reader = list_reader points is_line points_at line_reader 1

polygons_reader : IsReader (List (List (List p.Point))) polygons (is_list is_polygon 1) polygons_at
polygons_reader = list_reader rings is_polygon rings_at polygon_reader 1

-- ---- what is read is what was spelled

kind_back : {X : Type 0} (spelled : X → List ℕ) (passes : X → Bool) (read : List ℕ → Option (X × List ℕ)) (form : X → Form) (k : ℕ) → IsReader X spelled passes read → ((x : X) → spelling (form x) ≡ k ∷ spelled x)
    → (kind : ℕ) (bytes : List ℕ) (f : Form) (rest : List ℕ) → IsBytes bytes → kind ≡ k → made form (read bytes) ≡ Some (f, rest) → Takes (kind ∷ bytes) (spelling f) rest
kind_back {X = X} spelled passes read form k reader shows kind bytes f rest fits is e =
    let b = bind_some (read bytes) (λ x. Some (form x.0, x.1)) (f, rest) e in
    let x = b.0 in
    let t = reader.back bytes x.0 x.1 fits b.1 in
    let whole : kind ∷ bytes ≡ spelling (form x.0) ++ x.1 = ap (λ (n : ℕ). n ∷ bytes) is ∙ ap (λ (b : List ℕ). k ∷ b) t.parts ∙ ap (λ (b : List ℕ). b ++ x.1) (sym (shows x.0)) in
    subst (λ (r : Form × List ℕ). Takes (kind ∷ bytes) (spelling r.0) r.1) (some_is (form x.0, x.1) (f, rest) b.2) (record { parts = whole; rest_fits = t.rest_fits })

-- which way a test on a kind went
chosen : {A : Type 0} (kind k : ℕ) (x y z : Option A) → cond (kind == k) x y ≡ z → ((kind ≡ k) × (x ≡ z)) ⊎ (y ≡ z)
chosen kind k x y z e = split (kind == k) refl
  where
    split : (b : Bool) → (kind == k) ≡ b → ((kind ≡ k) × (x ≡ z)) ⊎ (y ≡ z)
    split true h = inl (grind (arith, nat_tests), ap (λ b. cond b x y) (sym h) ∙ e)
    split false h = inr (ap (λ b. cond b x y) (sym h) ∙ e)

body_back : (kind : ℕ) (bytes : List ℕ) (f : Form) (rest : List ℕ) → IsBytes bytes → body_at kind bytes ≡ Some (f, rest) → Takes (kind ∷ bytes) (spelling f) rest
body_back kind bytes f rest fits e =
    elim (chosen kind 1 _ _ _ e) [
      | inl h ↦ kind_back point is_point point_at Point 1 point_reader spelling-point kind bytes f rest fits h.0 h.1
      | inr e ↦ elim (chosen kind 2 _ _ _ e) [
        | inl h ↦ kind_back points is_line points_at LineString 2 line_reader spelling-line kind bytes f rest fits h.0 h.1
        | inr e ↦ elim (chosen kind 3 _ _ _ e) [
          | inl h ↦ kind_back rings is_polygon rings_at Polygon 3 polygon_reader spelling-polygon kind bytes f rest fits h.0 h.1
          | inr e ↦ elim (chosen kind 4 _ _ _ e) [
            | inl h ↦ kind_back points is_points points_at MultiPoint 4 points_reader spelling-points kind bytes f rest fits h.0 h.1
            | inr e ↦ elim (chosen kind 5 _ _ _ e) [
              | inl h ↦ kind_back rings (is_list is_line 1) rings_at MultiLineString 5 lines_reader spelling-lines kind bytes f rest fits h.0 h.1
              | inr e ↦ elim (chosen kind 6 _ _ _ e) [
                | inl h ↦ kind_back polygons (is_list is_polygon 1) polygons_at MultiPolygon 6 polygons_reader spelling-polygons kind bytes f rest fits h.0 h.1
                | inr e ↦ absurd (let never : None ≡ Some (f, rest) = e in cc)
              ]
            ]
          ]
        ]
      ]
    ]

-- ---- what was spelled is read again

module _ (levels : ℕ) (members : IsReader Form spelling (is_form levels) (form_at levels)) where
  form_back : (bytes : List ℕ) (f : Form) (rest : List ℕ) → IsBytes bytes → form_at (suc levels) bytes ≡ Some (f, rest) → Takes bytes (spelling f) rest
  unfolding form_at
  form_back [] f rest fits e = absurd cc
  form_back (kind ∷ bytes) f rest fits e =
      elim (chosen kind 7 _ _ _ e) [
        | inl h ↦ kind_back (listed spelling) (is_list (is_form levels) 1) (list_at (form_at levels)) Collection 7 (list_reader spelling (is_form levels) (form_at levels) members 1) spelling-members kind bytes f rest (IsBytes-rest kind bytes fits) h.0 h.1
        | inr e ↦ body_back kind bytes f rest (IsBytes-rest kind bytes fits) e
      ]

  -- the same at a form that is given by its parts
  layer_again : (x : Form-F Form) (rest : List ℕ) → is_level (is_form levels) x ≡ true → form_at (suc levels) (spelling (roll-Form x) ++ rest) ≡ Some (roll-Form x, rest)
  unfolding form_at
  layer_again (Form-F.Point x) rest h =
      subst (λ (f : Form). form_at (suc levels) (spelling f ++ rest) ≡ Some (f, rest)) (sym (rolls-Point x))
      (ap (λ (t : List ℕ). form_at (suc levels) (t ++ rest)) (spelling-point x) ∙ ap (made Point) (point_reader.again x rest h))
  layer_again (Form-F.LineString ps) rest h =
      subst (λ (f : Form). form_at (suc levels) (spelling f ++ rest) ≡ Some (f, rest)) (sym (rolls-LineString ps))
      (ap (λ (t : List ℕ). form_at (suc levels) (t ++ rest)) (spelling-line ps) ∙ ap (made LineString) (line_reader.again ps rest h))
  layer_again (Form-F.Polygon rs) rest h =
      subst (λ (f : Form). form_at (suc levels) (spelling f ++ rest) ≡ Some (f, rest)) (sym (rolls-Polygon rs))
      (ap (λ (t : List ℕ). form_at (suc levels) (t ++ rest)) (spelling-polygon rs) ∙ ap (made Polygon) (polygon_reader.again rs rest h))
  layer_again (Form-F.MultiPoint ps) rest h =
      subst (λ (f : Form). form_at (suc levels) (spelling f ++ rest) ≡ Some (f, rest)) (sym (rolls-MultiPoint ps))
      (ap (λ (t : List ℕ). form_at (suc levels) (t ++ rest)) (spelling-points ps) ∙ ap (made MultiPoint) (points_reader.again ps rest h))
  layer_again (Form-F.MultiLineString ls) rest h =
      subst (λ (f : Form). form_at (suc levels) (spelling f ++ rest) ≡ Some (f, rest)) (sym (rolls-MultiLineString ls))
      (ap (λ (t : List ℕ). form_at (suc levels) (t ++ rest)) (spelling-lines ls) ∙ ap (made MultiLineString) (lines_reader.again ls rest h))
  layer_again (Form-F.MultiPolygon ps) rest h =
      subst (λ (f : Form). form_at (suc levels) (spelling f ++ rest) ≡ Some (f, rest)) (sym (rolls-MultiPolygon ps))
      (ap (λ (t : List ℕ). form_at (suc levels) (t ++ rest)) (spelling-polygons ps) ∙ ap (made MultiPolygon) (polygons_reader.again ps rest h))
  layer_again (Form-F.Collection ms) rest h =
      subst (λ (f : Form). form_at (suc levels) (spelling f ++ rest) ≡ Some (f, rest)) (sym (rolls-Collection ms))
      (ap (λ (t : List ℕ). form_at (suc levels) (t ++ rest)) (spelling-members ms) ∙ ap (made Collection) ((list_reader spelling (is_form levels) (form_at levels) members 1).again ms rest h))

  form_again : (f : Form) (rest : List ℕ) → is_form (suc levels) f ≡ true → form_at (suc levels) (spelling f ++ rest) ≡ Some (f, rest)
  form_again f rest h =
      let opened = roll-out-Form f in
      subst (λ (g : Form). form_at (suc levels) (spelling g ++ rest) ≡ Some (g, rest)) opened
      (layer_again (out-Form f) rest (sym (is_form-roll levels (out-Form f)) ∙ ap (is_form (suc levels)) opened ∙ h))

none_again : (f : Form) (rest : List ℕ) → is_form 0 f ≡ true → form_at 0 (spelling f ++ rest) ≡ Some (f, rest)
unfolding is_form
none_again f rest h = absurd cc

none_back : (bytes : List ℕ) (f : Form) (rest : List ℕ) → IsBytes bytes → form_at 0 bytes ≡ Some (f, rest) → Takes bytes (spelling f) rest
unfolding form_at
none_back bytes f rest fits e = absurd cc

pub form_reader : (levels : ℕ) → IsReader Form spelling (is_form levels) (form_at levels)
form_reader zero = record { back = none_back; again = none_again }
form_reader (suc levels) = record { back = form_back levels (form_reader levels); again = form_again levels (form_reader levels) }
