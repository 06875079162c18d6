-- The equations of `points_of`, one for each kind, and that a geometry has points.
use Rattle.std.proofs.Common.{◌≡◌, ℕ, zero, suc, ◌++◌, ap, sym, ◌∙◌, List, [], ◌∷◌, length, map, arith, length-append, refl, Some, None, Bool, true, ◌&&◌, ◌<◌, ◌≤◌, subst, IsSome, nat_le}
use Rattle.std.specs.List.{flat_map, fold, list_all}
use Rattle.std.proofs.lemmas.Bool.{and_parts}
use Rattle.std.proofs.lemmas.Bool.Decides.{nat_tests}
use Rattle.isp_mbr.specs.Corners.{Corners}
use Rattle.isp_mbr.specs.Boxes.{union}
use Rattle.isp_geom.specs.declared.form.Point as p
use Rattle.isp_geom.specs.declared.form.Form.{Form, Form-F, roll-Form, out-Form, roll-out-Form, fold-roll-Form}
use Rattle.isp_geom.specs.declared.form.Form.TheVariants.{Point, LineString, Polygon, MultiPoint, MultiLineString, MultiPolygon, Collection, rolls-Point, rolls-LineString, rolls-Polygon, rolls-MultiPoint, rolls-MultiLineString, rolls-MultiPolygon, rolls-Collection}
use Rattle.isp_geom.specs.Rules.{is_form, is_level, is_list, is_count, is_point, is_line, is_ring, is_closed, is_polygon}
use Rattle.isp_geom.specs.Bounds.{points_of, points_by_levels, level_points, widened, corner}
use Rattle.isp_geom.proofs.Levels.{is_form-roll}

by_levels-point : (x : p.Point) → points_by_levels (Point x) ≡ x ∷ []
unfolding points_by_levels
by_levels-point x = ap points_by_levels (sym (rolls-Point x)) ∙ fold-roll-Form (List p.Point) level_points (Form-F.Point x)

-- the levels give what stands there for a point alone
pub points-by_levels : (f : Form) → points_of f ≡ points_by_levels f
unfolding points_of
points-by_levels (Point x) = sym (by_levels-point x)
points-by_levels f = refl

pub points-point : (x : p.Point) → points_of (Point x) ≡ x ∷ []
unfolding points_of
points-point x = refl

pub points-line : (ps : List p.Point) → points_of (LineString ps) ≡ ps
unfolding points_of points_by_levels
points-line ps = ap points_by_levels (sym (rolls-LineString ps)) ∙ fold-roll-Form (List p.Point) level_points (Form-F.LineString ps)

pub points-polygon : (rs : List (List p.Point)) → points_of (Polygon rs) ≡ flat_map (λ ring. ring) rs
unfolding points_of points_by_levels
points-polygon rs = ap points_by_levels (sym (rolls-Polygon rs)) ∙ fold-roll-Form (List p.Point) level_points (Form-F.Polygon rs)

pub points-points : (ps : List p.Point) → points_of (MultiPoint ps) ≡ ps
unfolding points_of points_by_levels
points-points ps = ap points_by_levels (sym (rolls-MultiPoint ps)) ∙ fold-roll-Form (List p.Point) level_points (Form-F.MultiPoint ps)

pub points-lines : (ls : List (List p.Point)) → points_of (MultiLineString ls) ≡ flat_map (λ line. line) ls
unfolding points_of points_by_levels
points-lines ls = ap points_by_levels (sym (rolls-MultiLineString ls)) ∙ fold-roll-Form (List p.Point) level_points (Form-F.MultiLineString ls)

pub points-polygons : (ps : List (List (List p.Point))) → points_of (MultiPolygon ps) ≡ flat_map (flat_map (λ ring. ring)) ps
unfolding points_of points_by_levels
points-polygons ps = ap points_by_levels (sym (rolls-MultiPolygon ps)) ∙ fold-roll-Form (List p.Point) level_points (Form-F.MultiPolygon ps)

flat_map-map : (f : Form → List p.Point) (ms : List Form) → flat_map (λ member. member) (map f ms) ≡ flat_map f ms
flat_map-map f [] = refl
flat_map-map f (m ∷ ms) = ap (λ ps. f m ++ ps) (flat_map-map f ms)

by_levels-members : (ms : List Form) → points_by_levels (Collection ms) ≡ flat_map points_by_levels ms
unfolding points_by_levels
by_levels-members ms = ap points_by_levels (sym (rolls-Collection ms)) ∙ fold-roll-Form (List p.Point) level_points (Form-F.Collection ms) ∙ flat_map-map points_by_levels ms

pub points-members : (ms : List Form) → points_of (Collection ms) ≡ flat_map points_of ms
points-members ms = points-by_levels (Collection ms) ∙ by_levels-members ms ∙ ap (λ (g : Form → List p.Point). flat_map g ms) (λ i f. sym (points-by_levels f) i)

pub ruleset all_points = (points-point, points-line, points-polygon, points-points, points-lines, points-polygons, points-members)

-- ---- a geometry has points

enough : (least n : ℕ) → is_count least n ≡ true → least ≤ n
enough least n e = let few = (and_parts (nat_le least n) (nat_le n 65535) e).0 in grind (arith, nat_tests)

some_of_list : {X : Type 0} (passes : X → Bool) (points : X → List p.Point) → ((x : X) → passes x ≡ true → 0 < length (points x)) → (xs : List X) → is_list passes 1 xs ≡ true → 0 < length (flat_map points xs)
some_of_list passes points h [] e = let le : 1 ≤ 0 = enough 1 0 (and_parts (is_count 1 0) true e).0 in absurd (omega arith)
some_of_list passes points h (x ∷ xs) e =
    let both = and_parts (is_count 1 (length (x ∷ xs))) (passes x && list_all passes xs) e in
    let first = h x (and_parts (passes x) (list_all passes xs) both.1).0 in
    omega (arith, length-append (points x) (flat_map points xs))

some_of_points : (least : ℕ) (ps : List p.Point) → 0 < least → is_list is_point least ps ≡ true → 0 < length ps
some_of_points least ps h e = let le = enough least (length ps) (and_parts (is_count least (length ps)) (list_all is_point ps) e).0 in omega arith

some_of_ring : (ps : List p.Point) → is_ring ps ≡ true → 0 < length ps
some_of_ring ps e = some_of_points 4 ps (omega arith) (and_parts (is_list is_point 4 ps) (is_closed ps) e).0

some_of_polygon : (rs : List (List p.Point)) → is_polygon rs ≡ true → 0 < length (flat_map (λ ring. ring) rs)
some_of_polygon = some_of_list is_ring (λ ring. ring) some_of_ring

module _ (levels : ℕ) (members : (f : Form) → is_form levels f ≡ true → 0 < length (points_of f)) where
  some_of_layer : (x : Form-F Form) → is_level (is_form levels) x ≡ true → 0 < length (points_of (roll-Form x))
  some_of_layer (Form-F.Point x) e = subst (λ (f : Form). 0 < length (points_of f)) (sym (rolls-Point x)) (rw (points-point x) (omega arith))
  some_of_layer (Form-F.LineString ps) e = subst (λ (f : Form). 0 < length (points_of f)) (sym (rolls-LineString ps)) (rw (points-line ps) (some_of_points 2 ps (omega arith) e))
  some_of_layer (Form-F.Polygon rs) e = subst (λ (f : Form). 0 < length (points_of f)) (sym (rolls-Polygon rs)) (rw (points-polygon rs) (some_of_polygon rs e))
  some_of_layer (Form-F.MultiPoint ps) e = subst (λ (f : Form). 0 < length (points_of f)) (sym (rolls-MultiPoint ps)) (rw (points-points ps) (some_of_points 1 ps (omega arith) e))
  some_of_layer (Form-F.MultiLineString ls) e = subst (λ (f : Form). 0 < length (points_of f)) (sym (rolls-MultiLineString ls)) (rw (points-lines ls) (some_of_list is_line (λ line. line) (λ ps. some_of_points 2 ps (omega arith)) ls e))
  some_of_layer (Form-F.MultiPolygon ps) e = subst (λ (f : Form). 0 < length (points_of f)) (sym (rolls-MultiPolygon ps)) (rw (points-polygons ps) (some_of_list is_polygon (flat_map (λ ring. ring)) some_of_polygon ps e))
  some_of_layer (Form-F.Collection ms) e = subst (λ (f : Form). 0 < length (points_of f)) (sym (rolls-Collection ms)) (rw (points-members ms) (some_of_list (is_form levels) points_of members ms e))

  some_of_form : (f : Form) → is_form (suc levels) f ≡ true → 0 < length (points_of f)
  some_of_form f e =
      let opened = roll-out-Form f in
      subst (λ (g : Form). 0 < length (points_of g)) opened (some_of_layer (out-Form f) (sym (is_form-roll levels (out-Form f)) ∙ ap (is_form (suc levels)) opened ∙ e))

none_of_form : (f : Form) → is_form 0 f ≡ true → 0 < length (points_of f)
unfolding is_form
none_of_form f e = absurd cc

pub has_points : (levels : ℕ) (f : Form) → is_form levels f ≡ true → 0 < length (points_of f)
has_points zero f e = none_of_form f e
has_points (suc levels) f e = some_of_form levels (has_points levels) f e

-- a box round points is there
still : (box : Corners) (ps : List p.Point) → IsSome (fold widened (Some box) ps)
still box [] = refl
still box (x ∷ ps) = still (union box (corner x)) ps

pub box_is_there : (ps : List p.Point) → 0 < length ps → IsSome (fold widened None ps)
box_is_there [] h = absurd (omega arith)
box_is_there (x ∷ ps) h = still (corner x) ps
