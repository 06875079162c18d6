-- The equations of `printed`, one for each kind.
use Rattle.std.proofs.Common.{◌≡◌, ℕ, ◌++◌, ap, sym, ◌∙◌, List, [], ◌∷◌, map, refl}
use Rattle.isp_geom.specs.declared.form.Point as p
use Rattle.isp_geom.specs.declared.form.Form.{Form, Form-F, fold-roll-Form, map-Form, roll-Form}
use Rattle.isp_geom.specs.declared.form.Form.TheVariants.{Point, LineString, Polygon, MultiPoint, MultiLineString, MultiPolygon, Collection, rolls-Point, rolls-LineString, rolls-Polygon, rolls-MultiPoint, rolls-MultiLineString, rolls-MultiPolygon, rolls-Collection}
use Rattle.isp_wkt.specs.declared.kind.Kind.TheVariants as kind
use Rattle.isp_wkt.specs.Words.{word}
use Rattle.isp_wkt.specs.Printed.{printed, printed_by_levels, level, chained, listed, marked, line, lines}

by_levels-point : (x : p.Point) → printed_by_levels (Point x) ≡ word kind.Point ++ marked x
unfolding printed_by_levels
by_levels-point x = ap printed_by_levels (sym (rolls-Point x)) ∙ fold-roll-Form (List ℕ) level (Form-F.Point x)

-- the levels give what stands there for a point alone
pub text-by_levels : (f : Form) → printed f ≡ printed_by_levels f
unfolding printed
text-by_levels (Point x) = sym (by_levels-point x)
text-by_levels f = refl

pub text-point : (x : p.Point) → printed (Point x) ≡ word kind.Point ++ marked x
unfolding printed
text-point x = refl

pub text-line : (ps : List p.Point) → printed (LineString ps) ≡ word kind.LineString ++ line ps
unfolding printed printed_by_levels
text-line ps = ap printed_by_levels (sym (rolls-LineString ps)) ∙ fold-roll-Form (List ℕ) level (Form-F.LineString ps)

pub text-polygon : (rs : List (List p.Point)) → printed (Polygon rs) ≡ word kind.Polygon ++ lines rs
unfolding printed printed_by_levels
text-polygon rs = ap printed_by_levels (sym (rolls-Polygon rs)) ∙ fold-roll-Form (List ℕ) level (Form-F.Polygon rs)

pub text-points : (ps : List p.Point) → printed (MultiPoint ps) ≡ word kind.MultiPoint ++ listed marked ps
unfolding printed printed_by_levels
text-points ps = ap printed_by_levels (sym (rolls-MultiPoint ps)) ∙ fold-roll-Form (List ℕ) level (Form-F.MultiPoint ps)

pub text-lines : (ls : List (List p.Point)) → printed (MultiLineString ls) ≡ word kind.MultiLineString ++ lines ls
unfolding printed printed_by_levels
text-lines ls = ap printed_by_levels (sym (rolls-MultiLineString ls)) ∙ fold-roll-Form (List ℕ) level (Form-F.MultiLineString ls)

pub text-polygons : (ps : List (List (List p.Point))) → printed (MultiPolygon ps) ≡ word kind.MultiPolygon ++ listed lines ps
unfolding printed printed_by_levels
text-polygons ps = ap printed_by_levels (sym (rolls-MultiPolygon ps)) ∙ fold-roll-Form (List ℕ) level (Form-F.MultiPolygon ps)

chained-map : (f : Form → List ℕ) (before : ℕ) (ms : List Form) → chained (λ text. text) before (map f ms) ≡ chained f before ms
chained-map f before [] = refl
chained-map f before (m ∷ ms) = ap (λ text. before ∷ (f m ++ text)) (chained-map f 44 ms)

by_levels-members : (ms : List Form) → printed_by_levels (Collection ms) ≡ word kind.Collection ++ listed printed_by_levels ms
unfolding printed_by_levels
by_levels-members ms = ap printed_by_levels (sym (rolls-Collection ms)) ∙ fold-roll-Form (List ℕ) level (Form-F.Collection ms) ∙ ap (λ text. word kind.Collection ++ (text ++ 41 ∷ [])) (chained-map printed_by_levels 40 ms)

pub text-members : (ms : List Form) → printed (Collection ms) ≡ word kind.Collection ++ listed printed ms
text-members ms = text-by_levels (Collection ms) ∙ by_levels-members ms ∙ ap (λ (g : Form → List ℕ). word kind.Collection ++ listed g ms) (λ i f. sym (text-by_levels f) i)

-- of one layer, with the printed form of each member in its place
pub text-roll : (x : Form-F Form) → printed (roll-Form x) ≡ level (map-Form Form (List ℕ) printed x)
unfolding printed_by_levels
text-roll x =
    text-by_levels (roll-Form x) ∙ fold-roll-Form (List ℕ) level x
    ∙ ap (λ (g : Form → List ℕ). level (map-Form Form (List ℕ) g x)) (λ i f. sym (text-by_levels f) i)

pub ruleset texts = (text-point, text-line, text-polygon, text-points, text-lines, text-polygons, text-members)
