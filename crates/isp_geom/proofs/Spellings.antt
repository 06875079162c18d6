-- The equations of `spelling`, one for each kind, and lengths that are counted up to a limit.
use Rattle.std.proofs.Common.{◌≡◌, ℕ, ◌++◌, ap, sym, ◌∙◌, List, [], ◌∷◌, length, map, refl}
use Rattle.std.specs.List.{flat_map}
use Rattle.isp_geom.specs.declared.form.Point as p
use Rattle.isp_geom.specs.declared.form.Form.{Form, Form-F, roll-Form, fold-roll-Form}
use Rattle.isp_geom.specs.declared.form.Form.TheVariants.{Point, LineString, Polygon, MultiPoint, MultiLineString, MultiPolygon, Collection, rolls-Point, rolls-LineString, rolls-Polygon, rolls-MultiPoint, rolls-MultiLineString, rolls-MultiPolygon, rolls-Collection}
use Rattle.isp_geom.specs.Spelling.{spelling, spelling_by_levels, level, point, points, rings, polygons, listed}
use Rattle.byteorder.specs.Endian.{big_bytes}
use Rattle.std.proofs.lemmas.List.{length-map}

pub spelling-roll : (x : Form-F Form) (f : Form) → roll-Form x ≡ f → (y : Form-F (List ℕ)) → spelling (roll-Form x) ≡ level y → spelling f ≡ level y
spelling-roll x f e y h = ap spelling (sym e) ∙ h

by_levels-point : (x : p.Point) → spelling_by_levels (Point x) ≡ 1 ∷ point x
unfolding spelling_by_levels
by_levels-point x = ap spelling_by_levels (sym (rolls-Point x)) ∙ fold-roll-Form (List ℕ) level (Form-F.Point x)

-- the levels give what stands there for a point alone
pub spelling-by_levels : (f : Form) → spelling f ≡ spelling_by_levels f
unfolding spelling
spelling-by_levels (Point x) = sym (by_levels-point x)
spelling-by_levels f = refl

pub spelling-point : (x : p.Point) → spelling (Point x) ≡ 1 ∷ point x
unfolding spelling
spelling-point x = refl

pub spelling-line : (ps : List p.Point) → spelling (LineString ps) ≡ 2 ∷ points ps
unfolding spelling spelling_by_levels
spelling-line ps = ap spelling_by_levels (sym (rolls-LineString ps)) ∙ fold-roll-Form (List ℕ) level (Form-F.LineString ps)

pub spelling-polygon : (rs : List (List p.Point)) → spelling (Polygon rs) ≡ 3 ∷ rings rs
unfolding spelling spelling_by_levels
spelling-polygon rs = ap spelling_by_levels (sym (rolls-Polygon rs)) ∙ fold-roll-Form (List ℕ) level (Form-F.Polygon rs)

pub spelling-points : (ps : List p.Point) → spelling (MultiPoint ps) ≡ 4 ∷ points ps
unfolding spelling spelling_by_levels
spelling-points ps = ap spelling_by_levels (sym (rolls-MultiPoint ps)) ∙ fold-roll-Form (List ℕ) level (Form-F.MultiPoint ps)

pub spelling-lines : (ls : List (List p.Point)) → spelling (MultiLineString ls) ≡ 5 ∷ rings ls
unfolding spelling spelling_by_levels
spelling-lines ls = ap spelling_by_levels (sym (rolls-MultiLineString ls)) ∙ fold-roll-Form (List ℕ) level (Form-F.MultiLineString ls)

pub spelling-polygons : (ps : List (List (List p.Point))) → spelling (MultiPolygon ps) ≡ 6 ∷ polygons ps
unfolding spelling spelling_by_levels
spelling-polygons ps = ap spelling_by_levels (sym (rolls-MultiPolygon ps)) ∙ fold-roll-Form (List ℕ) level (Form-F.MultiPolygon ps)

flat_map-map : (f : Form → List ℕ) (ms : List Form) → flat_map (λ member. member) (map f ms) ≡ flat_map f ms
flat_map-map f [] = refl
flat_map-map f (m ∷ ms) = ap (λ bytes. f m ++ bytes) (flat_map-map f ms)

listed-map : (f : Form → List ℕ) (ms : List Form) → listed (λ member. member) (map f ms) ≡ listed f ms
listed-map f ms = ap (λ n. big_bytes 2 n ++ flat_map (λ member. member) (map f ms)) (length-map ms f) ∙ ap (λ bytes. big_bytes 2 (length ms) ++ bytes) (flat_map-map f ms)

by_levels-members : (ms : List Form) → spelling_by_levels (Collection ms) ≡ 7 ∷ listed spelling_by_levels ms
unfolding spelling_by_levels
by_levels-members ms = ap spelling_by_levels (sym (rolls-Collection ms)) ∙ fold-roll-Form (List ℕ) level (Form-F.Collection ms) ∙ ap (λ bytes. 7 ∷ bytes) (listed-map spelling_by_levels ms)

pub spelling-members : (ms : List Form) → spelling (Collection ms) ≡ 7 ∷ listed spelling ms
spelling-members ms = spelling-by_levels (Collection ms) ∙ by_levels-members ms ∙ ap (λ (g : Form → List ℕ). 7 ∷ listed g ms) (λ i f. sym (spelling-by_levels f) i)

pub ruleset spellings = (spelling-point, spelling-line, spelling-polygon, spelling-points, spelling-lines, spelling-polygons, spelling-members)
