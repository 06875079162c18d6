-- The equations of `is_form`, one for each kind.
use Rattle.std.proofs.Common.{◌≡◌, ℕ, zero, suc, ◌-◌, ◌<◌, ap, sym, ◌∙◌, List, arith, refl, false}
use Rattle.isp_geom.specs.declared.form.Point as p
use Rattle.isp_geom.specs.declared.form.Form.{Form, Form-F, roll-Form, out-roll-Form}
use Rattle.isp_geom.specs.declared.form.Form.TheVariants.{Point, LineString, Polygon, MultiPoint, MultiLineString, MultiPolygon, Collection, rolls-Point, rolls-LineString, rolls-Polygon, rolls-MultiPoint, rolls-MultiLineString, rolls-MultiPolygon, rolls-Collection}
use Rattle.isp_geom.specs.Rules.{is_form, is_level, is_list, is_point, is_line, is_polygon, is_points}

-- one level of a form that is given by its parts
pub is_form-roll : (levels : ℕ) (x : Form-F Form) → is_form (suc levels) (roll-Form x) ≡ is_level (is_form levels) x
unfolding is_form
is_form-roll levels x = ap (is_level (is_form levels)) (out-roll-Form x)

at : (n : ℕ) (f : Form) (x : Form-F Form) → 0 < n → roll-Form x ≡ f → is_form n f ≡ is_level (is_form (n - 1)) x
at zero f x h e = absurd (omega arith)
at (suc n) f x h e = ap (is_form (suc n)) (sym e) ∙ is_form-roll n x ∙ ap (λ m. is_level (is_form m) x) (omega arith)

pub form_of_point : (n : ℕ) (x : p.Point) → 0 < n → is_form n (Point x) ≡ is_point x
form_of_point n x h = at n _ (Form-F.Point x) h (rolls-Point x)

pub form_of_line : (n : ℕ) (ps : List p.Point) → 0 < n → is_form n (LineString ps) ≡ is_line ps
form_of_line n ps h = at n _ (Form-F.LineString ps) h (rolls-LineString ps)

pub form_of_polygon : (n : ℕ) (rs : List (List p.Point)) → 0 < n → is_form n (Polygon rs) ≡ is_polygon rs
form_of_polygon n rs h = at n _ (Form-F.Polygon rs) h (rolls-Polygon rs)

pub form_of_points : (n : ℕ) (ps : List p.Point) → 0 < n → is_form n (MultiPoint ps) ≡ is_points ps
form_of_points n ps h = at n _ (Form-F.MultiPoint ps) h (rolls-MultiPoint ps)

pub form_of_lines : (n : ℕ) (ls : List (List p.Point)) → 0 < n → is_form n (MultiLineString ls) ≡ is_list is_line 1 ls
form_of_lines n ls h = at n _ (Form-F.MultiLineString ls) h (rolls-MultiLineString ls)

pub form_of_polygons : (n : ℕ) (ps : List (List (List p.Point))) → 0 < n → is_form n (MultiPolygon ps) ≡ is_list is_polygon 1 ps
form_of_polygons n ps h = at n _ (Form-F.MultiPolygon ps) h (rolls-MultiPolygon ps)

pub form_of_members : (n : ℕ) (ms : List Form) → 0 < n → is_form n (Collection ms) ≡ is_list (is_form (n - 1)) 1 ms
form_of_members n ms h = at n _ (Form-F.Collection ms) h (rolls-Collection ms)

-- no level, no form
pub no_form : (f : Form) → is_form 0 f ≡ false
unfolding is_form
no_form f = refl

pub ruleset levels = (form_of_point, form_of_line, form_of_polygon, form_of_points, form_of_lines, form_of_polygons, form_of_members, no_form)
