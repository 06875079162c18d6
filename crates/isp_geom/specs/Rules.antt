-- Which forms are geometries, after the OpenGIS Implementation Specification for Simple Features: the ranges, the least
-- numbers of members, closed rings and the depth of collections. The limits' numbers are this project's own.
use Rattle.std.specs.Prelude.{ℕ, zero, suc, ◌-◌, ℤ, Bool, true, false, ◌&&◌, nat_le, List, length, slice_get, Option, Some, unsigned_abs, ◌≡◌}
use Rattle.std.specs.List.{list_all}
use Rattle.std.specs.Ordering.{int_eq}
use Rattle.isp_geom.specs.declared.form.Point.{Point}
use Rattle.isp_geom.specs.declared.form.Form.{Form, Form-F, out-Form}

-- a coordinate's size is at most 2 ^ 30
abbrev pub is_coordinate : ℤ → Bool
is_coordinate z = nat_le (unsigned_abs z) 1073741824

abbrev pub is_point : Point → Bool
is_point p = is_coordinate p.x && is_coordinate p.y

-- as many members as a list may have: at least so many, and at most 65,535
abbrev pub is_count : ℕ → ℕ → Bool
is_count least n = nat_le least n && nat_le n 65535

-- a list of so many members at least, each of which passes the test
abbrev pub is_list : {X : Type 0} → (X → Bool) → ℕ → List X → Bool
is_list passes least xs = is_count least (length xs) && list_all passes xs

abbrev pub is_same : Point → Point → Bool
is_same p q = int_eq p.x q.x && int_eq p.y q.y

abbrev pub are_same : Option Point → Option Point → Bool
are_same (Some p) (Some q) = is_same p q
are_same _ _ = false

-- the last point is the first
abbrev pub is_closed : List Point → Bool
is_closed ps = are_same (slice_get ps 0) (slice_get ps (length ps - 1))

abbrev pub is_points : List Point → Bool
is_points ps = is_list is_point 1 ps

abbrev pub is_line : List Point → Bool
is_line ps = is_list is_point 2 ps

abbrev pub is_ring : List Point → Bool
is_ring ps = is_list is_point 4 ps && is_closed ps

abbrev pub is_polygon : List (List Point) → Bool
is_polygon rings = is_list is_ring 1 rings

-- one level of a form, whose members pass the test
abbrev pub is_level : (Form → Bool) → Form-F Form → Bool
is_level passes (Form-F.Point p) = is_point p
is_level passes (Form-F.LineString ps) = is_line ps
is_level passes (Form-F.Polygon rings) = is_polygon rings
is_level passes (Form-F.MultiPoint ps) = is_points ps
is_level passes (Form-F.MultiLineString lines) = is_list is_line 1 lines
is_level passes (Form-F.MultiPolygon polygons) = is_list is_polygon 1 polygons
is_level passes (Form-F.Collection members) = is_list passes 1 members

-- A form that keeps the rules and has at most so many levels: a collection has one more than its members may have.
unfoldable pub is_form : ℕ → Form → Bool
is_form zero form = false
is_form (suc levels) form = is_level (is_form levels) (out-Form form)

-- a form that keeps the rules, with collections at most eight deep
abbrev pub IsGeometry : Form → Type 0
IsGeometry form = is_form 9 form ≡ true
