-- The box of a geometry: the least and greatest coordinates of all its points, as a minimum bounding rectangle is in the
-- MySQL 8.0 manual.
use Rattle.std.specs.Prelude.{List, [], ◌∷◌, Option, Some, None}
use Rattle.std.specs.List.{fold, flat_map}
use Rattle.isp_mbr.specs.Corners.{Corners}
use Rattle.isp_mbr.specs.Boxes.{union}
use Rattle.isp_geom.specs.declared.form.Point.{Point}
use Rattle.isp_geom.specs.declared.form.Form.{Form, Form-F, fold-Form}
use Rattle.isp_geom.specs.declared.form.Form.TheVariants as form

-- all points of one level of a form, with those of each member in its place
abbrev pub level_points : Form-F (List Point) → List Point
level_points (Form-F.Point p) = p ∷ []
level_points (Form-F.LineString ps) = ps
level_points (Form-F.Polygon rings) = flat_map (λ ring. ring) rings
level_points (Form-F.MultiPoint ps) = ps
level_points (Form-F.MultiLineString lines) = flat_map (λ line. line) lines
level_points (Form-F.MultiPolygon polygons) = flat_map (flat_map (λ ring. ring)) polygons
level_points (Form-F.Collection members) = flat_map (λ member. member) members

-- all points of a form, level by level
unfoldable pub points_by_levels : Form → List Point
points_by_levels = fold-Form (List Point) level_points

-- all points of a form. A point alone is written out, so that what is said of it computes.
unfoldable pub points_of : Form → List Point
points_of (form.Point p) = level_points (Form-F.Point p)
points_of f = points_by_levels f

-- the box of one point
abbrev pub corner : Point → Corners
corner p = record { x1 = p.x; y1 = p.y; x2 = p.x; y2 = p.y }

-- the least box round these and one more point
abbrev pub widened : Option Corners → Point → Option Corners
widened None p = Some (corner p)
widened (Some box) p = Some (union box (corner p))

-- the least box round points, if there are any
abbrev pub box_round : List Point → Option Corners
box_round ps = fold widened None ps
