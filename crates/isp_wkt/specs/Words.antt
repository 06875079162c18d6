-- The words of well-known text (OpenGIS Implementation Specification for Simple Features), read without regard to case.
use Rattle.std.specs.Prelude.{ℕ, suc, ◌-◌, ◌&&◌, ◌==◌, nat_le, List, ◌∷◌, codes, if◌then◌else◌}
use Rattle.isp_wkt.specs.declared.kind.Kind.{Kind}
use Rattle.isp_wkt.specs.declared.kind.Kind.TheVariants.{Point, LineString, Polygon, MultiPoint, MultiLineString, MultiPolygon, Collection}

unfoldable pub word : Kind → List ℕ
word Point = codes "POINT"
word LineString = codes "LINESTRING"
word Polygon = codes "POLYGON"
word MultiPoint = codes "MULTIPOINT"
word MultiLineString = codes "MULTILINESTRING"
word MultiPolygon = codes "MULTIPOLYGON"
word Collection = codes "GEOMETRYCOLLECTION"

-- a letter in upper case
abbrev pub upper : ℕ → ℕ
upper b = if nat_le 97 b && nat_le b 122 then b - 32 else b

-- how many bytes at the front of a text are those of the word
abbrev pub common : List ℕ → List ℕ → ℕ
common (w ∷ ws) (b ∷ bs) = if upper b == w then suc (common ws bs) else 0
common _ _ = 0
