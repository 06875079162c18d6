-- The one spelling of a geometry in bytes, this project's own: a byte of kind and the body; numbers with their high byte
-- first, signed ones in two's complement; a list is the number of its members in two bytes and the members.
use Rattle.std.specs.Prelude.{ℕ, ℤ, List, ◌∷◌, ◌++◌, length}
use Rattle.std.specs.List.{flat_map}
use Rattle.std.specs.Int.{cast_unsigned, w32}
use Rattle.byteorder.specs.Endian.{big_bytes}
use Rattle.isp_geom.specs.declared.form.Point.{Point}
use Rattle.isp_geom.specs.declared.form.Form.{Form, Form-F, fold-Form}
use Rattle.isp_geom.specs.declared.form.Form.TheVariants as form

abbrev pub coordinate : ℤ → List ℕ
coordinate z = big_bytes 4 (cast_unsigned w32 z)

abbrev pub point : Point → List ℕ
point p = coordinate p.x ++ coordinate p.y

-- a list of members with this spelling
abbrev pub listed : {X : Type 0} → (X → List ℕ) → List X → List ℕ
listed spelling xs = big_bytes 2 (length xs) ++ flat_map spelling xs

-- a line, a ring, points alone
abbrev pub points : List Point → List ℕ
points ps = listed point ps

abbrev pub rings : List (List Point) → List ℕ
rings rs = listed points rs

abbrev pub polygons : List (List (List Point)) → List ℕ
polygons ps = listed rings ps

-- one level of a form, with the spelling of each member in its place
abbrev pub level : Form-F (List ℕ) → List ℕ
level (Form-F.Point p) = 1 ∷ point p
level (Form-F.LineString ps) = 2 ∷ points ps
level (Form-F.Polygon rs) = 3 ∷ rings rs
level (Form-F.MultiPoint ps) = 4 ∷ points ps
level (Form-F.MultiLineString ls) = 5 ∷ rings ls
level (Form-F.MultiPolygon ps) = 6 ∷ polygons ps
level (Form-F.Collection members) = 7 ∷ listed (λ member. member) members

-- level by level
unfoldable pub spelling_by_levels : Form → List ℕ
spelling_by_levels = fold-Form (List ℕ) level

-- A point alone is written out, so that what is said of it computes.
unfoldable pub spelling : Form → List ℕ
spelling (form.Point p) = level (Form-F.Point p)
spelling f = spelling_by_levels f
