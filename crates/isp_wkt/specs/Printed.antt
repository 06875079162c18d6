-- The printed form of a geometry, this project's own choice among the texts of the grammar: words in upper case, no
-- blanks but one between the coordinates of a point, no plus signs, leading zeros or fractions, 0 for zero, and
-- parentheses round each point of a MULTIPOINT.
use Rattle.std.specs.Prelude.{ℕ, List, [], ◌∷◌, ◌++◌}
use Rattle.std.specs.Fmt.{signed_decimal}
use Rattle.isp_geom.specs.declared.form.Point.{Point}
use Rattle.isp_geom.specs.declared.form.Form.{Form, Form-F, fold-Form}
use Rattle.isp_geom.specs.declared.form.Form.TheVariants as form
use Rattle.isp_wkt.specs.declared.kind.Kind.TheVariants as kind
use Rattle.isp_wkt.specs.Words.{word}

abbrev pub pair : Point → List ℕ
pair p = signed_decimal p.x ++ 32 ∷ signed_decimal p.y

-- in parentheses
abbrev pub enclosed : List ℕ → List ℕ
enclosed text = 40 ∷ (text ++ 41 ∷ [])

-- members, the first behind this byte and each other one behind a comma
abbrev pub chained : {X : Type 0} → (X → List ℕ) → ℕ → List X → List ℕ
chained member before [] = []
chained member before (x ∷ xs) = before ∷ (member x ++ chained member 44 xs)

-- one or more members with commas between them, in parentheses
abbrev pub listed : {X : Type 0} → (X → List ℕ) → List X → List ℕ
listed member xs = chained member 40 xs ++ 41 ∷ []

abbrev pub marked : Point → List ℕ
marked p = enclosed (pair p)

-- a line or a ring
abbrev pub line : List Point → List ℕ
line ps = listed pair ps

abbrev pub lines : List (List Point) → List ℕ
lines ls = listed line ls

-- one level of a form, with the printed form of each member in its place
abbrev pub level : Form-F (List ℕ) → List ℕ
level (Form-F.Point p) = word kind.Point ++ marked p
level (Form-F.LineString ps) = word kind.LineString ++ line ps
level (Form-F.Polygon rings) = word kind.Polygon ++ lines rings
level (Form-F.MultiPoint ps) = word kind.MultiPoint ++ listed marked ps
level (Form-F.MultiLineString ls) = word kind.MultiLineString ++ lines ls
level (Form-F.MultiPolygon ps) = word kind.MultiPolygon ++ listed lines ps
level (Form-F.Collection members) = word kind.Collection ++ listed (λ member. member) members

-- level by level
unfoldable pub printed_by_levels : Form → List ℕ
printed_by_levels = fold-Form (List ℕ) level

-- A point alone is written out, so that what is said of it computes.
unfoldable pub printed : Form → List ℕ
printed (form.Point p) = level (Form-F.Point p)
printed f = printed_by_levels f
