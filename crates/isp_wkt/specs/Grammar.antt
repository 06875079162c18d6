-- Which text means which geometry (OpenGIS Implementation Specification for Simple Features; the exact grammar is this
-- project's own). Each definition says of a value and a text whether the text is one of those that mean the value. Blanks
-- are spaces and tabs.
use Rattle.std.specs.Prelude.{◌≡◌, ℕ, zero, suc, ◌+◌, ◌-◌, ◌*◌, ◌<◌, ◌≤◌, ◌==◌, ◌&&◌, nat_le, ℤ, Bool, true, false, ◌⊎◌, List, [], ◌∷◌, ◌++◌, length, map, if◌then◌else◌}
use Rattle.std.specs.List.{fold, list_all}
use Rattle.isp_geom.specs.declared.form.Point as p
use Rattle.isp_geom.specs.declared.form.Form.{Form, Form-F, out-Form}
use Rattle.isp_geom.specs.Rules.{is_closed}
use Rattle.isp_wkt.specs.declared.kind.Kind.TheVariants as kind
use Rattle.isp_wkt.specs.Words.{word, upper}
use Rattle.isp_wkt.specs.Reading.{is_blank, is_digit, limit, signed}

abbrev pub AreBlanks : List ℕ → Type 0
AreBlanks text = list_all is_blank text ≡ true

-- ---- numbers

abbrev pub value_of : List ℕ → ℕ
value_of digits = fold (λ n b. n * 10 + (b - 48)) 0 digits

-- nothing, or a point and zeros
abbrev pub IsFraction : List ℕ → Type 0
IsFraction [] = Unit {0}
IsFraction (b ∷ zeros) = (b ≡ 46) × (list_all (λ z. z == 48) zeros ≡ true)

-- digits and a fraction
pub record IsSize (n : ℕ) (text : List ℕ) : Type 0 where
  pub digits : List ℕ
  pub fraction : List ℕ
  pub parts : text ≡ digits ++ fraction
  pub some : 0 < length digits
  pub all : list_all is_digit digits ≡ true
  pub value : value_of digits ≡ n
  pub whole : IsFraction fraction
  pub small : n ≤ limit

-- a minus, or a plus or nothing
abbrev pub IsSign : Bool → List ℕ → Type 0
IsSign true text = text ≡ 45 ∷ []
IsSign false text = (text ≡ []) ⊎ (text ≡ 43 ∷ [])

pub record IsNumber (z : ℤ) (text : List ℕ) : Type 0 where
  pub is_negative : Bool
  pub size : ℕ
  pub sign : List ℕ
  pub body : List ℕ
  pub parts : text ≡ sign ++ body
  pub signs : IsSign is_negative sign
  pub sized : IsSize size body
  pub value : signed is_negative size ≡ z

-- two numbers with blanks between them
pub record IsPair (point : p.Point) (text : List ℕ) : Type 0 where
  pub left : List ℕ
  pub blanks : List ℕ
  pub right : List ℕ
  pub parts : text ≡ left ++ (blanks ++ right)
  pub x : IsNumber point.x left
  pub some : 0 < length blanks
  pub blank : AreBlanks blanks
  pub y : IsNumber point.y right

-- ---- parentheses and commas

module _ {X : Type 0} (Means : X → List ℕ → Type 0) where
  -- a value between parentheses, with blanks before and inside them
  pub record IsSingle (x : X) (text : List ℕ) : Type 0 where
    pub before : List ℕ
    pub opened : List ℕ
    pub inside : List ℕ
    pub closed : List ℕ
    pub parts : text ≡ before ++ 40 ∷ (opened ++ (inside ++ (closed ++ 41 ∷ [])))
    pub blank : AreBlanks before × AreBlanks opened × AreBlanks closed
    pub means : Means x inside

  -- one more member and what follows it: blanks and a comma, with blanks behind it, or the closing parenthesis
  abbrev pub AreMembers : List X → List ℕ → Type 0
  AreMembers [] text = ⊥
  AreMembers (x ∷ []) text =
      (first : List ℕ) × (blanks : List ℕ) × (text ≡ first ++ (blanks ++ 41 ∷ [])) × Means x first × AreBlanks blanks
  AreMembers (x ∷ y ∷ xs) text =
      (first : List ℕ) × (blanks : List ℕ) × (more : List ℕ) × (others : List ℕ) × (text ≡ first ++ (blanks ++ 44 ∷ (more ++ others)))
      × Means x first × AreBlanks blanks × AreBlanks more × AreMembers (y ∷ xs) others

  -- one or more members between parentheses, with blanks before and inside them
  pub record IsList (xs : List X) (text : List ℕ) : Type 0 where
    pub before : List ℕ
    pub opened : List ℕ
    pub inside : List ℕ
    pub parts : text ≡ before ++ 40 ∷ (opened ++ inside)
    pub blank : AreBlanks before × AreBlanks opened
    pub members : AreMembers xs inside

-- ---- the kinds

-- a line has 2 points or more; a ring has 4 or more, the last of them the first
abbrev pub keeps : Bool → List p.Point → Bool
keeps is_ring ps = if is_ring then nat_le 4 (length ps) && is_closed ps else nat_le 2 (length ps)

abbrev pub IsLine : Bool → List p.Point → List ℕ → Type 0
IsLine is_ring ps text = IsList IsPair ps text × (keeps is_ring ps ≡ true)

abbrev pub AreLines : Bool → List (List p.Point) → List ℕ → Type 0
AreLines are_rings = IsList (IsLine are_rings)

-- a point of a MULTIPOINT: its parentheses may be left out
abbrev pub IsMarked : p.Point → List ℕ → Type 0
IsMarked point text = IsPair point text ⊎ IsSingle IsPair point text

-- a word in any case, and what follows it
abbrev pub IsWorded : List ℕ → (List ℕ → Type 0) → List ℕ → Type 0
IsWorded word IsBody text = (front : List ℕ) × (body : List ℕ) × (text ≡ front ++ body) × (map upper front ≡ word) × IsBody body

-- one level of a geometry, with what the members of a collection may be
abbrev pub IsLevel : (Form → List ℕ → Type 0) → Form-F Form → List ℕ → Type 0
IsLevel Member (Form-F.Point x) = IsWorded (word kind.Point) (IsSingle IsPair x)
IsLevel Member (Form-F.LineString ps) = IsWorded (word kind.LineString) (IsLine false ps)
IsLevel Member (Form-F.Polygon rs) = IsWorded (word kind.Polygon) (AreLines true rs)
IsLevel Member (Form-F.MultiPoint ps) = IsWorded (word kind.MultiPoint) (IsList IsMarked ps)
IsLevel Member (Form-F.MultiLineString ls) = IsWorded (word kind.MultiLineString) (AreLines false ls)
IsLevel Member (Form-F.MultiPolygon ps) = IsWorded (word kind.MultiPolygon) (IsList (AreLines true) ps)
IsLevel Member (Form-F.Collection ms) = IsWorded (word kind.Collection) (IsList Member ms)

-- a geometry of at most so many levels: a collection has one more than its members may have
unfoldable pub Means : ℕ → Form → List ℕ → Type 0
Means zero form text = ⊥
Means (suc levels) form text = IsLevel (Means levels) (out-Form form) text

-- the text means the geometry, which has at most so many levels: blanks may stand round it
pub record IsTextOf (levels : ℕ) (form : Form) (text : List ℕ) : Type 0 where
  pub before : List ℕ
  pub body : List ℕ
  pub after : List ℕ
  pub parts : text ≡ before ++ (body ++ after)
  pub blank : AreBlanks before × AreBlanks after
  pub means : Means levels form body

-- the text means the geometry: collections nest at most eight deep
abbrev pub IsText : Form → List ℕ → Type 0
IsText form text = IsTextOf 9 form text
