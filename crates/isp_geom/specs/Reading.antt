-- Reading from the front of bytes: a value and the bytes after it, or nothing where no such value is spelled there.
use Rattle.std.specs.Prelude.{◌≡◌, ℕ, ℤ, zero, suc, ◌==◌, Bool, true, false, List, [], ◌∷◌, Option, Some, None, Result, Ok, Err, if◌then◌else◌}
use Rattle.std.specs.Int.{cast_signed, w32}
use Rattle.byteorder.specs.Endian.{big_number}
use Rattle.isp_geom.specs.declared.error.GeomError.{GeomError}
use Rattle.isp_geom.specs.declared.error.GeomError.TheVariants.{NotGeometry, OutOfMemory}
use Rattle.isp_geom.specs.declared.form.Point as p
use Rattle.isp_geom.specs.declared.form.Form.{Form}
use Rattle.isp_geom.specs.declared.form.Form.TheVariants.{Point, LineString, Polygon, MultiPoint, MultiLineString, MultiPolygon, Collection}

infixl 10 ◌>>=◌
abbrev pub ◌>>=◌ : {A B : Type 0} → Option A → (A → Option B) → Option B
(Some x) >>= f = f x
None >>= f = None

-- what a call answered, with the bytes that it left, is what reading gives
abbrev pub Reads : {X : Type 0} → Option X → Option (X × List ℕ) → List ℕ → Type 0
Reads (Some x) read left = read ≡ Some (x, left)
Reads None read left = read ≡ None

-- the same where memory may run out
abbrev pub Gives : {X : Type 0} → Result X GeomError → Option (X × List ℕ) → List ℕ → Type 0
Gives (Ok x) read left = read ≡ Some (x, left)
Gives (Err NotGeometry) read left = read ≡ None
Gives (Err OutOfMemory) read left = Unit {0}

abbrev pub is_empty : List ℕ → Bool
is_empty [] = true
is_empty (b ∷ bs) = false

abbrev pub byte_at : List ℕ → Option (ℕ × List ℕ)
byte_at (b ∷ rest) = Some (b, rest)
byte_at [] = None

abbrev pub count_at : List ℕ → Option (ℕ × List ℕ)
count_at (a ∷ b ∷ rest) = Some (big_number 2 (a ∷ b ∷ []), rest)
count_at _ = None

abbrev pub coordinate_at : List ℕ → Option (ℤ × List ℕ)
coordinate_at (a ∷ b ∷ c ∷ d ∷ rest) = Some (cast_signed w32 (big_number 4 (a ∷ b ∷ c ∷ d ∷ [])), rest)
coordinate_at _ = None

unfoldable pub point_at : List ℕ → Option (p.Point × List ℕ)
point_at bytes = do
  x ← coordinate_at bytes
  y ← coordinate_at x.1
  Some (record { x = x.0; y = y.0 }, y.1)

-- so many values, one after another
abbrev pub items_at : {X : Type 0} → (List ℕ → Option (X × List ℕ)) → ℕ → List ℕ → Option (List X × List ℕ)
items_at read zero bytes = Some ([], bytes)
items_at read (suc n) bytes = do
  first ← read bytes
  others ← items_at read n first.1
  Some (first.0 ∷ others.0, others.1)

-- their number, and the values
unfoldable pub list_at : {X : Type 0} → (List ℕ → Option (X × List ℕ)) → List ℕ → Option (List X × List ℕ)
list_at read bytes = do
  count ← count_at bytes
  items_at read count.0 count.1

abbrev pub points_at : List ℕ → Option (List p.Point × List ℕ)
points_at = list_at point_at

abbrev pub rings_at : List ℕ → Option (List (List p.Point) × List ℕ)
rings_at = list_at points_at

abbrev pub polygons_at : List ℕ → Option (List (List (List p.Point)) × List ℕ)
polygons_at = list_at rings_at

-- a form is made of what is read
abbrev pub made : {X : Type 0} → (X → Form) → Option (X × List ℕ) → Option (Form × List ℕ)
made form read = read >>= λ x. Some (form x.0, x.1)

-- the body of a form of this kind that is no collection
abbrev pub body_at : ℕ → List ℕ → Option (Form × List ℕ)
body_at kind bytes =
    if kind == 1 then made Point (point_at bytes)
    else (if kind == 2 then made LineString (points_at bytes)
    else (if kind == 3 then made Polygon (rings_at bytes)
    else (if kind == 4 then made MultiPoint (points_at bytes)
    else (if kind == 5 then made MultiLineString (rings_at bytes)
    else (if kind == 6 then made MultiPolygon (polygons_at bytes) else None)))))

-- a form with at most so many levels
unfoldable pub form_at : ℕ → List ℕ → Option (Form × List ℕ)
form_at zero bytes = None
form_at (suc levels) bytes = do
  kind ← byte_at bytes
  if kind.0 == 7 then made Collection (list_at (form_at levels) kind.1) else body_at kind.0 kind.1

-- the value that all of the bytes spell
abbrev pub whole_at : {X : Type 0} → Option (X × List ℕ) → Option (X × List ℕ)
whole_at read = read >>= λ x. (if is_empty x.1 then Some (x.0, []) else None)
