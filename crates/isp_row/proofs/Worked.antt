-- Rows worked out, by computation.
use Rattle.std.proofs.Common.{◌≡◌, ℕ, ◌^◌, ◌<◌, true, false, [], ◌∷◌, Some, None, refl, arith}
use Rattle.std.specs.Prelude.{pos, negsuc}
use Rattle.std.proofs.lemmas.Int.{ints}
use Rattle.std.proofs.lemmas.List.Elements.{All-cons, All-nil}
use Rattle.isp_geom.specs.Spelling.{spelling}
use Rattle.isp_geom.specs.declared.form.Form.TheVariants as form
use Rattle.isp_geom.proofs.Levels.{form_of_point}
use Rattle.isp_plain.specs.declared.value.Kind.TheVariants as kind
use Rattle.isp_plain.specs.declared.value.Schema.{Schema}
use Rattle.isp_plain.specs.declared.value.Value.TheVariants.{Int, Text, Geo}
use Rattle.isp_row.specs.Reading.{row_in}
use Rattle.isp_row.specs.RowSpelling.{IsSpelled, Spells}

-- a key and an indexed geometry
abbrev points : Schema
points = record { columns = record { name = 105 ∷ 100 ∷ []; kind = kind.BigInt; indexed = false } ∷ record { name = 103 ∷ []; kind = kind.Geo; indexed = true } ∷ [] }

-- a key, a text of three bytes at most, and a whole number
abbrev texts : Schema
texts = record { columns = record { name = 105 ∷ 100 ∷ []; kind = kind.BigInt; indexed = false } ∷ record { name = 115 ∷ []; kind = kind.VarChar 3; indexed = false } ∷ record { name = 110 ∷ []; kind = kind.BigInt; indexed = false } ∷ [] }

-- the point (0, 0) under key 1: the number of its entry, 0, the length 9, the kind of a point, and its coordinates
point_spelled : Spells points (pos 1) (0 ∷ 0 ∷ 0 ∷ 0 ∷ 0 ∷ 0 ∷ 0 ∷ 0 ∷ 0 ∷ 9 ∷ 1 ∷ 0 ∷ 0 ∷ 0 ∷ 0 ∷ 0 ∷ 0 ∷ 0 ∷ 0 ∷ []) (record { values = Int (pos 1) ∷ Geo (form.Point (record { x = pos 0; y = pos 0 })) ∷ [] }) (0 ∷ [])
unfolding spelling
point_spelled = record {
  is_row = record { values = (tt, (tt, tt)); first = refl };
  values = All-cons IsSpelled (Geo (form.Point (record { x = pos 0; y = pos 0 }))) [] (form_of_point 9 (record { x = pos 0; y = pos 0 }) (omega arith), omega arith) (All-nil IsSpelled);
  count = refl;
  small = All-cons (λ (number : ℕ). number < 256 ^ 8) 0 [] (omega arith) (All-nil (λ (number : ℕ). number < 256 ^ 8));
  spelled = refl;
}

-- the text `ab` and the number -2
text_spelled : Spells texts (pos 7) (0 ∷ 2 ∷ 97 ∷ 98 ∷ 255 ∷ 255 ∷ 255 ∷ 255 ∷ 255 ∷ 255 ∷ 255 ∷ 254 ∷ []) (record { values = Int (pos 7) ∷ Text (97 ∷ 98 ∷ []) ∷ Int (negsuc 1) ∷ [] }) []
text_spelled = record {
  is_row = record { values = (tt, (omega arith, (tt, tt))); first = refl };
  values = All-cons IsSpelled (Text (97 ∷ 98 ∷ [])) (Int (negsuc 1) ∷ []) (omega arith) (All-cons IsSpelled (Int (negsuc 1)) [] (omega (arith, ints)) (All-nil IsSpelled));
  count = refl;
  small = All-nil (λ (number : ℕ). number < 256 ^ 8);
  spelled = refl;
}

-- an empty text has the length 0 and no byte
empty_read : row_in texts.columns (pos 7) (0 ∷ 0 ∷ 0 ∷ 0 ∷ 0 ∷ 0 ∷ 0 ∷ 0 ∷ 0 ∷ 5 ∷ []) ≡ Some (Int (pos 7) ∷ Text [] ∷ Int (pos 5) ∷ [], [])
unfolding row_in
empty_read = refl

-- a text that is longer than its column, a byte too many, a byte too few
long_refused : row_in texts.columns (pos 7) (0 ∷ 4 ∷ 97 ∷ 97 ∷ 97 ∷ 97 ∷ 0 ∷ 0 ∷ 0 ∷ 0 ∷ 0 ∷ 0 ∷ 0 ∷ 5 ∷ []) ≡ None
unfolding row_in
long_refused = refl

more_refused : row_in texts.columns (pos 7) (0 ∷ 0 ∷ 0 ∷ 0 ∷ 0 ∷ 0 ∷ 0 ∷ 0 ∷ 0 ∷ 5 ∷ 0 ∷ []) ≡ None
unfolding row_in
more_refused = refl

short_refused : row_in texts.columns (pos 7) (0 ∷ 0 ∷ 0 ∷ 0 ∷ 0 ∷ 0 ∷ 0 ∷ 0 ∷ 0 ∷ []) ≡ None
unfolding row_in
short_refused = refl
