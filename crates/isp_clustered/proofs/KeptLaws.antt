-- What a call answers of the row that stands at a place.
use Rattle.std.proofs.Common.{◌≡◌, ℕ, ℤ, List, ◌∷◌, Option, Some, None, refl, sym, ◌∙◌, ap, subst}
use Rattle.std.specs.Option.{option_map}
use Rattle.isp_disk.specs.Moments.{Image}
use Rattle.isp_format.specs.Leaf.{Stored}
use Rattle.isp_cells.specs.Cells.{Stand, cell_of, place_in}
use Rattle.isp_clustered.specs.Cells.{kept_of}
use Rattle.isp_cells.specs.Rows.{find}
use Rattle.isp_cells.specs.declared.cells.Cell.{Cell}
use Rattle.isp_cells.specs.declared.cells.Place.{Place}
use Rattle.isp_clustered.specs.declared.kept.Kept.{Kept}
use Rattle.isp_cells.proofs.CellLaws.{found_front, place_is, stand_from}

pub kept_there : (image : Image) (to : ℕ) (key : ℤ) (rows : List Stored) (place : Place) (cell : Cell) (kept : Kept) → Stand image 64 to rows → place ≡ place_in key 64 rows → place.here ≡ Some cell
    → ((s : Stored) (more : List Stored) → Stand image place.at to (s ∷ more) → cell ≡ cell_of s → kept ≡ kept_of s) → Some kept ≡ option_map kept_of (find key rows)
kept_there image to key rows place cell kept st is here kept_is = by (find key rows) refl (sym (ap (λ (p : Place). p.here) is ∙ (place_is key 64 rows).1) ∙ here)
  where
    some_same : (a b : Cell) → Some a ≡ Some b → b ≡ a
    some_same a b same = cc

    by : (o : Option Stored) → find key rows ≡ o → option_map cell_of o ≡ Some cell → Some kept ≡ option_map kept_of o
    by None found cells = absurd (let bad : None ≡ Some cell = cells in cc)
    by (Some s) found cells =
        let front = found_front key rows s found in
        let stand : Stand image place.at to (s ∷ front.0) = subst (Stand image place.at to) front.1 (stand_from image to key rows place st is).1 in
        let same : cell ≡ cell_of s = some_same (cell_of s) cell cells in
        ap Some (kept_is s front.0 stand same)

pub kept_none : (key : ℤ) (rows : List Stored) (place : Place) → place ≡ place_in key 64 rows → place.here ≡ None → None ≡ option_map kept_of (find key rows)
kept_none key rows place is here = by (find key rows) (sym (ap (λ (p : Place). p.here) is ∙ (place_is key 64 rows).1) ∙ here)
  where
    by : (o : Option Stored) → option_map cell_of o ≡ None → None ≡ option_map kept_of o
    by None cells = refl
    by (Some s) cells = absurd (let bad : Some (cell_of s) ≡ None = cells in cc)
