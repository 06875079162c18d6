-- What holds of all spellings.
use Rattle.std.specs.Prelude.{◌≡◌, ℕ, true, List, ◌++◌, Some}
use Rattle.isp_base.specs.Lists.{Has}
use Rattle.isp_mbr.specs.Boxes.{covers}
use Rattle.isp_mbr.specs.Corners.{Corners}
use Rattle.isp_geom.specs.Bounds.{box_round, corner, points_of}
use Rattle.isp_geom.specs.declared.form.Point.{Point}
use Rattle.isp_geom.specs.declared.form.Form.{Form}
use Rattle.isp_geom.specs.Rules.{IsGeometry}
use Rattle.isp_geom.specs.Spelling.{spelling}

-- where two spellings, each with bytes behind it, are the same bytes, they are one spelling of one geometry
abbrev pub NoSpellingBeginsAnother : Type 0
NoSpellingBeginsAnother =
    (g h : Form) (more others : List ℕ) → IsGeometry g → IsGeometry h → spelling g ++ more ≡ spelling h ++ others → (g ≡ h) × (more ≡ others)

-- each point lies in the box
abbrev pub CoversAll : Corners → List Point → Type 0
CoversAll box ps = (p : Point) → Has ps p → covers box (corner p) ≡ true

-- a geometry's box has all its points, and each box that has them all covers it
abbrev pub BoxIsLeast : Type 0
BoxIsLeast =
    (form : Form) (box : Corners) → box_round (points_of form) ≡ Some box
    → CoversAll box (points_of form) × ((other : Corners) → CoversAll other (points_of form) → covers other box ≡ true)
