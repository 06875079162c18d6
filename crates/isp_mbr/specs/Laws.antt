-- What a search over a tree of boxes rests on (Guttman 1984): of boxes whose corners are in order, one that satisfies
-- and lies in a subtree's box makes that box one that may hold it; and a box that may hold it still may when it grows.
use Rattle.std.specs.Prelude.{◌≡◌, true}
use Rattle.isp_mbr.specs.Corners.{Corners}
use Rattle.isp_mbr.specs.Boxes.{IsBox, covers}
use Rattle.isp_mbr.specs.Predicates.{satisfies, may_hold}
use Rattle.isp_mbr.specs.declared.predicate.Predicate.{Predicate}

abbrev pub MayHoldOfSatisfying : Type 0
MayHoldOfSatisfying =
    (p : Predicate) (b c : Corners) → IsBox b → satisfies p b ≡ true → covers c b ≡ true → may_hold p c ≡ true

abbrev pub MayHoldGrows : Type 0
MayHoldGrows =
    (p : Predicate) (c d : Corners) → may_hold p c ≡ true → covers d c ≡ true → may_hold p d ≡ true
