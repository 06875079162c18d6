-- The box round points has them all, and each box that has them all covers it.
use Rattle.std.proofs.Common.{◌≡◌, ◌∙◌, true, ◌⊎◌, inl, inr, List, [], ◌∷◌, Option, Some, None, refl, sym, subst, ap}
use Rattle.std.specs.List.{fold}
use Rattle.isp_base.specs.Lists.{Has}
use Rattle.isp_mbr.specs.Boxes.{covers, union}
use Rattle.isp_mbr.specs.Corners.{Corners}
use Rattle.isp_mbr.proofs.BoxLaws.{covers_refl, covers_trans, union_covers_left, union_covers_right, union_least}
use Rattle.isp_geom.specs.declared.form.Point.{Point}
use Rattle.isp_geom.specs.Bounds.{corner, points_of, widened}
use Rattle.isp_geom.specs.Laws.{BoxIsLeast, CoversAll}

-- the box round a box and points covers that box
grows : (ps : List Point) (seen box : Corners) → fold widened (Some seen) ps ≡ Some box → covers box seen ≡ true
grows [] seen box e = let same : seen ≡ box = cc in subst (λ (b : Corners). covers b seen ≡ true) same (covers_refl seen)
grows (p ∷ ps) seen box e =
    covers_trans box (union seen (corner p)) seen (grows ps (union seen (corner p)) box e) (union_covers_left seen (corner p))

-- and has all the points
has_all : (ps : List Point) (seen box : Corners) → fold widened (Some seen) ps ≡ Some box → CoversAll box ps
has_all [] seen box e p there = absurd there
has_all (q ∷ ps) seen box e p (inl same) =
    subst (λ (r : Point). covers box (corner r) ≡ true) same
    (covers_trans box (union seen (corner q)) (corner q) (grows ps (union seen (corner q)) box e) (union_covers_right seen (corner q)))
has_all (q ∷ ps) seen box e p (inr there) = has_all ps (union seen (corner q)) box e p there

-- a box that covers the box and has the points covers the box round both
least : (ps : List Point) (seen box other : Corners) → fold widened (Some seen) ps ≡ Some box → covers other seen ≡ true → CoversAll other ps → covers other box ≡ true
least [] seen box other e over all = let same : seen ≡ box = cc in subst (λ (b : Corners). covers other b ≡ true) same over
least (p ∷ ps) seen box other e over all =
    least ps (union seen (corner p)) box other e (union_least seen (corner p) other over (all p (inl refl))) (λ q there. all q (inr there))

all_round : (ps : List Point) (box : Corners) → fold widened None ps ≡ Some box → CoversAll box ps
all_round [] box e p there = absurd there
all_round (q ∷ ps) box e p (inl same) = subst (λ (r : Point). covers box (corner r) ≡ true) same (grows ps (corner q) box e)
all_round (q ∷ ps) box e p (inr there) = has_all ps (corner q) box e p there

least_round : (ps : List Point) (box other : Corners) → fold widened None ps ≡ Some box → CoversAll other ps → covers other box ≡ true
least_round [] box other e all = absurd cc
least_round (q ∷ ps) box other e all = least ps (corner q) box other e (all q (inl refl)) (λ p there. all p (inr there))

pub box_is_least : BoxIsLeast
box_is_least form box e = (all_round (points_of form) box e, λ other all. least_round (points_of form) box other e all)
