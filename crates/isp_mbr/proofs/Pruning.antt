-- The laws of `may_hold`, by the five tests.
use Rattle.std.proofs.Common.{◌≡◌, Bool, true, false, not, refl, subst}
use Rattle.isp_mbr.specs.Corners.{Corners}
use Rattle.isp_mbr.specs.Boxes.{IsBox, covers, meets}
use Rattle.isp_mbr.specs.Predicates.{passes, may_pass, satisfies, may_hold}
use Rattle.isp_mbr.specs.declared.predicate.Predicate.{Predicate}
use Rattle.isp_mbr.specs.declared.predicate.Test.{Test}
use Rattle.isp_mbr.specs.declared.predicate.Test.TheVariants.{Covers, Within, Intersects, Disjoint, Equals}
use Rattle.isp_mbr.proofs.BoxLaws.{covers_trans, covers_meets, meets_grows, meets_comm, same_then}

-- what follows from a test that fails fails too
pub refuted : (p q : Bool) → (p ≡ true → q ≡ true) → not q ≡ true → not p ≡ true
refuted true q h k = let q' : q ≡ true = h refl in cc
refuted false q h k = refl

may_pass_of_passing : (t : Test) (q b c : Corners) → IsBox b → passes t q b ≡ true → covers c b ≡ true → may_pass t q c ≡ true
may_pass_of_passing Covers q b c ordered h k = covers_trans c b q k h
may_pass_of_passing Within q b c ordered h k = meets_grows b c q (meets_comm q b (covers_meets q b ordered h)) k
may_pass_of_passing Intersects q b c ordered h k = meets_grows b c q h k
may_pass_of_passing Disjoint q b c ordered h k =
    refuted (covers q c) (meets b q) (λ around. meets_comm q b (covers_meets q b ordered (covers_trans q c b around k))) h
may_pass_of_passing Equals q b c ordered h k = let P : Corners → Type 0 = λ x. covers c x ≡ true in subst P (same_then b q h) k

may_pass_grows : (t : Test) (q c d : Corners) → may_pass t q c ≡ true → covers d c ≡ true → may_pass t q d ≡ true
may_pass_grows Covers q c d h k = covers_trans d c q k h
may_pass_grows Within q c d h k = meets_grows c d q h k
may_pass_grows Intersects q c d h k = meets_grows c d q h k
may_pass_grows Disjoint q c d h k = refuted (covers q d) (covers q c) (λ around. covers_trans q d c around k) h
may_pass_grows Equals q c d h k = covers_trans d c q k h

pub may_hold_of_satisfying : (p : Predicate) (b c : Corners) → IsBox b → satisfies p b ≡ true → covers c b ≡ true → may_hold p c ≡ true
may_hold_of_satisfying p b c ordered h k = may_pass_of_passing p.test p.q b c ordered h k

pub may_hold_grows : (p : Predicate) (c d : Corners) → may_hold p c ≡ true → covers d c ≡ true → may_hold p d ≡ true
may_hold_grows p c d h k = may_pass_grows p.test p.q c d h k
