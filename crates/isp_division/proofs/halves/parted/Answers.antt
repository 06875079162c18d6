use Rattle.std.proofs.Common.{rules, ℕ, ◌∙◌, ap, subst, arith}
use Rattle.std.specs.Prelude.{FitsSigned, drop, take}
use Rattle.std.specs.Int.{w64}
use Rattle.std.proofs.lemmas.Int.{to_z-of_z}
use Rattle.isp_disk.specs.Moments.{image_of}
use Rattle.isp_format.specs.Header.{Header}
use Rattle.isp_cells.specs.LeafPages.{IsLeaf}
use Rattle.isp_levels.specs.Dividing.{halves}
use Rattle.isp_division.specs.declared.halves.Cut.{Cut}
use Rattle.isp_division.proofs.PartLaws.{first_is, parts_packed}
use Rattle.isp_division.proofs.PackLaws.{piece_long}
use Rattle.isp_division.proofs.halves.parted.Goals as goal

pub returns : goal.returns
returns c table own next rows all leaf st count cut large =
    let h = c.head-h.ensures in
    let p = parts_packed (image_of c.args.c.now.bytes) c.args.size c.args.cut.at c.args.cut.rows c.args.count all st count (ap (λ (k : Cut). k.at) cut) (ap (λ (k : Cut). k.rows) cut) large in
    let owner = ap (λ (h : Header). h.owner) h ∙ leaf.page.head.owner_is in
    let own_is = ap (λ (h : Header). h.own) h ∙ leaf.page.head.own_is in
    let next_is = ap (λ (h : Header). h.next) h ∙ leaf.page.next_is in
    let left = c.leaf_page-left.ensures table (take (halves all) all) owner (c.part.ensures ∙ p.left) p.each_left p.left_count in
    let right = c.leaf_page-behind.ensures table (drop (halves all) all) owner (c.part-2.ensures ∙ p.right) p.each_right (c.saturating_sub-rest.ensures ∙ p.right_count) in
    let behind : IsLeaf c.leaf_page-behind.result.bytes table c.args.right.0 next (drop (halves all) all) = subst (λ (n : ℕ). IsLeaf c.leaf_page-behind.result.bytes table c.args.right.0 n (drop (halves all) all)) next_is right in
    let fits : FitsSigned w64 c.get_i64-key.result = search rules in
    record {
      left = subst (λ (o : ℕ). IsLeaf c.leaf_page-left.result.bytes table o c.args.right.0 (take (halves all) all)) own_is left;
      right_is = behind;
      key = to_z-of_z w64 c.get_i64-key.result fits ∙ c.get_i64-key.ensures ∙ first_is c.leaf_page-behind.result.bytes table c.args.right.0 next (drop (halves all) all) behind p.some;
    }

pub leaf_page-left-requires : goal.leaf_page-left-requires
leaf_page-left-requires c =
    let long = piece_long _ _ _ _ c.part.ensures in
    let few = c.requires.within.2 in
    omega (arith, long, few)

pub leaf_page-behind-requires : goal.leaf_page-behind-requires
leaf_page-behind-requires c =
    let long = piece_long _ _ _ _ c.part-2.ensures in
    let half = c.requires.within.1 in
    let inside = c.requires.inside in
    omega (arith, long, half, inside)
