use Rattle.std.proofs.Common.{ℤ, ◌∙◌, ap, subst}
use Rattle.std.specs.Prelude.{IfSome}
use Rattle.std.specs.Int.{w64}
use Rattle.std.proofs.lemmas.Int.{to_z-of_z}
use Rattle.isp_cells.specs.Rows.{with_put}
use Rattle.isp_cells.proofs.CellLaws.{leaf_stands_to, none_some, place_some}
use Rattle.isp_levels.specs.Dividing.{is_divided}
use Rattle.isp_division.specs.Halves.{AreHalves}
use Rattle.isp_division.proofs.halves.halves_with.Goals as goal

pub returns-in-Some-clause-halves : goal.returns-in-Some-clause-halves
returns-in-Some-clause-halves c table own next rows leaf used_is large =
    let key = to_z-of_z w64 c.args.key c.ranges.key in
    let stand = leaf_stands_to _ table own next _ rows leaf.page used_is in
    let place = place_some _ _ c.place_of.result c.in-Some.is (c.place_of.ensures.place rows stand) in
    let over = ap (λ (k : ℤ). is_divided (with_put k c.args.row.now rows)) key ∙ large in
    subst (λ (k : ℤ). IfSome c.halves_at.result (λ h. AreHalves h table own c.args.right.0 next (with_put k c.args.row.now rows))) key (c.halves_at.ensures.halves table own next rows leaf used_is place over)

pub returns-in-Some-clause-some : goal.returns-in-Some-clause-some
returns-in-Some-clause-some c table own next rows leaf used_is large =
    let key = to_z-of_z w64 c.args.key c.ranges.key in
    let stand = leaf_stands_to _ table own next _ rows leaf.page used_is in
    let place = place_some _ _ c.place_of.result c.in-Some.is (c.place_of.ensures.place rows stand) in
    c.halves_at.ensures.some table own next rows leaf used_is place (ap (λ (k : ℤ). is_divided (with_put k c.args.row.now rows)) key ∙ large)

pub returns-in-None-clause-some : goal.returns-in-None-clause-some
returns-in-None-clause-some c table own next rows leaf used_is large =
    let stand = leaf_stands_to _ table own next _ rows leaf.page used_is in
    absurd (none_some _ c.place_of.result c.in-None.is (c.place_of.ensures.place rows stand))
