use Rattle.std.proofs.Common.{ℤ, sym, ◌∙◌, ap, subst}
use Rattle.std.specs.Prelude.{IfSome}
use Rattle.std.specs.Int.{w64}
use Rattle.std.proofs.lemmas.Int.{to_z-of_z}
use Rattle.isp_cells.proofs.CellLaws.{none_some, number_some}
use Rattle.isp_cells.specs.Rows.{with_put}
use Rattle.isp_division.specs.Halves.{AreHalves}
use Rattle.isp_levels.specs.Dividing.{is_divided}
use Rattle.isp_halving.proofs.parts.leaf_parts.Goals as goal

pub returns-in-Some-clause-parts : goal.returns-in-Some-clause-parts
returns-in-Some-clause-parts c table next rows leaf large =
    let row = c.args.row.now in
    let key = to_z-of_z w64 c.args.key c.ranges.key in
    let used = sym (number_some _ _ c.leaf_end.result c.in-Some.is (c.leaf_end.ensures.used table next rows leaf.page)) in
    subst (λ (k : ℤ). IfSome c.halves_with.result (λ h. AreHalves h table c.args.page.0 c.args.right.0 next (with_put k row rows))) key
    (c.halves_with.ensures.halves table c.args.page.0 next rows leaf used (ap (λ (k : ℤ). is_divided (with_put k row rows)) key ∙ large))

pub returns-in-Some-clause-some : goal.returns-in-Some-clause-some
returns-in-Some-clause-some c table next rows leaf large =
    let row = c.args.row.now in
    let key = to_z-of_z w64 c.args.key c.ranges.key in
    let used = sym (number_some _ _ c.leaf_end.result c.in-Some.is (c.leaf_end.ensures.used table next rows leaf.page)) in
    c.halves_with.ensures.some table c.args.page.0 next rows leaf used (ap (λ (k : ℤ). is_divided (with_put k row rows)) key ∙ large)

pub returns-in-None-clause-some : goal.returns-in-None-clause-some
returns-in-None-clause-some c table next rows leaf large = absurd (none_some _ c.leaf_end.result c.in-None.is (c.leaf_end.ensures.used table next rows leaf.page))
