use Rattle.std.proofs.Common.{rules, ℤ, subst, arith}
use Rattle.std.specs.Prelude.{FitsSigned}
use Rattle.std.specs.Int.{w64}
use Rattle.std.proofs.lemmas.Int.{to_z-of_z}
use Rattle.isp_cells.proofs.CellLaws.{none_some, number_some}
use Rattle.isp_division.specs.Entries.{AreNodeHalves}
use Rattle.isp_growth.specs.Entries.{with_name}
use Rattle.isp_halving.proofs.parts.node_parts.Goals as goal

pub returns-then-count-clause-parts : goal.returns-then-count-clause-parts
returns-then-count-clause-parts c table names is full =
    let fits : FitsSigned w64 c.args.new.key = search rules in
    let key = to_z-of_z w64 c.args.new.key fits in
    subst (λ (k : ℤ). AreNodeHalves c.entry_halves.result table c.args.page.0 c.args.right.0 c.args.level (with_name (k, c.args.new.page.0) names)) key
    (c.entry_halves.ensures table c.args.page.0 c.args.level names is full)

pub returns-else-count-clause-some : goal.returns-else-count-clause-some
returns-else-count-clause-some c table names is full =
    let count = number_some _ _ c.count_of.result c.in-Some.is (c.count_of.ensures.count table names is) in
    let other = c.if-count.false in
    absurd (omega (arith, count, other, full))

pub returns-in-None-clause-some : goal.returns-in-None-clause-some
returns-in-None-clause-some c table names is full = absurd (none_some _ c.count_of.result c.in-None.is (c.count_of.ensures.count table names is))
