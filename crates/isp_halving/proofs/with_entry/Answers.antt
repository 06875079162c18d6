use Rattle.std.proofs.Common.{rules, ℤ, sym, subst, arith}
use Rattle.std.specs.Prelude.{FitsSigned}
use Rattle.std.specs.Int.{w64}
use Rattle.std.proofs.lemmas.Int.{to_z-of_z}
use Rattle.isp_cells.proofs.CellLaws.{none_some, number_some}
use Rattle.isp_format.specs.Inner.{IsInnerPage}
use Rattle.isp_growth.specs.Entries.{with_name}
use Rattle.isp_halving.proofs.with_entry.Goals as goal

pub returns-then-count-clause-put : goal.returns-then-count-clause-put
returns-then-count-clause-put c table names is few =
    let fits : FitsSigned w64 c.args.new.key = search rules in
    let key = to_z-of_z w64 c.args.new.key fits in
    let count = sym (number_some _ _ c.count_of.result c.in-Some.is (c.count_of.ensures.count table names is)) in
    subst (λ (k : ℤ). IsInnerPage c.entry_put.result.bytes table c.args.page.0 c.args.level (with_name (k, c.args.new.page.0) names)) key
    (c.entry_put.ensures table c.args.page.0 c.args.level names is count)

pub returns-else-count-clause-some : goal.returns-else-count-clause-some
returns-else-count-clause-some c table names is few =
    let count = number_some _ _ c.count_of.result c.in-Some.is (c.count_of.ensures.count table names is) in
    let other = c.if-count.false in
    absurd (omega (arith, count, other, few))

pub returns-in-None-clause-some : goal.returns-in-None-clause-some
returns-in-None-clause-some c table names is few = absurd (none_some _ c.count_of.result c.in-None.is (c.count_of.ensures.count table names is))
