use Rattle.std.proofs.Common.{ℤ, length, sym, ◌∙◌, ap, arith}
use Rattle.std.specs.Int.{w64}
use Rattle.std.proofs.lemmas.Int.{to_z-of_z}
use Rattle.isp_disk.specs.Moments.{image_of}
use Rattle.isp_growth.specs.Entries.{up_to}
use Rattle.isp_division.proofs.EntryLaws.{count_ends, count_on, count_stops}
use Rattle.isp_division.proofs.entries.count_up_to.Goals as goal

pub returns-then-not-is_from-clause-up_to : goal.returns-then-not-is_from-clause-up_to
returns-then-not-is_from-clause-up_to c table own level names is count =
    let key = to_z-of_z w64 c.args.key c.ranges.key in
    count_stops (image_of c.args.p.now.bytes) _ names c.loop-before.before c.args.count count c.loop-before-test.true (c.loop-before.invariant.1 table own level names is count) (sym c.is_from.ensures ∙ c.if-not-is_from.true)
    ∙ ap (λ (k : ℤ). length (up_to k names)) key

pub loop-before-preserved : goal.loop-before-preserved
loop-before-preserved c =
    let before = c.loop-before-test.true in (
      omega (arith, before),
      λ table own level names is count.
          count_on (image_of c.args.p.now.bytes) _ names c.loop-before.before c.args.count count before (c.loop-before.invariant.1 table own level names is count) (sym c.is_from.ensures ∙ c.if-not-is_from.false),
    )

pub returns-clause-up_to : goal.returns-clause-up_to
returns-clause-up_to c table own level names is count =
    let key = to_z-of_z w64 c.args.key c.ranges.key in
    let behind = c.loop-before-test.false in
    count_ends (image_of c.args.p.now.bytes) _ names c.loop-before.before c.args.count count behind (c.loop-before.invariant.1 table own level names is count)
    ∙ ap (λ (k : ℤ). length (up_to k names)) key
