use Rattle.std.proofs.Common.{◌∙◌, sym, arith}
use Rattle.isp_split.proofs.DivisionLaws.{goes_on, ends, needy_is, needs_none, fill_of_filled}
use Rattle.isp_split.proofs.division.divide.Goals as goal

pub returns-in-Some-clause-divides : goal.returns-in-Some-clause-divides
returns-in-Some-clause-divides c =
    let d = c.loop-division.division in
    let same = needy_is c.args.boxes.now c.args.least d.sides.items d.first d.second d.left c.loop-division.invariant.under_way in
    c.loop-division.invariant.goes_on c.fill.new.sides.items (ends c.args.boxes.now c.args.least d.sides.items c.fill.new.sides.items d.left c.in-Some.side c.loop-division-test.true (sym same ∙ sym c.needy.ensures ∙ c.in-Some.is) c.fill.ensures)

pub returns-in-Some-clause-fill : goal.returns-in-Some-clause-fill
returns-in-Some-clause-fill c =
    let d = c.loop-division.division in
    fill_of_filled c.args.boxes.now c.args.least d.sides.items c.fill.new.sides.items d.first d.second d.left c.in-Some.side c.loop-division.invariant.under_way c.requires.enough c.loop-division.invariant.can_fill.first c.loop-division.invariant.can_fill.second (sym c.needy.ensures ∙ c.in-Some.is) c.fill.ensures

pub loop-division-preserved : goal.loop-division-preserved
loop-division-preserved c =
    let d = c.loop-division.division in
    let same = needy_is c.args.boxes.now c.args.least d.sides.items d.first d.second d.left c.loop-division.invariant.under_way in
    let more = needs_none c.args.least d.first.count d.second.count d.left (sym c.needy.ensures ∙ c.in_default.is) in
    record {
      under_way = c.take_next.ensures.under_way;
      can_fill = record { first = omega (arith, more.0, c.take_next.ensures.left, c.take_next.ensures.counts.0); second = omega (arith, more.1, c.take_next.ensures.left, c.take_next.ensures.counts.1) };
      goes_on = λ end rest. c.loop-division.invariant.goes_on end (goes_on c.args.boxes.now c.args.least d.sides.items c.take_next.new.division.sides.items end d.left c.take_next.new.division.left c.take_next.result (sym c.take_next.ensures.left) (sym same ∙ sym c.needy.ensures ∙ c.in_default.is) c.take_next.ensures.next c.take_next.ensures.taken rest);
    }
