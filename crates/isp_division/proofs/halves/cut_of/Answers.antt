use Rattle.std.proofs.Common.{rules, ◌+◌, refl, sym, ◌∙◌, arith}
use Rattle.isp_disk.specs.Moments.{image_of}
use Rattle.isp_division.proofs.CutLaws.{cut_begins, cut_few, cut_found, cut_on, cut_some, kept_cut, over_at}
use Rattle.isp_division.proofs.halves.cut_of.Goals as goal

pub loop-at-init : goal.loop-at-init
loop-at-init c = (omega arith, omega arith, λ rows st large small. cut_begins (image_of c.args.c.now.bytes) c.args.used rows st large)

pub returns-in_default-clause-cut : goal.returns-in_default-clause-cut
returns-in_default-clause-cut c rows st large small =
    absurd (cut_some (image_of c.args.c.now.bytes) c.args.used rows c.loop-at.at c.loop-at.rows c.size_at.result c.loop-at-test.true (c.loop-at.invariant.2 rows st large small) c.size_at.ensures.stands (search rules))

pub returns-then-used-at-clause-cut : goal.returns-then-used-at-clause-cut
returns-then-used-at-clause-cut c rows st large small =
    let is = cut_found (image_of c.args.c.now.bytes) c.args.used rows c.loop-at.at c.loop-at.rows c.in-Some.size (c.loop-at.at + c.in-Some.size) c.loop-at-test.true (c.loop-at.invariant.2 rows st large small) (λ s more there. sym c.in-Some.is ∙ c.size_at.ensures.stands s more there) refl c.if-used-at.true in
    c.cut_at.ensures ∙ kept_cut (c.loop-at.at + c.in-Some.size) (c.loop-at.rows + 1) rows is (cut_few (image_of c.args.c.now.bytes) c.args.used rows st large small)

pub loop-at-preserved : goal.loop-at-preserved
loop-at-preserved c =
    let within = c.in-Some.ensures.within in
    let least = within.0 in
    let most = within.1 in
    let counted = c.loop-at.invariant.1 in
    let far = c.if-used-at.false in (
      most,
      omega (arith, least, counted),
      λ rows st large small.
          cut_on (image_of c.args.c.now.bytes) c.args.used rows c.loop-at.at c.loop-at.rows c.in-Some.size (c.loop-at.at + c.in-Some.size) c.loop-at-test.true (c.loop-at.invariant.2 rows st large small) (λ s more there. sym c.in-Some.is ∙ c.size_at.ensures.stands s more there) refl far,
    )

pub returns-clause-cut : goal.returns-clause-cut
returns-clause-cut c rows st large small = absurd (over_at (image_of c.args.c.now.bytes) c.args.used rows c.loop-at.at c.loop-at.rows c.loop-at-test.false (c.loop-at.invariant.2 rows st large small))
