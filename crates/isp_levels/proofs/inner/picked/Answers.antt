use Rattle.std.proofs.Common.{ℤ, ◌+◌, ◌-◌, ◌∙◌, ap, arith}
use Rattle.std.specs.Int.{w64}
use Rattle.std.proofs.lemmas.Int.{to_z-of_z}
use Rattle.isp_disk.specs.Moments.{image_of}
use Rattle.isp_levels.specs.Inners.{page_in_name, number_of}
use Rattle.isp_levels.specs.Levels.{pick}
use Rattle.isp_levels.proofs.InnerLaws.{pick_ends, pick_on}
use Rattle.isp_levels.proofs.inner.picked.Goals as goal

pub loop-x-preserved : goal.loop-x-preserved
loop-x-preserved c =
    let at = c.loop-x.invariant.0 in
    let before = c.loop-x-test.true in (
      omega (arith, at),
      λ table own level names is count.
          pick_on (image_of c.args.p.now.bytes) _ names c.loop-x.at (c.args.count - c.loop-x._x) (c.args.count - (c.loop-x._x + 1)) (number_of c.loop-x.found) (number_of c.better-found.result) (omega (arith, before)) (c.loop-x.invariant.1 table own level names is count) c.better-found.ensures,
    )

pub returns : goal.returns
returns c table own level names is count =
    let key = to_z-of_z w64 c.args.key c.ranges.key in
    let behind = c.loop-x-test.false in
    pick_ends (image_of c.args.p.now.bytes) _ names c.loop-x.at (c.args.count - c.loop-x._x) (number_of c.loop-x.found) (omega (arith, behind)) (c.loop-x.invariant.1 table own level names is count)
    ∙ ap (λ (k : ℤ). page_in_name (pick k names)) key
