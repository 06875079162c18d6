use Rattle.std.proofs.Common.{◌∙◌, ◌++◌, ◌-◌, ◌+◌, ◌<◌, [], ◌∷◌, unwrap_or, get_or, length, ap, arith, length-append}
use Rattle.isp_waits.specs.Levels.{walk}
use Rattle.isp_waits.proofs.LevelLemmas.{walk_on, walk_done, next_on}
use Rattle.isp_waits.proofs.graph.Waits.trace.Goals as goal

pub loop-left-preserved : goal.loop-left-preserved
loop-left-preserved c =
    let size = c.loop-left.invariant.1 in
    let some = c.loop-left-test.true in
    let lt : c.loop-left.left - 1 < c.args.steps = omega arith in
    let on = (c.requires.levels (c.loop-left.left - 1) lt).1 in
    let onward = c.unwrap_or-at.ensures ∙ ap (λ o. unwrap_or o 0) c.least_on.ensures
    ∙ next_on c.args.self.now c.args.s (c.loop-left.left - 1) (get_or c.args.levels.now (c.loop-left.left - 1) []) on c.loop-left.at in (
      ap (λ items. items ++ walk c.args.self.now c.args.s (c.loop-left.left - 1) c.unwrap_or-at.result) c.push_reserved.ensures.items
          ∙ walk_on c.args.self.now c.args.s c.loop-left.left c.loop-left.at c.unwrap_or-at.result c.loop-left.members.items _ some onward c.loop-left.invariant.0,
      ap (λ items. length items + (c.loop-left.left - 1)) c.push_reserved.ensures.items ∙ omega (arith, length-append c.loop-left.members.items (c.loop-left.at ∷ [])),
      c.push_reserved.ensures.capacity ∙ c.loop-left.invariant.2,
    )

pub returns : goal.returns
returns c = walk_done c.args.self.now c.args.s c.loop-left.left c.loop-left.at c.loop-left.members.items _ (let t = c.loop-left-test.false in omega arith) c.loop-left.invariant.0
