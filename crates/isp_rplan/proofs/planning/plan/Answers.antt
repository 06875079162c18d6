use Rattle.std.proofs.Common.{rules, ◌≡◌, ◌++◌, ◌∷◌, [], length, reverse}
use Rattle.isp_rplan.specs.declared.steps.Carry.TheVariants.{Added}
use Rattle.isp_rplan.proofs.BoxLaws.{plans_done, plans_popped}
use Rattle.isp_rplan.proofs.planning.plan.Goals as goal

pub up-preserved : goal.up-preserved
up-preserved c =
    let popped : c.up.pages.items ≡ c.pop.new.self.items ++ c.in-Some.page ∷ [] = c.in-Some.ensures.items in
    let joined : c.insert.new.self.items ≡ c.in_ok-step.step ∷ c.up.steps.items = c.in_ok-insert.ensures.items in
    plans_popped c.args.fanout c.args.b.now (reverse c.args.path.items) c.up.pages.items c.pop.new.self.items (Added c.args.b.now) c.up.carry c.in_ok-step.next c.in-Some.page c.in_ok-step.step c.up.steps.items c.insert.new.self.items
    popped joined c.in_ok-step.ensures.planned c.in_ok-step.ensures.carry c.up.invariant

pub returns : goal.returns
returns c =
    let none : length c.up.pages.items ≡ 0 = search rules in
    plans_done c.args.fanout c.args.b.now (reverse c.args.path.items) c.up.pages.items (Added c.args.b.now) c.up.carry c.up.steps.items none c.up.invariant
