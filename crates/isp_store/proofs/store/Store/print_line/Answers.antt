use Rattle.isp_store.proofs.Fields.{prints_line, prints_part, store_printed, whole_line}
use Rattle.isp_store.proofs.store.Store.print_line.Goals as goal

pub invariant_of-self : goal.invariant_of-self
invariant_of-self g c = store_printed g.W.World c.self.inside c.print.new.self c.args.line.now c.print.result c.print.ensures.others c.print.ensures.printed c.self.invariant

pub invariant_of-self-2 : goal.invariant_of-self-2
invariant_of-self-2 g c = store_printed g.W.World c.self.inside c.print.new.self c.args.line.now c.print.result c.print.ensures.others c.print.ensures.printed c.self.invariant

pub returns-in-Err-clause-printed : goal.returns-in-Err-clause-printed
returns-in-Err-clause-printed g c = prints_part g.W.World c.self.inside c.args.self.now c.self.view_is c.requires.usable c.print.new.self c.print.ensures.others c.self.invariant c.args.line.now _ _ c.in-Err.ensures.printed

pub returns-clause-printed : goal.returns-clause-printed
returns-clause-printed g c = prints_line g.W.World c.self.inside c.args.self.now c.self.view_is c.requires.usable c.print.new.self c.print.ensures.others c.self.invariant c.args.line.now _ c.in-Ok.ensures.printed

pub returns-in-Err-clause-whole : goal.returns-in-Err-clause-whole
returns-in-Err-clause-whole g c =
    whole_line g.W.World c.self.inside c.args.self.now c.self.view_is c.requires.usable c.print.new.self c.print.ensures.others c.self.invariant c.args.line.now c.print.result (λ left printed since. g.met.W.World.only_now c.self.inside.cache.stable.world left printed since) c.print.ensures.printed

pub returns-clause-whole : goal.returns-clause-whole
returns-clause-whole g c =
    whole_line g.W.World c.self.inside c.args.self.now c.self.view_is c.requires.usable c.print.new.self c.print.ensures.others c.self.invariant c.args.line.now c.print.result (λ left printed since. g.met.W.World.only_now c.self.inside.cache.stable.world left printed since) c.print.ensures.printed
