use Rattle.isp_run.proofs.PlaceLaws.{made_file}
use Rattle.isp_run.proofs.making.make_on.Goals as goal

pub returns-in-Ok-clause-made : goal.returns-in-Ok-clause-made
returns-in-Ok-clause-made g c = λ tells is. made_file c.args.pages c.args.fanout (g.W.World.image c.make.new.world) (c.in-Ok.ensures.made tells)
