use Rattle.isp_run.proofs.RunLaws.{front_behind, ran_behind}
use Rattle.isp_run.proofs.running.run_file.Goals as goal

pub returns-in-Ok-true-clause-serial : goal.returns-in-Ok-true-clause-serial
returns-in-Ok-true-clause-serial g c = λ source world done.
    let looks = c.in-Ok-true.ensures.looks in
    ran_behind (g.S.Source.left c.args.script.now) (g.W.World.printed c.args.world) (g.W.World.printed c.is_made.new.world) (g.W.World.printed c.run_script.result.1)
    (g.W.World.image c.args.world) (g.W.World.image c.is_made.new.world) (g.W.World.image c.run_script.result.1) looks.printed looks.image (c.run_script.ensures.serial source world done)

pub returns-in-Ok-true-clause-front : goal.returns-in-Ok-true-clause-front
returns-in-Ok-true-clause-front g c = λ source world.
    let looks = c.in-Ok-true.ensures.looks in
    front_behind (g.S.Source.left c.args.script.now) (g.S.Source.left c.run_script.new.script) (g.W.World.printed c.args.world) (g.W.World.printed c.is_made.new.world) (g.W.World.printed c.run_script.result.1)
    (g.W.World.image c.args.world) (g.W.World.image c.is_made.new.world) looks.printed looks.image (c.run_script.ensures.front source world)
