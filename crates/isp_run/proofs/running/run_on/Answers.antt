use Rattle.isp_run.proofs.StartLaws.{opened_runs}
use Rattle.isp_run.proofs.running.run_on.Goals as goal

pub returns-in-Ok : goal.returns-in-Ok
returns-in-Ok g c = record {
  runs = opened_runs g.W.World c.args.script.now c.args.world c.work.result.1 c.in-Ok.store c.args.frames c.work.result.0
      c.in-Ok.ensures.started c.in-Ok.ensures.fresh c.in-Ok.ensures.kept c.work.ensures.worked;
}
