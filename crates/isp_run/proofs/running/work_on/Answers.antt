use Rattle.isp_run.proofs.WorkLaws.{all_done, placing_stops, play_stops}
use Rattle.isp_run.proofs.running.work_on.Goals as goal

pub returns-in-Ok : goal.returns-in-Ok
returns-in-Ok g c =
    let e = c.play.ensures in
    let s = c.in-Ok.ensures in
    record {
      worked = all_done g.W.World c.args.script.now e.small c.args.store c.play.result.1 c.checkpoint.new.self c.play.result.0 _ c.in-Ok-default.is-0 e.stays e.played s.flushed s.contents s.in_place;
    }

pub returns-in-Err : goal.returns-in-Err
returns-in-Err g c =
    let e = c.play.ensures in
    let s = c.in-Err.ensures in
    record {
      worked = placing_stops g.W.World c.args.script.now e.small c.args.store c.play.result.1 c.checkpoint.new.self c.play.result.0 _ c.in-Ok-default.is-0 c.in-Err.fault c.status_of.result c.status_of.ensures
          e.stays e.played s.flushed s.sound;
    }

pub returns-in-Err-default : goal.returns-in-Err-default
returns-in-Err-default g c =
    let e = c.play.ensures in
    record {
      worked = play_stops g.W.World c.args.script.now e.small c.args.store c.play.result.1 c.play.result.0 c.in-Err-default.fault c.in-Err-default.is-0 c.status_of-in-Err-default.result c.status_of-in-Err-default.ensures
          e.stays e.part e.sound e.later;
    }
