use Rattle.isp_script.proofs.LimitLaws.{script_is_alone}
use Rattle.isp_run.proofs.RunLaws.{front_of}
use Rattle.isp_run.proofs.running.run_script.Goals as goal

pub run_on-requires-clause-slots : goal.run_on-requires-clause-slots
run_on-requires-clause-slots g c = rw c.in-Ok-Script.field-0-is at c.in-Ok-Script.ensures.slots

pub returns-in-Ok-Script-clause-serial : goal.returns-in-Ok-Script-clause-serial
returns-in-Ok-Script-clause-serial g c = λ source world done first is_kept.
    let is = rw c.in-Ok-Script.field-0-is at c.in-Ok-Script.ensures.found source in
    let alone = script_is_alone (g.S.Source.left c.args.script.now) c.in-Ok-Script.read is in
    (c.in-Ok-Script.read, is, c.run_on.ensures.runs.ran world alone done first is_kept)

pub returns-in-Ok-Script-clause-front : goal.returns-in-Ok-Script-clause-front
returns-in-Ok-Script-clause-front g c = λ source world.
    let is = rw c.in-Ok-Script.field-0-is at c.in-Ok-Script.ensures.found source in
    let end = (rw c.in-Ok-Script.field-0-is at c.in-Ok-Script.ensures.end source) tt in
    let alone = script_is_alone (g.S.Source.left c.args.script.now) c.in-Ok-Script.read is in
    front_of (g.S.Source.left c.args.script.now) (g.S.Source.left c.find_script.new.source) (g.W.World.printed c.args.world) (g.W.World.printed c.run_on.result.1) (g.W.World.image c.args.world)
    c.in-Ok-Script.read end is (c.run_on.ensures.runs.front world alone)
