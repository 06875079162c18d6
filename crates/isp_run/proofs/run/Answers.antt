use Rattle.std.proofs.Common.{Some, ◌∙◌, ap, sym}
use Rattle.std.specs.Prelude.{map, string_bytes}
use Rattle.isp_words.specs.Commands.{command_of}
use Rattle.isp_run.proofs.CommandLaws.{due_on_run, made_numbers}
use Rattle.isp_run.proofs.run.Goals as goal

pub make_file-requires-clause-fanout : goal.make_file-requires-clause-fanout
make_file-requires-clause-fanout g c =
    (made_numbers (map string_bytes c.args.words.now) c.in-Some-Make.pages c.in-Some-Make.fanout (sym c.in-Some-Make.ensures ∙ ap Some c.in-Some-Make.field-0-is)).1

pub returns-in-Some-Make-clause-tidy : goal.returns-in-Some-Make-clause-tidy
returns-in-Some-Make-clause-tidy g c = λ world is. (c.make_file.ensures.made world is).tidy

pub returns-in-Some-Run-clause-complete : goal.returns-in-Some-Run-clause-complete
returns-in-Some-Run-clause-complete g c = λ source world.
    due_on_run (command_of (map string_bytes c.args.words.now)) c.run_file.result.0 (g.S.Source.left c.args.script.now) (g.W.World.image c.args.world)
    (g.S.Source.faults c.args.script.now) (g.S.Source.faults c.run_file.new.script) (g.W.World.disk_faults c.args.world) (g.W.World.disk_faults c.run_file.result.1)
    (g.W.World.print_faults c.args.world) (g.W.World.print_faults c.run_file.result.1)
    c.run_file.ensures.statuses (c.run_file.ensures.gate world).1 (λ line is. c.run_file.ensures.bad line is source) (c.run_file.ensures.damaged world)
    c.run_file.ensures.read_fault c.run_file.ensures.disk_fault c.run_file.ensures.print_fault
