use Rattle.std.proofs.Common.{rules, Bool, subst}
use Rattle.isp_work.specs.Works.{change_by}
use Rattle.isp_writes.specs.Writing.{WritesOrFull}
use Rattle.isp_exec.proofs.changing.change_at.Goals as goal

pub returns-in_err-write_row-clause-sound : goal.returns-in_err-write_row-clause-sound
returns-in_err-write_row-clause-sound g c tells defs d place opened at writable =
    let sound = c.in_err-write_row.ensures.sound tells defs d place opened at writable in
    search (rules, sound, c.from_residual.ensures)

pub returns-then-branch-clause-changed : goal.returns-then-branch-clause-changed
returns-then-branch-clause-changed g c tells defs d place opened at writable =
    subst (λ (b : Bool). WritesOrFull g.P.Pages c.write_row.new.pages defs c.write_row.new.trx (change_by c.args.deletes place c.args.row.now) d b) c.if-branch.true
    (c.in_ok-write_row.ensures.wrote tells defs d place opened at writable)

pub returns-else-branch-clause-changed : goal.returns-else-branch-clause-changed
returns-else-branch-clause-changed g c tells defs d place opened at writable =
    subst (λ (b : Bool). WritesOrFull g.P.Pages c.write_row.new.pages defs c.write_row.new.trx (change_by c.args.deletes place c.args.row.now) d b) c.if-branch.false
    (c.in_ok-write_row.ensures.wrote tells defs d place opened at writable)
