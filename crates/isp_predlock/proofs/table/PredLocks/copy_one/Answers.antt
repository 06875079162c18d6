use Rattle.std.proofs.Common.{sym, ◌∙◌}
use Rattle.isp_predlock.specs.Tables.{is_copied}
use Rattle.isp_predlock.proofs.CallLaws.{copied_none, copied_one, passing_there}
use Rattle.isp_predlock.proofs.table.PredLocks.copy_one.Goals as goal

pub attach-requires-clause-there : goal.attach-requires-clause-there
attach-requires-clause-there c =
    passing_there c.args.self.now.searches c.args.id.0 (is_copied c.args.from.0 c.args.b.now) (sym c.is_copied.ensures ∙ c.if-is_copied.true)

pub returns-then-is_copied-clause-copied : goal.returns-then-is_copied-clause-copied
returns-then-is_copied-clause-copied c =
    c.attach.ensures.attached
    ∙ copied_one c.args.self.now.searches c.requires.named c.args.id.0 c.args.from.0 c.args.to.0 c.args.b.now (sym c.is_copied.ensures ∙ c.if-is_copied.true)

pub returns-else-is_copied-clause-copied : goal.returns-else-is_copied-clause-copied
returns-else-is_copied-clause-copied c =
    copied_none c.args.self.now.searches c.requires.named c.args.id.0 c.args.from.0 c.args.to.0 c.args.b.now (sym c.is_copied.ensures ∙ c.if-is_copied.false)
