use Rattle.std.proofs.Common.{sym, ◌∙◌, ap}
use Rattle.isp_predlock.specs.Tables.{PredTable, is_on}
use Rattle.isp_predlock.proofs.InsideLaws.{on_seen, pairs_same}
use Rattle.isp_predlock.proofs.table.PredLocks.is_on.Goals as goal

pub returns : goal.returns
returns c =
    c.contains.ensures ∙ pairs_same (record { search = c.args.id.0; page = c.args.page.0 }) c.self.inside.attached.keys
    ∙ sym (on_seen c.self.inside c.self.invariant c.args.id.0 c.args.page.0) ∙ ap (λ (v : PredTable). is_on v.searches c.args.id.0 c.args.page.0) c.self.view_is
