use Rattle.std.proofs.Common.{◌≡◌, ◌∙◌, sym, ap, length, rules}
use Rattle.isp_plain.specs.declared.statement.Reply.TheVariants as reply
use Rattle.isp_plain.specs.Does.{Change, update}
use Rattle.isp_plain.specs.Tables.{Table}
use Rattle.isp_plain.proofs.EntriesChanged.{update_is}
use Rattle.isp_plain.proofs.table.PlainTable.update_by.Goals as goal

pub returns-in-Some-clause-reply : goal.returns-in-Some-clause-reply
returns-in-Some-clause-reply c =
    let given = rw c.in-Some.is at c.in_ok-changed.ensures.changes in
    let table : Table = record { name = c.self.inside.name; schema = c.self.inside.schema; rows = c.self.inside.entries.entries } in
    let is = update_is c.args.sets.now c.args.condition.now table c.in-Some.changed.items given.0 given.1 c.in_ok-changed.ensures.ordered in
    let count : c.len-count.result ≡ length c.in-Some.changed.items = search rules in
    ap reply.Count count ∙ (sym (ap (λ (x : Change). x.reply) is) ∙ ap (λ t. (update c.args.sets.now c.args.condition.now t).reply) c.self.view_is)

pub returns-in-Some-clause-table : goal.returns-in-Some-clause-table
returns-in-Some-clause-table c =
    let given = rw c.in-Some.is at c.in_ok-changed.ensures.changes in
    let table : Table = record { name = c.self.inside.name; schema = c.self.inside.schema; rows = c.self.inside.entries.entries } in
    let is = update_is c.args.sets.now c.args.condition.now table c.in-Some.changed.items given.0 given.1 c.in_ok-changed.ensures.ordered in
    let written : Table = record table { rows = c.write.new.entries.entries } in
    let rows : written ≡ record table { rows = _ } = ap (λ rs. let t : Table = record table { rows = rs } in t) c.write.ensures in
    rows ∙ (sym (ap (λ (x : Change). x.table) is) ∙ ap (λ t. (update c.args.sets.now c.args.condition.now t).table) c.self.view_is)
