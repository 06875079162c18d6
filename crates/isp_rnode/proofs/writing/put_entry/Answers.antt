use Rattle.std.proofs.Common.{rules, ◌∙◌, ap, sym}
use Rattle.std.specs.Prelude.{FitsSigned}
use Rattle.std.specs.Int.{w64}
use Rattle.std.proofs.lemmas.Int.{to_z-of_z}
use Rattle.isp_forest.specs.declared.entry.To.TheVariants.{Child, Row}
use Rattle.isp_rnode.specs.Nodes.{child_bytes}
use Rattle.isp_rnode.proofs.PutLaws.{entry_put, row_entry, child_entry}
use Rattle.isp_rnode.proofs.writing.put_entry.Goals as goal

pub returns-in-Row-clause-put : goal.returns-in-Row-clause-put
returns-in-Row-clause-put c =
    let fits : FitsSigned w64 c.in-Row.key = search rules in
    let is = c.in-Row.is ∙ ap (λ key. Row key c.in-Row.number) (sym (to_z-of_z w64 c.in-Row.key fits)) in
    entry_put c.args.p.now.bytes c.put_box.new.p.bytes c.put_row.new.p.bytes c.args.at c.args.e.now _ is c.put_box.ensures.put c.put_row.ensures.put

pub returns-in-Row-clause-back : goal.returns-in-Row-clause-back
returns-in-Row-clause-back c =
    let fits : FitsSigned w64 c.in-Row.key = search rules in
    let is = c.in-Row.is ∙ ap (λ key. Row key c.in-Row.number) (sym (to_z-of_z w64 c.in-Row.key fits)) in
    λ level kind. row_entry level c.put_box.new.p.bytes c.put_row.new.p.bytes c.args.at _ c.args.e.now _ c.in-Row.number is c.put_row.ensures.put c.put_box.ensures.back c.put_row.ensures.back kind

pub returns-in-Child-clause-put : goal.returns-in-Child-clause-put
returns-in-Child-clause-put c = entry_put c.args.p.now.bytes c.put_box.new.p.bytes c.put_child.new.p.bytes c.args.at c.args.e.now (Child c.in-Child.page) c.in-Child.is c.put_box.ensures.put c.put_child.ensures.put

pub returns-in-Child-clause-back : goal.returns-in-Child-clause-back
returns-in-Child-clause-back c = λ level kind. child_entry level c.put_box.new.p.bytes c.put_child.new.p.bytes c.args.at (child_bytes c.in-Child.page.0) c.args.e.now c.in-Child.page.0 c.in-Child.is c.put_child.ensures.put c.put_box.ensures.back c.put_child.ensures.back kind
