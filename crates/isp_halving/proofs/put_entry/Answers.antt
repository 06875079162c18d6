use Rattle.std.proofs.Common.{ℕ, List, sym, ◌∙◌, ap, subst}
use Rattle.isp_cells.proofs.CellLaws.{none_not}
use Rattle.isp_format.specs.Inner.{IsInnerPage}
use Rattle.isp_format.specs.Ranges.{Contents, page_of}
use Rattle.isp_growth.specs.Entries.{with_name}
use Rattle.isp_halving.proofs.put_entry.Goals as goal

pub returns-in_ok-replace-in-Some-clause-put : goal.returns-in_ok-replace-in-Some-clause-put
returns-in_ok-replace-in-Some-clause-put g c tells table names is few =
    let own = c.args.page.0 in
    let r = c.in_ok-read.ensures in
    let read : IsInnerPage c.read.new.into.bytes table own c.args.level names = subst (λ (bytes : List ℕ). IsInnerPage bytes table own c.args.level names) (sym (r.page tells)) is in
    let old_is = r.page tells ∙ sym (ap (λ (now : Contents). page_of now own) (r.contents tells)) in
    subst (λ (bytes : List ℕ). IsInnerPage bytes table own c.args.level (with_name (c.args.new.key, c.args.new.page.0) names)) (sym (c.in_ok-replace-in-Some.ensures.page tells old_is)) (c.in-Some.ensures.put table names read few)

pub returns-in-None-clause-sound : goal.returns-in-None-clause-sound
returns-in-None-clause-sound g c tells table names is few =
    let own = c.args.page.0 in
    let read : IsInnerPage c.read.new.into.bytes table own c.args.level names = subst (λ (bytes : List ℕ). IsInnerPage bytes table own c.args.level names) (sym (c.in_ok-read.ensures.page tells)) is in
    absurd (none_not c.with_entry.result c.in-None.is (c.with_entry.ensures.some table names read few))
