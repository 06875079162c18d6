use Rattle.std.proofs.Common.{map, sym, ◌∙◌, ap, subst}
use Rattle.isp_predlock.specs.Tables.{AreNamed, PredTable, id_of}
use Rattle.isp_predlock.proofs.InsideLaws.{ids_listed, named}
use Rattle.isp_predlock.proofs.table.PredLocks.ids.Goals as goal

pub returns-clause-ids : goal.returns-clause-ids
returns-clause-ids c =
    let t = c.self.inside in
    c.as_slice.ensures.value ∙ sym (ids_listed t.searches t.attached.keys t.order.items c.self.invariant.there) ∙ ap (λ (v : PredTable). map id_of v.searches) c.self.view_is

pub returns-clause-named : goal.returns-clause-named
returns-clause-named c =
    let t = c.self.inside in
    subst (λ (v : PredTable). AreNamed v.searches) c.self.view_is (named t.searches t.attached.keys t.order.items)
