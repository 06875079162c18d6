use Rattle.std.proofs.Common.{◌≡◌, ℕ, List, ◌∷◌, ◌++◌, [], filter_map, ap, sym, ◌∙◌, subst}
use Rattle.indexmap.specs.IndexSet.{spare}
use Rattle.isp_base.specs.Lists.{Has}
use Rattle.isp_predlock.specs.Inside.{held_at}
use Rattle.isp_predlock.specs.Tables.{HeldSearch, PredTable, is_there, with_begun}
use Rattle.isp_predlock.proofs.InsideLaws.{begun, begun_attached, begun_listed, begun_there, fresh}
use Rattle.isp_predlock.proofs.table.PredLocks.begin.Goals as goal

pub invariant_of-self-2 : goal.invariant_of-self-2
invariant_of-self-2 c =
    let t = c.self.inside in
    let k = c.self.invariant in
    let w = c.in_ok-id.ensures in
    let id : ℕ = c.in_ok-id.id in
    let items : c.push_reserved.new.self.items ≡ t.order.items ++ id ∷ [] =
    c.push_reserved.ensures.items ∙ ap (λ (l : List ℕ). l ++ id ∷ []) c.in_ok-reserve.ensures.items in
    record {
      there = λ j h. begun_there t.searches c.insert.new.self t.attached.keys t.order.items id c.args.sought.now k.there w.was_vacant (w.updates).changed (w.updates).others j
          (subst (λ (l : List ℕ). Has l j) items h);
      listed = λ j h. subst (λ (l : List ℕ). Has l j) (sym items)
          (begun_listed t.searches c.insert.new.self t.attached.keys t.order.items id c.args.sought.now k.listed (w.updates).others j h);
      attached = begun_attached t.searches c.insert.new.self t.attached.keys t.order.items id c.args.sought.now w.was_vacant (w.updates).others k.attached;
    }

pub returns-clause-begun : goal.returns-clause-begun
returns-clause-begun c =
    let t = c.self.inside in
    let k = c.self.invariant in
    let w = c.in_ok-id.ensures in
    let id : ℕ = c.in_ok-id.id in
    let items : c.push_reserved.new.self.items ≡ t.order.items ++ id ∷ [] =
    c.push_reserved.ensures.items ∙ ap (λ (l : List ℕ). l ++ id ∷ []) c.in_ok-reserve.ensures.items in
    ap (λ (l : List HeldSearch). record { searches = l; spare = spare t.attached })
    (ap (λ (l : List ℕ). filter_map (held_at c.insert.new.self t.attached.keys) l) items
    ∙ begun t.searches c.insert.new.self t.attached.keys t.order.items id c.args.sought.now k.there k.attached w.was_vacant (w.updates).changed (w.updates).others)
    ∙ ap (λ (v : PredTable). with_begun v id c.args.sought.now) c.self.view_is

pub returns-clause-fresh : goal.returns-clause-fresh
returns-clause-fresh c =
    let t = c.self.inside in
    ap (λ (v : PredTable). is_there v.searches c.in_ok-id.id) (sym c.self.view_is)
    ∙ fresh t.searches c.insert.new.self t.attached.keys t.order.items c.in_ok-id.id c.args.sought.now c.self.invariant.there c.in_ok-id.ensures.was_vacant
