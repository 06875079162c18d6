use Rattle.std.proofs.Common.{ℕ, List, filter, filter_map, ap, sym, ◌∙◌, subst}
use Rattle.isp_base.specs.Lists.{Has}
use Rattle.isp_predlock.specs.declared.table.Attached.{Attached}
use Rattle.isp_predlock.specs.Inside.{held_at, is_kept_pair}
use Rattle.isp_predlock.specs.Tables.{PredTable, without_session}
use Rattle.isp_predlock.proofs.InsideLaws.{gone, kept_attached, kept_there, still_listed}
use Rattle.isp_predlock.proofs.table.PredLocks.release_all.Goals as goal

pub invariant_of-self : goal.invariant_of-self
invariant_of-self c =
    let t = c.self.inside in
    let slab = c.drop_searches.new.searches in
    let items = c.keep_order.ensures in
    record {
      there = λ id h. kept_there slab t.order.items id (subst (λ (l : List ℕ). Has l id) items h);
      listed = λ id h. subst (λ (l : List ℕ). Has l id) (sym items) (still_listed t.searches slab c.args.session c.drop_searches.ensures t.order.items c.self.invariant.listed id h);
      attached = λ a h. kept_attached slab t.attached.keys a (subst (λ (l : List Attached). Has l a) c.keep_attached.ensures.kept h);
    }

pub returns-clause-searches : goal.returns-clause-searches
returns-clause-searches c =
    let t = c.self.inside in
    let slab = c.drop_searches.new.searches in
    ap (λ (l : List Attached). filter_map (held_at slab l) c.keep_order.new.order.items) c.keep_attached.ensures.kept
    ∙ ap (λ (l : List ℕ). filter_map (held_at slab (filter (is_kept_pair slab) t.attached.keys)) l) c.keep_order.ensures
    ∙ gone t.searches slab c.args.session c.drop_searches.ensures t.attached.keys t.order.items
    ∙ ap (λ (v : PredTable). without_session v.searches c.args.session) c.self.view_is
