use Rattle.std.proofs.Common.{◌≡◌, ℕ, Bool, true, false, cond, is_some, List, ◌∷◌, ◌++◌, [], filter_map, ap, sym, ◌∙◌, subst}
use Rattle.std.specs.List.{list_any}
use Rattle.slab.specs.Slab.{get}
use Rattle.isp_base.specs.Lists.{Has}
use Rattle.isp_forest.specs.Steps.{is_among}
use Rattle.isp_searches.proofs.SeesLaws.{among_has}
use Rattle.isp_predlock.specs.declared.table.Attached.{Attached}
use Rattle.isp_predlock.specs.Inside.{held_at}
use Rattle.isp_predlock.specs.Tables.{PredTable, is_on, is_there, with_page_at}
use Rattle.isp_predlock.proofs.InsideLaws.{attached_after, attached_there, ids_listed, is_pair, on_seen, pairs_same}
use Rattle.isp_predlock.proofs.table.PredLocks.attach.Goals as goal

pub returns-then-contains-clause-attached : goal.returns-then-contains-clause-attached
returns-then-contains-clause-attached c =
    let t = c.self.inside in
    let pairs : List Attached = t.attached.keys in
    let is : list_any (is_pair c.args.id.0 c.args.page.0) pairs ≡ true =
    sym (pairs_same (record { search = c.args.id.0; page = c.args.page.0 }) pairs) ∙ sym c.contains.ensures ∙ c.if-contains.true in
    ap (λ (v : PredTable). v.searches) (sym c.self.view_is) ∙ attached_after pairs c.args.id.0 c.args.page.0 true is t.searches t.order.items
    ∙ ap (λ (v : PredTable). with_page_at v.searches c.args.id.0 c.args.page.0) c.self.view_is

pub invariant_of-self : goal.invariant_of-self
invariant_of-self c =
    let t = c.self.inside in
    let k = c.self.invariant in
    let id : ℕ = c.args.id.0 in
    let pairs : List Attached = t.attached.keys in
    let pair : Attached = record { search = id; page = c.args.page.0 } in
    let is : list_any (is_pair id c.args.page.0) pairs ≡ false = sym (pairs_same pair pairs) ∙ sym c.contains.ensures ∙ c.if-contains.false in
    let keys : c.insert.new.self.keys ≡ pairs ++ pair ∷ [] =
    c.in-Ok.ensures.keys ∙ ap (λ (b : Bool). cond b pairs (pairs ++ pair ∷ [])) (pairs_same pair pairs ∙ is) in
    let among : is_among t.order.items id ≡ true =
    ap (λ (ids : List ℕ). is_among ids id) (sym (ids_listed t.searches pairs t.order.items k.there)) ∙ ap (λ (v : PredTable). is_there v.searches id) c.self.view_is ∙ c.requires.there in
    let there : is_some (get t.searches id) ≡ true = k.there id (among_has t.order.items id among) in
    record {
      there = k.there;
      listed = k.listed;
      attached = λ a h. attached_there pairs id c.args.page.0 false is t.searches k.attached there a (subst (λ (l : List Attached). Has l a) keys h);
    }

pub returns-clause-attached : goal.returns-clause-attached
returns-clause-attached c =
    let t = c.self.inside in
    let id : ℕ = c.args.id.0 in
    let pairs : List Attached = t.attached.keys in
    let pair : Attached = record { search = id; page = c.args.page.0 } in
    let is : list_any (is_pair id c.args.page.0) pairs ≡ false = sym (pairs_same pair pairs) ∙ sym c.contains.ensures ∙ c.if-contains.false in
    let keys : c.insert.new.self.keys ≡ pairs ++ pair ∷ [] =
    c.in-Ok.ensures.keys ∙ ap (λ (b : Bool). cond b pairs (pairs ++ pair ∷ [])) (pairs_same pair pairs ∙ is) in
    ap (λ (l : List Attached). filter_map (held_at t.searches l) t.order.items) keys
    ∙ attached_after pairs id c.args.page.0 false is t.searches t.order.items
    ∙ ap (λ (v : PredTable). with_page_at v.searches id c.args.page.0) c.self.view_is

pub returns-clause-again : goal.returns-clause-again
returns-clause-again c = λ on.
    (let t = c.self.inside in
    let id : ℕ = c.args.id.0 in
    let pairs : List Attached = t.attached.keys in
    let pair : Attached = record { search = id; page = c.args.page.0 } in
    let is : list_any (is_pair id c.args.page.0) pairs ≡ false = sym (pairs_same pair pairs) ∙ sym c.contains.ensures ∙ c.if-contains.false in
    let off : true ≡ false =
    sym on ∙ ap (λ (v : PredTable). is_on v.searches id c.args.page.0) (sym c.self.view_is) ∙ on_seen t c.self.invariant id c.args.page.0 ∙ is in
    let never : ⊥ = cc in
    absurd never)
