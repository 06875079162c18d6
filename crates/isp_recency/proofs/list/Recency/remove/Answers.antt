use Rattle.std.proofs.Common.{ap, sym, subst, arith, ◌≡◌, ◌∙◌, take, drop, suc, ◌++◌}
use Rattle.std.specs.Option.{OnSome}
use Rattle.isp_recency.specs.Recent.{has, without, IsRecency}
use Rattle.isp_recency.proofs.RecentLaws.{after_remove, list_of}
use Rattle.isp_recency.proofs.Places.{taken_out, place_found, found_at}
use Rattle.isp_recency.proofs.list.Recency.remove.Goals as goal

-- the deque without the place that was found is the list without the number
gone : (c : goal.After-remove) → c.remove.new.self.items ≡ without c.self.inside.members.items c.args.i
gone c =
    let xs = c.self.inside.members.items in
    let found = found_at xs c.args.i c.in-Some.place (sym c.place_of.ensures ∙ c.in-Some.is) in
    let was = c.remove.ensures.succeeds 0 (omega (arith, found.0)) in
    taken_out xs c.remove.new.self.items c.args.i c.in-Some.place c.self.invariant.1.distinct (sym c.place_of.ensures ∙ c.in-Some.is)
    (subst (λ o. OnSome o (c.remove.new.self.items ≡ take c.in-Some.place xs ++ drop (suc c.in-Some.place) xs)) was c.remove.ensures.items)

pub invariant_of-self : goal.invariant_of-self
invariant_of-self c = (
  omega (arith, c.self.invariant.0, c.remove.ensures.capacity),
  subst (λ xs. IsRecency (list_of c.self.inside.size xs)) (sym (gone c)) (after_remove c.self.inside.size c.args.i c.self.inside.members.items c.self.invariant.1),
)

pub returns-in-Some-clause-list : goal.returns-in-Some-clause-list
returns-in-Some-clause-list c =
    ap (list_of c.self.inside.size) (gone c) ∙ ap (λ v. list_of v.size (without v.members c.args.i)) c.self.view_is

pub returns-in_default-clause-list : goal.returns-in_default-clause-list
returns-in_default-clause-list c =
    absurd (place_found c.self.inside.members.items c.args.i (ap (λ v. has v.members c.args.i) c.self.view_is ∙ c.requires) (sym c.place_of.ensures ∙ c.in_default.is))
