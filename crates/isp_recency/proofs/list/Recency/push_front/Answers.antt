use Rattle.std.proofs.Common.{ap, sym, subst, arith, ◌≡◌, ◌∙◌, false}
use Rattle.isp_recency.specs.Recent.{has, IsRecency}
use Rattle.isp_recency.proofs.RecentLaws.{after_push, room, list_of}
use Rattle.isp_recency.proofs.list.Recency.push_front.Goals as goal

pub push_front_reserved-requires : goal.push_front_reserved-requires
push_front_reserved-requires c =
    let size : c.self.inside.size ≡ c.args.self.now.size = ap (λ v. v.size) c.self.view_is in
    let absent : has c.self.inside.members.items c.args.i ≡ false = ap (λ v. has v.members c.args.i) c.self.view_is ∙ c.requires.absent in
    let few = room c.self.inside.size c.args.i c.self.inside.members.items c.self.invariant.1 (omega arith) absent in
    omega (arith, c.self.invariant.0)

pub invariant_of-self : goal.invariant_of-self
invariant_of-self c =
    let size : c.self.inside.size ≡ c.args.self.now.size = ap (λ v. v.size) c.self.view_is in
    let absent : has c.self.inside.members.items c.args.i ≡ false = ap (λ v. has v.members c.args.i) c.self.view_is ∙ c.requires.absent in (
      omega (arith, c.self.invariant.0, c.push_front_reserved.ensures.capacity),
      subst (λ xs. IsRecency (list_of c.self.inside.size xs)) (sym c.push_front_reserved.ensures.items)
          (after_push c.self.inside.size c.args.i c.self.inside.members.items c.self.invariant.1 (omega arith) absent),
    )
