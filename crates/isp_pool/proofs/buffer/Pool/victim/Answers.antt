use Rattle.std.proofs.Common.{arith, sym, ap, subst, ◌∙◌, ◌≡◌, ◌<◌, length, true, ℕ, refl, Option}
use Rattle.std.specs.Option.{option_or}
use Rattle.isp_recency.specs.Recent.{has, last_where}
use Rattle.isp_pool.specs.Frames.{frame_at, frame_in, is_held, is_unpinned, victim_of}
use Rattle.isp_pool.proofs.OrderLaws.{by_flags, first_place, no_place, victim_unpinned, all_pinned, all_held}
use Rattle.isp_pool.proofs.buffer.Pool.victim.Goals as goal

pub returns-then-self-len-clause-which : goal.returns-then-self-len-clause-which
returns-then-self-len-clause-which c =
    let p = c.self.inside in
    let rest : Option ℕ = last_where (λ i. is_unpinned (frame_in p.frames.items i)) p.recency.members in
    ap (λ o. option_or o rest) (sym (first_place p.frames.items p.fresh c.self.invariant.first (omega (arith, c.len.ensures)))) ∙ ap victim_of c.self.view_is

-- the last unpinned frame by the frames as they are kept
last : (c : goal.After-last_where_free) → c.last_where_free.result ≡ last_where (λ i. is_unpinned (frame_in c.self.inside.frames.items i)) c.self.inside.recency.members
last c =
    let p = c.self.inside in
    c.last_where_free.ensures ∙ by_flags is_unpinned refl p.frames.items c.deref.result.now p.recency.members (c.deref.ensures.value ∙ c.self.invariant.free_to_go)

pub returns-clause-which : goal.returns-clause-which
returns-clause-which c =
    let p = c.self.inside in
    let rest : Option ℕ = last_where (λ i. is_unpinned (frame_in p.frames.items i)) p.recency.members in
    last c ∙ ap (λ o. option_or o rest) (sym (no_place p.frames.items p.fresh c.self.invariant.first (omega (arith, c.len.ensures)))) ∙ ap victim_of c.self.view_is

pub returns-clause-unpinned : goal.returns-clause-unpinned
returns-clause-unpinned c =
    victim_unpinned c.args.self.now.frames c.args.self.now.recent c.last_where_free.result
    (last c ∙ ap (λ v. last_where (λ i. is_unpinned (frame_at v i)) v.recent) c.self.view_is)

pub returns-clause-none : goal.returns-clause-none
returns-clause-none c = λ e frame lt.
    let p = c.self.inside in
    let now = c.args.self.now in
    let held : is_held (frame_at now frame) ≡ true =
    ap (λ v. is_held (frame_at v frame)) (sym c.self.view_is)
    ∙ all_held p.frames.items p.fresh c.self.invariant.first (omega (arith, c.len.ensures)) frame (subst (λ v. frame < length v.frames) (sym c.self.view_is) lt) in
    all_pinned now.frames now.recent (λ j. ap (λ v. has v.recent j) (sym c.self.view_is) ∙ c.self.invariant.recent j ∙ ap (λ v. is_held (frame_at v j)) c.self.view_is)
    (sym (last c ∙ ap (λ v. last_where (λ i. is_unpinned (frame_at v i)) v.recent) c.self.view_is) ∙ e) frame held
