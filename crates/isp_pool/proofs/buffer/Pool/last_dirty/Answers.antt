use Rattle.std.proofs.Common.{sym, ap, ◌∙◌, ◌≡◌, ℕ, refl}
use Rattle.isp_recency.specs.Recent.{has, last_where}
use Rattle.isp_pool.specs.Frames.{frame_at, frame_in, is_held, is_cleanable}
use Rattle.isp_pool.proofs.OrderLaws.{by_flags, last_cleanable, none_cleanable}
use Rattle.isp_pool.proofs.buffer.Pool.last_dirty.Goals as goal

-- the answer in words of what contracts see
which : (c : goal.After-last_where_free) → c.last_where_free.result ≡ last_where (λ frame. is_cleanable (frame_at c.args.self.now frame)) c.args.self.now.recent
which c =
    let p = c.self.inside in
    c.last_where_free.ensures
    ∙ by_flags is_cleanable refl p.frames.items c.deref.result.now p.recency.members (c.deref.ensures.value ∙ c.self.invariant.free_to_clean)
    ∙ ap (λ v. last_where (λ i. is_cleanable (frame_at v i)) v.recent) c.self.view_is

members : (c : goal.After-last_where_free) → (j : ℕ) → has c.args.self.now.recent j ≡ is_held (frame_in c.args.self.now.frames j)
members c j = ap (λ v. has v.recent j) (sym c.self.view_is) ∙ c.self.invariant.recent j ∙ ap (λ v. is_held (frame_at v j)) c.self.view_is

pub returns-clause-which : goal.returns-clause-which
returns-clause-which c = which c

pub returns-clause-dirty : goal.returns-clause-dirty
returns-clause-dirty c = last_cleanable c.args.self.now.frames c.args.self.now.recent c.last_where_free.result (which c)

pub returns-clause-none : goal.returns-clause-none
returns-clause-none c = λ e. none_cleanable c.args.self.now.frames c.args.self.now.recent (members c) (sym (which c) ∙ e)
