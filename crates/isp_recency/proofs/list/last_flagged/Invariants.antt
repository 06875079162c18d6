use Rattle.std.proofs.Common.{◌≡◌, take, false, slice_index_or}
use Rattle.isp_recency.specs.Recent.{last_where}
use Rattle.isp_recency.proofs.list.last_flagged.Given as goal

abbrev pub invariant-loop-place : goal.invariant-loop-place
invariant-loop-place l = last_where (λ i. slice_index_or l.free i false) l.members.items ≡ last_where (λ i. slice_index_or l.free i false) (take l.place l.members.items)
