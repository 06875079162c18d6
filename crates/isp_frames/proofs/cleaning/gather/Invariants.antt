use Rattle.std.proofs.Common.{◌≡◌, ◌≤◌, ◌-◌, length, vec_capacity}
use Rattle.isp_frames.specs.Gathered.{IsTaken}
use Rattle.isp_frames.proofs.cleaning.gather.Given as goal

abbrev pub invariant-taking : goal.invariant-taking
invariant-taking l = record {
  taken : IsTaken l.fn.pool l.pool l.batch.items;
  most : length l.batch.items ≤ 64;
  room : vec_capacity l.batch ≡ vec_capacity l.fn.batch;
}

abbrev pub decreases-taking : goal.decreases-taking
decreases-taking l = 64 - length l.batch.items
