use Rattle.std.proofs.Common.{subst}
use Rattle.isp_frames.proofs.StayLaws.{kept_ok}
use Rattle.isp_pool.specs.Frames.{IsPool}
use Rattle.isp_store.proofs.Keeping.{cached_of, running_held, stays_failed, stays_kept, steady_of}
use Rattle.isp_store.proofs.Putting.{held_after}
use Rattle.isp_store.proofs.reading.read_page.Goals as goal

pub read-requires-clause-steady : goal.read-requires-clause-steady
read-requires-clause-steady g c = steady_of g.W.World c.args.cache.now c.requires.running.0 c.requires.running.1

pub returns-in_err-read-clause-kept : goal.returns-in_err-read-clause-kept
returns-in_err-read-clause-kept g c = λ extents running.
    stays_failed g.W.World c.args.cache.now c.read.new.self extents extents _ _ c.from_residual.ensures.0 running c.in_err-read.ensures.kept

pub returns-clause-kept : goal.returns-clause-kept
returns-clause-kept g c = λ extents running.
    let w = g.W.World in
    let old = c.args.cache.now in
    let new = c.read.new.self in
    let read = c.in_ok-read.ensures in
    stays_kept w old new new.pool extents extents _ running read.kept
    (running_held w old new extents c.args.p read.held.0 running read.held.1 (subst IsPool c.pool.ensures c.frames.ensures.kept) (kept_ok w old new tt read.held.0 read.kept))

pub returns-clause-held : goal.returns-clause-held
returns-clause-held g c =
    let held = c.in_ok-read.ensures.held in
    held_after c.args.p held.0 c.args.cache.now.pool c.read.new.self.pool held.1

pub returns-clause-contents : goal.returns-clause-contents
returns-clause-contents g c = λ tells.
    let running = c.requires.running in
    (c.in_ok-read.ensures.kept.stays tells (cached_of g.W.World c.args.cache.now running.0 running.1.frames (running.1.along tells))).after.contents_are
