use Rattle.std.proofs.Common.{ap}
use Rattle.isp_frames.specs.Cached.{with_pool}
use Rattle.isp_frames.proofs.HeldLaws.{held_page}
use Rattle.isp_frames.proofs.StayLaws.{changes_failed}
use Rattle.isp_pool.specs.Frames.{PoolState, frame_at}
use Rattle.isp_pool.proofs.StateLaws.{held_from_page}
use Rattle.isp_frames.proofs.cache.Cache.change.Goals as goal

pub change-requires-clause-held : goal.change-requires-clause-held
change-requires-clause-held g c =
    let new = c.hold.new.self in
    held_from_page (frame_at new.pool c.in_ok-frame.frame) c.args.p (held_page c.args.p c.in_ok-frame.frame c.args.self.now.pool new.pool c.in_ok-frame.ensures.held)

pub returns-clause-put : goal.returns-clause-put
returns-clause-put g c =
    let mid = c.hold.new.self in
    record {
      put = record {
        held = mid;
        frame = c.in_ok-frame.frame;
        kept = c.in_ok-frame.ensures.kept;
        is_held = c.in_ok-frame.ensures.held;
        frames = c.frames.ensures.kept;
        new_is = ap (λ (pool : PoolState). with_pool mid pool) c.change.ensures;
      };
      failed = tt;
    }

pub returns-in_err-frame-clause-put : goal.returns-in_err-frame-clause-put
returns-in_err-frame-clause-put g c =
    changes_failed g.W.World c.args.p c.args.at c.args.bytes.now c.args.self.now c.hold.new.self _ _ c.from_residual.ensures.0 c.in_err-frame.ensures.kept
