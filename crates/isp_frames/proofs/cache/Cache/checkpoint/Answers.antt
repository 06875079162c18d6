use Rattle.std.proofs.Common.{◌∙◌}
use Rattle.isp_frames.proofs.NowLaws.{pool_apart}
use Rattle.isp_frames.proofs.Checkpoint.{file_emptied, in_place, now_same, steady_emptied, stops_cleaned, stops_settled}
use Rattle.isp_frames.proofs.StayLaws.{file_failed, idle_cleaned, kept_then}
use Rattle.isp_frames.proofs.cache.Cache.checkpoint.Goals as goal

pub returns-clause-file : goal.returns-clause-file
returns-clause-file g c =
    let w = g.W.World in
    let s = c.args.self.now in
    let mid = c.clean_all.new.self in
    let new = record mid { stable = c.empty_log.new.self } in
    let all = c.in_ok-clean_all.ensures in
    let done = c.in_ok-empty_log.ensures in
    kept_then w s mid new tt _ all.kept
    (file_emptied w mid new.stable _ done.kept
    (steady_emptied w mid new.stable _ all.kept.file.steady done.kept (pool_apart mid.pool c.frames.ensures.kept) all.clean (λ tells cached. (done.emptied tells cached.file).batches_are) done.placed)
    (λ tells cached. done.emptied tells cached.file))

pub returns-in_err-clean_all-clause-stops : goal.returns-in_err-clean_all-clause-stops
returns-in_err-clean_all-clause-stops g c = λ tells stood.
    let cached = c.requires.steady.cached tells in
    stops_cleaned g.W.World c.args.self.now c.clean_all.new.self.stable.world cached stood (c.clean_all.ensures.kept.stops tells cached)

pub returns-in_err-empty_log-clause-stops : goal.returns-in_err-empty_log-clause-stops
returns-in_err-empty_log-clause-stops g c = λ tells stood.
    let w = g.W.World in
    let mid = c.clean_all.new.self in
    let all = c.in_ok-clean_all.ensures in
    let cached = c.requires.steady.cached tells in
    let stays = all.kept.stays tells cached in
    stops_settled w c.args.self.now mid c.empty_log.new.self.world cached stays (pool_apart mid.pool c.frames.ensures.kept) all.clean all.kept.file.stable.shape all.kept.file.stable.calls.printed stood
    (all.kept.stops tells cached) (c.in_err-empty_log.ensures.emptied tells stays.after.cached.file).stops

pub returns-clause-stops : goal.returns-clause-stops
returns-clause-stops g c = λ tells stood.
    let w = g.W.World in
    let mid = c.clean_all.new.self in
    let all = c.in_ok-clean_all.ensures in
    let cached = c.requires.steady.cached tells in
    let stays = all.kept.stays tells cached in
    stops_settled w c.args.self.now mid c.empty_log.new.self.world cached stays (pool_apart mid.pool c.frames.ensures.kept) all.clean all.kept.file.stable.shape all.kept.file.stable.calls.printed stood
    (all.kept.stops tells cached) (c.in_ok-empty_log.ensures.emptied tells stays.after.cached.file).stops

pub returns-clause-contents : goal.returns-clause-contents
returns-clause-contents g c = λ tells.
    let stays = c.in_ok-clean_all.ensures.kept.stays tells (c.requires.steady.cached tells) in
    now_same g.W.World c.clean_all.new.self c.empty_log.new.self (c.empty_log.ensures.placed tells) ∙ stays.after.contents_are

pub returns-in_err-empty_log-clause-file : goal.returns-in_err-empty_log-clause-file
returns-in_err-empty_log-clause-file g c =
    let w = g.W.World in
    let s = c.args.self.now in
    let mid = c.clean_all.new.self in
    let new = record mid { stable = c.empty_log.new.self } in
    let done = c.in_err-empty_log.ensures in
    file_failed w s new _ _ c.from_residual-in_err-empty_log.ensures.0
    (kept_then w s mid new tt _ c.in_ok-clean_all.ensures.kept (file_emptied w mid new.stable _ done.kept tt (λ tells cached. done.emptied tells cached.file)))

pub returns-clause-checkpoint : goal.returns-clause-checkpoint
returns-clause-checkpoint g c =
    let w = g.W.World in
    let s = c.args.self.now in
    let mid = c.clean_all.new.self in
    let s_new = c.empty_log.new.self in
    let all = c.in_ok-clean_all.ensures in
    let done = c.in_ok-empty_log.ensures in
    let apart = pool_apart mid.pool c.frames.ensures.kept in
    let before = idle_cleaned w s mid tt c.requires all.kept.file all.cleaned in
    record {
      idle = record {
        steady = steady_emptied w mid s_new tt before.steady done.kept apart all.clean (λ tells cached. (done.emptied tells cached.file).batches_are) done.placed;
        unpinned = before.unpinned;
        room = before.room;
      };
      clean = all.clean;
      empty = done.end;
      in_place = λ tells.
          let cached = before.steady.cached tells in
          in_place w mid s_new cached apart all.clean (done.emptied tells cached.file).batches_are (done.placed tells);
    }
