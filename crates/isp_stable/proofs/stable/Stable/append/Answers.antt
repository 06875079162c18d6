use Rattle.std.proofs.Common.{◌+◌, ℕ, [], ◌∷◌, ◌++◌, length, subst, sym, rules}
use Rattle.isp_disk.proofs.MomentLaws.{widens}
use Rattle.isp_format.specs.Log.{IsLog, log_of}
use Rattle.isp_stable.proofs.FileLaws.{beside, file_of, more_as, stands_by_log}
use Rattle.isp_stable.proofs.Moves.{beside_log, laid_by_log}
use Rattle.isp_stable.proofs.stable.Stable.append.Goals as goal

pub returns-clause-appended : goal.returns-clause-appended
returns-clause-appended g c = λ tells file ranges body.
    let w = g.W.World in
    let s = c.args.self.now in
    let batches = file.batches ++ (ranges ∷ []) ∷ [] in
    let turns = c.in_ok-append.ensures.appended tells s.pages file.batches (ranges ∷ []) file.log body in
    record {
      batches_are = file_of w (record s { world = c.append.new.world; log = c.append.new.self }) batches
          (beside_log s.pages s.fanout (w.image s.world) (w.image c.append.new.world) c.in_ok-append.ensures.changes.others (beside w s file))
          (subst (λ (end : ℕ). IsLog s.pages (log_of (w.image c.append.new.world)) 0 batches end) (sym c.in_ok-append.ensures.end.moved) turns.done);
      stops = widens w.clock w.left_since s.world c.append.new.world _ _ turns.stops
          (λ left printed has. (more_as w s file.batches ranges left (stands_by_log w s file batches (s.log.end + 5 + length c.args.body.now) left has.0), has.1));
      pages = widens w.clock w.left_since s.world c.append.new.world _ _ turns.stops (λ left printed has. laid_by_log (w.image s.world) left file.closed has.0.others);
    }

pub returns-in_err-append-clause-appended : goal.returns-in_err-append-clause-appended
returns-in_err-append-clause-appended g c = λ tells file ranges body.
    let w = g.W.World in
    let s = c.args.self.now in
    let batches = file.batches ++ (ranges ∷ []) ∷ [] in
    let turns = c.in_err-append.ensures.appended tells s.pages file.batches (ranges ∷ []) file.log body in
    record {
      batches_are = search rules;
      stops = widens w.clock w.left_since s.world c.append.new.world _ _ turns.stops
          (λ left printed has. (more_as w s file.batches ranges left (stands_by_log w s file batches (s.log.end + 5 + length c.args.body.now) left has.0), has.1));
      pages = widens w.clock w.left_since s.world c.append.new.world _ _ turns.stops (λ left printed has. laid_by_log (w.image s.world) left file.closed has.0.others);
    }
