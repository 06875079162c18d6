use Rattle.std.proofs.Common.{ℕ, [], subst, sym, rules}
use Rattle.isp_disk.proofs.MomentLaws.{widens}
use Rattle.isp_format.specs.Log.{IsLog, log_of}
use Rattle.isp_stable.proofs.FileLaws.{beside, file_of, stands_by_log}
use Rattle.isp_stable.proofs.Moves.{beside_log, laid_by_log}
use Rattle.isp_stable.proofs.stable.Stable.empty_log.Goals as goal

pub returns-clause-emptied : goal.returns-clause-emptied
returns-clause-emptied g c = λ tells file.
    let w = g.W.World in
    let s = c.args.self.now in
    let turns = c.in_ok-reset.ensures.emptied tells s.pages file.batches file.log in
    record {
      batches_are = file_of w (record s { world = c.reset.new.world; log = c.reset.new.self }) []
          (beside_log s.pages s.fanout (w.image s.world) (w.image c.reset.new.world) c.in_ok-reset.ensures.changes.others (beside w s file))
          (subst (λ (end : ℕ). IsLog s.pages (log_of (w.image c.reset.new.world)) 0 [] end) (sym c.in_ok-reset.ensures.end.moved) turns.done);
      stops = widens w.clock w.left_since s.world c.reset.new.world _ _ turns.stops (λ left printed has. (stands_by_log w s file [] 0 left has.0, has.1));
      pages = widens w.clock w.left_since s.world c.reset.new.world _ _ turns.stops (λ left printed has. laid_by_log (w.image s.world) left file.closed has.0.others);
    }

pub returns-in_err-reset-clause-emptied : goal.returns-in_err-reset-clause-emptied
returns-in_err-reset-clause-emptied g c = λ tells file.
    let w = g.W.World in
    let s = c.args.self.now in
    let turns = c.in_err-reset.ensures.emptied tells s.pages file.batches file.log in
    record {
      batches_are = search rules;
      stops = widens w.clock w.left_since s.world c.reset.new.world _ _ turns.stops (λ left printed has. (stands_by_log w s file [] 0 left has.0, has.1));
      pages = widens w.clock w.left_since s.world c.reset.new.world _ _ turns.stops (λ left printed has. laid_by_log (w.image s.world) left file.closed has.0.others);
    }
