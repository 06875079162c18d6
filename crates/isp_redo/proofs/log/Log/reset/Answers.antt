use Rattle.std.proofs.Common.{◌≡◌, ◌≢◌, [], arith, rules}
use Rattle.std.proofs.lemmas.Bool.Decides.{nat_tests}
use Rattle.isp_disk.proofs.MomentLaws.{started, widens, quiet_agrees}
use Rattle.isp_redo.proofs.Steps.{empty_is, reset_has, reset_is, same_has}
use Rattle.isp_redo.proofs.log.Log.reset.Goals as goal

pub returns-then-self-eq0-clause-emptied : goal.returns-then-self-eq0-clause-emptied
returns-then-self-eq0-clause-emptied g c tells pages batches log =
    let w = g.W.World in
    let old = c.args.world.now in
    let end = c.args.self.now.end in
    let test = c.if-self-eq0.true in
    let none : end ≡ 0 = grind (arith, nat_tests, test) in
    record {
      stops = started w.clock w.left_since old _ (λ left printed since.
          let now = g.met.W.World.only_now old left printed since in
          (same_has pages (w.image old) left batches [] end 0 log (quiet_agrees (w.pending old) (w.image old) left c.requires.quiet now.0), now.1));
      done = empty_is pages _ batches end log none;
    }

pub returns-in_err-set_gate-clause-emptied : goal.returns-in_err-set_gate-clause-emptied
returns-in_err-set_gate-clause-emptied g c tells pages batches log =
    let w = g.W.World in
    let old = c.args.world.now in
    let end = c.args.self.now.end in
    let test = c.if-self-eq0.false in
    let some : end ≢ 0 = λ none. absurd (grind (arith, nat_tests, test, none)) in
    record {
      stops = widens w.clock w.left_since old c.set_gate.new.world _ _ c.in_err-set_gate.ensures.wrote.phase.leaves
          (λ left printed has. (reset_has pages (w.image old) left batches end log some has.0, has.1));
      done = search rules;
    }

pub returns-clause-emptied : goal.returns-clause-emptied
returns-clause-emptied g c tells pages batches log =
    let w = g.W.World in
    let old = c.args.world.now in
    let end = c.args.self.now.end in
    let test = c.if-self-eq0.false in
    let some : end ≢ 0 = λ none. absurd (grind (arith, nat_tests, test, none)) in
    record {
      stops = widens w.clock w.left_since old c.set_gate.new.world _ _ c.in_ok-set_gate.ensures.wrote.phase.leaves
          (λ left printed has. (reset_has pages (w.image old) left batches end log some has.0, has.1));
      done = reset_is pages (w.image c.set_gate.new.world) (c.in_ok-set_gate.ensures.gate tells);
    }
