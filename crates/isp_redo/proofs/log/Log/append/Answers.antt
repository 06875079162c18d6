use Rattle.std.proofs.Common.{◌+◌, ◌++◌, [], ◌∷◌, length, ◌∙◌, arith, rules}
use Rattle.isp_disk.proofs.MomentLaws.{chains, widens}
use Rattle.isp_redo.proofs.Steps.{IsLaid, behind_has, opened_has, opened_is}
use Rattle.isp_redo.proofs.log.Log.append.Goals as goal

pub returns-in_err-lay_body-clause-appended : goal.returns-in_err-lay_body-clause-appended
returns-in_err-lay_body-clause-appended g c tells pages batches batch log means =
    let w = g.W.World in
    let old = c.args.world.now in
    let end = c.args.self.now.end in
    let body = c.args.body.now in
    let fits = c.requires.fits in
    record {
      stops = widens w.clock w.left_since old c.lay_body.new.world _ _ c.in_err-lay_body.ensures.wrote.phase.leaves
          (λ left printed has. (behind_has pages (w.image old) left batches (batches ++ batch ∷ []) end (length body + 5) (end + 5 + length body) log (omega (arith, fits)) has.0, has.1));
      done = search rules;
    }

pub returns-in_err-set_gate-clause-appended : goal.returns-in_err-set_gate-clause-appended
returns-in_err-set_gate-clause-appended g c tells pages batches batch log means =
    let w = g.W.World in
    let old = c.args.world.now in
    let mid = c.lay_body.new.world in
    let end = c.args.self.now.end in
    let body = c.args.body.now in
    let fits = c.requires.fits in
    let laying = c.in_ok-lay_body.ensures.wrote.phase in
    let laid : IsLaid (w.image old) (w.image mid) end body = record { others = laying.agrees; has = c.in_ok-lay_body.ensures.laid tells } in
    let first = widens w.clock w.left_since old mid _ _ laying.leaves
    (λ left printed has. (behind_has pages (w.image old) left batches (batches ++ batch ∷ []) end (length body + 5) (end + 5 + length body) log (omega (arith, fits)) has.0, has.1)) in
    let second = widens w.clock w.left_since mid c.set_gate.new.world _ _ c.in_err-set_gate.ensures.wrote.phase.leaves
    (λ left printed has. (opened_has pages (w.image old) (w.image mid) left batches end batch body log fits means laid has.0, has.1 ∙ laying.told)) in
    record { stops = chains w.clock w.left_since old mid c.set_gate.new.world _ first second; done = search rules }

pub returns-clause-appended : goal.returns-clause-appended
returns-clause-appended g c tells pages batches batch log means =
    let w = g.W.World in
    let old = c.args.world.now in
    let mid = c.lay_body.new.world in
    let end = c.args.self.now.end in
    let body = c.args.body.now in
    let fits = c.requires.fits in
    let laying = c.in_ok-lay_body.ensures.wrote.phase in
    let laid : IsLaid (w.image old) (w.image mid) end body = record { others = laying.agrees; has = c.in_ok-lay_body.ensures.laid tells } in
    let opening = c.in_ok-set_gate.ensures.wrote.phase in
    let first = widens w.clock w.left_since old mid _ _ laying.leaves
    (λ left printed has. (behind_has pages (w.image old) left batches (batches ++ batch ∷ []) end (length body + 5) (end + 5 + length body) log (omega (arith, fits)) has.0, has.1)) in
    let second = widens w.clock w.left_since mid c.set_gate.new.world _ _ opening.leaves
    (λ left printed has. (opened_has pages (w.image old) (w.image mid) left batches end batch body log fits means laid has.0, has.1 ∙ laying.told)) in
    record {
      stops = chains w.clock w.left_since old mid c.set_gate.new.world _ first second;
      done = opened_is pages (w.image old) (w.image mid) (w.image c.set_gate.new.world) batches end batch body log fits means laid opening.agrees (c.in_ok-set_gate.ensures.gate tells);
    }
