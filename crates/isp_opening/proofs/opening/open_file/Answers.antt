use Rattle.std.proofs.Common.{◌∙◌, subst}
use Rattle.isp_disk.specs.Moments.{Image}
use Rattle.isp_opening.specs.Finding.{AreInPlace, KeepsRules}
use Rattle.isp_opening.proofs.Standing.{alike, contents_of, its_file, restored, stands, tested}
use Rattle.isp_opening.proofs.opening.open_file.Goals as goal

pub returns-in_err-lay_copies-clause-kept : goal.returns-in_err-lay_copies-clause-kept
returns-in_err-lay_copies-clause-kept g c =
    let w = g.W.World in
    let old = c.args.world.now in
    let read = c.test_rules.new.world in
    let found = c.in_ok-found.found in
    let first = c.in_ok-make_durable.ensures in
    let second = c.in_ok-found.ensures in
    let third = c.in_err-lay_copies.ensures in
    let same_printed = second.reads.calls.printed ∙ first.ends.calls.printed in
    record {
      printed = third.ends.calls.printed ∙ same_printed;
      printer = third.ends.calls.printer ∙ second.reads.calls.printer ∙ first.ends.calls.printer;
      stops = λ tells.
          let kept : KeepsRules (w.image old) found = subst (λ (image : Image). KeepsRules image found) first.same (second.kept tells) in
          restored w old read c.lay_copies.new.world found.control.pages (contents_of (w.image old) found kept) kept.pages (stands (w.image old) found kept)
          (tested w old c.make_durable.new.world read first.left first.same first.ends.calls.printed second.reads.leaves) (second.reads.same ∙ first.same) same_printed (third.stops tells);
    }

pub returns-clause-kept : goal.returns-clause-kept
returns-clause-kept g c =
    let w = g.W.World in
    let old = c.args.world.now in
    let read = c.test_rules.new.world in
    let found = c.in_ok-found.found in
    let first = c.in_ok-make_durable.ensures in
    let second = c.in_ok-found.ensures in
    let third = c.in_ok-lay_copies.ensures in
    let same_printed = second.reads.calls.printed ∙ first.ends.calls.printed in
    record {
      printed = third.ends.calls.printed ∙ same_printed;
      printer = third.ends.calls.printer ∙ second.reads.calls.printer ∙ first.ends.calls.printer;
      stops = λ tells.
          let kept : KeepsRules (w.image old) found = subst (λ (image : Image). KeepsRules image found) first.same (second.kept tells) in
          restored w old read c.lay_copies.new.world found.control.pages (contents_of (w.image old) found kept) kept.pages (stands (w.image old) found kept)
          (tested w old c.make_durable.new.world read first.left first.same first.ends.calls.printed second.reads.leaves) (second.reads.same ∙ first.same) same_printed (third.stops tells);
    }

pub returns-clause-opened : goal.returns-clause-opened
returns-clause-opened g c =
    let w = g.W.World in
    let old = c.args.world.now in
    let laid = c.lay_copies.new.world in
    let found = c.in_ok-found.found in
    let first = c.in_ok-make_durable.ensures in
    let second = c.in_ok-found.ensures in
    let third = c.in_ok-lay_copies.ensures in
    let kept : g.W.World.tells → KeepsRules (w.image old) found = λ tells. subst (λ (image : Image). KeepsRules image found) first.same (second.kept tells) in
    let placed : g.W.World.tells → AreInPlace (w.image old) (w.image laid) = λ tells. subst (λ (image : Image). AreInPlace image (w.image laid)) (second.reads.same ∙ first.same) (third.laid tells) in
    record {
      quiet = third.ends.quiet;
      steady = third.ends.calls.cause.steady ∙ second.reads.calls.cause.steady ∙ first.ends.calls.cause.steady;
      possible = second.possible;
      shape = λ tells. ((kept tells).pages, (kept tells).fanout);
      file = λ tells. its_file w old laid found (kept tells) (placed tells);
      alike = λ tells. alike w old laid found (kept tells) (placed tells);
    }
