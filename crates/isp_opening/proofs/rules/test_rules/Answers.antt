use Rattle.std.proofs.Common.{◌≡◌, ℕ, Option, sym, ◌∙◌, subst}
use Rattle.std.specs.Option.{option_map}
use Rattle.isp_disk.specs.Moments.{Image}
use Rattle.isp_format.specs.Doublewrite.{HasCopies}
use Rattle.isp_format.specs.Log.{IsLog, log_of}
use Rattle.isp_format.specs.ControlValues.{FindsControl}
use Rattle.isp_format.specs.declared.control.Control.{Control}
use Rattle.isp_redo.specs.Reading.{FindsEnd}
use Rattle.isp_redo.specs.declared.log.Log.{Log}
use Rattle.isp_opening.proofs.rules.test_rules.Goals as goal

pub returns-in-None-clause-broken : goal.returns-in-None-clause-broken
returns-in-None-clause-broken g c = λ tells.
    let w = g.W.World in
    let before : Image = w.image c.args.world.now in
    let pages : ℕ = c.in-Some.control.pages in
    let first = c.in_ok-control.ensures.reads in
    let second = c.in_ok-check_copies.ensures.reads in
    let same2 : w.image c.check_copies.new.world ≡ before = second.same ∙ first.same in
    let control = subst (λ (found : Option Control). FindsControl before found) c.in-Some.is (c.in_ok-control.ensures.found tells) in
    let copies : HasCopies pages before = subst (HasCopies pages) first.same ((c.in_ok-check_copies.ensures.kept tells).0 c.if-not-branch.false) in
    let none = subst (λ (log : Option Log). FindsEnd pages (log_of (w.image c.check_copies.new.world)) (option_map (λ l. l.end) log)) c.in-None.is (c.in_ok-log.ensures.found tells) in (
      control.0,
      subst (λ (n : ℕ). HasCopies n before) (sym control.1) copies,
      λ has. none has.0 has.1 (subst (λ (image : Image). IsLog pages (log_of image) 0 has.0 has.1) (sym same2) (subst (λ (n : ℕ). IsLog n (log_of before) 0 has.0 has.1) control.1 has.2)),
    )
