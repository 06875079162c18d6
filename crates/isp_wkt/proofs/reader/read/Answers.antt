use Rattle.std.proofs.Common.{◌≡◌, ◌-◌, [], length, rules}
use Rattle.isp_wkt.proofs.SoundForms.{text_sound}
use Rattle.isp_wkt.proofs.CompleteForms.{same_form, no_fault}
use Rattle.isp_wkt.proofs.Places.{stands}
use Rattle.isp_wkt.proofs.Rules.{text_rule}
use Rattle.isp_wkt.proofs.reader.read.Goals as goal

pub invariant_of-result : goal.invariant_of-result
invariant_of-result c = text_rule c.in-Ok.form c.args.text.now c.requires (text_sound c.args.text.now c.in-Ok.form [] c.in-Ok.ensures)

pub returns-in-Ok-clause-found : goal.returns-in-Ok-clause-found
returns-in-Ok-clause-found c = text_sound c.args.text.now c.in-Ok.form [] c.in-Ok.ensures

pub returns-in-Ok-clause-only : goal.returns-in-Ok-clause-only
returns-in-Ok-clause-only c = λ g m. same_form c.in-Ok.form g c.args.text.now c.in-Ok.ensures m

pub returns-in-Err-Bad-clause-only : goal.returns-in-Err-Bad-clause-only
returns-in-Err-Bad-clause-only c =
    let e = rw c.in-Err-Bad.field-0-is at c.in-Err-Bad.ensures in
    λ g m. no_fault c.in-Err-Bad.fault g c.args.text.now e m

pub returns-in-Err-Bad-clause-place : goal.returns-in-Err-Bad-clause-place
returns-in-Err-Bad-clause-place c =
    let e = rw c.in-Err-Bad.field-0-is at c.in-Err-Bad.ensures in
    let at : c.saturating_sub-at.result ≡ length c.args.text.now - c.in-Err-Bad.fault.left = search rules in
    stands c.args.text.now c.in-Err-Bad.fault c.saturating_sub-at.result e at
