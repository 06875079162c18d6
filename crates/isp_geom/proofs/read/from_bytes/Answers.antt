use Rattle.std.proofs.Common.{◌≡◌, ◌∙◌, sym, ap, true, false, subst, refl, arith}
use Rattle.std.proofs.lemmas.Result.{err_from_is_err_and}
use Rattle.isp_geom.specs.Spelling.{spelling}
use Rattle.isp_geom.specs.Rules.{IsGeometry}
use Rattle.isp_geom.proofs.Whole.{whole_found, refused, no_rules, one_form}
use Rattle.isp_geom.proofs.read.from_bytes.Goals as goal

pub returns-in_err-form-clause-refused : goal.returns-in_err-form-clause-refused
returns-in_err-form-clause-refused c =
    let p = err_from_is_err_and c.from_residual.result c.from_residual.ensures.1 in
    λ is. refused c.in_err-form.field-0.0 c.args.bytes.now c.in_err-form.ensures (let e = p.1 in let f = p.2 in cc)

pub returns-in-Some-clause-found : goal.returns-in-Some-clause-found
returns-in-Some-clause-found c =
    let same = c.in-Some.ensures.form in
    let kept = c.in-Some.ensures.kept.0 refl in
    (subst IsGeometry (sym same) kept, whole_found c.args.bytes.now c.in_ok-form.form (λ i. omega (arith, c.type_inv.bytes i)) c.in_ok-form.ensures ∙ ap spelling (sym same))

pub returns-in-None-clause-refused : goal.returns-in-None-clause-refused
returns-in-None-clause-refused c = λ is. no_rules c.in_ok-form.form c.args.bytes.now c.in_ok-form.ensures (λ h. absurd (let no : false ≡ true = c.in-None.ensures.kept.1 h in cc))

pub returns-in-Some-clause-again : goal.returns-in-Some-clause-again
returns-in-Some-clause-again c = λ g k e. c.in-Some.ensures.form ∙ one_form c.in_ok-form.form c.args.bytes.now c.in_ok-form.ensures g k e
