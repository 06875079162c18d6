use Rattle.std.proofs.Common.{◌≡◌, ◌∙◌, ◌+◌, ◌-◌, ◌*◌, ◌^◌, ◌∷◌, ap, sym, drop, get_or, min, arith}
use Rattle.std.proofs.lemmas.List.{drop_more, drop_all}
use Rattle.isp_plan.specs.Numbers.{value_from}
use Rattle.isp_plan.proofs.NumberLaws.{same_capped}
use Rattle.isp_plan.proofs.number.value_of.Goals as goal

pub loop-digit-preserved : goal.loop-digit-preserved
loop-digit-preserved c =
    let digits = c.args.digits.now in
    let i = c.loop-digit.digit-index in
    let value = c.loop-digit.value in
    let rest : drop i digits ≡ get_or digits i 0 ∷ drop (i + 1) digits = drop_more digits i 0 c.loop-digit-test.true in (
      omega arith,
      same_capped c.with_digit-value.result (value * 10 + (get_or digits i 0 - 48)) (drop (i + 1) digits) (omega arith)
          ∙ (sym (ap (λ ds. min (value_from value ds) (2 ^ 64 - 1)) rest) ∙ c.loop-digit.invariant.1),
    )

pub returns : goal.returns
returns c =
    let none = drop_all c.loop-digit.digit-index c.args.digits.now (omega arith) in
    let small : c.loop-digit.value ≡ min c.loop-digit.value (2 ^ 64 - 1) = omega arith in
    small ∙ (sym (ap (λ ds. min (value_from c.loop-digit.value ds) (2 ^ 64 - 1)) none) ∙ c.loop-digit.invariant.1)
