use Rattle.std.proofs.Common.{◌≡◌, ◌+◌, ◌-◌, ◌<◌, ◌∙◌, length, take, get_or, ap, sym, arith}
use Rattle.std.proofs.lemmas.List.{take_more, length-take-le}
use Rattle.isp_script.specs.Lines.{trimmed_length}
use Rattle.isp_script.proofs.LineLaws.{trimmed_length-blank, trimmed_length-other}
use Rattle.isp_script.proofs.lines.trimmed_length.Goals as goal

pub loop-n-preserved : goal.loop-n-preserved
loop-n-preserved c =
    let bytes = c.args.bytes.now in
    let before = c.loop-n.n - 1 in
    let within : before < length bytes = omega arith in
    let whole : c.loop-n.n ≡ before + 1 = omega arith in (
      omega arith,
      sym (ap (λ n. trimmed_length (take n bytes)) whole ∙ (ap trimmed_length (take_more bytes before 0 within)
          ∙ trimmed_length-blank (take before bytes) (get_or bytes before 0) (sym c.is_blank.ensures ∙ c.if-is_blank.true))) ∙ c.loop-n.invariant.1,
    )

pub returns-else-is_blank-clause-value : goal.returns-else-is_blank-clause-value
returns-else-is_blank-clause-value c =
    let bytes = c.args.bytes.now in
    let before = c.loop-n.n - 1 in
    let within : before < length bytes = omega arith in
    let whole : c.loop-n.n ≡ before + 1 = omega arith in
    let front : length (take before bytes) ≡ before = length-take-le before bytes (omega arith) in
    let all : length (take before bytes) + 1 ≡ c.loop-n.n = omega arith in
    sym (sym c.loop-n.invariant.1 ∙ (ap (λ n. trimmed_length (take n bytes)) whole ∙ (ap trimmed_length (take_more bytes before 0 within)
    ∙ (trimmed_length-other (take before bytes) (get_or bytes before 0) (sym c.is_blank.ensures ∙ c.if-is_blank.false) ∙ all))))
