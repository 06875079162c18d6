use Rattle.isp_plain.specs.RowBytes.{value_bytes}
use Rattle.isp_row.specs.RowSpelling.{IsSpelled, value_spelling}
use Rattle.isp_row.proofs.LoopLaws.{all_more, put_more, smaller}
use Rattle.isp_row.proofs.writing.put_values.Goals as goal

pub loop-value-preserved : goal.loop-value-preserved
loop-value-preserved c =
    let i = c.loop-value.value-index in
    let values = c.args.values.now in
    let x = c.value-item.result in (
      put_more value_spelling c.args.out.now.items c.loop-value.out.items c.put_value.new.out.items values i x c.loop-value-test.true c.value-item.is c.loop-value.invariant.0 c.in_ok-put_value.ensures.spelled,
      λ few. all_more IsSpelled values i x c.loop-value-test.true c.value-item.is (c.in_ok-put_value.ensures.is (smaller value_bytes values i x c.loop-value-test.true c.value-item.is few)) (c.loop-value.invariant.1 few),
    )
