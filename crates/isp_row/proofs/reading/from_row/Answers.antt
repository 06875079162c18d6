use Rattle.std.proofs.Common.{w64, arith}
use Rattle.std.proofs.lemmas.Int.{to_z-of_z}
use Rattle.std.proofs.lemmas.Result.{err_from_is_err_and}
use Rattle.isp_row.proofs.ReadLaws.{given_none, one_row, row_found, row_none}
use Rattle.isp_row.proofs.reading.from_row.Goals as goal

pub returns-in_err-values-clause-refused : goal.returns-in_err-values-clause-refused
returns-in_err-values-clause-refused c is row numbers spelled =
    let p = err_from_is_err_and c.from_residual.result c.from_residual.ensures.1 in
    let none = given_none c.in_err-values.field-0.0 _ _ (c.in_err-values.ensures c.new-numbers.ensures.items) (let e = p.1 in let f = p.2 in cc) in
    row_none c.args.schema.now c.args.key _ _ c.args.b.now row numbers c.as_slice.ensures (to_z-of_z w64 c.args.key c.ranges.key) none spelled

pub returns-clause-found : goal.returns-clause-found
returns-clause-found c =
    row_found c.args.schema.now c.args.key _ _ c.args.b.now c.in_ok-values.values c.whole.new.numbers.items (λ i. omega (arith, c.type_inv.b i)) c.as_slice.ensures (to_z-of_z w64 c.args.key c.ranges.key) (c.in_ok-values.ensures c.new-numbers.ensures.items)

pub returns-clause-again : goal.returns-clause-again
returns-clause-again c row numbers is =
    one_row c.args.schema.now c.args.key c.args.b.now (record { values = c.in_ok-values.values }) row c.whole.new.numbers.items numbers
    (row_found c.args.schema.now c.args.key _ _ c.args.b.now c.in_ok-values.values c.whole.new.numbers.items (λ i. omega (arith, c.type_inv.b i)) c.as_slice.ensures (to_z-of_z w64 c.args.key c.ranges.key) (c.in_ok-values.ensures c.new-numbers.ensures.items)) is
