use Rattle.std.proofs.Common.{◌∙◌, ap}
use Rattle.std.specs.Int.{cast_unsigned, w64}
use Rattle.std.proofs.lemmas.Int.{to_z-of_z}
use Rattle.isp_rnode.proofs.PutLaws.{row_put, row_back}
use Rattle.isp_rnode.proofs.writing.put_row.Goals as goal

pub returns-clause-put : goal.returns-clause-put
returns-clause-put c =
    let bits = c.cast_unsigned.ensures ∙ ap (cast_unsigned w64) (to_z-of_z w64 c.args.key c.ranges.key) in
    row_put c.args.p.now.bytes c.put_u64.new.p.bytes c.put_u64-2.new.p.bytes c.args.at c.args.key c.cast_unsigned.result c.args.number bits c.put_u64.ensures.put c.put_u64-2.ensures.put

pub returns-clause-back : goal.returns-clause-back
returns-clause-back c =
    let bits = c.cast_unsigned.ensures ∙ ap (cast_unsigned w64) (to_z-of_z w64 c.args.key c.ranges.key) in
    row_back c.args.p.now.bytes c.put_u64.new.p.bytes c.put_u64-2.new.p.bytes c.args.at c.args.key c.cast_unsigned.result c.args.number bits c.put_u64.ensures.put c.put_u64-2.ensures.put c.put_u64.ensures.fits c.put_u64-2.ensures.fits c.ranges.key
