use Rattle.std.proofs.Common.{◌∙◌, ap}
use Rattle.std.specs.Int.{cast_unsigned, w32}
use Rattle.std.proofs.lemmas.Int.{to_z-of_z}
use Rattle.isp_rnode.proofs.PutLaws.{signed_back}
use Rattle.isp_rnode.proofs.writing.put_i32.Goals as goal

pub returns-clause-back : goal.returns-clause-back
returns-clause-back c =
    let bits = c.cast_unsigned.ensures ∙ ap (cast_unsigned w32) (to_z-of_z w32 c.args.number c.ranges.number) in
    signed_back c.args.p.now.bytes c.put_u32.new.p.bytes c.args.at c.args.number c.cast_unsigned.result bits c.put_u32.ensures.put c.put_u32.ensures.fits c.ranges.number
