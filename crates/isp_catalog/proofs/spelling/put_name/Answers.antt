use Rattle.std.proofs.Common.{arith}
use Rattle.isp_disk.specs.Moments.{image_of}
use Rattle.isp_catalog.proofs.WritingLaws.{filled, name_put}
use Rattle.isp_catalog.proofs.spelling.put_name.Goals as goal

pub returns-clause-put : goal.returns-clause-put
returns-clause-put c =
    let few = c.requires.name in
    let all = name_put (image_of c.args.p.now.bytes) (image_of c.put_byte.new.p.bytes) (image_of c.put_bytes.new.p.bytes) (image_of c.put_bytes-2.new.p.bytes) c.args.at _ c.args.name.now _ (omega (arith, few)) (filled c.args.name.now)
    (λ i place. c.put_byte.ensures.put place i) (λ i place. c.put_bytes.ensures.put place i) (λ i place. c.put_bytes-2.ensures.put place i) in
    λ place i. all i place
