use Rattle.isp_disk.specs.Moments.{image_of}
use Rattle.isp_catalog.proofs.WritingLaws.{roots_put}
use Rattle.isp_catalog.proofs.spelling.put_roots.Goals as goal

pub returns-clause-put : goal.returns-clause-put
returns-clause-put c =
    let all = roots_put (image_of c.args.p.now.bytes) (image_of c.put_u32.new.p.bytes) (image_of c.put_u32-2.new.p.bytes) (image_of c.put_u32-3.new.p.bytes) c.args.at c.args.t.now (λ i place. c.put_u32.ensures.put place i) (λ i place. c.put_u32-2.ensures.put place i) (λ i place. c.put_u32-3.ensures.put place i) in
    λ place i. all i place
