use Rattle.isp_disk.specs.Moments.{image_of}
use Rattle.isp_format.specs.HeadValues.{header_in}
use Rattle.isp_division.proofs.PackLaws.{behind_header}
use Rattle.isp_division.proofs.packing.packed.Goals as goal

pub returns-clause-content : goal.returns-clause-content
returns-clause-content c = behind_header _ (image_of c.put_bytes.new.p.bytes) (image_of c.set_head.new.p.bytes) c.args.content.now (header_in c.args.h.now) (λ i place. c.put_bytes.ensures.put place i) c.set_head.ensures.bytes
