use Rattle.isp_division.proofs.PartLaws.{leaf_packed}
use Rattle.isp_division.proofs.halves.leaf_page.Goals as goal

pub returns : goal.returns
returns c table rows owner content each count = leaf_packed c.packed.result.bytes table c.args.own.0 c.args.next.0 c.args.owner c.args.count c.args.content.now rows c.packed.ensures.head c.packed.ensures.content c.requires owner content each count
