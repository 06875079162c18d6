use Rattle.isp_division.proofs.EntryLaws.{inner_packed}
use Rattle.isp_division.proofs.entries.inner_page.Goals as goal

pub returns : goal.returns
returns c table names owner content each count most = inner_packed c.packed.result.bytes table c.args.own.0 c.args.level c.args.owner c.args.count c.args.content.now names c.packed.ensures.head c.packed.ensures.content owner content each count most
