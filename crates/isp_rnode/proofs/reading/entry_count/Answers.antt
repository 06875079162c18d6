use Rattle.std.proofs.Common.{◌∙◌, sym}
use Rattle.isp_rnode.proofs.NodeLaws.{count_is}
use Rattle.isp_rnode.proofs.reading.entry_count.Goals as goal

pub returns : goal.returns
returns c = c.from.ensures ∙ c.count_of.ensures ∙ sym (count_is c.args.p.now.bytes)
