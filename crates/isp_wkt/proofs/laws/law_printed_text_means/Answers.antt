use Rattle.isp_wkt.proofs.PrintedMeans.{printed_means}
use Rattle.isp_wkt.proofs.laws.law_printed_text_means.Goals as goal

pub returns : goal.returns
returns c = printed_means
