use Rattle.isp_format.specs.Ranges.{page_bytes}
use Rattle.isp_format.proofs.Listing.{zeros_read}
use Rattle.isp_format.proofs.page.Page.zeros.Goals as goal

pub returns : goal.returns
returns c = λ place. zeros_read page_bytes place
