use Rattle.isp_changes.proofs.ChangeProofs.{all_goes_back}
use Rattle.isp_changes.proofs.changes.law_all_goes_back.Goals as goal

pub returns : goal.returns
returns c = all_goes_back
