use Rattle.isp_changes.proofs.ChangeProofs.{keys_rise}
use Rattle.isp_changes.proofs.rows.law_keys_rise.Goals as goal

pub returns : goal.returns
returns c = keys_rise
