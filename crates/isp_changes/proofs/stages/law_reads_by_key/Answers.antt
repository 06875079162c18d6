use Rattle.isp_changes.proofs.StageProofs.{reads_by_key}
use Rattle.isp_changes.proofs.stages.law_reads_by_key.Goals as goal

pub returns : goal.returns
returns c = reads_by_key
