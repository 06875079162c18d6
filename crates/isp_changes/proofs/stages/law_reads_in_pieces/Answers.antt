use Rattle.isp_changes.proofs.StageProofs.{reads_in_pieces}
use Rattle.isp_changes.proofs.stages.law_reads_in_pieces.Goals as goal

pub returns : goal.returns
returns c = reads_in_pieces
