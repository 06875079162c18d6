use Rattle.isp_trx.proofs.CommitLaws.{can_commit_is}
use Rattle.isp_trx.proofs.trx.Trx.commit.Goals as goal

pub returns-in-Err-clause-sound : goal.returns-in-Err-clause-sound
returns-in-Err-clause-sound g c tells chains chain d can = c.in-Err.ensures.sound tells chains chain d (can_commit_is _ _ chains _ _ chain d c.session.ensures.is can)
