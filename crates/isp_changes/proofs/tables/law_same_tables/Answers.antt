use Rattle.isp_changes.proofs.TableProofs.{same_tables}
use Rattle.isp_changes.proofs.tables.law_same_tables.Goals as goal

pub returns : goal.returns
returns c = same_tables
