use Rattle.isp_changes.proofs.TableProofs.{change_in_tables}
use Rattle.isp_changes.proofs.tables.law_change_in_tables.Goals as goal

pub returns : goal.returns
returns c = change_in_tables
