use Rattle.isp_file_laws.proofs.KeptLaws.{shown_are_rows}
use Rattle.isp_file_laws.proofs.tables.law_shown_are_rows.Goals as goal

pub returns : goal.returns
returns c = shown_are_rows
