use Rattle.isp_scan.proofs.UpdatedLaws.{new_rows}
use Rattle.isp_scan.proofs.finding.updated_in.Goals as goal

pub returns-in-Some-clause-rows : goal.returns-in-Some-clause-rows
returns-in-Some-clause-rows c = new_rows c.args.schema.now c.args.sets.now _ _ c.requires.sets c.in_ok-rows.ensures.rows c.as_slice.ensures (c.in_ok-rows-2.ensures) c.in-Some.is
