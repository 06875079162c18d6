use Rattle.isp_script.proofs.BadLaws.{found_by, only_by, bad_by, told_by}
use Rattle.isp_script.proofs.script.read_script.Goals as goal

pub returns-clause-found : goal.returns-clause-found
returns-clause-found c = found_by c.read_bytes.result c.args.bytes.now c.read_bytes.ensures

pub returns-clause-only : goal.returns-clause-only
returns-clause-only c = only_by c.read_bytes.result c.args.bytes.now c.read_bytes.ensures

pub returns-clause-bad : goal.returns-clause-bad
returns-clause-bad c = bad_by c.read_bytes.result c.args.bytes.now c.read_bytes.ensures

pub returns-clause-told : goal.returns-clause-told
returns-clause-told c = told_by c.read_bytes.result c.args.bytes.now c.read_bytes.ensures
