use Rattle.isp_chained.proofs.CourseLaws.{goes_on}
use Rattle.isp_chained.proofs.laws.law_course_goes_on.Goals as goal

pub returns : goal.returns
returns c = goes_on
