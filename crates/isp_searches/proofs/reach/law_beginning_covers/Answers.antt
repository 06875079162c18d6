use Rattle.isp_searches.proofs.VisitSearchLaws.{begun_covered}
use Rattle.isp_searches.proofs.reach.law_beginning_covers.Goals as goal

pub returns : goal.returns
returns c = begun_covered
