use Rattle.std.proofs.Common.{rules}
use Rattle.isp_rtree.proofs.PathLaws.{names_broken}
use Rattle.isp_rtree.proofs.growing.grow_to.Goals as goal

pub returns-in-None-clause-reads : goal.returns-in-None-clause-reads
returns-in-None-clause-reads g c = record {
  kept = search rules;
  contents = search rules;
  mini = search rules;
  names = names_broken c.args.at.0 (g.P.Pages.shape c.args.pages.now).pages _ c.requires.at c.broken.ensures;
}
