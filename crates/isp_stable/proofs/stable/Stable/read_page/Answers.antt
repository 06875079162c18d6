use Rattle.std.proofs.Common.{◌∙◌, arith, refl, rules}
use Rattle.isp_stable.proofs.FileLaws.{reads_only, reads_pages, reads_stable}
use Rattle.isp_stable.proofs.ImageLaws.{page_placed}
use Rattle.isp_stable.proofs.stable.Stable.read_page.Goals as goal

pub returns-clause-page : goal.returns-clause-page
returns-clause-page g c = λ tells. c.in_ok-fill.ensures.bytes tells ∙ page_placed (g.W.World.image c.args.self.now.world) c.args.p.0 _ (omega arith)

pub returns-clause-reads : goal.returns-clause-reads
returns-clause-reads g c = reads_stable g.W.World c.args.self.now _ _ (record { pages = refl; fanout = refl }) refl c.in_ok-fill.ensures.reads

pub returns-in_err-fill-clause-reads : goal.returns-in_err-fill-clause-reads
returns-in_err-fill-clause-reads g c = record {
  shape = record { pages = refl; fanout = refl };
  log = refl;
  reads = search rules;
  stops = λ tells file. reads_only g.W.World c.args.self.now file _ c.fill.ensures.reads.leaves;
  pages = λ tells file. reads_pages g.W.World c.args.self.now file _ c.fill.ensures.reads.leaves;
}
