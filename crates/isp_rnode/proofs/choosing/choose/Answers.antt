use Rattle.std.proofs.Common.{◌+◌, ◌∙◌, ap, sym, subst, Some}
use Rattle.std.proofs.lemmas.Option.{slice_get-get_or}
use Rattle.isp_rnode.specs.declared.choosing.Candidate.{Candidate}
use Rattle.isp_rnode.proofs.PutLaws.{has_there}
use Rattle.isp_rnode.proofs.ChoiceLaws.{IsBestOf, chosen, step}
use Rattle.isp_rnode.proofs.choosing.choose.Goals as goal

pub candidate_of-requires : goal.candidate_of-requires
candidate_of-requires c =
    let there = slice_get-get_or c.args.entries.now c.loop-e.e-index c.e-item.result c.loop-e-test.true ∙ ap Some (sym c.e-item.is) in
    c.requires.children c.e-item.result (has_there c.args.entries.now c.loop-e.e-index c.e-item.result there)

pub loop-e-preserved : goal.loop-e-preserved
loop-e-preserved c =
    let there = slice_get-get_or c.args.entries.now c.loop-e.e-index c.e-item.result c.loop-e-test.true ∙ ap Some (sym c.e-item.is) in
    subst (λ (x : Candidate). IsBestOf c.args.entries.now c.args.b.now (c.loop-e.e-index + 1) x) (sym c.better_of-best.ensures)
    (step c.args.entries.now c.args.b.now c.loop-e.e-index c.e-item.result c.loop-e.best c.candidate_of.result there c.candidate_of.ensures c.loop-e.invariant)

pub returns : goal.returns
returns c = chosen c.args.entries.now c.args.b.now c.loop-e.e-index c.loop-e.best c.loop-e-test.false c.loop-e.invariant
