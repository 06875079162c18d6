use Rattle.std.proofs.Common.{◌≡◌, ◌∙◌, ap, sym, false, arith, Some}
use Rattle.std.specs.Prelude.{is_none}
use Rattle.std.proofs.lemmas.Option.{slice_get-get_or, slice_get_within}
use Rattle.isp_forest.specs.declared.entry.Entry.{Entry}
use Rattle.isp_forest.specs.Tree.{child_of}
use Rattle.isp_rnode.proofs.PutLaws.{Placed, each_next, there_has}
use Rattle.isp_rinsert_tests.proofs.putting.are_children.Goals as goal

pub loop-e-preserved : goal.loop-e-preserved
loop-e-preserved c =
    let got = slice_get-get_or c.args.entries.now c.loop-e.e-index c.e-item.result c.loop-e-test.true ∙ ap Some (sym c.e-item.is) in
    let same : is_none (child_of c.e-item.result) ≡ false = search (arith, c.is_row.ensures) in
    each_next (λ (e : Entry). is_none (child_of e) ≡ false) c.args.entries.now c.loop-e.e-index c.e-item.result got same c.loop-e.invariant

pub returns : goal.returns
returns c is_so e has =
    let p : Placed c.args.entries.now e = there_has c.args.entries.now e has in
    c.loop-e.invariant p.k e (omega (arith, slice_get_within c.args.entries.now p.k e p.there, c.loop-e-test.false)) p.there
