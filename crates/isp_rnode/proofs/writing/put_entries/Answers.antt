use Rattle.std.proofs.Common.{◌≡◌, ◌∙◌, ap, sym, arith, Some}
use Rattle.std.specs.Prelude.{slice_get}
use Rattle.std.proofs.lemmas.Option.{slice_get-get_or, slice_get_within}
use Rattle.isp_format.specs.Header.{header_of}
use Rattle.isp_mbr.specs.Boxes.{IsBox}
use Rattle.isp_rnode.specs.Nodes.{entry_bytes}
use Rattle.isp_rnode.proofs.PutLaws.{Placed, each_next, has_there, put_next, stand_next, there_has}
use Rattle.isp_rnode.proofs.writing.put_entries.Goals as goal

pub loop-i-preserved : goal.loop-i-preserved
loop-i-preserved c =
    let entries = c.args.entries.now in
    let i = c.loop-i.i in
    let e = c.index-entries-i.result in
    let level = (header_of c.args.p.now.bytes).level in
    let there : slice_get entries i ≡ Some e = slice_get-get_or entries i e c.loop-i-test.true ∙ ap Some (sym c.index-entries-i.is) in
    let kind = c.requires.kinds e (has_there entries i e there) in
    record {
      so_far = put_next c.args.p.now.bytes c.loop-i.p.bytes c.put_entry.new.p.bytes entries i e there c.loop-i.invariant.so_far c.put_entry.ensures.put;
      stand = stand_next level c.loop-i.p.bytes c.put_entry.new.p.bytes entries i e (entry_bytes e) there c.put_entry.ensures.put c.loop-i.invariant.stand (c.put_entry.ensures.back level kind);
      ordered = each_next (λ f. IsBox f.b) entries i e there c.put_entry.ensures.ordered c.loop-i.invariant.ordered;
    }

pub returns-clause-stand : goal.returns-clause-stand
returns-clause-stand c = λ k e there. c.loop-i.invariant.stand k e (omega (arith, slice_get_within c.args.entries.now k e there, c.loop-i-test.false)) there

pub returns-clause-ordered : goal.returns-clause-ordered
returns-clause-ordered c = λ e has. (let p : Placed c.args.entries.now e = there_has c.args.entries.now e has in
    c.loop-i.invariant.ordered p.k e (omega (arith, slice_get_within c.args.entries.now p.k e p.there, c.loop-i-test.false)) p.there)
