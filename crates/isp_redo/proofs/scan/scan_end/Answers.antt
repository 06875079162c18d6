use Rattle.std.proofs.Common.{◌++◌, [], ◌∷◌, sym, ◌∙◌, ap, subst}
use Rattle.isp_disk.specs.Moments.{Image}
use Rattle.isp_disk.proofs.PhaseLaws.{reads_more}
use Rattle.isp_format.specs.Log.{IsBatch, log_of}
use Rattle.isp_format.proofs.LogWalks.{walk_ends, walk_on}
use Rattle.isp_redo.specs.declared.scan.Step.{Step}
use Rattle.isp_redo.specs.Reading.{FindsBatch, StepsOn}
use Rattle.isp_redo.proofs.Positions.{log_rest}
use Rattle.isp_redo.proofs.scan.scan_end.Goals as goal

pub returns-in-End-clause-found : goal.returns-in-End-clause-found
returns-in-End-clause-found g c tells =
    let w = g.W.World in
    let old = c.args.world.now in
    let mid = c.batches.world in
    let inv = c.batches.invariant in
    let so_far = inv.so_far tells in
    let shut = subst (λ (s : Step). FindsBatch c.args.pages (log_of (w.image mid)) c.batches.end s) c.in-End.is (c.in_ok-batch_at.ensures.found tells) in
    (so_far.0, walk_ends c.args.pages (log_of (w.image old)) 0 so_far.0 c.batches.end so_far.1 (λ one. shut (ap (λ (i : Image). log_of i c.batches.end) inv.reads.same ∙ one)))

pub batches-preserved : goal.batches-preserved
batches-preserved g c =
    let w = g.W.World in
    let old = c.args.world.now in
    let mid = c.batches.world in
    let inv = c.batches.invariant in
    let onward = subst (λ (s : Step). StepsOn c.batches.end s) c.in-Batch.is c.in_ok-batch_at.ensures.onward in record {
      reads = reads_more w old mid c.batch_at.new.world 0 _ 0 inv.reads c.in_ok-batch_at.ensures.reads;
      inside = onward.1;
      so_far = λ tells.
          let so_far = inv.so_far tells in
          let found = subst (λ (s : Step). FindsBatch c.args.pages (log_of (w.image mid)) c.batches.end s) c.in-Batch.is (c.in_ok-batch_at.ensures.found tells) in
          let is = subst (λ (i : Image). IsBatch c.args.pages (log_of i) c.batches.end found.0 c.in-Batch.next) inv.reads.same found.1 in
          (so_far.0 ++ found.0 ∷ [], walk_on c.args.pages (log_of (w.image old)) 0 so_far.0 c.batches.end found.0 c.in-Batch.next so_far.1 is);
    }

pub returns-in-Broken-clause-found : goal.returns-in-Broken-clause-found
returns-in-Broken-clause-found g c tells all end log =
    let w = g.W.World in
    let old = c.args.world.now in
    let mid = c.batches.world in
    let inv = c.batches.invariant in
    let so_far = inv.so_far tells in
    let broken = subst (λ (s : Step). FindsBatch c.args.pages (log_of (w.image mid)) c.batches.end s) c.in-Broken.is (c.in_ok-batch_at.ensures.found tells) in
    let gate = ap (λ (i : Image). log_of i c.batches.end) (sym inv.reads.same) ∙ broken.0 in
    let next = log_rest c.args.pages (log_of (w.image old)) 0 so_far.0 all c.batches.end end c.requires.few so_far.1 log gate in
    broken.1 next.0 next.1 (subst (λ (i : Image). IsBatch c.args.pages (log_of i) c.batches.end next.0 next.1) (sym inv.reads.same) next.2)
