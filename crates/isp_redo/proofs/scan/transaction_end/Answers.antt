use Rattle.std.proofs.Common.{◌+◌, ◌<◌, ◌≤◌, ◌++◌, [], ◌∷◌, ℕ, List, length, None, ◌∙◌, ap, subst, arith, Option}
use Rattle.std.proofs.lemmas.List.{length-append}
use Rattle.isp_disk.specs.Moments.{Image}
use Rattle.isp_disk.proofs.PhaseLaws.{reads_more}
use Rattle.isp_format.specs.Log.{log_of}
use Rattle.isp_format.specs.Ranges.{Range}
use Rattle.isp_redo.specs.Reading.{AreRangesAt, FindsRange, IsOnward, IsRangeAt}
use Rattle.isp_redo.proofs.PlaceLaws.{ranges_forward, transaction_forward}
use Rattle.isp_redo.proofs.Positions.{count_is, ranges_on, ranges_rest}
use Rattle.isp_redo.proofs.scan.transaction_end.Goals as goal

pub returns-then-end-at-lt-COUNT_BYTES-clause-found : goal.returns-then-end-at-lt-COUNT_BYTES-clause-found
returns-then-end-at-lt-COUNT_BYTES-clause-found g c tells ranges next less is =
    let short = c.if-end-at-lt-COUNT_BYTES.true in
    absurd (omega (arith, short, less, transaction_forward c.args.pages (log_of (g.W.World.image c.args.world.now)) c.args.at ranges next is))

-- the first of ranges that stand there
first_range : (pages : ℕ) (log : Image) (at end : ℕ) (ranges : List Range) (next : ℕ) → FindsRange pages log at end None → next ≤ end → AreRangesAt pages log at ranges next → 0 < length ranges → ⊥
first_range pages log at end [] next none less are some = omega (arith, some)
first_range pages log at end (range ∷ ranges) next none less (mid, is, more) some = none range mid (omega (arith, less, ranges_forward pages log mid ranges next more)) is

pub returns-in-None-clause-found : goal.returns-in-None-clause-found
returns-in-None-clause-found g c tells ranges next less is =
    let w = g.W.World in
    let old = c.args.world.now in
    let mid = c.loop-range.world in
    let log = log_of (w.image old) in
    let inv = c.loop-range.invariant in
    let so_far = inv.so_far tells in
    let none = subst (λ (o : Option ℕ). FindsRange c.args.pages (log_of (w.image mid)) c.loop-range.place c.args.end o) c.in-None.is (c.in_ok-next.ensures.found tells) in
    let none_old = subst (λ (i : Image). FindsRange c.args.pages (log_of i) c.loop-range.place c.args.end None) inv.reads.same none in
    let few = c.in_ok-count.ensures.few in
    let count = count_is c.args.pages log c.args.at c.in_ok-count.count ranges next (omega (arith, few)) (c.in_ok-count.ensures.count tells) is in
    let rest = ranges_rest c.args.pages log (c.args.at + 2) so_far.0 ranges c.loop-range.place next c.requires.few so_far.2 is.each (omega (arith, so_far.1, count)) in
    let long = ap length rest.1 ∙ length-append so_far.0 rest.0 in
    first_range c.args.pages log c.loop-range.place c.args.end rest.0 next none_old less rest.2 (omega (arith, long, so_far.1, count))

pub loop-range-preserved : goal.loop-range-preserved
loop-range-preserved g c =
    let w = g.W.World in
    let old = c.args.world.now in
    let mid = c.loop-range.world in
    let inv = c.loop-range.invariant in
    let onward = subst (λ (o : Option ℕ). IsOnward c.loop-range.place c.args.end o) c.in-Some.is c.in_ok-next.ensures.onward in record {
      reads = reads_more w old mid c.range_end.new.world 0 _ 0 inv.reads c.in_ok-next.ensures.reads;
      onward = omega (arith, inv.onward, onward.0);
      inside = onward.1;
      so_far = λ tells.
          let so_far = inv.so_far tells in
          let found = subst (λ (o : Option ℕ). FindsRange c.args.pages (log_of (w.image mid)) c.loop-range.place c.args.end o) c.in-Some.is (c.in_ok-next.ensures.found tells) in
          let is = subst (λ (i : Image). IsRangeAt c.args.pages (log_of i) c.loop-range.place found.0 c.in-Some.next) inv.reads.same found.1 in
          let long = length-append so_far.0 (found.0 ∷ []) in
          (so_far.0 ++ found.0 ∷ [], omega (arith, long, so_far.1), ranges_on c.args.pages (log_of (w.image old)) (c.args.at + 2) so_far.0 c.loop-range.place found.0 c.in-Some.next so_far.2 is);
    }
