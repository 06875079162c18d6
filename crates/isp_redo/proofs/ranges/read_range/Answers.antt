use Rattle.std.proofs.Common.{◌≡◌, ℕ, Option, sym, ap, subst, arith}
use Rattle.isp_disk.specs.Moments.{Image}
use Rattle.isp_disk.proofs.PhaseLaws.{reads_more}
use Rattle.isp_format.specs.Log.{log_of}
use Rattle.isp_redo.specs.Places.{GoesOn, IsAt, LeadsOn, place_of}
use Rattle.isp_redo.specs.declared.ranges.LogPlace.{LogPlace}
use Rattle.isp_redo.proofs.Ahead.{at_forward}
use Rattle.isp_redo.proofs.ranges.read_range.Goals as goal

pub returns-then-place-clause-found : goal.returns-then-place-clause-found
returns-then-place-clause-found g c tells pages few ranges is =
    let past = c.if-place.true in
    let same = c.unpack-place.ensures in
    absurd (omega (arith, ap (λ (p : LogPlace). p.at) same, ap (λ (p : LogPlace). p.end) same, past, at_forward pages (log_of (g.W.World.image c.args.world.now)) (place_of c.args.from) ranges is))

pub seeking-preserved : goal.seeking-preserved
seeking-preserved g c =
    let w = g.W.World in
    let old = c.args.world.now in
    let mid = c.seeking.world in
    let inv = c.seeking.invariant in
    let here : LogPlace = record { at = c.seeking.place.at; left = 0; end = c.seeking.place.end } in
    let goes = subst (λ (o : Option LogPlace). GoesOn here o) c.in-Some.is c.in_ok-next.ensures.onward in record {
      reads = reads_more w old mid c.onward.new.world 0 _ 0 inv.reads c.in_ok-next.ensures.reads;
      inside = goes.1;
      end = goes.2;
      few = goes.3;
      onward = omega (arith, inv.onward, goes.0);
      ahead = λ tells pages few ranges is.
          let leads = subst (λ (o : Option LogPlace). LeadsOn pages (log_of (w.image mid)) here o) c.in-Some.is (c.in_ok-next.ensures.leads tells pages few) in
          let none : c.seeking.place.left ≡ 0 = c.seeking-test.true in
          let at : IsAt pages (log_of (w.image old)) here ranges = subst (λ (n : ℕ). IsAt pages (log_of (w.image old)) (record { at = c.seeking.place.at; left = n; end = c.seeking.place.end }) ranges) none (inv.ahead tells pages few ranges is) in
          subst (λ (i : Image). IsAt pages (log_of i) c.in-Some.next ranges) inv.reads.same (leads ranges (subst (λ (i : Image). IsAt pages (log_of i) here ranges) (sym inv.reads.same) at));
    }

pub returns-in-None-clause-found : goal.returns-in-None-clause-found
returns-in-None-clause-found g c tells pages few ranges is =
    let w = g.W.World in
    let old = c.args.world.now in
    let mid = c.seeking.world in
    let inv = c.seeking.invariant in
    let here : LogPlace = record { at = c.seeking.place.at; left = 0; end = c.seeking.place.end } in
    let leads = subst (λ (o : Option LogPlace). LeadsOn pages (log_of (w.image mid)) here o) c.in-None.is (c.in_ok-next.ensures.leads tells pages few) in
    let none : c.seeking.place.left ≡ 0 = c.seeking-test.true in
    let at : IsAt pages (log_of (w.image old)) here ranges = subst (λ (n : ℕ). IsAt pages (log_of (w.image old)) (record { at = c.seeking.place.at; left = n; end = c.seeking.place.end }) ranges) none (inv.ahead tells pages few ranges is) in
    leads ranges (subst (λ (i : Image). IsAt pages (log_of i) here ranges) (sym inv.reads.same) at)
