-- How the words of a row of calls go on: one call more in a phase, one read behind another, and what is said of each stop
-- within a phase.
use Rattle.std.proofs.Common.{◌≡◌, ℕ, List, [], Result, Ok, refl, sym, ◌∙◌, subst}
use Rattle.isp_disk.specs.Calls.{DiskCall}
use Rattle.isp_disk.specs.Moments.{Image, Region, Agree, During, Elapses, Keeps, LeavesOnly, Quiet, Touches, Within, either, in_range, no_place}
use Rattle.isp_disk.specs.Phases.{LeftOfPhase, OnlyReads, Phase}
use Rattle.isp_disk.specs.declared.world.World.{Ghosts}
use Rattle.isp_disk.proofs.Calls.{cause_joined}
use Rattle.isp_disk.proofs.MomentLaws.{agree_on, agree_self, agree_wider, chains, goes_on, nothing_told, started, widens, within_both}

module _ {W : Type 0} (g : Ghosts W) where
  -- a call behind one that came about
  pub calls_on : {T U E : Type 0} (old mid new : W) (first : T) (result : Result U E) → DiskCall {E = E} g old mid (Ok first) → DiskCall g mid new result → DiskCall g old new result
  calls_on old mid new first result earlier call = record {
    printed = call.printed ∙ earlier.printed;
    printer = call.printer ∙ earlier.printer;
    cause = cause_joined (g.disk_faults old) (g.disk_faults mid) (g.disk_faults new) first result earlier.cause call.cause;
  }

  -- a phase begins where nothing is pending
  pub begins : (old : W) (region : Region) → Quiet (g.pending old) → ((left : Image) (told : List ℕ) → g.left_since old (g.clock old) left told → Agree (g.pending old) (g.image old) left × (told ≡ g.printed old)) → Phase g old old region
  begins old region quiet only = record {
    agrees = agree_self region (g.image old);
    within = λ place out. quiet place;
    told = refl;
    leaves = started g.clock g.left_since old (LeftOfPhase g old region) (λ left told since. let now = only left told since in (agree_wider (g.pending old) region (g.image old) left (λ place out. quiet place) now.0, now.1));
  }

  -- what a stop leaves within a call of a phase
  within_call : (old mid : W) (region range : Region) → Phase g old mid region → Within range region → (left : Image) (told : List ℕ) → During (g.image mid) (g.pending mid) range (g.printed mid) [] left told → LeftOfPhase g old region left told
  within_call old mid region range phase inside left told during = (
    agree_on region (g.image old) (g.image mid) left phase.agrees (agree_wider (either (g.pending mid) range) region (g.image mid) left (within_both (g.pending mid) range region phase.within inside) during.agree),
    nothing_told (g.printed mid) told during.part ∙ phase.told,
  )

  -- a write whose range lies in the region, good or failed
  pub writes : (old mid new : W) (region : Region) (at size : ℕ) → Phase g old mid region → Within (in_range at size) region → Touches (g.image mid) (g.pending mid) at size (g.image new) (g.pending new) → g.printed new ≡ g.printed mid → Elapses (g.clock mid) (g.clock new) (g.left_since mid) (g.left_since new) (During (g.image mid) (g.pending mid) (in_range at size) (g.printed mid) []) → Phase g old new region
  writes old mid new region at size phase inside touches same time = record {
    agrees = agree_on region (g.image old) (g.image mid) (g.image new) phase.agrees (agree_wider (in_range at size) region (g.image mid) (g.image new) inside touches.others);
    within = λ place out. touches.no_more place (within_both (g.pending mid) (in_range at size) region phase.within inside place out);
    told = same ∙ phase.told;
    leaves = goes_on g.clock g.left_since old mid new (LeftOfPhase g old region) _ phase.leaves time (within_call old mid region (in_range at size) phase inside);
  }

  -- a read or a sync, good or failed
  pub keeps : (old mid new : W) (region : Region) → Phase g old mid region → Keeps (g.image mid) (g.pending mid) (g.image new) (g.pending new) → g.printed new ≡ g.printed mid → Elapses (g.clock mid) (g.clock new) (g.left_since mid) (g.left_since new) (During (g.image mid) (g.pending mid) no_place (g.printed mid) []) → Phase g old new region
  keeps old mid new region phase kept same time = record {
    agrees = subst (λ (i : Image). Agree region (g.image old) i) (sym kept.same) phase.agrees;
    within = λ place out. kept.no_more place (phase.within place out);
    told = same ∙ phase.told;
    leaves = goes_on g.clock g.left_since old mid new (LeftOfPhase g old region) _ phase.leaves time (within_call old mid region no_place phase (λ place out. refl));
  }

  -- one phase behind another in the same region
  pub phases_on : (old mid new : W) (region : Region) → Phase g old mid region → Phase g mid new region → Phase g old new region
  phases_on old mid new region first second = record {
    agrees = agree_on region (g.image old) (g.image mid) (g.image new) first.agrees second.agrees;
    within = second.within;
    told = second.told ∙ first.told;
    leaves = chains g.clock g.left_since old mid new _ first.leaves
        (widens g.clock g.left_since mid new _ _ second.leaves (λ left told has. (agree_on region (g.image old) (g.image mid) left first.agrees has.0, has.1 ∙ first.told)));
  }

  -- a phase in a wider region
  pub phase_wider : (old now : W) (region wider : Region) → Within region wider → Phase g old now region → Phase g old now wider
  phase_wider old now region wider within phase = record {
    agrees = agree_wider region wider (g.image old) (g.image now) within phase.agrees;
    within = λ place out. phase.within place (within place out);
    told = phase.told;
    leaves = widens g.clock g.left_since old now _ _ phase.leaves (λ left told has. (agree_wider region wider (g.image old) left within has.0, has.1));
  }

  -- a call that only reads is a phase that writes nowhere
  pub reads_phase : {T E : Type 0} (old new : W) (result : Result T E) → OnlyReads g old new result → Phase g old new no_place
  reads_phase old new result reads = record {
    agrees = λ place out. (λ i. sym reads.same i place);
    within = λ place out. reads.quiet place;
    told = reads.calls.printed;
    leaves = reads.leaves;
  }

  -- and a phase that writes nowhere only reads
  pub phase_reads : {T E : Type 0} (old new : W) (result : Result T E) → Phase g old new no_place → DiskCall g old new result → OnlyReads g old new result
  phase_reads old new result phase calls = record {
    leaves = phase.leaves;
    same = λ i place. sym (phase.agrees place refl) i;
    quiet = λ place. phase.within place refl;
    calls = calls;
  }

  -- a read behind one that came about
  pub reads_on : {T U E : Type 0} (old mid new : W) (first : T) (result : Result U E) → OnlyReads {E = E} g old mid (Ok first) → OnlyReads g mid new result → OnlyReads g old new result
  reads_on old mid new first result earlier reads =
      phase_reads old new result
      (phases_on old mid new no_place (reads_phase old mid (Ok first) earlier) (reads_phase mid new result reads))
      (calls_on old mid new first result earlier.calls reads.calls)

  -- the same within a loop, whose reads so far are those of a call that came about
  pub reads_more : {T U V E : Type 0} (old mid new : W) (first : T) (second : U) (now : V) → OnlyReads {E = E} g old mid (Ok first) → OnlyReads {E = E} g mid new (Ok second) → OnlyReads {E = E} g old new (Ok now)
  reads_more old mid new first second now earlier reads =
      let both = reads_on old mid new first (Ok second) earlier reads in
      record {
        leaves = both.leaves;
        same = both.same;
        quiet = both.quiet;
        calls = record {
          printed = both.calls.printed;
          printer = both.calls.printer;
          cause = record { later = both.calls.cause.later; steady = both.calls.cause.steady; failed = tt };
        };
      }

  -- where each image that differs in the region alone has P, each stop within the phase leaves one that has it
  pub leaves_only : (old now : W) (region : Region) (P : Image → Type 0) → Phase g old now region → ((left : Image) → Agree region (g.image old) left → P left) → LeavesOnly g.clock g.left_since old now (λ left told. P left × (told ≡ g.printed old))
  leaves_only old now region P phase each = widens g.clock g.left_since old now (LeftOfPhase g old region) _ phase.leaves (λ left told has. (each left has.0, has.1))
