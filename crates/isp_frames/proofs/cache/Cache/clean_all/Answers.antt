use Rattle.std.proofs.Common.{◌∙◌, Ok, arith, refl}
use Rattle.isp_frames.proofs.CacheLaws.{stays_still}
use Rattle.isp_frames.proofs.KeptLaws.{cleaned_none, cleaned_twice}
use Rattle.isp_frames.proofs.StayLaws.{idle_cleaned, kept_failed, kept_ok, kept_still, kept_twice}
use Rattle.isp_frames.proofs.cache.Cache.clean_all.Goals as goal

pub cleaning-init : goal.cleaning-init
cleaning-init g c =
    let s = c.args.self.now in
    record {
      kept = kept_still g.W.World s s tt refl refl c.requires.steady (λ left printed since. g.met.W.World.only_now s.stable.world left printed since) c.requires.steady.below (stays_still g.W.World s);
      cleaned = cleaned_none s.pool;
      fewer = omega arith;
      untouched = λ none. refl;
    }

pub clean_some-requires : goal.clean_some-requires
clean_some-requires g c = idle_cleaned g.W.World c.args.self.now c.cleaning.self tt c.requires c.cleaning.invariant.kept.file c.cleaning.invariant.cleaned

pub cleaning-preserved : goal.cleaning-preserved
cleaning-preserved g c =
    let w = g.W.World in
    let s = c.args.self.now in
    let mid = c.cleaning.self in
    let new = c.clean_some.new.self in
    let more = c.in_ok-clean_some.ensures in
    record {
      kept = kept_ok w s new c.in_ok-clean_some.field-0 tt (kept_twice w s mid new tt (Ok c.in_ok-clean_some.field-0) c.cleaning.invariant.kept more.kept);
      cleaned = cleaned_twice s.pool mid.pool new.pool c.cleaning.invariant.cleaned more.cleaned.others;
      fewer = omega (arith, more.cleaned.left, c.cleaning.invariant.fewer);
      untouched = λ none. more.untouched (omega (arith, none, c.cleaning.invariant.fewer)) ∙ c.cleaning.invariant.untouched none;
    }

pub returns-in_err-clean_some-clause-kept : goal.returns-in_err-clean_some-clause-kept
returns-in_err-clean_some-clause-kept g c =
    let w = g.W.World in
    let s = c.args.self.now in
    let new = c.clean_some.new.self in
    kept_failed w s new _ _ c.from_residual.ensures.0 (kept_twice w s c.cleaning.self new tt _ c.cleaning.invariant.kept c.in_err-clean_some.ensures.kept)
