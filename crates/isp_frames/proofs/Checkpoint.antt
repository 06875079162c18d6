-- All pages written in place, and the log emptied.
use Rattle.std.proofs.Common.{◌≡◌, ◌∙◌, ◌⊎◌, ⊎_elim, List, [], ℕ, Ok, Result, refl, sym, ap, subst}
use Rattle.std.specs.Prelude.{OnOk}
use Rattle.isp_disk.specs.declared.world.World.{Ghosts}
use Rattle.isp_format.specs.Contents.{StandsFor, ranges_of}
use Rattle.isp_format.specs.Log.{Transaction}
use Rattle.isp_format.specs.Ranges.{puts}
use Rattle.isp_format.proofs.Standing.{stands_once}
use Rattle.isp_frames.specs.Cached.{IsCached, IsInPlace, IsSteady, KeepsFile, StaysCached, now, with_stable}
use Rattle.isp_frames.specs.Held.{AreApart, AreBelow, AreClean, NoneDirty, now_over}
use Rattle.isp_frames.specs.declared.cache.Cache.{Cache}
use Rattle.isp_stable.specs.File.{HasBatches, KeepsShape, KeepsStable, MakesLog, StandsOnly, flushed, placed}
use Rattle.isp_stable.specs.declared.stable.Stable.{Stable}
use Rattle.isp_stable.proofs.FileLaws.{stands, stands_on, stands_weaker}
use Rattle.isp_frames.proofs.NowLaws.{now_placed}
use Rattle.isp_frames.proofs.PageLaws.{lays_read}

module _ {W : Type 0} (g : Ghosts W) where
  -- a clean cache, before its log was emptied and after it
  module _ (mid : Cache W) (s : Stable W) (cached : IsCached g mid) (apart : AreApart mid.pool.frames) (clean : NoneDirty mid.pool) (emptied : HasBatches g s []) (same : placed g s ≡ placed g mid.stable) where
    its_clean : AreClean mid.pool.frames (placed g s)
    its_clean = subst (AreClean mid.pool.frames) (sym same) cached.clean

    now_is : now g (with_stable mid s) ≡ placed g s
    now_is = now_placed mid.pool.frames (placed g s) apart its_clean clean

    pub cached_emptied : IsCached g (with_stable mid s)
    cached_emptied = record { file = emptied.0; clean = its_clean; covered = λ spot out i. sym now_is i spot }

    pub in_place : IsInPlace g (with_stable mid s)
    in_place = record {
      emptied = emptied;
      placed_is = sym now_is;
      stands = subst (StandsFor (g.image s.world)) (ap (λ (batches : List (List Transaction)). puts (ranges_of batches) (placed g s)) emptied.1 ∙ sym now_is) (stands g s emptied.0);
      pages = emptied.0.pages;
      fanout = emptied.0.fanout;
    }

  pub now_same : (mid : Cache W) (s : Stable W) → placed g s ≡ placed g mid.stable → now g (with_stable mid s) ≡ now g mid
  now_same mid s same = ap (now_over mid.pool.frames) same

  -- between two calls again
  pub steady_emptied : {A E : Type 0} (mid : Cache W) (s : Stable W) (a : A) → IsSteady g mid → KeepsStable {T = A} {E = E} g mid.stable s (Ok a) → AreApart mid.pool.frames → NoneDirty mid.pool
      → (g.tells → IsCached g mid → HasBatches g s []) → (g.tells → placed g s ≡ placed g mid.stable) → IsSteady g (with_stable mid s)
  steady_emptied mid s a steady kept apart clean emptied same = record {
    quiet = kept.quiet;
    below = subst (λ (n : ℕ). AreBelow n mid.pool.frames) (sym kept.shape.pages) steady.below;
    cached = λ tells. let cached = steady.cached tells in cached_emptied mid s cached apart clean (emptied tells cached) (same tells);
  }

  -- what the emptying leaves of the file
  pub file_emptied : {A E : Type 0} (mid : Cache W) (s : Stable W) (result : Result A E) → KeepsStable g mid.stable s result → OnOk result (IsSteady g (with_stable mid s))
      → (g.tells → (cached : IsCached g mid) → MakesLog g [] (λ contents. (contents ≡ flushed g mid.stable cached.file.batches) ⊎ (contents ≡ placed g mid.stable)) mid.stable s result) → KeepsFile g mid (with_stable mid s) result
  file_emptied mid s result kept steady makes = record {
    stable = kept;
    room = refl;
    steady = steady;
    pages = λ tells cached. lays_read g mid.stable (now g mid) s.world (makes tells cached).pages;
  }

  -- what a stop leaves, where the file stood for the contents
  pub stops_cleaned : (old : Cache W) (new : W) (cached : IsCached g old) → StandsFor (g.image old.stable.world) (now g old) → StandsOnly g old.stable new (λ contents. contents ≡ flushed g old.stable cached.file.batches) → StandsOnly g old.stable new (λ contents. contents ≡ now g old)
  stops_cleaned old new cached stood first =
      let same : flushed g old.stable cached.file.batches ≡ now g old = stands_once (g.image old.stable.world) _ _ (stands g old.stable cached.file) stood in
      stands_weaker g old.stable new _ _ (λ contents is. is ∙ same) first

  pub stops_settled : (old mid : Cache W) (new : W) (cached : IsCached g old) (stays : StaysCached g old mid cached.file.batches) → AreApart mid.pool.frames → NoneDirty mid.pool → KeepsShape old.stable mid.stable → g.printed mid.stable.world ≡ g.printed old.stable.world
      → StandsFor (g.image old.stable.world) (now g old) → StandsOnly g old.stable mid.stable.world (λ contents. contents ≡ flushed g old.stable cached.file.batches)
      → StandsOnly g mid.stable new (λ contents. (contents ≡ flushed g mid.stable stays.after.cached.file.batches) ⊎ (contents ≡ placed g mid.stable)) → StandsOnly g old.stable new (λ contents. contents ≡ now g old)
  stops_settled old mid new cached stays apart clean shape printed stood first second =
      let same : flushed g old.stable cached.file.batches ≡ now g old = stands_once (g.image old.stable.world) _ _ (stands g old.stable cached.file) stood in
      let log : flushed g mid.stable stays.after.cached.file.batches ≡ now g old = ap (flushed g mid.stable) stays.after.same ∙ stays.after.stands ∙ same in
      let place : placed g mid.stable ≡ now g old = sym (now_placed mid.pool.frames (placed g mid.stable) apart stays.after.cached.clean clean) ∙ stays.after.contents_are in
      stands_on g old.stable mid.stable new (λ contents. contents ≡ now g old) shape printed
      (stops_cleaned old mid.stable.world cached stood first)
      (stands_weaker g mid.stable new _ _ (λ contents which. ⊎_elim (λ is. is ∙ log) (λ is. is ∙ place) which) second)
