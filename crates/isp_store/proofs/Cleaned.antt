-- A running store with no change open: its contents are those that the file stands for, and with all pages clean those of
-- the pages in their places.
use Rattle.std.proofs.Common.{Bool, List, None, Option, Some, [], ap, arith, cond, false, inr, length, refl, subst, suc, sym, true, zero, ℕ, ◌+◌, ◌==◌, ◌∙◌, ◌∷◌, ◌≡◌, ◌<◌, ◌≤◌}
use Rattle.std.specs.Prelude.{Err, Ok, Result, IfOk, OnOk, count_by}
use Rattle.std.proofs.lemmas.Result.{on_ok_weaker}
use Rattle.std.proofs.lemmas.List.Elements.{All-nil}
use Rattle.std.proofs.lemmas.List.Sums.{sum_by-cons}
use Rattle.std.proofs.lemmas.Bool.Decides.{nat_tests}
use Rattle.std.proofs.lemmas.Bool.{false≢true}
use Rattle.isp_disk.specs.Calls.{OnlyNow}
use Rattle.isp_disk.specs.declared.world.World.{Ghosts}
use Rattle.isp_disk.proofs.PhaseLaws.{calls_on}
use Rattle.isp_format.specs.Contents.{StandsFor}
use Rattle.isp_format.specs.Ranges.{Contents, page_of}
use Rattle.isp_format.proofs.Standing.{stands_once}
use Rattle.isp_frames.specs.Cached.{IsIdle, IsCheckpoint, KeepsCache, KeepsFile, LeavesNow, now}
use Rattle.isp_frames.specs.Held.{AreApart, CleansSome, IsCleaned, but_dirty}
use Rattle.isp_frames.specs.declared.cache.Cache.{Cache}
use Rattle.isp_frames.proofs.KeptLaws.{cleaned_below, cleaned_count, kept_apart}
use Rattle.isp_frames.proofs.PageLaws.{lays_still, lays_twice}
use Rattle.isp_frames.proofs.StayLaws.{shape_twice, stable_still, stands_still}
use Rattle.isp_format.specs.declared.page.Page.{Page}
use Rattle.isp_base.specs.declared.page_no.PageNo.{PageNo}
use Rattle.isp_pool.specs.Frames.{PoolState, frame_at, frame_in, is_pinned, one_if, page_of as page_in}
use Rattle.isp_pool.specs.declared.frames.Frame.{Frame}
use Rattle.isp_stable.specs.File.{flushed}
use Rattle.isp_stable.proofs.FileLaws.{stands, stands_on, stands_weaker}
use Rattle.isp_store.proofs.Keeping.{cached_of, running_kept, stays_kept, steady_of}
use Rattle.isp_mini.specs.Extents.{IsExtent}
use Rattle.isp_mini.specs.declared.changes.Extent.{Extent}
use Rattle.isp_store.specs.Running.{AreFrames, HoldSame, IsAlong, IsPinnedIn, IsRunning, StandsAlike, StaysRunning}

-- no extent is there where none counts
pub none_open : (extents : List Extent) → (length extents == 0) ≡ true → extents ≡ []
none_open [] is = refl
none_open (extent ∷ extents) is = absurd (false≢true (sym more ∙ is))
  where
    more : (length (extent ∷ extents) == 0) ≡ false
    more = grind (arith, nat_tests)

-- no frame is pinned where none counts as it
pub none_pinned_by : (frames : List (Option Frame)) → count_by is_pinned frames ≤ 0 → (i : ℕ) → is_pinned (frame_in frames i) ≡ false
none_pinned_by [] none i = refl
none_pinned_by (o ∷ frames) none i =
    let split : count_by is_pinned (o ∷ frames) ≡ one_if (is_pinned o) + count_by is_pinned frames = sum_by-cons (λ f. cond (is_pinned f) 1 0) o frames in
    let first : one_if (is_pinned o) ≡ 0 = omega (arith, split, none) in
    by_place i (is_zero (is_pinned o) first) (none_pinned_by frames (omega (arith, split, none)))
  where
    is_zero : (b : Bool) → one_if b ≡ 0 → b ≡ false
    is_zero true e = absurd (omega (arith, e))
    is_zero false e = refl

    by_place : (i : ℕ) → is_pinned o ≡ false → ((j : ℕ) → is_pinned (frame_in frames j) ≡ false) → is_pinned (frame_in (o ∷ frames) i) ≡ false
    by_place zero first rest = first
    by_place (suc j) first rest = rest j

-- and none counts where none is
pub none_count : (frames : List (Option Frame)) → ((i : ℕ) → is_pinned (frame_in frames i) ≡ false) → count_by is_pinned frames ≤ 0
none_count [] none = omega arith
none_count (o ∷ frames) none =
    let split : count_by is_pinned (o ∷ frames) ≡ one_if (is_pinned o) + count_by is_pinned frames = sum_by-cons (λ f. cond (is_pinned f) 1 0) o frames in
    let first : one_if (is_pinned o) ≡ 0 = ap one_if (none zero) in
    omega (arith, split, first, none_count frames (λ i. none (suc i)))

-- the frames of a store with no change open, once some were cleaned
pub frames_cleaned : (pages : ℕ) (old new : PoolState) → AreFrames pages old [] → IsCleaned old new → AreFrames pages new []
frames_cleaned pages old new are cleaned = record {
  many = subst (λ (n : ℕ). 64 ≤ n) (sym cleaned.count) are.many;
  apart = kept_apart new.frames old.frames cleaned.frames are.apart;
  below = cleaned_below old new pages cleaned are.below;
  pins = subst (λ (n : ℕ). n ≤ 0) (sym (cleaned_count old new cleaned)) are.pins;
  pinned = All-nil (IsPinnedIn new);
  inside = are.inside;
  extents = are.extents;
}

-- the same pages stand in the same frames
pub cleaned_holds : (old new : PoolState) → IsCleaned old new → HoldSame old new
cleaned_holds old new cleaned i = same (frame_at new i) (frame_at old i) (cleaned.frames i)
  where
    same : (o other : Option Frame) → but_dirty o ≡ but_dirty other → page_in o ≡ page_in other
    same None None is = refl
    same None (Some f) is = absurd (cc)
    same (Some f) None is = absurd (cc)
    same (Some f) (Some h) is = ap Some (ap page_of_some is)
      where
        page_of_some : Option (PageNo × (Page × Bool)) → PageNo
        page_of_some None = f.page
        page_of_some (Some parts) = parts.0

module _ {W : Type 0} (g : Ghosts W) where
  -- with no change open the contents are those that the file stands for
  pub stands_running : (s : Cache W) → IsRunning g s [] → g.tells → StandsFor (g.image s.stable.world) (now g s)
  stands_running s running tells =
      let along = running.along tells in
      subst (StandsFor (g.image s.stable.world)) (λ i place. along.differs place refl i) (stands g s.stable along.file)

  -- and no page has to stay
  pub idle_of : (s : Cache W) → IsRunning g s [] → IsIdle g s
  idle_of s running = record { steady = steady_of g s [] running; unpinned = none_pinned_by s.pool.frames running.frames.pins; room = running.batch }

  -- some pages were cleaned
  pub stays_cleaned : {E : Type 0} (old new : Cache W) (result : Result ℕ E) → IsRunning g old [] → KeepsCache g old new result → IfOk result (CleansSome old.pool new.pool) → StaysRunning g old new [] result
  stays_cleaned old new (Ok n) running kept cleaned = stays_kept g old new new.pool [] [] (Ok n) running kept (running_kept g old new n [] running (frames_cleaned old.stable.pages old.pool new.pool running.frames cleaned.others) kept)
  stays_cleaned old new (Err e) running kept cleaned = stays_kept g old new new.pool [] [] (Err e) running kept tt

  -- a call on the frames leaves the contents as they are
  pub contents_kept : {T E : Type 0} (old new : Cache W) (extents : List Extent) (result : Result T E) → IsRunning g old extents → KeepsCache g old new result → g.tells → OnOk result (now g new ≡ now g old)
  contents_kept old new extents result running kept tells = on_ok_weaker result (λ stays. stays.after.contents_are) (kept.stays tells (cached_of g old extents running.frames (running.along tells)))

  -- all pages were written in place, and the log was emptied
  along_settled : (s : Cache W) → IsCheckpoint g s → g.tells → IsAlong g s []
  along_settled s checkpoint tells =
      let there = checkpoint.in_place tells in
      record {
        file = there.emptied.0;
        clean = (checkpoint.idle.steady.cached tells).clean;
        differs = λ place out. (λ i. flushed g s.stable (there.emptied.1 i) place) ∙ (λ i. there.placed_is i place);
      }

  pub running_settled : (old new : Cache W) → IsRunning g old [] → IsCleaned old.pool new.pool → new.stable.pages ≡ old.stable.pages → IsCheckpoint g new → IsRunning g new []
  running_settled old new running cleaned pages checkpoint = record {
    quiet = checkpoint.idle.steady.quiet;
    frames = subst (λ (n : ℕ). AreFrames n new.pool []) (sym pages) (frames_cleaned old.stable.pages old.pool new.pool running.frames cleaned);
    room = λ some. absurd (some refl);
    batch = checkpoint.idle.room;
    along = λ tells. along_settled new checkpoint tells;
  }

  pub stays_settled : {T E : Type 0} (old new : Cache W) (result : Result T E) → IsRunning g old [] → KeepsFile g old new result → (g.tells → LeavesNow g old new.stable.world) → OnOk result (IsCheckpoint g new) → OnOk result (IsCleaned old.pool new.pool) → StaysRunning g old new [] result
  stays_settled old new result running kept leaves checkpoint cleaned = record {
    stable = kept.stable;
    running = after result checkpoint cleaned;
    pages = λ tells. kept.pages tells (cached_of g old [] running.frames (running.along tells));
    stops = λ tells.
        let stood = stands_running old running tells in
        stands_weaker g old.stable new.stable.world _ _ (λ contents is. subst (StandsFor (g.image old.stable.world)) (sym is) stood) (leaves tells stood);
  }
    where
      after : {A B : Type 0} (result : Result A B) → OnOk result (IsCheckpoint g new) → OnOk result (IsCleaned old.pool new.pool) → OnOk result (IsRunning g new [])
      after (Ok t) is clean = running_settled old new running clean kept.stable.shape.pages is
      after (Err e) is clean = tt

  alike_settled : (old new : Cache W) → IsRunning g old [] → IsCheckpoint g new → g.tells → now g new ≡ now g old → StandsAlike g old new
  alike_settled old new running checkpoint tells same =
      let there = checkpoint.in_place tells in
      record {
        contents = same;
        pages = λ page. inr (ap (λ (contents : Contents). page_of contents page) (there.placed_is ∙ same));
        stands = λ left is. subst (StandsFor (g.image old.stable.world)) (sym (stands_once (g.image new.stable.world) left (now g new) is there.stands ∙ same)) (stands_running old running tells);
      }

  -- a store that was just started
  pub running_started : (s : Cache W) → IsCheckpoint g s → AreApart s.pool.frames → 64 ≤ length s.pool.frames → IsRunning g s []
  running_started s checkpoint apart many = record {
    quiet = checkpoint.idle.steady.quiet;
    frames = record {
      many = many;
      apart = apart;
      below = checkpoint.idle.steady.below;
      pins = none_count s.pool.frames checkpoint.idle.unpinned;
      pinned = All-nil (IsPinnedIn s.pool);
      inside = All-nil (λ (extent : Extent). extent.page.0 < s.stable.pages);
      extents = record { each = All-nil IsExtent; distinct = tt; few = omega arith };
    };
    room = λ some. absurd (some refl);
    batch = checkpoint.idle.room;
    along = λ tells. along_settled s checkpoint tells;
  }

  pub alike_by : {T E : Type 0} (old new : Cache W) (result : Result T E) → IsRunning g old [] → OnOk result (IsCheckpoint g new) → g.tells → OnOk result (now g new ≡ now g old) → OnOk result (StandsAlike g old new)
  alike_by old new (Ok t) running checkpoint tells same = alike_settled old new running checkpoint tells same
  alike_by old new (Err e) running checkpoint tells same = tt

  -- no call at all
  pub stays_still : {T E : Type 0} (s : Cache W) (extents : List Extent) (t : T) → OnlyNow g s.stable.world → IsRunning g s extents → StaysRunning g {T = T} {E = E} s s extents (Ok t)
  stays_still s extents t only running = record {
    stable = stable_still g s.stable t running.quiet;
    running = running;
    pages = λ tells. lays_still g s.stable (now g s) (running.along tells).file running.quiet only;
    stops = λ tells.
        let file = (running.along tells).file in
        stands_weaker g s.stable s.stable.world _ _ (λ contents is. subst (StandsFor (g.image s.stable.world)) (sym is) (stands g s.stable file)) (stands_still g s.stable file running.quiet only);
  }

  -- one call behind another that leaves the store alike
  pub stays_on : {T U E : Type 0} (old mid new : Cache W) (before extents : List Extent) (first : T) (result : Result U E) → StaysRunning g {T = T} {E = E} old mid before (Ok first) → (g.tells → StandsAlike g old mid) → StaysRunning g mid new extents result → StaysRunning g old new extents result
  stays_on old mid new before extents first result earlier alike call = record {
    stable = record {
      shape = shape_twice g old.stable mid.stable new.stable earlier.stable.shape call.stable.shape;
      quiet = call.stable.quiet;
      calls = calls_on g old.stable.world mid.stable.world new.stable.world first result earlier.stable.calls call.stable.calls;
    };
    running = call.running;
    pages = λ tells. lays_twice g old mid new (alike tells).pages (alike tells).contents (earlier.pages tells) (call.pages tells);
    stops = λ tells. stands_on g old.stable mid.stable new.stable.world _ earlier.stable.shape earlier.stable.calls.printed (earlier.stops tells)
        (stands_weaker g mid.stable new.stable.world _ _ (alike tells).stands (call.stops tells));
  }
