-- What calls on the frames leave, over any world: those of the file below, no call at all, and one behind another.
use Rattle.std.proofs.Common.{◌≡◌, ◌∙◌, ◌⊎◌, List, ℕ, Ok, Err, Result, refl, sym, ap, subst, arith, map}
use Rattle.std.specs.Prelude.{IsErr, OnOk, vec_capacity}
use Rattle.std.proofs.lemmas.Result.{on_ok_weaker}
use Rattle.isp_disk.specs.Calls.{OnlyNow}
use Rattle.isp_disk.specs.Moments.{Agree, Quiet}
use Rattle.isp_disk.specs.declared.world.Failed.{Failed}
use Rattle.isp_disk.specs.declared.world.World.{Ghosts}
use Rattle.isp_disk.proofs.MomentLaws.{started}
use Rattle.isp_disk.proofs.PhaseLaws.{calls_on}
use Rattle.isp_doublewrite.specs.Batches.{whole_page}
use Rattle.isp_format.specs.Contents.{ranges_of}
use Rattle.isp_format.specs.Log.{Transaction}
use Rattle.isp_format.specs.Ranges.{cover, puts}
use Rattle.isp_frames.specs.Cached.{ChangesPage, IsCached, IsIdle, IsSteady, KeepsCache, KeepsFile, StaysCached, now}
use Rattle.isp_frames.specs.Gathered.{IsGathered}
use Rattle.isp_frames.specs.Held.{AreBelow, IsCleaned}
use Rattle.isp_frames.specs.declared.cache.Cache.{Cache}
use Rattle.isp_format.specs.declared.page.Page.{Page}
use Rattle.isp_base.specs.declared.page_no.PageNo.{PageNo}
use Rattle.isp_stable.specs.File.{ArePagesOf, HasWritten, IsFile, KeepsShape, KeepsStable, LaysOnly, ReadsStable, StandsOnly, flushed, placed}
use Rattle.isp_stable.specs.declared.stable.Stable.{Stable}
use Rattle.isp_stable.proofs.FileLaws.{reads_only, stands_on, stands_weaker}
use Rattle.isp_frames.proofs.CacheLaws.{stays_gathered}
use Rattle.isp_frames.proofs.KeptLaws.{cleaned_unpinned}
use Rattle.isp_frames.proofs.PageLaws.{lays_batch, lays_read, lays_still, lays_twice, pages_twice}

module _ {W : Type 0} (g : Ghosts W) where
  pub shape_same : (s : Stable W) → KeepsShape s s
  shape_same s = record { pages = refl; fanout = refl }

  pub shape_twice : (old mid new : Stable W) → KeepsShape old mid → KeepsShape mid new → KeepsShape old new
  shape_twice old mid new first second = record { pages = second.pages ∙ first.pages; fanout = second.fanout ∙ first.fanout }

  -- what a stop leaves, one run behind another that leaves the file standing for the same
  pub stops_twice : (old mid : Cache W) (new : W) (batches : List (List Transaction)) → StaysCached g old mid batches → KeepsShape old.stable mid.stable → g.printed mid.stable.world ≡ g.printed old.stable.world
      → StandsOnly g old.stable mid.stable.world (λ contents. contents ≡ flushed g old.stable batches)
      → ((cached : IsCached g mid) → StandsOnly g mid.stable new (λ contents. contents ≡ flushed g mid.stable cached.file.batches))
      → StandsOnly g old.stable new (λ contents. contents ≡ flushed g old.stable batches)
  stops_twice old mid new batches stays shape printed first second =
      let same : flushed g mid.stable stays.after.cached.file.batches ≡ flushed g old.stable batches = ap (flushed g mid.stable) stays.after.same ∙ stays.after.stands in
      stands_on g old.stable mid.stable new (λ contents. contents ≡ flushed g old.stable batches) shape printed first
      (stands_weaker g mid.stable new _ _ (λ contents is. is ∙ same) (second stays.after.cached))

  -- no call at all
  pub stands_still : (s : Stable W) (file : IsFile g s) → Quiet (g.pending s.world) → OnlyNow g s.world → StandsOnly g s s.world (λ contents. contents ≡ flushed g s file.batches)
  stands_still s file quiet only =
      reads_only g s file s.world (started g.clock g.left_since s.world _ (λ left printed since. let at_now = only left printed since in ((λ place out. at_now.0 place (quiet place)), at_now.1)))

  pub stable_still : {A E : Type 0} (s : Stable W) (a : A) → Quiet (g.pending s.world) → KeepsStable {T = A} {E = E} g s s (Ok a)
  stable_still s a quiet = record {
    shape = shape_same s;
    quiet = quiet;
    calls = record { printed = refl; printer = refl; cause = record { later = omega arith; steady = refl; failed = tt } };
  }

  pub stays_twice : (old mid new : Cache W) (batches : List (List Transaction)) (first : StaysCached g old mid batches) → StaysCached g mid new first.after.cached.file.batches → StaysCached g old new batches
  stays_twice old mid new batches first next = record {
    after = record {
      cached = next.after.cached;
      same = next.after.same ∙ first.after.same;
      stands = subst (λ (bs : List (List Transaction)). flushed g new.stable bs ≡ flushed g mid.stable bs) first.after.same next.after.stands ∙ first.after.stands;
      contents_are = next.after.contents_are ∙ first.after.contents_are;
    };
    pages = pages_twice (placed g old.stable) (now g old) (placed g mid.stable) (now g mid) (placed g new.stable) first.pages first.after.contents_are next.pages;
    log = λ place low high. first.log place low high ∙ next.log place low high;
  }

  -- what was gathered into the batch, over the file that is there
  abbrev pub Gathers : Cache W → Cache W → List (PageNo × Page) → Type 0
  Gathers old new batch = (cached : IsCached g old) → IsGathered old.pool.frames new.pool.frames (placed g old.stable) (cover (ranges_of cached.file.batches)) batch

  -- the same of a call with another type of result
  pub file_failed : {A B E : Type 0} (old new : Cache W) (e : E) (result : Result B E) → IsErr result → KeepsFile g {T = A} {E = E} old new (Err e) → KeepsFile g {T = B} {E = E} old new result
  file_failed old new e (Ok b) err kept = absurd (cc)
  file_failed old new e (Err other) err kept = record {
    stable = record {
      shape = kept.stable.shape;
      quiet = tt;
      calls = record {
        printed = kept.stable.calls.printed;
        printer = kept.stable.calls.printer;
        cause = record { later = kept.stable.calls.cause.later; steady = tt; failed = kept.stable.calls.cause.failed };
      };
    };
    room = kept.room;
    steady = tt;
    pages = kept.pages;
  }

  pub kept_failed : {A B E : Type 0} (old new : Cache W) (e : E) (result : Result B E) → IsErr result → KeepsCache g {T = A} {E = E} old new (Err e) → KeepsCache g {T = B} {E = E} old new result
  kept_failed old new e (Ok b) err kept = absurd (cc)
  kept_failed old new e (Err other) err kept = record { file = file_failed old new e (Err other) refl kept.file; log = kept.log; stays = λ tells cached. tt; stops = kept.stops }

  pub changes_failed : {A B : Type 0} (p : PageNo) (at : ℕ) (bytes : List ℕ) (old new : Cache W) (e : Failed) (result : Result B Failed) → IsErr result → KeepsCache g {T = A} {E = Failed} old new (Err e) → ChangesPage g {T = B} p at bytes old new result
  changes_failed p at bytes old new e (Ok b) err kept = absurd (cc)
  changes_failed p at bytes old new e (Err other) err kept = record { put = tt; failed = kept_failed old new e (Err other) refl kept }

  pub kept_ok : {A B E : Type 0} (old new : Cache W) (a : A) (b : B) → KeepsCache g {T = A} {E = E} old new (Ok a) → KeepsCache g {T = B} {E = E} old new (Ok b)
  kept_ok old new a b kept = record {
    file = record {
      stable = record {
        shape = kept.file.stable.shape;
        quiet = kept.file.stable.quiet;
        calls = record {
          printed = kept.file.stable.calls.printed;
          printer = kept.file.stable.calls.printer;
          cause = record { later = kept.file.stable.calls.cause.later; steady = kept.file.stable.calls.cause.steady; failed = tt };
        };
      };
      room = kept.file.room;
      steady = kept.file.steady;
      pages = kept.file.pages;
    };
    log = kept.log;
    stays = kept.stays;
    stops = kept.stops;
  }

  module _ {A E : Type 0} where
    -- a call that leaves the file alone
    pub kept_still : (old new : Cache W) (a : A) → new.stable ≡ old.stable → vec_capacity new.batch ≡ vec_capacity old.batch → IsSteady g old → OnlyNow g old.stable.world → AreBelow old.stable.pages new.pool.frames
        → ((cached : IsCached g old) → StaysCached g old new cached.file.batches) → KeepsCache g {T = A} {E = E} old new (Ok a)
    kept_still old new a same room steady only below stays = record {
      file = record {
        stable = subst (λ (s : Stable W). KeepsStable {T = A} {E = E} g old.stable s (Ok a)) (sym same) (stable_still old.stable a steady.quiet);
        room = room;
        steady = record {
          quiet = subst (λ (s : Stable W). Quiet (g.pending s.world)) (sym same) steady.quiet;
          below = subst (λ (s : Stable W). AreBelow s.pages new.pool.frames) (sym same) below;
          cached = λ tells. (stays (steady.cached tells)).after.cached;
        };
        pages = λ tells cached. subst (λ (s : Stable W). LaysOnly g old.stable.world s.world (ArePagesOf (placed g old.stable) (now g old))) (sym same)
            (lays_still g old.stable (now g old) cached.file steady.quiet only);
      };
      log = ap (λ (s : Stable W). s.log) same;
      stays = λ tells cached. stays cached;
      stops = λ tells cached. subst (λ (s : Stable W). StandsOnly g old.stable s.world (λ contents. contents ≡ flushed g old.stable cached.file.batches)) (sym same)
          (stands_still old.stable cached.file steady.quiet only);
    }

    -- a page that was read, or not
    pub kept_read : (old new : Cache W) (a : A) → vec_capacity new.batch ≡ vec_capacity old.batch → AreBelow old.stable.pages new.pool.frames → IsSteady g old
        → ReadsStable {T = A} {E = E} g old.stable new.stable (Ok a) → (g.tells → (cached : IsCached g old) → StaysCached g old new cached.file.batches) → KeepsCache g {T = A} {E = E} old new (Ok a)
    kept_read old new a room below steady reads stays = record {
      file = record {
        stable = record { shape = reads.shape; quiet = reads.reads.quiet; calls = reads.reads.calls };
        room = room;
        steady = record {
          quiet = reads.reads.quiet;
          below = subst (λ (n : ℕ). AreBelow n new.pool.frames) (sym reads.shape.pages) below;
          cached = λ tells. (stays tells (steady.cached tells)).after.cached;
        };
        pages = λ tells cached. lays_read g old.stable (now g old) new.stable.world (reads.pages tells cached.file);
      };
      log = reads.log;
      stays = stays;
      stops = λ tells cached. reads.stops tells cached.file;
    }

    pub kept_unread : (old new : Cache W) (e : E) → vec_capacity new.batch ≡ vec_capacity old.batch → ReadsStable {T = A} {E = E} g old.stable new.stable (Err e) → KeepsCache g {T = A} {E = E} old new (Err e)
    kept_unread old new e room reads = record {
      file = record {
        stable = record { shape = reads.shape; quiet = tt; calls = reads.reads.calls };
        room = room;
        steady = tt;
        pages = λ tells cached. lays_read g old.stable (now g old) new.stable.world (reads.pages tells cached.file);
      };
      log = reads.log;
      stays = λ tells cached. tt;
      stops = λ tells cached. reads.stops tells cached.file;
    }

    -- pages written in place, or not, as the file tells it
    pub record Writes (old new : Stable W) (batch : List (PageNo × Page)) (result : Result A E) : Type 0 where
      pub written : g.tells → (file : IsFile g old) → OnOk result (HasWritten g (map whole_page batch) file.batches old new)
      pub stops : g.tells → (file : IsFile g old) → Agree (cover (ranges_of file.batches)) (placed g old) (puts (map whole_page batch) (placed g old))
          → StandsOnly g old new.world (λ contents. contents ≡ flushed g old file.batches)
      pub pages : g.tells → IsFile g old → LaysOnly g old.world new.world (λ contents. (contents ≡ placed g old) ⊎ (contents ≡ puts (map whole_page batch) (placed g old)))
      pub log : new.log ≡ old.log
      pub kept : KeepsStable g old new result

    pub kept_written : (old new : Cache W) (batch : List (PageNo × Page)) (a : A) → IsSteady g old → vec_capacity new.batch ≡ vec_capacity old.batch → AreBelow old.stable.pages new.pool.frames → Gathers old new batch
        → Writes old.stable new.stable batch (Ok a) → KeepsCache g {T = A} {E = E} old new (Ok a)
    kept_written old new batch a steady room below gathers done =
        let stays : g.tells → (cached : IsCached g old) → StaysCached g old new cached.file.batches = λ tells cached.
        stays_gathered g old new cached batch (done.written tells cached.file) (gathers cached) in
        record {
          file = record {
            stable = done.kept;
            room = room;
            steady = record {
              quiet = done.kept.quiet;
              below = subst (λ (n : ℕ). AreBelow n new.pool.frames) (sym done.kept.shape.pages) below;
              cached = λ tells. (stays tells (steady.cached tells)).after.cached;
            };
            pages = λ tells cached. lays_batch g old.stable (now g old) batch new.stable.world (gathers cached).pages (done.pages tells cached.file);
          };
          log = done.log;
          stays = stays;
          stops = λ tells cached. done.stops tells cached.file (gathers cached).agree;
        }

    pub kept_unwritten : (old new mid : Cache W) (batch : List (PageNo × Page)) (e : E) → vec_capacity new.batch ≡ vec_capacity old.batch → Gathers old mid batch
        → Writes old.stable new.stable batch (Err e) → KeepsCache g {T = A} {E = E} old new (Err e)
    kept_unwritten old new mid batch e room gathers done = record {
      file = record {
        stable = done.kept;
        room = room;
        steady = tt;
        pages = λ tells cached. lays_batch g old.stable (now g old) batch new.stable.world (gathers cached).pages (done.pages tells cached.file);
      };
      log = done.log;
      stays = λ tells cached. tt;
      stops = λ tells cached. done.stops tells cached.file (gathers cached).agree;
    }

  -- one call behind another
  pub kept_then : {A B E : Type 0} (old mid new : Cache W) (a : A) (result : Result B E) → KeepsCache g {T = A} {E = E} old mid (Ok a) → KeepsFile g mid new result → KeepsFile g old new result
  kept_then old mid new a result first second = record {
    stable = record {
      shape = shape_twice old.stable mid.stable new.stable first.file.stable.shape second.stable.shape;
      quiet = second.stable.quiet;
      calls = calls_on g old.stable.world mid.stable.world new.stable.world a result first.file.stable.calls second.stable.calls;
    };
    room = second.room ∙ first.file.room;
    steady = second.steady;
    pages = λ tells cached.
        let stays = first.stays tells cached in
        lays_twice g old mid new stays.pages stays.after.contents_are (first.file.pages tells cached) (second.pages tells stays.after.cached);
  }

  pub kept_twice : {A B E : Type 0} (old mid new : Cache W) (a : A) (result : Result B E) → KeepsCache g {T = A} {E = E} old mid (Ok a) → KeepsCache g mid new result → KeepsCache g old new result
  kept_twice old mid new a result first second = record {
    file = kept_then old mid new a result first second.file;
    log = second.log ∙ first.log;
    stays = λ tells cached.
        let stays = first.stays tells cached in
        on_ok_weaker result (stays_twice old mid new cached.file.batches stays) (second.stays tells stays.after.cached);
    stops = λ tells cached.
        stops_twice old mid new.stable.world cached.file.batches (first.stays tells cached) first.file.stable.shape first.file.stable.calls.printed (first.stops tells cached) (λ there. second.stops tells there);
  }

  -- a cleaning leaves no page that has to stay, and room for the next
  pub idle_cleaned : {A E : Type 0} (old new : Cache W) (a : A) → IsIdle g old → KeepsFile g {T = A} {E = E} old new (Ok a) → IsCleaned old.pool new.pool → IsIdle g new
  idle_cleaned old new a idle kept cleaned = record {
    steady = kept.steady;
    unpinned = cleaned_unpinned old.pool new.pool cleaned idle.unpinned;
    room = omega (arith, kept.room, idle.room);
  }
