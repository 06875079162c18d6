-- A store whose open mini-transaction went to the log.
use Rattle.std.proofs.Common.{◌≡◌, inl, inr, ⊎_elim, ℕ, ◌+◌, ◌≤◌, List, [], ◌∷◌, ◌++◌, Err, Ok, Result, length, refl, sym, ◌∙◌, ap, subst, arith}
use Rattle.std.specs.Prelude.{IsErr, OnOk}
use Rattle.isp_disk.specs.declared.world.World.{Ghosts}
use Rattle.isp_format.specs.Contents.{StandsFor, ranges_of}
use Rattle.isp_format.specs.Log.{IsBody, Transaction, transaction_bytes}
use Rattle.isp_format.specs.Ranges.{Contents, Range, puts}
use Rattle.isp_format.proofs.Puts.{puts_append}
use Rattle.isp_format.proofs.Standing.{stands_once}
use Rattle.isp_frames.specs.Cached.{now, with_pool, with_stable}
use Rattle.isp_frames.specs.Held.{AreClean, now_over}
use Rattle.isp_frames.specs.declared.cache.Cache.{Cache}
use Rattle.isp_frames.proofs.PageLaws.{lays_read}
use Rattle.isp_mini.specs.Extents.{AreExtents, largest_body, ranges_in}
use Rattle.isp_mini.specs.declared.changes.Extent.{Extent}
use Rattle.isp_mini.proofs.BodyLaws.{body_fits}
use Rattle.isp_mini.proofs.RangeLaws.{body_is, logged}
use Rattle.isp_page.specs.Steps.{Or}
use Rattle.isp_pool.specs.Frames.{PoolState}
use Rattle.isp_stable.specs.File.{HasBatches, HasRoomFor, IsFile, KeepsStable, MakesLog, flushed, placed}
use Rattle.isp_stable.specs.declared.stable.Stable.{Stable}
use Rattle.isp_stable.proofs.FileLaws.{stands, stands_weaker}
use Rattle.isp_stable.proofs.ImageLaws.{ranges_more}
use Rattle.isp_store.specs.Running.{AreFrames, IsAlong, IsRunning, IsUnpinned, LeavesFrames, StaysLogging}

-- the body of a mini-transaction fits where the largest does
pub fits : {W : Type 0} (s : Stable W) (body : List ℕ) (contents : Contents) (extents : List Extent) → AreExtents extents → body ≡ transaction_bytes (ranges_in contents extents) → HasRoomFor s largest_body → HasRoomFor s (length body)
fits s body contents extents are is room =
    let small : length body ≤ largest_body = subst (λ (bs : List ℕ). length bs ≤ largest_body) (sym is) (body_fits contents extents are) in
    omega (arith, room, small)

-- the bytes of the body are a body with one mini-transaction
pub spelled : (pages : ℕ) (body : List ℕ) (contents : Contents) (pool : PoolState) (extents : List Extent) → AreFrames pages pool extents → body ≡ transaction_bytes (ranges_in contents extents) → IsBody pages (ranges_in contents extents ∷ []) body
spelled pages body contents pool extents are is = subst (λ (bs : List ℕ). IsBody pages (ranges_in contents extents ∷ []) bs) (sym is) (body_is pages contents extents are.extents are.inside)

module _ {W : Type 0} (g : Ghosts W) where
  -- over what the file stood for the ranges give the contents now
  gives_now : (s : Cache W) (extents : List Extent) → IsAlong g s extents → (file : IsFile g s.stable) → puts (ranges_in (now g s) extents) (flushed g s.stable file.batches) ≡ now g s
  gives_now s extents along file =
      ap (puts (ranges_in (now g s) extents)) (stands_once (g.image s.stable.world) (flushed g s.stable file.batches) (flushed g s.stable along.file.batches) (stands g s.stable file) (stands g s.stable along.file))
      ∙ logged extents (flushed g s.stable along.file.batches) (now g s) along.differs

  -- the cache with another file and other frames
  abbrev pub with_both : Cache W → Stable W → PoolState → Cache W
  with_both s stable pool = record s { stable = stable; pool = pool }

  -- what the append makes of the log
  abbrev pub Appends : {T E : Type 0} → Cache W → List Extent → Stable W → Result T E → Type 0
  Appends s extents new result = g.tells → (file : IsFile g s.stable)
      → MakesLog g (file.batches ++ (ranges_in (now g s) extents ∷ []) ∷ []) (Or (λ contents. contents ≡ flushed g s.stable file.batches) (λ contents. contents ≡ puts (ranges_in (now g s) extents) (flushed g s.stable file.batches))) s.stable new result

  -- a stop within the append leaves what the file stood for, or the contents now
  pub stays_logging : {T E : Type 0} (s : Cache W) (new : Stable W) (pool : PoolState) (before : List Extent) (result : Result T E) → IsRunning g s before → KeepsStable g s.stable new result → Appends s before new result
      → OnOk result (IsRunning g (with_both s new pool) []) → StaysLogging g s (with_both s new pool) [] result
  stays_logging s new pool before result running kept appends after = record {
    stable = kept;
    running = after;
    pages = λ tells. lays_read g s.stable (now g s) new.world (appends tells (running.along tells).file).pages;
    stops = λ tells.
        let along = running.along tells in
        stands_weaker g s.stable new.world _ _ (λ contents which. ⊎_elim
        (λ is. inl (subst (StandsFor (g.image s.stable.world)) (sym is) (stands g s.stable along.file)))
        (λ is. inr (is ∙ gives_now s before along along.file)) which)
        (appends tells along.file).stops;
  }

  pub logging_failed : {A B E : Type 0} (s : Cache W) (new : Stable W) (pool : PoolState) (before : List Extent) (e : E) (result : Result B E) → IsErr result → IsRunning g s before → KeepsStable {T = A} {E = E} g s.stable new (Err e) → Appends {T = A} {E = E} s before new (Err e)
      → StaysLogging g s (with_both s new pool) [] result
  logging_failed s new pool before e (Ok b) err running kept appends = absurd (cc)
  logging_failed s new pool before e (Err other) err running kept appends =
      stays_logging s new pool before (Err other) running
      (record {
        shape = kept.shape;
        quiet = tt;
        calls = record {
          printed = kept.calls.printed;
          printer = kept.calls.printer;
          cause = record { later = kept.calls.cause.later; steady = tt; failed = kept.calls.cause.failed };
        };
      })
      (λ tells file. let makes = appends tells file in record { batches_are = tt; stops = makes.stops; pages = makes.pages })
      tt

  -- the store behind it
  pub running_logged : {T E : Type 0} (s : Cache W) (new : Stable W) (pool : PoolState) (before : List Extent) (t : T) → IsRunning g s before → KeepsStable {T = T} {E = E} g s.stable new (Ok t) → Appends {T = T} {E = E} s before new (Ok t)
      → (g.tells → placed g new ≡ placed g s.stable) → IsUnpinned new.pages s.pool pool [] → IsRunning g (with_both s new pool) []
  running_logged s new pool before t running kept appends same un = record {
    quiet = kept.quiet;
    frames = un.frames;
    room = λ some. absurd (some refl);
    batch = running.batch;
    along = λ tells. along_logged tells (running.along tells);
  }
    where
      along_logged : g.tells → IsAlong g s before → IsAlong g (with_both s new pool) []
      along_logged tells along =
          let ranges : Transaction = ranges_in (now g s) before in
          let has = (appends tells along.file).batches_are in
          let now_is : now_over pool.frames (placed g new) ≡ now g s = un.now_is (placed g new) ∙ ap (now_over s.pool.frames) (same tells) in
          let flushed_is : flushed g new has.0.batches ≡ now g s =
          ap (λ (batches : List (List Transaction)). flushed g new batches) has.1
          ∙ ap (λ (all : List Range). puts all (placed g new)) (ranges_more along.file.batches ranges)
          ∙ puts_append (ranges_of along.file.batches) ranges (placed g new)
          ∙ ap (λ (contents : Contents). puts ranges (puts (ranges_of along.file.batches) contents)) (same tells)
          ∙ gives_now s before along along.file in
          record {
            file = has.0;
            clean = un.clean (placed g new) (subst (AreClean s.pool.frames) (sym (same tells)) along.clean);
            differs = λ place out. (λ i. flushed_is i place) ∙ (λ i. sym now_is i place);
          }

  -- the file with a batch more, under frames that were unpinned
  module _ (s mid new : Cache W) (before : List Extent) (running : IsRunning g s before) (appended : mid ≡ with_stable s mid.stable) where
    pool_same : mid.pool ≡ s.pool
    pool_same = ap (λ (t : Cache W). t.pool) appended

    pub frames_appended : mid.stable.pages ≡ s.stable.pages → AreFrames mid.stable.pages mid.pool before
    frames_appended pages =
        subst (λ (pool : PoolState). AreFrames mid.stable.pages pool before) (sym pool_same) (subst (λ (n : ℕ). AreFrames n s.pool before) (sym pages) running.frames)

    -- it was not appended
    pub stays_unlogged : {A B E : Type 0} (e : E) (result : Result B E) → IsErr result → KeepsStable {T = A} {E = E} g s.stable mid.stable (Err e) → Appends {T = A} {E = E} s before mid.stable (Err e) → StaysLogging g s mid [] result
    stays_unlogged e result err kept appends = subst (λ (t : Cache W). StaysLogging g s t [] result) (sym appended) (logging_failed s mid.stable s.pool before e result err running kept appends)

    pub unlogged_contents : placed g mid.stable ≡ placed g s.stable → now g mid ≡ now g s
    unlogged_contents same = ap (λ (t : Cache W). now g t) appended ∙ ap (now_over s.pool.frames) same

    pub unlogged_frames : LeavesFrames s.pool mid.pool
    unlogged_frames = subst (λ (pool : PoolState). LeavesFrames s.pool pool) (sym pool_same) (record { held = λ i. refl; count = refl; dirty = refl })

    -- it was
    module _ (unpinned : IsUnpinned mid.stable.pages mid.pool new.pool []) (others : new ≡ with_pool mid new.pool) where
      cache_is : new ≡ with_both s mid.stable new.pool
      cache_is = others ∙ ap (λ (t : Cache W). with_pool t new.pool) appended

      from_there : IsUnpinned mid.stable.pages s.pool new.pool []
      from_there = subst (λ (pool : PoolState). IsUnpinned mid.stable.pages pool new.pool []) pool_same unpinned

      module _ {T E : Type 0} where
        pub stays_logged : (t : T) → KeepsStable {T = T} {E = E} g s.stable mid.stable (Ok t) → Appends {T = T} {E = E} s before mid.stable (Ok t) → (g.tells → placed g mid.stable ≡ placed g s.stable) → StaysLogging g {T = T} {E = E} s new [] (Ok t)
        stays_logged t kept appends same = subst (λ (c : Cache W). StaysLogging g {T = T} {E = E} s c [] (Ok t)) (sym cache_is)
            (stays_logging s mid.stable new.pool before (Ok t) running kept appends (running_logged s mid.stable new.pool before t running kept appends same from_there))

      pub logged_contents : placed g mid.stable ≡ placed g s.stable → now g new ≡ now g s
      logged_contents same = ap (λ (t : Cache W). now g t) cache_is ∙ from_there.now_is (placed g mid.stable) ∙ ap (now_over s.pool.frames) same

      pub logged_batches : (batches : List (List Transaction)) → HasBatches g mid.stable batches → HasBatches g new.stable batches
      logged_batches batches has = subst (λ (t : Cache W). HasBatches g t.stable batches) (sym others) has

      pub logged_frames : LeavesFrames s.pool new.pool
      logged_frames = record { held = from_there.held; count = from_there.count; dirty = from_there.dirty }
