-- What a stop leaves of a call of a store, out of what it leaves of the call's calls of the world.
use Rattle.std.proofs.Common.{◌≡◌, ◌≢◌, inl, inr, ⊎_elim, true, false, ℕ, ◌≤◌, List, Result, Ok, Err, refl, sym, ◌∙◌, ap, subst}
use Rattle.isp_disk.specs.Calls.{OnlyNow}
use Rattle.isp_disk.specs.Moments.{Image, Agree, During, Elapses, Keeps, Quiet, no_place}
use Rattle.isp_disk.specs.declared.world.World.{Ghosts}
use Rattle.isp_disk.proofs.MomentLaws.{agree_self, goes_on}
use Rattle.isp_format.specs.Contents.{StandsFor, ranges_of}
use Rattle.isp_format.specs.Control.{IsControl, fanout_in, pages_in}
use Rattle.isp_format.specs.Doublewrite.{area, doublewrite_gate, laid}
use Rattle.isp_format.specs.Log.{IsLog, log_of}
use Rattle.isp_format.specs.Ranges.{Contents, puts}
use Rattle.isp_format.proofs.Places.{neither}
use Rattle.isp_format.proofs.Standing.{stands_once}
use Rattle.isp_frames.specs.Cached.{with_stable}
use Rattle.isp_frames.specs.Held.{AreClean, now_over}
use Rattle.isp_frames.specs.declared.cache.Cache.{Cache}
use Rattle.isp_frames.proofs.PageLaws.{lays_still, pages_same}
use Rattle.isp_mini.specs.Extents.{extent_cover}
use Rattle.isp_mini.specs.declared.changes.Extent.{Extent}
use Rattle.isp_page.specs.Calls.{Continues, Makes, PrintsPiece}
use Rattle.isp_page.specs.Steps.{AddsNone, LeavesAlone, LeftAs, LeftPrinting, Or, Passes, done}
use Rattle.isp_page.specs.declared.fault.StoreFault.TheVariants.{Disk, Print}
use Rattle.isp_stable.specs.File.{ArePagesOf, IsFile, KeepsShape, KeepsStable, PrintsBeside, StandsOnly, placed}
use Rattle.isp_stable.specs.declared.stable.Stable.{Stable}
use Rattle.isp_stable.proofs.FileLaws.{stands, stands_now}
use Rattle.isp_stable.proofs.ImageLaws.{laid_closed}
use Rattle.isp_store.specs.Calls.{LeavesWhole}
use Rattle.isp_store.specs.Running.{IsRunning}
use Rattle.isp_store.specs.State.{StoreState, clock, contents, left_since, may_leave, shape, store, printed}

shape_is : {W : Type 0} (g : Ghosts W) (old new : StoreState W) → KeepsShape old.stable new.stable → shape g new ≡ shape g old
shape_is g old new kept i = record { pages = kept.pages i; fanout = kept.fanout i }

module _ {W : Type 0} (g : Ghosts W) where
  -- the law of a world: what a stop now may leave is left since any earlier time
  abbrev pub CountsNow : Type 0
  CountsNow = (world : W) (t : ℕ) (left : Image) → g.tells → t ≤ g.clock world → Agree (g.pending world) (g.image world) left → g.left_since world t left (g.printed world)

  -- what the file stands for may be left
  pub could : (s : StoreState W) (left : Contents) → StandsFor (g.image s.stable.world) left → may_leave g s left
  could s left is = (g.image s.stable.world, agree_self (g.pending s.stable.world) (g.image s.stable.world), is)

  -- each stop within a call leaves contents that may be left
  passes : (old new : StoreState W) (May Q : Contents → Type 0) → StandsOnly g old.stable new.stable.world May → ((left : Contents) → May left → Q left) → Passes (clock g) (left_since g) old new (LeftAs Q (shape g old) (printed g old))
  passes old new May Q leaves may = record {
    onward = leaves.later;
    moments = λ t image printed le since. ⊎_elim (λ before. inl before)
        (λ has. inr (record {
          left = record { contents = has.0.contents; stands = has.0.stands; pages = has.0.pages; fanout = has.0.fanout; may_be = may has.0.contents has.0.has };
          silent = has.1;
        }))
        (leaves.before t image printed le since);
  }

  -- what a stop may leave after the call
  may_have : CountsNow → (old new : StoreState W) (May : Contents → Type 0) → g.tells → StandsOnly g old.stable new.stable.world May → (left : Contents) → may_leave g new left → May left
  may_have counts old new May tells leaves left moment =
      let since = counts new.stable.world (g.clock old.stable.world) moment.0 tells leaves.later moment.1 in
      let has = leaves.each moment.0 (g.printed new.stable.world) since in
      subst May (stands_once moment.0 has.0.contents left has.0.stands moment.2) has.0.has

  -- what a stop leaves of the old image, and of the contents as they were
  abbrev MayLog : StoreState W → Contents → Type 0
  MayLog old = Or (StandsFor (g.image old.stable.world)) (λ left. left ≡ contents g old)

  could_log : (old : StoreState W) (left : Contents) → MayLog old left → Or (may_leave g old) (λ contents_left. contents_left ≡ contents g old) left
  could_log old left which = ⊎_elim (λ is. inl (could old left is)) (λ is. inr is) which

  -- a call that came about, and one that failed

  pub continues_ok : {A T E : Type 0} → CountsNow → (old new : StoreState W) (a : A) (t : T) → new.is_usable ≡ true → KeepsStable {T = A} {E = E} g old.stable new.stable (Ok a)
      → (g.tells → StandsOnly g old.stable new.stable.world (StandsFor (g.image old.stable.world))) → Continues {T = T} (store g) old new (Ok t)
  continues_ok counts old new a t sound kept leaves = record {
    keeps = record {
      same_shape = shape_is g old new kept.shape;
      silent = kept.calls.printed;
      printer = kept.calls.printer;
      later = kept.calls.cause.later;
      goes_on = record { steady = kept.calls.cause.steady; can = sound };
      cause = tt;
    };
    stops = λ tells left can. could old left (may_have counts old new (StandsFor (g.image old.stable.world)) tells (leaves tells) left can);
    time = λ tells. passes old new (StandsFor (g.image old.stable.world)) (may_leave g old) (leaves tells) (could old);
  }

  pub continues_err : {A T E : Type 0} → CountsNow → (old new : StoreState W) (e : E) → KeepsStable {T = A} {E = E} g old.stable new.stable (Err e)
      → (g.tells → StandsOnly g old.stable new.stable.world (StandsFor (g.image old.stable.world))) → Continues {T = T} (store g) old new (Err Disk)
  continues_err counts old new e kept leaves = record {
    keeps = record {
      same_shape = shape_is g old new kept.shape;
      silent = kept.calls.printed;
      printer = kept.calls.printer;
      later = kept.calls.cause.later;
      goes_on = tt;
      cause = kept.calls.cause.failed;
    };
    stops = λ tells left can. could old left (may_have counts old new (StandsFor (g.image old.stable.world)) tells (leaves tells) left can);
    time = λ tells. passes old new (StandsFor (g.image old.stable.world)) (may_leave g old) (leaves tells) (could old);
  }

  pub makes_ok : {A T E : Type 0} → CountsNow → (old new : StoreState W) (a : A) (t : T) → new.is_usable ≡ true → KeepsStable {T = A} {E = E} g old.stable new.stable (Ok a)
      → (g.tells → StandsOnly g old.stable new.stable.world (MayLog old)) → Makes {T = T} (store g) (contents g old) old new (Ok t)
  makes_ok counts old new a t sound kept leaves = record {
    keeps = record {
      same_shape = shape_is g old new kept.shape;
      silent = kept.calls.printed;
      printer = kept.calls.printer;
      later = kept.calls.cause.later;
      goes_on = record { steady = kept.calls.cause.steady; can = sound };
      cause = tt;
    };
    stops = λ tells left can. could_log old left (may_have counts old new (MayLog old) tells (leaves tells) left can);
    time = λ tells. passes old new (MayLog old) _ (leaves tells) (could_log old);
  }

  pub makes_err : {A T E : Type 0} → CountsNow → (old new : StoreState W) (e : E) → KeepsStable {T = A} {E = E} g old.stable new.stable (Err e)
      → (g.tells → StandsOnly g old.stable new.stable.world (MayLog old)) → Makes {T = T} (store g) (contents g old) old new (Err Disk)
  makes_err counts old new e kept leaves = record {
    keeps = record {
      same_shape = shape_is g old new kept.shape;
      silent = kept.calls.printed;
      printer = kept.calls.printer;
      later = kept.calls.cause.later;
      goes_on = tt;
      cause = kept.calls.cause.failed;
    };
    stops = λ tells left can. could_log old left (may_have counts old new (MayLog old) tells (leaves tells) left can);
    time = λ tells. passes old new (MayLog old) _ (leaves tells) (could_log old);
  }

  -- a quiet file leaves what it stands for alone
  pub flushed_alone : (s : StoreState W) → Quiet (g.pending s.stable.world) → StandsFor (g.image s.stable.world) (contents g s) → LeavesAlone (contents g s) (may_leave g s)
  flushed_alone s quiet stood left moment =
      let same : g.image s.stable.world ≡ moment.0 = λ i place. moment.1 place (quiet place) i in
      stands_once moment.0 left (contents g s) moment.2 (subst (λ (image : Image). StandsFor image (contents g s)) same stood)

  -- the file behind a call that left its image
  abbrev file_printed : (s : Stable W) (world : W) → g.image world ≡ g.image s.world → IsFile g s → IsFile g (record s { world = world })
  file_printed s world same file = record {
    control = subst IsControl (sym same) file.control;
    pages = ap pages_in same ∙ file.pages;
    fanout = ap fanout_in same ∙ file.fanout;
    closed = subst (λ (image : Image). image doublewrite_gate ≢ 1) (sym same) file.closed;
    batches = file.batches;
    log = subst (λ (image : Image). IsLog s.pages (log_of image) 0 file.batches s.log.end) (sym same) file.log;
  }

  -- the cache with another world
  abbrev pub with_world : Cache W → W → Cache W
  with_world s world = record s { stable = record s.stable { world = world } }

  pub running_printed : (s : Cache W) (world : W) (extents : List Extent) → Keeps (g.image s.stable.world) (g.pending s.stable.world) (g.image world) (g.pending world) → IsRunning g s extents → IsRunning g (with_world s world) extents
  running_printed s world extents keeps running = record {
    quiet = λ place. keeps.no_more place (running.quiet place);
    frames = running.frames;
    room = running.room;
    batch = running.batch;
    along = λ tells.
        let along = running.along tells in
        let same : area (g.image world) ≡ area (g.image s.stable.world) = ap area keeps.same in
        record {
          file = file_printed s.stable world keeps.same along.file;
          clean = subst (AreClean s.pool.frames) (sym same) along.clean;
          differs = subst (λ (contents : Contents). Agree (extent_cover extents) (puts (ranges_of along.file.batches) contents) (now_over s.pool.frames contents)) (sym same) along.differs;
        };
  }

  -- a print leaves the pages as they stand
  pub whole_printed : (old new : StoreState W) (line : List ℕ) → (g.tells → IsFile g old.stable) → (g.tells → IsFile g new.stable) → Quiet (g.pending old.stable.world) → OnlyNow g old.stable.world
      → Elapses (g.clock old.stable.world) (g.clock new.stable.world) (g.left_since old.stable.world) (g.left_since new.stable.world) (During (g.image old.stable.world) (g.pending old.stable.world) no_place (g.printed old.stable.world) line) → LeavesWhole g old new done
  whole_printed old new line file after quiet only time = record {
    pages = λ tells.
        goes_on g.clock g.left_since old.stable.world old.stable.world new.stable.world (λ left printed. ArePagesOf (placed g old.stable) (contents g old) (laid left)) _ (lays_still g old.stable (contents g old) (file tells) quiet only) time
        (λ left printed during.
        let same : g.image old.stable.world ≡ left = λ i place. during.agree place (neither (g.pending old.stable.world place) false (quiet place) refl) i in
        pages_same (placed g old.stable) (contents g old) (laid left) (ap laid (sym same) ∙ laid_closed (g.image old.stable.world) (file tells).closed));
    file = after;
  }

  -- a print, done or failed

  print_stops : (old new : StoreState W) → Keeps (g.image old.stable.world) (g.pending old.stable.world) (g.image new.stable.world) (g.pending new.stable.world) → AddsNone (may_leave g old) (may_leave g new)
  print_stops old new keeps left moment = (moment.0, (λ place out. (λ i. sym keeps.same i place) ∙ moment.1 place (keeps.no_more place out)), moment.2)

  print_time : (old new : StoreState W) (line : List ℕ) → IsFile g old.stable → Quiet (g.pending old.stable.world)
      → Elapses (g.clock old.stable.world) (g.clock new.stable.world) (g.left_since old.stable.world) (g.left_since new.stable.world) (During (g.image old.stable.world) (g.pending old.stable.world) no_place (g.printed old.stable.world) line)
      → Passes (clock g) (left_since g) old new (LeftPrinting (may_leave g old) (shape g old) (printed g old) line)
  print_time old new line file quiet time = record {
    onward = time.later;
    moments = λ t image printed le since. ⊎_elim (λ before. inl before)
        (λ during.
        let left = stands_now g old.stable file image (λ place. during.agree place (neither (g.pending old.stable.world place) false (quiet place) refl)) in
        inr (record {
          left = record {
            contents = left.contents;
            stands = left.stands;
            pages = left.pages;
            fanout = left.fanout;
            may_be = could old left.contents (subst (StandsFor (g.image old.stable.world)) (sym left.has) (stands g old.stable file));
          };
          part = during.part;
        }))
        (time.nothing_else t image printed le since);
  }

  shape_beside : (old new : Stable W) → new ≡ record old { world = new.world } → KeepsShape old new
  shape_beside old new same = record { pages = ap (λ (s : Stable W). s.pages) same; fanout = ap (λ (s : Stable W). s.fanout) same }

  -- the cache behind a print
  pub printed_is : {T E : Type 0} (s new : Cache W) (line : List ℕ) (result : Result T E) → new ≡ with_stable s new.stable → PrintsBeside g line s.stable new.stable result → new ≡ with_world s new.stable.world
  printed_is s new line result others printed = others ∙ ap (λ (t : Stable W). with_stable s t) printed.same

  pub prints_ok : {T E : Type 0} (old new : StoreState W) (line : List ℕ) (t : T) → (g.tells → IsFile g old.stable) → Quiet (g.pending old.stable.world) → new.is_usable ≡ true → PrintsBeside {T = T} {E = E} g line old.stable new.stable (Ok t) → PrintsPiece {T = T} (store g) line old new (Ok t)
  prints_ok old new line t file quiet sound done = record {
    same_shape = shape_is g old new (shape_beside old.stable new.stable done.same);
    prints = λ tells. let line = done.prints tells in record { whole = line.whole; part = tt };
    disk = done.disk;
    cause = record { later = done.cause.later; steady = done.cause.steady; failed = tt };
    by_print = tt;
    can = sound;
    stops = λ tells. print_stops old new done.keeps;
    time = λ tells. print_time old new line (file tells) quiet done.time;
  }

  pub prints_err : {T E : Type 0} (old new : StoreState W) (line : List ℕ) (e : E) → (g.tells → IsFile g old.stable) → Quiet (g.pending old.stable.world) → new.is_usable ≡ true → PrintsBeside {T = T} {E = E} g line old.stable new.stable (Err e) → PrintsPiece {T = T} (store g) line old new (Err Print)
  prints_err old new line e file quiet sound done = record {
    same_shape = shape_is g old new (shape_beside old.stable new.stable done.same);
    prints = λ tells. let line = done.prints tells in record { whole = tt; part = line.part };
    disk = done.disk;
    cause = record { later = done.cause.later; steady = tt; failed = done.cause.failed };
    by_print = refl;
    can = sound;
    stops = λ tells. print_stops old new done.keeps;
    time = λ tells. print_time old new line (file tells) quiet done.time;
  }
