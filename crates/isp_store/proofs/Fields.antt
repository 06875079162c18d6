-- The fields of a store before and after a call, as its callers see them.
use Rattle.std.proofs.Common.{◌≡◌, Bool, true, false, List, [], Result, Ok, Err, refl, sym, ◌∙◌, subst, ◌≤◌, ◌<◌, ◌++◌, ◌∷◌, ℕ, arith, length, map, if◌then◌else◌}
use Rattle.std.proofs.lemmas.List.{length-append, length-map}
use Rattle.isp_disk.specs.Calls.{OnlyNow}
use Rattle.isp_disk.specs.declared.world.World.{Ghosts}
use Rattle.isp_frames.specs.Cached.{with_stable}
use Rattle.isp_frames.specs.declared.cache.Cache.{Cache}
use Rattle.isp_mini.specs.Extents.{page_number}
use Rattle.isp_mini.specs.declared.changes.Extent.{Extent}
use Rattle.isp_page.specs.Calls.{Continues, Flushes, Makes, PrintsPiece}
use Rattle.isp_page.specs.State.{is_among, with_page}
use Rattle.isp_page.specs.Steps.{done}
use Rattle.isp_page.specs.declared.fault.StoreFault.TheVariants.{Disk, Print}
use Rattle.isp_stable.specs.File.{ArePagesOf, IsFile, LaysOnly, PrintsBeside, placed}
use Rattle.isp_store.specs.Calls.{ContinuesWhole, FlushesWhole, LeavesWhole, MakesWhole, StandsNow}
use Rattle.isp_store.specs.Inside.{IsStore, seen}
use Rattle.isp_store.specs.Running.{IsRunning, StaysLogging, StaysRunning}
use Rattle.isp_store.specs.State.{StoreState, contents, store}
use Rattle.isp_store.specs.declared.store.Store.TheInside.{Inside}
use Rattle.isp_store.proofs.Passing.{CountsNow, continues_err, continues_ok, flushed_alone, makes_err, makes_ok, printed_is, prints_err, prints_ok, running_printed, whole_printed}
use Rattle.isp_store.proofs.Cleaned.{stands_running}

-- a page that has room among those changed
pub room_with : (page : ℕ) (extents : List Extent) → (is_among page (map page_number extents) ≡ false → length (map page_number extents) < 48) → length extents ≤ 48 → length (with_page page (map page_number extents)) ≤ 48
room_with page extents room few = of (is_among page (map page_number extents)) refl
  where
    pages : List ℕ
    pages = map page_number extents

    of : (b : Bool) → is_among page pages ≡ b → length (if b then pages else pages ++ page ∷ []) ≤ 48
    of true is = omega (arith, few, length-map extents page_number)
    of false is = omega (arith, room is, length-append pages (page ∷ []))

module _ {W : Type 0} (g : Ghosts W) (s : Inside W) (old : StoreState W) (is : seen s ≡ old) (can : old.is_usable ≡ true) where
  pub can_here : s.is_usable ≡ true
  can_here = subst (λ (state : StoreState W). state.is_usable ≡ true) (sym is) can

  pub running_here : IsStore g s → IsRunning g s.cache s.changes
  running_here kept = kept.sound can_here

  pub none_here : IsStore g s → old.is_begun ≡ false → s.changes ≡ []
  none_here kept begun = kept.closed can_here (subst (λ (state : StoreState W). state.is_begun ≡ false) (sym is) begun)

  -- with no mini-transaction begun
  pub running_closed : IsStore g s → old.is_begun ≡ false → IsRunning g s.cache []
  running_closed kept begun = subst (IsRunning g s.cache) (none_here kept begun) (running_here kept)

  module _ (new : Inside W) where
    pub goes_on : {A T E : Type 0} (extents : List Extent) (a : A) (t : T) → CountsNow g → new.is_usable ≡ s.is_usable → StaysRunning g {T = A} {E = E} s.cache new.cache extents (Ok a) → Continues {T = T} (store g) old (seen new) (Ok t)
    goes_on extents a t counts same stays = subst (λ (state : StoreState W). Continues (store g) state (seen new) (Ok t)) is
        (continues_ok g counts (seen s) (seen new) a t (same ∙ can_here) stays.stable stays.stops)

    pub fails : {A E : Type 0} (T : Type 0) (extents : List Extent) (e : E) → CountsNow g → StaysRunning g {T = A} {E = E} s.cache new.cache extents (Err e) → Continues {T = T} (store g) old (seen new) (Err Disk)
    fails T extents e counts stays = subst (λ (state : StoreState W). Continues {T = T} (store g) state (seen new) (Err Disk)) is
        (continues_err g counts (seen s) (seen new) e stays.stable stays.stops)

    pub makes : {A T E : Type 0} (a : A) (t : T) → CountsNow g → new.is_usable ≡ s.is_usable → StaysLogging g {T = A} {E = E} s.cache new.cache [] (Ok a) → Makes {T = T} (store g) (contents g old) old (seen new) (Ok t)
    makes a t counts same stays = subst (λ (state : StoreState W). Makes (store g) (contents g state) state (seen new) (Ok t)) is
        (makes_ok g counts (seen s) (seen new) a t (same ∙ can_here) stays.stable stays.stops)

    pub makes_failed : {A E : Type 0} (T : Type 0) (e : E) → CountsNow g → StaysLogging g {T = A} {E = E} s.cache new.cache [] (Err e) → Makes {T = T} (store g) (contents g old) old (seen new) (Err Disk)
    makes_failed T e counts stays = subst (λ (state : StoreState W). Makes {T = T} (store g) (contents g state) state (seen new) (Err Disk)) is
        (makes_err g counts (seen s) (seen new) e stays.stable stays.stops)

    pub flushes : {A T E : Type 0} (a : A) (t : T) → CountsNow g → new.is_usable ≡ s.is_usable → StaysRunning g {T = A} {E = E} s.cache new.cache [] (Ok a) → Flushes {T = T} (store g) old (seen new) (Ok t)
    flushes a t counts same stays = record {
      steps = goes_on [] a t counts same stays;
      alone = λ tells. flushed_alone g (seen new) stays.running.quiet (stands_running g new.cache stays.running tells);
    }

    abbrev LaysWhole : StoreState W → Type 0
    LaysWhole state = g.tells → LaysOnly g state.stable.world new.cache.stable.world (ArePagesOf (placed g state.stable) (contents g state))

    pub whole : {A T E F : Type 0} (extents : List Extent) (a : A) (t : T) → StaysRunning g {T = A} {E = E} s.cache new.cache extents (Ok a) → LeavesWhole g {T = T} {E = F} old (seen new) (Ok t)
    whole extents a t stays = record { pages = subst LaysWhole is stays.pages; file = λ tells. (stays.running.along tells).file }

    pub whole_failed : {A T E F : Type 0} (extents : List Extent) (e : E) (f : F) → StaysRunning g {T = A} {E = E} s.cache new.cache extents (Err e) → LeavesWhole g {T = T} {E = F} old (seen new) (Err f)
    whole_failed extents e f stays = record { pages = subst LaysWhole is stays.pages; file = λ tells. tt }

    -- and no page is torn in it

    pub continues_whole : {A T E : Type 0} (extents : List Extent) (a : A) (t : T) → CountsNow g → new.is_usable ≡ s.is_usable → StaysRunning g {T = A} {E = E} s.cache new.cache extents (Ok a) → ContinuesWhole g {T = T} old (seen new) (Ok t)
    continues_whole extents a t counts same stays = record { along = goes_on extents a t counts same stays; whole = whole extents a t stays }

    pub fails_whole : {A E : Type 0} (T : Type 0) (extents : List Extent) (e : E) → CountsNow g → StaysRunning g {T = A} {E = E} s.cache new.cache extents (Err e) → ContinuesWhole g {T = T} old (seen new) (Err Disk)
    fails_whole T extents e counts stays = record { along = fails T extents e counts stays; whole = whole_failed {T = T} extents e Disk stays }

    pub makes_whole : {A T E : Type 0} (a : A) (t : T) → CountsNow g → new.is_usable ≡ s.is_usable → StaysLogging g {T = A} {E = E} s.cache new.cache [] (Ok a) → MakesWhole g {T = T} old (seen new) (Ok t)
    makes_whole a t counts same stays = record {
      along = makes a t counts same stays;
      whole = record { pages = subst LaysWhole is stays.pages; file = λ tells. (stays.running.along tells).file };
    }

    pub makes_failed_whole : {A E : Type 0} (T : Type 0) (e : E) → CountsNow g → StaysLogging g {T = A} {E = E} s.cache new.cache [] (Err e) → MakesWhole g {T = T} old (seen new) (Err Disk)
    makes_failed_whole T e counts stays = record {
      along = makes_failed T e counts stays;
      whole = record { pages = subst LaysWhole is stays.pages; file = λ tells. tt };
    }

    pub flushes_whole : {A T E : Type 0} (a : A) (t : T) → CountsNow g → new.is_usable ≡ s.is_usable → StaysRunning g {T = A} {E = E} s.cache new.cache [] (Ok a) → FlushesWhole g {T = T} old (seen new) (Ok t)
    flushes_whole a t counts same stays = record { along = flushes a t counts same stays; whole = whole [] a t stays }

    pub flush_failed_whole : {A E : Type 0} (T : Type 0) (e : E) → CountsNow g → StaysRunning g {T = A} {E = E} s.cache new.cache [] (Err e) → FlushesWhole g {T = T} old (seen new) (Err Disk)
    flush_failed_whole T e counts stays = record {
      along = record { steps = fails T [] e counts stays; alone = λ tells. tt };
      whole = whole_failed {T = T} [] e Disk stays;
    }

  -- a line was printed, or a part of it

  module _ (cache : Cache W) (others : cache ≡ with_stable s.cache cache.stable) (kept : IsStore g s) (line : List ℕ) where
    abbrev pub printed_store : Inside W
    printed_store = record s { cache = cache }

    abbrev file_here : g.tells → IsFile g s.cache.stable
    file_here tells = ((running_here kept).along tells).file

    pub prints_line : {T E : Type 0} (t : T) → PrintsBeside {T = T} {E = E} g line s.cache.stable cache.stable (Ok t) → PrintsPiece {T = T} (store g) line old (seen printed_store) (Ok t)
    prints_line t printed = subst (λ (state : StoreState W). PrintsPiece (store g) line state (seen printed_store) (Ok t)) is
        (prints_ok g (seen s) (seen printed_store) line t file_here (running_here kept).quiet can_here printed)

    pub prints_part : {E : Type 0} (T : Type 0) (e : E) → PrintsBeside {T = T} {E = E} g line s.cache.stable cache.stable (Err e) → PrintsPiece {T = T} (store g) line old (seen printed_store) (Err Print)
    prints_part T e printed = subst (λ (state : StoreState W). PrintsPiece {T = T} (store g) line state (seen printed_store) (Err Print)) is
        (prints_err g (seen s) (seen printed_store) line e file_here (running_here kept).quiet can_here printed)

    pub whole_line : {T E : Type 0} (result : Result T E) → OnlyNow g s.cache.stable.world → PrintsBeside g line s.cache.stable cache.stable result → LeavesWhole g old (seen printed_store) done
    whole_line result only printed = subst (λ (state : StoreState W). LeavesWhole g state (seen printed_store) done) is
        (whole_printed g (seen s) (seen printed_store) line file_here (λ tells. (running.along tells).file) (running_here kept).quiet only printed.time)
      where
        running : IsRunning g cache s.changes
        running = subst (λ (c : Cache W). IsRunning g c s.changes) (sym (printed_is g s.cache cache line result others printed)) (running_printed g s.cache cache.stable.world s.changes printed.keeps (running_here kept))

module _ {W : Type 0} (g : Ghosts W) where
  pub store_printed : {T E : Type 0} (s : Inside W) (cache : Cache W) (line : List ℕ) (result : Result T E) → cache ≡ with_stable s.cache cache.stable → PrintsBeside g line s.cache.stable cache.stable result → IsStore g s → IsStore g (record s { cache = cache })
  store_printed s cache line result others printed kept =
      subst (λ (c : Cache W). IsStore g (record s { cache = c })) (sym (printed_is g s.cache cache line result others printed))
      (record { shape = kept.shape; sound = λ is. running_printed g s.cache cache.stable.world s.changes printed.keeps (kept.sound is); closed = kept.closed })

-- the image of a store with no change open stands for its contents
pub stands_closed : {W : Type 0} (g : Ghosts W) (s : Inside W) → IsRunning g s.cache [] → g.tells → StandsNow g (seen s)
stands_closed g s running tells =
    let file = (running.along tells).file in
    record { stands = stands_running g s.cache running tells; pages = file.pages; fanout = file.fanout }
