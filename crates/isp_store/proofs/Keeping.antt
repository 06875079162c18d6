-- What holds of a running store goes on over what a call does to its frames.
use Rattle.std.proofs.Common.{◌≡◌, ⊎_elim, ℕ, ◌+◌, ◌*◌, ◌-◌, ◌<◌, ◌≤◌, ◌==◌, ◌||◌, Bool, true, false, List, [], ◌∷◌, All, Option, Some, None, get_or, length, length-set, map, set, refl, sym, ◌∙◌, ap, subst, arith}
use Rattle.std.specs.Prelude.{Err, Ok, Result, IsErr, OnOk, count_by}
use Rattle.std.specs.List.{list_any}
use Rattle.std.proofs.lemmas.Bool.{cases_eq, false≢true}
use Rattle.std.proofs.lemmas.List.{get_or-map, length-map}
use Rattle.std.proofs.lemmas.List.Elements.{All-head, All-tail}
use Rattle.std.proofs.lemmas.Bool.Decides.{nat_tests}
use Rattle.isp_disk.specs.Moments.{in_range}
use Rattle.isp_disk.specs.declared.world.World.{Ghosts}
use Rattle.isp_format.specs.Contents.{StandsFor, ranges_of}
use Rattle.isp_format.specs.Log.{log_bytes}
use Rattle.isp_format.specs.Ranges.{cover, page_bytes}
use Rattle.isp_format.proofs.Places.{before_end, from_start, inside, neither, not_first, not_second}
use Rattle.isp_format.proofs.Puts.{puts_outside}
use Rattle.isp_frames.specs.Cached.{IsCached, IsSteady, KeepsCache, StaysCached, with_pool}
use Rattle.isp_frames.specs.Held.{AreApart, AreBelow, IsHeldAt, page_places, pinned_places, Holds}
use Rattle.isp_frames.specs.declared.cache.Cache.{Cache}
use Rattle.isp_frames.proofs.NowLaws.{edited_is, flagged_now, frame_below, pinned_clean, one_frame, pool_apart, set_apart, set_away, set_cases, set_here, some_is}
use Rattle.isp_frames.proofs.PinLaws.{pinned_after, pinned_there}
use Rattle.isp_frames.proofs.StayLaws.{kept_failed}
use Rattle.isp_mini.specs.Extents.{AreExtents, IsExtent, extent_cover, extent_place, largest_body, page_number, with_extent}
use Rattle.isp_mini.specs.declared.changes.Extent.{Extent}
use Rattle.isp_mini.proofs.ExtentLaws.{all_with, as_many_with, below_with, extents_with, one_longer_with}
use Rattle.isp_base.specs.declared.page_no.PageNo.{PageNo}
use Rattle.isp_pool.specs.Frames.{IsPool, PoolState, edited, frame_at, frame_in, fresh_frame, is_dirty, is_pinned, loaded, one_if, page_of as page_in, with_frame}
use Rattle.isp_pool.specs.declared.frames.Frame.{Frame}
use Rattle.isp_pool.proofs.StateLaws.{dirty_after, loaded_count}
use Rattle.isp_redo.specs.declared.log.Log.{Log}
use Rattle.isp_stable.specs.File.{flushed, placed}
use Rattle.isp_stable.proofs.FileLaws.{stands, stands_weaker}
use Rattle.isp_store.specs.Running.{AreFrames, IsAlong, IsPinnedIn, IsRunning, IsUnpinned, StaysRunning}

-- The bytes of an extent lie in its page, which is pinned.

extent_in_page : (extent : Extent) (place : ℕ) → IsExtent extent → in_range (extent_place extent) (extent.end - extent.at) place ≡ true → page_places extent.page.0 place ≡ true
extent_in_page extent place is has =
    let low = from_start (extent_place extent) (extent.end - extent.at) place has in
    let high = before_end (extent_place extent) (extent.end - extent.at) place has in
    inside (extent.page.0 * page_bytes) page_bytes place (omega (arith, low)) (omega (arith, high, is.some, is.inside))

pub covered_pinned : (pool : PoolState) (extents : List Extent) (place : ℕ) → All IsExtent extents → All (IsPinnedIn pool) extents → pinned_places pool.frames place ≡ false → extent_cover extents place ≡ false
covered_pinned pool [] place each pinned out = refl
covered_pinned pool (extent ∷ extents) place each pinned out =
    neither (in_range (extent_place extent) (extent.end - extent.at) place) (extent_cover extents place)
    (beside (in_range (extent_place extent) (extent.end - extent.at) place) refl)
    (covered_pinned pool extents place (All-tail IsExtent extent extents each) (All-tail (IsPinnedIn pool) extent extents pinned) out)
  where
    first : IsPinnedIn pool extent
    first = All-head (IsPinnedIn pool) extent extents pinned

    hit : in_range (extent_place extent) (extent.end - extent.at) place ≡ true → true ≡ false
    hit has =
        sym (pinned_there pool.frames place first.0 first.1 first.2 first.4
        (subst (λ (page : ℕ). page_places page place ≡ true) (sym first.3) (extent_in_page extent place (All-head IsExtent extent extents each) has))) ∙ out

    beside : (b : Bool) → in_range (extent_place extent) (extent.end - extent.at) place ≡ b → b ≡ false
    beside true has = hit has
    beside false has = refl

module _ {W : Type 0} (g : Ghosts W) where
  -- a running store is a file whose pages are cached
  abbrev pub cached_of : (s : Cache W) (extents : List Extent) → AreFrames s.stable.pages s.pool extents → IsAlong g s extents → IsCached g s
  cached_of s extents frames along = record {
    file = along.file;
    clean = along.clean;
    covered = λ place out.
        let logged = not_first (cover (ranges_of along.file.batches) place) (pinned_places s.pool.frames place) out in
        let pinned = not_second (cover (ranges_of along.file.batches) place) (pinned_places s.pool.frames place) out in
        sym (puts_outside (ranges_of along.file.batches) (placed g s.stable) place logged)
        ∙ along.differs place (covered_pinned s.pool extents place frames.extents.each frames.pinned pinned);
  }

  pub steady_of : (s : Cache W) (extents : List Extent) → IsRunning g s extents → IsSteady g s
  steady_of s extents running = record {
    quiet = running.quiet;
    below = running.frames.below;
    cached = λ tells. cached_of s extents running.frames (running.along tells);
  }

  -- over a call that keeps what it stands for and the contents now
  pub along_after : (old new : Cache W) (extents : List Extent) (along : IsAlong g old extents) → StaysCached g old new along.file.batches → IsAlong g new extents
  along_after old new extents along stays = record {
    file = stays.after.cached.file;
    clean = stays.after.cached.clean;
    differs = λ place out.
        (λ i. flushed g new.stable (stays.after.same i) place) ∙ (λ i. stays.after.stands i place) ∙ along.differs place out ∙ (λ i. sym stays.after.contents_are i place);
  }

  -- a running store, over a call that moves pages between its frames and the file
  pub running_kept : {A E : Type 0} (old new : Cache W) (a : A) (extents : List Extent) → IsRunning g old extents → AreFrames old.stable.pages new.pool extents → KeepsCache g {T = A} {E = E} old new (Ok a) → IsRunning g new extents
  running_kept old new a extents running frames kept = record {
    quiet = kept.file.steady.quiet;
    frames = subst (λ (n : ℕ). AreFrames n new.pool extents) (sym kept.file.stable.shape.pages) frames;
    room = λ some. subst (λ (l : Log). l.end + 5 + largest_body < log_bytes) (sym kept.log) (running.room some);
    batch = subst (λ (n : ℕ). 64 ≤ n) (sym kept.file.room) running.batch;
    along = λ tells.
        let before = running.along tells in
        along_after old new extents before (kept.stays tells (cached_of old extents running.frames before));
  }

  -- what a call on the frames leaves stays of the store, and other frames over it
  pub stays_kept : {A E : Type 0} (old mid : Cache W) (pool : PoolState) (before extents : List Extent) (result : Result A E) → IsRunning g old before → KeepsCache g old mid result → OnOk result (IsRunning g (with_pool mid pool) extents)
      → StaysRunning g old (with_pool mid pool) extents result
  stays_kept old mid pool before extents result running kept after = record {
    stable = kept.file.stable;
    running = after;
    pages = λ tells. kept.file.pages tells (cached_of old before running.frames (running.along tells));
    stops = λ tells.
        let cached = cached_of old before running.frames (running.along tells) in
        stands_weaker g old.stable mid.stable.world _ _ (λ contents is. subst (StandsFor (g.image old.stable.world)) (sym is) (stands g old.stable cached.file)) (kept.stops tells cached);
  }

  pub stays_failed : {A B E : Type 0} (old new : Cache W) (before extents : List Extent) (e : E) (result : Result B E) → IsErr result → IsRunning g old before → KeepsCache g {T = A} {E = E} old new (Err e) → StaysRunning g old new extents result
  stays_failed old new before extents e (Ok b) err running kept = absurd (cc)
  stays_failed old new before extents e (Err other) err running kept = stays_kept old new new.pool before extents (Err other) running (kept_failed g old new e (Err other) refl kept) tt

-- a frame that is pinned is none that isn't
pub pinned_away : (pool : PoolState) (i j : ℕ) (f : Frame) → is_pinned (frame_at pool i) ≡ false → frame_at pool j ≡ Some f → f.pinned ≡ true → j ≡ i → ⊥
pinned_away pool i j f free there pinned same =
    let is : is_pinned (frame_at pool i) ≡ f.pinned = ap (λ (k : ℕ). is_pinned (frame_at pool k)) (sym same) ∙ ap is_pinned there in
    false≢true (sym free ∙ is ∙ pinned)

-- a page is pinned that was, where an unpinned frame was set
pub pinned_kept : (pool : PoolState) (i : ℕ) (frame : Frame) (recent : List ℕ) (extents : List Extent) → is_pinned (frame_at pool i) ≡ false → All (IsPinnedIn pool) extents → All (IsPinnedIn (record { frames = set pool.frames i (Some frame); recent = recent })) extents
pinned_kept pool i frame recent extents free each k d lt =
    let first : IsPinnedIn pool (get_or extents k d) = each k d lt in
    (first.0, first.1, set_away pool.frames i frame first.0 (pinned_away pool i first.0 first.1 free first.2 first.4) ∙ first.2, first.3, first.4)

-- as many frames are pinned, where an unpinned one was set to one that isn't
count_kept : (frames : List (Option Frame)) (i : ℕ) (frame : Frame) → i < length frames → is_pinned (frame_in frames i) ≡ false → frame.pinned ≡ false → count_by is_pinned (set frames i (Some frame)) ≡ count_by is_pinned frames
count_kept frames i frame lt free pin =
    let was : one_if (is_pinned (frame_in frames i)) ≡ 0 = ap one_if free in
    let is : one_if frame.pinned ≡ 0 = ap one_if pin in
    let sum = pinned_after frames i (Some frame) lt in
    omega (arith, was, is, sum)

-- the frames of a running store, once a page came to stand in one
pub frames_held : (pages : ℕ) (p : PageNo) (i : ℕ) (old new : PoolState) (extents : List Extent) → AreFrames pages old extents → IsHeldAt p i old new → IsPool new → AreBelow pages new.frames → AreFrames pages new extents
frames_held pages p i old new extents are held pool below = ⊎_elim
    (λ here. subst (λ (s : PoolState). AreFrames pages s extents) (sym here.1)
    (record { many = are.many; apart = are.apart; below = are.below; pins = are.pins; pinned = are.pinned; inside = are.inside; extents = are.extents }))
    (λ read.
    let page = read.0 in
    let fresh : Frame = fresh_frame p page in
    let free = read.3 in
    let lt = read.4 in
    let is : new ≡ loaded old i p page = read.5 in
    let made : AreFrames pages (loaded old i p page) extents = record {
      many = subst (λ (n : ℕ). 64 ≤ n) (sym (loaded_count old i p page)) are.many;
      apart = subst (λ (s : PoolState). AreApart s.frames) is (pool_apart new pool);
      below = subst (λ (s : PoolState). AreBelow pages s.frames) is below;
      pins = subst (λ (n : ℕ). n ≤ length extents) (sym (count_kept old.frames i fresh lt free refl)) are.pins;
      pinned = pinned_kept old i fresh (loaded old i p page).recent extents free are.pinned;
      inside = are.inside;
      extents = are.extents;
    } in
    subst (λ (s : PoolState). AreFrames pages s extents) (sym is) made)
    held

-- A frame that holds a page is set to one that holds the same page.

abbrev pub with_set : PoolState → ℕ → Frame → PoolState
with_set s i h = record { frames = set s.frames i (Some h); recent = s.recent }

pub record IsSame (s : PoolState) (i : ℕ) (f h : Frame) : Type 0 where
  pub there : frame_at s i ≡ Some f
  pub page : h.page ≡ f.page
  pub whole : length h.content.bytes ≡ 4096

set_many : (s : PoolState) (i : ℕ) (h : Frame) → 64 ≤ length s.frames → 64 ≤ length (with_set s i h).frames
set_many s i h many = subst (λ (n : ℕ). 64 ≤ n) (sym (length-set s.frames i (Some h))) many

same_apart : (s : PoolState) (i : ℕ) (f h : Frame) → AreApart s.frames → IsSame s i f h → AreApart (with_set s i h).frames
same_apart s i f h apart same = set_apart s.frames i h apart (record {
  below = frame_below s.frames i f same.there;
  alone = λ k g away there page. away (one_frame s.frames apart k i g f there same.there (page ∙ ap (λ (p : PageNo). p.0) same.page));
  whole = same.whole;
})

same_below : (pages : ℕ) (s : PoolState) (i : ℕ) (f h : Frame) → AreBelow pages s.frames → IsSame s i f h → AreBelow pages (with_set s i h).frames
same_below pages s i f h below same k g there = ⊎_elim
    (λ mine. subst (λ (p : PageNo). p.0 < pages) (sym same.page ∙ ap (λ (x : Frame). x.page) mine.1) (below i f same.there))
    (λ other. below k g other.1)
    (set_cases s.frames i h (frame_below s.frames i f same.there) k g there)

-- each page that is pinned is, where the frame that was set is pinned if it was
same_pinned : (s : PoolState) (i : ℕ) (f h : Frame) (extent : Extent) → IsSame s i f h → (f.pinned ≡ true → h.pinned ≡ true) → IsPinnedIn s extent → IsPinnedIn (with_set s i h) extent
same_pinned s i f h extent same keeps (j, g, there, page, pinned) = ⊎_elim
    (λ is.
    let mine : f ≡ g = some_is f g (sym same.there ∙ ap (frame_at s) (sym is) ∙ there) in
    (i, h, set_here s.frames i h (frame_below s.frames i f same.there), ap (λ (p : PageNo). p.0) (same.page ∙ ap (λ (x : Frame). x.page) mine) ∙ page, keeps (ap (λ (x : Frame). x.pinned) mine ∙ pinned)))
    (λ away. (j, g, set_away s.frames i h j away ∙ there, page, pinned))
    (cases_eq j i)

count_set : (s : PoolState) (i : ℕ) (f h : Frame) → frame_at s i ≡ Some f → count_by is_pinned (with_set s i h).frames + one_if f.pinned ≡ count_by is_pinned s.frames + one_if h.pinned
count_set s i f h there =
    let flag : one_if (is_pinned (frame_at s i)) ≡ one_if f.pinned = ap (λ (o : Option Frame). one_if (is_pinned o)) there in
    let sum = pinned_after s.frames i (Some h) (frame_below s.frames i f there) in
    ap (λ (n : ℕ). count_by is_pinned (with_set s i h).frames + n) (sym flag) ∙ sum

-- a frame's bytes or its dirty flag changed
pub frames_edited : (pages : ℕ) (s : PoolState) (i : ℕ) (f h : Frame) (extents : List Extent) → AreFrames pages s extents → IsSame s i f h → h.pinned ≡ f.pinned → AreFrames pages (with_set s i h) extents
frames_edited pages s i f h extents are same flag =
    let count : count_by is_pinned (with_set s i h).frames ≡ count_by is_pinned s.frames =
    let sum = count_set s i f h same.there in
    let flags : one_if h.pinned ≡ one_if f.pinned = ap one_if flag in
    omega (arith, sum, flags) in
    record {
      many = set_many s i h are.many;
      apart = same_apart s i f h are.apart same;
      below = same_below pages s i f h are.below same;
      pins = subst (λ (n : ℕ). n ≤ length extents) (sym count) are.pins;
      pinned = λ k d lt. same_pinned s i f h (get_or extents k d) same (λ was. flag ∙ was) (are.pinned k d lt);
      inside = are.inside;
      extents = are.extents;
    }

-- the page of a frame is among those changed, so it is pinned
pub is_pinned_there : (s : PoolState) (i : ℕ) (f : Frame) (extents : List Extent) → AreApart s.frames → frame_at s i ≡ Some f → All (IsPinnedIn s) extents → list_any (λ other. other == f.page.0) (map page_number extents) ≡ true → f.pinned ≡ true
is_pinned_there s i f [] apart there each is = absurd (false≢true is)
is_pinned_there s i f (extent ∷ extents) apart there each is = first (extent.page.0 == f.page.0) refl (is_pinned_there s i f extents apart there (All-tail (IsPinnedIn s) extent extents each)) is
  where
    here : IsPinnedIn s extent
    here = All-head (IsPinnedIn s) extent extents each

    found : extent.page.0 ≡ f.page.0 → f.pinned ≡ true
    found same =
        let is_one : here.0 ≡ i = one_frame s.frames apart here.0 i here.1 f here.2 there (here.3 ∙ same) in
        let mine : here.1 ≡ f = some_is here.1 f (sym here.2 ∙ ap (frame_at s) is_one ∙ there) in
        ap (λ (x : Frame). x.pinned) (sym mine) ∙ here.4

    first : (b : Bool) → (extent.page.0 == f.page.0) ≡ b → (list_any (λ other. other == f.page.0) (map page_number extents) ≡ true → f.pinned ≡ true) → (b || list_any (λ other. other == f.page.0) (map page_number extents)) ≡ true → f.pinned ≡ true
    first true e rest any = found (grind (arith, nat_tests, e))
    first false e rest any = rest any

-- a frame is pinned whose page was changed, from a place to another
pub frames_pinned : (pages : ℕ) (s : PoolState) (i : ℕ) (f : Frame) (at end : ℕ) (extents : List Extent) → AreFrames pages s extents → frame_at s i ≡ Some f → at < end → end ≤ page_bytes → length (with_extent f.page at end extents) ≤ 48
    → AreFrames pages (with_set s i (record f { pinned = true })) (with_extent f.page at end extents)
frames_pinned pages s i f at end extents are there some inside few = record {
  many = set_many s i h are.many;
  apart = same_apart s i f h are.apart same;
  below = same_below pages s i f h are.below same;
  pins = counted (list_any (λ other. other == f.page.0) (map page_number extents)) refl;
  pinned = all_with (IsPinnedIn (with_set s i h)) f.page at end extents
      (i, h, set_here s.frames i h (frame_below s.frames i f there), refl, refl)
      (λ extent number old. (old.0, old.1, old.2, old.3 ∙ number, old.4))
      (λ k d lt. same_pinned s i f h (get_or extents k d) same (λ was. refl) (are.pinned k d lt));
  inside = below_with pages f.page at end extents (are.below i f there) are.inside;
  extents = extents_with f.page at end extents some inside few are.extents;
}
  where
    h : Frame
    h = record f { pinned = true }

    same : IsSame s i f h
    same = record { there = there; page = refl; whole = are.apart.whole i f there }

    counted : (b : Bool) → list_any (λ other. other == f.page.0) (map page_number extents) ≡ b → count_by is_pinned (with_set s i h).frames ≤ length (with_extent f.page at end extents)
    counted true e =
        let pinned : one_if f.pinned ≡ 1 = ap one_if (is_pinned_there s i f extents are.apart there are.pinned e) in
        let sum = count_set s i f h there in
        let long = as_many_with f.page at end extents e in
        omega (arith, pinned, sum, long, are.pins)
    counted false e =
        let sum = count_set s i f h there in
        let long = one_longer_with f.page at end extents e in
        omega (arith, sum, long, are.pins)

-- the pages of the extents behind the first are others
other_pages : (first : Extent) (extents : List Extent) → AreExtents (first ∷ extents) → All (λ extent. (first.page.0 ≡ extent.page.0) → ⊥) extents
other_pages first extents are k d lt same =
    let there : get_or (map page_number extents) k d.page.0 ≡ (get_or extents k d).page.0 = get_or-map page_number extents k d d.page.0 lt in
    are.distinct.0 k d.page.0 (subst (λ (n : ℕ). k < n) (sym (length-map extents page_number)) lt) (same ∙ sym there)

extents_behind : (first : Extent) (extents : List Extent) → AreExtents (first ∷ extents) → AreExtents extents
extents_behind first extents are = record { each = All-tail IsExtent first extents are.each; distinct = are.distinct.1; few = omega (arith, are.few) }

-- the frame of the first extent's page is unpinned
pub frames_unpinned : (pages : ℕ) (s : PoolState) (i : ℕ) (f : Frame) (first : Extent) (extents : List Extent) → AreFrames pages s (first ∷ extents) → frame_at s i ≡ Some f → f.page.0 ≡ first.page.0 → AreFrames pages (with_set s i (record f { pinned = false })) extents
frames_unpinned pages s i f first extents are there page = record {
  many = set_many s i h are.many;
  apart = same_apart s i f h are.apart same;
  below = same_below pages s i f h are.below same;
  pins = omega (arith, pinned, count_set s i f h there, are.pins);
  pinned = λ k d lt. moved (get_or extents k d) (other_pages first extents are.extents k d lt) (All-tail (IsPinnedIn s) first extents are.pinned k d lt);
  inside = All-tail (λ extent. extent.page.0 < pages) first extents are.inside;
  extents = extents_behind first extents are.extents;
}
  where
    h : Frame
    h = record f { pinned = false }

    same : IsSame s i f h
    same = record { there = there; page = refl; whole = are.apart.whole i f there }

    head : IsPinnedIn s first
    head = All-head (IsPinnedIn s) first extents are.pinned

    pinned : one_if f.pinned ≡ 1
    pinned =
        let is_one : head.0 ≡ i = one_frame s.frames are.apart head.0 i head.1 f head.2 there (head.3 ∙ sym page) in
        let mine : head.1 ≡ f = some_is head.1 f (sym head.2 ∙ ap (frame_at s) is_one ∙ there) in
        ap one_if (ap (λ (x : Frame). x.pinned) (sym mine) ∙ head.4)

    moved : (extent : Extent) → ((first.page.0 ≡ extent.page.0) → ⊥) → IsPinnedIn s extent → IsPinnedIn (with_set s i h) extent
    moved extent other (j, g, is, number, flag) =
        let away : (j ≡ i) → ⊥ = λ same_frame. other (sym page ∙ ap (λ (x : Frame). x.page.0) (some_is f g (sym there ∙ ap (frame_at s) (sym same_frame) ∙ is)) ∙ number) in
        (j, g, set_away s.frames i h j away ∙ is, number, flag)

-- it and no other is changed by that
pub unpinned_begins : (pages : ℕ) (s : PoolState) (extents : List Extent) → AreFrames pages s extents → IsUnpinned pages s s extents
unpinned_begins pages s extents are = record { frames = are; now_is = λ placed. refl; clean = λ placed clean. clean; dirty = refl; held = λ i. refl; count = refl }

same_dirty : (s : PoolState) (i : ℕ) (f : Frame) → frame_at s i ≡ Some f → count_by is_dirty (set s.frames i (Some (record f { pinned = false }))) ≡ count_by is_dirty s.frames
same_dirty s i f there =
    let flag : one_if (is_dirty (frame_at s i)) ≡ one_if f.dirty = ap (λ (o : Option Frame). one_if (is_dirty o)) there in
    let sum = dirty_after s.frames i (Some (record f { pinned = false })) (frame_below s.frames i f there) in
    omega (arith, flag, sum)

same_held : (s : PoolState) (i : ℕ) (f : Frame) → frame_at s i ≡ Some f → (k : ℕ) → page_in (frame_in (set s.frames i (Some (record f { pinned = false }))) k) ≡ page_in (frame_at s k)
same_held s i f there k = ⊎_elim
    (λ is_one. ap (λ (n : ℕ). page_in (frame_in (set s.frames i (Some (record f { pinned = false }))) n)) is_one ∙ ap page_in (set_here s.frames i (record f { pinned = false }) (frame_below s.frames i f there)) ∙ sym (ap (λ (n : ℕ). page_in (frame_at s n)) is_one ∙ ap page_in there))
    (λ away. ap page_in (set_away s.frames i (record f { pinned = false }) k away))
    (cases_eq k i)

no_page : (p : PageNo) → ◌≡◌ {A = Option PageNo} None (Some p) → ⊥
no_page p e = absurd (cc)

pub unpinned_more : (pages : ℕ) (old s : PoolState) (i : ℕ) (first : Extent) (extents : List Extent) → IsUnpinned pages old s (first ∷ extents) → page_in (frame_at s i) ≡ Some first.page → IsUnpinned pages old (with_frame s i (λ f. record f { pinned = false })) extents
unpinned_more pages old s i first extents so_far is = some (frame_at s i) refl is
  where
    unpin : Frame → Frame
    unpin f = record f { pinned = false }

    some : (o : Option Frame) → frame_at s i ≡ o → page_in o ≡ Some first.page → IsUnpinned pages old (with_frame s i unpin) extents
    some None there number = absurd (no_page first.page number)
    some (Some f) there number =
        let set_is : edited s.frames i unpin ≡ set s.frames i (Some (unpin f)) = edited_is s.frames i f unpin there in
        let whole : with_set s i (unpin f) ≡ with_frame s i unpin = λ j. record { frames = sym set_is j; recent = s.recent } in
        record {
          frames = subst (λ (p : PoolState). AreFrames pages p extents) whole (frames_unpinned pages s i f first extents so_far.frames there (ap (λ (p : PageNo). p.0) (some_is f.page first.page number)));
          now_is = λ placed. flagged_now s.frames placed i f unpin there refl ∙ so_far.now_is placed;
          clean = λ placed clean. pinned_clean s.frames placed i f false there (so_far.clean placed clean);
          dirty = ap (count_by is_dirty) set_is ∙ same_dirty s i f there ∙ so_far.dirty;
          held = λ k. ap (λ (fs : List (Option Frame)). page_in (frame_in fs k)) set_is ∙ same_held s i f there k ∙ so_far.held k;
          count = ap (λ (fs : List (Option Frame)). length fs) set_is ∙ length-set s.frames i (Some (unpin f)) ∙ so_far.count;
        }

module _ {W : Type 0} (g : Ghosts W) where
  -- a running store, once a page came to stand in a frame
  pub running_held : {E : Type 0} (old new : Cache W) (extents : List Extent) (p : PageNo) (i : ℕ) → IsRunning g old extents → IsHeldAt p i old.pool new.pool → IsPool new.pool → KeepsCache g {T = ℕ} {E = E} old new (Ok i) → IsRunning g new extents
  running_held old new extents p i running held pool kept =
      running_kept g old new i extents running
      (frames_held old.stable.pages p i old.pool new.pool extents running.frames held pool (subst (λ (n : ℕ). AreBelow n new.pool.frames) kept.file.stable.shape.pages kept.file.steady.below)) kept

-- a page that was changed is held
pub pinned_holds : (s : PoolState) (extent : Extent) → IsPinnedIn s extent → Holds s extent.page
pinned_holds s extent (i, frame, there, number, pinned) = (i, ap page_in there ∙ (λ j. Some (record { 0 = number j })))

-- frames changed twice, and nothing else
module _ {W : Type 0} where
  pub others_twice : (old mid new : Cache W) → mid ≡ with_pool old mid.pool → new ≡ with_pool mid new.pool → new ≡ with_pool old new.pool
  others_twice old mid new first second = second ∙ ap (λ (t : Cache W). with_pool t new.pool) first
