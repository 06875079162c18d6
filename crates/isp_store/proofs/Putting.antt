-- A running store whose open mini-transaction put bytes into a page.
use Rattle.std.proofs.Common.{◌≡◌, ◌⊎◌, inl, inr, ⊎_elim, ℕ, ◌+◌, ◌*◌, ◌<◌, ◌≤◌, Bool, true, false, List, Ok, Option, Some, None, length, refl, sym, ◌∙◌, ap, subst, arith}
use Rattle.std.specs.Prelude.{cond, nat_lt}
use Rattle.std.specs.List.{position, position_or_len}
use Rattle.std.specs.Option.{is_none, option_or}
use Rattle.std.proofs.lemmas.Bool.{cases_eq, false≢true}
use Rattle.std.proofs.lemmas.List.Quantifiers.{position-Some}
use Rattle.std.proofs.lemmas.List.Sums.{fails_before_first}
use Rattle.std.proofs.lemmas.Bool.Decides.{nat_tests}
use Rattle.isp_disk.specs.Moments.{put}
use Rattle.isp_disk.specs.declared.world.Failed.{Failed}
use Rattle.isp_disk.specs.declared.world.World.{Ghosts}
use Rattle.isp_format.specs.Log.{log_bytes}
use Rattle.isp_format.specs.Ranges.{Contents, page_bytes}
use Rattle.isp_redo.specs.declared.log.Log.{Log}
use Rattle.isp_frames.specs.Cached.{PutsBytes, now, with_pool}
use Rattle.isp_frames.specs.Held.{AreApart, AreClean, EditsPage, IsHeldAt, now_over}
use Rattle.isp_frames.specs.declared.cache.Cache.{Cache}
use Rattle.isp_frames.proofs.HeldLaws.{held_page, holding}
use Rattle.isp_frames.proofs.StayLaws.{kept_ok}
use Rattle.isp_frames.proofs.NowLaws.{changed_clean, changed_now, edited_is, flagged_now, frame_below, overwrite, pinned_clean, set_here}
use Rattle.isp_mini.specs.Extents.{largest_body, with_extent}
use Rattle.isp_mini.specs.declared.changes.Extent.{Extent}
use Rattle.isp_mini.proofs.ExtentLaws.{change_agrees}
use Rattle.isp_base.specs.declared.page_no.PageNo.{PageNo}
use Rattle.isp_pool.specs.Frames.{PoolState, changed, frame_at, frame_in, is_held, is_unpinned, loaded, page_of as page_in, victim_of, with_frame}
use Rattle.isp_pool.specs.declared.frames.Frame.{Frame}
use Rattle.isp_pool.proofs.StateLaws.{edited_count, edited_other, length-overwritten, loaded_count, loaded_here, loaded_other}
use Rattle.isp_recency.specs.Recent.{last_where}
use Rattle.isp_stable.specs.File.{HasRoomFor, flushed, placed}
use Rattle.isp_store.specs.Running.{AreAllHeld, AreFrames, HoldSame, IsAlong, IsFree, IsHeldAfter, IsRunning, StaysRunning}
use Rattle.isp_store.proofs.Keeping.{IsSame, cached_of, frames_edited, frames_pinned, running_held, stays_kept, with_set}

-- an edit of a frame that holds a page sets it
pub with_is : (s : PoolState) (i : ℕ) (f : Frame) (edit : Frame → Frame) → frame_at s i ≡ Some f → with_frame s i edit ≡ with_set s i (edit f)
with_is s i f edit there = λ j. record { frames = edited_is s.frames i f edit there j; recent = s.recent }

abbrev pub pin : Frame → Frame
pin f = record f { pinned = true }

-- the frame of a page, bytes put into it and pinned
abbrev pub with_bytes : PoolState → ℕ → ℕ → List ℕ → PoolState
with_bytes s i at bytes = with_frame (changed s i at bytes) i pin

pub put_there : (s : PoolState) (i at : ℕ) (bytes : List ℕ) (f : Frame) → frame_at s i ≡ Some f → frame_at (changed s i at bytes) i ≡ Some (overwrite at bytes f)
put_there s i at bytes f there = ap (λ (p : PoolState). frame_at p i) (with_is s i f (overwrite at bytes) there) ∙ set_here s.frames i (overwrite at bytes f) (frame_below s.frames i f there)

put_same : (s : PoolState) (i at : ℕ) (bytes : List ℕ) (f : Frame) → AreApart s.frames → frame_at s i ≡ Some f → at + length bytes ≤ page_bytes → IsSame s i f (overwrite at bytes f)
put_same s i at bytes f apart there fits = record { there = there; page = refl; whole = length-overwritten f.content.bytes at bytes (subst (λ (n : ℕ). at + length bytes ≤ n) (sym (apart.whole i f there)) fits) ∙ apart.whole i f there }

pub frames_put : (pages : ℕ) (s : PoolState) (i at : ℕ) (bytes : List ℕ) (f : Frame) (extents : List Extent) → AreFrames pages s extents → frame_at s i ≡ Some f → 1 ≤ length bytes → at + length bytes ≤ page_bytes → length (with_extent f.page at (at + length bytes) extents) ≤ 48
    → AreFrames pages (with_bytes s i at bytes) (with_extent f.page at (at + length bytes) extents)
frames_put pages s i at bytes f extents are there some fits few =
    let f1 : Frame = overwrite at bytes f in
    let first = frames_edited pages s i f f1 extents are (put_same s i at bytes f are.apart there fits) refl in
    let moved : AreFrames pages (changed s i at bytes) extents = subst (λ (p : PoolState). AreFrames pages p extents) (sym (with_is s i f (overwrite at bytes) there)) first in
    let here = put_there s i at bytes f there in
    subst (λ (p : PoolState). AreFrames pages p (with_extent f.page at (at + length bytes) extents)) (sym (with_is (changed s i at bytes) i f1 pin here))
    (frames_pinned pages (changed s i at bytes) i f1 at (at + length bytes) extents moved here (omega (arith, some)) fits few)

pub now_put : (s : PoolState) (i at : ℕ) (bytes : List ℕ) (f : Frame) (placed : Contents) → AreApart s.frames → frame_at s i ≡ Some f → at + length bytes ≤ page_bytes → now_over (with_bytes s i at bytes).frames placed ≡ put (now_over s.frames placed) (f.page.0 * page_bytes + at) bytes
now_put s i at bytes f placed apart there fits =
    flagged_now (changed s i at bytes).frames placed i (overwrite at bytes f) pin (put_there s i at bytes f there) refl
    ∙ changed_now s.frames placed i at bytes f apart there fits

pub clean_put : (s : PoolState) (i at : ℕ) (bytes : List ℕ) (f : Frame) (placed : Contents) → frame_at s i ≡ Some f → AreClean s.frames placed → AreClean (with_bytes s i at bytes).frames placed
clean_put s i at bytes f placed there clean =
    pinned_clean (changed s i at bytes).frames placed i (overwrite at bytes f) true (put_there s i at bytes f there) (changed_clean s.frames placed i at bytes f there clean)

-- The page is held.

is_free : (o : Option Frame) → is_none o ≡ true → o ≡ None
is_free None is = refl
is_free (Some f) is = absurd (false≢true is)

not_free : (o : Option Frame) → is_none o ≡ false → is_held o ≡ true
not_free None is = absurd (false≢true (sym is))
not_free (Some f) is = refl

-- where no frame is free each is held
none_free : (frames : List (Option Frame)) → position is_none frames ≡ None → (k : ℕ) → k < length frames → is_none (frame_in frames k) ≡ false
none_free frames none k lt = fails_before_first is_none frames k None (omega (arith, lt, whole (nat_lt (position_or_len is_none frames) (length frames)) refl none))
  where
    whole : (b : Bool) → nat_lt (position_or_len is_none frames) (length frames) ≡ b → ◌≡◌ {A = Option ℕ} (cond b (Some (position_or_len is_none frames)) None) None → length frames ≤ position_or_len is_none frames
    whole true test is = absurd (cc)
    whole false test is = grind (arith, nat_tests, test)

-- the frame that is next to go is free, or none is
victim_case : (s : PoolState) (i : ℕ) → victim_of s ≡ Some i → IsFree s i ⊎ AreAllHeld s
victim_case s i is = of (position is_none s.frames) refl (is)
  where
    of : (o : Option ℕ) → position is_none s.frames ≡ o → option_or o (last_where (λ k. is_unpinned (frame_at s k)) s.recent) ≡ Some i → IsFree s i ⊎ AreAllHeld s
    of (Some j) first which = inl (is_free (frame_at s i) (position-Some is_none s.frames i None (first ∙ which)).1)
    of None none which = inr (λ k lt. not_free (frame_at s k) (none_free s.frames none k lt))

pub held_after : (p : PageNo) (i : ℕ) (old new : PoolState) → IsHeldAt p i old new → IsHeldAfter p old new
held_after p i old new held = ⊎_elim
    (λ here. record {
      count = ap (λ (s : PoolState). length s.frames) here.1;
      held = inl (i, here.0, λ k. ap (λ (s : PoolState). page_in (frame_at s k)) here.1);
    })
    (λ read.
    let is : new ≡ loaded old i p read.0 = read.5 in
    record {
      count = ap (λ (s : PoolState). length s.frames) is ∙ loaded_count old i p read.0;
      held = inr (
        i,
        read.1,
        ap (λ (s : PoolState). page_in (frame_at s i)) is ∙ ap page_in (loaded_here old i p read.0 read.4),
        victim_case old i read.2,
        λ k away. ap (λ (s : PoolState). page_in (frame_at s k)) is ∙ ap page_in (loaded_other old i p read.0 k away),
      );
    })
    held

-- after it the same pages stand in the same frames
pub held_still : (p : PageNo) (old mid new : PoolState) → IsHeldAfter p old mid → length new.frames ≡ length mid.frames → HoldSame mid new → IsHeldAfter p old new
held_still p old mid new held count same = record {
  count = count ∙ held.count;
  held = ⊎_elim
      (λ here. inl (here.0, here.1, λ k. same k ∙ here.2 k))
      (λ read. inr (read.0, read.1, same read.0 ∙ read.2, read.3, λ k away. same k ∙ read.4 k away))
      held.held;
}

no_page_free : (o : Option Frame) → page_in o ≡ None → o ≡ None
no_page_free None is = refl
no_page_free (Some f) is = absurd (cc)

held_too : (one other : Option Frame) → page_in one ≡ page_in other → is_held one ≡ true → is_held other ≡ true
held_too None other same is = absurd (false≢true is)
held_too (Some f) None same is = absurd (cc)
held_too (Some f) (Some h) same is = refl

-- before it
pub still_held : (p : PageNo) (old mid new : PoolState) → length mid.frames ≡ length old.frames → HoldSame old mid → IsHeldAfter p mid new → IsHeldAfter p old new
still_held p old mid new count same held = record {
  count = held.count ∙ count;
  held = ⊎_elim
      (λ here. inl (here.0, sym (same here.0) ∙ here.1, λ k. here.2 k ∙ same k))
      (λ read. inr (read.0, (λ k is. read.1 k (same k ∙ is)), read.2, ⊎_elim (λ none. inl (back read.0 none)) (λ all. inr (λ k lt. still k (all k (subst (λ (n : ℕ). k < n) (sym count) lt)))) read.3, λ k away. read.4 k away ∙ same k))
      held.held;
}
  where
    back : (k : ℕ) → frame_at mid k ≡ None → frame_at old k ≡ None
    back k is = no_page_free (frame_at old k) (sym (same k) ∙ ap page_in is)

    still : (k : ℕ) → is_held (frame_at mid k) ≡ true → is_held (frame_at old k) ≡ true
    still k is = held_too (frame_at mid k) (frame_at old k) (same k) is

pub put_holds : (s : PoolState) (i at : ℕ) (bytes : List ℕ) (f : Frame) → frame_at s i ≡ Some f → HoldSame s (with_bytes s i at bytes)
put_holds s i at bytes f there k = ⊎_elim
    (λ is.
    let here : frame_at (with_bytes s i at bytes) i ≡ Some (pin (overwrite at bytes f)) =
    ap (λ (p : PoolState). frame_at p i) (with_is (changed s i at bytes) i (overwrite at bytes f) pin (put_there s i at bytes f there))
    ∙ set_here (changed s i at bytes).frames i (pin (overwrite at bytes f)) (frame_below (changed s i at bytes).frames i (overwrite at bytes f) (put_there s i at bytes f there)) in
    ap (λ (n : ℕ). page_in (frame_at (with_bytes s i at bytes) n)) is ∙ ap page_in here ∙ sym (ap (λ (n : ℕ). page_in (frame_at s n)) is ∙ ap page_in there))
    (λ away. ap page_in (edited_other (changed s i at bytes) i pin k away ∙ edited_other s i (overwrite at bytes) k away))
    (cases_eq k i)

pub put_count : (s : PoolState) (i at : ℕ) (bytes : List ℕ) → length (with_bytes s i at bytes).frames ≡ length s.frames
put_count s i at bytes = edited_count (changed s i at bytes) i pin ∙ edited_count s i (overwrite at bytes)

module _ {W : Type 0} (g : Ghosts W) where
  -- it is along after bytes were put
  pub along_put : (s : Cache W) (i at : ℕ) (bytes : List ℕ) (f : Frame) (extents : List Extent) → AreFrames s.stable.pages s.pool extents → frame_at s.pool i ≡ Some f → at + length bytes ≤ page_bytes → IsAlong g s extents
      → IsAlong g (with_pool s (with_bytes s.pool i at bytes)) (with_extent f.page at (at + length bytes) extents)
  along_put s i at bytes f extents are there fits along = record {
    file = along.file;
    clean = clean_put s.pool i at bytes f (placed g s.stable) there along.clean;
    differs = λ place out. change_agrees f.page at bytes extents (flushed g s.stable along.file.batches) (now g s) along.differs place out
        ∙ (λ j. sym (now_put s.pool i at bytes f (placed g s.stable) are.apart there fits) j place);
  }

  -- a running store after bytes were put into the frame that holds the page
  pub running_put : (s : Cache W) (new : PoolState) (extents noted : List Extent) (p : PageNo) (i at : ℕ) (bytes : List ℕ) → IsRunning g s extents
      → page_in (frame_at s.pool i) ≡ Some p → new ≡ with_bytes s.pool i at bytes → noted ≡ with_extent p at (at + length bytes) extents → 1 ≤ length bytes → at + length bytes ≤ page_bytes → length (with_extent p at (at + length bytes) extents) ≤ 48 → HasRoomFor s.stable largest_body
      → IsRunning g (with_pool s new) noted
  running_put s new extents noted p i at bytes running here put_is noted_is some fits few room =
      let are = running.frames in
      let f = holding s.pool i p here in
      let wide : (q : PageNo) → List Extent = λ q. with_extent q at (at + length bytes) extents in
      let frames : AreFrames s.stable.pages (with_bytes s.pool i at bytes) (wide f.0.page) = frames_put s.stable.pages s.pool i at bytes f.0 extents are f.1 some fits (subst (λ (q : PageNo). length (wide q) ≤ 48) (sym f.2) few) in
      let its : wide f.0.page ≡ noted = ap wide f.2 ∙ sym noted_is in
      record {
        quiet = running.quiet;
        frames = subst (λ (n : PoolState). AreFrames s.stable.pages n noted) (sym put_is) (subst (λ (es : List Extent). AreFrames s.stable.pages (with_bytes s.pool i at bytes) es) its frames);
        room = λ some_open. room;
        batch = running.batch;
        along = λ tells. subst (λ (n : PoolState). IsAlong g (with_pool s n) noted) (sym put_is)
            (subst (λ (es : List Extent). IsAlong g (with_pool s (with_bytes s.pool i at bytes)) es) its (along_put s i at bytes f.0 extents are f.1 fits (running.along tells)));
      }

  -- and the contents now
  pub contents_put : (placed : Contents) (s new : PoolState) (p : PageNo) (i at : ℕ) (bytes : List ℕ) → AreApart s.frames → page_in (frame_at s i) ≡ Some p → new ≡ with_bytes s i at bytes → at + length bytes ≤ page_bytes → now_over new.frames placed ≡ put (now_over s.frames placed) (p.0 * page_bytes + at) bytes
  contents_put placed s new p i at bytes apart here put_is fits =
      let f = holding s i p here in
      ap (λ (n : PoolState). now_over n.frames placed) put_is ∙ now_put s i at bytes f.0 placed apart f.1 fits
      ∙ ap (λ (q : PageNo). put (now_over s.frames placed) (q.0 * page_bytes + at) bytes) f.2

  -- bytes were put into a page, which was pinned then
  module _ (old mid new : Cache W) (p : PageNo) (at : ℕ) (bytes : List ℕ) (did : PutsBytes g p at bytes old mid) where
    its_frame : (f : Frame) × (frame_at did.held.pool did.frame ≡ Some f) × (f.page ≡ p)
    its_frame = holding did.held.pool did.frame p (held_page p did.frame old.pool did.held.pool did.is_held)

    pub stands_there : page_in (frame_at mid.pool did.frame) ≡ Some p
    stands_there =
        ap (λ (t : Cache W). page_in (frame_at t.pool did.frame)) did.new_is
        ∙ ap page_in (put_there did.held.pool did.frame at bytes its_frame.0 its_frame.1)
        ∙ ap (λ (q : PageNo). Some q) its_frame.2

    module _ (others : new ≡ with_pool mid new.pool) (pinned : EditsPage p pin mid.pool new.pool) where
      pool_is : new.pool ≡ with_bytes did.held.pool did.frame at bytes
      pool_is = pinned did.frame stands_there ∙ ap (λ (t : Cache W). with_frame t.pool did.frame pin) did.new_is

      cache_is : new ≡ with_pool did.held new.pool
      cache_is = others ∙ ap (λ (t : Cache W). with_pool t new.pool) did.new_is

      pub pinned_file : new.stable ≡ mid.stable
      pinned_file = ap (λ (t : Cache W). t.stable) others

      pub pinned_after : IsHeldAfter p old.pool new.pool
      pinned_after =
          held_still p old.pool did.held.pool new.pool (held_after p did.frame old.pool did.held.pool did.is_held)
          (ap (λ (s : PoolState). length s.frames) pool_is ∙ put_count did.held.pool did.frame at bytes)
          (λ k. ap (λ (s : PoolState). page_in (frame_at s k)) pool_is ∙ put_holds did.held.pool did.frame at bytes its_frame.0 its_frame.1 k)

      module _ (extents : List Extent) (running : IsRunning g old extents) where
        running_there : IsRunning g did.held extents
        running_there = running_held g old did.held extents p did.frame running did.is_held did.frames did.kept

        pub pinned_contents : at + length bytes ≤ page_bytes → g.tells → now g new ≡ put (now g old) (p.0 * page_bytes + at) bytes
        pinned_contents fits tells =
            let stays = did.kept.stays tells (cached_of g old extents running.frames (running.along tells)) in
            ap (λ (t : Cache W). now g t) cache_is
            ∙ contents_put (placed g did.held.stable) did.held.pool new.pool p did.frame at bytes running_there.frames.apart
            (held_page p did.frame old.pool did.held.pool did.is_held) pool_is fits
            ∙ ap (λ (contents : Contents). put contents (p.0 * page_bytes + at) bytes) stays.after.contents_are

        pub pinned_stays : (noted : List Extent) → noted ≡ with_extent p at (at + length bytes) extents → 1 ≤ length bytes → at + length bytes ≤ page_bytes → length (with_extent p at (at + length bytes) extents) ≤ 48
            → HasRoomFor old.stable largest_body → StaysRunning g {T = Unit {0}} {E = Failed} old new noted (Ok tt)
        pinned_stays noted noted_is some fits few room =
            let log : HasRoomFor did.held.stable largest_body = subst (λ (l : Log). l.end + 5 + largest_body < log_bytes) (sym did.kept.log) room in
            subst (λ (t : Cache W). StaysRunning g {T = Unit {0}} {E = Failed} old t noted (Ok tt)) (sym cache_is)
            (stays_kept g old did.held new.pool extents noted (Ok tt) running (kept_ok g old did.held did.frame tt did.kept)
            (running_put did.held new.pool extents noted p did.frame at bytes running_there (held_page p did.frame old.pool did.held.pool did.is_held) pool_is noted_is some fits few log))
