-- A cache before and after a call, over any world.
use Rattle.std.proofs.Common.{◌≡◌, ◌∙◌, ◌+◌, ◌*◌, ◌≤◌, ◌||◌, false, List, [], ◌∷◌, ℕ, suc, Option, Some, None, refl, sym, ap, subst, length, map, set, set-set}
use Rattle.std.specs.Option.{option_map}
use Rattle.isp_disk.specs.Moments.{Agree, Region, Within, either, in_range, put}
use Rattle.isp_disk.specs.declared.world.World.{Ghosts}
use Rattle.isp_doublewrite.specs.Batches.{whole_page}
use Rattle.isp_format.specs.Contents.{ranges_of}
use Rattle.isp_format.specs.Doublewrite.{area}
use Rattle.isp_format.specs.Log.{Transaction, log_bytes, log_place}
use Rattle.isp_format.specs.Ranges.{Contents, SameIn, cover, page_bytes, puts}
use Rattle.isp_format.proofs.Places.{neither, not_first, not_second}
use Rattle.isp_format.proofs.Puts.{mixes}
use Rattle.isp_format.proofs.Slices.{put_outside}
use Rattle.isp_frames.specs.Cached.{CachesAs, IsCached, StaysCached, now}
use Rattle.isp_frames.specs.Gathered.{IsGathered}
use Rattle.isp_frames.specs.Held.{AreClean, AreFree, cleaned_at, held_pages, now_over, pinned_places}
use Rattle.isp_frames.specs.declared.cache.Cache.{Cache}
use Rattle.isp_format.specs.declared.page.Page.{Page}
use Rattle.isp_base.specs.declared.page_no.PageNo.{PageNo}
use Rattle.isp_pool.specs.declared.frames.Frame.{Frame}
use Rattle.isp_pool.specs.Frames.{IsPool, PoolState, changed, edited, frame_at, frame_in, fresh_frame, is_pinned, loaded, used}
use Rattle.isp_stable.specs.File.{ArePagesOf, HasBatches, HasWritten, IsFile, KeepsShape, placed}
use Rattle.isp_stable.specs.declared.stable.Stable.{Stable}
use Rattle.isp_stable.proofs.FileLaws.{file_same}
use Rattle.isp_frames.proofs.HeldLaws.{change_now, change_pins}
use Rattle.isp_frames.proofs.NowLaws.{IsLoading, changed_clean, loaded_clean, loaded_now, overwrite, pool_apart}
use Rattle.isp_frames.proofs.PageLaws.{pages_same}
use Rattle.isp_frames.proofs.PinLaws.{unpinned_set}

-- outside of what the log and pinned pages cover nothing differs, after other words for the same
covered_same : (region pins pins_now : Region) (before contents before_now contents_now : Contents) → Within pins pins_now → before_now ≡ before → contents_now ≡ contents
    → Agree (either region pins) before contents → Agree (either region pins_now) before_now contents_now
covered_same region pins pins_now before contents before_now contents_now within b c covered place out =
    let inner : either region pins place ≡ false = neither (region place) (pins place) (not_first (region place) (pins_now place) out) (within place (not_second (region place) (pins_now place) out)) in
    (λ i. b i place) ∙ covered place inner ∙ (λ i. sym c i place)

within_same : (pins pins_now : Region) → pins_now ≡ pins → Within pins pins_now
within_same pins pins_now same place out = (λ i. sym same i place) ∙ out

-- frames that are free hold nothing
pub none_held : (frames : List (Option Frame)) → ((i : ℕ) → frame_in frames i ≡ None) → held_pages frames ≡ []
none_held [] free = refl
none_held (None ∷ frames) free = none_held frames (λ i. free (suc i))
none_held (Some f ∷ frames) free = absurd (is_free (free 0))
  where
    is_free : frame_in (Some f ∷ frames) 0 ≡ None → ⊥
    is_free e = absurd (cc)

pub none_clean : (frames : List (Option Frame)) (placed : Contents) → ((i : ℕ) → frame_in frames i ≡ None) → AreClean frames placed
none_clean frames placed free i f e flag = let none : ◌≡◌ {A = Option Frame} None (Some f) = sym (free i) ∙ e in absurd (cc)

-- a page is loaded as it would be had its frame not been cleaned before
pub loaded_cleaned : (s : PoolState) (i : ℕ) (p : PageNo) (page : Page) → loaded (cleaned_at s i) i p page ≡ loaded s i p page
loaded_cleaned s i p page =
    let clean : Frame → Frame = λ f. record f { dirty = false } in
    ap (λ (frames : List (Option Frame)). let t : PoolState = record { frames = frames; recent = (loaded s i p page).recent } in t)
    (set-set s.frames i (option_map clean (frame_in s.frames i)) (Some (fresh_frame p page)))

module _ {W : Type 0} (g : Ghosts W) where
  -- free frames over a file
  abbrev pub free_cached : (s : Cache W) → IsFile g s.stable → AreFree s.pool → IsCached g s
  free_cached s file free = record {
    file = file;
    clean = none_clean s.pool.frames (placed g s.stable) free;
    covered = λ place out. sym (λ i. puts (none_held s.pool.frames free i) (placed g s.stable) place);
  }

  -- pages in their places as they were, frames that give the same contents over them, no fewer pinned pages, and the log's bytes
  pub stays_same : (old new : Cache W) (cached : IsCached g old) → HasBatches g new.stable cached.file.batches → placed g new.stable ≡ placed g old.stable
      → AreClean new.pool.frames (placed g old.stable) → Within (pinned_places old.pool.frames) (pinned_places new.pool.frames) → now_over new.pool.frames (placed g old.stable) ≡ now g old
      → SameIn log_place log_bytes (g.image old.stable.world) (g.image new.stable.world) → StaysCached g old new cached.file.batches
  stays_same old new cached has place clean pins same log =
      let contents : now g new ≡ now g old = ap (now_over new.pool.frames) place ∙ same in
      let made : IsCached g new = record {
        file = has.0;
        clean = subst (AreClean new.pool.frames) (sym place) clean;
        covered = subst (λ (batches : List (List Transaction)). Agree (either (cover (ranges_of batches)) (pinned_places new.pool.frames)) (placed g new.stable) (now g new)) (sym has.1)
            (covered_same (cover (ranges_of cached.file.batches)) (pinned_places old.pool.frames) (pinned_places new.pool.frames)
            (placed g old.stable) (now g old) (placed g new.stable) (now g new) pins place contents cached.covered);
      } in
      record {
        after = record { cached = made; same = has.1; stands = ap (puts (ranges_of cached.file.batches)) place; contents_are = contents };
        pages = pages_same (placed g old.stable) (now g old) (placed g new.stable) place;
        log = log;
      }

  -- nothing was done
  pub stays_still : (s : Cache W) (cached : IsCached g s) → StaysCached g s s cached.file.batches
  stays_still s cached = stays_same s s cached (cached.file, refl) refl cached.clean (λ place out. out) refl (λ place low high. refl)

  -- the page in a frame was used
  pub stays_used : (old new : Cache W) (cached : IsCached g old) (i : ℕ) → new.stable ≡ old.stable → new.pool ≡ used old.pool i → StaysCached g old new cached.file.batches
  stays_used old new cached i stable pool =
      let frames : old.pool.frames ≡ new.pool.frames = sym (ap (λ (s : PoolState). s.frames) pool) in
      stays_same old new cached (subst (λ (s : Stable W). HasBatches g s cached.file.batches) (sym stable) (cached.file, refl)) (ap (placed g) stable)
      (subst (λ (fs : List (Option Frame)). AreClean fs (placed g old.stable)) frames cached.clean) (within_same (pinned_places old.pool.frames) (pinned_places new.pool.frames) (ap pinned_places (sym frames)))
      (ap (λ (fs : List (Option Frame)). now_over fs (placed g old.stable)) (sym frames)) (λ place low high i. g.image (sym stable i).world place)

  -- the file was read, and nothing else
  pub stays_read : (old : Cache W) (read : Stable W) (cached : IsCached g old) → g.image read.world ≡ g.image old.stable.world → read.log ≡ old.stable.log → KeepsShape old.stable read
      → StaysCached g old (record old { stable = read }) cached.file.batches
  stays_read old read cached image log shape =
      stays_same old (record old { stable = read }) cached (file_same g old.stable read cached.file image log shape) (ap area image) cached.clean (λ place out. out) refl (λ place low high i. sym image i place)

  -- a page was read into a frame
  pub stays_loaded : (old new : Cache W) (cached : IsCached g old) (i : ℕ) (p : PageNo) (page : Page) → IsPool old.pool
      → g.image new.stable.world ≡ g.image old.stable.world → new.stable.log ≡ old.stable.log → KeepsShape old.stable new.stable
      → IsLoading old.pool.frames (placed g old.stable) i p page → is_pinned (frame_at old.pool i) ≡ false → new.pool ≡ loaded old.pool i p page → StaysCached g old new cached.file.batches
  stays_loaded old new cached i p page kept image log shape l flag pool =
      let apart = pool_apart old.pool kept in
      let frames : set old.pool.frames i (Some (fresh_frame p page)) ≡ new.pool.frames = sym (ap (λ (s : PoolState). s.frames) pool) in
      stays_same old new cached (file_same g old.stable new.stable cached.file image log shape) (ap area image)
      (subst (λ (fs : List (Option Frame)). AreClean fs (placed g old.stable)) frames (loaded_clean old.pool.frames (placed g old.stable) i p page cached.clean l))
      (within_same (pinned_places old.pool.frames) (pinned_places new.pool.frames) (ap pinned_places (sym frames) ∙ unpinned_set old.pool.frames i (fresh_frame p page) l.below flag refl))
      (ap (λ (fs : List (Option Frame)). now_over fs (placed g old.stable)) (sym frames) ∙ loaded_now old.pool.frames (placed g old.stable) i p page apart cached.clean l)
      (λ place low high j. sym image j place)

  -- bytes of a page were changed, where the log or a pinned page covers them
  pub changed_covered : (old new : Cache W) (cached : IsCached g old) (i at : ℕ) (bytes : List ℕ) (f : Frame) → IsPool old.pool → frame_at old.pool i ≡ Some f → at + length bytes ≤ 4096
      → Within (in_range (f.page.0 * page_bytes + at) (length bytes)) (either (cover (ranges_of cached.file.batches)) (pinned_places old.pool.frames)) → new.stable ≡ old.stable → new.pool ≡ changed old.pool i at bytes
      → CachesAs g old new cached.file.batches (put (now g old) (f.page.0 * page_bytes + at) bytes)
  changed_covered old new cached i at bytes f kept e fits within stable pool =
      let place = placed g old.stable in
      let frames : edited old.pool.frames i (overwrite at bytes) ≡ new.pool.frames = sym (ap (λ (s : PoolState). s.frames) pool) in
      let same : placed g new.stable ≡ place = ap (placed g) stable in
      let start = f.page.0 * page_bytes + at in
      let contents : now g new ≡ put (now g old) start bytes =
      ap (now_over new.pool.frames) same ∙ ap (λ (fs : List (Option Frame)). now_over fs place) (sym frames) ∙ change_now old.pool place i at bytes f kept e fits in
      let has : HasBatches g new.stable cached.file.batches = subst (λ (s : Stable W). HasBatches g s cached.file.batches) (sym stable) (cached.file, refl) in
      let pins : pinned_places new.pool.frames ≡ pinned_places old.pool.frames = ap pinned_places (sym frames) ∙ change_pins old.pool i at bytes f e in
      let log = cover (ranges_of cached.file.batches) in
      let covered : Agree (either log (pinned_places old.pool.frames)) place (put (now g old) start bytes) = λ spot out.
      cached.covered spot out ∙ sym (put_outside (now g old) start bytes spot (within spot out)) in
      record {
        cached = record {
          file = has.0;
          clean = subst (AreClean new.pool.frames) (sym same) (subst (λ (fs : List (Option Frame)). AreClean fs place) frames (changed_clean old.pool.frames place i at bytes f e cached.clean));
          covered = subst (λ (batches : List (List Transaction)). Agree (either (cover (ranges_of batches)) (pinned_places new.pool.frames)) (placed g new.stable) (now g new)) (sym has.1)
              (covered_same log (pinned_places old.pool.frames) (pinned_places new.pool.frames) place (put (now g old) start bytes) (placed g new.stable) (now g new)
              (within_same (pinned_places old.pool.frames) (pinned_places new.pool.frames) pins) same contents covered);
        };
        same = has.1;
        stands = ap (puts (ranges_of cached.file.batches)) same;
        contents_are = contents;
      }

  -- a batch of pages was written in place
  pub stays_gathered : (old new : Cache W) (cached : IsCached g old) (batch : List (PageNo × Page)) → HasWritten g (map whole_page batch) cached.file.batches old.stable new.stable
      → IsGathered old.pool.frames new.pool.frames (placed g old.stable) (cover (ranges_of cached.file.batches)) batch → StaysCached g old new cached.file.batches
  stays_gathered old new cached batch done gathered =
      let has = done.batches_are in
      let place = done.placed_are in
      let log = ranges_of cached.file.batches in
      let contents : now g new ≡ now g old = ap (now_over new.pool.frames) place ∙ gathered.contents in
      let made : IsCached g new = record {
        file = has.0;
        clean = subst (AreClean new.pool.frames) (sym place) gathered.clean;
        covered = subst (λ (batches : List (List Transaction)). Agree (either (cover (ranges_of batches)) (pinned_places new.pool.frames)) (placed g new.stable) (now g new)) (sym has.1)
            (λ spot out.
            let before : either (cover log) (pinned_places old.pool.frames) spot ≡ false = (λ i. cover log spot || sym gathered.pins i spot) ∙ out in
            (λ i. place i spot) ∙ sym (gathered.agree spot (not_first (cover log spot) (pinned_places old.pool.frames spot) before)) ∙ cached.covered spot before ∙ (λ i. sym contents i spot));
      } in
      record {
        after = record {
          cached = made;
          same = has.1;
          stands = ap (puts log) place ∙ mixes log (placed g old.stable) (puts (map whole_page batch) (placed g old.stable)) gathered.agree;
          contents_are = contents;
        };
        pages = subst (ArePagesOf (placed g old.stable) (now g old)) (sym place) gathered.pages;
        log = done.log_bytes_are;
      }
