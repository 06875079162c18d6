-- A cache while the ranges of the log are put into its pages, over any world.
use Rattle.std.proofs.Common.{◌≡◌, ◌∙◌, ◌+◌, ◌*◌, ◌<◌, ◌≤◌, ◌||◌, false, All, List, [], ◌∷◌, ◌++◌, ℕ, suc, Ok, Option, Some, None, refl, sym, ap, subst, arith, length, length-append}
use Rattle.std.specs.List.{count_by, flat_map}
use Rattle.std.specs.Prelude.{vec_capacity}
use Rattle.std.proofs.Math.Seq.{get_or-append_seam}
use Rattle.std.proofs.lemmas.List.{append-nil, append_assoc}
use Rattle.std.proofs.lemmas.List.Elements.{All-append}
use Rattle.isp_disk.specs.Moments.{Image, Quiet, Within, either, in_range, put}
use Rattle.isp_disk.specs.declared.world.Failed.{Failed}
use Rattle.isp_disk.specs.declared.world.World.{Ghosts}
use Rattle.isp_disk.proofs.PhaseLaws.{calls_on}
use Rattle.isp_format.specs.Contents.{StandsFor, ranges_of}
use Rattle.isp_format.specs.Log.{IsLog, Transaction, log_bytes, log_of, log_place}
use Rattle.isp_format.specs.Ranges.{Contents, IsRange, Range, SameIn, cover, page_bytes, place_of as start_of, puts}
use Rattle.isp_format.proofs.Places.{not_first, not_second}
use Rattle.isp_format.proofs.Puts.{cover_append, puts_append}
use Rattle.isp_frames.specs.Cached.{CachesAs, IsCached, IsSteady, PutsBytes, StaysCached, now, with_pool, with_stable}
use Rattle.isp_frames.specs.Held.{AreBelow, AreFree, NonePinned, pinned_places}
use Rattle.isp_frames.specs.declared.cache.Cache.{Cache}
use Rattle.isp_frames.proofs.CacheLaws.{changed_covered, free_cached, none_held, stays_read}
use Rattle.isp_frames.proofs.NowLaws.{overwrite}
use Rattle.isp_frames.proofs.StayLaws.{shape_twice}
use Rattle.isp_pool.proofs.StateLaws.{edited_count}
use Rattle.isp_base.specs.declared.page_no.PageNo.{PageNo}
use Rattle.isp_pool.specs.Frames.{IsPool, PoolState, changed, frame_at, is_pinned}
use Rattle.isp_redo.specs.Places.{IsAt, place_of}
use Rattle.isp_redo.proofs.PlaceLaws.{begins_at}
use Rattle.isp_replay.specs.Putting.{IsPut, IsReady, KeepsFrames}
use Rattle.isp_replay.proofs.LogBytes.{ahead_same, place_inside, same_bytes}
use Rattle.isp_replay.proofs.PoolAfter.{IsHeld, changed_below, changed_unpinned, fewer_pinned, frame_held, held_count, held_unpinned}
use Rattle.isp_stable.specs.File.{IsFile, KeepsShape, ReadsStable, StandsOnly, flushed, placed}
use Rattle.isp_stable.specs.declared.stable.Stable.{Stable}
use Rattle.isp_stable.proofs.FileLaws.{stands, stands_on, stands_weaker}

-- all ranges of a log are ranges of the file

ranges_fit : (pages : ℕ) (transactions : List Transaction) → All (λ ranges. (length ranges < 65536) × All (IsRange pages) ranges) transactions → All (IsRange pages) (flat_map (λ ranges. ranges) transactions)
ranges_fit pages [] each = λ k d inside. absurd (omega (arith, inside))
ranges_fit pages (first ∷ others) each =
    All-append (IsRange pages) first (flat_map (λ ranges. ranges) others) (each 0 first (omega arith)).1
    (ranges_fit pages others (λ k d inside. each (suc k) d (omega (arith, inside))))

pub all_fit : (pages : ℕ) (log : Image) (at : ℕ) (batches : List (List Transaction)) (end : ℕ) → IsLog pages log at batches end → All (IsRange pages) (ranges_of batches)
all_fit pages log at [] end is = λ k d inside. absurd (omega (arith, inside))
all_fit pages log at (batch ∷ batches) end (next, is, rest) =
    All-append (IsRange pages) (flat_map (λ ranges. ranges) batch) (ranges_of batches) (ranges_fit pages batch is.means.each) (all_fit pages log next batches end rest)

-- one range among others
pub one_fits : (pages : ℕ) (all done rest : List Range) (range : Range) → all ≡ done ++ range ∷ rest → All (IsRange pages) all → IsRange pages range
one_fits pages all done rest range are fit =
    let long : length (done ++ range ∷ rest) ≡ length done + suc (length rest) = length-append done (range ∷ rest) in
    subst (IsRange pages) (get_or-append_seam done range rest range)
    ((subst (All (IsRange pages)) are fit) (length done) range (omega (arith, long)))

pub one_covered : (all done rest : List Range) (range : Range) → all ≡ done ++ range ∷ rest → Within (in_range (start_of range) (length range.bytes)) (cover all)
one_covered all done rest range are place out =
    let its = in_range (start_of range) (length range.bytes) place in
    let parts : (cover done place || (its || cover rest place)) ≡ false = sym (cover_append done (range ∷ rest) place) ∙ (λ i. cover (sym are i) place) ∙ out in
    not_first its (cover rest place) (not_second (cover done place) (its || cover rest place) parts)

module _ {W : Type 0} (g : Ghosts W) where
  -- before the first range was put
  pub none_put : (s : Cache W) (file : IsFile g s.stable) → AreFree s.pool → IsPut g (placed g s.stable) file.batches s (Some 0)
  none_put s file free = record {
    done = [];
    ahead = ranges_of file.batches;
    ranges_are = refl;
    lie_ahead = begins_at s.stable.pages (log_of (g.image s.stable.world)) file.batches s.stable.log.end file.log;
    cached = free_cached g s file free;
    same = refl;
    stands = refl;
    contents = ap (λ (ranges : List Range). puts ranges (placed g s.stable)) (none_held s.pool.frames free);
  }

  -- what the file stands for while ranges are put
  stood : (before : Contents) (batches : List (List Transaction)) (s : Cache W) (next : Option ℕ) (so_far : IsPut g before batches s next) → flushed g s.stable so_far.cached.file.batches ≡ puts (ranges_of batches) before
  stood before batches s next so_far = ap (flushed g s.stable) so_far.same ∙ so_far.stands

  pub as_stood : (before : Contents) (batches : List (List Transaction)) (s : Cache W) (next : Option ℕ) (new : W) (so_far : IsPut g before batches s next)
      → StandsOnly g s.stable new (λ left. left ≡ flushed g s.stable so_far.cached.file.batches) → StandsOnly g s.stable new (λ left. left ≡ puts (ranges_of batches) before)
  as_stood before batches s next new so_far only = stands_weaker g s.stable new _ _ (λ left is. is ∙ stood before batches s next so_far) only

  -- what it stands for after a call that keeps the cache
  still_stands : (before : Contents) (batches : List (List Transaction)) (old new : Cache W) (next : Option ℕ) (so_far : IsPut g before batches old next) (stays : StaysCached g old new so_far.cached.file.batches)
      → flushed g new.stable stays.after.cached.file.batches ≡ puts (ranges_of batches) before
  still_stands before batches old new next so_far stays = ap (flushed g new.stable) stays.after.same ∙ stays.after.stands ∙ stood before batches old next so_far

  -- the range that lay ahead was put
  pub one_put : (before : Contents) (batches : List (List Transaction)) (old read new : Cache W) (from next : ℕ) (so_far : IsPut g before batches old (Some from)) (stays : StaysCached g old read so_far.cached.file.batches)
      (range : Range) (rest : List Range) → so_far.ahead ≡ range ∷ rest → CachesAs g read new stays.after.cached.file.batches (put (now g read) (start_of range) range.bytes)
      → IsAt new.stable.pages (log_of (g.image new.stable.world)) (place_of next) rest → IsPut g before batches new (Some next)
  one_put before batches old read new from next so_far stays range rest first puts_it at =
      let batches_are : stays.after.cached.file.batches ≡ batches = stays.after.same ∙ so_far.same in
      record {
        done = so_far.done ++ range ∷ [];
        ahead = rest;
        ranges_are = so_far.ranges_are ∙ ap (λ (ahead : List Range). so_far.done ++ ahead) first ∙ sym (append_assoc so_far.done (range ∷ []) rest);
        lie_ahead = at;
        cached = puts_it.cached;
        same = puts_it.same ∙ batches_are;
        stands = ap (flushed g new.stable) (sym batches_are) ∙ puts_it.stands ∙ still_stands before batches old read (Some from) so_far stays;
        contents =
            puts_it.contents_are
            ∙ ap (λ (contents : Contents). put contents (start_of range) range.bytes) (stays.after.contents_are ∙ so_far.contents)
            ∙ sym (puts_append so_far.done (range ∷ []) before);
      }

  -- no range lies ahead
  pub all_put : (before : Contents) (batches : List (List Transaction)) (old new : Cache W) (from : ℕ) (so_far : IsPut g before batches old (Some from)) → so_far.ahead ≡ [] → StaysCached g old new so_far.cached.file.batches → IsPut g before batches new None
  all_put before batches old new from so_far none stays = record {
    done = so_far.done;
    ahead = so_far.ahead;
    ranges_are = so_far.ranges_are;
    lie_ahead = none;
    cached = stays.after.cached;
    same = stays.after.same ∙ so_far.same;
    stands = ap (flushed g new.stable) (sym (stays.after.same ∙ so_far.same)) ∙ still_stands before batches old new (Some from) so_far stays;
    contents = stays.after.contents_are ∙ so_far.contents;
  }

  -- then the contents now are those that the file stands for
  pub put_now : (before : Contents) (batches : List (List Transaction)) (s : Cache W) → IsPut g before batches s None → now g s ≡ puts (ranges_of batches) before
  put_now before batches s is =
      let all : ranges_of batches ≡ is.done = is.ranges_are ∙ ap (λ (ahead : List Range). is.done ++ ahead) is.lie_ahead ∙ append-nil is.done in
      is.contents ∙ ap (λ (ranges : List Range). puts ranges before) (sym all)

  -- and the file stands for them
  pub put_stands : (before : Contents) (batches : List (List Transaction)) (s : Cache W) → IsPut g before batches s None → StandsFor (g.image s.stable.world) (now g s)
  put_stands before batches s is = subst (StandsFor (g.image s.stable.world)) (stood before batches s None is ∙ sym (put_now before batches s is)) (stands g s.stable is.cached.file)

  -- the same ranges lie ahead after a read, and after pages were written in place
  pub then_at : (old new : Stable W) (next : ℕ) (rest : List Range) → KeepsShape old new → SameIn log_place log_bytes (g.image old.world) (g.image new.world)
      → IsAt old.pages (log_of (g.image old.world)) (place_of next) rest → IsAt new.pages (log_of (g.image new.world)) (place_of next) rest
  then_at old new next rest shape same at =
      subst (λ (pages : ℕ). IsAt pages (log_of (g.image new.world)) (place_of next) rest) (sym shape.pages)
      (ahead_same old.pages (log_of (g.image old.world)) (log_of (g.image new.world)) (place_of next) rest (same_bytes (g.image old.world) (g.image new.world) same) (place_inside next) at)

  -- what a stop leaves while a range is read and put
  pub put_stops : (before : Contents) (batches : List (List Transaction)) (old read : Cache W) (new : W) (from : ℕ) (so_far : IsPut g before batches old (Some from)) (stays : StaysCached g old read so_far.cached.file.batches)
      → KeepsShape old.stable read.stable → g.printed read.stable.world ≡ g.printed old.stable.world → StandsOnly g old.stable read.stable.world (λ left. left ≡ flushed g old.stable so_far.cached.file.batches)
      → StandsOnly g read.stable new (λ left. left ≡ flushed g read.stable stays.after.cached.file.batches) → StandsOnly g old.stable new (λ left. left ≡ puts (ranges_of batches) before)
  put_stops before batches old read new from so_far stays shape printed first second =
      stands_on g old.stable read.stable new (λ left. left ≡ puts (ranges_of batches) before) shape printed (as_stood before batches old (Some from) read.stable.world so_far first)
      (stands_weaker g read.stable new _ _ (λ left is. is ∙ still_stands before batches old read (Some from) so_far stays) second)

  -- bytes that the log covers were put into a page that had come into a frame
  pub bytes_put : (old mid new : Cache W) (cached : IsCached g old) (i at : ℕ) (p : PageNo) (bytes : List ℕ) → StaysCached g old mid cached.file.batches → IsPool mid.pool → IsHeld (frame_at mid.pool i) p → at + length bytes ≤ 4096
      → Within (in_range (p.0 * page_bytes + at) (length bytes)) (cover (ranges_of cached.file.batches)) → new.stable ≡ mid.stable → new.pool ≡ changed mid.pool i at bytes
      → CachesAs g old new cached.file.batches (put (now g old) (p.0 * page_bytes + at) bytes)
  bytes_put old mid new cached i at p bytes stays pool held fits within stable change =
      let f = held.frame in
      let keeps = stays.after in
      let start : f.page.0 * page_bytes + at ≡ p.0 * page_bytes + at = ap (λ (q : PageNo). q.0 * page_bytes + at) held.page in
      let log = cover (ranges_of keeps.cached.file.batches) in
      let widely : Within (in_range (f.page.0 * page_bytes + at) (length bytes)) (either log (pinned_places mid.pool.frames)) = λ place out.
      (λ j. in_range (start j) (length bytes) place)
      ∙ within place ((λ j. cover (ranges_of (sym keeps.same j)) place) ∙ not_first (log place) (pinned_places mid.pool.frames place) out) in
      let made = changed_covered g mid new keeps.cached i at bytes f pool held.there fits widely stable change in
      record {
        cached = made.cached;
        same = made.same ∙ keeps.same;
        stands = subst (λ (batches : List (List Transaction)). flushed g new.stable batches ≡ flushed g mid.stable batches) keeps.same made.stands ∙ keeps.stands;
        contents_are = made.contents_are ∙ (λ j. put (keeps.contents_are j) (start j) bytes);
      }

  -- the same, printed by the range
  pub found_put : (old new : Cache W) (batches : List (List Transaction)) (range : Range) (page at : ℕ) (bytes : List ℕ) → page ≡ range.page → at ≡ range.at → bytes ≡ range.bytes
      → CachesAs g old new batches (put (now g old) (page * page_bytes + at) bytes) → CachesAs g old new batches (put (now g old) (start_of range) range.bytes)
  found_put old new batches range page at bytes page_is at_is bytes_are is =
      let start : page * page_bytes + at ≡ start_of range = λ i. page_is i * page_bytes + at_is i in
      record { cached = is.cached; same = is.same; stands = is.stands; contents_are = is.contents_are ∙ (λ i. put (now g old) (start i) (bytes_are i)) }

  -- the range that lies ahead is one of the file's
  pub it_fits : (before : Contents) (batches : List (List Transaction)) (s : Cache W) (from : ℕ) (so_far : IsPut g before batches s (Some from)) (range : Range) (rest : List Range) → so_far.ahead ≡ range ∷ rest → IsRange s.stable.pages range
  it_fits before batches s from so_far range rest first =
      let file = so_far.cached.file in
      one_fits s.stable.pages (ranges_of file.batches) so_far.done rest range (ap ranges_of so_far.same ∙ so_far.ranges_are ∙ ap (λ (ahead : List Range). so_far.done ++ ahead) first)
      (all_fit s.stable.pages (log_of (g.image s.stable.world)) 0 file.batches s.stable.log.end file.log)

  -- and the log covers it
  pub it_is_covered : (before : Contents) (batches : List (List Transaction)) (old read : Cache W) (from : ℕ) (so_far : IsPut g before batches old (Some from)) (stays : StaysCached g old read so_far.cached.file.batches)
      (range : Range) (rest : List Range) → so_far.ahead ≡ range ∷ rest → (page at : ℕ) (bytes : List ℕ) → page ≡ range.page → at ≡ range.at → bytes ≡ range.bytes
      → Within (in_range (page * page_bytes + at) (length bytes)) (cover (ranges_of stays.after.cached.file.batches))
  it_is_covered before batches old read from so_far stays range rest first page at bytes page_is at_is bytes_are place out =
      let start : page * page_bytes + at ≡ start_of range = λ i. page_is i * page_bytes + at_is i in
      let all : ranges_of stays.after.cached.file.batches ≡ so_far.done ++ range ∷ rest = ap ranges_of (stays.after.same ∙ so_far.same) ∙ so_far.ranges_are ∙ ap (λ (ahead : List Range). so_far.done ++ ahead) first in
      (λ i. in_range (start i) (length (bytes_are i)) place) ∙ one_covered (ranges_of stays.after.cached.file.batches) so_far.done rest range all place out

  -- the cache once a range was read
  pub stays_reading : (old mid : Cache W) (cached : IsCached g old) → mid ≡ with_stable old mid.stable → g.image mid.stable.world ≡ g.image old.stable.world → mid.stable.log ≡ old.stable.log → KeepsShape old.stable mid.stable
      → StaysCached g old mid cached.file.batches
  stays_reading old mid cached others image log shape = subst (λ (t : Cache W). StaysCached g old t cached.file.batches) (sym others) (stays_read g old mid.stable cached image log shape)

  pub steady_reading : (old mid : Cache W) → IsReady g old → (g.tells → IsCached g old) → mid ≡ with_stable old mid.stable → Quiet (g.pending mid.stable.world) → g.image mid.stable.world ≡ g.image old.stable.world → mid.stable.log ≡ old.stable.log
      → KeepsShape old.stable mid.stable → IsSteady g mid
  steady_reading old mid ready cached others quiet image log shape = record {
    quiet = quiet;
    below = subst (λ (s : PoolState). AreBelow mid.stable.pages s.frames) (sym (ap (λ (t : Cache W). t.pool) others))
        (subst (λ (pages : ℕ). AreBelow pages old.pool.frames) (sym shape.pages) ready.below);
    cached = λ tells. (stays_reading old mid (cached tells) others image log shape).after.cached;
  }

  pub unpinned_reading : (old mid : Cache W) → IsReady g old → mid ≡ with_stable old mid.stable → count_by is_pinned mid.pool.frames < length mid.pool.frames
  unpinned_reading old mid ready others =
      subst (λ (s : PoolState). count_by is_pinned s.frames < length s.frames) (sym (ap (λ (t : Cache W). t.pool) others)) (fewer_pinned old.pool ready.unpinned ready.some)

  -- and once it was put
  pub range_put : (before : Contents) (batches : List (List Transaction)) (old mid new : Cache W) (from next : ℕ) (so_far : IsPut g before batches old (Some from)) (stays : StaysCached g old mid so_far.cached.file.batches) → KeepsShape old.stable mid.stable
      → (range : Range) (rest : List Range) → so_far.ahead ≡ range ∷ rest → (p : PageNo) (at : ℕ) (bytes : List ℕ) → p.0 ≡ range.page → at ≡ range.at → bytes ≡ range.bytes → at + length bytes ≤ 4096
      → PutsBytes g p at bytes mid new → IsAt old.stable.pages (log_of (g.image old.stable.world)) (place_of next) rest → g.tells → IsPut g before batches new (Some next)
  range_put before batches old mid new from next so_far stays shape range rest first p at bytes page_is at_is bytes_are fits did ahead tells =
      let held = did.held in
      let after = with_pool held (changed held.pool did.frame at bytes) in
      let kept = did.kept.stays tells stays.after.cached in
      let covered = it_is_covered before batches old mid from so_far stays range rest first p.0 at bytes page_is at_is bytes_are in
      subst (λ (t : Cache W). IsPut g before batches t (Some next)) (sym did.new_is)
      (one_put before batches old mid after from next so_far stays range rest first
      (found_put mid after stays.after.cached.file.batches range p.0 at bytes page_is at_is bytes_are
      (bytes_put mid held after stays.after.cached did.frame at p bytes kept did.frames (frame_held p did.frame mid.pool held.pool did.is_held) fits covered refl refl))
      (then_at old.stable held.stable next rest (shape_twice g old.stable mid.stable held.stable shape did.kept.file.stable.shape)
      (λ place low high. stays.log place low high ∙ kept.log place low high) ahead))

  -- what a stop within that leaves
  pub stops_change : (mid new : Cache W) (p : PageNo) (at : ℕ) (bytes : List ℕ) → PutsBytes g p at bytes mid new → g.tells → (cached : IsCached g mid)
      → StandsOnly g mid.stable new.stable.world (λ left. left ≡ flushed g mid.stable cached.file.batches)
  stops_change mid new p at bytes did tells cached =
      subst (λ (t : Cache W). StandsOnly g mid.stable t.stable.world (λ left. left ≡ flushed g mid.stable cached.file.batches)) (sym did.new_is) (did.kept.stops tells cached)

  -- what stays of the cache
  pub keeps_put : {A T : Type 0} (old mid new : Cache W) (p : PageNo) (at : ℕ) (bytes : List ℕ) (a : A) (t : T) → IsReady g old → mid ≡ with_stable old mid.stable → ReadsStable {T = A} {E = Failed} g old.stable mid.stable (Ok a) → PutsBytes g p at bytes mid new
      → KeepsFrames g {T = T} old new (Ok t)
  keeps_put old mid new p at bytes a t ready others reads did =
      let held = did.held in
      let pool : mid.pool ≡ old.pool = ap (λ (c : Cache W). c.pool) others in
      let batch : vec_capacity mid.batch ≡ vec_capacity old.batch = ap (λ (c : Cache W). vec_capacity c.batch) others in
      let there = frame_held p did.frame mid.pool held.pool did.is_held in
      let calls = calls_on g old.stable.world mid.stable.world held.stable.world a (Ok did.frame) reads.reads.calls did.kept.file.stable.calls in
      let unpinned : NonePinned mid.pool = subst NonePinned (sym pool) ready.unpinned in
      let count : length (changed held.pool did.frame at bytes).frames ≡ length old.pool.frames =
      edited_count held.pool did.frame (overwrite at bytes) ∙ held_count p did.frame mid.pool held.pool did.is_held ∙ ap (λ (s : PoolState). length s.frames) pool in
      subst (λ (c : Cache W). KeepsFrames g old c (Ok t)) (sym did.new_is) (record {
        calls = record { printed = calls.printed; printer = calls.printer; cause = record { later = calls.cause.later; steady = calls.cause.steady; failed = tt } };
        shape = shape_twice g old.stable mid.stable held.stable reads.shape did.kept.file.stable.shape;
        room = did.kept.file.room ∙ batch;
        ready = record {
          quiet = did.kept.file.steady.quiet;
          below = changed_below held.pool did.frame at bytes p held.stable.pages there did.kept.file.steady.below;
          unpinned = changed_unpinned held.pool did.frame at bytes p there (held_unpinned p did.frame mid.pool held.pool did.is_held unpinned);
          some = omega (arith, count, ready.some);
        };
        count = count;
      })
