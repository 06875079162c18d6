-- Frames whose pages are taken into a batch, one by one.
use Rattle.std.proofs.Common.{◌≡◌, ⊎_elim, ◌∙◌, ◌+◌, ◌<◌, ◌||◌, Bool, true, false, All, List, [], ◌∷◌, ◌++◌, ℕ, Option, Some, None, refl, sym, ap, subst, arith, length, map, get_or, set, length-append}
use Rattle.std.specs.List.{count_by}
use Rattle.std.proofs.lemmas.Bool.{false≢true, cases_Bool}
use Rattle.std.proofs.lemmas.List.{map_push}
use Rattle.std.proofs.lemmas.List.Elements.{All-append, All-cons, All-head, All-tail}
use Rattle.isp_disk.specs.Moments.{Agree, Region, either}
use Rattle.isp_doublewrite.specs.Batches.{number_of, whole_page}
use Rattle.isp_format.specs.Doublewrite.{AreDistinct}
use Rattle.isp_format.specs.Ranges.{Contents, Range, puts}
use Rattle.isp_format.proofs.Puts.{puts_append}
use Rattle.isp_frames.specs.Gathered.{AreCovered, IsCleanPage, IsGathered, IsTaken}
use Rattle.isp_frames.specs.Held.{AreApart, AreClean, IsCleaned, cleaned_at, now_over, numbered, pinned_places}
use Rattle.isp_format.specs.declared.page.Page.{Page}
use Rattle.isp_base.specs.declared.page_no.PageNo.{PageNo}
use Rattle.isp_pool.specs.declared.frames.Frame.{Frame}
use Rattle.isp_pool.specs.Frames.{IsPool, PoolState, edited, frame_at, frame_in, is_cleanable, is_dirty, is_pinned, one_if, page_of as page_in}
use Rattle.isp_pool.proofs.StateLaws.{dirty_after, none_dirty}
use Rattle.isp_frames.proofs.NowLaws.{cleaned_clean, edited_is, flagged_now, frame_below, in_place, in_place_now, number_is, pool_apart, set_cases, some_is}
use Rattle.isp_frames.proofs.KeptLaws.{cleaned_below, cleaned_none, cleaned_one, cleaned_twice, kept_pinned}
use Rattle.isp_frames.proofs.PageLaws.{pages_in_place, pages_same}
use Rattle.isp_frames.proofs.PinLaws.{covered_in_place, kept_pin}
use Rattle.isp_frames.proofs.UseOrder.{later_more, later_none}
use Rattle.isp_recency.specs.Recent.{last_where}
use Rattle.isp_stable.specs.File.{ArePagesOf}

abbrev clean_flag : Frame → Frame
clean_flag f = record f { dirty = false }

-- a page with its number, and the frame that has it
pub record IsFrom (o : Option Frame) (entry : PageNo × Page) : Type 0 where
  pub frame : Frame
  pub there : o ≡ Some frame
  pub same : entry ≡ (frame.page, frame.content)

pub numbered_by : (o : Option Frame) (entry : PageNo × Page) → Some entry ≡ numbered o → IsFrom o entry
numbered_by None entry e = absurd (cc)
numbered_by (Some f) entry e = record { frame = f; there = refl; same = some_is entry (f.page, f.content) e }

-- what pages in a batch leave of the contents

pub gathered_none : (frames : List (Option Frame)) (placed : Contents) (region : Region) → AreCovered frames placed region → IsGathered frames frames placed region []
gathered_none frames placed region c = record { clean = c.clean; contents = refl; agree = λ place out. refl; pins = refl; pages = pages_same placed (now_over frames placed) placed refl }

pub gathered_more : (old frames : List (Option Frame)) (placed : Contents) (region : Region) (batch : List (PageNo × Page)) (i : ℕ) (entry : PageNo × Page) → AreApart frames → Some entry ≡ numbered (frame_in frames i) → is_pinned (frame_in frames i) ≡ false
    → AreCovered old placed region → IsGathered old frames placed region batch → IsGathered old (edited frames i (λ f. record f { dirty = false })) placed region (batch ++ entry ∷ [])
gathered_more old frames placed region batch i entry apart has flag c g =
    let by = numbered_by (frame_in frames i) entry has in
    let f = by.frame in
    let unpinned : f.pinned ≡ false = ap is_pinned (sym by.there) ∙ flag in
    let before : Contents = puts (map whole_page batch) placed in
    let more : puts (map whole_page (batch ++ entry ∷ [])) placed ≡ in_place before f =
    ap (λ (ranges : List Range). puts ranges placed) (map_push whole_page batch entry)
    ∙ puts_append (map whole_page batch) (whole_page entry ∷ []) placed
    ∙ ap (λ (e : PageNo × Page). puts (whole_page e ∷ []) before) by.same in
    let covered : Agree (either region (pinned_places frames)) placed (now_over frames before) = λ place out.
    c.covered place ((λ j. region place || sym g.pins j place) ∙ out) ∙ (λ j. sym g.contents j place) in
    record {
      clean = subst (AreClean (edited frames i clean_flag)) (sym more) (cleaned_clean frames before i f apart by.there g.clean);
      contents =
          ap (now_over (edited frames i clean_flag)) more
          ∙ flagged_now frames (in_place before f) i f clean_flag by.there refl
          ∙ in_place_now frames before i f by.there
          ∙ g.contents;
      agree = subst (λ (now : Contents). Agree region placed now) (sym more) (covered_in_place frames region placed before apart i f by.there unpinned covered g.agree);
      pins = ap pinned_places (edited_is frames i f clean_flag by.there) ∙ kept_pin frames i f (clean_flag f) by.there refl refl ∙ g.pins;
      pages = subst (ArePagesOf placed (now_over old placed)) (sym more) (pages_in_place placed (now_over old placed) before frames i f apart by.there g.contents g.pages);
    }

-- pages that are taken, each once

distinct_more : (numbers : List ℕ) (n : ℕ) → AreDistinct numbers → All (λ other. (other ≡ n) → ⊥) numbers → AreDistinct (numbers ++ n ∷ [])
distinct_more [] n distinct new = ((λ k d inside. absurd (omega arith)), tt)
distinct_more (m ∷ numbers) n distinct new = (
  All-append (λ other. (m ≡ other) → ⊥) numbers (n ∷ []) distinct.0 (All-cons (λ other. (m ≡ other) → ⊥) n [] (All-head (λ other. (other ≡ n) → ⊥) m numbers new) (λ k d inside. absurd (omega arith))),
  distinct_more numbers n distinct.1 (All-tail (λ other. (other ≡ n) → ⊥) m numbers new),
)

pub taken_none : (s : PoolState) → IsTaken s s []
taken_none s =
    let up : count_by is_dirty s.frames + 0 ≡ count_by is_dirty s.frames = omega arith in
    record {
      cleaned = cleaned_none s;
      order = later_none s;
      count = up;
      clean = λ k d inside. absurd (omega arith);
      distinct = tt;
      below = λ pages below k d inside. absurd (omega arith);
      gathered = λ placed region c. gathered_none s.frames placed region c;
    }

pub taken_more : (old s : PoolState) (batch : List (PageNo × Page)) (i : ℕ) (entry : PageNo × Page) → IsPool s → Some entry ≡ numbered (frame_at s i) → is_dirty (frame_at s i) ≡ true → ((k : ℕ) → is_pinned (frame_at s k) ≡ false)
    → Some i ≡ last_where (λ k. is_cleanable (frame_at s k)) s.recent → IsTaken old s batch → IsTaken old (cleaned_at s i) (batch ++ entry ∷ [])
taken_more old s batch i entry pool has dirty unpinned next t =
    let by = numbered_by (frame_at s i) entry has in
    let f = by.frame in
    let numbers : List ℕ = map number_of batch in
    let more : map number_of (batch ++ entry ∷ []) ≡ numbers ++ number_of entry ∷ [] = map_push number_of batch entry in
    let number : number_of entry ≡ f.page.0 = ap number_of by.same in
    let lt = frame_below s.frames i f by.there in
    let set_is : edited s.frames i clean_flag ≡ set s.frames i (Some (clean_flag f)) = edited_is s.frames i f clean_flag by.there in
    let counted : count_by is_dirty (set s.frames i (Some (clean_flag f))) + 1 ≡ count_by is_dirty s.frames + 0 =
    ap (λ (b : Bool). count_by is_dirty (set s.frames i (Some (clean_flag f))) + one_if b) (sym dirty) ∙ dirty_after s.frames i (Some (clean_flag f)) lt in
    let counted_now : count_by is_dirty (edited s.frames i clean_flag) + 1 ≡ count_by is_dirty s.frames + 0 = ap (λ (fs : List (Option Frame)). count_by is_dirty fs + 1) set_is ∙ counted in
    let long : length (batch ++ entry ∷ []) ≡ length batch + 1 = length-append batch (entry ∷ []) in
    let so_far = t.count in
    let still : (page : ℕ) → IsCleanPage s.frames page → IsCleanPage (edited s.frames i clean_flag) page = λ page clean k h there same.
    ⊎_elim (λ mine. ap (λ (x : Frame). x.dirty) (sym mine.1)) (λ other. clean k h other.1 same)
    (set_cases s.frames i (clean_flag f) lt k h (ap (λ (fs : List (Option Frame)). frame_in fs k) (sym set_is) ∙ there)) in
    let its : IsCleanPage (edited s.frames i clean_flag) (number_of entry) = λ k h there same.
    ⊎_elim (λ mine. ap (λ (x : Frame). x.dirty) (sym mine.1))
    (λ other. absurd (other.0 (pool.distinct k i f.page (ap page_in other.1 ∙ ap Some (number_is h.page f.page (same ∙ number))) (ap page_in by.there))))
    (set_cases s.frames i (clean_flag f) lt k h (ap (λ (fs : List (Option Frame)). frame_in fs k) (sym set_is) ∙ there)) in
    record {
      cleaned = cleaned_twice old s (cleaned_at s i) t.cleaned (cleaned_one s i f by.there);
      order = later_more old s i pool t.cleaned unpinned (sym next) t.order;
      count = omega arith;
      clean = subst (λ (ns : List ℕ). All (IsCleanPage (edited s.frames i clean_flag)) ns) (sym more)
          (All-append (IsCleanPage (edited s.frames i clean_flag)) numbers (number_of entry ∷ []) (λ k d inside. still (get_or numbers k d) (t.clean k d inside))
          (All-cons (IsCleanPage (edited s.frames i clean_flag)) (number_of entry) [] its (λ k d inside. absurd (omega arith))));
      distinct = subst AreDistinct (sym more)
          (distinct_more numbers (number_of entry) t.distinct
          (λ k d inside same. false≢true (sym (t.clean k d inside i f by.there (sym (same ∙ number))) ∙ ap is_dirty (sym by.there) ∙ dirty)));
      below = λ pages below. subst (λ (ns : List ℕ). All (λ page. page < pages) ns) (sym more)
          (All-append (λ page. page < pages) numbers (number_of entry ∷ []) (t.below pages below)
          (All-cons (λ page. page < pages) (number_of entry) [] (subst (λ n. n < pages) (sym number) (cleaned_below old s pages t.cleaned below i f by.there)) (λ k d inside. absurd (omega arith))));
      gathered = λ placed region c. gathered_more old.frames s.frames placed region batch i entry (pool_apart s pool) has (unpinned i) c (t.gathered placed region c);
    }

-- one page alone
pub gathered_one : (s : PoolState) (placed : Contents) (region : Region) (i : ℕ) (entry : PageNo × Page) → IsPool s → Some entry ≡ numbered (frame_at s i) → is_pinned (frame_at s i) ≡ false → AreCovered s.frames placed region
    → IsGathered s.frames (cleaned_at s i).frames placed region (entry ∷ [])
gathered_one s placed region i entry pool has flag c =
    gathered_more s.frames s.frames placed region [] i entry (pool_apart s pool) has flag c (gathered_none s.frames placed region c)

-- where no dirty frame is left but pinned ones, and none is pinned, all dirty pages were taken
pub none_left : (old s : PoolState) → IsCleaned old s → ((i : ℕ) → is_pinned (frame_at old i) ≡ false) → ((i : ℕ) → is_dirty (frame_at s i) ≡ true → is_pinned (frame_at s i) ≡ true) → count_by is_dirty s.frames ≡ 0
none_left old s cleaned unpinned left = none_dirty s.frames (λ i.
    ⊎_elim (λ dirty. absurd (false≢true (sym (unpinned i) ∙ sym (kept_pinned (frame_at s i) (frame_at old i) (cleaned.frames i)) ∙ left i dirty)))
    (λ clean. clean) (cases_Bool (is_dirty (frame_at s i))))
