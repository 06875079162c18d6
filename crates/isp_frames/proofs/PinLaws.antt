-- The places of pinned pages, and how many frames are pinned, after each call of the pool.
use Rattle.std.proofs.Common.{◌≡◌, ⊎_elim, ◌∙◌, ◌+◌, ◌-◌, ◌*◌, ◌<◌, ◌||◌, Bool, true, false, cond, List, [], ◌∷◌, ℕ, zero, suc, Option, Some, None, refl, sym, ap, arith, length, set}
use Rattle.std.specs.List.{count_by}
use Rattle.std.specs.Prelude.{slice_index}
use Rattle.std.proofs.lemmas.Bool.{false≢true, cases_eq, cases_Bool, or_cases}
use Rattle.std.proofs.lemmas.List.Sums.{sum_by-set, sum_by-cons}
use Rattle.isp_disk.specs.Moments.{Agree, Region, either}
use Rattle.isp_format.specs.Ranges.{Contents, page_bytes, place_of}
use Rattle.isp_format.proofs.Places.{neither}
use Rattle.isp_format.proofs.Slices.{put_inside, put_outside}
use Rattle.isp_pool.specs.declared.frames.Frame.{Frame}
use Rattle.isp_pool.specs.Frames.{frame_in, is_pinned, one_if}
use Rattle.isp_frames.specs.Held.{AreApart, now_over, page_places, pinned_places, whole_frame}
use Rattle.isp_frames.proofs.NowLaws.{frame_below, in_place, now_held, one_frame, range_is, same_page, set_away, set_cases, set_here, some_is}

-- one frame more
abbrev pins : Bool → Region → Region → Region
pins true first rest = either first rest
pins false first rest = rest

pins_at : (b : Bool) (f : Frame) (frames : List (Option Frame)) → pinned_places (Some (record f { pinned = b }) ∷ frames) ≡ pins b (page_places f.page.0) (pinned_places frames)
pins_at true f frames = refl
pins_at false f frames = refl

pins_are : (f : Frame) (frames : List (Option Frame)) → pinned_places (Some f ∷ frames) ≡ pins f.pinned (page_places f.page.0) (pinned_places frames)
pins_are f frames = pins_at f.pinned f frames

-- a pinned frame holds the page of the place
pub record IsPinnedAt (frames : List (Option Frame)) (place : ℕ) : Type 0 where
  pub at : ℕ
  pub frame : Frame
  pub there : frame_in frames at ≡ Some frame
  pub pinned : frame.pinned ≡ true
  pub has : page_places frame.page.0 place ≡ true

pinned_more : (o : Option Frame) (frames : List (Option Frame)) (place : ℕ) → IsPinnedAt frames place → IsPinnedAt (o ∷ frames) place
pinned_more o frames place w = record { at = suc w.at; frame = w.frame; there = w.there; pinned = w.pinned; has = w.has }

first_pinned : (f : Frame) (frames : List (Option Frame)) (place : ℕ) (b : Bool) → f.pinned ≡ b → pins b (page_places f.page.0) (pinned_places frames) place ≡ true
    → (pinned_places frames place ≡ true → IsPinnedAt frames place) → IsPinnedAt (Some f ∷ frames) place
first_pinned f frames place true flag some rest =
    ⊎_elim (λ first. record { at = zero; frame = f; there = refl; pinned = flag; has = first }) (λ more. pinned_more (Some f) frames place (rest more))
    (or_cases (page_places f.page.0 place) (pinned_places frames place) some)
first_pinned f frames place false flag some rest = pinned_more (Some f) frames place (rest some)

pub pinned_by : (frames : List (Option Frame)) (place : ℕ) → pinned_places frames place ≡ true → IsPinnedAt frames place
pinned_by [] place is = absurd (false≢true is)
pinned_by (None ∷ frames) place is = pinned_more None frames place (pinned_by frames place is)
pinned_by (Some f ∷ frames) place is =
    first_pinned f frames place f.pinned refl (sym (λ i. pins_are f frames i place) ∙ is) (λ more. pinned_by frames place more)

more_places : (b : Bool) (first rest : Region) (place : ℕ) → rest place ≡ true → pins b first rest place ≡ true
more_places true first rest place is = either_second (first place) (rest place) is
  where
    either_second : (x y : Bool) → y ≡ true → (x || y) ≡ true
    either_second true y is = refl
    either_second false y is = is
more_places false first rest place is = is

pub pinned_there : (frames : List (Option Frame)) (place i : ℕ) (f : Frame) → frame_in frames i ≡ Some f → f.pinned ≡ true → page_places f.page.0 place ≡ true → pinned_places frames place ≡ true
pinned_there [] place i f e flag is = absurd (cc)
pinned_there (None ∷ frames) place zero f e flag is = absurd (cc)
pinned_there (None ∷ frames) place (suc i) f e flag is = pinned_there frames place i f e flag is
pinned_there (Some g ∷ frames) place zero f e flag is =
    let same : g ≡ f = some_is g f e in
    (λ i. pins_are g frames i place)
    ∙ (λ i. pins (same i).pinned (page_places (same i).page.0) (pinned_places frames) place)
    ∙ (λ i. pins (flag i) (page_places f.page.0) (pinned_places frames) place)
    ∙ (λ i. is i || pinned_places frames place)
pinned_there (Some g ∷ frames) place (suc i) f e flag is =
    (λ i. pins_are g frames i place) ∙ more_places g.pinned (page_places g.page.0) (pinned_places frames) place (pinned_there frames place i f e flag is)

-- two lists of frames whose pinned pages are the same
abbrev pub ArePinnedIn : List (Option Frame) → List (Option Frame) → Type 0
ArePinnedIn one other = (place : ℕ) → IsPinnedAt one place → IsPinnedAt other place

same_bit : (b c : Bool) → (b ≡ true → c ≡ true) → (c ≡ true → b ≡ true) → b ≡ c
same_bit true c there back = sym (there refl)
same_bit false true there back = back refl
same_bit false false there back = refl

pub pinned_same : (one other : List (Option Frame)) → ArePinnedIn one other → ArePinnedIn other one → pinned_places one ≡ pinned_places other
pinned_same one other there back = λ i place. at place i
  where
    at : (place : ℕ) → pinned_places one place ≡ pinned_places other place
    at place =
        same_bit (pinned_places one place) (pinned_places other place)
        (λ is. let w = there place (pinned_by one place is) in pinned_there other place w.at w.frame w.there w.pinned w.has)
        (λ is. let w = back place (pinned_by other place is) in pinned_there one place w.at w.frame w.there w.pinned w.has)

-- an unpinned page came into a frame of another unpinned one, or into a free one
pub unpinned_set : (frames : List (Option Frame)) (i : ℕ) (g : Frame) → i < length frames → is_pinned (frame_in frames i) ≡ false → g.pinned ≡ false → pinned_places (set frames i (Some g)) ≡ pinned_places frames
unpinned_set frames i g lt was is =
    pinned_same (set frames i (Some g)) frames
    (λ place w.
    ⊎_elim (λ mine. absurd (false≢true (sym is ∙ ap (λ (x : Frame). x.pinned) mine.1 ∙ w.pinned)))
    (λ other. record { at = w.at; frame = w.frame; there = other.1; pinned = w.pinned; has = w.has }) (set_cases frames i g lt w.at w.frame w.there))
    (λ place w.
    let away : w.at ≡ i → ⊥ = λ same. false≢true (sym was ∙ ap (λ n. is_pinned (frame_in frames n)) (sym same) ∙ ap is_pinned w.there ∙ w.pinned) in
    record { at = w.at; frame = w.frame; there = set_away frames i g w.at away ∙ w.there; pinned = w.pinned; has = w.has })

-- a frame keeps its page and its pin
pub kept_pin : (frames : List (Option Frame)) (i : ℕ) (f g : Frame) → frame_in frames i ≡ Some f → g.page ≡ f.page → g.pinned ≡ f.pinned → pinned_places (set frames i (Some g)) ≡ pinned_places frames
kept_pin frames i f g e page pin =
    let lt = frame_below frames i f e in
    pinned_same (set frames i (Some g)) frames
    (λ place w.
    ⊎_elim (λ mine. record {
      at = i;
      frame = f;
      there = e;
      pinned = sym pin ∙ ap (λ (x : Frame). x.pinned) mine.1 ∙ w.pinned;
      has = (λ j. page_places (sym page j).0 place) ∙ ap (λ (x : Frame). page_places x.page.0 place) mine.1 ∙ w.has;
    })
    (λ other. record { at = w.at; frame = w.frame; there = other.1; pinned = w.pinned; has = w.has }) (set_cases frames i g lt w.at w.frame w.there))
    (λ place w. ⊎_elim
    (λ same.
    let its : f ≡ w.frame = some_is f w.frame (sym e ∙ ap (frame_in frames) (sym same) ∙ w.there) in
    record {
      at = i;
      frame = g;
      there = set_here frames i g lt;
      pinned = pin ∙ ap (λ (x : Frame). x.pinned) its ∙ w.pinned;
      has = (λ j. page_places (page j).0 place) ∙ ap (λ (x : Frame). page_places x.page.0 place) its ∙ w.has;
    })
    (λ away. record { at = w.at; frame = w.frame; there = set_away frames i g w.at away ∙ w.there; pinned = w.pinned; has = w.has }) (cases_eq w.at i))

-- the places of a page whose frame isn't pinned
pub unpinned_page : (frames : List (Option Frame)) → AreApart frames → (i : ℕ) (f : Frame) → frame_in frames i ≡ Some f → f.pinned ≡ false → (place : ℕ) → page_places f.page.0 place ≡ true → pinned_places frames place ≡ false
unpinned_page frames apart i f e flag place is =
    ⊎_elim (λ some.
    let w = pinned_by frames place some in
    let same : w.at ≡ i = one_frame frames apart w.at i w.frame f w.there e (same_page w.frame.page.0 f.page.0 place w.has is) in
    absurd (false≢true (sym flag ∙ ap is_pinned (sym e) ∙ ap (λ n. is_pinned (frame_in frames n)) (sym same) ∙ ap is_pinned w.there ∙ w.pinned)))
    (λ none. none) (cases_Bool (pinned_places frames place))

-- how many are pinned after one frame was written
pub pinned_after : (frames : List (Option Frame)) (i : ℕ) (o : Option Frame) → i < length frames
    → count_by is_pinned (set frames i o) + one_if (is_pinned (frame_in frames i)) ≡ count_by is_pinned frames + one_if (is_pinned o)
pinned_after frames i o lt = sum_by-set (λ f. cond (is_pinned f) 1 0) frames i o None lt

-- all are pinned, or fewer than all
pub all_pinned : (frames : List (Option Frame)) → ((i : ℕ) → i < length frames → is_pinned (frame_in frames i) ≡ true) → count_by is_pinned frames ≡ length frames
all_pinned [] each = refl
all_pinned (o ∷ frames) each =
    let first : one_if (is_pinned o) ≡ 1 = ap one_if (each 0 (omega arith)) in
    let rest : count_by is_pinned frames ≡ length frames = all_pinned frames (λ i lt. each (suc i) (omega arith)) in
    let up : 1 + length frames ≡ suc (length frames) = omega arith in
    sum_by-cons (λ f. cond (is_pinned f) 1 0) o frames ∙ (λ i. first i + rest i) ∙ up

-- what unpinned frames hold goes into its places: outside of some region nothing changes there

pub covered_in_place : (frames : List (Option Frame)) (region : Region) (before placed : Contents) → AreApart frames → (i : ℕ) (f : Frame) → frame_in frames i ≡ Some f → f.pinned ≡ false
    → Agree (either region (pinned_places frames)) before (now_over frames placed) → Agree region before placed → Agree region before (in_place placed f)
covered_in_place frames region before placed apart i f e flag covered agree place out =
    let start : place - place_of (whole_frame f) ≡ place - f.page.0 * page_bytes = omega arith in
    ⊎_elim (λ is.
    covered place (neither (region place) (pinned_places frames place) out (unpinned_page frames apart i f e flag place is))
    ∙ now_held frames placed apart i f e place is
    ∙ ap (slice_index f.content.bytes) (sym start)
    ∙ sym (put_inside placed (place_of (whole_frame f)) f.content.bytes place (range_is f (apart.whole i f e) place ∙ is)))
    (λ isnt. agree place out ∙ sym (put_outside placed (place_of (whole_frame f)) f.content.bytes place (range_is f (apart.whole i f e) place ∙ isnt)))
    (cases_Bool (page_places f.page.0 place))
