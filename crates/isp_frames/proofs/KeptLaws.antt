-- Frames that are the same but for which of them are dirty, as cleaning leaves them.
use Rattle.std.proofs.Common.{◌≡◌, ◌∙◌, ⊎_elim, ◌+◌, ◌-◌, ◌*◌, ◌<◌, Bool, true, false, cond, List, [], ◌∷◌, ℕ, zero, suc, Option, Some, None, refl, sym, ap, subst, arith, length, set}
use Rattle.std.specs.List.{count_by}
use Rattle.std.proofs.lemmas.Bool.{cases_eq}
use Rattle.std.proofs.lemmas.List.{length-set}
use Rattle.std.proofs.lemmas.List.Sums.{sum_by-cons}
use Rattle.isp_format.specs.Ranges.{Contents, page_bytes}
use Rattle.std.specs.Prelude.{slice_index}
use Rattle.isp_frames.specs.Held.{AreApart, AreBelow, IsCleaned, but_dirty, cleaned_at, now_over, page_places}
use Rattle.isp_format.specs.declared.page.Page.{Page}
use Rattle.isp_base.specs.declared.page_no.PageNo.{PageNo}
use Rattle.isp_pool.specs.declared.frames.Frame.{Frame}
use Rattle.isp_pool.specs.Frames.{PoolState, edited, frame_at, frame_in, is_dirty, is_pinned, one_if, page_of as page_in}
use Rattle.isp_frames.proofs.NowLaws.{edited_is, frame_below, is_now, now_beside, now_held, set_away, set_here, some_is}

abbrev clean_flag : Frame → Frame
clean_flag f = record f { dirty = false }

pin_under : Option (PageNo × (Page × Bool)) → Bool
pin_under None = false
pin_under (Some kept) = kept.1.1

pub kept_pinned : (o other : Option Frame) → but_dirty o ≡ but_dirty other → is_pinned o ≡ is_pinned other
unfolding pin_under
kept_pinned o other same = its o ∙ ap pin_under same ∙ sym (its other)
  where
    its : (o : Option Frame) → is_pinned o ≡ pin_under (but_dirty o)
    its None = refl
    its (Some f) = refl

-- a frame that holds a page held it before
pub record WasHeld (o : Option Frame) (f : Frame) : Type 0 where
  pub frame : Frame
  pub there : o ≡ Some frame
  pub page : frame.page ≡ f.page
  pub content : frame.content ≡ f.content
  pub pinned : frame.pinned ≡ f.pinned

pub was_held : (o : Option Frame) (f : Frame) → but_dirty (Some f) ≡ but_dirty o → WasHeld o f
was_held None f same = absurd (cc)
was_held (Some g) f same =
    let kept : (f.page, (f.content, f.pinned)) ≡ (g.page, (g.content, g.pinned)) = some_is (f.page, (f.content, f.pinned)) (g.page, (g.content, g.pinned)) same in
    record {
      frame = g;
      there = refl;
      page = ap (λ (k : PageNo × (Page × Bool)). k.0) (sym kept);
      content = ap (λ (k : PageNo × (Page × Bool)). k.1.0) (sym kept);
      pinned = ap (λ (k : PageNo × (Page × Bool)). k.1.1) (sym kept);
    }

-- the same frames but for which are dirty
abbrev pub AreKept : List (Option Frame) → List (Option Frame) → Type 0
AreKept new old = (i : ℕ) → but_dirty (frame_in new i) ≡ but_dirty (frame_in old i)

pub kept_was : (new old : List (Option Frame)) → AreKept new old → (i : ℕ) (f : Frame) → frame_in new i ≡ Some f → WasHeld (frame_in old i) f
kept_was new old kept i f e = was_held (frame_in old i) f (ap but_dirty (sym e) ∙ kept i)

kept_number : (new old : List (Option Frame)) → AreKept new old → (i : ℕ) (p : PageNo) → page_in (frame_in new i) ≡ Some p → page_in (frame_in old i) ≡ Some p
kept_number new old kept i p e = sym (its (frame_in old i)) ∙ ap number_under (sym (kept i)) ∙ its (frame_in new i) ∙ e
  where
    number_under : Option (PageNo × (Page × Bool)) → Option PageNo
    number_under None = None
    number_under (Some all) = Some all.0

    its : (o : Option Frame) → number_under (but_dirty o) ≡ page_in o
    its None = refl
    its (Some f) = refl

pub kept_apart : (new old : List (Option Frame)) → AreKept new old → AreApart old → AreApart new
kept_apart new old kept apart = record {
  distinct = λ i j p e h. apart.distinct i j p (kept_number new old kept i p e) (kept_number new old kept j p h);
  whole = λ i f e. let was = kept_was new old kept i f e in ap (λ (c : Page). length c.bytes) (sym was.content) ∙ apart.whole i was.frame was.there;
}

-- the contents now are the same over the same pages in their places
pub kept_now : (new old : List (Option Frame)) (placed : Contents) → AreKept new old → AreApart old → now_over new placed ≡ now_over old placed
kept_now new old placed kept apart =
    is_now new placed (now_over old placed) (kept_apart new old kept apart) (record {
      held = λ i f e place is.
          let was = kept_was new old kept i f e in
          now_held old placed apart i was.frame was.there place ((λ j. page_places (was.page j).0 place) ∙ is)
          ∙ (λ j. slice_index (was.content j).bytes (place - (was.page j).0 * page_bytes));
      beside = λ place out. now_beside old placed apart place (λ i f e.
          let is = kept_was old new (λ k. sym (kept k)) i f e in
          (λ j. page_places (sym is.page j).0 place) ∙ out i is.frame is.there);
    })

-- frames that are alike by some test are as many
pub count_same : (test : Option Frame → Bool) (new old : List (Option Frame)) → length new ≡ length old → ((i : ℕ) → test (frame_in new i) ≡ test (frame_in old i)) → count_by test new ≡ count_by test old
count_same test [] [] long same = refl
count_same test [] (o ∷ old) long same = absurd (omega (arith, long))
count_same test (n ∷ new) [] long same = absurd (omega (arith, long))
count_same test (n ∷ new) (o ∷ old) long same =
    let first : one_if (test n) ≡ one_if (test o) = ap one_if (same 0) in
    let rest : count_by test new ≡ count_by test old = count_same test new old (omega (arith, long)) (λ i. same (suc i)) in
    sum_by-cons (λ f. cond (test f) 1 0) n new ∙ (λ j. first j + rest j) ∙ sym (sum_by-cons (λ f. cond (test f) 1 0) o old)

-- frames that were cleaned

pub cleaned_none : (s : PoolState) → IsCleaned s s
cleaned_none s = record { count = refl; recent = refl; frames = λ i. refl }

pub cleaned_twice : (old mid new : PoolState) → IsCleaned old mid → IsCleaned mid new → IsCleaned old new
cleaned_twice old mid new first second = record {
  count = second.count ∙ first.count;
  recent = second.recent ∙ first.recent;
  frames = λ i. second.frames i ∙ first.frames i;
}

pub cleaned_one : (s : PoolState) (i : ℕ) (f : Frame) → frame_at s i ≡ Some f → IsCleaned s (cleaned_at s i)
cleaned_one s i f e = record {
  count = ap (λ (fs : List (Option Frame)). length fs) set_is ∙ length-set s.frames i (Some (clean_flag f));
  recent = refl;
  frames = λ k. ap (λ (fs : List (Option Frame)). but_dirty (frame_in fs k)) set_is
      ∙ ⊎_elim
      (λ same. ap (λ n. but_dirty (frame_in (set s.frames i (Some (clean_flag f))) n)) same ∙ ap but_dirty (set_here s.frames i (clean_flag f) (frame_below s.frames i f e)) ∙ ap but_dirty (sym e) ∙ ap (λ n. but_dirty (frame_at s n)) (sym same))
      (λ away. ap but_dirty (set_away s.frames i (clean_flag f) k away)) (cases_eq k i);
}
  where
    set_is : edited s.frames i clean_flag ≡ set s.frames i (Some (clean_flag f))
    set_is = edited_is s.frames i f clean_flag e

pub cleaned_below : (old new : PoolState) (pages : ℕ) → IsCleaned old new → AreBelow pages old.frames → AreBelow pages new.frames
cleaned_below old new pages cleaned below = λ i f e.
    let was = was_held (frame_at old i) f (ap but_dirty (sym e) ∙ cleaned.frames i) in
    subst (λ (p : PageNo). p.0 < pages) was.page (below i was.frame was.there)

pub cleaned_unpinned : (old new : PoolState) → IsCleaned old new → ((i : ℕ) → is_pinned (frame_at old i) ≡ false) → (i : ℕ) → is_pinned (frame_at new i) ≡ false
cleaned_unpinned old new cleaned unpinned i = kept_pinned (frame_at new i) (frame_at old i) (cleaned.frames i) ∙ unpinned i

pub cleaned_count : (old new : PoolState) → IsCleaned old new → count_by is_pinned new.frames ≡ count_by is_pinned old.frames
cleaned_count old new cleaned = count_same is_pinned new.frames old.frames cleaned.count (λ i. kept_pinned (frame_at new i) (frame_at old i) (cleaned.frames i))

-- no frame is dirty where none of them counts as it
pub all_clean : (frames : List (Option Frame)) → count_by is_dirty frames ≡ 0 → (i : ℕ) → is_dirty (frame_in frames i) ≡ false
all_clean [] none i = refl
all_clean (o ∷ frames) none i =
    let split : count_by is_dirty (o ∷ frames) ≡ one_if (is_dirty o) + count_by is_dirty frames = sum_by-cons (λ f. cond (is_dirty f) 1 0) o frames in
    let first : one_if (is_dirty o) ≡ 0 = omega (arith, split, none) in
    let rest : count_by is_dirty frames ≡ 0 = omega (arith, split, none) in
    by_place i (is_zero (is_dirty o) first) (all_clean frames rest)
  where
    is_zero : (b : Bool) → one_if b ≡ 0 → b ≡ false
    is_zero true e = absurd (omega (arith, e))
    is_zero false e = refl

    by_place : (i : ℕ) → is_dirty o ≡ false → ((j : ℕ) → is_dirty (frame_in frames j) ≡ false) → is_dirty (frame_in (o ∷ frames) i) ≡ false
    by_place zero first rest = first
    by_place (suc j) first rest = rest j
