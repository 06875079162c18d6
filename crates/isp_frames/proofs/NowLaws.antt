-- Pages in frames, put over the pages in their places: what the contents now are at each place, and after each call of the pool.
use Rattle.std.proofs.Common.{◌≡◌, ◌≢◌, ◌⊎◌, inl, inr, ⊎_elim, ◌∙◌, ◌+◌, ◌-◌, ◌*◌, ◌<◌, ◌≤◌, Bool, true, false, List, [], ◌∷◌, ℕ, zero, suc, Option, Some, None, refl, sym, ap, subst, arith, length, set}
use Rattle.std.specs.Prelude.{slice_index}
use Rattle.std.specs.Option.{option_map}
use Rattle.std.proofs.lemmas.Bool.{false≢true, cases_eq, cases_lt, cases_Bool}
use Rattle.std.proofs.lemmas.List.{get_or-set_same, get_or-set_other}
use Rattle.isp_disk.specs.Moments.{in_range, put, slice}
use Rattle.isp_format.specs.Ranges.{Contents, Range, cover, page_bytes, page_of, place_of, puts}
use Rattle.isp_format.proofs.Headers.{slice_byte}
use Rattle.isp_format.proofs.Places.{above, before_end, below, from_start, inside, not_first, not_second}
use Rattle.isp_format.proofs.Puts.{absorbs}
use Rattle.isp_format.proofs.Slices.{put_inside, put_outside, slice_agree, slice_beside, slice_put, length-slice}
use Rattle.isp_format.specs.declared.page.Page.{Page}
use Rattle.isp_base.specs.declared.page_no.PageNo.{PageNo}
use Rattle.isp_pool.specs.declared.frames.Frame.{Frame}
use Rattle.isp_pool.specs.Frames.{IsPool, PoolState, edited, frame_in, fresh_frame, is_dirty, is_held, overwritten, page_of as page_in}
use Rattle.isp_pool.proofs.StateLaws.{before_written, behind_written, held_below, in_written, length-overwritten}
use Rattle.isp_frames.specs.Held.{AreApart, AreClean, held_pages, now_over, page_places, whole_frame}

-- what is used of a pool here
pub pool_apart : (s : PoolState) → IsPool s → AreApart s.frames
pool_apart s k = record { distinct = k.distinct; whole = k.whole }

tail_apart : (o : Option Frame) (frames : List (Option Frame)) → AreApart (o ∷ frames) → AreApart frames
tail_apart o frames a = record {
  distinct = λ i j p e h. let next : suc i ≡ suc j = a.distinct (suc i) (suc j) p e h in omega arith;
  whole = λ i f e. a.whole (suc i) f e;
}

-- places of pages

pub same_page : (p q place : ℕ) → page_places p place ≡ true → page_places q place ≡ true → p ≡ q
same_page p q place one other =
    omega (
      arith,
      from_start (p * page_bytes) page_bytes place one,
      before_end (p * page_bytes) page_bytes place one,
      from_start (q * page_bytes) page_bytes place other,
      before_end (q * page_bytes) page_bytes place other,
    )

pub page_in_place : (p place : ℕ) → page_places p place ≡ true → place - p * page_bytes < page_bytes
page_in_place p place is =
    omega (arith, from_start (p * page_bytes) page_bytes place is, before_end (p * page_bytes) page_bytes place is)

-- a range that lies in a page
pub range_outside : (p at size place : ℕ) → at + size ≤ 4096 → page_places p place ≡ false → in_range (p * page_bytes + at) size place ≡ false
range_outside p at size place fits isnt =
    let start = p * page_bytes + at in
    ⊎_elim (λ is. absurd (false≢true (sym isnt ∙ inside (p * page_bytes) page_bytes place
    (omega (arith, from_start start size place is)) (omega (arith, fits, before_end start size place is)))))
    (λ not_in. not_in) (cases_Bool (in_range start size place))

-- a byte of a page
pub page_byte : (contents : Contents) (p place : ℕ) → page_places p place ≡ true → slice_index (page_of contents p) (place - p * page_bytes) ≡ contents place
unfolding page_of
page_byte contents p place is =
    let start = from_start (p * page_bytes) page_bytes place is in
    let back : p * page_bytes + (place - p * page_bytes) ≡ place = omega arith in
    slice_byte contents (p * page_bytes) page_bytes (place - p * page_bytes) (page_in_place p place is) ∙ ap contents back

-- frames by page

pub number_is : (p q : PageNo) → p.0 ≡ q.0 → p ≡ q
number_is p q e = ap (λ (n : ℕ). let number : PageNo = record { 0 = n } in number) e

pub one_frame : (frames : List (Option Frame)) → AreApart frames → (i j : ℕ) (f g : Frame) → frame_in frames i ≡ Some f → frame_in frames j ≡ Some g → f.page.0 ≡ g.page.0 → i ≡ j
one_frame frames apart i j f g e h same = apart.distinct i j g.page (ap page_in e ∙ ap Some (number_is f.page g.page same)) (ap page_in h)

-- no frame holds the page of the place
abbrev pub IsBeside : List (Option Frame) → ℕ → Type 0
IsBeside frames place = (i : ℕ) (f : Frame) → frame_in frames i ≡ Some f → page_places f.page.0 place ≡ false

-- a frame holds it
pub record IsWithin (frames : List (Option Frame)) (place : ℕ) : Type 0 where
  pub at : ℕ
  pub frame : Frame
  pub there : frame_in frames at ≡ Some frame
  pub has : page_places frame.page.0 place ≡ true

pub some_is : {X : Type 0} (x y : X) → Some x ≡ Some y → x ≡ y
some_is x y e = cc

beside_more : (o : Option Frame) (frames : List (Option Frame)) (place : ℕ) → ((f : Frame) → o ≡ Some f → page_places f.page.0 place ≡ false) → IsBeside frames place → IsBeside (o ∷ frames) place
beside_more o frames place first rest zero f e = first f e
beside_more o frames place first rest (suc i) f e = rest i f e

within_more : (o : Option Frame) (frames : List (Option Frame)) (place : ℕ) → IsWithin frames place → IsWithin (o ∷ frames) place
within_more o frames place w = record { at = suc w.at; frame = w.frame; there = w.there; has = w.has }

pub where_is : (frames : List (Option Frame)) (place : ℕ) → IsWithin frames place ⊎ IsBeside frames place
where_is [] place = inr (λ i f e. cc)
where_is (None ∷ frames) place =
    ⊎_elim (λ w. inl (within_more None frames place w)) (λ out. inr (beside_more None frames place (λ f e. cc) out)) (where_is frames place)
where_is (Some g ∷ frames) place =
    ⊎_elim (λ is. inl (record { at = zero; frame = g; there = refl; has = is }))
    (λ isnt. ⊎_elim (λ w. inl (within_more (Some g) frames place w))
    (λ out. inr (beside_more (Some g) frames place (λ f e. ap (λ (x : Frame). page_places x.page.0 place) (sym (some_is g f e)) ∙ isnt) out)) (where_is frames place))
    (cases_Bool (page_places g.page.0 place))

-- a page that no frame holds
pub absent_beside : (frames : List (Option Frame)) (p : PageNo) → ((k : ℕ) → page_in (frame_in frames k) ≢ Some p) → (place : ℕ) → page_places p.0 place ≡ true → IsBeside frames place
absent_beside frames p absent place is = λ k f e.
    ⊎_elim (λ other. absurd (absent k (ap page_in e ∙ ap Some (number_is f.page p (same_page f.page.0 p.0 place other is)))))
    (λ isnt. isnt) (cases_Bool (page_places f.page.0 place))

-- the contents now at each place

pub range_is : (g : Frame) → length g.content.bytes ≡ 4096 → (place : ℕ) → in_range (place_of (whole_frame g)) (length g.content.bytes) place ≡ page_places g.page.0 place
range_is g long place =
    let start : place_of (whole_frame g) ≡ g.page.0 * page_bytes = omega arith in
    λ i. in_range (start i) (long i) place

-- where no frame holds the page, the byte that stands in its place
pub now_beside : (frames : List (Option Frame)) (placed : Contents) → AreApart frames → (place : ℕ) → IsBeside frames place → now_over frames placed place ≡ placed place
now_beside [] placed apart place out = refl
now_beside (None ∷ frames) placed apart place out = now_beside frames placed (tail_apart None frames apart) place (λ i. out (suc i))
now_beside (Some g ∷ frames) placed apart place out =
    now_beside frames (put placed (place_of (whole_frame g)) g.content.bytes) (tail_apart (Some g) frames apart) place (λ i. out (suc i))
    ∙ put_outside placed (place_of (whole_frame g)) g.content.bytes place (range_is g (apart.whole 0 g refl) place ∙ out 0 g refl)

first_alone : (g : Frame) (frames : List (Option Frame)) → AreApart (Some g ∷ frames) → (place : ℕ) → page_places g.page.0 place ≡ true → IsBeside frames place
first_alone g frames apart place is = λ i f e.
    ⊎_elim (λ other. absurd (let same : 0 ≡ suc i = one_frame (Some g ∷ frames) apart 0 (suc i) g f refl e (same_page g.page.0 f.page.0 place is other) in omega arith))
    (λ isnt. isnt) (cases_Bool (page_places f.page.0 place))

-- else the byte of the frame
pub now_held : (frames : List (Option Frame)) (placed : Contents) → AreApart frames → (i : ℕ) (f : Frame) → frame_in frames i ≡ Some f → (place : ℕ) → page_places f.page.0 place ≡ true → now_over frames placed place ≡ slice_index f.content.bytes (place - f.page.0 * page_bytes)
now_held [] placed apart i f e place is = absurd (cc)
now_held (None ∷ frames) placed apart zero f e place is = absurd (cc)
now_held (None ∷ frames) placed apart (suc i) f e place is = now_held frames placed (tail_apart None frames apart) i f e place is
now_held (Some g ∷ frames) placed apart zero f e place is =
    let same : g ≡ f = some_is g f e in
    let its : page_places g.page.0 place ≡ true = ap (λ (x : Frame). page_places x.page.0 place) same ∙ is in
    let start : place - place_of (whole_frame g) ≡ place - g.page.0 * page_bytes = omega arith in
    now_beside frames (put placed (place_of (whole_frame g)) g.content.bytes) (tail_apart (Some g) frames apart) place (first_alone g frames apart place its)
    ∙ put_inside placed (place_of (whole_frame g)) g.content.bytes place (range_is g (apart.whole 0 g refl) place ∙ its)
    ∙ ap (slice_index g.content.bytes) start
    ∙ ap (λ (x : Frame). slice_index x.content.bytes (place - x.page.0 * page_bytes)) same
now_held (Some g ∷ frames) placed apart (suc i) f e place is =
    now_held frames (put placed (place_of (whole_frame g)) g.content.bytes) (tail_apart (Some g) frames apart) i f e place is

-- contents that are the frames' bytes where a frame holds the page, and else those in their places
pub record IsNow (frames : List (Option Frame)) (placed contents : Contents) : Type 0 where
  pub held : (i : ℕ) (f : Frame) → frame_in frames i ≡ Some f → (place : ℕ) → page_places f.page.0 place ≡ true → contents place ≡ slice_index f.content.bytes (place - f.page.0 * page_bytes)
  pub beside : (place : ℕ) → IsBeside frames place → contents place ≡ placed place

pub now_is : (frames : List (Option Frame)) (placed : Contents) → AreApart frames → IsNow frames placed (now_over frames placed)
now_is frames placed apart = record { held = now_held frames placed apart; beside = now_beside frames placed apart }

-- there is one such contents
pub is_now : (frames : List (Option Frame)) (placed contents : Contents) → AreApart frames → IsNow frames placed contents → now_over frames placed ≡ contents
is_now frames placed contents apart n = λ i place. at place i
  where
    at : (place : ℕ) → now_over frames placed place ≡ contents place
    at place =
        ⊎_elim (λ w. now_held frames placed apart w.at w.frame w.there place w.has ∙ sym (n.held w.at w.frame w.there place w.has))
        (λ out. now_beside frames placed apart place out ∙ sym (n.beside place out)) (where_is frames place)

-- whole pages

pub now_page : (frames : List (Option Frame)) (placed : Contents) → AreApart frames → (i : ℕ) (f : Frame) → frame_in frames i ≡ Some f → page_of (now_over frames placed) f.page.0 ≡ f.content.bytes
unfolding page_of
now_page frames placed apart i f e =
    let at = f.page.0 * page_bytes in
    let bytes = f.content.bytes in
    let long : length bytes ≡ 4096 = apart.whole i f e in
    let size : 4096 ≡ length bytes = sym long in
    slice_agree (now_over frames placed) (put placed at bytes) at page_bytes (λ place low high.
    now_held frames placed apart i f e place (inside at page_bytes place low high)
    ∙ sym (put_inside placed at bytes place (inside at (length bytes) place low (omega (arith, high, long)))))
    ∙ ap (slice (put placed at bytes) at) size
    ∙ slice_put placed at bytes

-- a frame that is clean
pub now_clean : (frames : List (Option Frame)) (placed : Contents) → AreApart frames → AreClean frames placed → (i : ℕ) (f : Frame) → frame_in frames i ≡ Some f → f.dirty ≡ false → (place : ℕ) → page_places f.page.0 place ≡ true → now_over frames placed place ≡ placed place
now_clean frames placed apart clean i f e d place is =
    now_held frames placed apart i f e place is
    ∙ ap (λ (bytes : List ℕ). slice_index bytes (place - f.page.0 * page_bytes)) (clean i f e d)
    ∙ page_byte placed f.page.0 place is

-- where all frames are clean the contents now are the pages in their places
pub now_placed : (frames : List (Option Frame)) (placed : Contents) → AreApart frames → AreClean frames placed → ((i : ℕ) → is_dirty (frame_in frames i) ≡ false) → now_over frames placed ≡ placed
now_placed frames placed apart clean none = λ i place. at place i
  where
    at : (place : ℕ) → now_over frames placed place ≡ placed place
    at place =
        ⊎_elim (λ w. now_clean frames placed apart clean w.at w.frame w.there (ap is_dirty (sym w.there) ∙ none w.at) place w.has)
        (λ out. now_beside frames placed apart place out) (where_is frames place)

-- frames of which one was put into another's room

-- which frame a place then has: the one that was put there, or one of the others
pub set_cases : (frames : List (Option Frame)) (i : ℕ) (g : Frame) → i < length frames → (k : ℕ) (h : Frame) → frame_in (set frames i (Some g)) k ≡ Some h
    → ((k ≡ i) × (g ≡ h)) ⊎ ((k ≡ i → ⊥) × (frame_in frames k ≡ Some h))
set_cases frames i g lt k h e =
    ⊎_elim (λ same. inl (same, some_is g h (sym (get_or-set_same frames i (Some g) None lt) ∙ ap (frame_in (set frames i (Some g))) (sym same) ∙ e)))
    (λ away. inr (away, sym (get_or-set_other frames i k (Some g) None away) ∙ e)) (cases_eq k i)

pub set_here : (frames : List (Option Frame)) (i : ℕ) (g : Frame) → i < length frames → frame_in (set frames i (Some g)) i ≡ Some g
set_here frames i g lt = get_or-set_same frames i (Some g) None lt

pub set_away : (frames : List (Option Frame)) (i : ℕ) (g : Frame) (k : ℕ) → (k ≡ i → ⊥) → frame_in (set frames i (Some g)) k ≡ frame_in frames k
set_away frames i g k away = get_or-set_other frames i k (Some g) None away

-- an edited frame
pub edited_is : (frames : List (Option Frame)) (i : ℕ) (f : Frame) (edit : Frame → Frame) → frame_in frames i ≡ Some f → edited frames i edit ≡ set frames i (Some (edit f))
edited_is frames i f edit e = ap (λ (o : Option Frame). set frames i (option_map edit o)) e

pub frame_below : (frames : List (Option Frame)) (i : ℕ) (f : Frame) → frame_in frames i ≡ Some f → i < length frames
frame_below frames i f e = held_below frames i (ap is_held e)

-- no other frame holds its page, and it has its bytes
pub record IsFitting (frames : List (Option Frame)) (i : ℕ) (g : Frame) : Type 0 where
  pub below : i < length frames
  pub alone : (k : ℕ) (h : Frame) → (k ≡ i → ⊥) → frame_in frames k ≡ Some h → h.page.0 ≡ g.page.0 → ⊥
  pub whole : length g.content.bytes ≡ 4096

pub set_apart : (frames : List (Option Frame)) (i : ℕ) (g : Frame) → AreApart frames → IsFitting frames i g → AreApart (set frames i (Some g))
set_apart frames i g apart fits = record {
  distinct = λ j k p e h. at_two j k p (held_page (set frames i (Some g)) j p e) (held_page (set frames i (Some g)) k p h);
  whole = λ k h e.
      ⊎_elim (λ mine. ap (λ (x : Frame). length x.content.bytes) (sym mine.1) ∙ fits.whole) (λ other. apart.whole k h other.1) (set_cases frames i g fits.below k h e);
}
  where
    held_page : (frames : List (Option Frame)) (j : ℕ) (p : PageNo) → page_in (frame_in frames j) ≡ Some p → (h : Frame) × (frame_in frames j ≡ Some h) × (h.page ≡ p)
    held_page frames j p e = at (frame_in frames j) e
      where
        at : (o : Option Frame) → page_in o ≡ Some p → (h : Frame) × (o ≡ Some h) × (h.page ≡ p)
        at None e = absurd (cc)
        at (Some h) e = (h, refl, some_is h.page p e)

    at_two : (j k : ℕ) (p : PageNo) → (h : Frame) × (frame_in (set frames i (Some g)) j ≡ Some h) × (h.page ≡ p) → (h : Frame) × (frame_in (set frames i (Some g)) k ≡ Some h) × (h.page ≡ p) → j ≡ k
    at_two j k p one two =
        let first = set_cases frames i g fits.below j one.0 one.1 in
        let second = set_cases frames i g fits.below k two.0 two.1 in
        let number : one.0.page.0 ≡ two.0.page.0 = ap (λ (q : PageNo). q.0) (one.2 ∙ sym two.2) in
        ⊎_elim
        (λ a. ⊎_elim (λ b. a.0 ∙ sym b.0) (λ b. absurd (fits.alone k two.0 b.0 b.1 (sym number ∙ ap (λ (x : Frame). x.page.0) (sym a.1)))) second)
        (λ a. ⊎_elim (λ b. absurd (fits.alone j one.0 a.0 a.1 (number ∙ ap (λ (x : Frame). x.page.0) (sym b.1)))) (λ b. one_frame frames apart j k one.0 two.0 a.1 b.1 number) second)
        first

-- a page that was read came into a frame

-- the frame was free or clean, no frame holds the page, and it was read from its place
pub record IsLoading (frames : List (Option Frame)) (placed : Contents) (i : ℕ) (p : PageNo) (page : Page) : Type 0 where
  pub below : i < length frames
  pub clean : is_dirty (frame_in frames i) ≡ false
  pub absent : (k : ℕ) → page_in (frame_in frames k) ≢ Some p
  pub read : page.bytes ≡ page_of placed p.0

loaded_fits : (frames : List (Option Frame)) (placed : Contents) (i : ℕ) (p : PageNo) (page : Page) → IsLoading frames placed i p page → IsFitting frames i (fresh_frame p page)
unfolding page_of
loaded_fits frames placed i p page l = record {
  below = l.below;
  alone = λ k h away e same. l.absent k (ap page_in e ∙ ap Some (number_is h.page p same));
  whole = ap (λ (bytes : List ℕ). length bytes) l.read ∙ length-slice placed (p.0 * page_bytes) page_bytes;
}

pub loaded_apart : (frames : List (Option Frame)) (placed : Contents) (i : ℕ) (p : PageNo) (page : Page) → AreApart frames → IsLoading frames placed i p page → AreApart (set frames i (Some (fresh_frame p page)))
loaded_apart frames placed i p page apart l = set_apart frames i (fresh_frame p page) apart (loaded_fits frames placed i p page l)

pub loaded_clean : (frames : List (Option Frame)) (placed : Contents) (i : ℕ) (p : PageNo) (page : Page) → AreClean frames placed → IsLoading frames placed i p page → AreClean (set frames i (Some (fresh_frame p page))) placed
loaded_clean frames placed i p page clean l = λ k h e d.
    ⊎_elim (λ mine. subst (λ (x : Frame). x.content.bytes ≡ page_of placed x.page.0) mine.1 l.read)
    (λ other. clean k h other.1 d) (set_cases frames i (fresh_frame p page) l.below k h e)

pub loaded_now : (frames : List (Option Frame)) (placed : Contents) (i : ℕ) (p : PageNo) (page : Page) → AreApart frames → AreClean frames placed → IsLoading frames placed i p page
    → now_over (set frames i (Some (fresh_frame p page))) placed ≡ now_over frames placed
loaded_now frames placed i p page apart clean l =
    is_now (set frames i (Some g)) placed (now_over frames placed) (loaded_apart frames placed i p page apart l) (record {
      held = λ k h e place is.
          ⊎_elim (λ mine. subst (λ (x : Frame). page_places x.page.0 place ≡ true → now_over frames placed place ≡ slice_index x.content.bytes (place - x.page.0 * page_bytes)) mine.1 (its place) is)
          (λ other. now_held frames placed apart k h other.1 place is) (set_cases frames i g l.below k h e);
      beside = λ place out. ⊎_elim (λ w. went place out w) (λ beside. now_beside frames placed apart place beside) (where_is frames place);
    })
  where
    g : Frame
    g = fresh_frame p page

    its : (place : ℕ) → page_places p.0 place ≡ true → now_over frames placed place ≡ slice_index page.bytes (place - p.0 * page_bytes)
    its place is =
        now_beside frames placed apart place (absent_beside frames p l.absent place is)
        ∙ sym (ap (λ (bytes : List ℕ). slice_index bytes (place - p.0 * page_bytes)) l.read ∙ page_byte placed p.0 place is)

    -- the frame that went was clean
    went : (place : ℕ) → IsBeside (set frames i (Some g)) place → IsWithin frames place → now_over frames placed place ≡ placed place
    went place out w =
        ⊎_elim (λ same.
        let there : frame_in frames i ≡ Some w.frame = ap (frame_in frames) (sym same) ∙ w.there in
        now_clean frames placed apart clean i w.frame there (sym (ap is_dirty there) ∙ l.clean) place w.has)
        (λ away. absurd (false≢true (sym (out w.at w.frame (set_away frames i g w.at away ∙ w.there)) ∙ w.has))) (cases_eq w.at i)

-- a frame that keeps its page

same_fits : (frames : List (Option Frame)) (i : ℕ) (f g : Frame) → AreApart frames → frame_in frames i ≡ Some f → g.page ≡ f.page → length g.content.bytes ≡ 4096 → IsFitting frames i g
same_fits frames i f g apart e page long = record {
  below = frame_below frames i f e;
  alone = λ k h away there same. away (one_frame frames apart k i h f there e (same ∙ ap (λ (q : PageNo). q.0) page));
  whole = long;
}

same_beside : (frames : List (Option Frame)) (i : ℕ) (f g : Frame) → frame_in frames i ≡ Some f → g.page ≡ f.page → (place : ℕ) → IsBeside (set frames i (Some g)) place → IsBeside frames place
same_beside frames i f g e page place out = λ k h there.
    ⊎_elim (λ same.
    let its : f ≡ h = some_is f h (sym e ∙ ap (frame_in frames) (sym same) ∙ there) in
    ap (λ (q : PageNo). page_places q.0 place) (ap (λ (x : Frame). x.page) (sym its) ∙ sym page) ∙ out i g (set_here frames i g (frame_below frames i f e)))
    (λ away. out k h (set_away frames i g k away ∙ there)) (cases_eq k i)

-- its bytes were changed

-- the frame with bytes over those of its page from a place on, dirty
abbrev pub overwrite : ℕ → List ℕ → Frame → Frame
overwrite at bytes f = record f { content = record { bytes = overwritten f.content.bytes at bytes }; dirty = true }

changed_long : (frames : List (Option Frame)) (i at : ℕ) (bytes : List ℕ) (f : Frame) → AreApart frames → frame_in frames i ≡ Some f → at + length bytes ≤ 4096 → length (overwritten f.content.bytes at bytes) ≡ 4096
changed_long frames i at bytes f apart e fits =
    let long : length f.content.bytes ≡ 4096 = apart.whole i f e in
    length-overwritten f.content.bytes at bytes (omega arith) ∙ long

pub changed_clean : (frames : List (Option Frame)) (placed : Contents) (i at : ℕ) (bytes : List ℕ) (f : Frame) → frame_in frames i ≡ Some f → AreClean frames placed → AreClean (edited frames i (overwrite at bytes)) placed
changed_clean frames placed i at bytes f e clean =
    subst (λ (fs : List (Option Frame)). AreClean fs placed) (sym (edited_is frames i f (overwrite at bytes) e)) (λ k h there d.
    ⊎_elim (λ mine. absurd (false≢true (sym d ∙ sym (ap (λ (x : Frame). x.dirty) mine.1)))) (λ other. clean k h other.1 d)
    (set_cases frames i (overwrite at bytes f) (frame_below frames i f e) k h there))

pub changed_now : (frames : List (Option Frame)) (placed : Contents) (i at : ℕ) (bytes : List ℕ) (f : Frame) → AreApart frames → frame_in frames i ≡ Some f → at + length bytes ≤ 4096
    → now_over (edited frames i (overwrite at bytes)) placed ≡ put (now_over frames placed) (f.page.0 * page_bytes + at) bytes
changed_now frames placed i at bytes f apart e fits =
    ap (λ (fs : List (Option Frame)). now_over fs placed) (edited_is frames i f (overwrite at bytes) e)
    ∙ is_now (set frames i (Some g)) placed (put (now_over frames placed) start bytes)
    (set_apart frames i g apart (same_fits frames i f g apart e refl (changed_long frames i at bytes f apart e fits))) (record {
      held = λ k h there place is.
          ⊎_elim (λ mine. subst (λ (x : Frame). page_places x.page.0 place ≡ true → put (now_over frames placed) start bytes place ≡ slice_index x.content.bytes (place - x.page.0 * page_bytes)) mine.1 (its place) is)
          (λ other. put_outside (now_over frames placed) start bytes place (elsewhere k h other.0 other.1 place is) ∙ now_held frames placed apart k h other.1 place is)
          (set_cases frames i g below_count k h there);
      beside = λ place out.
          put_outside (now_over frames placed) start bytes place (out_of_page place (out i g (set_here frames i g below_count)))
          ∙ now_beside frames placed apart place (same_beside frames i f g e refl place out);
    })
  where
    g : Frame
    g = overwrite at bytes f

    start : ℕ
    start = f.page.0 * page_bytes + at

    below_count : i < length frames
    below_count = frame_below frames i f e

    out_of_page : (place : ℕ) → page_places f.page.0 place ≡ false → in_range start (length bytes) place ≡ false
    out_of_page place isnt = range_outside f.page.0 at (length bytes) place fits isnt

    elsewhere : (k : ℕ) (h : Frame) → (k ≡ i → ⊥) → frame_in frames k ≡ Some h → (place : ℕ) → page_places h.page.0 place ≡ true → in_range start (length bytes) place ≡ false
    elsewhere k h away there place is =
        out_of_page place (⊎_elim (λ other. absurd (away (one_frame frames apart k i h f there e (same_page h.page.0 f.page.0 place is other))))
        (λ isnt. isnt) (cases_Bool (page_places f.page.0 place)))

    its : (place : ℕ) → page_places f.page.0 place ≡ true → put (now_over frames placed) start bytes place ≡ slice_index (overwritten f.content.bytes at bytes) (place - f.page.0 * page_bytes)
    its place is =
        let old = f.content.bytes in
        let base = f.page.0 * page_bytes in
        let long : length old ≡ 4096 = apart.whole i f e in
        let from : base ≤ place = from_start base page_bytes place is in
        ⊎_elim (λ low.
        put_outside (now_over frames placed) start bytes place (below start (length bytes) place low)
        ∙ now_held frames placed apart i f e place is
        ∙ sym (before_written old at bytes (place - base) 0 (omega (arith, fits, long)) (omega (arith, low, from))))
        (λ high. ⊎_elim (λ to.
        let moved : place - start ≡ (place - base) - at = omega arith in
        put_inside (now_over frames placed) start bytes place (inside start (length bytes) place high to)
        ∙ ap (slice_index bytes) moved
        ∙ sym (in_written old at bytes (place - base) 0 (omega (arith, fits, long)) (omega (arith, high, from)) (omega (arith, to, from))))
        (λ past.
        put_outside (now_over frames placed) start bytes place (above start (length bytes) place past)
        ∙ now_held frames placed apart i f e place is
        ∙ sym (behind_written old at bytes (place - base) 0 (omega (arith, fits, long)) (omega (arith, past, from))))
        (cases_lt place (start + length bytes)))
        (cases_lt place start)

-- its flags were set

same_pages : (frames : List (Option Frame)) (i : ℕ) (f g : Frame) → frame_in frames i ≡ Some f → whole_frame g ≡ whole_frame f → held_pages (set frames i (Some g)) ≡ held_pages frames
same_pages [] i f g e same = absurd (cc)
same_pages (None ∷ frames) zero f g e same = absurd (cc)
same_pages (None ∷ frames) (suc i) f g e same = same_pages frames i f g e same
same_pages (Some h ∷ frames) zero f g e same = ap (λ (r : Range). r ∷ held_pages frames) (same ∙ ap whole_frame (sym (some_is h f e)))
same_pages (Some h ∷ frames) (suc i) f g e same = ap (λ (rs : List Range). whole_frame h ∷ rs) (same_pages frames i f g e same)

pub flagged_now : (frames : List (Option Frame)) (placed : Contents) (i : ℕ) (f : Frame) (edit : Frame → Frame) → frame_in frames i ≡ Some f → whole_frame (edit f) ≡ whole_frame f
    → now_over (edited frames i edit) placed ≡ now_over frames placed
flagged_now frames placed i f edit e same =
    ap (λ (fs : List (Option Frame)). now_over fs placed) (edited_is frames i f edit e) ∙ ap (λ (rs : List Range). puts rs placed) (same_pages frames i f (edit f) e same)

-- whether it is pinned says nothing of whether it is clean
pub pinned_clean : (frames : List (Option Frame)) (placed : Contents) (i : ℕ) (f : Frame) (b : Bool) → frame_in frames i ≡ Some f → AreClean frames placed → AreClean (edited frames i (λ h. record h { pinned = b })) placed
pinned_clean frames placed i f b e clean =
    let edit : Frame → Frame = λ h. record h { pinned = b } in
    subst (λ (fs : List (Option Frame)). AreClean fs placed) (sym (edited_is frames i f edit e)) (λ k h there d.
    ⊎_elim (λ mine. subst (λ (x : Frame). x.dirty ≡ false → x.content.bytes ≡ page_of placed x.page.0) mine.1 (clean i f e) d) (λ other. clean k h other.1 d)
    (set_cases frames i (edit f) (frame_below frames i f e) k h there))

-- a page in a frame was written in its place

-- the pages in their places with that of a frame written over the one that stood there
abbrev pub in_place : Contents → Frame → Contents
in_place placed f = put placed (place_of (whole_frame f)) f.content.bytes

held_covers : (frames : List (Option Frame)) (i : ℕ) (f : Frame) → frame_in frames i ≡ Some f → (place : ℕ) → cover (held_pages frames) place ≡ false → in_range (place_of (whole_frame f)) (length f.content.bytes) place ≡ false
held_covers [] i f e place out = absurd (cc)
held_covers (None ∷ frames) zero f e place out = absurd (cc)
held_covers (None ∷ frames) (suc i) f e place out = held_covers frames i f e place out
held_covers (Some h ∷ frames) zero f e place out =
    ap (λ (x : Frame). in_range (place_of (whole_frame x)) (length x.content.bytes) place) (sym (some_is h f e))
    ∙ not_first (in_range (place_of (whole_frame h)) (length h.content.bytes) place) (cover (held_pages frames) place) out
held_covers (Some h ∷ frames) (suc i) f e place out =
    held_covers frames i f e place (not_second (in_range (place_of (whole_frame h)) (length h.content.bytes) place) (cover (held_pages frames) place) out)

-- the contents now are as they were
pub in_place_now : (frames : List (Option Frame)) (placed : Contents) (i : ℕ) (f : Frame) → frame_in frames i ≡ Some f → now_over frames (in_place placed f) ≡ now_over frames placed
in_place_now frames placed i f e =
    sym (absorbs (held_pages frames) placed (in_place placed f)
    (λ place out. sym (put_outside placed (place_of (whole_frame f)) f.content.bytes place (held_covers frames i f e place out))))

pub slice_placed : (image : Contents) (at start size : ℕ) (bytes : List ℕ) → start ≡ at → size ≡ length bytes → slice (put image at bytes) start size ≡ bytes
slice_placed image at start size bytes from long = (λ j. slice (put image at bytes) (from j) (long j)) ∙ slice_put image at bytes

written_page : (placed : Contents) (f g : Frame) → g.page.0 ≡ f.page.0 → g.content.bytes ≡ f.content.bytes → length f.content.bytes ≡ 4096 → g.content.bytes ≡ page_of (in_place placed f) g.page.0
unfolding page_of
written_page placed f g page bytes long =
    let start : g.page.0 * page_bytes ≡ place_of (whole_frame f) = omega arith in
    bytes ∙ sym (slice_placed placed (place_of (whole_frame f)) (g.page.0 * page_bytes) page_bytes f.content.bytes start (sym long))

-- and it is clean then
pub cleaned_clean : (frames : List (Option Frame)) (placed : Contents) (i : ℕ) (f : Frame) → AreApart frames → frame_in frames i ≡ Some f → AreClean frames placed
    → AreClean (edited frames i (λ h. record h { dirty = false })) (in_place placed f)
unfolding page_of
cleaned_clean frames placed i f apart e clean =
    let edit : Frame → Frame = λ h. record h { dirty = false } in
    subst (λ (fs : List (Option Frame)). AreClean fs (in_place placed f)) (sym (edited_is frames i f edit e)) (λ k h there d.
    ⊎_elim (λ mine. written_page placed f h (ap (λ (x : Frame). x.page.0) (sym mine.1)) (ap (λ (x : Frame). x.content.bytes) (sym mine.1)) (apart.whole i f e))
    (λ other. clean k h other.1 d ∙ sym (slice_beside placed (place_of (whole_frame f)) f.content.bytes (h.page.0 * page_bytes) page_bytes
    (λ place low high. range_is f (apart.whole i f e) place ∙ others_place k h other.0 other.1 place (inside (h.page.0 * page_bytes) page_bytes place low high))))
    (set_cases frames i (edit f) (frame_below frames i f e) k h there))
  where
    others_place : (k : ℕ) (h : Frame) → (k ≡ i → ⊥) → frame_in frames k ≡ Some h → (place : ℕ) → page_places h.page.0 place ≡ true → page_places f.page.0 place ≡ false
    others_place k h away there place is =
        ⊎_elim (λ other. absurd (away (one_frame frames apart k i h f there e (same_page h.page.0 f.page.0 place is other))))
        (λ isnt. isnt) (cases_Bool (page_places f.page.0 place))
