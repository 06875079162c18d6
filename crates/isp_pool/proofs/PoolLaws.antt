-- What a pool keeps beside its frames, after each write.
use Rattle.std.proofs.Common.{◌≡◌, ◌≢◌, ◌∙◌, ◌+◌, ◌<◌, ◌≤◌, ◌&&◌, Bool, true, false, not, cond, List, [], ◌∷◌, ℕ, zero, suc, Option, Some, None, refl, sym, ap, subst, arith, ⊎_elim, length, get_or, set, length-set, map, replicate, filter}
use Rattle.std.specs.List.{count_by, sum_by}
use Rattle.std.specs.Option.{option_map}
use Rattle.std.proofs.lemmas.Bool.{false≢true, cases_eq, cases_Bool, cond-true, cond-false}
use Rattle.std.proofs.lemmas.List.{get_or-set_same, get_or-set_other, set-get_or, set-set, map-set, length-replicate}
use Rattle.std.proofs.lemmas.List.Sums.{sum_by-set, count_by-le-length}
use Rattle.isp_format.specs.declared.page.Page.{Page}
use Rattle.isp_base.specs.declared.page_no.PageNo.{PageNo}
use Rattle.isp_recency.specs.Recent.{RecencyList, has, without}
use Rattle.isp_recency.proofs.RecentLaws.{has_first, has_later, has_without, has_cases}
use Rattle.isp_pool.specs.declared.frames.Frame.{Frame}
use Rattle.isp_pool.specs.Frames.{PoolState, frame_in, frame_at, is_held, page_of, is_dirty, is_pinned, is_unpinned, is_cleanable, edited, with_frame, changed, overwritten, fresh_frame, IsFirstFree, one_if}
use Rattle.isp_pool.specs.Kept.{Keeps}
use Rattle.isp_pool.proofs.StateLaws.{held_below, held_is, length-overwritten}

-- flags by frame: the test of the frame itself, also past the end
pub flag_at : (test : Option Frame → Bool) → test None ≡ false → (frames : List (Option Frame)) (i : ℕ) → get_or (map test frames) i false ≡ test (frame_in frames i)
flag_at test none_is [] i = sym none_is
flag_at test none_is (o ∷ os) zero = refl
flag_at test none_is (o ∷ os) (suc i) = flag_at test none_is os i

pub page_at_map : (frames : List (Option Frame)) (i : ℕ) → get_or (map page_of frames) i None ≡ page_of (frame_in frames i)
page_at_map [] i = refl
page_at_map (o ∷ os) zero = refl
page_at_map (o ∷ os) (suc i) = page_at_map os i

-- a value that stands there already
stands : {X : Type 0} (xs : List X) (i : ℕ) (d x : X) → get_or xs i d ≡ x → set xs i x ≡ xs
stands xs i d x e = ap (set xs i) (sym e) ∙ set-get_or xs i d

-- a frame comes to hold a page, or another
pub stored : (frames : List (Option Frame)) (pages : List (Option PageNo)) (recency : RecencyList) (unpinned cleanable : List Bool) (dirty fresh : ℕ)
    → Keeps frames pages recency unpinned cleanable dirty fresh
    → (i : ℕ) (f : Frame) (recency2 : RecencyList) (dirty2 fresh2 : ℕ) → i < length frames → length f.content.bytes ≡ 4096
    → ((j : ℕ) → page_of (frame_in frames j) ≡ Some f.page → j ≡ i)
    → recency2.size ≡ recency.size → has recency2.members i ≡ true → ((j : ℕ) → (j ≡ i → ⊥) → has recency2.members j ≡ has recency.members j)
    → dirty2 + one_if (is_dirty (frame_in frames i)) ≡ dirty + one_if f.dirty → IsFirstFree (set frames i (Some f)) fresh2
    → Keeps (set frames i (Some f)) (set pages i (Some f.page)) recency2 (set unpinned i (not f.pinned)) (set cleanable i (f.dirty && not f.pinned)) dirty2 fresh2
stored frames pages recency unpinned cleanable dirty fresh k i f recency2 dirty2 fresh2 lt long only size mine others count first =
    let now = set frames i (Some f) in
    let here : frame_in now i ≡ Some f = get_or-set_same frames i (Some f) None lt in
    let away : (j : ℕ) → (j ≡ i → ⊥) → frame_in now j ≡ frame_in frames j = λ j d. get_or-set_other frames i j (Some f) None d in
    record {
      by_page = ap (λ xs. set xs i (Some f.page)) k.by_page ∙ sym (map-set page_of frames i (Some f));
      distinct = λ j l q ej el.
          let from : (m : ℕ) → page_of (frame_in now m) ≡ Some q → (m ≡ i → ⊥) → page_of (frame_in frames m) ≡ Some q = λ m em d. ap page_of (sym (away m d)) ∙ em in
          let its : (m : ℕ) → page_of (frame_in now m) ≡ Some q → m ≡ i → Some q ≡ Some f.page = λ m em e. sym em ∙ ap (λ n. page_of (frame_in now n)) e ∙ ap page_of here in
          ⊎_elim
          (λ je. ⊎_elim (λ le. je ∙ sym le) (λ ld. je ∙ sym (only l (from l el ld ∙ its j ej je))) (cases_eq l i))
          (λ jd. ⊎_elim (λ le. only j (from j ej jd ∙ its l el le) ∙ sym le) (λ ld. k.distinct j l q (from j ej jd) (from l el ld)) (cases_eq l i))
          (cases_eq j i);
      whole = λ j g e.
          ⊎_elim
          (λ je. let same : f ≡ g = let a : Some f ≡ Some g = sym here ∙ ap (frame_in now) (sym je) ∙ e in cc in ap (λ (x : Frame). length x.content.bytes) (sym same) ∙ long)
          (λ jd. k.whole j g (sym (away j jd) ∙ e)) (cases_eq j i);
      most = subst (λ n. n ≤ 4096) (sym (length-set frames i (Some f))) k.most;
      size = size ∙ k.size ∙ sym (length-set frames i (Some f));
      recent = λ j.
          ⊎_elim (λ je. ap (has recency2.members) je ∙ mine ∙ sym (ap is_held here) ∙ ap (λ n. is_held (frame_in now n)) (sym je))
          (λ jd. others j jd ∙ k.recent j ∙ ap is_held (sym (away j jd))) (cases_eq j i);
      free_to_go = ap (λ xs. set xs i (not f.pinned)) k.free_to_go ∙ sym (map-set is_unpinned frames i (Some f));
      free_to_clean = ap (λ xs. set xs i (f.dirty && not f.pinned)) k.free_to_clean ∙ sym (map-set is_cleanable frames i (Some f));
      changed =
          let counted : sum_by (λ o. cond (is_dirty o) 1 0) now + one_if (is_dirty (frame_in frames i)) ≡ sum_by (λ o. cond (is_dirty o) 1 0) frames + one_if f.dirty =
          sum_by-set (λ o. cond (is_dirty o) 1 0) frames i (Some f) None lt in
          let was : dirty ≡ sum_by (λ o. cond (is_dirty o) 1 0) frames = k.changed in
          omega arith;
      first = first;
    }

-- the first free frame where a frame that holds a page is written
first_stays : (frames : List (Option Frame)) (fresh i : ℕ) (f : Frame) → IsFirstFree frames fresh → is_held (frame_in frames i) ≡ true → IsFirstFree (set frames i (Some f)) fresh
first_stays frames fresh i f first held =
    let lt = held_below frames i held in
    record {
      within = subst (λ n. fresh ≤ n) (sym (length-set frames i (Some f))) first.within;
      held = λ j low.
          ⊎_elim (λ e. ap (λ n. is_held (frame_in (set frames i (Some f)) n)) e ∙ ap is_held (get_or-set_same frames i (Some f) None lt))
          (λ d. ap is_held (get_or-set_other frames i j (Some f) None d) ∙ first.held j low) (cases_eq j i);
      free = λ low.
          let was : frame_in frames fresh ≡ None = first.free (subst (λ n. fresh < n) (length-set frames i (Some f)) low) in
          let d : fresh ≡ i → ⊥ = λ e. false≢true (sym (ap is_held was) ∙ ap (λ n. is_held (frame_in frames n)) e ∙ held) in
          get_or-set_other frames i fresh (Some f) None d ∙ was;
    }

-- a frame keeps its page
kept_page : (frames : List (Option Frame)) (pages : List (Option PageNo)) (recency : RecencyList) (unpinned cleanable : List Bool) (dirty fresh : ℕ)
    → Keeps frames pages recency unpinned cleanable dirty fresh
    → (i : ℕ) (was f : Frame) (dirty2 : ℕ) → frame_in frames i ≡ Some was → f.page ≡ was.page → length f.content.bytes ≡ 4096
    → dirty2 + one_if was.dirty ≡ dirty + one_if f.dirty
    → Keeps (set frames i (Some f)) pages recency (set unpinned i (not f.pinned)) (set cleanable i (f.dirty && not f.pinned)) dirty2 fresh
kept_page frames pages recency unpinned cleanable dirty fresh k i was f dirty2 e same long count =
    let held : is_held (frame_in frames i) ≡ true = ap is_held e in
    let page : page_of (frame_in frames i) ≡ Some f.page = ap page_of e ∙ ap Some (sym same) in
    let all = stored frames pages recency unpinned cleanable dirty fresh k i f recency dirty2 fresh (held_below frames i held) long
    (λ j h. k.distinct j i f.page h page) refl (k.recent i ∙ held) (λ j d. refl) (ap (λ o. dirty2 + one_if (is_dirty o)) e ∙ count)
    (first_stays frames fresh i f k.first held) in
    let there : get_or pages i None ≡ Some f.page = ap (λ xs. get_or xs i None) k.by_page ∙ page_at_map frames i ∙ page in
    subst (λ ps. Keeps (set frames i (Some f)) ps recency (set unpinned i (not f.pinned)) (set cleanable i (f.dirty && not f.pinned)) dirty2 fresh)
    (stands pages i None (Some f.page) there) all

pub marked : (frames frames2 : List (Option Frame)) (pages : List (Option PageNo)) (recency : RecencyList) (unpinned cleanable : List Bool) (dirty fresh : ℕ)
    → Keeps frames pages recency unpinned cleanable dirty fresh
    → (i : ℕ) (d n : Bool) (dirty2 : ℕ) → is_held (frame_in frames i) ≡ true → frames2 ≡ edited frames i (λ f. record f { dirty = d; pinned = n })
    → dirty2 + one_if (is_dirty (frame_in frames i)) ≡ dirty + one_if d
    → Keeps frames2 pages recency (set unpinned i (not n)) (set cleanable i (d && not n)) dirty2 fresh
marked frames frames2 pages recency unpinned cleanable dirty fresh k i d n dirty2 held e count =
    let one = held_is (frame_in frames i) held in
    let f : Frame = record one.0 { dirty = d; pinned = n } in
    let mark : Frame → Frame = λ g. record g { dirty = d; pinned = n } in
    let by : frames2 ≡ set frames i (Some f) = e ∙ ap (λ o. set frames i (option_map mark o)) one.1 in
    subst (λ fs. Keeps fs pages recency (set unpinned i (not n)) (set cleanable i (d && not n)) dirty2 fresh) (sym by)
    (kept_page frames pages recency unpinned cleanable dirty fresh k i one.0 f dirty2 one.1 refl (k.whole i one.0 one.1)
    (ap (λ o. dirty2 + one_if (is_dirty o)) (sym one.1) ∙ count))

pub written : (frames frames2 : List (Option Frame)) (pages : List (Option PageNo)) (recency : RecencyList) (unpinned cleanable : List Bool) (dirty fresh : ℕ)
    → Keeps frames pages recency unpinned cleanable dirty fresh
    → (i at : ℕ) (bytes : List ℕ) → is_held (frame_in frames i) ≡ true → at + length bytes ≤ 4096
    → frames2 ≡ edited frames i (λ f. record f { content = record { bytes = overwritten f.content.bytes at bytes } })
    → Keeps frames2 pages recency unpinned cleanable dirty fresh
written frames frames2 pages recency unpinned cleanable dirty fresh k i at bytes held fits e =
    let one = held_is (frame_in frames i) held in
    let was = one.0 in
    let f : Frame = record was { content = record { bytes = overwritten was.content.bytes at bytes } } in
    let long : length was.content.bytes ≡ 4096 = k.whole i was one.1 in
    let by : frames2 ≡ set frames i (Some f) = e ∙ ap (λ o. set frames i (option_map (λ (g : Frame). record g { content = record { bytes = overwritten g.content.bytes at bytes } }) o)) one.1 in
    let all = kept_page frames pages recency unpinned cleanable dirty fresh k i was f dirty one.1 refl (length-overwritten was.content.bytes at bytes (omega arith) ∙ long) refl in
    let up : get_or unpinned i false ≡ not f.pinned = ap (λ xs. get_or xs i false) k.free_to_go ∙ flag_at is_unpinned refl frames i ∙ ap is_unpinned one.1 in
    let cl : get_or cleanable i false ≡ (f.dirty && not f.pinned) = ap (λ xs. get_or xs i false) k.free_to_clean ∙ flag_at is_cleanable refl frames i ∙ ap is_cleanable one.1 in
    subst (λ fs. Keeps fs pages recency unpinned cleanable dirty fresh) (sym by)
    (subst (λ us. Keeps (set frames i (Some f)) pages recency us cleanable dirty fresh) (stands unpinned i false (not f.pinned) up)
    (subst (λ cs. Keeps (set frames i (Some f)) pages recency (set unpinned i (not f.pinned)) cs dirty fresh) (stands cleanable i false (f.dirty && not f.pinned) cl) all))

-- a number brought to the front
pub fronted_has : (i j : ℕ) (xs : List ℕ) → (j ≡ i → ⊥) → has (i ∷ without xs i) j ≡ has xs j
fronted_has i j xs d =
    ⊎_elim (λ yes_is. ⊎_elim (λ e. absurd (d e)) (λ there. yes_is ∙ sym (sym (has_without i j xs d) ∙ there)) (has_cases j i (without xs i) yes_is))
    (λ no_is. no_is ∙ sym (⊎_elim (λ t. absurd (false≢true (sym no_is ∙ has_later j i (without xs i) (has_without i j xs d ∙ t)))) (λ f. f) (cases_Bool (has xs j))))
    (cases_Bool (has (i ∷ without xs i) j))

pub put_in : (frames : List (Option Frame)) (pages pages2 : List (Option PageNo)) (recency recency2 : RecencyList) (unpinned cleanable : List Bool) (dirty fresh : ℕ)
    → Keeps frames pages recency unpinned cleanable dirty fresh
    → (i : ℕ) (p : PageNo) (page : Page) (fresh2 : ℕ) → i < length frames → length page.bytes ≡ 4096 → is_dirty (frame_in frames i) ≡ false
    → ((j : ℕ) → page_of (frame_in frames j) ≢ Some p)
    → recency2 ≡ record { size = recency.size; members = i ∷ without recency.members i } → pages2 ≡ set (set pages i None) i (Some p)
    → IsFirstFree (set frames i (Some (fresh_frame p page))) fresh2
    → Keeps (set frames i (Some (fresh_frame p page))) pages2 recency2 (set unpinned i true) (set cleanable i false) dirty fresh2
put_in frames pages pages2 recency recency2 unpinned cleanable dirty fresh k i p page fresh2 lt long clean absent r e first =
    let members : recency2.members ≡ i ∷ without recency.members i = ap (λ v. v.members) r in
    subst (λ ps. Keeps (set frames i (Some (fresh_frame p page))) ps recency2 (set unpinned i true) (set cleanable i false) dirty fresh2) (sym (e ∙ set-set pages i None (Some p)))
    (stored frames pages recency unpinned cleanable dirty fresh k i (fresh_frame p page) recency2 dirty fresh2 lt long (λ j h. absurd (absent j h)) (ap (λ v. v.size) r)
    (ap (λ xs. has xs i) members ∙ has_first i (without recency.members i))
    (λ j d. ap (λ xs. has xs j) members ∙ fronted_has i j recency.members d) (ap (λ b. dirty + one_if b) clean) first)

pub used_again : (frames : List (Option Frame)) (pages : List (Option PageNo)) (recency recency2 : RecencyList) (unpinned cleanable : List Bool) (dirty fresh : ℕ)
    → Keeps frames pages recency unpinned cleanable dirty fresh → (i : ℕ) → has recency.members i ≡ true
    → recency2 ≡ record { size = recency.size; members = i ∷ without recency.members i } → Keeps frames pages recency2 unpinned cleanable dirty fresh
used_again frames pages recency recency2 unpinned cleanable dirty fresh k i there r =
    let members : recency2.members ≡ i ∷ without recency.members i = ap (λ v. v.members) r in
    record {
      by_page = k.by_page;
      distinct = k.distinct;
      whole = k.whole;
      most = k.most;
      size = ap (λ v. v.size) r ∙ k.size;
      recent = λ j.
          ⊎_elim (λ e. ap (λ xs. has xs j) members ∙ ap (has (i ∷ without recency.members i)) e ∙ has_first i (without recency.members i) ∙ sym there ∙ ap (has recency.members) (sym e) ∙ k.recent j)
          (λ d. ap (λ xs. has xs j) members ∙ fronted_has i j recency.members d ∙ k.recent j) (cases_eq j i);
      free_to_go = k.free_to_go;
      free_to_clean = k.free_to_clean;
      changed = k.changed;
      first = k.first;
    }

-- free frames alone
free_in : (n i : ℕ) → frame_in (replicate n None) i ≡ None
free_in zero i = refl
free_in (suc n) zero = refl
free_in (suc n) (suc i) = free_in n i

map_free : {Y : Type 0} (test : Option Frame → Y) (n : ℕ) → map test (replicate n None) ≡ replicate n (test None)
map_free test zero = refl
map_free test (suc n) = ap (λ ys. test None ∷ ys) (map_free test n)

none_dirty : (n : ℕ) → count_by is_dirty (replicate n None) ≡ 0
none_dirty zero = refl
none_dirty (suc n) = none_dirty n

pub all_free : (n : ℕ) (frames : List (Option Frame)) (pages : List (Option PageNo)) (recency : RecencyList) (unpinned cleanable : List Bool) → 0 < n → n ≤ 4096
    → frames ≡ replicate n None → pages ≡ replicate n None → recency ≡ record { size = n; members = [] } → unpinned ≡ replicate n false → cleanable ≡ replicate n false
    → Keeps frames pages recency unpinned cleanable 0 0
all_free n frames pages recency unpinned cleanable some many f p r u c =
    let free : (i : ℕ) → frame_in frames i ≡ None = λ i. ap (λ xs. frame_in xs i) f ∙ free_in n i in
    record {
      by_page = p ∙ sym (ap (map page_of) f ∙ map_free page_of n);
      distinct = λ i j q e g. (let bad : None ≡ Some q = ap page_of (sym (free i)) ∙ e in cc);
      whole = λ i g e. (let bad : None ≡ Some g = sym (free i) ∙ e in cc);
      most = subst (λ k. k ≤ 4096) (sym (ap length f ∙ length-replicate n None)) many;
      size = ap (λ v. v.size) r ∙ sym (ap length f ∙ length-replicate n None);
      recent = λ i. ap (λ v. has v.members i) r ∙ sym (ap is_held (free i));
      free_to_go = u ∙ sym (ap (map is_unpinned) f ∙ map_free is_unpinned n);
      free_to_clean = c ∙ sym (ap (map is_cleanable) f ∙ map_free is_cleanable n);
      changed = sym (ap (count_by is_dirty) f ∙ none_dirty n);
      first = record { within = omega arith; held = λ j low. absurd (omega arith); free = λ low. free 0 };
    }

-- at most all frames are dirty, and one is where one is
pub few_dirty : (frames : List (Option Frame)) (pages : List (Option PageNo)) (recency : RecencyList) (unpinned cleanable : List Bool) (dirty fresh : ℕ)
    → Keeps frames pages recency unpinned cleanable dirty fresh → dirty ≤ length frames
few_dirty frames pages recency unpinned cleanable dirty fresh k = subst (λ n. n ≤ length frames) (sym k.changed) (count_by-le-length is_dirty frames)

some_passes : (frames : List (Option Frame)) (i : ℕ) → is_dirty (frame_in frames i) ≡ true → 0 < length (filter is_dirty frames)
some_passes [] i h = absurd (false≢true h)
some_passes (o ∷ os) zero h = subst (λ (fs : List (Option Frame)). 0 < length fs) (sym (cond-true (is_dirty o) (o ∷ filter is_dirty os) (filter is_dirty os) h)) (omega arith)
some_passes (o ∷ os) (suc i) h =
    ⊎_elim (λ t. subst (λ (fs : List (Option Frame)). 0 < length fs) (sym (cond-true (is_dirty o) (o ∷ filter is_dirty os) (filter is_dirty os) t)) (omega arith))
    (λ f. subst (λ (fs : List (Option Frame)). 0 < length fs) (sym (cond-false (is_dirty o) (o ∷ filter is_dirty os) (filter is_dirty os) f)) (some_passes os i h))
    (cases_Bool (is_dirty o))

-- a change in its two steps
pub changed_by : (s : PoolState) (i at : ℕ) (bytes : List ℕ) (b : Bool) → i < length s.frames → b ≡ is_pinned (frame_at s i)
    → with_frame (with_frame s i (λ f. record f { content = record { bytes = overwritten f.content.bytes at bytes } })) i (λ f. record f { dirty = true; pinned = b }) ≡ changed s i at bytes
changed_by s i at bytes b lt e =
    let write : Frame → Frame = λ f. record f { content = record { bytes = overwritten f.content.bytes at bytes } } in
    let mark : Frame → Frame = λ f. record f { dirty = true; pinned = b } in
    let both : Frame → Frame = λ f. record f { content = record { bytes = overwritten f.content.bytes at bytes }; dirty = true } in
    let one : List (Option Frame) = set s.frames i (option_map write (frame_in s.frames i)) in
    let P : Option Frame → Type 0 = λ o. b ≡ is_pinned o → option_map mark (option_map write o) ≡ option_map both o in
    let same : option_map mark (option_map write (frame_in s.frames i)) ≡ option_map both (frame_in s.frames i) =
    elim (frame_in s.frames i) as P [ None ↦ λ h. refl | Some f ↦ λ h. ap (λ n. let g : Frame = record (both f) { pinned = n } in Some g) h ] e in
    let frames : set one i (option_map mark (frame_in one i)) ≡ set s.frames i (option_map both (frame_in s.frames i)) =
    ap (λ o. set one i (option_map mark o)) (get_or-set_same s.frames i (option_map write (frame_in s.frames i)) None lt)
    ∙ set-set s.frames i (option_map write (frame_in s.frames i)) (option_map mark (option_map write (frame_in s.frames i)))
    ∙ ap (set s.frames i) same in
    ap (λ fs. let t : PoolState = record { frames = fs; recent = s.recent } in t) frames
