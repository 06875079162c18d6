-- Laws on what the calls of a pool leave, frame by frame and byte by byte, for those who reason from its contracts.
use Rattle.std.proofs.Common.{◌≡◌, ◌∙◌, ◌+◌, ◌-◌, ◌<◌, ◌≤◌, false, cond, List, [], ◌∷◌, ◌++◌, ℕ, suc, Option, Some, None, refl, ap, arith, length, get_or, set, length-set, take, drop, true, sym, ⊎_elim, length-append}
use Rattle.std.specs.List.{count_by}
use Rattle.std.specs.Option.{option_map}
use Rattle.std.proofs.lemmas.Bool.{cases_lt, false≢true}
use Rattle.std.proofs.lemmas.List.{get_or_past, length-drop, get_or-set_same, get_or-set_other, get_or_append_left, get_or-append_right, get_or-take, get_or-drop, length-take-le}
use Rattle.std.proofs.lemmas.List.Sums.{sum_by-set, sum_by-cons}
use Rattle.isp_format.specs.declared.page.Page.{Page}
use Rattle.isp_base.specs.declared.page_no.PageNo.{PageNo}
use Rattle.isp_pool.specs.declared.frames.Frame.{Frame}
use Rattle.isp_pool.specs.Frames.{PoolState, frame_in, frame_at, is_dirty, is_held, page_of, with_frame, loaded, fresh_frame, overwritten, one_if}

-- the frame that was written, the others, and their count
pub loaded_here : (s : PoolState) (i : ℕ) (p : PageNo) (page : Page) → i < length s.frames → frame_at (loaded s i p page) i ≡ Some (fresh_frame p page)
loaded_here s i p page lt = get_or-set_same s.frames i (Some (fresh_frame p page)) None lt

pub loaded_other : (s : PoolState) (i : ℕ) (p : PageNo) (page : Page) (j : ℕ) → (j ≡ i → ⊥) → frame_at (loaded s i p page) j ≡ frame_at s j
loaded_other s i p page j away = get_or-set_other s.frames i j (Some (fresh_frame p page)) None away

pub loaded_count : (s : PoolState) (i : ℕ) (p : PageNo) (page : Page) → length (loaded s i p page).frames ≡ length s.frames
loaded_count s i p page = length-set s.frames i (Some (fresh_frame p page))

pub edited_here : (s : PoolState) (i : ℕ) (edit : Frame → Frame) → i < length s.frames → frame_at (with_frame s i edit) i ≡ option_map edit (frame_at s i)
edited_here s i edit lt = get_or-set_same s.frames i (option_map edit (frame_at s i)) None lt

pub edited_other : (s : PoolState) (i : ℕ) (edit : Frame → Frame) (j : ℕ) → (j ≡ i → ⊥) → frame_at (with_frame s i edit) j ≡ frame_at s j
edited_other s i edit j away = get_or-set_other s.frames i j (option_map edit (frame_at s i)) None away

pub edited_count : (s : PoolState) (i : ℕ) (edit : Frame → Frame) → length (with_frame s i edit).frames ≡ length s.frames
edited_count s i edit = length-set s.frames i (option_map edit (frame_at s i))

-- bytes before, in and behind the range that was written
pub before_written : (xs : List ℕ) (at : ℕ) (bytes : List ℕ) (k d : ℕ) → at ≤ length xs → k < at → get_or (overwritten xs at bytes) k d ≡ get_or xs k d
before_written xs at bytes k d le lt =
    let long = length-take-le at xs le in
    get_or_append_left (take at xs) (bytes ++ drop (at + length bytes) xs) d k (omega arith) ∙ get_or-take at xs k d lt

pub in_written : (xs : List ℕ) (at : ℕ) (bytes : List ℕ) (k d : ℕ) → at ≤ length xs → at ≤ k → k < at + length bytes → get_or (overwritten xs at bytes) k d ≡ get_or bytes (k - at) d
in_written xs at bytes k d le low high =
    get_or-append_right (take at xs) (bytes ++ drop (at + length bytes) xs) at k d (length-take-le at xs le) low
    ∙ get_or_append_left bytes (drop (at + length bytes) xs) d (k - at) (omega arith)

pub behind_written : (xs : List ℕ) (at : ℕ) (bytes : List ℕ) (k d : ℕ) → at ≤ length xs → at + length bytes ≤ k → get_or (overwritten xs at bytes) k d ≡ get_or xs k d
behind_written xs at bytes k d le low =
    let rest : (at + length bytes) + ((k - at) - length bytes) ≡ k = omega arith in
    get_or-append_right (take at xs) (bytes ++ drop (at + length bytes) xs) at k d (length-take-le at xs le) (omega arith)
    ∙ get_or-append_right bytes (drop (at + length bytes) xs) (length bytes) (k - at) d refl (omega arith)
    ∙ get_or-drop (at + length bytes) xs ((k - at) - length bytes) d ∙ ap (λ n. get_or xs n d) rest

-- how many frames are dirty after one was written; none where none is
pub dirty_after : (frames : List (Option Frame)) (i : ℕ) (o : Option Frame) → i < length frames
    → count_by is_dirty (set frames i o) + one_if (is_dirty (frame_in frames i)) ≡ count_by is_dirty frames + one_if (is_dirty o)
dirty_after frames i o lt = sum_by-set (λ f. cond (is_dirty f) 1 0) frames i o None lt

pub none_dirty : (frames : List (Option Frame)) → ((i : ℕ) → is_dirty (frame_in frames i) ≡ false) → count_by is_dirty frames ≡ 0
none_dirty [] clean = refl
none_dirty (o ∷ os) clean =
    let first : cond (is_dirty o) 1 0 ≡ 0 = ap (λ b. cond b 1 0) (clean 0) in
    sum_by-cons (λ f. cond (is_dirty f) 1 0) o os ∙ ap (λ n. n + count_by is_dirty os) first ∙ ap (λ n. 0 + n) (none_dirty os (λ i. clean (suc i)))

-- a frame that holds a page is one of them, and what it holds
pub held_is : (o : Option Frame) → is_held o ≡ true → (f : Frame) × (o ≡ Some f)
held_is None h = absurd (false≢true h)
held_is (Some f) h = (f, refl)

pub held_below : (frames : List (Option Frame)) (i : ℕ) → is_held (frame_in frames i) ≡ true → i < length frames
held_below frames i h =
    ⊎_elim (λ lt. lt) (λ past. absurd (false≢true (sym (ap is_held (get_or_past frames i None past)) ∙ h))) (cases_lt i (length frames))

pub held_from_page : (o : Option Frame) (p : PageNo) → page_of o ≡ Some p → is_held o ≡ true
held_from_page None p e = cc
held_from_page (Some f) p e = refl

pub length-overwritten : (xs : List ℕ) (at : ℕ) (bytes : List ℕ) → at + length bytes ≤ length xs → length (overwritten xs at bytes) ≡ length xs
length-overwritten xs at bytes le =
    omega (
      arith,
      length-append (take at xs) (bytes ++ drop (at + length bytes) xs),
      length-append bytes (drop (at + length bytes) xs),
      length-take-le at xs (omega arith),
      length-drop (at + length bytes) xs,
    )
