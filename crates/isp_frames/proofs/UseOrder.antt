-- Frames that are cleaned in the order of use, the least recently used first.
use Rattle.std.proofs.Common.{◌≡◌, ◌∙◌, ◌&&◌, ◌<◌, ⊎_elim, inl, inr, Bool, true, false, not, cond, List, [], ◌∷◌, ℕ, Option, Some, None, refl, sym, ap, subst, length}
use Rattle.std.specs.Option.{option_map, option_or}
use Rattle.std.proofs.lemmas.Bool.{false≢true, cases_Bool, cases_eq, cond-false, cond-true}
use Rattle.isp_recency.specs.Recent.{has, last_where}
use Rattle.isp_recency.proofs.RecentLaws.{has_cases, last_passes, none_passes}
use Rattle.isp_frames.specs.Held.{IsCleaned, LeavesLaterUsed, StandsBefore, cleaned_at}
use Rattle.isp_frames.proofs.NowLaws.{frame_below}
use Rattle.isp_pool.specs.declared.frames.Frame.{Frame}
use Rattle.isp_pool.specs.Frames.{IsPool, PoolState, frame_at, frame_in, is_cleanable, is_dirty, is_held, is_pinned}
use Rattle.isp_pool.proofs.StateLaws.{edited_here, edited_other}

first_before : (i f x : ℕ) (xs : List ℕ) → i ≡ x → has xs f ≡ true → StandsBefore i f (x ∷ xs)
first_before i f x xs here there = inl (sym here, there)

rest_before : (i f x : ℕ) (xs : List ℕ) → StandsBefore i f xs → StandsBefore i f (x ∷ xs)
rest_before i f x xs before = inr before

-- who passes and isn't the last that passes stands before the last
pub last_later : (test : ℕ → Bool) (xs : List ℕ) (i f : ℕ) → last_where test xs ≡ Some f → has xs i ≡ true → test i ≡ true → (i ≡ f → ⊥) → StandsBefore i f xs
last_later test [] i f e there pass away = absurd (false≢true there)
last_later test (x ∷ xs) i f e there pass away =
    let P : Option ℕ → Type 0 = λ o. o ≡ last_where test xs → option_or o (cond (test x) (Some x) None) ≡ Some f → StandsBefore i f (x ∷ xs) in
    elim (last_where test xs) as P [
      | Some k ↦ λ is same.
          let found : last_where test xs ≡ Some f = sym is ∙ same in
          ⊎_elim (λ here. first_before i f x xs here (last_passes test xs f found).0)
          (λ later. rest_before i f x xs (last_later test xs i f found later pass away)) (has_cases i x xs there)
      | None ↦ λ is same.
          ⊎_elim
          (λ yes_is. let k : x ≡ f = let c = cond-true (test x) (Some x) None yes_is in cc in
          ⊎_elim (λ here. absurd (away (here ∙ k))) (λ later. absurd (false≢true (sym (none_passes test xs (sym is) i later) ∙ pass))) (has_cases i x xs there))
          (λ no_is. let c = cond-false (test x) (Some x) None no_is in let bad : None ≡ Some f = sym c ∙ same in cc)
          (cases_Bool (test x))
    ] refl e

-- what a dirty frame is besides
dirty_held : (o : Option Frame) → is_dirty o ≡ true → is_held o ≡ true
dirty_held None dirty = absurd (false≢true dirty)
dirty_held (Some f) dirty = refl

dirty_cleanable : (o : Option Frame) → is_dirty o ≡ true → is_pinned o ≡ false → is_cleanable o ≡ true
dirty_cleanable None dirty flag = absurd (false≢true dirty)
dirty_cleanable (Some f) dirty flag = λ i. dirty i && not (flag i)

cleaned_flag : (o : Option Frame) → is_dirty (option_map (λ (f : Frame). record f { dirty = false }) o) ≡ false
cleaned_flag None = refl
cleaned_flag (Some f) = refl

held_below : (frames : List (Option Frame)) (i : ℕ) → is_held (frame_in frames i) ≡ true → i < length frames
held_below frames i held = its (frame_in frames i) refl
  where
    its : (o : Option Frame) → frame_in frames i ≡ o → i < length frames
    its None e = absurd (false≢true (ap is_held (sym e) ∙ held))
    its (Some f) e = frame_below frames i f e

pub later_none : (s : PoolState) → LeavesLaterUsed s s
later_none s = λ i j dirty was clean. absurd (false≢true (sym clean ∙ was))

-- the last dirty frame of the order of use was cleaned besides
pub later_more : (old s : PoolState) (f : ℕ) → IsPool s → IsCleaned old s → ((k : ℕ) → is_pinned (frame_at s k) ≡ false) → last_where (λ k. is_cleanable (frame_at s k)) s.recent ≡ Some f
    → LeavesLaterUsed old s → LeavesLaterUsed old (cleaned_at s f)
later_more old s f pool cleaned unpinned which so_far = λ i j dirty was clean.
    let clean_flag : Frame → Frame = λ h. record h { dirty = false } in
    let found = last_passes (λ k. is_cleanable (frame_at s k)) s.recent f which in
    let lt : f < length s.frames = held_below s.frames f (sym (pool.recent f) ∙ found.0) in
    let gone : is_dirty (frame_at (cleaned_at s f) f) ≡ false = ap is_dirty (edited_here s f clean_flag lt) ∙ cleaned_flag (frame_at s f) in
    let away : i ≡ f → ⊥ = λ same. false≢true (sym (ap (λ (n : ℕ). is_dirty (frame_at (cleaned_at s f) n)) same ∙ gone) ∙ dirty) in
    let still : is_dirty (frame_at s i) ≡ true = ap is_dirty (sym (edited_other s f clean_flag i away)) ∙ dirty in
    let before : StandsBefore i f s.recent =
    last_later (λ k. is_cleanable (frame_at s k)) s.recent i f which (pool.recent i ∙ dirty_held (frame_at s i) still) (dirty_cleanable (frame_at s i) still (unpinned i)) away in
    ⊎_elim
    (λ same. subst (λ (k : ℕ). StandsBefore i k old.recent) (sym same) (subst (λ (xs : List ℕ). StandsBefore i f xs) cleaned.recent before))
    (λ other. so_far i j still was (ap is_dirty (sym (edited_other s f clean_flag j other)) ∙ clean)) (cases_eq j f)
