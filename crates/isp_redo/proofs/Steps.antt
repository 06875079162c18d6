-- What the two phases of an append and the one of a reset leave of the log, as statements on bytes.
use Rattle.std.proofs.Common.{◌≡◌, ◌≢◌, ◌⊎◌, inl, inr, ⊎_elim, ◌==◌, true, false, ℕ, zero, suc, ◌+◌, ◌-◌, ◌<◌, ◌≤◌, List, [], ◌∷◌, ◌++◌, length, refl, sym, ◌∙◌, ap, subst, arith}
use Rattle.std.proofs.lemmas.Bool.Decides.{nat_tests}
use Rattle.isp_disk.specs.Moments.{Image, Agree, Within, in_range, slice}
use Rattle.isp_disk.proofs.MomentLaws.{agree_wider, agree_on}
use Rattle.isp_format.specs.Log.{IsBatch, IsBody, IsLog, Transaction, log_bytes, log_of, log_place}
use Rattle.isp_format.proofs.LogWalks.{SameOn, log_same, one_more, closed, walked, walk_same, walk_ends}
use Rattle.isp_format.proofs.Offsets.{range_within}
use Rattle.isp_format.proofs.Places.{above, below as before_start}
use Rattle.isp_format.proofs.Slices.{slice_moved}
use Rattle.isp_redo.specs.Changes.{HasBody, HasLogOf, in_log}

-- the log before a range that was written is the same
before_range : (old left : Image) (at size end : ℕ) → Agree (in_range (log_place + at) size) old left → end ≤ at → SameOn (log_of old) (log_of left) 0 end
before_range old left at size end agree below k inside =
    agree (log_place + (0 + k)) (before_start (log_place + at) size (log_place + (0 + k)) (omega (arith, below, inside)))

-- what was written lies in the log
pub within_log : (at size : ℕ) → at + size ≤ log_bytes → Within (in_range (log_place + at) size) in_log
within_log at size inside = range_within log_place log_bytes (log_place + at) size (omega arith) (omega (arith, inside))

-- behind the gate that ends the log nothing counts
pub kept_behind : (pages : ℕ) (old left : Image) (batches : List (List Transaction)) (end size : ℕ) → IsLog pages (log_of old) 0 batches end → Agree (in_range (log_place + end + 1) size) old left → IsLog pages (log_of left) 0 batches end
kept_behind pages old left batches end size is agree =
    let place : log_place + end + 1 ≡ log_place + (end + 1) = omega arith in
    let moved = subst (λ (at : ℕ). Agree (in_range at size) old left) place agree in
    let length_is : suc end - 0 ≡ end + 1 = omega arith in
    log_same pages (log_of old) (log_of left) 0 batches end is (subst (λ (n : ℕ). SameOn (log_of old) (log_of left) 0 n) (sym length_is) (before_range old left (end + 1) size (end + 1) moved (omega arith)))

pub behind_has : (pages : ℕ) (old left : Image) (batches batches_now : List (List Transaction)) (end size end_now : ℕ) → IsLog pages (log_of old) 0 batches end → end + 1 + size ≤ log_bytes → Agree (in_range (log_place + end + 1) size) old left → HasLogOf pages old (record { batches = batches; end = end }) (record { batches = batches_now; end = end_now }) left
behind_has pages old left batches batches_now end size end_now is inside agree =
    let place : log_place + end + 1 ≡ log_place + (end + 1) = omega arith in
    let moved = subst (λ (at : ℕ). Agree (in_range at size) old left) place agree in
    record {
      log = inl (kept_behind pages old left batches end size is agree);
      others = agree_wider (in_range (log_place + (end + 1)) size) in_log old left (within_log (end + 1) size (omega (arith, inside))) moved;
    }

-- a slice of the log by itself is one of the image
pub log_slice : (image : Image) (at n : ℕ) → slice (log_of image) at n ≡ slice image (log_place + at) n
log_slice image at zero = refl
log_slice image at (suc n) =
    let up : log_place + suc at ≡ suc (log_place + at) = omega arith in
    λ i. image (log_place + at) ∷ (log_slice image (suc at) n ∙ ap (λ (place : ℕ). slice image place n) up) i

-- what stands behind a byte that was written is the same
behind_byte : (old left : Image) (at place size : ℕ) → Agree (in_range at 1) old left → at < place → SameOn old left place size
behind_byte old left at place size agree behind k inside = agree (place + k) (above at 1 (place + k) (omega (arith, behind)))

-- What the first phase leaves: behind the closed gate at the end of the log stand the length of a body, the body and a
-- closed gate.
pub record IsLaid (old mid : Image) (end : ℕ) (body : List ℕ) : Type 0 where
  pub others : Agree (in_range (log_place + end + 1) (length body + 5)) old mid
  pub has : HasBody mid (log_place + end) body

-- a body that was laid, once the gate before it is opened, is a batch
batch_opened : (pages : ℕ) (old mid left : Image) (end : ℕ) (batch : List Transaction) (body : List ℕ) → end + 5 + length body < log_bytes → IsBody pages batch body
    → IsLaid old mid end body → Agree (in_range (log_place + end) 1) mid left → left (log_place + end) ≡ 1
    → IsBatch pages (log_of left) end batch (end + 5 + length body)
batch_opened pages old mid left end batch body inside means is agree opened =
    let size_place : log_place + (end + 1) ≡ log_place + end + 1 = omega arith in
    let body_place : log_place + (end + 5) ≡ log_place + end + 5 = omega arith in
    record {
      body = body;
      gate = opened;
      size =
          log_slice left (end + 1) 4 ∙ ap (λ (place : ℕ). slice left place 4) size_place
          ∙ sym (slice_moved mid left (log_place + end + 1) (log_place + end + 1) 4 (behind_byte mid left (log_place + end) (log_place + end + 1) 4 agree (omega arith)))
          ∙ is.has.size;
      stands =
          log_slice left (end + 5) (length body) ∙ ap (λ (place : ℕ). slice left place (length body)) body_place
          ∙ sym (slice_moved mid left (log_place + end + 5) (log_place + end + 5) (length body) (behind_byte mid left (log_place + end) (log_place + end + 5) (length body) agree (omega arith)))
          ∙ is.has.stands;
      behind = refl;
      inside = inside;
      means = means;
    }

-- an open gate makes the batch count
pub opened_is : (pages : ℕ) (old mid left : Image) (batches : List (List Transaction)) (end : ℕ) (batch : List Transaction) (body : List ℕ) → IsLog pages (log_of old) 0 batches end → end + 5 + length body < log_bytes → IsBody pages batch body
    → IsLaid old mid end body → Agree (in_range (log_place + end) 1) mid left → left (log_place + end) ≡ 1
    → IsLog pages (log_of left) 0 (batches ++ batch ∷ []) (end + 5 + length body)
opened_is pages old mid left batches end batch body log inside means is agree opened =
    let next = end + 5 + length body in
    let next_place : log_place + next ≡ log_place + end + 5 + length body = omega arith in
    let shut : left (log_place + next) ≡ 0 = ap left next_place ∙ sym (agree (log_place + end + 5 + length body) (above (log_place + end) 1 (log_place + end + 5 + length body) (omega arith))) ∙ is.has.gate in
    one_more pages (log_of mid) (log_of left) batches end batch next (kept_behind pages old mid batches end (length body + 5) log is.others)
    (before_range mid left end 1 end agree (omega arith))
    (batch_opened pages old mid left end batch body inside means is agree opened)
    (λ one. absurd (omega (arith, shut, one)))

-- a gate that isn't open ends the log where it ended
shut_is : (pages : ℕ) (old mid left : Image) (batches : List (List Transaction)) (end : ℕ) (body : List ℕ) → IsLog pages (log_of old) 0 batches end
    → IsLaid old mid end body → Agree (in_range (log_place + end) 1) mid left → left (log_place + end) ≢ 1
    → IsLog pages (log_of left) 0 batches end
shut_is pages old mid left batches end body log is agree shut =
    let kept = kept_behind pages old mid batches end (length body + 5) log is.others in
    let length_is : end - 0 ≡ end = omega arith in
    walk_ends pages (log_of left) 0 batches end
    (walk_same pages (log_of mid) (log_of left) 0 batches end (walked pages (log_of mid) 0 batches end kept) (subst (λ (n : ℕ). SameOn (log_of mid) (log_of left) 0 n) (sym length_is) (before_range mid left end 1 end agree (omega arith))))
    shut

-- a byte is 1 or it isn't
is_open : (b : ℕ) → (b ≡ 1) ⊎ (b ≢ 1)
is_open b = elim (b == 1) as (λ t. (b == 1) ≡ t → (b ≡ 1) ⊎ (b ≢ 1)) [ true ↦ λ t. inl (grind (arith, nat_tests, t)) | false ↦ λ t. inr (λ one. absurd (grind (arith, nat_tests, t, one))) ] refl

pub opened_has : (pages : ℕ) (old mid left : Image) (batches : List (List Transaction)) (end : ℕ) (batch : List Transaction) (body : List ℕ) → IsLog pages (log_of old) 0 batches end → end + 5 + length body < log_bytes → IsBody pages batch body
    → IsLaid old mid end body → Agree (in_range (log_place + end) 1) mid left
    → HasLogOf pages old (record { batches = batches; end = end }) (record { batches = batches ++ batch ∷ []; end = end + 5 + length body }) left
opened_has pages old mid left batches end batch body log inside means is agree =
    let place : log_place + end + 1 ≡ log_place + (end + 1) = omega arith in
    let others = subst (λ (at : ℕ). Agree (in_range at (length body + 5)) old mid) place is.others in
    record {
      log = ⊎_elim (λ opened. inr (opened_is pages old mid left batches end batch body log inside means is agree opened)) (λ shut. inl (shut_is pages old mid left batches end body log is agree shut)) (is_open (left (log_place + end)));
      others = agree_on in_log old mid left
          (agree_wider (in_range (log_place + (end + 1)) (length body + 5)) in_log old mid (within_log (end + 1) (length body + 5) (omega (arith, inside))) others)
          (agree_wider (in_range (log_place + end) 1) in_log mid left (within_log end 1 (omega (arith, inside))) agree);
    }

-- ---- reset

-- a log that doesn't end at its beginning begins with an open gate
begins_open : (pages : ℕ) (log : Image) (batches : List (List Transaction)) (end : ℕ) → IsLog pages log 0 batches end → end ≢ 0 → log 0 ≡ 1
begins_open pages log [] end is some = absurd (some is.1)
begins_open pages log (batch ∷ batches) end (next, is, rest) some = is.gate

-- where the first gate alone was written and is open still, nothing has changed
still_same : (old left : Image) → Agree (in_range log_place 1) old left → old log_place ≡ left log_place → (place : ℕ) → old place ≡ left place
still_same old left agree gate place = ⊎_elim
    (λ (here : place ≡ log_place). ap old here ∙ gate ∙ ap left (sym here))
    (λ there. agree place there)
    (is_gate place)
  where
    is_gate : (place : ℕ) → (place ≡ log_place) ⊎ (in_range log_place 1 place ≡ false)
    is_gate place = elim (place == log_place) as (λ t. (place == log_place) ≡ t → (place ≡ log_place) ⊎ (in_range log_place 1 place ≡ false)) [ true ↦ λ t. inl (grind (arith, nat_tests, t)) | false ↦ λ t. inr (grind (arith, nat_tests, t)) ] refl

pub reset_has : (pages : ℕ) (old left : Image) (batches : List (List Transaction)) (end : ℕ) → IsLog pages (log_of old) 0 batches end → end ≢ 0 → Agree (in_range log_place 1) old left → HasLogOf pages old (record { batches = batches; end = end }) (record { batches = []; end = 0 }) left
reset_has pages old left batches end log some agree =
    let opened : old log_place ≡ 1 = begins_open pages (log_of old) batches end log some in
    record {
      log = ⊎_elim
          (λ (one : left log_place ≡ 1). inl (log_same pages (log_of old) (log_of left) 0 batches end log (λ k below. still_same old left agree (opened ∙ sym one) (log_place + (0 + k)))))
          (λ shut. inr ((λ one. shut one), refl))
          (is_open (left log_place));
      others = agree_wider (in_range log_place 1) in_log old left (range_within log_place log_bytes log_place 1 (omega arith) (omega arith)) agree;
    }

-- a log whose first gate is closed is empty
pub reset_is : (pages : ℕ) (left : Image) → left log_place ≡ 0 → IsLog pages (log_of left) 0 [] 0
reset_is pages left shut = ((λ one. let none : ◌≡◌ {A = ℕ} 0 1 → ⊥ = λ e. omega (arith, e) in none (sym shut ∙ one)), refl)

-- an image that is the same has the same log
pub same_has : (pages : ℕ) (old left : Image) (batches batches_now : List (List Transaction)) (end end_now : ℕ) → IsLog pages (log_of old) 0 batches end → ((place : ℕ) → old place ≡ left place) → HasLogOf pages old (record { batches = batches; end = end }) (record { batches = batches_now; end = end_now }) left
same_has pages old left batches batches_now end end_now log same = record {
  log = inl (log_same pages (log_of old) (log_of left) 0 batches end log (λ k below. same (log_place + (0 + k))));
  others = λ place out. same place;
}

-- a log that ends at its beginning is empty
pub empty_is : (pages : ℕ) (log : Image) (batches : List (List Transaction)) (end : ℕ) → IsLog pages log 0 batches end → end ≡ 0 → IsLog pages log 0 [] 0
empty_is pages log batches end is none = (λ one. closed pages log 0 batches end is (ap log none ∙ one), refl)
