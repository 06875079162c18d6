-- The slots in the bytes of the undo directory.
use Rattle.std.proofs.Common.{◌≡◌, ◌≢◌, ◌==◌, Bool, true, false, ℕ, suc, ◌+◌, ◌*◌, ◌<◌, ◌≤◌, List, [], ◌∷◌, ◌++◌, length, take, drop, set, get_or, refl, sym, ◌∙◌, ap, subst, arith}
use Rattle.std.specs.Prelude.{All}
use Rattle.std.specs.List.{flat_map}
use Rattle.std.proofs.lemmas.Grind.{flat_map-append}
use Rattle.std.proofs.lemmas.List.{append-nil, get_or-set_other, get_or-set_same, length-append, length-set, length-take-le, set-get_or, set_split}
use Rattle.std.proofs.lemmas.Bool.Decides.{nat_tests}
use Rattle.byteorder.specs.Numbers.{length-bytes_high_first}
use Rattle.isp_disk.specs.Moments.{Image, image_of, put, slice}
use Rattle.isp_format.specs.Numbers.{bytes_of, number_at}
use Rattle.isp_format.specs.Undo.{IsSlot, IsUndoDirectory, Slot as Ends, slot_bytes}
use Rattle.isp_format.proofs.Headers.{header_same}
use Rattle.isp_format.proofs.Parts.{number_next, slice_cut, slice_parts}
use Rattle.isp_format.proofs.Slices.{put_above, put_below, slice_agree, slice_put}
use Rattle.isp_undo_pages.specs.Directory.{ends_at}

slot_long : (ends : Ends) → length (slot_bytes ends) ≡ 8
slot_long ends = let sum = length-append (bytes_of 4 ends.0) (bytes_of 4 ends.1) in let first = length-bytes_high_first 4 ends.0 in let second = length-bytes_high_first 4 ends.1 in omega (arith, sum, first, second)

slots_long : (slots : List Ends) → length (flat_map slot_bytes slots) ≡ 8 * length slots
slots_long [] = refl
slots_long (ends ∷ slots) =
    let sum = length-append (slot_bytes ends) (flat_map slot_bytes slots) in
    let one = slot_long ends in
    let rest = slots_long slots in
    omega (arith, sum, one, rest)

-- all slots: those before, this one, those behind
with_parts : (slots : List Ends) (slot : ℕ) (ends : Ends) → slot < length slots → flat_map slot_bytes (set slots slot ends) ≡ flat_map slot_bytes (take slot slots) ++ (slot_bytes ends ++ flat_map slot_bytes (drop (suc slot) slots))
with_parts slots slot ends less = ap (flat_map slot_bytes) (set_split slots slot ends less) ∙ flat_map-append slot_bytes (take slot slots) (ends ∷ drop (suc slot) slots)

-- the same of the slots as they are
parts : (slots : List Ends) (slot : ℕ) → slot < length slots → flat_map slot_bytes slots ≡ flat_map slot_bytes (take slot slots) ++ (slot_bytes (ends_at slot slots) ++ flat_map slot_bytes (drop (suc slot) slots))
parts slots slot less = ap (flat_map slot_bytes) (sym (set-get_or slots slot (0, 0))) ∙ with_parts slots slot (ends_at slot slots) less

-- how the bytes of the slots are divided at one of them
pub record Divided (image : Image) (slots : List Ends) (slot : ℕ) : Type 0 where
  pub first_long : length (flat_map slot_bytes (take slot slots)) ≡ 8 * slot
  pub all_long : length (flat_map slot_bytes slots) ≡ 8 * slot + (8 + length (flat_map slot_bytes (drop (suc slot) slots)))
  pub first : slice image 64 (8 * slot) ≡ flat_map slot_bytes (take slot slots)
  pub here : slice image (64 + 8 * slot) 8 ≡ slot_bytes (ends_at slot slots)
  pub rest : slice image (64 + 8 * slot + 8) (length (flat_map slot_bytes (drop (suc slot) slots))) ≡ flat_map slot_bytes (drop (suc slot) slots)

take_long : (slots : List Ends) (slot : ℕ) → slot < length slots → length (flat_map slot_bytes (take slot slots)) ≡ 8 * slot
take_long slots slot less =
    let long = slots_long (take slot slots) in
    let count = length-take-le slot slots (omega (arith, less)) in
    omega (arith, long, count)

pub divided : (bytes : List ℕ) (slots : List Ends) (slot : ℕ) → slot < 32 → IsUndoDirectory bytes slots → Divided (image_of bytes) slots slot
divided bytes slots slot few directory =
    let count = directory.count in
    let less : slot < length slots = omega (arith, few, count) in
    let before : List ℕ = flat_map slot_bytes (take slot slots) in
    let here : List ℕ = slot_bytes (ends_at slot slots) in
    let behind : List ℕ = flat_map slot_bytes (drop (suc slot) slots) in
    let first_long : length before ≡ 8 * slot = take_long slots slot less in
    let here_long : length here ≡ 8 = slot_long (ends_at slot slots) in
    let same = parts slots slot less in
    let sum : length (before ++ (here ++ behind)) ≡ length before + length (here ++ behind) = length-append before (here ++ behind) in
    let sum_too : length (here ++ behind) ≡ length here + length behind = length-append here behind in
    let all_long : length (flat_map slot_bytes slots) ≡ 8 * slot + (8 + length behind) = ap length same ∙ omega (arith, sum, sum_too, first_long, here_long) in
    let spelled = directory.spelled ∙ same in
    let cut = slice_cut (image_of bytes) 64 before (here ++ behind) (length (flat_map slot_bytes slots)) spelled (ap length same ∙ sum) in
    let cut_too = slice_cut (image_of bytes) (64 + length before) here behind (length (here ++ behind)) cut.1 sum_too in
    record {
      first_long = first_long;
      all_long = all_long;
      first = subst (λ (n : ℕ). slice (image_of bytes) 64 n ≡ before) first_long cut.0;
      here = subst (λ (n : ℕ). slice (image_of bytes) (64 + n) 8 ≡ here) first_long (subst (λ (n : ℕ). slice (image_of bytes) (64 + length before) n ≡ here) here_long cut_too.0);
      rest = subst (λ (n : ℕ). slice (image_of bytes) (64 + n + 8) (length behind) ≡ behind) first_long (subst (λ (n : ℕ). slice (image_of bytes) (64 + length before + n) (length behind) ≡ behind) here_long cut_too.1);
    }

-- both numbers of a slot
pub ends_stand : (bytes : List ℕ) (slots : List Ends) (slot : ℕ) → slot < 32 → IsUndoDirectory bytes slots → (number_at 4 (image_of bytes) (64 + 8 * slot) ≡ (ends_at slot slots).0) × (number_at 4 (image_of bytes) (64 + 8 * slot + 4) ≡ (ends_at slot slots).1)
ends_stand bytes slots slot few directory =
    let count = directory.count in
    let is : IsSlot (ends_at slot slots) = directory.each slot (0, 0) (omega (arith, few, count)) in
    let here = (divided bytes slots slot few directory).here in
    let first = number_next 4 (ends_at slot slots).0 (image_of bytes) (64 + 8 * slot) 4 (64 + 8 * slot + 4) (bytes_of 4 (ends_at slot slots).1) is.0 refl here in
    let second = number_next 4 (ends_at slot slots).1 (image_of bytes) (64 + 8 * slot + 4) 0 (64 + 8 * slot + 8) [] is.1 (omega arith) (first.1 ∙ sym (append-nil (bytes_of 4 (ends_at slot slots).1))) in
    (first.0, second.0)

all_set : (P : Ends → Type 0) (slots : List Ends) (slot : ℕ) (ends : Ends) → All P slots → P ends → All P (set slots slot ends)
all_set P slots slot ends all is k d less = by (k == slot) refl
  where
    inside : k < length slots
    inside = let long = length-set slots slot ends in omega (arith, less, long)

    by : (b : Bool) → (k == slot) ≡ b → P (get_or (set slots slot ends) k d)
    by true same =
        let at : k ≡ slot = grind (arith, nat_tests, same) in
        let there : get_or (set slots slot ends) slot d ≡ ends = get_or-set_same slots slot ends d (subst (λ (n : ℕ). n < length slots) at inside) in
        subst (λ (n : ℕ). P (get_or (set slots slot ends) n d)) (sym at) (subst P (sym there) is)
    by false other =
        let apart : k ≢ slot = λ at. (let bad : (k == slot) ≡ true = grind (arith, nat_tests, at) in cc) in
        subst P (sym (get_or-set_other slots slot k ends d apart)) (all k d inside)

-- the directory with one slot written
pub slot_put : (old new : List ℕ) (slots : List Ends) (slot : ℕ) (ends : Ends) → slot < 32 → IsUndoDirectory old slots → IsSlot ends → image_of new ≡ put (image_of old) (64 + 8 * slot) (slot_bytes ends) → IsUndoDirectory new (set slots slot ends)
slot_put old new slots slot ends few directory is put_is =
    let count = directory.count in
    let less : slot < length slots = omega (arith, few, count) in
    let d = divided old slots slot few directory in
    let behind : List ℕ = flat_map slot_bytes (drop (suc slot) slots) in
    let here_long = slot_long ends in
    let low : (place : ℕ) → place < 64 + 8 * slot → image_of new place ≡ image_of old place = λ place less. ap (λ (image : Image). image place) put_is ∙ put_below (image_of old) (64 + 8 * slot) (slot_bytes ends) place less in
    let high : (place : ℕ) → 64 + 8 * slot + 8 ≤ place → image_of new place ≡ image_of old place = λ place from. ap (λ (image : Image). image place) put_is ∙ put_above (image_of old) (64 + 8 * slot) (slot_bytes ends) place (omega (arith, from, here_long)) in
    let first = slice_agree (image_of new) (image_of old) 64 (8 * slot) (λ place from to. low place to) ∙ d.first in
    let here : slice (image_of new) (64 + 8 * slot) 8 ≡ slot_bytes ends = subst (λ (n : ℕ). slice (image_of new) (64 + 8 * slot) n ≡ slot_bytes ends) here_long (ap (λ (image : Image). slice image (64 + 8 * slot) (length (slot_bytes ends))) put_is ∙ slice_put (image_of old) (64 + 8 * slot) (slot_bytes ends)) in
    let rest = slice_agree (image_of new) (image_of old) (64 + 8 * slot + 8) (length behind) (λ place from to. high place from) ∙ d.rest in
    let head = header_same new old (λ place less. low place (omega (arith, less))) in
    let same = with_parts slots slot ends less in
    let first_long = d.first_long in
    let long : length (flat_map slot_bytes (set slots slot ends)) ≡ 8 * slot + (8 + length behind) =
    let sum = length-append (flat_map slot_bytes (take slot slots)) (slot_bytes ends ++ behind) in
    let sum_too = length-append (slot_bytes ends) behind in
    ap length same ∙ omega (arith, sum, sum_too, first_long, here_long) in
    let spelled : slice (image_of new) 64 (8 * slot + (8 + length behind)) ≡ flat_map slot_bytes (take slot slots) ++ (slot_bytes ends ++ behind) =
    slice_parts (image_of new) 64 (8 * slot) (8 + length behind)
    ∙ (λ i. first i ++ slice (image_of new) (64 + 8 * slot) (8 + length behind))
    ∙ ap (λ (bytes : List ℕ). flat_map slot_bytes (take slot slots) ++ bytes) (slice_parts (image_of new) (64 + 8 * slot) 8 (length behind) ∙ (λ i. here i ++ rest i)) in
    record {
      head = record {
        kind_is = ap (λ (h : _). h.kind) head ∙ directory.head.kind_is;
        level_is = ap (λ (h : _). h.level) head ∙ directory.head.level_is;
        owner_is = ap (λ (h : _). h.owner) head ∙ directory.head.owner_is;
        own_is = ap (λ (h : _). h.own) head ∙ directory.head.own_is;
      };
      count = length-set slots slot ends ∙ count;
      spelled = ap (slice (image_of new) 64) long ∙ spelled ∙ sym same;
      each = all_set IsSlot slots slot ends directory.each is;
    }
