-- The list of copies as numbers, and its rule as a test.
use Rattle.std.proofs.Common.{◌≡◌, ◌≢◌, ℕ, suc, ◌+◌, ◌*◌, ◌<◌, ◌≤◌, ◌==◌, ◌&&◌, not, Bool, true, false, List, [], ◌∷◌, All, length, map, min, take, refl, sym, ◌∙◌, ap, subst, arith}
use Rattle.std.specs.Prelude.{nat_lt, slice_index}
use Rattle.std.specs.List.{list_any}
use Rattle.std.proofs.lemmas.List.Elements.{All-cons, All-head, All-tail}
use Rattle.std.proofs.lemmas.List.{get_or-take, length-take}
use Rattle.std.proofs.lemmas.Bool.Decides.{nat_tests}
use Rattle.byteorder.specs.Endian.{big_number}
use Rattle.isp_disk.specs.Moments.{Image, slice}
use Rattle.isp_format.proofs.Headers.{slice_byte}
use Rattle.isp_format.proofs.Slices.{slice_moved}
use Rattle.isp_doublewrite.specs.Lists.{HasNumbers, IsNumbers, are_good, is_copy_list}
use Rattle.isp_format.specs.Doublewrite.{AreDistinct, HasCopies, IsCopyList, copies, copies_from, copy_count, count_place, doublewrite_gate, list_place, list_size, most_copies}
use Rattle.isp_format.specs.Header.{number_in}
use Rattle.isp_format.specs.Numbers.{number_at}
use Rattle.isp_format.specs.Ranges.{Range}
use Rattle.isp_format.proofs.Local.{copies_open}
use Rattle.isp_format.proofs.Places.{neither, not_first, not_second}

numbers_from : (image : Image) (k : ℕ) (numbers : List ℕ) → ((j : ℕ) → j < length numbers → slice_index numbers j ≡ number_at 4 image (list_place + 4 * (k + j))) → map (λ (range : Range). range.page) (copies_from image k (length numbers)) ≡ numbers
numbers_from image k [] each = refl
numbers_from image k (number ∷ numbers) each =
    let here : k ≡ k + 0 = omega arith in
    let first : number_at 4 image (list_place + 4 * k) ≡ number = ap (λ (n : ℕ). number_at 4 image (list_place + 4 * n)) here ∙ sym (each 0 (omega arith)) in
    let rest : map (λ (range : Range). range.page) (copies_from image (suc k) (length numbers)) ≡ numbers = numbers_from image (suc k) numbers (λ j less.
    let up : k + suc j ≡ suc k + j = omega arith in
    each (suc j) (omega (arith, less)) ∙ ap (λ (n : ℕ). number_at 4 image (list_place + 4 * n)) up) in
    λ i. first i ∷ rest i

-- numbers of a list are the pages of the copies
pub numbers_are : (image : Image) (numbers : List ℕ) → HasNumbers image numbers → map (λ range. range.page) (copies_from image 0 (length numbers)) ≡ numbers
numbers_are image numbers each = numbers_from image 0 numbers (λ j less.
    let none : j ≡ 0 + j = omega arith in
    each j less ∙ ap (λ (n : ℕ). number_at 4 image (list_place + 4 * n)) none)

-- so many of all of them
pub numbers_taken : (image : Image) (numbers : List ℕ) (count : ℕ) → count ≤ 64 → IsNumbers image numbers → HasNumbers image (take count numbers)
numbers_taken image numbers count most all k less =
    let in_front : k < count = omega (arith, less, length-take count numbers, all.all) in
    get_or-take count numbers k 0 in_front ∙ all.each k (omega (arith, in_front, most, all.all))

pub taken_long : (numbers : List ℕ) (count : ℕ) → count ≤ 64 → length numbers ≡ 64 → length (take count numbers) ≡ count
taken_long numbers count most all = omega (arith, length-take count numbers, all)

-- tests

both : (one other : Bool) → (one && other) ≡ true → (one ≡ true) × (other ≡ true)
both true other is = (refl, is)
both false other is = absurd (cc)

both_back : (one other : Bool) → one ≡ true → other ≡ true → (one && other) ≡ true
both_back one other is_one is_other = (λ i. is_one i && other) ∙ is_other

not_back : (b : Bool) → not b ≡ true → b ≡ false
not_back true is = absurd (cc)
not_back false is = refl

none_equal : (number : ℕ) (numbers : List ℕ) → list_any (λ other. other == number) numbers ≡ false → All (λ other. (number ≡ other) → ⊥) numbers
none_equal number [] none = λ k d inside. absurd (omega arith)
none_equal number (first ∷ numbers) none =
    let apart : (first == number) ≡ false = not_first (first == number) (list_any (λ other. other == number) numbers) none in
    let differs : first ≢ number = grind (arith, nat_tests, apart) in
    All-cons (λ other. (number ≡ other) → ⊥) first numbers (λ same. differs (sym same)) (none_equal number numbers (not_second (first == number) (list_any (λ other. other == number) numbers) none))

none_back : (number : ℕ) (numbers : List ℕ) → All (λ other. (number ≡ other) → ⊥) numbers → list_any (λ other. other == number) numbers ≡ false
none_back number [] none = refl
none_back number (first ∷ numbers) none =
    let differs : first ≢ number = λ same. All-head (λ other. (number ≡ other) → ⊥) first numbers none (sym same) in
    let apart : (first == number) ≡ false = grind (arith, nat_tests, differs) in
    neither (first == number) (list_any (λ other. other == number) numbers) apart (none_back number numbers (All-tail (λ other. (number ≡ other) → ⊥) first numbers none))

good_means : (pages : ℕ) (numbers : List ℕ) → are_good pages numbers ≡ true → All (λ page. page < pages) numbers × AreDistinct numbers
good_means pages [] is = ((λ k d inside. absurd (omega arith)), tt)
good_means pages (number ∷ numbers) is =
    let apart = both (nat_lt number pages && not (list_any (λ other. other == number) numbers)) (are_good pages numbers) is in
    let first = both (nat_lt number pages) (not (list_any (λ other. other == number) numbers)) apart.0 in
    let rest = good_means pages numbers apart.1 in
    let less : number < pages = grind (arith, nat_tests, first.0) in
    (All-cons (λ page. page < pages) number numbers less rest.0, (none_equal number numbers (not_back (list_any (λ other. other == number) numbers) first.1), rest.1))

good_back : (pages : ℕ) (numbers : List ℕ) → All (λ page. page < pages) numbers → AreDistinct numbers → are_good pages numbers ≡ true
good_back pages [] below distinct = refl
good_back pages (number ∷ numbers) below distinct =
    let less : number < pages = All-head (λ page. page < pages) number numbers below in
    let test : nat_lt number pages ≡ true = grind (arith, nat_tests, less) in
    let none = none_back number numbers distinct.0 in
    both_back (nat_lt number pages && not (list_any (λ other. other == number) numbers)) (are_good pages numbers)
    (both_back (nat_lt number pages) (not (list_any (λ other. other == number) numbers)) test (ap not none))
    (good_back pages numbers (All-tail (λ page. page < pages) number numbers below) distinct.1)

pub list_means : (pages count : ℕ) (numbers : List ℕ) → is_copy_list pages count numbers ≡ true → IsCopyList pages count numbers
list_means pages count numbers is =
    let apart = both (not (count == 0) && not (nat_lt 64 count)) (are_good pages numbers) is in
    let sizes = both (not (count == 0)) (not (nat_lt 64 count)) apart.0 in
    let some : (count == 0) ≡ false = not_back (count == 0) sizes.0 in
    let most : nat_lt 64 count ≡ false = not_back (nat_lt 64 count) sizes.1 in
    let good = good_means pages numbers apart.1 in
    record { some = grind (arith, nat_tests, some); most = grind (arith, nat_tests, most); below = good.0; distinct = good.1 }

pub list_back : (pages count : ℕ) (numbers : List ℕ) → IsCopyList pages count numbers → is_copy_list pages count numbers ≡ true
list_back pages count numbers good =
    let some : (count == 0) ≡ false = grind (arith, nat_tests, good.some) in
    let most : nat_lt 64 count ≡ false = grind (arith, nat_tests, good.most) in
    both_back (not (count == 0) && not (nat_lt 64 count)) (are_good pages numbers)
    (both_back (not (count == 0)) (not (nat_lt 64 count)) (ap not some) (ap not most))
    (good_back pages numbers good.below good.distinct)

-- the pages of the copies that count, where the gate is 1
pub copied_are : (image : Image) (numbers : List ℕ) → image doublewrite_gate ≡ 1 → IsNumbers image numbers → map (λ copy. copy.page) (copies image) ≡ take (min (copy_count image) 64) numbers
copied_are image numbers gate all =
    let count = min (copy_count image) most_copies in
    let most : count ≤ 64 = omega arith in
    let long : count ≡ length (take count numbers) = sym (taken_long numbers count most all.all) in
    ap (map (λ (range : Range). range.page)) (copies_open image gate ∙ ap (copies_from image 0) long)
    ∙ numbers_are image (take count numbers) (numbers_taken image numbers count most all)

-- the test of the rule
pub rule_means : (pages : ℕ) (image : Image) (numbers : List ℕ) → image doublewrite_gate ≡ 1 → IsNumbers image numbers → is_copy_list pages (copy_count image) (take (min (copy_count image) 64) numbers) ≡ true → HasCopies pages image
rule_means pages image numbers gate all is also =
    subst (λ (ns : List ℕ). IsCopyList pages (copy_count image) ns) (sym (copied_are image numbers gate all)) (list_means pages (copy_count image) (take (min (copy_count image) 64) numbers) is)

pub rule_back : (pages : ℕ) (image : Image) (numbers : List ℕ) → image doublewrite_gate ≡ 1 → IsNumbers image numbers → HasCopies pages image → is_copy_list pages (copy_count image) (take (min (copy_count image) 64) numbers) ≡ true
rule_back pages image numbers gate all has =
    list_back pages (copy_count image) (take (min (copy_count image) 64) numbers)
    (subst (λ (ns : List ℕ). IsCopyList pages (copy_count image) ns) (copied_are image numbers gate all) (has gate))

-- a number of the list, or how many count, from the bytes that were read
pub listed_number : (image : Image) (list : List ℕ) (at place : ℕ) → list ≡ slice image count_place list_size → at + 4 ≤ list_size → place ≡ count_place + at → number_in 4 list at ≡ number_at 4 image place
listed_number image list at place is inside there =
    ap (big_number 4) (slice_moved (slice_index list) image at place 4 (λ j less.
    let behind : count_place + (at + j) ≡ place + j = omega (arith, there) in
    ap (λ (l : List ℕ). slice_index l (at + j)) is
    ∙ slice_byte image count_place list_size (at + j) (omega (arith, less, inside))
    ∙ ap image behind))

-- the copies that count, as many as numbers were taken
pub copies_taken : (image : Image) (numbers : List ℕ) (count : ℕ) → image doublewrite_gate ≡ 1 → length numbers ≡ 64 → count ≡ copy_count image → count ≤ 64 → copies_from image 0 (length (take count numbers)) ≡ copies image
copies_taken image numbers count gate all is most =
    let long : length (take count numbers) ≡ min (copy_count image) most_copies = omega (arith, length-take count numbers, all, is, most) in
    ap (copies_from image 0) long ∙ sym (copies_open image gate)

-- and their pages
pub pages_taken : (image : Image) (numbers : List ℕ) (count : ℕ) → image doublewrite_gate ≡ 1 → IsNumbers image numbers → count ≡ copy_count image → count ≤ 64 → take count numbers ≡ map (λ copy. copy.page) (copies image)
pages_taken image numbers count gate all is most =
    let cut : count ≡ min (copy_count image) 64 = omega (arith, is, most) in
    ap (λ (n : ℕ). take n numbers) cut ∙ sym (copied_are image numbers gate all)
