-- Where a leaf's content is cut, and its parts.
use Rattle.std.proofs.Common.{◌≡◌, ℕ, suc, ◌+◌, ◌*◌, ◌<◌, ◌≤◌, Bool, true, false, List, [], ◌∷◌, ◌++◌, length, take, Option, Some, None, refl, sym, ◌∙◌, ap, subst, arith, if◌then◌else◌}
use Rattle.std.specs.Prelude.{nat_le}
use Rattle.std.proofs.lemmas.Bool.Decides.{nat_tests}
use Rattle.std.proofs.lemmas.List.{append_assoc}
use Rattle.std.proofs.Math.Seq.{take-append_seam}
use Rattle.isp_disk.specs.Moments.{Image}
use Rattle.isp_format.specs.Leaf.{Stored, slot_of}
use Rattle.isp_cells.specs.Cells.{Stand}
use Rattle.isp_cells.specs.Rows.{bytes_in}
use Rattle.isp_cells.proofs.CellLaws.{first_stands, rows_length}
use Rattle.isp_levels.specs.Dividing.{halves, left_rows}
use Rattle.isp_levels.proofs.DividingLaws.{halved}
use Rattle.isp_division.specs.Halves.{cut_in}
use Rattle.isp_division.specs.declared.halves.Cut.{Cut}

-- the rows up to a place are fewer than half of all
pub record Cutting (image : Image) (used : ℕ) (all : List Stored) (at count : ℕ) : Type 0 where
  pub front : List Stored
  pub rest : List Stored
  pub all_is : all ≡ front ++ rest
  pub count_is : length front ≡ count
  pub at_is : bytes_in front ≡ at
  pub stand : Stand image at used rest
  pub less : 2 * at < used
  pub halves_is : halves all ≡ count + left_rows used at rest

pub cut_begins : (image : Image) (used : ℕ) (all : List Stored) → Stand image 0 used all → 4032 < used → Cutting image used all 0 0
cut_begins image used all st large =
    let size = st.size in
    let long = rows_length all in
    let whole : bytes_in all ≡ used = omega (arith, size, long) in
    record {
      front = [];
      rest = all;
      all_is = refl;
      count_is = refl;
      at_is = refl;
      stand = st;
      less = omega (arith, large);
      halves_is = ap (λ (n : ℕ). left_rows n 0 all) whole ∙ zero_and (left_rows used 0 all);
    }
  where
    zero_and : (n : ℕ) → n ≡ 0 + n
    zero_and n = omega arith

bytes_append : (xs ys : List Stored) → bytes_in (xs ++ ys) ≡ bytes_in xs + bytes_in ys
bytes_append [] ys = omega arith
bytes_append (x ∷ xs) ys = let rest = bytes_append xs ys in omega (arith, rest)

length_one : (xs : List Stored) (y : Stored) → length (xs ++ (y ∷ [])) ≡ suc (length xs)
length_one [] y = refl
length_one (x ∷ xs) y = let rest = length_one xs y in omega (arith, rest)

same_some : (a b : ℕ) → Some a ≡ Some b → a ≡ b
same_some a b same = cc

-- a row stands before the end
pub cut_some : (image : Image) (used : ℕ) (all : List Stored) (at count : ℕ) (size : Option ℕ) → at < used → Cutting image used all at count → ((s : Stored) (more : List Stored) → Stand image at used (s ∷ more) → size ≡ Some (13 + slot_of s)) → size ≡ None → ⊥
cut_some image used all at count size before c size_is none = by c.rest c.stand
  where
    by : (rest : List Stored) → Stand image at used rest → ⊥
    by [] st = let size : at + 0 ≡ used = st.size in absurd (omega (arith, before, size))
    by (s ∷ rest) st = let bad : None ≡ Some (13 + slot_of s) = sym none ∙ size_is s rest st in cc

-- one row more, which isn't half of all
pub cut_on : (image : Image) (used : ℕ) (all : List Stored) (at count size now : ℕ) → at < used → Cutting image used all at count → ((s : Stored) (more : List Stored) → Stand image at used (s ∷ more) → Some size ≡ Some (13 + slot_of s)) → now ≡ at + size → 2 * now < used → Cutting image used all now (count + 1)
cut_on image used all at count size now before c size_is now_is less = by c.rest c.stand c.all_is c.halves_is
  where
    more : (a b : ℕ) → a + suc b ≡ a + 1 + b
    more a b = omega arith

    not_half : (used now : ℕ) → 2 * now < used → nat_le used (2 * now) ≡ false
    not_half used now less = grind (arith, nat_tests, less)

    step : (used at now : ℕ) (s : Stored) (rest : List Stored) → at + (13 + slot_of s) ≡ now → nat_le used (2 * now) ≡ false → left_rows used at (s ∷ rest) ≡ suc (left_rows used now rest)
    step used at now s rest is far =
        (λ i. if nat_le used (2 * is i) then 1 else suc (left_rows used (is i) rest))
        ∙ ap (λ (b : Bool). if b then 1 else suc (left_rows used now rest)) far

    by : (rest : List Stored) → Stand image at used rest → all ≡ c.front ++ rest → halves all ≡ count + left_rows used at rest → Cutting image used all now (count + 1)
    by [] st all_is halves_is = let size : at + 0 ≡ used = st.size in absurd (omega (arith, before, size))
    by (s ∷ rest) st all_is halves_is =
        let f = first_stands image at used s rest st in
        let same = same_some size (13 + slot_of s) (size_is s rest st) in
        let place : at + 13 + slot_of s ≡ now = omega (arith, same, now_is) in
        let sum = bytes_append c.front (s ∷ []) in
        let was = c.at_is in
        let counted = c.count_is in
        let long = length_one c.front s in
        record {
          front = c.front ++ (s ∷ []);
          rest = rest;
          all_is = all_is ∙ sym (append_assoc c.front (s ∷ []) rest);
          count_is = omega (arith, long, counted);
          at_is = omega (arith, sum, was, place);
          stand = subst (λ (p : ℕ). Stand image p used rest) place f.next;
          less = less;
          halves_is = halves_is ∙ ap (λ (n : ℕ). count + n) (step used at now s rest (omega (arith, place)) (not_half used now less)) ∙ more count (left_rows used now rest);
        }

-- one row more, which is half of all
pub cut_found : (image : Image) (used : ℕ) (all : List Stored) (at count size now : ℕ) → at < used → Cutting image used all at count → ((s : Stored) (more : List Stored) → Stand image at used (s ∷ more) → Some size ≡ Some (13 + slot_of s)) → now ≡ at + size → used ≤ 2 * now
    → record { at = now; rows = count + 1 } ≡ cut_in all
cut_found image used all at count size now before c size_is now_is half = by c.rest c.stand c.all_is c.halves_is
  where
    is_half : (used now : ℕ) → used ≤ 2 * now → nat_le used (2 * now) ≡ true
    is_half used now few = grind (arith, nat_tests, few)

    one : (used at now : ℕ) (s : Stored) (rest : List Stored) → at + (13 + slot_of s) ≡ now → nat_le used (2 * now) ≡ true → left_rows used at (s ∷ rest) ≡ 1
    one used at now s rest is near =
        (λ i. if nat_le used (2 * is i) then 1 else suc (left_rows used (is i) rest))
        ∙ ap (λ (b : Bool). if b then 1 else suc (left_rows used now rest)) near

    by : (rest : List Stored) → Stand image at used rest → all ≡ c.front ++ rest → halves all ≡ count + left_rows used at rest → record { at = now; rows = count + 1 } ≡ cut_in all
    by [] st all_is halves_is = let size : at + 0 ≡ used = st.size in absurd (omega (arith, before, size))
    by (s ∷ rest) st all_is halves_is =
        let same = same_some size (13 + slot_of s) (size_is s rest st) in
        let place : at + (13 + slot_of s) ≡ now = omega (arith, same, now_is) in
        let number : halves all ≡ count + 1 = halves_is ∙ ap (λ (n : ℕ). count + n) (one used at now s rest place (is_half used now half)) in
        let sum = bytes_append c.front (s ∷ []) in
        let was = c.at_is in
        let counted = c.count_is in
        let long = length_one c.front s in
        let front : List Stored = c.front ++ (s ∷ []) in
        let long_is : halves all ≡ length front = number ∙ (let e : count + 1 ≡ length front = omega (arith, long, counted) in e) in
        let taken : take (halves all) all ≡ front = (λ i. take (long_is i) ((all_is ∙ sym (append_assoc c.front (s ∷ []) rest)) i)) ∙ take-append_seam front rest in
        let bytes : bytes_in (take (halves all) all) ≡ now = ap bytes_in taken ∙ (let e : bytes_in front ≡ now = omega (arith, sum, was, place) in e) in
        (λ i. record { at = sym bytes i; rows = sym number i })

-- what is cut off on the left is no more than a page holds
pub cut_few : (image : Image) (used : ℕ) (all : List Stored) → Stand image 0 used all → 4032 < used → used ≤ 5045 → (cut_in all).at ≤ 4032
cut_few image used all st large small =
    let size = st.size in
    let long = rows_length all in
    let h = halved all st.each (omega (arith, large, size, long)) in
    let few = h.left_few in
    omega (arith, few, size, long, small)

-- a cut that leaves no more on the left than a page holds is made
pub kept_cut : (at count : ℕ) (all : List Stored) → record { at = at; rows = count } ≡ cut_in all → (cut_in all).at ≤ 4032 → (if nat_le at 4032 then Some (record { at = at; rows = count }) else None) ≡ Some (cut_in all)
kept_cut at count all is few =
    let same : at ≡ (cut_in all).at = ap (λ (c : Cut). c.at) is in
    let fits : nat_le at 4032 ≡ true = near at (omega (arith, same, few)) in
    ap (λ (b : Bool). if b then Some (record { at = at; rows = count }) else None) fits ∙ ap Some is
  where
    near : (n : ℕ) → n ≤ 4032 → nat_le n 4032 ≡ true
    near n few = grind (arith, nat_tests, few)

-- not all rows were gone over
pub over_at : (image : Image) (used : ℕ) (all : List Stored) (at count : ℕ) → used ≤ at → Cutting image used all at count → ⊥
over_at image used all at count behind c = let less = c.less in omega (arith, behind, less)
