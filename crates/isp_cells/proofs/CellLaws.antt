-- Rows that stand in an image one behind another.
use Rattle.std.proofs.Common.{◌≡◌, ℕ, suc, ◌+◌, ◌-◌, ◌^◌, ◌<◌, ◌≤◌, ℤ, Bool, true, false, List, [], ◌∷◌, ◌++◌, length, take, drop, Option, Some, None, refl, sym, ◌∙◌, ap, subst, arith, if◌then◌else◌}
use Rattle.std.specs.Prelude.{All, FitsSigned, int_lt, is_none}
use Rattle.std.specs.Int.{cast_signed, cast_unsigned, w64}
use Rattle.std.specs.List.{flat_map}
use Rattle.std.specs.Ordering.{int_eq}
use Rattle.std.specs.Option.{option_map}
use Rattle.std.proofs.lemmas.Int.{to_z-of_z}
use Rattle.std.proofs.lemmas.List.{append_assoc, length-append}
use Rattle.std.proofs.lemmas.Grind.{flat_map-append}
use Rattle.std.proofs.Math.Facts.{Fits-lt-pow, Fits-of_z}
use Rattle.byteorder.specs.Numbers.{length-bytes_high_first}
use Rattle.isp_disk.specs.Moments.{Image, image_of, slice}
use Rattle.isp_format.specs.Leaf.{IsLeafPage, IsStored, Stored, key_bytes, mark_byte, slot_of, stored_bytes}
use Rattle.isp_format.specs.Numbers.{bytes_of, number_at}
use Rattle.isp_format.proofs.PageOnce.{head_once}
use Rattle.isp_format.proofs.Parts.{number_next, slice_cut, slice_parts}
use Rattle.isp_format.proofs.Slices.{piece_slice, slice_moved}
use Rattle.isp_cells.specs.Cells.{Stand, cell_of, marked_in, place_in}
use Rattle.isp_cells.specs.Rows.{below, bytes_in, can_drop, find, first_at, from, is_marked}
use Rattle.isp_cells.specs.declared.cells.Cell.{Cell}
use Rattle.isp_cells.specs.declared.cells.Place.{Place}

-- ---- how long a row is

pub stored_length : (s : Stored) → length (stored_bytes s) ≡ 13 + slot_of s
stored_length s =
    let behind_slot : List ℕ = bytes_of 2 (length s.row) ++ (s.row ++ s.rest) in
    let behind_mark : List ℕ = bytes_of 2 (slot_of s) ++ behind_slot in
    let key : length (key_bytes s.key) ≡ 8 = length-bytes_high_first 8 (cast_unsigned w64 s.key) in
    let slot : length (bytes_of 2 (slot_of s)) ≡ 2 = length-bytes_high_first 2 (slot_of s) in
    let size : length (bytes_of 2 (length s.row)) ≡ 2 = length-bytes_high_first 2 (length s.row) in
    let one : length (stored_bytes s) ≡ length (key_bytes s.key) + suc (length behind_mark) = length-append (key_bytes s.key) (mark_byte s.marked ∷ behind_mark) in
    let two : length behind_mark ≡ length (bytes_of 2 (slot_of s)) + length behind_slot = length-append (bytes_of 2 (slot_of s)) behind_slot in
    let three : length behind_slot ≡ length (bytes_of 2 (length s.row)) + length (s.row ++ s.rest) = length-append (bytes_of 2 (length s.row)) (s.row ++ s.rest) in
    let four : length (s.row ++ s.rest) ≡ length s.row + length s.rest = length-append s.row s.rest in
    omega (arith, key, slot, size, one, two, three, four)

pub rows_length : (rows : List Stored) → length (flat_map stored_bytes rows) ≡ bytes_in rows
rows_length [] = refl
rows_length (s ∷ rows) =
    let sum : length (stored_bytes s ++ flat_map stored_bytes rows) ≡ length (stored_bytes s) + length (flat_map stored_bytes rows) = length-append (stored_bytes s) (flat_map stored_bytes rows) in
    let one = stored_length s in
    let rest = rows_length rows in
    omega (arith, sum, one, rest)

-- ---- lists of them

each_first : (xs ys : List Stored) → All IsStored (xs ++ ys) → All IsStored xs
each_first [] ys all = λ k d h. absurd (omega (arith, h))
each_first (x ∷ xs) ys all = cons x xs (all 0 x (omega arith)) (each_first xs ys (λ k d h. all (suc k) d (omega (arith, h))))
  where
    cons : (x : Stored) (xs : List Stored) → IsStored x → All IsStored xs → All IsStored (x ∷ xs)
    cons x xs first rest = search (arith, first, rest)

each_second : (xs ys : List Stored) → All IsStored (xs ++ ys) → All IsStored ys
each_second [] ys all = all
each_second (x ∷ xs) ys all = each_second xs ys (λ k d h. all (suc k) d (omega (arith, h)))

pub stand_cut : (image : Image) (at to : ℕ) (xs ys : List Stored) → Stand image at to (xs ++ ys) → Stand image at (at + length (flat_map stored_bytes xs)) xs × Stand image (at + length (flat_map stored_bytes xs)) to ys
stand_cut image at to xs ys st =
    let joined = flat_map-append stored_bytes xs ys in
    let long : length (flat_map stored_bytes (xs ++ ys)) ≡ length (flat_map stored_bytes xs) + length (flat_map stored_bytes ys) = ap length joined ∙ length-append (flat_map stored_bytes xs) (flat_map stored_bytes ys) in
    let parts = slice_cut image at (flat_map stored_bytes xs) (flat_map stored_bytes ys) (length (flat_map stored_bytes (xs ++ ys))) (st.spelled ∙ joined) long in
    let size = st.size in (
      record { size = refl; spelled = parts.0; each = each_first xs ys st.each },
      record { size = omega (arith, size, long); spelled = parts.1; each = each_second xs ys st.each },
    )

each_both : (xs ys : List Stored) → All IsStored xs → All IsStored ys → All IsStored (xs ++ ys)
each_both [] ys one other = other
each_both (x ∷ xs) ys one other = cons x (xs ++ ys) (one 0 x (omega arith)) (each_both xs ys (λ k d h. one (suc k) d (omega (arith, h))) other)
  where
    cons : (x : Stored) (xs : List Stored) → IsStored x → All IsStored xs → All IsStored (x ∷ xs)
    cons x xs first rest = search (arith, first, rest)

pub stand_join : (image : Image) (at mid to : ℕ) (xs ys : List Stored) → Stand image at mid xs → Stand image mid to ys → Stand image at to (xs ++ ys)
stand_join image at mid to xs ys one other =
    let joined = flat_map-append stored_bytes xs ys in
    let long : length (flat_map stored_bytes (xs ++ ys)) ≡ length (flat_map stored_bytes xs) + length (flat_map stored_bytes ys) = ap length joined ∙ length-append (flat_map stored_bytes xs) (flat_map stored_bytes ys) in
    let first = one.size in
    let second = other.size in
    record {
      size = omega (arith, long, first, second);
      spelled = ap (slice image at) long ∙ slice_parts image at (length (flat_map stored_bytes xs)) (length (flat_map stored_bytes ys))
          ∙ (λ i. one.spelled i ++ (ap (λ (p : ℕ). slice image p (length (flat_map stored_bytes ys))) first ∙ other.spelled) i) ∙ sym joined;
      each = each_both xs ys one.each other.each;
    }

-- rows stand in another image where it has the same bytes, maybe elsewhere
pub stand_moved : (image other : Image) (at to other_at other_to : ℕ) (rows : List Stored) → Stand image at to rows → other_at + (to - at) ≡ other_to → ((k : ℕ) → k < to - at → other (other_at + k) ≡ image (at + k)) → Stand other other_at other_to rows
stand_moved image other at to other_at other_to rows st ends same =
    let size = st.size in
    record {
      size = omega (arith, size, ends);
      spelled = slice_moved other image other_at at (length (flat_map stored_bytes rows)) (λ k less. same k (omega (arith, less, size))) ∙ st.spelled;
      each = st.each;
    }

-- ---- the first row

pub record FirstStands (image : Image) (at to : ℕ) (s : Stored) (rows : List Stored) : Type 0 where
  pub key : cast_signed w64 (number_at 8 image at) ≡ s.key
  pub mark : image (at + 8) ≡ mark_byte s.marked
  pub slot : number_at 2 image (at + 9) ≡ slot_of s
  pub size : number_at 2 image (at + 11) ≡ length s.row
  pub row : slice image (at + 13) (length s.row) ≡ s.row
  pub rest : slice image (at + 13 + length s.row) (length s.rest) ≡ s.rest
  pub few : slot_of s ≤ 1000
  pub fits : FitsSigned w64 s.key
  pub inside : at + 13 + slot_of s ≤ to
  pub next : Stand image (at + 13 + slot_of s) to rows

stored_spread : (s : Stored) (more : List ℕ) → stored_bytes s ++ more ≡ key_bytes s.key ++ (mark_byte s.marked ∷ (bytes_of 2 (slot_of s) ++ (bytes_of 2 (length s.row) ++ (s.row ++ (s.rest ++ more)))))
stored_spread s more =
    append_assoc (key_bytes s.key) (mark_byte s.marked ∷ (bytes_of 2 (slot_of s) ++ (bytes_of 2 (length s.row) ++ (s.row ++ s.rest)))) more
    ∙ ap (λ (rest : List ℕ). key_bytes s.key ++ (mark_byte s.marked ∷ rest)) (append_assoc (bytes_of 2 (slot_of s)) (bytes_of 2 (length s.row) ++ (s.row ++ s.rest)) more)
    ∙ ap (λ (rest : List ℕ). key_bytes s.key ++ (mark_byte s.marked ∷ (bytes_of 2 (slot_of s) ++ rest))) (append_assoc (bytes_of 2 (length s.row)) (s.row ++ s.rest) more)
    ∙ ap (λ (rest : List ℕ). key_bytes s.key ++ (mark_byte s.marked ∷ (bytes_of 2 (slot_of s) ++ (bytes_of 2 (length s.row) ++ rest)))) (append_assoc s.row s.rest more)

pub key_small : (key : ℤ) → FitsSigned w64 key → cast_unsigned w64 key < 256 ^ 8
key_small key fits = let small : cast_unsigned w64 key < 2 ^ 64 = Fits-lt-pow (Fits-of_z fits) in small

pub first_stands : (image : Image) (at to : ℕ) (s : Stored) (rows : List Stored) → Stand image at to (s ∷ rows) → FirstStands image at to s rows
first_stands image at to s rows st =
    let more : List ℕ = flat_map stored_bytes rows in
    let is = st.each 0 s (omega arith) in
    let few = is.slot in
    let whole = st.size in
    let one = stored_length s in
    let sum : length (stored_bytes s ++ more) ≡ length (stored_bytes s) + length more = length-append (stored_bytes s) more in
    let rest_sum : length (s.rest ++ more) ≡ length s.rest + length more = length-append s.rest more in
    let left3 : ℕ = length s.row + length (s.rest ++ more) in
    let long : length (stored_bytes s ++ more) ≡ 8 + suc (2 + (2 + left3)) = omega (arith, one, sum, rest_sum) in
    let spread : slice image at (8 + suc (2 + (2 + left3))) ≡ key_bytes s.key ++ (mark_byte s.marked ∷ (bytes_of 2 (slot_of s) ++ (bytes_of 2 (length s.row) ++ (s.row ++ (s.rest ++ more))))) = ap (slice image at) (sym long) ∙ st.spelled ∙ stored_spread s more in
    let key = number_next 8 (cast_unsigned w64 s.key) image at (suc (2 + (2 + left3))) (at + 8) (mark_byte s.marked ∷ (bytes_of 2 (slot_of s) ++ (bytes_of 2 (length s.row) ++ (s.row ++ (s.rest ++ more))))) (key_small s.key is.key) refl spread in
    let mark = head_once (image (at + 8)) (mark_byte s.marked) (slice image (suc (at + 8)) (2 + (2 + left3))) (bytes_of 2 (slot_of s) ++ (bytes_of 2 (length s.row) ++ (s.row ++ (s.rest ++ more)))) key.1 in
    let nine : at + 9 ≡ suc (at + 8) = omega arith in
    let slot = number_next 2 (slot_of s) image (suc (at + 8)) (2 + left3) (at + 11) (bytes_of 2 (length s.row) ++ (s.row ++ (s.rest ++ more))) (omega (arith, few)) (omega arith) mark.1 in
    let size = number_next 2 (length s.row) image (at + 11) left3 (at + 13) (s.row ++ (s.rest ++ more)) (omega (arith, few)) (omega arith) slot.1 in
    let row = slice_cut image (at + 13) s.row (s.rest ++ more) left3 size.1 refl in
    let rest = slice_cut image (at + 13 + length s.row) s.rest more (length (s.rest ++ more)) row.1 rest_sum in
    let next : at + 13 + length s.row + length s.rest ≡ at + 13 + slot_of s = omega arith in
    record {
      key = ap (cast_signed w64) key.0 ∙ to_z-of_z w64 s.key is.key;
      mark = mark.0;
      slot = ap (number_at 2 image) nine ∙ slot.0;
      size = size.0;
      row = row.0;
      rest = rest.0;
      few = few;
      fits = is.key;
      inside = omega (arith, whole, one, sum);
      next = record {
        size = omega (arith, whole, one, sum);
        spelled = ap (λ (p : ℕ). slice image p (length more)) (sym next) ∙ rest.1;
        each = λ k d h. st.each (suc k) d (omega (arith, h));
      };
    }

-- ---- where a key stands

pub place_is : (key : ℤ) (at : ℕ) (rows : List Stored) → ((place_in key at rows).at ≡ at + length (flat_map stored_bytes (below key rows))) × ((place_in key at rows).here ≡ option_map cell_of (find key rows))
place_is key at [] = (omega arith, refl)
place_is key at (s ∷ rows) = by (int_lt s.key key) (place_is key (at + 13 + slot_of s) rows)
  where
    further : (b : ℕ) → b ≡ at + 13 + slot_of s + length (flat_map stored_bytes (below key rows)) → b ≡ at + length (stored_bytes s ++ flat_map stored_bytes (below key rows))
    further b is =
        let one = stored_length s in
        let sum : length (stored_bytes s ++ flat_map stored_bytes (below key rows)) ≡ length (stored_bytes s) + length (flat_map stored_bytes (below key rows)) = length-append (stored_bytes s) (flat_map stored_bytes (below key rows)) in
        omega (arith, is, one, sum)

    here : (c : Bool) → (if c then Some (cell_of s) else None) ≡ option_map cell_of (if c then Some s else None)
    here true = refl
    here false = refl

    by : (b : Bool) → ((place_in key (at + 13 + slot_of s) rows).at ≡ at + 13 + slot_of s + length (flat_map stored_bytes (below key rows))) × ((place_in key (at + 13 + slot_of s) rows).here ≡ option_map cell_of (find key rows))
        → (let place : Place = if b then place_in key (at + 13 + slot_of s) rows else record { at = at; here = if int_eq s.key key then Some (cell_of s) else None } in
        (place.at ≡ at + length (flat_map stored_bytes (if b then s ∷ below key rows else []))) × (place.here ≡ option_map cell_of (first_at key (if b then from key rows else s ∷ rows))))
    by true rest = (further _ rest.0, rest.1)
    by false rest = (omega arith, here (int_eq s.key key))

-- one step of the walk
pub record Walked (image : Image) (key : ℤ) (at to : ℕ) (place : Place) : Type 0 where
  pub rest : List Stored
  pub stand : Stand image at to rest
  pub same : place_in key at rest ≡ place

pub walk_begins : (image : Image) (key : ℤ) (at to : ℕ) (rows : List Stored) → Stand image at to rows → Walked image key at to (place_in key at rows)
walk_begins image key at to rows st = record { rest = rows; stand = st; same = refl }

pub walk_on : (image : Image) (key : ℤ) (at to next slot : ℕ) (place : Place) → at < to → Walked image key at to place
    → int_lt (cast_signed w64 (number_at 8 image at)) key ≡ true
    → ((s : Stored) (rows : List Stored) → Stand image at to (s ∷ rows) → slot ≡ slot_of s) → next ≡ at + (13 + slot) → Walked image key next to place
walk_on image key at to next slot place before w less slot_is next_is = by w.rest w.stand w.same
  where
    by : (rest : List Stored) → Stand image at to rest → place_in key at rest ≡ place → Walked image key next to place
    by [] st same = let size : at + 0 ≡ to = st.size in absurd (omega (arith, before, size))
    by (s ∷ rest) st same =
        let f = first_stands image at to s rest st in
        let is = slot_is s rest st in
        let moved : at + 13 + slot_of s ≡ next = omega (arith, is, next_is) in
        let under : int_lt s.key key ≡ true = ap (λ (j : ℤ). int_lt j key) (sym f.key) ∙ less in
        let here : Place = record { at = at; here = if int_eq s.key key then Some (cell_of s) else None } in
        record {
          rest = rest;
          stand = subst (λ (p : ℕ). Stand image p to rest) moved f.next;
          same = ap (λ (p : ℕ). place_in key p rest) (sym moved) ∙ sym (λ i. if under i then place_in key (at + 13 + slot_of s) rest else here) ∙ same;
        }

pub walk_stops : (image : Image) (key : ℤ) (at to : ℕ) (place : Place) (cell : Cell) → at < to → Walked image key at to place
    → int_lt (cast_signed w64 (number_at 8 image at)) key ≡ false
    → ((s : Stored) (rows : List Stored) → Stand image at to (s ∷ rows) → Some cell ≡ Some (cell_of s))
    → record { at = at; here = if int_eq (cast_signed w64 (number_at 8 image at)) key then Some cell else None } ≡ place
walk_stops image key at to place cell before w less cell_is = by w.rest w.stand w.same
  where
    by : (rest : List Stored) → Stand image at to rest → place_in key at rest ≡ place → record { at = at; here = if int_eq (cast_signed w64 (number_at 8 image at)) key then Some cell else None } ≡ place
    by [] st same = let size : at + 0 ≡ to = st.size in absurd (omega (arith, before, size))
    by (s ∷ rest) st same =
        let f = first_stands image at to s rest st in
        let over : int_lt s.key key ≡ false = ap (λ (j : ℤ). int_lt j key) (sym f.key) ∙ less in
        let is = cell_is s rest st in
        let here : Place = record { at = at; here = if int_eq s.key key then Some (cell_of s) else None } in
        (λ i. record { at = at; here = if int_eq (f.key i) key then is i else None })
        ∙ sym (λ i. if over i then place_in key (at + 13 + slot_of s) rest else here)
        ∙ same

pub walk_ends : (image : Image) (key : ℤ) (at to : ℕ) (place : Place) → to ≤ at → Walked image key at to place → record { at = at; here = None } ≡ place
walk_ends image key at to place behind w = by w.rest w.stand w.same
  where
    by : (rest : List Stored) → Stand image at to rest → place_in key at rest ≡ place → record { at = at; here = None } ≡ place
    by [] st same = same
    by (s ∷ rest) st same =
        let f = first_stands image at to s rest st in
        let inside = f.inside in
        absurd (omega (arith, behind, inside))

abbrev pub slot_in : Option Cell → ℕ
slot_in None = 0
slot_in (Some cell) = cell.slot

pub walk_some : (image : Image) (key : ℤ) (at to : ℕ) (place : Place) (cell : Option Cell) → at < to → Walked image key at to place
    → ((s : Stored) (rows : List Stored) → Stand image at to (s ∷ rows) → cell ≡ Some (cell_of s)) → cell ≡ None → ⊥
walk_some image key at to place cell before w cell_is none = by w.rest w.stand
  where
    by : (rest : List Stored) → Stand image at to rest → ⊥
    by [] st = let size : at + 0 ≡ to = st.size in absurd (omega (arith, before, size))
    by (s ∷ rest) st = let bad : None ≡ Some (cell_of s) = sym none ∙ cell_is s rest st in cc

-- ---- a row found by its key

-- the rows from a key on, where the first of them has it
pub found_front : (key : ℤ) (rows : List Stored) (s : Stored) → find key rows ≡ Some s → (more : List Stored) × (from key rows ≡ s ∷ more)
found_front key rows s is = by (from key rows) refl is
  where
    first : (c : Bool) (x : Stored) (more : List Stored) → (if c then Some x else None) ≡ Some s → (rest : List Stored) × (x ∷ more ≡ s ∷ rest)
    first true x more same = let is : x ≡ s = cc in (more, (λ i. is i ∷ more))
    first false x more same = absurd (let bad : None ≡ Some s = same in cc)

    by : (xs : List Stored) → from key rows ≡ xs → first_at key xs ≡ Some s → (more : List Stored) × (xs ≡ s ∷ more)
    by [] at same = absurd (let bad : None ≡ Some s = same in cc)
    by (x ∷ xs) at same = first (int_eq x.key key) x xs same

pub below_from : (key : ℤ) (rows : List Stored) → rows ≡ below key rows ++ from key rows
below_from key [] = refl
below_from key (s ∷ rows) = by (int_lt s.key key) (below_from key rows)
  where
    by : (b : Bool) → rows ≡ below key rows ++ from key rows → s ∷ rows ≡ (if b then s ∷ below key rows else []) ++ (if b then from key rows else s ∷ rows)
    by true rest = λ i. s ∷ rest i
    by false rest = refl

-- the rows from a key on stand from its place on
pub stand_from : (image : Image) (to : ℕ) (key : ℤ) (rows : List Stored) (place : Place) → Stand image 64 to rows → place ≡ place_in key 64 rows
    → Stand image 64 place.at (below key rows) × Stand image place.at to (from key rows)
stand_from image to key rows place st is =
    let at : place.at ≡ 64 + length (flat_map stored_bytes (below key rows)) = ap (λ (p : Place). p.at) is ∙ (place_is key 64 rows).0 in
    let parts = stand_cut image 64 to (below key rows) (from key rows) (subst (Stand image 64 to) (below_from key rows) st) in
    (subst (λ (p : ℕ). Stand image 64 p (below key rows)) (sym at) parts.0, subst (λ (p : ℕ). Stand image p to (from key rows)) (sym at) parts.1)

-- a place that is one of an option's
pub place_some : (place other : Place) (found : Option Place) → found ≡ Some place → found ≡ Some other → place ≡ other
place_some place other found one two = let same : Some place ≡ Some other = sym one ∙ two in cc

pub number_some : (n other : ℕ) (found : Option ℕ) → found ≡ Some n → found ≡ Some other → other ≡ n
number_some n other found one two = let same : Some n ≡ Some other = sym one ∙ two in cc

pub none_some : {X : Type 0} (x : X) (found : Option X) → found ≡ None → found ≡ Some x → ⊥
none_some x found one two = let bad : None ≡ Some x = sym one ∙ two in cc

pub piece_is : (bytes : List ℕ) (at to size : ℕ) → to ≡ at + size → to ≤ length bytes → take (to - at) (drop at bytes) ≡ slice (image_of bytes) at size
piece_is bytes at to size is inside =
    let same : to - at ≡ size = omega (arith, is) in
    ap (λ (n : ℕ). take n (drop at bytes)) same ∙ piece_slice bytes at size (omega (arith, is, inside))

pub none_not : {X : Type 0} (o : Option X) → o ≡ None → is_none o ≡ false → ⊥
none_not o none not = let bad : true ≡ false = sym (ap (λ p. is_none p) none) ∙ not in cc

pub marked_place : (key : ℤ) (rows : List Stored) (place : Place) → place ≡ place_in key 64 rows → marked_in place.here ≡ can_drop key rows
marked_place key rows place is = ap marked_in (ap (λ (p : Place). p.here) is ∙ (place_is key 64 rows).1) ∙ by (find key rows)
  where
    by : (o : Option Stored) → marked_in (option_map cell_of o) ≡ is_marked o
    by None = refl
    by (Some s) = refl

-- the rows of a leaf stand on its page
pub leaf_stands : (bytes : List ℕ) (table own next : ℕ) (rows : List Stored) → IsLeafPage bytes table own next rows → Stand (image_of bytes) 64 (64 + length (flat_map stored_bytes rows)) rows
leaf_stands bytes table own next rows leaf = record { size = refl; spelled = leaf.spelled; each = leaf.each }

pub leaf_stands_to : (bytes : List ℕ) (table own next used : ℕ) (rows : List Stored) → IsLeafPage bytes table own next rows → used ≡ 64 + length (flat_map stored_bytes rows) → Stand (image_of bytes) 64 used rows
leaf_stands_to bytes table own next used rows leaf is = subst (λ (n : ℕ). Stand (image_of bytes) 64 n rows) (sym is) (leaf_stands bytes table own next rows leaf)
