-- A leaf whose rows are exchanged at one place.
use Rattle.std.proofs.Common.{◌≡◌, ℕ, ◌+◌, ◌-◌, ◌<◌, ◌≤◌, ℤ, Bool, true, false, List, [], ◌∷◌, ◌++◌, drop, length, Option, Some, None, refl, sym, ◌∙◌, ap, subst, arith}
use Rattle.std.specs.Prelude.{All, nat_le, slice_index}
use Rattle.std.specs.List.{flat_map}
use Rattle.std.specs.Option.{option_map}
use Rattle.std.proofs.lemmas.Bool.Decides.{nat_tests}
use Rattle.std.proofs.lemmas.List.{append-nil, append_assoc, length-append}
use Rattle.isp_disk.specs.Moments.{Image, image_of, put, slice}
use Rattle.isp_format.specs.Header.{Header, header_bytes, header_of}
use Rattle.isp_format.specs.Leaf.{IsLeafPage, IsStored, Stored, key_bytes, mark_byte, slot_of, stored_bytes}
use Rattle.isp_format.specs.Numbers.{bytes_of}
use Rattle.isp_format.proofs.Headers.{put_more, slice_byte}
use Rattle.isp_format.proofs.Parts.{slice_parts}
use Rattle.isp_format.proofs.Places.{inside}
use Rattle.isp_format.proofs.Slices.{length-slice, put_above, put_below, put_inside, slice_agree, slice_put}
use Rattle.isp_cells.specs.Cells.{Stand, cell_of, count_of, end_of, place_in}
use Rattle.isp_cells.specs.Rows.{behind, below, bytes_in, can_rewrite, exchanged, find, from, one_or_none, rewritten, slot_holds, with_mark}
use Rattle.isp_cells.specs.LeafPages.{IsLeaf}
use Rattle.isp_cells.specs.declared.cells.Cell.{Cell}
use Rattle.isp_cells.specs.declared.cells.Place.{Place}
use Rattle.isp_cells.proofs.CellLaws.{first_stands, found_front, place_is, rows_length, stand_cut, stand_from, stand_join, stand_moved, stored_length, leaf_stands}
use Rattle.isp_cells.proofs.RowLaws.{found_key, parted}

header_long : (h : Header) → length (header_bytes h) ≡ 32
header_long h = refl

-- the header of the page before and behind
pub record SameHead (old new : Header) (used : ℕ) : Type 0 where
  pub kind : new.kind ≡ old.kind
  pub level : new.level ≡ old.level
  pub owner : new.owner ≡ old.owner
  pub own : new.own ≡ old.own
  pub next : new.next ≡ old.next
  pub ends : new.used ≡ used

-- the bytes of the page: what stood behind is put behind the piece, then the piece, then the header
pub record IsSpliced (old new : Image) (at end used : ℕ) (piece : List ℕ) (h : Header) : Type 0 where
  pub moved : Image
  pub pieced : Image
  pub tail : List ℕ
  pub tail_is : tail ≡ slice old end (used - end)
  pub moved_is : (place : ℕ) → moved place ≡ put old (at + length piece) tail place
  pub pieced_is : (place : ℕ) → pieced place ≡ put moved at piece place
  pub new_is : (place : ℕ) → new place ≡ put pieced 0 (header_bytes h) place

spliced_low : (old new : Image) (at end used : ℕ) (piece : List ℕ) (h : Header) → IsSpliced old new at end used piece h → (place : ℕ) → 32 ≤ place → place < at → new place ≡ old place
spliced_low old new at end used piece h is place from to =
    is.new_is place ∙ put_above is.pieced 0 (header_bytes h) place from
    ∙ is.pieced_is place ∙ put_below is.moved at piece place to
    ∙ is.moved_is place ∙ put_below old (at + length piece) is.tail place (omega (arith, to))

spliced_piece : (old new : Image) (at end used : ℕ) (piece : List ℕ) (h : Header) → IsSpliced old new at end used piece h → 32 ≤ at → slice new at (length piece) ≡ piece
spliced_piece old new at end used piece h is from =
    slice_agree new (put is.moved at piece) at (length piece) (λ place low high. is.new_is place ∙ put_above is.pieced 0 (header_bytes h) place (omega (arith, from, low)) ∙ is.pieced_is place)
    ∙ slice_put is.moved at piece

spliced_tail : (old new : Image) (at end used : ℕ) (piece : List ℕ) (h : Header) (is : IsSpliced old new at end used piece h) → 32 ≤ at → length is.tail ≡ used - end → (k : ℕ) → k < used - end → new (at + length piece + k) ≡ old (end + k)
spliced_tail old new at end used piece h is from long k less =
    let place : ℕ = at + length piece + k in
    let back : place - (at + length piece) ≡ k = omega arith in
    is.new_is place ∙ put_above is.pieced 0 (header_bytes h) place (omega (arith, from))
    ∙ is.pieced_is place ∙ put_above is.moved at piece place (omega arith)
    ∙ is.moved_is place ∙ put_inside old (at + length piece) is.tail place (inside (at + length piece) (length is.tail) place (omega arith) (omega (arith, less, long)))
    ∙ ap (slice_index is.tail) back ∙ ap (λ (bytes : List ℕ). slice_index bytes k) is.tail_is ∙ slice_byte old end (used - end) k less

pub spliced_leaf : (old new : List ℕ) (at end used : ℕ) (piece : List ℕ) (h : Header) → IsSpliced (image_of old) (image_of new) at end used piece h → header_of new ≡ h → SameHead (header_of old) h (at + length piece + (used - end)) → at + length piece + (used - end) ≤ 4096
    → (table own next : ℕ) (before mid after rows : List Stored) → IsLeafPage old table own next (before ++ (mid ++ after))
    → at ≡ 64 + bytes_in before → end ≡ at + bytes_in mid → used ≡ end + bytes_in after → piece ≡ flat_map stored_bytes rows → All IsStored rows
    → IsLeafPage new table own next (before ++ (rows ++ after))
spliced_leaf old new at end used piece h is head same fits table own next before mid after rows leaf at_is end_is used_is piece_is each =
    let before_long = rows_length before in
    let mid_long = rows_length mid in
    let after_long = rows_length after in
    let whole = leaf_stands old table own next (before ++ (mid ++ after)) leaf in
    let total : ℕ = 64 + length (flat_map stored_bytes (before ++ (mid ++ after))) in
    let split : ℕ = 64 + length (flat_map stored_bytes before) in
    let first = stand_cut (image_of old) 64 total before (mid ++ after) whole in
    let second = stand_cut (image_of old) split total mid after first.1 in
    let start : 64 + length (flat_map stored_bytes before) ≡ at = omega (arith, before_long, at_is) in
    let stop : 64 + length (flat_map stored_bytes before) + length (flat_map stored_bytes mid) ≡ end = omega (arith, before_long, mid_long, at_is, end_is) in
    let tail_long : length is.tail ≡ used - end = ap (λ (l : List ℕ). length l) is.tail_is ∙ length-slice (image_of old) end (used - end) in
    let stands_before : Stand (image_of new) 64 at before = stand_moved (image_of old) (image_of new) 64 split 64 at before first.0 (omega (arith, before_long, at_is)) (λ k less. spliced_low (image_of old) (image_of new) at end used piece h is (64 + k) (omega arith) (omega (arith, less, before_long, at_is))) in
    let stands_rows : Stand (image_of new) at (at + length piece) rows = record {
      size = ap (λ (l : List ℕ). at + length l) (sym piece_is);
      spelled = ap (λ (l : List ℕ). slice (image_of new) at (length l)) (sym piece_is) ∙ spliced_piece (image_of old) (image_of new) at end used piece h is (omega (arith, at_is)) ∙ piece_is;
      each = each;
    } in
    let end_of_old = second.1.size in
    let stands_after : Stand (image_of new) (at + length piece) (at + length piece + (used - end)) after = stand_moved (image_of old) (image_of new) end total (at + length piece) (at + length piece + (used - end)) after (subst (λ (p : ℕ). Stand (image_of old) p total after) stop second.1) (omega (arith, end_of_old, stop, after_long, used_is))
    (λ k less. spliced_tail (image_of old) (image_of new) at end used piece h is (omega (arith, at_is)) tail_long k (omega (arith, less, end_of_old, stop, after_long, used_is))) in
    let all = stand_join (image_of new) 64 at (at + length piece + (used - end)) before (rows ++ after) stands_before (stand_join (image_of new) at (at + length piece) (at + length piece + (used - end)) rows after stands_rows stands_after) in
    let size = all.size in
    let f = leaf.head in
    record {
      head = record {
        kind_is = ap (λ (h : Header). h.kind) head ∙ same.kind ∙ f.kind_is;
        level_is = ap (λ (h : Header). h.level) head ∙ same.level ∙ f.level_is;
        owner_is = ap (λ (h : Header). h.owner) head ∙ same.owner ∙ f.owner_is;
        own_is = ap (λ (h : Header). h.own) head ∙ same.own ∙ f.own_is;
      };
      next_is = ap (λ (h : Header). h.next) head ∙ same.next ∙ leaf.next_is;
      used = ap (λ (h : Header). h.used) head ∙ same.ends ∙ sym size;
      within = omega (arith, size, fits);
      spelled = all.spelled;
      each = all.each;
    }

pub spliced_counted : (old new : List ℕ) (at end used : ℕ) (piece : List ℕ) (h : Header) → IsSpliced (image_of old) (image_of new) at end used piece h → header_of new ≡ h → SameHead (header_of old) h (at + length piece + (used - end)) → at + length piece + (used - end) ≤ 4096
    → (table own next : ℕ) (before mid after rows : List Stored) → IsLeaf old table own next (before ++ (mid ++ after))
    → at ≡ 64 + bytes_in before → end ≡ at + bytes_in mid → used ≡ end + bytes_in after → piece ≡ flat_map stored_bytes rows → All IsStored rows → h.count ≡ length (before ++ (rows ++ after))
    → IsLeaf new table own next (before ++ (rows ++ after))
spliced_counted old new at end used piece h is head same fits table own next before mid after rows leaf at_is end_is used_is piece_is each count = record {
  page = spliced_leaf old new at end used piece h is head same fits table own next before mid after rows leaf.page at_is end_is used_is piece_is each;
  count = ap (λ (h : Header). h.count) head ∙ count;
}

-- ---- a row is spelled field by field

pub spelled_all : (old key mark slot size row rest : Image) (s : Stored) → key ≡ put old 0 (key_bytes s.key) → mark ≡ put key 8 (mark_byte s.marked ∷ []) → slot ≡ put mark 9 (bytes_of 2 (slot_of s)) → size ≡ put slot 11 (bytes_of 2 (length s.row)) → row ≡ put size 13 s.row → rest ≡ put row (13 + length s.row) s.rest
    → rest ≡ put old 0 (((((key_bytes s.key ++ (mark_byte s.marked ∷ [])) ++ bytes_of 2 (slot_of s)) ++ bytes_of 2 (length s.row)) ++ s.row) ++ s.rest)
spelled_all old key mark slot size row rest s put_key put_mark put_slot put_size put_row put_rest =
    let b0 : List ℕ = key_bytes s.key in
    let b1 : List ℕ = b0 ++ (mark_byte s.marked ∷ []) in
    let b2 : List ℕ = b1 ++ bytes_of 2 (slot_of s) in
    let b3 : List ℕ = b2 ++ bytes_of 2 (length s.row) in
    let b4 : List ℕ = b3 ++ s.row in
    let s1 : mark ≡ put old 0 b1 = put_mark ∙ put_more old key 0 b0 (mark_byte s.marked ∷ []) 8 refl put_key in
    let s2 : slot ≡ put old 0 b2 = put_slot ∙ put_more old mark 0 b1 (bytes_of 2 (slot_of s)) 9 refl s1 in
    let s3 : size ≡ put old 0 b3 = put_size ∙ put_more old slot 0 b2 (bytes_of 2 (length s.row)) 11 refl s2 in
    let s4 : row ≡ put old 0 b4 = put_row ∙ put_more old size 0 b3 s.row 13 refl s3 in
    let long : 13 + length s.row ≡ 0 + length b4 = let sum : length b4 ≡ length b3 + length s.row = length-append b3 s.row in let thirteen : length b3 ≡ 13 = refl in omega (arith, sum, thirteen) in
    put_rest ∙ put_more old row 0 b4 s.rest (13 + length s.row) long s4

stored_joined : (s : Stored) → ((((key_bytes s.key ++ (mark_byte s.marked ∷ [])) ++ bytes_of 2 (slot_of s)) ++ bytes_of 2 (length s.row)) ++ s.row) ++ s.rest ≡ stored_bytes s
stored_joined s =
    append_assoc (((key_bytes s.key ++ (mark_byte s.marked ∷ [])) ++ bytes_of 2 (slot_of s)) ++ bytes_of 2 (length s.row)) s.row s.rest
    ∙ append_assoc ((key_bytes s.key ++ (mark_byte s.marked ∷ [])) ++ bytes_of 2 (slot_of s)) (bytes_of 2 (length s.row)) (s.row ++ s.rest)
    ∙ append_assoc (key_bytes s.key ++ (mark_byte s.marked ∷ [])) (bytes_of 2 (slot_of s)) (bytes_of 2 (length s.row) ++ (s.row ++ s.rest))
    ∙ append_assoc (key_bytes s.key) (mark_byte s.marked ∷ []) (bytes_of 2 (slot_of s) ++ (bytes_of 2 (length s.row) ++ (s.row ++ s.rest)))

pub spelled_row : (old key mark slot size row rest : Image) (s : Stored) → key ≡ put old 0 (key_bytes s.key) → mark ≡ put key 8 (mark_byte s.marked ∷ []) → slot ≡ put mark 9 (bytes_of 2 (slot_of s)) → size ≡ put slot 11 (bytes_of 2 (length s.row)) → row ≡ put size 13 s.row → rest ≡ put row (13 + length s.row) s.rest
    → slice rest 0 (13 + slot_of s) ≡ stored_bytes s
spelled_row old key mark slot size row rest s put_key put_mark put_slot put_size put_row put_rest =
    let all : rest ≡ put old 0 (stored_bytes s) = spelled_all old key mark slot size row rest s put_key put_mark put_slot put_size put_row put_rest ∙ ap (put old 0) (stored_joined s) in
    ap (λ (image : Image). slice image 0 (13 + slot_of s)) all ∙ ap (slice (put old 0 (stored_bytes s)) 0) (sym (stored_length s)) ∙ slice_put old 0 (stored_bytes s)

-- ---- the place of a key parts the rows of a leaf

pub record IsParted (bytes : List ℕ) (table own next : ℕ) (rows : List Stored) (key : ℤ) (used : ℕ) (place : Place) : Type 0 where
  pub leaf : IsLeaf bytes table own next (below key rows ++ (one_or_none (find key rows) ++ behind key rows))
  pub at : place.at ≡ 64 + bytes_in (below key rows)
  pub end : end_of place.at place.here ≡ place.at + bytes_in (one_or_none (find key rows))
  pub rest : used ≡ end_of place.at place.here + bytes_in (behind key rows)
  pub counted : (header_of bytes).count ≡ count_of place.here + (length (below key rows) + length (behind key rows))
  pub few : length (below key rows) + length (behind key rows) < 65535

bytes_append : (xs ys : List Stored) → bytes_in (xs ++ ys) ≡ bytes_in xs + bytes_in ys
bytes_append [] ys = omega arith
bytes_append (x ∷ xs) ys = let rest = bytes_append xs ys in omega (arith, rest)

-- each row takes a byte at least
rows_few : (rows : List Stored) → length rows ≤ bytes_in rows
rows_few [] = omega arith
rows_few (s ∷ rows) = let rest = rows_few rows in omega (arith, rest)

pub place_parts : (bytes : List ℕ) (table own next : ℕ) (rows : List Stored) (key : ℤ) (used : ℕ) (place : Place) → IsLeaf bytes table own next rows → used ≡ 64 + length (flat_map stored_bytes rows) → place ≡ place_in key 64 rows → IsParted bytes table own next rows key used place
place_parts bytes table own next rows key used place leaf used_is is =
    let at : place.at ≡ 64 + bytes_in (below key rows) = ap (λ (p : Place). p.at) is ∙ (place_is key 64 rows).0 ∙ ap (λ (n : ℕ). 64 + n) (rows_length (below key rows)) in
    let here : place.here ≡ option_map cell_of (find key rows) = ap (λ (p : Place). p.here) is ∙ (place_is key 64 rows).1 in
    let end : end_of place.at place.here ≡ place.at + bytes_in (one_or_none (find key rows)) = ap (end_of place.at) here ∙ ends place.at (find key rows) in
    let whole = rows_length rows in
    let parts : bytes_in rows ≡ bytes_in (below key rows ++ (one_or_none (find key rows) ++ behind key rows)) = ap (λ (l : List Stored). bytes_in l) (parted key rows) in
    let sum = bytes_append (below key rows) (one_or_none (find key rows) ++ behind key rows) in
    let long : length rows ≡ length (below key rows ++ (one_or_none (find key rows) ++ behind key rows)) = ap (λ (l : List Stored). length l) (parted key rows) in
    let longs : length (below key rows ++ (one_or_none (find key rows) ++ behind key rows)) ≡ length (below key rows) + length (one_or_none (find key rows) ++ behind key rows) = length-append (below key rows) (one_or_none (find key rows) ++ behind key rows) in
    let longer : length (one_or_none (find key rows) ++ behind key rows) ≡ length (one_or_none (find key rows)) + length (behind key rows) = length-append (one_or_none (find key rows)) (behind key rows) in
    let one : length (one_or_none (find key rows)) ≡ count_of place.here = count_is (find key rows) ∙ ap count_of (sym here) in
    let count = leaf.count in
    let few = rows_few rows in
    let within = leaf.page.within in
    let sums = bytes_append (one_or_none (find key rows)) (behind key rows) in
    record {
      leaf = subst (λ (l : List Stored). IsLeaf bytes table own next l) (parted key rows) leaf;
      at = at;
      end = end;
      rest = omega (arith, used_is, whole, parts, sum, sums, at, end);
      counted = omega (arith, count, long, longs, longer, one);
      few = omega (arith, few, within, whole, long, longs, longer);
    }
  where
    count_is : (o : Option Stored) → length (one_or_none o) ≡ count_of (option_map cell_of o)
    count_is None = refl
    count_is (Some s) = refl

    ends : (at : ℕ) (o : Option Stored) → end_of at (option_map cell_of o) ≡ at + bytes_in (one_or_none o)
    ends at None = omega arith
    ends at (Some s) = omega arith

-- a row put at the place of a key
pub put_fits : (bytes : List ℕ) (table own next : ℕ) (rows : List Stored) (key : ℤ) (used size : ℕ) (place : Place) → IsParted bytes table own next rows key used place → place.at + 13 + size + (used - end_of place.at place.here) ≡ 64 + bytes_in (below key rows) + (13 + size) + bytes_in (behind key rows)
put_fits bytes table own next rows key used size place parted =
    let at = parted.at in
    let rest = parted.rest in
    omega (arith, at, rest)

one_each : (s : Stored) → IsStored s → All IsStored (s ∷ [])
one_each s is = search (arith, is)

pub no_each : All IsStored []
no_each = λ k d h. absurd (omega (arith, h))

pub put_leaf : (bytes new : List ℕ) (table own next : ℕ) (rows : List Stored) (key : ℤ) (used : ℕ) (place : Place) (end : ℕ) (piece : List ℕ) (s : Stored) (count : ℕ) → IsParted bytes table own next rows key used place → count ≡ 1 + (length (below key rows) + length (behind key rows)) → end ≡ end_of place.at place.here → piece ≡ stored_bytes s → IsStored s
    → ((table own next : ℕ) (before mid after rows : List Stored) → IsLeaf bytes table own next (before ++ (mid ++ after)) → place.at ≡ 64 + bytes_in before → end ≡ place.at + bytes_in mid → used ≡ end + bytes_in after → piece ≡ flat_map stored_bytes rows → All IsStored rows → count ≡ length (before ++ (rows ++ after)) → IsLeaf new table own next (before ++ (rows ++ after)))
    → IsLeaf new table own next (exchanged key (Some s) rows)
put_leaf bytes new table own next rows key used place end piece s count parted count_is end_is piece_is is splice =
    let long : length (below key rows ++ (s ∷ behind key rows)) ≡ length (below key rows) + length (s ∷ behind key rows) = length-append (below key rows) (s ∷ behind key rows) in
    splice table own next (below key rows) (one_or_none (find key rows)) (behind key rows) (s ∷ []) parted.leaf parted.at (end_is ∙ parted.end) (parted.rest ∙ ap (λ (n : ℕ). n + bytes_in (behind key rows)) (sym end_is)) (piece_is ∙ sym (append-nil (stored_bytes s))) (one_each s is) (omega (arith, count_is, long))

pub dropped_leaf : (bytes new : List ℕ) (table own next : ℕ) (rows : List Stored) (key : ℤ) (used : ℕ) (place : Place) (end : ℕ) (piece : List ℕ) (count : ℕ) → IsParted bytes table own next rows key used place → count ≡ length (below key rows) + length (behind key rows) → end ≡ end_of place.at place.here → piece ≡ []
    → ((table own next : ℕ) (before mid after rows : List Stored) → IsLeaf bytes table own next (before ++ (mid ++ after)) → place.at ≡ 64 + bytes_in before → end ≡ place.at + bytes_in mid → used ≡ end + bytes_in after → piece ≡ flat_map stored_bytes rows → All IsStored rows → count ≡ length (before ++ (rows ++ after)) → IsLeaf new table own next (before ++ (rows ++ after)))
    → IsLeaf new table own next (exchanged key None rows)
dropped_leaf bytes new table own next rows key used place end piece count parted count_is end_is piece_is splice =
    let long : length (below key rows ++ behind key rows) ≡ length (below key rows) + length (behind key rows) = length-append (below key rows) (behind key rows) in
    splice table own next (below key rows) (one_or_none (find key rows)) (behind key rows) [] parted.leaf parted.at (end_is ∙ parted.end) (parted.rest ∙ ap (λ (n : ℕ). n + bytes_in (behind key rows)) (sym end_is)) piece_is no_each (omega (arith, count_is, long))

-- ---- a row that is written into its slot

drop_front : (xs ys : List ℕ) → drop (length xs) (xs ++ ys) ≡ ys
drop_front [] ys = refl
drop_front (x ∷ xs) ys = drop_front xs ys

-- the bytes of a slot from one of them on
rest_is : (image : Image) (at to size left : ℕ) (s : Stored) (rows : List Stored) → Stand image at to (s ∷ rows) → size + left ≡ slot_of s → slice image (at + 13 + size) left ≡ drop size (s.row ++ s.rest)
rest_is image at to size left s rows st whole =
    let f = first_stands image at to s rows st in
    let slot : slice image (at + 13) (size + left) ≡ s.row ++ s.rest = ap (slice image (at + 13)) whole ∙ slice_parts image (at + 13) (length s.row) (length s.rest) ∙ (λ i. f.row i ++ f.rest i) in
    let front : List ℕ = slice image (at + 13) size in
    let long : length front ≡ size = length-slice image (at + 13) size in
    let parts : front ++ slice image (at + 13 + size) left ≡ s.row ++ s.rest = sym (slice_parts image (at + 13) size left) ∙ slot in
    sym (drop_front front (slice image (at + 13 + size) left)) ∙ (λ i. drop (long i) (parts i))

some_cell : (a b : Cell) → Some a ≡ Some b → a ≡ b
some_cell a b same = cc

-- what stands at a place where a row of the key was found
pub record IsThere (image : Image) (at to : ℕ) (key : ℤ) (cell : Cell) (s : Stored) : Type 0 where
  pub more : List Stored
  pub stand : Stand image at to (s ∷ more)
  pub key_is : s.key ≡ key
  pub cell_is : cell ≡ cell_of s

pub there : (image : Image) (to : ℕ) (key : ℤ) (rows : List Stored) (place : Place) (cell : Cell) (s : Stored) → Stand image 64 to rows → place ≡ place_in key 64 rows → place.here ≡ Some cell → find key rows ≡ Some s → IsThere image place.at to key cell s
there image to key rows place cell s st is here found =
    let front = found_front key rows s found in
    let same : Some cell ≡ Some (cell_of s) = sym here ∙ ap (λ (p : Place). p.here) is ∙ (place_is key 64 rows).1 ∙ ap (λ (o : Option Stored). option_map cell_of o) found in
    record {
      more = front.0;
      stand = subst (Stand image place.at to) front.1 (stand_from image to key rows place st is).1;
      key_is = found_key key rows s found;
      cell_is = some_cell cell (cell_of s) same;
    }

-- the row that is written, with what is left of the slot behind it
pub written_is : (image : Image) (at to : ℕ) (key : ℤ) (cell : Cell) (s : Stored) (row rest : List ℕ) (marked : Bool) (left : ℕ) → IsThere image at to key cell s → length row + left ≡ cell.slot → rest ≡ slice image (at + 13 + length row) left
    → (record { key = key; marked = marked; row = row; rest = rest } ≡ rewritten row marked s) × IsStored (rewritten row marked s)
written_is image at to key cell s row rest marked left t whole rest_are =
    let slot = ap (λ (x : Cell). x.slot) t.cell_is in
    let f = first_stands image at to s t.more t.stand in
    let behind : rest ≡ drop (length row) (s.row ++ s.rest) = rest_are ∙ rest_is image at to (length row) left s t.more t.stand (whole ∙ slot) in
    let key_is = t.key_is in
    let long : length rest ≡ left = ap (λ (l : List ℕ). length l) rest_are ∙ length-slice image (at + 13 + length row) left in
    let size : length (drop (length row) (s.row ++ s.rest)) ≡ left = ap (λ (l : List ℕ). length l) (sym behind) ∙ long in
    let few = f.few in
    ((λ i. record { key = sym key_is i; marked = marked; row = row; rest = behind i }), record { key = f.fits; slot = omega (arith, size, whole, slot, few) })

pub cell_there : (key : ℤ) (rows : List Stored) (place : Place) (s : Stored) → place ≡ place_in key 64 rows → find key rows ≡ Some s → place.here ≡ Some (cell_of s)
cell_there key rows place s is found = ap (λ (p : Place). p.here) is ∙ (place_is key 64 rows).1 ∙ ap (λ (o : Option Stored). option_map cell_of o) found

pub same_cell : (here : Option Cell) (cell other : Cell) → here ≡ Some cell → here ≡ Some other → cell ≡ other
same_cell here cell other one two = some_cell cell other (sym one ∙ two)

-- ---- what stands at a place, by its key

here_is : (key : ℤ) (rows : List Stored) (place : Place) → place ≡ place_in key 64 rows → place.here ≡ option_map cell_of (find key rows)
here_is key rows place is = ap (λ (p : Place). p.here) is ∙ (place_is key 64 rows).1

pub found_there : (key : ℤ) (rows : List Stored) (place : Place) (cell : Cell) → place ≡ place_in key 64 rows → place.here ≡ Some cell → (s : Stored) × (find key rows ≡ Some s)
found_there key rows place cell is here = by (find key rows) (sym here ∙ here_is key rows place is)
  where
    by : (o : Option Stored) → Some cell ≡ option_map cell_of o → (s : Stored) × (o ≡ Some s)
    by None bad = absurd (let no : Some cell ≡ None = bad in cc)
    by (Some s) same = (s, refl)

pub absent : (key : ℤ) (rows : List Stored) (place : Place) → place ≡ place_in key 64 rows → place.here ≡ None → find key rows ≡ None
absent key rows place is here = by (find key rows) (sym here ∙ here_is key rows place is)
  where
    by : (o : Option Stored) → None ≡ option_map cell_of o → o ≡ None
    by None same = refl
    by (Some s) bad = absurd (let no : None ≡ Some (cell_of s) = bad in cc)

-- the slot holds so many bytes
pub holds_there : (key : ℤ) (rows : List Stored) (place : Place) (cell : Cell) (size : ℕ) → place ≡ place_in key 64 rows → place.here ≡ Some cell → nat_le size cell.slot ≡ can_rewrite key size rows
holds_there key rows place cell size is here = by (find key rows) (sym here ∙ here_is key rows place is)
  where
    by : (o : Option Stored) → Some cell ≡ option_map cell_of o → nat_le size cell.slot ≡ slot_holds size o
    by None bad = absurd (let no : Some cell ≡ None = bad in cc)
    by (Some s) same = ap (λ (x : Cell). nat_le size x.slot) (some_cell cell (cell_of s) same)

pub le_true : (a b : ℕ) → a ≤ b → nat_le a b ≡ true
le_true a b less = grind (arith, nat_tests)

pub le_false : (a b : ℕ) → b < a → nat_le a b ≡ false
le_false a b more = grind (arith, nat_tests)

-- a row that is written over itself with the mark is the row with its mark
pub marked_is : (image : Image) (at to : ℕ) (key : ℤ) (cell : Cell) (s : Stored) (row : List ℕ) → IsThere image at to key cell s → row ≡ slice image (at + 13) cell.length → rewritten row true s ≡ with_mark s
marked_is image at to key cell s row t row_is =
    let f = first_stands image at to s t.more t.stand in
    let same : row ≡ s.row = row_is ∙ ap (λ (x : Cell). slice image (at + 13) x.length) t.cell_is ∙ f.row in
    (λ i. rewritten (same i) true s) ∙ (λ i. record s { marked = true; rest = drop_front s.row s.rest i })
