-- The pages of a leaf in two.
use Rattle.std.proofs.Common.{◌≡◌, ℕ, suc, ◌+◌, ◌-◌, ◌<◌, ◌≤◌, ℤ, true, List, [], ◌∷◌, ◌++◌, drop, length, take, Option, Some, sym, ◌∙◌, ap, subst, arith}
use Rattle.std.specs.Prelude.{All, nat_lt}
use Rattle.std.proofs.lemmas.Bool.Decides.{nat_tests}
use Rattle.std.specs.Int.{cast_signed, w64}
use Rattle.std.specs.List.{flat_map}
use Rattle.std.proofs.lemmas.List.{append-nil, length-append, length-drop, length-take, take-append-drop}
use Rattle.std.proofs.lemmas.Grind.{flat_map-append}
use Rattle.isp_disk.specs.Moments.{Image, image_of, slice}
use Rattle.isp_format.specs.Header.{Header, header_of}
use Rattle.isp_format.specs.Kinds.{clustered_owner, leaf_kind}
use Rattle.isp_format.specs.Leaf.{IsStored, Stored, stored_bytes}
use Rattle.isp_format.specs.Numbers.{number_at}
use Rattle.isp_cells.specs.Cells.{Stand, count_of, end_of, place_in}
use Rattle.isp_cells.specs.LeafPages.{IsLeaf}
use Rattle.isp_cells.specs.Rows.{behind, below, bytes_in, find, new_row, one_or_none, with_put}
use Rattle.isp_cells.specs.declared.cells.Place.{Place}
use Rattle.isp_cells.proofs.CellLaws.{first_stands, leaf_stands, leaf_stands_to, rows_length, stand_cut, stored_length}
use Rattle.isp_cells.proofs.EditLaws.{place_parts}
use Rattle.isp_cells.proofs.RowLaws.{parted}
use Rattle.isp_levels.specs.Dividing.{first_key, halves, is_divided}
use Rattle.isp_levels.proofs.DividingLaws.{halved}
use Rattle.isp_division.specs.declared.halves.Cut.{Cut}

-- a page of such content under such a header is a leaf
pub leaf_packed : (bytes : List ℕ) (table own next owner count : ℕ) (content : List ℕ) (rows : List Stored) → header_of bytes ≡ record { kind = leaf_kind; level = 0; count = count; owner = owner; next = next; prev = 0; ssn = 0; own = own; used = 64 + length content } → slice (image_of bytes) 64 (length content) ≡ content → length content ≤ 4032
    → owner ≡ clustered_owner table → content ≡ flat_map stored_bytes rows → All IsStored rows → count ≡ length rows → IsLeaf bytes table own next rows
leaf_packed bytes table own next owner count content rows head spelled few owner_is content_is each count_is =
    let long = ap (λ (l : List ℕ). length l) content_is in
    record {
      page = record {
        head = record {
          kind_is = ap (λ (h : Header). h.kind) head;
          level_is = ap (λ (h : Header). h.level) head;
          owner_is = ap (λ (h : Header). h.owner) head ∙ owner_is;
          own_is = ap (λ (h : Header). h.own) head;
        };
        next_is = ap (λ (h : Header). h.next) head;
        used = ap (λ (h : Header). h.used) head ∙ ap (λ (n : ℕ). 64 + n) long;
        within = omega (arith, few, long);
        spelled = ap (slice (image_of bytes) 64) (sym long) ∙ spelled ∙ content_is;
        each = each;
      };
      count = ap (λ (h : Header). h.count) head ∙ count_is;
    }

-- the parts of a content that is cut
pub record ArePacked (content : Image) (size at count total : ℕ) (all : List Stored) : Type 0 where
  pub left : slice content 0 at ≡ flat_map stored_bytes (take (halves all) all)
  pub right : slice content at (size - at) ≡ flat_map stored_bytes (drop (halves all) all)
  pub each_left : All IsStored (take (halves all) all)
  pub each_right : All IsStored (drop (halves all) all)
  pub left_count : count ≡ length (take (halves all) all)
  pub right_count : total - count ≡ length (drop (halves all) all)
  pub few : count ≤ total
  pub some : 1 ≤ length (drop (halves all) all)

pub parts_packed : (content : Image) (size at count total : ℕ) (all : List Stored) → Stand content 0 size all → total ≡ length all → at ≡ bytes_in (take (halves all) all) → count ≡ halves all → 4032 < size → ArePacked content size at count total all
parts_packed content size at count total all st total_is at_is count_is large =
    let left = take (halves all) all in
    let right = drop (halves all) all in
    let parts : all ≡ left ++ right = sym (take-append-drop (halves all) all) in
    let whole : Stand content 0 size (left ++ right) = subst (Stand content 0 size) parts st in
    let cut = stand_cut content 0 size left right whole in
    let left_long = rows_length left in
    let right_long = rows_length right in
    let all_long = rows_length all in
    let ends = st.size in
    let right_ends = cut.1.size in
    let h = halved all st.each (omega (arith, large, ends, all_long)) in
    let less = h.right_some in
    let taken = length-take (halves all) all in
    let dropped = length-drop (halves all) all in
    let place : at ≡ 0 + length (flat_map stored_bytes left) = omega (arith, at_is, left_long) in
    let one : at ≡ length (flat_map stored_bytes left) = omega (arith, place) in
    let two : size - at ≡ length (flat_map stored_bytes right) = omega (arith, place, right_ends) in
    record {
      left = ap (slice content 0) one ∙ cut.0.spelled;
      right = (λ i. slice content (place i) (two i)) ∙ cut.1.spelled;
      each_left = cut.0.each;
      each_right = cut.1.each;
      left_count = omega (arith, count_is, taken, less);
      right_count = omega (arith, count_is, total_is, dropped);
      few = omega (arith, count_is, total_is, less);
      some = omega (arith, less, dropped);
    }

-- the first key of a leaf that has rows
pub first_is : (bytes : List ℕ) (table own next : ℕ) (rows : List Stored) → IsLeaf bytes table own next rows → 1 ≤ length rows → cast_signed w64 (number_at 8 (image_of bytes) 64) ≡ first_key rows
first_is bytes table own next [] leaf some = absurd (omega (arith, some))
first_is bytes table own next (s ∷ rows) leaf some = (first_stands (image_of bytes) 64 (64 + length (flat_map stored_bytes (s ∷ rows))) s rows (leaf_stands bytes table own next (s ∷ rows) leaf.page)).key

-- ---- the content of a leaf once a row is put

pub content_stands : (old content : Image) (at end used : ℕ) (put : List ℕ) (before mid after rows : List Stored) → Stand old 64 used (before ++ (mid ++ after)) → at ≡ 64 + bytes_in before → end ≡ at + bytes_in mid → used ≡ end + bytes_in after → put ≡ flat_map stored_bytes rows → All IsStored rows
    → slice content 0 (at - 64 + (length put + (used - end))) ≡ slice old 64 (at - 64) ++ (put ++ slice old end (used - end)) → Stand content 0 (at - 64 + (length put + (used - end))) (before ++ (rows ++ after))
content_stands old content at end used put before mid after rows st at_is end_is used_is put_is each joined =
    let first = stand_cut old 64 used before (mid ++ after) st in
    let second = stand_cut old (64 + length (flat_map stored_bytes before)) used mid after first.1 in
    let before_long = rows_length before in
    let mid_long = rows_length mid in
    let after_long = rows_length after in
    let put_long = ap (λ (l : List ℕ). length l) put_is in
    let low : at - 64 ≡ length (flat_map stored_bytes before) = omega (arith, at_is, before_long) in
    let place : end ≡ 64 + length (flat_map stored_bytes before) + length (flat_map stored_bytes mid) = omega (arith, at_is, end_is, before_long, mid_long) in
    let high : used - end ≡ length (flat_map stored_bytes after) = omega (arith, used_is, after_long) in
    let whole : flat_map stored_bytes (before ++ (rows ++ after)) ≡ flat_map stored_bytes before ++ (flat_map stored_bytes rows ++ flat_map stored_bytes after) = flat_map-append stored_bytes before (rows ++ after) ∙ ap (λ (l : List ℕ). flat_map stored_bytes before ++ l) (flat_map-append stored_bytes rows after) in
    let sum = length-append (flat_map stored_bytes before) (flat_map stored_bytes rows ++ flat_map stored_bytes after) in
    let sums = length-append (flat_map stored_bytes rows) (flat_map stored_bytes after) in
    let whole_long = ap (λ (l : List ℕ). length l) whole in
    let total : at - 64 + (length put + (used - end)) ≡ length (flat_map stored_bytes (before ++ (rows ++ after))) = omega (arith, low, high, put_long, sum, sums, whole_long) in
    record {
      size = omega (arith, total);
      spelled = ap (slice content 0) (sym total) ∙ joined ∙ (λ i. slice old 64 (low i) ++ (put_is i ++ slice old (place i) (high i))) ∙ (λ i. first.0.spelled i ++ (flat_map stored_bytes rows ++ second.1.spelled i)) ∙ sym whole;
      each = each_append before (rows ++ after) first.0.each (each_append rows after each second.1.each);
    }
  where
    cons : (x : Stored) (xs : List Stored) → IsStored x → All IsStored xs → All IsStored (x ∷ xs)
    cons x xs first rest = search (arith, first, rest)

    each_append : (xs ys : List Stored) → All IsStored xs → All IsStored ys → All IsStored (xs ++ ys)
    each_append [] ys one other = other
    each_append (x ∷ xs) ys one other = cons x (xs ++ ys) (one 0 x (omega arith)) (each_append xs ys (λ k d h. one (suc k) d (omega (arith, h))) other)

-- the content of a leaf with a row put at the place of its key
pub record IsPutContent (content : Image) (size count : ℕ) (rows : List Stored) : Type 0 where
  pub stand : Stand content 0 size rows
  pub counted : count ≡ length rows
  pub few : size ≤ 5045
  pub size_is : size ≡ bytes_in rows

pub content_put : (old : List ℕ) (content : Image) (table own next used : ℕ) (key : ℤ) (rows : List Stored) (place : Place) (end count : ℕ) (put row : List ℕ) → IsLeaf old table own next rows → used ≡ 64 + length (flat_map stored_bytes rows) → place ≡ place_in key 64 rows → end ≡ end_of place.at place.here
    → put ≡ stored_bytes (new_row key row) → IsStored (new_row key row) → ((others : ℕ) → (header_of old).count ≡ count_of place.here + others → others < 65535 → count ≡ 1 + others)
    → slice content 0 (place.at - 64 + (length put + (used - end))) ≡ slice (image_of old) 64 (place.at - 64) ++ (put ++ slice (image_of old) end (used - end))
    → IsPutContent content (place.at - 64 + (length put + (used - end))) count (with_put key row rows)
content_put old content table own next used key rows place end count put row leaf used_is place_is end_is put_is stored counts joined =
    let p = place_parts old table own next rows key used place leaf used_is place_is in
    let st : Stand (image_of old) 64 used (below key rows ++ (one_or_none (find key rows) ++ behind key rows)) = leaf_stands_to old table own next used (below key rows ++ (one_or_none (find key rows) ++ behind key rows)) p.leaf.page (used_is ∙ ap (λ (l : List Stored). 64 + length (flat_map stored_bytes l)) (parted key rows)) in
    let one : put ≡ flat_map stored_bytes (new_row key row ∷ []) = put_is ∙ sym (append-nil (stored_bytes (new_row key row))) in
    let all = content_stands (image_of old) content place.at end used put (below key rows) (one_or_none (find key rows)) (behind key rows) (new_row key row ∷ []) st p.at (end_is ∙ p.end) (p.rest ∙ ap (λ (n : ℕ). n + bytes_in (behind key rows)) (sym end_is)) one (one_each (new_row key row) stored) joined in
    let size = all.size in
    let long = rows_length (with_put key row rows) in
    let within = leaf.page.within in
    let put_long = ap (λ (l : List ℕ). length l) put_is in
    let row_long = stored_length (new_row key row) in
    let slot = stored.slot in
    let at = p.at in
    let e = p.end in
    let r = p.rest in
    let count_is = counts (length (below key rows) + length (behind key rows)) p.counted p.few in
    let sum = length-append (below key rows) (new_row key row ∷ behind key rows) in
    record {
      stand = all;
      counted = omega (arith, count_is, sum);
      few = omega (arith, within, used_is, put_long, row_long, slot, at, e, r, end_is);
      size_is = omega (arith, size, long);
    }
  where
    one_each : (s : Stored) → IsStored s → All IsStored (s ∷ [])
    one_each s is = search (arith, is)

pub large_size : (size : ℕ) (rows : List Stored) → size ≡ bytes_in rows → is_divided rows ≡ true → 4032 < size
large_size size rows is large = let n : 4032 < bytes_in rows = over (bytes_in rows) large in omega (arith, is, n)
  where
    over : (n : ℕ) → nat_lt 4032 n ≡ true → 4032 < n
    over n is = grind (arith, nat_tests, is)

pub cut_same : (cut other : Cut) (found : Option Cut) → found ≡ Some cut → found ≡ Some other → cut ≡ other
cut_same cut other found one two = let same : Some cut ≡ Some other = sym one ∙ two in cc
