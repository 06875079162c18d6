-- Entries in the bytes of a page: how many begin before a key, and a page with one more, or in two.
use Rattle.std.proofs.Common.{◌≡◌, ℕ, suc, ◌+◌, ◌*◌, ◌-◌, ◌^◌, ◌<◌, ◌≤◌, ℤ, Bool, true, false, List, [], ◌∷◌, ◌++◌, drop, length, take, refl, sym, ◌∙◌, ap, subst, arith, if◌then◌else◌}
use Rattle.std.specs.Prelude.{All, FitsSigned, int_le}
use Rattle.std.specs.Int.{cast_signed, cast_unsigned, w64}
use Rattle.std.specs.List.{flat_map}
use Rattle.std.proofs.lemmas.Int.{to_z-of_z}
use Rattle.std.proofs.lemmas.List.{append-nil, append_assoc, length-append, length-drop, length-take, take-append-drop}
use Rattle.std.proofs.lemmas.Grind.{flat_map-append}
use Rattle.byteorder.specs.Numbers.{length-bytes_high_first}
use Rattle.isp_disk.specs.Moments.{Image, image_of, put, slice}
use Rattle.isp_format.specs.Header.{Header, header_bytes, header_of}
use Rattle.isp_format.specs.Inner.{IsInnerPage, IsName, Name, name_bytes}
use Rattle.isp_format.specs.Kinds.{clustered_owner}
use Rattle.isp_format.specs.Leaf.{Stored, key_bytes, stored_bytes}
use Rattle.isp_format.specs.Numbers.{bytes_of, number_at}
use Rattle.isp_format.proofs.Headers.{put_more}
use Rattle.isp_format.proofs.Parts.{number_next, slice_cut}
use Rattle.isp_format.proofs.Slices.{put_above, slice_agree, slice_put}
use Rattle.isp_cells.specs.LeafPages.{IsLeaf}
use Rattle.isp_cells.proofs.CellLaws.{key_small}
use Rattle.isp_levels.specs.Dividing.{first_low}
use Rattle.isp_levels.specs.Inners.{NamesStand}
use Rattle.isp_levels.specs.Levels.{least_key}
use Rattle.isp_growth.specs.Entries.{beyond, up_to, with_name}
use Rattle.isp_growth.proofs.GrowLaws.{with_long}

pub record FirstName (image : Image) (at : ℕ) (name : Name) (names : List Name) : Type 0 where
  pub key : cast_signed w64 (number_at 8 image at) ≡ name.0
  pub next : NamesStand image (at + 12) names

pub first_name : (image : Image) (at : ℕ) (name : Name) (names : List Name) → NamesStand image at (name ∷ names) → FirstName image at name names
first_name image at name names st =
    let is = st.each 0 name (omega arith) in
    let more : List ℕ = flat_map name_bytes names in
    let left : ℕ = 12 * length names in
    let long : 12 * length (name ∷ names) ≡ 8 + (4 + left) = omega arith in
    let spread : slice image at (8 + (4 + left)) ≡ key_bytes name.0 ++ (bytes_of 4 name.1 ++ more) = ap (slice image at) (sym long) ∙ st.spelled ∙ append_assoc (key_bytes name.0) (bytes_of 4 name.1) more in
    let key = number_next 8 (cast_unsigned w64 name.0) image at (4 + left) (at + 8) (bytes_of 4 name.1 ++ more) (key_small name.0 is.0) refl spread in
    let page = number_next 4 name.1 image (at + 8) left (at + 12) more is.1 (omega arith) key.1 in
    record {
      key = ap (cast_signed w64) key.0 ∙ to_z-of_z w64 name.0 is.0;
      next = record {
        spelled = page.1;
        each = λ k d h. st.each (suc k) d (omega (arith, h));
      };
    }

-- ---- how many begin at a key or before it

pub record Counting (image : Image) (key : ℤ) (names : List Name) (count : ℕ) : Type 0 where
  pub front : List Name
  pub rest : List Name
  pub names_are : names ≡ front ++ rest
  pub count_is : length front ≡ count
  pub stand : NamesStand image (64 + 12 * count) rest
  pub up_is : up_to key names ≡ front ++ up_to key rest

pub count_begins : (bytes : List ℕ) (table own level : ℕ) (key : ℤ) (names : List Name) → IsInnerPage bytes table own level names → Counting (image_of bytes) key names 0
count_begins bytes table own level key names is = record { front = []; rest = names; names_are = refl; count_is = refl; stand = record { spelled = is.spelled; each = is.each }; up_is = refl }

length_one : (xs : List Name) (y : Name) → length (xs ++ (y ∷ [])) ≡ suc (length xs)
length_one [] y = refl
length_one (x ∷ xs) y = let rest = length_one xs y in omega (arith, rest)

pub count_on : (image : Image) (key : ℤ) (names : List Name) (count all : ℕ) → all ≡ length names → count < all → Counting image key names count → int_le (cast_signed w64 (number_at 8 image (64 + 12 * count))) key ≡ true → Counting image key names (count + 1)
count_on image key names count all all_is less c near = by c.rest c.stand c.names_are c.up_is
  where
    by : (rest : List Name) → NamesStand image (64 + 12 * count) rest → names ≡ c.front ++ rest → up_to key names ≡ c.front ++ up_to key rest → Counting image key names (count + 1)
    by [] st names_are up_is =
        let long = ap (λ (l : List Name). length l) names_are in
        let sum = length-append c.front [] in
        let was = c.count_is in
        let none : length (c.front ++ []) ≡ length c.front + 0 = sum in
        absurd (omega (arith, all_is, less, long, none, was))
    by (r ∷ rest) st names_are up_is =
        let f = first_name image (64 + 12 * count) r rest st in
        let here : int_le r.0 key ≡ true = ap (λ (k : ℤ). int_le k key) (sym f.key) ∙ near in
        let long = length_one c.front r in
        let was = c.count_is in
        let place : 64 + 12 * count + 12 ≡ 64 + 12 * (count + 1) = omega arith in
        record {
          front = c.front ++ (r ∷ []);
          rest = rest;
          names_are = names_are ∙ sym (append_assoc c.front (r ∷ []) rest);
          count_is = omega (arith, long, was);
          stand = subst (λ (p : ℕ). NamesStand image p rest) place f.next;
          up_is = up_is ∙ ap (λ (b : Bool). c.front ++ (if b then r ∷ up_to key rest else [])) here ∙ sym (append_assoc c.front (r ∷ []) (up_to key rest));
        }

pub count_stops : (image : Image) (key : ℤ) (names : List Name) (count all : ℕ) → all ≡ length names → count < all → Counting image key names count → int_le (cast_signed w64 (number_at 8 image (64 + 12 * count))) key ≡ false → count ≡ length (up_to key names)
count_stops image key names count all all_is less c far = by c.rest c.stand c.names_are c.up_is
  where
    by : (rest : List Name) → NamesStand image (64 + 12 * count) rest → names ≡ c.front ++ rest → up_to key names ≡ c.front ++ up_to key rest → count ≡ length (up_to key names)
    by [] st names_are up_is =
        let long = ap (λ (l : List Name). length l) names_are in
        let none : length (c.front ++ []) ≡ length c.front + 0 = length-append c.front [] in
        let was = c.count_is in
        absurd (omega (arith, all_is, less, long, none, was))
    by (r ∷ rest) st names_are up_is =
        let f = first_name image (64 + 12 * count) r rest st in
        let here : int_le r.0 key ≡ false = ap (λ (k : ℤ). int_le k key) (sym f.key) ∙ far in
        let up : up_to key names ≡ c.front ++ [] = up_is ∙ ap (λ (b : Bool). c.front ++ (if b then r ∷ up_to key rest else [])) here in
        let long = ap (λ (l : List Name). length l) up in
        let none : length (c.front ++ []) ≡ length c.front + 0 = length-append c.front [] in
        let was = c.count_is in
        omega (arith, long, none, was)

pub count_ends : (image : Image) (key : ℤ) (names : List Name) (count all : ℕ) → all ≡ length names → all ≤ count → Counting image key names count → count ≡ length (up_to key names)
count_ends image key names count all all_is behind c = by c.rest c.names_are c.up_is
  where
    by : (rest : List Name) → names ≡ c.front ++ rest → up_to key names ≡ c.front ++ up_to key rest → count ≡ length (up_to key names)
    by [] names_are up_is =
        let long = ap (λ (l : List Name). length l) up_is in
        let none : length (c.front ++ []) ≡ length c.front + 0 = length-append c.front [] in
        let was = c.count_is in
        omega (arith, long, none, was)
    by (r ∷ rest) names_are up_is =
        let long = ap (λ (l : List Name). length l) names_are in
        let sum : length (c.front ++ (r ∷ rest)) ≡ length c.front + suc (length rest) = length-append c.front (r ∷ rest) in
        let was = c.count_is in
        absurd (omega (arith, all_is, behind, long, sum, was))

-- ---- an entry spelled

pub entry_spelled : (empty keyed paged : Image) (key : ℤ) (page : ℕ) → keyed ≡ put empty 0 (key_bytes key) → paged ≡ put keyed 8 (bytes_of 4 page) → slice paged 0 12 ≡ name_bytes (key, page)
entry_spelled empty keyed paged key page put_key put_page =
    let key_long : length (key_bytes key) ≡ 8 = length-bytes_high_first 8 (cast_unsigned w64 key) in
    let page_long : length (bytes_of 4 page) ≡ 4 = length-bytes_high_first 4 page in
    let all : paged ≡ put empty 0 (key_bytes key ++ bytes_of 4 page) = put_page ∙ put_more empty keyed 0 (key_bytes key) (bytes_of 4 page) 8 (omega (arith, key_long)) put_key in
    let sum = length-append (key_bytes key) (bytes_of 4 page) in
    let long : 12 ≡ length (key_bytes key ++ bytes_of 4 page) = omega (arith, sum, key_long, page_long) in
    (λ i. slice (all i) 0 (long i)) ∙ slice_put empty 0 (key_bytes key ++ bytes_of 4 page)

-- ---- entries with one more

pub names_long : (names : List Name) → length (flat_map name_bytes names) ≡ 12 * length names
names_long [] = refl
names_long (n ∷ names) =
    let rest = names_long names in
    let sum = length-append (name_bytes n) (flat_map name_bytes names) in
    let one = length-append (key_bytes n.0) (bytes_of 4 n.1) in
    let key_long : length (key_bytes n.0) ≡ 8 = length-bytes_high_first 8 (cast_unsigned w64 n.0) in
    let page_long : length (bytes_of 4 n.1) ≡ 4 = length-bytes_high_first 4 n.1 in
    omega (arith, rest, sum, one, key_long, page_long)

up_and_beyond : (key : ℤ) (names : List Name) → names ≡ up_to key names ++ beyond key names
up_and_beyond key [] = refl
up_and_beyond key (n ∷ names) = by (int_le n.0 key) (up_and_beyond key names)
  where
    by : (b : Bool) → names ≡ up_to key names ++ beyond key names → n ∷ names ≡ (if b then n ∷ up_to key names else []) ++ (if b then beyond key names else n ∷ names)
    by true rest = λ i. n ∷ rest i
    by false rest = refl

pub entries_joined : (image content : Image) (n : Name) (names : List Name) (before count : ℕ) (entry : List ℕ) → NamesStand image 64 names → count ≡ length names → before ≡ length (up_to n.0 names) → entry ≡ name_bytes n
    → slice content 0 (64 + 12 * before - 64 + (length entry + (64 + 12 * count - (64 + 12 * before)))) ≡ slice image 64 (64 + 12 * before - 64) ++ (entry ++ slice image (64 + 12 * before) (64 + 12 * count - (64 + 12 * before)))
    → slice content 0 (12 * length (with_name n names)) ≡ flat_map name_bytes (with_name n names)
entries_joined image content n names before count entry st count_is before_is entry_is joined =
    let up = up_to n.0 names in
    let more = beyond n.0 names in
    let parts = up_and_beyond n.0 names in
    let all_long = ap (λ (l : List Name). length l) parts in
    let sum = length-append up more in
    let up_long = names_long up in
    let more_long = names_long more in
    let with = with_long n names in
    let entry_long = ap (λ (l : List ℕ). length l) entry_is in
    let one_long = names_long (n ∷ []) in
    let one_sum : length (flat_map name_bytes (n ∷ [])) ≡ length (name_bytes n) + 0 = length-append (name_bytes n) [] in
    let spelled : slice image 64 (12 * length names) ≡ flat_map name_bytes up ++ flat_map name_bytes more = st.spelled ∙ ap (flat_map name_bytes) parts ∙ flat_map-append name_bytes up more in
    let cut = slice_cut image 64 (flat_map name_bytes up) (flat_map name_bytes more) (12 * length names) spelled (omega (arith, all_long, sum, up_long, more_long)) in
    let first : 64 + 12 * before - 64 ≡ length (flat_map name_bytes up) = omega (arith, before_is, up_long) in
    let place : 64 + 12 * before ≡ 64 + length (flat_map name_bytes up) = omega (arith, before_is, up_long) in
    let last : 64 + 12 * count - (64 + 12 * before) ≡ length (flat_map name_bytes more) = omega (arith, count_is, before_is, all_long, sum, more_long) in
    let total : 12 * length (with_name n names) ≡ 64 + 12 * before - 64 + (length entry + (64 + 12 * count - (64 + 12 * before))) = omega (arith, with, count_is, before_is, all_long, sum, entry_long, one_long, one_sum) in
    ap (slice content 0) total
    ∙ joined
    ∙ (λ i. slice image 64 (first i) ++ (entry_is i ++ slice image (place i) (last i)))
    ∙ (λ i. cut.0 i ++ (name_bytes n ++ cut.1 i))
    ∙ sym (flat_map-append name_bytes up (n ∷ more))

-- the parts of a content
pub entries_cut : (content : Image) (names : List Name) (count : ℕ) → slice content 0 (12 * length names) ≡ flat_map name_bytes names → count ≤ length names
    → (slice content 0 (12 * count) ≡ flat_map name_bytes (take count names)) × (slice content (12 * count) (12 * (length names - count)) ≡ flat_map name_bytes (drop count names))
entries_cut content names count spelled few =
    let left = take count names in
    let right = drop count names in
    let parts : names ≡ left ++ right = sym (take-append-drop count names) in
    let left_long = names_long left in
    let right_long = names_long right in
    let taken = length-take count names in
    let dropped = length-drop count names in
    let both : slice content 0 (12 * length names) ≡ flat_map name_bytes left ++ flat_map name_bytes right = spelled ∙ ap (flat_map name_bytes) parts ∙ flat_map-append name_bytes left right in
    let cut = slice_cut content 0 (flat_map name_bytes left) (flat_map name_bytes right) (12 * length names) both (omega (arith, left_long, right_long, taken, dropped, few)) in
    let one : 12 * count ≡ length (flat_map name_bytes left) = omega (arith, left_long, taken, few) in
    let two : 12 * (length names - count) ≡ length (flat_map name_bytes right) = omega (arith, right_long, dropped, few) in
    let place : 12 * count ≡ 0 + length (flat_map name_bytes left) = omega (arith, one) in
    (ap (slice content 0) one ∙ cut.0, (λ i. slice content (place i) (two i)) ∙ cut.1)

-- ---- each is an entry

each_append : (xs ys : List Name) → All IsName xs → All IsName ys → All IsName (xs ++ ys)
each_append [] ys one other = other
each_append (x ∷ xs) ys one other = cons x (xs ++ ys) (one 0 x (omega arith)) (each_append xs ys (λ k d h. one (suc k) d (omega (arith, h))) other)
  where
    cons : (x : Name) (xs : List Name) → IsName x → All IsName xs → All IsName (x ∷ xs)
    cons x xs first rest = search (arith, first, rest)

each_first : (xs ys : List Name) → All IsName (xs ++ ys) → All IsName xs
each_first [] ys all = λ k d h. absurd (omega (arith, h))
each_first (x ∷ xs) ys all = cons x xs (all 0 x (omega arith)) (each_first xs ys (λ k d h. all (suc k) d (omega (arith, h))))
  where
    cons : (x : Name) (xs : List Name) → IsName x → All IsName xs → All IsName (x ∷ xs)
    cons x xs first rest = search (arith, first, rest)

each_second : (xs ys : List Name) → All IsName (xs ++ ys) → All IsName ys
each_second [] ys all = all
each_second (x ∷ xs) ys all = each_second xs ys (λ k d h. all (suc k) d (omega (arith, h)))

each_one : (n : Name) (names : List Name) → IsName n → All IsName names → All IsName (n ∷ names)
each_one n names first rest = search (arith, first, rest)

pub each_with : (n : Name) (names : List Name) → IsName n → All IsName names → All IsName (with_name n names)
each_with n names first all =
    let parts = subst (All IsName) (up_and_beyond n.0 names) all in
    each_append (up_to n.0 names) (n ∷ beyond n.0 names) (each_first (up_to n.0 names) (beyond n.0 names) parts) (each_one n (beyond n.0 names) first (each_second (up_to n.0 names) (beyond n.0 names) parts))

pub each_parts : (count : ℕ) (names : List Name) → All IsName names → All IsName (take count names) × All IsName (drop count names)
each_parts count names all =
    let parts = subst (All IsName) (sym (take-append-drop count names)) all in
    (each_first (take count names) (drop count names) parts, each_second (take count names) (drop count names) parts)

-- ---- pages of entries

pub inner_packed : (bytes : List ℕ) (table own level owner count : ℕ) (content : List ℕ) (names : List Name) → header_of bytes ≡ record { kind = 5; level = level; count = count; owner = owner; next = 0; prev = 0; ssn = 0; own = own; used = 64 + length content } → slice (image_of bytes) 64 (length content) ≡ content
    → owner ≡ clustered_owner table → content ≡ flat_map name_bytes names → All IsName names → count ≡ length names → length names ≤ 336 → IsInnerPage bytes table own level names
inner_packed bytes table own level owner count content names head spelled owner_is content_is each count_is most =
    let long : 12 * length names ≡ length content = sym (names_long names) ∙ sym (ap (λ (l : List ℕ). length l) content_is) in
    record {
      head = record {
        kind_is = ap (λ (h : Header). h.kind) head;
        level_is = ap (λ (h : Header). h.level) head;
        owner_is = ap (λ (h : Header). h.owner) head ∙ owner_is;
        own_is = ap (λ (h : Header). h.own) head;
      };
      count = ap (λ (h : Header). h.count) head ∙ count_is;
      most = most;
      spelled = ap (slice (image_of bytes) 64) long ∙ spelled ∙ content_is;
      each = each;
    }

-- ---- what stands on a page, on another one

pub record IsMoved (old new : List ℕ) (own : ℕ) : Type 0 where
  pub kind : (header_of new).kind ≡ (header_of old).kind
  pub level : (header_of new).level ≡ (header_of old).level
  pub count : (header_of new).count ≡ (header_of old).count
  pub owner : (header_of new).owner ≡ (header_of old).owner
  pub next : (header_of new).next ≡ (header_of old).next
  pub used : (header_of new).used ≡ (header_of old).used
  pub own_is : (header_of new).own ≡ own
  pub content : (place : ℕ) → 64 ≤ place → image_of new place ≡ image_of old place

pub leaf_moved : (old new : List ℕ) (own table was next : ℕ) (rows : List Stored) → IsMoved old new own → IsLeaf old table was next rows → IsLeaf new table own next rows
leaf_moved old new own table was next rows m leaf =
    let page = leaf.page in
    record {
      page = record {
        head = record { kind_is = m.kind ∙ page.head.kind_is; level_is = m.level ∙ page.head.level_is; owner_is = m.owner ∙ page.head.owner_is; own_is = m.own_is };
        next_is = m.next ∙ page.next_is;
        used = m.used ∙ page.used;
        within = page.within;
        spelled = slice_agree (image_of new) (image_of old) 64 (length (flat_map stored_bytes rows)) (λ place low high. m.content place low) ∙ page.spelled;
        each = page.each;
      };
      count = m.count ∙ leaf.count;
    }

pub inner_moved : (old new : List ℕ) (own table was level : ℕ) (names : List Name) → IsMoved old new own → IsInnerPage old table was level names → IsInnerPage new table own level names
inner_moved old new own table was level names m is = record {
  head = record { kind_is = m.kind ∙ is.head.kind_is; level_is = m.level ∙ is.head.level_is; owner_is = m.owner ∙ is.head.owner_is; own_is = m.own_is };
  count = m.count ∙ is.count;
  most = is.most;
  spelled = slice_agree (image_of new) (image_of old) 64 (12 * length names) (λ place low high. m.content place low) ∙ is.spelled;
  each = is.each;
}

-- the first key of a page that has entries
pub first_low_is : (bytes : List ℕ) (table own level : ℕ) (names : List Name) → IsInnerPage bytes table own level names → 1 ≤ length names → cast_signed w64 (number_at 8 (image_of bytes) 64) ≡ first_low least_key names
first_low_is bytes table own level [] is some = absurd (omega (arith, some))
first_low_is bytes table own level (n ∷ names) is some = (first_name (image_of bytes) 64 n names (record { spelled = is.spelled; each = is.each })).key

-- one entry
pub one_entry : (name : Name) (entry : List ℕ) → entry ≡ name_bytes name → entry ≡ flat_map name_bytes (name ∷ [])
one_entry name entry is = is ∙ sym (append-nil (name_bytes name))

pub each_single : (n : Name) → IsName n → All IsName (n ∷ [])
each_single n is = search (arith, is)

pub least_is : cast_signed w64 (2 ^ 63) ≡ least_key
unfolding least_key
least_is = refl

pub least_fits : FitsSigned w64 least_key
unfolding least_key
least_fits = search arith

-- behind a header that is written all bytes stay
pub behind_head : (old new : Image) (h : Header) → ((place : ℕ) → new place ≡ put old 0 (header_bytes h) place) → (place : ℕ) → 64 ≤ place → new place ≡ old place
behind_head old new h is place low = is place ∙ put_above old 0 (header_bytes h) place (omega (arith, low))
