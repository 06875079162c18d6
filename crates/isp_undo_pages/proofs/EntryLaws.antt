-- Entries in the bytes of an undo page.
use Rattle.std.proofs.Common.{◌≡◌, ℕ, zero, suc, ◌+◌, ◌-◌, ◌<◌, ◌≤◌, ◌^◌, ℤ, List, [], ◌∷◌, ◌++◌, length, take, drop, refl, sym, ◌∙◌, ap, arith}
use Rattle.std.specs.Prelude.{All, FitsSigned}
use Rattle.std.specs.Int.{cast_signed, cast_unsigned, w64}
use Rattle.std.specs.List.{flat_map}
use Rattle.std.proofs.Math.Seq.{take-append_seam}
use Rattle.std.proofs.Math.Facts.{Fits-lt-pow, Fits-of_z}
use Rattle.std.proofs.lemmas.Int.{to_z-of_z}
use Rattle.std.proofs.lemmas.Grind.{flat_map-append}
use Rattle.std.proofs.lemmas.List.{append-nil, length-append, length-take-le}
use Rattle.std.proofs.lemmas.List.Elements.{All-append}
use Rattle.byteorder.specs.Numbers.{length-bytes_high_first}
use Rattle.isp_disk.specs.Moments.{Image, image_of, put, slice}
use Rattle.isp_format.specs.Header.{Header, header_bytes, header_of}
use Rattle.isp_format.specs.Leaf.{key_bytes}
use Rattle.isp_format.specs.Numbers.{bytes_of, number_at}
use Rattle.isp_format.specs.Undo.{IsImage, IsUndoPage, OldImage, image_bytes}
use Rattle.isp_format.proofs.Headers.{put_more}
use Rattle.isp_format.proofs.PageOnce.{head_once}
use Rattle.isp_format.proofs.Parts.{number_next, slice_cut, slice_parts}
use Rattle.isp_format.proofs.Slices.{piece_slice, put_above, put_below, slice_agree, slice_put}
use Rattle.isp_undo_pages.specs.Entries.{IsBuf, IsEntry}
use Rattle.isp_undo_pages.specs.declared.buf.UndoBuf.{UndoBuf}

-- an entry by its parts
abbrev behind_len : OldImage → List ℕ
behind_len i = i.row ++ bytes_of 2 (17 + length i.row)

abbrev behind_kind : OldImage → List ℕ
behind_kind i = bytes_of 2 (length i.row) ++ behind_len i

abbrev behind_key : OldImage → List ℕ
behind_key i = i.kind ∷ behind_kind i

len_long : (i : OldImage) → length (behind_len i) ≡ length i.row + 2
len_long i = let sum = length-append i.row (bytes_of 2 (17 + length i.row)) in let two = length-bytes_high_first 2 (17 + length i.row) in omega (arith, sum, two)

kind_long : (i : OldImage) → length (behind_kind i) ≡ length i.row + 4
kind_long i = let sum = length-append (bytes_of 2 (length i.row)) (behind_len i) in let two = length-bytes_high_first 2 (length i.row) in let rest = len_long i in omega (arith, sum, two, rest)

key_long : (i : OldImage) → length (behind_key i) ≡ length i.row + 5
key_long i = let rest = kind_long i in omega (arith, rest)

pub image_long : (i : OldImage) → length (image_bytes i) ≡ 17 + length i.row
image_long i =
    let sum = length-append (bytes_of 4 i.table) (key_bytes i.key ++ behind_key i) in
    let four = length-bytes_high_first 4 i.table in
    let sum_too = length-append (key_bytes i.key) (behind_key i) in
    let eight = length-bytes_high_first 8 (cast_unsigned w64 i.key) in
    let rest = key_long i in
    omega (arith, sum, four, sum_too, eight, rest)

pub images_joined : (images : List OldImage) (image : OldImage) → flat_map image_bytes (images ++ image ∷ []) ≡ flat_map image_bytes images ++ image_bytes image
images_joined images image = flat_map-append image_bytes images (image ∷ []) ∙ ap (λ (bytes : List ℕ). flat_map image_bytes images ++ bytes) (append-nil (image_bytes image))

pub joined_long : (images : List OldImage) (image : OldImage) → length (flat_map image_bytes (images ++ image ∷ [])) ≡ length (flat_map image_bytes images) + (17 + length image.row)
joined_long images image =
    let sum = length-append (flat_map image_bytes images) (image_bytes image) in
    let one = image_long image in
    let same = ap (λ (bytes : List ℕ). length bytes) (images_joined images image) in
    omega (arith, sum, one, same)

-- the newest image of a page
pub record IsNewest (image : Image) (used at : ℕ) (i : OldImage) : Type 0 where
  pub entry : IsEntry image at i
  pub from : 64 ≤ at
  pub end : used ≡ at + 17 + length i.row
  pub most : length i.row ≤ 1000

last_of_all : (images : List OldImage) (image : OldImage) → All IsImage (images ++ image ∷ []) → IsImage image
last_of_all [] image all = all 0 image (omega arith)
last_of_all (x ∷ images) image all = last_of_all images image (λ k d h. all (suc k) d (omega (arith, h)))

first_of_all : (images gone : List OldImage) → All IsImage (images ++ gone) → All IsImage images
first_of_all [] gone all k d h = absurd (omega (arith, h))
first_of_all (x ∷ images) gone all zero d h = all 0 d (omega arith)
first_of_all (x ∷ images) gone all (suc k) d h = first_of_all images gone (λ k d h. all (suc k) d (omega (arith, h))) k d (omega (arith, h))

pub newest_stands : (bytes : List ℕ) (own before next used : ℕ) (images : List OldImage) (image : OldImage) → IsUndoPage bytes own before next (images ++ image ∷ []) → used ≡ 64 + length (flat_map image_bytes (images ++ image ∷ [])) → IsNewest (image_of bytes) used (64 + length (flat_map image_bytes images)) image
newest_stands bytes own before next used images image page used_is =
    let long = joined_long images image in
    let one = image_long image in
    let is = last_of_all images image page.each in
    let parts = slice_cut (image_of bytes) 64 (flat_map image_bytes images) (image_bytes image) (length (flat_map image_bytes (images ++ image ∷ []))) (page.spelled ∙ images_joined images image) (omega (arith, long, one)) in
    record {
      entry = record { spelled = parts.1; is = is };
      from = omega arith;
      end = omega (arith, used_is, long);
      most = is.row;
    }

-- what stands in an entry's fields
pub record HasFields (image : Image) (at : ℕ) (i : OldImage) : Type 0 where
  pub table : number_at 4 image at ≡ i.table
  pub key : number_at 8 image (at + 4) ≡ cast_unsigned w64 i.key
  pub kind : image (at + 12) ≡ i.kind
  pub row : slice image (at + 15) (length i.row) ≡ i.row
  pub whole : number_at 2 image (at + 15 + length i.row) ≡ 17 + length i.row

key_small : (key : ℤ) → FitsSigned w64 key → cast_unsigned w64 key < 256 ^ 8
key_small key fits = let small : cast_unsigned w64 key < 2 ^ 64 = Fits-lt-pow (Fits-of_z fits) in small

pub fields_of : (image : Image) (at : ℕ) (i : OldImage) → IsEntry image at i → HasFields image at i
fields_of image at i entry =
    let n : ℕ = length i.row in
    let few = entry.is.row in
    let long = image_long i in
    let count : 4 + (8 + suc (2 + (n + 2))) ≡ length (image_bytes i) = omega (arith, long) in
    let spread : slice image at (4 + (8 + suc (2 + (n + 2)))) ≡ image_bytes i = ap (slice image at) count ∙ entry.spelled in
    let table = number_next 4 i.table image at (8 + suc (2 + (n + 2))) (at + 4) (key_bytes i.key ++ behind_key i) entry.is.table refl spread in
    let key = number_next 8 (cast_unsigned w64 i.key) image (at + 4) (suc (2 + (n + 2))) (at + 12) (behind_key i) (key_small i.key entry.is.key) (omega arith) table.1 in
    let kind = head_once (image (at + 12)) i.kind (slice image (suc (at + 12)) (2 + (n + 2))) (behind_kind i) key.1 in
    let len = number_next 2 n image (suc (at + 12)) (n + 2) (at + 15) (behind_len i) (omega (arith, few)) (omega arith) kind.1 in
    let ends = length-bytes_high_first 2 (17 + n) in
    let row = slice_cut image (at + 15) i.row (bytes_of 2 (17 + n)) (n + 2) len.1 (omega (arith, ends)) in
    let last : slice image (at + 15 + n) (2 + 0) ≡ bytes_of 2 (17 + n) ++ [] = row.1 ∙ sym (append-nil (bytes_of 2 (17 + n))) in
    let whole = number_next 2 (17 + n) image (at + 15 + n) 0 (at + 15 + n + 2) [] (omega (arith, few)) refl last in
    record { table = table.0; key = key.0; kind = kind.0; row = row.0; whole = whole.0 }

-- an entry is spelled field by field
pub spelled_all : (old table key kind len row whole : Image) (at : ℕ) (i : OldImage) → table ≡ put old at (bytes_of 4 i.table) → key ≡ put table (at + 4) (key_bytes i.key) → kind ≡ put key (at + 12) (i.kind ∷ []) → len ≡ put kind (at + 13) (bytes_of 2 (length i.row)) → row ≡ put len (at + 15) i.row → whole ≡ put row (at + 15 + length i.row) (bytes_of 2 (17 + length i.row))
    → whole ≡ put old at (image_bytes i)
spelled_all old table key kind len row whole at i put_table put_key put_kind put_len put_row put_whole =
    let b0 : List ℕ = bytes_of 4 i.table in
    let b1 : List ℕ = b0 ++ key_bytes i.key in
    let b2 : List ℕ = b1 ++ (i.kind ∷ []) in
    let b3 : List ℕ = b2 ++ bytes_of 2 (length i.row) in
    let b4 : List ℕ = b3 ++ i.row in
    let s1 : key ≡ put old at b1 = put_key ∙ put_more old table at b0 (key_bytes i.key) (at + 4) refl put_table in
    let s2 : kind ≡ put old at b2 = put_kind ∙ put_more old key at b1 (i.kind ∷ []) (at + 12) refl s1 in
    let s3 : len ≡ put old at b3 = put_len ∙ put_more old kind at b2 (bytes_of 2 (length i.row)) (at + 13) refl s2 in
    let s4 : row ≡ put old at b4 = put_row ∙ put_more old len at b3 i.row (at + 15) refl s3 in
    let long : length b4 ≡ 15 + length i.row = length-append b3 i.row in
    put_whole ∙ put_more old row at b4 (bytes_of 2 (17 + length i.row)) (at + 15 + length i.row) (omega (arith, long)) s4

-- a buffer's row is as long as it says
pub row_long : (buf : UndoBuf) → IsBuf buf → length buf.bytes ≡ 1000 → length (take buf.len buf.bytes) ≡ buf.len
row_long buf is whole = let few = is.len in length-take-le buf.len buf.bytes (omega (arith, few, whole))

pub key_back : (key : ℤ) → FitsSigned w64 key → cast_signed w64 (cast_unsigned w64 key) ≡ key
key_back key fits = to_z-of_z w64 key fits

-- what stands behind the header stays under another header
under_head : (mid new : Image) (h : Header) (at size : ℕ) → ((place : ℕ) → new place ≡ put mid 0 (header_bytes h) place) → 32 ≤ at → slice new at size ≡ slice mid at size
under_head mid new h at size is from = slice_agree new mid at size (λ place low high. is place ∙ put_above mid 0 (header_bytes h) place (omega (arith, from, low)))

-- the header of a page with other links and another end
pub record IsAsBefore (old new : Header) : Type 0 where
  pub kind : new.kind ≡ old.kind
  pub level : new.level ≡ old.level
  pub owner : new.owner ≡ old.owner
  pub own : new.own ≡ old.own
  pub before : new.prev ≡ old.prev

pub page_cut : (old new : List ℕ) (h : Header) → ((place : ℕ) → image_of new place ≡ put (image_of old) 0 (header_bytes h) place) → header_of new ≡ h → IsAsBefore (header_of old) h
    → (own before was next used : ℕ) (images gone : List OldImage) → IsUndoPage old own before was (images ++ gone) → h.next ≡ next → h.used ≡ used → used ≡ 64 + length (flat_map image_bytes images) → IsUndoPage new own before next images
page_cut old new h is head same own before was next used images gone page next_is used_is end =
    let joined = flat_map-append image_bytes images gone in
    let long : length (flat_map image_bytes (images ++ gone)) ≡ length (flat_map image_bytes images) + length (flat_map image_bytes gone) = ap length joined ∙ length-append (flat_map image_bytes images) (flat_map image_bytes gone) in
    let parts = slice_cut (image_of old) 64 (flat_map image_bytes images) (flat_map image_bytes gone) (length (flat_map image_bytes (images ++ gone))) (page.spelled ∙ joined) long in
    let within = page.within in
    record {
      head = record {
        kind_is = ap (λ (h : Header). h.kind) head ∙ same.kind ∙ page.head.kind_is;
        level_is = ap (λ (h : Header). h.level) head ∙ same.level ∙ page.head.level_is;
        owner_is = ap (λ (h : Header). h.owner) head ∙ same.owner ∙ page.head.owner_is;
        own_is = ap (λ (h : Header). h.own) head ∙ same.own ∙ page.head.own_is;
      };
      before_is = ap (λ (h : Header). h.prev) head ∙ same.before ∙ page.before_is;
      next_is = ap (λ (h : Header). h.next) head ∙ next_is;
      used = ap (λ (h : Header). h.used) head ∙ used_is ∙ end;
      within = omega (arith, within, long);
      spelled = under_head (image_of old) (image_of new) h 64 (length (flat_map image_bytes images)) is (omega arith) ∙ parts.0;
      each = first_of_all images gone page.each;
    }

all_one : (i : OldImage) → IsImage i → All IsImage (i ∷ [])
all_one i is zero d h = is
all_one i is (suc k) d h = absurd (omega (arith, h))

pub page_longer : (old new : List ℕ) (mid : Image) (h : Header) (i : OldImage) (used : ℕ) → mid ≡ put (image_of old) used (image_bytes i) → ((place : ℕ) → image_of new place ≡ put mid 0 (header_bytes h) place) → header_of new ≡ h → IsAsBefore (header_of old) h → IsImage i → used + (17 + length i.row) ≤ 4096
    → (own before next : ℕ) (images : List OldImage) → IsUndoPage old own before next images → h.next ≡ (header_of old).next → h.used ≡ used + (17 + length i.row) → used ≡ 64 + length (flat_map image_bytes images) → IsUndoPage new own before next (images ++ i ∷ [])
page_longer old new mid h i used put_is is head same is_image fits own before next images page next_is used_is end =
    let one = image_long i in
    let long = joined_long images i in
    let first : slice (image_of new) 64 (length (flat_map image_bytes images)) ≡ flat_map image_bytes images =
    under_head mid (image_of new) h 64 (length (flat_map image_bytes images)) is (omega arith)
    ∙ slice_agree mid (image_of old) 64 (length (flat_map image_bytes images)) (λ place low high. ap (λ (image : Image). image place) put_is ∙ put_below (image_of old) used (image_bytes i) place (omega (arith, high, end)))
    ∙ page.spelled in
    let second : slice (image_of new) used (length (image_bytes i)) ≡ image_bytes i =
    under_head mid (image_of new) h used (length (image_bytes i)) is (omega (arith, end))
    ∙ ap (λ (image : Image). slice image used (length (image_bytes i))) put_is ∙ slice_put (image_of old) used (image_bytes i) in
    let all : slice (image_of new) 64 (length (flat_map image_bytes (images ++ i ∷ []))) ≡ flat_map image_bytes (images ++ i ∷ []) =
    ap (slice (image_of new) 64) (omega (arith, long, one))
    ∙ slice_parts (image_of new) 64 (length (flat_map image_bytes images)) (length (image_bytes i))
    ∙ (λ k. first k ++ slice (image_of new) (64 + length (flat_map image_bytes images)) (length (image_bytes i)))
    ∙ ap (λ (p : ℕ). flat_map image_bytes images ++ slice (image_of new) p (length (image_bytes i))) (sym end)
    ∙ ap (λ (bytes : List ℕ). flat_map image_bytes images ++ bytes) second ∙ sym (images_joined images i) in
    record {
      head = record {
        kind_is = ap (λ (h : Header). h.kind) head ∙ same.kind ∙ page.head.kind_is;
        level_is = ap (λ (h : Header). h.level) head ∙ same.level ∙ page.head.level_is;
        owner_is = ap (λ (h : Header). h.owner) head ∙ same.owner ∙ page.head.owner_is;
        own_is = ap (λ (h : Header). h.own) head ∙ same.own ∙ page.head.own_is;
      };
      before_is = ap (λ (h : Header). h.prev) head ∙ same.before ∙ page.before_is;
      next_is = ap (λ (h : Header). h.next) head ∙ next_is ∙ page.next_is;
      used = ap (λ (h : Header). h.used) head ∙ used_is ∙ omega (arith, end, long);
      within = omega (arith, fits, long, end);
      spelled = all;
      each = All-append IsImage images (i ∷ []) page.each (all_one i is_image);
    }

-- bytes of a page as its slice
pub piece_is : (bytes : List ℕ) (at to size : ℕ) → to ≡ at + size → to ≤ length bytes → take (to - at) (drop at bytes) ≡ slice (image_of bytes) at size
piece_is bytes at to size is inside =
    let same : to - at ≡ size = omega (arith, is) in
    ap (λ (n : ℕ). take n (drop at bytes)) same ∙ piece_slice bytes at size (omega (arith, is, inside))

pub front_of : (xs ys : List ℕ) (n : ℕ) → length xs ≡ n → take n (xs ++ ys) ≡ xs
front_of xs ys n long = ap (λ (k : ℕ). take k (xs ++ ys)) (sym long) ∙ take-append_seam xs ys
