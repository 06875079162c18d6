-- Page 0 that says its space says these numbers, and one whose fields were put says them again.
use Rattle.std.proofs.Common.{◌≡◌, ℕ, ◌+◌, List, [], ◌++◌, refl, sym, ◌∙◌, ap, arith}
use Rattle.std.proofs.lemmas.List.{append-nil}
use Rattle.isp_disk.specs.Moments.{Image, image_of, put, slice}
use Rattle.isp_format.specs.Header.{header_of}
use Rattle.isp_format.specs.Numbers.{bytes_of}
use Rattle.isp_format.specs.Space.{FitsSpace, IsSpacePage, SpacePage, space_bytes}
use Rattle.isp_format.proofs.Headers.{header_same, put_more}
use Rattle.isp_format.proofs.Parts.{number_next}
use Rattle.isp_format.proofs.Slices.{put_below, slice_put}
use Rattle.isp_format.specs.SpaceValues.{numbers_in}

pub put_all : (old head count fresh tables entries bytes : Image) (s : SpacePage) → head ≡ put old 64 (bytes_of 4 s.free_head) → count ≡ put head 68 (bytes_of 4 s.free_count) → fresh ≡ put count 72 (bytes_of 4 s.fresh) → tables ≡ put fresh 76 (bytes_of 4 s.tables) → entries ≡ put tables 80 (bytes_of 8 s.entries) → bytes ≡ put entries 88 (bytes_of 8 s.bytes) → bytes ≡ put old 64 (space_bytes s)
put_all old head count fresh tables entries bytes s put_head put_count put_fresh put_tables put_entries put_bytes =
    let b0 : List ℕ = bytes_of 4 s.free_head in
    let b1 : List ℕ = b0 ++ bytes_of 4 s.free_count in
    let b2 : List ℕ = b1 ++ bytes_of 4 s.fresh in
    let b3 : List ℕ = b2 ++ bytes_of 4 s.tables in
    let b4 : List ℕ = b3 ++ bytes_of 8 s.entries in
    let s1 : count ≡ put old 64 b1 = put_count ∙ put_more old head 64 b0 (bytes_of 4 s.free_count) 68 refl put_head in
    let s2 : fresh ≡ put old 64 b2 = put_fresh ∙ put_more old count 64 b1 (bytes_of 4 s.fresh) 72 refl s1 in
    let s3 : tables ≡ put old 64 b3 = put_tables ∙ put_more old fresh 64 b2 (bytes_of 4 s.tables) 76 refl s2 in
    let s4 : entries ≡ put old 64 b4 = put_entries ∙ put_more old tables 64 b3 (bytes_of 8 s.entries) 80 refl s3 in
    put_bytes ∙ put_more old entries 64 b4 (bytes_of 8 s.bytes) 88 refl s4

-- ---- what stands there is read

numbers_made : (one other : SpacePage) → one.free_head ≡ other.free_head → one.free_count ≡ other.free_count → one.fresh ≡ other.fresh → one.tables ≡ other.tables → one.entries ≡ other.entries → one.bytes ≡ other.bytes → one ≡ other
numbers_made one other head count fresh tables entries bytes = λ i. record { free_head = head i; free_count = count i; fresh = fresh i; tables = tables i; entries = entries i; bytes = bytes i }

pub says_numbers : (bytes : List ℕ) (s : SpacePage) → IsSpacePage bytes s → numbers_in bytes ≡ s
says_numbers bytes s says =
    let f = says.fits in
    let image = image_of bytes in
    let head = number_next 4 s.free_head image 64 28 68 _ f.free_head refl says.spelled in
    let count = number_next 4 s.free_count image 68 24 72 _ f.free_count refl head.1 in
    let fresh = number_next 4 s.fresh image 72 20 76 _ f.fresh refl count.1 in
    let tables = number_next 4 s.tables image 76 16 80 _ f.tables refl fresh.1 in
    let entries = number_next 8 s.entries image 80 8 88 _ f.entries refl tables.1 in
    let last : slice image 88 (8 + 0) ≡ bytes_of 8 s.bytes ++ [] = entries.1 ∙ sym (append-nil (bytes_of 8 s.bytes)) in
    let bytes_are = number_next 8 s.bytes image 88 0 96 [] f.bytes refl last in
    numbers_made (numbers_in bytes) s head.0 count.0 fresh.0 tables.0 entries.0 bytes_are.0

-- ---- and what is put there is said

pub put_says : (old new : List ℕ) (was s : SpacePage) → IsSpacePage old was → FitsSpace s → ((place : ℕ) → image_of new place ≡ put (image_of old) 64 (space_bytes s) place) → IsSpacePage new s
put_says old new was s says fits is =
    let header : header_of old ≡ header_of new = header_same old new (λ place low. sym (is place ∙ put_below (image_of old) 64 (space_bytes s) place (omega (arith, low)))) in
    let image : image_of new ≡ put (image_of old) 64 (space_bytes s) = λ i place. is place i in
    record {
      head = record {
        kind_is = sym (ap (λ h. h.kind) header) ∙ says.head.kind_is;
        level_is = sym (ap (λ h. h.level) header) ∙ says.head.level_is;
        owner_is = sym (ap (λ h. h.owner) header) ∙ says.head.owner_is;
        own_is = sym (ap (λ h. h.own) header) ∙ says.head.own_is;
      };
      spelled = ap (λ (m : Image). slice m 64 32) image ∙ slice_put (image_of old) 64 (space_bytes s);
      fits = fits;
    }
