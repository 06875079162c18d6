-- Content that is put together of pieces.
use Rattle.std.proofs.Common.{◌≡◌, ℕ, ◌+◌, List, ◌++◌, length, ◌∙◌, ap, arith}
use Rattle.std.proofs.lemmas.List.{append_assoc, length-append}
use Rattle.isp_disk.specs.Moments.{Image, put, slice}
use Rattle.isp_format.specs.Header.{Header, header_bytes}
use Rattle.isp_format.proofs.Headers.{put_more}
use Rattle.isp_format.proofs.Slices.{length-slice, put_above, slice_agree, slice_put}

-- three pieces one behind another
pub three_put : (zero one two three : Image) (a b c : List ℕ) (first second total : ℕ) → one ≡ put zero 0 a → two ≡ put one first b → three ≡ put two second c → first ≡ length a → second ≡ first + length b → total ≡ first + (length b + length c)
    → slice three 0 total ≡ a ++ (b ++ c)
three_put zero one two three a b c first second total put_a put_b put_c first_is second_is total_is =
    let s1 : two ≡ put zero 0 (a ++ b) = put_b ∙ put_more zero one 0 a b first (omega (arith, first_is)) put_a in
    let sum = length-append a b in
    let s2 : three ≡ put zero 0 ((a ++ b) ++ c) = put_c ∙ put_more zero two 0 (a ++ b) c second (omega (arith, first_is, second_is, sum)) s1 in
    let all = length-append (a ++ b) c in
    let long : total ≡ length ((a ++ b) ++ c) = omega (arith, all, sum, first_is, total_is) in
    (λ i. slice (s2 i) 0 (long i)) ∙ slice_put zero 0 ((a ++ b) ++ c) ∙ append_assoc a b c

-- content behind a header
pub behind_header : (zero content whole : Image) (bytes : List ℕ) (h : Header) → content ≡ put zero 64 bytes → ((place : ℕ) → whole place ≡ put content 0 (header_bytes h) place) → slice whole 64 (length bytes) ≡ bytes
behind_header zero content whole bytes h put_is head_is =
    slice_agree whole content 64 (length bytes) (λ place low high. head_is place ∙ put_above content 0 (header_bytes h) place (omega (arith, low)))
    ∙ ap (λ (image : Image). slice image 64 (length bytes)) put_is
    ∙ slice_put zero 64 bytes

pub piece_long : (image : Image) (at size : ℕ) (bytes : List ℕ) → bytes ≡ slice image at size → length bytes ≡ size
piece_long image at size bytes is = ap (λ (l : List ℕ). length l) is ∙ length-slice image at size
