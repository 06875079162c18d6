-- A header that is put field by field is put as a whole.
use Rattle.std.proofs.Common.{◌≡◌, ℕ, List, [], ◌∷◌, ◌++◌, refl, ◌∙◌}
use Rattle.isp_disk.specs.Moments.{Image, put}
use Rattle.isp_format.specs.Header.{Header, header_bytes}
use Rattle.isp_format.specs.Numbers.{bytes_of}
use Rattle.isp_format.proofs.Headers.{put_more}

pub put_fields : (old kinds count owner next prev ssn own used : Image) (h : Header) → kinds ≡ put old 0 (h.kind ∷ h.level ∷ []) → count ≡ put kinds 2 (bytes_of 2 h.count) → owner ≡ put count 4 (bytes_of 4 h.owner) → next ≡ put owner 8 (bytes_of 4 h.next) → prev ≡ put next 12 (bytes_of 4 h.prev) → ssn ≡ put prev 16 (bytes_of 8 h.ssn) → own ≡ put ssn 24 (bytes_of 4 h.own) → used ≡ put own 28 (bytes_of 4 h.used) → used ≡ put old 0 (header_bytes h)
put_fields old kinds count owner next prev ssn own used h put_kinds put_count put_owner put_next put_prev put_ssn put_own put_used =
    let b0 : List ℕ = h.kind ∷ h.level ∷ [] in
    let b1 : List ℕ = b0 ++ bytes_of 2 h.count in
    let b2 : List ℕ = b1 ++ bytes_of 4 h.owner in
    let b3 : List ℕ = b2 ++ bytes_of 4 h.next in
    let b4 : List ℕ = b3 ++ bytes_of 4 h.prev in
    let b5 : List ℕ = b4 ++ bytes_of 8 h.ssn in
    let b6 : List ℕ = b5 ++ bytes_of 4 h.own in
    let s1 : count ≡ put old 0 b1 = put_count ∙ put_more old kinds 0 b0 (bytes_of 2 h.count) 2 refl put_kinds in
    let s2 : owner ≡ put old 0 b2 = put_owner ∙ put_more old count 0 b1 (bytes_of 4 h.owner) 4 refl s1 in
    let s3 : next ≡ put old 0 b3 = put_next ∙ put_more old owner 0 b2 (bytes_of 4 h.next) 8 refl s2 in
    let s4 : prev ≡ put old 0 b4 = put_prev ∙ put_more old next 0 b3 (bytes_of 4 h.prev) 12 refl s3 in
    let s5 : ssn ≡ put old 0 b5 = put_ssn ∙ put_more old prev 0 b4 (bytes_of 8 h.ssn) 16 refl s4 in
    let s6 : own ≡ put old 0 b6 = put_own ∙ put_more old ssn 0 b5 (bytes_of 4 h.own) 24 refl s5 in
    put_used ∙ put_more old own 0 b6 (bytes_of 4 h.used) 28 refl s6
