-- Ranges put into contents, one after the other. What they cover no longer depends on what stood there: this is the whole
-- theory of redo and of copies here.
use Rattle.std.proofs.Common.{◌≡◌, ℕ, ◌-◌, Bool, true, false, ◌||◌, List, [], ◌∷◌, ◌++◌, length, refl, sym, ◌∙◌, if◌then◌else◌}
use Rattle.std.specs.Prelude.{slice_index}
use Rattle.isp_disk.specs.Moments.{Image, Agree, in_range, put}
use Rattle.isp_format.specs.Ranges.{Contents, Range, cover, place_of, puts}
use Rattle.isp_format.proofs.Places.{neither, not_first, not_second}
use Rattle.isp_format.proofs.Slices.{put_inside, put_outside}

-- two images that are the same at a place, after one put
put_same : (one other : Image) (at : ℕ) (bytes : List ℕ) (place : ℕ) → (in_range at (length bytes) place ≡ false → one place ≡ other place) → put one at bytes place ≡ put other at bytes place
put_same one other at bytes place same = put_cases (in_range at (length bytes) place) (slice_index bytes (place - at)) (one place) (other place) same
  where
    put_cases : (is : Bool) (byte one other : ℕ) → (is ≡ false → one ≡ other) → (if is then byte else one) ≡ (if is then byte else other)
    put_cases true byte one other same = refl
    put_cases false byte one other same = same refl

-- a place that no range covers is left
pub puts_outside : (ranges : List Range) (contents : Contents) (place : ℕ) → cover ranges place ≡ false → puts ranges contents place ≡ contents place
puts_outside [] contents place out = refl
puts_outside (range ∷ ranges) contents place out =
    let first = in_range (place_of range) (length range.bytes) place in
    puts_outside ranges (put contents (place_of range) range.bytes) place (not_second first (cover ranges place) out)
    ∙ put_outside contents (place_of range) range.bytes place (not_first first (cover ranges place) out)

-- at each place: the same outside the ranges, the same after them
pub puts_same : (ranges : List Range) (one other : Contents) (place : ℕ) → (cover ranges place ≡ false → one place ≡ other place) → puts ranges one place ≡ puts ranges other place
puts_same [] one other place same = same refl
puts_same (range ∷ ranges) one other place same =
    puts_same ranges (put one (place_of range) range.bytes) (put other (place_of range) range.bytes) place
    (λ behind. put_same one other (place_of range) range.bytes place (λ first. same (neither (in_range (place_of range) (length range.bytes) place) (cover ranges place) first behind)))

-- absorption: what the ranges cover does not count
pub absorbs : (ranges : List Range) (one other : Contents) → Agree (cover ranges) one other → puts ranges one ≡ puts ranges other
absorbs ranges one other agree = λ i place. puts_same ranges one other place (agree place) i

-- the ranges change what they cover alone
pub puts_agree : (ranges : List Range) (contents : Contents) → Agree (cover ranges) contents (puts ranges contents)
puts_agree ranges contents place out = sym (puts_outside ranges contents place out)

-- mixture: over any mixture of bytes from before and after in the places that they cover, the ranges give the same
pub mixes : (ranges : List Range) (contents mixed : Contents) → Agree (cover ranges) contents mixed → puts ranges mixed ≡ puts ranges contents
mixes ranges contents mixed agree = sym (absorbs ranges contents mixed agree)

-- put twice they give what they gave
pub puts_again : (ranges : List Range) (contents : Contents) → puts ranges (puts ranges contents) ≡ puts ranges contents
puts_again ranges contents = mixes ranges contents (puts ranges contents) (puts_agree ranges contents)

-- one list of ranges behind another
pub puts_append : (first second : List Range) (contents : Contents) → puts (first ++ second) contents ≡ puts second (puts first contents)
puts_append [] second contents = refl
puts_append (range ∷ first) second contents = puts_append first second (put contents (place_of range) range.bytes)

pub cover_append : (first second : List Range) (place : ℕ) → cover (first ++ second) place ≡ (cover first place || cover second place)
cover_append [] second place = refl
cover_append (range ∷ first) second place =
    (λ i. in_range (place_of range) (length range.bytes) place || cover_append first second place i)
    ∙ joined (in_range (place_of range) (length range.bytes) place) (cover first place) (cover second place)
  where
    joined : (a b c : Bool) → (a || (b || c)) ≡ ((a || b) || c)
    joined true b c = refl
    joined false b c = refl

-- the last range that has a place gives its byte
pub last_put : (before after : List Range) (range : Range) (contents : Contents) (place : ℕ) → in_range (place_of range) (length range.bytes) place ≡ true → cover after place ≡ false → puts (before ++ range ∷ after) contents place ≡ slice_index range.bytes (place - place_of range)
last_put before after range contents place is out =
    (λ i. puts_append before (range ∷ after) contents i place)
    ∙ puts_outside after (put (puts before contents) (place_of range) range.bytes) place out
    ∙ put_inside (puts before contents) (place_of range) range.bytes place is
