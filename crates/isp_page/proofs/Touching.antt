-- Which pages calls leave as they are: the laws of `KeepsPages`.
use Rattle.std.proofs.Common.{◌≡◌, ℕ, ◌+◌, ◌*◌, ◌≤◌, ◌<◌, ◌==◌, Bool, false, List, length, refl, ◌∙◌, arith}
use Rattle.std.proofs.lemmas.Bool.Decides.{nat_tests}
use Rattle.isp_disk.specs.Moments.{in_range, put}
use Rattle.isp_format.specs.Ranges.{Contents, page_bytes, page_of}
use Rattle.isp_format.proofs.Slices.{slice_beside}
use Rattle.isp_page.specs.Touched.{KeepsPages, is_page}

pub keeps_all : (touched : ℕ → Bool) (contents : Contents) → KeepsPages touched contents contents
keeps_all touched contents page out = refl

-- one behind another
pub keeps_on : (touched : ℕ → Bool) (old mid new : Contents) → KeepsPages touched old mid → KeepsPages touched mid new → KeepsPages touched old new
keeps_on touched old mid new first second page out = second page out ∙ first page out

-- fewer pages are touched
pub keeps_wider : (touched wider : ℕ → Bool) (old new : Contents) → ((page : ℕ) → wider page ≡ false → touched page ≡ false) → KeepsPages touched old new → KeepsPages wider old new
keeps_wider touched wider old new within kept page out = kept page (within page out)

-- the places of a page lie beside those of another
other_places : (page other at size place : ℕ) → at + size ≤ page_bytes → (other == page) ≡ false → other * page_bytes ≤ place → place < other * page_bytes + page_bytes → in_range (page * page_bytes + at) size place ≡ false
other_places page other at size place inside differs low high = grind (arith, nat_tests)

-- bytes that are put into a page leave every other page
pub change_keeps : (contents : Contents) (page at : ℕ) (bytes : List ℕ) → at + length bytes ≤ page_bytes → KeepsPages (is_page page) contents (put contents (page * page_bytes + at) bytes)
unfolding page_of
change_keeps contents page at bytes inside other differs =
    slice_beside contents (page * page_bytes + at) bytes (other * page_bytes) page_bytes (λ place low high. other_places page other at (length bytes) place inside differs low high)
