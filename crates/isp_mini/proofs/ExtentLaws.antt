-- What the extents are once a change was noted: their pages, their number, and the places that they cover.
use Rattle.std.proofs.Common.{◌≡◌, ◌≢◌, ℕ, zero, suc, ◌+◌, ◌*◌, ◌-◌, ◌<◌, ◌≤◌, ◌==◌, ◌||◌, Bool, true, false, List, [], ◌∷◌, ◌++◌, All, length, map, min, max, get_or, set, refl, sym, ◌∙◌, ap, subst, arith, if◌then◌else◌}
use Rattle.std.specs.Prelude.{Some, None}
use Rattle.std.specs.List.{list_any, position, position_or_len}
use Rattle.std.proofs.lemmas.Grind.{common_steps}
use Rattle.std.proofs.lemmas.List.{length-append, length-map}
use Rattle.std.proofs.lemmas.List.Elements.{All-append, All-cons, All-head, All-nil, All-tail}
use Rattle.std.proofs.lemmas.List.Quantifiers.{position-Some}
use Rattle.std.proofs.lemmas.List.Sums.{fails_before_first}
use Rattle.std.proofs.lemmas.Bool.Decides.{nat_tests}
use Rattle.isp_disk.specs.Moments.{Agree, Within, in_range, put}
use Rattle.isp_format.specs.Doublewrite.{AreDistinct}
use Rattle.isp_format.specs.Ranges.{Contents, page_bytes, page_of}
use Rattle.isp_format.proofs.Places.{neither, not_first, not_second}
use Rattle.isp_format.proofs.Slices.{put_outside, slice_agree}
use Rattle.isp_page.specs.State.{most_changed, with_page}
use Rattle.isp_base.specs.declared.page_no.PageNo.{PageNo}
use Rattle.isp_mini.specs.Extents.{AreExtents, IsExtent, extent_cover, extent_place, page_number, widened, with_extent}
use Rattle.isp_mini.specs.declared.changes.Extent.{Extent}

same_number : (n m : ℕ) → (n == m) ≡ true → n ≡ m
same_number n m is = grind (arith, nat_tests)

apart : (n m : ℕ) → (n == m) ≡ false → n ≢ m
apart n m isnt = grind (arith, nat_tests)

-- the extent that a page gets which has none
abbrev noted : PageNo → ℕ → ℕ → Extent
noted page at end = record { page = page; at = at; end = end }

-- a page's first extent is widened in its place
with_widened : (page : PageNo) (at end : ℕ) (extents : List Extent) (i : ℕ) (d : Extent) → i < length extents → ((get_or extents i d).page.0 == page.0) ≡ true → ((k : ℕ) → k < i → ((get_or extents k d).page.0 == page.0) ≡ false) → set extents i (widened page at end (get_or extents i d)) ≡ with_extent page at end extents
with_widened page at end [] i d inside here before = absurd (omega arith)
with_widened page at end (extent ∷ extents) zero d inside here before =
    ap (λ (b : Bool). if b then widened page at end extent ∷ extents else extent ∷ with_extent page at end extents) (sym here)
with_widened page at end (extent ∷ extents) (suc i) d inside here before =
    ap (λ (rest : List Extent). extent ∷ rest) (with_widened page at end extents i d (omega arith) here (λ k less. before (suc k) (omega (arith, less))))
    ∙ ap (λ (b : Bool). if b then widened page at end extent ∷ extents else extent ∷ with_extent page at end extents) (sym (before 0 (omega arith)))

-- where the page has none, a new one stands behind the others
with_new : (page : PageNo) (at end : ℕ) (extents : List Extent) → ((k : ℕ) (d : Extent) → k < length extents → ((get_or extents k d).page.0 == page.0) ≡ false) → extents ++ noted page at end ∷ [] ≡ with_extent page at end extents
with_new page at end [] none = refl
with_new page at end (extent ∷ extents) none =
    ap (λ (rest : List Extent). extent ∷ rest) (with_new page at end extents (λ k d less. none (suc k) d (omega (arith, less))))
    ∙ ap (λ (b : Bool). if b then widened page at end extent ∷ extents else extent ∷ with_extent page at end extents) (sym (none 0 extent (omega arith)))

-- the same, where the page's extent was looked for
pub with_found : (page : PageNo) (at end : ℕ) (extents : List Extent) (i : ℕ) (d : Extent) → position (λ extent. extent.page.0 == page.0) extents ≡ Some i → set extents i (widened page at end (get_or extents i d)) ≡ with_extent page at end extents
with_found page at end extents i d is =
    let found = position-Some (λ (extent : Extent). extent.page.0 == page.0) extents i d is in
    with_widened page at end extents i d found.0 found.1 found.2

past_the_end : (p : Extent → Bool) (extents : List Extent) → position p extents ≡ None → length extents ≤ position_or_len p extents
past_the_end p extents is = grind (arith, common_steps)

pub with_none : (page : PageNo) (at end : ℕ) (extents : List Extent) → position (λ extent. extent.page.0 == page.0) extents ≡ None → extents ++ record { page = page; at = at; end = end } ∷ [] ≡ with_extent page at end extents
with_none page at end extents is =
    let test : Extent → Bool = λ extent. extent.page.0 == page.0 in
    let all : length extents ≤ position_or_len test extents = past_the_end test extents is in
    with_new page at end extents (λ k d inside. fails_before_first test extents k d (omega (arith, all, inside)))

-- the pages

cons_if : (n : ℕ) (b : Bool) (one other : List ℕ) → n ∷ (if b then one else other) ≡ (if b then n ∷ one else n ∷ other)
cons_if n true one other = refl
cons_if n false one other = refl

pages_step : (page : PageNo) (at end : ℕ) (extent : Extent) (extents : List Extent) (b : Bool) → (b ≡ true → extent.page.0 ≡ page.0) → map page_number (with_extent page at end extents) ≡ with_page page.0 (map page_number extents) → map page_number (if b then widened page at end extent ∷ extents else extent ∷ with_extent page at end extents) ≡ (if b || list_any (λ other. other == page.0) (map page_number extents) then extent.page.0 ∷ map page_number extents else extent.page.0 ∷ (map page_number extents ++ page.0 ∷ []))
pages_step page at end extent extents true same rest = λ i. sym (same refl) i ∷ map page_number extents
pages_step page at end extent extents false same rest =
    ap (λ (pages : List ℕ). extent.page.0 ∷ pages) rest
    ∙ cons_if extent.page.0 (list_any (λ other. other == page.0) (map page_number extents)) (map page_number extents) (map page_number extents ++ page.0 ∷ [])

-- the page of a change comes behind the others, unless it is one of them
pub pages_with : (page : PageNo) (at end : ℕ) (extents : List Extent) → map page_number (with_extent page at end extents) ≡ with_page page.0 (map page_number extents)
pages_with page at end [] = refl
pages_with page at end (extent ∷ extents) =
    pages_step page at end extent extents (extent.page.0 == page.0) (same_number extent.page.0 page.0) (pages_with page at end extents)

distinct_behind : (page : ℕ) (pages : List ℕ) → list_any (λ other. other == page) pages ≡ false → AreDistinct pages → AreDistinct (pages ++ page ∷ [])
distinct_behind page [] none distinct = (All-nil (λ other. (page ≡ other) → ⊥), tt)
distinct_behind page (first ∷ pages) none distinct =
    let differs : first ≢ page = apart first page (not_first (first == page) (list_any (λ other. other == page) pages) none) in
    let others : All (λ other. (first ≡ other) → ⊥) (page ∷ []) = All-cons (λ other. (first ≡ other) → ⊥) page [] differs (All-nil (λ other. (first ≡ other) → ⊥)) in
    (All-append (λ other. (first ≡ other) → ⊥) pages (page ∷ []) distinct.0 others, distinct_behind page pages (not_second (first == page) (list_any (λ other. other == page) pages) none) distinct.1)

distinct_with : (page : ℕ) (pages : List ℕ) (b : Bool) → list_any (λ other. other == page) pages ≡ b → AreDistinct pages → AreDistinct (if b then pages else pages ++ page ∷ [])
distinct_with page pages true is distinct = distinct
distinct_with page pages false is distinct = distinct_behind page pages is distinct

-- what holds of each extent

all_step : (P : Extent → Type 0) (one other : Extent) (extents rest : List Extent) (b : Bool) → (b ≡ true → P one) → All P extents → P other → All P rest → All P (if b then one ∷ extents else other ∷ rest)
all_step P one other extents rest true first behind here all = All-cons P one extents (first refl) behind
all_step P one other extents rest false first behind here all = All-cons P other rest here all

-- what holds of a new extent, and is kept as one is widened, holds of all
pub all_with : (P : Extent → Type 0) (page : PageNo) (at end : ℕ) (extents : List Extent) → P (record { page = page; at = at; end = end }) → ((extent : Extent) → extent.page.0 ≡ page.0 → P extent → P (widened page at end extent)) → All P extents → All P (with_extent page at end extents)
all_with P page at end [] new wide all = All-cons P (noted page at end) [] new (All-nil P)
all_with P page at end (extent ∷ extents) new wide all =
    let here : P extent = All-head P extent extents all in
    let behind : All P extents = All-tail P extent extents all in
    all_step P (widened page at end extent) extent extents (with_extent page at end extents) (extent.page.0 == page.0) (λ is. wide extent (same_number extent.page.0 page.0 is) here) behind here (all_with P page at end extents new wide behind)

-- they stay extents
pub extents_with : (page : PageNo) (at end : ℕ) (extents : List Extent) → at < end → end ≤ page_bytes → length (with_extent page at end extents) ≤ most_changed → AreExtents extents → AreExtents (with_extent page at end extents)
extents_with page at end extents some inside few are = record {
  each = all_with IsExtent page at end extents (record { some = some; inside = inside }) (λ extent same is. record { some = omega (arith, some, is.some); inside = omega (arith, inside, is.inside) }) are.each;
  distinct = subst AreDistinct (sym (pages_with page at end extents)) (distinct_with page.0 (map page_number extents) (list_any (λ other. other == page.0) (map page_number extents)) refl are.distinct);
  few = few;
}

-- their pages stay below the file's number of pages
pub below_with : (pages : ℕ) (page : PageNo) (at end : ℕ) (extents : List Extent) → page.0 < pages → All (λ extent. extent.page.0 < pages) extents → All (λ extent. extent.page.0 < pages) (with_extent page at end extents)
below_with pages page at end extents below all = all_with (λ extent. extent.page.0 < pages) page at end extents below (λ extent same is. below) all

-- how many there are

-- as many as pages
pub length_with : (page : PageNo) (at end : ℕ) (extents : List Extent) → length (with_extent page at end extents) ≡ length (with_page page.0 (map page_number extents))
length_with page at end extents = sym (length-map (with_extent page at end extents) page_number) ∙ ap length (pages_with page at end extents)

length_step : (one other : Extent) (extents rest : List Extent) (b : Bool) → length extents ≤ length rest → length rest ≤ suc (length extents) → (suc (length extents) ≤ length (if b then one ∷ extents else other ∷ rest)) × (length (if b then one ∷ extents else other ∷ rest) ≤ suc (suc (length extents)))
length_step one other extents rest true low high = (omega arith, omega arith)
length_step one other extents rest false low high = (omega (arith, low), omega (arith, high))

lengths_with : (page : PageNo) (at end : ℕ) (extents : List Extent) → (length extents ≤ length (with_extent page at end extents)) × (length (with_extent page at end extents) ≤ suc (length extents))
lengths_with page at end [] = (omega arith, omega arith)
lengths_with page at end (extent ∷ extents) =
    let rest = lengths_with page at end extents in
    length_step (widened page at end extent) extent extents (with_extent page at end extents) (extent.page.0 == page.0) rest.0 rest.1

-- never fewer
pub no_fewer_with : (page : PageNo) (at end : ℕ) (extents : List Extent) → length extents ≤ length (with_extent page at end extents)
no_fewer_with page at end extents = (lengths_with page at end extents).0

-- at most one more
pub one_more_with : (page : PageNo) (at end : ℕ) (extents : List Extent) → length (with_extent page at end extents) ≤ suc (length extents)
one_more_with page at end extents = (lengths_with page at end extents).1

-- at least one
pub some_with : (page : PageNo) (at end : ℕ) (extents : List Extent) → 1 ≤ length (with_extent page at end extents)
some_with page at end [] = omega arith
some_with page at end (extent ∷ extents) = let low = no_fewer_with page at end (extent ∷ extents) in omega (arith, low)

pub not_empty_with : (page : PageNo) (at end : ℕ) (extents : List Extent) → with_extent page at end extents ≢ []
not_empty_with page at end extents is =
    let none : length (with_extent page at end extents) ≡ 0 = ap length is in
    absurd (omega (arith, none, some_with page at end extents))

-- as many as before where the page has an extent
pub as_many_with : (page : PageNo) (at end : ℕ) (extents : List Extent) → list_any (λ other. other == page.0) (map page_number extents) ≡ true → length (with_extent page at end extents) ≡ length extents
as_many_with page at end extents has =
    length_with page at end extents
    ∙ ap (λ (b : Bool). length (if b then map page_number extents else map page_number extents ++ page.0 ∷ [])) has
    ∙ length-map extents page_number

-- one more where it has none
pub one_longer_with : (page : PageNo) (at end : ℕ) (extents : List Extent) → list_any (λ other. other == page.0) (map page_number extents) ≡ false → length (with_extent page at end extents) ≡ suc (length extents)
one_longer_with page at end extents none =
    let longer : length (map page_number extents ++ page.0 ∷ []) ≡ suc (length extents) = omega (arith, length-append (map page_number extents) (page.0 ∷ []), length-map extents page_number) in
    length_with page at end extents
    ∙ ap (λ (b : Bool). length (if b then map page_number extents else map page_number extents ++ page.0 ∷ [])) none
    ∙ longer

-- the places that they cover

within_wider : (base at end wide_at wide_end : ℕ) → wide_at ≤ at → end ≤ wide_end → Within (in_range (base + at) (end - at)) (in_range (base + wide_at) (wide_end - wide_at))
within_wider base at end wide_at wide_end from to place out = grind (arith, nat_tests, from, to, out)

kept_step : (page : PageNo) (at end : ℕ) (extent : Extent) (extents : List Extent) (place : ℕ) (b : Bool) → (b ≡ true → extent.page.0 ≡ page.0) → (extent_cover (with_extent page at end extents) place ≡ false → extent_cover extents place ≡ false) → extent_cover (if b then widened page at end extent ∷ extents else extent ∷ with_extent page at end extents) place ≡ false → extent_cover (extent ∷ extents) place ≡ false
kept_step page at end extent extents place true same rest out =
    let wide : Bool = in_range (extent_place (widened page at end extent)) (max extent.end end - min extent.at at) place in
    let moved : in_range (extent_place extent) (extent.end - extent.at) place ≡ in_range (page.0 * page_bytes + extent.at) (extent.end - extent.at) place = λ i. in_range (same refl i * page_bytes + extent.at) (extent.end - extent.at) place in
    let inner : in_range (page.0 * page_bytes + extent.at) (extent.end - extent.at) place ≡ false = within_wider (page.0 * page_bytes) extent.at extent.end (min extent.at at) (max extent.end end) (omega arith) (omega arith) place (not_first wide (extent_cover extents place) out) in
    neither (in_range (extent_place extent) (extent.end - extent.at) place) (extent_cover extents place) (moved ∙ inner) (not_second wide (extent_cover extents place) out)
kept_step page at end extent extents place false same rest out =
    let here : Bool = in_range (extent_place extent) (extent.end - extent.at) place in
    let behind : Bool = extent_cover (with_extent page at end extents) place in
    neither here (extent_cover extents place) (not_first here behind out) (rest (not_second here behind out))

-- they cover what they did
pub cover_kept : (page : PageNo) (at end : ℕ) (extents : List Extent) → Within (extent_cover extents) (extent_cover (with_extent page at end extents))
cover_kept page at end [] place out = refl
cover_kept page at end (extent ∷ extents) place out =
    kept_step page at end extent extents place (extent.page.0 == page.0) (same_number extent.page.0 page.0) (cover_kept page at end extents place) out

noted_step : (page : PageNo) (at end : ℕ) (extent : Extent) (extents : List Extent) (place : ℕ) (b : Bool) → (extent_cover (with_extent page at end extents) place ≡ false → in_range (page.0 * page_bytes + at) (end - at) place ≡ false) → extent_cover (if b then widened page at end extent ∷ extents else extent ∷ with_extent page at end extents) place ≡ false → in_range (page.0 * page_bytes + at) (end - at) place ≡ false
noted_step page at end extent extents place true rest out =
    let wide : Bool = in_range (extent_place (widened page at end extent)) (max extent.end end - min extent.at at) place in
    within_wider (page.0 * page_bytes) at end (min extent.at at) (max extent.end end) (omega arith) (omega arith) place (not_first wide (extent_cover extents place) out)
noted_step page at end extent extents place false rest out =
    rest (not_second (in_range (extent_place extent) (extent.end - extent.at) place) (extent_cover (with_extent page at end extents) place) out)

-- they cover what was noted
pub cover_noted : (page : PageNo) (at end : ℕ) (extents : List Extent) → Within (in_range (page.0 * page_bytes + at) (end - at)) (extent_cover (with_extent page at end extents))
cover_noted page at end [] place out = not_first (in_range (page.0 * page_bytes + at) (end - at) place) false out
cover_noted page at end (extent ∷ extents) place out =
    noted_step page at end extent extents place (extent.page.0 == page.0) (cover_noted page at end extents place) out

beside_page : (other page at end place : ℕ) → other ≢ page → at < end → end ≤ page_bytes → page * page_bytes ≤ place → place < page * page_bytes + page_bytes → in_range (other * page_bytes + at) (end - at) place ≡ false
beside_page other page at end place differs some inside from to = grind (arith, nat_tests, differs, some, inside, from, to)

-- they cover no place of a page that has none of them
pub cover_beside : (page : ℕ) (extents : List Extent) (place : ℕ) → All IsExtent extents → list_any (λ other. other == page) (map page_number extents) ≡ false → page * page_bytes ≤ place → place < page * page_bytes + page_bytes → extent_cover extents place ≡ false
cover_beside page [] place each none from to = refl
cover_beside page (extent ∷ extents) place each none from to =
    let is : IsExtent extent = All-head IsExtent extent extents each in
    let others : Bool = list_any (λ other. other == page) (map page_number extents) in
    let differs : extent.page.0 ≢ page = apart extent.page.0 page (not_first (extent.page.0 == page) others none) in
    neither (in_range (extent_place extent) (extent.end - extent.at) place) (extent_cover extents place)
    (beside_page extent.page.0 page extent.at extent.end place differs is.some is.inside from to)
    (cover_beside page extents place (All-tail IsExtent extent extents each) (not_second (extent.page.0 == page) others none) from to)

-- what the mini-transaction changed

-- a page that has no extent is as it was
pub page_kept : (page : ℕ) (extents : List Extent) (done now : Contents) → All IsExtent extents → list_any (λ other. other == page) (map page_number extents) ≡ false → Agree (extent_cover extents) done now → page_of done page ≡ page_of now page
unfolding page_of
page_kept page extents done now each none agree =
    slice_agree done now (page * page_bytes) page_bytes (λ place from to. agree place (cover_beside page extents place each none from to))

-- where contents differ in the extents alone, they do so after a change of bytes that is noted
pub change_agrees : (page : PageNo) (at : ℕ) (bytes : List ℕ) (extents : List Extent) (done now : Contents) → Agree (extent_cover extents) done now → Agree (extent_cover (with_extent page at (at + length bytes) extents)) done (put now (page.0 * page_bytes + at) bytes)
change_agrees page at bytes extents done now agree place out =
    let size : length bytes ≡ at + length bytes - at = omega arith in
    let beside : in_range (page.0 * page_bytes + at) (length bytes) place ≡ false = (λ i. in_range (page.0 * page_bytes + at) (size i) place) ∙ cover_noted page at (at + length bytes) extents place out in
    agree place (cover_kept page at (at + length bytes) extents place out) ∙ sym (put_outside now (page.0 * page_bytes + at) bytes place beside)
