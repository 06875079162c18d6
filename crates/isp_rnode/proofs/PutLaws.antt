-- Bytes that are put into a page one behind the other, and read back.
use Rattle.std.proofs.Common.{◌≡◌, ◌⊎◌, inl, inr, ℕ, zero, suc, ◌+◌, ◌*◌, ◌<◌, ◌≤◌, ◌^◌, ◌==◌, true, false, Some, List, [], ◌∷◌, ◌++◌, length, take, refl, sym, ◌∙◌, ap, subst, arith, length-append}
use Rattle.std.specs.Prelude.{ℤ, FitsSigned, slice_get, is_none, get_or}
use Rattle.std.specs.Int.{cast_signed, cast_unsigned, w32, w64}
use Rattle.std.proofs.lemmas.Bool.{cases_lt}
use Rattle.std.proofs.lemmas.Bool.Decides.{nat_tests}
use Rattle.std.proofs.lemmas.Int.{to_z-of_z}
use Rattle.std.proofs.lemmas.List.{flat_map_more, length-take-le, take_more}
use Rattle.std.proofs.lemmas.Option.{get_or_from_slice_get, slice_get_within}
use Rattle.isp_base.specs.Lists.{Has}
use Rattle.isp_disk.specs.Moments.{image_of, put}
use Rattle.isp_format.specs.Header.{Header, header_bytes, header_of, number_in}
use Rattle.isp_format.specs.Numbers.{bytes_of}
use Rattle.isp_format.specs.Ranges.{SameIn}
use Rattle.isp_format.proofs.Headers.{put_more}
use Rattle.isp_format.proofs.Slices.{number_agree, number_put, put_above, put_below}
use Rattle.isp_mbr.specs.Corners.{Corners}
use Rattle.isp_forest.specs.Tree.{Node, child_of}
use Rattle.isp_forest.specs.declared.entry.Entry.{Entry}
use Rattle.isp_forest.specs.declared.entry.To.{To}
use Rattle.isp_forest.specs.declared.entry.To.TheVariants.{Child, Row}
use Rattle.isp_format.specs.Kinds.{content_place, rtree_kind}
use Rattle.isp_rnode.specs.Nodes.{IsNode, IsReadable, StandFrom, box_bytes, box_in, child_bytes, entries_bytes, entries_from, entry_bytes, entry_in, entry_place, entry_size, free_bytes, link_of, node_of, row_bytes, signed_in, to_bytes, to_in, with_count}

-- the new bytes are the old ones with a piece put over them
abbrev pub IsPut : List ℕ → List ℕ → ℕ → List ℕ → Type 0
IsPut old new at piece = (place : ℕ) → image_of new place ≡ put (image_of old) at piece place

-- two pieces, one behind the other
pub put_two : (old mid new : List ℕ) (at next : ℕ) (first second : List ℕ) → next ≡ at + length first → IsPut old mid at first → IsPut mid new next second → IsPut old new at (first ++ second)
put_two old mid new at next first second behind one two =
    let mid_is : image_of mid ≡ put (image_of old) at first = λ i place. one place i in
    let new_is : image_of new ≡ put (image_of mid) next second = λ i place. two place i in
    let both : image_of new ≡ put (image_of old) at (first ++ second) = new_is ∙ put_more (image_of old) (image_of mid) at first second next behind mid_is in
    λ place i. both i place

-- ---- bytes that no piece was put over

pub below_piece : (old new : List ℕ) (at : ℕ) (piece : List ℕ) (other size : ℕ) → IsPut old new at piece → other + size ≤ at → SameIn other size (image_of new) (image_of old)
below_piece old new at piece other size is low place from to = is place ∙ put_below (image_of old) at piece place (omega (arith, to, low))

pub above_piece : (old new : List ℕ) (at : ℕ) (piece : List ℕ) (other size : ℕ) → IsPut old new at piece → at + length piece ≤ other → SameIn other size (image_of new) (image_of old)
above_piece old new at piece other size is high place from to = is place ∙ put_above (image_of old) at piece place (omega (arith, from, high))

number_same : (size : ℕ) (old new : List ℕ) (at other all : ℕ) → SameIn at all (image_of new) (image_of old) → at ≤ other → other + size ≤ at + all → number_in size new other ≡ number_in size old other
number_same size old new at other all same from to = number_agree size (image_of new) (image_of old) other (λ place low high. same place (omega (arith, low, from)) (omega (arith, high, to)))

pub box_same : (old new : List ℕ) (at all : ℕ) → SameIn at all (image_of new) (image_of old) → 16 ≤ all → box_in new at ≡ box_in old at
unfolding box_in signed_in
box_same old new at all same long =
    let x1 = ap (cast_signed w32) (number_same 4 old new at at all same (omega arith) (omega arith)) in
    let y1 = ap (cast_signed w32) (number_same 4 old new at (at + 4) all same (omega arith) (omega arith)) in
    let x2 = ap (cast_signed w32) (number_same 4 old new at (at + 8) all same (omega arith) (omega arith)) in
    let y2 = ap (cast_signed w32) (number_same 4 old new at (at + 12) all same (omega arith) (omega arith)) in
    λ i. record { x1 = x1 i; y1 = y1 i; x2 = x2 i; y2 = y2 i }

to_same : (level : ℕ) (old new : List ℕ) (at : ℕ) → SameIn at entry_size (image_of new) (image_of old) → to_in level new (at + 16) ≡ to_in level old (at + 16)
unfolding to_in
to_same zero old new at same =
    let key = ap (cast_signed w64) (number_same 8 old new at (at + 16) entry_size same (omega arith) (omega arith)) in
    let number = number_same 8 old new at (at + 16 + 8) entry_size same (omega arith) (omega arith) in
    λ i. Row (key i) (number i)
to_same (suc level) old new at same =
    let page = number_same 4 old new at (at + 16) entry_size same (omega arith) (omega arith) in
    λ i. Child (record { 0 = page i })

pub entry_same : (level : ℕ) (old new : List ℕ) (at : ℕ) → SameIn at entry_size (image_of new) (image_of old) → entry_in level new at ≡ entry_in level old at
unfolding entry_in
entry_same level old new at same =
    let b = box_same old new at entry_size same (omega arith) in
    let to = to_same level old new at same in
    λ i. record { b = b i; to = to i }

-- ---- read back

number_back : (size : ℕ) (old new : List ℕ) (at n : ℕ) → IsPut old new at (bytes_of size n) → n < 256 ^ size → number_in size new at ≡ n
number_back size old new at n is fits =
    number_agree size (image_of new) (put (image_of old) at (bytes_of size n)) at (λ place low high. is place)
    ∙ number_put size (image_of old) at n fits

pub signed_back : (old new : List ℕ) (at : ℕ) (n : ℤ) (bits : ℕ) → bits ≡ cast_unsigned w32 n → IsPut old new at (bytes_of 4 bits) → bits < 256 ^ 4 → FitsSigned w32 n → signed_in new at ≡ n
unfolding signed_in
signed_back old new at n bits is put_bits small fits = ap (cast_signed w32) (number_back 4 old new at bits put_bits small ∙ is) ∙ to_z-of_z w32 n fits

signed_kept : (old now : List ℕ) (from : ℕ) (piece : List ℕ) (other : ℕ) → IsPut old now from piece → other + 4 ≤ from → signed_in now other ≡ signed_in old other
unfolding signed_in
signed_kept old now from piece other is low = ap (cast_signed w32) (number_same 4 old now other other 4 (below_piece old now from piece other 4 is low) (omega arith) (omega arith))

pub box_put : (old a c d new : List ℕ) (at : ℕ) (b : Corners) (x1 y1 x2 y2 : ℤ) → x1 ≡ b.x1 → y1 ≡ b.y1 → x2 ≡ b.x2 → y2 ≡ b.y2
    → IsPut old a at (bytes_of 4 (cast_unsigned w32 x1)) → IsPut a c (at + 4) (bytes_of 4 (cast_unsigned w32 y1)) → IsPut c d (at + 8) (bytes_of 4 (cast_unsigned w32 x2)) → IsPut d new (at + 12) (bytes_of 4 (cast_unsigned w32 y2))
    → IsPut old new at (box_bytes b)
unfolding box_bytes
box_put old a c d new at b x1 y1 x2 y2 x1_is y1_is x2_is y2_is put_x1 put_y1 put_x2 put_y2 =
    let p1 : List ℕ = bytes_of 4 (cast_unsigned w32 x1) in
    let p2 : List ℕ = p1 ++ bytes_of 4 (cast_unsigned w32 y1) in
    let p3 : List ℕ = p2 ++ bytes_of 4 (cast_unsigned w32 x2) in
    let s2 : IsPut old c at p2 = put_two old a c at (at + 4) p1 (bytes_of 4 (cast_unsigned w32 y1)) refl put_x1 put_y1 in
    let s3 : IsPut old d at p3 = put_two old c d at (at + 8) p2 (bytes_of 4 (cast_unsigned w32 x2)) refl s2 put_x2 in
    let all : IsPut old new at (p3 ++ bytes_of 4 (cast_unsigned w32 y2)) = put_two old d new at (at + 12) p3 (bytes_of 4 (cast_unsigned w32 y2)) refl s3 put_y2 in
    let whole : box_bytes (record { x1 = x1; y1 = y1; x2 = x2; y2 = y2 }) ≡ box_bytes b = λ i. box_bytes (record { x1 = x1_is i; y1 = y1_is i; x2 = x2_is i; y2 = y2_is i }) in
    subst (IsPut old new at) whole all

pub box_back : (a c d new : List ℕ) (at : ℕ) (b : Corners) (x1 y1 x2 y2 : ℤ) → x1 ≡ b.x1 → y1 ≡ b.y1 → x2 ≡ b.x2 → y2 ≡ b.y2
    → IsPut a c (at + 4) (bytes_of 4 (cast_unsigned w32 y1)) → IsPut c d (at + 8) (bytes_of 4 (cast_unsigned w32 x2)) → IsPut d new (at + 12) (bytes_of 4 (cast_unsigned w32 y2))
    → signed_in a at ≡ x1 → signed_in c (at + 4) ≡ y1 → signed_in d (at + 8) ≡ x2 → signed_in new (at + 12) ≡ y2 → box_in new at ≡ b
unfolding box_in
box_back a c d new at b x1 y1 x2 y2 x1_is y1_is x2_is y2_is put_y1 put_x2 put_y2 back_x1 back_y1 back_x2 back_y2 =
    let p2 : List ℕ = bytes_of 4 (cast_unsigned w32 y1) in
    let p3 : List ℕ = bytes_of 4 (cast_unsigned w32 x2) in
    let p4 : List ℕ = bytes_of 4 (cast_unsigned w32 y2) in
    let first : signed_in new at ≡ b.x1 = signed_kept d new (at + 12) p4 at put_y2 (omega arith) ∙ signed_kept c d (at + 8) p3 at put_x2 (omega arith) ∙ signed_kept a c (at + 4) p2 at put_y1 (omega arith) ∙ back_x1 ∙ x1_is in
    let second : signed_in new (at + 4) ≡ b.y1 = signed_kept d new (at + 12) p4 (at + 4) put_y2 (omega arith) ∙ signed_kept c d (at + 8) p3 (at + 4) put_x2 (omega arith) ∙ back_y1 ∙ y1_is in
    let third : signed_in new (at + 8) ≡ b.x2 = signed_kept d new (at + 12) p4 (at + 8) put_y2 (omega arith) ∙ back_x2 ∙ x2_is in
    let fourth : signed_in new (at + 12) ≡ b.y2 = back_y2 ∙ y2_is in
    λ i. record { x1 = first i; y1 = second i; x2 = third i; y2 = fourth i }

pub row_put : (old mid new : List ℕ) (at : ℕ) (key : ℤ) (bits number : ℕ) → bits ≡ cast_unsigned w64 key → IsPut old mid at (bytes_of 8 bits) → IsPut mid new (at + 8) (bytes_of 8 number) → IsPut old new at (row_bytes key number)
unfolding row_bytes
row_put old mid new at key bits number is one two =
    let whole : bytes_of 8 bits ++ bytes_of 8 number ≡ row_bytes key number = ap (λ (n : ℕ). bytes_of 8 n ++ bytes_of 8 number) is in
    subst (IsPut old new at) whole (put_two old mid new at (at + 8) (bytes_of 8 bits) (bytes_of 8 number) refl one two)

pub row_back : (old mid new : List ℕ) (at : ℕ) (key : ℤ) (bits number : ℕ) → bits ≡ cast_unsigned w64 key → IsPut old mid at (bytes_of 8 bits) → IsPut mid new (at + 8) (bytes_of 8 number) → bits < 256 ^ 8 → number < 256 ^ 8 → FitsSigned w64 key → to_in 0 new at ≡ Row key number
unfolding to_in
row_back old mid new at key bits number is one two small_key small fits =
    let kept : number_in 8 new at ≡ number_in 8 mid at = number_same 8 mid new at at 8 (below_piece mid new (at + 8) (bytes_of 8 number) at 8 two (omega arith)) (omega arith) (omega arith) in
    let key_is : cast_signed w64 (number_in 8 new at) ≡ key = ap (cast_signed w64) (kept ∙ number_back 8 old mid at bits one small_key ∙ is) ∙ to_z-of_z w64 key fits in
    let number_is : number_in 8 new (at + 8) ≡ number = number_back 8 mid new (at + 8) number two small in
    λ i. Row (key_is i) (number_is i)

pub child_put : (old mid new : List ℕ) (at page : ℕ) → IsPut old mid at (bytes_of 4 page) → IsPut mid new (at + 4) free_bytes → IsPut old new at (child_bytes page)
unfolding child_bytes
child_put old mid new at page one two = put_two old mid new at (at + 4) (bytes_of 4 page) free_bytes refl one two

pub child_back : (old mid new : List ℕ) (at page : ℕ) (rest : List ℕ) (level : ℕ) → IsPut old mid at (bytes_of 4 page) → IsPut mid new (at + 4) rest → page < 256 ^ 4 → to_in (suc level) new at ≡ Child (record { 0 = page })
unfolding to_in
child_back old mid new at page rest level one two small =
    let kept : number_in 4 new at ≡ number_in 4 mid at = number_same 4 mid new at at 4 (below_piece mid new (at + 4) rest at 4 two (omega arith)) (omega arith) (omega arith) in
    let page_is : number_in 4 new at ≡ page = kept ∙ number_back 4 old mid at page one small in
    λ i. Child (record { 0 = page_is i })

-- ---- an entry

pub entry_put : (old mid new : List ℕ) (at : ℕ) (e : Entry) (to : To) → e.to ≡ to → IsPut old mid at (box_bytes e.b) → IsPut mid new (at + 16) (to_bytes to) → IsPut old new at (entry_bytes e)
unfolding entry_bytes box_bytes
entry_put old mid new at e to is one two =
    put_two old mid new at (at + 16) (box_bytes e.b) (to_bytes e.to) refl one (subst (λ (t : To). IsPut mid new (at + 16) (to_bytes t)) (sym is) two)

not_zero : (level : ℕ) → (suc level == 0) ≡ false
not_zero level = grind (arith, nat_tests)

pub row_entry : (level : ℕ) (mid new : List ℕ) (at : ℕ) (piece : List ℕ) (e : Entry) (key : ℤ) (number : ℕ) → e.to ≡ Row key number → IsPut mid new (at + 16) piece → box_in mid at ≡ e.b → to_in 0 new (at + 16) ≡ Row key number → is_none (child_of e) ≡ (level == 0) → entry_in level new at ≡ e
unfolding entry_in
row_entry zero mid new at piece e key number is put_to b to kind =
    let b_is = box_same mid new at 16 (below_piece mid new (at + 16) piece at 16 put_to (omega arith)) (omega arith) ∙ b in
    let to_is = to ∙ sym is in
    λ i. record { b = b_is i; to = to_is i }
row_entry (suc level) mid new at piece e key number is put_to b to kind =
    let none : is_none (child_of e) ≡ true = ap (λ t. is_none (child_of (record { b = e.b; to = t }))) is in
    absurd (true_false (sym none ∙ kind ∙ not_zero level))
  where
    true_false : true ≡ false → ⊥
    true_false h = cc

pub child_entry : (level : ℕ) (mid new : List ℕ) (at : ℕ) (piece : List ℕ) (e : Entry) (page : ℕ) → e.to ≡ Child (record { 0 = page }) → IsPut mid new (at + 16) piece → box_in mid at ≡ e.b → ((n : ℕ) → to_in (suc n) new (at + 16) ≡ Child (record { 0 = page })) → is_none (child_of e) ≡ (level == 0) → entry_in level new at ≡ e
unfolding entry_in
child_entry zero mid new at piece e page is put_to b to kind =
    let some : is_none (child_of e) ≡ false = ap (λ t. is_none (child_of (record { b = e.b; to = t }))) is in
    absurd (false_true (sym some ∙ kind))
  where
    false_true : false ≡ true → ⊥
    false_true h = cc
child_entry (suc level) mid new at piece e page is put_to b to kind =
    let b_is = box_same mid new at 16 (below_piece mid new (at + 16) piece at 16 put_to (omega arith)) (omega arith) ∙ b in
    let to_is = to level ∙ sym is in
    λ i. record { b = b_is i; to = to_is i }

-- ---- entries

pub entry_long : (e : Entry) → length (entry_bytes e) ≡ entry_size
unfolding entry_bytes box_bytes row_bytes child_bytes
entry_long e = by_to e.b e.to
  where
    by_to : (b : Corners) (to : To) → length (box_bytes b ++ to_bytes to) ≡ entry_size
    by_to b (Row key number) = refl
    by_to b (Child page) = refl

pub entries_long : (entries : List Entry) → length (entries_bytes entries) ≡ entry_size * length entries
entries_long [] = refl
entries_long (e ∷ entries) = omega (arith, length-append (entry_bytes e) (entries_bytes entries), entry_long e, entries_long entries)

-- nothing was put yet
pub put_none : (old : List ℕ) (at : ℕ) → IsPut old old at []
put_none old at place = elim (cases_lt place at) [
  | inl low ↦ sym (put_below (image_of old) at [] place low)
  | inr high ↦ sym (put_above (image_of old) at [] place (omega arith))
]

pub has_there : (entries : List Entry) (k : ℕ) (e : Entry) → slice_get entries k ≡ Some e → Has entries e
has_there [] k e there = absurd (cc)
has_there (x ∷ entries) zero e there = inl (cc)
has_there (x ∷ entries) (suc k) e there = inr (has_there entries k e there)

pub record Placed (entries : List Entry) (e : Entry) : Type 0 where
  pub k : ℕ
  pub there : slice_get entries k ≡ Some e

pub there_has : (entries : List Entry) (e : Entry) → Has entries e → Placed entries e
there_has [] e has = absurd has
there_has (x ∷ entries) e (inl is) = record { k = 0; there = ap Some is }
there_has (x ∷ entries) e (inr has) = let p : Placed entries e = there_has entries e has in record { k = suc p.k; there = p.there }

-- entries before the i-th stand
abbrev pub StandBelow : ℕ → List ℕ → List Entry → ℕ → Type 0
StandBelow level bytes entries i = (k : ℕ) (e : Entry) → k < i → slice_get entries k ≡ Some e → entry_in level bytes (entry_place k) ≡ e

-- one more is put
pub put_next : (old mid new : List ℕ) (entries : List Entry) (i : ℕ) (e : Entry) → slice_get entries i ≡ Some e → IsPut old mid content_place (entries_bytes (take i entries)) → IsPut mid new (entry_place i) (entry_bytes e) → IsPut old new content_place (entries_bytes (take (i + 1) entries))
put_next old mid new entries i e there so_far one =
    let inside : i < length entries = slice_get_within entries i e there in
    let size : length (entries_bytes (take i entries)) ≡ entry_size * i = entries_long (take i entries) ∙ ap (λ n. entry_size * n) (length-take-le i entries (omega arith)) in
    let more : take (i + 1) entries ≡ take i entries ++ get_or entries i e ∷ [] = take_more entries i e inside in
    let read : get_or entries i e ≡ e = get_or_from_slice_get entries i e e there in
    let bytes : entries_bytes (take i entries) ++ entry_bytes e ≡ entries_bytes (take (i + 1) entries) =
    flat_map_more entry_bytes [] (take i entries) e ∙ ap (λ x. entries_bytes (take i entries ++ x ∷ [])) (sym read) ∙ sym (ap entries_bytes more) in
    subst (IsPut old new content_place) bytes (put_two old mid new content_place (entry_place i) (entries_bytes (take i entries)) (entry_bytes e) (omega (arith, size)) so_far one)

below_or_at : (k i : ℕ) → k < i + 1 → (k < i) ⊎ (k ≡ i)
below_or_at k i h = elim (cases_lt k i) [ inl a ↦ inl a | inr b ↦ inr (omega arith) ]

same_some : {x y : Entry} → Some x ≡ Some y → x ≡ y
same_some h = cc

-- what holds of each entry before the i-th and of that one holds of each before the next
pub each_next : (P : Entry → Type 0) (entries : List Entry) (i : ℕ) (e : Entry) → slice_get entries i ≡ Some e → P e → ((k : ℕ) (f : Entry) → k < i → slice_get entries k ≡ Some f → P f) → (k : ℕ) (f : Entry) → k < i + 1 → slice_get entries k ≡ Some f → P f
each_next P entries i e there holds so_far k f low there_k =
    elim (below_or_at k i low) [
      | inl below ↦ so_far k f below there_k
      | inr at ↦ subst P (same_some (sym there ∙ ap (slice_get entries) (sym at) ∙ there_k)) holds
    ]

pub stand_next : (level : ℕ) (mid new : List ℕ) (entries : List Entry) (i : ℕ) (e : Entry) (piece : List ℕ) → slice_get entries i ≡ Some e → IsPut mid new (entry_place i) piece → StandBelow level mid entries i → entry_in level new (entry_place i) ≡ e → StandBelow level new entries (i + 1)
stand_next level mid new entries i e piece there is so_far back k f low there_k =
    elim (below_or_at k i low) [
      | inl below ↦ entry_same level mid new (entry_place k) (below_piece mid new (entry_place i) piece (entry_place k) entry_size is (omega arith)) ∙ so_far k f below there_k
      | inr at ↦ (let same : e ≡ f = same_some (sym there ∙ ap (slice_get entries) (sym at) ∙ there_k) in
          ap (λ n. entry_in level new (entry_place n)) at ∙ back ∙ same)
    ]

pub entries_stand : (level : ℕ) (bytes : List ℕ) (at : ℕ) (entries : List Entry) → ((k : ℕ) (e : Entry) → slice_get entries k ≡ Some e → entry_in level bytes (at + entry_size * k) ≡ e) → entries_from level bytes at (length entries) ≡ entries
entries_stand level bytes at [] stand = refl
entries_stand level bytes at (e ∷ entries) stand =
    let here : at ≡ at + entry_size * 0 = omega arith in
    let first : entry_in level bytes at ≡ e = ap (entry_in level bytes) here ∙ stand 0 e refl in
    let rest : entries_from level bytes (at + entry_size) (length entries) ≡ entries = entries_stand level bytes (at + entry_size) entries (λ k f there. (let up : at + entry_size + entry_size * k ≡ at + entry_size * suc k = omega arith in
    ap (entry_in level bytes) up ∙ stand (suc k) f there)) in
    λ i. first i ∷ rest i

-- where a header was put, the node has its fields and the entries that stood
pub node_put : (old new : List ℕ) (h : Header) (entries : List Entry) → IsPut old new 0 (header_bytes h) → header_of new ≡ h → h.count ≡ length entries → StandFrom h.level old entries
    → node_of new ≡ record { level = h.level; ssn = h.ssn; next = link_of h.next; entries = entries }
unfolding node_of
node_put old new h entries is head count stand =
    let stands : (k : ℕ) (e : Entry) → slice_get entries k ≡ Some e → entry_in h.level new (entry_place k) ≡ e = λ k e there. entry_same h.level old new (entry_place k) (above_piece old new 0 (header_bytes h) (entry_place k) entry_size is (omega arith)) ∙ stand k e there in
    let all : entries_from h.level new content_place (length entries) ≡ entries = entries_stand h.level new content_place entries stands in
    ap (λ (x : Header). record { level = x.level; ssn = x.ssn; next = link_of x.next; entries = entries_from x.level new content_place x.count }) head
    ∙ ap (λ n. record { level = h.level; ssn = h.ssn; next = link_of h.next; entries = entries_from h.level new content_place n }) count
    ∙ ap (λ es. record { level = h.level; ssn = h.ssn; next = link_of h.next; entries = es }) all

-- a node whose entries were replaced is a node of the same owner and number
pub node_kept : (owner q : ℕ) (node : Node) (old new : List ℕ) (entries : List Entry) → header_of new ≡ with_count (length entries) (header_of old) → node_of new ≡ record (node_of old) { entries = entries } → ((header_of old).kind ≡ rtree_kind → IsReadable new) → IsNode owner q node old → IsNode owner q (record node { entries = entries }) new
node_kept owner q node old new entries head is readable was = record {
  readable = readable was.readable.kind;
  owner_is = ap (λ (h : Header). h.owner) head ∙ was.owner_is;
  own = ap (λ (h : Header). h.own) head ∙ was.own;
  used = ap (λ (h : Header). h.used) head ∙ sym (ap (λ (h : Header). entry_place h.count) head);
  means = is ∙ ap (λ (n : Node). record n { entries = entries }) was.means;
}
