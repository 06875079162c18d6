-- What stands in a node's bytes, entry by entry.
use Rattle.std.proofs.Common.{◌≡◌, inl, inr, ℕ, zero, suc, ◌+◌, ◌*◌, ◌<◌, ◌≤◌, false, Some, List, [], ◌∷◌, ◌++◌, length, take, get_or, refl, sym, ◌∙◌, ap, subst, arith}
use Rattle.std.specs.Prelude.{is_none, slice_get}
use Rattle.std.proofs.lemmas.List.{take_more}
use Rattle.std.proofs.lemmas.Option.{get_or_from_slice_get, slice_get_within}
use Rattle.isp_base.specs.Lists.{Has}
use Rattle.isp_format.specs.Header.{header_of}
use Rattle.isp_mbr.specs.Boxes.{IsBox}
use Rattle.isp_mbr.specs.Corners.{Corners}
use Rattle.isp_forest.specs.declared.entry.To.{To}
use Rattle.isp_forest.specs.declared.entry.Entry.{Entry}
use Rattle.isp_forest.specs.Tree.{child_of}
use Rattle.isp_format.specs.Kinds.{content_place, rtree_kind}
use Rattle.isp_rnode.specs.Nodes.{IsReadable, box_in, entries_from, entry_in, entry_place, entry_size, most_entries, node_of, to_in}

from_count : (level : ℕ) (bytes : List ℕ) (at n : ℕ) → length (entries_from level bytes at n) ≡ n
from_count level bytes at zero = refl
from_count level bytes at (suc n) = ap suc (from_count level bytes (at + entry_size) n)

from_there : (level : ℕ) (bytes : List ℕ) (at n i : ℕ) → i < n → slice_get (entries_from level bytes at n) i ≡ Some (entry_in level bytes (at + entry_size * i))
from_there level bytes at zero i inside = absurd (omega arith)
from_there level bytes at (suc n) zero inside = let e : at ≡ at + entry_size * 0 = omega arith in ap (λ k. Some (entry_in level bytes k)) e
from_there level bytes at (suc n) (suc i) inside =
    let e : at + entry_size + entry_size * i ≡ at + entry_size * suc i = omega arith in
    from_there level bytes (at + entry_size) n i (omega arith) ∙ ap (λ k. Some (entry_in level bytes k)) e

record Standing (level : ℕ) (bytes : List ℕ) (at n : ℕ) (e : Entry) : Type 0 where
  i : ℕ
  inside : i < n
  is : entry_in level bytes (at + entry_size * i) ≡ e

from_has : (level : ℕ) (bytes : List ℕ) (at n : ℕ) (e : Entry) → Has (entries_from level bytes at n) e → Standing level bytes at n e
from_has level bytes at zero e has = absurd has
from_has level bytes at (suc n) e (inl is) = let k : at + entry_size * 0 ≡ at = omega arith in record { i = 0; inside = omega arith; is = ap (entry_in level bytes) k ∙ is }
from_has level bytes at (suc n) e (inr has) =
    let s : Standing level bytes (at + entry_size) n e = from_has level bytes (at + entry_size) n e has in
    let k : at + entry_size * suc s.i ≡ at + entry_size + entry_size * s.i = omega arith in
    record { i = suc s.i; inside = omega (arith, s.inside); is = ap (entry_in level bytes) k ∙ s.is }

from_has_at : (level : ℕ) (bytes : List ℕ) (at n i : ℕ) → i < n → Has (entries_from level bytes at n) (entry_in level bytes (at + entry_size * i))
from_has_at level bytes at zero i inside = absurd (omega arith)
from_has_at level bytes at (suc n) zero inside = let e : at ≡ at + entry_size * 0 = omega arith in inl (ap (entry_in level bytes) e)
from_has_at level bytes at (suc n) (suc i) inside =
    let e : at + entry_size + entry_size * i ≡ at + entry_size * suc i = omega arith in
    inr (subst (λ (k : ℕ). Has (entries_from level bytes (at + entry_size) n) (entry_in level bytes k)) e (from_has_at level bytes (at + entry_size) n i (omega arith)))

-- ---- of a node

pub count_is : (bytes : List ℕ) → length (node_of bytes).entries ≡ (header_of bytes).count
unfolding node_of
count_is bytes = from_count (header_of bytes).level bytes content_place (header_of bytes).count

pub entry_there : (bytes : List ℕ) (i : ℕ) → i < length (node_of bytes).entries → slice_get (node_of bytes).entries i ≡ Some (entry_in (header_of bytes).level bytes (entry_place i))
unfolding node_of
entry_there bytes i inside = from_there (header_of bytes).level bytes content_place (header_of bytes).count i (omega (arith, from_count (header_of bytes).level bytes content_place (header_of bytes).count, inside))

box_of_entry : (level : ℕ) (bytes : List ℕ) (at : ℕ) → IsBox (entry_in level bytes at).b → IsBox (box_in bytes at)
unfolding entry_in
box_of_entry level bytes at is = is

pub box_there : (bytes : List ℕ) (i : ℕ) → IsReadable bytes → i < (header_of bytes).count → IsBox (box_in bytes (entry_place i))
unfolding node_of
box_there bytes i readable inside =
    box_of_entry (header_of bytes).level bytes (entry_place i) (readable.boxes (entry_in (header_of bytes).level bytes (entry_place i)) (from_has_at (header_of bytes).level bytes content_place (header_of bytes).count i inside))

entry_of_box : (level : ℕ) (bytes : List ℕ) (at : ℕ) → IsBox (box_in bytes at) → IsBox (entry_in level bytes at).b
unfolding entry_in
entry_of_box level bytes at is = is

pub is_readable : (bytes : List ℕ) → (header_of bytes).kind ≡ rtree_kind → (header_of bytes).count ≤ most_entries → ((i : ℕ) → i < (header_of bytes).count → IsBox (box_in bytes (entry_place i))) → IsReadable bytes
unfolding node_of
is_readable bytes kind count boxes = record {
  kind = kind;
  count = count;
  boxes = λ e has. (let s : Standing (header_of bytes).level bytes content_place (header_of bytes).count e = from_has (header_of bytes).level bytes content_place (header_of bytes).count e has in
      subst (λ (x : Entry). IsBox x.b) s.is (entry_of_box (header_of bytes).level bytes (entry_place s.i) (boxes s.i s.inside)));
}

-- an entry of an inner page names a page
inner_to : (level : ℕ) (bytes : List ℕ) (at : ℕ) → 0 < level → is_none (child_of (entry_in level bytes at)) ≡ false
unfolding entry_in to_in
inner_to zero bytes at inner = absurd (omega arith)
inner_to (suc level) bytes at inner = refl

pub inner_child : (bytes : List ℕ) (i : ℕ) (e : Entry) → 0 < (header_of bytes).level → i < length (node_of bytes).entries → slice_get (node_of bytes).entries i ≡ Some e → is_none (child_of e) ≡ false
inner_child bytes i e inner inside there =
    let same : entry_in (header_of bytes).level bytes (entry_place i) ≡ e = same_some (sym (entry_there bytes i inside) ∙ there) in
    ap (λ x. is_none (child_of x)) (sym same) ∙ inner_to (header_of bytes).level bytes (entry_place i) inner
  where
    same_some : {x y : Entry} → Some x ≡ Some y → x ≡ y
    same_some h = cc

-- an entry of these parts is the one that stands there
pub entry_of_parts : (level : ℕ) (bytes : List ℕ) (at : ℕ) (b : Corners) (to : To) → b ≡ box_in bytes at → to ≡ to_in level bytes (at + 16) → entry_in level bytes at ≡ record { b = b; to = to }
unfolding entry_in
entry_of_parts level bytes at b to b_is to_is = λ i. record { b = sym b_is i; to = sym to_is i }

-- one more entry is read
pub read_next : (all items new : List Entry) (i : ℕ) (e : Entry) → slice_get all i ≡ Some e → items ≡ take i all → new ≡ items ++ e ∷ [] → new ≡ take (i + 1) all
read_next all items new i e there so_far pushed =
    let more : take (i + 1) all ≡ take i all ++ get_or all i e ∷ [] = take_more all i e (slice_get_within all i e there) in
    let read : get_or all i e ≡ e = get_or_from_slice_get all i e e there in
    pushed ∙ ap (λ es. es ++ e ∷ []) so_far ∙ ap (λ x. take i all ++ x ∷ []) (sym read) ∙ sym more
