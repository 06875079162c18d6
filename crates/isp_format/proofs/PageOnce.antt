-- The bytes of a page are one node at most: page 0, a leaf, an inner page, a page of an undo chain, the undo directory.
use Rattle.std.proofs.Common.{◌≡◌, ℕ, suc, ◌+◌, ◌*◌, ◌^◌, ◌<◌, ◌≤◌, ℤ, Bool, true, false, List, [], ◌∷◌, ◌++◌, drop, length, refl, sym, ◌∙◌, ap, arith}
use Rattle.std.specs.Prelude.{All, FitsSigned, slice_index}
use Rattle.std.specs.Int.{cast_signed, cast_unsigned, w64}
use Rattle.std.specs.List.{flat_map}
use Rattle.std.proofs.lemmas.Int.{to_z-of_z}
use Rattle.std.proofs.lemmas.List.{append_assoc, length-append}
use Rattle.byteorder.specs.Numbers.{length-bytes_high_first}
use Rattle.std.proofs.Math.Facts.{Fits-lt-pow, Fits-of_z}
use Rattle.isp_disk.specs.Moments.{image_of, slice}
use Rattle.isp_format.specs.Inner.{IsInnerPage, IsName, Name, name_bytes}
use Rattle.isp_format.specs.Leaf.{IsLeafPage, IsStored, Stored, key_bytes, mark_byte, slot_of, stored_bytes}
use Rattle.isp_format.specs.Numbers.{bytes_of}
use Rattle.isp_format.specs.Space.{IsSpacePage, SpacePage}
use Rattle.isp_format.specs.Undo.{IsImage, IsSlot, IsUndoDirectory, IsUndoPage, OldImage, Slot, image_bytes, slot_bytes}
use Rattle.isp_format.proofs.LogOnce.{cut, number_once}

-- ---- keys and marks

key_small : (key : ℤ) → FitsSigned w64 key → cast_unsigned w64 key < 256 ^ 8
key_small key fits = let small : cast_unsigned w64 key < 2 ^ 64 = Fits-lt-pow (Fits-of_z fits) in small

pub key_once : (one other : ℤ) (more others : List ℕ) → FitsSigned w64 one → FitsSigned w64 other → key_bytes one ++ more ≡ key_bytes other ++ others → (one ≡ other) × (more ≡ others)
key_once one other more others one_fits other_fits same =
    let both = number_once 8 (cast_unsigned w64 one) (cast_unsigned w64 other) more others (key_small one one_fits) (key_small other other_fits) same in
    (sym (to_z-of_z w64 one one_fits) ∙ ap (λ n. cast_signed w64 n) both.0 ∙ to_z-of_z w64 other other_fits, both.1)

mark_once : (one other : Bool) → mark_byte one ≡ mark_byte other → one ≡ other
mark_once true true same = refl
mark_once true false same = absurd (omega (arith, same))
mark_once false true same = absurd (omega (arith, same))
mark_once false false same = refl

-- ---- a list of pieces, each of which says where it ends

pub record SaysItsEnd {X : Type 0} (spelled : X → List ℕ) (Is : X → Type 0) : Type 0 where
  pub once : (one other : X) (more others : List ℕ) → Is one → Is other → spelled one ++ more ≡ spelled other ++ others → (one ≡ other) × (more ≡ others)
  pub some : (x : X) → 1 ≤ length (spelled x)

pub pieces_once : {X : Type 0} (spelled : X → List ℕ) (Is : X → Type 0) → SaysItsEnd spelled Is → (one other : List X) → All Is one → All Is other → flat_map spelled one ≡ flat_map spelled other → one ≡ other
pieces_once spelled Is says [] [] ones all same = refl
pieces_once spelled Is says [] (y ∷ ys) ones all same =
    let some = says.some y in
    let long : length (spelled y ++ flat_map spelled ys) ≡ length (spelled y) + length (flat_map spelled ys) = length-append (spelled y) (flat_map spelled ys) in
    let none : 0 ≡ length (spelled y ++ flat_map spelled ys) = ap length same in
    absurd (omega (arith, some, long, none))
pieces_once spelled Is says (x ∷ xs) [] ones all same =
    let some = says.some x in
    let long : length (spelled x ++ flat_map spelled xs) ≡ length (spelled x) + length (flat_map spelled xs) = length-append (spelled x) (flat_map spelled xs) in
    let none : length (spelled x ++ flat_map spelled xs) ≡ 0 = ap length same in
    absurd (omega (arith, some, long, none))
pieces_once spelled Is says (x ∷ xs) (y ∷ ys) ones all same =
    let first = says.once x y (flat_map spelled xs) (flat_map spelled ys) (ones 0 x (omega arith)) (all 0 y (omega arith)) same in
    let rest = pieces_once spelled Is says xs ys (λ k d h. ones (suc k) d (omega (arith, h))) (λ k d h. all (suc k) d (omega (arith, h))) first.1 in
    (λ i. first.0 i ∷ rest i)

-- ---- rows of a leaf

stored_spread : (s : Stored) (more : List ℕ) → stored_bytes s ++ more ≡ key_bytes s.key ++ (mark_byte s.marked ∷ (bytes_of 2 (slot_of s) ++ (bytes_of 2 (length s.row) ++ (s.row ++ (s.rest ++ more)))))
stored_spread s more =
    append_assoc (key_bytes s.key) (mark_byte s.marked ∷ (bytes_of 2 (slot_of s) ++ (bytes_of 2 (length s.row) ++ (s.row ++ s.rest)))) more
    ∙ ap (λ (rest : List ℕ). key_bytes s.key ++ (mark_byte s.marked ∷ rest)) (append_assoc (bytes_of 2 (slot_of s)) (bytes_of 2 (length s.row) ++ (s.row ++ s.rest)) more)
    ∙ ap (λ (rest : List ℕ). key_bytes s.key ++ (mark_byte s.marked ∷ (bytes_of 2 (slot_of s) ++ rest))) (append_assoc (bytes_of 2 (length s.row)) (s.row ++ s.rest) more)
    ∙ ap (λ (rest : List ℕ). key_bytes s.key ++ (mark_byte s.marked ∷ (bytes_of 2 (slot_of s) ++ (bytes_of 2 (length s.row) ++ rest)))) (append_assoc s.row s.rest more)

pub head_once : (x y : ℕ) (xs ys : List ℕ) → x ∷ xs ≡ y ∷ ys → (x ≡ y) × (xs ≡ ys)
head_once x y xs ys same = (ap (λ (l : List ℕ). slice_index l 0) same, ap (drop 1) same)

pub stored_once : (one other : Stored) (more others : List ℕ) → IsStored one → IsStored other → stored_bytes one ++ more ≡ stored_bytes other ++ others → (one ≡ other) × (more ≡ others)
stored_once one other more others one_is other_is same =
    let one_slot = one_is.slot in
    let other_slot = other_is.slot in
    let spread = sym (stored_spread one more) ∙ same ∙ stored_spread other others in
    let key = key_once one.key other.key _ _ one_is.key other_is.key spread in
    let mark = head_once _ _ _ _ key.1 in
    let slot = number_once 2 (slot_of one) (slot_of other) _ _ (omega (arith, one_slot)) (omega (arith, other_slot)) mark.1 in
    let size = number_once 2 (length one.row) (length other.row) _ _ (omega (arith, one_slot)) (omega (arith, other_slot)) slot.1 in
    let row = cut one.row other.row _ _ size.0 size.1 in
    let slots = slot.0 in
    let sizes = size.0 in
    let rests : length one.rest ≡ length other.rest = omega (arith, slots, sizes) in
    let rest = cut one.rest other.rest more others rests row.1 in
    let marked = mark_once one.marked other.marked mark.0 in
    ((λ i. record { key = key.0 i; marked = marked i; row = row.0 i; rest = rest.0 i }), rest.1)

-- ---- a list of pieces in a page

pieces_in : {X : Type 0} (spelled : X → List ℕ) (Is : X → Type 0) (bytes : List ℕ) → SaysItsEnd spelled Is → (one other : List X) → All Is one → All Is other → length (flat_map spelled one) ≡ length (flat_map spelled other)
    → slice (image_of bytes) 64 (length (flat_map spelled one)) ≡ flat_map spelled one → slice (image_of bytes) 64 (length (flat_map spelled other)) ≡ flat_map spelled other → one ≡ other
pieces_in spelled Is bytes says one other ones others long one_is other_is =
    pieces_once spelled Is says one other ones others (sym one_is ∙ ap (λ (n : ℕ). slice (image_of bytes) 64 n) long ∙ other_is)

stored_says : SaysItsEnd stored_bytes IsStored
stored_says = record { once = stored_once; some = λ s. long s }
  where
    long : (s : Stored) → 1 ≤ length (stored_bytes s)
    long s =
        let eight : length (key_bytes s.key) ≡ 8 = length-bytes_high_first 8 (cast_unsigned w64 s.key) in
        let sum = length-append (key_bytes s.key) (mark_byte s.marked ∷ (bytes_of 2 (slot_of s) ++ (bytes_of 2 (length s.row) ++ (s.row ++ s.rest)))) in
        omega (arith, eight, sum)

-- a page is one leaf at most
pub record SameLeaf (table next : ℕ) (rows : List Stored) (other_table other_next : ℕ) (others : List Stored) : Type 0 where
  pub table_is : 32 * table ≡ 32 * other_table
  pub next_is : next ≡ other_next
  pub rows_are : rows ≡ others

pub leaf_once : (bytes : List ℕ) (table own next other_table other_own other_next : ℕ) (rows others : List Stored) → IsLeafPage bytes table own next rows → IsLeafPage bytes other_table other_own other_next others → SameLeaf table next rows other_table other_next others
leaf_once bytes table own next other_table other_own other_next rows others one other =
    let one_used = one.used in
    let other_used = other.used in
    let long : length (flat_map stored_bytes rows) ≡ length (flat_map stored_bytes others) = omega (arith, one_used, other_used) in
    record {
      table_is = sym one.head.owner_is ∙ other.head.owner_is;
      next_is = sym one.next_is ∙ other.next_is;
      rows_are = pieces_in stored_bytes IsStored bytes stored_says rows others one.each other.each long one.spelled other.spelled;
    }

-- ---- page 0

space_made : (one other : SpacePage) → one.free_head ≡ other.free_head → one.free_count ≡ other.free_count → one.fresh ≡ other.fresh → one.tables ≡ other.tables → one.entries ≡ other.entries → one.bytes ≡ other.bytes → one ≡ other
space_made one other head count fresh tables entries bytes = λ i. record { free_head = head i; free_count = count i; fresh = fresh i; tables = tables i; entries = entries i; bytes = bytes i }

bytes_once : (x y : ℕ) → x < 256 ^ 8 → y < 256 ^ 8 → bytes_of 8 x ≡ bytes_of 8 y → x ≡ y
bytes_once x y x_small y_small same = (number_once 8 x y [] [] x_small y_small (ap (λ (l : List ℕ). l ++ []) same)).0

pub space_once : (bytes : List ℕ) (one other : SpacePage) → IsSpacePage bytes one → IsSpacePage bytes other → one ≡ other
space_once bytes one other one_is other_is =
    let same = sym one_is.spelled ∙ other_is.spelled in
    let f = one_is.fits in
    let g = other_is.fits in
    let head = number_once 4 one.free_head other.free_head _ _ f.free_head g.free_head same in
    let count = number_once 4 one.free_count other.free_count _ _ f.free_count g.free_count head.1 in
    let fresh = number_once 4 one.fresh other.fresh _ _ f.fresh g.fresh count.1 in
    let tables = number_once 4 one.tables other.tables _ _ f.tables g.tables fresh.1 in
    let entries = number_once 8 one.entries other.entries _ _ f.entries g.entries tables.1 in
    space_made one other head.0 count.0 fresh.0 tables.0 entries.0 (bytes_once one.bytes other.bytes f.bytes g.bytes entries.1)

-- ---- an inner page

pub name_once : (one other : Name) (more others : List ℕ) → IsName one → IsName other → name_bytes one ++ more ≡ name_bytes other ++ others → (one ≡ other) × (more ≡ others)
name_once one other more others one_is other_is same =
    let spread = sym (append_assoc (key_bytes one.0) (bytes_of 4 one.1) more) ∙ same ∙ append_assoc (key_bytes other.0) (bytes_of 4 other.1) others in
    let key = key_once one.0 other.0 _ _ one_is.0 other_is.0 spread in
    let page = number_once 4 one.1 other.1 more others one_is.1 other_is.1 key.1 in
    ((λ i. (key.0 i, page.0 i)), page.1)

name_length : (name : Name) → length (name_bytes name) ≡ 12
name_length name =
    let eight : length (key_bytes name.0) ≡ 8 = length-bytes_high_first 8 (cast_unsigned w64 name.0) in
    let four : length (bytes_of 4 name.1) ≡ 4 = length-bytes_high_first 4 name.1 in
    let sum = length-append (key_bytes name.0) (bytes_of 4 name.1) in
    omega (arith, eight, four, sum)

names_length : (names : List Name) → length (flat_map name_bytes names) ≡ 12 * length names
names_length [] = refl
names_length (name ∷ names) =
    let one = name_length name in
    let rest = names_length names in
    let sum : length (name_bytes name ++ flat_map name_bytes names) ≡ length (name_bytes name) + length (flat_map name_bytes names) = length-append (name_bytes name) (flat_map name_bytes names) in
    omega (arith, one, rest, sum)

name_says : SaysItsEnd name_bytes IsName
name_says = record { once = name_once; some = λ name. some name }
  where
    some : (name : Name) → 1 ≤ length (name_bytes name)
    some name = let long = name_length name in omega (arith, long)

pub inner_once : (bytes : List ℕ) (table own level other_table other_own other_level : ℕ) (names others : List Name) → IsInnerPage bytes table own level names → IsInnerPage bytes other_table other_own other_level others → names ≡ others
inner_once bytes table own level other_table other_own other_level names others one other =
    let count : length names ≡ length others = sym one.count ∙ other.count in
    pieces_once name_bytes IsName name_says names others one.each other.each (sym one.spelled ∙ ap (λ (n : ℕ). slice (image_of bytes) 64 (12 * n)) count ∙ other.spelled)

-- ---- undo

image_spread : (i : OldImage) (more : List ℕ) → image_bytes i ++ more ≡ bytes_of 4 i.table ++ (key_bytes i.key ++ (i.kind ∷ (bytes_of 2 (length i.row) ++ (i.row ++ (bytes_of 2 (17 + length i.row) ++ more)))))
image_spread i more =
    append_assoc (bytes_of 4 i.table) (key_bytes i.key ++ (i.kind ∷ (bytes_of 2 (length i.row) ++ (i.row ++ bytes_of 2 (17 + length i.row))))) more
    ∙ ap (λ (rest : List ℕ). bytes_of 4 i.table ++ rest) (append_assoc (key_bytes i.key) (i.kind ∷ (bytes_of 2 (length i.row) ++ (i.row ++ bytes_of 2 (17 + length i.row)))) more)
    ∙ ap (λ (rest : List ℕ). bytes_of 4 i.table ++ (key_bytes i.key ++ (i.kind ∷ rest))) (append_assoc (bytes_of 2 (length i.row)) (i.row ++ bytes_of 2 (17 + length i.row)) more)
    ∙ ap (λ (rest : List ℕ). bytes_of 4 i.table ++ (key_bytes i.key ++ (i.kind ∷ (bytes_of 2 (length i.row) ++ rest)))) (append_assoc i.row (bytes_of 2 (17 + length i.row)) more)

pub image_once : (one other : OldImage) (more others : List ℕ) → IsImage one → IsImage other → image_bytes one ++ more ≡ image_bytes other ++ others → (one ≡ other) × (more ≡ others)
image_once one other more others one_is other_is same =
    let one_row = one_is.row in
    let other_row = other_is.row in
    let spread = sym (image_spread one more) ∙ same ∙ image_spread other others in
    let table = number_once 4 one.table other.table _ _ one_is.table other_is.table spread in
    let key = key_once one.key other.key _ _ one_is.key other_is.key table.1 in
    let kind = head_once _ _ _ _ key.1 in
    let size = number_once 2 (length one.row) (length other.row) _ _ (omega (arith, one_row)) (omega (arith, other_row)) kind.1 in
    let row = cut one.row other.row _ _ size.0 size.1 in
    let end = number_once 2 (17 + length one.row) (17 + length other.row) more others (omega (arith, one_row)) (omega (arith, other_row)) row.1 in
    ((λ i. record { table = table.0 i; key = key.0 i; kind = kind.0 i; row = row.0 i }), end.1)

image_says : SaysItsEnd image_bytes IsImage
image_says = record { once = image_once; some = λ i. some i }
  where
    some : (i : OldImage) → 1 ≤ length (image_bytes i)
    some i =
        let four : length (bytes_of 4 i.table) ≡ 4 = length-bytes_high_first 4 i.table in
        let sum = length-append (bytes_of 4 i.table) (key_bytes i.key ++ (i.kind ∷ (bytes_of 2 (length i.row) ++ (i.row ++ bytes_of 2 (17 + length i.row))))) in
        omega (arith, four, sum)

-- a page is one page of an undo chain at most
pub record SameUndo (before next : ℕ) (images : List OldImage) (other_before other_next : ℕ) (others : List OldImage) : Type 0 where
  pub before_is : before ≡ other_before
  pub next_is : next ≡ other_next
  pub images_are : images ≡ others

pub undo_once : (bytes : List ℕ) (own before next other_own other_before other_next : ℕ) (images others : List OldImage) → IsUndoPage bytes own before next images → IsUndoPage bytes other_own other_before other_next others → SameUndo before next images other_before other_next others
undo_once bytes own before next other_own other_before other_next images others one other =
    let one_used = one.used in
    let other_used = other.used in
    let long : length (flat_map image_bytes images) ≡ length (flat_map image_bytes others) = omega (arith, one_used, other_used) in
    record {
      before_is = sym one.before_is ∙ other.before_is;
      next_is = sym one.next_is ∙ other.next_is;
      images_are = pieces_in image_bytes IsImage bytes image_says images others one.each other.each long one.spelled other.spelled;
    }

pub slot_once : (one other : Slot) (more others : List ℕ) → IsSlot one → IsSlot other → slot_bytes one ++ more ≡ slot_bytes other ++ others → (one ≡ other) × (more ≡ others)
slot_once one other more others one_is other_is same =
    let spread = sym (append_assoc (bytes_of 4 one.0) (bytes_of 4 one.1) more) ∙ same ∙ append_assoc (bytes_of 4 other.0) (bytes_of 4 other.1) others in
    let first = number_once 4 one.0 other.0 _ _ one_is.0 other_is.0 spread in
    let last = number_once 4 one.1 other.1 more others one_is.1 other_is.1 first.1 in
    ((λ i. (first.0 i, last.0 i)), last.1)

slot_length : (slot : Slot) → length (slot_bytes slot) ≡ 8
slot_length slot =
    let four : length (bytes_of 4 slot.0) ≡ 4 = length-bytes_high_first 4 slot.0 in
    let other : length (bytes_of 4 slot.1) ≡ 4 = length-bytes_high_first 4 slot.1 in
    let sum = length-append (bytes_of 4 slot.0) (bytes_of 4 slot.1) in
    omega (arith, four, other, sum)

slots_length : (slots : List Slot) → length (flat_map slot_bytes slots) ≡ 8 * length slots
slots_length [] = refl
slots_length (slot ∷ slots) =
    let one = slot_length slot in
    let rest = slots_length slots in
    let sum : length (slot_bytes slot ++ flat_map slot_bytes slots) ≡ length (slot_bytes slot) + length (flat_map slot_bytes slots) = length-append (slot_bytes slot) (flat_map slot_bytes slots) in
    omega (arith, one, rest, sum)

slot_says : SaysItsEnd slot_bytes IsSlot
slot_says = record { once = slot_once; some = λ slot. some slot }
  where
    some : (slot : Slot) → 1 ≤ length (slot_bytes slot)
    some slot = let long = slot_length slot in omega (arith, long)

pub directory_once : (bytes : List ℕ) (slots others : List Slot) → IsUndoDirectory bytes slots → IsUndoDirectory bytes others → slots ≡ others
directory_once bytes slots others one other =
    let count : length slots ≡ length others = one.count ∙ sym other.count in
    let long : length (flat_map slot_bytes slots) ≡ length (flat_map slot_bytes others) = slots_length slots ∙ ap (λ (n : ℕ). 8 * n) count ∙ sym (slots_length others) in
    pieces_in slot_bytes IsSlot bytes slot_says slots others one.each other.each long one.spelled other.spelled
