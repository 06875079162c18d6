-- One leaf among the others: which one a key goes to, and what a change at the key makes of all rows.
use Rattle.std.proofs.Common.{◌≡◌, ℤ, Bool, true, false, List, [], ◌∷◌, ◌++◌, map, Option, Some, None, refl, sym, ◌∙◌, ap, subst, arith, if◌then◌else◌}
use Rattle.std.specs.Prelude.{int_le, int_lt}
use Rattle.std.specs.Ordering.{int_eq}
use Rattle.std.proofs.lemmas.Int.{ints}
use Rattle.std.proofs.lemmas.List.{append_assoc}
use Rattle.isp_format.specs.Leaf.{Stored}
use Rattle.isp_cells.specs.Rows.{IsBelowAll, behind, below, exchanged, find, from, one_or_none, without_first_at}
use Rattle.isp_cells.proofs.RowLaws.{below_joined, find_none, find_passes, parted}
use Rattle.isp_levels.specs.Dividing.{on_leaf}
use Rattle.isp_levels.specs.Edits.{ChangesAt, IsAt, IsOfKey, KeyBelow}
use Rattle.isp_levels.specs.Levels.{LieBelow, LieFrom, LiesBefore, Ranged, TreeLeaf, all_rows, find_in, or_else, pick_leaf}
use Rattle.isp_levels.proofs.LevelLaws.{found_on}
use Rattle.isp_levels.proofs.RangeLaws.{lie_below_on, lie_both}

-- ---- the leaf of a key

near_from : (low key : ℤ) → int_le low key ≡ true → int_lt key low ≡ false
near_from low key is = grind (arith, ints)

far_below : (low key : ℤ) → int_le low key ≡ false → int_lt key low ≡ true
far_below low key is = grind (arith, ints)

pub none_below : (key : ℤ) (leaves : List TreeLeaf) → pick_leaf key leaves ≡ None → KeyBelow key leaves
none_below key [] is = tt
none_below key (leaf ∷ leaves) is = by (pick_leaf key leaves) (int_le leaf.low key) refl refl is (none_below key leaves)
  where
    by : (o : Option TreeLeaf) (b : Bool) → pick_leaf key leaves ≡ o → int_le leaf.low key ≡ b → or_else o (if b then Some leaf else None) ≡ None → (pick_leaf key leaves ≡ None → KeyBelow key leaves) → KeyBelow key (leaf ∷ leaves)
    by (Some n) b below near same deeper = absurd (let no : Some n ≡ None = same in cc)
    by None true below near same deeper = absurd (let no : Some leaf ≡ None = same in cc)
    by None false below near same deeper = (far_below leaf.low key near, deeper below)

pub picked_at : (key : ℤ) (leaves : List TreeLeaf) (m : TreeLeaf) → pick_leaf key leaves ≡ Some m → IsAt key leaves m
picked_at key [] m is = absurd (let no : None ≡ Some m = is in cc)
picked_at key (leaf ∷ leaves) m is = by (pick_leaf key leaves) (int_le leaf.low key) refl refl is (picked_at key leaves m)
  where
    by : (o : Option TreeLeaf) (b : Bool) → pick_leaf key leaves ≡ o → int_le leaf.low key ≡ b → or_else o (if b then Some leaf else None) ≡ Some m → (pick_leaf key leaves ≡ Some m → IsAt key leaves m) → IsAt key (leaf ∷ leaves) m
    by (Some n) b below near same deeper =
        let at = deeper (below ∙ same) in
        record { before = leaf ∷ at.before; after = at.after; is = λ i. leaf ∷ at.is i; near = at.near; under = at.under }
    by None true below near same deeper =
        let leaf_is : leaf ≡ m = cc in
        subst (λ (l : TreeLeaf). IsAt key (leaf ∷ leaves) l) leaf_is (record { before = []; after = leaves; is = refl; near = near_from leaf.low key near; under = none_below key leaves below })
    by None false below near same deeper = absurd (let no : None ≡ Some m = same in cc)

-- ---- the rows of the others

abbrev pub AllBelow : ℤ → List TreeLeaf → Type 0
AllBelow key [] = Unit {0}
AllBelow key (leaf ∷ leaves) = LieBelow key leaf.rows × AllBelow key leaves

abbrev pub AllAbove : ℤ → List TreeLeaf → Type 0
AllAbove key [] = Unit {0}
AllAbove key (leaf ∷ leaves) = IsBelowAll key leaf.rows × AllAbove key leaves

lies_at : (b leaf : TreeLeaf) (before after : List TreeLeaf) → LiesBefore b (before ++ (leaf ∷ after)) → LieBelow leaf.low b.rows
lies_at b leaf [] after lies = lies.1
lies_at b leaf (x ∷ before) after lies = lies_at b leaf before after lies.2

pub before_below : (key : ℤ) (before after : List TreeLeaf) (leaf : TreeLeaf) → Ranged (before ++ (leaf ∷ after)) → int_lt key leaf.low ≡ false → AllBelow key before
before_below key [] after leaf ranged near = tt
before_below key (b ∷ before) after leaf ranged near = (lie_below_on leaf.low key b.rows (lies_at b leaf before after ranged.2) near, before_below key before after leaf ranged.3 near)

key_below : (key low x : ℤ) → int_lt key low ≡ true → int_lt x low ≡ false → int_lt key x ≡ true
key_below key low x less from = grind (arith, ints)

above_low : (key low : ℤ) (rows : List Stored) → int_lt key low ≡ true → LieFrom low rows → IsBelowAll key rows
above_low key low [] less from = tt
above_low key low (s ∷ rows) less from = (key_below key low s.key less from.0, above_low key low rows less from.1)

pub after_above : (key : ℤ) (leaves : List TreeLeaf) → Ranged leaves → KeyBelow key leaves → AllAbove key leaves
after_above key [] ranged under = tt
after_above key (leaf ∷ leaves) ranged under = (above_low key leaf.low leaf.rows under.0 ranged.0, after_above key leaves ranged.3 under.1)

pub ranged_after : (before after : List TreeLeaf) (leaf : TreeLeaf) → Ranged (before ++ (leaf ∷ after)) → Ranged (leaf ∷ after)
ranged_after [] after leaf ranged = ranged
ranged_after (b ∷ before) after leaf ranged = ranged_after before after leaf ranged.3

all_below : (key : ℤ) (leaves : List TreeLeaf) → AllBelow key leaves → LieBelow key (all_rows leaves)
all_below key [] all = tt
all_below key (leaf ∷ leaves) all = lie_both key leaf.rows (all_rows leaves) all.0 (all_below key leaves all.1)

all_above : (key : ℤ) (leaves : List TreeLeaf) → AllAbove key leaves → IsBelowAll key (all_rows leaves)
all_above key [] all = tt
all_above key (leaf ∷ leaves) all = below_joined key leaf.rows (all_rows leaves) all.0 (all_above key leaves all.1)

pub rows_append : (xs ys : List TreeLeaf) → all_rows (xs ++ ys) ≡ all_rows xs ++ all_rows ys
rows_append [] ys = refl
rows_append (x ∷ xs) ys = ap (λ (rows : List Stored). x.rows ++ rows) (rows_append xs ys) ∙ sym (append_assoc x.rows (all_rows xs) (all_rows ys))

-- ---- a row exchanged among others

abbrev onto : Stored → List Stored → Bool → List Stored
onto s rest b = if b then s ∷ rest else []

exchanged_past : (key : ℤ) (row : Option Stored) (xs ys : List Stored) → LieBelow key xs → exchanged key row (xs ++ ys) ≡ xs ++ exchanged key row ys
exchanged_past key row [] ys lie = refl
exchanged_past key row (x ∷ xs) ys lie =
    (λ i. (if lie.0 i then x ∷ below key (xs ++ ys) else []) ++ (one_or_none row ++ without_first_at key (if lie.0 i then from key (xs ++ ys) else x ∷ (xs ++ ys))))
    ∙ ap (λ (rows : List Stored). x ∷ rows) (exchanged_past key row xs ys lie.1)

above_key : (key x : ℤ) → int_lt key x ≡ true → int_lt x key ≡ false
above_key key x less = grind (arith, ints)

not_key : (key x : ℤ) → int_lt key x ≡ true → int_eq x key ≡ false
not_key key x less = grind (arith, ints)

below_above : (key : ℤ) (rows : List Stored) → IsBelowAll key rows → below key rows ≡ []
below_above key [] all = refl
below_above key (s ∷ rows) all = λ i. if above_key key s.key all.0 i then s ∷ below key rows else []

behind_above : (key : ℤ) (rows : List Stored) → IsBelowAll key rows → behind key rows ≡ rows
behind_above key [] all = refl
behind_above key (s ∷ rows) all =
    ap (λ (b : Bool). without_first_at key (if b then from key rows else s ∷ rows)) (above_key key s.key all.0)
    ∙ ap (λ (b : Bool). if b then rows else s ∷ rows) (not_key key s.key all.0)

exchanged_before : (key : ℤ) (row : Option Stored) (ys zs : List Stored) → IsBelowAll key zs → exchanged key row (ys ++ zs) ≡ exchanged key row ys ++ zs
exchanged_before key row [] zs all =
    (λ i. below_above key zs all i ++ (one_or_none row ++ behind_above key zs all i))
    ∙ ap (λ (rows : List Stored). rows ++ zs) (sym (whole (one_or_none row)))
  where
    whole : (xs : List Stored) → xs ++ [] ≡ xs
    whole [] = refl
    whole (x ∷ xs) = λ i. x ∷ whole xs i
exchanged_before key row (y ∷ ys) zs all = by (int_lt y.key key) (exchanged_before key row ys zs all)
  where
    first : (b : Bool) → (if b then ys ++ zs else y ∷ (ys ++ zs)) ≡ (if b then ys else y ∷ ys) ++ zs
    first true = refl
    first false = refl

    by : (b : Bool) → exchanged key row (ys ++ zs) ≡ exchanged key row ys ++ zs
        → (if b then y ∷ below key (ys ++ zs) else []) ++ (one_or_none row ++ without_first_at key (if b then from key (ys ++ zs) else y ∷ (ys ++ zs)))
        ≡ ((if b then y ∷ below key ys else []) ++ (one_or_none row ++ without_first_at key (if b then from key ys else y ∷ ys))) ++ zs
    by true deeper = ap (λ (rows : List Stored). y ∷ rows) deeper
    by false deeper =
        ap (λ (rows : List Stored). one_or_none row ++ rows) (first (int_eq y.key key))
        ∙ sym (append_assoc (one_or_none row) (if int_eq y.key key then ys else y ∷ ys) zs)

-- what is exchanged on the leaf of the key is exchanged among all rows
pub exchanged_at : (key : ℤ) (row : Option Stored) (leaves : List TreeLeaf) (leaf : TreeLeaf) (at : IsAt key leaves leaf) → Ranged leaves
    → exchanged key row (all_rows leaves) ≡ all_rows (at.before ++ (record leaf { rows = exchanged key row leaf.rows } ∷ at.after))
exchanged_at key row leaves leaf at ranged =
    let here : Ranged (at.before ++ (leaf ∷ at.after)) = subst Ranged at.is ranged in
    let past : LieBelow key (all_rows at.before) = all_below key at.before (before_below key at.before at.after leaf here at.near) in
    let above : IsBelowAll key (all_rows at.after) = all_above key at.after (after_above key at.after (ranged_after at.before at.after leaf here).3 at.under) in
    ap (λ (l : List TreeLeaf). exchanged key row (all_rows l)) at.is
    ∙ ap (exchanged key row) (rows_append at.before (leaf ∷ at.after))
    ∙ exchanged_past key row (all_rows at.before) (leaf.rows ++ all_rows at.after) past
    ∙ ap (λ (rows : List Stored). all_rows at.before ++ rows) (exchanged_before key row leaf.rows (all_rows at.after) above)
    ∙ sym (rows_append at.before (record leaf { rows = exchanged key row leaf.rows } ∷ at.after))

pub find_at : (key : ℤ) (leaves : List TreeLeaf) (leaf : TreeLeaf) → pick_leaf key leaves ≡ Some leaf → Ranged leaves → find key (all_rows leaves) ≡ find key leaf.rows
find_at key leaves leaf is ranged = found_on key leaves ranged ∙ ap (find_in key) is

-- ---- a change at one key leaves all other leaves

find_lower : (key : ℤ) (rows : List Stored) → LieBelow key rows → find key rows ≡ None
find_lower key [] lie = refl
find_lower key (s ∷ rows) lie = find_passes key s rows lie.0 ∙ find_lower key rows lie.1

nothing_exchanged : (key : ℤ) (rows : List Stored) (o : Option Stored) → find key rows ≡ o → o ≡ None → exchanged key None rows ≡ rows
nothing_exchanged key rows o found none = (λ i. below key rows ++ (one_or_none (sym (found ∙ none) i) ++ behind key rows)) ∙ sym (parted key rows)

pub unchanged : (key : ℤ) (change : List Stored → List Stored) (rows : List Stored) → ChangesAt key change → find key rows ≡ None → change rows ≡ rows
unchanged key change rows at none =
    at.is rows ∙ ap (λ (o : Option Stored). exchanged key (at.made o) rows) none ∙ ap (λ (o : Option Stored). exchanged key o rows) at.none ∙ nothing_exchanged key rows (find key rows) refl none

lower_stay : (key : ℤ) (change : List Stored → List Stored) (leaves : List TreeLeaf) → ChangesAt key change → AllBelow key leaves → map (on_leaf change) leaves ≡ leaves
lower_stay key change [] at all = refl
lower_stay key change (leaf ∷ leaves) at all = λ i. record { page = leaf.page; low = leaf.low; rows = unchanged key change leaf.rows at (find_lower key leaf.rows all.0) i } ∷ lower_stay key change leaves at all.1 i

upper_stay : (key : ℤ) (change : List Stored → List Stored) (leaves : List TreeLeaf) → ChangesAt key change → AllAbove key leaves → map (on_leaf change) leaves ≡ leaves
upper_stay key change [] at all = refl
upper_stay key change (leaf ∷ leaves) at all = λ i. record { page = leaf.page; low = leaf.low; rows = unchanged key change leaf.rows at (find_none key leaf.rows all.0) i } ∷ upper_stay key change leaves at all.1 i

map_on : (change : List Stored → List Stored) (xs ys : List TreeLeaf) → map (on_leaf change) (xs ++ ys) ≡ map (on_leaf change) xs ++ map (on_leaf change) ys
map_on change [] ys = refl
map_on change (x ∷ xs) ys = λ i. on_leaf change x ∷ map_on change xs ys i

pub one_changed : (key : ℤ) (change : List Stored → List Stored) (leaves : List TreeLeaf) (leaf : TreeLeaf) (at : IsAt key leaves leaf) → ChangesAt key change → Ranged leaves → map (on_leaf change) leaves ≡ at.before ++ (on_leaf change leaf ∷ at.after)
one_changed key change leaves leaf at changes ranged =
    let here : Ranged (at.before ++ (leaf ∷ at.after)) = subst Ranged at.is ranged in
    let lower = lower_stay key change at.before changes (before_below key at.before at.after leaf here at.near) in
    let upper = upper_stay key change at.after changes (after_above key at.after (ranged_after at.before at.after leaf here).3 at.under) in
    ap (map (on_leaf change)) at.is ∙ map_on change at.before (leaf ∷ at.after) ∙ (λ i. lower i ++ (on_leaf change leaf ∷ upper i))

-- a change at one key, made of the rows of each leaf, is made of all rows
pub all_changed : (key : ℤ) (change : List Stored → List Stored) (leaves : List TreeLeaf) → ChangesAt key change → Ranged leaves → all_rows (map (on_leaf change) leaves) ≡ change (all_rows leaves)
all_changed key change leaves changes ranged = by (pick_leaf key leaves) refl
  where
    by : (o : Option TreeLeaf) → pick_leaf key leaves ≡ o → all_rows (map (on_leaf change) leaves) ≡ change (all_rows leaves)
    by None is =
        let above = after_above key leaves ranged (none_below key leaves is) in
        ap all_rows (upper_stay key change leaves changes above) ∙ sym (unchanged key change (all_rows leaves) changes (find_none key (all_rows leaves) (all_above key leaves above)))
    by (Some leaf) is =
        let at = picked_at key leaves leaf is in
        let now : Option Stored = changes.made (find key leaf.rows) in
        let same : now ≡ changes.made (find key (all_rows leaves)) = ap changes.made (sym (find_at key leaves leaf is ranged)) in
        ap all_rows (one_changed key change leaves leaf at changes ranged)
        ∙ ap (λ (rows : List Stored). all_rows (at.before ++ (record leaf { rows = rows } ∷ at.after))) (changes.is leaf.rows)
        ∙ sym (exchanged_at key now leaves leaf at ranged)
        ∙ ap (λ (o : Option Stored). exchanged key o (all_rows leaves)) same
        ∙ sym (changes.is (all_rows leaves))
