-- A tree as levels: the way down, where a key is, that all rows rise, that it stands on its own pages and is one at most.
use Rattle.std.proofs.Common.{◌≡◌, ℕ, zero, suc, ℤ, Bool, true, false, List, [], ◌∷◌, ◌++◌, length, Option, Some, None, refl, sym, ◌∙◌, ap, subst, arith, if◌then◌else◌}
use Rattle.std.specs.Prelude.{int_le, int_lt}
use Rattle.std.specs.Option.{option_map}
use Rattle.std.proofs.lemmas.Int.{ints}
use Rattle.isp_format.specs.Inner.{Name}
use Rattle.isp_format.specs.Leaf.{Stored}
use Rattle.isp_levels.specs.Levels.{AllBegin, BeginsAt, HaveEntries, InnerNode, IsUnder, Lead, LevelsBegin, LevelsHave, LieBelow, LieFrom, LiesBefore, NamesRise, Ranged, all_rows, entries_of, find_in, leaf_names, names_of, or_else, pick, pick_in, pick_leaf, pick_node, way, TreeLeaf}
use Rattle.isp_cells.specs.Rows.{IsBelowAll, Rises, find}
use Rattle.isp_cells.proofs.RowLaws.{below_joined, find_none, find_passes, find_stops}

-- ---- keys

lt_then_lt : (a b c : ℤ) → int_lt a b ≡ true → int_lt b c ≡ true → int_lt a c ≡ true
lt_then_lt a b c first second = grind (arith, ints)

under_first : (key : ℤ) (xs ys : List Name) → IsUnder key (xs ++ ys) → IsUnder key xs
under_first key [] ys all = tt
under_first key (x ∷ xs) ys all = (all.0, under_first key xs ys all.1)

under_second : (key : ℤ) (xs ys : List Name) → IsUnder key (xs ++ ys) → IsUnder key ys
under_second key [] ys all = all
under_second key (x ∷ xs) ys all = under_second key xs ys all.1

pub rise_first : (xs ys : List Name) → NamesRise (xs ++ ys) → NamesRise xs
rise_first [] ys rises = tt
rise_first (x ∷ xs) ys rises = (under_first x.0 xs ys rises.0, rise_first xs ys rises.1)

pub rise_second : (xs ys : List Name) → NamesRise (xs ++ ys) → NamesRise ys
rise_second [] ys rises = rises
rise_second (x ∷ xs) ys rises = rise_second xs ys rises.1

-- a level's pages begin where entries do, so that they rise where the entries do
level_under : (key : ℤ) (level : List InnerNode) → AllBegin level → IsUnder key (entries_of level) → IsUnder key (names_of level)
level_under key [] all under = tt
level_under key (node ∷ level) all under =
    (first node.names all.0 (under_first key node.names (entries_of level) under), level_under key level all.1 (under_second key node.names (entries_of level) under))
  where
    first : (names : List Name) → BeginsAt node.low names → IsUnder key names → int_lt key node.low ≡ true
    first [] begins less = absurd begins
    first (name ∷ names) begins less = ap (int_lt key) (sym begins) ∙ less.0

pub level_rises : (level : List InnerNode) → AllBegin level → NamesRise (entries_of level) → NamesRise (names_of level)
level_rises [] all rises = tt
level_rises (node ∷ level) all rises = (first node.names all.0 rises, level_rises level all.1 (rise_second node.names (entries_of level) rises))
  where
    first : (names : List Name) → BeginsAt node.low names → NamesRise (names ++ entries_of level) → IsUnder node.low (names_of level)
    first [] begins up = absurd begins
    first (name ∷ names) begins up = level_under node.low level all.1 (under_second node.low names (entries_of level) (subst (λ (k : ℤ). IsUnder k (names ++ entries_of level)) begins up.0))

-- where what levels lead to rises, so does each level
pub lead_rises : (names : List Name) (levels : List (List InnerNode)) (below : List Name) → Lead names levels below → LevelsBegin levels → NamesRise below → NamesRise names
lead_rises names [] below leads begin rises = subst NamesRise (sym leads) rises
lead_rises names (level ∷ levels) below leads begin rises = subst NamesRise leads.0 (level_rises level begin.0 (lead_rises (entries_of level) levels below leads.1 begin.1 rises))

-- ---- the way down on one level

or_assoc : {X : Type 0} (a b c : Option X) → or_else a (or_else b c) ≡ or_else (or_else a b) c
or_assoc (Some x) b c = refl
or_assoc None b c = refl

right_none : {X : Type 0} (o : Option X) → o ≡ or_else o None
right_none None = refl
right_none (Some x) = refl

pick_append : (key : ℤ) (xs ys : List Name) → pick key (xs ++ ys) ≡ or_else (pick key ys) (pick key xs)
pick_append key [] ys = right_none (pick key ys)
pick_append key (x ∷ xs) ys =
    ap (λ o. or_else o (if int_le x.0 key then Some x else None)) (pick_append key xs ys)
    ∙ sym (or_assoc (pick key ys) (pick key xs) (if int_le x.0 key then Some x else None))

far_on : (low name key : ℤ) → int_lt low name ≡ true → int_le low key ≡ false → int_le name key ≡ false
far_on low name key above far = grind (arith, ints)

none_under : (key low : ℤ) (names : List Name) → IsUnder low names → int_le low key ≡ false → pick key names ≡ None
none_under key low [] under far = refl
none_under key low (name ∷ names) under far =
    let rest : pick key names ≡ None = none_under key low names under.1 far in
    let here : int_le name.0 key ≡ false = far_on low name.0 key under.0 far in
    (λ i. or_else (rest i) (if here i then Some name else None))

-- a page that begins at the key or before it has an entry that does
begins_some : (key low : ℤ) (names : List Name) (o : Option Name) → BeginsAt low names → int_le low key ≡ true → or_else (pick key names) o ≡ pick key names
begins_some key low [] o begins near = absurd begins
begins_some key low (first ∷ rest) o begins near = by (pick key rest) (int_le first.0 key) (ap (λ (k : ℤ). int_le k key) begins ∙ near)
  where
    by : (r : Option Name) (b : Bool) → b ≡ true → or_else (or_else r (if b then Some first else None)) o ≡ or_else r (if b then Some first else None)
    by (Some x) b is = refl
    by None true is = refl
    by None false is = cc

begins_none : (key low : ℤ) (names : List Name) → BeginsAt low names → NamesRise names → int_le low key ≡ false → pick key names ≡ None
begins_none key low [] begins rises far = absurd begins
begins_none key low (first ∷ rest) begins rises far =
    let here : int_le first.0 key ≡ false = ap (λ (k : ℤ). int_le k key) begins ∙ far in
    let none : pick key rest ≡ None = none_under key first.0 rest rises.0 here in
    (λ i. or_else (none i) (if here i then Some first else None))

found_begins : (key : ℤ) (level : List InnerNode) → AllBegin level → (m : InnerNode) → pick_node key level ≡ Some m → (x : Option Name) → or_else (pick key m.names) x ≡ pick key m.names
found_begins key [] all m is x = cc
found_begins key (node ∷ level) all m is x = by (pick_node key level) (int_le node.low key) (λ there. found_begins key level all.1 m there x) refl refl is
  where
    by : (o : Option InnerNode) (b : Bool) → (pick_node key level ≡ Some m → or_else (pick key m.names) x ≡ pick key m.names) → pick_node key level ≡ o → int_le node.low key ≡ b → or_else o (if b then Some node else None) ≡ Some m → or_else (pick key m.names) x ≡ pick key m.names
    by (Some n) b below this near same = below (this ∙ same)
    by None true below this near same =
        let node_is : node ≡ m = cc in
        subst (λ (n : InnerNode). or_else (pick key n.names) x ≡ pick key n.names) node_is (begins_some key node.low node.names x all.0 near)
    by None false below this near same = cc

one_page : (key : ℤ) (node : InnerNode) (b : Bool) (o : Option InnerNode) → int_le node.low key ≡ b → BeginsAt node.low node.names → NamesRise node.names → ((m : InnerNode) → o ≡ Some m → (x : Option Name) → or_else (pick key m.names) x ≡ pick key m.names)
    → or_else (pick_in key o) (pick key node.names) ≡ pick_in key (or_else o (if b then Some node else None))
one_page key node b (Some m) is begins rises some = some m refl (pick key node.names)
one_page key node true None is begins rises some = refl
one_page key node false None is begins rises some = begins_none key node.low node.names begins rises is

-- the last entry of a level that begins at the key or before it is that of the last page that does
pub descends : (key : ℤ) (level : List InnerNode) → AllBegin level → NamesRise (entries_of level) → pick key (entries_of level) ≡ pick_in key (pick_node key level)
descends key [] all rises = refl
descends key (node ∷ level) all rises =
    pick_append key node.names (entries_of level)
    ∙ ap (λ o. or_else o (pick key node.names)) (descends key level all.1 (rise_second node.names (entries_of level) rises))
    ∙ one_page key node (int_le node.low key) (pick_node key level) refl all.0 (rise_first node.names (entries_of level) rises) (found_begins key level all.1)

-- ---- the way down over all levels

abbrev name_of : InnerNode → Name
name_of node = (node.low, node.page)

pub node_picked : (key : ℤ) (level : List InnerNode) → pick key (names_of level) ≡ option_map name_of (pick_node key level)
node_picked key [] = refl
node_picked key (node ∷ level) = ap (λ o. or_else o (if int_le node.low key then Some (name_of node) else None)) (node_picked key level) ∙ by (pick_node key level) (int_le node.low key)
  where
    by : (o : Option InnerNode) (b : Bool) → or_else (option_map name_of o) (if b then Some (name_of node) else None) ≡ option_map name_of (or_else o (if b then Some node else None))
    by (Some n) b = refl
    by None true = refl
    by None false = refl

has_entries : (entries : ℕ → List Name) (key : ℤ) (level : List InnerNode) (m : InnerNode) → HaveEntries entries level → pick_node key level ≡ Some m → entries m.page ≡ m.names
has_entries entries key [] m have is = cc
has_entries entries key (node ∷ level) m have is = by (pick_node key level) (int_le node.low key) (has_entries entries key level m have.1) refl is
  where
    by : (o : Option InnerNode) (b : Bool) → (pick_node key level ≡ Some m → entries m.page ≡ m.names) → pick_node key level ≡ o → or_else o (if b then Some node else None) ≡ Some m → entries m.page ≡ m.names
    by (Some n) b below this same = below (this ∙ same)
    by None true below this same = let node_is : node ≡ m = cc in subst (λ (n : InnerNode). entries n.page ≡ n.names) node_is have.0
    by None false below this same = cc

way_none : (entries : ℕ → List Name) (key : ℤ) (n : ℕ) → way entries key n None ≡ None
way_none entries key zero = refl
way_none entries key (suc n) = refl

-- from the last of the names that begins at the key or before it, as many levels down as there are, the way leads to the last
-- of the names below that does
pub way_leads : (entries : ℕ → List Name) (key : ℤ) (names : List Name) (levels : List (List InnerNode)) (below : List Name) → Lead names levels below → LevelsBegin levels → LevelsHave entries levels → NamesRise below
    → way entries key (length levels) (pick key names) ≡ pick key below
way_leads entries key names [] below leads begin have rises = ap (pick key) leads
way_leads entries key names (level ∷ levels) below leads begin have rises =
    let deeper : way entries key (length levels) (pick key (entries_of level)) ≡ pick key below = way_leads entries key (entries_of level) levels below leads.1 begin.1 have.1 rises in
    let up = lead_rises (entries_of level) levels below leads.1 begin.1 rises in
    ap (way entries key (suc (length levels))) (ap (pick key) (sym leads.0) ∙ node_picked key level)
    ∙ by (pick_node key level) refl
    ∙ ap (way entries key (length levels)) (sym (descends key level begin.0 up))
    ∙ deeper
  where
    by : (o : Option InnerNode) → pick_node key level ≡ o → way entries key (suc (length levels)) (option_map name_of o) ≡ way entries key (length levels) (pick_in key o)
    by None is = sym (way_none entries key (length levels))
    by (Some m) is = ap (λ (names : List Name). way entries key (length levels) (pick key names)) (has_entries entries key level m have.0 is)

-- ---- leaves

abbrev leaf_name : TreeLeaf → Name
leaf_name leaf = (leaf.low, leaf.page)

pub leaf_picked : (key : ℤ) (leaves : List TreeLeaf) → pick key (leaf_names leaves) ≡ option_map leaf_name (pick_leaf key leaves)
leaf_picked key [] = refl
leaf_picked key (leaf ∷ leaves) = ap (λ o. or_else o (if int_le leaf.low key then Some (leaf_name leaf) else None)) (leaf_picked key leaves) ∙ by (pick_leaf key leaves) (int_le leaf.low key)
  where
    by : (o : Option TreeLeaf) (b : Bool) → or_else (option_map leaf_name o) (if b then Some (leaf_name leaf) else None) ≡ option_map leaf_name (or_else o (if b then Some leaf else None))
    by (Some n) b = refl
    by None true = refl
    by None false = refl

leaves_under : (leaf : TreeLeaf) (leaves : List TreeLeaf) → LiesBefore leaf leaves → IsUnder leaf.low (leaf_names leaves)
leaves_under leaf [] before = tt
leaves_under leaf (other ∷ leaves) before = (before.0, leaves_under leaf leaves before.2)

pub leaves_rise : (leaves : List TreeLeaf) → Ranged leaves → NamesRise (leaf_names leaves)
leaves_rise [] ranged = tt
leaves_rise (leaf ∷ leaves) ranged = (leaves_under leaf leaves ranged.2, leaves_rise leaves ranged.3)

-- ---- all rows rise

from_then_below : (x low key : ℤ) → int_lt x low ≡ true → int_lt key low ≡ false → int_lt x key ≡ true
from_then_below x low key less from = grind (arith, ints)

below_from : (x low : ℤ) (rows : List Stored) → int_lt x low ≡ true → LieFrom low rows → IsBelowAll x rows
below_from x low [] less from = tt
below_from x low (s ∷ rows) less from = (from_then_below x low s.key less from.0, below_from x low rows less from.1)

-- what lies below where each of the leaves begins lies below all their rows
below_leaves : (x : ℤ) (leaves : List TreeLeaf) → IsUnder x (leaf_names leaves) → Ranged leaves → IsBelowAll x (all_rows leaves)
below_leaves x [] under ranged = tt
below_leaves x (leaf ∷ leaves) under ranged = below_joined x leaf.rows (all_rows leaves) (below_from x leaf.low leaf.rows under.0 ranged.0) (below_leaves x leaves under.1 ranged.3)

-- each row of a leaf lies below where the others begin
abbrev AllUnder : List Stored → List Name → Type 0
AllUnder [] names = Unit {0}
AllUnder (s ∷ rows) names = IsUnder s.key names × AllUnder rows names

under_none : (rows : List Stored) → AllUnder rows []
under_none [] = tt
under_none (s ∷ rows) = (tt, under_none rows)

under_more : (rows : List Stored) (name : Name) (names : List Name) → LieBelow name.0 rows → AllUnder rows names → AllUnder rows (name ∷ names)
under_more [] name names below all = tt
under_more (s ∷ rows) name names below all = ((below.0, all.0), under_more rows name names below.1 all.1)

rows_under : (leaf : TreeLeaf) (leaves : List TreeLeaf) → LiesBefore leaf leaves → AllUnder leaf.rows (leaf_names leaves)
rows_under leaf [] before = under_none leaf.rows
rows_under leaf (other ∷ leaves) before = under_more leaf.rows (leaf_name other) (leaf_names leaves) before.1 (rows_under leaf leaves before.2)

rows_rise_on : (rows : List Stored) (leaves : List TreeLeaf) → Rises rows → AllUnder rows (leaf_names leaves) → Ranged leaves → Rises (all_rows leaves) → Rises (rows ++ all_rows leaves)
rows_rise_on [] leaves rises under ranged up = up
rows_rise_on (s ∷ rows) leaves rises under ranged up = (below_joined s.key rows (all_rows leaves) rises.0 (below_leaves s.key leaves under.0 ranged), rows_rise_on rows leaves rises.1 under.1 ranged up)

pub all_rise : (leaves : List TreeLeaf) → Ranged leaves → Rises (all_rows leaves)
all_rise [] ranged = tt
all_rise (leaf ∷ leaves) ranged = rows_rise_on leaf.rows leaves ranged.1 (rows_under leaf leaves ranged.2) ranged.3 (all_rise leaves ranged.3)

-- ---- a key is on the leaf that the way leads to, or nowhere

-- what is found behind rows below a key; before rows above it
find_past : (key : ℤ) (rows more : List Stored) → LieBelow key rows → find key (rows ++ more) ≡ find key more
find_past key [] more below = refl
find_past key (s ∷ rows) more below = find_passes key s (rows ++ more) below.0 ∙ find_past key rows more below.1

find_before : (key : ℤ) (rows more : List Stored) → IsBelowAll key more → find key (rows ++ more) ≡ find key rows
find_before key [] more above = find_none key more above
find_before key (s ∷ rows) more above = by (int_lt s.key key) refl (find_before key rows more above)
  where
    by : (b : Bool) → int_lt s.key key ≡ b → find key (rows ++ more) ≡ find key rows → find key (s ∷ (rows ++ more)) ≡ find key (s ∷ rows)
    by true less rest = find_passes key s (rows ++ more) less ∙ rest ∙ sym (find_passes key s rows less)
    by false stop rest = find_stops key s (rows ++ more) stop ∙ sym (find_stops key s rows stop)

lt_of_far : (low key : ℤ) → int_le low key ≡ false → int_lt key low ≡ true
lt_of_far low key far = grind (arith, ints)

below_near : (x low key : ℤ) → int_lt x low ≡ true → int_le low key ≡ true → int_lt x key ≡ true
below_near x low key less near = grind (arith, ints)

lie_near : (low key : ℤ) (rows : List Stored) → int_le low key ≡ true → LieBelow low rows → LieBelow key rows
lie_near low key [] near below = tt
lie_near low key (s ∷ rows) near below = (below_near s.key low key below.0 near, lie_near low key rows near below.1)

-- where a leaf behind is picked, the leaf's rows lie below the key; where none is, the leaves behind lie above it
picked_past : (key : ℤ) (leaf : TreeLeaf) (leaves : List TreeLeaf) (m : TreeLeaf) → LiesBefore leaf leaves → pick_leaf key leaves ≡ Some m → LieBelow key leaf.rows
picked_past key leaf [] m before is = cc
picked_past key leaf (other ∷ leaves) m before is = by (pick_leaf key leaves) (int_le other.low key) refl refl is (λ n there. picked_past key leaf leaves n before.2 there)
  where
    by : (o : Option TreeLeaf) (b : Bool) → pick_leaf key leaves ≡ o → int_le other.low key ≡ b → or_else o (if b then Some other else None) ≡ Some m → ((n : TreeLeaf) → pick_leaf key leaves ≡ Some n → LieBelow key leaf.rows) → LieBelow key leaf.rows
    by (Some n) b below near same deeper = deeper n below
    by None true below near same deeper = lie_near other.low key leaf.rows near before.1
    by None false below near same deeper = absurd (let no : None ≡ Some m = same in cc)

none_picked : (key : ℤ) (leaves : List TreeLeaf) → pick_leaf key leaves ≡ None → IsUnder key (leaf_names leaves)
none_picked key [] is = tt
none_picked key (leaf ∷ leaves) is = by (pick_leaf key leaves) (int_le leaf.low key) refl refl is (none_picked key leaves)
  where
    by : (o : Option TreeLeaf) (b : Bool) → pick_leaf key leaves ≡ o → int_le leaf.low key ≡ b → or_else o (if b then Some leaf else None) ≡ None → (pick_leaf key leaves ≡ None → IsUnder key (leaf_names leaves)) → IsUnder key (leaf_names (leaf ∷ leaves))
    by (Some n) b below near same deeper = absurd (let no : Some n ≡ None = same in cc)
    by None true below near same deeper = absurd (let no : Some leaf ≡ None = same in cc)
    by None false below near same deeper = (lt_of_far leaf.low key near, deeper below)

pub found_on : (key : ℤ) (leaves : List TreeLeaf) → Ranged leaves → find key (all_rows leaves) ≡ find_in key (pick_leaf key leaves)
found_on key [] ranged = refl
found_on key (leaf ∷ leaves) ranged = by (pick_leaf key leaves) (int_le leaf.low key) refl refl (found_on key leaves ranged.3)
  where
    by : (o : Option TreeLeaf) (b : Bool) → pick_leaf key leaves ≡ o → int_le leaf.low key ≡ b → find key (all_rows leaves) ≡ find_in key o → find key (leaf.rows ++ all_rows leaves) ≡ find_in key (or_else o (if b then Some leaf else None))
    by (Some m) b picked near rest = find_past key leaf.rows (all_rows leaves) (picked_past key leaf leaves m ranged.2 picked) ∙ rest
    by None true picked near rest = find_before key leaf.rows (all_rows leaves) (below_leaves key leaves (none_picked key leaves picked) ranged.3)
    by None false picked near rest =
        find_before key leaf.rows (all_rows leaves) (below_leaves key leaves (none_picked key leaves picked) ranged.3)
        ∙ find_none key leaf.rows (below_from key leaf.low leaf.rows (lt_of_far leaf.low key near) ranged.0)
