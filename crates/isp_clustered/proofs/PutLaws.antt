-- A row that is put into a leaf that has no room for it, and its bytes, which are counted.
use Rattle.std.proofs.Common.{◌≡◌, ℕ, zero, suc, ◌+◌, ◌<◌, ◌≤◌, ◌==◌, ℤ, Bool, true, false, List, [], ◌∷◌, ◌++◌, length, Some, refl, sym, ◌∙◌, ap, subst, arith, cond}
use Rattle.std.specs.Prelude.{All, nat_le, nat_lt}
use Rattle.std.proofs.lemmas.Bool.Decides.{nat_tests}
use Rattle.isp_base.specs.Lists.{times}
use Rattle.isp_cells.specs.Rows.{behind, below, bytes_in, is_fitting, new_row, with_put}
use Rattle.isp_format.specs.Leaf.{Stored}
use Rattle.isp_format.specs.Ranges.{Contents}
use Rattle.isp_page.specs.Touched.{KeepsPages, is_page}
use Rattle.isp_space.specs.Spaces.{IsSpace, Space, space_pages, taken}
use Rattle.isp_space.proofs.ChangesLaws.{among_one}
use Rattle.isp_growing.specs.Grown.{CanGrow, IsGrown}
use Rattle.isp_growing.specs.Taking.{taken_times, takes}
use Rattle.isp_growing.proofs.TakenLaws.{zero_first}
use Rattle.isp_levels.specs.Dividing.{is_divided}
use Rattle.isp_levels.specs.Levels.{IsTreeOf, TreeLeaf, leaf_pages, level_pages, pick_leaf, tree_pages}
use Rattle.isp_levels.proofs.PageLaws.{keeps_same, times_append, zero_absent}
use Rattle.isp_levels.proofs.StandLaws.{levelled_local, same_first, same_second}
use Rattle.isp_clustered.specs.Puts.{CanPut, IsPut}
use Rattle.isp_clustered.specs.Trees.{Tree, pages_of}

-- ---- where a leaf has no room

not_so : (b : Bool) → (b ≡ true → ⊥) → b ≡ false
not_so true bad = absurd (bad refl)
not_so false bad = refl

bytes_append : (xs ys : List Stored) → bytes_in (xs ++ ys) ≡ bytes_in xs + bytes_in ys
bytes_append [] ys = omega arith
bytes_append (x ∷ xs) ys = let rest = bytes_append xs ys in omega (arith, rest)

pub divided_of : (key : ℤ) (row : List ℕ) (rows : List Stored) → (is_fitting key (length row) rows ≡ true → ⊥) → is_divided (with_put key row rows) ≡ true
divided_of key row rows full =
    let small = not_so (is_fitting key (length row) rows) full in
    let over = over_of (64 + bytes_in (below key rows) + (13 + length row) + bytes_in (behind key rows)) small in
    let sum = bytes_append (below key rows) (new_row key row ∷ behind key rows) in
    large (bytes_in (with_put key row rows)) (omega (arith, over, sum))
  where
    over_of : (n : ℕ) → nat_le n 4096 ≡ false → 4096 < n
    over_of n is = grind (arith, nat_tests, is)

    large : (n : ℕ) → 4032 < n → nat_lt 4032 n ≡ true
    large n is = grind (arith, nat_tests, is)

-- ---- what is known before

all_times : (P : ℕ → Type 0) (q : ℕ) (xs : List ℕ) → All P xs → 1 ≤ times q xs → P q
all_times P q [] all some = absurd (omega (arith, some))
all_times P q (x ∷ xs) all some = by (x == q) refl some (all_times P q xs (λ k d h. all (suc k) d (omega (arith, h))))
  where
    by : (b : Bool) → (x == q) ≡ b → 1 ≤ cond b 1 0 + times q xs → (1 ≤ times q xs → P q) → P q
    by true is some deeper = let same : x ≡ q = grind (arith, is) in subst P same (all 0 x (omega arith))
    by false is some deeper = deeper (omega (arith, some))

pub can_grow : (pages : ℕ) (old : Contents) (table root : ℕ) (key : ℤ) (row : List ℕ) (tree : Tree) (s : Space) (leaf : TreeLeaf) (can : CanPut pages old table root key (length row) tree s) → pick_leaf key tree.leaves ≡ Some leaf → is_divided (with_put key row leaf.rows) ≡ true → CanGrow pages old table root key row can.is_tree.levels tree.leaves s leaf
can_grow pages old table root key row tree s leaf can picked large = record {
  is_tree = can.is_tree.levelled;
  beside = record {
    is_space = can.is_space;
    once = λ q. let most = can.beside.once q in let parts = times_append q (pages_of tree) (space_pages s) in let same = pages_same q in omega (arith, most, parts, same);
    used = λ q some. all_times (λ page. page < s.fresh) q (pages_of tree) can.beside.used (let same = pages_same q in omega (arith, some, same));
  };
  free = let free = can.free in omega (arith, free);
  picked = picked;
  large = large;
}
  where
    pages_same : (q : ℕ) → times q (tree_pages can.is_tree.levels tree.leaves) ≡ times q (pages_of tree)
    pages_same q = ap (λ (inner : List ℕ). times q (leaf_pages tree.leaves ++ inner)) (sym can.is_tree.inner_is)

-- ---- what is known behind it

bytes_stay : (count : ℕ) (s : Space) → (taken_times count s).bytes ≡ s.bytes
bytes_stay zero s = refl
bytes_stay (suc n) s = bytes_stay n (taken s)

pub grown_put : (pages pages_now : ℕ) (old mid new : Contents) (table root : ℕ) (key : ℤ) (row : List ℕ) (tree : Tree) (s : Space) (can : CanPut pages old table root key (length row) tree s) → pages_now ≡ pages → (grown : IsGrown pages old mid table root key row can.is_tree.levels tree.leaves s) → KeepsPages (is_page 0) mid new
    → IsSpace pages_now new (let t = taken_times grown.count s in record t { bytes = t.bytes + (13 + length row) }) → IsPut pages_now old new table root key row tree s
grown_put pages pages_now old mid new table root key row tree s can shape grown keeps space =
    let after : Tree = record { leaves = grown.leaves_now; inner = level_pages grown.levels_now } in
    let few = grown.few in
    let same = keeps_same (0 ∷ []) (tree_pages grown.levels_now grown.leaves_now) mid new (zero_absent pages (tree_pages grown.levels_now grown.leaves_now) grown.is_tree.inside, tt) (among_one 0 mid new keeps) in
    let here : IsTreeOf pages new table root grown.levels_now grown.leaves_now =
    levelled_local pages mid new table root grown.levels_now grown.leaves_now (same_second (leaf_pages grown.leaves_now) (level_pages grown.levels_now) mid new same) (same_first (leaf_pages grown.leaves_now) (level_pages grown.levels_now) mid new same) grown.is_tree in
    record {
      after = after;
      put = record {
        rows = grown.rows;
        moved = grown.moved;
        left = grown.left;
        mid = grown.mid;
        right = grown.right;
        stood = grown.stood;
        page = grown.page;
        stand = grown.stand;
      };
      is_tree = record { levels = grown.levels_now; levelled = subst (λ (n : ℕ). IsTreeOf n new table root grown.levels_now grown.leaves_now) (sym shape) here; inner_is = refl };
      count = grown.count;
      few = omega (arith, few);
      pages_are = λ q. grown.pages_are q ∙ ap (λ (inner : List ℕ). times q (leaf_pages tree.leaves ++ inner) + times q (takes grown.count s)) (sym can.is_tree.inner_is);
      is_space = subst (λ (b : ℕ). IsSpace pages_now new (record (taken_times grown.count s) { bytes = b + (13 + length row) })) (bytes_stay grown.count s) space;
      others = λ q out. keeps q (zero_first q (pages_of after) out) ∙ grown.others q out;
    }

pub bytes_low : (count n : ℕ) (s : Space) → s.bytes < 4611686018427387904 → n ≤ 1013 → (taken_times count s).bytes + n < 9223372036854775808
bytes_low count n s less few = let same = bytes_stay count s in omega (arith, same, less, few)

-- behind a call that reads
pub put_behind : (pages pages_now : ℕ) (old now : Contents) (table root : ℕ) (key : ℤ) (size : ℕ) (tree : Tree) (s : Space) → pages_now ≡ pages → now ≡ old → CanPut pages old table root key size tree s → CanPut pages_now now table root key size tree s
put_behind pages pages_now old now table root key size tree s shape same can =
    subst (λ (n : ℕ). CanPut n now table root key size tree s) (sym shape) (subst (λ (c : Contents). CanPut pages c table root key size tree s) (sym same) can)
