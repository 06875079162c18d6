-- The rows of a table, leaf by leaf: joined they are all that are shown; and the leaf behind a page has the first of the pieces that
-- are left there.
use Rattle.std.proofs.Common.{◌≡◌, ℕ, zero, suc, ◌+◌, ◌<◌, ◌≤◌, ◌==◌, ℤ, Bool, true, false, ◌||◌, cond, List, [], ◌∷◌, ◌++◌, drop, length, map, take, Option, Some, None, refl, sym, ◌∙◌, ap, subst, arith, if◌then◌else◌}
use Rattle.std.specs.Prelude.{nat_eq}
use Rattle.std.specs.List.{AllByRecursion, IsDistinct, list_any}
use Rattle.std.specs.Option.{option_map}
use Rattle.std.proofs.lemmas.Bool.Decides.{nat_tests}
use Rattle.std.proofs.lemmas.List.{append-nil, append_assoc, length-map, take-append-drop}
use Rattle.std.proofs.lemmas.Map.Keys.{IsDistinct-cons}
use Rattle.std.proofs.lemmas.Map.Steps.{length-le_from_distinct_below}
use Rattle.isp_base.specs.Lists.{times}
use Rattle.isp_base.specs.declared.page_no.PageNo.{PageNo}
use Rattle.isp_catalog.specs.declared.table.TableDef.{TableDef}
use Rattle.isp_changes.specs.Changes.{joined}
use Rattle.isp_clustered.specs.Leaves.{IsLeafOf, kept_row_of, kept_rows_of}
use Rattle.isp_clustered.specs.Trees.{IsTree, Tree, first_leaf, leaf_after, leaf_behind, page_in}
use Rattle.isp_clustered.specs.declared.kept.KeptRow.{KeptRow}
use Rattle.isp_clustered.specs.declared.kept.Leaf.{Leaf}
use Rattle.isp_format.specs.Inner.{Name}
use Rattle.isp_format.specs.Leaf.{Stored}
use Rattle.isp_format.specs.Ranges.{Contents}
use Rattle.isp_image.specs.Databases.{FileRow, FileTable, shown}
use Rattle.isp_image.specs.Files.{IsFileRow}
use Rattle.isp_image.proofs.FileLaws.{stored_of}
use Rattle.isp_levels.specs.Inners.{number_of}
use Rattle.isp_levels.specs.Levels.{AllBegin, ArePages, BeginsAt, InnerNode, Lead, LevelsBegin, TreeLeaf, all_rows, entries_of, leaf_names, leaf_pages, least_key, level_pages, names_of}
use Rattle.isp_levels.proofs.PageLaws.{times_append, times_itself}
use Rattle.isp_levels.proofs.WayLaws.{pages_first}
use Rattle.isp_page.specs.declared.pages.Pages.{Ghosts}
use Rattle.isp_plain.specs.declared.value.Row.{Row}
use Rattle.isp_plain.specs.declared.value.Schema.{Schema}
use Rattle.isp_scan.specs.Leaves.{HasPiece, IsBehind, IsNext, Piece, leaf_pieces, pieces_after, pieces_behind, pieces_of}
use Rattle.isp_scan.specs.Scanning.{AreKeptAs, HasFileTable}
use Rattle.isp_scan.proofs.TakenLaws.{tree_of}

-- ---- rows of a file, parted as what is stored

stored_first : (xs ys : List Stored) (rows : List FileRow) → xs ++ ys ≡ map stored_of rows → xs ≡ map stored_of (take (length xs) rows)
stored_first [] ys rows is = refl
stored_first (x ∷ xs) ys [] is = absurd (let no : x ∷ (xs ++ ys) ≡ [] = is in cc)
stored_first (x ∷ xs) ys (r ∷ rows) is =
    let one : x ≡ r.stored = cc in
    let rest : xs ++ ys ≡ map stored_of rows = cc in
    (λ i. one i ∷ stored_first xs ys rows rest i)

stored_later : (xs ys : List Stored) (rows : List FileRow) → xs ++ ys ≡ map stored_of rows → ys ≡ map stored_of (drop (length xs) rows)
stored_later [] ys rows is = is
stored_later (x ∷ xs) ys [] is = absurd (let no : x ∷ (xs ++ ys) ≡ [] = is in cc)
stored_later (x ∷ xs) ys (r ∷ rows) is = stored_later xs ys rows (let rest : xs ++ ys ≡ map stored_of rows = cc in rest)

all_first : {X : Type 0} (P : X → Type 0) (n : ℕ) (xs : List X) → AllByRecursion P xs → AllByRecursion P (take n xs)
all_first P zero xs all = tt
all_first P (suc n) [] all = tt
all_first P (suc n) (x ∷ xs) all = (all.0, all_first P n xs all.1)

all_later : {X : Type 0} (P : X → Type 0) (n : ℕ) (xs : List X) → AllByRecursion P xs → AllByRecursion P (drop n xs)
all_later P zero xs all = all
all_later P (suc n) [] all = tt
all_later P (suc n) (x ∷ xs) all = all_later P n xs all.1

shown_both : (xs ys : List FileRow) → shown (xs ++ ys) ≡ shown xs ++ shown ys
shown_both [] ys = refl
shown_both (r ∷ xs) ys = by r.stored.marked (shown_both xs ys)
  where
    by : (b : Bool) → shown (xs ++ ys) ≡ shown xs ++ shown ys → (if b then shown (xs ++ ys) else (r.stored.key, r.row) ∷ shown (xs ++ ys)) ≡ (if b then shown xs else (r.stored.key, r.row) ∷ shown xs) ++ shown ys
    by true rest = rest
    by false rest = ap (λ (l : Piece). (r.stored.key, r.row) ∷ l) rest

shown_parts : (n : ℕ) (rows : List FileRow) → shown (take n rows) ++ shown (drop n rows) ≡ shown rows
shown_parts n rows = sym (shown_both (take n rows) (drop n rows)) ∙ ap shown (take-append-drop n rows)

none_stored : (rows : List FileRow) → [] ≡ map stored_of rows → rows ≡ []
none_stored [] none = refl
none_stored (r ∷ rows) none = absurd (let no : [] ≡ r.stored ∷ map stored_of rows = none in cc)

-- ---- a tree's leaves

none_of : (level : List InnerNode) → AllBegin level → entries_of level ≡ [] → names_of level ≡ []
none_of [] begin none = refl
none_of (node ∷ level) begin none = by node.names begin.0 none
  where
    by : (names : List Name) → BeginsAt node.low names → names ++ entries_of level ≡ [] → names_of (node ∷ level) ≡ []
    by [] begins none = absurd begins
    by (n ∷ names) begins none = absurd (let no : n ∷ (names ++ entries_of level) ≡ [] = none in cc)

-- levels lead to nothing from nothing alone
from_none : (names : List Name) (levels : List (List InnerNode)) → Lead names levels [] → LevelsBegin levels → names ≡ []
from_none names [] leads begin = leads
from_none names (level ∷ levels) leads begin = sym leads.0 ∙ none_of level begin.0 (from_none (entries_of level) levels leads.1 begin.1)

some_leaf : (root : ℕ) (levels : List (List InnerNode)) (leaves : List TreeLeaf) → Lead ((least_key, root) ∷ []) levels (leaf_names leaves) → LevelsBegin levels → (leaf : TreeLeaf) × (rest : List TreeLeaf) × (leaves ≡ leaf ∷ rest)
some_leaf root levels [] leads begin = absurd (let no : (least_key, root) ∷ [] ≡ [] = from_none ((least_key, root) ∷ []) levels leads begin in cc)
some_leaf root levels (leaf ∷ rest) leads begin = (leaf, rest, refl)

-- ---- a tree has no more leaves than the file has pages

none_same : (x : ℕ) (xs : List ℕ) → times x xs ≡ 0 → AllByRecursion (λ y. nat_eq x y ≡ false) xs
none_same x [] none = tt
none_same x (y ∷ ys) none = by (y == x) refl none (none_same x ys)
  where
    by : (b : Bool) → (y == x) ≡ b → cond b 1 0 + times x ys ≡ 0 → (times x ys ≡ 0 → AllByRecursion (λ y. nat_eq x y ≡ false) ys) → AllByRecursion (λ y. nat_eq x y ≡ false) (y ∷ ys)
    by true same none rest = absurd (omega (arith, none))
    by false other none rest = (grind (arith, nat_tests, other), rest (omega (arith, none)))

none_distinct : IsDistinct nat_eq []
unfolding IsDistinct
none_distinct = tt

distinct_once : (xs : List ℕ) → ((page : ℕ) → times page xs ≤ 1) → IsDistinct nat_eq xs
distinct_once [] once = none_distinct
distinct_once (x ∷ xs) once =
    let most = once x in
    let itself = times_itself x xs in
    IsDistinct-cons nat_eq x xs (none_same x xs (omega (arith, most, itself)))
    (distinct_once xs (λ page. let all : cond (x == page) 1 0 + times page xs ≤ 1 = once page in omega (arith, all)))

page_below : (pages q : ℕ) (xs : List ℕ) → ArePages pages xs → list_any (nat_eq q) xs ≡ true → q < pages
page_below pages q [] are there = absurd (let no : false ≡ true = there in cc)
page_below pages q (x ∷ xs) are there = by (nat_eq q x) refl there (page_below pages q xs are.2)
  where
    by : (b : Bool) → nat_eq q x ≡ b → (b || list_any (nat_eq q) xs) ≡ true → (list_any (nat_eq q) xs ≡ true → q < pages) → q < pages
    by true same here rest = let e : x ≡ q = grind (arith, nat_tests, same) in subst (λ (n : ℕ). n < pages) e are.1
    by false other here rest = rest here

few_leaves : (pages : ℕ) (contents : Contents) (table root : ℕ) (tree : Tree) → IsTree pages contents table root tree → length tree.leaves ≤ pages
few_leaves pages contents table root tree is =
    let all = leaf_pages tree.leaves in
    let once = is.levelled.once in
    let alone : (page : ℕ) → times page all ≤ 1 = λ page. let most = once page in let both = times_append page all (level_pages is.levels) in omega (arith, most, both) in
    let are = pages_first pages all (level_pages is.levels) is.levelled.inside in
    let few = length-le_from_distinct_below all pages (distinct_once all alone) (λ q there. page_below pages q all are there) in
    subst (λ (n : ℕ). n ≤ pages) (length-map tree.leaves (λ (leaf : TreeLeaf). leaf.page)) few

-- ---- all pieces

joined_are : (leaves : List TreeLeaf) (rows : List FileRow) → all_rows leaves ≡ map stored_of rows → joined (pieces_of leaves rows) ≡ shown rows
joined_are [] rows is = sym (ap shown (none_stored rows is))
joined_are (leaf ∷ leaves) rows is =
    ap (λ (l : Piece). shown (take (length leaf.rows) rows) ++ l) (joined_are leaves (drop (length leaf.rows) rows) (stored_later leaf.rows (all_rows leaves) rows is))
    ∙ shown_parts (length leaf.rows) rows

-- one behind the other they are the rows of the table
pub pieces_joined : {S : Type 0} (g : Ghosts S) (now : S) (def : TableDef) (t : FileTable) → HasFileTable g now def t → joined (leaf_pieces t) ≡ shown t.rows
pieces_joined g now def t has = joined_are t.tree.leaves t.rows has.table.rows

as_many : (leaves : List TreeLeaf) (rows : List FileRow) → length (pieces_of leaves rows) ≡ length leaves
as_many [] rows = refl
as_many (leaf ∷ leaves) rows = ap suc (as_many leaves (drop (length leaf.rows) rows))

-- they are no more than the file has pages
pub few_pieces : {S : Type 0} (g : Ghosts S) (now : S) (def : TableDef) (t : FileTable) → HasFileTable g now def t → length (leaf_pieces t) ≤ (g.shape now).pages
few_pieces g now def t has =
    let few = few_leaves (g.shape now).pages (g.contents now) def.number def.root.0 t.tree (tree_of g now def t has) in
    let many = as_many t.tree.leaves t.rows in
    omega (arith, few, many)

-- a table has a first leaf
pub some_piece : {S : Type 0} (g : Ghosts S) (now : S) (def : TableDef) (t : FileTable) → HasFileTable g now def t → HasPiece (leaf_pieces t)
some_piece g now def t has =
    let tree = has.table.tree in
    let some = some_leaf t.def.root.0 tree.levels t.tree.leaves tree.levelled.levelled.leads tree.levelled.levelled.begin in
    record {
      first = shown (take (length some.0.rows) t.rows);
      later = pieces_of some.1 (drop (length some.0.rows) t.rows);
      is = ap (λ (leaves : List TreeLeaf). pieces_of leaves t.rows) some.2;
    }

-- ---- the pieces that are left

-- those are the last of these rows
pub record IsLast (all last : Piece) : Type 0 where
  pub before : Piece
  pub is : all ≡ before ++ last

last_behind : (page : ℕ) (leaves : List TreeLeaf) (rows : List FileRow) → all_rows leaves ≡ map stored_of rows → IsLast (shown rows) (joined (pieces_behind page leaves rows))
last_behind page [] rows is = record { before = shown rows; is = sym (append-nil (shown rows)) }
last_behind page (leaf ∷ leaves) rows is = by (leaf.page == page) (last_behind page leaves later stored)
  where
    first : Piece
    first = shown (take (length leaf.rows) rows)

    later : List FileRow
    later = drop (length leaf.rows) rows

    stored : all_rows leaves ≡ map stored_of later
    stored = stored_later leaf.rows (all_rows leaves) rows is

    parts : first ++ shown later ≡ shown rows
    parts = shown_parts (length leaf.rows) rows

    by : (b : Bool) → IsLast (shown later) (joined (pieces_behind page leaves later)) → IsLast (shown rows) (joined (if b then pieces_of leaves later else pieces_behind page leaves later))
    by true rest = record { before = first; is = sym parts ∙ ap (λ (l : Piece). first ++ l) (sym (joined_are leaves later stored)) }
    by false rest = record { before = first ++ rest.before; is = sym parts ∙ ap (λ (l : Piece). first ++ l) rest.is ∙ sym (append_assoc first rest.before (joined (pieces_behind page leaves later))) }

-- the pieces that are left are the last of the rows of the table
pub last_after : {S : Type 0} (g : Ghosts S) (now : S) (def : TableDef) (t : FileTable) (after : Option ℕ) (left : List Piece) → HasFileTable g now def t → IsBehind t after left → IsLast (shown t.rows) (joined left)
last_after g now def t after left has behind = subst (λ (pieces : List Piece). IsLast (shown t.rows) (joined pieces)) behind.is (by after)
  where
    by : (after : Option ℕ) → IsLast (shown t.rows) (joined (pieces_after t after))
    by None = record { before = []; is = sym (pieces_joined g now def t has) }
    by (Some page) = last_behind page t.tree.leaves t.rows has.table.rows

all_last : {X : Type 0} (P : X → Type 0) (xs ys : List X) → AllByRecursion P (xs ++ ys) → AllByRecursion P ys
all_last P [] ys all = all
all_last P (x ∷ xs) ys all = all_last P xs ys all.1

all_front : {X : Type 0} (P : X → Type 0) (xs ys : List X) → AllByRecursion P (xs ++ ys) → AllByRecursion P xs
all_front P [] ys all = tt
all_front P (x ∷ xs) ys all = (all.0, all_front P xs ys all.1)

-- what holds of each row of the table holds of each of the next piece
pub of_piece : {S : Type 0} (g : Ghosts S) (now : S) (def : TableDef) (t : FileTable) (after : Option ℕ) (piece : Piece) (left : List Piece) (P : ℤ × Row → Type 0) → HasFileTable g now def t → IsBehind t after (piece ∷ left) → AllByRecursion P (shown t.rows) → AllByRecursion P piece
of_piece g now def t after piece left P has behind all =
    let last = last_after g now def t after (piece ∷ left) has behind in
    all_front P piece (joined left) (all_last P last.before (piece ++ joined left) (subst (AllByRecursion P) last.is all))

-- ---- the leaf that has the next piece

pub record IsNextLeaf (schema : Schema) (leaves : List TreeLeaf) (rows : List FileRow) (next : Option TreeLeaf) (piece : Piece) (left : List Piece) : Type 0 where
  pub leaf : TreeLeaf
  pub there : next ≡ Some leaf
  pub among : 1 ≤ times leaf.page (leaf_pages leaves)
  pub here : List FileRow
  pub stored : leaf.rows ≡ map stored_of here
  pub spell : AllByRecursion (IsFileRow schema) here
  pub piece_is : shown here ≡ piece
  pub left_is : pieces_behind leaf.page leaves rows ≡ left

same_piece : (a b : Piece) (xs ys : List Piece) → a ∷ xs ≡ b ∷ ys → a ≡ b
same_piece a b xs ys is = cc

same_left : (a b : Piece) (xs ys : List Piece) → a ∷ xs ≡ b ∷ ys → xs ≡ ys
same_left a b xs ys is = cc

no_piece : {A : Type 0} (b : Piece) (ys : List Piece) → [] ≡ b ∷ ys → A
no_piece b ys is = cc

module _ (schema : Schema) where
  -- the first leaf has the first piece
  first_next : (leaves : List TreeLeaf) (rows : List FileRow) (piece : Piece) (left : List Piece) → all_rows leaves ≡ map stored_of rows → AllByRecursion (IsFileRow schema) rows → pieces_of leaves rows ≡ piece ∷ left → IsNextLeaf schema leaves rows (first_leaf leaves) piece left
  first_next [] rows piece left is all pieces = no_piece piece left pieces
  first_next (leaf ∷ leaves) rows piece left is all pieces =
      let n = length leaf.rows in
      let itself : (leaf.page == leaf.page) ≡ true = grind arith in
      let count = times_itself leaf.page (leaf_pages leaves) in
      record {
        leaf = leaf;
        there = refl;
        among = omega (arith, count);
        here = take n rows;
        stored = stored_first leaf.rows (all_rows leaves) rows is;
        spell = all_first (IsFileRow schema) n rows all;
        piece_is = same_piece (shown (take n rows)) piece (pieces_of leaves (drop n rows)) left pieces;
        left_is =
            ap (λ (b : Bool). if b then pieces_of leaves (drop n rows) else pieces_behind leaf.page leaves (drop n rows)) itself
            ∙ same_left (shown (take n rows)) piece (pieces_of leaves (drop n rows)) left pieces;
      }

  -- with one leaf more before it
  next_later : (x : TreeLeaf) (leaves : List TreeLeaf) (rows : List FileRow) (next : Option TreeLeaf) (piece : Piece) (left : List Piece) → ((page : ℕ) → times page (leaf_pages (x ∷ leaves)) ≤ 1) → IsNextLeaf schema leaves (drop (length x.rows) rows) next piece left
      → IsNextLeaf schema (x ∷ leaves) rows next piece left
  next_later x leaves rows next piece left once n =
      let most : cond (x.page == n.leaf.page) 1 0 + times n.leaf.page (leaf_pages leaves) ≤ 1 = once n.leaf.page in
      let among = n.among in
      record {
        leaf = n.leaf;
        there = n.there;
        among = omega (arith, among);
        here = n.here;
        stored = n.stored;
        spell = n.spell;
        piece_is = n.piece_is;
        left_is =
            ap (λ (b : Bool). if b then pieces_of leaves (drop (length x.rows) rows) else pieces_behind n.leaf.page leaves (drop (length x.rows) rows)) (other (x.page == n.leaf.page) (omega (arith, most, among)))
            ∙ n.left_is;
      }
    where
      other : (b : Bool) → cond b 1 0 ≤ 0 → b ≡ false
      other false few = refl
      other true few = absurd (omega (arith, few))

  later_next : (page : ℕ) (leaves : List TreeLeaf) (rows : List FileRow) (piece : Piece) (left : List Piece) → ((page : ℕ) → times page (leaf_pages leaves) ≤ 1) → all_rows leaves ≡ map stored_of rows → AllByRecursion (IsFileRow schema) rows → pieces_behind page leaves rows ≡ piece ∷ left
      → IsNextLeaf schema leaves rows (leaf_behind leaves page) piece left
  later_next page [] rows piece left once is all pieces = no_piece piece left pieces
  later_next page (x ∷ leaves) rows piece left once is all pieces = by (x.page == page) pieces (later_next page leaves later piece left (λ p. let most : cond (x.page == p) 1 0 + times p (leaf_pages leaves) ≤ 1 = once p in omega (arith, most)) stored each)
    where
      later : List FileRow
      later = drop (length x.rows) rows

      stored : all_rows leaves ≡ map stored_of later
      stored = stored_later x.rows (all_rows leaves) rows is

      each : AllByRecursion (IsFileRow schema) later
      each = all_later (IsFileRow schema) (length x.rows) rows all

      by : (b : Bool) → (if b then pieces_of leaves later else pieces_behind page leaves later) ≡ piece ∷ left → (pieces_behind page leaves later ≡ piece ∷ left → IsNextLeaf schema leaves later (leaf_behind leaves page) piece left)
          → IsNextLeaf schema (x ∷ leaves) rows (if b then first_leaf leaves else leaf_behind leaves page) piece left
      by true first deeper = next_later x leaves rows (first_leaf leaves) piece left once (first_next leaves later piece left stored each first)
      by false rest deeper = next_later x leaves rows (leaf_behind leaves page) piece left once (deeper rest)

-- the leaf behind that page, in whose piece the statement looks next
pub next_leaf_is : {S : Type 0} (g : Ghosts S) (now : S) (def : TableDef) (t : FileTable) (after : Option ℕ) (piece : Piece) (left : List Piece) → HasFileTable g now def t → IsBehind t after (piece ∷ left)
    → IsNextLeaf def.schema t.tree.leaves t.rows (leaf_after t.tree after) piece left
next_leaf_is g now def t after piece left has behind = subst (λ (d : TableDef). IsNextLeaf d.schema t.tree.leaves t.rows (leaf_after t.tree after) piece left) has.is (by after behind.is)
  where
    alone : (page : ℕ) → times page (leaf_pages t.tree.leaves) ≤ 1
    alone page =
        let most = has.table.tree.levelled.once page in
        let both = times_append page (leaf_pages t.tree.leaves) (level_pages has.table.tree.levels) in
        omega (arith, most, both)

    by : (after : Option ℕ) → pieces_after t after ≡ piece ∷ left → IsNextLeaf t.def.schema t.tree.leaves t.rows (leaf_after t.tree after) piece left
    by None is = first_next t.def.schema t.tree.leaves t.rows piece left has.table.rows has.table.each is
    by (Some page) is = later_next t.def.schema page t.tree.leaves t.rows piece left alone has.table.rows has.table.each is

-- ---- a leaf as it is read

kept_twice : (rows : List FileRow) → kept_rows_of (map stored_of rows) ≡ map (λ (r : FileRow). kept_row_of r.stored) rows
kept_twice [] = refl
kept_twice (r ∷ rows) = ap (λ (l : List KeptRow). kept_row_of r.stored ∷ l) (kept_twice rows)

pub leaf_kept : (schema : Schema) (tree : Tree) (leaf : TreeLeaf) (here : List FileRow) (answer : Leaf) (slice : List KeptRow) → leaf.rows ≡ map stored_of here → AllByRecursion (IsFileRow schema) here → IsLeafOf tree leaf answer → slice ≡ answer.rows → AreKeptAs schema slice here
leaf_kept schema tree leaf here answer slice stored spell is read = record { are = read ∙ is.rows ∙ ap kept_rows_of stored ∙ kept_twice here; spell = spell }

-- where no leaf stands to the right, no pieces are left, and else some are
none_behind : (page : ℕ) (leaves : List TreeLeaf) (rows : List FileRow) → leaf_behind leaves page ≡ None → pieces_behind page leaves rows ≡ []
none_behind page [] rows none = refl
none_behind page (x ∷ leaves) rows none = by (x.page == page) none (none_behind page leaves (drop (length x.rows) rows))
  where
    first : (leaves : List TreeLeaf) (rows : List FileRow) → first_leaf leaves ≡ None → pieces_of leaves rows ≡ []
    first [] rows is = refl
    first (leaf ∷ others) rows is = absurd (let no : Some leaf ≡ None = is in cc)

    by : (b : Bool) → (if b then first_leaf leaves else leaf_behind leaves page) ≡ None → (leaf_behind leaves page ≡ None → pieces_behind page leaves (drop (length x.rows) rows) ≡ [])
        → (if b then pieces_of leaves (drop (length x.rows) rows) else pieces_behind page leaves (drop (length x.rows) rows)) ≡ []
    by true is deeper = first leaves (drop (length x.rows) rows) is
    by false is deeper = deeper is

some_behind : (page : ℕ) (leaves : List TreeLeaf) (rows : List FileRow) (leaf : TreeLeaf) → leaf_behind leaves page ≡ Some leaf → HasPiece (pieces_behind page leaves rows)
some_behind page [] rows leaf some = absurd (let no : None ≡ Some leaf = some in cc)
some_behind page (x ∷ leaves) rows leaf some = by (x.page == page) some (some_behind page leaves (drop (length x.rows) rows) leaf)
  where
    first : (leaves : List TreeLeaf) (rows : List FileRow) → first_leaf leaves ≡ Some leaf → HasPiece (pieces_of leaves rows)
    first [] rows is = absurd (let no : None ≡ Some leaf = is in cc)
    first (other ∷ others) rows is = record { first = shown (take (length other.rows) rows); later = pieces_of others (drop (length other.rows) rows); is = refl }

    by : (b : Bool) → (if b then first_leaf leaves else leaf_behind leaves page) ≡ Some leaf → (leaf_behind leaves page ≡ Some leaf → HasPiece (pieces_behind page leaves (drop (length x.rows) rows)))
        → HasPiece (if b then pieces_of leaves (drop (length x.rows) rows) else pieces_behind page leaves (drop (length x.rows) rows))
    by true is deeper = first leaves (drop (length x.rows) rows) is
    by false is deeper = deeper is

-- its page is answered where pieces are left behind it
pub goes_on : (t : FileTable) (leaf : TreeLeaf) (left : List Piece) (next : Option PageNo) (page : PageNo) → page.0 ≡ leaf.page → number_of next ≡ page_in (leaf_after t.tree (Some leaf.page)) → pieces_behind leaf.page t.tree.leaves t.rows ≡ left
    → IsNext t (option_map (λ (n : PageNo). page) next) left
goes_on t leaf left next page at is behind = by next (leaf_behind t.tree.leaves leaf.page) refl is
  where
    by : (next : Option PageNo) (o : Option TreeLeaf) → leaf_behind t.tree.leaves leaf.page ≡ o → number_of next ≡ page_in o → IsNext t (option_map (λ (n : PageNo). page) next) left
    by None None there is = sym behind ∙ none_behind leaf.page t.tree.leaves t.rows there
    by None (Some n) there is = absurd (let no : None ≡ Some n.page = is in cc)
    by (Some n) None there is = absurd (let no : Some n.0 ≡ None = is in cc)
    by (Some n) (Some m) there is = (
      subst HasPiece behind (some_behind leaf.page t.tree.leaves t.rows m there),
      record { is = ap (λ (p : ℕ). pieces_behind p t.tree.leaves t.rows) at ∙ behind },
    )
