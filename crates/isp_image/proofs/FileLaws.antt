-- A kept file where the tree of one table is changed: every other table, the catalogue and the space stand as before.
use Rattle.std.proofs.Common.{◌≡◌, ℕ, zero, suc, pred, ◌+◌, ◌<◌, ◌≤◌, ◌==◌, ℤ, Bool, true, false, ◌||◌, List, [], ◌∷◌, length, map, Option, Some, None, refl, sym, ◌∙◌, ap, subst, arith, if◌then◌else◌}
use Rattle.std.specs.Prelude.{◌≢◌, ◌&&◌, slice_get, slice_set}
use Rattle.std.specs.List.{AllByRecursion, list_any}
use Rattle.std.specs.Ordering.{int_eq}
use Rattle.isp_base.specs.Lists.{times}
use Rattle.isp_format.specs.Leaf.{Stored, slot_of}
use Rattle.isp_format.specs.Ranges.{Contents}
use Rattle.isp_format.specs.Undo.{marked_kind}
use Rattle.isp_page.specs.State.{is_among}
use Rattle.isp_page.specs.Touched.{KeepsPages, is_page}
use Rattle.isp_catalog.specs.Catalogue.{IsCatalogue}
use Rattle.isp_catalog.proofs.CatalogueLaws.{local}
use Rattle.isp_catalog.specs.declared.table.TableDef.{TableDef}
use Rattle.isp_space.specs.Spaces.{IsSpace, Space, taken}
use Rattle.isp_clustered.specs.Puts.{takes, taken_times}
use Rattle.isp_clustered.specs.Rows.{IsBelowAll, Rises}
use Rattle.isp_clustered.specs.Trees.{IsTree, Tree, pages_of, rows_of}
use Rattle.isp_clustered.proofs.TreeLaws.{tree_rises, tree_same}
use Rattle.isp_image.specs.Databases.{Database, FileImage, FileRow, FileTable, image_of, kind_of, row_key}
use Rattle.isp_image.specs.Courses.{names}
use Rattle.isp_image.specs.Files.{IsFileImage, IsFileRow, IsFileTable, IsOldRow, IsSpelling, KeptFile, Owner, Owns, OwnsSpace, is_known, nobody, of_table}
use Rattle.isp_image.specs.Keyed.{IsBelowEach, RisesBy, found, placed}
use Rattle.isp_image.proofs.KeyedLaws.{found_each, found_key, found_placed, key_is, same_key}
use Rattle.isp_image.proofs.ListLaws.{all_of, each_set, get_below, get_other, get_set, length_set, map_set_same, not_among}
use Rattle.isp_image.proofs.OwnerLaws.{after_takes, apart, nobody_none, tables_differ, table_known, takes_grow, takes_known, takes_shared, takes_stay}

abbrev pub def_of : FileTable → TableDef
def_of t = t.def

abbrev pub stored_of : FileRow → Stored
stored_of r = r.stored

-- ---- the rows of a table rise

below_back : (key : ℤ) (rows : List FileRow) → IsBelowAll key (map stored_of rows) → IsBelowEach row_key key rows
below_back key [] all = tt
below_back key (r ∷ rows) all = (all.0, below_back key rows all.1)

rises_back : (rows : List FileRow) → Rises (map stored_of rows) → RisesBy row_key rows
rises_back [] rises = tt
rises_back (r ∷ rows) rises = (below_back r.stored.key rows rises.0, rises_back rows rises.1)

pub table_rises : (pages : ℕ) (contents : Contents) (number : ℕ) (t : FileTable) → IsFileTable pages contents number t → RisesBy row_key t.rows
table_rises pages contents number t is = rises_back t.rows (subst Rises is.rows (tree_rises pages contents number t.def.root.0 t.tree is.tree))

pub rises_in : (pages : ℕ) (contents : Contents) (d : Database) (place : ℕ) (t : FileTable) → KeptFile pages contents d → slice_get d.tables place ≡ Some t → RisesBy row_key t.rows
rises_in pages contents d place t kept is = table_rises pages contents (suc place) t (kept.each place t is)

-- ---- one table is changed

abbrev pub with_table : Database → ℕ → FileTable → Space → List FileImage → Database
with_table d place t space images = record { space = space; tables = slice_set d.tables place t; images = images }

-- the tree of one table after a change: it has these rows and takes so many pages that were free
pub record Regrown (pages : ℕ) (old new : Contents) (d : Database) (place : ℕ) (t : FileTable) (tree : Tree) (rows : List FileRow) (count bytes : ℕ) : Type 0 where
  pub is_tree : IsTree pages new (suc place) t.def.root.0 tree
  pub rows_are : rows_of tree ≡ map stored_of rows
  pub spelled : AllByRecursion (IsFileRow t.def.schema) rows
  pub pages_are : (page : ℕ) → times page (pages_of tree) ≡ times page (pages_of t.tree) + times page (takes count d.space)
  pub is_space : IsSpace pages new (let s = taken_times count d.space in record s { bytes = bytes })
  pub others : KeepsPages (λ page. is_page 0 page || is_among page (pages_of tree)) old new

pub neither : (a b : Bool) → a ≡ false → b ≡ false → (a || b) ≡ false
neither a b one other = ap (λ x. x || b) one ∙ other

pub tables_stay : (k : ℕ) (s : Space) → (taken_times k s).tables ≡ s.tables
tables_stay zero s = refl
tables_stay (suc k) s = tables_stay k (taken s)

pub far_from_zero : (page : ℕ) → 1 ≤ page → is_page 0 page ≡ false
far_from_zero page some = grind (arith, some)

pub not_low : (owner : ℕ → Owner) (n page : ℕ) (xs : List ℕ) → Owns owner (of_table n) xs → ((p : ℕ) → p < 16 → owner p ≡ nobody) → 1 ≤ times page xs → 1 ≤ page
not_low owner n zero xs has first some = let none = nobody_none owner n xs 0 has (first 0 (omega arith)) in absurd (omega (arith, none, some))
not_low owner n (suc page) xs has first some = omega arith

pub place_apart : (a b : ℕ) → (a ≡ b → ⊥) → suc a ≢ suc b
place_apart a b differ same = differ (suc_same a b same)
  where
    suc_same : (a b : ℕ) → suc a ≡ suc b → a ≡ b
    suc_same a b same = omega (arith, same)

abbrev pub kept_changed : (pages : ℕ) (old new : Contents) (d : Database) (place : ℕ) (t : FileTable) (tree : Tree) (rows : List FileRow) (count bytes : ℕ) (images : List FileImage)
    → KeptFile pages old d → slice_get d.tables place ≡ Some t → Regrown pages old new d place t tree rows count bytes
    → (let now : FileTable = record { def = t.def; tree = tree; rows = rows } in let s = taken_times count d.space in let space : Space = record s { bytes = bytes } in
    AllByRecursion (IsFileImage (slice_set d.tables place now)) images → KeptFile pages new (with_table d place now space images))
kept_changed pages old new d place t tree rows count bytes images kept is change images_are =
    record {
      catalogue = record {
        space_is = change.is_space;
        count = ap (λ (l : List TableDef). length l) defs_same ∙ kept.catalogue.count ∙ sym (tables_stay count d.space);
        catalogue = subst (λ (defs : List TableDef). IsCatalogue pages new defs) (sym defs_same) (local pages old new (map def_of d.tables) (λ page low high. change.others page (low_page page (omega (arith, low)) high)) kept.catalogue.catalogue);
      };
      each = each_set (λ n u. IsFileTable pages new (suc n) u) d.tables place t now is here (λ m u differ got. elsewhere m u differ got);
      noted = images_are;
      owner = after_takes count d.space (suc place) kept.owner;
      shared = record { free = shared.free; first = shared.first; used = shared.used; never = shared.never };
      trees = each_set (λ n (u : FileTable). Owns owner (of_table (suc n)) (pages_of u.tree)) d.tables place t now is mine (λ m u differ got. theirs m u differ got);
      known = λ page. ap (λ (n : ℕ). is_known n (owner page)) (length_set d.tables place now) ∙ takes_known count d.space (suc place) (length d.tables) kept.owner (table_known place (length d.tables) (get_below d.tables place t is)) kept.known page;
    }
  where
    now : FileTable
    now = record { def = t.def; tree = tree; rows = rows }

    owner : ℕ → Owner
    owner = after_takes count d.space (suc place) kept.owner

    from : 16 ≤ d.space.fresh
    from = kept.catalogue.space_is.fresh_from

    shared : OwnsSpace owner (taken_times count d.space)
    shared = takes_shared count d.space (suc place) kept.owner kept.shared from

    mine : Owns owner (of_table (suc place)) (pages_of tree)
    mine = takes_grow count d.space (suc place) kept.owner (pages_of t.tree) (pages_of tree) kept.shared from (kept.trees place t is) change.pages_are

    theirs : (m : ℕ) (u : FileTable) → (place ≡ m → ⊥) → slice_get d.tables m ≡ Some u → Owns owner (of_table (suc m)) (pages_of u.tree)
    theirs m u differ got = takes_stay count d.space (suc place) (suc m) kept.owner (pages_of u.tree) kept.shared from (place_apart place m differ) (kept.trees m u got)

    low_page : (page : ℕ) → 1 ≤ page → page < 16 → (is_page 0 page || is_among page (pages_of tree)) ≡ false
    low_page page some low = neither (is_page 0 page) (is_among page (pages_of tree)) (far_from_zero page some) (not_among page (pages_of tree) (nobody_none owner (suc place) (pages_of tree) page mine (shared.first page low)))

    defs_same : map def_of (slice_set d.tables place now) ≡ map def_of d.tables
    defs_same = map_set_same def_of d.tables place t now is refl

    here : IsFileTable pages new (suc place) now
    here = record { number_is = (kept.each place t is).number_is; tree = change.is_tree; rows = change.rows_are; each = change.spelled }

    elsewhere : (m : ℕ) (u : FileTable) → (place ≡ m → ⊥) → slice_get d.tables m ≡ Some u → IsFileTable pages new (suc m) u
    elsewhere m u differ got =
        let was = kept.each m u got in
        let own = theirs m u differ got in
        record {
          number_is = was.number_is;
          tree = tree_same (λ page. is_page 0 page || is_among page (pages_of tree)) pages old new (suc m) u.def.root.0 u.tree change.others
              (all_of (λ page. (is_page 0 page || is_among page (pages_of tree)) ≡ false) (pages_of u.tree)
              (λ page some. neither (is_page 0 page) (is_among page (pages_of tree)) (far_from_zero page (not_low owner (suc m) page (pages_of u.tree) own shared.first some))
              (not_among page (pages_of tree) (apart owner (of_table (suc m)) (of_table (suc place)) (pages_of u.tree) (pages_of tree) page (tables_differ (suc m) (suc place) (λ same. place_apart place m differ (sym same))) own mine some)))) was.tree;
          rows = was.rows;
          each = was.each;
        }

-- ---- old rows where one row of a table is exchanged

-- a row of that key goes on to stand in a slot that is no smaller
abbrev pub GoesOn : List FileRow → List FileRow → ℤ → Type 0
GoesOn old new key = (row : FileRow) → found row_key key old ≡ Some row → (later : FileRow) × (found row_key key new ≡ Some later) × (slot_of row.stored ≤ slot_of later.stored)

image_goes_on : (tables : List FileTable) (place : ℕ) (t now : FileTable) (i : FileImage) → slice_get tables place ≡ Some t → now.def ≡ t.def
    → (place ≡ pred i.image.table → GoesOn t.rows now.rows i.image.key) → IsFileImage tables i → IsFileImage (slice_set tables place now) i
image_goes_on tables place t now i is same on old = by (place == pred i.image.table) refl
  where
    some_same : (a b : FileTable) → Some a ≡ Some b → a ≡ b
    some_same a b h = cc

    not_same : (a b : ℕ) → (a == b) ≡ false → a ≡ b → ⊥
    not_same a b apart h = let at : (a == b) ≡ true = grind (arith, h) in let bad : true ≡ false = sym at ∙ apart in cc

    by : (b : Bool) → (place == pred i.image.table) ≡ b → IsFileImage (slice_set tables place now) i
    by true at =
        let here : place ≡ pred i.image.table = grind (arith, at) in
        let table : t ≡ old.table = some_same t old.table (sym is ∙ ap (slice_get tables) here ∙ old.is_there) in
        let stands : found row_key i.image.key t.rows ≡ Some old.row = ap (λ (u : FileTable). found row_key i.image.key u.rows) table ∙ old.stands in
        let next = on here old.row stands in
        record {
          from = old.from;
          table = now;
          is_there = ap (slice_get (slice_set tables place now)) (sym here) ∙ get_set tables place t now is;
          row = next.0;
          stands = next.1;
          held = let held = old.held in let more = next.2 in omega (arith, held, more);
          means = subst (λ (def : TableDef). IsOldRow def.schema i.image i.row) (sym (same ∙ ap def_of table)) old.means;
        }
    by false apart =
        record {
          from = old.from;
          table = old.table;
          is_there = get_other tables place (pred i.image.table) now (not_same place (pred i.image.table) apart) ∙ old.is_there;
          row = old.row;
          stands = old.stands;
          held = old.held;
          means = old.means;
        }

-- a row is written where one with no greater slot stood, or none
pub written_on : (key : ℤ) (row : FileRow) (rows : List FileRow) (k : ℤ) → row.stored.key ≡ key → RisesBy row_key rows
    → ((r : FileRow) → found row_key key rows ≡ Some r → slot_of r.stored ≤ slot_of row.stored) → GoesOn rows (placed row_key key (Some row) rows) k
written_on key row rows k at rises slot r is = by (int_eq k key) refl
  where
    now : found row_key k (placed row_key key (Some row) rows) ≡ (if int_eq k key then Some row else found row_key k rows)
    now = found_placed row_key k key (Some row) rows at rises

    by : (b : Bool) → int_eq k key ≡ b → (later : FileRow) × (found row_key k (placed row_key key (Some row) rows) ≡ Some later) × (slot_of r.stored ≤ slot_of later.stored)
    by true same =
        let here : found row_key key rows ≡ Some r = ap (λ (j : ℤ). found row_key j rows) (sym (same_key k key same)) ∙ is in
        (row, now ∙ ap (λ (b : Bool). if b then Some row else found row_key k rows) same, slot r here)
    by false apart = (r, now ∙ ap (λ (b : Bool). if b then Some row else found row_key k rows) apart ∙ is, omega arith)

pub dropped_on : (key : ℤ) (rows : List FileRow) (k : ℤ) → int_eq k key ≡ false → RisesBy row_key rows → GoesOn rows (placed row_key key None rows) k
dropped_on key rows k apart rises r is = (r, found_placed row_key k key None rows tt rises ∙ ap (λ (b : Bool). if b then None else found row_key k rows) apart ∙ is, omega arith)

pub images_written : (tables : List FileTable) (place : ℕ) (t : FileTable) (tree : Tree) (key : ℤ) (row : FileRow) (images : List FileImage) → slice_get tables place ≡ Some t → row.stored.key ≡ key → RisesBy row_key t.rows
    → ((r : FileRow) → found row_key key t.rows ≡ Some r → slot_of r.stored ≤ slot_of row.stored)
    → AllByRecursion (IsFileImage tables) images → AllByRecursion (IsFileImage (slice_set tables place (record { def = t.def; tree = tree; rows = placed row_key key (Some row) t.rows }))) images
images_written tables place t tree key row [] is at rises slot all = tt
images_written tables place t tree key row (i ∷ images) is at rises slot all = (
  image_goes_on tables place t (record { def = t.def; tree = tree; rows = placed row_key key (Some row) t.rows }) i is refl (λ here. written_on key row t.rows i.image.key at rises slot) all.0,
  images_written tables place t tree key row images is at rises slot all.1,
)

pub images_dropped : (tables : List FileTable) (place : ℕ) (t : FileTable) (tree : Tree) (key : ℤ) (images : List FileImage) → slice_get tables place ≡ Some t → RisesBy row_key t.rows → list_any (names place key) images ≡ false
    → AllByRecursion (IsFileImage tables) images → AllByRecursion (IsFileImage (slice_set tables place (record { def = t.def; tree = tree; rows = placed row_key key None t.rows }))) images
images_dropped tables place t tree key [] is rises none all = tt
images_dropped tables place t tree key (i ∷ images) is rises none all = (
  image_goes_on tables place t (record { def = t.def; tree = tree; rows = placed row_key key None t.rows }) i is refl (λ here. dropped_on key t.rows i.image.key (other_key here) rises) all.0,
  images_dropped tables place t tree key images is rises (second (names place key i) (list_any (names place key) images) none) all.1,
)
  where
    first : (a b : Bool) → (a || b) ≡ false → a ≡ false
    first true b is = is
    first false b is = refl

    second : (a b : Bool) → (a || b) ≡ false → b ≡ false
    second true b is = let bad : true ≡ false = is in cc
    second false b is = is

    number : (n m : ℕ) → 1 ≤ m → n ≡ pred m → (m == suc n) ≡ true
    number n zero some same = absurd (omega (arith, some))
    number n (suc m) some same = let at : m ≡ n = sym same in grind (arith, at)

    both : (a b : Bool) → (a && b) ≡ false → a ≡ true → b ≡ false
    both true b is at = is
    both false b is at = let bad : false ≡ true = at in cc

    other_key : place ≡ pred i.image.table → int_eq i.image.key key ≡ false
    other_key here = both (i.image.table == suc place) (int_eq i.image.key key) (first (names place key i) (list_any (names place key) images) none) (number place i.image.table all.0.from here)

-- what stood at the key is an old row of the table
pub image_noted : (tables : List FileTable) (place : ℕ) (t : FileTable) (tree : Tree) (key : ℤ) (row : FileRow) → slice_get tables place ≡ Some t → row.stored.key ≡ key → RisesBy row_key t.rows → AllByRecursion (IsFileRow t.def.schema) t.rows
    → ((r : FileRow) → found row_key key t.rows ≡ Some r → slot_of r.stored ≤ slot_of row.stored)
    → IsFileImage (slice_set tables place (record { def = t.def; tree = tree; rows = placed row_key key (Some row) t.rows })) (image_of place key (found row_key key t.rows))
image_noted tables place t tree key row is at rises each slot = by (found row_key key t.rows) refl
  where
    now : FileTable
    now = record { def = t.def; tree = tree; rows = placed row_key key (Some row) t.rows }

    stands : found row_key key (placed row_key key (Some row) t.rows) ≡ Some row
    stands = found_placed row_key key key (Some row) t.rows at rises ∙ ap (λ (b : Bool). if b then Some row else found row_key key t.rows) (key_is key key refl)

    there : slice_get (slice_set tables place now) place ≡ Some now
    there = get_set tables place t now is

    kind_from : (r : FileRow) → 1 ≤ kind_of r
    kind_from r = go r.stored.marked
      where
        go : (b : Bool) → 1 ≤ (if b then 2 else 1)
        go true = omega arith
        go false = omega arith

    kind_to : (r : FileRow) → kind_of r ≤ marked_kind
    kind_to r = go r.stored.marked
      where
        go : (b : Bool) → (if b then 2 else 1) ≤ 2
        go true = omega arith
        go false = omega arith

    by : (o : Option FileRow) → found row_key key t.rows ≡ o → IsFileImage (slice_set tables place now) (image_of place key o)
    by None none = record { from = omega arith; table = now; is_there = there; row = row; stands = stands; held = omega arith; means = (refl, refl) }
    by (Some r) got =
        let less = slot r got in
        record {
          from = omega arith;
          table = now;
          is_there = there;
          row = row;
          stands = stands;
          held = omega (arith, less);
          means = (kind_from r, kind_to r, subst (λ (k : ℤ). IsSpelling t.def.schema k r.stored.row r.row) (found_key row_key key t.rows r got) (found_each row_key (IsFileRow t.def.schema) key t.rows r each got));
        }
