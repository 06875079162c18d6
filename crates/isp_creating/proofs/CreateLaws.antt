-- A kept file with one table more is kept.
use Rattle.std.proofs.Common.{◌≡◌, ℕ, zero, suc, pred, ◌+◌, ◌<◌, ◌≤◌, ◌==◌, Bool, true, false, ◌||◌, List, [], ◌∷◌, ◌++◌, length, map, Option, Some, None, refl, sym, ◌∙◌, ap, subst, arith, if◌then◌else◌}
use Rattle.std.specs.Prelude.{◌≢◌, slice_get, slice_set}
use Rattle.std.specs.List.{AllByRecursion}
use Rattle.std.proofs.lemmas.List.{length-append, map-append}
use Rattle.isp_base.specs.Lists.{times}
use Rattle.isp_format.specs.Definition.{definition_page}
use Rattle.isp_format.specs.Ranges.{Contents}
use Rattle.isp_page.specs.Touched.{KeepsPages, is_page}
use Rattle.isp_plain.specs.Tables.{Table}
use Rattle.isp_changes.specs.Changes.{RowChange, after_change, after_changes, changed_table, with_changed}
use Rattle.isp_changes.specs.Stages.{with_empty}
use Rattle.isp_catalog.specs.Catalogue.{HasTables, IsNext, counted}
use Rattle.isp_catalog.specs.declared.table.TableDef.{TableDef}
use Rattle.isp_catalog.proofs.CatalogueLaws.{local}
use Rattle.isp_space.specs.Spaces.{Space, taken}
use Rattle.isp_clustered.specs.Calls.{IsCreated}
use Rattle.isp_clustered.specs.Trees.{IsTree, one_leaf, pages_of}
use Rattle.isp_clustered.proofs.TreeLaws.{tree_same}
use Rattle.isp_image.specs.Databases.{Database, FileImage, FileTable, back_of, put_back, table_of, tables_of}
use Rattle.isp_image.specs.Files.{IsFileImage, IsFileTable, KeptFile, Owner, Owns, OwnsSpace, is_known, is_owner, of_slot, of_table}
use Rattle.isp_image.proofs.FileLaws.{def_of}
use Rattle.isp_image.proofs.ListLaws.{all_of, get_below}
use Rattle.isp_image.proofs.OwnerLaws.{after_takes, has_owner, known_more, next_from, next_owner, nobody_none, not_owned, table_known, table_none, takes_grow, takes_known, takes_shared, takes_stay}
use Rattle.isp_undo.specs.Chains.{Chain}
use Rattle.isp_chained.specs.Chained.{ChainedFile}
use Rattle.isp_chained.specs.Courses.{adds}
use Rattle.isp_chained.proofs.HoldLaws.{kept_chained, slot_somebody}
use Rattle.isp_chained.proofs.OwnerLaws.{slot_table, slots_stay}
use Rattle.isp_creating.specs.Creating.{CanCreate, Created, definitions}

-- ---- one table behind the others

module _ {X : Type 0} where
  some_is : (x y : X) → Some x ≡ Some y → x ≡ y
  some_is x y is = cc

  none_some : (x : X) → None ≡ Some x → ⊥
  none_some x is = cc

  get_front : (xs ys : List X) (n : ℕ) (x : X) → slice_get xs n ≡ Some x → slice_get (xs ++ ys) n ≡ Some x
  get_front [] ys n x is = absurd (none_some x is)
  get_front (z ∷ xs) ys zero x is = is
  get_front (z ∷ xs) ys (suc n) x is = get_front xs ys n x is

  set_front : (xs ys : List X) (n : ℕ) (x y : X) → slice_get xs n ≡ Some x → slice_set (xs ++ ys) n y ≡ slice_set xs n y ++ ys
  set_front [] ys n x y is = absurd (none_some x is)
  set_front (z ∷ xs) ys zero x y is = refl
  set_front (z ∷ xs) ys (suc n) x y is = λ i. z ∷ set_front xs ys n x y is i

  -- what stands there stood there before, or is the last one
  pub each_behind : (P : ℕ → X → Type 0) (xs : List X) (last : X) → ((n : ℕ) (x : X) → slice_get xs n ≡ Some x → P n x) → P (length xs) last → (n : ℕ) (x : X) → slice_get (xs ++ last ∷ []) n ≡ Some x → P n x
  each_behind P [] last each here zero x is = subst (P 0) (some_is last x is) here
  each_behind P [] last each here (suc n) x is = absurd (none_some x is)
  each_behind P (y ∷ xs) last each here zero x is = each 0 x is
  each_behind P (y ∷ xs) last each here (suc n) x is = each_behind (λ m z. P (suc m) z) xs last (λ m z there. each (suc m) z there) here n x is

  get_some : (xs : List X) (n : ℕ) → n < length xs → (x : X) × (slice_get xs n ≡ Some x)
  get_some [] n below = absurd (omega (arith, below))
  get_some (x ∷ xs) zero below = (x, refl)
  get_some (x ∷ xs) (suc n) below = get_some xs n (omega (arith, below))

  set_length : (xs : List X) (n : ℕ) (x : X) → length (slice_set xs n x) ≡ length xs
  set_length [] n x = refl
  set_length (y ∷ xs) zero x = refl
  set_length (y ∷ xs) (suc n) x = ap suc (set_length xs n x)

-- ---- the committed tables

abbrev OfThese : ℕ → RowChange → Type 0
OfThese count change = change.table < count

change_length : (tables : List Table) (change : RowChange) → length (after_change tables change) ≡ length tables
change_length tables change = by (slice_get tables change.table)
  where
    by : (o : Option Table) → length (with_changed tables change o) ≡ length tables
    by None = refl
    by (Some table) = set_length tables change.table (changed_table change table)

change_front : (tables more : List Table) (change : RowChange) → OfThese (length tables) change → after_change (tables ++ more) change ≡ after_change tables change ++ more
change_front tables more change below =
    let table = get_some tables change.table below in
    ap (with_changed (tables ++ more) change) (get_front tables more change.table table.0 table.1)
    ∙ set_front tables more change.table table.0 (changed_table change table.0) table.1
    ∙ sym (ap (λ (o : Option Table). with_changed tables change o ++ more) table.1)

changes_front : (changes : List RowChange) (tables more : List Table) → AllByRecursion (OfThese (length tables)) changes → after_changes (tables ++ more) changes ≡ after_changes tables changes ++ more
changes_front [] tables more all = refl
changes_front (change ∷ changes) tables more all =
    ap (λ (ts : List Table). after_changes ts changes) (change_front tables more change all.0)
    ∙ changes_front changes (after_change tables change) more (subst (λ (n : ℕ). AllByRecursion (OfThese n) changes) (sym (change_length tables change)) all.1)

map_length : (tables : List FileTable) → length (map table_of tables) ≡ length tables
map_length [] = refl
map_length (t ∷ tables) = ap suc (map_length tables)

backs_below : (tables : List FileTable) (images : List FileImage) → AllByRecursion (IsFileImage tables) images → AllByRecursion (OfThese (length (map table_of tables))) (map back_of images)
backs_below tables [] all = tt
backs_below tables (i ∷ images) all =
    let below = get_below tables (pred i.image.table) all.0.table all.0.is_there in
    let long = map_length tables in
    (omega (arith, below, long), backs_below tables images all.1)

-- ---- old rows, with a table more

image_stays : (tables : List FileTable) (last : FileTable) (i : FileImage) → IsFileImage tables i → IsFileImage (tables ++ last ∷ []) i
image_stays tables last i is = record {
  from = is.from;
  table = is.table;
  is_there = get_front tables (last ∷ []) (pred i.image.table) is.table is.is_there;
  row = is.row;
  stands = is.stands;
  held = is.held;
  means = is.means;
}

images_stay : (tables : List FileTable) (last : FileTable) (images : List FileImage) → AllByRecursion (IsFileImage tables) images → AllByRecursion (IsFileImage (tables ++ last ∷ [])) images
images_stay tables last [] all = tt
images_stay tables last (i ∷ images) all = (image_stays tables last i all.0, images_stay tables last images all.1)

-- ---- the contents

neither : (a b : Bool) → a ≡ false → b ≡ false → (a || b) ≡ false
neither a b one other = ap (λ (x : Bool). x || b) one ∙ other

page_apart : (q page : ℕ) → (page ≡ q → ⊥) → is_page q page ≡ false
page_apart q page differ = by (page == q) refl
  where
    by : (b : Bool) → (page == q) ≡ b → b ≡ false
    by true same = absurd (differ (let is : page ≡ q = grind (arith, same) in is))
    by false same = refl

low_page : (number : ℕ) → number ≤ 64 → definition_page number < 16
low_page number few = omega (arith, few)

low_from : (number : ℕ) → 2 ≤ definition_page number
low_from number = omega arith

suc_apart : (a b : ℕ) → a < b → suc b ≢ suc a
suc_apart a b less same = let no_way : ⊥ = omega (arith, less, same) in no_way

module _ (pages : ℕ) (old mid new : Contents) (chains : List Chain) (d : Database) (def : TableDef) (can : CanCreate pages old chains def.number def.name d) (few : def.number ≤ 64)
    (planted : IsCreated pages old mid def.number d.space def.root.0) (has : HasTables pages new (counted (taken d.space)) (definitions d ++ def ∷ []))
    (writes : KeepsPages (λ q. is_page 0 q || is_page (definition_page def.number) q) mid new) where
  abbrev pub kept : KeptFile pages old d
  kept = can.kept.holds.kept

  fresh_from : 16 ≤ d.space.fresh
  fresh_from = kept.catalogue.space_is.fresh_from

  pub root_from : 16 ≤ def.root.0
  root_from =
      let next = next_from kept.owner d.space.free d.space.fresh kept.shared.free kept.shared.first fresh_from in
      let is = planted.is_next in omega (arith, next, is)

  abbrev pub count : ℕ
  count = length d.tables

  number_is : suc count ≡ def.number
  number_is = let next = can.next in omega (arith, next)

  -- all pages but these three
  keeps : KeepsPages (λ q. is_page 0 q || (is_page def.root.0 q || is_page (definition_page def.number) q)) old new
  keeps page out =
      let zero_out = first (is_page 0 page) (is_page def.root.0 page || is_page (definition_page def.number) page) out in
      let others_out = second (is_page 0 page) (is_page def.root.0 page || is_page (definition_page def.number) page) out in
      writes page (neither (is_page 0 page) (is_page (definition_page def.number) page) zero_out (second (is_page def.root.0 page) (is_page (definition_page def.number) page) others_out))
      ∙ planted.others page (neither (is_page 0 page) (is_page def.root.0 page) zero_out (first (is_page def.root.0 page) (is_page (definition_page def.number) page) others_out))
    where
      first : (a b : Bool) → (a || b) ≡ false → a ≡ false
      first true b out = out
      first false b out = refl

      second : (a b : Bool) → (a || b) ≡ false → b ≡ false
      second true b out = let bad : true ≡ false = out in absurd (let no_way : ⊥ = cc in no_way)
      second false b out = out

  abbrev pub table : FileTable
  table = record { def = def; tree = one_leaf def.root.0 []; rows = [] }

  abbrev pub after : Database
  after = record { space = counted (taken d.space); tables = d.tables ++ table ∷ []; images = d.images }

  -- ---- owners

  abbrev pub owner : ℕ → Owner
  owner = after_takes 1 d.space (suc count) kept.owner

  shared : OwnsSpace owner (taken d.space)
  shared = takes_shared 1 d.space (suc count) kept.owner kept.shared fresh_from

  mine : Owns owner (of_table (suc count)) (def.root.0 ∷ [])
  mine = takes_grow 1 d.space (suc count) kept.owner [] (def.root.0 ∷ []) kept.shared fresh_from (table_none count (suc count) kept.owner (omega arith) kept.known)
      (λ page. let is = ap (λ (root : ℕ). times page (root ∷ [])) planted.is_next in omega (arith, is))

  theirs : (m : ℕ) (u : FileTable) → slice_get d.tables m ≡ Some u → Owns owner (of_table (suc m)) (pages_of u.tree)
  theirs m u got = takes_stay 1 d.space (suc count) (suc m) kept.owner (pages_of u.tree) kept.shared fresh_from (suc_apart m count (get_below d.tables m u got)) (kept.trees m u got)

  count_after : length (d.tables ++ table ∷ []) ≡ suc count
  count_after = let long = length-append d.tables (table ∷ []) in omega (arith, long)

  known : (page : ℕ) → is_known (length (d.tables ++ table ∷ [])) (owner page) ≡ true
  known page = ap (λ (n : ℕ). is_known n (owner page)) count_after
      ∙ takes_known 1 d.space (suc count) (suc count) kept.owner (table_known count (suc count) (omega arith)) (λ p. known_more count (kept.owner p) (kept.known p)) page

  -- ---- trees

  -- a page of another table's tree is none of the three
  out_of : (m : ℕ) (u : FileTable) → slice_get d.tables m ≡ Some u → (page : ℕ) → 1 ≤ times page (pages_of u.tree) → (is_page 0 page || (is_page def.root.0 page || is_page (definition_page def.number) page)) ≡ false
  out_of m u got page some =
      neither (is_page 0 page) (is_page def.root.0 page || is_page (definition_page def.number) page) (page_apart 0 page (λ is. low page some (omega (arith, is))))
      (neither (is_page def.root.0 page) (is_page (definition_page def.number) page) (page_apart def.root.0 page (λ is. taken_root is)) (page_apart (definition_page def.number) page (λ is. let below = low_page def.number few in low page some (omega (arith, is, below)))))
    where
      own : Owns kept.owner (of_table (suc m)) (pages_of u.tree)
      own = kept.trees m u got

      low : (p : ℕ) → 1 ≤ times p (pages_of u.tree) → p < 16 → ⊥
      low p there below = let none = nobody_none kept.owner (suc m) (pages_of u.tree) p own (kept.shared.first p below) in let no_way : ⊥ = omega (arith, there, none) in no_way

      taken_root : page ≡ def.root.0 → ⊥
      taken_root is =
          let has_it = has_owner kept.owner (of_table (suc m)) (pages_of u.tree) page own some in
          let none : is_owner (of_table (suc m)) (kept.owner page) ≡ false =
          ap (λ (p : ℕ). is_owner (of_table (suc m)) (kept.owner p)) (is ∙ planted.is_next) ∙ next_owner kept.owner d.space.free d.space.fresh (suc m) kept.shared.free kept.shared.never in
          let bad : true ≡ false = sym has_it ∙ none in let no_way : ⊥ = cc in no_way

  stays : (m : ℕ) (u : FileTable) → slice_get d.tables m ≡ Some u → IsFileTable pages new (suc m) u
  stays m u got =
      let was = kept.each m u got in
      record {
        number_is = was.number_is;
        tree = tree_same (λ q. is_page 0 q || (is_page def.root.0 q || is_page (definition_page def.number) q)) pages old new (suc m) u.def.root.0 u.tree keeps
            (all_of (λ page. (is_page 0 page || (is_page def.root.0 page || is_page (definition_page def.number) page)) ≡ false) (pages_of u.tree) (λ page some. out_of m u got page some)) was.tree;
        rows = was.rows;
        each = was.each;
      }

  root_out : (is_page 0 def.root.0 || is_page (definition_page def.number) def.root.0) ≡ false
  root_out =
      let from = root_from in
      let below = low_page def.number few in
      neither (is_page 0 def.root.0) (is_page (definition_page def.number) def.root.0) (page_apart 0 def.root.0 (λ is. omega (arith, is, from))) (page_apart (definition_page def.number) def.root.0 (λ is. omega (arith, is, from, below)))

  tree_new : IsTree pages new (suc count) def.root.0 (one_leaf def.root.0 [])
  tree_new =
      subst (λ (n : ℕ). IsTree pages new n def.root.0 (one_leaf def.root.0 [])) (sym number_is)
      (tree_same (λ q. is_page 0 q || is_page (definition_page def.number) q) pages mid new def.number def.root.0 (one_leaf def.root.0 []) writes
      (all_of (λ page. (is_page 0 page || is_page (definition_page def.number) page) ≡ false) (def.root.0 ∷ []) (λ page some. one_only page (page == def.root.0) refl some)) planted.is_tree)
    where
      one_only : (page : ℕ) (b : Bool) → (page == def.root.0) ≡ b → 1 ≤ times page (def.root.0 ∷ []) → (is_page 0 page || is_page (definition_page def.number) page) ≡ false
      one_only page true same some = let is : page ≡ def.root.0 = grind (arith, same) in ap (λ (p : ℕ). is_page 0 p || is_page (definition_page def.number) p) is ∙ root_out
      one_only page false same some = let turned : (def.root.0 == page) ≡ false = grind (arith, same) in let none : times page (def.root.0 ∷ []) ≡ 0 = ap (λ (b : Bool). (if b then 1 else 0) + 0) turned in absurd (omega (arith, some, none))

  here : IsFileTable pages new (suc count) table
  here = record { number_is = sym number_is; tree = tree_new; rows = refl; each = tt }

  defs_after : map def_of (d.tables ++ table ∷ []) ≡ definitions d ++ def ∷ []
  defs_after = map-append def_of d.tables (table ∷ [])

  abbrev kept_after : KeptFile pages new after
  kept_after = record {
    catalogue = subst (λ (defs : List TableDef). HasTables pages new (counted (taken d.space)) defs) (sym defs_after) has;
    each = each_behind (λ n u. IsFileTable pages new (suc n) u) d.tables table (λ m u got. stays m u got) here;
    noted = images_stay d.tables table d.images kept.noted;
    owner = owner;
    shared = record { free = shared.free; first = shared.first; used = shared.used; never = shared.never };
    trees = each_behind (λ n (u : FileTable). Owns owner (of_table (suc n)) (pages_of u.tree)) d.tables table (λ m u got. theirs m u got) mine;
    known = known;
  }

  -- ---- chains

  directory_out : (is_page 0 1 || (is_page def.root.0 1 || is_page (definition_page def.number) 1)) ≡ false
  directory_out =
      let from = root_from in
      let low = low_from def.number in
      neither (is_page 0 1) (is_page def.root.0 1 || is_page (definition_page def.number) 1) refl
      (neither (is_page def.root.0 1) (is_page (definition_page def.number) 1) (page_apart def.root.0 1 (λ is. omega (arith, is, from))) (page_apart (definition_page def.number) 1 (λ is. omega (arith, is, low))))

  -- a page of a chain is none of the three
  slot_out : (slot page : ℕ) → is_owner (of_slot slot) (owner page) ≡ true → (is_page 0 page || (is_page def.root.0 page || is_page (definition_page def.number) page)) ≡ false
  slot_out slot page has =
      neither (is_page 0 page) (is_page def.root.0 page || is_page (definition_page def.number) page) (page_apart 0 page (λ is. low (omega (arith, is))))
      (neither (is_page def.root.0 page) (is_page (definition_page def.number) page) (page_apart def.root.0 page (λ is. taken_root is)) (page_apart (definition_page def.number) page (λ is. let below = low_page def.number few in low (omega (arith, is, below)))))
    where
      low : page < 16 → ⊥
      low below = slot_somebody owner slot page has (shared.first page below)

      taken_root : page ≡ def.root.0 → ⊥
      taken_root is =
          let none = not_owned owner (of_table (suc count)) (def.root.0 ∷ []) page mine (slot_table slot (suc count) (owner page) has) in
          let same : (def.root.0 == page) ≡ true = grind (arith, is) in
          let one : times page (def.root.0 ∷ []) ≡ 1 = ap (λ (b : Bool). (if b then 1 else 0) + 0) same in
          let no_way : ⊥ = omega (arith, none, one) in no_way

  chained_after : ChainedFile pages new after chains
  chained_after = kept_chained pages old new d after chains can.kept kept_after refl (keeps 1 directory_out) (λ slot page has. keeps page (slot_out slot page has))
      (λ slot xs had. slots_stay 1 d.space (suc count) slot kept.owner xs kept.shared fresh_from had)

  now : tables_of after ≡ with_empty (tables_of d) def.name def.schema
  now = map-append table_of d.tables (table ∷ [])

  pub created : Created pages new chains def d
  created = record {
    after = after;
    kept = chained_after;
    table = table;
    def_is = refl;
    empty = refl;
    tables = refl;
    images = refl;
    now = now;
    same = ap (put_back d.images) now ∙ changes_front (map back_of d.images) (tables_of d) (record { name = def.name; schema = def.schema; rows = [] } ∷ []) (backs_below d.tables d.images kept.noted);
    step = adds table (record { empty = refl; tables = refl; images = refl; space = refl });
  }

-- ---- between the two calls

-- the definitions stand once the tree was made
pub tables_between : (pages : ℕ) (old mid : Contents) (d : Database) (number root : ℕ) → KeptFile pages old d → IsCreated pages old mid number d.space root → HasTables pages mid (taken d.space) (definitions d)
tables_between pages old mid d number root kept planted = record {
  space_is = planted.is_space;
  count = kept.catalogue.count;
  catalogue = local pages old mid (definitions d) (λ page from to. planted.others page (neither (is_page 0 page) (is_page root page) (page_apart 0 page (λ is. omega (arith, is, from))) (page_apart root page (λ is. omega (arith, is, to, root_high))))) kept.catalogue.catalogue;
}
  where
    root_high : 16 ≤ root
    root_high =
        let next = next_from kept.owner d.space.free d.space.fresh kept.shared.free kept.shared.first kept.catalogue.space_is.fresh_from in
        let is = planted.is_next in omega (arith, next, is)

-- ---- the two calls

length_map : (tables : List FileTable) → length (map def_of tables) ≡ length tables
length_map [] = refl
length_map (t ∷ tables) = ap suc (length_map tables)

pub is_next : (pages : ℕ) (old : Contents) (chains : List Chain) (d : Database) (def : TableDef) → CanCreate pages old chains def.number def.name d → IsNext (definitions d) def
is_next pages old chains d def can = record {
  number = let next = can.next in let long = length_map d.tables in omega (arith, next, long);
  new = can.new;
}

-- the definitions and the space between them, in a store of that shape
pub tables_at : (pages pages_mid : ℕ) (old mid : Contents) (d : Database) (number root : ℕ) → pages_mid ≡ pages → KeptFile pages old d → IsCreated pages_mid old mid number d.space root → HasTables pages_mid mid (taken d.space) (definitions d)
tables_at pages pages_mid old mid d number root shape kept planted =
    subst (λ (n : ℕ). HasTables n mid (taken d.space) (definitions d)) (sym shape)
    (tables_between pages old mid d number root kept (subst (λ (n : ℕ). IsCreated n old mid number d.space root) shape planted))

pub created_by : (pages pages_mid pages_new : ℕ) (old mid new : Contents) (chains : List Chain) (d : Database) (def : TableDef) → pages_mid ≡ pages → pages_new ≡ pages → CanCreate pages old chains def.number def.name d → def.number ≤ 64
    → IsCreated pages_mid old mid def.number d.space def.root.0 → ((s : Space) (defs : List TableDef) → HasTables pages_mid mid s defs → IsNext defs def → HasTables pages_new new (counted s) (defs ++ def ∷ []))
    → KeepsPages (λ q. is_page 0 q || is_page (definition_page def.number) q) mid new → Created pages new chains def d
created_by pages pages_mid pages_new old mid new chains d def shape last can few planted added writes =
    created pages old mid new chains d def can few (subst (λ (n : ℕ). IsCreated n old mid def.number d.space def.root.0) shape planted)
    (subst (λ (n : ℕ). HasTables n new (counted (taken d.space)) (definitions d ++ def ∷ [])) last
    (added (taken d.space) (definitions d) (tables_at pages pages_mid old mid d def.number def.root.0 shape can.kept.holds.kept planted) (is_next pages old chains d def can)))
    writes

-- ---- contents that are the same

pub can_moved : (pages pages_now : ℕ) (old now : Contents) (chains : List Chain) (number : ℕ) (name : List ℕ) (d : Database) → pages_now ≡ pages → now ≡ old → CanCreate pages old chains number name d → CanCreate pages_now now chains number name d
can_moved pages pages_now old now chains number name d shape same can = subst (λ (n : ℕ). CanCreate n now chains number name d) (sym shape) (subst (λ (c : Contents). CanCreate pages c chains number name d) (sym same) can)

pub created_moved : (pages pages_now : ℕ) (new : Contents) (chains : List Chain) (def : TableDef) (d : Database) → pages_now ≡ pages → Created pages_now new chains def d → Created pages new chains def d
created_moved pages pages_now new chains def d shape is = subst (λ (n : ℕ). Created n new chains def d) shape is
