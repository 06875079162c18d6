-- The newest old row of a slot that is put back in a file with chains, and noted no more.
use Rattle.std.proofs.Common.{◌≡◌, ℕ, zero, suc, pred, ◌≤◌, ◌==◌, ℤ, Bool, true, false, List, [], ◌∷◌, ◌++◌, length, map, reverse, Option, Some, None, refl, sym, ◌∙◌, ap, subst, arith, if◌then◌else◌}
use Rattle.std.specs.Prelude.{Result, Ok, Err, OnOk, nat_le, slice_get}
use Rattle.std.specs.List.{AllByRecursion, list_any}
use Rattle.std.specs.Option.{option_map}
use Rattle.std.proofs.lemmas.Bool.Decides.{nat_tests}
use Rattle.std.proofs.lemmas.List.{length-append}
use Rattle.isp_format.specs.Leaf.{Stored, slot_of}
use Rattle.isp_format.specs.Ranges.{Contents}
use Rattle.isp_format.specs.Undo.{OldImage, absent_kind, marked_kind}
use Rattle.isp_plain.specs.declared.value.Row.{Row}
use Rattle.isp_changes.specs.Changes.{after_change}
use Rattle.isp_space.specs.Giving.{with_chain}
use Rattle.isp_space.specs.Spaces.{Space}
use Rattle.isp_clustered.specs.Rows.{exchanged, find, marked_at, rewritten, slot_holds, stands, with_mark, with_row}
use Rattle.isp_clustered.specs.Trees.{IsEdited, IsTree, Tree, has, holds, on_leaves}
use Rattle.isp_clustered.proofs.TreeLaws.{marks_at, written_at}
use Rattle.isp_levels.specs.Edits.{ChangesAt}
use Rattle.isp_undo.specs.Calls.{CanPop, HasStack, Restacks}
use Rattle.isp_undo.specs.Chains.{Chain, HasChain, ends_of, gone, images_of, newest_in, newest_of, popped}
use Rattle.isp_image.specs.Courses.{ChangesOnly, change_at}
use Rattle.isp_image.specs.Databases.{Database, FileImage, FileRow, FileTable, back_of, row_key, tables_of}
use Rattle.isp_image.specs.Files.{IsFileImage, IsFileRow, IsOldRow, IsSpelling, KeptFile}
use Rattle.isp_image.specs.Keyed.{found, placed}
use Rattle.isp_image.proofs.FileLaws.{Regrown, stored_of, with_table}
use Rattle.isp_image.proofs.KeyedLaws.{each_placed, found_each, found_key}
use Rattle.isp_image.proofs.StepLaws.{exchanged_only}
use Rattle.isp_image.proofs.StoredLaws.{exchanged_rows, find_row}
use Rattle.isp_image.proofs.TreeChanges.{edited_regrown}
use Rattle.isp_chained.specs.Chained.{ChainedFile, Holds}
use Rattle.isp_chained.specs.Courses.{undoes}
use Rattle.isp_chained.specs.Laws.{newer_of, older_of}
use Rattle.isp_chained.specs.Steps.{AreApart, AreDisjoint, IsFreeIn, are_of_one}
use Rattle.isp_chained.proofs.DatabaseLaws.{exchanged_now, undone_committed}
use Rattle.isp_chained.proofs.HoldLaws.{regrown_holds, table_now}
use Rattle.isp_chained.proofs.SlotLaws.{stack_of}
use Rattle.isp_chained.proofs.WrittenLaws.{NewestOf, newest_among, slot_newest, undone_file}
use Rattle.isp_trx.specs.Backs.{CanTake, PutsBack, Takes, TakesAt, fits_in, put_in}
use Rattle.isp_trx.specs.Writes.{CanUndo, Undid, UndidIf, Undoes}
use Rattle.isp_trx.proofs.RowLaws.{found_in_tree, same_slot}

-- ---- the newest old row

none_image : (i : OldImage) → None ≡ Some i → ⊥
none_image i same = cc

some_image : (a b : OldImage) → Some a ≡ Some b → a ≡ b
some_image a b same = cc

-- the newest is the last one
pub newest_split : (images : List OldImage) (i : OldImage) → newest_in images ≡ Some i → (front : List OldImage) × (images ≡ front ++ i ∷ [])
newest_split [] i is = absurd (none_image i is)
newest_split (x ∷ []) i is = ([], ap (λ (z : OldImage). z ∷ []) (some_image x i is))
newest_split (x ∷ y ∷ rest) i is = let r = newest_split (y ∷ rest) i is in (x ∷ r.0, ap (λ (more : List OldImage). x ∷ more) r.1)

all_mid : {X : Type 0} (P : X → Type 0) (xs : List X) (x : X) (ys : List X) → AllByRecursion P (xs ++ x ∷ ys) → P x
all_mid P [] x ys all = all.0
all_mid P (z ∷ xs) x ys all = all_mid P xs x ys all.1

-- as an old row of the table
as_image : (tables : List FileTable) (i : FileImage) (o : OldImage) → i.image ≡ o → IsFileImage tables i → IsFileImage tables (record { image = o; row = i.row })
as_image tables i o same f =
    subst (λ (z : OldImage). IsFileImage tables (record { image = z; row = i.row })) same (record {
      from = f.from;
      table = f.table;
      is_there = f.is_there;
      row = f.row;
      stands = f.stands;
      held = f.held;
      means = f.means;
    })

some_after : (n : ℕ) → 1 ≤ n → n ≡ suc (pred n)
some_after zero some = absurd (omega (arith, some))
some_after (suc n) some = refl

module _ (pages : ℕ) (old : Contents) (chains : List Chain) (slot : ℕ) (chain : Chain) (image : OldImage) (d : Database) (kept : ChainedFile pages old d chains) (own : slice_get chains slot ≡ Some chain) (last : newest_of chain ≡ Some image) where
  abbrev pub front : List OldImage
  front = (newest_split (images_of chain) image last).0

  pub chain_is : images_of chain ≡ front ++ image ∷ []
  chain_is = (newest_split (images_of chain) image last).1

  pub newest : NewestOf d.images (newer_of slot chains) image (reverse front ++ older_of slot chains)
  newest = newest_among d.images (newer_of slot chains) image (reverse front ++ older_of slot chains) (kept.noted ∙ slot_newest chains slot chain front image own chain_is)

  pub file_image : IsFileImage d.tables (record { image = image; row = newest.image.row })
  file_image = as_image d.tables newest.image image newest.image_is (all_mid (IsFileImage d.tables) newest.front newest.image newest.rest (subst (λ (images : List FileImage). AllByRecursion (IsFileImage d.tables) images) newest.is kept.holds.kept.noted))

  -- no other slot names its key
  pub is_free : AreDisjoint chains → IsFreeIn image slot chains
  is_free disjoint other more differ got = all_mid (λ (i : OldImage). list_any (are_of_one i) (images_of more) ≡ false) front image [] (subst (λ (images : List OldImage). AreApart images (images_of more)) chain_is (disjoint slot other chain more differ own got))

-- ---- the tree with it put back

-- the row that stands at its key then, and the tree
pub record Middle (pages : ℕ) (old mid : Contents) (chains : List Chain) (slot : ℕ) (chain : Chain) (image : OldImage) (root : ℕ) (d : Database) (can : CanTake pages old chains slot chain image root d) : Type 0 where
  pub row : FileRow
  pub at : row.stored.key ≡ image.key
  pub slots : slot_of (file_image pages old chains slot chain image d can.kept can.own can.newest).row.stored ≤ slot_of row.stored
  pub back : back_of (record { image = image; row = (newest pages old chains slot chain image d can.kept can.own can.newest).image.row }) ≡ change_at (pred image.table) image.key (Some row)
  pub tree : Tree
  pub regrown : (let t = (file_image pages old chains slot chain image d can.kept can.own can.newest).table in Regrown pages old mid d (pred image.table) t tree (placed row_key image.key (Some row) t.rows) 0 d.space.bytes)

marked_rows : (key : ℤ) (rows : List FileRow) (x : FileRow) → found row_key key rows ≡ Some x → marked_at key (map stored_of rows) ≡ map stored_of (placed row_key key (Some (record { stored = with_mark x.stored; row = x.row })) rows)
marked_rows key rows x is =
    let one : find key (map stored_of rows) ≡ Some x.stored = find_row key rows ∙ ap (option_map stored_of) is in
    ap (λ (s : Option Stored). exchanged key (option_map with_mark s) (map stored_of rows)) one ∙ exchanged_rows key (Some (record { stored = with_mark x.stored; row = x.row })) rows

written_rows : (key : ℤ) (rows : List FileRow) (x : FileRow) (bytes : List ℕ) (marked : Bool) (row : Row) → found row_key key rows ≡ Some x
    → with_row key bytes marked (map stored_of rows) ≡ map stored_of (placed row_key key (Some (record { stored = rewritten bytes marked x.stored; row = row })) rows)
written_rows key rows x bytes marked row is =
    let one : find key (map stored_of rows) ≡ Some x.stored = find_row key rows ∙ ap (option_map stored_of) is in
    ap (λ (s : Option Stored). exchanged key (option_map (rewritten bytes marked) s) (map stored_of rows)) one ∙ exchanged_rows key (Some (record { stored = rewritten bytes marked x.stored; row = row })) rows

kinds : (kind : ℕ) (row : Row) → 1 ≤ kind → kind ≤ 2 → ◌≡◌ {A = Option Row} (if kind == 1 then Some row else None) (if kind == 2 then None else Some row)
kinds zero row from to = absurd (omega (arith, from))
kinds (suc zero) row from to = refl
kinds (suc (suc zero)) row from to = refl
kinds (suc (suc (suc kind))) row from to = absurd (omega (arith, to))

absent : (kind : ℕ) → (kind == absent_kind) ≡ true → kind ≡ 0
absent kind is = grind (arith, nat_tests, is)

not_absent : (kind : ℕ) → (kind == absent_kind) ≡ false → kind ≡ 0 → ⊥
not_absent kind is same = let at : (kind == absent_kind) ≡ true = grind (arith, nat_tests, same) in let bad : true ≡ false = sym at ∙ is in cc

module _ (pages : ℕ) (old mid : Contents) (chains : List Chain) (slot : ℕ) (chain : Chain) (image : OldImage) (root : ℕ) (d : Database) (can : CanTake pages old chains slot chain image root d) (put : PutsBack pages old root image mid) where
  abbrev n : NewestOf d.images (newer_of slot chains) image (reverse (front pages old chains slot chain image d can.kept can.own can.newest) ++ older_of slot chains)
  n = newest pages old chains slot chain image d can.kept can.own can.newest

  abbrev f : IsFileImage d.tables (record { image = image; row = n.image.row })
  f = file_image pages old chains slot chain image d can.kept can.own can.newest

  abbrev kept : KeptFile pages old d
  kept = can.kept.holds.kept

  abbrev place : ℕ
  place = pred image.table

  abbrev t : FileTable
  t = f.table

  abbrev x : FileRow
  x = f.row

  own : x.stored.key ≡ image.key
  own = found_key row_key image.key t.rows x f.stands

  edited : IsEdited pages old mid (suc place) t.def.root.0 t.tree (put_in image)
  edited =
      let same = can.root_is t f.is_there in
      subst (λ (r : ℕ). IsEdited pages old mid (suc place) r t.tree (put_in image)) (sym same) (put.makes (suc place) t.tree (subst (λ (r : ℕ). IsTree pages old (suc place) r t.tree) same (kept.each place t f.is_there).tree))

  grown : (r : FileRow) (change : List Stored → List Stored) → ChangesAt image.key change → IsFileRow t.def.schema r → change (map stored_of t.rows) ≡ map stored_of (placed row_key image.key (Some r) t.rows)
      → IsEdited pages old mid (suc place) t.def.root.0 t.tree change → Regrown pages old mid d place t (on_leaves change t.tree) (placed row_key image.key (Some r) t.rows) 0 d.space.bytes
  grown r change changes spells rows is =
      edited_regrown pages old mid d place t change (placed row_key image.key (Some r) t.rows) changes kept f.is_there is rows (each_placed row_key (IsFileRow t.def.schema) image.key (Some r) t.rows spells (kept.each place t f.is_there).each)

  -- where nothing stood
  put_none : (image.kind == absent_kind) ≡ true → Middle pages old mid chains slot chain image root d can
  put_none is =
      let r : FileRow = record { stored = with_mark x.stored; row = x.row } in
      let kind : image.kind ≡ 0 = absent image.kind is in
      let spells : IsFileRow t.def.schema r = found_each row_key (IsFileRow t.def.schema) image.key t.rows x (kept.each place t f.is_there).each f.stands in
      let here = subst (λ (b : Bool). IsEdited pages old mid (suc place) t.def.root.0 t.tree (if b then marked_at image.key else with_row image.key image.row (image.kind == marked_kind))) is edited in
      record {
        row = r;
        at = own;
        slots = omega arith;
        back = λ k. record { table = place; key = image.key; new = if kind k == 1 then n.image.row else None };
        tree = on_leaves (marked_at image.key) t.tree;
        regrown = grown r (marked_at image.key) (marks_at image.key) spells (marked_rows image.key t.rows x f.stands) here;
      }

  -- where a row stood
  put_row : (row : Row) → n.image.row ≡ Some row → (image.kind == absent_kind) ≡ false → 1 ≤ image.kind → image.kind ≤ marked_kind → IsSpelling t.def.schema image.key image.row row → Middle pages old mid chains slot chain image root d can
  put_row row had is from to spelled =
      let marked = image.kind == marked_kind in
      let r : FileRow = record { stored = rewritten image.row marked x.stored; row = row } in
      let slot_is = same_slot image.row marked x.stored f.held in
      let spells : IsFileRow t.def.schema r = subst (λ (k : ℤ). IsSpelling t.def.schema k image.row row) (sym own) spelled in
      let here = subst (λ (b : Bool). IsEdited pages old mid (suc place) t.def.root.0 t.tree (if b then marked_at image.key else with_row image.key image.row (image.kind == marked_kind))) is edited in
      record {
        row = r;
        at = own;
        slots = omega (arith, slot_is);
        back = (λ k. record { table = place; key = image.key; new = if image.kind == 1 then had k else None })
            ∙ (λ k. record { table = place; key = image.key; new = kinds image.kind row from to k });
        tree = on_leaves (with_row image.key image.row marked) t.tree;
        regrown = grown r (with_row image.key image.row marked) (written_at image.key image.row marked) spells (written_rows image.key t.rows x image.row marked row f.stands) here;
      }

  pub middle : Middle pages old mid chains slot chain image root d can
  middle = by (image.kind == absent_kind) refl
    where
      at : (o : Option Row) → n.image.row ≡ o → (image.kind == absent_kind) ≡ false → IsOldRow t.def.schema image o → Middle pages old mid chains slot chain image root d can
      at None had is means = absurd (not_absent image.kind is means.0)
      at (Some row) had is means = put_row row had is means.0 means.1 means.2

      by : (b : Bool) → (image.kind == absent_kind) ≡ b → Middle pages old mid chains slot chain image root d can
      by true is = put_none is
      by false is = at n.image.row refl is f.means

-- ---- the file then

some_row : (a b : FileRow) → Some a ≡ Some b → a ≡ b
some_row a b same = cc

module _ (pages : ℕ) (old mid new : Contents) (chains : List Chain) (slot : ℕ) (chain : Chain) (image : OldImage) (root : ℕ) (d : Database) (can : CanTake pages old chains slot chain image root d) (m : Middle pages old mid chains slot chain image root d can) where
  abbrev l : NewestOf d.images (newer_of slot chains) image (reverse (front pages old chains slot chain image d can.kept can.own can.newest) ++ older_of slot chains)
  l = newest pages old chains slot chain image d can.kept can.own can.newest

  abbrev e : IsFileImage d.tables (record { image = image; row = l.image.row })
  e = file_image pages old chains slot chain image d can.kept can.own can.newest

  abbrev here : ℕ
  here = pred image.table

  abbrev u : FileTable
  u = e.table

  abbrev now : FileTable
  now = table_now u m.tree (placed row_key image.key (Some m.row) u.rows)

  -- the chain's entry stands until it is popped
  pub stack : HasStack pages mid (map ends_of chains) slot chain d.space
  stack =
      let held : Holds pages mid (with_table d here now d.space []) chains = regrown_holds pages old mid d chains here u m.tree (placed row_key image.key (Some m.row) u.rows) 0 d.space.bytes [] can.kept.holds e.is_there m.regrown tt in
      stack_of pages mid (with_table d here now d.space []) chains slot chain held can.own

  pub can_pop : CanPop pages mid (map ends_of chains) slot chain d.space
  can_pop = record {
    stack = stack;
    some = let one = ap length (chain_is pages old chains slot chain image d can.kept can.own can.newest) in let both = length-append (front pages old chains slot chain image d can.kept can.own can.newest) (image ∷ []) in omega (arith, one, both);
  }

  back_is : back_of l.image ≡ change_at here image.key (Some m.row)
  back_is = ap (λ (o : OldImage). back_of (record { image = o; row = l.image.row })) l.image_is ∙ m.back

  pub undid : Restacks pages mid new (map ends_of chains) slot chain (popped chain) (with_chain (gone chain) d.space) [] → Undid pages new chains slot chain d
  undid call =
      let slots : (y : FileRow) → found row_key image.key u.rows ≡ Some y → slot_of y.stored ≤ slot_of m.row.stored = λ y is. subst (λ (z : FileRow). slot_of z.stored ≤ slot_of m.row.stored) (some_row e.row y (sym e.stands ∙ is)) m.slots in
      let after : Database = with_table d here now (with_chain (gone chain) d.space) (l.front ++ l.rest) in
      let done = undone_file pages old mid new d chains slot chain (front pages old chains slot chain image d can.kept can.own can.newest) image here u m.tree image.key m.row 0 d.space.bytes can.kept can.own (chain_is pages old chains slot chain image d can.kept can.own can.newest) l (some_after image.table e.from) refl (is_free pages old chains slot chain image d can.kept can.own can.newest can.disjoint) e.is_there m.regrown m.at slots back_is call in
      record {
        after = after;
        kept = done.file;
        newer = l.front;
        image = l.image;
        older = l.rest;
        was = l.is;
        images = refl;
        newer_are = l.front_are;
        image_is = can.newest ∙ ap (λ (o : OldImage). Some o) (sym l.image_is);
        now = exchanged_now pages old d after chains here image.key m.row can.kept.holds m.at done.undoes.exchanges ∙ sym (ap (after_change (tables_of d)) back_is);
        same = undone_committed pages old d after chains here image.key m.row l.front l.image l.rest can.kept.holds done.undoes;
        step = undoes here image.key m.row l.front l.image l.rest (record { undoes = done.undoes; gone = gone chain; space = refl });
        only = subst (λ (o : OldImage). ChangesOnly (pred o.table) o.key d after) (sym l.image_is) (exchanged_only pages old d after here image.key (Some m.row) can.kept.holds.kept m.at done.undoes.exchanges);
      }

-- ---- the row fits

le_holds : (a b : ℕ) → a ≤ b → nat_le a b ≡ true
le_holds a b is = grind (arith, nat_tests, is)

-- its table's tree, into which it can be put back
pub tree_fits : (pages : ℕ) (old : Contents) (chains : List Chain) (slot : ℕ) (chain : Chain) (image : OldImage) (root : ℕ) (d : Database) → CanTake pages old chains slot chain image root d
    → (table : ℕ) × (tree : Tree) × IsTree pages old table root tree × (fits_in image tree ≡ true)
tree_fits pages old chains slot chain image root d can =
    let f = file_image pages old chains slot chain image d can.kept can.own can.newest in
    let place = pred image.table in
    let t = f.table in
    let kept = can.kept.holds.kept in
    let here = found_in_tree pages old d place t image.key kept f.is_there ∙ ap (option_map stored_of) f.stands in
    let there : has image.key t.tree ≡ true = ap stands here in
    let held : holds image.key (length image.row) t.tree ≡ true = ap (slot_holds (length image.row)) here ∙ le_holds (length image.row) (slot_of f.row.stored) f.held in
    (suc place, t.tree, subst (λ (r : ℕ). IsTree pages old (suc place) r t.tree) (can.root_is t f.is_there) (kept.each place t f.is_there).tree, both (image.kind == absent_kind) (has image.key t.tree) (holds image.key (length image.row) t.tree) there held)
  where
    both : (b one other : Bool) → one ≡ true → other ≡ true → (if b then one else other) ≡ true
    both true one other there held = there
    both false one other there held = held

-- ---- the calls

pub takes_of : (pages pages_mid pages_now : ℕ) (old mid new : Contents) (slot : ℕ) (image : OldImage) (root : ℕ) → pages_mid ≡ pages → pages_now ≡ pages_mid → PutsBack pages old root image mid
    → ((slots : List (ℕ × ℕ)) (chain : Chain) (s : Space) → CanPop pages_mid mid slots slot chain s → Restacks pages_now mid new slots slot chain (popped chain) (with_chain (gone chain) s) []) → Takes pages old slot image root new
takes_of pages pages_mid pages_now old mid new slot image root shape shape_now put call = record {
  makes = λ chains chain d can.
      let m = middle pages old mid chains slot chain image root d can put in
      let can_pop = subst (λ (k : ℕ). CanPop k mid (map ends_of chains) slot chain d.space) (sym shape) (can_pop pages old mid new chains slot chain image root d can m) in
      undid pages old mid new chains slot chain image root d can m (subst (λ (k : ℕ). Restacks k mid new (map ends_of chains) slot chain (popped chain) (with_chain (gone chain) d.space) []) (shape_now ∙ shape) (call (map ends_of chains) chain d.space can_pop));
}

pub may_pop : (pages pages_mid : ℕ) (old mid : Contents) (chains : List Chain) (slot : ℕ) (chain : Chain) (image : OldImage) (root : ℕ) (d : Database) → pages_mid ≡ pages → CanTake pages old chains slot chain image root d → PutsBack pages old root image mid
    → CanPop pages_mid mid (map ends_of chains) slot chain d.space
may_pop pages pages_mid old mid chains slot chain image root d shape can put =
    subst (λ (k : ℕ). CanPop k mid (map ends_of chains) slot chain d.space) (sym shape) (can_pop pages old mid mid chains slot chain image root d can (middle pages old mid chains slot chain image root d can put))

-- ---- what is put back, by what the tree's calls say

is_absent : (kind : ℕ) → kind ≡ 0 → (kind == absent_kind) ≡ true
is_absent kind is = ap (λ (n : ℕ). n == absent_kind) is

is_there : (kind : ℕ) → (kind ≡ 0 → ⊥) → (kind == absent_kind) ≡ false
is_there kind some = by (kind == absent_kind) refl
  where
    by : (b : Bool) → (kind == absent_kind) ≡ b → (kind == absent_kind) ≡ false
    by true is = absurd (some (absent kind is))
    by false is = is

pub put_none_on : {T E : Type 0} (result : Result T E) (pages pages_now : ℕ) (old new : Contents) (image : OldImage) (root : ℕ) (key : ℤ) → key ≡ image.key → pages_now ≡ pages → image.kind ≡ 0
    → ((table : ℕ) (tree : Tree) → IsTree pages old table root tree → OnOk result (IsEdited pages_now old new table root tree (marked_at key))) → OnOk result (PutsBack pages old root image new)
put_none_on (Ok x) pages pages_now old new image root key key_is shape none call = record {
  makes = λ table tree is. subst (λ (b : Bool). IsEdited pages old new table root tree (if b then marked_at image.key else with_row image.key image.row (image.kind == marked_kind))) (sym (is_absent image.kind none))
      (subst (λ (k : ℤ). IsEdited pages old new table root tree (marked_at k)) key_is (subst (λ (n : ℕ). IsEdited n old new table root tree (marked_at key)) shape (call table tree is)));
}
put_none_on (Err e) pages pages_now old new image root key key_is shape none call = tt

pub put_row_on : {T E : Type 0} (result : Result T E) (pages pages_now : ℕ) (old new : Contents) (image : OldImage) (root : ℕ) (key : ℤ) (bytes : List ℕ) → key ≡ image.key → bytes ≡ image.row → pages_now ≡ pages → (image.kind ≡ 0 → ⊥)
    → ((table : ℕ) (tree : Tree) → IsTree pages old table root tree → OnOk result (IsEdited pages_now old new table root tree (with_row key bytes (image.kind == marked_kind)))) → OnOk result (PutsBack pages old root image new)
put_row_on (Ok x) pages pages_now old new image root key bytes key_is bytes_are shape some call = record {
  makes = λ table tree is. subst (λ (b : Bool). IsEdited pages old new table root tree (if b then marked_at image.key else with_row image.key image.row (image.kind == marked_kind))) (sym (is_there image.kind some))
      (subst (λ (k : ℤ). IsEdited pages old new table root tree (with_row k image.row (image.kind == marked_kind))) key_is
      (subst (λ (row : List ℕ). IsEdited pages old new table root tree (with_row key row (image.kind == marked_kind))) bytes_are
      (subst (λ (n : ℕ). IsEdited n old new table root tree (with_row key bytes (image.kind == marked_kind))) shape (call table tree is))));
}
put_row_on (Err e) pages pages_now old new image root key bytes key_is bytes_are shape some call = tt

pub none_fits : (image : OldImage) (tree : Tree) (key : ℤ) → key ≡ image.key → image.kind ≡ 0 → fits_in image tree ≡ true → has key tree ≡ true
none_fits image tree key key_is none fits = ap (λ (k : ℤ). has k tree) key_is ∙ sym (ap (λ (b : Bool). if b then has image.key tree else holds image.key (length image.row) tree) (is_absent image.kind none)) ∙ fits

pub row_fits : (image : OldImage) (tree : Tree) (key : ℤ) (bytes : List ℕ) → key ≡ image.key → bytes ≡ image.row → (image.kind ≡ 0 → ⊥) → fits_in image tree ≡ true → holds key (length bytes) tree ≡ true
row_fits image tree key bytes key_is bytes_are some fits =
    (λ i. holds (key_is i) (length (bytes_are i)) tree) ∙ sym (ap (λ (b : Bool). if b then has image.key tree else holds image.key (length image.row) tree) (is_there image.kind some)) ∙ fits

-- ---- on the tree of its table

some_number : (a b : ℕ) → Some a ≡ Some b → a ≡ b
some_number a b same = cc

pub can_take : (pages : ℕ) (old : Contents) (chains : List Chain) (slot : ℕ) (chain : Chain) (count : ℕ) (roots : List ℕ) (image : OldImage) (root : ℕ) (d : Database) → CanUndo pages old chains slot chain count roots d → newest_of chain ≡ Some image → slice_get roots (pred image.table) ≡ Some root
    → CanTake pages old chains slot chain image root d
can_take pages old chains slot chain count roots image root d can last here = record {
  kept = can.kept;
  own = can.own;
  disjoint = can.disjoint;
  newest = last;
  root_is = λ t is. some_number t.def.root.0 root (sym (can.roots_are (pred image.table) t is) ∙ here);
}

pub takes_at_on : {T E : Type 0} (result : Result T E) (pages : ℕ) (old new : Contents) (slot : ℕ) (image : OldImage) (roots : List ℕ) (root : ℕ) → slice_get roots (pred image.table) ≡ Some root → OnOk result (Takes pages old slot image root new) → OnOk result (TakesAt pages old slot image roots new)
takes_at_on (Ok x) pages old new slot image roots root at takes = record { makes = λ chains chain count d can last. takes.makes chains chain d (can_take pages old chains slot chain (suc count) roots image root d can last at) }
takes_at_on (Err e) pages old new slot image roots root at takes = tt

-- its table has a root
pub root_there : (pages : ℕ) (old : Contents) (chains : List Chain) (slot : ℕ) (chain : Chain) (count : ℕ) (roots : List ℕ) (image : OldImage) (d : Database) → CanUndo pages old chains slot chain count roots d → newest_of chain ≡ Some image
    → (root : ℕ) × (1 ≤ image.table) × (slice_get roots (pred image.table) ≡ Some root)
root_there pages old chains slot chain count roots image d can last =
    let f = file_image pages old chains slot chain image d can.kept can.own last in
    (f.table.def.root.0, f.from, can.roots_are (pred image.table) f.table f.is_there)

-- ---- the newest entry that is read

-- the slot has its chain
pub has_chain : (pages : ℕ) (old : Contents) (chains : List Chain) (slot : ℕ) (chain : Chain) (count : ℕ) (roots : List ℕ) (d : Database) → CanUndo pages old chains slot chain count roots d → HasChain pages old (map ends_of chains) slot chain
has_chain pages old chains slot chain count roots d can = (stack_of pages old d chains slot chain can.kept.holds can.own).stack

some_none : (i : OldImage) → Some i ≡ None → ⊥
some_none i same = cc

none_newest : (images : List OldImage) → newest_in images ≡ None → length images ≡ 0
none_newest [] is = refl
none_newest (x ∷ []) is = absurd (some_none x is)
none_newest (x ∷ y ∷ rest) is = absurd (none_rest y rest is)
  where
    none_rest : (y : OldImage) (rest : List OldImage) → newest_in (y ∷ rest) ≡ None → ⊥
    none_rest y [] is = some_none y is
    none_rest y (z ∷ rest) is = none_rest z rest is

-- where something can be taken back the chain has an entry
pub never_none : (pages : ℕ) (old : Contents) (chains : List Chain) (slot : ℕ) (chain : Chain) (count : ℕ) (roots : List ℕ) (d : Database) → CanUndo pages old chains slot chain (suc count) roots d → newest_of chain ≡ None → ⊥
never_none pages old chains slot chain count roots d can none = let no = none_newest (images_of chain) none in let counts = can.counts in omega (arith, no, counts)

-- contents that are the same
pub can_undo_moved : (pages pages_now : ℕ) (old now : Contents) (chains : List Chain) (slot : ℕ) (chain : Chain) (count : ℕ) (roots : List ℕ) (d : Database) → pages_now ≡ pages → now ≡ old → CanUndo pages old chains slot chain count roots d → CanUndo pages_now now chains slot chain count roots d
can_undo_moved pages pages_now old now chains slot chain count roots d shape same can =
    subst (λ (n : ℕ). CanUndo n now chains slot chain count roots d) (sym shape) (subst (λ (c : Contents). CanUndo pages c chains slot chain count roots d) (sym same) can)

pub undoes_on : {T E : Type 0} (result : Result T E) (pages pages_now : ℕ) (old mid new : Contents) (slot : ℕ) (image : OldImage) (count : ℕ) (roots : List ℕ) → pages_now ≡ pages → mid ≡ old
    → ((chains : List Chain) (chain : Chain) (d : Database) → CanUndo pages old chains slot chain (suc count) roots d → newest_of chain ≡ Some image) → OnOk result (TakesAt pages_now mid slot image roots new) → OnOk result (Undoes pages old slot (suc count) roots new)
undoes_on (Ok x) pages pages_now old mid new slot image count roots shape same last takes = record {
  makes = λ chains chain d can. subst (λ (n : ℕ). Undid n new chains slot chain d) shape (takes.makes chains chain count d (can_undo_moved pages pages_now old mid chains slot chain (suc count) roots d shape same can) (last chains chain d can));
}
undoes_on (Err e) pages pages_now old mid new slot image count roots shape same last takes = tt

-- ---- how many there are

-- none is left
pub undoes_none : (pages : ℕ) (contents : Contents) (slot count : ℕ) (roots : List ℕ) → count ≡ 0 → Undoes pages contents slot count roots contents
undoes_none pages contents slot count roots is = record { makes = λ chains chain d can. subst (λ (n : ℕ). UndidIf pages contents contents chains slot chain n d) (sym is) refl }

pub count_some : (count : ℕ) → (count ≡ 0 → ⊥) → suc (pred count) ≡ count
count_some zero some = absurd (some refl)
count_some (suc count) some = refl

-- the same slot and the same count
pub undoes_is : (pages : ℕ) (old new : Contents) (slot own some count : ℕ) (roots : List ℕ) → slot ≡ own → some ≡ count → Undoes pages old slot some roots new → Undoes pages old own count roots new
undoes_is pages old new slot own some count roots slot_is count_is done =
    subst (λ (n : ℕ). Undoes pages old own n roots new) count_is (subst (λ (n : ℕ). Undoes pages old n some roots new) slot_is done)

pub can_undo_is : (pages : ℕ) (old : Contents) (chains : List Chain) (slot own : ℕ) (chain : Chain) (some count : ℕ) (roots : List ℕ) (d : Database) → slot ≡ own → some ≡ count → CanUndo pages old chains own chain count roots d → CanUndo pages old chains slot chain some roots d
can_undo_is pages old chains slot mine chain some count roots d slot_is count_is can =
    subst (λ (n : ℕ). CanUndo pages old chains slot chain n roots d) (sym count_is) (subst (λ (n : ℕ). CanUndo pages old chains n chain count roots d) (sym slot_is) can)
