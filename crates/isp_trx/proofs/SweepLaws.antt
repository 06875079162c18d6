-- Marked rows that go from a file with chains, one after another.
use Rattle.std.proofs.Common.{◌≡◌, ℕ, suc, ◌==◌, ℤ, Bool, true, false, List, [], ◌∷◌, ◌++◌, map, Option, Some, None, refl, sym, ◌∙◌, ap, subst, arith, if◌then◌else◌}
use Rattle.std.specs.Prelude.{Result, Ok, Err, OnOk, slice_get, slice_set}
use Rattle.std.specs.List.{AllByRecursion, list_any}
use Rattle.std.specs.Option.{option_map}
use Rattle.std.specs.Ordering.{int_eq}
use Rattle.isp_format.specs.Leaf.{Stored}
use Rattle.isp_format.specs.Ranges.{Contents}
use Rattle.isp_catalog.specs.declared.table.TableDef.{TableDef}
use Rattle.isp_clustered.specs.Cells.{kept_of}
use Rattle.isp_clustered.specs.Rows as tree_rows
use Rattle.isp_clustered.specs.Rows.{without}
use Rattle.isp_clustered.specs.Trees.{IsEdited, IsTree, Tree, has_marked, on_leaves}
use Rattle.isp_image.specs.Courses.{names, stood}
use Rattle.isp_image.specs.Databases.{Database, FileRow, FileTable, row_key}
use Rattle.isp_image.specs.Files.{KeptFile}
use Rattle.isp_image.specs.Keyed.{RisesBy, found, placed}
use Rattle.isp_image.proofs.FileLaws.{def_of, rises_in, stored_of, with_table}
use Rattle.isp_image.proofs.KeyedLaws.{found_placed, key_is}
use Rattle.isp_image.proofs.ListLaws.{get_map, get_other, get_set, map_set_same}
use Rattle.isp_image.proofs.StepLaws.{dropped_committed, dropped_now}
use Rattle.isp_undo.specs.Chains.{Chain}
use Rattle.isp_chained.specs.Chained.{ChainedFile}
use Rattle.isp_chained.specs.Courses.{drops}
use Rattle.isp_chained.proofs.CourseLaws.{reaches_more, reaches_on, reaches_self}
use Rattle.isp_chained.proofs.HoldLaws.{table_now}
use Rattle.isp_chained.proofs.WrittenLaws.{dropped_file}
use Rattle.isp_trx.specs.Writes.{AreRoots, CanSweep, Drops, IsFree, IsUnmarked, Swept, SweptAll, Sweeps, SweepsAt, is_marked, kept_mark, place_of}
use Rattle.isp_trx.specs.declared.keys.RowKey.{RowKey}
use Rattle.isp_trx.proofs.RowLaws.{found_in_tree}

-- ---- one marked row goes

unmarked_here : (k key : ℤ) (rows : List FileRow) → RisesBy row_key rows → is_marked (found row_key k rows) ≡ false → is_marked (found row_key k (placed row_key key None rows)) ≡ false
unmarked_here k key rows rises was = ap is_marked (found_placed row_key k key None rows tt rises) ∙ by (int_eq k key)
  where
    by : (b : Bool) → is_marked (if b then None else found row_key k rows) ≡ false
    by true = refl
    by false = was

unmarked_stays : (d : Database) (place : ℕ) (t : FileTable) (tree : Tree) (key : ℤ) → slice_get d.tables place ≡ Some t → RisesBy row_key t.rows → (n : ℕ) (k : ℤ) → is_marked (stood k (slice_get d.tables n)) ≡ false
    → is_marked (stood k (slice_get (slice_set d.tables place (record { def = t.def; tree = tree; rows = placed row_key key None t.rows })) n)) ≡ false
unmarked_stays d place t tree key is rises n k was = by (place == n) refl
  where
    now : FileTable
    now = record { def = t.def; tree = tree; rows = placed row_key key None t.rows }

    apart : (a b : ℕ) → (a == b) ≡ false → a ≡ b → ⊥
    apart a b no_same same = let at : (a == b) ≡ true = grind (arith, same) in let bad : true ≡ false = sym at ∙ no_same in cc

    by : (b : Bool) → (place == n) ≡ b → is_marked (stood k (slice_get (slice_set d.tables place now) n)) ≡ false
    by true same =
        let at : place ≡ n = grind (arith, same) in
        let had : is_marked (found row_key k t.rows) ≡ false = sym (ap (λ (o : Option FileTable). is_marked (stood k o)) (ap (slice_get d.tables) (sym at) ∙ is)) ∙ was in
        ap (λ (o : Option FileTable). is_marked (stood k o)) (ap (slice_get (slice_set d.tables place now)) (sym at) ∙ get_set d.tables place t now is) ∙ unmarked_here k key t.rows rises had
    by false no_same = ap (λ (o : Option FileTable). is_marked (stood k o)) (get_other d.tables place n now (apart place n no_same)) ∙ was

swept_one : (pages : ℕ) (old new : Contents) (chains : List Chain) (d : Database) (at : RowKey) (f : IsFree at d) (x : FileRow) → ChainedFile pages old d chains → found row_key at.key f.table.rows ≡ Some x → x.stored.marked ≡ true
    → IsEdited pages old new (suc (place_of at)) f.table.def.root.0 f.table.tree (without at.key) → SweptAll pages new chains (at ∷ []) d
swept_one pages old new chains d at f x file is marked edited =
    let went = dropped_file pages old new d chains place t key x file f.is_there is marked f.unnamed edited in
    record {
      swept = record {
        after = after;
        kept = went.file;
        images = refl;
        now = dropped_now pages old d after place key kept went.dropped;
        same = dropped_committed pages old d after place key kept went.dropped;
        defs = map_set_same def_of d.tables place t now f.is_there refl;
        unmarked = λ other was. unmarked_stays d place t (on_leaves (without key) t.tree) key f.is_there rises (place_of other) other.key was;
        reaches = reaches_more pages d d after (reaches_self pages d) (drops place key went.dropped) (new, chains, went.file);
      };
      gone = (none_left, tt);
    }
  where
    t : FileTable
    t = f.table

    place : ℕ
    place = place_of at

    key : ℤ
    key = at.key

    kept : KeptFile pages old d
    kept = file.holds.kept

    rises : RisesBy row_key t.rows
    rises = rises_in pages old d place t kept f.is_there

    now : FileTable
    now = table_now t (on_leaves (without key) t.tree) (placed row_key key None t.rows)

    after : Database
    after = with_table d place now d.space d.images

    none_left : IsUnmarked at after
    none_left = ap (λ (o : Option FileTable). is_marked (stood key o)) (get_set d.tables place t now f.is_there)
        ∙ ap is_marked (found_placed row_key key key None t.rows tt rises ∙ ap (λ (b : Bool). if b then None else found row_key key t.rows) (key_is key key refl))

-- ---- nothing goes

abbrev pub swept_none : (pages : ℕ) (old new : Contents) (chains : List Chain) (d : Database) → ChainedFile pages old d chains → new ≡ old → Swept pages new chains d
swept_none pages old new chains d kept same = record {
  after = d;
  kept = subst (λ (c : Contents). ChainedFile pages c d chains) (sym same) kept;
  images = refl;
  now = refl;
  same = refl;
  defs = refl;
  unmarked = λ at was. was;
  reaches = reaches_self pages d;
}

-- ---- a key is swept

marked_row : (o : Option FileRow) → is_marked o ≡ true → (x : FileRow) × (o ≡ Some x) × (x.stored.marked ≡ true)
marked_row None is = let bad : false ≡ true = is in absurd (let no_way : ⊥ = cc in no_way)
marked_row (Some x) is = (x, refl, is)

abbrev tree_mark : Option Stored → Bool
tree_mark = tree_rows.is_marked

mark_is : (o : Option FileRow) → tree_mark (option_map stored_of o) ≡ is_marked o
mark_is None = refl
mark_is (Some x) = refl

tree_marks : (pages : ℕ) (old : Contents) (d : Database) (at : RowKey) (f : IsFree at d) → KeptFile pages old d → has_marked at.key f.table.tree ≡ is_marked (found row_key at.key f.table.rows)
tree_marks pages old d at f kept = ap tree_mark (found_in_tree pages old d (place_of at) f.table at.key kept f.is_there) ∙ mark_is (found row_key at.key f.table.rows)

pub tree_of : (roots : List ℕ) (at : RowKey) (root : ℕ) (d : Database) (f : IsFree at d) → AreRoots roots d → slice_get roots (place_of at) ≡ Some root → f.table.def.root.0 ≡ root
tree_of roots at root d f roots_are here = some_number _ _ (sym (roots_are (place_of at) f.table f.is_there) ∙ here)
  where
    some_number : (a b : ℕ) → Some a ≡ Some b → a ≡ b
    some_number a b same = cc

pub drop_sweeps : (pages : ℕ) (old new : Contents) (roots : List ℕ) (at : RowKey) (root : ℕ) → slice_get roots (place_of at) ≡ Some root → ((table : ℕ) (tree : Tree) → IsTree pages old table root tree → has_marked at.key tree ≡ true) → Drops pages old root at new → Sweeps pages old roots (at ∷ []) (at ∷ []) new
drop_sweeps pages old new roots at root here mark dropped = record { makes = λ chains d can. one chains d can }
  where
    one : (chains : List Chain) (d : Database) → CanSweep pages old chains roots (at ∷ []) d → SweptAll pages new chains (at ∷ []) d
    one chains d can =
        let f = can.free.0 in
        let same = tree_of roots at root d f can.roots_are here in
        let tree = subst (λ (r : ℕ). IsTree pages old (suc (place_of at)) r f.table.tree) same (can.kept.holds.kept.each (place_of at) f.table f.is_there).tree in
        let row = marked_row (found row_key at.key f.table.rows) (sym (tree_marks pages old d at f can.kept.holds.kept) ∙ mark (suc (place_of at)) f.table.tree tree) in
        swept_one pages old new chains d at f row.0 can.kept row.1 row.2
        (subst (λ (r : ℕ). IsEdited pages old new (suc (place_of at)) r f.table.tree (without at.key)) (sym same) (dropped.makes (suc (place_of at)) f.table.tree tree))

pub none_sweeps : (pages : ℕ) (old new : Contents) (roots : List ℕ) (at : RowKey) (root : ℕ) → slice_get roots (place_of at) ≡ Some root → ((table : ℕ) (tree : Tree) → IsTree pages old table root tree → has_marked at.key tree ≡ false) → new ≡ old → Sweeps pages old roots (at ∷ []) (at ∷ []) new
none_sweeps pages old new roots at root here mark unchanged = record { makes = λ chains d can. one chains d can }
  where
    one : (chains : List Chain) (d : Database) → CanSweep pages old chains roots (at ∷ []) d → SweptAll pages new chains (at ∷ []) d
    one chains d can =
        let f = can.free.0 in
        let same = tree_of roots at root d f can.roots_are here in
        let tree = subst (λ (r : ℕ). IsTree pages old (suc (place_of at)) r f.table.tree) same (can.kept.holds.kept.each (place_of at) f.table f.is_there).tree in
        let out : is_marked (found row_key at.key f.table.rows) ≡ false = sym (tree_marks pages old d at f can.kept.holds.kept) ∙ mark (suc (place_of at)) f.table.tree tree in
        record { swept = swept_none pages old new chains d can.kept unchanged; gone = (ap (λ (o : Option FileTable). is_marked (stood at.key o)) f.is_there ∙ out, tt) }

-- ---- one after another

same_def : (a b : TableDef) → Some a ≡ Some b → a ≡ b
same_def a b same = cc

none_def : (a : TableDef) → None ≡ Some a → ⊥
none_def a same = cc

pub get_def : (xs ys : List FileTable) (n : ℕ) (t : FileTable) → map def_of xs ≡ map def_of ys → slice_get xs n ≡ Some t → (u : FileTable) × (slice_get ys n ≡ Some u) × (u.def ≡ t.def)
get_def xs ys n t same is = by (slice_get ys n) refl
  where
    both : option_map def_of (slice_get ys n) ≡ Some t.def
    both = sym (get_map def_of ys n) ∙ ap (λ (l : List TableDef). slice_get l n) (sym same) ∙ get_map def_of xs n ∙ ap (option_map def_of) is

    by : (o : Option FileTable) → slice_get ys n ≡ o → (u : FileTable) × (slice_get ys n ≡ Some u) × (u.def ≡ t.def)
    by None none = absurd (none_def t.def (sym (ap (option_map def_of) none) ∙ both))
    by (Some u) there = (u, there, same_def u.def t.def (sym (ap (option_map def_of) there) ∙ both))

pub free_on : (pages : ℕ) (mid : Contents) (chains : List Chain) (d : Database) (s : Swept pages mid chains d) (at : RowKey) → IsFree at d → IsFree at s.after
free_on pages mid chains d s at f =
    let u = get_def d.tables s.after.tables (place_of at) f.table (sym s.defs) f.is_there in
    record { from = f.from; table = u.0; is_there = u.1; unnamed = ap (list_any (names (place_of at) at.key)) s.images ∙ f.unnamed }

pub all_free : (pages : ℕ) (mid : Contents) (chains : List Chain) (d : Database) (s : Swept pages mid chains d) (keys : List RowKey) → AllByRecursion (λ at. IsFree at d) keys → AllByRecursion (λ at. IsFree at s.after) keys
all_free pages mid chains d s [] all = tt
all_free pages mid chains d s (at ∷ keys) all = (free_on pages mid chains d s at all.0, all_free pages mid chains d s keys all.1)

abbrev pub can_sweep_on : (pages : ℕ) (old mid : Contents) (chains : List Chain) (roots : List ℕ) (keys : List RowKey) (d : Database) → CanSweep pages old chains roots keys d → (s : Swept pages mid chains d) → CanSweep pages mid chains roots keys s.after
can_sweep_on pages old mid chains roots keys d can s = record {
  kept = s.kept;
  roots_are = λ place t is. let u = get_def s.after.tables d.tables place t s.defs is in can.roots_are place u.0 u.1 ∙ ap (λ (def : TableDef). Some def.root.0) u.2;
  free = all_free pages mid chains d s keys can.free;
}

abbrev swept_on : (pages : ℕ) (mid new : Contents) (chains : List Chain) (d : Database) (s : Swept pages mid chains d) → Swept pages new chains s.after → Swept pages new chains d
swept_on pages mid new chains d s next = record {
  after = next.after;
  kept = next.kept;
  images = next.images ∙ s.images;
  now = next.now ∙ s.now;
  same = next.same ∙ s.same;
  defs = next.defs ∙ s.defs;
  unmarked = λ at was. next.unmarked at (s.unmarked at was);
  reaches = reaches_on pages d s.after next.after s.reaches next.reaches;
}

all_stay : (d e : Database) (keys : List RowKey) (at : RowKey) → ((other : RowKey) → IsUnmarked other d → IsUnmarked other e) → AllByRecursion (λ k. IsUnmarked k d) keys → IsUnmarked at e → AllByRecursion (λ k. IsUnmarked k e) (keys ++ at ∷ [])
all_stay d e [] at stay all one = (one, tt)
all_stay d e (k ∷ keys) at stay all one = (stay k all.0, all_stay d e keys at stay all.1 one)

-- a key more
pub sweeps_more : (pages : ℕ) (old mid new : Contents) (roots : List ℕ) (keys done : List RowKey) (at : RowKey) → ((d : Database) → AllByRecursion (λ k. IsFree k d) keys → IsFree at d) → Sweeps pages old roots keys done mid → Sweeps pages mid roots (at ∷ []) (at ∷ []) new → Sweeps pages old roots keys (done ++ at ∷ []) new
sweeps_more pages old mid new roots keys done at among first next = record {
  makes = λ chains d can.
      let s = first.makes chains d can in
      let can_now = can_sweep_on pages old mid chains roots keys d can s.swept in
      let n = next.makes chains s.swept.after (record { kept = can_now.kept; roots_are = can_now.roots_are; free = (among s.swept.after can_now.free, tt) }) in
      record { swept = swept_on pages mid new chains d s.swept n.swept; gone = all_stay s.swept.after n.swept.after done at n.swept.unmarked s.gone n.gone.0 };
}

pub sweeps_begin : (pages : ℕ) (old : Contents) (roots : List ℕ) (keys : List RowKey) → Sweeps pages old roots keys [] old
sweeps_begin pages old roots keys = record { makes = λ chains d can. record { swept = swept_none pages old old chains d can.kept refl; gone = tt } }

-- ---- the calls

pub drops_on : {T E : Type 0} (result : Result T E) (pages pages_now : ℕ) (old new : Contents) (root : ℕ) (at : RowKey) (key : ℤ) → key ≡ at.key → pages_now ≡ pages
    → ((table : ℕ) (tree : Tree) → IsTree pages old table root tree → OnOk result (IsEdited pages_now old new table root tree (without key))) → OnOk result (Drops pages old root at new)
drops_on (Ok x) pages pages_now old new root at key key_is shape call = record {
  makes = λ table tree is. subst (λ (n : ℕ). IsEdited n old new table root tree (without at.key)) shape (subst (λ (k : ℤ). IsEdited pages_now old new table root tree (without k)) key_is (call table tree is));
}
drops_on (Err e) pages pages_now old new root at key key_is shape call = tt

pub kept_mark_is : (o : Option Stored) → kept_mark (option_map kept_of o) ≡ tree_mark o
kept_mark_is None = refl
kept_mark_is (Some s) = refl

-- a marked row that was dropped, and one that isn't there
pub dropped_at : (pages : ℕ) (old new : Contents) (at : RowKey) (root : ℕ) → ((table : ℕ) (tree : Tree) → IsTree pages old table root tree → true ≡ has_marked at.key tree) → Drops pages old root at new → SweepsAt pages old root at new
dropped_at pages old new at root mark dropped = record { makes = λ roots here. drop_sweeps pages old new roots at root here (λ table tree is. sym (mark table tree is)) dropped }

pub unmarked_at : (pages : ℕ) (old new : Contents) (at : RowKey) (root : ℕ) → ((table : ℕ) (tree : Tree) → IsTree pages old table root tree → false ≡ has_marked at.key tree) → new ≡ old → SweepsAt pages old root at new
unmarked_at pages old new at root mark unchanged = record { makes = λ roots here. none_sweeps pages old new roots at root here (λ table tree is. sym (mark table tree is)) unchanged }

-- contents that are the same
pub tree_moved : (pages pages_now : ℕ) (old now : Contents) (table root : ℕ) (tree : Tree) → pages_now ≡ pages → now ≡ old → IsTree pages old table root tree → IsTree pages_now now table root tree
tree_moved pages pages_now old now table root tree shape same is = subst (λ (n : ℕ). IsTree n now table root tree) (sym shape) (subst (λ (c : Contents). IsTree pages c table root tree) (sym same) is)

pub swept_behind : (pages pages_now : ℕ) (old mid new : Contents) (at : RowKey) (root : ℕ) → pages_now ≡ pages → mid ≡ old → ((table : ℕ) (tree : Tree) → IsTree pages old table root tree → true ≡ has_marked at.key tree) → Drops pages_now mid root at new → SweepsAt pages old root at new
swept_behind pages pages_now old mid new at root shape same mark dropped =
    dropped_at pages old new at root mark (subst (λ (n : ℕ). Drops n old root at new) shape (subst (λ (c : Contents). Drops pages_now c root at new) same dropped))
