-- A row that is written in a file with chains, in its two parts: what stood there is pushed, and then the row's tree changed. A file with
-- chains comes of it again, in which what stood there is the newest old row of the slot.
use Rattle.std.proofs.Common.{◌≡◌, ℕ, zero, suc, pred, ◌+◌, ◌<◌, ◌≤◌, ℤ, Bool, true, false, List, [], ◌∷◌, ◌++◌, length, map, Option, Some, None, refl, sym, ◌∙◌, ap, subst, arith, inl, inr, if◌then◌else◌}
use Rattle.std.specs.Prelude.{◌⊎◌, ◌&&◌, nat_le, nat_lt, slice_set}
use Rattle.std.specs.Option.{option_map}
use Rattle.std.proofs.lemmas.Bool.Decides.{nat_tests}
use Rattle.isp_format.specs.Leaf.{Stored, slot_of}
use Rattle.isp_format.specs.Ranges.{Contents}
use Rattle.isp_format.specs.Undo.{OldImage}
use Rattle.isp_plain.specs.declared.value.Row.{Row}
use Rattle.isp_changes.specs.Changes.{after_change}
use Rattle.isp_space.specs.Spaces.{Space, free_pages, most_counted, next_free, taken}
use Rattle.isp_clustered.specs.Cells.{kept_of}
use Rattle.isp_clustered.specs.Puts.{IsPut, most_put}
use Rattle.isp_clustered.specs.Rows.{exchanged, find, may_put, new_row, rewritten, slot_holds, slot_less, with_row}
use Rattle.isp_clustered.specs.Trees.{IsEdited, IsTree, Tree, holds, on_leaves, rows_of}
use Rattle.isp_clustered.proofs.TreeLaws.{written_at}
use Rattle.isp_image.specs.Courses.{IsPutSpace, stood, stood_at}
use Rattle.isp_image.specs.Databases.{Database, FileRow, FileTable, image_of, row_key, tables_of}
use Rattle.isp_image.specs.Files.{IsFileRow, IsFileTable, IsSpelling, KeptFile}
use Rattle.isp_image.specs.Keyed.{found, placed}
use Rattle.isp_image.proofs.FileLaws.{Regrown, stored_of, with_table}
use Rattle.isp_image.proofs.KeyedLaws.{each_placed, found_key}
use Rattle.isp_image.proofs.SeenLaws.{back_is}
use Rattle.isp_image.proofs.ShownLaws.{row_in_is}
use Rattle.isp_image.proofs.StepLaws.{exchanged_only}
use Rattle.isp_image.proofs.StoredLaws.{exchanged_rows, find_row}
use Rattle.isp_image.proofs.TreeChanges.{beside_of, edited_regrown, put_regrown}
use Rattle.isp_undo.specs.Calls.{CanPush, Restacks, page_taken, space_after}
use Rattle.isp_undo.specs.Chains.{Chain, ends_of, pushed, takes_page}
use Rattle.isp_chained.specs.Chained.{ChainedFile, Holds}
use Rattle.isp_chained.specs.Courses.{writes}
use Rattle.isp_chained.specs.Laws.{with_space}
use Rattle.isp_chained.specs.Steps.{IsFreeIn}
use Rattle.isp_chained.proofs.DatabaseLaws.{exchanged_now, noted_committed}
use Rattle.isp_chained.proofs.HoldLaws.{space_now, table_now}
use Rattle.isp_chained.proofs.SlotLaws.{pushed_holds, stack_of}
use Rattle.isp_chained.proofs.WrittenLaws.{WrittenFile, stood_image, written_file}
use Rattle.isp_trx.specs.Noting.{CanWriteTree, PushesOld, Write, WritesTree, is_put, is_smaller}
use Rattle.isp_trx.specs.Transactions.{old_image}
use Rattle.isp_trx.specs.Writes.{CanWrite, Writes, Wrote, place_of}
use Rattle.isp_trx.specs.declared.keys.RowKey.{RowKey}
use Rattle.isp_trx.proofs.RowLaws.{found_in_tree, same_slot}

-- ---- what stands at a key

-- what `get` answers, as an old row
image_is : (at : RowKey) (o : Option FileRow) → 1 ≤ at.table → (image_of (place_of at) at.key o).image ≡ old_image at (option_map kept_of (option_map stored_of o))
image_is at None from = λ i. record { table = number at.table from i; key = at.key; kind = 0; row = [] }
  where
    number : (n : ℕ) → 1 ≤ n → suc (pred n) ≡ n
    number zero some = absurd (omega (arith, some))
    number (suc n) some = refl
image_is at (Some r) from = λ i. record { table = number at.table from i; key = at.key; kind = if r.stored.marked then 2 else 1; row = r.stored.row }
  where
    number : (n : ℕ) → 1 ≤ n → suc (pred n) ≡ n
    number zero some = absurd (omega (arith, some))
    number (suc n) some = refl

smaller_is : (size : ℕ) (o : Option FileRow) → is_smaller size (option_map kept_of (option_map stored_of o)) ≡ slot_less size (option_map stored_of o)
smaller_is size None = refl
smaller_is size (Some r) = refl

lt_le : (a b : ℕ) → nat_lt a b ≡ false → nat_le b a ≡ true
lt_le a b is = grind (arith, nat_tests, is)

holds_it : (size : ℕ) (o : Option FileRow) → is_smaller size (option_map kept_of (option_map stored_of o)) ≡ false → slot_holds size (option_map stored_of o) ≡ true
holds_it size None is = let bad : true ≡ false = is in cc
holds_it size (Some r) is = lt_le (slot_of r.stored) size is

less_slot : (size : ℕ) (x : FileRow) (o : Option FileRow) → o ≡ Some x → slot_less size (option_map stored_of o) ≡ true → slot_of x.stored < size
less_slot size x o is less = under (slot_of x.stored) size (ap (λ (p : Option FileRow). slot_less size (option_map stored_of p)) (sym is) ∙ less)
  where
    under : (a b : ℕ) → nat_lt a b ≡ true → a < b
    under a b h = grind (arith, nat_tests, h)

large_row : (size : ℕ) (o : Option FileRow) → is_smaller size (option_map kept_of (option_map stored_of o)) ≡ false → (x : FileRow) × (o ≡ Some x) × (size ≤ slot_of x.stored)
large_row size None is = let bad : true ≡ false = is in absurd (let no_way : ⊥ = cc in no_way)
large_row size (Some x) is = (x, refl, under (slot_of x.stored) size is)
  where
    under : (a b : ℕ) → nat_lt a b ≡ false → b ≤ a
    under a b h = grind (arith, nat_tests, h)

some_same : (a b : FileRow) → Some a ≡ Some b → a ≡ b
some_same a b same = cc

-- ---- room

first_of_two : (a b : Bool) → (a && b) ≡ true → a ≡ true
first_of_two true b is = refl
first_of_two false b is = is

second_of_two : (a b : Bool) → (a && b) ≡ true → b ≡ true
second_of_two true b is = is
second_of_two false b is = let bad : false ≡ true = is in absurd (let no_way : ⊥ = cc in no_way)

room_free : (free : ℕ) → nat_le 48 free ≡ true → 48 ≤ free
room_free free is = grind (arith, nat_tests, is)

room_bytes : (bytes : ℕ) → nat_lt bytes most_counted ≡ true → bytes < most_counted
room_bytes bytes is = grind (arith, nat_tests, is)

-- a page that is taken is one
taken_free : (pages : ℕ) (free : List ℕ) (fresh tables entries bytes : ℕ) → let s : Space = record { free = free; fresh = fresh; tables = tables; entries = entries; bytes = bytes } in free_pages pages s ≤ suc (free_pages pages (taken s))
taken_free pages [] fresh tables entries bytes = omega arith
taken_free pages (page ∷ free) fresh tables entries bytes = omega arith

-- whether a page is taken for the old row or not
still_free : (pages : ℕ) (s : Space) (takes : Bool) → 48 ≤ free_pages pages s → most_put ≤ free_pages pages (if takes then taken s else s)
still_free pages s true room = let one = taken_free pages s.free s.fresh s.tables s.entries s.bytes in omega (arith, room, one)
still_free pages s false room = omega (arith, room)

still_counted : (s : Space) (takes : Bool) → s.bytes < most_counted → (if takes then taken s else s).bytes < most_counted
still_counted s true few = few
still_counted s false few = few

-- ---- a file in which a row may be written

module _ (pages : ℕ) (old : Contents) (chains : List Chain) (slot : ℕ) (chain : Chain) (w : Write) (d : Database) (t : FileTable) (row : Row) (can : CanWrite pages old chains slot chain w d t row) where
  abbrev place : ℕ
  place = place_of w.at

  abbrev key : ℤ
  key = w.at.key

  abbrev there : Option FileRow
  there = found row_key key t.rows

  abbrev was : KeptFile pages old d
  was = can.kept.holds.kept

  abbrev table_is : IsFileTable pages old (suc place) t
  table_is = was.each place t can.is_there

  stood_there : stood_at place key d ≡ there
  stood_there = ap (stood key) can.is_there

  -- what `get` answers, by the rows of the file
  stands_is : w.old ≡ option_map kept_of (option_map stored_of there)
  stands_is = can.stands ∙ ap (λ (rows : List Stored). option_map kept_of (find key rows)) table_is.rows ∙ ap (option_map kept_of) (find_row key t.rows)

  in_tree : find key (rows_of t.tree) ≡ option_map stored_of there
  in_tree = found_in_tree pages old d place t key was can.is_there

  smaller_there : is_put w ≡ is_smaller (length w.row) (option_map kept_of (option_map stored_of there))
  smaller_there = ap (is_smaller (length w.row)) stands_is

  puts_is : is_put w ≡ may_put key (length w.row) (rows_of t.tree)
  puts_is = smaller_there ∙ smaller_is (length w.row) there ∙ sym (ap (slot_less (length w.row)) in_tree)

  holds_is : is_put w ≡ false → holds key (length w.row) t.tree ≡ true
  holds_is large = ap (slot_holds (length w.row)) in_tree ∙ holds_it (length w.row) there (sym smaller_there ∙ large)

  -- what is noted, from the file and from `get`
  abbrev image : OldImage
  image = (stood_image place key d).image

  same_image : image ≡ old_image w.at w.old
  same_image = ap (λ (o : Option FileRow). (image_of place key o).image) stood_there ∙ image_is w.at there can.from ∙ sym (ap (old_image w.at) stands_is)

  -- ---- it is pushed

  many : 48 ≤ free_pages pages d.space
  many = room_free (free_pages pages d.space) (first_of_two (nat_le 48 (free_pages pages d.space)) (nat_lt d.space.entries most_counted && nat_lt d.space.bytes most_counted) can.room)

  few_bytes : d.space.bytes < most_counted
  few_bytes = room_bytes d.space.bytes (second_of_two (nat_lt d.space.entries most_counted) (nat_lt d.space.bytes most_counted) (second_of_two (nat_le 48 (free_pages pages d.space)) (nat_lt d.space.entries most_counted && nat_lt d.space.bytes most_counted) can.room))

  pub can_push : CanPush pages old (map ends_of chains) slot chain d.space (old_image w.at w.old)
  can_push = record { stack = stack_of pages old d chains slot chain can.kept.holds can.own; free = λ takes. (let room = many in omega (arith, room)) }

  module _ (mid : Contents) (pushes : PushesOld pages old slot (old_image w.at w.old) mid) where
    abbrev space : Space
    space = space_after image chain d.space

    abbrev after_push : Chain
    after_push = pushed (next_free d.space) image chain

    pushed_call : Restacks pages old mid (map ends_of chains) slot chain after_push space (page_taken image chain d.space)
    pushed_call = subst (λ (i : OldImage). Restacks pages old mid (map ends_of chains) slot chain (pushed (next_free d.space) i chain) (space_after i chain d.space) (page_taken i chain d.space)) (sym same_image)
        (pushes.makes (map ends_of chains) chain d.space can_push)

    abbrev held : Holds pages mid (with_space d space) (slice_set chains slot after_push)
    held = pushed_holds pages old mid d chains slot chain image can.kept.holds can.own pushed_call

    -- the row may be written into the tree then
    pub can_tree : CanWriteTree pages mid w (suc place) t.tree space
    can_tree = record {
      puts = λ small. record {
        is_tree = tree_here;
        is_space = held.kept.catalogue.space_is;
        beside = beside_of pages mid (with_space d space) place t held.kept can.is_there;
        may = sym puts_is ∙ small;
        free = still_free pages d.space (takes_page image chain) many;
        counted = still_counted d.space (takes_page image chain) few_bytes;
      };
      is_tree = tree_here;
      edits = holds_is;
    }
      where
        tree_here : IsTree pages mid (suc place) w.root t.tree
        tree_here = subst (λ (root : ℕ). IsTree pages mid (suc place) root t.tree) can.root (held.kept.each place t can.is_there).tree

    -- ---- the database after it

    abbrev rows_now : FileRow → List FileRow
    rows_now r = placed row_key key (Some r) t.rows

    wrote : (new : Contents) (r : FileRow) → r.stored.key ≡ key → ((x : FileRow) → there ≡ Some x → slot_of x.stored ≤ slot_of r.stored) → (if r.stored.marked then None else Some r.row) ≡ (if w.marked then None else Some row)
        → (tree : Tree) (count bytes : ℕ) → Regrown pages mid new (with_space d space) place t tree (rows_now r) count bytes → (space_now count bytes space ≡ space) ⊎ IsPutSpace (length r.stored.row) space (space_now count bytes space)
        → Wrote pages new chains slot chain w row d
    wrote new r at slots same tree count bytes regrown spaced = record {
      after = after;
      kept = subst (λ (i : OldImage). ChainedFile pages new after (slice_set chains slot (pushed (next_free d.space) i chain))) same_image f.file;
      now = exchanged_now pages old d after chains place key r can.kept.holds at f.notes.exchanges ∙ ap (λ (new_row : Option Row). after_change (tables_of d) (record { table = place; key = key; new = new_row })) same;
      same = noted_committed pages old d after chains place key r f.newer f.older can.kept.holds f.notes;
      step = writes place key r f.newer f.older (record { notes = f.notes; takes = takes_page image chain; space = spaced });
      newer = f.newer;
      image = stood_image place key d;
      older = f.older;
      was = f.notes.was;
      images = f.notes.noted;
      newer_are = f.newer_are;
      image_is = same_image;
      back = back_is place key (stood_at place key d) ∙ (λ i. record { table = place; key = key; new = sym (row_in_is pages old d place key was) i });
      only = exchanged_only pages old d after place key (Some r) was at f.notes.exchanges;
    }
      where
        f : WrittenFile pages new d chains slot after_push place key r (table_now t tree (rows_now r)) (space_now count bytes space)
        f = written_file pages old mid new d chains slot chain place t tree key r count bytes can.kept can.own pushed_call
            (subst (λ (i : OldImage). IsFreeIn i slot chains) (sym same_image) can.free) can.is_there regrown at slots

        after : Database
        after = with_table d place (table_now t tree (rows_now r)) (space_now count bytes space) (f.newer ++ stood_image place key d ∷ f.older)

    -- ---- a row is put

    wrote_put : (new : Contents) → is_put w ≡ true → IsPut pages mid new (suc place) w.root key w.row t.tree space → Wrote pages new chains slot chain w row d
    wrote_put new small is_put_there =
        let r : FileRow = record { stored = new_row key w.row; row = row } in
        let put : IsPut pages mid new (suc place) t.def.root.0 key w.row t.tree space = subst (λ (root : ℕ). IsPut pages mid new (suc place) root key w.row t.tree space) (sym can.root) is_put_there in
        let less : slot_less (length w.row) (option_map stored_of there) ≡ true = sym (smaller_is (length w.row) there) ∙ sym smaller_there ∙ small in
        wrote new r refl
        (λ x is. let under = less_slot (length w.row) x there is less in omega (arith, under))
        (sym (ap (λ (b : Bool). if b then None else Some row) (can.unmarked small)))
        put.after put.count (space.bytes + (13 + length w.row))
        (put_regrown pages mid new (with_space d space) place t key w.row r put table_is.rows refl (each_placed row_key (IsFileRow t.def.schema) key (Some r) t.rows can.spells table_is.each))
        (inr (record { count = put.count; few = put.few; is = refl }))

    -- ---- a row is written into the slot of its key

    wrote_edit : (new : Contents) → is_put w ≡ false → IsEdited pages mid new (suc place) w.root t.tree (with_row key w.row w.marked) → Wrote pages new chains slot chain w row d
    wrote_edit new large is_edited =
        let there_is = large_row (length w.row) there (sym smaller_there ∙ large) in
        let x = there_is.0 in
        let r : FileRow = record { stored = rewritten w.row w.marked x.stored; row = row } in
        let at : x.stored.key ≡ key = found_key row_key key t.rows x there_is.1 in
        let edited : IsEdited pages mid new (suc place) t.def.root.0 t.tree (with_row key w.row w.marked) = subst (λ (root : ℕ). IsEdited pages mid new (suc place) root t.tree (with_row key w.row w.marked)) (sym can.root) is_edited in
        let spells : IsFileRow t.def.schema r = subst (λ (k : ℤ). IsSpelling t.def.schema k w.row row) (sym at) can.spells in
        let one : find key (map stored_of t.rows) ≡ Some x.stored = find_row key t.rows ∙ ap (option_map stored_of) there_is.1 in
        let rows : with_row key w.row w.marked (map stored_of t.rows) ≡ map stored_of (rows_now r) =
        ap (λ (s : Option Stored). exchanged key (option_map (rewritten w.row w.marked) s) (map stored_of t.rows)) one ∙ exchanged_rows key (Some r) t.rows in
        let size = same_slot w.row w.marked x.stored there_is.2 in
        wrote new r at
        (λ y is. let same : x ≡ y = some_same x y (sym there_is.1 ∙ is) in let here : slot_of y.stored ≡ slot_of x.stored = ap (λ (z : FileRow). slot_of z.stored) (sym same) in omega (arith, here, size))
        refl
        (on_leaves (with_row key w.row w.marked) t.tree) 0 space.bytes
        (edited_regrown pages mid new (with_space d space) place t (with_row key w.row w.marked) (rows_now r) (written_at key w.row w.marked) held.kept can.is_there edited rows (each_placed row_key (IsFileRow t.def.schema) key (Some r) t.rows spells table_is.each))
        (inl refl)

    pub wrote_tree : (new : Contents) → WritesTree pages mid w new → Wrote pages new chains slot chain w row d
    wrote_tree new calls = by (is_put w) refl
      where
        by : (b : Bool) → is_put w ≡ b → Wrote pages new chains slot chain w row d
        by true small = wrote_put new small (calls.puts small (suc place) t.tree space (can_tree.puts small))
        by false large = wrote_edit new large (calls.edits large (suc place) t.tree can_tree.is_tree)

-- ---- both parts

pub parts_write : (pages : ℕ) (old mid new : Contents) (slot : ℕ) (w : Write) → PushesOld pages old slot (old_image w.at w.old) mid → WritesTree pages mid w new → Writes pages old slot w new
parts_write pages old mid new slot w pushes calls = record { makes = λ chains chain d t row can. wrote_tree pages old chains slot chain w d t row can mid pushes new calls }

-- the row may be written into some tree then, by a store's count of pages behind the push
pub tree_sound : (pages pages_now : ℕ) (old mid : Contents) (chains : List Chain) (slot : ℕ) (chain : Chain) (w : Write) (d : Database) (t : FileTable) (row : Row) (P : Type 0) → pages_now ≡ pages → CanWrite pages old chains slot chain w d t row
    → PushesOld pages old slot (old_image w.at w.old) mid → ((table : ℕ) (tree : Tree) (s : Space) → CanWriteTree pages_now mid w table tree s → P) → P
tree_sound pages pages_now old mid chains slot chain w d t row P shape can pushes call =
    let number = suc (place_of w.at) in
    let s = space_after (stood_image (place_of w.at) w.at.key d).image chain d.space in
    call number t.tree s (subst (λ (n : ℕ). CanWriteTree n mid w number t.tree s) (sym shape) (can_tree pages old chains slot chain w d t row can mid pushes))

-- contents that are the same
pub can_moved : (pages pages_now : ℕ) (old now : Contents) (chains : List Chain) (slot : ℕ) (chain : Chain) (w : Write) (d : Database) (t : FileTable) (row : Row) → pages_now ≡ pages → now ≡ old → CanWrite pages old chains slot chain w d t row
    → CanWrite pages_now now chains slot chain w d t row
can_moved pages pages_now old now chains slot chain w d t row shape same can =
    subst (λ (n : ℕ). CanWrite n now chains slot chain w d t row) (sym shape) (subst (λ (c : Contents). CanWrite pages c chains slot chain w d t row) (sym same) can)
