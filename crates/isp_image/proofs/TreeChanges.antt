-- A table's tree beside the space of its file, and a tree of which one row is edited.
use Rattle.std.proofs.Common.{◌≡◌, ℕ, zero, suc, ◌+◌, ◌<◌, ◌≤◌, ◌==◌, ℤ, Bool, true, false, ◌||◌, List, [], ◌∷◌, ◌++◌, length, map, Some, refl, sym, ◌∙◌, ap, subst, arith}
use Rattle.std.specs.Prelude.{◌&&◌, nat_le, nat_lt, slice_get}
use Rattle.std.specs.List.{AllByRecursion}
use Rattle.std.proofs.lemmas.Bool.Decides.{nat_tests}
use Rattle.isp_base.specs.Lists.{times}
use Rattle.isp_format.specs.Leaf.{Stored}
use Rattle.isp_format.specs.Ranges.{Contents}
use Rattle.isp_format.specs.Space.{IsSpacePage}
use Rattle.isp_page.specs.State.{is_among}
use Rattle.isp_page.specs.Touched.{KeepsPages, is_page}
use Rattle.isp_space.specs.Spaces.{IsSpace, free_pages, has_room, most_counted, space_page}
use Rattle.isp_space.proofs.SpaceLaws.{chain_same}
use Rattle.isp_clustered.specs.Puts.{CanPut, IsBeside, IsPut, most_put}
use Rattle.isp_clustered.specs.Rows.{exchanged, may_put, new_row, with_put}
use Rattle.isp_clustered.specs.Trees.{IsEdited, Tree, TreeLeaf, on_leaf, on_leaves, pages_of, rows_of}
use Rattle.isp_clustered.proofs.TreeLaws.{edited_rows}
use Rattle.isp_levels.specs.Edits.{ChangesAt}
use Rattle.isp_image.specs.Databases.{Database, FileRow, FileTable, row_key}
use Rattle.isp_image.specs.Files.{IsFileRow, KeptFile, Owner, Owns, is_owner, nobody, of_free, of_slot, of_table}
use Rattle.isp_image.specs.Keyed.{placed}
use Rattle.isp_image.proofs.FileLaws.{Regrown, stored_of}
use Rattle.isp_image.proofs.ListLaws.{all_of, counted, not_among}
use Rattle.isp_image.proofs.OwnerLaws.{Differ, apart, free_differs, nobody_none, not_owned}
use Rattle.isp_image.proofs.StoredLaws.{exchanged_rows}

-- ---- a tree and the space

times_append : (page : ℕ) (xs ys : List ℕ) → times page (xs ++ ys) ≡ times page xs + times page ys
times_append page [] ys = omega arith
times_append page (x ∷ xs) ys = let rest = times_append page xs ys in omega (arith, rest)

none_zero : (b : Bool) → b ≡ false → counted b ≡ 0
none_zero b is = ap counted is

bool_bad : false ≡ true → ⊥
bool_bad is = cc

table_not_free : (n : ℕ) → Differ (of_table n) of_free
table_not_free n nobody is = refl
table_not_free n of_free is = absurd (bool_bad is)
table_not_free n (of_table k) is = refl
table_not_free n (of_slot k) is = refl

-- once at most in the tree and the space together, by how often the page stands in each
once_all : (mine free zero_page : ℕ) → mine ≤ 1 → free ≤ 1 → zero_page ≤ 1 → (1 ≤ mine → free ≡ 0) → (1 ≤ zero_page → (mine ≡ 0) × (free ≡ 0)) → mine + (zero_page + free) ≤ 1
once_all zero free zero few_mine few_free few apart first = omega (arith, few_free)
once_all zero free (suc k) few_mine few_free few apart first = let none = first (omega arith) in omega (arith, few, none.1)
once_all (suc m) free zero few_mine few_free few apart first = let none = apart (omega arith) in omega (arith, few_mine, none)
once_all (suc m) free (suc k) few_mine few_free few apart first = let none = first (omega arith) in absurd (omega (arith, none.0))

one_most : (b : Bool) → counted b ≤ 1
one_most true = omega arith
one_most false = omega arith

owned_once : (owner : ℕ → Owner) (who : Owner) (xs : List ℕ) (page : ℕ) → Owns owner who xs → times page xs ≤ 1
owned_once owner who xs page has = let is = has page in let most = one_most (is_owner who (owner page)) in omega (arith, is, most)

pub beside_of : (pages : ℕ) (contents : Contents) (d : Database) (place : ℕ) (t : FileTable) → KeptFile pages contents d → slice_get d.tables place ≡ Some t → IsBeside t.tree d.space
beside_of pages contents d place t kept is = record {
  once = λ page. let all = times_append page (pages_of t.tree) (0 ∷ d.space.free) in let few = once page in omega (arith, all, few);
  used = all_of (λ page. page < d.space.fresh) (pages_of t.tree) (λ page some. below page some);
}
  where
    owner : ℕ → Owner
    owner = kept.owner

    mine : Owns owner (of_table (suc place)) (pages_of t.tree)
    mine = kept.trees place t is

    zero_none : (page : ℕ) → 1 ≤ counted (0 == page) → owner page ≡ nobody
    zero_none zero some = kept.shared.first 0 (omega arith)
    zero_none (suc page) some = let out : counted (0 == suc page) ≡ 0 = none_zero (0 == suc page) (grind arith) in absurd (omega (arith, some, out))

    once : (page : ℕ) → times page (pages_of t.tree) + (counted (0 == page) + times page d.space.free) ≤ 1
    once page = once_all (times page (pages_of t.tree)) (times page d.space.free) (counted (0 == page))
        (owned_once owner (of_table (suc place)) (pages_of t.tree) page mine) (owned_once owner of_free d.space.free page kept.shared.free) (one_most (0 == page))
        (λ some. apart owner (of_table (suc place)) of_free (pages_of t.tree) d.space.free page (table_not_free (suc place)) mine kept.shared.free some)
        (λ some. let none = zero_none page some in (nobody_none owner (suc place) (pages_of t.tree) page mine none, not_owned owner of_free d.space.free page kept.shared.free (ap (is_owner of_free) none)))

    below : (page : ℕ) → 1 ≤ times page (pages_of t.tree) → page < d.space.fresh
    below page some = by (nat_lt page d.space.fresh) refl
      where
        by : (b : Bool) → nat_lt page d.space.fresh ≡ b → page < d.space.fresh
        by true less = grind (arith, nat_tests, less)
        by false far =
            let from : d.space.fresh ≤ page = grind (arith, nat_tests, far) in
            let none = nobody_none owner (suc place) (pages_of t.tree) page mine (kept.shared.never page from) in
            absurd (omega (arith, none, some))

-- pages of a table's tree aren't pages of the space
pub space_stays : (pages : ℕ) (old new : Contents) (d : Database) (place : ℕ) (t : FileTable) → KeptFile pages old d → slice_get d.tables place ≡ Some t → KeepsPages (λ page. is_among page (pages_of t.tree)) old new → IsSpace pages new d.space
space_stays pages old new d place t kept is keeps =
    let space = kept.catalogue.space_is in
    record {
      says = subst (λ (bytes : List ℕ). IsSpacePage bytes (space_page d.space)) (sym (keeps 0 (not_among 0 (pages_of t.tree) (nobody_none kept.owner (suc place) (pages_of t.tree) 0 (kept.trees place t is) (kept.shared.first 0 (omega arith)))))) space.says;
      chain = chain_same (λ page. is_among page (pages_of t.tree)) old new d.space.free keeps
          (all_of (λ page. is_among page (pages_of t.tree) ≡ false) d.space.free
          (λ page some. not_among page (pages_of t.tree) (apart kept.owner of_free (of_table (suc place)) d.space.free (pages_of t.tree) page (free_differs (suc place)) kept.shared.free (kept.trees place t is) some))) space.chain;
      inside = space.inside;
      once = space.once;
      fresh_from = space.fresh_from;
      fresh_to = space.fresh_to;
    }

-- ---- room

first_of_two : (a b : Bool) → (a && b) ≡ true → a ≡ true
first_of_two true b is = refl
first_of_two false b is = is

second_of_two : (a b : Bool) → (a && b) ≡ true → b ≡ true
second_of_two true b is = is
second_of_two false b is = let bad : false ≡ true = is in absurd (bool_bad bad)

room_bytes : (bytes : ℕ) → nat_lt bytes most_counted ≡ true → bytes < most_counted
room_bytes bytes is = grind (arith, nat_tests, is)

room_free : (free : ℕ) → nat_le 48 free ≡ true → most_put ≤ free
room_free free is = grind (arith, nat_tests, is)

pub can_put : (pages : ℕ) (contents : Contents) (d : Database) (place : ℕ) (t : FileTable) (key : ℤ) (size : ℕ) → KeptFile pages contents d → slice_get d.tables place ≡ Some t → has_room pages d.space ≡ true → may_put key size (rows_of t.tree) ≡ true
    → CanPut pages contents (suc place) t.def.root.0 key size t.tree d.space
can_put pages contents d place t key size kept is room may = record {
  is_tree = (kept.each place t is).tree;
  is_space = kept.catalogue.space_is;
  beside = beside_of pages contents d place t kept is;
  may = may;
  free = room_free (free_pages pages d.space) (first_of_two (nat_le 48 (free_pages pages d.space)) (nat_lt d.space.entries most_counted && nat_lt d.space.bytes most_counted) room);
  counted = room_bytes d.space.bytes (second_of_two (nat_lt d.space.entries most_counted) (nat_lt d.space.bytes most_counted) (second_of_two (nat_le 48 (free_pages pages d.space)) (nat_lt d.space.entries most_counted && nat_lt d.space.bytes most_counted) room));
}

-- ---- a tree with a row put, and one of which a row is edited

wider : (a b : Bool) → (a || b) ≡ false → b ≡ false
wider true b is = let bad : true ≡ false = is in absurd (bool_bad (sym bad))
wider false b is = is

pub put_regrown : (pages : ℕ) (old new : Contents) (d : Database) (place : ℕ) (t : FileTable) (key : ℤ) (bytes : List ℕ) (row : FileRow) (put : IsPut pages old new (suc place) t.def.root.0 key bytes t.tree d.space)
    → rows_of t.tree ≡ map stored_of t.rows → row.stored ≡ new_row key bytes → AllByRecursion (IsFileRow t.def.schema) (placed row_key key (Some row) t.rows)
    → Regrown pages old new d place t put.after (placed row_key key (Some row) t.rows) put.count (d.space.bytes + (13 + length bytes))
put_regrown pages old new d place t key bytes row put rows is spelled = record {
  is_tree = put.is_tree;
  rows_are = put.put.rows ∙ ap (with_put key bytes) rows ∙ (λ i. exchanged key (Some (sym is i)) (map stored_of t.rows)) ∙ exchanged_rows key (Some row) t.rows;
  spelled = spelled;
  pages_are = put.pages_are;
  is_space = put.is_space;
  others = put.others;
}

map_pages : (change : List Stored → List Stored) (leaves : List TreeLeaf) → map (λ (leaf : TreeLeaf). leaf.page) (map (on_leaf change) leaves) ≡ map (λ (leaf : TreeLeaf). leaf.page) leaves
map_pages change [] = refl
map_pages change (leaf ∷ leaves) = λ i. leaf.page ∷ map_pages change leaves i

pub edited_pages : (change : List Stored → List Stored) (tree : Tree) → pages_of (on_leaves change tree) ≡ pages_of tree
edited_pages change tree = λ i. map_pages change tree.leaves i ++ tree.inner

pub edited_regrown : {key : ℤ} (pages : ℕ) (old new : Contents) (d : Database) (place : ℕ) (t : FileTable) (change : List Stored → List Stored) (rows : List FileRow) → ChangesAt key change → KeptFile pages old d → slice_get d.tables place ≡ Some t
    → IsEdited pages old new (suc place) t.def.root.0 t.tree change → change (map stored_of t.rows) ≡ map stored_of rows → AllByRecursion (IsFileRow t.def.schema) rows
    → Regrown pages old new d place t (on_leaves change t.tree) rows 0 d.space.bytes
edited_regrown {key = key} pages old new d place t change rows changes kept is edited rows_are_now spelled =
    let was = kept.each place t is in
    record {
      is_tree = edited.is_tree;
      rows_are = edited_rows key change pages old (suc place) t.def.root.0 t.tree changes was.tree ∙ ap change was.rows ∙ rows_are_now;
      spelled = spelled;
      pages_are = λ page. let same = ap (times page) (edited_pages change t.tree) in omega (arith, same);
      is_space = space_stays pages old new d place t kept is edited.others;
      others = λ page out. edited.others page (ap (is_among page) (sym (edited_pages change t.tree)) ∙ wider (is_page 0 page) (is_among page (pages_of (on_leaves change t.tree))) out);
    }
