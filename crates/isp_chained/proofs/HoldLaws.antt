-- A database and chains beside each other, where the chain of one slot or the tree of one table is changed.
use Rattle.std.proofs.Common.{◌≡◌, ◌≢◌, ℕ, zero, suc, ◌<◌, ◌≤◌, ◌||◌, true, false, List, [], ◌∷◌, length, map, Some, sym, ◌∙◌, ap, subst, arith, get_or}
use Rattle.std.specs.Prelude.{slice_get, slice_set}
use Rattle.std.specs.List.{AllByRecursion}
use Rattle.isp_base.specs.Lists.{times}
use Rattle.isp_format.specs.Ranges.{Contents, page_of}
use Rattle.isp_format.specs.Undo.{IsUndoDirectory}
use Rattle.isp_page.specs.State.{is_among}
use Rattle.isp_page.specs.Touched.{KeepsPages, is_page}
use Rattle.isp_catalog.proofs.CatalogueLaws.{local}
use Rattle.isp_space.specs.Spaces.{IsSpace, Space}
use Rattle.isp_clustered.specs.Puts.{taken_times}
use Rattle.isp_clustered.specs.Trees.{Tree, pages_of as tree_pages}
use Rattle.isp_clustered.proofs.TreeLaws.{tree_same}
use Rattle.isp_image.specs.Databases.{Database, FileImage, FileRow, FileTable}
use Rattle.isp_image.specs.Files.{IsFileImage, IsFileTable, KeptFile, Owner, Owns, OwnsSpace, is_known, is_owner, nobody, of_slot, of_table}
use Rattle.isp_image.proofs.FileLaws.{Regrown, def_of, kept_changed, with_table}
use Rattle.isp_image.proofs.ListLaws.{all_of, each_set, not_among}
use Rattle.isp_image.proofs.OwnerLaws.{after_takes, has_owner, not_owned, takes_grow, takes_shared}
use Rattle.isp_undo.specs.Chains.{Chain, IsUndoChain, ends_of, pages_of}
use Rattle.isp_undo_walks.proofs.LinkLaws.{linked_same, pages_all}
use Rattle.isp_undo_walks.proofs.PageLaws.{both_out}
use Rattle.isp_chained.specs.Chained.{ChainedFile, Holds, old_of}
use Rattle.isp_chained.specs.Laws.{with_space}
use Rattle.isp_chained.proofs.OwnerLaws.{slot_table, slots_stay}

-- ---- pages of somebody that aren't on a list

-- the list has none of the pages that every file has but the heads, and none of these owners' pages
pub record Spares (owner : ℕ → Owner) (slot : ℕ) (list : List ℕ) : Type 0 where
  pub catalogue : (page : ℕ) → 2 ≤ page → page < 16 → is_among page list ≡ false
  pub tables : (n page : ℕ) → is_owner (of_table n) (owner page) ≡ true → is_among page list ≡ false
  pub slots : (n page : ℕ) → slot ≢ n → is_owner (of_slot n) (owner page) ≡ true → is_among page list ≡ false

-- ---- the chain of one slot

pub record Restacked (pages : ℕ) (old new : Contents) (db : Database) (chains : List Chain) (slot : ℕ) (chain after : Chain) (s : Space) (owner : ℕ → Owner) (list : List ℕ) : Type 0 where
  pub is_there : slice_get chains slot ≡ Some chain
  pub directory : IsUndoDirectory (page_of new 1) (map ends_of (slice_set chains slot after))
  pub stands : IsUndoChain pages new after
  pub space : IsSpace pages new s
  pub tables : s.tables ≡ db.space.tables
  pub keeps : KeepsPages (λ page. is_among page list) old new
  pub spares : Spares owner slot list
  pub shared : OwnsSpace owner s
  pub trees : (place : ℕ) (t : FileTable) → slice_get db.tables place ≡ Some t → Owns owner (of_table (suc place)) (tree_pages t.tree)
  pub own : Owns owner (of_slot slot) (pages_of after)
  pub others : (n : ℕ) (c : Chain) → (slot ≡ n → ⊥) → slice_get chains n ≡ Some c → Owns owner (of_slot n) (pages_of c)
  pub known : (page : ℕ) → is_known (length db.tables) (owner page) ≡ true

pub restacked_holds : (pages : ℕ) (old new : Contents) (db : Database) (chains : List Chain) (slot : ℕ) (chain after : Chain) (s : Space) (owner : ℕ → Owner) (list : List ℕ) → Holds pages old db chains → Restacked pages old new db chains slot chain after s owner list
    → Holds pages new (with_space db s) (slice_set chains slot after)
restacked_holds pages old new db chains slot chain after s owner list was is = record {
  kept = record {
    catalogue = record {
      space_is = is.space;
      count = was.kept.catalogue.count ∙ sym is.tables;
      catalogue = local pages old new (map def_of db.tables) (λ page low high. is.keeps page (is.spares.catalogue page low high)) was.kept.catalogue.catalogue;
    };
    each = λ place t got. table_stays place t got;
    noted = was.kept.noted;
    owner = owner;
    shared = is.shared;
    trees = is.trees;
    known = is.known;
  };
  directory = is.directory;
  stands = each_set (λ n c. IsUndoChain pages new c) chains slot chain after is.is_there is.stands (λ n c differ got. chain_stays n c differ got);
  stacks = each_set (λ n (c : Chain). Owns owner (of_slot n) (pages_of c)) chains slot chain after is.is_there is.own (λ n c differ got. is.others n c differ got);
}
  where
    table_stays : (place : ℕ) (t : FileTable) → slice_get db.tables place ≡ Some t → IsFileTable pages new (suc place) t
    table_stays place t got =
        let had = was.kept.each place t got in
        let mine = is.trees place t got in
        record {
          number_is = had.number_is;
          tree = tree_same (λ page. is_among page list) pages old new (suc place) t.def.root.0 t.tree is.keeps (all_of (λ page. is_among page list ≡ false) (tree_pages t.tree) (λ page some. is.spares.tables (suc place) page (has_owner owner (of_table (suc place)) (tree_pages t.tree) page mine some))) had.tree;
          rows = had.rows;
          each = had.each;
        }

    chain_stays : (n : ℕ) (c : Chain) → (slot ≡ n → ⊥) → slice_get chains n ≡ Some c → IsUndoChain pages new c
    chain_stays n c differ got =
        let had = was.stands n c got in
        let mine = is.others n c differ got in
        let out = pages_all (λ page. is_among page list ≡ false) c (all_of (λ page. is_among page list ≡ false) (pages_of c) (λ page some. is.spares.slots n page differ (has_owner owner (of_slot n) (pages_of c) page mine some))) in
        record {
          linked = linked_same old new 0 0 c (λ k d h. is.keeps (get_or c k d).page (out k d h)) had.linked;
          inside = had.inside;
          once = had.once;
        }

-- ---- the same chains

-- A kept file has the same chains where page 1 and their pages have the same bytes, and each slot goes on to have its pages.
pub kept_holds : (pages : ℕ) (old new : Contents) (db after : Database) (chains : List Chain) (was : Holds pages old db chains) (kept : KeptFile pages new after)
    → page_of new 1 ≡ page_of old 1
    → ((slot page : ℕ) → is_owner (of_slot slot) (kept.owner page) ≡ true → page_of new page ≡ page_of old page)
    → ((slot : ℕ) (xs : List ℕ) → Owns was.kept.owner (of_slot slot) xs → Owns kept.owner (of_slot slot) xs)
    → Holds pages new after chains
kept_holds pages old new db after chains was kept head same owns = record {
  kept = kept;
  directory = subst (λ (bytes : List ℕ). IsUndoDirectory bytes (map ends_of chains)) (sym head) was.directory;
  stands = λ n c got. chain_stays n c got;
  stacks = λ n c got. owns n (pages_of c) (was.stacks n c got);
}
  where
    chain_stays : (n : ℕ) (c : Chain) → slice_get chains n ≡ Some c → IsUndoChain pages new c
    chain_stays n c got =
        let had = was.stands n c got in
        let their = owns n (pages_of c) (was.stacks n c got) in
        let stays = pages_all (λ page. page_of new page ≡ page_of old page) c (all_of (λ page. page_of new page ≡ page_of old page) (pages_of c) (λ page some. same n page (has_owner kept.owner (of_slot n) (pages_of c) page their some))) in
        record {
          linked = linked_same old new 0 0 c (λ k d h. stays k d h) had.linked;
          inside = had.inside;
          once = had.once;
        }

-- so has a file with these chains, where the old rows are the same
pub kept_chained : (pages : ℕ) (old new : Contents) (db after : Database) (chains : List Chain) (was : ChainedFile pages old db chains) (kept : KeptFile pages new after)
    → after.images ≡ db.images → page_of new 1 ≡ page_of old 1
    → ((slot page : ℕ) → is_owner (of_slot slot) (kept.owner page) ≡ true → page_of new page ≡ page_of old page)
    → ((slot : ℕ) (xs : List ℕ) → Owns was.holds.kept.owner (of_slot slot) xs → Owns kept.owner (of_slot slot) xs)
    → ChainedFile pages new after chains
kept_chained pages old new db after chains was kept images head same owns = record {
  holds = kept_holds pages old new db after chains was.holds kept head same owns;
  noted = ap (map old_of) images ∙ was.noted;
}

-- a slot has none of the pages that are nobody's
pub slot_somebody : (owner : ℕ → Owner) (slot page : ℕ) → is_owner (of_slot slot) (owner page) ≡ true → owner page ≢ nobody
slot_somebody owner slot page mine none = let bad : true ≡ false = sym mine ∙ ap (is_owner (of_slot slot)) none in let no : ⊥ = cc in no

-- ---- the tree of one table

abbrev pub table_now : FileTable → Tree → List FileRow → FileTable
table_now t tree rows = record { def = t.def; tree = tree; rows = rows }

abbrev pub space_now : ℕ → ℕ → Space → Space
space_now count bytes space = let s = taken_times count space in record s { bytes = bytes }

far_from_zero : (page : ℕ) → 1 ≤ page → is_page 0 page ≡ false
far_from_zero page some = grind (arith, some)

pub get_below : {X : Type 0} (xs : List X) (n : ℕ) (x : X) → slice_get xs n ≡ Some x → n < length xs
get_below [] n x is = cc
get_below (z ∷ xs) zero x is = omega arith
get_below (z ∷ xs) (suc n) x is = let rest = get_below xs n x is in omega (arith, rest)

pub regrown_holds : (pages : ℕ) (old new : Contents) (db : Database) (chains : List Chain) (place : ℕ) (t : FileTable) (tree : Tree) (rows : List FileRow) (count bytes : ℕ) (images : List FileImage)
    → Holds pages old db chains → slice_get db.tables place ≡ Some t → Regrown pages old new db place t tree rows count bytes
    → AllByRecursion (IsFileImage (slice_set db.tables place (table_now t tree rows))) images → Holds pages new (with_table db place (table_now t tree rows) (space_now count bytes db.space) images) chains
regrown_holds pages old new db chains place t tree rows count bytes images was is change images_are =
    kept_holds pages old new db (with_table db place (table_now t tree rows) (space_now count bytes db.space) images) chains was
    (kept_changed pages old new db place t tree rows count bytes images was.kept is change images_are)
    (change.others 1 (out_of 1 (omega arith) (not_owned (after_takes count db.space (suc place) was.kept.owner) (of_table (suc place)) (tree_pages tree) 1 mine (ap (is_owner (of_table (suc place))) (shared.first 1 (omega arith))))))
    (λ slot page has. change.others page (out_of page (from_one page (slot_somebody (after_takes count db.space (suc place) was.kept.owner) slot page has)) (not_owned (after_takes count db.space (suc place) was.kept.owner) (of_table (suc place)) (tree_pages tree) page mine (slot_table slot (suc place) (after_takes count db.space (suc place) was.kept.owner page) has))))
    (λ slot xs had. slots_stay count db.space (suc place) slot was.kept.owner xs was.kept.shared from had)
  where
    from : 16 ≤ db.space.fresh
    from = was.kept.catalogue.space_is.fresh_from

    shared : OwnsSpace (after_takes count db.space (suc place) was.kept.owner) (taken_times count db.space)
    shared = takes_shared count db.space (suc place) was.kept.owner was.kept.shared from

    mine : Owns (after_takes count db.space (suc place) was.kept.owner) (of_table (suc place)) (tree_pages tree)
    mine = takes_grow count db.space (suc place) was.kept.owner (tree_pages t.tree) (tree_pages tree) was.kept.shared from (was.kept.trees place t is) change.pages_are

    from_one : (page : ℕ) → (after_takes count db.space (suc place) was.kept.owner page ≢ nobody) → 1 ≤ page
    from_one zero some = absurd (some (shared.first 0 (omega arith)))
    from_one (suc page) some = omega arith

    out_of : (page : ℕ) → 1 ≤ page → times page (tree_pages tree) ≡ 0 → (is_page 0 page || is_among page (tree_pages tree)) ≡ false
    out_of page some none = both_out (is_page 0 page) (is_among page (tree_pages tree)) (far_from_zero page some) (not_among page (tree_pages tree) none)
