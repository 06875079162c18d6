-- A leaf in two, and the whole tree behind it.
use Rattle.std.proofs.Common.{◌≡◌, ℕ, zero, suc, ◌+◌, ◌<◌, ◌≤◌, ℤ, true, false, List, [], ◌∷◌, ◌++◌, drop, take, length, Option, Some, None, refl, sym, ◌∙◌, ap, subst, arith}
use Rattle.std.specs.Prelude.{All, FitsSigned, int_le, int_lt}
use Rattle.std.specs.Int.{w64}
use Rattle.std.proofs.lemmas.Int.{ints}
use Rattle.std.proofs.lemmas.List.{append_assoc, take-append-drop}
use Rattle.isp_base.specs.Lists.{times}
use Rattle.isp_cells.specs.LeafPages.{IsLeaf}
use Rattle.isp_cells.specs.Rows.{new_row, with_put}
use Rattle.isp_format.specs.Inner.{IsInnerPage, Name}
use Rattle.isp_format.specs.Leaf.{IsStored, Stored}
use Rattle.isp_format.specs.Ranges.{Contents, page_of}
use Rattle.isp_page.specs.State.{is_among}
use Rattle.isp_page.specs.Touched.{KeepsPages}
use Rattle.isp_space.specs.Spaces.{Space, free_pages, taken}
use Rattle.isp_levels.specs.Dividing.{halves, is_divided}
use Rattle.isp_levels.specs.Edits.{IsAt}
use Rattle.isp_levels.specs.Inners.{page_in_leaf}
use Rattle.isp_levels.specs.Levels.{InnerNode, IsTreeOf, LeavesStand, Ranged, TreeLeaf, all_rows, first_page, leaf_names, leaf_pages, least_key, level_pages, pick_leaf, tree_pages}
use Rattle.isp_levels.proofs.AmongLaws.{exchanged_at, picked_at, rows_append}
use Rattle.isp_levels.proofs.PageLaws.{leaf_pages_append, leaf_stands, times_append, times_itself}
use Rattle.isp_levels.proofs.WayLaws.{least_le}
use Rattle.isp_growth.specs.Entries.{with_name}
use Rattle.isp_growth.specs.Growing.{IsLacking, IsSpaceBeside, IsWhole, downs, grown_pages, ups}
use Rattle.isp_growth.proofs.BesideLaws.{are_taken, changes_one}
use Rattle.isp_growth.proofs.GrowLaws.{first_key_is, first_page_is, raised_root}
use Rattle.isp_growth.proofs.LeafGrow.{left_of, leaf_grown, lone_moved, parts_are, right_of}
use Rattle.isp_growth.proofs.SeamLaws.{downs_times, grown_times, tree_of, ups_long, ups_times, whole_of}
use Rattle.isp_halving.specs.Calls.{IsOutside}
use Rattle.isp_halving.specs.Halved.{IsLeafHalved, IsRaised}
use Rattle.isp_halving.specs.declared.Entry.{Entry}
use Rattle.isp_growing.specs.Grown.{CanGrow, IsGrown}
use Rattle.isp_growing.specs.Paths.{IsPathTo}
use Rattle.isp_growing.specs.declared.path.Path.{Path}
use Rattle.isp_growing.specs.Rising.{CanGoUp, HasGoneUp, HasTaken, IsOnPath}
use Rattle.isp_growing.specs.Taking.{moved_leaves}
use Rattle.isp_growing.proofs.RisingLaws.{goes_in, least_picked}
use Rattle.isp_growing.proofs.TakenLaws.{outside_of, fewer_out, free_taken, one_taken, taken_then}

-- ---- the same pages, by levels from above and from below

pub tree_times : (q : ℕ) (up below : List (List InnerNode)) (leaves : List TreeLeaf) → times q (tree_pages (downs up below) leaves) ≡ times q (grown_pages up below leaves)
tree_times q up below leaves =
    let one = times_append q (leaf_pages leaves) (level_pages (downs up below)) in
    let two = downs_times q up below in
    let three = grown_times q up below leaves in
    omega (arith, one, two, three)

pub ups_tree_times : (q : ℕ) (levels : List (List InnerNode)) (leaves : List TreeLeaf) → times q (grown_pages (ups levels []) [] leaves) ≡ times q (tree_pages levels leaves)
ups_tree_times q levels leaves =
    let one = times_append q (leaf_pages leaves) (level_pages levels) in
    let two = ups_times q levels [] in
    let three = grown_times q (ups levels []) [] leaves in
    omega (arith, one, two, three)

pub beside_same : (pages : ℕ) (contents : Contents) (all now : List ℕ) (s : Space) → ((q : ℕ) → times q now ≡ times q all) → IsSpaceBeside pages contents all s → IsSpaceBeside pages contents now s
beside_same pages contents all now s same b = record {
  is_space = b.is_space;
  once = λ q. let most = b.once q in let e = same q in omega (arith, most, e);
  used = λ q some. b.used q (let e = same q in omega (arith, some, e));
}

pub beside_up : (pages : ℕ) (contents : Contents) (levels : List (List InnerNode)) (leaves : List TreeLeaf) (s : Space) → IsSpaceBeside pages contents (tree_pages levels leaves) s → IsSpaceBeside pages contents (grown_pages (ups levels []) [] leaves) s
beside_up pages contents levels leaves s b = beside_same pages contents (tree_pages levels leaves) (grown_pages (ups levels []) [] leaves) s (λ q. ups_tree_times q levels leaves) b

-- ---- the leaf of the key

pub least_below : (key : ℤ) → FitsSigned w64 key → int_lt key least_key ≡ false
least_below key fits = by least_key (least_le key fits)
  where
    by : (l : ℤ) → int_le l key ≡ true → int_lt key l ≡ false
    by l from = grind (arith, ints)

pub leaf_page : (key : ℤ) (leaves : List TreeLeaf) (leaf : TreeLeaf) (page : ℕ) → pick_leaf key leaves ≡ Some leaf → page_in_leaf (pick_leaf key leaves) ≡ Some page → leaf.page ≡ page
leaf_page key leaves leaf page picked at = some_page leaf.page page (sym (ap page_in_leaf picked) ∙ at)
  where
    some_page : (a b : ℕ) → Some a ≡ Some b → a ≡ b
    some_page a b same = cc

pub leaf_there : (key : ℤ) (leaves : List TreeLeaf) (leaf : TreeLeaf) (up : List (List InnerNode)) → IsAt key leaves leaf → 1 ≤ times leaf.page (grown_pages up [] leaves)
leaf_there key leaves leaf up at =
    let a = grown_times leaf.page up [] leaves in
    let b = ap (λ (l : List TreeLeaf). times leaf.page (leaf_pages l)) at.is in
    let c = ap (times leaf.page) (leaf_pages_append at.before (leaf ∷ at.after)) in
    let d = times_append leaf.page (leaf_pages at.before) (leaf.page ∷ leaf_pages at.after) in
    let e = times_itself leaf.page (leaf_pages at.after) in
    omega (arith, a, b, c, d, e)

pub leaf_is : (contents : Contents) (table : ℕ) (key : ℤ) (leaves : List TreeLeaf) (leaf : TreeLeaf) (at : IsAt key leaves leaf) → LeavesStand contents table leaves → IsLeaf (page_of contents leaf.page) table leaf.page (first_page at.after) leaf.rows
leaf_is contents table key leaves leaf at stand = leaf_stands contents table at.before at.after leaf (subst (LeavesStand contents table) at.is stand)

-- ---- a leaf in two

-- the leaves with both parts of that one
abbrev pub parted : (key : ℤ) → List ℕ → (leaves : List TreeLeaf) → (leaf : TreeLeaf) → IsAt key leaves leaf → ℕ → List TreeLeaf
parted key row leaves leaf at page = at.before ++ (left_of key row leaf ∷ right_of key row page leaf ∷ at.after)

pub record LeafUp (pages : ℕ) (old mid : Contents) (table root : ℕ) (key : ℤ) (row : List ℕ) (up : List (List InnerNode)) (leaves : List TreeLeaf) (leaf : TreeLeaf) (at : IsAt key leaves leaf) (s : Space) (entry : Entry) : Type 0 where
  pub can : CanGoUp pages mid table root key up [] (parted key row leaves leaf at entry.page.0) (leaf.low, leaf.page) entry (taken s)
  pub has : HasTaken pages old mid (grown_pages up [] leaves) (grown_pages up [] (parted key row leaves leaf at entry.page.0)) s (suc zero)

each_joined : (rows : List Stored) (count : ℕ) → All IsStored (take count rows) → All IsStored (drop count rows) → All IsStored rows
each_joined rows count left right = subst (All IsStored) (take-append-drop count rows) (both (take count rows) (drop count rows) left right)
  where
    cons : (x : Stored) (xs : List Stored) → IsStored x → All IsStored xs → All IsStored (x ∷ xs)
    cons x xs first rest = search (arith, first, rest)

    both : (xs ys : List Stored) → All IsStored xs → All IsStored ys → All IsStored (xs ++ ys)
    both [] ys one other = other
    both (x ∷ xs) ys one other = cons x (xs ++ ys) (one 0 x (omega arith)) (both xs ys (λ k d h. one (suc k) d (omega (arith, h))) other)

pub leaf_up : (pages : ℕ) (old mid : Contents) (table root : ℕ) (key : ℤ) (row : List ℕ) (up : List (List InnerNode)) (leaves : List TreeLeaf) (leaf : TreeLeaf) (at : IsAt key leaves leaf) (s : Space) (entry : Entry) → IsWhole pages old table root up [] leaves → is_divided (with_put key row leaf.rows) ≡ true → int_lt key least_key ≡ false
    → IsSpaceBeside pages old (grown_pages up [] leaves) s → IsLeafHalved pages mid table leaf.page (first_page at.after) (with_put key row leaf.rows) s entry → entry.page.0 < pages → KeepsPages (λ q. is_among q (0 ∷ entry.page.0 ∷ leaf.page ∷ [])) old mid → LeafUp pages old mid table root key row up leaves leaf at s entry
leaf_up pages old mid table root key row up leaves leaf at s entry w large least b h inside keeps =
    let all = grown_pages up [] leaves in
    let page = entry.page.0 in
    let rows = with_put key row leaf.rows in
    let are = are_taken pages old all s page b h.is_next inside in
    let few = are.once page in
    let itself : times page (page ∷ []) ≡ 1 + times page [] = times_itself page [] in
    let each = each_joined rows (halves rows) h.left.page.each h.right_is.page.each in
    let divided = leaf_grown pages old mid table root key row up leaves leaf at page (0 ∷ page ∷ leaf.page ∷ []) w each large h.left h.right_is are (changes_one pages all leaf.page page w.parts.inside w.parts.once (omega (arith, few, itself))) keeps in
    let has = one_taken pages old mid all (grown_pages up [] (parted key row leaves leaf at page)) s page leaf.page b h.is_next h.is_space divided.pages_are (leaf_there key leaves leaf up at) keeps in
    record {
      can = record {
        lacks = subst (λ (k : ℤ). IsLacking pages mid table root key up [] (parted key row leaves leaf at page) (leaf.low, leaf.page) (k, page)) (sym h.key_is) divided.lacks;
        least = least;
        beside = has.beside;
      };
      has = has;
    }

-- ---- all rows, with the row put

parts_rows : (key : ℤ) (row : List ℕ) (leaf : TreeLeaf) (page : ℕ) (before after : List TreeLeaf) → all_rows (before ++ (left_of key row leaf ∷ right_of key row page leaf ∷ after)) ≡ all_rows (before ++ (record leaf { rows = with_put key row leaf.rows } ∷ after))
parts_rows key row leaf page before after =
    let rows = with_put key row leaf.rows in
    rows_append before (left_of key row leaf ∷ right_of key row page leaf ∷ after)
    ∙ ap (λ (l : List Stored). all_rows before ++ l) (sym (append_assoc (take (halves rows) rows) (drop (halves rows) rows) (all_rows after)) ∙ ap (λ (l : List Stored). l ++ all_rows after) (take-append-drop (halves rows) rows))
    ∙ sym (rows_append before (record leaf { rows = rows } ∷ after))

-- ---- the whole tree

pub finished : (pages : ℕ) (old new : Contents) (table root : ℕ) (key : ℤ) (row : List ℕ) (levels : List (List InnerNode)) (leaves : List TreeLeaf) (s : Space) (moved : Option ℕ) (stood : List TreeLeaf) (leaf : TreeLeaf) (at : IsAt key stood leaf) (page : ℕ) (up below : List (List InnerNode)) (count : ℕ) → moved_leaves moved leaves ≡ stood → all_rows stood ≡ all_rows leaves → Ranged stood
    → is_divided (with_put key row leaf.rows) ≡ true → IsWhole pages new table root up below (parted key row stood leaf at page) → count ≤ 35 → HasTaken pages old new (grown_pages (ups levels []) [] leaves) (grown_pages up below (parted key row stood leaf at page)) s count → IsGrown pages old new table root key row levels leaves s
finished pages old new table root key row levels leaves s moved stood leaf at page up below count stood_is rows_are ranged large w few has =
    let now = parted key row stood leaf at page in
    record {
      levels_now = downs up below;
      leaves_now = now;
      is_tree = tree_of pages new table root up below now w;
      rows = parts_rows key row leaf page at.before at.after ∙ sym (exchanged_at key (Some (new_row key row)) stood leaf at ranged) ∙ ap (with_put key row) rows_are;
      moved = moved;
      left = at.before;
      mid = leaf;
      right = at.after;
      stood = stood_is ∙ at.is;
      page = page;
      stand = ap (λ (l : List TreeLeaf). at.before ++ (l ++ at.after)) (sym (parts_are key row page leaf large));
      count = count;
      few = few;
      pages_are = λ q. let a = tree_times q up below now in let b = has.now_is q in let c = ups_tree_times q levels leaves in omega (arith, a, b, c);
      is_space = has.beside.is_space;
      others = λ q out. has.others q (fewer_out q (grown_pages up below now) (tree_pages (downs up below) now) (let a = tree_times q up below now in omega (arith, a)) out);
    }

-- behind a division on its way up
pub leaf_through : (pages : ℕ) (old mid new : Contents) (table root : ℕ) (key : ℤ) (row : List ℕ) (levels : List (List InnerNode)) (leaves : List TreeLeaf) (leaf : TreeLeaf) (at : IsAt key leaves leaf) (s : Space) (entry : Entry) → Ranged leaves → is_divided (with_put key row leaf.rows) ≡ true → length levels ≤ 15
    → (d : LeafUp pages old mid table root key row (ups levels []) leaves leaf at s entry) → length (ups levels []) ≡ length levels → HasGoneUp pages mid new table root (ups levels []) [] (parted key row leaves leaf at entry.page.0) (taken s) → IsGrown pages old new table root key row levels leaves s
leaf_through pages old mid new table root key row levels leaves leaf at s entry ranged large most d long gone =
    let few = gone.few in
    let has = taken_then pages old mid new (grown_pages (ups levels []) [] leaves) (grown_pages (ups levels []) [] (parted key row leaves leaf at entry.page.0)) (grown_pages gone.up_now gone.below_now (parted key row leaves leaf at entry.page.0)) s gone.count d.has gone.has in
    finished pages old new table root key row levels leaves s None leaves leaf at entry.page.0 gone.up_now gone.below_now (suc gone.count) refl refl ranged large gone.whole (omega (arith, few, most, long)) has

-- ---- a lone leaf moves before it is divided

pub record IsLone (root : ℕ) (leaves : List TreeLeaf) (leaf : TreeLeaf) : Type 0 where
  pub leaves_are : leaves ≡ leaf ∷ []
  pub page_is : leaf.page ≡ root
  pub low_is : leaf.low ≡ least_key

pub lone_of : (pages : ℕ) (contents : Contents) (table root : ℕ) (key : ℤ) (leaves : List TreeLeaf) (leaf : TreeLeaf) → IsTreeOf pages contents table root [] leaves → pick_leaf key leaves ≡ Some leaf → IsLone root leaves leaf
lone_of pages contents table root key leaves leaf is picked = by leaves is.levelled.leads (picked_at key leaves leaf picked)
  where
    two_names : (a b c : Name) (more : List Name) → a ∷ b ∷ more ≡ c ∷ [] → ⊥
    two_names a b c more same = let long : suc (suc (length more)) ≡ 1 = ap (λ (l : List Name). length l) same in omega (arith, long)

    alone : (x : TreeLeaf) (before after : List TreeLeaf) → x ∷ [] ≡ before ++ (leaf ∷ after) → x ≡ leaf
    alone x [] after same = cc
    alone x (y ∷ []) after same = let long : 1 ≡ suc (suc (length after)) = ap (λ (l : List TreeLeaf). length l) same in absurd (omega (arith, long))
    alone x (y ∷ z ∷ before) after same = let long : 1 ≡ suc (suc (length (before ++ (leaf ∷ after)))) = ap (λ (l : List TreeLeaf). length l) same in absurd (omega (arith, long))

    by : (leaves : List TreeLeaf) → (least_key, root) ∷ [] ≡ leaf_names leaves → IsAt key leaves leaf → IsLone root leaves leaf
    by [] names at = absurd (let no : (least_key, root) ∷ [] ≡ [] = names in cc)
    by (x ∷ y ∷ more) names at = absurd (two_names (x.low, x.page) (y.low, y.page) (least_key, root) (leaf_names more) (sym names))
    by (x ∷ []) names at =
        let same = alone x at.before at.after at.is in
        let name_is : ◌≡◌ {A = List Name} ((x.low, x.page) ∷ []) ((least_key, root) ∷ []) = sym names in
        subst (λ (l : TreeLeaf). IsLone root (x ∷ []) l) same (record { leaves_are = refl; page_is = first_page_is (x.low, x.page) (least_key, root) [] [] name_is; low_is = first_key_is (x.low, x.page) (least_key, root) [] [] name_is })

pub record LoneUp (pages : ℕ) (old mid : Contents) (table root : ℕ) (leaf : TreeLeaf) (s : Space) (to : ℕ) : Type 0 where
  pub whole : IsWhole pages mid table root ((raised_root root to ∷ []) ∷ []) [] (record leaf { page = to } ∷ [])
  pub has : HasTaken pages old mid (grown_pages [] [] (leaf ∷ [])) (grown_pages ((raised_root root to ∷ []) ∷ []) [] (record leaf { page = to } ∷ [])) s (suc zero)

pub lone_up : (pages : ℕ) (old mid : Contents) (table root : ℕ) (leaf : TreeLeaf) (s : Space) (to : ℕ) → IsTreeOf pages old table root [] (leaf ∷ []) → leaf.page ≡ root → IsSpaceBeside pages old (grown_pages [] [] (leaf ∷ [])) s → IsRaised pages mid table root 0 s to → IsLeaf (page_of mid to) table to 0 leaf.rows → to < pages
    → KeepsPages (λ q. is_among q (0 ∷ to ∷ root ∷ [])) old mid → LoneUp pages old mid table root leaf s to
lone_up pages old mid table root leaf s to is page_is b r stands inside keeps = record {
  whole = lone_moved pages old mid table root leaf [] to (whole_of pages old table root [] (leaf ∷ []) is) stands r.root_is (are_taken pages old all s to b r.is_next inside);
  has = one_taken pages old mid all now s to root b r.is_next r.is_space now_times there keeps;
}
  where
    all : List ℕ
    all = grown_pages [] [] (leaf ∷ [])

    now : List ℕ
    now = grown_pages ((raised_root root to ∷ []) ∷ []) [] (record leaf { page = to } ∷ [])

    now_times : (q : ℕ) → times q now ≡ times q all + times q (to ∷ [])
    now_times q =
        let a = ap (λ (r : ℕ). times q (r ∷ [])) page_is in
        let b = times_append q (to ∷ []) (root ∷ []) in
        let c = times_append q (leaf.page ∷ []) [] in
        omega (arith, a, b, c)

    there : 1 ≤ times root all
    there =
        let a = times_itself root [] in
        let b = ap (λ (r : ℕ). times root (r ∷ [])) page_is in
        let c = times_append root (leaf.page ∷ []) [] in
        omega (arith, a, b, c)

-- the leaf that moved, among the leaves
abbrev pub lone_at : (key : ℤ) (leaf : TreeLeaf) (to : ℕ) → int_lt key least_key ≡ false → leaf.low ≡ least_key → IsAt key (record leaf { page = to } ∷ []) (record leaf { page = to })
lone_at key leaf to least low = record { before = []; after = []; is = refl; near = ap (int_lt key) low ∙ least; under = tt }

-- ---- the steps at a lone leaf

module _ (pages : ℕ) (from : Contents) (table root : ℕ) (key : ℤ) (row : List ℕ) (leaves : List TreeLeaf) (s : Space) (leaf : TreeLeaf) (can : CanGrow pages from table root key row [] leaves s leaf) (least : int_lt key least_key ≡ false) where
  abbrev pub is_lone : IsLone root leaves leaf
  is_lone = lone_of pages from table root key leaves leaf can.is_tree can.picked

  abbrev pub lone_tree : IsTreeOf pages from table root [] (leaf ∷ [])
  lone_tree = subst (λ (l : List TreeLeaf). IsTreeOf pages from table root [] l) is_lone.leaves_are can.is_tree

  abbrev pub lone_beside : IsSpaceBeside pages from (grown_pages [] [] (leaf ∷ [])) s
  lone_beside = subst (λ (l : List TreeLeaf). IsSpaceBeside pages from (grown_pages [] [] l) s) is_lone.leaves_are (beside_up pages from [] leaves s can.beside)

  pub lone_stands : IsLeaf (page_of from root) table root 0 leaf.rows
  lone_stands = subst (λ (p : ℕ). IsLeaf (page_of from p) table p 0 leaf.rows) is_lone.page_is lone_tree.stand.0

  pub lone_apart : IsOutside root s
  lone_apart =
      let there : 1 ≤ times leaf.page (grown_pages [] [] (leaf ∷ [])) = let a = times_append leaf.page (leaf.page ∷ []) [] in let b = times_itself leaf.page [] in omega (arith, a, b) in
      outside_of pages from (grown_pages [] [] (leaf ∷ [])) s root lone_beside (subst (λ (p : ℕ). 1 ≤ times p (grown_pages [] [] (leaf ∷ []))) is_lone.page_is there)

  pub lone_raised : (pages_now : ℕ) (mid : Contents) (to : ℕ) → pages_now ≡ pages → IsRaised pages_now mid table root 0 s to → IsLeaf (page_of mid to) table to 0 leaf.rows → to < pages → KeepsPages (λ q. is_among q (0 ∷ to ∷ root ∷ [])) from mid → LoneUp pages from mid table root leaf s to
  lone_raised pages_now mid to shape r stands inside keeps =
      lone_up pages from mid table root leaf s to lone_tree is_lone.page_is lone_beside (subst (λ (n : ℕ). IsRaised n mid table root 0 s to) shape r) stands inside keeps

  -- where it moved
  abbrev pub moved_leaf : ℕ → TreeLeaf
  moved_leaf to = record leaf { page = to }

  abbrev pub moved_at : (to : ℕ) → IsAt key (moved_leaf to ∷ []) (moved_leaf to)
  moved_at to = lone_at key leaf to least is_lone.low_is

  abbrev pub root_up : ℕ → List (List InnerNode)
  root_up to = (raised_root root to ∷ []) ∷ []

  pub moved_stands_apart : (mid : Contents) (to : ℕ) → LoneUp pages from mid table root leaf s to → IsOutside to (taken s)
  moved_stands_apart mid to u = outside_of pages mid (grown_pages (root_up to) [] (moved_leaf to ∷ [])) (taken s) to u.has.beside (leaf_there key (moved_leaf to ∷ []) (moved_leaf to) (root_up to) (moved_at to))

  abbrev pub MovedUp : (mid next : Contents) (to : ℕ) (entry : Entry) → Type 0
  MovedUp mid next to entry = LeafUp pages mid next table root key row (root_up to) (moved_leaf to ∷ []) (moved_leaf to) (moved_at to) (taken s) entry

  pub moved_divided : (pages_now : ℕ) (mid next : Contents) (to : ℕ) (entry : Entry) → pages_now ≡ pages → LoneUp pages from mid table root leaf s to → IsLeafHalved pages_now next table to 0 (with_put key row leaf.rows) (taken s) entry → entry.page.0 < pages → KeepsPages (λ q. is_among q (0 ∷ entry.page.0 ∷ to ∷ [])) mid next → MovedUp mid next to entry
  moved_divided pages_now mid next to entry shape u h inside keeps =
      leaf_up pages mid next table root key row (root_up to) (moved_leaf to ∷ []) (moved_leaf to) (moved_at to) (taken s) entry u.whole can.large least u.has.beside
      (subst (λ (n : ℕ). IsLeafHalved n next table to 0 (with_put key row leaf.rows) (taken s) entry) shape h) inside keeps

  pub moved_root_stands : (mid next : Contents) (to : ℕ) (entry : Entry) → MovedUp mid next to entry → IsInnerPage (page_of next root) table root 1 ((least_key, to) ∷ [])
  moved_root_stands mid next to entry d = d.can.lacks.parts.above.0.0

  pub lone_whole : (pages_now : ℕ) (mid next last : Contents) (to : ℕ) (entry : Entry) → pages_now ≡ pages → LoneUp pages from mid table root leaf s to → MovedUp mid next to entry → IsInnerPage (page_of last root) table root 1 (with_name (entry.key, entry.page.0) ((least_key, to) ∷ [])) → KeepsPages (λ q. is_among q (root ∷ [])) next last
      → IsGrown pages_now from last table root key row [] leaves s
  lone_whole pages_now mid next last to entry shape u d stands keeps =
      let top : InnerNode = raised_root root to in
      let now = parted key row (moved_leaf to ∷ []) (moved_leaf to) (moved_at to) entry.page.0 in
      let gone = goes_in pages next last table root 1 key (top ∷ []) [] [] now (leaf.low, to) entry (taken (taken s)) top d.can refl (least_picked key top refl least) stands keeps in
      let few = gone.few in
      let second = taken_then pages mid next last (grown_pages (root_up to) [] (moved_leaf to ∷ [])) (grown_pages (root_up to) [] now) (grown_pages gone.up_now gone.below_now now) (taken s) gone.count d.has gone.has in
      let first = taken_then pages from mid last (grown_pages [] [] (leaf ∷ [])) (grown_pages (root_up to) [] (moved_leaf to ∷ [])) (grown_pages gone.up_now gone.below_now now) s (suc gone.count) u.has second in
      let has = subst (λ (l : List TreeLeaf). HasTaken pages from last (grown_pages [] [] l) (grown_pages gone.up_now gone.below_now now) s (suc (suc gone.count))) (sym is_lone.leaves_are) first in
      subst (λ (n : ℕ). IsGrown n from last table root key row [] leaves s) (sym shape)
      (finished pages from last table root key row [] leaves s (Some to) (moved_leaf to ∷ []) (moved_leaf to) (moved_at to) entry.page.0 gone.up_now gone.below_now (suc (suc gone.count)) (ap (moved_leaves (Some to)) is_lone.leaves_are) (sym (ap all_rows is_lone.leaves_are)) u.whole.parts.ranged can.large gone.whole (omega (arith, few)) has)

-- ---- the steps at a leaf among others

module _ (pages : ℕ) (from : Contents) (table root : ℕ) (key : ℤ) (row : List ℕ) (levels : List (List InnerNode)) (leaves : List TreeLeaf) (s : Space) (leaf : TreeLeaf) (can : CanGrow pages from table root key row levels leaves s leaf) (least : int_lt key least_key ≡ false) where
  abbrev pub leaf_at : IsAt key leaves leaf
  leaf_at = picked_at key leaves leaf can.picked

  abbrev pub beside_here : IsSpaceBeside pages from (grown_pages (ups levels []) [] leaves) s
  beside_here = beside_up pages from levels leaves s can.beside

  pub leaf_here : (page : ℕ) → leaf.page ≡ page → IsLeaf (page_of from page) table page (first_page leaf_at.after) leaf.rows
  leaf_here page is = subst (λ (p : ℕ). IsLeaf (page_of from p) table p (first_page leaf_at.after) leaf.rows) is (leaf_is from table key leaves leaf leaf_at can.is_tree.stand)

  pub leaf_apart : (page : ℕ) → leaf.page ≡ page → IsOutside page s
  leaf_apart page is = subst (λ (p : ℕ). IsOutside p s) is (outside_of pages from (grown_pages (ups levels []) [] leaves) s leaf.page beside_here (leaf_there key leaves leaf (ups levels []) leaf_at))

  abbrev pub DividedLeaf : (mid : Contents) (entry : Entry) → Type 0
  DividedLeaf mid entry = LeafUp pages from mid table root key row (ups levels []) leaves leaf leaf_at s entry

  pub leaf_divided : (pages_now : ℕ) (old mid : Contents) (page : ℕ) (entry : Entry) → pages_now ≡ pages → old ≡ from → leaf.page ≡ page → IsLeafHalved pages_now mid table page (first_page leaf_at.after) (with_put key row leaf.rows) s entry → entry.page.0 < pages → KeepsPages (λ q. is_among q (0 ∷ entry.page.0 ∷ page ∷ [])) old mid → DividedLeaf mid entry
  leaf_divided pages_now old mid page entry shape same is h inside keeps =
      let kept = subst (λ (c : Contents). KeepsPages (λ q. is_among q (0 ∷ entry.page.0 ∷ page ∷ [])) c mid) same keeps in
      let here = subst (λ (n : ℕ). IsLeafHalved n mid table page (first_page leaf_at.after) (with_put key row leaf.rows) s entry) shape h in
      leaf_up pages from mid table root key row (ups levels []) leaves leaf leaf_at s entry (whole_of pages from table root levels leaves can.is_tree) can.large least beside_here
      (subst (λ (p : ℕ). IsLeafHalved pages mid table p (first_page leaf_at.after) (with_put key row leaf.rows) s entry) (sym is) here) inside (subst (λ (p : ℕ). KeepsPages (λ q. is_among q (0 ∷ entry.page.0 ∷ p ∷ [])) from mid) (sym is) kept)

  pub path_here : (path : Path) → IsPathTo key levels leaves path → IsOnPath key path 1 (ups levels []) []
  path_here path to = let long = ups_long levels [] in let high = to.height in record { pages_are = to.above; level_is = refl; height_is = omega (arith, long, high) }

  pub free_here : length (ups levels []) < free_pages pages (taken s)
  free_here = let long = ups_long levels [] in let most = can.is_tree.most in let free = can.free in free_taken pages (length (ups levels [])) s can.beside.is_space.fresh_to (omega (arith, long, most, free))

  pub leaf_whole : (pages_now : ℕ) (mid last : Contents) (entry : Entry) → pages_now ≡ pages → DividedLeaf mid entry → HasGoneUp pages_now mid last table root (ups levels []) [] (parted key row leaves leaf leaf_at entry.page.0) (taken s) → IsGrown pages_now from last table root key row levels leaves s
  leaf_whole pages_now mid last entry shape d gone =
      let long = ups_long levels [] in
      let gone_here = subst (λ (n : ℕ). HasGoneUp n mid last table root (ups levels []) [] (parted key row leaves leaf leaf_at entry.page.0) (taken s)) shape gone in
      subst (λ (n : ℕ). IsGrown n from last table root key row levels leaves s) (sym shape)
      (leaf_through pages from mid last table root key row levels leaves leaf leaf_at s entry can.is_tree.levelled.ranged can.large can.is_tree.most d (omega (arith, long)) gone_here)

-- ---- a tree without levels above its leaf

pub no_levels : (levels : List (List InnerNode)) (height : ℕ) → height ≡ length levels → height ≡ 0 → levels ≡ []
no_levels [] height is none = refl
no_levels (level ∷ levels) height is none = let long : height ≡ suc (length levels) = is in absurd (omega (arith, long, none))

pub can_at : (pages pages_now : ℕ) (old now : Contents) (table root : ℕ) (key : ℤ) (row : List ℕ) (levels : List (List InnerNode)) (leaves : List TreeLeaf) (s : Space) (leaf : TreeLeaf) → pages_now ≡ pages → now ≡ old → levels ≡ [] → CanGrow pages old table root key row levels leaves s leaf → CanGrow pages_now now table root key row [] leaves s leaf
can_at pages pages_now old now table root key row levels leaves s leaf shape same none can =
    subst (λ (n : ℕ). CanGrow n now table root key row [] leaves s leaf) (sym shape)
    (subst (λ (c : Contents). CanGrow pages c table root key row [] leaves s leaf) (sym same)
    (subst (λ (l : List (List InnerNode)). CanGrow pages old table root key row l leaves s leaf) none can))

pub grown_at : (pages : ℕ) (old mid new : Contents) (table root : ℕ) (key : ℤ) (row : List ℕ) (levels : List (List InnerNode)) (leaves : List TreeLeaf) (s : Space) → mid ≡ old → levels ≡ [] → IsGrown pages mid new table root key row [] leaves s → IsGrown pages old new table root key row levels leaves s
grown_at pages old mid new table root key row levels leaves s same none grown =
    subst (λ (l : List (List InnerNode)). IsGrown pages old new table root key row l leaves s) (sym none) (subst (λ (c : Contents). IsGrown pages c new table root key row [] leaves s) same grown)
