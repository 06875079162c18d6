-- A leaf in two, and a lone leaf that moves.
use Rattle.std.proofs.Common.{◌≡◌, ℕ, zero, suc, ◌+◌, ◌<◌, ◌≤◌, ℤ, Bool, true, List, [], ◌∷◌, ◌++◌, drop, length, take, Some, refl, sym, ◌∙◌, ap, subst, arith, if◌then◌else◌}
use Rattle.std.specs.Prelude.{All, nat_lt}
use Rattle.std.proofs.lemmas.Bool.Decides.{nat_tests}
use Rattle.std.proofs.lemmas.List.{length-drop, length-take, take-append-drop}
use Rattle.isp_base.specs.Lists.{times}
use Rattle.isp_cells.specs.LeafPages.{IsLeaf}
use Rattle.isp_cells.specs.Rows.{bytes_in, new_row, with_put}
use Rattle.isp_format.specs.Inner.{IsInnerPage, Name}
use Rattle.isp_format.specs.Leaf.{IsStored, Stored}
use Rattle.isp_format.specs.Ranges.{Contents, page_of}
use Rattle.isp_page.specs.State.{is_among}
use Rattle.isp_page.specs.Touched.{KeepsPages}
use Rattle.isp_levels.specs.Dividing.{first_key, halves, is_divided, on_leaf, with_row_put}
use Rattle.isp_levels.specs.Edits.{IsAt, KeyBelow}
use Rattle.isp_levels.specs.Levels.{InnerNode, IsUnder, Ranged, TreeLeaf, first_page, leaf_names, leaf_pages, least_key}
use Rattle.isp_levels.proofs.DividingLaws.{halved, leaf_names_append}
use Rattle.isp_levels.proofs.PageLaws.{leaf_pages_append, times_append}
use Rattle.isp_levels.proofs.RangeLaws.{ranged_divided, ranged_exchanged}
use Rattle.isp_growth.specs.Growing.{IsLacking, IsWhole, Linked, Parts, grown_pages}
use Rattle.isp_growth.proofs.GrowLaws.{first_key_is, first_page_is, raised_root}
use Rattle.isp_growth.proofs.SeamLaws.{grown_times}
use Rattle.isp_growth.proofs.StepLaws.{AreTaken, ChangesOne, leaf_changed}

-- ---- a leaf in two

-- rows in two parts, neither of which is empty
pub record TwoParts (rows : List Stored) : Type 0 where
  pub r : Stored
  pub xs : List Stored
  pub s : Stored
  pub ys : List Stored
  pub left_is : take (halves rows) rows ≡ r ∷ xs
  pub right_is : drop (halves rows) rows ≡ s ∷ ys
  pub rows_are : rows ≡ (r ∷ xs) ++ (s ∷ ys)

some_row : (rows : List Stored) → 1 ≤ length rows → (s : Stored) × (ys : List Stored) × (rows ≡ s ∷ ys)
some_row [] some = absurd (omega (arith, some))
some_row (s ∷ rows) some = (s, rows, refl)

is_large : (n : ℕ) → nat_lt 4032 n ≡ true → 4032 < n
is_large n is = grind (arith, nat_tests, is)

pub two_parts : (rows : List Stored) → All IsStored rows → is_divided rows ≡ true → TwoParts rows
two_parts rows each large =
    let h = halved rows each (is_large (bytes_in rows) large) in
    let left_some = h.left_some in
    let right_some = h.right_some in
    let left_long = length-take (halves rows) rows in
    let right_long = length-drop (halves rows) rows in
    let left = some_row (take (halves rows) rows) (omega (arith, left_some, right_some, left_long)) in
    let right = some_row (drop (halves rows) rows) (omega (arith, right_some, right_long)) in
    record {
      r = left.0;
      xs = left.1;
      s = right.0;
      ys = right.1;
      left_is = left.2;
      right_is = right.2;
      rows_are = sym (take-append-drop (halves rows) rows) ∙ (λ i. left.2 i ++ right.2 i);
    }

leaves_under : (key : ℤ) (leaves : List TreeLeaf) → KeyBelow key leaves → IsUnder key (leaf_names leaves)
leaves_under key [] under = tt
leaves_under key (leaf ∷ leaves) under = (under.0, leaves_under key leaves under.1)

-- the parts of a leaf once a row is put
abbrev pub left_of : ℤ → List ℕ → TreeLeaf → TreeLeaf
left_of key row leaf = record leaf { rows = take (halves (with_put key row leaf.rows)) (with_put key row leaf.rows) }

abbrev pub right_of : ℤ → List ℕ → ℕ → TreeLeaf → TreeLeaf
right_of key row page leaf = record { page = page; low = first_key (drop (halves (with_put key row leaf.rows)) (with_put key row leaf.rows)); rows = drop (halves (with_put key row leaf.rows)) (with_put key row leaf.rows) }

pub parts_are : (key : ℤ) (row : List ℕ) (page : ℕ) (leaf : TreeLeaf) → is_divided (with_put key row leaf.rows) ≡ true → with_row_put key row page leaf ≡ left_of key row leaf ∷ right_of key row page leaf ∷ []
parts_are key row page leaf is = ap (λ (b : Bool). if b then left_of key row leaf ∷ right_of key row page leaf ∷ [] else on_leaf (with_put key row) leaf ∷ []) is

pub record IsDividedLeaf (pages : ℕ) (new : Contents) (table root : ℕ) (key : ℤ) (row : List ℕ) (up : List (List InnerNode)) (before after : List TreeLeaf) (leaf : TreeLeaf) (taken : ℕ) (all : List ℕ) : Type 0 where
  pub lacks : IsLacking pages new table root key up [] (before ++ (left_of key row leaf ∷ right_of key row taken leaf ∷ after)) (leaf.low, leaf.page) ((right_of key row taken leaf).low, taken)
  pub pages_are : (page : ℕ) → times page (grown_pages up [] (before ++ (left_of key row leaf ∷ right_of key row taken leaf ∷ after))) ≡ times page all + times page (taken ∷ [])

pub leaf_grown : (pages : ℕ) (old new : Contents) (table root : ℕ) (key : ℤ) (row : List ℕ) (up : List (List InnerNode)) (leaves : List TreeLeaf) (leaf : TreeLeaf) (at : IsAt key leaves leaf) (taken : ℕ) (ps : List ℕ) → IsWhole pages old table root up [] leaves → All IsStored (with_put key row leaf.rows) → is_divided (with_put key row leaf.rows) ≡ true
    → IsLeaf (page_of new leaf.page) table leaf.page taken (left_of key row leaf).rows → IsLeaf (page_of new taken) table taken (first_page at.after) (right_of key row taken leaf).rows
    → AreTaken pages (grown_pages up [] leaves) (taken ∷ []) → ChangesOne ps leaf.page (grown_pages up [] leaves) → KeepsPages (λ page. is_among page ps) old new
    → IsDividedLeaf pages new table root key row up at.before at.after leaf taken (grown_pages up [] leaves)
leaf_grown pages old new table root key row up leaves leaf at taken ps w each large stands_left stands_right are one keeps =
    let before = at.before in
    let after = at.after in
    let rows = with_put key row leaf.rows in
    let left = left_of key row leaf in
    let right = right_of key row taken leaf in
    let two = two_parts rows each large in
    let was : Parts pages old table up [] (before ++ (leaf ∷ after)) = subst (λ (l : List TreeLeaf). Parts pages old table up [] l) at.is w.parts in
    let put : Ranged (before ++ (record leaf { rows = rows } ∷ after)) = ranged_exchanged before after leaf key (Some (new_row key row)) refl at.near at.under was.ranged in
    let low : right.low ≡ two.s.key = ap first_key two.right_is in
    let ranged : Ranged (before ++ (left ∷ right ∷ after)) = ranged_divided before after (record leaf { rows = rows }) left right two.r two.s two.xs two.ys two.rows_are refl two.left_is low two.right_is put in
    let are_here : AreTaken pages (grown_pages up [] (before ++ (leaf ∷ after))) (taken ∷ []) = subst (λ (l : List TreeLeaf). AreTaken pages (grown_pages up [] l) (taken ∷ [])) at.is are in
    let one_here : ChangesOne ps leaf.page (grown_pages up [] (before ++ (leaf ∷ after))) = subst (λ (l : List TreeLeaf). ChangesOne ps leaf.page (grown_pages up [] l)) at.is one in
    let names : leaf_names leaves ≡ leaf_names before ++ ((leaf.low, leaf.page) ∷ leaf_names after) = ap leaf_names at.is ∙ leaf_names_append before (leaf ∷ after) in
    record {
      lacks = record {
        before = leaf_names before;
        after = leaf_names after;
        upper = subst (Linked root up) (w.lower ∙ names) w.upper;
        lower = sym (leaf_names_append before (left ∷ right ∷ after));
        near = at.near;
        under = leaves_under key after at.under;
        parts = leaf_changed pages old new table before after (left ∷ right ∷ []) leaf up ps (taken ∷ []) was refl ranged refl (λ behind. (stands_left, (stands_right, behind))) are_here one_here keeps;
      };
      pages_are = λ q.
          let a = grown_times q up [] (before ++ (left ∷ right ∷ after)) in
          let b = grown_times q up [] leaves in
          let c = ap (times q) (leaf_pages_append before (left ∷ right ∷ after)) in
          let d = ap (λ (l : List TreeLeaf). times q (leaf_pages l)) at.is in
          let e = ap (times q) (leaf_pages_append before (leaf ∷ after)) in
          let f = times_append q (leaf_pages before) (leaf.page ∷ taken ∷ leaf_pages after) in
          let g = times_append q (leaf_pages before) (leaf.page ∷ leaf_pages after) in
          omega (arith, a, b, c, d, e, f, g);
    }

-- ---- a lone leaf moves, and its page becomes a root above it

pub lone_moved : (pages : ℕ) (old new : Contents) (table root : ℕ) (leaf : TreeLeaf) (leaves : List TreeLeaf) (taken : ℕ) → IsWhole pages old table root [] [] (leaf ∷ leaves) → IsLeaf (page_of new taken) table taken 0 leaf.rows → IsInnerPage (page_of new root) table root 1 ((least_key, taken) ∷ [])
    → AreTaken pages (grown_pages [] [] (leaf ∷ leaves)) (taken ∷ []) → IsWhole pages new table root ((raised_root root taken ∷ []) ∷ []) [] (record leaf { page = taken } ∷ [])
lone_moved pages old new table root leaf (next ∷ leaves) taken w stands_leaf stands_root are =
    let names : ◌≡◌ {A = List Name} ((leaf.low, leaf.page) ∷ (next.low, next.page) ∷ leaf_names leaves) ((least_key, root) ∷ []) = sym w.lower ∙ w.upper in
    absurd (two_names (leaf.low, leaf.page) (next.low, next.page) (least_key, root) (leaf_names leaves) names)
  where
    two_names : (a b c : Name) (more : List Name) → a ∷ b ∷ more ≡ c ∷ [] → ⊥
    two_names a b c more same = let long : suc (suc (length more)) ≡ 1 = ap (λ (l : List Name). length l) same in omega (arith, long)
lone_moved pages old new table root leaf [] taken w stands_leaf stands_root are = record {
  seam = (leaf.low, taken) ∷ [];
  upper = ((λ i. (sym low i, taken) ∷ []), refl);
  lower = refl;
  parts = record {
    begin_up = ((refl, tt), tt);
    begin_below = tt;
    forked = (tt, tt);
    ranged = p.ranged;
    above = ((stands_root, tt), tt);
    inner = tt;
    stand = (stands_leaf, tt);
    inside = λ page some. by_inside page (let e = now_times page in omega (arith, some, e));
    once = λ page. let few = are.once page in let e = now_times page in omega (arith, few, e);
    most = omega arith;
  };
}
  where
    p : Parts pages old table [] [] (leaf ∷ [])
    p = w.parts

    name_is : ◌≡◌ {A = List Name} ((leaf.low, leaf.page) ∷ []) ((least_key, root) ∷ [])
    name_is = sym w.lower ∙ w.upper

    low : leaf.low ≡ least_key
    low = first_key_is (leaf.low, leaf.page) (least_key, root) [] [] name_is

    page_is : leaf.page ≡ root
    page_is = first_page_is (leaf.low, leaf.page) (least_key, root) [] [] name_is

    now_times : (q : ℕ) → times q (grown_pages ((raised_root root taken ∷ []) ∷ []) [] (record leaf { page = taken } ∷ [])) ≡ times q (grown_pages [] [] (leaf ∷ [])) + times q (taken ∷ [])
    now_times q =
        let a = ap (λ (r : ℕ). times q (r ∷ [])) page_is in
        let b = times_append q (taken ∷ []) (root ∷ []) in
        let c = times_append q (leaf.page ∷ []) [] in
        omega (arith, a, b, c)

    by_inside : (page : ℕ) → 1 ≤ times page (grown_pages [] [] (leaf ∷ [])) + times page (taken ∷ []) → (16 ≤ page) × (page < pages)
    by_inside page some = either (times page (grown_pages [] [] (leaf ∷ []))) (times page (taken ∷ [])) some (p.inside page) (are.inside page)
      where
        either : (a b : ℕ) → 1 ≤ a + b → (1 ≤ a → (16 ≤ page) × (page < pages)) → (1 ≤ b → (16 ≤ page) × (page < pages)) → (16 ≤ page) × (page < pages)
        either zero b some first second = second (omega (arith, some))
        either (suc a) b some first second = first (omega arith)
