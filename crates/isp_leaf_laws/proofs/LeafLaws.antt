-- Which entries lie on leaves after a step, and their numbers.
use Rattle.std.proofs.Common.{◌≡◌, ◌⊎◌, inl, inr, ◌↔◌, ℕ, suc, ◌+◌, ◌==◌, Bool, true, false, cond, Option, Some, None, List, [], ◌∷◌, ◌++◌, map, reverse, refl, ap, sym, ◌∙◌, arith, subst, eqb-true, eq-eqb, ℤ, IsPermutation}
use Rattle.std.specs.Prelude.{filter, not, sum_by}
use Rattle.std.specs.List.{cons_option}
use Rattle.std.proofs.lemmas.List.Elements.{filter_map-append}
use Rattle.std.proofs.lemmas.List.Sorted.{sum_by-IsPermutation}
use Rattle.std.proofs.lemmas.List.Sums.{sum_by-cons}
use Rattle.isp_mbr.specs.Corners.{Corners}
use Rattle.isp_mbr.specs.Boxes.{IsBox}
use Rattle.isp_forest.specs.declared.entry.Entry.{Entry}
use Rattle.isp_forest.specs.declared.entry.To.{To}
use Rattle.isp_forest.specs.declared.entry.To.TheVariants.{Child, Row}
use Rattle.isp_base.specs.Lists.{Has, times}
use Rattle.isp_forest.specs.Tree.{Node, Tree, page_at, page_in, numbers, least}
use Rattle.isp_forest.specs.Forest.{Forest}
use Rattle.isp_forest.specs.Steps.{put, each, is_last, entry_for, widened, added_to, add, raised, raise, reboxed, split, is_row, without, remove}
use Rattle.isp_forest.specs.Place.{EndsOnLeaf, Stands, IsFree, CanRaise, CanSplit, CanRelieve, Division, relieve, place}
use Rattle.isp_laws.proofs.ListLaws.{Has-append_right, Has-filter, times-append}
use Rattle.isp_laws.proofs.PageLaws.{Before, before, after_each, page_in-put_other, page_in-each, changed, total, total_once, total_none, times_there}
use Rattle.isp_laws.proofs.AddLaws.{fresh, add_keeps}
use Rattle.isp_laws.proofs.RaiseLaws.{lifted, moved, made, turned, apart, raise_keeps}
use Rattle.isp_laws.proofs.SplitLaws.{Splitting, kept, gone, round, one_round, with_kept, with_gone, after_split, split_is, split_keeps, n_not_o}
use Rattle.isp_laws.proofs.PlaceLaws.{can_raise}
use Rattle.isp_searches.specs.SearchLaws.{IsOnLeaf}
use Rattle.isp_leaf_laws.specs.TreeLaws.{IsOnPage, IsKept}
use Rattle.isp_leaf_laws.specs.LeafLaws.{IsAdded, SameOnLeaves, OneMoreOnLeaves, OthersOnLeaves, number_in, row_numbers, leaf_numbers, SameNumbers, OneMoreNumber, WithoutNumber}
use Rattle.isp_leaf_laws.proofs.SumLaws.{sum_pages, sum-put, sum-put_new, sum-each, sum-numbers, total-same}
use Rattle.isp_leaf_laws.proofs.OnPageLaws.{row_is_no_child, IsOnSome, kept_at_add, was_at_add, kept_at_raise, was_at_raise, kept_at_split, was_at_split}

-- ---- a leaf is a page of level 0

as_on_page : (tree : Tree) (e : Entry) (k : ℤ) (n : ℕ) (x : IsOnLeaf tree e k n) → IsOnPage tree x.p 0 e
as_on_page tree e k n x = record { page = x.leaf; there = x.there; same_level = x.level; has = x.has }

as_on_leaf : (tree : Tree) (p : ℕ) (e : Entry) (k : ℤ) (n : ℕ) → IsOnPage tree p 0 e → e.to ≡ Row k n → IsOnLeaf tree e k n
as_on_leaf tree p e k n x to = record { p = p; leaf = x.page; there = x.there; level = x.same_level; has = x.has; to = to }

-- ---- which entries: raise and split

pub raise_on_leaves : (tree : Tree) (forest : Forest tree) (q : ℕ) → IsFree tree q → SameOnLeaves tree (raise tree q)
raise_on_leaves tree forest q free = subst (λ (t : Tree). SameOnLeaves tree t) (sym (made tree q forest.top forest.rooted)) (λ e k n. (
  λ x. (let was : IsOnSome tree 0 e = was_at_raise tree forest q x.p 0 e k n (as_on_page (raised tree q (Some forest.top)) e k n x) x.to in as_on_leaf tree was.p e k n was.on x.to),
  λ x. (let is : IsKept (raised tree q (Some forest.top)) x.p 0 e (q ∷ []) = kept_at_raise tree forest q x.p 0 e free (as_on_page tree e k n x) in
      as_on_leaf (raised tree q (Some forest.top)) is.q e k n is.on x.to),
))

parted_on_leaves : (c : Splitting) → SameOnLeaves c.tree (after_split c)
parted_on_leaves c = λ e k n. (
  λ x. (let was : IsOnSome c.tree 0 e = was_at_split c x.p 0 e k n (as_on_page (after_split c) e k n x) x.to in as_on_leaf c.tree was.p e k n was.on x.to),
  λ x. (let is : IsKept (after_split c) x.p 0 e (c.n ∷ []) = kept_at_split c x.p 0 e (as_on_page c.tree e k n x) (row_is_no_child (λ z. z == c.o) e k n x.to) in
      as_on_leaf (after_split c) is.q e k n is.on x.to),
)

pub split_on_leaves : (tree : Tree) (o above : ℕ) (left right : List Entry) (n : ℕ) → Forest tree → CanSplit tree o above left right n → SameOnLeaves tree (split tree o above left right n)
split_on_leaves tree o above left right n forest can =
    let c : Splitting = record { tree = tree; forest = forest; o = o; above = above; n = n; left = left; right = right; can = can } in
    subst (λ (t : Tree). SameOnLeaves tree t) (sym (split_is c)) (parted_on_leaves c)

-- ---- add

record Last (tree : Tree) (path : List ℕ) : Type 0 where
  p : ℕ
  leaf : Node
  there : page_at tree p ≡ Some leaf
  level : leaf.level ≡ 0
  is : (q : ℕ) → is_last path q ≡ (q == p)

the_last : (tree : Tree) (path : List ℕ) → EndsOnLeaf tree path → Last tree path
the_last tree [] h = absurd h
the_last tree (p ∷ []) h = record { p = p; leaf = h.0; there = h.1; level = h.2; is = λ q. swapped p q }
  where
    swapped : (p q : ℕ) → (p == q) ≡ (q == p)
    swapped p q = elim (p == q) as (λ b. (p == q) ≡ b → b ≡ (q == p)) [
      | true ↦ λ t. sym (eq-eqb q p (sym (eqb-true p q t)))
      | false ↦ λ t. sym (turned p q t)
    ] refl
the_last tree (p ∷ r ∷ rest) h = let l : Last tree (r ∷ rest) = the_last tree (r ∷ rest) h in record { p = l.p; leaf = l.leaf; there = l.there; level = l.level; is = l.is }

same_row : (key key' : ℤ) (number number' : ℕ) → Row key number ≡ Row key' number' → (key ≡ key') × (number ≡ number')
same_row key key' number number' h = (cc, cc)

pub add_on_leaves : (tree : Tree) (path : List ℕ) (box : Corners) (key : ℤ) (number : ℕ) → Stands tree path → OneMoreOnLeaves tree (add tree path box key number) box key number
add_on_leaves tree path box key number stands = λ e k n. (λ x. was e k n x, λ h. is e k n h)
  where
    was : (e : Entry) (k : ℤ) (n : ℕ) → IsOnLeaf (add tree path box key number) e k n → IsOnLeaf tree e k n ⊎ IsAdded box key number e k n
    was e k n x = elim (was_at_add tree path box key number x.p 0 e k n (as_on_page (add tree path box key number) e k n x) x.to) [
      | inl on ↦ inl (as_on_leaf tree x.p e k n on x.to)
      | inr new ↦ (let rows : Row k n ≡ Row key number = sym x.to ∙ ap (λ (z : Entry). z.to) new in
          let same : (k ≡ key) × (n ≡ number) = same_row k key n number rows in
          inr (record { entry = new; same_key = same.0; same_number = same.1 }))
    ]

    last : Last tree path
    last = the_last tree path stands.leaf

    there : IsOnLeaf (add tree path box key number) (record { b = box; to = Row key number }) key number
    there = record {
      p = last.p;
      leaf = added_to path box key number last.p last.leaf;
      there = after_each (added_to path box key number) tree.pages last.p last.leaf last.there;
      level = last.level;
      has = Has-append_right (map (widened path box) last.leaf.entries) (fresh (is_last path last.p) box key number) (record { b = box; to = Row key number })
          (here (is_last path last.p) (last.is last.p ∙ eq-eqb last.p last.p refl));
      to = refl;
    }
      where
        here : (b : Bool) → b ≡ true → Has (fresh b box key number) (record { b = box; to = Row key number })
        here true h = inl refl
        here false h = let no : ⊥ = cc in absurd no

    is : (e : Entry) (k : ℤ) (n : ℕ) → IsOnLeaf tree e k n ⊎ IsAdded box key number e k n → IsOnLeaf (add tree path box key number) e k n
    is e k n (inl x) = as_on_leaf (add tree path box key number) x.p e k n
        (kept_at_add tree path box key number x.p 0 e (as_on_page tree e k n x) (row_is_no_child (Rattle.isp_forest.specs.Steps.is_among path) e k n x.to)) x.to
    is e k n (inr a) =
        let P : Entry → ℤ → ℕ → Type 0 = λ z i j. IsOnLeaf (add tree path box key number) z i j in
        let a1 : IsOnLeaf (add tree path box key number) e key number = subst (λ (z : Entry). P z key number) (sym a.entry) there in
        let a2 : IsOnLeaf (add tree path box key number) e k number = subst (λ (z : ℤ). P e z number) (sym a.same_key) a1 in
        subst (λ (z : ℕ). P e k z) (sym a.same_number) a2

-- ---- remove

stays : (number : ℕ) (es : List Entry) (e : Entry) → Has es e → not (is_row number e.to) ≡ true → Has (filter (λ x. not (is_row number x.to)) es) e
stays number [] e h t = absurd h
stays number (z ∷ es) e (inl same) t =
    let t' : not (is_row number z.to) ≡ true = ap (λ (x : Entry). not (is_row number x.to)) same ∙ t in rw t' (inl same)
stays number (z ∷ es) e (inr h) t = one (not (is_row number z.to)) (stays number es e h t)
  where
    one : (b : Bool) → Has (filter (λ x. not (is_row number x.to)) es) e
        → Has (cond b (z ∷ filter (λ x. not (is_row number x.to)) es) (filter (λ x. not (is_row number x.to)) es)) e
    one true k = inr k
    one false k = k

passed : (number : ℕ) (es : List Entry) (e : Entry) → Has (filter (λ x. not (is_row number x.to)) es) e → not (is_row number e.to) ≡ true
passed number [] e h = absurd h
passed number (z ∷ es) e h = one (not (is_row number z.to)) refl (λ k. passed number es e k) h
  where
    one : (b : Bool) → not (is_row number z.to) ≡ b → (Has (filter (λ x. not (is_row number x.to)) es) e → not (is_row number e.to) ≡ true)
        → Has (cond b (z ∷ filter (λ x. not (is_row number x.to)) es) (filter (λ x. not (is_row number x.to)) es)) e → not (is_row number e.to) ≡ true
    one true t f (inl same) = ap (λ (x : Entry). not (is_row number x.to)) (sym same) ∙ t
    one true t f (inr k) = f k
    one false t f k = f k

not_true : (b : Bool) → not b ≡ true → b ≡ false
not_true true h = cc
not_true false h = refl

not_false : (b : Bool) → b ≡ false → not b ≡ true
not_false true h = cc
not_false false h = refl

pub remove_on_leaves : (tree : Tree) (number : ℕ) → OthersOnLeaves tree (remove tree number) number
remove_on_leaves tree number = λ e k n. (λ x. was e k n x, λ h. is e k n h.0 h.1)
  where
    was : (e : Entry) (k : ℤ) (n : ℕ) → IsOnLeaf (remove tree number) e k n → IsOnLeaf tree e k n × ((n == number) ≡ false)
    was e k n x =
        let b : Before (without number) tree.pages x.p x.leaf = before (without number) tree.pages x.p x.leaf x.there in
        let has : Has (filter (λ z. not (is_row number z.to)) b.old.entries) e = subst (λ (z : Node). Has z.entries e) (sym b.is) x.has in (
          record { p = x.p; leaf = b.old; there = b.there; level = ap (λ (z : Node). z.level) b.is ∙ x.level; has = Has-filter (λ z. not (is_row number z.to)) b.old.entries e has; to = x.to },
          ap (is_row number) (sym x.to) ∙ not_true (is_row number e.to) (passed number b.old.entries e has),
        )

    is : (e : Entry) (k : ℤ) (n : ℕ) → IsOnLeaf tree e k n → (n == number) ≡ false → IsOnLeaf (remove tree number) e k n
    is e k n x other = record {
      p = x.p;
      leaf = without number x.p x.leaf;
      there = after_each (without number) tree.pages x.p x.leaf x.there;
      level = x.level;
      has = stays number x.leaf.entries e x.has (not_false (is_row number e.to) (ap (is_row number) x.to ∙ other));
      to = x.to;
    }

-- ---- place

pub SameOnLeaves-chain : (tree between after : Tree) → SameOnLeaves tree between → SameOnLeaves between after → SameOnLeaves tree after
SameOnLeaves-chain tree between after a b = λ e k n. (λ x. (a e k n).0 ((b e k n).0 x), λ x. (b e k n).1 ((a e k n).1 x))

relieve_on_leaves : (tree : Tree) (q : ℕ) (up : List ℕ) (ds : List Division) → Forest tree → CanRelieve tree q up ds → SameOnLeaves tree (relieve tree q up ds)
relieve_on_leaves tree q up [] forest can = λ e k n. (λ x. x, λ x. x)
relieve_on_leaves tree q [] (d ∷ ds) forest can = λ e k n. (λ x. x, λ x. x)
relieve_on_leaves tree q (o ∷ []) (d ∷ ds) forest can =
    let may : CanRaise tree q = can_raise tree forest q o d.page d.left d.right can.0 can.1 in
    SameOnLeaves-chain tree (raise tree q) (split (raise tree q) q o d.left d.right d.page) (raise_on_leaves tree forest q can.0)
    (split_on_leaves (raise tree q) q o d.left d.right d.page (raise_keeps tree forest q may) can.1)
relieve_on_leaves tree q (o ∷ above ∷ up) (d ∷ ds) forest can =
    let between : Tree = split tree o above d.left d.right d.page in
    SameOnLeaves-chain tree between (relieve between q (above ∷ up) ds) (split_on_leaves tree o above d.left d.right d.page forest can.0)
    (relieve_on_leaves between q (above ∷ up) ds (split_keeps tree o above d.left d.right d.page forest can.0) can.1)

pub place_on_leaves : (tree : Tree) (path : List ℕ) (box : Corners) (key : ℤ) (number q : ℕ) (ds : List Division) → Forest tree → Stands tree path → IsBox box
    → CanRelieve (add tree path box key number) q (reverse path) ds → OneMoreOnLeaves tree (place tree path box key number q ds) box key number
place_on_leaves tree path box key number q ds forest stands is_box can =
    let a : OneMoreOnLeaves tree (add tree path box key number) box key number = add_on_leaves tree path box key number stands in
    let b : SameOnLeaves (add tree path box key number) (place tree path box key number q ds) =
    relieve_on_leaves (add tree path box key number) q (reverse path) ds (add_keeps tree path box key number forest stands is_box) can in
    λ e k n. (λ x. (a e k n).0 ((b e k n).0 x), λ x. (b e k n).1 ((a e k n).1 x))

-- ---- the numbers

rows-append : (xs ys : List Entry) → row_numbers (xs ++ ys) ≡ row_numbers xs ++ row_numbers ys
rows-append xs ys = filter_map-append (λ e. number_in e.to) xs ys

rows-map : (g : Entry → Entry) → ((e : Entry) → (g e).to ≡ e.to) → (es : List Entry) → row_numbers (map g es) ≡ row_numbers es
rows-map g h [] = refl
rows-map g h (e ∷ es) = ap (λ t. cons_option (number_in t) (row_numbers (map g es))) (h e) ∙ ap (cons_option (number_in e.to)) (rows-map g h es)

abbrev tally : ℕ → Entry → ℕ
tally n e = times n (cons_option (number_in e.to) [])

times-cons_option : (n : ℕ) (o : Option ℕ) (xs : List ℕ) → times n (cons_option o xs) ≡ times n (cons_option o []) + times n xs
times-cons_option n None xs = omega arith
times-cons_option n (Some x) xs = omega arith

times-rows : (n : ℕ) (es : List Entry) → times n (row_numbers es) ≡ sum_by (tally n) es
times-rows n [] = refl
times-rows n (e ∷ es) = times-cons_option n (number_in e.to) (row_numbers es) ∙ ap (λ k. tally n e + k) (times-rows n es) ∙ sym (sum_by-cons (tally n) e es)

rows-permutation : (n : ℕ) (xs ys : List Entry) → IsPermutation xs ys → times n (row_numbers xs) ≡ times n (row_numbers ys)
rows-permutation n xs ys p = times-rows n xs ∙ sym (sum_by-IsPermutation (tally n) xs ys p) ∙ sym (times-rows n ys)

rows_fresh : (b : Bool) (box : Corners) (key : ℤ) (number n : ℕ) → times n (row_numbers (fresh b box key number)) ≡ cond b (times n (number ∷ [])) 0
rows_fresh true box key number n = refl
rows_fresh false box key number n = refl

one_time : (k c : ℕ) → c ≡ 1 → Rattle.std.proofs.Common.◌*◌ c k ≡ k
one_time k c h = rw h (omega arith)

pub add_numbers : (tree : Tree) (path : List ℕ) (box : Corners) (key : ℤ) (number : ℕ) → Forest tree → Stands tree path → OneMoreNumber tree (add tree path box key number) number
add_numbers tree path box key number forest stands n =
    let g : List Entry → ℕ = λ es. times n (row_numbers es) in
    let last : Last tree path = the_last tree path stands.leaf in
    let one : times last.p (numbers tree.pages) ≡ 1 = omega (arith, forest.once last.p, times_there tree.pages last.p last.leaf last.there) in
    let all : sum_pages g (each (added_to path box key number) tree.pages) ≡ sum_pages g tree.pages + total (λ q. cond (is_last path q) (times n (number ∷ [])) 0) (numbers tree.pages) =
    sum-each g (added_to path box key number) (λ q. cond (is_last path q) (times n (number ∷ [])) 0) (λ q page. page_of q page) tree.pages in
    let most : total (λ q. cond (is_last path q) (times n (number ∷ [])) 0) (numbers tree.pages) ≡ times n (number ∷ []) =
    total-same (λ q. cond (is_last path q) (times n (number ∷ [])) 0) (λ q. cond (q == last.p) (times n (number ∷ [])) 0) (λ q. ap (λ b. cond b (times n (number ∷ [])) 0) (last.is q)) (numbers tree.pages)
    ∙ total_once last.p (times n (number ∷ [])) (numbers tree.pages)
    ∙ one_time (times n (number ∷ [])) (times last.p (numbers tree.pages)) one in
    omega (arith, all, most, sum-numbers n tree, sum-numbers n (add tree path box key number))
  where
    page_of : (q : ℕ) (page : Node) → times n (row_numbers (added_to path box key number q page).entries) ≡ times n (row_numbers page.entries) + cond (is_last path q) (times n (number ∷ [])) 0
    page_of q page =
        let a : times n (row_numbers (map (widened path box) page.entries ++ fresh (is_last path q) box key number)) ≡ times n (row_numbers (map (widened path box) page.entries) ++ row_numbers (fresh (is_last path q) box key number)) =
        ap (times n) (rows-append (map (widened path box) page.entries) (fresh (is_last path q) box key number)) in
        let b : times n (row_numbers (map (widened path box) page.entries)) ≡ times n (row_numbers page.entries) = ap (times n) (rows-map (widened path box) (λ e. refl) page.entries) in
        omega (arith, a, b, times-append n (row_numbers (map (widened path box) page.entries)) (row_numbers (fresh (is_last path q) box key number)), rows_fresh (is_last path q) box key number n)

pub raise_numbers : (tree : Tree) (forest : Forest tree) (q : ℕ) → IsFree tree q → SameNumbers tree (raise tree q)
raise_numbers tree forest q free = subst (λ (t : Tree). SameNumbers tree t) (sym (made tree q forest.top forest.rooted)) (λ n. here n)
  where
    here : (n : ℕ) → times n (leaf_numbers (raised tree q (Some forest.top))) ≡ times n (leaf_numbers tree)
    here n =
        let g : List Entry → ℕ = λ es. times n (row_numbers es) in
        let within : List (ℕ × Node) = put q (moved forest.top) tree.pages in
        let other : (q == tree.root) ≡ false = turned tree.root q (apart tree.pages tree.root q forest.top forest.rooted free) in
        let at_root : page_in within tree.root ≡ Some forest.top = page_in-put_other q tree.root (moved forest.top) tree.pages other ∙ forest.rooted in
        let a : sum_pages g (put tree.root (lifted forest.top q) within) + g forest.top.entries ≡ sum_pages g within + g (lifted forest.top q).entries =
        sum-put g tree.root (lifted forest.top q) forest.top within at_root in
        let b : sum_pages g within ≡ sum_pages g tree.pages + g (moved forest.top).entries = sum-put_new g q (moved forest.top) tree.pages free in
        omega (arith, a, b, sum-numbers n tree, sum-numbers n (raised tree q (Some forest.top)))

rows_entry_for : (b : Bool) (box : Corners) (q n : ℕ) → times n (row_numbers (cond b (entry_for box q ∷ []) [])) ≡ 0
rows_entry_for true box q n = refl
rows_entry_for false box q n = refl

parted_numbers : (c : Splitting) → SameNumbers c.tree (after_split c)
parted_numbers c n =
    let g : List Entry → ℕ = λ es. times n (row_numbers es) in
    let new : page_in (with_kept c) c.n ≡ None = page_in-put_other c.o c.n (kept c) (one_round c) (turned c.n c.o (n_not_o c)) ∙ page_in-each (round c) c.tree.pages c.n ∙ ap (changed (round c) c.n) c.can.free in
    let at : page_in (one_round c) c.o ≡ Some (round c c.o c.can.page) = after_each (round c) c.tree.pages c.o c.can.page c.can.there in
    let a : sum_pages g (with_gone c) ≡ sum_pages g (with_kept c) + g c.right = sum-put_new g c.n (gone c) (with_kept c) new in
    let b : sum_pages g (with_kept c) + g (round c c.o c.can.page).entries ≡ sum_pages g (one_round c) + g c.left = sum-put g c.o (kept c) (round c c.o c.can.page) (one_round c) at in
    let d : sum_pages g (one_round c) ≡ sum_pages g c.tree.pages + total (λ q. 0) (numbers c.tree.pages) = sum-each g (round c) (λ q. 0) (λ q page. page_of q page) c.tree.pages in
    let r : g (round c c.o c.can.page).entries ≡ g c.can.page.entries + 0 = page_of c.o c.can.page in
    let p : g c.can.page.entries ≡ g (c.left ++ c.right) = rows-permutation n c.can.page.entries (c.left ++ c.right) c.can.parts.all in
    let s : g (c.left ++ c.right) ≡ times n (row_numbers c.left ++ row_numbers c.right) = ap (times n) (rows-append c.left c.right) in
    omega (arith, a, b, d, r, p, s, times-append n (row_numbers c.left) (row_numbers c.right), total_none (numbers c.tree.pages), sum-numbers n c.tree, sum-numbers n (after_split c))
  where
    page_of : (q : ℕ) (page : Node) → times n (row_numbers (round c q page).entries) ≡ times n (row_numbers page.entries) + 0
    page_of q page =
        let old : List Entry = map (reboxed c.o (least c.left)) page.entries in
        let more : List Entry = cond (q == c.above) (entry_for (least c.right) c.n ∷ []) [] in
        let a : times n (row_numbers (old ++ more)) ≡ times n (row_numbers old ++ row_numbers more) = ap (times n) (rows-append old more) in
        let b : times n (row_numbers old) ≡ times n (row_numbers page.entries) = ap (times n) (rows-map (reboxed c.o (least c.left)) (λ e. refl) page.entries) in
        omega (arith, a, b, times-append n (row_numbers old) (row_numbers more), rows_entry_for (q == c.above) (least c.right) c.n n)

pub split_numbers : (tree : Tree) (o above : ℕ) (left right : List Entry) (n : ℕ) → Forest tree → CanSplit tree o above left right n → SameNumbers tree (split tree o above left right n)
split_numbers tree o above left right n forest can =
    let c : Splitting = record { tree = tree; forest = forest; o = o; above = above; n = n; left = left; right = right; can = can } in
    subst (λ (t : Tree). SameNumbers tree t) (sym (split_is c)) (parted_numbers c)

relieve_numbers : (tree : Tree) (q : ℕ) (up : List ℕ) (ds : List Division) → Forest tree → CanRelieve tree q up ds → SameNumbers tree (relieve tree q up ds)
relieve_numbers tree q up [] forest can = λ n. refl
relieve_numbers tree q [] (d ∷ ds) forest can = λ n. refl
relieve_numbers tree q (o ∷ []) (d ∷ ds) forest can =
    let may : CanRaise tree q = can_raise tree forest q o d.page d.left d.right can.0 can.1 in
    λ n. split_numbers (raise tree q) q o d.left d.right d.page (raise_keeps tree forest q may) can.1 n ∙ raise_numbers tree forest q can.0 n
relieve_numbers tree q (o ∷ above ∷ up) (d ∷ ds) forest can =
    let between : Tree = split tree o above d.left d.right d.page in
    λ n. relieve_numbers between q (above ∷ up) ds (split_keeps tree o above d.left d.right d.page forest can.0) can.1 n ∙ split_numbers tree o above d.left d.right d.page forest can.0 n

pub place_numbers : (tree : Tree) (path : List ℕ) (box : Corners) (key : ℤ) (number q : ℕ) (ds : List Division) → Forest tree → Stands tree path → IsBox box
    → CanRelieve (add tree path box key number) q (reverse path) ds → OneMoreNumber tree (place tree path box key number q ds) number
place_numbers tree path box key number q ds forest stands is_box can = λ n.
    relieve_numbers (add tree path box key number) q (reverse path) ds (add_keeps tree path box key number forest stands is_box) can n ∙ add_numbers tree path box key number forest stands n

-- ---- the numbers without one

rows-filter : (number n : ℕ) (es : List Entry) → times n (row_numbers (filter (λ x. not (is_row number x.to)) es)) ≡ cond (n == number) 0 (times n (row_numbers es))
rows-filter number n [] = none (n == number)
  where
    none : (b : Bool) → ◌≡◌ {A = ℕ} 0 (cond b 0 0)
    none true = refl
    none false = refl
rows-filter number n (e ∷ es) = one e.to e (filter (λ x. not (is_row number x.to)) es) (rows-filter number n es) refl
  where
    more : (b : Bool) (m x y : ℕ) → (b ≡ true → (m == n) ≡ false) → x ≡ cond b 0 y → cond (m == n) 1 0 + x ≡ cond b 0 (cond (m == n) 1 0 + y)
    more true m x y f h = let t : (m == n) ≡ false = f refl in rw (t, h) (omega arith)
    more false m x y f h = omega arith

    none : (b : Bool) (m x y : ℕ) → (b ≡ false → (m == n) ≡ false) → x ≡ cond b 0 y → x ≡ cond b 0 (cond (m == n) 1 0 + y)
    none true m x y f h = h
    none false m x y f h = let t : (m == n) ≡ false = f refl in rw t (omega arith)

    one : (to : To) (z : Entry) (less : List Entry) → times n (row_numbers less) ≡ cond (n == number) 0 (times n (row_numbers es)) → z.to ≡ to
        → times n (row_numbers (cond (not (is_row number to)) (z ∷ less) less)) ≡ cond (n == number) 0 (times n (cons_option (number_in to) (row_numbers es)))
    one (Child p) z less i is = ap (λ t. times n (cons_option (number_in t) (row_numbers less))) is ∙ i
    one (Row key m) z less i is =
        elim (m == number) as (λ b. (m == number) ≡ b → times n (row_numbers (cond (not b) (z ∷ less) less)) ≡ cond (n == number) 0 (times n (m ∷ row_numbers es))) [
          | true ↦ λ t. none (n == number) m (times n (row_numbers less)) (times n (row_numbers es)) (λ other. (let at : m ≡ number = eqb-true m number t in turned n m (ap (λ x. n == x) at ∙ other))) i
          | false ↦ λ t. ap (λ x. times n (cons_option (number_in x) (row_numbers less))) is
              ∙ more (n == number) m (times n (row_numbers less)) (times n (row_numbers es)) (λ same. (let at : n ≡ number = eqb-true n number same in ap (λ x. m == x) at ∙ t)) i
        ] refl

zero_all : (g : List Entry → ℕ) (f : ℕ → Node → Node) → ((q : ℕ) (page : Node) → g (f q page).entries ≡ 0) → (m : List (ℕ × Node)) → sum_pages g (each f m) ≡ 0
zero_all g f h [] = refl
zero_all g f h (p ∷ rest) = omega (arith, h p.0 p.1, zero_all g f h rest)

pub remove_numbers : (tree : Tree) (number : ℕ) → WithoutNumber tree (remove tree number) number
remove_numbers tree number n =
    let g : List Entry → ℕ = λ es. times n (row_numbers es) in
    elim (n == number) as (λ b. (n == number) ≡ b → times n (leaf_numbers (remove tree number)) ≡ cond b 0 (times n (leaf_numbers tree))) [
      | true ↦ λ t. sum-numbers n (remove tree number) ∙ zero_all g (without number) (λ q page. rows-filter number n page.entries ∙ ap (λ b. cond b 0 (times n (row_numbers page.entries))) t) tree.pages
      | false ↦ λ t. (let all : sum_pages g (each (without number) tree.pages) ≡ sum_pages g tree.pages + total (λ q. 0) (numbers tree.pages) =
          sum-each g (without number) (λ q. 0) (λ q page. (let e : g (without number q page).entries ≡ g page.entries = rows-filter number n page.entries ∙ ap (λ b. cond b 0 (times n (row_numbers page.entries))) t in omega arith)) tree.pages in
          omega (arith, all, total_none (numbers tree.pages), sum-numbers n tree, sum-numbers n (remove tree number)))
    ] refl
