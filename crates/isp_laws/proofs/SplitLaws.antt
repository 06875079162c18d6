-- A split of a page keeps the forest, however its entries are divided, and whatever free page is taken.
use Rattle.std.proofs.Common.{◌≡◌, ◌⊎◌, inl, inr, ℕ, suc, ◌+◌, ◌*◌, ◌<◌, ◌≤◌, ◌==◌, Bool, true, false, cond, Option, Some, None, List, [], ◌∷◌, ◌++◌, map, length, refl, ap, sym, ◌∙◌, arith, subst, eqb-true, eq-eqb, length-append}
use Rattle.std.specs.Prelude.{is_none}
use Rattle.std.proofs.lemmas.List.{length-map}
use Rattle.isp_mbr.specs.Corners.{Corners}
use Rattle.isp_mbr.specs.Boxes.{IsBox, covers}
use Rattle.isp_mbr.proofs.BoxLaws.{covers_trans}
use Rattle.isp_forest.specs.declared.entry.Entry.{Entry}
use Rattle.isp_base.specs.Lists.{Has, times}
use Rattle.isp_forest.specs.Tree.{Node, Tree, page_in, page_at, counter, ssn_of, child_of, children, numbers, named, least}
use Rattle.isp_forest.specs.Forest.{Forest, IsBelow, IsPage, IsLinked}
use Rattle.isp_forest.specs.Steps.{put, each, names, entry_for, reboxed, split_round, split_of, split}
use Rattle.isp_forest.specs.Place.{CanSplit}
use Rattle.isp_laws.proofs.ListLaws.{Has-append, Has-append_left, Has-append_right, Has-map, Source, times-append}
use Rattle.isp_laws.proofs.PageLaws.{page_in-put_same, page_in-put_other, put_new, numbers-put, named-put, named-append, numbers-append, page_in-each, numbers-each, named-each, total_once, times_free, times_there, Before, before, after_each, changed}
use Rattle.isp_laws.proofs.EntryLaws.{children-append, children-map, least_covers, least_inside, IsBox-least, Has-permutation, times-permutation}
use Rattle.isp_laws.proofs.ForestLaws.{named_not_root, not_free, same_page}
use Rattle.isp_laws.proofs.RaiseLaws.{IsPut, put_or_other, apart, turned, one_if, suc_not_zero, at_most_two}

-- a split that can be made, with all that it is made of
pub record Splitting : Type 0 where
  pub tree : Tree
  pub forest : Forest tree
  pub o : ℕ
  pub above : ℕ
  pub n : ℕ
  pub left : List Entry
  pub right : List Entry
  pub can : CanSplit tree o above left right n

abbrev pub kept : Splitting → Node
kept c = record { level = c.can.page.level; ssn = suc (counter c.tree); next = Some c.n; entries = c.left }

abbrev pub gone : Splitting → Node
gone c = record c.can.page { entries = c.right }

abbrev pub round : Splitting → ℕ → Node → Node
round c = split_round c.tree c.o c.above c.left c.right c.n

abbrev pub one_round : Splitting → List (ℕ × Node)
one_round c = each (round c) c.tree.pages

abbrev pub with_kept : Splitting → List (ℕ × Node)
with_kept c = put c.o (kept c) (one_round c)

abbrev pub with_gone : Splitting → List (ℕ × Node)
with_gone c = put c.n (gone c) (with_kept c)

abbrev pub after_split : Splitting → Tree
after_split c = record c.tree { pages = with_gone c }

pub split_is : (c : Splitting) → split c.tree c.o c.above c.left c.right c.n ≡ after_split c
split_is c = ap (split_of c.tree c.o c.above c.left c.right c.n) c.can.there

-- ---- the pages that take part are apart

pub n_not_o : (c : Splitting) → (c.n == c.o) ≡ false
n_not_o c = turned c.o c.n (apart c.tree.pages c.o c.n c.can.page c.can.there c.can.free)

pub o_not_root : (c : Splitting) → (c.o == c.tree.root) ≡ false
o_not_root c = named_not_root c.tree c.forest c.above c.o c.can.entry c.can.named

pub n_not_root : (c : Splitting) → (c.n == c.tree.root) ≡ false
n_not_root c = turned c.tree.root c.n (apart c.tree.pages c.tree.root c.n c.forest.top c.forest.rooted c.can.free)

pub below_above : (c : Splitting) → IsBelow c.can.entry c.can.named.page c.can.page
below_above c = c.forest.below c.above c.o c.can.named.page c.can.page c.can.entry c.can.named.there c.can.named.has c.can.named.to c.can.there

-- no page names itself
pub not_itself : (tree : Tree) → Forest tree → (p q : ℕ) (a : Node) (e : Entry) → page_at tree p ≡ Some a → Has a.entries e → child_of e ≡ Some q → (p == q) ≡ false
not_itself tree forest p q a e there has to =
    elim (p == q) as (λ b. (p == q) ≡ b → b ≡ false) [
      | true ↦ λ t. (let at : page_at tree q ≡ Some a = subst (λ (z : ℕ). page_at tree z ≡ Some a) (eqb-true p q t) there in
          let is : IsBelow e a a = forest.below p q a a e there has to at in
          let no : ⊥ = omega (arith, is.level) in absurd no)
      | false ↦ λ t. refl
    ] refl

pub o_not_above : (c : Splitting) → (c.o == c.above) ≡ false
o_not_above c = turned c.above c.o (not_itself c.tree c.forest c.above c.o c.can.named.page c.can.entry c.can.named.there c.can.named.has c.can.named.to)

-- ---- what each page is after the split

pub at_n : (c : Splitting) → page_in (with_gone c) c.n ≡ Some (gone c)
at_n c = page_in-put_same c.n (gone c) (with_kept c)

pub at_o : (c : Splitting) → page_in (with_gone c) c.o ≡ Some (kept c)
at_o c = page_in-put_other c.n c.o (gone c) (with_kept c) (n_not_o c) ∙ page_in-put_same c.o (kept c) (one_round c)

pub at_other : (c : Splitting) (x : ℕ) → (c.n == x) ≡ false → (c.o == x) ≡ false → page_in (with_gone c) x ≡ page_in (one_round c) x
at_other c x not_n not_o = page_in-put_other c.n x (gone c) (with_kept c) not_n ∙ page_in-put_other c.o x (kept c) (one_round c) not_o

pub at_old : (c : Splitting) (x : ℕ) (page : Node) → (c.n == x) ≡ false → (c.o == x) ≡ false → page_at c.tree x ≡ Some page → page_in (with_gone c) x ≡ Some (round c x page)
at_old c x page not_n not_o there = at_other c x not_n not_o ∙ after_each (round c) c.tree.pages x page there

pub record IsRound (c : Splitting) (x : ℕ) (y : Node) : Type 0 where
  pub old : Node
  pub not_n : (c.n == x) ≡ false
  pub not_o : (c.o == x) ≡ false
  pub there : page_at c.tree x ≡ Some old
  pub is : round c x old ≡ y

pub what : (c : Splitting) (x : ℕ) (y : Node) → page_in (with_gone c) x ≡ Some y → IsPut c.n x (gone c) y ⊎ (IsPut c.o x (kept c) y ⊎ IsRound c x y)
what c x y h = elim (put_or_other c.n x (gone c) y (with_kept c) h) [
  | inl new ↦ inl new
  | inr more ↦ elim (put_or_other c.o x (kept c) y (one_round c) more.there) [
    | inl left ↦ inr (inl left)
    | inr old ↦ (let was : Before (round c) c.tree.pages x y = before (round c) c.tree.pages x y old.there in
        inr (inr (record { old = was.old; not_n = more.other; not_o = old.other; there = was.there; is = was.is })))
  ]
]

counter_at : (b : Bool) (n s : ℕ) → b ≡ true → cond b n s ≡ n
counter_at true n s h = refl
counter_at false n s h = cc

pub counter_grows : (c : Splitting) → counter (after_split c) ≡ suc (counter c.tree)
counter_grows c =
    let root : page_in (with_gone c) c.tree.root ≡ Some (round c c.tree.root c.forest.top) = at_old c c.tree.root c.forest.top (n_not_root c) (o_not_root c) c.forest.rooted in
    ap ssn_of root ∙ counter_at (c.tree.root == c.tree.root) (suc (counter c.tree)) c.forest.top.ssn (eq-eqb c.tree.root c.tree.root refl)

-- ---- the two parts

pub in_left : (c : Splitting) (e : Entry) → Has c.left e → Has c.can.page.entries e
in_left c e h = Has-permutation c.can.page.entries (c.left ++ c.right) e c.can.parts.all (Has-append_left c.left c.right e h)

pub in_right : (c : Splitting) (e : Entry) → Has c.right e → Has c.can.page.entries e
in_right c e h = Has-permutation c.can.page.entries (c.left ++ c.right) e c.can.parts.all (Has-append_right c.left c.right e h)

kids_of_parts : (c : Splitting) (r : ℕ) → times r (children c.can.page.entries) ≡ times r (children c.left) + times r (children c.right)
kids_of_parts c r =
    times-permutation r c.can.page.entries (c.left ++ c.right) c.can.parts.all ∙ ap (times r) (children-append c.left c.right) ∙ times-append r (children c.left) (children c.right)

-- ---- how often pages are named

abbrev added : Splitting → ℕ → ℕ → ℕ
added c r q = cond (q == c.above) (times r (c.n ∷ [])) 0

kids_added : (b : Bool) (box : Corners) (n r : ℕ) → times r (children (cond b (entry_for box n ∷ []) [])) ≡ cond b (times r (n ∷ [])) 0
kids_added true box n r = refl
kids_added false box n r = refl

kids_of_round : (c : Splitting) (r q : ℕ) (page : Node) → times r (children (round c q page).entries) ≡ times r (children page.entries) + added c r q
kids_of_round c r q page =
    let more : List Entry = cond (q == c.above) (entry_for (least c.right) c.n ∷ []) [] in
    let e : times r (children (map (reboxed c.o (least c.left)) page.entries ++ cond (q == c.above) (entry_for (least c.right) c.n ∷ []) [])) ≡ times r (children (map (reboxed c.o (least c.left)) page.entries) ++ children (cond (q == c.above) (entry_for (least c.right) c.n ∷ []) [])) = ap (times r) (children-append (map (reboxed c.o (least c.left)) page.entries) (cond (q == c.above) (entry_for (least c.right) c.n ∷ []) [])) in
    let k : times r (children (map (reboxed c.o (least c.left)) page.entries)) ≡ times r (children page.entries) = ap (times r) (children-map (reboxed c.o (least c.left)) (λ x. refl) page.entries) in
    e ∙ times-append r (children (map (reboxed c.o (least c.left)) page.entries)) (children (cond (q == c.above) (entry_for (least c.right) c.n ∷ []) []))
    ∙ ap (λ x. x + times r (children (cond (q == c.above) (entry_for (least c.right) c.n ∷ []) []))) k
    ∙ ap (λ x. times r (children page.entries) + x) (kids_added (q == c.above) (least c.right) c.n r)

one_time : (a k : ℕ) → a ≡ 1 → a * k ≡ k
one_time a k h = rw h (omega arith)

named_round : (c : Splitting) (r : ℕ) → times r (named (one_round c)) ≡ times r (named c.tree.pages) + times r (c.n ∷ [])
named_round c r =
    let once : times c.above (numbers c.tree.pages) ≡ 1 = omega (arith, c.forest.once c.above, times_there c.tree.pages c.above c.can.named.page c.can.named.there) in
    named-each (round c) (added c r) r (kids_of_round c r) c.tree.pages
    ∙ ap (λ x. times r (named c.tree.pages) + x) (total_once c.above (times r (c.n ∷ [])) (numbers c.tree.pages) ∙ one_time (times c.above (numbers c.tree.pages)) (times r (c.n ∷ [])) once)

n_new : (c : Splitting) → page_in (with_kept c) c.n ≡ None
n_new c = page_in-put_other c.o c.n (kept c) (one_round c) (turned c.n c.o (n_not_o c)) ∙ page_in-each (round c) c.tree.pages c.n ∙ ap (changed (round c) c.n) c.can.free

added_to_o : (b : Bool) (k : ℕ) → b ≡ false → cond b k 0 ≡ 0
added_to_o true k h = cc
added_to_o false k h = refl

pub named_split : (c : Splitting) (r : ℕ) → times r (named (with_gone c)) ≡ times r (named c.tree.pages) + times r (c.n ∷ [])
named_split c r =
    let at : page_in (one_round c) c.o ≡ Some (round c c.o c.can.page) = after_each (round c) c.tree.pages c.o c.can.page c.can.there in
    let a : times r (named (with_gone c)) ≡ times r (named (with_kept c)) + times r (named ((c.n, gone c) ∷ [])) = ap (λ (m : List (ℕ × Node)). times r (named m)) (put_new c.n (gone c) (with_kept c) (n_new c)) ∙ named-append (with_kept c) ((c.n, gone c) ∷ []) r in
    let b : times r (named (with_kept c)) + times r (children (round c c.o c.can.page).entries) ≡ times r (named (one_round c)) + times r (children c.left) = named-put c.o (kept c) (round c c.o c.can.page) (one_round c) r at in
    let none : added c r c.o ≡ 0 = added_to_o (c.o == c.above) (times r (c.n ∷ [])) (o_not_above c) in
    let k : times r (children (round c c.o c.can.page).entries) ≡ times r (children c.can.page.entries) + added c r c.o = kids_of_round c r c.o c.can.page in
    let l : times r (named ((c.n, gone c) ∷ [])) ≡ times r (children c.right) + 0 = times-append r (children c.right) [] in
    omega (arith, a, b, none, k, l, named_round c r, kids_of_parts c r)

pub numbered_split : (c : Splitting) (r : ℕ) → times r (numbers (with_gone c)) ≡ times r (numbers c.tree.pages) + times r (c.n ∷ [])
numbered_split c r =
    let at : page_in (one_round c) c.o ≡ Some (round c c.o c.can.page) = after_each (round c) c.tree.pages c.o c.can.page c.can.there in
    ap (λ (m : List (ℕ × Node)). times r (numbers m)) (put_new c.n (gone c) (with_kept c) (n_new c))
    ∙ ap (times r) (numbers-append (with_kept c) ((c.n, gone c) ∷ []))
    ∙ times-append r (numbers (with_kept c)) (c.n ∷ [])
    ∙ ap (λ ns. times r ns + times r (c.n ∷ [])) (numbers-put c.o (kept c) (round c c.o c.can.page) (one_round c) at ∙ numbers-each (round c) c.tree.pages)

-- ---- entries after the split

pub record WasThere (c : Splitting) (page : Node) (e : Entry) : Type 0 where
  pub old : Entry
  pub has : Has page.entries old
  pub is : reboxed c.o (least c.left) old ≡ e

pub record IsNew (c : Splitting) (q : ℕ) (e : Entry) : Type 0 where
  pub at : q ≡ c.above
  pub is : entry_for (least c.right) c.n ≡ e

new_at : (c : Splitting) (q : ℕ) (e : Entry) (b : Bool) → (q == c.above) ≡ b → Has (cond b (entry_for (least c.right) c.n ∷ []) []) e → IsNew c q e
new_at c q e true t (inl same) = record { at = eqb-true q c.above t; is = same }
new_at c q e true t (inr none) = absurd none
new_at c q e false t h = absurd h

pub entry_of : (c : Splitting) (q : ℕ) (page : Node) (e : Entry) → Has (round c q page).entries e → WasThere c page e ⊎ IsNew c q e
entry_of c q page e h =
    elim (Has-append (map (reboxed c.o (least c.left)) page.entries) (cond (q == c.above) (entry_for (least c.right) c.n ∷ []) []) e h) [
      | inl k ↦ (let s : Source (reboxed c.o (least c.left)) page.entries e = Has-map (reboxed c.o (least c.left)) page.entries e k in inl (record { old = s.x; has = s.has; is = s.is }))
      | inr k ↦ inr (new_at c q e (q == c.above) refl k)
    ]

-- an entry for page q after the split is one from before, with its box, but for the one for the page that was split
record FromOld (c : Splitting) (level q : ℕ) (e : Entry) : Type 0 where
  p : ℕ
  page : Node
  there : page_at c.tree p ≡ Some page
  old : Entry
  has : Has page.entries old
  to : child_of old ≡ Some q
  same_level : page.level ≡ level
  box_of_o : (q == c.o) ≡ true → e.b ≡ least c.left
  box_of_other : (q == c.o) ≡ false → e.b ≡ old.b

-- or the one for the new page
record ForNew (c : Splitting) (level q : ℕ) (e : Entry) : Type 0 where
  at : c.n ≡ q
  box : e.b ≡ least c.right
  one_up : level ≡ suc c.can.page.level

box_at : (b : Bool) (x y : Corners) → b ≡ true → cond b x y ≡ x
box_at true x y h = refl
box_at false x y h = cc

box_else : (b : Bool) (x y : Corners) → b ≡ false → cond b x y ≡ y
box_else true x y h = cc
box_else false x y h = refl

from_part : (c : Splitting) (q : ℕ) (e : Entry) → Has c.can.page.entries e → child_of e ≡ Some q → FromOld c c.can.page.level q e
from_part c q e has to =
    let other : (q == c.o) ≡ false = turned c.o q (not_itself c.tree c.forest c.o q c.can.page e c.can.there has to) in
    record {
      p = c.o;
      page = c.can.page;
      there = c.can.there;
      old = e;
      has = has;
      to = to;
      same_level = refl;
      box_of_o = λ t. (let no : ⊥ = cc in absurd no);
      box_of_other = λ t. refl;
    }

from_round : (c : Splitting) (p q : ℕ) (page : Node) (e : Entry) → page_at c.tree p ≡ Some page → Has (round c p page).entries e → child_of e ≡ Some q
    → FromOld c page.level q e ⊎ ForNew c page.level q e
from_round c p q page e there has to = elim (entry_of c p page e has) [
  | inl was ↦ (let to' : child_of was.old ≡ Some q = ap child_of was.is ∙ to in
      let test : names (λ x. x == c.o) (child_of was.old) ≡ (q == c.o) = ap (names (λ x. x == c.o)) to' in
      inl (record {
        p = p;
        page = page;
        there = there;
        old = was.old;
        has = was.has;
        to = to';
        same_level = refl;
        box_of_o = λ t. ap (λ (x : Entry). x.b) (sym was.is) ∙ box_at (names (λ x. x == c.o) (child_of was.old)) (least c.left) was.old.b (test ∙ t);
        box_of_other = λ t. ap (λ (x : Entry). x.b) (sym was.is) ∙ box_else (names (λ x. x == c.o) (child_of was.old)) (least c.left) was.old.b (test ∙ t);
      }))
  | inr new ↦ (let at : page_at c.tree c.above ≡ Some page = subst (λ (z : ℕ). page_at c.tree z ≡ Some page) new.at there in
      let same : page ≡ c.can.named.page = same_page (page_at c.tree c.above) page c.can.named.page at c.can.named.there in
      let level : page.level ≡ suc c.can.page.level = ap (λ (x : Node). x.level) same ∙ (below_above c).level in
      let named : Some c.n ≡ Some q = ap child_of new.is ∙ to in
      inr (record { at = cc; box = ap (λ (x : Entry). x.b) (sym new.is); one_up = level }))
]

origin : (c : Splitting) (p q : ℕ) (a : Node) (e : Entry) → page_in (with_gone c) p ≡ Some a → Has a.entries e → child_of e ≡ Some q → FromOld c a.level q e ⊎ ForNew c a.level q e
origin c p q a e h has to = elim (what c p a h) [
  | inl new ↦ (let has' : Has c.right e = subst (λ (x : Node). Has x.entries e) (sym new.is) has in
      let level : c.can.page.level ≡ a.level = ap (λ (x : Node). x.level) new.is in
      inl (subst (λ (l : ℕ). FromOld c l q e) level (from_part c q e (in_right c e has') to)))
  | inr more ↦ elim more [
    | inl stay ↦ (let has' : Has c.left e = subst (λ (x : Node). Has x.entries e) (sym stay.is) has in
        let level : c.can.page.level ≡ a.level = ap (λ (x : Node). x.level) stay.is in
        inl (subst (λ (l : ℕ). FromOld c l q e) level (from_part c q e (in_left c e has') to)))
    | inr old ↦ (let has' : Has (round c p old.old).entries e = subst (λ (x : Node). Has x.entries e) (sym old.is) has in
        let level : old.old.level ≡ a.level = ap (λ (x : Node). x.level) old.is in
        elim (from_round c p q old.old e old.there has' to) [
          | inl from ↦ inl (subst (λ (l : ℕ). FromOld c l q e) level from)
          | inr new ↦ inr (subst (λ (l : ℕ). ForNew c l q e) level new)
        ])
  ]
]

-- ---- boxes after the split

-- what covered all entries of a page still does
inside_round : (c : Splitting) (q : ℕ) (page : Node) (d : Corners) → page_at c.tree q ≡ Some page → ((e : Entry) → Has page.entries e → covers d e.b ≡ true)
    → (g : Entry) → Has (round c q page).entries g → covers d g.b ≡ true
inside_round c q page d there h g hg = elim (entry_of c q page g hg) [
  | inl was ↦ subst (λ (x : Entry). covers d x.b ≡ true) was.is (reboxed_inside was.old was.has (child_of was.old) refl)
  | inr new ↦ subst (λ (x : Entry). covers d x.b ≡ true) new.is (new_inside new.at)
]
  where
    parts_inside : (e : Entry) → covers d e.b ≡ true → IsBelow e page c.can.page → (x : Entry) → Has c.can.page.entries x → covers d x.b ≡ true
    parts_inside e k is x hx = covers_trans d e.b x.b k (is.inside x hx)

    reboxed_at : (e : Entry) (b : Bool) → covers d e.b ≡ true → (b ≡ true → covers d (least c.left) ≡ true) → covers d (cond b (least c.left) e.b) ≡ true
    reboxed_at e true k f = f refl
    reboxed_at e false k f = k

    reboxed_inside : (e : Entry) → Has page.entries e → (o : Option ℕ) → child_of e ≡ o → covers d (cond (names (λ x. x == c.o) (child_of e)) (least c.left) e.b) ≡ true
    reboxed_inside e has None to = let t : names (λ x. x == c.o) (child_of e) ≡ false = ap (names (λ x. x == c.o)) to in
        reboxed_at e (names (λ x. x == c.o) (child_of e)) (h e has) (λ u. (let no : ⊥ = cc in absurd no))
    reboxed_inside e has (Some r) to = let t : names (λ x. x == c.o) (child_of e) ≡ (r == c.o) = ap (names (λ x. x == c.o)) to in
        reboxed_at e (names (λ x. x == c.o) (child_of e)) (h e has) (λ u. (let at : r ≡ c.o = eqb-true r c.o (sym t ∙ u) in
        let is : IsBelow e page c.can.page = c.forest.below q c.o page c.can.page e there has (to ∙ ap Some at) c.can.there in
        least_inside d c.left c.can.parts.left_some (λ x hx. parts_inside e (h e has) is x (in_left c x hx))))

    new_inside : q ≡ c.above → covers d (least c.right) ≡ true
    new_inside at =
        let here : page_at c.tree c.above ≡ Some page = subst (λ (z : ℕ). page_at c.tree z ≡ Some page) at there in
        let same : c.can.named.page ≡ page = same_page (page_at c.tree c.above) c.can.named.page page c.can.named.there here in
        let has : Has page.entries c.can.entry = subst (λ (x : Node). Has x.entries c.can.entry) same c.can.named.has in
        let is : IsBelow c.can.entry page c.can.page = subst (λ (x : Node). IsBelow c.can.entry x c.can.page) same (below_above c) in
        least_inside d c.right c.can.parts.right_some (λ x hx. parts_inside c.can.entry (h c.can.entry has) is x (in_right c x hx))

below_split : (c : Splitting) (p q : ℕ) (a b : Node) (e : Entry) → page_in (with_gone c) p ≡ Some a → Has a.entries e → child_of e ≡ Some q → page_in (with_gone c) q ≡ Some b → IsBelow e a b
below_split c p q a b e h has to k = elim (what c q b k) [
  | inl new ↦ subst (IsBelow e a) new.is (elim (origin c p q a e h has to) [
    | inl from ↦ (let free : page_at c.tree q ≡ None = subst (λ (z : ℕ). page_at c.tree z ≡ None) new.at c.can.free in
        absurd (not_free c.tree c.forest from.p q from.old free (record { page = from.page; there = from.there; has = from.has; to = from.to })))
    | inr fresh ↦ record { level = fresh.one_up; inside = λ g hg. subst (λ (d : Corners). covers d g.b ≡ true) (sym fresh.box) (least_covers c.right g hg) }
  ])
  | inr more ↦ elim more [
    | inl stay ↦ subst (IsBelow e a) stay.is (elim (origin c p q a e h has to) [
      | inl from ↦ (let at : q ≡ c.o = sym stay.at in
          let there : page_at c.tree q ≡ Some c.can.page = subst (λ (z : ℕ). page_at c.tree z ≡ Some c.can.page) stay.at c.can.there in
          let is : IsBelow from.old from.page c.can.page = c.forest.below from.p q from.page c.can.page from.old from.there from.has from.to there in
          record { level = sym from.same_level ∙ is.level; inside = λ g hg. subst (λ (d : Corners). covers d g.b ≡ true) (sym (from.box_of_o (eq-eqb q c.o at))) (least_covers c.left g hg) })
      | inr fresh ↦ (let same : c.n ≡ c.o = fresh.at ∙ sym stay.at in
          let yes : (c.n == c.o) ≡ true = eq-eqb c.n c.o same in
          let other : (c.n == c.o) ≡ false = n_not_o c in
          let no : ⊥ = cc in absurd no)
    ])
    | inr old ↦ subst (IsBelow e a) old.is (elim (origin c p q a e h has to) [
      | inl from ↦ (let is : IsBelow from.old from.page old.old = c.forest.below from.p q from.page old.old from.old from.there from.has from.to old.there in
          let box : e.b ≡ from.old.b = from.box_of_other (turned c.o q old.not_o) in
          record { level = sym from.same_level ∙ is.level; inside = λ g hg. subst (λ (d : Corners). covers d g.b ≡ true) (sym box) (inside_round c q old.old from.old.b old.there is.inside g hg) })
      | inr fresh ↦ (let yes : (c.n == q) ≡ true = eq-eqb c.n q fresh.at in
          let other : (c.n == q) ≡ false = old.not_n in
          let no : ⊥ = cc in absurd no)
    ])
  ]
]

-- ---- each page by itself

part_page : (c : Splitting) (x s : ℕ) (next : Option ℕ) (part : List Entry) → ((e : Entry) → Has part e → Has c.can.page.entries e) → (0 < c.can.page.level → 2 ≤ length part) → s ≤ suc (counter c.tree)
    → IsPage (after_split c) x (record { level = c.can.page.level; ssn = s; next = next; entries = part })
part_page c x s next part had two given =
    let is : IsPage c.tree c.o c.can.page = c.forest.each c.o c.can.page c.can.there in
    record {
      kinds = λ e h. is.kinds e (had e h);
      boxes = λ e h. is.boxes e (had e h);
      filled = λ inner. at_most_two (x == c.tree.root) (length part) (two inner);
      numbered = omega (arith, given, counter_grows c);
    }

box_reboxed : (b : Bool) (x y : Corners) → IsBox x → IsBox y → IsBox (cond b x y)
box_reboxed true x y h k = h
box_reboxed false x y h k = k

ssn_at_most : (b : Bool) (n s : ℕ) → s ≤ n → cond b (suc n) s ≤ suc n
ssn_at_most true n s h = omega arith
ssn_at_most false n s h = omega arith

round_page : (c : Splitting) (x : ℕ) (page : Node) → page_at c.tree x ≡ Some page → IsPage (after_split c) x (round c x page)
round_page c x page there = record {
  kinds = λ e h. elim (entry_of c x page e h) [
    | inl was ↦ ap (λ (z : Entry). is_none (child_of z)) (sym was.is) ∙ is.kinds was.old was.has
    | inr new ↦ (let at : page_at c.tree c.above ≡ Some page = subst (λ (z : ℕ). page_at c.tree z ≡ Some page) new.at there in
        let same : page ≡ c.can.named.page = same_page (page_at c.tree c.above) page c.can.named.page at c.can.named.there in
        let level : page.level ≡ suc c.can.page.level = ap (λ (z : Node). z.level) same ∙ (below_above c).level in
        ap (λ (z : Entry). is_none (child_of z)) (sym new.is) ∙ sym (ap (λ l. l == 0) level ∙ suc_not_zero c.can.page.level))
  ];
  boxes = λ e h. elim (entry_of c x page e h) [
    | inl was ↦ subst (λ (z : Entry). IsBox z.b) was.is (box_reboxed (names (λ z. z == c.o) (child_of was.old)) (least c.left) was.old.b (IsBox-least c.left (λ z hz. parted.boxes z (in_left c z hz))) (is.boxes was.old was.has))
    | inr new ↦ subst (λ (z : Entry). IsBox z.b) new.is (IsBox-least c.right (λ z hz. parted.boxes z (in_right c z hz)))
  ];
  filled = λ inner. (let k : cond (x == c.tree.root) 1 2 ≤ length page.entries = is.filled inner in
      omega (arith, length-append (map (reboxed c.o (least c.left)) page.entries) (cond (x == c.above) (entry_for (least c.right) c.n ∷ []) []), length-map page.entries (reboxed c.o (least c.left))));
  numbered = subst (λ (k : ℕ). cond (x == c.tree.root) (suc (counter c.tree)) page.ssn ≤ k) (sym (counter_grows c)) (ssn_at_most (x == c.tree.root) (counter c.tree) page.ssn is.numbered);
}
  where
    is : IsPage c.tree x page
    is = c.forest.each x page there

    parted : IsPage c.tree c.o c.can.page
    parted = c.forest.each c.o c.can.page c.can.there

page_split : (c : Splitting) (x : ℕ) (page : Node) → page_in (with_gone c) x ≡ Some page → IsPage (after_split c) x page
page_split c x page h = elim (what c x page h) [
  | inl new ↦ subst (IsPage (after_split c) x) new.is (part_page c x c.can.page.ssn c.can.page.next c.right (in_right c) c.can.parts.right_two (omega (arith, parted.numbered)))
  | inr more ↦ elim more [
    | inl stay ↦ subst (IsPage (after_split c) x) stay.is (part_page c x (suc (counter c.tree)) (Some c.n) c.left (in_left c) c.can.parts.left_two (omega arith))
    | inr old ↦ subst (IsPage (after_split c) x) old.is (round_page c x old.old old.there)
  ]
]
  where
    parted : IsPage c.tree c.o c.can.page
    parted = c.forest.each c.o c.can.page c.can.there

-- ---- right links

-- a page of the tree still is one of the same level
pub record Still (c : Splitting) (r level : ℕ) : Type 0 where
  pub page : Node
  pub there : page_in (with_gone c) r ≡ Some page
  pub same : page.level ≡ level

pub still_there : (c : Splitting) (r : ℕ) (page : Node) → page_at c.tree r ≡ Some page → Still c r page.level
still_there c r page there =
    elim (c.o == r) as (λ b. (c.o == r) ≡ b → Still c r page.level) [
      | true ↦ λ t. (let at : c.o ≡ r = eqb-true c.o r t in
          let here : page_at c.tree c.o ≡ Some page = subst (λ (z : ℕ). page_at c.tree z ≡ Some page) (sym at) there in
          let same : c.can.page ≡ page = same_page (page_at c.tree c.o) c.can.page page c.can.there here in
          record { page = kept c; there = subst (λ (z : ℕ). page_in (with_gone c) z ≡ Some (kept c)) at (at_o c); same = ap (λ (z : Node). z.level) same })
      | false ↦ λ t. record { page = round c r page; there = at_old c r page (turned r c.n (apart c.tree.pages r c.n page there c.can.free)) t there; same = refl }
    ] refl

linked_part : (c : Splitting) (p r : ℕ) (page y : Node) → page_at c.tree p ≡ Some page → page.next ≡ Some r → page.level ≡ y.level → IsLinked (after_split c) y r
linked_part c p r page y there next level =
    let is : IsLinked c.tree page r = c.forest.linked p r page there next in
    let s : Still c r is.right.level = still_there c r is.right is.there in
    record { right = s.page; there = s.there; level = s.same ∙ is.level ∙ level }

linked_split : (c : Splitting) (x r : ℕ) (page : Node) → page_in (with_gone c) x ≡ Some page → page.next ≡ Some r → IsLinked (after_split c) page r
linked_split c x r page h next = elim (what c x page h) [
  | inl new ↦ linked_part c c.o r c.can.page page c.can.there (ap (λ (z : Node). z.next) new.is ∙ next) (ap (λ (z : Node). z.level) new.is)
  | inr more ↦ elim more [
    | inl stay ↦ (let to : Some c.n ≡ Some r = ap (λ (z : Node). z.next) stay.is ∙ next in
        let at : c.n ≡ r = cc in
        record { right = gone c; there = subst (λ (z : ℕ). page_in (with_gone c) z ≡ Some (gone c)) at (at_n c); level = ap (λ (z : Node). z.level) stay.is })
    | inr old ↦ linked_part c x r old.old page old.there (ap (λ (z : Node). z.next) old.is ∙ next) (ap (λ (z : Node). z.level) old.is)
  ]
]

once_split : (c : Splitting) (r : ℕ) → times r (numbers (with_gone c)) ≤ 1
once_split c r =
    elim (c.n == r) as (λ b. (c.n == r) ≡ b → times r (numbers (with_gone c)) ≤ 1) [
      | true ↦ λ t. (let free : page_in c.tree.pages r ≡ None = subst (λ (z : ℕ). page_in c.tree.pages z ≡ None) (eqb-true c.n r t) c.can.free in
          let none : times r (numbers c.tree.pages) ≡ 0 = times_free c.tree.pages r free in
          let one : one_if (c.n == r) ≡ 1 = ap one_if t in omega (arith, numbered_split c r, none, one))
      | false ↦ λ t. (let other : one_if (c.n == r) ≡ 0 = ap one_if t in omega (arith, numbered_split c r, other, c.forest.once r))
    ] refl

split_forest : (c : Splitting) → Forest (after_split c)
split_forest c = record {
  top = round c c.tree.root c.forest.top;
  rooted = at_old c c.tree.root c.forest.top (n_not_root c) (o_not_root c) c.forest.rooted;
  alone = c.forest.alone;
  once = once_split c;
  by_one = λ r. omega (arith, numbered_split c r, named_split c r, c.forest.by_one r);
  each = page_split c;
  below = below_split c;
  linked = linked_split c;
}

pub split_keeps : (tree : Tree) (o above : ℕ) (left right : List Entry) (n : ℕ) → Forest tree → CanSplit tree o above left right n → Forest (split tree o above left right n)
split_keeps tree o above left right n forest can =
    let c : Splitting = record { tree = tree; forest = forest; o = o; above = above; n = n; left = left; right = right; can = can } in
    subst Forest (sym (split_is c)) (split_forest c)
