-- Where an entry stands before and after each step: an add, a raise and a split move entries between pages of one level, and lose none.
use Rattle.std.proofs.Common.{◌≡◌, ◌⊎◌, inl, inr, ℕ, ◌==◌, Bool, true, false, cond, Some, None, List, [], ◌∷◌, ◌++◌, map, refl, ap, sym, ◌∙◌, subst, eqb-true, ℤ}
use Rattle.std.proofs.lemmas.List.Sorted.{IsPermutation-sym}
use Rattle.isp_mbr.specs.Corners.{Corners}
use Rattle.isp_mbr.specs.Boxes.{union}
use Rattle.isp_forest.specs.declared.entry.Entry.{Entry}
use Rattle.isp_forest.specs.declared.entry.To.TheVariants.{Row}
use Rattle.isp_base.specs.Lists.{Has}
use Rattle.isp_forest.specs.Tree.{Node, Tree, page_at, child_of, least}
use Rattle.isp_forest.specs.Forest.{Forest}
use Rattle.isp_forest.specs.Steps.{is_among, names, is_last, entry_for, widened, added_to, add, raised, reboxed}
use Rattle.isp_forest.specs.Place.{IsFree}
use Rattle.isp_laws.proofs.ListLaws.{Has-append, Has-append_left, Has-map_of}
use Rattle.isp_laws.proofs.PageLaws.{Before, before, after_each, page_in-put_same, page_in-put_other}
use Rattle.isp_laws.proofs.EntryLaws.{Has-permutation}
use Rattle.isp_laws.proofs.ForestLaws.{same_page}
use Rattle.isp_laws.proofs.AddLaws.{fresh, entry_of as entry_of_add}
use Rattle.isp_laws.proofs.RaiseLaws.{put_or_other, apart, turned, lifted, moved}
use Rattle.isp_laws.proofs.SplitLaws.{Splitting, kept, gone, round, after_split, at_n, at_o, at_old, what, in_left, in_right, entry_of}
use Rattle.isp_leaf_laws.specs.TreeLaws.{IsOnPage, IsKept}

-- ---- an entry whose box is not changed is the same

abbrev pub boxed : Bool → Corners → Entry → Entry
boxed t box e = record { b = cond t box e.b; to = e.to }

pub boxed_not : (t : Bool) (box : Corners) (e : Entry) → t ≡ false → boxed t box e ≡ e
boxed_not true box e h = cc
boxed_not false box e h = refl

pub row_is_no_child : (test : ℕ → Bool) (e : Entry) (k : ℤ) (n : ℕ) → e.to ≡ Row k n → names test (child_of e) ≡ false
row_is_no_child test e k n to = ap (λ t. names test (Rattle.isp_forest.specs.Tree.child_in t)) to

-- an entry of this kind stands on some page of that level
pub record IsOnSome (tree : Tree) (level : ℕ) (e : Entry) : Type 0 where
  pub p : ℕ
  pub on : IsOnPage tree p level e

-- ---- add

pub kept_at_add : (tree : Tree) (path : List ℕ) (box : Corners) (key : ℤ) (number p level : ℕ) (e : Entry) → IsOnPage tree p level e
    → names (is_among path) (child_of e) ≡ false → IsOnPage (add tree path box key number) p level e
kept_at_add tree path box key number p level e on other = record {
  page = added_to path box key number p on.page;
  there = after_each (added_to path box key number) tree.pages p on.page on.there;
  same_level = on.same_level;
  has = Has-append_left (map (widened path box) on.page.entries) (fresh (is_last path p) box key number) e
      (subst (λ (x : Entry). Has (map (widened path box) on.page.entries) x) (boxed_not (names (is_among path) (child_of e)) (union e.b box) e other)
      (Has-map_of (widened path box) on.page.entries e on.has));
}

pub was_at_add : (tree : Tree) (path : List ℕ) (box : Corners) (key : ℤ) (number q level : ℕ) (e : Entry) (k : ℤ) (n : ℕ) → IsOnPage (add tree path box key number) q level e
    → e.to ≡ Row k n → IsOnPage tree q level e ⊎ (e ≡ record { b = box; to = Row key number })
was_at_add tree path box key number q level e k n on to =
    let b : Before (added_to path box key number) tree.pages q on.page = before (added_to path box key number) tree.pages q on.page on.there in
    let has : Has (added_to path box key number q b.old).entries e = subst (λ (x : Node). Has x.entries e) (sym b.is) on.has in
    let at_level : b.old.level ≡ level = ap (λ (x : Node). x.level) b.is ∙ on.same_level in
    elim (entry_of_add path box key number q b.old e has) [
      | inl was ↦ (let to' : was.old.to ≡ Row k n = ap (λ (x : Entry). x.to) was.is ∙ to in
          let same : widened path box was.old ≡ was.old = boxed_not (names (is_among path) (child_of was.old)) (union was.old.b box) was.old (row_is_no_child (is_among path) was.old k n to') in
          inl (record { page = b.old; there = b.there; same_level = at_level; has = subst (λ (x : Entry). Has b.old.entries x) (sym same ∙ was.is) was.has }))
      | inr new ↦ inr (sym new.is)
    ]

-- ---- raise

pub kept_at_raise : (tree : Tree) (forest : Forest tree) (q p level : ℕ) (e : Entry) → IsFree tree q → IsOnPage tree p level e → IsKept (raised tree q (Some forest.top)) p level e (q ∷ [])
kept_at_raise tree forest q p level e free on =
    elim (tree.root == p) as (λ b. (tree.root == p) ≡ b → IsKept (raised tree q (Some forest.top)) p level e (q ∷ [])) [
      | true ↦ λ t. (let rooted : page_at tree p ≡ Some forest.top = subst (λ (z : ℕ). page_at tree z ≡ Some forest.top) (eqb-true tree.root p t) forest.rooted in
          let same : on.page ≡ forest.top = same_page (page_at tree p) on.page forest.top on.there rooted in
          let q_other : (tree.root == q) ≡ false = apart tree.pages tree.root q forest.top forest.rooted free in
          record {
            q = q;
            on = record {
              page = moved forest.top;
              there = page_in-put_other tree.root q (lifted forest.top q) _ q_other ∙ page_in-put_same q (moved forest.top) tree.pages;
              same_level = ap (λ (z : Node). z.level) (sym same) ∙ on.same_level;
              has = subst (λ (z : Node). Has z.entries e) same on.has;
            };
            is_there = inr (inl refl);
          })
      | false ↦ λ t. (let other : (q == p) ≡ false = turned p q (apart tree.pages p q on.page on.there free) in
          record {
            q = p;
            on = record {
              page = on.page;
              there = page_in-put_other tree.root p (lifted forest.top q) _ t ∙ page_in-put_other q p (moved forest.top) tree.pages other ∙ on.there;
              same_level = on.same_level;
              has = on.has;
            };
            is_there = inl refl;
          })
    ] refl

pub no_row : (box : Corners) (q : ℕ) (e : Entry) (k : ℤ) (n : ℕ) → entry_for box q ≡ e → e.to ≡ Row k n → ⊥
no_row box q e k n is to = let none : child_of e ≡ Some q = sym (ap child_of is) in
    let row : child_of e ≡ None = ap (λ t. Rattle.isp_forest.specs.Tree.child_in t) to in cc

pub was_at_raise : (tree : Tree) (forest : Forest tree) (q p level : ℕ) (e : Entry) (k : ℤ) (n : ℕ) → IsOnPage (raised tree q (Some forest.top)) p level e → e.to ≡ Row k n
    → IsOnSome tree level e
was_at_raise tree forest q p level e k n on to =
    elim (put_or_other tree.root p (lifted forest.top q) on.page _ on.there) [
      | inl root ↦ (let has : Has (lifted forest.top q).entries e = subst (λ (z : Node). Has z.entries e) (sym root.is) on.has in
          elim has [ inl same ↦ absurd (no_row (least forest.top.entries) q e k n same to) | inr none ↦ absurd none ])
      | inr more ↦ elim (put_or_other q p (moved forest.top) on.page tree.pages more.there) [
        | inl new ↦ record {
          p = tree.root;
          on = record {
            page = forest.top;
            there = forest.rooted;
            same_level = ap (λ (z : Node). z.level) new.is ∙ on.same_level;
            has = subst (λ (z : Node). Has z.entries e) (sym new.is) on.has;
          };
        }
        | inr old ↦ record { p = p; on = record { page = on.page; there = old.there; same_level = on.same_level; has = on.has } }
      ]
    ]

-- ---- split

pub kept_at_split : (c : Splitting) (p level : ℕ) (e : Entry) → IsOnPage c.tree p level e → names (λ x. x == c.o) (child_of e) ≡ false → IsKept (after_split c) p level e (c.n ∷ [])
kept_at_split c p level e on other =
    elim (c.o == p) as (λ b. (c.o == p) ≡ b → IsKept (after_split c) p level e (c.n ∷ [])) [
      | true ↦ λ t. (let at : c.o ≡ p = eqb-true c.o p t in
          let here : page_at c.tree p ≡ Some c.can.page = subst (λ (z : ℕ). page_at c.tree z ≡ Some c.can.page) at c.can.there in
          let same : on.page ≡ c.can.page = same_page (page_at c.tree p) on.page c.can.page on.there here in
          let at_level : c.can.page.level ≡ level = ap (λ (z : Node). z.level) (sym same) ∙ on.same_level in
          let has : Has (c.left ++ c.right) e = Has-permutation (c.left ++ c.right) c.can.page.entries e (IsPermutation-sym c.can.page.entries (c.left ++ c.right) c.can.parts.all)
          (subst (λ (z : Node). Has z.entries e) same on.has) in
          elim (Has-append c.left c.right e has) [
            | inl left ↦ record {
              q = p;
              on = record { page = kept c; there = subst (λ (z : ℕ). page_at (after_split c) z ≡ Some (kept c)) at (at_o c); same_level = at_level; has = left };
              is_there = inl refl;
            }
            | inr right ↦ record { q = c.n; on = record { page = gone c; there = at_n c; same_level = at_level; has = right }; is_there = inr (inl refl) }
          ])
      | false ↦ λ t. (let not_n : (c.n == p) ≡ false = turned p c.n (apart c.tree.pages p c.n on.page on.there c.can.free) in
          record {
            q = p;
            on = record {
              page = round c p on.page;
              there = at_old c p on.page not_n t on.there;
              same_level = on.same_level;
              has = Has-append_left (map (reboxed c.o (least c.left)) on.page.entries) _ e
                  (subst (λ (x : Entry). Has (map (reboxed c.o (least c.left)) on.page.entries) x) (boxed_not (names (λ x. x == c.o) (child_of e)) (least c.left) e other)
                  (Has-map_of (reboxed c.o (least c.left)) on.page.entries e on.has));
            };
            is_there = inl refl;
          })
    ] refl

pub was_at_split : (c : Splitting) (q level : ℕ) (e : Entry) (k : ℤ) (n : ℕ) → IsOnPage (after_split c) q level e → e.to ≡ Row k n → IsOnSome c.tree level e
was_at_split c q level e k n on to = elim (what c q on.page on.there) [
  | inl new ↦ part (ap (λ (z : Node). z.level) new.is ∙ on.same_level) (in_right c e (subst (λ (z : Node). Has z.entries e) (sym new.is) on.has))
  | inr more ↦ elim more [
    | inl stay ↦ part (ap (λ (z : Node). z.level) stay.is ∙ on.same_level) (in_left c e (subst (λ (z : Node). Has z.entries e) (sym stay.is) on.has))
    | inr old ↦ (let has : Has (round c q old.old).entries e = subst (λ (z : Node). Has z.entries e) (sym old.is) on.has in
        elim (entry_of c q old.old e has) [
          | inl was ↦ (let to' : was.old.to ≡ Row k n = ap (λ (x : Entry). x.to) was.is ∙ to in
              let same : reboxed c.o (least c.left) was.old ≡ was.old = boxed_not (names (λ x. x == c.o) (child_of was.old)) (least c.left) was.old (row_is_no_child (λ x. x == c.o) was.old k n to') in
              record {
                p = q;
                on = record {
                  page = old.old;
                  there = old.there;
                  same_level = ap (λ (z : Node). z.level) old.is ∙ on.same_level;
                  has = subst (λ (x : Entry). Has old.old.entries x) (sym same ∙ was.is) was.has;
                };
              })
          | inr new ↦ absurd (no_row (least c.right) c.n e k n new.is to)
        ])
  ]
]
  where
    part : c.can.page.level ≡ level → Has c.can.page.entries e → IsOnSome c.tree level e
    part at_level has = record { p = c.o; on = record { page = c.can.page; there = c.can.there; same_level = at_level; has = has } }
