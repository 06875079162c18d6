-- Raising the root keeps the forest, and leaves all walks: the root keeps its number, and no right link leads to the new page.
use Rattle.std.proofs.Common.{◌≡◌, ◌⊎◌, inl, inr, ℕ, suc, ◌+◌, ◌≤◌, ◌==◌, Bool, true, false, cond, Option, Some, None, List, [], ◌∷◌, ◌++◌, length, refl, ap, sym, ◌∙◌, arith, subst, eqb-true, eq-eqb}
use Rattle.std.specs.Prelude.{is_none, nat_lt}
use Rattle.std.proofs.lemmas.Bool.Decides.{nat_tests}
use Rattle.isp_mbr.specs.Boxes.{IsBox, covers}
use Rattle.isp_forest.specs.declared.entry.Entry.{Entry}
use Rattle.isp_base.specs.Lists.{Has, times}
use Rattle.isp_forest.specs.Tree.{Node, Tree, page_in, page_at, counter, ssn_of, child_of, children, numbers, named, least}
use Rattle.isp_forest.specs.Forest.{Forest, IsBelow, IsPage, IsLinked}
use Rattle.isp_forest.specs.Walk.{split_since, onward, right_of, link, Links}
use Rattle.isp_forest.specs.Steps.{put, entry_for, raised, raise}
use Rattle.isp_forest.specs.Place.{Names, IsFree, CanRaise}
use Rattle.isp_laws.proofs.ListLaws.{times-append}
use Rattle.isp_laws.proofs.PageLaws.{page_in-put_same, page_in-put_other, put_new, numbers-put, named-put, named-append, numbers-append, times_free}
use Rattle.isp_laws.proofs.EntryLaws.{least_covers, IsBox-least}
use Rattle.isp_laws.proofs.ForestLaws.{named_not_root, not_free, no_link_to_root, same_page, counter_is}
use Rattle.isp_laws.proofs.WalkLaws.{links_same}

-- ---- what a page is after `put`

pub record IsPut (q x : ℕ) (page y : Node) : Type 0 where
  pub at : q ≡ x
  pub is : page ≡ y

pub record IsOther (q x : ℕ) (m : List (ℕ × Node)) (y : Node) : Type 0 where
  pub other : (q == x) ≡ false
  pub there : page_in m x ≡ Some y

pub put_or_other : (q x : ℕ) (page y : Node) (m : List (ℕ × Node)) → page_in (put q page m) x ≡ Some y → IsPut q x page y ⊎ IsOther q x m y
put_or_other q x page y m h =
    elim (q == x) as (λ b. (q == x) ≡ b → IsPut q x page y ⊎ IsOther q x m y) [
      | true ↦ λ t. (let at : q ≡ x = eqb-true q x t in
          let here : page_in (put q page m) x ≡ Some page = subst (λ (z : ℕ). page_in (put q page m) z ≡ Some page) at (page_in-put_same q page m) in
          inl (record { at = at; is = same_page (page_in (put q page m) x) page y here h }))
      | false ↦ λ t. inr (record { other = t; there = sym (page_in-put_other q x page m t) ∙ h })
    ] refl

pub apart : (m : List (ℕ × Node)) (p q : ℕ) (page : Node) → page_in m p ≡ Some page → page_in m q ≡ None → (p == q) ≡ false
apart m p q page there free =
    elim (p == q) as (λ b. (p == q) ≡ b → b ≡ false) [
      | true ↦ λ t. (let at : page_in m q ≡ Some page = subst (λ (z : ℕ). page_in m z ≡ Some page) (eqb-true p q t) there in let no : ⊥ = cc in absurd no)
      | false ↦ λ t. refl
    ] refl

pub turned : (p q : ℕ) → (p == q) ≡ false → (q == p) ≡ false
turned p q h = grind (arith, nat_tests)

-- ---- the raised tree

abbrev pub lifted : Node → ℕ → Node
lifted top q = record { level = suc top.level; ssn = top.ssn; next = None; entries = entry_for (least top.entries) q ∷ [] }

abbrev pub moved : Node → Node
moved top = record top { next = None }

pub made : (tree : Tree) (q : ℕ) (top : Node) → page_at tree tree.root ≡ Some top → raise tree q ≡ raised tree q (Some top)
made tree q top rooted = ap (raised tree q) rooted

abbrev pub one_if : Bool → ℕ
one_if b = cond b 1 0

pub suc_not_zero : (n : ℕ) → (suc n == 0) ≡ false
suc_not_zero n = grind (arith, nat_tests)

pub at_most_two : (b : Bool) (n : ℕ) → 2 ≤ n → cond b 1 2 ≤ n
at_most_two true n h = omega arith
at_most_two false n h = omega arith

abbrev within : Tree → Node → ℕ → List (ℕ × Node)
within tree top q = put q (moved top) tree.pages

abbrev lifted_pages : Tree → Node → ℕ → List (ℕ × Node)
lifted_pages tree top q = put tree.root (lifted top q) (within tree top q)

raised_forest : (tree : Tree) (forest : Forest tree) (q : ℕ) → CanRaise tree q → Forest (raised tree q (Some forest.top))
raised_forest tree forest q can = record {
  top = lifted forest.top q;
  rooted = at_root;
  alone = refl;
  once = λ x. (let o : times x (numbers tree.pages) ≤ 1 = forest.once x in
      elim (q == x) as (λ b. (q == x) ≡ b → times x (numbers (lifted_pages tree forest.top q)) ≤ 1) [
        | true ↦ λ t. (let none : times x (numbers tree.pages) ≡ 0 = times_free tree.pages x (subst (λ (z : ℕ). page_in tree.pages z ≡ None) (eqb-true q x t) can.free) in
            let one : one_if (q == x) ≡ 1 = ap one_if t in omega (arith, numbered x, none, one))
        | false ↦ λ t. (let other : one_if (q == x) ≡ 0 = ap one_if t in omega (arith, numbered x, other, o))
      ] refl);
  by_one = λ x. omega (arith, numbered x, is_named x, forest.by_one x);
  each = λ x page h. page_of x page h;
  below = λ p c a b e h has to k. below_of p c a b e h has to k;
  linked = λ x r page h next. linked_of x r page h next;
}
  where
    q_other : (tree.root == q) ≡ false
    q_other = apart tree.pages tree.root q forest.top forest.rooted can.free

    other_q : (q == tree.root) ≡ false
    other_q = turned tree.root q q_other

    at_root : page_in (lifted_pages tree forest.top q) tree.root ≡ Some (lifted forest.top q)
    at_root = page_in-put_same tree.root (lifted forest.top q) (within tree forest.top q)

    within_root : page_in (within tree forest.top q) tree.root ≡ Some forest.top
    within_root = page_in-put_other q tree.root (moved forest.top) tree.pages other_q ∙ forest.rooted

    appended : (within tree forest.top q) ≡ tree.pages ++ (q, moved forest.top) ∷ []
    appended = put_new q (moved forest.top) tree.pages can.free

    numbered : (x : ℕ) → times x (numbers (lifted_pages tree forest.top q)) ≡ times x (numbers tree.pages) + one_if (q == x)
    numbered x =
        let a : times x (numbers (lifted_pages tree forest.top q)) ≡ times x (numbers (within tree forest.top q)) = ap (times x) (numbers-put tree.root (lifted forest.top q) forest.top (within tree forest.top q) within_root) in
        let b : times x (numbers (within tree forest.top q)) ≡ times x (numbers tree.pages ++ q ∷ []) = ap (λ (m : List (ℕ × Node)). times x (numbers m)) appended ∙ ap (times x) (numbers-append tree.pages ((q, moved forest.top) ∷ [])) in
        omega (arith, a, b, times-append x (numbers tree.pages) (q ∷ []))

    is_named : (x : ℕ) → times x (named (lifted_pages tree forest.top q)) ≡ times x (named tree.pages) + one_if (q == x)
    is_named x =
        let a : times x (named (lifted_pages tree forest.top q)) + times x (children forest.top.entries) ≡ times x (named (within tree forest.top q)) + times x (children (lifted forest.top q).entries) = named-put tree.root (lifted forest.top q) forest.top (within tree forest.top q) x within_root in
        let b : times x (named (within tree forest.top q)) ≡ times x (named tree.pages) + times x (named ((q, moved forest.top) ∷ [])) = ap (λ (m : List (ℕ × Node)). times x (named m)) appended ∙ named-append tree.pages ((q, moved forest.top) ∷ []) x in
        omega (arith, a, b, times-append x (children forest.top.entries) [])

    counter_stays : counter (raised tree q (Some forest.top)) ≡ counter tree
    counter_stays = ap ssn_of at_root ∙ sym (counter_is tree forest)

    is_top : IsPage tree tree.root forest.top
    is_top = forest.each tree.root forest.top forest.rooted

    root_page : (x : ℕ) → x ≡ tree.root → IsPage (raised tree q (Some forest.top)) x (lifted forest.top q)
    root_page x at = record {
      kinds = λ e has. elim has [ inl same ↦ ap (λ (z : Entry). is_none (child_of z)) (sym same) ∙ sym (suc_not_zero forest.top.level) | inr none ↦ absurd none ];
      boxes = λ e has. elim has [ inl same ↦ subst (λ (z : Entry). IsBox z.b) same (IsBox-least forest.top.entries is_top.boxes) | inr none ↦ absurd none ];
      filled = λ inner. (let t : (x == tree.root) ≡ true = eq-eqb x tree.root at in rw t (omega arith));
      numbered = omega (arith, counter_stays, counter_is tree forest);
    }

    moved_page : (x : ℕ) → x ≡ q → IsPage (raised tree q (Some forest.top)) x (moved forest.top)
    moved_page x at = record {
      kinds = is_top.kinds;
      boxes = is_top.boxes;
      filled = λ inner. at_most_two (x == tree.root) (length forest.top.entries) (can.two forest.top forest.rooted inner);
      numbered = omega (arith, counter_stays, is_top.numbered);
    }

    page_of : (x : ℕ) (page : Node) → page_in (lifted_pages tree forest.top q) x ≡ Some page → IsPage (raised tree q (Some forest.top)) x page
    page_of x page h = elim (put_or_other tree.root x (lifted forest.top q) page (within tree forest.top q) h) [
      | inl root ↦ subst (λ (z : Node). IsPage (raised tree q (Some forest.top)) x z) root.is (root_page x (sym root.at))
      | inr more ↦ elim (put_or_other q x (moved forest.top) page tree.pages more.there) [
        | inl new ↦ subst (λ (z : Node). IsPage (raised tree q (Some forest.top)) x z) new.is (moved_page x (sym new.at))
        | inr old ↦ (let is : IsPage tree x page = forest.each x page old.there in
            record { kinds = is.kinds; boxes = is.boxes; filled = is.filled; numbered = omega (arith, is.numbered, counter_stays) })
      ]
    ]

    names_old : (p c : ℕ) (a : Node) (e : Entry) → page_at tree p ≡ Some a → Has a.entries e → child_of e ≡ Some c → (b : Node) → page_in (lifted_pages tree forest.top q) c ≡ Some b → page_at tree c ≡ Some b
    names_old p c a e h has to b k =
        let n : Names tree p c e = record { page = a; there = h; has = has; to = to } in
        elim (put_or_other tree.root c (lifted forest.top q) b (within tree forest.top q) k) [
          | inl root ↦ (let no_root : (c == tree.root) ≡ false = named_not_root tree forest p c e n in
              let yes : (c == tree.root) ≡ true = eq-eqb c tree.root (sym root.at) in cc)
          | inr more ↦ elim (put_or_other q c (moved forest.top) b tree.pages more.there) [
            | inl new ↦ (let free : page_at tree c ≡ None = subst (λ (z : ℕ). page_in tree.pages z ≡ None) new.at can.free in absurd (not_free tree forest p c e free n))
            | inr old ↦ old.there
          ]
        ]

    below_lifted : (c : ℕ) (b : Node) (e : Entry) → entry_for (least forest.top.entries) q ≡ e → child_of e ≡ Some c → page_in (lifted_pages tree forest.top q) c ≡ Some b → IsBelow e (lifted forest.top q) b
    below_lifted c b e same to k =
        let at : Some q ≡ Some c = ap child_of same ∙ to in
        let at' : q ≡ c = cc in
        let at_q : page_in (lifted_pages tree forest.top q) q ≡ Some (moved forest.top) = page_in-put_other tree.root q (lifted forest.top q) (within tree forest.top q) q_other ∙ page_in-put_same q (moved forest.top) tree.pages in
        let at_c : page_in (lifted_pages tree forest.top q) c ≡ Some (moved forest.top) = subst (λ (z : ℕ). page_in (lifted_pages tree forest.top q) z ≡ Some (moved forest.top)) at' at_q in
        let is : moved forest.top ≡ b = same_page (page_in (lifted_pages tree forest.top q) c) (moved forest.top) b at_c k in
        subst (λ (z : Node). IsBelow e (lifted forest.top q) z) is (record {
          level = refl;
          inside = λ g hg. subst (λ (z : Entry). covers z.b g.b ≡ true) same (least_covers forest.top.entries g hg);
        })

    below_of : (p c : ℕ) (a b : Node) (e : Entry) → page_in (lifted_pages tree forest.top q) p ≡ Some a → Has a.entries e → child_of e ≡ Some c → page_in (lifted_pages tree forest.top q) c ≡ Some b → IsBelow e a b
    below_of p c a b e h has to k = elim (put_or_other tree.root p (lifted forest.top q) a (within tree forest.top q) h) [
      | inl root ↦ (let has' : Has (lifted forest.top q).entries e = subst (λ (z : Node). Has z.entries e) (sym root.is) has in
          subst (λ (z : Node). IsBelow e z b) root.is (elim has' [ inl same ↦ below_lifted c b e same to k | inr none ↦ absurd none ]))
      | inr more ↦ elim (put_or_other q p (moved forest.top) a tree.pages more.there) [
        | inl new ↦ (let has' : Has forest.top.entries e = subst (λ (z : Node). Has z.entries e) (sym new.is) has in
            let is : IsBelow e forest.top b = forest.below tree.root c forest.top b e forest.rooted has' to (names_old tree.root c forest.top e forest.rooted has' to b k) in
            subst (λ (z : Node). IsBelow e z b) new.is (record { level = is.level; inside = is.inside }))
        | inr old ↦ forest.below p c a b e old.there has to (names_old p c a e old.there has to b k)
      ]
    ]

    linked_of : (x r : ℕ) (page : Node) → page_in (lifted_pages tree forest.top q) x ≡ Some page → page.next ≡ Some r → IsLinked (raised tree q (Some forest.top)) page r
    linked_of x r page h next = elim (put_or_other tree.root x (lifted forest.top q) page (within tree forest.top q) h) [
      | inl root ↦ (let none : page.next ≡ None = sym (ap (λ (z : Node). z.next) root.is) in let no : ⊥ = cc in absurd no)
      | inr more ↦ elim (put_or_other q x (moved forest.top) page tree.pages more.there) [
        | inl new ↦ (let none : page.next ≡ None = sym (ap (λ (z : Node). z.next) new.is) in let no : ⊥ = cc in absurd no)
        | inr old ↦ (let is : IsLinked tree page r = forest.linked x r page old.there next in
            let not_q : (q == r) ≡ false = turned r q (apart tree.pages r q is.right is.there can.free) in
            let not_root : (tree.root == r) ≡ false = elim (tree.root == r) as (λ b. (tree.root == r) ≡ b → b ≡ false) [
              | true ↦ λ t. (let at : r ≡ tree.root = sym (eqb-true tree.root r t) in
                  absurd (no_link_to_root tree forest x page old.there (next ∙ ap Some at)))
              | false ↦ λ t. refl
            ] refl in
            record {
              right = is.right;
              there = page_in-put_other tree.root r (lifted forest.top q) (within tree forest.top q) not_root ∙ page_in-put_other q r (moved forest.top) tree.pages not_q ∙ is.there;
              level = is.level;
            })
      ]
    ]

pub raise_keeps : (tree : Tree) (forest : Forest tree) (q : ℕ) → CanRaise tree q → Forest (raise tree q)
raise_keeps tree forest q can = subst Forest (sym (made tree q forest.top forest.rooted)) (raised_forest tree forest q can)

-- ---- links and walks

since_none : (b : Bool) → ◌≡◌ {A = Option ℕ} (cond b None None) None
since_none true = refl
since_none false = refl

pub raise_onward : (tree : Tree) (forest : Forest tree) (q : ℕ) → IsFree tree q → (s p : ℕ) → onward tree s p ≡ onward (raise tree q) s p
raise_onward tree forest q free s p = stays ∙ ap (λ (t : Tree). onward t s p) (sym (made tree q forest.top forest.rooted))
  where
    q_other : (tree.root == q) ≡ false
    q_other = apart tree.pages tree.root q forest.top forest.rooted free

    stays : onward tree s p ≡ onward (raised tree q (Some forest.top)) s p
    stays = elim (tree.root == p) as (λ b. (tree.root == p) ≡ b → onward tree s p ≡ onward (raised tree q (Some forest.top)) s p) [
      | true ↦ λ t. (let at : tree.root ≡ p = eqb-true tree.root p t in
          let before : onward tree s p ≡ None = ap (onward tree s) (sym at) ∙ ap (split_since s) forest.rooted ∙ ap (λ o. cond (nat_lt s forest.top.ssn) o None) forest.alone ∙ since_none (nat_lt s forest.top.ssn) in
          let after : onward (raised tree q (Some forest.top)) s p ≡ None = ap (onward (raised tree q (Some forest.top)) s) (sym at) ∙ ap (split_since s) (page_in-put_same tree.root (lifted forest.top q) (within tree forest.top q)) ∙ since_none (nat_lt s forest.top.ssn) in
          before ∙ sym after)
      | false ↦ λ t. elim (q == p) as (λ b. (q == p) ≡ b → onward tree s p ≡ onward (raised tree q (Some forest.top)) s p) [
        | true ↦ λ u. (let at : q ≡ p = eqb-true q p u in
            let before : onward tree s p ≡ None = ap (onward tree s) (sym at) ∙ ap (split_since s) free in
            let there : page_at (raised tree q (Some forest.top)) q ≡ Some (moved forest.top) = page_in-put_other tree.root q (lifted forest.top q) (within tree forest.top q) q_other ∙ page_in-put_same q (moved forest.top) tree.pages in
            let after : onward (raised tree q (Some forest.top)) s p ≡ None = ap (onward (raised tree q (Some forest.top)) s) (sym at) ∙ ap (split_since s) there ∙ since_none (nat_lt s forest.top.ssn) in
            before ∙ sym after)
        | false ↦ λ u. ap (split_since s) (sym (page_in-put_other tree.root p (lifted forest.top q) (within tree forest.top q) t ∙ page_in-put_other q p (moved forest.top) tree.pages u))
      ] refl
    ] refl

pub raise_link : (tree : Tree) (forest : Forest tree) (q : ℕ) → IsFree tree q → (p : ℕ) → link tree p ≡ link (raise tree q) p
raise_link tree forest q free p = stays ∙ ap (λ (t : Tree). link t p) (sym (made tree q forest.top forest.rooted))
  where
    q_other : (tree.root == q) ≡ false
    q_other = apart tree.pages tree.root q forest.top forest.rooted free

    stays : link tree p ≡ link (raised tree q (Some forest.top)) p
    stays = elim (tree.root == p) as (λ b. (tree.root == p) ≡ b → link tree p ≡ link (raised tree q (Some forest.top)) p) [
      | true ↦ λ t. (let at : tree.root ≡ p = eqb-true tree.root p t in
          let before : link tree p ≡ None = ap (link tree) (sym at) ∙ ap right_of forest.rooted ∙ forest.alone in
          let after : link (raised tree q (Some forest.top)) p ≡ None = ap (link (raised tree q (Some forest.top))) (sym at) ∙ ap right_of (page_in-put_same tree.root (lifted forest.top q) (within tree forest.top q)) in
          before ∙ sym after)
      | false ↦ λ t. elim (q == p) as (λ b. (q == p) ≡ b → link tree p ≡ link (raised tree q (Some forest.top)) p) [
        | true ↦ λ u. (let at : q ≡ p = eqb-true q p u in
            let before : link tree p ≡ None = ap (link tree) (sym at) ∙ ap right_of free in
            let there : page_at (raised tree q (Some forest.top)) q ≡ Some (moved forest.top) = page_in-put_other tree.root q (lifted forest.top q) (within tree forest.top q) q_other ∙ page_in-put_same q (moved forest.top) tree.pages in
            let after : link (raised tree q (Some forest.top)) p ≡ None = ap (link (raised tree q (Some forest.top))) (sym at) ∙ ap right_of there in
            before ∙ sym after)
        | false ↦ λ u. ap right_of (sym (page_in-put_other tree.root p (lifted forest.top q) (within tree forest.top q) t ∙ page_in-put_other q p (moved forest.top) tree.pages u))
      ] refl
    ] refl

pub raise_links : (tree : Tree) (forest : Forest tree) (q : ℕ) → IsFree tree q → Links tree → Links (raise tree q)
raise_links tree forest q free links = links_same tree (raise tree q) (raise_link tree forest q free) links
