-- Where a plan begins: in the tree with the new entry on its leaf and the boxes on the way grown, the pages of the path stand as
-- the plan takes them, from the leaf up.
use Rattle.std.proofs.Common.{◌≡◌, inl, inr, ℕ, zero, suc, ◌+◌, ◌<◌, ◌≤◌, ◌==◌, ◌||◌, Bool, true, false, cond, Option, Some, None, List, [], ◌∷◌, ◌++◌, map, reverse, refl, sym, ◌∙◌, ap, subst, arith, eqb-true, eq-eqb, ℤ}
use Rattle.std.proofs.lemmas.List.{append-nil, append_assoc, reverse-append}
use Rattle.isp_base.specs.Lists.{Has, times}
use Rattle.isp_mbr.specs.Boxes.{union}
use Rattle.isp_mbr.specs.Corners.{Corners}
use Rattle.isp_forest.specs.declared.entry.Entry.{Entry}
use Rattle.isp_forest.specs.declared.entry.To.TheVariants.{Row}
use Rattle.isp_forest.specs.Forest.{Forest, IsBelow}
use Rattle.isp_forest.specs.Place.{IsPath, Names, Stands}
use Rattle.isp_forest.specs.Steps.{add, added_to, is_among, is_last, names, widened}
use Rattle.isp_forest.specs.Tree.{Node, Tree, child_of, page_at}
use Rattle.isp_laws.proofs.AddLaws.{last_is_leaf}
use Rattle.isp_laws.proofs.ForestLaws.{not_free}
use Rattle.isp_laws.proofs.ListLaws.{Has-append_left, Has-map_of, times-same}
use Rattle.isp_laws.proofs.PageLaws.{changed, page_in-each}
use Rattle.isp_rplan.specs.declared.steps.Carry.TheVariants.{Added}
use Rattle.isp_rplan.specs.declared.steps.PathPage.{PathPage}
use Rattle.isp_rplan.specs.Divisions.{HasEntries, page_numbers}
use Rattle.isp_rplan.proofs.StepLaws.{AllHave, AreUp, IsUp, map_same}

-- ---- levels along a path

abbrev pub level_in : Option Node → ℕ
level_in None = 0
level_in (Some page) = page.level

abbrev pub level_at : Tree → ℕ → ℕ
level_at tree q = level_in (page_at tree q)

next_level : (tree : Tree) → Forest tree → (p q : ℕ) (e : Entry) → Names tree p q e → level_at tree p ≡ suc (level_at tree q)
next_level tree forest p q e n = by (page_at tree q) refl
  where
    by : (o : Option Node) → page_at tree q ≡ o → level_at tree p ≡ suc (level_in o)
    by None free = absurd (not_free tree forest p q e free n)
    by (Some page) there = let is : IsBelow e n.page page = forest.below p q n.page page e n.there n.has n.to there in ap level_in n.there ∙ is.level

-- the pages behind the first lie below it
deeper : (tree : Tree) → Forest tree → (p : ℕ) (rest : List ℕ) (x : ℕ) → IsPath tree (p ∷ rest) → 0 < times x rest → level_at tree x < level_at tree p
deeper tree forest p [] x path h = absurd (omega (arith, h))
deeper tree forest p (q ∷ rest) x path h = by (q == x) refl (λ later. deeper tree forest q rest x path.1 later)
  where
    next : level_at tree p ≡ suc (level_at tree q)
    next = next_level tree forest p q path.0.0 path.0.1

    by : (t : Bool) → (q == x) ≡ t → (0 < times x rest → level_at tree x < level_at tree q) → level_at tree x < level_at tree p
    by true is again = let same : level_at tree q ≡ level_at tree x = ap (level_at tree) (eqb-true q x is) in omega (arith, next, same)
    by false is again =
        let one : ◌≡◌ {A = ℕ} (cond (q == x) 1 0) 0 = ap (λ (b : Bool). let n : ℕ = cond b 1 0 in n) is in
        let low : level_at tree x < level_at tree q = again (omega (arith, h, one)) in
        omega (arith, next, low)

tail_path : (tree : Tree) (p : ℕ) (rest : List ℕ) → IsPath tree (p ∷ rest) → IsPath tree rest
tail_path tree p [] path = path
tail_path tree p (q ∷ rest) path = path.1

-- two pages of a path on one level are one
level_once : (tree : Tree) → Forest tree → (path : List ℕ) (x y : ℕ) → IsPath tree path → 0 < times x path → 0 < times y path → level_at tree x ≡ level_at tree y → x ≡ y
level_once tree forest [] x y path hx hy same = absurd (omega (arith, hx))
level_once tree forest (p ∷ rest) x y path hx hy same = by (p == x) (p == y) refl refl (λ jx jy. level_once tree forest rest x y (tail_path tree p rest path) jx jy same)
  where
    behind : (z : ℕ) → (p == z) ≡ false → 0 < times z (p ∷ rest) → 0 < times z rest
    behind z is h = let none : ◌≡◌ {A = ℕ} (cond (p == z) 1 0) 0 = ap (λ (b : Bool). let n : ℕ = cond b 1 0 in n) is in omega (arith, h, none)

    by : (s t : Bool) → (p == x) ≡ s → (p == y) ≡ t → (0 < times x rest → 0 < times y rest → x ≡ y) → x ≡ y
    by true true sx sy again = sym (eqb-true p x sx) ∙ eqb-true p y sy
    by true false sx sy again =
        let low : level_at tree y < level_at tree p = deeper tree forest p rest y path (behind y sy hy) in
        let at : level_at tree p ≡ level_at tree x = ap (level_at tree) (eqb-true p x sx) in
        absurd (omega (arith, low, at, same))
    by false true sx sy again =
        let low : level_at tree x < level_at tree p = deeper tree forest p rest x path (behind x sx hx) in
        let at : level_at tree p ≡ level_at tree y = ap (level_at tree) (eqb-true p y sy) in
        absurd (omega (arith, low, at, same))
    by false false sx sy again = again (behind x sx hx) (behind y sy hy)

-- a path has no page twice
pub path_once : (tree : Tree) → Forest tree → (path : List ℕ) (x : ℕ) → IsPath tree path → times x path ≤ 1
path_once tree forest [] x path = omega arith
path_once tree forest (p ∷ []) x path = by (p == x)
  where
    by : (t : Bool) → cond t 1 0 + 0 ≤ 1
    by true = omega arith
    by false = omega arith
path_once tree forest (p ∷ q ∷ rest) x path = by (p == x) refl (path_once tree forest (q ∷ rest) x path.1)
  where
    by : (t : Bool) → (p == x) ≡ t → times x (q ∷ rest) ≤ 1 → cond (p == x) 1 0 + times x (q ∷ rest) ≤ 1
    by false is later = let none : ◌≡◌ {A = ℕ} (cond (p == x) 1 0) 0 = ap (λ (b : Bool). let n : ℕ = cond b 1 0 in n) is in omega (arith, later, none)
    by true is later = count (times x (q ∷ rest)) refl
      where
        one : ◌≡◌ {A = ℕ} (cond (p == x) 1 0) 1
        one = ap (λ (b : Bool). let n : ℕ = cond b 1 0 in n) is

        count : (k : ℕ) → times x (q ∷ rest) ≡ k → cond (p == x) 1 0 + times x (q ∷ rest) ≤ 1
        count zero k = omega (arith, one, k)
        count (suc n) k =
            let low : level_at tree x < level_at tree p = deeper tree forest p (q ∷ rest) x path (omega (arith, k)) in
            let at : level_at tree p ≡ level_at tree x = ap (level_at tree) (eqb-true p x is) in
            absurd (omega (arith, low, at))

among_times : (path : List ℕ) (x : ℕ) → is_among path x ≡ true → 0 < times x path
among_times [] x h = cc
among_times (p ∷ rest) x h = by (p == x) refl h (among_times rest x)
  where
    by : (t : Bool) → (p == x) ≡ t → (t || is_among rest x) ≡ true → (is_among rest x ≡ true → 0 < times x rest) → 0 < times x (p ∷ rest)
    by true is h' again = let one : ◌≡◌ {A = ℕ} (cond (p == x) 1 0) 1 = ap (λ (b : Bool). let n : ℕ = cond b 1 0 in n) is in omega (arith, one)
    by false is h' again = let later = again h' in omega (arith, later)

times_among : (path : List ℕ) (x : ℕ) → 0 < times x path → is_among path x ≡ true
times_among [] x h = absurd (omega (arith, h))
times_among (p ∷ rest) x h = by (p == x) refl (times_among rest x)
  where
    by : (t : Bool) → (p == x) ≡ t → (0 < times x rest → is_among rest x ≡ true) → (t || is_among rest x) ≡ true
    by true is again = refl
    by false is again = let none : ◌≡◌ {A = ℕ} (cond (p == x) 1 0) 0 = ap (λ (b : Bool). let n : ℕ = cond b 1 0 in n) is in again (omega (arith, h, none))

-- ---- the tree with the new entry

module _ (tree : Tree) (forest : Forest tree) (path : List ℕ) (stands : Stands tree path) (b : Corners) (key : ℤ) (number : ℕ) where
  abbrev pub grown_tree : Tree
  grown_tree = add tree path b key number

  grown_at : (q : ℕ) (page : Node) → page_at tree q ≡ Some page → page_at grown_tree q ≡ Some (added_to path b key number q page)
  grown_at q page there = page_in-each (added_to path b key number) tree.pages q ∙ ap (changed (added_to path b key number) q) there

  pub grown_free : (q : ℕ) → page_at tree q ≡ None → page_at grown_tree q ≡ None
  grown_free q free = page_in-each (added_to path b key number) tree.pages q ∙ ap (changed (added_to path b key number) q) free

  names_grown : (p q : ℕ) (e : Entry) → Names tree p q e → (d : Entry) × Names grown_tree p q d
  names_grown p q e n = (
    widened path b e,
    record {
      page = added_to path b key number p n.page;
      there = grown_at p n.page n.there;
      has = Has-append_left (map (widened path b) n.page.entries) _ (widened path b e) (Has-map_of (widened path b) n.page.entries e n.has);
      to = n.to;
    },
  )

  widened_by : (s t : Bool) (e : Entry) → s ≡ t → ◌≡◌ {A = Entry} (record { b = cond s (union e.b b) e.b; to = e.to }) (record { b = cond t (union e.b b) e.b; to = e.to })
  widened_by s t e same = ap (λ (u : Bool). record { b = cond u (union e.b b) e.b; to = e.to }) same

  map_by : (f g : Entry → Entry) (es : List Entry) → ((e : Entry) → Has es e → f e ≡ g e) → map f es ≡ map g es
  map_by f g [] h = refl
  map_by f g (e ∷ es) h = ap (λ (x : Entry). x ∷ map f es) (h e (inl refl)) ∙ ap (λ (xs : List Entry). g e ∷ xs) (map_by f g es (λ d k. h d (inr k)))

  -- of the entries of a page of the path, the one for the next page grows
  one_grows : (p q : ℕ) (e : Entry) → Names tree p q e → IsPath tree path → 0 < times q path → (d : Entry) (page : Node) → page_at tree p ≡ Some page → Has page.entries d → (m : Option ℕ) → child_of d ≡ m → names (is_among path) m ≡ names (is_among (q ∷ [])) m
  one_grows p q e n steps on d page there has None to = refl
  one_grows p q e n steps on d page there has (Some r) to = by (q == r) (is_among path r) refl refl
    where
      by : (s t : Bool) → (q == r) ≡ s → is_among path r ≡ t → is_among path r ≡ ((q == r) || false)
      by true t is k = times_among path r (subst (λ (z : ℕ). 0 < times z path) (eqb-true q r is) on) ∙ sym (ap (λ (u : Bool). u || false) is)
      by false false is k = k ∙ sym (ap (λ (u : Bool). u || false) is)
      by false true is k =
          let down : level_at tree p ≡ suc (level_at tree q) = next_level tree forest p q e n in
          let also : level_at tree p ≡ suc (level_at tree r) = next_level tree forest p r d (record { page = page; there = there; has = has; to = to }) in
          let same : q ≡ r = level_once tree forest path q r steps on (among_times path r k) (omega (arith, down, also)) in
          let yes : (q == r) ≡ true = eq-eqb q r same in
          absurd (let no : true ≡ false = sym yes ∙ is in cc)

  -- a page of the path that isn't the last
  inner_has : (p q : PathPage) (e : Entry) → Names tree p.page.0 q.page.0 e → 0 < times q.page.0 path → HasEntries tree p.page.0 p.entries.items → HasEntries grown_tree p.page.0 (map (widened (q.page.0 ∷ []) b) p.entries.items)
  inner_has p q e n on h = record {
    node = added_to path b key number p.page.0 h.node;
    there = grown_at p.page.0 h.node h.there;
    entries_are = not_last (is_last path p.page.0) refl
        ∙ map_by (widened path b) (widened (q.page.0 ∷ []) b) h.node.entries (λ d has. widened_by (names (is_among path) (child_of d)) (names (is_among (q.page.0 ∷ [])) (child_of d)) d (one_grows p.page.0 q.page.0 e n stands.steps on d h.node h.there has (child_of d) refl))
        ∙ ap (map (widened (q.page.0 ∷ []) b)) h.entries_are;
  }
    where
      row : Entry
      row = record { b = b; to = Row key number }

      not_last : (t : Bool) → is_last path p.page.0 ≡ t → map (widened path b) h.node.entries ++ cond (is_last path p.page.0) ((record { b = b; to = Row key number }) ∷ []) [] ≡ map (widened path b) h.node.entries
      not_last false is = ap (λ (u : Bool). map (widened path b) h.node.entries ++ cond u ((record { b = b; to = Row key number }) ∷ []) []) is ∙ append-nil (map (widened path b) h.node.entries)
      not_last true is =
          let leaf : h.node.level ≡ 0 = last_is_leaf tree path p.page.0 h.node stands.leaf is h.there in
          let at : level_at tree p.page.0 ≡ h.node.level = ap level_in h.there in
          absurd (omega (arith, leaf, at, next_level tree forest p.page.0 q.page.0 e n))

  -- the last one
  leaf_has : (p : PathPage) → is_last path p.page.0 ≡ true → HasEntries tree p.page.0 p.entries.items → HasEntries grown_tree p.page.0 (p.entries.items ++ (record { b = b; to = Row key number }) ∷ [])
  leaf_has p last h = record {
    node = added_to path b key number p.page.0 h.node;
    there = grown_at p.page.0 h.node h.there;
    entries_are = ap (λ (u : Bool). map (widened path b) h.node.entries ++ cond u ((record { b = b; to = Row key number }) ∷ []) []) last
        ∙ ap (λ (es : List Entry). es ++ (record { b = b; to = Row key number }) ∷ []) (map_same (widened path b) h.node.entries (λ e has. rows e has (child_of e) refl) ∙ h.entries_are);
  }
    where
      rows : (e : Entry) → Has h.node.entries e → (m : Option ℕ) → child_of e ≡ m → widened path b e ≡ e
      rows e has None to = widened_by (names (is_among path) (child_of e)) false e (ap (names (is_among path)) to)
      rows e has (Some c) to =
          let leaf : h.node.level ≡ 0 = last_is_leaf tree path p.page.0 h.node stands.leaf last h.there in
          let at : level_at tree p.page.0 ≡ h.node.level = ap level_in h.there in
          absurd (omega (arith, leaf, at, next_level tree forest p.page.0 c e (record { page = h.node; there = h.there; has = has; to = to })))

-- ---- from the root down to the leaf

-- the pages of the path from the leaf up
pub record BeginsUp (tree : Tree) (path : List ℕ) (pages : List PathPage) (b : Corners) (key : ℤ) (number : ℕ) : Type 0 where
  pub leaf : PathPage
  pub above : List PathPage
  pub is : reverse pages ≡ leaf ∷ above
  pub are_up : AreUp (add tree path b key number) b (Added b) (Row key number) leaf above

abbrev onto : List PathPage → List PathPage → List PathPage
onto [] done = done
onto (p ∷ rest) done = onto rest (p ∷ done)

onto_is : (rest done : List PathPage) → onto rest done ≡ reverse rest ++ done
onto_is [] done = refl
onto_is (p ∷ rest) done =
    onto_is rest (p ∷ done)
    ∙ sym (append_assoc (reverse rest) (p ∷ []) done)
    ∙ ap (λ (l : List PathPage). l ++ done) (sym (reverse-append (p ∷ []) rest))

-- what is known on the way: of the page at hand, the pages above it, which have been passed, and those below
record Down (tree : Tree) (forest : Forest tree) (path : List ℕ) (b : Corners) (key : ℤ) (number : ℕ) (p : PathPage) (rest done : List PathPage) : Type 0 where
  steps : IsPath tree (page_numbers (p ∷ rest))
  ends : (x : ℕ) → is_last path x ≡ is_last (page_numbers (p ∷ rest)) x
  counted : (x : ℕ) → times x (page_numbers (p ∷ done)) + times x (page_numbers rest) ≤ times x path
  has : (x : PathPage) → Has (p ∷ rest) x → HasEntries tree x.page.0 x.entries.items
  up : IsUp (add tree path b key number) (page_numbers (p ∷ done))
  passed : AllHave (add tree path b key number) b p.page done

down : (tree : Tree) (forest : Forest tree) (path : List ℕ) (stands : Stands tree path) (b : Corners) (key : ℤ) (number : ℕ) → page_at tree 0 ≡ None
    → (p : PathPage) (rest done : List PathPage) → Down tree forest path b key number p rest done
    → (leaf : PathPage) × (above : List PathPage) × (onto (p ∷ rest) done ≡ leaf ∷ above) × AreUp (add tree path b key number) b (Added b) (Row key number) leaf above
down tree forest path stands b key number none p [] done d = (
  p,
  done,
  refl,
  record {
    up = d.up;
    hand = leaf_has tree forest path stands b key number p (d.ends p.page.0 ∙ eq-eqb p.page.0 p.page.0 refl) (d.has p (inl refl));
    others = d.passed;
    once = λ q. (let h = d.counted q in let k = path_once tree forest path q stands.steps in omega (arith, h, k));
    none = grown_free tree forest path stands b key number 0 none;
  },
)
down tree forest path stands b key number none p (q ∷ rest) done d =
    let here : times q.page.0 (q.page.0 ∷ page_numbers rest) ≡ suc (times q.page.0 (page_numbers rest)) = times-same q.page.0 (page_numbers rest) in
    let on : 0 < times q.page.0 path = let h = d.counted q.page.0 in omega (arith, h, here) in
    down tree forest path stands b key number none q rest (p ∷ done) (record {
      steps = d.steps.1;
      ends = d.ends;
      counted = λ x. (let h = d.counted x in omega (arith, h));
      has = λ x h. d.has x (inr h);
      up = (names_grown tree forest path stands b key number p.page.0 q.page.0 d.steps.0.0 d.steps.0.1, d.up);
      passed = (inner_has tree forest path stands b key number p q d.steps.0.0 d.steps.0.1 on (d.has p (inl refl)), d.passed);
    })

-- the pages of a path that stands, read from the root down, are where the plan begins once the entry is added
pub begins_up : (tree : Tree) (forest : Forest tree) (pages : List PathPage) (b : Corners) (key : ℤ) (number : ℕ) → Stands tree (page_numbers pages) → page_at tree 0 ≡ None
    → ((x : PathPage) → Has pages x → HasEntries tree x.page.0 x.entries.items) → BeginsUp tree (page_numbers pages) pages b key number
begins_up tree forest [] b key number stands none has = absurd stands.starts
begins_up tree forest (p ∷ rest) b key number stands none has =
    let path = page_numbers (p ∷ rest) in
    let found = down tree forest path stands b key number none p rest [] (record {
      steps = stands.steps;
      ends = λ x. refl;
      counted = λ x. omega arith;
      has = has;
      up = stands.starts;
      passed = tt;
    }) in
    record {
      leaf = found.0;
      above = found.1;
      is = sym (append-nil (reverse (p ∷ rest))) ∙ sym (onto_is (p ∷ rest) []) ∙ found.2;
      are_up = found.3;
    }
