-- Adding an entry at the end of a path that stands keeps the forest, and leaves all links and numbers.
use Rattle.std.proofs.Common.{◌≡◌, ◌⊎◌, inl, inr, ℕ, ◌==◌, Bool, true, false, cond, Option, Some, None, List, [], ◌∷◌, ◌++◌, map, refl, ap, sym, ◌∙◌, arith, subst, eqb-true, length-append, ℤ, ◌||◌}
use Rattle.std.specs.Prelude.{is_none}
use Rattle.std.proofs.lemmas.Bool.Decides.{nat_tests}
use Rattle.std.proofs.lemmas.List.{length-map}
use Rattle.isp_mbr.specs.Corners.{Corners}
use Rattle.isp_mbr.specs.Boxes.{IsBox, covers, union}
use Rattle.isp_mbr.proofs.BoxLaws.{covers_trans, union_covers_left, union_covers_right, union_least, IsBox-union}
use Rattle.isp_forest.specs.declared.entry.Entry.{Entry}
use Rattle.isp_forest.specs.declared.entry.To.TheVariants.{Row}
use Rattle.isp_base.specs.Lists.{Has, times}
use Rattle.isp_forest.specs.Tree.{Node, Tree, page_at, child_of, children}
use Rattle.isp_forest.specs.Forest.{Forest, IsBelow, IsPage}
use Rattle.isp_forest.specs.Walk.{Links}
use Rattle.isp_forest.specs.Steps.{is_among, names, is_last, widened, added_to, add}
use Rattle.isp_forest.specs.Place.{Names, IsPath, EndsOnLeaf, Stands}
use Rattle.isp_laws.proofs.ListLaws.{Has-append, Has-map, Source, times-append}
use Rattle.isp_laws.proofs.EntryLaws.{children-append, children-map}
use Rattle.isp_laws.proofs.ForestLaws.{named_not_root, one_parent, same_page}
use Rattle.isp_laws.proofs.RoundLaws.{Still, Fits, forest-rounded, links-rounded}

-- the new entry, where the page is the last of the path
abbrev pub fresh : Bool → Corners → ℤ → ℕ → List Entry
fresh b box key number = cond b (record { b = box; to = Row key number } ∷ []) []

names_none : (b : Bool) (box : Corners) (key : ℤ) (number r : ℕ) → times r (children (fresh b box key number)) ≡ 0
names_none true box key number r = refl
names_none false box key number r = refl

pub add-still : (path : List ℕ) (box : Corners) (key : ℤ) (number : ℕ) → Still (added_to path box key number)
add-still path box key number = record {
  level = λ q page. refl;
  ssn = λ q page. refl;
  next = λ q page. refl;
  kids = λ r q page. (
      let e : children (map (widened path box) page.entries ++ fresh (is_last path q) box key number) ≡ children (map (widened path box) page.entries) ++ children (fresh (is_last path q) box key number) = children-append (map (widened path box) page.entries) (fresh (is_last path q) box key number) in
      let k : children (map (widened path box) page.entries) ≡ children page.entries = children-map (widened path box) (λ x. refl) page.entries in
      let n : times r (children (map (widened path box) page.entries)) ≡ times r (children page.entries) = ap (times r) k in
      ap (times r) e ∙ omega (arith, n, times-append r (children (map (widened path box) page.entries)) (children (fresh (is_last path q) box key number)), names_none (is_last path q) box key number r));
}

-- ---- the pages of the path

pub last_among : (path : List ℕ) (q : ℕ) → is_last path q ≡ true → is_among path q ≡ true
last_among [] q h = h
last_among (p ∷ []) q h = rw h refl
last_among (p ∷ r ∷ rest) q h = let i : is_among (r ∷ rest) q ≡ true = last_among (r ∷ rest) q h in rw i (or_true (p == q))
  where
    or_true : (b : Bool) → (b || true) ≡ true
    or_true true = refl
    or_true false = refl

pub last_is_leaf : (tree : Tree) (path : List ℕ) (q : ℕ) (page : Node) → EndsOnLeaf tree path → is_last path q ≡ true → page_at tree q ≡ Some page → page.level ≡ 0
last_is_leaf tree [] q page leaf h there = absurd leaf
last_is_leaf tree (p ∷ []) q page leaf h there =
    let here : p ≡ q = eqb-true p q h in
    let at_q : page_at tree q ≡ Some leaf.0 = subst (λ (x : ℕ). page_at tree x ≡ Some leaf.0) here leaf.1 in
    let same : page ≡ leaf.0 = same_page (page_at tree q) page leaf.0 there at_q in
    ap (λ (x : Node). x.level) same ∙ leaf.2
last_is_leaf tree (p ∷ r ∷ rest) q page leaf h there = last_is_leaf tree (r ∷ rest) q page leaf h there

record Previous (tree : Tree) (path : List ℕ) (r : ℕ) : Type 0 where
  p : ℕ
  among : is_among path p ≡ true
  e : Entry
  names : Names tree p r e

previous : (tree : Tree) (p : ℕ) (rest : List ℕ) (r : ℕ) → IsPath tree (p ∷ rest) → is_among rest r ≡ true → Previous tree (p ∷ rest) r
previous tree p [] r path h = let no : ⊥ = cc in absurd no
previous tree p (q ∷ rest) r path h =
    elim (q == r) as (λ b. (q == r) ≡ b → (b || is_among rest r) ≡ true → Previous tree (p ∷ q ∷ rest) r) [
      | true ↦ λ t k. (let here : q ≡ r = eqb-true q r t in
          let n : Names tree p r path.0.0 = subst (λ (x : ℕ). Names tree p x path.0.0) here path.0.1 in
          record { p = p; among = first p (is_among (q ∷ rest) p); e = path.0.0; names = n })
      | false ↦ λ t k. (let i : Previous tree (q ∷ rest) r = previous tree q rest r path.1 k in
          record { p = i.p; among = later (p == i.p) (is_among (q ∷ rest) i.p) i.among; e = i.e; names = i.names })
    ] refl h
  where
    later : (b c : Bool) → c ≡ true → (b || c) ≡ true
    later true c h = refl
    later false c h = h

    first : (p : ℕ) (c : Bool) → ((p == p) || c) ≡ true
    first p c = let t : (p == p) ≡ true = grind (arith, nat_tests) in rw t refl

-- who names a page of the path is on the path
pub above_on_path : (tree : Tree) → Forest tree → (path : List ℕ) → Stands tree path → (p q : ℕ) (e : Entry) → Names tree p q e → is_among path q ≡ true → is_among path p ≡ true
above_on_path tree forest [] stands p q e names h = absurd stands.starts
above_on_path tree forest (root ∷ rest) stands p q e names h =
    elim (root == q) as (λ b. (root == q) ≡ b → (b || is_among rest q) ≡ true → is_among (root ∷ rest) p ≡ true) [
      | true ↦ λ t k. (let at : root ≡ q = eqb-true root q t in
          let is_root : q ≡ tree.root = sym at ∙ stands.starts in
          let no_root : (q == tree.root) ≡ false = named_not_root tree forest p q e names in
          let yes : (q == tree.root) ≡ true = grind (arith, nat_tests) in
          let no : ⊥ = cc in absurd no)
      | false ↦ λ t k. (let i : Previous tree (root ∷ rest) q = previous tree root rest q stands.steps k in
          let same : i.p ≡ p = one_parent tree forest i.p p q i.e e i.names names in
          subst (λ (x : ℕ). is_among (root ∷ rest) x ≡ true) same i.among)
    ] refl h

-- ---- boxes

box_widened : (b : Bool) (box c : Corners) → IsBox c → IsBox (cond b (union c box) c)
box_widened true box c h = IsBox-union c box h
box_widened false box c h = h

-- a box that covered another still does when it grows, and where the other grows only if it grows too
still_covers : (s t : Bool) (box c d : Corners) → (t ≡ true → s ≡ true) → covers c d ≡ true → covers (cond s (union c box) c) (cond t (union d box) d) ≡ true
still_covers true true box c d f h = union_least d box (union c box) (covers_trans (union c box) c d (union_covers_left c box) h) (union_covers_right c box)
still_covers true false box c d f h = covers_trans (union c box) c d (union_covers_left c box) h
still_covers false true box c d f h = let no : false ≡ true = f refl in cc
still_covers false false box c d f h = h

covers_new : (s : Bool) (box c : Corners) → s ≡ true → covers (cond s (union c box) c) box ≡ true
covers_new true box c h = union_covers_right c box
covers_new false box c h = cc

abbrev is_widened : List ℕ → Entry → Bool
is_widened path e = names (is_among path) (child_of e)

-- an entry of a page after the step: one that was there, grown or not, or the new one on the last page of the path
pub record WasThere (path : List ℕ) (box : Corners) (page : Node) (e : Entry) : Type 0 where
  pub old : Entry
  pub has : Has page.entries old
  pub is : widened path box old ≡ e

pub record IsNew (path : List ℕ) (box : Corners) (key : ℤ) (number q : ℕ) (e : Entry) : Type 0 where
  pub last : is_last path q ≡ true
  pub is : record { b = box; to = Row key number } ≡ e

new_at : (path : List ℕ) (box : Corners) (key : ℤ) (number q : ℕ) (e : Entry) (b : Bool) → is_last path q ≡ b → Has (fresh b box key number) e → IsNew path box key number q e
new_at path box key number q e true t (inl same) = record { last = t; is = same }
new_at path box key number q e true t (inr none) = absurd none
new_at path box key number q e false t h = absurd h

pub entry_of : (path : List ℕ) (box : Corners) (key : ℤ) (number q : ℕ) (page : Node) (e : Entry) → Has (added_to path box key number q page).entries e
    → WasThere path box page e ⊎ IsNew path box key number q e
entry_of path box key number q page e h =
    elim (Has-append (map (widened path box) page.entries) (fresh (is_last path q) box key number) e h) [
      | inl k ↦ (let s : Source (widened path box) page.entries e = Has-map (widened path box) page.entries e k in inl (record { old = s.x; has = s.has; is = s.is }))
      | inr k ↦ inr (new_at path box key number q e (is_last path q) refl k)
    ]

-- an entry that names a page was there
pub naming_entry : (path : List ℕ) (box : Corners) (key : ℤ) (number q c : ℕ) (page : Node) (e : Entry) → Has (added_to path box key number q page).entries e
    → child_of e ≡ Some c → WasThere path box page e
naming_entry path box key number q c page e h to =
    elim (entry_of path box key number q page e h) [
      | inl was ↦ was
      | inr new ↦ (let none : child_of e ≡ None = sym (ap child_of new.is) in let no : ⊥ = cc in absurd no)
    ]

add-fits : (tree : Tree) (path : List ℕ) (box : Corners) (key : ℤ) (number : ℕ) → Forest tree → Stands tree path → IsBox box → Fits tree (added_to path box key number)
add-fits tree path box key number forest stands is_box = record {
  kinds = λ q page e there h. elim (entry_of path box key number q page e h) [
    | inl was ↦ (let is : IsPage tree q page = forest.each q page there in
        ap (λ (x : Entry). is_none (child_of x)) (sym was.is) ∙ is.kinds was.old was.has)
    | inr new ↦ (let level : page.level ≡ 0 = last_is_leaf tree path q page stands.leaf new.last there in
        ap (λ (x : Entry). is_none (child_of x)) (sym new.is) ∙ sym (ap (λ n. n == 0) level))
  ];
  boxes = λ q page e there h. elim (entry_of path box key number q page e h) [
    | inl was ↦ (let is : IsPage tree q page = forest.each q page there in
        subst (λ (x : Entry). IsBox x.b) was.is (box_widened (is_widened path was.old) box was.old.b (is.boxes was.old was.has)))
    | inr new ↦ subst (λ (x : Entry). IsBox x.b) new.is is_box
  ];
  filled = λ q page there inner. omega (arith, length-append (map (widened path box) page.entries) (fresh (is_last path q) box key number), length-map page.entries (widened path box));
  level = λ p q a b e h has to k. (let was : WasThere path box a e = naming_entry path box key number p q a e has to in
      let to' : child_of was.old ≡ Some q = ap child_of was.is ∙ to in
      let is : IsBelow was.old a b = forest.below p q a b was.old h was.has to' k in is.level);
  inside = λ p q a b e g h has to k hg. (let was : WasThere path box a e = naming_entry path box key number p q a e has to in
      let to' : child_of was.old ≡ Some q = ap child_of was.is ∙ to in
      let is : IsBelow was.old a b = forest.below p q a b was.old h was.has to' k in
      subst (λ (x : Entry). covers x.b g.b ≡ true) was.is (below_at p q a b was.old g h was.has to' k is hg));
}
  where
    on_path : (q : ℕ) (e : Entry) → child_of e ≡ Some q → is_widened path e ≡ is_among path q
    on_path q e to = ap (names (is_among path)) to

    grows_too : (q : ℕ) (b : Node) (g : Entry) → page_at tree q ≡ Some b → Has b.entries g → (o : Option ℕ) → child_of g ≡ o → names (is_among path) o ≡ true → is_among path q ≡ true
    grows_too q b g k has None to h = cc
    grows_too q b g k has (Some r) to h = above_on_path tree forest path stands q r g (record { page = b; there = k; has = has; to = to }) h

    below_at : (p q : ℕ) (a b : Node) (old g : Entry) → page_at tree p ≡ Some a → Has a.entries old → child_of old ≡ Some q → page_at tree q ≡ Some b → IsBelow old a b
        → Has (added_to path box key number q b).entries g → covers (widened path box old).b g.b ≡ true
    below_at p q a b old g h has to k is hg =
        elim (entry_of path box key number q b g hg) [
          | inl was ↦ subst (λ (x : Entry). covers (widened path box old).b x.b ≡ true) was.is (still_covers (is_widened path old) (is_widened path was.old) box old.b was.old.b
              (λ t. on_path q old to ∙ grows_too q b was.old k was.has (child_of was.old) refl t) (is.inside was.old was.has))
          | inr new ↦ subst (λ (x : Entry). covers (widened path box old).b x.b ≡ true) new.is (covers_new (is_widened path old) box old.b (on_path q old to ∙ last_among path q new.last))
        ]

pub add_keeps : (tree : Tree) (path : List ℕ) (box : Corners) (key : ℤ) (number : ℕ) → Forest tree → Stands tree path → IsBox box → Forest (add tree path box key number)
add_keeps tree path box key number forest stands is_box =
    forest-rounded tree (added_to path box key number) (add-still path box key number) (add-fits tree path box key number forest stands is_box) forest

pub add_links : (tree : Tree) (path : List ℕ) (box : Corners) (key : ℤ) (number : ℕ) → Links tree → Links (add tree path box key number)
add_links tree path box key number links = links-rounded tree (added_to path box key number) (add-still path box key number) links
