-- A placing changes no page but those on its path and its new ones, and keeps each entry that names no page of the path.
use Rattle.std.proofs.Common.{◌≡◌, inl, inr, ℕ, suc, ◌==◌, Bool, true, false, cond, Option, Some, None, List, [], ◌∷◌, ◌++◌, map, reverse, refl, ap, sym, ◌∙◌, subst, eqb-true, eq-eqb, ℤ, ◌||◌}
use Rattle.std.proofs.lemmas.List.{append-nil, reverse-append}
use Rattle.isp_mbr.specs.Corners.{Corners}
use Rattle.isp_mbr.specs.Boxes.{IsBox, union}
use Rattle.isp_forest.specs.declared.entry.Entry.{Entry}
use Rattle.isp_base.specs.Lists.{Has}
use Rattle.isp_forest.specs.Tree.{Node, Tree, page_at, counter, child_of, least}
use Rattle.isp_forest.specs.Forest.{Forest}
use Rattle.isp_forest.specs.Steps.{is_among, names, is_last, widened, added_to, add, raise, reboxed, split, entry_for}
use Rattle.isp_forest.specs.Place.{Names, StartsAt, Stands, IsFree, CanRaise, CanSplit, CanRelieve, Division, relieve, place}
use Rattle.isp_laws.proofs.ListLaws.{Has-append}
use Rattle.isp_laws.proofs.PageLaws.{page_in-put_other, page_in-each, changed}
use Rattle.isp_laws.proofs.ForestLaws.{not_free, one_parent}
use Rattle.isp_laws.proofs.AddLaws.{fresh, last_among, above_on_path, add_keeps}
use Rattle.isp_laws.proofs.RaiseLaws.{turned, lifted, moved, made, raise_keeps}
use Rattle.isp_laws.proofs.SplitLaws.{Splitting, round, after_split, split_is, at_other, split_keeps}
use Rattle.isp_laws.proofs.PlaceLaws.{can_raise}
use Rattle.isp_searches.proofs.SeesLaws.{among_has, has_among}
use Rattle.isp_leaf_laws.specs.TreeLaws.{new_pages, IsOnPage, IsKept, ChangesPath}
use Rattle.isp_leaf_laws.proofs.StayLaws.{split_stays}
use Rattle.isp_leaf_laws.proofs.OnPageLaws.{boxed_not, kept_at_add, kept_at_raise, kept_at_split}

-- ---- lists

pub not_among : (xs : List ℕ) (x : ℕ) → (Has xs x → ⊥) → is_among xs x ≡ false
not_among xs x h = elim (is_among xs x) as (λ b. is_among xs x ≡ b → b ≡ false) [ true ↦ λ t. absurd (h (among_has xs x t)) | false ↦ λ t. refl ] refl

pub never_among : (xs : List ℕ) (x : ℕ) → is_among xs x ≡ false → Has xs x → ⊥
never_among xs x h k = let t : is_among xs x ≡ true = has_among xs x k in cc

Has-reverse : (xs : List ℕ) (x : ℕ) → Has (reverse xs) x → Has xs x
Has-reverse [] x h = h
Has-reverse (z ∷ xs) x h =
    elim (Has-append (reverse xs) (z ∷ []) x (subst (λ (ys : List ℕ). Has ys x) (reverse-append (z ∷ []) xs) h)) [
      | inl k ↦ inr (Has-reverse xs x k)
      | inr k ↦ elim k [ inl same ↦ inl same | inr none ↦ absurd none ]
    ]

is_last-end : (xs : List ℕ) (a : ℕ) → is_last (xs ++ a ∷ []) a ≡ true
is_last-end [] a = eq-eqb a a refl
is_last-end (x ∷ []) a = eq-eqb a a refl
is_last-end (x ∷ y ∷ xs) a = is_last-end (y ∷ xs) a

reverse_ends : (path : List ℕ) (root : ℕ) → StartsAt root path → is_last (reverse path) root ≡ true
reverse_ends [] root h = absurd h
reverse_ends (p ∷ rest) root h =
    let e : is_last (reverse rest ++ p ∷ []) root ≡ true = subst (λ (z : ℕ). is_last (reverse rest ++ p ∷ []) z ≡ true) h (is_last-end (reverse rest) p) in
    subst (λ (ys : List ℕ). is_last ys root ≡ true) (sym (reverse-append (p ∷ []) rest)) e

or_left : (b c : Bool) → (b || c) ≡ false → b ≡ false
or_left true c h = cc
or_left false c h = refl

or_right : (b c : Bool) → (b || c) ≡ false → c ≡ false
or_right true c h = cc
or_right false c h = h

not_first : (o : ℕ) (rest : List ℕ) (m : Option ℕ) → names (is_among (o ∷ rest)) m ≡ false → names (λ x. x == o) m ≡ false
not_first o rest None h = refl
not_first o rest (Some c) h = turned o c (or_left (o == c) (is_among rest c) h)

not_behind : (o : ℕ) (rest : List ℕ) (m : Option ℕ) → names (is_among (o ∷ rest)) m ≡ false → names (is_among rest) m ≡ false
not_behind o rest None h = refl
not_behind o rest (Some c) h = or_right (o == c) (is_among rest c) h

not_reversed : (path : List ℕ) (m : Option ℕ) → names (is_among path) m ≡ false → names (is_among (reverse path)) m ≡ false
not_reversed path None h = refl
not_reversed path (Some c) h = not_among (reverse path) c (λ k. never_among path c h (Has-reverse path c k))

-- ---- pages elsewhere

map_same : (f : Entry → Entry) (es : List Entry) → ((e : Entry) → Has es e → f e ≡ e) → map f es ≡ es
map_same f [] h = refl
map_same f (e ∷ es) h = ap (λ x. x ∷ map f es) (h e (inl refl)) ∙ ap (λ xs. e ∷ xs) (map_same f es (λ d k. h d (inr k)))

abbrev with_parts : Node → Bool → ℕ → List Entry → Bool → List Entry → Node
with_parts page b n es t more = record page { ssn = cond b n page.ssn; entries = es ++ cond t more [] }

with_none : (page : Node) (b t : Bool) (n : ℕ) (es more : List Entry) → b ≡ false → t ≡ false → es ≡ page.entries → with_parts page b n es t more ≡ page
with_none page true t n es more f g h = cc
with_none page false true n es more f g h = cc
with_none page false false n es more f g h = ap (λ (xs : List Entry). with_parts page false n xs false more) h ∙ ap (λ (xs : List Entry). record page { entries = xs }) (append-nil page.entries)

abbrev Elsewhere : Splitting → ℕ → Type 0
Elsewhere c p = ((c.n == p) ≡ false) × ((c.o == p) ≡ false) × ((p == c.above) ≡ false) × ((p == c.tree.root) ≡ false)

parted_elsewhere : (c : Splitting) (p : ℕ) → Elsewhere c p → page_at (after_split c) p ≡ page_at c.tree p
parted_elsewhere c p h = at_other c p h.0 h.1 ∙ page_in-each (round c) c.tree.pages p ∙ elim (page_at c.tree p) as (λ o. page_at c.tree p ≡ o → changed (round c) p o ≡ o) [
  | None ↦ λ e. refl
  | Some page ↦ λ e. ap Some (with_none page (p == c.tree.root) (p == c.above) (suc (counter c.tree)) (map (reboxed c.o (least c.left)) page.entries) (entry_for (least c.right) c.n ∷ []) h.3 h.2
      (map_same (reboxed c.o (least c.left)) page.entries (λ d has. boxed_not (names (λ x. x == c.o) (child_of d)) (least c.left) d (names_no_o page d e has (child_of d) refl))))
] refl
  where
    names_no_o : (page : Node) (d : Entry) → page_at c.tree p ≡ Some page → Has page.entries d → (m : Option ℕ) → child_of d ≡ m → names (λ x. x == c.o) m ≡ false
    names_no_o page d e has None to = refl
    names_no_o page d e has (Some r) to =
        elim (r == c.o) as (λ b. (r == c.o) ≡ b → b ≡ false) [
          | true ↦ λ t. (let at : r ≡ c.o = eqb-true r c.o t in
              let n : Names c.tree p c.o d = record { page = page; there = e; has = has; to = to ∙ ap Some at } in
              let same : p ≡ c.above = one_parent c.tree c.forest p c.above c.o d c.can.entry n c.can.named in
              let yes : (p == c.above) ≡ true = eq-eqb p c.above same in let no : ⊥ = cc in absurd no)
          | false ↦ λ t. refl
        ] refl

split_elsewhere : (tree : Tree) (o above : ℕ) (left right : List Entry) (n p : ℕ) → Forest tree → CanSplit tree o above left right n
    → (n == p) ≡ false → (o == p) ≡ false → (p == above) ≡ false → (p == tree.root) ≡ false → page_at (split tree o above left right n) p ≡ page_at tree p
split_elsewhere tree o above left right n p forest can a b d e =
    let c : Splitting = record { tree = tree; forest = forest; o = o; above = above; n = n; left = left; right = right; can = can } in
    subst (λ (t : Tree). page_at t p ≡ page_at tree p) (sym (split_is c)) (parted_elsewhere c p (a, b, d, e))

raise_elsewhere : (tree : Tree) (forest : Forest tree) (q p : ℕ) → (q == p) ≡ false → (tree.root == p) ≡ false → page_at (raise tree q) p ≡ page_at tree p
raise_elsewhere tree forest q p a b =
    ap (λ (t : Tree). page_at t p) (made tree q forest.top forest.rooted)
    ∙ page_in-put_other tree.root p (lifted forest.top q) _ b ∙ page_in-put_other q p (moved forest.top) tree.pages a

raise_root : (tree : Tree) (forest : Forest tree) (q : ℕ) → (raise tree q).root ≡ tree.root
raise_root tree forest q = ap (λ (t : Tree). t.root) (made tree q forest.top forest.rooted)

relieve_elsewhere : (tree : Tree) (q : ℕ) (up : List ℕ) (ds : List Division) (p : ℕ) → Forest tree → CanRelieve tree q up ds → is_last up tree.root ≡ true
    → is_among up p ≡ false → is_among (new_pages q up ds) p ≡ false → page_at (relieve tree q up ds) p ≡ page_at tree p
relieve_elsewhere tree q up [] p forest can last out new = refl
relieve_elsewhere tree q [] (d ∷ ds) p forest can last out new = refl
relieve_elsewhere tree q (o ∷ []) (d ∷ ds) p forest can last out new =
    let may : CanRaise tree q = can_raise tree forest q o d.page d.left d.right can.0 can.1 in
    let at_root : o ≡ tree.root = eqb-true o tree.root last in
    let not_o : (o == p) ≡ false = or_left (o == p) (is_among [] p) out in
    let not_root : (tree.root == p) ≡ false = ap (λ x. x == p) (sym at_root) ∙ not_o in
    let not_q : (q == p) ≡ false = or_left (q == p) (is_among (d.page ∷ []) p) new in
    let not_n : (d.page == p) ≡ false = or_left (d.page == p) (is_among [] p) (or_right (q == p) (is_among (d.page ∷ []) p) new) in
    split_elsewhere (raise tree q) q o d.left d.right d.page p (raise_keeps tree forest q may) can.1 not_n not_q (turned o p not_o)
    (ap (λ x. p == x) (raise_root tree forest q) ∙ turned tree.root p not_root)
    ∙ raise_elsewhere tree forest q p not_q not_root
relieve_elsewhere tree q (o ∷ above ∷ up) (d ∷ ds) p forest can last out new =
    let between : Tree = split tree o above d.left d.right d.page in
    let behind : is_among (above ∷ up) p ≡ false = or_right (o == p) (is_among (above ∷ up) p) out in
    let root : between.root ≡ tree.root = (split_stays tree o above d.left d.right d.page forest can.0).root in
    let last' : is_last (above ∷ up) between.root ≡ true = ap (is_last (above ∷ up)) root ∙ last in
    let on_path : is_among (above ∷ up) tree.root ≡ true = last_among (above ∷ up) tree.root last in
    let not_root : (p == tree.root) ≡ false = apart (above ∷ up) p tree.root behind on_path in
    relieve_elsewhere between q (above ∷ up) ds p (split_keeps tree o above d.left d.right d.page forest can.0) can.1 last' behind
    (or_right (d.page == p) (is_among (new_pages q (above ∷ up) ds) p) new)
    ∙ split_elsewhere tree o above d.left d.right d.page p forest can.0 (or_left (d.page == p) (is_among (new_pages q (above ∷ up) ds) p) new)
    (or_left (o == p) (is_among (above ∷ up) p) out) (turned above p (or_left (above == p) (is_among up p) behind)) not_root
  where
    apart : (xs : List ℕ) (p r : ℕ) → is_among xs p ≡ false → is_among xs r ≡ true → (p == r) ≡ false
    apart xs p r out is_in = elim (p == r) as (λ b. (p == r) ≡ b → b ≡ false) [
      | true ↦ λ t. (let at : p ≡ r = eqb-true p r t in let yes : is_among xs p ≡ true = ap (is_among xs) at ∙ is_in in let no : ⊥ = cc in absurd no)
      | false ↦ λ t. refl
    ] refl

add_elsewhere : (tree : Tree) (path : List ℕ) (box : Corners) (key : ℤ) (number p : ℕ) → Forest tree → Stands tree path → is_among path p ≡ false
    → page_at (add tree path box key number) p ≡ page_at tree p
add_elsewhere tree path box key number p forest stands out = page_in-each (added_to path box key number) tree.pages p
    ∙ elim (page_at tree p) as (λ o. page_at tree p ≡ o → changed (added_to path box key number) p o ≡ o) [
      | None ↦ λ e. refl
      | Some page ↦ λ e. ap Some (with_none page false (is_last path p) 0 (map (widened path box) page.entries) (fresh true box key number) refl (not_last (is_last path p) refl)
          (map_same (widened path box) page.entries (λ d has. boxed_not (names (is_among path) (child_of d)) (union d.b box) d (names_none page d e has (child_of d) refl))))
    ] refl
  where
    not_last : (b : Bool) → is_last path p ≡ b → b ≡ false
    not_last true t = let yes : is_among path p ≡ true = last_among path p t in let no : ⊥ = cc in absurd no
    not_last false t = refl

    names_none : (page : Node) (d : Entry) → page_at tree p ≡ Some page → Has page.entries d → (m : Option ℕ) → child_of d ≡ m → names (is_among path) m ≡ false
    names_none page d e has None to = refl
    names_none page d e has (Some r) to =
        elim (is_among path r) as (λ b. is_among path r ≡ b → b ≡ false) [
          | true ↦ λ t. (let yes : is_among path p ≡ true = above_on_path tree forest path stands p r d (record { page = page; there = e; has = has; to = to }) t in let no : ⊥ = cc in absurd no)
          | false ↦ λ t. refl
        ] refl

-- ---- entries that are kept

kept_on : (tree between after : Tree) (p level : ℕ) (e : Entry) (new more all : List ℕ) → ((x : ℕ) → Has new x → Has all x) → ((x : ℕ) → Has more x → Has all x)
    → IsKept between p level e new → ((q : ℕ) → IsOnPage between q level e → IsKept after q level e more) → IsKept after p level e all
kept_on tree between after p level e new more all a b k next =
    let l : IsKept after k.q level e more = next k.q k.on in
    record {
      q = l.q;
      on = l.on;
      is_there = elim l.is_there [
        | inl same ↦ elim k.is_there [ inl first ↦ inl (same ∙ first) | inr there ↦ inr (a l.q (subst (λ (x : ℕ). Has new x) (sym same) there)) ]
        | inr there ↦ inr (b l.q there)
      ];
    }

raise_kept : (tree : Tree) (forest : Forest tree) (q p level : ℕ) (e : Entry) → IsFree tree q → IsOnPage tree p level e → IsKept (raise tree q) p level e (q ∷ [])
raise_kept tree forest q p level e free on = subst (λ (t : Tree). IsKept t p level e (q ∷ [])) (sym (made tree q forest.top forest.rooted)) (kept_at_raise tree forest q p level e free on)

split_kept : (tree : Tree) (o above : ℕ) (left right : List Entry) (n p level : ℕ) (e : Entry) → Forest tree → CanSplit tree o above left right n
    → names (λ x. x == o) (child_of e) ≡ false → IsOnPage tree p level e → IsKept (split tree o above left right n) p level e (n ∷ [])
split_kept tree o above left right n p level e forest can other on =
    let c : Splitting = record { tree = tree; forest = forest; o = o; above = above; n = n; left = left; right = right; can = can } in
    subst (λ (t : Tree). IsKept t p level e (n ∷ [])) (sym (split_is c)) (kept_at_split c p level e on other)

-- an entry of the tree names no page that is free
names_no_free : (tree : Tree) → Forest tree → (p level q : ℕ) (e : Entry) → IsFree tree q → IsOnPage tree p level e → (m : Option ℕ) → child_of e ≡ m → names (λ x. x == q) m ≡ false
names_no_free tree forest p level q e free on None to = refl
names_no_free tree forest p level q e free on (Some r) to =
    elim (r == q) as (λ b. (r == q) ≡ b → b ≡ false) [
      | true ↦ λ t. absurd (not_free tree forest p q e free (record { page = on.page; there = on.there; has = on.has; to = to ∙ ap Some (eqb-true r q t) }))
      | false ↦ λ t. refl
    ] refl

relieve_kept : (tree : Tree) (q : ℕ) (up : List ℕ) (ds : List Division) (p level : ℕ) (e : Entry) → Forest tree → CanRelieve tree q up ds
    → names (is_among up) (child_of e) ≡ false → IsOnPage tree p level e → IsKept (relieve tree q up ds) p level e (new_pages q up ds)
relieve_kept tree q up [] p level e forest can other on = record { q = p; on = on; is_there = inl refl }
relieve_kept tree q [] (d ∷ ds) p level e forest can other on = record { q = p; on = on; is_there = inl refl }
relieve_kept tree q (o ∷ []) (d ∷ ds) p level e forest can other on =
    let may : CanRaise tree q = can_raise tree forest q o d.page d.left d.right can.0 can.1 in
    kept_on tree (raise tree q) (split (raise tree q) q o d.left d.right d.page) p level e (q ∷ []) (d.page ∷ []) (q ∷ d.page ∷ [])
    (λ x h. elim h [ inl same ↦ inl same | inr none ↦ absurd none ]) (λ x h. inr h)
    (raise_kept tree forest q p level e can.0 on)
    (λ r there. split_kept (raise tree q) q o d.left d.right d.page r level e (raise_keeps tree forest q may) can.1 (names_no_free tree forest p level q e can.0 on (child_of e) refl) there)
relieve_kept tree q (o ∷ above ∷ up) (d ∷ ds) p level e forest can other on =
    let between : Tree = split tree o above d.left d.right d.page in
    kept_on tree between (relieve between q (above ∷ up) ds) p level e (d.page ∷ []) (new_pages q (above ∷ up) ds) (d.page ∷ new_pages q (above ∷ up) ds)
    (λ x h. elim h [ inl same ↦ inl same | inr none ↦ absurd none ]) (λ x h. inr h)
    (split_kept tree o above d.left d.right d.page p level e forest can.0 (not_first o (above ∷ up) (child_of e) other) on)
    (λ r there. relieve_kept between q (above ∷ up) ds r level e (split_keeps tree o above d.left d.right d.page forest can.0) can.1 (not_behind o (above ∷ up) (child_of e) other) there)

pub place_changes_path : (tree : Tree) (path : List ℕ) (box : Corners) (key : ℤ) (number q : ℕ) (ds : List Division) → Forest tree → Stands tree path → IsBox box
    → CanRelieve (add tree path box key number) q (reverse path) ds → ChangesPath tree (place tree path box key number q ds) path (new_pages q (reverse path) ds)
place_changes_path tree path box key number q ds forest stands is_box can = record {
  others = λ p out new. relieve_elsewhere (add tree path box key number) q (reverse path) ds p whole can (reverse_ends path tree.root stands.starts)
      (not_among (reverse path) p (λ h. never_among path p out (Has-reverse path p h))) new
      ∙ add_elsewhere tree path box key number p forest stands out;
  entries = λ p level e on other. relieve_kept (add tree path box key number) q (reverse path) ds p level e whole can (not_reversed path (child_of e) other)
      (kept_at_add tree path box key number p level e on other);
}
  where
    whole : Forest (add tree path box key number)
    whole = add_keeps tree path box key number forest stands is_box
