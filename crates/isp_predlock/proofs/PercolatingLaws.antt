-- That the searches that percolate are found by what grows on a path.
use Rattle.std.proofs.Common.{◌≡◌, inl, inr, ℕ, ℤ, ◌==◌, Bool, true, false, not, cond, Option, Some, None, List, [], ◌∷◌, ◌++◌, append-nil, append_assoc, filter_map, flat_map, option_map, refl, ap, sym, ◌∙◌, subst, eq-eqb, eqb-true, ◌||◌, ◌&&◌}
use Rattle.std.specs.List.{cons_option, list_any}
use Rattle.std.proofs.lemmas.List.{map-append}
use Rattle.std.proofs.lemmas.List.Folds.{list_any-append}
use Rattle.isp_base.specs.Lists.{Has}
use Rattle.isp_mbr.specs.Corners.{Corners}
use Rattle.isp_mbr.specs.Predicates.{may_hold}
use Rattle.isp_forest.specs.Attach.{lets_in_from, percolated, percolates}
use Rattle.isp_forest.specs.Forest.{Forest}
use Rattle.isp_forest.specs.Place.{IsPath}
use Rattle.isp_forest.specs.Search.{Search}
use Rattle.isp_forest.specs.Steps.{is_among}
use Rattle.isp_forest.specs.Tree.{Tree, page_at}
use Rattle.isp_events.specs.Next.{Descent}
use Rattle.isp_events.specs.Placing.{percolated_to, percolating}
use Rattle.isp_events.specs.State.{TreeSearch}
use Rattle.isp_searches.proofs.SeesLaws.{among_has}
use Rattle.isp_predlock.specs.declared.entries.Growing.{Growing}
use Rattle.isp_predlock.specs.declared.entries.Percolation.{Percolation}
use Rattle.isp_predlock.specs.Entering.{AreGrowing, IsGrowing, entered, goes_on, lets_through, listed, percolating_after, percolating_on}
use Rattle.isp_predlock.specs.MachineWords.{GrowsOnPath, search_of, told_pair, told_pairs, tree_search, tree_searches}
use Rattle.isp_predlock.specs.Tables.{AreNamed, HeldSearch, id_told}
use Rattle.isp_predlock.proofs.MemberLaws.{filter_map_members, filter_map_of_map, map_of_filter_map}
use Rattle.isp_predlock.proofs.PathLaws.{apart, lets_in_from_is, on_the_path}

-- ---- tests

or_false : (b : Bool) → (b || false) ≡ b
or_false true = refl
or_false false = refl

and_true : (b : Bool) → (b && true) ≡ b
and_true true = refl
and_true false = refl

and_false : (b : Bool) → (b && false) ≡ false
and_false true = refl
and_false false = refl

or_assoc : (a b c : Bool) → ((a || b) || c) ≡ (a || (b || c))
or_assoc true b c = refl
or_assoc false b c = refl

not_among : (ps : List ℕ) (q : ℕ) → (Has ps q → ⊥) → is_among ps q ≡ false
not_among ps q none = by (is_among ps q) refl
  where
    by : (b : Bool) → is_among ps q ≡ b → b ≡ false
    by true e = absurd (none (among_has ps q e))
    by false e = refl

among_one : (c : Bool) (q r : ℕ) → is_among (cond c (q ∷ []) []) r ≡ (c && (q == r))
among_one true q r = or_false (q == r)
among_one false q r = refl

-- ---- what a list has after one more child

block_step : (c same : Bool) (child r : ℕ) (rest : Bool) → ((same && (c && (child == r))) || rest) ≡ cond c ((same && (child == r)) || rest) rest
block_step true same child r rest = refl
block_step false same child r rest = ap (λ (b : Bool). b || rest) (and_false same)

listed_option : (c : Bool) (f : Percolation) (list : List Percolation) (id r : ℕ) → listed (cons_option (cond c (Some f) None) list) id r
    ≡ cond c (((f.search.0 == id) && (f.page.0 == r)) || listed list id r) (listed list id r)
listed_option true f list id r = refl
listed_option false f list id r = refl

listed_block : (list : List Percolation) (g : Growing) (some : List HeldSearch) (id r : ℕ)
    → listed (filter_map (entered list g) some) id r ≡ list_any (λ (y : HeldSearch). (y.id == id) && (goes_on list g y && (g.child.0 == r))) some
listed_block list g [] id r = refl
listed_block list g (y ∷ some) id r =
    let test : HeldSearch → Bool = λ (z : HeldSearch). (z.id == id) && (goes_on list g z && (g.child.0 == r)) in
    listed_option (goes_on list g y) (record { search = id_told y; session = (y.sought).session; page = g.child }) (filter_map (entered list g) some) id r
    ∙ sym (block_step (goes_on list g y) (y.id == id) g.child.0 r (listed (filter_map (entered list g) some) id r))
    ∙ ap (λ (b : Bool). test y || b) (listed_block list g some id r)

module _ (searches : List HeldSearch) (named : AreNamed searches) (P : HeldSearch → Bool) (x : HeldSearch) (has : Has searches x) where
  one_step : (c : Bool) (y : HeldSearch) → (y.id == x.id) ≡ c → Has searches y → (c && P y) ≡ (c && P x)
  one_step true y e h = ap P (named y x h has (eqb-true y.id x.id e))
  one_step false y e h = refl

  none_step : (c : Bool) → P x ≡ false → (c && P x) ≡ false
  none_step true off = off
  none_step false off = refl

  none_named : (some : List HeldSearch) → ((y : HeldSearch) → Has some y → Has searches y) → P x ≡ false → list_any (λ (y : HeldSearch). (y.id == x.id) && P y) some ≡ false
  none_named [] inside off = refl
  none_named (y ∷ some) inside off =
      ap (λ (b : Bool). b || list_any (λ (z : HeldSearch). (z.id == x.id) && P z) some) (one_step (y.id == x.id) y refl (inside y (inl refl)) ∙ none_step (y.id == x.id) off)
      ∙ none_named some (λ z h. inside z (inr h)) off

  or_true : (b : Bool) → (b || true) ≡ true
  or_true true = refl
  or_true false = refl

  some_named : (some : List HeldSearch) → Has some x → P x ≡ true → list_any (λ (y : HeldSearch). (y.id == x.id) && P y) some ≡ true
  some_named [] h on = absurd h
  some_named (y ∷ some) (inl same) on =
      let is : ((y.id == x.id) && P y) ≡ true =
      subst (λ (z : HeldSearch). ((z.id == x.id) && P z) ≡ true) (sym same) (ap (λ (b : Bool). b && P x) (eq-eqb x.id x.id refl) ∙ on) in
      ap (λ (b : Bool). b || list_any (λ (z : HeldSearch). (z.id == x.id) && P z) some) is
  some_named (y ∷ some) (inr h) on = ap (λ (b : Bool). ((y.id == x.id) && P y) || b) (some_named some h on) ∙ or_true ((y.id == x.id) && P y)

  -- of searches that are named one by one, those with its number pass a test as it does
  any_named : list_any (λ (y : HeldSearch). (y.id == x.id) && P y) searches ≡ P x
  any_named = by (P x) refl
    where
      by : (b : Bool) → P x ≡ b → list_any (λ (y : HeldSearch). (y.id == x.id) && P y) searches ≡ P x
      by true e = some_named searches has e ∙ sym e
      by false e = none_named searches (λ y h. h) e ∙ sym e

listed_after : (searches : List HeldSearch) → AreNamed searches → (list : List Percolation) (g : Growing) (x : HeldSearch) → Has searches x → (r : ℕ)
    → listed (list ++ filter_map (entered list g) searches) x.id r ≡ (listed list x.id r || (goes_on list g x && (g.child.0 == r)))
listed_after searches named list g x has r =
    list_any-append (λ (found : Percolation). (found.search.0 == x.id) && (found.page.0 == r)) list (filter_map (entered list g) searches)
    ∙ ap (λ (b : Bool). listed list x.id r || b)
    (listed_block list g searches x.id r ∙ any_named searches named (λ (y : HeldSearch). goes_on list g y && (g.child.0 == r)) x has)

-- ---- down a path

module _ (tree : Tree) (forest : Forest tree) (b : Corners) (searches : List HeldSearch) (named : AreNamed searches) where
  -- the search is on page p, or the list has it with that page
  abbrev is_here : List Percolation → HeldSearch → ℕ → Bool
  is_here list x p = is_among x.on p || listed list x.id p

  abbrev enters : List Percolation → HeldSearch → ℕ → ℕ → Bool
  enters list x p q = is_here list x p && lets_in_from (x.sought).predicate b q (page_at tree p)

  goes_is : (p q : ℕ) (g : Growing) → IsGrowing tree b p q g → (list : List Percolation) (x : HeldSearch) → goes_on list g x ≡ enters list x p q
  goes_is p q g grows list x =
      let lets : lets_through (x.sought).predicate g ≡ lets_in_from (x.sought).predicate b q (page_at tree p) =
      ap (λ (o : Corners). not (may_hold (x.sought).predicate o) && may_hold (x.sought).predicate g.new) grows.old_is
      ∙ ap (λ (n : Corners). not (may_hold (x.sought).predicate (grows.entry).b) && may_hold (x.sought).predicate n) grows.new_is
      ∙ sym (lets_in_from_is tree forest (x.sought).predicate b p q grows.entry grows.names) in
      ap (λ (r : ℕ). is_here list x r && lets_through (x.sought).predicate g) grows.parent_is ∙ ap (λ (l : Bool). is_here list x p && l) lets

  -- the list has nobody with these pages
  abbrev NotYet : List Percolation → List ℕ → Type 0
  NotYet list rest = (x : HeldSearch) (r : ℕ) → Has searches x → Has rest r → listed list x.id r ≡ false

  module _ (p q : ℕ) (rest : List ℕ) (g : Growing) (grows : IsGrowing tree b p q g) (steps : IsPath tree (q ∷ rest)) (list : List Percolation) (none : NotYet list (q ∷ rest)) where
    abbrev after : List Percolation
    after = list ++ filter_map (entered list g) searches

    listed_now : (x : HeldSearch) → Has searches x → (r : ℕ) → listed after x.id r ≡ (listed list x.id r || (enters list x p q && (q == r)))
    listed_now x has r =
        listed_after searches named list g x has r
        ∙ ap (λ (c : Bool). listed list x.id r || (c && (g.child.0 == r))) (goes_is p q g grows list x)
        ∙ ap (λ (k : ℕ). listed list x.id r || (enters list x p q && (k == r))) grows.child_is

    listed_child : (x : HeldSearch) → Has searches x → listed after x.id q ≡ enters list x p q
    listed_child x has =
        listed_now x has q
        ∙ ap (λ (c : Bool). c || (enters list x p q && (q == q))) (none x q has (inl refl))
        ∙ ap (λ (c : Bool). enters list x p q && c) (eq-eqb q q refl) ∙ and_true (enters list x p q)

    still_none : NotYet after rest
    still_none x r has h =
        listed_now x has r
        ∙ ap (λ (c : Bool). c || (enters list x p q && (q == r))) (none x r has (inr h))
        ∙ ap (λ (c : Bool). enters list x p q && c) (apart tree forest q rest steps r h) ∙ and_false (enters list x p q)

    -- what the machine has from here on
    among_now : (x : HeldSearch) (y : Search) (r : ℕ) → is_among (cond (enters list x p q) (q ∷ []) [] ++ percolated tree y b (is_among x.on q || enters list x p q) (q ∷ rest)) r
        ≡ ((enters list x p q && (q == r)) || is_among (percolated tree y b (is_among x.on q || enters list x p q) (q ∷ rest)) r)
    among_now x y r =
        list_any-append (λ k. k == r) (cond (enters list x p q) (q ∷ []) []) (percolated tree y b (is_among x.on q || enters list x p q) (q ∷ rest))
        ∙ ap (λ (c : Bool). c || is_among (percolated tree y b (is_among x.on q || enters list x p q) (q ∷ rest)) r) (among_one (enters list x p q) q r)

    among_child : (x : HeldSearch) (y : Search) → is_among (cond (enters list x p q) (q ∷ []) [] ++ percolated tree y b (is_among x.on q || enters list x p q) (q ∷ rest)) q
        ≡ enters list x p q
    among_child x y =
        among_now x y q
        ∙ ap (λ (c : Bool). (enters list x p q && (q == q)) || c)
        (not_among (percolated tree y b (is_among x.on q || enters list x p q) (q ∷ rest)) q (λ h. not_itself (on_the_path tree y b (is_among x.on q || enters list x p q) q rest q h)))
        ∙ or_false (enters list x p q && (q == q)) ∙ ap (λ (c : Bool). enters list x p q && c) (eq-eqb q q refl) ∙ and_true (enters list x p q)
      where
        not_itself : Has rest q → ⊥
        not_itself h = let no : true ≡ false = sym (eq-eqb q q refl) ∙ apart tree forest q rest steps q h in let never : ⊥ = cc in never

    among_later : (x : HeldSearch) (y : Search) (r : ℕ) → Has rest r
        → is_among (cond (enters list x p q) (q ∷ []) [] ++ percolated tree y b (is_among x.on q || enters list x p q) (q ∷ rest)) r
        ≡ is_among (percolated tree y b (is_among x.on q || enters list x p q) (q ∷ rest)) r
    among_later x y r h =
        among_now x y r
        ∙ ap (λ (c : Bool). (enters list x p q && c) || is_among (percolated tree y b (is_among x.on q || enters list x p q) (q ∷ rest)) r) (apart tree forest q rest steps r h)
        ∙ ap (λ (c : Bool). c || is_among (percolated tree y b (is_among x.on q || enters list x p q) (q ∷ rest)) r) (and_false (enters list x p q))

  -- the list has the search with exactly the pages that it percolates to
  listed_all : (p : ℕ) (rest : List ℕ) (grown : List Growing) (list : List Percolation) → IsPath tree (p ∷ rest) → AreGrowing tree b (p ∷ rest) grown → NotYet list rest
      → (x : HeldSearch) (stack : List (ℕ × ℕ)) (found : List ℤ) → Has searches x → (r : ℕ)
      → listed (percolating_after searches grown list) x.id r ≡ (listed list x.id r || is_among (percolated tree (search_of x stack found) b (is_here list x p) (p ∷ rest)) r)
  listed_all p [] grown list steps grows none x stack found has r =
      ap (λ (l : List Growing). listed (percolating_after searches l list) x.id r) grows ∙ sym (or_false (listed list x.id r))
  listed_all p (q ∷ rest) [] list steps grows none x stack found has r = absurd grows
  listed_all p (q ∷ rest) (g ∷ grown) list steps grows none x stack found has r =
      let y : Search = search_of x stack found in
      let now : List Percolation = list ++ filter_map (entered list g) searches in
      let e : Bool = enters list x p q in
      listed_all q rest grown now steps.1 grows.1 (still_none p q rest g grows.0 steps.1 list none) x stack found has r
      ∙ ap (λ (c : Bool). listed now x.id r || is_among (percolated tree y b (is_among x.on q || c) (q ∷ rest)) r) (listed_child p q rest g grows.0 steps.1 list none x has)
      ∙ ap (λ (c : Bool). c || is_among (percolated tree y b (is_among x.on q || e) (q ∷ rest)) r) (listed_now p q rest g grows.0 steps.1 list none x has r)
      ∙ or_assoc (listed list x.id r) (e && (q == r)) (is_among (percolated tree y b (is_among x.on q || e) (q ∷ rest)) r)
      ∙ ap (λ (c : Bool). listed list x.id r || c) (sym (among_now p q rest g grows.0 steps.1 list none x y r))

  -- ---- as the machine tells them

  module _ (d : Descent) where
    -- from here on, the search percolates to the pages that it percolates to on the whole path
    abbrev GoesOn : ℕ → List ℕ → List Percolation → Type 0
    GoesOn p rest list = (x : HeldSearch) (r : ℕ) → Has searches x → Has rest r
        → is_among (percolates tree (search_of x [] []) d.box d.path) r ≡ is_among (percolated tree (search_of x [] []) b (is_here list x p) (p ∷ rest)) r

    told_step : (c : Bool) (x : HeldSearch) (g : Growing) (q : ℕ) → g.child.0 ≡ q
        → option_map told_pair (cond c (Some (record { search = id_told x; session = (x.sought).session; page = g.child })) None) ≡ cond c (Some ((x.sought).session, q)) None
    told_step true x g q e = ap (λ (k : ℕ). Some ((x.sought).session, k)) e
    told_step false x g q e = refl

    told_child : (p q : ℕ) (rest : List ℕ) (g : Growing) → IsGrowing tree b p q g → IsPath tree (q ∷ rest) → (list : List Percolation) → NotYet list (q ∷ rest) → GoesOn p (q ∷ rest) list
        → told_pairs (filter_map (entered list g) searches) ≡ percolated_to tree d (tree_searches searches) q
    told_child p q rest g grows steps list none on =
        map_of_filter_map told_pair (entered list g) searches
        ∙ filter_map_members (λ x. option_map told_pair (entered list g x)) (λ x. cond (is_among (percolates tree (search_of x [] []) d.box d.path) q) (Some ((x.sought).session, q)) None) searches
        (λ x has. told_step (goes_on list g x) x g q grows.child_is
        ∙ ap (λ (c : Bool). cond c (Some ((x.sought).session, q)) None)
        (goes_is p q g grows list x ∙ sym (among_child p q rest g grows steps list none x (search_of x [] [])) ∙ sym (on x q has (inl refl))))
        ∙ sym (filter_map_of_map (λ (t : TreeSearch). cond (is_among (percolates tree t.search d.box d.path) q) (Some ((t.search).session, q)) None) tree_search searches)

    told_from : (p : ℕ) (rest : List ℕ) (grown : List Growing) (list : List Percolation) → IsPath tree (p ∷ rest) → AreGrowing tree b (p ∷ rest) grown → NotYet list rest → GoesOn p rest list
        → told_pairs (percolating_after searches grown list) ≡ told_pairs list ++ flat_map (percolated_to tree d (tree_searches searches)) rest
    told_from p [] grown list steps grows none on = ap (λ (l : List Growing). told_pairs (percolating_after searches l list)) grows ∙ sym (append-nil (told_pairs list))
    told_from p (q ∷ rest) [] list steps grows none on = absurd grows
    told_from p (q ∷ rest) (g ∷ grown) list steps grows none on =
        let now : List Percolation = list ++ filter_map (entered list g) searches in
        let others : List (ℕ × ℕ) = flat_map (percolated_to tree d (tree_searches searches)) rest in
        told_from q rest grown now steps.1 grows.1 (still_none p q rest g grows.0 steps.1 list none)
        (λ x r has h. on x r has (inr h) ∙ among_later p q rest g grows.0 steps.1 list none x (search_of x [] []) r h
        ∙ ap (λ (c : Bool). is_among (percolated tree (search_of x [] []) b (is_among x.on q || c) (q ∷ rest)) r) (sym (listed_child p q rest g grows.0 steps.1 list none x has)))
        ∙ ap (λ (l : List (ℕ × ℕ)). l ++ others)
        (map-append told_pair list (filter_map (entered list g) searches) ∙ ap (λ (l : List (ℕ × ℕ)). told_pairs list ++ l) (told_child p q rest g grows.0 steps.1 list none on))
        ∙ append_assoc (told_pairs list) (percolated_to tree d (tree_searches searches) q) others

-- ---- the laws

-- the list has the search with the pages that it percolates to on the path
pub listed_percolates : (tree : Tree) (b : Corners) (path : List ℕ) (grown : List Growing) (searches : List HeldSearch) → GrowsOnPath tree b path grown searches
    → (x : HeldSearch) (stack : List (ℕ × ℕ)) (found : List ℤ) → Has searches x → (r : ℕ)
    → listed (percolating_on searches grown) x.id r ≡ is_among (percolates tree (search_of x stack found) b path) r
listed_percolates tree b [] grown searches w x stack found has r = ap (λ (l : List Growing). listed (percolating_on searches l) x.id r) w.grows
listed_percolates tree b (root ∷ rest) grown searches w x stack found has r =
    listed_all tree w.forest b searches w.named root rest grown [] w.steps w.grows (λ y k h i. refl) x stack found has r
    ∙ ap (λ (c : Bool). is_among (percolated tree (search_of x stack found) b c (root ∷ rest)) r) (or_false (is_among x.on root))

none_of : {A B : Type 0} (f : A → Option B) (xs : List A) → ((x : A) → Has xs x → f x ≡ None) → filter_map f xs ≡ []
none_of f [] h = refl
none_of f (x ∷ xs) h = ap (λ (o : Option _). cons_option o (filter_map f xs)) (h x (inl refl)) ∙ none_of f xs (λ y k. h y (inr k))

pub percolates_on_path : (tree : Tree) (d : Descent) (grown : List Growing) (searches : List HeldSearch) → GrowsOnPath tree d.box d.path grown searches
    → told_pairs (percolating_on searches grown) ≡ percolating tree d (tree_searches searches)
percolates_on_path tree d grown searches w = by d.path refl w.steps w.grows
  where
    by : (path : List ℕ) → d.path ≡ path → IsPath tree path → AreGrowing tree d.box path grown
        → told_pairs (percolating_on searches grown) ≡ flat_map (percolated_to tree d (tree_searches searches)) path
    by [] is steps grows = ap (λ (l : List Growing). told_pairs (percolating_on searches l)) grows
    by (root ∷ rest) is steps grows =
        told_from tree w.forest d.box searches w.named d root rest grown [] steps grows (λ y k h i. refl)
        (λ x r has h. ap (λ (p : List ℕ). is_among (percolates tree (search_of x [] []) d.box p) r) is
        ∙ ap (λ (c : Bool). is_among (percolated tree (search_of x [] []) d.box c (root ∷ rest)) r) (sym (or_false (is_among x.on root))))
        ∙ ap (λ (l : List (ℕ × ℕ)). l ++ flat_map (percolated_to tree d (tree_searches searches)) rest) (sym (none_of
        (λ (t : TreeSearch). cond (is_among (percolates tree t.search d.box d.path) root) (Some ((t.search).session, root)) None) (tree_searches searches)
        (λ t has. ap (λ (c : Bool). cond c (Some ((t.search).session, root)) None)
        (ap (λ (p : List ℕ). is_among (percolates tree t.search d.box p) root) is
        ∙ not_among (percolated tree t.search d.box (is_among (t.search).on root) (root ∷ rest)) root
        (λ h. root_apart rest steps (on_the_path tree t.search d.box (is_among (t.search).on root) root rest root h))))))
      where
        root_apart : (rest : List ℕ) → IsPath tree (root ∷ rest) → Has rest root → ⊥
        root_apart rest steps h = let no : true ≡ false = sym (eq-eqb root root refl) ∙ apart tree w.forest root rest steps root h in let never : ⊥ = cc in never
