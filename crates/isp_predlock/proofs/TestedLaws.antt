-- That an entry is tested against the searches that the machine says, and that those that percolate are let in once they are
-- attached.
use Rattle.std.proofs.Common.{◌≡◌, ℕ, ℤ, ◌==◌, Bool, true, false, not, cond, Option, Some, List, [], ◌∷◌, ◌++◌, map, filter, filter_map, find, length, option_map, unwrap_or, refl, ap, sym, ◌∙◌, arith, eqb-true, ◌||◌, ◌&&◌}
use Rattle.std.specs.List.{last_or, list_any}
use Rattle.std.proofs.lemmas.Bool.Decides.{nat_tests}
use Rattle.std.proofs.lemmas.List.{length-map}
use Rattle.std.proofs.lemmas.List.Folds.{list_any-append}
use Rattle.isp_base.specs.Lists.{Has}
use Rattle.isp_mbr.specs.Corners.{Corners}
use Rattle.isp_mbr.specs.Predicates.{satisfies}
use Rattle.isp_forest.specs.Attach.{let_in, percolates}
use Rattle.isp_forest.specs.Search.{Search}
use Rattle.isp_forest.specs.Steps.{is_among, is_last}
use Rattle.isp_forest.specs.Tree.{Tree}
use Rattle.isp_searches.specs.SearchLaws.{IsLike}
use Rattle.isp_searches.proofs.SeesLaws.{among_has, has_among}
use Rattle.isp_events.specs.Next.{Descent}
use Rattle.isp_events.specs.Placing.{as_on, first_of_session, last_page, tests}
use Rattle.isp_events.specs.State.{TreeSearch, session_numbers}
use Rattle.isp_predlock.specs.declared.entries.Growing.{Growing}
use Rattle.isp_predlock.specs.declared.entries.On.{On}
use Rattle.isp_predlock.specs.declared.entries.Percolation.{Percolation}
use Rattle.isp_predlock.specs.declared.entries.Placing.{Placing}
use Rattle.isp_predlock.specs.declared.entries.Sought.{Sought}
use Rattle.isp_predlock.specs.Entering.{listed, percolating_on}
use Rattle.isp_predlock.specs.MachineWords.{GrowsOnPath, TestsAs, as_told, satisfied_of, search_of, tested_of, tree_search, tree_searches}
use Rattle.isp_predlock.specs.Tables.{HeldSearch, attached_by, on_of, with_page, with_pages}
use Rattle.isp_predlock.specs.Testing.{first_of, is_blocking, is_tested_by}
use Rattle.isp_predlock.proofs.MemberLaws.{filter_map_members, filter_map_tests, filter_members, map_of_filter_map}
use Rattle.isp_predlock.proofs.PercolatingLaws.{listed_percolates}

same_test : (a b : ℕ) → (a == b) ≡ (b == a)
same_test a b = grind (arith, nat_tests)

or_false : (b : Bool) → (b || false) ≡ b
or_false true = refl
or_false false = refl

-- ---- the last page of a path

last_is : (p : ℕ) (rest : List ℕ) (q : ℕ) → is_last (p ∷ rest) q ≡ (unwrap_or (last_or (Some p) rest) 0 == q)
last_is p [] q = refl
last_is p (r ∷ rest) q = last_is r rest q

any_last : (p : ℕ) (rest ys : List ℕ) (leaf : ℕ) → last_page (p ∷ rest) ≡ leaf → list_any (is_last (p ∷ rest)) ys ≡ is_among ys leaf
any_last p rest [] leaf e = refl
any_last p rest (y ∷ ys) leaf e =
    ap (λ (b : Bool). b || list_any (is_last (p ∷ rest)) ys) (last_is p rest y ∙ ap (λ (k : ℕ). k == y) e ∙ same_test leaf y)
    ∙ ap (λ (b : Bool). (y == leaf) || b) (any_last p rest ys leaf e)

any_on_path : (path ys : List ℕ) (leaf : ℕ) → Has path leaf → last_page path ≡ leaf → list_any (is_last path) ys ≡ is_among ys leaf
any_on_path [] ys leaf h e = absurd h
any_on_path (p ∷ rest) ys leaf h e = any_last p rest ys leaf e

-- ---- lists of what is tested

filter_option : {A B : Type 0} (f : A → B) (b : Bool) (x : A) (xs : List A) (all : List B) → all ≡ map f xs → cond b (f x ∷ all) all ≡ map f (cond b (x ∷ xs) xs)
filter_option f true x xs all e = ap (λ l. f x ∷ l) e
filter_option f false x xs all e = e

filter_of_map : {A B : Type 0} (t : B → Bool) (f : A → B) (xs : List A) → filter t (map f xs) ≡ map f (filter (λ x. t (f x)) xs)
filter_of_map t f [] = refl
filter_of_map t f (x ∷ xs) = filter_option f (t (f x)) x (filter (λ y. t (f y)) xs) (filter t (map f xs)) (filter_of_map t f xs)

filter_kept : {A : Type 0} (s : A → Bool) (b : Bool) (x : A) (xs all : List A) → filter s xs ≡ all → filter s (cond b (x ∷ xs) xs) ≡ cond (b && s x) (x ∷ all) all
filter_kept s true x xs all e = ap (λ l. cond (s x) (x ∷ l) l) e
filter_kept s false x xs all e = e

filter_twice : {A : Type 0} (s t : A → Bool) (xs : List A) → filter s (filter t xs) ≡ filter (λ x. t x && s x) xs
filter_twice s t [] = refl
filter_twice s t (x ∷ xs) = filter_kept s (t x) x (filter t xs) (filter (λ y. t y && s y) xs) (filter_twice s t xs)

first_step : (b : Bool) (x : HeldSearch) (o : Option On) (p : Option TreeSearch) → option_map as_told o ≡ option_map as_on p
    → option_map as_told (cond b (Some (on_of x)) o) ≡ option_map as_on (cond b (Some (tree_search x)) p)
first_step true x o p e = refl
first_step false x o p e = e

first_same : (xs : List HeldSearch) (k : ℕ) → option_map as_told (first_of (map on_of xs) k) ≡ first_of_session (map tree_search xs) k
first_same [] k = refl
first_same (x ∷ xs) k =
    first_step ((x.sought).session == k) x (first_of (map on_of xs) k) (find (λ (t : TreeSearch). (t.search).session == k) (map tree_search xs)) (first_same xs k)

module _ (tree : Tree) (d : Descent) (grown : List Growing) (searches : List HeldSearch) (placing : Placing) (w : GrowsOnPath tree d.box d.path grown searches)
    (on_path : Has d.path placing.leaf.0) (last : last_page d.path ≡ placing.leaf.0) (box : d.box ≡ placing.b) where
  abbrev more : List Percolation
  more = percolating_on searches grown

  tested_is : (x : HeldSearch) → Has searches x → is_tested_by placing more x ≡ tests tree d placing.session (tree_search x)
  tested_is x has =
      let leaf : ℕ = placing.leaf.0 in
      let to : List ℕ = percolates tree (search_of x [] []) d.box d.path in
      ap (λ (c : Bool). not ((x.sought).session == placing.session) && c)
      (ap (λ (c : Bool). is_among x.on leaf || c) (listed_percolates tree d.box d.path grown searches w x [] [] has leaf)
      ∙ sym (list_any-append (λ k. k == leaf) x.on to)
      ∙ sym (any_on_path d.path (x.on ++ to) leaf on_path last))

  abbrev blocked : List HeldSearch
  blocked = filter (is_blocking placing more) searches

  tested_list : tested_of tree d placing.session (tree_searches searches) ≡ map tree_search (filter (is_tested_by placing more) searches)
  tested_list =
      filter_of_map (tests tree d placing.session) tree_search searches
      ∙ ap (λ (l : List HeldSearch). map tree_search l)
      (sym (filter_members (is_tested_by placing more) (λ x. tests tree d placing.session (tree_search x)) searches tested_is))

  satisfied_list : satisfied_of tree d placing.session (tree_searches searches) ≡ map tree_search blocked
  satisfied_list =
      let asks : TreeSearch → Bool = λ (x : TreeSearch). satisfies (x.search).predicate d.box in
      ap (λ (l : List TreeSearch). filter asks l) tested_list
      ∙ filter_of_map asks tree_search (filter (is_tested_by placing more) searches)
      ∙ ap (λ (l : List HeldSearch). map tree_search l)
      (filter_twice (λ (x : HeldSearch). satisfies (x.sought).predicate d.box) (is_tested_by placing more) searches
      ∙ ap (λ (b : Corners). filter (λ (x : HeldSearch). is_tested_by placing more x && satisfies (x.sought).predicate b) searches) box)

  pub tested_as : TestsAs tree d searches placing (percolating_on searches grown)
  tested_as = record {
    tested_is =
        ap (λ (l : List On). length l) (filter_map_tests (is_tested_by placing more) on_of searches)
        ∙ length-map (filter (is_tested_by placing more) searches) on_of
        ∙ sym (length-map (filter (is_tested_by placing more) searches) tree_search)
        ∙ ap (λ (l : List TreeSearch). length l) (sym tested_list);
    in_the_way_is =
        ap (λ (l : List On). map as_told (filter_map (first_of l) session_numbers)) (filter_map_tests (is_blocking placing more) on_of searches)
        ∙ map_of_filter_map as_told (first_of (map on_of blocked)) session_numbers
        ∙ filter_map_members (λ k. option_map as_told (first_of (map on_of blocked) k)) (first_of_session (map tree_search blocked)) session_numbers (λ k h. first_same blocked k)
        ∙ ap (λ (l : List TreeSearch). filter_map (first_of_session l) session_numbers) (sym satisfied_list);
  }

pub tested_on_path : (tree : Tree) (d : Descent) (grown : List Growing) (searches : List HeldSearch) (placing : Placing) → GrowsOnPath tree d.box d.path grown searches
    → Has d.path placing.leaf.0 → last_page d.path ≡ placing.leaf.0 → d.box ≡ placing.b → TestsAs tree d searches placing (percolating_on searches grown)
tested_on_path tree d grown searches placing w on_path last box = tested_as tree d grown searches placing w on_path last box

-- ---- searches that percolate are let in

with_sought : (list : List Percolation) (x : HeldSearch) → (with_pages list x).sought ≡ x.sought
with_sought [] x = refl
with_sought (f ∷ list) x = with_sought list (attached_by f.search.0 f.page.0 x) ∙ by (x.id == f.search.0)
  where
    by : (b : Bool) → (cond b (with_page f.page.0 x) x).sought ≡ x.sought
    by true = refl
    by false = refl

page_step : (c : Bool) (on : List ℕ) (p q : ℕ) → is_among on p ≡ c → is_among (cond c on (on ++ p ∷ [])) q ≡ (is_among on q || (p == q))
page_step false on p q e = list_any-append (λ k. k == q) on (p ∷ []) ∙ ap (λ (b : Bool). is_among on q || b) (or_false (p == q))
page_step true on p q e = by (p == q) refl
  where
    by : (b : Bool) → (p == q) ≡ b → is_among on q ≡ (is_among on q || b)
    by true t = ap (is_among on) (sym (eqb-true p q t)) ∙ e ∙ sym (ap (λ (c : Bool). c || true) (ap (is_among on) (sym (eqb-true p q t)) ∙ e))
    by false t = sym (or_false (is_among on q))

attached_step : (b : Bool) (x : HeldSearch) (p q : ℕ) → is_among (cond b (with_page p x) x).on q ≡ (is_among x.on q || (b && (p == q)))
attached_step true x p q = page_step (is_among x.on p) x.on p q refl
attached_step false x p q = sym (or_false (is_among x.on q))

attached_id : (b : Bool) (x : HeldSearch) (p : ℕ) → (cond b (with_page p x) x).id ≡ x.id
attached_id true x p = refl
attached_id false x p = refl

or_assoc : (a b c : Bool) → ((a || b) || c) ≡ (a || (b || c))
or_assoc true b c = refl
or_assoc false b c = refl

-- it is on those pages that the list has for it, and those that it was on
with_among : (list : List Percolation) (x : HeldSearch) (q : ℕ) → is_among (with_pages list x).on q ≡ (is_among x.on q || listed list x.id q)
with_among [] x q = sym (or_false (is_among x.on q))
with_among (f ∷ list) x q =
    let id : ℕ = f.search.0 in
    let p : ℕ = f.page.0 in
    let y : HeldSearch = attached_by id p x in
    with_among list y q
    ∙ ap (λ (k : ℕ). is_among y.on q || listed list k q) (attached_id (x.id == id) x p)
    ∙ ap (λ (b : Bool). b || listed list x.id q) (attached_step (x.id == id) x p q)
    ∙ or_assoc (is_among x.on q) ((x.id == id) && (p == q)) (listed list x.id q)
    ∙ ap (λ (b : Bool). is_among x.on q || ((b && (p == q)) || listed list x.id q)) (same_test x.id id)

pub percolating_is_let_in : (tree : Tree) (b : Corners) (path : List ℕ) (grown : List Growing) (searches : List HeldSearch) → GrowsOnPath tree b path grown searches
    → (x : HeldSearch) (stack : List (ℕ × ℕ)) (found : List ℤ) → Has searches x
    → IsLike (search_of (with_pages (percolating_on searches grown) x) stack found) (let_in tree path b (search_of x stack found))
percolating_is_let_in tree b path grown searches w x stack found has =
    let list : List Percolation = percolating_on searches grown in
    let y : Search = search_of x stack found in
    let same : (with_pages list x).sought ≡ x.sought = with_sought list x in
    let among : (q : ℕ) → is_among (with_pages list x).on q ≡ is_among (x.on ++ percolates tree y b path) q = λ q.
    (with_among list x q ∙ ap (λ (c : Bool). is_among x.on q || c) (listed_percolates tree b path grown searches w x stack found has q)
    ∙ sym (list_any-append (λ k. k == q) x.on (percolates tree y b path))) in
    record {
      session = ap (λ (s : Sought). s.session) same;
      statement = ap (λ (s : Sought). s.statement) same;
      predicate = ap (λ (s : Sought). s.predicate) same;
      stack = refl;
      on = λ q h. among_has (x.on ++ percolates tree y b path) q (sym (among q) ∙ has_among (with_pages list x).on q h);
      on_back = λ q h. among_has (with_pages list x).on q (among q ∙ has_among (x.on ++ percolates tree y b path) q h);
      found = λ k h. h;
      found_back = λ k h. h;
    }
