-- What a placing leaves open: free pages, and the parts of pages that are divided. The page to which the root is raised matters only where it is.
use Rattle.std.proofs.Common.{◌≡◌, ◌⊎◌, ◌∙◌, inl, inr, refl, sym, ap, subst, ℕ, suc, ◌+◌, ◌-◌, ◌≤◌, ◌<◌, ◌==◌, ◌&&◌, not, cond, Bool, true, false, Option, Some, None, List, [], ◌∷◌, ◌++◌, arith, length, length-append, map, eqb-true, eq-eqb}
use Rattle.std.specs.Prelude.{flat_map, nat_le, nat_lt, reverse, slice_set}
use Rattle.std.specs.List.{list_all}
use Rattle.std.proofs.lemmas.Bool.{and_parts, cases_lt, false≢true}
use Rattle.std.proofs.lemmas.List.{length-reverse}
use Rattle.std.proofs.lemmas.List.Sorted.{length_permutation}
use Rattle.isp_base.specs.Lists.{Has}
use Rattle.isp_laws.proofs.EntryLaws.{Has-permutation}
use Rattle.isp_laws.proofs.ListLaws.{Has-append_left, Has-append_right, Has-map_of}
use Rattle.isp_forest.specs.declared.entry.Entry.{Entry}
use Rattle.isp_forest.specs.Tree.{Node, Tree, page_at}
use Rattle.isp_forest.specs.Steps.{add, is_among, raise, split}
use Rattle.isp_forest.specs.Place.{CanRelieve, CanSplit, Division, relieve}
use Rattle.isp_forest.specs.Search.{Search}
use Rattle.isp_forest.specs.Attach.{attached, copied_at_split, copied_up, let_in}
use Rattle.isp_events.specs.Stored.{StoredTable, change_table, change_tree}
use Rattle.isp_events.specs.Sessions.{session_at}
use Rattle.isp_events.specs.State.{State, TreeSearch, first_page, free_pages, is_free, used, with_option}
use Rattle.isp_events.specs.Next.{Descent}
use Rattle.isp_events.specs.Placing.{MayPlaceEntry, after_place, is_of_tree, pages_divided, session_after_place, tree_after_place, tree_for}
use Rattle.isp_event_laws.proofs.ListTests.{at_most, below}
use Rattle.isp_event_laws.proofs.PlacingLaws.{Has-flat_map_of}
use Rattle.isp_measure.proofs.ListFacts.{has_filter_of, range_has}
use Rattle.isp_choices.proofs.ListParts.{all_have, lists_has, lists_of}

-- ---- free pages

pub free_has : (state : State) (q : ℕ) → is_free state q ≡ true → Has (free_pages state) q
free_has state q h =
    let low = and_parts (nat_le first_page q) (nat_lt q state.pages && not (is_among (used state) q)) h in
    let high = and_parts (nat_lt q state.pages) (not (is_among (used state) q)) low.1 in
    let least : first_page ≤ q = at_most first_page q low.0 in
    let most : q < state.pages = below q state.pages high.0 in
    has_filter_of (λ p. not (is_among (used state) p)) _ q (range_has (state.pages - first_page) first_page q least (omega (arith, least, most))) high.1

-- ---- divisions

module _ (free : List ℕ) where
  -- the page is divided in any way
  pub parts_of_page : Option Node → List Division
  parts_of_page None = []
  parts_of_page (Some page) =
      flat_map (λ q. flat_map (λ left. map (λ right. record { page = q; left = left; right = right }) (lists_of page.entries (length page.entries))) (lists_of page.entries (length page.entries))) free

  pub divisions_of : Tree → ℕ → List ℕ → List (List Division)
  divisions_of tree q [] = [] ∷ []
  divisions_of tree q (o ∷ []) = [] ∷ map (λ d. d ∷ []) (parts_of_page (page_at (raise tree q) q))
  divisions_of tree q (o ∷ above ∷ up) =
      [] ∷ flat_map (λ (d : Division). map (λ ds. d ∷ ds) (divisions_of (split tree o above d.left d.right d.page) q (above ∷ up))) (parts_of_page (page_at tree o))

  part_has : (tree : Tree) (o above : ℕ) (d : Division) → CanSplit tree o above d.left d.right d.page → Has free d.page → Has (parts_of_page (page_at tree o)) d
  unfolding parts_of_page
  part_has tree o above d can has =
      subst (λ page. Has (parts_of_page page) d) (sym can.there)
      (Has-flat_map_of (λ q. flat_map (λ left. map (λ right. record { page = q; left = left; right = right }) (lists_of can.page.entries (length can.page.entries))) (lists_of can.page.entries (length can.page.entries))) free d.page d has
      (Has-flat_map_of (λ left. map (λ right. record { page = d.page; left = left; right = right }) (lists_of can.page.entries (length can.page.entries))) (lists_of can.page.entries (length can.page.entries)) d.left d
      (lists_has can.page.entries (length can.page.entries) d.left (omega (arith, long)) (λ e h. Has-permutation can.page.entries (d.left ++ d.right) e can.parts.all (Has-append_left d.left d.right e h)))
      (Has-map_of (λ right. record { page = d.page; left = d.left; right = right }) (lists_of can.page.entries (length can.page.entries)) d.right
      (lists_has can.page.entries (length can.page.entries) d.right (omega (arith, long)) (λ e h. Has-permutation can.page.entries (d.left ++ d.right) e can.parts.all (Has-append_right d.left d.right e h))))))
    where
      long : length d.left + length d.right ≡ length can.page.entries
      long = sym (length-append d.left d.right) ∙ length_permutation can.page.entries (d.left ++ d.right) can.parts.all

  divisions_has : (tree : Tree) (q : ℕ) (up : List ℕ) (ds : List Division) → CanRelieve tree q up ds → ((p : ℕ) → Has (pages_divided ds) p → Has free p) → Has (divisions_of tree q up) ds
  unfolding divisions_of
  divisions_has tree q [] [] can has = inl refl
  divisions_has tree q (o ∷ []) [] can has = inl refl
  divisions_has tree q (o ∷ above ∷ up) [] can has = inl refl
  divisions_has tree q [] (d ∷ ds) can has = absurd can
  divisions_has tree q (o ∷ []) (d ∷ ds) can has =
      subst (λ xs. Has (divisions_of tree q (o ∷ [])) (d ∷ xs)) (sym can.2)
      (inr (Has-map_of (λ x. x ∷ []) (parts_of_page (page_at (raise tree q) q)) d (part_has (raise tree q) q o d can.1 (has d.page (inl refl)))))
  divisions_has tree q (o ∷ above ∷ up) (d ∷ ds) can has =
      inr (Has-flat_map_of (λ (x : Division). map (λ xs. x ∷ xs) (divisions_of (split tree o above x.left x.right x.page) q (above ∷ up))) (parts_of_page (page_at tree o)) d (d ∷ ds)
      (part_has tree o above d can.0 (has d.page (inl refl)))
      (Has-map_of (λ xs. d ∷ xs) (divisions_of (split tree o above d.left d.right d.page) q (above ∷ up)) ds
      (divisions_has (split tree o above d.left d.right d.page) q (above ∷ up) ds can.1 (λ p h. has p (inr h)))))

-- ---- the page of a raised root

can_short : (tree : Tree) (q : ℕ) (up : List ℕ) (ds : List Division) → CanRelieve tree q up ds → length ds ≤ length up
can_short tree q up [] can = omega arith
can_short tree q [] (d ∷ ds) can = absurd can
can_short tree q (o ∷ []) (d ∷ ds) can = let one : length (d ∷ ds) ≡ 1 = ap (λ (xs : List Division). suc (length xs)) can.2 in omega (arith, one)
can_short tree q (o ∷ above ∷ up) (d ∷ ds) can =
    let le : length ds ≤ length (above ∷ up) = can_short (split tree o above d.left d.right d.page) q (above ∷ up) ds can.1 in
    omega (arith, le)

-- where the root isn't raised, any number stands for it
relieve_any : (tree : Tree) (q r : ℕ) (up : List ℕ) (ds : List Division) → length ds < length up → relieve tree q up ds ≡ relieve tree r up ds
relieve_any tree q r up [] lt = refl
relieve_any tree q r [] (d ∷ ds) lt = absurd (omega (arith, lt))
relieve_any tree q r (o ∷ []) (d ∷ ds) lt = absurd (omega (arith, lt))
relieve_any tree q r (o ∷ above ∷ up) (d ∷ ds) lt = relieve_any (split tree o above d.left d.right d.page) q r (above ∷ up) ds (omega (arith, lt))

can_any : (tree : Tree) (q r : ℕ) (up : List ℕ) (ds : List Division) → length ds < length up → CanRelieve tree q up ds → CanRelieve tree r up ds
can_any tree q r up [] lt can = tt
can_any tree q r [] (d ∷ ds) lt can = absurd can
can_any tree q r (o ∷ []) (d ∷ ds) lt can = absurd (omega (arith, lt))
can_any tree q r (o ∷ above ∷ up) (d ∷ ds) lt can = (can.0, can_any (split tree o above d.left d.right d.page) q r (above ∷ up) ds (omega (arith, lt)) can.1)

copied_any : (tree : Tree) (q r : ℕ) (up : List ℕ) (ds : List Division) (x : Search) → length ds < length up → copied_up tree q up ds x ≡ copied_up tree r up ds x
copied_any tree q r up [] x lt = refl
copied_any tree q r [] (d ∷ ds) x lt = absurd (omega (arith, lt))
copied_any tree q r (o ∷ []) (d ∷ ds) x lt = absurd (omega (arith, lt))
copied_any tree q r (o ∷ above ∷ up) (d ∷ ds) x lt =
    copied_any (split tree o above d.left d.right d.page) q r (above ∷ up) ds (copied_at_split o d.right d.page x) (omega (arith, lt))

place_any : (state : State) (s : ℕ) (d : Descent) (q r : ℕ) (ds : List Division) → length ds < length (reverse d.path) → after_place state s d q ds ≡ after_place state s d r ds
place_any state s d q r ds lt = λ i. placed (λ t. trees t i) (λ x. searches x i)
  where
    placed : (Tree → Tree) → (Search → Search) → State
    placed f g = record state {
      tables = change_table d.table (λ (table : StoredTable). record table { trees = change_tree d.column f table.trees }) state.tables;
      entries = state.entries + 1;
      searches = map (λ (x : TreeSearch). record x { search = cond (is_of_tree d.table d.column x) (g x.search) x.search }) state.searches;
      sessions = slice_set state.sessions s (session_after_place d state.entries (session_at state.sessions s));
    }

    trees : (t : Tree) → tree_after_place d state.entries q ds t ≡ tree_after_place d state.entries r ds t
    trees t = relieve_any (add t d.path d.box d.key state.entries) q r (reverse d.path) ds lt

    searches : (x : Search) → attached (tree_for state d) d.path d.box d.key state.entries q ds x ≡ attached (tree_for state d) d.path d.box d.key state.entries r ds x
    searches x = copied_any (add (tree_for state d) d.path d.box d.key state.entries) q r (reverse d.path) ds (let_in (tree_for state d) d.path d.box x) lt

-- ---- states behind a placing

pub placings : State → ℕ → Descent → List State
placings state s d =
    flat_map (λ q. map (λ ds. after_place state s d q ds) (divisions_of (free_pages state) (add (tree_for state d) d.path d.box d.key state.entries) q (reverse d.path))) (0 ∷ free_pages state)

pub placings_has : (state : State) (s : ℕ) (d : Descent) (q : ℕ) (ds : List Division) → MayPlaceEntry state s d q ds → Has (placings state s d) (after_place state s d q ds)
unfolding placings
placings_has state s d q ds may = by_raise (length ds == length d.path) refl
  where
    tree : Tree
    tree = add (tree_for state d) d.path d.box d.key state.entries

    listed : (r : ℕ) → Has (0 ∷ free_pages state) r → CanRelieve (add (tree_for state d) d.path d.box d.key state.entries) r (reverse d.path) ds → ((p : ℕ) → Has (pages_divided ds) p → Has (free_pages state) p)
        → Has (placings state s d) (after_place state s d r ds)
    listed r has can free =
        Has-flat_map_of (λ q. map (λ xs. after_place state s d q xs) (divisions_of (free_pages state) (add (tree_for state d) d.path d.box d.key state.entries) q (reverse d.path))) (0 ∷ free_pages state) r (after_place state s d r ds) has
        (Has-map_of (λ xs. after_place state s d r xs) (divisions_of (free_pages state) (add (tree_for state d) d.path d.box d.key state.entries) r (reverse d.path)) ds
        (divisions_has (free_pages state) (add (tree_for state d) d.path d.box d.key state.entries) r (reverse d.path) ds can free))

    by_raise : (b : Bool) → (length ds == length d.path) ≡ b → Has (placings state s d) (after_place state s d q ds)
    by_raise true e =
        let all : list_all (is_free state) (q ∷ pages_divided ds) ≡ true = subst (λ b. list_all (is_free state) (with_option (cond b (Some q) None) (pages_divided ds)) ≡ true) e may.free in
        listed q (inr (free_has state q (all_have (is_free state) (q ∷ pages_divided ds) all q (inl refl)))) may.can
        (λ p h. free_has state p (all_have (is_free state) (q ∷ pages_divided ds) all p (inr h)))
    by_raise false e =
        let all : list_all (is_free state) (pages_divided ds) ≡ true = subst (λ b. list_all (is_free state) (with_option (cond b (Some q) None) (pages_divided ds)) ≡ true) e may.free in
        let lt : length ds < length (reverse d.path) = by_length (cases_lt (length ds) (length (reverse d.path))) in
        subst (Has (placings state s d)) (place_any state s d 0 q ds lt)
        (listed 0 (inl refl) (can_any (add (tree_for state d) d.path d.box d.key state.entries) q 0 (reverse d.path) ds lt may.can)
        (λ p h. free_has state p (all_have (is_free state) (pages_divided ds) all p h)))
      where
        by_length : (length ds < length (reverse d.path)) ⊎ (length (reverse d.path) ≤ length ds) → length ds < length (reverse d.path)
        by_length (inl lt) = lt
        by_length (inr le) =
            let short : length ds ≤ length (reverse d.path) = can_short (add (tree_for state d) d.path d.box d.key state.entries) q (reverse d.path) ds may.can in
            let same : length ds ≡ length d.path = omega (arith, short, le, length-reverse d.path) in
            absurd (false≢true (sym e ∙ eq-eqb (length ds) (length d.path) same))
