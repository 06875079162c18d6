-- What events leave of searches: whose they are, of which statement, tree and predicate.
use Rattle.std.proofs.Common.{◌≡◌, ◌⊎◌, ◌∙◌, inl, inr, refl, sym, ap, subst, ℕ, ℤ, ◌==◌, not, cond, Bool, true, false, Option, Some, None, List, [], ◌∷◌, ◌++◌, map, eqb-true}
use Rattle.std.specs.Prelude.{find, reverse}
use Rattle.std.specs.List.{last_or, list_any}
use Rattle.std.proofs.lemmas.Bool.{false≢true, and_parts}
use Rattle.isp_base.specs.Lists.{Has}
use Rattle.isp_laws.proofs.ListLaws.{Has-append, Has-append_left, Has-map, Has-map_of, Source}
use Rattle.isp_mbr.specs.Corners.{Corners}
use Rattle.isp_mbr.specs.declared.predicate.Predicate.{Predicate}
use Rattle.isp_forest.specs.Tree.{Node, Tree, counter, page_at}
use Rattle.isp_forest.specs.Walk.{split_since}
use Rattle.isp_forest.specs.Steps.{add, is_among, split}
use Rattle.isp_forest.specs.Place.{Division}
use Rattle.isp_forest.specs.Search.{Search}
use Rattle.isp_forest.specs.Attach.{attached, copied_at_raise, copied_at_split, copied_up, let_in}
use Rattle.isp_forest.specs.Visit.{begun, looked_at, remembered, visited_at}
use Rattle.isp_events.specs.Stored.{table_at, tree_of}
use Rattle.isp_events.specs.Sessions.{Work, session_at}
use Rattle.isp_events.specs.State.{State, TreeSearch}
use Rattle.isp_events.specs.Ways.{Machine, by_box}
use Rattle.isp_events.specs.Reading.{is_of, search_before, search_or, visit_top, visited, with_search}
use Rattle.isp_events.specs.Next.{Descent}
use Rattle.isp_events.specs.Placing.{is_of_tree, search_after_place}
use Rattle.isp_events.specs.Ending.{searches_without}
use Rattle.isp_reclock.proofs.BlockerLemmas.{find_passes}
use Rattle.isp_order.specs.Searches.{Belongs, IsOfWork}
use Rattle.isp_order.specs.InOrder.{InOrder}
use Rattle.isp_causes.specs.Causes.{IsVisiting}

-- ---- one search

module _ {Y : Type 0} (g : Search → Y) (keeps_on : (x : Search) (on : List ℕ) → g (record x { on = on }) ≡ g x) where
  copied_keeps : (tree : Tree) (q : ℕ) (up : List ℕ) (ds : List Division) (x : Search) → g (copied_up tree q up ds x) ≡ g x
  copied_keeps tree q up [] x = refl
  copied_keeps tree q [] (d ∷ ds) x = refl
  copied_keeps tree q (o ∷ []) (d ∷ ds) x = keeps_on (copied_at_raise tree q x) _ ∙ keeps_on x _
  copied_keeps tree q (o ∷ above ∷ up) (d ∷ ds) x =
      copied_keeps (split tree o above d.left d.right d.page) q (above ∷ up) ds (copied_at_split o d.right d.page x) ∙ keeps_on x _

  pub attached_keeps : (tree : Tree) (path : List ℕ) (b : Corners) (key : ℤ) (number q : ℕ) (ds : List Division) (x : Search) → g (attached tree path b key number q ds x) ≡ g x
  attached_keeps tree path b key number q ds x = copied_keeps (add tree path b key number) q (reverse path) ds (let_in tree path b x) ∙ keeps_on x _

module _ {Y : Type 0} (g : Search → Y) (keeps : (x : Search) (on : List ℕ) (stack : List (ℕ × ℕ)) (found : List ℤ) → g (record x { on = on; stack = stack; found = found }) ≡ g x) where
  visited_at_keeps : (tree : Tree) (p s : ℕ) (page : Option Node) (x : Search) → g (visited_at tree p s page x) ≡ g x
  visited_at_keeps tree p s None x = refl
  visited_at_keeps tree p s (Some page) x =
      let behind : Search = record x { stack = x.stack ++ remembered s (split_since s (Some page)) } in
      by_test (is_among x.on p) behind (keeps x x.on behind.stack x.found)
    where
      by_test : (b : Bool) (behind : Search) → g behind ≡ g x → g (cond b behind (looked_at (counter tree) page p behind)) ≡ g x
      by_test true behind h = h
      by_test false behind h = keeps behind _ _ _ ∙ h

  top_keeps : (tree : Tree) (x : Search) (top : Option (ℕ × ℕ)) → g (visit_top tree x top) ≡ g x
  top_keeps tree x None = refl
  top_keeps tree x (Some top) = visited_at_keeps tree top.0 top.1 (page_at tree top.0) _ ∙ keeps x _ _ _

  pub visited_keeps : (tree : Tree) (x : Search) → g (visited tree x) ≡ g x
  visited_keeps tree x = top_keeps tree x (last_or None x.stack)

-- whose it is, of which statement, and its predicate
pub record IsSame (x y : Search) : Type 0 where
  pub session : y.session ≡ x.session
  pub statement : y.statement ≡ x.statement
  pub predicate : y.predicate ≡ x.predicate

pub attached_same : (tree : Tree) (path : List ℕ) (b : Corners) (key : ℤ) (number q : ℕ) (ds : List Division) (x : Search) → IsSame x (attached tree path b key number q ds x)
attached_same tree path b key number q ds x = record {
  session = attached_keeps (λ (y : Search). y.session) (λ y on. refl) tree path b key number q ds x;
  statement = attached_keeps (λ (y : Search). y.statement) (λ y on. refl) tree path b key number q ds x;
  predicate = attached_keeps (λ (y : Search). y.predicate) (λ y on. refl) tree path b key number q ds x;
}

pub visited_same : (tree : Tree) (x : Search) → IsSame x (visited tree x)
visited_same tree x = record {
  session = visited_keeps (λ (y : Search). y.session) (λ y on stack found. refl) tree x;
  statement = visited_keeps (λ (y : Search). y.statement) (λ y on stack found. refl) tree x;
  predicate = visited_keeps (λ (y : Search). y.predicate) (λ y on stack found. refl) tree x;
}

-- ---- the searches of all

-- the same search in another state: its tree too is the same
pub record IsStill (x y : TreeSearch) : Type 0 where
  pub of_table : y.table ≡ x.table
  pub of_column : y.column ≡ x.column
  pub same : IsSame x.search y.search

pub still_itself : (x : TreeSearch) → IsStill x x
still_itself x = record { of_table = refl; of_column = refl; same = record { session = refl; statement = refl; predicate = refl } }

-- where it came from
pub record WasThere (searches : List TreeSearch) (y : TreeSearch) : Type 0 where
  pub before : TreeSearch
  pub among : Has searches before
  pub still : IsStill before y

-- and where it is
pub record IsThere (searches : List TreeSearch) (x : TreeSearch) : Type 0 where
  pub now : TreeSearch
  pub among : Has searches now
  pub still : IsStill x now

module _ (tree : Tree) (d : Descent) (number q : ℕ) (ds : List Division) where
  pub place_still : (x : TreeSearch) → IsStill x (search_after_place tree d number q ds x)
  place_still x = by_test (is_of_tree d.table d.column x)
    where
      by_test : (b : Bool) → IsStill x (record x { search = cond b (attached tree d.path d.box d.key number q ds x.search) x.search })
      by_test true = record { of_table = refl; of_column = refl; same = attached_same tree d.path d.box d.key number q ds x.search }
      by_test false = still_itself x

  pub placed_was : (searches : List TreeSearch) (y : TreeSearch) → Has (map (search_after_place tree d number q ds) searches) y → WasThere searches y
  placed_was searches y h =
      let s : Source (search_after_place tree d number q ds) searches y = Has-map (search_after_place tree d number q ds) searches y h in
      record { before = s.x; among = s.has; still = subst (λ (z : TreeSearch). IsStill s.x z) s.is (place_still s.x) }

  pub placed_is : (searches : List TreeSearch) (x : TreeSearch) → Has searches x → IsThere (map (search_after_place tree d number q ds) searches) x
  placed_is searches x h = record { now = search_after_place tree d number q ds x; among = Has-map_of (search_after_place tree d number q ds) searches x h; still = place_still x }

of_parts : (s statement : ℕ) (y : TreeSearch) → is_of s statement y ≡ true → (y.search.session ≡ s) × (y.search.statement ≡ statement)
of_parts s statement y h =
    let parts = and_parts (y.search.session == s) (y.search.statement == statement) h in
    (eqb-true y.search.session s parts.0, eqb-true y.search.statement statement parts.1)

-- a search put in the place of one of the same session and statement, and predicate
module _ (x : Search) where
  pub put_still : (y : TreeSearch) → (is_of x.session x.statement y ≡ true → x.predicate ≡ y.search.predicate) → IsStill y (record y { search = cond (is_of x.session x.statement y) x y.search })
  put_still y same = by_test (is_of x.session x.statement y) refl
    where
      by_test : (b : Bool) → is_of x.session x.statement y ≡ b → IsStill y (record y { search = cond b x y.search })
      by_test true e =
          let parts = of_parts x.session x.statement y e in
          record { of_table = refl; of_column = refl; same = record { session = sym parts.0; statement = sym parts.1; predicate = same e } }
      by_test false e = still_itself y

  -- it was there, or it is the one that is begun
  pub searched_was : (searches : List TreeSearch) (table column : ℕ) (y : TreeSearch)
      → ((z : TreeSearch) → Has searches z → is_of x.session x.statement z ≡ true → x.predicate ≡ z.search.predicate)
      → Has (with_search searches table column x) y → WasThere searches y ⊎ (record { table = table; column = column; search = x } ≡ y)
  searched_was searches table column y same h = by_test (list_any (is_of x.session x.statement) searches) h
    where
      by_test : (b : Bool) → Has (cond b (map (λ (z : TreeSearch). record z { search = cond (is_of x.session x.statement z) x z.search }) searches) (searches ++ record { table = table; column = column; search = x } ∷ [])) y
          → WasThere searches y ⊎ (record { table = table; column = column; search = x } ≡ y)
      by_test true k =
          let s = Has-map (λ (z : TreeSearch). record z { search = cond (is_of x.session x.statement z) x z.search }) searches y k in
          inl (record { before = s.x; among = s.has; still = subst (λ (z : TreeSearch). IsStill s.x z) s.is (put_still s.x (same s.x s.has)) })
      by_test false k = elim (Has-append searches (record { table = table; column = column; search = x } ∷ []) y k) [
        | inl l ↦ inl (record { before = y; among = l; still = still_itself y })
        | inr l ↦ last l
      ]
        where
          last : Has (record { table = table; column = column; search = x } ∷ []) y → WasThere searches y ⊎ (record { table = table; column = column; search = x } ≡ y)
          last (inl e) = inr e
          last (inr i) = absurd i

  pub searched_is : (searches : List TreeSearch) (table column : ℕ) (y : TreeSearch)
      → (is_of x.session x.statement y ≡ true → x.predicate ≡ y.search.predicate) → Has searches y → IsThere (with_search searches table column x) y
  searched_is searches table column y same h = by_test (list_any (is_of x.session x.statement) searches)
    where
      by_test : (b : Bool) → IsThere (cond b (map (λ (z : TreeSearch). record z { search = cond (is_of x.session x.statement z) x z.search }) searches) (searches ++ record { table = table; column = column; search = x } ∷ [])) y
      by_test true = record {
        now = record y { search = cond (is_of x.session x.statement y) x y.search };
        among = Has-map_of (λ (z : TreeSearch). record z { search = cond (is_of x.session x.statement z) x z.search }) searches y h;
        still = put_still y same;
      }
      by_test false = record { now = y; among = Has-append_left searches (record { table = table; column = column; search = x } ∷ []) y h; still = still_itself y }

pub find_has : (test : TreeSearch → Bool) (searches : List TreeSearch) (y : TreeSearch) → find test searches ≡ Some y → Has searches y
find_has test [] y h = let no : None ≡ Some y = h in let f : ⊥ = cc in absurd f
find_has test (x ∷ searches) y h = by_test (test x) (find_has test searches y) h
  where
    by_test : (b : Bool) → (find test searches ≡ Some y → Has searches y) → cond b (Some x) (find test searches) ≡ Some y → Has (x ∷ searches) y
    by_test true again k = inl cc
    by_test false again k = inr (again k)

-- the search before a visit is of the session and its statement
pub before_same : (searches : List TreeSearch) (tree : Tree) (s statement : ℕ) (predicate : Predicate)
    → ((search_before searches tree s statement predicate).session ≡ s) × ((search_before searches tree s statement predicate).statement ≡ statement)
before_same searches tree s statement predicate = by_found (find (is_of s statement) searches) refl
  where
    by_found : (o : Option TreeSearch) → find (is_of s statement) searches ≡ o
        → ((search_or o (begun tree s statement predicate)).session ≡ s) × ((search_or o (begun tree s statement predicate)).statement ≡ statement)
    by_found None e = (refl, refl)
    by_found (Some y) e = of_parts s statement y (find_passes (is_of s statement) searches y e)

-- an end leaves those of others
pub left_was : (searches : List TreeSearch) (s : ℕ) (y : TreeSearch) → Has (searches_without searches s) y → Has searches y × ((y.search.session == s) ≡ false)
left_was [] s y h = absurd h
left_was (x ∷ searches) s y h = by_test (x.search.session == s) refl (left_was searches s y) h
  where
    by_test : (b : Bool) → (x.search.session == s) ≡ b → (Has (searches_without searches s) y → Has searches y × ((y.search.session == s) ≡ false))
        → Has (cond (not b) (x ∷ searches_without searches s) (searches_without searches s)) y
        → Has (x ∷ searches) y × ((y.search.session == s) ≡ false)
    by_test true e again k = (inr (again k).0, (again k).1)
    by_test false e again (inl k) = (inl k, ap (λ (z : TreeSearch). z.search.session == s) (sym k) ∙ e)
    by_test false e again (inr k) = (inr (again k).0, (again k).1)

pub left_is : (searches : List TreeSearch) (s : ℕ) (y : TreeSearch) → (y.search.session == s) ≡ false → Has searches y → Has (searches_without searches s) y
left_is [] s y e h = absurd h
left_is (x ∷ searches) s y e h = by_test (x.search.session == s) refl (left_is searches s y e) h
  where
    by_test : (b : Bool) → (x.search.session == s) ≡ b → (Has searches y → Has (searches_without searches s) y) → Has (x ∷ searches) y → Has (cond (not b) (x ∷ searches_without searches s) (searches_without searches s)) y
    by_test true f again (inl k) = absurd (false≢true (sym e ∙ ap (λ (z : TreeSearch). z.search.session == s) (sym k) ∙ f))
    by_test true f again (inr k) = again k
    by_test false f again (inl k) = inl k
    by_test false f again (inr k) = inr (again k)

-- ---- a visit

-- the searches that a session has of its statement are of the way that it visits
pub record IsOfWay (number column : ℕ) (predicate : Predicate) (x : TreeSearch) : Type 0 where
  pub of_table : x.table ≡ number
  pub of_column : x.column ≡ column
  pub predicate_is : x.search.predicate ≡ predicate

module _ (m : Machine) (state : State) (o : InOrder m state) (s number column : ℕ) (predicate : Predicate) (at : IsVisiting m state (session_at state.sessions s) number column predicate) where
  pub present_of_way : (x : TreeSearch) → Has state.searches x → is_of s (session_at state.sessions s).number x ≡ true → IsOfWay number column predicate x
  present_of_way x has is =
      let parts = of_parts s (session_at state.sessions s).number x is in
      let b : Belongs m.ways state.tables state.sessions x = o.belongs.each x has in
      let w : IsOfWork m.ways state.tables (session_at state.sessions x.search.session) x =
      b.present (parts.1 ∙ ap (λ k. (session_at state.sessions k).number) (sym parts.0)) in
      let same_work : Some w.work ≡ Some at.work = sym w.at_work ∙ ap (λ k. (session_at state.sessions k).work) parts.0 ∙ at.goes_on.at_work in
      let work_is : w.work ≡ at.work = some_is w.work at.work same_work in
      let table_is : x.table ≡ at.work.table = sym w.of_table ∙ ap (λ (v : Work). v.table) work_is in
      let ways_are : by_box x.column x.search.predicate ≡ by_box column predicate =
      sym w.way ∙ ap (λ t. m.ways (table_at state.tables t).schema w.work.statement) table_is ∙ ap (λ (v : Work). m.ways (table_at state.tables at.work.table).schema v.statement) work_is ∙ at.way in
      let two = box_parts x.column column x.search.predicate predicate ways_are in
      record { of_table = table_is ∙ sym at.number_is; of_column = two.0; predicate_is = two.1 }
    where
      some_is : (v w : Work) → Some v ≡ Some w → v ≡ w
      some_is v w e = cc

      box_parts : (c d : ℕ) (p q : Predicate) → by_box c p ≡ by_box d q → (c ≡ d) × (p ≡ q)
      box_parts c d p q e = (cc, cc)

  before_predicate : (tree : Tree) → (search_before state.searches tree s (session_at state.sessions s).number predicate).predicate ≡ predicate
  before_predicate tree = by_found (find (is_of s (session_at state.sessions s).number) state.searches) refl
    where
      by_found : (f : Option TreeSearch) → find (is_of s (session_at state.sessions s).number) state.searches ≡ f
          → (search_or f (begun tree s (session_at state.sessions s).number predicate)).predicate ≡ predicate
      by_found None e = refl
      by_found (Some y) e =
          (present_of_way y (find_has (is_of s (session_at state.sessions s).number) state.searches y e) (find_passes (is_of s (session_at state.sessions s).number) state.searches y e)).predicate_is

  abbrev pub seen_now : Search
  seen_now =
      let tree = tree_of (table_at state.tables number) column in
      visited tree (search_before state.searches tree s (session_at state.sessions s).number predicate)

  pub now_session : seen_now.session ≡ s
  now_session =
      let tree : Tree = tree_of (table_at state.tables number) column in
      (visited_same tree (search_before state.searches tree s (session_at state.sessions s).number predicate)).session
      ∙ (before_same state.searches tree s (session_at state.sessions s).number predicate).0

  pub now_statement : seen_now.statement ≡ (session_at state.sessions s).number
  now_statement =
      let tree : Tree = tree_of (table_at state.tables number) column in
      (visited_same tree (search_before state.searches tree s (session_at state.sessions s).number predicate)).statement
      ∙ (before_same state.searches tree s (session_at state.sessions s).number predicate).1

  pub now_predicate : seen_now.predicate ≡ predicate
  now_predicate =
      let tree : Tree = tree_of (table_at state.tables number) column in
      (visited_same tree (search_before state.searches tree s (session_at state.sessions s).number predicate)).predicate ∙ before_predicate tree

  pub same_predicate : (z : TreeSearch) → Has state.searches z → is_of seen_now.session seen_now.statement z ≡ true → seen_now.predicate ≡ z.search.predicate
  same_predicate z has is =
      let is' : is_of s (session_at state.sessions s).number z ≡ true = ap (λ k. is_of k (session_at state.sessions s).number z) (sym now_session) ∙ ap (λ n. is_of seen_now.session n z) (sym now_statement) ∙ is in
      now_predicate ∙ sym (present_of_way z has is').predicate_is

  -- of the searches after the visit, each was there or is the session's own
  pub visit_was : (y : TreeSearch) → Has (with_search state.searches number column seen_now) y
      → WasThere state.searches y ⊎ (record { table = number; column = column; search = seen_now } ≡ y)
  visit_was y h = searched_was seen_now state.searches number column y same_predicate h

  pub visit_is : (y : TreeSearch) → Has state.searches y → IsThere (with_search state.searches number column seen_now) y
  visit_is y h = searched_is seen_now state.searches number column y (same_predicate y h) h
