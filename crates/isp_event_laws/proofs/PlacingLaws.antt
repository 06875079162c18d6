-- Who percolates, and whom an entry waits for.
use Rattle.std.proofs.Common.{◌≡◌, ◌∙◌, ◌↔◌, inl, inr, refl, sym, ap, subst, ℕ, suc, zero, ◌+◌, ◌<◌, ◌≤◌, ◌==◌, ◌&&◌, ◌||◌, Bool, true, false, not, cond, List, [], ◌∷◌, map, filter, Option, Some, None, arith, eqb-true, eq-eqb}
use Rattle.std.specs.Prelude.{find, filter_map, flat_map}
use Rattle.std.specs.List.{AllByRecursion, cons_option, range_with_len}
use Rattle.std.specs.List.Sorted.{IsStrictlySortedBy}
use Rattle.std.specs.Option.{option_map}
use Rattle.std.specs.Ordering.{nat_cmp}
use Rattle.std.specs.declared.cmp.Ordering.TheVariants.{Less}
use Rattle.std.proofs.lemmas.Bool.{and_parts}
use Rattle.std.proofs.lemmas.Bool.Decides.{nat_tests}
use Rattle.std.proofs.lemmas.Map.Keys.{IsStrictlyIncreasing-from_sorted}
use Rattle.isp_base.specs.Lists.{Has}
use Rattle.isp_mbr.specs.Corners.{Corners}
use Rattle.isp_mbr.specs.Predicates.{satisfies}
use Rattle.isp_forest.specs.Tree.{Tree, page_at}
use Rattle.isp_forest.specs.Steps.{is_among}
use Rattle.isp_forest.specs.Search.{Search}
use Rattle.isp_forest.specs.Attach.{is_tested, lets_in_from, percolated, percolates}
use Rattle.isp_laws.proofs.ListLaws.{Has-append, Has-append_left, Has-append_right, Has-filter, Has-map_of}
use Rattle.isp_searches.proofs.SeesLaws.{among_has, has_among, not_both}
use Rattle.isp_searches.specs.SearchLaws.{MayPlace}
use Rattle.isp_events.specs.State.{State, TreeSearch, session_count, session_numbers}
use Rattle.isp_events.specs.Lines.{On}
use Rattle.isp_events.specs.Next.{Descent}
use Rattle.isp_events.specs.Placing.{as_on, first_of_session, in_the_way, is_of_tree, percolated_to, percolating, satisfied, searches_of, sessions_on, tested, tests, tree_for}
use Rattle.isp_event_laws.specs.EventLaws.{AreNumbered, IsInTheWay, NamesSearches, PercolatesFor}

-- ---- lists

pub record From {X Y : Type 0} (f : X → List Y) (xs : List X) (y : Y) : Type 0 where
  pub x : X
  pub has : Has xs x
  pub gives : Has (f x) y

pub Has-flat_map : {X Y : Type 0} (f : X → List Y) (xs : List X) (y : Y) → Has (flat_map f xs) y → From f xs y
Has-flat_map f [] y h = absurd h
Has-flat_map f (x ∷ xs) y h =
    elim (Has-append (f x) (flat_map f xs) y h) [
      | inl k ↦ record { x = x; has = inl refl; gives = k }
      | inr k ↦ (let r : From f xs y = Has-flat_map f xs y k in record { x = r.x; has = inr r.has; gives = r.gives })
    ]

pub Has-flat_map_of : {X Y : Type 0} (f : X → List Y) (xs : List X) (x : X) (y : Y) → Has xs x → Has (f x) y → Has (flat_map f xs) y
Has-flat_map_of f [] x y h k = absurd h
Has-flat_map_of f (z ∷ xs) x y (inl e) k = Has-append_left (f z) (flat_map f xs) y (subst (λ v. Has (f v) y) (sym e) k)
Has-flat_map_of f (z ∷ xs) x y (inr h) k = Has-append_right (f z) (flat_map f xs) y (Has-flat_map_of f xs x y h k)

pub record Gives {X Y : Type 0} (f : X → Option Y) (xs : List X) (y : Y) : Type 0 where
  pub x : X
  pub has : Has xs x
  pub gives : f x ≡ Some y

given : {X Y : Type 0} (f : X → Option Y) (x : X) (xs : List X) (y : Y) (o : Option Y) → f x ≡ o → (Has (filter_map f xs) y → Gives f xs y) → Has (cons_option o (filter_map f xs)) y → Gives f (x ∷ xs) y
given f x xs y None e rest h = let r : Gives f xs y = rest h in record { x = r.x; has = inr r.has; gives = r.gives }
given f x xs y (Some z) e rest (inl same) = record { x = x; has = inl refl; gives = e ∙ ap Some same }
given f x xs y (Some z) e rest (inr h) = let r : Gives f xs y = rest h in record { x = r.x; has = inr r.has; gives = r.gives }

pub Has-filter_map : {X Y : Type 0} (f : X → Option Y) (xs : List X) (y : Y) → Has (filter_map f xs) y → Gives f xs y
Has-filter_map f [] y h = absurd h
Has-filter_map f (x ∷ xs) y h = given f x xs y (f x) refl (Has-filter_map f xs y) h

here_given : {Y : Type 0} (o : Option Y) (ys : List Y) (y : Y) → o ≡ Some y → Has (cons_option o ys) y
here_given None ys y e = let no : ⊥ = cc in absurd no
here_given (Some z) ys y e = inl cc

there_given : {Y : Type 0} (o : Option Y) (ys : List Y) (y : Y) → Has ys y → Has (cons_option o ys) y
there_given None ys y h = h
there_given (Some z) ys y h = inr h

pub Has-filter_map_of : {X Y : Type 0} (f : X → Option Y) (xs : List X) (x : X) (y : Y) → Has xs x → f x ≡ Some y → Has (filter_map f xs) y
Has-filter_map_of f [] x y h e = absurd h
Has-filter_map_of f (z ∷ xs) x y (inl same) e = here_given (f z) (filter_map f xs) y (ap f same ∙ e)
Has-filter_map_of f (z ∷ xs) x y (inr h) e = there_given (f z) (filter_map f xs) y (Has-filter_map_of f xs x y h e)

passed : {X : Type 0} (t : X → Bool) (z x : X) (xs : List X) (b : Bool) → t z ≡ b → (Has (filter t xs) x → t x ≡ true) → Has (cond b (z ∷ filter t xs) (filter t xs)) x → t x ≡ true
passed t z x xs true e rest (inl same) = ap t (sym same) ∙ e
passed t z x xs true e rest (inr h) = rest h
passed t z x xs false e rest h = rest h

-- what is left of a filtered list passes
pub filter_passes : {X : Type 0} (t : X → Bool) (xs : List X) (x : X) → Has (filter t xs) x → t x ≡ true
filter_passes t [] x h = absurd h
filter_passes t (z ∷ xs) x h = passed t z x xs (t z) refl (filter_passes t xs x) h

stays_in : {X : Type 0} (b : Bool) (z x : X) (ys : List X) → b ≡ true → z ≡ x → Has (cond b (z ∷ ys) ys) x
stays_in true z x ys e same = inl same
stays_in false z x ys e same = let no : ⊥ = cc in absurd no

stays_behind : {X : Type 0} (b : Bool) (z x : X) (ys : List X) → Has ys x → Has (cond b (z ∷ ys) ys) x
stays_behind true z x ys h = inr h
stays_behind false z x ys h = h

pub Has-filter_of : {X : Type 0} (t : X → Bool) (xs : List X) (x : X) → Has xs x → t x ≡ true → Has (filter t xs) x
Has-filter_of t [] x h e = absurd h
Has-filter_of t (z ∷ xs) x (inl same) e = stays_in (t z) z x (filter t xs) (ap t same ∙ e) same
Has-filter_of t (z ∷ xs) x (inr h) e = stays_behind (t z) z x (filter t xs) (Has-filter_of t xs x h e)

pub record Finds {X : Type 0} (t : X → Bool) (xs : List X) : Type 0 where
  pub x : X
  pub is : find t xs ≡ Some x
  pub has : Has xs x
  pub passes : t x ≡ true

-- a search finds one where there is one that passes
pub finds : {X : Type 0} (t : X → Bool) (xs : List X) (x : X) → Has xs x → t x ≡ true → Finds t xs
finds t [] x h e = absurd h
finds t (z ∷ xs) x h e =
    elim (t z) as (λ b. t z ≡ b → Finds t (z ∷ xs)) [
      | true ↦ λ k. record { x = z; is = ap (λ b. cond b (Some z) (find t xs)) k; has = inl refl; passes = k }
      | false ↦ λ k. (let r : Finds t xs = finds t xs x (elim h [ inl same ↦ (let no : ⊥ = cc in absurd no) | inr there ↦ there ]) e in
          record { x = r.x; is = ap (λ b. cond b (Some z) (find t xs)) k ∙ r.is; has = inr r.has; passes = r.passes })
    ] refl

pub find_is : {X : Type 0} (t : X → Bool) (xs : List X) (x : X) → find t xs ≡ Some x → Has xs x × (t x ≡ true)
find_is t [] x e = let no : ⊥ = cc in absurd no
find_is t (z ∷ xs) x e =
    elim (t z) as (λ b. t z ≡ b → cond b (Some z) (find t xs) ≡ Some x → Has (z ∷ xs) x × (t x ≡ true)) [
      | true ↦ λ k f. (let same : z ≡ x = cc in (inl same, ap t (sym same) ∙ k))
      | false ↦ λ k f. (let r : Has xs x × (t x ≡ true) = find_is t xs x f in (inr r.0, r.1))
    ] refl e

-- ---- numbers from a on

pub in_range : (a n k : ℕ) → a ≤ k → k < a + n → Has (range_with_len a n) k
in_range a zero k low high = let no : ⊥ = omega (arith, low, high) in absurd no
in_range a (suc n) k low high =
    elim (a == k) as (λ b. (a == k) ≡ b → Has (a ∷ range_with_len (a + 1) n) k) [
      | true ↦ λ e. inl (eqb-true a k e)
      | false ↦ λ e. inr (in_range (a + 1) n k (let apart : a ≡ k → ⊥ = λ same. not_both (a == k) (eq-eqb a k same) e in grind (arith, nat_tests)) (omega (arith, high)))
    ] refl

above : (a b n : ℕ) → a < b → AllByRecursion (λ y. nat_cmp a y ≡ Less) (range_with_len b n)
above a b zero lt = tt
above a b (suc n) lt = (grind (arith, nat_tests), above a (b + 1) n (omega (arith, lt)))

range_sorted : (a n : ℕ) → IsStrictlySortedBy nat_cmp (range_with_len a n)
unfolding IsStrictlySortedBy
range_sorted a zero = tt
range_sorted a (suc n) = (above a (a + 1) n (omega arith), range_sorted (a + 1) n)

pub numbers_sorted : IsStrictlySortedBy nat_cmp session_numbers
numbers_sorted = range_sorted 0 session_count

-- what is named by rising numbers, each by its own, rises
module _ {X : Type 0} (name : X → ℕ) (f : ℕ → Option X) (named : (k : ℕ) (x : X) → f k ≡ Some x → name x ≡ k) where
  name_first : (P : ℕ → Type 0) (o : Option X) (k : ℕ) (rest : List X) → f k ≡ o → P k → AllByRecursion P (map name rest) → AllByRecursion P (map name (cons_option o rest))
  name_first P None k rest e h r = r
  name_first P (Some x) k rest e h r = (subst P (sym (named k x e)) h, r)

  name_all : (P : ℕ → Type 0) (ks : List ℕ) → AllByRecursion P ks → AllByRecursion P (map name (filter_map f ks))
  name_all P [] h = tt
  name_all P (k ∷ ks) h = name_first P (f k) k (filter_map f ks) refl h.0 (name_all P ks h.1)

  sorted_first : (o : Option X) (k : ℕ) (rest : List X) → f k ≡ o → AllByRecursion (λ y. nat_cmp k y ≡ Less) (map name rest)
      → IsStrictlySortedBy nat_cmp (map name rest) → IsStrictlySortedBy nat_cmp (map name (cons_option o rest))
  unfolding IsStrictlySortedBy
  sorted_first None k rest e h r = r
  sorted_first (Some x) k rest e h r = (subst (λ (j : ℕ). AllByRecursion (λ y. nat_cmp j y ≡ Less) (map name rest)) (sym (named k x e)) h, r)

  pub names_sorted : (ks : List ℕ) → IsStrictlySortedBy nat_cmp ks → IsStrictlySortedBy nat_cmp (map name (filter_map f ks))
  unfolding IsStrictlySortedBy
  names_sorted [] h = tt
  names_sorted (k ∷ ks) h = sorted_first (f k) k (filter_map f ks) refl (name_all (λ y. nat_cmp k y ≡ Less) ks h.0) (names_sorted ks h.1)

-- ---- who percolates

-- a search percolates to pages of the path alone
percolated_on_path : (tree : Tree) (x : Search) (b : Corners) (here : Bool) (path : List ℕ) (q : ℕ) → Has (percolated tree x b here path) q → Has path q
percolated_on_path tree x b here [] q h = absurd h
percolated_on_path tree x b here (p ∷ []) q h = absurd h
percolated_on_path tree x b here (p ∷ r ∷ rest) q h =
    let enters : Bool = here && lets_in_from x.predicate b r (page_at tree p) in
    elim (Has-append (cond enters (r ∷ []) []) (percolated tree x b (is_among x.on r || enters) (r ∷ rest)) q h) [
      | inl k ↦ inr (inl (one enters k))
      | inr k ↦ inr (percolated_on_path tree x b (is_among x.on r || enters) (r ∷ rest) q k)
    ]
  where
    one : (c : Bool) → Has (cond c (r ∷ []) []) q → r ≡ q
    one true (inl e) = e
    one true (inr none) = absurd none
    one false none = absurd none

percolates_on_path : (tree : Tree) (x : Search) (b : Corners) (path : List ℕ) (q : ℕ) → Has (percolates tree x b path) q → Has path q
percolates_on_path tree x b [] q h = absurd h
percolates_on_path tree x b (root ∷ rest) q h = percolated_on_path tree x b (is_among x.on root) (root ∷ rest) q h

pair_of : (c : Bool) (k q session page : ℕ) → cond {A = Option (ℕ × ℕ)} c (Some (k, q)) None ≡ Some (session, page) → (c ≡ true) × (k ≡ session) × (q ≡ page)
pair_of true k q session page e = (refl, ap first e, ap second e)
  where
    first : Option (ℕ × ℕ) → ℕ
    first None = k
    first (Some p) = p.0

    second : Option (ℕ × ℕ) → ℕ
    second None = q
    second (Some p) = p.1
pair_of false k q session page e = let no : ⊥ = cc in absurd no

pub lists_percolating : (tree : Tree) (d : Descent) (searches : List TreeSearch) (session page : ℕ)
    → Has {X = ℕ × ℕ} (percolating tree d searches) (session, page) ↔ PercolatesFor tree d searches session page
lists_percolating tree d searches session page = (
  λ h. (let r : From (percolated_to tree d searches) d.path (session, page) = Has-flat_map (percolated_to tree d searches) d.path (session, page) h in
      let g : Gives (pairs r.x) searches (session, page) = Has-filter_map (pairs r.x) searches (session, page) r.gives in
      let p : (is_among (percolates tree g.x.search d.box d.path) r.x ≡ true) × (g.x.search.session ≡ session) × (r.x ≡ page) =
      pair_of (is_among (percolates tree g.x.search d.box d.path) r.x) g.x.search.session r.x session page g.gives in
      record {
        search = g.x;
        among = g.has;
        session_is = p.1;
        percolates = subst (λ (q : ℕ). Has (percolates tree g.x.search d.box d.path) q) p.2 (among_has (percolates tree g.x.search d.box d.path) r.x p.0);
      }),
  λ p. Has-flat_map_of (percolated_to tree d searches) d.path page (session, page) (percolates_on_path tree p.search.search d.box d.path page p.percolates)
      (Has-filter_map_of (pairs page) searches p.search (session, page) p.among (listed p)),
)
  where
    pairs : ℕ → TreeSearch → Option (ℕ × ℕ)
    pairs q x = cond (is_among (percolates tree x.search d.box d.path) q) (Some (x.search.session, q)) None

    listed : (p : PercolatesFor tree d searches session page) → pairs page p.search ≡ Some (session, page)
    listed p =
        ap (λ c. cond c (Some (p.search.search.session, page)) None) (has_among (percolates tree p.search.search d.box d.path) page p.percolates)
        ∙ ap (λ k. Some (k, page)) p.session_is

-- ---- whom an entry waits for

named_as : (searches : List TreeSearch) (k : ℕ) (o : On) → first_of_session searches k ≡ Some o → o.session ≡ k
named_as searches k o e =
    elim (find (λ x. x.search.session == k) searches) as (λ f. find (λ x. x.search.session == k) searches ≡ f → option_map as_on f ≡ Some o → o.session ≡ k) [
      | None ↦ λ g h. (let no : ⊥ = cc in absurd no)
      | Some x ↦ λ g h. (let is : as_on x ≡ o = cc in
          ap (λ (v : On). v.session) (sym is) ∙ eqb-true x.search.session k (find_is (λ y. y.search.session == k) searches x g).1)
    ] refl e

pub record First (searches : List TreeSearch) (o : On) : Type 0 where
  pub search : TreeSearch
  pub among : Has searches search
  pub is : as_on search ≡ o

first_is : (searches : List TreeSearch) (k : ℕ) (o : On) → first_of_session searches k ≡ Some o → First searches o
first_is searches k o e =
    elim (find (λ x. x.search.session == k) searches) as (λ f. find (λ x. x.search.session == k) searches ≡ f → option_map as_on f ≡ Some o → First searches o) [
      | None ↦ λ g h. (let no : ⊥ = cc in absurd no)
      | Some x ↦ λ g h. record { search = x; among = (find_is (λ y. y.search.session == k) searches x g).0; is = cc }
    ] refl e

is_in_the_way : (state : State) (s : ℕ) (d : Descent) (x : TreeSearch) → Has (satisfied state s d) x → IsInTheWay state s d x
is_in_the_way state s d x h =
    let t : Has (tested state s d) x = Has-filter (λ y. satisfies y.search.predicate d.box) (tested state s d) x h in
    let both : (not (x.search.session == s) ≡ true) × (is_tested (tree_for state d) d.path d.box x.search ≡ true) =
    and_parts (not (x.search.session == s)) (is_tested (tree_for state d) d.path d.box x.search) (filter_passes (tests (tree_for state d) d s) (searches_of state.searches d) x t) in
    record {
      among = Has-filter (tests (tree_for state d) d s) (searches_of state.searches d) x t;
      other = shut (x.search.session == s) both.0;
      tested = both.1;
      satisfied = filter_passes (λ y. satisfies y.search.predicate d.box) (tested state s d) x h;
    }
  where
    shut : (b : Bool) → not b ≡ true → b ≡ false
    shut true e = cc
    shut false e = refl

both_true : (b c : Bool) → b ≡ false → c ≡ true → (not b && c) ≡ true
both_true b c e f = rw (e, f) refl

is_satisfied : (state : State) (s : ℕ) (d : Descent) (x : TreeSearch) → IsInTheWay state s d x → Has (satisfied state s d) x
is_satisfied state s d x w =
    Has-filter_of (λ y. satisfies y.search.predicate d.box) (tested state s d) x
    (Has-filter_of (tests (tree_for state d) d s) (searches_of state.searches d) x w.among
    (both_true (x.search.session == s) (is_tested (tree_for state d) d.path d.box x.search) w.other w.tested))
    w.satisfied

pub names_searches : (state : State) (s : ℕ) (d : Descent) → AreNumbered state → NamesSearches state s d
names_searches state s d numbered = record {
  rising = IsStrictlyIncreasing-from_sorted (sessions_on (in_the_way state s d)) (names_sorted (λ (o : On). o.session) (first_of_session sat) (named_as sat) session_numbers numbers_sorted);
  each = λ o h. of_one o (Has-filter_map (first_of_session sat) session_numbers o h);
  all = λ x w. found x w (finds (λ y. y.search.session == x.search.session) sat x (is_satisfied state s d x w) (eq-eqb x.search.session x.search.session refl));
}
  where
    sat : List TreeSearch
    sat = satisfied state s d

    of_one : (o : On) → Gives (first_of_session sat) session_numbers o → (x : TreeSearch) × IsInTheWay state s d x × (o.session ≡ x.search.session) × (o.predicate ≡ x.search.predicate)
    of_one o g =
        let f : First sat o = first_is sat g.x o g.gives in
        (f.search, is_in_the_way state s d f.search f.among, ap (λ (v : On). v.session) (sym f.is), ap (λ (v : On). v.predicate) (sym f.is))

    found : (x : TreeSearch) → IsInTheWay state s d x → Finds (λ y. y.search.session == x.search.session) sat → Has (sessions_on (in_the_way state s d)) x.search.session
    found x w f =
        let low : x.search.session < session_count = numbered x (Has-filter (is_of_tree d.table d.column) state.searches x w.among) in
        let there : Has (in_the_way state s d) (as_on f.x) =
        Has-filter_map_of (first_of_session sat) session_numbers x.search.session (as_on f.x)
        (in_range 0 session_count x.search.session (omega arith) (omega (arith, low))) (ap (option_map as_on) f.is) in
        subst (λ (k : ℕ). Has (sessions_on (in_the_way state s d)) k) (eqb-true f.x.search.session x.search.session f.passes)
        (Has-map_of (λ (o : On). o.session) (in_the_way state s d) (as_on f.x) there)

pub places_undisturbing : (state : State) (s : ℕ) (d : Descent) (statement : ℕ) (x : TreeSearch) → AreNumbered state → in_the_way state s d ≡ []
    → Has (searches_of state.searches d) x → (x.search.session == s) ≡ false → MayPlace (tree_for state d) d.path d.box s statement x.search
places_undisturbing state s d statement x numbered none among other = record {
  others = λ apart t. nobody (satisfies x.search.predicate d.box) refl t;
  own = λ same. (let yes : (x.search.session == s) ≡ true = eq-eqb x.search.session s same in let no : ⊥ = not_both (x.search.session == s) yes other in absurd no);
}
  where
    names : NamesSearches state s d
    names = names_searches state s d numbered

    nobody : (b : Bool) → satisfies x.search.predicate d.box ≡ b → is_tested (tree_for state d) d.path d.box x.search ≡ true → b ≡ false
    nobody true e t =
        let there : Has (sessions_on (in_the_way state s d)) x.search.session = names.all x (record { among = among; other = other; tested = t; satisfied = e }) in
        let no : ⊥ = subst (λ (list : List On). Has (sessions_on list) x.search.session) none there in absurd no
    nobody false e t = refl
