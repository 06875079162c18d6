-- What the calls say of searches by their numbers, as said of the searches themselves.
use Rattle.std.proofs.Common.{◌≡◌, ℕ, ◌+◌, ◌==◌, Bool, true, false, cond, List, [], ◌∷◌, ◌++◌, map, drop, take, get_or, length, filter_map, find, Result, Ok, Err, OnOk, is_ok, is_some, ◌<◌, option_map, Option, Some, None, inl, inr, refl, ap, sym, ◌∙◌, subst, arith, eqb-true, eq-eqb, ◌&&◌, ◌||◌}
use Rattle.std.specs.List.{cons_option, list_all}
use Rattle.std.proofs.lemmas.Bool.{and_parts}
use Rattle.std.proofs.lemmas.List.{length-map, take_more}
use Rattle.std.proofs.lemmas.Bool.Decides.{nat_tests}
use Rattle.std.proofs.lemmas.List.Folds.{list_all-append, list_any-append}
use Rattle.isp_base.specs.Lists.{Has}
use Rattle.isp_mbr.specs.Corners.{Corners}
use Rattle.isp_mbr.specs.Predicates.{satisfies}
use Rattle.isp_forest.specs.Steps.{is_among}
use Rattle.isp_laws.proofs.ListLaws.{Has-map_of}
use Rattle.isp_searches.proofs.SeesLaws.{has_among}
use Rattle.isp_base.specs.declared.page_no.PageNo.{PageNo}
use Rattle.isp_predlock.specs.declared.entries.Growing.{Growing}
use Rattle.isp_predlock.specs.declared.entries.On.{On}
use Rattle.isp_predlock.specs.declared.entries.Percolation.{Percolation}
use Rattle.isp_predlock.specs.declared.entries.Placing.{Placing}
use Rattle.isp_predlock.specs.declared.entries.SearchId.{SearchId}
use Rattle.isp_predlock.specs.declared.entries.Sought.{Sought}
use Rattle.isp_predlock.specs.Entering.{entered, goes_on, percolating_after}
use Rattle.isp_predlock.specs.Tables.{AreNamed, HeldSearch, are_there, at_id, attached_by, copied_by, copied_on, has_id, id_of, id_told, is_copied, is_there, of_found, on_of, passes_at, passes_found, told, with_page, with_page_at, with_pages}
use Rattle.isp_predlock.specs.Testing.{blocking, is_tested_by, tested}
use Rattle.isp_predlock.proofs.MemberLaws.{filter_map_members, filter_map_of_map, map_members, map_still, map_twice}

-- ---- the search of a number

-- what a search by number finds is a search of that number, and among these
pub record IsFirst (searches : List HeldSearch) (id : ℕ) (x : HeldSearch) : Type 0 where
  pub has : Has searches x
  pub number : x.id ≡ id

first_step : (b : Bool) (z x : HeldSearch) (zs : List HeldSearch) (id : ℕ) → (z.id == id) ≡ b → (find (has_id id) zs ≡ Some x → IsFirst zs id x)
    → cond b (Some z) (find (has_id id) zs) ≡ Some x → IsFirst (z ∷ zs) id x
first_step true z x zs id e f h =
    let same : z ≡ x = cc in
    record { has = inl same; number = ap (λ (y : HeldSearch). y.id) (sym same) ∙ eqb-true z.id id e }
first_step false z x zs id e f h = let i : IsFirst zs id x = f h in record { has = inr i.has; number = i.number }

pub first : (searches : List HeldSearch) (id : ℕ) (x : HeldSearch) → find (has_id id) searches ≡ Some x → IsFirst searches id x
first [] id x h = let no : ⊥ = cc in absurd no
first (z ∷ zs) id x h = first_step (z.id == id) z x zs id refl (first zs id x) h

found_step : (b : Bool) (z x : HeldSearch) (zs : List HeldSearch) → (z.id == x.id) ≡ b → (z ≡ x → b ≡ true)
    → (Has zs x → (y : HeldSearch) × (find (has_id x.id) zs ≡ Some y)) → Has (z ∷ zs) x → (y : HeldSearch) × (cond b (Some z) (find (has_id x.id) zs) ≡ Some y)
found_step true z x zs e same f h = (z, refl)
found_step false z x zs e same f (inl is) = let no : false ≡ true = same is in let never : ⊥ = cc in absurd never
found_step false z x zs e same f (inr h) = f h

some_found : (searches : List HeldSearch) (x : HeldSearch) → Has searches x → (y : HeldSearch) × (find (has_id x.id) searches ≡ Some y)
some_found [] x h = absurd h
some_found (z ∷ zs) x h = found_step (z.id == x.id) z x zs refl (λ same. eq-eqb z.id x.id (ap (λ (y : HeldSearch). y.id) same)) (some_found zs x) h

-- where searches are named one by one, it finds each of them
pub found_named : (searches : List HeldSearch) → AreNamed searches → (x : HeldSearch) → Has searches x → find (has_id x.id) searches ≡ Some x
found_named searches named x h =
    let some : (y : HeldSearch) × (find (has_id x.id) searches ≡ Some y) = some_found searches x h in
    let i : IsFirst searches x.id some.0 = first searches x.id some.0 some.1 in
    some.1 ∙ ap Some (named some.0 x i.has h i.number)

pub by_number : {A : Type 0} (f : HeldSearch → Option A) (searches : List HeldSearch) → AreNamed searches
    → filter_map (at_id searches f) (map id_of searches) ≡ filter_map f searches
by_number f searches named =
    filter_map_of_map (at_id searches f) id_of searches
    ∙ filter_map_members (λ x. at_id searches f x.id) f searches (λ x h. ap (of_found f) (found_named searches named x h))

-- the same where the numbers are known by another name
pub by_ids : {A : Type 0} (f : HeldSearch → Option A) (searches : List HeldSearch) → AreNamed searches → (ids : List ℕ) → ids ≡ map id_of searches
    → filter_map (at_id searches f) ids ≡ filter_map f searches
by_ids f searches named ids e = ap (λ (l : List ℕ). filter_map (at_id searches f) l) e ∙ by_number f searches named

pub on_ok_items : {A E : Type 0} (r : Result (Unit {0}) E) (xs ys zs all : List A) → xs ≡ cond (is_ok r) ys zs → ys ≡ all → OnOk r (xs ≡ all)
on_ok_items (Ok u) xs ys zs all e f = e ∙ f
on_ok_items (Err err) xs ys zs all e f = tt

pub passes_number : (test : HeldSearch → Bool) (searches : List HeldSearch) → AreNamed searches → (x : HeldSearch) (id : ℕ) → Has searches x → x.id ≡ id
    → passes_at searches test id ≡ test x
passes_number test searches named x id h e = ap (passes_at searches test) (sym e) ∙ ap (passes_found test) (found_named searches named x h)

there_by : (searches : List HeldSearch) (id : ℕ) (test : HeldSearch → Bool) (o : Option HeldSearch) → find (has_id id) searches ≡ o → passes_found test o ≡ true → is_there searches id ≡ true
there_by searches id test None at h = let no : ⊥ = cc in absurd no
there_by searches id test (Some x) at h =
    let i : IsFirst searches id x = first searches id x at in
    has_among (map id_of searches) id (subst (λ (k : ℕ). Has (map id_of searches) k) i.number (Has-map_of id_of searches x i.has))

pub passing_there : (searches : List HeldSearch) (id : ℕ) (test : HeldSearch → Bool) → passes_at searches test id ≡ true → is_there searches id ≡ true
passing_there searches id test h = there_by searches id test (find (has_id id) searches) refl h

there_step : (b among : Bool) (x : HeldSearch) (o : Option HeldSearch) → is_some (option_map (λ (y : HeldSearch). y.sought) o) ≡ among
    → is_some (option_map (λ (y : HeldSearch). y.sought) (cond b (Some x) o)) ≡ (b || among)
there_step true among x o e = refl
there_step false among x o e = e

-- it finds one exactly where one is there
pub some_there : (searches : List HeldSearch) (id : ℕ) → is_some (option_map (λ (x : HeldSearch). x.sought) (find (has_id id) searches)) ≡ is_there searches id
some_there [] id = refl
some_there (x ∷ xs) id = there_step (x.id == id) (is_there xs id) x (find (has_id id) xs) (some_there xs id)

-- ---- what is told of it

abbrev on_as : ℕ → Sought → On
on_as id sought = record { search = record { 0 = id }; session = sought.session; predicate = sought.predicate }

told_step : (searches : List HeldSearch) (id : ℕ) (s : Sought) (o : Option HeldSearch) → find (has_id id) searches ≡ o → Some s ≡ option_map (λ (x : HeldSearch). x.sought) o
    → Some (on_as id s) ≡ of_found told o
told_step searches id s None at h = let no : ⊥ = cc in absurd no
told_step searches id s (Some x) at h =
    let is : s ≡ x.sought = cc in
    let i : IsFirst searches id x = first searches id x at in
    ap (λ (y : Sought). Some (on_as id y)) is ∙ ap (λ (k : ℕ). Some (on_as k x.sought)) (sym i.number)

pub told_at : (searches : List HeldSearch) (id : SearchId) (s : Sought) → Some s ≡ option_map (λ (x : HeldSearch). x.sought) (find (has_id id.0) searches)
    → Some (record { search = id; session = s.session; predicate = s.predicate }) ≡ at_id searches told id.0
told_at searches id s h = told_step searches id.0 s (find (has_id id.0) searches) refl h

blocking_by : (b c : Bool) (x : HeldSearch) (on : On) (box : Corners) → satisfies on.predicate box ≡ c → Some on ≡ cond b (Some (on_of x)) None
    → cond c (Some on) None ≡ cond (b && satisfies (x.sought).predicate box) (Some (on_of x)) None
blocking_by false c x on box e h = let no : ⊥ = cc in absurd no
blocking_by true c x on box e h =
    let is : on ≡ on_of x = cc in
    ap (λ (d : Bool). cond d (Some on) None) (sym e) ∙ ap (λ (o : On). cond (satisfies o.predicate box) (Some o) None) is

blocking_step : (placing : Placing) (more : List Percolation) (c : Bool) (o : Option HeldSearch) (on : On) → satisfies on.predicate placing.b ≡ c
    → Some on ≡ of_found (tested placing more) o → cond c (Some on) None ≡ of_found (blocking placing more) o
blocking_step placing more c None on e h = let no : ⊥ = cc in absurd no
blocking_step placing more c (Some x) on e h = blocking_by (is_tested_by placing more x) c x on placing.b e h

pub blocking_at : (placing : Placing) (more : List Percolation) (searches : List HeldSearch) (id : ℕ) (on : On) (c : Bool) → satisfies on.predicate placing.b ≡ c
    → Some on ≡ at_id searches (tested placing more) id → cond c (Some on) None ≡ at_id searches (blocking placing more) id
blocking_at placing more searches id on c e h = blocking_step placing more c (find (has_id id) searches) on e h

-- ---- searches are attached to pages

attached_number : (id q : ℕ) (x : HeldSearch) (b : Bool) → (cond b (with_page q x) x).id ≡ x.id
attached_number id q x true = refl
attached_number id q x false = refl

pub attached_ids : (searches : List HeldSearch) (id q : ℕ) → map id_of (with_page_at searches id q) ≡ map id_of searches
attached_ids searches id q =
    map_twice id_of (attached_by id q) searches ∙ map_members (λ x. (attached_by id q x).id) id_of searches (λ x has. attached_number id q x (has_id id x))

-- the next of a list is attached
module _ (list : List Percolation) (i : ℕ) (f : Percolation) (next : drop i list ≡ f ∷ drop (i + 1) list) (searches after : List HeldSearch)
    (is : after ≡ with_page_at searches f.search.0 f.page.0) where
  pub attached_next : (all : List HeldSearch) → map (with_pages (drop i list)) searches ≡ all → map (with_pages (drop (i + 1) list)) after ≡ all
  attached_next all e =
      let rest : List Percolation = drop (i + 1) list in
      ap (λ (l : List HeldSearch). map (with_pages rest) l) is ∙ map_twice (with_pages rest) (attached_by f.search.0 f.page.0) searches
      ∙ ap (λ (l : List Percolation). map (with_pages l) searches) (sym next) ∙ e

  pub there_here : are_there searches (drop i list) ≡ true → is_there searches f.search.0 ≡ true
  there_here h =
      (and_parts (is_there searches f.search.0) (are_there searches (drop (i + 1) list)) (ap (are_there searches) (sym next) ∙ h)).0

  pub there_next : are_there searches (drop i list) ≡ true → are_there after (drop (i + 1) list) ≡ true
  there_next h =
      let rest : List Percolation = drop (i + 1) list in
      ap (λ (ids : List ℕ). list_all (λ (found : Percolation). is_among ids found.search.0) rest) (ap (λ (l : List HeldSearch). map id_of l) is ∙ attached_ids searches f.search.0 f.page.0)
      ∙ (and_parts (is_there searches f.search.0) (are_there searches rest) (ap (are_there searches) (sym next) ∙ h)).1

pub attached_last : (list : List Percolation) (searches : List HeldSearch) → list ≡ [] → map (with_pages list) searches ≡ searches
attached_last list searches e = ap (λ (l : List Percolation). map (with_pages l) searches) e ∙ map_still (with_pages []) searches (λ x has. refl)

-- ---- who percolates is there

there_option : (searches : List HeldSearch) (o : Option Percolation) (list : List Percolation) → ((found : Percolation) → o ≡ Some found → is_there searches found.search.0 ≡ true)
    → are_there searches list ≡ true → are_there searches (cons_option o list) ≡ true
there_option searches None list h e = e
there_option searches (Some found) list h e = ap (λ (b : Bool). b && are_there searches list) (h found refl) ∙ e

entered_number : (b : Bool) (x : HeldSearch) (page : PageNo) (found : Percolation)
    → cond b (Some (record { search = id_told x; session = (x.sought).session; page = page })) None ≡ Some found → x.id ≡ found.search.0
entered_number true x page found e = ap {B = ℕ} (number x.id) e
  where
    number : ℕ → Option Percolation → ℕ
    number k None = k
    number k (Some f) = f.search.0
entered_number false x page found e = let never : ⊥ = cc in absurd never

entered_there : (searches some : List HeldSearch) (list : List Percolation) (g : Growing) → ((x : HeldSearch) → Has some x → Has searches x)
    → are_there searches (filter_map (entered list g) some) ≡ true
entered_there searches [] list g h = refl
entered_there searches (x ∷ xs) list g h =
    there_option searches (entered list g x) (filter_map (entered list g) xs)
    (λ found e. ap (is_there searches) (sym (entered_number (goes_on list g x) x g.child found e)) ∙ has_among (map id_of searches) x.id (Has-map_of id_of searches x (h x (inl refl))))
    (entered_there searches xs list g (λ y k. h y (inr k)))

-- the next child's
module _ (searches : List HeldSearch) (grown : List Growing) (i : ℕ) (g : Growing) (next : drop i grown ≡ g ∷ drop (i + 1) grown) (list after : List Percolation)
    (is : after ≡ list ++ filter_map (entered list g) searches) where
  pub percolating_next : (all : List Percolation) → percolating_after searches (drop i grown) list ≡ all → percolating_after searches (drop (i + 1) grown) after ≡ all
  percolating_next all e =
      ap (percolating_after searches (drop (i + 1) grown)) is ∙ ap (λ (l : List Growing). percolating_after searches l list) (sym next) ∙ e

  pub percolating_there : are_there searches list ≡ true → are_there searches after ≡ true
  percolating_there h =
      ap (are_there searches) is ∙ list_all-append (λ (found : Percolation). is_there searches found.search.0) list (filter_map (entered list g) searches)
      ∙ ap (λ (b : Bool). b && are_there searches (filter_map (entered list g) searches)) h ∙ entered_there searches searches list g (λ x k. k)

-- ---- copies

copied_step : (c b : Bool) (x y : HeldSearch) → (c ≡ true → b ≡ true) → cond c y x ≡ cond c (cond b y x) x
copied_step true true x y h = refl
copied_step true false x y h = let no : false ≡ true = h refl in let never : ⊥ = cc in absurd never
copied_step false b x y h = refl

uncopied_step : (c b : Bool) (x y : HeldSearch) → (c ≡ true → b ≡ false) → cond c (cond b y x) x ≡ x
uncopied_step true true x y h = let no : true ≡ false = h refl in let never : ⊥ = cc in absurd never
uncopied_step true false x y h = refl
uncopied_step false b x y h = refl

module _ (searches : List HeldSearch) (named : AreNamed searches) (id p q : ℕ) (box : Corners) where
  pub copied_one : passes_at searches (is_copied p box) id ≡ true → with_page_at searches id q ≡ map (copied_by id p q box) searches
  copied_one h =
      map_members (attached_by id q) (copied_by id p q box) searches (λ x has. copied_step (x.id == id) (is_copied p box x) x (with_page q x)
      (λ e. sym (passes_number (is_copied p box) searches named x id has (eqb-true x.id id e)) ∙ h))

  pub copied_none : passes_at searches (is_copied p box) id ≡ false → searches ≡ map (copied_by id p q box) searches
  copied_none h =
      sym (map_still (copied_by id p q box) searches (λ x has. uncopied_step (x.id == id) (is_copied p box x) x (with_page q x)
      (λ e. sym (passes_number (is_copied p box) searches named x id has (eqb-true x.id id e)) ∙ h)))

-- ---- copies one after another

-- the searches of these numbers are copied
abbrev pub copied_among : List ℕ → ℕ → ℕ → Corners → HeldSearch → HeldSearch
copied_among ids p q box x = cond (is_among ids x.id) (copied_on p q box x) x

on_it : (on : List ℕ) (q : ℕ) (b : Bool) → is_among on q ≡ b → is_among (cond b on (on ++ q ∷ [])) q ≡ true
on_it on q true e = e
on_it on q false e = has_among (on ++ q ∷ []) q (last on)
  where
    last : (xs : List ℕ) → Has (xs ++ q ∷ []) q
    last [] = inl refl
    last (x ∷ xs) = inr (last xs)

page_twice : (q : ℕ) (x : HeldSearch) → with_page q (with_page q x) ≡ with_page q x
page_twice q x =
    let on : List ℕ = cond (is_among x.on q) x.on (x.on ++ q ∷ []) in
    ap (λ (b : Bool). record { id = x.id; sought = x.sought; on = cond b on (on ++ q ∷ []) }) (on_it x.on q (is_among x.on q) refl)

either : (b : Bool) (x y : HeldSearch) → x ≡ y → cond b x y ≡ y
either true x y e = e
either false x y e = refl

copied_twice : (p q : ℕ) (box : Corners) (x : HeldSearch) → copied_on p q box (copied_on p q box x) ≡ copied_on p q box x
copied_twice p q box x = by (is_copied p box x) refl
  where
    by : (b : Bool) → is_copied p box x ≡ b
        → cond (is_copied p box (cond b (with_page q x) x)) (with_page q (cond b (with_page q x) x)) (cond b (with_page q x) x) ≡ cond b (with_page q x) x
    by true e = either (is_copied p box (with_page q x)) (with_page q (with_page q x)) (with_page q x) (page_twice q x)
    by false e = ap (λ (c : Bool). cond c (with_page q x) x) e

module _ (p q : ℕ) (box : Corners) where
  same_id : (x : HeldSearch) (b : Bool) → (cond b (with_page q x) x).id ≡ x.id
  same_id x true = refl
  same_id x false = refl

  then_one : (c d : Bool) (x : HeldSearch) → cond d (copied_on p q box (cond c (copied_on p q box x) x)) (cond c (copied_on p q box x) x) ≡ cond (c || (d || false)) (copied_on p q box x) x
  then_one true true x = copied_twice p q box x
  then_one true false x = refl
  then_one false true x = refl
  then_one false false x = refl

  among_id : (ids : List ℕ) (x : HeldSearch) (c : Bool) → (cond c (copied_on p q box x) x).id ≡ x.id
  among_id ids x true = same_id x (is_copied p box x)
  among_id ids x false = refl

  -- one more is
  pub copied_more : (ids : List ℕ) (id : ℕ) (searches : List HeldSearch)
      → map (copied_by id p q box) (map (copied_among ids p q box) searches) ≡ map (copied_among (ids ++ id ∷ []) p q box) searches
  copied_more ids id searches =
      map_twice (copied_by id p q box) (copied_among ids p q box) searches
      ∙ map_members (λ x. copied_by id p q box (copied_among ids p q box x)) (copied_among (ids ++ id ∷ []) p q box) searches (λ x has.
      (let y : HeldSearch = copied_among ids p q box x in
      ap (λ (k : ℕ). cond (k == id) (copied_on p q box y) y) (among_id ids x (is_among ids x.id))
      ∙ ap (λ (d : Bool). cond d (copied_on p q box y) y) (turned x.id id)
      ∙ then_one (is_among ids x.id) (id == x.id) x
      ∙ ap (λ (b : Bool). cond b (copied_on p q box x) x) (sym (list_any-append (λ k. k == x.id) ids (id ∷ [])))))
    where
      turned : (a b : ℕ) → (a == b) ≡ (b == a)
      turned a b = grind (arith, nat_tests)

  -- and once all are, each search is
  pub copied_all : (searches : List HeldSearch) → map (copied_among (map id_of searches) p q box) searches ≡ map (copied_on p q box) searches
  copied_all searches =
      map_members (copied_among (map id_of searches) p q box) (copied_on p q box) searches
      (λ x has. ap (λ (b : Bool). cond b (copied_on p q box x) x) (has_among (map id_of searches) x.id (Has-map_of id_of searches x has)))

  pub copied_nobody : (searches : List HeldSearch) → searches ≡ map (copied_among [] p q box) searches
  copied_nobody searches = sym (map_still (copied_among [] p q box) searches (λ x has. refl))

  copied_ids : (ids : List ℕ) (searches : List HeldSearch) → map id_of (map (copied_among ids p q box) searches) ≡ map id_of searches
  copied_ids ids searches = map_twice id_of (copied_among ids p q box) searches ∙ map_members (λ x. (copied_among ids p q box x).id) id_of searches (λ x has. among_id ids x (is_among ids x.id))

  pub copied_next : (searches now after : List HeldSearch) (i id : ℕ) → i < length searches → now ≡ map (copied_among (take i (map id_of searches)) p q box) searches
      → id ≡ get_or (map id_of now) i 0 → after ≡ map (copied_by id p q box) now → after ≡ map (copied_among (take (i + 1) (map id_of searches)) p q box) searches
  copied_next searches now after i id inside is named done =
      let ids : List ℕ = map id_of searches in
      let same : id ≡ get_or ids i 0 = named ∙ ap (λ (l : List HeldSearch). get_or (map id_of l) i 0) is ∙ ap (λ (l : List ℕ). get_or l i 0) (copied_ids (take i ids) searches) in
      let within : i < length ids = subst (λ (n : ℕ). i < n) (sym (length-map searches id_of)) inside in
      done ∙ ap (λ (l : List HeldSearch). map (copied_by id p q box) l) is ∙ copied_more (take i ids) id searches
      ∙ ap (λ (l : List ℕ). map (copied_among l p q box) searches)
      (ap (λ (k : ℕ). take i ids ++ k ∷ []) same ∙ sym (take_more ids i 0 within))
