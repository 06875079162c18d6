-- Searches that a placing can't tell from one another, searches of other trees, and copies.
use Rattle.std.proofs.Common.{◌≡◌, inl, inr, ℕ, suc, ℤ, ◌==◌, Bool, true, false, not, cond, Option, Some, None, List, [], ◌∷◌, ◌++◌, filter, filter_map, find, flat_map, length, option_map, refl, ap, sym, ◌∙◌, subst, eqb-true, ◌||◌, ◌&&◌}
use Rattle.std.specs.List.{AllZip, cons_option, list_any}
use Rattle.std.proofs.lemmas.List.Folds.{list_any-append}
use Rattle.isp_base.specs.Lists.{Has}
use Rattle.isp_mbr.specs.Corners.{Corners}
use Rattle.isp_mbr.specs.Predicates.{may_hold, satisfies}
use Rattle.isp_mbr.specs.declared.predicate.Predicate.{Predicate}
use Rattle.isp_forest.specs.Attach.{copied, is_tested, lets_in_from, percolated, percolates}
use Rattle.isp_forest.specs.Search.{Search}
use Rattle.isp_forest.specs.Steps.{is_among, is_last}
use Rattle.isp_forest.specs.Tree.{Tree, page_at}
use Rattle.isp_laws.proofs.ListLaws.{Has-append, Has-append_left, Has-append_right}
use Rattle.isp_searches.specs.SearchLaws.{IsLike}
use Rattle.isp_searches.proofs.SeesLaws.{among_has}
use Rattle.isp_events.specs.Next.{Descent}
use Rattle.isp_events.specs.Placing.{as_on, first_of_session, is_of_tree, percolated_to, searches_of, tests}
use Rattle.isp_events.specs.State.{TreeSearch, session_numbers}
use Rattle.isp_predlock.specs.MachineWords.{IsSameSearch, PlaceAlike, satisfied_of, search_of, tested_of}
use Rattle.isp_predlock.specs.Tables.{HeldSearch, copied_on, is_copied, with_page}
use Rattle.isp_predlock.proofs.MemberLaws.{filter_map_members}

-- ---- tests of lists

pub same_bool : (a b : Bool) → (a ≡ true → b ≡ true) → (b ≡ true → a ≡ true) → a ≡ b
same_bool true b f g = sym (f refl)
same_bool false true f g = g refl
same_bool false false f g = refl

any_step : (t : ℕ → Bool) (b : Bool) (y : ℕ) (ys : List ℕ) → t y ≡ b → (list_any t ys ≡ true → (q : ℕ) × Has ys q × (t q ≡ true)) → (b || list_any t ys) ≡ true
    → (q : ℕ) × Has (y ∷ ys) q × (t q ≡ true)
any_step t true y ys e f h = (y, inl refl, e)
any_step t false y ys e f h = let r : (q : ℕ) × Has ys q × (t q ≡ true) = f h in (r.0, inr r.1, r.2)

pub any_has : (t : ℕ → Bool) (ys : List ℕ) → list_any t ys ≡ true → (q : ℕ) × Has ys q × (t q ≡ true)
any_has t [] h = let never : ⊥ = cc in absurd never
any_has t (y ∷ ys) h = any_step t (t y) y ys refl (any_has t ys) h

or_true : (b : Bool) → (b || true) ≡ true
or_true true = refl
or_true false = refl

pub has_any : (t : ℕ → Bool) (ys : List ℕ) (q : ℕ) → Has ys q → t q ≡ true → list_any t ys ≡ true
has_any t [] q h e = absurd h
has_any t (y ∷ ys) q (inl same) e = ap (λ (b : Bool). b || list_any t ys) (ap t same ∙ e)
has_any t (y ∷ ys) q (inr h) e = ap (λ (b : Bool). t y || b) (has_any t ys q h e) ∙ or_true (t y)

-- two lists with the same on them pass a test alike
pub any_alike : (t : ℕ → Bool) (xs ys : List ℕ) → ((q : ℕ) → Has xs q → Has ys q) → ((q : ℕ) → Has ys q → Has xs q) → list_any t xs ≡ list_any t ys
any_alike t xs ys forth back =
    same_bool (list_any t xs) (list_any t ys)
    (λ h. (let r : (q : ℕ) × Has xs q × (t q ≡ true) = any_has t xs h in has_any t ys r.0 (forth r.0 r.1) r.2))
    (λ h. (let r : (q : ℕ) × Has ys q × (t q ≡ true) = any_has t ys h in has_any t xs r.0 (back r.0 r.1) r.2))

-- ---- lists that are alike place by place

module _ {A : Type 0} (R : A → A → Type 0) where
  zip_filter_map : {B : Type 0} (f : A → Option B) (xs ys : List A) → ((x y : A) → R x y → f x ≡ f y) → AllZip R xs ys → filter_map f xs ≡ filter_map f ys
  zip_filter_map f [] [] h z = refl
  zip_filter_map f [] (y ∷ ys) h z = absurd z
  zip_filter_map f (x ∷ xs) [] h z = absurd z
  zip_filter_map f (x ∷ xs) (y ∷ ys) h z = ap (λ o. cons_option o (filter_map f xs)) (h x y z.0) ∙ ap (λ l. cons_option (f y) l) (zip_filter_map f xs ys h z.1)

  zip_keep : (b : Bool) (x y : A) (xs ys : List A) → R x y → AllZip R xs ys → AllZip R (cond b (x ∷ xs) xs) (cond b (y ∷ ys) ys)
  zip_keep true x y xs ys r z = (r, z)
  zip_keep false x y xs ys r z = z

  zip_filter : (t : A → Bool) (xs ys : List A) → ((x y : A) → R x y → t x ≡ t y) → AllZip R xs ys → AllZip R (filter t xs) (filter t ys)
  zip_filter t [] [] h z = tt
  zip_filter t [] (y ∷ ys) h z = absurd z
  zip_filter t (x ∷ xs) [] h z = absurd z
  zip_filter t (x ∷ xs) (y ∷ ys) h z =
      subst (λ (b : Bool). AllZip R (cond (t x) (x ∷ filter t xs) (filter t xs)) (cond b (y ∷ filter t ys) (filter t ys))) (h x y z.0)
      (zip_keep (t x) x y (filter t xs) (filter t ys) z.0 (zip_filter t xs ys h z.1))

  zip_length : (xs ys : List A) → AllZip R xs ys → length xs ≡ length ys
  zip_length [] [] z = refl
  zip_length [] (y ∷ ys) z = absurd z
  zip_length (x ∷ xs) [] z = absurd z
  zip_length (x ∷ xs) (y ∷ ys) z = ap (λ n. suc n) (zip_length xs ys z.1)

  found_keep : {B : Type 0} (g : A → B) (b : Bool) (x y : A) (o p : Option A) → g x ≡ g y → option_map g o ≡ option_map g p
      → option_map g (cond b (Some x) o) ≡ option_map g (cond b (Some y) p)
  found_keep g true x y o p e f = ap Some e
  found_keep g false x y o p e f = f

  zip_found : {B : Type 0} (g : A → B) (t : A → Bool) (xs ys : List A) → ((x y : A) → R x y → t x ≡ t y) → ((x y : A) → R x y → g x ≡ g y) → AllZip R xs ys
      → option_map g (find t xs) ≡ option_map g (find t ys)
  zip_found g t [] [] h k z = refl
  zip_found g t [] (y ∷ ys) h k z = absurd z
  zip_found g t (x ∷ xs) [] h k z = absurd z
  zip_found g t (x ∷ xs) (y ∷ ys) h k z =
      found_keep g (t x) x y (find t xs) (find t ys) (k x y z.0) (zip_found g t xs ys h k z.1)
      ∙ ap (λ (b : Bool). option_map g (cond b (Some y) (find t ys))) (h x y z.0)

flat_map_same : {A B : Type 0} (f g : A → List B) (xs : List A) → ((x : A) → f x ≡ g x) → flat_map f xs ≡ flat_map g xs
flat_map_same f g [] h = refl
flat_map_same f g (x ∷ xs) h = ap (λ l. l ++ flat_map f xs) (h x) ∙ ap (λ l. g x ++ l) (flat_map_same f g xs h)

-- ---- the order of a search's pages

module _ (tree : Tree) (b : Corners) (x y : Search) (predicate : x.predicate ≡ y.predicate) (on : (q : ℕ) → is_among x.on q ≡ is_among y.on q) where
  same_percolated : (here : Bool) (path : List ℕ) → percolated tree x b here path ≡ percolated tree y b here path
  same_percolated here [] = refl
  same_percolated here (p ∷ []) = refl
  same_percolated here (p ∷ q ∷ rest) =
      let e : Bool = here && lets_in_from y.predicate b q (page_at tree p) in
      ap (λ (z : Predicate). cond (here && lets_in_from z b q (page_at tree p)) (q ∷ []) [] ++ percolated tree x b (is_among x.on q || (here && lets_in_from z b q (page_at tree p))) (q ∷ rest)) predicate
      ∙ ap (λ (c : Bool). cond e (q ∷ []) [] ++ percolated tree x b (c || e) (q ∷ rest)) (on q)
      ∙ ap (λ (l : List ℕ). cond e (q ∷ []) [] ++ l) (same_percolated (is_among y.on q || e) (q ∷ rest))

  pub same_percolates : (path : List ℕ) → percolates tree x b path ≡ percolates tree y b path
  same_percolates [] = refl
  same_percolates (root ∷ rest) = ap (λ (c : Bool). percolated tree x b c (root ∷ rest)) (on root) ∙ same_percolated (is_among y.on root) (root ∷ rest)

module _ (tree : Tree) (d : Descent) where
  on_same : (x y : TreeSearch) → IsSameSearch x y → (q : ℕ) → is_among (x.search).on q ≡ is_among (y.search).on q
  on_same x y same q = any_alike (λ p. p == q) (x.search).on (y.search).on same.on same.on_back

  percolates_same : (x y : TreeSearch) → IsSameSearch x y → percolates tree x.search d.box d.path ≡ percolates tree y.search d.box d.path
  percolates_same x y same = same_percolates tree d.box x.search y.search same.predicate (on_same x y same) d.path

  tested_same : (x y : TreeSearch) → IsSameSearch x y → is_tested tree d.path d.box x.search ≡ is_tested tree d.path d.box y.search
  tested_same x y same =
      list_any-append (is_last d.path) (x.search).on (percolates tree x.search d.box d.path)
      ∙ ap (λ (l : List ℕ). list_any (is_last d.path) (x.search).on || list_any (is_last d.path) l) (percolates_same x y same)
      ∙ ap (λ (c : Bool). c || list_any (is_last d.path) (percolates tree y.search d.box d.path)) (any_alike (is_last d.path) (x.search).on (y.search).on same.on same.on_back)
      ∙ sym (list_any-append (is_last d.path) (y.search).on (percolates tree y.search d.box d.path))

  tests_same : (s : ℕ) (x y : TreeSearch) → IsSameSearch x y → tests tree d s x ≡ tests tree d s y
  tests_same s x y same =
      ap (λ (k : ℕ). not (k == s) && is_tested tree d.path d.box x.search) same.session
      ∙ ap (λ (c : Bool). not ((y.search).session == s) && c) (tested_same x y same)

  abbrev told_if : ℕ → ℕ → Bool → Option (ℕ × ℕ)
  told_if session q b = cond b (Some (session, q)) None

  told_same : (q : ℕ) (x y : TreeSearch) → IsSameSearch x y
      → told_if (x.search).session q (is_among (percolates tree x.search d.box d.path) q) ≡ told_if (y.search).session q (is_among (percolates tree y.search d.box d.path) q)
  told_same q x y same =
      ap (λ (l : List ℕ). told_if (x.search).session q (is_among l q)) (percolates_same x y same)
      ∙ ap (λ (k : ℕ). told_if k q (is_among (percolates tree y.search d.box d.path) q)) same.session

  as_on_same : (x y : TreeSearch) → IsSameSearch x y → as_on x ≡ as_on y
  as_on_same x y same =
      ap (λ (k : ℕ). record { session = k; predicate = (x.search).predicate }) same.session ∙ ap (λ (p : Predicate). record { session = (y.search).session; predicate = p }) same.predicate

  pub order_leaves : (xs ys : List TreeSearch) → AllZip IsSameSearch xs ys → PlaceAlike tree d xs ys
  order_leaves xs ys z =
      let tested : (s : ℕ) → AllZip IsSameSearch (tested_of tree d s xs) (tested_of tree d s ys) = λ s. zip_filter IsSameSearch (tests tree d s) xs ys (tests_same s) z in
      let satisfied : (s : ℕ) → AllZip IsSameSearch (satisfied_of tree d s xs) (satisfied_of tree d s ys) = λ s. zip_filter IsSameSearch (λ (x : TreeSearch). satisfies (x.search).predicate d.box)
      (tested_of tree d s xs) (tested_of tree d s ys) (λ x y same. ap (λ (p : Predicate). satisfies p d.box) same.predicate) (tested s) in
      record {
        percolating_is = flat_map_same (percolated_to tree d xs) (percolated_to tree d ys) d.path (λ q. zip_filter_map IsSameSearch
            (λ (x : TreeSearch). cond (is_among (percolates tree x.search d.box d.path) q) (Some ((x.search).session, q)) None) xs ys (told_same q) z);
        tested_is = λ s. zip_length IsSameSearch (tested_of tree d s xs) (tested_of tree d s ys) (tested s);
        in_the_way_is = λ s. filter_map_members (first_of_session (satisfied_of tree d s xs)) (first_of_session (satisfied_of tree d s ys)) session_numbers
            (λ k h. zip_found IsSameSearch as_on (λ (x : TreeSearch). (x.search).session == k) (satisfied_of tree d s xs) (satisfied_of tree d s ys)
            (λ x y same. ap (λ (n : ℕ). n == k) same.session) as_on_same (satisfied s));
      }

-- ---- searches of other trees

kept_option : {A B : Type 0} (f : A → Option B) (b : Bool) (x : A) (xs : List A) (all : List B) → (b ≡ false → f x ≡ None) → all ≡ filter_map f xs
    → cons_option (f x) all ≡ filter_map f (cond b (x ∷ xs) xs)
kept_option f true x xs all h e = ap (λ l. cons_option (f x) l) e
kept_option f false x xs all h e = ap (λ o. cons_option o all) (h refl) ∙ e

filter_map_kept : {A B : Type 0} (f : A → Option B) (t : A → Bool) (xs : List A) → ((x : A) → Has xs x → t x ≡ false → f x ≡ None) → filter_map f xs ≡ filter_map f (filter t xs)
filter_map_kept f t [] h = refl
filter_map_kept f t (x ∷ xs) h = kept_option f (t x) x (filter t xs) (filter_map f xs) (h x (inl refl)) (filter_map_kept f t xs (λ y k. h y (inr k)))

kept_cond : {A : Type 0} (s : A → Bool) (b : Bool) (x : A) (xs all : List A) → (b ≡ false → s x ≡ false) → all ≡ filter s xs → cond (s x) (x ∷ all) all ≡ filter s (cond b (x ∷ xs) xs)
kept_cond s true x xs all h e = ap (λ l. cond (s x) (x ∷ l) l) e
kept_cond s false x xs all h e = ap (λ (c : Bool). cond c (x ∷ all) all) (h refl) ∙ e

filter_kept : {A : Type 0} (s t : A → Bool) (xs : List A) → ((x : A) → Has xs x → t x ≡ false → s x ≡ false) → filter s xs ≡ filter s (filter t xs)
filter_kept s t [] h = refl
filter_kept s t (x ∷ xs) h = kept_cond s (t x) x (filter t xs) (filter s xs) (h x (inl refl)) (filter_kept s t xs (λ y k. h y (inr k)))

module _ (tree : Tree) (b : Corners) (x : Search) where
  none_percolated : (path : List ℕ) → ((q : ℕ) → Has path q → is_among x.on q ≡ false) → percolated tree x b false path ≡ []
  none_percolated [] off = refl
  none_percolated (p ∷ []) off = refl
  none_percolated (p ∷ q ∷ rest) off =
      ap (λ (c : Bool). percolated tree x b (c || false) (q ∷ rest)) (off q (inr (inl refl))) ∙ none_percolated (q ∷ rest) (λ r h. off r (inr h))

  none_percolates : (path : List ℕ) → ((q : ℕ) → Has path q → is_among x.on q ≡ false) → percolates tree x b path ≡ []
  none_percolates [] off = refl
  none_percolates (root ∷ rest) off = ap (λ (c : Bool). percolated tree x b c (root ∷ rest)) (off root (inl refl)) ∙ none_percolated (root ∷ rest) off

last_has : (path : List ℕ) (q : ℕ) → is_last path q ≡ true → Has path q
last_has [] q e = let never : ⊥ = cc in absurd never
last_has (p ∷ []) q e = inl (eqb-true p q e)
last_has (p ∷ r ∷ rest) q e = inr (last_has (r ∷ rest) q e)

not_true : (b : Bool) → (b ≡ true → ⊥) → b ≡ false
not_true true h = absurd (h refl)
not_true false h = refl

and_false : (b : Bool) → (b && false) ≡ false
and_false true = refl
and_false false = refl

pub others_stay_out : (tree : Tree) (d : Descent) (searches : List TreeSearch)
    → ((x : TreeSearch) (q : ℕ) → Has searches x → is_of_tree d.table d.column x ≡ false → Has d.path q → Has (x.search).on q → ⊥)
    → PlaceAlike tree d searches (searches_of searches d)
others_stay_out tree d searches out =
    let of_tree : TreeSearch → Bool = is_of_tree d.table d.column in
    let off : (x : TreeSearch) → Has searches x → of_tree x ≡ false → percolates tree x.search d.box d.path ≡ [] =
    λ x has other. none_percolates tree d.box x.search d.path (λ q h. not_true (is_among (x.search).on q) (λ e. out x q has other h (among_has (x.search).on q e))) in
    let untested : (x : TreeSearch) → Has searches x → of_tree x ≡ false → is_tested tree d.path d.box x.search ≡ false =
    λ x has other. (list_any-append (is_last d.path) (x.search).on (percolates tree x.search d.box d.path)
    ∙ ap (λ (l : List ℕ). list_any (is_last d.path) (x.search).on || list_any (is_last d.path) l) (off x has other)
    ∙ ap (λ (c : Bool). c || false) (not_true (list_any (is_last d.path) (x.search).on) (λ e.
    (let r : (q : ℕ) × Has (x.search).on q × (is_last d.path q ≡ true) = any_has (is_last d.path) (x.search).on e in out x r.0 has other (last_has d.path r.0 r.2) r.1)))) in
    let tested : (s : ℕ) → tested_of tree d s searches ≡ tested_of tree d s (searches_of searches d) = λ s. filter_kept (tests tree d s) of_tree searches
    (λ x has other. ap (λ (c : Bool). not ((x.search).session == s) && c) (untested x has other) ∙ and_false (not ((x.search).session == s))) in
    record {
      percolating_is = flat_map_same (percolated_to tree d searches) (percolated_to tree d (searches_of searches d)) d.path (λ q. filter_map_kept
          (λ (x : TreeSearch). cond (is_among (percolates tree x.search d.box d.path) q) (Some ((x.search).session, q)) None) of_tree searches
          (λ x has other. ap (λ (l : List ℕ). cond (is_among l q) (Some ((x.search).session, q)) None) (off x has other)));
      tested_is = λ s. ap (λ (l : List TreeSearch). length l) (tested s);
      in_the_way_is = λ s. ap (λ (l : List TreeSearch). filter_map (first_of_session (filter (λ (x : TreeSearch). satisfies (x.search).predicate d.box) l)) session_numbers) (tested s);
    }

-- ---- copies

has_cond : (c : Bool) (on : List ℕ) (q r : ℕ) → (c ≡ true → Has on q) → Has (on ++ q ∷ []) r → Has (cond c on (on ++ q ∷ [])) r
has_cond true on q r there h = elim (Has-append on (q ∷ []) r h) [
  | inl k ↦ k
  | inr last ↦ elim last [ inl same ↦ subst (λ (k : ℕ). Has on k) same (there refl) | inr none ↦ absurd none ]
]
has_cond false on q r there h = h

cond_has : (c : Bool) (on : List ℕ) (q r : ℕ) → Has (cond c on (on ++ q ∷ [])) r → Has (on ++ q ∷ []) r
cond_has true on q r h = Has-append_left on (q ∷ []) r h
cond_has false on q r h = h

has_over : (xs ys : List ℕ) (q r : ℕ) → ((k : ℕ) → Has xs k → Has ys k) → Has (xs ++ q ∷ []) r → Has (ys ++ q ∷ []) r
has_over xs ys q r f h = elim (Has-append xs (q ∷ []) r h) [
  | inl k ↦ Has-append_left ys (q ∷ []) r (f r k)
  | inr last ↦ Has-append_right ys (q ∷ []) r last
]

pub copies_alike : (p q : ℕ) (box : Corners) (x : HeldSearch) (y : Search) (stack : List (ℕ × ℕ)) (found : List ℤ) → IsLike (search_of x stack found) y
    → IsLike (search_of (copied_on p q box x) stack found) (copied p q box y)
copies_alike p q box x y stack found like =
    let same : is_copied p box x ≡ (is_among y.on p && may_hold y.predicate box) =
    ap (λ (c : Bool). c && may_hold (x.sought).predicate box) (any_alike (λ k. k == p) x.on y.on like.on like.on_back)
    ∙ ap (λ (z : Predicate). is_among y.on p && may_hold z box) like.predicate in
    subst (λ (c : Bool). IsLike (search_of (copied_on p q box x) stack found) (record y { on = cond c (y.on ++ q ∷ []) y.on })) same (by (is_copied p box x))
  where
    by : (c : Bool) → IsLike (search_of (cond c (with_page q x) x) stack found) (record y { on = cond c (y.on ++ q ∷ []) y.on })
    by true = record {
      session = like.session;
      statement = like.statement;
      predicate = like.predicate;
      stack = like.stack;
      on = λ r h. has_over x.on y.on q r like.on (cond_has (is_among x.on q) x.on q r h);
      on_back = λ r h. has_cond (is_among x.on q) x.on q r (among_has x.on q) (has_over y.on x.on q r like.on_back h);
      found = like.found;
      found_back = like.found_back;
    }
    by false = record {
      session = like.session;
      statement = like.statement;
      predicate = like.predicate;
      stack = like.stack;
      on = like.on;
      on_back = like.on_back;
      found = like.found;
      found_back = like.found_back;
    }
