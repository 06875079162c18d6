-- Pages of leaves, and keys that rise, after a row was put, changed in its slot, or purged.
use Rattle.std.proofs.Common.{◌≡◌, ◌⊎◌, ◌∙◌, inl, inr, refl, sym, ap, subst, ℕ, ℤ, ◌==◌, ◌&&◌, not, cond, Bool, true, false, List, [], ◌∷◌, ◌++◌, Option, Some, None, map, eqb-true}
use Rattle.std.specs.Prelude.{filter, flat_map, int_lt}
use Rattle.std.specs.List.{list_all}
use Rattle.std.specs.Ordering.{int_eq}
use Rattle.std.proofs.lemmas.Bool.{and_parts}
use Rattle.isp_base.specs.Lists.{Has}
use Rattle.isp_laws.proofs.ListLaws.{Has-append_left, Has-append_right, Has-filter, Has-map, Has-map_of, Source}
use Rattle.isp_leaf_laws.proofs.PathLaws.{never_among, not_among}
use Rattle.isp_forest.specs.Steps.{is_among}
use Rattle.isp_event_laws.proofs.ListTests.{not_is}
use Rattle.isp_events.specs.Stored.{KeptRow, Leaf, StoredTable, change_row, changed_at_key, keys_of_leaves, pages_of}
use Rattle.isp_events.specs.State.{State, is_free, used, with_option}
use Rattle.isp_events.specs.Writing.{Put, are_apart, ascend, leaves_after_put, moved_leaves, pages_putting, parts_of, put_in, with_right, with_row_in}
use Rattle.isp_events.specs.Purging.{leaf_without}
use Rattle.isp_order.proofs.RowLaws.{ascend_rest, first_least, rows_changed, rows_left}

-- ---- numbers that differ

pub apart_cons : (q : ℕ) (pages : List ℕ) → (Has pages q → ⊥) → are_apart pages ≡ true → are_apart (q ∷ pages) ≡ true
apart_cons q pages new apart =
    let none : is_among pages q ≡ false = not_among pages q new in
    ap (λ b. not b && are_apart pages) none ∙ apart

pub apart_head : (q : ℕ) (pages : List ℕ) → are_apart (q ∷ pages) ≡ true → Has pages q → ⊥
apart_head q pages apart = never_among pages q (not_is (is_among pages q) (and_parts (not (is_among pages q)) (are_apart pages) apart).0)

pub apart_rest : (q : ℕ) (pages : List ℕ) → are_apart (q ∷ pages) ≡ true → are_apart pages ≡ true
apart_rest q pages apart = (and_parts (not (is_among pages q)) (are_apart pages) apart).1

-- ---- pages of leaves

abbrev pub leaf_pages : List Leaf → List ℕ
leaf_pages leaves = map (λ (leaf : Leaf). leaf.page) leaves

-- the page of the right part of the leaf that was divided
pub record IsRightPage (p : Put) (leaves : List Leaf) (q : ℕ) : Type 0 where
  pub d : ℕ × ℕ
  pub divided : p.divided ≡ Some d
  pub is : q ≡ d.0
  pub among : Has (leaf_pages leaves) p.leaf

later_page : (p : Put) (leaves : List Leaf) (x : Leaf) (q : ℕ) → Has (leaf_pages leaves) q ⊎ IsRightPage p leaves q → Has (leaf_pages (x ∷ leaves)) q ⊎ IsRightPage p (x ∷ leaves) q
later_page p leaves x q (inl h) = inl (inr h)
later_page p leaves x q (inr r) = inr (record { d = r.d; divided = r.divided; is = r.is; among = inr r.among })

module _ (p : Put) (key : ℤ) (kept : KeptRow) where
  put_page : (leaves : List Leaf) (q : ℕ) → Has (leaf_pages (flat_map (put_in p key kept) leaves)) q → Has (leaf_pages leaves) q ⊎ IsRightPage p leaves q
  put_page [] q h = absurd h
  put_page (x ∷ leaves) q h = by_test (x.page == p.leaf) refl (put_page leaves q) h
    where
      by_parts : (o : Option (ℕ × ℕ)) → p.divided ≡ o → (x.page == p.leaf) ≡ true
          → (Has (leaf_pages (flat_map (put_in p key kept) leaves)) q → Has (leaf_pages leaves) q ⊎ IsRightPage p leaves q)
          → Has (leaf_pages (parts_of o (with_row_in key kept x) ++ flat_map (put_in p key kept) leaves)) q → Has (leaf_pages (x ∷ leaves)) q ⊎ IsRightPage p (x ∷ leaves) q
      by_parts None is e again (inl same) = inl (inl same)
      by_parts None is e again (inr k) = later_page p leaves x q (again k)
      by_parts (Some d) is e again (inl same) = inl (inl same)
      by_parts (Some d) is e again (inr (inl same)) = inr (record { d = d; divided = is; is = sym same; among = inl (eqb-true x.page p.leaf e) })
      by_parts (Some d) is e again (inr (inr k)) = later_page p leaves x q (again k)

      by_test : (t : Bool) → (x.page == p.leaf) ≡ t
          → (Has (leaf_pages (flat_map (put_in p key kept) leaves)) q → Has (leaf_pages leaves) q ⊎ IsRightPage p leaves q)
          → Has (leaf_pages (cond t (parts_of p.divided (with_row_in key kept x)) (x ∷ []) ++ flat_map (put_in p key kept) leaves)) q
          → Has (leaf_pages (x ∷ leaves)) q ⊎ IsRightPage p (x ∷ leaves) q
      by_test true e again k = by_parts p.divided refl e again k
      by_test false e again (inl same) = inl (inl same)
      by_test false e again (inr k) = later_page p leaves x q (again k)

  put_apart : (leaves : List Leaf) → are_apart (leaf_pages leaves) ≡ true → ((d : ℕ × ℕ) → p.divided ≡ Some d → Has (leaf_pages leaves) d.0 → ⊥)
      → are_apart (leaf_pages (flat_map (put_in p key kept) leaves)) ≡ true
  put_apart [] apart new = refl
  put_apart (x ∷ leaves) apart new =
      by_test (x.page == p.leaf) refl (put_apart leaves (apart_rest x.page (leaf_pages leaves) apart) (λ d is h. new d is (inr h)))
    where
      not_head : Has (leaf_pages leaves) x.page ⊎ IsRightPage p leaves x.page → ⊥
      not_head (inl h) = apart_head x.page (leaf_pages leaves) apart h
      not_head (inr r) = new r.d r.divided (inl r.is)

      not_right : (d : ℕ × ℕ) → p.divided ≡ Some d → (x.page == p.leaf) ≡ true → Has (leaf_pages leaves) d.0 ⊎ IsRightPage p leaves d.0 → ⊥
      not_right d is e (inl h) = new d is (inr h)
      not_right d is e (inr r) = apart_head x.page (leaf_pages leaves) apart (subst (λ q. Has (leaf_pages leaves) q) (sym (eqb-true x.page p.leaf e)) r.among)

      by_parts : (o : Option (ℕ × ℕ)) → p.divided ≡ o → (x.page == p.leaf) ≡ true → are_apart (leaf_pages (flat_map (put_in p key kept) leaves)) ≡ true
          → are_apart (leaf_pages (parts_of o (with_row_in key kept x) ++ flat_map (put_in p key kept) leaves)) ≡ true
      by_parts None is e again = apart_cons x.page (leaf_pages (flat_map (put_in p key kept) leaves)) (λ h. not_head (put_page leaves x.page h)) again
      by_parts (Some d) is e again =
          apart_cons x.page (d.0 ∷ leaf_pages (flat_map (put_in p key kept) leaves))
          (λ h. elim h [ inl same ↦ new d is (inl (sym same)) | inr k ↦ not_head (put_page leaves x.page k) ])
          (apart_cons d.0 (leaf_pages (flat_map (put_in p key kept) leaves)) (λ h. not_right d is e (put_page leaves d.0 h)) again)

      by_test : (t : Bool) → (x.page == p.leaf) ≡ t → are_apart (leaf_pages (flat_map (put_in p key kept) leaves)) ≡ true
          → are_apart (leaf_pages (cond t (parts_of p.divided (with_row_in key kept x)) (x ∷ []) ++ flat_map (put_in p key kept) leaves)) ≡ true
      by_test true e again = by_parts p.divided refl e again
      by_test false e again = apart_cons x.page (leaf_pages (flat_map (put_in p key kept) leaves)) (λ h. not_head (put_page leaves x.page h)) again

moved_apart : (moved : Option ℕ) (leaves : List Leaf) → are_apart (leaf_pages leaves) ≡ true → are_apart (leaf_pages (moved_leaves moved leaves)) ≡ true
moved_apart moved [] apart = refl
moved_apart moved (leaf ∷ []) apart = refl
moved_apart moved (leaf ∷ other ∷ leaves) apart = apart

moved_page : (moved : Option ℕ) (leaves : List Leaf) (q : ℕ) → Has (leaf_pages (moved_leaves moved leaves)) q → Has (leaf_pages leaves) q ⊎ (moved ≡ Some q)
moved_page moved [] q h = absurd h
moved_page None (leaf ∷ []) q h = inl h
moved_page (Some page) (leaf ∷ []) q (inl is) = inr (ap Some is)
moved_page (Some page) (leaf ∷ []) q (inr none) = absurd none
moved_page moved (leaf ∷ other ∷ leaves) q h = inl h

right_taken : (moved : Option ℕ) (divided : Option (ℕ × ℕ)) (d : ℕ × ℕ) (rest : List ℕ) → divided ≡ Some d → Has (with_option moved (with_right divided rest)) d.0
right_taken moved divided d rest is = subst (λ (o : Option (ℕ × ℕ)). Has (with_option moved (with_right o rest)) d.0) (sym is) (by_moved moved)
  where
    by_moved : (o : Option ℕ) → Has (with_option o (d.0 ∷ rest)) d.0
    by_moved None = inl refl
    by_moved (Some q) = inr (inl refl)

right_apart : (moved : Option ℕ) (divided : Option (ℕ × ℕ)) (d : ℕ × ℕ) (rest : List ℕ) → divided ≡ Some d → are_apart (with_option moved (with_right divided rest)) ≡ true → moved ≡ Some d.0 → ⊥
right_apart moved divided d rest is apart same =
    let one : are_apart (with_option moved (d.0 ∷ rest)) ≡ true = subst (λ (o : Option (ℕ × ℕ)). are_apart (with_option moved (with_right o rest)) ≡ true) is apart in
    let two : are_apart (d.0 ∷ d.0 ∷ rest) ≡ true = subst (λ (o : Option ℕ). are_apart (with_option o (d.0 ∷ rest)) ≡ true) same one in
    apart_head d.0 (d.0 ∷ rest) two (inl refl)

-- where the pages that are taken are none of the chain and differ, so do those after
pub put_leaves_apart : (p : Put) (key : ℤ) (kept : KeptRow) (leaves : List Leaf) → are_apart (leaf_pages leaves) ≡ true → are_apart (pages_putting p) ≡ true
    → ((q : ℕ) → Has (pages_putting p) q → Has (leaf_pages leaves) q → ⊥) → are_apart (leaf_pages (leaves_after_put p key kept leaves)) ≡ true
put_leaves_apart p key kept leaves apart taken new =
    put_apart p key kept (moved_leaves p.moved leaves) (moved_apart p.moved leaves apart)
    (λ d is h. elim (moved_page p.moved leaves d.0 h) [
      | inl old ↦ new d.0 (right_taken p.moved p.divided d (p.clustered ++ p.undo) is) old
      | inr same ↦ right_apart p.moved p.divided d (p.clustered ++ p.undo) is taken same
    ])

-- ---- pages that are free

all_pass : {X : Type 0} (t : X → Bool) (xs : List X) (x : X) → list_all t xs ≡ true → Has xs x → t x ≡ true
all_pass t [] x h k = absurd k
all_pass t (y ∷ xs) x h (inl same) = subst (λ z. t z ≡ true) same (and_parts (t y) (list_all t xs) h).0
all_pass t (y ∷ xs) x h (inr k) = all_pass t xs x (and_parts (t y) (list_all t xs) h).1 k

flat_has : {X Y : Type 0} (f : X → List Y) (xs : List X) (x : X) (y : Y) → Has xs x → Has (f x) y → Has (flat_map f xs) y
flat_has f [] x y h k = absurd h
flat_has {Y = Y} f (z ∷ xs) x y (inl same) k = Has-append_left (f z) (flat_map f xs) y (subst (λ w. Has (f w) y) (sym same) k)
flat_has f (z ∷ xs) x y (inr h) k = Has-append_right (f z) (flat_map f xs) y (flat_has f xs x y h k)

-- a page that is taken is on no chain
pub taken_new : (state : State) (pages : List ℕ) (table : StoredTable) → list_all (is_free state) pages ≡ true → Has state.tables table
    → (q : ℕ) → Has pages q → Has (leaf_pages table.leaves) q → ⊥
taken_new state pages table free there q h k =
    let one : is_free state q ≡ true = all_pass (is_free state) pages q free h in
    let two = and_parts _ _ one in
    let three = and_parts _ _ two.1 in
    never_among (used state) q (not_is (is_among (used state) q) three.1)
    (Has-append_left (flat_map pages_of state.tables) _ q (flat_has pages_of state.tables table q there (Has-append_left (leaf_pages table.leaves) _ q k)))

-- ---- a row that changes in its slot

pub row_pages : (key : ℤ) (f : KeptRow → KeptRow) (leaves : List Leaf) → leaf_pages (change_row key f leaves) ≡ leaf_pages leaves
row_pages key f [] = refl
row_pages key f (leaf ∷ leaves) = ap (λ pages. leaf.page ∷ pages) (row_pages key f leaves)

changed_keys : (key : ℤ) (f : KeptRow → KeptRow) (rows : List (ℤ × KeptRow)) → map (λ e. e.0) (changed_at_key key f rows) ≡ map (λ e. e.0) rows
changed_keys key f [] = refl
changed_keys key f (e ∷ rows) = ap (λ keys. e.0 ∷ keys) (changed_keys key f rows)

pub row_keys : (key : ℤ) (f : KeptRow → KeptRow) (leaves : List Leaf) → keys_of_leaves (change_row key f leaves) ≡ keys_of_leaves leaves
row_keys key f leaves = ap (λ (rows : List (ℤ × KeptRow)). map (λ e. e.0) rows) (rows_changed key f leaves) ∙ changed_keys key f (flat_map (λ (leaf : Leaf). leaf.rows) leaves)

-- ---- a row that is purged

pub without_pages : (key : ℤ) (leaves : List Leaf) → leaf_pages (map (leaf_without key) leaves) ≡ leaf_pages leaves
without_pages key [] = refl
without_pages key (leaf ∷ leaves) = ap (λ pages. leaf.page ∷ pages) (without_pages key leaves)

ascend_cons : (k : ℤ) (keys : List ℤ) → ((j : ℤ) → Has keys j → int_lt k j ≡ true) → ascend keys ≡ true → ascend (k ∷ keys) ≡ true
ascend_cons k [] less up = refl
ascend_cons k (l ∷ keys) less up = ap (λ b. b && ascend (l ∷ keys)) (less l (inl refl)) ∙ up

left_rise : (t : ℤ × KeptRow → Bool) (rows : List (ℤ × KeptRow)) → ascend (map (λ e. e.0) rows) ≡ true → ascend (map (λ e. e.0) (filter t rows)) ≡ true
left_rise t [] up = refl
left_rise t (e ∷ rows) up = by_test (t e) (left_rise t rows (ascend_rest e.0 (map (λ x. x.0) rows) up))
  where
    less : (j : ℤ) → Has (map (λ x. x.0) (filter t rows)) j → int_lt e.0 j ≡ true
    less j h =
        let s : Source {X = ℤ × KeptRow} (λ x. x.0) (filter t rows) j = Has-map {X = ℤ × KeptRow} (λ x. x.0) (filter t rows) j h in
        first_least e.0 (map (λ x. x.0) rows) j up
        (subst (λ k. Has (map (λ x. x.0) rows) k) s.is (Has-map_of {X = ℤ × KeptRow} (λ x. x.0) rows s.x (Has-filter t rows s.x s.has)))

    by_test : (b : Bool) → ascend (map (λ x. x.0) (filter t rows)) ≡ true → ascend (map (λ x. x.0) (cond b (e ∷ filter t rows) (filter t rows))) ≡ true
    by_test true again = ascend_cons e.0 (map (λ x. x.0) (filter t rows)) less again
    by_test false again = again

pub without_rises : (key : ℤ) (leaves : List Leaf) → ascend (keys_of_leaves leaves) ≡ true → ascend (keys_of_leaves (map (leaf_without key) leaves)) ≡ true
without_rises key leaves up =
    subst (λ (rows : List (ℤ × KeptRow)). ascend (map (λ e. e.0) rows) ≡ true) (sym (rows_left key leaves))
    (left_rise (λ e. not (int_eq e.0 key)) (flat_map (λ (leaf : Leaf). leaf.rows) leaves) up)
