-- Leaves that are gone over one after another, and the unmarked rows on them.
use Rattle.std.proofs.Common.{◌≡◌, ◌⊎◌, ◌∙◌, inl, inr, refl, sym, ap, subst, ℕ, ℤ, ◌==◌, ◌&&◌, ◌||◌, not, cond, Bool, true, false, Option, Some, None, List, [], ◌∷◌, ◌++◌, map, eqb-true, eq-eqb}
use Rattle.std.specs.Prelude.{filter, flat_map, int_lt}
use Rattle.std.specs.List.{cons_option}
use Rattle.std.specs.Ordering.{int_eq}
use Rattle.std.proofs.lemmas.Bool.{false≢true, and_parts, or_right}
use Rattle.std.proofs.lemmas.Grind.{flat_map-append}
use Rattle.std.proofs.lemmas.List.{append-nil, map-append}
use Rattle.std.proofs.lemmas.List.Elements.{filter_map-append}
use Rattle.isp_base.specs.Lists.{Has}
use Rattle.isp_laws.proofs.ListLaws.{Has-append_left}
use Rattle.isp_plain.specs.declared.value.Row.{Row}
use Rattle.isp_forest.specs.Steps.{is_among}
use Rattle.isp_events.specs.Stored.{KeptRow, Leaf, first_leaf, leaf_after, leaf_behind, row_of, row_with_key, unmarked, version_of}
use Rattle.isp_events.specs.Reading.{as_read, rows_in}
use Rattle.isp_events.specs.Writing.{are_apart, ascend}
use Rattle.isp_events.specs.Purging.{leaf_without}
use Rattle.isp_order.specs.Work.{leaves_scanned, leaves_through}
use Rattle.isp_order.proofs.RowLaws.{ascend_rest, first_least, key_is, rows_left}
use Rattle.isp_order_work.proofs.WorkParts.{none_some, some_is}

abbrev pub rows_on : List Leaf → List (ℤ × KeptRow)
rows_on leaves = flat_map (λ (leaf : Leaf). leaf.rows) leaves

-- what is read on these leaves
abbrev pub read_on : List Leaf → List (ℤ × Option Row)
read_on leaves = map as_read (unmarked (rows_on leaves))

pub read_append : (leaves : List Leaf) (leaf : Leaf) → read_on (leaves ++ leaf ∷ []) ≡ read_on leaves ++ map as_read (rows_in leaf)
read_append leaves leaf =
    ap (λ rows. map as_read (unmarked rows)) (flat_map-append (λ (x : Leaf). x.rows) leaves (leaf ∷ []) ∙ ap (λ rows. rows_on leaves ++ rows) (append-nil leaf.rows))
    ∙ ap (λ rows. map as_read rows) (filter_map-append (λ e. row_with_key e.0 (row_of (version_of e.1))) (rows_on leaves) leaf.rows)
    ∙ map-append as_read (unmarked (rows_on leaves)) (unmarked leaf.rows)

-- ---- the next leaf

has_page : (leaves : List Leaf) (leaf : Leaf) → Has leaves leaf → is_among (map (λ (x : Leaf). x.page) leaves) leaf.page ≡ true
has_page [] leaf h = absurd h
has_page (x ∷ leaves) leaf (inl e) =
    let same : (x.page == leaf.page) ≡ true = eq-eqb x.page leaf.page (ap (λ (y : Leaf). y.page) e) in
    ap (λ b. b || is_among (map (λ (y : Leaf). y.page) leaves) leaf.page) same
has_page (x ∷ leaves) leaf (inr h) = or_right (x.page == leaf.page) (is_among (map (λ (y : Leaf). y.page) leaves) leaf.page) (has_page leaves leaf h)

-- a leaf has another page than each behind it
page_apart : (x : Leaf) (leaves : List Leaf) (leaf : Leaf) → are_apart (map (λ (y : Leaf). y.page) (x ∷ leaves)) ≡ true → Has leaves leaf → (x.page == leaf.page) ≡ false
page_apart x leaves leaf apart h = by_test (x.page == leaf.page) refl
  where
    no_both : (b : Bool) → b ≡ true → not b ≡ true → ⊥
    no_both true e f = false≢true f
    no_both false e f = false≢true e

    by_test : (b : Bool) → (x.page == leaf.page) ≡ b → b ≡ false
    by_test true e =
        absurd (no_both (is_among (map (λ (y : Leaf). y.page) leaves) x.page)
        (subst (λ p. is_among (map (λ (y : Leaf). y.page) leaves) p ≡ true) (sym (eqb-true x.page leaf.page e)) (has_page leaves leaf h))
        (and_parts (not (is_among (map (λ (y : Leaf). y.page) leaves) x.page)) (are_apart (map (λ (y : Leaf). y.page) leaves)) apart).0)
    by_test false e = refl

rest_apart : (x : Leaf) (leaves : List Leaf) → are_apart (map (λ (y : Leaf). y.page) (x ∷ leaves)) ≡ true → are_apart (map (λ (y : Leaf). y.page) leaves) ≡ true
rest_apart x leaves apart = (and_parts (not (is_among (map (λ (y : Leaf). y.page) leaves) x.page)) (are_apart (map (λ (y : Leaf). y.page) leaves)) apart).1

through_first : (leaves : List Leaf) (leaf : Leaf) → first_leaf leaves ≡ Some leaf → leaves_through leaves leaf.page ≡ leaf ∷ []
through_first [] leaf h = absurd (none_some leaf h)
through_first (x ∷ leaves) leaf h =
    let is : x ≡ leaf = some_is x leaf h in
    let same : (x.page == leaf.page) ≡ true = eq-eqb x.page leaf.page (ap (λ (y : Leaf). y.page) is) in
    ap (λ b. x ∷ cond b [] (leaves_through leaves leaf.page)) same ∙ ap (λ y. y ∷ []) is

first_has : (leaves : List Leaf) (leaf : Leaf) → first_leaf leaves ≡ Some leaf → Has leaves leaf
first_has [] leaf h = absurd (none_some leaf h)
first_has (x ∷ leaves) leaf h = inl (some_is x leaf h)

behind_has : (leaves : List Leaf) (page : ℕ) (leaf : Leaf) → leaf_behind leaves page ≡ Some leaf → Has leaves leaf
behind_has [] page leaf h = absurd (none_some leaf h)
behind_has (x ∷ leaves) page leaf h = by_test (x.page == page) (behind_has leaves page leaf) h
  where
    by_test : (b : Bool) → (leaf_behind leaves page ≡ Some leaf → Has leaves leaf) → cond b (first_leaf leaves) (leaf_behind leaves page) ≡ Some leaf → Has (x ∷ leaves) leaf
    by_test true again k = inr (first_has leaves leaf k)
    by_test false again k = inr (again k)

through_behind : (leaves : List Leaf) (page : ℕ) (leaf : Leaf) → are_apart (map (λ (y : Leaf). y.page) leaves) ≡ true → leaf_behind leaves page ≡ Some leaf
    → leaves_through leaves leaf.page ≡ leaves_through leaves page ++ leaf ∷ []
through_behind [] page leaf apart h = absurd (none_some leaf h)
through_behind (x ∷ leaves) page leaf apart h = by_test (x.page == page) (through_behind leaves page leaf (rest_apart x leaves apart)) h
  where
    past : Has leaves leaf → x ∷ cond (x.page == leaf.page) [] (leaves_through leaves leaf.page) ≡ x ∷ leaves_through leaves leaf.page
    past k = ap (λ b. x ∷ cond b [] (leaves_through leaves leaf.page)) (page_apart x leaves leaf apart k)

    by_test : (b : Bool) → (leaf_behind leaves page ≡ Some leaf → leaves_through leaves leaf.page ≡ leaves_through leaves page ++ leaf ∷ [])
        → cond b (first_leaf leaves) (leaf_behind leaves page) ≡ Some leaf
        → x ∷ cond (x.page == leaf.page) [] (leaves_through leaves leaf.page) ≡ (x ∷ cond b [] (leaves_through leaves page)) ++ leaf ∷ []
    by_test true again k = past (first_has leaves leaf k) ∙ ap (λ ls. x ∷ ls) (through_first leaves leaf k)
    by_test false again k = past (behind_has leaves page leaf k) ∙ ap (λ ls. x ∷ ls) (again k)

-- the leaf that is next is one leaf more
pub scanned_next : (leaves : List Leaf) (last : Option ℕ) (leaf : Leaf) → are_apart (map (λ (y : Leaf). y.page) leaves) ≡ true → leaf_after leaves last ≡ Some leaf
    → leaves_scanned leaves (Some leaf.page) ≡ leaves_scanned leaves last ++ leaf ∷ []
scanned_next leaves None leaf apart h = through_first leaves leaf h
scanned_next leaves (Some page) leaf apart h = through_behind leaves page leaf apart h

-- ---- keys of leaves gone over rise

-- the leaves gone over are the first of all
pub record IsFront (leaves part : List Leaf) : Type 0 where
  pub rest : List Leaf
  pub all : part ++ rest ≡ leaves

through_front : (leaves : List Leaf) (page : ℕ) → IsFront leaves (leaves_through leaves page)
through_front [] page = record { rest = []; all = refl }
through_front (x ∷ leaves) page = by_test (x.page == page) (through_front leaves page)
  where
    by_test : (b : Bool) → IsFront leaves (leaves_through leaves page) → IsFront (x ∷ leaves) (x ∷ cond b [] (leaves_through leaves page))
    by_test true f = record { rest = leaves; all = refl }
    by_test false f = record { rest = f.rest; all = ap (λ ls. x ∷ ls) f.all }

pub scanned_front : (leaves : List Leaf) (last : Option ℕ) → IsFront leaves (leaves_scanned leaves last)
scanned_front leaves None = record { rest = leaves; all = refl }
scanned_front leaves (Some page) = through_front leaves page

front_ascends : (keys more : List ℤ) → ascend (keys ++ more) ≡ true → ascend keys ≡ true
front_ascends [] more up = refl
front_ascends (k ∷ []) more up = refl
front_ascends (k ∷ l ∷ keys) more up =
    let parts = and_parts (int_lt k l) (ascend (l ∷ keys ++ more)) up in
    let rest : ascend (l ∷ keys) ≡ true = front_ascends (l ∷ keys) more parts.1 in
    ap (λ b. b && ascend (l ∷ keys)) parts.0 ∙ rest

pub cons_ascends : (k : ℤ) (keys : List ℤ) → ((j : ℤ) → Has keys j → int_lt k j ≡ true) → ascend keys ≡ true → ascend (k ∷ keys) ≡ true
cons_ascends k [] less up = refl
cons_ascends k (l ∷ keys) less up = ap (λ b. b && ascend (l ∷ keys)) (less l (inl refl)) ∙ up

read_keys : (rows : List (ℤ × KeptRow)) (j : ℤ) → Has (map (λ r. r.0) (map as_read (unmarked rows))) j → Has (map (λ e. e.0) rows) j
read_keys [] j h = absurd h
read_keys (e ∷ rows) j h = by_row (row_of (version_of e.1)) (read_keys rows j) h
  where
    by_row : (r : Option Row) → (Has (map (λ x. x.0) (map as_read (unmarked rows))) j → Has (map (λ x. x.0) rows) j)
        → Has (map (λ x. x.0) (map as_read (cons_option (row_with_key e.0 r) (unmarked rows)))) j → (e.0 ≡ j) ⊎ Has (map (λ x. x.0) rows) j
    by_row None again k = inr (again k)
    by_row (Some row) again (inl i) = inl i
    by_row (Some row) again (inr k) = inr (again k)

pub read_ascends : (rows : List (ℤ × KeptRow)) → ascend (map (λ e. e.0) rows) ≡ true → ascend (map (λ r. r.0) (map as_read (unmarked rows))) ≡ true
read_ascends [] up = refl
read_ascends (e ∷ rows) up = by_row (row_of (version_of e.1)) (read_ascends rows (ascend_rest e.0 (map (λ x. x.0) rows) up))
  where
    by_row : (r : Option Row) → ascend (map (λ x. x.0) (map as_read (unmarked rows))) ≡ true
        → ascend (map (λ x. x.0) (map as_read (cons_option (row_with_key e.0 r) (unmarked rows)))) ≡ true
    by_row None again = again
    by_row (Some row) again =
        cons_ascends e.0 (map (λ x. x.0) (map as_read (unmarked rows))) (λ j h. first_least e.0 (map (λ x. x.0) rows) j up (read_keys rows j h)) again

pub front_rises : (leaves part : List Leaf) → IsFront leaves part → ascend (map (λ e. e.0) (rows_on leaves)) ≡ true → ascend (map (λ e. e.0) (rows_on part)) ≡ true
front_rises leaves part f up =
    front_ascends (map (λ e. e.0) (rows_on part)) (map (λ e. e.0) (rows_on f.rest))
    (ap ascend (sym (map-append (λ e. e.0) (rows_on part) (rows_on f.rest)) ∙ ap (λ rows. map (λ e. e.0) rows) (sym (flat_map-append (λ (x : Leaf). x.rows) part f.rest) ∙ ap rows_on f.all)) ∙ up)

pub front_has : (leaves part : List Leaf) (e : ℤ × KeptRow) → IsFront leaves part → Has (rows_on part) e → Has (rows_on leaves) e
front_has leaves part e f h =
    subst (λ ls. Has (rows_on ls) e) f.all (subst (λ rows. Has rows e) (sym (flat_map-append (λ (x : Leaf). x.rows) part f.rest)) (Has-append_left (rows_on part) (rows_on f.rest) e h))

-- ---- a purge takes no row that is read

shows_none : (kept : KeptRow) → kept.mark ≡ true → row_of (version_of kept) ≡ None
shows_none kept h = ap (λ b. row_of (cond b None (Some (record { row = kept.row; numbers = kept.numbers })))) h

pub purged_same : (key : ℤ) (rows : List (ℤ × KeptRow)) → ((e : ℤ × KeptRow) → Has rows e → e.0 ≡ key → e.1.mark ≡ true) → unmarked (filter (λ e. not (int_eq e.0 key)) rows) ≡ unmarked rows
purged_same key [] all = refl
purged_same key (e ∷ rows) all = by_key (int_eq e.0 key) refl (purged_same key rows (λ x h. all x (inr h)))
  where
    by_key : (b : Bool) → int_eq e.0 key ≡ b → unmarked (filter (λ x. not (int_eq x.0 key)) rows) ≡ unmarked rows
        → unmarked (cond (not b) (e ∷ filter (λ x. not (int_eq x.0 key)) rows) (filter (λ x. not (int_eq x.0 key)) rows)) ≡ cons_option (row_with_key e.0 (row_of (version_of e.1))) (unmarked rows)
    by_key true is again = again ∙ ap (λ r. cons_option (row_with_key e.0 r) (unmarked rows)) (sym (shows_none e.1 (all e (inl refl) (key_is e.0 key is))))
    by_key false is again = ap (λ xs. cons_option (row_with_key e.0 (row_of (version_of e.1))) xs) again

through_without : (key : ℤ) (leaves : List Leaf) (page : ℕ) → leaves_through (map (leaf_without key) leaves) page ≡ map (leaf_without key) (leaves_through leaves page)
through_without key [] page = refl
through_without key (x ∷ leaves) page = by_test (x.page == page) (through_without key leaves page)
  where
    by_test : (b : Bool) → leaves_through (map (leaf_without key) leaves) page ≡ map (leaf_without key) (leaves_through leaves page)
        → leaf_without key x ∷ cond b [] (leaves_through (map (leaf_without key) leaves) page) ≡ map (leaf_without key) (x ∷ cond b [] (leaves_through leaves page))
    by_test true again = refl
    by_test false again = ap (λ ls. leaf_without key x ∷ ls) again

pub scanned_without : (key : ℤ) (leaves : List Leaf) (last : Option ℕ) → leaves_scanned (map (leaf_without key) leaves) last ≡ map (leaf_without key) (leaves_scanned leaves last)
scanned_without key leaves None = refl
scanned_without key leaves (Some page) = through_without key leaves page

-- the leaves gone over show the same rows without a marked row
pub purged_read : (key : ℤ) (leaves : List Leaf) (last : Option ℕ) → ((e : ℤ × KeptRow) → Has (rows_on leaves) e → e.0 ≡ key → e.1.mark ≡ true)
    → read_on (leaves_scanned (map (leaf_without key) leaves) last) ≡ read_on (leaves_scanned leaves last)
purged_read key leaves last all =
    ap read_on (scanned_without key leaves last)
    ∙ ap (λ rows. map as_read (unmarked rows)) (rows_left key (leaves_scanned leaves last))
    ∙ ap (λ rows. map as_read rows) (purged_same key (rows_on (leaves_scanned leaves last)) (λ e h is. all e (front_has leaves (leaves_scanned leaves last) e (scanned_front leaves last) h) is))
