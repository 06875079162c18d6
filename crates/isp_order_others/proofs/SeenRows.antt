-- Tables as they are seen, by key: where the row at each key is the same, so are the tables.
use Rattle.std.proofs.Common.{◌≡◌, ◌∙◌, ◌≤◌, ◌<◌, ◌+◌, inl, inr, refl, sym, ap, ℕ, ℤ, suc, ◌==◌, cond, Bool, true, false, Option, Some, None, List, [], ◌∷◌, ◌++◌, map, length, arith, eqb-true, eq-eqb}
use Rattle.std.specs.Prelude.{filter_map, int_lt}
use Rattle.std.specs.List.{cons_option}
use Rattle.std.specs.BTreeMap.{is_at}
use Rattle.std.specs.Ordering.{int_cmp}
use Rattle.std.specs.declared.cmp.Ordering.TheVariants.{Less, Equal, Greater}
use Rattle.std.proofs.lemmas.Bool.{false≢true}
use Rattle.isp_base.specs.Lists.{Has}
use Rattle.isp_laws.proofs.ListLaws.{Has-map_of}
use Rattle.isp_plain.specs.declared.value.Row.{Row}
use Rattle.isp_plain.specs.declared.value.Schema.{Schema}
use Rattle.isp_plain.specs.Tables.{Table}
use Rattle.isp_changes.specs.Rows.{AreRising, row_at}
use Rattle.isp_changes.specs.RowLaws.{HasRows}
use Rattle.isp_changes.proofs.RowProofs.{Above, if_not, if_so, no_rows, rising_first, same_at, same_key, same_rows}
use Rattle.isp_events.specs.Stored.{KeptRow, StoredTable, Version, keys_of_leaves, kept_at, row_of, row_with_key, rows_of, table_at, table_from}
use Rattle.isp_events.specs.Sessions.{session_at, was_there}
use Rattle.isp_events.specs.State.{State}
use Rattle.isp_events.specs.Views.{committed, committed_at, committed_row, seen_from, seen_rows}
use Rattle.isp_events.specs.Ways.{Machine}
use Rattle.isp_events.specs.Writing.{ascend}
use Rattle.isp_order.specs.Trees.{IsRestorable}
use Rattle.isp_order.specs.InOrder.{InOrder}
use Rattle.isp_order.proofs.RowLaws.{ascend_rest, first_least, lookup_has}
use Rattle.isp_order.proofs.TableLaws.{definition_at}
use Rattle.isp_order_trees.proofs.MissedLaws.{FromUndo, IsKept, committed_from, present_kept}

-- ---- rows by key

module _ (row : ℤ → Option Row) where
  abbrev shown : List (ℤ × KeptRow) → List (ℤ × Row)
  shown rows = filter_map (λ e. row_with_key e.0 (row e.0)) rows

  shown_above : (first : ℤ) (rows : List (ℤ × KeptRow)) → ((k : ℤ) → Has (map (λ e. e.0) rows) k → int_cmp first k ≡ Less) → Above first (shown rows)
  shown_above first [] h = tt
  shown_above first (e ∷ rows) h = by_row (row e.0) (shown_above first rows (λ k z. h k (inr z)))
    where
      by_row : (o : Option Row) → Above first (shown rows) → Above first (cons_option (row_with_key e.0 o) (shown rows))
      by_row None a = a
      by_row (Some r) a = (h e.0 (inl refl), a)

  less_of : (a b : ℤ) → int_lt a b ≡ true → int_cmp a b ≡ Less
  less_of a b h = ap (λ t. cond t Less (cond (int_lt b a) Greater Equal)) h

  pub shown_rises : (rows : List (ℤ × KeptRow)) → ascend (map (λ e. e.0) rows) ≡ true → AreRising (shown rows)
  shown_rises [] h = no_rows
  shown_rises (e ∷ rows) h = by_row (row e.0) (shown_rises rows (ascend_rest e.0 (map (λ p. p.0) rows) h))
    where
      by_row : (o : Option Row) → AreRising (shown rows) → AreRising (cons_option (row_with_key e.0 o) (shown rows))
      by_row None a = a
      by_row (Some r) a = rising_first (e.0, r) (shown rows) (shown_above e.0 rows (λ k z. less_of e.0 k (first_least e.0 (map (λ p. p.0) rows) k h z))) a

  shown_at : (rows : List (ℤ × KeptRow)) (k : ℤ) (r : Row) → Has (map (λ e. e.0) rows) k → row k ≡ Some r → row_at (shown rows) k ≡ Some r
  shown_at [] k r h is = absurd h
  shown_at (e ∷ rows) k r h is = by_key (is_at (int_cmp k) e.0) refl (λ z. shown_at rows k r z is)
    where
      by_key : (b : Bool) → is_at (int_cmp k) e.0 ≡ b → (Has (map (λ p. p.0) rows) k → row_at (shown rows) k ≡ Some r) → row_at (cons_option (row_with_key e.0 (row e.0)) (shown rows)) k ≡ Some r
      by_key true i again =
          let here : row e.0 ≡ Some r = ap row (sym (same_key k e.0 i)) ∙ is in
          ap (λ o. row_at (cons_option (row_with_key e.0 o) (shown rows)) k) here ∙ if_so (is_at (int_cmp k) e.0) (Some r) (row_at (shown rows) k) i
      by_key false i again = by_row (row e.0) (again (rest h))
        where
          rest : Has (e.0 ∷ map (λ p. p.0) rows) k → Has (map (λ p. p.0) rows) k
          rest (inr z) = z
          rest (inl same) = absurd (false≢true (sym i ∙ ap (λ j. is_at (int_cmp k) j) same ∙ same_at k))

          by_row : (o : Option Row) → row_at (shown rows) k ≡ Some r → row_at (cons_option (row_with_key e.0 o) (shown rows)) k ≡ Some r
          by_row None known = known
          by_row (Some x) known = if_not (is_at (int_cmp k) e.0) (Some x) (row_at (shown rows) k) i ∙ known

  shown_none : (rows : List (ℤ × KeptRow)) (k : ℤ) → row k ≡ None → row_at (shown rows) k ≡ None
  shown_none [] k is = refl
  shown_none (e ∷ rows) k is = by_key (is_at (int_cmp k) e.0) refl (shown_none rows k is)
    where
      by_key : (b : Bool) → is_at (int_cmp k) e.0 ≡ b → row_at (shown rows) k ≡ None → row_at (cons_option (row_with_key e.0 (row e.0)) (shown rows)) k ≡ None
      by_key true i again =
          let here : row e.0 ≡ None = ap row (sym (same_key k e.0 i)) ∙ is in
          ap (λ o. row_at (cons_option (row_with_key e.0 o) (shown rows)) k) here ∙ again
      by_key false i again = by_row (row e.0)
        where
          by_row : (o : Option Row) → row_at (cons_option (row_with_key e.0 o) (shown rows)) k ≡ None
          by_row None = again
          by_row (Some x) = if_not (is_at (int_cmp k) e.0) (Some x) (row_at (shown rows) k) i ∙ again

  -- where each row that is seen has a key that is kept
  pub shown_has : (rows : List (ℤ × KeptRow)) → ascend (map (λ e. e.0) rows) ≡ true → ((k : ℤ) (r : Row) → row k ≡ Some r → Has (map (λ e. e.0) rows) k) → HasRows (shown rows) row
  shown_has rows rising kept = record { rises = shown_rises rows rising; each = λ k. by_row k (row k) refl }
    where
      by_row : (k : ℤ) (o : Option Row) → row k ≡ o → row_at (filter_map (λ e. row_with_key e.0 (row e.0)) rows) k ≡ row k
      by_row k None is = shown_none rows k is ∙ sym is
      by_row k (Some r) is = shown_at rows k r (kept k r is) is ∙ sym is

pub shown_alike : (row other : ℤ → Option Row) (rows : List (ℤ × KeptRow)) → ((k : ℤ) → row k ≡ other k)
    → filter_map (λ e. row_with_key e.0 (row e.0)) rows ≡ filter_map (λ e. row_with_key e.0 (other e.0)) rows
shown_alike row other [] same = refl
shown_alike row other (e ∷ rows) same =
    ap (λ o. cons_option (row_with_key e.0 o) (filter_map (λ x. row_with_key x.0 (row x.0)) rows)) (same e.0)
    ∙ ap (cons_option (row_with_key e.0 (other e.0))) (shown_alike row other rows same)

-- ---- all tables

cons_head : {Y : Type 0} (x y : Y) (xs ys : List Y) → x ∷ xs ≡ y ∷ ys → x ≡ y
cons_head x y xs ys h = cc

cons_tail : {Y : Type 0} (x y : Y) (xs ys : List Y) → x ∷ xs ≡ y ∷ ys → xs ≡ ys
cons_tail x y xs ys h = cc

nil_cons : {Y : Type 0} (x : Y) (xs : List Y) → [] ≡ x ∷ xs → ⊥
nil_cons x xs h = cc

abbrev table_of : List ℕ × Schema → List (ℤ × Row) → Table
table_of d rows = record { name = d.0; schema = d.1; rows = rows }

-- the same names and columns, and the same rows at each place
pub seen_same : (n : ℕ) (row other : ℕ → ℤ → Option Row) (tables after : List StoredTable) → map definition_at tables ≡ map definition_at after
    → ((i : ℕ) → n ≤ i → i < n + length tables → seen_rows (row i) (table_from n tables i) ≡ seen_rows (other i) (table_from n after i))
    → seen_from n row tables ≡ seen_from n other after
seen_same n row other [] [] defs h = refl
seen_same n row other [] (u ∷ after) defs h = absurd (nil_cons (definition_at u) (map definition_at after) defs)
seen_same n row other (t ∷ tables) [] defs h = absurd (nil_cons (definition_at t) (map definition_at tables) (sym defs))
seen_same n row other (t ∷ tables) (u ∷ after) defs h =
    ap (λ x. x ∷ seen_from (suc n) row tables) one
    ∙ ap (λ xs. table_of (definition_at u) (seen_rows (other n) u) ∷ xs)
    (seen_same (suc n) row other tables after (cons_tail (definition_at t) (definition_at u) (map definition_at tables) (map definition_at after) defs) later)
  where
    own : (n == n) ≡ true
    own = eq-eqb n n refl

    first : definition_at t ≡ definition_at u
    first = cons_head (definition_at t) (definition_at u) (map definition_at tables) (map definition_at after) defs

    rows : seen_rows (row n) t ≡ seen_rows (other n) u
    rows =
        sym (ap (λ b. seen_rows (row n) (cond b t (table_from (suc n) tables n))) own)
        ∙ h n (omega arith) (omega arith)
        ∙ ap (λ b. seen_rows (other n) (cond b u (table_from (suc n) after n))) own

    one : ◌≡◌ {A = Table} (record { name = t.name; schema = t.schema; rows = seen_rows (row n) t }) (record { name = u.name; schema = u.schema; rows = seen_rows (other n) u })
    one = ap (λ d. table_of d (seen_rows (row n) t)) first ∙ ap (table_of (definition_at u)) rows

    later : (i : ℕ) → suc n ≤ i → i < suc n + length tables → seen_rows (row i) (table_from (suc n) tables i) ≡ seen_rows (other i) (table_from (suc n) after i)
    later i low high =
        sym (ap (λ b. seen_rows (row i) (cond b t (table_from (suc n) tables i))) (past (n == i) refl))
        ∙ h i (omega (arith, low)) (omega (arith, high))
        ∙ ap (λ b. seen_rows (other i) (cond b u (table_from (suc n) after i))) (past (n == i) refl)
      where
        past : (b : Bool) → (n == i) ≡ b → (n == i) ≡ false
        past true e = let is : n ≡ i = eqb-true n i e in let no : ⊥ = omega (arith, low, is) in absurd no
        past false e = e

-- one table more, without rows
pub seen_more : (n : ℕ) (row : ℕ → ℤ → Option Row) (tables : List StoredTable) (new : StoredTable) → rows_of new ≡ []
    → seen_from n row (tables ++ new ∷ []) ≡ seen_from n row tables ++ record { name = new.name; schema = new.schema; rows = [] } ∷ []
seen_more n row [] new empty = ap (λ rows. table_of (definition_at new) (filter_map (λ e. row_with_key e.0 (row n e.0)) rows) ∷ []) empty
seen_more n row (t ∷ tables) new empty = ap (λ xs. table_of (definition_at t) (seen_rows (row n) t) ∷ xs) (seen_more (suc n) row tables new empty)

-- ---- states in order

rising_from : (n i : ℕ) (tables : List StoredTable) → ((t : StoredTable) → Has tables t → ascend (keys_of_leaves t.leaves) ≡ true) → ascend (keys_of_leaves (table_from n tables i).leaves) ≡ true
rising_from n i [] each = refl
rising_from n i (t ∷ tables) each = by_place (n == i) (rising_from (suc n) i tables (λ u h. each u (inr h)))
  where
    by_place : (b : Bool) → ascend (keys_of_leaves (table_from (suc n) tables i).leaves) ≡ true → ascend (keys_of_leaves (cond b t (table_from (suc n) tables i)).leaves) ≡ true
    by_place true again = each t (inl refl)
    by_place false again = again

module _ (m : Machine) (state : State) (o : InOrder m state) where
  pub rising_at : (i : ℕ) → ascend (keys_of_leaves (table_at state.tables i).leaves) ≡ true
  rising_at i = rising_from 1 i state.tables (λ t h. (o.keyed.each t h).rising)

  pub key_kept : (i : ℕ) (k : ℤ) (kept : KeptRow) → kept_at (table_at state.tables i) k ≡ Some kept → Has (keys_of_leaves (table_at state.tables i).leaves) k
  key_kept i k kept h = Has-map_of {X = ℤ × KeptRow} (λ e. e.0) (rows_of (table_at state.tables i)) (k, kept) (lookup_has (rows_of (table_at state.tables i)) k kept h)

  -- the key of a committed row is kept
  pub committed_kept : (i : ℕ) (k : ℤ) (r : Row) → committed_row state i k ≡ Some r → Has (keys_of_leaves (table_at state.tables i).leaves) k
  committed_kept i k r h = by_version _ refl h
    where
      by_version : (v : Option Version) → committed_at state i k ≡ v → row_of v ≡ Some r → Has (keys_of_leaves (table_at state.tables i).leaves) k
      by_version None e z = let no : None ≡ Some r = z in let f : ⊥ = cc in absurd f
      by_version (Some v) e z = elim (committed_from state.tables state.sessions i k v e) [
        | inl stands ↦ (let p : IsKept (table_at state.tables i) k v = present_kept (table_at state.tables i) k v stands in key_kept i k p.kept p.there)
        | inr undo ↦ of_undo v undo
      ]
        where
          of_undo : (v' : Version) → FromUndo state.sessions i k (was_there v') → Has (keys_of_leaves (table_at state.tables i).leaves) k
          of_undo v' u =
              let s : IsRestorable state.tables (session_at state.sessions u.s) u.undo = o.restorable u.s u.undo u.has in
              key_kept i k s.kept (ap (λ n. kept_at (table_at state.tables n) k) (sym u.of_table) ∙ ap (λ j. kept_at (table_at state.tables u.undo.table) j) (sym u.of_key) ∙ s.there)

  -- the rows of a committed table, by key
  pub committed_has : (i : ℕ) → HasRows (seen_rows (committed_row state i) (table_at state.tables i)) (committed_row state i)
  committed_has i = shown_has (committed_row state i) (rows_of (table_at state.tables i)) (rising_at i) (committed_kept i)

-- two states in order with the same committed row at each key
pub committed_equal : (m : Machine) (before now : State) → InOrder m before → InOrder m now → map definition_at now.tables ≡ map definition_at before.tables
    → ((t : ℕ) (k : ℤ) → committed_row now t k ≡ committed_row before t k) → committed now ≡ committed before
committed_equal m before now o p defs same = seen_same 1 (committed_row now) (committed_row before) now.tables before.tables defs one
  where
    one : (i : ℕ) → 1 ≤ i → i < 1 + length now.tables → seen_rows (committed_row now i) (table_at now.tables i) ≡ seen_rows (committed_row before i) (table_at before.tables i)
    one i low high =
        let a = committed_has m now p i in
        let b = committed_has m before o i in
        same_rows (seen_rows (committed_row now i) (table_at now.tables i)) (seen_rows (committed_row before i) (table_at before.tables i)) a.rises b.rises
        (λ k. a.each k ∙ same i k ∙ sym (b.each k))
