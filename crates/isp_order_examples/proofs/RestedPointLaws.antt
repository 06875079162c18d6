-- The five points, row by row and entry by entry.
use Rattle.std.proofs.Common.{◌≡◌, ◌∙◌, ◌+◌, ◌<◌, inl, inr, refl, sym, ap, subst, ℕ, ℤ, zero, suc, ◌==◌, cond, Bool, true, false, Option, Some, None, List, [], ◌∷◌, length, arith, pos, eqb-true}
use Rattle.std.specs.Prelude.{codes, replicate, slice_get, slice_index_or}
use Rattle.std.specs.Option.{option_and_then}
use Rattle.std.proofs.lemmas.Bool.{false≢true}
use Rattle.isp_base.specs.Lists.{Has}
use Rattle.isp_plain.specs.declared.value.Column.{Column}
use Rattle.isp_plain.specs.declared.value.Kind.TheVariants.{BigInt, Geo}
use Rattle.isp_plain.specs.declared.value.Row.{Row}
use Rattle.isp_plain.specs.RowBytes.{row_bytes}
use Rattle.isp_geom.specs.Bounds.{points_of}
use Rattle.isp_geom.specs.Spelling.{spelling}
use Rattle.isp_laws.specs.Examples.{point}
use Rattle.isp_laws.proofs.CheckLaws.{once_by_test}
use Rattle.isp_laws.proofs.ExampleLaws.{examples_fit}
use Rattle.isp_waits.specs.Graphs.{waits_of}
use Rattle.isp_forest.specs.Tree.{Node}
use Rattle.isp_forest.specs.Forest.{Forest}
use Rattle.isp_events.specs.Stored.{KeptRow, StoredTable, Version, indexed, kept_at, no_table, present, rows_of, table_at, tree_of, version_of}
use Rattle.isp_serial.specs.declared.script.Word.{Word}
use Rattle.isp_plain.specs.declared.statement.Statement.{Statement}
use Rattle.isp_plain.specs.declared.statement.Statement.TheVariants.{Begin, Commit, Insert}
use Rattle.isp_events.specs.Sessions.{SessionState, fresh, session_at}
use Rattle.isp_events.specs.Ways.{IsDefinition, Machine, is_geometry, is_indexed}
use Rattle.isp_order.specs.Trees.{HasEntries, IsKeyed, IsStored, LiesIn, StandsAt, all_numbers, entry_of, version_kept}
use Rattle.isp_order.specs.InOrder.{IsRested, is_missing}
use Rattle.isp_order.proofs.RestedLaws.{in_order}
use Rattle.isp_order.proofs.RowLaws.{lookup_has}
use Rattle.isp_event_examples.specs.Overtaken.{overtaking}
use Rattle.isp_event_examples.specs.Points.{five, kept_point, machine_of, named_p, point_row, points, points_meeting, points_schema}
use Rattle.isp_order_examples.specs.RestedPoints.{FivePointsAreInOrder}
use Rattle.isp_order_examples.specs.ThreeSessions.{for_three, machine_of_three}

nobody : (n s : ℕ) → waits_of (replicate n []) s ≡ []
nobody zero s = refl
nobody (suc n) zero = refl
nobody (suc n) (suc s) = nobody n s

rest_fresh : (n s : ℕ) → slice_index_or (replicate n (fresh true)) s (fresh true) ≡ fresh true
rest_fresh zero s = refl
rest_fresh (suc n) zero = refl
rest_fresh (suc n) (suc s) = rest_fresh n s

apart : (a b : ℕ) → a < b → (a == b) ≡ false
apart a b lt = by_test (a == b) refl
  where
    by_test : (v : Bool) → (a == b) ≡ v → v ≡ false
    by_test true e = let is : a ≡ b = eqb-true a b e in let no : ⊥ = omega (arith, lt, is) in absurd no
    by_test false e = refl

apart_back : (a b : ℕ) → b < a → (a == b) ≡ false
apart_back a b lt = by_test (a == b) refl
  where
    by_test : (v : Bool) → (a == b) ≡ v → v ≡ false
    by_test true e = let is : a ≡ b = eqb-true a b e in let no : ⊥ = omega (arith, lt, is) in absurd no
    by_test false e = refl

-- a script of two sessions, or of three, has no other
missing : (statements : List Statement) (first second : List (List ℕ)) (words : List Word) (s : ℕ) → 2 < s → is_missing (machine_of statements first second words).script s ≡ true
missing statements first second words s above =
    let none : (s == 0) ≡ false = apart_back s 0 (omega (arith, above)) in
    let one : (1 == s) ≡ false = apart 1 s (omega (arith, above)) in
    let two : (2 == s) ≡ false = apart 2 s above in
    rw (none, one, two) refl

each_fresh : (statements : List Statement) (first second : List (List ℕ)) (words : List Word) (s : ℕ) → session_at five.sessions s ≡ fresh (is_missing (machine_of statements first second words).script s)
each_fresh statements first second words zero = refl
each_fresh statements first second words (suc zero) = refl
each_fresh statements first second words (suc (suc zero)) = refl
each_fresh statements first second words (suc (suc (suc s))) = rest_fresh 14 s ∙ ap fresh (sym (missing statements first second words (suc (suc (suc s))) (omega arith)))

missing_of_three : (statements : List Statement) (first second third : List (List ℕ)) (s : ℕ) → 3 < s → is_missing (machine_of_three statements first second third).script s ≡ true
missing_of_three statements first second third s above =
    let none : (s == 0) ≡ false = apart_back s 0 (omega (arith, above)) in
    let one : (1 == s) ≡ false = apart 1 s (omega (arith, above)) in
    let two : (2 == s) ≡ false = apart 2 s (omega (arith, above)) in
    let three : (3 == s) ≡ false = apart 3 s above in
    rw (none, one, two, three) refl

each_of_three_fresh : (statements : List Statement) (first second third : List (List ℕ)) (s : ℕ) → session_at for_three.sessions s ≡ fresh (is_missing (machine_of_three statements first second third).script s)
each_of_three_fresh statements first second third zero = refl
each_of_three_fresh statements first second third (suc zero) = refl
each_of_three_fresh statements first second third (suc (suc zero)) = refl
each_of_three_fresh statements first second third (suc (suc (suc zero))) = refl
each_of_three_fresh statements first second third (suc (suc (suc (suc s)))) =
    rest_fresh 13 s ∙ ap fresh (sym (missing_of_three statements first second third (suc (suc (suc (suc s)))) (omega arith)))

-- ---- rows

some_is : {X : Type 0} (x y : X) → Some x ≡ Some y → x ≡ y
some_is x y h = cc

none_some : {X : Type 0} (y : X) → None ≡ Some y → ⊥
none_some y h = cc

is_definition : IsDefinition points_schema
is_definition = record { first = record { name = codes "id"; kind = BigInt; indexed = false }; there = refl; key = refl; trees = trees }
  where
    trees : (number : ℕ) (column : Column) → slice_get points_schema.columns number ≡ Some column → column.indexed ≡ true → column.kind ≡ Geo
    trees zero column h k = absurd (false≢true (ap (λ (c : Column). c.indexed) (some_is (record { name = codes "id"; kind = BigInt; indexed = false }) column h) ∙ k))
    trees (suc zero) column h k = ap (λ (c : Column). c.kind) (sym (some_is (record { name = codes "g"; kind = Geo; indexed = true }) column h))
    trees (suc (suc number)) column h k = absurd (none_some column h)

geometries : (key x y column : ℕ) → is_indexed points_schema column ≡ true → is_geometry (slice_get (point_row key x y).values column) ≡ true
geometries key x y zero h = absurd (false≢true h)
geometries key x y (suc zero) h = refl
geometries key x y (suc (suc column)) h = absurd (false≢true h)

stored : (key x y number : ℕ) → row_bytes points_schema (point_row key x y) ≡ 19 → IsStored points (pos key) 19 (record { row = point_row key x y; numbers = number ∷ [] })
stored key x y number bytes = record {
  storable = record { key = refl; geometries = geometries key x y };
  own_key = refl;
  each_column = refl;
  fits = omega (arith, bytes);
}

rows_stored : (key : ℤ) (kept : KeptRow) → Has {X = ℤ × KeptRow} (rows_of points) (key, kept) → IsStored points key kept.slot (version_kept kept)
unfolding spelling
rows_stored key kept (inl e) = subst (λ (p : ℤ × KeptRow). IsStored points p.0 p.1.slot (version_kept p.1)) e (stored 1 0 0 0 refl)
rows_stored key kept (inr (inl e)) = subst (λ (p : ℤ × KeptRow). IsStored points p.0 p.1.slot (version_kept p.1)) e (stored 2 10 0 1 refl)
rows_stored key kept (inr (inr (inl e))) = subst (λ (p : ℤ × KeptRow). IsStored points p.0 p.1.slot (version_kept p.1)) e (stored 3 0 10 2 refl)
rows_stored key kept (inr (inr (inr (inl e)))) = subst (λ (p : ℤ × KeptRow). IsStored points p.0 p.1.slot (version_kept p.1)) e (stored 4 10 10 3 refl)
rows_stored key kept (inr (inr (inr (inr (inl e))))) = subst (λ (p : ℤ × KeptRow). IsStored points p.0 p.1.slot (version_kept p.1)) e (stored 5 5 5 4 refl)
rows_stored key kept (inr (inr (inr (inr (inr h))))) = absurd h

points_keyed : IsKeyed points
points_keyed = record { defined = is_definition; columns = refl; apart = refl; rising = refl; rows = rows_stored }

-- ---- entries

-- the one entry of a row of the points
one_entry : (key : ℤ) (row : Row) (n : ℕ) → LiesIn five.tables (entry_of 1 key (record { row = row; numbers = n ∷ [] }) 1 n) → HasEntries five.tables 1 key (record { row = row; numbers = n ∷ [] })
one_entry key row n lies column number h = by_column (1 == column) refl h
  where
    by_column : (b : Bool) → (1 == column) ≡ b → cond b (Some n) None ≡ Some number → LiesIn five.tables (entry_of 1 key (record { row = row; numbers = n ∷ [] }) column number)
    by_column true e k =
        subst (λ c. LiesIn five.tables (entry_of 1 key (record { row = row; numbers = n ∷ [] }) c number)) (eqb-true 1 column e)
        (subst (λ i. LiesIn five.tables (entry_of 1 key (record { row = row; numbers = n ∷ [] }) 1 i)) (some_is n number k) lies)
    by_column false e k = absurd (none_some number k)

abbrev left_leaf : Node
left_leaf = record { level = 0; ssn = 1; next = Some 20; entries = point 0 0 1 0 ∷ point 10 0 2 1 ∷ point 5 5 5 4 ∷ [] }

abbrev right_leaf : Node
right_leaf = record { level = 0; ssn = 0; next = None; entries = point 0 10 3 2 ∷ point 10 10 4 3 ∷ [] }

entries_1 : HasEntries five.tables 1 (pos 1) (record { row = point_row 1 0 0; numbers = 0 ∷ [] })
unfolding points_of
entries_1 = one_entry (pos 1) (point_row 1 0 0) 0 (record { p = 19; leaf = left_leaf; there = refl; level = refl; has = inl refl; to = refl })

entries_2 : HasEntries five.tables 1 (pos 2) (record { row = point_row 2 10 0; numbers = 1 ∷ [] })
unfolding points_of
entries_2 = one_entry (pos 2) (point_row 2 10 0) 1 (record { p = 19; leaf = left_leaf; there = refl; level = refl; has = inr (inl refl); to = refl })

entries_3 : HasEntries five.tables 1 (pos 3) (record { row = point_row 3 0 10; numbers = 2 ∷ [] })
unfolding points_of
entries_3 = one_entry (pos 3) (point_row 3 0 10) 2 (record { p = 20; leaf = right_leaf; there = refl; level = refl; has = inl refl; to = refl })

entries_4 : HasEntries five.tables 1 (pos 4) (record { row = point_row 4 10 10; numbers = 3 ∷ [] })
unfolding points_of
entries_4 = one_entry (pos 4) (point_row 4 10 10) 3 (record { p = 20; leaf = right_leaf; there = refl; level = refl; has = inr (inl refl); to = refl })

entries_5 : HasEntries five.tables 1 (pos 5) (record { row = point_row 5 5 5; numbers = 4 ∷ [] })
unfolding points_of
entries_5 = one_entry (pos 5) (point_row 5 5 5) 4 (record { p = 19; leaf = left_leaf; there = refl; level = refl; has = inr (inr (inl refl)); to = refl })

-- an unmarked row has the entries of its version
of_kept : (key k : ℤ) (kept found : KeptRow) (version : Version) → ◌≡◌ {A = ℤ × KeptRow} (k, kept) (key, found) → kept.mark ≡ false → version_of found ≡ Some version
    → HasEntries five.tables 1 k (version_kept kept) → HasEntries five.tables 1 key version
of_kept key k kept found version e unmarked is h =
    subst (λ (v : Version). HasEntries five.tables 1 key v)
    (some_is (version_kept kept) version (sym (ap (λ b. cond b None (Some (version_kept kept))) unmarked) ∙ ap (λ (p : ℤ × KeptRow). version_of p.1) e ∙ is))
    (subst (λ j. HasEntries five.tables 1 j (version_kept kept)) (ap (λ (p : ℤ × KeptRow). p.0) e) h)

rows_entered : (key : ℤ) (version : Version) → present points key ≡ Some version → HasEntries five.tables 1 key version
rows_entered key version h = by_kept (kept_at points key) refl h
  where
    by_row : (found : KeptRow) → Has {X = ℤ × KeptRow} (rows_of points) (key, found) → version_of found ≡ Some version → HasEntries five.tables 1 key version
    by_row found (inl e) is = of_kept key (pos 1) (kept_point 1 0 0 0).1 found version e refl is entries_1
    by_row found (inr (inl e)) is = of_kept key (pos 2) (kept_point 2 10 0 1).1 found version e refl is entries_2
    by_row found (inr (inr (inl e))) is = of_kept key (pos 3) (kept_point 3 0 10 2).1 found version e refl is entries_3
    by_row found (inr (inr (inr (inl e)))) is = of_kept key (pos 4) (kept_point 4 10 10 3).1 found version e refl is entries_4
    by_row found (inr (inr (inr (inr (inl e))))) is = of_kept key (pos 5) (kept_point 5 5 5 4).1 found version e refl is entries_5
    by_row found (inr (inr (inr (inr (inr k))))) is = absurd k

    by_kept : (found : Option KeptRow) → kept_at points key ≡ found → option_and_then version_of found ≡ Some version → HasEntries five.tables 1 key version
    by_kept None e is = absurd (none_some version is)
    by_kept (Some found) e is = by_row found (lookup_has (rows_of points) key found e) is

entered : (table : ℕ) (key : ℤ) (version : Version) → StandsAt five.tables table key version → HasEntries five.tables table key version
entered table key version h = by_table (1 == table) refl h
  where
    by_table : (b : Bool) → (1 == table) ≡ b → present (cond b points no_table) key ≡ Some version → HasEntries five.tables table key version
    by_table true e k = subst (λ t. HasEntries five.tables t key version) (eqb-true 1 table e) (rows_entered key version k)
    by_table false e k = absurd (none_some version k)

-- ---- all together

whole : (number column : ℕ) → Has (indexed (table_at five.tables number)) column → Forest (tree_of (table_at five.tables number) column)
whole number column h = by_table (1 == number) h
  where
    by_table : (b : Bool) → Has (indexed (cond b points no_table)) column → Forest (tree_of (cond b points no_table) column)
    by_table true (inl e) = subst (λ c. Forest (tree_of points c)) e examples_fit.before.forest
    by_table true (inr k) = absurd k
    by_table false k = absurd k

given : (number : ℕ) → Has (all_numbers five.tables) number → number < 5
given number (inl e) = omega (arith, e)
given number (inr (inl e)) = omega (arith, e)
given number (inr (inr (inl e))) = omega (arith, e)
given number (inr (inr (inr (inl e)))) = omega (arith, e)
given number (inr (inr (inr (inr (inl e))))) = omega (arith, e)
given number (inr (inr (inr (inr (inr h))))) = absurd h

-- the five points, with sessions that are all fresh
rested_with : (m : Machine) (sessions : List SessionState) → length sessions ≡ 17 → ((s : ℕ) → session_at sessions s ≡ fresh (is_missing m.script s)) → IsRested m (record five { sessions = sessions })
rested_with m sessions count each_new = record {
  counted = record { sessions = count; waits = refl };
  no_lock = refl;
  no_search = refl;
  no_wait = λ s. nobody 17 s;
  no_queue = refl;
  fresh = each_new;
  whole = whole;
  keyed = record { names = one_name; each = each };
  entered = entered;
  numbered = record { once = once_by_test (all_numbers five.tables) refl; given = given };
}
  where
    one_name : (i k : ℕ) → i < 1 → k < 1 → (table_at five.tables (1 + i)).name ≡ (table_at five.tables (1 + k)).name → i ≡ k
    one_name i k a b e = omega (arith, a, b)

    each : (table : StoredTable) → Has five.tables table → IsKeyed table
    each table (inl e) = subst IsKeyed e points_keyed
    each table (inr h) = absurd h

pub five_rested : (statements : List Statement) (first second : List (List ℕ)) (words : List Word) → IsRested (machine_of statements first second words) five
five_rested statements first second words = rested_with (machine_of statements first second words) five.sessions refl (each_fresh statements first second words)

pub for_three_rested : (statements : List Statement) (first second third : List (List ℕ)) → IsRested (machine_of_three statements first second third) for_three
for_three_rested statements first second third = rested_with (machine_of_three statements first second third) for_three.sessions refl (each_of_three_fresh statements first second third)

abbrev overtaking_statements : List Statement
overtaking_statements = Begin ∷ points_meeting 0 0 6 6 ∷ Commit ∷ Insert named_p (point_row 6 9 1 ∷ point_row 7 9 2 ∷ []) ∷ []

rested : IsRested overtaking five
rested = five_rested overtaking_statements ((0 ∷ []) ∷ (1 ∷ []) ∷ (2 ∷ []) ∷ []) ((3 ∷ []) ∷ []) overtaking.script.words

pub five_points_are_in_order : FivePointsAreInOrder
five_points_are_in_order = record { rested = rested; in_order = in_order overtaking five rested }
