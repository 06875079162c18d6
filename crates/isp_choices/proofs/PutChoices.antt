-- What a row leaves open: free pages, the leaf of the key's place, and where that leaf is divided, which matters no more from its end on.
use Rattle.std.proofs.Common.{◌≡◌, ◌⊎◌, ◌∙◌, inl, inr, refl, sym, ap, subst, ℕ, ℤ, suc, ◌+◌, ◌≤◌, ◌<◌, ◌==◌, ◌&&◌, ◌||◌, cond, Bool, true, false, Option, Some, None, List, [], ◌∷◌, ◌++◌, arith, length, length-append, map, take, drop, eqb-true, eq-eqb}
use Rattle.std.specs.Prelude.{flat_map, is_none, not, slice_set}
use Rattle.std.specs.List.{list_all, list_any}
use Rattle.std.specs.Option.{option_map}
use Rattle.std.proofs.lemmas.Bool.{and_parts, false≢true}
use Rattle.isp_base.specs.Lists.{Has}
use Rattle.isp_laws.proofs.ListLaws.{Has-append_left, Has-append_right, Has-map_of}
use Rattle.isp_plain.specs.declared.value.Row.{Row}
use Rattle.isp_plain.specs.RowBytes.{row_bytes}
use Rattle.isp_forest.specs.Steps.{is_among}
use Rattle.isp_events.specs.Stored.{KeptRow, Leaf, StoredTable, change_table, changed_from, indexed, kept_at, keys_of_leaves, table_at, table_from}
use Rattle.isp_events.specs.Sessions.{Change, session_at}
use Rattle.isp_events.specs.State.{State, free_pages, is_empty, is_free, with_option}
use Rattle.isp_events.specs.Writing.{MayWriteRow, Put, after_row, are_apart, ascend, bytes_put, fits_put, is_put, leaves_after_put, moved_leaves, needs_slot, pages_left, parts_of, put_in, row_after, session_after_row, table_after_put, table_after_row, table_with_row, takes_undo_alone, with_right, with_row_in}
use Rattle.isp_event_laws.proofs.ListTests.{Passing, any_has}
use Rattle.isp_event_laws.proofs.PlacingLaws.{Has-flat_map_of}
use Rattle.isp_order_work.proofs.WorkParts.{none_some, some_is}
use Rattle.isp_measure.specs.Measure.{total}
use Rattle.isp_measure.proofs.SumLaws.{total_has}
use Rattle.isp_choices.proofs.ListParts.{all_have, apart_short, clipped, clipped_low, drop_clipped, lists_has, lists_of, take_clipped, up_to, up_to_has}
use Rattle.isp_choices.proofs.PlaceChoices.{free_has}

-- ---- a table that changes

changed_low : (k number : ℕ) (f g : StoredTable → StoredTable) (tables : List StoredTable) → number < k → changed_from k number f tables ≡ changed_from k number g tables
changed_low k number f g [] lt = refl
changed_low k number f g (table ∷ tables) lt = by_test (k == number) refl (changed_low (suc k) number f g tables (omega (arith, lt)))
  where
    by_test : (b : Bool) → (k == number) ≡ b → changed_from (suc k) number f tables ≡ changed_from (suc k) number g tables
        → cond b (f table) table ∷ changed_from (suc k) number f tables ≡ cond b (g table) table ∷ changed_from (suc k) number g tables
    by_test true e again = let is : k ≡ number = eqb-true k number e in absurd (omega (arith, is, lt))
    by_test false e again = ap (λ rest. table ∷ rest) again

changed_same : (k number : ℕ) (f g : StoredTable → StoredTable) (tables : List StoredTable) → f (table_from k tables number) ≡ g (table_from k tables number)
    → changed_from k number f tables ≡ changed_from k number g tables
changed_same k number f g [] same = refl
changed_same k number f g (table ∷ tables) same = by_test (k == number) refl same (changed_same (suc k) number f g tables)
  where
    by_test : (b : Bool) → (k == number) ≡ b → f (cond b table (table_from (suc k) tables number)) ≡ g (cond b table (table_from (suc k) tables number))
        → (f (table_from (suc k) tables number) ≡ g (table_from (suc k) tables number) → changed_from (suc k) number f tables ≡ changed_from (suc k) number g tables)
        → cond b (f table) table ∷ changed_from (suc k) number f tables ≡ cond b (g table) table ∷ changed_from (suc k) number g tables
    by_test true e h again =
        let is : k ≡ number = eqb-true k number e in
        ap (λ t. t ∷ changed_from (suc k) number f tables) h ∙ ap (λ rest. g table ∷ rest) (changed_low (suc k) number f g tables (omega (arith, is)))
    by_test false e h again = ap (λ rest. table ∷ rest) (again h)

-- two puts that take the same pages of the undo chain and change the table alike
row_same : (state : State) (s number : ℕ) (change : Change) (placed : List (ℕ × ℕ)) (p r : Put)
    → table_after_row p change placed change.new (table_at state.tables number) ≡ table_after_row r change placed change.new (table_at state.tables number) → p.undo ≡ r.undo
    → after_row state s number change placed p ≡ after_row state s number change placed r
row_same state s number change placed p r same undo =
    ap (λ tables. record state {
      tables = tables;
      bytes = cond (is_put (table_at state.tables number) change change.new) (state.bytes + bytes_put (table_at state.tables number) change.new) state.bytes;
      sessions = slice_set state.sessions s (session_after_row (table_at state.tables number) number change placed p.undo (session_at state.sessions s));
    }) (changed_same 1 number (table_after_row p change placed change.new) (table_after_row r change placed change.new) state.tables same)
    ∙ ap (λ pages. record state {
      tables = change_table number (table_after_row r change placed change.new) state.tables;
      bytes = cond (is_put (table_at state.tables number) change change.new) (state.bytes + bytes_put (table_at state.tables number) change.new) state.bytes;
      sessions = slice_set state.sessions s (session_after_row (table_at state.tables number) number change placed pages (session_at state.sessions s));
    }) undo

-- ---- leaves that are divided

flat_same : {X Y : Type 0} (f g : X → List Y) (xs : List X) → ((x : X) → Has xs x → f x ≡ g x) → flat_map f xs ≡ flat_map g xs
flat_same f g [] each = refl
flat_same f g (x ∷ xs) each = ap (λ ys. ys ++ flat_map f xs) (each x (inl refl)) ∙ ap (λ ys. g x ++ ys) (flat_same f g xs (λ y h. each y (inr h)))

-- no leaf has more rows with the new one
abbrev rows_bound : ℤ → KeptRow → List Leaf → ℕ
rows_bound key kept leaves = total (λ leaf. length (with_row_in key kept leaf).rows) leaves

moved_bound : (key : ℤ) (kept : KeptRow) (moved : Option ℕ) (leaves : List Leaf) (x : Leaf) → Has (moved_leaves moved leaves) x → length (with_row_in key kept x).rows ≤ rows_bound key kept leaves
moved_bound key kept moved [] x h = absurd h
moved_bound key kept None (leaf ∷ []) x (inl e) = let is : length (with_row_in key kept leaf).rows ≡ length (with_row_in key kept x).rows = ap (λ (y : Leaf). length (with_row_in key kept y).rows) e in omega (arith, is)
moved_bound key kept (Some page) (leaf ∷ []) x (inl e) = let is : length (with_row_in key kept leaf).rows ≡ length (with_row_in key kept x).rows = ap (λ (y : Leaf). length (with_row_in key kept y).rows) e in omega (arith, is)
moved_bound key kept moved (leaf ∷ []) x (inr h) = absurd h
moved_bound key kept moved (a ∷ b ∷ rest) x h = total_has (λ leaf. length (with_row_in key kept leaf).rows) (a ∷ b ∷ rest) x h

abbrev clipped_part : ℕ → ℕ × ℕ → ℕ × ℕ
clipped_part n d = (d.0, clipped n d.1)

parts_clipped : (n : ℕ) (d : Option (ℕ × ℕ)) (leaf : Leaf) → length leaf.rows ≤ n → parts_of (option_map (clipped_part n) d) leaf ≡ parts_of d leaf
parts_clipped n None leaf le = refl
parts_clipped n (Some d) leaf le =
    ap (λ rows. record leaf { rows = rows } ∷ record { page = d.0; rows = drop (clipped n d.1) leaf.rows } ∷ []) (take_clipped leaf.rows n d.1 le)
    ∙ ap (λ rows. record leaf { rows = take d.1 leaf.rows } ∷ record { page = d.0; rows = rows } ∷ []) (drop_clipped leaf.rows n d.1 le)

abbrev clipped_put : ℕ → Put → Put
clipped_put n p = record p { divided = option_map (clipped_part n) p.divided }

leaves_clipped : (p : Put) (key : ℤ) (kept : KeptRow) (leaves : List Leaf) → leaves_after_put (clipped_put (rows_bound key kept leaves) p) key kept leaves ≡ leaves_after_put p key kept leaves
leaves_clipped p key kept leaves =
    flat_same (put_in (clipped_put (rows_bound key kept leaves) p) key kept) (put_in p key kept) (moved_leaves p.moved leaves)
    (λ x h. ap (λ xs. cond (x.page == p.leaf) xs (x ∷ [])) (parts_clipped (rows_bound key kept leaves) p.divided (with_row_in key kept x) (moved_bound key kept p.moved leaves x h)))

-- ---- puts that are listed

module _ (free : List ℕ) (leaves : List Leaf) (most : ℕ) where
  maybe_free : List (Option ℕ)
  maybe_free = None ∷ map Some free

  leaf_pages : List ℕ
  leaf_pages = 0 ∷ (map (λ (leaf : Leaf). leaf.page) leaves ++ free)

  maybe_parts : List (Option (ℕ × ℕ))
  maybe_parts = None ∷ map Some (flat_map (λ q. map (λ k. (q, k)) (up_to most)) free)

  pub puts_of : List Put
  puts_of =
      flat_map (λ moved. flat_map (λ leaf. flat_map (λ divided. flat_map (λ clustered. map (λ undo. record { moved = moved; leaf = leaf; divided = divided; clustered = clustered; undo = undo })
      (lists_of free (length free))) (lists_of free (length free))) maybe_parts) leaf_pages) maybe_free

  -- its pages are free, its leaf is one, and its part isn't beyond the rows
  record IsListed (p : Put) : Type 0 where
    pub moved : (q : ℕ) → p.moved ≡ Some q → Has free q
    pub leaf : Has leaf_pages p.leaf
    pub part : (d : ℕ × ℕ) → p.divided ≡ Some d → Has free d.0 × (d.1 ≤ most)
    pub clustered : (length p.clustered ≤ length free) × ((q : ℕ) → Has p.clustered q → Has free q)
    pub undo : (length p.undo ≤ length free) × ((q : ℕ) → Has p.undo q → Has free q)

  moved_has : (o : Option ℕ) → ((q : ℕ) → o ≡ Some q → Has free q) → Has maybe_free o
  unfolding maybe_free
  moved_has None each = inl refl
  moved_has (Some q) each = inr (Has-map_of Some free q (each q refl))

  parts_has : (o : Option (ℕ × ℕ)) → ((d : ℕ × ℕ) → o ≡ Some d → Has free d.0 × (d.1 ≤ most)) → Has maybe_parts o
  unfolding maybe_parts
  parts_has None each = inl refl
  parts_has (Some d) each =
      inr (Has-map_of Some (flat_map (λ q. map (λ k. (q, k)) (up_to most)) free) d
      (Has-flat_map_of (λ q. map (λ k. (q, k)) (up_to most)) free d.0 d (each d refl).0 (Has-map_of (λ k. (d.0, k)) (up_to most) d.1 (up_to_has most d.1 (each d refl).1))))

  puts_has : (p : Put) → IsListed p → Has puts_of p
  unfolding puts_of
  puts_has p is =
      Has-flat_map_of (λ moved. flat_map (λ leaf. flat_map (λ divided. flat_map (λ clustered. map (λ undo. record { moved = moved; leaf = leaf; divided = divided; clustered = clustered; undo = undo })
      (lists_of free (length free))) (lists_of free (length free))) maybe_parts) leaf_pages) maybe_free p.moved p (moved_has p.moved is.moved)
      (Has-flat_map_of (λ leaf. flat_map (λ divided. flat_map (λ clustered. map (λ undo. record { moved = p.moved; leaf = leaf; divided = divided; clustered = clustered; undo = undo })
      (lists_of free (length free))) (lists_of free (length free))) maybe_parts) leaf_pages p.leaf p is.leaf
      (Has-flat_map_of (λ divided. flat_map (λ clustered. map (λ undo. record { moved = p.moved; leaf = p.leaf; divided = divided; clustered = clustered; undo = undo })
      (lists_of free (length free))) (lists_of free (length free))) maybe_parts p.divided p (parts_has p.divided is.part)
      (Has-flat_map_of (λ clustered. map (λ undo. record { moved = p.moved; leaf = p.leaf; divided = p.divided; clustered = clustered; undo = undo })
      (lists_of free (length free))) (lists_of free (length free)) p.clustered p (lists_has free (length free) p.clustered is.clustered.0 is.clustered.1)
      (Has-map_of (λ undo. record { moved = p.moved; leaf = p.leaf; divided = p.divided; clustered = p.clustered; undo = undo }) (lists_of free (length free)) p.undo (lists_has free (length free) p.undo is.undo.0 is.undo.1)))))

-- ---- the pages of a put

record Rest (test : ℕ → Bool) (pages : List ℕ) : Type 0 where
  pub all : list_all test pages ≡ true
  pub apart : are_apart pages ≡ true

behind_first : (test : ℕ → Bool) (q : ℕ) (pages : List ℕ) → Rest test (q ∷ pages) → (test q ≡ true) × Rest test pages
behind_first test q pages r =
    let all = and_parts (test q) (list_all test pages) r.all in
    let apart = and_parts (not (is_among pages q)) (are_apart pages) r.apart in
    (all.0, record { all = all.1; apart = apart.1 })

behind_option : (test : ℕ → Bool) (o : Option ℕ) (pages : List ℕ) → Rest test (with_option o pages) → ((q : ℕ) → o ≡ Some q → test q ≡ true) × Rest test pages
behind_option test None pages r = (λ q e. absurd (none_some q e), r)
behind_option test (Some q) pages r = (let b = behind_first test q pages r in (λ k e. subst (λ i. test i ≡ true) (some_is q k e) b.0, b.1))

behind_right : (test : ℕ → Bool) (o : Option (ℕ × ℕ)) (pages : List ℕ) → Rest test (with_right o pages) → ((d : ℕ × ℕ) → o ≡ Some d → test d.0 ≡ true) × Rest test pages
behind_right test None pages r = (λ d e. absurd (none_some d e), r)
behind_right test (Some d) pages r = (let b = behind_first test d.0 pages r in (λ k e. subst (λ (i : ℕ × ℕ). test i.0 ≡ true) (some_is d k e) b.0, b.1))

-- ---- states behind a row

abbrev row_kept : StoredTable → Change → List (ℕ × ℕ) → Row → KeptRow
row_kept table change placed new = row_after table.schema (indexed table) placed (kept_at table change.key) new

abbrev most_rows : StoredTable → Change → List (ℕ × ℕ) → Option Row → ℕ
most_rows table change placed None = 0
most_rows table change placed (Some new) = rows_bound change.key (row_kept table change placed new) table.leaves

pub rows_behind : State → ℕ → ℕ → Change → List (ℕ × ℕ) → List State
rows_behind state s number change placed =
    map (λ p. after_row state s number change placed p)
    (puts_of (free_pages state) (table_at state.tables number).leaves (most_rows (table_at state.tables number) change placed change.new))

module _ (state : State) (s number : ℕ) (change : Change) (placed : List (ℕ × ℕ)) (p : Put) (may : MayWriteRow state number change placed p) where
  abbrev table : StoredTable
  table = table_at state.tables number

  abbrev most : ℕ
  most = most_rows table change placed change.new

  moved : ((q : ℕ) → p.moved ≡ Some q → is_free state q ≡ true) × Rest (is_free state) (with_right p.divided (p.clustered ++ p.undo))
  moved = behind_option (is_free state) p.moved (with_right p.divided (p.clustered ++ p.undo)) (record { all = may.free; apart = may.apart })

  right : ((d : ℕ × ℕ) → p.divided ≡ Some d → is_free state d.0 ≡ true) × Rest (is_free state) (p.clustered ++ p.undo)
  right = behind_right (is_free state) p.divided (p.clustered ++ p.undo) moved.1

  short : length (p.clustered ++ p.undo) ≤ length (free_pages state)
  short = apart_short (p.clustered ++ p.undo) (free_pages state) right.1.apart (λ q h. free_has state q (all_have (is_free state) (p.clustered ++ p.undo) right.1.all q h))

  both : length (p.clustered ++ p.undo) ≡ length p.clustered + length p.undo
  both = length-append p.clustered p.undo

  is_clustered : (length p.clustered ≤ length (free_pages state)) × ((q : ℕ) → Has p.clustered q → Has (free_pages state) q)
  is_clustered = (omega (arith, short, both), λ q h. free_has state q (all_have (is_free state) (p.clustered ++ p.undo) right.1.all q (Has-append_left p.clustered p.undo q h)))

  is_undo : (length p.undo ≤ length (free_pages state)) × ((q : ℕ) → Has p.undo q → Has (free_pages state) q)
  is_undo = (omega (arith, short, both), λ q h. free_has state q (all_have (is_free state) (p.clustered ++ p.undo) right.1.all q (Has-append_right p.clustered p.undo q h)))

  -- another put, which is listed and leads to the same state
  listed : (r : Put) → IsListed (free_pages state) table.leaves most r → table_after_row r change placed change.new table ≡ table_after_row p change placed change.new table → r.undo ≡ p.undo
      → Has (rows_behind state s number change placed) (after_row state s number change placed p)
  unfolding rows_behind
  listed r is same undo =
      subst (Has (rows_behind state s number change placed)) (row_same state s number change placed r p same undo)
      (Has-map_of (λ x. after_row state s number change placed x) (puts_of (free_pages state) table.leaves most) r (puts_has (free_pages state) table.leaves most r is))

  -- a row that isn't put takes pages of the undo chain alone, and its leaf doesn't matter
  unput : takes_undo_alone p ≡ true → table_after_row (record p { leaf = 0 }) change placed change.new table ≡ table_after_row p change placed change.new table
      → Has (rows_behind state s number change placed) (after_row state s number change placed p)
  unfolding leaf_pages
  unput alone same =
      listed (record p { leaf = 0 }) (record {
        moved = λ q e. free_has state q (moved.0 q e);
        leaf = inl refl;
        part = λ d e. absurd (some_none p.divided d parts.0 e);
        clustered = is_clustered;
        undo = is_undo;
      }) same refl
    where
      first : (is_none p.moved ≡ true) × ((is_none p.divided && is_empty p.clustered) ≡ true)
      first = and_parts (is_none p.moved) (is_none p.divided && is_empty p.clustered) alone

      parts : (is_none p.divided ≡ true) × (is_empty p.clustered ≡ true)
      parts = and_parts (is_none p.divided) (is_empty p.clustered) first.1

      some_none : (o : Option (ℕ × ℕ)) (d : ℕ × ℕ) → is_none o ≡ true → o ≡ Some d → ⊥
      some_none o d none some = false≢true (sym (ap (λ (x : Option (ℕ × ℕ)). is_none x) some) ∙ none)

  -- the leaf of a put is one of the table, or the one that was moved
  leaf_is : (moved_to : Option ℕ) → ((q : ℕ) → moved_to ≡ Some q → Has (free_pages state) q) → (leaves : List Leaf) (x : Leaf) → Has (moved_leaves moved_to leaves) x
      → Has (map (λ (leaf : Leaf). leaf.page) leaves ++ free_pages state) x.page
  leaf_is moved_to each [] x h = absurd h
  leaf_is None each (leaf ∷ []) x (inl e) = inl (ap (λ (y : Leaf). y.page) e)
  leaf_is (Some q) each (leaf ∷ []) x (inl e) = inr (subst (Has (free_pages state)) (ap (λ (y : Leaf). y.page) e) (each q refl))
  leaf_is moved_to each (leaf ∷ []) x (inr h) = absurd h
  leaf_is moved_to each (a ∷ b ∷ rest) x h =
      Has-append_left (map (λ (leaf : Leaf). leaf.page) (a ∷ b ∷ rest)) (free_pages state) x.page (Has-map_of (λ (leaf : Leaf). leaf.page) (a ∷ b ∷ rest) x h)

  put_listed : (n : ℕ) → most ≡ n → list_any (λ leaf. leaf.page == p.leaf) (moved_leaves p.moved table.leaves) ≡ true
      → table_after_row (clipped_put n p) change placed change.new table ≡ table_after_row p change placed change.new table
      → Has (rows_behind state s number change placed) (after_row state s number change placed p)
  unfolding leaf_pages
  put_listed n is_most there same =
      listed (clipped_put n p) (record {
        moved = λ q e. free_has state q (moved.0 q e);
        leaf = inr (subst (Has (map (λ (leaf : Leaf). leaf.page) table.leaves ++ free_pages state)) (eqb-true found.x.page p.leaf found.passes)
            (leaf_is p.moved (λ q e. free_has state q (moved.0 q e)) table.leaves found.x found.has));
        part = λ d e. part_is p.divided right.0 d e;
        clustered = is_clustered;
        undo = is_undo;
      }) same refl
    where
      found : Passing (λ (leaf : Leaf). leaf.page == p.leaf) (moved_leaves p.moved table.leaves)
      found = any_has (λ (leaf : Leaf). leaf.page == p.leaf) (moved_leaves p.moved table.leaves) there

      part_is : (o : Option (ℕ × ℕ)) → ((d : ℕ × ℕ) → o ≡ Some d → is_free state d.0 ≡ true) → (d : ℕ × ℕ) → option_map (clipped_part n) o ≡ Some d → Has (free_pages state) d.0 × (d.1 ≤ most)
      part_is None each d e = absurd (none_some d e)
      part_is (Some c) each d e =
          let is : clipped_part n c ≡ d = some_is (clipped_part n c) d e in
          let low : clipped n c.1 ≤ n = clipped_low n c.1 in
          (subst (Has (free_pages state)) (ap (λ (x : ℕ × ℕ). x.0) is) (free_has state c.0 (each c refl)), omega (arith, low, is_most, ap (λ (x : ℕ × ℕ). x.1) is))

  pub rows_have : Has (rows_behind state s number change placed) (after_row state s number change placed p)
  rows_have = by_new change.new refl may.fits
    where
      by_slot : (new : Row) → change.new ≡ Some new → (b : Bool) → needs_slot (row_bytes table.schema new) (kept_at table change.key) ≡ b
          → cond b (fits_put p change placed table) (takes_undo_alone p) ≡ true → Has (rows_behind state s number change placed) (after_row state s number change placed p)
      by_slot new e true slot fits =
          put_listed (rows_bound change.key (row_kept table change placed new) table.leaves) (ap (most_rows table change placed) e) there same
        where
          there : list_any (λ leaf. leaf.page == p.leaf) (moved_leaves p.moved table.leaves) ≡ true
          there =
              (and_parts (list_any (λ leaf. leaf.page == p.leaf) (moved_leaves p.moved table.leaves)) (ascend (keys_of_leaves (table_after_row p change placed change.new table).leaves))
              (and_parts (is_none p.moved || (length table.leaves == 1))
              (list_any (λ leaf. leaf.page == p.leaf) (moved_leaves p.moved table.leaves) && ascend (keys_of_leaves (table_after_row p change placed change.new table).leaves)) fits).1).0

          same : table_after_row (clipped_put (rows_bound change.key (row_kept table change placed new) table.leaves) p) change placed change.new table ≡ table_after_row p change placed change.new table
          same =
              ap (λ o. table_after_row (clipped_put (rows_bound change.key (row_kept table change placed new) table.leaves) p) change placed o table) e
              ∙ ap (λ leaves. cond (needs_slot (row_bytes table.schema new) (kept_at table change.key))
              (record table { leaves = leaves; others = table.others ++ (pages_left p.moved table.leaves ++ p.clustered) })
              (table_with_row change.key (λ other. row_kept table change placed new) table)) (leaves_clipped p change.key (row_kept table change placed new) table.leaves)
              ∙ sym (ap (λ o. table_after_row p change placed o table) e)
      by_slot new e false slot fits = unput fits same
        where
          same : table_after_row (record p { leaf = 0 }) change placed change.new table ≡ table_after_row p change placed change.new table
          same =
              ap (λ o. table_after_row (record p { leaf = 0 }) change placed o table) e
              ∙ ap (λ b. cond b (table_after_put (record p { leaf = 0 }) change.key (row_kept table change placed new) table) (table_with_row change.key (λ other. row_kept table change placed new) table)) slot
              ∙ sym (ap (λ b. cond b (table_after_put p change.key (row_kept table change placed new) table) (table_with_row change.key (λ other. row_kept table change placed new) table)) slot)
              ∙ sym (ap (λ o. table_after_row p change placed o table) e)

      by_new : (new : Option Row) → change.new ≡ new → cond (is_put table change change.new) (fits_put p change placed table) (takes_undo_alone p) ≡ true
          → Has (rows_behind state s number change placed) (after_row state s number change placed p)
      by_new None e fits =
          unput (ap (λ o. cond (is_put table change o) (fits_put p change placed table) (takes_undo_alone p)) (sym e) ∙ fits)
          (ap (λ o. table_after_row (record p { leaf = 0 }) change placed o table) e ∙ sym (ap (λ o. table_after_row p change placed o table) e))
      by_new (Some new) e fits =
          by_slot new e (needs_slot (row_bytes table.schema new) (kept_at table change.key)) refl
          (ap (λ o. cond (is_put table change o) (fits_put p change placed table) (takes_undo_alone p)) (sym e) ∙ fits)
