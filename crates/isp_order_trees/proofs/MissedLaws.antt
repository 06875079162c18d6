-- In a state in order a search with nothing left to visit has found each committed row that satisfies its predicate.
use Rattle.std.proofs.Common.{◌≡◌, ◌⊎◌, ◌∙◌, ◌+◌, ◌≤◌, inl, inr, refl, sym, ap, subst, ℕ, ℤ, suc, ◌==◌, Bool, true, false, cond, Option, Some, None, List, [], ◌∷◌, length, arith, eqb-true, eq-eqb}
use Rattle.std.specs.Prelude.{find}
use Rattle.std.specs.Option.{option_and_then, option_map, option_or}
use Rattle.std.specs.Ordering.{int_eq}
use Rattle.std.proofs.lemmas.Bool.{and_parts}
use Rattle.isp_base.specs.Lists.{Has}
use Rattle.isp_mbr.specs.Predicates.{satisfies}
use Rattle.isp_reclock.proofs.BlockerLemmas.{find_passes}
use Rattle.isp_forest.specs.Search.{IsOwn}
use Rattle.isp_searches.proofs.FoundLaws.{found_all}
use Rattle.isp_events.specs.Stored.{KeptRow, StoredTable, Version, box_in, indexed, kept_at, number_at, present, rows_of, table_at, table_from, tree_of, version_of}
use Rattle.isp_events.specs.Sessions.{How, by_placing, by_replacing, Image, was_absent, was_there, was_marked, Note, SessionState, UndoEntry, session_at}
use Rattle.isp_events.specs.State.{State, TreeSearch}
use Rattle.isp_events.specs.Views.{committed_at, first_image, first_image_of_all, is_of_key, version_in, version_or}
use Rattle.isp_events.specs.Ways.{Machine}
use Rattle.isp_order.specs.Trees.{FitsSlot, HasEntries, HasNumber, IsKeyed, IsPending, IsRestorable, IsSettled, IsStored, StandsAt, committed_version, entry_of, is_placing, leaf_entry, placed_in, version_kept}
use Rattle.isp_order.specs.Searches.{items_of}
use Rattle.isp_order.specs.InOrder.{InOrder}
use Rattle.isp_order.proofs.RowLaws.{key_is, lookup_has}
use Rattle.isp_order_trees.specs.Missed.{MissesNothing, WroteLater}
use Rattle.isp_order_trees.proofs.CoveredLaws.{find_has, listed}
use Rattle.isp_order_trees.proofs.NoteParts.{IsItemOf, IsNoted, in_noted, item_is, items_noted}

-- ---- where a committed row stands

pub record FromUndo (sessions : List SessionState) (table : ℕ) (key : ℤ) (image : Image) : Type 0 where
  pub s : ℕ
  pub undo : UndoEntry
  pub has : Has (session_at sessions s).undo undo
  pub of_table : undo.table ≡ table
  pub of_key : undo.key ≡ key
  pub is : undo.image ≡ image

first_of : (undo : List UndoEntry) (table : ℕ) (key : ℤ) (image : Image) → first_image undo table key ≡ Some image
    → (u : UndoEntry) × Has undo u × (u.table ≡ table) × (u.key ≡ key) × (u.image ≡ image)
first_of undo table key image h = by_found (find (is_of_key table key) undo) refl h
  where
    by_found : (o : Option UndoEntry) → find (is_of_key table key) undo ≡ o → option_map (λ (u : UndoEntry). u.image) o ≡ Some image
        → (u : UndoEntry) × Has undo u × (u.table ≡ table) × (u.key ≡ key) × (u.image ≡ image)
    by_found None e k = let no : ⊥ = cc in absurd no
    by_found (Some u) e k =
        let parts = and_parts (u.table == table) (int_eq u.key key) (find_passes (is_of_key table key) undo u e) in
        (u, find_has (is_of_key table key) undo u e, eqb-true u.table table parts.0, key_is u.key key parts.1, cc)

pub image_from : (sessions : List SessionState) (table : ℕ) (key : ℤ) (image : Image) → first_image_of_all sessions table key ≡ Some image → FromUndo sessions table key image
image_from [] table key image h = let no : ⊥ = cc in absurd no
image_from (x ∷ sessions) table key image h = by_first (first_image x.undo table key) refl h (λ k. image_from sessions table key image k)
  where
    by_first : (o : Option Image) → first_image x.undo table key ≡ o → option_or o (first_image_of_all sessions table key) ≡ Some image
        → (first_image_of_all sessions table key ≡ Some image → FromUndo sessions table key image) → FromUndo (x ∷ sessions) table key image
    by_first None e k again = let r : FromUndo sessions table key image = again k in
        record { s = suc r.s; undo = r.undo; has = r.has; of_table = r.of_table; of_key = r.of_key; is = r.is }
    by_first (Some i) e k again =
        let r = first_of x.undo table key i e in
        record { s = 0; undo = r.0; has = r.1; of_table = r.2; of_key = r.3; is = r.4 ∙ (let same : i ≡ image = cc in same) }

pub committed_from : (tables : List StoredTable) (sessions : List SessionState) (table : ℕ) (key : ℤ) (version : Version) → committed_version tables sessions table key ≡ Some version
    → StandsAt tables table key version ⊎ FromUndo sessions table key (was_there version)
committed_from tables sessions table key version h = by_image (first_image_of_all sessions table key) refl h
  where
    there : (image : Image) → version_in image ≡ Some version → image ≡ was_there version
    there was_absent k = let no : ⊥ = cc in absurd no
    there (was_there v) k = let same : v ≡ version = cc in ap was_there same
    there (was_marked v) k = let no : ⊥ = cc in absurd no

    by_image : (o : Option Image) → first_image_of_all sessions table key ≡ o → version_or o (present (table_at tables table) key) ≡ Some version
        → StandsAt tables table key version ⊎ FromUndo sessions table key (was_there version)
    by_image None e k = inl k
    by_image (Some image) e k = inr (image_from sessions table key (was_there version) (e ∙ ap Some (there image k)))

-- ---- a row has a number for each column

pub table_kept : (k i : ℕ) (tables : List StoredTable) (key : ℤ) (kept : KeptRow) → kept_at (table_from k tables i) key ≡ Some kept → Has tables (table_from k tables i)
table_kept k i [] key kept h = let no : ⊥ = cc in absurd no
table_kept k i (t ∷ tables) key kept h = by_test (k == i) h (λ z. table_kept (suc k) i tables key kept z)
  where
    by_test : (b : Bool) → kept_at (cond b t (table_from (suc k) tables i)) key ≡ Some kept → (kept_at (table_from (suc k) tables i) key ≡ Some kept → Has tables (table_from (suc k) tables i))
        → Has (t ∷ tables) (cond b t (table_from (suc k) tables i))
    by_test true z again = inl refl
    by_test false z again = inr (again z)

pub record IsKept (table : StoredTable) (key : ℤ) (version : Version) : Type 0 where
  pub kept : KeptRow
  pub there : kept_at table key ≡ Some kept
  pub unmarked : kept.mark ≡ false
  pub is : version_kept kept ≡ version

pub present_kept : (table : StoredTable) (key : ℤ) (version : Version) → present table key ≡ Some version → IsKept table key version
present_kept table key version h = by_kept (kept_at table key) refl h
  where
    by_mark : (kept : KeptRow) → kept_at table key ≡ Some kept → (b : Bool) → kept.mark ≡ b → cond b None (Some (version_kept kept)) ≡ Some version → IsKept table key version
    by_mark kept e true t k = let no : ⊥ = cc in absurd no
    by_mark kept e false t k = record { kept = kept; there = e; unmarked = t; is = cc }

    by_kept : (o : Option KeptRow) → kept_at table key ≡ o → option_and_then version_of o ≡ Some version → IsKept table key version
    by_kept None e k = let no : ⊥ = cc in absurd no
    by_kept (Some kept) e k = by_mark kept e kept.mark refl k

pub has_number : (columns numbers : List ℕ) (c : ℕ) → length numbers ≡ length columns → Has columns c → (n : ℕ) × (number_at columns numbers c ≡ Some n)
has_number [] numbers c same h = absurd h
has_number (k ∷ columns) [] c same h = let no : ⊥ = omega (arith, same) in absurd no
has_number (k ∷ columns) (n ∷ numbers) c same h = by_test (k == c) refl h (λ z. has_number columns numbers c (omega (arith, same)) z)
  where
    by_test : (b : Bool) → (k == c) ≡ b → Has (k ∷ columns) c → (Has columns c → (x : ℕ) × (number_at columns numbers c ≡ Some x))
        → (x : ℕ) × (cond b (Some n) (number_at columns numbers c) ≡ Some x)
    by_test true e z again = (n, refl)
    by_test false e (inl is) again = let yes : (k == c) ≡ true = eq-eqb k c is in let no : ⊥ = cc in absurd no
    by_test false e (inr z) again = again z

placed_is : (how : How) (n : ℕ) → is_placing how ≡ true → placed_in how n ≡ Some n
placed_is by_placing n h = refl
placed_is by_replacing n h = let no : ⊥ = cc in absurd no

module _ (m : Machine) (state : State) (o : InOrder m state) where
  pub stands_stored : (table : ℕ) (key : ℤ) (version : Version) → StandsAt state.tables table key version → length version.numbers ≡ length (indexed (table_at state.tables table))
  stands_stored table key version stands =
      let k : IsKept (table_at state.tables table) key version = present_kept (table_at state.tables table) key version stands in
      let keyed : IsKeyed (table_at state.tables table) = o.keyed.each (table_at state.tables table) (table_kept 1 table state.tables key k.kept k.there) in
      let stored : IsStored (table_at state.tables table) key k.kept.slot (version_kept k.kept) =
      keyed.rows key k.kept (lookup_has (rows_of (table_at state.tables table)) key k.kept k.there) in
      subst (λ (v : Version). length v.numbers ≡ length (indexed (table_at state.tables table))) k.is stored.each_column

  undo_stored : (table : ℕ) (key : ℤ) (version : Version) → FromUndo state.sessions table key (was_there version) → length version.numbers ≡ length (indexed (table_at state.tables table))
  undo_stored table key version u =
      let r : IsRestorable state.tables (session_at state.sessions u.s) u.undo = o.restorable u.s u.undo u.has in
      let stored : IsStored (table_at state.tables u.undo.table) u.undo.key r.kept.slot version =
      subst (λ (i : Image). FitsSlot (table_at state.tables u.undo.table) u.undo.key r.kept.slot i) u.is r.fits in
      subst (λ n. length version.numbers ≡ length (indexed (table_at state.tables n))) u.of_table stored.each_column

  undo_entered : (table : ℕ) (key : ℤ) (version : Version) → FromUndo state.sessions table key (was_there version) → HasEntries state.tables table key version
  undo_entered table key version u =
      subst (λ n. HasEntries state.tables n key version) u.of_table
      (subst (λ k. HasEntries state.tables u.undo.table k version) u.of_key (o.entered.images u.s u.undo version (u.has, u.is)))

  module _ (x : TreeSearch) (among : Has state.searches x) (done : x.search.stack ≡ []) where
    -- a row with its entries is found, or its entry is the session's own
    found : (key : ℤ) (version : Version) (number : ℕ) → HasEntries state.tables x.table key version → HasNumber state.tables x.table version x.column number
        → satisfies x.search.predicate (box_in version.row x.column) ≡ true → Has x.search.found key ⊎ IsOwn x.search (items_of state.sessions x.table x.column) key number
    found key version number entries has good =
        found_all (tree_of (table_at state.tables x.table) x.column) x.search (items_of state.sessions x.table x.column) (o.whole x.table x.column (listed m state o x among))
        (o.covered x among) (o.known x among) done (leaf_entry (entry_of x.table key version x.column number)) key number (entries x.column number has) good

    own_note : (key : ℤ) (number : ℕ) (own : IsOwn x.search (items_of state.sessions x.table x.column) key number)
        → (note : Note) × Has (session_at state.sessions x.search.session).notes note × IsItemOf x.search.session note own.item
    own_note key number own =
        let n : IsNoted state.sessions 0 x.table x.column own.item = items_noted 0 x.table x.column state.sessions own.item own.among in
        let is : IsItemOf (0 + n.place) n.note own.item = item_is (0 + n.place) x.table x.column n.note own.item n.is in
        let at : n.place ≡ x.search.session = omega (arith, is.session, own.session) in
        let is' : IsItemOf x.search.session n.note own.item = record { session = own.session; placing = is.placing; statement = is.statement; key = is.key; number = is.number } in
        (n.note, subst (λ z. Has (session_at state.sessions z).notes n.note) at n.has, is')

    pub committed_found : (key : ℤ) (version : Version) → committed_at state x.table key ≡ Some version → satisfies x.search.predicate (box_in version.row x.column) ≡ true
        → Has x.search.found key
    committed_found key version committed good = by_place (committed_from state.tables state.sessions x.table key version committed)
      where
        by_found : (number : ℕ) → HasNumber state.tables x.table version x.column number → Has x.search.found key ⊎ IsOwn x.search (items_of state.sessions x.table x.column) key number
            → Has x.search.found key
        by_found number has (inl f) = f
        by_found number has (inr own) =
            let n = own_note key number own in
            let same : n.0.entry.number ≡ number = sym n.2.number ∙ own.same_number in
            let pending : IsPending state.sessions x.search.session number =
            in_noted (λ (z : Note). placed_in z.how z.entry.number) (session_at state.sessions x.search.session).notes n.0 number n.1 (placed_is n.0.how n.0.entry.number n.2.placing ∙ ap Some same) in
            let settled : IsSettled state.tables state.sessions x.table x.column key number = record { version = version; committed = committed; has = has } in
            absurd (o.one_status.settled_done x.table x.column key number x.search.session settled pending)

        by_place : StandsAt state.tables x.table key version ⊎ FromUndo state.sessions x.table key (was_there version) → Has x.search.found key
        by_place (inl stands) =
            let n = has_number (indexed (table_at state.tables x.table)) version.numbers x.column (stands_stored x.table key version stands) (listed m state o x among) in
            by_found n.0 n.1 (found key version n.0 (o.entered.rows x.table key version stands) n.1 good)
        by_place (inr undo) =
            let n = has_number (indexed (table_at state.tables x.table)) version.numbers x.column (undo_stored x.table key version undo) (listed m state o x among) in
            by_found n.0 n.1 (found key version n.0 (undo_entered x.table key version undo) n.1 good)

    pub seen_found : (key : ℤ) (version : Version) → StandsAt state.tables x.table key version → satisfies x.search.predicate (box_in version.row x.column) ≡ true
        → Has x.search.found key ⊎ WroteLater state x key version
    seen_found key version stands good =
        let n = has_number (indexed (table_at state.tables x.table)) version.numbers x.column (stands_stored x.table key version stands) (listed m state o x among) in
        by_found n.0 n.1 (found key version n.0 (o.entered.rows x.table key version stands) n.1 good)
      where
        by_found : (number : ℕ) → HasNumber state.tables x.table version x.column number → Has x.search.found key ⊎ IsOwn x.search (items_of state.sessions x.table x.column) key number
            → Has x.search.found key ⊎ WroteLater state x key version
        by_found number has (inl f) = inl f
        by_found number has (inr own) =
            let n = own_note key number own in
            inr (record {
              note = n.0;
              noted = n.1;
              placed = n.2.placing;
              later = subst (λ z. x.search.statement ≤ z) n.2.statement own.later;
              same_key = sym n.2.key ∙ own.same_key;
              same_number = has ∙ ap Some (sym own.same_number ∙ n.2.number);
            })

pub nothing_missed : (m : Machine) (state : State) → InOrder m state → (x : TreeSearch) → Has state.searches x → x.search.stack ≡ [] → MissesNothing state x
nothing_missed m state o x among done = record { committed = committed_found m state o x among done; seen = seen_found m state o x among done }
