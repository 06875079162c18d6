-- Each number of an unmarked row, and of an unmarked image of an undo list, is settled, or pending with the key's writer.
use Rattle.std.proofs.Common.{◌≡◌, ◌⊎◌, ◌∙◌, inl, inr, refl, sym, ap, subst, ℕ, ℤ, ◌==◌, Bool, true, false, cond, Option, Some, None, List, [], ◌∷◌, ◌++◌, map, eqb-true}
use Rattle.std.specs.Prelude.{filter, filter_map, find, is_some, slice_set}
use Rattle.std.specs.Option.{option_and_then, option_map, option_or, unwrap_or}
use Rattle.std.proofs.lemmas.Bool.{false≢true}
use Rattle.std.proofs.lemmas.List.{append-nil}
use Rattle.isp_base.specs.Lists.{Has}
use Rattle.isp_plain.specs.declared.value.Row.{Row}
use Rattle.isp_reclock.specs.Tables.{takes}
use Rattle.isp_reclock.proofs.BlockerLemmas.{find_passes}
use Rattle.isp_laws.proofs.ListLaws.{Has-append, Has-append_left, Has-append_right}
use Rattle.isp_events.specs.Stored.{KeptRow, StoredTable, Version, change_table, indexed, kept_at, number_at, present, row_of, table_at, version_of}
use Rattle.isp_events.specs.Sessions.{Change, Image, was_absent, was_there, was_marked, Note, SessionState, UndoEntry, columns_for, moves, session_at}
use Rattle.isp_events.specs.State.{State, front}
use Rattle.isp_events.specs.Views.{first_image, first_image_of_all, has_written, is_of_key, version_in, version_or}
use Rattle.isp_events.specs.Ways.{Machine}
use Rattle.isp_events.specs.Deadlocks.{with_victims}
use Rattle.isp_events.specs.Placing.{note_of, session_after_place, table_after_place, tree_after_place}
use Rattle.isp_events.specs.Writing.{MayWriteRow, Put, image_of, marked, number_for, numbers_after, numbers_kept, placed_for, replaced_notes, session_after_row, table_after_row, table_with_row}
use Rattle.isp_events.specs.Ending.{new_table, restored, session_after_undo}
use Rattle.isp_events.specs.Purging.{tables_purged}
use Rattle.isp_events.specs.Events.{Actor, Choice, MayHappen, after}
use Rattle.isp_order.specs.Trees.{AreNamed, HasNumber, IsOfWriter, IsPending, IsSettled, NamesOwn, StandsAt, WouldRestore, committed_version, placed_by, placed_in, version_kept}
use Rattle.isp_order.specs.Work.{HasCollected, IsCollecting}
use Rattle.isp_order.specs.InOrder.{InOrder, IsProper}
use Rattle.isp_order.proofs.RowLaws.{row_changed}
use Rattle.isp_order.proofs.SessionLaws.{each_changed, none_has, not_same, other_at}
use Rattle.isp_order.proofs.TableLaws.{kept_of}
use Rattle.isp_causes.specs.Causes.{IsActive, IsEntering, IsUndoing, IsWritingRow}
use Rattle.isp_causes.proofs.EventCases.{EachKeeps, event_keeps}
use Rattle.isp_order_trees.proofs.TreeParts.{change_leaves_trees, indexed_stay, same_indexed}
use Rattle.isp_order_trees.proofs.NoteParts.{in_noted, noted_in, set_leaves, set_relates, victims_leave}
use Rattle.isp_order_trees.proofs.WholeLaws.{after_row_leaves_trees}
use Rattle.isp_order_trees.proofs.CoveredLaws.{find_has, top_of}
use Rattle.isp_order_trees.proofs.MissedLaws.{FromUndo, IsKept, has_number, image_from, present_kept, stands_stored}
use Rattle.isp_order_entries.proofs.RowParts.{not_placed, number_mapped, placed_has}
use Rattle.isp_order_entries.proofs.EnteredLaws.{at_hand, with_row}
use Rattle.isp_order_reads.proofs.RowFrames.{purged_present}
use Rattle.isp_order_one.proofs.ImageLaws.{all_set, all_victims, is_own_key, not_own_key, of_key_parts}
use Rattle.isp_order_one.proofs.CommittedLaws.{committed_same, is_here, not_same_is, others_none, row_committed, row_elsewhere, taken_once, undo_committed, undo_elsewhere, undo_here}
use Rattle.isp_order_one.proofs.OneStatusLaws.{created_named, created_stood, purged_columns}

-- ---- who wrote a key

record Writes (sessions : List SessionState) (j t : ℕ) (k : ℤ) : Type 0 where
  undo : UndoEntry
  has : Has (session_at sessions j).undo undo
  of_table : undo.table ≡ t
  of_key : undo.key ≡ k

written_has : (us : List UndoEntry) (t : ℕ) (k : ℤ) (u : UndoEntry) → Has us u → is_of_key t k u ≡ true → is_some (find (is_of_key t k) us) ≡ true
written_has [] t k u h e = absurd h
written_has (x ∷ us) t k u (inl is) e = let here : is_of_key t k x ≡ true = ap (is_of_key t k) is ∙ e in ap (λ b. is_some (cond b (Some x) (find (is_of_key t k) us))) here
written_has (x ∷ us) t k u (inr h) e = later (is_of_key t k x) (written_has us t k u h e)
  where
    later : (b : Bool) → is_some (find (is_of_key t k) us) ≡ true → is_some (cond b (Some x) (find (is_of_key t k) us)) ≡ true
    later true z = refl
    later false z = z

has_written_of : (sessions : List SessionState) (j t : ℕ) (k : ℤ) → Writes sessions j t k → has_written (session_at sessions j) t k ≡ true
has_written_of sessions j t k w = written_has (session_at sessions j).undo t k w.undo w.has (is_own_key t k w.undo w.of_table w.of_key)

writes_from : (sessions : List SessionState) (j t : ℕ) (k : ℤ) → has_written (session_at sessions j) t k ≡ true → Writes sessions j t k
writes_from sessions j t k h = by_found (find (is_of_key t k) (session_at sessions j).undo) refl h
  where
    by_found : (o : Option UndoEntry) → find (is_of_key t k) (session_at sessions j).undo ≡ o → is_some o ≡ true → Writes sessions j t k
    by_found None e z = absurd (false≢true z)
    by_found (Some u) e z =
        let parts = of_key_parts t k u (find_passes (is_of_key t k) (session_at sessions j).undo u e) in
        record { undo = u; has = find_has (is_of_key t k) (session_at sessions j).undo u e; of_table = parts.0; of_key = parts.1 }

-- ---- images and rows

image_there : (image : Image) (v : Version) → version_in image ≡ Some v → image ≡ was_there v
image_there was_absent v z = let no : ⊥ = cc in absurd no
image_there (was_there w) v z = let is : w ≡ v = cc in ap was_there is
image_there (was_marked w) v z = let no : ⊥ = cc in absurd no

image_present : (x : Option KeptRow) (v : Version) → image_of x ≡ was_there v → option_and_then version_of x ≡ Some v
image_present None v h = let no : ⊥ = cc in absurd no
image_present (Some kept) v h = by_mark kept.mark h
  where
    by_mark : (b : Bool) → cond b (was_marked (version_kept kept)) (was_there (version_kept kept)) ≡ was_there v → cond b None (Some (version_kept kept)) ≡ Some v
    by_mark true z = let no : ⊥ = cc in absurd no
    by_mark false z = let is : version_kept kept ≡ v = cc in ap Some is

unmarks_none : (x : Option KeptRow) (v : Version) → option_and_then version_of (option_map marked x) ≡ Some v → ⊥
unmarks_none None v h = cc
unmarks_none (Some kept) v h = cc

more_placed : (notes more : List Note) (n : ℕ) → Has (filter_map (λ (note : Note). placed_in note.how note.entry.number) notes) n
    → Has (filter_map (λ (note : Note). placed_in note.how note.entry.number) (notes ++ more)) n
more_placed notes more n h =
    let r = noted_in (λ (note : Note). placed_in note.how note.entry.number) notes n h in
    in_noted (λ (note : Note). placed_in note.how note.entry.number) (notes ++ more) r.0 n (Has-append_left notes more r.0 r.1) r.2

module _ (m : Machine) (state : State) (o : InOrder m state) where
  abbrev Owned : ℕ → ℤ → ℕ → ℕ → Type 0
  Owned t k c n = IsSettled state.tables state.sessions t c k n ⊎ IsOfWriter state.sessions t k n

  -- of a key that a session has written then: what is committed stays, it took the key, and what it placed is pending with it
  record KeepsKey (tables : List StoredTable) (sessions : List SessionState) (j t : ℕ) (k : ℤ) : Type 0 where
    columns : indexed (table_at tables t) ≡ indexed (table_at state.tables t)
    committed : committed_version tables sessions t k ≡ committed_version state.tables state.sessions t k
    taken : takes state.locks t k j ≡ true
    pending : (n : ℕ) → IsPending state.sessions j n → IsPending sessions j n

  writer_takes : (j t : ℕ) (k : ℤ) → Writes state.sessions j t k → takes state.locks t k j ≡ true
  writer_takes j t k w =
      subst (λ a. takes state.locks a k j ≡ true) w.of_table (subst (λ a. takes state.locks w.undo.table a j ≡ true) w.of_key (o.written_locked.undone j w.undo w.has))

  same_taker : (t : ℕ) (k : ℤ) (i j : ℕ) → takes state.locks t k i ≡ true → takes state.locks t k j ≡ true → i ≡ j
  same_taker t k i j h z = by_test (i == j) refl
    where
      by_test : (b : Bool) → (i == j) ≡ b → i ≡ j
      by_test true e = eqb-true i j e
      by_test false e = absurd (taken_once m state o t k i j h z e)

  carry : (tables : List StoredTable) (sessions : List SessionState) (j t : ℕ) (k : ℤ) → KeepsKey tables sessions j t k → Writes sessions j t k → (c n : ℕ) → Owned t k c n
      → IsSettled tables sessions t c k n ⊎ IsOfWriter sessions t k n
  carry tables sessions j t k keeps w c n (inl i) = inl (record {
    version = i.version;
    committed = keeps.committed ∙ i.committed;
    has = subst (λ cs. number_at cs i.version.numbers c ≡ Some n) (sym keeps.columns) i.has;
  })
  carry tables sessions j t k keeps w c n (inr own) =
      let at : own.session ≡ j = same_taker t k own.session j (writer_takes own.session t k (writes_from state.sessions own.session t k own.writes)) keeps.taken in
      inr (record { session = j; writes = has_written_of sessions j t k w; pending = keeps.pending n (subst (λ a. IsPending state.sessions a n) at own.pending) })

  -- a row at a key that nobody has written then is the committed one
  named_to : (tables : List StoredTable) (sessions : List SessionState) → ((j t : ℕ) (k : ℤ) → Writes sessions j t k → KeepsKey tables sessions j t k)
      → ((t : ℕ) (k : ℤ) (v : Version) → StandsAt tables t k v → (c n : ℕ) → HasNumber state.tables t v c n → Owned t k c n ⊎ IsOfWriter sessions t k n)
      → ((j : ℕ) (u : UndoEntry) (v : Version) → WouldRestore sessions j u v → NamesOwn state.tables state.sessions u.table u.key v) → AreNamed tables sessions
  named_to tables sessions keeps rows images = record {
    rows = λ t k v stands c n has. by_image t k v stands c n has (first_image_of_all sessions t k) refl;
    images = λ j u v w c n has. by_writer j u v w c n has (keeps j u.table u.key (record { undo = u; has = w.0; of_table = refl; of_key = refl }));
  }
    where
      by_writer : (j : ℕ) (u : UndoEntry) (v : Version) → WouldRestore sessions j u v → (c n : ℕ) → HasNumber tables u.table v c n → KeepsKey tables sessions j u.table u.key
          → IsSettled tables sessions u.table c u.key n ⊎ IsOfWriter sessions u.table u.key n
      by_writer j u v w c n has keep =
          carry tables sessions j u.table u.key keep (record { undo = u; has = w.0; of_table = refl; of_key = refl }) c n
          (images j u v w c n (subst (λ cs. number_at cs v.numbers c ≡ Some n) keep.columns has))

      by_image : (t : ℕ) (k : ℤ) (v : Version) → StandsAt tables t k v → (c n : ℕ) → HasNumber tables t v c n → (x : Option Image) → first_image_of_all sessions t k ≡ x
          → IsSettled tables sessions t c k n ⊎ IsOfWriter sessions t k n
      by_image t k v stands c n has None e = inl (record { version = v; committed = ap (λ x. version_or x (present (table_at tables t) k)) e ∙ stands; has = has })
      by_image t k v stands c n has (Some image) e =
          let u : FromUndo sessions t k image = image_from sessions t k image e in
          let w : Writes sessions u.s t k = record { undo = u.undo; has = u.has; of_table = u.of_table; of_key = u.of_key } in
          let keep : KeepsKey tables sessions u.s t k = keeps u.s t k w in
          elim (rows t k v stands c n (subst (λ cs. number_at cs v.numbers c ≡ Some n) keep.columns has)) [ inl before ↦ carry tables sessions u.s t k keep w c n before | inr new ↦ inr new ]

  -- undo lists and rows stay
  named_same : (tables : List StoredTable) (sessions : List SessionState) → ((j : ℕ) → (session_at sessions j).undo ≡ (session_at state.sessions j).undo)
      → ((t : ℕ) (k : ℤ) → first_image_of_all sessions t k ≡ first_image_of_all state.sessions t k) → ((j n : ℕ) → IsPending state.sessions j n → IsPending sessions j n)
      → ((t : ℕ) → indexed (table_at tables t) ≡ indexed (table_at state.tables t)) → ((t : ℕ) (k : ℤ) → present (table_at tables t) k ≡ present (table_at state.tables t) k)
      → AreNamed tables sessions
  named_same tables sessions undo images pending columns rows = named_to tables sessions
      (λ j t k w. record {
        columns = columns t;
        committed = committed_same state.tables tables state.sessions sessions t k (images t k) (rows t k);
        taken = writer_takes j t k (record { undo = w.undo; has = subst (λ (list : List UndoEntry). Has list w.undo) (undo j) w.has; of_table = w.of_table; of_key = w.of_key });
        pending = pending j;
      })
      (λ t k v stands c n has. inl (o.named.rows t k v (sym (rows t k) ∙ stands) c n has))
      (λ j u v w. o.named.images j u v (subst (λ (list : List UndoEntry). Has list u) (undo j) w.0, w.1))

  pending_more : (s : ℕ) (new : SessionState) → ((n : ℕ) → Has (placed_by (session_at state.sessions s)) n → Has (placed_by new) n) → (j n : ℕ) → IsPending state.sessions j n
      → IsPending (slice_set state.sessions s new) j n
  pending_more s new h j n p = set_relates (λ x y. ((i : ℕ) → Has (placed_by x) i → Has (placed_by y) i)) (λ x i z. z) state.sessions s new h j n p

  named_set : (s : ℕ) (new : SessionState) → new.undo ≡ (session_at state.sessions s).undo → new.notes ≡ (session_at state.sessions s).notes → AreNamed state.tables (slice_set state.sessions s new)
  named_set s new undo notes = named_same state.tables (slice_set state.sessions s new) (set_leaves (λ x. x.undo) state.sessions s new undo)
      (λ t k. all_set state.sessions s new t k (ap (λ (us : List UndoEntry). first_image us t k) undo))
      (pending_more s new (λ n h. subst (λ (list : List Note). Has (filter_map (λ (note : Note). placed_in note.how note.entry.number) list) n) (sym notes) h)) (λ t. refl) (λ t k. refl)

  -- ---- a row is put back

  undo_named : (s : ℕ) (entry : UndoEntry) (more : ℕ) → IsActive state s → IsUndoing m s (session_at state.sessions s) entry
      → AreNamed (change_table entry.table (table_with_row entry.key (restored entry.image)) state.tables) (slice_set state.sessions s (session_after_undo more (session_at state.sessions s)))
  undo_named s entry more active at = named_to then (slice_set state.sessions s new)
      (λ j t k w. record {
        columns = same_indexed state.tables then (change_leaves_trees entry.table (table_with_row entry.key (restored entry.image)) state.tables (λ x. refl)) t;
        committed = undo_committed m state o s entry more active at t k;
        taken = writer_takes j t k (record { undo = w.undo; has = before j w.undo w.has; of_table = w.of_table; of_key = w.of_key });
        pending = pending_more s new (λ n h. h) j;
      })
      (λ t k v stands c n has. inl (rows t k v stands c n has (is_of_key t k entry) refl))
      (λ j u v w. o.named.images j u v (before j u w.0, w.1))
    where
      then : List StoredTable
      then = change_table entry.table (table_with_row entry.key (restored entry.image)) state.tables

      new : SessionState
      new = session_after_undo more (session_at state.sessions s)

      top : (session_at state.sessions s).undo ≡ front (session_at state.sessions s).undo ++ entry ∷ []
      top = top_of (session_at state.sessions s).undo entry at.newest

      among : Has (session_at state.sessions s).undo entry
      among = subst (λ (list : List UndoEntry). Has list entry) (sym top) (Has-append_right (front (session_at state.sessions s).undo) (entry ∷ []) entry (inl refl))

      before : (j : ℕ) (u : UndoEntry) → Has (session_at (slice_set state.sessions s new) j).undo u → Has (session_at state.sessions j).undo u
      before j u h = set_relates (λ x y. ((z : UndoEntry) → Has y.undo z → Has x.undo z)) (λ x z i. i) state.sessions s new
          (λ z i. subst (λ (list : List UndoEntry). Has list z) (sym top) (Has-append_left (front (session_at state.sessions s).undo) (entry ∷ []) z i)) j u h

      own : (v : Version) → StandsAt then entry.table entry.key v → (c n : ℕ) → HasNumber state.tables entry.table v c n → Owned entry.table entry.key c n
      own v stands c n has =
          let slot = o.restorable s entry among in
          let image : entry.image ≡ was_there v = image_there entry.image v (sym (undo_here m state o entry slot.kept slot.there) ∙ stands) in
          o.named.images s entry v (among, image) c n has

      rows : (t : ℕ) (k : ℤ) (v : Version) → StandsAt then t k v → (c n : ℕ) → HasNumber state.tables t v c n → (b : Bool) → is_of_key t k entry ≡ b → Owned t k c n
      rows t k v stands c n has true e =
          let parts = of_key_parts t k entry e in
          let at_table : StandsAt then entry.table k v = subst (λ a. StandsAt then a k v) (sym parts.0) stands in
          let at_key : StandsAt then entry.table entry.key v = subst (λ a. StandsAt then entry.table a v) (sym parts.1) at_table in
          subst (λ a. Owned a k c n) parts.0
          (subst (λ a. Owned entry.table a c n) parts.1 (own v at_key c n (subst (λ a. HasNumber state.tables a v c n) (sym parts.0) has)))
      rows t k v stands c n has false e = o.named.rows t k v (sym (undo_elsewhere m state o entry t k (not_own_key t k entry e)) ∙ stands) c n has

  -- ---- a row is written

  module _ (s : ℕ) (e : IsEntering (session_at state.sessions s)) (all_placed : e.e.columns ≡ []) (p : Put) (may : MayWriteRow state e.work.table e.change e.e.placed p) (active : IsActive state s) where
    abbrev here : StoredTable
    here = table_at state.tables e.work.table

    abbrev then : List StoredTable
    then = change_table e.work.table (table_after_row p e.change e.e.placed e.change.new) state.tables

    abbrev new : SessionState
    new = session_after_row here e.work.table e.change e.e.placed p.undo (session_at state.sessions s)

    abbrev joined : UndoEntry
    joined = record { table = e.work.table; key = e.change.key; image = image_of (kept_at here e.change.key) }

    collected : HasCollected state.tables state.sessions s e.work e.change e.e
    collected = subst (IsCollecting state.tables state.sessions s e.work) e.phase (o.collected s e.work e.goes_on.at_work)

    row_before : (j : ℕ) (u : UndoEntry) → Has (session_at (slice_set state.sessions s new) j).undo u → Has (session_at state.sessions j).undo u ⊎ ((j ≡ s) × (joined ≡ u))
    row_before j u h = each_changed (λ i x. (Has x.undo u → Has (session_at state.sessions i).undo u ⊎ ((i ≡ s) × (joined ≡ u)))) state.sessions s new active.not_over
        (λ z. elim (Has-append (session_at state.sessions s).undo (joined ∷ []) u z) [ inl old ↦ inl old | inr more ↦ elim more [ inl is ↦ inr (refl, is) | inr none ↦ absurd none ] ])
        (λ i ne z. inl z) j h

    row_pending : (j n : ℕ) → IsPending state.sessions j n → IsPending (slice_set state.sessions s new) j n
    row_pending j n h = pending_more s new (λ i z. more_placed (session_at state.sessions s).notes
        (replaced_notes e.work.table e.change (session_at state.sessions s).number (indexed here) e.e.placed (kept_at here e.change.key)) i z) j n h

    row_writes : Writes (slice_set state.sessions s new) s e.work.table e.change.key
    row_writes = record {
      undo = joined;
      has = each_changed (λ i x. (i ≡ s → Has x.undo joined)) state.sessions s new active.not_over
          (λ z. Has-append_right (session_at state.sessions s).undo (joined ∷ []) joined (inl refl)) (λ i ne z. absurd (not_same i s ne z)) s refl;
      of_table = refl;
      of_key = refl;
    }

    -- a column that got no new entry is one of a row that stood there
    stood_before : (row : Row) (c : ℕ) → e.change.new ≡ Some row → Has (indexed here) c → placed_for e.e.placed c ≡ None → (old : Row) × (e.change.old ≡ Some old)
    stood_before row c is listed none = by_old e.change.old refl
      where
        among : (x : Option Row) → Has (columns_for (indexed (table_at state.tables e.work.table)) e.change.old x) c → e.change.new ≡ x → ⊥
        among x h z =
            let all : map (λ p. p.0) e.e.placed ≡ columns_for (indexed (table_at state.tables e.work.table)) e.change.old e.change.new =
            sym (append-nil (map (λ p. p.0) e.e.placed)) ∙ ap (λ cs. map (λ p. p.0) e.e.placed ++ cs) (sym all_placed) ∙ collected.columns in
            not_placed e.e.placed c none
            (subst (λ cs. Has cs c) (sym all) (subst (λ y. Has (columns_for (indexed (table_at state.tables e.work.table)) e.change.old y) c) (sym z) h))

        in_filter : (t : ℕ → Bool) (xs : List ℕ) → Has xs c → t c ≡ true → Has (filter t xs) c
        in_filter t [] h z = absurd h
        in_filter t (x ∷ xs) (inl i) z = let first : t x ≡ true = ap t i ∙ z in rw first (inl i)
        in_filter t (x ∷ xs) (inr h) z = later (t x) (in_filter t xs h z)
          where
            later : (b : Bool) → Has (filter t xs) c → Has (cond b (x ∷ filter t xs) (filter t xs)) c
            later true k = inr k
            later false k = k

        by_old : (x : Option Row) → e.change.old ≡ x → (old : Row) × (e.change.old ≡ Some old)
        by_old None z = absurd (among (Some row) (in_filter (moves e.change.old row) (indexed (table_at state.tables e.work.table)) listed (ap (λ y. moves y row c) z)) is)
        by_old (Some old) z = (old, z)

    row_there : (x : Option Version) (old : Row) → row_of x ≡ Some old → (v : Version) × (x ≡ Some v)
    row_there None old h = let no : ⊥ = cc in absurd no
    row_there (Some v) old h = (v, refl)

    -- the number that a row that stood there has for the column
    stood_number : (c n : ℕ) (old : Row) → e.change.old ≡ Some old → Has (indexed here) c → unwrap_or (number_at (indexed here) (numbers_kept (kept_at here e.change.key)) c) 0 ≡ n
        → Owned e.work.table e.change.key c n
    stood_number c n old is listed f =
        let r = row_there (present here e.change.key) old ((at_hand m state o s e all_placed p may).stands ∙ is) in
        let k : IsKept here e.change.key r.0 = present_kept here e.change.key r.0 r.1 in
        let nums : numbers_kept (kept_at here e.change.key) ≡ r.0.numbers = ap numbers_kept k.there ∙ ap (λ (w : Version). w.numbers) k.is in
        let x = has_number (indexed here) r.0.numbers c (stands_stored m state o e.work.table e.change.key r.0 r.1) listed in
        let is_n : x.0 ≡ n = ap (λ z. unwrap_or z 0) (sym (ap (λ ns. number_at (indexed here) ns c) nums ∙ x.1)) ∙ f in
        o.named.rows e.work.table e.change.key r.0 r.1 c n (x.1 ∙ ap Some is_n)

    new_number : (row : Row) → e.change.new ≡ Some row → (c n : ℕ) → Has (indexed here) c → number_for (indexed here) e.e.placed (numbers_kept (kept_at here e.change.key)) c ≡ n
        → Owned e.work.table e.change.key c n ⊎ IsOfWriter (slice_set state.sessions s new) e.work.table e.change.key n
    new_number row is c n listed f = by_placed (placed_for e.e.placed c) refl f
      where
        by_placed : (x : Option ℕ) → placed_for e.e.placed c ≡ x
            → unwrap_or (option_or x (number_at (indexed (table_at state.tables e.work.table)) (numbers_kept (kept_at (table_at state.tables e.work.table) e.change.key)) c)) 0 ≡ n
            → Owned e.work.table e.change.key c n ⊎ IsOfWriter (slice_set state.sessions s (session_after_row (table_at state.tables e.work.table) e.work.table e.change e.e.placed p.undo (session_at state.sessions s))) e.work.table e.change.key n
        by_placed (Some x) z g =
            let there : Has {X = ℕ × ℕ} e.e.placed (c, n) = placed_has e.e.placed c n (z ∙ ap Some g) in
            inr (record { session = s; writes = has_written_of (slice_set state.sessions s new) s e.work.table e.change.key row_writes; pending = row_pending s n (collected.pending c n there) })
        by_placed None z g = let was = stood_before row c is listed z in inl (stood_number c n was.0 was.1 listed g)

    own_row : (x : Option Row) → e.change.new ≡ x → (v : Version) → StandsAt then e.work.table e.change.key v → (c n : ℕ) → HasNumber state.tables e.work.table v c n
        → Owned e.work.table e.change.key c n ⊎ IsOfWriter (slice_set state.sessions s new) e.work.table e.change.key n
    own_row None is v stands c n has =
        let kept : present (table_at then e.work.table) e.change.key ≡ option_and_then version_of (option_map marked (kept_at here e.change.key)) =
        ap (λ (x : StoredTable). present x e.change.key) (is_here m state o s e all_placed p may active) ∙ ap (λ x. present (table_after_row p e.change e.e.placed x here) e.change.key) is
        ∙ ap (option_and_then version_of) (row_changed e.change.key marked here) in
        absurd (unmarks_none (kept_at here e.change.key) v (sym kept ∙ stands))
    own_row (Some row) is v stands c n has =
        let kept : present (table_at then e.work.table) e.change.key ≡ Some (record { row = row; numbers = numbers_after (indexed here) e.e.placed (numbers_kept (kept_at here e.change.key)) }) =
        ap (λ (x : StoredTable). present x e.change.key) (is_here m state o s e all_placed p may active) ∙ ap (option_and_then version_of) (with_row m state o s e all_placed p may row is).0 in
        let version : Some (record { row = row; numbers = numbers_after (indexed here) e.e.placed (numbers_kept (kept_at here e.change.key)) }) ≡ Some v = sym kept ∙ stands in
        let numbers : v.numbers ≡ numbers_after (indexed here) e.e.placed (numbers_kept (kept_at here e.change.key)) = some_numbers _ v version in
        let r = number_mapped (indexed here) (number_for (indexed here) e.e.placed (numbers_kept (kept_at here e.change.key))) c n (subst (λ ns. number_at (indexed here) ns c ≡ Some n) numbers has) in
        new_number row is c n r.0 r.1
      where
        some_numbers : (a b : Version) → Some a ≡ Some b → b.numbers ≡ a.numbers
        some_numbers a b z = cc

    row_named : AreNamed then (slice_set state.sessions s new)
    row_named = named_to then (slice_set state.sessions s new)
        (λ j t k w. record {
          columns = same_indexed state.tables then (change_leaves_trees e.work.table (table_after_row p e.change e.e.placed e.change.new) state.tables
              (λ x. after_row_leaves_trees p e.change e.e.placed e.change.new x)) t;
          committed = row_committed m state o s e all_placed p may active t k;
          taken = taken j t k w (row_before j w.undo w.has);
          pending = row_pending j;
        })
        (λ t k v stands c n has. rows t k v stands c n has (is_of_key t k joined) refl)
        (λ j u v w. images j u v w (row_before j u w.0))
      where
        taken : (j t : ℕ) (k : ℤ) (w : Writes (slice_set state.sessions s new) j t k) → Has (session_at state.sessions j).undo w.undo ⊎ ((j ≡ s) × (joined ≡ w.undo)) → takes state.locks t k j ≡ true
        taken j t k w (inl was) = writer_takes j t k (record { undo = w.undo; has = was; of_table = w.of_table; of_key = w.of_key })
        taken j t k w (inr is) =
            let own : takes state.locks e.work.table e.change.key s ≡ true = (at_hand m state o s e all_placed p may).locked in
            let at_session : takes state.locks e.work.table e.change.key j ≡ true = subst (λ a. takes state.locks e.work.table e.change.key a ≡ true) (sym is.0) own in
            let at_table : takes state.locks t e.change.key j ≡ true =
            subst (λ a. takes state.locks a e.change.key j ≡ true) (ap (λ (x : UndoEntry). x.table) is.1 ∙ w.of_table) at_session in
            subst (λ a. takes state.locks t a j ≡ true) (ap (λ (x : UndoEntry). x.key) is.1 ∙ w.of_key) at_table

        rows : (t : ℕ) (k : ℤ) (v : Version) → StandsAt then t k v → (c n : ℕ) → HasNumber state.tables t v c n → (b : Bool) → is_of_key t k joined ≡ b
            → Owned t k c n ⊎ IsOfWriter (slice_set state.sessions s new) t k n
        rows t k v stands c n has true i =
            let parts = of_key_parts t k joined i in
            let at_table : StandsAt then e.work.table k v = subst (λ a. StandsAt then a k v) (sym parts.0) stands in
            let at_key : StandsAt then e.work.table e.change.key v = subst (λ a. StandsAt then e.work.table a v) (sym parts.1) at_table in
            subst (λ a. Owned a k c n ⊎ IsOfWriter (slice_set state.sessions s new) a k n) parts.0
            (subst (λ a. Owned e.work.table a c n ⊎ IsOfWriter (slice_set state.sessions s new) e.work.table a n) parts.1
            (own_row e.change.new refl v at_key c n (subst (λ a. HasNumber state.tables a v c n) (sym parts.0) has)))
        rows t k v stands c n has false i =
            inl (o.named.rows t k v (sym (row_elsewhere m state o s e all_placed p may active t k (not_own_key t k joined i)) ∙ stands) c n has)

        images : (j : ℕ) (u : UndoEntry) (v : Version) → WouldRestore (slice_set state.sessions s new) j u v → Has (session_at state.sessions j).undo u ⊎ ((j ≡ s) × (joined ≡ u))
            → NamesOwn state.tables state.sessions u.table u.key v
        images j u v w (inl was) = o.named.images j u v (was, w.1)
        images j u v w (inr is) =
            let image : joined.image ≡ was_there v = ap (λ (x : UndoEntry). x.image) is.1 ∙ w.1 in
            let stood : StandsAt state.tables e.work.table e.change.key v = image_present (kept_at here e.change.key) v image in
            subst (λ (x : UndoEntry). NamesOwn state.tables state.sessions x.table x.key v) is.1 (o.named.rows e.work.table e.change.key v stood)

  written_named : (s number : ℕ) (change : Change) (placed : List (ℕ × ℕ)) (p : Put) → IsActive state s → IsWritingRow state (session_at state.sessions s) number change placed
      → MayWriteRow state number change placed p
      → AreNamed (change_table number (table_after_row p change placed change.new) state.tables)
      (slice_set state.sessions s (session_after_row (table_at state.tables number) number change placed p.undo (session_at state.sessions s)))
  written_named s number change placed p active at =
      let P : ℕ → Change → List (ℕ × ℕ) → Type 0 = λ n c l. (MayWriteRow state n c l p
      → AreNamed (change_table n (table_after_row p c l c.new) state.tables) (slice_set state.sessions s (session_after_row (table_at state.tables n) n c l p.undo (session_at state.sessions s)))) in
      let first : P at.entering.work.table at.entering.change at.entering.e.placed = λ may. row_named s at.entering at.all_placed p may active in
      let second : P at.entering.work.table at.entering.change placed = subst (λ l. P at.entering.work.table at.entering.change l) (sym at.placed_is) first in
      let third : P at.entering.work.table change placed = subst (λ c. P at.entering.work.table c placed) (sym at.change_is) second in
      subst (λ n. P n change placed) (sym at.number_is) third

  -- ---- the end of a transaction

  ended_named : (s : ℕ) (later : List StoredTable) → ((t : ℕ) (k : ℤ) (v : Version) → StandsAt later t k v → table_at later t ≡ table_at state.tables t)
      → ((j : ℕ) (u : UndoEntry) → Has (session_at state.sessions j).undo u → table_at later u.table ≡ table_at state.tables u.table)
      → (new : SessionState) → new.undo ≡ [] → IsActive state s → AreNamed later (slice_set state.sessions s new)
  ended_named s later stood named new no_undo active = named_to later (slice_set state.sessions s new) keeps
      (λ t k v stands c n has. inl (o.named.rows t k v (ap (λ (x : StoredTable). present x k) (sym (stood t k v stands)) ∙ stands) c n has))
      (λ j u v w. o.named.images j u v ((others j u w.0).0, w.1))
    where
      others : (j : ℕ) (u : UndoEntry) → Has (session_at (slice_set state.sessions s new) j).undo u → Has (session_at state.sessions j).undo u × (j ≡ s → ⊥)
      others j u h = each_changed (λ i x. (Has x.undo u → Has (session_at state.sessions i).undo u × (i ≡ s → ⊥))) state.sessions s new active.not_over
          (λ z. absurd (none_has new.undo u no_undo z)) (λ i ne z. (z, not_same i s ne)) j h

      keeps : (j t : ℕ) (k : ℤ) → Writes (slice_set state.sessions s new) j t k → KeepsKey later (slice_set state.sessions s new) j t k
      keeps j t k w =
          let was = others j w.undo w.has in
          let at : table_at later t ≡ table_at state.tables t = subst (λ a. table_at later a ≡ table_at state.tables a) w.of_table (named j w.undo was.0) in
          let taken : takes state.locks t k j ≡ true = writer_takes j t k (record { undo = w.undo; has = was.0; of_table = w.of_table; of_key = w.of_key }) in
          let mine : first_image (session_at state.sessions s).undo t k ≡ None = others_none m state o j t k taken s (λ is. was.1 (sym is)) in
          record {
            columns = ap indexed at;
            committed = committed_same state.tables later state.sessions (slice_set state.sessions s new) t k
                (all_set state.sessions s new t k (ap (λ (us : List UndoEntry). first_image us t k) no_undo ∙ sym mine)) (ap (λ (x : StoredTable). present x k) at);
            taken = taken;
            pending = λ n p. subst (λ (x : SessionState). Has (placed_by x) n) (sym (other_at state.sessions s j new (not_same_is j s was.1))) p;
          }

pub named_kept : (m : Machine) (state : State) (actor : Actor) (choice : Choice) → IsProper m → InOrder m state → MayHappen m state actor choice
    → AreNamed (after m state actor choice).tables (after m state actor choice).sessions
named_kept m state actor choice good o h = event_keeps m state good o (λ (st : State). AreNamed st.tables st.sessions) each actor choice h
  where
    each : EachKeeps m state (λ (st : State). AreNamed st.tables st.sessions)
    each = record {
      still = o.named;
      purge = λ some. named_same m state o (tables_purged state.locks state.queue state.tables) state.sessions (λ j. refl) (λ t k. refl) (λ j n p. p)
          (purged_columns m state o state.queue) (purged_present state.locks state.queue state.tables);
      end = λ s over active. ended_named m state o s state.tables (λ t k v z. refl) (λ j u z. refl) _ refl active;
      answer = λ s reply active at. named_set m state o s _ refl refl;
      undo = λ s entry more active at. undo_named m state o s entry more active at;
      create = λ s over name schema leaf roots active at may. ended_named m state o s (state.tables ++ new_table name schema leaf roots ∷ [])
          (created_stood m state o name schema leaf roots) (created_named m state o (new_table name schema leaf roots)) _ refl active;
      refuse = λ s on ds active at may. named_same m state o state.tables (with_victims state.sessions ds) (victims_leave (λ x. x.undo) (λ x. refl) state.sessions ds)
          (all_victims state.sessions ds) (λ j n z. subst (λ (list : List ℕ). Has list n) (sym (victims_leave placed_by (λ x. refl) state.sessions ds j)) z) (λ t. refl) (λ t k. refl);
      lock_table = λ s statement number mode active at none. named_set m state o s _ refl refl;
      lock_key = λ s number key mode active at none. named_set m state o s _ refl refl;
      lock_row = λ s number key mode active at none. named_set m state o s _ refl refl;
      visit = λ s number column predicate active at. named_set m state o s _ refl refl;
      scan = λ s number leaf active at. named_set m state o s _ refl refl;
      step = λ s d q active at may. named_set m state o s _ refl refl;
      stale = λ s d active at. named_set m state o s _ refl refl;
      full = λ s active at. named_set m state o s _ refl refl;
      place = λ s d q ds active at may. named_same m state o (change_table d.table (table_after_place d state.entries q ds) state.tables)
          (slice_set state.sessions s (session_after_place d state.entries (session_at state.sessions s)))
          (set_leaves (λ x. x.undo) state.sessions s (session_after_place d state.entries (session_at state.sessions s)) refl)
          (λ t k. all_set state.sessions s (session_after_place d state.entries (session_at state.sessions s)) t k refl)
          (pending_more m state o s (session_after_place d state.entries (session_at state.sessions s))
          (λ n z. more_placed (session_at state.sessions s).notes (note_of d state.entries (session_at state.sessions s).number ∷ []) n z))
          (indexed_stay d.table d.column (tree_after_place d state.entries q ds) state.tables)
          (λ t k. kept_of (λ (x : StoredTable). present x k) d.table t (table_after_place d state.entries q ds) state.tables refl);
      row = λ s number change placed p active at may. written_named m state o s number change placed p active at may;
    }
