-- Events that leave what is committed and what is seen, one by one.
use Rattle.std.proofs.Common.{◌≡◌, ◌⊎◌, ◌∙◌, ◌≤◌, inl, inr, refl, sym, ap, subst, ℕ, zero, suc, ℤ, ◌==◌, ◌||◌, Bool, true, false, cond, Option, Some, None, List, [], ◌∷◌, ◌++◌, drop, length, map, is_some, eqb-true, eq-eqb}
use Rattle.std.specs.Prelude.{find, slice_set}
use Rattle.std.specs.List.{last_or}
use Rattle.std.specs.Option.{option_and_then, option_map, option_or}
use Rattle.std.proofs.lemmas.Bool.{false≢true}
use Rattle.isp_base.specs.Lists.{Has}
use Rattle.isp_laws.proofs.ListLaws.{Has-append_right}
use Rattle.isp_mbr.specs.declared.predicate.Predicate.{Predicate}
use Rattle.isp_reclock.specs.declared.modes.Mode.{Mode}
use Rattle.isp_reclock.specs.Tables.{takes}
use Rattle.isp_plain.specs.declared.statement.Statement.{Statement}
use Rattle.isp_plain.specs.declared.statement.Statement.TheVariants.{Create, Insert, Select, Update, Delete, Begin, Commit, Rollback, Refused}
use Rattle.isp_plain.specs.declared.value.Row.{Row}
use Rattle.isp_plain.specs.Tables.{definition_of}
use Rattle.isp_serial.specs.Script.{text_at}
use Rattle.isp_serial.specs.Serial.{place_at}
use Rattle.isp_forest.specs.Place.{Division}
use Rattle.isp_events.specs.Stored.{KeptRow, Leaf, StoredTable, Version, change_table, kept_at, present, row_of, table_at, version_of}
use Rattle.isp_events.specs.Sessions.{Change, Image, SessionState, UndoEntry, Work, fresh, session_at}
use Rattle.isp_events.specs.State.{State, front}
use Rattle.isp_events.specs.Views.{committed, committed_row, first_image, first_image_of_all, has_written, is_of_key, length_at_beginning, row_or, seen, statement_undo, version_in, version_or, view_at, view_at_beginning}
use Rattle.isp_events.specs.Ways.{Machine}
use Rattle.isp_events.specs.Next.{Descent}
use Rattle.isp_events.specs.Deadlocks.{Deadlock, after_refusal, as_victim, with_victims}
use Rattle.isp_events.specs.Asking.{after_key_lock, after_table_lock}
use Rattle.isp_events.specs.Reading.{after_scan, after_visit}
use Rattle.isp_events.specs.Placing.{after_full, after_place, after_stale, after_step, table_after_place}
use Rattle.isp_events.specs.Writing.{MayWriteRow, Put, after_row, image_of, session_after_row, table_after_row, table_with_row, work_after_row}
use Rattle.isp_events.specs.Ending.{after_answer, after_end, after_undo, restored, session_after_undo}
use Rattle.isp_events.specs.Purging.{after_purge, tables_purged}
use Rattle.isp_order.specs.Locks.{without_rows}
use Rattle.isp_order.specs.Trees.{IsRestorable, committed_version}
use Rattle.isp_order.specs.Work.{IsBound, IsServed}
use Rattle.isp_order.specs.InOrder.{InOrder, IsProper}
use Rattle.isp_order.proofs.SessionLaws.{other_at, same_at, seated}
use Rattle.isp_order.proofs.TableLaws.{definitions_changed, definitions_seen, kept_of, purged_keeps, row_keeps}
use Rattle.isp_causes.specs.Causes.{IsActive, IsAtFirst, IsUndoing, IsWritingRow}
use Rattle.isp_causes.proofs.EventCases.{means_without_rows}
use Rattle.isp_order_locks.proofs.LockedLaws.{row_taken}
use Rattle.isp_order_one.proofs.CommittedLaws.{images_now, others_none, undo_committed, undo_here, written_committed}
use Rattle.isp_order_one.proofs.ImageLaws.{all_set, not_own_key, of_key_parts, push_after, push_first, push_other}
use Rattle.isp_order_reads.proofs.RowFrames.{Reads, image_shows, purged_present, taker_reads}
use Rattle.isp_order_reads.proofs.StandingLaws.{row_elsewhere, undo_elsewhere}
use Rattle.isp_order_trees.proofs.CoveredLaws.{top_of}
use Rattle.isp_order_trees.proofs.NoteParts.{set_relates}
use Rattle.isp_order_work.proofs.WrittenLaws.{drop_front, drop_push, front_last}
use Rattle.isp_replies.specs.Replies.{RollsBack}
use Rattle.isp_answers.specs.Told.{gives_up, rolls_back, statement_next}
use Rattle.isp_views.specs.Views.{IsUnmoved, definition_at}
use Rattle.isp_views.proofs.ViewLaws.{alone_sees, drop_none, first_of_drop, image_unwritten, unwritten_image}

none_some : {X : Type 0} (x : X) → None ≡ Some x → ⊥
none_some x h = cc

-- what is seen with these entries, of which those are the statement's, of what stands there and what is committed
abbrev pub view_of : List UndoEntry → List UndoEntry → Option Row → Option Row → ℕ → ℤ → Option Row
view_of us su here other t k = row_or (first_image su t k) (cond (is_some (find (is_of_key t k) us)) here other)

-- ---- sessions that go on

-- the statement that comes next is a matter of the tables' names and columns
next_same : (m : Machine) → IsProper m → (tables others : List StoredTable) (s : ℕ) (x y : SessionState) → map definition_at tables ≡ map definition_at others
    → x.number ≡ y.number → x.inside ≡ y.inside → statement_next m tables s x ≡ statement_next m others s y
next_same m good tables others s x y definitions number inside =
    ap (λ n. option_map (λ text. m.language.meaning (without_rows tables) (place_at s x.inside) text) (text_at m.script s n)) number
    ∙ ap (λ b. option_map (λ text. m.language.meaning (without_rows tables) (place_at s b) text) (text_at m.script s y.number)) inside
    ∙ by_text (text_at m.script s y.number)
  where
    by_text : (text : Option (List ℕ)) → option_map (λ t. m.language.meaning (without_rows tables) (place_at s y.inside) t) text
        ≡ option_map (λ t. m.language.meaning (without_rows others) (place_at s y.inside) t) text
    by_text None = refl
    by_text (Some text) = ap (λ st. Some st) (good.servable.defined (without_rows tables) (without_rows others) (place_at s y.inside) text
        (definitions_seen (λ number key. None) tables ∙ definitions ∙ sym (definitions_seen (λ number key. None) others)))

or_left : (a b : Bool) → (a || b) ≡ false → a ≡ false
or_left true b h = absurd (false≢true (sym h))
or_left false b h = refl

or_right : (a b : Bool) → (a || b) ≡ false → b ≡ false
or_right true b h = absurd (false≢true (sym h))
or_right false b h = h

neither : (a b : Bool) → a ≡ false → b ≡ false → (a || b) ≡ false
neither a b p q = ap (λ x. x || b) p ∙ q

pub not_victim : (m : Machine) (tables : List StoredTable) (s : ℕ) (session : SessionState) → gives_up m tables s session ≡ false → session.victim ≡ false
not_victim m tables s session h = or_left session.victim (rolls_back (statement_next m tables s session)) h

pub not_rolling : (m : Machine) (tables : List StoredTable) (s : ℕ) (session : SessionState) → gives_up m tables s session ≡ false → rolls_back (statement_next m tables s session) ≡ false
not_rolling m tables s session h = or_right session.victim (rolls_back (statement_next m tables s session)) h

-- who is at work and no victim goes on
pub works_on : (m : Machine) (state : State) → InOrder m state → (s : ℕ) (work : Work) → (session_at state.sessions s).work ≡ Some work → (session_at state.sessions s).victim ≡ false
    → gives_up m state.tables s (session_at state.sessions s) ≡ false
works_on m state o s work at undisturbed =
    let b : IsBound m state.tables s (session_at state.sessions s) work = o.bound s work at in
    neither (session_at state.sessions s).victim (rolls_back (statement_next m state.tables s (session_at state.sessions s))) undisturbed
    (ap (λ t. rolls_back (option_map (λ text. m.language.meaning (without_rows state.tables) (place_at s (session_at state.sessions s).inside) text) t)) b.text_is
    ∙ ap (λ st. rolls_back (Some st)) b.means ∙ on_rows work.statement b.served)
  where
    on_rows : (st : Statement) → IsServed (table_at state.tables work.table).schema st → rolls_back (Some st) ≡ false
    on_rows (Insert name rows) h = refl
    on_rows (Select name columns w) h = refl
    on_rows (Update name sets w) h = refl
    on_rows (Delete name w) h = refl
    on_rows (Create name schema) h = refl
    on_rows Begin h = refl
    on_rows Commit h = refl
    on_rows Rollback h = absurd h
    on_rows (Refused refusal) h = refl

-- ---- events that write nothing

-- what an event leaves of a session's lists
pub record IsCalm (before now : SessionState) : Type 0 where
  pub undo : now.undo ≡ before.undo
  pub begun : length_at_beginning now now.work ≡ length_at_beginning before before.work
  pub inside : now.inside ≡ before.inside
  pub number : now.number ≡ before.number
  pub victim : now.victim ≡ false → before.victim ≡ false

pub calm_itself : (x : SessionState) → IsCalm x x
calm_itself x = record { undo = refl; begun = refl; inside = refl; number = refl; victim = λ h. h }

calm_twice : (x y z : SessionState) → IsCalm x y → IsCalm y z → IsCalm x z
calm_twice x y z a b = record { undo = b.undo ∙ a.undo; begun = b.begun ∙ a.begun; inside = b.inside ∙ a.inside; number = b.number ∙ a.number; victim = λ h. a.victim (b.victim h) }

calm_victim : (x : SessionState) → IsCalm x (as_victim x)
calm_victim x = record { undo = refl; begun = by_work x.work; inside = refl; number = refl; victim = λ h. absurd (false≢true (sym h)) }
  where
    by_work : (w : Option Work) → length_at_beginning (as_victim x) w ≡ length_at_beginning x w
    by_work None = refl
    by_work (Some work) = refl

pub calm_victims : (sessions : List SessionState) (ds : List Deadlock) (j : ℕ) → IsCalm (session_at sessions j) (session_at (with_victims sessions ds) j)
calm_victims sessions [] j = calm_itself (session_at sessions j)
calm_victims sessions (d ∷ ds) j =
    calm_twice (session_at sessions j) (session_at (slice_set sessions d.victim (as_victim (session_at sessions d.victim))) j)
    (session_at (with_victims (slice_set sessions d.victim (as_victim (session_at sessions d.victim))) ds) j)
    (set_relates IsCalm calm_itself sessions d.victim (as_victim (session_at sessions d.victim)) (calm_victim (session_at sessions d.victim)) j)
    (calm_victims (slice_set sessions d.victim (as_victim (session_at sessions d.victim))) ds j)

-- images of all lists that are the same
pub all_by_each : (xs ys : List SessionState) → ((j : ℕ) → (session_at ys j).undo ≡ (session_at xs j).undo) → (t : ℕ) (k : ℤ) → first_image_of_all ys t k ≡ first_image_of_all xs t k
all_by_each [] [] h t k = refl
all_by_each [] (y ∷ ys) h t k = ap (λ us. option_or (first_image us t k) (first_image_of_all ys t k)) (h 0) ∙ all_by_each [] ys (λ j. h (suc j)) t k
all_by_each (x ∷ xs) [] h t k = all_by_each xs [] (λ j. h (suc j)) t k ∙ ap (λ us. option_or (first_image us t k) (first_image_of_all xs t k)) (h 0)
all_by_each (x ∷ xs) (y ∷ ys) h t k =
    ap (λ us. option_or (first_image us t k) (first_image_of_all ys t k)) (h 0) ∙ ap (option_or (first_image x.undo t k)) (all_by_each xs ys (λ j. h (suc j)) t k)

module _ (m : Machine) (state : State) (good : IsProper m) (o : InOrder m state) where
  -- nothing is written
  pub calm : (now : State) → map definition_at now.tables ≡ map definition_at state.tables
      → ((t : ℕ) (k : ℤ) → present (table_at now.tables t) k ≡ present (table_at state.tables t) k)
      → ((j : ℕ) → IsCalm (session_at state.sessions j) (session_at now.sessions j)) → IsUnmoved m state now
  calm now definitions rows sessions = record {
    definitions = definitions;
    committed_same = committed_same;
    going = λ j h. (let c = sessions j in
        neither (session_at state.sessions j).victim (rolls_back (statement_next m state.tables j (session_at state.sessions j))) (c.victim (not_victim m now.tables j (session_at now.sessions j) h))
        (ap rolls_back (next_same m good state.tables now.tables j (session_at state.sessions j) (session_at now.sessions j) (sym definitions) (sym c.number) (sym c.inside))
        ∙ not_rolling m now.tables j (session_at now.sessions j) h));
    inside = λ j. (sessions j).inside;
    views = λ j h t k. view_same j t k;
  }
    where
      committed_same : (t : ℕ) (k : ℤ) → committed_row now t k ≡ committed_row state t k
      committed_same t k =
          ap (λ i. row_of (version_or i (present (table_at now.tables t) k))) (all_by_each state.sessions now.sessions (λ j. (sessions j).undo) t k)
          ∙ ap (λ v. row_of (version_or (first_image_of_all state.sessions t k) v)) (rows t k)

      view_same : (j t : ℕ) (k : ℤ) → view_at_beginning now j t k ≡ view_at_beginning state j t k
      view_same j t k =
          ap (λ us. row_or (first_image (drop (length_at_beginning (session_at now.sessions j) (session_at now.sessions j).work) us) t k)
          (cond (is_some (find (is_of_key t k) us)) (row_of (present (table_at now.tables t) k)) (committed_row now t k))) (sessions j).undo
          ∙ ap (λ n. row_or (first_image (drop n (session_at state.sessions j).undo) t k)
          (cond (has_written (session_at state.sessions j) t k) (row_of (present (table_at now.tables t) k)) (committed_row now t k))) (sessions j).begun
          ∙ ap (λ v. row_or (first_image (statement_undo (session_at state.sessions j)) t k) (cond (has_written (session_at state.sessions j) t k) (row_of v) (committed_row now t k))) (rows t k)
          ∙ ap (λ r. row_or (first_image (statement_undo (session_at state.sessions j)) t k) (cond (has_written (session_at state.sessions j) t k) (row_of (present (table_at state.tables t) k)) r)) (committed_same t k)

  -- one session changes, and writes nothing
  pub calm_one : (now : State) (s : ℕ) (new : SessionState) → now.sessions ≡ slice_set state.sessions s new → map definition_at now.tables ≡ map definition_at state.tables
      → ((t : ℕ) (k : ℤ) → present (table_at now.tables t) k ≡ present (table_at state.tables t) k) → IsCalm (session_at state.sessions s) new → IsUnmoved m state now
  calm_one now s new is definitions rows c =
      calm now definitions rows
      (λ j. subst (λ (xs : List SessionState). IsCalm (session_at state.sessions j) (session_at xs j)) (sym is) (set_relates IsCalm calm_itself state.sessions s new c j))

  -- its work goes on
  pub calm_work : (s : ℕ) (new : SessionState) (f : Work → Work) → new.undo ≡ (session_at state.sessions s).undo → new.inside ≡ (session_at state.sessions s).inside
      → new.number ≡ (session_at state.sessions s).number → new.victim ≡ (session_at state.sessions s).victim → new.work ≡ option_map f (session_at state.sessions s).work
      → ((w : Work) → (f w).begun ≡ w.begun) → IsCalm (session_at state.sessions s) new
  calm_work s new f undo inside number victim work begun = record {
    undo = undo;
    begun = ap (length_at_beginning new) work ∙ by_work (session_at state.sessions s).work;
    inside = inside;
    number = number;
    victim = λ h. sym victim ∙ h;
  }
    where
      by_work : (w : Option Work) → length_at_beginning new (option_map f w) ≡ length_at_beginning (session_at state.sessions s) w
      by_work None = ap length undo
      by_work (Some w) = begun w

  -- ---- each of these events

  pub purge_unmoved : IsUnmoved m state (after_purge state)
  purge_unmoved = calm (after_purge state) (purged_keeps state.locks state.queue state.tables) (purged_present state.locks state.queue state.tables) (λ j. calm_itself (session_at state.sessions j))

  pub refuse_unmoved : (s : ℕ) (on : List ℕ) (ds : List Deadlock) → IsUnmoved m state (after_refusal state s on ds)
  refuse_unmoved s on ds = calm (after_refusal state s on ds) refl (λ t k. refl) (calm_victims state.sessions ds)

  pub lock_table_unmoved : (s : ℕ) (statement : Statement) (number : ℕ) (mode : Mode) → (session_at state.sessions s).work ≡ None
      → IsUnmoved m state (after_table_lock state m.ways s statement number mode)
  lock_table_unmoved s statement number mode none =
      calm_one (after_table_lock state m.ways s statement number mode) s _ refl refl (λ t k. refl)
      (record { undo = refl; begun = sym (ap (length_at_beginning (session_at state.sessions s)) none); inside = refl; number = refl; victim = λ h. h })

  pub lock_key_unmoved : (s number : ℕ) (key : ℤ) (mode : Mode) → IsUnmoved m state (after_key_lock state s number key mode)
  lock_key_unmoved s number key mode =
      calm_one (after_key_lock state s number key mode) s _ refl refl (λ t k. refl) (calm_work s _ _ refl refl refl refl refl (λ w. refl))

  pub visit_unmoved : (s number column : ℕ) (predicate : Predicate) → IsUnmoved m state (after_visit state s number column predicate)
  visit_unmoved s number column predicate =
      calm_one (after_visit state s number column predicate) s _ refl refl (λ t k. refl) (calm_work s _ _ refl refl refl refl refl (λ w. refl))

  pub scan_unmoved : (s number : ℕ) (leaf : Leaf) → IsUnmoved m state (after_scan state s number leaf)
  scan_unmoved s number leaf = calm_one (after_scan state s number leaf) s _ refl refl (λ t k. refl) (calm_work s _ _ refl refl refl refl refl (λ w. refl))

  pub step_unmoved : (s : ℕ) (d : Descent) (q : ℕ) → IsUnmoved m state (after_step state s d q)
  step_unmoved s d q = calm_one (after_step state s d q) s _ refl refl (λ t k. refl) (calm_work s _ _ refl refl refl refl refl (λ w. refl))

  pub stale_unmoved : (s : ℕ) → IsUnmoved m state (after_stale state s)
  stale_unmoved s = calm_one (after_stale state s) s _ refl refl (λ t k. refl) (calm_work s _ _ refl refl refl refl refl (λ w. refl))

  pub full_unmoved : (s : ℕ) → IsUnmoved m state (after_full state s)
  full_unmoved s = calm_one (after_full state s) s _ refl refl (λ t k. refl) (calm_work s _ _ refl refl refl refl refl (λ w. refl))

  pub place_unmoved : (s : ℕ) (d : Descent) (q : ℕ) (ds : List Division) → IsUnmoved m state (after_place state s d q ds)
  place_unmoved s d q ds =
      calm_one (after_place state s d q ds) s _ refl (definitions_changed d.table (table_after_place d state.entries q ds) state.tables (λ t. refl))
      (λ t k. kept_of (λ x. present x k) d.table t (table_after_place d state.entries q ds) state.tables refl) (calm_work s _ _ refl refl refl refl refl (λ w. refl))

  -- ---- views of lists

  written_image : (us : List UndoEntry) (t : ℕ) (k : ℤ) → is_some (find (is_of_key t k) us) ≡ is_some (first_image us t k)
  written_image us t k = by_found (find (is_of_key t k) us)
    where
      by_found : (x : Option UndoEntry) → is_some x ≡ is_some (option_map (λ (u : UndoEntry). u.image) x)
      by_found None = refl
      by_found (Some u) = refl

  -- an entry of another key
  pushed_other : (us su : List UndoEntry) (e : UndoEntry) (here other : Option Row) (t : ℕ) (k : ℤ) → is_of_key t k e ≡ false
      → view_of (us ++ e ∷ []) (su ++ e ∷ []) here other t k ≡ view_of us su here other t k
  pushed_other us su e here other t k h =
      ap (λ i. row_or i (cond (is_some (find (is_of_key t k) (us ++ e ∷ []))) here other)) (push_other su e t k h)
      ∙ ap (λ b. row_or (first_image su t k) (cond b here other))
      (written_image (us ++ e ∷ []) t k ∙ ap is_some (push_other us e t k h) ∙ sym (written_image us t k))

  -- an entry of the key, whose image is what stood there
  pushed_own : (us su : List UndoEntry) (e : UndoEntry) (here then other : Option Row) (t : ℕ) (k : ℤ) → is_of_key t k e ≡ true → row_of (version_in e.image) ≡ here
      → (is_some (find (is_of_key t k) us) ≡ false → other ≡ here) → view_of (us ++ e ∷ []) (su ++ e ∷ []) then other t k ≡ view_of us su here other t k
  pushed_own us su e here then other t k own image alone = by_first (first_image su t k) refl
    where
      by_written : (b : Bool) → is_some (find (is_of_key t k) us) ≡ b → here ≡ cond b here other
      by_written true i = refl
      by_written false i = sym (alone i)

      by_first : (x : Option Image) → first_image su t k ≡ x
          → row_or (first_image (su ++ e ∷ []) t k) (cond (is_some (find (is_of_key t k) (us ++ e ∷ []))) then other)
          ≡ row_or x (cond (is_some (find (is_of_key t k) us)) here other)
      by_first (Some i) f = ap (λ x. row_or x (cond (is_some (find (is_of_key t k) (us ++ e ∷ []))) then other)) (push_after su e t k i f)
      by_first None f =
          ap (λ x. row_or x (cond (is_some (find (is_of_key t k) (us ++ e ∷ []))) then other)) (push_first su e t k f own) ∙ image
          ∙ by_written (is_some (find (is_of_key t k) us)) refl

  -- an entry that goes, whose image stands there then
  popped_own : (us su : List UndoEntry) (e : UndoEntry) (here then other : Option Row) (t : ℕ) (k : ℤ) → is_of_key t k e ≡ true → row_of (version_in e.image) ≡ then
      → (is_some (find (is_of_key t k) us) ≡ false → other ≡ then) → view_of us su then other t k ≡ view_of (us ++ e ∷ []) (su ++ e ∷ []) here other t k
  popped_own us su e here then other t k own image alone = by_first (first_image su t k) refl
    where
      by_written : (b : Bool) → is_some (find (is_of_key t k) us) ≡ b → cond b then other ≡ then
      by_written true i = refl
      by_written false i = alone i

      by_first : (x : Option Image) → first_image su t k ≡ x
          → row_or x (cond (is_some (find (is_of_key t k) us)) then other)
          ≡ row_or (first_image (su ++ e ∷ []) t k) (cond (is_some (find (is_of_key t k) (us ++ e ∷ []))) here other)
      by_first (Some i) f = sym (ap (λ x. row_or x (cond (is_some (find (is_of_key t k) (us ++ e ∷ []))) here other)) (push_after su e t k i f))
      by_first None f =
          by_written (is_some (find (is_of_key t k) us)) refl ∙ sym image
          ∙ sym (ap (λ x. row_or x (cond (is_some (find (is_of_key t k) (us ++ e ∷ []))) here other)) (push_first su e t k f own))

  -- a session that is as it was, where what it has written stands as it did
  pub others_view : (now : State) (j : ℕ) → session_at now.sessions j ≡ session_at state.sessions j → (t : ℕ) (k : ℤ)
      → (has_written (session_at state.sessions j) t k ≡ true → present (table_at now.tables t) k ≡ present (table_at state.tables t) k)
      → (has_written (session_at state.sessions j) t k ≡ false → committed_row now t k ≡ committed_row state t k)
      → view_at_beginning now j t k ≡ view_at_beginning state j t k
  others_view now j is t k rows same =
      ap (λ x. view_of x.undo (statement_undo x) (row_of (present (table_at now.tables t) k)) (committed_row now t k) t k) is
      ∙ ap (row_or (first_image (statement_undo (session_at state.sessions j)) t k)) (by_written (has_written (session_at state.sessions j) t k) refl)
    where
      by_written : (b : Bool) → has_written (session_at state.sessions j) t k ≡ b
          → cond b (row_of (present (table_at now.tables t) k)) (committed_row now t k) ≡ cond b (row_of (present (table_at state.tables t) k)) (committed_row state t k)
      by_written true e = ap row_of (rows e)
      by_written false e = same e

  -- another's list doesn't name what the session takes
  not_written : (s t : ℕ) (k : ℤ) → takes state.locks t k s ≡ true → (j : ℕ) → (j == s) ≡ false → has_written (session_at state.sessions j) t k ≡ true → ⊥
  not_written s t k taken j ne w =
      false≢true (sym (image_unwritten (session_at state.sessions j).undo t k (others_none m state o s t k taken j (λ e. false≢true (sym ne ∙ eq-eqb j s e)))) ∙ w)

  -- what a session has written no other has
  pub taker_alone : (s t : ℕ) (k : ℤ) → has_written (session_at state.sessions s) t k ≡ true → (j : ℕ) → (j == s) ≡ false → first_image (session_at state.sessions j).undo t k ≡ None
  taker_alone s t k w j ne = by_found (find (is_of_key t k) (session_at state.sessions s).undo) refl w
    where
      some_is : (x y : UndoEntry) → Some x ≡ Some y → x ≡ y
      some_is x y e = cc

      found : (us : List UndoEntry) (u : UndoEntry) → find (is_of_key t k) us ≡ Some u → Has us u × (is_of_key t k u ≡ true)
      found [] u h = absurd (none_some u h)
      found (x ∷ us) u h = by_test (is_of_key t k x) refl (found us u) h
        where
          by_test : (b : Bool) → is_of_key t k x ≡ b → (find (is_of_key t k) us ≡ Some u → Has us u × (is_of_key t k u ≡ true))
              → cond b (Some x) (find (is_of_key t k) us) ≡ Some u → Has (x ∷ us) u × (is_of_key t k u ≡ true)
          by_test true i again e = (inl (some_is x u e), subst (λ y. is_of_key t k y ≡ true) (some_is x u e) i)
          by_test false i again e = (let r = again e in (inr r.0, r.1))

      by_found : (x : Option UndoEntry) → find (is_of_key t k) (session_at state.sessions s).undo ≡ x → is_some x ≡ true → first_image (session_at state.sessions j).undo t k ≡ None
      by_found None e h = absurd (false≢true h)
      by_found (Some u) e h =
          let r = found (session_at state.sessions s).undo u e in
          let parts = of_key_parts t k u r.1 in
          let taken : takes state.locks t k s ≡ true =
          subst (λ n. takes state.locks n k s ≡ true) parts.0 (subst (λ x. takes state.locks u.table x s ≡ true) parts.1 (o.written_locked.undone s u r.0)) in
          others_none m state o s t k taken j (λ is. false≢true (sym ne ∙ eq-eqb j s is))

  pub begun_is : (session : SessionState) (work : Work) → session.work ≡ Some work → statement_undo session ≡ drop work.begun session.undo
  begun_is session work at = ap (λ w. drop (length_at_beginning session w) session.undo) at

  -- ---- a row is written

  pub row_unmoved : (s number : ℕ) (change : Change) (placed : List (ℕ × ℕ)) (p : Put) → IsActive state s → IsWritingRow state (session_at state.sessions s) number change placed
      → MayWriteRow state number change placed p → IsUnmoved m state (after_row state s number change placed p)
  row_unmoved s number change placed p active at may = record {
    definitions = definitions;
    committed_same = committed_same;
    going = λ j h. (let c = notes j in
        neither (session_at state.sessions j).victim (rolls_back (statement_next m state.tables j (session_at state.sessions j)))
        (sym c.2 ∙ not_victim m now.tables j (session_at now.sessions j) h)
        (ap rolls_back (next_same m good state.tables now.tables j (session_at state.sessions j) (session_at now.sessions j) (sym definitions) (sym c.1) (sym c.0))
        ∙ not_rolling m now.tables j (session_at now.sessions j) h));
    inside = λ j. (notes j).0;
    views = λ j h t k. by_session j t k (j == s) refl;
  }
    where
      now : State
      now = after_row state s number change placed p

      e : UndoEntry
      e = record { table = number; key = change.key; image = image_of (kept_at (table_at state.tables number) change.key) }

      session : SessionState
      session = session_at state.sessions s

      new : SessionState
      new = session_after_row (table_at state.tables number) number change placed p.undo session

      work : Work
      work = at.entering.work

      definitions : map definition_at now.tables ≡ map definition_at state.tables
      definitions = definitions_changed number (table_after_row p change placed change.new) state.tables (row_keeps p change placed change.new)

      committed_same : (t : ℕ) (k : ℤ) → committed_row now t k ≡ committed_row state t k
      committed_same t k = ap row_of (written_committed m state o s number change placed p active at may t k)

      notes : (j : ℕ) → ((session_at now.sessions j).inside ≡ (session_at state.sessions j).inside) × ((session_at now.sessions j).number ≡ (session_at state.sessions j).number)
          × ((session_at now.sessions j).victim ≡ (session_at state.sessions j).victim)
      notes j = set_relates (λ x y. (y.inside ≡ x.inside) × (y.number ≡ x.number) × (y.victim ≡ x.victim)) (λ x. (refl, refl, refl)) state.sessions s new (refl, refl, refl) j

      taken : takes state.locks number change.key s ≡ true
      taken = row_taken m state good o s number change placed at

      elsewhere : (t : ℕ) (k : ℤ) → (t ≡ number → k ≡ change.key → ⊥) → present (table_at now.tables t) k ≡ present (table_at state.tables t) k
      elsewhere t k ne = row_elsewhere m state good o s number change placed p at may t k ne

      since : statement_undo new ≡ statement_undo session ++ e ∷ []
      since =
          ap (λ w. drop (length_at_beginning new w) new.undo) (ap (option_map (work_after_row (table_at state.tables number))) at.entering.goes_on.at_work)
          ∙ drop_push work.begun session.undo e (o.written s work at.entering.goes_on.at_work at.entering.goes_on.undisturbed).begun
          ∙ ap (λ us. us ++ e ∷ []) (sym (begun_is session work at.entering.goes_on.at_work))

      own : (t : ℕ) (k : ℤ) → view_of (session.undo ++ e ∷ []) (statement_undo session ++ e ∷ []) (row_of (present (table_at now.tables t) k)) (committed_row state t k) t k
          ≡ view_of session.undo (statement_undo session) (row_of (present (table_at state.tables t) k)) (committed_row state t k) t k
      own t k = by_key (is_of_key t k e) refl
        where
          by_key : (b : Bool) → is_of_key t k e ≡ b
              → view_of (session.undo ++ e ∷ []) (statement_undo session ++ e ∷ []) (row_of (present (table_at now.tables t) k)) (committed_row state t k) t k
              ≡ view_of session.undo (statement_undo session) (row_of (present (table_at state.tables t) k)) (committed_row state t k) t k
          by_key false i =
              pushed_other session.undo (statement_undo session) e (row_of (present (table_at now.tables t) k)) (committed_row state t k) t k i
              ∙ ap (λ v. view_of session.undo (statement_undo session) (row_of v) (committed_row state t k) t k) (elsewhere t k (not_own_key t k e i))
          by_key true i =
              let parts = of_key_parts t k e i in
              let image : row_of (version_in e.image) ≡ row_of (present (table_at state.tables t) k) =
              image_shows (kept_at (table_at state.tables number) change.key)
              ∙ ap (λ n. row_of (present (table_at state.tables n) change.key)) parts.0 ∙ ap (λ x. row_of (present (table_at state.tables t) x)) parts.1 in
              let held : takes state.locks t k s ≡ true = subst (λ n. takes state.locks n k s ≡ true) parts.0 (subst (λ x. takes state.locks number x s ≡ true) parts.1 taken) in
              pushed_own session.undo (statement_undo session) e (row_of (present (table_at state.tables t) k)) (row_of (present (table_at now.tables t) k)) (committed_row state t k) t k i image
              (λ none. sym (ap (λ b. cond b (row_of (present (table_at state.tables t) k)) (committed_row state t k)) none) ∙ alone_sees m state o s t k (others_none m state o s t k held))

      by_session : (j t : ℕ) (k : ℤ) (b : Bool) → (j == s) ≡ b → view_at_beginning now j t k ≡ view_at_beginning state j t k
      by_session j t k false ne =
          others_view now j (other_at state.sessions s j new ne) t k
          (λ w. elsewhere t k (λ x y. not_written s number change.key taken j ne (subst (λ n. has_written (session_at state.sessions j) n change.key ≡ true) x (subst (λ z. has_written (session_at state.sessions j) t z ≡ true) y w))))
          (λ w. committed_same t k)
      by_session j t k true is =
          let same : j ≡ s = eqb-true j s is in
          ap (λ i. view_at_beginning now i t k) same
          ∙ ap (λ (x : SessionState). view_of x.undo (statement_undo x) (row_of (present (table_at now.tables t) k)) (committed_row now t k) t k) (same_at state.sessions s new (seated state.sessions s active.not_over))
          ∙ ap (λ us. view_of new.undo us (row_of (present (table_at now.tables t) k)) (committed_row now t k) t k) since
          ∙ ap (λ r. view_of (session.undo ++ e ∷ []) (statement_undo session ++ e ∷ []) (row_of (present (table_at now.tables t) k)) r t k) (committed_same t k)
          ∙ own t k
          ∙ ap (λ i. view_at_beginning state i t k) (sym same)

  -- ---- an entry is undone

  module _ (s : ℕ) (entry : UndoEntry) (more : ℕ) (active : IsActive state s) (at : IsUndoing m s (session_at state.sessions s) entry) where
    abbrev now : State
    now = after_undo state s entry more

    abbrev session : SessionState
    session = session_at state.sessions s

    abbrev new : SessionState
    new = session_after_undo more session

    definitions : map definition_at now.tables ≡ map definition_at state.tables
    definitions = definitions_changed entry.table (table_with_row entry.key (restored entry.image)) state.tables (λ t. refl)

    committed_same : (t : ℕ) (k : ℤ) → committed_row now t k ≡ committed_row state t k
    committed_same t k = ap row_of (undo_committed m state o s entry more active at t k)

    notes : (j : ℕ) → ((session_at now.sessions j).inside ≡ (session_at state.sessions j).inside) × ((session_at now.sessions j).number ≡ (session_at state.sessions j).number)
        × ((session_at now.sessions j).victim ≡ (session_at state.sessions j).victim)
    notes j = set_relates (λ x y. (y.inside ≡ x.inside) × (y.number ≡ x.number) × (y.victim ≡ x.victim)) (λ x. (refl, refl, refl)) state.sessions s new (refl, refl, refl) j

    top : session.undo ≡ front session.undo ++ entry ∷ []
    top = top_of session.undo entry at.newest

    among : Has session.undo entry
    among = subst (λ (list : List UndoEntry). Has list entry) (sym top) (Has-append_right (front session.undo) (entry ∷ []) entry (inl refl))

    taken : takes state.locks entry.table entry.key s ≡ true
    taken = o.written_locked.undone s entry among

    slot : IsRestorable state.tables session entry
    slot = o.restorable s entry among

    elsewhere : (t : ℕ) (k : ℤ) → (t ≡ entry.table → k ≡ entry.key → ⊥) → present (table_at now.tables t) k ≡ present (table_at state.tables t) k
    elsewhere t k ne = undo_elsewhere m state good o entry t k ne

    own : (su : List UndoEntry) → statement_undo session ≡ su ++ entry ∷ [] → (t : ℕ) (k : ℤ)
        → view_of (front session.undo) su (row_of (present (table_at now.tables t) k)) (committed_row state t k) t k
        ≡ view_of session.undo (statement_undo session) (row_of (present (table_at state.tables t) k)) (committed_row state t k) t k
    own su is t k =
        by_key (is_of_key t k entry) refl
        ∙ ap (λ us. view_of us (su ++ entry ∷ []) (row_of (present (table_at state.tables t) k)) (committed_row state t k) t k) (sym top)
        ∙ ap (λ us. view_of session.undo us (row_of (present (table_at state.tables t) k)) (committed_row state t k) t k) (sym is)
      where
        by_key : (b : Bool) → is_of_key t k entry ≡ b
            → view_of (front session.undo) su (row_of (present (table_at now.tables t) k)) (committed_row state t k) t k
            ≡ view_of (front session.undo ++ entry ∷ []) (su ++ entry ∷ []) (row_of (present (table_at state.tables t) k)) (committed_row state t k) t k
        by_key false i =
            ap (λ v. view_of (front session.undo) su (row_of v) (committed_row state t k) t k) (elsewhere t k (not_own_key t k entry i))
            ∙ sym (pushed_other (front session.undo) su entry (row_of (present (table_at state.tables t) k)) (committed_row state t k) t k i)
        by_key true i =
            let parts = of_key_parts t k entry i in
            let image : row_of (version_in entry.image) ≡ row_of (present (table_at now.tables t) k) =
            sym (ap row_of (undo_here m state o entry slot.kept slot.there))
            ∙ ap (λ n. row_of (present (table_at now.tables n) entry.key)) parts.0 ∙ ap (λ x. row_of (present (table_at now.tables t) x)) parts.1 in
            let held : takes state.locks t k s ≡ true = subst (λ n. takes state.locks n k s ≡ true) parts.0 (subst (λ x. takes state.locks entry.table x s ≡ true) parts.1 taken) in
            popped_own (front session.undo) su entry (row_of (present (table_at state.tables t) k)) (row_of (present (table_at now.tables t) k)) (committed_row state t k) t k i image
            (λ none. ap (λ x. row_of (version_or x (present (table_at state.tables t) k)))
            (images_now m state o s t k held ∙ ap (λ us. first_image us t k) top ∙ push_first (front session.undo) entry t k (unwritten_image (front session.undo) t k none) i) ∙ image)

    -- the session itself sees the same where it is at work
    pub undo_view : (j : ℕ) → ((j == s) ≡ true → (work : Work) × (session.work ≡ Some work) × (session.victim ≡ false)) → (t : ℕ) (k : ℤ)
        → view_at_beginning (after_undo state s entry more) j t k ≡ view_at_beginning state j t k
    undo_view j working t k = by_session (j == s) refl
      where
        by_session : (b : Bool) → (j == s) ≡ b → view_at_beginning now j t k ≡ view_at_beginning state j t k
        by_session false ne =
            others_view now j (other_at state.sessions s j new ne) t k
            (λ w. elsewhere t k (λ x y. not_written s entry.table entry.key taken j ne (subst (λ n. has_written (session_at state.sessions j) n entry.key ≡ true) x (subst (λ z. has_written (session_at state.sessions j) t z ≡ true) y w))))
            (λ w. committed_same t k)
        by_session true is =
            let same : j ≡ s = eqb-true j s is in
            let w = working is in
            let text = o.bound s w.0 w.1 in
            let last = (at.own w.0 text.text w.1 w.2 text.text_is).1 in
            let before : statement_undo session ≡ front (drop w.0.begun session.undo) ++ entry ∷ [] = begun_is session w.0 w.1 ∙ front_last (drop w.0.begun session.undo) entry last in
            let since : statement_undo new ≡ front (drop w.0.begun session.undo) =
            ap (λ x. drop (length_at_beginning new x) new.undo) w.1 ∙ drop_front w.0.begun session.undo entry last in
            ap (λ i. view_at_beginning now i t k) same
            ∙ ap (λ (x : SessionState). view_of x.undo (statement_undo x) (row_of (present (table_at now.tables t) k)) (committed_row now t k) t k) (same_at state.sessions s new (seated state.sessions s active.not_over))
            ∙ ap (λ us. view_of new.undo us (row_of (present (table_at now.tables t) k)) (committed_row now t k) t k) since
            ∙ ap (λ r. view_of (front session.undo) (front (drop w.0.begun session.undo)) (row_of (present (table_at now.tables t) k)) r t k) (committed_same t k)
            ∙ own (front (drop w.0.begun session.undo)) before t k
            ∙ ap (λ i. view_at_beginning state i t k) (sym same)

    -- who undoes and goes on is at work, and undoes its statement
    at_work : RollsBack m state s session → gives_up m state.tables s session ≡ false → (w : Option Work) → session.work ≡ w → (work : Work) × (session.work ≡ Some work)
    at_work rolls h (Some work) is = (work, is)
    at_work rolls h None is = absurd (by_reason (rolls is (not_victim m state.tables s session h)))
      where
        by_reason : (text_at m.script s session.number ≡ None) ⊎ IsAtFirst m state s session Rollback → ⊥
        by_reason (inl none) = false≢true (sym (not_rolling m state.tables s session h)
            ∙ ap (λ t. rolls_back (option_map (λ text. m.language.meaning (without_rows state.tables) (place_at s session.inside) text) t)) none)
        by_reason (inr first) = false≢true (sym (not_rolling m state.tables s session h)
            ∙ ap (λ t. rolls_back (option_map (λ text. m.language.meaning (without_rows state.tables) (place_at s session.inside) text) t)) first.text_is
            ∙ ap (λ st. rolls_back (Some st)) (means_without_rows m state good o s Rollback session first))

    pub undo_unmoved : RollsBack m state s (session_at state.sessions s) → IsUnmoved m state (after_undo state s entry more)
    undo_unmoved rolls = record {
      definitions = definitions;
      committed_same = committed_same;
      going = λ j h. (let c = notes j in
          neither (session_at state.sessions j).victim (rolls_back (statement_next m state.tables j (session_at state.sessions j)))
          (sym c.2 ∙ not_victim m now.tables j (session_at now.sessions j) h)
          (ap rolls_back (next_same m good state.tables now.tables j (session_at state.sessions j) (session_at now.sessions j) (sym definitions) (sym c.1) (sym c.0))
          ∙ not_rolling m now.tables j (session_at now.sessions j) h));
      inside = λ j. (notes j).0;
      views = λ j h t k. undo_view j (λ is. (let go : gives_up m state.tables s session ≡ false =
          subst (λ i. gives_up m state.tables i (session_at state.sessions i) ≡ false) (eqb-true j s is) h in
          let w = at_work rolls go session.work refl in (w.0, w.1, not_victim m state.tables s session go))) t k;
    }
