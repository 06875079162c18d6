-- Nothing is noted by a later statement than the present one, nor by that one before it writes.
use Rattle.std.proofs.Common.{◌≡◌, ◌⊎◌, ◌∙◌, ◌<◌, ◌≤◌, inl, inr, refl, sym, ap, subst, ℕ, ℤ, ◌+◌, ◌==◌, cond, Bool, true, false, Option, Some, None, List, [], ◌∷◌, ◌++◌, arith}
use Rattle.std.specs.Prelude.{flat_map, slice_set}
use Rattle.std.specs.Option.{option_map}
use Rattle.std.proofs.lemmas.Bool.{false≢true}
use Rattle.isp_base.specs.Lists.{Has}
use Rattle.isp_laws.proofs.ListLaws.{Has-append}
use Rattle.isp_plain.specs.declared.statement.Statement.{Statement}
use Rattle.isp_plain.specs.declared.value.Row.{Row}
use Rattle.isp_events.specs.Stored.{KeptRow, indexed, kept_at, number_at, present, row_of, table_at}
use Rattle.isp_events.specs.Sessions.{Change, Entering, Note, Phase, locking, visiting, scanning, writing, SessionState, Work, phase_with, session_at, unlocked}
use Rattle.isp_events.specs.State.{State}
use Rattle.isp_events.specs.Ways.{Machine}
use Rattle.isp_events.specs.Next.{Descent}
use Rattle.isp_events.specs.Placing.{note_of, phase_with_entry}
use Rattle.isp_events.specs.Writing.{numbers_of_new, phase_after_row, replaced_in, replaced_notes}
use Rattle.isp_events.specs.Asking.{phase_after_key, read_with, work_after_key}
use Rattle.isp_events.specs.Events.{Actor, Choice, MayHappen, after}
use Rattle.isp_order.specs.Work.{AreAllBefore, AreNotedBefore, is_before_writing, is_finding}
use Rattle.isp_order.specs.InOrder.{InOrder, IsProper}
use Rattle.isp_order.proofs.SessionLaws.{each_changed}
use Rattle.isp_causes.specs.Causes.{IsActive, IsEntering}
use Rattle.isp_causes.proofs.EventCases.{EachKeeps, event_keeps}
use Rattle.isp_order_work.proofs.WorkParts.{victims_each}

-- ---- the notes of a row are of its statement

has_flat : {A B : Type 0} (f : A → List B) (xs : List A) (y : B) → Has (flat_map f xs) y → (x : A) × Has (f x) y
has_flat f [] y h = absurd h
has_flat f (x ∷ xs) y h = elim (Has-append (f x) (flat_map f xs) y h) [ inl k ↦ (x, k) | inr k ↦ has_flat f xs y k ]

replaced_one : (table : ℕ) (key : ℤ) (statement : ℕ) (row : Row) (column : ℕ) (old new : Option ℕ) (note : Note) → Has (replaced_in table key statement row column old new) note → note.statement ≡ statement
replaced_one table key statement row column None new note h = absurd h
replaced_one table key statement row column (Some number) None note (inl e) = ap (λ (n : Note). n.statement) (sym e)
replaced_one table key statement row column (Some number) None note (inr h) = absurd h
replaced_one table key statement row column (Some number) (Some other) note h = by_test (number == other) h
  where
    by_test : (b : Bool) → Has (cond b [] (replaced_in table key statement row column (Some number) None)) note → note.statement ≡ statement
    by_test true k = absurd k
    by_test false (inl e) = ap (λ (n : Note). n.statement) (sym e)
    by_test false (inr k) = absurd k

replaced_of : (table : ℕ) (change : Change) (statement : ℕ) (columns : List ℕ) (placed : List (ℕ × ℕ)) (old : Option KeptRow) (note : Note)
    → Has (replaced_notes table change statement columns placed old) note → note.statement ≡ statement
replaced_of table change statement columns placed None note h = absurd h
replaced_of table change statement columns placed (Some kept) note h = by_mark kept.mark h
  where
    by_mark : (b : Bool) → Has (cond b []
        (flat_map (λ column. replaced_in table change.key statement kept.row column (number_at columns kept.numbers column)
        (number_at columns (numbers_of_new columns placed (Some kept) change.new) column)) columns)) note → note.statement ≡ statement
    by_mark true k = absurd k
    by_mark false k =
        let r = has_flat (λ column. replaced_in table change.key statement kept.row column (number_at columns kept.numbers column)
        (number_at columns (numbers_of_new columns placed (Some kept) change.new) column)) columns note k in
        replaced_one table change.key statement kept.row r.0 (number_at columns kept.numbers r.0) (number_at columns (numbers_of_new columns placed (Some kept) change.new) r.0) note r.1

-- ---- who writes isn't finding

phase_with_writes : (statement : Statement) (columns : List ℕ) (done left : List Change) → is_before_writing (phase_with statement columns done left) ≡ false
phase_with_writes statement columns done [] = refl
phase_with_writes statement columns done (change ∷ left) = refl

module _ (m : Machine) (state : State) (good : IsProper m) (o : InOrder m state) where
  own_step : (s : ℕ) (new : SessionState) → IsActive state s → AreNotedBefore new → AreAllBefore (slice_set state.sessions s new)
  own_step s new active own = each_changed (λ k session. AreNotedBefore session) state.sessions s new active.not_over own (λ k ne. o.before k)

  -- notes, number and whether it is finding stay, or it is finding no more, or it was finding before
  alike : (session new : SessionState) → new.notes ≡ session.notes → new.number ≡ session.number → (is_finding new.work ≡ true → is_finding session.work ≡ true) → AreNotedBefore session → AreNotedBefore new
  alike session new notes number finding b = record {
    not_later = λ n h. subst (λ k. n.statement ≤ k) (sym number) (b.not_later n (subst (λ (xs : List Note). Has xs n) notes h));
    not_yet = λ n h f. subst (λ k. n.statement < k) (sym number) (b.not_yet n (subst (λ (xs : List Note). Has xs n) notes h) (finding f));
  }

  was_finding : (s : ℕ) (work : Work) (phase : Phase) (b : Bool) → (session_at state.sessions s).work ≡ Some work → work.phase ≡ phase → is_before_writing phase ≡ b
      → is_finding (session_at state.sessions s).work ≡ b
  was_finding s work phase b at is e = ap is_finding at ∙ ap is_before_writing is ∙ e

  -- it writes then
  now_writes : (s : ℕ) (f : Work → Work) (work : Work) → (session_at state.sessions s).work ≡ Some work → is_before_writing (f work).phase ≡ false
      → is_finding (option_map f (session_at state.sessions s).work) ≡ true → ⊥
  now_writes s f work at e h = false≢true (sym (ap (λ w. is_finding (option_map f w)) at ∙ e) ∙ h)

  entry_writes : (s : ℕ) (f : Entering → Entering) (en : IsEntering (session_at state.sessions s)) → is_before_writing (phase_with_entry f en.work.phase) ≡ false
  entry_writes s f en = ap (λ p. is_before_writing (phase_with_entry f p)) en.phase

  row_writes : (s : ℕ) (number : ℕ) (en : IsEntering (session_at state.sessions s)) → is_before_writing (phase_after_row (table_at state.tables number) en.work en.work.phase) ≡ false
  row_writes s number en =
      ap (λ p. is_before_writing (phase_after_row (table_at state.tables number) en.work p)) en.phase
      ∙ phase_with_writes en.work.statement (indexed (table_at state.tables number)) (en.done ++ en.change ∷ []) en.left

  more_notes : (s : ℕ) (new : SessionState) (notes : List Note) → ((n : Note) → Has notes n → n.statement ≡ (session_at state.sessions s).number)
      → new.notes ≡ (session_at state.sessions s).notes ++ notes → new.number ≡ (session_at state.sessions s).number → (is_finding new.work ≡ true → ⊥) → AreNotedBefore new
  more_notes s new notes own is number writes = record {
    not_later = λ n h. subst (λ k. n.statement ≤ k) (sym number) (by_cases n (Has-append (session_at state.sessions s).notes notes n (subst (λ (xs : List Note). Has xs n) is h)));
    not_yet = λ n h f. absurd (writes f);
  }
    where
      by_cases : (n : Note) → Has (session_at state.sessions s).notes n ⊎ Has notes n → n.statement ≤ (session_at state.sessions s).number
      by_cases n (inl h) = (o.before s).not_later n h
      by_cases n (inr h) = let e : n.statement ≡ (session_at state.sessions s).number = own n h in omega (arith, e)

  nothing_noted : (new : SessionState) → new.notes ≡ [] → AreNotedBefore new
  nothing_noted new none = record {
    not_later = λ n h. absurd (subst (λ (xs : List Note). Has xs n) none h);
    not_yet = λ n h f. absurd (subst (λ (xs : List Note). Has xs n) none h);
  }

  next_number : (s : ℕ) (new : SessionState) → new.notes ≡ (session_at state.sessions s).notes → new.number ≡ (session_at state.sessions s).number + 1 → AreNotedBefore new
  next_number s new notes number = record {
    not_later = λ n h. (let le : n.statement ≤ (session_at state.sessions s).number = (o.before s).not_later n (subst (λ (xs : List Note). Has xs n) notes h) in omega (arith, le, number));
    not_yet = λ n h f. (let le : n.statement ≤ (session_at state.sessions s).number = (o.before s).not_later n (subst (λ (xs : List Note). Has xs n) notes h) in omega (arith, le, number));
  }

  row_locked : (s : ℕ) (work : Work) (done : List Change) (change : Change) (left : List Change) (number : ℕ) (key : ℤ) → work.phase ≡ writing done (change ∷ left) unlocked
      → is_before_writing (work_after_key (table_at state.tables number) (row_of (present (table_at state.tables number) key)) work).phase ≡ false
  row_locked s work done change left number key is =
      ap (λ p. is_before_writing (phase_after_key (table_at state.tables number) work.statement p
      (read_with work.phase work.read (row_of (present (table_at state.tables number) key))))) is

  one_note : (s : ℕ) (d : Descent) (n : Note) → Has (note_of d state.entries (session_at state.sessions s).number ∷ []) n → n.statement ≡ (session_at state.sessions s).number
  one_note s d n (inl e) = ap (λ (x : Note). x.statement) (sym e)
  one_note s d n (inr h) = absurd h

  pub before_each : EachKeeps m state (λ (st : State). AreAllBefore st.sessions)
  before_each = record {
    still = o.before;
    purge = λ some. o.before;
    end = λ s over active. own_step s _ active (nothing_noted _ refl);
    answer = λ s reply active at. own_step s _ active (next_number s _ refl refl);
    undo = λ s entry more active at. own_step s _ active (alike (session_at state.sessions s) _ refl refl (λ f. f) (o.before s));
    create = λ s over name schema leaf roots active at may. own_step s _ active (nothing_noted _ refl);
    refuse = λ s on ds active at may. victims_each (λ k session. AreNotedBefore session) (λ k x b. record { not_later = b.not_later; not_yet = b.not_yet }) state.sessions ds o.before;
    lock_table = λ s statement number mode active at none.
        own_step s _ active (alike (session_at state.sessions s) _ refl refl (λ f. ap is_finding at.first.no_work) (o.before s));
    lock_key = λ s number key mode active at none.
        own_step s _ active (alike (session_at state.sessions s) _ refl refl (λ f. was_finding s at.work (locking (key ∷ at.keys)) true at.goes_on.at_work at.phase refl) (o.before s));
    lock_row = λ s number key mode active at none.
        own_step s _ active (alike (session_at state.sessions s) _ refl refl (λ f. absurd (now_writes s _ at.work at.goes_on.at_work (row_locked s at.work at.done at.change at.left number key at.phase) f)) (o.before s));
    visit = λ s number column predicate active at.
        own_step s _ active (alike (session_at state.sessions s) _ refl refl (λ f. was_finding s at.work visiting true at.goes_on.at_work at.phase refl) (o.before s));
    scan = λ s number leaf active at.
        own_step s _ active (alike (session_at state.sessions s) _ refl refl (λ f. was_finding s at.work (scanning at.last) true at.goes_on.at_work at.phase refl) (o.before s));
    step = λ s d q active at may.
        own_step s _ active (alike (session_at state.sessions s) _ refl refl
        (λ f. absurd (now_writes s _ at.descending.entering.work at.descending.entering.goes_on.at_work (entry_writes s _ at.descending.entering) f)) (o.before s));
    stale = λ s d active at.
        own_step s _ active (alike (session_at state.sessions s) _ refl refl
        (λ f. absurd (now_writes s _ at.descending.entering.work at.descending.entering.goes_on.at_work (entry_writes s _ at.descending.entering) f)) (o.before s));
    full = λ s active at.
        own_step s _ active (alike (session_at state.sessions s) _ refl refl (λ f. absurd (now_writes s _ at.work at.goes_on.at_work (ap is_before_writing at.phase) f)) (o.before s));
    place = λ s d q ds active at may.
        own_step s _ active (more_notes s _ (note_of d state.entries (session_at state.sessions s).number ∷ []) (one_note s d) refl refl
        (λ f. now_writes s _ at.descending.entering.work at.descending.entering.goes_on.at_work (entry_writes s _ at.descending.entering) f));
    row = λ s number change placed p active at may.
        own_step s _ active (more_notes s _ (replaced_notes number change (session_at state.sessions s).number (indexed (table_at state.tables number)) placed (kept_at (table_at state.tables number) change.key))
        (replaced_of number change (session_at state.sessions s).number (indexed (table_at state.tables number)) placed (kept_at (table_at state.tables number) change.key)) refl refl
        (λ f. now_writes s _ at.entering.work at.entering.goes_on.at_work (row_writes s number at.entering) f));
  }

pub before_kept : (m : Machine) (state : State) (actor : Actor) (choice : Choice) → IsProper m → InOrder m state → MayHappen m state actor choice → AreAllBefore (after m state actor choice).sessions
before_kept m state actor choice good o h = event_keeps m state good o (λ (st : State). AreAllBefore st.sessions) (before_each m state good o) actor choice h
