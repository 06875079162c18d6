-- What a session would undo, and of what it noted entries, is locked.
use Rattle.std.proofs.Common.{◌≡◌, ◌⊎◌, inl, inr, refl, sym, ap, subst, ℕ, ℤ, ◌==◌, cond, Bool, true, false, Option, Some, None, List, [], ◌∷◌, ◌++◌}
use Rattle.std.specs.Prelude.{flat_map, slice_set}
use Rattle.isp_base.specs.Lists.{Has}
use Rattle.isp_laws.proofs.ListLaws.{Has-append}
use Rattle.isp_reclock.specs.declared.entries.Lock.{Lock}
use Rattle.isp_reclock.specs.Tables.{key_lock, table_lock, takes, with_lock, without}
use Rattle.isp_plain.specs.declared.value.Row.{Row}
use Rattle.isp_events.specs.Stored.{KeptRow, indexed, kept_at, number_at, table_at}
use Rattle.isp_events.specs.Sessions.{Change, Note, SessionState, UndoEntry, entering, session_at, writing}
use Rattle.isp_events.specs.State.{State, front}
use Rattle.isp_events.specs.Ways.{Machine}
use Rattle.isp_events.specs.Next.{Descent}
use Rattle.isp_events.specs.Deadlocks.{Deadlock, with_victims}
use Rattle.isp_events.specs.Placing.{note_of}
use Rattle.isp_events.specs.Writing.{image_of, numbers_of_new, replaced_in, replaced_notes}
use Rattle.isp_events.specs.Events.{Actor, Choice, MayHappen, after}
use Rattle.isp_order.specs.Locks.{AreLocked, lock_on}
use Rattle.isp_order.specs.Work.{IsAtHand, IsChanging}
use Rattle.isp_order.specs.InOrder.{InOrder, IsProper}
use Rattle.isp_order.proofs.SessionLaws.{each_changed, victims_keep}
use Rattle.isp_causes.specs.Causes.{IsActive, IsEntering, IsPlacing, IsWritingRow}
use Rattle.isp_causes.proofs.EventCases.{EachKeeps, event_keeps}
use Rattle.isp_order_locks.proofs.LockLists.{Keeps, held_by_other, keeps_taken, still_held}

-- of one session
pub record IsOneLocked (locks : List Lock) (s : ℕ) (session : SessionState) : Type 0 where
  pub undone : (undo : UndoEntry) → Has session.undo undo → takes locks undo.table undo.key s ≡ true
  pub noted : (note : Note) → Has session.notes note → takes locks note.entry.table note.entry.key s ≡ true

one_of : (locks : List Lock) (sessions : List SessionState) → AreLocked locks sessions → (k : ℕ) → IsOneLocked locks k (session_at sessions k)
one_of locks sessions l k = record { undone = l.undone k; noted = l.noted k }

all_of : (locks : List Lock) (sessions : List SessionState) → ((k : ℕ) → IsOneLocked locks k (session_at sessions k)) → AreLocked locks sessions
all_of locks sessions each = record { undone = λ k. (each k).undone; noted = λ k. (each k).noted }

more_locks : (locks new : List Lock) (k : ℕ) (session : SessionState) → Keeps locks new k → IsOneLocked locks k session → IsOneLocked new k session
more_locks locks new k session keep l = record {
  undone = λ undo h. keeps_taken locks new k undo.table undo.key keep (l.undone undo h);
  noted = λ note h. keeps_taken locks new k note.entry.table note.entry.key keep (l.noted note h);
}

-- the same undo list and notes
alike : (locks : List Lock) (k : ℕ) (old new : SessionState) → new.undo ≡ old.undo → new.notes ≡ old.notes → IsOneLocked locks k old → IsOneLocked locks k new
alike locks k old new undo notes l = record {
  undone = λ u h. l.undone u (subst (λ (xs : List UndoEntry). Has xs u) undo h);
  noted = λ n h. l.noted n (subst (λ (xs : List Note). Has xs n) notes h);
}

pub keeps_all : (locks : List Lock) (lock : Lock) (k : ℕ) → Keeps locks (with_lock locks lock) k
keeps_all locks lock k table key mode h = still_held locks lock (lock_on k table key mode) h

pub keeps_others : (locks : List Lock) (s k : ℕ) → (k == s) ≡ false → Keeps locks (without locks s) k
keeps_others locks s k ne table key mode h = held_by_other locks s (lock_on k table key mode) ne h

pub has_front : {Y : Type 0} (xs : List Y) (x : Y) → Has (front xs) x → Has xs x
has_front [] x h = absurd h
has_front (y ∷ []) x h = absurd h
has_front (y ∷ z ∷ xs) x (inl e) = inl e
has_front (y ∷ z ∷ xs) x (inr h) = inr (has_front (z ∷ xs) x h)

-- ---- the notes of a row

has_flat : {A B : Type 0} (f : A → List B) (xs : List A) (y : B) → Has (flat_map f xs) y → (x : A) × Has (f x) y
has_flat f [] y h = absurd h
has_flat f (x ∷ xs) y h = elim (Has-append (f x) (flat_map f xs) y h) [ inl k ↦ (x, k) | inr k ↦ has_flat f xs y k ]

-- what is noted of a replaced entry is of the row's table and key
pub record IsOfRow (table : ℕ) (key : ℤ) (note : Note) : Type 0 where
  pub of_table : note.entry.table ≡ table
  pub of_key : note.entry.key ≡ key

replaced_one : (table : ℕ) (key : ℤ) (statement : ℕ) (row : Row) (column : ℕ) (old new : Option ℕ) (note : Note) → Has (replaced_in table key statement row column old new) note → IsOfRow table key note
replaced_one table key statement row column None new note h = absurd h
replaced_one table key statement row column (Some number) None note (inl e) = record { of_table = ap (λ (n : Note). n.entry.table) (sym e); of_key = ap (λ (n : Note). n.entry.key) (sym e) }
replaced_one table key statement row column (Some number) None note (inr h) = absurd h
replaced_one table key statement row column (Some number) (Some other) note h = by_test (number == other) h
  where
    by_test : (b : Bool) → Has (cond b [] (replaced_in table key statement row column (Some number) None)) note → IsOfRow table key note
    by_test true k = absurd k
    by_test false (inl e) = record { of_table = ap (λ (n : Note). n.entry.table) (sym e); of_key = ap (λ (n : Note). n.entry.key) (sym e) }
    by_test false (inr k) = absurd k

pub replaced_of_row : (table : ℕ) (change : Change) (statement : ℕ) (columns : List ℕ) (placed : List (ℕ × ℕ)) (old : Option KeptRow) (note : Note)
    → Has (replaced_notes table change statement columns placed old) note → IsOfRow table change.key note
replaced_of_row table change statement columns placed None note h = absurd h
replaced_of_row table change statement columns placed (Some kept) note h = by_mark kept.mark h
  where
    by_mark : (b : Bool) → Has (cond b []
        (flat_map (λ column. replaced_in table change.key statement kept.row column (number_at columns kept.numbers column)
        (number_at columns (numbers_of_new columns placed (Some kept) change.new) column)) columns)) note → IsOfRow table change.key note
    by_mark true k = absurd k
    by_mark false k =
        let r = has_flat (λ column. replaced_in table change.key statement kept.row column (number_at columns kept.numbers column)
        (number_at columns (numbers_of_new columns placed (Some kept) change.new) column)) columns note k in
        replaced_one table change.key statement kept.row r.0 (number_at columns kept.numbers r.0) (number_at columns (numbers_of_new columns placed (Some kept) change.new) r.0) note r.1

module _ (m : Machine) (state : State) (good : IsProper m) (o : InOrder m state) where
  -- the change at hand stands, and is locked
  pub at_hand : (s : ℕ) (en : IsEntering (session_at state.sessions s)) → IsAtHand state.tables state.locks s en.work en.change
  at_hand s en =
      let c : IsChanging state.tables state.locks s en.work (writing en.done (en.change ∷ en.left) (entering en.e)) =
      subst (IsChanging state.tables state.locks s en.work) en.phase (o.changing s en.work en.goes_on.at_work en.goes_on.undisturbed en.goes_on.unfailed) in
      c.at_hand

  same_locks : (s : ℕ) (new : SessionState) → IsActive state s → IsOneLocked state.locks s new → AreLocked state.locks (slice_set state.sessions s new)
  same_locks s new active own =
      all_of state.locks (slice_set state.sessions s new)
      (each_changed (IsOneLocked state.locks) state.sessions s new active.not_over own (λ k ne. one_of state.locks state.sessions o.written_locked k))

  own : (s : ℕ) → IsOneLocked state.locks s (session_at state.sessions s)
  own s = one_of state.locks state.sessions o.written_locked s

  locked_lock : (s : ℕ) (lock : Lock) (new : SessionState) → IsActive state s → new.undo ≡ (session_at state.sessions s).undo → new.notes ≡ (session_at state.sessions s).notes
      → AreLocked (with_lock state.locks lock) (slice_set state.sessions s new)
  locked_lock s lock new active undo notes =
      all_of (with_lock state.locks lock) (slice_set state.sessions s new)
      (each_changed (IsOneLocked (with_lock state.locks lock)) state.sessions s new active.not_over
      (more_locks state.locks (with_lock state.locks lock) s new (keeps_all state.locks lock s) (alike state.locks s (session_at state.sessions s) new undo notes (own s)))
      (λ k ne. more_locks state.locks (with_lock state.locks lock) k (session_at state.sessions k) (keeps_all state.locks lock k) (own k)))

  locked_end : (s : ℕ) (new : SessionState) → IsActive state s → new.undo ≡ [] → new.notes ≡ [] → AreLocked (without state.locks s) (slice_set state.sessions s new)
  locked_end s new active undo notes =
      all_of (without state.locks s) (slice_set state.sessions s new)
      (each_changed (IsOneLocked (without state.locks s)) state.sessions s new active.not_over
      (record {
        undone = λ u h. absurd (subst (λ (xs : List UndoEntry). Has xs u) undo h);
        noted = λ n h. absurd (subst (λ (xs : List Note). Has xs n) notes h);
      })
      (λ k ne. more_locks state.locks (without state.locks s) k (session_at state.sessions k) (keeps_others state.locks s k ne) (own k)))

  locked_undo : (s : ℕ) (new : SessionState) → IsActive state s → new.undo ≡ front (session_at state.sessions s).undo → new.notes ≡ (session_at state.sessions s).notes
      → AreLocked state.locks (slice_set state.sessions s new)
  locked_undo s new active undo notes = same_locks s new active (record {
    undone = λ u h. (own s).undone u (has_front (session_at state.sessions s).undo u (subst (λ (xs : List UndoEntry). Has xs u) undo h));
    noted = λ n h. (own s).noted n (subst (λ (xs : List Note). Has xs n) notes h);
  })

  locked_refuse : (ds : List Deadlock) → AreLocked state.locks (with_victims state.sessions ds)
  locked_refuse ds =
      all_of state.locks (with_victims state.sessions ds)
      (λ k. alike state.locks k (session_at state.sessions k) (session_at (with_victims state.sessions ds) k)
      (victims_keep (λ (x : SessionState). x.undo) (λ x. refl) state.sessions ds k) (victims_keep (λ (x : SessionState). x.notes) (λ x. refl) state.sessions ds k) (own k))

  locked_place : (s : ℕ) (d : Descent) (number : ℕ) (new : SessionState) → IsActive state s → IsPlacing state (session_at state.sessions s) d
      → new.undo ≡ (session_at state.sessions s).undo → new.notes ≡ (session_at state.sessions s).notes ++ note_of d number (session_at state.sessions s).number ∷ []
      → AreLocked state.locks (slice_set state.sessions s new)
  locked_place s d number new active at undo notes = same_locks s new active (record {
    undone = λ u h. (own s).undone u (subst (λ (xs : List UndoEntry). Has xs u) undo h);
    noted = λ n h. by_cases n (Has-append (session_at state.sessions s).notes (note_of d number (session_at state.sessions s).number ∷ []) n (subst (λ (xs : List Note). Has xs n) notes h));
  })
    where
      en : IsEntering (session_at state.sessions s)
      en = at.descending.entering

      placed : takes state.locks d.table d.key s ≡ true
      placed = subst (λ (x : Descent). takes state.locks x.table x.key s ≡ true) (sym at.descending.descent) (at_hand s at.descending.entering).locked

      by_cases : (n : Note) → Has (session_at state.sessions s).notes n ⊎ Has (note_of d number (session_at state.sessions s).number ∷ []) n → takes state.locks n.entry.table n.entry.key s ≡ true
      by_cases n (inl h) = (own s).noted n h
      by_cases n (inr (inl e)) = subst (λ (x : Note). takes state.locks x.entry.table x.entry.key s ≡ true) e placed
      by_cases n (inr (inr h)) = absurd h

  -- the key of a row that is written is locked
  pub row_taken : (s number : ℕ) (change : Change) (placed : List (ℕ × ℕ)) → IsWritingRow state (session_at state.sessions s) number change placed → takes state.locks number change.key s ≡ true
  row_taken s number change placed at =
      subst (λ n. takes state.locks n change.key s ≡ true) (sym at.number_is)
      (subst (λ (c : Change). takes state.locks at.entering.work.table c.key s ≡ true) (sym at.change_is) (at_hand s at.entering).locked)

  locked_row : (s number : ℕ) (change : Change) (placed : List (ℕ × ℕ)) (old : Option KeptRow) (columns : List ℕ) (new : SessionState) → IsActive state s
      → IsWritingRow state (session_at state.sessions s) number change placed
      → new.undo ≡ (session_at state.sessions s).undo ++ record { table = number; key = change.key; image = image_of old } ∷ []
      → new.notes ≡ (session_at state.sessions s).notes ++ replaced_notes number change (session_at state.sessions s).number columns placed old
      → AreLocked state.locks (slice_set state.sessions s new)
  locked_row s number change placed old columns new active at undo notes = same_locks s new active (record {
    undone = λ u h. undo_cases u (Has-append (session_at state.sessions s).undo (record { table = number; key = change.key; image = image_of old } ∷ []) u (subst (λ (xs : List UndoEntry). Has xs u) undo h));
    noted = λ n h. note_cases n (Has-append (session_at state.sessions s).notes (replaced_notes number change (session_at state.sessions s).number columns placed old) n (subst (λ (xs : List Note). Has xs n) notes h));
  })
    where
      taken : takes state.locks number change.key s ≡ true
      taken = row_taken s number change placed at

      undo_cases : (u : UndoEntry) → Has (session_at state.sessions s).undo u ⊎ Has (record { table = number; key = change.key; image = image_of old } ∷ []) u → takes state.locks u.table u.key s ≡ true
      undo_cases u (inl h) = (own s).undone u h
      undo_cases u (inr (inl e)) = subst (λ (x : UndoEntry). takes state.locks x.table x.key s ≡ true) e taken
      undo_cases u (inr (inr h)) = absurd h

      note_cases : (n : Note) → Has (session_at state.sessions s).notes n ⊎ Has (replaced_notes number change (session_at state.sessions s).number columns placed old) n
          → takes state.locks n.entry.table n.entry.key s ≡ true
      note_cases n (inl h) = (own s).noted n h
      note_cases n (inr h) =
          let r : IsOfRow number change.key n = replaced_of_row number change (session_at state.sessions s).number columns placed old n h in
          subst (λ t. takes state.locks t n.entry.key s ≡ true) (sym r.of_table) (subst (λ k. takes state.locks number k s ≡ true) (sym r.of_key) taken)

  pub locked_each : EachKeeps m state (λ (st : State). AreLocked st.locks st.sessions)
  locked_each = record {
    still = o.written_locked;
    purge = λ some. o.written_locked;
    end = λ s over active. locked_end s _ active refl refl;
    answer = λ s reply active at. same_locks s _ active (alike state.locks s (session_at state.sessions s) _ refl refl (own s));
    undo = λ s entry more active at. locked_undo s _ active refl refl;
    create = λ s over name schema leaf roots active at may. locked_end s _ active refl refl;
    refuse = λ s on ds active at may. locked_refuse ds;
    lock_table = λ s statement number mode active at none. locked_lock s (table_lock s number mode) _ active refl refl;
    lock_key = λ s number key mode active at none. locked_lock s (key_lock s number key mode) _ active refl refl;
    lock_row = λ s number key mode active at none. locked_lock s (key_lock s number key mode) _ active refl refl;
    visit = λ s number column predicate active at. same_locks s _ active (alike state.locks s (session_at state.sessions s) _ refl refl (own s));
    scan = λ s number leaf active at. same_locks s _ active (alike state.locks s (session_at state.sessions s) _ refl refl (own s));
    step = λ s d q active at may. same_locks s _ active (alike state.locks s (session_at state.sessions s) _ refl refl (own s));
    stale = λ s d active at. same_locks s _ active (alike state.locks s (session_at state.sessions s) _ refl refl (own s));
    full = λ s active at. same_locks s _ active (alike state.locks s (session_at state.sessions s) _ refl refl (own s));
    place = λ s d q ds active at may. locked_place s d state.entries _ active at refl refl;
    row = λ s number change placed p active at may. locked_row s number change placed (kept_at (table_at state.tables number) change.key) (indexed (table_at state.tables number)) _ active at refl refl;
  }

pub locked_kept : (m : Machine) (state : State) (actor : Actor) (choice : Choice) → IsProper m → InOrder m state → MayHappen m state actor choice
    → AreLocked (after m state actor choice).locks (after m state actor choice).sessions
locked_kept m state actor choice good o h = event_keeps m state good o (λ (st : State). AreLocked st.locks st.sessions) (locked_each m state good o) actor choice h
