-- A rested state has all clauses: of most there is nothing that they speak of.
use Rattle.std.proofs.Common.{◌≡◌, ◌∙◌, inl, refl, sym, ap, ℕ, ℤ, suc, true, List, [], ◌∷◌, ◌++◌, Some, None, arith}
use Rattle.std.specs.Prelude.{flat_map, slice_index_or}
use Rattle.std.specs.Option.{option_or}
use Rattle.std.proofs.lemmas.Bool.{false≢true}
use Rattle.isp_base.specs.Lists.{Has}
use Rattle.isp_reclock.specs.declared.entries.Lock.{Lock}
use Rattle.isp_reclock.specs.Tables.{holds}
use Rattle.isp_waits.specs.Graphs.{WaitsFor, has, waits_of}
use Rattle.isp_waits.specs.Cycles.{IsCycle}
use Rattle.isp_events.specs.Stored.{Version, present, table_at}
use Rattle.isp_events.specs.Sessions.{Note, SessionState, UndoEntry, Work, fresh, session_at}
use Rattle.isp_events.specs.State.{State, TreeSearch}
use Rattle.isp_events.specs.Views.{first_image_of_all, first_image}
use Rattle.isp_events.specs.Ways.{Machine}
use Rattle.isp_order.specs.Trees.{NamesOwn, StandsAt, committed_version, placed_by, queued_numbers}
use Rattle.isp_reclock.specs.declared.modes.Mode.TheVariants.{S, X}
use Rattle.isp_order.specs.Locks.{IsIdle, lock_on}
use Rattle.isp_order.specs.InOrder.{InOrder, IsRested}
use Rattle.isp_order.proofs.SessionLaws.{none_has}

nothing_flat : {X Y : Type 0} (f : X → List Y) (xs : List X) (d : X) → ((i : ℕ) → f (slice_index_or xs i d) ≡ []) → flat_map f xs ≡ []
nothing_flat f [] d each = refl
nothing_flat f (x ∷ xs) d each = ap (λ ys. ys ++ flat_map f xs) (each 0) ∙ nothing_flat f xs d (λ i. each (suc i))

no_image : (sessions : List SessionState) (table : ℕ) (key : ℤ) → ((i : ℕ) → (session_at sessions i).undo ≡ []) → first_image_of_all sessions table key ≡ None
no_image [] table key each = refl
no_image (x ∷ sessions) table key each =
    ap (λ undo. option_or (first_image undo table key) (first_image_of_all sessions table key)) (each 0) ∙ no_image sessions table key (λ i. each (suc i))

nobody_waits : (waits : List (List ℕ)) (s by : ℕ) → waits_of waits s ≡ [] → WaitsFor waits s by → ⊥
nobody_waits waits s by none w = false≢true (sym (ap (λ list. has list by) none) ∙ w)

is_free : (waits : List (List ℕ)) → ((s : ℕ) → waits_of waits s ≡ []) → (s : ℕ) (cycle : List ℕ) → IsCycle waits cycle → ⊥
is_free waits none s [] h = h
is_free waits none s (a ∷ []) h = nobody_waits waits a a (none a) h.0
is_free waits none s (a ∷ x ∷ xs) h = nobody_waits waits a x (none a) h.0.0

no_work : (session : SessionState) (work : Work) → session.work ≡ None → session.work ≡ Some work → ⊥
no_work session work none some = let no : None ≡ Some work = sym none ∙ some in cc

module _ (m : Machine) (state : State) (r : IsRested m state) where
  undo_none : (s : ℕ) → (session_at state.sessions s).undo ≡ []
  undo_none s = ap (λ (x : SessionState). x.undo) (r.fresh s)

  notes_none : (s : ℕ) → (session_at state.sessions s).notes ≡ []
  notes_none s = ap (λ (x : SessionState). x.notes) (r.fresh s)

  work_none : (s : ℕ) → (session_at state.sessions s).work ≡ None
  work_none s = ap (λ (x : SessionState). x.work) (r.fresh s)

  placed_none : (s : ℕ) → placed_by (session_at state.sessions s) ≡ []
  placed_none s = ap placed_by (r.fresh s)

  queued_none : queued_numbers state.queue ≡ []
  queued_none = ap queued_numbers r.no_queue

  idle_is : (s : ℕ) → IsIdle (session_at state.sessions s)
  idle_is s = record { outside = ap (λ (x : SessionState). x.inside) (r.fresh s); no_work = work_none s }

  no_lock : (lock : Lock) → holds state.locks lock ≡ true → ⊥
  no_lock lock h = false≢true (sym (ap (λ locks. holds locks lock) r.no_lock) ∙ h)

  no_search : (x : TreeSearch) → Has state.searches x → ⊥
  no_search x h = none_has state.searches x r.no_search h

  no_undo : (s : ℕ) (u : UndoEntry) → Has (session_at state.sessions s).undo u → ⊥
  no_undo s u h = none_has (session_at state.sessions s).undo u (undo_none s) h

  no_note : (s : ℕ) (n : Note) → Has (session_at state.sessions s).notes n → ⊥
  no_note s n h = none_has (session_at state.sessions s).notes n (notes_none s) h

  pending_none : (s number : ℕ) → Has (placed_by (session_at state.sessions s)) number → ⊥
  pending_none s number h = none_has (placed_by (session_at state.sessions s)) number (placed_none s) h

  dead_none : (number : ℕ) → Has (queued_numbers state.queue) number → ⊥
  dead_none number h = none_has (queued_numbers state.queue) number queued_none h

  names_settled : (table : ℕ) (key : ℤ) (version : Version) → StandsAt state.tables table key version → NamesOwn state.tables state.sessions table key version
  names_settled table key version stands column number has = inl (record {
    version = version;
    committed = committed_is table key ∙ stands;
    has = has;
  })
    where
      committed_is : (t : ℕ) (k : ℤ) → committed_version state.tables state.sessions t k ≡ present (table_at state.tables t) k
      committed_is t k = rw (no_image state.sessions t k undo_none) refl

  pub in_order : InOrder m state
  in_order = record {
    counted = r.counted;
    whole = r.whole;
    keyed = r.keyed;
    entered = record { rows = r.entered; images = λ s u v h. absurd (no_undo s u h.0) };
    numbered = r.numbered;
    noted = record {
      notes = λ s n h. absurd (no_note s n h);
      queued = λ e h. absurd (none_has state.queue _ r.no_queue h);
      placed_once = λ number. (let e : flat_map placed_by state.sessions ≡ [] = nothing_flat placed_by state.sessions (fresh true) placed_none in rw e (omega arith));
      queued_once = λ number. rw queued_none (omega arith);
      apart = λ s n h k. no_note s n h;
    };
    one_status = record {
      settled_alive = λ table column key number h k. dead_none number k;
      settled_done = λ table column key number s h k. pending_none s number k;
      pending_alive = λ number s h k. dead_none number k;
      pending_once = λ number s k h l. absurd (pending_none s number h);
    };
    named = record { rows = names_settled; images = λ s u v h. absurd (no_undo s u h.0) };
    restorable = λ s u h. absurd (no_undo s u h);
    no_conflict = λ s k table key a b h. absurd (no_lock (lock_on s table key a) h);
    intended = record {
      shared = λ s table key h. absurd (no_lock (lock_on s table (Some key) S) h);
      exclusive = λ s table key h. absurd (no_lock (lock_on s table (Some key) X) h);
      on_keys = λ s table key mode h. absurd (no_lock (lock_on s table (Some key) mode) h);
      searching = λ x h. absurd (no_search x h);
    };
    written_locked = record { undone = λ s u h. absurd (no_undo s u h); noted = λ s n h. absurd (no_note s n h) };
    idle = record {
      nothing = λ s idle. record {
        no_lock = λ lock h. absurd (none_has state.locks lock r.no_lock h);
        no_search = λ x h. absurd (no_search x h);
        no_undo = undo_none s;
        no_note = notes_none s;
        no_key = ap (λ (x : SessionState). x.written) (r.fresh s);
      };
      over = λ s h. (idle_is s, r.no_wait s);
      setup_first = λ h s k. (idle_is s, r.no_wait s);
      setup_outside = ap (λ (x : SessionState). x.inside) (r.fresh 0);
    };
    waiting = λ s by w. absurd (nobody_waits state.waits s by (r.no_wait s) w);
    no_cycle = λ s cycle c through. is_free state.waits r.no_wait s cycle c;
    covered = λ x h. absurd (no_search x h);
    known = λ x h. absurd (no_search x h);
    belongs = record { each = λ x h. absurd (no_search x h); one = λ s statement. rw r.no_search (omega arith) };
    bound = λ s work h. absurd (no_work (session_at state.sessions s) work (work_none s) h);
    table_locked = λ s work h. absurd (no_work (session_at state.sessions s) work (work_none s) h);
    keys_locked = λ s work h. absurd (no_work (session_at state.sessions s) work (work_none s) h);
    scanned = λ s work h. absurd (no_work (session_at state.sessions s) work (work_none s) h);
    standing = λ s work h. absurd (no_work (session_at state.sessions s) work (work_none s) h);
    changing = λ s work h. absurd (no_work (session_at state.sessions s) work (work_none s) h);
    collected = λ s work h. absurd (no_work (session_at state.sessions s) work (work_none s) h);
    written = λ s work h. absurd (no_work (session_at state.sessions s) work (work_none s) h);
    before = λ s. record { not_later = λ n h. absurd (no_note s n h); not_yet = λ n h k. absurd (no_note s n h) };
    paths = λ s work h. absurd (no_work (session_at state.sessions s) work (work_none s) h);
  }
