-- Answers inside a transaction, ends, and a new table: what is committed and seen then.
use Rattle.std.proofs.Common.{◌≡◌, ◌⊎◌, ◌∙◌, ◌≤◌, ◌<◌, ◌+◌, inl, inr, refl, sym, ap, subst, ℕ, zero, suc, ℤ, ◌==◌, Bool, true, false, cond, Option, Some, None, List, [], ◌∷◌, ◌++◌, drop, length, map, is_some, eqb-true, eq-eqb, arith, le_refl, drop_of_length-le}
use Rattle.std.specs.Prelude.{find, slice_set}
use Rattle.std.specs.Option.{option_and_then, option_map, option_or}
use Rattle.std.proofs.lemmas.Bool.{false≢true}
use Rattle.isp_plain.specs.declared.value.Row.{Row}
use Rattle.isp_plain.specs.declared.value.Schema.{Schema}
use Rattle.isp_plain.specs.Tables.{Table}
use Rattle.isp_events.specs.Stored.{KeptRow, StoredTable, Version, kept_at, present, row_of, table_at, table_from, version_of}
use Rattle.isp_events.specs.Sessions.{Image, SessionState, UndoEntry, Work, fresh, session_at}
use Rattle.isp_events.specs.State.{State}
use Rattle.isp_events.specs.Views.{beginning_view, committed, committed_row, first_image, first_image_of_all, has_written, is_of_key, length_at_beginning, row_or, seen, seen_from, seen_rows, statement_undo, version_or, view, view_at, view_at_beginning}
use Rattle.isp_events.specs.Ways.{Machine}
use Rattle.isp_events.specs.Ending.{after_answer, after_create, after_end, new_table, session_after_answer, session_after_end, with_new_table}
use Rattle.isp_order.specs.Locks.{IsIdle}
use Rattle.isp_order.specs.InOrder.{InOrder, IsProper}
use Rattle.isp_order.proofs.SessionLaws.{other_at, same_at, seated}
use Rattle.isp_causes.specs.Causes.{IsActive}
use Rattle.isp_order_one.proofs.ImageLaws.{all_none, all_set}
use Rattle.isp_answers.proofs.RestedLaws.{same_seen}
use Rattle.isp_views.proofs.ViewLaws.{alone_sees, drop_none, first_of_drop, image_unwritten, unwritten_image}
use Rattle.isp_views.proofs.MovedLaws.{all_by_each, others_view, taker_alone, view_of}

module _ (m : Machine) (state : State) (good : IsProper m) (o : InOrder m state) where
  -- ---- an answer inside a transaction

  module _ (s : ℕ) (over : Bool) (active : IsActive state s) where
    pub answer_committed : (t : ℕ) (k : ℤ) → committed_row (after_answer state s over) t k ≡ committed_row state t k
    answer_committed t k =
        ap (λ i. row_of (version_or i (present (table_at state.tables t) k))) (all_set state.sessions s (session_after_answer over (session_at state.sessions s)) t k refl)

    -- it sees now what it saw, with all that it has written
    pub answer_view : (t : ℕ) (k : ℤ) → view_at_beginning (after_answer state s over) s t k ≡ view_at state s t k
    answer_view t k =
        ap (λ (x : SessionState). view_of x.undo (statement_undo x) (row_of (present (table_at state.tables t) k)) (committed_row (after_answer state s over) t k) t k)
        (same_at state.sessions s (session_after_answer over (session_at state.sessions s)) (seated state.sessions s active.not_over))
        ∙ ap (λ us. view_of (session_at state.sessions s).undo us (row_of (present (table_at state.tables t) k)) (committed_row (after_answer state s over) t k) t k)
        (drop_of_length-le (session_at state.sessions s).undo (le_refl (length (session_at state.sessions s).undo)))
        ∙ ap (λ r. view_of (session_at state.sessions s).undo [] (row_of (present (table_at state.tables t) k)) r t k) (answer_committed t k)

    pub answer_others : (j : ℕ) → (j == s) ≡ false → (t : ℕ) (k : ℤ) → view_at_beginning (after_answer state s over) j t k ≡ view_at_beginning state j t k
    answer_others j ne t k =
        others_view m state good o (after_answer state s over) j (other_at state.sessions s j (session_after_answer over (session_at state.sessions s)) ne) t k
        (λ w. refl) (λ w. answer_committed t k)

    pub answer_committed_list : committed (after_answer state s over) ≡ committed state
    answer_committed_list = same_seen (committed_row (after_answer state s over)) (committed_row state) state.tables answer_committed

    pub answer_view_list : beginning_view (after_answer state s over) s ≡ view state s
    answer_view_list = same_seen (view_at_beginning (after_answer state s over) s) (view_at state s) state.tables answer_view

    pub answer_others_list : (j : ℕ) → (j == s) ≡ false → beginning_view (after_answer state s over) j ≡ beginning_view state j
    answer_others_list j ne = same_seen (view_at_beginning (after_answer state s over) j) (view_at_beginning state j) state.tables (answer_others j ne)

  -- ---- the end of a transaction

  module _ (s : ℕ) (over : Bool) (active : IsActive state s) where
    -- what the session saw is committed
    pub end_committed : (t : ℕ) (k : ℤ) → committed_row (after_end state s over) t k ≡ view_at state s t k
    end_committed t k = by_written (has_written (session_at state.sessions s) t k) refl
      where
        new : SessionState
        new = session_after_end over (session_at state.sessions s)

        by_written : (b : Bool) → has_written (session_at state.sessions s) t k ≡ b
            → row_of (version_or (first_image_of_all (slice_set state.sessions s new) t k) (present (table_at state.tables t) k))
            ≡ cond b (row_of (present (table_at state.tables t) k)) (committed_row state t k)
        by_written false e =
            ap (λ i. row_of (version_or i (present (table_at state.tables t) k)))
            (all_set state.sessions s new t k (sym (unwritten_image (session_at state.sessions s).undo t k e)))
        by_written true e =
            ap (λ i. row_of (version_or i (present (table_at state.tables t) k)))
            (all_none (slice_set state.sessions s new) t k (λ j. by_session j (j == s) refl))
          where
            by_session : (j : ℕ) (b : Bool) → (j == s) ≡ b → first_image (session_at (slice_set state.sessions s new) j).undo t k ≡ None
            by_session j true is =
                ap (λ i. first_image (session_at (slice_set state.sessions s new) i).undo t k) (eqb-true j s is)
                ∙ ap (λ (x : SessionState). first_image x.undo t k) (same_at state.sessions s new (seated state.sessions s active.not_over))
            by_session j false ne =
                ap (λ (x : SessionState). first_image x.undo t k) (other_at state.sessions s j new ne)
                ∙ taker_alone m state good o s t k e j ne

    pub end_committed_list : committed (after_end state s over) ≡ view state s
    end_committed_list = same_seen (committed_row (after_end state s over)) (view_at state s) state.tables end_committed

    -- where it has written nothing, nothing is committed newly
    pub end_unwritten : (t : ℕ) (k : ℤ) → has_written (session_at state.sessions s) t k ≡ false → committed_row (after_end state s over) t k ≡ committed_row state t k
    end_unwritten t k none = end_committed t k ∙ ap (λ b. cond b (row_of (present (table_at state.tables t) k)) (committed_row state t k)) none

    -- others see what they saw, but where it wrote, and there what is committed
    pub end_others : (j : ℕ) → (j == s) ≡ false → (t : ℕ) (k : ℤ) → has_written (session_at state.sessions s) t k ≡ false
        → view_at_beginning (after_end state s over) j t k ≡ view_at_beginning state j t k
    end_others j ne t k none =
        others_view m state good o (after_end state s over) j (other_at state.sessions s j (session_after_end over (session_at state.sessions s)) ne) t k
        (λ w. refl) (λ w. end_unwritten t k none)

    other_sees : (j : ℕ) → (j == s) ≡ false → (t : ℕ) (k : ℤ) → has_written (session_at state.sessions s) t k ≡ true → (here other : Option Row)
        → view_of (session_at state.sessions j).undo (statement_undo (session_at state.sessions j)) here other t k ≡ other
    other_sees j ne t k w here other =
        let none : first_image (session_at state.sessions j).undo t k ≡ None = taker_alone m state good o s t k w j ne in
        ap (λ i. row_or i (cond (has_written (session_at state.sessions j) t k) here other))
        (first_of_drop (length_at_beginning (session_at state.sessions j) (session_at state.sessions j).work) (session_at state.sessions j).undo t k none)
        ∙ ap (λ b. cond b here other) (image_unwritten (session_at state.sessions j).undo t k none)

    pub end_others_then : (j : ℕ) → (j == s) ≡ false → (t : ℕ) (k : ℤ) → has_written (session_at state.sessions s) t k ≡ true
        → view_at_beginning (after_end state s over) j t k ≡ committed_row (after_end state s over) t k
    end_others_then j ne t k w =
        ap (λ (x : SessionState). view_of x.undo (statement_undo x) (row_of (present (table_at state.tables t) k)) (committed_row (after_end state s over) t k) t k)
        (other_at state.sessions s j (session_after_end over (session_at state.sessions s)) ne)
        ∙ other_sees j ne t k w (row_of (present (table_at state.tables t) k)) (committed_row (after_end state s over) t k)

    pub end_others_now : (j : ℕ) → (j == s) ≡ false → (t : ℕ) (k : ℤ) → has_written (session_at state.sessions s) t k ≡ true
        → view_at_beginning state j t k ≡ committed_row state t k
    end_others_now j ne t k w = other_sees j ne t k w (row_of (present (table_at state.tables t) k)) (committed_row state t k)

  -- ---- a table is made

  module _ (s : ℕ) (over : Bool) (active : IsActive state s) (setup : s ≡ 0) (no_work : (session_at state.sessions s).work ≡ None) where
    all_idle : (j : ℕ) → IsIdle (session_at state.sessions j)
    all_idle j = by_session (j == s) refl
      where
        by_session : (b : Bool) → (j == s) ≡ b → IsIdle (session_at state.sessions j)
        by_session true e = record {
          outside = ap (λ i. (session_at state.sessions i).inside) (eqb-true j s e ∙ setup) ∙ o.idle.setup_outside;
          no_work = ap (λ i. (session_at state.sessions i).work) (eqb-true j s e) ∙ no_work;
        }
        by_session false e = (o.idle.setup_first (subst (λ i. (session_at state.sessions i).over ≡ false) setup active.not_over) j (ap (λ i. j == i) (sym setup) ∙ e)).0

    -- nobody has written anything
    pub none_undo : (j : ℕ) → (session_at state.sessions j).undo ≡ []
    none_undo j = (o.idle.nothing j (all_idle j)).no_undo

    none_image : (j t : ℕ) (k : ℤ) → first_image (session_at state.sessions j).undo t k ≡ None
    none_image j t k = ap (λ us. first_image us t k) (none_undo j)

    none_written : (j t : ℕ) (k : ℤ) → has_written (session_at state.sessions j) t k ≡ false
    none_written j t k = image_unwritten (session_at state.sessions j).undo t k (none_image j t k)

    none_now : (t : ℕ) (k : ℤ) → first_image_of_all (slice_set state.sessions s (session_after_end over (session_at state.sessions s))) t k ≡ None
    none_now t k = all_none (slice_set state.sessions s (session_after_end over (session_at state.sessions s))) t k (λ j. by_session j (j == s) refl)
      where
        by_session : (j : ℕ) (b : Bool) → (j == s) ≡ b → first_image (session_at (slice_set state.sessions s (session_after_end over (session_at state.sessions s))) j).undo t k ≡ None
        by_session j true is =
            ap (λ i. first_image (session_at (slice_set state.sessions s (session_after_end over (session_at state.sessions s))) i).undo t k) (eqb-true j s is)
            ∙ ap (λ (x : SessionState). first_image x.undo t k) (same_at state.sessions s (session_after_end over (session_at state.sessions s)) (seated state.sessions s active.not_over))
        by_session j false ne =
            ap (λ (x : SessionState). first_image x.undo t k) (other_at state.sessions s j (session_after_end over (session_at state.sessions s)) ne) ∙ none_image j t k

    committed_stands : (t : ℕ) (k : ℤ) → committed_row state t k ≡ row_of (present (table_at state.tables t) k)
    committed_stands t k = ap (λ i. row_of (version_or i (present (table_at state.tables t) k))) (all_none state.sessions t k (λ j. none_image j t k))

    -- and then nobody either
    pub created_undo : (name : List ℕ) (schema : Schema) (leaf : ℕ) (roots : List ℕ) (j : ℕ) → (session_at (after_create state s over name schema leaf roots).sessions j).undo ≡ []
    created_undo name schema leaf roots j = by_session (j == s) refl
      where
        by_session : (b : Bool) → (j == s) ≡ b → (session_at (slice_set state.sessions s (session_after_end over (session_at state.sessions s))) j).undo ≡ []
        by_session true is =
            ap (λ i. (session_at (slice_set state.sessions s (session_after_end over (session_at state.sessions s))) i).undo) (eqb-true j s is)
            ∙ ap (λ (x : SessionState). x.undo) (same_at state.sessions s (session_after_end over (session_at state.sessions s)) (seated state.sessions s active.not_over))
        by_session false ne =
            ap (λ (x : SessionState). x.undo) (other_at state.sessions s j (session_after_end over (session_at state.sessions s)) ne) ∙ none_undo j

    module _ (name : List ℕ) (schema : Schema) (leaf : ℕ) (roots : List ℕ) where
      same_present : (n t : ℕ) (k : ℤ) (tables : List StoredTable) → present (table_from n (tables ++ new_table name schema leaf roots ∷ []) t) k ≡ present (table_from n tables t) k
      same_present n t k [] = by_number (n == t)
        where
          by_number : (b : Bool) → present (cond b (new_table name schema leaf roots) (table_from (suc n) [] t)) k ≡ None
          by_number true = refl
          by_number false = refl
      same_present n t k (table ∷ tables) = by_number (n == t) (same_present (suc n) t k tables)
        where
          by_number : (b : Bool) → present (table_from (suc n) (tables ++ new_table name schema leaf roots ∷ []) t) k ≡ present (table_from (suc n) tables t) k
              → present (cond b table (table_from (suc n) (tables ++ new_table name schema leaf roots ∷ []) t)) k ≡ present (cond b table (table_from (suc n) tables t)) k
          by_number true again = refl
          by_number false again = again

      created_committed : (t : ℕ) (k : ℤ) → committed_row (after_create state s over name schema leaf roots) t k ≡ committed_row state t k
      created_committed t k =
          ap (λ i. row_of (version_or i (present (table_at (state.tables ++ new_table name schema leaf roots ∷ []) t) k))) (none_now t k)
          ∙ ap row_of (same_present 1 t k state.tables) ∙ sym (committed_stands t k)

      seen_more : (n : ℕ) (f : ℕ → ℤ → Option Row) (tables : List StoredTable) → seen_from n f (tables ++ new_table name schema leaf roots ∷ []) ≡ seen_from n f tables ++ record { name = name; schema = schema; rows = [] } ∷ []
      seen_more n f [] = refl
      seen_more n f (table ∷ tables) = ap (λ ts. record { name = table.name; schema = table.schema; rows = seen_rows (f n) table } ∷ ts) (seen_more (suc n) f tables)

      pub created_list : committed (after_create state s over name schema leaf roots) ≡ committed state ++ record { name = name; schema = schema; rows = [] } ∷ []
      created_list =
          same_seen (committed_row (after_create state s over name schema leaf roots)) (committed_row state) (state.tables ++ new_table name schema leaf roots ∷ []) created_committed
          ∙ seen_more 1 (committed_row state) state.tables
