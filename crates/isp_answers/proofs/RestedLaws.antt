-- A rested state: nobody is at work, and what each session sees is what is committed.
use Rattle.std.proofs.Common.{◌≡◌, ◌∙◌, refl, sym, ap, subst, ℕ, zero, suc, ℤ, Bool, true, false, cond, Option, Some, None, List, [], ◌∷◌, drop, is_some}
use Rattle.std.specs.Prelude.{find}
use Rattle.isp_plain.specs.declared.value.Row.{Row}
use Rattle.isp_serial.specs.Serial.{none_pending}
use Rattle.isp_events.specs.Stored.{StoredTable, present, row_of, table_at}
use Rattle.isp_events.specs.Sessions.{SessionState, UndoEntry, Work, fresh, session_at}
use Rattle.isp_events.specs.State.{State}
use Rattle.isp_events.specs.Views.{beginning_view, committed, committed_row, first_image, has_written, is_of_key, length_at_beginning, row_or, seen, statement_undo, view_at_beginning}
use Rattle.isp_events.specs.Ways.{Machine}
use Rattle.isp_order.specs.InOrder.{IsRested, is_missing}
use Rattle.isp_answers.specs.Course.{AreOnCourse, IsOnCourse}
use Rattle.isp_answers.specs.Told.{AreTold, IsTold}
use Rattle.isp_answers.specs.Laws.{IsRestedTold, RestedIsTold}

pub same_seen : (f g : ℕ → ℤ → Option Row) (tables : List StoredTable) → ((t : ℕ) (k : ℤ) → f t k ≡ g t k) → seen f tables ≡ seen g tables
same_seen f g tables h = ap (λ (z : ℕ → ℤ → Option Row). seen z tables) (λ i t k. h t k i)

drop_none : (n : ℕ) (us : List UndoEntry) → us ≡ [] → drop n us ≡ []
drop_none zero us h = h
drop_none (suc n) us h = ap (drop (suc n)) h

-- who has written nothing sees what is committed
pub sees_committed : (state : State) (s : ℕ) → (session_at state.sessions s).undo ≡ [] → (t : ℕ) (k : ℤ) → view_at_beginning state s t k ≡ committed_row state t k
sees_committed state s none t k =
    ap (λ us. row_or (first_image us t k) (cond (has_written (session_at state.sessions s) t k) (row_of (present (table_at state.tables t) k)) (committed_row state t k)))
    (drop_none (length_at_beginning (session_at state.sessions s) (session_at state.sessions s).work) (session_at state.sessions s).undo none)
    ∙ ap (λ us. cond (written us) (row_of (present (table_at state.tables t) k)) (committed_row state t k)) none
  where
    written : List UndoEntry → Bool
    written us = is_some (find (is_of_key t k) us)

some_none : {X : Type 0} (x : X) → Some x ≡ None → ⊥
some_none x h = cc

none_some : (work : Work) (other : Option Work) → other ≡ None → other ≡ Some work → ⊥
none_some work other a b = some_none work (sym b ∙ a)

pub rested_told : RestedIsTold
rested_told m state r = record {
  on_course = λ s work at undisturbed. absurd (none_some work (session_at state.sessions s).work (ap (λ (x : SessionState). x.work) (r.fresh s)) at);
  told = λ s. record {
    own = λ answer h. absurd h;
    inside = sym (ap (λ (x : SessionState). x.inside) (r.fresh s));
    begun = tt;
    left = committed state;
    stand = refl;
    seen = λ h. same_seen (committed_row state) (view_at_beginning state s) state.tables
        (λ t k. sym (sees_committed state s (ap (λ (x : SessionState). x.undo) (r.fresh s)) t k));
  };
}
