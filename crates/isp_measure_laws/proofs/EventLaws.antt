-- Each event lowers the measure: the events by their kinds and choices.
use Rattle.std.proofs.Common.{◌≡◌, ◌⊎◌, ◌∙◌, inl, inr, refl, sym, ap, ℕ, ℤ, ◌<◌, ◌==◌, ◌||◌, Bool, true, false, Option, Some, None, List, [], ◌∷◌, arith, length, drop, eqb-true}
use Rattle.std.specs.Prelude.{slice_set}
use Rattle.std.proofs.lemmas.Bool.{false≢true}
use Rattle.std.proofs.lemmas.List.{length-map}
use Rattle.isp_reclock.specs.declared.entries.Blocker.{Blocker}
use Rattle.isp_reclock.specs.declared.modes.Mode.{Mode}
use Rattle.isp_plain.specs.declared.statement.Reply.{Reply}
use Rattle.isp_plain.specs.declared.statement.Reply.TheVariants as says
use Rattle.isp_plain.specs.declared.statement.Statement.{Statement}
use Rattle.isp_events.specs.Sessions.{SessionState, Work, session_at}
use Rattle.isp_events.specs.State.{Queued, State, is_empty}
use Rattle.isp_events.specs.Ways.{Machine}
use Rattle.isp_events.specs.Lines.{On}
use Rattle.isp_events.specs.Next.{EventKind, answers, undoes, creates, asks_table, asks_key, visits, scans, steps, goes_stale, finds_full, places, writes, next}
use Rattle.isp_events.specs.Placing.{in_the_way, sessions_on}
use Rattle.isp_events.specs.Ending.{is_over_after, session_after_answer, session_after_end}
use Rattle.isp_events.specs.Purging.{after_purge}
use Rattle.isp_events.specs.Events.{Actor, acts, purges, flushes, lists_locks, Choice, with_nothing, with_blockers, with_deadlocks, with_child, with_divisions, with_put, with_undo_pages, with_roots, MayChoose, MayGoOn, MayHappen, after, after_kind, after_next, after_reply, blockers_of, full_reply}
use Rattle.isp_order.specs.InOrder.{InOrder, IsProper}
use Rattle.isp_causes.specs.Causes.{GoesOn, IsActive, IsAtFirst, IsCaused, IsLockingKey, IsLockingRow}
use Rattle.isp_causes.proofs.CauseLaws.{is_caused}
use Rattle.isp_replies.specs.Replies.{Replies, RepliesEnd}
use Rattle.isp_replies.proofs.ReasonLaws.{has_reason}
use Rattle.isp_fits.proofs.VictimLaws.{Asks}
use Rattle.isp_measure.specs.Measure.{answers_left, gives_up, has_failed, measure, total_of_sessions}
use Rattle.isp_measure_laws.specs.Lowers.{EachEventLowers, is_progress}
use Rattle.isp_measure.proofs.OrderLaws.{Falls, here, later}
use Rattle.isp_measure.proofs.SumLaws.{same, sessions_less}
use Rattle.isp_measure_laws.proofs.SessionParts.{not_giving_up}
use Rattle.isp_measure_laws.proofs.AnswerFalls.{Owes, answered, ended, owes_text, owes_victim, text_is}
use Rattle.isp_measure_laws.proofs.WaitFalls.{refusal_falls}
use Rattle.isp_measure_laws.proofs.WorkFalls.{full_falls, lock_key_falls, lock_row_falls, lock_table_falls, place_falls, row_falls, scan_falls, undo_falls}
use Rattle.isp_measure_laws.proofs.PathFalls.{stale_falls, step_falls}
use Rattle.isp_measure_laws.proofs.VisitFalls.{visit_falls}

module _ (m : Machine) (state : State) (good : IsProper m) (o : InOrder m state) where
  -- ---- answers

  abbrev session : ℕ → SessionState
  session s = session_at state.sessions s

  -- with one answer less
  answers_less : (s : ℕ) (new : SessionState) → IsActive state s → answers_left m.script s new < answers_left m.script s (session s)
      → total_of_sessions (answers_left m.script) (slice_set state.sessions s new) < total_of_sessions (answers_left m.script) state.sessions
  answers_less s new active lt =
      sessions_less state.sessions s new active.not_over (answers_left m.script) (answers_left m.script) (λ k ne. same (answers_left m.script k (session k))) o.counted.sessions lt

  end_less : (s : ℕ) (over : Bool) → IsActive state s → Owes m.script s (session s) → answers_left m.script s (session_after_end over (session s)) < answers_left m.script s (session s)
  end_less s over active owes = answered m.script s (session s) (session_after_end over (session s)) active.not_over refl refl owes

  -- a statement at work, or that begins
  at_work : (s : ℕ) (work : Work) → (session s).victim ≡ false → (session s).work ≡ Some work → Owes m.script s (session s)
  at_work s work undisturbed is = (let bound = o.bound s work is in owes_text undisturbed (text_is m.script s (session s).number bound.text bound.text_is))

  at_first : (s : ℕ) (statement : Statement) → IsAtFirst m state s (session s) statement → Owes m.script s (session s)
  at_first s statement first = owes_text first.undisturbed (text_is m.script s (session s).number first.text first.text_is)

  -- why it is answered: it owes an answer, and is no victim where its transaction goes on; or it ends
  record IsOwing (s : ℕ) (ends : Bool) : Type 0 where
    pub owes : Owes m.script s (session s)
    pub undisturbed : ends ≡ false → (session s).victim ≡ false

  owing : (s : ℕ) (reply : Reply) (ends : Bool) → Replies m state s (session s) reply ends → IsOwing s ends ⊎ RepliesEnd m s (session s) reply ends
  owing s reply ends (inl v) = inl (record { owes = owes_victim v.victim; undisturbed = λ e. absurd (false≢true (sym e ∙ v.ends_is)) })
  owing s reply ends (inr (inl e)) = inr e
  owing s reply ends (inr (inr (inl f))) = inl (record { owes = at_first s f.statement f.first; undisturbed = λ e. f.first.undisturbed })
  owing s reply ends (inr (inr (inr (inl f)))) = inl (record { owes = at_work s f.work f.undisturbed f.at_work; undisturbed = λ e. f.undisturbed })
  owing s reply ends (inr (inr (inr (inr d)))) = inl (record { owes = at_work s d.work d.goes_on.undisturbed d.goes_on.at_work; undisturbed = λ e. d.goes_on.undisturbed })

  reply_falls : (s : ℕ) (reply : Reply) (ends : Bool) → IsActive state s → IsOwing s ends ⊎ RepliesEnd m s (session s) reply ends
      → Falls (measure m.script (after_reply m state s reply ends)) (measure m.script state)
  reply_falls s reply true active (inl w) = here _ _ _ _ (answers_less s (session_after_end (is_over_after m s (session s).number reply) (session s)) active (end_less s (is_over_after m s (session s).number reply) active w.owes))
  reply_falls s reply false active (inl w) =
      here _ _ _ _ (answers_less s (session_after_answer (is_over_after m s (session s).number reply) (session s)) active
      (answered m.script s (session s) (session_after_answer (is_over_after m s (session s).number reply) (session s)) active.not_over refl (w.undisturbed refl) w.owes))
  reply_falls s reply true active (inr e) =
      here _ _ _ _ (answers_less s (session_after_end (is_over_after m s (session s).number reply) (session s)) active
      (ended m.script s (session s) (session_after_end (is_over_after m s (session s).number reply) (session s)) active.not_over e.undisturbed e.not_setup (ap (is_over_after m s (session s).number) e.reply_is)))
  reply_falls s reply false active (inr e) = absurd (false≢true e.ends_is)

  -- ---- who asks

  record IsAsking (s : ℕ) : Type 0 where
    pub onward : gives_up (session s) ≡ false
    pub asks : Asks m state s

  works : (s : ℕ) (work : Work) → GoesOn (session s) work → IsAsking s
  works s work at = (let bound = o.bound s work at.at_work in record {
    onward = not_giving_up (session s) work at.undisturbed at.at_work at.unfailed;
    asks = (bound.text, bound.text_is);
  })

  begins : (s : ℕ) (statement : Statement) → IsAtFirst m state s (session s) statement → IsAsking s
  begins s statement first = record {
    onward = ap (λ b. b || has_failed (session s).work) first.undisturbed ∙ ap has_failed first.no_work;
    asks = (first.text, first.text_is);
  }

  asks_key_of : (s number : ℕ) (key : ℤ) (mode : Mode) → IsLockingKey (session s) number key mode ⊎ IsLockingRow (session s) number key mode → IsAsking s
  asks_key_of s number key mode (inl at) = works s at.work at.goes_on
  asks_key_of s number key mode (inr at) = works s at.work at.goes_on

  some_blockers : (by : List Blocker) → 0 < length by → is_empty (blockers_of by) ≡ false
  some_blockers [] lt = absurd (omega (arith, lt))
  some_blockers (b ∷ by) lt = by_test (is_empty (blockers_of (b ∷ by))) refl
    where
      by_test : (t : Bool) → is_empty (blockers_of (b ∷ by)) ≡ t → t ≡ false
      by_test true e = let none : length (blockers_of (b ∷ by)) ≡ 0 = eqb-true (length (blockers_of (b ∷ by))) 0 e in absurd (omega (arith, none))
      by_test false e = refl

  some_sessions : (list : List On) → is_empty list ≡ false → is_empty (sessions_on list) ≡ false
  some_sessions [] e = e
  some_sessions (x ∷ list) e = ap (λ n. n == 0) (length-map (x ∷ list) (λ (y : On). y.session)) ∙ e

  -- ---- each kind

  kind_falls : (s : ℕ) (kind : EventKind) (choice : Choice) → next m state s ≡ Some kind → IsCaused m state s kind → MayChoose state s kind choice
      → Falls (measure m.script (after_kind m state s kind choice)) (measure m.script state)
  kind_falls s (answers reply ends) with_nothing e c h = reply_falls s reply ends c.active (owing s reply ends (has_reason m state s (answers reply ends) e))
  kind_falls s (undoes entry) (with_undo_pages more) e c h = undo_falls m state o s c.active entry more c.cause
  kind_falls s (creates name schema) with_nothing e c h =
      here _ _ _ _ (answers_less s (session_after_end (is_over_after m s (session s).number full_reply) (session s)) c.active
      (end_less s (is_over_after m s (session s).number full_reply) c.active (at_first s _ c.cause.first)))
  kind_falls s (creates name schema) (with_roots leaf roots) e c h =
      here _ _ _ _ (answers_less s (session_after_end (is_over_after m s (session s).number says.Ok) (session s)) c.active
      (end_less s (is_over_after m s (session s).number says.Ok) c.active (at_first s _ c.cause.first)))
  kind_falls s (asks_table statement number mode) with_nothing e c h = lock_table_falls m state o s c.active statement number mode c.cause
  kind_falls s (asks_table statement number mode) (with_blockers by ds) e c h =
      let asking : IsAsking s = begins s statement c.cause.first in
      refusal_falls m state o s c.active (blockers_of by) asking.onward asking.asks ds (some_blockers by h.0) h.2
  kind_falls s (asks_key number key mode) with_nothing e c h = by_cause c.cause
    where
      by_cause : IsLockingKey (session s) number key mode ⊎ IsLockingRow (session s) number key mode → Falls (measure m.script (after_kind m state s (asks_key number key mode) with_nothing)) (measure m.script state)
      by_cause (inl at) = lock_key_falls m state o s c.active number key mode at
      by_cause (inr at) = lock_row_falls m state o s c.active number key mode at
  kind_falls s (asks_key number key mode) (with_blockers by ds) e c h =
      let asking : IsAsking s = asks_key_of s number key mode c.cause in
      refusal_falls m state o s c.active (blockers_of by) asking.onward asking.asks ds (some_blockers by h.0) h.2
  kind_falls s (visits number column predicate) with_nothing e c h = visit_falls m state o s c.active number column predicate c.cause
  kind_falls s (scans number leaf) with_nothing e c h = scan_falls m state o s c.active number leaf c.cause
  kind_falls s (steps d) (with_child q) e c h = step_falls m state good o s c.active d q c.cause h
  kind_falls s (goes_stale d) with_nothing e c h = stale_falls m state good o s c.active d c.cause
  kind_falls s finds_full with_nothing e c h = full_falls m state o s c.active c.cause
  kind_falls s (places d) (with_deadlocks ds) e c h =
      let asking : IsAsking s = works s c.cause.descending.entering.work c.cause.descending.entering.goes_on in
      refusal_falls m state o s c.active (sessions_on (in_the_way state s d)) asking.onward asking.asks ds (some_sessions (in_the_way state s d) h.0) h.1
  kind_falls s (places d) (with_divisions q ds) e c h = place_falls m state o s c.active d q ds c.cause
  kind_falls s (writes number change placed) (with_put p) e c h = row_falls m state o s c.active number change placed p c.cause
  kind_falls s kind choice e c h = absurd h

  next_falls : (s : ℕ) (kind : Option EventKind) (choice : Choice) → next m state s ≡ kind → MayGoOn state s kind choice → Falls (measure m.script (after_next m state s kind choice)) (measure m.script state)
  next_falls s None choice e h = absurd h
  next_falls s (Some kind) choice e h = kind_falls s kind choice e (is_caused m state s kind e) h

  purge_falls : is_empty state.queue ≡ false → Falls (measure m.script (after_purge state)) (measure m.script state)
  purge_falls some = later _ _ _ _ (same _) (here _ _ _ _ (first_goes state.queue some))
    where
      first_goes : (queue : List Queued) → is_empty queue ≡ false → length (drop 1 queue) < length queue
      first_goes [] e = absurd (false≢true (sym e))
      first_goes (x ∷ queue) e = omega arith

  event_falls : (actor : Actor) (choice : Choice) → MayHappen m state actor choice → is_progress actor ≡ true → Falls (measure m.script (after m state actor choice)) (measure m.script state)
  event_falls (acts s) choice h p = next_falls s (next m state s) choice refl h
  event_falls purges with_nothing h p = purge_falls h
  event_falls flushes choice h p = absurd (false≢true p)
  event_falls lists_locks choice h p = absurd (false≢true p)
  event_falls actor choice h p = absurd h

pub each_event_lowers : EachEventLowers
each_event_lowers m state actor choice good o h p = (event_falls m state good o actor choice h p).lower
