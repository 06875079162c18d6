-- Who is idle or over has nothing, and the setup comes first.
use Rattle.std.proofs.Common.{◌≡◌, ◌⊎◌, ◌∙◌, inl, inr, refl, sym, ap, subst, ℕ, ◌==◌, ◌&&◌, ◌||◌, not, Bool, true, false, Some, None, List, [], ◌∷◌, map, eqb-true, eq-eqb}
use Rattle.std.specs.Prelude.{slice_set}
use Rattle.std.specs.List.{last_or}
use Rattle.std.specs.Option.{option_map}
use Rattle.std.proofs.Math.ListN.{get_or-map}
use Rattle.std.proofs.lemmas.Bool.{false≢true}
use Rattle.isp_base.specs.Lists.{Has}
use Rattle.isp_reclock.specs.declared.entries.Lock.{Lock}
use Rattle.isp_reclock.specs.Tables.{key_lock, table_lock, with_lock, without}
use Rattle.isp_waits.specs.Graphs.{waits_of}
use Rattle.isp_plain.specs.declared.statement.Reply.{Reply}
use Rattle.isp_plain.specs.declared.statement.Statement.TheVariants.{Begin}
use Rattle.isp_serial.specs.Serial.{place_at}
use Rattle.isp_events.specs.Sessions.{SessionState, UndoEntry, Work, session_at}
use Rattle.isp_events.specs.State.{State, TreeSearch, ended, without as without_session}
use Rattle.isp_events.specs.Views.{committed}
use Rattle.isp_events.specs.Ways.{Machine}
use Rattle.isp_events.specs.Deadlocks.{Deadlock, as_victim, broken, with_victims}
use Rattle.isp_events.specs.Reading.{with_search}
use Rattle.isp_events.specs.Placing.{search_after_place, tree_for}
use Rattle.isp_events.specs.Ending.{is_end_reply, is_over_after, searches_without}
use Rattle.isp_events.specs.Events.{Actor, Choice, MayHappen, after}
use Rattle.isp_order.specs.Locks.{AreIdle, HasNothing, IsIdle}
use Rattle.isp_order.specs.InOrder.{InOrder, IsProper}
use Rattle.isp_order.proofs.SessionLaws.{each_changed, other_at, same_at, seated, victims_keep}
use Rattle.isp_causes.specs.Causes.{IsActive, IsAnswering, IsAtFirst, IsUndoing}
use Rattle.isp_causes.proofs.EventCases.{EachKeeps, event_keeps}
use Rattle.isp_order_locks.proofs.LockLists.{in_filtered, listed_before}
use Rattle.isp_order_locks.proofs.WaitGraphs.{waits_none, waits_other}
use Rattle.isp_order_locks.proofs.SearchParts.{left_was, now_session, placed_was, seen_now, visit_was}

some_none : {Y : Type 0} (y : Y) → Some y ≡ None → ⊥
some_none y h = cc

not_is : (b : Bool) → not b ≡ true → b ≡ false
not_is true h = absurd (false≢true h)
not_is false h = refl

-- nobody gets to wait by an end, or by cycles that are broken
none_ended : (waits : List (List ℕ)) (s k : ℕ) → (k == s) ≡ false → waits_of waits k ≡ [] → waits_of (ended waits s) k ≡ []
none_ended waits s k ne h = waits_other (map (without_session s) waits) s k [] ne ∙ get_or-map (without_session s) waits k [] ∙ ap (without_session s) h

none_emptied : (waits : List (List ℕ)) (v k : ℕ) → waits_of waits k ≡ [] → waits_of (slice_set waits v []) k ≡ []
none_emptied waits v k h = by_test (k == v) refl
  where
    by_test : (b : Bool) → (k == v) ≡ b → waits_of (slice_set waits v []) k ≡ []
    by_test true e = subst (λ i. waits_of (slice_set waits v []) i ≡ []) (sym (eqb-true k v e)) (waits_none waits v)
    by_test false e = waits_other waits v k [] e ∙ h

none_broken : (waits : List (List ℕ)) (ds : List Deadlock) (k : ℕ) → waits_of waits k ≡ [] → waits_of (broken waits ds) k ≡ []
none_broken waits [] k h = h
none_broken waits (d ∷ ds) k h = none_broken (slice_set waits d.victim []) ds k (none_emptied waits d.victim k h)

-- one that was there is of the same session
pub record IsSomebodys (searches : List TreeSearch) (k : ℕ) : Type 0 where
  pub search : TreeSearch
  pub among : Has searches search
  pub session : search.search.session ≡ k

module _ (m : Machine) (state : State) (good : IsProper m) (o : InOrder m state) where
  -- one session changes, and what is new of locks and searches is its own
  pub record Changes (s : ℕ) (locks : List Lock) (searches : List TreeSearch) (new : SessionState) (waits : List (List ℕ)) : Type 0 where
    pub new_locks : (lock : Lock) → Has locks lock → Has state.locks lock ⊎ (lock.trx ≡ s)
    pub new_searches : (x : TreeSearch) → Has searches x → IsSomebodys state.searches x.search.session ⊎ (x.search.session ≡ s)
    pub own : IsIdle new → HasNothing locks searches (slice_set state.sessions s new) s
    pub own_over : new.over ≡ true → IsIdle new × (waits_of waits s ≡ [])
    pub outside : s ≡ 0 → new.inside ≡ false
    pub same_waits : (k : ℕ) → (k == s) ≡ false → waits_of state.waits k ≡ [] → waits_of waits k ≡ []

  pub idle_step : (s : ℕ) (locks : List Lock) (searches : List TreeSearch) (new : SessionState) (waits : List (List ℕ)) → IsActive state s → Changes s locks searches new waits
      → AreIdle locks searches (slice_set state.sessions s new) waits
  idle_step s locks searches new waits active c = record {
    nothing = each_changed (λ k session. IsIdle session → HasNothing locks searches (slice_set state.sessions s new) k) state.sessions s new active.not_over c.own
        (λ k ne idle. others k ne (o.idle.nothing k idle));
    over = each_changed (λ k session. session.over ≡ true → IsIdle session × (waits_of waits k ≡ [])) state.sessions s new active.not_over c.own_over
        (λ k ne over. ((o.idle.over k over).0, c.same_waits k ne (o.idle.over k over).1));
    setup_first = λ setup k ne. first (s == 0) refl setup k ne;
    setup_outside = outside (0 == s) refl;
  }
    where
      flip : (a b : ℕ) → (a == b) ≡ false → (b == a) ≡ false
      flip a b h = by_test (b == a) refl
        where
          by_test : (t : Bool) → (b == a) ≡ t → t ≡ false
          by_test true e = absurd (false≢true (sym h ∙ eq-eqb a b (sym (eqb-true b a e))))
          by_test false e = refl

      others : (k : ℕ) → (k == s) ≡ false → HasNothing state.locks state.searches state.sessions k → HasNothing locks searches (slice_set state.sessions s new) k
      others k ne h = record {
        no_lock = λ lock has. elim (c.new_locks lock has) [
          | inl old ↦ h.no_lock lock old
          | inr own ↦ ap (λ t. t == k) own ∙ flip k s ne
        ];
        no_search = λ x has. elim (c.new_searches x has) [
          | inl old ↦ ap (λ t. t == k) (sym old.session) ∙ h.no_search old.search old.among
          | inr own ↦ ap (λ t. t == k) own ∙ flip k s ne
        ];
        no_undo = ap (λ (x : SessionState). x.undo) (other_at state.sessions s k new ne) ∙ h.no_undo;
        no_note = ap (λ (x : SessionState). x.notes) (other_at state.sessions s k new ne) ∙ h.no_note;
        no_key = ap (λ (x : SessionState). x.written) (other_at state.sessions s k new ne) ∙ h.no_key;
      }

      first : (b : Bool) → (s == 0) ≡ b → (session_at (slice_set state.sessions s new) 0).over ≡ false → (k : ℕ) → (k == 0) ≡ false
          → IsIdle (session_at (slice_set state.sessions s new) k) × (waits_of waits k ≡ [])
      first false e setup k ne =
          let over : (session_at state.sessions 0).over ≡ true = active.behind_setup e in
          absurd (false≢true (sym setup ∙ ap (λ (x : SessionState). x.over) (other_at state.sessions s 0 new (flip s 0 e)) ∙ over))
      first true e setup k ne =
          let is : s ≡ 0 = eqb-true s 0 e in
          let apart : (k == s) ≡ false = ap (λ t. k == t) is ∙ ne in
          let before = o.idle.setup_first (subst (λ t. (session_at state.sessions t).over ≡ false) is active.not_over) k ne in
          (subst IsIdle (sym (other_at state.sessions s k new apart)) before.0, c.same_waits k apart before.1)

      outside : (b : Bool) → (0 == s) ≡ b → (session_at (slice_set state.sessions s new) 0).inside ≡ false
      outside true e =
          let is : 0 ≡ s = eqb-true 0 s e in
          subst (λ t. (session_at (slice_set state.sessions s new) t).inside ≡ false) (sym is)
          (ap (λ (x : SessionState). x.inside) (same_at state.sessions s new (seated state.sessions s active.not_over)) ∙ c.outside (sym is))
      outside false e = ap (λ (x : SessionState). x.inside) (other_at state.sessions s 0 new e) ∙ o.idle.setup_outside

  old_locks : (s : ℕ) (lock : Lock) → Has state.locks lock → Has state.locks lock ⊎ (lock.trx ≡ s)
  old_locks s lock h = inl h

  old_searches : (s : ℕ) (x : TreeSearch) → Has state.searches x → IsSomebodys state.searches x.search.session ⊎ (x.search.session ≡ s)
  old_searches s x h = inl (record { search = x; among = h; session = refl })

  own_outside : (s : ℕ) (new : SessionState) → new.inside ≡ (session_at state.sessions s).inside → s ≡ 0 → new.inside ≡ false
  own_outside s new same is = same ∙ ap (λ k. (session_at state.sessions k).inside) is ∙ o.idle.setup_outside

  -- a session at work, whose waits stay
  at_work : (s : ℕ) (locks : List Lock) (searches : List TreeSearch) (new : SessionState) → IsActive state s
      → ((lock : Lock) → Has locks lock → Has state.locks lock ⊎ (lock.trx ≡ s))
      → ((x : TreeSearch) → Has searches x → IsSomebodys state.searches x.search.session ⊎ (x.search.session ≡ s))
      → (new.work ≡ None → ⊥) → new.over ≡ (session_at state.sessions s).over → new.inside ≡ (session_at state.sessions s).inside
      → AreIdle locks searches (slice_set state.sessions s new) state.waits
  at_work s locks searches new active lk sr busy over inside = idle_step s locks searches new state.waits active (record {
    new_locks = lk;
    new_searches = sr;
    own = λ idle. absurd (busy idle.no_work);
    own_over = λ e. absurd (false≢true (sym active.not_over ∙ sym over ∙ e));
    outside = own_outside s new inside;
    same_waits = λ k ne h. h;
  })

  still_busy : (s : ℕ) (f : Work → Work) (work : Work) → (session_at state.sessions s).work ≡ Some work → option_map f (session_at state.sessions s).work ≡ None → ⊥
  still_busy s f work at h = some_none (f work) (sym (ap (option_map f) at) ∙ h)

  idle_end : (s : ℕ) (over : Bool) (new : SessionState) → IsActive state s → new.inside ≡ false → new.work ≡ None → new.undo ≡ [] → new.notes ≡ [] → new.written ≡ []
      → AreIdle (without state.locks s) (searches_without state.searches s) (slice_set state.sessions s new) (ended state.waits s)
  idle_end s over new active inside work undo notes written =
      let now : session_at (slice_set state.sessions s new) s ≡ new = same_at state.sessions s new (seated state.sessions s active.not_over) in
      idle_step s (without state.locks s) (searches_without state.searches s) new (ended state.waits s) active (record {
        new_locks = λ lock h. inl (in_filtered (λ (l : Lock). not (l.trx == s)) state.locks lock h).0;
        new_searches = λ x h. inl (record { search = x; among = (left_was state.searches s x h).0; session = refl });
        own = λ idle. record {
          no_lock = λ lock h. not_is (lock.trx == s) (in_filtered (λ (l : Lock). not (l.trx == s)) state.locks lock h).1;
          no_search = λ x h. (left_was state.searches s x h).1;
          no_undo = ap (λ (x : SessionState). x.undo) now ∙ undo;
          no_note = ap (λ (x : SessionState). x.notes) now ∙ notes;
          no_key = ap (λ (x : SessionState). x.written) now ∙ written;
        };
        own_over = λ e. (record { outside = inside; no_work = work }, waits_none (map (without_session s) state.waits) s);
        outside = λ is. inside;
        same_waits = λ k ne h. none_ended state.waits s k ne h;
      })

  -- a transaction goes on behind an answer outside of the setup alone
  never_setup : (s : ℕ) (reply : Reply) → IsAnswering m state s (session_at state.sessions s) reply false → (s == 0) ≡ false
  never_setup s reply at = by_test (s == 0) refl (at.stays refl)
    where
      by_test : (b : Bool) → (s == 0) ≡ b → (session_at state.sessions s).inside ≡ true ⊎ IsAtFirst m state s (session_at state.sessions s) Begin → b ≡ false
      by_test true e (inl inside) =
          absurd (false≢true (sym o.idle.setup_outside ∙ ap (λ k. (session_at state.sessions k).inside) (sym (eqb-true s 0 e)) ∙ inside))
      by_test true e (inr first) =
          absurd (good.faithful.setup (committed state) first.text
          (sym (ap (λ k. m.language.meaning (committed state) (place_at k (session_at state.sessions s).inside) first.text) (eqb-true s 0 e)) ∙ first.means))
      by_test false e h = refl

  idle_answer : (s : ℕ) (reply : Reply) (new : SessionState) → IsActive state s → IsAnswering m state s (session_at state.sessions s) reply false
      → new.inside ≡ true → new.over ≡ is_over_after m s (session_at state.sessions s).number reply → AreIdle state.locks state.searches (slice_set state.sessions s new) state.waits
  idle_answer s reply new active at inside over = idle_step s state.locks state.searches new state.waits active (record {
    new_locks = old_locks s;
    new_searches = old_searches s;
    own = λ idle. absurd (false≢true (sym idle.outside ∙ inside));
    own_over = λ e. absurd (false≢true (sym (over_is (is_end_reply reply) (s == 0) _ (at.not_end refl) (never_setup s reply at)) ∙ sym over ∙ e));
    outside = λ is. absurd (false≢true (sym (never_setup s reply at) ∙ eq-eqb s 0 is));
    same_waits = λ k ne h. h;
  })
    where
      over_is : (a b c : Bool) → a ≡ false → b ≡ false → (a || (b && c)) ≡ false
      over_is true b c e f = absurd (false≢true (sym e))
      over_is false true c e f = absurd (false≢true (sym f))
      over_is false false c e f = refl

  idle_undo : (s : ℕ) (entry : UndoEntry) (new : SessionState) → IsActive state s → IsUndoing m s (session_at state.sessions s) entry → new.inside ≡ (session_at state.sessions s).inside
      → new.work ≡ (session_at state.sessions s).work → new.over ≡ (session_at state.sessions s).over → AreIdle state.locks state.searches (slice_set state.sessions s new) state.waits
  idle_undo s entry new active at inside work over = idle_step s state.locks state.searches new state.waits active (record {
    new_locks = old_locks s;
    new_searches = old_searches s;
    own = λ idle. absurd (has_undo (o.idle.nothing s (record { outside = sym inside ∙ idle.outside; no_work = sym work ∙ idle.no_work })).no_undo);
    own_over = λ e. absurd (false≢true (sym active.not_over ∙ sym over ∙ e));
    outside = own_outside s new inside;
    same_waits = λ k ne h. h;
  })
    where
      has_undo : (session_at state.sessions s).undo ≡ [] → ⊥
      has_undo none = some_none entry (sym at.newest ∙ ap (λ (xs : List UndoEntry). last_or None xs) none)

  idle_refuse : (s : ℕ) (on : List ℕ) (ds : List Deadlock) → IsActive state s → AreIdle state.locks state.searches (with_victims state.sessions ds) (broken (slice_set state.waits s on) ds)
  idle_refuse s on ds active = record {
    nothing = λ k idle. had k (o.idle.nothing k (was_idle k idle));
    over = λ k over. (let before = o.idle.over k (sym (keep (λ (x : SessionState). x.over) (λ x. refl) k) ∙ over) in
        (now_idle k before.0, quiet k (apart k (sym (keep (λ (x : SessionState). x.over) (λ x. refl) k) ∙ over)) before.1));
    setup_first = λ setup k ne. first (s == 0) refl (sym (keep (λ (x : SessionState). x.over) (λ x. refl) 0) ∙ setup) k ne;
    setup_outside = keep (λ (x : SessionState). x.inside) (λ x. refl) 0 ∙ o.idle.setup_outside;
  }
    where
      keep : {Y : Type 0} (g : SessionState → Y) → ((x : SessionState) → g (as_victim x) ≡ g x) → (k : ℕ)
          → g (session_at (with_victims state.sessions ds) k) ≡ g (session_at state.sessions k)
      keep g same k = victims_keep g same state.sessions ds k

      was_idle : (k : ℕ) → IsIdle (session_at (with_victims state.sessions ds) k) → IsIdle (session_at state.sessions k)
      was_idle k idle = record { outside = sym (keep (λ (x : SessionState). x.inside) (λ x. refl) k) ∙ idle.outside; no_work = sym (keep (λ (x : SessionState). x.work) (λ x. refl) k) ∙ idle.no_work }

      now_idle : (k : ℕ) → IsIdle (session_at state.sessions k) → IsIdle (session_at (with_victims state.sessions ds) k)
      now_idle k idle = record { outside = keep (λ (x : SessionState). x.inside) (λ x. refl) k ∙ idle.outside; no_work = keep (λ (x : SessionState). x.work) (λ x. refl) k ∙ idle.no_work }

      had : (k : ℕ) → HasNothing state.locks state.searches state.sessions k → HasNothing state.locks state.searches (with_victims state.sessions ds) k
      had k h = record {
        no_lock = h.no_lock;
        no_search = h.no_search;
        no_undo = keep (λ (x : SessionState). x.undo) (λ x. refl) k ∙ h.no_undo;
        no_note = keep (λ (x : SessionState). x.notes) (λ x. refl) k ∙ h.no_note;
        no_key = keep (λ (x : SessionState). x.written) (λ x. refl) k ∙ h.no_key;
      }

      apart : (k : ℕ) → (session_at state.sessions k).over ≡ true → (k == s) ≡ false
      apart k over = by_test (k == s) refl
        where
          by_test : (b : Bool) → (k == s) ≡ b → b ≡ false
          by_test true e = absurd (false≢true (sym active.not_over ∙ ap (λ t. (session_at state.sessions t).over) (sym (eqb-true k s e)) ∙ over))
          by_test false e = refl

      quiet : (k : ℕ) → (k == s) ≡ false → waits_of state.waits k ≡ [] → waits_of (broken (slice_set state.waits s on) ds) k ≡ []
      quiet k ne h = none_broken (slice_set state.waits s on) ds k (waits_other state.waits s k on ne ∙ h)

      first : (b : Bool) → (s == 0) ≡ b → (session_at state.sessions 0).over ≡ false → (k : ℕ) → (k == 0) ≡ false
          → IsIdle (session_at (with_victims state.sessions ds) k) × (waits_of (broken (slice_set state.waits s on) ds) k ≡ [])
      first false e setup k ne = absurd (false≢true (sym setup ∙ active.behind_setup e))
      first true e setup k ne =
          let before = o.idle.setup_first setup k ne in
          (now_idle k before.0, quiet k (ap (λ t. k == t) (eqb-true s 0 e) ∙ ne) before.1)

  more_listed : (s : ℕ) (lock other : Lock) → lock.trx ≡ s → Has (with_lock state.locks lock) other → Has state.locks other ⊎ (other.trx ≡ s)
  more_listed s lock other own h = elim (listed_before state.locks lock other h) [ inl k ↦ inl k | inr e ↦ inr (ap (λ (l : Lock). l.trx) (sym e) ∙ own) ]

  pub idle_each : EachKeeps m state (λ (st : State). AreIdle st.locks st.searches st.sessions st.waits)
  idle_each = record {
    still = o.idle;
    purge = λ some. o.idle;
    end = λ s over active. idle_end s over _ active refl refl refl refl refl;
    answer = λ s reply active at. idle_answer s reply _ active at refl refl;
    undo = λ s entry more active at. idle_undo s entry _ active at refl refl refl;
    create = λ s over name schema leaf roots active at may. idle_end s over _ active refl refl refl refl refl;
    refuse = λ s on ds active at may. idle_refuse s on ds active;
    lock_table = λ s statement number mode active at none.
        at_work s (with_lock state.locks (table_lock s number mode)) state.searches _ active (λ lock h. more_listed s (table_lock s number mode) lock refl h) (old_searches s)
        (λ h. some_none _ h) refl refl;
    lock_key = λ s number key mode active at none.
        at_work s (with_lock state.locks (key_lock s number key mode)) state.searches _ active (λ lock h. more_listed s (key_lock s number key mode) lock refl h) (old_searches s)
        (λ h. still_busy s _ at.work at.goes_on.at_work h) refl refl;
    lock_row = λ s number key mode active at none.
        at_work s (with_lock state.locks (key_lock s number key mode)) state.searches _ active (λ lock h. more_listed s (key_lock s number key mode) lock refl h) (old_searches s)
        (λ h. still_busy s _ at.work at.goes_on.at_work h) refl refl;
    visit = λ s number column predicate active at.
        at_work s state.locks (with_search state.searches number column (seen_now m state o s number column predicate at)) _ active (old_locks s)
        (λ x h. elim (visit_was m state o s number column predicate at x h) [
          | inl was ↦ inl (record { search = was.before; among = was.among; session = sym was.still.same.session })
          | inr e ↦ inr (ap (λ (y : TreeSearch). y.search.session) (sym e) ∙ now_session m state o s number column predicate at)
        ])
        (λ h. still_busy s _ at.work at.goes_on.at_work h) refl refl;
    scan = λ s number leaf active at. at_work s state.locks state.searches _ active (old_locks s) (old_searches s) (λ h. still_busy s _ at.work at.goes_on.at_work h) refl refl;
    step = λ s d q active at may.
        at_work s state.locks state.searches _ active (old_locks s) (old_searches s) (λ h. still_busy s _ at.descending.entering.work at.descending.entering.goes_on.at_work h) refl refl;
    stale = λ s d active at.
        at_work s state.locks state.searches _ active (old_locks s) (old_searches s) (λ h. still_busy s _ at.descending.entering.work at.descending.entering.goes_on.at_work h) refl refl;
    full = λ s active at. at_work s state.locks state.searches _ active (old_locks s) (old_searches s) (λ h. still_busy s _ at.work at.goes_on.at_work h) refl refl;
    place = λ s d q ds active at may.
        at_work s state.locks (map (search_after_place (tree_for state d) d state.entries q ds) state.searches) _ active (old_locks s)
        (λ x h. (let was = placed_was (tree_for state d) d state.entries q ds state.searches x h in
        inl (record { search = was.before; among = was.among; session = sym was.still.same.session })))
        (λ h. still_busy s _ at.descending.entering.work at.descending.entering.goes_on.at_work h) refl refl;
    row = λ s number change placed p active at may.
        at_work s state.locks state.searches _ active (old_locks s) (old_searches s) (λ h. still_busy s _ at.entering.work at.entering.goes_on.at_work h) refl refl;
  }

pub idle_kept : (m : Machine) (state : State) (actor : Actor) (choice : Choice) → IsProper m → InOrder m state → MayHappen m state actor choice
    → AreIdle (after m state actor choice).locks (after m state actor choice).searches (after m state actor choice).sessions (after m state actor choice).waits
idle_kept m state actor choice good o h = event_keeps m state good o (λ (st : State). AreIdle st.locks st.searches st.sessions st.waits) (idle_each m state good o) actor choice h
