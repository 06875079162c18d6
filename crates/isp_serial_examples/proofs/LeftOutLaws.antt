-- The state in which a search has left out an entry of its own transaction has all other clauses.
use Rattle.std.proofs.Common.{◌≡◌, ◌⊎◌, ◌∙◌, ◌≤◌, ◌==◌, inl, inr, refl, sym, ap, subst, ℕ, ℤ, zero, suc, pos, cond, Bool, true, false, Option, Some, None, List, [], ◌∷◌, length, arith}
use Rattle.std.specs.Prelude.{filter_map, replicate}
use Rattle.std.specs.Fmt.{digits}
use Rattle.std.proofs.lemmas.Bool.{false≢true}
use Rattle.isp_base.specs.Lists.{Has}
use Rattle.isp_geom.specs.Bounds.{points_of}
use Rattle.isp_geom.specs.Spelling.{spelling}
use Rattle.isp_waits.specs.Graphs.{WaitsFor, has, waits_of}
use Rattle.isp_plain.specs.declared.value.Row.{Row}
use Rattle.isp_plain.specs.Tables.{Table}
use Rattle.isp_plain.specs.Texts.{deadlock_text, end_text, full_text, ok_text}
use Rattle.isp_plain.specs.Refusals.{state, words}
use Rattle.isp_serial.specs.Answers.{Answer}
use Rattle.isp_serial.specs.Serial.{Agrees, EndsAll, none_pending}
use Rattle.isp_reclock.specs.Tables.{takes}
use Rattle.isp_forest.specs.Search.{Covered}
use Rattle.isp_laws.specs.Examples.{box}
use Rattle.isp_laws.specs.SearchExamples.{meets_box}
use Rattle.isp_searches.proofs.CoveredByTests.{covered_done}
use Rattle.isp_events.specs.Stored.{StoredTable, Version, table_at, tree_of}
use Rattle.isp_events.specs.Sessions.{by_placing, duplicate, too_large, Note, Phase, locking, visiting, SessionState, UndoEntry, was_absent, Work, fresh, session_at}
use Rattle.isp_events.specs.State.{State, TreeSearch}
use Rattle.isp_events.specs.Views.{beginning_view, committed, has_written}
use Rattle.isp_events.specs.Ways.{Way, by_box}
use Rattle.isp_events.specs.Next.{EventKind, next, table_mode, visits}
use Rattle.isp_events.specs.Reading.{is_of}
use Rattle.isp_events.specs.Lines.{answers_in}
use Rattle.isp_events.specs.Events.{after_all, lines_of_all, with_nothing}
use Rattle.isp_event_laws.specs.SerialAfter.{becoming}
use Rattle.isp_answers.specs.Course.{AreOnCourse, IsOnCourse}
use Rattle.isp_answers.specs.Told.{AreBegun, AreTold, IsTold, RestsAt, Stand}
use Rattle.isp_order.specs.Locks.{AreIdle, AreLocked, HasNothing, Holds, HoldsIntention, IsIdle}
use Rattle.isp_order.specs.Searches.{Belongs, IsOfWork}
use Rattle.isp_order.specs.Trees.{AreEntered, AreNamed, AreNoted, AreRestorable, HaveOneStatus, IsOfWriter, IsPending, IsRestorable, IsSettled, NamesOwn, WouldRestore, placed_in}
use Rattle.isp_order.specs.Work.{AreAllBefore, AreSought, HasKeys, HasWritten, HaveTable, IsBound, IsChanging, IsCollecting, IsOnPath, IsReadOf, is_by_scan, row_before, undo_since, way_of}
use Rattle.isp_order.specs.InOrder.{InOrder}
use Rattle.isp_event_examples.specs.Points.{five, points_meeting}
use Rattle.isp_event_examples.specs.WrongMachines.{after_exchanged, own_unseen}
use Rattle.isp_serial_examples.proofs.FreshLaws.{apart_back, nobody, none_some, rest_fresh, sees_committed, some_is}
use Rattle.isp_serial_examples.specs.NeededClauses.{IsInOrderWith, answers_until_leaf, began, added, five_rows, left_out, looking, plain_five, pending_at_leaf, six_rows, until_leaf}

-- ---- what there is before the visit, and behind it

abbrev work_in : Phase → Work
work_in phase = record { statement = points_meeting 0 0 2 2; table = 1; begun = 1; read = []; failure = None; phase = phase }

abbrev session_in : Phase → SessionState
session_in phase = record {
  number = 3;
  inside = true;
  over = false;
  victim = false;
  undo = record { table = 1; key = pos 6; image = was_absent } ∷ [];
  notes = record { how = by_placing; entry = record { table = 1; column = 1; key = pos 6; number = 5; box = box 1 1 1 1 }; statement = 2 } ∷ [];
  written = (1, pos 6) ∷ [];
  undo_pages = 18 ∷ [];
  work = Some (work_in phase);
}

abbrev sessions_in : Phase → List SessionState
sessions_in phase = fresh true ∷ session_in phase ∷ fresh false ∷ replicate 14 (fresh true)

abbrev looked_up : Phase
looked_up = locking (pos 1 ∷ [])

abbrev search_before : TreeSearch
search_before = record {
  table = 1;
  column = 1;
  search = record { session = 1; statement = 3; predicate = meets_box 0 0 2 2; on = 17 ∷ []; stack = (19, 1) ∷ []; found = [] };
}

abbrev search_behind : TreeSearch
search_behind = record {
  table = 1;
  column = 1;
  search = record { session = 1; statement = 3; predicate = meets_box 0 0 2 2; on = 17 ∷ 19 ∷ []; stack = []; found = pos 1 ∷ [] };
}

record IsBefore (state : State) : Type 0 where
  sessions : state.sessions ≡ sessions_in visiting
  waits : state.waits ≡ replicate 17 []
  searches : state.searches ≡ search_before ∷ []

abbrev put : State → State
put state = record state { sessions = sessions_in looked_up; searches = search_behind ∷ [] }

-- ---- sessions are the same, but for the phase of one

record IsSame (x y : SessionState) : Type 0 where
  number : x.number ≡ y.number
  inside : x.inside ≡ y.inside
  over : x.over ≡ y.over
  undo : x.undo ≡ y.undo
  notes : x.notes ≡ y.notes
  written : x.written ≡ y.written

same : (s : ℕ) → IsSame (session_at (sessions_in looked_up) s) (session_at (sessions_in visiting) s)
same zero = record { number = refl; inside = refl; over = refl; undo = refl; notes = refl; written = refl }
same (suc zero) = record { number = refl; inside = refl; over = refl; undo = refl; notes = refl; written = refl }
same (suc (suc zero)) = record { number = refl; inside = refl; over = refl; undo = refl; notes = refl; written = refl }
same (suc (suc (suc s))) = record { number = refl; inside = refl; over = refl; undo = refl; notes = refl; written = refl }

-- the session that searches is the one at work
of_work : (P : ℕ → SessionState → Work → Type 0) → P 1 (session_in looked_up) (work_in looked_up)
    → (s : ℕ) (work : Work) → (session_at (sessions_in looked_up) s).work ≡ Some work → P s (session_at (sessions_in looked_up) s) work
of_work P h zero work is = absurd (none_some work is)
of_work P h (suc zero) work is = subst (λ (w : Work). P 1 (session_in looked_up) w) (some_is (work_in looked_up) work is) h
of_work P h (suc (suc zero)) work is = absurd (none_some work is)
of_work P h (suc (suc (suc s))) work is = absurd (none_some work (sym (ap (λ (x : SessionState). x.work) (rest_fresh 14 s)) ∙ is))

idle_before : (s : ℕ) → IsIdle (session_at (sessions_in looked_up) s) → IsIdle (session_at (sessions_in visiting) s)
idle_before zero h = h
idle_before (suc zero) h = absurd (false≢true (sym h.outside))
idle_before (suc (suc zero)) h = h
idle_before (suc (suc (suc s))) h = h

idle_behind : (s : ℕ) → IsIdle (session_at (sessions_in visiting) s) → IsIdle (session_at (sessions_in looked_up) s)
idle_behind zero h = h
idle_behind (suc zero) h = absurd (false≢true (sym h.outside))
idle_behind (suc (suc zero)) h = h
idle_behind (suc (suc (suc s))) h = h

undone : (s : ℕ) (undo : UndoEntry) → Has (session_at (sessions_in looked_up) s).undo undo → Has (session_at (sessions_in visiting) s).undo undo
undone s undo h = subst (λ (us : List UndoEntry). Has us undo) (same s).undo h

noted : (s : ℕ) (note : Note) → Has (session_at (sessions_in looked_up) s).notes note → Has (session_at (sessions_in visiting) s).notes note
noted s note h = subst (λ (ns : List Note). Has ns note) (same s).notes h

restores : (s : ℕ) (undo : UndoEntry) (version : Version) → WouldRestore (sessions_in looked_up) s undo version → WouldRestore (sessions_in visiting) s undo version
restores s undo version h = (undone s undo h.0, h.1)

module _ (tables : List StoredTable) where
  settled : (table column : ℕ) (key : ℤ) (number : ℕ) → IsSettled tables (sessions_in looked_up) table column key number → IsSettled tables (sessions_in visiting) table column key number
  settled table column key number h = record { version = h.version; committed = h.committed; has = h.has }

  settled_behind : (table column : ℕ) (key : ℤ) (number : ℕ) → IsSettled tables (sessions_in visiting) table column key number → IsSettled tables (sessions_in looked_up) table column key number
  settled_behind table column key number h = record { version = h.version; committed = h.committed; has = h.has }

pending : (s number : ℕ) → IsPending (sessions_in looked_up) s number → IsPending (sessions_in visiting) s number
pending s number h = subst (λ (ns : List Note). Has (filter_map (λ note. placed_in note.how note.entry.number) ns) number) (same s).notes h

pending_behind : (s number : ℕ) → IsPending (sessions_in visiting) s number → IsPending (sessions_in looked_up) s number
pending_behind s number h = subst (λ (ns : List Note). Has (filter_map (λ note. placed_in note.how note.entry.number) ns) number) (sym (same s).notes) h

writer_behind : (table : ℕ) (key : ℤ) (number : ℕ) → IsOfWriter (sessions_in visiting) table key number → IsOfWriter (sessions_in looked_up) table key number
writer_behind table key number h = record { session = h.session; writes = writes h.session h.writes; pending = pending_behind h.session number h.pending }
  where
    writes : (s : ℕ) → has_written (session_at (sessions_in visiting) s) table key ≡ true → has_written (session_at (sessions_in looked_up) s) table key ≡ true
    writes zero k = k
    writes (suc zero) k = k
    writes (suc (suc zero)) k = k
    writes (suc (suc (suc s))) k = k

names_behind : (tables : List StoredTable) (table : ℕ) (key : ℤ) (version : Version) → NamesOwn tables (sessions_in visiting) table key version → NamesOwn tables (sessions_in looked_up) table key version
names_behind tables table key version h column number has = by_case (h column number has)
  where
    by_case : IsSettled tables (sessions_in visiting) table column key number ⊎ IsOfWriter (sessions_in visiting) table key number
        → IsSettled tables (sessions_in looked_up) table column key number ⊎ IsOfWriter (sessions_in looked_up) table key number
    by_case (inl k) = inl (settled_behind tables table column key number k)
    by_case (inr k) = inr (writer_behind table key number k)

-- ---- clause by clause

module _ (a : State) (f : IsBefore a) (o : InOrder looking a) where
  from_search : Belongs looking.ways a.tables (sessions_in visiting) search_before
  from_search = subst (λ (sessions : List SessionState). Belongs looking.ways a.tables sessions search_before) f.sessions
      (o.belongs.each search_before (subst (λ (xs : List TreeSearch). Has xs search_before) (sym f.searches) (inl refl)))

  way_is : looking.ways (table_at a.tables 1).schema (points_meeting 0 0 2 2) ≡ by_box 1 (meets_box 0 0 2 2)
  way_is =
      let w : IsOfWork looking.ways a.tables (session_in visiting) search_before = from_search.present refl in
      ap (λ (x : Work). looking.ways (table_at a.tables 1).schema x.statement) (some_is (work_in visiting) w.work w.at_work) ∙ w.way

  has_intention : HoldsIntention a.locks 1 1
  has_intention = o.intended.searching search_before (subst (λ (xs : List TreeSearch). Has xs search_before) (sym f.searches) (inl refl))

  was_bound : IsBound looking a.tables 1 (session_in visiting) (work_in visiting)
  was_bound = subst (λ (sessions : List SessionState). (s : ℕ) (work : Work) → (session_at sessions s).work ≡ Some work → IsBound looking a.tables s (session_at sessions s) work) f.sessions o.bound 1 (work_in visiting) refl

  waits_for_nobody : (s by : ℕ) → WaitsFor a.waits s by → ⊥
  waits_for_nobody s by w = false≢true (ap (λ list. has list by) (sym (ap (λ waits. waits_of waits s) f.waits ∙ nobody 17 s)) ∙ w)

  one_search : (P : TreeSearch → Type 0) → P search_behind → (x : TreeSearch) → Has (search_behind ∷ []) x → P x
  one_search P h x (inl e) = subst P e h
  one_search P h x (inr k) = absurd k

  at_most_one : (b : Bool) → length (cond b (search_behind ∷ []) []) ≤ 1
  at_most_one true = omega arith
  at_most_one false = omega arith

  was_entered : AreEntered a.tables (sessions_in visiting)
  was_entered = subst (λ (sessions : List SessionState). AreEntered a.tables sessions) f.sessions o.entered

  was_noted : AreNoted a.tables (sessions_in visiting) a.queue
  was_noted = subst (λ (sessions : List SessionState). AreNoted a.tables sessions a.queue) f.sessions o.noted

  had_one_status : HaveOneStatus a.tables (sessions_in visiting) a.queue
  had_one_status = subst (λ (sessions : List SessionState). HaveOneStatus a.tables sessions a.queue) f.sessions o.one_status

  was_named : AreNamed a.tables (sessions_in visiting)
  was_named = subst (λ (sessions : List SessionState). AreNamed a.tables sessions) f.sessions o.named

  was_restorable : AreRestorable a.tables (sessions_in visiting)
  was_restorable = subst (λ (sessions : List SessionState). AreRestorable a.tables sessions) f.sessions o.restorable

  restored : (s : ℕ) (undo : UndoEntry) → IsRestorable a.tables (session_at (sessions_in visiting) s) undo → IsRestorable a.tables (session_at (sessions_in looked_up) s) undo
  restored s undo r = record { kept = r.kept; there = r.there; fits = r.fits; written = subst (λ (keys : List (ℕ × ℤ)). Has {X = ℕ × ℤ} keys (undo.table, undo.key)) (sym (same s).written) r.written }

  was_locked : AreLocked a.locks (sessions_in visiting)
  was_locked = subst (λ (sessions : List SessionState). AreLocked a.locks sessions) f.sessions o.written_locked

  was_idle : AreIdle a.locks (search_before ∷ []) (sessions_in visiting) a.waits
  was_idle = subst (λ (xs : List TreeSearch). AreIdle a.locks xs (sessions_in visiting) a.waits) f.searches
      (subst (λ (sessions : List SessionState). AreIdle a.locks a.searches sessions a.waits) f.sessions o.idle)

  nothing_behind : (s : ℕ) → HasNothing a.locks (search_before ∷ []) (sessions_in visiting) s → HasNothing a.locks (search_behind ∷ []) (sessions_in looked_up) s
  nothing_behind s h = record {
    no_lock = h.no_lock;
    no_search = one_search (λ x. (x.search.session == s) ≡ false) (h.no_search search_before (inl refl));
    no_undo = (same s).undo ∙ h.no_undo;
    no_note = (same s).notes ∙ h.no_note;
    no_key = (same s).written ∙ h.no_key;
  }

  was_before : AreAllBefore (sessions_in visiting)
  was_before = subst (λ (sessions : List SessionState). AreAllBefore sessions) f.sessions o.before

  before_behind : AreAllBefore (sessions_in looked_up)
  before_behind zero = was_before zero
  before_behind (suc zero) = record { not_later = (was_before 1).not_later; not_yet = (was_before 1).not_yet }
  before_behind (suc (suc zero)) = was_before 2
  before_behind (suc (suc (suc s))) = was_before (suc (suc (suc s)))

  was_table_locked : (s : ℕ) (work : Work) → (session_at (sessions_in visiting) s).work ≡ Some work → Holds a.locks s work.table None (table_mode work.statement (way_of looking.ways a.tables work))
  was_table_locked = subst (λ (sessions : List SessionState). HaveTable looking.ways a.tables a.locks sessions) f.sessions o.table_locked

  with_clause : Covered (tree_of (table_at a.tables 1) 1) search_behind.search → (Clause : Type 0) → Clause → IsInOrderWith looking (put a) Clause
  with_clause covered Clause other = record {
    counted = record { sessions = refl; waits = o.counted.waits };
    whole = o.whole;
    keyed = o.keyed;
    entered = record { rows = was_entered.rows; images = λ s undo version h. was_entered.images s undo version (restores s undo version h) };
    numbered = o.numbered;
    noted = record {
      notes = λ s note h. was_noted.notes s note (noted s note h);
      queued = was_noted.queued;
      placed_once = was_noted.placed_once;
      queued_once = was_noted.queued_once;
      apart = λ s note h. was_noted.apart s note (noted s note h);
    };
    one_status = record {
      settled_alive = λ table column key number h. had_one_status.settled_alive table column key number (settled a.tables table column key number h);
      settled_done = λ table column key number s h p. had_one_status.settled_done table column key number s (settled a.tables table column key number h) (pending s number p);
      pending_alive = λ number s p. had_one_status.pending_alive number s (pending s number p);
      pending_once = λ number s k p q. had_one_status.pending_once number s k (pending s number p) (pending k number q);
    };
    named = record {
      rows = λ table key version h. names_behind a.tables table key version (was_named.rows table key version h);
      images = λ s undo version h. names_behind a.tables undo.table undo.key version (was_named.images s undo version (restores s undo version h));
    };
    restorable = λ s undo h. restored s undo (was_restorable s undo (undone s undo h));
    no_conflict = o.no_conflict;
    intended = record {
      shared = o.intended.shared;
      exclusive = o.intended.exclusive;
      on_keys = o.intended.on_keys;
      searching = one_search (λ x. HoldsIntention a.locks x.search.session x.table) has_intention;
    };
    written_locked = record {
      undone = λ s undo h. was_locked.undone s undo (undone s undo h);
      noted = λ s note h. was_locked.noted s note (noted s note h);
    };
    idle = record {
      nothing = λ s h. nothing_behind s (was_idle.nothing s (idle_before s h));
      over = λ s h. (let was : IsIdle (session_at (sessions_in visiting) s) × (waits_of a.waits s ≡ []) = was_idle.over s (sym (same s).over ∙ h) in (idle_behind s was.0, was.1));
      setup_first = λ h. absurd (false≢true (sym h));
      setup_outside = refl;
    };
    waiting = λ s by w. absurd (waits_for_nobody s by w);
    no_cycle = o.no_cycle;
    covered = one_search (λ x. Covered (tree_of (table_at a.tables x.table) x.column) x.search) covered;
    other = other;
    belongs = record {
      each = one_search (λ x. Belongs looking.ways a.tables (sessions_in looked_up) x) (record {
        numbered = omega arith;
        column = from_search.column;
        statement = omega arith;
        earlier = λ h. (let no : ⊥ = omega (arith, h) in absurd no);
        present = λ h. record { work = work_in looked_up; at_work = refl; of_table = refl; way = way_is; visits = λ no. absurd (false≢true no); visited = λ no. refl; unfailed = λ no. absurd (false≢true no) };
      });
      one = λ s statement. at_most_one (is_of s statement search_behind);
    };
    bound = of_work (IsBound looking a.tables) (record {
      text = was_bound.text;
      text_is = was_bound.text_is;
      means = was_bound.means;
      first = was_bound.first;
      last = was_bound.last;
      name = was_bound.name;
      served = was_bound.served;
      phase = ap is_by_scan way_is;
    });
    table_locked = of_work (λ s session work. Holds a.locks s work.table None (table_mode work.statement (way_of looking.ways a.tables work))) (was_table_locked 1 (work_in visiting) refl);
    keys_locked = of_work (HasKeys looking.ways a.tables a.locks (search_behind ∷ [])) (record {
      locked = λ key row h. absurd h;
      rising = refl;
      sought = subst (λ (w : Way). AreSought (search_behind ∷ []) 1 3 (work_in looked_up) w) (sym way_is) (record { search = search_behind; among = inl refl; of = refl; found = refl });
    });
    scanned = λ s work is quiet. of_work (λ k session w. IsReadOf (table_at a.tables w.table) w w.phase) tt s work is;
    standing = λ s work is quiet. of_work
        (λ k session w. (key : ℤ) (row : Option Row) → Has {X = ℤ × Option Row} w.read (key, row) → row_before a.tables (undo_since session w) w.table key ≡ row) (λ key row h. absurd h) s work is;
    changing = λ s work is quiet unfailed. of_work (λ k session w. IsChanging a.tables a.locks k w w.phase) tt s work is;
    collected = of_work (λ k session w. IsCollecting a.tables (sessions_in looked_up) k w w.phase) tt;
    written = λ s work is quiet. of_work (λ k session w. HasWritten session w) (record { begun = omega arith; of_table = λ u h. absurd h; undo = refl; once = tt }) s work is;
    before = before_behind;
    paths = of_work (λ k session w. IsOnPath (table_at a.tables w.table) w.phase) tt;
  }

-- ---- the state at hand

abbrev to_leaf : State
to_leaf = after_all looking five until_leaf

comes_next : next looking to_leaf 1 ≡ Some (visits 1 1 (meets_box 0 0 2 2))
unfolding next points_of spelling
comes_next = refl

sessions_before : to_leaf.sessions ≡ sessions_in visiting
unfolding next points_of spelling
sessions_before = refl

waits_before : to_leaf.waits ≡ replicate 17 []
unfolding next points_of spelling
waits_before = refl

searches_before : to_leaf.searches ≡ search_before ∷ []
unfolding next points_of spelling
searches_before = refl

sessions_behind : left_out.sessions ≡ sessions_in looked_up
unfolding next points_of spelling
sessions_behind = refl

searches_behind : left_out.searches ≡ search_behind ∷ []
unfolding next points_of spelling
searches_behind = refl

abbrev with_parts : State → List SessionState → List TreeSearch → State
with_parts state sessions searches = record state { sessions = sessions; searches = searches }

abbrev exchanged_by : Option EventKind → State
exchanged_by kind = after_exchanged looking to_leaf 1 kind with_nothing own_unseen

parts_are : left_out ≡ with_parts to_leaf left_out.sessions left_out.searches
parts_are = subst (λ (k : Option EventKind). exchanged_by k ≡ with_parts to_leaf (exchanged_by k).sessions (exchanged_by k).searches) (sym comes_next) refl

left_out_is : left_out ≡ put to_leaf
left_out_is =
    parts_are ∙ (ap (λ (sessions : List SessionState). with_parts to_leaf sessions left_out.searches) sessions_behind
    ∙ ap (λ (searches : List TreeSearch). with_parts to_leaf (sessions_in looked_up) searches) searches_behind)

leaf_covered : Covered (tree_of (table_at to_leaf.tables 1) 1) search_behind.search
unfolding next points_of spelling
leaf_covered = covered_done (tree_of (table_at to_leaf.tables 1) 1) search_behind.search refl refl refl

pub left_out_in_order : InOrder looking to_leaf → (Clause : Type 0) → Clause → IsInOrderWith looking left_out Clause
left_out_in_order o Clause other =
    subst (λ (state : State). IsInOrderWith looking state Clause) (sym left_out_is)
    (with_clause to_leaf (record { sessions = sessions_before; waits = waits_before; searches = searches_before }) o leaf_covered Clause other)

pub on_course : AreOnCourse left_out
on_course = subst (λ (state : State). AreOnCourse state) (sym left_out_is) (λ s work is quiet. of_work (λ k session w. IsOnCourse (put to_leaf) k w) course s work is)
  where
    course : IsOnCourse (put to_leaf) 1 (work_in looked_up)
    course = record {
      complete = λ unfailed writes. absurd (false≢true (sym writes));
      small = λ unfailed key row h. absurd h;
      absent = λ unfailed inserts. absurd (false≢true inserts);
      too_large = λ no. absurd (none_some too_large no);
      duplicate = λ key no. absurd (none_some (duplicate key) no);
    }

-- ---- what was told

pub tell : answers_in (lines_of_all looking five until_leaf) ≡ answers_until_leaf
unfolding next points_of spelling digits ok_text full_text end_text deadlock_text state words
tell = refl

committed_is : committed left_out ≡ five_rows
unfolding next points_of spelling
committed_is = refl

sees_six : beginning_view left_out 1 ≡ six_rows
unfolding next points_of spelling
sees_six = refl

taken : takes left_out.locks 1 (pos 6) 1 ≡ true
unfolding next points_of spelling
taken = refl

session_is : (s : ℕ) (session : SessionState) → session_at (sessions_in looked_up) s ≡ session → session_at left_out.sessions s ≡ session
session_is s session is = ap (λ (sessions : List SessionState). session_at sessions s) sessions_behind ∙ is

nothing_told : (s : ℕ) (over : Bool) → session_at (sessions_in looked_up) s ≡ fresh over → IsTold looking left_out s []
nothing_told s over is = record {
  own = λ answer h. absurd h;
  inside = sym (ap (λ (session : SessionState). session.inside) (session_is s (fresh over) is));
  begun = tt;
  left = committed left_out;
  stand = refl;
  seen = λ quiet. sees_committed left_out s (fresh over) (session_is s (fresh over) is) refl;
}

begins : Agrees looking.language looking.script false five_rows began five_rows
unfolding digits ok_text full_text end_text deadlock_text state words
begins = (refl, refl)

adds : Agrees looking.language looking.script true five_rows added six_rows
unfolding digits ok_text full_text end_text deadlock_text state words
adds = (refl, refl)

begins_alone : RestsAt looking left_out 1 false five_rows began
unfolding digits full_text end_text deadlock_text state words
begins_alone = tt

added_rests : RestsAt looking left_out 1 true five_rows added
unfolding digits full_text end_text deadlock_text state words
added_rests = record { place = 0; table = plain_five; place_is = refl; there = refl; rests = (taken, tt) }

stands : Stand looking left_out 1 false five_rows answers_until_leaf six_rows
unfolding ok_text
stands = (five_rows, begins, begins_alone, (six_rows, adds, added_rests, refl))

begun : AreBegun looking answers_until_leaf
unfolding ok_text
begun = refl

looking_told : IsTold looking left_out 1 answers_until_leaf
looking_told = record {
  own = own;
  inside = sym (ap (λ (session : SessionState). session.inside) (session_is 1 (session_in looked_up) refl));
  begun = begun;
  left = six_rows;
  stand = subst (λ (tables : List Table). Stand looking left_out 1 false tables answers_until_leaf six_rows) (sym committed_is) stands;
  seen = λ quiet. sym sees_six;
}
  where
    own : (answer : Answer) → Has answers_until_leaf answer → answer.session ≡ 1
    own answer (inl e) = ap (λ (a : Answer). a.session) (sym e)
    own answer (inr (inl e)) = ap (λ (a : Answer). a.session) (sym e)
    own answer (inr (inr h)) = absurd h

pub told : AreTold looking left_out pending_at_leaf
told zero = nothing_told 0 true refl
told (suc zero) = looking_told
told (suc (suc zero)) = nothing_told 2 false refl
told (suc (suc (suc s))) =
    subst (λ (answers : List Answer). IsTold looking left_out (suc (suc (suc s))) answers)
    (sym (ap (λ b. cond b answers_until_leaf (cond b (began ∷ []) [])) (apart_back (suc (suc (suc s))) 1 (omega arith))))
    (nothing_told (suc (suc (suc s))) true (rest_fresh 14 s))

pub ended : EndsAll looking.language looking.script (committed five) none_pending answers_until_leaf (committed left_out) pending_at_leaf
unfolding next points_of spelling digits ok_text full_text end_text deadlock_text state words
ended = (committed five, becoming none_pending 1 (began ∷ []), (refl, λ k. refl), (committed five, pending_at_leaf, (refl, λ k. refl), (refl, refl)))
