-- A row that would get too large is made small by another session, by computation.
use Rattle.std.proofs.Common.{◌≡◌, ◌∙◌, ◌+◌, ◌<◌, ◌==◌, ◌&&◌, ◌||◌, inl, inr, refl, sym, ap, subst, ℕ, ℤ, zero, suc, pos, cond, Bool, true, false, Some, None, List, [], ◌∷◌, arith}
use Rattle.std.specs.Prelude.{codes, replicate, slice_get}
use Rattle.std.specs.Fmt.{digits}
use Rattle.std.proofs.lemmas.Bool.{false≢true}
use Rattle.isp_base.specs.Lists.{Has}
use Rattle.isp_waits.specs.Graphs.{WaitsFor, has, waits_of}
use Rattle.isp_plain.specs.Texts.{deadlock_text, end_text, full_text, ok_text}
use Rattle.isp_plain.specs.Refusals.{state, words}
use Rattle.isp_plain.specs.RowBytes.{row_bytes}
use Rattle.isp_plain.specs.Tables.{Table}
use Rattle.isp_plain.specs.declared.statement.Statement.{Statement}
use Rattle.isp_plain.specs.declared.statement.Statement.TheVariants.{Begin, Commit}
use Rattle.isp_plain.specs.declared.value.Column.{Column}
use Rattle.isp_plain.specs.declared.value.Kind.TheVariants.{BigInt, Geo}
use Rattle.isp_reclock.specs.declared.entries.Lock.{Lock}
use Rattle.isp_reclock.specs.declared.modes.Mode.{Mode}
use Rattle.isp_reclock.specs.declared.modes.Mode.TheVariants.{IS, IX, S, X}
use Rattle.isp_reclock.specs.Tables.{holds, is_lock, key_lock, table_lock, takes}
use Rattle.isp_serial.specs.Answers.{Answer}
use Rattle.isp_serial.specs.Serial.{Agrees, EndsAll, none_pending}
use Rattle.isp_events.specs.Stored.{KeptRow, StoredTable, Version, indexed, no_table, number_at, rows_of, table_at}
use Rattle.isp_events.specs.Sessions.{Note, SessionState, UndoEntry, Work, fresh, session_at}
use Rattle.isp_events.specs.Views.{committed}
use Rattle.isp_events.specs.Ways.{IsDefinition, is_indexed}
use Rattle.isp_events.specs.Next.{next}
use Rattle.isp_events.specs.Lines.{answers_in}
use Rattle.isp_events.specs.Events.{MayFollow, after_all, lines_of_all}
use Rattle.isp_event_laws.specs.SerialAfter.{becoming, replayed, serial_from}
use Rattle.isp_event_laws.proofs.EventTests.{follow_by_test}
use Rattle.isp_order.specs.Locks.{HasNothing, HoldsIntention, lock_on}
use Rattle.isp_order.specs.Trees.{HasEntries, IsKeyed, IsStored, StandsAt, version_kept}
use Rattle.isp_order.specs.InOrder.{InOrder, IsProper, IsRested, is_missing}
use Rattle.isp_order.proofs.RestedLaws.{in_order}
use Rattle.isp_order_whole.proofs.WholeLaws.{stays_in_order}
use Rattle.isp_answers.specs.Told.{AreBegun, IsTold, RestsAt, RestsOn, Stand}
use Rattle.isp_event_examples.proofs.LanguageLaws.{language_fits}
use Rattle.isp_serial_examples.proofs.FreshLaws.{apart, apart_back, nobody, none_some, rest_fresh, sees_committed, some_is}
use Rattle.isp_serial_examples.specs.NeededClauses.{texts_in}
use Rattle.isp_serial_examples.specs.OutgrownRows.{AnswerRests, IsToldUnlocked, IsTooLargeUnlocked, RestsIsNeeded, StandUnlocked, answers_refused, answers_unlocked, begun_answer, emptying, growing, lengthening, long, notes_kept, notes_of, notes_row, notes_schema, one_long, pending_refused, refused, refused_answer, unlocked, until_committed, until_emptied, until_refused}

-- ---- the state is rested

missing : (s : ℕ) → 2 < s → is_missing growing.script s ≡ true
missing s above =
    let none : (s == 0) ≡ false = apart_back s 0 (omega (arith, above)) in
    let one : (1 == s) ≡ false = apart 1 s (omega (arith, above)) in
    let two : (2 == s) ≡ false = apart 2 s above in
    rw (none, one, two) refl

each_fresh : (s : ℕ) → session_at one_long.sessions s ≡ fresh (is_missing growing.script s)
each_fresh zero = refl
each_fresh (suc zero) = refl
each_fresh (suc (suc zero)) = refl
each_fresh (suc (suc (suc s))) = rest_fresh 14 s ∙ ap fresh (sym (missing (suc (suc (suc s))) (omega arith)))

not_indexed : (column : ℕ) → is_indexed notes_schema column ≡ true → ⊥
not_indexed zero h = false≢true h
not_indexed (suc zero) h = false≢true h
not_indexed (suc (suc zero)) h = false≢true h
not_indexed (suc (suc (suc column))) h = false≢true h

is_definition : IsDefinition notes_schema
is_definition = record { first = record { name = codes "id"; kind = BigInt; indexed = false }; there = refl; key = refl; trees = trees }
  where
    plain : (c column : Column) → c.indexed ≡ false → Some c ≡ Some column → column.indexed ≡ true → column.kind ≡ Geo
    plain c column none h k = absurd (false≢true (sym none ∙ (ap (λ (x : Column). x.indexed) (some_is c column h) ∙ k)))

    trees : (number : ℕ) (column : Column) → slice_get notes_schema.columns number ≡ Some column → column.indexed ≡ true → column.kind ≡ Geo
    trees zero column h k = plain _ column refl h k
    trees (suc zero) column h k = plain _ column refl h k
    trees (suc (suc zero)) column h k = plain _ column refl h k
    trees (suc (suc (suc number))) column h k = absurd (none_some column h)

abbrev kept_row : KeptRow
kept_row = record { row = notes_row long []; numbers = []; mark = false; slot = 504 }

stored : row_bytes notes_schema (notes_row long []) ≡ 504 → IsStored notes_kept (pos 1) 504 (version_kept kept_row)
stored bytes = record {
  storable = record { key = refl; geometries = λ column h. absurd (not_indexed column h) };
  own_key = refl;
  each_column = refl;
  fits = omega (arith, bytes);
}

rows_stored : (key : ℤ) (kept : KeptRow) → Has {X = ℤ × KeptRow} (rows_of notes_kept) (key, kept) → IsStored notes_kept key kept.slot (version_kept kept)
rows_stored key kept (inl e) = subst (λ (p : ℤ × KeptRow). IsStored notes_kept p.0 p.1.slot (version_kept p.1)) e (stored refl)
rows_stored key kept (inr h) = absurd h

keyed : IsKeyed notes_kept
keyed = record { defined = is_definition; columns = refl; apart = refl; rising = refl; rows = rows_stored }

-- no table has a tree
no_column : (number column : ℕ) → Has (indexed (table_at one_long.tables number)) column → ⊥
no_column number column h = by_table (1 == number) h
  where
    by_table : (b : Bool) → Has (indexed (cond b notes_kept no_table)) column → ⊥
    by_table true k = k
    by_table false k = k

entered : (table : ℕ) (key : ℤ) (version : Version) → StandsAt one_long.tables table key version → HasEntries one_long.tables table key version
entered table key version there column number h = absurd (none_some number (by_table (1 == table) ∙ h))
  where
    by_table : (b : Bool) → None ≡ number_at (indexed (cond b notes_kept no_table)) version.numbers column
    by_table true = refl
    by_table false = refl

rested : IsRested growing one_long
rested = record {
  counted = record { sessions = refl; waits = refl };
  no_lock = refl;
  no_search = refl;
  no_wait = λ s. nobody 17 s;
  no_queue = refl;
  fresh = each_fresh;
  whole = λ number column h. absurd (no_column number column h);
  keyed = record { names = one_name; each = each };
  entered = entered;
  numbered = record { once = λ number. omega arith; given = λ number h. absurd h };
}
  where
    one_name : (i k : ℕ) → i < 1 → k < 1 → (table_at one_long.tables (1 + i)).name ≡ (table_at one_long.tables (1 + k)).name → i ≡ k
    one_name i k a b e = omega (arith, a, b)

    each : (table : StoredTable) → Has one_long.tables table → IsKeyed table
    each table (inl e) = subst IsKeyed e keyed
    each table (inr h) = absurd h

-- ---- until the statement is refused

happen : MayFollow growing 1 1 one_long until_refused
unfolding next
happen = follow_by_test growing 1 1 one_long until_refused refl

before : InOrder growing refused
before =
    let statements : List Statement = Begin ∷ lengthening ∷ Commit ∷ emptying ∷ [] in
    let good : IsProper growing = record { faithful = language_fits.faithful statements; servable = language_fits.servable statements; sound = language_fits.sound } in
    stays_in_order growing 1 1 one_long refused (lines_of_all growing one_long until_refused) good (in_order growing one_long rested)
    (record { events = until_refused; happen = happen; told = refl; ends = refl })

-- ---- without the lock of the key

abbrev told_session : SessionState
told_session = record {
  number = 3;
  inside = true;
  over = false;
  victim = false;
  undo = [];
  notes = [];
  written = [];
  undo_pages = [];
  work = None;
}

abbrev sessions_then : List SessionState
sessions_then = fresh true ∷ told_session ∷ fresh false ∷ replicate 14 (fresh true)

sessions_are : refused.sessions ≡ sessions_then
unfolding next
sessions_are = refl

waits_are : refused.waits ≡ replicate 17 []
unfolding next
waits_are = refl

abbrev locks_then : List Lock
locks_then = table_lock 1 1 IX ∷ key_lock 1 1 (pos 1) X ∷ []

locks_were : refused.locks ≡ locks_then
unfolding next
locks_were = refl

locks_are : unlocked.locks ≡ table_lock 1 1 IX ∷ []
unfolding next
locks_are = refl

-- no session is at work, nor has it anything to undo
record IsStill (session : SessionState) : Type 0 where
  undo : session.undo ≡ []
  notes : session.notes ≡ []
  work : session.work ≡ None

still_then : (s : ℕ) → IsStill (session_at sessions_then s)
still_then zero = record { undo = refl; notes = refl; work = refl }
still_then (suc zero) = record { undo = refl; notes = refl; work = refl }
still_then (suc (suc zero)) = record { undo = refl; notes = refl; work = refl }
still_then (suc (suc (suc s))) = subst IsStill (sym (rest_fresh 14 s)) (record { undo = refl; notes = refl; work = refl })

still : (s : ℕ) → IsStill (session_at refused.sessions s)
still s = subst (λ (sessions : List SessionState). IsStill (session_at sessions s)) (sym sessions_are) (still_then s)

not_at_work : {A : Type 0} (s : ℕ) (work : Work) → (session_at refused.sessions s).work ≡ Some work → A
not_at_work s work h = absurd (none_some work (sym (still s).work ∙ h))

one_waits : (s by : ℕ) → WaitsFor refused.waits s by → ⊥
one_waits s by w = false≢true (ap (λ list. has list by) (sym (ap (λ waits. waits_of waits s) waits_are ∙ nobody 17 s)) ∙ w)

-- what is held without the key was held with it, and locks of tables are the same
more : (lock : Lock) → holds (table_lock 1 1 IX ∷ []) lock ≡ true → holds locks_then lock ≡ true
more lock h = by_first (is_lock lock (table_lock 1 1 IX)) h
  where
    by_first : (b : Bool) → (b || false) ≡ true → (b || (is_lock lock (key_lock 1 1 (pos 1) X) || false)) ≡ true
    by_first true k = refl
    by_first false k = absurd (false≢true k)

both_false : (a b : Bool) → (a && (b && false)) ≡ false
both_false true true = refl
both_false true false = refl
both_false false b = refl

less : (s table : ℕ) (mode : Mode) → holds locks_then (lock_on s table None mode) ≡ true → holds (table_lock 1 1 IX ∷ []) (lock_on s table None mode) ≡ true
less s table mode h = sym (ap (λ b. is_lock (lock_on s table None mode) (table_lock 1 1 IX) || (b || false)) (both_false (s == 1) (table == 1))) ∙ h

held : (lock : Lock) → holds unlocked.locks lock ≡ true → holds refused.locks lock ≡ true
held lock h = subst (λ (locks : List Lock). holds locks lock ≡ true) (sym locks_were) (more lock (subst (λ (locks : List Lock). holds locks lock ≡ true) locks_are h))

kept : (s table : ℕ) (mode : Mode) → holds refused.locks (lock_on s table None mode) ≡ true → holds unlocked.locks (lock_on s table None mode) ≡ true
kept s table mode h =
    subst (λ (locks : List Lock). holds locks (lock_on s table None mode) ≡ true) (sym locks_are)
    (less s table mode (subst (λ (locks : List Lock). holds locks (lock_on s table None mode) ≡ true) locks_were h))

among : (lock : Lock) → Has unlocked.locks lock → Has refused.locks lock
among lock h = subst (λ (locks : List Lock). Has locks lock) (sym locks_were) (by_first (subst (λ (locks : List Lock). Has locks lock) locks_are h))
  where
    by_first : Has (table_lock 1 1 IX ∷ []) lock → Has locks_then lock
    by_first (inl e) = inl e
    by_first (inr k) = absurd k

-- a state in order is in order without the lock
unlocked_in_order : InOrder growing refused → InOrder growing unlocked
unlocked_in_order o = record {
  counted = record { sessions = o.counted.sessions; waits = o.counted.waits };
  whole = o.whole;
  keyed = o.keyed;
  entered = o.entered;
  numbered = o.numbered;
  noted = o.noted;
  one_status = o.one_status;
  named = o.named;
  restorable = o.restorable;
  no_conflict = λ s k table key a b h i. o.no_conflict s k table key a b (held (lock_on s table key a) h) (held (lock_on k table key b) i);
  intended = record {
    shared = λ s table key h. kept s table IS (o.intended.shared s table key (held (lock_on s table (Some key) S) h));
    exclusive = λ s table key h. kept s table IX (o.intended.exclusive s table key (held (lock_on s table (Some key) X) h));
    on_keys = λ s table key mode h. o.intended.on_keys s table key mode (held (lock_on s table (Some key) mode) h);
    searching = λ x h. intention x.search.session x.table (o.intended.searching x h);
  };
  written_locked = record {
    undone = λ s undo h. absurd (subst (λ (us : List UndoEntry). Has us undo) (still s).undo h);
    noted = λ s note h. absurd (subst (λ (ns : List Note). Has ns note) (still s).notes h);
  };
  idle = record {
    nothing = λ s h. nothing_left s (o.idle.nothing s h);
    over = o.idle.over;
    setup_first = o.idle.setup_first;
    setup_outside = o.idle.setup_outside;
  };
  waiting = λ s by w. absurd (one_waits s by w);
  no_cycle = o.no_cycle;
  covered = o.covered;
  known = o.known;
  belongs = o.belongs;
  bound = o.bound;
  table_locked = λ s work h. not_at_work s work h;
  keys_locked = λ s work h. not_at_work s work h;
  scanned = o.scanned;
  standing = o.standing;
  changing = λ s work h quiet unfailed. not_at_work s work h;
  collected = o.collected;
  written = o.written;
  before = o.before;
  paths = o.paths;
}
  where
    intention : (s table : ℕ) → HoldsIntention refused.locks s table → HoldsIntention unlocked.locks s table
    intention s table (inl h) = inl (kept s table IS h)
    intention s table (inr h) = inr (kept s table IX h)

    nothing_left : (s : ℕ) → HasNothing refused.locks refused.searches refused.sessions s → HasNothing unlocked.locks unlocked.searches unlocked.sessions s
    nothing_left s h = record { no_lock = λ lock l. h.no_lock lock (among lock l); no_search = h.no_search; no_undo = h.no_undo; no_note = h.no_note; no_key = h.no_key }

-- an intention is no lock of a key
rests_not : RestsOn growing unlocked 1 2 0 (notes_of long) lengthening → ⊥
rests_not (inl t) = false≢true (sym (ap (λ (locks : List Lock). takes locks 1 t.key 1) locks_are) ∙ t.taken)
rests_not (inr h) = false≢true (sym (ap (λ (locks : List Lock). holds locks (lock_on 1 1 (Some (pos 1)) X)) locks_are) ∙ h)

-- ---- what was told stands by the weaker clause

first : committed unlocked ≡ notes_of long ∷ []
unfolding next
first = refl

tell : answers_in (lines_of_all growing one_long until_refused) ≡ answers_refused
unfolding next digits ok_text full_text end_text deadlock_text state words
tell = refl

-- so nothing that the refused answer could rest on is left
not_at : (place : ℕ) (table : Table) → slice_get (notes_of long ∷ []) place ≡ Some table → RestsOn growing unlocked 1 2 place table lengthening → ⊥
not_at zero table there r = rests_not (subst (λ (t : Table). RestsOn growing unlocked 1 2 0 t lengthening) (sym (some_is (notes_of long) table there)) r)
not_at (suc place) table there r = none_some table there

refusal_rests_not : RestsAt growing unlocked 1 true (notes_of long ∷ []) refused_answer → ⊥
unfolding digits full_text end_text deadlock_text state words
refusal_rests_not h = not_at h.place h.table h.there h.rests

begins_only : (mid : List Table) → Agrees growing.language growing.script false (notes_of long ∷ []) begun_answer mid → mid ≡ notes_of long ∷ []
unfolding digits ok_text full_text end_text deadlock_text state words
begins_only mid h = h.1

stands_not : (left : List Table) → Stand growing unlocked 1 false (notes_of long ∷ []) answers_refused left → ⊥
unfolding ok_text
stands_not left s = refusal_rests_not (subst (λ (tables : List Table). RestsAt growing unlocked 1 true tables refused_answer) (begins_only s.0 s.1) s.3.2)

fails : IsTold growing unlocked 1 answers_refused → ⊥
fails h = stands_not h.left (subst (λ (tables : List Table). Stand growing unlocked 1 false tables answers_refused h.left) first h.stand)

session_is : (s : ℕ) (session : SessionState) → session_at sessions_then s ≡ session → session_at unlocked.sessions s ≡ session
session_is s session is = ap (λ (sessions : List SessionState). session_at sessions s) sessions_are ∙ is

-- nothing was told to a session that hasn't begun
nothing_told : (s : ℕ) (over : Bool) → session_at sessions_then s ≡ fresh over → IsToldUnlocked growing unlocked s []
nothing_told s over is = record {
  own = λ answer h. absurd h;
  inside = sym (ap (λ (session : SessionState). session.inside) (session_is s (fresh over) is));
  begun = tt;
  left = committed unlocked;
  stand = refl;
  seen = λ quiet. sees_committed unlocked s (fresh over) (session_is s (fresh over) is) refl;
}

begins : Agrees growing.language growing.script false (notes_of long ∷ []) begun_answer (notes_of long ∷ [])
unfolding digits ok_text full_text end_text deadlock_text state words
begins = (refl, refl)

refuses : Agrees growing.language growing.script true (notes_of long ∷ []) refused_answer (notes_of long ∷ [])
unfolding digits ok_text full_text end_text deadlock_text state words
refuses = (refl, refl)

begins_alone : AnswerRests growing unlocked 1 false (notes_of long ∷ []) begun_answer
unfolding digits full_text end_text deadlock_text state words
begins_alone = tt

too_large : IsTooLargeUnlocked (notes_of long) lengthening
too_large = record { key = pos 1; row = notes_row long []; there = refl; outgrows = refl }

refused_rests : AnswerRests growing unlocked 1 true (notes_of long ∷ []) refused_answer
unfolding digits full_text end_text deadlock_text state words
refused_rests = record { place = 0; table = notes_of long; place_is = refl; there = refl; rests = inl too_large }

stands : StandUnlocked growing unlocked 1 false (notes_of long ∷ []) answers_refused (notes_of long ∷ [])
unfolding ok_text
stands = (notes_of long ∷ [], begins, begins_alone, (notes_of long ∷ [], refuses, refused_rests, refl))

begun : AreBegun growing answers_refused
unfolding ok_text
begun = refl

refused_told : IsToldUnlocked growing unlocked 1 answers_refused
refused_told = record {
  own = own;
  inside = sym (ap (λ (session : SessionState). session.inside) (session_is 1 told_session refl));
  begun = begun;
  left = notes_of long ∷ [];
  stand = subst (λ (tables : List Table). StandUnlocked growing unlocked 1 false tables answers_refused (notes_of long ∷ [])) (sym first) stands;
  seen = λ quiet. sym first ∙ sees_committed unlocked 1 told_session (session_is 1 told_session refl) refl;
}
  where
    own : (answer : Answer) → Has answers_refused answer → answer.session ≡ 1
    own answer (inl e) = ap (λ (a : Answer). a.session) (sym e)
    own answer (inr (inl e)) = ap (λ (a : Answer). a.session) (sym e)
    own answer (inr (inr h)) = absurd h

told : (s : ℕ) → IsToldUnlocked growing unlocked s (pending_refused s)
told zero = nothing_told 0 true refl
told (suc zero) = refused_told
told (suc (suc zero)) = nothing_told 2 false refl
told (suc (suc (suc s))) =
    subst (λ (answers : List Answer). IsToldUnlocked growing unlocked (suc (suc (suc s))) answers)
    (sym (ap (λ b. cond b answers_refused (cond b (begun_answer ∷ []) [])) (apart_back (suc (suc (suc s))) 1 (omega arith))))
    (nothing_told (suc (suc (suc s))) true (rest_fresh 14 s))

-- none of its answers is an end
ended : EndsAll growing.language growing.script (committed one_long) none_pending answers_refused (committed unlocked) pending_refused
unfolding next digits ok_text full_text end_text deadlock_text state words
ended = (committed one_long, becoming none_pending 1 (begun_answer ∷ []), (refl, λ k. refl), (committed one_long, pending_refused, (refl, λ k. refl), (refl, refl)))

-- ---- another session makes the row small

goes_on : MayFollow growing 1 1 unlocked until_committed
unfolding next
goes_on = follow_by_test growing 1 1 unlocked until_committed refl

afterwards : committed (after_all growing unlocked until_emptied) ≡ notes_of [] ∷ []
unfolding next
afterwards = refl

agrees : replayed growing.language growing.script false (notes_of long ∷ []) answers_refused ≡ Some (notes_of long ∷ [])
unfolding next digits ok_text full_text end_text deadlock_text state words
agrees = refl

agrees_no_more : replayed growing.language growing.script false (notes_of [] ∷ []) answers_refused ≡ None
unfolding next digits ok_text full_text end_text deadlock_text state words
agrees_no_more = refl

answered : texts_in answers_unlocked ≡ codes "OK" ∷ codes "ERR 9011 HY000 row too large" ∷ codes "OK 1 rows" ∷ codes "OK" ∷ []
unfolding next digits ok_text full_text end_text deadlock_text state words
answered = refl

not_serial : serial_from growing.language growing.script (committed one_long) none_pending answers_unlocked ≡ None
unfolding next digits ok_text full_text end_text deadlock_text state words
not_serial = refl

pub rests_is_needed : RestsIsNeeded
rests_is_needed = record {
  happen = happen;
  tell = tell;
  before = before;
  in_order = unlocked_in_order before;
  on_course = λ s work h quiet. not_at_work s work h;
  ended = ended;
  weaker = told;
  fails = fails;
  goes_on = goes_on;
  first = first;
  agrees = agrees;
  afterwards = afterwards;
  agrees_no_more = agrees_no_more;
  answered = answered;
  not_serial = not_serial;
}
