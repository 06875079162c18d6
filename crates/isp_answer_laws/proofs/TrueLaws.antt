-- An answer is what the statement does on the tables that its session saw as it began.
use Rattle.std.proofs.Common.{◌≡◌, ◌⊎◌, ◌∙◌, inl, inr, refl, sym, ap, subst, ℕ, suc, ℤ, ◌==◌, ◌&&◌, Bool, true, false, not, cond, Option, Some, None, List, [], ◌∷◌, ◌++◌, drop, length, map, slice_get, le_refl, drop_of_length-le, eqb-true, eq-eqb, is_some, arith}
use Rattle.std.proofs.lemmas.List.{length-map}
use Rattle.std.specs.Prelude.{filter, filter_map, find, nat_lt, slice_set, MatchBool}
use Rattle.std.specs.List.{cons_option, list_any}
use Rattle.std.specs.Map.{values_of}
use Rattle.std.specs.Option.{option_map, option_or}
use Rattle.std.proofs.lemmas.Bool.{false≢true}
use Rattle.isp_base.specs.Lists.{Has}
use Rattle.isp_laws.proofs.ListLaws.{Has-map, Has-map_of, Source}
use Rattle.isp_mbr.specs.declared.predicate.Predicate.{Predicate}
use Rattle.isp_reclock.specs.declared.modes.Mode.{Mode}
use Rattle.isp_reclock.specs.declared.modes.Mode.TheVariants.{S, X}
use Rattle.isp_reclock.specs.Tables.{takes}
use Rattle.isp_plain.specs.declared.refusal.Refusal.TheVariants.{DuplicateKey, FileFull, RowTooLarge}
use Rattle.isp_plain.specs.declared.statement.Assign.{Assign}
use Rattle.isp_plain.specs.declared.statement.Condition.{Condition}
use Rattle.isp_plain.specs.declared.statement.Reply.{Reply}
use Rattle.isp_plain.specs.declared.statement.Reply.TheVariants as reply
use Rattle.isp_plain.specs.declared.statement.Statement.{Statement}
use Rattle.isp_plain.specs.declared.statement.Statement.TheVariants.{Create, Insert, Select, Update, Delete, Begin, Commit, Rollback, Refused}
use Rattle.isp_plain.specs.declared.value.Row.{Row}
use Rattle.isp_plain.specs.declared.value.Schema.{Schema}
use Rattle.isp_plain.specs.Conditions.{holds}
use Rattle.isp_plain.specs.Does.{Change as TableChange, Outcome, changed_at, changed_in, count_of, cut, delete, does, insert, insert_or, outgrows, place_of, refused, select_reply, selected, table_at as plain_at, update, updated, with_sets}
use Rattle.isp_plain.specs.Entries.{first_duplicate, has_key, with_row, with_rows}
use Rattle.isp_plain.specs.RowBytes.{row_bytes, row_limit}
use Rattle.isp_plain.specs.Tables.{Table, definition_of}
use Rattle.isp_plain.specs.Values.{key_of}
use Rattle.isp_changes.specs.Rows.{AreRising, AreRisingTables, last_with, row_at, unless}
use Rattle.isp_changes.specs.Changes.{is_held, row_in}
use Rattle.isp_changes.specs.RowLaws.{HasRows}
use Rattle.isp_changes.proofs.ChangeProofs.{rising_set, set_get}
use Rattle.isp_changes.proofs.RowProofs.{rows_kept, rows_mapped, rows_with_rows}
use Rattle.isp_changes.proofs.TableProofs.{same_tables}
use Rattle.isp_events.specs.Stored.{present, row_of, table_at}
use Rattle.isp_events.specs.Sessions.{Change, Failure, duplicate, too_large, file_full, Image, answering, writing, SessionState, UndoEntry, Work, adding, change_of, changes_of, outgrows_by, session_at}
use Rattle.isp_events.specs.State.{State, TreeSearch}
use Rattle.isp_events.specs.Views.{beginning_view, committed_row, first_image, has_written, is_of_key, length_at_beginning, row_or, statement_undo, view, view_at, view_at_beginning}
use Rattle.isp_events.specs.Ways.{Machine, Way, by_key, by_box, by_scan}
use Rattle.isp_events.specs.Next.{failure_reply, key_mode, reply_of, rows_read, table_mode}
use Rattle.isp_events.specs.Writing.{ascend}
use Rattle.isp_events.specs.Events.{full_reply}
use Rattle.isp_order.specs.Locks.{Holds, without_rows}
use Rattle.isp_order.specs.Work.{AreApart, AreSought, AreSoughtBy, HasChanged, IsBound, IsChanging, IsReadLocked, IsServed, IsUndoOf, changes_by, changes_done, is_before_writing, keys_changed, keys_sought, keys_undone, table_name, undo_since, way_of}
use Rattle.isp_order.specs.InOrder.{InOrder, IsProper}
use Rattle.isp_order_locks.proofs.LockLists.{takes_key, takes_table}
use Rattle.isp_order_one.proofs.ImageLaws.{is_own_key, none_of_key, of_key_parts}
use Rattle.isp_causes.specs.Causes.{GoesOn, IsAtFirst}
use Rattle.isp_causes.proofs.EventCases.{means_without_rows}
use Rattle.isp_replies.specs.Replies.{AnswersFirst, RepliesDone, RepliesFailed, RepliesFirst}
use Rattle.isp_locality.proofs.RowLocal.{any_at, any_both}
use Rattle.isp_locality.proofs.TableLocal.{definitions_set, row_elsewhere, row_here, with_rows_at}
use Rattle.isp_answers.specs.Course.{AreOnCourse, HasDuplicate, HasTooLarge, IsOnCourse, is_insert, saw}
use Rattle.isp_answers.specs.Told.{AreTaken, IsReadBy, IsSearched, IsTooLarge, Rests, RestsIn, RestsOn}
use Rattle.isp_answers.proofs.RestedLaws.{same_seen}
use Rattle.isp_views.specs.Views.{IsShown, definition_at}
use Rattle.isp_views.proofs.ViewLaws.{are_shown, found_in, has_dropped, sight_shown}
use Rattle.isp_views.proofs.MovedLaws.{begun_is}
use Rattle.isp_course.proofs.ReadLaws.{IsItsSearch, all_sought, its_search, read_is_view}
use Rattle.isp_course.proofs.CourseLaws.{done_taken}
use Rattle.isp_course.proofs.CourseParts.{keys_of_adding}
use Rattle.isp_answer_laws.specs.TrueAnswers.{AnswersAreTrue, IsTrueAnswer}
use Rattle.isp_answer_laws.proofs.NamedLaws.{IsTableOf, its_table}
use Rattle.isp_answer_laws.proofs.PairLaws.{count_delete, count_update, duplicate_found, last_is, last_none, no_duplicate, none_read, put_rises, read_passes, there_later}

some_is : {X : Type 0} (x y : X) → Some x ≡ Some y → x ≡ y
some_is x y h = cc

none_some : {X : Type 0} (x : X) → None ≡ Some x → ⊥
none_some x h = cc

-- what the statement answers and leaves on the tables seen, and what that rests on
pub record IsReply (m : Machine) (state : State) (s : ℕ) (statement : Statement) (reply : Reply) : Type 0 where
  pub reply_is : (does (beginning_view state s) statement).reply ≡ reply
  pub tables_are : (does (beginning_view state s) statement).tables ≡ view state s
  pub rests : Rests m state s (session_at state.sessions s).number (beginning_view state s) statement

-- ---- undo entries

none_of : (us : List UndoEntry) → keys_undone us ≡ [] → us ≡ []
none_of [] h = refl
none_of (u ∷ us) h = let no : ⊥ = cc in absurd no

image_there : (us : List UndoEntry) (t : ℕ) (key : ℤ) (u : UndoEntry) → Has us u → u.table ≡ t → u.key ≡ key → first_image us t key ≡ None → ⊥
image_there [] t key u h table is none = h
image_there (x ∷ us) t key u h table is none = by_test (is_of_key t key x) refl none h (λ i. image_there us t key u i table is)
  where
    by_test : (b : Bool) → is_of_key t key x ≡ b → option_map (λ (v : UndoEntry). v.image) (cond b (Some x) (find (is_of_key t key) us)) ≡ None → (x ≡ u) ⊎ Has us u
        → (Has us u → first_image us t key ≡ None → ⊥) → ⊥
    by_test true e k i again = none_some x.image (sym k)
    by_test false e k (inr i) again = again i k
    by_test false e k (inl i) again = false≢true (sym e ∙ is_own_key t key x (ap (λ (v : UndoEntry). v.table) i ∙ table) (ap (λ (v : UndoEntry). v.key) i ∙ is))

written_there : (us : List UndoEntry) (t : ℕ) (key : ℤ) (u : UndoEntry) → Has us u → u.table ≡ t → u.key ≡ key → is_some (find (is_of_key t key) us) ≡ true
written_there us t key u h table is = by_found (find (is_of_key t key) us) refl
  where
    by_found : (x : Option UndoEntry) → find (is_of_key t key) us ≡ x → is_some x ≡ true
    by_found None e = absurd (image_there us t key u h table is (ap (option_map (λ (v : UndoEntry). v.image)) e))
    by_found (Some v) e = refl

-- ---- keys that are taken

all_taken : (state : State) (s table : ℕ) (entries : List (ℤ × Row)) (rows : List Row) → ((row : Row) → Has rows row → takes state.locks table (key_of row) s ≡ true) → AreTaken state s table entries rows
all_taken state s table entries [] h = tt
all_taken state s table entries (row ∷ rows) h =
    (h row (inl refl), by_there (has_key entries (key_of row)) (all_taken state s table (with_row entries (key_of row) row) rows (λ other has. h other (inr has))))
  where
    by_there : (b : Bool) → AreTaken state s table (with_row entries (key_of row) row) rows → MatchBool b (Unit {0}) (AreTaken state s table (with_row entries (key_of row) row) rows)
    by_there true k = tt
    by_there false k = k

-- up to a row whose key is there
taken_until : (state : State) (s table : ℕ) (entries : List (ℤ × Row)) (earlier : List Row) (row : Row) (rest : List Row) → AreRising entries → AreApart (map key_of earlier)
    → ((other : Row) → Has earlier other → takes state.locks table (key_of other) s ≡ true) → takes state.locks table (key_of row) s ≡ true
    → (row_at entries (key_of row) ≡ None → ⊥) ⊎ Has (map key_of earlier) (key_of row) → AreTaken state s table entries (earlier ++ row ∷ rest)
taken_until state s table entries [] row rest rises apart each taken (inr h) = absurd h
taken_until state s table entries [] row rest rises apart each taken (inl there) = (taken, by_row (row_at entries (key_of row)) refl)
  where
    by_row : (x : Option Row) → row_at entries (key_of row) ≡ x → MatchBool (is_some x) (Unit {0}) (AreTaken state s table (with_row entries (key_of row) row) rest)
    by_row None e = absurd (there e)
    by_row (Some y) e = tt
taken_until state s table entries (first ∷ earlier) row rest rises apart each taken there = (
  each first (inl refl),
  by_there (has_key entries (key_of first))
      (taken_until state s table (with_row entries (key_of first) first) earlier row rest (put_rises entries first rises) apart.1 (λ other has. each other (inr has)) taken (there_later entries first earlier row rises there)),
)
  where
    by_there : (b : Bool) → AreTaken state s table (with_row entries (key_of first) first) (earlier ++ row ∷ rest)
        → MatchBool b (Unit {0}) (AreTaken state s table (with_row entries (key_of first) first) (earlier ++ row ∷ rest))
    by_there true k = tt
    by_there false k = k

-- ---- changes made of what was read

-- a change of UPDATE or DELETE, by its row
pub record IsChangeOf (statement : Statement) (read : List (ℤ × Option Row)) (change : Change) : Type 0 where
  pub row : Row
  pub has : Has {X = ℤ × Option Row} read (change.key, Some row)
  pub held : is_held statement row ≡ true
  pub change_is : change_of statement change.key (Some row) ≡ Some change

changed_from : (statement : Statement) (read : List (ℤ × Option Row)) (change : Change) → Has (changes_of statement read) change → IsChangeOf statement read change
changed_from statement [] change h = absurd h
changed_from statement (r ∷ read) change h = by_change (change_of statement r.0 r.1) refl (changed_from statement read change) h
  where
    later : IsChangeOf statement read change → IsChangeOf statement (r ∷ read) change
    later c = record { row = c.row; has = inr c.has; held = c.held; change_is = c.change_is }

    pair_is : (a b : ℤ) (c d : Option Row) → a ≡ b → c ≡ d → ◌≡◌ {A = ℤ × Option Row} (a, c) (b, d)
    pair_is a b c d p q i = (p i, q i)

    by_row : (o : Option Row) (c : Change) → r.1 ≡ o → change_of statement r.0 o ≡ Some c → c ≡ change → IsChangeOf statement (r ∷ read) change
    by_row None c e f is = absurd (none_some c f)
    by_row (Some row) c e f is = by_statement statement refl f
      where
        made : (st : Statement) → st ≡ statement → is_held st row ≡ true → change_of st r.0 (Some row) ≡ Some change → r.0 ≡ change.key → IsChangeOf statement (r ∷ read) change
        made st same held g key = record {
          row = row;
          has = inl (pair_is r.0 change.key r.1 (Some row) key e);
          held = ap (λ x. is_held x row) (sym same) ∙ held;
          change_is = ap (λ k. change_of statement k (Some row)) (sym key) ∙ ap (λ x. change_of x r.0 (Some row)) (sym same) ∙ g;
        }

        by_test : (st : Statement) → st ≡ statement → (b : Bool) (x : Change) → x.key ≡ r.0 → is_held st row ≡ b → change_of st r.0 (Some row) ≡ cond b (Some x) None
            → change_of st r.0 (Some row) ≡ Some c → IsChangeOf statement (r ∷ read) change
        by_test st same true x key held g k =
            let here : x ≡ change = some_is x change (sym g ∙ k ∙ ap (λ y. Some y) is) in
            made st same held (k ∙ ap (λ y. Some y) is) (sym key ∙ ap (λ (y : Change). y.key) here)
        by_test st same false x key held g k = absurd (none_some c (sym g ∙ k))

        by_statement : (st : Statement) → st ≡ statement → change_of st r.0 (Some row) ≡ Some c → IsChangeOf statement (r ∷ read) change
        by_statement (Update name sets w) same k =
            by_test (Update name sets w) same (holds w row) (record { key = r.0; old = Some row; new = Some (with_sets sets row) }) refl refl refl k
        by_statement (Delete name w) same k = by_test (Delete name w) same (holds w row) (record { key = r.0; old = Some row; new = None }) refl refl refl k
        by_statement (Select name columns w) same k = absurd (none_some c k)
        by_statement (Insert name rows) same k = absurd (none_some c k)
        by_statement (Create name schema) same k = absurd (none_some c k)
        by_statement Begin same k = absurd (none_some c k)
        by_statement Commit same k = absurd (none_some c k)
        by_statement Rollback same k = absurd (none_some c k)
        by_statement (Refused refusal) same k = absurd (none_some c k)

    by_change : (o : Option Change) → change_of statement r.0 r.1 ≡ o → (Has (changes_of statement read) change → IsChangeOf statement read change)
        → Has (cons_option o (changes_of statement read)) change → IsChangeOf statement (r ∷ read) change
    by_change None e again k = later (again k)
    by_change (Some c) e again (inl is) = by_row r.1 c refl e is
    by_change (Some c) e again (inr k) = later (again k)

-- a row that was read and holds makes a change
changed_has : (statement : Statement) (read : List (ℤ × Option Row)) (key : ℤ) (row : Row) (change : Change) → Has {X = ℤ × Option Row} read (key, Some row)
    → change_of statement key (Some row) ≡ Some change → Has (changes_of statement read) change
changed_has statement [] key row change h is = absurd h
changed_has statement (r ∷ read) key row change (inl e) is =
    subst (λ o. Has (cons_option o (changes_of statement read)) change) (sym (ap (λ (p : ℤ × Option Row). change_of statement p.0 p.1) e ∙ is)) (inl refl)
changed_has statement (r ∷ read) key row change (inr h) is = by_change (change_of statement r.0 r.1) (changed_has statement read key row change h is)
  where
    by_change : (o : Option Change) → Has (changes_of statement read) change → Has (cons_option o (changes_of statement read)) change
    by_change None k = k
    by_change (Some c) k = inr k

select_none : (name : List ℕ) (columns : List ℕ) (w : Condition) (read : List (ℤ × Option Row)) → changes_of (Select name columns w) read ≡ []
select_none name columns w [] = refl
select_none name columns w (r ∷ read) = ap (λ o. cons_option o (changes_of (Select name columns w) read)) (by_row r.1) ∙ select_none name columns w read
  where
    by_row : (o : Option Row) → change_of (Select name columns w) r.0 o ≡ None
    by_row None = refl
    by_row (Some row) = refl

module _ (m : Machine) (state : State) (good : IsProper m) (o : InOrder m state) (course : AreOnCourse state) (s : ℕ) where
  abbrev session : SessionState
  session = session_at state.sessions s

  abbrev seen_tables : List Table
  seen_tables = beginning_view state s

  -- where the statement has written nothing, the session sees what it saw
  unwritten : (t : ℕ) (key : ℤ) → first_image (statement_undo session) t key ≡ None → view_at_beginning state s t key ≡ view_at state s t key
  unwritten t key none = ap (λ i. row_or i (view_at state s t key)) none

  pub nothing_written : statement_undo session ≡ [] → seen_tables ≡ view state s
  nothing_written none = same_seen (view_at_beginning state s) (view_at state s) state.tables (λ t key. unwritten t key (ap (λ us. first_image us t key) none))

  -- ---- a statement that reads no table

  first_true : (reply : Reply) (ends : Bool) → RepliesFirst m state s session reply ends → IsTrueAnswer m state s reply
  first_true reply ends r = record {
    text = r.first.text;
    text_is = r.first.text_is;
    statement = r.statement;
    means = means_without_rows m state good o s r.statement session r.first;
    reply_is = by_reply r.statement r.answers;
    tables_are = by_tables r.statement r.answers ∙ nothing_written none;
    rests = by_rests r.statement r.answers;
  }
    where
      none : statement_undo session ≡ []
      none = ap (λ w. drop (length_at_beginning session w) session.undo) r.first.no_work ∙ drop_of_length-le session.undo (le_refl (length session.undo))

      by_reply : (st : Statement) → AnswersFirst session st reply ends → (does seen_tables st).reply ≡ reply
      by_reply (Refused refusal) h = sym h.0
      by_reply Begin h = sym h.0
      by_reply Commit h = sym h.0
      by_reply Rollback h = sym h.0
      by_reply (Create name schema) h = absurd h
      by_reply (Insert name rows) h = absurd h
      by_reply (Select name columns w) h = absurd h
      by_reply (Update name sets w) h = absurd h
      by_reply (Delete name w) h = absurd h

      by_tables : (st : Statement) → AnswersFirst session st reply ends → (does seen_tables st).tables ≡ seen_tables
      by_tables (Refused refusal) h = refl
      by_tables Begin h = refl
      by_tables Commit h = refl
      by_tables Rollback h = refl
      by_tables (Create name schema) h = absurd h
      by_tables (Insert name rows) h = absurd h
      by_tables (Select name columns w) h = absurd h
      by_tables (Update name sets w) h = absurd h
      by_tables (Delete name w) h = absurd h

      by_rests : (st : Statement) → AnswersFirst session st reply ends → Rests m state s session.number seen_tables st
      by_rests (Refused refusal) h = tt
      by_rests Begin h = tt
      by_rests Commit h = tt
      by_rests Rollback h = tt
      by_rests (Create name schema) h = absurd h
      by_rests (Insert name rows) h = absurd h
      by_rests (Select name columns w) h = absurd h
      by_rests (Update name sets w) h = absurd h
      by_rests (Delete name w) h = absurd h

  -- ---- a statement at work

  module _ (work : Work) (at : session.work ≡ Some work) (undisturbed : session.victim ≡ false) where
    bound : IsBound m state.tables s session work
    bound = o.bound s work at

    on : IsTableOf state s work
    on = its_table m state o s work at

    c : IsOnCourse state s work
    c = course s work at undisturbed

    -- a change of the one table
    changes_as : (statement : Statement) (change : Table → TableChange) → table_name work.statement ≡ table_name statement
        → does seen_tables statement ≡ changed_in seen_tables (place_of seen_tables (table_name statement)) change
        → does seen_tables statement ≡ record { reply = (change on.table).reply; tables = slice_set seen_tables on.place (change on.table).table }
    changes_as statement change name is =
        is ∙ ap (λ p. changed_in seen_tables p change) (ap (place_of seen_tables) (sym name) ∙ on.place_is) ∙ ap (λ t. changed_at seen_tables on.place change t) on.there

    refused_leaves : slice_set seen_tables on.place on.table ≡ seen_tables
    refused_leaves = set_get seen_tables on.place on.table on.there

    -- its keys, all of one table
    since_table : (t : ℕ) (key : ℤ) → (t == work.table) ≡ false → first_image (statement_undo session) t key ≡ None
    since_table t key ne = none_of_key (statement_undo session) t key (λ u h. by_test u h (is_of_key t key u) refl)
      where
        by_test : (u : UndoEntry) → Has (statement_undo session) u → (b : Bool) → is_of_key t key u ≡ b → b ≡ false
        by_test u h true e =
            let of : u.table ≡ work.table = (o.written s work at undisturbed).of_table u (subst (λ (us : List UndoEntry). Has us u) (begun_is m state good o session work at) h) in
            absurd (false≢true (sym ne ∙ eq-eqb t work.table (sym (of_key_parts t key u e).0 ∙ of)))
        by_test u h false e = refl

    -- the tables with these rows are what it sees now
    becomes : (rows : List (ℤ × Row)) → AreRising rows → ((key : ℤ) → row_at rows key ≡ view_at state s work.table key) → with_rows_at seen_tables on.place on.table rows ≡ view state s
    becomes rows rises same =
        let shown : IsShown state.tables (view_at_beginning state s) seen_tables = (are_shown m state o).views_shown s in
        let sight : IsShown state.tables (view_at state s) (view state s) = sight_shown m state o s in
        same_tables (with_rows_at seen_tables on.place on.table rows) (view state s) (rising_set seen_tables on.place (record on.table { rows = rows }) shown.rise rises) sight.rise
        (definitions_set seen_tables on.place on.table (record on.table { rows = rows }) on.there refl ∙ shown.definitions ∙ sym sight.definitions)
        (λ p key. by_place p key (p == on.place) refl ∙ sym (sight.each p key))
      where
        by_place : (p : ℕ) (key : ℤ) (b : Bool) → (p == on.place) ≡ b → row_in (with_rows_at seen_tables on.place on.table rows) p key ≡ view_at state s (suc p) key
        by_place p key true e =
            let is : p ≡ on.place = eqb-true p on.place e in
            ap (λ q. row_in (with_rows_at seen_tables on.place on.table rows) q key) is ∙ row_here seen_tables on.place on.table rows key on.there ∙ same key
            ∙ ap (λ n. view_at state s n key) (sym on.number ∙ ap suc (sym is))
        by_place p key false e =
            row_elsewhere seen_tables on.place on.table rows p key e ∙ ((are_shown m state o).views_shown s).each p key
            ∙ unwritten (suc p) key (since_table (suc p) key (apart p e))
          where
            apart : (q : ℕ) → (q == on.place) ≡ false → (suc q == work.table) ≡ false
            apart q ne = by_test (suc q == work.table) refl
              where
                by_test : (b : Bool) → (suc q == work.table) ≡ b → b ≡ false
                by_test true f =
                    let is : suc q ≡ work.table = eqb-true (suc q) work.table f in
                    let number : suc on.place ≡ work.table = on.number in
                    let same_place : q ≡ on.place = omega (arith, is, number) in
                    absurd (false≢true (sym ne ∙ eq-eqb q on.place same_place))
                by_test false f = refl

    -- ---- what it rests on

    mode_of : (statement : Statement) (k : Option ℤ) (mode : Mode) → key_mode work.statement ≡ mode → Holds state.locks s work.table k (key_mode work.statement) → Holds state.locks s work.table k mode
    mode_of statement k mode is h = subst (λ md. Holds state.locks s work.table k md) is h

    reads_by : (mode : Mode) → key_mode work.statement ≡ mode → is_before_writing work.phase ≡ false → is_insert work.statement ≡ false
        → IsReadBy state s session.number work.table mode (way_of m.ways state.tables work)
    reads_by mode is writes not_insert = by_way (way_of m.ways state.tables work) refl (o.keys_locked s work at).locked (o.table_locked s work at) sought
      where
        sought : AreSought state.searches s session.number work (way_of m.ways state.tables work)
        sought = by_statement work.statement not_insert (o.keys_locked s work at).sought
          where
            by_statement : (st : Statement) → is_insert st ≡ false → AreSoughtBy state.searches s session.number work (way_of m.ways state.tables work) st
                → AreSought state.searches s session.number work (way_of m.ways state.tables work)
            by_statement (Insert name rows) e h = absurd (false≢true (sym e))
            by_statement (Select name columns w) e h = h
            by_statement (Create name schema) e h = h
            by_statement (Update name sets w) e h = h
            by_statement (Delete name w) e h = h
            by_statement Begin e h = h
            by_statement Commit e h = h
            by_statement Rollback e h = h
            by_statement (Refused refusal) e h = h

        read_key : (key : ℤ) → Has (map (λ r. r.0) work.read) key → (row : Option Row) × Has {X = ℤ × Option Row} work.read (key, row)
        read_key key h =
            let src : Source {X = ℤ × Option Row} (λ r. r.0) work.read key = Has-map {X = ℤ × Option Row} (λ r. r.0) work.read key h in
            (src.x.1, subst (λ k. Has {X = ℤ × Option Row} work.read (k, src.x.1)) src.is src.has)

        by_table : (st : Statement) → is_insert st ≡ false → Holds state.locks s work.table None (table_mode st by_scan) → Holds state.locks s work.table None S ⊎ Holds state.locks s work.table None X
        by_table (Insert name rows) e h = absurd (false≢true (sym e))
        by_table (Select name columns w) e h = inl h
        by_table (Create name schema) e h = inr h
        by_table (Update name sets w) e h = inr h
        by_table (Delete name w) e h = inr h
        by_table Begin e h = inr h
        by_table Commit e h = inr h
        by_table Rollback e h = inr h
        by_table (Refused refusal) e h = inr h

        by_way : (way : Way) → way_of m.ways state.tables work ≡ way
            → ((key : ℤ) (row : Option Row) → Has {X = ℤ × Option Row} work.read (key, row) → IsReadLocked state.locks s work (way_of m.ways state.tables work) key)
            → Holds state.locks s work.table None (table_mode work.statement (way_of m.ways state.tables work))
            → AreSought state.searches s session.number work (way_of m.ways state.tables work) → IsReadBy state s session.number work.table mode way
        by_way (by_key key) e locked table sought' =
            let only : keys_sought work ≡ key ∷ [] = subst (λ way. AreSought state.searches s session.number work way) e sought' in
            let r = read_key key (subst (λ keys. Has keys key) (sym only ∙ all_sought work writes) (inl refl)) in
            subst (λ md. Holds state.locks s work.table (Some key) md) is (subst (λ way. IsReadLocked state.locks s work way key) e (locked key r.0 r.1))
        by_way (by_box column predicate) e locked table sought' =
            let x : IsItsSearch m state good o s work column predicate =
            its_search m state good o s work at writes column predicate e (subst (λ way. AreSought state.searches s session.number work way) e sought') in
            record {
              search = x.search;
              among = x.among;
              of = x.of;
              of_table = x.of_table;
              of_column = x.of_column;
              same_predicate = x.same_predicate;
              done = x.done;
              each = λ key h. (let r = read_key key (x.found key h) in
                  subst (λ md. Holds state.locks s work.table (Some key) md) is (subst (λ way. IsReadLocked state.locks s work way key) e (locked key r.0 r.1)));
            }
        by_way by_scan e locked table sought' = by_table work.statement not_insert (subst (λ way. Holds state.locks s work.table None (table_mode work.statement way)) e table)

    -- what a statement rests on, by its way and number
    rests_by : (name : List ℕ) (statement : Statement) → work.statement ≡ statement → table_name statement ≡ name
        → RestsOn m state s session.number on.place on.table statement → RestsIn m state s session.number seen_tables name statement
    rests_by name statement is named h = record {
      place = on.place;
      table = on.table;
      place_is = ap (place_of seen_tables) (sym named ∙ ap table_name (sym is)) ∙ on.place_is;
      there = on.there;
      rests = h;
    }

    way_here : (statement : Statement) → work.statement ≡ statement → (mode : Mode) → IsReadBy state s session.number work.table mode (way_of m.ways state.tables work)
        → IsReadBy state s session.number (suc on.place) mode (m.ways on.table.schema statement)
    way_here statement is mode h =
        subst (λ n. IsReadBy state s session.number n mode (m.ways on.table.schema statement)) (sym on.number)
        (subst (λ (x : Schema). IsReadBy state s session.number work.table mode (m.ways x statement)) (sym on.schema)
        (subst (λ st. IsReadBy state s session.number work.table mode (m.ways (table_at state.tables work.table).schema st)) is h))

    -- ---- a statement that has done all

    module _ (done : List Change) (phase : work.phase ≡ answering done) (unfailed : work.failure ≡ None) where
      changed : HasChanged state.tables work done
      changed = subst (IsChanging state.tables state.locks s work) phase (o.changing s work at undisturbed unfailed)

      writes : is_before_writing work.phase ≡ false
      writes = ap is_before_writing phase

      undone : keys_undone (undo_since session work) ≡ keys_changed done
      undone = subst (λ f. IsUndoOf f (keys_undone (undo_since session work)) (keys_changed (changes_done work.phase))) unfailed (o.written s work at undisturbed).undo
          ∙ ap keys_changed (ap changes_done phase)

      up : ascend (map (λ r. r.0) work.read) ≡ true
      up = ap ascend (sym (all_sought work writes)) ∙ (o.keys_locked s work at).rising

      -- a key that it wrote has its change, and one that it didn't is seen as it was
      by_written : (key : ℤ) → (view_at_beginning state s work.table key ≡ view_at state s work.table key) × ((change : Change) → Has done change → change.key ≡ key → ⊥)
          ⊎ ((change : Change) × Has done change × (change.key ≡ key) × (view_at state s work.table key ≡ change.new))
      by_written key = by_image (first_image (undo_since session work) work.table key) refl
        where
          by_image : (i : Option Image) → first_image (undo_since session work) work.table key ≡ i
              → (view_at_beginning state s work.table key ≡ view_at state s work.table key) × ((change : Change) → Has done change → change.key ≡ key → ⊥)
              ⊎ ((change : Change) × Has done change × (change.key ≡ key) × (view_at state s work.table key ≡ change.new))
          by_image None e = inl (unwritten work.table key (ap (λ us. first_image us work.table key) (begun_is m state good o session work at) ∙ e), λ change has is. none_here change has is)
            where
              none_here : (change : Change) → Has done change → change.key ≡ key → ⊥
              none_here change has is =
                  let among : Has (keys_undone (undo_since session work)) key =
                  subst (λ (ks : List ℤ). Has ks key) (sym undone) (subst (λ k. Has (keys_changed done) k) is (Has-map_of (λ (x : Change). x.key) done change has)) in
                  let src : Source (λ (u : UndoEntry). u.key) (undo_since session work) key = Has-map (λ (u : UndoEntry). u.key) (undo_since session work) key among in
                  image_there (undo_since session work) work.table key src.x src.has ((o.written s work at undisturbed).of_table src.x src.has) src.is e
          by_image (Some image) e =
              let f = found_in m state o (undo_since session work) work.table key image e in
              let has : Has (keys_changed done) key = subst (λ (ks : List ℤ). Has ks key) undone (subst (λ k. Has (keys_undone (undo_since session work)) k) f.3 (Has-map_of (λ (x : UndoEntry). x.key) (undo_since session work) f.0 f.1)) in
              let src : Source (λ (x : Change). x.key) done key = Has-map (λ (x : Change). x.key) done key has in
              let wrote : has_written session work.table key ≡ true =
              written_there session.undo work.table key f.0 (has_dropped m state o work.begun session.undo f.0 f.1) f.2 f.3 in
              inr (
                src.x,
                src.has,
                src.is,
                ap (λ b. cond b (row_of (present (table_at state.tables work.table) key)) (committed_row state work.table key)) wrote
                    ∙ ap (λ k. row_of (present (table_at state.tables work.table) k)) (sym src.is) ∙ changed.made src.x src.has,
              )

      same_rows_seen : (w : Condition) → ((row : Row) → is_held work.statement row ≡ holds w row) → filter (holds w) (rows_read work.read) ≡ filter (holds w) (values_of on.table.rows)
      same_rows_seen w is =
          read_passes (holds w) work.read on.table.rows up on.rises (λ key row has. on.row key ∙ read_is_view m state good o s work at undisturbed key row has)
          (λ key row sees test. c.complete unfailed writes key row (sym (on.row key) ∙ sees) (is row ∙ test))

      -- what UPDATE, DELETE leave of a row that they didn't change
      not_changed : (statement : Statement) → work.statement ≡ statement → done ≡ changes_of statement work.read → (key : ℤ) (row : Row) (change : Change) → saw state s work key ≡ Some row
          → is_held statement row ≡ true → change_of statement key (Some row) ≡ Some change → Has done change
      not_changed statement is all key row change sees held made =
          subst (λ (xs : List Change). Has xs change) (sym all)
          (changed_has statement work.read key row change (c.complete unfailed writes key row sees (ap (λ st. is_held st row) is ∙ held)) made)

      select_true : (name : List ℕ) (columns : List ℕ) (w : Condition) → work.statement ≡ Select name columns w → IsReply m state s (Select name columns w) (reply_of (Select name columns w) work.read done)
      select_true name columns w is = record {
        reply_is = ap (λ t. select_reply t columns w) (ap (plain_at seen_tables) (ap (place_of seen_tables) (sym (ap table_name is)) ∙ on.place_is) ∙ on.there)
            ∙ ap (λ rows. reply.Rows (map (cut columns) rows)) (sym (same_rows_seen w (λ row. ap (λ st. is_held st row) is)));
        tables_are = nothing_written (begun_is m state good o session work at ∙ none_of (undo_since session work) (undone ∙ ap keys_changed (changed.all ∙ ap (λ st. changes_by st work.read) is ∙ select_none name columns w work.read)));
        rests = rests_by name (Select name columns w) is refl (way_here (Select name columns w) is S (reads_by S (ap key_mode is) writes (ap is_insert is)));
      }

      update_true : (name : List ℕ) (sets : List Assign) (w : Condition) → work.statement ≡ Update name sets w → IsReply m state s (Update name sets w) (reply_of (Update name sets w) work.read done)
      update_true name sets w is = record {
        reply_is = ap (λ (x : Outcome). x.reply) does_is ∙ ap reply.Count counted;
        tables_are = ap (λ (x : Outcome). x.tables) does_is ∙ becomes (map (λ e. (e.0, updated sets w e.1)) on.table.rows) mapped.rises (λ key. mapped.each key ∙ row_is key);
        rests = rests_by name (Update name sets w) is refl (inr (way_here (Update name sets w) is X (reads_by X (ap key_mode is) writes (ap is_insert is))));
      }
        where
          all : done ≡ changes_of (Update name sets w) work.read
          all = changed.all ∙ ap (λ st. changes_by st work.read) is

          same : filter (holds w) (rows_read work.read) ≡ filter (holds w) (values_of on.table.rows)
          same = same_rows_seen w (λ row. ap (λ st. is_held st row) is)

          big : Row → Bool
          big row = nat_lt row_limit (row_bytes on.table.schema (with_sets sets row))

          none_large : list_any (outgrows on.table.schema sets w) (values_of on.table.rows) ≡ false
          none_large =
              any_both (holds w) big (values_of on.table.rows) ∙ ap (list_any big) (sym same) ∙ sym (any_both (holds w) big (rows_read work.read))
              ∙ none_read (outgrows on.table.schema sets w) work.read (λ key row has. ap (λ (x : Schema). outgrows x sets w row) on.schema
              ∙ sym (ap (λ st. outgrows_by (table_at state.tables work.table).schema st row) is) ∙ c.small unfailed key row has)

          mapped : HasRows (map (λ e. (e.0, updated sets w e.1)) on.table.rows) (λ key. option_map (updated sets w) (row_at on.table.rows key))
          mapped = rows_mapped on.table.rows (updated sets w) on.rises

          counted : count_of w (values_of on.table.rows) ≡ length done
          counted = ap length (sym same) ∙ sym (count_update name sets w work.read) ∙ ap length (sym all)

          change_by : Bool → TableChange
          change_by b = cond b (refused RowTooLarge on.table) (record {
            reply = reply.Count (count_of w (values_of on.table.rows));
            table = record on.table { rows = map (λ e. (e.0, updated sets w e.1)) on.table.rows };
          })

          does_is : does seen_tables (Update name sets w)
              ≡ record { reply = reply.Count (count_of w (values_of on.table.rows)); tables = with_rows_at seen_tables on.place on.table (map (λ e. (e.0, updated sets w e.1)) on.table.rows) }
          does_is = changes_as (Update name sets w) (update sets w) (ap table_name is) refl
              ∙ ap (λ b. record { reply = (change_by b).reply; tables = slice_set seen_tables on.place (change_by b).table }) none_large

          row_is : (key : ℤ) → option_map (updated sets w) (row_at on.table.rows key) ≡ view_at state s work.table key
          row_is key = ap (option_map (updated sets w)) (on.row key) ∙ by_cases (by_written key)
            where
              by_cases : (view_at_beginning state s work.table key ≡ view_at state s work.table key) × ((change : Change) → Has done change → change.key ≡ key → ⊥)
                  ⊎ ((change : Change) × Has done change × (change.key ≡ key) × (view_at state s work.table key ≡ change.new))
                  → option_map (updated sets w) (saw state s work key) ≡ view_at state s work.table key
              by_cases (inl u) = by_row (saw state s work key) refl ∙ u.0
                where
                  by_row : (r : Option Row) → saw state s work key ≡ r → option_map (updated sets w) r ≡ saw state s work key
                  by_row None e = sym e
                  by_row (Some row) e = ap (λ b. Some (cond b (with_sets sets row) row)) (by_test (holds w row) refl) ∙ sym e
                    where
                      by_test : (b : Bool) → holds w row ≡ b → b ≡ false
                      by_test true t =
                          absurd (u.1 (record { key = key; old = Some row; new = Some (with_sets sets row) })
                          (not_changed (Update name sets w) is all key row (record { key = key; old = Some row; new = Some (with_sets sets row) }) e t
                          (ap (λ b. cond b (Some (record { key = key; old = Some row; new = Some (with_sets sets row) })) None) t)) refl)
                      by_test false t = refl
              by_cases (inr d) =
                  let f : IsChangeOf (Update name sets w) work.read d.0 = changed_from (Update name sets w) work.read d.0 (subst (λ (xs : List Change). Has xs d.0) all d.1) in
                  let sees : saw state s work key ≡ Some f.row = ap (saw state s work) (sym d.2) ∙ read_is_view m state good o s work at undisturbed d.0.key (Some f.row) f.has in
                  let new : d.0.new ≡ Some (with_sets sets f.row) =
                  ap (λ (x : Change). x.new) (some_is d.0 (record { key = d.0.key; old = Some f.row; new = Some (with_sets sets f.row) })
                  (sym f.change_is ∙ ap (λ b. cond b (Some (record { key = d.0.key; old = Some f.row; new = Some (with_sets sets f.row) })) None) f.held)) in
                  ap (option_map (updated sets w)) sees ∙ ap (λ b. Some (cond b (with_sets sets f.row) f.row)) f.held ∙ sym new ∙ sym d.3

      delete_true : (name : List ℕ) (w : Condition) → work.statement ≡ Delete name w → IsReply m state s (Delete name w) (reply_of (Delete name w) work.read done)
      delete_true name w is = record {
        reply_is = ap (λ (x : Outcome). x.reply) does_is ∙ ap reply.Count counted;
        tables_are = ap (λ (x : Outcome). x.tables) does_is ∙ becomes (filter (λ e. not (holds w e.1)) on.table.rows) left.rises (λ key. left.each key ∙ row_is key);
        rests = rests_by name (Delete name w) is refl (way_here (Delete name w) is X (reads_by X (ap key_mode is) writes (ap is_insert is)));
      }
        where
          all : done ≡ changes_of (Delete name w) work.read
          all = changed.all ∙ ap (λ st. changes_by st work.read) is

          left : HasRows (filter (λ e. not (holds w e.1)) on.table.rows) (λ key. unless (holds w) (row_at on.table.rows key))
          left = rows_kept on.table.rows (holds w) on.rises

          counted : count_of w (values_of on.table.rows) ≡ length done
          counted = ap length (sym (same_rows_seen w (λ row. ap (λ st. is_held st row) is))) ∙ sym (count_delete name w work.read) ∙ ap length (sym all)

          does_is : does seen_tables (Delete name w)
              ≡ record { reply = reply.Count (count_of w (values_of on.table.rows)); tables = with_rows_at seen_tables on.place on.table (filter (λ e. not (holds w e.1)) on.table.rows) }
          does_is = changes_as (Delete name w) (delete w) (ap table_name is) refl

          row_is : (key : ℤ) → unless (holds w) (row_at on.table.rows key) ≡ view_at state s work.table key
          row_is key = ap (unless (holds w)) (on.row key) ∙ by_cases (by_written key)
            where
              by_cases : (view_at_beginning state s work.table key ≡ view_at state s work.table key) × ((change : Change) → Has done change → change.key ≡ key → ⊥)
                  ⊎ ((change : Change) × Has done change × (change.key ≡ key) × (view_at state s work.table key ≡ change.new))
                  → unless (holds w) (saw state s work key) ≡ view_at state s work.table key
              by_cases (inl u) = by_row (saw state s work key) refl ∙ u.0
                where
                  by_row : (r : Option Row) → saw state s work key ≡ r → unless (holds w) r ≡ saw state s work key
                  by_row None e = sym e
                  by_row (Some row) e = ap (λ b. cond b None (Some row)) (by_test (holds w row) refl) ∙ sym e
                    where
                      by_test : (b : Bool) → holds w row ≡ b → b ≡ false
                      by_test true t =
                          absurd (u.1 (record { key = key; old = Some row; new = None })
                          (not_changed (Delete name w) is all key row (record { key = key; old = Some row; new = None }) e t
                          (ap (λ b. cond b (Some (record { key = key; old = Some row; new = None })) None) t)) refl)
                      by_test false t = refl
              by_cases (inr d) =
                  let f : IsChangeOf (Delete name w) work.read d.0 = changed_from (Delete name w) work.read d.0 (subst (λ (xs : List Change). Has xs d.0) all d.1) in
                  let sees : saw state s work key ≡ Some f.row = ap (saw state s work) (sym d.2) ∙ read_is_view m state good o s work at undisturbed d.0.key (Some f.row) f.has in
                  let new : d.0.new ≡ None =
                  ap (λ (x : Change). x.new) (some_is d.0 (record { key = d.0.key; old = Some f.row; new = None })
                  (sym f.change_is ∙ ap (λ b. cond b (Some (record { key = d.0.key; old = Some f.row; new = None })) None) f.held)) in
                  ap (unless (holds w)) sees ∙ ap (λ b. cond b None (Some f.row)) f.held ∙ sym new ∙ sym d.3

      insert_true : (name : List ℕ) (rows : List Row) → work.statement ≡ Insert name rows → IsReply m state s (Insert name rows) (reply_of (Insert name rows) work.read done)
      insert_true name rows is = record {
        reply_is = ap (λ (x : Outcome). x.reply) does_is ∙ ap reply.Count counted;
        tables_are = ap (λ (x : Outcome). x.tables) does_is ∙ becomes (with_rows on.table.rows rows) added.rises (λ key. added.each key ∙ row_is key);
        rests = rests_by name (Insert name rows) is refl (all_taken state s (suc on.place) on.table.rows rows (λ row has. row_taken row has));
      }
        where
          all : done ≡ map adding rows
          all = changed.all ∙ ap (λ st. changes_by st work.read) is

          of_row : (row : Row) → Has rows row → Has done (adding row)
          of_row row has = subst (λ (xs : List Change). Has xs (adding row)) (sym all) (Has-map_of adding rows row has)

          in_phase : (change : Change) → Has done change → Has (changes_done work.phase) change
          in_phase change has = subst (λ (xs : List Change). Has xs change) (sym (ap changes_done phase)) has

          absent : (row : Row) → Has rows row → row_at on.table.rows (key_of row) ≡ None
          absent row has = on.row (key_of row) ∙ c.absent unfailed (ap is_insert is) (adding row) (in_phase (adding row) (of_row row has))

          row_taken : (row : Row) → Has rows row → takes state.locks (suc on.place) (key_of row) s ≡ true
          row_taken row has =
              subst (λ n. takes state.locks n (key_of row) s ≡ true) (sym on.number)
              (done_taken m state good o course s work at undisturbed unfailed (adding row) (in_phase (adding row) (of_row row has)))

          apart : AreApart (map key_of rows)
          apart = subst (λ ks. AreApart ks) (ap keys_changed (ap changes_done phase ∙ all) ∙ keys_of_adding rows) (o.written s work at undisturbed).once

          none_twice : first_duplicate on.table.rows rows ≡ None
          none_twice = no_duplicate on.table.rows rows on.rises apart absent

          added : HasRows (with_rows on.table.rows rows) (λ key. option_or (last_with rows key) (row_at on.table.rows key))
          added = rows_with_rows on.table.rows rows on.rises

          counted : length rows ≡ length done
          counted = sym (length-map rows adding) ∙ ap length (sym all)

          does_is : does seen_tables (Insert name rows)
              ≡ record { reply = reply.Count (length rows); tables = with_rows_at seen_tables on.place on.table (with_rows on.table.rows rows) }
          does_is = changes_as (Insert name rows) (insert rows) (ap table_name is) refl
              ∙ ap (λ d. record { reply = (insert_or rows on.table d).reply; tables = slice_set seen_tables on.place (insert_or rows on.table d).table }) none_twice

          row_is : (key : ℤ) → option_or (last_with rows key) (row_at on.table.rows key) ≡ view_at state s work.table key
          row_is key = by_last (last_with rows key) refl (by_written key)
            where
              by_last : (l : Option Row) → last_with rows key ≡ l
                  → (view_at_beginning state s work.table key ≡ view_at state s work.table key) × ((change : Change) → Has done change → change.key ≡ key → ⊥)
                  ⊎ ((change : Change) × Has done change × (change.key ≡ key) × (view_at state s work.table key ≡ change.new))
                  → option_or l (row_at on.table.rows key) ≡ view_at state s work.table key
              by_last None e (inl u) = on.row key ∙ u.0
              by_last None e (inr d) =
                  let src : Source adding rows d.0 = Has-map adding rows d.0 (subst (λ (xs : List Change). Has xs d.0) all d.1) in
                  absurd (last_none rows key e (subst (λ k. Has (map key_of rows) k) (ap (λ (x : Change). x.key) src.is ∙ d.2) (Has-map_of key_of rows src.x src.has)))
              by_last (Some row) e (inl u) = (let r = last_is rows key row e in absurd (u.1 (adding row) (of_row row r.0) r.1))
              by_last (Some row) e (inr d) =
                  let r = last_is rows key row e in
                  sym (ap (λ b. cond b (row_of (present (table_at state.tables work.table) key)) (committed_row state work.table key)) (wrote d.0 d.1 d.2)
                  ∙ ap (λ k. row_of (present (table_at state.tables work.table) k)) (sym r.1) ∙ changed.made (adding row) (of_row row r.0))
                where
                  wrote : (change : Change) → Has done change → change.key ≡ key → has_written session work.table key ≡ true
                  wrote change has same =
                      let among : Has (keys_undone (undo_since session work)) key =
                      subst (λ (ks : List ℤ). Has ks key) (sym undone) (subst (λ k. Has (keys_changed done) k) same (Has-map_of (λ (x : Change). x.key) done change has)) in
                      let src : Source (λ (u : UndoEntry). u.key) (undo_since session work) key = Has-map (λ (u : UndoEntry). u.key) (undo_since session work) key among in
                      written_there session.undo work.table key src.x (has_dropped m state o work.begun session.undo src.x src.has) ((o.written s work at undisturbed).of_table src.x src.has) src.is

      done_true : (statement : Statement) → work.statement ≡ statement → IsServed (table_at state.tables work.table).schema statement → IsReply m state s statement (reply_of statement work.read done)
      done_true (Select name columns w) is served = select_true name columns w is
      done_true (Update name sets w) is served = update_true name sets w is
      done_true (Delete name w) is served = delete_true name w is
      done_true (Insert name rows) is served = insert_true name rows is
      done_true (Create name schema) is served = absurd served
      done_true Begin is served = absurd served
      done_true Commit is served = absurd served
      done_true Rollback is served = absurd served
      done_true (Refused refusal) is served = absurd served

    -- ---- a statement that has failed

    module _ (failure : Failure) (failed : work.failure ≡ Some failure) (undone : drop work.begun session.undo ≡ []) where
      leaves : seen_tables ≡ view state s
      leaves = nothing_written (begun_is m state good o session work at ∙ undone)

      -- a row that was read is locked with X, where its statement changes rows
      read_taken : (key : ℤ) (row : Option Row) → Has {X = ℤ × Option Row} work.read (key, row) → key_mode work.statement ≡ X → table_mode work.statement by_scan ≡ X → takes state.locks work.table key s ≡ true
      read_taken key row has mode table = by_way (way_of m.ways state.tables work) ((o.keys_locked s work at).locked key row has) (o.table_locked s work at)
        where
          by_way : (way : Way) → IsReadLocked state.locks s work way key → Holds state.locks s work.table None (table_mode work.statement way) → takes state.locks work.table key s ≡ true
          by_way (by_key k) h t = takes_key state.locks work.table key s (subst (λ md. Holds state.locks s work.table (Some key) md) mode h)
          by_way (by_box column predicate) h t = takes_key state.locks work.table key s (subst (λ md. Holds state.locks s work.table (Some key) md) mode h)
          by_way by_scan h t = takes_table state.locks work.table key s (subst (λ md. Holds state.locks s work.table None md) table t)

      -- no other statement has rows that get too large
      no_growth : (l : HasTooLarge state work) (statement : Statement) → work.statement ≡ statement → outgrows_by (table_at state.tables work.table).schema statement l.row ≡ false → ⊥
      no_growth l statement is none = false≢true (sym none ∙ ap (λ st. outgrows_by (table_at state.tables work.table).schema st l.row) (sym is) ∙ l.outgrows)

      large_true : HasTooLarge state work → (statement : Statement) → work.statement ≡ statement → IsReply m state s statement (reply.Err RowTooLarge)
      large_true l (Update name sets w) is = record {
        reply_is = ap (λ (x : Outcome). x.reply) does_is;
        tables_are = ap (λ (x : Outcome). x.tables) does_is ∙ refused_leaves ∙ leaves;
        rests = rests_by name (Update name sets w) is refl (inl (record {
          key = l.key;
          row = l.row;
          there = stands;
          outgrows = outgrows_here;
          taken = subst (λ n. takes state.locks n l.key s ≡ true) (sym on.number) (read_taken l.key (Some l.row) l.read (ap key_mode is) (ap (λ st. table_mode st by_scan) is));
        }));
      }
        where
          stands : row_at on.table.rows l.key ≡ Some l.row
          stands = on.row l.key ∙ read_is_view m state good o s work at undisturbed l.key (Some l.row) l.read

          outgrows_here : outgrows on.table.schema sets w l.row ≡ true
          outgrows_here = ap (λ (x : Schema). outgrows x sets w l.row) on.schema ∙ ap (λ st. outgrows_by (table_at state.tables work.table).schema st l.row) (sym is) ∙ l.outgrows

          change_by : Bool → TableChange
          change_by b = cond b (refused RowTooLarge on.table) (record {
            reply = reply.Count (count_of w (values_of on.table.rows));
            table = record on.table { rows = map (λ e. (e.0, updated sets w e.1)) on.table.rows };
          })

          does_is : does seen_tables (Update name sets w) ≡ record { reply = reply.Err RowTooLarge; tables = slice_set seen_tables on.place on.table }
          does_is = changes_as (Update name sets w) (update sets w) (ap table_name is) refl
              ∙ ap (λ b. record { reply = (change_by b).reply; tables = slice_set seen_tables on.place (change_by b).table })
              (any_at (outgrows on.table.schema sets w) on.table.rows l.key l.row stands outgrows_here)
      large_true l (Insert name rows) is = absurd (no_growth l (Insert name rows) is refl)
      large_true l (Select name columns w) is = absurd (no_growth l (Select name columns w) is refl)
      large_true l (Delete name w) is = absurd (no_growth l (Delete name w) is refl)
      large_true l (Create name schema) is = absurd (no_growth l (Create name schema) is refl)
      large_true l Begin is = absurd (no_growth l Begin is refl)
      large_true l Commit is = absurd (no_growth l Commit is refl)
      large_true l Rollback is = absurd (no_growth l Rollback is refl)
      large_true l (Refused refusal) is = absurd (no_growth l (Refused refusal) is refl)

      duplicate_true : (key : ℤ) (d : HasDuplicate state s work key) → IsReply m state s (Insert d.name (d.earlier ++ d.row ∷ d.rest)) (reply.Err (DuplicateKey key))
      duplicate_true key d = record {
        reply_is = ap (λ (x : Outcome). x.reply) does_is ∙ ap (λ k. reply.Err (DuplicateKey k)) d.same_key;
        tables_are = ap (λ (x : Outcome). x.tables) does_is ∙ refused_leaves ∙ leaves;
        rests = rests_by d.name (Insert d.name rows) d.rows refl
            (taken_until state s (suc on.place) on.table.rows d.earlier d.row d.rest on.rises d.apart
            (λ other has. subst (λ n. takes state.locks n (key_of other) s ≡ true) (sym on.number) (d.locked other has))
            (subst (λ n. takes state.locks n (key_of d.row) s ≡ true) (sym on.number) (subst (λ k. takes state.locks work.table k s ≡ true) (sym d.same_key) d.taken)) there);
      }
        where
          rows : List Row
          rows = d.earlier ++ d.row ∷ d.rest

          there : (row_at on.table.rows (key_of d.row) ≡ None → ⊥) ⊎ Has (map key_of d.earlier) (key_of d.row)
          there = elim d.there [
            | inl ne ↦ inl (λ none. ne (ap (saw state s work) (sym d.same_key) ∙ sym (on.row (key_of d.row)) ∙ none))
            | inr has ↦ inr (subst (λ k. Has (map key_of d.earlier) k) (sym d.same_key) has)
          ]

          twice : first_duplicate on.table.rows rows ≡ Some (key_of d.row)
          twice = duplicate_found on.table.rows d.earlier d.row d.rest on.rises d.apart (λ other has. on.row (key_of other) ∙ d.absent other has) there

          does_is : does seen_tables (Insert d.name rows) ≡ record { reply = reply.Err (DuplicateKey (key_of d.row)); tables = slice_set seen_tables on.place on.table }
          does_is = changes_as (Insert d.name rows) (insert rows) (ap table_name d.rows) refl
              ∙ ap (λ x. record { reply = (insert_or rows on.table x).reply; tables = slice_set seen_tables on.place (insert_or rows on.table x).table }) twice

    -- ---- the answer

    true_by : (reply : Reply) → IsReply m state s work.statement reply → IsTrueAnswer m state s reply
    true_by reply r = record {
      text = bound.text;
      text_is = bound.text_is;
      statement = work.statement;
      means = bound.means;
      reply_is = r.reply_is;
      tables_are = r.tables_are;
      rests = r.rests;
    }

    failed_true : (failure : Failure) → work.failure ≡ Some failure → drop work.begun session.undo ≡ [] → (failure_reply failure ≡ full_reply → ⊥) → IsTrueAnswer m state s (failure_reply failure)
    failed_true (duplicate key) failed undone not_full =
        let d : HasDuplicate state s work key = c.duplicate key failed in
        true_by (failure_reply (duplicate key)) (subst (λ st. IsReply m state s st (failure_reply (duplicate key))) (sym d.rows) (duplicate_true (duplicate key) failed undone key d))
    failed_true too_large failed undone not_full =
        let l : HasTooLarge state work = c.too_large failed in
        true_by (failure_reply too_large) (large_true too_large failed undone l work.statement refl)
    failed_true file_full failed undone not_full = absurd (not_full refl)

pub answers_are_true : AnswersAreTrue
answers_are_true m state s reply ends good o course which not_full = by_case which
  where
    by_case : RepliesFirst m state s (session_at state.sessions s) reply ends ⊎ (RepliesFailed (session_at state.sessions s) reply ends ⊎ RepliesDone (session_at state.sessions s) reply ends)
        → IsTrueAnswer m state s reply
    by_case (inl r) = first_true m state good o course s reply ends r
    by_case (inr (inl r)) =
        subst (λ x. IsTrueAnswer m state s x) (sym r.reply_is)
        (failed_true m state good o course s r.work r.at_work r.undisturbed r.failure r.failed r.undone (λ e. not_full (r.reply_is ∙ e)))
    by_case (inr (inr r)) =
        subst (λ x. IsTrueAnswer m state s x) (sym r.reply_is)
        (true_by m state good o course s r.work r.goes_on.at_work r.goes_on.undisturbed (reply_of r.work.statement r.work.read r.done)
        (done_true m state good o course s r.work r.goes_on.at_work r.goes_on.undisturbed r.done r.phase r.goes_on.unfailed r.work.statement refl
        (o.bound s r.work r.goes_on.at_work).served))
