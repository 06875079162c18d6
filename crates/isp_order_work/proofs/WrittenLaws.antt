-- A statement would undo exactly its changes; where it has failed, a front of them.
use Rattle.std.proofs.Common.{◌≡◌, ◌⊎◌, ◌∙◌, ◌≤◌, inl, inr, refl, sym, ap, subst, ℕ, ℤ, zero, suc, cond, Bool, true, false, Option, Some, None, List, [], ◌∷◌, ◌++◌, append_assoc, append-nil, arith, drop, length, map}
use Rattle.std.specs.Prelude.{int_lt, is_none, slice_set}
use Rattle.std.specs.List.{cons_option, last_or}
use Rattle.std.specs.Option.{option_map}
use Rattle.std.proofs.lemmas.List.{map-append}
use Rattle.isp_base.specs.Lists.{Has}
use Rattle.isp_laws.proofs.ListLaws.{Has-append, Has-append_left, Has-append_right, Has-map, Source}
use Rattle.isp_plain.specs.declared.statement.Statement.{Statement}
use Rattle.isp_plain.specs.declared.statement.Statement.TheVariants.{Create, Insert, Select, Update, Delete, Begin, Commit, Rollback, Refused}
use Rattle.isp_plain.specs.declared.value.Row.{Row}
use Rattle.isp_plain.specs.Conditions.{holds}
use Rattle.isp_forest.specs.Search.{Search}
use Rattle.isp_events.specs.Stored.{Leaf, StoredTable, indexed, leaf_behind, present, row_of, table_at}
use Rattle.isp_events.specs.Sessions.{Change, Entering, Failure, Image, Phase, SessionState, UndoEntry, Work, adding, answering, change_of, changes_of, entering, locking, phase_with, scanning, session_at, unlocked, visiting, writing}
use Rattle.isp_events.specs.State.{State, front, is_empty}
use Rattle.isp_events.specs.Ways.{Machine, Way, by_box, by_key, by_scan}
use Rattle.isp_events.specs.Asking.{first_phase, phase_after_key, phase_by, phase_of_keys}
use Rattle.isp_events.specs.Reading.{as_read, phase_after_leaf, phase_after_visit, rising, rows_in}
use Rattle.isp_events.specs.Placing.{phase_with_entry}
use Rattle.isp_events.specs.Writing.{ascend, phase_after_row}
use Rattle.isp_events.specs.Events.{Actor, Choice, MayHappen, after}
use Rattle.isp_order.specs.Work.{AreApart, HasKeys, HasWritten, HaveWritten, IsChanging, IsUndoOf, IsWriting, changes_by, changes_done, keys_changed, keys_left, keys_undone, undo_since}
use Rattle.isp_order.specs.InOrder.{InOrder, IsProper}
use Rattle.isp_order.proofs.RowLaws.{ascend_rest, first_least, lt_apart}
use Rattle.isp_causes.specs.Causes.{GoesOn, IsActive, IsEntering, IsUndoing, IsWritingRow}
use Rattle.isp_causes.proofs.EventCases.{EachKeeps, event_keeps}
use Rattle.isp_order_locks.proofs.LockedLaws.{has_front}
use Rattle.isp_order_locks.proofs.SearchParts.{seen_now}
use Rattle.isp_order_work.proofs.WorkParts.{carried, no_work, none_some, some_is, undisturbed_step, undisturbed_victims}

-- ---- lists

pub drop_all : {Y : Type 0} (xs : List Y) → drop (length xs) xs ≡ []
drop_all [] = refl
drop_all (x ∷ xs) = drop_all xs

pub drop_push : {Y : Type 0} (n : ℕ) (xs : List Y) (y : Y) → n ≤ length xs → drop n (xs ++ y ∷ []) ≡ drop n xs ++ y ∷ []
drop_push zero xs y h = refl
drop_push (suc n) [] y h = let no : ⊥ = omega (arith, h) in absurd no
drop_push (suc n) (x ∷ xs) y h = drop_push n xs y (omega (arith, h))

-- all but the last of what is left after the first n
pub drop_front : {Y : Type 0} (n : ℕ) (xs : List Y) (y : Y) → last_or None (drop n xs) ≡ Some y → drop n (front xs) ≡ front (drop n xs)
drop_front zero xs y h = refl
drop_front (suc n) [] y h = refl
drop_front (suc n) (x ∷ []) y h = absurd (none_some y (sym (ap (λ ys. last_or None ys) (dropped n)) ∙ h))
  where
    dropped : {Z : Type 0} (k : ℕ) → ◌≡◌ {A = List Z} (drop k []) []
    dropped zero = refl
    dropped (suc k) = refl
drop_front (suc n) (x ∷ z ∷ xs) y h = drop_front n (z ∷ xs) y h

pub front_last : {Y : Type 0} (xs : List Y) (y : Y) → last_or None xs ≡ Some y → xs ≡ front xs ++ y ∷ []
front_last [] y h = absurd (none_some y h)
front_last (x ∷ []) y h = ap (λ z. z ∷ []) (some_is x y h)
front_last (x ∷ z ∷ xs) y h = ap (λ zs. x ∷ zs) (front_last (z ∷ xs) y h)

pub length_front : {Y : Type 0} (n : ℕ) (xs : List Y) (y : Y) → n ≤ length xs → last_or None (drop n xs) ≡ Some y → n ≤ length (front xs)
length_front zero xs y h l = omega arith
length_front (suc n) [] y h l = let no : ⊥ = omega (arith, h) in absurd no
length_front (suc n) (x ∷ []) y h l = length_front_one n y h l
  where
    length_front_one : {Z : Type 0} (k : ℕ) (z : Z) → suc k ≤ 1 → last_or {A = Z} None (drop k []) ≡ Some z → suc k ≤ 0
    length_front_one zero z i e = absurd (none_some z e)
    length_front_one (suc k) z i e = absurd (none_some z e)
length_front (suc n) (x ∷ z ∷ xs) y h l = let r : n ≤ length (front (z ∷ xs)) = length_front n (z ∷ xs) y (omega (arith, h)) l in omega (arith, r)

apart_push : (keys : List ℤ) (key : ℤ) → AreApart keys → (Has keys key → ⊥) → AreApart (keys ++ key ∷ [])
apart_push [] key a new = (λ h. absurd h, tt)
apart_push (k ∷ keys) key a new = (λ h. by_cases (Has-append keys (key ∷ []) k h), apart_push keys key a.1 (λ h. new (inr h)))
  where
    by_cases : Has keys k ⊎ Has (key ∷ []) k → ⊥
    by_cases (inl h) = a.0 h
    by_cases (inr (inl e)) = new (inl (sym e))
    by_cases (inr (inr h)) = h

none_of : {A B : Type 0} (f : A → B) (xs : List A) → map f xs ≡ [] → xs ≡ []
none_of f [] h = refl
none_of f (x ∷ xs) h = let no : f x ∷ map f xs ≡ [] = h in let f' : ⊥ = cc in absurd f'

-- ---- phases and the changes done

pub nothing_done : (statement : Statement) (columns : List ℕ) (left : List Change) → changes_done (phase_with statement columns [] left) ≡ []
nothing_done statement columns [] = refl
nothing_done statement columns (change ∷ left) = refl

pub done_with : (statement : Statement) (columns : List ℕ) (done left : List Change) → changes_done (phase_with statement columns done left) ≡ done
done_with statement columns done [] = refl
done_with statement columns done (change ∷ left) = refl

way_done : (way : Way) → changes_done (phase_by way) ≡ []
way_done (by_key key) = refl
way_done (by_box column predicate) = refl
way_done by_scan = refl

first_done : (table : StoredTable) (statement : Statement) (way : Way) → changes_done (first_phase table statement way) ≡ []
first_done table (Insert name rows) way = nothing_done (Insert name rows) (indexed table) (map adding rows)
first_done table (Select name columns w) way = way_done way
first_done table (Create name schema) way = way_done way
first_done table (Update name sets w) way = way_done way
first_done table (Delete name w) way = way_done way
first_done table Begin way = way_done way
first_done table Commit way = way_done way
first_done table Rollback way = way_done way
first_done table (Refused refusal) way = way_done way

keys_done : (table : StoredTable) (statement : Statement) (keys : List ℤ) (read : List (ℤ × Option Row)) → changes_done (phase_of_keys table statement keys read) ≡ []
keys_done table statement [] read = nothing_done statement (indexed table) (changes_of statement read)
keys_done table statement (key ∷ keys) read = refl

entry_done : (f : Entering → Entering) (phase : Phase) → changes_done (phase_with_entry f phase) ≡ changes_done phase
entry_done f (locking keys) = refl
entry_done f visiting = refl
entry_done f (scanning last) = refl
entry_done f (writing done left progress) = refl
entry_done f (answering done) = refl

-- ---- the keys of changes

cond_change : (b : Bool) (c d : Change) → cond b (Some c) None ≡ Some d → c ≡ d
cond_change true c d h = some_is c d h
cond_change false c d h = absurd (none_some d h)

pub change_key : (statement : Statement) (key : ℤ) (row : Option Row) (change : Change) → change_of statement key row ≡ Some change → change.key ≡ key
change_key statement key None change h = absurd (none_some change h)
change_key (Update name sets w) key (Some row) change h = ap (λ (c : Change). c.key) (sym (cond_change (holds w row) _ change h))
change_key (Delete name w) key (Some row) change h = ap (λ (c : Change). c.key) (sym (cond_change (holds w row) _ change h))
change_key (Insert name rows) key (Some row) change h = absurd (none_some change h)
change_key (Select name columns w) key (Some row) change h = absurd (none_some change h)
change_key (Create name schema) key (Some row) change h = absurd (none_some change h)
change_key Begin key (Some row) change h = absurd (none_some change h)
change_key Commit key (Some row) change h = absurd (none_some change h)
change_key Rollback key (Some row) change h = absurd (none_some change h)
change_key (Refused refusal) key (Some row) change h = absurd (none_some change h)

ascend_cons : (k : ℤ) (keys : List ℤ) → ((j : ℤ) → Has keys j → int_lt k j ≡ true) → ascend keys ≡ true → ascend (k ∷ keys) ≡ true
ascend_cons k [] less up = refl
ascend_cons k (l ∷ keys) less up = rw (less l (inl refl)) up

key_read : (statement : Statement) (read : List (ℤ × Option Row)) (key : ℤ) → Has (keys_changed (changes_of statement read)) key → Has (map (λ r. r.0) read) key
key_read statement [] key h = absurd h
key_read statement (r ∷ read) key h = by_change (change_of statement r.0 r.1) refl (key_read statement read key) h
  where
    by_change : (c : Option Change) → change_of statement r.0 r.1 ≡ c → (Has (keys_changed (changes_of statement read)) key → Has (map (λ x. x.0) read) key)
        → Has (keys_changed (cons_option c (changes_of statement read))) key → (r.0 ≡ key) ⊎ Has (map (λ x. x.0) read) key
    by_change None e again k = inr (again k)
    by_change (Some c) e again (inl is) = inl (sym (change_key statement r.0 r.1 c e) ∙ is)
    by_change (Some c) e again (inr k) = inr (again k)

pub changes_ascend : (statement : Statement) (read : List (ℤ × Option Row)) → ascend (map (λ r. r.0) read) ≡ true → ascend (keys_changed (changes_of statement read)) ≡ true
changes_ascend statement [] up = refl
changes_ascend statement (r ∷ read) up = by_change (change_of statement r.0 r.1) refl (changes_ascend statement read (ascend_rest r.0 (map (λ x. x.0) read) up))
  where
    by_change : (c : Option Change) → change_of statement r.0 r.1 ≡ c → ascend (keys_changed (changes_of statement read)) ≡ true
        → ascend (keys_changed (cons_option c (changes_of statement read))) ≡ true
    by_change None e again = again
    by_change (Some c) e again =
        ascend_cons c.key (keys_changed (changes_of statement read))
        (λ j h. subst (λ k. int_lt k j ≡ true) (sym (change_key statement r.0 r.1 c e)) (first_least r.0 (map (λ x. x.0) read) j up (key_read statement read j h))) again

pub ascend_apart : (keys : List ℤ) (key : ℤ) (more : List ℤ) → ascend (keys ++ key ∷ more) ≡ true → Has keys key → ⊥
ascend_apart [] key more up h = h
ascend_apart (k ∷ keys) key more up (inl e) =
    lt_apart k key (first_least k (keys ++ key ∷ more) key up (Has-append_right keys (key ∷ more) key (inl refl))) e
ascend_apart (k ∷ keys) key more up (inr h) = ascend_apart keys key more (ascend_rest k (keys ++ key ∷ more) up) h

-- a change of INSERT has no old row, and a new one
adds : (rows : List Row) (change : Change) → Has (map adding rows) change → (change.old ≡ None) × ((row : Row) × (change.new ≡ Some row))
adds rows change h =
    let r : Source adding rows change = Has-map adding rows change h in
    (ap (λ (c : Change). c.old) (sym r.is), (r.x, ap (λ (c : Change). c.new) (sym r.is)))

-- ---- an undo list that is exact is a front too

undo_any : (failure : Option Failure) (undo done : List ℤ) → undo ≡ done → IsUndoOf failure undo done
undo_any None undo done h = h
undo_any (Some failure) undo done h = ([], append-nil undo ∙ h)

module _ (m : Machine) (state : State) (good : IsProper m) (o : InOrder m state) where
  step : (s : ℕ) (new : SessionState) → IsActive state s → ((work : Work) → new.work ≡ Some work → new.victim ≡ false → HasWritten new work) → HaveWritten (slice_set state.sessions s new)
  step s new active own = undisturbed_step (λ k session work. HasWritten session work) state.sessions s new active.not_over own (λ k ne work at undisturbed. o.written k work at undisturbed)

  without_work : (s : ℕ) (new : SessionState) → IsActive state s → new.work ≡ None → HaveWritten (slice_set state.sessions s new)
  without_work s new active none = step s new active (λ work at undisturbed. absurd (no_work new work none at))

  -- a session at work changes its phase, and perhaps fails; what it would undo and has changed stays
  at_work : (s : ℕ) (new : SessionState) (f : Work → Work) (work : Work) → IsActive state s → GoesOn (session_at state.sessions s) work
      → new.work ≡ option_map f (session_at state.sessions s).work → new.undo ≡ (session_at state.sessions s).undo
      → (f work).begun ≡ work.begun → (f work).table ≡ work.table → changes_done (f work).phase ≡ changes_done work.phase → HaveWritten (slice_set state.sessions s new)
  at_work s new f work active go is undo begun table done =
      step s new active (λ now at undisturbed. subst (λ (w : Work). HasWritten new w) (carried f (session_at state.sessions s) new work now is go.at_work at) of_work)
    where
      old : HasWritten (session_at state.sessions s) work
      old = o.written s work go.at_work go.undisturbed

      since : undo_since new (f work) ≡ undo_since (session_at state.sessions s) work
      since = ap (λ (us : List UndoEntry). drop (f work).begun us) undo ∙ ap (λ n. drop n (session_at state.sessions s).undo) begun

      exact : keys_undone (undo_since (session_at state.sessions s) work) ≡ keys_changed (changes_done work.phase)
      exact = unfailed work.failure old.undo go.unfailed
        where
          unfailed : (failure : Option Failure) → IsUndoOf failure (keys_undone (undo_since (session_at state.sessions s) work)) (keys_changed (changes_done work.phase)) → failure ≡ None
              → keys_undone (undo_since (session_at state.sessions s) work) ≡ keys_changed (changes_done work.phase)
          unfailed None h e = h
          unfailed (Some failure) h e = absurd (none_some failure (sym e))

      of_work : HasWritten new (f work)
      of_work = record {
        begun = subst (λ n. n ≤ length new.undo) (sym begun) (subst (λ (us : List UndoEntry). work.begun ≤ length us) (sym undo) old.begun);
        of_table = λ u h. old.of_table u (subst (λ (us : List UndoEntry). Has us u) since h) ∙ sym table;
        undo = undo_any (f work).failure (keys_undone (undo_since new (f work))) (keys_changed (changes_done (f work).phase))
            (ap keys_undone since ∙ exact ∙ ap keys_changed (sym done));
        once = subst AreApart (ap keys_changed (sym done)) old.once;
      }

  -- what an unfailed statement would undo
  pub exactly : (s : ℕ) (work : Work) → GoesOn (session_at state.sessions s) work
      → keys_undone (undo_since (session_at state.sessions s) work) ≡ keys_changed (changes_done work.phase)
  exactly s work go = unfailed work.failure (o.written s work go.at_work go.undisturbed).undo go.unfailed
    where
      unfailed : (failure : Option Failure) → IsUndoOf failure (keys_undone (undo_since (session_at state.sessions s) work)) (keys_changed (changes_done work.phase)) → failure ≡ None
          → keys_undone (undo_since (session_at state.sessions s) work) ≡ keys_changed (changes_done work.phase)
      unfailed None h e = h
      unfailed (Some failure) h e = absurd (none_some failure (sym e))

  -- before it writes it would undo nothing
  pub nothing_since : (s : ℕ) (work : Work) → GoesOn (session_at state.sessions s) work → changes_done work.phase ≡ [] → undo_since (session_at state.sessions s) work ≡ []
  nothing_since s work go none = none_of (λ (u : UndoEntry). u.key) (undo_since (session_at state.sessions s) work) (exactly s work go ∙ ap keys_changed none)

  begins : (s : ℕ) (new : SessionState) (work : Work) → IsActive state s → new.work ≡ Some work → new.undo ≡ (session_at state.sessions s).undo
      → work.begun ≡ length (session_at state.sessions s).undo → work.failure ≡ None → changes_done work.phase ≡ [] → HaveWritten (slice_set state.sessions s new)
  begins s new work active is undo begun unfailed done =
      step s new active (λ now at undisturbed. subst (λ (w : Work). HasWritten new w) (some_is work now (sym is ∙ at)) of_work)
    where
      since : undo_since new work ≡ []
      since = ap (λ (us : List UndoEntry). drop work.begun us) undo ∙ ap (λ n. drop n (session_at state.sessions s).undo) begun ∙ drop_all (session_at state.sessions s).undo

      of_work : HasWritten new work
      of_work = record {
        begun = (let e : length new.undo ≡ length (session_at state.sessions s).undo = ap (λ (us : List UndoEntry). length us) undo in omega (arith, begun, e));
        of_table = λ u h. absurd (subst (λ (us : List UndoEntry). Has us u) since h);
        undo = undo_any work.failure (keys_undone (undo_since new work)) (keys_changed (changes_done work.phase)) (ap keys_undone since ∙ ap keys_changed (sym done));
        once = subst AreApart (ap keys_changed (sym done)) tt;
      }

  -- ---- undo

  undoes : (s : ℕ) (entry : UndoEntry) (new : SessionState) → IsActive state s → IsUndoing m s (session_at state.sessions s) entry → new.work ≡ (session_at state.sessions s).work
      → new.victim ≡ (session_at state.sessions s).victim → new.undo ≡ front (session_at state.sessions s).undo → HaveWritten (slice_set state.sessions s new)
  undoes s entry new active at is victim undo = step s new active (λ work now_at undisturbed. of_work work (sym is ∙ now_at) (sym victim ∙ undisturbed))
    where
      of_work : (work : Work) → (session_at state.sessions s).work ≡ Some work → (session_at state.sessions s).victim ≡ false → HasWritten new work
      of_work work at_work undisturbed =
          let old : HasWritten (session_at state.sessions s) work = o.written s work at_work undisturbed in
          let own = at.own work (o.bound s work at_work).text at_work undisturbed (o.bound s work at_work).text_is in
          let since : undo_since new work ≡ front (undo_since (session_at state.sessions s) work) =
          ap (λ (us : List UndoEntry). drop work.begun us) undo ∙ drop_front work.begun (session_at state.sessions s).undo entry own.1 in
          record {
            begun = subst (λ (us : List UndoEntry). work.begun ≤ length us) (sym undo) (length_front work.begun (session_at state.sessions s).undo entry old.begun own.1);
            of_table = λ u h. old.of_table u (has_front (undo_since (session_at state.sessions s) work) u (subst (λ (us : List UndoEntry). Has us u) since h));
            undo = shorter work.failure own.0.0 own.0.1 since old.undo (front_last (undo_since (session_at state.sessions s) work) entry own.1);
            once = old.once;
          }
        where
          shorter : (failure : Option Failure) (f : Failure) → failure ≡ Some f → undo_since new work ≡ front (undo_since (session_at state.sessions s) work)
              → IsUndoOf failure (keys_undone (undo_since (session_at state.sessions s) work)) (keys_changed (changes_done work.phase))
              → undo_since (session_at state.sessions s) work ≡ front (undo_since (session_at state.sessions s) work) ++ entry ∷ []
              → IsUndoOf failure (keys_undone (undo_since new work)) (keys_changed (changes_done work.phase))
          shorter None f e since h parts = absurd (none_some f e)
          shorter (Some g) f e since h parts = (
            entry.key ∷ h.0,
            ap (λ us. keys_undone us ++ entry.key ∷ h.0) since
                ∙ sym (append_assoc (keys_undone (front (undo_since (session_at state.sessions s) work))) (entry.key ∷ []) h.0)
                ∙ ap (λ ks. ks ++ h.0) (sym (map-append (λ (u : UndoEntry). u.key) (front (undo_since (session_at state.sessions s) work)) (entry ∷ [])) ∙ ap keys_undone (sym parts))
                ∙ h.1,
          )

  -- ---- a row

  writes_row : (s number : ℕ) (change : Change) (placed : List (ℕ × ℕ)) (image : Image) (new : SessionState) (f : Work → Work) → IsActive state s
      → (at : IsWritingRow state (session_at state.sessions s) number change placed) → (Has (keys_changed at.entering.done) at.entering.change.key → ⊥)
      → new.work ≡ option_map f (session_at state.sessions s).work → new.undo ≡ (session_at state.sessions s).undo ++ record { table = number; key = change.key; image = image } ∷ []
      → ((w : Work) → (f w).begun ≡ w.begun) → ((w : Work) → (f w).table ≡ w.table)
      → changes_done (f at.entering.work).phase ≡ at.entering.done ++ at.entering.change ∷ [] → HaveWritten (slice_set state.sessions s new)
  writes_row s number change placed image new f active at fresh is undo begun table done =
      step s new active (λ now now_at undisturbed. subst (λ (w : Work). HasWritten new w) (carried f (session_at state.sessions s) new at.entering.work now is at.entering.goes_on.at_work now_at) of_work)
    where
      since : undo_since new (f at.entering.work) ≡ undo_since (session_at state.sessions s) at.entering.work ++ record { table = number; key = change.key; image = image } ∷ []
      since =
          ap (λ (us : List UndoEntry). drop (f at.entering.work).begun us) undo
          ∙ ap (λ n. drop n ((session_at state.sessions s).undo ++ record { table = number; key = change.key; image = image } ∷ [])) (begun at.entering.work)
          ∙ drop_push at.entering.work.begun (session_at state.sessions s).undo (record { table = number; key = change.key; image = image }) (o.written s at.entering.work at.entering.goes_on.at_work at.entering.goes_on.undisturbed).begun

      keys : keys_undone (undo_since new (f at.entering.work)) ≡ keys_changed (at.entering.done ++ at.entering.change ∷ [])
      keys =
          ap keys_undone since
          ∙ map-append (λ (u : UndoEntry). u.key) (undo_since (session_at state.sessions s) at.entering.work) (record { table = number; key = change.key; image = image } ∷ [])
          ∙ ap (λ ks. ks ++ change.key ∷ []) (exactly s at.entering.work at.entering.goes_on ∙ ap keys_changed (ap changes_done at.entering.phase))
          ∙ ap (λ k. keys_changed at.entering.done ++ k ∷ []) (ap (λ (c : Change). c.key) at.change_is)
          ∙ sym (map-append (λ (c : Change). c.key) at.entering.done (at.entering.change ∷ []))

      of_work : HasWritten new (f at.entering.work)
      of_work = record {
        begun = (let le : at.entering.work.begun ≤ length (session_at state.sessions s).undo = (o.written s at.entering.work at.entering.goes_on.at_work at.entering.goes_on.undisturbed).begun in
            subst (λ n. n ≤ length new.undo) (sym (begun at.entering.work))
            (subst (λ (us : List UndoEntry). at.entering.work.begun ≤ length us) (sym undo) (longer at.entering.work.begun (session_at state.sessions s).undo (record { table = number; key = change.key; image = image }) le)));
        of_table = λ u h. by_cases u (Has-append (undo_since (session_at state.sessions s) at.entering.work) (record { table = number; key = change.key; image = image } ∷ []) u
            (subst (λ (us : List UndoEntry). Has us u) since h)) ∙ sym (table at.entering.work);
        undo = undo_any (f at.entering.work).failure (keys_undone (undo_since new (f at.entering.work))) (keys_changed (changes_done (f at.entering.work).phase)) (keys ∙ ap keys_changed (sym done));
        once = subst AreApart (sym (map-append (λ (c : Change). c.key) at.entering.done (at.entering.change ∷ [])) ∙ ap keys_changed (sym done))
            (apart_push (keys_changed at.entering.done) at.entering.change.key
            (subst AreApart (ap keys_changed (ap changes_done at.entering.phase)) (o.written s at.entering.work at.entering.goes_on.at_work at.entering.goes_on.undisturbed).once) fresh);
      }
        where
          longer : {Y : Type 0} (n : ℕ) (xs : List Y) (y : Y) → n ≤ length xs → n ≤ length (xs ++ y ∷ [])
          longer n [] y le = omega (arith, le)
          longer zero (x ∷ xs) y le = omega arith
          longer (suc n) (x ∷ xs) y le = let r : n ≤ length (xs ++ y ∷ []) = longer n xs y (omega (arith, le)) in omega (arith, r)

          by_cases : (u : UndoEntry) → Has (undo_since (session_at state.sessions s) at.entering.work) u ⊎ Has (record { table = number; key = change.key; image = image } ∷ []) u
              → u.table ≡ at.entering.work.table
          by_cases u (inl h) = (o.written s at.entering.work at.entering.goes_on.at_work at.entering.goes_on.undisturbed).of_table u h
          by_cases u (inr (inl e)) = ap (λ (x : UndoEntry). x.table) (sym e) ∙ at.number_is
          by_cases u (inr (inr h)) = absurd h

  -- ---- the key at hand is new

  changing_now : (s : ℕ) (en : IsEntering (session_at state.sessions s)) → IsWriting state.tables state.locks s en.work en.done (en.change ∷ en.left) (entering en.e)
  changing_now s en = subst (IsChanging state.tables state.locks s en.work) en.phase (o.changing s en.work en.goes_on.at_work en.goes_on.undisturbed en.goes_on.unfailed)

  fresh_insert : (s : ℕ) (en : IsEntering (session_at state.sessions s)) (rows : List Row) → en.done ++ en.change ∷ en.left ≡ map adding rows → Has (keys_changed en.done) en.change.key → ⊥
  fresh_insert s en rows all h =
      let r : Source (λ (c : Change). c.key) en.done en.change.key = Has-map (λ (c : Change). c.key) en.done en.change.key h in
      let of_done = adds rows r.x (subst (λ (cs : List Change). Has cs r.x) all (Has-append_left en.done (en.change ∷ en.left) r.x r.has)) in
      let of_hand = adds rows en.change (subst (λ (cs : List Change). Has cs en.change) all (Has-append_right en.done (en.change ∷ en.left) en.change (inl refl))) in
      let stands : row_of (present (table_at state.tables en.work.table) en.change.key) ≡ None = (changing_now s en).at_hand.stands ∙ of_hand.0 in
      let made : row_of (present (table_at state.tables en.work.table) r.x.key) ≡ Some of_done.1.0 = (changing_now s en).made r.x r.has ∙ of_done.1.1 in
      none_some of_done.1.0 (sym stands ∙ ap (λ k. row_of (present (table_at state.tables en.work.table) k)) (sym r.is) ∙ made)

  fresh_read : (s : ℕ) (en : IsEntering (session_at state.sessions s)) → en.done ++ en.change ∷ en.left ≡ changes_of en.work.statement en.work.read → Has (keys_changed en.done) en.change.key → ⊥
  fresh_read s en all h =
      let keys : HasKeys m.ways state.tables state.locks state.searches s (session_at state.sessions s) en.work = o.keys_locked s en.work en.goes_on.at_work in
      let up : ascend (map (λ r. r.0) en.work.read) ≡ true =
      ap ascend (sym (append-nil (map (λ r. r.0) en.work.read)) ∙ ap (λ p. map (λ r. r.0) en.work.read ++ keys_left p) (sym en.phase)) ∙ keys.rising in
      let rises : ascend (keys_changed en.done ++ en.change.key ∷ keys_changed en.left) ≡ true =
      ap ascend (sym (map-append (λ (c : Change). c.key) en.done (en.change ∷ en.left)) ∙ ap keys_changed all) ∙ changes_ascend en.work.statement en.work.read up in
      ascend_apart (keys_changed en.done) en.change.key (keys_changed en.left) rises h

  pub fresh : (s : ℕ) (en : IsEntering (session_at state.sessions s)) → Has (keys_changed en.done) en.change.key → ⊥
  fresh s en = by_statement en.work.statement refl
    where
      all : (statement : Statement) → en.work.statement ≡ statement → en.done ++ en.change ∷ en.left ≡ changes_by statement en.work.read
      all statement e = (changing_now s en).all ∙ ap (λ st. changes_by st en.work.read) e

      of_read : (statement : Statement) → en.work.statement ≡ statement → en.done ++ en.change ∷ en.left ≡ changes_of statement en.work.read → Has (keys_changed en.done) en.change.key → ⊥
      of_read statement e a = fresh_read s en (a ∙ ap (λ st. changes_of st en.work.read) (sym e))

      by_statement : (statement : Statement) → en.work.statement ≡ statement → Has (keys_changed en.done) en.change.key → ⊥
      by_statement (Insert name rows) e = fresh_insert s en rows (all (Insert name rows) e)
      by_statement (Select name columns w) e = of_read (Select name columns w) e (all (Select name columns w) e)
      by_statement (Create name schema) e = of_read (Create name schema) e (all (Create name schema) e)
      by_statement (Update name sets w) e = of_read (Update name sets w) e (all (Update name sets w) e)
      by_statement (Delete name w) e = of_read (Delete name w) e (all (Delete name w) e)
      by_statement Begin e = of_read Begin e (all Begin e)
      by_statement Commit e = of_read Commit e (all Commit e)
      by_statement Rollback e = of_read Rollback e (all Rollback e)
      by_statement (Refused refusal) e = of_read (Refused refusal) e (all (Refused refusal) e)

  -- ---- each event

  key_done : (table : StoredTable) (work : Work) (key : ℤ) (keys : List ℤ) (read : List (ℤ × Option Row)) → work.phase ≡ locking (key ∷ keys)
      → changes_done (phase_after_key table work.statement work.phase read) ≡ changes_done work.phase
  key_done table work key keys read is =
      ap (λ p. changes_done (phase_after_key table work.statement p read)) is ∙ keys_done table work.statement keys read ∙ sym (ap changes_done is)

  row_key_done : (table : StoredTable) (work : Work) (done : List Change) (change : Change) (left : List Change) (read : List (ℤ × Option Row)) → work.phase ≡ writing done (change ∷ left) unlocked
      → changes_done (phase_after_key table work.statement work.phase read) ≡ changes_done work.phase
  row_key_done table work done change left read is = ap (λ p. changes_done (phase_after_key table work.statement p read)) is ∙ sym (ap changes_done is)

  visit_done : (table : StoredTable) (work : Work) (x : Search) → work.phase ≡ visiting → changes_done (phase_after_visit table work.statement x) ≡ changes_done work.phase
  visit_done table work x is = by_stack (is_empty x.stack) ∙ sym (ap changes_done is)
    where
      by_stack : (b : Bool) → changes_done (cond b (phase_of_keys table work.statement (rising x.found) []) visiting) ≡ []
      by_stack true = keys_done table work.statement (rising x.found) []
      by_stack false = refl

  scan_done : (table : StoredTable) (work : Work) (leaf : Leaf) (read : List (ℤ × Option Row)) (last : Option ℕ) → work.phase ≡ scanning last
      → changes_done (phase_after_leaf table work.statement leaf read) ≡ changes_done work.phase
  scan_done table work leaf read last is = by_last (is_none (leaf_behind table.leaves leaf.page)) ∙ sym (ap changes_done is)
    where
      by_last : (b : Bool) → changes_done (cond b (phase_with work.statement (indexed table) [] (changes_of work.statement read)) (scanning (Some leaf.page))) ≡ []
      by_last true = nothing_done work.statement (indexed table) (changes_of work.statement read)
      by_last false = refl

  row_done : (s : ℕ) (table : StoredTable) (en : IsEntering (session_at state.sessions s)) → changes_done (phase_after_row table en.work en.work.phase) ≡ en.done ++ en.change ∷ []
  row_done s table en = ap (λ p. changes_done (phase_after_row table en.work p)) en.phase ∙ done_with en.work.statement (indexed table) (en.done ++ en.change ∷ []) en.left

  pub written_each : EachKeeps m state (λ (st : State). HaveWritten st.sessions)
  written_each = record {
    still = o.written;
    purge = λ some. o.written;
    end = λ s over active. without_work s _ active refl;
    answer = λ s reply active at. without_work s _ active refl;
    undo = λ s entry more active at. undoes s entry _ active at refl refl refl;
    create = λ s over name schema leaf roots active at may. without_work s _ active refl;
    refuse = λ s on ds active at may. undisturbed_victims (λ k session work. HasWritten session work) state.sessions ds (λ k work at' undisturbed. o.written k work at' undisturbed);
    lock_table = λ s statement number mode active at none. begins s _ _ active refl refl refl refl (first_done (table_at state.tables number) statement (m.ways (table_at state.tables number).schema statement));
    lock_key = λ s number key mode active at none. at_work s _ _ at.work active at.goes_on refl refl refl refl (key_done (table_at state.tables number) at.work key at.keys _ at.phase);
    lock_row = λ s number key mode active at none. at_work s _ _ at.work active at.goes_on refl refl refl refl (row_key_done (table_at state.tables number) at.work at.done at.change at.left _ at.phase);
    visit = λ s number column predicate active at. at_work s _ _ at.work active at.goes_on refl refl refl refl (visit_done (table_at state.tables number) at.work (seen_now m state o s number column predicate at) at.phase);
    scan = λ s number leaf active at. at_work s _ _ at.work active at.goes_on refl refl refl refl (scan_done (table_at state.tables number) at.work leaf (at.work.read ++ map as_read (rows_in leaf)) at.last at.phase);
    step = λ s d q active at may. at_work s _ _ at.descending.entering.work active at.descending.entering.goes_on refl refl refl refl (entry_done _ at.descending.entering.work.phase);
    stale = λ s d active at. at_work s _ _ at.descending.entering.work active at.descending.entering.goes_on refl refl refl refl (entry_done _ at.descending.entering.work.phase);
    full = λ s active at. at_work s _ _ at.work active at.goes_on refl refl refl refl refl;
    place = λ s d q ds active at may. at_work s _ _ at.descending.entering.work active at.descending.entering.goes_on refl refl refl refl (entry_done _ at.descending.entering.work.phase);
    row = λ s number change placed p active at may. writes_row s number change placed _ _ _ active at (fresh s at.entering) refl refl (λ w. refl) (λ w. refl) (row_done s (table_at state.tables number) at.entering);
  }

pub written_kept : (m : Machine) (state : State) (actor : Actor) (choice : Choice) → IsProper m → InOrder m state → MayHappen m state actor choice → HaveWritten (after m state actor choice).sessions
written_kept m state actor choice good o h = event_keeps m state good o (λ (st : State). HaveWritten st.sessions) (written_each m state good o) actor choice h
