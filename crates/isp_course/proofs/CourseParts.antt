-- What statements on course need of phases, leaves, and failures.
use Rattle.std.proofs.Common.{◌≡◌, ◌⊎◌, ◌∙◌, ◌≤◌, ◌<◌, inl, inr, refl, sym, ap, subst, ℕ, ℤ, ◌==◌, ◌&&◌, ◌||◌, Bool, true, false, cond, is_none, Option, Some, None, List, [], ◌∷◌, ◌++◌, map}
use Rattle.std.specs.List.{cons_option, list_any}
use Rattle.std.proofs.lemmas.Bool.{false≢true, or_cases}
use Rattle.isp_base.specs.Lists.{Has}
use Rattle.isp_reclock.specs.declared.modes.Mode.TheVariants.{X}
use Rattle.isp_plain.specs.declared.statement.Statement.{Statement}
use Rattle.isp_plain.specs.declared.statement.Statement.TheVariants.{Create, Insert, Select, Update, Delete, Begin, Commit, Rollback, Refused}
use Rattle.isp_plain.specs.declared.value.Row.{Row}
use Rattle.isp_plain.specs.Values.{key_of}
use Rattle.isp_changes.specs.Changes.{is_held}
use Rattle.isp_forest.specs.Search.{Search}
use Rattle.isp_events.specs.Stored.{KeptRow, Leaf, StoredTable, first_leaf, indexed, leaf_behind, row_of, row_with_key, unmarked, version_of}
use Rattle.isp_events.specs.Sessions.{Change, Entering, Failure, duplicate, too_large, file_full, Phase, locking, visiting, scanning, writing, answering, unlocked, Work, adding, changes_of, outgrows_by, phase_with}
use Rattle.isp_events.specs.State.{State, is_empty}
use Rattle.isp_events.specs.Ways.{Way, by_key, by_box, by_scan}
use Rattle.isp_events.specs.Asking.{failure_of_found, noted, phase_of_keys}
use Rattle.isp_events.specs.Reading.{phase_after_leaf, phase_after_visit, rising}
use Rattle.isp_events.specs.Placing.{phase_with_entry}
use Rattle.isp_order.specs.Work.{FitsPhase, changes_done, is_before_writing, is_by_box, is_by_scan, keys_changed, leaves_through}
use Rattle.isp_answers.specs.Course.{HasDuplicate, HasTooLarge, IsOnCourse, is_insert}

pub some_is : {X : Type 0} (x y : X) → Some x ≡ Some y → x ≡ y
some_is x y h = cc

pub none_some : {X : Type 0} (x : X) → None ≡ Some x → ⊥
none_some x h = cc

-- ---- phases

pub with_writes : (statement : Statement) (columns : List ℕ) (done left : List Change) → is_before_writing (phase_with statement columns done left) ≡ false
with_writes statement columns done [] = refl
with_writes statement columns done (change ∷ left) = refl

pub with_done : (statement : Statement) (columns : List ℕ) (done left : List Change) → changes_done (phase_with statement columns done left) ≡ done
with_done statement columns done [] = refl
with_done statement columns done (change ∷ left) = refl

pub keys_done : (table : StoredTable) (statement : Statement) (keys : List ℤ) (read : List (ℤ × Option Row)) → changes_done (phase_of_keys table statement keys read) ≡ []
keys_done table statement [] read = with_done statement (indexed table) [] (changes_of statement read)
keys_done table statement (key ∷ keys) read = refl

pub entry_writes : (f : Entering → Entering) (phase : Phase) → is_before_writing (phase_with_entry f phase) ≡ is_before_writing phase
entry_writes f (locking keys) = refl
entry_writes f visiting = refl
entry_writes f (scanning last) = refl
entry_writes f (writing done left progress) = refl
entry_writes f (answering done) = refl

pub entry_done : (f : Entering → Entering) (phase : Phase) → changes_done (phase_with_entry f phase) ≡ changes_done phase
entry_done f (locking keys) = refl
entry_done f visiting = refl
entry_done f (scanning last) = refl
entry_done f (writing done left progress) = refl
entry_done f (answering done) = refl

pub visit_done : (table : StoredTable) (statement : Statement) (x : Search) → changes_done (phase_after_visit table statement x) ≡ []
visit_done table statement x = by_left (is_empty x.stack)
  where
    by_left : (b : Bool) → changes_done (cond b (phase_of_keys table statement (rising x.found) []) visiting) ≡ []
    by_left true = keys_done table statement (rising x.found) []
    by_left false = refl

pub leaf_done : (table : StoredTable) (statement : Statement) (leaf : Leaf) (read : List (ℤ × Option Row)) → changes_done (phase_after_leaf table statement leaf read) ≡ []
leaf_done table statement leaf read = by_last (is_none (leaf_behind table.leaves leaf.page))
  where
    by_last : (b : Bool) → changes_done (cond b (phase_with statement (indexed table) [] (changes_of statement read)) (scanning (Some leaf.page))) ≡ []
    by_last true = with_done statement (indexed table) [] (changes_of statement read)
    by_last false = refl

pub leaf_last : (table : StoredTable) (statement : Statement) (leaf : Leaf) (read : List (ℤ × Option Row)) → is_before_writing (phase_after_leaf table statement leaf read) ≡ false
    → leaf_behind table.leaves leaf.page ≡ None
leaf_last table statement leaf read h = by_behind (leaf_behind table.leaves leaf.page) h
  where
    by_behind : (l : Option Leaf) → is_before_writing (cond (is_none l) (phase_with statement (indexed table) [] (changes_of statement read)) (scanning (Some leaf.page))) ≡ false → l ≡ None
    by_behind None e = refl
    by_behind (Some l) e = absurd (false≢true (sym e))

pub not_scanned : (way : Way) (statement : Statement) (keys : List ℤ) → FitsPhase way statement (locking keys) → is_by_scan way ≡ false
not_scanned way (Insert name rows) keys h = absurd h
not_scanned way (Select name columns w) keys h = h
not_scanned way (Create name schema) keys h = h
not_scanned way (Update name sets w) keys h = h
not_scanned way (Delete name w) keys h = h
not_scanned way Begin keys h = h
not_scanned way Commit keys h = h
not_scanned way Rollback keys h = h
not_scanned way (Refused refusal) keys h = h

pub box_not_scan : (way : Way) → is_by_box way ≡ true → is_by_scan way ≡ false
box_not_scan (by_key key) h = refl
box_not_scan (by_box column predicate) h = refl
box_not_scan by_scan h = absurd (false≢true h)

pub visits_not_scan : (way : Way) (statement : Statement) → FitsPhase way statement visiting → is_by_scan way ≡ false
visits_not_scan way (Insert name rows) h = absurd h
visits_not_scan way (Select name columns w) h = box_not_scan way h
visits_not_scan way (Create name schema) h = box_not_scan way h
visits_not_scan way (Update name sets w) h = box_not_scan way h
visits_not_scan way (Delete name w) h = box_not_scan way h
visits_not_scan way Begin h = box_not_scan way h
visits_not_scan way Commit h = box_not_scan way h
visits_not_scan way Rollback h = box_not_scan way h
visits_not_scan way (Refused refusal) h = box_not_scan way h

-- a row of INSERT is the change at hand where its key is to be locked
pub record IsInsert (statement : Statement) : Type 0 where
  pub name : List ℕ
  pub rows : List Row
  pub is : statement ≡ Insert name rows

pub unlocked_inserts : (way : Way) (statement : Statement) (done left : List Change) → FitsPhase way statement (writing done left unlocked) → IsInsert statement
unlocked_inserts way (Insert name rows) done left h = record { name = name; rows = rows; is = refl }
unlocked_inserts way (Select name columns w) done left h = absurd h
unlocked_inserts way (Create name schema) done left h = absurd h
unlocked_inserts way (Update name sets w) done left h = absurd h
unlocked_inserts way (Delete name w) done left h = absurd h
unlocked_inserts way Begin done left h = absurd h
unlocked_inserts way Commit done left h = absurd h
unlocked_inserts way Rollback done left h = absurd h
unlocked_inserts way (Refused refusal) done left h = absurd h

pub insert_is : (statement : Statement) → is_insert statement ≡ true → IsInsert statement
insert_is (Insert name rows) h = record { name = name; rows = rows; is = refl }
insert_is (Select name columns w) h = absurd (false≢true h)
insert_is (Create name schema) h = absurd (false≢true h)
insert_is (Update name sets w) h = absurd (false≢true h)
insert_is (Delete name w) h = absurd (false≢true h)
insert_is Begin h = absurd (false≢true h)
insert_is Commit h = absurd (false≢true h)
insert_is Rollback h = absurd (false≢true h)
insert_is (Refused refusal) h = absurd (false≢true h)

pub not_held : (statement : Statement) (row : Row) → IsInsert statement → is_held statement row ≡ true → ⊥
not_held statement row i h = false≢true (sym (ap (λ st. is_held st row) i.is) ∙ h)

-- rows added, split where some are done
pub record IsSplit (rows : List Row) (done : List Change) (change : Change) : Type 0 where
  pub earlier : List Row
  pub row : Row
  pub rest : List Row
  pub all : rows ≡ earlier ++ row ∷ rest
  pub done_are : map adding earlier ≡ done
  pub change_is : adding row ≡ change

pub cons_head : {Y : Type 0} (x y : Y) (xs ys : List Y) → x ∷ xs ≡ y ∷ ys → x ≡ y
cons_head x y xs ys h = cc

pub cons_tail : {Y : Type 0} (x y : Y) (xs ys : List Y) → x ∷ xs ≡ y ∷ ys → xs ≡ ys
cons_tail x y xs ys h = cc

pub nil_cons : {Y : Type 0} (x : Y) (xs : List Y) → [] ≡ x ∷ xs → ⊥
nil_cons x xs h = cc

pub split_rows : (rows : List Row) (done : List Change) (change : Change) (left : List Change) → done ++ change ∷ left ≡ map adding rows → IsSplit rows done change
split_rows [] [] change left h = absurd (nil_cons change left (sym h))
split_rows [] (c ∷ done) change left h = absurd (nil_cons c (done ++ change ∷ left) (sym h))
split_rows (row ∷ rows) [] change left h =
    record { earlier = []; row = row; rest = rows; all = refl; done_are = refl; change_is = sym (cons_head change (adding row) left (map adding rows) h) }
split_rows (row ∷ rows) (c ∷ done) change left h =
    let s : IsSplit rows done change = split_rows rows done change left (cons_tail c (adding row) (done ++ change ∷ left) (map adding rows) h) in
    record {
      earlier = row ∷ s.earlier;
      row = s.row;
      rest = s.rest;
      all = ap (λ xs. row ∷ xs) s.all;
      done_are = ap (λ x. x ∷ map adding s.earlier) (sym (cons_head c (adding row) (done ++ change ∷ left) (map adding rows) h)) ∙ ap (λ xs. c ∷ xs) s.done_are;
      change_is = s.change_is;
    }

pub keys_of_adding : (rows : List Row) → keys_changed (map adding rows) ≡ map key_of rows
keys_of_adding [] = refl
keys_of_adding (row ∷ rows) = ap (λ ks. key_of row ∷ ks) (keys_of_adding rows)

-- ---- leaves

pub through_all : (leaves : List Leaf) (page : ℕ) → leaf_behind leaves page ≡ None → leaves_through leaves page ≡ leaves
through_all [] page h = refl
through_all (x ∷ leaves) page h = by_test (x.page == page) (through_all leaves page) h
  where
    none_first : (ls : List Leaf) → first_leaf ls ≡ None → [] ≡ ls
    none_first [] e = refl
    none_first (l ∷ ls) e = absurd (none_some l (sym e))

    by_test : (b : Bool) → (leaf_behind leaves page ≡ None → leaves_through leaves page ≡ leaves) → cond b (first_leaf leaves) (leaf_behind leaves page) ≡ None
        → x ∷ cond b [] (leaves_through leaves page) ≡ x ∷ leaves
    by_test true again k = ap (λ ls. x ∷ ls) (none_first leaves k)
    by_test false again k = ap (λ ls. x ∷ ls) (again k)

pub unmarked_has : (rows : List (ℤ × KeptRow)) (key : ℤ) (kept : KeptRow) (row : Row) → Has {X = ℤ × KeptRow} rows (key, kept) → row_of (version_of kept) ≡ Some row
    → Has {X = ℤ × Row} (unmarked rows) (key, row)
unmarked_has [] key kept row h shows = absurd h
unmarked_has (e ∷ rows) key kept row (inl is) shows =
    let r : row_of (version_of e.1) ≡ Some row = ap (λ (k : KeptRow). row_of (version_of k)) (ap (λ p. p.1) is) ∙ shows in
    subst (λ o. Has {X = ℤ × Row} (cons_option (row_with_key e.0 o) (unmarked rows)) (key, row)) (sym r) (inl (pair_is e.0 key row (ap (λ p. p.0) is)))
  where
    pair_is : (a c : ℤ) (b : Row) → a ≡ c → ◌≡◌ {A = ℤ × Row} (a, b) (c, b)
    pair_is a c b p = ap (λ x. (let y : ℤ × Row = (x, b) in y)) p
unmarked_has (e ∷ rows) key kept row (inr h) shows = by_row (row_of (version_of e.1)) (unmarked_has rows key kept row h shows)
  where
    by_row : (o : Option Row) → Has {X = ℤ × Row} (unmarked rows) (key, row) → Has {X = ℤ × Row} (cons_option (row_with_key e.0 o) (unmarked rows)) (key, row)
    by_row None again = again
    by_row (Some r) again = inr again

pub none_any : (test : ℤ × Row → Bool) (rows : List (ℤ × Row)) (e : ℤ × Row) → list_any test rows ≡ false → Has rows e → test e ≡ false
none_any test [] e h k = absurd k
none_any test (x ∷ rows) e h (inl is) = ap test (sym is) ∙ or_left (test x) (list_any test rows) h
  where
    or_left : (a b : Bool) → (a || b) ≡ false → a ≡ false
    or_left true b i = i
    or_left false b i = refl
none_any test (x ∷ rows) e h (inr k) = none_any test rows e (or_right (test x) (list_any test rows) h) k
  where
    or_right : (a b : Bool) → (a || b) ≡ false → b ≡ false
    or_right true b i = absurd (false≢true (sym i))
    or_right false b i = i

pub some_any : (test : ℤ × Row → Bool) (rows : List (ℤ × Row)) → list_any test rows ≡ true → (e : ℤ × Row) × Has rows e × (test e ≡ true)
some_any test [] h = absurd (false≢true h)
some_any test (x ∷ rows) h = elim (or_cases (test x) (list_any test rows) h) [
  | inl e ↦ (x, inl refl, e)
  | inr k ↦ (let r = some_any test rows k in (r.0, inr r.1, r.2))
]

-- ---- failures

pub noted_none : (b : Bool) → noted b too_large None ≡ None → b ≡ false
noted_none true h = absurd (none_some too_large (sym h))
noted_none false h = refl

pub noted_some : (b : Bool) (failure : Failure) → noted b too_large None ≡ Some failure → (b ≡ true) × (failure ≡ too_large)
noted_some true failure h = (refl, sym (some_is too_large failure h))
noted_some false failure h = absurd (none_some failure h)

pub large_apart : (key : ℤ) → too_large ≡ duplicate key → ⊥
large_apart key h = cc

pub full_large : file_full ≡ too_large → ⊥
full_large h = cc

pub full_apart : (key : ℤ) → file_full ≡ duplicate key → ⊥
full_apart key h = cc

abbrev pub duplicate_key : ℤ → Failure → ℤ
duplicate_key other (duplicate key) = key
duplicate_key other too_large = other
duplicate_key other file_full = other

pub found_large : (table : StoredTable) (statement : Statement) (row : Option Row) (failure : Failure) → failure_of_found table statement row None ≡ Some failure
    → (failure ≡ too_large) × ((r : Row) × (row ≡ Some r) × (outgrows_by table.schema statement r ≡ true))
found_large table statement None failure h = absurd (none_some failure h)
found_large table statement (Some r) failure h = (let n = noted_some (outgrows_by table.schema statement r) failure h in (n.1, (r, refl, n.0)))

pub found_small : (table : StoredTable) (statement : Statement) (row : Option Row) → failure_of_found table statement row None ≡ None → (r : Row) → row ≡ Some r
    → outgrows_by table.schema statement r ≡ false
found_small table statement None h r is = absurd (none_some r is)
found_small table statement (Some x) h r is = ap (outgrows_by table.schema statement) (sym (some_is x r is)) ∙ noted_none (outgrows_by table.schema statement x) h

-- ---- one work, with another phase or failure

-- what of the course isn't said of the phase
pub course_with : (state : State) (s : ℕ) (work : Work) (phase : Phase) → is_before_writing phase ≡ is_before_writing work.phase → changes_done phase ≡ changes_done work.phase
    → IsOnCourse state s work → IsOnCourse state s (record work { phase = phase })
course_with state s work phase writes done c = record {
  complete = λ unfailed later key row sees held. c.complete unfailed (sym writes ∙ later) key row sees held;
  small = λ unfailed key row has. c.small unfailed key row has;
  absent = λ unfailed inserts change has. c.absent unfailed inserts change (subst (λ (xs : List Change). Has xs change) done has);
  too_large = λ failed. (let l : HasTooLarge state work = c.too_large failed in record { key = l.key; row = l.row; read = l.read; outgrows = l.outgrows });
  duplicate = λ key failed. (let d : HasDuplicate state s work key = c.duplicate key failed in record {
    name = d.name;
    earlier = d.earlier;
    row = d.row;
    rest = d.rest;
    rows = d.rows;
    same_key = d.same_key;
    taken = d.taken;
    absent = d.absent;
    locked = d.locked;
    apart = d.apart;
    there = d.there;
  });
}
