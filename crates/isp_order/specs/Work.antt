-- How far statements are, when it is in order: what they have locked, read, changed and placed, up to where they stand (a statement
-- that stops between any two steps is this project's own).
use Rattle.std.specs.Prelude.{◌≡◌, ◌≤◌, ◌<◌, ℕ, ℤ, ◌==◌, Bool, true, false, cond, List, [], ◌∷◌, ◌++◌, All, MatchBool, drop, flat_map, length, map, Option, Some, None}
use Rattle.std.specs.List.{last_or}
use Rattle.isp_base.specs.Lists.{Has}
use Rattle.isp_reclock.specs.declared.entries.Lock.{Lock}
use Rattle.isp_reclock.specs.Tables.{takes}
use Rattle.isp_plain.specs.declared.statement.Statement.{Statement}
use Rattle.isp_plain.specs.declared.statement.Statement.TheVariants.{Insert, Select, Update, Delete}
use Rattle.isp_plain.specs.declared.value.Row.{Row}
use Rattle.isp_plain.specs.declared.value.Schema.{Schema}
use Rattle.isp_serial.specs.Script.{text_at}
use Rattle.isp_serial.specs.Serial.{place_at}
use Rattle.isp_forest.specs.Tree.{Node, Tree, page_at}
use Rattle.isp_forest.specs.Place.{StartsAt}
use Rattle.isp_events.specs.Stored.{Leaf, StoredTable, indexed, present, row_of, table_at, tree_of, unmarked}
use Rattle.isp_events.specs.Sessions.{Change, Entering, Failure, Note, Phase, locking, visiting, scanning, writing, answering, Progress, unlocked, entering, SessionState, session_at, UndoEntry, Work, adding, changes_of, columns_for}
use Rattle.isp_events.specs.State.{TreeSearch, front}
use Rattle.isp_events.specs.Views.{first_image, row_or}
use Rattle.isp_events.specs.Ways.{IsSettable, IsStorable, Machine, Way, by_key, by_box, by_scan, Ways}
use Rattle.isp_events.specs.Next.{box_of_new, key_mode, table_mode}
use Rattle.isp_events.specs.Reading.{as_read, is_of, rising}
use Rattle.isp_events.specs.Writing.{ascend}
use Rattle.isp_order.specs.Trees.{IsPending, LiesIn}
use Rattle.isp_order.specs.Locks.{Holds, without_rows}
use Rattle.isp_order.specs.Searches.{is_visiting}

-- of each session at work, and of each that isn't the victim of a deadlock too
abbrev pub OfEachWork : List SessionState → (ℕ → SessionState → Work → Type 0) → Type 0
OfEachWork sessions P = (s : ℕ) (work : Work) → (session_at sessions s).work ≡ Some work → P s (session_at sessions s) work

abbrev pub OfEachUndisturbed : List SessionState → (ℕ → SessionState → Work → Type 0) → Type 0
OfEachUndisturbed sessions P =
    (s : ℕ) (work : Work) → (session_at sessions s).work ≡ Some work → (session_at sessions s).victim ≡ false → P s (session_at sessions s) work

abbrev pub way_of : Ways → List StoredTable → Work → Way
way_of ways tables work = ways (table_at tables work.table).schema work.statement

-- ---- the statement

-- a statement on rows of a table with these columns, with values that it can hold
abbrev pub IsServed : Schema → Statement → Type 0
IsServed schema (Insert name rows) = All (IsStorable schema) rows
IsServed schema (Select name columns w) = Unit {0}
IsServed schema (Update name sets w) = All (IsSettable schema) sets
IsServed schema (Delete name w) = Unit {0}
IsServed schema _ = ⊥

abbrev pub table_name : Statement → List ℕ
table_name (Insert name rows) = name
table_name (Select name columns w) = name
table_name (Update name sets w) = name
table_name (Delete name w) = name
table_name _ = []

abbrev pub is_by_scan : Way → Bool
is_by_scan by_scan = true
is_by_scan _ = false

abbrev pub is_by_box : Way → Bool
is_by_box (by_box column predicate) = true
is_by_box _ = false

-- phases of a statement that finds rows by its way, up to its answer: it locks keys where it doesn't scan
abbrev pub FitsWay : Phase → Way → Type 0
FitsWay (locking keys) way = is_by_scan way ≡ false
FitsWay visiting way = is_by_box way ≡ true
FitsWay (scanning last) way = is_by_scan way ≡ true
FitsWay (writing done left unlocked) way = ⊥
FitsWay (writing done left (entering e)) way = Unit {0}
FitsWay (answering done) way = Unit {0}

-- INSERT finds nothing, and alone locks keys as it writes
abbrev pub FitsInsert : Phase → Type 0
FitsInsert (writing done left progress) = Unit {0}
FitsInsert (answering done) = Unit {0}
FitsInsert _ = ⊥

abbrev pub FitsPhase : Way → Statement → Phase → Type 0
FitsPhase way (Insert name rows) phase = FitsInsert phase
FitsPhase way _ phase = FitsWay phase way

-- the statement is what the session's text means, on the table of that number, and in a phase that it can be in
pub record IsBound (m : Machine) (tables : List StoredTable) (s : ℕ) (session : SessionState) (work : Work) : Type 0 where
  pub text : List ℕ
  pub text_is : text_at m.script s session.number ≡ Some text
  pub means : m.language.meaning (without_rows tables) (place_at s session.inside) text ≡ work.statement
  pub first : 1 ≤ work.table
  pub last : work.table ≤ length tables
  pub name : (table_at tables work.table).name ≡ table_name work.statement
  pub served : IsServed (table_at tables work.table).schema work.statement
  pub phase : FitsPhase (way_of m.ways tables work) work.statement work.phase

abbrev pub AreBound : Machine → List StoredTable → List SessionState → Type 0
AreBound m tables sessions = OfEachWork sessions (IsBound m tables)

-- the table is locked as the statement's way has it
abbrev pub HaveTable : Ways → List StoredTable → List Lock → List SessionState → Type 0
HaveTable ways tables locks sessions =
    OfEachWork sessions (λ s session work. Holds locks s work.table None (table_mode work.statement (way_of ways tables work)))

-- ---- what it has read

abbrev pub keys_left : Phase → List ℤ
keys_left (locking keys) = keys
keys_left _ = []

-- the keys that it has read, and those that it still has to lock
abbrev pub keys_sought : Work → List ℤ
keys_sought work = map (λ r. r.0) work.read ++ keys_left work.phase

-- by scan it is the table that is locked
abbrev pub IsReadLocked : List Lock → ℕ → Work → Way → ℤ → Type 0
IsReadLocked locks s work by_scan key = Unit {0}
IsReadLocked locks s work _ key = Holds locks s work.table (Some key) (key_mode work.statement)

-- the keys are those that the statement's search has found
pub record AreFound (searches : List TreeSearch) (s number : ℕ) (keys : List ℤ) : Type 0 where
  pub search : TreeSearch
  pub among : Has searches search
  pub of : is_of s number search ≡ true
  pub found : keys ≡ rising search.search.found

abbrev pub AreSought : List TreeSearch → ℕ → ℕ → Work → Way → Type 0
AreSought searches s number work (by_key key) = keys_sought work ≡ key ∷ []
AreSought searches s number work (by_box column predicate) =
    MatchBool (is_visiting work.phase) (work.read ≡ []) (AreFound searches s number (keys_sought work))
AreSought searches s number work by_scan = Unit {0}

-- by key it is that one, by box those that were found, and INSERT reads none
abbrev pub AreSoughtBy : List TreeSearch → ℕ → ℕ → Work → Way → Statement → Type 0
AreSoughtBy searches s number work way (Insert name rows) = work.read ≡ []
AreSoughtBy searches s number work way _ = AreSought searches s number work way

-- each key that was read is locked, by its way, and the keys rise
pub record HasKeys (ways : Ways) (tables : List StoredTable) (locks : List Lock) (searches : List TreeSearch) (s : ℕ) (session : SessionState) (work : Work) : Type 0 where
  pub locked : (key : ℤ) (row : Option Row) → Has {X = ℤ × Option Row} work.read (key, row) → IsReadLocked locks s work (way_of ways tables work) key
  pub rising : ascend (keys_sought work) ≡ true
  pub sought : AreSoughtBy searches s session.number work (way_of ways tables work) work.statement

abbrev pub HaveKeys : Ways → List StoredTable → List Lock → List TreeSearch → List SessionState → Type 0
HaveKeys ways tables locks searches sessions = OfEachWork sessions (HasKeys ways tables locks searches)

abbrev pub leaves_through : List Leaf → ℕ → List Leaf
leaves_through [] page = []
leaves_through (leaf ∷ leaves) page = leaf ∷ cond (leaf.page == page) [] (leaves_through leaves page)

abbrev pub leaves_scanned : List Leaf → Option ℕ → List Leaf
leaves_scanned leaves None = []
leaves_scanned leaves (Some page) = leaves_through leaves page

abbrev pub IsReadOf : StoredTable → Work → Phase → Type 0
IsReadOf table work (scanning last) = work.read ≡ map as_read (unmarked (flat_map (λ (leaf : Leaf). leaf.rows) (leaves_scanned table.leaves last)))
IsReadOf table work _ = Unit {0}

-- while it scans, it has read the rows on the leaves that it has gone over
abbrev pub HaveScanned : List StoredTable → List SessionState → Type 0
HaveScanned tables sessions = OfEachUndisturbed sessions (λ s session work. IsReadOf (table_at tables work.table) work work.phase)

-- the undo entries of the statement that is at work
abbrev pub undo_since : SessionState → Work → List UndoEntry
undo_since session work = drop work.begun session.undo

-- what stood at the key as the statement began: what its undo list puts back, or what stands there now
abbrev pub row_before : List StoredTable → List UndoEntry → ℕ → ℤ → Option Row
row_before tables undo table key = row_or (first_image undo table key) (row_of (present (table_at tables table) key))

-- what was read of a key stood there as the statement began; so where the statement has not written it, it stands there now
abbrev pub AreStanding : List StoredTable → List SessionState → Type 0
AreStanding tables sessions = OfEachUndisturbed sessions
    (λ s session work. (key : ℤ) (row : Option Row) → Has {X = ℤ × Option Row} work.read (key, row) → row_before tables (undo_since session work) work.table key ≡ row)

-- ---- what it changes

-- the changes that it makes, of what it has read, or of its rows
abbrev pub changes_by : Statement → List (ℤ × Option Row) → List Change
changes_by (Insert name rows) read = map adding rows
changes_by statement read = changes_of statement read

-- the change at hand, once its key is locked: what it changes stands there
pub record IsAtHand (tables : List StoredTable) (locks : List Lock) (s : ℕ) (work : Work) (change : Change) : Type 0 where
  pub stands : row_of (present (table_at tables work.table) change.key) ≡ change.old
  pub locked : takes locks work.table change.key s ≡ true

abbrev pub IsFirstAtHand : List StoredTable → List Lock → ℕ → Work → List Change → Progress → Type 0
IsFirstAtHand tables locks s work (change ∷ left) (entering e) = IsAtHand tables locks s work change
IsFirstAtHand tables locks s work left progress = Unit {0}

-- of each change done the new row stands there, or none where it deletes
abbrev pub AreMade : List StoredTable → Work → List Change → Type 0
AreMade tables work done = (change : Change) → Has done change → row_of (present (table_at tables work.table) change.key) ≡ change.new

-- changes done and left, in order, are all that it makes
pub record IsWriting (tables : List StoredTable) (locks : List Lock) (s : ℕ) (work : Work) (done left : List Change) (progress : Progress) : Type 0 where
  pub all : done ++ left ≡ changes_by work.statement work.read
  pub made : AreMade tables work done
  pub at_hand : IsFirstAtHand tables locks s work left progress

pub record HasChanged (tables : List StoredTable) (work : Work) (done : List Change) : Type 0 where
  pub all : done ≡ changes_by work.statement work.read
  pub made : AreMade tables work done

abbrev pub IsChanging : List StoredTable → List Lock → ℕ → Work → Phase → Type 0
IsChanging tables locks s work (writing done left progress) = IsWriting tables locks s work done left progress
IsChanging tables locks s work (answering done) = HasChanged tables work done
IsChanging tables locks s work _ = Unit {0}

-- so of each that has not failed
abbrev pub AreChanging : List StoredTable → List Lock → List SessionState → Type 0
AreChanging tables locks sessions =
    OfEachUndisturbed sessions (λ s session work. work.failure ≡ None → IsChanging tables locks s work work.phase)

-- of the change at hand, each number placed is pending and lies on its leaf with the new row's box and key; and these are the columns
-- that are to have new entries
pub record HasCollected (tables : List StoredTable) (sessions : List SessionState) (s : ℕ) (work : Work) (change : Change) (e : Entering) : Type 0 where
  pub lies : (column number : ℕ) → Has {X = ℕ × ℕ} e.placed (column, number)
      → LiesIn tables (record { table = work.table; column = column; key = change.key; number = number; box = box_of_new change.new column })
  pub pending : (column number : ℕ) → Has {X = ℕ × ℕ} e.placed (column, number) → IsPending sessions s number
  pub columns : map (λ p. p.0) e.placed ++ e.columns ≡ columns_for (indexed (table_at tables work.table)) change.old change.new

abbrev pub IsCollecting : List StoredTable → List SessionState → ℕ → Work → Phase → Type 0
IsCollecting tables sessions s work (writing done (change ∷ left) (entering e)) = HasCollected tables sessions s work change e
IsCollecting tables sessions s work _ = Unit {0}

abbrev pub HaveCollected : List StoredTable → List SessionState → Type 0
HaveCollected tables sessions = OfEachWork sessions (λ s session work. IsCollecting tables sessions s work work.phase)

-- ---- what it would undo

abbrev pub changes_done : Phase → List Change
changes_done (writing done left progress) = done
changes_done (answering done) = done
changes_done _ = []

-- each key once
abbrev pub AreApart : List ℤ → Type 0
AreApart [] = Unit {0}
AreApart (key ∷ keys) = (Has keys key → ⊥) × AreApart keys

abbrev pub keys_changed : List Change → List ℤ
keys_changed changes = map (λ change. change.key) changes

abbrev pub keys_undone : List UndoEntry → List ℤ
keys_undone undo = map (λ (u : UndoEntry). u.key) undo

-- the statement would undo exactly the changes done; where it has failed, it undoes them from the last one on
abbrev pub IsUndoOf : Option Failure → List ℤ → List ℤ → Type 0
IsUndoOf None undo done = undo ≡ done
IsUndoOf (Some failure) undo done = (rest : List ℤ) × (undo ++ rest ≡ done)

pub record HasWritten (session : SessionState) (work : Work) : Type 0 where
  pub begun : work.begun ≤ length session.undo
  pub of_table : (u : UndoEntry) → Has (undo_since session work) u → u.table ≡ work.table
  pub undo : IsUndoOf work.failure (keys_undone (undo_since session work)) (keys_changed (changes_done work.phase))
  pub once : AreApart (keys_changed (changes_done work.phase))

abbrev pub HaveWritten : List SessionState → Type 0
HaveWritten sessions = OfEachUndisturbed sessions (λ s session work. HasWritten session work)

-- ---- what it has noted

abbrev pub is_before_writing : Phase → Bool
is_before_writing (writing done left progress) = false
is_before_writing (answering done) = false
is_before_writing _ = true

-- the statement has placed and replaced nothing yet: it isn't behind its table lock, or finds its rows
abbrev pub is_finding : Option Work → Bool
is_finding None = true
is_finding (Some work) = is_before_writing work.phase

-- nothing was noted by a later statement than the present one, and by that one nothing until it writes
pub record AreNotedBefore (session : SessionState) : Type 0 where
  pub not_later : (note : Note) → Has session.notes note → note.statement ≤ session.number
  pub not_yet : (note : Note) → Has session.notes note → is_finding session.work ≡ true → note.statement < session.number

abbrev pub AreAllBefore : List SessionState → Type 0
AreAllBefore sessions = (s : ℕ) → AreNotedBefore (session_at sessions s)

-- ---- paths

pub record IsInner (tree : Tree) (p : ℕ) : Type 0 where
  pub page : Node
  pub there : page_at tree p ≡ Some page
  pub level : 0 < page.level

-- a path that isn't empty begins with the root; its pages but the last are inner, and so is the last where it joined as such
pub record IsDescent (tree : Tree) (path : List ℕ) (at_leaf : Bool) : Type 0 where
  pub starts : StartsAt tree.root path
  pub inner : (p : ℕ) → Has (front path) p → IsInner tree p
  pub last : (p : ℕ) → last_or None path ≡ Some p → (page : Node) × (page_at tree p ≡ Some page)
  pub last_inner : (p : ℕ) → last_or None path ≡ Some p → at_leaf ≡ false → IsInner tree p

abbrev pub IsPathIn : Tree → List ℕ → Bool → Type 0
IsPathIn tree [] at_leaf = Unit {0}
IsPathIn tree (p ∷ path) at_leaf = IsDescent tree (p ∷ path) at_leaf

abbrev pub IsPathOf : StoredTable → Entering → List ℕ → Type 0
IsPathOf table e [] = Unit {0}
IsPathOf table e (column ∷ columns) = IsPathIn (tree_of table column) e.path e.at_leaf

abbrev pub IsOnPath : StoredTable → Phase → Type 0
IsOnPath table (writing done left (entering e)) = IsPathOf table e e.columns
IsOnPath table _ = Unit {0}

abbrev pub AreOnPaths : List StoredTable → List SessionState → Type 0
AreOnPaths tables sessions = OfEachWork sessions (λ s session work. IsOnPath (table_at tables work.table) work.phase)
