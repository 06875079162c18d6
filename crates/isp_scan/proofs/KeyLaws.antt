-- A row that is looked up by the key that a condition names: the condition holds of no other.
use Rattle.std.proofs.Common.{◌≡◌, ℤ, Bool, true, false, List, [], ◌∷◌, map, Option, Some, None, refl, sym, ◌∙◌, ap, subst, arith, if◌then◌else◌}
use Rattle.std.specs.Prelude.{int_lt}
use Rattle.std.specs.List.{AllByRecursion}
use Rattle.std.specs.Option.{option_map}
use Rattle.std.specs.Ordering.{int_eq}
use Rattle.std.proofs.lemmas.Int.{ints}
use Rattle.isp_catalog.specs.declared.table.TableDef.{TableDef}
use Rattle.isp_changes.specs.Changes.{found_at, is_held, piece_of}
use Rattle.isp_changes.specs.Stages.{HasHeld}
use Rattle.isp_changes.proofs.StageProofs.{reads_by_key}
use Rattle.isp_clustered.specs.Cells.{kept_of}
use Rattle.isp_clustered.specs.Leaves.{kept_row_of}
use Rattle.isp_clustered.specs.Rows.{find}
use Rattle.isp_clustered.specs.Trees.{rows_of}
use Rattle.isp_clustered.specs.declared.kept.Kept.{Kept}
use Rattle.isp_clustered.specs.declared.kept.KeptRow.{KeptRow}
use Rattle.isp_image.specs.Databases.{FileRow, FileTable, row_key, seen, shown}
use Rattle.isp_image.specs.Files.{IsFileRow}
use Rattle.isp_image.specs.Keyed.{found, joined}
use Rattle.isp_image.proofs.FileLaws.{stored_of, table_rises}
use Rattle.isp_image.proofs.SeenLaws.{shown_rises}
use Rattle.isp_image.proofs.ShownLaws.{rising_of, row_at_shown}
use Rattle.isp_image.proofs.StoredLaws.{find_row}
use Rattle.isp_page.specs.declared.pages.Pages.{Ghosts}
use Rattle.isp_paths.specs.Paths.{path_by, path_of}
use Rattle.isp_paths.specs.Reaching.{Reaches}
use Rattle.isp_paths.specs.declared.access.Path.{Path}
use Rattle.isp_paths.specs.declared.access.Path.TheVariants.{Key, Tree, Scan}
use Rattle.isp_paths.proofs.ReachLaws.{key_is, path_reaches}
use Rattle.isp_plain.specs.Conditions.{holds}
use Rattle.isp_plain.specs.Values.{key_of}
use Rattle.isp_plain.specs.declared.statement.Condition.{Condition}
use Rattle.isp_plain.specs.declared.statement.Statement.{Statement}
use Rattle.isp_plain.specs.declared.statement.Statement.TheVariants.{Create, Insert, Select, Update, Delete, Begin, Commit, Rollback, Refused}
use Rattle.isp_plain.specs.declared.value.Column.{Column}
use Rattle.isp_plain.specs.declared.value.Row.{Row}
use Rattle.isp_plain.specs.declared.value.Schema.{Schema}
use Rattle.isp_scan.specs.Keys.{key_of_path, named_key}
use Rattle.isp_scan.specs.Scanning.{AreKeptAs, HasFileTable}
use Rattle.isp_scan.proofs.RowLaws.{are_keyed}

-- ---- the row that is read

found_each : (schema : Schema) (key : ℤ) (rows : List FileRow) → AllByRecursion (IsFileRow schema) rows → AllByRecursion (IsFileRow schema) (joined (found row_key key rows) [])
found_each schema key [] each = tt
found_each schema key (r ∷ rows) each = by (int_lt r.stored.key key) (int_eq r.stored.key key) (found_each schema key rows each.1)
  where
    by : (b c : Bool) → AllByRecursion (IsFileRow schema) (joined (found row_key key rows) []) → AllByRecursion (IsFileRow schema) (joined (if b then found row_key key rows else (if c then Some r else None)) [])
    by true c rest = rest
    by false true rest = (each.0, tt)
    by false false rest = tt

found_there : (key : ℤ) (rows : List FileRow) (r : FileRow) → found row_key key rows ≡ Some r → r.stored.key ≡ key
found_there key [] r is = absurd (let no : None ≡ Some r = is in cc)
found_there key (x ∷ rows) r is = by (int_lt x.stored.key key) (int_eq x.stored.key key) refl is (λ later. found_there key rows r later)
  where
    by : (b c : Bool) → int_eq x.stored.key key ≡ c → (if b then found row_key key rows else (if c then Some x else None)) ≡ Some r → (found row_key key rows ≡ Some r → r.stored.key ≡ key) → r.stored.key ≡ key
    by true c at is rest = rest is
    by false true at is rest =
        let same : x ≡ r = cc in
        let there : x.stored.key ≡ key = grind (arith, ints, at) in
        sym (ap row_key same) ∙ there
    by false false at is rest = absurd (let no : None ≡ Some r = is in cc)

-- a row with its key, as a list
abbrev pub keyed : ℤ → Option Kept → List KeptRow
keyed key None = []
keyed key (Some kept) = record { key = key; kept = kept } ∷ []

kept_there : (key : ℤ) (o : Option FileRow) → ((r : FileRow) → o ≡ Some r → r.stored.key ≡ key) → keyed key (option_map kept_of (option_map stored_of o)) ≡ map (λ (r : FileRow). kept_row_of r.stored) (joined o [])
kept_there key None at = refl
kept_there key (Some r) at = λ i. record { key = sym (at r refl) i; kept = kept_of r.stored } ∷ []

pub kept_as : {S : Type 0} (g : Ghosts S) (now : S) (def : TableDef) (t : FileTable) (key : ℤ) (got : Option Kept) → HasFileTable g now def t → got ≡ option_map kept_of (find key (rows_of t.tree))
    → AreKeptAs def.schema (keyed key got) (joined (found row_key key t.rows) [])
kept_as g now def t key got has is = record {
  are = ap (keyed key) (is ∙ ap (option_map kept_of) (ap (find key) has.table.rows ∙ find_row key t.rows)) ∙ kept_there key (found row_key key t.rows) (found_there key t.rows);
  spell = subst (λ (d : TableDef). AllByRecursion (IsFileRow d.schema) (joined (found row_key key t.rows) [])) has.is (found_each t.def.schema key t.rows has.table.each);
}

-- it is the row that is found there among those that are shown
shown_one : (key : ℤ) (o : Option FileRow) → ((r : FileRow) → o ≡ Some r → r.stored.key ≡ key) → shown (joined o []) ≡ piece_of key (seen o)
shown_one key None at = refl
shown_one key (Some r) at = by r.stored.marked
  where
    by : (b : Bool) → (if b then [] else (r.stored.key, r.row) ∷ []) ≡ piece_of key (if b then None else Some r.row)
    by true = refl
    by false = ap (λ (k : ℤ). piece_of k (Some r.row)) (at r refl)

pub found_shown : {S : Type 0} (g : Ghosts S) (now : S) (def : TableDef) (t : FileTable) (key : ℤ) → HasFileTable g now def t → shown (joined (found row_key key t.rows) []) ≡ found_at (shown t.rows) key
found_shown g now def t key has =
    shown_one key (found row_key key t.rows) (found_there key t.rows)
    ∙ ap (piece_of key) (sym (row_at_shown key t.rows (table_rises (g.shape now).pages (g.contents now) def.number t has.table)))

-- ---- no other row

none_key : {A : Type 0} (key : ℤ) → None ≡ Some key → A
none_key key is = cc

some_key : (a b : ℤ) → Some a ≡ Some b → a ≡ b
some_key a b is = cc

only_there : (columns : List Column) (w : Condition) (path : Path) (key : ℤ) (row : Row) → Reaches columns w path → key_of_path path ≡ Some key → holds w row ≡ true → key_of row ≡ key
only_there columns w (Key there) key row reaches is held = key_is there row (reaches row held) ∙ some_key there key is
only_there columns w (Tree column p) key row reaches is held = none_key key is
only_there columns w Scan key row reaches is held = none_key key is

only_key : (schema : Schema) (s : Statement) (key : ℤ) (row : Row) → key_of_path (path_of schema s) ≡ Some key → is_held s row ≡ true → key_of row ≡ key
only_key schema (Create name others) key row is held = none_key key is
only_key schema (Insert name rows) key row is held = none_key key is
only_key schema (Select name columns w) key row is held = only_there schema.columns w (path_by schema.columns w.atoms) key row (path_reaches schema.columns w) is held
only_key schema (Update name sets w) key row is held = only_there schema.columns w (path_by schema.columns w.atoms) key row (path_reaches schema.columns w) is held
only_key schema (Delete name w) key row is held = only_there schema.columns w (path_by schema.columns w.atoms) key row (path_reaches schema.columns w) is held
only_key schema Begin key row is held = none_key key is
only_key schema Commit key row is held = none_key key is
only_key schema Rollback key row is held = none_key key is
only_key schema (Refused refusal) key row is held = none_key key is

-- where the statement names a key, what holds of the rows found there is what holds of the table
pub held_by_key : {S : Type 0} (g : Ghosts S) (now : S) (def : TableDef) (t : FileTable) (s : Statement) (key : ℤ) → HasFileTable g now def t → named_key def s ≡ Some key → HasHeld s (shown t.rows) (found_at (shown t.rows) key ∷ [])
held_by_key g now def t s key has named =
    reads_by_key s (shown t.rows) key (rising_of (shown t.rows) (shown_rises t.rows (table_rises (g.shape now).pages (g.contents now) def.number t has.table)))
    (are_keyed g now def t has) (λ row held. only_key def.schema s key row named held)
