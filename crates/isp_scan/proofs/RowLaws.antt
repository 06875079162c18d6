-- The rows of a table that are shown are rows of its schema with their own keys, which new values leave.
use Rattle.std.proofs.Common.{◌≡◌, ℤ, List, [], ◌∷◌, ◌++◌, subst}
use Rattle.std.specs.List.{AllByRecursion}
use Rattle.isp_catalog.specs.declared.table.TableDef.{TableDef}
use Rattle.isp_changes.specs.Rows.{AreKeyed}
use Rattle.isp_file_laws.proofs.EachLaws.{all_weaker, each_shown}
use Rattle.isp_file_laws.proofs.KeptLaws as file
use Rattle.isp_image.specs.Databases.{FileRow, FileTable, shown}
use Rattle.isp_image.specs.Files.{IsFileRow}
use Rattle.isp_page.specs.declared.pages.Pages.{Ghosts}
use Rattle.isp_plain.specs.Does.{with_sets}
use Rattle.isp_plain.specs.Values.{key_of}
use Rattle.isp_plain.specs.declared.statement.Assign.{Assign}
use Rattle.isp_plain.specs.declared.statement.Statement.{Statement}
use Rattle.isp_plain.specs.declared.statement.Statement.TheVariants.{Create, Insert, Select, Update, Delete, Begin, Commit, Rollback, Refused}
use Rattle.isp_plain.specs.declared.value.Row.{Row}
use Rattle.isp_plain.specs.declared.value.Schema.{Schema}
use Rattle.isp_row.specs.RowSpelling.{IsRowOf}
use Rattle.isp_work.specs.declared.found.Found.TheVariants.{Rows}
use Rattle.isp_work.proofs.ReadLaws.{KeepsKeys, KeepsKeysIn}
use Rattle.isp_scan.specs.Readings.{AreFoundFor, IsPutRow, SetsFit, SetsFitIn}
use Rattle.isp_scan.specs.Scanning.{HasFileTable}

-- ---- rows that are shown

pub are_rows : {S : Type 0} (g : Ghosts S) (now : S) (def : TableDef) (t : FileTable) → HasFileTable g now def t → AllByRecursion (λ (e : ℤ × Row). IsRowOf def.schema e.0 e.1) (shown t.rows)
are_rows g now def t has =
    subst (λ (d : TableDef). AllByRecursion (λ (e : ℤ × Row). IsRowOf d.schema e.0 e.1) (shown t.rows)) has.is
    (each_shown (IsRowOf t.def.schema) t.rows (all_weaker (IsFileRow t.def.schema) (λ (r : FileRow). IsRowOf t.def.schema r.stored.key r.row) t.rows (λ r spelled. spelled.spells.is_row) has.table.each))

pub are_keyed : {S : Type 0} (g : Ghosts S) (now : S) (def : TableDef) (t : FileTable) → HasFileTable g now def t → AreKeyed (shown t.rows)
are_keyed g now def t has =
    all_weaker (λ (e : ℤ × Row). IsRowOf def.schema e.0 e.1) (λ (e : ℤ × Row). key_of e.1 ≡ e.0) (shown t.rows) (λ e is. file.own_key def.schema e.0 e.1 is) (are_rows g now def t has)

-- ---- rows that are written

-- the new values keep the keys of rows of the schema
sets_keep : (schema : Schema) (sets : List Assign) (rows : List (ℤ × Row)) → SetsFit schema sets → AllByRecursion (λ (e : ℤ × Row). IsRowOf schema e.0 e.1) rows → KeepsKeys schema sets rows
sets_keep schema sets [] fit all = tt
sets_keep schema sets (e ∷ rows) fit all = ((λ small. file.own_key schema e.0 (with_sets sets e.1) (fit e.0 e.1 all.0)), sets_keep schema sets rows fit all.1)

pub keeps_keys : (schema : Schema) (s : Statement) (rows : List (ℤ × Row)) → SetsFitIn schema s → AllByRecursion (λ (e : ℤ × Row). IsRowOf schema e.0 e.1) rows → KeepsKeysIn schema s rows
keeps_keys schema (Create name others) rows fit all = tt
keeps_keys schema (Insert name new) rows fit all = tt
keeps_keys schema (Select name columns w) rows fit all = tt
keeps_keys schema (Update name sets w) rows fit all = sets_keep schema sets rows fit all
keeps_keys schema (Delete name w) rows fit all = tt
keeps_keys schema Begin rows fit all = tt
keeps_keys schema Commit rows fit all = tt
keeps_keys schema Rollback rows fit all = tt
keeps_keys schema (Refused refusal) rows fit all = tt

all_both : {X : Type 0} (P : X → Type 0) (xs ys : List X) → AllByRecursion P xs → AllByRecursion P ys → AllByRecursion P (xs ++ ys)
all_both P [] ys first second = second
all_both P (x ∷ xs) ys first second = (first.0, all_both P xs ys first.1 second)

-- rows that were found in one piece, and those of the next
pub found_both : (schema : Schema) (s : Statement) (xs ys : List Row) → AreFoundFor schema s (Rows xs) → AreFoundFor schema s (Rows ys) → AreFoundFor schema s (Rows (xs ++ ys))
found_both schema (Create name others) xs ys first second = tt
found_both schema (Insert name rows) xs ys first second = tt
found_both schema (Select name columns w) xs ys first second = tt
found_both schema (Update name sets w) xs ys first second = all_both (IsPutRow schema) xs ys first second
found_both schema (Delete name w) xs ys first second = tt
found_both schema Begin xs ys first second = tt
found_both schema Commit xs ys first second = tt
found_both schema Rollback xs ys first second = tt
found_both schema (Refused refusal) xs ys first second = tt
