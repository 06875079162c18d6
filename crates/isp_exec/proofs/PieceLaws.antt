-- A piece of a table that a statement reads: its rows are rows of the table, and behind it the statement stands one step further.
use Rattle.std.proofs.Common.{◌≡◌, ℕ, ℤ, Bool, true, false, cond, List, [], ◌∷◌, ◌++◌, slice_get, Option, Some, None, refl, sym, ◌∙◌, ap, subst}
use Rattle.std.specs.Prelude.{nat_lt}
use Rattle.std.specs.BTreeMap.{is_at}
use Rattle.std.specs.List.{AllByRecursion}
use Rattle.std.specs.Ordering.{int_cmp}
use Rattle.isp_base.specs.declared.page_no.PageNo.{PageNo}
use Rattle.isp_catalog.specs.declared.table.TableDef.{TableDef}
use Rattle.isp_changes.specs.Changes.{RowChange, found_at, held, piece_of}
use Rattle.isp_changes.specs.Rows.{AreKeyed, row_at}
use Rattle.isp_changes.specs.Stages.{after_step, some_outgrow}
use Rattle.isp_changes.proofs.RowProofs.{same_key}
use Rattle.isp_file_laws.proofs.EachLaws.{all_weaker}
use Rattle.isp_file_laws.proofs.KeptLaws.{own_key}
use Rattle.isp_image.specs.Databases.{FileTable, shown}
use Rattle.isp_page.specs.declared.pages.Pages.{Ghosts}
use Rattle.isp_plain.specs.Tables.{Table}
use Rattle.isp_plain.specs.Values.{key_of}
use Rattle.isp_plain.specs.declared.statement.Statement.{Statement}
use Rattle.isp_plain.specs.declared.value.Row.{Row}
use Rattle.isp_plain.specs.declared.value.Schema.{Schema}
use Rattle.isp_row.specs.RowSpelling.{IsRowOf}
use Rattle.isp_scan.specs.Leaves.{HasPiece, Piece}
use Rattle.isp_scan.specs.Scanning.{HasFileTable}
use Rattle.isp_scan.proofs.LeafLaws.{of_piece}
use Rattle.isp_work.specs.Finding.{found_in, reads}
use Rattle.isp_work.specs.Works.{AreReadAs, Pieces, behind_first, behind_piece, stage_of, took}
use Rattle.isp_work.specs.declared.found.Found.{Found}
use Rattle.isp_work.specs.declared.found.Found.TheVariants as found
use Rattle.isp_work.specs.declared.phase.Phase.TheVariants.{Reading}
use Rattle.isp_work.specs.declared.progress.Progress.{Progress}
use Rattle.isp_work.proofs.ReadLaws.{KeepsKeysIn, found_by, found_is, kept_of, reads_more, reads_out}
use Rattle.isp_work.proofs.StageLaws.{has_noted}
use Rattle.isp_exec.specs.Standing.{IsLeft, pieces_by}

-- ---- its rows are rows of the table

-- what holds of each row holds of the one at a key
all_found : (P : ℤ × Row → Type 0) (rows : List (ℤ × Row)) (key : ℤ) → AllByRecursion P rows → AllByRecursion P (found_at rows key)
all_found P [] key all = tt
all_found P (e ∷ rows) key all = by (is_at (int_cmp key) e.0) refl (all_found P rows key all.1)
  where
    by : (b : Bool) → is_at (int_cmp key) e.0 ≡ b → AllByRecursion P (found_at rows key) → AllByRecursion P (piece_of key (cond b (Some e.1) (row_at rows key)))
    by true at later = (subst (λ (k : ℤ). P (k, e.1)) (sym (same_key key e.0 at)) all.0, tt)
    by false at later = later

same_first : (x y : Piece) (xs ys : List Piece) → ◌≡◌ {A = List Piece} (x ∷ xs) (y ∷ ys) → x ≡ y
same_first x y xs ys same = cc

-- of the first of the pieces that are left
module _ {S : Type 0} (g : Ghosts S) (now : S) (def : TableDef) (t : FileTable) (has : HasFileTable g now def t) (s : Statement) (piece : Piece) (left : List Piece) (P : ℤ × Row → Type 0) (all : AllByRecursion P (shown t.rows)) where
  of_pieces : (o : Option ℤ) → piece ∷ left ≡ pieces_by o t → AllByRecursion P piece
  of_pieces (Some key) is = subst (AllByRecursion P) (sym (same_first piece (found_at (shown t.rows) key) left [] is)) (all_found P (shown t.rows) key all)
  of_pieces None is = of_piece g now def t None piece left P has (record { is = sym is }) all

  pub of_first : (after : Option PageNo) → IsLeft t s after (piece ∷ left) → AllByRecursion P piece
  of_first None is = of_pieces _ is
  of_first (Some page) is = of_piece g now def t (Some page.0) piece left P has is all

-- each has its own key
pub own_keys : (schema : Schema) (rows : List (ℤ × Row)) → AllByRecursion (λ (e : ℤ × Row). IsRowOf schema e.0 e.1) rows → AreKeyed rows
own_keys schema rows all = all_weaker (λ (e : ℤ × Row). IsRowOf schema e.0 e.1) (λ (e : ℤ × Row). key_of e.1 ≡ e.0) rows (λ e is. own_key schema e.0 e.1 is) all

-- ---- a row that would get too large

abbrev pub is_large : Found → Bool
is_large (found.Rows rows) = false
is_large found.TooLarge = true

large_by : (b : Bool) (rows : List Row) → b ≡ is_large (found_by b rows)
large_by true rows = refl
large_by false rows = refl

-- by what was found
pub outgrows_is : (s : Statement) (schema : Schema) (piece : Piece) (f : Found) → f ≡ found_in schema s piece → some_outgrow schema s piece ≡ is_large f
outgrows_is s schema piece f is = large_by (some_outgrow schema s piece) (kept_of s (held s piece)) ∙ ap is_large (sym (is ∙ found_is schema s piece))

-- ---- behind a piece

-- what is read then, and what is left
abbrev pub behind_read : (pieces : Pieces) → Statement → HasPiece pieces.left → Pieces
behind_read pieces s more = record { read = pieces.read ++ held s more.first; left = more.later }

pub behind_is : (pieces : Pieces) (s : Statement) (more : HasPiece pieces.left) → behind_piece pieces s ≡ behind_read pieces s more
behind_is pieces s more = ap (behind_first s pieces.read) more.is

-- pieces are left where a page is named, and none otherwise
abbrev pub GoesWith : Option PageNo → List Piece → Type 0
GoesWith None left = left ≡ []
GoesWith (Some page) left = HasPiece left

-- it stands one step of its stage further
pub took_stage : (tables : List Table) (noted : List RowChange) (pieces : Pieces) (work : Progress) (count : ℕ) (table : Table) (more : HasPiece pieces.left) (f : Found) (next : Option PageNo) → nat_lt work.base count ≡ has_noted noted
    → work.phase ≡ Reading → slice_get tables work.place ≡ Some table → work.next ≡ 0 → reads work.statement ≡ true → f ≡ found_in table.schema work.statement more.first → AreKeyed more.first → KeepsKeysIn table.schema work.statement more.first
    → AreReadAs work.statement pieces.read work.rows → GoesWith next more.later
    → stage_of tables noted (behind_read pieces work.statement more) (took work f next count) ≡ after_step work.statement true (stage_of tables noted pieces work)
took_stage tables noted pieces work count table more f next some phase there first reads_rows is keyed keeps kept goes =
    (λ i. stage_of tables noted (sym (behind_is pieces work.statement more) i) (took work (is i) next count)) ∙ by next goes
  where
    by : (next : Option PageNo) → GoesWith next more.later
        → stage_of tables noted (behind_piece pieces work.statement) (took work (found_in table.schema work.statement more.first) next count) ≡ after_step work.statement true (stage_of tables noted pieces work)
    by (Some page) goes = reads_more tables noted pieces work count some table phase there true more.first goes.first goes.later page (more.is ∙ ap (λ (l : List Piece). more.first ∷ l) goes.is)
    by None goes = reads_out tables noted pieces work count some table phase there true more.first (more.is ∙ ap (λ (l : List Piece). more.first ∷ l) goes) first reads_rows keyed keeps kept
