-- A key that is looked up.
use Rattle.std.proofs.Common.{◌≡◌, ℕ, ℤ, Bool, true, false, not, is_some, Option, Some, None, refl, sym, ◌∙◌, ap, subst, if◌then◌else◌}
use Rattle.std.specs.Option.{option_map}
use Rattle.isp_catalog.specs.declared.table.TableDef.{TableDef}
use Rattle.isp_changes.specs.Rows.{row_at}
use Rattle.isp_clustered.specs.Calls.{HasTree}
use Rattle.isp_clustered.specs.Cells.{kept_of}
use Rattle.isp_clustered.specs.Rows.{find}
use Rattle.isp_clustered.specs.Trees.{IsTree, rows_of}
use Rattle.isp_clustered.specs.declared.kept.Kept.{Kept}
use Rattle.isp_file_laws.specs.Seen.{is_live}
use Rattle.isp_image.specs.Databases.{FileRow, FileTable, row_key, seen, shown}
use Rattle.isp_image.specs.Keyed.{found}
use Rattle.isp_image.proofs.FileLaws.{stored_of, table_rises}
use Rattle.isp_image.proofs.ShownLaws.{row_at_shown}
use Rattle.isp_image.proofs.StoredLaws.{find_row}
use Rattle.isp_page.specs.declared.pages.Pages.{Ghosts}
use Rattle.isp_scan.specs.Scanning.{HasFileTable}

-- ---- a key that is taken

live_seen : (o : Option FileRow) → is_live (option_map kept_of (option_map stored_of o)) ≡ is_some (seen o)
live_seen None = refl
live_seen (Some r) = by r.stored.marked
  where
    by : (b : Bool) → not b ≡ is_some (if b then None else Some r.row)
    by true = refl
    by false = refl

pub key_taken : {S : Type 0} (g : Ghosts S) (now : S) (def : TableDef) (t : FileTable) (key : ℤ) (got : Option Kept) → HasFileTable g now def t → got ≡ option_map kept_of (find key (rows_of t.tree)) → is_live got ≡ is_some (row_at (shown t.rows) key)
key_taken g now def t key got has is =
    let rises = table_rises (g.shape now).pages (g.contents now) def.number t has.table in
    ap is_live (is ∙ ap (option_map kept_of) (ap (find key) has.table.rows ∙ find_row key t.rows))
    ∙ live_seen (found row_key key t.rows)
    ∙ sym (ap is_some (row_at_shown key t.rows rises))

pub tree_of : {S : Type 0} (g : Ghosts S) (now : S) (def : TableDef) (t : FileTable) → HasFileTable g now def t → HasTree g now def.number def.root.0 t.tree
tree_of g now def t has = subst (λ (root : ℕ). IsTree (g.shape now).pages (g.contents now) def.number root t.tree) (ap (λ (d : TableDef). d.root.0) has.is) has.table.tree
