-- Rows as the tree of a table has them, by those of a file.
use Rattle.std.proofs.Common.{◌≡◌, ℕ, ◌+◌, ◌≤◌, ℤ, Bool, List, ◌++◌, length, drop, Some, ◌∙◌, ap, arith}
use Rattle.std.specs.Prelude.{slice_get}
use Rattle.std.specs.Option.{option_map}
use Rattle.std.proofs.lemmas.List.{length-append, length-drop}
use Rattle.isp_format.specs.Leaf.{Stored, slot_of}
use Rattle.isp_format.specs.Ranges.{Contents}
use Rattle.isp_clustered.specs.Rows.{find, rewritten}
use Rattle.isp_clustered.specs.Trees.{rows_of}
use Rattle.isp_image.specs.Databases.{Database, FileTable, row_key}
use Rattle.isp_image.specs.Files.{KeptFile}
use Rattle.isp_image.specs.Keyed.{found}
use Rattle.isp_image.proofs.FileLaws.{stored_of}
use Rattle.isp_image.proofs.StoredLaws.{find_row}

pub found_in_tree : (pages : ℕ) (contents : Contents) (d : Database) (place : ℕ) (t : FileTable) (key : ℤ) → KeptFile pages contents d → slice_get d.tables place ≡ Some t → find key (rows_of t.tree) ≡ option_map stored_of (found row_key key t.rows)
found_in_tree pages contents d place t key kept is = ap (find key) (kept.each place t is).rows ∙ find_row key t.rows

drop_slot : (row one rest : List ℕ) → length row ≤ length one + length rest → length row + length (drop (length row) (one ++ rest)) ≡ length one + length rest
drop_slot row one rest fits =
    let left = length-drop (length row) (one ++ rest) in
    let all = length-append one rest in
    omega (arith, left, all, fits)

-- a row that its slot holds leaves the slot as large
pub same_slot : (row : List ℕ) (marked : Bool) (s : Stored) → length row ≤ slot_of s → slot_of (rewritten row marked s) ≡ slot_of s
same_slot row marked s fits = drop_slot row s.row s.rest fits
