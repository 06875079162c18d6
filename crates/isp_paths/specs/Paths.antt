-- How the rows of a condition are found: by their key, by a search of a tree, or by going over all rows. The first
-- comparison of the key with a number decides, else the first test of a column that has a tree.
use Rattle.std.specs.Prelude.{ℕ, ℤ, Bool, false, ◌==◌, List, [], ◌∷◌, slice_get, Option, Some, None, if◌then◌else◌}
use Rattle.isp_mbr.specs.declared.predicate.Predicate.{Predicate}
use Rattle.isp_plain.specs.declared.statement.Atom.{Atom}
use Rattle.isp_plain.specs.declared.statement.Atom.TheVariants as atom
use Rattle.isp_plain.specs.declared.statement.Op.{Op}
use Rattle.isp_plain.specs.declared.statement.Op.TheVariants as op
use Rattle.isp_plain.specs.declared.statement.Statement.{Statement}
use Rattle.isp_plain.specs.declared.statement.Statement.TheVariants as statement
use Rattle.isp_plain.specs.declared.value.Column.{Column}
use Rattle.isp_plain.specs.declared.value.Schema.{Schema}
use Rattle.isp_plain.specs.declared.value.Value.{Value}
use Rattle.isp_plain.specs.declared.value.Value.TheVariants as value
use Rattle.isp_paths.specs.declared.access.Path.{Path}
use Rattle.isp_paths.specs.declared.access.Path.TheVariants as path

-- the number that the key equals
abbrev pub equal_number : Op → Value → Option ℤ
equal_number op.Eq (value.Int n) = Some n
equal_number _ _ = None

-- the key that the atom names: that of the first column
abbrev pub key_in : Atom → Option ℤ
key_in (atom.Cmp column op v) = if column == 0 then equal_number op v else None
key_in (atom.Box column p) = None

abbrev pub is_indexed_column : Option Column → Bool
is_indexed_column (Some column) = column.indexed
is_indexed_column None = false

-- the search that the atom asks for: on a column with a tree
abbrev pub tree_in : List Column → Atom → Option (ℕ × Predicate)
tree_in columns (atom.Cmp column op v) = None
tree_in columns (atom.Box column p) = if is_indexed_column (slice_get columns column) then Some (column, p) else None

abbrev pub or_else : {X : Type 0} → Option X → Option X → Option X
or_else (Some x) other = Some x
or_else None other = other

-- the first of the atoms that name a key
abbrev pub first_key : List Atom → Option ℤ
first_key [] = None
first_key (a ∷ others) = or_else (key_in a) (first_key others)

-- the first of the atoms that ask for a search
abbrev pub first_tree : List Column → List Atom → Option (ℕ × Predicate)
first_tree columns [] = None
first_tree columns (a ∷ others) = or_else (tree_in columns a) (first_tree columns others)

abbrev pub tree_or_scan : Option (ℕ × Predicate) → Path
tree_or_scan (Some tree) = path.Tree tree.0 tree.1
tree_or_scan None = path.Scan

abbrev pub key_or : Option ℤ → Path → Path
key_or (Some key) other = path.Key key
key_or None other = other

abbrev pub path_by : List Column → List Atom → Path
path_by columns atoms = key_or (first_key atoms) (tree_or_scan (first_tree columns atoms))

-- the path of a statement with a condition; another one looks at no rows
abbrev pub path_of : Schema → Statement → Path
path_of schema (statement.Select table columns w) = path_by schema.columns w.atoms
path_of schema (statement.Update table sets w) = path_by schema.columns w.atoms
path_of schema (statement.Delete table w) = path_by schema.columns w.atoms
path_of schema _ = path.Scan
