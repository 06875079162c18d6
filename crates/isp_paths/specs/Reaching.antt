-- What a path owes: it reaches every row of which the condition holds.
use Rattle.std.specs.Prelude.{◌≡◌, ℕ, ℤ, true, List, ◌∷◌, slice_get, Option, Some, None, IfSome}
use Rattle.isp_mbr.specs.declared.predicate.Predicate.{Predicate}
use Rattle.isp_plain.specs.declared.statement.Condition.{Condition}
use Rattle.isp_plain.specs.declared.statement.Statement.{Statement}
use Rattle.isp_plain.specs.declared.statement.Statement.TheVariants as statement
use Rattle.isp_plain.specs.declared.value.Column.{Column}
use Rattle.isp_plain.specs.declared.value.Row.{Row}
use Rattle.isp_plain.specs.declared.value.Schema.{Schema}
use Rattle.isp_plain.specs.declared.value.Value.{Value}
use Rattle.isp_plain.specs.declared.value.Value.TheVariants as value
use Rattle.isp_plain.specs.Conditions.{holds, value_satisfies}
use Rattle.isp_paths.specs.declared.access.Path.{Path}
use Rattle.isp_paths.specs.declared.access.Path.TheVariants as path
use Rattle.isp_paths.specs.Paths.{is_indexed_column, path_of}

-- the condition of a statement that has one
abbrev pub condition_of : Statement → Option Condition
condition_of (statement.Select table columns w) = Some w
condition_of (statement.Update table sets w) = Some w
condition_of (statement.Delete table w) = Some w
condition_of _ = None

-- the row begins with this number
abbrev pub HasKey : ℤ → Row → Type 0
HasKey key row = (others : List Value) × (row.values ≡ value.Int key ∷ others)

-- the row has a geometry in this column, and its box satisfies
abbrev pub HasBox : ℕ → Predicate → Row → Type 0
HasBox column p row = value_satisfies p (slice_get row.values column) ≡ true

-- the column has a tree
abbrev pub HasTree : List Column → ℕ → Type 0
HasTree columns column = is_indexed_column (slice_get columns column) ≡ true

-- the condition holds of no other rows than those
abbrev pub HoldsOf : Condition → (Row → Type 0) → Type 0
HoldsOf w Reached = (row : Row) → holds w row ≡ true → Reached row

-- the path reaches, in a table with these columns, every row of which the condition holds
abbrev pub Reaches : List Column → Condition → Path → Type 0
Reaches columns w (path.Key key) = HoldsOf w (HasKey key)
Reaches columns w (path.Tree column p) = HasTree columns column × HoldsOf w (HasBox column p)
Reaches columns w path.Scan = Unit {0}

-- so does the path of each statement that has a condition
abbrev pub PathsReach : Type 0
PathsReach = (schema : Schema) (s : Statement) → IfSome (condition_of s) (λ w. Reaches schema.columns w (path_of schema s))
