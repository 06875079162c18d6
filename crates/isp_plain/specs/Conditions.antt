-- Of which rows a condition holds, as the MySQL 8.0 manual has comparison operators and the functions that compare
-- minimum bounding rectangles.
use Rattle.std.specs.Prelude.{Bool, false, slice_get, Option, Some, None}
use Rattle.std.specs.Cmp.Lexicographic.{slice_cmp}
use Rattle.std.specs.List.{list_all}
use Rattle.std.specs.declared.cmp.Ordering.{Ordering}
use Rattle.std.specs.Ordering.{is_eq, is_ne, is_lt, is_le, is_gt, is_ge, is_some_and, int_cmp, nat_cmp}
use Rattle.isp_mbr.specs.Predicates.{satisfies}
use Rattle.isp_mbr.specs.declared.predicate.Predicate.{Predicate}
use Rattle.isp_plain.specs.declared.value.Row.{Row}
use Rattle.isp_plain.specs.declared.value.Value.{Value}
use Rattle.isp_plain.specs.declared.value.Value.TheVariants.{Int, Text, Geo}
use Rattle.isp_plain.specs.declared.statement.Atom.{Atom}
use Rattle.isp_plain.specs.declared.statement.Atom.TheVariants as atom
use Rattle.isp_plain.specs.declared.statement.Condition.{Condition}
use Rattle.isp_plain.specs.declared.statement.Op.{Op}
use Rattle.isp_plain.specs.declared.statement.Op.TheVariants.{Eq, Ne, Lt, Le, Gt, Ge}
use Rattle.isp_plain.specs.Values.{box_of}

-- how two values stand to each other: numbers as numbers, texts by the first byte that differs and else by their
-- lengths; no others are compared
abbrev pub order_of : Value → Value → Option Ordering
order_of (Int a) (Int b) = Some (int_cmp a b)
order_of (Text a) (Text b) = Some (slice_cmp nat_cmp a b)
order_of _ _ = None

-- a value that stands so to another one meets the comparison with it
abbrev pub meets : Op → Ordering → Bool
meets Eq order = is_eq order
meets Ne order = is_ne order
meets Lt order = is_lt order
meets Le order = is_le order
meets Gt order = is_gt order
meets Ge order = is_ge order

-- a value compares so with v; none doesn't, nor do values of two kinds
abbrev pub value_compares : Op → Value → Option Value → Bool
value_compares op v (Some value) = is_some_and (meets op) (order_of value v)
value_compares op v None = false

-- the box of a geometry satisfies the predicate; no other value does
abbrev pub value_satisfies : Predicate → Option Value → Bool
value_satisfies p (Some (Geo form)) = satisfies p (box_of form)
value_satisfies p _ = false

abbrev pub atom_holds : Row → Atom → Bool
atom_holds row (atom.Cmp column op v) = value_compares op v (slice_get row.values column)
atom_holds row (atom.Box column p) = value_satisfies p (slice_get row.values column)

-- every test of the condition is true of the row
abbrev pub holds : Condition → Row → Bool
holds condition row = list_all (atom_holds row) condition.atoms
