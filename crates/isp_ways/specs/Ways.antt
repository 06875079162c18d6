-- The program's language and its ways, as the page machine takes them.
use Rattle.std.specs.Prelude.{◌≡◌, ℕ, ℤ}
use Rattle.isp_mbr.specs.declared.predicate.Predicate.{Predicate}
use Rattle.isp_plain.specs.declared.statement.Statement.{Statement}
use Rattle.isp_plain.specs.declared.value.Schema.{Schema}
use Rattle.isp_paths.specs.declared.access.Path.{Path}
use Rattle.isp_paths.specs.declared.access.Path.TheVariants as path
use Rattle.isp_paths.specs.Paths.{path_of}
use Rattle.isp_plan.specs.Meaning.{whole}
use Rattle.isp_events.specs.Ways.{AreSound, IsServable, Way, Ways, by_key, by_box, by_scan}

-- a path as a way
abbrev pub way_by : Path → Way
way_by (path.Key key) = by_key key
way_by (path.Tree column p) = by_box column p
way_by path.Scan = by_scan

-- the way of a statement is its path
abbrev pub ways : Ways
ways schema statement = way_by (path_of schema statement)

-- the whole language is one that the machine can serve
abbrev pub LanguageIsServable : Type 0
LanguageIsServable = IsServable whole

-- and its paths find all rows
abbrev pub WaysAreSound : Type 0
WaysAreSound = AreSound ways
