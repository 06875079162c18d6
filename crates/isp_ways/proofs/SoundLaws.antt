-- Paths find all rows.
use Rattle.std.proofs.Common.{◌≡◌, ◌∙◌, refl, sym, ap, ℕ, ℤ, Bool, true, false, List, ◌∷◌, Option, Some, None}
use Rattle.std.specs.Prelude.{IfSome}
use Rattle.isp_plain.specs.declared.statement.Condition.{Condition}
use Rattle.isp_plain.specs.declared.statement.Statement.{Statement}
use Rattle.isp_plain.specs.declared.statement.Statement.TheVariants.{Create, Insert, Select, Update, Delete, Begin, Commit, Rollback, Refused}
use Rattle.isp_plain.specs.declared.value.Row.{Row}
use Rattle.isp_plain.specs.declared.value.Schema.{Schema}
use Rattle.isp_plain.specs.declared.value.Value.{Value}
use Rattle.isp_plain.specs.Conditions.{holds}
use Rattle.isp_plain.specs.Values.{first_number, key_of}
use Rattle.isp_paths.specs.declared.access.Path.{Path}
use Rattle.isp_paths.specs.declared.access.Path.TheVariants as path
use Rattle.isp_paths.specs.Paths.{path_of}
use Rattle.isp_paths.specs.Reaching.{HasKey, Reaches}
use Rattle.isp_paths.proofs.ReachLaws.{paths_reach}
use Rattle.isp_events.specs.Ways.{FindsAll, begins_with_number}
use Rattle.isp_ways.specs.Ways.{WaysAreSound, way_by}

finds : (schema : Schema) (w : Condition) (p : Path) → Reaches schema.columns w p → FindsAll schema w (way_by p)
finds schema w (path.Key key) h = λ row begins held. ap first_number (h row held).1
finds schema w (path.Tree column predicate) h = (h.0, λ row begins held. h.1 row held)
finds schema w path.Scan h = tt

pub ways_are_sound : WaysAreSound
ways_are_sound schema (Select name columns w) = finds schema w (path_of schema (Select name columns w)) (paths_reach schema (Select name columns w))
ways_are_sound schema (Update name sets w) = finds schema w (path_of schema (Update name sets w)) (paths_reach schema (Update name sets w))
ways_are_sound schema (Delete name w) = finds schema w (path_of schema (Delete name w)) (paths_reach schema (Delete name w))
ways_are_sound schema (Create name columns) = tt
ways_are_sound schema (Insert name rows) = tt
ways_are_sound schema Begin = tt
ways_are_sound schema Commit = tt
ways_are_sound schema Rollback = tt
ways_are_sound schema (Refused refusal) = tt
