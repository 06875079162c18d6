use Rattle.std.proofs.Common.{◌≡◌, ◌++◌}
use Rattle.std.specs.List.{list_any}
use Rattle.std.specs.Map.{values_of}
use Rattle.isp_plain.specs.Does.{outgrows}
use Rattle.isp_plain.specs.Updating.{changes_of}
use Rattle.isp_plain.proofs.update.changes.Given as goal

abbrev pub invariant-loop-key : goal.invariant-loop-key
invariant-loop-key l =
    (list_any (outgrows l.schema l.sets l.condition) (values_of l.key-iterator) ≡ list_any (outgrows l.schema l.sets l.condition) (values_of l.entries.entries))
    × (l.changed.items ++ changes_of l.sets l.condition l.key-iterator ≡ changes_of l.sets l.condition l.entries.entries)
