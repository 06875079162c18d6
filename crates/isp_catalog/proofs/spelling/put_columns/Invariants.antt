use Rattle.std.proofs.Common.{◌≡◌, ℕ, length, take}
use Rattle.std.specs.List.{flat_map}
use Rattle.isp_disk.specs.Moments.{image_of, put}
use Rattle.isp_catalog.specs.Writing.{column_field}
use Rattle.isp_catalog.proofs.spelling.put_columns.Given as goal

abbrev pub invariant-loop-k : goal.invariant-loop-k
invariant-loop-k l = ((place : ℕ) → image_of l.p.bytes place ≡ put (image_of l.initial.p.bytes) l.at (flat_map column_field (take l.k l.columns)) place) × (length l.p.bytes ≡ length l.initial.p.bytes)
