-- Marked rows that go key by key: sweeps of one key each, one after another, are a sweep of all.
use Rattle.std.specs.Prelude.{ℕ, List, [], ◌∷◌, ◌++◌}
use Rattle.std.specs.List.{AllByRecursion}
use Rattle.isp_format.specs.Ranges.{Contents}
use Rattle.isp_image.specs.Databases.{Database}
use Rattle.isp_trx.specs.Writes.{IsFree, Sweeps}
use Rattle.isp_trx.specs.declared.keys.RowKey.{RowKey}

-- the key is free wherever all of these are
abbrev pub IsOneOf : RowKey → List RowKey → Type 0
IsOneOf at keys = (d : Database) → AllByRecursion (λ k. IsFree k d) keys → IsFree at d

abbrev pub SweepsBegin : Type 0
SweepsBegin = (pages : ℕ) (contents : Contents) (roots : List ℕ) (keys : List RowKey) → Sweeps pages contents roots keys [] contents

abbrev pub SweepsGoOn : Type 0
SweepsGoOn = (pages : ℕ) (old mid new : Contents) (roots : List ℕ) (keys done : List RowKey) (at : RowKey) → IsOneOf at keys
    → Sweeps pages old roots keys done mid → Sweeps pages mid roots (at ∷ []) (at ∷ []) new → Sweeps pages old roots keys (done ++ at ∷ []) new
