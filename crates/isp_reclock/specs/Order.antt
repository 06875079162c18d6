-- The order of a transaction's locks in a list: tables by number and mode, then keys by table number, key and mode.
use Rattle.std.specs.Prelude.{ℕ, is_some}
use Rattle.std.specs.declared.cmp.Ordering.{Ordering}
use Rattle.std.specs.Option.{option_cmp}
use Rattle.std.specs.Ordering.{bool_cmp, int_cmp, nat_cmp, ordering_then}
use Rattle.isp_reclock.specs.declared.entries.Held.{Held}
use Rattle.isp_reclock.specs.declared.modes.Mode.{Mode}
use Rattle.isp_reclock.specs.declared.modes.Mode.TheVariants.{IS, IX, S, X}

-- where a mode stands among the modes
abbrev pub place_of : Mode → ℕ
place_of IS = 0
place_of IX = 1
place_of S = 2
place_of X = 3

abbrev pub held_cmp : Held → Held → Ordering
held_cmp a b =
    ordering_then (ordering_then (ordering_then (bool_cmp (is_some a.key) (is_some b.key)) (nat_cmp a.table b.table)) (option_cmp int_cmp a.key b.key))
    (nat_cmp (place_of a.mode) (place_of b.mode))
