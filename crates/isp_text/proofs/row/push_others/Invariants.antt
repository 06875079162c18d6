use Rattle.std.proofs.Common.{◌≡◌, ◌∷◌, ◌++◌, drop}
use Rattle.std.specs.List.{flat_map}
use Rattle.isp_plain.specs.Texts.{value_text}
use Rattle.isp_text.proofs.row.push_others.Given as goal

abbrev pub invariant-loop-value : goal.invariant-loop-value
invariant-loop-value l =
    l.out.items ++ flat_map (λ value. 44 ∷ value_text value) (drop l.value-index l.values)
    ≡ l.fn.out.items ++ flat_map (λ value. 44 ∷ value_text value) l.values
