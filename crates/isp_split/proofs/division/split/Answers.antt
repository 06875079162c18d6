use Rattle.std.proofs.Common.{◌∙◌, ap, arith, List, ℕ, length}
use Rattle.isp_split.specs.Groups.{count_in, is_in}
use Rattle.isp_split.specs.declared.side.Side.TheVariants.{First, Second}
use Rattle.isp_split.proofs.DivisionLaws.{places_count}
use Rattle.isp_split.proofs.division.split.Goals as goal

pub returns-clause-fill : goal.returns-clause-fill
returns-clause-fill c =
    let first = ap (λ (ks : List ℕ). length ks) c.in_ok-first.ensures ∙ places_count (is_in First) 0 c.deref-3.result.now ∙ ap (count_in First) c.deref-3.ensures.value in
    let second = ap (λ (ks : List ℕ). length ks) c.in_ok-second.ensures ∙ places_count (is_in Second) 0 c.deref-4.result.now ∙ ap (count_in Second) c.deref-4.ensures.value in
    (omega (arith, first, c.divide.ensures.fill.first), omega (arith, second, c.divide.ensures.fill.second))
