use Rattle.std.proofs.Common.{ℕ, List, sym, ◌∙◌, subst}
use Rattle.isp_format.specs.Space.{IsSpacePage}
use Rattle.isp_space.proofs.TakingLaws.{page_0_stays}
use Rattle.isp_space.proofs.giving.splice.Goals as goal

pub returns-clause-says : goal.returns-clause-says
returns-clause-says g c tells was is same =
    let stays = page_0_stays _ _ _ c.requires.last.0 (c.in_ok-link.ensures.others tells) in
    c.in_ok-write_numbers.ensures.says tells was (subst (λ (bytes : List ℕ). IsSpacePage bytes was) (sym stays) is) (same ∙ sym stays)
