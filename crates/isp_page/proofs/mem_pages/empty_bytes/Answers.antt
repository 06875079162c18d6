use Rattle.std.proofs.Common.{◌≡◌, inl, inr, ◌*◌, sym, ◌∙◌, arith}
use Rattle.std.proofs.lemmas.Bool.{cases_lt}
use Rattle.isp_format.specs.Empty.{first_fresh}
use Rattle.isp_format.specs.Ranges.{page_bytes}
use Rattle.isp_format.proofs.EmptyPages.{empty_beyond}
use Rattle.isp_page.proofs.mem_pages.empty_bytes.Goals as goal

pub returns-clause-contents : goal.returns-clause-contents
returns-clause-contents c = λ place.
    let last : c.loop-page.page ≡ first_fresh = omega arith in
    elim (cases_lt place (first_fresh * page_bytes)) [
      | inl low ↦ c.loop-page.invariant.before place (omega (arith, low, last))
      | inr high ↦ c.loop-page.invariant.behind place (omega (arith, high, last)) ∙ sym (empty_beyond place high)
    ]
