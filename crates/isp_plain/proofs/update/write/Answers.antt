use Rattle.std.proofs.Common.{◌∙◌, sym, ap, rules, w64, FitsSigned}
use Rattle.std.proofs.lemmas.Int.{to_z-of_z}
use Rattle.isp_plain.specs.Entries.{with_value}
use Rattle.isp_plain.specs.Updating.{with_changes}
use Rattle.isp_plain.proofs.update.write.Goals as goal

pub loop-key-preserved : goal.loop-key-preserved
loop-key-preserved c =
    let entries = c.loop-key.entries.entries in
    let fits : FitsSigned w64 c.in-Some.key = search rules in
    let put = c.replace.ensures ∙ ap (λ k. with_value entries k c.in-Some.row) (to_z-of_z w64 c.in-Some.key fits) in
    ap (λ es. with_changes es c.next.new.self.rest.items) put ∙ (sym (ap (with_changes entries) c.in-Some.ensures.steps.0) ∙ c.loop-key.invariant)
