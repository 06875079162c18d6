use Rattle.std.proofs.Common.{sym, ◌∙◌, ap}
use Rattle.isp_mbr.specs.Boxes.{same}
use Rattle.isp_mbr.specs.Corners.{Corners}
use Rattle.isp_mbr.proofs.BoxLaws.{same_refl, same_then}
use Rattle.isp_rfind.proofs.finding.is_box.Goals as goal

pub returns : goal.returns
returns c = (
  λ yes. same_then c.args.a.now c.args.b.now (sym c.satisfies.ensures ∙ yes),
  λ is. c.satisfies.ensures ∙ ap (λ (x : Corners). same x c.args.b.now) is ∙ same_refl c.args.b.now,
)
