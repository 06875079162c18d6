use Rattle.isp_image.proofs.StepLaws.{dropped_committed, dropped_now}
use Rattle.isp_image.proofs.laws.law_dropping_keeps.Goals as goal

pub returns : goal.returns
returns c = λ pages contents old new place key kept is. record { same = dropped_committed pages contents old new place key kept is; now = dropped_now pages contents old new place key kept is }
