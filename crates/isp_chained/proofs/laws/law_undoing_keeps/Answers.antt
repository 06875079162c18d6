use Rattle.isp_chained.proofs.DatabaseLaws.{exchanged_now, undone_committed}
use Rattle.isp_chained.proofs.laws.law_undoing_keeps.Goals as goal

pub returns : goal.returns
returns c = λ pages contents old new chains place key row newer image older was is. record {
  same = undone_committed pages contents old new chains place key row newer image older was is;
  now = exchanged_now pages contents old new chains place key row was is.at is.exchanges;
}
