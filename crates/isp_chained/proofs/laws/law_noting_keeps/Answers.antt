use Rattle.isp_chained.proofs.DatabaseLaws.{exchanged_now, noted_committed}
use Rattle.isp_chained.proofs.laws.law_noting_keeps.Goals as goal

pub returns : goal.returns
returns c = λ pages contents old new chains place key row newer older was is. record {
  same = noted_committed pages contents old new chains place key row newer older was is;
  now = exchanged_now pages contents old new chains place key row was is.at is.exchanges;
}
