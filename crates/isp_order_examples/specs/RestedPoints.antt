-- A rested state, worked out: the five points with their tree, before any session has begun.
use Rattle.isp_order.specs.InOrder.{InOrder, IsRested}
use Rattle.isp_event_examples.specs.Overtaken.{overtaking}
use Rattle.isp_event_examples.specs.Points.{five}

-- so it is in order
pub record FivePointsAreInOrder : Type 0 where
  pub rested : IsRested overtaking five
  pub in_order : InOrder overtaking five
