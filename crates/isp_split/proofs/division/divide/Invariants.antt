use Rattle.isp_split.specs.Division.{Divides}
use Rattle.isp_split.specs.Groups.{Sides}
use Rattle.isp_split.specs.UnderWay.{CanFill, IsUnderWay}
use Rattle.isp_split.proofs.division.divide.Given as goal

abbrev pub invariant-loop-division : goal.invariant-loop-division
invariant-loop-division l = record {
  under_way : IsUnderWay l.boxes l.division;
  can_fill : CanFill l.least l.division;
  goes_on : (end : Sides) → Divides l.division.left l.boxes l.least l.division.sides.items end → Divides l.fn.division.left l.boxes l.least l.fn.division.sides.items end;
}

abbrev pub decreases-loop-division : goal.decreases-loop-division
decreases-loop-division l = l.division.left
