-- The subtrees that a new entry may go to, as the code compares them.
use Rattle.std.specs.Prelude.{◌≡◌, ◌==◌, ◌&&◌, nat_lt, Some, if◌then◌else◌}
use Rattle.isp_mbr.specs.Corners.{Corners}
use Rattle.isp_mbr.specs.Boxes.{area, enlargement}
use Rattle.isp_forest.specs.Tree.{child_of}
use Rattle.isp_forest.specs.declared.entry.Entry.{Entry}
use Rattle.isp_rnode.specs.declared.choosing.Candidate.{Candidate}

-- the subtree of the entry e, for a new entry with the box b
pub record IsCandidate (b : Corners) (e : Entry) (candidate : Candidate) : Type 0 where
  pub enlargement_is : candidate.enlargement ≡ enlargement e.b b
  pub area_is : candidate.area ≡ area e.b
  pub child_is : child_of e ≡ Some candidate.child.0

-- the better one, and where neither is better the first
abbrev pub better_of : Candidate → Candidate → Candidate
better_of best other =
    if nat_lt other.enlargement best.enlargement then other
    else (if (other.enlargement == best.enlargement) && nat_lt other.area best.area then other else best)
