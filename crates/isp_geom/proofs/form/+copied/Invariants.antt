use Rattle.std.proofs.Common.{◌≡◌, take}
use Rattle.isp_geom.proofs.form.+copied.Given as goal

abbrev pub invariant-loop-member : goal.invariant-loop-member
invariant-loop-member l = l.copies ≡ take l.member-index l.member-items
