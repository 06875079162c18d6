-- The five tests of a spatial search, the row's box first, as the MBR functions of the MySQL 8.0 manual are; and
-- for each what the box round a subtree has to meet, so that a search may look below it (Guttman 1984).
use Rattle.std.specs.Prelude.{Bool, not}
use Rattle.isp_mbr.specs.Corners.{Corners}
use Rattle.isp_mbr.specs.Boxes.{covers, meets, same}
use Rattle.isp_mbr.specs.declared.predicate.Predicate.{Predicate}
use Rattle.isp_mbr.specs.declared.predicate.Test.{Test}
use Rattle.isp_mbr.specs.declared.predicate.Test.TheVariants.{Covers, Within, Intersects, Disjoint, Equals}

-- the row's box b passes the test against q
abbrev pub passes : Test → Corners → Corners → Bool
passes Covers q b = covers b q
passes Within q b = covers q b
passes Intersects q b = meets b q
passes Disjoint q b = not (meets b q)
passes Equals q b = same b q

-- a box that passes the test against q may lie in c
abbrev pub may_pass : Test → Corners → Corners → Bool
may_pass Covers q c = covers c q
may_pass Within q c = meets c q
may_pass Intersects q c = meets c q
may_pass Disjoint q c = not (covers q c)
may_pass Equals q c = covers c q

abbrev pub satisfies : Predicate → Corners → Bool
satisfies p b = passes p.test p.q b

abbrev pub may_hold : Predicate → Corners → Bool
may_hold p c = may_pass p.test p.q c
