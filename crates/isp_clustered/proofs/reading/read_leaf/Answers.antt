use Rattle.std.proofs.Common.{ℕ, List, sym, subst}
use Rattle.isp_format.specs.Leaf.{IsLeafPage}
use Rattle.isp_cells.proofs.CellLaws.{none_some, number_some}
use Rattle.isp_clustered.proofs.reading.read_leaf.Goals as goal

pub returns-in-Some-clause-stand : goal.returns-in-Some-clause-stand
returns-in-Some-clause-stand g c table next rows leaf = sym (number_some _ _ c.leaf_end.result c.in-Some.is (c.leaf_end.ensures.used table next rows leaf))

pub returns-in-None-clause-sound : goal.returns-in-None-clause-sound
returns-in-None-clause-sound g c tells table next rows leaf =
    let read : IsLeafPage c.read.new.into.bytes table c.args.page.0 next rows = subst (λ (bytes : List ℕ). IsLeafPage bytes table c.args.page.0 next rows) (sym (c.in_ok-read.ensures.page tells)) leaf in
    absurd (none_some _ c.leaf_end.result c.in-None.is (c.leaf_end.ensures.used table next rows read))
