use Rattle.std.proofs.Common.{sym, ◌∙◌, ap, eq-eqb}
use Rattle.isp_forest.specs.Tree.{Node}
use Rattle.isp_rtree.proofs.TreeLaws.{level_is}
use Rattle.isp_rtree.proofs.removing.is_leaf.Goals as goal

pub returns-then-is_node-clause-no : goal.returns-then-is_node-clause-no
returns-then-is_node-clause-no c owner node is leaf = eq-eqb c.level_of.result 0 (c.level_of.ensures ∙ sym (level_is c.args.p.now.bytes) ∙ ap (λ (n : Node). n.level) is.means ∙ leaf)
