use Rattle.std.proofs.Common.{List, sym, ◌∙◌, subst, eq-eqb}
use Rattle.isp_base.specs.Lists.{Has}
use Rattle.isp_format.specs.Header.{header_of}
use Rattle.isp_forest.specs.declared.entry.Entry.{Entry}
use Rattle.isp_rnode.specs.Nodes.{node_of}
use Rattle.isp_rtree.proofs.RemoveLaws.{leaf_rows, others_had}
use Rattle.isp_rtree.proofs.removing.page_without.Goals as goal

pub set_entries-requires-clause-kinds : goal.set_entries-requires-clause-kinds
set_entries-requires-clause-kinds c e has =
    let bytes = c.args.p.now.bytes in
    let had : Has (node_of bytes).entries e = others_had c.args.number (node_of bytes).entries e (subst (λ (xs : List Entry). Has xs e) c.copy_others-count.ensures.kept has) in
    leaf_rows bytes c.requires.leaf e had ∙ sym (eq-eqb (header_of bytes).level 0 c.requires.leaf)
