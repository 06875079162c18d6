use Rattle.std.proofs.Common.{rules, subst}
use Rattle.isp_format.specs.Control.{IsPages}
use Rattle.isp_format.specs.Ranges.{page_of}
use Rattle.isp_rtree.specs.Trees.{IsRootOf}
use Rattle.isp_rtree.proofs.TreeLaws.{root_of_tree}
use Rattle.isp_rtree.proofs.nodes.read_root.Goals as goal

pub returns-else-is_root_of-clause-holds : goal.returns-else-is_root_of-clause-holds
returns-else-is_root_of-clause-holds g c tells owner tree at =
    let pages : IsPages (g.P.Pages.shape c.args.pages.now).pages = subst IsPages c.pages-count.ensures.count c.pages-count.ensures.within in
    let root : IsRootOf (g.P.Pages.shape c.args.pages.now).pages owner c.args.root.0 (page_of (g.P.Pages.contents c.args.pages.now) c.args.root.0) = root_of_tree (g.P.Pages.contents c.args.pages.now) (g.P.Pages.shape c.args.pages.now) owner c.args.root.0 tree at pages in
    search (rules, root)
