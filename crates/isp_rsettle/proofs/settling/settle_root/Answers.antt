use Rattle.std.proofs.Common.{rules, List, ◌++◌, ◌+◌, ◌≤◌, sym, ◌∙◌, ap, refl, get_or, drop, length, ℕ}
use Rattle.isp_base.specs.declared.page_no.PageNo.{PageNo}
use Rattle.isp_forest.specs.Tree.{Node, least}
use Rattle.isp_rsettle.specs.Settling.{nodes_of}
use Rattle.isp_rsettle.proofs.WayLaws.{root_divided, root_list, three_more, two_pages}
use Rattle.isp_rsettle.proofs.settling.settle_root.Goals as goal

abbrev no_page : PageNo
no_page = record { 0 = 0 }

pub returns-in-Some-clause-writes : goal.returns-in-Some-clause-writes
returns-in-Some-clause-writes c =
    let enough : c.args.at.taken + 2 ≤ length c.args.news.now = search rules in
    let q : PageNo = get_or c.args.news.now c.args.at.taken no_page in
    let n : PageNo = get_or c.args.news.now (c.args.at.taken + 1) no_page in
    three_more c.args.writes.now.items c.push_reserved-in-Some-2.new.self.items c.push_reserved-in-Some-3.new.self.items c.push_reserved-in-Some-4.new.self.items _ _ _
    c.push_reserved-in-Some-2.ensures.items c.push_reserved-in-Some-3.ensures.items c.push_reserved-in-Some-4.ensures.items
    ∙ ap (λ (l : List (ℕ × Node)). nodes_of c.args.writes.now.items ++ l)
    (root_list c.args.at.counter c.args.at.to c.args.step c.in-Some.moves q n c.left_head.result _ c.top_head.result c.know-in-Some.new.entries.items c.know-in-Some-2.new.entries.items c.two_entries.result.items c.part-two.result
    c.left_head.ensures refl c.top_head.ensures c.know-in-Some.ensures c.know-in-Some-2.ensures (c.part-two.ensures ∙ (λ i. record { old = q; new = n; old_box = least (c.deref.ensures.value i); new_box = least (c.deref-in-Some.ensures.value i) })) c.two_entries.ensures
    ∙ sym (root_divided c.args.at.counter c.args.at.to c.args.step c.in-Some.moves (drop c.args.at.taken c.args.news.now) _ q n c.in-Some.is (two_pages c.args.news.now c.args.at.taken no_page no_page enough)))
