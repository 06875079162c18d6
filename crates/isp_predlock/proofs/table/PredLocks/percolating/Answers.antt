use Rattle.std.proofs.Common.{◌≡◌, ◌∙◌, ◌∷◌, ◌++◌, ◌+◌, List, ap, sym, drop, filter_map}
use Rattle.isp_predlock.specs.declared.entries.Growing.{Growing}
use Rattle.isp_predlock.specs.declared.entries.Percolation.{Percolation}
use Rattle.isp_predlock.specs.Entering.{entered, percolating_on}
use Rattle.isp_predlock.specs.Tables.{HeldSearch}
use Rattle.isp_predlock.proofs.MemberLaws.{next_item}
use Rattle.isp_predlock.proofs.CallLaws.{percolating_next, percolating_there}
use Rattle.isp_predlock.proofs.table.PredLocks.percolating.Goals as goal

pub loop-growing-preserved : goal.loop-growing-preserved
loop-growing-preserved c =
    let grown : List Growing = c.args.grown.now in
    let i = c.loop-growing.growing-index in
    let g : Growing = c.growing-item.result in
    let list : List Percolation = c.loop-growing.list.items in
    let searches : List HeldSearch = c.args.self.now.searches in
    let next : drop i grown ≡ g ∷ drop (i + 1) grown = next_item grown i g c.loop-growing-test.true ∙ ap (λ (h : Growing). h ∷ drop (i + 1) grown) (sym c.growing-item.is) in
    let is : c.percolate.new.list.items ≡ list ++ filter_map (entered list g) searches = c.in_ok-percolate.ensures in
    record {
      list = percolating_next searches grown i g next list c.percolate.new.list.items is (percolating_on searches grown) c.loop-growing.invariant.list;
      there = percolating_there searches grown i g next list c.percolate.new.list.items is c.loop-growing.invariant.there;
    }
