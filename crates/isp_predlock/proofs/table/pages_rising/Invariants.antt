use Rattle.std.proofs.Common.{◌≡◌, drop, filter_map, fold, nat_cmp}
use Rattle.std.specs.BTreeSet.{insert_key}
use Rattle.isp_events.specs.Lines.{pages_rising}
use Rattle.isp_predlock.specs.Inside.{page_for}
use Rattle.isp_predlock.proofs.table.pages_rising.Given as goal

abbrev pub invariant-loop-pair : goal.invariant-loop-pair
invariant-loop-pair l =
    fold (insert_key nat_cmp) l.pages.keys (filter_map (page_for l.id.0) (drop l.pair-index l.pairs))
    ≡ pages_rising (filter_map (page_for l.id.0) l.pairs)
