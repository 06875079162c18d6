use Rattle.std.proofs.Common.{◌≡◌, ◌∙◌, List, ◌++◌, ap, filter_map}
use Rattle.isp_predlock.specs.declared.entries.Percolation.{Percolation}
use Rattle.isp_predlock.specs.Entering.{entered}
use Rattle.isp_predlock.proofs.CallLaws.{by_ids, on_ok_items}
use Rattle.isp_predlock.proofs.table.PredLocks.percolate.Goals as goal

pub returns : goal.returns
returns c =
    let found : List Percolation = c.args.list.now.items in
    let more : c.in_ok-more.more.items ≡ filter_map (entered found c.args.growing.now) c.args.self.now.searches =
    c.in_ok-more.ensures
    ∙ by_ids (entered c.as_slice.result.now c.args.growing.now) c.args.self.now.searches c.ids.ensures.named c.ids.result.now c.ids.ensures.ids
    ∙ ap (λ (l : List Percolation). filter_map (entered l c.args.growing.now) c.args.self.now.searches) c.as_slice.ensures.value in
    on_ok_items c.extend_from_slice.result _ _ _ _ c.extend_from_slice.ensures.items (ap (λ (l : List Percolation). found ++ l) (c.as_slice-2.ensures.value ∙ more))
