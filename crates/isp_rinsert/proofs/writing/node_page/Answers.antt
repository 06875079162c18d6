use Rattle.std.proofs.Common.{◌≡◌, List, sym, ◌∙◌, ap}
use Rattle.isp_forest.specs.declared.entry.Entry.{Entry}
use Rattle.isp_format.specs.Header.{Header}
use Rattle.isp_rnode.specs.Nodes.{entry_place, node_of}
use Rattle.isp_rsettle.specs.Settling.{node_with}
use Rattle.isp_rinsert.proofs.WriteLaws.{node_by}
use Rattle.isp_rinsert.proofs.writing.node_page.Goals as goal

pub returns : goal.returns
returns c =
    let mid = c.set_head.ensures.head in
    let new = c.set_entries.ensures.head in
    let w = c.args.w.now in
    let entries : List Entry = c.as_slice.result.now in
    let means : node_of c.set_entries.new.p.bytes ≡ node_with w.head w.entries.items =
    c.set_entries.ensures.node
    ∙ node_by c.set_head.new.p.bytes w.head entries (ap (λ (h : Header). h.level) mid) (ap (λ (h : Header). h.ssn) mid) (ap (λ (h : Header). h.next) mid)
    ∙ ap (node_with w.head) c.as_slice.ensures.value in
    record {
      readable = c.set_entries.ensures.readable (ap (λ (h : Header). h.kind) mid);
      owner_is = ap (λ (h : Header). h.owner) new ∙ ap (λ (h : Header). h.owner) mid;
      own = ap (λ (h : Header). h.own) new ∙ ap (λ (h : Header). h.own) mid;
      used = ap (λ (h : Header). h.used) new ∙ ap (λ (h : Header). entry_place h.count) (sym new);
      means = means;
    }
