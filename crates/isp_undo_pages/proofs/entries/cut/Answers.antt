use Rattle.std.proofs.Common.{ap}
use Rattle.isp_format.specs.Header.{Header}
use Rattle.isp_undo_pages.proofs.EntryLaws.{page_cut}
use Rattle.isp_undo_pages.proofs.entries.cut.Goals as goal

pub returns : goal.returns
returns c own before was images gone page used =
    let h : Header = record { kind = c.head.result.kind; level = c.head.result.level; count = c.head.result.count; owner = c.head.result.owner; next = c.args.next.0; prev = c.head.result.prev.0; ssn = c.head.result.ssn; own = c.head.result.own.0; used = c.args.used } in
    page_cut _ _ h c.set_head.ensures.bytes c.set_head.ensures.head (record {
      kind = ap (λ (h : Header). h.kind) c.head.ensures;
      level = ap (λ (h : Header). h.level) c.head.ensures;
      owner = ap (λ (h : Header). h.owner) c.head.ensures;
      own = ap (λ (h : Header). h.own) c.head.ensures;
      before = ap (λ (h : Header). h.prev) c.head.ensures;
    }) own before was _ _ images gone page (λ i. c.args.next.0) (λ i. c.args.used) used
