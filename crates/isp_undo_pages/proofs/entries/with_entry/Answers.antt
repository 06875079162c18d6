use Rattle.std.proofs.Common.{◌+◌, ap, arith}
use Rattle.isp_disk.specs.Moments.{image_of}
use Rattle.isp_format.specs.Header.{Header}
use Rattle.isp_undo_pages.specs.Entries.{image_in}
use Rattle.isp_undo_pages.proofs.EntryLaws.{page_longer, row_long}
use Rattle.isp_undo_pages.proofs.entries.with_entry.Goals as goal

pub returns : goal.returns
returns c own before next images page used =
    let long = row_long c.args.old.now c.requires.buf in
    let room = c.requires.room in
    let h : Header = record { kind = c.head.result.kind; level = c.head.result.level; count = c.head.result.count; owner = c.head.result.owner; next = c.head.result.next.0; prev = c.head.result.prev.0; ssn = c.head.result.ssn; own = c.head.result.own.0; used = c.args.used + 17 + c.from.result } in
    page_longer _ _ (image_of c.put_entry.new.p.bytes) h (image_in c.args.old.now) c.args.used c.put_entry.ensures.bytes c.set_head.ensures.bytes c.set_head.ensures.head (record {
      kind = ap (λ (h : Header). h.kind) c.head.ensures;
      level = ap (λ (h : Header). h.level) c.head.ensures;
      owner = ap (λ (h : Header). h.owner) c.head.ensures;
      own = ap (λ (h : Header). h.own) c.head.ensures;
      before = ap (λ (h : Header). h.prev) c.head.ensures;
    }) c.put_entry.ensures.fits (omega (arith, room, long)) own before next images page (ap (λ (h : Header). h.next) c.head.ensures) (let from = c.from.ensures in omega (arith, from, long)) used
