use Rattle.std.proofs.Common.{◌≡◌, ℕ, ◌+◌, ◌-◌, List, length, ◌∙◌, ap, arith}
use Rattle.isp_disk.specs.Moments.{image_of}
use Rattle.isp_format.specs.Header.{Header, header_of}
use Rattle.isp_format.proofs.Slices.{length-slice}
use Rattle.isp_cells.proofs.EditLaws.{IsSpliced, SameHead, spliced_counted}
use Rattle.isp_cells.proofs.edits.spliced.Goals as goal

pub put_bytes-requires : goal.put_bytes-requires
put_bytes-requires c =
    let long : length c.piece.result.now ≡ c.args.used - c.args.end = ap (λ (l : List ℕ). length l) c.piece.ensures ∙ length-slice (image_of c.args.old.now.bytes) c.args.end (c.args.used - c.args.end) in
    let fits = c.requires.fits in
    omega (arith, long, fits)

pub returns : goal.returns
returns c =
    let h : Header = record { kind = c.head.result.kind; level = c.head.result.level; count = c.args.count; owner = c.head.result.owner; next = c.head.result.next.0; prev = c.head.result.prev.0; ssn = c.head.result.ssn; own = c.head.result.own.0; used = c.args.at + length c.args.put.now + (c.args.used - c.args.end) } in
    let spliced : IsSpliced (image_of c.args.old.now.bytes) (image_of c.set_head.new.p.bytes) c.args.at c.args.end c.args.used c.args.put.now h = record {
      moved = image_of c.put_bytes.new.p.bytes;
      pieced = image_of c.put_bytes-2.new.p.bytes;
      tail = c.piece.result.now;
      tail_is = c.piece.ensures;
      moved_is = c.put_bytes.ensures.put;
      pieced_is = c.put_bytes-2.ensures.put;
      new_is = c.set_head.ensures.bytes;
    } in
    let same : SameHead (header_of c.args.old.now.bytes) h (c.args.at + length c.args.put.now + (c.args.used - c.args.end)) = record {
      kind = ap (λ (h : Header). h.kind) c.head.ensures;
      level = ap (λ (h : Header). h.level) c.head.ensures;
      owner = ap (λ (h : Header). h.owner) c.head.ensures;
      own = ap (λ (h : Header). h.own) c.head.ensures;
      next = ap (λ (h : Header). h.next) c.head.ensures;
      ends = λ i. c.args.at + length c.args.put.now + (c.args.used - c.args.end);
    } in
    record { leaf = spliced_counted c.args.old.now.bytes c.set_head.new.p.bytes c.args.at c.args.end c.args.used c.args.put.now h spliced c.set_head.ensures.head same c.requires.fits }
