use Rattle.std.proofs.Common.{◌∙◌, ap}
use Rattle.isp_disk.specs.Moments.{image_of}
use Rattle.isp_format.specs.Header.{Header}
use Rattle.isp_division.proofs.EntryLaws.{IsMoved, behind_head, inner_moved, leaf_moved}
use Rattle.isp_division.proofs.entries.moved.Goals as goal

pub returns-clause-leaf : goal.returns-clause-leaf
returns-clause-leaf c table was next rows leaf =
    let h = c.head.ensures in
    let now = c.set_head.ensures.head in
    let m : IsMoved c.args.old.now.bytes c.set_head.new.p.bytes c.args.own.0 = record {
      kind = ap (λ (h : Header). h.kind) now ∙ ap (λ (h : Header). h.kind) h;
      level = ap (λ (h : Header). h.level) now ∙ ap (λ (h : Header). h.level) h;
      count = ap (λ (h : Header). h.count) now ∙ ap (λ (h : Header). h.count) h;
      owner = ap (λ (h : Header). h.owner) now ∙ ap (λ (h : Header). h.owner) h;
      next = ap (λ (h : Header). h.next) now ∙ ap (λ (h : Header). h.next) h;
      used = ap (λ (h : Header). h.used) now ∙ ap (λ (h : Header). h.used) h;
      own_is = ap (λ (h : Header). h.own) now;
      content = behind_head (image_of c.args.old.now.bytes) (image_of c.set_head.new.p.bytes) _ c.set_head.ensures.bytes;
    } in
    leaf_moved c.args.old.now.bytes c.set_head.new.p.bytes c.args.own.0 table was next rows m leaf

pub returns-clause-inner : goal.returns-clause-inner
returns-clause-inner c table was level names is =
    let h = c.head.ensures in
    let now = c.set_head.ensures.head in
    let m : IsMoved c.args.old.now.bytes c.set_head.new.p.bytes c.args.own.0 = record {
      kind = ap (λ (h : Header). h.kind) now ∙ ap (λ (h : Header). h.kind) h;
      level = ap (λ (h : Header). h.level) now ∙ ap (λ (h : Header). h.level) h;
      count = ap (λ (h : Header). h.count) now ∙ ap (λ (h : Header). h.count) h;
      owner = ap (λ (h : Header). h.owner) now ∙ ap (λ (h : Header). h.owner) h;
      next = ap (λ (h : Header). h.next) now ∙ ap (λ (h : Header). h.next) h;
      used = ap (λ (h : Header). h.used) now ∙ ap (λ (h : Header). h.used) h;
      own_is = ap (λ (h : Header). h.own) now;
      content = behind_head (image_of c.args.old.now.bytes) (image_of c.set_head.new.p.bytes) _ c.set_head.ensures.bytes;
    } in
    inner_moved c.args.old.now.bytes c.set_head.new.p.bytes c.args.own.0 table was level names m is
