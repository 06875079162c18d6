use Rattle.std.proofs.Common.{ℕ, sym, ◌∙◌, ap, subst, arith}
use Rattle.isp_disk.specs.Moments.{image_of}
use Rattle.isp_format.specs.Undo.{OldImage}
use Rattle.isp_undo_pages.specs.Entries.{IsEntry}
use Rattle.isp_undo_pages.specs.declared.entries.Spot.{Spot}
use Rattle.isp_undo_pages.proofs.EntryLaws.{newest_stands}
use Rattle.isp_undo.proofs.PopLaws.{no_spot, one_spot}
use Rattle.isp_undo.proofs.popping.read_image.Goals as goal

pub returns-then-into-le-MARKED_KIND-clause-read : goal.returns-then-into-le-MARKED_KIND-clause-read
returns-then-into-le-MARKED_KIND-clause-read c own before next images image stands used =
    let spot = one_spot _ _ (sym c.in-Some.is ∙ c.newest.ensures.spot own before next images image stands used) in
    let n = newest_stands _ own before next c.args.used images image stands used in
    c.read_entry.ensures.image image (subst (λ (at : ℕ). IsEntry (image_of c.args.p.now.bytes) at image) (sym (ap (λ (s : Spot). s.at) spot)) n.entry) (ap (λ (s : Spot). s.len) spot)

pub returns-else-into-le-MARKED_KIND-clause-sound : goal.returns-else-into-le-MARKED_KIND-clause-sound
returns-else-into-le-MARKED_KIND-clause-sound c own before next images image stands used =
    let spot = one_spot _ _ (sym c.in-Some.is ∙ c.newest.ensures.spot own before next images image stands used) in
    let n = newest_stands _ own before next c.args.used images image stands used in
    let read = c.read_entry.ensures.image image (subst (λ (at : ℕ). IsEntry (image_of c.args.p.now.bytes) at image) (sym (ap (λ (s : Spot). s.at) spot)) n.entry) (ap (λ (s : Spot). s.len) spot) in
    let over = c.if-into-le-MARKED_KIND.false in
    let kind = n.entry.is.kind in
    let is = ap (λ (i : OldImage). i.kind) read in
    absurd (omega (arith, over, kind, is))

pub returns-in-None-clause-sound : goal.returns-in-None-clause-sound
returns-in-None-clause-sound c own before next images image stands used = absurd (no_spot _ (sym c.in-None.is ∙ c.newest.ensures.spot own before next images image stands used))
