use Rattle.std.proofs.Common.{rules, ◌≡◌, ℕ, true, false, refl, sym, ◌∙◌, ap, subst}
use Rattle.isp_page.specs.State.{FileShape}
use Rattle.isp_trx.specs.Writes.{Wrote, write_at}
use Rattle.isp_trx.proofs.WriteLaws.{can_moved}
use Rattle.isp_writes.proofs.WriteLaws.{can_write}
use Rattle.isp_writes.proofs.writing.write_bytes.Goals as goal

pub returns-in_err-has_room-clause-sound : goal.returns-in_err-has_room-clause-sound
returns-in_err-has_room-clause-sound g c tells chains chain d t r may =
    let sound = c.in_err-has_room.ensures.sound tells d.space may.kept.holds.kept.catalogue.space_is in
    search (rules, sound, c.from_residual.ensures)

pub returns-then-not-branch-clause-wrote : goal.returns-then-not-branch-clause-wrote
returns-then-not-branch-clause-wrote g c tells chains chain d t r may =
    let said : c.in_ok-has_room.field-0 ≡ false = search (rules, c.if-not-branch.true) in
    (c.in_ok-has_room.ensures.contents tells, refl, sym (c.in_ok-has_room.ensures.room tells d.space may.kept.holds.kept.catalogue.space_is) ∙ said)

pub returns-in_err-write_row-clause-sound : goal.returns-in_err-write_row-clause-sound
returns-in_err-write_row-clause-sound g c tells chains chain d t r may =
    let w = write_at c.args.at c.args.root.0 c.args.old.now c.args.bytes.now c.args.deletes in
    let said : c.in_ok-has_room.field-0 ≡ true = search (rules, c.if-not-branch.false) in
    let room = sym (c.in_ok-has_room.ensures.room tells d.space may.kept.holds.kept.catalogue.space_is) ∙ said in
    let moved = can_moved _ _ _ _ chains _ chain w d t r (ap (λ (shape : FileShape). shape.pages) c.in_ok-has_room.ensures.kept.keeps.same_shape) (c.in_ok-has_room.ensures.contents tells) (can_write _ _ chains _ chain w d t r may room) in
    let sound = c.in_err-write_row.ensures.sound tells chains chain d t r moved in
    search (rules, sound, c.from_residual-in_err-write_row.ensures)

pub returns-clause-wrote : goal.returns-clause-wrote
returns-clause-wrote g c tells chains chain d t r may =
    let w = write_at c.args.at c.args.root.0 c.args.old.now c.args.bytes.now c.args.deletes in
    let said : c.in_ok-has_room.field-0 ≡ true = search (rules, c.if-not-branch.false) in
    let room = sym (c.in_ok-has_room.ensures.room tells d.space may.kept.holds.kept.catalogue.space_is) ∙ said in
    let can = can_write _ _ chains _ chain w d t r may room in
    let pages = ap (λ (shape : FileShape). shape.pages) c.in_ok-has_room.ensures.kept.keeps.same_shape in
    let moved = can_moved _ _ _ _ chains _ chain w d t r pages (c.in_ok-has_room.ensures.contents tells) can in
    (can, subst (λ (n : ℕ). Wrote n (g.P.Pages.contents c.write_row.new.pages) chains c.args.trx.now.session chain w r d) pages ((c.in_ok-write_row.ensures.written tells).makes chains chain d t r moved), c.in_ok-write_row.ensures.noted)
