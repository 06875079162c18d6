use Rattle.std.proofs.Common.{rules, ℕ, sym, ◌∙◌, ap}
use Rattle.isp_page.specs.State.{FileShape}
use Rattle.isp_space.specs.Spaces.{has_room}
use Rattle.isp_tables.proofs.TableLaws.{open_on}
use Rattle.isp_tables.proofs.creating.make_or_refuse.Goals as goal

pub returns-then-not-branch-clause-created : goal.returns-then-not-branch-clause-created
returns-then-not-branch-clause-created g c tells trx d opened =
    let pages = ap (λ (s : FileShape). s.pages) c.in_ok-has_room.ensures.kept.keeps.same_shape in (
      open_on g.P.Pages c.args.pages.now c.has_room.new.pages c.args.tables.now trx d pages (c.in_ok-has_room.ensures.contents tells) opened,
      ap (λ (n : ℕ). has_room n d.space) pages ∙ sym (c.in_ok-has_room.ensures.room tells d.space opened.kept.holds.kept.catalogue.space_is) ∙ c.if-not-branch.true,
    )

pub returns-in_err-make_table-clause-sound : goal.returns-in_err-make_table-clause-sound
returns-in_err-make_table-clause-sound g c tells trx d opened =
    let pages = ap (λ (s : FileShape). s.pages) c.in_ok-has_room.ensures.kept.keeps.same_shape in
    let now = open_on g.P.Pages c.args.pages.now c.has_room.new.pages c.args.tables.now trx d pages (c.in_ok-has_room.ensures.contents tells) opened in
    let room = ap (λ (n : ℕ). has_room n d.space) pages ∙ sym (c.in_ok-has_room.ensures.room tells d.space opened.kept.holds.kept.catalogue.space_is) ∙ c.if-not-branch.false in
    let sound = c.in_err-make_table.ensures.sound tells trx d now room in
    search (rules, sound, c.from_residual-in_err-make_table.ensures)
