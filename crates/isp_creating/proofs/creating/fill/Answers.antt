use Rattle.std.proofs.Common.{rules, ◌∙◌, ap}
use Rattle.isp_page.specs.State.{FileShape}
use Rattle.isp_space.specs.Spaces.{taken}
use Rattle.isp_creating.specs.Creating.{definitions, with_root}
use Rattle.isp_creating.proofs.CreateLaws.{created_by, is_next, tables_at}
use Rattle.isp_creating.proofs.TwoSteps.{two_steps}
use Rattle.isp_creating.proofs.creating.fill.Goals as goal

pub returns-clause-created : goal.returns-clause-created
returns-clause-created g c tells chains d can =
    let mid_shape = ap (λ (shape : FileShape). shape.pages) c.in_ok-root.ensures.kept.keeps.same_shape in
    let last_shape = ap (λ (shape : FileShape). shape.pages) c.in_ok-add.ensures.kept.keeps.same_shape in
    created_by _ _ _ _ _ _ chains d (with_root c.in_ok-root.root c.args.def.now) mid_shape (last_shape ∙ mid_shape) can c.requires.may.to
    (c.in_ok-root.ensures.made tells d.space can.kept.holds.kept.catalogue.space_is can.free) (c.in_ok-add.ensures.added tells) (c.in_ok-add.ensures.others tells)

pub returns-in_err-add-clause-sound : goal.returns-in_err-add-clause-sound
returns-in_err-add-clause-sound g c tells chains d can =
    let mid_shape = ap (λ (shape : FileShape). shape.pages) c.in_ok-root.ensures.kept.keeps.same_shape in
    let planted = c.in_ok-root.ensures.made tells d.space can.kept.holds.kept.catalogue.space_is can.free in
    let def = with_root c.in_ok-root.root c.args.def.now in
    let sound = c.in_err-add.ensures.sound tells (taken d.space) (definitions d) (tables_at _ _ _ _ d _ _ mid_shape can.kept.holds.kept planted) (is_next _ _ chains d def can) in
    search (rules, sound, c.from_residual-in_err-add.ensures)

pub returns-clause-kept : goal.returns-clause-kept
returns-clause-kept g c = two_steps g.P.Pages c.args.pages.now c.plant.new.pages c.add.new.pages _ _ tt c.in_ok-root.ensures.kept c.in_ok-add.ensures.kept
