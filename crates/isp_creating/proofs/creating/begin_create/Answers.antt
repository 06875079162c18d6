use Rattle.std.proofs.Common.{rules, ap, subst}
use Rattle.isp_page.specs.State.{FileShape}
use Rattle.isp_catalog.specs.declared.table.TableDef.{TableDef}
use Rattle.isp_creating.specs.Creating.{Created}
use Rattle.isp_creating.proofs.CreateLaws.{can_moved, created_moved}
use Rattle.isp_creating.proofs.creating.begin_create.Goals as goal

pub returns-clause-created : goal.returns-clause-created
returns-clause-created g c tells chains d can =
    let shape = ap (λ (shape : FileShape). shape.pages) c.begin.ensures.kept.keeps.same_shape in
    created_moved _ _ _ chains _ d shape (c.in_ok-fill.ensures.created tells chains d (can_moved _ _ _ _ chains _ _ d shape (c.begin.ensures.contents tells) can))

pub returns-clause-creates : goal.returns-clause-creates
returns-clause-creates g c tells =
    let shape = ap (λ (shape : FileShape). shape.pages) c.begin.ensures.kept.keeps.same_shape in
    record {
      makes = λ chains d can. (
        c.fill.new.def.root,
        subst (λ (def : TableDef). Created (g.P.Pages.shape c.args.pages.now).pages (g.P.Pages.contents c.fill.new.pages) chains def d) c.in_ok-fill.ensures.def
            (created_moved _ _ _ chains _ d shape (c.in_ok-fill.ensures.created tells chains d (can_moved _ _ _ _ chains _ _ d shape (c.begin.ensures.contents tells) can))),
      );
    }

pub returns-in_err-fill-clause-sound : goal.returns-in_err-fill-clause-sound
returns-in_err-fill-clause-sound g c tells chains d can =
    let shape = ap (λ (shape : FileShape). shape.pages) c.begin.ensures.kept.keeps.same_shape in
    let sound = c.in_err-fill.ensures.sound tells chains d (can_moved _ _ _ _ chains _ _ d shape (c.begin.ensures.contents tells) can) in
    search (rules, sound, c.from_residual.ensures)
