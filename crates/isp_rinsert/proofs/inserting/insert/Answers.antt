use Rattle.std.proofs.Common.{rules, ℤ, FitsSigned, sym, subst, w64}
use Rattle.std.proofs.lemmas.Int.{to_z-of_z}
use Rattle.isp_page.specs.State.{FileShape}
use Rattle.isp_rtree.specs.Paths.{numbers_of}
use Rattle.isp_rinsert.specs.Inserting.{CanInsert, IsInserted}
use Rattle.isp_rinsert.specs.Preparing.{IsPrepared}
use Rattle.isp_rinsert.proofs.BehindLaws.{can_behind, inserted_behind}
use Rattle.isp_rinsert.proofs.inserting.insert.Goals as goal

pub returns-in_err-work-clause-sound : goal.returns-in_err-work-clause-sound
returns-in_err-work-clause-sound g c tells owner root tree s can =
    let sound = c.in_err-work.ensures.sound tells owner root tree can.is_tree can.stands can.numbers in
    search (rules, sound, c.from_residual.ensures)

pub returns-in_err-changes-clause-sound : goal.returns-in_err-changes-clause-sound
returns-in_err-changes-clause-sound g c tells owner root tree s can =
    let r = c.in_ok-work.ensures.reads in
    let mid : CanInsert g.P.Pages c.prepare.new.pages owner root tree s (numbers_of c.args.path.now) = can_behind g.P.Pages c.args.pages.now c.prepare.new.pages owner root tree s (numbers_of c.args.path.now) r.kept.keeps.same_shape (r.contents tells) can in
    let prepared : IsPrepared (g.P.Pages.shape c.prepare.new.pages).fanout owner tree (numbers_of c.args.path.now) c.args.b.now c.in_ok-work.work = subst (λ (x : FileShape). IsPrepared x.fanout owner tree (numbers_of c.args.path.now) c.args.b.now c.in_ok-work.work) (sym r.kept.keeps.same_shape) (c.in_ok-work.ensures.prepared tells owner root tree can.is_tree can.stands) in
    let sound = c.in_err-changes.ensures.sound tells owner root tree s (numbers_of c.args.path.now) c.args.b.now mid prepared in
    search (rules, sound, c.from_residual-in_err-changes.ensures)

pub returns-clause-inserted : goal.returns-clause-inserted
returns-clause-inserted g c tells owner root tree s can =
    let r = c.in_ok-work.ensures.reads in
    let mid : CanInsert g.P.Pages c.prepare.new.pages owner root tree s (numbers_of c.args.path.now) = can_behind g.P.Pages c.args.pages.now c.prepare.new.pages owner root tree s (numbers_of c.args.path.now) r.kept.keeps.same_shape (r.contents tells) can in
    let prepared : IsPrepared (g.P.Pages.shape c.prepare.new.pages).fanout owner tree (numbers_of c.args.path.now) c.args.b.now c.in_ok-work.work = subst (λ (x : FileShape). IsPrepared x.fanout owner tree (numbers_of c.args.path.now) c.args.b.now c.in_ok-work.work) (sym r.kept.keeps.same_shape) (c.in_ok-work.ensures.prepared tells owner root tree can.is_tree can.stands) in
    let fits : FitsSigned w64 c.args.key = search rules in
    let told = c.in_ok-changes.ensures.inserted tells owner root tree s (numbers_of c.args.path.now) c.args.b.now mid prepared in
    let is : IsInserted g.P.Pages c.prepare.new.pages c.apply.new.pages owner root tree s (numbers_of c.args.path.now) c.args.b.now c.args.key c.in_ok-changes.changes = subst (λ (k : ℤ). IsInserted g.P.Pages c.prepare.new.pages c.apply.new.pages owner root tree s (numbers_of c.args.path.now) c.args.b.now k c.in_ok-changes.changes) (to_z-of_z w64 c.args.key fits) told in
    inserted_behind g.P.Pages c.args.pages.now c.prepare.new.pages c.apply.new.pages owner root tree s (numbers_of c.args.path.now) c.args.b.now c.args.key c.in_ok-changes.changes r.kept.keeps.same_shape (r.contents tells) is
