use Rattle.std.proofs.Common.{Option, Some, sym, subst}
use Rattle.std.specs.Prelude.{IfOk}
use Rattle.isp_base.specs.declared.page_no.PageNo.{PageNo}
use Rattle.isp_plain.specs.declared.statement.Statement.{Statement}
use Rattle.isp_scan.specs.Leaves.{IsLeafFound}
use Rattle.isp_exec.specs.Standing.{IsLeft}
use Rattle.isp_exec.proofs.LeafLaws.{behind_found, behind_sound}
use Rattle.isp_exec.proofs.reading.read_piece.Goals as goal

pub returns-in-Some-clause-found : goal.returns-in-Some-clause-found
returns-in-Some-clause-found g c tells t left has is =
    let def = c.args.def.now in
    let s = c.args.work.now.statement in
    behind_found def.schema s t (Some c.in-Some.page.0) left c.read_leaf.result
    (λ piece later behind. subst (λ (s : Statement). IfOk c.read_leaf.result (IsLeafFound def.schema s t piece later)) c.statement.ensures (c.read_leaf.ensures.found tells t piece later has behind))
    (subst (λ (o : Option PageNo). IsLeft t s o left) (sym c.in-Some.ensures) is)

pub returns-in-Some-clause-sound : goal.returns-in-Some-clause-sound
returns-in-Some-clause-sound g c tells t left has is some =
    let s = c.args.work.now.statement in
    behind_sound c.args.def.now.schema s t (Some c.in-Some.page.0) left c.read_leaf.result (λ piece later behind. c.read_leaf.ensures.sound tells t piece later has behind)
    (subst (λ (o : Option PageNo). IsLeft t s o left) (sym c.in-Some.ensures) is) some

pub returns-in-None-clause-sound : goal.returns-in-None-clause-sound
returns-in-None-clause-sound g c tells t left has is some =
    c.read_first.ensures.sound tells t left has (subst (λ (o : Option PageNo). IsLeft t c.args.work.now.statement o left) (sym c.in-None.ensures) is) some
