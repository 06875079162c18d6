use Rattle.std.proofs.Common.{None, sym, ◌∙◌, ap, subst}
use Rattle.std.specs.Prelude.{IfOk}
use Rattle.isp_plain.specs.declared.statement.Statement.{Statement}
use Rattle.isp_scan.specs.Keys.{named_key}
use Rattle.isp_scan.specs.Leaves.{IsLeafFound}
use Rattle.isp_exec.proofs.LeafLaws.{behind_found, behind_sound, first_behind}
use Rattle.isp_exec.proofs.reading.read_first.Goals as goal

pub returns-in-None-clause-found : goal.returns-in-None-clause-found
returns-in-None-clause-found g c tells t left has is =
    let def = c.args.def.now in
    let s = c.args.work.now.statement in
    behind_found def.schema s t None left c.read_leaf.result
    (λ piece later behind. subst (λ (s : Statement). IfOk c.read_leaf.result (IsLeafFound def.schema s t piece later)) c.statement-in-None.ensures (c.read_leaf.ensures.found tells t piece later has behind))
    (first_behind def s t has.is left is (sym (c.in-None.ensures ∙ ap (named_key def) c.statement.ensures)))

pub returns-in-None-clause-sound : goal.returns-in-None-clause-sound
returns-in-None-clause-sound g c tells t left has is some =
    let def = c.args.def.now in
    let s = c.args.work.now.statement in
    behind_sound def.schema s t None left c.read_leaf.result (λ piece later behind. c.read_leaf.ensures.sound tells t piece later has behind)
    (first_behind def s t has.is left is (sym (c.in-None.ensures ∙ ap (named_key def) c.statement.ensures))) some
