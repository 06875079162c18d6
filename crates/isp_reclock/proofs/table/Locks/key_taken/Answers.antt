use Rattle.std.proofs.Common.{◌∙◌, ap, w64}
use Rattle.std.specs.List.{list_any}
use Rattle.std.proofs.lemmas.Int.{to_z-of_z}
use Rattle.isp_reclock.specs.Tables.{holds, takes}
use Rattle.isp_reclock.proofs.BlockerLemmas.{taken}
use Rattle.isp_reclock.proofs.table.Locks.key_taken.Goals as goal

pub returns : goal.returns
returns c =
    let same = to_z-of_z w64 c.args.key c.ranges.key in
    taken c.args.self.now c.args.table c.args.key c.self.inside.holders.keys
    (λ lock h. c.self.invariant.known lock (ap (λ locks. holds locks lock) c.self.view_is ∙ h)) c.is_taken_by.result
    (c.is_taken_by.ensures ∙ ap (λ key. list_any (takes c.args.self.now c.args.table key) c.self.inside.holders.keys) same)
