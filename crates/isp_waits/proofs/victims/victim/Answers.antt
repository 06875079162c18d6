use Rattle.std.proofs.Common.{◌∙◌, ◌<◌, get_or, length, ap, sym, subst}
use Rattle.std.specs.List.{All}
use Rattle.std.proofs.lemmas.List.{take_all}
use Rattle.std.proofs.lemmas.List.Elements.{All-more}
use Rattle.isp_waits.specs.Graphs.{has}
use Rattle.isp_waits.specs.Victims.{GivesWay}
use Rattle.isp_waits.proofs.Lists.{all_has}
use Rattle.isp_waits.proofs.Members.{has_at}
use Rattle.isp_waits.proofs.VictimLemmas.{best_taken}
use Rattle.isp_waits.proofs.victims.victim.Goals as goal
use Rattle.isp_waits.proofs.victims.victim.Goals.{then-gives_way, else-gives_way}

pub loop-s-preserved : goal.loop-s-preserved
loop-s-preserved c =
    let lt = c.loop-s-test.true in
    elim c.if-gives_way.branch [
      | then-gives_way w ↦ rw w.best-is (
        has_at c.as_slice-members.result.now c.loop-s.s-index 0 lt,
        subst (λ xs. get_or xs c.loop-s.s-index 0 < 17) (sym c.as_slice-members.ensures)
            (c.requires.sessions c.loop-s.s-index 0 (subst (λ xs. c.loop-s.s-index < length xs) c.as_slice-members.ensures lt)),
        best_taken c.args.undo.now c.as_slice-members.result.now c.loop-s.s-index c.loop-s.best lt w.if-gives_way.ensures c.loop-s.invariant.2,
      )
      | else-gives_way w ↦ rw w.best-is (
        c.loop-s.invariant.0,
        c.loop-s.invariant.1,
        All-more (GivesWay c.args.undo.now c.loop-s.best) c.as_slice-members.result.now c.loop-s.s-index 0 lt c.loop-s.invariant.2 w.if-gives_way.ensures,
      )
    ]

pub returns : goal.returns
returns c =
    let long = c.loop-s-test.false in
    let same = c.as_slice-members.ensures in
    let all = subst (λ xs. All (GivesWay c.args.undo.now c.loop-s.best) xs) (take_all c.loop-s.s-index c.as_slice-members.result.now long ∙ same) c.loop-s.invariant.2 in
    record {
      member = ap (λ xs. has xs c.loop-s.best) (sym same) ∙ c.loop-s.invariant.0;
      first = λ other h. all_has (GivesWay c.args.undo.now c.loop-s.best) c.args.c.now.members.items other all h;
    }
