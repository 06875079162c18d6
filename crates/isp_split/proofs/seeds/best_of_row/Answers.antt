use Rattle.std.proofs.Common.{sym, ◌∙◌, arith}
use Rattle.isp_split.proofs.SeedLaws.{row_begun, row_done, takes, passes}
use Rattle.isp_split.proofs.seeds.best_of_row.Goals as goal
use Rattle.isp_split.proofs.seeds.best_of_row.Goals.{then-wastes_more, else-wastes_more}

pub loop-j-init : goal.loop-j-init
loop-j-init c = record { pair = c.requires.pair; best_is = row_begun c.args.boxes.now c.args.i c.args.so_far.first c.args.so_far.second c.requires.so_far }

pub loop-j-preserved : goal.loop-j-preserved
loop-j-preserved c = elim c.if-wastes_more.branch [
  | then-wastes_more w ↦ takes c.args.boxes.now c.args.i c.loop-j.j c.pair_of-next.result c.loop-j.best c.if-wastes_more.best (omega arith) (omega arith) c.pair_of-next.ensures.pair c.pair_of-next.ensures.places.0 c.pair_of-next.ensures.places.1 c.loop-j.invariant (sym c.wastes_more.ensures ∙ w.if-wastes_more.true) w.best-is
  | else-wastes_more w ↦ passes c.args.boxes.now c.args.i c.loop-j.j c.pair_of-next.result c.loop-j.best c.if-wastes_more.best (omega arith) c.pair_of-next.ensures.pair c.pair_of-next.ensures.places.0 c.pair_of-next.ensures.places.1 c.loop-j.invariant (sym c.wastes_more.ensures ∙ w.if-wastes_more.false) w.best-is
]

pub returns-clause-best : goal.returns-clause-best
returns-clause-best c = row_done c.args.boxes.now c.args.i c.loop-j.j c.loop-j.best.first c.loop-j.best.second c.loop-j-test.false c.loop-j.invariant.best_is
