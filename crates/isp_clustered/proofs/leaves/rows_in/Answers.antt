use Rattle.std.proofs.Common.{rules, ◌+◌, Some, refl, sym, ◌∙◌, ap, subst, arith}
use Rattle.isp_disk.specs.Moments.{image_of}
use Rattle.isp_cells.proofs.CellLaws.{slot_in}
use Rattle.isp_clustered.proofs.WholeLaws.{Copied, cell_same, copy_ends, copy_on, copy_some}
use Rattle.isp_clustered.proofs.leaves.rows_in.Goals as goal

pub returns-in_default : goal.returns-in_default
returns-in_default c rows st =
    absurd (copy_some (image_of c.args.p.now.bytes) c.loop-at.at c.args.used rows c.loop-at.rows c.cell_at.result c.loop-at-test.true (c.loop-at.invariant.2 rows st) c.cell_at.ensures.stands (search rules))

pub loop-at-preserved : goal.loop-at-preserved
loop-at-preserved c =
    let within = c.in-Some.ensures.within.slot in
    let slot = c.from.ensures in
    let from = c.loop-at.invariant.0 in (
      omega (arith, from),
      omega (arith, within, slot),
      λ rows st.
          subst (Copied (image_of c.args.p.now.bytes) (c.loop-at.at + (13 + c.from.result)) c.args.used rows) (sym c.in_ok-push.ensures.ok)
          (copy_on (image_of c.args.p.now.bytes) c.loop-at.at c.args.used (c.loop-at.at + (13 + c.from.result)) c.from.result rows c.loop-at.rows c.in_ok-row.row c.loop-at-test.true (c.loop-at.invariant.2 rows st)
          (λ s more there. let same = sym c.in-Some.is ∙ c.cell_at.ensures.stands s more there in (slot ∙ ap slot_in same, c.in_ok-row.ensures s more there (cell_same _ _ same))) refl),
    )

pub returns : goal.returns
returns c rows st = ap Some (copy_ends (image_of c.args.p.now.bytes) c.loop-at.at c.args.used rows c.loop-at.rows c.loop-at-test.false (c.loop-at.invariant.2 rows st))
