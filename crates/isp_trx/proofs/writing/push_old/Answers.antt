use Rattle.std.proofs.Common.{ap}
use Rattle.isp_page.specs.State.{FileShape}
use Rattle.isp_trx.specs.Transactions.{old_image}
use Rattle.isp_trx.proofs.PartLaws.{push_on}
use Rattle.isp_trx.proofs.writing.push_old.Goals as goal

pub returns-clause-pushed : goal.returns-clause-pushed
returns-clause-pushed g c tells =
    let pages = λ (shape : FileShape). shape.pages in
    push_on _ _ _ _ _ _ c.args.slot (old_image c.args.at c.args.old.now) _ (ap pages c.begin.ensures.kept.keeps.same_shape) (ap pages c.in_ok-push.ensures.changes.kept.keeps.same_shape)
    (c.begin.ensures.contents tells) c.entry_of-entry.ensures.image (c.in_ok-push.ensures.pushed tells)
