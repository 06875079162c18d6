use Rattle.std.proofs.Common.{ℕ, sym, subst}
use Rattle.isp_trx.specs.Noting.{write_at}
use Rattle.isp_trx.specs.Writes.{CanWrite}
use Rattle.isp_trx.proofs.trx.Trx.write_row.Goals as goal

pub returns-in-Err-clause-sound : goal.returns-in-Err-clause-sound
returns-in-Err-clause-sound g c tells chains chain d t r can =
    let w = write_at c.args.at c.args.root.0 c.args.old.now c.args.row.now c.args.marked in
    c.in-Err.ensures.sound tells chains chain d t r (subst (λ (slot : ℕ). CanWrite (g.P.Pages.shape c.args.pages.now).pages (g.P.Pages.contents c.args.pages.now) chains slot chain w d t r) (sym c.session.ensures.is) can)
