use Rattle.std.proofs.Common.{◌≡◌, subst, sym, rules}
use Rattle.isp_wkt.specs.Grammar.{IsText}
use Rattle.isp_wkt.specs.Printed.{printed}
use Rattle.isp_wkt.proofs.PrintedMeans.{printed_means}
use Rattle.isp_wkt.proofs.printer.print.Goals as goal

pub returns-clause-means : goal.returns-clause-means
returns-clause-means c =
    let e : c.from_vec.result ≡ printed c.args.geometry.now = search rules in
    subst (IsText c.args.geometry.now) (sym e) (printed_means c.args.geometry.now c.form.ensures.kept)
