use Rattle.std.proofs.Common.{sym, subst}
use Rattle.isp_scan.specs.Readings.{SetsFit, SetsFitIn}
use Rattle.isp_scan.proofs.finding.found_in.Goals as goal

pub updated_in-requires : goal.updated_in-requires
updated_in-requires c = record { sets = subst (SetsFit c.args.schema.now) (sym c.as_slice-in-Update.ensures) (subst (SetsFitIn c.args.schema.now) c.in-Update.is c.requires.sets) }
