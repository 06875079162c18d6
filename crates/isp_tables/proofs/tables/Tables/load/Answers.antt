use Rattle.std.proofs.Common.{rules, ◌∙◌}
use Rattle.std.proofs.lemmas.Result.{err_from_is_err_and}
use Rattle.isp_tables.proofs.KeepLaws.{stops_damaged}
use Rattle.isp_tables.proofs.LoadLaws.{same_tables, tables_keyed}
use Rattle.isp_tables.proofs.tables.Tables.load.Goals as goal

pub returns-in_err-defs-2-clause-kept : goal.returns-in_err-defs-2-clause-kept
returns-in_err-defs-2-clause-kept g c =
    let p = err_from_is_err_and c.from_residual-in_err-defs-2.result c.from_residual-in_err-defs-2.ensures.1 in
    stops_damaged g.P.Pages c.args.pages.now c.load.new.pages _ c.from_residual-in_err-defs-2.result p.0 0 6 p.1 (p.2 ∙ c.in_err-defs-2.ensures.damaged) c.in_ok-defs.ensures.kept

pub returns-in_err-defs-2-clause-sound : goal.returns-in_err-defs-2-clause-sound
returns-in_err-defs-2-clause-sound g c tells s defs has =
    let keyed = tables_keyed _ _ s _ (c.in_ok-defs.ensures.found tells s has.space_is) in
    let sound = c.in_err-defs-2.ensures.sound keyed in
    search (rules, sound, c.from_residual-in_err-defs-2.ensures)

pub returns-clause-found : goal.returns-clause-found
returns-clause-found g c tells s defs has = c.in_ok-defs-2.ensures.same ∙ same_tables _ _ s _ defs (c.in_ok-defs.ensures.found tells s has.space_is) has
