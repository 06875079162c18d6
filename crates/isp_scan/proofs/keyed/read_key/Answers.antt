use Rattle.std.proofs.Common.{List, [], sym, ◌∙◌, ap, subst, w64}
use Rattle.std.specs.Prelude.{ℤ}
use Rattle.std.proofs.lemmas.Int.{to_z-of_z}
use Rattle.isp_clustered.specs.declared.kept.KeptRow.{KeptRow}
use Rattle.isp_image.specs.Databases.{row_key}
use Rattle.isp_image.specs.Keyed.{found, joined}
use Rattle.isp_work.specs.Finding.{found_in}
use Rattle.isp_scan.specs.Scanning.{AreKeptAs}
use Rattle.isp_scan.proofs.KeyLaws.{found_shown}
use Rattle.isp_scan.proofs.keyed.read_key.Goals as goal

pub returns-in-Ok-clause-found : goal.returns-in-Ok-clause-found
returns-in-Ok-clause-found g c tells t has =
    let there = subst (λ (k : ℤ). AreKeptAs c.args.def.now.schema c.in_ok-there.there (joined (found row_key k t.rows) [])) (to_z-of_z w64 c.args.key c.ranges.key) (c.in_ok-there.ensures.row tells t has) in
    let kept = subst (λ (rows : List KeptRow). AreKeptAs c.args.def.now.schema rows (joined (found row_key c.args.key t.rows) [])) (sym c.as_slice.ensures) there in
    c.in-Ok.ensures.found (joined (found row_key c.args.key t.rows) []) kept
    ∙ ap (found_in c.args.def.now.schema c.args.statement.now) (found_shown g.P.Pages c.args.pages.now c.args.def.now t c.args.key has)
