use Rattle.std.proofs.Common.{rules, ◌≡◌, List, [], ◌∷◌, ◌++◌, Some, sym, ◌∙◌, ap, subst, w64, to_z, of_z}
use Rattle.std.specs.Prelude.{ℤ}
use Rattle.std.specs.Option.{option_map}
use Rattle.std.proofs.lemmas.Int.{to_z-of_z}
use Rattle.isp_clustered.specs.Cells.{kept_of}
use Rattle.isp_clustered.specs.Rows.{find}
use Rattle.isp_clustered.specs.Trees.{rows_of}
use Rattle.isp_clustered.specs.declared.kept.KeptRow.{KeptRow}
use Rattle.isp_image.specs.Databases.{row_key}
use Rattle.isp_image.specs.Keyed.{found, joined}
use Rattle.isp_scan.specs.Scanning.{AreKeptAs}
use Rattle.isp_scan.proofs.KeyLaws.{kept_as, keyed}
use Rattle.isp_scan.proofs.TakenLaws.{tree_of}
use Rattle.isp_scan.proofs.keyed.row_of.Goals as goal

pub returns-in_err-kept-clause-sound : goal.returns-in_err-kept-clause-sound
returns-in_err-kept-clause-sound g c tells t has =
    let sound = c.in_err-kept.ensures.sound tells c.args.def.now.number t.tree (tree_of g.P.Pages c.args.pages.now c.args.def.now t has) in
    search (rules, sound, c.from_residual.ensures)

pub returns-in_ok-push-in-Some-clause-row : goal.returns-in_ok-push-in-Some-clause-row
returns-in_ok-push-in-Some-clause-row g c tells t has =
    let key = to_z-of_z w64 c.args.key c.ranges.key in
    let is = c.in_ok-kept.ensures.row tells c.args.def.now.number t.tree (tree_of g.P.Pages c.args.pages.now c.args.def.now t has)
    ∙ ap (λ (k : ℤ). option_map kept_of (find k (rows_of t.tree))) key in
    let kept = kept_as g.P.Pages c.args.pages.now c.args.def.now t c.args.key _ has (sym c.in-Some.is ∙ is) in
    let pushed : List KeptRow = record { key = to_z w64 (of_z w64 c.args.key); kept = c.in-Some.kept } ∷ [] in
    let list : c.push.new.self ≡ keyed c.args.key (Some c.in-Some.kept) = c.in_ok-push-in-Some.ensures.ok ∙ ap (λ (l : List KeptRow). l ++ pushed) c.new-rows.ensures ∙ ap (λ (k : ℤ). keyed k (Some c.in-Some.kept)) key in
    subst (λ (rows : List KeptRow). AreKeptAs c.args.def.now.schema rows (joined (found row_key c.args.key t.rows) [])) (sym list) kept

pub returns-in-None-clause-row : goal.returns-in-None-clause-row
returns-in-None-clause-row g c tells t has =
    let is = c.in_ok-kept.ensures.row tells c.args.def.now.number t.tree (tree_of g.P.Pages c.args.pages.now c.args.def.now t has)
    ∙ ap (λ (k : ℤ). option_map kept_of (find k (rows_of t.tree))) (to_z-of_z w64 c.args.key c.ranges.key) in
    let kept = kept_as g.P.Pages c.args.pages.now c.args.def.now t c.args.key _ has (sym c.in-None.is ∙ is) in
    subst (λ (rows : List KeptRow). AreKeptAs c.args.def.now.schema rows (joined (found row_key c.args.key t.rows) [])) (sym c.new-rows.ensures) kept
