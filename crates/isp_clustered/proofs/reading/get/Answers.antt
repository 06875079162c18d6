use Rattle.std.proofs.Common.{rules, ℤ, sym, ◌∙◌, ap}
use Rattle.std.specs.Int.{w64}
use Rattle.std.specs.Option.{option_map}
use Rattle.std.proofs.lemmas.Int.{to_z-of_z}
use Rattle.isp_cells.specs.Rows.{find}
use Rattle.isp_cells.proofs.CellLaws.{leaf_stands_to, none_some, place_some}
use Rattle.isp_clustered.specs.Cells.{kept_of}
use Rattle.isp_clustered.specs.Trees.{rows_of}
use Rattle.isp_clustered.proofs.TreeLaws.{found_row}
use Rattle.isp_clustered.proofs.reading.get.Goals as goal

pub returns-in_ok-got-in-Some-clause-row : goal.returns-in_ok-got-in-Some-clause-row
returns-in_ok-got-in-Some-clause-row g c tells table tree is =
    let f = c.in_ok-leaf.ensures.leaf tells table tree is in
    let key = to_z-of_z w64 c.args.key c.ranges.key in
    let rows = f.leaf.rows in
    let stand = leaf_stands_to _ table _ _ _ rows f.stands.page f.used_is in
    let place = place_some _ _ c.place_of.result c.in-Some.is (c.place_of.ensures.place rows stand) in
    c.in_ok-got-in-Some.ensures _ rows stand place ∙ sym (ap (option_map kept_of) (found_row _ _ table _ tree _ _ _ _ is f)) ∙ ap (λ (k : ℤ). option_map kept_of (find k (rows_of tree))) key

pub returns-in_err-leaf-clause-sound : goal.returns-in_err-leaf-clause-sound
returns-in_err-leaf-clause-sound g c tells table tree is =
    let sound = c.in_err-leaf.ensures.sound tells table tree is in
    search (rules, sound, c.from_residual.ensures)

pub returns-in-None-clause-sound : goal.returns-in-None-clause-sound
returns-in-None-clause-sound g c tells table tree is =
    let f = c.in_ok-leaf.ensures.leaf tells table tree is in
    let rows = f.leaf.rows in
    let stand = leaf_stands_to _ table _ _ _ rows f.stands.page f.used_is in
    absurd (none_some _ c.place_of.result c.in-None.is (c.place_of.ensures.place rows stand))
