use Rattle.std.proofs.Common.{ℕ, ℤ, length, sym, ◌∙◌, ap, subst}
use Rattle.std.specs.Prelude.{nat_le}
use Rattle.std.specs.Int.{w64}
use Rattle.std.proofs.lemmas.Int.{to_z-of_z}
use Rattle.isp_disk.specs.Moments.{image_of}
use Rattle.isp_cells.specs.Cells.{Stand, place_in}
use Rattle.isp_cells.proofs.CellLaws.{place_some, leaf_stands}
use Rattle.isp_cells.proofs.EditLaws.{place_parts, put_fits}
use Rattle.isp_cells.proofs.edits.put_in.Goals as goal

pub returns-in-Some-clause-some : goal.returns-in-Some-clause-some
returns-in-Some-clause-some c table own next rows leaf used_is fitting =
    let old = c.args.old.now.bytes in
    let key = to_z-of_z w64 c.args.key c.ranges.key in
    let stand : Stand (image_of old) 64 c.args.used rows = subst (λ (n : ℕ). Stand (image_of old) 64 n rows) (sym used_is) (leaf_stands old table own next rows leaf.page) in
    let place = place_some _ _ c.place_of.result c.in-Some.is (c.place_of.ensures.place rows stand) ∙ ap (λ (k : ℤ). place_in k 64 rows) key in
    let parted = place_parts old table own next rows c.args.key c.args.used c.in-Some.place leaf used_is place in
    c.put_at.ensures.some (ap (λ (n : ℕ). nat_le n 4096) (put_fits old table own next rows c.args.key c.args.used (length c.args.row.now) c.in-Some.place parted) ∙ fitting)
