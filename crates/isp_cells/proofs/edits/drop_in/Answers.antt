use Rattle.std.proofs.Common.{ℕ, ℤ, sym, ◌∙◌, ap, subst}
use Rattle.std.specs.Prelude.{not}
use Rattle.std.specs.Int.{w64}
use Rattle.std.proofs.lemmas.Int.{to_z-of_z}
use Rattle.isp_disk.specs.Moments.{image_of}
use Rattle.isp_cells.specs.Cells.{Stand, place_in}
use Rattle.isp_cells.proofs.CellLaws.{marked_place, none_some, place_some, leaf_stands}
use Rattle.isp_cells.proofs.edits.drop_in.Goals as goal

pub returns-then-is_marked-clause-page : goal.returns-then-is_marked-clause-page
returns-then-is_marked-clause-page c table own next rows leaf used_is =
    let old = c.args.old.now.bytes in
    let key = to_z-of_z w64 c.args.key c.ranges.key in
    let stand : Stand (image_of old) 64 c.args.used rows = subst (λ (n : ℕ). Stand (image_of old) 64 n rows) (sym used_is) (leaf_stands old table own next rows leaf.page) in
    let place = place_some _ _ c.place_of.result c.in-Some.is (c.place_of.ensures.place rows stand) ∙ ap (λ (k : ℤ). place_in k 64 rows) key in
    c.drop_at.ensures table own next c.args.key rows leaf used_is place

pub returns-then-is_marked-clause-some : goal.returns-then-is_marked-clause-some
returns-then-is_marked-clause-some c table own next rows leaf used_is =
    let old = c.args.old.now.bytes in
    let key = to_z-of_z w64 c.args.key c.ranges.key in
    let stand : Stand (image_of old) 64 c.args.used rows = subst (λ (n : ℕ). Stand (image_of old) 64 n rows) (sym used_is) (leaf_stands old table own next rows leaf.page) in
    let place = place_some _ _ c.place_of.result c.in-Some.is (c.place_of.ensures.place rows stand) ∙ ap (λ (k : ℤ). place_in k 64 rows) key in
    ap not (sym (sym (c.is_marked.ensures ∙ marked_place c.args.key rows c.in-Some.place place) ∙ c.if-is_marked.true))

pub returns-else-is_marked-clause-some : goal.returns-else-is_marked-clause-some
returns-else-is_marked-clause-some c table own next rows leaf used_is =
    let old = c.args.old.now.bytes in
    let key = to_z-of_z w64 c.args.key c.ranges.key in
    let stand : Stand (image_of old) 64 c.args.used rows = subst (λ (n : ℕ). Stand (image_of old) 64 n rows) (sym used_is) (leaf_stands old table own next rows leaf.page) in
    let place = place_some _ _ c.place_of.result c.in-Some.is (c.place_of.ensures.place rows stand) ∙ ap (λ (k : ℤ). place_in k 64 rows) key in
    ap not (sym (sym (c.is_marked.ensures ∙ marked_place c.args.key rows c.in-Some.place place) ∙ c.if-is_marked.false))

pub returns-in-None-clause-some : goal.returns-in-None-clause-some
returns-in-None-clause-some c table own next rows leaf used_is =
    let old = c.args.old.now.bytes in
    let stand : Stand (image_of old) 64 c.args.used rows = subst (λ (n : ℕ). Stand (image_of old) 64 n rows) (sym used_is) (leaf_stands old table own next rows leaf.page) in
    absurd (none_some _ c.place_of.result c.in-None.is (c.place_of.ensures.place rows stand))
