use Rattle.std.proofs.Common.{◌≡◌, ℕ, ℤ, sym, subst}
use Rattle.std.specs.Prelude.{IfSome, is_none, not}
use Rattle.std.specs.Int.{w64}
use Rattle.std.proofs.lemmas.Int.{to_z-of_z}
use Rattle.isp_disk.specs.Moments.{image_of}
use Rattle.isp_cells.specs.Cells.{Stand}
use Rattle.isp_cells.specs.Rows.{has_key, marked_at}
use Rattle.isp_cells.specs.LeafPages.{IsLeaf}
use Rattle.isp_cells.proofs.CellLaws.{none_some, place_some, leaf_stands}
use Rattle.isp_cells.proofs.edits.mark_in.Goals as goal

pub returns-in-Some-clause-page : goal.returns-in-Some-clause-page
returns-in-Some-clause-page c table own next rows leaf used_is =
    let old = c.args.old.now.bytes in
    let key = to_z-of_z w64 c.args.key c.ranges.key in
    let stand : Stand (image_of old) 64 c.args.used rows = subst (λ (n : ℕ). Stand (image_of old) 64 n rows) (sym used_is) (leaf_stands old table own next rows leaf.page) in
    let place = place_some _ _ c.place_of.result c.in-Some.is (c.place_of.ensures.place rows stand) in
    subst (λ (k : ℤ). IfSome c.mark_place.result (λ new. IsLeaf new.bytes table own next (marked_at k rows))) key
    (c.mark_place.ensures.page table own next rows leaf used_is place)

pub returns-in-Some-clause-some : goal.returns-in-Some-clause-some
returns-in-Some-clause-some c table own next rows leaf used_is =
    let old = c.args.old.now.bytes in
    let key = to_z-of_z w64 c.args.key c.ranges.key in
    let stand : Stand (image_of old) 64 c.args.used rows = subst (λ (n : ℕ). Stand (image_of old) 64 n rows) (sym used_is) (leaf_stands old table own next rows leaf.page) in
    let place = place_some _ _ c.place_of.result c.in-Some.is (c.place_of.ensures.place rows stand) in
    subst (λ (k : ℤ). is_none c.mark_place.result ≡ not (has_key k rows)) key (c.mark_place.ensures.some rows place)

pub returns-in-None-clause-some : goal.returns-in-None-clause-some
returns-in-None-clause-some c table own next rows leaf used_is =
    let old = c.args.old.now.bytes in
    let stand : Stand (image_of old) 64 c.args.used rows = subst (λ (n : ℕ). Stand (image_of old) 64 n rows) (sym used_is) (leaf_stands old table own next rows leaf.page) in
    absurd (none_some _ c.place_of.result c.in-None.is (c.place_of.ensures.place rows stand))
