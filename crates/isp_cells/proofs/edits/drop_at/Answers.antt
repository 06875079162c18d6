use Rattle.isp_cells.proofs.EditLaws.{dropped_leaf, place_parts}
use Rattle.isp_cells.proofs.edits.drop_at.Goals as goal

pub returns : goal.returns
returns c table own next key rows leaf used_is place_is =
    let parted = place_parts c.args.old.now.bytes table own next rows key c.args.used c.args.place leaf used_is place_is in
    dropped_leaf c.args.old.now.bytes c.spliced.result.bytes table own next rows key c.args.used c.args.place c.place_end-end.result c.piece.result.now c.count_without-count.result parted (c.count_without-count.ensures _ parted.counted) c.place_end-end.ensures c.piece.ensures c.spliced.ensures.leaf
