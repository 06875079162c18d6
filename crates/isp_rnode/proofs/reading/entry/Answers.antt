use Rattle.std.proofs.Common.{◌∙◌, sym, ap, Some}
use Rattle.isp_format.specs.Header.{header_of}
use Rattle.isp_rnode.specs.Nodes.{entry_in}
use Rattle.isp_rnode.proofs.NodeLaws.{entry_there, entry_of_parts}
use Rattle.isp_rnode.proofs.reading.entry.Goals as goal

pub returns : goal.returns
returns c =
    let bytes = c.args.p.now.bytes in
    let level = (header_of bytes).level in
    entry_there bytes c.args.i c.requires.inside
    ∙ ap Some (ap (entry_in level bytes) (sym c.place_of-at.ensures.place) ∙ entry_of_parts level bytes c.place_of-at.result c.box_at.result c.to_at.result c.box_at.ensures c.to_at.ensures)
