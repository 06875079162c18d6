use Rattle.std.proofs.Common.{refl, arith}
use Rattle.isp_cells.proofs.CellLaws.{piece_is}
use Rattle.isp_division.proofs.packing.part.Goals as goal

pub returns : goal.returns
returns c = piece_is c.args.c.now.bytes c.args.at _ c.args.size refl (omega (arith, c.requires.inside))
