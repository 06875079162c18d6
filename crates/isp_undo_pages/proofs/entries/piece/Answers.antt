use Rattle.std.proofs.Common.{refl, arith}
use Rattle.isp_undo_pages.proofs.EntryLaws.{piece_is}
use Rattle.isp_undo_pages.proofs.entries.piece.Goals as goal

pub returns-clause-piece : goal.returns-clause-piece
returns-clause-piece c = piece_is c.args.p.now.bytes c.args.at _ c.args.len refl (omega (arith, c.requires.inside))
