use Rattle.isp_run.proofs.RunLaws.{takes_more}
use Rattle.isp_run.proofs.input.read_bytes.Goals as goal

pub returns-in_err-read_piece-clause-taken : goal.returns-in_err-read_piece-clause-taken
returns-in_err-read_piece-clause-taken g c = λ tells.
    takes_more 16777217 c.loop-piece.bytes.items (g.S.Source.left c.args.source.now) (g.S.Source.left c.loop-piece.source) (g.S.Source.left c.read_piece.new.source)
    (c.loop-piece.invariant.0 tells) c.loop-piece.invariant.1 (c.in_err-read_piece.ensures.taken tells)
