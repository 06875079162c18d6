use Rattle.std.proofs.Common.{◌+◌, ◌∙◌, ◌∷◌, ap, sym, take, length}
use Rattle.std.proofs.Math.Seq.{drop-length}
use Rattle.std.proofs.lemmas.List.{take_rest}
use Rattle.isp_script.specs.Lines.{lines_of}
use Rattle.isp_script.proofs.LineLaws.{cut_at, uncut}
use Rattle.isp_script.proofs.lines.first_line.Goals as goal

pub returns-in-Some-clause-lines : goal.returns-in-Some-clause-lines
returns-in-Some-clause-lines c =
    cut_at c.args.bytes.now c.in-Some.end (sym c.in-Some.ensures.place)
    ∙ ap (λ rest. take c.in-Some.end c.args.bytes.now ∷ lines_of rest) (sym (take_rest c.args.bytes.now (c.in-Some.end + 1)))

pub returns-in-None-clause-lines : goal.returns-in-None-clause-lines
returns-in-None-clause-lines c =
    let bytes = c.args.bytes.now in
    uncut bytes c.requires (sym c.in-None.ensures.place)
    ∙ ap (λ rest. bytes ∷ lines_of rest) (sym (take_rest bytes (length bytes) ∙ drop-length bytes))
