use Rattle.std.proofs.Common.{◌≡◌, ◌∷◌, ◌++◌, drop}
use Rattle.std.specs.List.{flat_map}
use Rattle.isp_plain.specs.Texts.{row_text}
use Rattle.isp_text.proofs.reply.push_rows.Given as goal

abbrev pub invariant-loop-row : goal.invariant-loop-row
invariant-loop-row l =
    l.out.items ++ flat_map (λ row. 32 ∷ row_text row) (drop l.row-index l.rows)
    ≡ l.fn.out.items ++ flat_map (λ row. 32 ∷ row_text row) l.rows
