use Rattle.std.proofs.Common.{ℕ, min, sym, ◌∙◌, ap}
use Rattle.isp_row.proofs.ReadLaws.{spelled_length}
use Rattle.isp_row.proofs.sizing.size.Goals as goal

pub returns-clause-spelled : goal.returns-clause-spelled
returns-clause-spelled c key bytes numbers is = c.row_size.ensures ∙ ap (λ (n : ℕ). min n 65536) (sym (spelled_length c.args.schema.now key bytes c.args.row.now numbers is))
