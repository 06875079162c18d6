use Rattle.std.proofs.Common.{◌∙◌, ap, nat_le}
use Rattle.isp_plain.specs.RowBytes.{row_bytes}
use Rattle.isp_plan.proofs.RowLaws.{capped_small}
use Rattle.isp_plan.proofs.binder.is_small.Goals as goal

pub returns : goal.returns
returns c = ap (λ n. nat_le n 1000) c.row_size.ensures ∙ capped_small (row_bytes c.args.schema.now c.args.row.now)
