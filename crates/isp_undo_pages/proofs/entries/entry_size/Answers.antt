use Rattle.std.proofs.Common.{ℕ, ◌+◌, length, sym, ◌∙◌, ap, arith}
use Rattle.isp_undo_pages.specs.Entries.{image_in}
use Rattle.isp_undo_pages.proofs.EntryLaws.{image_long}
use Rattle.isp_undo_pages.proofs.entries.entry_size.Goals as goal

pub returns-clause-size : goal.returns-clause-size
returns-clause-size c = ap (λ (n : ℕ). 17 + n) (ap length c.row_of-row.ensures.row) ∙ sym (image_long (image_in c.args.old.now))
