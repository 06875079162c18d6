use Rattle.std.proofs.Common.{◌≡◌, ℕ, List, length, ◌∙◌, ap}
use Rattle.isp_undo_pages.proofs.EntryLaws.{front_of}
use Rattle.isp_undo_pages.proofs.entries.copy_row.Goals as goal

pub returns : goal.returns
returns c =
    let after = c.copy_from_slice.ensures.after in
    let long : length c.copy_from_slice.new.self ≡ c.args.len = ap (λ (bytes : List ℕ). length bytes) after ∙ c.piece-row.ensures.len in
    front_of c.copy_from_slice.new.self _ c.args.len long ∙ after ∙ c.piece-row.ensures.piece
