use Rattle.std.proofs.Common.{◌++◌, ℕ, List, ◌∙◌, ap}
use Rattle.isp_format.specs.Log.{range_bytes}
use Rattle.isp_format.specs.Ranges.{Range}
use Rattle.isp_store.proofs.Spelling.{piece_is}
use Rattle.isp_store.proofs.logging.spell_range.Goals as goal

pub returns : goal.returns
returns c = λ placed.
    let extent = c.args.extent.now in
    let piece = c.bytes_of.ensures.bytes ∙ piece_is c.args.pool.now _ extent _ placed c.requires.apart c.requires.extent c.frame_of.ensures c.page-page.ensures in
    c.push.ensures ∙ ap (λ (bytes : List ℕ). let range : Range = record { page = extent.page.0; at = extent.at; bytes = bytes } in c.args.body.now ++ range_bytes range) piece
