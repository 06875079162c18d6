use Rattle.std.proofs.Common.{ℤ, length, ◌∙◌, ap}
use Rattle.std.specs.Int.{w64}
use Rattle.std.proofs.lemmas.Int.{to_z-of_z}
use Rattle.isp_disk.specs.Moments.{image_of}
use Rattle.isp_format.specs.Inner.{name_bytes}
use Rattle.isp_growth.specs.Entries.{up_to}
use Rattle.isp_division.proofs.EntryLaws.{entries_joined}
use Rattle.isp_division.proofs.entries.with_entry.Goals as goal

pub returns : goal.returns
returns c table own level names is count =
    let key = to_z-of_z w64 c.args.key c.ranges.key in
    let before = c.count_up_to-before.ensures.up_to table own level names is count ∙ ap (λ (k : ℤ). length (up_to k names)) key in
    let entry = c.piece.ensures ∙ c.spelled_entry-whole.ensures ∙ ap (λ (k : ℤ). name_bytes (k, c.args.page.0)) key in
    entries_joined (image_of c.args.old.now.bytes) (image_of c.joined.result.bytes) (c.args.key, c.args.page.0) names c.count_up_to-before.result c.args.count c.piece.result.now (record { spelled = is.spelled; each = is.each }) count before entry c.joined.ensures
