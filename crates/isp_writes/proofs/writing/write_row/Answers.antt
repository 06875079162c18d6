use Rattle.std.proofs.Common.{rules, ◌≡◌, true, false, ℕ, ℤ, List, Option, Some, FitsSigned, sym, ◌∙◌, ap, subst, w64}
use Rattle.std.specs.Option.{option_map}
use Rattle.std.proofs.lemmas.Int.{to_z-of_z}
use Rattle.isp_chained.specs.Chained.{alone}
use Rattle.isp_clustered.specs.Cells.{kept_of}
use Rattle.isp_clustered.specs.Rows.{find}
use Rattle.isp_clustered.specs.Trees.{rows_of}
use Rattle.isp_page.specs.State.{FileShape}
use Rattle.isp_writes.specs.Writing.{IsBytesOf}
use Rattle.isp_writes.proofs.WriteLaws.{always_short, answers_or_full, false_true, may_write_found, never_none, open_behind, short_is, tree_at}
use Rattle.isp_writes.proofs.writing.write_row.Goals as goal

pub returns-in_err-old-clause-sound : goal.returns-in_err-old-clause-sound
returns-in_err-old-clause-sound g c tells defs d place opened at writable =
    let sound = c.in_err-old.ensures.sound tells _ at.table.tree (tree_at g.P.Pages c.args.pages.now defs c.args.trx.now d place c.args.def.now opened at) in
    search (rules, sound, c.from_residual-in_err-old.ensures)

pub write_bytes-requires-clause-short : goal.write_bytes-requires-clause-short
write_bytes-requires-clause-short g c =
    let short : c.is_short.result ≡ true = search (rules, c.if-not-is_short.false) in
    short_is c.in_ok-old.old (sym c.is_short.ensures ∙ short)

pub bytes_for-requires-clause-few : goal.bytes_for-requires-clause-few
bytes_for-requires-clause-few g c =
    let short : c.is_short.result ≡ true = search (rules, c.if-not-is_short.false) in
    short_is c.in_ok-old.old (sym c.is_short.ensures ∙ short)

pub returns-then-not-is_short-clause-sound : goal.returns-then-not-is_short-clause-sound
returns-then-not-is_short-clause-sound g c tells defs d place opened at writable =
    let long : c.is_short.result ≡ false = search (rules, c.if-not-is_short.true) in
    let stands = c.in_ok-old.ensures.row tells _ at.table.tree (tree_at g.P.Pages c.args.pages.now defs c.args.trx.now d place c.args.def.now opened at) in
    let short = always_short g.P.Pages c.args.pages.now defs c.args.trx.now d place c.args.def.now _ c.in_ok-old.old opened at stands in
    false_true (sym short ∙ sym c.is_short.ensures ∙ long)

pub returns-in-Some-clause-wrote : goal.returns-in-Some-clause-wrote
returns-in-Some-clause-wrote g c tells defs d place opened at writable =
    let def = c.args.def.now in
    let row = c.args.row.now in
    let old = c.in_ok-old.old in
    let bytes = c.as_slice.result.now in
    let fits : FitsSigned w64 c.key_of-key.result = search rules in
    let same = to_z-of_z w64 c.key_of-key.result fits ∙ c.key_of-key.ensures in
    let stands = c.in_ok-old.ensures.row tells _ at.table.tree (tree_at g.P.Pages c.args.pages.now defs c.args.trx.now d place def opened at) in
    let shape = ap (λ (s : FileShape). s.pages) c.in_ok-old.ensures.reads.kept.keeps.same_shape in
    let now = open_behind g.P.Pages c.args.pages.now c.get.new.pages defs c.args.trx.now c.reserve.new.self d shape (c.in_ok-old.ensures.reads.contents tells) c.in_ok-reserve.ensures.same opened in
    let some = c.in-Some.is ∙ ap (λ (l : List ℕ). Some l) (sym c.as_slice.ensures) in
    let may = may_write_found g.P.Pages c.get.new.pages defs c.reserve.new.self d place def row old _ bytes _ now at same stands some c.args.deletes writable c.in_ok-bytes.ensures.bytes in
    let pages = ap (λ (s : FileShape). s.pages) c.write_bytes.ensures.kept.same_shape in
    answers_or_full g.P.Pages c.get.new.pages c.write_bytes.new.pages defs c.reserve.new.self c.write_bytes.new.trx d place def row _ old bytes c.args.deletes now at same pages c.write_bytes.result
    (c.write_bytes.ensures.wrote tells (alone c.reserve.new.self.session now.chain) now.chain d at.table row may)

pub returns-in-Some-clause-sound : goal.returns-in-Some-clause-sound
returns-in-Some-clause-sound g c tells defs d place opened at writable =
    let def = c.args.def.now in
    let row = c.args.row.now in
    let fits : FitsSigned w64 c.key_of-key.result = search rules in
    let same = to_z-of_z w64 c.key_of-key.result fits ∙ c.key_of-key.ensures in
    let stands = c.in_ok-old.ensures.row tells _ at.table.tree (tree_at g.P.Pages c.args.pages.now defs c.args.trx.now d place def opened at) in
    let shape = ap (λ (s : FileShape). s.pages) c.in_ok-old.ensures.reads.kept.keeps.same_shape in
    let now = open_behind g.P.Pages c.args.pages.now c.get.new.pages defs c.args.trx.now c.reserve.new.self d shape (c.in_ok-old.ensures.reads.contents tells) c.in_ok-reserve.ensures.same opened in
    let some = c.in-Some.is ∙ ap (λ (l : List ℕ). Some l) (sym c.as_slice.ensures) in
    c.write_bytes.ensures.sound tells (alone c.reserve.new.self.session now.chain) now.chain d at.table row
    (may_write_found g.P.Pages c.get.new.pages defs c.reserve.new.self d place def row c.in_ok-old.old _ c.as_slice.result.now _ now at same stands some c.args.deletes writable c.in_ok-bytes.ensures.bytes)

pub returns-clause-sound : goal.returns-clause-sound
returns-clause-sound g c tells defs d place opened at writable =
    let def = c.args.def.now in
    let row = c.args.row.now in
    let old = c.in_ok-old.old in
    let fits : FitsSigned w64 c.key_of-key.result = search rules in
    let same = to_z-of_z w64 c.key_of-key.result fits ∙ c.key_of-key.ensures in
    let stands = c.in_ok-old.ensures.row tells _ at.table.tree (tree_at g.P.Pages c.args.pages.now defs c.args.trx.now d place def opened at)
    ∙ ap (λ (k : ℤ). option_map kept_of (find k (rows_of at.table.tree))) same in
    let bytes = subst (λ (found : Option (List ℕ)). IsBytesOf def.schema row c.args.deletes old found) c.in-None.is c.in_ok-bytes.ensures.bytes in
    never_none g.P.Pages c.args.pages.now defs c.args.trx.now d place def row old opened at stands c.args.deletes writable bytes
