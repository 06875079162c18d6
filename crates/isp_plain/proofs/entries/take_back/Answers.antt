use Rattle.std.proofs.Common.{◌≡◌, ◌-◌, ◌∙◌, ◌<◌, [], ◌∷◌, ◌++◌, take, length, ap, sym, arith}
use Rattle.std.proofs.lemmas.List.{take_more}
use Rattle.isp_plain.specs.Entries.{without_row, without_rows}
use Rattle.isp_plain.specs.Values.{key_of}
use Rattle.isp_plain.proofs.EntriesBack.{without_rows-push}
use Rattle.isp_plain.proofs.SignedReads.{passed}
use Rattle.isp_plain.proofs.entries.take_back.Goals as goal

pub loop-left-preserved : goal.loop-left-preserved
loop-left-preserved c =
    let row = c.index-rows-left.result in
    let rows = c.args.rows.now in
    let here = c.loop-left.left - 1 in
    let now = c.loop-left.entries.entries in
    let within : here < length rows = omega arith in
    let taken : take c.loop-left.left rows ≡ take here rows ++ row ∷ [] =
    ap (λ n. take n rows) (omega arith) ∙ (take_more rows here row within ∙ ap (λ r. take here rows ++ r ∷ []) (sym c.index-rows-left.is)) in
    let key = passed c.key_of.result (key_of row) c.key_of.type_inv c.key_of.ensures in (
      omega arith,
      ap (λ es. without_rows es (take here rows)) (c.remove.ensures ∙ ap (without_row now) key)
          ∙ (sym (without_rows-push now (take here rows) row) ∙ (ap (without_rows now) (sym taken) ∙ c.loop-left.invariant.1)),
    )
