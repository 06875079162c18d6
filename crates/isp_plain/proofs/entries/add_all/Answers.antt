use Rattle.std.proofs.Common.{◌+◌, ◌∙◌, ℤ, List, ap, sym, subst, take}
use Rattle.isp_plain.specs.Entries.{without_rows}
use Rattle.isp_plain.specs.Values.{key_of}
use Rattle.isp_plain.specs.declared.value.Row.{Row}
use Rattle.std.proofs.Common.{Some}
use Rattle.isp_plain.proofs.EntriesBack.{Adding, adding_more, adding_ends}
use Rattle.isp_plain.proofs.SignedReads.{passed}
use Rattle.isp_plain.proofs.entries.add_all.Goals as goal

pub loop-i-preserved : goal.loop-i-preserved
loop-i-preserved c =
    let added = rw c.in-Ok-true.field-0-test at c.in-Ok-true.ensures in
    let P : List (ℤ × Row) → Type 0 = λ es. Adding c.args.entries.now.entries es c.args.rows.now (c.loop-i.i + 1) in
    subst P (sym added.1) (adding_more _ _ c.args.rows.now c.loop-i.i c.index-rows-i.result c.loop-i-test.true c.index-rows-i.is added.0 c.loop-i.invariant)

pub returns-in-Ok-false-clause-ok : goal.returns-in-Ok-false-clause-ok
returns-in-Ok-false-clause-ok c =
    let found = rw c.in-Ok-false.field-0-test at c.in-Ok-false.ensures in
    let row = c.index-rows-i.result in
    let key = passed c.key_of.result (key_of row) c.key_of.type_inv c.key_of.ensures in (
      ap (λ k. Some k) key ∙ sym (adding_ends _ _ c.args.rows.now c.loop-i.i row c.loop-i-test.true c.index-rows-i.is found.0 c.loop-i.invariant),
      λ none. cc,
    )

pub returns-in-Ok-false-clause-none : goal.returns-in-Ok-false-clause-none
returns-in-Ok-false-clause-none c = λ some.
    let found = rw c.in-Ok-false.field-0-test at c.in-Ok-false.ensures in
    c.take_back.ensures ∙ (ap (λ es. without_rows es (take c.loop-i.i c.args.rows.now)) found.1 ∙ c.loop-i.invariant.back)
