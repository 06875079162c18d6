use Rattle.std.proofs.Common.{◌∙◌, ap, sym, refl}
use Rattle.isp_plain.specs.Entries.{has_key, with_row}
use Rattle.isp_plain.specs.Values.{key_of}
use Rattle.isp_plain.proofs.SignedReads.{passed}
use Rattle.isp_plain.proofs.entries.add.Goals as goal

pub returns-then-has_key : goal.returns-then-has_key
returns-then-has_key c =
    let key = passed c.key_of-key.result (key_of c.args.row.now) c.key_of-key.type_inv c.key_of-key.ensures
    in (sym (ap (λ k. has_key c.args.entries.now.entries k) key) ∙ (sym c.has_key.ensures ∙ c.if-has_key.true), refl)

pub returns : goal.returns
returns c =
    let key = passed c.key_of-key.result (key_of c.args.row.now) c.key_of-key.type_inv c.key_of-key.ensures
    in (
      sym (ap (λ k. has_key c.args.entries.now.entries k) key) ∙ (sym c.has_key.ensures ∙ c.if-has_key.false),
      c.in_ok-put.ensures.ok ∙ (ap (λ k. with_row c.args.entries.now.entries k c.in_ok-copy.copy) key
          ∙ ap (λ r. with_row c.args.entries.now.entries (key_of c.args.row.now) r) c.in_ok-copy.ensures),
    )
