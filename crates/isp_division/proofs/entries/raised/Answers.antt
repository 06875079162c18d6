use Rattle.std.proofs.Common.{rules, ℕ, ◌^◌, ◌<◌, [], ◌∷◌, ◌∙◌, ap, subst, arith}
use Rattle.isp_format.specs.Header.{Header}
use Rattle.isp_format.specs.Inner.{IsInnerPage, name_bytes}
use Rattle.isp_levels.specs.Levels.{least_key}
use Rattle.isp_division.proofs.EntryLaws.{each_single, least_fits, least_is, one_entry}
use Rattle.isp_division.proofs.entries.raised.Goals as goal

pub returns : goal.returns
returns c kind below table own head =
    let h = c.head-h.ensures in
    let fits : c.args.child.0 < 256 ^ 4 = search rules in
    let entry = one_entry (least_key, c.args.child.0) c.piece.result.now (c.piece.ensures ∙ c.spelled_entry-whole.ensures ∙ ap (λ k. name_bytes (k, c.args.child.0)) least_is) in
    let made = c.inner_page.ensures table ((least_key, c.args.child.0) ∷ []) (ap (λ (h : Header). h.owner) h ∙ head.owner_is) entry (each_single (least_key, c.args.child.0) (least_fits, fits)) (omega arith) (omega arith) in
    subst (λ (o : ℕ). IsInnerPage c.inner_page.result.bytes table o c.args.level ((least_key, c.args.child.0) ∷ [])) (ap (λ (h : Header). h.own) h ∙ head.own_is) made
