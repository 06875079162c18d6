use Rattle.std.proofs.Common.{rules, ◌≡◌, ℕ, ◌+◌, ◌*◌, ◌^◌, ◌<◌, ℤ, List, length, ◌∙◌, ap, subst, arith}
use Rattle.std.specs.List.{flat_map}
use Rattle.std.specs.Int.{w64}
use Rattle.std.proofs.lemmas.Int.{to_z-of_z}
use Rattle.isp_disk.specs.Moments.{image_of, slice}
use Rattle.isp_format.specs.Header.{Header}
use Rattle.isp_format.specs.Inner.{IsInnerPage, Name, name_bytes}
use Rattle.isp_growth.specs.Entries.{with_name}
use Rattle.isp_division.proofs.EntryLaws.{each_with}
use Rattle.isp_growth.proofs.GrowLaws.{with_long}
use Rattle.isp_division.proofs.PackLaws.{piece_long}
use Rattle.isp_division.proofs.entries.entry_put.Goals as goal

pub returns : goal.returns
returns c table own level names is count =
    let key = to_z-of_z w64 c.args.key c.ranges.key in
    let now : List Name = with_name (c.args.key, c.args.page.0) names in
    let h = c.head-h.ensures in
    let few = c.requires in
    let fits : c.args.page.0 < 256 ^ 4 = search rules in
    let long = with_long (c.args.key, c.args.page.0) names in
    let spelled = subst (λ (k : ℤ). slice (image_of c.with_entry-c.result.bytes) 0 (12 * length (with_name (k, c.args.page.0) names)) ≡ flat_map name_bytes (with_name (k, c.args.page.0) names)) key (c.with_entry-c.ensures table own level names is count) in
    let size : 12 * (c.args.count + 1) ≡ 12 * length now = omega (arith, long, count) in
    let content = c.part.ensures ∙ ap (slice (image_of c.with_entry-c.result.bytes) 0) size ∙ spelled in
    let each = each_with (c.args.key, c.args.page.0) names (c.ranges.key, fits) is.each in
    let made = c.inner_page.ensures table now (ap (λ (h : Header). h.owner) h ∙ is.head.owner_is) content each (omega (arith, long, count)) (omega (arith, long, count, few)) in
    subst (λ (o : ℕ). IsInnerPage c.inner_page.result.bytes table o level now) (ap (λ (h : Header). h.own) h ∙ is.head.own_is)
    (subst (λ (l : ℕ). IsInnerPage c.inner_page.result.bytes table c.head-h.result.own.0 l now) (ap (λ (h : Header). h.level) h ∙ is.head.level_is) made)

pub inner_page-requires : goal.inner_page-requires
inner_page-requires c =
    let long = piece_long _ _ _ _ c.part.ensures in
    let few = c.requires in
    omega (arith, long, few)
