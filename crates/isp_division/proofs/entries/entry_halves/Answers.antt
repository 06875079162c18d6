use Rattle.std.proofs.Common.{rules, ◌≡◌, ℕ, suc, ◌*◌, ◌-◌, ◌^◌, ◌<◌, ℤ, List, length, sym, ◌∙◌, ap, subst, arith}
use Rattle.std.specs.Prelude.{FitsSigned, drop, take}
use Rattle.std.specs.List.{flat_map}
use Rattle.std.specs.Int.{w64}
use Rattle.std.proofs.lemmas.Int.{to_z-of_z}
use Rattle.std.proofs.lemmas.List.{length-drop, length-take}
use Rattle.isp_disk.specs.Moments.{image_of, slice}
use Rattle.isp_format.specs.Header.{Header}
use Rattle.isp_format.specs.Inner.{IsInnerPage, Name, name_bytes}
use Rattle.isp_growth.specs.Entries.{with_name}
use Rattle.isp_division.proofs.EntryLaws.{each_parts, each_with, entries_cut, first_low_is}
use Rattle.isp_growth.proofs.GrowLaws.{with_long}
use Rattle.isp_division.proofs.PackLaws.{piece_long}
use Rattle.isp_division.proofs.entries.entry_halves.Goals as goal

pub returns : goal.returns
returns c table own level names is full =
    let key = to_z-of_z w64 c.args.key c.ranges.key in
    let now : List Name = with_name (c.args.key, c.args.page.0) names in
    let h = c.head-h.ensures in
    let fits : c.args.page.0 < 256 ^ 4 = search rules in
    let long : length now ≡ suc (length names) = with_long (c.args.key, c.args.page.0) names in
    let spelled = subst (λ (k : ℤ). slice (image_of c.with_entry-c.result.bytes) 0 (12 * length (with_name (k, c.args.page.0) names)) ≡ flat_map name_bytes (with_name (k, c.args.page.0) names)) key (c.with_entry-c.ensures table own level names is (sym full)) in
    let cut = entries_cut (image_of c.with_entry-c.result.bytes) now 169 spelled (omega (arith, long, full)) in
    let each = each_parts 169 now (each_with (c.args.key, c.args.page.0) names (c.ranges.key, fits) is.each) in
    let rest : 12 * (length now - 169) ≡ 2016 = omega (arith, long, full) in
    let owner = ap (λ (h : Header). h.owner) h ∙ is.head.owner_is in
    let own_is = ap (λ (h : Header). h.own) h ∙ is.head.own_is in
    let level_is = ap (λ (h : Header). h.level) h ∙ is.head.level_is in
    let left_long = length-take 169 now in
    let right_long = length-drop 169 now in
    let left = c.inner_page-left.ensures table (take 169 now) owner (c.part.ensures ∙ cut.0) each.0 (omega (arith, left_long, long, full)) (omega (arith, left_long, long, full)) in
    let right = c.inner_page-behind.ensures table (drop 169 now) owner (c.part-2.ensures ∙ ap (slice (image_of c.with_entry-c.result.bytes) 2028) (sym rest) ∙ cut.1) each.1 (omega (arith, right_long, long, full)) (omega (arith, right_long, long, full)) in
    let behind : IsInnerPage c.inner_page-behind.result.bytes table c.args.right.0 level (drop 169 now) = subst (λ (l : ℕ). IsInnerPage c.inner_page-behind.result.bytes table c.args.right.0 l (drop 169 now)) level_is right in
    let key_fits : FitsSigned w64 c.get_i64-key.result = search rules in
    record {
      left = subst (λ (o : ℕ). IsInnerPage c.inner_page-left.result.bytes table o level (take 169 now)) own_is (subst (λ (l : ℕ). IsInnerPage c.inner_page-left.result.bytes table c.head-h.result.own.0 l (take 169 now)) level_is left);
      right_is = behind;
      key = to_z-of_z w64 c.get_i64-key.result key_fits ∙ c.get_i64-key.ensures ∙ first_low_is c.inner_page-behind.result.bytes table c.args.right.0 level (drop 169 now) behind (omega (arith, right_long, long, full));
    }

pub inner_page-left-requires : goal.inner_page-left-requires
inner_page-left-requires c =
    let long = piece_long (image_of c.with_entry-c.result.bytes) 0 2028 c.part.result.now c.part.ensures in
    omega (arith, long)

pub inner_page-behind-requires : goal.inner_page-behind-requires
inner_page-behind-requires c =
    let long = piece_long (image_of c.with_entry-c.result.bytes) 2028 2016 c.part-2.result.now c.part-2.ensures in
    omega (arith, long)
