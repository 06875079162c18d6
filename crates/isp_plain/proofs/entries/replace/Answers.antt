use Rattle.std.proofs.Common.{◌≡◌, ◌∙◌, sym, ap, w64, None}
use Rattle.std.specs.BTreeMap.{is_at}
use Rattle.std.specs.Map.{lookup}
use Rattle.std.specs.Option.{option_copied_mut}
use Rattle.std.specs.Ordering.{int_cmp}
use Rattle.std.proofs.lemmas.Int.{to_z-of_z}
use Rattle.isp_plain.specs.Entries.{with_value}
use Rattle.isp_plain.proofs.EntriesChanged.{with_value-absent}
use Rattle.isp_plain.proofs.entries.replace.Goals as goal

pub returns-in-Some : goal.returns-in-Some
returns-in-Some c = (c.get_mut.follows.holds c.args.row).0 ∙ ap (λ k. with_value c.args.entries.now.entries k c.args.row) (to_z-of_z w64 c.args.key c.ranges.key)

pub returns-in_default : goal.returns-in_default
returns-in_default c =
    let entries = c.args.entries.now.entries in
    let absent : lookup (is_at (int_cmp c.args.key)) entries ≡ None =
    sym (ap (λ k. lookup (is_at (int_cmp k)) entries) (to_z-of_z w64 c.args.key c.ranges.key)) ∙ (sym c.get_mut.ensures.value ∙ ap option_copied_mut c.in_default.is) in
    ap (λ m. m.entries) c.get_mut.follows.holds-at-none ∙ sym (with_value-absent entries c.args.key c.args.row absent)
