use Rattle.std.proofs.Common.{◌<◌, ◌-◌, ◌∙◌, ap, sym, subst, arith, length, set, Some, None}
use Rattle.std.proofs.lemmas.List.{get_or_read}
use Rattle.std.proofs.lemmas.Option.{slice_get_within}
use Rattle.isp_mbr.specs.Boxes.{union}
use Rattle.isp_split.specs.Groups.{IsLeft, Sides}
use Rattle.isp_split.specs.Seeds.{no_box}
use Rattle.isp_split.specs.UnderWay.{AreGroups}
use Rattle.isp_split.specs.declared.division.Division.{Division}
use Rattle.isp_split.proofs.GroupLaws.{took_first, took_second}
use Rattle.isp_split.proofs.division.take_next.Goals as goal
use Rattle.isp_split.proofs.division.take_next.Goals.{in-First, in-Second}

pub returns-clause-under_way : goal.returns-clause-under_way
returns-clause-under_way c =
    let boxes = c.args.boxes.now in
    let old = c.args.division.now in
    let place = c.next-place.result in
    let side = c.side_for-side.result in
    let left : IsLeft old.sides.items place = subst (λ (s : Sides). IsLeft s place) c.deref.ensures.value c.next-place.ensures.left in
    let within = slice_get_within old.sides.items place None left in
    let inside : place < length boxes = omega (arith, within, c.requires.under_way.size) in
    let P : Division → Type 0 = λ d. AreGroups boxes (set d.sides.items place (Some side)) d.first d.second (d.left - 1) in
    elim c.match-side.branch [
      | in-First w ↦ (let read = get_or_read boxes place w.index-boxes-place-in-First.result inside w.index-boxes-place-in-First.is no_box in
          subst P (sym w.division-is) (took_first boxes old.sides.items old.first old.second w.grown-division.result old.left place side c.requires.under_way left w.in-First.is w.grown-division.ensures.measured (w.grown-division.ensures.cover ∙ ap (union old.first.cover) read) w.grown-division.ensures.count))
      | in-Second w ↦ (let read = get_or_read boxes place w.index-boxes-place-in-Second.result inside w.index-boxes-place-in-Second.is no_box in
          subst P (sym w.division-is) (took_second boxes old.sides.items old.first old.second w.grown-division-in-Second.result old.left place side c.requires.under_way left w.in-Second.is w.grown-division-in-Second.ensures.measured (w.grown-division-in-Second.ensures.cover ∙ ap (union old.second.cover) read) w.grown-division-in-Second.ensures.count))
    ]
