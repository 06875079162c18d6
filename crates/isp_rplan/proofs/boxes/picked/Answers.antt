use Rattle.std.proofs.Common.{◌∙◌, Some, None, ap, get_or, length, refl, sym, vec_items}
use Rattle.std.proofs.lemmas.List.{append-nil}
use Rattle.std.proofs.lemmas.Option.{slice_get_past, slice_get_read}
use Rattle.isp_rplan.proofs.BoxLaws.{picked_more}
use Rattle.isp_rplan.proofs.boxes.picked.Goals.{in-Some+in_ok-push, in_default}
use Rattle.isp_rplan.proofs.boxes.picked.Goals as goal

pub loop-place-preserved : goal.loop-place-preserved
loop-place-preserved c = elim c.match-get.branch [
  | in-Some+in_ok-push w ↦ (
      let read = w.in-Some.ensures.lookup in
      picked_more c.args.entries.now c.loop-place.some.items c.match-get.some.items c.args.places.now c.loop-place.place-index 0 (Some w.in-Some.e.now) c.loop-place-test.true
      (slice_get_read c.args.entries.now (length c.args.entries.now) (get_or c.args.places.now c.loop-place.place-index 0) w.in-Some.e.now refl read.3.0 read.1)
      (ap vec_items w.some-is ∙ w.in_ok-push.ensures.items) c.loop-place.invariant)
  | in_default w ↦ (
      let read = w.in_default.ensures.lookup in
      picked_more c.args.entries.now c.loop-place.some.items c.match-get.some.items c.args.places.now c.loop-place.place-index 0 None c.loop-place-test.true
      (slice_get_past c.args.entries.now (get_or c.args.places.now c.loop-place.place-index 0) read.3)
      (ap vec_items w.some-is ∙ sym (append-nil c.loop-place.some.items)) c.loop-place.invariant)
]
