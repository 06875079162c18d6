use Rattle.std.proofs.Common.{◌≡◌, ℕ, suc, ◌+◌, ◌*◌, ◌<◌, List, [], ◌∷◌, ◌++◌, length, map, take, get_or, refl, sym, ◌∙◌, ap, subst, arith, rules}
use Rattle.std.proofs.lemmas.List.{take_more}
use Rattle.isp_disk.specs.Moments.{Image, put}
use Rattle.isp_disk.proofs.PhaseLaws.{writes}
use Rattle.isp_doublewrite.specs.Batches.{AreWhole, whole_page}
use Rattle.isp_doublewrite.specs.Places.{staged_places}
use Rattle.isp_doublewrite.proofs.Staging.{count_kept, in_copies, in_list, staged_more, whole_append, whole_map, with_copy}
use Rattle.isp_format.specs.Doublewrite.{copies_from, copies_place, copy_count, list_place}
use Rattle.isp_format.specs.Numbers.{bytes_of}
use Rattle.isp_format.specs.Ranges.{page_bytes}
use Rattle.isp_format.specs.declared.page.Page.{Page}
use Rattle.isp_base.specs.declared.page_no.PageNo.{PageNo}
use Rattle.isp_doublewrite.proofs.batch.stage.Goals as goal

pub returns-in_err-write_number-2-clause-wrote : goal.returns-in_err-write_number-2-clause-wrote
returns-in_err-write_number-2-clause-wrote g c =
    let w = g.W.World in
    let old = c.args.world.now in
    let k = c.loop-k.k in
    let small : k < 64 = omega arith in
    let numbered = writes w old c.loop-k.world c.write_number-in-loop-k.new.world staged_places c.number_place.result 4 c.loop-k.invariant.phase (λ place out. in_list c.number_place.result 4 place (omega (arith, c.number_place.ensures)) (omega (arith, c.number_place.ensures, small)) out) c.in_err-write_number-2.ensures.write.disk c.in_err-write_number-2.ensures.write.calls.printed c.in_err-write_number-2.ensures.write.time in
    record { phase = numbered; quiet = search rules; calls = search rules }

pub returns-in_err-write-clause-wrote : goal.returns-in_err-write-clause-wrote
returns-in_err-write-clause-wrote g c =
    let w = g.W.World in
    let old = c.args.world.now in
    let k = c.loop-k.k in
    let small : k < 64 = omega arith in
    let numbered = writes w old c.loop-k.world c.write_number-in-loop-k.new.world staged_places c.number_place.result 4 c.loop-k.invariant.phase (λ place out. in_list c.number_place.result 4 place (omega (arith, c.number_place.ensures)) (omega (arith, c.number_place.ensures, small)) out) c.in_ok-write_number-2.ensures.write.disk c.in_ok-write_number-2.ensures.write.calls.printed c.in_ok-write_number-2.ensures.write.time in
    let size = length c.all_bytes.result.now in
    let copied = writes w old c.write_number-in-loop-k.new.world c.write.new.self staged_places c.copy_place.result size numbered (λ place out. in_copies c.copy_place.result size place (omega (arith, c.copy_place.ensures)) (omega (arith, c.copy_place.ensures, small, c.all_bytes.ensures.size)) out) c.in_err-write.ensures.disk c.in_err-write.ensures.printed c.in_err-write.ensures.time in
    record { phase = copied; quiet = search rules; calls = search rules }

pub loop-k-preserved : goal.loop-k-preserved
loop-k-preserved g c =
    let w = g.W.World in
    let old = c.args.world.now in
    let k = c.loop-k.k in
    let small : k < 64 = omega arith in
    let numbered = writes w old c.loop-k.world c.write_number-in-loop-k.new.world staged_places c.number_place.result 4 c.loop-k.invariant.phase (λ place out. in_list c.number_place.result 4 place (omega (arith, c.number_place.ensures)) (omega (arith, c.number_place.ensures, small)) out) c.in_ok-write_number-2.ensures.write.disk c.in_ok-write_number-2.ensures.write.calls.printed c.in_ok-write_number-2.ensures.write.time in
    let size = length c.all_bytes.result.now in
    let copied = writes w old c.write_number-in-loop-k.new.world c.write.new.self staged_places c.copy_place.result size numbered (λ place out. in_copies c.copy_place.result size place (omega (arith, c.copy_place.ensures)) (omega (arith, c.copy_place.ensures, small, c.all_bytes.ensures.size)) out) c.in_ok-write.ensures.disk c.in_ok-write.ensures.printed c.in_ok-write.ensures.time in
    let so_far = c.loop-k.invariant in
    let batch : List (PageNo × Page) = c.args.batch.now in
    let none : PageNo × Page = (record { 0 = 0 }, record { bytes = [] }) in
    let entry : PageNo × Page = get_or batch k none in
    let long : length entry.1.bytes ≡ page_bytes = ap (λ (l : List ℕ). length l) (sym c.all_bytes.ensures.value) ∙ c.all_bytes.ensures.size in
    let more : map whole_page (take (k + 1) batch) ≡ map whole_page (take k batch) ++ whole_page entry ∷ [] = ap (map whole_page) (take_more batch k none (omega arith)) ∙ whole_map (take k batch) (entry ∷ []) in
    let up : k + 1 ≡ suc k = omega arith in
    let now : w.tells → w.image c.write.new.self ≡ with_copy (w.image c.loop-k.world) k entry.0.0 entry.1.bytes = λ tells.
    let first : w.image c.write_number-in-loop-k.new.world ≡ put (w.image c.loop-k.world) (list_place + 4 * k) (bytes_of 4 entry.0.0) = c.in_ok-write_number-2.ensures.written tells ∙ ap (λ (n : ℕ). put (w.image c.loop-k.world) n (bytes_of 4 entry.0.0)) c.number_place.ensures in
    let second : w.image c.write.new.self ≡ put (w.image c.write_number-in-loop-k.new.world) (copies_place + page_bytes * k) entry.1.bytes = c.in_ok-write.ensures.written tells ∙ (λ i. put (w.image c.write_number-in-loop-k.new.world) (c.copy_place.ensures i) (c.all_bytes.ensures.value i)) in
    second ∙ ap (λ (x : Image). put x (copies_place + page_bytes * k) entry.1.bytes) first in
    record {
      phase = copied;
      calls = search rules;
      count = λ tells. ap copy_count (now tells) ∙ count_kept (w.image c.loop-k.world) (length batch) k entry.0.0 entry.1.bytes small (so_far.count tells);
      listed = λ tells. (λ i. copies_from (now tells i) 0 (up i)) ∙ staged_more (w.image c.loop-k.world) (length batch) k entry.0.0 entry.1.bytes (map whole_page (take k batch)) small c.in_ok-write_number-2.ensures.fits long (so_far.listed tells) ∙ sym more;
      whole = subst AreWhole (sym more) (whole_append (map whole_page (take k batch)) (whole_page entry ∷ []) so_far.whole (refl, long, tt));
    }
