use Rattle.std.proofs.Common.{◌≡◌, ℕ, ◌+◌, ◌*◌, ◌<◌, List, [], ◌∷◌, ◌++◌, length, map, take, get_or, sym, ◌∙◌, ap, arith, rules}
use Rattle.std.proofs.lemmas.List.{length-map, take_more}
use Rattle.std.proofs.Math.ListN.{get_or-map}
use Rattle.isp_disk.specs.Moments.{Within, in_range, put}
use Rattle.isp_disk.proofs.PhaseLaws.{writes}
use Rattle.isp_doublewrite.specs.Batches.{number_of, whole_page}
use Rattle.isp_doublewrite.specs.Places.{page_places}
use Rattle.isp_doublewrite.proofs.InPlace.{page_within, placed_more}
use Rattle.isp_doublewrite.proofs.Staging.{whole_map}
use Rattle.isp_format.specs.Doublewrite.{area, area_place}
use Rattle.isp_format.specs.Ranges.{Range, page_bytes, puts}
use Rattle.isp_format.specs.declared.page.Page.{Page}
use Rattle.isp_base.specs.declared.page_no.PageNo.{PageNo}
use Rattle.isp_doublewrite.proofs.batch.place.Goals as goal

pub returns-in_err-write-clause-wrote : goal.returns-in_err-write-clause-wrote
returns-in_err-write-clause-wrote g c =
    let w = g.W.World in
    let old = c.args.world.now in
    let k = c.loop-number.number-index in
    let batch : List (PageNo × Page) = c.args.batch.now in
    let none : PageNo × Page = (record { 0 = 0 }, record { bytes = [] }) in
    let entry : PageNo × Page = get_or batch k none in
    let numbers : List ℕ = map number_of batch in
    let inside : k < length numbers = omega (arith, length-map batch number_of) in
    let start : c.page_place.result ≡ area_place + get_or numbers k 0 * page_bytes = c.page_place.ensures ∙ ap (λ (n : ℕ). area_place + n * page_bytes) (sym (get_or-map number_of batch k none)) in
    let size = length c.all_bytes.result.now in
    let within : Within (in_range c.page_place.result size) (page_places numbers) = λ place out. (λ i. in_range (start i) (c.all_bytes.ensures.size i) place) ∙ page_within numbers k inside place out in
    let placing = writes w old c.loop-number.world c.write.new.self (page_places numbers) c.page_place.result size c.loop-number.invariant.phase within c.in_err-write.ensures.disk c.in_err-write.ensures.printed c.in_err-write.ensures.time in
    record { phase = placing; quiet = search rules; calls = search rules }

pub loop-number-preserved : goal.loop-number-preserved
loop-number-preserved g c =
    let w = g.W.World in
    let old = c.args.world.now in
    let k = c.loop-number.number-index in
    let batch : List (PageNo × Page) = c.args.batch.now in
    let none : PageNo × Page = (record { 0 = 0 }, record { bytes = [] }) in
    let entry : PageNo × Page = get_or batch k none in
    let numbers : List ℕ = map number_of batch in
    let inside : k < length numbers = omega (arith, length-map batch number_of) in
    let start : c.page_place.result ≡ area_place + get_or numbers k 0 * page_bytes = c.page_place.ensures ∙ ap (λ (n : ℕ). area_place + n * page_bytes) (sym (get_or-map number_of batch k none)) in
    let size = length c.all_bytes.result.now in
    let within : Within (in_range c.page_place.result size) (page_places numbers) = λ place out. (λ i. in_range (start i) (c.all_bytes.ensures.size i) place) ∙ page_within numbers k inside place out in
    let placing = writes w old c.loop-number.world c.write.new.self (page_places numbers) c.page_place.result size c.loop-number.invariant.phase within c.in_ok-write.ensures.disk c.in_ok-write.ensures.printed c.in_ok-write.ensures.time in
    let so_far = c.loop-number.invariant in
    let more : map whole_page (take k batch) ++ whole_page entry ∷ [] ≡ map whole_page (take (k + 1) batch) = sym (ap (map whole_page) (take_more batch k none (omega arith)) ∙ whole_map (take k batch) (entry ∷ [])) in
    record {
      phase = placing;
      calls = search rules;
      placed = λ tells.
          let now : w.image c.write.new.self ≡ put (w.image c.loop-number.world) (area_place + entry.0.0 * page_bytes) entry.1.bytes = c.in_ok-write.ensures.written tells ∙ (λ i. put (w.image c.loop-number.world) (c.page_place.ensures i) (c.all_bytes.ensures.value i)) in
          ap area now ∙ placed_more (w.image old) (w.image c.loop-number.world) (map whole_page (take k batch)) entry.0.0 entry.1.bytes (so_far.placed tells) ∙ ap (λ (ranges : List Range). puts ranges (area (w.image old))) more;
    }
