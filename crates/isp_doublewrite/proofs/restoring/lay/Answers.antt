use Rattle.std.proofs.Common.{◌≡◌, ℕ, suc, ◌+◌, ◌*◌, ◌<◌, List, [], ◌∷◌, ◌++◌, length, get_or, sym, ◌∙◌, ap, arith, rules}
use Rattle.isp_disk.specs.Moments.{Within, in_range, put, slice}
use Rattle.isp_disk.proofs.PhaseLaws.{keeps, writes}
use Rattle.isp_doublewrite.specs.Places.{page_places}
use Rattle.isp_doublewrite.proofs.InPlace.{page_within, placed_more}
use Rattle.isp_doublewrite.proofs.PlaceLaws.{pages_above}
use Rattle.isp_doublewrite.proofs.Staging.{copies_more}
use Rattle.isp_format.specs.Doublewrite.{area, area_place, copies_from, copies_place, copy_at}
use Rattle.isp_format.specs.Ranges.{Range, page_bytes, puts}
use Rattle.isp_format.proofs.Slices.{slice_agree}
use Rattle.isp_doublewrite.proofs.restoring.lay.Goals as goal

pub returns-in_err-write-clause-wrote : goal.returns-in_err-write-clause-wrote
returns-in_err-write-clause-wrote g c =
    let w = g.W.World in
    let old = c.args.world.now in
    let k = c.loop-k.k in
    let numbers : List ℕ = c.args.numbers.now in
    let number : ℕ = get_or numbers k 0 in
    let reading = keeps w old c.loop-k.world c.read.new.self (page_places numbers) c.loop-k.invariant.phase c.in_ok-read.ensures.disk c.in_ok-read.ensures.printed c.in_ok-read.ensures.time in
    let size = length c.read.new.into in
    let long : size ≡ page_bytes = omega (arith, c.read.auto.into, c.copy_place.array_long) in
    let within : Within (in_range c.page_place.result size) (page_places numbers) = λ place out. (λ i. in_range (c.page_place.ensures i) (long i) place) ∙ page_within numbers k (omega arith) place out in
    let laying = writes w old c.read.new.self c.write.new.self (page_places numbers) c.page_place.result size reading within c.in_err-write.ensures.disk c.in_err-write.ensures.printed c.in_err-write.ensures.time in
    record { phase = laying; quiet = search rules; calls = search rules }

pub loop-k-preserved : goal.loop-k-preserved
loop-k-preserved g c =
    let w = g.W.World in
    let old = c.args.world.now in
    let k = c.loop-k.k in
    let numbers : List ℕ = c.args.numbers.now in
    let number : ℕ = get_or numbers k 0 in
    let reading = keeps w old c.loop-k.world c.read.new.self (page_places numbers) c.loop-k.invariant.phase c.in_ok-read.ensures.disk c.in_ok-read.ensures.printed c.in_ok-read.ensures.time in
    let size = length c.read.new.into in
    let long : size ≡ page_bytes = omega (arith, c.read.auto.into, c.copy_place.array_long) in
    let within : Within (in_range c.page_place.result size) (page_places numbers) = λ place out. (λ i. in_range (c.page_place.ensures i) (long i) place) ∙ page_within numbers k (omega arith) place out in
    let laying = writes w old c.read.new.self c.write.new.self (page_places numbers) c.page_place.result size reading within c.in_ok-write.ensures.disk c.in_ok-write.ensures.printed c.in_ok-write.ensures.time in
    let so_far = c.loop-k.invariant in
    let small : k < 64 = omega arith in
    let up : suc k ≡ k + 1 = omega arith in
    let here : 0 + k ≡ k = omega arith in
    let copy : List ℕ = slice (w.image old) (copies_place + page_bytes * k) page_bytes in
    let page_long : length c.loop-k.page ≡ page_bytes = omega (arith, c.copy_place.array_long) in
    record {
      phase = laying;
      calls = search rules;
      placed = λ tells.
          let read : c.read.new.into ≡ copy = c.in_ok-read.ensures.bytes tells ∙ (λ i. slice (w.image c.loop-k.world) (c.copy_place.ensures i) (page_long i)) ∙ slice_agree (w.image c.loop-k.world) (w.image old) (copies_place + page_bytes * k) page_bytes (λ place low high. sym (so_far.phase.agrees place (pages_above numbers place (omega (arith, high, small))))) in
          let now : w.image c.write.new.self ≡ put (w.image c.loop-k.world) (area_place + number * page_bytes) copy = c.in_ok-write.ensures.written tells ∙ (λ i. put (c.in_ok-read.ensures.disk.same i) (c.page_place.ensures i) (read i)) in
          let range : Range = record { page = number; at = 0; bytes = copy } in
          let is_copy : range ≡ copy_at (w.image old) (0 + k) = (λ i. record { page = c.requires.numbers tells k (omega arith) i; at = 0; bytes = copy }) ∙ ap (copy_at (w.image old)) (sym here) in
          let more : copies_from (w.image old) 0 k ++ range ∷ [] ≡ copies_from (w.image old) 0 (k + 1) = (λ i. copies_from (w.image old) 0 k ++ is_copy i ∷ []) ∙ sym (copies_more (w.image old) 0 k) ∙ ap (copies_from (w.image old) 0) up in
          ap area now ∙ placed_more (w.image old) (w.image c.loop-k.world) (copies_from (w.image old) 0 k) number copy (so_far.placed tells) ∙ ap (λ (ranges : List Range). puts ranges (area (w.image old))) more;
    }
