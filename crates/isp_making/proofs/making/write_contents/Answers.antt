use Rattle.std.proofs.Common.{◌≡◌, ℕ, ◌+◌, ◌*◌, ◌<◌, List, [], ◌∷◌, length, sym, ◌∙◌, ap, subst, arith, rules}
use Rattle.isp_disk.specs.Moments.{Image, Within, in_range, put}
use Rattle.isp_disk.proofs.MomentLaws.{agree_on}
use Rattle.isp_disk.proofs.PhaseLaws.{begins, writes}
use Rattle.isp_format.specs.Doublewrite.{area, area_place, doublewrite_gate}
use Rattle.isp_format.specs.Empty.{first_fresh}
use Rattle.isp_format.specs.Log.{log_place}
use Rattle.isp_format.specs.Ranges.{page_bytes}
use Rattle.isp_format.specs.Control.{control_bytes}
use Rattle.isp_format.proofs.ControlBytes.{control_long}
use Rattle.isp_format.proofs.EmptyPages.{page_more}
use Rattle.isp_making.specs.Places.{IsWritten, content_places, first_places}
use Rattle.isp_making.proofs.Writing.{control_within, copies_within, log_within, page_within, pages_within, with_front, written_by}
use Rattle.isp_making.proofs.making.write_contents.Goals as goal

pub returns-in_err-write-clause-wrote : goal.returns-in_err-write-clause-wrote
returns-in_err-write-clause-wrote g c =
    let w = g.W.World in
    let old = c.args.world.now in
    let size = length c.control_bytes.result in
    let long : size ≡ 63 = ap length c.control_bytes.ensures ∙ control_long c.args.pages c.args.fanout in
    let within : Within (in_range 0 size) content_places = subst (λ (n : ℕ). Within (in_range 0 n) content_places) (sym long) control_within in
    let begun = begins w old content_places c.requires (λ left printed since. g.met.W.World.only_now old left printed since) in
    let first = writes w old old c.write.new.self content_places 0 size begun within c.in_err-write.ensures.disk c.in_err-write.ensures.printed c.in_err-write.ensures.time in
    record { phase = first; quiet = search rules; calls = search rules }

pub returns-in_err-write-2-clause-wrote : goal.returns-in_err-write-2-clause-wrote
returns-in_err-write-2-clause-wrote g c =
    let w = g.W.World in
    let old = c.args.world.now in
    let size = length c.control_bytes.result in
    let long : size ≡ 63 = ap length c.control_bytes.ensures ∙ control_long c.args.pages c.args.fanout in
    let within : Within (in_range 0 size) content_places = subst (λ (n : ℕ). Within (in_range 0 n) content_places) (sym long) control_within in
    let begun = begins w old content_places c.requires (λ left printed since. g.met.W.World.only_now old left printed since) in
    let first = writes w old old c.write.new.self content_places 0 size begun within c.in_ok-write.ensures.disk c.in_ok-write.ensures.printed c.in_ok-write.ensures.time in
    let second = writes w old c.write.new.self c.write-2.new.self content_places doublewrite_gate 1 first copies_within c.in_err-write-2.ensures.disk c.in_err-write-2.ensures.printed c.in_err-write-2.ensures.time in
    record { phase = second; quiet = search rules; calls = search rules }

pub returns-in_err-write-3-clause-wrote : goal.returns-in_err-write-3-clause-wrote
returns-in_err-write-3-clause-wrote g c =
    let w = g.W.World in
    let old = c.args.world.now in
    let size = length c.control_bytes.result in
    let long : size ≡ 63 = ap length c.control_bytes.ensures ∙ control_long c.args.pages c.args.fanout in
    let within : Within (in_range 0 size) content_places = subst (λ (n : ℕ). Within (in_range 0 n) content_places) (sym long) control_within in
    let begun = begins w old content_places c.requires (λ left printed since. g.met.W.World.only_now old left printed since) in
    let first = writes w old old c.write.new.self content_places 0 size begun within c.in_ok-write.ensures.disk c.in_ok-write.ensures.printed c.in_ok-write.ensures.time in
    let second = writes w old c.write.new.self c.write-2.new.self content_places doublewrite_gate 1 first copies_within c.in_ok-write-2.ensures.disk c.in_ok-write-2.ensures.printed c.in_ok-write-2.ensures.time in
    let third = writes w old c.write-2.new.self c.write-3.new.self content_places log_place 1 second log_within c.in_err-write-3.ensures.disk c.in_err-write-3.ensures.printed c.in_err-write-3.ensures.time in
    record { phase = third; quiet = search rules; calls = search rules }

pub loop-number-init : goal.loop-number-init
loop-number-init g c =
    let w = g.W.World in
    let old = c.args.world.now in
    let size = length c.control_bytes.result in
    let long : size ≡ 63 = ap length c.control_bytes.ensures ∙ control_long c.args.pages c.args.fanout in
    let within : Within (in_range 0 size) content_places = subst (λ (n : ℕ). Within (in_range 0 n) content_places) (sym long) control_within in
    let begun = begins w old content_places c.requires (λ left printed since. g.met.W.World.only_now old left printed since) in
    let first = writes w old old c.write.new.self content_places 0 size begun within c.in_ok-write.ensures.disk c.in_ok-write.ensures.printed c.in_ok-write.ensures.time in
    let second = writes w old c.write.new.self c.write-2.new.self content_places doublewrite_gate 1 first copies_within c.in_ok-write-2.ensures.disk c.in_ok-write-2.ensures.printed c.in_ok-write-2.ensures.time in
    let third = writes w old c.write-2.new.self c.write-3.new.self content_places log_place 1 second log_within c.in_ok-write-3.ensures.disk c.in_ok-write-3.ensures.printed c.in_ok-write-3.ensures.time in
    record {
      phase = third;
      calls = search rules;
      front = λ tells place out.
          let one : w.image c.write.new.self ≡ put (w.image old) 0 (control_bytes c.args.pages c.args.fanout) = c.in_ok-write.ensures.written tells ∙ ap (put (w.image old) 0) c.control_bytes.ensures in
          let two : w.image c.write-2.new.self ≡ put (w.image c.write.new.self) doublewrite_gate (0 ∷ []) = c.in_ok-write-2.ensures.written tells in
          let three : w.image c.write-3.new.self ≡ put (w.image c.write-2.new.self) log_place (0 ∷ []) = c.in_ok-write-3.ensures.written tells in
          let all : w.image c.write-3.new.self ≡ with_front c.args.pages c.args.fanout (w.image old) = three ∙ ap (λ (x : Image). put x log_place (0 ∷ [])) (two ∙ ap (λ (x : Image). put x doublewrite_gate (0 ∷ [])) one) in
          ap (λ (x : Image). x place) (sym all);
      first = λ tells place less. absurd (omega (arith, less));
    }

pub returns-in_err-write-4-clause-wrote : goal.returns-in_err-write-4-clause-wrote
returns-in_err-write-4-clause-wrote g c =
    let w = g.W.World in
    let old = c.args.world.now in
    let k = c.loop-number.number in
    let less : k < first_fresh = omega arith in
    let page : List ℕ = c.first_page.result.bytes in
    let here : Within (in_range c.page_place.result (length page)) first_places = λ place out. (λ i. in_range (c.page_place.ensures i) (c.first_page.ensures.size i) place) ∙ page_within k less place out in
    let one_more = writes w old c.loop-number.world c.write-in-loop-number.new.self content_places c.page_place.result (length page) c.loop-number.invariant.phase (λ place out. here place (pages_within place out)) c.in_err-write-4.ensures.disk c.in_err-write-4.ensures.printed c.in_err-write-4.ensures.time in
    record { phase = one_more; quiet = search rules; calls = search rules }

pub loop-number-preserved : goal.loop-number-preserved
loop-number-preserved g c =
    let w = g.W.World in
    let old = c.args.world.now in
    let k = c.loop-number.number in
    let less : k < first_fresh = omega arith in
    let page : List ℕ = c.first_page.result.bytes in
    let here : Within (in_range c.page_place.result (length page)) first_places = λ place out. (λ i. in_range (c.page_place.ensures i) (c.first_page.ensures.size i) place) ∙ page_within k less place out in
    let one_more = writes w old c.loop-number.world c.write-in-loop-number.new.self content_places c.page_place.result (length page) c.loop-number.invariant.phase (λ place out. here place (pages_within place out)) c.in_ok-write-4.ensures.disk c.in_ok-write-4.ensures.printed c.in_ok-write-4.ensures.time in
    let so_far = c.loop-number.invariant in
    record {
      phase = one_more;
      calls = search rules;
      front = λ tells. agree_on first_places (with_front c.args.pages c.args.fanout (w.image old)) (w.image c.loop-number.world) (w.image c.write-in-loop-number.new.self) (so_far.front tells) (λ place out. c.in_ok-write-4.ensures.disk.others place (here place out));
      first = λ tells place low.
          let now : w.image c.write-in-loop-number.new.self ≡ put (w.image c.loop-number.world) (area_place + k * page_bytes) page = c.in_ok-write-4.ensures.written tells ∙ ap (λ (at : ℕ). put (w.image c.loop-number.world) at page) c.page_place.ensures in
          ap (λ (x : Image). area x place) now ∙ page_more (w.image c.loop-number.world) k page c.first_page.ensures.size (so_far.first tells) c.first_page.ensures.bytes place low;
    }

pub returns-clause-written : goal.returns-clause-written
returns-clause-written g c = λ tells.
    let w = g.W.World in
    let old = c.args.world.now in
    let so_far = c.loop-number.invariant in
    let last : first_fresh ≡ c.loop-number.number = omega arith in
    let written : IsWritten c.args.pages c.args.fanout (w.image c.loop-number.world) = written_by c.args.pages c.args.fanout (w.image old) (w.image c.loop-number.world) (so_far.front tells) (λ place less. so_far.first tells place (omega (arith, less, last))) in
    subst (λ (x : Image). IsWritten c.args.pages c.args.fanout x) (sym c.in_ok-sync.ensures.disk.same) written
