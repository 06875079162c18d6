use Rattle.std.proofs.Common.{ℕ, ◌+◌, refl, sym, ◌∙◌, ap}
use Rattle.isp_format.specs.Ranges.{page_of}
use Rattle.isp_format.specs.Space.{SpacePage}
use Rattle.isp_page.specs.State.{FileShape}
use Rattle.isp_space.specs.Spaces.{IsRecounted, Space, space_page}
use Rattle.isp_space.proofs.SpaceLaws.{some_of, space_behind}
use Rattle.isp_space.proofs.space.draw_number.Goals as goal

pub returns-in_ok-write_counters-in-Some-clause-drawn : goal.returns-in_ok-write_counters-in-Some-clause-drawn
returns-in_ok-write_counters-in-Some-clause-drawn g c tells s is =
    let e = c.in_ok-numbers.ensures in
    let shape = ap (λ (shape : FileShape). shape.pages) e.kept.keeps.same_shape in
    let same = e.contents tells in
    let there = space_behind _ _ _ _ s shape same is in
    let more = some_of _ _ _ _ c.raised.ensures c.in-Some.is ∙ ap (λ (n : SpacePage). n.entries + 1) (e.found tells s is) in
    let t : Space = record s { entries = s.entries + 1 } in
    let recounted : IsRecounted s t _ = record { free = refl; fresh = refl; says = ap (λ (n : SpacePage). record n { entries = c.in-Some.entries }) (e.found tells s is) ∙ ap (λ (k : ℕ). record (space_page s) { entries = k }) more } in
    c.in_ok-write_counters-in-Some.ensures.space tells s t there recounted (e.page tells ∙ sym (ap (λ c. page_of c 0) same))
