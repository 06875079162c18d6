use Rattle.std.proofs.Common.{◌+◌, refl, sym, ◌∙◌, ap}
use Rattle.isp_format.specs.Ranges.{page_of}
use Rattle.isp_format.specs.Space.{SpacePage}
use Rattle.isp_page.specs.State.{FileShape}
use Rattle.isp_space.specs.Spaces.{IsRecounted, Space}
use Rattle.isp_space.proofs.SpaceLaws.{space_behind}
use Rattle.isp_space.proofs.space.count_table.Goals as goal

pub returns-in_ok-write_counters-clause-counted : goal.returns-in_ok-write_counters-clause-counted
returns-in_ok-write_counters-clause-counted g c tells s is =
    let e = c.in_ok-numbers.ensures in
    let shape = ap (λ (shape : FileShape). shape.pages) e.kept.keeps.same_shape in
    let same = e.contents tells in
    let there = space_behind _ _ _ _ s shape same is in
    let t : Space = record s { tables = s.tables + 1 } in
    let recounted : IsRecounted s t _ = record { free = refl; fresh = refl; says = ap (λ (n : SpacePage). record n { tables = n.tables + 1 }) (e.found tells s is) } in
    c.in_ok-write_counters.ensures.space tells s t there recounted (e.page tells ∙ sym (ap (λ c. page_of c 0) same))
