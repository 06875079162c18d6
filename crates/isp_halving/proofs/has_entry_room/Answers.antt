use Rattle.std.proofs.Common.{ℕ, List, sym, ap, subst}
use Rattle.std.specs.Prelude.{nat_lt}
use Rattle.isp_cells.proofs.CellLaws.{none_some, number_some}
use Rattle.isp_format.specs.Inner.{IsInnerPage}
use Rattle.isp_halving.proofs.has_entry_room.Goals as goal

pub returns-in-Some-clause-room : goal.returns-in-Some-clause-room
returns-in-Some-clause-room g c tells table names is =
    let own = c.args.page.0 in
    let read : IsInnerPage c.read.new.into.bytes table own c.args.level names = subst (λ (bytes : List ℕ). IsInnerPage bytes table own c.args.level names) (sym (c.in_ok-read.ensures.page tells)) is in
    ap (λ (n : ℕ). nat_lt n 336) (sym (number_some _ _ c.count_of.result c.in-Some.is (c.count_of.ensures.count table names read)))

pub returns-in-None-clause-sound : goal.returns-in-None-clause-sound
returns-in-None-clause-sound g c tells table names is =
    let own = c.args.page.0 in
    let read : IsInnerPage c.read.new.into.bytes table own c.args.level names = subst (λ (bytes : List ℕ). IsInnerPage bytes table own c.args.level names) (sym (c.in_ok-read.ensures.page tells)) is in
    absurd (none_some _ c.count_of.result c.in-None.is (c.count_of.ensures.count table names read))
