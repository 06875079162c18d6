use Rattle.std.proofs.Common.{ℕ, ℤ, List, Option, sym, ◌∙◌, ap, subst, arith}
use Rattle.std.specs.Int.{w64}
use Rattle.std.proofs.lemmas.Int.{to_z-of_z}
use Rattle.isp_base.specs.declared.page_no.PageNo.{PageNo}
use Rattle.isp_format.specs.Inner.{IsInnerPage}
use Rattle.isp_levels.specs.Inners.{page_in_name, number_of}
use Rattle.isp_levels.specs.Levels.{pick}
use Rattle.isp_cells.proofs.CellLaws.{none_some, number_some}
use Rattle.isp_levels.proofs.walk.child_for.Goals as goal

pub returns-then-child-most-clause-child : goal.returns-then-child-most-clause-child
returns-then-child-most-clause-child g c tells table names is =
    let own = c.args.page.0 in
    let read : IsInnerPage c.read.new.into.bytes table own c.args.level names = subst (λ (bytes : List ℕ). IsInnerPage bytes table own c.args.level names) (sym (c.in_ok-read.ensures.page tells)) is in
    let count = sym (number_some _ _ c.count_of.result c.in-Some.is (c.count_of.ensures.count table names read)) in
    let key = to_z-of_z w64 c.args.key c.ranges.key in
    sym (c.picked.ensures table own c.args.level names read count ∙ ap (λ (k : ℤ). page_in_name (pick k names)) key) ∙ ap (λ (o : Option PageNo). number_of o) c.in-Some-picked.is

pub returns-else-child-most-clause-sound : goal.returns-else-child-most-clause-sound
returns-else-child-most-clause-sound g c tells table below names is there inside =
    let own = c.args.page.0 in
    let read : IsInnerPage c.read.new.into.bytes table own c.args.level names = subst (λ (bytes : List ℕ). IsInnerPage bytes table own c.args.level names) (sym (c.in_ok-read.ensures.page tells)) is in
    let count = sym (number_some _ _ c.count_of.result c.in-Some.is (c.count_of.ensures.count table names read)) in
    let key = to_z-of_z w64 c.args.key c.ranges.key in
    let same = number_some _ _ (page_in_name (pick c.args.key names)) there (sym (c.picked.ensures table own c.args.level names read count ∙ ap (λ (k : ℤ). page_in_name (pick k names)) key) ∙ ap (λ (o : Option PageNo). number_of o) c.in-Some-picked.is) in
    let over = c.if-child-most.false in
    let most = c.pages-most.ensures.count in
    absurd (omega (arith, same, over, inside, most))

pub returns-in-None-picked-clause-sound : goal.returns-in-None-picked-clause-sound
returns-in-None-picked-clause-sound g c tells table below names is there inside =
    let own = c.args.page.0 in
    let read : IsInnerPage c.read.new.into.bytes table own c.args.level names = subst (λ (bytes : List ℕ). IsInnerPage bytes table own c.args.level names) (sym (c.in_ok-read.ensures.page tells)) is in
    let count = sym (number_some _ _ c.count_of.result c.in-Some.is (c.count_of.ensures.count table names read)) in
    let key = to_z-of_z w64 c.args.key c.ranges.key in
    absurd (none_some below (page_in_name (pick c.args.key names)) (sym (c.picked.ensures table own c.args.level names read count ∙ ap (λ (k : ℤ). page_in_name (pick k names)) key) ∙ ap (λ (o : Option PageNo). number_of o) c.in-None-picked.is) there)

pub returns-in-None-clause-sound : goal.returns-in-None-clause-sound
returns-in-None-clause-sound g c tells table below names is there inside =
    let own = c.args.page.0 in
    let read : IsInnerPage c.read.new.into.bytes table own c.args.level names = subst (λ (bytes : List ℕ). IsInnerPage bytes table own c.args.level names) (sym (c.in_ok-read.ensures.page tells)) is in
    absurd (none_some _ c.count_of.result c.in-None.is (c.count_of.ensures.count table names read))
