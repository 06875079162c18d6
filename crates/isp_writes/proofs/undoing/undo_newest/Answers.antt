use Rattle.std.proofs.Common.{rules, ◌≡◌, Bool, true, false, sym, ap, subst, arith}
use Rattle.std.specs.Prelude.{nat_lt}
use Rattle.std.proofs.lemmas.Bool.Decides.{nat_tests}
use Rattle.isp_chained.specs.Chained.{alone}
use Rattle.isp_page.specs.State.{FileShape}
use Rattle.isp_writes.specs.Writing.{UndidOrNot}
use Rattle.isp_tables.proofs.RootLaws.{are_within}
use Rattle.isp_writes.proofs.UndoLaws.{can_undo, did_undo}
use Rattle.isp_writes.proofs.undoing.undo_newest.Goals as goal

pub undo_one-requires-clause-roots : goal.undo_one-requires-clause-roots
undo_one-requires-clause-roots g c = are_within _ c.roots.result.now c.args.tables.now c.roots.ensures c.requires.serves.inside

pub returns-in_err-_more-clause-sound : goal.returns-in_err-_more-clause-sound
returns-in_err-_more-clause-sound g c tells d opened =
    let sound = c.in_err-_more.ensures.sound tells (alone c.args.trx.now.session opened.chain) opened.chain d (can_undo g.P.Pages c.args.pages.now c.args.tables.now c.args.trx.now d c.roots.result.now opened c.roots.ensures) in
    search (rules, sound, c.from_residual.ensures)

pub returns-in_ok-_more-clause-undone : goal.returns-in_ok-_more-clause-undone
returns-in_ok-_more-clause-undone g c tells d opened =
    let pages = ap (λ (s : FileShape). s.pages) c.in_ok-_more.ensures.made.keeps.same_shape in
    let some = c.if-base-undo_count.true in
    let count = c.undo_count.ensures in
    let less : nat_lt c.args.base c.args.trx.now.count ≡ true = grind (arith, nat_tests, some, count) in
    let can = can_undo g.P.Pages c.args.pages.now c.args.tables.now c.args.trx.now d c.roots.result.now opened c.roots.ensures in
    subst (λ (b : Bool). UndidOrNot g.P.Pages c.undo_one.new.pages c.args.tables.now c.undo_one.new.self b d) (sym less)
    (did_undo g.P.Pages c.args.pages.now c.undo_one.new.pages c.args.tables.now c.args.trx.now c.undo_one.new.self d c.args.base opened pages c.in_ok-_more.ensures.noted c.args.trx.now.count less
    ((c.in_ok-_more.ensures.undone tells).makes (alone c.args.trx.now.session opened.chain) opened.chain d can))

pub returns-else-base-undo_count-clause-undone : goal.returns-else-base-undo_count-clause-undone
returns-else-base-undo_count-clause-undone g c tells d opened =
    let none = c.if-base-undo_count.false in
    let count = c.undo_count.ensures in
    let few : nat_lt c.args.base c.args.trx.now.count ≡ false = grind (arith, nat_tests, none, count) in
    subst (λ (b : Bool). UndidOrNot g.P.Pages c.args.pages.now c.args.tables.now c.args.trx.now b d) (sym few) opened
