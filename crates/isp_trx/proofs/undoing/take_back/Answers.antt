use Rattle.std.proofs.Common.{◌≡◌, false, suc, true, Option, sym, ◌∙◌, ap}
use Rattle.std.specs.Prelude.{is_none}
use Rattle.isp_base.specs.declared.page_no.PageNo.{PageNo}
use Rattle.isp_undo_pages.specs.Entries.{image_in}
use Rattle.isp_trx.specs.Roots.{numbers_of}
use Rattle.isp_trx.proofs.UndoLaws.{can_take, root_there, takes_at_on}
use Rattle.isp_trx.proofs.undoing.take_back.Goals as goal

pub returns-in-Some-clause-taken : goal.returns-in-Some-clause-taken
returns-in-Some-clause-taken g c tells = takes_at_on c.put_and_pop.result _ _ _ c.args.slot (image_in c.args.old.now) (numbers_of c.args.roots.now) _ c.in-Some.ensures.root (c.put_and_pop.ensures.taken tells)

pub returns-in-Some-clause-sound : goal.returns-in-Some-clause-sound
returns-in-Some-clause-sound g c tells chains chain count d can last =
    c.put_and_pop.ensures.sound tells chains chain d (can_take _ _ chains c.args.slot chain (suc count) (numbers_of c.args.roots.now) (image_in c.args.old.now) _ d can last c.in-Some.ensures.root)

pub returns-in-None-clause-sound : goal.returns-in-None-clause-sound
returns-in-None-clause-sound g c tells chains chain count d can last =
    let there = root_there _ _ chains c.args.slot chain (suc count) (numbers_of c.args.roots.now) (image_in c.args.old.now) d can last in
    let some = c.root_of.ensures.none there.0 there.1 there.2 in
    let none : is_none c.root_of.result ≡ true = ap (λ (o : Option PageNo). is_none o) c.in-None.is in
    let bad : true ≡ false = sym none ∙ some in
    cc
