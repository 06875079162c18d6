use Rattle.std.proofs.Common.{◌≡◌, false, true, Option, sym, ◌∙◌, ap}
use Rattle.std.specs.Prelude.{is_none}
use Rattle.isp_base.specs.declared.page_no.PageNo.{PageNo}
use Rattle.isp_page.specs.Steps.{FailsOrLacks}
use Rattle.isp_trx.specs.Roots.{numbers_of}
use Rattle.isp_trx.proofs.LoopLaws.{key_swept, key_there, key_tree}
use Rattle.isp_trx.proofs.Makes.{makes_on}
use Rattle.isp_trx.proofs.sweeping.drop_key.Goals as goal

pub returns-in-Some-clause-made : goal.returns-in-Some-clause-made
returns-in-Some-clause-made g c =
    makes_on FailsOrLacks g.P.Pages _ _ _ _ c.drop_if_marked.result (λ tells contents swept. swept.makes (numbers_of c.args.roots.now) c.in-Some.ensures.root) c.drop_if_marked.ensures.made

pub returns-in-Some-clause-swept : goal.returns-in-Some-clause-swept
returns-in-Some-clause-swept g c tells = key_swept c.drop_if_marked.result _ _ _ (numbers_of c.args.roots.now) _ c.args.at c.in-Some.ensures.root (c.drop_if_marked.ensures.swept tells)

pub returns-in-Some-clause-sound : goal.returns-in-Some-clause-sound
returns-in-Some-clause-sound g c tells chains d can =
    let tree = key_tree _ _ chains (numbers_of c.args.roots.now) _ c.args.at d can c.in-Some.ensures.root in
    c.drop_if_marked.ensures.sound tells _ tree.0 tree.1

pub returns-in-None-clause-sound : goal.returns-in-None-clause-sound
returns-in-None-clause-sound g c tells chains d can =
    let there = key_there _ _ chains (numbers_of c.args.roots.now) c.args.at d can in
    let some = c.root_of.ensures.none there.0 there.1 there.2 in
    let none : is_none c.root_of.result ≡ true = ap (λ (o : Option PageNo). is_none o) c.in-None.is in
    let bad : true ≡ false = sym none ∙ some in
    cc
