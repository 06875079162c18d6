use Rattle.std.proofs.Common.{rules, Bool, sym, ap, subst}
use Rattle.isp_page.specs.State.{FileShape}
use Rattle.isp_connection.specs.Answering.{Settles}
use Rattle.isp_connection.proofs.EndLaws.{can_commit, chains_open, commits_all}
use Rattle.isp_connection.proofs.ending.settle.Goals as goal

pub returns-in_err-commit-clause-sound : goal.returns-in_err-commit-clause-sound
returns-in_err-commit-clause-sound g c tells defs d opened =
    let now = c.args.pages.now in
    let trx = c.args.trx.now in
    let sound = c.in_err-commit.ensures.sound tells (chains_open g.P.Pages now defs trx d opened) opened.chain d (can_commit g.P.Pages now defs trx d opened) in
    search (rules, sound, c.from_residual.ensures)

pub returns-clause-settled : goal.returns-clause-settled
returns-clause-settled g c tells defs d opened =
    let e = c.in_ok-commit.ensures in
    let now = c.args.pages.now in
    let trx = c.args.trx.now in
    let pages = ap (λ (s : FileShape). s.pages) e.made.keeps.same_shape in
    subst (λ (inside : Bool). Settles g.P.Pages c.commit.new.pages defs c.commit.new.self inside d) (sym c.if-inside.false)
    (commits_all g.P.Pages now c.commit.new.pages defs trx c.commit.new.self d opened pages e.ended
    ((e.commits tells).makes (chains_open g.P.Pages now defs trx d opened) opened.chain d (can_commit g.P.Pages now defs trx d opened)))
