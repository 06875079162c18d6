use Rattle.std.proofs.Common.{◌≡◌, ◌+◌, ◌≤◌, sym, ◌∙◌, ap, subst, arith}
use Rattle.isp_work.specs.Starting.{start_of}
use Rattle.isp_work.specs.declared.progress.Progress.{Progress}
use Rattle.isp_exec.specs.Events.{Begins}
use Rattle.isp_exec.specs.Standing.{IsFit}
use Rattle.isp_exec.specs.Starting.{place_by}
use Rattle.isp_exec.proofs.ReadFitLaws.{start_fit}
use Rattle.isp_exec.proofs.StartAtLaws.{begins, start_statement}
use Rattle.isp_exec.proofs.work.Work.start.Goals as goal

pub returns-clause-statement : goal.returns-clause-statement
returns-clause-statement g c = ap (λ (p : Progress). p.statement) c.start-progress.ensures ∙ start_statement c.args.statement _ _ _

pub returns-clause-fit : goal.returns-clause-fit
returns-clause-fit g c suits =
    let s = c.args.statement in
    let defs = c.args.context.now.tables in
    let pages = (g.P.Pages.shape c.args.context.now.pages).pages in
    let base = c.undo_count.result in
    let budget = c.saturating_sub-budget.result in
    subst (IsFit pages defs) (sym (c.start-progress.ensures ∙ ap (start_of s base budget) c.place_for-place.ensures)) (start_fit pages defs base budget s suits)

pub returns-clause-begins : goal.returns-clause-begins
returns-clause-begins g c tells d opened suits lined not =
    let s = c.args.statement in
    let now = c.args.context.now.pages in
    let defs = c.args.context.now.tables in
    let trx = c.args.context.now.trx in
    let budget = c.saturating_sub-budget.result in
    let count = c.pages.ensures.count in
    let less = c.saturating_sub-budget.ensures in
    let enough : (g.P.Pages.shape now).pages ≤ budget + 1 = omega (arith, count, less) in
    let is : c.start-progress.result ≡ start_of s trx.count budget (place_by defs s) = c.start-progress.ensures ∙ (λ i. start_of s (c.undo_count.ensures i) budget (c.place_for-place.ensures i)) in
    subst (Begins g.P.Pages now defs trx d) (sym is) (begins g.P.Pages now defs trx d opened budget s lined not enough)
