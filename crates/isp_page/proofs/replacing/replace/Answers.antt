use Rattle.std.proofs.Common.{rules, ◌≡◌, ◌≤◌, ◌+◌, ◌-◌, ℕ, List, length, take, drop, sym, ◌∙◌, ap, subst, arith}
use Rattle.std.proofs.lemmas.Result.{on_ok_weaker}
use Rattle.isp_format.specs.Ranges.{Contents, page_bytes, page_of}
use Rattle.isp_page.specs.Touched.{KeepsPages, is_page}
use Rattle.isp_page.proofs.Differences.{part_long, replaced}
use Rattle.isp_page.proofs.GrowthLaws.{grows_one}
use Rattle.isp_page.proofs.Touching.{change_keeps}
use Rattle.isp_page.proofs.replacing.replace.Goals as goal

pub returns-in-Some-clause-page : goal.returns-in-Some-clause-page
returns-in-Some-clause-page g c = λ tells stood.
    let long : length c.args.new.now.bytes ≡ page_bytes = search rules in
    on_ok_weaker c.change.result (λ is. ap (λ (now : Contents). page_of now c.args.p.0) is ∙ replaced (g.P.Pages.contents c.args.pages.now) c.args.p.0 c.in-Some.from c.in-Some.to c.args.old.now.bytes c.args.new.now.bytes long c.in-Some.ensures.some stood) (c.change.ensures.contents tells)

pub returns-in-Some-clause-others : goal.returns-in-Some-clause-others
returns-in-Some-clause-others g c = λ tells.
    let long : length c.args.new.now.bytes ≡ page_bytes = search rules in
    let least = c.in-Some.ensures.some in
    let piece : List ℕ = take (c.in-Some.to - c.in-Some.from) (drop c.in-Some.from c.args.new.now.bytes) in
    let size = part_long c.in-Some.from c.in-Some.to c.args.new.now.bytes (omega (arith, least.order)) (omega (arith, least.within, long)) in
    let inside : c.in-Some.from + length piece ≤ page_bytes = omega (arith, size, least.order, least.within) in
    on_ok_weaker c.change.result (λ is. subst (λ (now : Contents). KeepsPages (is_page c.args.p.0) (g.P.Pages.contents c.args.pages.now) now) (sym is) (change_keeps (g.P.Pages.contents c.args.pages.now) c.args.p.0 c.in-Some.from piece inside)) (c.change.ensures.contents tells)

pub returns-in-Some-clause-grown : goal.returns-in-Some-clause-grown
returns-in-Some-clause-grown g c =
    on_ok_weaker c.change.result (grows_one c.args.p.0 (g.P.Pages.mini c.args.pages.now) (g.P.Pages.mini c.change.new.self)) c.change.ensures.mini
