use Rattle.std.proofs.Common.{ℕ, refl, ◌∙◌, ap, sym, subst}
use Rattle.isp_format.specs.Ranges.{page_of}
use Rattle.isp_catalog.specs.Catalogue.{IsDefined}
use Rattle.isp_catalog.proofs.ReadLaws.{name_there}
use Rattle.isp_catalog.proofs.loading.read_one.Goals as goal

pub returns-in-Ok-clause-broken : goal.returns-in-Ok-clause-broken
returns-in-Ok-clause-broken g c tells =
    let contents = g.P.Pages.contents c.args.pages.now in
    let page = c.in_ok-read.ensures.page tells ∙ ap (page_of contents) c.page_of_number-p.ensures in
    let found = c.in-Ok.ensures.found contents page in
    let defined = subst (λ (n : ℕ). IsDefined n contents c.args.number c.in-Ok.def) c.pages-count.ensures.count found in
    name_there (g.P.Pages.shape c.args.pages.now).pages c.args.number c.page_of_number-p.result contents c.args.defs.now c.in-Ok.def c.new_or.result defined c.page_of_number-p.ensures c.new_or.ensures

pub returns-in-Err-Broken-clause-broken : goal.returns-in-Err-Broken-clause-broken
returns-in-Err-Broken-clause-broken g c tells =
    let contents = g.P.Pages.contents c.args.pages.now in
    let page = c.in_ok-read.ensures.page tells ∙ ap (page_of contents) c.page_of_number-p.ensures in
    let refused = rw c.in-Err-Broken.field-0-is at c.in-Err-Broken.ensures.refused in (
      refl,
      c.page_of_number-p.ensures,
      λ def is. absurd (refused refl contents def page (subst (λ (n : ℕ). IsDefined n contents c.args.number def) (sym c.pages-count.ensures.count) is)),
    )
