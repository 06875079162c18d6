use Rattle.std.proofs.Common.{ℕ, ◌++◌, ◌∷◌, [], sym, ◌∙◌, ap, subst}
use Rattle.isp_format.specs.Definition.{definition_page}
use Rattle.isp_format.specs.Header.{header_of}
use Rattle.isp_page.specs.State.{FileShape}
use Rattle.isp_space.specs.Spaces.{IsSpace}
use Rattle.isp_catalog.specs.Catalogue.{HasTables, counted}
use Rattle.isp_catalog.proofs.WritingLaws.{added, head_same, not_zero}
use Rattle.isp_catalog.proofs.adding.add.Goals as goal

pub returns-clause-header : goal.returns-clause-header
returns-clause-header g c tells =
    head_same c.args.t.now (g.P.Pages.contents c.count_table.new.pages) (g.P.Pages.contents c.write_table.new.pages) (c.in_ok-write_table.ensures.written tells)
    ∙ ap header_of (c.in_ok-count.ensures.others tells (definition_page c.args.t.now.number) (not_zero c.args.t.now.number))

pub returns-clause-added : goal.returns-clause-added
returns-clause-added g c tells s defs has next =
    let old = g.P.Pages.contents c.args.pages.now in
    let mid = g.P.Pages.contents c.count_table.new.pages in
    let new = g.P.Pages.contents c.write_table.new.pages in
    let pages = (g.P.Pages.shape c.args.pages.now).pages in
    let count = c.in_ok-count.ensures in
    let write = c.in_ok-write_table.ensures in
    let first = ap (λ (shape : FileShape). shape.pages) count.kept.keeps.same_shape in
    let second = ap (λ (shape : FileShape). shape.pages) write.kept.keeps.same_shape in
    let space = subst (λ (n : ℕ). IsSpace n mid (counted s)) first (count.counted tells s has.space_is) in
    subst (λ (n : ℕ). HasTables n new (counted s) (defs ++ c.args.t.now ∷ [])) (sym (second ∙ first))
    (added pages c.args.t.now old mid new s defs c.requires.place has next (count.others tells) space (write.others tells) (write.written tells))
