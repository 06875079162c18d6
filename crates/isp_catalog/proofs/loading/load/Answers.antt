use Rattle.std.proofs.Common.{ℕ, ◌<◌, ◌∷◌, [], List, length, sym, ◌∙◌, ap, subst, arith}
use Rattle.std.specs.Prelude.{All}
use Rattle.std.proofs.lemmas.List.{length-append}
use Rattle.std.proofs.lemmas.List.Elements.{All-append, All-cons, All-nil}
use Rattle.std.proofs.lemmas.Result.{err_from_is_err_and}
use Rattle.isp_page.specs.State.{FileShape}
use Rattle.isp_page.specs.Steps.{IsNoDamageOrLacks}
use Rattle.isp_catalog.specs.Catalogue.{IsCatalogue, NamesBroken}
use Rattle.isp_catalog.specs.declared.table.TableDef.{TableDef}
use Rattle.isp_catalog.proofs.CatalogueLaws.{sound_from}
use Rattle.isp_catalog.proofs.ReadLaws.{catalogue_next, err_is, names_there}
use Rattle.isp_catalog.proofs.Turns.{lacking, one_more}
use Rattle.isp_catalog.proofs.loading.load.Goals as goal

pub returns-in_err-def-clause-broken : goal.returns-in_err-def-clause-broken
returns-in_err-def-clause-broken g c tells s is =
    let pages = (g.P.Pages.shape c.args.pages.now).pages in
    let contents = g.P.Pages.contents c.args.pages.now in
    let shape = ap (λ (shape : FileShape). shape.pages) c.loop-k.invariant.0.keeps.same_shape in
    let p = err_from_is_err_and c.from_residual-in_err-def.result c.from_residual-in_err-def.ensures.1 in
    err_is (NamesBroken pages contents s.tables) c.from_residual-in_err-def.result _ _ p.1 p.2
    (names_there pages _ s.tables c.loop-k.k c.in_ok-count.count contents _ c.loop-k.defs.items _ c.in_err-def.field-0.0 shape (c.loop-k.invariant.1 tells) c.as_slice.ensures.value c.loop-k.invariant.3 c.loop-k-test.true (c.in_ok-count.ensures.count tells s is) (c.loop-k.invariant.5 tells) (c.in_err-def.ensures.broken tells))

pub returns-in_err-def-clause-sound : goal.returns-in_err-def-clause-sound
returns-in_err-def-clause-sound g c tells s defs has =
    let pages = (g.P.Pages.shape c.args.pages.now).pages in
    let contents = g.P.Pages.contents c.args.pages.now in
    let shape = ap (λ (shape : FileShape). shape.pages) c.loop-k.invariant.0.keeps.same_shape in
    let p = err_from_is_err_and c.from_residual-in_err-def.result c.from_residual-in_err-def.ensures.1 in
    err_is IsNoDamageOrLacks c.from_residual-in_err-def.result _ _ p.1 p.2
    (sound_from pages contents s defs c.in_err-def.field-0.0 has
    (names_there pages _ s.tables c.loop-k.k c.in_ok-count.count contents _ c.loop-k.defs.items _ c.in_err-def.field-0.0 shape (c.loop-k.invariant.1 tells) c.as_slice.ensures.value c.loop-k.invariant.3 c.loop-k-test.true (c.in_ok-count.ensures.count tells s has.space_is) (c.loop-k.invariant.5 tells) (c.in_err-def.ensures.broken tells)))

pub returns-in_err-push-clause-kept : goal.returns-in_err-push-clause-kept
returns-in_err-push-clause-kept g c =
    let p = err_from_is_err_and c.from_residual-in_err-push.result c.from_residual-in_err-push.ensures.1 in
    lacking g.P.Pages c.args.pages.now c.read_one.new.pages c.from_residual-in_err-push.result p.0 p.1 p.2
    (one_more g.P.Pages c.args.pages.now c.loop-k.pages c.read_one.new.pages c.in_ok-def.def c.loop-k.invariant.0 c.in_ok-def.ensures.kept)

pub loop-k-preserved : goal.loop-k-preserved
loop-k-preserved g c =
    let pages = (g.P.Pages.shape c.args.pages.now).pages in
    let contents = g.P.Pages.contents c.args.pages.now in
    let shape = ap (λ (shape : FileShape). shape.pages) c.loop-k.invariant.0.keeps.same_shape in
    let defs = c.loop-k.defs.items in
    let def = c.in_ok-def.def in
    let items = c.in_ok-push.ensures.items in
    let so_long = c.loop-k.invariant.3 in
    let sum = length-append defs (def ∷ []) in
    let longer = ap (λ (ds : List TableDef). length ds) items in
    let root : def.root.0 < pages = subst (λ (n : ℕ). def.root.0 < n) shape c.in_ok-def.ensures.root in
    let few = c.if-count-gt-MOST_TABLES.false in
    let less = c.loop-k-test.true in (
      one_more g.P.Pages c.args.pages.now c.loop-k.pages c.read_one.new.pages c.in_ok-def.def c.loop-k.invariant.0 c.in_ok-def.ensures.kept,
      λ tells. c.in_ok-def.ensures.contents tells ∙ c.loop-k.invariant.1 tells,
      c.in_ok-def.ensures.mini ∙ c.loop-k.invariant.2,
      omega (arith, longer, sum, so_long),
      subst (λ (ds : List TableDef). All (λ def. def.root.0 < pages) ds) (sym items)
          (All-append (λ (def : TableDef). def.root.0 < pages) defs (def ∷ []) c.loop-k.invariant.4 (All-cons (λ (def : TableDef). def.root.0 < pages) def [] root (All-nil (λ (def : TableDef). def.root.0 < pages)))),
      λ tells.
          subst (λ (ds : List TableDef). IsCatalogue pages contents ds) (sym items)
          (catalogue_next pages _ c.loop-k.k contents _ defs _ def shape (c.loop-k.invariant.1 tells) c.as_slice.ensures.value so_long (omega (arith, few, less)) (c.loop-k.invariant.5 tells) (c.in_ok-def.ensures.found tells) c.in_ok-def.ensures.new),
    )

pub returns-clause-found : goal.returns-clause-found
returns-clause-found g c tells s is =
    let so_long = c.loop-k.invariant.3 in
    let over = c.loop-k-test.false in
    let end = c.loop-k.auto.k-end in
    let count = c.in_ok-count.ensures.count tells s is in
    record { space_is = is; count = omega (arith, so_long, over, end, count); catalogue = c.loop-k.invariant.5 tells }
