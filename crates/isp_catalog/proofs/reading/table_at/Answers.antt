use Rattle.std.proofs.Common.{◌≡◌, ℕ, Some, subst}
use Rattle.std.proofs.lemmas.Result.{err_from_is_err_and}
use Rattle.isp_catalog.specs.Reading.{table_in}
use Rattle.isp_catalog.proofs.DefinitionLaws.{defined_back}
use Rattle.isp_catalog.proofs.ReadLaws.{none_defined}
use Rattle.isp_catalog.proofs.reading.table_at.Goals as goal

pub returns-in_err-def-clause-refused : goal.returns-in_err-def-clause-refused
returns-in_err-def-clause-refused c is contents def page defined =
    let p = err_from_is_err_and c.from_residual.result c.from_residual.ensures.1 in
    none_defined c.args.pages c.args.number c.place_of_number-at.result contents c.args.p.now.bytes def c.in_err-def.field-0.0 c.place_of_number-at.ensures.place page c.in_err-def.ensures.table (let e = p.1 in let f = p.2 in cc) defined

pub returns-clause-found : goal.returns-clause-found
returns-clause-found c contents page =
    defined_back c.args.pages c.args.number contents c.args.p.now.bytes _ c.byte_at-count.ensures.bytes page
    (subst (λ (at : ℕ). table_in c.args.pages c.args.number c.args.p.now.bytes at ≡ Some c.in_ok-def.def) c.place_of_number-at.ensures.place c.in_ok-def.ensures.table)
