use Rattle.std.proofs.Common.{◌≡◌, ◌==◌, ◌++◌, List, [], ◌∷◌, length, set, get_or, rules, ◌∙◌, ap, arith}
use Rattle.std.specs.Prelude.{Some, None}
use Rattle.std.specs.List.{position}
use Rattle.std.proofs.lemmas.List.{length-append}
use Rattle.isp_mini.specs.Extents.{widened, with_extent}
use Rattle.isp_mini.specs.declared.changes.Extent.{Extent}
use Rattle.isp_mini.proofs.ExtentLaws.{with_found, with_none}
use Rattle.isp_mini.proofs.changes.add.Goals as goal

pub returns-in-Some-clause-noted : goal.returns-in-Some-clause-noted
returns-in-Some-clause-noted c =
    let extents : List Extent = c.args.extents.now.items in
    let is : position (λ extent. extent.page.0 == c.args.page.0) extents ≡ Some c.in-Some.place = search rules in
    let made : c.widened.result ≡ widened c.args.page c.args.at c.args.end (get_or extents c.in-Some.place c.index.result.now) = search rules in
    ap (λ (extent : Extent). set extents c.in-Some.place extent) made
    ∙ with_found c.args.page c.args.at c.args.end extents c.in-Some.place c.index.result.now is

pub put_behind-requires : goal.put_behind-requires
put_behind-requires c =
    let extents : List Extent = c.args.extents.now.items in
    let is : position (λ extent. extent.page.0 == c.args.page.0) extents ≡ None = search rules in
    let added : Extent = record { page = c.args.page; at = c.args.at; end = c.args.end } in
    let long : length (extents ++ added ∷ []) ≡ length (with_extent c.args.page c.args.at c.args.end extents) = ap length (with_none c.args.page c.args.at c.args.end extents is) in
    omega (arith, long, length-append extents (added ∷ []))

pub returns-in-None-clause-noted : goal.returns-in-None-clause-noted
returns-in-None-clause-noted c =
    let extents : List Extent = c.args.extents.now.items in
    let is : position (λ extent. extent.page.0 == c.args.page.0) extents ≡ None = search rules in
    c.put_behind.ensures.put ∙ with_none c.args.page c.args.at c.args.end extents is
