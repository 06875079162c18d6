use Rattle.std.proofs.Common.{rules, tests, ◌≡◌, ◌∙◌, ℕ, List, ap, sym, filter_map, map}
use Rattle.std.proofs.lemmas.Iterator.{YieldsList-from_map, items_from_collect}
use Rattle.std.proofs.lemmas.Iterator.Consumers.{YieldsList-at, YieldsList-from_rest}
use Rattle.std.proofs.lemmas.Result.{IfOk-weaker}
use Rattle.isp_base.specs.declared.page_no.PageNo.{PageNo}
use Rattle.isp_events.specs.Lines.{pages_rising}
use Rattle.isp_predlock.specs.declared.table.Attached.{Attached}
use Rattle.isp_predlock.specs.Inside.{page_for}
use Rattle.isp_predlock.specs.Tables.{PredTable, page_number, pages_of}
use Rattle.isp_predlock.proofs.InsideLaws.{numbered_pages, numbers_back, pages_seen}
use Rattle.isp_predlock.proofs.table.PredLocks.pages_of.Goals as goal

pub returns : goal.returns
returns c =
    let id : ℕ = c.args.id.0 in
    let keys : List ℕ = c.in_ok-pages.pages.keys in
    let seen : filter_map (page_for id) c.self.inside.attached.keys ≡ pages_of c.args.self.now.searches id =
    sym (pages_seen c.self.inside c.self.invariant id) ∙ ap (λ (v : PredTable). pages_of v.searches id) c.self.view_is in
    let all : keys ≡ pages_rising (pages_of c.args.self.now.searches id) =
    c.in_ok-pages.ensures ∙ ap (λ (l : List Attached). pages_rising (filter_map (page_for id) l)) c.as_slice.ensures.keys ∙ ap pages_rising seen in
    IfOk-weaker c.collect.result _ _ (λ pages is. ap (λ (l : List PageNo). map page_number l) is ∙ numbers_back keys ∙ all)
    (items_from_collect c.collect.result c.collect.ensures.ran
    (YieldsList-from_map _ numbered_pages
    (YieldsList-at c.map.ensures.source (YieldsList-from_rest keys c.iter.ensures.rest))
    c.map.ensures.closure
    (λ x r q k. search (rules, tests))))
