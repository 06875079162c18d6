use Rattle.std.proofs.Common.{List, [], ◌∷◌, ◌++◌, sym, subst}
use Rattle.isp_frames.specs.Gathered.{IsTaken}
use Rattle.isp_frames.proofs.Gathering.{taken_more}
use Rattle.isp_format.specs.declared.page.Page.{Page}
use Rattle.isp_base.specs.declared.page_no.PageNo.{PageNo}
use Rattle.isp_pool.specs.Frames.{PoolState}
use Rattle.isp_frames.proofs.cleaning.take.Goals as goal

pub returns-clause-taken : goal.returns-clause-taken
returns-clause-taken c = λ old so_far.
    let items : List (PageNo × Page) = c.args.batch.now.items in
    let entry = c.numbered_page.result in
    let more = taken_more old c.args.pool.now items c.args.frame entry c.frames.ensures.kept c.numbered_page.ensures c.requires.next.dirty c.requires.unpinned c.requires.next.next so_far in
    subst (λ (batch : List (PageNo × Page)). IsTaken old c.clean.new.self batch) (sym c.push_reserved.ensures.items)
    (subst (λ (s : PoolState). IsTaken old s (items ++ entry ∷ [])) (sym c.clean.ensures) more)
