use Rattle.std.proofs.Common.{rules, ◌+◌, ◌<◌, List, All, drop, get_or, length, refl, sym, subst}
use Rattle.std.proofs.lemmas.List.{drop_more}
use Rattle.std.proofs.lemmas.List.Elements.{All-head}
use Rattle.isp_mini.specs.declared.changes.Extent.{Extent}
use Rattle.isp_pool.specs.Frames.{PoolState}
use Rattle.isp_store.specs.Running.{IsPinnedIn, IsUnpinned}
use Rattle.isp_store.proofs.Keeping.{others_twice, unpinned_begins, unpinned_more}
use Rattle.isp_store.proofs.logging.unpin_all.Goals as goal

pub loop-extent-init : goal.loop-extent-init
loop-extent-init g c = record { pool = unpinned_begins c.args.cache.now.stable.pages c.args.cache.now.pool c.args.extents.now c.requires; others = refl }

pub unpin_page-requires : goal.unpin_page-requires
unpin_page-requires g c =
    let extents = c.args.extents.now in
    let i = c.loop-extent.extent-index in
    let d : Extent = record { page = record { 0 = 0 }; at = 0; end = 0 } in
    let lt : i < length extents = search rules in
    All-head (IsPinnedIn c.loop-extent.cache.pool) (get_or extents i d) (drop (i + 1) extents)
    (subst (λ (left : List Extent). All (IsPinnedIn c.loop-extent.cache.pool) left) (drop_more extents i d lt) c.loop-extent.invariant.pool.frames.pinned)

pub loop-extent-preserved : goal.loop-extent-preserved
loop-extent-preserved g c =
    let extents = c.args.extents.now in
    let old = c.args.cache.now in
    let mid = c.loop-extent.cache in
    let i = c.loop-extent.extent-index in
    let d : Extent = record { page = record { 0 = 0 }; at = 0; end = 0 } in
    let lt : i < length extents = search rules in
    let here = subst (λ (left : List Extent). IsUnpinned old.stable.pages old.pool mid.pool left) (drop_more extents i d lt) c.loop-extent.invariant.pool in
    let done = c.unpin_page.ensures in
    record {
      pool = subst (λ (p : PoolState). IsUnpinned old.stable.pages old.pool p (drop (i + 1) extents)) (sym done.pool.2)
          (unpinned_more old.stable.pages old.pool mid.pool done.pool.0 (get_or extents i d) (drop (i + 1) extents) here done.pool.1);
      others = others_twice old mid c.unpin_page.new.cache c.loop-extent.invariant.others done.others;
    }
