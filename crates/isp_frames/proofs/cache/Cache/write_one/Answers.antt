use Rattle.std.proofs.Common.{[], ◌∷◌, Ok, refl, sym, subst}
use Rattle.isp_disk.specs.declared.world.Failed.{Failed}
use Rattle.isp_format.specs.Contents.{ranges_of}
use Rattle.isp_format.specs.Ranges.{cover}
use Rattle.isp_frames.specs.Cached.{KeepsCache}
use Rattle.isp_frames.specs.Held.{AreBelow, cleaned_at}
use Rattle.isp_frames.proofs.Gathering.{gathered_one, numbered_by}
use Rattle.isp_frames.proofs.KeptLaws.{cleaned_below, cleaned_one}
use Rattle.isp_frames.proofs.StayLaws.{Gathers, kept_failed, kept_unwritten, kept_written}
use Rattle.isp_pool.specs.Frames.{PoolState, frame_at}
use Rattle.isp_stable.specs.File.{placed}
use Rattle.isp_frames.proofs.cache.Cache.write_one.Goals as goal

pub returns-clause-kept : goal.returns-clause-kept
returns-clause-kept g c =
    let w = g.W.World in
    let s = c.args.self.now in
    let entry = c.numbered_page.result in
    let cleaned = cleaned_at s.pool c.args.frame in
    let new = record s { stable = c.write_pages.new.self; pool = cleaned } in
    let by = numbered_by (frame_at s.pool c.args.frame) entry c.numbered_page.ensures in
    let gathers : Gathers w s new (entry ∷ []) = λ cached. gathered_one s.pool (placed w s.stable) (cover (ranges_of cached.file.batches)) c.args.frame entry
    c.frames.ensures.kept c.numbered_page.ensures c.requires.unpinned (record { clean = cached.clean; covered = cached.covered }) in
    let below : AreBelow s.stable.pages cleaned.frames = cleaned_below s.pool cleaned s.stable.pages (cleaned_one s.pool c.args.frame by.frame by.there) c.requires.steady.below in
    let done = c.in_ok-write_pages.ensures in
    subst (λ (pool : PoolState). KeepsCache w {T = Unit {0}} {E = Failed} s (record new { pool = pool }) (Ok tt)) (sym c.clean.ensures)
    (kept_written w s new (entry ∷ []) tt c.requires.steady refl below gathers
    (record { written = done.written; stops = done.stops; pages = done.pages; log = done.log; kept = done.kept }))

pub returns-in_err-write_pages-clause-kept : goal.returns-in_err-write_pages-clause-kept
returns-in_err-write_pages-clause-kept g c =
    let w = g.W.World in
    let s = c.args.self.now in
    let entry = c.numbered_page.result in
    let new = record s { stable = c.write_pages.new.self } in
    let mid = record s { pool = cleaned_at s.pool c.args.frame } in
    let gathers : Gathers w s mid (entry ∷ []) = λ cached. gathered_one s.pool (placed w s.stable) (cover (ranges_of cached.file.batches)) c.args.frame entry
    c.frames.ensures.kept c.numbered_page.ensures c.requires.unpinned (record { clean = cached.clean; covered = cached.covered }) in
    let done = c.in_err-write_pages.ensures in
    kept_failed w s new _ _ c.from_residual.ensures.0 (kept_unwritten w s new mid (entry ∷ []) _ refl gathers
    (record { written = done.written; stops = done.stops; pages = done.pages; log = done.log; kept = done.kept }))
