use Rattle.std.proofs.Common.{◌≡◌, List, [], length, map, refl, rules, sym, ap, subst}
use Rattle.std.proofs.lemmas.List.{nil_from_length}
use Rattle.isp_doublewrite.specs.Batches.{whole_page}
use Rattle.isp_format.specs.Contents.{ranges_of}
use Rattle.isp_format.specs.Ranges.{cover, puts}
use Rattle.isp_frames.specs.Gathered.{IsGathered}
use Rattle.isp_frames.proofs.CacheLaws.{stays_gathered}
use Rattle.isp_frames.proofs.KeptLaws.{cleaned_below}
use Rattle.isp_frames.proofs.StayLaws.{Gathers, kept_failed, kept_ok, kept_still, kept_unwritten, kept_written}
use Rattle.isp_format.specs.declared.page.Page.{Page}
use Rattle.isp_base.specs.declared.page_no.PageNo.{PageNo}
use Rattle.isp_stable.specs.File.{placed}
use Rattle.isp_frames.proofs.cache.Cache.clean_some.Goals as goal

pub returns-then-is_empty-clause-kept : goal.returns-then-is_empty-clause-kept
returns-then-is_empty-clause-kept g c =
    let w = g.W.World in
    let s = c.args.self.now in
    let items : List (PageNo × Page) = c.gather.new.batch.items in
    let long : length items ≡ 0 = search rules in
    let nothing : [] ≡ items = sym (nil_from_length items long) in
    let new = record s { pool = c.gather.new.pool; batch = c.gather.new.batch } in
    kept_still w s new _ refl c.gather.ensures.room c.requires.steady (λ left printed since. g.met.W.World.only_now s.stable.world left printed since)
    (cleaned_below s.pool new.pool s.stable.pages c.gather.ensures.taken.cleaned c.requires.steady.below)
    (λ cached. stays_gathered w s new cached items
    (record { placed_are = ap (λ (batch : List (PageNo × Page)). puts (map whole_page batch) (placed w s.stable)) nothing; batches_are = (cached.file, refl); log_bytes_are = λ place low high. refl })
    (c.gather.ensures.taken.gathered (placed w s.stable) (cover (ranges_of cached.file.batches)) (record { clean = cached.clean; covered = cached.covered })))

pub returns-clause-kept : goal.returns-clause-kept
returns-clause-kept g c =
    let w = g.W.World in
    let s = c.args.self.now in
    let new = record s { stable = c.write_pages.new.self; pool = c.gather.new.pool; batch = c.gather.new.batch } in
    let gathers : Gathers w s new c.deref.result.now = λ cached. subst (λ (batch : List (PageNo × Page)). IsGathered s.pool.frames new.pool.frames (placed w s.stable) (cover (ranges_of cached.file.batches)) batch) (sym c.deref.ensures.value)
    (c.gather.ensures.taken.gathered (placed w s.stable) (cover (ranges_of cached.file.batches)) (record { clean = cached.clean; covered = cached.covered })) in
    let done = c.in_ok-write_pages.ensures in
    kept_ok w s new tt _ (kept_written w s new c.deref.result.now tt c.requires.steady c.gather.ensures.room
    (cleaned_below s.pool new.pool s.stable.pages c.gather.ensures.taken.cleaned c.requires.steady.below) gathers
    (record { written = done.written; stops = done.stops; pages = done.pages; log = done.log; kept = done.kept }))

pub returns-in_err-write_pages-clause-kept : goal.returns-in_err-write_pages-clause-kept
returns-in_err-write_pages-clause-kept g c =
    let w = g.W.World in
    let s = c.args.self.now in
    let new = record s { stable = c.write_pages.new.self; pool = c.gather.new.pool; batch = c.gather.new.batch } in
    let gathers : Gathers w s new c.deref.result.now = λ cached. subst (λ (batch : List (PageNo × Page)). IsGathered s.pool.frames new.pool.frames (placed w s.stable) (cover (ranges_of cached.file.batches)) batch) (sym c.deref.ensures.value)
    (c.gather.ensures.taken.gathered (placed w s.stable) (cover (ranges_of cached.file.batches)) (record { clean = cached.clean; covered = cached.covered })) in
    let done = c.in_err-write_pages.ensures in
    kept_failed w s new _ _ c.from_residual.ensures.0 (kept_unwritten w s new new c.deref.result.now _ c.gather.ensures.room gathers
    (record { written = done.written; stops = done.stops; pages = done.pages; log = done.log; kept = done.kept }))
