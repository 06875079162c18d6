use Rattle.std.proofs.Common.{◌≡◌, All, List, Ok, ◌∙◌, ap, subst, sym}
use Rattle.isp_disk.specs.declared.world.Failed.{Failed}
use Rattle.isp_format.specs.Log.{transaction_bytes}
use Rattle.isp_frames.specs.Cached.{now}
use Rattle.isp_frames.specs.Held.{now_over}
use Rattle.isp_mini.specs.Extents.{ranges_in}
use Rattle.isp_mini.specs.declared.changes.Extent.{Extent}
use Rattle.isp_pool.specs.Frames.{PoolState}
use Rattle.isp_stable.specs.File.{placed}
use Rattle.isp_store.specs.Running.{AreFrames, IsPinnedIn}
use Rattle.isp_store.proofs.Logged.{Appends, fits, frames_appended, logged_batches, logged_contents, logged_frames, spelled, stays_logged, stays_unlogged, unlogged_contents, unlogged_frames}
use Rattle.isp_store.proofs.finishing.log_changes.Goals as goal

pub spell-requires-clause-pinned : goal.spell-requires-clause-pinned
spell-requires-clause-pinned g c =
    subst (λ (s : PoolState). All (IsPinnedIn s) c.extents.result.now) (sym c.pool.ensures)
    (subst (λ (es : List Extent). All (IsPinnedIn c.args.cache.now.pool) es) (sym c.extents.ensures.value) c.requires.running.frames.pinned)

pub append-requires-clause-fits : goal.append-requires-clause-fits
append-requires-clause-fits g c =
    let w = g.W.World in
    let old = c.args.cache.now in
    let extents = c.args.changes.now in
    let is : c.as_slice.result.now ≡ transaction_bytes (ranges_in (now w old) extents) =
    c.as_slice.ensures ∙ c.spell.ensures (placed w old.stable)
    ∙ ap (λ (s : PoolState). transaction_bytes (ranges_in (now_over s.frames (placed w old.stable)) c.extents.result.now)) c.pool.ensures
    ∙ ap (λ (es : List Extent). transaction_bytes (ranges_in (now w old) es)) c.extents.ensures.value in
    fits old.stable c.as_slice.result.now (now w old) extents c.requires.running.frames.extents is (c.requires.running.room c.requires.some)

pub unpin_all-requires : goal.unpin_all-requires
unpin_all-requires g c =
    let mid = c.append.new.self in
    subst (λ (es : List Extent). AreFrames mid.stable.pages mid.pool es) (sym c.extents-2.ensures.value)
    (frames_appended g.W.World c.args.cache.now mid mid c.args.changes.now c.requires.running c.append.ensures.others c.append.ensures.kept.shape.pages)

pub returns-clause-kept : goal.returns-clause-kept
returns-clause-kept g c =
    let w = g.W.World in
    let old = c.args.cache.now in
    let extents = c.args.changes.now in
    let is : c.as_slice.result.now ≡ transaction_bytes (ranges_in (now w old) extents) =
    c.as_slice.ensures ∙ c.spell.ensures (placed w old.stable)
    ∙ ap (λ (s : PoolState). transaction_bytes (ranges_in (now_over s.frames (placed w old.stable)) c.extents.result.now)) c.pool.ensures
    ∙ ap (λ (es : List Extent). transaction_bytes (ranges_in (now w old) es)) c.extents.ensures.value in
    let done = c.in_ok-append.ensures in
    let body = spelled old.stable.pages c.as_slice.result.now (now w old) old.pool extents c.requires.running.frames is in
    let appends : Appends w {T = Unit {0}} {E = Failed} old extents c.append.new.self.stable (Ok tt) = λ tells file. done.appended tells file (ranges_in (now w old) extents) body in
    stays_logged w old c.append.new.self c.unpin_all.new.cache extents c.requires.running done.others c.unpin_all.ensures.pool c.unpin_all.ensures.others tt done.kept appends done.placed

pub returns-in_err-append-clause-kept : goal.returns-in_err-append-clause-kept
returns-in_err-append-clause-kept g c =
    let w = g.W.World in
    let old = c.args.cache.now in
    let extents = c.args.changes.now in
    let is : c.as_slice.result.now ≡ transaction_bytes (ranges_in (now w old) extents) =
    c.as_slice.ensures ∙ c.spell.ensures (placed w old.stable)
    ∙ ap (λ (s : PoolState). transaction_bytes (ranges_in (now_over s.frames (placed w old.stable)) c.extents.result.now)) c.pool.ensures
    ∙ ap (λ (es : List Extent). transaction_bytes (ranges_in (now w old) es)) c.extents.ensures.value in
    let body = spelled old.stable.pages c.as_slice.result.now (now w old) old.pool extents c.requires.running.frames is in
    let failed = c.in_err-append.ensures in
    let mid = c.append.new.self in
    stays_unlogged w old mid mid extents c.requires.running failed.others _ _ c.from_residual.ensures.0 failed.kept (λ tells file. failed.appended tells file (ranges_in (now w old) extents) body)

pub returns-clause-contents : goal.returns-clause-contents
returns-clause-contents g c = λ tells.
    let done = c.in_ok-append.ensures in
    logged_contents g.W.World c.args.cache.now c.append.new.self c.unpin_all.new.cache c.args.changes.now c.requires.running done.others c.unpin_all.ensures.pool c.unpin_all.ensures.others (done.placed tells)

pub returns-in_err-append-clause-contents : goal.returns-in_err-append-clause-contents
returns-in_err-append-clause-contents g c = λ tells.
    let failed = c.in_err-append.ensures in
    let mid = c.append.new.self in
    unlogged_contents g.W.World c.args.cache.now mid mid c.args.changes.now c.requires.running failed.others (failed.placed tells)

pub returns-clause-logged : goal.returns-clause-logged
returns-clause-logged g c = λ tells file.
    let w = g.W.World in
    let old = c.args.cache.now in
    let extents = c.args.changes.now in
    let is : c.as_slice.result.now ≡ transaction_bytes (ranges_in (now w old) extents) =
    c.as_slice.ensures ∙ c.spell.ensures (placed w old.stable)
    ∙ ap (λ (s : PoolState). transaction_bytes (ranges_in (now_over s.frames (placed w old.stable)) c.extents.result.now)) c.pool.ensures
    ∙ ap (λ (es : List Extent). transaction_bytes (ranges_in (now w old) es)) c.extents.ensures.value in
    let done = c.in_ok-append.ensures in
    logged_batches w old c.append.new.self c.unpin_all.new.cache extents c.requires.running done.others c.unpin_all.ensures.pool c.unpin_all.ensures.others _
    (done.appended tells file (ranges_in (now w old) extents) (spelled old.stable.pages c.as_slice.result.now (now w old) old.pool extents c.requires.running.frames is)).batches_are

pub returns-clause-frames : goal.returns-clause-frames
returns-clause-frames g c =
    logged_frames g.W.World c.args.cache.now c.append.new.self c.unpin_all.new.cache c.args.changes.now c.requires.running c.in_ok-append.ensures.others c.unpin_all.ensures.pool c.unpin_all.ensures.others

pub returns-in_err-append-clause-frames : goal.returns-in_err-append-clause-frames
returns-in_err-append-clause-frames g c =
    let mid = c.append.new.self in
    unlogged_frames g.W.World c.args.cache.now mid mid c.args.changes.now c.requires.running c.in_err-append.ensures.others
