use Rattle.std.proofs.Common.{◌∙◌}
use Rattle.isp_store.proofs.Keeping.{stays_failed, steady_of}
use Rattle.isp_store.proofs.Putting.{pinned_after, pinned_contents, pinned_file, pinned_stays, stands_there}
use Rattle.isp_store.proofs.changing.put_bytes.Goals as goal

pub change-requires-clause-steady : goal.change-requires-clause-steady
change-requires-clause-steady g c = steady_of g.W.World c.args.cache.now c.args.changes.now c.requires.running

pub pin-requires : goal.pin-requires
pin-requires g c =
    let did = c.in_ok-change.ensures.put.put in
    (did.frame, stands_there g.W.World c.args.cache.now c.change.new.self c.change.new.self c.args.p c.args.at c.args.bytes.now did)

pub returns-in_err-change-clause-kept : goal.returns-in_err-change-clause-kept
returns-in_err-change-clause-kept g c =
    let extents = c.args.changes.now in
    stays_failed g.W.World c.args.cache.now c.change.new.self extents extents _ _ c.from_residual.ensures.0 c.requires.running c.in_err-change.ensures.put.failed

pub returns-clause-kept : goal.returns-clause-kept
returns-clause-kept g c =
    pinned_stays g.W.World c.args.cache.now c.change.new.self c.pin.new.self c.args.p c.args.at c.args.bytes.now c.in_ok-change.ensures.put.put c.pin.ensures.others c.pin.ensures.pool
    c.args.changes.now c.requires.running c.note.new.self c.note.ensures c.requires.some c.requires.inside c.requires.most c.requires.log

pub returns-clause-held : goal.returns-clause-held
returns-clause-held g c = pinned_after g.W.World c.args.cache.now c.change.new.self c.pin.new.self c.args.p c.args.at c.args.bytes.now c.in_ok-change.ensures.put.put c.pin.ensures.others c.pin.ensures.pool

pub returns-clause-contents : goal.returns-clause-contents
returns-clause-contents g c =
    pinned_contents g.W.World c.args.cache.now c.change.new.self c.pin.new.self c.args.p c.args.at c.args.bytes.now c.in_ok-change.ensures.put.put c.pin.ensures.others c.pin.ensures.pool
    c.args.changes.now c.requires.running c.requires.inside

pub returns-clause-untouched : goal.returns-clause-untouched
returns-clause-untouched g c = λ i here.
    pinned_file g.W.World c.args.cache.now c.change.new.self c.pin.new.self c.args.p c.args.at c.args.bytes.now c.in_ok-change.ensures.put.put c.pin.ensures.others c.pin.ensures.pool
    ∙ c.change.ensures.untouched i here
