use Rattle.std.proofs.Common.{◌+◌, [], ◌∷◌, length, refl, sym, subst, ◌∙◌, ap, arith, rules}
use Rattle.isp_disk.specs.Moments.{Image, in_range, put}
use Rattle.isp_disk.proofs.PhaseLaws.{begins, keeps, writes}
use Rattle.isp_format.specs.Numbers.{bytes_of}
use Rattle.isp_format.proofs.Offsets.{range_within}
use Rattle.isp_redo.proofs.Laying.{laid_has}
use Rattle.isp_redo.specs.Changes.{HasBody}
use Rattle.isp_redo.proofs.write.lay_body.Goals as goal

pub returns-in_err-write-clause-wrote : goal.returns-in_err-write-clause-wrote
returns-in_err-write-clause-wrote g c =
    let w = g.W.World in
    let old = c.args.world.now in
    let region = in_range (c.args.at + 1) (length c.args.body.now + 5) in
    let begun = begins w old region c.requires.quiet (λ left printed since. g.met.W.World.only_now old left printed since) in
    let sized = writes w old old c.write_size.new.world region (c.args.at + 1) 4 begun (range_within _ _ _ _ (omega arith) (omega arith)) c.in_ok-write_size.ensures.write.disk c.in_ok-write_size.ensures.write.calls.printed c.in_ok-write_size.ensures.write.time in
    let written = writes w old c.write_size.new.world c.write.new.self region (c.args.at + 5) (length c.args.body.now) sized (range_within _ _ _ _ (omega arith) (omega arith)) c.in_err-write.ensures.disk c.in_err-write.ensures.printed c.in_err-write.ensures.time in
    record { phase = written; quiet = search rules; calls = search rules }

pub returns-in_err-write-2-clause-wrote : goal.returns-in_err-write-2-clause-wrote
returns-in_err-write-2-clause-wrote g c =
    let w = g.W.World in
    let old = c.args.world.now in
    let region = in_range (c.args.at + 1) (length c.args.body.now + 5) in
    let begun = begins w old region c.requires.quiet (λ left printed since. g.met.W.World.only_now old left printed since) in
    let sized = writes w old old c.write_size.new.world region (c.args.at + 1) 4 begun (range_within _ _ _ _ (omega arith) (omega arith)) c.in_ok-write_size.ensures.write.disk c.in_ok-write_size.ensures.write.calls.printed c.in_ok-write_size.ensures.write.time in
    let written = writes w old c.write_size.new.world c.write.new.self region (c.args.at + 5) (length c.args.body.now) sized (range_within _ _ _ _ (omega arith) (omega arith)) c.in_ok-write.ensures.disk c.in_ok-write.ensures.printed c.in_ok-write.ensures.time in
    let gated = writes w old c.write.new.self c.write-2.new.self region (c.args.at + 5 + length c.args.body.now) 1 written (range_within _ _ _ _ (omega arith) (omega arith)) c.in_err-write-2.ensures.disk c.in_err-write-2.ensures.printed c.in_err-write-2.ensures.time in
    record { phase = gated; quiet = search rules; calls = search rules }

pub returns-in_err-sync-clause-wrote : goal.returns-in_err-sync-clause-wrote
returns-in_err-sync-clause-wrote g c =
    let w = g.W.World in
    let old = c.args.world.now in
    let region = in_range (c.args.at + 1) (length c.args.body.now + 5) in
    let begun = begins w old region c.requires.quiet (λ left printed since. g.met.W.World.only_now old left printed since) in
    let sized = writes w old old c.write_size.new.world region (c.args.at + 1) 4 begun (range_within _ _ _ _ (omega arith) (omega arith)) c.in_ok-write_size.ensures.write.disk c.in_ok-write_size.ensures.write.calls.printed c.in_ok-write_size.ensures.write.time in
    let written = writes w old c.write_size.new.world c.write.new.self region (c.args.at + 5) (length c.args.body.now) sized (range_within _ _ _ _ (omega arith) (omega arith)) c.in_ok-write.ensures.disk c.in_ok-write.ensures.printed c.in_ok-write.ensures.time in
    let gated = writes w old c.write.new.self c.write-2.new.self region (c.args.at + 5 + length c.args.body.now) 1 written (range_within _ _ _ _ (omega arith) (omega arith)) c.in_ok-write-2.ensures.disk c.in_ok-write-2.ensures.printed c.in_ok-write-2.ensures.time in
    let synced = keeps w old c.write-2.new.self c.sync.new.self region gated c.in_err-sync.ensures.disk c.in_err-sync.ensures.printed c.in_err-sync.ensures.time in
    record { phase = synced; quiet = search rules; calls = search rules }

pub returns-clause-wrote : goal.returns-clause-wrote
returns-clause-wrote g c =
    let w = g.W.World in
    let old = c.args.world.now in
    let region = in_range (c.args.at + 1) (length c.args.body.now + 5) in
    let begun = begins w old region c.requires.quiet (λ left printed since. g.met.W.World.only_now old left printed since) in
    let sized = writes w old old c.write_size.new.world region (c.args.at + 1) 4 begun (range_within _ _ _ _ (omega arith) (omega arith)) c.in_ok-write_size.ensures.write.disk c.in_ok-write_size.ensures.write.calls.printed c.in_ok-write_size.ensures.write.time in
    let written = writes w old c.write_size.new.world c.write.new.self region (c.args.at + 5) (length c.args.body.now) sized (range_within _ _ _ _ (omega arith) (omega arith)) c.in_ok-write.ensures.disk c.in_ok-write.ensures.printed c.in_ok-write.ensures.time in
    let gated = writes w old c.write.new.self c.write-2.new.self region (c.args.at + 5 + length c.args.body.now) 1 written (range_within _ _ _ _ (omega arith) (omega arith)) c.in_ok-write-2.ensures.disk c.in_ok-write-2.ensures.printed c.in_ok-write-2.ensures.time in
    let synced = keeps w old c.write-2.new.self c.sync.new.self region gated c.in_ok-sync.ensures.disk c.in_ok-sync.ensures.printed c.in_ok-sync.ensures.time in
    record { phase = synced; quiet = search rules; calls = search rules }

pub returns-clause-laid : goal.returns-clause-laid
returns-clause-laid g c tells =
    let old = g.W.World.image c.args.world.now in
    let at = c.args.at in
    let body = c.args.body.now in
    let stands = c.in_ok-sync.ensures.disk.same ∙ c.in_ok-write-2.ensures.written tells ∙ ap (λ (i : Image). put i (at + 5 + length body) (0 ∷ [])) (c.in_ok-write.ensures.written tells ∙ ap (λ (i : Image). put i (at + 5) body) (c.in_ok-write_size.ensures.written tells)) in
    subst (λ (i : Image). HasBody i at body) (sym stands) (laid_has old at (bytes_of 4 (length body)) body refl refl)
