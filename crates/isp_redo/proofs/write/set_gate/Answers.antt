use Rattle.std.proofs.Common.{ℕ, [], ◌∙◌, ap, rules}
use Rattle.isp_disk.specs.Moments.{in_range}
use Rattle.isp_disk.proofs.PhaseLaws.{begins, keeps, writes}
use Rattle.isp_format.proofs.Offsets.{put_first}
use Rattle.isp_redo.proofs.write.set_gate.Goals as goal

pub returns-in_err-sync-clause-wrote : goal.returns-in_err-sync-clause-wrote
returns-in_err-sync-clause-wrote g c =
    let w = g.W.World in
    let old = c.args.world.now in
    let region = in_range c.args.at 1 in
    let begun = begins w old region c.requires.quiet (λ left printed since. g.met.W.World.only_now old left printed since) in
    let written = writes w old old c.write.new.self region c.args.at 1 begun (λ place out. out) c.in_ok-write.ensures.disk c.in_ok-write.ensures.printed c.in_ok-write.ensures.time in
    let synced = keeps w old c.write.new.self c.sync.new.self region written c.in_err-sync.ensures.disk c.in_err-sync.ensures.printed c.in_err-sync.ensures.time in
    record { phase = synced; quiet = search rules; calls = search rules }

pub returns-clause-wrote : goal.returns-clause-wrote
returns-clause-wrote g c =
    let w = g.W.World in
    let old = c.args.world.now in
    let region = in_range c.args.at 1 in
    let begun = begins w old region c.requires.quiet (λ left printed since. g.met.W.World.only_now old left printed since) in
    let written = writes w old old c.write.new.self region c.args.at 1 begun (λ place out. out) c.in_ok-write.ensures.disk c.in_ok-write.ensures.printed c.in_ok-write.ensures.time in
    let synced = keeps w old c.write.new.self c.sync.new.self region written c.in_ok-sync.ensures.disk c.in_ok-sync.ensures.printed c.in_ok-sync.ensures.time in
    record { phase = synced; quiet = search rules; calls = search rules }

pub returns-clause-gate : goal.returns-clause-gate
returns-clause-gate g c tells =
    ap (λ (image : ℕ → ℕ). image c.args.at) (c.in_ok-sync.ensures.disk.same ∙ c.in_ok-write.ensures.written tells) ∙ put_first (g.W.World.image c.args.world.now) c.args.at c.args.gate []
