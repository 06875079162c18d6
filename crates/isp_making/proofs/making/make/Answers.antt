use Rattle.std.proofs.Common.{◌≡◌, [], refl, sym, ◌∙◌, ap}
use Rattle.isp_disk.specs.Moments.{Image, Region, either, no_place}
use Rattle.isp_format.specs.Control.{made_gate}
use Rattle.isp_format.proofs.Offsets.{put_first}
use Rattle.isp_format.proofs.Places.{not_first, not_second}
use Rattle.isp_making.specs.Places.{IsWritten, made_place}
use Rattle.isp_making.proofs.Leaving.{closes, fills, made_by, opens, syncs}
use Rattle.isp_making.proofs.making.make.Goals as goal

pub returns-in_err-write_contents-clause-stops : goal.returns-in_err-write_contents-clause-stops
returns-in_err-write_contents-clause-stops g c = λ tells.
    let w = g.W.World in
    let old = c.args.world.now in
    let pages = c.args.pages in
    let fanout = c.args.fanout in
    let region : Region = either (w.pending old) made_place in
    let s1 = c.sync.new.self in
    let l1 = syncs w pages fanout region old s1 (λ left printed since. g.met.W.World.only_now old left printed since) (λ place out. not_first (w.pending old place) (made_place place) out) c.in_ok-sync.ensures.time in
    let told1 = c.in_ok-sync.ensures.printed in
    let s2 = c.close_gate.new.world in
    let l2 = closes w pages fanout region old s1 s2 made_place l1 (λ place out. not_second (w.pending old place) (made_place place) out) c.in_ok-sync.ensures.disk.same told1 c.in_ok-close_gate.ensures.wrote.phase in
    let told2 = c.in_ok-close_gate.ensures.wrote.phase.told ∙ told1 in
    let s3 = c.write_contents.new.world in
    let l3 = fills w pages fanout region old s2 s3 l2 (c.in_ok-close_gate.ensures.closed tells) told2 c.in_err-write_contents.ensures.wrote.phase in
    l3

pub returns-in_err-set_gate-clause-stops : goal.returns-in_err-set_gate-clause-stops
returns-in_err-set_gate-clause-stops g c = λ tells.
    let w = g.W.World in
    let old = c.args.world.now in
    let pages = c.args.pages in
    let fanout = c.args.fanout in
    let region : Region = either (w.pending old) made_place in
    let s1 = c.sync.new.self in
    let l1 = syncs w pages fanout region old s1 (λ left printed since. g.met.W.World.only_now old left printed since) (λ place out. not_first (w.pending old place) (made_place place) out) c.in_ok-sync.ensures.time in
    let told1 = c.in_ok-sync.ensures.printed in
    let s2 = c.close_gate.new.world in
    let l2 = closes w pages fanout region old s1 s2 made_place l1 (λ place out. not_second (w.pending old place) (made_place place) out) c.in_ok-sync.ensures.disk.same told1 c.in_ok-close_gate.ensures.wrote.phase in
    let told2 = c.in_ok-close_gate.ensures.wrote.phase.told ∙ told1 in
    let s3 = c.write_contents.new.world in
    let l3 = fills w pages fanout region old s2 s3 l2 (c.in_ok-close_gate.ensures.closed tells) told2 c.in_ok-write_contents.ensures.wrote.phase in
    let told3 = c.in_ok-write_contents.ensures.wrote.phase.told ∙ told2 in
    let written : IsWritten pages fanout (w.image s3) = c.in_ok-write_contents.ensures.written tells in
    let s4 = c.set_gate.new.world in
    let l4 = opens w pages fanout region old s3 s4 l3 c.requires.pages c.requires.fanout written told3 c.in_err-set_gate.ensures.wrote.phase in
    l4

pub returns-clause-stops : goal.returns-clause-stops
returns-clause-stops g c = λ tells.
    let w = g.W.World in
    let old = c.args.world.now in
    let pages = c.args.pages in
    let fanout = c.args.fanout in
    let region : Region = either (w.pending old) made_place in
    let s1 = c.sync.new.self in
    let l1 = syncs w pages fanout region old s1 (λ left printed since. g.met.W.World.only_now old left printed since) (λ place out. not_first (w.pending old place) (made_place place) out) c.in_ok-sync.ensures.time in
    let told1 = c.in_ok-sync.ensures.printed in
    let s2 = c.close_gate.new.world in
    let l2 = closes w pages fanout region old s1 s2 made_place l1 (λ place out. not_second (w.pending old place) (made_place place) out) c.in_ok-sync.ensures.disk.same told1 c.in_ok-close_gate.ensures.wrote.phase in
    let told2 = c.in_ok-close_gate.ensures.wrote.phase.told ∙ told1 in
    let s3 = c.write_contents.new.world in
    let l3 = fills w pages fanout region old s2 s3 l2 (c.in_ok-close_gate.ensures.closed tells) told2 c.in_ok-write_contents.ensures.wrote.phase in
    let told3 = c.in_ok-write_contents.ensures.wrote.phase.told ∙ told2 in
    let written : IsWritten pages fanout (w.image s3) = c.in_ok-write_contents.ensures.written tells in
    let s4 = c.set_gate.new.world in
    let l4 = opens w pages fanout region old s3 s4 l3 c.requires.pages c.requires.fanout written told3 c.in_ok-set_gate.ensures.wrote.phase in
    l4

pub returns-in_err-sync-clause-closed : goal.returns-in_err-sync-clause-closed
returns-in_err-sync-clause-closed g c = λ tells shut_before.
    let w = g.W.World in
    let old = c.args.world.now in
    let pages = c.args.pages in
    let fanout = c.args.fanout in
    let region : Region = w.pending old in
    let s1 = c.sync.new.self in
    let l1 = syncs w pages fanout region old s1 (λ left printed since. g.met.W.World.only_now old left printed since) (λ place out. out) c.in_err-sync.ensures.time in
    l1

pub returns-in_err-close_gate-clause-closed : goal.returns-in_err-close_gate-clause-closed
returns-in_err-close_gate-clause-closed g c = λ tells shut_before.
    let w = g.W.World in
    let old = c.args.world.now in
    let pages = c.args.pages in
    let fanout = c.args.fanout in
    let region : Region = w.pending old in
    let s1 = c.sync.new.self in
    let l1 = syncs w pages fanout region old s1 (λ left printed since. g.met.W.World.only_now old left printed since) (λ place out. out) c.in_ok-sync.ensures.time in
    let told1 = c.in_ok-sync.ensures.printed in
    let s2 = c.close_gate.new.world in
    let l2 = closes w pages fanout region old s1 s2 no_place l1 (λ place out. refl) c.in_ok-sync.ensures.disk.same told1 (c.in_err-close_gate.ensures.untouched tells (λ is. shut_before (ap (λ (x : Image). x made_gate) (sym c.in_ok-sync.ensures.disk.same) ∙ is))) in
    l2

pub returns-in_err-write_contents-clause-closed : goal.returns-in_err-write_contents-clause-closed
returns-in_err-write_contents-clause-closed g c = λ tells shut_before.
    let w = g.W.World in
    let old = c.args.world.now in
    let pages = c.args.pages in
    let fanout = c.args.fanout in
    let region : Region = w.pending old in
    let s1 = c.sync.new.self in
    let l1 = syncs w pages fanout region old s1 (λ left printed since. g.met.W.World.only_now old left printed since) (λ place out. out) c.in_ok-sync.ensures.time in
    let told1 = c.in_ok-sync.ensures.printed in
    let s2 = c.close_gate.new.world in
    let l2 = closes w pages fanout region old s1 s2 no_place l1 (λ place out. refl) c.in_ok-sync.ensures.disk.same told1 (c.in_ok-close_gate.ensures.untouched tells (λ is. shut_before (ap (λ (x : Image). x made_gate) (sym c.in_ok-sync.ensures.disk.same) ∙ is))) in
    let told2 = c.in_ok-close_gate.ensures.wrote.phase.told ∙ told1 in
    let s3 = c.write_contents.new.world in
    let l3 = fills w pages fanout region old s2 s3 l2 (c.in_ok-close_gate.ensures.closed tells) told2 c.in_err-write_contents.ensures.wrote.phase in
    l3

pub returns-in_err-set_gate-clause-closed : goal.returns-in_err-set_gate-clause-closed
returns-in_err-set_gate-clause-closed g c = λ tells shut_before.
    let w = g.W.World in
    let old = c.args.world.now in
    let pages = c.args.pages in
    let fanout = c.args.fanout in
    let region : Region = w.pending old in
    let s1 = c.sync.new.self in
    let l1 = syncs w pages fanout region old s1 (λ left printed since. g.met.W.World.only_now old left printed since) (λ place out. out) c.in_ok-sync.ensures.time in
    let told1 = c.in_ok-sync.ensures.printed in
    let s2 = c.close_gate.new.world in
    let l2 = closes w pages fanout region old s1 s2 no_place l1 (λ place out. refl) c.in_ok-sync.ensures.disk.same told1 (c.in_ok-close_gate.ensures.untouched tells (λ is. shut_before (ap (λ (x : Image). x made_gate) (sym c.in_ok-sync.ensures.disk.same) ∙ is))) in
    let told2 = c.in_ok-close_gate.ensures.wrote.phase.told ∙ told1 in
    let s3 = c.write_contents.new.world in
    let l3 = fills w pages fanout region old s2 s3 l2 (c.in_ok-close_gate.ensures.closed tells) told2 c.in_ok-write_contents.ensures.wrote.phase in
    let told3 = c.in_ok-write_contents.ensures.wrote.phase.told ∙ told2 in
    let written : IsWritten pages fanout (w.image s3) = c.in_ok-write_contents.ensures.written tells in
    let s4 = c.set_gate.new.world in
    let l4 = opens w pages fanout region old s3 s4 l3 c.requires.pages c.requires.fanout written told3 c.in_err-set_gate.ensures.wrote.phase in
    l4

pub returns-clause-closed : goal.returns-clause-closed
returns-clause-closed g c = λ tells shut_before.
    let w = g.W.World in
    let old = c.args.world.now in
    let pages = c.args.pages in
    let fanout = c.args.fanout in
    let region : Region = w.pending old in
    let s1 = c.sync.new.self in
    let l1 = syncs w pages fanout region old s1 (λ left printed since. g.met.W.World.only_now old left printed since) (λ place out. out) c.in_ok-sync.ensures.time in
    let told1 = c.in_ok-sync.ensures.printed in
    let s2 = c.close_gate.new.world in
    let l2 = closes w pages fanout region old s1 s2 no_place l1 (λ place out. refl) c.in_ok-sync.ensures.disk.same told1 (c.in_ok-close_gate.ensures.untouched tells (λ is. shut_before (ap (λ (x : Image). x made_gate) (sym c.in_ok-sync.ensures.disk.same) ∙ is))) in
    let told2 = c.in_ok-close_gate.ensures.wrote.phase.told ∙ told1 in
    let s3 = c.write_contents.new.world in
    let l3 = fills w pages fanout region old s2 s3 l2 (c.in_ok-close_gate.ensures.closed tells) told2 c.in_ok-write_contents.ensures.wrote.phase in
    let told3 = c.in_ok-write_contents.ensures.wrote.phase.told ∙ told2 in
    let written : IsWritten pages fanout (w.image s3) = c.in_ok-write_contents.ensures.written tells in
    let s4 = c.set_gate.new.world in
    let l4 = opens w pages fanout region old s3 s4 l3 c.requires.pages c.requires.fanout written told3 c.in_ok-set_gate.ensures.wrote.phase in
    l4

pub returns-clause-made : goal.returns-clause-made
returns-clause-made g c = λ tells.
    let w = g.W.World in
    let old = c.args.world.now in
    let pages = c.args.pages in
    let fanout = c.args.fanout in
    let told1 = c.in_ok-sync.ensures.printed in
    let told2 = c.in_ok-close_gate.ensures.wrote.phase.told ∙ told1 in
    let s3 = c.write_contents.new.world in
    let told3 = c.in_ok-write_contents.ensures.wrote.phase.told ∙ told2 in
    let written : IsWritten pages fanout (w.image s3) = c.in_ok-write_contents.ensures.written tells in
    let s4 = c.set_gate.new.world in
    let gate : w.image s4 made_gate ≡ 1 = ap (λ (x : Image). x made_gate) (c.in_ok-set_gate.ensures.written tells) ∙ put_first (w.image s3) made_gate 1 [] in
    made_by pages fanout (w.image s3) (w.image s4) c.requires.pages c.requires.fanout written c.in_ok-set_gate.ensures.wrote.phase.agrees gate
