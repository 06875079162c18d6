use Rattle.std.proofs.Common.{◌≡◌, ◌-◌, ℕ, List, length, sym, ◌∙◌, ap, subst, arith, rules, take}
use Rattle.isp_disk.specs.Moments.{image_of}
use Rattle.isp_disk.specs.InMemory.{LeftSince, WorldState, held_after, held_first}
use Rattle.isp_disk.specs.Stops.{AreBelow, last_writes, printed_behind, put_writes, torn_behind, written_by}
use Rattle.isp_disk.proofs.Stopping.{below_last, below_written}
use Rattle.isp_disk.proofs.Momentary.{stopped_moment}
use Rattle.isp_disk.proofs.mem_world.MemWorld.image_at.Goals as goal

pub last_writes-requires : goal.last_writes-requires
last_writes-requires c =
    let is = c.deref-2.ensures.value ∙ c.in_ok-writes.ensures in
    subst (AreBelow c.len-size.result) (sym is) (below_written c.len-size.result c.self.inside.log.calls (c.args.call - 1))

pub put_writes-requires : goal.put_writes-requires
put_writes-requires c =
    let written = written_by c.len-size.result c.self.inside.log.calls (c.args.call - 1) in
    let is : c.deref-3.result.now ≡ last_writes written = c.deref-3.ensures.value ∙ c.in_ok-last.ensures ∙ ap last_writes (c.deref-2.ensures.value ∙ c.in_ok-writes.ensures) in
    let size : c.len-size.result ≡ length c.in_ok-image.image.items = search rules in
    let at_size : ℕ → Type 0 = λ n. AreBelow n c.deref-3.result.now in
    subst at_size size (subst (AreBelow c.len-size.result) (sym is) (below_last c.len-size.result written (below_written c.len-size.result c.self.inside.log.calls (c.args.call - 1))))

pub returns-clause-moment : goal.returns-clause-moment
returns-clause-moment c = λ t before.
    let world = c.self.inside in
    let made = c.args.call - 1 in
    let calls = world.log.calls in
    let written = written_by c.len-size.result calls made in
    let is : c.deref-3.result.now ≡ last_writes written = c.deref-3.ensures.value ∙ c.in_ok-last.ensures ∙ ap last_writes (c.deref-2.ensures.value ∙ c.in_ok-writes.ensures) in
    let puts : c.put_writes.new.image.items ≡ put_writes (torn_behind c.args.kept c.args.fill (last_writes written)) c.in_ok-image.image.items =
    c.put_writes.ensures ∙ ap (λ (ws : List (ℕ × ℕ)). put_writes (torn_behind c.args.kept c.args.fill ws) c.in_ok-image.image.items) is in
    let bytes = λ (place : ℕ). c.in_ok-image.ensures.bytes place ∙ ap (λ (first : List ℕ). (held_after first (take made calls)).image place) c.deref.ensures.value in
    let log = ap (λ (w : WorldState). length w.log.calls) c.self.view_is in
    let at_world : WorldState → Type 0 = λ w. LeftSince (held_first w.first) w.log.calls t (image_of c.put_writes.new.image.items) (printed_behind w.first w.log.calls made) in
    subst at_world c.self.view_is (stopped_moment c.len-size.result world.first.items calls made c.args.kept c.args.fill c.in_ok-image.image.items c.put_writes.new.image.items (omega (arith, c.requires.from_one, c.requires.made, log)) bytes puts t (omega (arith, before)))
