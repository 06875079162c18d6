use Rattle.std.proofs.Common.{◌≡◌, ◌+◌, ◌-◌, ◌≤◌, ◌&&◌, nat_le, nat_lt, false, ℕ, length, sym, ◌∙◌, ap, subst, arith}
use Rattle.std.proofs.lemmas.Bool.Decides.{nat_tests}
use Rattle.isp_disk.specs.Moments.{Image, slice}
use Rattle.isp_format.specs.Log.{log_of}
use Rattle.isp_redo.specs.Places.{IsAt}
use Rattle.isp_redo.specs.declared.ranges.LogPlace.{LogPlace}
use Rattle.isp_redo.proofs.Ahead.{takes_at}
use Rattle.isp_redo.proofs.PlaceLaws.{range_forward}
use Rattle.isp_redo.proofs.Positions.{header_is}
use Rattle.isp_redo.proofs.ranges.take.Goals as goal

pub returns-then-place-lt-RANGE_HEAD-clause-found : goal.returns-then-place-lt-RANGE_HEAD-clause-found
returns-then-place-lt-RANGE_HEAD-clause-found g c tells pages few ranges is =
    let log = log_of (g.W.World.image c.args.world.now) in
    let taken = takes_at pages log c.args.place ranges c.requires.left.0 is in
    let short = c.if-place-lt-RANGE_HEAD.true in
    absurd (omega (arith, short, taken.inside, range_forward pages log c.args.place.at taken.range taken.next taken.is))

-- a header that a range has was tested to no avail
no_header : (len at size : ℕ) → (nat_lt 0 len && nat_le (at + len) 4096) ≡ false → len ≡ size → 1 ≤ size → at + size ≤ 4096 → ⊥
no_header len at size test same some inside = absurd (grind (arith, nat_tests, test, same, some, inside))

pub returns-then-not-lies_in_page-clause-found : goal.returns-then-not-lies_in_page-clause-found
returns-then-not-lies_in_page-clause-found g c tells pages few ranges is =
    let log = log_of (g.W.World.image c.args.world.now) in
    let header = c.in_ok-header.header in
    let fits = c.in_ok-header.ensures.few in
    let taken = takes_at pages log c.args.place ranges c.requires.left.0 is in
    let same = header_is pages log c.args.place.at header.page header.at header.len taken.range taken.next few fits.0 fits.1 fits.2 (c.in_ok-header.ensures.header tells) taken.is in
    absurd (no_header header.len header.at (length taken.range.bytes) (sym c.lies_in_page.ensures ∙ c.if-not-lies_in_page.true) same.2 taken.is.is.some (omega (arith, same.1, taken.is.is.inside)))

pub returns-then-len-place-clause-found : goal.returns-then-len-place-clause-found
returns-then-len-place-clause-found g c tells pages few ranges is =
    let log = log_of (g.W.World.image c.args.world.now) in
    let header = c.in_ok-header.header in
    let fits = c.in_ok-header.ensures.few in
    let taken = takes_at pages log c.args.place ranges c.requires.left.0 is in
    let same = header_is pages log c.args.place.at header.page header.at header.len taken.range taken.next few fits.0 fits.1 fits.2 (c.in_ok-header.ensures.header tells) taken.is in
    let long = c.if-len-place.true in
    let from = c.from-len.ensures in
    absurd (omega (arith, long, from, same.2, taken.is.behind, taken.inside))

pub returns-clause-found : goal.returns-clause-found
returns-clause-found g c tells pages few ranges is =
    let w = g.W.World in
    let log = log_of (w.image c.args.world.now) in
    let header = c.in_ok-header.header in
    let fits = c.in_ok-header.ensures.few in
    let taken = takes_at pages log c.args.place ranges c.requires.left.0 is in
    let same = header_is pages log c.args.place.at header.page header.at header.len taken.range taken.next few fits.0 fits.1 fits.2 (c.in_ok-header.ensures.header tells) taken.is in
    let bytes = c.in_ok-fill.ensures.bytes tells ∙ ap (λ (i : Image). slice (log_of i) (c.args.place.at + 8) header.len) c.read_header.ensures.reads.same ∙ ap (slice log (c.args.place.at + 8)) same.2 ∙ taken.is.stands in
    let from = c.from-len.ensures in
    let some = c.requires.left.0 in
    let next_is : taken.next ≡ c.args.place.at + 8 + c.from-len.result = omega (arith, taken.is.behind, same.2, from) in
    let place : LogPlace = record { at = c.args.place.at + 8 + c.from-len.result; left = c.args.place.left - 1; end = c.args.place.end } in
    let ahead : IsAt pages log place taken.others = subst (λ (p : ℕ). IsAt pages log (record { at = p; left = c.args.place.left - 1; end = c.args.place.end }) taken.others) next_is (taken.then_at (c.args.place.left - 1) (omega (arith, some))) in
    (taken.range, taken.others, taken.ranges_are, same.0, same.1, same.2, bytes, subst (λ (p : LogPlace). IsAt pages log p taken.others) (sym c.pack.ensures) ahead)
