use Rattle.std.proofs.Common.{◌≡◌, ℕ, ◌+◌, ◌-◌, ◌++◌, length, refl, sym, ◌∙◌, arith}
use Rattle.isp_disk.specs.Moments.{image_of}
use Rattle.isp_division.proofs.PackLaws.{piece_long, three_put}
use Rattle.isp_division.proofs.packing.joined.Goals as goal

pub returns : goal.returns
returns c =
    let a = c.piece.result.now in
    let b = c.args.piece_put.now in
    let z = c.piece-2.result.now in
    let first : ℕ = c.args.at - 64 in
    let a_long = piece_long (image_of c.args.old.now.bytes) 64 first a c.piece.ensures in
    let z_long = piece_long (image_of c.args.old.now.bytes) c.args.end (c.args.used - c.args.end) z c.piece-2.ensures in
    let total : first + (length b + (c.args.used - c.args.end)) ≡ first + (length b + length z) = omega (arith, z_long) in
    three_put _ (image_of c.put_piece.new.c.bytes) (image_of c.put_piece-2.new.c.bytes) (image_of c.put_piece-3.new.c.bytes) a b z first (first + length b) (first + (length b + (c.args.used - c.args.end)))
    (λ i place. c.put_piece.ensures place i) (λ i place. c.put_piece-2.ensures place i) (λ i place. c.put_piece-3.ensures place i) (sym a_long) refl total
    ∙ (λ i. c.piece.ensures i ++ (b ++ c.piece-2.ensures i))

pub put_piece-requires : goal.put_piece-requires
put_piece-requires c =
    let long = piece_long (image_of c.args.old.now.bytes) 64 (c.args.at - 64) c.piece.result.now c.piece.ensures in
    let to = c.requires.to in
    let order = c.requires.order in
    let first = order.0 in
    let second = order.1 in
    omega (arith, long, to, first, second)

pub put_piece-requires-3 : goal.put_piece-requires-3
put_piece-requires-3 c =
    let long = piece_long (image_of c.args.old.now.bytes) c.args.end (c.args.used - c.args.end) c.piece-2.result.now c.piece-2.ensures in
    let to = c.requires.to in
    let from = c.requires.from in
    let order = c.requires.order in
    let first = order.0 in
    let second = order.1 in
    let fits = c.requires.fits in
    omega (arith, long, to, from, first, second, fits)
