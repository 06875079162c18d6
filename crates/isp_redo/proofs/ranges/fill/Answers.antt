use Rattle.std.proofs.Common.{◌≡◌, ◌++◌, ℕ, List, length, take, sym, ◌∙◌, ap, arith}
use Rattle.std.proofs.Math.Seq.{take-append_seam}
use Rattle.std.proofs.lemmas.List.{length-take}
use Rattle.isp_disk.specs.Moments.{slice}
use Rattle.isp_format.specs.Log.{log_of}
use Rattle.isp_format.proofs.Slices.{length-slice}
use Rattle.isp_redo.proofs.ranges.fill.Goals as goal

front : (xs ys : List ℕ) (n : ℕ) (zs : List ℕ) → n ≡ length xs → xs ≡ zs → take n (xs ++ ys) ≡ zs
front xs ys n zs long same = ap (λ (k : ℕ). take k (xs ++ ys)) long ∙ take-append_seam xs ys ∙ same

pub returns-clause-bytes : goal.returns-clause-bytes
returns-clause-bytes g c tells =
    let w = g.W.World in
    let same = c.in_ok-read_at.ensures.bytes tells in
    let from = c.from.ensures in
    let whole = c.told-into in
    let few = c.requires.places.1 in
    let part : length (take c.from.result c.args.into.now) ≡ c.args.len = length-take c.from.result c.args.into.now ∙ omega (arith, from, whole, few) in
    let bytes : c.read_at.new.into ≡ slice (log_of (w.image c.args.world.now)) c.args.at c.args.len = same ∙ ap (slice (log_of (w.image c.args.world.now)) c.args.at) part in
    let long : c.args.len ≡ length c.read_at.new.into = sym (ap length bytes ∙ length-slice (log_of (w.image c.args.world.now)) c.args.at c.args.len) in
    front c.read_at.new.into _ c.args.len (slice (log_of (w.image c.args.world.now)) c.args.at c.args.len) long bytes
