use Rattle.std.proofs.Common.{◌≡◌, ◌++◌, ◌+◌, List, ℕ, ◌∙◌, sym, ap, append_assoc, take, get_or, arith, ◌∷◌, []}
use Rattle.std.specs.Prelude.{filter, nat_lt}
use Rattle.isp_disk.specs.Stops.{placed}
use Rattle.isp_disk.proofs.Stopping.{placed_more}
use Rattle.isp_disk.proofs.stops.push_placed.Goals as goal

pub loop-i-preserved : goal.loop-i-preserved
loop-i-preserved c =
    let before : List (ℕ × ℕ) = c.args.writes.now.items in
    let kept : List (ℕ × ℕ) → List (ℕ × ℕ) = filter (λ write. nat_lt write.0 c.args.size) in
    let byte : ℕ = get_or c.args.bytes.now c.loop-i.i 0 in
    let so_far : c.loop-i.writes.items ≡ before ++ kept (placed c.args.at (take c.loop-i.i c.args.bytes.now)) = c.loop-i.invariant in
    let more : c.push_below.new.writes.items ≡ c.loop-i.writes.items ++ kept ((c.args.at + c.loop-i.i, byte) ∷ []) = c.in_ok-push_below.ensures in
    more
    ∙ ap (λ (l : List (ℕ × ℕ)). l ++ kept ((c.args.at + c.loop-i.i, byte) ∷ [])) so_far
    ∙ append_assoc before (kept (placed c.args.at (take c.loop-i.i c.args.bytes.now))) (kept ((c.args.at + c.loop-i.i, byte) ∷ []))
    ∙ ap (λ (l : List (ℕ × ℕ)). before ++ l) (sym (placed_more c.args.size c.args.at c.args.bytes.now c.loop-i.i (omega arith)))
