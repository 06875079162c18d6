use Rattle.std.proofs.Common.{◌≡◌, ℕ, ◌<◌, List, [], ◌∷◌, length, drop, refl, arith}
use Rattle.isp_wkt.specs.Words.{common}
use Rattle.isp_wkt.proofs.cursor.common.Goals as goal

-- no bytes are left
none_common : (ws bs : List ℕ) → length bs < 1 → common ws bs ≡ 0
none_common [] bs h = refl
none_common (w ∷ ws) [] h = refl
none_common (w ∷ ws) (b ∷ bs) h = absurd (omega arith)

pub returns-in-empty-clause-value : goal.returns-in-empty-clause-value
returns-in-empty-clause-value c = omega (arith, none_common (drop c.loop-w.w-index c.args.word.now) c.loop-w.rest.now c.in-empty.len_below, c.loop-w.invariant.value)
