-- A ROLLBACK takes the changes of its transaction back, one a step.
use Rattle.std.proofs.Common.{◌≡◌, ℕ, zero, suc, ◌+◌, ◌<◌, true, refl, arith}
use Rattle.std.specs.Prelude.{nat_lt}
use Rattle.std.proofs.lemmas.Bool.Decides.{nat_tests}
use Rattle.isp_work.specs.declared.phase.Phase.TheVariants.{RollingBack}
use Rattle.isp_work.specs.declared.progress.Progress.{Progress}
use Rattle.isp_exec.specs.Standing.{height}
use Rattle.isp_exec.proofs.HeightLaws.{height_at}

-- something is noted
pub some_noted_at : (count : ℕ) → (count ≡ 0 → ⊥) → nat_lt 0 count ≡ true
some_noted_at zero some = absurd (some refl)
some_noted_at (suc count) some = grind (arith, nat_tests)

pub rolled_falls : (work : Progress) (count now : ℕ) → work.phase ≡ RollingBack → work.base ≡ 0 → count ≡ now + 1 → height work now < height work count
rolled_falls work count now phase base is =
    let had = height_at work count RollingBack phase in
    let left = height_at work now RollingBack phase in omega (arith, had, left, base, is)
