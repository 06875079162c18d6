-- A file with chains stands on its pages in use alone.
use Rattle.std.proofs.Common.{◌≡◌, ◌≢◌, ℕ, ◌<◌, ◌≤◌, Bool, true, false, refl, arith}
use Rattle.std.specs.Prelude.{nat_lt}
use Rattle.std.proofs.lemmas.Bool.Decides.{nat_tests}
use Rattle.isp_image.specs.Files.{Owner, nobody}
use Rattle.isp_image.proofs.LocalLaws.{kept_local}
use Rattle.isp_chained.specs.Laws.{ChainedIsLocal}
use Rattle.isp_chained.proofs.HoldLaws.{kept_chained, slot_somebody}

-- what is somebody's was used
used_by : (owner : ℕ → Owner) (fresh page : ℕ) → ((p : ℕ) → fresh ≤ p → owner p ≡ nobody) → owner page ≢ nobody → page < fresh
used_by owner fresh page never some = by (nat_lt page fresh) refl
  where
    by : (b : Bool) → nat_lt page fresh ≡ b → page < fresh
    by true less = grind (arith, nat_tests, less)
    by false far = absurd (some (never page (grind (arith, nat_tests, far))))

pub chained_local : ChainedIsLocal
chained_local pages old new db chains was same =
    let kept = was.holds.kept in
    let from = kept.catalogue.space_is.fresh_from in
    kept_chained pages old new db db chains was (kept_local pages old new db kept same) refl
    (same 1 (omega (arith, from)))
    (λ slot page has. same page (used_by kept.owner db.space.fresh page kept.shared.never (slot_somebody kept.owner slot page has)))
    (λ slot xs had. had)
