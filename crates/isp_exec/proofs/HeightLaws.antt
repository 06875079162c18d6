-- Each turn of a statement leaves fewer steps.
use Rattle.std.proofs.Common.{◌≡◌, ℕ, zero, suc, ◌+◌, ◌-◌, ◌*◌, ◌<◌, ◌≤◌, Bool, true, false, List, [], ◌∷◌, drop, length, refl, ◌∙◌, ap, arith, if◌then◌else◌}
use Rattle.std.specs.Prelude.{nat_lt}
use Rattle.std.proofs.lemmas.Bool.Decides.{nat_tests}
use Rattle.isp_changes.specs.Stages.{is_insert}
use Rattle.isp_plain.specs.declared.refusal.Refusal.{Refusal}
use Rattle.isp_plain.specs.declared.refusal.Refusal.TheVariants.{FileFull}
use Rattle.isp_plain.specs.declared.statement.Reply.TheVariants as reply
use Rattle.isp_plain.specs.declared.value.Row.{Row}
use Rattle.isp_work.specs.Works.{IsLookOf, answered, failed_by, first_of, looked_by, made_by, passed, rows_left, rows_named, went_on}
use Rattle.isp_work.specs.declared.found.Looked.{Looked}
use Rattle.isp_work.specs.declared.found.Looked.TheVariants as looked
use Rattle.isp_work.specs.declared.phase.Phase.{Phase as WorkPhase}
use Rattle.isp_work.specs.declared.phase.Phase.TheVariants.{Creating, Looking, Changing, Undoing}
use Rattle.isp_work.specs.declared.progress.Progress.{Progress}
use Rattle.isp_writes.specs.Writing.{fewer}
use Rattle.isp_exec.specs.Standing.{height, height_in}
use Rattle.isp_exec.proofs.RowLaws.{one_more}

-- ---- what is left of a list

pub dropped_most : (rows : List Row) (n : ℕ) → length (drop n rows) ≤ length rows
dropped_most [] zero = omega arith
dropped_most [] (suc n) = omega arith
dropped_most (row ∷ rows) zero = omega arith
dropped_most (row ∷ rows) (suc n) = let least = dropped_most rows n in omega (arith, least)

dropped_one : (rows : List Row) (n : ℕ) → n < length rows → length (drop (suc n) rows) + 1 ≤ length (drop n rows)
dropped_one [] n less = absurd (omega (arith, less))
dropped_one (row ∷ []) zero less = omega arith
dropped_one (row ∷ other ∷ rows) zero less = omega arith
dropped_one (row ∷ rows) (suc n) less = dropped_one rows n (omega (arith, less))

-- ---- the height behind a turn

-- at most so much
pub went_height : (work : Progress) (noted : ℕ) → height (went_on work) noted ≤ 3 * length (rows_left work) + (noted - work.base) + 3
went_height work noted = by (nat_lt work.next (length (rows_named work.statement work.rows)))
  where
    first : (inserts : Bool) → height_in (record work { phase = first_of inserts }) (noted - work.base) (first_of inserts) ≤ 3 * length (rows_left work) + (noted - work.base) + 3
    first true = omega arith
    first false = omega arith

    by : (b : Bool) → height (if b then record work { phase = first_of (is_insert work.statement) } else answered work (reply.Count work.next)) noted ≤ 3 * length (rows_left work) + (noted - work.base) + 3
    by true = first (is_insert work.statement)
    by false = omega arith

pub over_height : (work : Progress) (noted : ℕ) → length (rows_named work.statement work.rows) ≤ work.next → height (went_on work) noted ≡ 0
over_height work noted over =
    let none : nat_lt work.next (length (rows_named work.statement work.rows)) ≡ false = grind (arith, nat_tests, over) in
    ap (λ (b : Bool). height (if b then record work { phase = first_of (is_insert work.statement) } else answered work (reply.Count work.next)) noted) none

pub failed_height : (work : Progress) (refusal : Refusal) (noted : ℕ) → height (failed_by work refusal noted) noted ≤ (noted - work.base) + 1
failed_height work refusal noted = by (nat_lt work.base noted)
  where
    by : (b : Bool) → height (if b then record work { phase = Undoing refusal } else answered work (reply.Err refusal)) noted ≤ (noted - work.base) + 1
    by true = omega arith
    by false = omega arith

-- ---- it falls

pub height_at : (work : Progress) (noted : ℕ) (p : WorkPhase) → work.phase ≡ p → height work noted ≡ height_in work (noted - work.base) p
height_at work noted p is = ap (height_in work (noted - work.base)) is

pub made_falls : (work : Progress) (made : Bool) (noted : ℕ) → work.phase ≡ Creating → height (made_by work made noted) noted < height work noted
made_falls work true noted phase = let had = height_at work noted Creating phase in omega (arith, had)
made_falls work false noted phase =
    let had = height_at work noted Creating phase in
    let now = failed_height work FileFull noted in omega (arith, had, now)

pub looked_falls : (work : Progress) (l : Looked) (noted : ℕ) → work.phase ≡ Looking → IsLookOf work l → height (looked_by work l noted) noted < height work noted
looked_falls work looked.Over noted phase over =
    let had = height_at work noted Looking phase in
    let now = over_height work noted over in omega (arith, had, now)
looked_falls work looked.Free noted phase over = let had = height_at work noted Looking phase in omega (arith, had)
looked_falls work (looked.Taken refusal) noted phase over =
    let had = height_at work noted Looking phase in
    let now = failed_height work refusal noted in omega (arith, had, now)

pub over_falls : (work : Progress) (noted now : ℕ) → work.phase ≡ Changing → length (rows_named work.statement work.rows) ≤ work.next → height (went_on work) now < height work noted
over_falls work noted now phase over =
    let had = height_at work noted Changing phase in
    let none = over_height work now over in omega (arith, had, none)

pub passed_falls : (work : Progress) (noted now : ℕ) → work.phase ≡ Changing → work.next < length (rows_named work.statement work.rows) → now ≡ noted + 1 → height (passed work) now < height work noted
passed_falls work noted now phase less is =
    let had = height_at work noted Changing phase in
    let most = went_height (record work { next = work.next + 1 }) now in
    let left : length (drop (work.next + 1) (rows_named work.statement work.rows)) ≡ length (drop (suc work.next) (rows_named work.statement work.rows)) = ap (λ (n : ℕ). length (drop n (rows_named work.statement work.rows))) (one_more work.next) in
    let fewer_rows = dropped_one (rows_named work.statement work.rows) work.next less in
    omega (arith, had, most, left, fewer_rows, is)

pub full_falls : (work : Progress) (refusal : Refusal) (noted now : ℕ) → work.phase ≡ Changing → now ≡ noted → height (failed_by work refusal now) now < height work noted
full_falls work refusal noted now phase is =
    let had = height_at work noted Changing phase in
    let most = failed_height work refusal now in omega (arith, had, most, is)

pub undone_falls : (work : Progress) (refusal : Refusal) (noted now : ℕ) → work.phase ≡ Undoing refusal → now ≡ fewer work.base noted → height (failed_by work refusal now) now < height work noted
undone_falls work refusal noted now phase is = by (nat_lt work.base noted) refl
  where
    none : nat_lt work.base now ≡ false → height (failed_by work refusal now) now ≡ 0
    none few = ap (λ (b : Bool). height (if b then record work { phase = Undoing refusal } else answered work (reply.Err refusal)) now) few

    by : (b : Bool) → nat_lt work.base noted ≡ b → height (failed_by work refusal now) now < height work noted
    by true some =
        let had = height_at work noted (Undoing refusal) phase in
        let most = failed_height work refusal now in
        let one : now ≡ noted - 1 = is ∙ ap (λ (b : Bool). if b then noted - 1 else noted) some in
        let less : work.base < noted = grind (arith, nat_tests, some) in omega (arith, had, most, one, less)
    by false some =
        let had = height_at work noted (Undoing refusal) phase in
        let same : now ≡ noted = is ∙ ap (λ (b : Bool). if b then noted - 1 else noted) some in
        let few : nat_lt work.base now ≡ false = ap (nat_lt work.base) same ∙ some in
        let zero_is = none few in omega (arith, had, zero_is)
