-- A turn leaves a statement what it is.
use Rattle.std.proofs.Common.{◌≡◌, ℕ, ◌+◌, Bool, true, false, length, refl, if◌then◌else◌}
use Rattle.std.specs.Prelude.{nat_lt}
use Rattle.isp_changes.specs.Stages.{is_insert}
use Rattle.isp_plain.specs.declared.refusal.Refusal.{Refusal}
use Rattle.isp_plain.specs.declared.refusal.Refusal.TheVariants.{FileFull}
use Rattle.isp_plain.specs.declared.statement.Reply.TheVariants as reply
use Rattle.isp_work.specs.Works.{answered, changed_by, failed_by, first_of, looked_by, made_by, rows_named, went_on}
use Rattle.isp_work.specs.declared.found.Changed.{Changed}
use Rattle.isp_work.specs.declared.found.Changed.TheVariants as changed
use Rattle.isp_work.specs.declared.found.Looked.{Looked}
use Rattle.isp_work.specs.declared.found.Looked.TheVariants as looked
use Rattle.isp_work.specs.declared.phase.Phase.TheVariants.{Undoing}
use Rattle.isp_work.specs.declared.progress.Progress.{Progress}

pub failed_keeps : (work : Progress) (refusal : Refusal) (noted : ℕ) → (failed_by work refusal noted).statement ≡ work.statement
failed_keeps work refusal noted = by (nat_lt work.base noted)
  where
    by : (b : Bool) → (if b then record work { phase = Undoing refusal } else answered work (reply.Err refusal)).statement ≡ work.statement
    by true = refl
    by false = refl

went_keeps : (work : Progress) → (went_on work).statement ≡ work.statement
went_keeps work = by (nat_lt work.next (length (rows_named work.statement work.rows)))
  where
    by : (b : Bool) → (if b then record work { phase = first_of (is_insert work.statement) } else answered work (reply.Count work.next)).statement ≡ work.statement
    by true = refl
    by false = refl

pub made_keeps : (work : Progress) (made : Bool) (noted : ℕ) → (made_by work made noted).statement ≡ work.statement
made_keeps work true noted = refl
made_keeps work false noted = failed_keeps work FileFull noted

pub looked_keeps : (work : Progress) (at : Looked) (noted : ℕ) → (looked_by work at noted).statement ≡ work.statement
looked_keeps work looked.Over noted = went_keeps work
looked_keeps work looked.Free noted = refl
looked_keeps work (looked.Taken refusal) noted = failed_keeps work refusal noted

pub changed_keeps : (work : Progress) (did : Changed) (noted : ℕ) → (changed_by work did noted).statement ≡ work.statement
changed_keeps work changed.Over noted = went_keeps work
changed_keeps work changed.Done noted = went_keeps (record work { next = work.next + 1 })
changed_keeps work changed.Full noted = failed_keeps work FileFull noted
