-- A step of a statement on a file: what it answers, and where it leaves the statement.
use Rattle.std.proofs.Common.{◌≡◌, ℕ, Bool, true, false, List, Option, Some, None, refl, sym, ◌∙◌, subst, if◌then◌else◌}
use Rattle.std.specs.Prelude.{Result, Ok, Err, IfOk, nat_lt}
use Rattle.isp_catalog.specs.declared.table.TableDef.{TableDef}
use Rattle.isp_image.specs.Databases.{Database}
use Rattle.isp_page.specs.declared.fault.Fault.{Fault}
use Rattle.isp_page.specs.declared.pages.Pages.{Ghosts}
use Rattle.isp_plain.specs.Refusals.{number}
use Rattle.isp_plain.specs.declared.refusal.Refusal.{Refusal}
use Rattle.isp_plain.specs.declared.refusal.Refusal.TheVariants.{FileFull}
use Rattle.isp_plain.specs.declared.statement.Reply.{Reply}
use Rattle.isp_plain.specs.declared.statement.Reply.TheVariants as reply
use Rattle.isp_tables.specs.Calls.{IsFlushedIf}
use Rattle.isp_trx.specs.Transactions.{TrxState}
use Rattle.isp_work.specs.Works.{answered, is_ready, made_by}
use Rattle.isp_work.specs.declared.phase.Phase.{Phase as WorkPhase}
use Rattle.isp_work.specs.declared.phase.Phase.TheVariants.{Creating, Reading, Looking, Changing, Undoing, RollingBack, Ready}
use Rattle.isp_work.specs.declared.progress.Progress.{Progress}
use Rattle.isp_exec.specs.Events.{Goes, IsFlushedAt, RollsBack, TakesBack, event_by, goes_on}
use Rattle.isp_exec.specs.Standing.{IsAt, IsFit, height}
use Rattle.isp_exec.specs.declared.step.Step.{Step}
use Rattle.isp_exec.specs.declared.step.Step.TheVariants as answers
use Rattle.isp_exec.proofs.AnswerLaws.{given_by}
use Rattle.isp_exec.proofs.AtLaws.{Comes}
use Rattle.isp_exec.proofs.StatementLaws.{made_keeps}

pub no_answer : (o : Option Refusal) (answer : Reply) → event_by o ≡ answers.Ready answer → ⊥
no_answer None answer is = cc
no_answer (Some refusal) answer is = cc

same_answer : (a b : Reply) → answers.Ready a ≡ answers.Ready b → a ≡ b
same_answer a b is = cc

failing : (n : ℕ) (answer : Reply) → answers.Failing n ≡ answers.Ready answer → ⊥
failing n answer is = cc

stops : {X : Type 0} (answer : Reply) → goes_on (answers.Ready answer) ≡ true → X
stops answer is = cc

-- the answer is taken out of the statement as it is handed out
abbrev pub handed_by : Progress → Progress
handed_by work = if is_ready work.phase then record work { reply = reply.Ok } else work

pub handed_height : (work : Progress) (noted : ℕ) → height (handed_by work) noted ≡ height work noted
handed_height work noted = by (is_ready work.phase)
  where
    by : (b : Bool) → height (if b then record work { reply = reply.Ok } else work) noted ≡ height work noted
    by true = refl
    by false = refl

handed_keeps : (work : Progress) → (handed_by work).statement ≡ work.statement
handed_keeps work = by (is_ready work.phase)
  where
    by : (b : Bool) → (if b then record work { reply = reply.Ok } else work).statement ≡ work.statement
    by true = refl
    by false = refl

pub handed_made : (work : Progress) (made : Bool) (noted : ℕ) → (handed_by (made_by work made noted)).statement ≡ work.statement
handed_made work made noted = handed_keeps (made_by work made noted) ∙ made_keeps work made noted

pub handed_fit : (n : ℕ) (defs : List TableDef) (work : Progress) (made : Bool) (noted : ℕ) → IsFit n defs (handed_by (made_by work made noted))
handed_fit n defs work true noted = tt
handed_fit n defs work false noted = by (nat_lt work.base noted)
  where
    by : (b : Bool) → IsFit n defs (handed_by (if b then record work { phase = Undoing FileFull } else answered work (reply.Err FileFull)))
    by true = tt
    by false = tt

module _ {S : Type 0} (g : Ghosts S) (old : S) (defs : List TableDef) (trx : TrxState) (start : Database) (work : Progress) (at : IsAt g old defs trx start work) (now : S) (defs_now : List TableDef) (trx_now : TrxState) where
  -- the same of other names
  pub goes_as : (a b : Progress) (s t : Step) → a ≡ b → s ≡ t → Goes g at now defs_now trx_now b t → Goes g at now defs_now trx_now a s
  goes_as a b s t is same goes =
      subst (λ (w : Progress). Goes g at now defs_now trx_now w s) (sym is) (subst (λ (x : Step). Goes g at now defs_now trx_now b x) (sym same) goes)

  -- it goes on
  pub goes_by : (o : Option Refusal) (work_now : Progress) → Comes g at now defs_now trx_now work_now (event_by o) → Goes g at now defs_now trx_now work_now (event_by o)
  goes_by o work_now c = record {
    work_then = work_now;
    next = c.next;
    answered = c.answered;
    on = λ _. refl;
    stated = c.stated;
    done = λ answer is. absurd (no_answer o answer is);
  }

  -- it is ready, or has something to take back
  pub hands_out : (work_then : Progress) → Comes g at now defs_now trx_now work_then (given_by work_then) → Goes g at now defs_now trx_now (handed_by work_then) (given_by work_then)
  hands_out work_then c = record {
    work_then = work_then;
    next = c.next;
    answered = c.answered;
    on = on_by work_then.phase;
    stated = c.stated;
    done = λ answer is. done_by work_then.phase answer is;
  }
    where
      on_by : (p : WorkPhase) → goes_on (if is_ready p then answers.Ready work_then.reply else answers.Failing (number FileFull)) ≡ true → (if is_ready p then record work_then { reply = reply.Ok } else work_then) ≡ work_then
      on_by Ready is = stops work_then.reply is
      on_by Creating is = refl
      on_by Reading is = refl
      on_by Looking is = refl
      on_by Changing is = refl
      on_by (Undoing refusal) is = refl
      on_by RollingBack is = refl

      done_by : (p : WorkPhase) (answer : Reply) → (if is_ready p then answers.Ready work_then.reply else answers.Failing (number FileFull)) ≡ answers.Ready answer → (p ≡ Ready) × (work_then.reply ≡ answer)
      done_by Ready answer is = (refl, same_answer work_then.reply answer is)
      done_by Creating answer is = absurd (failing (number FileFull) answer is)
      done_by Reading answer is = absurd (failing (number FileFull) answer is)
      done_by Looking answer is = absurd (failing (number FileFull) answer is)
      done_by Changing answer is = absurd (failing (number FileFull) answer is)
      done_by (Undoing refusal) answer is = absurd (failing (number FileFull) answer is)
      done_by RollingBack answer is = absurd (failing (number FileFull) answer is)

  -- it was ready
  pub was_ready : work.phase ≡ Ready → Comes g at now defs_now trx_now work (answers.Ready work.reply) → Goes g at now defs_now trx_now (record work { reply = reply.Ok }) (answers.Ready work.reply)
  was_ready phase c = record {
    work_then = work;
    next = c.next;
    answered = c.answered;
    on = λ is. stops work.reply is;
    stated = c.stated;
    done = λ answer is. (phase, same_answer work.reply answer is);
  }

-- ---- ROLLBACK

-- the statement stays what it is
pub rolls_on : {S : Type 0} (g : Ghosts S) (now : S) (defs : List TableDef) (trx : TrxState) (work : Progress) (d : Database) → work.phase ≡ RollingBack → (result : Result Step Fault) → IfOk result (TakesBack g now defs trx d) → IfOk result (RollsBack g now defs trx work d)
rolls_on g now defs trx work d phase (Ok step) back = (back, phase)
rolls_on g now defs trx work d phase (Err fault) back = tt

-- ---- what was made is flushed

pub made_flushed : {S : Type 0} (g : Ghosts S) (now : S) (work : Progress) (made : Bool) (count : ℕ) → IsFlushedIf g now made → IsFlushedAt g now (given_by (made_by work made count))
made_flushed g now work true count flushed = flushed
made_flushed g now work false count flushed = by (nat_lt work.base count)
  where
    by : (b : Bool) → IsFlushedAt g now (given_by (if b then record work { phase = Undoing FileFull } else answered work (reply.Err FileFull)))
    by true = tt
    by false = tt
