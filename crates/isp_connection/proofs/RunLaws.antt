-- A statement is stepped until it is ready.
use Rattle.std.proofs.Common.{◌≡◌, ℕ, Bool, true, false, List, [], ◌∷◌, ◌++◌, map, refl, sym, ◌∙◌, ap, subst, if◌then◌else◌}
use Rattle.isp_catalog.specs.declared.table.TableDef.{TableDef}
use Rattle.isp_changes.specs.Changes.{RowChange, after_change, after_changes}
use Rattle.isp_changes.specs.Stages.{BringsBack, found_full, outcome_by, ready}
use Rattle.isp_chained.specs.Courses.{Reaches}
use Rattle.isp_chained.proofs.CourseLaws.{reaches_on}
use Rattle.isp_exec.specs.Events.{Goes, RollsBack, TakesBack, goes_on}
use Rattle.isp_exec.specs.Standing.{IsAt}
use Rattle.isp_exec.specs.declared.step.Step.{Step}
use Rattle.isp_exec.specs.declared.step.Step.TheVariants as step
use Rattle.isp_image.specs.Databases.{Database, FileImage, back_of, committed, tables_of}
use Rattle.isp_page.specs.declared.pages.Pages.{Ghosts}
use Rattle.isp_plain.specs.Does.{Outcome, answered, does}
use Rattle.isp_plain.specs.Tables.{Table}
use Rattle.isp_plain.specs.declared.refusal.Refusal.TheVariants.{FileFull}
use Rattle.isp_plain.specs.declared.statement.Reply.{Reply}
use Rattle.isp_plain.specs.declared.statement.Reply.TheVariants as reply
use Rattle.isp_plain.specs.declared.statement.Statement.{Statement}
use Rattle.isp_plain.specs.declared.statement.Statement.TheVariants.{Create, Insert, Select, Update, Delete, Begin, Commit, Rollback, Refused}
use Rattle.isp_tables.specs.Opened.{IsOpen}
use Rattle.isp_trx.specs.Transactions.{TrxState}
use Rattle.isp_work.specs.Works.{phase_at}
use Rattle.isp_work.specs.declared.phase.Phase.{Phase as WorkPhase}
use Rattle.isp_work.specs.declared.phase.Phase.TheVariants.{Ready, RollingBack}
use Rattle.isp_work.specs.declared.progress.Progress.{Progress}
use Rattle.isp_writes.specs.Writing.{DidUndo}
use Rattle.isp_connection.specs.Answering.{GoesBack, IsDone, is_create}

-- ---- old rows put back

after_joined : (tables : List Table) (xs ys : List RowChange) → after_changes tables (xs ++ ys) ≡ after_changes (after_changes tables xs) ys
after_joined tables [] ys = refl
after_joined tables (x ∷ xs) ys = after_joined (after_change tables x) xs ys

map_joined : (xs ys : List FileImage) → map back_of (xs ++ ys) ≡ map back_of xs ++ map back_of ys
map_joined [] ys = refl
map_joined (x ∷ xs) ys = ap (λ (l : List RowChange). back_of x ∷ l) (map_joined xs ys)

committed_stays : (start db : Database) (since : List FileImage) (noted : List RowChange) → db.images ≡ since ++ start.images → noted ≡ map back_of since → after_changes (tables_of db) noted ≡ tables_of start → committed db ≡ committed start
committed_stays start db since noted images is back =
    ap (λ (l : List FileImage). after_changes (tables_of db) (map back_of l)) images
    ∙ ap (after_changes (tables_of db)) (map_joined since start.images)
    ∙ after_joined (tables_of db) (map back_of since) (map back_of start.images)
    ∙ ap (λ (ts : List Table). after_changes ts (map back_of start.images)) (ap (after_changes (tables_of db)) (sym is) ∙ back)

brought_back : (s : Statement) (answer : Reply) (first tables : List Table) (noted : List RowChange) → is_create s ≡ false → BringsBack (ready answer) s first tables noted → after_changes tables noted ≡ first
brought_back (Create name schema) answer first tables noted not back = cc
brought_back (Insert name rows) answer first tables noted not back = back
brought_back (Select name columns w) answer first tables noted not back = back
brought_back (Update name sets w) answer first tables noted not back = back
brought_back (Delete name w) answer first tables noted not back = back
brought_back Begin answer first tables noted not back = back
brought_back Commit answer first tables noted not back = back
brought_back Rollback answer first tables noted not back = back
brought_back (Refused refusal) answer first tables noted not back = back

-- ---- a statement that is ready

reply_if : (full : Bool) (first : List Table) (o : Outcome) → (if full then found_full first else o).reply ≡ (if full then reply.Err FileFull else o.reply)
reply_if true first o = refl
reply_if false first o = refl

tables_if : (full : Bool) (first : List Table) (o : Outcome) → (if full then found_full first else o).tables ≡ (if full then first else o.tables)
tables_if true first o = refl
tables_if false first o = refl

module _ {S : Type 0} (g : Ghosts S) (now : S) (defs : List TableDef) (trx : TrxState) (start : Database) (work : Progress) (at : IsAt g now defs trx start work) (phase : work.phase ≡ Ready) where
  ended : answered (tables_of at.db) work.reply ≡ (if at.leads.full then found_full (tables_of start) else does (tables_of start) work.statement)
  ended = sym (ap (λ (p : WorkPhase). outcome_by work.statement (tables_of start) (tables_of at.db) (phase_at (tables_of at.db) at.pieces work p)) phase) ∙ at.leads.leads

  done : IsDone g now defs trx work.statement start work.reply
  done = record {
    full = at.leads.full;
    after = at.db;
    opened = at.opened;
    answer_is = ap (λ (o : Outcome). o.reply) ended ∙ reply_if at.leads.full (tables_of start) (does (tables_of start) work.statement);
    tables = ap (λ (o : Outcome). o.tables) ended ∙ tables_if at.leads.full (tables_of start) (does (tables_of start) work.statement);
    same = λ not.
        committed_stays start at.db at.stage.since at.noted at.stage.images at.stage.noted
        (brought_back work.statement work.reply (tables_of start) (tables_of at.db) at.noted not
        (subst (λ (p : WorkPhase). BringsBack (phase_at (tables_of at.db) at.pieces work p) work.statement (tables_of start) (tables_of at.db) at.noted) phase at.way.back));
    reaches = at.reaches;
    cause = at.leads.cause;
  }

-- ---- steps

-- where it stood on its way, and it goes on, it still does
pub still_at : {S : Type 0} (g : Ghosts S) (old : S) (defs : List TableDef) (trx : TrxState) (start : Database) (work : Progress) (at : IsAt g old defs trx start work) (now : S) (defs_now : List TableDef) (trx_now : TrxState) (work_now : Progress) (did : Step) → goes_on did ≡ true
    → Goes g at now defs_now trx_now work_now did → IsAt g now defs_now trx_now start work_now
still_at g old defs trx start work at now defs_now trx_now work_now did on goes = subst (λ (w : Progress). IsAt g now defs_now trx_now start w) (sym (goes.on on)) goes.next.after

-- it is ready, and done
pub ready_done : {S : Type 0} (g : Ghosts S) (old : S) (defs : List TableDef) (trx : TrxState) (start : Database) (work : Progress) (at : IsAt g old defs trx start work) (now : S) (defs_now : List TableDef) (trx_now : TrxState) (work_now : Progress) (did : Step) (answer : Reply) → did ≡ step.Ready answer
    → Goes g at now defs_now trx_now work_now did → IsDone g now defs_now trx_now work.statement start answer
ready_done g old defs trx start work at now defs_now trx_now work_now did answer ends goes =
    let is = goes.done answer ends in
    let whole : IsDone g now defs_now trx_now goes.work_then.statement start goes.work_then.reply = done g now defs_now trx_now start goes.work_then goes.next.after is.0 in
    subst (λ (s : Statement). IsDone g now defs_now trx_now s start answer) goes.stated (subst (IsDone g now defs_now trx_now goes.work_then.statement start) is.1 whole)

-- ---- changes that are taken back

-- Some of a transaction's changes are, and the committed tables are as they were; the statement takes back more.
pub record UndidSome {S : Type 0} (g : Ghosts S) (now : S) (defs : List TableDef) (trx : TrxState) (work : Progress) (old : Database) : Type 0 where
  pub after : Database
  pub opened : IsOpen g now defs trx after
  pub same : committed after ≡ committed old
  pub reaches : Reaches (g.shape now).pages old after
  pub more : work.phase ≡ RollingBack

module _ {S : Type 0} (g : Ghosts S) (mid new : S) (defs defs_now : List TableDef) (trx trx_now : TrxState) (work work_now : Progress) (d : Database) (some : UndidSome g mid defs trx work d) (pages : (g.shape new).pages ≡ (g.shape mid).pages) where
  reached : Reaches (g.shape new).pages d some.after
  reached = subst (λ (m : ℕ). Reaches m d some.after) (sym pages) some.reaches

  module _ (did : Step) (rolls : RollsBack g new defs_now trx_now work_now some.after did) where
    -- one more is
    pub undid_more : did ≡ step.Event → UndidSome g new defs_now trx_now work_now d
    undid_more is =
        let u : DidUndo g new defs_now trx_now some.after = subst (TakesBack g new defs_now trx_now some.after) is rolls.0 in
        record {
          after = u.after;
          opened = u.opened;
          same =
              sym (ap (λ (l : List FileImage). after_changes (tables_of some.after) (map back_of l)) u.noted ∙ ap (λ (ts : List Table). after_changes ts (map back_of u.after.images)) (sym u.tables))
              ∙ some.same;
          reaches = reaches_on (g.shape new).pages d some.after u.after reached u.reaches;
          more = rolls.1;
        }

    -- it doesn't fail
    pub undid_never : (number : ℕ) → did ≡ step.Failing number → UndidSome g new defs_now trx_now work_now d
    undid_never number is = absurd (subst (TakesBack g new defs_now trx_now some.after) is rolls.0)

    -- none is left
    pub all_undone : (answer : Reply) → did ≡ step.Ready answer → GoesBack g new defs_now trx_now d
    all_undone answer is =
        let taken : TakesBack g new defs_now trx_now some.after (step.Ready answer) = subst (TakesBack g new defs_now trx_now some.after) is rolls.0 in
        record {
          after = some.after;
          opened = taken.0;
          none = taken.1;
          back = sym (ap (λ (l : List FileImage). after_changes (tables_of some.after) (map back_of l)) taken.1) ∙ some.same;
          reaches = reached;
        }
