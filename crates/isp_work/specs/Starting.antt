-- How a statement begins, on the table at a place, if it is on one.
use Rattle.std.specs.Prelude.{ℕ, List, if◌then◌else◌, Option, Some, None}
use Rattle.isp_changes.specs.Stages.{is_insert}
use Rattle.isp_plain.specs.Does.{no_such_table, place_of}
use Rattle.isp_plain.specs.Tables.{Table}
use Rattle.isp_plain.specs.declared.statement.Reply.TheVariants as reply
use Rattle.isp_plain.specs.declared.statement.Statement.{Statement}
use Rattle.isp_plain.specs.declared.statement.Statement.TheVariants.{Create, Insert, Select, Update, Delete, Begin, Commit, Rollback, Refused}
use Rattle.isp_work.specs.Works.{started, went_on}
use Rattle.isp_work.specs.declared.phase.Phase.TheVariants.{Creating, Reading, RollingBack, Ready}
use Rattle.isp_work.specs.declared.progress.Progress.{Progress}

-- INSERT begins with its first row
abbrev pub began : Statement → ℕ → ℕ → ℕ → Progress
began statement place base budget =
    if is_insert statement then went_on (started statement place base budget Reading reply.Ok) else started statement place base budget Reading reply.Ok

abbrev pub start_at : Statement → ℕ → ℕ → Option ℕ → Progress
start_at statement base budget (Some place) = began statement place base budget
start_at statement base budget None = started statement 0 base budget Ready no_such_table

-- ROLLBACK takes back all changes of the transaction, and not its own
abbrev pub start_of : Statement → ℕ → ℕ → Option ℕ → Progress
start_of (Create name schema) base budget place = started (Create name schema) 0 base budget Creating reply.Ok
start_of Begin base budget place = started Begin 0 base budget Ready reply.Ok
start_of Commit base budget place = started Commit 0 base budget Ready reply.Ok
start_of Rollback base budget place = started Rollback 0 0 budget RollingBack reply.Ok
start_of (Refused refusal) base budget place = started (Refused refusal) 0 base budget Ready (reply.Err refusal)
start_of (Insert name rows) base budget place = start_at (Insert name rows) base budget place
start_of (Select name columns w) base budget place = start_at (Select name columns w) base budget place
start_of (Update name sets w) base budget place = start_at (Update name sets w) base budget place
start_of (Delete name w) base budget place = start_at (Delete name w) base budget place

-- the place of the table that it is on
abbrev pub place_for : List Table → Statement → Option ℕ
place_for tables (Insert name rows) = place_of tables name
place_for tables (Select name columns w) = place_of tables name
place_for tables (Update name sets w) = place_of tables name
place_for tables (Delete name w) = place_of tables name
place_for tables _ = None
