-- Transactions, read from a session's answers alone: which answers end one, and which ends commit (the MySQL 8.0
-- manual on START TRANSACTION, COMMIT and autocommit).
use Rattle.std.specs.Prelude.{ℕ, Bool, true, false, not, ◌&&◌, ◌||◌, List, if◌then◌else◌}
use Rattle.std.specs.Str.{bytes_eq}
use Rattle.isp_serial.specs.declared.script.Place.{Place}
use Rattle.isp_plain.specs.declared.statement.Statement.{Statement}
use Rattle.isp_serial.specs.Answers.{Answer, is_end, is_deadlock}
use Rattle.isp_plain.specs.Tables.{Table}
use Rattle.isp_plain.specs.Texts.{ok_text}

-- what a statement does to transactions where it is answered OK
pub data Effect : Type 0 where
  begins : Effect
  commits : Effect
  rolls_back : Effect
  stays : Effect

-- what texts mean: the statement of a text on given tables at a given place, and its effect on transactions
pub record Language : Type 0 where
  pub meaning : List Table → Place → List ℕ → Statement
  pub effect : List ℕ → Effect

abbrev pub is_begin : Effect → Bool
is_begin begins = true
is_begin commits = false
is_begin rolls_back = false
is_begin stays = false

abbrev pub is_commit : Effect → Bool
is_commit commits = true
is_commit begins = false
is_commit rolls_back = false
is_commit stays = false

-- COMMIT and ROLLBACK close a transaction
abbrev pub is_close : Effect → Bool
is_close commits = true
is_close rolls_back = true
is_close begins = false
is_close stays = false

abbrev pub is_ok : Answer → Bool
is_ok answer = bytes_eq answer.text ok_text

-- The answer ends its session's transaction: END, the victim of a deadlock, an OK to COMMIT or ROLLBACK inside a
-- transaction, and outside of one any answer but an OK to BEGIN.
abbrev pub ends : Bool → Effect → Answer → Bool
ends inside effect answer =
    is_end answer || is_deadlock answer || (if inside then is_close effect && is_ok answer else not (is_begin effect && is_ok answer))

-- an end commits where it is an OK to COMMIT inside a transaction, or an answer outside of one that is neither END nor
-- a deadlock's
abbrev pub keeps : Bool → Effect → Answer → Bool
keeps inside effect answer =
    not (is_end answer || is_deadlock answer) && (if inside then is_commit effect else true)
