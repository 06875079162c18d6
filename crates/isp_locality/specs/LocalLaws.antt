-- What holds of statements and transactions that have nothing to do with a set of keys.
use Rattle.std.specs.Prelude.{◌≡◌, Bool, List}
use Rattle.isp_plain.specs.declared.statement.Statement.{Statement}
use Rattle.isp_plain.specs.Tables.{Table}
use Rattle.isp_serial.specs.declared.script.Script.{Script}
use Rattle.isp_serial.specs.Answers.{Answer}
use Rattle.isp_serial.specs.Serial.{Agrees, Replays}
use Rattle.isp_serial.specs.Transactions.{Language}
use Rattle.isp_locality.specs.Apart.{AgreeBut, Apart, ApartAt, AreApart, IsLocal, MeansByNames, Places, Stays}

-- a statement
abbrev pub StatementsAreLocal : Type 0
StatementsAreLocal = (apart : Places) (tables others : List Table) (statement : Statement) → AgreeBut apart tables others → Apart apart tables others statement
    → IsLocal apart tables others statement

-- what an answer, done again, leaves on the other tables
pub record IsFramed (apart : Places) (language : Language) (script : Script) (inside : Bool) (tables others : List Table) (answer : Answer) (after : List Table) : Type 0 where
  pub then : List Table
  pub agrees : Agrees language script inside others answer then
  pub agree : AgreeBut apart after then
  pub stay : Stays apart tables after
  pub others_stay : Stays apart others then

abbrev pub AnswersAreFramed : Type 0
AnswersAreFramed =
    (apart : Places) (language : Language) (script : Script) (inside : Bool) (tables others : List Table) (answer : Answer) (after : List Table) → MeansByNames language
    → AgreeBut apart tables others → ApartAt apart language script inside tables others answer → Agrees language script inside tables answer after
    → IsFramed apart language script inside tables others answer after

-- a transaction that is replayed on the one is replayed on the other
pub record AreFramed (apart : Places) (language : Language) (script : Script) (inside : Bool) (tables others : List Table) (answers : List Answer) (after : List Table) : Type 0 where
  pub then : List Table
  pub replays : Replays language script inside others answers then
  pub agree : AgreeBut apart after then
  pub stay : Stays apart tables after
  pub others_stay : Stays apart others then

abbrev pub ReplaysAreFramed : Type 0
ReplaysAreFramed =
    (apart : Places) (language : Language) (script : Script) (inside : Bool) (tables others : List Table) (answers : List Answer) (after : List Table) → MeansByNames language
    → AgreeBut apart tables others → AreApart apart language script inside tables others answers → Replays language script inside tables answers after
    → AreFramed apart language script inside tables others answers after
