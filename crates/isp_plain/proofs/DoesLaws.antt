-- The reply of a statement that tables answer is their own, unless the statement is a refusal that isn't.
use Rattle.std.proofs.Common.{◌≡◌, ℕ, ℤ, Bool, true, false, List, refl, Option, Some, None, if◌then◌else◌}
use Rattle.std.specs.Prelude.{slice_get}
use Rattle.std.specs.List.{list_any}
use Rattle.std.specs.Map.{values_of}
use Rattle.isp_plain.specs.declared.refusal.Refusal.TheVariants.{DuplicateKey, NoSuchTable, RowTooLarge}
use Rattle.isp_plain.specs.declared.value.Row.{Row}
use Rattle.isp_plain.specs.declared.statement.Assign.{Assign}
use Rattle.isp_plain.specs.declared.statement.Condition.{Condition}
use Rattle.isp_plain.specs.declared.statement.Reply.{Reply}
use Rattle.isp_plain.specs.declared.statement.Reply.TheVariants as reply
use Rattle.isp_plain.specs.declared.statement.Statement.{Statement}
use Rattle.isp_plain.specs.declared.statement.Statement.TheVariants.{Create, Insert, Select, Update, Delete, Begin, Commit, Rollback, Refused}
use Rattle.isp_plain.specs.Does.{Change, does, place_of, changed_in, changed_at, insert, insert_or, update, delete, outgrows, select_reply, table_named}
use Rattle.isp_plain.specs.Entries.{first_duplicate}
use Rattle.isp_plain.specs.Refusals.{is_own}
use Rattle.isp_plain.specs.Tables.{Table}

-- a reply that tables give, not a full file, a deadlock or the end of a session
abbrev pub IsOwn : Reply → Type 0
IsOwn reply.Ok = Unit {0}
IsOwn (reply.Count n) = Unit {0}
IsOwn (reply.Rows rows) = Unit {0}
IsOwn (reply.Err refusal) = is_own refusal ≡ true
IsOwn reply.End = ⊥

-- where the statement is a refusal, it is none of a full file or a deadlock
abbrev pub RefusesOwn : Statement → Type 0
RefusesOwn (Refused refusal) = is_own refusal ≡ true
RefusesOwn _ = Unit {0}

module _ (P : Reply → Type 0) (missing : P (reply.Err NoSuchTable)) (duplicate : (key : ℤ) → P (reply.Err (DuplicateKey key))) (large : P (reply.Err RowTooLarge))
    (counted : (n : ℕ) → P (reply.Count n)) where
  insert_gives : (rows : List Row) (table : Table) (found : Option ℤ) → P (insert_or rows table found).reply
  insert_gives rows table None = counted _
  insert_gives rows table (Some key) = duplicate key

  update_gives : (first other : Change) (b : Bool) → P first.reply → P other.reply → P (if b then first else other).reply
  update_gives first other true is later = is
  update_gives first other false is later = later

  at_gives : (tables : List Table) (place : ℕ) (change : Table → Change) → ((table : Table) → P (change table).reply) → (table : Option Table) → P (changed_at tables place change table).reply
  at_gives tables place change each None = missing
  at_gives tables place change each (Some table) = each table

  in_gives : (tables : List Table) (change : Table → Change) → ((table : Table) → P (change table).reply) → (place : Option ℕ) → P (changed_in tables place change).reply
  in_gives tables change each None = missing
  in_gives tables change each (Some place) = at_gives tables place change each (slice_get tables place)

  -- what holds of each reply that a table gives holds of the answer to a statement that changes one
  pub inserts : (tables : List Table) (name : List ℕ) (rows : List Row) → P (does tables (Insert name rows)).reply
  inserts tables name rows = in_gives tables (insert rows) (λ table. insert_gives rows table (first_duplicate table.rows rows)) (place_of tables name)

  pub updates : (tables : List Table) (name : List ℕ) (sets : List Assign) (condition : Condition) → P (does tables (Update name sets condition)).reply
  updates tables name sets condition =
      in_gives tables (update sets condition) (λ table. update_gives _ _ (list_any (outgrows table.schema sets condition) (values_of table.rows)) large (counted _)) (place_of tables name)

  pub deletes : (tables : List Table) (name : List ℕ) (condition : Condition) → P (does tables (Delete name condition)).reply
  deletes tables name condition = in_gives tables (delete condition) (λ table. counted _) (place_of tables name)

select_own : (table : Option Table) (columns : List ℕ) (condition : Condition) → IsOwn (select_reply table columns condition)
select_own None columns condition = refl
select_own (Some table) columns condition = tt

pub does_own : (tables : List Table) (statement : Statement) → RefusesOwn statement → IsOwn (does tables statement).reply
does_own tables (Create name schema) own = tt
does_own tables (Insert name rows) own = inserts IsOwn refl (λ key. refl) refl (λ n. tt) tables name rows
does_own tables (Select name columns condition) own = select_own (table_named tables name) columns condition
does_own tables (Update name sets condition) own = updates IsOwn refl (λ key. refl) refl (λ n. tt) tables name sets condition
does_own tables (Delete name condition) own = deletes IsOwn refl (λ key. refl) refl (λ n. tt) tables name condition
does_own tables Begin own = tt
does_own tables Commit own = tt
does_own tables Rollback own = tt
does_own tables (Refused refusal) own = own
