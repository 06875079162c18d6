-- What a statement reads and writes fits the columns of its table, from its beginning on and after each step.
use Rattle.std.proofs.Common.{◌≡◌, ℕ, ◌+◌, Bool, true, false, cond, List, length, slice_get, Some, None, refl, sym, ◌∙◌, ap, if◌then◌else◌}
use Rattle.std.specs.Prelude.{nat_lt}
use Rattle.std.specs.List.{position_or_len}
use Rattle.std.specs.Str.{bytes_eq}
use Rattle.isp_catalog.specs.declared.table.TableDef.{TableDef}
use Rattle.isp_changes.specs.Stages.{is_insert}
use Rattle.isp_plain.specs.declared.refusal.Refusal.{Refusal}
use Rattle.isp_plain.specs.declared.statement.Reply.TheVariants as reply
use Rattle.isp_plain.specs.declared.statement.Statement.{Statement}
use Rattle.isp_plain.specs.declared.statement.Statement.TheVariants.{Create, Insert, Select, Update, Delete, Begin, Commit, Rollback, Refused}
use Rattle.isp_work.specs.Works.{answered, failed_by, first_of, is_delete, looked_by, passed, rows_named, went_on}
use Rattle.isp_work.specs.declared.found.Looked.{Looked}
use Rattle.isp_work.specs.declared.found.Looked.TheVariants as looked
use Rattle.isp_work.specs.declared.phase.Phase.TheVariants.{Undoing}
use Rattle.isp_work.specs.declared.progress.Progress.{Progress}
use Rattle.isp_work.proofs.StageLaws.{behind}
use Rattle.isp_exec.specs.Standing.{IsChanging, IsFit, IsFitIn, IsLooking}
use Rattle.isp_tables.specs.TableLists.{place_in}

-- ---- after a turn

pub failed_fit : (pages : ℕ) (defs : List TableDef) (work : Progress) (refusal : Refusal) (noted : ℕ) → IsFit pages defs (failed_by work refusal noted)
failed_fit pages defs work refusal noted = by (nat_lt work.base noted)
  where
    by : (b : Bool) → IsFit pages defs (if b then record work { phase = Undoing refusal } else answered work (reply.Err refusal))
    by true = tt
    by false = tt

inserts_not : (s : Statement) → is_insert s ≡ true → is_delete s ≡ false
inserts_not (Create name schema) is = cc
inserts_not (Insert name rows) is = refl
inserts_not (Select name columns w) is = cc
inserts_not (Update name sets w) is = cc
inserts_not (Delete name w) is = cc
inserts_not Begin is = cc
inserts_not Commit is = cc
inserts_not Rollback is = cc
inserts_not (Refused refusal) is = cc

pub went_fit : (pages : ℕ) (defs : List TableDef) (work : Progress) → IsChanging defs work → IsFit pages defs (went_on work)
went_fit pages defs work is = by (nat_lt work.next (length (rows_named work.statement work.rows)))
  where
    first : (inserts : Bool) → is_insert work.statement ≡ inserts → IsFitIn pages defs (record work { phase = first_of inserts }) (first_of inserts)
    first true inserts = record { def = is.def; is_there = is.is_there; inserts = inserts; rows = is.rows (inserts_not work.statement inserts) }
    first false inserts = record { def = is.def; is_there = is.is_there; rows = is.rows }

    by : (b : Bool) → IsFit pages defs (if b then record work { phase = first_of (is_insert work.statement) } else answered work (reply.Count work.next))
    by true = first (is_insert work.statement) refl
    by false = tt

pub looked_fit : (pages : ℕ) (defs : List TableDef) (work : Progress) (l : Looked) (noted : ℕ) → IsLooking defs work → IsFit pages defs (looked_by work l noted)
looked_fit pages defs work looked.Over noted is = went_fit pages defs work (record { def = is.def; is_there = is.is_there; rows = λ _. is.rows })
looked_fit pages defs work looked.Free noted is = record { def = is.def; is_there = is.is_there; rows = λ _. is.rows }
looked_fit pages defs work (looked.Taken refusal) noted is = failed_fit pages defs work refusal noted

pub passed_fit : (pages : ℕ) (defs : List TableDef) (work : Progress) → IsChanging defs work → IsFit pages defs (passed work)
passed_fit pages defs work is = went_fit pages defs (record work { next = work.next + 1 }) (record { def = is.def; is_there = is.is_there; rows = is.rows })

-- ---- at the beginning

some_number : (a b : ℕ) → Some a ≡ Some b → a ≡ b
some_number a b is = cc

none_number : (b : ℕ) → None ≡ Some b → ⊥
none_number b is = cc

inside_by : (k all n : ℕ) (b : Bool) → nat_lt k all ≡ b → cond b (Some k) None ≡ Some n → nat_lt n all ≡ true
inside_by k all n true less is = ap (λ (m : ℕ). nat_lt m all) (sym (some_number k n is)) ∙ less
inside_by k all n false less is = absurd (none_number n is)

-- a table that has a name is there
pub def_there : (defs : List TableDef) (name : List ℕ) (place : ℕ) → place_in defs name ≡ Some place → (def : TableDef) × (slice_get defs place ≡ Some def)
def_there defs name place is =
    let first = position_or_len (λ (def : TableDef). bytes_eq def.name name) defs in
    let b = behind defs place (inside_by first (length defs) place (nat_lt first (length defs)) refl is) in
    (b.item, b.is_there)
