-- What stays of a store of pages where tables are read and changed, whatever is done to them; at a bound `P: Pages`.
use Rattle.std.specs.Prelude.{◌≡◌, ◌<◌, ℕ, Bool, true, false, All, List, Result, ⊤}
use Rattle.isp_page.specs.Steps.{FailsOnPages, FailsOrLacks, KeepsBy, LeavesAlone}
use Rattle.isp_page.specs.declared.fault.Fault.{Fault}
use Rattle.isp_page.specs.declared.fault.Fault.TheVariants.{Memory, Store}
use Rattle.isp_page.specs.declared.fault.StoreFault.{StoreFault}
use Rattle.isp_page.specs.declared.pages.Pages.{Ghosts}
use Rattle.isp_catalog.specs.Limits.{has_key}
use Rattle.isp_catalog.specs.declared.table.TableDef.{TableDef}

-- A call that changes pages in mini-transactions, prints nothing, and keeps the file's shape. It fails by the disk where the
-- disk's count rose, by what stands in the pages, or for want of memory.
abbrev pub Keeps : {S T : Type 0} → Ghosts S → S → S → Result T Fault → Type 0
Keeps g = KeepsBy g.tells g.shape g.printed g.may_leave g.clock g.left_since g.disk_faults g.print_faults g.usable FailsOrLacks

-- the same of one that takes no memory
abbrev pub KeepsOnPages : {S T : Type 0} → Ghosts S → S → S → Result T StoreFault → Type 0
KeepsOnPages g = KeepsBy g.tells g.shape g.printed g.may_leave g.clock g.left_since g.disk_faults g.print_faults g.usable FailsOnPages

-- the store failed, and memory wasn't wanted
abbrev pub IsOfStore : Fault → Type 0
IsOfStore (Store fault) = ⊤
IsOfStore Memory = ⊥

-- a stop leaves the present contents alone, where something was made
abbrev pub IsFlushedIf : {S : Type 0} → Ghosts S → S → Bool → Type 0
IsFlushedIf g now true = LeavesAlone (g.contents now) (g.may_leave now)
IsFlushedIf g now false = Unit {0}

-- the roots of these tables are pages of a file of so many
abbrev pub AreInside : ℕ → List TableDef → Type 0
AreInside pages defs = All (λ def. def.root.0 < pages) defs

-- the first column of each holds the keys
abbrev pub AreKeyed : List TableDef → Type 0
AreKeyed defs = All (λ def. has_key def.schema.columns ≡ true) defs

-- the store can be used, no mini-transaction is begun, and it has the pages of these tables, which have keys
pub record Serves {S : Type 0} (g : Ghosts S) (now : S) (defs : List TableDef) : Type 0 where
  pub usable : g.usable now ≡ true
  pub none : (g.mini now).is_begun ≡ false
  pub inside : AreInside (g.shape now).pages defs
  pub keyed : AreKeyed defs
