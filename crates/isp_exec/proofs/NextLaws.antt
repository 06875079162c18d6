-- The next row of a statement, where it is written, and where none is left.
use Rattle.std.proofs.Common.{◌≡◌, ℕ, zero, suc, ◌≤◌, Bool, List, [], ◌∷◌, length, slice_get, Option, Some, None, sym, subst, arith}
use Rattle.std.specs.Prelude.{Result, IfOk, IfSome}
use Rattle.std.specs.Option.{option_map}
use Rattle.isp_catalog.specs.declared.table.TableDef.{TableDef}
use Rattle.isp_image.specs.Databases.{Database}
use Rattle.isp_page.specs.declared.fault.Fault.{Fault}
use Rattle.isp_page.specs.declared.pages.Pages.{Ghosts}
use Rattle.isp_plain.specs.declared.value.Row.{Row}
use Rattle.isp_tables.specs.Opened.{IsWritable}
use Rattle.isp_trx.specs.Transactions.{TrxState}
use Rattle.isp_work.specs.Works.{change_by, is_delete, next_change, next_row}
use Rattle.isp_work.specs.declared.found.Changed.{Changed}
use Rattle.isp_work.specs.declared.progress.Progress.{Progress}
use Rattle.isp_exec.specs.Changing.{ChangesOrFull, IsNextWritable}

some_row : (a : Row) → None ≡ Some a → ⊥
some_row a is = cc

pub none_left : (rows : List Row) (n : ℕ) → None ≡ slice_get rows n → length rows ≤ n
none_left [] n is = omega arith
none_left (row ∷ rows) zero is = absurd (some_row row is)
none_left (row ∷ rows) (suc n) is = let most = none_left rows n is in omega (arith, most)

-- the statement deletes its rows, or writes them, and this is its next one
module _ (work : Progress) (row : Row) (deletes : Bool) (d : Database) (is : Some row ≡ next_row work) (kind : deletes ≡ is_delete work.statement) where
  pub row_writable : IsNextWritable work d → IsWritable deletes work.place row d
  row_writable writable =
      subst (λ (b : Bool). IsWritable b work.place row d) (sym kind)
      (subst (λ (o : Option Row). IfSome o (λ row. IsWritable (is_delete work.statement) work.place row d)) (sym is) writable)

  pub row_changed : {S : Type 0} (g : Ghosts S) (now : S) (defs : List TableDef) (trx : TrxState) (result : Result Changed Fault)
      → IfOk result (ChangesOrFull g now defs trx (Some (change_by deletes work.place row)) d) → IfOk result (ChangesOrFull g now defs trx (next_change work) d)
  row_changed g now defs trx result did =
      subst (λ (o : Option Row). IfOk result (ChangesOrFull g now defs trx (option_map (change_by (is_delete work.statement) work.place) o) d)) is
      (subst (λ (b : Bool). IfOk result (ChangesOrFull g now defs trx (Some (change_by b work.place row)) d)) kind did)
