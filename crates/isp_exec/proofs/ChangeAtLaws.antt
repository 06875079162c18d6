-- A statement on a file writes its next row, or has none, or finds no room.
use Rattle.std.proofs.Common.{◌≡◌, suc, ◌+◌, ◌<◌, ◌≤◌, Bool, true, false, List, drop, length, Option, Some, None, refl, sym, ap, subst, arith}
use Rattle.std.specs.Prelude.{IfSome, nat_lt}
use Rattle.std.specs.Option.{option_map}
use Rattle.std.proofs.lemmas.Bool.Decides.{nat_tests}
use Rattle.isp_catalog.specs.declared.table.TableDef.{TableDef}
use Rattle.isp_changes.specs.Changes.{RowChange}
use Rattle.isp_image.specs.Databases.{Database}
use Rattle.isp_page.specs.declared.pages.Pages.{Ghosts}
use Rattle.isp_plain.specs.declared.refusal.Refusal.TheVariants.{FileFull}
use Rattle.isp_plain.specs.declared.value.Row.{Row}
use Rattle.isp_trx.specs.Transactions.{TrxState}
use Rattle.isp_work.specs.Works.{IsChangeOf, change_by, changed_by, failed_by, is_delete, next_change, passed, rows_left, rows_named, went_on}
use Rattle.isp_work.specs.declared.found.Changed.{Changed}
use Rattle.isp_work.specs.declared.found.Changed.TheVariants as changed
use Rattle.isp_work.specs.declared.phase.Phase.TheVariants.{Changing}
use Rattle.isp_work.specs.declared.progress.Progress.{Progress}
use Rattle.isp_work.proofs.StageLaws.{Behind, behind, behind_at, none_there}
use Rattle.isp_tables.specs.Opened.{IsWritable}
use Rattle.isp_exec.specs.Standing.{AreWritable, IsAt}
use Rattle.isp_exec.specs.Changing.{ChangeNotes, ChangesOrFull, IsNextWritable}
use Rattle.isp_exec.specs.Events.{event_by, refusal_of_change}
use Rattle.isp_exec.proofs.AtLaws.{Comes, done_at, full_at, over_at}
use Rattle.isp_exec.proofs.RowLaws.{first_writable}

-- ---- the next row, whatever became of it

pub next_writable : (work : Progress) (d : Database) → AreWritable (is_delete work.statement) work.place (rows_left work) d → IsNextWritable work d
next_writable work d writable = by (nat_lt work.next (length (rows_named work.statement work.rows))) refl
  where
    by : (b : Bool) → nat_lt work.next (length (rows_named work.statement work.rows)) ≡ b → IsNextWritable work d
    by true less =
        let b = behind (rows_named work.statement work.rows) work.next less in
        subst (λ (o : Option Row). IfSome o (λ row. IsWritable (is_delete work.statement) work.place row d)) (sym b.is_there)
        (first_writable (is_delete work.statement) work.place b.item (drop (suc work.next) (rows_named work.statement work.rows)) d
        (subst (λ (l : List Row). AreWritable (is_delete work.statement) work.place l d) b.rest writable))
    by false over = subst (λ (o : Option Row). IfSome o (λ row. IsWritable (is_delete work.statement) work.place row d)) (sym (none_there (rows_named work.statement work.rows) work.next over)) tt

never_over : ◌≡◌ {A = Changed} changed.Full changed.Over → ⊥
never_over is = cc

module _ {S : Type 0} (g : Ghosts S) (old new : S) (defs : List TableDef) (trx trx_now : TrxState) (start : Database) (work : Progress) (at : IsAt g old defs trx start work)
    (pages : (g.shape new).pages ≡ (g.shape old).pages) (phase : work.phase ≡ Changing) where
  none_is : nat_lt work.next (length (rows_named work.statement work.rows)) ≡ false → next_change work ≡ None
  none_is over = ap (option_map (change_by (is_delete work.statement) work.place)) (none_there (rows_named work.statement work.rows) work.next over)

  some_is : (b : Behind (rows_named work.statement work.rows) work.next) → next_change work ≡ Some (change_by (is_delete work.statement) work.place b.item)
  some_is b = ap (option_map (change_by (is_delete work.statement) work.place)) b.is_there

  over_now : length (rows_named work.statement work.rows) ≤ work.next → ChangesOrFull g new defs trx_now (next_change work) at.db changed.Over → Comes g at new defs trx_now (went_on work) (event_by (refusal_of_change changed.Over))
  over_now most did =
      let over : nat_lt work.next (length (rows_named work.statement work.rows)) ≡ false = grind (arith, nat_tests, most) in
      let none = subst (λ (o : Option RowChange). ChangesOrFull g new defs trx_now o at.db changed.Over) (none_is over) did in
      over_at g old new defs trx trx_now start work at pages phase over none.0

  done_now : work.next < length (rows_named work.statement work.rows) → ChangesOrFull g new defs trx_now (next_change work) at.db changed.Done → Comes g at new defs trx_now (passed work) (event_by (refusal_of_change changed.Done))
  done_now less did =
      let b = behind_at (rows_named work.statement work.rows) work.next less in
      done_at g old new defs trx trx_now start work at pages phase b (subst (λ (o : Option RowChange). ChangesOrFull g new defs trx_now o at.db changed.Done) (some_is b) did)

  full_now : trx_now.count ≡ trx.count + 0 → ChangesOrFull g new defs trx_now (next_change work) at.db changed.Full → Comes g at new defs trx_now (failed_by work FileFull trx_now.count) (event_by (refusal_of_change changed.Full))
  full_now notes did = by (nat_lt work.next (length (rows_named work.statement work.rows))) refl
    where
      same : trx_now.count ≡ trx.count
      same = omega (arith, notes)

      by : (b : Bool) → nat_lt work.next (length (rows_named work.statement work.rows)) ≡ b → Comes g at new defs trx_now (failed_by work FileFull trx_now.count) (event_by (refusal_of_change changed.Full))
      by true less =
          let b = behind (rows_named work.statement work.rows) work.next less in
          let full = subst (λ (o : Option RowChange). ChangesOrFull g new defs trx_now o at.db changed.Full) (some_is b) did in
          full_at g old new defs trx trx_now start work at pages phase b trx_now.count same full.0 full.1
      by false over =
          let none = subst (λ (o : Option RowChange). ChangesOrFull g new defs trx_now o at.db changed.Full) (none_is over) did in
          absurd (never_over none.1)

  pub changed_at : (done : Changed) → IsChangeOf work done → ChangeNotes trx trx_now done → ChangesOrFull g new defs trx_now (next_change work) at.db done → Comes g at new defs trx_now (changed_by work done trx_now.count) (event_by (refusal_of_change done))
  changed_at changed.Over is notes did = over_now is did
  changed_at changed.Done is notes did = done_now is did
  changed_at changed.Full is notes did = full_now notes did
