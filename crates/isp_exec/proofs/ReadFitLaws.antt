-- A piece that is read leaves fewer steps, and rows that fit the columns of their table.
use Rattle.std.proofs.Common.{◌≡◌, ℕ, ◌+◌, ◌-◌, ◌*◌, ◌^◌, ◌<◌, ◌≤◌, Bool, true, false, List, [], ◌++◌, Option, Some, None, refl, sym, subst, arith, if◌then◌else◌}
use Rattle.std.specs.Prelude.{IfSome}
use Rattle.std.specs.List.{AllByRecursion}
use Rattle.isp_base.specs.declared.page_no.PageNo.{PageNo}
use Rattle.isp_catalog.specs.declared.table.TableDef.{TableDef}
use Rattle.isp_changes.specs.Stages.{is_insert}
use Rattle.isp_plain.specs.declared.refusal.Refusal.TheVariants.{RowTooLarge}
use Rattle.isp_plain.specs.declared.statement.Reply.TheVariants as reply
use Rattle.isp_plain.specs.declared.statement.Statement.{Statement}
use Rattle.isp_plain.specs.declared.statement.Statement.TheVariants.{Create, Insert, Select, Update, Delete, Begin, Commit, Rollback, Refused}
use Rattle.isp_plain.specs.declared.value.Row.{Row}
use Rattle.isp_scan.specs.Readings.{AreFoundFor, IsPutRow, SetsFitIn}
use Rattle.isp_scan.proofs.RowLaws.{found_both}
use Rattle.isp_tables.specs.TableLists.{place_in}
use Rattle.isp_work.specs.Finding.{reads}
use Rattle.isp_work.specs.Starting.{start_at, start_of}
use Rattle.isp_work.specs.Works.{IsSmall, TakesSmall, answered, is_delete, is_select, read_out, rows_named, started, took, went_on}
use Rattle.isp_work.specs.declared.found.Found.{Found}
use Rattle.isp_work.specs.declared.found.Found.TheVariants as found
use Rattle.isp_work.specs.declared.phase.Phase.TheVariants.{Reading}
use Rattle.isp_work.specs.declared.progress.Progress.{Progress}
use Rattle.isp_exec.specs.Standing.{IsFit, IsFitIn, IsReading, height}
use Rattle.isp_exec.specs.Starting.{OfNamed, Suits, place_by}
use Rattle.isp_exec.proofs.FitLaws.{def_there, failed_fit, went_fit}
use Rattle.isp_exec.proofs.HeightLaws.{dropped_most, failed_height, height_at, went_height}

-- ---- fewer steps are left

out_height : (work : Progress) (noted : ℕ) → IsSmall work → height (read_out work) noted ≤ 3 * 2 ^ 64 + (noted - work.base) + 3
out_height work noted small = by (is_select work.statement)
  where
    by : (b : Bool) → height (if b then answered (record work { rows = [] }) (reply.Rows work.rows) else went_on work) noted ≤ 3 * 2 ^ 64 + (noted - work.base) + 3
    by true = omega arith
    by false =
        let most = went_height work noted in
        let left = dropped_most (rows_named work.statement work.rows) work.next in omega (arith, small, most, left)

pub took_falls : (work : Progress) (f : Found) (next : Option PageNo) (noted : ℕ) → work.phase ≡ Reading → IfSome next (λ page. 1 ≤ work.budget) → TakesSmall work f next → height (took work f next noted) noted < height work noted
took_falls work (found.Rows rows) (Some page) noted phase some small =
    let now : Progress = record work { rows = work.rows ++ rows; after = Some page; budget = work.budget - 1 } in
    let had = height_at work noted Reading phase in
    let is = height_at now noted Reading phase in omega (arith, had, is, some)
took_falls work (found.Rows rows) None noted phase some small =
    let had = height_at work noted Reading phase in
    let is = out_height (record work { rows = work.rows ++ rows }) noted small in omega (arith, had, is)
took_falls work found.TooLarge next noted phase some small =
    let had = height_at work noted Reading phase in
    let now = failed_height work RowTooLarge noted in omega (arith, had, now)

-- ---- what it keeps fits

-- the rows that were found can be written
found_rows : (s : Statement) (def : TableDef) (rows : List Row) → reads s ≡ true → is_select s ≡ false → AreFoundFor def.schema s (found.Rows rows) → is_delete s ≡ false → AllByRecursion (IsPutRow def.schema) (rows_named s rows)
found_rows (Create name schema) def rows is not new other = cc
found_rows (Insert name others) def rows is not new other = cc
found_rows (Select name columns w) def rows is not new other = cc
found_rows (Update name sets w) def rows is not new other = new
found_rows (Delete name w) def rows is not new other = cc
found_rows Begin def rows is not new other = cc
found_rows Commit def rows is not new other = cc
found_rows Rollback def rows is not new other = cc
found_rows (Refused refusal) def rows is not new other = cc

out_fit : (pages : ℕ) (defs : List TableDef) (work : Progress) → IsReading pages defs work → IsFit pages defs (read_out work)
out_fit pages defs work is = by (is_select work.statement) refl
  where
    by : (b : Bool) → is_select work.statement ≡ b → IsFit pages defs (if b then answered (record work { rows = [] }) (reply.Rows work.rows) else went_on work)
    by true not = tt
    by false not = went_fit pages defs work (record { def = is.def; is_there = is.is_there; rows = found_rows work.statement is.def work.rows is.reads_rows not is.rows })

pub took_fit : (pages : ℕ) (defs : List TableDef) (work : Progress) (f : Found) (next : Option PageNo) (noted : ℕ) (is : IsReading pages defs work) → work.phase ≡ Reading → AreFoundFor is.def.schema work.statement f
    → IfSome next (λ page. page.0 < pages) → IsFit pages defs (took work f next noted)
took_fit pages defs work (found.Rows rows) next noted is phase new inside = by next inside
  where
    both : AreFoundFor is.def.schema work.statement (found.Rows (work.rows ++ rows))
    both = found_both is.def.schema work.statement work.rows rows is.rows new

    by : (next : Option PageNo) → IfSome next (λ page. page.0 < pages) → IsFit pages defs (took work (found.Rows rows) next noted)
    by (Some page) inside =
        let now : Progress = record work { rows = work.rows ++ rows; after = Some page; budget = work.budget - 1 } in
        subst (IsFitIn pages defs now) (sym phase) (record { def = is.def; is_there = is.is_there; reads_rows = is.reads_rows; first = is.first; sets = is.sets; rows = both; after = inside })
    by None inside =
        out_fit pages defs (record work { rows = work.rows ++ rows })
        (record { def = is.def; is_there = is.is_there; reads_rows = is.reads_rows; first = is.first; sets = is.sets; rows = both; after = is.after })
took_fit pages defs work found.TooLarge next noted is phase new inside = failed_fit pages defs work RowTooLarge noted

-- ---- at the beginning

none_found : (s : Statement) (def : TableDef) → AreFoundFor def.schema s (found.Rows [])
none_found (Create name schema) def = tt
none_found (Insert name others) def = tt
none_found (Select name columns w) def = tt
none_found (Update name sets w) def = tt
none_found (Delete name w) def = tt
none_found Begin def = tt
none_found Commit def = tt
none_found Rollback def = tt
none_found (Refused refusal) def = tt

module _ (pages : ℕ) (defs : List TableDef) (base budget : ℕ) where
  insert_fit : (name : List ℕ) (rows : List Row) (o : Option ℕ) → place_in defs name ≡ o → OfNamed defs name (λ schema. AllByRecursion (IsPutRow schema) rows) → IsFit pages defs (start_at (Insert name rows) base budget o)
  insert_fit name rows None is suits = tt
  insert_fit name rows (Some place) is suits =
      let d = def_there defs name place is in
      went_fit pages defs (started (Insert name rows) place base budget Reading reply.Ok) (record { def = d.0; is_there = d.1; rows = λ _. suits place d.0 is d.1 })

  read_fit : (s : Statement) (name : List ℕ) (o : Option ℕ) → place_in defs name ≡ o → is_insert s ≡ false → reads s ≡ true → OfNamed defs name (λ schema. SetsFitIn schema s) → IsFit pages defs (start_at s base budget o)
  read_fit s name None is not reads_rows suits = tt
  read_fit s name (Some place) is not reads_rows suits =
      let d = def_there defs name place is in
      let work = started s place base budget Reading reply.Ok in
      let reading : IsFit pages defs work = record { def = d.0; is_there = d.1; reads_rows = reads_rows; first = refl; sets = suits place d.0 is d.1; rows = none_found s d.0; after = tt } in
      subst (λ (b : Bool). IsFit pages defs (if b then went_on work else work)) (sym not) reading

  pub start_fit : (s : Statement) → Suits defs s → IsFit pages defs (start_of s base budget (place_by defs s))
  start_fit (Create name schema) suits = suits
  start_fit (Insert name rows) suits = insert_fit name rows (place_in defs name) refl suits
  start_fit (Select name columns w) suits = read_fit (Select name columns w) name (place_in defs name) refl refl refl (λ place def named is. tt)
  start_fit (Update name sets w) suits = read_fit (Update name sets w) name (place_in defs name) refl refl refl suits
  start_fit (Delete name w) suits = read_fit (Delete name w) name (place_in defs name) refl refl refl (λ place def named is. tt)
  start_fit Begin suits = tt
  start_fit Commit suits = tt
  start_fit Rollback suits = refl
  start_fit (Refused refusal) suits = tt
