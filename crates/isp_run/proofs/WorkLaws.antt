-- The work on an open file, from what its calls say.
use Rattle.std.proofs.Common.{◌≡◌, ◌∙◌, ℕ, ap, sym, refl, subst, List, ◌++◌, length, Result, Ok, Err, arith}
use Rattle.std.specs.Prelude.{IfErr, OnErr, OnOk}
use Rattle.std.proofs.lemmas.List.{take_all}
use Rattle.isp_disk.specs.Outside.{PrintsPart, Rose}
use Rattle.isp_disk.specs.declared.world.World.{Ghosts}
use Rattle.isp_format.specs.Ranges.{Contents}
use Rattle.isp_image.specs.Databases.{Database}
use Rattle.isp_image.specs.Faults.{NamesLaterOrLacks}
use Rattle.isp_image.proofs.FaultLaws.{later_none}
use Rattle.isp_page.specs.State.{FileShape}
use Rattle.isp_page.specs.Steps.{FailsOnPages, IsNoDamage, IsNoDamageOrLacks}
use Rattle.isp_page.specs.declared.fault.Fault.{Fault}
use Rattle.isp_page.specs.declared.fault.Fault.TheVariants.{Memory, Store}
use Rattle.isp_page.specs.declared.fault.StoreFault.{StoreFault}
use Rattle.isp_page.specs.declared.fault.StoreFault.TheVariants.{Damaged, Disk, Print}
use Rattle.isp_serial.specs.Alone.{IsAlone}
use Rattle.isp_serial.specs.declared.script.Script.{Script}
use Rattle.isp_sessions.specs.Plays.{IsAtRest, IsSmall, Played, PlayedPart, SameCounts, StaysPlaying, StopsBy, lines_of}
use Rattle.isp_sessions.proofs.ExitLaws.{if_err, on_err, on_ok}
use Rattle.isp_store.specs.Calls.{FlushesWhole, IsAllInPlace}
use Rattle.isp_store.specs.State.{StoreState, contents, shape, store}
use Rattle.isp_run.specs.Causes.{CountsAt}
use Rattle.isp_run.specs.Files.{IsFullyPlaced, IsNotDamaged, IsWorkStatus, NamesLaterRule, status_of}
use Rattle.isp_run.specs.Working.{HasWorked}
use Rattle.isp_run.specs.declared.status.Status.{Status}
use Rattle.isp_run.specs.declared.status.Status.TheVariants as status
use Rattle.isp_run.proofs.PlaceLaws.{in_place}

-- the status of a fault
pub work_status : (fault : Fault) → IsWorkStatus (status_of fault)
work_status Memory = tt
work_status (Store Disk) = tt
work_status (Store Print) = tt
work_status (Store (Damaged page rule)) = tt

sound_status : (fault : Fault) → IsNoDamageOrLacks fault → IsNotDamaged (status_of fault)
sound_status Memory is = tt
sound_status (Store Disk) is = tt
sound_status (Store Print) is = tt
sound_status (Store (Damaged page rule)) is = absurd is

later_status : (fault : Fault) → NamesLaterOrLacks fault → NamesLaterRule (status_of fault)
later_status Memory is = tt
later_status (Store Disk) is = tt
later_status (Store Print) is = tt
later_status (Store (Damaged page rule)) is = is

pub not_done : (P : Type 0) (fault : Fault) → status_of fault ≡ status.Done → P
not_done P Memory is = let no : ⊥ = cc in absurd no
not_done P (Store Disk) is = let no : ⊥ = cc in absurd no
not_done P (Store Print) is = let no : ⊥ = cc in absurd no
not_done P (Store (Damaged page rule)) is = let no : ⊥ = cc in absurd no

pub steady : (fault now : Status) (before : ℕ) (after : ℕ) → (now ≡ fault → ⊥) → after ≡ before → CountsAt fault now before after
steady fault now before after other same = record { rose = λ is. absurd (other is); stays = λ not. same }

pub rises : (fault now : Status) (before : ℕ) (after : ℕ) → now ≡ fault → Rose before after → CountsAt fault now before after
rises fault now before after is rose = record { rose = λ same. rose; stays = λ not. absurd (not is) }

-- a whole piece that was printed
whole_part : (before piece now : List ℕ) → now ≡ before ++ piece → PrintsPart before piece now
whole_part before piece now told = record {
  count = length piece;
  within = omega arith;
  printed = told ∙ ap (λ xs. before ++ xs) (sym (take_all (length piece) piece (omega arith)));
}

-- a script that was run to its end has printed its lines, and what filled the file stands on the way
part_of : (pages : ℕ) (script : Script) (d : Database) (new : Contents) (before now : List ℕ) → Played pages script d new before now → PlayedPart pages script d before now
part_of pages script d new before now played = record {
  full = played.full;
  part = whole_part before (lines_of played.full script d) now played.printed;
  was_full = λ session number is. let fills = played.was_full session number is in record { at = fills.at; before = fills.before; full = fills.full };
}

module _ {W : Type 0} (g : Ghosts W) where
  disk_counts : (old new : StoreState W) (fault : Fault) → StopsBy (store g) old new fault
      → CountsAt status.DiskFault (status_of fault) (g.disk_faults old.stable.world) (g.disk_faults new.stable.world)
  disk_counts old new Memory by = steady status.DiskFault status.OutOfMemory (g.disk_faults old.stable.world) (g.disk_faults new.stable.world) (λ is. cc) by.disk
  disk_counts old new (Store Disk) by = rises status.DiskFault status.DiskFault (g.disk_faults old.stable.world) (g.disk_faults new.stable.world) refl by.0
  disk_counts old new (Store Print) by = steady status.DiskFault status.PrintFault (g.disk_faults old.stable.world) (g.disk_faults new.stable.world) (λ is. cc) by.1
  disk_counts old new (Store (Damaged page rule)) by = steady status.DiskFault (status.Damaged page rule) (g.disk_faults old.stable.world) (g.disk_faults new.stable.world) (λ is. cc) by.disk

  print_counts : (old new : StoreState W) (fault : Fault) → StopsBy (store g) old new fault
      → CountsAt status.PrintFault (status_of fault) (g.print_faults old.stable.world) (g.print_faults new.stable.world)
  print_counts old new Memory by = steady status.PrintFault status.OutOfMemory (g.print_faults old.stable.world) (g.print_faults new.stable.world) (λ is. cc) by.printer
  print_counts old new (Store Disk) by = steady status.PrintFault status.DiskFault (g.print_faults old.stable.world) (g.print_faults new.stable.world) (λ is. cc) by.1
  print_counts old new (Store Print) by = rises status.PrintFault status.PrintFault (g.print_faults old.stable.world) (g.print_faults new.stable.world) refl by.0
  print_counts old new (Store (Damaged page rule)) by = steady status.PrintFault (status.Damaged page rule) (g.print_faults old.stable.world) (g.print_faults new.stable.world) (λ is. cc) by.printer

  module _ (script : Script) (small : IsSmall script) where
    -- the script wasn't played to its end
    pub play_stops : (old new : StoreState W) (played : Result (Unit {0}) Fault) (fault : Fault) → played ≡ Err fault → (end : Status) → end ≡ status_of fault → StaysPlaying (store g) old new played
        → (g.tells → IsAlone script.sessions → (d : Database) → IsAtRest (shape g old).pages (contents g old) d → OnErr played (PlayedPart (shape g old).pages script d (g.printed old.stable.world) (g.printed new.stable.world)))
        → (g.tells → (d : Database) → IsAtRest (shape g old).pages (contents g old) d → IfErr played IsNoDamageOrLacks) → IfErr played NamesLaterOrLacks
        → HasWorked g script old.stable.world (contents g old) (shape g old) end new.stable.world
    play_stops old new played fault is end ends stays part sound later =
        let cause : StopsBy (store g) old new fault = if_err (StopsBy (store g) old new) played fault is stays.cause in
        subst (λ (e : Status). HasWorked g script old.stable.world (contents g old) (shape g old) e new.stable.world) (sym ends) (record {
          statuses = work_status fault;
          small = small;
          done = λ tells alone is. not_done _ fault is;
          part = λ tells alone d rests. on_err _ played fault is (part tells alone d rests);
          sound = λ tells d rests. sound_status fault (if_err IsNoDamageOrLacks played fault is (sound tells d rests));
          later = later_status fault (if_err NamesLaterOrLacks played fault is later);
          tidy = λ tells is. not_done _ fault is;
          disk = disk_counts old new fault cause;
          printer = print_counts old new fault cause;
        })

    -- it was, and the pages are in their places
    pub all_done : (old mid new : StoreState W) (played : Result (Unit {0}) Fault) (x : Unit {0}) → played ≡ Ok x → StaysPlaying (store g) old mid played
        → (g.tells → IsAlone script.sessions → (d : Database) → IsAtRest (shape g old).pages (contents g old) d → OnOk played (Played (shape g old).pages script d (contents g mid) (g.printed old.stable.world) (g.printed mid.stable.world)))
        → (let went : Result (Unit {0}) StoreFault = Ok tt in FlushesWhole g mid new went) → (g.tells → contents g new ≡ contents g mid) → IsAllInPlace g new
        → HasWorked g script old.stable.world (contents g old) (shape g old) status.Done new.stable.world
    all_done old mid new result x is stays played flushed same placed =
        let keeps = flushed.along.steps.keeps in
        let counts : SameCounts (store g) old mid = on_ok _ result x is stays.counts in
        record {
          statuses = tt;
          small = small;
          done = λ tells alone is d rests. record {
            contents = contents g new;
            played = played_now tells alone d rests;
            placed = subst (λ (s : FileShape). IsFullyPlaced s (g.image new.stable.world) (contents g new)) (keeps.same_shape ∙ stays.shape) (in_place g new tells placed);
          };
          part = λ tells alone d rests. part_of (shape g old).pages script d (contents g new) (g.printed old.stable.world) (g.printed new.stable.world) (played_now tells alone d rests);
          sound = λ tells d rests. tt;
          later = tt;
          tidy = λ tells is. (in_place g new tells placed).tidy;
          disk = steady status.DiskFault status.Done (g.disk_faults old.stable.world) (g.disk_faults new.stable.world) (λ is. cc) (keeps.goes_on.steady ∙ counts.disk);
          printer = steady status.PrintFault status.Done (g.print_faults old.stable.world) (g.print_faults new.stable.world) (λ is. cc) (keeps.printer ∙ counts.printer);
        }
      where
        played_now : g.tells → IsAlone script.sessions → (d : Database) → IsAtRest (shape g old).pages (contents g old) d → Played (shape g old).pages script d (contents g new) (g.printed old.stable.world) (g.printed new.stable.world)
        played_now tells alone d rests =
            subst (λ (c : Contents). Played (shape g old).pages script d c (g.printed old.stable.world) (g.printed new.stable.world)) (sym (same tells))
            (subst (λ (now : List ℕ). Played (shape g old).pages script d (contents g mid) (g.printed old.stable.world) now) (sym flushed.along.steps.keeps.silent) (on_ok _ result x is (played tells alone d rests)))

    -- it was, and the pages weren't put in their places
    pub placing_stops : (old mid new : StoreState W) (played : Result (Unit {0}) Fault) (x : Unit {0}) → played ≡ Ok x → (fault : StoreFault) (end : Status) → end ≡ status_of (Store fault) → StaysPlaying (store g) old mid played
        → (g.tells → IsAlone script.sessions → (d : Database) → IsAtRest (shape g old).pages (contents g old) d → OnOk played (Played (shape g old).pages script d (contents g mid) (g.printed old.stable.world) (g.printed mid.stable.world)))
        → (let failed : Result (Unit {0}) StoreFault = Err fault in FlushesWhole g mid new failed) → IsNoDamage fault
        → HasWorked g script old.stable.world (contents g old) (shape g old) end new.stable.world
    placing_stops old mid new result x is fault end ends stays played flushed sound =
        let keeps = flushed.along.steps.keeps in
        subst (λ (e : Status). HasWorked g script old.stable.world (contents g old) (shape g old) e new.stable.world) (sym ends) (record {
          statuses = work_status (Store fault);
          small = small;
          done = λ tells alone is. not_done _ (Store fault) is;
          part = λ tells alone d rests. subst (λ (now : List ℕ). PlayedPart (shape g old).pages script d (g.printed old.stable.world) now) (sym keeps.silent)
              (part_of (shape g old).pages script d (contents g mid) (g.printed old.stable.world) (g.printed mid.stable.world) (on_ok _ result x is (played tells alone d rests)));
          sound = λ tells d rests. sound_status (Store fault) (by fault sound);
          later = later_status (Store fault) (later_none fault sound);
          tidy = λ tells is. not_done _ (Store fault) is;
          disk = (counts fault keeps.cause).0;
          printer = (counts fault keeps.cause).1;
        })
      where
        by : (f : StoreFault) → IsNoDamage f → IsNoDamageOrLacks (Store f)
        by Disk is = tt
        by Print is = tt
        by (Damaged page rule) is = absurd is

        same : SameCounts (store g) old mid
        same = on_ok _ result x is stays.counts

        printer_same : g.print_faults new.stable.world ≡ g.print_faults old.stable.world
        printer_same = flushed.along.steps.keeps.printer ∙ same.printer

        disk_now : (n : ℕ) → n ≡ g.disk_faults mid.stable.world → n ≡ g.disk_faults old.stable.world
        disk_now n at = at ∙ same.disk

        counts : (f : StoreFault) → FailsOnPages (g.disk_faults mid.stable.world) (g.disk_faults new.stable.world) new.is_usable f
            → CountsAt status.DiskFault (status_of (Store f)) (g.disk_faults old.stable.world) (g.disk_faults new.stable.world)
            × CountsAt status.PrintFault (status_of (Store f)) (g.print_faults old.stable.world) (g.print_faults new.stable.world)
        counts Disk rose = (
          rises status.DiskFault status.DiskFault (g.disk_faults old.stable.world) (g.disk_faults new.stable.world) refl (subst (λ n. Rose n (g.disk_faults new.stable.world)) same.disk rose),
          steady status.PrintFault status.DiskFault (g.print_faults old.stable.world) (g.print_faults new.stable.world) (λ is. cc) printer_same,
        )
        counts Print never = absurd never
        counts (Damaged page rule) goes = (
          steady status.DiskFault (status.Damaged page rule) (g.disk_faults old.stable.world) (g.disk_faults new.stable.world) (λ is. cc) (disk_now (g.disk_faults new.stable.world) goes.steady),
          steady status.PrintFault (status.Damaged page rule) (g.print_faults old.stable.world) (g.print_faults new.stable.world) (λ is. cc) printer_same,
        )
