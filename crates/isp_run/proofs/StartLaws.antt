-- A script run on a file that was opened, or wasn't.
use Rattle.std.proofs.Common.{◌≡◌, inl, inr, ℕ, zero, suc, ap, refl, subst, List}
use Rattle.isp_disk.specs.Moments.{Image}
use Rattle.isp_disk.specs.declared.world.World.{Ghosts}
use Rattle.isp_format.specs.Contents.{StandsFor}
use Rattle.isp_format.specs.Ranges.{Contents}
use Rattle.isp_image.specs.Databases.{Database}
use Rattle.isp_chained.specs.Chained.{IsKeptFile}
use Rattle.isp_opening.specs.Opening.{BreaksFirst, KeepsWorld}
use Rattle.isp_page.specs.declared.fault.Fault.{Fault}
use Rattle.isp_page.specs.declared.fault.Fault.TheVariants.{Memory, Store}
use Rattle.isp_page.specs.declared.fault.StoreFault.TheVariants.{Damaged, Disk, Print}
use Rattle.isp_plain.specs.Tables.{Table}
use Rattle.isp_serial.specs.declared.script.Script.{Script}
use Rattle.isp_sessions.specs.Plays.{IsAtRest, Played, PlayedPart}
use Rattle.isp_store.specs.Starting.{IsFresh, IsStarted, StartRefuses}
use Rattle.isp_store.specs.State.{StoreState, contents, shape}
use Rattle.isp_run.specs.Causes.{CountsAt}
use Rattle.isp_run.specs.Files.{IsBefore, IsDamage, IsNotDamaged, IsWorkStatus, NamesLaterRule, NeverWorks, status_of}
use Rattle.isp_run.specs.Working.{HasPlayed, HasWorked, RunsOn}
use Rattle.isp_run.specs.declared.status.Status.{Status}
use Rattle.isp_run.specs.declared.status.Status.TheVariants as status
use Rattle.isp_run.proofs.RunLaws.{front, kept_as, ran}
use Rattle.isp_run.proofs.WorkLaws.{not_done, rises, steady, work_status}

-- an image that stands for contents breaks none of the first three rules
pub never_broken : (rule : ℕ) (image : Image) (contents : Contents) → StandsFor image contents → BreaksFirst rule image → ⊥
never_broken zero image contents stands breaks = breaks
never_broken (suc zero) image contents stands breaks = breaks stands.control
never_broken (suc (suc zero)) image contents stands breaks = breaks.1 stands.copies
never_broken (suc (suc (suc zero))) image contents stands breaks = breaks.2 (stands.batches, stands.end, stands.log)
never_broken (suc (suc (suc (suc rule)))) image contents stands breaks = breaks

-- the first rule that an image breaks is one
first_broken : (one other : ℕ) (image : Image) → BreaksFirst one image → BreaksFirst other image → one ≡ other
first_broken zero other image a b = absurd a
first_broken (suc (suc (suc (suc one)))) other image a b = absurd a
first_broken one zero image a b = absurd b
first_broken one (suc (suc (suc (suc other)))) image a b = absurd b
first_broken (suc zero) (suc zero) image a b = refl
first_broken (suc zero) (suc (suc zero)) image a b = absurd (a b.0)
first_broken (suc zero) (suc (suc (suc zero))) image a b = absurd (a b.0)
first_broken (suc (suc zero)) (suc zero) image a b = absurd (b a.0)
first_broken (suc (suc zero)) (suc (suc zero)) image a b = refl
first_broken (suc (suc zero)) (suc (suc (suc zero))) image a b = absurd (a.1 b.1)
first_broken (suc (suc (suc zero))) (suc zero) image a b = absurd (b a.0)
first_broken (suc (suc (suc zero))) (suc (suc zero)) image a b = absurd (b.1 a.1)
first_broken (suc (suc (suc zero))) (suc (suc (suc zero))) image a b = refl

before_work : (status : Status) (image : Image) (contents : Contents) → StandsFor image contents → IsWorkStatus status → IsBefore image status → ⊥
before_work status.Done image contents stands is before = before
before_work (status.Damaged page rule) image contents stands is before = never_broken rule image contents stands before
before_work status.DiskFault image contents stands is before = before
before_work status.PrintFault image contents stands is before = before
before_work status.OutOfMemory image contents stands is before = before
before_work status.Usage image contents stands is before = is
before_work (status.BadScript line) image contents stands is before = is
before_work status.NotMade image contents stands is before = is
before_work status.AlreadyMade image contents stands is before = is
before_work status.ReadFault image contents stands is before = is

damage_of : (status : Status) (image : Image) → NamesLaterRule status → ((tables : List Table) → IsKeptFile image tables → IsNotDamaged status) → IsDamage image status
damage_of status.Done image later sound = tt
damage_of (status.Damaged page rule) image later sound = inr (later, λ kept. sound kept.0 kept.1)
damage_of status.DiskFault image later sound = tt
damage_of status.PrintFault image later sound = tt
damage_of status.OutOfMemory image later sound = tt
damage_of status.Usage image later sound = tt
damage_of (status.BadScript line) image later sound = tt
damage_of status.NotMade image later sound = tt
damage_of status.AlreadyMade image later sound = tt
damage_of status.ReadFault image later sound = tt

counts_from : (fault now : Status) (before mid after : ℕ) → mid ≡ before → CountsAt fault now mid after → CountsAt fault now before after
counts_from fault now before mid after same counts = subst (λ n. CountsAt fault now n after) same counts

module _ {W : Type 0} (g : Ghosts W) (script : Script) where
  -- the file was opened
  pub opened_runs : (world new : W) (s : StoreState W) (frames : ℕ) (end : Status) → IsStarted g world s → IsFresh g world frames s → KeepsWorld g world s.stable.world
      → HasWorked g script s.stable.world (contents g s) (shape g s) end new → RunsOn g script world end new
  opened_runs world new s frames end started fresh kept worked = record {
    statuses = worked.statuses;
    ran = λ tells alone is first is_kept. ran g script alone worked.small (shape g s) world new (contents g s) first
        (started.stood tells) (started.pages tells) (started.fanout tells) (λ d rests. played_from (worked.done tells alone is d rests)) is_kept;
    front = λ tells alone. inr (λ first is_kept. front g script alone worked.small (shape g s) world new (contents g s) first
        (started.stood tells) (started.pages tells) (λ d rests. part_from (worked.part tells alone d rests)) is_kept);
    before = λ tells before. absurd (before_work end (g.image world) (contents g s) (started.stood tells) worked.statuses before);
    damaged = λ tells. damage_of end (g.image world) worked.later (λ tables is.
        let is_kept = kept_as (g.image world) (contents g s) tables (started.stood tells) is in
        worked.sound tells is_kept.d (subst (λ n. IsAtRest n (contents g s) is_kept.d) (started.pages tells) is_kept.rests));
    broken = λ tells rule breaks. absurd (never_broken rule (g.image world) (contents g s) (started.stood tells) breaks);
    tidy = worked.tidy;
    disk = counts_from status.DiskFault end (g.disk_faults world) (g.disk_faults s.stable.world) (g.disk_faults new) fresh.steady worked.disk;
    printer = counts_from status.PrintFault end (g.print_faults world) (g.print_faults s.stable.world) (g.print_faults new) kept.printer worked.printer;
  }
    where
      played_from : {d : Database} → HasPlayed g script (shape g s) d s.stable.world new → HasPlayed g script (shape g s) d world new
      played_from {d} has = record {
        contents = has.contents;
        played = subst (λ (before : List ℕ). Played (shape g s).pages script d has.contents before (g.printed new)) kept.printed has.played;
        placed = has.placed;
      }

      part_from : {d : Database} → PlayedPart (shape g s).pages script d (g.printed s.stable.world) (g.printed new) → PlayedPart (shape g s).pages script d (g.printed world) (g.printed new)
      part_from {d} has = subst (λ (before : List ℕ). PlayedPart (shape g s).pages script d before (g.printed new)) kept.printed has

  -- it wasn't
  pub unopened_runs : (world new : W) (fault : Fault) → StartRefuses g world fault new → KeepsWorld g world new → RunsOn g script world (status_of fault) new
  unopened_runs world new fault refuses kept = record {
    statuses = work_status fault;
    ran = λ tells alone is. not_done _ fault is;
    front = λ tells alone. inl kept.printed;
    before = λ tells before. (same_image fault refuses tells before, kept.printed);
    damaged = λ tells. damage fault refuses tells;
    broken = λ tells rule breaks. never fault refuses tells rule breaks;
    tidy = λ tells is. not_done _ fault is;
    disk = disk fault refuses;
    printer = printer fault refuses;
  }
    where
      same_image : (f : Fault) → StartRefuses g world f new → g.tells → IsBefore (g.image world) (status_of f) → g.image new ≡ g.image world
      same_image Memory is tells before = absurd before
      same_image (Store Disk) is tells before = absurd before
      same_image (Store Print) is tells before = absurd before
      same_image (Store (Damaged page rule)) is tells before = (is.2 tells).1

      damage : (f : Fault) → StartRefuses g world f new → g.tells → IsDamage (g.image world) (status_of f)
      damage Memory is tells = tt
      damage (Store Disk) is tells = tt
      damage (Store Print) is tells = tt
      damage (Store (Damaged page rule)) is tells = inl (is.0, (is.2 tells).0)

      never : (f : Fault) → StartRefuses g world f new → g.tells → (rule : ℕ) → BreaksFirst rule (g.image world) → NeverWorks rule (status_of f)
      never Memory is tells rule breaks = tt
      never (Store Disk) is tells rule breaks = tt
      never (Store Print) is tells rule breaks = absurd is
      never (Store (Damaged page named)) is tells rule breaks = (is.0, first_broken named rule (g.image world) (is.2 tells).0 breaks)

      disk : (f : Fault) → StartRefuses g world f new → CountsAt status.DiskFault (status_of f) (g.disk_faults world) (g.disk_faults new)
      disk Memory is = steady status.DiskFault status.OutOfMemory (g.disk_faults world) (g.disk_faults new) (λ e. cc) (ap g.disk_faults is)
      disk (Store Disk) is = rises status.DiskFault status.DiskFault (g.disk_faults world) (g.disk_faults new) refl is
      disk (Store Print) is = absurd is
      disk (Store (Damaged page rule)) is = steady status.DiskFault (status.Damaged page rule) (g.disk_faults world) (g.disk_faults new) (λ e. cc) is.1

      printer : (f : Fault) → StartRefuses g world f new → CountsAt status.PrintFault (status_of f) (g.print_faults world) (g.print_faults new)
      printer Memory is = steady status.PrintFault status.OutOfMemory (g.print_faults world) (g.print_faults new) (λ e. cc) kept.printer
      printer (Store Disk) is = steady status.PrintFault status.DiskFault (g.print_faults world) (g.print_faults new) (λ e. cc) kept.printer
      printer (Store Print) is = absurd is
      printer (Store (Damaged page rule)) is = steady status.PrintFault (status.Damaged page rule) (g.print_faults world) (g.print_faults new) (λ e. cc) kept.printer
