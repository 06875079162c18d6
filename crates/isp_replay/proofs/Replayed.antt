-- A log that was put into the pages, which then were checkpoint, over any world.
use Rattle.std.proofs.Common.{◌≡◌, ◌∙◌, Err, Ok, None, Result, refl, sym, subst}
use Rattle.std.specs.Result.{IsErrAnd}
use Rattle.isp_disk.specs.Calls.{DiskCall}
use Rattle.isp_disk.specs.declared.world.World.{Ghosts}
use Rattle.isp_format.specs.Contents.{StandsFor}
use Rattle.isp_format.specs.Ranges.{Contents}
use Rattle.isp_frames.specs.Cached.{now}
use Rattle.isp_frames.specs.declared.cache.Cache.{Cache}
use Rattle.isp_page.specs.declared.fault.StoreFault.{StoreFault}
use Rattle.isp_replay.specs.Putting.{IsPut, KeepsFrames, Replays}
use Rattle.isp_replay.specs.Faults.{ReplayFails, disk_part, fault_of}
use Rattle.isp_replay.specs.declared.fault.ReplayFault.{ReplayFault}
use Rattle.isp_replay.specs.declared.fault.ReplayFault.TheVariants.{DiskFailed, NoSuchPage}
use Rattle.isp_replay.proofs.PutLaws.{put_now}
use Rattle.isp_stable.specs.File.{IsFile, KeepsShape, StandsOnly, flushed, placed}
use Rattle.isp_stable.proofs.FileLaws.{stands, stands_on, stands_weaker}

module _ {W : Type 0} (g : Ghosts W) where
  -- why it fails
  fails_as : (old new : W) (f : ReplayFault) → DiskCall g old new (disk_part {T = Unit {0}} (Err f)) → (g.tells → f ≡ DiskFailed) → ReplayFails g old new (fault_of f)
  fails_as old new DiskFailed call tested = call.cause.failed
  fails_as old new NoSuchPage call tested = (refl, refl, call.cause.steady, λ tells. let is = tested tells in absurd (cc))

  pub replay_fails : {U : Type 0} (old new : Cache W) (f : ReplayFault) (result : Result U StoreFault) → IsErrAnd result (λ e. e ≡ fault_of f) → KeepsFrames g {T = Unit {0}} old new (Err f) → (g.tells → f ≡ DiskFailed) → Replays g old new result
  replay_fails old new f (Ok done) is kept tested = absurd is
  replay_fails old new f (Err e) is kept tested = record {
    printed = kept.calls.printed;
    printer = kept.calls.printer;
    shape = kept.shape;
    count = tt;
    steady = tt;
    fails = subst (ReplayFails g old.stable.world new.stable.world) (sym is) (fails_as old.stable.world new.stable.world f kept.calls tested);
  }

  -- what a stop leaves is what the file stood for
  pub stood_for : (old : Cache W) (new : W) (file : IsFile g old.stable) (contents : Contents) → contents ≡ flushed g old.stable file.batches → StandsFor (g.image old.stable.world) contents
  stood_for old new file contents is = subst (StandsFor (g.image old.stable.world)) (sym is) (stands g old.stable file)

  pub stops_put : (old : Cache W) (new : W) (file : IsFile g old.stable) → StandsOnly g old.stable new (λ contents. contents ≡ flushed g old.stable file.batches) → StandsOnly g old.stable new (StandsFor (g.image old.stable.world))
  stops_put old new file only = stands_weaker g old.stable new _ _ (stood_for old new file) only

  pub stops_replayed : (old mid : Cache W) (new : W) (file : IsFile g old.stable) → IsPut g (placed g old.stable) file.batches mid None → KeepsShape old.stable mid.stable → g.printed mid.stable.world ≡ g.printed old.stable.world
      → StandsOnly g old.stable mid.stable.world (λ contents. contents ≡ flushed g old.stable file.batches) → StandsOnly g mid.stable new (λ contents. contents ≡ now g mid) → StandsOnly g old.stable new (StandsFor (g.image old.stable.world))
  stops_replayed old mid new file put shape printed first second =
      stands_on g old.stable mid.stable new (StandsFor (g.image old.stable.world)) shape printed (stops_put old mid.stable.world file first)
      (stands_weaker g mid.stable new _ _ (λ contents is. stood_for old new file contents (is ∙ put_now g (placed g old.stable) file.batches mid put)) second)
