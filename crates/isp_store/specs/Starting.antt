-- A store that was started: where it stands, and why it was not.
use Rattle.std.specs.Prelude.{◌≡◌, ℕ, true, Result, Ok, Err}
use Rattle.isp_disk.specs.declared.world.World.{Ghosts}
use Rattle.isp_format.specs.Contents.{StandsFor}
use Rattle.isp_format.specs.Control.{fanout_in, pages_in}
use Rattle.isp_opening.specs.Opening.{RefusesWith}
use Rattle.isp_page.specs.State.{none_begun}
use Rattle.isp_page.specs.Steps.{LeavesAlone}
use Rattle.isp_page.specs.declared.fault.Fault.{Fault}
use Rattle.isp_page.specs.declared.fault.Fault.TheVariants as fault
use Rattle.isp_store.specs.Calls.{IsAllInPlace}
use Rattle.isp_store.specs.State.{StoreState, contents, dirty, frames_of, may_leave, mini}

module _ {W : Type 0} (g : Ghosts W) where
  -- it can be used, no mini-transaction is begun, no page is dirty, there are so many frames, and no call failed
  pub record IsFresh (old : W) (frames : ℕ) (s : StoreState W) : Type 0 where
    pub can : s.is_usable ≡ true
    pub mini_is : mini g s ≡ none_begun
    pub clean : dirty g s ≡ 0
    pub frames_are : frames_of s ≡ frames
    pub steady : g.disk_faults s.stable.world ≡ g.disk_faults old

  -- its contents and its shape are those of the image that was opened, and a stop leaves them alone
  pub record IsStarted (old : W) (s : StoreState W) : Type 0 where
    pub in_place : IsAllInPlace g s
    pub stood : g.tells → StandsFor (g.image old) (contents g s)
    pub pages : g.tells → pages_in (g.image old) ≡ s.stable.pages
    pub fanout : g.tells → fanout_in (g.image old) ≡ s.stable.fanout
    pub alone : g.tells → LeavesAlone (contents g s) (may_leave g s)

  -- without memory nothing was done; else it is as the opening says
  abbrev pub StartRefuses : W → Fault → W → Type 0
  StartRefuses old fault.Memory now = now ≡ old
  StartRefuses old (fault.Store e) now = RefusesWith g old e now

-- the world that a start gives back
abbrev pub started_world : {W : Type 0} → Result (StoreState W) (Fault × W) → W
started_world (Ok s) = s.stable.world
started_world (Err e) = e.1
