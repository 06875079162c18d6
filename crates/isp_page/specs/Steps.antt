-- What a call of a store of pages leaves alone, in one word each, over the facts of any store. A moment is what a stop leaves:
-- an image of the disk, with what was printed by then. `Calls` has the words at a bound `P: Pages`.
use Rattle.std.specs.Prelude.{◌≡◌, ◌⊎◌, ℕ, ◌≤◌, Bool, true, List, Result, Ok, OnOk, IfErr, ⊤}
use Rattle.isp_disk.specs.Moments.{Image}
use Rattle.isp_disk.specs.Outside.{HasCause, Prints, PrintsPart, Rose}
use Rattle.isp_format.specs.Contents.{StandsFor}
use Rattle.isp_format.specs.Control.{fanout_in, pages_in}
use Rattle.isp_format.specs.Ranges.{Contents}
use Rattle.isp_page.specs.State.{FileShape}
use Rattle.isp_page.specs.declared.fault.Fault.{Fault}
use Rattle.isp_page.specs.declared.fault.Fault.TheVariants.{Memory, Store}
use Rattle.isp_page.specs.declared.fault.StoreFault.{StoreFault}
use Rattle.isp_page.specs.declared.fault.StoreFault.TheVariants.{Damaged, Disk, Print}

-- no call of the disk has failed since a count of faults was that, and the store can be used
pub record GoesOn (before now : ℕ) (usable : Bool) : Type 0 where
  pub steady : now ≡ before
  pub can : usable ≡ true

-- Why a call fails, by the disk's count of faults before and after it and by whether the store can still be used: by the disk
-- where the count rose; by the printer never; by what stands in the pages, and then the store goes on.
abbrev pub FailsOnPages : ℕ → ℕ → Bool → StoreFault → Type 0
FailsOnPages before now usable Disk = Rose before now
FailsOnPages before now usable Print = ⊥
FailsOnPages before now usable (Damaged page rule) = GoesOn before now usable

-- the same of a call that takes memory besides
abbrev pub FailsOrLacks : ℕ → ℕ → Bool → Fault → Type 0
FailsOrLacks before now usable (Store fault) = FailsOnPages before now usable fault
FailsOrLacks before now usable Memory = GoesOn before now usable

-- the fault names no damaged page
abbrev pub IsNoDamage : StoreFault → Type 0
IsNoDamage Disk = ⊤
IsNoDamage Print = ⊤
IsNoDamage (Damaged page rule) = ⊥

abbrev pub IsNoDamageOrLacks : Fault → Type 0
IsNoDamageOrLacks (Store fault) = IsNoDamage fault
IsNoDamageOrLacks Memory = ⊤

-- the image keeps the first three page rules, has this shape, and stands for contents that may be left
pub record IsLeft (may : Contents → Type 0) (shape : FileShape) (image : Image) : Type 0 where
  pub contents : Contents
  pub stands : StandsFor image contents
  pub pages : pages_in image ≡ shape.pages
  pub fanout : fanout_in image ≡ shape.fanout
  pub may_be : may contents

-- such an image, and nothing was printed meanwhile
pub record LeftAs (may : Contents → Type 0) (shape : FileShape) (printed_before : List ℕ) (image : Image) (printed : List ℕ) : Type 0 where
  pub left : IsLeft may shape image
  pub silent : printed ≡ printed_before

-- such an image, and of a piece that is printed the first bytes were printed, and no others
pub record LeftPrinting (may : Contents → Type 0) (shape : FileShape) (printed_before piece : List ℕ) (image : Image) (printed : List ℕ) : Type 0 where
  pub left : IsLeft may shape image
  pub part : PrintsPart printed_before piece printed

-- what might be left before, or what was added
abbrev pub Or : (Contents → Type 0) → (Contents → Type 0) → Contents → Type 0
Or may Added contents = may contents ⊎ Added contents

-- what a stop may leave after a call that adds nothing to it; that adds what has this property; that leaves these contents alone
abbrev pub AddsNone : (Contents → Type 0) → (Contents → Type 0) → Type 0
AddsNone could can = (contents : Contents) → can contents → could contents

abbrev pub Adds : (Contents → Type 0) → (Contents → Type 0) → (Contents → Type 0) → Type 0
Adds Added could can = (contents : Contents) → can contents → Or could Added contents

abbrev pub LeavesAlone : Contents → (Contents → Type 0) → Type 0
LeavesAlone contents can = (left : Contents) → can left → left ≡ contents

-- Time goes on: each moment since a time before the call was one before it, or has this property.
pub record Passes {S : Type 0} (clock : S → ℕ) (left_since : S → ℕ → Image → List ℕ → Type 0) (old new : S) (Had : Image → List ℕ → Type 0) : Type 0 where
  pub onward : clock old ≤ clock new
  pub moments : (t : ℕ) (image : Image) (printed : List ℕ) → t ≤ clock old → left_since new t image printed → left_since old t image printed ⊎ Had image printed

-- how a call ended that has no result
abbrev pub done : Result ⊤ StoreFault
done = Ok tt

module _ {S : Type 0} (tells : Type 0) (shape : S → FileShape) (printed : S → List ℕ) (may_leave : S → Contents → Type 0)
    (clock : S → ℕ) (left_since : S → ℕ → Image → List ℕ → Type 0) (disk_faults print_faults : S → ℕ) (usable : S → Bool) where
  -- what stays at every call but a `print`, and why it fails
  pub record KeepsBy {T E : Type 0} (Fails : ℕ → ℕ → Bool → E → Type 0) (old new : S) (result : Result T E) : Type 0 where
    pub same_shape : shape new ≡ shape old
    pub silent : printed new ≡ printed old
    pub printer : print_faults new ≡ print_faults old
    pub later : disk_faults old ≤ disk_faults new
    pub goes_on : OnOk result (GoesOn (disk_faults old) (disk_faults new) (usable new))
    pub cause : IfErr result (Fails (disk_faults old) (disk_faults new) (usable new))

  -- a call, or a run of calls, that adds nothing to what a stop may leave
  pub record StepsBy {T E : Type 0} (Fails : ℕ → ℕ → Bool → E → Type 0) (old new : S) (result : Result T E) : Type 0 where
    pub keeps : KeepsBy Fails old new result
    pub stops : tells → AddsNone (may_leave old) (may_leave new)
    pub time : tells → Passes clock left_since old new (LeftAs (may_leave old) (shape old) (printed old))

  -- one that adds contents with this property alone
  pub record MakesBy {T E : Type 0} (Fails : ℕ → ℕ → Bool → E → Type 0) (Added : Contents → Type 0) (old new : S) (result : Result T E) : Type 0 where
    pub keeps : KeepsBy Fails old new result
    pub stops : tells → Adds Added (may_leave old) (may_leave new)
    pub time : tells → Passes clock left_since old new (LeftAs (Or (may_leave old) Added) (shape old) (printed old))

  -- one that adds nothing, and behind which a stop leaves these contents alone
  pub record FlushesBy {T E : Type 0} (Fails : ℕ → ℕ → Bool → E → Type 0) (contents : Contents) (old new : S) (result : Result T E) : Type 0 where
    pub steps : StepsBy Fails old new result
    pub alone : tells → OnOk result (LeavesAlone contents (may_leave new))

  -- A call that tells this piece. It fails by the printer alone, where the printer's count rose, and can be used afterwards.
  pub record PrintsBy {T : Type 0} (piece : List ℕ) (old new : S) (result : Result T StoreFault) : Type 0 where
    pub same_shape : shape new ≡ shape old
    pub prints : tells → Prints (printed old) piece (printed new) result
    pub disk : disk_faults new ≡ disk_faults old
    pub cause : HasCause (print_faults old) (print_faults new) result
    pub by_print : IfErr result (λ fault. fault ≡ Print)
    pub can : usable new ≡ true
    pub stops : tells → AddsNone (may_leave old) (may_leave new)
    pub time : tells → Passes clock left_since old new (LeftPrinting (may_leave old) (shape old) (printed old) piece)
