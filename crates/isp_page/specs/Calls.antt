-- The words of `Steps`, at a bound `P: Pages`: cited as `Continues P.Pages pages.old pages.new result`.
use Rattle.std.specs.Prelude.{◌≡◌, ℕ, Bool, List, Result}
use Rattle.isp_format.specs.Ranges.{Contents}
use Rattle.isp_page.specs.Steps.{FailsOnPages, FailsOrLacks, FlushesBy, MakesBy, StepsBy, PrintsBy, done}
use Rattle.isp_page.specs.declared.fault.Fault.{Fault}
use Rattle.isp_page.specs.declared.fault.StoreFault.{StoreFault}
use Rattle.isp_page.specs.declared.pages.Pages.{Ghosts}

-- A call that fails as `Fails` says, by the disk's counts before and after it and by whether the store can still be used.
abbrev pub ContinuesWith : {S T E : Type 0} → (ℕ → ℕ → Bool → E → Type 0) → Ghosts S → S → S → Result T E → Type 0
ContinuesWith Fails g = StepsBy g.tells g.shape g.printed g.may_leave g.clock g.left_since g.disk_faults g.print_faults g.usable Fails

abbrev pub MakesWith : {S T E : Type 0} → (ℕ → ℕ → Bool → E → Type 0) → Ghosts S → (Contents → Type 0) → S → S → Result T E → Type 0
MakesWith Fails g = MakesBy g.tells g.shape g.printed g.may_leave g.clock g.left_since g.disk_faults g.print_faults g.usable Fails

-- it adds nothing to what a stop may leave, tells nothing, and goes on unless the disk failed
abbrev pub Continues : {S T : Type 0} → Ghosts S → S → S → Result T StoreFault → Type 0
Continues = ContinuesWith FailsOnPages

-- the same of one that takes memory, and may lack it
abbrev pub ContinuesOrLacks : {S T : Type 0} → Ghosts S → S → S → Result T Fault → Type 0
ContinuesOrLacks = ContinuesWith FailsOrLacks

-- the same of a loop's turns so far, and of a call with no result
abbrev pub Continued : {S : Type 0} → Ghosts S → S → S → Type 0
Continued g old new = Continues g old new done

-- it adds these contents to what a stop may leave, those of a finished mini-transaction, and is otherwise the same
abbrev pub Makes : {S T : Type 0} → Ghosts S → Contents → S → S → Result T StoreFault → Type 0
Makes g added = MakesWith FailsOnPages g (λ contents. contents ≡ added)

abbrev pub MakesOrLacks : {S T : Type 0} → Ghosts S → Contents → S → S → Result T Fault → Type 0
MakesOrLacks g added = MakesWith FailsOrLacks g (λ contents. contents ≡ added)

-- it adds nothing, and behind it a stop leaves the present contents alone
abbrev pub Flushes : {S T : Type 0} → Ghosts S → S → S → Result T StoreFault → Type 0
Flushes g old new = FlushesBy g.tells g.shape g.printed g.may_leave g.clock g.left_since g.disk_faults g.print_faults g.usable FailsOnPages (g.contents new) old new

-- it tells this piece
abbrev pub PrintsPiece : {S T : Type 0} → Ghosts S → List ℕ → S → S → Result T StoreFault → Type 0
PrintsPiece g = PrintsBy g.tells g.shape g.printed g.may_leave g.clock g.left_since g.disk_faults g.print_faults g.usable
