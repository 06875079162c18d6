-- A call behind a loop's turns so far.
use Rattle.std.proofs.Common.{rules, ◌≡◌, sym, subst}
use Rattle.std.specs.Prelude.{Result, Ok, Err, ⊤}
use Rattle.isp_page.specs.Calls.{ContinuesOrLacks}
use Rattle.isp_page.specs.declared.fault.Fault.{Fault}
use Rattle.isp_page.specs.declared.fault.Fault.TheVariants.{Memory, Store}
use Rattle.isp_page.specs.declared.fault.StoreFault.TheVariants.{Damaged, Disk, Print}
use Rattle.isp_page.specs.declared.pages.Pages.{Ghosts}

-- how a loop's turns so far ended
abbrev pub so_far : Result ⊤ Fault
so_far = Ok tt

module _ {S : Type 0} (g : Ghosts S) where
  pub call_after : {T : Type 0} (old mid new : S) (result : Result T Fault) → ContinuesOrLacks {T = ⊤} g old mid so_far → ContinuesOrLacks {T = T} g mid new result → ContinuesOrLacks {T = T} g old new result
  call_after old mid new (Ok x) first second = search rules
  call_after old mid new (Err Memory) first second = search rules
  call_after old mid new (Err (Store Disk)) first second = search rules
  call_after old mid new (Err (Store Print)) first second = search rules
  call_after old mid new (Err (Store (Damaged page rule))) first second = search rules

  -- one turn more
  pub one_more : {T : Type 0} (old mid new : S) (x : T) → ContinuesOrLacks {T = ⊤} g old mid so_far → ContinuesOrLacks {T = T} g mid new (Ok x) → ContinuesOrLacks {T = ⊤} g old new so_far
  one_more old mid new x first second = search rules

  -- the call with which the loop ends
  pub call_ends : {T : Type 0} (old mid new : S) (told result : Result T Fault) → result ≡ told → ContinuesOrLacks {T = ⊤} g old mid so_far → ContinuesOrLacks {T = T} g mid new told → ContinuesOrLacks {T = T} g old new result
  call_ends {T = T} old mid new told result is first second = subst (λ (r : Result T Fault). ContinuesOrLacks {T = T} g old new r) (sym is) (call_after old mid new told first second)
