-- Calls one after another, in one word.
use Rattle.std.proofs.Common.{◌≡◌, ℕ, Bool, true, refl, sym, ◌∙◌, ap, subst, arith}
use Rattle.std.specs.Prelude.{Result, Ok, Err, ⊤}
use Rattle.isp_page.specs.Calls.{ContinuesOrLacks}
use Rattle.isp_page.specs.Steps.{FailsOrLacks}
use Rattle.isp_page.specs.declared.fault.Fault.{Fault}
use Rattle.isp_page.specs.declared.fault.Fault.TheVariants.{Store}
use Rattle.isp_page.specs.declared.fault.StoreFault.TheVariants.{Damaged}
use Rattle.isp_page.specs.declared.pages.Pages.{Ghosts}
use Rattle.isp_tables.specs.Calls.{Keeps}

-- how a loop's turns so far ended
abbrev pub so_far : Result ⊤ Fault
so_far = Ok tt

-- a cause, since a count that didn't rise before
earlier : (before mid now : ℕ) (usable : Bool) (e : Fault) → mid ≡ before → FailsOrLacks mid now usable e → FailsOrLacks before now usable e
earlier before mid now usable e same cause = subst (λ (n : ℕ). FailsOrLacks n now usable e) same cause

module _ {S : Type 0} (g : Ghosts S) where
  pub keeps_none : {T : Type 0} (now : S) (x : T) → g.usable now ≡ true → Keeps {T = T} g now now (Ok x)
  keeps_none now x can = record { same_shape = refl; silent = refl; printer = refl; later = omega arith; goes_on = record { steady = refl; can = can }; cause = tt }

  pub keeps_on : {T U : Type 0} (old mid new : S) (x : T) (result : Result U Fault) → Keeps {T = T} g old mid (Ok x) → Keeps {T = U} g mid new result → Keeps {T = U} g old new result
  keeps_on {T = T} {U = U} old mid new x (Ok y) first second =
      let a = first.later in
      let b = second.later in
      record {
        same_shape = second.same_shape ∙ first.same_shape;
        silent = second.silent ∙ first.silent;
        printer = second.printer ∙ first.printer;
        later = omega (arith, a, b);
        goes_on = record { steady = second.goes_on.steady ∙ first.goes_on.steady; can = second.goes_on.can };
        cause = tt;
      }
  keeps_on {T = T} {U = U} old mid new x (Err e) first second =
      let a = first.later in
      let b = second.later in
      record {
        same_shape = second.same_shape ∙ first.same_shape;
        silent = second.silent ∙ first.silent;
        printer = second.printer ∙ first.printer;
        later = omega (arith, a, b);
        goes_on = tt;
        cause = earlier (g.disk_faults old) (g.disk_faults mid) (g.disk_faults new) (g.usable new) e first.goes_on.steady second.cause;
      }

  -- the same with another answer
  pub keeps_as : {T U : Type 0} (old new : S) (x : T) (y : U) → Keeps {T = T} g old new (Ok x) → Keeps {T = U} g old new (Ok y)
  keeps_as {T = T} {U = U} old new x y is =
      record { same_shape = is.same_shape; silent = is.silent; printer = is.printer; later = is.later; goes_on = is.goes_on; cause = tt }

  pub keeps_failed : {T U : Type 0} (old new : S) (e f : Fault) (result : Result U Fault) → result ≡ Err f → f ≡ e → Keeps {T = T} g old new (Err e) → Keeps {T = U} g old new result
  keeps_failed {T = T} {U = U} old new e f result is same had =
      let failed : Keeps {T = U} g old new (Err e) = record { same_shape = had.same_shape; silent = had.silent; printer = had.printer; later = had.later; goes_on = tt; cause = had.cause } in
      subst (λ (r : Result U Fault). Keeps {T = U} g old new r) (sym (is ∙ ap (λ (x : Fault). Err x) same)) failed

  -- a call that only reads, and then a page that breaks a rule
  pub stops_damaged : {T U : Type 0} (old new : S) (x : U) (result : Result T Fault) (e : Fault) (page rule : ℕ) → result ≡ Err e → e ≡ Store (Damaged page rule) → ContinuesOrLacks {T = U} g old new (Ok x) → ContinuesOrLacks {T = T} g old new result
  stops_damaged {T = T} {U = U} old new x result e page rule is same before =
      let stops : ContinuesOrLacks {T = T} g old new (Err (Store (Damaged page rule))) = record {
        keeps = record {
          same_shape = before.keeps.same_shape;
          silent = before.keeps.silent;
          printer = before.keeps.printer;
          later = before.keeps.later;
          goes_on = tt;
          cause = before.keeps.goes_on;
        };
        stops = before.stops;
        time = before.time;
      } in
      subst (λ (r : Result T Fault). ContinuesOrLacks {T = T} g old new r) (sym (is ∙ ap (λ (f : Fault). Err f) same)) stops
