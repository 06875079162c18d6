-- Turns that finish mini-transactions, of all of which something holds, and one more.
use Rattle.std.proofs.Common.{ℕ, ◌≤◌, List, ◌∙◌, ap, subst, arith, inl, inr}
use Rattle.std.specs.Prelude.{◌≡◌, ◌⊎◌, true, Result, Ok, Err, ⊤}
use Rattle.isp_format.specs.Ranges.{Contents}
use Rattle.isp_disk.specs.Moments.{Image}
use Rattle.isp_page.specs.State.{FileShape}
use Rattle.isp_page.specs.Steps.{FailsOrLacks, LeftAs, MakesBy, Or}
use Rattle.isp_page.specs.declared.fault.Fault.{Fault}
use Rattle.isp_page.specs.declared.pages.Pages.{Ghosts}

-- how the turns so far ended
abbrev pub so_far : Result ⊤ Fault
so_far = Ok tt

abbrev pub MakesAll : {S T : Type 0} → Ghosts S → (Contents → Type 0) → S → S → Result T Fault → Type 0
MakesAll {T = T} g Made old new result = MakesBy g.tells g.shape g.printed g.may_leave g.clock g.left_since g.disk_faults g.print_faults g.usable {T = T} {E = Fault} FailsOrLacks Made old new result

-- no turn
pub none_made : {S : Type 0} (g : Ghosts S) (Made : Contents → Type 0) (now : S) → g.usable now ≡ true → MakesAll {T = ⊤} g Made now now so_far
none_made g Made now usable = record {
  keeps = record { same_shape = λ i. g.shape now; silent = λ i. g.printed now; printer = λ i. g.print_faults now; later = omega arith; goes_on = record { steady = λ i. g.disk_faults now; can = usable }; cause = tt };
  stops = λ tells c can. inl can;
  time = λ tells. record { onward = omega arith; moments = λ t image told before had. inl had };
}

module _ {S : Type 0} (g : Ghosts S) (Made One : Contents → Type 0) (old mid new : S) (within : g.tells → (c : Contents) → One c → Made c)
    (first : MakesAll {T = ⊤} g Made old mid so_far) where
  more_or : g.tells → (c : Contents) → Or (g.may_leave mid) One c → Or (g.may_leave old) Made c
  more_or tells c (inl was) = first.stops tells c was
  more_or tells c (inr added) = inr (within tells c added)

  more_left : g.tells → (image : Image) (told : List ℕ) → LeftAs (Or (g.may_leave mid) One) (g.shape mid) (g.printed mid) image told → LeftAs (Or (g.may_leave old) Made) (g.shape old) (g.printed old) image told
  more_left tells image told left = record {
    left = record {
      contents = left.left.contents;
      stands = left.left.stands;
      pages = left.left.pages ∙ ap (λ (shape : FileShape). shape.pages) first.keeps.same_shape;
      fanout = left.left.fanout ∙ ap (λ (shape : FileShape). shape.fanout) first.keeps.same_shape;
      may_be = more_or tells left.left.contents left.left.may_be;
    };
    silent = left.silent ∙ first.keeps.silent;
  }

  more_moment : g.tells → (t : ℕ) (image : Image) (told : List ℕ) → t ≤ g.clock old → g.left_since mid t image told ⊎ LeftAs (Or (g.may_leave mid) One) (g.shape mid) (g.printed mid) image told
      → g.left_since old t image told ⊎ LeftAs (Or (g.may_leave old) Made) (g.shape old) (g.printed old) image told
  more_moment tells t image told before (inl was) = (first.time tells).moments t image told before was
  more_moment tells t image told before (inr left) = inr (more_left tells image told left)

  pub more_done : {T U : Type 0} (x : T) (y : U) → MakesAll {T = T} g One mid new (Ok x) → MakesAll {T = U} g Made old new (Ok y)
  more_done x y makes = record {
    keeps = record {
      same_shape = makes.keeps.same_shape ∙ first.keeps.same_shape;
      silent = makes.keeps.silent ∙ first.keeps.silent;
      printer = makes.keeps.printer ∙ first.keeps.printer;
      later = let steady = first.keeps.goes_on.steady in let later = makes.keeps.later in omega (arith, steady, later);
      goes_on = record { steady = makes.keeps.goes_on.steady ∙ first.keeps.goes_on.steady; can = makes.keeps.goes_on.can };
      cause = tt;
    };
    stops = λ tells c can. more_or tells c (makes.stops tells c can);
    time = λ tells. record {
      onward = let a = (first.time tells).onward in let b = (makes.time tells).onward in omega (arith, a, b);
      moments = λ t image told before had. more_moment tells t image told before ((makes.time tells).moments t image told (let a = (first.time tells).onward in omega (arith, a, before)) had);
    };
  }

  pub more_failed : {T U : Type 0} (e : Fault) → MakesAll {T = T} g One mid new (Err e) → MakesAll {T = U} g Made old new (Err e)
  more_failed e makes = record {
    keeps = record {
      same_shape = makes.keeps.same_shape ∙ first.keeps.same_shape;
      silent = makes.keeps.silent ∙ first.keeps.silent;
      printer = makes.keeps.printer ∙ first.keeps.printer;
      later = let steady = first.keeps.goes_on.steady in let later = makes.keeps.later in omega (arith, steady, later);
      goes_on = tt;
      cause = subst (λ (n : ℕ). FailsOrLacks n (g.disk_faults new) (g.usable new) e) first.keeps.goes_on.steady makes.keeps.cause;
    };
    stops = λ tells c can. more_or tells c (makes.stops tells c can);
    time = λ tells. record {
      onward = let a = (first.time tells).onward in let b = (makes.time tells).onward in omega (arith, a, b);
      moments = λ t image told before had. more_moment tells t image told before ((makes.time tells).moments t image told (let a = (first.time tells).onward in omega (arith, a, before)) had);
    };
  }
