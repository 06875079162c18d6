-- A mini-transaction of which something holds once it is finished.
use Rattle.std.proofs.Common.{ℕ, ◌≤◌, List, ◌∙◌, ap, subst, arith, inl, inr}
use Rattle.std.specs.Prelude.{◌⊎◌, Bool, Result, Ok, Err, ⊤}
use Rattle.isp_format.specs.Ranges.{Contents}
use Rattle.isp_disk.specs.Moments.{Image}
use Rattle.isp_page.specs.Calls.{ContinuesWith, MakesWith}
use Rattle.isp_page.specs.State.{FileShape}
use Rattle.isp_page.specs.Steps.{FailsOnPages, FailsOrLacks, LeftAs, MakesBy, Or}
use Rattle.isp_page.specs.declared.fault.Fault.{Fault}
use Rattle.isp_page.specs.declared.fault.Fault.TheVariants.{Store}
use Rattle.isp_page.specs.declared.fault.StoreFault.{StoreFault}
use Rattle.isp_page.specs.declared.pages.Pages.{Ghosts}

wider_or : (may One Other : Contents → Type 0) → ((c : Contents) → One c → Other c) → (c : Contents) → Or may One c → Or may Other c
wider_or may One Other within c (inl was) = inl was
wider_or may One Other within c (inr added) = inr (within c added)

wider_left : (may later : Contents → Type 0) (shape : FileShape) (told : List ℕ) (image : Image) (now : List ℕ) → ((c : Contents) → may c → later c) → LeftAs may shape told image now → LeftAs later shape told image now
wider_left may later shape told image now within left = record {
  left = record { contents = left.left.contents; stands = left.left.stands; pages = left.left.pages; fanout = left.left.fanout; may_be = within left.left.contents left.left.may_be };
  silent = left.silent;
}

wider_moment : (was : Type 0) (may later : Contents → Type 0) (shape : FileShape) (told : List ℕ) (image : Image) (now : List ℕ) → ((c : Contents) → may c → later c) → was ⊎ LeftAs may shape told image now → was ⊎ LeftAs later shape told image now
wider_moment was may later shape told image now within (inl before) = inl before
wider_moment was may later shape told image now within (inr left) = inr (wider_left may later shape told image now within left)

-- what is made has another property, and the call another answer
pub makes_done : {S T U E : Type 0} (Fails : ℕ → ℕ → Bool → E → Type 0) (g : Ghosts S) (One Other : Contents → Type 0) (old new : S) (x : T) (y : U)
    → (g.tells → (c : Contents) → One c → Other c) → MakesBy g.tells g.shape g.printed g.may_leave g.clock g.left_since g.disk_faults g.print_faults g.usable {T = T} {E = E} Fails One old new (Ok x) → MakesBy g.tells g.shape g.printed g.may_leave g.clock g.left_since g.disk_faults g.print_faults g.usable {T = U} {E = E} Fails Other old new (Ok y)
makes_done Fails g One Other old new x y within makes = record {
  keeps = record { same_shape = makes.keeps.same_shape; silent = makes.keeps.silent; printer = makes.keeps.printer; later = makes.keeps.later; goes_on = makes.keeps.goes_on; cause = tt };
  stops = λ tells c can. wider_or (g.may_leave old) One Other (within tells) c (makes.stops tells c can);
  time = λ tells. record {
    onward = (makes.time tells).onward;
    moments = λ t image told before had. wider_moment (g.left_since old t image told) (Or (g.may_leave old) One) (Or (g.may_leave old) Other) (g.shape old) (g.printed old) image told (wider_or (g.may_leave old) One Other (within tells)) ((makes.time tells).moments t image told before had);
  };
}

pub makes_failed : {S T U E : Type 0} (Fails : ℕ → ℕ → Bool → E → Type 0) (g : Ghosts S) (One Other : Contents → Type 0) (old new : S) (e : E)
    → (g.tells → (c : Contents) → One c → Other c) → MakesBy g.tells g.shape g.printed g.may_leave g.clock g.left_since g.disk_faults g.print_faults g.usable {T = T} {E = E} Fails One old new (Err e) → MakesBy g.tells g.shape g.printed g.may_leave g.clock g.left_since g.disk_faults g.print_faults g.usable {T = U} {E = E} Fails Other old new (Err e)
makes_failed Fails g One Other old new e within makes = record {
  keeps = record { same_shape = makes.keeps.same_shape; silent = makes.keeps.silent; printer = makes.keeps.printer; later = makes.keeps.later; goes_on = tt; cause = makes.keeps.cause };
  stops = λ tells c can. wider_or (g.may_leave old) One Other (within tells) c (makes.stops tells c can);
  time = λ tells. record {
    onward = (makes.time tells).onward;
    moments = λ t image told before had. wider_moment (g.left_since old t image told) (Or (g.may_leave old) One) (Or (g.may_leave old) Other) (g.shape old) (g.printed old) image told (wider_or (g.may_leave old) One Other (within tells)) ((makes.time tells).moments t image told before had);
  };
}

-- the same of a call that is answered as it is
pub makes_on : {S T E : Type 0} (Fails : ℕ → ℕ → Bool → E → Type 0) (g : Ghosts S) (One Other : Contents → Type 0) (old new : S) (result : Result T E)
    → (g.tells → (c : Contents) → One c → Other c) → MakesBy g.tells g.shape g.printed g.may_leave g.clock g.left_since g.disk_faults g.print_faults g.usable {T = T} {E = E} Fails One old new result → MakesBy g.tells g.shape g.printed g.may_leave g.clock g.left_since g.disk_faults g.print_faults g.usable {T = T} {E = E} Fails Other old new result
makes_on Fails g One Other old new (Ok x) within makes = makes_done Fails g One Other old new x x within makes
makes_on Fails g One Other old new (Err e) within makes = makes_failed Fails g One Other old new e within makes

-- ---- behind a call that adds nothing

module _ {S : Type 0} (g : Ghosts S) (One Other : Contents → Type 0) (old mid new : S) (there : Bool) (within : g.tells → (c : Contents) → One c → Other c)
    (first : ContinuesWith {T = Bool} FailsOrLacks g old mid (Ok there)) where
  behind_or : g.tells → (c : Contents) → Or (g.may_leave mid) One c → Or (g.may_leave old) Other c
  behind_or tells c (inl was) = inl (first.stops tells c was)
  behind_or tells c (inr added) = inr (within tells c added)

  behind_left : g.tells → (image : Image) (told : List ℕ) → LeftAs (Or (g.may_leave mid) One) (g.shape mid) (g.printed mid) image told → LeftAs (Or (g.may_leave old) Other) (g.shape old) (g.printed old) image told
  behind_left tells image told left = record {
    left = record {
      contents = left.left.contents;
      stands = left.left.stands;
      pages = left.left.pages ∙ ap (λ (shape : FileShape). shape.pages) first.keeps.same_shape;
      fanout = left.left.fanout ∙ ap (λ (shape : FileShape). shape.fanout) first.keeps.same_shape;
      may_be = behind_or tells left.left.contents left.left.may_be;
    };
    silent = left.silent ∙ first.keeps.silent;
  }

  behind_moment : g.tells → (t : ℕ) (image : Image) (told : List ℕ) → t ≤ g.clock old → g.left_since mid t image told ⊎ LeftAs (Or (g.may_leave mid) One) (g.shape mid) (g.printed mid) image told
      → g.left_since old t image told ⊎ LeftAs (Or (g.may_leave old) Other) (g.shape old) (g.printed old) image told
  behind_moment tells t image told before (inl was) =
      wider_moment (g.left_since old t image told) (g.may_leave old) (Or (g.may_leave old) Other) (g.shape old) (g.printed old) image told (λ c h. inl h) ((first.time tells).moments t image told before was)
  behind_moment tells t image told before (inr left) = inr (behind_left tells image told left)

  pub behind_done : {U : Type 0} (y : ⊤) (z : U) → MakesWith FailsOnPages g One mid new (Ok y) → MakesBy g.tells g.shape g.printed g.may_leave g.clock g.left_since g.disk_faults g.print_faults g.usable {T = U} {E = Fault} FailsOrLacks Other old new (Ok z)
  behind_done y z makes = record {
    keeps = record {
      same_shape = makes.keeps.same_shape ∙ first.keeps.same_shape;
      silent = makes.keeps.silent ∙ first.keeps.silent;
      printer = makes.keeps.printer ∙ first.keeps.printer;
      later = let steady = first.keeps.goes_on.steady in let later = makes.keeps.later in omega (arith, steady, later);
      goes_on = record { steady = makes.keeps.goes_on.steady ∙ first.keeps.goes_on.steady; can = makes.keeps.goes_on.can };
      cause = tt;
    };
    stops = λ tells c can. behind_or tells c (makes.stops tells c can);
    time = λ tells. record {
      onward = let a = (first.time tells).onward in let b = (makes.time tells).onward in omega (arith, a, b);
      moments = λ t image told before had. behind_moment tells t image told before ((makes.time tells).moments t image told (let a = (first.time tells).onward in omega (arith, a, before)) had);
    };
  }

  pub behind_failed : {U : Type 0} (e : StoreFault) → MakesBy g.tells g.shape g.printed g.may_leave g.clock g.left_since g.disk_faults g.print_faults g.usable {T = ⊤} {E = StoreFault} FailsOnPages One mid new (Err e)
      → MakesBy g.tells g.shape g.printed g.may_leave g.clock g.left_since g.disk_faults g.print_faults g.usable {T = U} {E = Fault} FailsOrLacks Other old new (Err (Store e))
  behind_failed e makes = record {
    keeps = record {
      same_shape = makes.keeps.same_shape ∙ first.keeps.same_shape;
      silent = makes.keeps.silent ∙ first.keeps.silent;
      printer = makes.keeps.printer ∙ first.keeps.printer;
      later = let steady = first.keeps.goes_on.steady in let later = makes.keeps.later in omega (arith, steady, later);
      goes_on = tt;
      cause = subst (λ (n : ℕ). FailsOnPages n (g.disk_faults new) (g.usable new) e) first.keeps.goes_on.steady makes.keeps.cause;
    };
    stops = λ tells c can. behind_or tells c (makes.stops tells c can);
    time = λ tells. record {
      onward = let a = (first.time tells).onward in let b = (makes.time tells).onward in omega (arith, a, b);
      moments = λ t image told before had. behind_moment tells t image told before ((makes.time tells).moments t image told (let a = (first.time tells).onward in omega (arith, a, before)) had);
    };
  }

-- ---- with a call behind it that adds nothing

module _ {S : Type 0} (g : Ghosts S) (One : Contents → Type 0) (old mid new : S) (made : MakesWith {T = ⊤} FailsOnPages g One old mid (Ok tt)) where
  then_left : g.tells → (image : Image) (told : List ℕ) → ((c : Contents) → g.may_leave mid c → Or (g.may_leave old) One c) → LeftAs (g.may_leave mid) (g.shape mid) (g.printed mid) image told → LeftAs (Or (g.may_leave old) One) (g.shape old) (g.printed old) image told
  then_left tells image told within left = record {
    left = record {
      contents = left.left.contents;
      stands = left.left.stands;
      pages = left.left.pages ∙ ap (λ (shape : FileShape). shape.pages) made.keeps.same_shape;
      fanout = left.left.fanout ∙ ap (λ (shape : FileShape). shape.fanout) made.keeps.same_shape;
      may_be = within left.left.contents left.left.may_be;
    };
    silent = left.silent ∙ made.keeps.silent;
  }

  then_moment : g.tells → (t : ℕ) (image : Image) (told : List ℕ) → t ≤ g.clock old → g.left_since mid t image told ⊎ LeftAs (g.may_leave mid) (g.shape mid) (g.printed mid) image told
      → g.left_since old t image told ⊎ LeftAs (Or (g.may_leave old) One) (g.shape old) (g.printed old) image told
  then_moment tells t image told before (inl was) = (made.time tells).moments t image told before was
  then_moment tells t image told before (inr left) = inr (then_left tells image told (made.stops tells) left)

  pub makes_then : {T : Type 0} (result : Result T StoreFault) → ContinuesWith {T = T} FailsOnPages g mid new result → MakesWith {T = T} FailsOnPages g One old new result
  makes_then (Ok x) steps = record {
    keeps = record {
      same_shape = steps.keeps.same_shape ∙ made.keeps.same_shape;
      silent = steps.keeps.silent ∙ made.keeps.silent;
      printer = steps.keeps.printer ∙ made.keeps.printer;
      later = let steady = made.keeps.goes_on.steady in let later = steps.keeps.later in omega (arith, steady, later);
      goes_on = record { steady = steps.keeps.goes_on.steady ∙ made.keeps.goes_on.steady; can = steps.keeps.goes_on.can };
      cause = tt;
    };
    stops = λ tells c can. made.stops tells c (steps.stops tells c can);
    time = λ tells. record {
      onward = let a = (made.time tells).onward in let b = (steps.time tells).onward in omega (arith, a, b);
      moments = λ t image told before had. then_moment tells t image told before ((steps.time tells).moments t image told (let a = (made.time tells).onward in omega (arith, a, before)) had);
    };
  }
  makes_then (Err e) steps = record {
    keeps = record {
      same_shape = steps.keeps.same_shape ∙ made.keeps.same_shape;
      silent = steps.keeps.silent ∙ made.keeps.silent;
      printer = steps.keeps.printer ∙ made.keeps.printer;
      later = let steady = made.keeps.goes_on.steady in let later = steps.keeps.later in omega (arith, steady, later);
      goes_on = tt;
      cause = subst (λ (n : ℕ). FailsOnPages n (g.disk_faults new) (g.usable new) e) made.keeps.goes_on.steady steps.keeps.cause;
    };
    stops = λ tells c can. made.stops tells c (steps.stops tells c can);
    time = λ tells. record {
      onward = let a = (made.time tells).onward in let b = (steps.time tells).onward in omega (arith, a, b);
      moments = λ t image told before had. then_moment tells t image told before ((steps.time tells).moments t image told (let a = (made.time tells).onward in omega (arith, a, before)) had);
    };
  }
