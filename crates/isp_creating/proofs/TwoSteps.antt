-- Two calls that continue are one that does.
use Rattle.std.proofs.Common.{ℕ, List, ◌∙◌, ap, inl, inr, arith}
use Rattle.std.specs.Prelude.{◌⊎◌, Ok}
use Rattle.isp_disk.specs.Moments.{Image}
use Rattle.isp_page.specs.Calls.{Continues}
use Rattle.isp_page.specs.State.{FileShape}
use Rattle.isp_page.specs.Steps.{LeftAs}
use Rattle.isp_page.specs.declared.pages.Pages.{Ghosts}

module _ {S : Type 0} (g : Ghosts S) (old mid new : S) where
  module _ {T U V : Type 0} (x : T) (y : U) (z : V) (first : Continues {T = T} g old mid (Ok x)) (second : Continues {T = U} g mid new (Ok y)) where
    left_before : g.tells → (image : Image) (told : List ℕ) → LeftAs (g.may_leave mid) (g.shape mid) (g.printed mid) image told → LeftAs (g.may_leave old) (g.shape old) (g.printed old) image told
    left_before tells image told left = record {
      left = record {
        contents = left.left.contents;
        stands = left.left.stands;
        pages = left.left.pages ∙ ap (λ (shape : FileShape). shape.pages) first.keeps.same_shape;
        fanout = left.left.fanout ∙ ap (λ (shape : FileShape). shape.fanout) first.keeps.same_shape;
        may_be = first.stops tells left.left.contents left.left.may_be;
      };
      silent = left.silent ∙ first.keeps.silent;
    }

    moment_before : (tells : g.tells) (was : Type 0) (image : Image) (told : List ℕ) (there : Type 0) → (there → was ⊎ LeftAs (g.may_leave old) (g.shape old) (g.printed old) image told) → there ⊎ LeftAs (g.may_leave mid) (g.shape mid) (g.printed mid) image told
        → was ⊎ LeftAs (g.may_leave old) (g.shape old) (g.printed old) image told
    moment_before tells was image told there back (inl is) = back is
    moment_before tells was image told there back (inr left) = inr (left_before tells image told left)

    pub two_steps : Continues {T = V} g old new (Ok z)
    two_steps = record {
      keeps = record {
        same_shape = second.keeps.same_shape ∙ first.keeps.same_shape;
        silent = second.keeps.silent ∙ first.keeps.silent;
        printer = second.keeps.printer ∙ first.keeps.printer;
        later = let a = first.keeps.later in let b = second.keeps.later in omega (arith, a, b);
        goes_on = record { steady = second.keeps.goes_on.steady ∙ first.keeps.goes_on.steady; can = second.keeps.goes_on.can };
        cause = tt;
      };
      stops = λ tells contents can. first.stops tells contents (second.stops tells contents can);
      time = λ tells.
          let on = (first.time tells).onward in
          let on_more = (second.time tells).onward in
          record {
            onward = omega (arith, on, on_more);
            moments = λ t image told before had.
                moment_before tells (g.left_since old t image told) image told (g.left_since mid t image told) (λ there. (first.time tells).moments t image told before there)
                ((second.time tells).moments t image told (omega (arith, before, on)) had);
          };
    }
