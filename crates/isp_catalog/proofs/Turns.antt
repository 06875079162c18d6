-- One turn more of a loop over a store of pages.
use Rattle.std.proofs.Common.{◌≡◌, ℕ, List, sym, ◌∙◌, ap, subst, inl, inr, arith}
use Rattle.std.specs.Prelude.{◌⊎◌, Result, Ok, Err, ⊤}
use Rattle.isp_disk.specs.Moments.{Image}
use Rattle.isp_format.specs.Ranges.{Contents}
use Rattle.isp_page.specs.Calls.{ContinuesOrLacks}
use Rattle.isp_page.specs.State.{FileShape}
use Rattle.isp_page.specs.Steps.{LeftAs}
use Rattle.isp_page.specs.declared.fault.Fault.{Fault}
use Rattle.isp_page.specs.declared.fault.Fault.TheVariants.{Memory}
use Rattle.isp_page.specs.declared.pages.Pages.{Ghosts}

-- how a loop's turns so far ended
abbrev pub so_far : Result ⊤ Fault
so_far = Ok tt

-- what is left after a call is left before it
left_before : (may later : Contents → Type 0) (shape after : FileShape) (told now : List ℕ) (image : Image) (said : List ℕ) → ((c : Contents) → later c → may c) → after ≡ shape → now ≡ told → LeftAs later after now image said → LeftAs may shape told image said
left_before may later shape after told now image said within same silent left = record {
  left = record {
    contents = left.left.contents;
    stands = left.left.stands;
    pages = left.left.pages ∙ ap (λ (s : FileShape). s.pages) same;
    fanout = left.left.fanout ∙ ap (λ (s : FileShape). s.fanout) same;
    may_be = within left.left.contents left.left.may_be;
  };
  silent = left.silent ∙ silent;
}

moment_before : (was mid : Type 0) (may later : Contents → Type 0) (shape after : FileShape) (told now : List ℕ) (image : Image) (said : List ℕ) → ((c : Contents) → later c → may c) → after ≡ shape → now ≡ told
    → (mid → was ⊎ LeftAs may shape told image said) → mid ⊎ LeftAs later after now image said → was ⊎ LeftAs may shape told image said
moment_before was mid may later shape after told now image said within same silent back (inl there) = back there
moment_before was mid may later shape after told now image said within same silent back (inr left) = inr (left_before may later shape after told now image said within same silent left)

module _ {S : Type 0} (g : Ghosts S) where
  -- turns that continue, and one that does
  pub one_more : {T : Type 0} (old mid new : S) (x : T) → ContinuesOrLacks {T = ⊤} g old mid so_far → ContinuesOrLacks {T = T} g mid new (Ok x) → ContinuesOrLacks {T = ⊤} g old new so_far
  one_more old mid new x first second =
      let a = first.keeps.later in
      let b = second.keeps.later in
      record {
        keeps = record {
          same_shape = second.keeps.same_shape ∙ first.keeps.same_shape;
          silent = second.keeps.silent ∙ first.keeps.silent;
          printer = second.keeps.printer ∙ first.keeps.printer;
          later = omega (arith, a, b);
          goes_on = record { steady = second.keeps.goes_on.steady ∙ first.keeps.goes_on.steady; can = second.keeps.goes_on.can };
          cause = tt;
        };
        stops = λ tells contents can. first.stops tells contents (second.stops tells contents can);
        time = λ tells.
            let on_a = (first.time tells).onward in
            let on_b = (second.time tells).onward in
            record {
              onward = omega (arith, on_a, on_b);
              moments = λ t image said before had.
                  moment_before (g.left_since old t image said) (g.left_since mid t image said) (g.may_leave old) (g.may_leave mid) (g.shape old) (g.shape mid) (g.printed old) (g.printed mid) image said (first.stops tells) first.keeps.same_shape first.keeps.silent
                  (λ there. (first.time tells).moments t image said before there)
                  ((second.time tells).moments t image said (omega (arith, before, on_a)) had);
            };
      }

  -- turns that continue, and then memory is wanting
  pub lacking : {T : Type 0} (old new : S) (result : Result T Fault) (e : Fault) → result ≡ Err e → e ≡ Memory → ContinuesOrLacks {T = ⊤} g old new so_far → ContinuesOrLacks {T = T} g old new result
  lacking {T = T} old new result e is same before =
      let lacks : ContinuesOrLacks {T = T} g old new (Err Memory) = record {
        keeps = record {
          same_shape = before.keeps.same_shape;
          silent = before.keeps.silent;
          printer = before.keeps.printer;
          later = before.keeps.later;
          goes_on = tt;
          cause = before.keeps.goes_on;
        };
        stops = before.stops;
        time = before.time;
      } in
      subst (λ (r : Result T Fault). ContinuesOrLacks {T = T} g old new r) (sym (is ∙ ap (λ (f : Fault). Err f) same)) lacks
