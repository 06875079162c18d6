-- Changed pages, as lists and as tests; changes one behind another.
use Rattle.std.proofs.Common.{◌≡◌, ℕ, ◌≤◌, ◌==◌, ◌||◌, Bool, true, false, List, [], ◌∷◌, ◌++◌, length, refl, sym, ◌∙◌, ap, subst, arith}
use Rattle.isp_format.specs.Ranges.{Contents, page_of}
use Rattle.isp_page.proofs.GrowthLaws.{grows_on}
use Rattle.isp_page.specs.State.{MiniTransaction, is_among}
use Rattle.isp_page.specs.Touched.{Grows, KeepsPages, is_page}
use Rattle.isp_page.specs.declared.pages.Pages.{Ghosts}
use Rattle.isp_space.specs.Changes.{ChangesBy, ChangesOf}

three : (a b c : Bool) → (a || (b || c)) ≡ ((a || b) || c)
three true b c = refl
three false b c = refl

among_append : (page : ℕ) (xs ys : List ℕ) → is_among page (xs ++ ys) ≡ (is_among page xs || is_among page ys)
among_append page [] ys = refl
among_append page (x ∷ xs) ys = ap (λ b. (x == page) || b) (among_append page xs ys) ∙ three (x == page) (is_among page xs) (is_among page ys)

-- one page kept or changed, as a list and as a test
one_page : (page other : ℕ) → is_among other (page ∷ []) ≡ false → is_page page other ≡ false
one_page page other out = by (page == other) refl out
  where
    by : (b : Bool) → (page == other) ≡ b → (b || false) ≡ false → (other == page) ≡ false
    by true is bad = cc
    by false is out = grind (arith, is)

pub among_one : (page : ℕ) (old new : Contents) → KeepsPages (is_page page) old new → KeepsPages (λ other. is_among other (page ∷ [])) old new
among_one page old new keeps other out = keeps other (one_page page other out)

pub among_two : (page : ℕ) (old new : Contents) → KeepsPages (λ q. is_page 0 q || is_page page q) old new → KeepsPages (λ other. is_among other (0 ∷ page ∷ [])) old new
among_two page old new keeps other out = by (0 == other) refl out
  where
    by : (b : Bool) → (0 == other) ≡ b → (b || is_among other (page ∷ [])) ≡ false → page_of new other ≡ page_of old other
    by true is bad = cc
    by false is out =
        let not_0 : (other == 0) ≡ false = grind (arith, is) in
        keeps other (ap (λ (b : Bool). b || is_page page other) not_0 ∙ one_page page other out)

-- changes behind calls that read
pub behind_read : {S : Type 0} (g : Ghosts S) (list : List ℕ) (most : ℕ) (old mid new : S) → (g.tells → g.contents mid ≡ g.contents old) → g.mini mid ≡ g.mini old → length list ≤ most → ChangesOf g list mid new → ChangesBy g most old new
behind_read g list most old mid new contents mini few changes = record {
  list = list;
  few = few;
  changes = record {
    grows = subst (λ (m : MiniTransaction). Grows list m (g.mini new)) mini changes.grows;
    others = λ tells. subst (λ (c : Contents). KeepsPages (λ page. is_among page list) c (g.contents new)) (contents tells) (changes.others tells);
  };
}

-- changes one behind another
pub changes_on : {S : Type 0} (g : Ghosts S) (first second : List ℕ) (old mid new : S) → ChangesOf g first old mid → ChangesOf g second mid new → ChangesOf g (first ++ second) old new
changes_on g first second old mid new one two = record {
  grows = grows_on first second (g.mini old) (g.mini mid) (g.mini new) one.grows two.grows;
  others = λ tells page out. two.others tells page (out_of second page (is_among page first) (sym (among_append page first second) ∙ out)) ∙ one.others tells page (first_out (is_among page first) (is_among page second) (sym (among_append page first second) ∙ out));
}
  where
    out_of : (second : List ℕ) (page : ℕ) (b : Bool) → (b || is_among page second) ≡ false → is_among page second ≡ false
    out_of second page true bad = cc
    out_of second page false out = out

    first_out : (a b : Bool) → (a || b) ≡ false → a ≡ false
    first_out true b bad = cc
    first_out false b out = refl

pub changes_two : {S : Type 0} (g : Ghosts S) (page : ℕ) (old new : S) → Grows (0 ∷ page ∷ []) (g.mini old) (g.mini new) → (g.tells → KeepsPages (λ q. is_page 0 q || is_page page q) (g.contents old) (g.contents new)) → ChangesOf g (0 ∷ page ∷ []) old new
changes_two g page old new grows others = record { grows = grows; others = λ tells. among_two page (g.contents old) (g.contents new) (others tells) }
